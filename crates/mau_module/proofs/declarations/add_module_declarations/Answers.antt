use Rattle.std.proofs.Common.{◌<◌, ℕ, length, get_or, arith, sym, ap, subst, ◌∙◌}
use Rattle.std.specs.Prelude.{All}
use mathlib.Core.Path.{fun_ext}
use Rattle.std.proofs.lemmas.List.Elements.{All-push}
use Rattle.mau_signature.specs.Faults.{HasSorts}
use Rattle.mau_renumber.specs.Carried.{declaration_to}
use Rattle.mau_module.specs.Included.{number_from}
use Rattle.mau_declare.proofs.Counting.{added_more}
use Rattle.mau_module.proofs.Carries.{has_sorts_to}
use Rattle.mau_module.proofs.declarations.add_module_declarations.Goals as goal

pub loop-decl-preserved : goal.loop-decl-preserved
loop-decl-preserved c =
    let l : c.loop-decl.decl-index < length c.own_declarations-decl-items.result.now = omega arith in
    let numbers = fun_ext (λ a. ap (λ xs. get_or xs a 0) c.deref.ensures.value ∙ c.in_ok-table.ensures.each a) in
    let value = c.in_ok-declaration_to.ensures.value ∙ ap (λ (f : ℕ → ℕ). declaration_to f c.decl-item.result) numbers in
    record {
      decls = added_more (declaration_to (number_from c.args.«module».now c.args.names.now c.args.poset.now)) c.own_declarations-decl-items.result.now c.loop-decl.decl-index c.decl-item.result c.args.decls.now.items c.loop-decl.decls.items c.push.new.self.items c.in_ok-declaration_to.field-0 l
          c.loop-decl.invariant.decls c.in_ok-push.ensures.items (value ∙ ap (declaration_to (number_from c.args.«module».now c.args.names.now c.args.poset.now)) c.decl-item.is);
      sorts = λ old. subst (All (HasSorts c.args.poset.now)) (sym c.in_ok-push.ensures.items) (All-push (HasSorts c.args.poset.now) c.loop-decl.decls.items c.in_ok-declaration_to.field-0 (c.loop-decl.invariant.sorts old)
          (has_sorts_to c.args.«module».now.signature.hierarchy c.args.poset.now c.in_ok-table.table.items c.in_ok-table.ensures.len c.in_ok-table.ensures.sorts c.decl-item.result c.in_ok-declaration_to.field-0
          (subst (HasSorts c.args.«module».now.signature.hierarchy) (sym c.decl-item.is) (c.own_declarations-decl-items.ensures.sorts c.loop-decl.decl-index c.decl-item.result l))
          (c.in_ok-declaration_to.ensures.value ∙ ap (λ xs. declaration_to (λ a. get_or xs a 0) c.decl-item.result) c.deref.ensures.value)));
    }
