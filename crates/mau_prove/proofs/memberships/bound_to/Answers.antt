use Rattle.std.proofs.Common.{◌≡◌, ◌+◌, ◌++◌, ◌∷◌, [], List, map, take, get_or, refl, sym, ap, ◌∙◌, subst, arith}
use Rattle.std.specs.Prelude.{All}
use Rattle.std.proofs.lemmas.List.{take_all, take_more, map-append}
use Rattle.std.proofs.lemmas.List.Elements.{All-push}
use Rattle.mau_terms.specs.declared.ids.VarId.{VarId}
use Rattle.mau_terms.specs.declared.ids.TermId.{TermId}
use Rattle.mau_api.specs.Answers.{IsValueOf}
use Rattle.mau_prove.proofs.memberships.bound_to.Goals as goal

pub loop-i-preserved : goal.loop-i-preserved
loop-i-preserved c =
    let v = get_or c.args.variables.now c.loop-i.i (record { index = 0; sort = 0 }) in
    let id = get_or c.args.values.now c.loop-i.i (record { 0 = 0 }) in
    let found = c.loop-i.found.items in
    let items = c.in_ok-push.ensures.items in
    record {
      variables =
          ap (map (λ (b : VarId × TermId). b.0)) items
          ∙ map-append (λ (b : VarId × TermId). b.0) found ((v, id) ∷ [])
          ∙ ap (λ zs. zs ++ v ∷ []) c.loop-i.invariant.variables
          ∙ sym (take_more c.args.variables.now c.loop-i.i (record { index = 0; sort = 0 }) c.loop-i-test.true);
      values = λ nodes h.
          subst (All (IsValueOf c.args.sig.now nodes c.args.table.now)) (sym items)
          (All-push (IsValueOf c.args.sig.now nodes c.args.table.now) found (v, id) (c.loop-i.invariant.values nodes h) (c.if-not-is_value.ensures nodes h refl));
    }

pub returns-clause-variables : goal.returns-clause-variables
returns-clause-variables c = c.loop-i.invariant.variables ∙ take_all c.loop-i.i c.args.variables.now c.loop-i-test.false
