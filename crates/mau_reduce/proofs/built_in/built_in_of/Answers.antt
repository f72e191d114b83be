use Rattle.std.proofs.Common.{◌≡◌, Some, IfOk, sym, ap, ◌∙◌, subst}
use Rattle.mau_signature.specs.Signature.{attributes_of}
use Rattle.mau_api.specs.BuiltIns.{name_at, built_in_by}
use Rattle.mau_reduce.specs.BuiltOperators.{meaning_of}
use Rattle.mau_reduce.proofs.BuiltTables.{first_attributes}
use Rattle.mau_reduce.proofs.built_in.built_in_of.Goals as goal

pub returns-in-Some-builtin : goal.returns-in-Some-builtin
returns-in-Some-builtin c = λ hooks.
    let name : Some c.as_str.result.now ≡ name_at c.args.sig.now c.args.op.0 =
    ap Some c.as_str.ensures ∙ (sym c.in-Some-builtin.is ∙ sym (ap (λ ds. (attributes_of ds).builtin) (sym c.declarations.ensures.value) ∙ ap (λ a. a.builtin) (first_attributes c.declarations.result.now c.in-Some.decl.now c.in-Some.ensures.value))) in
    subst (λ o. IfOk c.built_in_named.result (λ b. built_in_by c.args.sig.now hooks c.args.op.0 o ≡ meaning_of hooks o b)) name (c.built_in_named.ensures hooks)
