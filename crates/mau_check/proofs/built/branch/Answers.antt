use Rattle.std.proofs.Common.{get_or, sym, ◌∙◌, arith}
use Rattle.mau_reduce.specs.BuiltOperators.{constant_tree}
use Rattle.mau_check.specs.declared.kept.Holes.TheVariants.{Absent}
use Rattle.mau_check.specs.Kept.{IsKeptFor}
use Rattle.mau_check.proofs.Numbers.{zip_length}
use Rattle.mau_check.proofs.Overs.{kept_at_place}
use Rattle.mau_check.proofs.Tells.{kept_over}
use Rattle.std.proofs.lemmas.List.{length-map}
use Rattle.mau_terms.specs.Norm.{norm}
use Rattle.mau_signature.specs.Signature.{theory_at}
use Rattle.mau_check.proofs.BuiltOf.{no_zero, not_three, gives_none, first_chosen, second_chosen, none_chosen}
use Rattle.mau_check.proofs.built.branch.Goals as goal

pub is_constant-requires-clause-there : goal.is_constant-requires-clause-there
is_constant-requires-clause-there c =
    (kept_at_place c.args.sig.now c.args.store.now c.args.values.now c.requires.0 0 (record { id = record { 0 = 0 }; kind = 0; holes = Absent }) c.requires.1 (omega (arith, c.if-values-ne3.false))).2.there

pub is_constant-requires-clause-some : goal.is_constant-requires-clause-some
is_constant-requires-clause-some c e =
    let g = kept_at_place c.args.sig.now c.args.store.now c.args.values.now c.requires.0 0 (record { id = record { 0 = 0 }; kind = 0; holes = Absent }) c.requires.1 (omega (arith, c.if-values-ne3.false)) in
    no_zero c.args.sig.now _ (kept_over c.args.sig.now c.operators.ensures.lawful c.args.store.now (get_or c.args.values.now 0 (record { id = record { 0 = 0 }; kind = 0; holes = Absent })) g.0 g.2) e

pub is_constant-requires-2-clause-there : goal.is_constant-requires-2-clause-there
is_constant-requires-2-clause-there c =
    (kept_at_place c.args.sig.now c.args.store.now c.args.values.now c.requires.0 0 (record { id = record { 0 = 0 }; kind = 0; holes = Absent }) c.requires.1 (omega (arith, c.if-values-ne3.false))).2.there

pub is_constant-requires-2-clause-some : goal.is_constant-requires-2-clause-some
is_constant-requires-2-clause-some c e =
    let g = kept_at_place c.args.sig.now c.args.store.now c.args.values.now c.requires.0 0 (record { id = record { 0 = 0 }; kind = 0; holes = Absent }) c.requires.1 (omega (arith, c.if-values-ne3.false)) in
    no_zero c.args.sig.now _ (kept_over c.args.sig.now c.operators.ensures.lawful c.args.store.now (get_or c.args.values.now 0 (record { id = record { 0 = 0 }; kind = 0; holes = Absent })) g.0 g.2) e

pub returns-then-values-ne3 : goal.returns-then-values-ne3
returns-then-values-ne3 c h f k ts kept lie =
    gives_none c.args.sig.now c.args.store.now k _
    (not_three (constant_tree c.args.truths.yes) (constant_tree c.args.truths.no) h f _ (λ e. c.if-values-ne3.true (zip_length (IsKeptFor c.args.sig.now c.args.store.now) c.args.values.now ts kept ∙ sym (length-map ts (norm (theory_at c.args.sig.now))) ∙ e)))

pub returns-then-is_constant : goal.returns-then-is_constant
returns-then-is_constant c h f k ts kept lie =
    first_chosen c.args.sig.now c.operators.ensures.lawful c.args.store.now (constant_tree c.args.truths.yes) (constant_tree c.args.truths.no) h f k (record { id = record { 0 = 0 }; kind = 0; holes = Absent }) c.args.values.now ts kept lie c.if-values-ne3.false
    (sym c.is_constant.ensures ∙ c.if-is_constant.true)

pub returns-then-is_constant-2 : goal.returns-then-is_constant-2
returns-then-is_constant-2 c h f k ts kept lie =
    second_chosen c.args.sig.now c.operators.ensures.lawful c.args.store.now (constant_tree c.args.truths.yes) (constant_tree c.args.truths.no) h f k (record { id = record { 0 = 0 }; kind = 0; holes = Absent }) c.args.values.now ts kept lie c.if-values-ne3.false
    (sym c.is_constant.ensures ∙ c.if-is_constant.false) (sym c.is_constant-2.ensures ∙ c.if-is_constant-2.true)

pub returns : goal.returns
returns c h f k ts kept lie =
    gives_none c.args.sig.now c.args.store.now k _
    (none_chosen c.args.sig.now c.operators.ensures.lawful c.args.store.now (constant_tree c.args.truths.yes) (constant_tree c.args.truths.no) h f k (record { id = record { 0 = 0 }; kind = 0; holes = Absent }) c.args.values.now ts kept c.if-values-ne3.false
    (sym c.is_constant.ensures ∙ c.if-is_constant.false) (sym c.is_constant-2.ensures ∙ c.if-is_constant-2.false))
