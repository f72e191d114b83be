use Rattle.std.proofs.Common.{◌≡◌, ◌==◌, [], ◌∷◌, true, if◌then◌else◌, sym, ◌∙◌, subst}
use Rattle.mau_terms.specs.Finite.{IsIn}
use Rattle.mau_signature.specs.Signature.{theory_at}
use Rattle.mau_store.specs.Trees.{trees_at}
use Rattle.mau_store.specs.View.{numbers}
use Rattle.mau_domains.specs.Parts.{some_of}
use Rattle.mau_domains.specs.Stored.{part_in, reach_of}
use Rattle.mau_match.specs.Parts.{apart_from}
use Rattle.mau_match.proofs.may_match.may_fold.Goals as goal

pub returns-in-One : goal.returns-in-One
returns-in-One c = λ r nodes q i h e. subst (λ p. IsIn q (apart_from (theory_at c.args.sig.now) c.args.op.0 (part_in nodes p))) c.in-One.is h

pub returns-then-eq : goal.returns-then-eq
returns-then-eq c = λ r nodes q i h e.
    let th = theory_at c.args.sig.now in
    let same : (c.args.op.0 == c.in-ListOf.top.0) ≡ true = sym c.eq.ensures ∙ c.if-eq.true in
    let k : IsIn q (if c.args.op.0 == c.in-ListOf.top.0 then [] else some_of (reach_of c.in-ListOf.field-0) c.in-ListOf.top.0 (trees_at nodes (numbers c.in-ListOf.field-2)) ∷ []) =
    subst (λ p. IsIn q (apart_from th c.args.op.0 (part_in nodes p))) c.in-ListOf.is h in
    subst (λ b. IsIn q (if b then [] else some_of (reach_of c.in-ListOf.field-0) c.in-ListOf.top.0 (trees_at nodes (numbers c.in-ListOf.field-2)) ∷ [])) same k
