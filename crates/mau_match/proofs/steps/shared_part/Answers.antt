use Rattle.std.proofs.Common.{List, All, Contains, subst, sym}
use Rattle.mau_terms.specs.declared.ids.TermId.{TermId}
use Rattle.mau_signature.specs.Signature.{theory_at}
use Rattle.mau_store.specs.View.{numbers}
use Rattle.mau_canon.specs.Standing.{StandWithin}
use Rattle.mau_canon.proofs.Standing.{stand_among}
use Rattle.mau_match.proofs.steps.shared_part.Goals as goal

pub returns-in-Some-clause-within : goal.returns-in-Some-clause-within
returns-in-Some-clause-within c =
    let th = theory_at c.args.sig.now in
    let new = c.without_known.new.store in
    let items = c.in_ok-items-in-Some.items.items in (
      c.requires.operator,
      c.requires.assoc,
      subst (λ ids. StandWithin th new (numbers ids)) (sym c.new.ensures)
          (stand_among th new items c.in-Some.left.items (subst (λ (l : List TermId). All (Contains l) items) c.deref-in-Some.ensures.value c.in_ok-items-in-Some.ensures.among) (rw c.in-Some.is at c.in_ok-left.ensures.within)),
    )
