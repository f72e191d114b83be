use Rattle.mau_signature.specs.Signature.{theory_at}
use Rattle.mau_store.specs.View.{numbers}
use Rattle.mau_canon.specs.Standing.{StandsWithin}
use Rattle.mau_terms.proofs.Outcomes.{IfOk-then}
use Rattle.mau_domains.proofs.Adding.{IfSome-then, all_of_part}
use Rattle.mau_domains.proofs.long.next_long.Goals as goal

pub returns-in-Inside-clause-stand : goal.returns-in-Inside-clause-stand
returns-in-Inside-clause-stand c =
    IfOk-then _ _
    (λ list h. IfSome-then _ _ (λ v i. all_of_part (StandsWithin (theory_at c.args.sig.now) c.args.store.now) (numbers v.items) (numbers c.args.items.now) i c.requires.items) list h)
    c.next_long_part.result c.next_long_part.ensures.part
