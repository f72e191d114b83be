use Rattle.std.proofs.Common.{◌≡◌, sym, subst}
use Rattle.mau_terms.specs.View.{tree_of}
use Rattle.mau_signature.specs.Signature.{theory_at}
use Rattle.mau_store.specs.Trees.{tree_at}
use Rattle.mau_domains.specs.Parts.{IsOf}
use Rattle.mau_domains.specs.Stored.{part_in}
use Rattle.mau_match.proofs.Adding.{part_stays}
use Rattle.mau_match.proofs.Refusing.{never_known}
use Rattle.mau_match.proofs.may_match.may_be_known.Goals as goal

pub returns-in-Ok-clause-refused : goal.returns-in-Ok-clause-refused
returns-in-Ok-clause-refused c = λ r.
    let s = c.args.sig.now in
    let th = theory_at s in
    let old = c.args.store.now in
    let new = c.build_known.new.store in
    let v = tree_at new c.in-Ok.value.0 in
    let same : part_in new c.args.part.now ≡ part_in old c.args.part.now = part_stays s old new c.build_known.ensures.extends c.args.part.now c.requires.part in
    never_known s old c.args.given.now (tree_of c.args.pattern.now) (part_in old c.args.part.now) c.requires.bound v c.in-Ok.ensures.ok (λ o. c.may_be.ensures r th (subst (λ q. IsOf th q v) (sym same) o))
