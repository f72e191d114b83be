use Rattle.std.proofs.Common.{◌≡◌, List, [], Bool, Option, None, sym, ap, ◌∙◌, subst}
use Rattle.mau_terms.specs.Tree.{Tree}
use Rattle.mau_terms.specs.Bare.{IsBare}
use Rattle.mau_terms.specs.View.{tree_of}
use Rattle.mau_terms.specs.declared.ids.TermId.{TermId}
use Rattle.mau_signature.specs.Signature.{SignatureOf, terms_over}
use Rattle.mau_store.specs.Node.{Node, Extends}
use Rattle.mau_store.specs.Trees.{tree_at}
use Rattle.mau_store.proofs.Standing.{tree_at-extends}
use Rattle.mau_sorts.specs.Table.{Table, AreOver}
use Rattle.mau_listing.specs.declared.solution.Solution.{Solution}
use Rattle.mau_listing.specs.Asked.{Asked, asks, CanGoOn}
use Rattle.mau_api.specs.Meanings.{Meanings}
use Rattle.mau_api.specs.Answers.{AreSettled}
use Rattle.mau_api.specs.Terms.{IsTerm}
use Rattle.mau_api.proofs.Started.{can_start}
use Rattle.mau_reduce.proofs.KindsKept.{is_term_kept}
use Rattle.mau_prove.proofs.memberships.solutions_of.Goals as goal

-- behind the settling of a term, by an evaluator of the same meanings, a listing in it can be asked
started : (w : Bool) (m after : Meanings) (old new : List Node) (table : Table) (s : SignatureOf) (p : Tree) (t : TermId) → after ≡ m → s ≡ m.program.sig → Extends old new →
    IsBare (terms_over s) p → IsTerm s old t.0 → AreSettled m.program.sig new table (tree_at old t.0) → AreOver after.program.sig.hierarchy table → CanGoOn w after.program.sig new table (asks p [] t) None
started w m after old new table s p t e k x bare term settled over =
    let same : s ≡ after.program.sig = k ∙ ap (λ (n : Meanings). n.program.sig) (sym e) in
    can_start w after.program.sig new table p t
    (subst (λ (z : SignatureOf). IsBare (terms_over z) p) same bare)
    (subst (λ (z : SignatureOf). IsTerm z new t.0) same (is_term_kept s old new t.0 x term))
    (subst (λ (n : Meanings). AreSettled n.program.sig new table (tree_at new t.0)) (sym e)
    (subst (λ (u : Tree). AreSettled m.program.sig new table u) (sym (tree_at-extends old new t.0 x term.within.there)) settled)) over

pub settle-requires-clause-term : goal.settle-requires-clause-term
settle-requires-clause-term g c = subst (λ (z : SignatureOf). IsTerm z c.args.store.now c.args.term.0) c.requires.signature c.requires.term

pub first_derived-requires-clause-ready : goal.first_derived-requires-clause-ready
first_derived-requires-clause-ready g c =
    let w = g.L.Lister.with_context in
    let m = g.E.Evaluator.meanings c.args.evaluator.now in
    let after = g.E.Evaluator.meanings c.settle.new.self in
    let nodes = c.settle.new.store in
    let table = g.E.Evaluator.table c.settle.new.self in
    let start = started w m after c.args.store.now nodes table c.args.sig.now (tree_of c.args.pattern.now) c.args.term c.settle.ensures.meanings c.requires.signature c.settle.ensures.extends c.requires.pattern
    c.requires.term c.in-Ok.ensures.settled (g.met.E.Evaluator.derived c.settle.new.self nodes c.settle.ensures.fits).over in
    subst (λ (o : Option Solution). CanGoOn w after.program.sig nodes table (g.L.Lister.asked c.in_ok-listing.listing) o) (sym c.in_ok-listing.ensures.given)
    (subst (λ (a : Asked). CanGoOn w after.program.sig nodes table a None) (sym c.in_ok-listing.ensures.asked) start)
