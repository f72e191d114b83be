use Rattle.std.proofs.Common.{◌≡◌, List, [], Bool, Option, None, map, sym, ap, ◌∙◌, subst}
use Rattle.std.specs.Option.{option_map}
use Rattle.mau_terms.specs.Tree.{Tree}
use Rattle.mau_terms.specs.Bare.{IsBare}
use Rattle.mau_terms.specs.View.{tree_of}
use Rattle.mau_terms.specs.declared.ids.TermId.{TermId}
use Rattle.mau_signature.specs.Signature.{SignatureOf, theory_at, terms_over}
use Rattle.mau_store.specs.Node.{Node}
use Rattle.mau_store.specs.Trees.{tree_at}
use Rattle.mau_store.proofs.Standing.{tree_at-extends}
use Rattle.mau_sorts.specs.Table.{Table, AreOver}
use Rattle.mau_listing.specs.declared.solution.Solution.{Solution}
use Rattle.mau_listing.specs.Question.{Question, IsSolution}
use Rattle.mau_listing.specs.Next.{matcher_cmp, AreFirst}
use Rattle.mau_listing.specs.Asked.{Asked, asks, question_in, matcher_in, IsTableOf, BySort, CanGoOn}
use Rattle.mau_listing.proofs.Growth.{question_same}
use Rattle.mau_api.specs.Meanings.{Meanings}
use Rattle.mau_api.specs.Answers.{GivesUnder, levels_of_item, AreSettled}
use Rattle.mau_api.specs.Terms.{IsTerm}
use Rattle.mau_api.proofs.Started.{can_start}
use Rattle.mau_api.proofs.first.solutions_in_value.Goals as goal

-- after an evaluation, whose evaluator goes by the same meanings, a listing of a pattern in the value can be asked
started : (w : Bool) (m after : Meanings) (nodes : List Node) (table : Table) (s : SignatureOf) (p : Tree) (v : TermId) → m ≡ after → s ≡ m.program.sig →
    IsBare (terms_over s) p → IsTerm m.program.sig nodes v.0 → AreSettled m.program.sig nodes table (tree_at nodes v.0) → AreOver after.program.sig.hierarchy table →
    CanGoOn w after.program.sig nodes table (asks p [] v) None
started w m after nodes table s p v e k bare term settled over =
    can_start w after.program.sig nodes table p v
    (subst (λ (z : SignatureOf). IsBare (terms_over z) p) (k ∙ ap (λ (n : Meanings). n.program.sig) e) bare)
    (subst (λ (n : Meanings). IsTerm n.program.sig nodes v.0) e term)
    (subst (λ (n : Meanings). AreSettled n.program.sig nodes table (tree_at nodes v.0)) e settled) over

pub first_derived-requires-clause-ready : goal.first_derived-requires-clause-ready
first_derived-requires-clause-ready g c =
    let w = g.L.Lister.with_context in
    let m = g.E.Evaluator.meanings c.args.evaluator.now in
    let after = g.E.Evaluator.meanings c.evaluate.new.self in
    let nodes = c.evaluate.new.store in
    let table = g.E.Evaluator.table c.evaluate.new.self in
    let v = c.in_ok-value.value.term in
    let start = started w m after nodes table c.args.sig.now (tree_of c.args.pattern.now) v (sym c.evaluate.ensures.meanings) c.requires.signature c.requires.pattern
    c.in_ok-value.ensures.term c.in_ok-value.ensures.settled (g.met.E.Evaluator.derived c.evaluate.new.self nodes c.evaluate.ensures.fits).over in
    subst (λ (o : Option Solution). CanGoOn w after.program.sig nodes table (g.L.Lister.asked c.in_ok-listing.listing) o) (sym c.in_ok-listing.ensures.given)
    (subst (λ (a : Asked). CanGoOn w after.program.sig nodes table a None) (sym c.in_ok-listing.ensures.asked) start)

pub returns-clause-value : goal.returns-clause-value
returns-clause-value g c =
    let m = g.E.Evaluator.meanings c.args.evaluator.now in
    let v = c.in_ok-value.value.term in
    let a = c.in_ok-value.ensures.allowed in (
      a.0,
      subst (λ t. GivesUnder (λ k B. m.evaluation k B (tree_at c.args.store.now c.args.term.0)) levels_of_item m.limit c.args.budget.now t a.0)
          (sym (tree_at-extends c.evaluate.new.store c.first_derived.new.store v.0 c.first_derived.ensures.extends c.in_ok-value.ensures.term.within.there)) a.1,
    )

pub returns-clause-first : goal.returns-clause-first
returns-clause-first g c =
    let m = g.E.Evaluator.meanings c.args.evaluator.now in
    let w = g.L.Lister.with_context in
    let after = g.E.Evaluator.meanings c.evaluate.new.self in
    let nodes = c.evaluate.new.store in
    let new = c.first_derived.new.store in
    let table = g.E.Evaluator.table c.evaluate.new.self in
    let v = c.in_ok-value.value.term in
    let a = asks (tree_of c.args.pattern.now) [] v in
    let d = g.met.E.Evaluator.derived c.evaluate.new.self nodes c.evaluate.ensures.fits in
    let first = c.in_ok-first.ensures.first d.known d.declared in
    let start = started w m after nodes table c.args.sig.now (tree_of c.args.pattern.now) v (sym c.evaluate.ensures.meanings) c.requires.signature c.requires.pattern
    c.in_ok-value.ensures.term c.in_ok-value.ensures.settled d.over in
    let one = subst (λ (b : Asked). AreFirst (IsSolution w after.program.sig (BySort after.program.sig d.known) (question_in nodes b)) (matcher_cmp (theory_at after.program.sig) b.pattern)
    (option_map (matcher_in nodes) (g.L.Lister.given c.in_ok-listing.listing)) (map (matcher_in new) c.in_ok-first.first.solutions.items) c.in_ok-first.first.more) c.in_ok-listing.ensures.asked first in
    let two = subst (λ (o : Option Solution). AreFirst (IsSolution w after.program.sig (BySort after.program.sig d.known) (question_in nodes a)) (matcher_cmp (theory_at after.program.sig) a.pattern)
    (option_map (matcher_in nodes) o) (map (matcher_in new) c.in_ok-first.first.solutions.items) c.in_ok-first.first.more) c.in_ok-listing.ensures.given one in
    let three = subst (λ (q : Question). AreFirst (IsSolution w after.program.sig (BySort after.program.sig d.known) q) (matcher_cmp (theory_at after.program.sig) a.pattern)
    None (map (matcher_in new) c.in_ok-first.first.solutions.items) c.in_ok-first.first.more) (sym (question_same nodes new c.first_derived.ensures.extends after.program.sig a start.askable)) two in
    let e : after.program.sig ≡ c.args.sig.now = ap (λ (n : Meanings). n.program.sig) c.evaluate.ensures.meanings ∙ sym c.requires.signature in (
      d.known,
      subst (λ s. IsTableOf s d.known new (g.E.Evaluator.table c.first_derived.new.evaluator)) e (c.first_derived.ensures.table d.known d.declared),
      subst (λ s. AreFirst (IsSolution w s (BySort s d.known) (question_in new a)) (matcher_cmp (theory_at s) a.pattern) None (map (matcher_in new) c.in_ok-first.first.solutions.items) c.in_ok-first.first.more) e three,
    )
