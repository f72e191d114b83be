use Rattle.std.proofs.Common.{Bool, Option, false, sym, subst}
use Rattle.std.specs.Option.{option_map}
use Rattle.mau_terms.specs.View.{tree_of}
use Rattle.mau_signature.specs.Signature.{theory_at}
use Rattle.mau_listing.specs.declared.solution.Solution.{Solution}
use Rattle.mau_listing.specs.Question.{IsSolution}
use Rattle.mau_listing.specs.Next.{matcher_cmp, IsNext}
use Rattle.mau_listing.specs.Asked.{Asked, question_in, matcher_in, BySort, CanGoOn}
use Rattle.mau_trial.specs.Tried.{asked_in}
use Rattle.mau_extend.proofs.Falling.{falls_alone}
use Rattle.mau_extend.proofs.Wholly.{whole_next, whole_can}
use Rattle.mau_extend.proofs.next.next_whole.Goals as goal

pub next-requires-clause-ready : goal.next-requires-clause-ready
next-requires-clause-ready g c =
    let s = c.args.sig.now in
    let t = c.args.trial.now in
    let listing = c.in_ok-listing.listing in
    let can = whole_can s c.args.store.now c.args.sorts.now (asked_in t) c.requires.top t.last c.requires.can in
    subst (λ (b : Bool). CanGoOn b s c.args.store.now c.args.sorts.now (g.L.Lister.asked listing) (g.L.Lister.given listing)) (sym c.requires.plain)
    (subst (λ (a : Asked). CanGoOn false s c.args.store.now c.args.sorts.now a (g.L.Lister.given listing)) (sym c.in_ok-listing.ensures.asked)
    (subst (λ (o : Option Solution). CanGoOn false s c.args.store.now c.args.sorts.now (asked_in t) o) (sym c.in_ok-listing.ensures.given) can))

pub returns-clause-next : goal.returns-clause-next
returns-clause-next g c = λ known table.
    let s = c.args.sig.now in
    let t = c.args.trial.now in
    let old = c.args.store.now in
    let listing = c.in_ok-listing.listing in
    let q = question_in old (asked_in t) in
    let answer = option_map (matcher_in c.next.new.store) c.in_ok-found.found in
    whole_next s (BySort s known) q c.requires.top (matcher_cmp (theory_at s) (tree_of t.pattern)) (option_map (matcher_in old) t.last) answer
    (subst (λ (o : Option Solution). IsNext (IsSolution false s (BySort s known) q) (matcher_cmp (theory_at s) (tree_of t.pattern)) (option_map (matcher_in old) o) answer) c.in_ok-listing.ensures.given
    (subst (λ (b : Bool). IsNext (IsSolution b s (BySort s known) q) (matcher_cmp (theory_at s) (tree_of t.pattern)) (option_map (matcher_in old) (g.L.Lister.given listing)) answer) c.requires.plain
    (subst (λ (a : Asked). IsNext (IsSolution g.L.Lister.with_context s (BySort s known) (question_in old a)) (matcher_cmp (theory_at s) a.pattern) (option_map (matcher_in old) (g.L.Lister.given listing)) answer) c.in_ok-listing.ensures.asked
    (c.in_ok-found.ensures.next known table))))

pub returns-clause-falls : goal.returns-clause-falls
returns-clause-falls g c =
    let listing = c.in_ok-listing.listing in
    falls_alone c.args.sig.now c.args.store.now c.next.new.store (g.L.Lister.asked listing) (g.L.Lister.asked c.next.new.self) (asked_in c.args.trial.now) (g.L.Lister.given listing) (g.L.Lister.given c.next.new.self) c.args.trial.now.last c.in_ok-found.found
    c.next.ensures.asked c.in_ok-listing.ensures.asked c.in_ok-listing.ensures.given c.in_ok-found.ensures.given c.in_ok-found.ensures.falls
