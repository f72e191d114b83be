use Rattle.std.proofs.Common.{◌≡◌, Option, None, Some, sym, ap, subst}
use Rattle.std.specs.Option.{option_map}
use Rattle.std.proofs.lemmas.Result.{IfOk-weaker}
use Rattle.mau_terms.proofs.Outcomes.{IfOk-then}
use Rattle.mau_listing.specs.declared.solution.Solution.{Solution}
use Rattle.mau_listing.specs.Asked.{question_in, matcher_in}
use Rattle.mau_trial.specs.Tried.{asked_in}
use Rattle.mau_extend.specs.declared.start.Start.{Start}
use Rattle.mau_extend.specs.Extended.{IsAheadOf, IsNextShaped, IsNextOf, IsStartOf}
use Rattle.mau_extend.proofs.Falling.{behind_first}
use Rattle.mau_extend.proofs.Growing.{grown}
use Rattle.mau_extend.proofs.Looping.{can_then, here, there, of_shape}
use Rattle.mau_extend.proofs.next.next_of_shape.Goals as goal

pub start_of-requires-clause-shape : goal.start_of-requires-clause-shape
start_of-requires-clause-shape g c = c.in_ok-shape.ensures.shape c.args.store.now

pub first_accepted-requires-clause-shape : goal.first_accepted-requires-clause-shape
first_accepted-requires-clause-shape g c = c.in_ok-shape.ensures.shape c.start_of.new.store

pub first_accepted-requires-clause-can : goal.first_accepted-requires-clause-can
first_accepted-requires-clause-can g c = can_then c.args.sig.now c.args.trial.now c.args.store.now c.start_of.new.store c.args.sorts.now c.start_of.new.sorts c.requires.can c.start_of.ensures.grows

pub first_accepted-requires-in-Behind-clause-shape : goal.first_accepted-requires-in-Behind-clause-shape
first_accepted-requires-in-Behind-clause-shape g c = c.in_ok-shape.ensures.shape c.start_of.new.store

pub first_accepted-requires-in-Behind-clause-can : goal.first_accepted-requires-in-Behind-clause-can
first_accepted-requires-in-Behind-clause-can g c = can_then c.args.sig.now c.args.trial.now c.args.store.now c.start_of.new.store c.args.sorts.now c.start_of.new.sorts c.requires.can c.start_of.ensures.grows

pub returns-in-Nowhere-clause-next : goal.returns-in-Nowhere-clause-next
returns-in-Nowhere-clause-next g c = λ known table.
    let s = c.args.sig.now in
    let q = question_in c.args.store.now (asked_in c.args.trial.now) in
    let w = c.in_ok-shape.shape in
    let e = c.in_ok-shape.ensures.same in
    let last = option_map (matcher_in c.args.store.now) c.args.trial.now.last in
    of_shape s known q w c.args.left c.args.right c.args.op e.0 e.1 e.2 last None
    (subst (λ (x : Start). IsStartOf s known q w last c.start_of.new.store x) c.in-Nowhere.is (c.in_ok-start_of.ensures.start known table))

pub returns-in-First-clause-next : goal.returns-in-First-clause-next
returns-in-First-clause-next g c = λ known table.
    let s = c.args.sig.now in
    let t = c.args.trial.now in
    let start = c.args.store.now in
    let mid = c.start_of.new.store in
    let new = c.first_accepted.new.store in
    let q = question_in start (asked_in t) in
    let w = c.in_ok-shape.shape in
    let e = c.in_ok-shape.ensures.same in
    let last = option_map (matcher_in start) t.last in
    let grows = c.start_of.ensures.grows in
    let given : option_map (matcher_in mid) (g.L.Lister.given c.in_ok-listing-in-First.listing) ≡ None = ap (option_map (matcher_in mid)) c.in_ok-listing-in-First.ensures.given in
    let ahead = subst (λ (x : Start). IsStartOf s known q w last mid x) c.in-First.is (c.in_ok-start_of.ensures.start known table) in
    let ahead_there = subst (λ o. IsAheadOf s known (question_in mid (asked_in t)) w (option_map (matcher_in mid) t.last) o) (sym given)
    (there s t start mid c.args.sorts.now c.start_of.new.sorts c.requires.can grows (λ u l. IsAheadOf s known u w l None) ahead) in
    IfOk-then (λ (o : Option Solution). IsNextShaped s known (question_in mid (asked_in t)) w (option_map (matcher_in mid) t.last) (option_map (matcher_in new) o)) (λ (o : Option Solution). IsNextOf s known q c.args.left c.args.right c.args.op.0 last (option_map (matcher_in new) o))
    (λ o next. of_shape s known q w c.args.left c.args.right c.args.op e.0 e.1 e.2 last (option_map (matcher_in new) o)
    (here s t start mid c.args.sorts.now c.start_of.new.sorts c.requires.can grows (λ u l. IsNextShaped s known u w l (option_map (matcher_in new) o)) next))
    c.first_accepted.result (c.first_accepted.ensures.next known (grows.table known table) ahead_there)

pub returns-clause-next : goal.returns-clause-next
returns-clause-next g c = λ known table.
    let s = c.args.sig.now in
    let t = c.args.trial.now in
    let start = c.args.store.now in
    let mid = c.start_of.new.store in
    let new = c.first_accepted-in-Behind.new.store in
    let q = question_in start (asked_in t) in
    let w = c.in_ok-shape.shape in
    let e = c.in_ok-shape.ensures.same in
    let last = option_map (matcher_in start) t.last in
    let grows = c.start_of.ensures.grows in
    let point = c.in-Behind.point in
    let given : option_map (matcher_in mid) (g.L.Lister.given c.in_ok-listing-in-Behind.listing) ≡ Some (matcher_in mid point) = ap (option_map (matcher_in mid)) c.in_ok-listing-in-Behind.ensures.given in
    let ahead = subst (λ (x : Start). IsStartOf s known q w last mid x) c.in-Behind.is (c.in_ok-start_of.ensures.start known table) in
    let ahead_there = subst (λ o. IsAheadOf s known (question_in mid (asked_in t)) w (option_map (matcher_in mid) t.last) o) (sym given)
    (there s t start mid c.args.sorts.now c.start_of.new.sorts c.requires.can grows (λ u l. IsAheadOf s known u w l (Some (matcher_in mid point))) ahead) in
    IfOk-then (λ (o : Option Solution). IsNextShaped s known (question_in mid (asked_in t)) w (option_map (matcher_in mid) t.last) (option_map (matcher_in new) o)) (λ (o : Option Solution). IsNextOf s known q c.args.left c.args.right c.args.op.0 last (option_map (matcher_in new) o))
    (λ o next. of_shape s known q w c.args.left c.args.right c.args.op e.0 e.1 e.2 last (option_map (matcher_in new) o)
    (here s t start mid c.args.sorts.now c.start_of.new.sorts c.requires.can grows (λ u l. IsNextShaped s known u w l (option_map (matcher_in new) o)) next))
    c.first_accepted-in-Behind.result (c.first_accepted-in-Behind.ensures.next known (grows.table known table) ahead_there)

pub returns-in-First-clause-behind : goal.returns-in-First-clause-behind
returns-in-First-clause-behind g c =
    IfOk-weaker c.first_accepted.result _ _
    (λ o. behind_first c.args.sig.now c.args.trial.now c.args.store.now c.start_of.new.store c.args.sorts.now c.requires.can c.start_of.ensures.grows.extends c.first_accepted.new.store o)
    c.first_accepted.ensures.behind

pub returns-clause-behind : goal.returns-clause-behind
returns-clause-behind g c =
    IfOk-weaker c.first_accepted-in-Behind.result _ _
    (λ o. behind_first c.args.sig.now c.args.trial.now c.args.store.now c.start_of.new.store c.args.sorts.now c.requires.can c.start_of.ensures.grows.extends c.first_accepted-in-Behind.new.store o)
    c.first_accepted-in-Behind.ensures.behind

pub returns-in-First-clause-grows : goal.returns-in-First-clause-grows
returns-in-First-clause-grows g c =
    grown c.args.sig.now c.args.store.now c.start_of.new.store c.first_accepted.new.store c.args.sorts.now c.start_of.new.sorts c.first_accepted.new.sorts c.args.trial.now c.requires.can.askable.subject.there c.start_of.ensures.grows c.first_accepted.ensures.grows

pub returns-clause-grows : goal.returns-clause-grows
returns-clause-grows g c =
    grown c.args.sig.now c.args.store.now c.start_of.new.store c.first_accepted-in-Behind.new.store c.args.sorts.now c.start_of.new.sorts c.first_accepted-in-Behind.new.sorts c.args.trial.now c.requires.can.askable.subject.there c.start_of.ensures.grows c.first_accepted-in-Behind.ensures.grows
