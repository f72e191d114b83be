use Rattle.std.proofs.Common.{◌≡◌, List, [], true, false, Option, None, Some, IfSome, IsSome, refl, sym, ap, subst}
use Rattle.std.specs.Option.{option_map}
use Rattle.mau_terms.specs.View.{tree_of}
use Rattle.mau_terms.specs.declared.ids.TermId.{TermId}
use Rattle.mau_store.specs.Node.{Node}
use Rattle.mau_store.specs.Trees.{trees_at}
use Rattle.mau_store.specs.View.{numbers}
use Rattle.mau_signature.specs.Signature.{theory_at}
use Rattle.mau_listing.specs.declared.solution.Solution.{Solution}
use Rattle.mau_listing.specs.Matcher.{Matcher}
use Rattle.mau_listing.specs.Question.{IsPart, IsSolution}
use Rattle.mau_listing.specs.Next.{matcher_cmp, IsBehind, IsNext}
use Rattle.mau_listing.specs.Asked.{question_in, matcher_in, BySort, IsGiven}
use Rattle.mau_trial.specs.Tried.{asked_in}
use Rattle.mau_extend.specs.Widened.{CanBeArgument}
use Rattle.mau_extend.specs.Extended.{IsNextBeside}
use Rattle.mau_extend.proofs.Covering.{as_next, by_beginning, fronts}
use Rattle.mau_extend.proofs.Falling.{behind_first}
use Rattle.mau_extend.proofs.Growing.{grown}
use Rattle.mau_extend.proofs.Looping.{can_then, here}
use Rattle.mau_extend.proofs.Merging.{merged, some_kept, some_same, some_listed, either}
use Rattle.mau_extend.proofs.next.next_apart.Goals as goal

pub next_beside-requires-2-clause-can : goal.next_beside-requires-2-clause-can
next_beside-requires-2-clause-can g c =
    can_then c.args.sig.now c.args.trial.now c.args.store.now c.next_beside.new.store c.args.sorts.now c.next_beside.new.sorts c.requires.can c.next_beside.ensures.grows

pub returns-in_err-second-clause-grows : goal.returns-in_err-second-clause-grows
returns-in_err-second-clause-grows g c =
    grown c.args.sig.now c.args.store.now c.next_beside.new.store c.next_beside-2.new.store c.args.sorts.now c.next_beside.new.sorts c.next_beside-2.new.sorts c.args.trial.now c.requires.can.askable.subject.there c.next_beside.ensures.grows c.next_beside-2.ensures.grows

pub returns-clause-grows : goal.returns-clause-grows
returns-clause-grows g c =
    grown c.args.sig.now c.args.store.now c.next_beside.new.store c.next_beside-2.new.store c.args.sorts.now c.next_beside.new.sorts c.next_beside-2.new.sorts c.args.trial.now c.requires.can.askable.subject.there c.next_beside.ensures.grows c.next_beside-2.ensures.grows

pub returns-clause-behind : goal.returns-clause-behind
returns-clause-behind g c =
    let s = c.args.sig.now in
    let t = c.args.trial.now in
    let mid = c.next_beside.new.store in
    let new = c.next_beside-2.new.store in
    let first = c.next_beside.ensures.grows in
    let grows = c.next_beside-2.ensures.grows in
    let can = can_then s t c.args.store.now mid c.args.sorts.now c.next_beside.new.sorts c.requires.can first in
    let Behind : Option Matcher → Type 0 = λ x. IfSome x (IsBehind (matcher_cmp (theory_at s) (tree_of t.pattern)) (option_map (matcher_in c.args.store.now) t.last)) in
    either (λ (o : Option Solution). Behind (option_map (matcher_in new) o)) c.in_ok-first.first c.in_ok-second.second c.lesser.result c.lesser.ensures.among
    (subst Behind (sym (some_same s t mid new c.next_beside.new.sorts c.next_beside-2.new.sorts grows.extends grows.kept can.askable c.in_ok-first.first c.in_ok-first.ensures.given)) c.in_ok-first.ensures.behind)
    (behind_first s t c.args.store.now mid c.args.sorts.now c.requires.can first.extends new c.in_ok-second.second c.in_ok-second.ensures.behind)

pub lesser-requires-clause-one : goal.lesser-requires-clause-one
lesser-requires-clause-one g c =
    let s = c.args.sig.now in
    let t = c.args.trial.now in
    let mid = c.next_beside.new.store in
    let new = c.next_beside-2.new.store in
    let can = can_then s t c.args.store.now mid c.args.sorts.now c.next_beside.new.sorts c.requires.can c.next_beside.ensures.grows in
    let grows = c.next_beside-2.ensures.grows in
    some_listed s t c.args.op.0 c.requires.top c.args.places.now c.requires.places new c.next_beside-2.new.sorts c.in_ok-first.first
    (some_kept s t mid new c.next_beside.new.sorts c.next_beside-2.new.sorts grows.extends grows.kept can.askable c.in_ok-first.first c.in_ok-first.ensures.given)

pub lesser-requires-clause-other : goal.lesser-requires-clause-other
lesser-requires-clause-other g c =
    some_listed c.args.sig.now c.args.trial.now c.args.op.0 c.requires.top c.args.places.now c.requires.places c.next_beside-2.new.store c.next_beside-2.new.sorts c.in_ok-second.second c.in_ok-second.ensures.given

pub returns-clause-given : goal.returns-clause-given
returns-clause-given g c =
    let s = c.args.sig.now in
    let t = c.args.trial.now in
    let mid = c.next_beside.new.store in
    let new = c.next_beside-2.new.store in
    let after = c.next_beside-2.new.sorts in
    let can = can_then s t c.args.store.now mid c.args.sorts.now c.next_beside.new.sorts c.requires.can c.next_beside.ensures.grows in
    let grows = c.next_beside-2.ensures.grows in
    either (λ (o : Option Solution). IfSome o (IsGiven true s new after (asked_in t))) c.in_ok-first.first c.in_ok-second.second c.lesser.result c.lesser.ensures.among
    (some_kept s t mid new c.next_beside.new.sorts after grows.extends grows.kept can.askable c.in_ok-first.first c.in_ok-first.ensures.given) c.in_ok-second.ensures.given

beginning : (nodes : List Node) (o : Option Solution) → IsSome o → IfSome o (λ x. x.left ≡ []) → (x : Solution) × (o ≡ Some x) × ((matcher_in nodes x).left ≡ [])
beginning nodes None some e = cc
beginning nodes (Some x) some e = (x, refl, ap (λ (ids : List TermId). trees_at nodes (numbers ids)) e)

pub returns-then-begins-clause-next : goal.returns-then-begins-clause-next
returns-then-begins-clause-next g c = λ known table.
    let s = c.args.sig.now in
    let t = c.args.trial.now in
    let old = c.args.store.now in
    let new = c.next_beside.new.store in
    let f = c.args.op.0 in
    let q = question_in old (asked_in t) in
    let last = option_map (matcher_in old) t.last in
    let is = c.begins.ensures c.if-begins.true in
    let one = beginning new c.in_ok-first.first is.0 is.1 in
    subst (λ (o : Option Solution). IsNext (IsSolution true s (BySort s known) q) (matcher_cmp (theory_at s) (tree_of t.pattern)) last (option_map (matcher_in new) o)) (sym one.1)
    (by_beginning s known q last f c.requires.top (matcher_in new one.0) one.2
    (subst (λ (o : Option Solution). IsNextBeside s known q false f last (option_map (matcher_in new) o)) one.1 (c.in_ok-first.ensures.next known table)))

pub returns-clause-next : goal.returns-clause-next
returns-clause-next g c = λ known table.
    let s = c.args.sig.now in
    let t = c.args.trial.now in
    let start = c.args.store.now in
    let mid = c.next_beside.new.store in
    let new = c.next_beside-2.new.store in
    let f = c.args.op.0 in
    let q = question_in start (asked_in t) in
    let last = option_map (matcher_in start) t.last in
    let before = c.next_beside.ensures.grows in
    let grows = c.next_beside-2.ensures.grows in
    let can = can_then s t start mid c.args.sorts.now c.next_beside.new.sorts c.requires.can before in
    let first = c.in_ok-first.first in
    let second = c.in_ok-second.second in
    let same = some_same s t mid new c.next_beside.new.sorts c.next_beside-2.new.sorts grows.extends grows.kept can.askable first c.in_ok-first.ensures.given in
    let n1 : IsNextBeside s known q false f last (option_map (matcher_in new) first) =
    subst (λ o. IsNextBeside s known q false f last o) (sym same) (c.in_ok-first.ensures.next known table) in
    let n2 : IsNextBeside s known q true f last (option_map (matcher_in new) second) =
    here s t start mid c.args.sorts.now c.next_beside.new.sorts c.requires.can before (λ u l. IsNextBeside s known u true f l (option_map (matcher_in new) second)) (c.in_ok-second.ensures.next known (before.table known table)) in
    as_next s known q last f c.requires.top (option_map (matcher_in new) c.lesser.result)
    (merged s c.is_lawful.ensures.lawful known q last (IsPart s (BySort s known) q)
    (λ x. IsPart s (BySort s known) q x × CanBeArgument false (theory_at s f) x.left)
    (λ x. IsPart s (BySort s known) q x × CanBeArgument true (theory_at s f) x.left)
    (λ x is. fronts s known q last f c.requires.top x is) (λ x is. is)
    (option_map (matcher_in new) first) (option_map (matcher_in new) second) (option_map (matcher_in new) c.lesser.result) n1 n2 (c.lesser.ensures.lesser (tree_of t.pattern) c.requires.places.under))
