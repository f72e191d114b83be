use Rattle.std.proofs.Common.{◌≡◌, ◌⊎◌, List, [], ◌∷◌, Bool, true, false, Option, IfSome, inl, inr, refl, sym, subst}
use Rattle.std.specs.Option.{option_map}
use Rattle.mau_terms.specs.Tree.{Tree}
use Rattle.mau_terms.specs.View.{tree_of}
use Rattle.mau_terms.specs.declared.theory.Theory.{Theory}
use Rattle.mau_signature.specs.Signature.{theory_at}
use Rattle.mau_listing.specs.declared.solution.Solution.{Solution}
use Rattle.mau_listing.specs.Matcher.{Matcher}
use Rattle.mau_listing.specs.Question.{IsPart}
use Rattle.mau_listing.specs.Next.{matcher_cmp, IsBehind}
use Rattle.mau_listing.specs.Asked.{question_in, matcher_in, BySort, IsGiven}
use Rattle.mau_trial.specs.Tried.{asked_in}
use Rattle.mau_extend.specs.Widened.{CanBeArgument, HasShape}
use Rattle.mau_extend.specs.Extended.{IsNextOf}
use Rattle.mau_extend.proofs.Falling.{behind_first}
use Rattle.mau_extend.proofs.Growing.{grown}
use Rattle.mau_extend.proofs.Looping.{can_then, here}
use Rattle.mau_extend.proofs.Merging.{merged, some_kept, some_same, some_listed, either}
use Rattle.mau_extend.proofs.next.next_beside.Goals as goal

pub next_of_shape-requires-2-clause-can : goal.next_of_shape-requires-2-clause-can
next_of_shape-requires-2-clause-can g c =
    can_then c.args.sig.now c.args.trial.now c.args.store.now c.next_of_shape.new.store c.args.sorts.now c.next_of_shape.new.sorts c.requires.can c.next_of_shape.ensures.grows

pub returns-in_err-part-clause-grows : goal.returns-in_err-part-clause-grows
returns-in_err-part-clause-grows g c =
    grown c.args.sig.now c.args.store.now c.next_of_shape.new.store c.next_of_shape-2.new.store c.args.sorts.now c.next_of_shape.new.sorts c.next_of_shape-2.new.sorts c.args.trial.now c.requires.can.askable.subject.there c.next_of_shape.ensures.grows c.next_of_shape-2.ensures.grows

pub returns-clause-grows : goal.returns-clause-grows
returns-clause-grows g c =
    grown c.args.sig.now c.args.store.now c.next_of_shape.new.store c.next_of_shape-2.new.store c.args.sorts.now c.next_of_shape.new.sorts c.next_of_shape-2.new.sorts c.args.trial.now c.requires.can.askable.subject.there c.next_of_shape.ensures.grows c.next_of_shape-2.ensures.grows

pub returns-clause-behind : goal.returns-clause-behind
returns-clause-behind g c =
    let s = c.args.sig.now in
    let t = c.args.trial.now in
    let mid = c.next_of_shape.new.store in
    let new = c.next_of_shape-2.new.store in
    let first = c.next_of_shape.ensures.grows in
    let grows = c.next_of_shape-2.ensures.grows in
    let can = can_then s t c.args.store.now mid c.args.sorts.now c.next_of_shape.new.sorts c.requires.can first in
    let Behind : Option Matcher → Type 0 = λ x. IfSome x (IsBehind (matcher_cmp (theory_at s) (tree_of t.pattern)) (option_map (matcher_in c.args.store.now) t.last)) in
    either (λ (o : Option Solution). Behind (option_map (matcher_in new) o)) c.in_ok-whole.whole c.in_ok-part.part c.lesser.result c.lesser.ensures.among
    (subst Behind (sym (some_same s t mid new c.next_of_shape.new.sorts c.next_of_shape-2.new.sorts grows.extends grows.kept can.askable c.in_ok-whole.whole c.in_ok-whole.ensures.given)) c.in_ok-whole.ensures.behind)
    (behind_first s t c.args.store.now mid c.args.sorts.now c.requires.can first.extends new c.in_ok-part.part c.in_ok-part.ensures.behind)

pub lesser-requires-clause-one : goal.lesser-requires-clause-one
lesser-requires-clause-one g c =
    let s = c.args.sig.now in
    let t = c.args.trial.now in
    let mid = c.next_of_shape.new.store in
    let new = c.next_of_shape-2.new.store in
    let can = can_then s t c.args.store.now mid c.args.sorts.now c.next_of_shape.new.sorts c.requires.can c.next_of_shape.ensures.grows in
    let grows = c.next_of_shape-2.ensures.grows in
    some_listed s t c.args.op.0 c.requires.top c.args.places.now c.requires.places new c.next_of_shape-2.new.sorts c.in_ok-whole.whole
    (some_kept s t mid new c.next_of_shape.new.sorts c.next_of_shape-2.new.sorts grows.extends grows.kept can.askable c.in_ok-whole.whole c.in_ok-whole.ensures.given)

pub lesser-requires-clause-other : goal.lesser-requires-clause-other
lesser-requires-clause-other g c =
    some_listed c.args.sig.now c.args.trial.now c.args.op.0 c.requires.top c.args.places.now c.requires.places c.next_of_shape-2.new.store c.next_of_shape-2.new.sorts c.in_ok-part.part c.in_ok-part.ensures.given

pub returns-clause-given : goal.returns-clause-given
returns-clause-given g c =
    let s = c.args.sig.now in
    let t = c.args.trial.now in
    let mid = c.next_of_shape.new.store in
    let new = c.next_of_shape-2.new.store in
    let after = c.next_of_shape-2.new.sorts in
    let can = can_then s t c.args.store.now mid c.args.sorts.now c.next_of_shape.new.sorts c.requires.can c.next_of_shape.ensures.grows in
    let grows = c.next_of_shape-2.ensures.grows in
    either (λ (o : Option Solution). IfSome o (IsGiven true s new after (asked_in t))) c.in_ok-whole.whole c.in_ok-part.part c.lesser.result c.lesser.ensures.among
    (some_kept s t mid new c.next_of_shape.new.sorts after grows.extends grows.kept can.askable c.in_ok-whole.whole c.in_ok-whole.ensures.given) c.in_ok-part.ensures.given

-- each left context stands with a right one or without
sides : (Is : Matcher → Type 0) (h : Bool) (t : Theory) (x : Matcher) → Is x × CanBeArgument h t x.left → (Is x × HasShape h false t x) ⊎ (Is x × HasShape h true t x)
sides Is h t x is = by x.right refl
  where
    by : (r : List Tree) → x.right ≡ r → (Is x × HasShape h false t x) ⊎ (Is x × HasShape h true t x)
    by [] e = inl (is.0, record { left = is.1; right = record { there = λ n. cc; none = λ n. e } })
    by (r ∷ rs) e = inr (is.0, record { left = is.1; right = record { there = λ n d. cc; none = λ n. cc } })

pub returns-clause-next : goal.returns-clause-next
returns-clause-next g c = λ known table.
    let s = c.args.sig.now in
    let t = c.args.trial.now in
    let start = c.args.store.now in
    let mid = c.next_of_shape.new.store in
    let new = c.next_of_shape-2.new.store in
    let h = c.args.left in
    let f = c.args.op.0 in
    let q = question_in start (asked_in t) in
    let last = option_map (matcher_in start) t.last in
    let first = c.next_of_shape.ensures.grows in
    let grows = c.next_of_shape-2.ensures.grows in
    let can = can_then s t start mid c.args.sorts.now c.next_of_shape.new.sorts c.requires.can first in
    let whole = c.in_ok-whole.whole in
    let part = c.in_ok-part.part in
    let same = some_same s t mid new c.next_of_shape.new.sorts c.next_of_shape-2.new.sorts grows.extends grows.kept can.askable whole c.in_ok-whole.ensures.given in
    let n1 : IsNextOf s known q h false f last (option_map (matcher_in new) whole) =
    subst (λ o. IsNextOf s known q h false f last o) (sym same) (c.in_ok-whole.ensures.next known table) in
    let n2 : IsNextOf s known q h true f last (option_map (matcher_in new) part) =
    here s t start mid c.args.sorts.now c.next_of_shape.new.sorts c.requires.can first (λ u l. IsNextOf s known u h true f l (option_map (matcher_in new) part)) (c.in_ok-part.ensures.next known (first.table known table)) in
    merged s c.is_lawful.ensures.lawful known q last
    (λ x. IsPart s (BySort s known) q x × CanBeArgument h (theory_at s f) x.left)
    (λ x. IsPart s (BySort s known) q x × HasShape h false (theory_at s f) x)
    (λ x. IsPart s (BySort s known) q x × HasShape h true (theory_at s f) x)
    (λ x is. sides (IsPart s (BySort s known) q) h (theory_at s f) x is) (λ x is. is.0)
    (option_map (matcher_in new) whole) (option_map (matcher_in new) part) (option_map (matcher_in new) c.lesser.result) n1 n2 (c.lesser.ensures.lesser (tree_of t.pattern) c.requires.places.under)
