-- The loop over the solutions of a widened pattern.
use Rattle.std.proofs.Common.{◌≡◌, ◌≤◌, ◌+◌, ◌⊎◌, ℕ, List, [], ◌∷◌, length, map, suc, Bool, true, false, if◌then◌else◌, All, Contains, Option, None, Some, IfSome, inl, inr, refl, sym, ◌∙◌, ap, subst}
use Rattle.std.specs.Option.{option_map}
use Rattle.mau_terms.specs.Tree.{Tree, apply}
use Rattle.mau_terms.specs.Norm.{norm}
use Rattle.mau_terms.specs.Bare.{IsBareIn, IsLawful}
use Rattle.mau_terms.specs.Reading.{reading}
use Rattle.mau_terms.specs.Subst.{Variable, variables}
use Rattle.mau_terms.specs.Solution.{FitsUnder, FitsAt, assoc_top}
use Rattle.mau_terms.specs.View.{tree_of, variable_of}
use Rattle.mau_terms.specs.declared.ids.TermId.{TermId}
use Rattle.mau_terms.specs.declared.ids.OpId.{OpId}
use Rattle.mau_terms.specs.declared.theory.Theory.{Theory}
use Rattle.mau_poset.specs.Order.{kind_of}
use Rattle.mau_signature.specs.Signature.{SignatureOf, theory_at, terms_over}
use Rattle.mau_store.specs.Node.{Node, Extends}
use Rattle.mau_store.specs.Trees.{tree_at}
use Rattle.mau_store.specs.View.{numbers}
use Rattle.mau_store.proofs.Standing.{tree_at-extends}
use Rattle.mau_canon.specs.Standing.{StandWithin}
use Rattle.mau_canon.proofs.Standing.{stand_among, stand_within_extended}
use Rattle.mau_terms.proofs.Solutions.{length-map}
use Rattle.mau_sorts.specs.HasSort.{Known}
use Rattle.mau_sorts.specs.Table.{Table, IsSettled}
use Rattle.mau_listing.specs.declared.solution.Solution.{Solution}
use Rattle.mau_listing.specs.declared.places.Place.{Place}
use Rattle.mau_listing.specs.Question.{Question, IsSolution}
use Rattle.mau_listing.specs.Matcher.{Matcher}
use Rattle.mau_listing.specs.Next.{matcher_cmp, IsBehind, IsNext}
use Rattle.mau_listing.specs.Asked.{Asked, question_in, matcher_in, IsAskable, HasPlainTop, HasEntry, IsTableOf, BySort, IsGiven, CanBeLast, CanGoOn}
use Rattle.mau_listing.proofs.Growth.{question_same, last_found_same, listings_go_on, trees_long}
use Rattle.mau_listing.specs.Places.{variables_in}
use Rattle.mau_trial.specs.Tried.{asked_in, ArePlacesOf}
use Rattle.mau_trial.proofs.Among.{numbers_among}
use Rattle.mau_trial.specs.declared.tried.Trial.{Trial}
use Rattle.mau_match.specs.Searched.{Grows}
use Rattle.mau_extend.specs.declared.shape.Shape.{Shape}
use Rattle.mau_extend.specs.Widened.{around, as_term, IsFresh, IsWide}
use Rattle.mau_extend.specs.Extended.{IsShapeOf, IsAheadOf, IsNextShaped, IsNextOf, IsAccepted, IsRefused, shaped, shaped_asked}
use Rattle.mau_extend.proofs.Widened.{lacks, variables_widened}
use Rattle.mau_extend.proofs.OfKind.{top_is, top_operator, top_assoc, pattern_bare, widened_bare}
use Rattle.mau_extend.proofs.Ends.{room_around, has_ends}
use Rattle.mau_extend.proofs.OneNarrowed.{around_long_back, narrow_solves}
use Rattle.mau_extend.proofs.Accepted.{none_left, accepted, skipped}

-- a variable that stands for a context is a bare term of the kind
fresh_bare : (s : SignatureOf) (q : Question) (n : ℕ) (x : Variable) → IsFresh s q n x → IsBareIn (terms_over s) (as_term x) n
fresh_bare s q n x is = (is.small, is.sort, is.kind)

pub named_long : (ps : List Place) → length (map variable_of (variables_in ps)) ≡ length ps
named_long [] = refl
named_long (p ∷ ps) = ap suc (named_long ps)

no_plain_top : (th : ℕ → Theory) (f : ℕ) (t : Tree) → assoc_top th t ≡ Some f → HasPlainTop th t → ⊥
no_plain_top th f t e plain =
    let is = top_is th f t e in
    let own : HasPlainTop th (apply f is.0) = subst (HasPlainTop th) is.1 plain in
    let never = own.0 in
    let ever = is.2 in
    cc

module _ (s : SignatureOf) (lawful : IsLawful (terms_over s)) (t : Trial) (w : Shape) where
  abbrev a : Asked
  a = asked_in t

  abbrev wide : Asked
  wide = shaped_asked w (asked_in t)

  -- what can be asked can be asked of the widened pattern
  pub wide_can : (nodes : List Node) (table : Table) → IsShapeOf s (question_in nodes (asked_in t)) w → CanGoOn true s nodes table (asked_in t) t.last → (o : Option Solution) → IfSome o (CanBeLast false s nodes table (shaped_asked w (asked_in t)))
      → CanGoOn false s nodes table (shaped_asked w (asked_in t)) o
  wide_can nodes table shape can o given =
      let q = question_in nodes (asked_in t) in
      let n = (terms_over s).result w.op.0 in
      let assoc = top_assoc (terms_over s) lawful w.op.0 q.pattern shape.can.pattern shape.can.top in
      let has = top_operator (terms_over s) lawful w.op.0 q.pattern shape.can.pattern shape.can.top in
      record {
        askable = record {
          pattern = (
            n,
            widened_bare (terms_over s) lawful w.op.0 assoc has w.left w.right (as_term (variable_of w.first)) q.pattern (as_term (variable_of w.last))
                (λ e. fresh_bare s q n (variable_of w.first) shape.can.first)
                (pattern_bare (terms_over s) lawful w.op.0 q.pattern shape.can.pattern shape.can.top)
                (λ e. fresh_bare s q n (variable_of w.last) shape.can.last),
          );
          bound = can.askable.bound;
          subject = can.askable.subject;
          bare = can.askable.bare;
        };
        settled = record {
          identities = can.settled.identities;
          below = can.settled.below;
          subject = by can.settled.subject (no_plain_top (theory_at s) w.op.0 (norm (theory_at s) q.pattern) shape.can.top);
        };
        over = can.over;
        given = given;
      }
    where
      by : {A B C : Type 0} → A ⊎ B → (B → ⊥) → A ⊎ C
      by (inl x) never = inl x
      by (inr y) never = absurd (never y)

  shape_there : (old new : List Node) → Extends old new → IsAskable s old (asked_in t) → IsShapeOf s (question_in old (asked_in t)) w → IsShapeOf s (question_in new (asked_in t)) w
  shape_there old new extends askable shape = subst (λ q. IsShapeOf s q w) (sym (question_same old new extends s (asked_in t) askable)) shape

  -- the values of a solution of the widened pattern stand around values for the pattern
  pub wide_values : (nodes : List Node) (table : Table) (ps : List Place) → ArePlacesOf s (tree_of t.pattern) ps → IsShapeOf s (question_in nodes (asked_in t)) w → (y : Solution) → CanBeLast false s nodes table (shaped_asked w (asked_in t)) y
      → (l r : TermId) × (vs : List TermId) × (y.values ≡ around w.left w.right l vs r) × (length vs ≡ length ps)
  wide_values nodes table ps places shape y is =
      let p = (question_in nodes (asked_in t)).pattern in
      let names = variables_widened w.op.0 (variable_of w.first) (variable_of w.last) p (lacks p (variable_of w.first) shape.can.first.free) shape.can.last.free shape.can.apart w.left w.right in
      let each : length y.values ≡ length (around w.left w.right (variable_of w.first) (variables p) (variable_of w.last)) = is.one_each ∙ ap (λ xs. length xs) names in
      let room = room_around w.left w.right (variable_of w.first) (variables p) (variable_of w.last) in
      let ends = has_ends w.left w.right y.values (record { 0 = 0 }) (subst (λ n. (if w.left then 1 else 0) + (if w.right then 1 else 0) ≤ n) (sym each) room) in (
        ends.0,
        ends.1,
        ends.2,
        ends.3,
        around_long_back w.left w.right ends.0 ends.2 ends.1 (variable_of w.first) (variables p) (variable_of w.last) (ap (λ (us : List TermId). length us) (sym ends.3) ∙ each)
            ∙ sym (ap (λ xs. length xs) places.variables) ∙ named_long ps,
      )

  module _ (start : List Node) (before : Table) (can : CanGoOn true s start before (asked_in t) t.last) (shape : IsShapeOf s (question_in start (asked_in t)) w) where
    abbrev q : Question
    q = question_in start (asked_in t)

    module _ (now : List Node) (table : Table) (grows : Grows s (tree_at start t.subject.0) start now before table) where
      can_now : CanGoOn true s now table (asked_in t) t.last
      can_now = listings_go_on true s start now before table grows.extends grows.kept grows.over (asked_in t) t.last can

      pub shape_now : IsShapeOf s (question_in now (asked_in t)) w
      shape_now = shape_there start now grows.extends can.askable shape

      pub ready : (o : Option Solution) → IfSome o (CanBeLast false s now table (shaped_asked w (asked_in t))) → CanGoOn false s now table (shaped_asked w (asked_in t)) o
      ready o given = wide_can now table shape_now can_now o given

      same_wide : question_in now (shaped_asked w (asked_in t)) ≡ question_in start (shaped_asked w (asked_in t))
      same_wide = question_same start now grows.extends s (shaped_asked w (asked_in t)) (wide_can start before shape can None tt).askable

      last_now : option_map (matcher_in now) t.last ≡ option_map (matcher_in start) t.last
      last_now = last_found_same start now grows.extends s true before (asked_in t) t.last can.given

      subject_now : tree_at now t.subject.0 ≡ tree_at start t.subject.0
      subject_now = tree_at-extends start now t.subject.0 grows.extends can.askable.subject.there

    module _ (kinds : (p : ℕ × ℕ) → s.numerals ≡ Some p → kind_of s.hierarchy p.0 ≡ kind_of s.hierarchy p.1) (known : Known) (is_table : IsTableOf s known start before)
        (now : List Node) (table : Table) (grows : Grows s (tree_at start t.subject.0) start now before table)
        (given : Option Solution) (ahead : IsAheadOf s known (question_in start (asked_in t)) w (option_map (matcher_in start) t.last) (option_map (matcher_in now) given))
        (new : List Node) (answer : Option Solution)
        (next : IsTableOf s known now table → IsNext (IsSolution false s (BySort s known) (question_in now (shaped_asked w (asked_in t)))) (matcher_cmp (theory_at s) (shaped w (asked_in t).pattern)) (option_map (matcher_in now) given) (option_map (matcher_in new) answer)) where
      next_here : IsNext (IsSolution false s (BySort s known) (question_in start (shaped_asked w (asked_in t)))) (matcher_cmp (theory_at s) (shaped w (asked_in t).pattern)) (option_map (matcher_in now) given) (option_map (matcher_in new) answer)
      next_here =
          subst (λ (u : Question). IsNext (IsSolution false s (BySort s known) u) (matcher_cmp (theory_at s) (shaped w (asked_in t).pattern)) (option_map (matcher_in now) given) (option_map (matcher_in new) answer)) (same_wide now table grows)
          (next (grows.table known is_table))

      pub no_more : answer ≡ None → IsNextShaped s known (question_in start (asked_in t)) w (option_map (matcher_in start) t.last) None
      no_more e =
          none_left s lawful kinds known (question_in start (asked_in t)) can.askable.subject.normal can.askable.bare w.left w.right w.op.0 (variable_of w.first) (variable_of w.last) shape.can shape.first_sort shape.last_sort
          (option_map (matcher_in start) t.last) (option_map (matcher_in now) given) ahead
          (subst (λ (o : Option Solution). IsNext (IsSolution false s (BySort s known) (question_in start (shaped_asked w (asked_in t)))) (matcher_cmp (theory_at s) (shaped w (asked_in t).pattern)) (option_map (matcher_in now) given) (option_map (matcher_in new) o)) e next_here)

      module _ (after : Table) (further : Grows s (tree_at start t.subject.0) start new before after) (y : Solution) (e : answer ≡ Some y) where
        next_one : IsNext (IsSolution false s (BySort s known) (question_in start (shaped_asked w (asked_in t)))) (matcher_cmp (theory_at s) (shaped w (asked_in t).pattern)) (option_map (matcher_in now) given) (Some (matcher_in new y))
        next_one = subst (λ (o : Option Solution). IsNext (IsSolution false s (BySort s known) (question_in start (shaped_asked w (asked_in t)))) (matcher_cmp (theory_at s) (shaped w (asked_in t).pattern)) (option_map (matcher_in now) given) (option_map (matcher_in new) o)) e next_here

        pub found_one : (x : Solution) → IsAccepted s new (asked_in t) w t.last y x → IsNextShaped s known (question_in start (asked_in t)) w (option_map (matcher_in start) t.last) (Some (matcher_in new x))
        found_one x is =
            accepted s lawful kinds known (question_in start (asked_in t)) can.askable.subject.normal can.askable.bare w.left w.right w.op.0 (variable_of w.first) (variable_of w.last) shape.can shape.first_sort shape.last_sort
            (option_map (matcher_in start) t.last) (option_map (matcher_in now) given) ahead (matcher_in new y) (matcher_in new x) next_one is.narrowed
            (subst (λ u. IsWide (theory_at s w.op.0) w.op.0 u (matcher_in new x)) (subject_now new after further) is.wide)
            (subst (λ o. IsBehind (matcher_cmp (theory_at s) (asked_in t).pattern) o (matcher_in new x)) (last_now new after further) is.behind)

        pub goes_on : IsRefused s new (asked_in t) w t.last y → IsAheadOf s known (question_in start (asked_in t)) w (option_map (matcher_in start) t.last) (Some (matcher_in new y))
        goes_on is =
            skipped s lawful kinds known (question_in start (asked_in t)) can.askable.subject.normal can.askable.bare w.left w.right w.op.0 (variable_of w.first) (variable_of w.last) shape.can shape.first_sort shape.last_sort
            (option_map (matcher_in start) t.last) (option_map (matcher_in now) given) ahead (matcher_in new y) is.0 next_one is.1
            (λ v b. is.2 (subst (λ u. IsWide (theory_at s w.op.0) w.op.0 u is.0) (sym (subject_now new after further)) v)
            (subst (λ o. IsBehind (matcher_cmp (theory_at s) (asked_in t).pattern) o is.0) (sym (last_now new after further)) b))

    -- an accepted one was given
    pub given_one : (new : List Node) (after : Table) → Grows s (tree_at start t.subject.0) start new before after → (y x : Solution) → IsGiven false s new after (shaped_asked w (asked_in t)) y → IsAccepted s new (asked_in t) w t.last y x
        → StandWithin (theory_at s) new (numbers x.left) → StandWithin (theory_at s) new (numbers x.right) → All (Contains y.values) x.values → IsGiven true s new after (asked_in t) x
    given_one new after further y x is acc left right among =
        let can_there = can_now new after further in
        record {
          left = left;
          right = right;
          values = stand_among (theory_at s) new x.values y.values among is.values;
          settled = numbers_among (IsSettled after) y.values x.values is.settled among;
          solves =
              narrow_solves s lawful (HasEntry s new after) (question_in new (asked_in t)) can_there.askable.subject.normal w.left w.right w.op.0 (variable_of w.first) (variable_of w.last) (shape_now new after further).can
              (matcher_in new y) (matcher_in new x) is.solves acc.narrowed acc.wide;
        }

    -- the last solution, in a store that has grown
    pub last_ready : (ps : List Place) → ArePlacesOf s (tree_of t.pattern) ps → (now : List Node) → Extends start now → IfSome t.last (λ x. StandWithin (theory_at s) now (numbers x.values) × (length x.values ≡ length ps))
    last_ready ps places now extends = by t.last can.given
      where
        by : (o : Option Solution) → IfSome o (IsGiven true s start before (asked_in t)) → IfSome o (λ x. StandWithin (theory_at s) now (numbers x.values) × (length x.values ≡ length ps))
        by None h = tt
        by (Some x) h =
            let fits : FitsUnder (terms_over s) w.op.0 (question_in start (asked_in t)).pattern (reading (theory_at s) (question_in start (asked_in t)).subject) h.solves.bare (matcher_in start x).left (matcher_in start x).right =
            subst (λ o. FitsAt (terms_over s) o (question_in start (asked_in t)).pattern (reading (theory_at s) (question_in start (asked_in t)).subject) h.solves.bare (matcher_in start x).left (matcher_in start x).right) shape.can.top h.solves.solves.0 in (
              stand_within_extended (theory_at s) start now (numbers x.values) extends h.values,
              sym (trees_long start x.values) ∙ ap (λ ts. length ts) (sym h.solves.values) ∙ length-map (norm (theory_at s)) h.solves.bare ∙ fits.one_each
                  ∙ sym (ap (λ xs. length xs) places.variables) ∙ named_long ps,
            )

-- ---- from one store to the next

module _ (s : SignatureOf) (t : Trial) (start mid : List Node) (before table : Table) (can : CanGoOn true s start before (asked_in t) t.last) (grows : Grows s (tree_at start t.subject.0) start mid before table) where
  pub can_then : CanGoOn true s mid table (asked_in t) t.last
  can_then = listings_go_on true s start mid before table grows.extends grows.kept grows.over (asked_in t) t.last can

  same_question : question_in mid (asked_in t) ≡ question_in start (asked_in t)
  same_question = question_same start mid grows.extends s (asked_in t) can.askable

  same_last : option_map (matcher_in mid) t.last ≡ option_map (matcher_in start) t.last
  same_last = last_found_same start mid grows.extends s true before (asked_in t) t.last can.given

  -- what holds of the question and the last solution there holds here
  pub here : (P : Question → Option Matcher → Type 0) → P (question_in mid (asked_in t)) (option_map (matcher_in mid) t.last) → P (question_in start (asked_in t)) (option_map (matcher_in start) t.last)
  here P h = subst (λ q. P q (option_map (matcher_in start) t.last)) same_question (subst (P (question_in mid (asked_in t))) same_last h)

  pub there : (P : Question → Option Matcher → Type 0) → P (question_in start (asked_in t)) (option_map (matcher_in start) t.last) → P (question_in mid (asked_in t)) (option_map (matcher_in mid) t.last)
  there P h = subst (λ q. P q (option_map (matcher_in mid) t.last)) (sym same_question) (subst (P (question_in start (asked_in t))) (sym same_last) h)

-- the next one of a shape is the next one with these contexts
pub of_shape : (s : SignatureOf) (known : Known) (q : Question) (w : Shape) (h k : Bool) (op : OpId) → w.op ≡ op → w.left ≡ h → w.right ≡ k → (last o : Option Matcher) → IsNextShaped s known q w last o → IsNextOf s known q h k op.0 last o
of_shape s known q w h k op eo eh ek last o next =
    subst (λ (i : OpId). IsNextOf s known q h k i.0 last o) eo (subst (λ c. IsNextOf s known q h c w.op.0 last o) ek (subst (λ c. IsNextOf s known q c w.right w.op.0 last o) eh next))
