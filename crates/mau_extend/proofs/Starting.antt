-- Where a listing of a widened pattern goes on behind a solution.
use Rattle.std.proofs.Common.{◌≡◌, ◌≢◌, ℕ, List, [], ◌∷◌, length, map, Bool, true, false, All, Some, IfSome, refl, sym, ◌∙◌, ap, ap₂, subst}
use Rattle.std.proofs.lemmas.List.Elements.{All-cons, All-push}
use Rattle.std.specs.declared.cmp.Ordering.TheVariants.{Less}
use Rattle.mau_terms.specs.Tree.{Tree, node}
use Rattle.mau_terms.specs.Norm.{norm, build, finish, arrange}
use Rattle.mau_terms.specs.Bare.{IsLawful}
use Rattle.mau_terms.specs.Reading.{reading}
use Rattle.mau_terms.specs.Subst.{variables}
use Rattle.mau_terms.specs.Solution.{over_list, ArePieces, FitsUnder, FitsAt}
use Rattle.mau_terms.specs.View.{variable_of}
use Rattle.mau_terms.specs.declared.ids.TermId.{TermId}
use Rattle.mau_terms.specs.declared.theory.Theory.{Theory}
use Rattle.mau_terms.proofs.Induction.{norm-node}
use Rattle.mau_terms.proofs.Solutions.{length-map}
use Rattle.mau_terms.proofs.Pieces.{Each, IsPiece}
use Rattle.mau_terms.proofs.Normal.{pieces_all}
use Rattle.mau_poset.specs.Order.{kind_of}
use Rattle.mau_signature.specs.Signature.{SignatureOf, theory_at, terms_over}
use Rattle.mau_store.specs.Node.{Node}
use Rattle.mau_store.specs.Trees.{tree_at, trees_at}
use Rattle.mau_store.specs.View.{numbers}
use Rattle.mau_store.proofs.Growth.{trees_at-extends}
use Rattle.mau_canon.specs.Standing.{StandsWithin, StandWithin}
use Rattle.mau_canon.proofs.Standing.{stands_within_extended, stand_within_extended, stand_there}
use Rattle.mau_sorts.specs.HasSort.{Known}
use Rattle.mau_sorts.specs.Table.{Table, IsSettled}
use Rattle.mau_listing.specs.declared.solution.Solution.{Solution}
use Rattle.mau_listing.specs.Question.{Question, IsPart}
use Rattle.mau_listing.specs.Matcher.{Matcher}
use Rattle.mau_listing.specs.Next.{matcher_cmp, IsBehind}
use Rattle.mau_listing.specs.Asked.{question_in, matcher_in, HasEntry, IsTableOf, BySort, IsPoint, IsGiven, CanGoOn}
use Rattle.mau_listing.proofs.Growth.{IsSolution-then, settled_kept, trees_long}
use Rattle.mau_listing.proofs.Ordered.{entries_are_sorts}
use Rattle.mau_trial.specs.Tried.{asked_in, without_context}
use Rattle.mau_trial.specs.declared.tried.Trial.{Trial}
use Rattle.mau_match.specs.Searched.{Grows}
use Rattle.mau_extend.specs.declared.shape.Shape.{Shape}
use Rattle.mau_extend.specs.Widened.{around, before_last}
use Rattle.mau_extend.specs.Extended.{IsShapeOf, IsShaped, IsAheadOf, shaped_asked}
use Rattle.mau_extend.proofs.Widened.{lacks, variables_widened}
use Rattle.mau_extend.proofs.Lists.{each_piece}
use Rattle.mau_extend.proofs.OfKind.{top_assoc}
use Rattle.mau_extend.proofs.Around.{map_around, around_long}
use Rattle.mau_extend.proofs.Ends.{terms_around}
use Rattle.mau_extend.proofs.Accepted.{ahead_of_point}

-- f over a list of its pieces
pub norm-list : (th : ℕ → Theory) (f : ℕ) (ts : List Tree) → Each (IsPiece (th f).assoc (th f).id f) ts → ArePieces th f ts → norm th (node f ts) ≡ over_list (th f) f ts
norm-list th f ts each pieces =
    norm-node th f ts ∙ ap (build (th f) f) (own ts pieces)
    ∙ ap (λ us. finish (th f).assoc (th f).id (th f).succ f (arrange (th f).comm us)) (pieces_all th (th f).assoc (th f).id f ts each)
  where
    own : (us : List Tree) → ArePieces th f us → map (norm th) us ≡ us
    own [] p = refl
    own (u ∷ us) p = ap₂ (λ v vs. v ∷ vs) p.0 (own us p.2)

-- ---- lists with ends

module _ {A : Type 0} (P : A → Type 0) where
  all_before_last : (k : Bool) (vs : List A) (r : A) → All P vs → (k ≡ true → P r) → All P (before_last k vs r)
  all_before_last false vs r all last = all
  all_before_last true vs r all last = All-push P vs r all (last refl)

  pub all_around : (h k : Bool) (l : A) (vs : List A) (r : A) → (h ≡ true → P l) → All P vs → (k ≡ true → P r) → All P (around h k l vs r)
  all_around false k l vs r first all last = all_before_last k vs r all last
  all_around true k l vs r first all last = All-cons P l (before_last k vs r) (first refl) (all_before_last k vs r all last)

same_first : {A : Type 0} (h k : Bool) (l l' : A) (vs : List A) (r : A) → (h ≡ true → l ≡ l') → around h k l vs r ≡ around h k l' vs r
same_first true k l l' vs r e = ap (λ x. x ∷ before_last k vs r) (e refl)
same_first false k l l' vs r e = refl

-- ---- behind a solution

module _ (s : SignatureOf) (lawful : IsLawful (terms_over s)) (old : List Node) (before : Table) (t : Trial) (w : Shape) (x : Solution) (last : t.last ≡ Some x)
    (can : CanGoOn true s old before (asked_in t) t.last) (shape : IsShapeOf s (question_in old (asked_in t)) w) where
  abbrev f : ℕ
  f = w.op.0

  abbrev q : Question
  q = question_in old (asked_in t)

  assoc : (theory_at s w.op.0).assoc ≡ true
  assoc = top_assoc (terms_over s) lawful w.op.0 (question_in old (asked_in t)).pattern shape.can.pattern shape.can.top

  given : IsGiven true s old before (asked_in t) x
  given = subst (λ o. IfSome o (IsGiven true s old before (asked_in t))) last can.given

  pub nowhere : w.left ≡ false → x.left ≢ [] → (known : Known) → (z : Matcher) → IsShaped s known (question_in old (asked_in t)) w z → IsBehind (matcher_cmp (theory_at s) (question_in old (asked_in t)).pattern) (Some (matcher_in old x)) z → ⊥
  nowhere e some known z is behind = by x.left some (matcher_in old x).left refl z.left (is.1.left.none e) behind
    where
      by : (ids : List TermId) → ids ≢ [] → (ls : List Tree) → ls ≡ trees_at old (numbers ids) → (zs : List Tree) → zs ≡ [] → matcher_cmp (theory_at s) (question_in old (asked_in t)).pattern (record { left = ls; right = (matcher_in old x).right; values = (matcher_in old x).values }) (record { left = zs; right = z.right; values = z.values }) ≡ Less → ⊥
      by [] n ls e zs d b = n refl
      by (id ∷ ids) n [] e zs d b = cc
      by (id ∷ ids) n (l ∷ ls) e [] d b = cc
      by (id ∷ ids) n (l ∷ ls) e (c ∷ cs) d b = cc

  module _ (new : List Node) (after : Table) (grows : Grows s (tree_at old t.subject.0) old new before after) (first : TermId)
      (value : w.left ≡ true → tree_at new first.0 ≡ norm (theory_at s) (node w.op.0 (trees_at old (numbers x.left)))) where
    pub ahead : (kinds : (p : ℕ × ℕ) → s.numerals ≡ Some p → kind_of s.hierarchy p.0 ≡ kind_of s.hierarchy p.1) (known : Known) → IsTableOf s known old before → (w.left ≡ false → x.left ≡ [])
        → IsAheadOf s known (question_in old (asked_in t)) w (Some (matcher_in old x)) (Some (matcher_in new (without_context (around w.left w.right first x.values t.subject))))
    ahead kinds known table none =
        let part : IsPart s (BySort s known) (question_in old (asked_in t)) (matcher_in old x) =
        IsSolution-then true s (HasEntry s old before) (BySort s known) (entries_are_sorts s known old before table) (question_in old (asked_in t)) (matcher_in old x) given.solves in
        let fits : FitsUnder (terms_over s) w.op.0 (question_in old (asked_in t)).pattern (reading (theory_at s) (question_in old (asked_in t)).subject) part.bare (matcher_in old x).left (matcher_in old x).right =
        subst (λ o. FitsAt (terms_over s) o (question_in old (asked_in t)).pattern (reading (theory_at s) (question_in old (asked_in t)).subject) part.bare (matcher_in old x).left (matcher_in old x).right) shape.can.top part.solves.0 in
        let l = trees_at old (numbers x.left) in
        let over : norm (theory_at s) (node w.op.0 l) ≡ over_list (theory_at s w.op.0) w.op.0 l =
        norm-list (theory_at s) w.op.0 l (each_piece (theory_at s) lawful.theories w.op.0 assoc l fits.left_list.pieces) fits.left_list.pieces in
        ahead_of_point s lawful kinds known (question_in old (asked_in t)) can.askable.subject.normal can.askable.bare w.left w.right w.op.0 (variable_of w.first) (variable_of w.last) shape.can shape.first_sort shape.last_sort
        (matcher_in old x) part (λ e. ap (λ (ids : List TermId). trees_at old (numbers ids)) (none e)) (tree_at new t.subject.0)
        (matcher_in new (without_context (around w.left w.right first x.values t.subject))) refl
        (terms_around new w.left w.right first x.values t.subject
        ∙ ap (λ vs. around w.left w.right (tree_at new first.0) vs (tree_at new t.subject.0)) (trees_at-extends old new (numbers x.values) grows.extends (stand_there (theory_at s) old (numbers x.values) given.values))
        ∙ same_first w.left w.right (tree_at new first.0) (over_list (theory_at s w.op.0) w.op.0 l) (trees_at old (numbers x.values)) (tree_at new t.subject.0) (λ e. value e ∙ over))

    pub point : (w.left ≡ true → StandsWithin (theory_at s) new first.0) → (w.left ≡ true → IsSettled after first.0) → (w.right ≡ true → IsSettled before t.subject.0)
        → IsPoint s new after (shaped_asked w (asked_in t)) (without_context (around w.left w.right first x.values t.subject))
    point within settled stands =
        let ns = map_around {A = TermId} {B = ℕ} (λ id. id.0) w.left w.right first x.values t.subject in
        let p = (question_in old (asked_in t)).pattern in
        record {
          no_left = refl;
          no_right = refl;
          values = subst (StandWithin (theory_at s) new) (sym ns)
              (all_around (StandsWithin (theory_at s) new) w.left w.right first.0 (numbers x.values) t.subject.0 within
              (stand_within_extended (theory_at s) old new (numbers x.values) grows.extends given.values)
              (λ e. stands_within_extended (theory_at s) old new grows.extends t.subject.0 can.askable.subject));
          one_each =
              around_long w.left w.right first x.values t.subject (variable_of w.first) (variables p) (variable_of w.last) each
              ∙ ap (λ xs. length xs) (sym (variables_widened w.op.0 (variable_of w.first) (variable_of w.last) p (lacks p (variable_of w.first) shape.can.first.free) shape.can.last.free shape.can.apart w.left w.right));
          settled = subst (λ is. All (IsSettled after) is) (sym ns)
              (all_around (IsSettled after) w.left w.right first.0 (numbers x.values) t.subject.0 settled
              (λ k d h. settled_kept before after grows.kept _ (given.settled k d h))
              (λ e. settled_kept before after grows.kept t.subject.0 (stands e)));
        }
      where
        each : length x.values ≡ length (variables (question_in old (asked_in t)).pattern)
        each =
            sym (trees_long old x.values) ∙ ap (λ ts. length ts) (sym given.solves.values)
            ∙ length-map (norm (theory_at s)) given.solves.bare
            ∙ (subst (λ o. FitsAt (terms_over s) o (question_in old (asked_in t)).pattern (reading (theory_at s) (question_in old (asked_in t)).subject) given.solves.bare (matcher_in old x).left (matcher_in old x).right) shape.can.top given.solves.solves.0).one_each
