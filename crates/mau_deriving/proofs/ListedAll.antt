-- All solutions of a pattern in a term, as they are bound: one after another.
use Rattle.std.proofs.Common.{◌≡◌, inl, inr, ℕ, List, [], ◌∷◌, ◌++◌, map, All, length, Bool, true, false, ◌||◌, if◌then◌else◌, Option, Some, None, IfSome, refl, sym, ap, ap₂, ◌∙◌, subst, append-nil, append_assoc}
use Rattle.std.specs.Option.{option_map}
use Rattle.std.proofs.lemmas.List.{length-map}
use Rattle.std.proofs.lemmas.List.Elements.{All-head, All-tail, All-nil, All-cons}
use Rattle.mau_terms.specs.Tree.{Tree}
use Rattle.mau_terms.specs.Norm.{norm}
use Rattle.mau_terms.specs.Subst.{Variable, same_variable, has_variable, variables}
use Rattle.mau_terms.proofs.Variables.{same-is, same_itself, Distinct, distinct}
use Rattle.mau_terms.specs.Solution.{HaveSorts}
use Rattle.mau_terms.specs.View.{variable_of}
use Rattle.mau_terms.specs.declared.ids.VarId.{VarId}
use Rattle.mau_terms.specs.declared.ids.TermId.{TermId}
use Rattle.mau_signature.specs.Signature.{SignatureOf, theory_at}
use Rattle.mau_store.specs.Node.{Node, IsOf, Extends}
use Rattle.mau_store.specs.Trees.{tree_at, trees_at}
use Rattle.mau_store.specs.View.{numbers}
use Rattle.mau_store.proofs.Standing.{tree_at-extends}
use Rattle.mau_store.proofs.Growth.{extension_is_preorder}
use Rattle.mau_canon.specs.Standing.{StandsWithin, StandWithin}
use Rattle.mau_canon.proofs.Standing.{stands_within_extended}
use Rattle.mau_sorts.specs.HasSort.{Known}
use Rattle.mau_sorts.specs.Table.{Table, IsSettled, AreOver, KeepsEntries}
use Rattle.mau_sorts.proofs.Settling.{kept_same, kept_on}
use Rattle.mau_listing.specs.Asked.{Asked, asks, question_in, matcher_in, last_after, IsTableOf, IsClosedTable, MaySettle, HasEntry, IsGiven, CanGoOn, BySort}
use Rattle.mau_listing.specs.Matcher.{Matcher}
use Rattle.mau_listing.specs.Next.{matcher_cmp, IsNext}
use Rattle.mau_listing.specs.Question.{Question, OfNorm, IsWhole, IsSolution}
use Rattle.mau_listing.specs.declared.solution.Solution as Given
use Rattle.mau_listing.proofs.Growth.{listings_go_on, given_is_last, may_settle_grown, trees_long, entry_kept}
use Rattle.mau_evaluation.specs.Evaluation.{Binding, binds, extend}
use Rattle.mau_api.specs.Answers.{binding_in}
use Rattle.mau_api.specs.Remaining.{AreLeftOf, first_left}
use Rattle.mau_api.proofs.Remaining.{next_is, rest_is}
use Rattle.mau_deriving.specs.Listing.{IsListing, HasGrown, IsSorted, bound_by, GivesNext}

-- ---- growth

pub grown_same : (s : SignatureOf) (nodes : List Node) (table : Table) (t : ℕ) → AreOver s.hierarchy table → HasGrown s nodes nodes table table t
grown_same s nodes table t over = record {
  extends = extension_is_preorder.reflexive nodes;
  kept = kept_same table;
  over = over;
  entries = λ i settled. inl settled;
  table = λ known is. is;
  closed = λ is. is;
}

pub grown_on : (s : SignatureOf) (one two three : List Node) (first second third : Table) (t : ℕ) → tree_at two t ≡ tree_at one t → HasGrown s one two first second t → HasGrown s two three second third t →
    HasGrown s one three first third t
grown_on s one two three first second third t same a b = record {
  extends = extension_is_preorder.transitive one two three a.extends b.extends;
  kept = kept_on first second third a.kept b.kept;
  over = b.over;
  entries = λ i settled. by i (b.entries i settled);
  table = λ known is. b.table known (a.table known is);
  closed = λ is. b.closed (a.closed is);
}
  where
    by : (i : ℕ) → MaySettle s three second (tree_at two t) i → MaySettle s three first (tree_at one t) i
    by i (inl was) = may_settle_grown s two three first (tree_at one t) i b.extends (a.entries i was)
    by i (inr h) = inr (h.0, h.1, λ e. h.2 (e ∙ sym same))

-- ---- a binding

module _ (s : SignatureOf) (old new : List Node) (before after : Table) (extends : Extends old new) (kept : KeepsEntries before after) (p : Tree) where
  values_in : (b : List (VarId × TermId)) → All (λ x. StandsWithin (theory_at s) old x.1.0) b → All (λ x. HasEntry s old before (variable_of x.0).1 (tree_at old x.1.0)) b →
      (binding_in new b ≡ binding_in old b) × All (λ x. StandsWithin (theory_at s) new x.1.0) b × All (λ x. HasEntry s new after (variable_of x.0).1 (tree_at new x.1.0)) b
  values_in [] w h = (refl, All-nil (λ x. StandsWithin (theory_at s) new x.1.0), All-nil (λ x. HasEntry s new after (variable_of x.0).1 (tree_at new x.1.0)))
  values_in (x ∷ b) w h =
      let here = All-head (λ (y : VarId × TermId). StandsWithin (theory_at s) old y.1.0) x b w in
      let same : tree_at new x.1.0 ≡ tree_at old x.1.0 = tree_at-extends old new x.1.0 extends here.there in
      let rest = values_in b (All-tail (λ (y : VarId × TermId). StandsWithin (theory_at s) old y.1.0) x b w) (All-tail (λ (y : VarId × TermId). HasEntry s old before (variable_of y.0).1 (tree_at old y.1.0)) x b h) in (
        ap₂ {A = Variable × Tree} {B = List (Variable × Tree)} (λ z zs. z ∷ zs) (ap (λ (u : Tree). (variable_of x.0, u)) same) rest.0,
        All-cons (λ (y : VarId × TermId). StandsWithin (theory_at s) new y.1.0) x b (stands_within_extended (theory_at s) old new extends x.1.0 here) rest.1,
        All-cons (λ (y : VarId × TermId). HasEntry s new after (variable_of y.0).1 (tree_at new y.1.0)) x b
            (subst (HasEntry s new after (variable_of x.0).1) (sym same)
            (entry_kept old new extends before after kept s (variable_of x.0).1 (tree_at old x.1.0)
            (All-head (λ (y : VarId × TermId). HasEntry s old before (variable_of y.0).1 (tree_at old y.1.0)) x b h))) rest.2,
      )

  pub sorted_same : (b : List (VarId × TermId)) → IsSorted s old before p b → binding_in new b ≡ binding_in old b
  sorted_same b h = (values_in b h.within h.sorts).0

  pub sorted_grown : (b : List (VarId × TermId)) → IsSorted s old before p b → IsSorted s new after p b
  sorted_grown b h = let v = values_in b h.within h.sorts in record { named = h.named; within = v.1; sorts = v.2 }

  pub all_grown : (bs : List (List (VarId × TermId))) → All (IsSorted s old before p) bs → All (IsSorted s new after p) bs
  all_grown [] h = All-nil (IsSorted s new after p)
  all_grown (b ∷ bs) h = All-cons (IsSorted s new after p) b bs (sorted_grown b (All-head (IsSorted s old before p) b bs h)) (all_grown bs (All-tail (IsSorted s old before p) b bs h))

  pub all_same : (bs : List (List (VarId × TermId))) → All (IsSorted s old before p) bs → map (binding_in new) bs ≡ map (binding_in old) bs
  all_same [] h = refl
  all_same (b ∷ bs) h = ap₂ (λ (z : Binding) zs. z ∷ zs) (sorted_same b (All-head (IsSorted s old before p) b bs h)) (all_same bs (All-tail (IsSorted s old before p) b bs h))

-- ---- the binding by a solution

either_false : (a b : Bool) → (a || b) ≡ false → (a ≡ false) × (b ≡ false)
either_false true b e = cc
either_false false b e = (refl, e)

binds_end : (σ : Binding) (x y : Variable) (v : Tree) → binds σ y ≡ false → same_variable x y ≡ false → binds (σ ++ (x, v) ∷ []) y ≡ false
binds_end [] x y v h e = ap (λ w. w || false) e
binds_end (z ∷ σ) x y v h e =
    let k = either_false (same_variable z.0 y) (binds σ y) h in
    ap₂ (λ a b. a || b) k.0 (binds_end σ x y v k.1 e)

other_way : (x y : Variable) → same_variable y x ≡ false → same_variable x y ≡ false
other_way x y e = by (same_variable x y) refl
  where
    by : (w : Bool) → same_variable x y ≡ w → same_variable x y ≡ false
    by false h = h
    by true h = let k : same_variable y x ≡ true = subst (λ z. same_variable z x ≡ true) (same-is x y h) (same_itself x) in cc

-- none of them is bound
abbrev AreFree : Binding → List Variable → Type 0
AreFree σ [] = Unit {0}
AreFree σ (y ∷ ys) = (binds σ y ≡ false) × AreFree σ ys

still_free : (σ : Binding) (x : Variable) (v : Tree) (ys : List Variable) → AreFree σ ys → has_variable ys x ≡ false → AreFree (σ ++ (x, v) ∷ []) ys
still_free σ x v [] f h = tt
still_free σ x v (y ∷ ys) f h =
    let k = either_false (same_variable y x) (has_variable ys x) h in
    (binds_end σ x y v f.0 (other_way x y k.0), still_free σ x v ys f.1 k.1)

none_free : (ys : List Variable) → AreFree [] ys
none_free [] = tt
none_free (y ∷ ys) = (refl, none_free ys)

-- values of different variables that are free are added behind
added_behind : (nodes : List Node) (told : List (VarId × TermId)) (σ : Binding) → Distinct (map (λ b. variable_of b.0) told) → AreFree σ (map (λ b. variable_of b.0) told) →
    σ ++ binding_in nodes told ≡ extend σ (map (λ b. variable_of b.0) told) (map (λ b. tree_at nodes b.1.0) told)
added_behind nodes [] σ d f = append-nil σ
added_behind nodes (b ∷ told) σ d f =
    let x = variable_of b.0 in
    let v = tree_at nodes b.1.0 in
    let rest = added_behind nodes told (σ ++ (x, v) ∷ []) d.1 (still_free σ x v (map (λ c. variable_of c.0) told) f.1 d.0) in
    sym (append_assoc σ ((x, v) ∷ []) (binding_in nodes told)) ∙ (rest ∙ sym (ap (λ w. extend (if w then σ else σ ++ (x, v) ∷ []) (map (λ c. variable_of c.0) told) (map (λ c. tree_at nodes c.1.0) told)) f.0))

told_extends : (nodes : List Node) (told : List (VarId × TermId)) → Distinct (map (λ b. variable_of b.0) told) →
    binding_in nodes told ≡ extend [] (map (λ b. variable_of b.0) told) (map (λ b. tree_at nodes b.1.0) told)
told_extends nodes told d = added_behind nodes told [] d (none_free (map (λ b. variable_of b.0) told))

trees_told : (nodes : List Node) (told : List (VarId × TermId)) → map (λ b. tree_at nodes b.1.0) told ≡ trees_at nodes (numbers (map (λ b. b.1) told))
trees_told nodes [] = refl
trees_told nodes (b ∷ told) = ap (λ ts. tree_at nodes b.1.0 ∷ ts) (trees_told nodes told)

-- the values of variables of which each has its sort
told_sorts : (s : SignatureOf) (nodes : List Node) (table : Table) (told : List (VarId × TermId)) →
    HaveSorts (HasEntry s nodes table) (map (λ b. variable_of b.0) told) (map (λ b. tree_at nodes b.1.0) told) → All (λ x. HasEntry s nodes table (variable_of x.0).1 (tree_at nodes x.1.0)) told
told_sorts s nodes table [] h = All-nil (λ x. HasEntry s nodes table (variable_of x.0).1 (tree_at nodes x.1.0))
told_sorts s nodes table (b ∷ told) h = All-cons (λ (x : VarId × TermId). HasEntry s nodes table (variable_of x.0).1 (tree_at nodes x.1.0)) b told h.0 (told_sorts s nodes table told h.1)

told_within : (s : SignatureOf) (nodes : List Node) (told : List (VarId × TermId)) → StandWithin (theory_at s) nodes (numbers (map (λ b. b.1) told)) → All (λ x. StandsWithin (theory_at s) nodes x.1.0) told
told_within s nodes [] h = All-nil (λ x. StandsWithin (theory_at s) nodes x.1.0)
told_within s nodes (b ∷ told) h =
    All-cons (λ (x : VarId × TermId). StandsWithin (theory_at s) nodes x.1.0) b told (All-head (StandsWithin (theory_at s) nodes) b.1.0 (numbers (map (λ x. x.1) told)) h)
    (told_within s nodes told (All-tail (StandsWithin (theory_at s) nodes) b.1.0 (numbers (map (λ x. x.1) told)) h))

sorts_of_bare : (s : SignatureOf) (P : ℕ → Tree → Type 0) (xs : List Variable) (vs : List Tree) → HaveSorts (OfNorm P s) xs vs → HaveSorts P xs (map (norm (theory_at s)) vs)
sorts_of_bare s P [] vs h = tt
sorts_of_bare s P (x ∷ xs) [] h = h
sorts_of_bare s P (x ∷ xs) (v ∷ vs) h = (h.0, sorts_of_bare s P xs vs h.1)

module _ (s : SignatureOf) (nodes : List Node) (table : Table) (p : Tree) (t : TermId) (c : Bool) (whole : c ≡ false) (a : Asked) (is : a ≡ asks p [] t) (x : Given.Solution) (given : IsGiven c s nodes table a x) where
  as_whole : IsWhole s (HasEntry s nodes table) (question_in nodes (asks p [] t)) (matcher_in nodes x)
  as_whole =
      subst (λ z. IsWhole s (HasEntry s nodes table) (question_in nodes z) (matcher_in nodes x)) is
      (subst (λ z. IsSolution z s (HasEntry s nodes table) (question_in nodes a) (matcher_in nodes x)) whole given.solves)

  pub values_long : length x.values ≡ length (variables p)
  values_long = sym (trees_long nodes x.values) ∙ (ap length (sym as_whole.values) ∙ (length-map as_whole.bare (norm (theory_at s)) ∙ as_whole.solves.0.one_each))

  module _ (told : List (VarId × TermId)) (names : map (λ z. variable_of z.0) told ≡ variables p) (values : map (λ z. z.1) told ≡ x.values) where
    trees_are : map (λ z. tree_at nodes z.1.0) told ≡ trees_at nodes (numbers x.values)
    trees_are = trees_told nodes told ∙ ap (λ ids. trees_at nodes (numbers ids)) values

    pub binding_is : binding_in nodes told ≡ bound_by p (matcher_in nodes x)
    binding_is =
        told_extends nodes told (subst Distinct (sym names) (distinct p [] tt)) ∙ (ap (λ ys. extend [] ys (map (λ z. tree_at nodes z.1.0) told)) names ∙ ap (extend [] (variables p)) trees_are)

    sorts : All (λ z. HasEntry s nodes table (variable_of z.0).1 (tree_at nodes z.1.0)) told
    sorts =
        told_sorts s nodes table told
        (subst (λ xs. HaveSorts (HasEntry s nodes table) xs (map (λ z. tree_at nodes z.1.0) told)) (sym names)
        (subst (HaveSorts (HasEntry s nodes table) (variables p)) (as_whole.values ∙ sym trees_are)
        (sorts_of_bare s (HasEntry s nodes table) (variables p) as_whole.bare as_whole.solves.1)))

    within : All (λ z. StandsWithin (theory_at s) nodes z.1.0) told
    within = told_within s nodes told (subst (λ ids. StandWithin (theory_at s) nodes (numbers ids)) (sym values) given.values)

    pub is_sorted : IsSorted s nodes table p told
    is_sorted = record { named = names; within = within; sorts = sorts }

-- ---- the next one

module _ (s : SignatureOf) (c : Bool) (old new : List Node) (before after : Table) (p : Tree) (t : TermId) (a : Asked) (last : Option Given.Solution) (for : Type 0) (is : IsListing c s old before p t a last for)
    (grown : HasGrown s old new before after t.0) where
  -- the listing goes on
  pub listing_on : (b : Asked) → b ≡ a → (answer more : Option Given.Solution) → more ≡ last_after last answer → IfSome answer (IsGiven c s new after a) → (still : Type 0) → still →
      IsListing c s new after p t b more still
  listing_on b e answer more m given still so = record {
    is = e ∙ is.is;
    signature = so;
    ready = subst (λ z. CanGoOn c s new after z more) (sym e) (subst (CanGoOn c s new after a) (sym m) (by answer given));
  }
    where
      old_ready : CanGoOn c s new after a last
      old_ready = listings_go_on c s old new before after grown.extends grown.kept grown.over a last is.ready

      by : (o : Option Given.Solution) → IfSome o (IsGiven c s new after a) → CanGoOn c s new after a (last_after last o)
      by None h = old_ready
      by (Some x) h = record { askable = old_ready.askable; settled = old_ready.settled; over = old_ready.over; given = given_is_last c s new after a x h }

  module _ (known : Known) (xs : List Matcher) (left : AreLeftOf c s known (question_in old (asks p [] t)) (option_map (matcher_in old) last) xs) (answer : Option Given.Solution)
      (next : IsNext (IsSolution c s (BySort s known) (question_in old a)) (matcher_cmp (theory_at s) a.pattern) (option_map (matcher_in old) last) (option_map (matcher_in new) answer)) where
    first : option_map (matcher_in new) answer ≡ first_left xs
    first =
        next_is c s known (question_in old (asks p [] t)) (option_map (matcher_in old) last) xs left (option_map (matcher_in new) answer)
        (subst (λ z. IsNext (IsSolution c s (BySort s known) (question_in old z)) (matcher_cmp (theory_at s) z.pattern) (option_map (matcher_in old) last) (option_map (matcher_in new) answer)) is.is next)

    pub gives_none : answer ≡ None → xs ≡ []
    gives_none e = by xs (sym first ∙ ap (option_map (matcher_in new)) e)
      where
        by : (ys : List Matcher) → first_left ys ≡ None → ys ≡ []
        by [] h = refl
        by (y ∷ ys) h = cc

    pub gives_some : (x : Given.Solution) → answer ≡ Some x → (σ : Binding) → σ ≡ bound_by p (matcher_in new x) → (more : Option Given.Solution) → more ≡ last_after last answer →
        GivesNext c s known (question_in old (asks p [] t)) (Some σ) (option_map (matcher_in new) more) xs
    gives_some x e σ b more m = by xs left (sym first ∙ ap (option_map (matcher_in new)) e)
      where
        by : (ys : List Matcher) → AreLeftOf c s known (question_in old (asks p [] t)) (option_map (matcher_in old) last) ys → first_left ys ≡ Some (matcher_in new x) →
            GivesNext c s known (question_in old (asks p [] t)) (Some σ) (option_map (matcher_in new) more) ys
        by [] l h = cc
        by (y ∷ ys) l h =
            let same : y ≡ matcher_in new x = cc in (
              b ∙ ap (bound_by p) (sym same),
              subst (λ o. AreLeftOf c s known (question_in old (asks p [] t)) o ys) (ap Some same ∙ sym (ap (option_map (matcher_in new)) (m ∙ ap (last_after last) e)))
                  (rest_is c s known (question_in old (asks p [] t)) (option_map (matcher_in old) last) y ys l),
            )

-- ---- the loop

-- what is found, of all that there is to be listed
pub record AreFound (c : Bool) (s : SignatureOf) (known : Known) (q : Question) (found : List Binding) (last : Option Matcher) (xs : List Matcher) : Type 0 where
  pub listed : List Matcher
  pub rest : List Matcher
  pub split : xs ≡ listed ++ rest
  pub found_is : found ≡ map (bound_by q.pattern) listed
  pub left : AreLeftOf c s known q last rest

module _ (c : Bool) (s : SignatureOf) (known : Known) (q : Question) (found : List Binding) (last more : Option Matcher) (xs : List Matcher) (so_far : AreFound c s known q found last xs) where
  map_more : (ys : List Matcher) (x : Matcher) → map (bound_by q.pattern) (ys ++ x ∷ []) ≡ map (bound_by q.pattern) ys ++ bound_by q.pattern x ∷ []
  map_more [] x = refl
  map_more (y ∷ ys) x = ap (λ zs. bound_by q.pattern y ∷ zs) (map_more ys x)

  -- one more
  pub one_found : (σ : Binding) → ((rest : List Matcher) → AreLeftOf c s known q last rest → GivesNext c s known q (Some σ) more rest) → AreFound c s known q (found ++ σ ∷ []) more xs
  one_found σ next = by so_far.rest (next so_far.rest so_far.left) so_far.split
    where
      by : (rest : List Matcher) → GivesNext c s known q (Some σ) more rest → xs ≡ so_far.listed ++ rest → AreFound c s known q (found ++ σ ∷ []) more xs
      by [] h e = absurd h
      by (x ∷ rest) h e = record {
        listed = so_far.listed ++ x ∷ [];
        rest = rest;
        split = e ∙ sym (append_assoc so_far.listed (x ∷ []) rest);
        found_is = ap (λ zs. zs ++ σ ∷ []) so_far.found_is ∙ (ap (λ z. map (bound_by q.pattern) so_far.listed ++ z ∷ []) h.0 ∙ sym (map_more so_far.listed x));
        left = h.1;
      }

  -- no more
  pub all_found : ((rest : List Matcher) → AreLeftOf c s known q last rest → rest ≡ []) → found ≡ map (bound_by q.pattern) xs
  all_found next =
      so_far.found_is ∙ ap (map (bound_by q.pattern)) (sym (so_far.split ∙ (ap (λ zs. so_far.listed ++ zs) (next so_far.rest so_far.left) ∙ append-nil so_far.listed)))

-- what the next one leaves
pub grown_by : (s : SignatureOf) (old new : List Node) (before after : Table) (p : Tree) (t : TermId) (a : Asked) → a ≡ asks p [] t → Extends old new → KeepsEntries before after → AreOver s.hierarchy after →
    ((i : ℕ) → IsSettled after i → MaySettle s new before (tree_at old a.subject.0) i) → ((known : Known) → IsTableOf s known old before → IsTableOf s known new after) → (IsClosedTable old before → IsClosedTable new after) →
    HasGrown s old new before after t.0
grown_by s old new before after p t a is extends kept over entries table closed = record {
  extends = extends;
  kept = kept;
  over = over;
  entries = subst (λ (z : Asked). (i : ℕ) → IsSettled after i → MaySettle s new before (tree_at old z.subject.0) i) is entries;
  table = table;
  closed = closed;
}

pub given_at : (c : Bool) (s : SignatureOf) (nodes : List Node) (table : Table) (a : Asked) (answer : Option Given.Solution) (x : Given.Solution) → answer ≡ Some x → IfSome answer (IsGiven c s nodes table a) → IsGiven c s nodes table a x
given_at c s nodes table a answer x e h = subst (λ o. IfSome o (IsGiven c s nodes table a)) e h

-- ---- the state of the loop

pub record IsInLoop (c : Bool) (s : SignatureOf) (first now : List Node) (start table : Table) (p : Tree) (t : TermId) (asked : Asked) (last : Option Given.Solution) (for : Type 0) (found : List (List (VarId × TermId))) : Type 0 where
  pub listing : IsListing c s now table p t asked last for
  pub grown : HasGrown s first now start table t.0
  pub sorted : All (IsSorted s now table p) found
  pub so_far : (known : Known) (xs : List Matcher) → IsTableOf s known first start → AreLeftOf c s known (question_in first (asks p [] t)) None xs →
      AreFound c s known (question_in first (asks p [] t)) (map (binding_in now) found) (option_map (matcher_in now) last) xs

pub loop_begun : (c : Bool) (s : SignatureOf) (nodes : List Node) (table : Table) (p : Tree) (t : TermId) → CanGoOn c s nodes table (asks p [] t) None → (asked : Asked) → asked ≡ asks p [] t → (last : Option Given.Solution) → last ≡ None →
    (for : Type 0) → for → IsInLoop c s nodes nodes table table p t asked last for []
loop_begun c s nodes table p t ready asked e last none for so = record {
  listing = record { is = e; signature = so; ready = subst (λ z. CanGoOn c s nodes table z last) (sym e) (subst (CanGoOn c s nodes table (asks p [] t)) (sym none) ready) };
  grown = grown_same s nodes table t.0 ready.over;
  sorted = All-nil (IsSorted s nodes table p);
  so_far = λ known xs is left. record {
    listed = [];
    rest = xs;
    split = refl;
    found_is = refl;
    left = subst (λ o. AreLeftOf c s known (question_in nodes (asks p [] t)) (option_map (matcher_in nodes) o) xs) (sym none) left;
  };
}

module _ (c : Bool) (s : SignatureOf) (first now next : List Node) (start table after : Table) (p : Tree) (t : TermId) (there : IsOf first t.0) (asked : Asked) (last : Option Given.Solution) (for : Type 0)
    (found : List (List (VarId × TermId))) (is : IsInLoop c s first now start table p t asked last for found) (grown : HasGrown s now next table after t.0) where
  same : tree_at now t.0 ≡ tree_at first t.0
  same = tree_at-extends first now t.0 is.grown.extends there

  question_same : question_in now (asks p [] t) ≡ question_in first (asks p [] t)
  question_same = ap (λ (u : Tree). let q : Question = record { pattern = p; bound = []; subject = u } in q) same

  pub grown_still : HasGrown s first next start after t.0
  grown_still = grown_on s first now next start table after t.0 same is.grown grown

  map_end : (xs : List (List (VarId × TermId))) (b : List (VarId × TermId)) → map (binding_in next) (xs ++ b ∷ []) ≡ map (binding_in next) xs ++ binding_in next b ∷ []
  map_end [] b = refl
  map_end (x ∷ xs) b = ap (λ (zs : List Binding). binding_in next x ∷ zs) (map_end xs b)

  all_end : (xs : List (List (VarId × TermId))) (b : List (VarId × TermId)) → All (IsSorted s next after p) xs → IsSorted s next after p b → All (IsSorted s next after p) (xs ++ b ∷ [])
  all_end [] b h k = All-cons (IsSorted s next after p) b [] k (All-nil (IsSorted s next after p))
  all_end (x ∷ xs) b h k = All-cons (IsSorted s next after p) x (xs ++ b ∷ []) (All-head (IsSorted s next after p) x xs h) (all_end xs b (All-tail (IsSorted s next after p) x xs h) k)

  -- what was found stands for the same
  found_same : map (binding_in next) found ≡ map (binding_in now) found
  found_same = all_same s now next table after grown.extends grown.kept p found is.sorted

  abbrev Gives : Option Binding → Option Matcher → Type 0
  Gives o more = (known : Known) (xs : List Matcher) → IsTableOf s known now table → AreLeftOf c s known (question_in now (asks p [] t)) (option_map (matcher_in now) last) xs →
      GivesNext c s known (question_in now (asks p [] t)) o more xs

  gives_first : (o : Option Binding) (more : Option Matcher) → Gives o more → (known : Known) → IsTableOf s known first start → (xs : List Matcher) → AreLeftOf c s known (question_in first (asks p [] t)) (option_map (matcher_in now) last) xs →
      GivesNext c s known (question_in first (asks p [] t)) o more xs
  gives_first o more h known of xs left =
      subst (λ q. GivesNext c s known q o more xs) question_same (h known xs (is.grown.table known of) (subst (λ q. AreLeftOf c s known q (option_map (matcher_in now) last) xs) (sym question_same) left))

  pub loop_on : (b : List (VarId × TermId)) (more : Option Given.Solution) → Gives (Some (binding_in next b)) (option_map (matcher_in next) more) → IsSorted s next after p b → (asked' : Asked) (for' : Type 0) →
      IsListing c s next after p t asked' more for' → IsInLoop c s first next start after p t asked' more for' (found ++ b ∷ [])
  loop_on b more gives sorted asked' for' listing = record {
    listing = listing;
    grown = grown_still;
    sorted = all_end found b (all_grown s now next table after grown.extends grown.kept p found is.sorted) sorted;
    so_far = λ known xs of left.
        subst (λ zs. AreFound c s known (question_in first (asks p [] t)) zs (option_map (matcher_in next) more) xs) (ap (λ zs. zs ++ binding_in next b ∷ []) (sym found_same) ∙ sym (map_end found b))
        (one_found c s known (question_in first (asks p [] t)) (map (binding_in now) found) (option_map (matcher_in now) last) (option_map (matcher_in next) more) xs (is.so_far known xs of left) (binding_in next b)
        (λ rest l. gives_first (Some (binding_in next b)) (option_map (matcher_in next) more) gives known of rest l));
  }

  pub loop_ends : (more : Option Matcher) → Gives None more → (known : Known) (xs : List Matcher) → IsTableOf s known first start → AreLeftOf c s known (question_in first (asks p [] t)) None xs →
      map (binding_in next) found ≡ map (bound_by p) xs
  loop_ends more gives known xs of left =
      found_same ∙ all_found c s known (question_in first (asks p [] t)) (map (binding_in now) found) (option_map (matcher_in now) last) more xs (is.so_far known xs of left) (λ rest l. gives_first None more gives known of rest l)

  pub all_still : All (IsSorted s next after p) found
  all_still = all_grown s now next table after grown.extends grown.kept p found is.sorted
