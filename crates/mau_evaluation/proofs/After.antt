-- Asked on behind a solution that is shown, a condition gives the next that is shown.
use Rattle.std.proofs.Common.{◌≡◌, ℕ, ◌≤◌, List, [], ◌∷◌, ◌++◌, length, map, Bool, true, false, not, ◌||◌, ◌&&◌, if◌then◌else◌, Option, None, inl, inr, refl, sym, ◌∙◌, ap, ap₂, subst, ◌⊎◌, arith}
use Rattle.std.specs.Ordering.{ordering_reverse}
use Rattle.std.specs.declared.cmp.Ordering.{Ordering}
use Rattle.std.specs.declared.cmp.Ordering.TheVariants.{Less, Equal, Greater}
use Rattle.mau_terms.specs.Tree.{Tree, variable}
use Rattle.mau_terms.specs.Norm.{norm}
use Rattle.mau_terms.specs.Bare.{IsLawful}
use Rattle.mau_terms.specs.Laws.{AreNorms}
use Rattle.mau_terms.specs.Subst.{Variable, same_variable, has_variable, variables, instance, with_values}
use Rattle.mau_terms.specs.Finite.{IsIn, candidates}
use Rattle.mau_terms.specs.declared.theory.Theory.{Theory}
use Rattle.mau_terms.proofs.Variables.{same-is, same_itself, Distinct, distinct}
use Rattle.mau_evaluation.specs.Run.{End, Outcome, done, ended, Run, try_on, and_try, or_else, first_of, where_true, choose, Grows, NeverRises}
use Rattle.mau_evaluation.specs.Program.{Fragment, equals, matches, has_sort, reaches, Program}
use Rattle.mau_evaluation.specs.Listing.{same_tree, keep, Solution, plain, tuples, compare, solutions, AllAfter, IsAscending, fitting, makes_bare}
use Rattle.mau_evaluation.specs.Evaluation.{Binding, look_up, binds, extend, agree, has_number, have_sorts, solve, own_and_after, solve_after}
use Rattle.mau_evaluation.specs.Engine.{Engine, engine_of}
use Rattle.mau_evaluation.specs.Answers.{Answers, no_more, ends_by, answer, answers_of, before, and_those, for_each, asking, from_outcome, when, FirstBy}
use Rattle.mau_evaluation.specs.OrderedLists.{shown}
use Rattle.mau_evaluation.specs.StrategyLaws.{AskingsAreRight}
use Rattle.mau_evaluation.specs.Larger.{IsLargerLevel}
use Rattle.mau_evaluation.proofs.Falls.{gives_falls, try_falls, else_falls, first_falls, choose_falls, where_falls, Falls, levels_fall, have_sorts_fall, solve_falls}
use Rattle.mau_evaluation.proofs.Levels.{have_sorts_grow}
use Rattle.mau_evaluation.proofs.Listed.{from_map, from_keep, from_tuples, from_ordered, ordered_ascending, norms_among, compare_total}
use Rattle.mau_evaluation.proofs.Reduced.{same_tree_true}
use Rattle.mau_evaluation.proofs.Still.{same_tree_itself}
use Rattle.mau_evaluation.proofs.Stay.{larger}
use Rattle.mau_evaluation.proofs.Each.{Has, has_each, has_list, has_asking, has_when}
use Rattle.mau_evaluation.proofs.Asked.{IsFirst, counted_first, done_at, else_by, first_first, one, one_falls, solve_first, first_try, first_where}
use Rattle.std.proofs.lemmas.Bool.{or_parts}

-- m gives what stands behind y among p
abbrev IsNext : {A : Type 0} → ℕ → A → Run (Option A) → Answers A → Type 0
IsNext {A = A} n y m p = (given : List A) (rest : Answers A) → p ≡ before given (answer y rest) → (b : ℕ) → b ≤ n → FirstBy (m b) rest

nothing_there : {A : Type 0} (y : A) (given : List A) (rest : Answers A) → no_more ≡ before given (answer y rest) → ⊥
nothing_there y [] rest e = cc
nothing_there y (x ∷ given) rest e = cc

no_end_there : {A : Type 0} (y : A) (given : List A) (rest : Answers A) (z : End) → ends_by z ≡ before given (answer y rest) → ⊥
no_end_there y [] rest z e = cc
no_end_there y (x ∷ given) rest z e = cc

has_given : {A : Type 0} (y : A) (given : List A) (rest : Answers A) → Has y (before given (answer y rest))
has_given y [] rest = inl refl
has_given y (x ∷ given) rest = inr (has_given y given rest)

next_try : {A B : Type 0} (n : ℕ) (y : B) (m : Run A) (k : A → Run (Option B)) (f : A → Answers B) → Grows m m → NeverRises m → ((x : A) → IsNext n y (k x) (f x)) → IsNext n y (and_try m k) (asking n m f)
next_try {A = A} n y m k f g h next given rest q b i = by (m b) refl
  where
    by : (o : Outcome A) → m b ≡ o → FirstBy (try_on k o) rest
    by (done x r c) e =
        let d = done_at n m g h b i x r c e in
        counted_first r (k x c) rest (next x given rest (sym (ap (from_outcome f) d.1.1) ∙ q) c d.0)
    by (ended e) z = tt

next_where : {A : Type 0} (n : ℕ) (y : A) (t : Bool) (m : Run (Option A)) (p : Answers A) → IsNext n y m p → IsNext n y (where_true t m) (when t p)
next_where n y true m p h given rest q b i = h given rest q b i
next_where n y false m p h given rest q b i = absurd (nothing_there y given rest q)

-- y stands in p, or all of p stands before it
split_those : {A : Type 0} (y : A) (p q : Answers A) (given : List A) (rest : Answers A) → and_those p q ≡ before given (answer y rest) →
    ((us : List A) × (rest' : Answers A) × (p ≡ before us (answer y rest')) × (rest ≡ and_those rest' q)) ⊎ ((vs : List A) × (q ≡ before vs (answer y rest)))
split_those y no_more q given rest e = inr (given, e)
split_those y (ends_by z) q given rest e = absurd (no_end_there y given rest z e)
split_those y (answer x p) q [] rest e = inl ([], p, same_head x y (and_those p q) rest p e, sym (same_tail x y (and_those p q) rest e))
  where
    same_head : {A : Type 0} (x y : A) (s t p : Answers A) → answer x s ≡ answer y t → answer x p ≡ answer y p
    same_head x y s t p e = let h : x ≡ y = cc in ap (λ z. answer z p) h

    same_tail : {A : Type 0} (x y : A) (s t : Answers A) → answer x s ≡ answer y t → s ≡ t
    same_tail x y s t e = cc
split_those {A = A} y (answer x p) q (z ∷ given) rest e = by (split_those y p q given rest (tail_is x z (and_those p q) (before given (answer y rest)) e))
  where
    tail_is : {A : Type 0} (x y : A) (s t : Answers A) → answer x s ≡ answer y t → s ≡ t
    tail_is x y s t e = cc

    by : (((us : List A) × (rest' : Answers A) × (p ≡ before us (answer y rest')) × (rest ≡ and_those rest' q)) ⊎ ((vs : List A) × (q ≡ before vs (answer y rest)))) →
        ((us : List A) × (rest' : Answers A) × (answer x p ≡ before us (answer y rest')) × (rest ≡ and_those rest' q)) ⊎ ((vs : List A) × (q ≡ before vs (answer y rest)))
    by (inl h) = inl (x ∷ h.0, h.1, ap (answer x) h.2, h.3)
    by (inr h) = inr h

-- at most one of xs is own
abbrev IsSole : {A : Type 0} → (A → Bool) → List A → Type 0
IsSole own [] = Unit {0}
IsSole {A = A} own (x ∷ xs) = ((z : A) → IsIn z xs → own x ≡ true → own z ≡ true → ⊥) × IsSole own xs

module _ (P : Program) (L : Engine) {A B : Type 0} (n : ℕ) (y : B) (own : A → Bool) (f g : A → Run (Option B)) (h : A → Answers B) (f_falls : (x : A) → NeverRises (f x)) (g_falls : (x : A) → NeverRises (g x))
    (next : (x : A) → IsNext n y (f x) (h x)) (first : (x : A) → IsFirst n (g x) (h x)) where
  next_own : (xs : List A) → ((x : A) → IsIn x xs → Has y (h x) → own x ≡ true) → IsSole own xs → IsNext n y (own_and_after P L.below own f g xs) (for_each h (answers_of xs))
  next_own [] owns sole given rest q b i = absurd (nothing_there y given rest q)
  next_own (x ∷ xs) owns sole given rest q b i =
      by (split_those y (h x) (for_each h (answers_of xs)) given rest q) (λ us e. next_own xs (λ z j. owns z (inr j)) sole.1 us rest e b i)
    where
      at_own : (us : List B) (rest' : Answers B) → h x ≡ before us (answer y rest') → rest ≡ and_those rest' (for_each h (answers_of xs)) → FirstBy (or_else (f x) (first_of g xs) b) rest
      at_own us rest' e r =
          subst (FirstBy (or_else (f x) (first_of g xs) b)) (sym r)
          (else_by n b i (first_of g xs) (f x b) rest' (for_each h (answers_of xs)) (f_falls x b) (next x us rest' e b i) (first_first n g h g_falls first xs))

      behind : (vs : List B) → for_each h (answers_of xs) ≡ before vs (answer y rest) → FirstBy (own_and_after P L.below own f g xs b) rest → own x ≡ false → FirstBy (choose (own x) (or_else (f x) (first_of g xs)) (own_and_after P L.below own f g xs) b) rest
      behind vs e k o = subst (λ t. FirstBy (choose t (or_else (f x) (first_of g xs)) (own_and_after P L.below own f g xs) b) rest) (sym o) k

      not_own : (vs : List B) → for_each h (answers_of xs) ≡ before vs (answer y rest) → own x ≡ false
      not_own vs e =
          let z = has_each h (answers_of xs) y (subst (Has y) (sym e) (has_given y vs rest)) in
          let j = has_list z.0 xs z.1 in
          false_of (own x) (λ o. sole.0 z.0 j o (owns z.0 (inr j) z.2))
        where
          false_of : (t : Bool) → (t ≡ true → ⊥) → t ≡ false
          false_of true k = absurd (k refl)
          false_of false k = refl

      by : (((us : List B) × (rest' : Answers B) × (h x ≡ before us (answer y rest')) × (rest ≡ and_those rest' (for_each h (answers_of xs)))) ⊎ ((vs : List B) × (for_each h (answers_of xs) ≡ before vs (answer y rest)))) →
          ((us : List B) → for_each h (answers_of xs) ≡ before us (answer y rest) → FirstBy (own_and_after P L.below own f g xs b) rest) →
          FirstBy (choose (own x) (or_else (f x) (first_of g xs)) (own_and_after P L.below own f g xs) b) rest
      by (inl s) more =
          let o = owns x (inl refl) (subst (Has y) (sym s.2) (has_given y s.0 s.1)) in
          subst (λ t. FirstBy (choose t (or_else (f x) (first_of g xs)) (own_and_after P L.below own f g xs) b) rest) (sym o) (at_own s.0 s.1 s.2 s.3)
      by (inr s) more = behind s.0 s.1 (more s.0 s.1) (not_own s.0 s.1)

-- ---- bindings that grow

abbrev Keeps : Binding → Binding → Type 0
Keeps σ τ = (x : Variable) → binds σ x ≡ true → (binds τ x ≡ true) × (look_up τ x ≡ look_up σ x)

keeps_end : (σ es : Binding) → Keeps σ (σ ++ es)
keeps_end [] es x h = cc
keeps_end (e ∷ σ) es x h = by (keeps_end σ es x) (same_variable e.0 x) h
  where
    by : (binds σ x ≡ true → (binds (σ ++ es) x ≡ true) × (look_up (σ ++ es) x ≡ look_up σ x)) → (t : Bool) → (t || binds σ x) ≡ true →
        ((t || binds (σ ++ es) x) ≡ true) × ((if t then e.1 else look_up (σ ++ es) x) ≡ (if t then e.1 else look_up σ x))
    by k true h = (refl, refl)
    by k false h = k h

keeps_itself : (σ : Binding) → Keeps σ σ
keeps_itself σ x h = (h, refl)

keeps_through : (σ τ υ : Binding) → Keeps σ τ → Keeps τ υ → Keeps σ υ
keeps_through σ τ υ h k x b = let p = h x b in let q = k x p.0 in (q.0, q.1 ∙ p.1)

-- σ with x bound, if it wasn't
abbrev bound_first : Binding → Variable → Tree → Binding
bound_first σ x v = if binds σ x then σ else σ ++ (x, v) ∷ []

keeps_bound : (σ : Binding) (x : Variable) (v : Tree) → Keeps σ (bound_first σ x v)
keeps_bound σ x v = by (binds σ x)
  where
    by : (t : Bool) → Keeps σ (if t then σ else σ ++ (x, v) ∷ [])
    by true = keeps_itself σ
    by false = keeps_end σ ((x, v) ∷ [])

keeps_extend : (σ : Binding) (xs : List Variable) (vs : List Tree) → Keeps σ (extend σ xs vs)
keeps_extend σ [] vs = keeps_itself σ
keeps_extend σ (x ∷ xs) [] = keeps_itself σ
keeps_extend σ (x ∷ xs) (v ∷ vs) = keeps_through σ (bound_first σ x v) (extend (bound_first σ x v) xs vs) (keeps_bound σ x v) (keeps_extend (bound_first σ x v) xs vs)

binds_end : (σ : Binding) (x : Variable) (v : Tree) → binds σ x ≡ false → (binds (σ ++ (x, v) ∷ []) x ≡ true) × (look_up (σ ++ (x, v) ∷ []) x ≡ v)
binds_end [] x v h = (ap (λ t. t || false) (same_itself x), ap (λ t. if t then v else variable x.0 x.1) (same_itself x))
binds_end (e ∷ σ) x v h = by (binds_end σ x v) (same_variable e.0 x) h
  where
    by : (binds σ x ≡ false → (binds (σ ++ (x, v) ∷ []) x ≡ true) × (look_up (σ ++ (x, v) ∷ []) x ≡ v)) → (t : Bool) → (t || binds σ x) ≡ false →
        ((t || binds (σ ++ (x, v) ∷ []) x) ≡ true) × ((if t then e.1 else look_up (σ ++ (x, v) ∷ []) x) ≡ v)
    by k true h = cc
    by k false h = k h

-- another variable is bound as before
other_end : (σ : Binding) (x z : Variable) (v : Tree) → same_variable x z ≡ false → (binds (σ ++ (x, v) ∷ []) z ≡ binds σ z) × (look_up (σ ++ (x, v) ∷ []) z ≡ look_up σ z)
other_end [] x z v h = (ap (λ t. t || false) h, ap (λ t. if t then v else variable z.0 z.1) h)
other_end (e ∷ σ) x z v h = let p = other_end σ x z v h in (ap (λ t. same_variable e.0 z || t) p.0, ap (λ t. if same_variable e.0 z then e.1 else t) p.1)

other_bound : (σ : Binding) (x z : Variable) (v : Tree) → same_variable x z ≡ false → (binds (bound_first σ x v) z ≡ binds σ z) × (look_up (bound_first σ x v) z ≡ look_up σ z)
other_bound σ x z v h = by (binds σ x)
  where
    by : (t : Bool) → (binds (if t then σ else σ ++ (x, v) ∷ []) z ≡ binds σ z) × (look_up (if t then σ else σ ++ (x, v) ∷ []) z ≡ look_up σ z)
    by true = (refl, refl)
    by false = other_end σ x z v h

same_turned : (x z : Variable) → same_variable x z ≡ false → same_variable z x ≡ false
same_turned x z h = by (same_variable z x) refl
  where
    by : (t : Bool) → same_variable z x ≡ t → t ≡ false
    by true e = let q = same-is z x e in let k : same_variable x z ≡ true = ap (λ a. same_variable x a) q ∙ same_itself x in absurd (clash (sym h ∙ k))
      where
        clash : false ≡ true → ⊥
        clash e = cc
    by false e = refl

module _ (th : ℕ → Theory) where
  -- the values agree with what is bound first
  agree_bound : (σ : Binding) (x : Variable) (v : Tree) (xs : List Variable) (vs : List Tree) → has_variable xs x ≡ false → agree th σ xs vs ≡ agree th (bound_first σ x v) xs vs
  agree_bound σ x v [] vs h = refl
  agree_bound σ x v (z ∷ xs) [] h = refl
  agree_bound σ x v (z ∷ xs) (w ∷ vs) h =
      let e = or_parts (same_variable z x) (has_variable xs x) h in
      let o = other_bound σ x z v (same_turned z x e.0) in
      ap₂ (λ a b. a && b) (ap₂ (λ a b. not a || same_tree (norm th b) w) (sym o.0) (sym o.1)) (agree_bound σ x v xs vs e.1)

  both : (a b : Bool) → (a && b) ≡ true → (a ≡ true) × (b ≡ true)
  both true b e = (refl, e)
  both false b e = cc

  and_both : (a b : Bool) → a ≡ true → b ≡ true → (a && b) ≡ true
  and_both a b e f = ap₂ (λ x y. x && y) e f

  -- what x is bound to has the value v
  bound_value : (σ : Binding) (x : Variable) (v : Tree) → norm th v ≡ v → (not (binds σ x) || same_tree (norm th (look_up σ x)) v) ≡ true → (binds (bound_first σ x v) x ≡ true) × (norm th (look_up (bound_first σ x v) x) ≡ v)
  bound_value σ x v n h = by (binds σ x) refl h
    where
      by : (t : Bool) → binds σ x ≡ t → (not t || same_tree (norm th (look_up σ x)) v) ≡ true → (binds (if t then σ else σ ++ (x, v) ∷ []) x ≡ true) × (norm th (look_up (if t then σ else σ ++ (x, v) ∷ []) x) ≡ v)
      by true e k = (e, same_tree_true (norm th (look_up σ x)) v k)
      by false e k = let p = binds_end σ x v e in (p.0, ap (norm th) p.1 ∙ n)

  -- what keeps an extension agrees with its values
  extended_agrees : (σ τ : Binding) (xs : List Variable) (vs : List Tree) → Distinct xs → AreNorms th vs → length vs ≡ length xs → agree th σ xs vs ≡ true → Keeps (extend σ xs vs) τ → agree th τ xs vs ≡ true
  extended_agrees σ τ [] vs d n l a k = refl
  extended_agrees σ τ (x ∷ xs) [] d n l a k = cc
  extended_agrees σ τ (x ∷ xs) (v ∷ vs) d n l a k =
      let p = both (not (binds σ x) || same_tree (norm th (look_up σ x)) v) (agree th σ xs vs) a in
      let b = bound_value σ x v n.0 p.0 in
      let e = keeps_extend (bound_first σ x v) xs vs x b.0 in
      let t = k x e.0 in
      let m : norm th (look_up τ x) ≡ v = ap (norm th) (t.1 ∙ e.1) ∙ b.1 in
      let s : same_tree (norm th (look_up τ x)) v ≡ true = ap (λ z. same_tree z v) m ∙ same_tree_itself v in
      let len : length vs ≡ length xs = cc in
      and_both (not (binds τ x) || same_tree (norm th (look_up τ x)) v) (agree th τ xs vs)
      (ap (λ z. not (binds τ x) || z) s ∙ or_true (not (binds τ x)))
      (extended_agrees (bound_first σ x v) τ xs vs d.1 n.1 len (sym (agree_bound σ x v xs vs d.0) ∙ p.1) k)
    where
      or_true : (b : Bool) → (b || true) ≡ true
      or_true true = refl
      or_true false = refl

  -- all are bound
  abbrev BindsAll : Binding → List Variable → Type 0
  BindsAll τ [] = Unit {0}
  BindsAll τ (x ∷ xs) = (binds τ x ≡ true) × BindsAll τ xs

  same_values : (τ : Binding) (xs : List Variable) (vs ws : List Tree) → BindsAll τ xs → length vs ≡ length xs → length ws ≡ length xs → agree th τ xs vs ≡ true → agree th τ xs ws ≡ true → vs ≡ ws
  same_values τ [] [] [] b l m h k = refl
  same_values τ [] [] (w ∷ ws) b l m h k = cc
  same_values τ [] (v ∷ vs) ws b l m h k = cc
  same_values τ (x ∷ xs) [] ws b l m h k = cc
  same_values τ (x ∷ xs) (v ∷ vs) [] b l m h k = cc
  same_values τ (x ∷ xs) (v ∷ vs) (w ∷ ws) b l m h k =
      let p = both (not (binds τ x) || same_tree (norm th (look_up τ x)) v) (agree th τ xs vs) h in
      let q = both (not (binds τ x) || same_tree (norm th (look_up τ x)) w) (agree th τ xs ws) k in
      let len : length vs ≡ length xs = cc in
      let len' : length ws ≡ length xs = cc in
      ap₂ (λ a as_. a ∷ as_) (sym (value_is v p.0) ∙ value_is w q.0) (same_values τ xs vs ws b.1 len len' p.1 q.1)
    where
      value_is : (v : Tree) → (not (binds τ x) || same_tree (norm th (look_up τ x)) v) ≡ true → norm th (look_up τ x) ≡ v
      value_is v e = same_tree_true (norm th (look_up τ x)) v (subst (λ z. (not z || same_tree (norm th (look_up τ x)) v) ≡ true) b.0 e)

  binds_extended : (σ : Binding) (xs : List Variable) (vs : List Tree) (τ : Binding) → length vs ≡ length xs → Keeps (extend σ xs vs) τ → BindsAll τ xs
  binds_extended σ [] vs τ l k = tt
  binds_extended σ (x ∷ xs) [] τ l k = cc
  binds_extended σ (x ∷ xs) (v ∷ vs) τ l k =
      let len : length vs ≡ length xs = cc in
      ((k x (keeps_extend (bound_first σ x v) xs vs x (now (binds σ x) refl)).0).0, binds_extended (bound_first σ x v) xs vs τ len k)
    where
      now : (t : Bool) → binds σ x ≡ t → binds (if t then σ else σ ++ (x, v) ∷ []) x ≡ true
      now true e = e
      now false e = (binds_end σ x v e).0

-- ---- an asking for the next one takes no more than there is

module _ (P : Program) (L : Engine) (falls : Falls L.below) where
  own_falls : {A B : Type 0} (own : A → Bool) (f g : A → Run (Option B)) → ((x : A) → NeverRises (f x)) → ((x : A) → NeverRises (g x)) → (xs : List A) → NeverRises (own_and_after P L.below own f g xs)
  own_falls {B = B} own f g h k [] = gives_falls {A = Option B} None
  own_falls own f g h k (x ∷ xs) =
      choose_falls (own x) (or_else (f x) (first_of g xs)) (own_and_after P L.below own f g xs) (else_falls (f x) (first_of g xs) (h x) (first_falls g k xs)) (own_falls own f g h k xs)

  pub solve_after_falls : (last : Binding) (c : List Fragment) (σ : Binding) → NeverRises (solve_after P L.below last c σ)
  solve_after_falls last [] σ = gives_falls {A = Option Binding} None
  solve_after_falls last (equals t u ∷ c) σ =
      try_falls (L.below.eval (instance (look_up σ) t)) (λ v. and_try (L.below.eval (instance (look_up σ) u)) λ w. where_true (same_tree v w) (solve_after P L.below last c σ)) (falls.eval_falls (instance (look_up σ) t))
      λ v. try_falls (L.below.eval (instance (look_up σ) u)) (λ w. where_true (same_tree v w) (solve_after P L.below last c σ)) (falls.eval_falls (instance (look_up σ) u)) λ w. where_falls (same_tree v w) (solve_after P L.below last c σ) (solve_after_falls last c σ)
  solve_after_falls last (has_sort t s ∷ c) σ =
      try_falls (L.below.eval (instance (look_up σ) t)) (λ v. and_try (L.below.sorts v) λ ss. where_true (has_number ss s) (solve_after P L.below last c σ)) (falls.eval_falls (instance (look_up σ) t))
      λ v. try_falls (L.below.sorts v) (λ ss. where_true (has_number ss s) (solve_after P L.below last c σ)) (falls.sorts_fall v) λ ss. where_falls (has_number ss s) (solve_after P L.below last c σ) (solve_after_falls last c σ)
  solve_after_falls last (matches p u ∷ c) σ =
      let f : Solution → Run (Option Binding) = λ x. and_try (have_sorts L.below.sorts (variables p) x.values) λ ok. where_true ok (solve_after P L.below last c (extend σ (variables p) x.values)) in
      let g : Solution → Run (Option Binding) = λ x. and_try (have_sorts L.below.sorts (variables p) x.values) λ ok. where_true ok (solve P L.below c (extend σ (variables p) x.values)) in
      try_falls (L.below.eval (instance (look_up σ) u)) (λ v. own_and_after P L.below (λ x. agree P.sign.theory last (variables p) x.values) f g (keep (λ x. agree P.sign.theory σ (variables p) x.values) (solutions P.sign p v))) (falls.eval_falls (instance (look_up σ) u))
      λ v. own_falls (λ x. agree P.sign.theory last (variables p) x.values) f g
      (λ x. try_falls (have_sorts L.below.sorts (variables p) x.values) (λ ok. where_true ok (solve_after P L.below last c (extend σ (variables p) x.values))) (have_sorts_fall L.below.sorts falls.sorts_fall (variables p) x.values)
      λ ok. where_falls ok (solve_after P L.below last c (extend σ (variables p) x.values)) (solve_after_falls last c (extend σ (variables p) x.values)))
      (λ x. try_falls (have_sorts L.below.sorts (variables p) x.values) (λ ok. where_true ok (solve P L.below c (extend σ (variables p) x.values))) (have_sorts_fall L.below.sorts falls.sorts_fall (variables p) x.values)
      λ ok. where_falls ok (solve P L.below c (extend σ (variables p) x.values)) (solve_falls P L.below falls c (extend σ (variables p) x.values)))
      (keep (λ x. agree P.sign.theory σ (variables p) x.values) (solutions P.sign p v))
  solve_after_falls last (reaches t u ∷ c) σ = gives_falls {A = Option Binding} None

-- ---- the solutions of a fragment

module _ (P : Program) (lawful : IsLawful P.sign) where
  abbrev th : ℕ → Theory
  th = P.sign.theory

  -- a solution of the list has no context, and a normal form for each variable
  record IsPlain (p : Tree) (x : Solution) : Type 0 where
    values : List Tree
    is : x ≡ plain values
    each : length values ≡ length (variables p)
    norms : AreNorms th values

  listed_plain : (p t : Tree) (x : Solution) → IsIn x (solutions P.sign p t) → IsPlain p x
  listed_plain p t x listed =
      let i = (from_keep (makes_bare P.sign p) x (fitting th p t) listed).0 in
      let keeping : List Tree → Bool = λ vs. same_tree (norm th (with_values p vs)) t in
      let all = tuples (length (variables p)) (map (norm th) (candidates th p t)) in
      let a = from_map plain (keep keeping all) x (from_ordered (compare th p) (compare_total th p) x (map plain (keep keeping all)) i) in
      let b = from_keep keeping a.0 all a.1 in
      let d = from_tuples (length (variables p)) a.0 (map (norm th) (candidates th p t)) b.0 in
      record { values = a.0; is = a.2; each = d.0; norms = norms_among th lawful.theories (candidates th p t) a.0 d.1 }

  -- a part of an ascending list is ascending
  kept_after : (c : Solution → Solution → Ordering) (f : Solution → Bool) (x : Solution) (ys : List Solution) → AllAfter c x ys → AllAfter c x (keep f ys)
  kept_after c f x [] a = tt
  kept_after c f x (y ∷ ys) a = by (kept_after c f x ys a.1) (f y)
    where
      by : AllAfter c x (keep f ys) → (t : Bool) → AllAfter c x (if t then y ∷ keep f ys else keep f ys)
      by h true = (a.0, h)
      by h false = h

  kept_ascending : (c : Solution → Solution → Ordering) (f : Solution → Bool) (ys : List Solution) → IsAscending c ys → IsAscending c (keep f ys)
  kept_ascending c f [] a = tt
  kept_ascending c f (y ∷ ys) a = by (kept_ascending c f ys a.1) (f y)
    where
      by : IsAscending c (keep f ys) → (t : Bool) → IsAscending c (if t then y ∷ keep f ys else keep f ys)
      by h true = (kept_after c f y ys a.0, h)
      by h false = h

  after_each : (c : Solution → Solution → Ordering) (x : Solution) (ys : List Solution) → AllAfter c x ys → (z : Solution) → IsIn z ys → c x z ≡ Less
  after_each c x [] a z i = absurd i
  after_each c x (y ∷ ys) a z (inl e) = subst (λ w. c x w ≡ Less) (sym e) a.0
  after_each c x (y ∷ ys) a z (inr i) = after_each c x ys a.1 z i

  not_itself : (p : Tree) (x : Solution) → compare th p x x ≡ Less → ⊥
  not_itself p x e = no (compare th p x x) e ((compare_total th p).antisymm x x)
    where
      no : (o : Ordering) → o ≡ Less → o ≡ ordering_reverse o → ⊥
      no Less e q = cc
      no Equal e q = cc
      no Greater e q = cc

  module _ (p : Tree) (own : Solution → Bool) (one_own : (x z : Solution) → IsPlain p x → IsPlain p z → own x ≡ true → own z ≡ true → x ≡ z) where
    sole : (xs : List Solution) → ((x : Solution) → IsIn x xs → IsPlain p x) → IsAscending (compare th p) xs → IsSole own xs
    sole [] h a = tt
    sole (x ∷ xs) h a = (
      λ z i o w. not_itself p x (subst (λ u. compare th p x u ≡ Less) (sym (one_own x z (h x (inl refl)) (h z (inr i)) o w)) (after_each (compare th p) x xs a.0 z i)),
      sole xs (λ z i. h z (inr i)) a.1,
    )

  ascending : (p t : Tree) → IsAscending (compare th p) (solutions P.sign p t)
  ascending p t = kept_ascending (compare th p) (makes_bare P.sign p) (fitting th p t) (
      ordered_ascending (compare th p) (compare_total th p) (map plain (keep (λ vs. same_tree (norm th (with_values p vs)) t) (tuples (length (variables p)) (map (norm th) (candidates th p t))))))

  plain_values : (p : Tree) (x : Solution) (h : IsPlain p x) → x.values ≡ h.values
  plain_values p x h = ap (λ z. z.values) h.is

  module _ (L : Engine) (falls : Falls L.below) (grows : IsLargerLevel L.below L.below) where
    abbrev chosen : Tree → Tree → Binding → List Solution
    chosen p v σ = keep (λ x. agree th σ (variables p) x.values) (solutions P.sign p v)

    abbrev match_one : List Fragment → Binding → Tree → Solution → Answers Binding
    match_one c σ p x = asking L.budget (have_sorts L.below.sorts (variables p) x.values) λ ok. when ok (shown P L c (extend σ (variables p) x.values))

    -- a solution of a condition keeps what was bound
    shown_keeps : (c : List Fragment) (σ y : Binding) → Has y (shown P L c σ) → Keeps σ y
    shown_keeps [] σ y (inl e) = subst (Keeps σ) (sym e) (keeps_itself σ)
    shown_keeps [] σ y (inr h) = absurd h
    shown_keeps (equals t u ∷ c) σ y h =
        let a = has_asking L.budget (L.below.eval (instance (look_up σ) t)) (λ v. asking L.budget (L.below.eval (instance (look_up σ) u)) λ w. when (same_tree v w) (shown P L c σ)) y h in
        let k = has_asking L.budget (L.below.eval (instance (look_up σ) u)) (λ w. when (same_tree a.0 w) (shown P L c σ)) y a.4 in
        shown_keeps c σ y (has_when (same_tree a.0 k.0) (shown P L c σ) y k.4).1
    shown_keeps (has_sort t s ∷ c) σ y h =
        let a = has_asking L.budget (L.below.eval (instance (look_up σ) t)) (λ v. asking L.budget (L.below.sorts v) λ ss. when (has_number ss s) (shown P L c σ)) y h in
        let k = has_asking L.budget (L.below.sorts a.0) (λ ss. when (has_number ss s) (shown P L c σ)) y a.4 in
        shown_keeps c σ y (has_when (has_number k.0 s) (shown P L c σ) y k.4).1
    shown_keeps (matches p u ∷ c) σ y h =
        let a = has_asking L.budget (L.below.eval (instance (look_up σ) u)) (λ v. for_each (match_one c σ p) (answers_of (chosen p v σ))) y h in
        let x = has_each (match_one c σ p) (answers_of (chosen p a.0 σ)) y a.4 in
        let k = has_asking L.budget (have_sorts L.below.sorts (variables p) (x.0).values) (λ ok. when ok (shown P L c (extend σ (variables p) (x.0).values))) y x.2 in
        keeps_through σ (extend σ (variables p) (x.0).values) y (keeps_extend σ (variables p) (x.0).values) (shown_keeps c (extend σ (variables p) (x.0).values) y (has_when k.0 (shown P L c (extend σ (variables p) (x.0).values)) y k.4).1)
    shown_keeps (reaches t u ∷ c) σ y h = absurd h

    module _ (last : Binding) where
      abbrev after : List Fragment → Binding → Tree → Solution → Run (Option Binding)
      after c σ p x = and_try (have_sorts L.below.sorts (variables p) x.values) λ ok. where_true ok (solve_after P L.below last c (extend σ (variables p) x.values))

      -- what a step's list holds keeps the step's binding
      kept_at : (c : List Fragment) (σ : Binding) (p : Tree) (x : Solution) → Has last (match_one c σ p x) → Keeps (extend σ (variables p) x.values) last
      kept_at c σ p x h =
          let k = has_asking L.budget (have_sorts L.below.sorts (variables p) x.values) (λ ok. when ok (shown P L c (extend σ (variables p) x.values))) last h in
          shown_keeps c (extend σ (variables p) x.values) last (has_when k.0 (shown P L c (extend σ (variables p) x.values)) last k.4).1

      own_of : (c : List Fragment) (σ : Binding) (p v : Tree) (x : Solution) → IsIn x (chosen p v σ) → Has last (match_one c σ p x) → agree th last (variables p) x.values ≡ true
      own_of c σ p v x i h =
          let k = from_keep (λ z. agree th σ (variables p) z.values) x (solutions P.sign p v) i in
          let q = listed_plain p v x k.0 in
          let e = plain_values p x q in
          extended_agrees th σ last (variables p) x.values (distinct p [] tt) (subst (AreNorms th) (sym e) q.norms) (ap length e ∙ q.each) k.1 (kept_at c σ p x h)

      one_own : (p : Tree) → BindsAll th last (variables p) → (x z : Solution) → IsPlain p x → IsPlain p z → agree th last (variables p) x.values ≡ true → agree th last (variables p) z.values ≡ true → x ≡ z
      one_own p b x z h k o w =
          h.is ∙ (ap plain (same_values th last (variables p) h.values k.values b h.each k.each (subst (λ u. agree th last (variables p) u ≡ true) (plain_values p x h) o) (subst (λ u. agree th last (variables p) u ≡ true) (plain_values p z k) w)) ∙ sym k.is)

      after_falls : (c : List Fragment) (σ : Binding) (p : Tree) (x : Solution) → NeverRises (after c σ p x)
      after_falls c σ p x =
          try_falls (have_sorts L.below.sorts (variables p) x.values) (λ ok. where_true ok (solve_after P L.below last c (extend σ (variables p) x.values))) (have_sorts_fall L.below.sorts falls.sorts_fall (variables p) x.values)
          λ ok. where_falls ok (solve_after P L.below last c (extend σ (variables p) x.values)) (solve_after_falls P L falls last c (extend σ (variables p) x.values))

      at_value : (c : List Fragment) (σ : Binding) (p : Tree) → ((τ : Binding) → IsNext L.budget last (solve_after P L.below last c τ) (shown P L c τ)) → (v : Tree) →
          IsNext L.budget last (own_and_after P L.below (λ x. agree th last (variables p) x.values) (after c σ p) (one P L falls grows c σ p) (chosen p v σ)) (for_each (match_one c σ p) (answers_of (chosen p v σ)))
      at_value c σ p more v given rest e b i =
          let h = has_each (match_one c σ p) (answers_of (chosen p v σ)) last (subst (Has last) (sym e) (has_given last given rest)) in
          let k = from_keep (λ z. agree th σ (variables p) z.values) h.0 (solutions P.sign p v) (has_list h.0 (chosen p v σ) h.1) in
          let q = listed_plain p v h.0 k.0 in
          let n : length (h.0).values ≡ length (variables p) = ap length (plain_values p h.0 q) ∙ q.each in
          let all = binds_extended th σ (variables p) (h.0).values last n (kept_at c σ p h.0 h.2) in
          let own : Solution → Bool = λ x. agree th last (variables p) x.values in
          next_own P L L.budget last own (after c σ p) (one P L falls grows c σ p) (match_one c σ p) (after_falls c σ p) (one_falls P L falls grows c σ p)
          (λ x. next_try L.budget last (have_sorts L.below.sorts (variables p) x.values) (λ ok. where_true ok (solve_after P L.below last c (extend σ (variables p) x.values))) (λ ok. when ok (shown P L c (extend σ (variables p) x.values)))
          (have_sorts_grow L.below.sorts L.below.sorts grows.sorts_grow (variables p) x.values) (have_sorts_fall L.below.sorts falls.sorts_fall (variables p) x.values)
          (λ ok. next_where L.budget last ok (solve_after P L.below last c (extend σ (variables p) x.values)) (shown P L c (extend σ (variables p) x.values)) (more (extend σ (variables p) x.values))))
          (λ x. first_try L.budget (have_sorts L.below.sorts (variables p) x.values) (λ ok. where_true ok (solve P L.below c (extend σ (variables p) x.values))) (λ ok. when ok (shown P L c (extend σ (variables p) x.values)))
          (have_sorts_grow L.below.sorts L.below.sorts grows.sorts_grow (variables p) x.values) (have_sorts_fall L.below.sorts falls.sorts_fall (variables p) x.values)
          λ ok. first_where L.budget ok (solve P L.below c (extend σ (variables p) x.values)) (shown P L c (extend σ (variables p) x.values)) (solve_first P L falls grows c (extend σ (variables p) x.values)))
          (chosen p v σ) (own_of c σ p v)
          (sole p own (one_own p all) (chosen p v σ) (λ x j. listed_plain p v x (from_keep (λ z. agree th σ (variables p) z.values) x (solutions P.sign p v) j).0)
          (kept_ascending (compare th p) (λ z. agree th σ (variables p) z.values) (solutions P.sign p v) (ascending p v)))
          given rest e b i

      pub after_next : (c : List Fragment) (σ : Binding) → IsNext L.budget last (solve_after P L.below last c σ) (shown P L c σ)
      after_next [] σ [] rest e b i = let h : no_more ≡ rest = tail_of σ last no_more rest e in sym h
        where
          tail_of : (x y : Binding) (s t : Answers Binding) → answer x s ≡ answer y t → s ≡ t
          tail_of x y s t e = cc
      after_next [] σ (x ∷ given) rest e b i = absurd (nothing_there last given rest (tail_of σ x no_more (before given (answer last rest)) e))
        where
          tail_of : (x y : Binding) (s t : Answers Binding) → answer x s ≡ answer y t → s ≡ t
          tail_of x y s t e = cc
      after_next (equals t u ∷ c) σ given rest e b i =
          next_try L.budget last (L.below.eval (instance (look_up σ) t)) (λ v. and_try (L.below.eval (instance (look_up σ) u)) λ w. where_true (same_tree v w) (solve_after P L.below last c σ))
          (λ v. asking L.budget (L.below.eval (instance (look_up σ) u)) λ w. when (same_tree v w) (shown P L c σ)) (grows.eval_grows (instance (look_up σ) t)) (falls.eval_falls (instance (look_up σ) t))
          (λ v. next_try L.budget last (L.below.eval (instance (look_up σ) u)) (λ w. where_true (same_tree v w) (solve_after P L.below last c σ)) (λ w. when (same_tree v w) (shown P L c σ))
          (grows.eval_grows (instance (look_up σ) u)) (falls.eval_falls (instance (look_up σ) u))
          (λ w. next_where L.budget last (same_tree v w) (solve_after P L.below last c σ) (shown P L c σ) (after_next c σ)))
          given rest e b i
      after_next (has_sort t s ∷ c) σ given rest e b i =
          next_try L.budget last (L.below.eval (instance (look_up σ) t)) (λ v. and_try (L.below.sorts v) λ ss. where_true (has_number ss s) (solve_after P L.below last c σ))
          (λ v. asking L.budget (L.below.sorts v) λ ss. when (has_number ss s) (shown P L c σ)) (grows.eval_grows (instance (look_up σ) t)) (falls.eval_falls (instance (look_up σ) t))
          (λ v. next_try L.budget last (L.below.sorts v) (λ ss. where_true (has_number ss s) (solve_after P L.below last c σ)) (λ ss. when (has_number ss s) (shown P L c σ))
          (grows.sorts_grow v) (falls.sorts_fall v)
          (λ ss. next_where L.budget last (has_number ss s) (solve_after P L.below last c σ) (shown P L c σ) (after_next c σ)))
          given rest e b i
      after_next (matches p u ∷ c) σ given rest e b i =
          next_try L.budget last (L.below.eval (instance (look_up σ) u)) (λ v. own_and_after P L.below (λ x. agree th last (variables p) x.values) (after c σ p) (one P L falls grows c σ p) (chosen p v σ))
          (λ v. for_each (match_one c σ p) (answers_of (chosen p v σ))) (grows.eval_grows (instance (look_up σ) u)) (falls.eval_falls (instance (look_up σ) u))
          (λ v. at_value c σ p (λ τ. after_next c τ) v) given rest e b i
      after_next (reaches t u ∷ c) σ given rest e b i = absurd (nothing_there last given rest e)

pub askings_are_right : AskingsAreRight
askings_are_right P lawful k B b =
    let L = engine_of P k B b in
    let f = levels_fall P B k in
    let g = larger P k k B B (le_itself k) (le_itself B) in
    (λ c σ. solve_first P L f g c σ b (le_itself b), λ c σ last given rest e. after_next P lawful L f g last c σ given rest e b (le_itself b))
  where
    le_itself : (n : ℕ) → n ≤ n
    le_itself n = omega arith
