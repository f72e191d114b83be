-- The head of a membership matches operators over arguments alone, and its values are smaller than what it is matched with.
use Rattle.std.proofs.Common.{◌≡◌, ℕ, ◌<◌, ◌≤◌, ◌^◌, List, [], ◌∷◌, ◌++◌, map, Bool, true, false, ◌||◌, if◌then◌else◌, length, None, inl, inr, refl, sym, ◌∙◌, ap, subst, arith}
use Rattle.mau_terms.specs.Tree.{Tree, variable, numeral, apply, Trees, no_trees, tree, node, trees_of}
use Rattle.mau_terms.specs.Norm.{unit_tree, all_pieces, arrange, finish, made, build, norm, norms}
use Rattle.mau_terms.specs.Axioms.{Axiom, associativity, commutativity, left_identity, right_identity, successor_of_numeral, AxiomStep, left_to_right, right_to_left, under_operator, AxiomStepIn, in_first, in_later}
use Rattle.mau_terms.specs.Bare.{TermSignature, IsBareIn, AreBareIn, IsBare, EqualModulo, same_term, one_step, IsLawful}
use Rattle.mau_terms.specs.Reading.{nest, reading, readings}
use Rattle.mau_terms.specs.Laws.{AreNorms}
use Rattle.mau_terms.specs.Subst.{Variable, same_variable, value_at, has_variable, variables, with_values, instance, instances, Occurs, OccursIn}
use Rattle.mau_terms.specs.Finite.{IsIn, candidates}
use Rattle.mau_terms.specs.declared.theory.Identity.{Identity}
use Rattle.mau_terms.specs.declared.theory.Identity.TheVariants.{Const, Num}
use Rattle.mau_terms.specs.declared.theory.Theory.{Theory}
use Rattle.mau_terms.proofs.Law.{equal_norm, equal_reading}
use Rattle.mau_terms.proofs.Pieces.{alone_element, list_of-trees_of}
use Rattle.mau_terms.proofs.Finite.{AllIn, AllIn-arrange, AllIn-itself}
use Rattle.mau_terms.proofs.Solutions.{with_values_norms}
use Rattle.mau_terms.proofs.Variables.{EachVar, variables_occur, values_of_variables, same-is}
use Rattle.mau_evaluation.specs.Program.{Membership, Program}
use Rattle.mau_evaluation.specs.Listing.{Solution, fitting, makes_bare, solutions}
use Rattle.mau_evaluation.specs.Evaluation.{size, sizes}
use Rattle.mau_evaluation.specs.HasSort.{IsHead, HasHeads}
use Rattle.mau_evaluation.proofs.Listed.{from_map, from_keep, was_tried, norms_among, norms_itself}
use Rattle.mau_evaluation.proofs.BareTerms.{bare_is, value_mapped, norms-readings, norm-reading-is}
use Rattle.mau_evaluation.proofs.Sized.{value_among, element_size}
use Rattle.mau_terms.proofs.Plain.{free_pieces, free_finish}

-- ---- uses of axioms under a substitution

module _ (th : ℕ → Theory) (g : Variable → Tree) where
  axiom_instance : {t u : Tree} → Axiom th t u → Axiom th (instance g t) (instance g u)
  axiom_instance (associativity f t u v e) = associativity f (instance g t) (instance g u) (instance g v) e
  axiom_instance (commutativity f t u e) = commutativity f (instance g t) (instance g u) e
  axiom_instance (left_identity f (Const c) t e) = left_identity f (Const c) (instance g t) e
  axiom_instance (left_identity f (Num n) t e) = left_identity f (Num n) (instance g t) e
  axiom_instance (right_identity f (Const c) t e) = right_identity f (Const c) (instance g t) e
  axiom_instance (right_identity f (Num n) t e) = right_identity f (Num n) (instance g t) e
  axiom_instance (successor_of_numeral f n e l) = successor_of_numeral f n e l

  mutual
    step_instance : {t u : Tree} → AxiomStep th t u → AxiomStep th (instance g t) (instance g u)
    step_instance (left_to_right x) = left_to_right (axiom_instance x)
    step_instance (right_to_left x) = right_to_left (axiom_instance x)
    step_instance (under_operator f x) = under_operator f (step_instances x)

    step_instances : {ts us : Trees} → AxiomStepIn th ts us → AxiomStepIn th (instances g ts) (instances g us)
    step_instances (in_first ts x) = in_first (instances g ts) (step_instance x)
    step_instances (in_later t x) = in_later (instance g t) (step_instances x)

-- a use of an axiom keeps the variables
module _ (th : ℕ → Theory) (y : Variable) where
  none_in_unit : (i : Identity) → Occurs y (unit_tree i) → ⊥
  none_in_unit (Const c) o = o
  none_in_unit (Num n) o = o

  axiom_keeps : {t u : Tree} → Axiom th t u → Occurs y t → Occurs y u
  axiom_keeps (associativity f t u v e) (inl (inl o)) = inl o
  axiom_keeps (associativity f t u v e) (inl (inr (inl o))) = inr (inl (inl o))
  axiom_keeps (associativity f t u v e) (inl (inr (inr o))) = absurd o
  axiom_keeps (associativity f t u v e) (inr (inl o)) = inr (inl (inr (inl o)))
  axiom_keeps (associativity f t u v e) (inr (inr o)) = absurd o
  axiom_keeps (commutativity f t u e) (inl o) = inr (inl o)
  axiom_keeps (commutativity f t u e) (inr (inl o)) = inl o
  axiom_keeps (commutativity f t u e) (inr (inr o)) = absurd o
  axiom_keeps (left_identity f i t e) (inl o) = absurd (none_in_unit i o)
  axiom_keeps (left_identity f i t e) (inr (inl o)) = o
  axiom_keeps (left_identity f i t e) (inr (inr o)) = absurd o
  axiom_keeps (right_identity f i t e) (inl o) = o
  axiom_keeps (right_identity f i t e) (inr (inl o)) = absurd (none_in_unit i o)
  axiom_keeps (right_identity f i t e) (inr (inr o)) = absurd o
  axiom_keeps (successor_of_numeral f n e l) (inl o) = absurd o
  axiom_keeps (successor_of_numeral f n e l) (inr o) = absurd o

  axiom_kept : {t u : Tree} → Axiom th t u → Occurs y u → Occurs y t
  axiom_kept (associativity f t u v e) (inl o) = inl (inl o)
  axiom_kept (associativity f t u v e) (inr (inl (inl o))) = inl (inr (inl o))
  axiom_kept (associativity f t u v e) (inr (inl (inr (inl o)))) = inr (inl o)
  axiom_kept (associativity f t u v e) (inr (inl (inr (inr o)))) = absurd o
  axiom_kept (associativity f t u v e) (inr (inr o)) = absurd o
  axiom_kept (commutativity f t u e) (inl o) = inr (inl o)
  axiom_kept (commutativity f t u e) (inr (inl o)) = inl o
  axiom_kept (commutativity f t u e) (inr (inr o)) = absurd o
  axiom_kept (left_identity f i t e) o = inr (inl o)
  axiom_kept (right_identity f i t e) o = inl o
  axiom_kept (successor_of_numeral f n e l) o = absurd o

  mutual
    step_keeps : {t u : Tree} → AxiomStep th t u → Occurs y t → Occurs y u
    step_keeps (left_to_right x) o = axiom_keeps x o
    step_keeps (right_to_left x) o = axiom_kept x o
    step_keeps (under_operator f x) o = steps_keep x o

    steps_keep : {ts us : Trees} → AxiomStepIn th ts us → OccursIn y ts → OccursIn y us
    steps_keep (in_first ts x) (inl o) = inl (step_keeps x o)
    steps_keep (in_first ts x) (inr o) = inr o
    steps_keep (in_later t x) (inl o) = inl o
    steps_keep (in_later t x) (inr o) = inr (steps_keep x o)

equal_keeps : (s : TermSignature) (y : Variable) {t u : Tree} → EqualModulo s t u → Occurs y t → Occurs y u
equal_keeps s y (same_term b) o = o
equal_keeps s y (one_step b x p) o = equal_keeps s y p (step_keeps s.theory y x o)

-- ---- instances by values of the right kinds

module _ (s : TermSignature) (g : Variable → Tree) where
  abbrev IsKinded : Type 0
  IsKinded = (i r : ℕ) → i < 2 ^ 32 → s.has_sort r ≡ true → IsBareIn s (g (i, r)) (s.kind_of r)

  mutual
    instance_bare : IsKinded → (t : Tree) (k : ℕ) → IsBareIn s t k → IsBareIn s (instance g t) k
    instance_bare h (variable i r) k b = subst (IsBareIn s (g (i, r))) b.2 (h i r b.0 b.1)
    instance_bare h (numeral n) k b = b
    instance_bare h (apply f ts) k b = (b.0, b.1, instances_bare h ts (s.arguments f) b.2)

    instances_bare : IsKinded → (ts : Trees) (ks : List ℕ) → AreBareIn s ts ks → AreBareIn s (instances g ts) ks
    instances_bare h no_trees ks b = b
    instances_bare h (tree t ts) [] b = absurd b
    instances_bare h (tree t ts) (k ∷ ks) b = (instance_bare h t k b.0, instances_bare h ts ks b.1)

  equal_instance : IsKinded → {t u : Tree} → EqualModulo s t u → EqualModulo s (instance g t) (instance g u)
  equal_instance h (same_term b) = same_term (b.0, instance_bare h _ b.0 b.1)
  equal_instance h (one_step b x p) = one_step (b.0, instance_bare h _ b.0 b.1) (step_instance s.theory g x) (equal_instance h p)

  mutual
    -- a value has the kind of its variable where both the pattern and the instance are bare
    kind_of_value : (y : Variable) (p : Tree) (k : ℕ) → IsBareIn s p k → IsBareIn s (instance g p) k → Occurs y p → IsBareIn s (g y) (s.kind_of y.1)
    kind_of_value y (variable i r) k b c o = subst (λ w. IsBareIn s (g w) (s.kind_of w.1)) (sym o) (subst (IsBareIn s (g (i, r))) (sym b.2) c)
    kind_of_value y (numeral n) k b c o = absurd o
    kind_of_value y (apply f ps) k b c o = kinds_of_values y ps (s.arguments f) b.2 c.2 o

    kinds_of_values : (y : Variable) (ps : Trees) (ks : List ℕ) → AreBareIn s ps ks → AreBareIn s (instances g ps) ks → OccursIn y ps → IsBareIn s (g y) (s.kind_of y.1)
    kinds_of_values y no_trees ks b c o = absurd o
    kinds_of_values y (tree p ps) [] b c o = absurd b
    kinds_of_values y (tree p ps) (k ∷ ks) b c (inl o) = kind_of_value y p k b.0 c.0 o
    kinds_of_values y (tree p ps) (k ∷ ks) b c (inr o) = kinds_of_values y ps ks b.1 c.1 o

-- ---- variables with values

variable_occurs : (P : Variable → Type 0) (xs : List Variable) (y : Variable) → EachVar P xs → has_variable xs y ≡ true → P y
variable_occurs P [] y h e = cc
variable_occurs P (x ∷ xs) y h e = by (variable_occurs P xs y h.1) (same_variable x y) refl e
  where
    by : (has_variable xs y ≡ true → P y) → (b : Bool) → same_variable x y ≡ b → (b || has_variable xs y) ≡ true → P y
    by rest true q e = subst P (same-is x y q) h.0
    by rest false q e = rest e

no_value_itself : (xs : List Variable) (vs : List Tree) (y : Variable) → has_variable xs y ≡ false → value_at xs vs y ≡ variable y.0 y.1
no_value_itself [] vs y e = refl
no_value_itself (x ∷ xs) [] y e = refl
no_value_itself (x ∷ xs) (v ∷ vs) y e = by (no_value_itself xs vs y) (same_variable x y) refl e
  where
    by : (has_variable xs y ≡ false → value_at xs vs y ≡ variable y.0 y.1) → (b : Bool) → same_variable x y ≡ b → (b || has_variable xs y) ≡ false → (if b then v else value_at xs vs y) ≡ variable y.0 y.1
    by rest true q e = cc
    by rest false q e = rest e

pub each_in : (P : Variable → Type 0) (xs : List Variable) (y : Variable) → EachVar P xs → IsIn y xs → P y
each_in P [] y h i = absurd i
each_in P (x ∷ xs) y h (inl e) = subst P (sym e) h.0
each_in P (x ∷ xs) y h (inr i) = each_in P xs y h.1 i

pub norm_in : (th : ℕ → Theory) (vs : List Tree) (v : Tree) → AreNorms th vs → IsIn v vs → norm th v ≡ v
norm_in th [] v n i = absurd i
norm_in th (u ∷ vs) v n (inl e) = subst (λ w. norm th w ≡ w) (sym e) n.0
norm_in th (u ∷ vs) v n (inr i) = norm_in th vs v n.1 i

-- ---- an operator without axioms but commutativity

plain_built : (h : Theory) (f : ℕ) (ts : List Tree) → h.assoc ≡ false → h.id ≡ None → h.succ ≡ false → build h f ts ≡ node f (arrange h.comm ts)
plain_built h f ts a i u =
    ap (λ w. made w h.comm h.id h.succ f ts) a ∙ (ap (λ w. made false h.comm w h.succ f ts) i ∙ (ap (λ w. made false h.comm None w f ts) u ∙
    (ap (λ w. finish false None false f (arrange h.comm w)) (free_pieces f ts) ∙ free_finish f (arrange h.comm ts))))

-- ---- solutions of a head

-- what is known of a listed solution
record IsFound (s : TermSignature) (p t : Tree) (x : Solution) : Type 0 where
  pub one_each : length x.values ≡ length (variables p)
  pub normal : AreNorms s.theory x.values
  pub whole : norm s.theory (with_values p x.values) ≡ t
  pub bare : IsBare s (with_values p (map (reading s.theory) x.values))

found : (s : TermSignature) → IsLawful s → (p t : Tree) (x : Solution) → IsIn x (solutions s p t) → IsFound s p t x
found s lawful p t x i =
    let a = from_keep (makes_bare s p) x (fitting s.theory p t) i in
    let h = was_tried s.theory p t x a.0 in
    record {
      one_each = h.one_each;
      normal = norms_among s.theory lawful.theories (candidates s.theory p t) x.values h.among;
      whole = h.whole;
      bare = bare_is s (with_values p (map (reading s.theory) x.values)) a.1;
    }

-- t is an operator over arguments that isn't associative, each value being no larger than one of them
record IsOver (th : ℕ → Theory) (t : Tree) (values : List Tree) : Type 0 where
  pub top : ℕ
  pub plain : (th top).assoc ≡ false
  pub elements : List Tree
  pub over : t ≡ node top elements
  pub within : (v : Tree) → IsIn v values → (n : Tree) × IsIn n elements × (size v ≤ size n)

-- an instance of what is no variable has its kind
kind_stays : (s : TermSignature) (g : Variable → Tree) (p : Tree) → IsHead s.theory (norm s.theory p) → (k j : ℕ) → IsBareIn s p k → IsBareIn s (instance g p) j → IsBareIn s (instance g p) k
kind_stays s g (variable i r) h k j b c = absurd h
kind_stays s g (numeral n) h k j b c = b
kind_stays s g (apply f ps) h k j b c = (c.0, b.1, c.2)

all_in : (ns : List Tree) (us : List Tree) → AllIn ns us → (n : Tree) → IsIn n ns → IsIn n us
all_in [] us a n i = absurd i
all_in (m ∷ ns) us a n (inl e) = subst (λ w. IsIn w us) (sym e) a.0
all_in (m ∷ ns) us a n (inr i) = all_in ns us a.1 n i

module _ (s : TermSignature) (lawful : IsLawful s) (p t : Tree) (b : IsBare s p) (head : IsHead s.theory (norm s.theory p)) (x : Solution) (h : IsFound s p t x) where
  abbrev g : Variable → Tree
  g = value_at (variables p) (map (reading s.theory) x.values)

  kinded : IsKinded s g
  kinded i r l e = by (has_variable (variables p) (i, r)) refl
    where
      by : (c : Bool) → has_variable (variables p) (i, r) ≡ c → IsBareIn s (value_at (variables p) (map (reading s.theory) x.values) (i, r)) (s.kind_of r)
      by true q =
          let o = variable_occurs (λ w. Occurs w p) (variables p) (i, r) (variables_occur p) q in
          kind_of_value s g (i, r) p b.0 b.1 (kind_stays s g p head b.0 h.bare.0 b.1 h.bare.1) o
      by false q = subst (λ w. IsBareIn s w (s.kind_of r)) (sym (no_value_itself (variables p) (map (reading s.theory) x.values) (i, r) q)) (l, e, refl)

  -- the instance of the normal form of p is t too
  normal_instance : norm s.theory (instance g (reading s.theory (norm s.theory p))) ≡ t
  normal_instance =
      sym (equal_norm s lawful (equal_instance s g kinded (equal_reading s lawful p b))) ∙
      (with_values_norms s.theory p (map (reading s.theory) x.values) x.values (norms-readings s.theory lawful.theories x.values h.normal ∙ sym (norms_itself s.theory lawful.theories x.values h.normal)) ∙ h.whole)

  -- a value is that of a variable of p
  value_of_variable : (v : Tree) → IsIn v x.values → (y : Variable) × Occurs y p × (norm s.theory (g y) ≡ v)
  value_of_variable v i =
      let xs = variables p in
      let m = from_map (value_at xs x.values) xs v (subst (IsIn v) (sym (values_of_variables p x.values h.one_each)) i) in
      let e : norm s.theory v ≡ v = norm_in s.theory x.values v h.normal i in (
        m.0,
        each_in (λ w. Occurs w p) xs m.0 (variables_occur p) m.1,
        ap (norm s.theory) (value_mapped (reading s.theory) (λ j r. refl) xs x.values m.0 ∙ ap (reading s.theory) (sym m.2)) ∙ norm-reading-is s.theory lawful.theories v e,
      )

  over_by : (n : Tree) → norm s.theory p ≡ n → IsHead s.theory n → IsOver s.theory t x.values
  over_by (variable i r) e k = absurd k
  over_by (numeral m) e k = absurd k
  over_by (apply f qs) e k =
      let ws = readings s.theory qs in
      let ns = norms s.theory (instances g (trees_of ws)) in
      let read : reading s.theory (norm s.theory p) ≡ node f ws = ap (reading s.theory) e ∙ ap (λ a. nest a f ws) k.0 in
      let over : t ≡ node f (arrange (s.theory f).comm ns) =
      sym (sym (ap (λ w. norm s.theory (instance g w)) read) ∙ normal_instance) ∙ plain_built (s.theory f) f ns k.0 k.1 k.2 in
      record { top = f; plain = k.0; elements = arrange (s.theory f).comm ns; over = over; within = λ v i. among v (value_of_variable v i) read }
    where
      among : (v : Tree) → (y : Variable) × Occurs y p × (norm s.theory (g y) ≡ v) → reading s.theory (norm s.theory p) ≡ node f (readings s.theory qs) →
          (n : Tree) × IsIn n (arrange (s.theory f).comm (norms s.theory (instances g (trees_of (readings s.theory qs))))) × (size v ≤ size n)
      among v y read =
          let ns = norms s.theory (instances g (trees_of (readings s.theory qs))) in
          let o : Occurs y.0 (node f (readings s.theory qs)) = subst (Occurs y.0) read (equal_keeps s y.0 (equal_reading s lawful p b) y.1) in
          let q = value_among s.theory lawful.theories g y.0 (trees_of (readings s.theory qs)) o in
          (q.0, all_in ns (arrange (s.theory f).comm ns) (AllIn-arrange (s.theory f).comm ns ns (AllIn-itself ns)) q.0 q.1, subst (λ w. size w ≤ size q.0) y.2 q.2)

over_arguments : (P : Program) → HasHeads P → (m : Membership) → IsIn m P.memberships → (t : Tree) (x : Solution) → IsIn x (solutions P.sign m.left t) → IsOver P.sign.theory t x.values
over_arguments P heads m i t x j =
    over_by P.sign heads.signature m.left t (heads.bare m i) (heads.head m i) x (found P.sign heads.signature m.left t x j) (norm P.sign.theory m.left) refl (heads.head m i)

-- ---- what the laws of sorts need

-- a tree that is an operator over arguments
abbrev pub IsApplied : Tree → Type 0
IsApplied (variable i s) = ⊥
IsApplied (numeral n) = ⊥
IsApplied (apply f ts) = Unit {0}

-- the values of a membership's head are smaller than what it is matched with
abbrev pub HeadsFall : Program → Type 0
HeadsFall P = (m : Membership) → IsIn m P.memberships → (t : Tree) (x : Solution) → IsIn x (solutions P.sign m.left t) → (v : Tree) → IsIn v x.values → size v < size t

pub heads_applied : (P : Program) → HasHeads P → (m : Membership) → IsIn m P.memberships → (t : Tree) (x : Solution) → IsIn x (solutions P.sign m.left t) → IsApplied t
heads_applied P heads m i t x j = let o = over_arguments P heads m i t x j in subst IsApplied (sym o.over) tt

-- the top of a term that a head matches isn't associative
abbrev pub HasPlainTop : (ℕ → Theory) → Tree → Type 0
HasPlainTop th (variable i s) = ⊥
HasPlainTop th (numeral n) = ⊥
HasPlainTop th (apply f ts) = (th f).assoc ≡ false

pub heads_plain : (P : Program) → HasHeads P → (m : Membership) → IsIn m P.memberships → (t : Tree) (x : Solution) → IsIn x (solutions P.sign m.left t) → HasPlainTop P.sign.theory t
heads_plain P heads m i t x j = let o = over_arguments P heads m i t x j in subst (HasPlainTop P.sign.theory) (sym o.over) o.plain

pub heads_fall : (P : Program) → HasHeads P → HeadsFall P
heads_fall P heads m i t x j v k =
    let o = over_arguments P heads m i t x j in
    let n = o.within v k in
    let l : size n.0 ≤ sizes (trees_of o.elements) = element_size (trees_of o.elements) n.0 (subst (IsIn n.0) (sym (list_of-trees_of o.elements)) n.1) in
    let z : size v ≤ size n.0 = n.2 in
    subst (λ w. size v < size w) (sym o.over) (omega arith)
