-- The top of the normal form of a bare term, by the tops of its arguments' normal forms.
use Rattle.std.proofs.Common.{◌≡◌, ℕ, ◌+◌, ◌<◌, ◌≤◌, map, get_or, List, [], ◌∷◌, ◌++◌, length, Bool, true, false, ◌&&◌, nat_lt, if◌then◌else◌, Option, Some, None, refl, sym, ◌∙◌, ap, ap₂, subst, arith, length-append}
use Rattle.mau_terms.specs.Tree.{Tree, variable, numeral, apply, Trees, no_trees, tree, node, trees_of}
use Rattle.mau_terms.specs.Norm.{greatest_numeral, unit_tree, is_unit, pieces, arrange, finish, over_one, made, build, norm, norms}
use Rattle.mau_terms.specs.Axioms.{binary, left_identity, right_identity, left_to_right}
use Rattle.mau_terms.specs.Reading.{nest, reading}
use Rattle.mau_terms.specs.Bare.{TermSignature, IsBareIn, AreBareIn, IsBare, IsLawful}
use Rattle.mau_terms.specs.declared.theory.Identity.{Identity}
use Rattle.mau_terms.specs.declared.theory.Identity.TheVariants.{Const, Num}
use Rattle.mau_terms.specs.View.{tree_of}
use Rattle.mau_terms.specs.declared.bare.Bare.{Bare}
use Rattle.mau_terms.proofs.Pieces.{Split, unit, many, one, split, unit_is_unit, unit_found}
use Rattle.mau_terms.proofs.Normal.{finish_long, unit_normal, normal_fixed}
use Rattle.mau_terms.proofs.Steps.{step_norm}
use Rattle.mau_terms.proofs.Chains.{last_bare}
use Rattle.mau_terms.proofs.Law.{equal_reading}
use Rattle.mau_terms.proofs.Finite.{length-arrange}
use Rattle.mau_terms.specs.declared.ids.OpId.{OpId}
use Rattle.mau_signature.specs.Signature.{SignatureOf, IsOperator}
use Rattle.mau_statement.specs.declared.tops.Top.{Top}
use Rattle.mau_statement.specs.declared.tops.Top.TheVariants.{Variable, Numeral, Constant, Operator}
use Rattle.mau_statement.specs.Tops.{operator, top_of, IsTopOver, is_unit_top, over_one_top, over_two_top}
use Rattle.mau_terms.proofs.Plain.{free_pieces}

-- ---- tops

pub top_is_unit : (u : Option Identity) (t : Tree) → is_unit u t ≡ is_unit_top u (top_of t)
top_is_unit None t = refl
top_is_unit (Some (Const c)) (variable i s) = refl
top_is_unit (Some (Const c)) (numeral n) = refl
top_is_unit (Some (Const c)) (apply g no_trees) = refl
top_is_unit (Some (Const c)) (apply g (tree t ts)) = refl
top_is_unit (Some (Num n)) (variable i s) = refl
top_is_unit (Some (Num n)) (numeral m) = refl
top_is_unit (Some (Num n)) (apply g no_trees) = refl
top_is_unit (Some (Num n)) (apply g (tree t ts)) = refl

top_over_one : (s : Bool) (f : ℕ) (t : Tree) → top_of (over_one s f t) ≡ over_one_top s (operator f) (top_of t)
top_over_one s f (variable i p) = refl
top_over_one s f (numeral n) = by (s && nat_lt n greatest_numeral)
  where
    by : (b : Bool) → top_of (if b then numeral (n + 1) else node f (numeral n ∷ [])) ≡ (if b then Numeral (n + 1) else Operator (operator f))
    by true = refl
    by false = refl
top_over_one s f (apply g no_trees) = refl
top_over_one s f (apply g (tree t ts)) = refl

top_finish : (a : Bool) (u : Option Identity) (s : Bool) (f : ℕ) (ts : List Tree) → 2 ≤ length ts → top_of (finish a u s f ts) ≡ Operator (operator f)
top_finish a u s f [] l = absurd (omega arith)
top_finish a u s f (t ∷ []) l = absurd (omega arith)
top_finish a u s f (t ∷ v ∷ ts) l = ap top_of (finish_long a u s f t v ts)

-- ---- tops over a signature

pub one_over : (s : SignatureOf) (b : Bool) (f : OpId) (t : Top) → IsOperator s f.0 → IsTopOver s (over_one_top b f t)
one_over s b f Variable h = h
one_over s b f (Numeral n) h = by (b && nat_lt n greatest_numeral)
  where
    by : (c : Bool) → IsTopOver s (if c then Numeral (n + 1) else Operator f)
    by true = tt
    by false = h
one_over s b f (Constant g) h = h
one_over s b f (Operator g) h = h

pub two_over : (s : SignatureOf) (id : Option Identity) (f : OpId) (t u : Top) → IsOperator s f.0 → IsTopOver s t → IsTopOver s u → IsTopOver s (over_two_top id f t u)
two_over s id f t u h x y = by (is_unit_top id t) (is_unit_top id u)
  where
    by : (a b : Bool) → IsTopOver s (if a then u else (if b then t else Operator f))
    by true b = y
    by false true = x
    by false false = h

-- an operator without associativity and identity, over a list
plain_made : (a c : Bool) (u : Option Identity) (s : Bool) (f : ℕ) (ts : List Tree) → a ≡ false → u ≡ None → made a c u s f ts ≡ finish false None s f (arrange c ts)
plain_made a c u s f ts ea eu =
    ap₂ (λ b v. made b c v s f ts) ea eu ∙ ap (λ w. finish false None s f (arrange c w)) (free_pieces f ts)

module _ (s : TermSignature) (lawful : IsLawful s) where
  -- these are not two trees
  abbrev NotTwo : Trees → Type 0
  NotTwo ts = (j k : ℕ) → AreBareIn s ts (j ∷ k ∷ []) → ⊥

  record IsPlain (f : ℕ) : Type 0 where
    assoc : (s.theory f).assoc ≡ false
    comm : (s.theory f).comm ≡ false
    id : (s.theory f).id ≡ None

  no_assoc : (f : ℕ) (ts : Trees) → NotTwo ts → AreBareIn s ts (s.arguments f) → (a : Bool) → (s.theory f).assoc ≡ a → a ≡ false
  no_assoc f ts n b true e = absurd (n (s.result f) (s.result f) (subst (AreBareIn s ts) (lawful.assoc_kinds f e) b))
  no_assoc f ts n b false e = refl

  no_comm : (f : ℕ) (ts : Trees) → NotTwo ts → AreBareIn s ts (s.arguments f) → (a : Bool) → (s.theory f).comm ≡ a → a ≡ false
  no_comm f ts n b true e = let k = lawful.comm_kinds f e in absurd (n k.0 k.0 (subst (AreBareIn s ts) k.1 b))
  no_comm f ts n b false e = refl

  no_id : (f : ℕ) (ts : Trees) → NotTwo ts → AreBareIn s ts (s.arguments f) → (u : Option Identity) → (s.theory f).id ≡ u → u ≡ None
  no_id f ts n b None e = refl
  no_id f ts n b (Some i) e = absurd (n (s.result f) (s.result f) (subst (AreBareIn s ts) (lawful.unit_kinds f i e).0 b))

  -- an operator over other than two terms has no axioms but the successor's
  is_plain : (f : ℕ) (ts : Trees) → NotTwo ts → AreBareIn s ts (s.arguments f) → IsPlain f
  is_plain f ts n b = record {
    assoc = no_assoc f ts n b (s.theory f).assoc refl;
    comm = no_comm f ts n b (s.theory f).comm refl;
    id = no_id f ts n b (s.theory f).id refl;
  }

  plain_norm : (f : ℕ) (ts : Trees) → IsPlain f → norm s.theory (apply f ts) ≡ finish false None (s.theory f).succ f (norms s.theory ts)
  plain_norm f ts p =
      plain_made (s.theory f).assoc (s.theory f).comm (s.theory f).id (s.theory f).succ f (norms s.theory ts) p.assoc p.id
      ∙ ap (λ c. finish false None (s.theory f).succ f (arrange c (norms s.theory ts))) p.comm

  -- ---- no term, one, and three or more

  pub top_none : (f k : ℕ) → IsBareIn s (apply f no_trees) k → top_of (norm s.theory (apply f no_trees)) ≡ Constant (operator f)
  top_none f k b = ap top_of (plain_norm f no_trees (is_plain f no_trees (λ j l h. h) b.2))

  pub top_one : (f k : ℕ) (t : Tree) → IsBareIn s (apply f (tree t no_trees)) k
      → top_of (norm s.theory (apply f (tree t no_trees))) ≡ over_one_top (s.theory f).succ (operator f) (top_of (norm s.theory t))
  top_one f k t b =
      ap top_of (plain_norm f (tree t no_trees) (is_plain f (tree t no_trees) (λ j l h. h.1) b.2))
      ∙ top_over_one (s.theory f).succ f (norm s.theory t)

  pub top_many : (f k : ℕ) (t u v : Tree) (ts : Trees) → IsBareIn s (apply f (tree t (tree u (tree v ts)))) k
      → top_of (norm s.theory (apply f (tree t (tree u (tree v ts))))) ≡ Operator (operator f)
  top_many f k t u v ts b =
      let all = tree t (tree u (tree v ts)) in
      ap top_of (plain_norm f all (is_plain f all (λ j l h. h.1.1) b.2))
      ∙ top_finish false None (s.theory f).succ f (norms s.theory all) (omega arith)

  -- ---- two terms

  -- no bare term has the normal form of an associative operator over nothing
  no_constant : (t : Tree) → IsBare s t → (f : ℕ) → (s.theory f).assoc ≡ true → norm s.theory t ≡ apply f no_trees → ⊥
  no_constant t bare f a e =
      let read : IsBare s (reading s.theory (apply f no_trees)) = subst (λ x. IsBare s (reading s.theory x)) e (last_bare (equal_reading s lawful t bare)) in
      let nested : IsBare s (apply f no_trees) = subst (λ b. IsBare s (nest b f [])) a read in
      subst (AreBareIn s no_trees) (lawful.assoc_kinds f a) nested.1.2

  -- other than an identity it has a piece
  some_pieces : (t : Tree) → IsBare s t → (f : ℕ) → is_unit (s.theory f).id (norm s.theory t) ≡ false
      → 1 ≤ length (pieces (s.theory f).assoc (s.theory f).id f (norm s.theory t))
  some_pieces t bare f n = by (split (s.theory f).assoc (s.theory f).id f (norm s.theory t))
    where
      by : Split (s.theory f).assoc (s.theory f).id f (norm s.theory t) → 1 ≤ length (pieces (s.theory f).assoc (s.theory f).id f (norm s.theory t))
      by (unit i eu et ep) =
          let yes : is_unit (s.theory f).id (norm s.theory t) ≡ true = ap₂ is_unit eu et ∙ unit_is_unit i in
          absurd (cc)
      by (many no_trees a et ep) = absurd (no_constant t bare f a et)
      by (many (tree x xs) a et ep) = omega (arith, ap length ep)
      by (one ep) = omega (arith, ap length ep)

  module _ (f : ℕ) (t u : Tree) (k : ℕ) (b : IsBareIn s (binary f t u) k) where
    parts : (IsBare s t) × (IsBare s u)
    parts = by (s.arguments f) b.2
      where
        by : (ks : List ℕ) → AreBareIn s (tree t (tree u no_trees)) ks → (IsBare s t) × (IsBare s u)
        by [] h = absurd h
        by (i ∷ []) h = absurd h.1
        by (i ∷ j ∷ ks) h = ((i, h.0), (j, h.1.0))

    neither : is_unit (s.theory f).id (norm s.theory t) ≡ false → is_unit (s.theory f).id (norm s.theory u) ≡ false → top_of (norm s.theory (binary f t u)) ≡ Operator (operator f)
    neither n m =
        let a = (s.theory f).assoc in
        let id = (s.theory f).id in
        let first = pieces a id f (norm s.theory t) in
        let second = pieces a id f (norm s.theory u) in
        let x = some_pieces t parts.0 f n in
        let y = some_pieces u parts.1 f m in
        let long : 2 ≤ length (arrange (s.theory f).comm (first ++ (second ++ []))) =
        omega (arith, x, y, length-arrange (s.theory f).comm (first ++ (second ++ [])), length-append first (second ++ []), length-append second []) in
        top_finish a id (s.theory f).succ f (arrange (s.theory f).comm (first ++ (second ++ []))) long

    unit_fixed : (i : Identity) → (s.theory f).id ≡ Some i → norm s.theory (unit_tree i) ≡ unit_tree i
    unit_fixed i e = normal_fixed s.theory (unit_tree i) (unit_normal s.theory lawful.theories f i e)

    left_unit : is_unit (s.theory f).id (norm s.theory t) ≡ true → norm s.theory (binary f t u) ≡ norm s.theory u
    left_unit e =
        let found = unit_found (s.theory f).id (norm s.theory t) e in
        ap (λ w. build (s.theory f) f (w ∷ norm s.theory u ∷ [])) (found.2 ∙ sym (unit_fixed found.0 found.1))
        ∙ step_norm s.theory lawful.theories (binary f (unit_tree found.0) u) u (left_to_right (left_identity f found.0 u found.1))

    right_unit : is_unit (s.theory f).id (norm s.theory u) ≡ true → norm s.theory (binary f t u) ≡ norm s.theory t
    right_unit e =
        let found = unit_found (s.theory f).id (norm s.theory u) e in
        ap (λ w. build (s.theory f) f (norm s.theory t ∷ w ∷ [])) (found.2 ∙ sym (unit_fixed found.0 found.1))
        ∙ step_norm s.theory lawful.theories (binary f t (unit_tree found.0)) t (left_to_right (right_identity f found.0 t found.1))

    pub top_two : top_of (norm s.theory (binary f t u)) ≡ over_two_top (s.theory f).id (operator f) (top_of (norm s.theory t)) (top_of (norm s.theory u))
    top_two =
        by (is_unit (s.theory f).id (norm s.theory t)) (is_unit (s.theory f).id (norm s.theory u)) refl refl
        ∙ ap₂ (λ x y. if x then top_of (norm s.theory u) else (if y then top_of (norm s.theory t) else Operator (operator f)))
        (top_is_unit (s.theory f).id (norm s.theory t)) (top_is_unit (s.theory f).id (norm s.theory u))
      where
        by : (x y : Bool) → is_unit (s.theory f).id (norm s.theory t) ≡ x → is_unit (s.theory f).id (norm s.theory u) ≡ y
            → top_of (norm s.theory (binary f t u)) ≡ (if is_unit (s.theory f).id (norm s.theory t) then top_of (norm s.theory u) else (if is_unit (s.theory f).id (norm s.theory u) then top_of (norm s.theory t) else Operator (operator f)))
        by true y e h = ap top_of (left_unit e) ∙ ap (λ b. if b then top_of (norm s.theory u) else (if is_unit (s.theory f).id (norm s.theory u) then top_of (norm s.theory t) else Operator (operator f))) (sym e)
        by false true e h =
            ap top_of (right_unit h)
            ∙ ap₂ (λ x z. if x then top_of (norm s.theory u) else (if z then top_of (norm s.theory t) else Operator (operator f))) (sym e) (sym h)
        by false false e h =
            neither e h
            ∙ ap₂ (λ x z. if x then top_of (norm s.theory u) else (if z then top_of (norm s.theory t) else Operator (operator f))) (sym e) (sym h)

  -- ---- the same over lists of terms of the code

  pub list_none : (f k : ℕ) (bs : List Bare) → IsBareIn s (node f (map tree_of bs)) k → length bs < 1 → top_of (norm s.theory (node f (map tree_of bs))) ≡ Constant (operator f)
  list_none f k [] b l = top_none f k b
  list_none f k (x ∷ bs) b l = absurd (omega arith)

  pub list_one : (f k : ℕ) (bs : List Bare) (x : Bare) → IsBareIn s (node f (map tree_of bs)) k → 1 ≤ length bs → length bs < 2 → x ≡ get_or bs 0 x
      → top_of (norm s.theory (node f (map tree_of bs))) ≡ over_one_top (s.theory f).succ (operator f) (top_of (norm s.theory (tree_of x)))
  list_one f k [] x b l m e = absurd (omega arith)
  list_one f k (y ∷ []) x b l m e = top_one f k (tree_of y) b ∙ ap (λ z. over_one_top (s.theory f).succ (operator f) (top_of (norm s.theory (tree_of z)))) (sym e)
  list_one f k (y ∷ z ∷ bs) x b l m e = absurd (omega arith)

  pub list_two : (f k : ℕ) (bs : List Bare) (x y : Bare) → IsBareIn s (node f (map tree_of bs)) k → 2 ≤ length bs → length bs < 3 → x ≡ get_or bs 0 x → y ≡ get_or bs 1 y
      → top_of (norm s.theory (node f (map tree_of bs))) ≡ over_two_top (s.theory f).id (operator f) (top_of (norm s.theory (tree_of x))) (top_of (norm s.theory (tree_of y)))
  list_two f k [] x y b l m e h = absurd (omega arith)
  list_two f k (v ∷ []) x y b l m e h = absurd (omega arith)
  list_two f k (v ∷ w ∷ []) x y b l m e h =
      top_two f (tree_of v) (tree_of w) k b
      ∙ ap₂ (λ p q. over_two_top (s.theory f).id (operator f) (top_of (norm s.theory (tree_of p))) (top_of (norm s.theory (tree_of q)))) (sym e) (sym h)
  list_two f k (v ∷ w ∷ z ∷ bs) x y b l m e h = absurd (omega arith)

  pub list_many : (f k : ℕ) (bs : List Bare) → IsBareIn s (node f (map tree_of bs)) k → 3 ≤ length bs → top_of (norm s.theory (node f (map tree_of bs))) ≡ Operator (operator f)
  list_many f k [] b l = absurd (omega arith)
  list_many f k (v ∷ []) b l = absurd (omega arith)
  list_many f k (v ∷ w ∷ []) b l = absurd (omega arith)
  list_many f k (v ∷ w ∷ z ∷ bs) b l = top_many f k (tree_of v) (tree_of w) (tree_of z) (trees_of (map tree_of bs)) b
