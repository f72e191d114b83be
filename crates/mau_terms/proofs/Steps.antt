-- A use of an axiom leaves the normal form as it is.
use Rattle.std.proofs.Common.{◌≡◌, ℕ, ◌+◌, ◌<◌, [], ◌∷◌, ◌++◌, Bool, true, false, if◌then◌else◌, Option, Some, None, refl, sym, ◌∙◌, ap, ap₂, subst, append_assoc, append-nil, lt-ltb}
use Rattle.mau_terms.specs.Tree.{Tree, numeral, apply, Trees, no_trees, node, list_of}
use Rattle.mau_terms.specs.Order.{sort_trees}
use Rattle.mau_terms.specs.Norm.{greatest_numeral, unit_tree, pieces, arrange, finish, made, build, norm, norms}
use Rattle.mau_terms.specs.Axioms.{Axiom, associativity, commutativity, left_identity, right_identity, successor_of_numeral, AxiomStep, left_to_right, right_to_left, under_operator, AxiomStepIn, in_first, in_later}
use Rattle.mau_terms.specs.Lawful.{AreLawful}
use Rattle.mau_terms.specs.declared.theory.Identity.{Identity}
use Rattle.mau_terms.specs.declared.theory.Identity.TheVariants.{Const, Num}
use Rattle.mau_terms.specs.declared.theory.Theory.{Theory}
use Rattle.mau_terms.proofs.Sorting.{sort_swap}
use Rattle.mau_terms.proofs.Pieces.{trees_of-list_of, Split, unit, many, one, split, unit-pieces, Each, Each-append, Each-arrange, arrange_left, arrange_right, arrange_one, arrange_none, IsPiece, pieces-finish}
use Rattle.mau_terms.proofs.Normal.{IsSettled, IsNormal, whole_pieces, norm_normal}

-- ---- one axiom over normal forms, at its operator

swapped : (a : Bool) (u : Option Identity) (s : Bool) (f : ℕ) (x y : Tree) → made a true u s f (x ∷ y ∷ []) ≡ made a true u s f (y ∷ x ∷ [])
swapped a u s f x y =
    let xs = pieces a u f x in
    let ys = pieces a u f y in
    ap (finish a u s f)
    (ap (λ w. sort_trees (xs ++ w)) (append-nil ys) ∙ sort_swap xs ys ∙ ap (λ w. sort_trees (ys ++ w)) (sym (append-nil xs)))

-- the pieces of what an associative operator makes of binary
pub pieces-made : (c : Bool) (u : Option Identity) (s : Bool) (f : ℕ) (x y : Tree) → Each (IsPiece true u f) (pieces true u f x) → Each (IsPiece true u f) (pieces true u f y) → pieces true u f (made true c u s f (x ∷ y ∷ [])) ≡ arrange c (pieces true u f x ++ pieces true u f y)
pieces-made c u s f x y p q =
    let xs = pieces true u f x in
    let ys = pieces true u f y in
    pieces-finish u s f (arrange c (xs ++ (ys ++ []))) (Each-arrange (IsPiece true u f) c (xs ++ (ys ++ [])) (Each-append (IsPiece true u f) xs (ys ++ []) p (Each-append (IsPiece true u f) ys [] q tt)))
    ∙ ap (λ w. arrange c (xs ++ w)) (append-nil ys)

regrouped : (c : Bool) (u : Option Identity) (s : Bool) (f : ℕ) (x y z : Tree) → Each (IsPiece true u f) (pieces true u f x) → Each (IsPiece true u f) (pieces true u f y) → Each (IsPiece true u f) (pieces true u f z) → made true c u s f (made true c u s f (x ∷ y ∷ []) ∷ z ∷ []) ≡ made true c u s f (x ∷ made true c u s f (y ∷ z ∷ []) ∷ [])
regrouped c u s f x y z p q r =
    let xs = pieces true u f x in
    let ys = pieces true u f y in
    let zs = pieces true u f z in
    ap (finish true u s f)
    (ap₂ (λ v w. arrange c (v ++ w)) (pieces-made c u s f x y p q) (append-nil zs)
    ∙ arrange_left c (xs ++ ys) zs
    ∙ ap (arrange c) (append_assoc xs ys zs)
    ∙ sym (arrange_right c xs (ys ++ zs))
    ∙ ap (λ w. arrange c (xs ++ w)) (sym (append-nil (arrange c (ys ++ zs))) ∙ ap (λ v. v ++ []) (sym (pieces-made c u s f y z q r))))

finish_none : (a : Bool) (i : Identity) (s : Bool) (f : ℕ) → finish a (Some i) s f [] ≡ unit_tree i
finish_none true i s f = refl
finish_none false i s f = refl

finish_one : (a : Bool) (i : Identity) (s : Bool) (f : ℕ) (x : Tree) → finish a (Some i) s f (x ∷ []) ≡ x
finish_one true i s f x = refl
finish_one false i s f x = refl

some_one : (i j : Identity) → Some i ≡ Some j → i ≡ j
some_one i j e = cc

-- an operator with an identity, over the pieces of one tree
left_alone : (a c : Bool) (i : Identity) (s : Bool) (f : ℕ) (x : Tree) → ((ts : Trees) → a ≡ true → x ≡ apply f ts → (arrange c (list_of ts) ≡ list_of ts) × (finish a (Some i) s f (list_of ts) ≡ x)) → finish a (Some i) s f (arrange c (pieces a (Some i) f x)) ≡ x
left_alone a c i s f x h = by (split a (Some i) f x)
  where
    by : Split a (Some i) f x → finish a (Some i) s f (arrange c (pieces a (Some i) f x)) ≡ x
    by (unit j ej ex p) =
        ap (λ w. finish a (Some i) s f (arrange c w)) p
        ∙ ap (finish a (Some i) s f) (arrange_none c)
        ∙ finish_none a i s f
        ∙ ap unit_tree (some_one i j ej)
        ∙ sym ex
    by (many ts ea ex p) =
        ap (λ w. finish a (Some i) s f (arrange c w)) p
        ∙ ap (finish a (Some i) s f) ((h ts ea ex).0)
        ∙ (h ts ea ex).1
    by (one p) =
        ap (λ w. finish a (Some i) s f (arrange c w)) p
        ∙ ap (finish a (Some i) s f) (arrange_one c x)
        ∙ finish_one a i s f x

-- what `left_alone` asks, of a normal form
alone_settled : (th : ℕ → Theory) (f : ℕ) (x : Tree) → IsNormal th x → (ts : Trees) → (th f).assoc ≡ true → x ≡ apply f ts → (arrange (th f).comm (list_of ts) ≡ list_of ts) × (finish (th f).assoc (th f).id (th f).succ f (list_of ts) ≡ x)
alone_settled th f x n ts a e =
    let m : IsNormal th (apply f ts) = subst (IsNormal th) e n in
    let r : IsSettled (th f) f (list_of ts) = m.1 in
    (r.ordered, r.long ∙ ap (apply f) (trees_of-list_of ts) ∙ sym e)

alone : (th : ℕ → Theory) (f : ℕ) (i : Identity) (x : Tree) → (th f).id ≡ Some i → IsNormal th x → finish (th f).assoc (th f).id (th f).succ f (arrange (th f).comm (pieces (th f).assoc (th f).id f x)) ≡ x
alone th f i x e n =
    subst (λ u. finish (th f).assoc u (th f).succ f (arrange (th f).comm (pieces (th f).assoc u f x)) ≡ x) (sym e)
    (left_alone (th f).assoc (th f).comm i (th f).succ f x (λ ts a ex.
    let r = alone_settled th f x n ts a ex in
    (r.0, subst (λ u. finish (th f).assoc u (th f).succ f (list_of ts) ≡ x) e r.1)))

unit_left : (th : ℕ → Theory) (f : ℕ) (i : Identity) (x : Tree) → (th f).id ≡ Some i → IsNormal th x → build (th f) f (unit_tree i ∷ x ∷ []) ≡ x
unit_left th f i x e n =
    let a = (th f).assoc in
    let u = (th f).id in
    let none : pieces a u f (unit_tree i) ≡ [] = subst (λ w. pieces a w f (unit_tree i) ≡ []) (sym e) (unit-pieces a i f) in
    ap (λ w. finish a u (th f).succ f (arrange (th f).comm (w ++ (pieces a u f x ++ [])))) none
    ∙ ap (λ w. finish a u (th f).succ f (arrange (th f).comm w)) (append-nil (pieces a u f x))
    ∙ alone th f i x e n

unit_right : (th : ℕ → Theory) (f : ℕ) (i : Identity) (x : Tree) → (th f).id ≡ Some i → IsNormal th x → build (th f) f (x ∷ unit_tree i ∷ []) ≡ x
unit_right th f i x e n =
    let a = (th f).assoc in
    let u = (th f).id in
    let none : pieces a u f (unit_tree i) ≡ [] = subst (λ w. pieces a w f (unit_tree i) ≡ []) (sym e) (unit-pieces a i f) in
    ap (λ w. finish a u (th f).succ f (arrange (th f).comm (pieces a u f x ++ (w ++ [])))) none
    ∙ ap (λ w. finish a u (th f).succ f (arrange (th f).comm w)) (append-nil (pieces a u f x))
    ∙ alone th f i x e n

-- ---- one axiom

-- binary arguments, of which the first is normal already
norm_unit : (th : ℕ → Theory) → AreLawful th → (f : ℕ) (i : Identity) → (th f).id ≡ Some i → norm th (unit_tree i) ≡ unit_tree i
norm_unit th lawful f (Const c) e =
    ap (λ u. finish (th c.0).assoc u (th c.0).succ c.0 (arrange (th c.0).comm [])) (lawful.plain_unit f c e)
    ∙ ap (finish (th c.0).assoc None (th c.0).succ c.0) (arrange_none (th c.0).comm)
    ∙ bare (th c.0).assoc
  where
    bare : (a : Bool) → finish a None (th c.0).succ c.0 [] ≡ apply c.0 no_trees
    bare true = refl
    bare false = refl
norm_unit th lawful f (Num n) e = refl

-- the successor of a numeral
counted : (a c : Bool) (u : Option Identity) (s : Bool) (f n : ℕ) → a ≡ false → c ≡ false → u ≡ None → s ≡ true → n < greatest_numeral → made a c u s f (numeral n ∷ []) ≡ numeral (n + 1)
counted a c u s f n ea ec eu es h =
    ap (λ a'. made a' c u s f (numeral n ∷ [])) ea
    ∙ ap (λ c'. made false c' u s f (numeral n ∷ [])) ec
    ∙ ap (λ u'. made false false u' s f (numeral n ∷ [])) eu
    ∙ ap (λ s'. made false false None s' f (numeral n ∷ [])) es
    ∙ ap (λ b. if b then numeral (n + 1) else node f (numeral n ∷ [])) (lt-ltb n greatest_numeral h)

pub whole_true : (th : ℕ → Theory) (f : ℕ) (t : Tree) → (th f).assoc ≡ true → IsNormal th t → Each (IsPiece true (th f).id f) (pieces true (th f).id f t)
whole_true th f t e n = subst (λ a. Each (IsPiece a (th f).id f) (pieces a (th f).id f t)) e (whole_pieces th f t n)

axiom_norm : (th : ℕ → Theory) → AreLawful th → (t u : Tree) → Axiom th t u → norm th t ≡ norm th u
axiom_norm th lawful t' u' (associativity f t u v e) =
    subst (λ a. made a (th f).comm (th f).id (th f).succ f (made a (th f).comm (th f).id (th f).succ f (norm th t ∷ norm th u ∷ []) ∷ norm th v ∷ []) ≡ made a (th f).comm (th f).id (th f).succ f (norm th t ∷ made a (th f).comm (th f).id (th f).succ f (norm th u ∷ norm th v ∷ []) ∷ [])) (sym e)
    (regrouped (th f).comm (th f).id (th f).succ f (norm th t) (norm th u) (norm th v)
    (whole_true th f (norm th t) e (norm_normal th lawful t))
    (whole_true th f (norm th u) e (norm_normal th lawful u))
    (whole_true th f (norm th v) e (norm_normal th lawful v)))
axiom_norm th lawful t' u' (commutativity f t u e) =
    subst (λ c. made (th f).assoc c (th f).id (th f).succ f (norm th t ∷ norm th u ∷ []) ≡ made (th f).assoc c (th f).id (th f).succ f (norm th u ∷ norm th t ∷ [])) (sym e)
    (swapped (th f).assoc (th f).id (th f).succ f (norm th t) (norm th u))
axiom_norm th lawful t' u' (left_identity f i t e) =
    ap (λ w. build (th f) f (w ∷ norm th t ∷ [])) (norm_unit th lawful f i e) ∙ unit_left th f i (norm th t) e (norm_normal th lawful t)
axiom_norm th lawful t' u' (right_identity f i t e) =
    ap (λ w. build (th f) f (norm th t ∷ w ∷ [])) (norm_unit th lawful f i e) ∙ unit_right th f i (norm th t) e (norm_normal th lawful t)
axiom_norm th lawful t' u' (successor_of_numeral f n e h) =
    counted (th f).assoc (th f).comm (th f).id (th f).succ f n (lawful.succ_assoc f e) (lawful.succ_comm f e) (lawful.succ_id f e) e h

mutual
  pub step_norm : (th : ℕ → Theory) → AreLawful th → (t u : Tree) → AxiomStep th t u → norm th t ≡ norm th u
  step_norm th lawful t u (left_to_right x) = axiom_norm th lawful t u x
  step_norm th lawful t u (right_to_left x) = sym (axiom_norm th lawful u t x)
  step_norm th lawful t u (under_operator f {ts = ts} {us = us} x) = ap (build (th f) f) (step_norms th lawful ts us x)

  pub step_norms : (th : ℕ → Theory) → AreLawful th → (ts us : Trees) → AxiomStepIn th ts us → norms th ts ≡ norms th us
  step_norms th lawful ts us (in_first {t = t} {u = u} rest x) = ap (λ w. w ∷ norms th rest) (step_norm th lawful t u x)
  step_norms th lawful ts us (in_later t {ts = vs} {us = ws} x) = ap (λ w. norm th t ∷ w) (step_norms th lawful vs ws x)
