-- Places of variables, and the values there.
use Rattle.std.proofs.Common.{◌≡◌, ℕ, suc, ◌+◌, ◌<◌, ◌≤◌, map, List, [], ◌∷◌, ◌++◌, Bool, true, false, ◌||◌, if◌then◌else◌, length, get_or, refl, sym, ap, ◌∙◌, append-nil, append_assoc, arith}
use Rattle.std.proofs.lemmas.Bool.{or_parts}
use Rattle.std.proofs.lemmas.List.{length-append, map-append}
use Rattle.mau_terms.specs.Tree.{Tree, variable, numeral, apply, Trees, no_trees, tree}
use Rattle.mau_terms.specs.Subst.{Variable, same_variable, value_at, has_variable, add_variables, add_all_variables}
use Rattle.mau_terms.specs.View.{variable_of}
use Rattle.mau_terms.specs.declared.ids.VarId.{VarId}
use Rattle.mau_terms.proofs.Variables.{same-is, same_itself}
use Rattle.mau_syntactic.specs.Steps.{place_in, variable_at}

-- ---- the first place

pub place_new : (xs : List Variable) (x : Variable) → has_variable xs x ≡ false → place_in xs x ≡ length xs
place_new [] x h = refl
place_new (y ∷ ys) x h =
    let p = or_parts (same_variable y x) (has_variable ys x) h in
    ap (λ b. if b then 0 else suc (place_in ys x)) p.0 ∙ ap suc (place_new ys x p.1)

pub place_old : (xs : List Variable) (x : Variable) → has_variable xs x ≡ true → place_in xs x < length xs
place_old [] x h = absurd (cc)
place_old (y ∷ ys) x h = by (place_old ys x) (same_variable y x) refl h
  where
    by : (has_variable ys x ≡ true → place_in ys x < length ys) → (b : Bool) → same_variable y x ≡ b → (b || has_variable ys x) ≡ true → (if b then 0 else suc (place_in ys x)) < suc (length ys)
    by ih true e k = omega arith
    by ih false e k = let low = ih k in omega (arith, low)

-- whether a variable is new, by its place
pub is_new : (seen : List Variable) (x : Variable) → length seen ≤ place_in seen x → has_variable seen x ≡ false
is_new seen x e = by (has_variable seen x) refl
  where
    by : (b : Bool) → has_variable seen x ≡ b → b ≡ false
    by false h = refl
    by true h = let low = place_old seen x h in absurd (omega (arith, low, e))

pub is_old : (seen : List Variable) (x : Variable) → place_in seen x < length seen → has_variable seen x ≡ true
is_old seen x e = by (has_variable seen x) refl
  where
    by : (b : Bool) → has_variable seen x ≡ b → b ≡ true
    by true h = refl
    by false h = let last = place_new seen x h in absurd (omega (arith, last, e))

place_front : (xs zs : List Variable) (x : Variable) → has_variable xs x ≡ true → place_in (xs ++ zs) x ≡ place_in xs x
place_front [] zs x h = absurd (cc)
place_front (y ∷ ys) zs x h = by (place_front ys zs x) (same_variable y x) h
  where
    by : (has_variable ys x ≡ true → place_in (ys ++ zs) x ≡ place_in ys x) → (b : Bool) → (b || has_variable ys x) ≡ true → (if b then 0 else suc (place_in (ys ++ zs) x)) ≡ (if b then 0 else suc (place_in ys x))
    by ih true k = refl
    by ih false k = ap suc (ih k)

place_end : (xs zs : List Variable) (x : Variable) → has_variable xs x ≡ false → place_in (xs ++ x ∷ zs) x ≡ length xs
place_end [] zs x h = ap (λ b. if b then 0 else suc (place_in zs x)) (same_itself x)
place_end (y ∷ ys) zs x h =
    let p = or_parts (same_variable y x) (has_variable ys x) h in
    ap (λ b. if b then 0 else suc (place_in (ys ++ x ∷ zs) x)) p.0 ∙ ap suc (place_end ys zs x p.1)

-- a variable keeps its place when others are added
pub record IsPlaced (all seen : List Variable) (x : Variable) : Type 0 where
  pub same : place_in all x ≡ place_in seen x
  pub low : place_in seen x < length all

pub placed : (all seen later : List Variable) (i s : ℕ) → all ≡ add_variables seen (variable i s) ++ later → IsPlaced all seen (i, s)
placed all seen later i s e = by (has_variable seen (i, s)) refl e
  where
    by : (b : Bool) → has_variable seen (i, s) ≡ b → all ≡ (if b then seen else seen ++ (i, s) ∷ []) ++ later → IsPlaced all seen (i, s)
    by true h k = record {
      same = ap (λ v. place_in v (i, s)) k ∙ place_front seen later (i, s) h;
      low = let p = place_old seen (i, s) h in let n : length all ≡ length seen + length later = ap length k ∙ length-append seen later in omega (arith, p, n);
    }
    by false h k =
        let w : all ≡ seen ++ (i, s) ∷ later = k ∙ append_assoc seen ((i, s) ∷ []) later in
        record {
          same = ap (λ v. place_in v (i, s)) w ∙ place_end seen later (i, s) h ∙ sym (place_new seen (i, s) h);
          low = let p = place_new seen (i, s) h in let n : length all ≡ length seen + suc (length later) = ap length w ∙ length-append seen ((i, s) ∷ later) in omega (arith, p, n);
        }

-- ---- what stands there

pub value_place : (xs : List Variable) (vs : List Tree) (x : Variable) (d : Tree) → place_in xs x < length xs → length vs ≡ length xs → value_at xs vs x ≡ get_or vs (place_in xs x) d
value_place [] vs x d h e = absurd (omega arith)
value_place (y ∷ ys) [] x d h e = cc
value_place (y ∷ ys) (v ∷ vs) x d h e = by (value_place ys vs x d) (same_variable y x) h
  where
    by : (place_in ys x < length ys → length vs ≡ length ys → value_at ys vs x ≡ get_or vs (place_in ys x) d) → (b : Bool) → (if b then 0 else suc (place_in ys x)) < suc (length ys) →
        (if b then v else value_at ys vs x) ≡ get_or (v ∷ vs) (if b then 0 else suc (place_in ys x)) d
    by ih true k = refl
    by ih false k = ih (omega arith) (cc)

pub variable_place : (xs : List Variable) (x : Variable) → place_in xs x < length xs → variable_at xs (place_in xs x) ≡ variable x.0 x.1
variable_place [] x h = absurd (omega arith)
variable_place (y ∷ ys) x h = by (variable_place ys x) (same_variable y x) refl h
  where
    by : (place_in ys x < length ys → variable_at ys (place_in ys x) ≡ variable x.0 x.1) → (b : Bool) → same_variable y x ≡ b → (if b then 0 else suc (place_in ys x)) < suc (length ys) →
        variable_at (y ∷ ys) (if b then 0 else suc (place_in ys x)) ≡ variable x.0 x.1
    by ih true e k = ap (λ (z : Variable). variable z.0 z.1) (same-is y x e)
    by ih false e k = ih (omega arith)

-- ---- variables that are added

mutual
  pub grows : (t : Tree) (xs : List Variable) → (zs : List Variable) × (add_variables xs t ≡ xs ++ zs)
  grows (variable i s) xs = by (has_variable xs (i, s))
    where
      by : (b : Bool) → (zs : List Variable) × ((if b then xs else xs ++ (i, s) ∷ []) ≡ xs ++ zs)
      by true = ([], sym (append-nil xs))
      by false = ((i, s) ∷ [], refl)
  grows (numeral n) xs = ([], sym (append-nil xs))
  grows (apply f ts) xs = all_grow ts xs

  pub all_grow : (ts : Trees) (xs : List Variable) → (zs : List Variable) × (add_all_variables xs ts ≡ xs ++ zs)
  all_grow no_trees xs = ([], sym (append-nil xs))
  all_grow (tree t ts) xs =
      let a = grows t xs in
      let b = all_grow ts (add_variables xs t) in
      (a.0 ++ b.0, b.1 ∙ ap (λ w. w ++ b.0) a.1 ∙ append_assoc xs a.0 b.0)

-- ---- the code's variables

pub added_old : (xs : List VarId) (v : VarId) → place_in (map variable_of xs) (variable_of v) < length (map variable_of xs) → map variable_of xs ≡ add_variables (map variable_of xs) (variable v.index v.sort)
added_old xs v h = sym (ap (λ b. if b then map variable_of xs else map variable_of xs ++ variable_of v ∷ []) (is_old (map variable_of xs) (variable_of v) h))

pub added_new : (xs : List VarId) (v : VarId) → length (map variable_of xs) ≤ place_in (map variable_of xs) (variable_of v) → map variable_of (xs ++ v ∷ []) ≡ add_variables (map variable_of xs) (variable v.index v.sort)
added_new xs v h =
    map-append variable_of xs (v ∷ [])
    ∙ sym (ap (λ b. if b then map variable_of xs else map variable_of xs ++ variable_of v ∷ []) (is_new (map variable_of xs) (variable_of v) h))
