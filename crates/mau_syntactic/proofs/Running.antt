-- A term is built by its parts: what is known from part to part.
use Rattle.std.proofs.Common.{◌≡◌, ℕ, zero, suc, ◌-◌, ◌<◌, ◌≤◌, List, [], ◌∷◌, ◌++◌, All, Bool, true, false, if◌then◌else◌, length, map, take, drop, get_or, refl, sym, ap, ap₂, ◌∙◌, subst, append-nil, append_assoc, arith}
use Rattle.std.proofs.lemmas.Bool.{or_parts}
use Rattle.std.proofs.lemmas.List.{map-append, length-append, length-map}
use Rattle.std.proofs.Math.Seq.{take-append_seam, drop-append_seam, drop-cons}
use Rattle.mau_terms.specs.Tree.{Tree, variable, numeral, apply, Trees, no_trees, tree, node, list_of, trees_of}
use Rattle.mau_terms.specs.Norm.{norm, build}
use Rattle.mau_terms.specs.Lawful.{AreLawful}
use Rattle.mau_terms.specs.Bare.{IsBareIn, AreBareIn}
use Rattle.mau_terms.specs.Subst.{Variable, same_variable, has_variable, value_at, instance}
use Rattle.mau_terms.specs.View.{tree_of, variable_of}
use Rattle.mau_terms.specs.declared.bare.Bare.{Bare}
use Rattle.mau_terms.specs.declared.ids.OpId.{OpId}
use Rattle.mau_terms.specs.declared.ids.VarId.{VarId}
use Rattle.mau_terms.specs.declared.theory.Theory.{Theory}
use Rattle.mau_terms.proofs.Pieces.{trees_of-list_of}
use Rattle.mau_terms.proofs.Induction.{norm-node, instance-node}
use Rattle.mau_signature.specs.Signature.{SignatureOf, IsOperator, theory_at, terms_over}
use Rattle.mau_signature.proofs.Operators.{is_operator}
use Rattle.mau_canon.proofs.Standing.{map-norm-norm}
use Rattle.mau_syntactic.specs.declared.part.Part.{Part}
use Rattle.mau_syntactic.specs.declared.part.Part.TheVariants.{Operator, Numeral, Value, Unbound}
use Rattle.mau_syntactic.specs.Steps.{place_in, count_trees}
use Rattle.mau_syntactic.specs.Parts.{part_of, parts_of, all_parts_of, after_part, CanFollow}
use Rattle.mau_syntactic.proofs.Places.{place_old, value_place, is_old, is_new}
use Rattle.mau_syntactic.proofs.Stepped.{count-list_of, count-trees_of}

-- ---- parts of the code's terms

pub parts_more : (xs : List Variable) (bs : List Bare) (i : ℕ) (d : Bare) → i < length bs →
    all_parts_of xs (trees_of (map tree_of (take (suc i) bs))) ≡ all_parts_of xs (trees_of (map tree_of (take i bs))) ++ parts_of xs (tree_of (get_or bs i d))
parts_more xs [] i d h = absurd (omega arith)
parts_more xs (b ∷ bs) zero d h = append-nil (parts_of xs (tree_of b))
parts_more xs (b ∷ bs) (suc i) d h =
    ap (λ w. parts_of xs (tree_of b) ++ w) (parts_more xs bs i d (omega arith))
    ∙ sym (append_assoc (parts_of xs (tree_of b)) (all_parts_of xs (trees_of (map tree_of (take i bs)))) (parts_of xs (tree_of (get_or bs i d))))

pub parts_node : (xs : List Variable) (op : OpId) (ts : List Tree) (n : ℕ) → n ≡ length ts → all_parts_of xs (trees_of ts) ++ Operator op n ∷ [] ≡ parts_of xs (node op.0 ts)
parts_node xs op ts n e = ap (λ k. all_parts_of xs (trees_of ts) ++ Operator op k ∷ []) (e ∙ sym (count-trees_of ts))

pub bound_part : (xs : List Variable) (x : Variable) → place_in xs x < length xs → Value (place_in xs x) ≡ part_of xs x
bound_part xs x h = sym (ap (λ b. if b then Value (place_in xs x) else Unbound (record { index = x.0; sort = x.1 })) (is_old xs x h))

pub unbound_part : (xs : List Variable) (x : VarId) → length xs ≤ place_in xs (variable_of x) → Unbound x ≡ part_of xs (variable_of x)
unbound_part xs x h = sym (ap (λ b. if b then Value (place_in xs (variable_of x)) else Unbound x) (is_new xs (variable_of x) h))

-- ---- what is still to be added

-- by these parts the terms ts become the term t alone
pub data Goes (s : SignatureOf) (xs : List Variable) (t : Tree) : List Part → List Tree → Type 0 where
  finished : (ts : List Tree) → ts ≡ t ∷ [] → Goes s xs t [] ts
  by_operator : (op : OpId) (n : ℕ) (all ts us : List Tree) (parts : List Part) → all ≡ ts ++ us → n ≡ length us → IsOperator s op.0 → Goes s xs t parts (ts ++ node op.0 us ∷ []) → Goes s xs t (Operator op n ∷ parts) all
  by_numeral : (n : ℕ) (ts : List Tree) (parts : List Part) → Goes s xs t parts (ts ++ numeral n ∷ []) → Goes s xs t (Numeral n ∷ parts) ts
  by_value : (i r : ℕ) (ts : List Tree) (parts : List Part) → has_variable xs (i, r) ≡ true → Goes s xs t parts (ts ++ variable i r ∷ []) → Goes s xs t (Value (place_in xs (i, r)) ∷ parts) ts
  by_unbound : (v : VarId) (ts : List Tree) (parts : List Part) → has_variable xs (variable_of v) ≡ false → Goes s xs t parts (ts ++ variable v.index v.sort ∷ []) → Goes s xs t (Unbound v ∷ parts) ts

module _ (s : SignatureOf) (xs : List Variable) (t : Tree) where
  mutual
    goes_parts : (p : Tree) (k : ℕ) → IsBareIn (terms_over s) p k → (rest : List Part) (ts : List Tree) → Goes s xs t rest (ts ++ p ∷ []) → Goes s xs t (parts_of xs p ++ rest) ts
    goes_parts (variable i r) k b rest ts g = by (has_variable xs (i, r)) refl
      where
        by : (b : Bool) → has_variable xs (i, r) ≡ b → Goes s xs t ((if b then Value (place_in xs (i, r)) else Unbound (record { index = i; sort = r })) ∷ rest) ts
        by true h = by_value i r ts rest h g
        by false h = by_unbound (record { index = i; sort = r }) ts rest h g
    goes_parts (numeral n) k b rest ts g = by_numeral n ts rest g
    goes_parts (apply f ps) k b rest ts g =
        let op : OpId = record { 0 = f } in
        let last : Goes s xs t (Operator op (count_trees ps) ∷ rest) (ts ++ list_of ps) =
        by_operator op (count_trees ps) (ts ++ list_of ps) ts (list_of ps) rest refl (count-list_of ps) (is_operator s f b.0)
        (subst (λ us. Goes s xs t rest (ts ++ apply f us ∷ [])) (sym (trees_of-list_of ps)) g) in
        subst (λ w. Goes s xs t w ts) (sym (append_assoc (all_parts_of xs ps) (Operator op (count_trees ps) ∷ []) rest))
        (all_go ps ((terms_over s).arguments f) b.2 (Operator op (count_trees ps) ∷ rest) ts last)

    all_go : (ps : Trees) (ks : List ℕ) → AreBareIn (terms_over s) ps ks → (rest : List Part) (ts : List Tree) → Goes s xs t rest (ts ++ list_of ps) → Goes s xs t (all_parts_of xs ps ++ rest) ts
    all_go no_trees ks b rest ts g = subst (Goes s xs t rest) (append-nil ts) g
    all_go (tree p ps) [] b rest ts g = absurd b
    all_go (tree p ps) (k ∷ ks) b rest ts g =
        subst (λ w. Goes s xs t w ts) (sym (append_assoc (parts_of xs p) (all_parts_of xs ps) rest))
        (goes_parts p k b.0 (all_parts_of xs ps ++ rest) ts
        (all_go ps ks b.1 rest (ts ++ p ∷ []) (subst (Goes s xs t rest) (sym (append_assoc ts (p ∷ []) (list_of ps))) g)))

-- ---- values

value_unbound : (xs : List Variable) (vs : List Tree) (x : Variable) → has_variable xs x ≡ false → value_at xs vs x ≡ variable x.0 x.1
value_unbound [] vs x h = refl
value_unbound (y ∷ ys) [] x h = refl
value_unbound (y ∷ ys) (v ∷ vs) x h =
    let p = or_parts (same_variable y x) (has_variable ys x) h in
    ap (λ b. if b then v else value_at ys vs x) p.0 ∙ value_unbound ys vs x p.1

normal_value : (th : ℕ → Theory) (vs : List Tree) (k : ℕ) (d : Tree) → All (λ v. norm th v ≡ v) vs → k < length vs → norm th (get_or vs k d) ≡ get_or vs k d
normal_value th vs k d h l = h k d l

map_twice : (th : ℕ → Theory) (g : Variable → Tree) (us : List Tree) → map (λ u. norm th (instance g u)) us ≡ map (norm th) (map (instance g) us)
map_twice th g [] = refl
map_twice th g (u ∷ us) = ap (λ w. norm th (instance g u) ∷ w) (map_twice th g us)

-- ---- what is known

-- the normal form of the instance
abbrev pub made_by : (ℕ → Theory) → List Variable → List Tree → Tree → Tree
made_by th xs vs u = norm th (instance (value_at xs vs) u)

-- the terms ts are the instances, by the values vs of the variables xs, of some terms that become t by the parts
pub record Making (s : SignatureOf) (xs : List Variable) (vs : List Tree) (t : Tree) (parts : List Part) (ts : List Tree) : Type 0 where
  pub pending : List Tree
  pub goes : Goes s xs t parts pending
  pub trees : ts ≡ map (made_by (theory_at s) xs vs) pending

-- the next part of a list
pub next_part : (s : SignatureOf) (xs : List Variable) (vs : List Tree) (t : Tree) (parts : List Part) (ts : List Tree) (i : ℕ) (d : Part) → i < length parts →
    Making s xs vs t (drop i parts) ts → Making s xs vs t (get_or parts i d ∷ drop (suc i) parts) ts
next_part s xs vs t parts ts i d h m = subst (λ ps. Making s xs vs t ps ts) (drop-cons parts i d h) m

module _ (s : SignatureOf) (lawful : AreLawful (theory_at s)) (xs : List Variable) (vs : List Tree) (one_each : length vs ≡ length xs) (normal : All (λ v. norm (theory_at s) v ≡ v) vs) (t : Tree) where
  abbrev th : ℕ → Theory
  th = theory_at s

  abbrev made : Tree → Tree
  made = made_by th xs vs

  abbrev IsMade : List Part → List Tree → Type 0
  IsMade parts ts = Making s xs vs t parts ts

  pub nothing_made : (k : ℕ) → IsBareIn (terms_over s) t k → (ts : List Tree) → ts ≡ [] → IsMade (parts_of xs t) ts
  nothing_made k b ts e = record {
    pending = [];
    goes = subst (λ w. Goes s xs t w []) (append-nil (parts_of xs t)) (goes_parts s xs t t k b [] [] (finished (t ∷ []) refl));
    trees = e;
  }

  pub all_made : (ts : List Tree) → IsMade [] ts → ts ≡ made t ∷ []
  all_made ts m = m.trees ∙ ap (map made) (by [] refl m.pending m.goes)
    where
      by : (parts : List Part) → parts ≡ [] → (us : List Tree) → Goes s xs t parts us → us ≡ t ∷ []
      by parts e us (finished ts' h) = h
      by parts e us (by_operator op n all ts' us' rest a l o g) = absurd (cc)
      by parts e us (by_numeral n ts' rest g) = absurd (cc)
      by parts e us (by_value i r ts' rest h g) = absurd (cc)
      by parts e us (by_unbound v ts' rest h g) = absurd (cc)

  node_made : (f : ℕ) (us : List Tree) → norm th (node f (map made us)) ≡ made (node f us)
  node_made f us =
      ap (λ w. norm th (node f w)) (map_twice th (value_at xs vs) us)
      ∙ norm-node th f (map (norm th) (map (instance (value_at xs vs)) us))
      ∙ ap (build (th f) f) (map-norm-norm th lawful (map (instance (value_at xs vs)) us))
      ∙ sym (norm-node th f (map (instance (value_at xs vs)) us))
      ∙ ap (norm th) (sym (instance-node (value_at xs vs) f us))

  operator_made : (op : OpId) (n : ℕ) (ts us : List Tree) → n ≡ length us → after_part th vs (Operator op n) (map made (ts ++ us)) ≡ map made (ts ++ node op.0 us ∷ [])
  operator_made op n ts us l =
      let a = map made ts in
      let b = map made us in
      let size : length (a ++ b) - n ≡ length a = (let p = length-append a b in let q = length-map us made in omega (arith, p, q, l)) in
      ap (λ w. take (length w - n) w ++ norm th (node op.0 (drop (length w - n) w)) ∷ []) (map-append made ts us)
      ∙ ap (λ k. take k (a ++ b) ++ norm th (node op.0 (drop k (a ++ b))) ∷ []) size
      ∙ ap₂ (λ x y. x ++ norm th (node op.0 y) ∷ []) (take-append_seam a b) (drop-append_seam a b)
      ∙ ap (λ x. a ++ x ∷ []) (node_made op.0 us)
      ∙ sym (map-append made ts (node op.0 us ∷ []))

  pub part_follows : (part : Part) (parts : List Part) (ts : List Tree) (m : ℕ) → m ≡ length ts → IsMade (part ∷ parts) ts → CanFollow s (length vs) m part
  part_follows part parts ts m l made' = by part parts made'.pending made'.goes (l ∙ ap length made'.trees ∙ length-map made'.pending made)
    where
      by : (part : Part) (parts : List Part) (us : List Tree) → Goes s xs t (part ∷ parts) us → m ≡ length us → CanFollow s (length vs) m part
      by part parts us (by_operator op n all ts' us' rest a k o g) e = (o, let p = ap length a in let q = length-append ts' us' in omega (arith, p, q, k, e))
      by part parts us (by_numeral n ts' rest g) e = tt
      by part parts us (by_value i r ts' rest h g) e = let low = place_old xs (i, r) h in omega (arith, low, one_each)
      by part parts us (by_unbound v ts' rest h g) e = tt

  pub part_made : (part : Part) (parts : List Part) (ts new : List Tree) → IsMade (part ∷ parts) ts → new ≡ after_part th vs part ts → IsMade parts new
  part_made part parts ts new made' e = by part parts made'.pending made'.goes (e ∙ ap (after_part th vs part) made'.trees)
    where
      by : (part : Part) (parts : List Part) (us : List Tree) → Goes s xs t (part ∷ parts) us → new ≡ after_part th vs part (map made us) → IsMade parts new
      by part parts us (by_operator op n all ts' us' rest a k o g) h = record {
        pending = ts' ++ node op.0 us' ∷ [];
        goes = g;
        trees = h ∙ ap (λ w. after_part th vs (Operator op n) (map made w)) a ∙ operator_made op n ts' us' k;
      }
      by part parts us (by_numeral n ts' rest g) h = record { pending = us ++ numeral n ∷ []; goes = g; trees = h ∙ sym (map-append made us (numeral n ∷ [])) }
      by part parts us (by_value i r ts' rest there g) h =
          let low = place_old xs (i, r) there in
          let value : get_or vs (place_in xs (i, r)) (numeral 0) ≡ made (variable i r) =
          sym (normal_value th vs (place_in xs (i, r)) (numeral 0) normal (omega (arith, low, one_each)))
          ∙ ap (norm th) (sym (value_place xs vs (i, r) (numeral 0) low one_each)) in
          record { pending = us ++ variable i r ∷ []; goes = g; trees = h ∙ ap (λ x. map made us ++ x ∷ []) value ∙ sym (map-append made us (variable i r ∷ [])) }
      by part parts us (by_unbound v ts' rest absent g) h =
          let value : variable v.index v.sort ≡ made (variable v.index v.sort) = ap (norm th) (sym (value_unbound xs vs (variable_of v) absent)) in
          record { pending = us ++ variable v.index v.sort ∷ []; goes = g; trees = h ∙ ap (λ x. map made us ++ x ∷ []) value ∙ sym (map-append made us (variable v.index v.sort ∷ [])) }
