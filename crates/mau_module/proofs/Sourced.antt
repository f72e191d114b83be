-- All declarations of a part are among those of the whole, in its numbers.
use Rattle.std.proofs.Common.{◌≡◌, ◌<◌, ◌≤◌, ℕ, ◌+◌, List, [], ◌∷◌, ◌++◌, Bool, true, false, ◌||◌, map, length, take, Some, refl, sym, ◌∙◌, ap, ap₂, subst, inl, inr, arith, eqb-true, eq-eqb}
use Rattle.std.specs.Prelude.{All, slice_get, codes, bytes_eq, nat_eq}
use Rattle.std.specs.List.{range_with_len}
use Rattle.std.proofs.lemmas.Slice.Eq.{bytes_eq-Decides}
use Rattle.std.proofs.lemmas.List.Elements.{All-head, All-tail}
use Rattle.mau_poset.specs.Order.{Hierarchy, kinds}
use Rattle.mau_poset.proofs.Orders.{kind_of-above}
use Rattle.mau_terms.specs.Finite.{IsIn}
use Rattle.mau_terms.proofs.Finite.{in_left, in_right, in_map}
use Rattle.mau_signature.specs.declared.decl.Decl.{Decl}
use Rattle.mau_signature.specs.Faults.{IsSort, HasSorts}
use Rattle.mau_declare.specs.Names.{has_name}
use Rattle.mau_renumber.specs.Carried.{declaration_to}
use Rattle.mau_module.specs.Modules.{ModuleOf}
use Rattle.mau_module.specs.Library.{truth}
use Rattle.mau_module.specs.Numbering.{number_in, sort_to, number_to, first_sort_of}
use Rattle.mau_module.specs.Included.{of_module, number_from, has_part, has_truth}
use Rattle.mau_module.specs.Truth.{if_declaration, comparison, truth_over}
use Rattle.mau_module.specs.Declarations.{declarations_of, hierarchy_over, if_truth, all_declarations}
use Rattle.mau_module.specs.Made.{IsMadeOver, AreMade, IsClosed}
use Rattle.mau_module.proofs.Members.{in_both, all_in, in_mapped, in_flat, in_flattened, in_range, range_in}
use Rattle.mau_module.proofs.Numbers.{sort_number, kind_number}
use Rattle.mau_module.proofs.Numberings.{IsNumbering, name_of_number, number_within, number_again, number_there}
use Rattle.mau_module.proofs.Including.{before_it, made_before, in_of_it, out_of_it, closed_of, IsPart, part_is, part_there, included_again, closed_there, part_numbering, numbered}

-- ---- names and parts that are there

pub name_there : (names : List (List ℕ)) (x : List ℕ) → has_name names x ≡ true → IsIn x names
name_there [] x e = absurd cc
name_there (y ∷ names) x e = by (bytes_eq x y) refl (name_there names x)
  where
    by : (b : Bool) → bytes_eq x y ≡ b → (has_name names x ≡ true → IsIn x names) → IsIn x (y ∷ names)
    by true k r = inl ((bytes_eq-Decides x y).0 k)
    by false k r = inr (r (sym (ap (λ b. b || has_name names x) k) ∙ e))

pub part_in : (ps : List ℕ) (q : ℕ) → has_part ps q ≡ true → IsIn q ps
part_in [] q e = absurd cc
part_in (p ∷ ps) q e = by (nat_eq p q) refl (part_in ps q)
  where
    by : (b : Bool) → nat_eq p q ≡ b → (has_part ps q ≡ true → IsIn q ps) → IsIn q (p ∷ ps)
    by true k r = inl (sym (eqb-true p q k))
    by false k r = inr (r (sym (ap (λ b. b || has_part ps q) k) ∙ e))

pub in_part : (ps : List ℕ) (q : ℕ) → IsIn q ps → has_part ps q ≡ true
in_part [] q h = absurd h
in_part (p ∷ ps) q (inl e) = ap (λ b. b || has_part ps q) (eq-eqb p q (sym e))
in_part (p ∷ ps) q (inr h) = by (nat_eq p q) (in_part ps q h)
  where
    by : (b : Bool) → has_part ps q ≡ true → (b || has_part ps q) ≡ true
    by true k = refl
    by false k = k

-- ---- the sort of truth values

-- where the module of truth values is among the parts, its sort is among the names
pub truth_name : (ms : List ModuleOf) (names : List (List ℕ)) (parts : List ℕ) → AreMade ms → IsClosed ms names parts → IsIn 0 parts → has_name names (codes "Bool") ≡ true
truth_name ms names parts made closed i =
    let p = part_is ms names parts made closed 0 i in
    p.1.names_known (codes "Bool") (name_there p.0.sorts (codes "Bool") (p.1.made.truth refl).sort)

pub truth_named : (ms : List ModuleOf) (m : ModuleOf) → AreMade ms → IsMadeOver ms m → has_name m.sorts (codes "Bool") ≡ true
truth_named ms m made over = elim (in_both 0 over.included (length ms ∷ []) (subst (IsIn 0) over.parts over.first)) [
  | inl i ↦ truth_name ms m.sorts over.included made (closed_of ms m over) i
  | inr i ↦ own i
]
  where
    own : IsIn 0 (length ms ∷ []) → has_name m.sorts (codes "Bool") ≡ true
    own (inl e) = (over.truth (sym e)).sort
    own (inr e) = absurd e

-- ---- declarations in other numbers

map_again : (P : ℕ → Type 0) (f g k : ℕ → ℕ) → ((a : ℕ) → P a → f (g a) ≡ k a) → (xs : List ℕ) → All P xs → map f (map g xs) ≡ map k xs
map_again P f g k each [] a = refl
map_again P f g k each (x ∷ xs) a = ap₂ (λ y ys. y ∷ ys) (each x (All-head P x xs a)) (map_again P f g k each xs (All-tail P x xs a))

declared_again : (h : Hierarchy) (f g k : ℕ → ℕ) → ((a : ℕ) → IsSort h a → f (g a) ≡ k a) → (d : Decl) → HasSorts h d → declaration_to f (declaration_to g d) ≡ declaration_to k d
declared_again h f g k each d has =
    let with_sorts : List ℕ → ℕ → Decl = λ as_ r. record d { args = as_; result = r } in
    ap₂ with_sorts (map_again (IsSort h) f g k each d.args has.arguments) (each d.result has.result)

-- the operators of truth values
choice_moved : (f : ℕ → ℕ) (b k c : ℕ) → f b ≡ c → declaration_to f (if_declaration b k) ≡ if_declaration c (f k)
choice_moved f b k c e = ap (λ x. if_declaration x (f k)) e

compared_moved : (f : ℕ → ℕ) (b k c : ℕ) (sign name : List ℕ) → f b ≡ c → declaration_to f (comparison b k sign name) ≡ comparison c (f k) sign name
compared_moved f b k c sign name e = ap (λ x. comparison x (f k) sign name) e

truth_moved : (f : ℕ → ℕ) (b k c : ℕ) (d : Decl) → f b ≡ c → IsIn d (truth_over b k) → IsIn (declaration_to f d) (truth_over c (f k))
truth_moved f b k c d e (inl s) = inl (ap (declaration_to f) s ∙ choice_moved f b k c e)
truth_moved f b k c d e (inr (inl s)) = inr (inl (ap (declaration_to f) s ∙ compared_moved f b k c (codes "==") (codes "same") e))
truth_moved f b k c d e (inr (inr (inl s))) = inr (inr (inl (ap (declaration_to f) s ∙ compared_moved f b k c (codes "=/=") (codes "differ") e)))
truth_moved f b k c d e (inr (inr (inr s))) = absurd s

-- ---- a part and the whole

module _ (ms : List ModuleOf) (names : List (List ℕ)) (parts : List ℕ) (all_made : AreMade ms) (closed : IsClosed ms names parts) (pairs : List (ℕ × ℕ)) (own : List Decl) where
  abbrev h : Hierarchy
  h = hierarchy_over ms parts names pairs

  abbrev whole : List Decl
  whole = all_declarations ms parts names h own

  pub own_of_part : (r : ℕ) (n : ModuleOf) (d : Decl) → IsIn r parts → slice_get ms r ≡ Some n → IsIn d n.own.declarations → IsIn (declaration_to (number_from n names h) d) whole
  own_of_part r n d i e j =
      let it = declaration_to (number_from n names h) d in
      let theirs = declarations_of ms names h parts in
      in_left it (theirs ++ own) (if_truth (has_truth (parts ++ length ms ∷ [])) h names)
      (in_left it theirs own
      (in_flat (of_module ms (λ m. map (declaration_to (number_from m names h)) m.own.declarations)) parts r it i
      (in_of_it ms (λ m. map (declaration_to (number_from m names h)) m.own.declarations) r n it e (in_map (declaration_to (number_from n names h)) d n.own.declarations j))))

  truth_of_kind : (d : Decl) (k : ℕ) → IsIn truth parts → h.sorts ≤ k → k < h.sorts + kinds h → IsIn d (truth_over (number_in names (codes "Bool")) k) → IsIn d whole
  truth_of_kind d k i l m j =
      let there = in_part (parts ++ length ms ∷ []) truth (in_left truth parts (length ms ∷ []) i) in
      in_right d (declarations_of ms names h parts ++ own) (if_truth (has_truth (parts ++ length ms ∷ [])) h names)
      (subst (λ b. IsIn d (if_truth b h names)) (sym there)
      (in_flat (truth_over (number_in names (codes "Bool"))) (range_with_len h.sorts (kinds h)) k d (in_range h.sorts (kinds h) k (omega arith) m) j))

  module _ (q : ℕ) (m : ModuleOf) (part : IsPart ms names parts q m) where
    abbrev before : List ModuleOf
    before = take q ms

    abbrev theirs : List ℕ
    theirs = part.made.included

    abbrev over : Hierarchy
    over = hierarchy_over before theirs m.sorts m.own.pairs

    abbrev to : ℕ → ℕ
    to = number_to m.sorts over names h

    its : IsNumbering m.sorts over names h
    its = part_numbering ms names parts all_made closed pairs q m part

    from_part : (r : ℕ) (d : Decl) → IsIn r theirs → IsIn d (of_module before (λ n. map (declaration_to (number_from n m.sorts over)) n.own.declarations) r) → IsIn (declaration_to to d) whole
    from_part r d i j =
        let p = part_there ms names parts all_made closed pairs q m part r i in
        let n = p.0 in
        let g = in_mapped (declaration_to (number_from n m.sorts over)) n.own.declarations d
        (out_of_it before (λ n. map (declaration_to (number_from n m.sorts over)) n.own.declarations) r n d p.1.there j) in
        let first = numbered before m.sorts theirs (made_before ms q all_made) (closed_there ms names parts all_made closed pairs q m part) m.own.pairs r n p.1 in
        let has = all_in (HasSorts n.signature.hierarchy) n.own.declarations g.0 p.1.made.over.sorts g.1 in
        let same : declaration_to to d ≡ declaration_to (number_from n names h) g.0 =
        ap (declaration_to to) g.2
        ∙ declared_again n.signature.hierarchy to (number_from n m.sorts over) (number_from n names h)
        (λ a s. number_again n.sorts n.signature.hierarchy m.sorts over names h first its a s) g.0 has in
        subst (λ x. IsIn x whole) (sym same)
        (own_of_part r n g.0 (included_again ms names parts all_made closed pairs q m part r i) (before_it ms q r n p.1.there) g.1)

    -- one of its own
    from_own : m.signature.hierarchy ≡ over → (d : Decl) → IsIn d m.own.declarations → IsIn (declaration_to to d) whole
    from_own e d i =
        subst (λ (x : Hierarchy). IsIn (declaration_to (number_to m.sorts x names h) d) whole) e (own_of_part q m d part.among part.there i)

    truth_number : to (number_in m.sorts (codes "Bool")) ≡ number_in names (codes "Bool")
    truth_number =
        let has = truth_named before m (made_before ms q all_made) part.made in
        sort_number m.sorts over names h (number_in m.sorts (codes "Bool")) (number_within m.sorts (codes "Bool") has)
        ∙ ap (number_in names) (name_of_number m.sorts (codes "Bool") has)

    from_truth : (d : Decl) (b : Bool) → has_truth (theirs ++ length before ∷ []) ≡ b → IsIn d (if_truth b over m.sorts) → IsIn (declaration_to to d) whole
    from_truth d false e i = absurd i
    from_truth d true e i =
        let f = in_flattened (truth_over (number_in m.sorts (codes "Bool"))) (range_with_len over.sorts (kinds over)) d i in
        let k = f.0 in
        let w = range_in over.sorts (kinds over) k f.1 in
        let above : over.sorts ≤ k = omega (arith, w.0) in
        let there = kind_number m.sorts over names h k above w.1 in
        let at_least : h.sorts ≤ to k = subst (λ x. h.sorts ≤ x) (sym there) (kind_of-above h (sort_to m.sorts names (first_sort_of over k))) in
        let at_most : to k < h.sorts + kinds h = number_there m.sorts over names h its k w.1 in
        let among : IsIn truth parts = elim (in_both truth theirs (length before ∷ []) (part_in (theirs ++ length before ∷ []) truth e)) [
          | inl j ↦ included_again ms names parts all_made closed pairs q m part truth j
          | inr j ↦ closed.closed q truth part.among (in_of_it ms (λ x. x.parts) q m truth part.there (subst (IsIn truth) (sym part.made.parts) (in_right truth theirs (length before ∷ []) j)))
        ] in
        truth_of_kind (declaration_to to d) (to k) among at_least at_most (truth_moved to (number_in m.sorts (codes "Bool")) k (number_in names (codes "Bool")) d truth_number f.2)

    -- each declaration of the part
    pub from_source : m.signature.hierarchy ≡ over → (d : Decl) → IsIn d (all_declarations before theirs m.sorts over m.own.declarations) → IsIn (declaration_to to d) whole
    from_source e d i = elim (in_both d (declarations_of before m.sorts over theirs ++ m.own.declarations) (if_truth (has_truth (theirs ++ length before ∷ [])) over m.sorts) i) [
      | inl j ↦ elim (in_both d (declarations_of before m.sorts over theirs) m.own.declarations j) [
        | inl k ↦ (let f = in_flattened (of_module before (λ n. map (declaration_to (number_from n m.sorts over)) n.own.declarations)) theirs d k in from_part f.0 d f.1 f.2)
        | inr k ↦ from_own e d k
      ]
      | inr j ↦ from_truth d (has_truth (theirs ++ length before ∷ [])) refl j
    ]
