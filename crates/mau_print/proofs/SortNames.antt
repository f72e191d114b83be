-- Sorts by their names, and the first sort of a kind.
use Rattle.std.proofs.Common.{◌≡◌, ◌≢◌, ℕ, zero, suc, ◌+◌, ◌==◌, List, [], ◌∷◌, Bool, true, false, cond, Some, slice_get, bytes_eq, if◌then◌else◌, refl, sym, ap, ◌∙◌, arith, eqb-true}
use Rattle.std.specs.Option.{option_map_or}
use Rattle.std.proofs.lemmas.Option.{slice_get_within, get_or_from_slice_get, same_Some, none-some}
use Rattle.std.proofs.lemmas.Slice.Eq.{bytes_eq-Decides}
use Rattle.mau_poset.specs.Order.{Hierarchy, kind_of}
use Rattle.mau_grammar.specs.declared.sorts.SortName.{SortName}
use Rattle.mau_grammar.specs.Names.{AreDistinct}
use Rattle.mau_grammar.specs.Productions.{sort_names}
use Rattle.mau_grammar.specs.Leaves.{sort_from}
use Rattle.mau_print.specs.Layouts.{first_name, first_sort_name}
use Rattle.mau_print.proofs.Present.{IsPresent}

-- ---- distinct names

once_tail : (v : List ℕ) (names : List (List ℕ)) → AreDistinct (v ∷ names) → AreDistinct names
once_tail v names once = λ i j d low high. once (suc i) (suc j) d (omega arith) (omega arith)

once_first : (v : List ℕ) (names : List (List ℕ)) (i : ℕ) (w : List ℕ) → AreDistinct (v ∷ names) → slice_get names i ≡ Some w → v ≢ w
once_first v names i w once e =
    let within = slice_get_within names i w e in
    λ same. once 0 (suc i) [] (omega arith) (omega arith) (same ∙ sym (get_or_from_slice_get names i w [] e))

-- the sort with the number i among those from a on
pub sort_found : (h : Hierarchy) (a : ℕ) (names : List (List ℕ)) (i : ℕ) (w : List ℕ) → AreDistinct names → slice_get names i ≡ Some w → sort_from (sort_names h a names) a w ≡ Some (a + i, kind_of h (a + i))
sort_found h a [] i w once e = absurd (none-some w e)
sort_found h a (v ∷ names) zero w once e =
    let same : bytes_eq v w ≡ true = (bytes_eq-Decides v w).1 (same_Some v w e) in
    let number : a ≡ a + 0 = omega arith in
    ap (λ b. cond b (Some (a, kind_of h a)) (sort_from (sort_names h (a + 1) names) (a + 1) w)) same ∙ ap (λ n. Some (n, kind_of h n)) number
sort_found h a (v ∷ names) (suc i) w once e =
    let number : a + 1 + i ≡ a + suc i = omega arith in
    by (bytes_eq v w) refl (sort_found h (a + 1) names i w (once_tail v names once) e ∙ ap (λ n. Some (n, kind_of h n)) number)
  where
    by : (b : Bool) → bytes_eq v w ≡ b → sort_from (sort_names h (a + 1) names) (a + 1) w ≡ Some (a + suc i, kind_of h (a + suc i))
        → (if b then Some (a, kind_of h a) else sort_from (sort_names h (a + 1) names) (a + 1) w) ≡ Some (a + suc i, kind_of h (a + suc i))
    by true q r = absurd (once_first v names i w once e ((bytes_eq-Decides v w).0 q))
    by false q r = r

-- ---- the first sort of a kind

-- n is a sort of the kind k with this name
pub record IsNamed (ss : List SortName) (k : ℕ) (text : List ℕ) : Type 0 where
  pub sort : SortName
  pub there : IsPresent ss sort
  pub kind : sort.kind ≡ k
  pub name : sort.name ≡ text

later : (s : SortName) (ss : List SortName) (k : ℕ) (name : List ℕ) → IsNamed ss k name → IsNamed (s ∷ ss) k name
later s ss k name n = record { sort = n.sort; there = (suc n.there.0, n.there.1); kind = n.kind; name = n.name }

-- where a sort of a kind has a name, the kind has a first sort
pub first_named : (ss : List SortName) (a n k : ℕ) (w : List ℕ) → sort_from ss a w ≡ Some (n, k) → IsNamed ss k (first_sort_name ss k)
first_named [] a n k w e = absurd (none-some (n, k) e)
first_named (s ∷ ss) a n k w e = by (bytes_eq s.name w) (s.kind == k) refl e (λ q. first_named ss (a + 1) n k w q)
  where
    by : (b c : Bool) → s.kind == k ≡ c → (if b then Some (a, s.kind) else sort_from ss (a + 1) w) ≡ Some (n, k)
        → (sort_from ss (a + 1) w ≡ Some (n, k) → IsNamed ss k (first_sort_name ss k))
        → IsNamed (s ∷ ss) k (option_map_or (λ v. v) (if c then Some s.name else first_name ss k) [])
    by b true q p ih = record { sort = s; there = (0, refl); kind = eqb-true s.kind k q; name = refl }
    by true false q p ih =
        let same : s.kind ≡ k = ap (λ (x : ℕ × ℕ). x.1) (same_Some (a, s.kind) (n, k) p) in
        absurd (no_eq s.kind k q same)
      where
        no_eq : (x y : ℕ) → (x == y) ≡ false → x ≡ y → ⊥
        no_eq x y f g = grind (arith, f, g)
    by false false q p ih = later s ss k (first_sort_name ss k) (ih p)
