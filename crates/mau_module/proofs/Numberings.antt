-- Sorts and kinds in the numbers of a module that includes theirs: kinds are kept, and numbers of numbers are numbers.
use Rattle.std.proofs.Common.{◌≡◌, ◌<◌, ◌≤◌, ◌⊎◌, ℕ, ◌+◌, List, [], ◌∷◌, Bool, ◌||◌, true, false, length, get_or, Some, refl, sym, ◌∙◌, ap, subst, inl, inr, arith, eq-eqb, eqb-true}
use Rattle.std.specs.Prelude.{bytes_eq, position, nat_eq}
use Rattle.std.specs.List.{list_any, position_or_len, range_with_len}
use Rattle.std.specs.Option.{option_map_or}
use Rattle.std.proofs.lemmas.Bool.{cases_lt}
use Rattle.std.proofs.lemmas.List.Quantifiers.{position-Some}
use Rattle.std.proofs.lemmas.List.FromFn.{get_or-range_with_len, length-range_with_len}
use Rattle.std.proofs.lemmas.Option.{slice_get-get_or}
use Rattle.std.proofs.lemmas.Slice.Eq.{bytes_eq-Decides}
use Rattle.mau_poset.specs.Order.{Hierarchy, no_step, step, Leads, Joins, AreJoined, IsWithin, kind_of, kinds}
use Rattle.mau_poset.proofs.Orders.{kind_of-kind, kind_of-above, kind_of-in_range, joined_sorts, numbers_kinds}
use Rattle.mau_terms.specs.Finite.{IsIn}
use Rattle.mau_signature.specs.Faults.{IsSort}
use Rattle.mau_declare.specs.Names.{has_name}
use Rattle.mau_declare.specs.Flattened.{name_at}
use Rattle.mau_module.specs.Numbering.{or_zero, number_in, sort_to, first_sort_of, number_to}
use Rattle.mau_module.proofs.Numbers.{sort_number, kind_number}
use Rattle.mau_module.proofs.Members.{get_in, in_range}
use Rattle.mau_module.proofs.Sources.{position_there}

-- ---- the number of a name

pub number_found : (names : List (List ℕ)) (x : List ℕ) → has_name names x ≡ true → position (bytes_eq x) names ≡ Some (number_in names x)
number_found names x e =
    let p = position_there (bytes_eq x) names e in p ∙ ap Some (sym (ap or_zero p))

pub number_within : (names : List (List ℕ)) (x : List ℕ) → has_name names x ≡ true → number_in names x < length names
number_within names x e = (position-Some (bytes_eq x) names (number_in names x) [] (number_found names x e)).0

pub name_of_number : (names : List (List ℕ)) (x : List ℕ) → has_name names x ≡ true → name_at names (number_in names x) ≡ x
name_of_number names x e =
    let r = position-Some (bytes_eq x) names (number_in names x) [] (number_found names x e) in
    ap (λ o. option_map_or (λ y. y) o []) (slice_get-get_or names (number_in names x) [] r.0)
    ∙ sym ((bytes_eq-Decides x (get_or names (number_in names x) [])).0 r.1)

pub name_in : (names : List (List ℕ)) (a : ℕ) → a < length names → IsIn (name_at names a) names
name_in names a l =
    subst (λ x. IsIn x names) (sym (ap (λ o. option_map_or (λ y. y) o []) (slice_get-get_or names a [] l))) (get_in names a [] l)

-- ---- the first sort of a kind

any_in : (p : ℕ → Bool) (xs : List ℕ) (x : ℕ) → IsIn x xs → p x ≡ true → list_any p xs ≡ true
any_in p [] x h e = absurd h
any_in p (y ∷ xs) x (inl s) e = ap (λ b. b || list_any p xs) (subst (λ z. p z ≡ true) s e)
any_in p (y ∷ xs) x (inr h) e = by (p y) (any_in p xs x h e)
  where
    by : (b : Bool) → list_any p xs ≡ true → (b || list_any p xs) ≡ true
    by true i = refl
    by false i = i

pub first_sort_there : (h : Hierarchy) (k a : ℕ) → a < h.sorts → kind_of h a ≡ k → (first_sort_of h k < h.sorts) × (kind_of h (first_sort_of h k) ≡ k)
first_sort_there h k a l e =
    let p : ℕ → Bool = λ s. nat_eq (kind_of h s) k in
    let xs = range_with_len 0 h.sorts in
    let there = any_in p xs a (in_range 0 h.sorts a (omega arith) (omega arith)) (eq-eqb (kind_of h a) k e) in
    let found = position_there p xs there in
    let i = position_or_len p xs in
    let r = position-Some p xs i 0 found in
    let lt : i < h.sorts = rw length-range_with_len at r.0 in
    let is : first_sort_of h k ≡ i = ap or_zero found in
    let value : get_or xs i 0 ≡ i = get_or-range_with_len 0 h.sorts i 0 lt ∙ omega arith in
    (omega (arith, is, lt), subst (λ s. kind_of h s ≡ k) (value ∙ sym is) (eqb-true (kind_of h (get_or xs i 0)) k r.1))

-- a kind that is there has a first sort
pub kind_has_sort : (h : Hierarchy) (k : ℕ) → h.sorts ≤ k → k < h.sorts + kinds h → (first_sort_of h k < h.sorts) × (kind_of h (first_sort_of h k) ≡ k)
kind_has_sort h k l m = let r = (numbers_kinds h).each k l m in first_sort_there h k r.0 r.1.0 r.2

pub kind_again : (h : Hierarchy) (a : ℕ) → kind_of h (kind_of h a) ≡ kind_of h a
kind_again h a = kind_of-kind h (kind_of h a) (kind_of-above h a)

-- ---- numbers of one hierarchy over another one

-- each sort has a name, and each name is there again; a pair that leads from one sort to another does so in the new numbers
pub record IsNumbering (olds : List (List ℕ)) (old : Hierarchy) (news : List (List ℕ)) (new : Hierarchy) : Type 0 where
  pub old_named : length olds ≡ old.sorts
  pub new_named : length news ≡ new.sorts
  pub known : (x : List ℕ) → IsIn x olds → has_name news x ≡ true
  pub within : IsWithin old.pairs old.sorts
  pub pairs : (a b : ℕ) → Leads old.pairs a b → Leads new.pairs (sort_to olds news a) (sort_to olds news b)

module _ (olds : List (List ℕ)) (old : Hierarchy) (news : List (List ℕ)) (new : Hierarchy) (n : IsNumbering olds old news new) where
  abbrev to : ℕ → ℕ
  to = sort_to olds news

  abbrev number : ℕ → ℕ
  number = number_to olds old news new

  pub sort_known : (a : ℕ) → a < old.sorts → has_name news (name_at olds a) ≡ true
  sort_known a l = n.known (name_at olds a) (name_in olds a (omega (arith, n.old_named)))

  pub sort_within : (a : ℕ) → a < old.sorts → to a < new.sorts
  sort_within a l = omega (arith, number_within news (name_at olds a) (sort_known a l), n.new_named)

  joins : (a b : ℕ) → Joins old.pairs a b → Joins new.pairs (to a) (to b)
  joins a b (inl l) = inl (n.pairs a b l)
  joins a b (inr l) = inr (n.pairs b a l)

  joined : {a b : ℕ} → AreJoined old.pairs a b → AreJoined new.pairs (to a) (to b)
  joined no_step = no_step
  joined (step {a = x} {b = y} s r) = step (joins x y s) (joined r)

  pub same_kind : (a b : ℕ) → a < old.sorts → b < old.sorts → kind_of old a ≡ kind_of old b → kind_of new (to a) ≡ kind_of new (to b)
  same_kind a b l m e = (joined_sorts new (to a) (to b) (sort_within a l) (sort_within b m)).1 (joined ((joined_sorts old a b l m).0 e))

  -- the number of a kind is the kind of the number of each of its sorts
  pub number_of_kind : (k a : ℕ) → a < old.sorts → kind_of old a ≡ k → number k ≡ kind_of new (to a)
  number_of_kind k a l e =
      let above : old.sorts ≤ k = subst (λ x. old.sorts ≤ x) e (kind_of-above old a) in
      let below : k < old.sorts + kinds old = subst (λ x. x < old.sorts + kinds old) e (kind_of-in_range old a l) in
      let f = first_sort_there old k a l e in
      kind_number olds old news new k above below ∙ same_kind (first_sort_of old k) a f.0 l (f.1 ∙ sym e)

  pub kinds_kept : (a : ℕ) → IsSort old a → kind_of new (number a) ≡ number (kind_of old a)
  kinds_kept a s = by (cases_lt a old.sorts)
    where
      by : (a < old.sorts) ⊎ (old.sorts ≤ a) → kind_of new (number a) ≡ number (kind_of old a)
      by (inl l) = ap (kind_of new) (sort_number olds old news new a l) ∙ sym (number_of_kind (kind_of old a) a l refl)
      by (inr g) =
          let f = kind_has_sort old a g s in
          let is = number_of_kind a (first_sort_of old a) f.0 f.1 in
          ap (kind_of new) is ∙ kind_again new (to (first_sort_of old a)) ∙ sym is ∙ ap number (sym (kind_of-kind old a g))

  pub number_there : (a : ℕ) → IsSort old a → IsSort new (number a)
  number_there a s = by (cases_lt a old.sorts)
    where
      by : (a < old.sorts) ⊎ (old.sorts ≤ a) → IsSort new (number a)
      by (inl l) = omega (arith, sort_number olds old news new a l, sort_within a l)
      by (inr g) =
          let f = kind_has_sort old a g s in
          omega (arith, number_of_kind a (first_sort_of old a) f.0 f.1, kind_of-in_range new (to (first_sort_of old a)) (sort_within (first_sort_of old a) f.0))

-- ---- numbers of numbers

module _ (as_ : List (List ℕ)) (a : Hierarchy) (bs : List (List ℕ)) (b : Hierarchy) (cs : List (List ℕ)) (c : Hierarchy)
    (first : IsNumbering as_ a bs b) (second : IsNumbering bs b cs c) where
  pub sort_again : (s : ℕ) → s < a.sorts → sort_to bs cs (sort_to as_ bs s) ≡ sort_to as_ cs s
  sort_again s l = ap (number_in cs) (name_of_number bs (name_at as_ s) (sort_known as_ a bs b first s l))

  pub number_again : (s : ℕ) → IsSort a s → number_to bs b cs c (number_to as_ a bs b s) ≡ number_to as_ a cs c s
  number_again s is = by (cases_lt s a.sorts)
    where
      by : (s < a.sorts) ⊎ (a.sorts ≤ s) → number_to bs b cs c (number_to as_ a bs b s) ≡ number_to as_ a cs c s
      by (inl l) =
          ap (number_to bs b cs c) (sort_number as_ a bs b s l) ∙ sort_number bs b cs c (sort_to as_ bs s) (sort_within as_ a bs b first s l)
          ∙ sort_again s l ∙ sym (sort_number as_ a cs c s l)
      by (inr g) =
          let f = first_sort_of a s in
          let k = kind_has_sort a s g is in
          ap (number_to bs b cs c) (kind_number as_ a bs b s g is)
          ∙ number_of_kind bs b cs c second (kind_of b (sort_to as_ bs f)) (sort_to as_ bs f) (sort_within as_ a bs b first f k.0) refl
          ∙ ap (kind_of c) (sort_again f k.0) ∙ sym (kind_number as_ a cs c s g is)
