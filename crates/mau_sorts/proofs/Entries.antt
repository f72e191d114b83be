-- Tables of sorts: what an entry says of its term, by the entries of the arguments.
use Rattle.std.proofs.Common.{◌≡◌, ◌<◌, ◌+◌, ℕ, zero, suc, List, [], ◌∷◌, ◌++◌, ⊎_elim, inl, inr, length, map, take, get_or, refl, sym, ap, ◌∙◌, subst, arith}
use Rattle.std.specs.Prelude.{◌↔◌, ◌⊎◌, ◌≢◌, All, Bool, true, false, Option, Some, None, is_some, slice_index_or}
use Rattle.std.specs.Bool.{MatchBool}
use Rattle.std.proofs.lemmas.Bool.{cases_eq}
use Rattle.std.proofs.lemmas.List.{take_more, get_or-map, map-append}
use Rattle.std.proofs.lemmas.List.Elements.{All-head, All-tail}
use Rattle.std.specs.List.Sorted.{IsStrictlyIncreasing}
use denote.Ref.{Bor}
use Rattle.mau_poset.specs.Order.{Hierarchy, IsAtOrBelow}
use Rattle.mau_terms.specs.Tree.{Tree, trees_of, variable, numeral}
use Rattle.mau_terms.specs.declared.ids.TermId.{TermId}
use Rattle.mau_signature.specs.Signature.{SignatureOf, theory_at}
use Rattle.mau_sigcheck.specs.Accepted.{IsSortOfNumeral}
use Rattle.mau_store.specs.Node.{Node, numeral_node, variable_node, operator_node, arguments, IsOf}
use Rattle.mau_store.specs.Trees.{tree_over, tree_at}
use Rattle.mau_store.specs.View.{numbers}
use Rattle.mau_sorts.specs.SortSets.{SortsOf, IsAbove, IsIn, IsOver, AreApart, IsKeptOf}
use Rattle.mau_sorts.specs.HasSort.{Known, IsKnown, HasSort, AllHave, ListHas, Gives, NumeralHas, OfTwo}
use Rattle.mau_sorts.specs.Table.{Table, entry_at, IsSettled, AreEntries, AreOver, IsKnownOf}
use Rattle.mau_sorts.specs.Derived.{AllIn, ListIn, OverIn, set_or_none, sets, sets_at, NodeHasWith}
use Rattle.mau_sorts.proofs.Derivations.{Gives-same}

-- ---- entries

pub entry_push : (t : List (Option SortsOf)) (j : ℕ) → slice_index_or (t ++ None ∷ []) j None ≡ slice_index_or t j None
entry_push [] zero = refl
entry_push [] (suc j) = refl
entry_push (x ∷ t) zero = refl
entry_push (x ∷ t) (suc j) = entry_push t j

-- what is settled has an entry
pub settled_entry : (o : Option SortsOf) → is_some o ≡ true → o ≡ Some (set_or_none o)
settled_entry (Some e) some = refl
settled_entry None some = cc

-- ---- sets of numbers

pub numbers_length : (ids : List TermId) → length (numbers ids) ≡ length ids
numbers_length [] = refl
numbers_length (id ∷ ids) = ap suc (numbers_length ids)

pub sets_more : (t : Table) (ids : List TermId) (found : List (Bor SortsOf)) (i : ℕ) (d : TermId) (set : Bor SortsOf) → i < length ids
    → sets found ≡ sets_at t (take i (numbers ids)) → Some set.now ≡ entry_at t (get_or ids i d).0 → sets (found ++ set ∷ []) ≡ sets_at t (take (i + 1) (numbers ids))
sets_more t ids found i d set below had entry =
    map-append (λ (b : Bor SortsOf). b.now) found (set ∷ [])
    ∙ ap (λ xs. xs ++ set.now ∷ []) had
    ∙ ap (λ (x : SortsOf). sets_at t (take i (numbers ids)) ++ x ∷ []) (ap set_or_none entry ∙ ap (λ n. set_or_none (entry_at t n)) (sym number))
    ∙ sym (map-append (λ n. set_or_none (entry_at t n)) (take i (numbers ids)) (get_or (numbers ids) i 0 ∷ []))
    ∙ ap (sets_at t) (sym (take_more (numbers ids) i 0 (omega (arith, numbers_length ids))))
  where
    number : get_or (numbers ids) i 0 ≡ (get_or ids i d).0
    number = get_or-map (λ (y : TermId). y.0) ids i d 0 below

pub settled_number : (t : Table) (ids : List TermId) (i : ℕ) (d : TermId) → All (IsSettled t) (numbers ids) → i < length ids → IsSettled t (get_or ids i d).0
settled_number t ids i d all below =
    subst (IsSettled t) (get_or-map (λ (y : TermId). y.0) ids i d 0 below) (all i 0 (omega (arith, numbers_length ids)))

-- the sets of settled numbers are over the sorts
pub sets_over : (h : Hierarchy) (t : Table) → AreOver h t → (ids : List ℕ) → All (IsSettled t) ids → All (IsOver h) (sets_at t ids)
sets_over h t over [] all k d below = absurd (omega arith)
sets_over h t over (i ∷ ids) all zero d below = over i (set_or_none (entry_at t i)) (settled_entry (entry_at t i) (All-head (IsSettled t) i ids all))
sets_over h t over (i ∷ ids) all (suc k) d below = sets_over h t over ids (All-tail (IsSettled t) i ids all) k d (omega arith)

-- ---- numerals

pub one_numeral : (numerals : Option (ℕ × ℕ)) (n q r : ℕ) → IsSortOfNumeral numerals n q → IsSortOfNumeral numerals n r → q ≡ r
one_numeral None n q r a b = absurd a
one_numeral (Some p) n q r a b = sym a ∙ b

pub numeral_exact : (s : SignatureOf) (n q r : ℕ) → IsSortOfNumeral s.numerals n q → IsAtOrBelow s.hierarchy q r ↔ NumeralHas s n r
numeral_exact s n q r is = (
  λ low. (q, is, low),
  λ (p, other, low). subst (λ x. IsAtOrBelow s.hierarchy x r) (one_numeral s.numerals n p q other is) low,
)

-- ---- entries and derivations

-- the entries of some numbers say just which sorts their terms have
abbrev pub SaySorts : SignatureOf → Known → (ℕ → Tree) → Table → List ℕ → Type 0
SaySorts s known g t ids = All (λ i. (r : ℕ) → IsIn s.hierarchy (set_or_none (entry_at t i)) r ↔ HasSort s known (g i) r) ids

pub say_sorts : (s : SignatureOf) (known : Known) (nodes : List Node) (t : Table) (ids : List ℕ) → AreEntries s known nodes t → All (IsSettled t) ids → SaySorts s known (tree_at nodes) t ids
say_sorts s known nodes t ids entries settled k d below =
    (entries (get_or ids k d) (set_or_none (entry_at t (get_or ids k d))) (settled_entry (entry_at t (get_or ids k d)) (settled k d below))).1.exact

all_same : (s : SignatureOf) (known : Known) (g : ℕ → Tree) (t : Table) (ids : List ℕ) → SaySorts s known g t ids
    → (rs : List ℕ) → AllIn s.hierarchy (sets_at t ids) rs ↔ AllHave s known (trees_of (map g ids)) rs
all_same s known g t [] say [] = (λ a. a, λ a. a)
all_same s known g t [] say (r ∷ rs) = (λ a. a, λ a. a)
all_same s known g t (i ∷ ids) say [] = (λ a. a, λ a. a)
all_same s known g t (i ∷ ids) say (r ∷ rs) =
    let head = All-head (λ j. (q : ℕ) → IsIn s.hierarchy (set_or_none (entry_at t j)) q ↔ HasSort s known (g j) q) i ids say in
    let tail = all_same s known g t ids (All-tail (λ j. (q : ℕ) → IsIn s.hierarchy (set_or_none (entry_at t j)) q ↔ HasSort s known (g j) q) i ids say) rs in
    (λ a. ((head r).0 a.0, tail.0 a.1), λ a. ((head r).1 a.0, tail.1 a.1))

pub of_two : (P P' : ℕ → ℕ → Type 0) → ((a b : ℕ) → P a b → P' a b) → (rs : List ℕ) → OfTwo P rs → OfTwo P' rs
of_two P P' to [] two = two
of_two P P' to (a ∷ []) two = two
of_two P P' to (a ∷ b ∷ []) two = to a b two
of_two P P' to (a ∷ b ∷ c ∷ rs) two = two

list_same : (s : SignatureOf) (known : Known) (g : ℕ → Tree) (t : Table) (f : ℕ) (ids : List ℕ) → SaySorts s known g t ids
    → (r : ℕ) → ListIn s f (sets_at t ids) r ↔ ListHas s known f (trees_of (map g ids)) r
list_same s known g t f [] say r = (λ a. a, λ a. a)
list_same s known g t f (i ∷ []) say r = All-head (λ j. (q : ℕ) → IsIn s.hierarchy (set_or_none (entry_at t j)) q ↔ HasSort s known (g j) q) i [] say r
list_same s known g t f (i ∷ j ∷ ids) say r =
    let head = All-head (λ k. (q : ℕ) → IsIn s.hierarchy (set_or_none (entry_at t k)) q ↔ HasSort s known (g k) q) i (j ∷ ids) say in
    let tail = list_same s known g t f (j ∷ ids) (All-tail (λ k. (q : ℕ) → IsIn s.hierarchy (set_or_none (entry_at t k)) q ↔ HasSort s known (g k) q) i (j ∷ ids) say) in (
      Gives-same s f _ _ (of_two _ _ (λ a b both. ((head a).0 both.0, (tail b).0 both.1))) r,
      Gives-same s f _ _ (of_two _ _ (λ a b both. ((head a).1 both.0, (tail b).1 both.1))) r,
    )

over_same : (s : SignatureOf) (known : Known) (g : ℕ → Tree) (t : Table) (f : ℕ) (ids : List ℕ) (assoc : Bool) → SaySorts s known g t ids → (r : ℕ)
    → MatchBool assoc (ListIn s f (sets_at t ids) r) (Gives s f (λ rs. AllIn s.hierarchy (sets_at t ids) rs) r)
    ↔ MatchBool assoc (ListHas s known f (trees_of (map g ids)) r) (Gives s f (λ rs. AllHave s known (trees_of (map g ids)) rs) r)
over_same s known g t f ids true say r = list_same s known g t f ids say r
over_same s known g t f ids false say r = (
  Gives-same s f _ _ (λ rs. (all_same s known g t ids say rs).0) r,
  Gives-same s f _ _ (λ rs. (all_same s known g t ids say rs).1) r,
)

known_same : (h : Hierarchy) (known : Known) (u : Tree) (more : List ℕ) → IsKnownOf known u more → (r : ℕ) → IsAbove h more r ↔ IsKnown h known u r
known_same h known u more is r = (λ (m, among, low). (m, (is m).1 among, low), λ (q, among, low). (q, (is q).0 among, low))

either : (A A' B B' : Type 0) → A ↔ A' → B ↔ B' → (A ⊎ B) ↔ (A' ⊎ B')
either A A' B B' a b = (⊎_elim (λ x. inl (a.0 x)) (λ x. inr (b.0 x)), ⊎_elim (λ x. inl (a.1 x)) (λ x. inr (b.1 x)))

pub node_same : (s : SignatureOf) (known : Known) (g : ℕ → Tree) (t : Table) (n : Node) (more : List ℕ) → SaySorts s known g t (arguments n)
    → IsKnownOf known (tree_over g n) more → (r : ℕ) → NodeHasWith s t n more r ↔ HasSort s known (tree_over g n) r
node_same s known g t (variable_node i p) more say is r = either _ _ _ _ (λ a. a, λ a. a) (known_same s.hierarchy known (variable i p) more is r)
node_same s known g t (numeral_node v) more say is r = either _ _ _ _ (λ a. a, λ a. a) (known_same s.hierarchy known (numeral v) more is r)
node_same s known g t (operator_node f ids) more say is r = either _ _ _ _ (over_same s known g t f ids (theory_at s f).assoc say r) (known_same s.hierarchy known (tree_over g (operator_node f ids)) more is r)

pub numeral_set : (s : SignatureOf) (h : Hierarchy) (e : SortsOf) (n q : ℕ) → h ≡ s.hierarchy → IsSortOfNumeral s.numerals n q
    → ((r : ℕ) → IsIn h e r ↔ IsAtOrBelow h q r) → (r : ℕ) → IsIn s.hierarchy e r ↔ NumeralHas s n r
numeral_set s h e n q same is exact r =
    let here = subst (λ x. IsIn x e r ↔ IsAtOrBelow x q r) same (exact r) in
    let there = numeral_exact s n q r is in
    (λ a. there.0 (here.0 a), λ a. here.1 (there.1 a))

pub over_all : (s : SignatureOf) (f : ℕ) (es : List SortsOf) (r : ℕ) → (theory_at s f).assoc ≡ false → Gives s f (AllIn s.hierarchy es) r ↔ OverIn s f es r
over_all s f es r plain = subst (λ b. Gives s f (AllIn s.hierarchy es) r ↔ MatchBool b (ListIn s f es r) (Gives s f (λ rs. AllIn s.hierarchy es rs) r)) (sym plain) (λ a. a, λ a. a)

-- ---- an entry that is made

-- e is made for the node n
pub record IsMade (s : SignatureOf) (t : Table) (n : Node) (more : List ℕ) (e : SortsOf) : Type 0 where
  pub exact : (r : ℕ) → IsIn s.hierarchy e r ↔ NodeHasWith s t n more r
  pub over : IsOver s.hierarchy e
  pub apart : AreApart s.hierarchy e.minimal
  pub ascending : IsStrictlyIncreasing e.minimal

-- e is entered at i
pub record IsEntered (old new : Table) (i : ℕ) (e : SortsOf) : Type 0 where
  pub entered : entry_at new i ≡ Some e
  pub others : (j : ℕ) → j ≢ i → entry_at new j ≡ entry_at old j

pub entered_value : (s : SignatureOf) (nodes : List Node) (old new : Table) (i : ℕ) (n : Node) (more : List ℕ) (e : SortsOf) → IsMade s old n more e → IsEntered old new i e
    → IsOf nodes i → tree_at nodes i ≡ tree_over (tree_at nodes) n → All (IsSettled old) (arguments n)
    → (known : Known) → AreEntries s known nodes old → IsKnownOf known (tree_at nodes i) more → AreEntries s known nodes new
entered_value s nodes old new i n more e made entered there tree settled known entries is j d at_j = ⊎_elim
    (λ (same : j ≡ i).
    let e_is : Some d ≡ Some e = sym at_j ∙ ap (entry_at new) same ∙ entered.entered in
    let d_is : d ≡ e = cc in
    subst (λ x. IsOf nodes x × IsKeptOf s.hierarchy (HasSort s known (tree_at nodes x)) d) (sym same) (there, subst (IsKeptOf s.hierarchy (HasSort s known (tree_at nodes i))) (sym d_is) kept))
    (λ (other : j ≢ i). entries j d (sym (entered.others j other) ∙ at_j))
    (cases_eq j i)
  where
    says : (r : ℕ) → NodeHasWith s old n more r ↔ HasSort s known (tree_over (tree_at nodes) n) r
    says = node_same s known (tree_at nodes) old n more (say_sorts s known nodes old (arguments n) entries settled) (subst (λ u. IsKnownOf known u more) tree is)

    kept : IsKeptOf s.hierarchy (HasSort s known (tree_at nodes i)) e
    kept = record {
      exact = λ r. subst (λ u. IsIn s.hierarchy e r ↔ HasSort s known u r) (sym tree) (λ a. (says r).0 ((made.exact r).0 a), λ a. (made.exact r).1 ((says r).1 a));
      sorts = made.over.minimal;
      kind = made.over.kind;
      apart = made.apart;
      ascending = made.ascending;
    }
