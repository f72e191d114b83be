-- What facts say, by the numbers of their terms in a store.
use Rattle.std.specs.Prelude.{◌≡◌, ◌<◌, ◌==◌, ◌⊎◌, ◌||◌, not, ℕ, List, [], ◌∷◌, Bool, true, false, ◌&&◌, Option, Some, None, if◌then◌else◌}
use Rattle.std.specs.Option.{option_and_then}
use Rattle.std.specs.List.{AllZip, list_any}
use Rattle.mau_poset.specs.Order.{kind_of}
use Rattle.mau_terms.specs.Bare.{IsBareIn}
use Rattle.mau_signature.specs.Signature.{SignatureOf, terms_over}
use Rattle.mau_store.specs.Node.{Node}
use Rattle.mau_logic.specs.Says.{Says, leads, of_sort, says_nothing}
use Rattle.mau_check.specs.declared.said.Said.{Said}
use Rattle.mau_check.specs.declared.said.Said.TheVariants.{Leads, Sorted}
use Rattle.mau_check.specs.declared.kept.Kept.{Kept}
use Rattle.mau_check.specs.Kept.{IsKeptFor}

-- a term that has a sort lies in the sort's kind
abbrev pub IsSaid : SignatureOf → List Node → Said → Says → Type 0
IsSaid s nodes (Leads e a b) (leads d t u) = (e ≡ d) × IsKeptFor s nodes a t × IsKeptFor s nodes b u
IsSaid s nodes (Leads e a b) _ = ⊥
IsSaid s nodes (Sorted a q) (of_sort t r) = (q ≡ r) × IsKeptFor s nodes a t × (r < s.hierarchy.sorts) × IsBareIn (terms_over s) t (kind_of s.hierarchy r)
IsSaid s nodes (Sorted a q) _ = ⊥

abbrev pub AreSaid : SignatureOf → List Node → List Said → List Says → Type 0
AreSaid s nodes xs ys = AllZip (IsSaid s nodes) xs ys

-- what is found of a fact: what it says, exactly where it is justified
abbrev pub Decides : SignatureOf → List Node → Option Said → Type 0 → Says → Type 0
Decides s nodes (Some x) J y = J × IsSaid s nodes x y
Decides s nodes None J y = J → ⊥

-- ---- facts that lead on

-- from where x leads to where y does, if y goes on from x
abbrev pub onward : Said → Said → Option Said
onward (Leads e a b) (Leads d c f) = if b.id.0 == c.id.0 then Some (Leads (e && d) a f) else None
onward (Leads e a b) (Sorted c r) = None
onward (Sorted a q) y = None

abbrev pub onward_all : Said → List Said → Option Said
onward_all x [] = Some x
onward_all x (y ∷ ys) = option_and_then (λ z. onward_all z ys) (onward x y)

-- ---- facts beside one another

abbrev pub StartsAt : Said → Kept → Type 0
StartsAt (Leads e a b) k = k ≡ a
StartsAt (Sorted a r) k = ⊥

abbrev pub EndsAt : Said → Kept → Type 0
EndsAt (Leads e a b) k = k ≡ b
EndsAt (Sorted a r) k = ⊥

-- all lead by equations
abbrev pub by_equations : List Said → Bool
by_equations [] = true
by_equations (Leads e a b ∷ xs) = e && by_equations xs
by_equations (Sorted a r ∷ xs) = false

-- what each leads from and to, and whether all do so by equations
pub record AreEnds (xs : List Said) (equations : Bool) (starts ends : List Kept) : Type 0 where
  pub equational : equations ≡ by_equations xs
  pub from : AllZip StartsAt xs starts
  pub to : AllZip EndsAt xs ends

-- ---- one of some facts

-- P holds of one of them
abbrev pub SomeSaid : (Said → Type 0) → List Said → Type 0
SomeSaid P [] = ⊥
SomeSaid P (x ∷ xs) = P x ⊎ SomeSaid P xs

-- x leads from the number i to the number j, and by equations where e is true
abbrev pub is_lead : Bool → ℕ → ℕ → Said → Bool
is_lead e i j (Leads d a b) = (d || not e) && ((a.id.0 == i) && (b.id.0 == j))
is_lead e i j (Sorted a r) = false

-- x leads by equations from the number i to where one of us leads from the number j
abbrev pub is_meeting : List Said → ℕ → ℕ → Said → Bool
is_meeting us i j (Leads d a b) = (d && (a.id.0 == i)) && list_any (is_lead true j b.id.0) us
is_meeting us i j (Sorted a r) = false
