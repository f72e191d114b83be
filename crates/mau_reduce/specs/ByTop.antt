-- Which equations may apply at the top of a term, by the operator there.
use Rattle.std.specs.Prelude.{◌≡◌, ℕ, suc, ◌<◌, ◌==◌, ◌||◌, ◌++◌, List, [], ◌∷◌, length, map, slice_index_or, Bool, true, not, if◌then◌else◌, is_some, Option, Some, None, slice_get}
use Rattle.mau_terms.specs.Tree.{Tree, variable, numeral, apply}
use Rattle.mau_terms.specs.View.{tree_of}
use Rattle.mau_terms.specs.declared.theory.Theory.{Theory}
use Rattle.mau_signature.specs.Signature.{theory_at}
use Rattle.mau_program.specs.declared.program.Program as Typed
use Rattle.mau_program.specs.declared.statements.Equation as Written
use Rattle.mau_evaluation.specs.Listing.{keep}
use Rattle.mau_api.specs.Programs.{equation_of}
use Rattle.mau_reduce.specs.Trying.{order_of_all}

-- ---- tops

-- the number of the operator on top of a term; 0, which is none, for a numeral and a variable
abbrev pub top_number : Tree → ℕ
top_number (variable i s) = 0
top_number (numeral n) = 0
top_number (apply f ts) = f

-- an operator with these axioms stays on top of normal forms: it has no identity and is not the successor
abbrev pub stays_on_top : Theory → Bool
stays_on_top h = not (is_some h.id || h.succ)

-- the number on top of all that a left side matches, if its own top tells
abbrev pub firm_top : (ℕ → Theory) → Tree → Option ℕ
firm_top th (variable i s) = None
firm_top th (numeral n) = Some 0
firm_top th (apply f ts) = if stays_on_top (th f) then Some f else None

-- an equation whose left side has this firm top may apply under the top g
abbrev pub may_apply : Option ℕ → ℕ → Bool
may_apply None g = true
may_apply (Some f) g = f == g

-- ---- equations by their numbers

abbrev pub firm_of : (ℕ → Theory) → Option Written.Equation → Option ℕ
firm_of th None = None
firm_of th (Some e) = firm_top th (tree_of e.left)

-- whether the equation with the number i may apply under the top g
abbrev pub may_apply_at : Typed.Program → ℕ → ℕ → Bool
may_apply_at p g i = may_apply (firm_of (theory_at p.sig) (slice_get p.equations i)) g

-- the numbers of the equations that may apply under the top g, in the order in which they are tried
abbrev pub order_under : Typed.Program → ℕ → List ℕ
order_under p g = keep (may_apply_at p g) (order_of_all (map equation_of p.equations))

-- and at the top of t
abbrev pub order_for : Typed.Program → Tree → List ℕ
order_for p t = order_under p (top_number t)

-- ---- lists of numbers

-- in the second lists the number i stands behind the others of each list whose place is a top under which the equation may apply
pub record IsAdded (top : Option ℕ) (i : ℕ) (old new : List (List ℕ)) : Type 0 where
  pub same_length : length new ≡ length old
  pub each : (g : ℕ) → g < length old → slice_index_or new g [] ≡ slice_index_or old g [] ++ (if may_apply top g then i ∷ [] else [])

-- they are so many, and all are empty
pub record AreEmpty (n : ℕ) (lists : List (List ℕ)) : Type 0 where
  pub as_many : length lists ≡ n
  pub empty : (g : ℕ) → slice_index_or lists g [] ≡ []

-- there is a list for each top, and it has the numbers of the equations that may apply under it
pub record AreOrders (p : Typed.Program) (orders : List (List ℕ)) : Type 0 where
  pub one_each : length orders ≡ suc (length p.sig.declarations)
  pub under : (g : ℕ) → g < length orders → slice_index_or orders g [] ≡ order_under p g
