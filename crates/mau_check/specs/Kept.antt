-- The terms of a section as numbers of a store.
use Rattle.std.specs.Prelude.{◌≡◌, ℕ, ◌≤◌, List, [], ◌∷◌, length, map, All, Option, Some, None}
use Rattle.std.specs.List.{AllZip}
use Rattle.std.specs.Bool.{MatchBool}
use Rattle.mau_terms.specs.Tree.{Tree}
use Rattle.mau_terms.specs.Bare.{IsBareIn}
use Rattle.mau_signature.specs.Signature.{SignatureOf, theory_at, terms_over}
use Rattle.mau_store.specs.Node.{Node, IsOf}
use Rattle.mau_store.specs.Trees.{StandsFor}
use Rattle.mau_api.specs.Terms.{IsBareWithin, holes}
use Rattle.mau_logic.specs.Justified.{With}
use Rattle.mau_check.specs.declared.kept.Holes.{Holes}
use Rattle.mau_check.specs.declared.kept.Holes.TheVariants.{Absent, Single, Several}
use Rattle.mau_check.specs.declared.kept.Kept.{Kept}

-- ---- terms

-- the kinds of some holes, from left to right
abbrev pub AreHoles : Holes → List ℕ → Type 0
AreHoles Absent ks = ks ≡ []
AreHoles (Single k) ks = ks ≡ k ∷ []
AreHoles Several ks = 2 ≤ length ks

-- k is what is kept for t: t is a bare term within the limits, and its normal form has the number in the store
pub record IsKeptFor (s : SignatureOf) (nodes : List Node) (k : Kept) (t : Tree) : Type 0 where
  pub within : IsBareWithin s t
  pub kind : IsBareIn (terms_over s) t k.kind
  pub there : IsOf nodes k.id.0
  pub stands : StandsFor (theory_at s) nodes k.id.0 t
  pub holes : AreHoles k.holes (holes t)

abbrev pub AreKeptFor : SignatureOf → List Node → List Kept → List Tree → Type 0
AreKeptFor s nodes ks ts = AllZip (IsKeptFor s nodes) ks ts

-- what is kept of a line: something exactly where a fact may name its term
abbrev pub IsKept : SignatureOf → List Node → Option Kept → Option Tree → Type 0
IsKept s nodes (Some k) t = With t (IsKeptFor s nodes k)
IsKept s nodes None t = With t (IsBareWithin s) → ⊥

abbrev pub AreKept : SignatureOf → List Node → List (Option Kept) → List (Option Tree) → Type 0
AreKept s nodes ks ts = AllZip (IsKept s nodes) ks ts

-- ---- operators over terms

abbrev pub kinds_of : List Kept → List ℕ
kinds_of ks = map (λ k. k.kind) ks

-- the operator f may stand over terms of these kinds: those of its arguments, or, where it is associative, two or more of its result
abbrev pub SuitsKinds : SignatureOf → ℕ → List ℕ → Type 0
SuitsKinds s f ks = MatchBool (theory_at s f).assoc ((2 ≤ length ks) × All (λ k. k ≡ (terms_over s).result f) ks) (ks ≡ (terms_over s).arguments f)
