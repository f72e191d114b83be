-- The places of a term, one after another: the subterms that are open on the way to a place, from the root on.
use Rattle.std.specs.Prelude.{ℕ, suc, ◌-◌, ◌≡◌, List, [], ◌∷◌, ◌++◌, take, drop, Bool, if◌then◌else◌, Some, slice_get}
use Rattle.mau_terms.specs.Tree.{Tree, apply, node, list_of, trees_of}
use Rattle.mau_signature.specs.Signature.{SignatureOf, theory_at, declarations_at, attributes_of}
use Rattle.mau_store.specs.Node.{Node, operator_node}
use Rattle.mau_store.specs.Trees.{tree_at}
use Rattle.mau_evaluation.specs.Rules.{Place, places_in}
use Rattle.mau_api.specs.Programs.{is_frozen}
use Rattle.mau_api.specs.Terms.{IsTerm}
use Rattle.mau_reduce.specs.Kinds.{IsTermIn}
use Rattle.mau_rules.specs.declared.walk.Open.{Open}

-- which arguments of an operator, counted from 0, are frozen
abbrev pub is_frozen_at : SignatureOf → ℕ → ℕ → Bool
is_frozen_at s f i = is_frozen (theory_at s f).assoc (attributes_of (declarations_at s f)).frozen i

-- ---- by trees

-- a term, and how many of its arguments are behind the walk
abbrev pub Opened : Type 0
Opened = Tree × ℕ

abbrev pub opened : List Node → Open → Opened
opened nodes o = (tree_at nodes o.term.0, o.next)

-- around the argument that the walk entered last
abbrev pub around_last : (Tree → Tree) → Tree → ℕ → Tree → Tree
around_last around (apply f ts) n v = around (node f (take (n - 1) (list_of ts) ++ v ∷ drop n (list_of ts)))
around_last around t n v = around v

-- the places below the arguments that are not yet behind the walk
abbrev pub places_behind : (ℕ → ℕ → Bool) → (Tree → Tree) → Tree → ℕ → List Place
places_behind z around (apply f ts) n = places_in z around f (take n (list_of ts)) n (trees_of (drop n (list_of ts)))
places_behind z around t n = []

-- the places below a term, or none where these are left out
abbrev pub below_unless : Bool → (ℕ → ℕ → Bool) → (Tree → Tree) → Tree → List Place
below_unless skip z around t = if skip then [] else places_behind z around t 0

-- around the last one of some open terms, each of which is the argument entered last of the one before it
abbrev pub around_all : (Tree → Tree) → List Opened → Tree → Tree
around_all around [] = around
around_all around (o ∷ os) = around_all (around_last around o.0 o.1) os

-- the places that are left
abbrev pub places_left : (ℕ → ℕ → Bool) → (Tree → Tree) → List Opened → List Place
places_left z around [] = []
places_left z around (o ∷ os) = places_left z (around_last around o.0 o.1) os ++ places_behind z around o.0 o.1

-- ---- by the numbers of a store

-- the argument of an open term that was entered last has the number child
pub record IsStep (nodes : List Node) (o : Open) (child : ℕ) : Type 0 where
  pub operator : ℕ
  pub ids : List ℕ
  pub at : slice_get nodes o.term.0 ≡ Some (operator_node operator ids)
  pub place : ℕ
  pub next : o.next ≡ suc place
  pub argument : slice_get ids place ≡ Some child

-- each of the open terms is the argument entered last of the one before it, from the root on, and the term is that of the last one
abbrev pub IsPath : List Node → ℕ → List Open → ℕ → Type 0
IsPath nodes root [] term = root ≡ term
IsPath nodes root (o ∷ os) term = (o.term.0 ≡ root) × (child : ℕ) × IsStep nodes o child × IsPath nodes child os term

-- the same from a term that may be evaluated
pub record IsWalk (s : SignatureOf) (nodes : List Node) (root : ℕ) (os : List Open) (term : ℕ) : Type 0 where
  pub begins : IsTerm s nodes root
  pub path : IsPath nodes root os term

-- a term that may stand in the place of another: both are of one kind
abbrev pub MayReplace : SignatureOf → List Node → ℕ → ℕ → Type 0
MayReplace s nodes old new = (k : ℕ) × IsTermIn s nodes k old × IsTermIn s nodes k new
