-- The contexts of a part of a term.
use Rattle.std.specs.Prelude.{◌≡◌, ℕ, List, [], true, All}
use Rattle.mau_terms.specs.Tree.{Tree, Trees, apply}
use Rattle.mau_signature.specs.Signature.{SignatureOf, theory_at, terms_over}
use Rattle.mau_store.specs.Node.{Node}
use Rattle.mau_reduce.specs.Kinds.{IsTermIn}

-- there are no contexts
abbrev pub AreNone : {A : Type 0} → List A → List A → Type 0
AreNone left right = (left ≡ []) × (right ≡ [])

-- the numbers left and right stand around a part of the term t: there are none, or t has an associative operator on top and they are terms of the kind
-- of its result
pub data AreContexts (s : SignatureOf) (nodes : List Node) (t : Tree) (left right : List ℕ) : Type 0 where
  alone : left ≡ [] → right ≡ [] → AreContexts s nodes t left right
  around : (f : ℕ) (ts : Trees) → t ≡ apply f ts → (theory_at s f).assoc ≡ true →
      All (IsTermIn s nodes ((terms_over s).result f)) left → All (IsTermIn s nodes ((terms_over s).result f)) right → AreContexts s nodes t left right
