-- Normal forms read as bare terms: lists that are nested to the right.
use Rattle.std.proofs.Common.{◌≡◌, ◌<◌, ◌≤◌, ℕ, zero, suc, List, [], ◌∷◌, ◌++◌, All, true, map, length, get_or, refl, sym, ap, ap₂, ◌∙◌, append_assoc, arith}
use Rattle.std.proofs.lemmas.List.{map-append}
use Rattle.std.proofs.lemmas.List.Elements.{All-nil, All-cons, All-head, All-tail}
use Rattle.mau_terms.specs.Tree.{Tree, node, trees_of}
use Rattle.mau_terms.specs.Axioms.{binary}
use Rattle.mau_terms.specs.Depth.{depth, list_depth}
use Rattle.mau_terms.specs.Reading.{nest_from, nest, reading, readings}
use Rattle.mau_terms.specs.declared.theory.Theory.{Theory}
use Rattle.mau_terms.specs.declared.ids.TermId.{TermId}
use Rattle.mau_store.specs.Node.{Node, AreOf, IsOf}
use Rattle.mau_store.specs.Trees.{tree_at, trees_at}
use Rattle.mau_store.specs.View.{numbers}
use Rattle.mau_signature.specs.Signature.{SignatureOf}
use Rattle.mau_signature.specs.OverSignature.{IsTreeOver, AreTreesOver}

last_from : (f : ℕ) (x : Tree) (xs : List Tree) (t w : Tree) → nest_from f x (xs ++ t ∷ w ∷ []) ≡ nest_from f x (xs ++ node f (t ∷ w ∷ []) ∷ [])
last_from f x [] t w = refl
last_from f x (y ∷ xs) t w = ap (binary f x) (last_from f y xs t w)

-- the last two of a list
pub nest_last : (f : ℕ) (xs : List Tree) (t w : Tree) → nest true f (xs ++ node f (t ∷ w ∷ []) ∷ []) ≡ nest true f ((xs ++ t ∷ []) ++ w ∷ [])
nest_last f [] t w = refl
nest_last f (x ∷ xs) t w = sym (last_from f x xs t w) ∙ ap (nest_from f x) (sym (append_assoc xs (t ∷ []) (w ∷ [])))

-- the readings of a list, one by one
pub readings_each : (th : ℕ → Theory) (ts : List Tree) → readings th (trees_of ts) ≡ map (reading th) ts
readings_each th [] = refl
readings_each th (t ∷ ts) = ap (λ us. reading th t ∷ us) (readings_each th ts)

-- the arguments of a tree over a signature are such trees
pub over_each : (s : SignatureOf) (ts : List Tree) → AreTreesOver s (trees_of ts) → All (IsTreeOver s) ts
over_each s [] over = All-nil (IsTreeOver s)
over_each s (t ∷ ts) over = All-cons (IsTreeOver s) t ts over.0 (over_each s ts over.1)

-- ---- one of some numbers

module _ (nodes : List Node) where
  pub deepest_here : (ids : List TermId) (k : ℕ) (d : TermId) → k < length ids → depth (tree_at nodes (get_or ids k d).0) ≤ list_depth (trees_at nodes (numbers ids))
  deepest_here [] k d h = absurd (omega arith)
  deepest_here (i ∷ ids) zero d h = omega arith
  deepest_here (i ∷ ids) (suc k) d h = omega (arith, deepest_here ids k d (omega arith))

  pub there_here : (ids : List TermId) (k : ℕ) (d : TermId) → k < length ids → AreOf nodes (numbers ids) → IsOf nodes (get_or ids k d).0
  there_here [] k d h all = absurd (omega arith)
  there_here (i ∷ ids) zero d h all = All-head (IsOf nodes) i.0 (numbers ids) all
  there_here (i ∷ ids) (suc k) d h all = there_here ids k d (omega arith) (All-tail (IsOf nodes) i.0 (numbers ids) all)

  pub over_here : (s : SignatureOf) (ids : List TermId) (k : ℕ) (d : TermId) → k < length ids → All (IsTreeOver s) (trees_at nodes (numbers ids)) → IsTreeOver s (tree_at nodes (get_or ids k d).0)
  over_here s [] k d h all = absurd (omega arith)
  over_here s (i ∷ ids) zero d h all = All-head (IsTreeOver s) (tree_at nodes i.0) (trees_at nodes (numbers ids)) all
  over_here s (i ∷ ids) (suc k) d h all = over_here s ids k d (omega arith) (All-tail (IsTreeOver s) (tree_at nodes i.0) (trees_at nodes (numbers ids)) all)
