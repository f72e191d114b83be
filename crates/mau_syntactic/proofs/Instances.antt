-- The instance of a term is built by the term's parts, in a store that grows.
use Rattle.std.proofs.Common.{◌≡◌, ℕ, suc, ◌+◌, ◌<◌, ◌≤◌, List, [], ◌∷◌, length, drop, get_or, add-one, sym, ap, ◌∙◌, subst, zero, refl, arith}
use Rattle.std.proofs.Math.ListN.{drop_of_length-le}
use Rattle.mau_terms.specs.Tree.{Tree}
use Rattle.mau_terms.specs.Norm.{norm}
use Rattle.mau_terms.specs.Lawful.{AreLawful}
use Rattle.mau_terms.specs.Bare.{IsBare}
use Rattle.mau_terms.specs.Subst.{Variable}
use Rattle.mau_terms.specs.declared.ids.TermId.{TermId}
use Rattle.mau_signature.specs.Signature.{SignatureOf, theory_at, terms_over}
use Rattle.mau_store.specs.Node.{Node, Extends}
use Rattle.mau_store.specs.Trees.{tree_at, trees_at}
use Rattle.mau_store.specs.View.{numbers}
use Rattle.mau_store.proofs.Growth.{trees_at-extends}
use Rattle.mau_canon.specs.Standing.{StandWithin}
use Rattle.mau_canon.proofs.Standing.{stand_there}
use Rattle.mau_syntactic.specs.declared.part.Part.{Part}
use Rattle.mau_syntactic.specs.Filled.{filled}
use Rattle.mau_syntactic.specs.Parts.{parts_of, after_part, CanFollow}
use Rattle.mau_syntactic.proofs.Taken.{length_trees}
use Rattle.mau_syntactic.proofs.Running.{Making, next_part, nothing_made, all_made, part_follows, part_made}
use Rattle.mau_syntactic.proofs.Filling.{trees_normal}

-- the tree of a value
pub value_tree : (nodes : List Node) (ids : List TermId) (k : ℕ) (d : TermId) (e : Tree) → k < length ids → tree_at nodes (get_or ids k d).0 ≡ get_or (trees_at nodes (numbers ids)) k e
value_tree nodes [] k d e h = absurd (omega arith)
value_tree nodes (id ∷ ids) zero d e h = refl
value_tree nodes (id ∷ ids) (suc k) d e h = value_tree nodes ids k d e (omega arith)

module _ (s : SignatureOf) (lawful : AreLawful (theory_at s)) (old : List Node) (values : List TermId) (t : Tree × List Variable) (bare : IsBare (terms_over s) t.0)
    (stand : StandWithin (theory_at s) old (numbers values)) (one_each : length values ≡ length t.1) where
  abbrev IsMaking : List Part → List Tree → Type 0
  IsMaking parts ts = Making s t.1 (trees_at old (numbers values)) t.0 parts ts

  abbrev each : length (trees_at old (numbers values)) ≡ length t.1
  each = length_trees old values ∙ one_each

  pub begins : (parts : List Part) (ts : List Tree) → parts ≡ parts_of t.1 t.0 → ts ≡ [] → IsMaking parts ts
  begins parts ts e n =
      subst (λ ps. IsMaking ps ts) (sym e)
      (nothing_made s lawful t.1 (trees_at old (numbers values)) each (trees_normal (theory_at s) old (numbers values) stand) t.0 bare.0 bare.1 ts n)

  pub can_follow : (parts : List Part) (i : ℕ) (d : Part) (nodes : List Node) (stack : List TermId) → i < length parts → IsMaking (drop i parts) (trees_at nodes (numbers stack)) →
      CanFollow s (length values) (length stack) (get_or parts i d)
  can_follow parts i d nodes stack h m =
      subst (λ n. CanFollow s n (length stack) (get_or parts i d)) (length_trees old values)
      (part_follows s lawful t.1 (trees_at old (numbers values)) each (trees_normal (theory_at s) old (numbers values) stand) t.0 (get_or parts i d) (drop (suc i) parts) (trees_at nodes (numbers stack)) (length stack)
      (sym (length_trees nodes stack)) (next_part s t.1 (trees_at old (numbers values)) t.0 parts (trees_at nodes (numbers stack)) i d h m))

  pub goes_on : (parts : List Part) (i : ℕ) (d : Part) (mid : List Node) (ts new : List Tree) → i < length parts → Extends old mid → IsMaking (drop i parts) ts →
      new ≡ after_part (theory_at s) (trees_at mid (numbers values)) (get_or parts i d) ts → IsMaking (drop (i + 1) parts) new
  goes_on parts i d mid ts new h ext m e =
      subst (λ n. IsMaking (drop n parts) new) (sym (add-one i))
      (part_made s lawful t.1 (trees_at old (numbers values)) each (trees_normal (theory_at s) old (numbers values) stand) t.0 (get_or parts i d) (drop (suc i) parts) ts new
      (next_part s t.1 (trees_at old (numbers values)) t.0 parts ts i d h m)
      (e ∙ ap (λ vs. after_part (theory_at s) vs (get_or parts i d) ts) (trees_at-extends old mid (numbers values) ext (stand_there (theory_at s) old (numbers values) stand))))

  pub ends : (parts : List Part) (i : ℕ) (ts : List Tree) → length parts ≤ i → IsMaking (drop i parts) ts → ts ≡ norm (theory_at s) (filled old values t) ∷ []
  ends parts i ts h m =
      all_made s lawful t.1 (trees_at old (numbers values)) each (trees_normal (theory_at s) old (numbers values) stand) t.0 ts (subst (λ ps. IsMaking ps ts) (drop_of_length-le parts h) m)
