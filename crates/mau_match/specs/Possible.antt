-- Values of all variables by which a pattern may be of a part, where some of them are known: what no test may overlook.
use Rattle.std.specs.Prelude.{◌≡◌, ℕ, List, [], ◌++◌, true, ◌==◌, if◌then◌else◌}
use Rattle.mau_terms.specs.Tree.{Tree, variable, numeral, apply, node, Trees, no_trees, tree}
use Rattle.mau_terms.specs.Norm.{norm, norms, all_pieces, arrange}
use Rattle.mau_terms.specs.Subst.{Variable, has_variable, instance, instances}
use Rattle.mau_terms.specs.Solution.{list_under}
use Rattle.mau_terms.specs.declared.theory.Theory.{Theory}
use Rattle.mau_signature.specs.Signature.{SignatureOf, theory_at}
use Rattle.mau_store.specs.Node.{Node}
use Rattle.mau_domains.specs.Parts.{Reach, inside, Part, IsOf, Reaches}
use Rattle.mau_match.specs.Parts.{are_bound, IsFair, AreFair}
use Rattle.mau_match.specs.Walked.{bound_of, values_of}
use Rattle.mau_match.specs.Limited.{AreLimited}
use Rattle.mau_match.specs.declared.part.Given.{Given}

-- the variables in `bound` have the same values by g and by gg
abbrev pub Agrees : (ℕ → Theory) → List Variable → (Variable → Tree) → (Variable → Tree) → Type 0
Agrees th bound g gg = (y : Variable) → has_variable bound y ≡ true → norm th (g y) ≡ norm th (gg y)

-- values of all variables that agree with those that are given, and are as long as is given
pub record AgreesIn (s : SignatureOf) (nodes : List Node) (g : Given) (gg : Variable → Tree) : Type 0 where
  pub agrees : Agrees (theory_at s) (bound_of g) (values_of nodes g) gg
  pub limited : AreLimited (theory_at s) g.limits gg

-- no such values make the pattern p be of the part q
abbrev pub IsNever : SignatureOf → List Node → Given → Tree → Part → Type 0
IsNever s nodes g p q = (gg : Variable → Tree) → AgreesIn s nodes g gg → IsFair (theory_at s) gg p → IsOf (theory_at s) q (norm (theory_at s) (instance gg p)) → ⊥

-- none make the patterns ps be these terms, one by one
abbrev pub AreNever : SignatureOf → List Node → Given → Trees → List Tree → Type 0
AreNever s nodes g ps es = (gg : Variable → Tree) → AgreesIn s nodes g gg → AreFair (theory_at s) gg ps → norms (theory_at s) (instances gg ps) ≡ es → ⊥

-- none make them be these terms in some order
abbrev pub AreNeverSorted : SignatureOf → List Node → Given → Trees → List Tree → Type 0
AreNeverSorted s nodes g ps es = (gg : Variable → Tree) → AgreesIn s nodes g gg → AreFair (theory_at s) gg ps → arrange true (norms (theory_at s) (instances gg ps)) ≡ es → ⊥

-- none make the arguments of f be those of the term v
abbrev pub IsNeverPlaced : SignatureOf → List Node → Given → ℕ → Trees → Tree → Type 0
IsNeverPlaced s nodes g f ps v = (gg : Variable → Tree) → AgreesIn s nodes g gg → AreFair (theory_at s) gg ps → node f (arrange (theory_at s f).comm (norms (theory_at s) (instances gg ps))) ≡ v → ⊥

-- none make their lists under f, joined, be such a part of these items
abbrev pub AreNeverJoined : SignatureOf → List Node → Given → ℕ → Trees → Reach × List Tree → Type 0
AreNeverJoined s nodes g f ps l =
    (gg : Variable → Tree) → AgreesIn s nodes g gg → IsFair (theory_at s) gg (apply f ps) →
    Reaches (theory_at s f).comm l.0 (all_pieces (theory_at s f).assoc (theory_at s f).id f (norms (theory_at s) (instances gg ps))) l.1 → ⊥

module _ (th : ℕ → Theory) (bound : List Variable) (gg : Variable → Tree) where
  -- the elements of the instance's list under f that are not known for sure
  abbrev mutual
    pub free : ℕ → Tree → List Tree
    free f (variable i s) = if has_variable bound (i, s) then [] else list_under (th f) f (norm th (gg (i, s)))
    free f (numeral n) = []
    free f (apply h ts) = if are_bound bound ts then [] else if h == f then frees f ts else list_under (th f) f (norm th (instance gg (apply h ts)))

    pub frees : ℕ → Trees → List Tree
    frees f no_trees = []
    frees f (tree t ts) = free f t ++ frees f ts

-- none make the elements that are not known be among these items
abbrev pub IsNeverAmong : SignatureOf → List Node → Given → ℕ → Tree → List Tree → Type 0
IsNeverAmong s nodes g f p us =
    (gg : Variable → Tree) → AgreesIn s nodes g gg → IsFair (theory_at s) gg p → Reaches true inside (free (theory_at s) (bound_of g) gg f p) us → ⊥

abbrev pub AreNeverAmong : SignatureOf → List Node → Given → ℕ → Trees → List Tree → Type 0
AreNeverAmong s nodes g f ps us =
    (gg : Variable → Tree) → AgreesIn s nodes g gg → AreFair (theory_at s) gg ps → Reaches true inside (frees (theory_at s) (bound_of g) gg f ps) us → ⊥

-- none make the elements that are not known be such a part of these items
abbrev pub AreNeverLeft : SignatureOf → List Node → Given → ℕ → Trees → Reach → List Tree → Type 0
AreNeverLeft s nodes g f ps r us =
    (gg : Variable → Tree) → AgreesIn s nodes g gg → AreFair (theory_at s) gg ps → Reaches true r (frees (theory_at s) (bound_of g) gg f ps) us → ⊥
