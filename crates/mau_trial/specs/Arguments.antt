-- Arguments of an operator by their kinds.
use Rattle.std.specs.Prelude.{ℕ, ◌≤◌, List, All, length, map}
use Rattle.std.specs.Bool.{MatchBool}
use Rattle.mau_terms.specs.Tree.{Tree, trees_of}
use Rattle.mau_terms.specs.Bare.{IsBareIn, AreBareIn}
use Rattle.mau_terms.specs.Reading.{reading}
use Rattle.mau_signature.specs.Signature.{SignatureOf, theory_at, terms_over}

-- the normal forms ts are read as bare terms of the kinds of f's arguments, or two or more of its result's kind where f is
-- associative
abbrev pub AreArguments : SignatureOf → ℕ → List Tree → Type 0
AreArguments s f ts =
    MatchBool (theory_at s f).assoc
    ((2 ≤ length ts) × All (λ t. IsBareIn (terms_over s) (reading (theory_at s) t) ((terms_over s).result f)) ts)
    (AreBareIn (terms_over s) (trees_of (map (reading (theory_at s)) ts)) ((terms_over s).arguments f))
