-- Laws of listings with conditions.
use Rattle.std.specs.Prelude.{◌≡◌, ℕ, List, Bool, Option}
use Rattle.mau_signature.specs.Signature.{SignatureOf, theory_at}
use Rattle.mau_program.specs.declared.statements.Fragment.{Fragment}
use Rattle.mau_listing.specs.Matcher.{Matcher}
use Rattle.mau_listing.specs.Next.{matcher_cmp}
use Rattle.mau_listing.specs.Question.{Question, IsSolution}
use Rattle.mau_api.specs.Meanings.{Meanings}
use Rattle.mau_results.specs.Results.{DerivesNothing}
use Rattle.mau_conditional.specs.Where.{Ending, ShowsWhere}
use Rattle.mau_conditional.specs.Meant.{HasDerivedSort, Asks}

-- what is shown of the solutions of a question under which a condition holds, and how the listing is left, is determined, where no membership is executable
abbrev pub ShownOnce : Type 0
ShownOnce =
    (w : Bool) (s : SignatureOf) (m : Meanings) → DerivesNothing m → (c : List Fragment) (q : Question) (last : Option Matcher) (b : ℕ) (most : Option ℕ) (f g : List Matcher) (e d : Ending) →
    ShowsWhere (IsSolution w s (HasDerivedSort m) q) (matcher_cmp (theory_at s) q.pattern) (Asks m q.pattern c) last b most f e →
    ShowsWhere (IsSolution w s (HasDerivedSort m) q) (matcher_cmp (theory_at s) q.pattern) (Asks m q.pattern c) last b most g d → (f ≡ g) × (e ≡ d)
