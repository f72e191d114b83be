-- The solutions of a query, one after another.
use Rattle.std.specs.Prelude.{◌≡◌, ℕ, ◌+◌, ◌++◌, List, [], ◌∷◌, Bool, true, false, Option, None}
use Rattle.mau_terms.specs.Tree.{Tree}
use Rattle.mau_listing.specs.Matcher.{Matcher}
use Rattle.mau_listing.specs.Next
use Rattle.mau_listing.specs.Next.{matcher_cmp, IsLeastBehind}
use Rattle.mau_api.specs.Meanings.{Meanings}
use Rattle.mau_module.specs.Modules.{ModuleOf}
use Rattle.mau_session.specs.Terms.{terms_in}
use Rattle.mau_session.specs.Matching.{IsSolution, Shows}
use Rattle.mau_session.specs.Answers.{matcher_lines, all_matchers, listing_lines}
use Rattle.mau_session.specs.Query.{QueryOf, shown_more}

-- x is the least solution behind the last one
abbrev pub IsNext : ModuleOf → Meanings → Bool → Tree → Tree → Option Matcher → Matcher → Type 0
IsNext m e w p t last x = IsLeastBehind (IsSolution m e w p t) (matcher_cmp (terms_in m).theory p) last x

-- no solution is behind it
abbrev pub NoneIsBehind : ModuleOf → Meanings → Bool → Tree → Tree → Option Matcher → Type 0
NoneIsBehind m e w p t last = Next.IsNext (IsSolution m e w p t) (matcher_cmp (terms_in m).theory p) last None

-- the next solution is shown, or nothing where there is none
pub data ShowsNext (m : ModuleOf) (e : Meanings) (q : QueryOf) (out : List ℕ) : QueryOf → List ℕ → Bool → Type 0 where
  shows_one : (x : Matcher) → IsNext m e q.with_context q.pattern q.subject q.last x
      → ShowsNext m e q out (shown_more q (x ∷ [])) (out ++ matcher_lines m q.variables q.with_context q.pattern (q.shown + 1) x) true
  shows_none : NoneIsBehind m e q.with_context q.pattern q.subject q.last → ShowsNext m e q out q out false

-- the solutions that a query shows behind its last one, and the bytes gained, which are their lines
pub record GainsMatchers (m : ModuleOf) (e : Meanings) (q next : QueryOf) (most : Option ℕ) (old new : List ℕ) (ended : Bool) : Type 0 where
  pub found : List Matcher
  pub shows : Shows m e q.with_context q.pattern q.subject q.last most found ended
  pub after : next ≡ shown_more q found
  pub gained : new ≡ old ++ all_matchers m q.variables q.with_context q.pattern (q.shown + 1) found

-- the same with the last line
pub record GainsShown (m : ModuleOf) (e : Meanings) (q next : QueryOf) (most : Option ℕ) (old new : List ℕ) (ended : Bool) : Type 0 where
  pub found : List Matcher
  pub shows : Shows m e q.with_context q.pattern q.subject q.last most found ended
  pub after : next ≡ shown_more q found
  pub gained : new ≡ old ++ listing_lines m q.variables q.with_context q.pattern q.shown found ended
