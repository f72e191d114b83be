-- Queries: a pattern and a subject over a module, whether they are matched with contexts, and how far their solutions were shown; and
-- what the code keeps of one.
use Rattle.std.specs.Prelude.{ℕ, ◌+◌, List, length, Bool, Option, None}
use Rattle.mau_terms.specs.Tree.{Tree}
use Rattle.mau_terms.specs.Subst.{variables}
use Rattle.mau_listing.specs.Matcher.{Matcher}
use Rattle.mau_session.specs.Terms.{Pairs}
use Rattle.mau_session.specs.Matching.{last_shown}

-- whether solutions have contexts, a pattern, a subject, their variables, the class of the last solution shown, and how many were shown
pub record QueryOf : Type 0 where
  pub with_context : Bool
  pub pattern : Tree
  pub subject : Tree
  pub variables : Pairs
  pub last : Option Matcher
  pub shown : ℕ

-- before anything was shown
abbrev pub asked_first : Bool → Tree → Tree → Pairs → QueryOf
asked_first w p t ns = record { with_context = w; pattern = p; subject = t; variables = ns; last = None; shown = 0 }

-- after these solutions were shown too
abbrev pub shown_more : QueryOf → List Matcher → QueryOf
shown_more q found = record q { last = last_shown q.last found; shown = q.shown + length found }
