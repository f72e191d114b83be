-- What reading a term does to the variables before it: they stay, and others come behind them.
use Rattle.std.proofs.Common.{◌≡◌, ℕ, ◌+◌, List, [], ◌∷◌, ◌++◌, Bool, true, false, if◌then◌else◌, cond, not, ◌||◌, length, take, refl, sym, ◌∙◌, ap, subst, append_assoc, append-nil}
use Rattle.std.proofs.lemmas.List.{take_at}
use Rattle.std.specs.List.{list_any}
use Rattle.mau_terms.specs.Vars.{same_pair, with_pair, place_of}
use Rattle.mau_terms.specs.declared.bare.Bare.{Bare}
use Rattle.mau_grammar.specs.Grammar.{GrammarOf}
use Rattle.mau_grammar.specs.Leaves.{pairs_of}
use Rattle.mau_parse.specs.declared.goals.Goal.{Goal}
use Rattle.mau_parse.specs.Parsed.{IsParsed}
use Rattle.mau_parse.specs.Terms.{added, pairs_in}
use Rattle.mau_session.specs.Terms.{Pairs}

pub record Extends (ns ms : Pairs) : Type 0 where
  pub more : Pairs
  pub is : ms ≡ ns ++ more

pub stays : (ns : Pairs) → Extends ns ns
stays ns = record { more = []; is = sym (append-nil ns) }

pub twice : {ns ms os : Pairs} → Extends ns ms → Extends ms os → Extends ns os
twice {ns} e f = record { more = e.more ++ f.more; is = f.is ∙ ap (λ x. x ++ f.more) e.is ∙ append_assoc ns e.more f.more }

with_pair_extends : (ns : Pairs) (x : List ℕ × ℕ) → Extends ns (with_pair ns x)
with_pair_extends ns x = by (list_any (same_pair x) ns)
  where
    by : (b : Bool) → Extends ns (if b then ns else ns ++ x ∷ [])
    by true = stays ns
    by false = record { more = x ∷ []; is = refl }

pub added_extends : (ns xs : Pairs) → Extends ns (added ns xs)
added_extends ns [] = stays ns
added_extends ns (x ∷ xs) = twice (with_pair_extends ns x) (added_extends (with_pair ns x) xs)

pub first_variables : (ns os : Pairs) → Extends ns os → take (length ns) os ≡ ns
first_variables ns os e = ap (take (length ns)) e.is ∙ take_at ns e.more (length ns) refl

-- a pair that is there keeps its place
pub kept_place : (ns os : Pairs) (x : List ℕ × ℕ) → Extends ns os → list_any (same_pair x) ns ≡ true → place_of os x ≡ place_of ns x
kept_place ns os x e h = ap (λ os. place_of os x) e.is ∙ before ns e.more h
  where
    before : (ns more : Pairs) → list_any (same_pair x) ns ≡ true → place_of (ns ++ more) x ≡ place_of ns x
    before [] more h = absurd cc
    before (y ∷ ns) more h = by (same_pair x y) h (before ns more)
      where
        by : (b : Bool) → (b || list_any (same_pair x) ns) ≡ true → (list_any (same_pair x) ns ≡ true → place_of (ns ++ more) x ≡ place_of ns x)
            → cond (not b) (1 + place_of (ns ++ more) x) 0 ≡ cond (not b) (1 + place_of ns x) 0
        by true h f = refl
        by false h f = ap (λ k. 1 + k) (f h)

-- a term that is read
pub read_extends : (g : GrammarOf) (ws : List (List ℕ)) (goal : Goal) (ns os : Pairs) (b : Bare) → IsParsed g ws goal ns os b → Extends ns os
read_extends g ws goal ns os b h = subst (Extends ns) (sym h.term.vars) (added_extends ns (pairs_in (pairs_of g ws) h.tree))
