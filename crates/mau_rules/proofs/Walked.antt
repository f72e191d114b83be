-- The search for a rule, one place of a term after another.
use Rattle.std.proofs.Common.{◌≡◌, ◌++◌, ◌∷◌, [], List, ℕ, Bool, map, Option, Some, None, Result, Ok, Err, sym, ap, ap₂, ◌∙◌, subst}
use Rattle.mau_terms.specs.Tree.{Tree}
use Rattle.mau_store.specs.Node.{Node, Extends, IsOf}
use Rattle.mau_store.specs.Trees.{tree_at}
use Rattle.mau_store.proofs.Standing.{tree_at-extends}
use Rattle.mau_formula.specs.Operator.{Operator}
use Rattle.mau_sorts.specs.Table.{Table}
use Rattle.mau_program.specs.declared.program.Program as Typed
use Rattle.mau_evaluation.specs.Program.{Program}
use Rattle.mau_evaluation.specs.Rules.{Place, places}
use Rattle.mau_evaluation.specs.RuleRuns.{Turns, Stand}
use Rattle.mau_api.specs.Programs.{program_over}
use Rattle.mau_api.specs.Meanings.{Meanings}
use Rattle.mau_api.specs.declared.results.EvalEnd.{EvalEnd}
use Rattle.mau_rules.specs.declared.attempt.Found.{Found}
use Rattle.mau_rules.specs.declared.walk.Open.{Open}
use Rattle.mau_rules.specs.Known.{Item, Gives}
use Rattle.mau_rules.specs.Found.{IsFound, item_of, one_by, rules_in, found_stand, KnownSearch}
use Rattle.mau_rules.specs.Walk.{Opened, is_frozen_at, opened, around_all, places_behind, below_unless, places_left, IsPath}
use Rattle.mau_rules.proofs.Placed.{LeftFrom, each_place, past_all, place_past, place_found, place_ends}
use Rattle.mau_rules.proofs.Walking.{place_first}
use Rattle.mau_rules.proofs.Paths.{opened_kept}

-- what is known of the rules at a place, for an evaluator that goes by the same meanings
pub place_so : (p : Typed.Program) (m n : Meanings) (v w : Bool) → n ≡ m → v ≡ w → (g : Turns) (q : Place) (b : ℕ) (nodes : List Node) (r : Result (Option Found) EvalEnd) (after : ℕ) →
    KnownSearch (item_of n v) (rules_in (program_over p n.hooks) g q) b (found_stand p (program_over p n.hooks) g q nodes) r after →
    KnownSearch (item_of m w) (rules_in (program_over p m.hooks) g q) b (found_stand p (program_over p m.hooks) g q nodes) r after
place_so p m n v w e k g q b nodes r after known =
    subst (λ z. KnownSearch (item_of m z) (rules_in (program_over p m.hooks) g q) b (found_stand p (program_over p m.hooks) g q nodes) r after) k
    (subst (λ (z : Meanings). KnownSearch (item_of z v) (rules_in (program_over p z.hooks) g q) b (found_stand p (program_over p z.hooks) g q nodes) r after) e known)

-- the places that are left in a term, from the one at hand on, and from behind it on
abbrev pub places_from : Typed.Program → List Node → List Open → ℕ → List Place
places_from p nodes os due = places (is_frozen_at p.sig) (around_all (λ v. v) (map (opened nodes) os)) (tree_at nodes due) ++ places_left (is_frozen_at p.sig) (λ v. v) (map (opened nodes) os)

abbrev pub places_after : Typed.Program → List Node → List Open → ℕ → List Place
places_after p nodes os due = places_behind (is_frozen_at p.sig) (around_all (λ v. v) (map (opened nodes) os)) (tree_at nodes due) 0 ++ places_left (is_frozen_at p.sig) (λ v. v) (map (opened nodes) os)

-- from behind it on, what is below it left out where this is meant
abbrev pub places_on : Bool → Typed.Program → List Node → List Open → ℕ → List Place
places_on skip p nodes os due = below_unless skip (is_frozen_at p.sig) (around_all (λ v. v) (map (opened nodes) os)) (tree_at nodes due) ++ places_left (is_frozen_at p.sig) (λ v. v) (map (opened nodes) os)

abbrev pub place_at : List Node → List Open → ℕ → Place
place_at nodes os due = record { term = tree_at nodes due; around = around_all (λ v. v) (map (opened nodes) os) }

module _ (p : Typed.Program) (hooks : List Operator) (I : Item) (s : Stand) (b0 : ℕ) where
  abbrev P : Program
  P = program_over p hooks

  abbrev pub IsLeft : List Place → ℕ → Type 0
  IsLeft ps b = LeftFrom I (each_place P I s) (one_by P s) b0 ps b

  module _ (now new : List Node) (x : Extends now new) (root due : ℕ) (os : List Open) (path : IsPath now root os due) (there : IsOf now due) (b : ℕ) (left : IsLeft (places_from p now os due) b) where
    place : Place
    place = place_at now os due

    opened_first : IsLeft (place_at now os due ∷ places_after p now os due) b
    opened_first =
        subst (λ ps. IsLeft (ps ++ places_left (is_frozen_at p.sig) (λ v. v) (map (opened now) os)) b)
        (place_first (is_frozen_at p.sig) (around_all (λ v. v) (map (opened now) os)) (tree_at now due)) left

    same_open : map (opened new) os ≡ map (opened now) os
    same_open = opened_kept now new x root os due path

    same_tree : tree_at new due ≡ tree_at now due
    same_tree = tree_at-extends now new due x there

    same_place : place_at new os due ≡ place_at now os due
    same_place = ap₂ (λ (t : Tree) (ps : List Opened). record { term = t; around = around_all (λ v. v) ps }) same_tree same_open

    pub walked_past : (nodes : List Node) (after : ℕ) → KnownSearch I (rules_in P s.turns (place_at now os due)) b (found_stand p P s.turns (place_at now os due) nodes) (Ok None) after → IsLeft (places_after p new os due) after
    walked_past nodes after k =
        subst (λ ps. IsLeft ps after)
        (sym (ap₂ (λ (t : Tree) (ps : List Opened). places_behind (is_frozen_at p.sig) (around_all (λ v. v) ps) t 0 ++ places_left (is_frozen_at p.sig) (λ v. v) ps) same_tree same_open))
        (place_past P I s p b0 (place_at now os due) (places_after p now os due) b opened_first nodes after k)

    pub walked_ends : (nodes : List Node) (after : ℕ) (e : EvalEnd) (stand : Found → Option Stand) → KnownSearch I (rules_in P s.turns (place_at now os due)) b (found_stand p P s.turns (place_at now os due) nodes) (Err e) after →
        KnownSearch I (one_by P s) b0 stand (Err e) after
    walked_ends nodes after e stand k = place_ends P I s p b0 (place_at now os due) (places_after p now os due) b opened_first nodes after e stand k

    pub walked_found : (after : ℕ) (y : Found) (table : Table) → y.term.0 ≡ due → IsFound p new table (tree_at now due) y →
        KnownSearch I (rules_in P s.turns (place_at now os due)) b (found_stand p P s.turns (place_at now os due) new) (Ok (Some y)) after →
        KnownSearch I (one_by P s) b0 (λ z. found_stand p P s.turns (place_at new os z.term.0) new z) (Ok (Some y)) after
    walked_found after y table at f k =
        let G = place_found P I s p b0 (place_at now os due) (places_after p now os due) b opened_first new after y table f k in (
          G.0,
          G.1,
          subst (λ (q : Place). Gives I (one_by P s) b0 (found_stand p P s.turns q new y) G.0 after) (sym (ap (place_at new os) at ∙ same_place)) G.2,
        )

    pub found_in : (y : Found) (table : Table) → y.term.0 ≡ due → IsFound p new table (tree_at now due) y → IsFound p new table (tree_at new y.term.0) y
    found_in y table at f = subst (λ (t : Tree). IsFound p new table t y) (sym (ap (tree_at new) at ∙ same_tree)) f

  -- behind the last place
  pub walked_all : (b : ℕ) → IsLeft [] b → Gives I (one_by P s) b0 None 0 b
  walked_all b h = past_all I (each_place P I s) (one_by P s) b0 b h
