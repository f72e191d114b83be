-- All rules at a place, one after another; and all places of a term.
use Rattle.std.proofs.Common.{◌≡◌, ◌≤◌, ◌<◌, ◌+◌, ◌∷◌, [], List, length, drop, get_or, map, slice_get, Result, Ok, Err, ℕ, zero, suc, Bool, Option, Some, None, refl, sym, ap, ◌∙◌, subst, arith, append-nil}
use Rattle.std.proofs.lemmas.List.{drop_more, drop_all}
use Rattle.mau_terms.specs.Tree.{Tree, variable, numeral, apply}
use Rattle.mau_store.specs.Node.{Node}
use Rattle.mau_store.specs.Trees.{trees_at}
use Rattle.mau_store.specs.View.{numbers}
use Rattle.mau_sorts.specs.Table.{Table}
use Rattle.mau_program.specs.declared.program.Program as Typed
use Rattle.mau_api.specs.Programs.{rule_of, program_over}
use Rattle.mau_api.specs.Meanings.{Meanings}
use Rattle.mau_api.specs.Answers.{binding_in}
use Rattle.mau_api.specs.declared.results.EvalEnd.{EvalEnd}
use Rattle.mau_api.specs.declared.results.EvalEnd.TheVariants.{Stopped, TooDeep, Overflow, NoMemory}
use Rattle.mau_rules.specs.declared.attempt.Found.{Found}
use Rattle.mau_evaluation.specs.Run.{End, stopped, too_deep, overflowed, Run}
use Rattle.mau_evaluation.specs.Program.{Rule, Program}
use Rattle.mau_evaluation.specs.Rules.{Place, places}
use Rattle.mau_evaluation.specs.RuleRuns.{Turns, Stand, numbered, cyclically, rules_at}
use Rattle.mau_rules.specs.Known.{Item, Gives, Fails, got, fails, GoesOn}
use Rattle.mau_rules.specs.Found.{IsFound, KnownSearch, item_of, found_stand, stand_with, stand_by, rule_at, rules_in, one_by, turn_at}
use Rattle.mau_rules.proofs.Combined.{first_among, none_known, passed_by, goes_on_twice, else_some, else_fails_first}

-- ---- the first of a list, one element after another

module _ (I : Item) {A B : Type 0} (f : ℕ → ℕ → A → Run (Option B)) (w : ℕ → ℕ → Run (Option B)) (b0 : ℕ) where
  abbrev pub LeftFrom : List A → ℕ → Type 0
  LeftFrom xs b = GoesOn I w b0 (first_among I f xs) b

  pub past_one : (x : A) (xs : List A) (b after : ℕ) → LeftFrom (x ∷ xs) b → Gives I (λ k E. f k E x) b None 0 after → LeftFrom xs after
  past_one x xs b after h G = goes_on_twice I f w (first_among I f (x ∷ xs)) (first_among I f xs) b0 b after h (passed_by I f x xs b 0 after G)

  pub past_all : (b : ℕ) → LeftFrom [] b → Gives I w b0 None 0 b
  past_all b h = h.known (got None 0) b (none_known I f b)

  pub found_here : (x : A) (xs : List A) (b : ℕ) → LeftFrom (x ∷ xs) b → (u : B) (r after : ℕ) → Gives I (λ k E. f k E x) b (Some u) r after → Gives I w b0 (Some u) r after
  found_here x xs b h u r after G = h.known (got (Some u) r) after (else_some I (λ k E. f k E x) (first_among I f xs) b u r after G)

  pub ends_here : (x : A) (xs : List A) (b : ℕ) → LeftFrom (x ∷ xs) b → (e : End) → Fails I (λ k E. f k E x) b e → Fails I w b0 e
  ends_here x xs b h e G = h.known (fails e) 0 (else_fails_first I (λ k E. f k E x) (first_among I f xs) b e G)

  -- the same by the index of an element
  module _ (xs : List A) (i : ℕ) (d x : A) (low : i < length xs) (at : get_or xs i d ≡ x) (b : ℕ) (h : LeftFrom (drop i xs) b) where
    opened_at : LeftFrom (x ∷ drop (i + 1) xs) b
    opened_at = subst (λ zs. LeftFrom zs b) (drop_more xs i d low ∙ ap (λ z. z ∷ drop (i + 1) xs) at) h

    pub past_at : (after : ℕ) → Gives I (λ k E. f k E x) b None 0 after → LeftFrom (drop (i + 1) xs) after
    past_at after G = past_one x (drop (i + 1) xs) b after opened_at G

    pub found_at : (u : B) (r after : ℕ) → Gives I (λ k E. f k E x) b (Some u) r after → Gives I w b0 (Some u) r after
    found_at u r after G = found_here x (drop (i + 1) xs) b opened_at u r after G

    pub ends_at : (e : End) → Fails I (λ k E. f k E x) b e → Fails I w b0 e
    ends_at e G = ends_here x (drop (i + 1) xs) b opened_at e G

  pub none_at : (xs : List A) (i : ℕ) → length xs ≤ i → (b : ℕ) → LeftFrom (drop i xs) b → Gives I w b0 None 0 b
  none_at xs i h b left = past_all b (subst (λ zs. LeftFrom zs b) (drop_all i xs h) left)

-- ---- the rules at a place

module _ (P : Program) (I : Item) (h : Turns) (s : Place) where
  abbrev pub each_rule : ℕ → ℕ → ℕ × Rule → Run (Option Stand)
  each_rule k E q = rule_at P h s q k E

  pub rules_cyclic : (t : Tree) → rules_at (numbered 0 P.rules) h t ≡ cyclically (turn_at h t) (numbered 0 P.rules)
  rules_cyclic (variable i r) = sym (append-nil (numbered 0 P.rules))
  rules_cyclic (numeral n) = sym (append-nil (numbered 0 P.rules))
  rules_cyclic (apply f ts) = refl

  pub place_begins : (n : ℕ) → turn_at h s.term ≡ n → (b : ℕ) → LeftFrom I each_rule (rules_in P h s) b (cyclically n (numbered 0 P.rules)) b
  place_begins n e b =
      subst (λ zs. LeftFrom I each_rule (rules_in P h s) b zs b) (rules_cyclic s.term ∙ ap (λ k. cyclically k (numbered 0 P.rules)) e) (record { known = λ o after G. G })

-- ---- as the code has it

pub get_there : {A : Type 0} (xs : List A) (i : ℕ) → i < length xs → (x : A) × (slice_get xs i ≡ Some x)
get_there [] i h = absurd (omega arith)
get_there (x ∷ xs) zero h = (x, refl)
get_there (x ∷ xs) (suc i) h = get_there xs i (omega arith)

pub get_mapped : {A B : Type 0} (f : A → B) (xs : List A) (i : ℕ) (x : A) (d : B) → slice_get xs i ≡ Some x → get_or (map f xs) i d ≡ f x
get_mapped f [] i x d e = cc
get_mapped f (y ∷ xs) zero x d e = let h : y ≡ x = cc in ap f h
get_mapped f (y ∷ xs) (suc i) x d e = get_mapped f xs i x d e

-- what is known of one rule, for an evaluator that goes by the same meanings, in a later store
pub search_so : (p : Typed.Program) (m n : Meanings) (v w : Bool) → n ≡ m → v ≡ w → (t u : Tree) → u ≡ t → (h : Turns) (around : Tree → Tree) (q : ℕ × Rule) (b : ℕ) (nodes : List Node) (r : Result (Option Found) EvalEnd) (after : ℕ) →
    KnownSearch (item_of n v) (rule_at (program_over p n.hooks) h (record { term = u; around = around }) q) b (found_stand p (program_over p n.hooks) h (record { term = u; around = around }) nodes) r after →
    KnownSearch (item_of m w) (rule_at (program_over p m.hooks) h (record { term = t; around = around }) q) b (found_stand p (program_over p m.hooks) h (record { term = t; around = around }) nodes) r after
search_so p m n v w e k t u same h around q b nodes r after known =
    subst (λ z. KnownSearch (item_of m w) (rule_at (program_over p m.hooks) h (record { term = z; around = around }) q) b (found_stand p (program_over p m.hooks) h (record { term = z; around = around }) nodes) r after) same
    (subst (λ z. KnownSearch (item_of m z) (rule_at (program_over p m.hooks) h (record { term = u; around = around }) q) b (found_stand p (program_over p m.hooks) h (record { term = u; around = around }) nodes) r after) k
    (subst (λ (z : Meanings). KnownSearch (item_of z v) (rule_at (program_over p z.hooks) h (record { term = u; around = around }) q) b (found_stand p (program_over p z.hooks) h (record { term = u; around = around }) nodes) r after) e known))

module _ (p : Typed.Program) (P : Program) (I : Item) (h : Turns) (s : Place) (b0 : ℕ) (xs : List (ℕ × Rule)) (i : ℕ) (q : ℕ × Rule) (low : i < length xs) (at : get_or xs i q ≡ q) (b : ℕ)
    (left : LeftFrom I (each_rule P I h s) (rules_in P h s) b0 (drop i xs) b) (nodes : List Node) (table : Table) (after : ℕ) where
  pub search_found : (x : Found) → IsFound p nodes table s.term x → KnownSearch I (rule_at P h s q) b (found_stand p P h s nodes) (Ok (Some x)) after → KnownSearch I (rules_in P h s) b0 (found_stand p P h s nodes) (Ok (Some x)) after
  search_found x f k =
      let e = ap (stand_with P h s nodes x) f.at in (
        k.0,
        k.1,
        subst (λ o. Gives I (rules_in P h s) b0 o k.0 after) (sym e)
            (found_at I (each_rule P I h s) (rules_in P h s) b0 xs i q q low at b left (stand_by P h s (x.number, rule_of f.rule) (trees_at nodes (numbers x.solution.left)) (trees_at nodes (numbers x.solution.right)) (binding_in nodes x.bound.items)) k.0 after
            (subst (λ o. Gives I (rule_at P h s q) b o k.0 after) e k.2)),
      )

  pub search_ends : (e : EvalEnd) → KnownSearch I (rule_at P h s q) b (found_stand p P h s nodes) (Err e) after → KnownSearch I (rules_in P h s) b0 (found_stand p P h s nodes) (Err e) after
  search_ends Stopped k = ends_at I (each_rule P I h s) (rules_in P h s) b0 xs i q q low at b left stopped k
  search_ends TooDeep k = ends_at I (each_rule P I h s) (rules_in P h s) b0 xs i q q low at b left too_deep k
  search_ends Overflow k = ends_at I (each_rule P I h s) (rules_in P h s) b0 xs i q q low at b left overflowed k
  search_ends NoMemory k = tt

  pub search_past : KnownSearch I (rule_at P h s q) b (found_stand p P h s nodes) (Ok None) after → LeftFrom I (each_rule P I h s) (rules_in P h s) b0 (drop (i + 1) xs) after
  search_past k = past_at I (each_rule P I h s) (rules_in P h s) b0 xs i q q low at b left after k

-- ---- the places of a term

module _ (P : Program) (I : Item) (s : Stand) where
  abbrev pub each_place : ℕ → ℕ → Place → Run (Option Stand)
  each_place k E q = rules_in P s.turns q k E

  pub places_begin : (b : ℕ) → LeftFrom I each_place (one_by P s) b (places P.frozen (λ v. v) s.term) b
  places_begin b = record { known = λ o after G. G }

  module _ (p : Typed.Program) (b0 : ℕ) (q : Place) (qs : List Place) (b : ℕ) (left : LeftFrom I each_place (one_by P s) b0 (q ∷ qs) b) (nodes : List Node) (after : ℕ) where
    -- what is known of the first one that is left
    pub place_past : KnownSearch I (rules_in P s.turns q) b (found_stand p P s.turns q nodes) (Ok None) after → LeftFrom I each_place (one_by P s) b0 qs after
    place_past k = past_one I each_place (one_by P s) b0 q qs b after left k

    pub place_ends : (e : EvalEnd) → (stand : Found → Option Stand) → KnownSearch I (rules_in P s.turns q) b (found_stand p P s.turns q nodes) (Err e) after → KnownSearch I (one_by P s) b0 stand (Err e) after
    place_ends Stopped stand k = ends_here I each_place (one_by P s) b0 q qs b left stopped k
    place_ends TooDeep stand k = ends_here I each_place (one_by P s) b0 q qs b left too_deep k
    place_ends Overflow stand k = ends_here I each_place (one_by P s) b0 q qs b left overflowed k
    place_ends NoMemory stand k = tt

    pub place_found : (x : Found) (table : Table) → IsFound p nodes table q.term x → KnownSearch I (rules_in P s.turns q) b (found_stand p P s.turns q nodes) (Ok (Some x)) after →
        KnownSearch I (one_by P s) b0 (found_stand p P s.turns q nodes) (Ok (Some x)) after
    place_found x table f k =
        let e = ap (stand_with P s.turns q nodes x) f.at in
        let u = stand_by P s.turns q (x.number, rule_of f.rule) (trees_at nodes (numbers x.solution.left)) (trees_at nodes (numbers x.solution.right)) (binding_in nodes x.bound.items) in (
          k.0,
          k.1,
          subst (λ o. Gives I (one_by P s) b0 o k.0 after) (sym e) (found_here I each_place (one_by P s) b0 q qs b left u k.0 after (subst (λ o. Gives I (rules_in P s.turns q) b o k.0 after) e k.2)),
        )
