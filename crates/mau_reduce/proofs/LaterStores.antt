-- What is left to try is the same in a later store.
use Rattle.std.proofs.Common.{◌≡◌, ℕ, suc, List, [], ◌∷◌, Bool, true, Option, Some, None, IfSome, map, slice_get, refl, sym, ap, ◌∙◌, subst}
use Rattle.std.proofs.lemmas.List.Elements.{All-nil}
use Rattle.std.specs.Option.{option_map}
use Rattle.mau_terms.specs.Tree.{Tree}
use Rattle.mau_terms.specs.Subst.{Variable, variables}
use Rattle.mau_terms.specs.Solution.{HaveSorts}
use Rattle.mau_terms.specs.View.{tree_of, variable_of}
use Rattle.mau_terms.specs.declared.ids.TermId.{TermId}
use Rattle.mau_terms.specs.declared.ids.VarId.{VarId}
use Rattle.mau_signature.specs.Signature.{SignatureOf, theory_at, terms_over}
use Rattle.mau_formula.specs.Operator.{Operator}
use Rattle.mau_store.specs.Node.{Node, Extends}
use Rattle.mau_store.specs.Trees.{trees_at}
use Rattle.mau_store.specs.View.{numbers}
use Rattle.mau_store.proofs.Growth.{extension_keeps_terms, trees_at-extends}
use Rattle.mau_store.proofs.Standing.{tree_at-extends}
use Rattle.mau_canon.specs.Standing.{StandsWithin, StandWithin}
use Rattle.mau_canon.proofs.Standing.{stands_within_extended, stand_within_extended, stand_there}
use Rattle.mau_sorts.specs.Table.{Table, KeepsEntries, AreOver}
use Rattle.mau_listing.specs.Asked.{Asked, asks, HasEntry}
use Rattle.mau_listing.specs.declared.solution.Solution as Given
use Rattle.mau_listing.proofs.Growth.{listings_go_on, entry_kept, given_kept, last_of_store, AreOfStore}
use Rattle.mau_program.specs.declared.program.Program as Typed
use Rattle.mau_evaluation.specs.Program.{Program, value}
use Rattle.mau_evaluation.specs.Listing.{Solution}
use Rattle.mau_evaluation.specs.Evaluation.{Binding, levels, by_answer}
use Rattle.mau_api.specs.Terms.{IsTerm}
use Rattle.mau_api.specs.Programs.{program_over, equation_of}
use Rattle.mau_reduce.specs.declared.given.Given.{Given as BuiltIn}
use Rattle.mau_reduce.specs.declared.given.Given.TheVariants.{Nothing, TooLarge, Argument, Whole, Before}
use Rattle.mau_reduce.specs.declared.trying.Found.{Found}
use Rattle.mau_reduce.specs.declared.binding.Binding.{Binding as Kept}
use Rattle.mau_reduce.specs.Reducible.{IsReducible}
use Rattle.mau_reduce.specs.Bindings.{paired, bound_in, HaveKinds, AreValues}
use Rattle.mau_reduce.specs.Contexts.{AreContexts, alone, around}
use Rattle.mau_reduce.specs.BuiltOperators.{answer_of, IsThere}
use Rattle.mau_reduce.specs.Giving.{CanBeTaken, IsGivenAt}
use Rattle.mau_reduce.specs.Trying.{solution_in, left_by, left_of_all, IsTried, IsFound}
use Rattle.mau_reduce.specs.Attempting.{untried_by, made_by_one, makes_of}
use Rattle.mau_reduce.specs.Lasts.{IsLast, IsListed, IsLastListed}
use Rattle.mau_reduce.proofs.KindsKept.{term_kept, trees_kept}
use Rattle.mau_reduce.proofs.Around.{left_within, right_within}
use Rattle.mau_reduce.proofs.Numbered.{in_equations}

-- an equation that is tried is so in a later store
pub tried_grown : (c : Bool) (p : Typed.Program) (old new : List Node) (before after : Table) (term : TermId) (i : ℕ) (a : Asked) (last : Option Given.Solution) (is_for : Type 0) →
    Extends old new → KeepsEntries before after → AreOver p.sig.hierarchy after → IsTried c p old before term i a last is_for → IsTried c p new after term i a last is_for
tried_grown c p old new before after term i a last is_for extends kept over is = record {
  equation = is.equation;
  at = is.at;
  exec = is.exec;
  asked = is.asked;
  signature = is.signature;
  ready = listings_go_on c p.sig old new before after extends kept over a last is.ready;
}

module _ (old new : List Node) (extends : Extends old new) where
  solution_same : (x : Given.Solution) → AreOfStore old x → solution_in new x ≡ solution_in old x
  solution_same x is =
      let ls : trees_at new (numbers x.left) ≡ trees_at old (numbers x.left) = trees_at-extends old new (numbers x.left) extends is.left in
      let rs : trees_at new (numbers x.right) ≡ trees_at old (numbers x.right) = trees_at-extends old new (numbers x.right) extends is.right in
      let vs : trees_at new (numbers x.values) ≡ trees_at old (numbers x.values) = trees_at-extends old new (numbers x.values) extends is.values in
      ap (λ ts. found ts (trees_at new (numbers x.right)) (trees_at new (numbers x.values))) ls
      ∙ (ap (λ ts. found (trees_at old (numbers x.left)) ts (trees_at new (numbers x.values))) rs
      ∙ ap (λ ts. found (trees_at old (numbers x.left)) (trees_at old (numbers x.right)) ts) vs)
    where
      found : List Tree → List Tree → List Tree → Solution
      found ls rs vs = record { left = ls; right = rs; values = vs }

  last_same : (o : Option Given.Solution) → IfSome o (AreOfStore old) → option_map (solution_in new) o ≡ option_map (solution_in old) o
  last_same None h = refl
  last_same (Some x) h = ap Some (solution_same x h)

  -- the last solution is one of the store
  pub last_there : (c : Bool) (p : Typed.Program) (table : Table) (term : TermId) (i : ℕ) (a : Asked) (last : Option Given.Solution) (is_for : Type 0) → IsTried c p old table term i a last is_for → IfSome last (AreOfStore old)
  last_there c p table term i a None is_for is = tt
  last_there c p table term i a (Some x) is_for is = last_of_store c p.sig old table a x is.ready.given

  module _ (P : Program) (B k : ℕ) (t : Tree) (is : List ℕ) where
    -- what is left of equations
    pub left_grown : (o : Option (ℕ × Option Given.Solution)) → IfSome o (λ x. IfSome x.1 (AreOfStore old)) → left_by P B k new t o is ≡ left_by P B k old t o is
    left_grown None h = refl
    left_grown (Some x) h = ap (λ last. left_of_all P B k t x.0 last is) (last_same x.1 h)

    answer_same : (given : BuiltIn) → IsThere old given → answer_of new P.sign.theory t given ≡ answer_of old P.sign.theory t given
    answer_same Nothing h = refl
    answer_same TooLarge h = refl
    answer_same (Argument i) h = ap value (extension_keeps_terms old new extends i.0 h).tree
    answer_same (Whole l) h = refl
    answer_same (Before l) h = refl

    -- all that is left to try
    pub untried_grown : (given : BuiltIn) → IsThere old given → (o : Option (ℕ × Option Given.Solution)) → IfSome o (λ x. IfSome x.1 (AreOfStore old)) →
        untried_by P B k new t given o is ≡ untried_by P B k old t given o is
    untried_grown given there o h =
        ap (λ r. by_answer P (levels P B k) (levels P B (suc k)).sorts (answer_of new P.sign.theory t given) r) (left_grown o h)
        ∙ ap (λ a. by_answer P (levels P B k) (levels P B (suc k)).sorts a (left_by P B k old t o is)) (answer_same given there)

-- ---- the last candidate

module _ (p : Typed.Program) (old new : List Node) (extends : Extends old new) where
  pub contexts_grown : (t : Tree) (ls rs : List ℕ) → AreContexts p.sig old t ls rs → AreContexts p.sig new t ls rs
  contexts_grown t ls rs (alone e k) = alone e k
  contexts_grown t ls rs (around f ts e a x y) =
      around f ts e a (λ j d h. term_kept p.sig old new ((terms_over p.sig).result f) _ extends (x j d h)) (λ j d h. term_kept p.sig old new ((terms_over p.sig).result f) _ extends (y j d h))

  found_grown : (t : Tree) (i : ℕ) (x : Given.Solution) → IsFound p old t i x → IsFound p new t i x
  found_grown t i x is = record {
    equation = is.equation;
    at = is.at;
    exec = is.exec;
    candidate = record {
      contexts = contexts_grown t (numbers x.left) (numbers x.right) is.candidate.contexts;
      one_each = is.candidate.one_each;
      within = stand_within_extended (theory_at p.sig) old new (numbers x.values) extends is.candidate.within;
      kinds = subst (HaveKinds p.sig (variables (tree_of is.equation.left))) (sym (trees_kept (theory_at p.sig) old new (numbers x.values) extends is.candidate.within)) is.candidate.kinds;
      kind = is.candidate.kind;
    };
  }

  -- it stays one
  pub last_grown : (t : Tree) (i : ℕ) (given : BuiltIn) (last : Option Found) → IsLast p old t i given last → IsLast p new t i given last
  last_grown t i Nothing (Some y) is = (is.0, found_grown t i y.solution is.1)
  last_grown t i Nothing None is = is
  last_grown t i TooLarge last is = is
  last_grown t i (Argument j) last is = is
  last_grown t i (Whole l) last is = is
  last_grown t i (Before l) last is = is

  -- so it does by the entries of a table that has grown
  module _ (before after : Table) (kept : KeepsEntries before after) (red : IsReducible p) (term : TermId) (is_term : IsTerm p.sig old term.0) where
    one_listed : (i : ℕ) (x : Given.Solution) → IsListed p old before term i x → IsListed p new after term i x
    one_listed i x is =
        let sides = red.sides (equation_of is.equation) (in_equations p i is.equation is.at) in
        record {
          equation = is.equation;
          at = is.at;
          solves = given_kept old new extends before after kept true p.sig (asks (tree_of is.equation.left) [] term) (record {
            pattern = (sides.kind, sides.left);
            bound = All-nil (λ (b : VarId × TermId). StandsWithin (theory_at p.sig) old b.1.0);
            subject = is_term.within;
            bare = is_term.bare;
          }) x is.solves;
        }

    pub listed_grown : (i : ℕ) (given : BuiltIn) (last : Option Found) → IsLastListed p old before term i given last → IsLastListed p new after term i given last
    listed_grown i Nothing (Some y) is = one_listed i y.solution is
    listed_grown i Nothing None is = is
    listed_grown i TooLarge last is = is
    listed_grown i (Argument j) last is = is
    listed_grown i (Whole l) last is = is
    listed_grown i (Before l) last is = is

  -- ---- what was given

  pub taken_grown : (given : BuiltIn) → CanBeTaken p.sig old given → CanBeTaken p.sig new given
  taken_grown Nothing h = tt
  taken_grown TooLarge h = tt
  taken_grown (Argument i) h = stands_within_extended (theory_at p.sig) old new extends i.0 h
  taken_grown (Whole l) h = h
  taken_grown (Before l) h = h

  pub taken_there : (given : BuiltIn) → CanBeTaken p.sig old given → IsThere old given
  taken_there Nothing h = tt
  taken_there TooLarge h = tt
  taken_there (Argument i) h = h.there
  taken_there (Whole l) h = tt
  taken_there (Before l) h = tt

  pub given_grown : (hooks : List Operator) (t : Tree) (given : BuiltIn) → IsGivenAt p.sig hooks old t given → IsGivenAt p.sig hooks new t given
  given_grown hooks t given is = record {
    answer = is.answer ∙ sym (answer_same old new extends (program_over p hooks) 0 0 t [] given (taken_there given is.taken));
    taken = taken_grown given is.taken;
  }

  -- ---- what the last candidate makes

  found_there : (t : Tree) (i : ℕ) (x : Given.Solution) → IsFound p old t i x → AreOfStore old x
  found_there t i x is = record {
    left = stand_there (theory_at p.sig) old (numbers x.left) (left_within p.sig old t (numbers x.left) (numbers x.right) is.candidate.contexts);
    right = stand_there (theory_at p.sig) old (numbers x.right) (right_within p.sig old t (numbers x.left) (numbers x.right) is.candidate.contexts);
    values = stand_there (theory_at p.sig) old (numbers x.values) is.candidate.within;
  }

  pub makes_grown : (hooks : List Operator) (t : Tree) (i : ℕ) (given : BuiltIn) (last : Option Found) (σ : Binding) → CanBeTaken p.sig old given → IsLast p old t i given last →
      makes_of (program_over p hooks) new t given last σ ≡ makes_of (program_over p hooks) old t given last σ
  makes_grown hooks t i Nothing (Some y) σ taken is =
      ap (λ x. made_by_one (theory_at p.sig) t x σ (slice_get (program_over p hooks).equations y.number)) (solution_same old new extends y.solution (found_there t i y.solution is.1))
  makes_grown hooks t i Nothing None σ taken is = refl
  makes_grown hooks t i TooLarge last σ taken is = refl
  makes_grown hooks t i (Argument j) last σ taken is = tree_at-extends old new j.0 extends taken.there
  makes_grown hooks t i (Whole l) last σ taken is = refl
  makes_grown hooks t i (Before l) last σ taken is = refl

  pub bound_grown : (b : Kept) → StandWithin (theory_at p.sig) old (numbers b.values.items) → bound_in new b ≡ bound_in old b
  bound_grown b within = ap (paired (map variable_of b.variables.items)) (trees_kept (theory_at p.sig) old new (numbers b.values.items) extends within)

  pub values_grown : (b : Kept) → AreValues p.sig old b → AreValues p.sig new b
  values_grown b is = record {
    one_each = is.one_each;
    within = stand_within_extended (theory_at p.sig) old new (numbers b.values.items) extends is.within;
    kinds = subst (HaveKinds p.sig (map variable_of b.variables.items)) (sym (trees_kept (theory_at p.sig) old new (numbers b.values.items) extends is.within)) is.kinds;
  }

-- ---- sorts of values

have_then : (P Q : ℕ → Tree → Type 0) → ((r : ℕ) (t : Tree) → P r t → Q r t) → (xs : List Variable) (vs : List Tree) → HaveSorts P xs vs → HaveSorts Q xs vs
have_then P Q h [] vs has = tt
have_then P Q h (x ∷ xs) [] has = absurd has
have_then P Q h (x ∷ xs) (v ∷ vs) has = (h x.1 v has.0, have_then P Q h xs vs has.1)

-- by the entries of a table that has grown
pub sorts_grown : (s : SignatureOf) (old new : List Node) → Extends old new → (before after : Table) → KeepsEntries before after → (xs : List Variable) (ids : List ℕ) → StandWithin (theory_at s) old ids →
    HaveSorts (HasEntry s old before) xs (trees_at old ids) → HaveSorts (HasEntry s new after) xs (trees_at new ids)
sorts_grown s old new extends before after kept xs ids within has =
    subst (HaveSorts (HasEntry s new after) xs) (sym (trees_kept (theory_at s) old new ids extends within))
    (have_then (HasEntry s old before) (HasEntry s new after) (entry_kept old new extends before after kept s) xs (trees_at old ids) has)
