-- Where settling ends, and what is known when all is settled.
use Rattle.std.proofs.Common.{◌≡◌, ◌⊎◌, inl, inr, ℕ, suc, List, [], ◌∷◌, ◌++◌, Bool, false, All, Option, Some, map, slice_get, refl, sym, subst}
use Rattle.std.proofs.lemmas.List.Elements.{All-head, All-tail, All-drop}
use Rattle.std.proofs.lemmas.Option.{slice_get_within}
use Rattle.mau_terms.specs.Tree.{Tree, trees_of}
use Rattle.mau_terms.proofs.Pieces.{list_of-trees_of}
use Rattle.mau_terms.specs.declared.ids.VarId.{VarId}
use Rattle.mau_terms.specs.declared.ids.TermId.{TermId}
use Rattle.mau_formula.specs.Operator.{Operator}
use Rattle.mau_store.specs.Node.{Node, operator_node, AreNodes, IsOf}
use Rattle.mau_store.specs.Trees.{tree_at, trees_at}
use Rattle.mau_store.specs.View.{numbers}
use Rattle.mau_sorts.specs.Table.{Table, IsSettled}
use Rattle.mau_sigcheck.specs.Built.{IsBuiltAndAccepted}
use Rattle.mau_listing.specs.Asked.{IsTreeSettled}
use Rattle.mau_program.specs.declared.program.Program as Typed
use Rattle.mau_evaluation.specs.Run.{Outcome}
use Rattle.mau_evaluation.specs.Program.{Membership}
use Rattle.mau_evaluation.specs.Evaluation.{Binding, levels, settle}
use Rattle.mau_evaluation.specs.HasSort.{HasHeads, HasSort}
use Rattle.mau_evaluation.proofs.Derived.{known_sorts_are_derived}
use Rattle.mau_evaluation.proofs.SortsGiven.{number_in}
use Rattle.mau_api.specs.Programs.{program_over, identities_of}
use Rattle.mau_api.specs.Meanings.{meanings_by}
use Rattle.mau_api.specs.Answers.{IsDerivedTable, AreSettled, binding_in}
use Rattle.mau_api.specs.Terms.{IsTerm, IsNormalBare}
use Rattle.mau_api.proofs.KnownSorts.{EachNormalBare}
use Rattle.mau_deriving.specs.Known.{IsKnownFrom, EndsWith, AreKnownFrom}
use Rattle.mau_deriving.specs.Given.{asks_by, sorts_on}
use Rattle.mau_deriving.specs.Asking.{Derives}
use Rattle.mau_deriving.proofs.Below.{arguments_end_sorts, settled_are_known, identities_end_settling, sorts_end_settling, settling_is_known}
use Rattle.mau_deriving.proofs.Kept.{ends_in}
use Rattle.mau_settling.specs.Due.{IsDueIn, itself, in_argument, IsDueInFirst}
use Rattle.mau_settling.specs.Settlings.{AreLeft, left_of, IsDerivingIn, Asks, EndsSettling, CanEnd}
use Rattle.mau_settling.specs.Laws.{DueEndSorts, SettledIsKnown, EntriesHaveDerivations}
use Rattle.mau_settling.specs.declared.settling.Settling.{Settling}
use Rattle.mau_settling.proofs.Terms.{argument_tree, arguments_are_bare, arguments_there}
use Rattle.mau_settling.proofs.Units.{each_settled, identities_bare}
use Rattle.mau_settling.proofs.Roots.{last_or_more}
use Rattle.mau_settling.proofs.States.{is_current, all_parts}

module _ (p : Typed.Program) (hooks : List Operator) (limit : ℕ) (remembers : Bool) (heads : HasHeads (program_over p hooks)) (accepted : IsBuiltAndAccepted p.sig)
    (nodes : List Node) (table : Table) (derived : IsDerivedTable (meanings_by p hooks limit remembers) nodes table) where
  -- settled terms are known, one after another
  pub each_is_known : (us : List Tree) → All (IsTreeSettled nodes table) us → All (IsNormalBare p.sig) us → (sss : List (List ℕ)) × AreKnownFrom (sorts_on (program_over p hooks) limit) us sss
  each_is_known [] settled bare = ([], tt)
  each_is_known (u ∷ us) settled bare =
      let own = settled_are_known p hooks limit remembers heads accepted nodes table derived u (All-head (IsNormalBare p.sig) u us bare) (All-head (IsTreeSettled nodes table) u us settled) in
      let rest = each_is_known us (All-tail (IsTreeSettled nodes table) u us settled) (All-tail (IsNormalBare p.sig) u us bare) in
      (own.0 ∷ rest.0, (own.1, rest.1))

  arguments_known : (us : List ℕ) → All (IsOf nodes) us → All (IsSettled table) us → EachNormalBare p.sig (trees_of (map (tree_at nodes) us)) →
      (sss : List (List ℕ)) × AreKnownFrom (sorts_on (program_over p hooks) limit) (map (tree_at nodes) us) sss
  arguments_known [] there settled bare = ([], tt)
  arguments_known (u ∷ us) there settled bare =
      let is : IsTreeSettled nodes table (tree_at nodes u) = record { number = u; there = All-head (IsOf nodes) u us there; tree = refl; settled = All-head (IsSettled table) u us settled } in
      let own = settled_are_known p hooks limit remembers heads accepted nodes table derived (tree_at nodes u) bare.0 is in
      let rest = arguments_known us (All-tail (IsOf nodes) u us there) (All-tail (IsSettled table) u us settled) bare.1 in
      (own.0 ∷ rest.0, (own.1, rest.1))

  -- where the sorts of a term end that is due
  pub due_ends : AreNodes nodes → (i j : ℕ) → IsDueIn nodes table i j → IsOf nodes i → IsNormalBare p.sig (tree_at nodes i) → (g : ℕ → Outcome (Option Binding)) →
      EndsWith (λ k. sorts_on (program_over p hooks) limit k (tree_at nodes j)) g → EndsWith (λ k. sorts_on (program_over p hooks) limit k (tree_at nodes i)) g
  due_ends are i j (itself a b e) there bare g ends = subst (λ z. EndsWith (λ k. sorts_on (program_over p hooks) limit k (tree_at nodes z)) g) (sym e) ends
  due_ends are i j (in_argument a f us c vs b at settled d) there bare g ends =
      let P = program_over p hooks in
      let each = arguments_are_bare p.sig heads.signature nodes are a f us c vs at bare in
      let in_store = arguments_there p.sig heads.signature nodes are a f us c vs at there in
      let known = arguments_known us in_store.0 settled each.0 in
      let ts = map (tree_at nodes) us ++ tree_at nodes c ∷ map (tree_at nodes) vs in
      subst (λ t. EndsWith (λ k. sorts_on P limit k t) g) (sym (argument_tree p.sig heads.signature nodes are a f us c vs at))
      (arguments_end_sorts P heads limit f (trees_of ts) (map (tree_at nodes) us) (tree_at nodes c) (map (tree_at nodes) vs) (list_of-trees_of ts) known.0 known.1 g
      (due_ends are c b d in_store.1 each.1 g ends))

  all_identities_known : All (IsTreeSettled nodes table) (identities_of p.sig) → (sss : List (List ℕ)) × AreKnownFrom (sorts_on (program_over p hooks) limit) (identities_of p.sig) sss
  all_identities_known settled = each_is_known (identities_of p.sig) settled (identities_bare p.sig heads.signature)

  -- all is settled
  pub known_settled : (t : Tree) → IsNormalBare p.sig t → AreSettled p.sig nodes table t → (ss : List ℕ) ×
      IsKnownFrom (λ j. settle (program_over p hooks) (levels (program_over p hooks) limit j) (levels (program_over p hooks) limit (suc j)).sorts t) ss
  known_settled t bare settled =
      let own = settled_are_known p hooks limit remembers heads accepted nodes table derived t bare settled.itself in
      let known = all_identities_known (each_settled p.sig nodes table settled.identities) in
      (own.0, settling_is_known (program_over p hooks) limit known.0 known.1 t own.0 own.1)

  -- where the sorts of the first that is left end
  pub root_ends : (t i : ℕ) (is : List ℕ) → AreLeft p.sig nodes table t (i ∷ is) → (g : ℕ → Outcome (Option Binding)) → EndsWith (λ k. sorts_on (program_over p hooks) limit k (tree_at nodes i)) g →
      EndsWith (λ j. settle (program_over p hooks) (levels (program_over p hooks) limit j) (levels (program_over p hooks) limit (suc j)).sorts (tree_at nodes t)) g
  root_ends t i is left g ends = by (last_or_more left.before (tree_at nodes i) (trees_at nodes is) (identities_of p.sig) (tree_at nodes t) left.are)
    where
      by : ((trees_at nodes is ≡ []) × (identities_of p.sig ≡ left.before) × (tree_at nodes t ≡ tree_at nodes i)) ⊎ ((more : List Tree) × (identities_of p.sig ≡ left.before ++ tree_at nodes i ∷ more)) →
          EndsWith (λ j. settle (program_over p hooks) (levels (program_over p hooks) limit j) (levels (program_over p hooks) limit (suc j)).sorts (tree_at nodes t)) g
      by (inl h) =
          let known = all_identities_known (subst (All (IsTreeSettled nodes table)) (sym h.1) left.settled) in
          sorts_end_settling (program_over p hooks) limit known.0 known.1 g (tree_at nodes t) (subst (λ u. EndsWith (λ k. sorts_on (program_over p hooks) limit k u) g) (sym h.2) ends)
      by (inr h) =
          let bare = all_parts (IsNormalBare p.sig) left.before (tree_at nodes i ∷ h.0) (subst (All (IsNormalBare p.sig)) h.1 (identities_bare p.sig heads.signature)) in
          let known = each_is_known left.before left.settled bare.0 in
          identities_end_settling (program_over p hooks) limit left.before (tree_at nodes i) h.0 h.1 known.0 known.1 g ends (tree_at nodes t)

pub due_end_sorts : DueEndSorts
due_end_sorts p hooks limit remembers heads accepted nodes are table derived i j bare due g ends = by i j due bare ends
  where
    by : (i j : ℕ) → IsDueIn nodes table i j → IsNormalBare p.sig (tree_at nodes i) → EndsWith (λ k. sorts_on (program_over p hooks) limit k (tree_at nodes j)) g → EndsWith (λ k. sorts_on (program_over p hooks) limit k (tree_at nodes i)) g
    by i j (itself a b e) bare ends = subst (λ z. EndsWith (λ k. sorts_on (program_over p hooks) limit k (tree_at nodes z)) g) (sym e) ends
    by i j (in_argument a f us c vs b at settled d) bare ends =
        due_ends p hooks limit remembers heads accepted nodes table derived are a b (in_argument a f us c vs b at settled d) (slice_get_within nodes a (operator_node f (us ++ c ∷ vs)) at) bare g ends

pub settled_is_known : SettledIsKnown
settled_is_known p hooks limit remembers heads accepted nodes table derived t bare settled = known_settled p hooks limit remembers heads accepted nodes table derived t bare settled

pub entries_have_derivations : EntriesHaveDerivations
entries_have_derivations p hooks limit remembers nodes table derived i e at bare r h =
    let own = derived.entries i e at bare in
    subst (λ t. HasSort (program_over p hooks) t r) bare.0
    (known_sorts_are_derived (program_over p hooks) (tree_at nodes i) own.sorts 0 (record { level = own.levels; each = limit; budget = 0; left = 0; comes = own.known 0 }) r (number_in own.sorts r ((own.exact r).0 h)))

-- where a condition that is asked ends, the sorts of the first that is left end so
pub condition_ends_root : (p : Typed.Program) (hooks : List Operator) (limit : ℕ) (nodes : List Node) (table : Table) (s : Settling) → CanEnd p hooks limit nodes table s →
    (at : ℕ) (b : List (VarId × TermId)) → Asks s at b → (m : Membership) → slice_get (program_over p hooks).memberships at ≡ Some m →
    (i : ℕ) × (is : List ℕ) × IsTerm p.sig nodes i × AreLeft p.sig nodes table s.term.0 (i ∷ is) ×
    EndsWith (λ j. sorts_on (program_over p hooks) limit j (tree_at nodes i)) (λ j. asks_by (program_over p hooks) limit j m.cond (binding_in nodes b) limit)
condition_ends_root p hooks limit nodes table s can at b asks m there =
    let P = program_over p hooks in
    let d = asks.derivation in
    let current = is_current (IsDerivingIn p nodes table (left_of s)) s.current d asks.is can.settling.current in
    let derives = is_current (Derives p hooks limit nodes) s.current d asks.is can.derives in
    let ends = ends_in p hooks limit can.heads can.accepted nodes table can.derived d current.stands derives m (subst (λ n. slice_get P.memberships n ≡ Some m) (sym asks.at_place) there) b asks.question in
    by (left_of s) can.settling.left (All-drop (IsTerm p.sig nodes) s.at (numbers s.roots.items) can.settling.roots) current.due ends
  where
    by : (left : List ℕ) → AreLeft p.sig nodes table s.term.0 left → All (IsTerm p.sig nodes) left → IsDueInFirst nodes table left asks.derivation.term.0 →
        EndsWith (λ j. sorts_on (program_over p hooks) limit j (tree_at nodes asks.derivation.term.0)) (λ j. asks_by (program_over p hooks) limit j m.cond (binding_in nodes b) limit) →
        (i : ℕ) × (is : List ℕ) × IsTerm p.sig nodes i × AreLeft p.sig nodes table s.term.0 (i ∷ is) ×
        EndsWith (λ j. sorts_on (program_over p hooks) limit j (tree_at nodes i)) (λ j. asks_by (program_over p hooks) limit j m.cond (binding_in nodes b) limit)
    by [] left terms due ends = absurd due
    by (i ∷ is) left terms due ends =
        let term = All-head (IsTerm p.sig nodes) i is terms in (
          i,
          is,
          term,
          left,
          due_ends p hooks limit false can.heads can.accepted nodes table can.derived can.are i asks.derivation.term.0 due term.within.there (term.within.normal, term.bare)
              (λ j. asks_by (program_over p hooks) limit j m.cond (binding_in nodes b) limit) ends,
        )

-- settling ends so
pub conditions_end : (p : Typed.Program) (hooks : List Operator) (limit : ℕ) (nodes : List Node) (table : Table) (s : Settling) → CanEnd p hooks limit nodes table s →
    (at : ℕ) (b : List (VarId × TermId)) → Asks s at b → EndsSettling p hooks limit nodes s.term.0 at b
conditions_end p hooks limit nodes table s can at b asks m there =
    let z = condition_ends_root p hooks limit nodes table s can at b asks m there in
    root_ends p hooks limit false can.heads can.accepted nodes table can.derived s.term.0 z.0 z.1 z.3 (λ j. asks_by (program_over p hooks) limit j m.cond (binding_in nodes b) limit) z.4
