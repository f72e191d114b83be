-- Where sorts end: in an argument, in an identity. Settled terms are known.
use Rattle.std.proofs.Common.{◌≡◌, ℕ, ◌≤◌, List, [], ◌∷◌, ◌++◌, subst, arith}
use Rattle.mau_terms.specs.Tree.{Tree, tree, Trees, no_trees, list_of}
use Rattle.mau_evaluation.specs.Program.{Program}
use Rattle.mau_evaluation.specs.Evaluation.{size, sizes, sorts_in}
use Rattle.mau_evaluation.specs.HasSort.{HasHeads}
use Rattle.mau_evaluation.proofs.Fuel.{fuel_is_enough}
use Rattle.mau_api.specs.Programs.{program_over}
use Rattle.mau_api.proofs.KnownSorts.{of_settled}
use Rattle.mau_deriving.specs.Known.{AreKnownFrom}
use Rattle.mau_deriving.specs.Given.{asks_by, sorts_on}
use Rattle.mau_deriving.specs.Laws.{ArgumentsEndSorts, SettledAreKnown, IdentitiesEndSettling, SortsEndSettling, SettlingIsKnown}
use Rattle.mau_deriving.proofs.Members.{ends_along, sorts_known, fuelled, ends_in_argument, settle_known, settle_ends, settle_ends_before}

module _ (P : Program) (heads : HasHeads P) (B n : ℕ) where
  -- arguments are small
  known_below : (ts : Trees) (us : List Tree) (u : Tree) (rest : List Tree) (sss : List (List ℕ)) → list_of ts ≡ us ++ u ∷ rest → sizes ts ≤ n → AreKnownFrom (sorts_on P B) us sss →
      AreKnownFrom (λ j. sorts_in P B (asks_by P B j) n) us sss × (size u ≤ n)
  known_below no_trees [] u rest sss e l k = cc
  known_below no_trees (w ∷ us) u rest sss e l k = cc
  known_below (tree t ts) [] u rest [] e l k = let h : t ≡ u = cc in (tt, subst (λ w. size w ≤ n) h (omega (arith, l)))
  known_below (tree t ts) [] u rest (ss ∷ sss) e l k = absurd k
  known_below (tree t ts) (w ∷ us) u rest [] e l k = absurd k
  known_below (tree t ts) (w ∷ us) u rest (ss ∷ sss) e l k =
      let h : t ≡ w = cc in
      let i : list_of ts ≡ us ++ u ∷ rest = cc in
      let small : size t ≤ n = omega (arith, l) in
      let less : sizes ts ≤ n = omega (arith, l) in
      let more = known_below ts us u rest sss i less k.1 in
      ((fuelled P B heads w ss n (subst (λ v. size v ≤ n) h small) k.0, more.0), more.1)

pub arguments_end_sorts : ArgumentsEndSorts
arguments_end_sorts P heads B f ts us u rest e sss known g ends =
    let b = known_below P heads B (sizes ts) ts us u rest sss e (omega arith) known in
    ends_in_argument P B (sizes ts) f ts g sss us u rest e b.0
    (ends_along (λ j. sorts_on P B j u) (λ j. sorts_in P B (asks_by P B j) (sizes ts) u) g (λ j c. fuel_is_enough P heads B (asks_by P B j) (sizes ts) u c b.1) ends)

pub identities_end_settling : IdentitiesEndSettling
identities_end_settling P B us u rest e sss known g ends t = settle_ends_before P B g t sss us u rest e known ends

pub sorts_end_settling : SortsEndSettling
sorts_end_settling P B sss known g t ends = settle_ends P B g t sss known ends

pub settling_is_known : SettlingIsKnown
settling_is_known P B sss known t ss k = settle_known P B t sss ss known k

pub settled_are_known : SettledAreKnown
settled_are_known p hooks limit remembers heads accepted nodes table derived t bare settled =
    let own = of_settled p hooks limit remembers heads accepted nodes table derived t bare settled in
    (own.sorts, sorts_known (program_over p hooks) limit t own.sorts own.levels bare.0 own.known_at)
