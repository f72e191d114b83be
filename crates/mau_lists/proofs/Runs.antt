-- A run gives all lists of its kind, ascending, each once.
use Rattle.std.proofs.Common.{◌≡◌, ℕ, ◌<◌, List, [], ◌∷◌, All, map, length, Option, Some, None, inl, inr, refl, sym, ap, subst}
use Rattle.std.specs.Option.{option_map}
use Rattle.mau_terms.specs.Tree.{Tree}
use Rattle.mau_terms.specs.Order.{tree_cmp}
use Rattle.mau_store.specs.Node.{Node, AreOf, Extends}
use Rattle.mau_store.specs.Trees.{tree_at, trees_at}
use Rattle.mau_store.proofs.Growth.{extension_is_preorder, trees_at-extends}
use Rattle.mau_lists.specs.Lists.{IsSubList, IsPart, IsBelow, IsUpto, IsNextOrEnd, IsAmong, AreBehind, AreClimbing, AreExactly}
use Rattle.mau_lists.specs.Terms.{IsBefore}
use Rattle.mau_lists.specs.Runs.{IsRun, over, turn}
use Rattle.mau_lists.specs.Laws.{RunsGiveAllSubLists, RunsGoOnBehindSubLists, RunsGiveAllParts, RunsGoOnBehindParts}
use Rattle.mau_lists.proofs.Following.{lists_chain}
use Rattle.mau_lists.proofs.Trees.{irrefl, chain, ranks}
use Rattle.mau_lists.proofs.Members.{sub_All, sub-keys, part_All, part-keys}

-- ---- a run over trees, in one store

below_chain : (xs ys zs : List Tree) → IsBelow IsBefore xs ys → IsBelow IsBefore ys zs → IsBelow IsBefore xs zs
below_chain = lists_chain IsBefore irrefl chain tree_cmp ranks

module _ (Is : List Tree → Type 0) where
  data IsChain : Option (List Tree) → List (List Tree) → Type 0 where
    done : IsChain None []
    link : (s : List Tree) (due : Option (List Tree)) (rest : List (List Tree)) → Is s → IsNextOrEnd IsBefore Is s due → IsChain due rest → IsChain (Some s) (s ∷ rest)

  each_one : (due : Option (List Tree)) (all : List (List Tree)) → IsChain due all → (t : List Tree) → IsAmong t all → Is t
  each_one due all done t h = absurd h
  each_one due all (link s next rest is n c) t (inl h) = subst Is (sym h) is
  each_one due all (link s next rest is n c) t (inr h) = each_one next rest c t h

  -- what is due stands behind xs
  abbrev DueBehind : List Tree → Option (List Tree) → Type 0
  DueBehind xs None = Unit {0}
  DueBehind xs (Some s) = IsBelow IsBefore xs s

  next_behind : (xs : List Tree) (due : Option (List Tree)) → IsNextOrEnd IsBefore Is xs due → DueBehind xs due
  next_behind xs None n = tt
  next_behind xs (Some s) n = n.behind

  further : (xs s : List Tree) (due : Option (List Tree)) → IsBelow IsBefore xs s → DueBehind s due → DueBehind xs due
  further xs s None b h = tt
  further xs s (Some t) b h = below_chain xs s t b h

  all_behind : (xs : List Tree) (due : Option (List Tree)) (all : List (List Tree)) → IsChain due all → DueBehind xs due → AreBehind IsBefore xs all
  all_behind xs due all done h = tt
  all_behind xs due all (link s next rest is n c) h = (h, all_behind xs next rest c (further xs s next h (next_behind s next n)))

  climbs : (due : Option (List Tree)) (all : List (List Tree)) → IsChain due all → AreClimbing IsBefore all
  climbs due all done = tt
  climbs due all (link s next rest is n c) = (all_behind s next rest c (next_behind s next n), climbs next rest c)

  -- nothing of the kind behind xs is left out
  covers : (xs : List Tree) (due : Option (List Tree)) (all : List (List Tree)) → IsChain due all → IsNextOrEnd IsBefore Is xs due → (t : List Tree) → Is t → IsBelow IsBefore xs t → IsAmong t all
  covers xs due all done n t i b = n t i b
  covers xs due all (link s next rest is m c) n t i b = by (λ l. covers s next rest c m t i l) (n.least t i b)
    where
      by : (IsBelow IsBefore s t → IsAmong t rest) → IsUpto IsBefore s t → IsAmong t (s ∷ rest)
      by f (inl l) = inr (f l)
      by f (inr e) = inl (sym e)

  empty_or_behind : (t : List Tree) → IsUpto IsBefore [] t
  empty_or_behind [] = inr refl
  empty_or_behind (u ∷ t) = inl tt

  covers_all : (all : List (List Tree)) → IsChain (Some []) all → (t : List Tree) → Is t → IsAmong t all
  covers_all all (link s next rest is n c) t i = by (empty_or_behind t)
    where
      by : IsUpto IsBefore [] t → IsAmong t ([] ∷ rest)
      by (inl l) = inr (covers [] next rest c n t i l)
      by (inr e) = inl (sym e)

-- ---- from a store that grows to the first one

module _ (IsOfIds : List ℕ → List ℕ → Type 0) (IsOf : List Tree → List Tree → Type 0)
    (keys : (g : ℕ → Tree) (xs ys : List ℕ) → IsOfIds xs ys → IsOf (map g xs) (map g ys))
    (holds : (P : ℕ → Type 0) (xs ys : List ℕ) → IsOfIds xs ys → All P ys → All P xs) where
  abbrev IsNextOne : List Node → List ℕ → List ℕ → Option (List ℕ) → Type 0
  IsNextOne nodes items last due = IsNextOrEnd IsBefore (λ ts. IsOf ts (trees_at nodes items)) (trees_at nodes last) (option_map (trees_at nodes) due)

  module _ (base : List Node) (items : List ℕ) (valid : AreOf base items) where
    abbrev Is : List Tree → Type 0
    Is ts = IsOf ts (trees_at base items)

    same_trees : (nodes : List Node) (ids : List ℕ) → Extends base nodes → IsOfIds ids items → trees_at nodes ids ≡ trees_at base ids
    same_trees nodes ids x h = trees_at-extends base nodes ids x (holds (λ i. i < length base) ids items h valid)

    same_due : (nodes later : List Node) (due : Option (List ℕ)) (all : List (List ℕ)) → Extends base nodes → IsRun IsOfIds IsNextOne items later due all → option_map (trees_at nodes) due ≡ option_map (trees_at base) due
    same_due nodes later due all x (over n) = refl
    same_due nodes later due all x (turn n m list next rest h b y r) = ap Some (same_trees nodes list x h)

    run_chain : (nodes : List Node) (due : Option (List ℕ)) (all : List (List ℕ)) → Extends base nodes → IsRun IsOfIds IsNextOne items nodes due all → IsChain Is (option_map (trees_at base) due) (map (trees_at base) all)
    run_chain nodes due all x (over n) = done
    run_chain nodes due all x (turn n later list next rest h b y r) =
        link (trees_at base list) (option_map (trees_at base) next) (map (trees_at base) rest) (keys (tree_at base) list items h)
        (subst (λ o. IsNextOrEnd IsBefore Is (trees_at base list) o) (same_due nodes later next rest x r)
        (subst (λ ts. IsNextOrEnd IsBefore Is ts (option_map (trees_at nodes) next)) (same_trees nodes list x h)
        (subst (λ us. IsNextOrEnd IsBefore (λ ts. IsOf ts us) (trees_at nodes list) (option_map (trees_at nodes) next)) (trees_at-extends base nodes items x valid) b)))
        (run_chain later next rest (extension_is_preorder.transitive base nodes later x y) r)

    gives_all : (all : List (List ℕ)) → IsRun IsOfIds IsNextOne items base (Some []) all → AreExactly IsBefore Is (map (trees_at base) all)
    gives_all all r =
        let c = run_chain base (Some []) all (extension_is_preorder.reflexive base) r in
        record {
          climbing = climbs Is (Some []) (map (trees_at base) all) c;
          each = each_one Is (Some []) (map (trees_at base) all) c;
          complete = covers_all Is (map (trees_at base) all) c;
        }

    abbrev IsBehindThat : List ℕ → List Tree → Type 0
    IsBehindThat list ts = Is ts × IsBelow IsBefore (trees_at base list) ts

    goes_on : (later : List Node) (list : List ℕ) (due : Option (List ℕ)) (all : List (List ℕ)) → IsNextOne base items list due → Extends base later → IsRun IsOfIds IsNextOne items later due all → AreExactly IsBefore (IsBehindThat list) (map (trees_at base) all)
    goes_on later list due all n x r =
        let c = run_chain later due all x r in
        let o = option_map (trees_at base) due in
        let ss = map (trees_at base) all in
        let b = all_behind Is (trees_at base list) o ss c (next_behind Is (trees_at base list) o n) in
        record {
          climbing = climbs Is o ss c;
          each = λ t h. (each_one Is o ss c t h, among_behind (trees_at base list) ss b t h);
          complete = λ t h. covers Is (trees_at base list) o ss c n t h.0 h.1;
        }
      where
        among_behind : (xs : List Tree) (ss : List (List Tree)) → AreBehind IsBefore xs ss → (t : List Tree) → IsAmong t ss → IsBelow IsBefore xs t
        among_behind xs [] b t h = absurd h
        among_behind xs (s ∷ ss) b t (inl h) = subst (IsBelow IsBefore xs) (sym h) b.0
        among_behind xs (s ∷ ss) b t (inr h) = among_behind xs ss b.1 t h

pub runs_give_all_sub_lists : RunsGiveAllSubLists
runs_give_all_sub_lists nodes items all valid r = gives_all IsSubList IsSubList sub-keys sub_All nodes items valid all r

pub runs_go_on_behind_sub_lists : RunsGoOnBehindSubLists
runs_go_on_behind_sub_lists nodes later items list due all valid n x r = goes_on IsSubList IsSubList sub-keys sub_All nodes items valid later list due all n x r

pub runs_give_all_parts : RunsGiveAllParts
runs_give_all_parts nodes items all valid r = gives_all IsPart IsPart part-keys part_All nodes items valid all r

pub runs_go_on_behind_parts : RunsGoOnBehindParts
runs_go_on_behind_parts nodes later items list due all valid n x r = goes_on IsPart IsPart part-keys part_All nodes items valid later list due all n x r
