-- A derivation as it is kept: in a state that has grown, and through its steps.
use Rattle.std.proofs.Common.{◌≡◌, ◌⊎◌, inl, inr, ℕ, zero, suc, ◌+◌, ◌<◌, ◌≤◌, List, [], ◌∷◌, ◌++◌, map, length, Bool, true, false, ◌||◌, Some, is_some, get_or, Contains, refl, sym, ap, ◌∙◌, subst, arith}
use Rattle.std.specs.Prelude.{slice_get}
use Rattle.std.proofs.lemmas.List.Elements.{All-nil, All-cons, All-head, All-tail}
use Rattle.mau_terms.specs.Tree.{Tree, variable, numeral, apply, Trees, no_trees, tree, list_of, trees_of}
use Rattle.mau_terms.specs.Norm.{unit_tree}
use Rattle.mau_terms.specs.Bare.{IsBare, IsLawful}
use Rattle.mau_terms.specs.Reading.{reading}
use Rattle.mau_terms.specs.declared.ids.VarId.{VarId}
use Rattle.mau_terms.specs.declared.ids.TermId.{TermId}
use Rattle.mau_terms.specs.declared.theory.Identity.{Identity}
use Rattle.mau_signature.specs.Signature.{SignatureOf, theory_at, terms_over}
use Rattle.mau_signature.specs.OverSignature.{IsTreeOver}
use Rattle.mau_signature.proofs.OverSignature.{norm_over}
use Rattle.mau_formula.specs.Operator.{Operator}
use Rattle.mau_store.specs.Node.{Node, arguments, AreNodes, Extends, operator_node, variable_node, numeral_node}
use Rattle.mau_store.specs.Trees.{tree_at, tree_over}
use Rattle.mau_store.proofs.Standing.{tree_at-extends, tree_of_node}
use Rattle.mau_store.proofs.Growth.{extension_keeps_terms}
use Rattle.mau_canon.proofs.Standing.{stands_within_extended}
use Rattle.mau_sorts.specs.SortSets.{AreSorts}
use Rattle.mau_sorts.specs.HasSort.{Known}
use Rattle.mau_sorts.specs.Table.{Table, IsSettled, IsReady, AreEntries, IsKnownOf, AreOver, AreSame, KeepsEntries, Settles}
use Rattle.mau_sorts.proofs.Settling.{is_ready, entries_same}
use Rattle.mau_store.proofs.Numbers.{node_there}
use Rattle.mau_listing.proofs.Closed.{closed_same}
use Rattle.mau_listing.proofs.Entered.{number_settled}
use Rattle.mau_sigcheck.specs.Built.{IsBuiltAndAccepted}
use Rattle.mau_listing.specs.Asked.{IsTreeSettled, IsBelow, IsBelowOne}
use Rattle.mau_listing.proofs.Growth.{settled_kept}
use Rattle.mau_program.specs.declared.program.Program as Typed
use Rattle.mau_program.specs.declared.statements.Membership as Written
use Rattle.mau_program.specs.LawfulPrograms.{IsLawfulProgram}
use Rattle.mau_evaluation.specs.Program.{Membership}
use Rattle.mau_evaluation.specs.Evaluation.{sizes, sorts_in}
use Rattle.mau_evaluation.specs.HasSort.{HasHeads}
use Rattle.mau_api.specs.Programs.{program_over, membership_of}
use Rattle.mau_api.specs.Meanings.{meanings_by}
use Rattle.mau_api.specs.Answers.{IsDerivedTable, binding_in}
use Rattle.mau_api.specs.Terms.{IsNormalBare}
use Rattle.mau_api.proofs.DeclaredSorts.{sorts_above_are_all}
use Rattle.mau_api.proofs.KnownSorts.{EachNormalBare, of_settled}
use Rattle.mau_deriving.specs.Known.{EndsWith, AreKnownFrom}
use Rattle.mau_deriving.specs.Answered.{WasAnswered}
use Rattle.mau_deriving.specs.Given.{asks_by, sorts_on, GiveJust}
use Rattle.mau_deriving.specs.Derivations.{AreOpen, IsDeriving, found_after}
use Rattle.mau_deriving.specs.Asking.{IsConstant, IsApplied, CanBeAsked, AreSortedAt, Stands, Derives}
use Rattle.mau_deriving.specs.declared.derivation.Deriving.{Deriving}
use Rattle.mau_deriving.proofs.Members.{sorts_known, fuelled}
use Rattle.mau_deriving.proofs.StepByStep.{begun, told, asked_ends, advanced, finished}
use Rattle.mau_deriving.proofs.DerivedMore.{arguments_bare, derived_more}
use Rattle.mau_deriving.proofs.Lawful.{heads, mapped_at, map_length, lawful_one}
use Rattle.mau_deriving.proofs.ListedAll.{all_grown, all_same}

-- ---- a term of which can be asked, in a state that has grown

module _ (s : SignatureOf) (old new : List Node) (before after : Table) (extends : Extends old new) (kept : KeepsEntries before after) (over : AreOver s.hierarchy after) where
  tree_settled : (u : Tree) → IsTreeSettled old before u → IsTreeSettled new after u
  tree_settled u h =
      let k = extension_keeps_terms old new extends h.number h.there in
      record { number = h.number; there = k.number; tree = k.tree ∙ h.tree; settled = settled_kept before after kept h.number h.settled }

  pub asked_grown : (t : ℕ) → CanBeAsked s old before t → CanBeAsked s new after t
  asked_grown t h =
      let same : tree_at new t ≡ tree_at old t = tree_at-extends old new t extends h.term.within.there in
      record {
        term = record { within = stands_within_extended (theory_at s) old new extends t h.term.within; bare = subst (λ u. IsBare (terms_over s) (reading (theory_at s) u)) (sym same) h.term.bare };
        applied = subst IsApplied (sym same) h.applied;
        over = over;
        below = λ u b. tree_settled u (h.below u (subst (IsBelow u) same b));
        identities = by same h.identities;
      }
    where
      by : tree_at new t ≡ tree_at old t → IsConstant (tree_at old t) ⊎ ((f : ℕ) (i : Identity) → (theory_at s f).id ≡ Some i → IsTreeSettled old before (unit_tree i)) →
          IsConstant (tree_at new t) ⊎ ((f : ℕ) (i : Identity) → (theory_at s f).id ≡ Some i → IsTreeSettled new after (unit_tree i))
      by same (inl c) = inl (subst IsConstant (sym same) c)
      by same (inr g) = inr (λ f i e. tree_settled (unit_tree i) (g f i e))

-- ---- a derivation, in a state that has grown

module _ (p : Typed.Program) (old new : List Node) (before after : Table) (extends : Extends old new) (kept : KeepsEntries before after) (over : AreOver p.sig.hierarchy after) where
  pub sorted_at_grown : (at : ℕ) (qs : List (List (VarId × TermId))) → AreSortedAt p old before at qs → AreSortedAt p new after at qs
  sorted_at_grown at qs h = record { head = h.head; is = h.is; sorted = all_grown p.sig old new before after extends kept h.head qs h.sorted }

  pub stands_grown : (d : Deriving) → Stands p old before d → Stands p new after d
  stands_grown d h = record {
    can_be_asked = asked_grown p.sig old new before after extends kept over d.term.0 h.can_be_asked;
    at = h.at;
    asked = h.asked;
    found = h.found;
    sorted = sorted_at_grown d.at d.questions.items h.sorted;
  }

  pub derives_grown : (hooks : List Operator) (limit : ℕ) (d : Deriving) → Stands p old before d → Derives p hooks limit old d → Derives p hooks limit new d
  derives_grown hooks limit d h k = record {
    operator = k.operator;
    arguments = k.arguments;
    is = tree_at-extends old new d.term.0 extends h.can_be_asked.term.within.there ∙ k.is;
    derives = subst (λ qs. IsDeriving (program_over p hooks) limit k.operator k.arguments p.sig.hierarchy d.at d.asked qs d.holds d.found.items)
        (sym (all_same p.sig old new before after extends kept h.sorted.head d.questions.items h.sorted.sorted)) k.derives;
  }

-- ---- steps

pub applied_is : (u : Tree) → IsApplied u → (f : ℕ) × (ts : Trees) × (u ≡ apply f ts)
applied_is (variable i s) h = absurd h
applied_is (numeral n) h = absurd h
applied_is (apply f ts) h = (f, ts, refl)

pub at_place : {A : Type 0} (xs : List A) (i : ℕ) → i < length xs → (x : A) × (slice_get xs i ≡ Some x)
at_place [] i l = absurd (omega arith)
at_place (x ∷ xs) zero l = (x, refl)
at_place (x ∷ xs) (suc i) l = at_place xs i (omega arith)

-- the first membership
pub begun_in : (p : Typed.Program) (hooks : List Operator) (limit : ℕ) (old new : List Node) (table : Table) (t : TermId) → Extends old new → CanBeAsked p.sig old table t.0 → (qs : List (List (VarId × TermId))) →
    ((f : ℕ) (ts : Trees) → tree_at old t.0 ≡ apply f ts → (m : Membership) → slice_get (program_over p hooks).memberships 0 ≡ Some m → AreOpen (program_over p hooks) limit f ts m (map (binding_in new) qs)) →
    (d : Deriving) → d.term ≡ t → d.at ≡ 0 → d.asked ≡ 0 → d.questions.items ≡ qs → d.holds ≡ false → d.found.items ≡ [] → Derives p hooks limit new d
begun_in p hooks limit old new table t extends can qs opened d e_term e_at e_asked e_questions e_holds e_found =
    let a = applied_is (tree_at old t.0) can.applied in
    let P = program_over p hooks in
    let own : IsDeriving P limit a.0 a.1 p.sig.hierarchy 0 0 (map (binding_in new) qs) false [] = begun P limit a.0 a.1 p.sig.hierarchy (map (binding_in new) qs) (opened a.0 a.1 a.2) in
    record {
      operator = a.0;
      arguments = a.1;
      is = ap (λ (x : TermId). tree_at new x.0) e_term ∙ (tree_at-extends old new t.0 extends can.term.within.there ∙ a.2);
      derives =
          subst (λ n. IsDeriving P limit a.0 a.1 p.sig.hierarchy n d.asked (map (binding_in new) d.questions.items) d.holds d.found.items) (sym e_at)
          (subst (λ n. IsDeriving P limit a.0 a.1 p.sig.hierarchy 0 n (map (binding_in new) d.questions.items) d.holds d.found.items) (sym e_asked)
          (subst (λ zs. IsDeriving P limit a.0 a.1 p.sig.hierarchy 0 0 (map (binding_in new) zs) d.holds d.found.items) (sym e_questions)
          (subst (λ w. IsDeriving P limit a.0 a.1 p.sig.hierarchy 0 0 (map (binding_in new) qs) w d.found.items) (sym e_holds)
          (subst (λ rs. IsDeriving P limit a.0 a.1 p.sig.hierarchy 0 0 (map (binding_in new) qs) false rs) (sym e_found) own))));
    }

-- an answer
pub told_in : (p : Typed.Program) (hooks : List Operator) (limit : ℕ) (nodes : List Node) (d e : Deriving) (m : Membership) (b : List (VarId × TermId)) (w : Bool) →
    slice_get (program_over p hooks).memberships d.at ≡ Some m → slice_get d.questions.items d.asked ≡ Some b → WasAnswered (program_over p hooks) limit m.cond (binding_in nodes b) w →
    e.term ≡ d.term → e.at ≡ d.at → e.asked ≡ suc d.asked → e.questions.items ≡ d.questions.items → e.holds ≡ (d.holds || w) → e.found.items ≡ d.found.items →
    Derives p hooks limit nodes d → Derives p hooks limit nodes e
told_in p hooks limit nodes d e m b w there at_b answered e_term e_at e_asked e_questions e_holds e_found k =
    let P = program_over p hooks in
    let own : IsDeriving P limit k.operator k.arguments p.sig.hierarchy d.at (suc d.asked) (map (binding_in nodes) d.questions.items) (d.holds || w) d.found.items =
    told P limit k.operator k.arguments p.sig.hierarchy d.at d.asked (map (binding_in nodes) d.questions.items) d.holds d.found.items k.derives m there (binding_in nodes b)
    (mapped_at (binding_in nodes) d.questions.items d.asked b at_b) w answered in
    record {
      operator = k.operator;
      arguments = k.arguments;
      is = ap (λ (x : TermId). tree_at nodes x.0) e_term ∙ k.is;
      derives =
          subst (λ n. IsDeriving P limit k.operator k.arguments p.sig.hierarchy n e.asked (map (binding_in nodes) e.questions.items) e.holds e.found.items) (sym e_at)
          (subst (λ n. IsDeriving P limit k.operator k.arguments p.sig.hierarchy d.at n (map (binding_in nodes) e.questions.items) e.holds e.found.items) (sym e_asked)
          (subst (λ zs. IsDeriving P limit k.operator k.arguments p.sig.hierarchy d.at (suc d.asked) (map (binding_in nodes) zs) e.holds e.found.items) (sym e_questions)
          (subst (λ v. IsDeriving P limit k.operator k.arguments p.sig.hierarchy d.at (suc d.asked) (map (binding_in nodes) d.questions.items) v e.found.items) (sym e_holds)
          (subst (λ rs. IsDeriving P limit k.operator k.arguments p.sig.hierarchy d.at (suc d.asked) (map (binding_in nodes) d.questions.items) (d.holds || w) rs) (sym e_found) own))));
    }

-- the next membership
pub advanced_in : (p : Typed.Program) (is : IsLawfulProgram p) (lawful : IsLawful (terms_over p.sig)) (hooks : List Operator) (limit : ℕ) (old new : List Node) (before after : Table) → Extends old new → KeepsEntries before after →
    AreOver p.sig.hierarchy after → (d e : Deriving) → Stands p old before d → length d.questions.items ≤ d.asked → (w : Written.Membership) → slice_get p.memberships d.at ≡ Some w →
    ((f : ℕ) (ts : Trees) → tree_at old d.term.0 ≡ apply f ts → (m : Membership) → slice_get (program_over p hooks).memberships (d.at + 1) ≡ Some m →
    AreOpen (program_over p hooks) limit f ts m (map (binding_in new) e.questions.items)) →
    e.term ≡ d.term → e.at ≡ d.at + 1 → e.asked ≡ 0 → e.holds ≡ false → e.found.items ≡ found_after d.holds d.found.items w.sort →
    Derives p hooks limit old d → Derives p hooks limit new e
advanced_in p is lawful hooks limit old new before after extends kept over d e stands answered w there opened e_term e_at e_asked e_holds e_found k =
    let P = program_over p hooks in
    let h = p.sig.hierarchy in
    let qs = map (binding_in old) d.questions.items in
    let long : d.asked ≡ length qs = omega (arith, stands.asked, answered, map_length (binding_in old) d.questions.items) in
    let one = lawful_one p is lawful d.at w there in
    let step : suc d.at ≡ d.at + 1 = omega arith in
    let own : IsDeriving P limit k.operator k.arguments h (suc d.at) 0 (map (binding_in new) e.questions.items) false (found_after d.holds d.found.items w.sort) =
    advanced P limit k.operator k.arguments h d.at qs d.holds d.found.items (subst (λ n. IsDeriving P limit k.operator k.arguments h d.at n qs d.holds d.found.items) long k.derives) (membership_of w)
    (mapped_at membership_of p.memberships d.at w there) (sorts_above_are_all h is.accepted.poset w.sort (omega (arith, one.parts.sort))) (map (binding_in new) e.questions.items)
    (subst (λ n. (m : Membership) → slice_get P.memberships n ≡ Some m → AreOpen P limit k.operator k.arguments m (map (binding_in new) e.questions.items)) (sym step) (opened k.operator k.arguments k.is)) in
    record {
      operator = k.operator;
      arguments = k.arguments;
      is = ap (λ (x : TermId). tree_at new x.0) e_term ∙ (tree_at-extends old new d.term.0 extends stands.can_be_asked.term.within.there ∙ k.is);
      derives =
          subst (λ n. IsDeriving P limit k.operator k.arguments h n e.asked (map (binding_in new) e.questions.items) e.holds e.found.items) (step ∙ sym e_at)
          (subst (λ n. IsDeriving P limit k.operator k.arguments h (suc d.at) n (map (binding_in new) e.questions.items) e.holds e.found.items) (sym e_asked)
          (subst (λ v. IsDeriving P limit k.operator k.arguments h (suc d.at) 0 (map (binding_in new) e.questions.items) v e.found.items) (sym e_holds)
          (subst (λ rs. IsDeriving P limit k.operator k.arguments h (suc d.at) 0 (map (binding_in new) e.questions.items) false rs) (sym e_found) own)));
    }

-- ---- the arguments of the term

arg_below : (t : Tree) (ts : Trees) (u : Tree) → IsBelowOne u ts → IsBelowOne u (tree t ts)
arg_below t ts u b = inr (inr b)

module _ (p : Typed.Program) (hooks : List Operator) (limit : ℕ) (heads : HasHeads (program_over p hooks)) (accepted : IsBuiltAndAccepted p.sig)
    (nodes : List Node) (table : Table) (derived : IsDerivedTable (meanings_by p hooks limit false) nodes table) where
  arguments_known : (n : ℕ) (ts : Trees) → sizes ts ≤ n → EachNormalBare p.sig ts → ((u : Tree) → IsBelowOne u ts → IsTreeSettled nodes table u) →
      (args : List (List ℕ)) × AreKnownFrom (λ j. sorts_in (program_over p hooks) limit (asks_by (program_over p hooks) limit j) n) (list_of ts) args
  arguments_known n no_trees l bare below = ([], tt)
  arguments_known n (tree t ts) l bare below =
      let own = of_settled p hooks limit false heads accepted nodes table derived t bare.0 (below t (inl refl)) in
      let rest = arguments_known n ts (omega (arith, l)) bare.1 (λ u b. below u (inr (inr b))) in (
        own.sorts ∷ rest.0,
        (fuelled (program_over p hooks) limit heads t own.sorts n (omega (arith, l)) (sorts_known (program_over p hooks) limit t own.sorts own.levels bare.0.0 own.known_at), rest.1),
      )

  -- where a condition that is asked ends, the sorts of the term end
  pub ends_in : (d : Deriving) → Stands p nodes table d → Derives p hooks limit nodes d → (m : Membership) → slice_get (program_over p hooks).memberships d.at ≡ Some m →
      (b : List (VarId × TermId)) → slice_get d.questions.items d.asked ≡ Some b →
      EndsWith (λ j. sorts_on (program_over p hooks) limit j (tree_at nodes d.term.0)) (λ j. asks_by (program_over p hooks) limit j m.cond (binding_in nodes b) limit)
  ends_in d stands k m there b at_b =
      let P = program_over p hooks in
      let normal : IsNormalBare p.sig (tree_at nodes d.term.0) = (stands.can_be_asked.term.within.normal, stands.can_be_asked.term.bare) in
      let bare = arguments_bare p.sig heads.signature k.operator k.arguments (subst (IsNormalBare p.sig) k.is normal) in
      let args = arguments_known (sizes k.arguments) k.arguments (omega arith) bare (λ u c. stands.can_be_asked.below u (subst (IsBelow u) (sym k.is) c)) in
      subst (λ u. EndsWith (λ j. sorts_on P limit j u) (λ j. asks_by P limit j m.cond (binding_in nodes b) limit)) (sym k.is)
      (asked_ends P limit k.operator k.arguments p.sig.hierarchy d.at d.asked (map (binding_in nodes) d.questions.items) d.holds d.found.items k.derives m there (binding_in nodes b)
      (mapped_at (binding_in nodes) d.questions.items d.asked b at_b) args.0 args.1)

-- ---- all memberships are done with

pub gives_just : (p : Typed.Program) (hooks : List Operator) (limit : ℕ) (nodes : List Node) (d : Deriving) → length p.memberships ≤ d.at → Derives p hooks limit nodes d →
    GiveJust (program_over p hooks) limit p.sig.hierarchy (tree_at nodes d.term.0) d.found.items
gives_just p hooks limit nodes d done k =
    let P = program_over p hooks in
    subst (λ u. GiveJust P limit p.sig.hierarchy u d.found.items) (sym k.is)
    (finished P limit k.operator k.arguments p.sig.hierarchy d.at d.asked (map (binding_in nodes) d.questions.items) d.holds d.found.items k.derives (omega (arith, done, map_length membership_of p.memberships)))

-- ---- a term of which can be asked is ready to get an entry

number_among : (g : ℕ → Tree) (ids : List ℕ) (k : ℕ) → k < length ids → IsBelowOne (g (get_or ids k 0)) (trees_of (map g ids))
number_among g [] k l = absurd (omega arith)
number_among g (i ∷ ids) zero l = inl refl
number_among g (i ∷ ids) (suc k) l = inr (inr (number_among g ids k (omega (arith, l))))

pub ready_in : (s : SignatureOf) → IsLawful (terms_over s) → (nodes : List Node) → AreNodes nodes → (table : Table) (t : ℕ) → CanBeAsked s nodes table t → IsReady s nodes table t
ready_in s lawful nodes are table t can = by (node_there nodes t can.term.within.there)
  where
    over : IsTreeOver s (tree_at nodes t)
    over = subst (IsTreeOver s) can.term.within.normal (norm_over s lawful (tree_at nodes t) (subst (λ u. IsBare (terms_over s) (reading (theory_at s) u)) (sym can.term.within.normal) can.term.bare))

    settled : (n : Node) → slice_get nodes t ≡ Some n → tree_at nodes t ≡ tree_over (tree_at nodes) n → (k : ℕ) → k < length (arguments n) → IsSettled table (get_or (arguments n) k 0)
    settled (numeral_node v) at e k l = absurd (omega (arith, l))
    settled (variable_node i q) at e k l = absurd (omega (arith, l))
    settled (operator_node f ids) at e k l =
        let below = can.below (tree_at nodes (get_or ids k 0)) (subst (IsBelow (tree_at nodes (get_or ids k 0))) (sym e) (number_among (tree_at nodes) ids k l)) in
        let older : get_or ids k 0 < t = are.closed t (operator_node f ids) at k 0 l in
        number_settled nodes are table (get_or ids k 0) (omega (arith, older, can.term.within.there)) below

    by : (n : Node) × (slice_get nodes t ≡ Some n) → IsReady s nodes table t
    by (n, at) = let e = tree_of_node nodes are t n at in is_ready s nodes table t n can.term.within.there at e over (settled n at e)

-- a table that is the same
pub derived_same : (p : Typed.Program) (hooks : List Operator) (limit : ℕ) (nodes : List Node) (old new : Table) → AreSame old new → AreOver p.sig.hierarchy new →
    IsDerivedTable (meanings_by p hooks limit false) nodes old → IsDerivedTable (meanings_by p hooks limit false) nodes new
derived_same p hooks limit nodes old new same over d = record {
  entries = λ i e at normal. d.entries i e (sym (same.entries i) ∙ at) normal;
  known = d.known;
  declared = record {
    entries = entries_same p.sig d.known nodes old new same d.declared.entries;
    settled = λ t r c. let z = d.declared.settled t r c in record { number = z.number; there = z.there; tree = z.tree; settled = ap is_some (same.entries z.number) ∙ z.settled };
    further = λ t r c. subst (λ xs. Contains xs (d.declared.settled t r c).number) (sym same.further) (d.declared.further t r c);
  };
  over = over;
  closed = closed_same nodes old new same d.closed;
}

-- the entry
pub entered_in : (p : Typed.Program) (is : IsLawfulProgram p) (lawful : IsLawful (terms_over p.sig)) (nodes : List Node) → AreNodes nodes → (old new : Table) (d : Deriving) → Stands p nodes old d →
    ¬ IsSettled old d.term.0 → length p.memberships ≤ d.at → (more : List ℕ) → more ≡ d.found.items → KeepsEntries old new → Settles old new d.term.0 more → AreOver p.sig.hierarchy new →
    ((k : Known) → AreEntries p.sig k nodes old → IsKnownOf k (tree_at nodes d.term.0) more → AreEntries p.sig k nodes new) →
    (hooks : List Operator) (limit : ℕ) → Derives p hooks limit nodes d → IsDerivedTable (meanings_by p hooks limit false) nodes old → IsDerivedTable (meanings_by p hooks limit false) nodes new
entered_in p is lawful nodes are old new d stands unsettled done more e kept settles over value hooks limit k derived =
    let can = stands.can_be_asked in
    derived_more p hooks limit false (heads p is lawful hooks) is.accepted nodes are old derived d.term.0 (ready_in p.sig lawful nodes are old d.term.0 can) unsettled
    (can.term.within.normal, can.term.bare) more new kept settles over value
    (subst (GiveJust (program_over p hooks) limit p.sig.hierarchy (tree_at nodes d.term.0)) (sym e) (gives_just p hooks limit nodes d done k))

-- ---- places

-- the sorts that are found are sorts
pub sorts_after : (p : Typed.Program) (is : IsLawfulProgram p) (lawful : IsLawful (terms_over p.sig)) (at : ℕ) (w : Written.Membership) → slice_get p.memberships at ≡ Some w → (holds : Bool) (found : List ℕ) →
    AreSorts p.sig.hierarchy found → AreSorts p.sig.hierarchy (found_after holds found w.sort)
sorts_after p is lawful at w there false found h = h
sorts_after p is lawful at w there true found h = end found h
  where
    sort : w.sort < p.sig.hierarchy.sorts
    sort = (lawful_one p is lawful at w there).parts.sort

    end : (rs : List ℕ) → AreSorts p.sig.hierarchy rs → AreSorts p.sig.hierarchy (rs ++ w.sort ∷ [])
    end [] k = All-cons (λ m. m < p.sig.hierarchy.sorts) w.sort [] sort (All-nil (λ m. m < p.sig.hierarchy.sorts))
    end (r ∷ rs) k =
        All-cons (λ m. m < p.sig.hierarchy.sorts) r (rs ++ w.sort ∷ []) (All-head (λ m. m < p.sig.hierarchy.sorts) r rs k) (end rs (All-tail (λ m. m < p.sig.hierarchy.sorts) r rs k))
