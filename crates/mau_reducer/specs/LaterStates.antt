-- States that come of one another.
use Rattle.std.proofs.Common.{◌≡◌, ℕ, suc, List, [], ◌∷◌, Bool, true, false, Option, Some, None, IfSome, map, drop, refl, sym, ap, ◌∙◌, subst}
use Rattle.std.specs.Option.{option_map}
use Rattle.mau_terms.specs.Tree.{Tree}
use Rattle.mau_terms.specs.declared.ids.TermId.{TermId}
use Rattle.mau_terms.specs.Subst.{Variable}
use Rattle.mau_terms.specs.Solution.{HaveSorts}
use Rattle.mau_terms.specs.View.{tree_of, variable_of}
use Rattle.mau_terms.specs.Norm.{unit_tree}
use Rattle.mau_api.specs.Answers.{AreSettled}
use Rattle.mau_api.specs.Meanings.{meanings_by}
use Rattle.mau_deriving.proofs.ListedAll.{sorted_same}
use Rattle.mau_settling.specs.Beginning.{AreIdentitiesSettled}
use Rattle.mau_settling.specs.declared.settling.Settling.{Settling}
use Rattle.mau_settling.proofs.States.{settling_stays, deriving_stays, asked_sorted}
use Rattle.mau_signature.specs.Signature.{SignatureOf, theory_at}
use Rattle.mau_store.specs.Node.{Node, Extends}
use Rattle.mau_store.specs.Trees.{tree_at, trees_at}
use Rattle.mau_store.specs.View.{numbers}
use Rattle.mau_store.proofs.Growth.{extension_is_preorder}
use Rattle.mau_canon.proofs.Standing.{stand_within_extended}
use Rattle.mau_sorts.specs.Table.{Table, KeepsEntries}
use Rattle.mau_sorts.proofs.Settling.{kept_same, kept_on}
use Rattle.mau_listing.specs.Asked.{Asked, HasEntry}
use Rattle.mau_listing.specs.declared.solution.Solution.{Solution}
use Rattle.mau_listing.proofs.Growth.{AreOfStore, entry_kept}
use Rattle.mau_api.specs.Terms.{IsTerm}
use Rattle.mau_api.specs.Programs.{program_over}
use Rattle.mau_evaluation.specs.Program.{Program}
use Rattle.mau_evaluation.specs.Evaluation.{Binding, levels}
use Rattle.mau_reduce.specs.declared.binding.Binding.{Binding as Kept}
use Rattle.mau_reduce.specs.declared.trying.Tried.{Tried}
use Rattle.mau_reduce.specs.Bindings.{bound_in}
use Rattle.mau_reduce.specs.Trying.{IsTried}
use Rattle.mau_reduce.specs.ByTop.{order_for}
use Rattle.mau_reduce.proofs.KindsKept.{is_term_kept, tree_kept, trees_kept, under_kept}
use Rattle.mau_reduce.proofs.PlainTables.{tree_settled_grown, settled_grown, derived_extended}
use Rattle.mau_reduce.specs.Attempting.{untried_by, makes_of}
use Rattle.mau_reduce.specs.Giving.{IsGivenAt}
use Rattle.mau_reduce.specs.Lasts.{IsLast}
use Rattle.mau_reduce.proofs.LaterStores.{tried_grown, untried_grown, last_there, last_grown, listed_grown, taken_there, given_grown, makes_grown, bound_grown, values_grown}
use Rattle.mau_machine.specs.Words.{rest_of, pattern_in, Keeps}
use Rattle.mau_reducer.specs.declared.reducer.Candidates.{Candidates}
use Rattle.mau_choices.specs.declared.choices.Choices.{Choices}
use Rattle.mau_choices.proofs.Later.{value_same, binding_same, choosing_grown, left_same}
use Rattle.mau_reducer.specs.Basis.{Basis}
use Rattle.mau_reducer.specs.Handles.{rules_of, as_id, IsKnownTerm, IsKnownValue, AreKnownOperands, IsKnownBinding, IsKnownSettling, IsKnownAsking, way_of, IsKnownWay, IsAskingWay, AreKnownCandidates, IsKnownCandidate, AreKnownChoices, words_of}
use Rattle.mau_reducer.specs.States.{IsOwnTable, IsFit, ComesOf}

-- ---- they are an order

pub same_state : (b : Basis) (nodes : List Node) (table : Table) (begun : Bool) → IsFit b nodes table begun → ComesOf b b nodes nodes table table begun
same_state b nodes table begun fit =
    record { basis = refl; extends = extension_is_preorder.reflexive nodes; kept = kept_same table; derived = fit.derived; identities = fit.identities }

pub later_state : (b c d : Basis) (nodes more most : List Node) (one two three : Table) (begun last : Bool) → ComesOf b c nodes more one two begun → ComesOf c d more most two three last → ComesOf b d nodes most one three last
later_state b c d nodes more most one two three begun last h k = record {
  basis = k.basis ∙ h.basis;
  extends = extension_is_preorder.transitive nodes more most h.extends k.extends;
  kept = kept_on one two three h.kept k.kept;
  derived = subst (λ (x : Basis). IsOwnTable x most three) h.basis k.derived;
  identities = subst (λ (x : Basis). last ≡ true → AreIdentitiesSettled x.program.sig most three) h.basis k.identities;
}

pub fit_later : (b c : Basis) (nodes more : List Node) (one two : Table) (begun last : Bool) → IsFit b nodes one begun → ComesOf b c nodes more one two last → IsFit c more two last
fit_later b c nodes more one two begun last fit h =
    subst (λ (x : Basis). IsFit x more two last) (sym h.basis) (record { basis = fit.basis; derived = h.derived; identities = h.identities })

pub identities_grown : (s : SignatureOf) (old new : List Node) (before after : Table) → Extends old new → KeepsEntries before after → AreIdentitiesSettled s old before → AreIdentitiesSettled s new after
identities_grown s old new before after x kept h = λ f i e. tree_settled_grown old new before after (unit_tree i) x kept (h f i e)

-- where the store alone has grown
pub fit_grown : (b : Basis) (old new : List Node) (table : Table) (begun : Bool) → Extends old new → IsFit b old table begun → IsFit b new table begun
fit_grown b old new table begun x fit = record {
  basis = fit.basis;
  derived = derived_extended (meanings_by b.program b.hooks b.limit false) old new table x fit.derived;
  identities = λ e. identities_grown b.program.sig old new table table x (kept_same table) (fit.identities e);
}

-- where nothing is begun or ended, and the table is still an own one
pub comes_with : (b : Basis) (old new : List Node) (before after : Table) (begun : Bool) → IsFit b old before begun → Extends old new → KeepsEntries before after → IsOwnTable b new after → ComesOf b b old new before after begun
comes_with b old new before after begun fit x kept derived =
    record { basis = refl; extends = x; kept = kept; derived = derived; identities = λ e. identities_grown b.program.sig old new before after x kept (fit.identities e) }

pub store_grown : (b : Basis) (old new : List Node) (table : Table) (begun : Bool) → Extends old new → IsFit b old table begun → ComesOf b b old new table table begun
store_grown b old new table begun x fit = comes_with b old new table table begun fit x (kept_same table) (fit_grown b old new table begun x fit).derived

-- ---- what handles stand for stays the same

pub numbers_mapped : (f : ℕ → Tree) (ts : List TermId) → map f (numbers ts) ≡ map (λ t. f t.0) ts
numbers_mapped f [] = refl
numbers_mapped f (t ∷ ts) = ap (λ us. f t.0 ∷ us) (numbers_mapped f ts)

module _ (s : SignatureOf) (old new : List Node) (x : Extends old new) where
  pub term_later : (i : ℕ) → IsKnownTerm s old i → IsKnownTerm s new i × (tree_at new i ≡ tree_at old i)
  term_later i h = (record { lawful = h.lawful; term = is_term_kept s old new i x h.term }, tree_kept (theory_at s) old new i x h.term.within)

  pub value_later : (before after : Table) → KeepsEntries before after → (i : ℕ) → IsKnownValue s old before i → IsKnownValue s new after i × (tree_at new i ≡ tree_at old i)
  value_later before after kept i h =
      let same = tree_kept (theory_at s) old new i x h.known.term.within in (
        record {
          known = (term_later i h.known).0;
          settled = subst (λ t. AreSettled s new after t) (sym same) (settled_grown s old new before after (tree_at old i) x kept h.settled);
        },
        same,
      )

  pub operands_later : (f : ℕ) (ts : List TermId) → AreKnownOperands s old f ts → AreKnownOperands s new f ts × (map (λ t. tree_at new t.0) ts ≡ map (λ t. tree_at old t.0) ts)
  operands_later f ts h = (
    record { lawful = h.lawful; under = under_kept s old new f (numbers ts) x h.under },
    sym (numbers_mapped (tree_at new) ts) ∙ (trees_kept (theory_at s) old new (numbers ts) x h.under.within ∙ numbers_mapped (tree_at old) ts),
  )

HaveSorts-then : (P Q : ℕ → Tree → Type 0) → ((r : ℕ) (t : Tree) → P r t → Q r t) → (xs : List Variable) (vs : List Tree) → HaveSorts P xs vs → HaveSorts Q xs vs
HaveSorts-then P Q h [] vs has = tt
HaveSorts-then P Q h (x ∷ xs) [] has = absurd has
HaveSorts-then P Q h (x ∷ xs) (v ∷ vs) has = (h x.1 v has.0, HaveSorts-then P Q h xs vs has.1)

pub binding_later : (b : Basis) (old new : List Node) (before after : Table) (begun : Bool) → ComesOf b b old new before after begun → (e i : ℕ) (σ : Kept) → IsKnownBinding b old before e i σ →
    IsKnownBinding b new after e i σ × (bound_in new σ ≡ bound_in old σ)
binding_later b old new before after begun h e i σ k =
    let same = trees_kept (theory_at b.program.sig) old new (numbers σ.values.items) h.extends k.values.within in (
      record {
        values = values_grown b.program old new h.extends σ k.values;
        variables = k.variables;
        sorts =
            subst (HaveSorts (HasEntry b.program.sig new after) (map variable_of σ.variables.items)) (sym same)
            (HaveSorts-then (HasEntry b.program.sig old before) (HasEntry b.program.sig new after) (λ r t. entry_kept old new h.extends before after h.kept b.program.sig r t) (map variable_of σ.variables.items)
            (trees_at old (numbers σ.values.items)) k.sorts);
        bound = k.bound;
      },
      bound_grown b.program old new h.extends σ k.values.within,
    )

-- ---- candidates

module _ {L M : Type 0} (c : Bool) (asked : L → Asked) (given : L → Option Solution) (is_for : L → SignatureOf → Type 0)
    (asked_whole : M → Asked) (given_whole : M → Option Solution) (is_for_whole : M → SignatureOf → Type 0) (b : Basis) (old new : List Node) (before after : Table)
    (begun : Bool) (h : ComesOf b b old new before after begun) where
  abbrev P : Program
  P = program_over b.program b.hooks

  tried_later : (t : TermId) (o : Option (Tried L)) →
      IfSome o (λ x. IsTried c b.program old before t x.number (asked x.listing) (given x.listing) (is_for x.listing b.program.sig)) →
      IfSome o (λ x. IsTried c b.program new after t x.number (asked x.listing) (given x.listing) (is_for x.listing b.program.sig))
  tried_later t None k = tt
  tried_later t (Some x) k = tried_grown c b.program old new before after t x.number (asked x.listing) (given x.listing) (is_for x.listing b.program.sig) h.extends h.kept h.derived.over k

  last_ones : (t : TermId) (o : Option (Tried L)) →
      IfSome o (λ x. IsTried c b.program old before t x.number (asked x.listing) (given x.listing) (is_for x.listing b.program.sig)) →
      IfSome {T = ℕ × Option Solution} (option_map (λ x. (x.number, given x.listing)) o) (λ y. IfSome y.1 (AreOfStore old))
  last_ones t None k = tt
  last_ones t (Some x) k = last_there old new h.extends c b.program before t x.number (asked x.listing) (given x.listing) (is_for x.listing b.program.sig) k

  tree_same : (t : ℕ) → IsTerm b.program.sig old t → tree_at new t ≡ tree_at old t
  tree_same t is = tree_kept (theory_at b.program.sig) old new t h.extends is.within

  candidates_known : (t : ℕ) (a : Candidates L) → AreKnownCandidates c asked given is_for asked_whole given_whole is_for_whole b old before t a → AreKnownCandidates c asked given is_for asked_whole given_whole is_for_whole b new after t a
  candidates_known t a k = record {
    own = k.own;
    term = is_term_kept b.program.sig old new t h.extends k.term;
    tried = tried_later (as_id t) a.attempts.value.tried k.tried;
    given_at =
        subst (λ u. IsGivenAt b.program.sig b.hooks new u a.attempts.value.given) (sym (tree_same t k.term))
        (given_grown b.program old new h.extends b.hooks (tree_at old t) a.attempts.value.given k.given_at);
  }

  untried_same : (t : ℕ) (a : Candidates L) → AreKnownCandidates c asked given is_for asked_whole given_whole is_for_whole b old before t a → (k n : ℕ) →
      (words_of c asked given is_for asked_whole given_whole is_for_whole b new after).untried a k n ≡ (words_of c asked given is_for asked_whole given_whole is_for_whole b old before).untried a k n
  untried_same t a is k n =
      ap (λ u. untried_by P b.limit k new u a.attempts.value.given (option_map (λ x. (x.number, given x.listing)) a.attempts.value.tried) (drop a.attempts.value.next (order_for b.program u)) n)
      (tree_same a.term.0 (subst (IsTerm b.program.sig old) (sym is.own) is.term))
      ∙ ap (λ r. r n) (untried_grown old new h.extends P b.limit k (tree_at old a.term.0) (drop a.attempts.value.next (order_for b.program (tree_at old a.term.0))) a.attempts.value.given
      (taken_there b.program old new h.extends a.attempts.value.given is.given_at.taken) (option_map (λ x. (x.number, given x.listing)) a.attempts.value.tried) (last_ones (as_id t) a.attempts.value.tried is.tried))

  candidate_known : (t e : ℕ) (a : Candidates L) → IsKnownCandidate c asked given is_for asked_whole given_whole is_for_whole b old before t e a → IsKnownCandidate c asked given is_for asked_whole given_whole is_for_whole b new after t e a
  candidate_known t e a k =
      let same = tree_same t k.term in
      record {
        own = k.own;
        term = is_term_kept b.program.sig old new t h.extends k.term;
        reducible = k.reducible;
        given_at = subst (λ u. IsGivenAt b.program.sig b.hooks new u a.attempts.value.given) (sym same) (given_grown b.program old new h.extends b.hooks (tree_at old t) a.attempts.value.given k.given_at);
        last =
            subst (λ u. IsLast b.program new u e a.attempts.value.given a.attempts.value.last) (sym same)
            (last_grown b.program old new h.extends (tree_at old t) e a.attempts.value.given a.attempts.value.last k.last);
        listed =
            listed_grown b.program old new h.extends before after h.kept k.reducible (as_id t) k.term e a.attempts.value.given a.attempts.value.last k.listed;
      }

  makes_same : (t e : ℕ) (a : Candidates L) → IsKnownCandidate c asked given is_for asked_whole given_whole is_for_whole b old before t e a → (σ : Binding) →
      (words_of c asked given is_for asked_whole given_whole is_for_whole b new after).makes a σ ≡ (words_of c asked given is_for asked_whole given_whole is_for_whole b old before).makes a σ
  makes_same t e a k σ =
      ap (λ u. makes_of P new u a.attempts.value.given a.attempts.value.last σ) (tree_same a.term.0 (subst (IsTerm b.program.sig old) (sym k.own) k.term))
      ∙ makes_grown b.program old new h.extends b.hooks (tree_at old a.term.0) e a.attempts.value.given a.attempts.value.last σ k.given_at.taken
      (subst (λ i. IsLast b.program old (tree_at old i) e a.attempts.value.given a.attempts.value.last) (sym k.own) k.last)

  choices_known : (e i : ℕ) (x : Choices M) → AreKnownChoices c asked given is_for asked_whole given_whole is_for_whole b old before e i x →
      AreKnownChoices c asked given is_for asked_whole given_whole is_for_whole b new after e i x
  choices_known e i x k = record {
    asks = k.asks;
    choosing = choosing_grown b.program.sig old new before after (pattern_in (rest_of (rules_of b) e i)) x.binding x.value (asked_whole x.listing) (given_whole x.listing)
        (is_for_whole x.listing b.program.sig) h.extends h.kept h.derived.over k.choosing;
    variables = k.variables;
    bound = k.bound;
  }

  choices_same : (e i : ℕ) (x : Choices M) → AreKnownChoices c asked given is_for asked_whole given_whole is_for_whole b old before e i x → (k n : ℕ) →
      (words_of c asked given is_for asked_whole given_whole is_for_whole b new after).unchosen x k e i n
      ≡ (words_of c asked given is_for asked_whole given_whole is_for_whole b old before).unchosen x k e i n
  choices_same e i x is k n =
      ap (λ r. r n)
      (left_same b.program.sig old new before after (pattern_in (rest_of (rules_of b) e i)) x.binding x.value (asked_whole x.listing) (given_whole x.listing) (is_for_whole x.listing b.program.sig)
      h.extends h.kept h.derived.over is.choosing P (levels P b.limit k) (rest_of (rules_of b) e (suc i)))

  settling_known : (t : ℕ) (d : Settling) → IsKnownSettling b old before t d → IsKnownSettling b new after t d
  settling_known t d k = record {
    own = k.own;
    settling = settling_stays b.program old new h.extends before after h.kept h.derived.over h.derived.closed d k.settling;
    derives = deriving_stays b.program b.hooks b.limit old new h.extends before d k.settling k.derives;
  }

  asking_known : (t e : ℕ) (σ : Binding) (d : Settling) → IsKnownAsking b old before t e σ d → IsKnownAsking b new after t e σ d
  asking_known t e σ d k =
      let sorted = asked_sorted b.program old before d k.known.settling k.place k.question k.asks k.membership k.there in
      record {
        known = settling_known t d k.known;
        place = k.place;
        question = k.question;
        asks = k.asks;
        membership = k.membership;
        there = k.there;
        number = k.number;
        values = k.values ∙ sym (sorted_same b.program.sig old new before after h.extends h.kept (tree_of k.membership.left) k.question sorted);
      }

  way_known : (t : ℕ) (o : Option Settling) → IsKnownWay b old before t o → IsKnownWay b new after t o
  way_known t None k = (value_later b.program.sig old new h.extends before after h.kept t k).0
  way_known t (Some d) k = settling_known t d k

  asking_way_known : (t e : ℕ) (σ : Binding) (o : Option Settling) → IsAskingWay b old before t e σ o → IsAskingWay b new after t e σ o
  asking_way_known t e σ None k = k
  asking_way_known t e σ (Some d) k = asking_known t e σ d k

  words_stay : Keeps (words_of c asked given is_for asked_whole given_whole is_for_whole b old before) (words_of c asked given is_for asked_whole given_whole is_for_whole b new after)
  words_stay = record {
    rules = refl;
    terms = term_later b.program.sig old new h.extends;
    values = value_later b.program.sig old new h.extends before after h.kept;
    operands = operands_later b.program.sig old new h.extends;
    bindings = binding_later b old new before after begun h;
    lasts = λ σ k. (stand_within_extended (theory_at b.program.sig) old new (numbers σ.values.items) h.extends k, bound_grown b.program old new h.extends σ k);
    settlings = λ t d. way_known t (way_of d);
    askings = λ t e σ d. asking_way_known t e σ (way_of d);
    attempts = λ t a k. (candidates_known t a k, untried_same t a k);
    candidates = λ t e a k. (candidate_known t e a k, makes_same t e a k);
    choices = λ e i x k. (choices_known e i x k, choices_same e i x k);
    chosen = λ e i x k.
        let p = pattern_in (rest_of (rules_of b) e i) in (
          binding_same b.program.sig old new before after p x.binding x.value (asked_whole x.listing) (given_whole x.listing) (is_for_whole x.listing b.program.sig) h.extends h.kept h.derived.over k.choosing,
          value_same b.program.sig old new before after p x.binding x.value (asked_whole x.listing) (given_whole x.listing) (is_for_whole x.listing b.program.sig) h.extends h.kept h.derived.over k.choosing,
        );
  }

pub words_kept : {L M : Type 0} (c : Bool) (asked : L → Asked) (given : L → Option Solution) (is_for : L → SignatureOf → Type 0)
    (asked_whole : M → Asked) (given_whole : M → Option Solution) (is_for_whole : M → SignatureOf → Type 0) (b d : Basis) (old new : List Node) (before after : Table) (begun : Bool) → ComesOf b d old new before after begun →
    Keeps (words_of c asked given is_for asked_whole given_whole is_for_whole b old before) (words_of c asked given is_for asked_whole given_whole is_for_whole d new after)
words_kept c asked given is_for asked_whole given_whole is_for_whole b d old new before after begun h =
    subst (λ (x : Basis). Keeps (words_of c asked given is_for asked_whole given_whole is_for_whole b old before) (words_of c asked given is_for asked_whole given_whole is_for_whole x new after)) (sym h.basis)
    (words_stay c asked given is_for asked_whole given_whole is_for_whole b old new before after begun (record { basis = refl; extends = h.extends; kept = h.kept; derived = h.derived; identities = h.identities }))
