-- Searches for the uses of one rule at all subterms of a term: one turn, from what the search at a term did.
use Rattle.std.proofs.Common.{◌≡◌, ℕ, List, [], ◌∷◌, Bool, true, false, Option, None, Ok, Err, All, Vec, Global, sym, ap, ◌∙◌, subst}
use Rattle.mau_terms.specs.Tree.{Tree}
use Rattle.mau_terms.specs.declared.ids.TermId.{TermId}
use Rattle.mau_terms.specs.declared.ids.VarId.{VarId}
use Rattle.mau_terms.specs.View.{tree_of}
use Rattle.mau_signature.specs.Signature.{SignatureOf}
use Rattle.mau_formula.specs.Operator.{Operator}
use Rattle.mau_store.specs.Node.{Node, Extends}
use Rattle.mau_store.specs.Trees.{tree_at}
use Rattle.mau_sorts.specs.Table.{Table, KeepsEntries, AreOver}
use Rattle.mau_listing.specs.Asked.{Asked, asks}
use Rattle.mau_listing.specs.declared.solution.Solution as Listed
use Rattle.mau_program.specs.declared.program.Program as Typed
use Rattle.mau_program.specs.declared.statements.Rule as Written
use Rattle.mau_evaluation.specs.Program.{Rule, Program}
use Rattle.mau_evaluation.specs.Listing.{compare}
use Rattle.mau_evaluation.specs.Evaluation.{Binding}
use Rattle.mau_evaluation.specs.Engine.{Engine, engine_of}
use Rattle.mau_evaluation.specs.Answers.{Answers}
use Rattle.mau_api.specs.Programs.{rule_of, program_over}
use Rattle.mau_api.specs.Meanings.{Meanings}
use Rattle.mau_api.specs.Answers.{binding_in, IsValueOf}
use Rattle.mau_api.specs.declared.results.EvalEnd.{EvalEnd}
use Rattle.mau_rules.specs.declared.walk.Open.{Open}
use Rattle.mau_leaves.specs.Steps.{Gives, IsOver, Passes, Before as First, Throughout}
use Rattle.mau_leaves.specs.Uses.{Use, behind, solutions_as, uses_among, uses_by, IsLeft}
use Rattle.mau_leaves.specs.Answers.{IsDueBy}
use Rattle.mau_leaves.specs.Searches.{stand_of, IsSearch, IsTurn, IsNextOne}
use Rattle.mau_leaves.specs.Subterms.{terms_after, uses_in, IsOpenSubject, left_of_terms, left_of_uses, left_of_spot, left_of_subterms, IsAtUses, IsSpot, IsSubtermSearch}
use Rattle.mau_leaves.specs.declared.turn.Turn.TheVariants.{Found}
use Rattle.mau_leaves.specs.declared.uses.RuleUses.{RuleUses}
use Rattle.mau_leaves.specs.declared.subterms.Spot.{Spot}
use Rattle.mau_leaves.specs.declared.subterms.Spot.TheVariants.{Before, At, Behind}
use Rattle.mau_leaves.specs.declared.subterms.SubtermUses.{SubtermUses}
use Rattle.mau_leaves.proofs.Behind.{all_of_them}
use Rattle.mau_leaves.proofs.Searching.{search_grown, left_same}
use Rattle.mau_leaves.proofs.Steps.{through_always, first_gives, first_passes, first_over, first_due}
use Rattle.mau_leaves.proofs.Subtrees.{subject_grown, subject_same, after_same}
use Rattle.mau_cond.proofs.Grown.{each, value_grown, bound_grown}

module _ {K : Type 0} (asked : K → Asked) (given : K → Option Listed.Solution) (p : Typed.Program) (hooks : List Operator) (rule : Written.Rule) (v : Bool) (bound : List (VarId × TermId)) where
  abbrev P : Program
  P = program_over p hooks

  abbrev q : Rule
  q = rule_of rule

  abbrev σ : List Node → Binding
  σ nodes = binding_in nodes bound

  abbrev own : List Node → RuleUses K → Engine → Answers Use → Type 0
  own nodes u = left_of_uses asked given p hooks rule nodes u

  abbrev left : List Node → Bool → List Open → Spot K → Engine → Answers Use → Type 0
  left nodes below way k = left_of_spot asked given p hooks rule v bound nodes below way k

  -- ---- the uses at a term are begun

  module _ (nodes : List Node) (below : Bool) (way : List Open) (id : TermId) (u : RuleUses K) (none : given u.listing ≡ None) (subject : asked u.listing ≡ asks (tree_of rule.left) u.bound.items id) (own_bound : u.bound.items ≡ bound) (own_whole : u.whole ≡ v) where
    begun : (λ (L : Engine). IsLeft P L v q (σ nodes) (tree_at nodes id.0) (behind None)) ≡ own nodes u
    begun = λ i L. IsLeft P L (sym own_whole i) q (binding_in nodes (sym own_bound i)) (tree_at nodes (sym subject i).subject.0) (stand_of nodes (sym none i) u.standing)

    pub begins_spot : (k : Spot K) → k ≡ Before id → Throughout (engine_of (program_over p hooks)) (left_of_spot asked given p hooks rule v bound nodes below way k) (λ L.
        Passes (left_of_spot asked given p hooks rule v bound nodes below way k L) (left_of_spot asked given p hooks rule v bound nodes below way (At id u) L))
    begins_spot k at =
        subst (λ (z : Spot K). Throughout (engine_of P) (left nodes below way z) (λ L. Passes (left nodes below way z L) (left nodes below way (At id u) L))) (sym at)
        (through_always (engine_of P) (left nodes below way (Before id)) {H = λ L. Passes (left nodes below way (Before id) L) (left nodes below way (At id u) L)}
        (λ L r e. (
          uses_by P L v q (σ nodes) (tree_at nodes id.0),
          subst (λ (f : Engine → Answers Use → Type 0). f L (uses_by P L v q (σ nodes) (tree_at nodes id.0))) begun
              (sym (ap (uses_among P L q (σ nodes)) (all_of_them (compare P.sign.theory q.left) (solutions_as P v q (tree_at nodes id.0))))),
          e,
        )))

  -- ---- the uses at a term, as they are gone through

  module _ (old new : List Node) (below : Bool) (way : List Open) (id : TermId) (values : binding_in new bound ≡ binding_in old bound) (same : terms_after below new way (tree_at new id.0) 0 ≡ terms_after below old way (tree_at old id.0) 0) (u w : RuleUses K) (b : ℕ)
      (o : Option Use) where
    abbrev rest : Engine → Answers Use
    rest L = uses_in P L v q (σ old) (terms_after below old way (tree_at old id.0) 0)

    is : (λ (L : Engine). First (rest L) (own new w L)) ≡ left new below way (At id w)
    is = λ i L. First (uses_in P L v q (sym values i) (sym same i)) (own new w L)

    then : (λ (L : Engine) (r : Answers Use). r ≡ rest L) ≡ left new below way (Behind (record { term = id; next = 0 }))
    then = λ i L r. r ≡ uses_in P L v q (sym values i) (sym same i)

    pub found_spot : (k : Spot K) → k ≡ At id u → IsNextOne (program_over p hooks) b (left_of_uses asked given p hooks rule old u) (left_of_uses asked given p hooks rule new w) o (Ok true) →
        IsTurn (program_over p hooks) b (left_of_spot asked given p hooks rule v bound old below way k) (left_of_spot asked given p hooks rule v bound new below way (At id w)) o (Ok Found)
    found_spot k at (x, e, h) = (
      x,
      e,
      subst (λ (z : Spot K). Throughout (engine_of P) (left old below way z) (λ L. Gives (left old below way z L) x (left new below way (At id w) L))) (sym at)
          (subst (λ (f : Engine → Answers Use → Type 0). Throughout (engine_of P) (λ L. First (rest L) (own old u L)) (λ L. Gives (First (rest L) (own old u L)) x (f L))) is
          (first_gives (engine_of P) rest (own old u) (own new w) x h)),
    )

    pub over_spot : (k : Spot K) → k ≡ At id u → IsNextOne (program_over p hooks) b (left_of_uses asked given p hooks rule old u) (left_of_uses asked given p hooks rule new w) o (Ok false) →
        Throughout (engine_of (program_over p hooks)) (left_of_spot asked given p hooks rule v bound old below way k) (λ L.
        Passes (left_of_spot asked given p hooks rule v bound old below way k L) (left_of_spot asked given p hooks rule v bound new below way (Behind (record { term = id; next = 0 })) L))
    over_spot k at h =
        subst (λ (z : Spot K). Throughout (engine_of P) (left old below way z) (λ L. Passes (left old below way z L) (left new below way (Behind (record { term = id; next = 0 })) L))) (sym at)
        (subst (λ (f : Engine → Answers Use → Type 0). Throughout (engine_of P) (λ L. First (rest L) (own old u L)) (λ L. Passes (First (rest L) (own old u L)) (f L))) then
        (first_over (engine_of P) rest (own old u) (own old u) h))

    pub ends_spot : (k : Spot K) → k ≡ At id u → (e : EvalEnd) → IsNextOne (program_over p hooks) b (left_of_uses asked given p hooks rule old u) (left_of_uses asked given p hooks rule new w) o (Err e) →
        IsTurn (program_over p hooks) b (left_of_spot asked given p hooks rule v bound old below way k) (left_of_spot asked given p hooks rule v bound new below way (At id w)) o (Err e)
    ends_spot k at e (h, d) = (
      subst (λ (z : Spot K). Throughout (engine_of P) (left old below way z) (λ L. Passes (left old below way z L) (left new below way (At id w) L))) (sym at)
          (subst (λ (f : Engine → Answers Use → Type 0). Throughout (engine_of P) (λ L. First (rest L) (own old u L)) (λ L. Passes (First (rest L) (own old u L)) (f L))) is
          (first_passes (engine_of P) rest (own old u) (own new w) h)),
      subst (λ (z : Spot K). IsDueBy P b (left old below way z) e) (sym at) (first_due P b rest (own old u) e d),
    )

  -- ---- from one term to the next

  module _ (nodes : List Node) where
    -- the same terms are left
    moves : (now after : List Tree) → now ≡ after →
        Throughout (engine_of P) (left_of_terms p hooks rule v bound nodes now) (λ L. Passes (left_of_terms p hooks rule v bound nodes now L) (left_of_terms p hooks rule v bound nodes after L))
    moves now after same =
        through_always (engine_of P) (left_of_terms p hooks rule v bound nodes now) {H = λ L. Passes (left_of_terms p hooks rule v bound nodes now L) (left_of_terms p hooks rule v bound nodes after L)}
        (λ L r e. e ∙ ap (uses_in P L v q (σ nodes)) same)

    module _ (below : Bool) (way : List Open) (o : Open) (k : Spot K) (at : k ≡ Behind o) where
      pub enters_spot : (next : List Open) (id : TermId) → terms_after below nodes way (tree_at nodes o.term.0) o.next ≡ tree_at nodes id.0 ∷ terms_after below nodes next (tree_at nodes id.0) 0 →
          Throughout (engine_of (program_over p hooks)) (left_of_spot asked given p hooks rule v bound nodes below way k) (λ L.
          Passes (left_of_spot asked given p hooks rule v bound nodes below way k L) (left_of_spot asked given p hooks rule v bound nodes below next (Before id) L))
      enters_spot next id same =
          subst (λ (z : Spot K). Throughout (engine_of P) (left nodes below way z) (λ L. Passes (left nodes below way z L) (left nodes below next (Before id) L))) (sym at)
          (moves (terms_after below nodes way (tree_at nodes o.term.0) o.next) (tree_at nodes id.0 ∷ terms_after below nodes next (tree_at nodes id.0) 0) same)

      pub leaves_spot : (next : List Open) (around : Open) → terms_after below nodes way (tree_at nodes o.term.0) o.next ≡ terms_after below nodes next (tree_at nodes around.term.0) around.next →
          Throughout (engine_of (program_over p hooks)) (left_of_spot asked given p hooks rule v bound nodes below way k) (λ L.
          Passes (left_of_spot asked given p hooks rule v bound nodes below way k L) (left_of_spot asked given p hooks rule v bound nodes below next (Behind around) L))
      leaves_spot next around same =
          subst (λ (z : Spot K). Throughout (engine_of P) (left nodes below way z) (λ L. Passes (left nodes below way z L) (left nodes below next (Behind around) L))) (sym at)
          (moves (terms_after below nodes way (tree_at nodes o.term.0) o.next) (terms_after below nodes next (tree_at nodes around.term.0) around.next) same)

      pub no_spot : terms_after below nodes way (tree_at nodes o.term.0) o.next ≡ [] →
          Throughout (engine_of (program_over p hooks)) (left_of_spot asked given p hooks rule v bound nodes below way k) (λ L. IsOver (left_of_spot asked given p hooks rule v bound nodes below way k L))
      no_spot none =
          subst (λ (z : Spot K). Throughout (engine_of P) (left nodes below way z) (λ L. IsOver (left nodes below way z L))) (sym at)
          (through_always (engine_of P) (left nodes below way (Behind o)) {H = λ L. IsOver (left nodes below way (Behind o) L)} (λ L r e. e ∙ ap (uses_in P L v q (σ nodes)) none))

    pub stays_spot : (below : Bool) (way : List Open) (k : Spot K) (next : List Open) → next ≡ way →
        Throughout (engine_of (program_over p hooks)) (left_of_spot asked given p hooks rule v bound nodes below way k) (λ L.
        Passes (left_of_spot asked given p hooks rule v bound nodes below way k L) (left_of_spot asked given p hooks rule v bound nodes below next k L))
    stays_spot below way k next same =
        through_always (engine_of P) (left nodes below way k) {H = λ L. Passes (left nodes below way k L) (left nodes below next k L)} (λ L r e. subst (λ (w : List Open). left nodes below w k L r) (sym same) e)

-- ---- in a store that has grown

module _ {K : Type 0} (asked : K → Asked) (given : K → Option Listed.Solution) (is_for : K → SignatureOf → Type 0) (c : Bool) (p : Typed.Program) (m : Meanings) (rule : Written.Rule) (old new : List Node) (before after : Table) (extends : Extends old new)
    (kept : KeepsEntries before after) (over : AreOver p.sig.hierarchy after) where
  pub uses_then : (bound : List (VarId × TermId)) (id : TermId) (u w : RuleUses K) → IsAtUses asked given is_for c p m rule bound old before id u → IsSearch c p m rule w.bound.items new after (asked w.listing) (given w.listing) w.standing →
      w.bound ≡ u.bound → is_for w.listing p.sig → IsAtUses asked given is_for c p m rule bound new after id w
  uses_then bound id u w h search same signature =
      record { term = subject_grown p old new before after extends kept id.0 h.term; search = search; bound_so = ap (λ (z : Vec (VarId × TermId) Global). z.items) same ∙ h.bound_so; signature = signature }

  pub way_then : (way : List Open) → All (IsOpenSubject p.sig old before) way → All (IsOpenSubject p.sig new after) way
  way_then way h = each (IsOpenSubject p.sig old before) (IsOpenSubject p.sig new after) (λ o i. subject_grown p old new before after extends kept o.term.0 i) way h

  pub values_then : (bound : List (VarId × TermId)) → All (IsValueOf p.sig old before) bound → All (IsValueOf p.sig new after) bound
  values_then bound h = each (IsValueOf p.sig old before) (IsValueOf p.sig new after) (value_grown p.sig old new before after extends kept) bound h

  pub values_same : (bound : List (VarId × TermId)) → All (IsValueOf p.sig old before) bound → binding_in new bound ≡ binding_in old bound
  values_same bound h = bound_grown p.sig old new before after extends kept bound h

  spot_grown : (bound : List (VarId × TermId)) (k : Spot K) → IsSpot asked given is_for c p m rule bound old before k → IsSpot asked given is_for c p m rule bound new after k
  spot_grown bound (Before id) h = subject_grown p old new before after extends kept id.0 h
  spot_grown bound (At id u) h = record {
    term = subject_grown p old new before after extends kept id.0 h.term;
    search = search_grown p old new before after extends kept m rule u.bound.items c (asked u.listing) (given u.listing) u.standing over h.search;
    bound_so = h.bound_so;
    signature = h.signature;
  }
  spot_grown bound (Behind o) h = subject_grown p old new before after extends kept o.term.0 h

  pub subterms_grown : (s : SubtermUses K) → IsSubtermSearch asked given is_for c p m rule old before s → IsSubtermSearch asked given is_for c p m rule new after s
  subterms_grown s h = record { usable = h.usable; values = values_then s.bound.items h.values; spot = spot_grown s.bound.items s.spot h.spot; way = way_then s.way.items h.way }

  module _ (v : Bool) (bound : List (VarId × TermId)) (values : All (IsValueOf p.sig old before) bound) (below : Bool) (way : List Open) (ways : All (IsOpenSubject p.sig old before) way) where
    left_spot_same : (k : Spot K) → IsSpot asked given is_for c p m rule bound old before k → left_of_spot asked given p m.hooks rule v bound new below way k ≡ left_of_spot asked given p m.hooks rule v bound old below way k
    left_spot_same (Before id) h =
        let t = subject_same p old new before after extends kept id.0 h in
        let ts = after_same p old new before after extends kept below way ways id.0 h 0 in
        let vs = values_same bound values in
        λ i L r. r ≡ uses_in (program_over p m.hooks) L v (rule_of rule) (vs i) (t i ∷ ts i)
    left_spot_same (At id u) h =
        let ts = after_same p old new before after extends kept below way ways id.0 h.term 0 in
        let vs = values_same bound values in
        let us = left_same p old new before after extends kept m rule u.bound.items c (asked u.listing) u.whole (given u.listing) u.standing h.search in
        λ i L. First (uses_in (program_over p m.hooks) L v (rule_of rule) (vs i) (ts i)) (us i L)
    left_spot_same (Behind o) h =
        let ts = after_same p old new before after extends kept below way ways o.term.0 h o.next in
        let vs = values_same bound values in
        λ i L r. r ≡ uses_in (program_over p m.hooks) L v (rule_of rule) (vs i) (ts i)

  pub left_subterms_same : (s : SubtermUses K) → IsSubtermSearch asked given is_for c p m rule old before s → left_of_subterms asked given p m.hooks rule new s ≡ left_of_subterms asked given p m.hooks rule old s
  left_subterms_same s h = left_spot_same s.whole s.bound.items h.values s.below s.way.items h.way s.spot h.spot
