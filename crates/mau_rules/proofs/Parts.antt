-- Parts of a run of rules that are told, and what was told of the terms that are open in a pass.
use Rattle.std.proofs.Common.{◌≡◌, ℕ, zero, suc, ◌+◌, ◌-◌, ◌^◌, min, List, [], ◌∷◌, ◌++◌, map, Bool, true, Some, Result, Ok, Err, IfOk, slice_get, refl, sym, ap, ap₂, ◌∙◌, subst, arith, append_assoc, append-nil, add-zero}
use Rattle.std.proofs.Math.ListN.{set}
use Rattle.std.proofs.lemmas.List.{map-append, map-set}
use Rattle.std.proofs.lemmas.List.Elements.{All-append, All-cons, All-nil}
use Rattle.mau_terms.specs.Tree.{Tree, variable, numeral, apply, Trees, node, trees_of, list_of}
use Rattle.mau_terms.specs.Norm.{norm, build}
use Rattle.mau_terms.specs.Bare.{IsLawful}
use Rattle.mau_terms.specs.Laws.{AreNorms}
use Rattle.mau_terms.specs.declared.ids.TermId.{TermId}
use Rattle.mau_terms.specs.declared.theory.Theory.{Theory}
use Rattle.mau_terms.proofs.Induction.{norm-node}
use Rattle.mau_terms.proofs.Pieces.{trees_of-list_of, list_of-trees_of}
use Rattle.mau_signature.specs.Signature.{SignatureOf, theory_at, terms_over}
use Rattle.mau_formula.specs.Operator.{Operator}
use Rattle.mau_store.specs.Node.{Node, numeral_node, variable_node, operator_node, IsOf, AreNodes, Extends}
use Rattle.mau_store.specs.Trees.{tree_at, trees_at}
use Rattle.mau_store.specs.View.{numbers}
use Rattle.mau_store.proofs.Standing.{tree_of_node, tree_at-extends}
use Rattle.mau_sorts.specs.Table.{Table, KeepsEntries}
use Rattle.mau_sorts.proofs.Settling.{kept_same}
use Rattle.mau_listing.specs.Asked.{HasEntry}
use Rattle.mau_listing.proofs.Growth.{entry_kept}
use Rattle.mau_program.specs.declared.program.Program as Typed
use Rattle.mau_evaluation.proofs.Listed.{norms_itself}
use Rattle.mau_api.specs.Events.{Event, entered, left}
use Rattle.mau_api.specs.Terms.{IsNormalTerm}
use Rattle.mau_api.specs.Meanings.{Meanings}
use Rattle.mau_api.specs.declared.step.Place.TheVariants.{Whole, Argument}
use Rattle.mau_api.specs.Told.{Told, enters, leaves, told_in, BeginsNoRound, Leads, stands, on_whole, on_arguments, LeadsIn, all_stand, in_one, StandsIn, IsToldRun, steps_in, shown_count}
use Rattle.mau_api.proofs.ToldRuns.{events_same, events_stand, leads_more, round_goes_on, runs_go_on, runs_stay, steps-append}
use Rattle.mau_reduce.proofs.KindsKept.{norms_of, tree_kept, trees_kept}
use Rattle.mau_reduce.proofs.Stepped.{term_told}
use Rattle.mau_rules.specs.declared.frames.Frame.{Frame}
use Rattle.mau_rules.specs.Walk.{Opened, MayReplace}
use Rattle.mau_rules.specs.Passes.{over, frame_in, IsFrame, IsEntered, IsChain}
use Rattle.mau_rules.specs.Telling.{TellsBehind, TellsRules, Adds, TellsPart, first_term, RoundFrom, TellsRound, TellsReached, TellsOpen, TellsWithin, TellsPass}
use Rattle.mau_rules.proofs.Placed.{get_there}
use Rattle.mau_rules.proofs.Told.{behind_same, behind_on, begins_on}
use Rattle.mau_rules.proofs.OpenTerms.{frame_kept, frame_same, chain_kept, chain_before, chain_step}
use Rattle.mau_rules.proofs.Uses.{shown_sum}

-- ---- results

pub both_ok : {X E : Type 0} (r : Result X E) (P Q R : X → Type 0) → ((x : X) → P x → Q x → R x) → IfOk r P → IfOk r Q → IfOk r R
both_ok (Ok x) P Q R f h k = f x h k
both_ok (Err e) P Q R f h k = tt

-- ---- counts

pub adds_none : (before : ℕ) → Adds before before 0
adds_none before k e = e ∙ ap shown_count (plain k)
  where
    plain : (n : ℕ) → n ≡ n + 0
    plain n = omega arith

pub adds_on : (p q r n m : ℕ) → Adds p q n → Adds q r m → Adds p r (n + m)
adds_on p q r n m f g k e = g (k + n) (f k e) ∙ ap shown_count (same k n m)
  where
    same : (k n m : ℕ) → (k + n) + m ≡ k + (n + m)
    same k n m = omega arith

pub adds_shown : (p r s n : ℕ) → s ≡ min (p + r) (2 ^ 64 - 1) → r ≡ shown_count n → Adds p s n
adds_shown p r s n sum e k f = shown_sum s p r k n sum f e

-- ---- parts

module _ (p : Typed.Program) (hooks : List Operator) where
  pub part_none : (nodes : List Node) (table : Table) (a : List Event) (t : Tree) (b : ℕ) → TellsPart p hooks nodes table a a t t b b
  part_none nodes table a t b = record { events = []; told = sym (append-nil a); begins = tt; run = record { stand = All-nil (StandsIn nodes); leads = stands }; adds = adds_none b }

  pub part_of : (nodes : List Node) (table : Table) (a c : List Event) (t u : Tree) (b r s : ℕ) → s ≡ min (b + r) (2 ^ 64 - 1) → TellsRules p hooks nodes table a c t u r → TellsPart p hooks nodes table a c t u b s
  part_of nodes table a c t u b r s sum h = record { events = h.events; told = h.told; begins = h.begins; run = h.run; adds = adds_shown b r s (steps_in h.events) sum h.count }

  -- from no steps on
  pub part_whole : (nodes : List Node) (table : Table) (a c : List Event) (t u : Tree) (r : ℕ) → TellsPart p hooks nodes table a c t u 0 r → TellsRules p hooks nodes table a c t u r
  part_whole nodes table a c t u r h = record { events = h.events; told = h.told; begins = h.begins; run = h.run; count = h.adds 0 refl ∙ ap shown_count (plain (steps_in h.events)) }
    where
      plain : (n : ℕ) → 0 + n ≡ n
      plain n = omega arith

  pub part_on : (nodes : List Node) (table : Table) (a b c : List Event) (t u v : Tree) (x y z : ℕ) → TellsPart p hooks nodes table a b t u x y → TellsPart p hooks nodes table b c u v y z → TellsPart p hooks nodes table a c t v x z
  part_on nodes table a b c t u v x y z h k = record {
    events = h.events ++ k.events;
    told = k.told ∙ (ap (λ es. es ++ k.events) h.told ∙ append_assoc a h.events k.events);
    begins = begins_on nodes h.events k.events h.begins k.begins;
    run = runs_go_on p hooks nodes table true t u v h.events k.events h.run k.begins k.run;
    adds = subst (Adds x z) (sym (steps-append h.events k.events)) (adds_on x y z (steps_in h.events) (steps_in k.events) h.adds k.adds);
  }

  pub part_stays : (old new : List Node) (before after : Table) → Extends old new → KeepsEntries before after → (a b : List Event) (t u : Tree) (x y : ℕ) → TellsPart p hooks old before a b t u x y → TellsPart p hooks new after a b t u x y
  part_stays old new before after grows kept a b t u x y h = record {
    events = h.events;
    told = h.told;
    begins = subst BeginsNoRound (sym (events_same old new grows h.events h.run.stand)) h.begins;
    run = runs_stay p hooks old new before after grows kept true t h.events u h.run;
    adds = h.adds;
  }

pub part_as : (p : Typed.Program) (m n : Meanings) → n ≡ m → (nodes : List Node) (table : Table) (a b : List Event) (t u : Tree) (x y : ℕ) → TellsPart p n.hooks nodes table a b t u x y → TellsPart p m.hooks nodes table a b t u x y
part_as p m n e nodes table a b t u x y h = subst (λ (z : Meanings). TellsPart p z.hooks nodes table a b t u x y) e h

-- what was told since some point: where steps are wanted a part of a run
pub record IsPartSo (p : Typed.Program) (hooks : List Operator) (wanted : Bool) (nodes : List Node) (table : Table) (old new : List Event) (t u : Tree) (before now : ℕ) : Type 0 where
  pub behind : TellsBehind wanted old new
  pub part : wanted ≡ true → TellsPart p hooks nodes table old new t u before now

pub parts_none : (p : Typed.Program) (hooks : List Operator) (w : Bool) (nodes : List Node) (table : Table) (a : List Event) (t : Tree) (b : ℕ) → IsPartSo p hooks w nodes table a a t t b b
parts_none p hooks w nodes table a t b = record { behind = behind_same w a; part = λ i. part_none p hooks nodes table a t b }

-- nothing more is told
pub parts_still : (p : Typed.Program) (hooks : List Operator) (w : Bool) (now new : List Node) (before after : Table) → Extends now new → KeepsEntries before after → (a b c : List Event) → c ≡ b → (t u x : Tree) → x ≡ u → (q r : ℕ) →
    IsPartSo p hooks w now before a b t u q r → IsPartSo p hooks w new after a c t x q r
parts_still p hooks w now new before after grows kept a b c d t u x e q r h =
    subst (λ es. IsPartSo p hooks w new after a es t x q r) (sym d) (subst (λ y. IsPartSo p hooks w new after a b t y q r) (sym e) (record {
      behind = h.behind;
      part = λ i. part_stays p hooks now new before after grows kept a b t u q r (h.part i);
    }))

-- a further part, for an evaluator that goes by the same meanings and a watcher that wants the same
pub parts_on : (p : Typed.Program) (m n : Meanings) → n ≡ m → (v w : Bool) → v ≡ w → (now new : List Node) (before after : Table) → Extends now new → KeepsEntries before after → (a b c : List Event) (t u x : Tree) (q r s : ℕ) →
    IsPartSo p m.hooks w now before a b t u q r → TellsBehind v b c → (v ≡ true → TellsPart p n.hooks new after b c u x r s) → IsPartSo p m.hooks w new after a c t x q s
parts_on p m n e v w d now new before after grows kept a b c t u x q r s h k f = record {
  behind = behind_on v w a b c d h.behind k;
  part = λ i. part_on p m.hooks new after a b c t u x q r s (part_stays p m.hooks now new before after grows kept a b t u q r (h.part i)) (part_as p m n e new after b c u x r s (f (d ∙ i)));
}

-- ---- a round, and the term that is built again over its arguments

module _ (p : Typed.Program) (hooks : List Operator) (nodes : List Node) (table : Table) where
  abbrev Has : ℕ → Tree → Type 0
  Has = HasEntry p.sig nodes table

  abbrev th : ℕ → Theory
  th = theory_at p.sig

  module _ (lawful : IsLawful (terms_over p.sig)) where
    round_over : (t : Tree) (us : List Tree) (xs ys : List Told) (v : Tree) → RoundFrom p hooks nodes table t xs us → norm th t ≡ t → ((f : ℕ) (ts : Trees) → t ≡ apply f ts → AreNorms th us) → IsNormalTerm p.sig (norm th (over t us)) →
        BeginsNoRound ys → Leads p hooks Has true (norm th (over t us)) ys v → Leads p hooks Has true t (xs ++ ys) v
    round_over (apply f ts) us xs ys v h normal norms is b l =
        let same : norm th (node f us) ≡ build (th f) f us = norm-node th f us ∙ ap (build (th f) f) (norms_itself th lawful.theories us (norms f ts refl)) in
        subst (λ zs. Leads p hooks Has true (apply f zs) (xs ++ ys) v) (trees_of-list_of ts)
        (on_arguments h (subst (IsNormalTerm p.sig) same is) b (subst (λ t. Leads p hooks Has true t ys v) same l))
    round_over (variable i r) us xs ys v h normal norms is b l = subst (λ zs. Leads p hooks Has true (variable i r) (zs ++ ys) v) (sym h) l
    round_over (numeral n) us xs ys v h normal norms is b l = subst (λ zs. Leads p hooks Has true (numeral n) (zs ++ ys) v) (sym h) l

    frame_norms : AreNodes nodes → (x : Frame) → IsFrame p.sig nodes x → (f : ℕ) (ts : Trees) → tree_at nodes x.term.0 ≡ apply f ts → AreNorms th (trees_at nodes (numbers x.args.items))
    frame_norms are x is f ts e = let here = get_there nodes x.term.0 is.term.within.there in by here.0 here.1
      where
        by : (n : Node) → slice_get nodes x.term.0 ≡ Some n → AreNorms th (trees_at nodes (numbers x.args.items))
        by (numeral_node m) at = let same : numeral m ≡ apply f ts = sym (tree_of_node nodes are x.term.0 (numeral_node m) at) ∙ e in cc
        by (variable_node i r) at = let same : variable i r ≡ apply f ts = sym (tree_of_node nodes are x.term.0 (variable_node i r) at) ∙ e in cc
        by (operator_node g ids) at = norms_of th nodes (numbers x.args.items) (is.under g ids at).within

    -- what was told of an open term, and then of the term that is built again
    pub round_done : AreNodes nodes → (x : Frame) → IsFrame p.sig nodes x → (es ys : List Event) (v : Tree) → IsNormalTerm p.sig (norm th (frame_in nodes x).0) → TellsRound p hooks nodes table x es →
        BeginsNoRound (map (told_in nodes) ys) → IsToldRun p hooks nodes table true (norm th (frame_in nodes x).0) ys v → IsToldRun p hooks nodes table true (tree_at nodes x.term.0) (es ++ ys) v
    round_done are x is es ys v normal h b r = record {
      stand = All-append (StandsIn nodes) es ys h.stand r.stand;
      leads = subst (λ zs. Leads p hooks Has true (tree_at nodes x.term.0) zs v) (sym (map-append (told_in nodes) es ys))
          (round_over (tree_at nodes x.term.0) (trees_at nodes (numbers x.args.items)) (map (told_in nodes) es) (map (told_in nodes) ys) v h.round is.term.within.normal (frame_norms are x is) normal b r.leads);
    }

  -- ---- terms that are open

  pub open_more : (Q R : List Event → Type 0) (t : TermId) (ys : List Event) → ((es : List Event) → Q es → R (es ++ ys)) → (xs : List Frame) (es : List Event) → TellsOpen p hooks nodes table Q t xs es → TellsOpen p hooks nodes table R t xs (es ++ ys)
  open_more Q R t ys f [] es h = f es h
  open_more Q R t ys f (x ∷ xs) es (round, inner, e, r, o) = (
    round,
    inner ++ ys,
    ap (λ zs. zs ++ ys) e ∙ append_assoc round (entered (first_term xs t) (Argument (x.next - 1)) ∷ inner) ys,
    r,
    open_more Q R t ys f xs inner o,
  )

  pub first_push : (xs : List Frame) (y : Frame) (t : TermId) → first_term (xs ++ y ∷ []) t ≡ first_term xs y.term
  first_push [] y t = refl
  first_push (x ∷ xs) y t = refl

  round_again : (x y : Frame) → y.term ≡ x.term → y.args.items ≡ x.args.items → (es : List Event) → TellsRound p hooks nodes table x es → TellsRound p hooks nodes table y es
  round_again x y t a es h = record {
    stand = h.stand;
    round = subst (λ (i : TermId). RoundFrom p hooks nodes table (tree_at nodes i.0) (map (told_in nodes) es) (trees_at nodes (numbers y.args.items))) (sym t)
        (subst (λ (is : List TermId). RoundFrom p hooks nodes table (tree_at nodes x.term.0) (map (told_in nodes) es) (trees_at nodes (numbers is))) (sym a) h.round);
  }

  -- an argument of the innermost one is entered
  pub open_push : (R : List Event → Type 0) → R [] → (x y : Frame) → y.term ≡ x.term → y.args.items ≡ x.args.items → (child : TermId) (xs : List Frame) (es : List Event) → TellsOpen p hooks nodes table (TellsRound p hooks nodes table x) x.term xs es →
      TellsOpen p hooks nodes table R child (xs ++ y ∷ []) (es ++ entered child (Argument (y.next - 1)) ∷ [])
  open_push R none x y t a child [] es h = (es, [], refl, round_again x y t a es h, none)
  open_push R none x y t a child (z ∷ xs) es (round, inner, e, r, o) =
      let last = entered child (Argument (y.next - 1)) in
      let first = first_push xs y child ∙ ap (first_term xs) t in (
        round,
        inner ++ last ∷ [],
        ap (λ zs. zs ++ last ∷ []) e
            ∙ (append_assoc round (entered (first_term xs x.term) (Argument (z.next - 1)) ∷ inner) (last ∷ [])
            ∙ ap (λ (i : TermId). round ++ entered i (Argument (z.next - 1)) ∷ (inner ++ last ∷ [])) (sym first)),
        r,
        open_push R none x y t a child xs inner o,
      )

  get_mapped : {A B : Type 0} (f : A → B) (xs : List A) (i : ℕ) (x : A) → slice_get xs i ≡ Some x → slice_get (map f xs) i ≡ Some (f x)
  get_mapped f [] i x e = cc
  get_mapped f (y ∷ xs) zero x e = let same : y ≡ x = cc in ap (λ z. Some (f z)) same
  get_mapped f (y ∷ xs) (suc i) x e = get_mapped f xs i x e

  -- one argument more, in a round
  round_put : AreNodes nodes → (x : Frame) (t v : TermId) → (e : IsEntered nodes x t.0) → IsOf nodes t.0 → IsOf nodes v.0 → (y : Frame) → y.term ≡ x.term → numbers y.args.items ≡ set (numbers x.args.items) e.place v.0 → (round inner : List Event) →
      TellsRound p hooks nodes table x round → TellsReached p hooks nodes table t v inner → TellsRound p hooks nodes table y (round ++ entered t (Argument (x.next - 1)) ∷ (inner ++ left v ∷ []))
  round_put are x t v e there value y same put round inner h r = record {
    stand = All-append (StandsIn nodes) round (entered t (Argument (x.next - 1)) ∷ (inner ++ left v ∷ [])) h.stand
        (All-cons (StandsIn nodes) (entered t (Argument (x.next - 1))) (inner ++ left v ∷ []) there
        (All-append (StandsIn nodes) inner (left v ∷ []) r.stand (All-cons (StandsIn nodes) (left v) [] value (All-nil (StandsIn nodes)))));
    round = subst (λ (i : TermId). RoundFrom p hooks nodes table (tree_at nodes i.0) whole (trees_at nodes (numbers y.args.items))) (sym same)
        (subst (λ ids. RoundFrom p hooks nodes table (tree_at nodes x.term.0) whole (trees_at nodes ids)) (sym put)
        (subst (λ u. RoundFrom p hooks nodes table u whole (trees_at nodes (set (numbers x.args.items) e.place v.0))) (sym tree)
        (subst (λ us. RoundFrom p hooks nodes table (apply e.operator (trees_of (trees_at nodes e.ids))) whole us) (sym (map-set (tree_at nodes) (numbers x.args.items) e.place v.0)) more)));
  }
    where
      tree : tree_at nodes x.term.0 ≡ apply e.operator (trees_of (trees_at nodes e.ids))
      tree = tree_of_node nodes are x.term.0 (operator_node e.operator e.ids) e.at

      whole : List Told
      whole = map (told_in nodes) (round ++ entered t (Argument (x.next - 1)) ∷ (inner ++ left v ∷ []))

      us : List Tree
      us = trees_at nodes (numbers x.args.items)

      us' : List Tree
      us' = set us e.place (tree_at nodes v.0)

      before : LeadsIn p hooks Has true (list_of (trees_of (trees_at nodes e.ids))) (map (told_in nodes) round) us
      before = subst (λ u. RoundFrom p hooks nodes table u (map (told_in nodes) round) us) tree h.round

      place : x.next - 1 ≡ e.place
      place = omega (arith, e.next)

      one : LeadsIn p hooks Has true us (enters (tree_at nodes t.0) (Argument (x.next - 1)) ∷ map (told_in nodes) inner ++ leaves (tree_at nodes v.0) ∷ []) us'
      one = subst (λ i. LeadsIn p hooks Has true us (enters (tree_at nodes t.0) (Argument i) ∷ map (told_in nodes) inner ++ leaves (tree_at nodes v.0) ∷ []) us') (sym place)
          (in_one e.place (get_mapped (tree_at nodes) (numbers x.args.items) e.place t.0 e.argument) r.leads all_stand)

      is_whole : whole ≡ map (told_in nodes) round ++ (enters (tree_at nodes t.0) (Argument (x.next - 1)) ∷ map (told_in nodes) inner ++ leaves (tree_at nodes v.0) ∷ [])
      is_whole =
          map-append (told_in nodes) round (entered t (Argument (x.next - 1)) ∷ (inner ++ left v ∷ []))
          ∙ ap (λ zs. map (told_in nodes) round ++ enters (tree_at nodes t.0) (Argument (x.next - 1)) ∷ zs) (map-append (told_in nodes) inner (left v ∷ []))

      more : LeadsIn p hooks Has true (list_of (trees_of (trees_at nodes e.ids))) whole us'
      more = subst (λ zs. LeadsIn p hooks Has true (list_of (trees_of (trees_at nodes e.ids))) zs us') (sym is_whole) (round_goes_on p hooks Has before one)

  -- it is left, with a value in its place
  pub open_pop : AreNodes nodes → (x : Frame) (t v : TermId) → (e : IsEntered nodes x t.0) → IsOf nodes t.0 → IsOf nodes v.0 → (y : Frame) → y.term ≡ x.term → numbers y.args.items ≡ set (numbers x.args.items) e.place v.0 → (xs : List Frame) (es : List Event) →
      TellsOpen p hooks nodes table (TellsReached p hooks nodes table t v) t (xs ++ x ∷ []) es → TellsOpen p hooks nodes table (TellsRound p hooks nodes table y) y.term xs (es ++ left v ∷ [])
  open_pop are x t v e there value y same put [] es (round, inner, d, r, o) =
      let whole : es ++ left v ∷ [] ≡ round ++ entered t (Argument (x.next - 1)) ∷ (inner ++ left v ∷ []) = ap (λ zs. zs ++ left v ∷ []) d ∙ append_assoc round (entered t (Argument (x.next - 1)) ∷ inner) (left v ∷ []) in
      subst (TellsRound p hooks nodes table y) (sym whole) (round_put are x t v e there value y same put round inner r o)
  open_pop are x t v e there value y same put (z ∷ xs) es (round, inner, d, r, o) =
      let first = first_push xs x t ∙ ap (first_term xs) (sym same) in (
        round,
        inner ++ left v ∷ [],
        ap (λ zs. zs ++ left v ∷ []) d
            ∙ (append_assoc round (entered (first_term (xs ++ x ∷ []) t) (Argument (z.next - 1)) ∷ inner) (left v ∷ [])
            ∙ ap (λ (i : TermId). round ++ entered i (Argument (z.next - 1)) ∷ (inner ++ left v ∷ [])) first),
        r,
        open_pop are x t v e there value y same put xs inner o,
      )

  -- ---- the same since a pass began

  steps_more : (es ys : List Event) (n m : ℕ) → steps_in es ≡ n → steps_in ys ≡ m → steps_in (es ++ ys) ≡ n + m
  steps_more es ys n m e d = steps-append es ys ∙ ap₂ (λ (a : ℕ) (b : ℕ). a + b) e d

  pub within_begins : (Q : List Event → Type 0) → Q [] → (t : TermId) (a b : List Event) → b ≡ a ++ entered t Whole ∷ [] → TellsWithin p hooks nodes table Q t [] a b 0
  within_begins Q none t a b e = record { events = []; told = e; opened = none; count = refl }

  pub within_more : (Q R : List Event → Type 0) (t : TermId) (xs : List Frame) (a b c ys : List Event) (n m : ℕ) → ((es : List Event) → Q es → R (es ++ ys)) → c ≡ b ++ ys → steps_in ys ≡ m → TellsWithin p hooks nodes table Q t xs a b n →
      TellsWithin p hooks nodes table R t xs a c (n + m)
  within_more Q R t xs a b c ys n m f e d h = record {
    events = h.events ++ ys;
    told = e ∙ (ap (λ zs. zs ++ ys) h.told ∙ append_assoc a (entered (first_term xs t) Whole ∷ h.events) ys);
    opened = open_more Q R t ys f xs h.events h.opened;
    count = steps_more h.events ys n m h.count d;
  }

  pub within_push : (R : List Event → Type 0) → R [] → (x y : Frame) → y.term ≡ x.term → y.args.items ≡ x.args.items → (child : TermId) (xs : List Frame) (a b c : List Event) (n : ℕ) → c ≡ b ++ entered child (Argument (y.next - 1)) ∷ [] →
      TellsWithin p hooks nodes table (TellsRound p hooks nodes table x) x.term xs a b n → TellsWithin p hooks nodes table R child (xs ++ y ∷ []) a c n
  within_push R none x y t a' child xs a b c n e h =
      let last = entered child (Argument (y.next - 1)) in
      record {
        events = h.events ++ last ∷ [];
        told = e
            ∙ (ap (λ zs. zs ++ last ∷ []) h.told
            ∙ (append_assoc a (entered (first_term xs x.term) Whole ∷ h.events) (last ∷ [])
            ∙ ap (λ (i : TermId). a ++ entered i Whole ∷ (h.events ++ last ∷ [])) (sym (first_push xs y child ∙ ap (first_term xs) t))));
        opened = open_push R none x y t a' child xs h.events h.opened;
        count = steps_more h.events (last ∷ []) n 0 h.count refl ∙ add-zero n;
      }

  pub within_pop : AreNodes nodes → (x : Frame) (t v : TermId) → (e : IsEntered nodes x t.0) → IsOf nodes t.0 → IsOf nodes v.0 → (y : Frame) → y.term ≡ x.term → numbers y.args.items ≡ set (numbers x.args.items) e.place v.0 → (xs : List Frame) (a b c : List Event) (n : ℕ) →
      c ≡ b ++ left v ∷ [] → TellsWithin p hooks nodes table (TellsReached p hooks nodes table t v) t (xs ++ x ∷ []) a b n → TellsWithin p hooks nodes table (TellsRound p hooks nodes table y) y.term xs a c n
  within_pop are x t v e there value y same put xs a b c n d h = record {
    events = h.events ++ left v ∷ [];
    told = d
        ∙ (ap (λ zs. zs ++ left v ∷ []) h.told
        ∙ (append_assoc a (entered (first_term (xs ++ x ∷ []) t) Whole ∷ h.events) (left v ∷ [])
        ∙ ap (λ (i : TermId). a ++ entered i Whole ∷ (h.events ++ left v ∷ [])) (first_push xs x t ∙ ap (first_term xs) (sym same))));
    opened = open_pop are x t v e there value y same put xs h.events h.opened;
    count = steps_more h.events (left v ∷ []) n 0 h.count refl ∙ add-zero n;
  }

  -- the outermost one is left
  pub within_end : (t v : TermId) (a b c : List Event) (n : ℕ) → c ≡ b ++ left v ∷ [] → TellsWithin p hooks nodes table (TellsReached p hooks nodes table t v) t [] a b n → TellsPass p hooks nodes table t v a c n
  within_end t v a b c n e h = record {
    events = h.events;
    told = e ∙ (ap (λ zs. zs ++ left v ∷ []) h.told ∙ append_assoc a (entered t Whole ∷ h.events) (left v ∷ []));
    reached = h.opened;
    count = h.count;
  }

  pub pass_part : (t v : TermId) (a b : List Event) (n x y : ℕ) → IsOf nodes t.0 → IsOf nodes v.0 → TellsPass p hooks nodes table t v a b n → Adds x y n → TellsPart p hooks nodes table a b (tree_at nodes t.0) (tree_at nodes v.0) x y
  pass_part t v a b n x y there value h adds = record {
    events = entered t Whole ∷ (h.events ++ left v ∷ []);
    told = h.told;
    begins = tt;
    run = record {
      stand = All-cons (StandsIn nodes) (entered t Whole) (h.events ++ left v ∷ []) there
          (All-append (StandsIn nodes) h.events (left v ∷ []) h.reached.stand (All-cons (StandsIn nodes) (left v) [] value (All-nil (StandsIn nodes))));
      leads = subst (λ xs. Leads p hooks Has true (tree_at nodes t.0) (enters (tree_at nodes t.0) Whole ∷ xs) (tree_at nodes v.0)) (sym (map-append (told_in nodes) h.events (left v ∷ []))) (on_whole h.reached.leads stands);
    };
    adds = subst (Adds x y) (sym (steps_more h.events (left v ∷ []) n 0 h.count refl ∙ add-zero n)) adds;
  }

-- ---- in a store and a table of sorts that grow

module _ (p : Typed.Program) (hooks : List Operator) (old new : List Node) (grows : Extends old new) (before after : Table) (kept : KeepsEntries before after) where
  more : (r : ℕ) (t : Tree) → HasEntry p.sig old before r t → HasEntry p.sig new after r t
  more = entry_kept old new grows before after kept p.sig

  round_more : {ts us : List Tree} {xs : List Told} → LeadsIn p hooks (HasEntry p.sig old before) true ts xs us → LeadsIn p hooks (HasEntry p.sig new after) true ts xs us
  round_more all_stand = all_stand
  round_more (in_one i e a b) = in_one i e (leads_more p hooks (HasEntry p.sig old before) (HasEntry p.sig new after) more a) (round_more b)

  from_more : (t : Tree) (xs : List Told) (us vs : List Tree) → ((f : ℕ) (ts : Trees) → t ≡ apply f ts → vs ≡ us) → RoundFrom p hooks old before t xs us → RoundFrom p hooks new after t xs vs
  from_more (apply f ts) xs us vs e h = subst (LeadsIn p hooks (HasEntry p.sig new after) true (list_of ts) xs) (sym (e f ts refl)) (round_more h)
  from_more (variable i r) xs us vs e h = h
  from_more (numeral n) xs us vs e h = h

  module _ (are : AreNodes old) where
    frame_trees : (x : Frame) → IsFrame p.sig old x → (f : ℕ) (ts : Trees) → tree_at old x.term.0 ≡ apply f ts → trees_at new (numbers x.args.items) ≡ trees_at old (numbers x.args.items)
    frame_trees x is f ts e = let here = get_there old x.term.0 is.term.within.there in by here.0 here.1
      where
        by : (n : Node) → slice_get old x.term.0 ≡ Some n → trees_at new (numbers x.args.items) ≡ trees_at old (numbers x.args.items)
        by (numeral_node m) at = let same : numeral m ≡ apply f ts = sym (tree_of_node old are x.term.0 (numeral_node m) at) ∙ e in cc
        by (variable_node i r) at = let same : variable i r ≡ apply f ts = sym (tree_of_node old are x.term.0 (variable_node i r) at) ∙ e in cc
        by (operator_node g ids) at = trees_kept (theory_at p.sig) old new (numbers x.args.items) grows (is.under g ids at).within

    pub round_stays : (x : Frame) → IsFrame p.sig old x → (es : List Event) → TellsRound p hooks old before x es → TellsRound p hooks new after x es
    round_stays x is es h = record {
      stand = events_stand old new grows es h.stand;
      round = subst (λ t. RoundFrom p hooks new after t (map (told_in new) es) (trees_at new (numbers x.args.items))) (sym (tree_kept (theory_at p.sig) old new x.term.0 grows is.term.within))
          (subst (λ xs. RoundFrom p hooks new after (tree_at old x.term.0) xs (trees_at new (numbers x.args.items))) (sym (events_same old new grows es h.stand))
          (from_more (tree_at old x.term.0) (map (told_in old) es) (trees_at old (numbers x.args.items)) (trees_at new (numbers x.args.items)) (frame_trees x is) h.round));
    }

    open_stays : (Q R : List Event → Type 0) → ((es : List Event) → Q es → R es) → (t : TermId) (xs : List Frame) (root child : ℕ) → IsChain p.sig old root xs child → (es : List Event) → TellsOpen p hooks old before Q t xs es →
        TellsOpen p hooks new after R t xs es
    open_stays Q R f t [] root child c es h = f es h
    open_stays Q R f t (x ∷ xs) root child c es (round, inner, e, r, o) = (round, inner, e, round_stays x c.1 round r, open_stays Q R f t xs c.2 child c.4 inner o)

    pub within_stays : (Q R : List Event → Type 0) → ((es : List Event) → Q es → R es) → (t : TermId) (xs : List Frame) (root child : ℕ) → IsChain p.sig old root xs child → (a b : List Event) (n : ℕ) → TellsWithin p hooks old before Q t xs a b n →
        TellsWithin p hooks new after R t xs a b n
    within_stays Q R f t xs root child c a b n h = record { events = h.events; told = h.told; opened = open_stays Q R f t xs root child c h.events h.opened; count = h.count }

  pub reached_stays : (t v : TermId) → IsOf old t.0 → IsOf old v.0 → (es : List Event) → TellsReached p hooks old before t v es → TellsReached p hooks new after t v es
  reached_stays t v there value es h =
      subst (λ u. IsToldRun p hooks new after true u es (tree_at new v.0)) (sym (tree_at-extends old new t.0 grows there))
      (subst (λ u. IsToldRun p hooks new after true (tree_at old t.0) es u) (sym (tree_at-extends old new v.0 grows value)) (runs_stay p hooks old new before after grows kept true (tree_at old t.0) es (tree_at old v.0) h))

  pub pass_stays : (t v : TermId) → IsOf old t.0 → IsOf old v.0 → (a b : List Event) (n : ℕ) → TellsPass p hooks old before t v a b n → TellsPass p hooks new after t v a b n
  pass_stays t v there value a b n h = record { events = h.events; told = h.told; reached = reached_stays t v there value h.events h.reached; count = h.count }

-- ---- a pass goes on

chain_first : (s : SignatureOf) (nodes : List Node) (root : ℕ) (xs : List Frame) (t : TermId) → IsChain s nodes root xs t.0 → root ≡ (first_term xs t).0
chain_first s nodes root [] t c = c
chain_first s nodes root (x ∷ xs) t c = sym c.0

pub chain_from : (s : SignatureOf) (nodes : List Node) (root : ℕ) (xs : List Frame) (t r : TermId) → first_term xs t ≡ r → IsChain s nodes root xs t.0 → IsChain s nodes r.0 xs t.0
chain_from s nodes root xs t r e c = subst (λ i. IsChain s nodes i xs t.0) (chain_first s nodes root xs t c ∙ ap (λ (i : TermId). i.0) e) c

-- a term that was opened
pub round_fresh : (p : Typed.Program) (hooks : List Operator) (nodes : List Node) (table : Table) (x : Frame) → (frame_in nodes x).0 ≡ tree_at nodes x.term.0 → TellsRound p hooks nodes table x []
round_fresh p hooks nodes table x e = record { stand = All-nil (StandsIn nodes); round = by (tree_at nodes x.term.0) e }
  where
    us : List Tree
    us = trees_at nodes (numbers x.args.items)

    by : (t : Tree) → over t us ≡ t → RoundFrom p hooks nodes table t [] us
    by (apply f ts) d =
        let same : trees_of us ≡ ts = cc in
        subst (λ vs. LeadsIn p hooks (HasEntry p.sig nodes table) true vs [] us) (sym (list_of-trees_of us) ∙ ap list_of same) all_stand
    by (variable i r) d = refl
    by (numeral n) d = refl

module _ (p : Typed.Program) (hooks : List Operator) (lawful : IsLawful (terms_over p.sig)) (now new : List Node) (grows : Extends now new) (before after : Table) (kept : KeepsEntries before after) (are : AreNodes now) where
  abbrev norms : ℕ → Theory
  norms = theory_at p.sig

  -- the innermost open term was passed over
  pub within_passed : AreNodes new → (x : Frame) → IsFrame p.sig now x → (xs : List Frame) (root : ℕ) → IsChain p.sig now root xs x.term.0 → (id : TermId) (a b d : List Event) (n y z : ℕ) → IsNormalTerm p.sig (norm norms (frame_in now x).0) →
      TellsWithin p hooks now before (TellsRound p hooks now before x) x.term xs a b n → (h : TellsPart p hooks new after b d (norm norms (frame_in now x).0) (tree_at new id.0) y z) →
      TellsWithin p hooks new after (TellsReached p hooks new after x.term id) x.term xs a d (n + steps_in h.events)
  within_passed are_new x is xs root chain id a b d n y z normal told h =
      let same = ap (λ (o : Opened). norm norms o.0) (frame_same p.sig now new grows are x is) in
      let held = within_stays p hooks now new grows before after kept are (TellsRound p hooks now before x) (TellsRound p hooks new after x) (round_stays p hooks now new grows before after kept are x is) x.term xs root x.term.0 chain a b n told in
      within_more p hooks new after (TellsRound p hooks new after x) (TellsReached p hooks new after x.term id) x.term xs a b d h.events n (steps_in h.events)
      (λ es r.
      round_done p hooks new after lawful are_new x (frame_kept p.sig now new grows x is) es h.events (tree_at new id.0) (subst (IsNormalTerm p.sig) (sym same) normal) r h.begins
      (subst (λ t. IsToldRun p hooks new after true t h.events (tree_at new id.0)) (sym same) h.run)) h.told refl held

-- the whole term is closed: its open terms, and what was told of the innermost one, which reached v
pub record IsClosing (p : Typed.Program) (hooks : List Operator) (nodes : List Node) (table : Table) (root : TermId) (xs : List Frame) (v : TermId) (a b : List Event) (n : ℕ) : Type 0 where
  pub inner : TermId
  pub first : first_term xs inner ≡ root
  pub chain : IsChain p.sig nodes root.0 xs inner.0
  pub may : MayReplace p.sig nodes inner.0 v.0
  pub within : TellsWithin p hooks nodes table (TellsReached p hooks nodes table inner v) inner xs a b n

module _ (p : Typed.Program) (hooks : List Operator) (lawful : IsLawful (terms_over p.sig)) (now new : List Node) (grows : Extends now new) (table : Table) (are : AreNodes now) where
  abbrev th' : ℕ → Theory
  th' = theory_at p.sig

  -- one open term is left and built again
  pub closing_on : (root : TermId) (zs : List Frame) (x : Frame) (v : TermId) (a b c : List Event) (n : ℕ) → (h : IsClosing p hooks now table root (zs ++ x ∷ []) v a b n) → c ≡ b ++ left v ∷ [] →
      (y : Frame) → y.term ≡ x.term → ((e : IsEntered now x h.inner.0) → numbers y.args.items ≡ set (numbers x.args.items) e.place v.0) → IsFrame p.sig now y →
      (id : TermId) → tree_at new id.0 ≡ norm th' (frame_in now y).0 → MayReplace p.sig new y.term.0 id.0 → IsClosing p hooks new table root zs id a c n
  closing_on root zs x v a b c n h e y t put frame id value may = record {
    inner = y.term;
    first = ap (first_term zs) t ∙ (sym (first_push p hooks now table zs x h.inner) ∙ h.first);
    chain = chain_kept p.sig now new grows root.0 zs y.term.0 here;
    may = may;
    within = within_stays p hooks now new grows table table (kept_same table) are
        (λ es. IsToldRun p hooks now table true (tree_at now y.term.0) es (norm th' (frame_in now y).0)) (TellsReached p hooks new table y.term id) reached y.term zs root.0 y.term.0 here a c n rebuilt;
  }
    where
      entered_last : IsEntered now x h.inner.0
      entered_last = chain_step p.sig now root.0 zs x h.inner.0 h.chain

      here : IsChain p.sig now root.0 zs y.term.0
      here = subst (λ (i : TermId). IsChain p.sig now root.0 zs i.0) (sym t) (chain_before p.sig now root.0 zs x h.inner.0 h.chain)

      normal : IsNormalTerm p.sig (norm th' (frame_in now y).0)
      normal = subst (IsNormalTerm p.sig) value (term_told p.sig lawful new id.0 (record { within = may.2.within; bare = (may.0, may.2.bare) }))

      popped : TellsWithin p hooks now table (TellsRound p hooks now table y) y.term zs a c n
      popped = within_pop p hooks now table are x h.inner v entered_last h.may.1.within.there h.may.2.within.there y t (put entered_last) zs a b c n e h.within

      rebuilt : TellsWithin p hooks now table (λ es. IsToldRun p hooks now table true (tree_at now y.term.0) es (norm th' (frame_in now y).0)) y.term zs a c n
      rebuilt = subst (TellsWithin p hooks now table (λ es. IsToldRun p hooks now table true (tree_at now y.term.0) es (norm th' (frame_in now y).0)) y.term zs a c) (add-zero n)
          (within_more p hooks now table (TellsRound p hooks now table y) (λ es. IsToldRun p hooks now table true (tree_at now y.term.0) es (norm th' (frame_in now y).0)) y.term zs a c c [] n 0
          (λ es r. round_done p hooks now table lawful are y frame es [] (norm th' (frame_in now y).0) normal r tt (record { stand = All-nil (StandsIn now); leads = stands })) (sym (append-nil c)) refl popped)

      reached : (es : List Event) → IsToldRun p hooks now table true (tree_at now y.term.0) es (norm th' (frame_in now y).0) → TellsReached p hooks new table y.term id es
      reached es r =
          subst (λ u. IsToldRun p hooks new table true (tree_at new y.term.0) es u) (sym value)
          (subst (λ u. IsToldRun p hooks new table true u es (norm th' (frame_in now y).0)) (sym (tree_at-extends now new y.term.0 grows frame.term.within.there))
          (runs_stay p hooks now new table table grows (kept_same table) true (tree_at now y.term.0) es (norm th' (frame_in now y).0) r))

-- within a pass
pub record IsPassing (p : Typed.Program) (hooks : List Operator) (nodes : List Node) (table : Table) (root : TermId) (x : Frame) (xs : List Frame) (a b : List Event) (before now : ℕ) : Type 0 where
  pub count : ℕ
  pub first : first_term xs x.term ≡ root
  pub within : TellsWithin p hooks nodes table (TellsRound p hooks nodes table x) x.term xs a b count
  pub adds : Adds before now count

-- the innermost open term reached a term, and has not been left
pub record HasReached (p : Typed.Program) (hooks : List Operator) (nodes : List Node) (table : Table) (t v : TermId) (xs : List Frame) (a b : List Event) (before now : ℕ) : Type 0 where
  pub count : ℕ
  pub within : TellsWithin p hooks nodes table (TellsReached p hooks nodes table t v) t xs a b count
  pub adds : Adds before now count

pub passing_reached : (p : Typed.Program) (m n : Meanings) → n ≡ m → IsLawful (terms_over p.sig) → (now new : List Node) → Extends now new → (before after : Table) → KeepsEntries before after → AreNodes now → AreNodes new → (root : TermId) (x : Frame) → IsFrame p.sig now x →
    (xs : List Frame) (start : ℕ) → IsChain p.sig now start xs x.term.0 → (id : TermId) (a b d : List Event) (k y z : ℕ) → IsNormalTerm p.sig (norm (theory_at p.sig) (frame_in now x).0) → IsPassing p m.hooks now before root x xs a b k y →
    TellsPart p n.hooks new after b d (norm (theory_at p.sig) (frame_in now x).0) (tree_at new id.0) y z → HasReached p m.hooks new after x.term id xs a d k z
passing_reached p m n e lawful now new grows before after kept are are_new root x is xs start chain id a b d k y z normal h told =
    let part = part_as p m n e new after b d (norm (theory_at p.sig) (frame_in now x).0) (tree_at new id.0) y z told in
    record {
      count = h.count + steps_in part.events;
      within = within_passed p m.hooks lawful now new grows before after kept are are_new x is xs start chain id a b d h.count y z normal h.within part;
      adds = adds_on k y z h.count (steps_in part.events) h.adds part.adds;
    }
