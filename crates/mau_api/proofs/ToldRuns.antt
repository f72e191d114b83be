-- Told runs go on, and stay what they are: what a loop that tells steps keeps.
use Rattle.std.proofs.Common.{◌≡◌, ℕ, ◌+◌, List, [], ◌∷◌, ◌++◌, length, map, Bool, All, refl, sym, ap, ap₂, subst, append_assoc, arith}
use Rattle.std.proofs.lemmas.List.{map-append}
use Rattle.std.proofs.lemmas.List.Elements.{All-head, All-tail, All-append}
use Rattle.mau_terms.specs.Tree.{Tree}
use Rattle.mau_terms.specs.Norm.{norm}
use Rattle.mau_terms.specs.Subst.{Variable, instance}
use Rattle.mau_terms.specs.Solution.{HaveSorts}
use Rattle.mau_terms.specs.View.{tree_of}
use Rattle.mau_signature.specs.Signature.{theory_at}
use Rattle.mau_formula.specs.Operator.{Operator}
use Rattle.mau_store.specs.Node.{Node, Extends}
use Rattle.mau_store.specs.View.{numbers}
use Rattle.mau_store.proofs.Growth.{IsOf-extends, AreOf-extends, trees_at-extends}
use Rattle.mau_store.proofs.Standing.{tree_at-extends}
use Rattle.mau_sorts.specs.Table.{Table, KeepsEntries}
use Rattle.mau_listing.specs.Asked.{HasEntry}
use Rattle.mau_listing.proofs.Growth.{entry_kept}
use Rattle.mau_program.specs.declared.statements.Fragment.{Fragment}
use Rattle.mau_program.specs.declared.statements.Fragment.TheVariants.{Equal, Match, Sort, Reach}
use Rattle.mau_program.specs.declared.program.Program.{Program}
use Rattle.mau_api.specs.declared.step.Place.TheVariants.{Whole, Argument, Fragment as OfFragment}
use Rattle.mau_api.specs.Events.{Event, entered, left, made}
use Rattle.mau_api.specs.Told.{Told, enters, leaves, steps, StepOf, told_in, IsInstance, BeginsNoRound, Leads, stands, on_whole, on_arguments, by_equation, by_rule, by_built_in, LeadsIn, all_stand, in_one, Shown, nothing_to_show, shows_equal, shows_match, shows_sort, StandsIn, IsToldRun, IsToldCondition, steps_in, RunsGoOn, RunsStay, ConditionsStay}

-- ---- one after the other

module _ (p : Program) (hooks : List Operator) (P : ℕ → Tree → Type 0) where
  told_as : {r : Bool} {t v : Tree} {xs ys : List Told} → xs ≡ ys → Leads p hooks P r t ys v → Leads p hooks P r t xs v
  told_as {r} {t} {v} e h = subst (λ zs. Leads p hooks P r t zs v) (sym e) h

  no_round : (xs ys : List Told) → BeginsNoRound xs → BeginsNoRound ys → BeginsNoRound (xs ++ ys)
  no_round [] ys h g = g
  no_round (enters t q ∷ xs) ys h g = h
  no_round (leaves t ∷ xs) ys h g = tt
  no_round (steps x ∷ xs) ys h g = tt

  -- a run and then another
  pub goes_on : {r : Bool} {t u v : Tree} {xs ys : List Told} → Leads p hooks P r t xs u → BeginsNoRound ys → Leads p hooks P r u ys v → Leads p hooks P r t (xs ++ ys) v
  goes_on stands n c = c
  goes_on {ys = zs} (on_whole {t = t} {u = u} {xs = xs} {ys = ys} a b) n c = told_as (append_assoc (enters t Whole ∷ xs) (leaves u ∷ ys) zs) (on_whole a (goes_on b n c))
  goes_on {ys = zs} (on_arguments {xs = xs} {ys = ys} a w m b) n c = told_as (append_assoc xs ys zs) (on_arguments a w (no_round ys zs m n) (goes_on b n c))
  goes_on {ys = zs} (by_equation {xs = xs} {ys = ys} m e x i f j k l o b) n c = told_as (append_assoc xs (steps x ∷ ys) zs) (by_equation m e x i f j k l o (goes_on b n c))
  goes_on {ys = zs} (by_rule {xs = xs} {ys = ys} m q x i j k l o b) n c = told_as (append_assoc xs (steps x ∷ ys) zs) (by_rule m q x i j k l o (goes_on b n c))
  goes_on (by_built_in f x i h o b) n c = by_built_in f x i h o (goes_on b n c)

  -- a round and then more of its arguments
  pub round_goes_on : {r : Bool} {ts us vs : List Tree} {xs ys : List Told} → LeadsIn p hooks P r ts xs us → LeadsIn p hooks P r us ys vs → LeadsIn p hooks P r ts (xs ++ ys) vs
  round_goes_on all_stand c = c
  round_goes_on {r} {ts} {vs = vs} {ys = zs} (in_one {t = t} {u = u} {xs = xs} {ys = ys} i e a b) c =
      subst (λ ws. LeadsIn p hooks P r ts ws vs) (sym (append_assoc (enters t (Argument i) ∷ xs) (leaves u ∷ ys) zs)) (in_one i e a (round_goes_on b c))

  shown_as : {g : Variable → Tree} {j : ℕ} {cs : List Fragment} {xs ys : List Told} → xs ≡ ys → Shown p hooks P g j cs ys → Shown p hooks P g j cs xs
  shown_as {g} {j} {cs} e h = subst (Shown p hooks P g j cs) (sym e) h

  at_number : {g : Variable → Tree} {j k : ℕ} {cs : List Fragment} {xs : List Told} → j ≡ k → Shown p hooks P g k cs xs → Shown p hooks P g j cs xs
  at_number {g} {cs = cs} {xs = xs} e h = subst (λ n. Shown p hooks P g n cs xs) (sym e) h

  -- some fragments and then others
  pub shown_goes_on : {g : Variable → Tree} (j : ℕ) (cs ds : List Fragment) {xs : List Told} (ws : List Told) → Shown p hooks P g j cs xs → Shown p hooks P g (j + length cs) ds ws → Shown p hooks P g j (cs ++ ds) (xs ++ ws)
  shown_goes_on j [] ds ws nothing_to_show h = at_number (omega arith) h
  shown_goes_on j (Equal t u ∷ cs) ds ws (shows_equal {xs = xs} {ys = ys} {zs = zs} _ _ {a = a} {b = b} {v = v} e f m n k l o) h =
      shown_as (append_assoc (enters a (OfFragment j 0) ∷ xs ++ leaves v ∷ enters b (OfFragment j 1) ∷ ys) (leaves v ∷ zs) ws)
      (shows_equal t u e f m n k l (shown_goes_on (j + 1) cs ds ws o (at_number (omega arith) h)))
  shown_goes_on j (Match q u ∷ cs) ds ws (shows_match {ys = ys} {zs = zs} _ _ {b = b} {v = v} e f n l o) h =
      shown_as (append_assoc (enters b (OfFragment j 1) ∷ ys) (leaves v ∷ zs) ws)
      (shows_match q u e f n l (shown_goes_on (j + 1) cs ds ws o (at_number (omega arith) h)))
  shown_goes_on j (Reach t u ∷ cs) ds ws h k = elim h [ ]
  shown_goes_on j (Sort t r ∷ cs) ds ws (shows_sort {xs = xs} {zs = zs} _ _ {a = a} {v = v} e m k s o) h =
      shown_as (append_assoc (enters a (OfFragment j 0) ∷ xs) (leaves v ∷ zs) ws)
      (shows_sort t r e m k s (shown_goes_on (j + 1) cs ds ws o (at_number (omega arith) h)))

  -- ---- with other values of variables

  -- the terms of the fragments have the same instances
  abbrev pub SameInstances : (Variable → Tree) → (Variable → Tree) → List Fragment → Type 0
  SameInstances g h [] = Unit {0}
  SameInstances g h (Equal t u ∷ cs) = (instance g (tree_of t) ≡ instance h (tree_of t)) × (instance g (tree_of u) ≡ instance h (tree_of u)) × SameInstances g h cs
  SameInstances g h (Match q u ∷ cs) = (instance g (tree_of q) ≡ instance h (tree_of q)) × (instance g (tree_of u) ≡ instance h (tree_of u)) × SameInstances g h cs
  SameInstances g h (Sort t r ∷ cs) = (instance g (tree_of t) ≡ instance h (tree_of t)) × SameInstances g h cs
  SameInstances g h (Reach t u ∷ cs) = Unit {0}

  moved : {t u v : Tree} → t ≡ u → norm (theory_at p.sig) t ≡ v → norm (theory_at p.sig) u ≡ v
  moved {v = v} e h = subst (λ w. norm (theory_at p.sig) w ≡ v) e h

  pub shown_alike : (g h : Variable → Tree) (j : ℕ) (cs : List Fragment) {xs : List Told} → SameInstances g h cs → Shown p hooks P g j cs xs → Shown p hooks P h j cs xs
  shown_alike g h j [] same nothing_to_show = nothing_to_show
  shown_alike g h j (Equal t u ∷ cs) same (shows_equal _ _ e f m n k l o) = shows_equal t u (moved same.0 e) (moved same.1 f) m n k l (shown_alike g h (j + 1) cs same.2 o)
  shown_alike g h j (Match q u ∷ cs) same (shows_match _ _ e f n l o) = shows_match q u (moved same.1 e) (moved same.0 f) n l (shown_alike g h (j + 1) cs same.2 o)
  shown_alike g h j (Reach t u ∷ cs) same x = elim x [ ]
  shown_alike g h j (Sort t r ∷ cs) same (shows_sort _ _ e m k s o) = shows_sort t r (moved same.0 e) m k s (shown_alike g h (j + 1) cs same.1 o)

-- ---- where more sorts are known

module _ (p : Program) (hooks : List Operator) (P Q : ℕ → Tree → Type 0) (more : (r : ℕ) (t : Tree) → P r t → Q r t) where
  sorts_more : (xs : List Variable) (vs : List Tree) → HaveSorts P xs vs → HaveSorts Q xs vs
  sorts_more [] vs h = tt
  sorts_more (x ∷ xs) [] h = h
  sorts_more (x ∷ xs) (v ∷ vs) h = (more x.1 v h.0, sorts_more xs vs h.1)

  instance_more : (xs : List Variable) (l r : Tree) (x : StepOf) → IsInstance p.sig P xs l r x → IsInstance p.sig Q xs l r x
  instance_more xs l r x i = record { one_each = i.one_each; sorted = sorts_more xs x.values i.sorted; before = i.before; after = i.after; context = i.context }

  mutual
    pub leads_more : {r : Bool} {t v : Tree} {xs : List Told} → Leads p hooks P r t xs v → Leads p hooks Q r t xs v
    leads_more stands = stands
    leads_more (on_whole a b) = on_whole (leads_more a) (leads_more b)
    leads_more (on_arguments a w m b) = on_arguments (round_more a) w m (leads_more b)
    leads_more (by_equation n e x i f j k l o b) = by_equation n e x i f j (instance_more _ _ _ x k) (shown_more l) o (leads_more b)
    leads_more (by_rule n q x i j k l o b) = by_rule n q x i j (instance_more _ _ _ x k) (shown_more l) o (leads_more b)
    leads_more (by_built_in f x i h o b) = by_built_in f x i h o (leads_more b)

    round_more : {r : Bool} {ts us : List Tree} {xs : List Told} → LeadsIn p hooks P r ts xs us → LeadsIn p hooks Q r ts xs us
    round_more all_stand = all_stand
    round_more (in_one i e a b) = in_one i e (leads_more a) (round_more b)

    pub shown_more : {g : Variable → Tree} {j : ℕ} {cs : List Fragment} {xs : List Told} → Shown p hooks P g j cs xs → Shown p hooks Q g j cs xs
    shown_more nothing_to_show = nothing_to_show
    shown_more (shows_equal t u e f m n k l o) = shows_equal t u e f m n (leads_more k) (leads_more l) (shown_more o)
    shown_more (shows_match q u e f n l o) = shows_match q u e f n (leads_more l) (shown_more o)
    shown_more (shows_sort t r {v = v} e m k s o) = shows_sort t r e m (leads_more k) (more r v s) (shown_more o)

-- ---- in a store and a table that grow

module _ (old new : List Node) (extends : Extends old new) where
  event_stands : (e : Event) → StandsIn old e → StandsIn new e
  event_stands (entered t place) h = IsOf-extends old new t.0 extends h
  event_stands (left t) h = IsOf-extends old new t.0 extends h
  event_stands (made s) h = (IsOf-extends old new s.before.0 extends h.0, IsOf-extends old new s.after.0 extends h.1, AreOf-extends old new (numbers s.values) extends h.2)

  event_same : (e : Event) → StandsIn old e → told_in new e ≡ told_in old e
  event_same (entered t place) h = ap (λ w. enters w place) (tree_at-extends old new t.0 extends h)
  event_same (left t) h = ap leaves (tree_at-extends old new t.0 extends h)
  event_same (made s) h =
      let vs = trees_at-extends old new (numbers s.values) extends h.2 in
      let b = tree_at-extends old new s.before.0 extends h.0 in
      let a = tree_at-extends old new s.after.0 extends h.1 in
      λ i. steps (record { statement = s.statement; context = tree_of s.context; values = vs i; before = b i; after = a i })

  pub events_same : (es : List Event) → All (StandsIn old) es → map (told_in new) es ≡ map (told_in old) es
  events_same [] h = refl
  events_same (e ∷ es) h = ap₂ (λ (x : Told) (xs : List Told). x ∷ xs) (event_same e (All-head (StandsIn old) e es h)) (events_same es (All-tail (StandsIn old) e es h))

  pub events_stand : (es : List Event) → All (StandsIn old) es → All (StandsIn new) es
  events_stand es h = λ k d l. event_stands _ (h k d l)

  module _ (p : Program) (hooks : List Operator) (before after : Table) (kept : KeepsEntries before after) where
    pub run_stays : (rules : Bool) (t : Tree) (es : List Event) (u : Tree) → IsToldRun p hooks old before rules t es u → IsToldRun p hooks new after rules t es u
    run_stays rules t es u h = record {
      stand = events_stand es h.stand;
      leads = subst (λ xs. Leads p hooks (HasEntry p.sig new after) rules t xs u) (sym (events_same es h.stand))
          (leads_more p hooks (HasEntry p.sig old before) (HasEntry p.sig new after) (entry_kept old new extends before after kept p.sig) h.leads);
    }

    pub condition_stays : (g : Variable → Tree) (cond : List Fragment) (es : List Event) → IsToldCondition p hooks old before g cond es → IsToldCondition p hooks new after g cond es
    condition_stays g cond es h = record {
      stand = events_stand es h.stand;
      shown = subst (Shown p hooks (HasEntry p.sig new after) g 0 cond) (sym (events_same es h.stand))
          (shown_more p hooks (HasEntry p.sig old before) (HasEntry p.sig new after) (entry_kept old new extends before after kept p.sig) h.shown);
    }

-- ---- counts

pub steps-append : (es fs : List Event) → steps_in (es ++ fs) ≡ steps_in es + steps_in fs
steps-append [] fs = omega arith
steps-append (entered t place ∷ es) fs = steps-append es fs
steps-append (left t ∷ es) fs = steps-append es fs
steps-append (made s ∷ es) fs = omega (arith, steps-append es fs)

-- ---- the laws

pub runs_go_on : RunsGoOn
runs_go_on p hooks nodes table rules t u v es fs a n b = record {
  stand = All-append (StandsIn nodes) es fs a.stand b.stand;
  leads = subst (λ xs. Leads p hooks (HasEntry p.sig nodes table) rules t xs v) (sym (map-append (told_in nodes) es fs)) (goes_on p hooks (HasEntry p.sig nodes table) a.leads n b.leads);
}

pub runs_stay : RunsStay
runs_stay p hooks old new before after extends kept = run_stays old new extends p hooks before after kept

pub conditions_stay : ConditionsStay
conditions_stay p hooks old new before after extends kept = condition_stays old new extends p hooks before after kept
