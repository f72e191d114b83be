-- The state of settling: in states that grow, at its steps and at its end.
use Rattle.std.proofs.Common.{◌≡◌, ◌<◌, ◌+◌, ℕ, zero, suc, List, [], ◌∷◌, ◌++◌, All, Option, Some, None, IfSome, IfNone, false, slice_get, length, drop, get_or, sym, ap, ◌∙◌, subst, append-nil}
use Rattle.std.proofs.lemmas.List.Elements.{All-nil, All-head, All-tail, All-cons, All-drop}
use Rattle.mau_terms.specs.View.{tree_of}
use Rattle.mau_terms.specs.declared.ids.VarId.{VarId}
use Rattle.mau_terms.specs.declared.ids.TermId.{TermId}
use Rattle.mau_signature.specs.Signature.{SignatureOf}
use Rattle.mau_formula.specs.Operator.{Operator}
use Rattle.mau_store.specs.Node.{Node, AreNodes, Extends}
use Rattle.mau_store.specs.Trees.{tree_at}
use Rattle.mau_store.specs.View.{numbers}
use Rattle.mau_store.proofs.Growth.{extension_is_preorder}
use Rattle.mau_store.proofs.Standing.{tree_at-extends}
use Rattle.mau_sorts.specs.Table.{Table, IsSettled, AreOver, KeepsEntries}
use Rattle.mau_sorts.proofs.Settling.{kept_same, kept_on}
use Rattle.mau_sigcheck.specs.Built.{IsBuiltAndAccepted}
use Rattle.mau_listing.specs.Asked.{IsTreeSettled, IsClosedTable, IsBelow}
use Rattle.mau_listing.proofs.Closed.{closed_below}
use Rattle.mau_program.specs.declared.program.Program as Typed
use Rattle.mau_program.specs.declared.statements.Membership as Written
use Rattle.mau_evaluation.specs.HasSort.{HasHeads}
use Rattle.mau_api.specs.Programs.{program_over, identities_of}
use Rattle.mau_api.specs.Meanings.{meanings_by}
use Rattle.mau_api.specs.Answers.{IsDerivedTable, AreSettled}
use Rattle.mau_api.specs.Terms.{IsTerm}
use Rattle.mau_api.proofs.KeepsDerived.{listings_keep_derived}
use Rattle.mau_deriving.specs.Listing.{HasGrown, IsSorted}
use Rattle.mau_deriving.specs.Asking.{Stands, Derives}
use Rattle.mau_deriving.specs.declared.derivation.Deriving.{Deriving}
use Rattle.mau_deriving.proofs.Kept.{stands_grown, at_place}
use Rattle.mau_deriving.proofs.Outlived.{derivations_outlive}
use Rattle.mau_settling.specs.Due.{IsDueIn, IsFirstUnsettled, IsDueInFirst, IsPlaceIn, IsPlaceInFirst}
use Rattle.mau_settling.specs.Settlings.{AreLeft, left_of, IsDerivingIn, IsSettling, Asks, IsAsking, IsAskingOf}
use Rattle.mau_settling.specs.Beginning.{IsLater}
use Rattle.mau_settling.specs.Laws.{SettlingStays, DerivingStays}
use Rattle.mau_settling.specs.declared.walk.Place.{Place}
use Rattle.mau_settling.specs.declared.settling.Settling.{Settling}
use Rattle.mau_settling.proofs.Due.{due_in_first, places_stay}
use Rattle.mau_settling.proofs.Roots.{term_stays, terms_stay, left_stays, first_left}
use Rattle.mau_settling.proofs.Units.{identities_settled}

-- ---- later states

pub later_same : (p : Typed.Program) (nodes : List Node) (table : Table) → AreOver p.sig.hierarchy table → IsClosedTable nodes table → IsLater p nodes nodes table table
later_same p nodes table over closed = record { extends = extension_is_preorder.reflexive nodes; kept = kept_same table; over = over; closed = closed }

pub later_on : (p : Typed.Program) (one two three : List Node) (first second third : Table) → IsLater p one two first second → IsLater p two three second third → IsLater p one three first third
later_on p one two three first second third a b = record {
  extends = extension_is_preorder.transitive one two three a.extends b.extends;
  kept = kept_on first second third a.kept b.kept;
  over = b.over;
  closed = b.closed;
}

-- a term that is the same
pub tree_stays : (s : SignatureOf) (old new : List Node) → Extends old new → (t u : TermId) → u ≡ t → IsTerm s old t.0 → tree_at new u.0 ≡ tree_at old t.0
tree_stays s old new x t u e term = ap (λ (z : TermId). tree_at new z.0) e ∙ tree_at-extends old new t.0 x term.within.there

-- what a listing did
pub later_grown : (p : Typed.Program) (old new : List Node) (before after : Table) (t : ℕ) → IsClosedTable old before → HasGrown p.sig old new before after t → IsLater p old new before after
later_grown p old new before after t closed g = record { extends = g.extends; kept = g.kept; over = g.over; closed = g.closed closed }

pub derived_grown : (p : Typed.Program) (hooks : List Operator) (limit : ℕ) → HasHeads (program_over p hooks) → IsBuiltAndAccepted p.sig → (old new : List Node) → AreNodes new → (before after : Table) (t : ℕ) → HasGrown p.sig old new before after t →
    IsDerivedTable (meanings_by p hooks limit false) old before → IsDerivedTable (meanings_by p hooks limit false) new after
derived_grown p hooks limit heads accepted old new are before after t g d =
    listings_keep_derived p hooks limit false heads accepted old new are g.extends before after g.kept d (tree_at old t) g.entries g.over (g.table d.known d.declared) (g.closed d.closed)

-- ---- what is derived at the moment

module _ (p : Typed.Program) (old new : List Node) (x : Extends old new) (before after : Table) (kept : KeepsEntries before after) (over : AreOver p.sig.hierarchy after) where
  pub deriving_in : (left : List ℕ) (d : Deriving) → IsDerivingIn p old before left d → IsDerivingIn p new after left d
  deriving_in left d h = record { stands = stands_grown p old new before after x kept over d h.stands; due = due_in_first old new x before after kept left d.term.0 h.due }

  pub current_stays : (left : List ℕ) (o : Option Deriving) → IfSome o (IsDerivingIn p old before left) → IfSome o (IsDerivingIn p new after left)
  current_stays left None h = tt
  current_stays left (Some d) h = deriving_in left d h

  -- a derivation that was begun of a term that was due in the first that is left
  pub current_begun : (left : List ℕ) (id : TermId) → IsDueInFirst old before left id.0 → (o : Option Deriving) → IfSome o (Stands p new after) → IfSome o (λ d. d.term ≡ id) → IfSome o (IsDerivingIn p new after left)
  current_begun left id due None stands e = tt
  current_begun left id due (Some d) stands e =
      record { stands = stands; due = subst (λ (t : TermId). IsDueInFirst new after left t.0) (sym e) (due_in_first old new x before after kept left id.0 due) }

pub settling_stays : SettlingStays
settling_stays p old new x before after kept over closed s h = record {
  over = over;
  closed = closed;
  term = term_stays p.sig old new x s.term.0 h.term;
  roots = terms_stay p.sig old new x (numbers s.roots.items) h.roots;
  left = left_stays p.sig old new x before after kept s.term.0 (left_of s) h.term (All-drop (IsTerm p.sig old) s.at (numbers s.roots.items) h.roots) h.left;
  path = places_stay old new x before after kept (left_of s) s.path.items h.path;
  current = current_stays p old new x before after kept over (left_of s) s.current h.current;
}

pub deriving_stays : DerivingStays
deriving_stays p hooks limit old new x table s h k = by s.current h.current k
  where
    by : (o : Option Deriving) → IfSome o (IsDerivingIn p old table (left_of s)) → IfSome o (Derives p hooks limit old) → IfSome o (Derives p hooks limit new)
    by None h k = tt
    by (Some d) h k = derivations_outlive p hooks limit old new x table d h.stands k

-- ---- the first that is left

module _ (nodes : List Node) (table : Table) (left : List ℕ) (i : ℕ) (is : List ℕ) (e : left ≡ i ∷ is) where
  pub path_in : (ps : List Place) → All (IsPlaceInFirst nodes table left) ps → All (IsPlaceIn nodes table i) ps
  path_in ps h = subst (λ zs. All (IsPlaceInFirst nodes table zs) ps) e h

  pub path_of : (ps : List Place) → All (IsPlaceIn nodes table i) ps → All (IsPlaceInFirst nodes table left) ps
  path_of ps h = subst (λ zs. All (IsPlaceInFirst nodes table zs) ps) (sym e) h

  pub due_of : (j : ℕ) → IsDueIn nodes table i j → IsDueInFirst nodes table left j
  due_of j h = subst (λ zs. IsDueInFirst nodes table zs j) (sym e) h

-- it is a root
pub root_at : (roots : List TermId) (at : ℕ) (r : TermId) → at < length roots → r ≡ get_or roots at r → drop at (numbers roots) ≡ r.0 ∷ drop (at + 1) (numbers roots)
root_at roots at r low e = subst (λ (z : TermId). drop at (numbers roots) ≡ z.0 ∷ drop (at + 1) (numbers roots)) (sym e) (first_left roots at r low)

pub root_term : (s : SignatureOf) (nodes : List Node) (roots : List TermId) (at : ℕ) (r : TermId) → at < length roots → r ≡ get_or roots at r → All (IsTerm s nodes) (numbers roots) → IsTerm s nodes r.0
root_term s nodes roots at r low e all =
    All-head (IsTerm s nodes) r.0 (drop (at + 1) (numbers roots)) (subst (All (IsTerm s nodes)) (root_at roots at r low e) (All-drop (IsTerm s nodes) at (numbers roots) all))

-- what the walk down found
pub is_first : (nodes : List Node) (table : Table) (i : ℕ) (o : Option TermId) (id : TermId) → o ≡ Some id → IfSome o (λ z. IsFirstUnsettled nodes table i z.0) → IsFirstUnsettled nodes table i id.0
is_first nodes table i o id e h = subst (λ z. IfSome z (λ w. IsFirstUnsettled nodes table i w.0)) e h

pub is_end : (nodes : List Node) (table : Table) (i : ℕ) (o : Option TermId) (ps : List Place) → o ≡ None → IfNone o (IsSettled table i) → IfNone o (ps ≡ []) → IsSettled table i × (ps ≡ [])
is_end nodes table i o ps e h k = (subst (λ z. IfNone z (IsSettled table i)) e h, subst (λ z. IfNone z (ps ≡ [])) e k)

pub no_places : (nodes : List Node) (table : Table) (left : List ℕ) (ps : List Place) → ps ≡ [] → All (IsPlaceInFirst nodes table left) ps
no_places nodes table left ps e = subst (All (IsPlaceInFirst nodes table left)) (sym e) (All-nil (IsPlaceInFirst nodes table left))

-- ---- what is asked

pub is_current : (P : Deriving → Type 0) (o : Option Deriving) (d : Deriving) → o ≡ Some d → IfSome o P → P d
is_current P o d e h = subst (λ z. IfSome z P) e h

pub current_is : (P : Deriving → Type 0) (o : Option Deriving) → o ≡ None → IfSome o P
current_is P o e = subst (λ z. IfSome z P) (sym e) tt

pub none_asked : (s : Settling) → s.current ≡ None → ¬ IsAsking s
none_asked s e a = let k : None ≡ Some a.2.derivation = sym e ∙ a.2.is in absurd (cc)

pub one_asked : (s : Settling) (d : Deriving) → s.current ≡ Some d → (at : ℕ) (b : List (VarId × TermId)) → Asks s at b → (d.at ≡ at) × (slice_get d.questions.items d.asked ≡ Some b)
one_asked s d e at b a =
    let k : Some d ≡ Some a.derivation = sym e ∙ a.is in
    let same : d ≡ a.derivation = cc in
    (ap (λ (z : Deriving). z.at) same ∙ a.at_place, ap (λ (z : Deriving). slice_get z.questions.items z.asked) same ∙ a.question)

pub nothing_asked : (s : Settling) (d : Deriving) → s.current ≡ Some d → slice_get d.questions.items d.asked ≡ None → ¬ IsAsking s
nothing_asked s d e none a = let z = (one_asked s d e a.0 a.1 a.2).1 in let k : None ≡ Some a.1 = sym none ∙ z in absurd (cc)

-- one condition is asked
pub same_asked : (s : Settling) (at at' : ℕ) (b b' : List (VarId × TermId)) → Asks s at b → Asks s at' b' → at ≡ at'
same_asked s at at' b b' a a' = sym a.at_place ∙ (one_asked s a.derivation a.is at' b' a').0

-- its membership
pub asked_membership : (p : Typed.Program) (s : Settling) → IsAskingOf p s → (at : ℕ) (b : List (VarId × TermId)) → Asks s at b → (m : Written.Membership) × (slice_get p.memberships at ≡ Some m)
asked_membership p s asking at b a = at_place p.memberships at (subst (λ n. n < length p.memberships) (same_asked s asking.0 at asking.1 b asking.2 a) asking.3)

-- what is bound has its sorts
pub asked_sorted : (p : Typed.Program) (nodes : List Node) (table : Table) (s : Settling) → IsSettling p nodes table s → (at : ℕ) (b : List (VarId × TermId)) → Asks s at b →
    (m : Written.Membership) → slice_get p.memberships at ≡ Some m → IsSorted p.sig nodes table (tree_of m.left) b
asked_sorted p nodes table s h at b a m there =
    let d = is_current (IsDerivingIn p nodes table (left_of s)) s.current a.derivation a.is h.current in
    subst (λ t. IsSorted p.sig nodes table t b) (d.stands.sorted.is m (subst (λ n. slice_get p.memberships n ≡ Some m) (sym a.at_place) there))
    (one_of (IsSorted p.sig nodes table d.stands.sorted.head) a.derivation.questions.items a.derivation.asked b a.question d.stands.sorted.sorted)
  where
    one_of : {A : Type 0} (P : A → Type 0) (xs : List A) (i : ℕ) (x : A) → slice_get xs i ≡ Some x → All P xs → P x
    one_of P [] i x e all = absurd (cc)
    one_of P (y ∷ xs) zero x e all = let same : y ≡ x = cc in subst P same (All-head P y xs all)
    one_of P (y ∷ xs) (suc i) x e all = one_of P xs i x e (All-tail P y xs all)

-- ---- at the end

pub all_parts : {A : Type 0} (P : A → Type 0) (xs ys : List A) → All P (xs ++ ys) → All P xs × All P ys
all_parts P [] ys h = (All-nil P, h)
all_parts P (x ∷ xs) ys h = let rest = all_parts P xs ys (All-tail P x (xs ++ ys) h) in (All-cons P x xs (All-head P x (xs ++ ys) h) rest.0, rest.1)

pub all_settled : (s : SignatureOf) (nodes : List Node) → AreNodes nodes → (table : Table) → IsClosedTable nodes table → (t : ℕ) (left : List ℕ) → left ≡ [] → AreLeft s nodes table t left → AreSettled s nodes table (tree_at nodes t)
all_settled s nodes are table closed t left none h =
    let h_none = subst (AreLeft s nodes table t) none h in
    let e : identities_of s ++ tree_at nodes t ∷ [] ≡ h_none.before = h_none.are ∙ append-nil h_none.before in
    let parts = all_parts (IsTreeSettled nodes table) (identities_of s) (tree_at nodes t ∷ []) (subst (All (IsTreeSettled nodes table)) (sym e) h_none.settled) in
    let own = All-head (IsTreeSettled nodes table) (tree_at nodes t) [] parts.1 in
    record {
      identities = identities_settled s nodes table parts.0;
      below = λ u b. closed_below nodes are table closed own.number own.settled u (subst (IsBelow u) (sym own.tree) b);
      itself = own;
    }
