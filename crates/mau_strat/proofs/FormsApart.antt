-- Numbers of strategies, and the strategies that they stand for.
use Rattle.std.proofs.Common.{◌≡◌, ℕ, zero, suc, ◌+◌, ◌<◌, ◌⊎◌, inl, inr, List, [], ◌∷◌, ◌++◌, fold, length, take, slice_get, Some, All, refl, ap, ap₂, sym, ◌∙◌, arith, subst, length-append}
use Rattle.std.proofs.lemmas.List.Sums.{fold-append}
use Rattle.std.proofs.lemmas.List.Elements.{All-head, All-tail}
use Rattle.std.proofs.Math.ListN.{get_or-append}
use Rattle.std.proofs.Math.Seq.{get_or-append_seam}
use Rattle.mau_store.proofs.Places.{place_push}
use Rattle.mau_evaluation.specs.Strategy.{Strategy, idle, fail, every_rule, label, top_only, call, test, star, plus, to_normal, in_turn, either, or_else, branch, negation, attempt, test_of, part_rewrite, label_by}
use Rattle.mau_strat.specs.declared.configs.StrategyId.{StrategyId}
use Rattle.mau_strat.specs.declared.forms.Form.{Form}
use Rattle.mau_strat.specs.declared.forms.Form.TheVariants.{Leaf, Idle, Fail, All as AllRules, Top, Star, Plus, Normal, Then, Or, OrElse, If, Not, Try, TestOf}
use Rattle.mau_strat.specs.Sharing.{EachOnce}
use Rattle.mau_strat.specs.Configurations.{TellsApart}
use Rattle.mau_strat.specs.Forms.{parts, AreBelow, AreForms, strategy_over, strategy_or, add_strategy, strategies_of, strategy_at, IsLeaf, LeafIn, StrategyOfForm, OneNumberWhereOneStrategy, NumbersKeepStrategies}
use Rattle.mau_strat.proofs.Linked.{cut}

-- ---- the first parts of a form

one : (n e : ℕ) → AreBelow n (e ∷ []) → e < n
one n e h = All-head (λ i. i < n) e [] h

two : (n e f : ℕ) → AreBelow n (e ∷ f ∷ []) → f < n
two n e f h = All-head (λ i. i < n) f [] (All-tail (λ i. i < n) e (f ∷ []) h)

first_of_two : (n e f : ℕ) → AreBelow n (e ∷ f ∷ []) → e < n
first_of_two n e f h = All-head (λ i. i < n) e (f ∷ []) h

first_of_three : (n e f g : ℕ) → AreBelow n (e ∷ f ∷ g ∷ []) → e < n
first_of_three n e f g h = All-head (λ i. i < n) e (f ∷ g ∷ []) h

others_of_three : (n e f g : ℕ) → AreBelow n (e ∷ f ∷ g ∷ []) → AreBelow n (f ∷ g ∷ [])
others_of_three n e f g h = All-tail (λ i. i < n) e (f ∷ g ∷ []) h

module _ (leaf : ℕ → Strategy) where
  -- only the strategies of its parts matter
  pub over_same : (g h : ℕ → Strategy) (n : ℕ) (f : Form) → AreBelow n (parts f) → ((i : ℕ) → i < n → g i ≡ h i) → strategy_over leaf g f ≡ strategy_over leaf h f
  over_same g h n (Leaf l) b same = refl
  over_same g h n Idle b same = refl
  over_same g h n Fail b same = refl
  over_same g h n AllRules b same = refl
  over_same g h n (Top e) b same = ap top_only (same e.0 (one n e.0 b))
  over_same g h n (Star e) b same = ap star (same e.0 (one n e.0 b))
  over_same g h n (Plus e) b same = ap plus (same e.0 (one n e.0 b))
  over_same g h n (Normal e) b same = ap to_normal (same e.0 (one n e.0 b))
  over_same g h n (Then e f) b same = ap₂ in_turn (same e.0 (first_of_two n e.0 f.0 b)) (same f.0 (two n e.0 f.0 b))
  over_same g h n (Or e f) b same = ap₂ either (same e.0 (first_of_two n e.0 f.0 b)) (same f.0 (two n e.0 f.0 b))
  over_same g h n (OrElse e f) b same = ap₂ or_else (same e.0 (first_of_two n e.0 f.0 b)) (same f.0 (two n e.0 f.0 b))
  over_same g h n (If e f k) b same =
      let o = others_of_three n e.0 f.0 k.0 b in
      let p = same e.0 (first_of_three n e.0 f.0 k.0 b) in
      let q = same f.0 (first_of_two n f.0 k.0 o) in
      let r = same k.0 (two n f.0 k.0 o) in
      λ t. branch (p t) (q t) (r t)
  over_same g h n (Not e) b same = ap negation (same e.0 (one n e.0 b))
  over_same g h n (Try e) b same = ap attempt (same e.0 (one n e.0 b))
  over_same g h n (TestOf e) b same = ap test_of (same e.0 (one n e.0 b))

  -- ---- further forms

  length-fold : (ss : List Strategy) (fs : List Form) → length (fold (add_strategy leaf) ss fs) ≡ length ss + length fs
  length-fold ss [] = omega arith
  length-fold ss (f ∷ fs) = omega (arith, length-fold (add_strategy leaf ss f) fs, length-append ss (strategy_over leaf (strategy_or leaf ss) f ∷ []))

  length-strategies : (fs : List Form) → length (strategies_of leaf fs) ≡ length fs
  length-strategies fs = omega (arith, length-fold [] fs)

  kept : (ss : List Strategy) (fs : List Form) (n : ℕ) → n < length ss → strategy_or leaf (fold (add_strategy leaf) ss fs) n ≡ strategy_or leaf ss n
  kept ss [] n h = refl
  kept ss (f ∷ fs) n h =
      let longer : n < length (add_strategy leaf ss f) = omega (arith, length-append ss (strategy_over leaf (strategy_or leaf ss) f ∷ [])) in
      kept (add_strategy leaf ss f) fs n longer ∙ get_or-append ss (strategy_over leaf (strategy_or leaf ss) f ∷ []) idle n h

  at-append : (old more : List Form) (n : ℕ) → n < length old → strategy_at leaf (old ++ more) n ≡ strategy_at leaf old n
  at-append old more n h =
      ap (λ ss. strategy_or leaf ss n) (fold-append (add_strategy leaf) [] old more) ∙ kept (strategies_of leaf old) more n (omega (arith, length-strategies old))

  at-last : (fs : List Form) (f : Form) → strategy_at leaf (fs ++ f ∷ []) (length fs) ≡ strategy_over leaf (strategy_at leaf fs) f
  at-last fs f =
      ap₂ (strategy_or leaf) (fold-append (add_strategy leaf) [] fs (f ∷ [])) (sym (length-strategies fs))
      ∙ get_or-append_seam (strategies_of leaf fs) (strategy_over leaf (strategy_at leaf fs) f) [] idle

pub numbers_keep_strategies : NumbersKeepStrategies
numbers_keep_strategies leaf old new x n h = ap (λ fs. strategy_at leaf fs n) x.1 ∙ at-append leaf old x.0 n h

pub strategy_of_form : StrategyOfForm
strategy_of_form leaf forms are n f h =
    let c = cut forms n f h in
    let front = take n forms in
    let short : n < length (front ++ f ∷ []) = omega (arith, length-append front (f ∷ []), c.2) in
    ap (λ fs. strategy_at leaf fs n) c.1
    ∙ at-append leaf (front ++ f ∷ []) c.0 n short
    ∙ ap (strategy_at leaf (front ++ f ∷ [])) (sym c.2)
    ∙ at-last leaf front f
    ∙ over_same leaf (strategy_at leaf front) (strategy_at leaf forms) n f (are.older n f h) (λ i b. same i b)
  where
    same : (i : ℕ) → i < n → strategy_at leaf (take n forms) i ≡ strategy_at leaf forms i
    same i b =
        let c = cut forms n f h in
        let front = take n forms in
        let short : i < length (front ++ f ∷ []) = omega (arith, length-append front (f ∷ []), c.2) in
        sym (ap (λ fs. strategy_at leaf fs i) c.1 ∙ at-append leaf (front ++ f ∷ []) c.0 i short ∙ at-append leaf front (f ∷ []) i (omega (arith, c.2)))

-- ---- which form a strategy has

abbrev shape : Strategy → ℕ
shape idle = 1
shape fail = 2
shape every_rule = 3
shape (top_only e) = 4
shape (star e) = 5
shape (plus e) = 6
shape (to_normal e) = 7
shape (in_turn e f) = 8
shape (either e f) = 9
shape (or_else e f) = 10
shape (branch e f g) = 11
shape (negation e) = 12
shape (attempt e) = 13
shape (test_of e) = 14
shape _ = 0

abbrev shape_of : Form → ℕ
shape_of (Leaf l) = 0
shape_of Idle = 1
shape_of Fail = 2
shape_of AllRules = 3
shape_of (Top e) = 4
shape_of (Star e) = 5
shape_of (Plus e) = 6
shape_of (Normal e) = 7
shape_of (Then e f) = 8
shape_of (Or e f) = 9
shape_of (OrElse e f) = 10
shape_of (If e f g) = 11
shape_of (Not e) = 12
shape_of (Try e) = 13
shape_of (TestOf e) = 14

leaf_shape : (e : Strategy) → IsLeaf e → shape e ≡ 0
leaf_shape (label n gs) h = refl
leaf_shape (call n ts) h = refl
leaf_shape (test k p c) h = refl
leaf_shape (part_rewrite k p c us) h = refl
leaf_shape (label_by n gs es) h = refl
leaf_shape _ h = absurd h

module _ (leaf : ℕ → Strategy) (leaves : ℕ) (apart : TellsApart leaf leaves) (are_leaves : (l : ℕ) → l < leaves → IsLeaf (leaf l)) where
  shape_is : (g : ℕ → Strategy) (f : Form) → LeafIn leaves f → shape (strategy_over leaf g f) ≡ shape_of f
  shape_is g (Leaf l) h = leaf_shape (leaf l.0) (are_leaves l.0 h)
  shape_is g _ h = refl

  -- where numbers below m and n have one strategy only if they are one
  module _ (g : ℕ → Strategy) (m n : ℕ) (one_part : (i j : ℕ) → i < m → j < n → g i ≡ g j → i ≡ j) where
    same_shape : (s r : Form) → LeafIn leaves s → LeafIn leaves r → strategy_over leaf g s ≡ strategy_over leaf g r → shape_of s ≡ shape_of r
    same_shape s r p q e = sym (shape_is g s p) ∙ ap shape e ∙ shape_is g r q

    part : (d e : StrategyId) → AreBelow m (d.0 ∷ []) → AreBelow n (e.0 ∷ []) → g d.0 ≡ g e.0 → d ≡ e
    part d e p q h = let k = one_part d.0 e.0 (one m d.0 p) (one n e.0 q) h in λ t. record { 0 = k t }

    pair : (d d' e e' : StrategyId) → AreBelow m (d.0 ∷ d'.0 ∷ []) → AreBelow n (e.0 ∷ e'.0 ∷ []) → g d.0 ≡ g e.0 → g d'.0 ≡ g e'.0 → (d ≡ e) × (d' ≡ e')
    pair d d' e e' p q h h' =
        let k = one_part d.0 e.0 (first_of_two m d.0 d'.0 p) (first_of_two n e.0 e'.0 q) h in
        let k' = one_part d'.0 e'.0 (two m d.0 d'.0 p) (two n e.0 e'.0 q) h' in
        ((λ t. record { 0 = k t }), λ t. record { 0 = k' t })

    same_form : (s r : Form) → LeafIn leaves s → LeafIn leaves r → AreBelow m (parts s) → AreBelow n (parts r) → strategy_over leaf g s ≡ strategy_over leaf g r → s ≡ r
    same_form (Leaf l) (Leaf l') a b p q h = let k = apart l.0 l'.0 a b h in λ t. Leaf (record { 0 = k t })
    same_form Idle Idle a b p q h = refl
    same_form Fail Fail a b p q h = refl
    same_form AllRules AllRules a b p q h = refl
    same_form (Top d) (Top e) a b p q h = ap Top (part d e p q (cc))
    same_form (Star d) (Star e) a b p q h = ap Star (part d e p q (cc))
    same_form (Plus d) (Plus e) a b p q h = ap Plus (part d e p q (cc))
    same_form (Normal d) (Normal e) a b p q h = ap Normal (part d e p q (cc))
    same_form (Then d d') (Then e e') a b p q h = let k = pair d d' e e' p q (cc) (cc) in ap₂ Then k.0 k.1
    same_form (Or d d') (Or e e') a b p q h = let k = pair d d' e e' p q (cc) (cc) in ap₂ Or k.0 k.1
    same_form (OrElse d d') (OrElse e e') a b p q h = let k = pair d d' e e' p q (cc) (cc) in ap₂ OrElse k.0 k.1
    same_form (If d d' d'') (If e e' e'') a b p q h =
        let f : g d.0 ≡ g e.0 = cc in
        let i = one_part d.0 e.0 (first_of_three m d.0 d'.0 d''.0 p) (first_of_three n e.0 e'.0 e''.0 q) f in
        let k = pair d' d'' e' e'' (others_of_three m d.0 d'.0 d''.0 p) (others_of_three n e.0 e'.0 e''.0 q) (cc) (cc) in
        λ t. If (record { 0 = i t }) (k.0 t) (k.1 t)
    same_form (Not d) (Not e) a b p q h = ap Not (part d e p q (cc))
    same_form (Try d) (Try e) a b p q h = ap Try (part d e p q (cc))
    same_form (TestOf d) (TestOf e) a b p q h = ap TestOf (part d e p q (cc))
    same_form s r a b p q h = let k = same_shape s r a b h in absurd (omega arith)

  form_there : (fs : List Form) (n : ℕ) → All (LeafIn leaves) fs → n < length fs → (f : Form) × (slice_get fs n ≡ Some f) × LeafIn leaves f
  form_there [] n all h = absurd (omega arith)
  form_there (f ∷ fs) zero all h = (f, refl, All-head (LeafIn leaves) f fs all)
  form_there (f ∷ fs) (suc n) all h = form_there fs n (All-tail (LeafIn leaves) f fs all) (omega arith)

  -- the numbers below n, by induction on n
  below : (fs : List Form) → AreForms fs → All (LeafIn leaves) fs → (n j k : ℕ) → j < n → j < length fs → k < length fs → strategy_at leaf fs j ≡ strategy_at leaf fs k → j ≡ k
  below fs are all zero j k h p q e = absurd (omega arith)
  below fs are all (suc n) j k h p q e =
      let s = form_there fs j all p in
      let r = form_there fs k all q in
      let whole = sym (strategy_of_form leaf fs are j s.0 s.1) ∙ e ∙ strategy_of_form leaf fs are k r.0 r.1 in
      let same : s.0 ≡ r.0 = same_form (strategy_at leaf fs) j k (λ i l a b. below fs are all n i l (omega arith) (omega arith) (omega arith)) s.0 r.0 s.2 r.2 (are.older j s.0 s.1) (are.older k r.0 r.1) whole in
      are.once j k r.0 (s.1 ∙ ap Some same) r.1

pub one_number_where_one_strategy : OneNumberWhereOneStrategy
one_number_where_one_strategy leaf leaves apart are_leaves forms are all i j p q =
    (λ e. ap (strategy_at leaf forms) e, below leaf leaves apart are_leaves forms are all (suc i) i j (omega arith) p q)

-- ---- a form that is put in

pub forms_added : (old new : List Form) (f : Form) → (new ≡ old) ⊎ (new ≡ old ++ f ∷ []) → EachOnce new → AreBelow (length old) (parts f) → AreForms old → AreForms new
forms_added old new f (inl e) once below are = subst AreForms (sym e) are
forms_added old new f (inr e) once below are = record { once = once; older = older }
  where
    older : (n : ℕ) (s : Form) → slice_get new n ≡ Some s → AreBelow n (parts s)
    older n s p = by (place_push old f s n (ap (λ xs. slice_get xs n) (sym e) ∙ p))
      where
        by : (slice_get old n ≡ Some s) ⊎ ((n ≡ length old) × (s ≡ f)) → AreBelow n (parts s)
        by (inl q) = are.older n s q
        by (inr q) = subst (λ m. AreBelow m (parts s)) (sym q.0) (subst (λ z. AreBelow (length old) (parts z)) (sym q.1) below)
