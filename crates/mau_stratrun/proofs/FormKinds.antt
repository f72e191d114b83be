-- In which way the successors of a strategy come, by its form; and forms that are added.
use Rattle.std.proofs.Common.{◌≡◌, ◌⊎◌, inl, inr, ℕ, ◌<◌, List, [], ◌∷◌, ◌++◌, length, slice_get, Some, All, Result, Ok, Err, IfOk, refl, ap, sym, ◌∙◌, subst, arith}
use Rattle.std.proofs.lemmas.List.Elements.{All-push, All-nil, All-cons, All-head, All-tail, All-weaker}
use Rattle.std.proofs.lemmas.Option.{slice_get_within, get_or_from_slice_get}
use Rattle.mau_evaluation.specs.Strategy.{Strategy, branch, top_only, every_rule, star}
use Rattle.mau_strat.specs.declared.configs.StrategyId.{StrategyId}
use Rattle.mau_strat.specs.declared.forms.LeafId.{LeafId}
use Rattle.mau_strat.specs.declared.forms.Form.{Form}
use Rattle.mau_strat.specs.declared.forms.Form.TheVariants.{Leaf, Idle, Fail, All as AllRules, Top, Star, Plus, Normal, Then, Or, OrElse, If, Not, Try, TestOf}
use Rattle.mau_strat.specs.Sharing.{Extends}
use Rattle.mau_strat.specs.Forms.{parts, AreBelow, AreForms, LeafIn, strategy_at, strategy_over}
use Rattle.mau_strat.proofs.Interning.{extends_added}
use Rattle.mau_strat.proofs.FormsApart.{numbers_keep_strategies, strategy_of_form, over_same}
use Rattle.mau_stratrun.specs.Turns.{IsNoTop, HasTurns, IsDerived, turns}

module _ (leaf : ℕ → Strategy) (g : ℕ → Strategy) where
  no_top : (f : Form) → ((l : LeafId) → f ≡ Leaf l → ⊥) → (f ≡ AllRules → ⊥) → IsNoTop (strategy_over leaf g f)
  no_top (Leaf l) a b = absurd (a l refl)
  no_top Idle a b = tt
  no_top Fail a b = tt
  no_top AllRules a b = absurd (b refl)
  no_top (Top e) a b = tt
  no_top (Star e) a b = tt
  no_top (Plus e) a b = tt
  no_top (Normal e) a b = tt
  no_top (Then e f) a b = tt
  no_top (Or e f) a b = tt
  no_top (OrElse e f) a b = tt
  no_top (If e f h) a b = tt
  no_top (Not e) a b = tt
  no_top (Try e) a b = tt
  no_top (TestOf e) a b = tt

  has_turns : (f : Form) → ((l : LeafId) → f ≡ Leaf l → ⊥) → (f ≡ AllRules → ⊥) → ((e : StrategyId) → f ≡ Top e → ⊥) → ((e h k : StrategyId) → f ≡ If e h k → ⊥) → HasTurns (strategy_over leaf g f)
  has_turns (Leaf l) a b c d = absurd (a l refl)
  has_turns Idle a b c d = tt
  has_turns Fail a b c d = tt
  has_turns AllRules a b c d = absurd (b refl)
  has_turns (Top e) a b c d = absurd (c e refl)
  has_turns (Star e) a b c d = tt
  has_turns (Plus e) a b c d = tt
  has_turns (Normal e) a b c d = tt
  has_turns (Then e f) a b c d = tt
  has_turns (Or e f) a b c d = tt
  has_turns (OrElse e f) a b c d = tt
  has_turns (If e f h) a b c d = absurd (d e f h refl)
  has_turns (Not e) a b c d = tt
  has_turns (Try e) a b c d = tt
  has_turns (TestOf e) a b c d = tt

module _ (leaf : ℕ → Strategy) (forms : List Form) (are : AreForms forms) (n : ℕ) (f : Form) (h : slice_get forms n ≡ Some f) where
  pub form_is : strategy_at leaf forms n ≡ strategy_over leaf (strategy_at leaf forms) f
  form_is = strategy_of_form leaf forms are n f h

  pub plain_turns : ((l : LeafId) → f ≡ Leaf l → ⊥) → (f ≡ AllRules → ⊥) → ((e : StrategyId) → f ≡ Top e → ⊥) → ((e x k : StrategyId) → f ≡ If e x k → ⊥) → HasTurns (strategy_at leaf forms n)
  plain_turns a b c d = subst HasTurns (sym form_is) (has_turns leaf (strategy_at leaf forms) f a b c d)

  pub top_turns : (e : StrategyId) → f ≡ Top e → (k : Form) → slice_get forms e.0 ≡ Some k → ((l : LeafId) → k ≡ Leaf l → ⊥) → (k ≡ AllRules → ⊥) → HasTurns (strategy_at leaf forms n)
  top_turns e p k m a b =
      let inner : strategy_at leaf forms e.0 ≡ strategy_over leaf (strategy_at leaf forms) k = strategy_of_form leaf forms are e.0 k m in
      let whole : strategy_at leaf forms n ≡ top_only (strategy_at leaf forms e.0) = form_is ∙ ap (strategy_over leaf (strategy_at leaf forms)) p in
      subst HasTurns (sym whole) (subst IsNoTop (sym inner) (no_top leaf (strategy_at leaf forms) k a b))

  pub part_below : n < length forms
  part_below = slice_get_within forms n f h

-- ---- forms that are added

leaf_in : (n : ℕ) (f : Form) → LeafIn 0 f → LeafIn n f
leaf_in n (Leaf l) h = absurd (omega arith)
leaf_in n Idle h = tt
leaf_in n Fail h = tt
leaf_in n AllRules h = tt
leaf_in n (Top e) h = tt
leaf_in n (Star e) h = tt
leaf_in n (Plus e) h = tt
leaf_in n (Normal e) h = tt
leaf_in n (Then e f) h = tt
leaf_in n (Or e f) h = tt
leaf_in n (OrElse e f) h = tt
leaf_in n (If e f g) h = tt
leaf_in n (Not e) h = tt
leaf_in n (Try e) h = tt
leaf_in n (TestOf e) h = tt

module _ (old new : List Form) (f : Form) (a : (new ≡ old) ⊎ (new ≡ old ++ f ∷ [])) where
  pub form_extends : Extends old new
  form_extends = extends_added old new f a

  pub form_leaves : LeafIn 0 f → (n : ℕ) → All (LeafIn n) old → All (LeafIn n) new
  form_leaves h n all = by a
    where
      by : (new ≡ old) ⊎ (new ≡ old ++ f ∷ []) → All (LeafIn n) new
      by (inl e) = subst (All (LeafIn n)) (sym e) all
      by (inr e) = subst (All (LeafIn n)) (sym e) (All-push (LeafIn n) old f all (leaf_in n f h))

  pub form_kept : (leaf : ℕ → Strategy) (n : ℕ) → n < length old → strategy_at leaf new n ≡ strategy_at leaf old n
  form_kept leaf n b = numbers_keep_strategies leaf old new form_extends n b

  pub form_added : AreForms new → AreBelow (length old) (parts f) → (leaf : ℕ → Strategy) (id : ℕ) → slice_get new id ≡ Some f → strategy_at leaf new id ≡ strategy_over leaf (strategy_at leaf old) f
  form_added are below leaf id h = strategy_of_form leaf new are id f h ∙ over_same leaf (strategy_at leaf new) (strategy_at leaf old) (length old) f below (λ i b. form_kept leaf i b)

-- ---- the kind of a form

pub in_all : {A : Type 0} (P : A → Type 0) (xs : List A) (n : ℕ) (x : A) → All P xs → slice_get xs n ≡ Some x → P x
in_all P xs n x all h = subst P (get_or_from_slice_get xs n x x h) (all n x (slice_get_within xs n x h))

module _ (leaf : ℕ → Strategy) (forms : List Form) (are : AreForms forms) (n : ℕ) (f : Form) (h : slice_get forms n ≡ Some f) where
  pub kind_leaf : (l : LeafId) → f ≡ Leaf l → (leaves : ℕ) → All (LeafIn leaves) forms → (strategy_at leaf forms n ≡ leaf l.0) × (l.0 < leaves)
  kind_leaf l e leaves all = (form_is leaf forms are n f h ∙ ap (strategy_over leaf (strategy_at leaf forms)) e, in_all (LeafIn leaves) forms n (Leaf l) all (h ∙ ap Some e))

  pub kind_all : f ≡ AllRules → strategy_at leaf forms n ≡ every_rule
  kind_all e = form_is leaf forms are n f h ∙ ap (strategy_over leaf (strategy_at leaf forms)) e

  pub kind_if : (t u v : StrategyId) → f ≡ If t u v →
      (strategy_at leaf forms n ≡ branch (strategy_at leaf forms t.0) (strategy_at leaf forms u.0) (strategy_at leaf forms v.0)) × (t.0 < length forms) × (u.0 < length forms) × (v.0 < length forms)
  kind_if t u v e =
      let below : AreBelow n (t.0 ∷ u.0 ∷ v.0 ∷ []) = are.older n (If t u v) (h ∙ ap Some e) in
      let m : n < length forms = slice_get_within forms n f h in
      let a : t.0 < n = All-head (λ i. i < n) t.0 (u.0 ∷ v.0 ∷ []) below in
      let r = All-tail (λ i. i < n) t.0 (u.0 ∷ v.0 ∷ []) below in
      let b : u.0 < n = All-head (λ i. i < n) u.0 (v.0 ∷ []) r in
      let c : v.0 < n = All-head (λ i. i < n) v.0 [] (All-tail (λ i. i < n) u.0 (v.0 ∷ []) r) in
      (form_is leaf forms are n f h ∙ ap (strategy_over leaf (strategy_at leaf forms)) e, omega arith, omega arith, omega arith)

  -- of `top(A)`
  module _ (e : StrategyId) (p : f ≡ Top e) (k : Form) (m : slice_get forms e.0 ≡ Some k) where
    top_is : strategy_at leaf forms n ≡ top_only (strategy_at leaf forms e.0)
    top_is = form_is leaf forms are n f h ∙ ap (strategy_over leaf (strategy_at leaf forms)) p

    pub kind_top_leaf : (l : LeafId) → k ≡ Leaf l → (leaves : ℕ) → All (LeafIn leaves) forms → (strategy_at leaf forms n ≡ top_only (leaf l.0)) × (l.0 < leaves)
    kind_top_leaf l q leaves all =
        (top_is ∙ ap top_only (form_is leaf forms are e.0 k m ∙ ap (strategy_over leaf (strategy_at leaf forms)) q), in_all (LeafIn leaves) forms e.0 (Leaf l) all (m ∙ ap Some q))

    pub kind_top_all : k ≡ AllRules → strategy_at leaf forms n ≡ top_only every_rule
    kind_top_all q = top_is ∙ ap top_only (form_is leaf forms are e.0 k m ∙ ap (strategy_over leaf (strategy_at leaf forms)) q)

-- what follows from what is said of a value
pub if_ok : {A E : Type 0} {P Q : A → Type 0} (r : Result A E) → IfOk r P → ((x : A) → P x → Q x) → IfOk r Q
if_ok (Ok x) p f = f x p
if_ok (Err e) p f = tt

-- one that is no leaf
pub inner_form : (f : Form) → ((l : LeafId) → f ≡ Leaf l → ⊥) → LeafIn 0 f
inner_form (Leaf l) h = absurd (h l refl)
inner_form Idle h = tt
inner_form Fail h = tt
inner_form AllRules h = tt
inner_form (Top e) h = tt
inner_form (Star e) h = tt
inner_form (Plus e) h = tt
inner_form (Normal e) h = tt
inner_form (Then e f) h = tt
inner_form (Or e f) h = tt
inner_form (OrElse e f) h = tt
inner_form (If e f g) h = tt
inner_form (Not e) h = tt
inner_form (Try e) h = tt
inner_form (TestOf e) h = tt

-- ---- what is done first

module _ (leaf : ℕ → Strategy) (forms : List Form) (are : AreForms forms) (n : ℕ) (f : Form) (h : slice_get forms n ≡ Some f) where
  pub turns_are : (k : Form) → f ≡ k → turns (strategy_at leaf forms n) ≡ turns (strategy_over leaf (strategy_at leaf forms) k)
  turns_are k e = ap turns (form_is leaf forms are n f h ∙ ap (strategy_over leaf (strategy_at leaf forms)) e)

  pub parts_below : (k : Form) → f ≡ k → AreBelow (length forms) (parts k)
  parts_below k e = let m : n < length forms = slice_get_within forms n f h in All-weaker (λ i. i < n) (λ i. i < length forms) (λ i p. omega arith) (parts k) (are.older n k (h ∙ ap Some e))

  pub star_is : (e : StrategyId) → f ≡ Star e → turns (strategy_at leaf forms n) ≡ [] ∷ (strategy_at leaf forms e.0 ∷ strategy_at leaf forms n ∷ []) ∷ []
  star_is e k =
      let q : strategy_at leaf forms n ≡ star (strategy_at leaf forms e.0) = form_is leaf forms are n f h ∙ ap (strategy_over leaf (strategy_at leaf forms)) k in
      ap turns q ∙ ap (λ z. [] ∷ (strategy_at leaf forms e.0 ∷ z ∷ []) ∷ []) (sym q)

  is_derived : (k : Form) → LeafIn 0 k → HasTurns (strategy_over leaf (strategy_at leaf forms) k) → (k ≡ Idle → ⊥) → ((e : StrategyId) → k ≡ Star e → ⊥) → ((e g : StrategyId) → k ≡ Then e g → ⊥) → ((e g : StrategyId) → k ≡ Or e g → ⊥) → (k ≡ Fail → ⊥) →
      ((e : StrategyId) → k ≡ Top e → ⊥) → IsDerived k
  is_derived (Leaf m) l t a b c o d z = absurd (omega arith)
  is_derived Idle l t a b c o d z = absurd (a refl)
  is_derived Fail l t a b c o d z = absurd (d refl)
  is_derived AllRules l t a b c o d z = absurd t
  is_derived (Top e) l t a b c o d z = absurd (z e refl)
  is_derived (Star e) l t a b c o d z = absurd (b e refl)
  is_derived (Plus e) l t a b c o d z = tt
  is_derived (Normal e) l t a b c o d z = tt
  is_derived (Then e f) l t a b c o d z = absurd (c e f refl)
  is_derived (Or e f) l t a b c o d z = absurd (o e f refl)
  is_derived (OrElse e f) l t a b c o d z = tt
  is_derived (If e f g) l t a b c o d z = absurd t
  is_derived (Not e) l t a b c o d z = tt
  is_derived (Try e) l t a b c o d z = tt
  is_derived (TestOf e) l t a b c o d z = tt

  pub derived_form : LeafIn 0 f → HasTurns (strategy_at leaf forms n) → (f ≡ Idle → ⊥) → ((e : StrategyId) → f ≡ Star e → ⊥) → ((e g : StrategyId) → f ≡ Then e g → ⊥) → ((e g : StrategyId) → f ≡ Or e g → ⊥) → (f ≡ Fail → ⊥) →
      ((e : StrategyId) → f ≡ Top e → ⊥) → IsDerived f
  derived_form l t = is_derived f l (subst HasTurns (form_is leaf forms are n f h) t)

pub derived_turns : (leaf g : ℕ → Strategy) (f k : Form) (x y : Strategy) → f ≡ k → turns (strategy_over leaf g k) ≡ (x ∷ []) ∷ [] → y ≡ x → turns (strategy_over leaf g f) ≡ (y ∷ []) ∷ []
derived_turns leaf g f k x y e t h = ap (λ z. turns (strategy_over leaf g z)) e ∙ (t ∙ ap (λ z. (z ∷ []) ∷ []) (sym h))

pub one_below : (n e f : ℕ) → AreBelow n (e ∷ f ∷ []) → AreBelow n (e ∷ [])
one_below n e f h = All-cons (λ i. i < n) e [] (All-head (λ i. i < n) e (f ∷ []) h) (All-nil (λ i. i < n))
