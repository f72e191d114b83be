-- Strategies are added, part after part.
use Rattle.std.proofs.Common.{◌≡◌, ◌⊎◌, inl, inr, ℕ, zero, suc, ◌+◌, ◌<◌, ◌≤◌, List, [], ◌∷◌, ◌++◌, length, slice_get, Some, All, Result, Ok, Err, IfOk, refl, ap, ap₂, sym, ◌∙◌, subst, arith, length-append}
use Rattle.std.proofs.lemmas.List.Elements.{All-push, All-nil, All-cons, All-weaker}
use Rattle.mau_terms.specs.declared.memory.NoMemory.{NoMemory}
use Rattle.mau_evaluation.specs.Strategy.{Strategy, branch}
use Rattle.mau_program.specs.Trees.{StrategyOf}
use Rattle.mau_strat.specs.declared.configs.StrategyId.{StrategyId}
use Rattle.mau_strat.specs.declared.forms.LeafId.{LeafId}
use Rattle.mau_strat.specs.declared.forms.Form.{Form}
use Rattle.mau_strat.specs.declared.forms.Form.TheVariants.{Leaf, Idle, Fail, All as AllRules, Top, Star, Plus, Normal, Then, Or, OrElse, If, Not, Try, TestOf}
use Rattle.mau_strat.specs.Sharing.{Extends}
use Rattle.mau_strat.specs.Forms.{parts, AreBelow, AreForms, LeafIn, strategy_at, strategy_over}
use Rattle.mau_strat.proofs.Interning.{extends_added, extends_itself}
use Rattle.mau_strat.proofs.FormsApart.{numbers_keep_strategies, strategy_of_form, over_same}
use Rattle.mau_stratforms.specs.declared.maker.One.{One}
use Rattle.mau_stratforms.specs.declared.maker.One.TheVariants as one
use Rattle.mau_stratforms.specs.declared.maker.Two.{Two}
use Rattle.mau_stratforms.specs.declared.maker.Two.TheVariants as two
use Rattle.mau_stratforms.specs.Meanings.{meant}
use Rattle.mau_stratforms.specs.Made.{Goes, HasLeaves, IsMade}
use Rattle.mau_stratforms.specs.Parts.{form_one, over_one, form_two, over_two}

-- ---- lists that grow

extends_through : {A : Type 0} (xs ys zs : List A) → Extends xs ys → Extends ys zs → Extends xs zs
extends_through {A = A} xs ys zs a b = (a.0 ++ b.0, b.1 ∙ (ap (λ w. w ++ b.0) a.1 ∙ assoc xs a.0 b.0))
  where
    assoc : (u v w : List A) → (u ++ v) ++ w ≡ u ++ (v ++ w)
    assoc [] v w = refl
    assoc (x ∷ u) v w = ap (λ y. x ∷ y) (assoc u v w)

pub get_kept : {A : Type 0} (old new : List A) (n : ℕ) (x : A) → Extends old new → slice_get old n ≡ Some x → slice_get new n ≡ Some x
get_kept {A = A} old new n x e h = ap (λ xs. slice_get xs n) e.1 ∙ front old n h
  where
    front : (xs : List A) (n : ℕ) → slice_get xs n ≡ Some x → slice_get (xs ++ e.0) n ≡ Some x
    front [] n h = absurd (cc)
    front (y ∷ ys) zero h = h
    front (y ∷ ys) (suc n) h = front ys n h

pub longer : {A : Type 0} (old new : List A) → Extends old new → length old ≤ length new
longer old new e = let h : length new ≡ length old + length e.0 = ap length e.1 ∙ length-append old e.0 in omega arith

-- ---- leaves that forms have

leaf_wider : (m n : ℕ) → m ≤ n → (f : Form) → LeafIn m f → LeafIn n f
leaf_wider m n l (Leaf k) h = omega arith
leaf_wider m n l Idle h = tt
leaf_wider m n l Fail h = tt
leaf_wider m n l AllRules h = tt
leaf_wider m n l (Top e) h = tt
leaf_wider m n l (Star e) h = tt
leaf_wider m n l (Plus e) h = tt
leaf_wider m n l (Normal e) h = tt
leaf_wider m n l (Then e f) h = tt
leaf_wider m n l (Or e f) h = tt
leaf_wider m n l (OrElse e f) h = tt
leaf_wider m n l (If e f g) h = tt
leaf_wider m n l (Not e) h = tt
leaf_wider m n l (Try e) h = tt
leaf_wider m n l (TestOf e) h = tt

pub leaves_wider : (m n : ℕ) → m ≤ n → (forms : List Form) → All (LeafIn m) forms → All (LeafIn n) forms
leaves_wider m n l forms h = All-weaker (LeafIn m) (LeafIn n) (leaf_wider m n l) forms h

-- ---- what is added

pub goes_through : (f : List Form) (t : List Strategy) (f' : List Form) (t' : List Strategy) (f'' : List Form) (t'' : List Strategy) → Goes f t f' t' → Goes f' t' f'' t'' → Goes f t f'' t''
goes_through f t f' t' f'' t'' a b = record { forms = extends_through f f' f'' a.forms b.forms; table = extends_through t t' t'' a.table b.table; are_forms = b.are_forms; leaves = b.leaves }

pub goes_nowhere : (f : List Form) (t : List Strategy) → AreForms f → All (LeafIn (length t)) f → Goes f t f t
goes_nowhere f t a l = record { forms = extends_itself f; table = extends_itself t; are_forms = a; leaves = l }

-- the table grows alone
pub goes_to_table : (f : List Form) (t t' : List Strategy) → AreForms f → All (LeafIn (length t)) f → Extends t t' → Goes f t f t'
goes_to_table f t t' a l e = record { forms = extends_itself f; table = e; are_forms = a; leaves = leaves_wider (length t) (length t') (longer t t' e) f l }

leaves_before : (leaf : ℕ → Strategy) (t t' : List Strategy) → Extends t t' → HasLeaves leaf t' → HasLeaves leaf t
leaves_before leaf t t' e h l x k = h l x (get_kept t t' l x e k)

pub made_stays : (f : List Form) (t : List Strategy) (f' : List Form) (t' : List Strategy) → Goes f t f' t' → (s : Strategy) (n : ℕ) → IsMade f t s n → IsMade f' t' s n
made_stays f t f' t' g s n m =
    let l : length f ≤ length f' = longer f f' g.forms in
    let b : n < length f = m.0 in
    (omega arith, λ leaf h. numbers_keep_strategies leaf f f' g.forms n b ∙ m.1 leaf (leaves_before leaf t t' g.table h))

-- ---- a form is put behind its parts

module _ (old new : List Form) (f : Form) (a : (new ≡ old) ⊎ (new ≡ old ++ f ∷ [])) where
  pub put_extends : Extends old new
  put_extends = extends_added old new f a

  pub put_leaves : (n : ℕ) → LeafIn n f → All (LeafIn n) old → All (LeafIn n) new
  put_leaves n h all = by a
    where
      by : (new ≡ old) ⊎ (new ≡ old ++ f ∷ []) → All (LeafIn n) new
      by (inl e) = subst (All (LeafIn n)) (sym e) all
      by (inr e) = subst (All (LeafIn n)) (sym e) (All-push (LeafIn n) old f all h)

  pub put_goes : (t : List Strategy) → AreForms new → LeafIn (length t) f → All (LeafIn (length t)) old → Goes old t new t
  put_goes t are h all = record { forms = put_extends; table = extends_itself t; are_forms = are; leaves = put_leaves (length t) h all }

  pub put_strategy : AreForms new → AreBelow (length old) (parts f) → (leaf : ℕ → Strategy) (id : ℕ) → slice_get new id ≡ Some f → strategy_at leaf new id ≡ strategy_over leaf (strategy_at leaf old) f
  put_strategy are below leaf id h =
      strategy_of_form leaf new are id f h ∙ over_same leaf (strategy_at leaf new) (strategy_at leaf old) (length old) f below (λ i b. numbers_keep_strategies leaf old new put_extends i b)

pub if_ok : {A E : Type 0} {P Q : A → Type 0} (r : Result A E) → IfOk r P → ((x : A) → P x → Q x) → IfOk r Q
if_ok (Ok x) p f = f x p
if_ok (Err e) p f = tt

-- what was put: a strategy over those of the parts
abbrev pub IsPut : List Form → Form → List Form → ℕ → Type 0
IsPut f form f' n = (n < length f') × ((leaf : ℕ → Strategy) → strategy_at leaf f' n ≡ strategy_over leaf (strategy_at leaf f) form)

pub put_made : (r : Result StrategyId NoMemory) (f : List Form) (form : Form) (f' : List Form) → IfOk r (λ id. id.0 < length f') →
    ((leaf : ℕ → Strategy) → IfOk r (λ id. strategy_at leaf f' id.0 ≡ strategy_over leaf (strategy_at leaf f) form)) → IfOk r (λ id. IsPut f form f' id.0)
put_made (Ok id) f form f' a b = (a, b)
put_made (Err e) f form f' a b = tt

-- the table is as it was
pub made_over : (f' : List Form) (old new : List StrategyOf) (s : Strategy) (n : ℕ) → new ≡ old → IsMade f' (meant old) s n → IsMade f' (meant new) s n
made_over f' old new s n e m = subst (λ t. IsMade f' (meant t) s n) (sym e) m

module _ (f : List Form) (t : List Strategy) (f' : List Form) (n : ℕ) where
  pub plain_made : (form : Form) (s : Strategy) → ((leaf g : ℕ → Strategy) → strategy_over leaf g form ≡ s) → IsPut f form f' n → IsMade f' t s n
  plain_made form s e p = (p.0, λ leaf h. p.1 leaf ∙ e leaf (strategy_at leaf f))

  pub leaf_made : (l : LeafId) (s : Strategy) → slice_get t l.0 ≡ Some s → IsPut f (Leaf l) f' n → IsMade f' t s n
  leaf_made l s k p = (p.0, λ leaf h. p.1 leaf ∙ h l.0 s k)

  pub one_made : (k : One) (e : StrategyId) (s : Strategy) → IsMade f t s e.0 → IsPut f (form_one k e) f' n → IsMade f' t (over_one k s) n
  one_made k e s m p = (p.0, λ leaf h. p.1 leaf ∙ (by leaf k ∙ ap (over_one k) (m.1 leaf h)))
    where
      by : (leaf : ℕ → Strategy) (x : One) → strategy_over leaf (strategy_at leaf f) (form_one x e) ≡ over_one x (strategy_at leaf f e.0)
      by leaf one.Top = refl
      by leaf one.Star = refl
      by leaf one.Plus = refl
      by leaf one.Normal = refl
      by leaf one.Not = refl
      by leaf one.Try = refl
      by leaf one.TestOf = refl

  pub two_made : (k : Two) (d e : StrategyId) (r s : Strategy) → IsMade f t r d.0 → IsMade f t s e.0 → IsPut f (form_two k d e) f' n → IsMade f' t (over_two k r s) n
  two_made k d e r s m o p = (p.0, λ leaf h. p.1 leaf ∙ (by leaf k ∙ ap₂ (over_two k) (m.1 leaf h) (o.1 leaf h)))
    where
      by : (leaf : ℕ → Strategy) (x : Two) → strategy_over leaf (strategy_at leaf f) (form_two x d e) ≡ over_two x (strategy_at leaf f d.0) (strategy_at leaf f e.0)
      by leaf two.Then = refl
      by leaf two.Or = refl
      by leaf two.OrElse = refl

  pub branch_made : (c d e : StrategyId) (q r s : Strategy) → IsMade f t q c.0 → IsMade f t r d.0 → IsMade f t s e.0 → IsPut f (If c d e) f' n → IsMade f' t (branch q r s) n
  branch_made c d e q r s l m o p = (p.0, λ leaf h. p.1 leaf ∙ (ap₂ (λ x y. branch x y (strategy_at leaf f e.0)) (l.1 leaf h) (m.1 leaf h) ∙ ap (branch q r) (o.1 leaf h)))

-- ---- the parts are there

pub one_below : (n : ℕ) (k : One) (e : StrategyId) → e.0 < n → AreBelow n (parts (form_one k e))
one_below n k e h = by k
  where
    all : AreBelow n (e.0 ∷ [])
    all = All-cons (λ i. i < n) e.0 [] h (All-nil (λ i. i < n))

    by : (x : One) → AreBelow n (parts (form_one x e))
    by one.Top = all
    by one.Star = all
    by one.Plus = all
    by one.Normal = all
    by one.Not = all
    by one.Try = all
    by one.TestOf = all

pub one_inner : (n : ℕ) (k : One) (e : StrategyId) → LeafIn n (form_one k e)
one_inner n one.Top e = tt
one_inner n one.Star e = tt
one_inner n one.Plus e = tt
one_inner n one.Normal e = tt
one_inner n one.Not e = tt
one_inner n one.Try e = tt
one_inner n one.TestOf e = tt

pub two_below : (n : ℕ) (k : Two) (d e : StrategyId) → d.0 < n → e.0 < n → AreBelow n (parts (form_two k d e))
two_below n k d e h i = by k
  where
    all : AreBelow n (d.0 ∷ e.0 ∷ [])
    all = All-cons (λ j. j < n) d.0 (e.0 ∷ []) h (All-cons (λ j. j < n) e.0 [] i (All-nil (λ j. j < n)))

    by : (x : Two) → AreBelow n (parts (form_two x d e))
    by two.Then = all
    by two.Or = all
    by two.OrElse = all

pub two_inner : (n : ℕ) (k : Two) (d e : StrategyId) → LeafIn n (form_two k d e)
two_inner n two.Then d e = tt
two_inner n two.Or d e = tt
two_inner n two.OrElse d e = tt

pub branch_below : (n : ℕ) (c d e : StrategyId) → c.0 < n → d.0 < n → e.0 < n → AreBelow n (parts (If c d e))
branch_below n c d e h i j = All-cons (λ k. k < n) c.0 (d.0 ∷ e.0 ∷ []) h (All-cons (λ k. k < n) d.0 (e.0 ∷ []) i (All-cons (λ k. k < n) e.0 [] j (All-nil (λ k. k < n))))
