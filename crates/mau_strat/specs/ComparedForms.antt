-- The derived `==` of forms says whether two are one.
use Rattle.std.specs.Prelude.{◌≡◌, ℕ, true, ◌&&◌}
use Rattle.std.specs.Bool.{Decides}
use Rattle.std.proofs.Common.{eqb, refl, ap, ap₂}
use Rattle.std.specs.Cmp.Derive.{both_true}
use Rattle.std.proofs.lemmas.Bool.Decides.{Decides-eqb}
use Rattle.mau_strat.specs.declared.configs.StrategyId.{StrategyId}
use Rattle.mau_strat.specs.declared.forms.Form.{Form}
use Rattle.mau_strat.specs.declared.forms.Form.TheVariants.{Leaf, Idle, Fail, All, Top, Star, Plus, Normal, Then, Or, OrElse, If, Not, Try, TestOf}
use Rattle.mau_strat.specs.contracts.forms.FormPartialEq.TheImpl.{eq-value}
use Rattle.mau_strat.specs.Compared.{parts}

number : (m n : ℕ) → Decides (eqb m n) (m ≡ n)
number m n = Decides-eqb m n

same_id : (d e : StrategyId) → eqb d.0 e.0 ≡ true → d ≡ e
same_id d e h = let k = (number d.0 e.0).0 h in λ t. record { 0 = k t }

id_same : (d e : StrategyId) → d ≡ e → eqb d.0 e.0 ≡ true
id_same d e h = (number d.0 e.0).1 (ap (λ (x : StrategyId). x.0) h)

pub Decides-form : (a b : Form) → Decides (eq-value.it a b) (a ≡ b)
Decides-form (Leaf l) (Leaf m) = (forth, λ h. (number l.0 m.0).1 (cc))
  where
    forth : eq-value.it (Leaf l) (Leaf m) ≡ true → Leaf l ≡ Leaf m
    forth h = let k = (number l.0 m.0).0 h in λ t. Leaf (record { 0 = k t })
Decides-form Idle Idle = ((λ h. refl), λ h. refl)
Decides-form Fail Fail = ((λ h. refl), λ h. refl)
Decides-form All All = ((λ h. refl), λ h. refl)
Decides-form (Top d) (Top e) = ((λ h. ap Top (same_id d e h)), λ h. id_same d e (cc))
Decides-form (Star d) (Star e) = ((λ h. ap Star (same_id d e h)), λ h. id_same d e (cc))
Decides-form (Plus d) (Plus e) = ((λ h. ap Plus (same_id d e h)), λ h. id_same d e (cc))
Decides-form (Normal d) (Normal e) = ((λ h. ap Normal (same_id d e h)), λ h. id_same d e (cc))
Decides-form (Not d) (Not e) = ((λ h. ap Not (same_id d e h)), λ h. id_same d e (cc))
Decides-form (Try d) (Try e) = ((λ h. ap Try (same_id d e h)), λ h. id_same d e (cc))
Decides-form (TestOf d) (TestOf e) = ((λ h. ap TestOf (same_id d e h)), λ h. id_same d e (cc))
Decides-form (Then d d') (Then e e') = (forth, λ h. both_true (id_same d e (cc)) (id_same d' e' (cc)))
  where
    forth : eq-value.it (Then d d') (Then e e') ≡ true → Then d d' ≡ Then e e'
    forth h = let p = parts (eqb d.0 e.0) (eqb d'.0 e'.0) h in ap₂ Then (same_id d e p.0) (same_id d' e' p.1)
Decides-form (Or d d') (Or e e') = (forth, λ h. both_true (id_same d e (cc)) (id_same d' e' (cc)))
  where
    forth : eq-value.it (Or d d') (Or e e') ≡ true → Or d d' ≡ Or e e'
    forth h = let p = parts (eqb d.0 e.0) (eqb d'.0 e'.0) h in ap₂ Or (same_id d e p.0) (same_id d' e' p.1)
Decides-form (OrElse d d') (OrElse e e') = (forth, λ h. both_true (id_same d e (cc)) (id_same d' e' (cc)))
  where
    forth : eq-value.it (OrElse d d') (OrElse e e') ≡ true → OrElse d d' ≡ OrElse e e'
    forth h = let p = parts (eqb d.0 e.0) (eqb d'.0 e'.0) h in ap₂ OrElse (same_id d e p.0) (same_id d' e' p.1)
Decides-form (If d d' d'') (If e e' e'') = (forth, λ h. both_true (id_same d e (cc)) (both_true (id_same d' e' (cc)) (id_same d'' e'' (cc))))
  where
    forth : eq-value.it (If d d' d'') (If e e' e'') ≡ true → If d d' d'' ≡ If e e' e''
    forth h =
        let p = parts (eqb d.0 e.0) (eqb d'.0 e'.0 && eqb d''.0 e''.0) h in
        let q = parts (eqb d'.0 e'.0) (eqb d''.0 e''.0) p.1 in
        let a = same_id d e p.0 in
        let b = same_id d' e' q.0 in
        let c = same_id d'' e'' q.1 in
        λ t. If (a t) (b t) (c t)
Decides-form a b = ((λ h. absurd (cc)), λ h. absurd (cc))
