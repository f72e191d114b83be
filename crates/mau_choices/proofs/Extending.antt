-- Bindings that are extended by the values of a solution.
use Rattle.std.proofs.Common.{◌≡◌, suc, List, [], ◌∷◌, ◌++◌, length, Bool, true, false, ◌||◌, if◌then◌else◌, refl, sym, ap, ap₂, ◌∙◌, subst}
use Rattle.std.proofs.lemmas.Bool.{or_parts}
use Rattle.mau_terms.specs.Tree.{Tree}
use Rattle.mau_terms.specs.Subst.{Variable, same_variable, has_variable, value_at}
use Rattle.mau_terms.proofs.Variables.{same-is, same_itself}
use Rattle.mau_evaluation.specs.Evaluation.{Binding, look_up, binds, extend}
use Rattle.mau_choices.proofs.Agreeing.{bound_variables}
use Rattle.mau_api.specs.Answers.{AreApart}

-- ---- one entry behind the others

end_keeps : (σ : Binding) (p : Variable × Tree) (x : Variable) → binds σ x ≡ true → (binds (σ ++ p ∷ []) x ≡ true) × (look_up (σ ++ p ∷ []) x ≡ look_up σ x)
end_keeps [] p x e = cc
end_keeps (f ∷ fs) p x e = by (same_variable f.0 x) e (end_keeps fs p x)
  where
    by : (w : Bool) → (w || binds fs x) ≡ true → (binds fs x ≡ true → (binds (fs ++ p ∷ []) x ≡ true) × (look_up (fs ++ p ∷ []) x ≡ look_up fs x)) →
        ((w || binds (fs ++ p ∷ []) x) ≡ true) × ((if w then f.1 else look_up (fs ++ p ∷ []) x) ≡ (if w then f.1 else look_up fs x))
    by true e rest = (refl, refl)
    by false e rest = rest e

end_own : (σ : Binding) (y : Variable) (v : Tree) → binds σ y ≡ false → (binds (σ ++ (y, v) ∷ []) y ≡ true) × (look_up (σ ++ (y, v) ∷ []) y ≡ v)
end_own [] y v e = (ap (λ w. w || false) (same_itself y), ap (λ w. if w then v else look_up [] y) (same_itself y))
end_own (f ∷ fs) y v e = by (same_variable f.0 y) e (end_own fs y v)
  where
    by : (w : Bool) → (w || binds fs y) ≡ false → (binds fs y ≡ false → (binds (fs ++ (y, v) ∷ []) y ≡ true) × (look_up (fs ++ (y, v) ∷ []) y ≡ v)) →
        ((w || binds (fs ++ (y, v) ∷ []) y) ≡ true) × ((if w then f.1 else look_up (fs ++ (y, v) ∷ []) y) ≡ v)
    by true e rest = cc
    by false e rest = rest e

end_other : (σ : Binding) (y : Variable) (v : Tree) (x : Variable) → same_variable y x ≡ false → (binds (σ ++ (y, v) ∷ []) x ≡ binds σ x) × (look_up (σ ++ (y, v) ∷ []) x ≡ look_up σ x)
end_other [] y v x e = (ap (λ w. w || false) e, ap (λ w. if w then v else look_up [] x) e)
end_other (f ∷ fs) y v x e =
    let rest = end_other fs y v x e in
    (ap (λ w. same_variable f.0 x || w) rest.0, ap (λ t. if same_variable f.0 x then f.1 else t) rest.1)

-- ---- all entries

-- what is bound stays
pub extension_keeps : (xs : List Variable) (vs : List Tree) (σ : Binding) (x : Variable) → binds σ x ≡ true → (binds (extend σ xs vs) x ≡ true) × (look_up (extend σ xs vs) x ≡ look_up σ x)
extension_keeps [] vs σ x e = (e, refl)
extension_keeps (y ∷ ys) [] σ x e = (e, refl)
extension_keeps (y ∷ ys) (v ∷ vs) σ x e = by (binds σ y) (extension_keeps ys vs)
  where
    by : (w : Bool) → ((τ : Binding) (x : Variable) → binds τ x ≡ true → (binds (extend τ ys vs) x ≡ true) × (look_up (extend τ ys vs) x ≡ look_up τ x)) →
        (binds (extend (if w then σ else σ ++ (y, v) ∷ []) ys vs) x ≡ true) × (look_up (extend (if w then σ else σ ++ (y, v) ∷ []) ys vs) x ≡ look_up σ x)
    by true rest = rest σ x e
    by false rest =
        let k = end_keeps σ (y, v) x e in
        let r = rest (σ ++ (y, v) ∷ []) x k.0 in
        (r.0, r.1 ∙ k.1)

-- the values of xs that σ binds are among vs
abbrev pub Suit : Binding → List Variable → List Tree → Type 0
Suit σ xs vs = (x : Variable) → has_variable xs x ≡ true → binds σ x ≡ true → look_up σ x ≡ value_at xs vs x

-- each of xs has its value
pub extension_has : (xs : List Variable) (vs : List Tree) (σ : Binding) → AreApart xs → length vs ≡ length xs → Suit σ xs vs → (x : Variable) → has_variable xs x ≡ true →
    (binds (extend σ xs vs) x ≡ true) × (look_up (extend σ xs vs) x ≡ value_at xs vs x)
extension_has [] vs σ d n h x e = cc
extension_has (y ∷ ys) [] σ d n h x e = cc
extension_has (y ∷ ys) (v ∷ vs) σ d n h x e = by (binds σ y) refl (extension_has ys vs) (extension_keeps ys vs)
  where
    suc-back : suc (length vs) ≡ suc (length ys) → length vs ≡ length ys
    suc-back q = cc

    -- a variable behind y is another one
    other : (z : Variable) → has_variable ys z ≡ true → same_variable y z ≡ false
    other z k = at (same_variable y z) refl
      where
        at : (w : Bool) → same_variable y z ≡ w → w ≡ false
        at true s = let c : true ≡ false = sym (subst (λ u. has_variable ys u ≡ true) (sym (same-is y z s)) k) ∙ d.0 in cc
        at false s = refl

    own_value : (z : Variable) → same_variable y z ≡ true → value_at (y ∷ ys) (v ∷ vs) z ≡ v
    own_value z s = ap (λ w. if w then v else value_at ys vs z) s

    later_value : (z : Variable) → same_variable y z ≡ false → value_at (y ∷ ys) (v ∷ vs) z ≡ value_at ys vs z
    later_value z s = ap (λ w. if w then v else value_at ys vs z) s

    by : (w : Bool) → binds σ y ≡ w →
        ((τ : Binding) → AreApart ys → length vs ≡ length ys → Suit τ ys vs → (x : Variable) → has_variable ys x ≡ true → (binds (extend τ ys vs) x ≡ true) × (look_up (extend τ ys vs) x ≡ value_at ys vs x)) →
        ((τ : Binding) (x : Variable) → binds τ x ≡ true → (binds (extend τ ys vs) x ≡ true) × (look_up (extend τ ys vs) x ≡ look_up τ x)) →
        (binds (extend (if w then σ else σ ++ (y, v) ∷ []) ys vs) x ≡ true) × (look_up (extend (if w then σ else σ ++ (y, v) ∷ []) ys vs) x ≡ value_at (y ∷ ys) (v ∷ vs) x)
    by true q rest keeps = at (same_variable y x) refl e
      where
        at : (w : Bool) → same_variable y x ≡ w → (w || has_variable ys x) ≡ true → (binds (extend σ ys vs) x ≡ true) × (look_up (extend σ ys vs) x ≡ value_at (y ∷ ys) (v ∷ vs) x)
        at true s k =
            let bound : binds σ x ≡ true = subst (λ z. binds σ z ≡ true) (same-is y x s) q in
            let r = keeps σ x bound in
            (r.0, r.1 ∙ h x e bound)
        at false s k =
            let r = rest σ d.1 (suc-back n) (λ z m b. h z (ap (λ w. w || has_variable ys z) (other z m) ∙ m) b ∙ later_value z (other z m)) x k in
            (r.0, r.1 ∙ sym (later_value x s))
    by false q rest keeps = at (same_variable y x) refl e
      where
        at : (w : Bool) → same_variable y x ≡ w → (w || has_variable ys x) ≡ true → (binds (extend (σ ++ (y, v) ∷ []) ys vs) x ≡ true) × (look_up (extend (σ ++ (y, v) ∷ []) ys vs) x ≡ value_at (y ∷ ys) (v ∷ vs) x)
        at true s k =
            let own = end_own σ y v q in
            let r = keeps (σ ++ (y, v) ∷ []) x (subst (λ z. binds (σ ++ (y, v) ∷ []) z ≡ true) (same-is y x s) own.0) in
            (r.0, r.1 ∙ (ap (look_up (σ ++ (y, v) ∷ [])) (sym (same-is y x s)) ∙ (own.1 ∙ sym (own_value x s))))
        at false s k =
            let r = rest (σ ++ (y, v) ∷ []) d.1 (suc-back n)
            (λ z m b.
            let o = end_other σ y v z (other z m) in
            o.1 ∙ (h z (ap (λ w. w || has_variable ys z) (other z m) ∙ m) (sym o.0 ∙ b) ∙ later_value z (other z m))) x k in
            (r.0, r.1 ∙ sym (later_value x s))

-- ---- none is bound twice

apart_end : (σ : Binding) (y : Variable) (v : Tree) → AreApart (bound_variables σ) → binds σ y ≡ false → AreApart (bound_variables (σ ++ (y, v) ∷ []))
apart_end [] y v d e = (refl, tt)
apart_end (f ∷ fs) y v d e =
    let p = or_parts (same_variable f.0 y) (binds fs y) e in
    (among fs f.0 d.0 p.0, apart_end fs y v d.1 p.1)
  where
    among : (es : Binding) (x : Variable) → has_variable (bound_variables es) x ≡ false → same_variable x y ≡ false → has_variable (bound_variables (es ++ (y, v) ∷ [])) x ≡ false
    among [] x h s = ap (λ w. w || false) (back (same_variable y x) refl)
      where
        back : (w : Bool) → same_variable y x ≡ w → w ≡ false
        back true k = let c : true ≡ false = sym (subst (λ z. same_variable x z ≡ true) (sym (same-is y x k)) (same_itself x)) ∙ s in cc
        back false k = refl
    among (g ∷ gs) x h s =
        let p = or_parts (same_variable g.0 x) (has_variable (bound_variables gs) x) h in
        ap₂ (λ a b. a || b) p.0 (among gs x p.1 s)

pub apart_extended : (xs : List Variable) (vs : List Tree) (σ : Binding) → AreApart (bound_variables σ) → AreApart (bound_variables (extend σ xs vs))
apart_extended [] vs σ d = d
apart_extended (y ∷ ys) [] σ d = d
apart_extended (y ∷ ys) (v ∷ vs) σ d = by (binds σ y) refl (apart_extended ys vs)
  where
    by : (w : Bool) → binds σ y ≡ w → ((τ : Binding) → AreApart (bound_variables τ) → AreApart (bound_variables (extend τ ys vs))) →
        AreApart (bound_variables (extend (if w then σ else σ ++ (y, v) ∷ []) ys vs))
    by true e rest = rest σ d
    by false e rest = rest (σ ++ (y, v) ∷ []) (apart_end σ y v d e)
