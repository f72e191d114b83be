use Rattle.std.proofs.Common.{◌≡◌, true, List, [], ◌∷◌, refl, sym, ap₂, ◌∙◌, eqb-true, nat_eq}
use Rattle.std.specs.Cmp.Lexicographic.{pointwise}
use Rattle.std.proofs.lemmas.Bool.{and_parts}
use Rattle.mau_terms.specs.declared.ids.VarId.{VarId}
use Rattle.mau_terms.specs.contracts.ids.VarIdPartialEq.TheImpl.{eq-value}
use Rattle.mau_reduce.proofs.replacing.are_same.Goals as goal

one : (v w : VarId) → eq-value.it v w ≡ true → v ≡ w
one v w e =
    let both = and_parts (nat_eq v.index w.index) (nat_eq v.sort w.sort) e in
    ap₂ (λ i s. record { index = i; sort = s }) (eqb-true v.index w.index both.0) (eqb-true v.sort w.sort both.1)

all : (vs ws : List VarId) → pointwise eq-value.it vs ws ≡ true → vs ≡ ws
all [] [] e = refl
all [] (w ∷ ws) e = absurd (cc)
all (v ∷ vs) [] e = absurd (cc)
all (v ∷ vs) (w ∷ ws) e =
    let both = and_parts (eq-value.it v w) (pointwise eq-value.it vs ws) e in
    ap₂ (λ x xs. x ∷ xs) (one v w both.0) (all vs ws both.1)

pub returns : goal.returns
returns c = λ (e : c.eq.result ≡ true). all c.args.first.now c.args.second.now (sym c.eq.ensures ∙ e)
