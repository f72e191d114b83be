-- Two bare terms are equal exactly where their normal forms are.
use Rattle.std.proofs.Common.{◌≡◌, ◌↔◌, refl, ◌∙◌, subst}
use Rattle.mau_terms.specs.Tree.{Tree}
use Rattle.mau_terms.specs.Norm.{norm}
use Rattle.mau_terms.specs.Reading.{reading}
use Rattle.mau_terms.specs.Bare.{TermSignature, IsBare, EqualModulo, same_term, one_step, IsLawful}
use Rattle.mau_terms.proofs.Chains.{chain_equal, EqualModulo-trans, EqualModulo-sym}
use Rattle.mau_terms.proofs.Steps.{step_norm}
use Rattle.mau_terms.proofs.Readings.{lead_norm}

pub equal_norm : (s : TermSignature) → IsLawful s → {t u : Tree} → EqualModulo s t u → norm s.theory t ≡ norm s.theory u
equal_norm s lawful (same_term b) = refl
equal_norm s lawful (one_step {t = t} {u = u} b x p) = step_norm s.theory lawful.theories t u x ∙ equal_norm s lawful p

pub equal_reading : (s : TermSignature) → IsLawful s → (t : Tree) → IsBare s t → EqualModulo s t (reading s.theory (norm s.theory t))
equal_reading s lawful t b = chain_equal (lead_norm s lawful b.0 t b.1)

pub norm_equal : (s : TermSignature) → IsLawful s → (t u : Tree) → IsBare s t → IsBare s u → norm s.theory t ≡ norm s.theory u → EqualModulo s t u
norm_equal s lawful t u bt bu e =
    let p : EqualModulo s t (reading s.theory (norm s.theory u)) = subst (λ w. EqualModulo s t (reading s.theory w)) e (equal_reading s lawful t bt) in
    EqualModulo-trans p (EqualModulo-sym (equal_reading s lawful u bu))

pub law : (s : TermSignature) → IsLawful s → (t u : Tree) → IsBare s t → IsBare s u → EqualModulo s t u ↔ norm s.theory t ≡ norm s.theory u
law s lawful t u bt bu = (equal_norm s lawful, norm_equal s lawful t u bt bu)
