-- In a module without memberships that may be used no sort is derived.
use Rattle.std.proofs.Common.{◌≡◌, ℕ, List, [], ◌∷◌, Bool, true, false, ◌||◌, All, map, ⊎_elim, refl, sym, ◌∙◌, ap, ap₂, subst}
use Rattle.std.specs.List.{list_any}
use Rattle.std.proofs.lemmas.List.Elements.{All-nil, All-cons, All-head, All-tail}
use Rattle.mau_terms.specs.Finite.{IsIn}
use Rattle.mau_terms.specs.Tree.{Tree}
use Rattle.mau_formula.specs.Operator.{Operator}
use Rattle.mau_program.specs.declared.program.Program.{Program}
use Rattle.mau_program.specs.declared.statements.Membership as Written
use Rattle.mau_evaluation.specs.Program.{Membership}
use Rattle.mau_api.specs.Programs.{membership_of}
use Rattle.mau_api.specs.Answers.{uses_results}
use Rattle.mau_api.specs.Meanings.{Meanings, meanings_by}
use Rattle.mau_results.specs.Results.{DerivesNothing}
use Rattle.mau_declare.proofs.Once.{yes_no}
use Rattle.mau_module.specs.Modules.{ModuleOf}
use Rattle.mau_session.specs.Built.{uses_memberships}
use Rattle.mau_session.specs.Environment.{Environment, meanings_in}
use Rattle.mau_session.specs.Terms.{Pairs}
use Rattle.mau_session.specs.Gains.{GainsAnswer}

neither : (a b : Bool) → (a || b) ≡ false → (a ≡ false) × (b ≡ false)
neither true b e = absurd cc
neither false b e = (refl, e)

none_passes : (ms : List Written.Membership) → list_any (λ (x : Written.Membership). x.exec) ms ≡ false → All (λ (x : Written.Membership). x.exec ≡ false) ms
none_passes [] e = All-nil (λ (x : Written.Membership). x.exec ≡ false)
none_passes (m ∷ ms) e =
    let two = neither m.exec (list_any (λ (x : Written.Membership). x.exec) ms) e in
    All-cons (λ (x : Written.Membership). x.exec ≡ false) m ms two.0 (none_passes ms two.1)

pub none_used : (m : ModuleOf) → uses_memberships m ≡ false → All (λ (x : Written.Membership). x.exec ≡ false) m.statements.memberships
none_used m unused = none_passes m.statements.memberships unused

none_there : (ms : List Written.Membership) → All (λ (x : Written.Membership). x.exec ≡ false) ms → (x : Membership) → IsIn x (map membership_of ms) → x.exec ≡ true → ⊥
none_there [] all x among exec = among
none_there (m ∷ ms) all x among exec =
    ⊎_elim
    (λ (e : x ≡ membership_of m). yes_no x.exec exec (ap (λ (z : Membership). z.exec) e ∙ All-head (λ (x : Written.Membership). x.exec ≡ false) m ms all))
    (λ rest. none_there ms (All-tail (λ (x : Written.Membership). x.exec ≡ false) m ms all) x rest exec)
    among

pub evaluated_derives : (e : Environment) (m : ModuleOf) → uses_memberships m ≡ false → DerivesNothing (meanings_in e m)
evaluated_derives e m unused = none_there m.statements.memberships (none_used m unused)

-- ---- evaluators that go by the definitions

module _ (p q : Program) (hooks : List Operator) (limit : ℕ) (m : Meanings) (same : p ≡ q) where
  pub meant_by : (r : Bool) → m ≡ meanings_by p hooks limit r → m ≡ meanings_by q m.hooks limit m.remembers
  meant_by r e =
      e ∙ ap (λ p. meanings_by p hooks limit r) same
      ∙ ap₂ (λ h r. meanings_by q h limit r) (sym (ap (λ (x : Meanings). x.hooks) e)) (sym (ap (λ (x : Meanings). x.remembers) e))

  -- what an evaluator answers that remembers nothing
  pub gains_plainly : m ≡ meanings_by p hooks limit false → (l : ModuleOf) (wanted : Bool) (ns : Pairs) (t : Tree) (old new : List ℕ)
      → GainsAnswer l m (uses_results m wanted) ns t old new → GainsAnswer l (meanings_by q hooks limit false) false ns t old new
  gains_plainly e l wanted ns t old new = subst (λ x. GainsAnswer l x (uses_results x wanted) ns t old new) (e ∙ ap (λ p. meanings_by p hooks limit false) same)
