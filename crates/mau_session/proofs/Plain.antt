-- In a module without memberships that may be used the sorts of all terms are known.
use Rattle.std.proofs.Common.{◌≡◌, ℕ, Bool, true, false, refl, sym, ◌∙◌}
use Rattle.mau_terms.specs.Tree.{Tree}
use Rattle.mau_terms.specs.Norm.{norm}
use Rattle.mau_terms.specs.Finite.{IsIn}
use Rattle.mau_evaluation.specs.Run.{End, stopped, too_deep, overflowed, done, ended}
use Rattle.mau_evaluation.specs.Program.{Membership, Program}
use Rattle.mau_api.specs.Meanings.{program_of}
use Rattle.mau_reduce.proofs.PlainSorts.{plain_sorts, sorts_known}
use Rattle.mau_module.specs.Modules.{ModuleOf}
use Rattle.mau_session.specs.Built.{uses_memberships}
use Rattle.mau_session.specs.Environment.{Environment, meanings_in}
use Rattle.mau_session.specs.Settled.{SortsEnd}
use Rattle.mau_session.proofs.Evaluated.{evaluated_derives}

module _ (env : Environment) (m : ModuleOf) (unused : uses_memberships m ≡ false) where
  abbrev P : Program
  P = program_of (meanings_in env m)

  pub none_executable : (x : Membership) → IsIn x P.memberships → x.exec ≡ false
  none_executable x i = by x.exec refl
    where
      by : (b : Bool) → x.exec ≡ b → x.exec ≡ false
      by true e = absurd (evaluated_derives env m unused x i e)
      by false e = e

  never_so : (k B : ℕ) (t : Tree) (b : ℕ) (e : End) → (meanings_in env m).sorting k B t b ≡ ended e → ⊥
  never_so k B t b e h = let no = sym (sorts_known P none_executable B k (norm P.sign.theory t) b) ∙ h in cc

  -- so they have no end
  pub sorts_never_end : (t : Tree) (x : End) → SortsEnd (meanings_in env m) t x → ⊥
  sorts_never_end t stopped h = never_so h.2.0 env.budget h.0 0 stopped h.2.1
  sorts_never_end t too_deep h = never_so 2000 h.2.0 h.0 h.2.1 too_deep h.2.2
  sorts_never_end t overflowed h = never_so h.2.0 h.2.1 h.0 h.2.2 overflowed h.2.6
