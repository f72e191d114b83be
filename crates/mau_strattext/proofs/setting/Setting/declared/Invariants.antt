use Rattle.std.proofs.Common.{◌≡◌, ◌==◌, ◌&&◌, length}
use Rattle.std.specs.Prelude.{find}
use Rattle.mau_strattext.specs.Setting.{has_name, declared}
use Rattle.mau_strattext.proofs.setting.Setting.declared.Given as goal

abbrev pub invariant-loop-decl : goal.invariant-loop-decl
invariant-loop-decl l = declared l.self l.name l.count ≡ find (λ d. has_name l.name d && length d.args == l.count) l.rest

abbrev pub decreases-loop-decl : goal.decreases-loop-decl
decreases-loop-decl l = length l.rest
