use Rattle.std.proofs.Common.{◌<◌, length, arith, sym, ap, ◌∙◌, cond, Some, take, rules}
use Rattle.mau_module.specs.Library.{last_named}
use Rattle.mau_module.proofs.Named.{last_named-more}
use Rattle.mau_module.proofs.library.last_named.Goals as goal
use Rattle.mau_module.proofs.library.last_named.Goals.{then-has_name, else-has_name}

pub loop-i-preserved : goal.loop-i-preserved
loop-i-preserved c =
    let l : c.loop-i.i < length c.args.modules.now = omega arith in
    let more = last_named-more c.args.modules.now c.args.name.now c.loop-i.i c.index-modules-i.result l c.index-modules-i.is in
    elim c.if-has_name.branch [
      | then-has_name w ↦ record {
        number = w.last-is ∙ sym (more ∙ ap (λ b. cond b (Some c.loop-i.i) (last_named (take c.loop-i.i c.args.modules.now) c.args.name.now)) (sym c.has_name.ensures ∙ w.if-has_name.true));
        within = search rules;
      }
      | else-has_name w ↦ record {
        number = w.last-is ∙ c.loop-i.invariant.number ∙ sym (more ∙ ap (λ b. cond b (Some c.loop-i.i) (last_named (take c.loop-i.i c.args.modules.now) c.args.name.now)) (sym c.has_name.ensures ∙ w.if-has_name.false));
        within = search rules;
      }
    ]
