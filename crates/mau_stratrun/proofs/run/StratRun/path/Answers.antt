use Rattle.std.proofs.Common.{◌≡◌, ◌+◌, map, take, get_or, ap, sym, subst}
use Rattle.std.proofs.lemmas.List.{get_or_default}
use Rattle.mau_terms.specs.declared.ids.TermId.{TermId}
use Rattle.mau_evaluation.specs.Configs.{Config}
use Rattle.mau_stratrun.specs.States.{config_in}
use Rattle.mau_stratrun.specs.Moves.{made_in}
use Rattle.mau_stratrun.specs.Courses.{state_in}
use Rattle.mau_stratrun.proofs.Adding.{config_is}
use Rattle.mau_stratrun.proofs.Pathing.{one_more}
use Rattle.mau_stratrun.proofs.run.StratRun.path.Goals as goal

pub loop-number-preserved : goal.loop-number-preserved
loop-number-preserved g c =
    let s = state_in (g.X.Leaves.world c.args.self.now.course.leaves) c.args.self.now.course.forms c.args.self.now.course.interner in
    let way = c.way-way.result.now in
    let i = c.loop-number.number-index in
    let n = get_or way i 0 in
    let is : config_in s n ≡ made_in s c.config-config.result = config_is s n c.config-config.result c.config-config.ensures.config in
    subst (λ ts. map (λ (t : TermId). s.setting.tree t.0) ts ≡ map (λ m. (config_in s m).term) (take (i + 1) way)) (sym c.in_ok-push.ensures.items)
    (one_more (λ (t : TermId). s.setting.tree t.0) (λ m. (config_in s m).term) c.loop-number.path.items way i c.config-config.result.term n c.loop-number-test.true (get_or_default way i 0 n c.loop-number-test.true) (sym (ap (λ (x : Config). x.term) is)) c.loop-number.invariant)
