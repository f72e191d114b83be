use Rattle.std.proofs.Common.{sym, subst}
use Rattle.mau_strattext.specs.Faults.{FragmentsFault}
use Rattle.mau_strattext.specs.Building.{TestReads, TestFault, test_there, of_condition}
use Rattle.mau_strattext.proofs.Steps.{handed}
use Rattle.mau_strattext.proofs.leaf.read_condition_of.Goals as goal

pub returns-in-Ok-read_fragments-clause-reads : goal.returns-in-Ok-read_fragments-clause-reads
returns-in-Ok-read_fragments-clause-reads c =
    let s = c.args.setting.now in
    subst (TestReads s c.args.kind c.args.part c.args.fragments.now c.args.vars.now c.read_fragments.new.vars) (sym c.new.ensures)
    (test_there c.read_part.new.vars c.in-Ok.pattern c.in-Ok-read_fragments.cond c.in-Ok.ensures.term c.in-Ok-read_fragments.ensures.answer)

pub returns-in-Err-read_fragments-clause-fault : goal.returns-in-Err-read_fragments-clause-fault
returns-in-Err-read_fragments-clause-fault c =
    let s = c.args.setting.now in
    let ms = c.read_part.new.vars in
    handed (FragmentsFault s c.args.fragments.now ms) (TestFault s c.args.part c.args.fragments.now c.args.vars.now)
    (λ f u. of_condition ms c.in-Ok.pattern c.in-Ok.ensures.term u) c.in-Err-read_fragments.fault c.in-Err-read_fragments.ensures.answer
