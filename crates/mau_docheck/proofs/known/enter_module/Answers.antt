use Rattle.std.proofs.Common.{sym, ◌∙◌}
use Rattle.mau_docheck.specs.Known.{module_not_built}
use Rattle.mau_docheck.proofs.Knowing.{refused_by, accepted_by}
use Rattle.mau_docheck.proofs.known.enter_module.Goals as goal

pub returns-then-not-is_built-clause-leaves : goal.returns-then-not-is_built-clause-leaves
returns-then-not-is_built-clause-leaves c item is = module_not_built c.args.raw.now is (sym c.is_built.ensures ∙ c.if-not-is_built.true)

pub returns-in-Ok-clause-leaves : goal.returns-in-Ok-clause-leaves
returns-in-Ok-clause-leaves c item is =
    accepted_by c.args.words.now c.args.library.now c.enter.new.self item c.args.raw.now c.in-Ok.module c.enter.result is (sym c.is_built.ensures ∙ c.if-not-is_built.false) c.in-Ok.ensures.ok c.enter.ensures.ok

pub returns-in-Err-clause-leaves : goal.returns-in-Err-clause-leaves
returns-in-Err-clause-leaves c item is =
    refused_by c.args.words.now c.args.library.now item c.args.raw.now c.in-Err.fault c.passed_by.result is (sym c.is_built.ensures ∙ c.if-not-is_built.false) c.in-Err.ensures.fault c.passed_by.ensures
