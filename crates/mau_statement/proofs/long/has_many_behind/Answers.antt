use Rattle.std.proofs.Common.{sym, ◌∙◌, ap, Some}
use Rattle.std.proofs.lemmas.Option.{slice_get-get_or}
use Rattle.mau_statement.specs.Conditions.{FragmentUnread, ConditionUnread}
use Rattle.mau_statement.specs.Long.{IsNeverRead}
use Rattle.mau_statement.specs.declared.fault.StatementFault.{StatementFault}
use Rattle.mau_statement.proofs.Handed.{handed}
use Rattle.mau_statement.proofs.Passing.{at_first}
use Rattle.mau_statement.proofs.long.has_many_behind.Goals as goal

pub loop-raw-init : goal.loop-raw-init
loop-raw-init c = record {
  passed = at_first c.args.words.now c.args.context.now c.args.vars c.len-many.result c.len-many.ensures.counted;
  few = c.requires.few;
}

pub returns-in-Err-clause-fault : goal.returns-in-Err-clause-fault
returns-in-Err-clause-fault c =
    let ws = c.args.words.now in
    let x = c.args.context.now in
    let raws = c.args.raws.now in
    let i = c.loop-raw.raw-index in
    let raw = c.raw-item.result in
    let p = c.loop-raw.invariant.passed in
    let unread : (u : (f : StatementFault) × FragmentUnread ws x raw p.vars f) → ConditionUnread ws x c.args.vars raws u.0 = λ u. record {
      i = i;
      raw = raw;
      there = slice_get-get_or raws i raw c.loop-raw-test.true ∙ ap Some (sym c.raw-item.is);
      middle = p.vars;
      before = p.cond;
      reads = p.reads;
      unread = u.1;
    } in
    handed (λ f. IsNeverRead ws x raw) (λ f. (e : StatementFault) × ConditionUnread ws x c.args.vars raws e) (λ f never. ((never p.vars).0, unread (never p.vars))) c.in-Err.fault c.in-Err.ensures.fault
