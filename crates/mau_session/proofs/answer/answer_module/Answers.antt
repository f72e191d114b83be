use Rattle.std.proofs.Common.{sym, subst, false, Err}
use Rattle.mau_modtext.specs.declared.raw.RawBody.TheVariants.{Module}
use Rattle.mau_module.specs.Flattened.{FlattenedAs}
use Rattle.mau_session.specs.KeptState.{state_of}
use Rattle.mau_session.specs.Transcript.{module_accepted, module_refused}
use Rattle.mau_session.specs.Gains.{GainsBody}
use Rattle.mau_session.proofs.OneFault.{if_named}
use Rattle.mau_session.proofs.answer.answer_module.Goals as goal

pub returns-in_ok-accept-in-Ok-clause-gained : goal.returns-in_ok-accept-in-Ok-clause-gained
returns-in_ok-accept-in-Ok-clause-gained c e =
    subst (λ st. GainsBody e c.args.words.now (state_of c.args.state.now) c.args.number c.args.item (Module c.args.raw.now) st c.args.out.now.items c.write_module.new.out.items false)
    (sym c.in_ok-accept-in-Ok.ensures.state)
    (record { bytes = _; answer = module_accepted _ c.in-Ok.module c.in-Ok.ensures.ok; gained = c.in_ok-write_module-in-Ok.ensures })

pub returns-in_ok-write_module_fault-in-Err-clause-gained : goal.returns-in_ok-write_module_fault-in-Err-clause-gained
returns-in_ok-write_module_fault-in-Err-clause-gained c e = record {
  bytes = _;
  answer = module_refused _ c.in-Err.fault
      (if_named (λ f. FlattenedAs c.args.state.now.library c.args.words.now c.args.raw.now (Err f)) c.in-Err.fault c.in_ok-write_module_fault-in-Err.ensures.named c.in-Err.ensures.fault);
  gained = c.in_ok-write_module_fault-in-Err.ensures.ok;
}

pub returns-in_ok-accept-in-Ok-clause-ready : goal.returns-in_ok-accept-in-Ok-clause-ready
returns-in_ok-accept-in-Ok-clause-ready c e ready = c.in_ok-accept-in-Ok.ensures.ready e ready
