use Rattle.std.proofs.Common.{◌≡◌, ℕ, List, false, refl, sym, ◌∙◌, ap, subst}
use Rattle.std.proofs.lemmas.Result.{IfOk-weaker}
use Rattle.mau_terms.specs.Bare.{IsLawful, IsBare}
use Rattle.mau_terms.specs.Norm.{norm}
use Rattle.mau_terms.specs.View.{tree_of}
use Rattle.mau_signature.specs.Signature.{SignatureOf, terms_over, theory_at}
use Rattle.mau_store.specs.Trees.{StandsFor, tree_at}
use Rattle.mau_canon.specs.Standing.{StandsWithin}
use Rattle.mau_canon.specs.Within.{IsCause}
use Rattle.mau_canon.specs.declared.fault.BuildFault.TheVariants.{TooDeep, Overflow}
use Rattle.mau_formula.specs.Operators.{operators}
use Rattle.mau_program.specs.declared.program.Program.{Program}
use Rattle.mau_evaluation.specs.Run.{too_deep, overflowed}
use Rattle.mau_evaluation.specs.RuleRuns.{Stand}
use Rattle.mau_api.specs.Terms.{IsTerm}
use Rattle.mau_results.specs.Runs.{run_from, run_by, run_ends, MayRun}
use Rattle.mau_results.proofs.Normals.{read_term}
use Rattle.mau_results.proofs.RunAnswers.{may_run_read, may_run_be_deep, may_run_overflow}
use Rattle.mau_rules.specs.Runs.{stand_of, IsRunOf}
use Rattle.mau_module.specs.Lawful.{program_of}
use Rattle.mau_session.specs.Environment.{environment_of, meanings_in}
use Rattle.mau_session.proofs.Rewritten.{gains_run_as}
use Rattle.mau_session.proofs.rewrite.begin.Goals as goal

pub build_bare-requires : goal.build_bare-requires
build_bare-requires g c = subst (λ (s : SignatureOf). IsBare (terms_over s) (tree_of c.args.term.now)) (sym c.signature-sig.ensures.value) c.requires.bare

pub run_on-requires-clause-ready : goal.run_on-requires-clause-ready
run_on-requires-clause-ready g c =
    let m = c.args.module.now in
    let nodes = c.build_bare.new.store in
    let i = c.in-Ok.number.0 in
    let t = tree_of c.args.term.now in
    let lawful : IsLawful (terms_over m.signature) = subst (λ (s : SignatureOf). IsLawful (terms_over s)) c.signature-sig.ensures.value c.operators.ensures.lawful in
    let within : StandsWithin (theory_at m.signature) nodes i = subst (λ (s : SignatureOf). StandsWithin (theory_at s) nodes i) c.signature-sig.ensures.value c.in-Ok.ensures.within in
    let stands : StandsFor (theory_at m.signature) nodes i t = subst (λ (s : SignatureOf). StandsFor (theory_at s) nodes i t) c.signature-sig.ensures.value c.in-Ok.ensures.ok in
    let term : IsTerm m.signature nodes i = read_term m.signature lawful t c.requires.bare nodes i within stands in
    record {
      conditions = c.requires.conditions;
      run = subst (λ (p : Program). IsRunOf p nodes c.in_ok-run-in-Ok.run') c.program.ensures (c.in_ok-run-in-Ok.ensures.run nodes (subst (λ (p : Program). IsTerm p.sig nodes i) (sym c.program.ensures) term));
    }

pub returns-in-Ok-clause-gained : goal.returns-in-Ok-clause-gained
returns-in-Ok-clause-gained g c =
    let m = c.args.module.now in
    let nodes = c.build_bare.new.store in
    let i = c.in-Ok.number.0 in
    let t = tree_of c.args.term.now in
    let e = environment_of (operators c.args.session.now.hooks.now) c.args.session.now.limit in
    let means = meanings_in e m in
    let lawful : IsLawful (terms_over m.signature) = subst (λ (s : SignatureOf). IsLawful (terms_over s)) c.signature-sig.ensures.value c.operators.ensures.lawful in
    let stands : StandsFor (theory_at m.signature) nodes i t = subst (λ (s : SignatureOf). StandsFor (theory_at s) nodes i t) c.signature-sig.ensures.value c.in-Ok.ensures.ok in
    let s = stand_of nodes c.in_ok-run-in-Ok.run' in
    let at : s ≡ run_from (tree_at nodes i) = c.in_ok-run-in-Ok.ensures.stand nodes in
    IfOk-weaker c.run_on.result _ _
    (λ left h. gains_run_as m means false c.args.asked.most c.args.asked.kind s (run_from t) c.args.vars c.args.out.now.items c.run_on.new.out.items _
    (λ a x. may_run_read means c.args.asked.kind c.args.asked.most t false lawful nodes i stands a
    (subst (λ (s : Stand). MayRun means false (run_by means c.args.asked.kind c.args.asked.most s) a) at x)) h)
    c.run_on.ensures.gained

pub returns-in-Err-TooDeep-clause-gained : goal.returns-in-Err-TooDeep-clause-gained
returns-in-Err-TooDeep-clause-gained g c =
    let m = c.args.module.now in
    let s = c.signature-sig.result.now in
    let t = tree_of c.args.term.now in
    let e = environment_of (operators c.args.session.now.hooks.now) c.args.session.now.limit in
    record {
      answer = run_ends too_deep;
      allowed = may_run_be_deep (meanings_in e m) c.args.asked.kind c.args.asked.most t false
          (subst (λ (s : SignatureOf). IsCause (theory_at s) (norm (theory_at s) t) TooDeep) c.signature-sig.ensures.value (subst (IsCause (theory_at s) (norm (theory_at s) t)) c.in-Err-TooDeep.field-0-is c.in-Err-TooDeep.ensures.refused));
      leaves = refl;
      gained = c.in_ok-write_text-in-Err-TooDeep.ensures;
    }

pub returns-in-Err-Overflow-clause-gained : goal.returns-in-Err-Overflow-clause-gained
returns-in-Err-Overflow-clause-gained g c =
    let m = c.args.module.now in
    let s = c.signature-sig.result.now in
    let t = tree_of c.args.term.now in
    let e = environment_of (operators c.args.session.now.hooks.now) c.args.session.now.limit in
    record {
      answer = run_ends overflowed;
      allowed = may_run_overflow (meanings_in e m) c.args.asked.kind c.args.asked.most t false
          (subst (λ (s : SignatureOf). IsCause (theory_at s) (norm (theory_at s) t) Overflow) c.signature-sig.ensures.value (subst (IsCause (theory_at s) (norm (theory_at s) t)) c.in-Err-Overflow.field-0-is c.in-Err-Overflow.ensures.refused));
      leaves = refl;
      gained = c.in_ok-write_text-in-Err-Overflow.ensures;
    }
