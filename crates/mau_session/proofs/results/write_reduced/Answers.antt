use Rattle.std.proofs.Common.{◌≡◌, List, ◌++◌, refl, sym, ap, ◌∙◌, subst}
use Rattle.std.proofs.lemmas.Result.{on_ok_weaker}
use Rattle.mau_terms.specs.Bare.{IsBare}
use Rattle.mau_terms.specs.View.{tree_of}
use Rattle.mau_signature.specs.Signature.{SignatureOf, terms_over}
use Rattle.mau_store.specs.Node.{Node}
use Rattle.mau_api.specs.Meanings.{Meanings, meanings_by}
use Rattle.mau_results.specs.Kept.{AreByDefinition, answer_in}
use Rattle.mau_module.specs.Lawful.{program_of}
use Rattle.mau_session.specs.Lines.{answer_lines}
use Rattle.mau_session.proofs.results.write_reduced.Goals as goal

pub evaluate_bare-requires-clause-fits : goal.evaluate_bare-requires-clause-fits
evaluate_bare-requires-clause-fits g c = subst (λ (nodes : List Node). g.E.Evaluator.fits c.args.evaluator.now nodes) (sym c.new-store.ensures) c.requires.fits

pub evaluate_bare-requires-clause-signature : goal.evaluate_bare-requires-clause-signature
evaluate_bare-requires-clause-signature g c = c.signature.ensures.value ∙ sym (ap (λ (m : Meanings). m.program.sig) c.requires.meanings)

pub evaluate_bare-requires-clause-bare : goal.evaluate_bare-requires-clause-bare
evaluate_bare-requires-clause-bare g c = subst (λ (s : SignatureOf). IsBare (terms_over s) (tree_of c.args.term.now)) (sym c.signature.ensures.value) c.requires.bare

pub evaluate_bare-requires-clause-limit : goal.evaluate_bare-requires-clause-limit
evaluate_bare-requires-clause-limit g c = sym (ap (λ (m : Meanings). m.limit) c.requires.meanings)

pub evaluate_bare-requires-clause-meanings : goal.evaluate_bare-requires-clause-meanings
evaluate_bare-requires-clause-meanings g c =
    let m = g.E.Evaluator.meanings c.args.evaluator.now in
    let by : Meanings = meanings_by (program_of c.args.module.now) m.hooks c.args.limit m.remembers in
    subst AreByDefinition (sym c.requires.meanings) (let same : by ≡ by = refl in same)

pub returns : goal.returns
returns g c =
    let m = g.E.Evaluator.meanings c.args.evaluator.now in
    let limit : c.args.limit ≡ m.limit = sym (ap (λ (m : Meanings). m.limit) c.requires.meanings) in
    on_ok_weaker c.write_answer.result (λ gained. record {
      answer = answer_in c.evaluate_bare.new.store c.in_ok-answer.answer;
      allowed = c.in_ok-answer.ensures.allowed;
      gained = gained ∙ ap (λ b. c.args.out.now.items ++ answer_lines c.args.module.now c.args.vars.now b (answer_in c.evaluate_bare.new.store c.in_ok-answer.answer)) limit;
    }) c.write_answer.ensures
