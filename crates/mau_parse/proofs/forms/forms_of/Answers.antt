use Rattle.std.proofs.Common.{[], ◌+◌, refl, sym, subst, ap, arith, ◌∙◌}
use Rattle.mau_grammar.specs.Index.{keyed, wordless}
use Rattle.mau_parse.specs.Forms.{PutsForms}
use Rattle.mau_parse.specs.Charted.{word_number, AreFormsOf}
use Rattle.mau_parse.specs.Words.{text_at}
use Rattle.mau_parse.proofs.FormsFound.{HasFormsTo, forms_first, forms_again, forms_new, forms_found}
use Rattle.mau_parse.proofs.forms.forms_of.Goals as goal
use Rattle.mau_parse.proofs.forms.forms_of.Goals.{then-word_number-i+in_ok-push_forms-2, else-word_number-i}

pub loop-i-init : goal.loop-i-init
loop-i-init c = forms_first c.args.words.now c.productions-productions.result.now c.push_forms.new.forms.items
    (subst (λ ns. PutsForms c.args.words.now c.productions-productions.result.now ns [] c.push_forms.new.forms.items) (c.wordless.ensures.value ∙ ap wordless (sym c.productions-productions.ensures.value))
    (subst (λ old. PutsForms c.args.words.now c.productions-productions.result.now c.wordless.result.now old c.push_forms.new.forms.items) c.new-forms.ensures.items c.in_ok-push_forms.ensures))

pub loop-i-preserved : goal.loop-i-preserved
loop-i-preserved c = elim c.if-word_number-i.branch [
  | then-word_number-i+in_ok-push_forms-2 w ↦
      forms_new c.args.words.now c.productions-productions.result.now c.loop-i.i (c.loop-i.i + 1) c.loop-i.forms.items c.if-word_number-i.forms.items (omega (arith, c.loop-i-test.true, c.len-i-end.ensures)) refl
      (subst (λ v. PutsForms c.args.words.now c.productions-productions.result.now (keyed c.productions-productions.result.now (text_at c.args.words.now c.loop-i.i)) c.loop-i.forms.items v.items) (sym w.forms-is)
      (subst (λ ns. PutsForms c.args.words.now c.productions-productions.result.now ns c.loop-i.forms.items w.push_forms-then-word_number-i.new.forms.items)
      (w.keyed.ensures.value ∙ ap (λ ps. keyed ps c.text-word.result.now) (sym c.productions-productions.ensures.value) ∙ ap (keyed c.productions-productions.result.now) c.text-word.ensures)
      w.in_ok-push_forms-2.ensures))
      c.loop-i.invariant
  | else-word_number-i w ↦
      subst (λ v. HasFormsTo c.args.words.now c.productions-productions.result.now (c.loop-i.i + 1) v.items) (sym w.forms-is)
      (forms_again c.args.words.now c.productions-productions.result.now c.loop-i.i (c.loop-i.i + 1) c.loop-i.forms.items (omega (arith, c.loop-i-test.true, c.len-i-end.ensures)) refl
      (λ e. w.if-word_number-i.false (c.word_number.ensures ∙ ap (word_number c.args.words.now) c.text-word.ensures ∙ e)) c.loop-i.invariant)
]

pub returns-clause-forms : goal.returns-clause-forms
returns-clause-forms c =
    subst (λ ps. AreFormsOf c.args.words.now ps c.loop-i.forms.items) c.productions-productions.ensures.value
    (forms_found c.args.words.now c.productions-productions.result.now c.loop-i.i c.loop-i.forms.items (omega (arith, c.loop-i-test.false, c.len-i-end.ensures)) c.loop-i.invariant)
