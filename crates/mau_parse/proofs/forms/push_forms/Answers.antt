use Rattle.std.proofs.Common.{take, get_or, sym, subst}
use Rattle.std.proofs.lemmas.List.{take_more}
use Rattle.mau_parse.specs.Forms.{PutsForms}
use Rattle.mau_parse.proofs.FormsFound.{puts_more}
use Rattle.mau_parse.proofs.forms.push_forms.Goals as goal

pub loop-number-preserved : goal.loop-number-preserved
loop-number-preserved c =
    let ws = c.args.words.now in
    let ps = c.args.productions.now in
    let ns = c.args.numbers.now in
    let i = c.loop-number.number-index in
    subst (λ xs. PutsForms ws ps xs c.args.forms.now.items c.push_form.new.forms.items) (sym (take_more ns i 0 c.loop-number-test.true))
    (puts_more ws ps (take i ns) (get_or ns i 0) c.args.forms.now.items c.loop-number.forms.items c.push_form.new.forms.items c.loop-number.invariant c.in_ok-push_form.ensures)
