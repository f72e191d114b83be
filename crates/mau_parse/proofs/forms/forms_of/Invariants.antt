use Rattle.mau_parse.proofs.FormsFound.{HasFormsTo}
use Rattle.mau_parse.proofs.forms.forms_of.Given as goal

abbrev pub invariant-loop-i : goal.invariant-loop-i
invariant-loop-i l = HasFormsTo l.words l.productions l.i l.forms.items
