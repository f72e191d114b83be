use Rattle.std.proofs.Common.{Some, sym, subst, ap, ◌∙◌}
use Rattle.std.proofs.lemmas.Bool.{false≢true}
use Rattle.std.proofs.lemmas.Option.{slice_get-get_or, slice_get_past}
use Rattle.mau_parse.specs.Charted.{AreThere}
use Rattle.mau_parse.proofs.FormsFound.{puts_none, puts_unread, puts_one}
use Rattle.mau_parse.proofs.forms.push_form.Goals as goal

pub returns-in-None : goal.returns-in-None
returns-in-None c = puts_none c.args.words.now c.args.productions.now c.args.number c.args.forms.now.items (slice_get_past c.args.productions.now c.args.number c.in-None.ensures.lookup.3)

pub returns-in_ok-push-in-Some : goal.returns-in_ok-push-in-Some
returns-in_ok-push-in-Some c =
    puts_one c.args.words.now c.args.productions.now c.args.number c.args.forms.now.items c.push.new.self.items c.in-Some.production.now c.in_ok-form_of-in-Some.field-0 (slice_get-get_or c.args.productions.now c.args.number c.in-Some.production.now c.in-Some.ensures.lookup.3.0 ∙ ap (λ p. Some p) (sym c.in-Some.ensures.lookup.1)) c.in_ok-form_of-in-Some.ensures c.in_ok-push-in-Some.ensures.items

pub returns-else-are_there : goal.returns-else-are_there
returns-else-are_there c = puts_unread c.args.words.now c.args.productions.now c.args.number c.args.forms.now.items c.in-Some.production.now
    (slice_get-get_or c.args.productions.now c.args.number c.in-Some.production.now c.in-Some.ensures.lookup.3.0 ∙ ap (λ p. Some p) (sym c.in-Some.ensures.lookup.1))
    (λ there. false≢true (sym c.if-are_there.false ∙ c.are_there.ensures (subst (AreThere c.args.words.now) (sym c.items.ensures) there)))
