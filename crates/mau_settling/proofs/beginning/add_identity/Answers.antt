use Rattle.std.proofs.Common.{◌++◌, sym, ap, ◌∙◌, append-nil}
use Rattle.mau_store.specs.Trees.{trees_at}
use Rattle.mau_store.specs.View.{numbers}
use Rattle.mau_settling.proofs.Units.{some_is, none_is}
use Rattle.mau_settling.proofs.Roots.{roots_more, terms_more, terms_stay, trees_stay}
use Rattle.mau_settling.proofs.beginning.add_identity.Goals as goal

pub returns-in_ok-push-in-Some-clause-trees : goal.returns-in_ok-push-in-Some-clause-trees
returns-in_ok-push-in-Some-clause-trees c =
    roots_more c.args.sig.now c.args.store.now c.identity.new.store c.identity.ensures.extends c.args.ids.now.items c.push.new.self.items c.in-Some.id c.in_ok-push-in-Some.ensures.items c.requires.terms
    ∙ ap (λ us. trees_at c.args.store.now (numbers c.args.ids.now.items) ++ us) (sym (some_is c.args.sig.now c.identity.new.store c.args.op.0 c.in_ok-id.field-0 c.in-Some.id c.in-Some.is c.in_ok-id.ensures.is).0)

pub returns-in_ok-push-in-Some-clause-terms : goal.returns-in_ok-push-in-Some-clause-terms
returns-in_ok-push-in-Some-clause-terms c =
    terms_more c.args.sig.now c.args.store.now c.identity.new.store c.identity.ensures.extends c.args.ids.now.items c.push.new.self.items c.in-Some.id c.in_ok-push-in-Some.ensures.items c.requires.terms (some_is c.args.sig.now c.identity.new.store c.args.op.0 c.in_ok-id.field-0 c.in-Some.id c.in-Some.is c.in_ok-id.ensures.is).1

pub returns-in-None-clause-trees : goal.returns-in-None-clause-trees
returns-in-None-clause-trees c =
    trees_stay c.args.sig.now c.args.store.now c.identity.new.store c.identity.ensures.extends (numbers c.args.ids.now.items) c.requires.terms
    ∙ (sym (append-nil _) ∙ ap (λ us. trees_at c.args.store.now (numbers c.args.ids.now.items) ++ us) (sym (none_is c.args.sig.now c.identity.new.store c.args.op.0 c.in_ok-id.field-0 c.in-None.is c.in_ok-id.ensures.is)))

pub returns-in-None-clause-terms : goal.returns-in-None-clause-terms
returns-in-None-clause-terms c = terms_stay c.args.sig.now c.args.store.now c.identity.new.store c.identity.ensures.extends (numbers c.args.ids.now.items) c.requires.terms
