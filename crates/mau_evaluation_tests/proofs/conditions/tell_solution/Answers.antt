use Rattle.std.proofs.Common.{◌≡◌, [], ◌∷◌, ◌++◌, sym, ap, ◌∙◌, subst, All, rules}
use Rattle.std.proofs.lemmas.List.Elements.{All-nil, All-cons}
use Rattle.mau_store.specs.Node.{Extends}
use Rattle.mau_sorts.proofs.Settling.{kept_same}
use Rattle.mau_api.specs.Answers.{IsValueOf}
use Rattle.mau_cond.specs.Known.{IsKnown}
use Rattle.mau_cond.proofs.Grown.{known_grown}
use Rattle.mau_evaluation_tests.proofs.conditions.tell_solution.Goals as goal

pub returns-in_ok-tell_solution-in-Some : goal.returns-in_ok-tell_solution-in-Some
returns-in_ok-tell_solution-in-Some g c =
    let s = c.args.sig.now in
    let t = c.args.sorts.now in
    let new = c.value.new.store in
    let items : c.push.new.self.items ≡ c.new-told.result.items ++ c.in_ok-value-in-Some.field-0 ∷ [] = search rules in
    let none : c.new-told.result.items ≡ [] = c.new-told.ensures.items in
    let told : All (IsValueOf s new t) c.push.new.self.items =
    subst (All (IsValueOf s new t)) (sym (items ∙ ap (λ bs. bs ++ c.in_ok-value-in-Some.field-0 ∷ []) none))
    (All-cons (IsValueOf s new t) c.in_ok-value-in-Some.field-0 [] c.in_ok-value-in-Some.ensures.value (All-nil (IsValueOf s new t))) in
    record {
      known = c.tell_solution.ensures.known s new t (known_grown s c.args.store.now new t t c.value.ensures.extends (kept_same t) c.args.run.now c.requires.known)
          told;
    }

pub returns-in_ok-tell_solution-in-None : goal.returns-in_ok-tell_solution-in-None
returns-in_ok-tell_solution-in-None g c = record { known = c.tell_solution-in-None.ensures.known c.args.sig.now c.args.store.now c.args.sorts.now c.requires.known tt }
