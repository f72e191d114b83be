use Rattle.std.proofs.Common.{◌≡◌, ℕ, List, [], get_or, slice_get, Some, sym, ◌∙◌, ap, subst}
use Rattle.std.proofs.lemmas.Option.{get_or_from_slice_get}
use Rattle.mau_renumber.specs.Carried.{with_variable, carry}
use Rattle.mau_renumber.specs.Tables.{sorts_in}
use Rattle.mau_renumber.proofs.carry.Tables.add_variable.Goals as goal

pub returns : goal.returns
returns c =
    let vars = c.args.vars.now in
    let name = c.in-Some-get.name.now in
    let sort = c.in-Some-get.sort in
    let there = subst (λ i. slice_get vars i ≡ Some (name, sort)) c.in-Some.ensures.given.0 c.in-Some-get.ensures.value in
    let number = c.number_at.ensures ∙ ap (λ xs. get_or xs sort 0) c.deref.ensures.value in
    record {
      more =
          c.in_ok-add_apart-in-Some-get.ensures ∙ ap (λ n. with_variable c.args.found.now (name, n)) number
          ∙ ap (carry (sorts_in c.args.self.now) c.args.found.now) (sym (get_or_from_slice_get vars c.args.index (name, sort) ([], 0) there));
    }
