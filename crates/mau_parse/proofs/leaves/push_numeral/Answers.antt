use Rattle.std.proofs.Common.{◌-◌, ◌^◌, ◌++◌, sym, ap, ◌∙◌, subst}
use Rattle.std.proofs.lemmas.List.{append-nil}
use Rattle.mau_numerals.specs.Numerals.{number_up_to}
use Rattle.mau_parse.specs.TooLarge.{AllSmall}
use Rattle.mau_parse.specs.Listed.{numerals_at}
use Rattle.mau_parse.proofs.LargeNumerals.{none_there}
use Rattle.mau_parse.proofs.leaves.push_numeral.Goals as goal

pub returns-in-None : goal.returns-in-None
returns-in-None c =
    let ws = c.args.words.now in
    let old = c.args.out.now.items in
    let small = subst (λ o. AllSmall o ws) c.in-Some.is c.requires.small in
    let none = c.in-None.ensures ∙ ap (number_up_to (2 ^ 128 - 1)) (c.as_bytes.ensures.value ∙ c.text.ensures) in
    let leaves = none_there ws c.in-Some.kind c.args.i c.requires.within small none in
    record { ok = sym (append-nil old) ∙ ap (λ ls. old ++ ls) (leaves ∙ ap (λ o. numerals_at o ws c.args.i) (sym c.in-Some.is)) }
