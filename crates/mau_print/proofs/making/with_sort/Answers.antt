use Rattle.std.proofs.Common.{◌++◌, codes, ◌∙◌, ap}
use Rattle.mau_print.proofs.Marked.{with_sort-is}
use Rattle.mau_print.proofs.making.with_sort.Goals as goal

pub returns : goal.returns
returns c =
    let one = c.in_ok-push_str.ensures.bytes ∙ ap (λ w. w ++ c.args.text.now) c.in_ok-marked.ensures.ok in
    let two = c.in_ok-push_str-2.ensures.bytes ∙ ap (λ w. w ++ codes ").") one in
    c.in_ok-push_str-3.ensures.bytes ∙ ap (λ w. w ++ c.args.sort.now) two ∙ with_sort-is c.args.text.now c.args.sort.now
