use Rattle.std.proofs.Common.{◌++◌, ◌∙◌, ap, sym, append_assoc, add-one}
use Rattle.mau_grammar.specs.Leaves.{cuts_to, cut_at}
use Rattle.mau_parse.specs.Readings.{all_seen}
use Rattle.mau_parse.proofs.readings.push_cuts.Goals as goal

pub loop-colon-preserved : goal.loop-colon-preserved
loop-colon-preserved c =
    let ss = c.args.grammar.now.sorts in
    let w = c.args.word.now in
    let k = c.loop-colon.colon in
    let before = all_seen c.args.out.now.items in
    c.in_ok-push_cut.ensures.ok
    ∙ ap (λ xs. xs ++ cut_at ss w c.args.i k) c.loop-colon.invariant
    ∙ append_assoc before (cuts_to ss w c.args.i k) (cut_at ss w c.args.i k)
    ∙ ap (λ n. before ++ cuts_to ss w c.args.i n) (sym (add-one k))
