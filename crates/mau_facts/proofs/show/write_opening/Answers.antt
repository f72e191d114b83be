use Rattle.std.proofs.Common.{◌++◌, ◌∷◌, [], decimal, ap, ◌∙◌}
use Rattle.mau_facts.proofs.Written.{opening_written}
use Rattle.mau_facts.proofs.show.write_opening.Goals as goal

pub returns : goal.returns
returns c =
    c.in_ok-end_line.ensures
    ∙ ap (λ w. w ++ 10 ∷ [])
    (c.in_ok-write_bytes-2.ensures
    ∙ ap (λ b. c.write_bytes.new.out.items ++ b) (c.as_bytes.ensures.value ∙ c.format.ensures.text)
    ∙ ap (λ w. w ++ decimal c.args.size) c.in_ok-write_bytes.ensures)
    ∙ opening_written c.args.out.now.items c.args.size
