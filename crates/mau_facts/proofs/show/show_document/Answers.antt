use Rattle.std.proofs.Common.{◌++◌, ap, ◌∙◌}
use Rattle.mau_facts.specs.Documents.{head}
use Rattle.mau_facts.specs.Spelling.{sections_text}
use Rattle.mau_facts.proofs.Written.{written}
use Rattle.mau_facts.proofs.show.show_document.Goals as goal

pub returns : goal.returns
returns c =
    let d = c.args.document.now in
    written d c.write_sections.new.out.items c.requires
    (c.in_ok-write_sections.ensures
    ∙ ap (λ xs. c.write_head.new.out.items ++ sections_text xs) c.items-2.ensures
    ∙ ap (λ w. w ++ sections_text d.sections)
    (c.in_ok-write_head.ensures
    ∙ ap (λ t. c.new-out.result.items ++ head t) c.items.ensures
    ∙ ap (λ n. n ++ head d.text) c.new-out.ensures.items))
