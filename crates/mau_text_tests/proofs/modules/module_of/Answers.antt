use Rattle.mau_text_tests.proofs.modules.module_of.Goals as goal

pub of-requires : goal.of-requires
of-requires g c = (c.in_ok-grammar.ensures.0, c.in_ok-grammar.ensures.1, c.in_ok-grammar.ensures.2.made)

pub returns : goal.returns
returns g c = c.in_ok-grammar.ensures
