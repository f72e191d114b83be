use Rattle.mau_prove.proofs.section.make.Goals as goal

pub add_variables-requires-clause-stand : goal.add_variables-requires-clause-stand
add_variables-requires-clause-stand c = c.no_lines-lines.ensures c.args.program.now.sig
