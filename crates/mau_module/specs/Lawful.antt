-- A module as a program: what it says to those that run it. That this is lawful is said in mau_program.
use Rattle.mau_program.specs.declared.program.Program.{Program}
use Rattle.mau_module.specs.Modules.{ModuleOf}

abbrev pub program_of : ModuleOf → Program
program_of m = record {
  sig = m.signature;
  sorts = m.sorts;
  equations = m.statements.equations;
  memberships = m.statements.memberships;
  rules = m.statements.rules;
  strategies = m.statements.strategies;
}
