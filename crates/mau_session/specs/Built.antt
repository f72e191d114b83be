-- Commands by their kinds, and modules with memberships that are used.
use Rattle.std.specs.Prelude.{Bool, true, false}
use Rattle.std.specs.List.{list_any}
use Rattle.mau_modtext.specs.declared.raw.CommandKind.{CommandKind}
use Rattle.mau_modtext.specs.declared.raw.CommandKind.TheVariants.{Match, Xmatch, Reduce, Rewrite, Frewrite, Continue}
use Rattle.mau_program.specs.declared.statements.Membership.{Membership}
use Rattle.mau_module.specs.Modules.{ModuleOf}

-- a membership of the module may be used to evaluate, so that a term may have a lower sort than the declared one
abbrev pub uses_memberships : ModuleOf → Bool
uses_memberships m = list_any (λ (x : Membership). x.exec) m.statements.memberships

abbrev pub is_match : CommandKind → Bool
is_match Match = true
is_match Xmatch = true
is_match _ = false

-- whether the solutions of a match have contexts
abbrev pub has_context : CommandKind → Bool
has_context Xmatch = true
has_context _ = false

abbrev pub is_reduce : CommandKind → Bool
is_reduce Reduce = true
is_reduce _ = false

-- by rules, in either way
abbrev pub is_rewrite : CommandKind → Bool
is_rewrite Rewrite = true
is_rewrite Frewrite = true
is_rewrite _ = false

-- whether rules are applied fairly
abbrev pub is_fair : CommandKind → Bool
is_fair Frewrite = true
is_fair _ = false

abbrev pub is_continue : CommandKind → Bool
is_continue Continue = true
is_continue _ = false
