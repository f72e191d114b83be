use Rattle.mau_signature.proofs.Grouped.{IsGrouped}
use Rattle.mau_signature.proofs.build.group_all.Given as goal

abbrev pub invariant-loop-decl : goal.invariant-loop-decl
invariant-loop-decl l = IsGrouped (record { hierarchy = l.poset; declarations = l.fn.decls.items; numerals = l.numerals }) l.names l.yielded l.groups.items l.number l.decl-iterator.rest.items
