use Rattle.std.proofs.Common.{◌≡◌, ◌≤◌, ◌<◌, Err, length, sym, ◌∙◌, arith}
use Rattle.mau_definition.specs.Definitions.{DefinitionUnread, DefinitionRead, too_many_unread, part_unread}
use Rattle.mau_definition.proofs.Told.{fault_then, fault_of, fault_none}
use Rattle.mau_definition.proofs.definition.unread_fault.Goals as goal

pub returns-then-fragments-le-MAX_FRAGMENTS : goal.returns-then-fragments-le-MAX_FRAGMENTS
returns-then-fragments-le-MAX_FRAGMENTS c =
    λ a raw e h. fault_then (DefinitionUnread a raw) (λ f. DefinitionRead a raw (Err f)) (λ f u. part_unread f u (omega (arith, e, c.if-fragments-le-MAX_FRAGMENTS.true))) c.args.fault h

pub returns-then-is_memory : goal.returns-then-is_memory
returns-then-is_memory c = λ a raw e h. fault_none (λ f. DefinitionRead a raw (Err f)) c.args.fault (sym c.is_memory.ensures ∙ c.if-is_memory.true)

pub returns : goal.returns
returns c = λ a raw e h.
    too_many_unread c.args.fault (fault_of (DefinitionUnread a raw) c.args.fault (sym c.is_memory.ensures ∙ c.if-is_memory.false) h) (omega (arith, e, c.if-fragments-le-MAX_FRAGMENTS.false))
