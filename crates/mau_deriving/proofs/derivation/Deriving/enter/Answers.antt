use Rattle.std.proofs.Common.{◌≡◌, true, false, sym, ◌∙◌, subst}
use Rattle.mau_sorts.specs.SortSets.{AreSorts}
use Rattle.mau_sorts.proofs.Settling.{kept_same}
use Rattle.mau_listing.proofs.Closed.{closed_same, closed_more}
use Rattle.mau_deriving.proofs.Kept.{ready_in, derived_same, entered_in}
use Rattle.mau_deriving.proofs.derivation.Deriving.enter.Goals as goal

pub returns-then-is_settled-clause-derived : goal.returns-then-is_settled-clause-derived
returns-then-is_settled-clause-derived c = λ hooks limit k d. d

pub returns-then-is_settled-clause-kept : goal.returns-then-is_settled-clause-kept
returns-then-is_settled-clause-kept c = kept_same c.args.table.now

pub returns-then-is_settled-clause-over : goal.returns-then-is_settled-clause-over
returns-then-is_settled-clause-over c = c.requires.stands.can_be_asked.over

pub settle_declared-requires-clause-ready : goal.settle_declared-requires-clause-ready
settle_declared-requires-clause-ready c = ready_in c.args.program.now.sig c.requires.signature c.args.store.now c.has_nodes.ensures c.args.table.now c.args.self.now.term.0 c.requires.stands.can_be_asked

pub settle_declared-requires-clause-unsettled : goal.settle_declared-requires-clause-unsettled
settle_declared-requires-clause-unsettled c = λ s. let k : true ≡ false = sym (c.is_settled.ensures.1 s) ∙ c.if-is_settled.false in absurd (cc)

pub settle_declared-requires-clause-over : goal.settle_declared-requires-clause-over
settle_declared-requires-clause-over c = c.requires.stands.can_be_asked.over

pub settle_declared-requires-clause-more : goal.settle_declared-requires-clause-more
settle_declared-requires-clause-more c = subst (AreSorts c.args.program.now.sig.hierarchy) (sym c.deref.ensures.value) c.requires.stands.found

pub returns-in_err-settle_declared-clause-derived : goal.returns-in_err-settle_declared-clause-derived
returns-in_err-settle_declared-clause-derived c = λ hooks limit k d.
    derived_same c.args.program.now hooks limit c.args.store.now c.args.table.now c.settle_declared.new.self c.in_err-settle_declared.ensures.unchanged c.in_err-settle_declared.ensures.over d

pub returns-in_err-settle_declared-clause-kept : goal.returns-in_err-settle_declared-clause-kept
returns-in_err-settle_declared-clause-kept c = c.in_err-settle_declared.ensures.kept

pub returns-in_err-settle_declared-clause-over : goal.returns-in_err-settle_declared-clause-over
returns-in_err-settle_declared-clause-over c = c.in_err-settle_declared.ensures.over

pub returns-clause-derived : goal.returns-clause-derived
returns-clause-derived c =
    entered_in c.args.program.now c.requires.lawful c.requires.signature c.args.store.now c.has_nodes.ensures c.args.table.now c.settle_declared.new.self c.args.self.now c.requires.stands
    (λ s. let k : true ≡ false = sym (c.is_settled.ensures.1 s) ∙ c.if-is_settled.false in absurd (cc)) c.requires.done c.deref.result.now c.deref.ensures.value
    c.in_ok-settle_declared.ensures.kept c.in_ok-settle_declared.ensures.ok c.in_ok-settle_declared.ensures.over c.in_ok-settle_declared.ensures.value

pub returns-clause-kept : goal.returns-clause-kept
returns-clause-kept c = c.in_ok-settle_declared.ensures.kept

pub returns-clause-over : goal.returns-clause-over
returns-clause-over c = c.in_ok-settle_declared.ensures.over

pub returns-then-is_settled-clause-closed : goal.returns-then-is_settled-clause-closed
returns-then-is_settled-clause-closed c = λ h. h

pub returns-in_err-settle_declared-clause-closed : goal.returns-in_err-settle_declared-clause-closed
returns-in_err-settle_declared-clause-closed c = closed_same c.args.store.now c.args.table.now c.settle_declared.new.self c.in_err-settle_declared.ensures.unchanged

pub returns-clause-closed : goal.returns-clause-closed
returns-clause-closed c =
    closed_more c.args.program.now.sig c.args.store.now c.args.table.now c.settle_declared.new.self c.args.self.now.term.0
    (ready_in c.args.program.now.sig c.requires.signature c.args.store.now c.has_nodes.ensures c.args.table.now c.args.self.now.term.0 c.requires.stands.can_be_asked)
    c.in_ok-settle_declared.ensures.kept c.in_ok-settle_declared.ensures.ok.others
