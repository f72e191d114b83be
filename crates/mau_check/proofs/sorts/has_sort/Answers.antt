use Rattle.mau_check.proofs.sorts.has_sort.Goals as goal

pub returns-in_err-settle_term-in-None-clause-plain : goal.returns-in_err-settle_term-in-None-clause-plain
returns-in_err-settle_term-in-None-clause-plain c = record { over = c.settle_term.ensures.over; entries = c.settle_term.ensures.value c.requires.plain.entries }

pub returns-in_ok-settle_term-in-None-clause-plain : goal.returns-in_ok-settle_term-in-None-clause-plain
returns-in_ok-settle_term-in-None-clause-plain c = record { over = c.settle_term.ensures.over; entries = c.settle_term.ensures.value c.requires.plain.entries }
