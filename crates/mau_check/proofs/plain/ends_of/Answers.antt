use Rattle.std.proofs.Common.{◌≡◌, ◌+◌, ◌++◌, [], ◌∷◌, take, false, ap, ◌∙◌}
use Rattle.std.proofs.lemmas.List.{take_more}
use Rattle.mau_check.specs.declared.kept.Holes.TheVariants.{Absent}
use Rattle.mau_check.specs.declared.said.Said.TheVariants.{Leads}
use Rattle.mau_check.proofs.Leading.{no_ends, ends_more, ends_as}
use Rattle.mau_check.proofs.plain.ends_of.Goals as goal

pub returns-in-Sorted-clause-none : goal.returns-in-Sorted-clause-none
returns-in-Sorted-clause-none c e starts ends h =
    no_ends c.args.uses.now c.loop-said.said-index (Leads false (record { id = record { 0 = 0 }; kind = 0; holes = Absent }) (record { id = record { 0 = 0 }; kind = 0; holes = Absent })) c.in-Sorted.field-0 c.in-Sorted.field-1 e starts ends c.loop-said-test.true c.in-Sorted.is h

pub loop-said-preserved : goal.loop-said-preserved
loop-said-preserved c =
    let xs = c.args.uses.now in
    let i = c.loop-said.said-index in
    let more : take (i + 1) xs ≡ take i xs ++ Leads c.in-Leads.e c.in-Leads.a c.in-Leads.b ∷ [] =
    take_more xs i (Leads false (record { id = record { 0 = 0 }; kind = 0; holes = Absent }) (record { id = record { 0 = 0 }; kind = 0; holes = Absent })) c.loop-said-test.true ∙ ap (λ z. take i xs ++ z ∷ []) c.in-Leads.is in
    ends_as _ _ _ _ _ _ _ _ more c.both-equations.ensures c.in_ok-push.ensures.items c.in_ok-push-2.ensures.items
    (ends_more (take i xs) c.loop-said.equations c.in-Leads.e c.loop-said.starts.items c.loop-said.ends.items c.in-Leads.a c.in-Leads.b c.loop-said.invariant)
