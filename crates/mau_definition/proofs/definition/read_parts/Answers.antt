use Rattle.std.proofs.Common.{[], Err, refl, subst}
use Rattle.mau_statement.specs.Parts.{Pairs}
use Rattle.mau_definition.specs.Calls.{CallRead}
use Rattle.mau_definition.specs.Definitions.{around, CallOf}
use Rattle.mau_definition.proofs.Told.{told_then}
use Rattle.mau_definition.proofs.definition.read_parts.Goals as goal

pub returns-in-Err-clause-fault : goal.returns-in-Err-clause-fault
returns-in-Err-clause-fault c =
    let a = around c.args.words.now c.args.context.now c.args.labels.now c.args.names.now in
    c.call_fault.ensures a refl refl
    (told_then (λ f. (os : Pairs) → CallRead a.words a.context a.names c.items.result.now c.new-vars.result os (Err f)) (λ f. CallOf a c.args.raw.now [] [] (Err f))
    (λ f u. subst (λ ts. CallRead a.words a.context a.names ts [] [] (Err f)) c.items.ensures (subst (λ ns. CallRead a.words a.context a.names c.items.result.now ns [] (Err f)) c.new-vars.ensures (u [])))
    c.in-Err.fault c.in-Err.ensures.fault)
