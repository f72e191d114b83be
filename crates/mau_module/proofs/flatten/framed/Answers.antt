use Rattle.std.proofs.Common.{◌≡◌, ℕ, List, Some, sym, ap, ◌∙◌, Err, arith}
use Rattle.mau_declare.specs.Imports.{imports}
use Rattle.mau_module.specs.declared.fault.ModuleFault.TheVariants.{UnknownModule}
use Rattle.mau_module.specs.Included.{first_unknown}
use Rattle.mau_module.specs.Framed.{Frame}
use Rattle.mau_module.specs.Flattened.{FlattenedAs}
use Rattle.mau_module.proofs.FaultLemmas.{if_fault_then}
use Rattle.mau_module.proofs.Faulted.{not_known, deep, large}
use Rattle.mau_module.proofs.TextMade.{text_closed}
use Rattle.mau_module.proofs.flatten.framed.Goals as goal

pub returns-in-Err-clause-fault : goal.returns-in-Err-clause-fault
returns-in-Err-clause-fault c =
    if_fault_then (λ f. (name : List ℕ) × (f ≡ UnknownModule name) × (first_unknown c.args.library.now (imports c.args.words.now c.args.raw.now.elements) ≡ Some name))
    (λ f. FlattenedAs c.args.library.now c.args.words.now c.args.raw.now (Err f)) (not_known c.args.library.now c.args.words.now c.args.raw.now) c.in-Err.fault c.in-Err.ensures.unknown

pub returns-then-frame-gt-MAX_DEPTH-clause-fault : goal.returns-then-frame-gt-MAX_DEPTH-clause-fault
returns-then-frame-gt-MAX_DEPTH-clause-fault c =
    deep c.args.library.now c.args.words.now c.args.raw.now c.in-Ok.frame c.in-Ok.ensures.ok c.in-Ok.ensures.imported
    (omega (arith, c.if-frame-gt-MAX_DEPTH.true, ap (λ (f : Frame). f.depth) c.frame.view_is))

pub returns-in-Some-clause-fault : goal.returns-in-Some-clause-fault
returns-in-Some-clause-fault c =
    large c.args.library.now c.args.words.now c.args.raw.now c.in-Ok.frame c.in-Ok.ensures.ok c.in-Some.limit c.in-Ok.ensures.imported
    (omega (arith, c.if-frame-gt-MAX_DEPTH.false, ap (λ (f : Frame). f.depth) c.frame.view_is)) (sym c.limit_passed.ensures ∙ c.in-Some.is)

pub returns-in-None-clause-closed : goal.returns-in-None-clause-closed
returns-in-None-clause-closed c =
    text_closed c.args.library.now c.args.words.now c.args.raw.now c.in-Ok.frame c.in-Ok.ensures.ok c.len-modules.ensures.library.made c.requires c.in-Ok.ensures.within c.in-Ok.ensures.known
