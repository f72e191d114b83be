use Rattle.std.proofs.Common.{◌≡◌, sym, ap, subst, ◌∙◌, Err}
use Rattle.mau_declare.specs.Faults.{IfUnknownSort}
use Rattle.mau_declare.specs.Elements.{elements_of}
use Rattle.mau_module.specs.Framed.{Frame}
use Rattle.mau_module.proofs.Faulted.{no_sort}
use Rattle.mau_module.proofs.flatten.declared.Goals as goal

pub returns-in-Err-UnknownSort-clause-fault : goal.returns-in-Err-UnknownSort-clause-fault
returns-in-Err-UnknownSort-clause-fault c =
    let read = subst (λ x. IfUnknownSort x (λ at. elements_of c.args.words.now c.frame.inside.names c.items.result.now ≡ Err at)) c.in-Err-UnknownSort.field-0-is c.in-Err-UnknownSort.ensures.unknown in
    no_sort c.args.library.now c.args.words.now c.args.raw.now c.args.frame.now c.requires.frame c.in-Err-UnknownSort.at c.requires.framed
    (ap (λ (x : Frame). elements_of c.args.words.now x.names c.args.raw.now.elements) (sym c.frame.view_is) ∙ ap (elements_of c.args.words.now c.frame.inside.names) (sym c.items.ensures) ∙ read)
