use Rattle.std.proofs.Common.{ap, sym, subst, ◌∙◌}
use Rattle.mau_module.specs.Framed.{Frame}
use Rattle.mau_module.specs.Flattened.{grammar_in}
use Rattle.mau_module.proofs.Flattening.{made_of_text}
use Rattle.std.specs.Prelude.{All}
use Rattle.mau_poset.specs.Order.{Hierarchy, IsWithin}
use Rattle.mau_signature.specs.Faults.{HasSorts}
use Rattle.mau_module.specs.Kept.{IsOver}
use Rattle.mau_module.proofs.TextMade.{text_next, text_truth}
use Rattle.mau_module.proofs.flatten.module_in.Goals as goal

pub returns-in-Ok-make_module-clause-ok : goal.returns-in-Ok-make_module-clause-ok
returns-in-Ok-make_module-clause-ok c =
    made_of_text c.args.library.now c.args.words.now c.args.raw.now c.args.frame c.requires.frame c.args.elements c.args.signed.signature c.requires.signed
    c.in-Ok.grammar c.args.signed.own.items c.in-Ok-read_statements.read.0 c.in-Ok-read_statements.read.1
    (c.in-Ok.ensures.value ∙ ap (λ (f : Frame). grammar_in c.args.words.now f c.args.elements c.args.signed.signature) c.frame.view_is) c.requires.own c.in-Ok-read_statements.ensures.ok
    c.in-Ok-make_module.module c.in-Ok-make_module.ensures

pub returns-in-Ok-make_module-clause-next : goal.returns-in-Ok-make_module-clause-next
returns-in-Ok-make_module-clause-next c =
    let ms = c.args.library.now in
    let f = c.args.frame in
    let e = c.args.elements in
    let s = c.args.signed.signature in
    let it = c.in-Ok-read_statements.ensures.ok in
    let over : IsOver s e.pairs c.args.signed.own.items = record {
      within = subst (λ (x : Hierarchy). IsWithin e.pairs x.sorts) (sym c.requires.hierarchy) c.requires.over.pairs;
      sorts = subst (λ x. All (HasSorts x) c.args.signed.own.items) (sym c.requires.hierarchy) c.requires.sorts;
    } in
    text_next ms c.args.words.now c.args.raw.now f c.requires.frame e s c.requires.signed c.requires.within c.requires.known
    c.operators-operators.ensures.signature c.in-Ok.grammar c.args.signed.own.items c.in-Ok-read_statements.read.0 c.in-Ok-read_statements.read.1 c.requires.own over it
    c.requires.prelude c.len-modules.ensures.library.made c.in-Ok-make_module.module c.in-Ok-make_module.ensures

pub read_statements-requires-clause-truth : goal.read_statements-requires-clause-truth
read_statements-requires-clause-truth c =
    text_truth c.args.library.now c.args.words.now c.args.raw.now c.args.frame c.requires.frame c.args.elements c.args.signed.signature c.requires.signed c.requires.within c.requires.known
    c.operators-operators.ensures.signature c.requires.prelude c.len-modules.ensures.library.made

pub make_module-requires-clause-truth : goal.make_module-requires-clause-truth
make_module-requires-clause-truth c =
    text_truth c.args.library.now c.args.words.now c.args.raw.now c.args.frame c.requires.frame c.args.elements c.args.signed.signature c.requires.signed c.requires.within c.requires.known
    c.operators-operators.ensures.signature c.requires.prelude c.len-modules.ensures.library.made
