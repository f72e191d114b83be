use Rattle.std.proofs.Common.{◌≡◌, ◌++◌, ap, ap₂, subst, ◌∙◌, Err, Ok}
use Rattle.mau_definition.specs.Definitions.{around}
use Rattle.mau_module.specs.Carried.{carried}
use Rattle.mau_module.specs.Faults.{IfOwn}
use Rattle.mau_module.specs.Framed.{Frame}
use Rattle.mau_module.specs.Modules.{StatementsOf, and_more}
use Rattle.mau_module.specs.Behind.{counts_of}
use Rattle.mau_module.specs.Named.{labels_of, own_labels, own_strats}
use Rattle.mau_module.specs.Stated.{AreLawful, HasCarriedFault, OwnRead, only_strats}
use Rattle.mau_module.specs.Flattened.{carried_in, context_over, OwnAs}
use Rattle.mau_module.proofs.Signatures.{known_in}
use Rattle.mau_module.proofs.Flattening.{parts_at_fault, its_at_fault, stated_moved, own_as}
use Rattle.mau_module.proofs.StratSorts.{names_sorts}
use Rattle.mau_module.proofs.flatten.read_statements.Goals as goal

pub read_carried-requires-clause-known : goal.read_carried-requires-clause-known
read_carried-requires-clause-known c = known_in c.args.library.now c.args.frame.now _ c.deref.result.now c.frame.view_is c.deref.ensures.value c.requires.known

pub returns-in-Err-clause-fault : goal.returns-in-Err-clause-fault
returns-in-Err-clause-fault c =
    let ms = c.args.library.now in
    let s = c.args.signature.now in
    let same : carried ms c.frame.inside.names s c.deref.result.now ≡ carried_in ms c.args.frame.now s =
    ap (carried ms c.frame.inside.names s) c.deref.ensures.value ∙ ap (λ (f : Frame). carried_in ms f s) c.frame.view_is in
    parts_at_fault ms c.args.words.now c.args.raw.now c.args.frame.now c.requires.frame c.args.elements.now s c.requires.signed c.in-Err.fault
    (subst (λ a. IfOwn (λ i x. (i ≡ 0) × HasCarriedFault s a x) c.in-Err.fault) same c.in-Err.ensures.at_fault)

pub own_statements-requires-clause-sorts : goal.own_statements-requires-clause-sorts
own_statements-requires-clause-sorts c =
    let ms = c.args.library.now in
    let s = c.args.signature.now in
    let same : carried ms c.frame.inside.names s c.deref.result.now ≡ carried_in ms c.args.frame.now s =
    ap (carried ms c.frame.inside.names s) c.deref.ensures.value ∙ ap (λ (f : Frame). carried_in ms f s) c.frame.view_is in
    let names : c.in-Ok-named_in.named.names.items ≡ c.in-Ok.statements.strats ++ own_strats c.args.words.now c.args.frame.now.names c.args.raw.now.elements =
    c.in-Ok-named_in.ensures.names
    ∙ ap₂ (λ (f : Frame) es. c.in-Ok.statements.strats ++ own_strats c.args.words.now f.names es) c.frame.view_is c.items.ensures in
    names_sorts ms c.args.words.now c.args.frame.now.names s c.args.frame.now.parts c.args.raw.now.elements c.in-Ok.statements c.in-Ok-named_in.named.names.items
    c.requires.truth c.requires.named (c.in-Ok.ensures.ok ∙ same) names

pub returns-in-Err-own_statements-clause-fault : goal.returns-in-Err-own_statements-clause-fault
returns-in-Err-own_statements-clause-fault c =
    let ms = c.args.library.now in
    let ws = c.args.words.now in
    let raw = c.args.raw.now in
    let f = c.args.frame.now in
    let e = c.args.elements.now in
    let s = c.args.signature.now in
    let g = c.args.grammar.now in
    let a = c.in-Ok.statements in
    let n = c.in-Ok-named_in.named in
    let same : carried ms c.frame.inside.names s c.deref.result.now ≡ carried_in ms f s =
    ap (carried ms c.frame.inside.names s) c.deref.ensures.value ∙ ap (λ (x : Frame). carried_in ms x s) c.frame.view_is in
    let is : a ≡ carried_in ms f s = c.in-Ok.ensures.ok ∙ same in
    let labels = c.in-Ok-named_in.ensures.labels ∙ ap₂ (λ (b : StatementsOf) es. labels_of b.rules ++ own_labels ws es) is c.items.ensures in
    let strats = c.in-Ok-named_in.ensures.strats ∙ ap₂ (λ (x : Frame) es. own_strats ws x.names es) c.frame.view_is c.items.ensures in
    let names = c.in-Ok-named_in.ensures.names ∙ ap₂ (λ (x : Frame) es. a.strats ++ own_strats ws x.names es) c.frame.view_is c.items.ensures
    ∙ ap (λ (b : StatementsOf). b.strats ++ own_strats ws f.names raw.elements) is in
    its_at_fault ms ws raw f c.requires.frame e s c.requires.signed (subst (AreLawful s) is c.in-Ok.ensures.lawful) c.in-Err-own_statements.fault
    (stated_moved (λ i x. OwnRead (around ws (context_over ms f s g) n.labels.items n.names.items) (only_strats n.strats.items) 1 raw.elements (Err (i, x)))
    (λ i x. OwnAs ms ws raw f e s (Err (i, x)))
    (λ i x w. own_as ms ws raw f e s g n.labels.items n.names.items n.strats.items c.requires.grammar labels names strats (Err (i, x)) w)
    c.in-Err-own_statements.fault c.in-Err-own_statements.ensures.at_fault)

pub returns-in-Ok-append-clause-ok : goal.returns-in-Ok-append-clause-ok
returns-in-Ok-append-clause-ok c =
    let ms = c.args.library.now in
    let ws = c.args.words.now in
    let raw = c.args.raw.now in
    let f = c.args.frame.now in
    let e = c.args.elements.now in
    let s = c.args.signature.now in
    let g = c.args.grammar.now in
    let a = c.in-Ok.statements in
    let n = c.in-Ok-named_in.named in
    let same : carried ms c.frame.inside.names s c.deref.result.now ≡ carried_in ms f s =
    ap (carried ms c.frame.inside.names s) c.deref.ensures.value ∙ ap (λ (x : Frame). carried_in ms x s) c.frame.view_is in
    let is : a ≡ carried_in ms f s = c.in-Ok.ensures.ok ∙ same in
    let labels = c.in-Ok-named_in.ensures.labels ∙ ap₂ (λ (b : StatementsOf) es. labels_of b.rules ++ own_labels ws es) is c.items.ensures in
    let strats = c.in-Ok-named_in.ensures.strats ∙ ap₂ (λ (x : Frame) es. own_strats ws x.names es) c.frame.view_is c.items.ensures in
    let names = c.in-Ok-named_in.ensures.names ∙ ap₂ (λ (x : Frame) es. a.strats ++ own_strats ws x.names es) c.frame.view_is c.items.ensures
    ∙ ap (λ (b : StatementsOf). b.strats ++ own_strats ws f.names raw.elements) is in
    record {
      lawful = subst (AreLawful s) is c.in-Ok.ensures.lawful;
      own = c.in-Ok-own_statements.own;
      read = own_as ms ws raw f e s g n.labels.items n.names.items n.strats.items c.requires.grammar labels names strats (Ok c.in-Ok-own_statements.own) c.in-Ok-own_statements.ensures.ok;
      its = c.in-Ok-own_statements.ensures.lawful;
      counted = c.counts-included.ensures ∙ ap counts_of is;
      whole = c.in-Ok-append.ensures ∙ ap (λ b. and_more b c.in-Ok-own_statements.own) is;
    }
