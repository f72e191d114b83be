use Rattle.std.proofs.Common.{◌++◌, ap, ◌∙◌, Err}
use Rattle.mau_declare.specs.Flattened.{declarations}
use Rattle.mau_module.specs.Declarations.{given_over}
use Rattle.mau_signing.specs.Signed.{SignatureRead}
use Rattle.mau_signing.specs.Refusals.{IsCycleRefusal}
use Rattle.mau_module.specs.Framed.{Frame}
use Rattle.mau_module.specs.Flattened.{given_in, conflict_in}
use Rattle.mau_module.proofs.Signatures.{known_in, if_signed_then, signed_fault, on_cycle_read, ordered, own_is, read_in}
use Rattle.mau_module.proofs.Numerals.{text_names, text_numerals, text_short}
use Rattle.mau_module.proofs.signing.sign_over.Goals as goal

pub returns-in-Err-clause-refused : goal.returns-in-Err-clause-refused
returns-in-Err-clause-refused c =
    let f = c.args.frame.now in
    let g = given_in c.args.library.now c.args.frame.now c.args.elements.now in
    let k = conflict_in c.args.library.now c.args.frame.now c.args.elements.now in
    signed_fault (IsCycleRefusal c.frame.inside.names c.deref-2.result.now) (λ t. SignatureRead c.args.frame.now.names g k (Err t))
    (on_cycle_read c.frame.inside.names c.args.frame.now.names c.deref-2.result.now g k (ap (λ (x : Frame). x.names) c.frame.view_is) (c.deref-2.ensures.value ∙ c.in_ok-pairs.ensures.pairs))
    c.in-Err.fault c.fault_of.result c.fault_of.ensures c.in-Err.ensures.cycle

pub sign_declarations-requires-clause-known : goal.sign_declarations-requires-clause-known
sign_declarations-requires-clause-known c = known_in c.args.library.now c.args.frame.now _ c.deref-4.result.now c.frame.view_is c.deref-4.ensures.value c.requires.known

pub returns-in-Ok-sign_declarations-clause-own : goal.returns-in-Ok-sign_declarations-clause-own
returns-in-Ok-sign_declarations-clause-own c =
    own_is c.args.library.now c.args.frame.now c.args.elements.now c.frame.inside.names c.deref-3.result.now (ap (λ (x : Frame). x.names) c.frame.view_is)
    (c.deref-3.ensures.value ∙ ap (λ (x : Frame). x.parts) c.frame.view_is) c.deref-2.result.now (c.deref-2.ensures.value ∙ c.in_ok-pairs.ensures.pairs) c.in-Ok.poset c.in-Ok.ensures.ok
    c.numerals_of-numerals.result c.numerals_of-numerals.ensures.value c.numeral_kind.result c.add_declarations.new.decls.items c.numeral_kind.ensures
    (c.in_ok-add_declarations.ensures.value ∙ ap (λ xs. xs ++ declarations c.in-Ok.poset c.numeral_kind.result c.args.elements.now.operators) c.new-own.ensures.items)

pub returns-clause-refused : goal.returns-clause-refused
returns-clause-refused c =
    let ms = c.args.library.now in
    let f = c.args.frame.now in
    let e = c.args.elements.now in
    let names = c.frame.inside.names in
    let own = own_is ms f e names c.deref-3.result.now (ap (λ (x : Frame). x.names) c.frame.view_is)
    (c.deref-3.ensures.value ∙ ap (λ (x : Frame). x.parts) c.frame.view_is) c.deref-2.result.now (c.deref-2.ensures.value ∙ c.in_ok-pairs.ensures.pairs) c.in-Ok.poset c.in-Ok.ensures.ok
    c.numerals_of-numerals.result c.numerals_of-numerals.ensures.value c.numeral_kind.result c.add_declarations.new.decls.items c.numeral_kind.ensures
    (c.in_ok-add_declarations.ensures.value ∙ ap (λ xs. xs ++ declarations c.in-Ok.poset c.numeral_kind.result e.operators) c.new-own.ensures.items) in
    if_signed_then (λ t. SignatureRead names (given_over ms c.deref-4.result.now names c.in-Ok.poset c.deref-6.result.now) c.conflict_in-conflict.result (Err t))
    (λ t. SignatureRead f.names (given_in ms f e) (conflict_in ms f e) (Err t))
    (λ t. read_in ms f e names c.deref-4.result.now (ap (λ (x : Frame). x.names) c.frame.view_is) (c.deref-4.ensures.value ∙ ap (λ (x : Frame). x.parts) c.frame.view_is)
    c.deref-2.result.now (c.deref-2.ensures.value ∙ c.in_ok-pairs.ensures.pairs) c.in-Ok.poset c.in-Ok.ensures.ok c.deref-6.result.now (c.deref-6.ensures.value ∙ own)
    c.conflict_in-conflict.result _ c.conflict_in-conflict.ensures.value (Err t))
    c.in-Err-sign_declarations.fault c.in-Err-sign_declarations.ensures.refused

pub numerals_of-numerals-requires-clause-some : goal.numerals_of-numerals-requires-clause-some
numerals_of-numerals-requires-clause-some c =
    text_names c.args.library.now c.args.frame.now c.args.elements.now c.frame.inside.names c.deref-3.result.now (ap (λ (x : Frame). x.names) c.frame.view_is)
    (c.deref-3.ensures.value ∙ ap (λ (x : Frame). x.parts) c.frame.view_is) c.len-modules.ensures.library.made c.requires.closed c.requires.prelude c.requires.plain

pub sign_declarations-requires-clause-numerals : goal.sign_declarations-requires-clause-numerals
sign_declarations-requires-clause-numerals c =
    let ms = c.args.library.now in
    let f = c.args.frame.now in
    let e = c.args.elements.now in
    let names = c.frame.inside.names in
    let n = ap (λ (x : Frame). x.names) c.frame.view_is in
    let p = c.deref-4.ensures.value ∙ ap (λ (x : Frame). x.parts) c.frame.view_is in
    let own = own_is ms f e names c.deref-3.result.now n
    (c.deref-3.ensures.value ∙ ap (λ (x : Frame). x.parts) c.frame.view_is) c.deref-2.result.now (c.deref-2.ensures.value ∙ c.in_ok-pairs.ensures.pairs) c.in-Ok.poset c.in-Ok.ensures.ok
    c.numerals_of-numerals.result c.numerals_of-numerals.ensures.value c.numeral_kind.result c.add_declarations.new.decls.items c.numeral_kind.ensures
    (c.in_ok-add_declarations.ensures.value ∙ ap (λ xs. xs ++ declarations c.in-Ok.poset c.numeral_kind.result e.operators) c.new-own.ensures.items) in
    text_numerals ms f e names c.deref-4.result.now n p c.len-modules.ensures.library.made c.requires.closed c.requires.prelude c.requires.plain c.in-Ok.poset
    (ordered ms f e names c.deref-4.result.now n p c.deref-2.result.now (c.deref-2.ensures.value ∙ c.in_ok-pairs.ensures.pairs) c.in-Ok.poset c.in-Ok.ensures.ok)
    c.deref-6.result.now (c.deref-6.ensures.value ∙ own)

pub sign_declarations-requires-clause-short : goal.sign_declarations-requires-clause-short
sign_declarations-requires-clause-short c =
    let ms = c.args.library.now in
    let f = c.args.frame.now in
    let e = c.args.elements.now in
    let names = c.frame.inside.names in
    let n = ap (λ (x : Frame). x.names) c.frame.view_is in
    let p = c.deref-4.ensures.value ∙ ap (λ (x : Frame). x.parts) c.frame.view_is in
    let own = own_is ms f e names c.deref-3.result.now n
    (c.deref-3.ensures.value ∙ ap (λ (x : Frame). x.parts) c.frame.view_is) c.deref-2.result.now (c.deref-2.ensures.value ∙ c.in_ok-pairs.ensures.pairs) c.in-Ok.poset c.in-Ok.ensures.ok
    c.numerals_of-numerals.result c.numerals_of-numerals.ensures.value c.numeral_kind.result c.add_declarations.new.decls.items c.numeral_kind.ensures
    (c.in_ok-add_declarations.ensures.value ∙ ap (λ xs. xs ++ declarations c.in-Ok.poset c.numeral_kind.result e.operators) c.new-own.ensures.items) in
    text_short ms f e names c.deref-4.result.now n p c.len-modules.ensures.library.made c.requires.closed c.requires.prelude c.requires.plain c.in-Ok.poset
    (ordered ms f e names c.deref-4.result.now n p c.deref-2.result.now (c.deref-2.ensures.value ∙ c.in_ok-pairs.ensures.pairs) c.in-Ok.poset c.in-Ok.ensures.ok)
    c.deref-6.result.now (c.deref-6.ensures.value ∙ own) c.requires.few c.requires.count
