use Rattle.std.proofs.Common.{◌++◌, ap, subst, ◌∙◌}
use Rattle.mau_declare.specs.Flattened.{AreLower}
use Rattle.mau_module.specs.Declarations.{hierarchy_over}
use Rattle.mau_module.proofs.Tabled.{ordered_as, signed_as}
use Rattle.mau_module.proofs.ReadyMade.{right_as}
use Rattle.mau_module.proofs.Signable.{own_sorts, cycle_memory, refusal_memory, sorts_so, short_so, numerals_so}
use Rattle.mau_module.proofs.prelude.sign_table.Goals as goal

pub returns-in-Ok-sign_declarations-clause-signature : goal.returns-in-Ok-sign_declarations-clause-signature
returns-in-Ok-sign_declarations-clause-signature c =
    signed_as c.args.library.now c.args.names.now c.args.parts.now c.args.pairs.now c.deref-2.result.now
    (c.deref-2.ensures.value ∙ c.in_ok-extend_from_slice.ensures.items ∙ ap (λ ps. ps ++ c.args.pairs.now) c.in_ok-all.ensures.pairs)
    c.in-Ok.poset c.in-Ok.ensures.ok c.args.own.items c.deref-4.result.now c.deref-4.ensures.value c.in-Ok-sign_declarations.signature c.in-Ok-sign_declarations.ensures.ok

pub returns-in-Ok-sign_declarations-clause-hierarchy : goal.returns-in-Ok-sign_declarations-clause-hierarchy
returns-in-Ok-sign_declarations-clause-hierarchy c =
    c.in-Ok-sign_declarations.ensures.hierarchy
    ∙ ordered_as c.args.library.now c.args.names.now c.args.parts.now c.args.pairs.now c.deref-2.result.now
    (c.deref-2.ensures.value ∙ c.in_ok-extend_from_slice.ensures.items ∙ ap (λ ps. ps ++ c.args.pairs.now) c.in_ok-all.ensures.pairs)
    c.in-Ok.poset c.in-Ok.ensures.ok

pub returns-in-Ok-sign_declarations-clause-lower : goal.returns-in-Ok-sign_declarations-clause-lower
returns-in-Ok-sign_declarations-clause-lower c =
    subst (λ n. AreLower n (hierarchy_over c.args.library.now c.args.parts.now c.args.names.now c.args.pairs.now).pairs c.in_ok-lower.lower.items) c.len.ensures.count
    (subst (λ ps. AreLower c.len.result ps c.in_ok-lower.lower.items)
    (c.deref.ensures.value ∙ c.in_ok-extend_from_slice.ensures.items ∙ ap (λ ps. ps ++ c.args.pairs.now) c.in_ok-all.ensures.pairs) c.in_ok-lower.ensures)

pub returns-in-Ok-sign_declarations-clause-sorts : goal.returns-in-Ok-sign_declarations-clause-sorts
returns-in-Ok-sign_declarations-clause-sorts c = own_sorts c.args.library.now c.args.parts.now c.args.names.now c.args.pairs.now c.args.own.items c.requires.signable

pub returns-in-Ok-sign_declarations-clause-right : goal.returns-in-Ok-sign_declarations-clause-right
returns-in-Ok-sign_declarations-clause-right c =
    right_as c.args.library.now c.args.names.now c.args.parts.now c.in-Ok.poset c.deref-4.result.now c.in-Ok-sign_declarations.signature c.in-Ok-sign_declarations.ensures.ok

pub only_memory-requires : goal.only_memory-requires
only_memory-requires c =
    c.fault_of.ensures
    ∙ cycle_memory c.args.library.now c.args.parts.now c.args.names.now c.args.pairs.now c.args.own.items c.requires.signable c.deref-2.result.now
    (c.deref-2.ensures.value ∙ c.in_ok-extend_from_slice.ensures.items ∙ ap (λ ps. ps ++ c.args.pairs.now) c.in_ok-all.ensures.pairs)
    c.in-Err.fault c.in-Err.ensures.cycle

pub only_memory-requires-in-Err-sign_declarations : goal.only_memory-requires-in-Err-sign_declarations
only_memory-requires-in-Err-sign_declarations c =
    refusal_memory c.args.library.now c.args.parts.now c.args.names.now c.args.pairs.now c.args.own.items c.requires.signable c.deref-2.result.now
    (c.deref-2.ensures.value ∙ c.in_ok-extend_from_slice.ensures.items ∙ ap (λ ps. ps ++ c.args.pairs.now) c.in_ok-all.ensures.pairs)
    c.in-Ok.poset c.in-Ok.ensures.ok c.deref-4.result.now c.deref-4.ensures.value c.in-Err-sign_declarations.fault c.in-Err-sign_declarations.ensures.refused

pub sign_declarations-requires-clause-sorts : goal.sign_declarations-requires-clause-sorts
sign_declarations-requires-clause-sorts c =
    sorts_so c.args.library.now c.args.parts.now c.args.names.now c.args.pairs.now c.args.own.items c.requires.signable c.deref-2.result.now
    (c.deref-2.ensures.value ∙ c.in_ok-extend_from_slice.ensures.items ∙ ap (λ ps. ps ++ c.args.pairs.now) c.in_ok-all.ensures.pairs)
    c.in-Ok.poset c.in-Ok.ensures.ok c.deref-4.result.now c.deref-4.ensures.value

pub sign_declarations-requires-clause-short : goal.sign_declarations-requires-clause-short
sign_declarations-requires-clause-short c =
    short_so c.args.library.now c.args.parts.now c.args.names.now c.args.pairs.now c.args.own.items c.requires.signable c.deref-2.result.now
    (c.deref-2.ensures.value ∙ c.in_ok-extend_from_slice.ensures.items ∙ ap (λ ps. ps ++ c.args.pairs.now) c.in_ok-all.ensures.pairs)
    c.in-Ok.poset c.in-Ok.ensures.ok c.deref-4.result.now c.deref-4.ensures.value

pub sign_declarations-requires-clause-numerals : goal.sign_declarations-requires-clause-numerals
sign_declarations-requires-clause-numerals c =
    numerals_so c.args.library.now c.args.parts.now c.args.names.now c.args.pairs.now c.args.own.items c.requires.signable c.deref-2.result.now
    (c.deref-2.ensures.value ∙ c.in_ok-extend_from_slice.ensures.items ∙ ap (λ ps. ps ++ c.args.pairs.now) c.in_ok-all.ensures.pairs)
    c.in-Ok.poset c.in-Ok.ensures.ok c.deref-4.result.now c.deref-4.ensures.value
