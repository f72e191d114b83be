use Rattle.std.proofs.Common.{◌<◌, [], length, refl, sym, ap, ap₂, subst, ◌∙◌}
use Rattle.std.specs.Prelude.{All}
use Rattle.mau_poset.specs.Order.{Hierarchy, IsWithin}
use Rattle.mau_signature.specs.Faults.{HasSorts, IsSort}
use Rattle.mau_signature.specs.Signature.{SignatureOf}
use Rattle.mau_grammar.specs.declared.aliases.Alias.{Alias}
use Rattle.mau_program.specs.BuiltIns.{HasTruth}
use Rattle.mau_prelude.specs.Tables.{TableOf}
use Rattle.mau_signing.specs.Signed.{signature_over}
use Rattle.mau_grammar.specs.Grammar.{grammar_of}
use Rattle.mau_module.specs.Modules.{and_more}
use Rattle.mau_module.specs.Behind.{counts_of, behind}
use Rattle.mau_module.specs.Framed.{Frame}
use Rattle.mau_module.specs.Kept.{IsOver}
use Rattle.mau_module.specs.Stated.{AreLawful}
use Rattle.mau_module.specs.Declarations.{hierarchy_over}
use Rattle.mau_module.specs.Carried.{carried}
use Rattle.mau_module.specs.Prelude.{table_statements, table_module}
use Rattle.mau_module.specs.Ready.{IsSignable}
use Rattle.mau_module.proofs.Signable.{carried_memory}
use Rattle.mau_module.proofs.Signatures.{known_in}
use Rattle.mau_module.proofs.Tabled.{if_ok_is, given_as, carried_as, made, made_of_table}
use Rattle.mau_module.proofs.ReadyMade.{right_given}
use Rattle.mau_module.proofs.prelude.make_module.Goals as goal

pub sign_table-requires-clause-known : goal.sign_table-requires-clause-known
sign_table-requires-clause-known c = known_in c.args.library.now c.args.frame _ c.deref.result.now c.frame.view_is c.deref.ensures.value c.requires.known

pub read_carried-requires-clause-parts : goal.read_carried-requires-clause-parts
read_carried-requires-clause-parts c =
    subst (All (λ p. p < length c.args.library.now)) (sym (c.deref-4.ensures.value ∙ ap (λ (x : Frame). x.parts) c.frame.view_is)) c.requires.parts

pub read_carried-requires-clause-known : goal.read_carried-requires-clause-known
read_carried-requires-clause-known c = known_in c.args.library.now c.args.frame _ c.deref-4.result.now c.frame.view_is c.deref-4.ensures.value c.requires.known

pub returns-clause-right : goal.returns-clause-right
returns-clause-right c =
    let ms = c.args.library.now in
    let f = c.args.frame in
    let t : TableOf = record { name = c.args.name; sorts = []; pairs = c.args.pairs.items; declarations = c.args.declarations.items; variables = c.args.variables.items; equations = c.args.equations.items } in
    let s = c.in_ok-signed.signed.signature in
    let names = ap (λ (x : Frame). x.names) c.frame.view_is in
    let over : IsOver s c.args.pairs.items c.in_ok-signed.signed.own.items = record {
      within = subst (λ (x : Hierarchy). IsWithin c.args.pairs.items x.sorts) (sym c.in_ok-signed.ensures.hierarchy)
          (subst (λ ns. IsWithin c.args.pairs.items (length ns)) (sym names) c.requires.signable.within);
      sorts = subst (λ x. All (HasSorts x) c.in_ok-signed.signed.own.items) (sym c.in_ok-signed.ensures.hierarchy) c.in_ok-signed.ensures.sorts;
    } in
    let whole = c.in-Ok.ensures.ok ∙ carried_as ms f t c.frame.inside.names c.deref-4.result.now s names (c.deref-4.ensures.value ∙ ap (λ (x : Frame). x.parts) c.frame.view_is) in
    right_given ms f.parts c.new.result (made ms f t c.len.result s c.in_ok-grammar.grammar c.in_ok-signed.signed.own.items c.append.new.self (behind c.counts-included.result c.append.new.self)) c.new.ensures
    (record {
      made = c.operators-operators.ensures.signature;
      poset = c.in_ok-signed.ensures.right.0;
      accepted = c.in_ok-signed.ensures.right.1;
      over = over;
      tops = subst (AreLawful s) whole c.in-Ok.ensures.lawful;
    })

pub returns-clause-value : goal.returns-clause-value
returns-clause-value c = λ sorts.
    let ms = c.args.library.now in
    let f = c.args.frame in
    let t : TableOf = record { name = c.args.name; sorts = sorts; pairs = c.args.pairs.items; declarations = c.args.declarations.items; variables = c.args.variables.items; equations = c.args.equations.items } in
    let s = c.in_ok-signed.signed.signature in
    let names = ap (λ (x : Frame). x.names) c.frame.view_is in
    let whole = c.in-Ok.ensures.ok ∙ carried_as ms f t c.frame.inside.names c.deref-4.result.now s names (c.deref-4.ensures.value ∙ ap (λ (x : Frame). x.parts) c.frame.view_is) in
    if_ok_is c.new.result (made ms f t c.len.result s c.in_ok-grammar.grammar c.in_ok-signed.signed.own.items c.append.new.self (behind c.counts-included.result c.append.new.self)) (table_module ms f t) c.new.ensures
    (made_of_table ms f t c.len.result s c.in_ok-grammar.grammar c.in_ok-signed.signed.own.items c.counts-included.result c.append.new.self c.len.ensures.count
    (c.in_ok-signed.ensures.signature ∙ ap signature_over (given_as ms f t c.frame.inside.names c.deref.result.now c.deref-2.result.now c.args.declarations.items names
    (c.deref.ensures.value ∙ ap (λ (x : Frame). x.parts) c.frame.view_is) c.deref-2.ensures.value refl))
    (c.in_ok-grammar.ensures.value ∙ ap₂ (grammar_of s) names c.deref-3.ensures.value) c.in_ok-signed.ensures.own
    (c.counts-included.ensures ∙ ap counts_of whole)
    (c.in_ok-append.ensures ∙ ap (and_more c.in-Ok.statements) c.of_equations.ensures ∙ ap (λ x. and_more x (table_statements t)) whole))

pub sign_table-requires-clause-signable : goal.sign_table-requires-clause-signable
sign_table-requires-clause-signable c =
    let ms = c.args.library.now in
    let f = c.args.frame in
    let ds = c.args.declarations.items in
    let names = ap (λ (x : Frame). x.names) c.frame.view_is in
    let parts = c.deref.ensures.value ∙ ap (λ (x : Frame). x.parts) c.frame.view_is in
    subst (λ ns. IsSignable ms c.deref.result.now ns c.deref-2.result.now ds) (sym names)
    (subst (λ ps. IsSignable ms ps f.names c.deref-2.result.now ds) (sym parts)
    (subst (λ qs. IsSignable ms f.parts f.names qs ds) (sym c.deref-2.ensures.value) c.requires.signable))

pub grammar_over-requires-clause-over : goal.grammar_over-requires-clause-over
grammar_over-requires-clause-over c =
    let ms = c.args.library.now in
    let f = c.args.frame in
    let vs = c.args.variables.items in
    let names = ap (λ (x : Frame). x.names) c.frame.view_is in
    let parts = c.deref.ensures.value ∙ ap (λ (x : Frame). x.parts) c.frame.view_is in
    subst (All (λ (a : Alias). IsSort c.in_ok-signed.signed.signature.hierarchy a.sort)) (sym c.deref-3.ensures.value)
    (subst (λ (h : Hierarchy). All (λ (a : Alias). IsSort h a.sort) vs) (sym c.in_ok-signed.ensures.hierarchy)
    (subst (λ ns. All (λ (a : Alias). IsSort (hierarchy_over ms c.deref.result.now ns c.deref-2.result.now) a.sort) vs) (sym names)
    (subst (λ ps. All (λ (a : Alias). IsSort (hierarchy_over ms ps f.names c.deref-2.result.now) a.sort) vs) (sym parts)
    (subst (λ qs. All (λ (a : Alias). IsSort (hierarchy_over ms f.parts f.names qs) a.sort) vs) (sym c.deref-2.ensures.value) c.requires.variables))))

pub only_memory-requires : goal.only_memory-requires
only_memory-requires c =
    let ms = c.args.library.now in
    let f = c.args.frame in
    let t : TableOf = record { name = c.args.name; sorts = []; pairs = c.args.pairs.items; declarations = c.args.declarations.items; variables = c.args.variables.items; equations = c.args.equations.items } in
    let s = c.in_ok-signed.signed.signature in
    let names = ap (λ (x : Frame). x.names) c.frame.view_is in
    let is = c.in_ok-signed.ensures.signature ∙ ap signature_over (given_as ms f t c.frame.inside.names c.deref.result.now c.deref-2.result.now c.args.declarations.items names
    (c.deref.ensures.value ∙ ap (λ (x : Frame). x.parts) c.frame.view_is) c.deref-2.ensures.value refl) in
    let whole = carried_as ms f t c.frame.inside.names c.deref-4.result.now s names (c.deref-4.ensures.value ∙ ap (λ (x : Frame). x.parts) c.frame.view_is) in
    let lawful = subst (λ (x : SignatureOf). AreLawful x (carried ms f.names x f.parts)) (sym is) c.requires.tops in
    carried_memory s (carried ms c.frame.inside.names s c.deref-4.result.now) (subst (AreLawful s) (sym whole) lawful) c.in-Err.fault c.in-Err.ensures.at_fault

pub new-requires-clause-truth : goal.new-requires-clause-truth
new-requires-clause-truth c =
    let ms = c.args.library.now in
    let f = c.args.frame in
    let t : TableOf = record { name = c.args.name; sorts = []; pairs = c.args.pairs.items; declarations = c.args.declarations.items; variables = c.args.variables.items; equations = c.args.equations.items } in
    let names = ap (λ (x : Frame). x.names) c.frame.view_is in
    let is = c.in_ok-signed.ensures.signature ∙ ap signature_over (given_as ms f t c.frame.inside.names c.deref.result.now c.deref-2.result.now c.args.declarations.items names
    (c.deref.ensures.value ∙ ap (λ (x : Frame). x.parts) c.frame.view_is) c.deref-2.ensures.value refl) in
    subst (HasTruth f.names) (sym is) c.requires.truth

pub new-requires-clause-over : goal.new-requires-clause-over
new-requires-clause-over c = record {
  within = subst (λ (x : Hierarchy). IsWithin c.args.pairs.items x.sorts) (sym c.in_ok-signed.ensures.hierarchy)
      (subst (λ ns. IsWithin c.args.pairs.items (length ns)) (sym (ap (λ (x : Frame). x.names) c.frame.view_is)) c.requires.signable.within);
  sorts = subst (λ x. All (HasSorts x) c.in_ok-signed.signed.own.items) (sym c.in_ok-signed.ensures.hierarchy) c.in_ok-signed.ensures.sorts;
}
