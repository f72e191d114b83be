use Rattle.std.proofs.Common.{◌++◌, ◌-◌, ap, ◌∙◌, sym, subst, refl, length, append_assoc, arith, string_bytes, Some, List}
use Rattle.std.specs.Option.{option_map}
use Rattle.std.proofs.lemmas.Result.{on_ok_weaker}
use Rattle.mau_terms.specs.declared.ids.TermId.{TermId}
use Rattle.mau_terms.specs.Depth.{list_depth}
use Rattle.mau_store.specs.Node.{AreOf}
use Rattle.mau_store.specs.View.{numbers}
use Rattle.mau_store.specs.Trees.{tree_at}
use Rattle.mau_store.proofs.Arguments.{id_below}
use Rattle.mau_print.specs.declared.layout.Layout.TheVariants.{Prefix, Form, Chain}
use Rattle.mau_print.specs.PrintedIds.{printed_at, printed_all, trees_of_ids}
use Rattle.mau_print.specs.Written.{in_parentheses, comma_texts, woven, nested}
use Rattle.mau_print.proofs.Ids.{older_there, at_most, at_most_rest, node_falls, there_rest, rest_is, printed_over}
use Rattle.mau_print.proofs.Chains.{nested-short, nested-one_place, chain-step}
use Rattle.mau_print.proofs.printing.+write.Goals as goal

pub write_arguments-write_term-requires : goal.write_arguments-write_term-requires
write_arguments-write_term-requires t c =
    let k = at_most c.args.store.now c.args.args.now c.loop-id.id-index (record { 0 = 0 }) c.loop-id-test.true in
    (omega (arith, k), id_below _ c.args.args.now c.loop-id.id-index (record { 0 = 0 }) c.loop-id-test.true c.requires)

pub write_chain-returns-then-args-lt3 : goal.write_chain-returns-then-args-lt3
write_chain-returns-then-args-lt3 t c =
    rw (nested-short c.args.level c.args.parts.now (printed_at c.args.printer.now c.args.vars.now c.args.store.now) c.args.args.now c.if-args-lt3.true) c.write_parts.ensures

pub write_chain-returns-in-None : goal.write_chain-returns-in-None
write_chain-returns-in-None t c =
    rw (nested-one_place c.args.level c.args.parts.now _ c.in-None.ensures.none) c.write_parts-in-None.ensures

pub write_chain-returns-in-Some : goal.write_chain-returns-in-Some
write_chain-returns-in-Some t c =
    on_ok_weaker c.write_long_chain.result (λ h. h c.args.level c.in-Some.upto c.in-Some.ensures.some refl) c.write_long_chain.ensures

pub write_long_chain-write_opening-requires : goal.write_long_chain-write_opening-requires
write_long_chain-write_opening-requires t c =
    let k = at_most c.args.store.now c.args.args.now c.loop-i.i (record { 0 = 0 }) (omega arith) in
    (omega (arith, k), id_below _ c.args.args.now c.loop-i.i (record { 0 = 0 }) (omega arith) c.requires.there)

pub write_long_chain-loop-i-preserved : goal.write_long_chain-loop-i-preserved
write_long_chain-loop-i-preserved t c = λ q upto s e.
    chain-step q c.args.parts.now c.args.at upto s (printed_at c.args.printer.now c.args.vars.now c.args.store.now) c.args.args.now c.loop-i.i (record { 0 = 0 }) c.args.in_parentheses
    (string_bytes c.loop-i.out) _ _ e (omega arith) c.in_ok-write_opening.ensures (c.loop-i.invariant q upto s e)

pub write_long_chain-write_parts-requires : goal.write_long_chain-write_parts-requires
write_long_chain-write_parts-requires t c =
    let xs = c.args.args.now in
    let n = length xs - 2 in
    let e = rest_is xs n (omega arith) in
    let k = at_most_rest c.args.store.now xs n in
    let l = ap (λ ys. list_depth (trees_of_ids c.args.store.now ys)) e in
    (omega (arith, k, l), subst (λ (ys : List TermId). AreOf c.args.store.now (numbers ys)) (sym e) (there_rest c.args.store.now xs n c.requires.there))

pub write_parts-write_argument-requires : goal.write_parts-write_argument-requires
write_parts-write_argument-requires t c =
    let k = at_most c.args.store.now c.args.args.now c.loop-part.next (record { 0 = 0 }) c.if-next-args.true in
    (omega (arith, k), id_below _ c.args.args.now c.loop-part.next (record { 0 = 0 }) c.if-next-args.true c.requires)

pub write_term-write_arguments-requires : goal.write_term-write_arguments-requires
write_term-write_arguments-requires t c =
    let nodes = c.args.store.now in
    let k = node_falls nodes (tree_at nodes c.args.id.0) c.in-App.op.0 c.in-App.args.now c.in-App.ensures.tree in
    (omega (arith, k), older_there nodes c.args.id.0 (numbers c.in-App.args.now) c.requires c.in-App.ensures.older)

pub write_term-write_parts-requires : goal.write_term-write_parts-requires
write_term-write_parts-requires t c =
    let nodes = c.args.store.now in
    let k = node_falls nodes (tree_at nodes c.args.id.0) c.in-App.op.0 c.in-App.args.now c.in-App.ensures.tree in
    (omega (arith, k), older_there nodes c.args.id.0 (numbers c.in-App.args.now) c.requires c.in-App.ensures.older)

pub write_term-write_chain-requires : goal.write_term-write_chain-requires
write_term-write_chain-requires t c =
    let nodes = c.args.store.now in
    let k = node_falls nodes (tree_at nodes c.args.id.0) c.in-App.op.0 c.in-App.args.now c.in-App.ensures.tree in
    (omega (arith, k), older_there nodes c.args.id.0 (numbers c.in-App.args.now) c.requires c.in-App.ensures.older)

pub write_term-returns-in_ok-push_str-in-Some-Prefix : goal.write_term-returns-in_ok-push_str-in-Some-Prefix
write_term-returns-in_ok-push_str-in-Some-Prefix t c =
    let p = c.args.printer.now in
    let ns = c.args.vars.now in
    let nodes = c.args.store.now in
    let xs = c.in-App.args.now in
    let out = string_bytes c.args.out.now in
    let w = in_parentheses (comma_texts (printed_all p ns nodes xs)) in
    let found = sym c.layout.ensures ∙ ap (option_map (λ l. l.now)) c.in-Some-Prefix.is ∙ ap (λ l. Some l) c.in-Some-Prefix.field-0-is in
    let over_is = printed_over p ns nodes (tree_at nodes c.args.id.0) c.in-App.op.0 (Prefix c.in-Some-Prefix.text) xs c.in-App.ensures.tree found in
    let text = c.in_ok-push_str-in-Some-Prefix.ensures.bytes ∙ ap (λ v. out ++ v) c.as_str-in-Some-Prefix.ensures in
    on_ok_weaker c.write_arguments.result (λ h. h ∙ ap (λ v. v ++ w) text ∙ append_assoc out c.in-Some-Prefix.text w ∙ ap (λ x. out ++ x.text) (sym over_is)) c.write_arguments.ensures

pub write_term-returns-in-Some-Form : goal.write_term-returns-in-Some-Form
write_term-returns-in-Some-Form t c =
    let p = c.args.printer.now in
    let ns = c.args.vars.now in
    let nodes = c.args.store.now in
    let xs = c.in-App.args.now in
    let l = Form c.in-Some-Form.field-0-0 c.in-Some-Form.parts in
    let found = sym c.layout.ensures ∙ ap (option_map (λ l. l.now)) c.in-Some-Form.is ∙ ap (λ l. Some l) c.in-Some-Form.field-0-is in
    let over_is = printed_over p ns nodes (tree_at nodes c.args.id.0) c.in-App.op.0 l xs c.in-App.ensures.tree found in
    let parts = ap (λ ps. string_bytes c.args.out.now ++ woven ps (printed_all p ns nodes xs)) c.items.ensures in
    on_ok_weaker c.write_parts.result (λ h. h ∙ parts ∙ ap (λ x. string_bytes c.args.out.now ++ x.text) (sym over_is)) c.write_parts.ensures

pub write_term-returns-in-Some-Chain : goal.write_term-returns-in-Some-Chain
write_term-returns-in-Some-Chain t c =
    let p = c.args.printer.now in
    let ns = c.args.vars.now in
    let nodes = c.args.store.now in
    let xs = c.in-App.args.now in
    let q = c.in-Some-Chain.level in
    let found = sym c.layout.ensures ∙ ap (option_map (λ l. l.now)) c.in-Some-Chain.is ∙ ap (λ l. Some l) c.in-Some-Chain.field-0-is in
    let over_is = printed_over p ns nodes (tree_at nodes c.args.id.0) c.in-App.op.0 (Chain q c.in-Some-Chain.parts) xs c.in-App.ensures.tree found in
    let parts = ap (λ ps. string_bytes c.args.out.now ++ nested q ps (printed_all p ns nodes xs)) c.items-in-Some-Chain.ensures in
    on_ok_weaker c.write_chain.result (λ h. h ∙ parts ∙ ap (λ x. string_bytes c.args.out.now ++ x.text) (sym over_is)) c.write_chain.ensures
