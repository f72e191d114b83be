use Rattle.std.proofs.Common.{◌∙◌, ◌≡◌, ◌<◌, length, arith, sym, ap, Some, slice_get}
use Rattle.std.proofs.lemmas.Result.{IfOk-weaker}
use Rattle.std.proofs.lemmas.Option.{slice_get_within, slice_get-get_or}
use Rattle.mau_print.proofs.Marked.{by_constant, by_words, by_production}
use Rattle.mau_print.proofs.Produced.{some_hole}
use Rattle.mau_print.proofs.making.layout_by.Goals as goal

pub returns-then-is_constant : goal.returns-then-is_constant
returns-then-is_constant c =
    IfOk-weaker c.constant_layout.result _ _ (λ l h owned k. h owned k ∙ by_constant c.args.poset.now c.args.grammar.now owned c.args.decl.now _ _ (sym c.is_constant.ensures ∙ c.if-is_constant.true) c.kind_of-kind.ensures.value (c.as_str.ensures.value ∙ c.in_ok-text.ensures)) c.constant_layout.ensures

pub returns-then-has_no_holes : goal.returns-then-has_no_holes
returns-then-has_no_holes c = λ owned k. by_words c.args.poset.now c.args.grammar.now owned c.args.decl.now _ (sym c.is_constant.ensures ∙ c.if-is_constant.false) (sym c.has_no_holes.ensures ∙ c.if-has_no_holes.true) (c.in_ok-new.ensures ∙ c.as_str-then-has_no_holes.ensures.value ∙ c.in_ok-text-2.ensures)

pub unreachable-requires : goal.unreachable-requires
unreachable-requires c =
    let w = c.requires.production (some_hole c.args.decl.now (sym c.has_no_holes.ensures ∙ c.if-has_no_holes.false)) in
    let l : c.args.at < length c.args.grammar.now.productions = slice_get_within c.args.grammar.now.productions c.args.at w.production w.there in
    let p : length c.productions.result.now ≡ length c.args.grammar.now.productions = ap length c.productions.ensures.value in
    let past = c.in-None.ensures.lookup.3 in
    omega (arith, past)

pub returns : goal.returns
returns c =
    let w = c.requires.production (some_hole c.args.decl.now (sym c.has_no_holes.ensures ∙ c.if-has_no_holes.false)) in
    IfOk-weaker c.form_layout.result _ _ (λ l h owned k. h ∙ by_production c.args.poset.now c.args.grammar.now owned c.args.decl.now c.args.at c.in-Some.production.now (sym c.is_constant.ensures ∙ c.if-is_constant.false) (sym c.has_no_holes.ensures ∙ c.if-has_no_holes.false) w (ap (λ ps. slice_get ps c.args.at) (sym c.productions.ensures.value) ∙ slice_get-get_or c.productions.result.now c.args.at c.in-Some.production.now c.in-Some.ensures.lookup.3.0 ∙ ap (λ p. Some p) (sym c.in-Some.ensures.lookup.1))) c.form_layout.ensures
