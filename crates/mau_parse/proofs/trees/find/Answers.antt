use Rattle.std.proofs.Common.{sym, subst, arith}
use Rattle.mau_chart.specs.Chart.{AreLeaves}
use Rattle.mau_parse.proofs.TreesFound.{is_charted, forms_have_pieces, told_so, readings_single, readings_found}
use Rattle.mau_parse.proofs.LeavesListed.{leaves_within}
use Rattle.mau_parse.proofs.trees.find.Goals as goal

pub read-requires-clause-leaves : goal.read-requires-clause-leaves
read-requires-clause-leaves c =
    let chart = is_charted c.args.grammar.now c.args.words.now c.deref.result.now c.in_ok-forms.forms.items c.deref-2.result.now c.in_ok-leaves.leaves.items
    c.in_ok-forms.ensures.shaped c.deref.ensures.value c.in_ok-forms.ensures.forms c.deref-2.ensures.value c.in_ok-leaves.ensures.leaves in
    let ls = c.deref-2.result.now in
    subst (AreLeaves ls) (sym c.len.ensures) (leaves_within c.args.grammar.now c.args.words.now ls chart.leaves)

pub read-requires-clause-forms : goal.read-requires-clause-forms
read-requires-clause-forms c =
    let chart = is_charted c.args.grammar.now c.args.words.now c.deref.result.now c.in_ok-forms.forms.items c.deref-2.result.now c.in_ok-leaves.leaves.items
    c.in_ok-forms.ensures.shaped c.deref.ensures.value c.in_ok-forms.ensures.forms c.deref-2.ensures.value c.in_ok-leaves.ensures.leaves in
    forms_have_pieces c.args.words.now c.args.grammar.now.productions c.deref.result.now chart.shaped chart.forms

pub numbers_of-found-requires : goal.numbers_of-found-requires
numbers_of-found-requires c =
    let g = c.args.grammar.now in
    let ws = c.args.words.now in
    let goal = c.args.goal in
    let qs = c.deref.result.now in
    let ls = c.deref-2.result.now in
    let ts = c.in_ok-trees.trees in
    let r = c.in_ok-trees.reading in
    let chart = is_charted c.args.grammar.now c.args.words.now c.deref.result.now c.in_ok-forms.forms.items c.deref-2.result.now c.in_ok-leaves.leaves.items
    c.in_ok-forms.ensures.shaped c.deref.ensures.value c.in_ok-forms.ensures.forms c.deref-2.ensures.value c.in_ok-leaves.ensures.leaves in
    readings_single g ws goal qs ls chart ts r
    (told_so g ws goal qs ls chart ts r c.len.result _ _ c.len.ensures (omega (arith, c.len-before.ensures, c.lowest_kind.ensures.value)) (omega (arith, c.len-before.ensures, c.highest_kind.ensures.value)) c.in_ok-trees.ensures)

pub returns-clause-found : goal.returns-clause-found
returns-clause-found c =
    let g = c.args.grammar.now in
    let ws = c.args.words.now in
    let goal = c.args.goal in
    let qs = c.deref.result.now in
    let ls = c.deref-2.result.now in
    let ts = c.in_ok-trees.trees in
    let r = c.in_ok-trees.reading in
    let chart = is_charted c.args.grammar.now c.args.words.now c.deref.result.now c.in_ok-forms.forms.items c.deref-2.result.now c.in_ok-leaves.leaves.items
    c.in_ok-forms.ensures.shaped c.deref.ensures.value c.in_ok-forms.ensures.forms c.deref-2.ensures.value c.in_ok-leaves.ensures.leaves in
    readings_found g ws goal qs ls chart ts r c.numbers_of-found.result
    (told_so g ws goal qs ls chart ts r c.len.result _ _ c.len.ensures (omega (arith, c.len-before.ensures, c.lowest_kind.ensures.value)) (omega (arith, c.len-before.ensures, c.highest_kind.ensures.value)) c.in_ok-trees.ensures)
    c.numbers_of-found.ensures
