use Rattle.std.proofs.Common.{◌≡◌, ◌<◌, ◌≤◌, true, false, length, get_or, sym, subst, ap, ◌∙◌, arith}
use Rattle.std.proofs.Math.ListN.{get_or-map}
use Rattle.mau_terms.specs.declared.ids.TermId.{TermId}
use Rattle.mau_store.specs.Node.{arguments}
use Rattle.mau_store.specs.View.{node_of, numbers}
use Rattle.mau_sorts.proofs.Entries.{numbers_length}
use Rattle.mau_settling.proofs.Due.{term_first, argument_at}
use Rattle.mau_settling.proofs.walk.visit.Goals as goal

pub returns-then-place-args-clause-path : goal.returns-then-place-args-clause-path
returns-then-place-args-clause-path c = λ root all place.
    let items = c.arguments_of-args.result.now in
    let same = c.arguments_of-args.ensures in
    let i = c.args.place.next in
    let number : get_or (numbers items) i 0 ≡ (get_or items i (record { 0 = 0 })).0 = get_or-map (λ (x : TermId). x.0) items i (record { 0 = 0 }) in
    let within : i < length (arguments (node_of c.view.result)) = subst (λ xs. i < length xs) same (subst (λ n. i < n) (sym (numbers_length items)) c.if-place-args.true) in
    let is : get_or (arguments (node_of c.view.result)) i 0 ≡ (get_or items i (record { 0 = 0 })).0 = ap (λ xs. get_or xs i 0) (sym same) ∙ number in
    let older : (get_or items i (record { 0 = 0 })).0 < c.args.place.term.0 = subst (λ n. n < c.args.place.term.0) is (c.view.ensures.older i 0 within) in
    c.in_ok-step_down.ensures.path c.args.store.now root all place
    (argument_at c.args.store.now c.args.place (node_of c.view.result) c.view.ensures.node within _ (sym is) (omega (arith, older, c.requires.there)))

pub returns-clause-first : goal.returns-clause-first
returns-clause-first c = λ root place.
    let items = c.arguments_of-args.result.now in
    let past : length (arguments (node_of c.view.result)) ≤ c.args.place.next =
    subst (λ xs. length xs ≤ c.args.place.next) c.arguments_of-args.ensures (subst (λ n. n ≤ c.args.place.next) (sym (numbers_length items)) c.if-place-args.false) in
    term_first c.args.store.now c.args.table.now root c.args.place (node_of c.view.result) place c.view.ensures.node (λ l. absurd (omega (arith, l, past)))
    (λ s. let k : true ≡ false = sym (c.is_settled.ensures.1 s) ∙ c.if-is_settled.false in absurd (cc))
