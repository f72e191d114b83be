use Rattle.std.proofs.Common.{◌≡◌, Some, None, sym, ap, subst, ◌∙◌}
use Rattle.std.specs.Prelude.{◌&&◌, bytes_eq, codes, is_some}
use Rattle.mau_logic.specs.Lines.{in_brackets, sort_or_kind}
use Rattle.mau_check.proofs.Texts.{pair_is, no_pair, not_cut, hole_is}
use Rattle.mau_check.proofs.written.read_variable.Goals as goal

pub returns-in-None-clause-none : goal.returns-in-None-clause-none
returns-in-None-clause-none c = not_cut c.args.sig.now c.args.sorts.now c.args.text.now c.in-None.ensures.none

pub returns-in-None-sort_or_kind-clause-none : goal.returns-in-None-sort_or_kind-clause-none
returns-in-None-sort_or_kind-clause-none c =
    no_pair c.args.sig.now c.args.sorts.now c.args.text.now c.in-Some.name.now c.in-Some.sort.now c.in-Some.ensures.some
    (subst (λ w. sort_or_kind c.args.sig.now c.args.sorts.now w ≡ None) c.as_bytes-bytes.ensures.value c.in-None-sort_or_kind.ensures.none)

pub returns-in-Some-sort_or_kind-clause-some : goal.returns-in-Some-sort_or_kind-clause-some
returns-in-Some-sort_or_kind-clause-some c =
    pair_is c.args.sig.now c.args.sorts.now c.args.text.now c.in-Some.name.now c.in-Some.sort.now c.in-Some-sort_or_kind.number c.in-Some.ensures.some
    (subst (λ w. sort_or_kind c.args.sig.now c.args.sorts.now w ≡ Some c.in-Some-sort_or_kind.number) c.as_bytes-bytes.ensures.value c.in-Some-sort_or_kind.ensures.some)

pub returns-in-Some-sort_or_kind-clause-hole : goal.returns-in-Some-sort_or_kind-clause-hole
returns-in-Some-sort_or_kind-clause-hole c =
    hole_is c.args.text.now c.in-Some.name.now c.in-Some.sort.now c.in-Some.ensures.some ∙ ap (λ w. bytes_eq c.in-Some.name.now (codes "HOLE") && is_some (in_brackets w)) (sym c.as_bytes-bytes.ensures.value) ∙ sym c.is_hole-hole.ensures
