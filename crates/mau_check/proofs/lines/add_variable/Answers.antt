use Rattle.std.proofs.Common.{◌≡◌, Some, None, length, ap, ◌∙◌, subst}
use Rattle.mau_logic.specs.Lines.{pair_of, is_hole}
use Rattle.mau_check.proofs.Lined.{single_holes, none_by, none_pairs, hole_by, hole_pairs, named_by, named_pairs}
use Rattle.mau_check.proofs.lines.add_variable.Goals as goal

pub read_variable-requires : goal.read_variable-requires
read_variable-requires c = record { named = ap length c.items.ensures ∙ c.requires.lawful.named }

pub variable-requires-clause-holes : goal.variable-requires-clause-holes
variable-requires-clause-holes c = single_holes c.in-Some.written.sort

pub returns-in-None-clause-kept : goal.returns-in-None-clause-kept
returns-in-None-clause-kept c = none_by c.args.program.now.sig c.args.store.now c.args.variables.now (is_hole c.args.text.now) (pair_of c.args.program.now.sig c.args.program.now.sorts c.args.text.now) (subst (λ ss. pair_of c.args.program.now.sig ss c.args.text.now ≡ None) c.items.ensures c.in-None.ensures.none)

pub returns-in-None-clause-pairs : goal.returns-in-None-clause-pairs
returns-in-None-clause-pairs c = none_pairs c.args.variables.now (is_hole c.args.text.now) (pair_of c.args.program.now.sig c.args.program.now.sorts c.args.text.now) (subst (λ ss. pair_of c.args.program.now.sig ss c.args.text.now ≡ None) c.items.ensures c.in-None.ensures.none)

pub returns-then-is_hole-clause-kept : goal.returns-then-is_hole-clause-kept
returns-then-is_hole-clause-kept c =
    hole_by c.args.program.now.sig c.variable.new.store c.in_ok-hole.hole c.args.variables.now (is_hole c.args.text.now) (pair_of c.args.program.now.sig c.args.program.now.sorts c.args.text.now)
    (c.in-Some.written.name.now, c.in-Some.written.sort) (c.in-Some.ensures.hole ∙ c.if-is_hole.true) (subst (λ ss. pair_of c.args.program.now.sig ss c.args.text.now ≡ Some (c.in-Some.written.name.now, c.in-Some.written.sort)) c.items.ensures c.in-Some.ensures.some) c.in_ok-hole.ensures.kept

pub returns-then-is_hole-clause-pairs : goal.returns-then-is_hole-clause-pairs
returns-then-is_hole-clause-pairs c =
    hole_pairs c.args.variables.now (is_hole c.args.text.now) (pair_of c.args.program.now.sig c.args.program.now.sorts c.args.text.now) (c.in-Some.written.name.now, c.in-Some.written.sort) (c.in-Some.ensures.hole ∙ c.if-is_hole.true) (subst (λ ss. pair_of c.args.program.now.sig ss c.args.text.now ≡ Some (c.in-Some.written.name.now, c.in-Some.written.sort)) c.items.ensures c.in-Some.ensures.some)

pub returns-clause-kept : goal.returns-clause-kept
returns-clause-kept c =
    named_by c.args.program.now.sig c.add_named.new.store c.in_ok-named.named c.args.variables.now (is_hole c.args.text.now) (pair_of c.args.program.now.sig c.args.program.now.sorts c.args.text.now)
    (c.in-Some.written.name.now, c.in-Some.written.sort) (c.in-Some.ensures.hole ∙ c.if-is_hole.false) (subst (λ ss. pair_of c.args.program.now.sig ss c.args.text.now ≡ Some (c.in-Some.written.name.now, c.in-Some.written.sort)) c.items.ensures c.in-Some.ensures.some) c.in_ok-named.ensures.kept

pub returns-clause-pairs : goal.returns-clause-pairs
returns-clause-pairs c =
    named_pairs c.args.variables.now c.add_named.new.variables (is_hole c.args.text.now) (pair_of c.args.program.now.sig c.args.program.now.sorts c.args.text.now) (c.in-Some.written.name.now, c.in-Some.written.sort)
    (c.in-Some.ensures.hole ∙ c.if-is_hole.false) (subst (λ ss. pair_of c.args.program.now.sig ss c.args.text.now ≡ Some (c.in-Some.written.name.now, c.in-Some.written.sort)) c.items.ensures c.in-Some.ensures.some) c.in_ok-named.ensures.pairs
