use Rattle.std.proofs.Common.{sym, ap, ◌∙◌}
use Rattle.mau_terms.specs.Norm.{norm}
use Rattle.mau_signature.specs.Signature.{theory_at}
use Rattle.mau_store.specs.Trees.{tree_at}
use Rattle.mau_evaluation.specs.Run.{too_deep, overflowed, stopped}
use Rattle.mau_reduce.specs.BuiltOperators.{built_gives}
use Rattle.mau_check.proofs.BuiltOf.{gives_in_kind, kept_term, no_value_given, taken, refused}
use Rattle.mau_check.proofs.built.native.Goals as goal

pub given_at-given-requires-clause-lawful : goal.given_at-given-requires-clause-lawful
given_at-given-requires-clause-lawful g c = c.operators.ensures.lawful

pub given_at-given-requires-clause-term : goal.given_at-given-requires-clause-term
given_at-given-requires-clause-term g c =
    let t = kept_term c.args.program.now.sig c.operators.ensures.lawful c.args.store.now c.args.whole c.requires.whole.0 c.args.whole.kind c.requires.whole.1 c.requires.whole.1.kind in
    record { within = t.within; bare = (c.args.whole.kind, t.bare) }

pub take_given-requires-clause-lawful : goal.take_given-requires-clause-lawful
take_given-requires-clause-lawful g c = c.operators.ensures.lawful

pub take_given-requires-clause-term : goal.take_given-requires-clause-term
take_given-requires-clause-term g c =
    let t = kept_term c.args.program.now.sig c.operators.ensures.lawful c.args.store.now c.args.whole c.requires.whole.0 c.args.whole.kind c.requires.whole.1 c.requires.whole.1.kind in
    record { within = t.within; bare = (c.args.whole.kind, t.bare) }

pub take_given-requires-clause-gives : goal.take_given-requires-clause-gives
take_given-requires-clause-gives g c = c.has_value.ensures.yes c.if-not-has_value.false

pub take_given-requires-clause-taken : goal.take_given-requires-clause-taken
take_given-requires-clause-taken g c =
    c.given_at-given.ensures.taken (gives_in_kind c.args.program.now c.requires.lawful c.operators.ensures.lawful (g.N.Natives.operators c.args.natives.now) c.requires.numerals)

pub returns-then-not-has_value-clause-given : goal.returns-then-not-has_value-clause-given
returns-then-not-has_value-clause-given g c t k h b v d w =
    no_value_given c.args.store.now (theory_at c.args.program.now.sig) (tree_at c.args.store.now c.args.whole.id.0) c.given_at-given.result (c.has_value.ensures.no c.if-not-has_value.true) v
    (sym c.given_at-given.ensures.value ∙ ap (built_gives c.args.program.now.sig (g.N.Natives.operators c.args.natives.now)) h.stands ∙ d)

pub returns-in-Ok-clause-given : goal.returns-in-Ok-clause-given
returns-in-Ok-clause-given g c t k h b =
    let s = c.args.program.now.sig in
    let ops = g.N.Natives.operators c.args.natives.now in
    let lawful = c.operators.ensures.lawful in
    let kinds = gives_in_kind c.args.program.now c.requires.lawful lawful ops c.requires.numerals in
    taken s lawful c.args.store.now c.take_given.new.store k (built_gives s ops (norm (theory_at s) t)) (tree_at c.args.store.now c.args.whole.id.0) c.given_at-given.result c.in-Ok.id
    (ap (built_gives s ops) (sym h.stands) ∙ c.given_at-given.ensures.value) (c.has_value.ensures.yes c.if-not-has_value.false) c.in-Ok.ensures.value
    (c.in-Ok.ensures.kind ops k kinds (record { answer = c.given_at-given.ensures.value; taken = c.given_at-given.ensures.taken kinds }) (kept_term s lawful c.args.store.now c.args.whole t k h b))

pub returns-in-Err-Stopped-clause-given : goal.returns-in-Err-Stopped-clause-given
returns-in-Err-Stopped-clause-given g c t k h b =
    let s = c.args.program.now.sig in
    let ops = g.N.Natives.operators c.args.natives.now in
    refused s c.operators.ensures.lawful c.args.store.now c.take_given.new.store k (built_gives s ops (norm (theory_at s) t)) (tree_at c.args.store.now c.args.whole.id.0) c.given_at-given.result stopped
    (ap (built_gives s ops) (sym h.stands) ∙ c.given_at-given.ensures.value) (c.has_value.ensures.yes c.if-not-has_value.false) (rw c.in-Err-Stopped.field-0-is at (c.in-Err-Stopped.ensures.ends 0))

pub returns-in-Err-TooDeep-clause-given : goal.returns-in-Err-TooDeep-clause-given
returns-in-Err-TooDeep-clause-given g c t k h b =
    let s = c.args.program.now.sig in
    let ops = g.N.Natives.operators c.args.natives.now in
    refused s c.operators.ensures.lawful c.args.store.now c.take_given.new.store k (built_gives s ops (norm (theory_at s) t)) (tree_at c.args.store.now c.args.whole.id.0) c.given_at-given.result too_deep
    (ap (built_gives s ops) (sym h.stands) ∙ c.given_at-given.ensures.value) (c.has_value.ensures.yes c.if-not-has_value.false) (rw c.in-Err-TooDeep.field-0-is at (c.in-Err-TooDeep.ensures.ends 0))

pub returns-in-Err-Overflow-clause-given : goal.returns-in-Err-Overflow-clause-given
returns-in-Err-Overflow-clause-given g c t k h b =
    let s = c.args.program.now.sig in
    let ops = g.N.Natives.operators c.args.natives.now in
    refused s c.operators.ensures.lawful c.args.store.now c.take_given.new.store k (built_gives s ops (norm (theory_at s) t)) (tree_at c.args.store.now c.args.whole.id.0) c.given_at-given.result overflowed
    (ap (built_gives s ops) (sym h.stands) ∙ c.given_at-given.ensures.value) (c.has_value.ensures.yes c.if-not-has_value.false) (rw c.in-Err-Overflow.field-0-is at (c.in-Err-Overflow.ensures.ends 0))
