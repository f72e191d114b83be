use Rattle.std.proofs.Common.{◌≡◌, ◌≤◌, IfOk, true, length, refl, sym, ap, ◌∙◌, subst, arith}
use Rattle.mau_terms.specs.Tree.{apply, trees_of}
use Rattle.mau_terms.specs.Norm.{norm}
use Rattle.mau_terms.specs.Reading.{nest}
use Rattle.mau_terms.specs.Bare.{IsBareIn}
use Rattle.mau_signature.specs.Signature.{theory_at, terms_over}
use Rattle.mau_api.specs.Terms.{IsBareWithin}
use Rattle.mau_api.specs.BuiltIns.{answer_by, built_in_at, name_at, built_answer}
use Rattle.mau_reduce.specs.BuiltOperators.{constant_tree, meaning_of}
use Rattle.mau_reduce.proofs.Answering.{IsOnNumerals, kept_is_on_numerals, built_at}
use Rattle.mau_logic.specs.Lines.{over}
use Rattle.mau_check.specs.Answer.{IsGiven}
use Rattle.mau_check.specs.Kept.{IsKeptFor}
use Rattle.mau_check.proofs.Overs.{from_over, kept_suited, with_weaker}
use Rattle.mau_check.proofs.BuiltOf.{gives_none, chosen_lie, truths_lie, over_kind, listed, listed_length, whole_listed, numerals_listed, few_numerals}
use Rattle.mau_check.proofs.built.answer.Goals as goal

pub branch-store-requires : goal.branch-store-requires
branch-store-requires g c = (c.requires.values.0, c.requires.values.1)

pub compared-requires : goal.compared-requires
compared-requires g c = (c.requires.values.0, c.requires.values.1)

pub is_list-requires-clause-values : goal.is_list-requires-clause-values
is_list-requires-clause-values g c = (c.requires.values.0, c.requires.values.1)

pub native-requires-clause-built_in : goal.native-requires-clause-built_in
native-requires-clause-built_in g c f us e =
    let s = c.args.program.now.sig in
    let ops = g.N.Natives.operators c.args.natives.now in
    let ts = c.requires.values.0 in
    let whole = from_over s c.args.op.0 ts (IsKeptFor s c.args.store.now c.args.whole) c.requires.values.2 in
    let two = (c.is_list.ensures ts c.requires.values.1).0 c.if-not-is_list.false in
    let top : apply c.args.op.0 (trees_of (listed s c.operators.ensures.lawful c.args.op.0 ts)) ≡ apply f us = sym (whole.1.stands ∙ whole_listed s c.operators.ensures.lawful c.args.op.0 ts two) ∙ e in
    let same : c.args.op.0 ≡ f = cc in
    subst (λ n. built_in_at s ops n ≡ meaning_of ops (name_at s n) c.in_ok-built_in.built_in) same (c.in_ok-built_in.ensures ops)

pub native-requires-clause-whole : goal.native-requires-clause-whole
native-requires-clause-whole g c =
    let s = c.args.program.now.sig in
    (nest (theory_at s c.args.op.0).assoc c.args.op.0 c.requires.values.0, (from_over s c.args.op.0 c.requires.values.0 (IsKeptFor s c.args.store.now c.args.whole) c.requires.values.2).1)

pub returns-in-Nothing-clause-given : goal.returns-in-Nothing-clause-given
returns-in-Nothing-clause-given g c ts h w =
    let s = c.args.program.now.sig in
    let ops = g.N.Natives.operators c.args.natives.now in
    gives_none s c.args.store.now c.args.whole.kind (built_answer s ops c.args.op.0 ts) (ap (λ o. answer_by o s c.args.op.0 ts) (c.in_ok-built_in.ensures ops ∙ ap (meaning_of ops (name_at s c.args.op.0)) c.in-Nothing.is))

pub returns-in-Branch-clause-given : goal.returns-in-Branch-clause-given
returns-in-Branch-clause-given g c ts h w =
    let s = c.args.program.now.sig in
    let ops = g.N.Natives.operators c.args.natives.now in
    let f = c.args.op.0 in
    let store = c.args.store.now in
    let lawful = c.operators.ensures.lawful in
    let e = c.in_ok-built_in.ensures ops ∙ ap (meaning_of ops (name_at s f)) c.in-Branch.is in
    let kind = over_kind s f ts c.args.whole.kind (with_weaker (over s f ts) (IsKeptFor s store c.args.whole) (λ t. IsBareIn (terms_over s) t c.args.whole.kind) (λ t k. k.kind) w) in
    let suits = (kept_suited s lawful f store c.args.values.now ts h (with_weaker (over s f ts) (IsKeptFor s store c.args.whole) (IsBareWithin s) (λ t k. k.within) w)).1 in
    let lie = chosen_lie c.args.program.now c.requires.lawful lawful ops f c.requires.operator (constant_tree c.in-Branch.truths.yes) (constant_tree c.in-Branch.truths.no) c.args.whole.kind e kind c.args.values.now suits in
    subst (λ a. IsGiven s store c.args.whole.kind a c.branch-store.result) (sym (ap (λ o. answer_by o s f ts) e)) (c.branch-store.ensures (theory_at s f) f c.args.whole.kind ts h lie)

pub returns-in-Same-clause-given : goal.returns-in-Same-clause-given
returns-in-Same-clause-given g c ts h w =
    let s = c.args.program.now.sig in
    let ops = g.N.Natives.operators c.args.natives.now in
    let f = c.args.op.0 in
    let store = c.args.store.now in
    let e = c.in_ok-built_in.ensures ops ∙ ap (meaning_of ops (name_at s f)) c.in-Same.is in
    let kind = over_kind s f ts c.args.whole.kind (with_weaker (over s f ts) (IsKeptFor s store c.args.whole) (λ t. IsBareIn (terms_over s) t c.args.whole.kind) (λ t k. k.kind) w) in
    let lie = truths_lie c.args.program.now c.requires.lawful c.operators.ensures.lawful ops f c.requires.operator c.in-Same.truths c.args.whole.kind e kind in
    subst (λ a. IfOk c.compared.result (IsGiven s c.compared.new.store c.args.whole.kind a)) (sym (ap (λ o. answer_by o s f ts) e)) (c.compared.ensures.given (theory_at s f) f c.args.whole.kind ts h lie)

pub returns-then-not-is_list-clause-given : goal.returns-then-not-is_list-clause-given
returns-then-not-is_list-clause-given g c ts h w =
    let s = c.args.program.now.sig in
    let ops = g.N.Natives.operators c.args.natives.now in
    let f = c.args.op.0 in
    let lawful = c.operators.ensures.lawful in
    let o = built_in_at s ops f in
    let e = c.in_ok-built_in.ensures ops ∙ ap (meaning_of ops (name_at s f)) c.in-Native.is in
    let is = subst IsOnNumerals (sym e) (kept_is_on_numerals ops (name_at s f) c.in-Native.field-0 c.in-Native.field-1) in
    let few = λ (l : 2 ≤ length (listed s lawful f ts)).
    let yes : c.is_list.result ≡ true = (c.is_list.ensures ts h).1 (omega (arith, l, listed_length s lawful f ts)) in
    let not_ = c.if-not-is_list.true in
    let z : ⊥ = absurd cc in z
    in
    gives_none s c.args.store.now c.args.whole.kind (built_answer s ops f ts) (numerals_listed o is s lawful f ts ∙ few_numerals o is (theory_at s f) f (listed s lawful f ts) few)

pub returns-else-not-is_list-clause-given : goal.returns-else-not-is_list-clause-given
returns-else-not-is_list-clause-given g c ts h w =
    let s = c.args.program.now.sig in
    let ops = g.N.Natives.operators c.args.natives.now in
    let f = c.args.op.0 in
    let lawful = c.operators.ensures.lawful in
    let o = built_in_at s ops f in
    let e = c.in_ok-built_in.ensures ops ∙ ap (meaning_of ops (name_at s f)) c.in-Native.is in
    let is = subst IsOnNumerals (sym e) (kept_is_on_numerals ops (name_at s f) c.in-Native.field-0 c.in-Native.field-1) in
    let two = (c.is_list.ensures ts h).0 c.if-not-is_list.false in
    let t = nest (theory_at s f).assoc f ts in
    let whole = (from_over s f ts (IsKeptFor s c.args.store.now c.args.whole) w).1 in
    let same = built_at s ops (norm (theory_at s) t) f (listed s lawful f ts) o (whole_listed s lawful f ts two) refl ∙ sym (numerals_listed o is s lawful f ts) in
    subst (λ a. IfOk c.native.result (IsGiven s c.native.new.store c.args.whole.kind a)) same (c.native.ensures.given t c.args.whole.kind whole whole.kind)
