use Rattle.std.proofs.Common.{◌≡◌, None, IfOk, OnOk, sym, ap, subst, refl}
use Rattle.std.specs.Prelude.{All}
use Rattle.mau_logic.specs.Lines.{terms_at, is_hole, pair_of}
use Rattle.mau_logic.specs.Justified.{With}
use Rattle.mau_api.specs.Terms.{IsBareWithin}
use Rattle.mau_check.specs.Kept.{IsKept, AreKeptFor}
use Rattle.mau_check.specs.LineTerms.{variable_by, pairs_by, line_term, line_pairs}
use Rattle.mau_check.proofs.Lined.{no_arguments, built_line}
use Rattle.mau_check.proofs.Naming.{some_is}
use Rattle.mau_check.proofs.Results.{on_ok_always}
use Rattle.mau_check.proofs.lines.add_line.Goals as goal

pub returns-in-Num-clause-kept : goal.returns-in-Num-clause-kept
returns-in-Num-clause-kept c terms h =
    subst (λ l. IfOk c.numeral.result (λ k. IsKept c.args.program.now.sig c.numeral.new.store k (line_term c.args.program.now.sig c.args.program.now.sorts c.args.variables.now terms l))) (sym c.in-Num.is) c.numeral.ensures.kept

pub returns-in-Num-clause-pairs : goal.returns-in-Num-clause-pairs
returns-in-Num-clause-pairs c =
    subst (λ l. OnOk c.numeral.result (c.args.variables.now ≡ line_pairs c.args.program.now.sig c.args.program.now.sorts c.args.variables.now l)) (sym c.in-Num.is)
    (on_ok_always c.numeral.result (c.args.variables.now ≡ c.args.variables.now) refl)

pub returns-in-Var-clause-kept : goal.returns-in-Var-clause-kept
returns-in-Var-clause-kept c terms h =
    let s = c.args.program.now.sig in
    let sorts = c.args.program.now.sorts in
    let pairs = c.args.variables.now in
    subst (λ l. IfOk c.add_variable.result (λ k. IsKept s c.add_variable.new.store k (line_term s sorts pairs terms l))) (sym c.in-Var.is)
    (subst (λ w. IfOk c.add_variable.result (λ k. IsKept s c.add_variable.new.store k (variable_by pairs (is_hole w) (pair_of s sorts w)))) c.as_str.ensures c.add_variable.ensures.kept)

pub returns-in-Var-clause-pairs : goal.returns-in-Var-clause-pairs
returns-in-Var-clause-pairs c =
    let s = c.args.program.now.sig in
    let sorts = c.args.program.now.sorts in
    let pairs = c.args.variables.now in
    subst (λ l. OnOk c.add_variable.result (c.add_variable.new.variables ≡ line_pairs s sorts pairs l)) (sym c.in-Var.is)
    (subst (λ w. OnOk c.add_variable.result (c.add_variable.new.variables ≡ pairs_by pairs (is_hole w) (pair_of s sorts w))) c.as_str.ensures c.add_variable.ensures.pairs)

pub returns-in-Ok-None-clause-kept : goal.returns-in-Ok-None-clause-kept
returns-in-Ok-None-clause-kept c terms h =
    let s = c.args.program.now.sig in
    subst (λ l. IsKept s c.args.store.now None (line_term s c.args.program.now.sorts c.args.variables.now terms l)) (sym c.in-App.is)
    (no_arguments s c.operators.ensures.lawful c.in-App.op (terms_at terms c.in-App.numbers)
    (subst (λ ns. With (terms_at terms ns) (All (IsBareWithin s)) → ⊥) c.items.ensures (rw c.in-Ok-None.field-0-is at (c.in-Ok-None.ensures.none s c.args.store.now terms h))))

pub returns-in-Ok-None-clause-pairs : goal.returns-in-Ok-None-clause-pairs
returns-in-Ok-None-clause-pairs c = sym (ap (line_pairs c.args.program.now.sig c.args.program.now.sorts c.args.variables.now) c.in-App.is)

pub build_over-requires : goal.build_over-requires
build_over-requires c =
    let s = c.args.program.now.sig in
    let ts = some_is (terms_at c.requires.kept.0 c.items.result.now) (AreKeptFor s c.args.store.now c.in-Ok-Some.args.items) (rw c.in-Ok-Some.field-0-is at (c.in-Ok-Some.ensures.some s c.args.store.now c.requires.kept.0 c.requires.kept.1)) in
    (ts.0, subst (λ ks. AreKeptFor s c.args.store.now ks ts.0) (sym c.deref.ensures.value) ts.2)

pub returns-in-Ok-Some-clause-kept : goal.returns-in-Ok-Some-clause-kept
returns-in-Ok-Some-clause-kept c terms h =
    let s = c.args.program.now.sig in
    let old = c.args.store.now in
    subst (λ l. IfOk c.build_over.result (λ k. IsKept s c.build_over.new.store k (line_term s c.args.program.now.sorts c.args.variables.now terms l))) (sym c.in-App.is)
    (built_line s old c.build_over.new.store c.in-App.op c.deref.result.now (terms_at terms c.in-App.numbers) c.build_over.result
    (subst (λ ks. With (terms_at terms c.in-App.numbers) (AreKeptFor s old ks)) (sym c.deref.ensures.value)
    (subst (λ ns. With (terms_at terms ns) (AreKeptFor s old c.in-Ok-Some.args.items)) c.items.ensures (rw c.in-Ok-Some.field-0-is at (c.in-Ok-Some.ensures.some s old terms h))))
    c.build_over.ensures.some c.build_over.ensures.none)

pub returns-in-Ok-Some-clause-pairs : goal.returns-in-Ok-Some-clause-pairs
returns-in-Ok-Some-clause-pairs c =
    subst (λ l. OnOk c.build_over.result (c.args.variables.now ≡ line_pairs c.args.program.now.sig c.args.program.now.sorts c.args.variables.now l)) (sym c.in-App.is)
    (on_ok_always c.build_over.result (c.args.variables.now ≡ c.args.variables.now) refl)
