use Rattle.std.proofs.Common.{List, refl, sym, subst}
use Rattle.mau_terms.specs.Tree.{Tree, numeral}
use Rattle.mau_logic.specs.Lines.{over}
use Rattle.mau_check.specs.Kept.{AreKeptFor}
use Rattle.mau_prove.proofs.Standing.{one_kept, one_over, all_kept}
use Rattle.mau_prove.proofs.known.kept_node.Goals as goal

pub returns-in-Num-clause-one : goal.returns-in-Num-clause-one
returns-in-Num-clause-one c = one_kept c.args.program.now.sig c.numeral.new.store (numeral c.in-Num.value) c.numeral.result c.numeral.ensures.kept

pub build_over-requires : goal.build_over-requires
build_over-requires c =
    let s = c.args.program.now.sig in
    subst (λ ks. (us : List Tree) × AreKeptFor s c.args.store.now ks us) (sym c.deref-in-App-2.ensures.value)
    (all_kept (λ v. v.items) s c.args.store.now c.args.kept.now c.args.kept.now c.deref-in-App.result.now c.in-Ok-Some.field-0 c.in-Ok-Some.terms c.requires.kept refl c.in-Ok-Some.field-0-is (c.in-Ok-Some.ensures.some s c.args.store.now))

pub returns-in-Ok-Some-clause-one : goal.returns-in-Ok-Some-clause-one
returns-in-Ok-Some-clause-one c =
    let s = c.args.program.now.sig in
    let all = subst (λ ks. (us : List Tree) × AreKeptFor s c.args.store.now ks us) (sym c.deref-in-App-2.ensures.value)
    (all_kept (λ v. v.items) s c.args.store.now c.args.kept.now c.args.kept.now c.deref-in-App.result.now c.in-Ok-Some.field-0 c.in-Ok-Some.terms c.requires.kept refl c.in-Ok-Some.field-0-is (c.in-Ok-Some.ensures.some s c.args.store.now)) in
    one_over s c.build_over.new.store (over s c.in-App.op.0 all.0) c.build_over.result (c.build_over.ensures.some all.0 all.1)
