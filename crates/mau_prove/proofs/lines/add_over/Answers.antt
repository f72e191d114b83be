use Rattle.std.proofs.Common.{List, sym, subst, IfSome}
use Rattle.mau_terms.specs.Tree.{Tree}
use Rattle.mau_logic.specs.Lines.{terms_at, over}
use Rattle.mau_logic.specs.Justified.{With}
use Rattle.mau_check.specs.Kept.{IsKeptFor, AreKeptFor, AreKept}
use Rattle.mau_prove.proofs.Standing.{all_of, all_kept, some_grown, one_of}
use Rattle.mau_prove.proofs.lines.add_over.Goals as goal

pub build_over-requires : goal.build_over-requires
build_over-requires c =
    let s = c.args.program.now.sig in
    let l = c.args.lines.now in
    subst (λ ks. (us : List Tree) × AreKeptFor s l.store ks us) (sym c.deref-3.ensures.value)
    (all_kept (λ v. v.items) s l.store l.kept.items c.deref.result.now c.deref-2.result.now c.in-Ok-Some.field-0 c.in-Ok-Some.terms c.requires (sym c.deref.ensures.value) c.in-Ok-Some.field-0-is (c.in-Ok-Some.ensures.some s l.store))

pub returns-in-Ok-None-build_over : goal.returns-in-Ok-None-build_over
returns-in-Ok-None-build_over c =
    some_grown c.args.program.now.sig c.args.lines.now.store c.build_over.new.store c.in-Ok-None-build_over.ensures.extends c.args.lines.now.kept.items c.requires

pub returns-in-Ok : goal.returns-in-Ok
returns-in-Ok c =
    let s = c.args.program.now.sig in
    let l = c.args.lines.now in
    let new = c.build_over.new.store in
    let all = subst (λ ks. (us : List Tree) × AreKeptFor s l.store ks us) (sym c.deref-3.ensures.value)
    (all_kept (λ v. v.items) s l.store l.kept.items c.deref.result.now c.deref-2.result.now c.in-Ok-Some.field-0 c.in-Ok-Some.terms c.requires (sym c.deref.ensures.value) c.in-Ok-Some.field-0-is (c.in-Ok-Some.ensures.some s l.store)) in
    c.in-Ok.ensures s (some_grown s l.store new c.in-Ok-Some-build_over.ensures.extends l.kept.items c.requires)
    (one_of s new c.in-Ok-Some-build_over.kept (over s c.args.op.0 all.0)
    (subst (λ o. IfSome o (λ k. With (over s c.args.op.0 all.0) (IsKeptFor s new k))) c.in-Ok-Some-build_over.field-0-is (c.in-Ok-Some-build_over.ensures.some all.0 all.1)))
