use Rattle.std.proofs.Common.{◌≡◌, length, take, drop, ◌++◌, sym, ◌∙◌, ap, subst, arith}
use Rattle.std.proofs.Math.Seq.{take-append_seam}
use Rattle.std.proofs.lemmas.Bool.{OnTrue_at}
use Rattle.mau_sigcheck.specs.Tuples.{IsFirstWithout}
use Rattle.mau_sigcheck.specs.Accepted.{argument_kinds, IsPreregularAt}
use Rattle.mau_sigcheck.proofs.checker.Checker.first_without_least.Goals as goal

pub returns-then-find_unmet-clause-some : goal.returns-then-find_unmet-clause-some
returns-then-find_unmet-clause-some c =
    let h = c.args.self.now.hierarchy in
    let new = c.find_unmet.new.tuple in
    let rest = drop (length new) c.in_ok-tuple.tuple.items in
    let kept : length new ≡ length c.deref_mut.result.now = c.find_unmet.auto.tuple in
    let len : length c.deref_mut.result.now ≡ c.in_ok-tuple.tuple.len = c.deref_mut.ensures.len in
    let long : c.in_ok-tuple.tuple.len ≡ length new = omega arith in
    let found : c.new.result ≡ new = c.new.ensures ∙ ap (λ n. take n (new ++ rest)) long ∙ take-append_seam new rest in
    subst (IsFirstWithout h (argument_kinds c.args.self.now c.args.op.0) (IsPreregularAt c.args.self.now c.args.op.0)) (sym found)
    (subst (λ ks. IsFirstWithout h ks (IsPreregularAt c.args.self.now c.args.op.0) new) c.requires.kinds (OnTrue_at c.if-find_unmet.true c.find_unmet.ensures.found))
