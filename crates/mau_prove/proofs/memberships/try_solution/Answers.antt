use Rattle.std.proofs.Common.{◌≡◌, List, map, IfSome, sym, ap, ◌∙◌, subst}
use Rattle.std.specs.Prelude.{All}
use Rattle.mau_terms.specs.View.{variable_of}
use Rattle.mau_terms.specs.declared.ids.VarId.{VarId}
use Rattle.mau_terms.specs.declared.ids.TermId.{TermId}
use Rattle.mau_signature.specs.Signature.{SignatureOf}
use Rattle.mau_sorts.specs.Table.{Table, AreOver}
use Rattle.mau_api.specs.Answers.{IsAskable, IsValueOf}
use Rattle.mau_prove.specs.Making.{AreSomeKept}
use Rattle.mau_prove.proofs.Working.{bound_askable, more_known, asked_apart, works_on, worked_on, sig_of}
use Rattle.mau_prove.proofs.memberships.try_solution.Goals as goal

pub complete_known-requires : goal.complete_known-requires
complete_known-requires g c = c.requires.working.kept

pub bound_to-requires : goal.bound_to-requires
bound_to-requires g c =
    let m = g.E.Evaluator.meanings c.args.evaluator.now in
    let s1 = c.complete_known.new.store in
    let fits = g.met.E.Evaluator.grows c.args.evaluator.now c.args.store.now s1 c.complete_known.ensures.extends c.requires.working.fits in
    record {
      over =
          subst (λ (t : Table). AreOver c.args.program.now.sig.hierarchy t) (sym c.sorts.ensures.value)
          (subst (λ (z : SignatureOf). AreOver z.hierarchy (g.E.Evaluator.table c.args.evaluator.now)) (sig_of c.args.program.now m c.args.store.now c.args.known.now.items c.requires.working)
          (g.met.E.Evaluator.derived c.args.evaluator.now s1 fits).over);
    }

pub solve_under-requires-clause-fits : goal.solve_under-requires-clause-fits
solve_under-requires-clause-fits g c = g.met.E.Evaluator.grows c.args.evaluator.now c.args.store.now c.complete_known.new.store c.complete_known.ensures.extends c.requires.working.fits

pub solve_under-requires-clause-condition : goal.solve_under-requires-clause-condition
solve_under-requires-clause-condition g c =
    let m = g.E.Evaluator.meanings c.args.evaluator.now in
    let p = c.args.program.now in
    let bound = c.deref-2.result.now in
    let same : map (λ (b : VarId × TermId). b.0) bound ≡ c.args.variables.now =
    ap (map (λ (b : VarId × TermId). b.0)) c.deref-2.ensures.value ∙ subst (λ o. IfSome o (λ v. map (λ (b : VarId × TermId). b.0) v.items ≡ c.args.variables.now)) c.in-Ok-Some.field-0-is c.in-Ok-Some.ensures.variables in
    subst (λ (z : SignatureOf). IsAskable z (map (λ (b : VarId × TermId). variable_of b.0) bound) c.args.cond.now) (sym (sig_of p m c.args.store.now c.args.known.now.items c.requires.working))
    (bound_askable p.sig bound c.args.variables.now c.args.cond.now same c.requires.condition)

pub solve_under-requires-clause-bound : goal.solve_under-requires-clause-bound
solve_under-requires-clause-bound g c =
    let m = g.E.Evaluator.meanings c.args.evaluator.now in
    let p = c.args.program.now in
    let s1 = c.complete_known.new.store in
    let kept = subst (AreSomeKept p.sig s1) (sym c.deref.ensures.value) c.complete_known.ensures.kept in
    let values = subst (λ o. IfSome o (λ v. All (IsValueOf p.sig s1 c.sorts.result.now) v.items)) c.in-Ok-Some.field-0-is (c.in-Ok-Some.ensures.values s1 kept) in
    subst (λ (z : SignatureOf). All (IsValueOf z s1 (g.E.Evaluator.table c.args.evaluator.now)) c.deref-2.result.now) (sym (sig_of p m c.args.store.now c.args.known.now.items c.requires.working))
    (subst (λ (t : Table). All (IsValueOf p.sig s1 t) c.deref-2.result.now) c.sorts.ensures.value
    (subst (All (IsValueOf p.sig s1 c.sorts.result.now)) (sym c.deref-2.ensures.value) values))

pub returns-in_err-complete_known : goal.returns-in_err-complete_known
returns-in_err-complete_known g c =
    more_known c.args.program.now (g.E.Evaluator.meanings c.args.evaluator.now) c.args.store.now c.complete_known.new.store c.args.known.now.items c.complete_known.new.kept.items c.requires.working c.complete_known.ensures.extends
    (g.met.E.Evaluator.grows c.args.evaluator.now c.args.store.now c.complete_known.new.store c.complete_known.ensures.extends) c.complete_known.ensures.kept

pub returns-in-Ok-None : goal.returns-in-Ok-None
returns-in-Ok-None g c =
    more_known c.args.program.now (g.E.Evaluator.meanings c.args.evaluator.now) c.args.store.now c.complete_known.new.store c.args.known.now.items c.complete_known.new.kept.items c.requires.working c.complete_known.ensures.extends
    (g.met.E.Evaluator.grows c.args.evaluator.now c.args.store.now c.complete_known.new.store c.complete_known.ensures.extends) c.complete_known.ensures.kept

pub returns-in-Err : goal.returns-in-Err
returns-in-Err g c =
    more_known c.args.program.now (g.E.Evaluator.meanings c.args.evaluator.now) c.args.store.now c.complete_known.new.store c.args.known.now.items c.complete_known.new.kept.items c.requires.working c.complete_known.ensures.extends
    (g.met.E.Evaluator.grows c.args.evaluator.now c.args.store.now c.complete_known.new.store c.complete_known.ensures.extends) c.complete_known.ensures.kept

pub returns : goal.returns
returns g c =
    let p = c.args.program.now in
    let m = g.E.Evaluator.meanings c.args.evaluator.now in
    let after = g.E.Evaluator.meanings c.solve_under.new.evaluator in
    let s0 = c.args.store.now in
    let s1 = c.complete_known.new.store in
    let s2 = c.solve_under.new.store in
    let k0 = c.args.known.now.items in
    let k1 = c.complete_known.new.kept.items in
    let first = more_known p m s0 s1 k0 k1 c.requires.working c.complete_known.ensures.extends (g.met.E.Evaluator.grows c.args.evaluator.now s0 s1 c.complete_known.ensures.extends) c.complete_known.ensures.kept in
    worked_on p.sig m m after s0 s1 s2 k1 k1 first
    (asked_apart p m after s1 s2 k1 (works_on p m m s0 s1 k0 k1 c.requires.working first) c.solve_under.ensures.meanings c.solve_under.ensures.fits c.solve_under.ensures.extends)
