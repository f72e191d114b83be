use Rattle.std.proofs.Common.{◌≡◌, Some, map, slice_get, sym, ap, ◌∙◌, subst}
use Rattle.mau_signature.specs.Signature.{theory_at}
use Rattle.mau_store.specs.View.{numbers}
use Rattle.mau_canon.specs.Standing.{StandWithin}
use Rattle.mau_cond.specs.declared.stage.Ask.TheVariants.{Evaluate}
use Rattle.mau_cond.specs.Path.{Path, term_by}
use Rattle.mau_cond.specs.Steps.{IsAnswered}
use Rattle.mau_cond.proofs.Grown.{values_stand}
use Rattle.mau_cond.proofs.Steps.{asked_path}
use Rattle.mau_cond.proofs.Building.{built_answered, built_ends}
use Rattle.mau_cond.proofs.run.CondRun.evaluate.Goals as goal

pub build_instance-requires-clause-values : goal.build_instance-requires-clause-values
build_instance-requires-clause-values c =
    subst (λ ids. StandWithin (theory_at c.args.sig.now) c.args.store.now (numbers ids)) (sym (c.values.ensures ∙ ap (λ (z : Path). map (λ b. b.1) z.bound) c.self.view_is))
    (values_stand c.args.sig.now c.args.store.now c.args.sorts.now c.args.self.now.bound c.requires.known.bound)

pub invariant_of-self : goal.invariant_of-self
invariant_of-self c =
    let i = c.self.inside in
    let p : Path = record { cond = i.cond.now; bound = i.bound; stations = i.stations.items; at = i.at; stage = i.stage } in
    asked_path p c.self.invariant c.args.at c.args.stage c.args.term.now
    (subst (λ (z : Path). term_by c.args.stage (slice_get z.cond c.args.at) ≡ Some c.args.term.now) (sym c.self.view_is) c.requires.term)

pub returns-in-Ok-clause-answered : goal.returns-in-Ok-clause-answered
returns-in-Ok-clause-answered c =
    let s = c.args.sig.now in
    let new = c.build_instance.new.store in
    let p = c.args.self.now in
    let q : Path = record { cond = p.cond; bound = p.bound; stations = p.stations; at = c.args.at; stage = c.args.stage } in
    subst (λ (z : Path). IsAnswered s new c.args.sorts.now q (record { cond = z.cond; bound = z.bound; stations = z.stations; at = c.args.at; stage = c.args.stage }) (Evaluate c.in-Ok.id)) (sym c.self.view_is)
    (built_answered s c.operators-operators.ensures.lawful c.args.store.now new c.in-Ok.ensures.extends c.args.sorts.now q c.requires.known c.args.term.now c.requires.term
    c.variables.result.now c.values.result.now (c.variables.ensures ∙ ap (λ (z : Path). map (λ b. b.0) z.bound) c.self.view_is) (c.values.ensures ∙ ap (λ (z : Path). map (λ b. b.1) z.bound) c.self.view_is)
    c.in-Ok.id c.in-Ok.ensures.ok c.in-Ok.ensures.within)

pub returns-in-Err-clause-ends : goal.returns-in-Err-clause-ends
returns-in-Err-clause-ends c =
    let s = c.args.sig.now in
    let new = c.build_instance.new.store in
    let p = c.args.self.now in
    let q : Path = record { cond = p.cond; bound = p.bound; stations = p.stations; at = c.args.at; stage = c.args.stage } in
    built_ends s c.operators-operators.ensures.lawful c.args.store.now new c.in-Err.ensures.extends c.args.sorts.now q c.requires.known c.args.term.now c.requires.term
    c.variables.result.now c.values.result.now (c.variables.ensures ∙ ap (λ (z : Path). map (λ b. b.0) z.bound) c.self.view_is) (c.values.ensures ∙ ap (λ (z : Path). map (λ b. b.1) z.bound) c.self.view_is)
    c.in-Err.fault c.in-Err.ensures.refused
