use Rattle.std.proofs.Common.{◌≡◌, List, [], ◌++◌, All, map, ◌∙◌, ap, sym, subst, ap₂}
use Rattle.std.proofs.lemmas.List.{take_all}
use Rattle.std.proofs.lemmas.List.Elements.{All-nil}
use Rattle.mau_evaluation.specs.Run.{counted_if}
use Rattle.mau_api.specs.Programs.{fragment_of}
use Rattle.mau_api.specs.Answers.{binding_in, IsValueOf}
use Rattle.mau_cond.specs.declared.stage.Station.{Station}
use Rattle.mau_cond.specs.declared.stage.Stage.TheVariants.{Open}
use Rattle.mau_cond.specs.Path.{Path}
use Rattle.mau_cond.specs.Meaning.{solve_from, through}
use Rattle.mau_cond.specs.Known.{IsToldValue}
use Rattle.mau_cond.proofs.run.CondRun.start.Goals as goal

pub returns-clause-starts : goal.returns-clause-starts
returns-clause-starts c = λ P l nodes last r b.
    let f = map fragment_of c.args.cond.now in
    let e : c.loop-pair.values ≡ c.args.bound.now = c.loop-pair.invariant ∙ take_all c.loop-pair.pair-index c.args.bound.now c.loop-pair-test.false in
    ap (λ bs. through P l f (binding_in nodes bs) (c.new.result.items ++ []) [] (counted_if r (solve_from P l last f (binding_in nodes bs) b))) e
    ∙ ap (λ ss. through P l f (binding_in nodes c.args.bound.now) (ss ++ []) [] (counted_if r (solve_from P l last f (binding_in nodes c.args.bound.now) b))) c.new.ensures.items

pub returns-clause-known : goal.returns-clause-known
returns-clause-known c = λ s nodes table h k.
    let e : c.loop-pair.values ≡ c.args.bound.now = c.loop-pair.invariant ∙ take_all c.loop-pair.pair-index c.args.bound.now c.loop-pair-test.false in
    record {
      fragments = h;
      bound = subst (All (IsValueOf s nodes table)) (sym e) k;
      stations = subst (λ (ss : List Station). All (λ (x : Station). IsToldValue s nodes table x.value) (ss ++ [])) (sym c.new.ensures.items) (All-nil (λ (x : Station). IsToldValue s nodes table x.value));
      told = tt;
    }

pub returns-clause-begins : goal.returns-clause-begins
returns-clause-begins c =
    let e : c.loop-pair.values ≡ c.args.bound.now = c.loop-pair.invariant ∙ take_all c.loop-pair.pair-index c.args.bound.now c.loop-pair-test.false in
    ap₂ {C = Path} (λ bs ss. record { cond = c.args.cond.now; bound = bs; stations = ss; at = 0; stage = Open }) e c.new.ensures.items
