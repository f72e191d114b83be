use Rattle.std.proofs.Common.{◌≡◌, All, sym, subst, ap, ◌∙◌}
use Rattle.mau_api.specs.Answers.{IsValueOf}
use Rattle.mau_cond.specs.Path.{Path}
use Rattle.mau_cond.specs.Steps.{opened}
use Rattle.mau_cond.proofs.Lists.{no_end}
use Rattle.mau_cond.proofs.Steps.{held, waiting_is, no_more_terms, known_failing}
use Rattle.mau_cond.proofs.run.CondRun.hold.Goals as goal

pub returns-in-Ok-clause-answered : goal.returns-in-Ok-clause-answered
returns-in-Ok-clause-answered c = λ s table h.
    let nodes = c.args.store.now in
    let p = c.args.self.now in
    let n = c.go_back.new.self in
    let values : c.in-Ok.values.items ≡ p.bound = c.in-Ok.ensures ∙ ap (λ (z : Path). z.bound) c.self.view_is in
    let k = known_failing s nodes table (opened p c.args.at) h in
    record {
      goes = λ P l of last lefts r b. held s nodes table p n c.args.at c.in-Ok.values.items c.requires.end values (c.go_back.ensures.goes nodes) P l last lefts r b;
      asked = waiting_is s nodes table n.cond n.bound n.stations n.at n.stage c.go_back.ensures.waits;
      stations = c.go_back.ensures.stations ∙ sym (no_end p.stations);
      known = c.go_back.ensures.known s nodes table (record { fragments = k.fragments; bound = k.bound; stations = k.stations; told = tt });
      given = subst (All (IsValueOf s nodes table)) (sym values) h.bound;
      again = λ a. absurd (no_more_terms s nodes table p c.args.at c.requires.end a);
    }
