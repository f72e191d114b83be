use Rattle.std.proofs.Common.{◌≡◌, suc, ◌+◌, [], take, sym, ap, ap₂, ◌∙◌, subst, arith}
use Rattle.mau_cond.specs.declared.stage.Stage.{Stage}
use Rattle.mau_cond.specs.declared.stage.Stage.TheVariants.{Open, Due}
use Rattle.mau_cond.specs.Bound.{extended}
use Rattle.mau_cond.specs.Path.{Path, IsPath}
use Rattle.mau_cond.specs.Meaning.{TakesSolution}
use Rattle.mau_cond.specs.Known.{IsKnown}
use Rattle.mau_cond.proofs.Pairs.{added}
use Rattle.mau_cond.proofs.Tellings.{solution_told, told_path, told_known}
use Rattle.mau_cond.proofs.run.CondRun.tell_some.Goals as goal

pub invariant_of-self-in-Ok-push : goal.invariant_of-self-in-Ok-push
invariant_of-self-in-Ok-push c =
    let i = c.self.inside in
    let s = c.in-Due.station in
    let w : IsPath (record { cond = i.cond.now; bound = i.bound; stations = i.stations.items; at = i.at; stage = Due s }) =
    subst (λ (k : Stage). IsPath (record { cond = i.cond.now; bound = i.bound; stations = i.stations.items; at = i.at; stage = k })) c.in-Due.is c.self.invariant in
    told_path [] i.cond.now i.bound i.stations.items i.at s w c.args.told.now c.extend.new.self c.push.new.self.items (s.at + 1) c.in-Ok.ensures.more c.in-Ok-push.ensures.items

pub invariant_of-self-in-Err-push : goal.invariant_of-self-in-Err-push
invariant_of-self-in-Err-push c =
    let i = c.self.inside in
    let e : c.keep.new.self ≡ i.bound =
    c.keep.ensures ∙ (ap (take c.len-before.result) c.in-Ok.ensures.more ∙ (ap (λ n. take n (extended i.bound c.args.told.now)) c.len-before.ensures ∙ (added c.args.told.now i.bound).0)) in
    subst IsPath (sym (ap₂ {C = Path} (λ bs ss. record { cond = i.cond.now; bound = bs; stations = ss; at = i.at; stage = i.stage }) e c.in-Err-push.ensures.items)) c.self.invariant

pub returns-in-Ok-push-clause-goes : goal.returns-in-Ok-push-clause-goes
returns-in-Ok-push-clause-goes c = λ nodes.
    let i = c.self.inside in
    let s = c.in-Due.station in
    let w : IsPath (record { cond = i.cond.now; bound = i.bound; stations = i.stations.items; at = i.at; stage = Due s }) =
    subst (λ (k : Stage). IsPath (record { cond = i.cond.now; bound = i.bound; stations = i.stations.items; at = i.at; stage = k })) c.in-Due.is c.self.invariant in
    let new : Path = record { cond = i.cond.now; bound = c.extend.new.self; stations = c.push.new.self.items; at = s.at + 1; stage = Open } in
    let next : s.at + 1 ≡ suc s.at = omega arith in
    subst (λ (z : Path). TakesSolution nodes z new c.args.told.now) c.self.view_is
    (subst (λ (k : Stage). TakesSolution nodes (record { cond = i.cond.now; bound = i.bound; stations = i.stations.items; at = i.at; stage = k }) new c.args.told.now) (sym c.in-Due.is)
    (solution_told nodes i.cond.now i.bound i.stations.items i.at s w c.args.told.now c.extend.new.self c.push.new.self.items (s.at + 1) c.in-Ok.ensures.more c.in-Ok-push.ensures.items next))

pub returns-in-Ok-push-clause-known : goal.returns-in-Ok-push-clause-known
returns-in-Ok-push-clause-known c = λ sig nodes table h k.
    let i = c.self.inside in
    let s = c.in-Due.station in
    let w : IsPath (record { cond = i.cond.now; bound = i.bound; stations = i.stations.items; at = i.at; stage = Due s }) =
    subst (λ (z : Stage). IsPath (record { cond = i.cond.now; bound = i.bound; stations = i.stations.items; at = i.at; stage = z })) c.in-Due.is c.self.invariant in
    told_known nodes i.cond.now i.bound i.stations.items i.at s w sig table c.args.told.now c.extend.new.self c.push.new.self.items (s.at + 1) c.in-Ok.ensures.more c.in-Ok-push.ensures.items
    (subst (λ (z : Stage). IsKnown sig nodes table (record { cond = i.cond.now; bound = i.bound; stations = i.stations.items; at = i.at; stage = z })) c.in-Due.is
    (subst (IsKnown sig nodes table) (sym c.self.view_is) h)) k

pub returns-in-Err-push-clause-known : goal.returns-in-Err-push-clause-known
returns-in-Err-push-clause-known c = λ sig nodes table h k.
    let i = c.self.inside in
    let e : c.keep.new.self ≡ i.bound =
    c.keep.ensures ∙ (ap (take c.len-before.result) c.in-Ok.ensures.more ∙ (ap (λ n. take n (extended i.bound c.args.told.now)) c.len-before.ensures ∙ (added c.args.told.now i.bound).0)) in
    subst (IsKnown sig nodes table)
    (sym (ap₂ {C = Path} (λ bs ss. record { cond = i.cond.now; bound = bs; stations = ss; at = i.at; stage = i.stage }) e c.in-Err-push.ensures.items ∙ c.self.view_is)) h

pub returns-in-Err-push-clause-unchanged : goal.returns-in-Err-push-clause-unchanged
returns-in-Err-push-clause-unchanged c =
    let i = c.self.inside in
    let e : c.keep.new.self ≡ i.bound =
    c.keep.ensures ∙ (ap (take c.len-before.result) c.in-Ok.ensures.more ∙ (ap (λ n. take n (extended i.bound c.args.told.now)) c.len-before.ensures ∙ (added c.args.told.now i.bound).0)) in
    ap₂ {C = Path} (λ bs ss. record { cond = i.cond.now; bound = bs; stations = ss; at = i.at; stage = i.stage }) e c.in-Err-push.ensures.items ∙ c.self.view_is
