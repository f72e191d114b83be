use Rattle.std.proofs.Common.{◌≡◌, Some, slice_get, sym, subst}
use Rattle.mau_terms.specs.declared.ids.TermId.{TermId}
use Rattle.mau_api.specs.Programs.{program_over}
use Rattle.mau_deriving.specs.Asking.{Derives}
use Rattle.mau_settling.specs.Due.{IsDueInFirst}
use Rattle.mau_settling.specs.Settlings.{IsDerivingIn, left_of}
use Rattle.mau_settling.proofs.States.{is_current, one_asked}
use Rattle.mau_settling.proofs.settling.Settling.told.Goals as goal

pub returns-in-Some-clause-derives : goal.returns-in-Some-clause-derives
returns-in-Some-clause-derives c = λ p hooks limit nodes m at b asks there was derives.
    let z = one_asked c.args.self.now c.in-Some.derivation c.in-Some.is at b asks in
    c.told.ensures.derives p hooks limit nodes m b (subst (λ n. slice_get (program_over p hooks).memberships n ≡ Some m) (sym z.0) there) z.1 was
    (is_current (Derives p hooks limit nodes) c.args.self.now.current c.in-Some.derivation c.in-Some.is derives)

pub returns-in-Some-clause-settling : goal.returns-in-Some-clause-settling
returns-in-Some-clause-settling c = λ p nodes table h.
    let d = is_current (IsDerivingIn p nodes table (left_of c.args.self.now)) c.args.self.now.current c.in-Some.derivation c.in-Some.is h.current in
    record {
      over = h.over;
      closed = h.closed;
      term = h.term;
      roots = h.roots;
      left = h.left;
      path = h.path;
      current = record { stands = c.told.ensures.stands p nodes table d.stands; due = subst (λ (t : TermId). IsDueInFirst nodes table (left_of c.args.self.now) t.0) (sym c.told.ensures.term) d.due };
    }
