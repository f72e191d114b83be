use Rattle.std.proofs.Common.{refl}
use Rattle.mau_logic.specs.Lines.{term_at}
use Rattle.mau_prove.proofs.Standing.{one_of}
use Rattle.mau_prove.proofs.known.known_at.Goals as goal

pub returns-then-found-id : goal.returns-then-found-id
returns-then-found-id c s nodes h =
    let one = one_of s nodes c.in-Some.found (term_at h.0 c.place_of.result) (c.in-Some.ensures.some s nodes h.0 h.1) in
    record { same = c.if-found-id.true; term = one.0; kept = one.1 }
