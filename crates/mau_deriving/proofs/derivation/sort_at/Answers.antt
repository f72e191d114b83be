use Rattle.std.proofs.Common.{◌≡◌, ◌<◌, length, ap, arith}
use Rattle.mau_deriving.proofs.derivation.sort_at.Goals as goal

pub returns-clause-fits : goal.returns-clause-fits
returns-clause-fits c =
    let e : length c.items.result.now ≡ length c.args.program.now.memberships = ap length c.items.ensures in
    let l : length c.items.result.now < 18446744073709551616 = c.items.type_inv.0 in
    let k : c.args.at < length c.args.program.now.memberships = c.requires in
    omega (arith, e, l, k)
