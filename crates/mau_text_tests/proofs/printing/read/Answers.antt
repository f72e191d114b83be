use Rattle.std.proofs.Common.{arith}
use Rattle.mau_text_tests.proofs.printing.read.Goals as goal

pub build_bare-requires : goal.build_bare-requires
build_bare-requires g c =
    let b = c.in-Ok.ensures.bare c.args.within.now.sig c.requires.0 c.requires.1 c.requires.2 (omega arith) in
    (b.0, b.3)
