use Rattle.mau_parse.proofs.Overflowing.{only_greatest}
use Rattle.mau_parse.proofs.overflow.is_only_greatest.Goals as goal

pub returns-else-terms-eq1 : goal.returns-else-terms-eq1
returns-else-terms-eq1 c = only_greatest c.args.terms.now c.if-terms-eq1.false
