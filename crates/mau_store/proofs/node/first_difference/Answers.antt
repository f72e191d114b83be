use Rattle.std.proofs.Common.{rules, tests, ◌==◌, not}
use Rattle.std.proofs.lemmas.Iterator.{YieldsList-from_slice, YieldsList-from_zip}
use Rattle.std.proofs.lemmas.Iterator.Search.{find_from_yields_List}
use Rattle.mau_store.proofs.node.first_difference.Goals as goal

pub returns : goal.returns
returns c =
    find_from_yields_List (λ p. not (p.0.0 == p.1.0)) c.find.new.self _ c.find.result c.find.ensures.ran
    (YieldsList-from_zip (YieldsList-from_slice c.args.first.now cc) (YieldsList-from_slice c.args.second.now cc))
    (λ x b q k. search (rules, tests))
