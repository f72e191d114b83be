use Rattle.mau_deriving.proofs.DerivedMore.{derived_more}
use Rattle.mau_deriving.proofs.laws.entries_are_derived.Goals as goal

pub returns : goal.returns
returns c = λ p hooks limit remembers heads accepted nodes are old derived i ready unsettled normal more new kept settles over value given.
    derived_more p hooks limit remembers heads accepted nodes are old derived i ready unsettled normal more new kept settles over value given
