-- Why a term is not built, as an end.
use Rattle.mau_canon.specs.declared.fault.BuildFault.{BuildFault}
use Rattle.mau_canon.specs.declared.fault.BuildFault.TheVariants.{TooDeep, Overflow, NoMemory}
use Rattle.mau_api.specs.declared.results.EvalEnd.{EvalEnd}
use Rattle.mau_api.specs.declared.results.EvalEnd.TheVariants as End

abbrev pub end_of : BuildFault → EvalEnd
end_of TooDeep = End.TooDeep
end_of Overflow = End.Overflow
end_of NoMemory = End.NoMemory
