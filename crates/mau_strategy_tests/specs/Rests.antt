-- Runs that rest while there is no evaluator.
use Rattle.std.specs.Prelude.{ℕ, List, [], true, false, Option}
use Rattle.mau_signature.specs.Signature.{SignatureOf}
use Rattle.mau_sorts.specs.Table.{Table}
use Rattle.mau_listing.specs.Asked.{Asked}
use Rattle.mau_listing.specs.declared.solution.Solution.{Solution as Listed}
use Rattle.mau_trial.specs.Tried.{asked_in}
use Rattle.mau_match.specs.declared.listing.Listing.{Listing}
use Rattle.mau_extend.specs.declared.listing.ExtListing.{ExtListing}
use Rattle.mau_program.specs.declared.program.Program.{Program}
use Rattle.mau_api.specs.Meanings.{Meanings, meanings_by}
use Rattle.mau_reducer.specs.KeptTables.{IsKept}
use Rattle.mau_stratitems.specs.Kept.{store_of, CanRun}
use Rattle.mau_stratitems.specs.declared.kept.KeptRun.{KeptRun}

-- by a program and a budget, without native operators
abbrev pub meant : Program → ℕ → Meanings
meant p limit = meanings_by p [] limit false

-- what the listings are asked with which rules are tried, what they have given, and that any signature will do for them
abbrev pub asked_there : ExtListing Listing → Asked
asked_there l = asked_in l.trial

abbrev pub given_there : ExtListing Listing → Option Listed
given_there l = l.trial.last

abbrev pub IsForAny : ExtListing Listing → SignatureOf → Type 0
IsForAny l s = Unit {0}

-- a run can go on by the sorts that an evaluator had settled
pub record CanGoOn (p : Program) (limit : ℕ) (k : KeptRun (ExtListing Listing)) (sorts : Table) : Type 0 where
  pub run : CanRun asked_there given_there IsForAny true p (meant p limit) sorts k
  pub kept : IsKept p [] limit (store_of k) sorts
