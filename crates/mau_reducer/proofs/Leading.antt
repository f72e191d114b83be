-- What leads to what by enough levels, as the loop says it.
use Rattle.std.proofs.Common.{◌≡◌, ℕ, refl, inl}
use Rattle.mau_evaluation.specs.Run.{Run}
use Rattle.mau_evaluation.specs.Program.{Program}
use Rattle.mau_api.specs.declared.results.EvalEnd.{EvalEnd}
use Rattle.mau_api.specs.declared.results.EvalEnd.TheVariants.{Stopped, TooDeep, Overflow, NoMemory}
use Rattle.mau_reduce.specs.Ends.{IsEnd}
use Rattle.mau_reduce.specs.Comes.{ComesTo}
use Rattle.mau_machine.specs.Words.{LeadsTo, EndsBy}

-- both crates say it alike
pub leads_of : {P : Program} {A : Type 0} {f g : ℕ → Run A} → ComesTo P f g → LeadsTo P f g
leads_of c = record { enough = c.enough; just = c.just; leads = c.comes }

leads_same : {P : Program} {A : Type 0} {f g : ℕ → Run A} → ((k b : ℕ) → f k b ≡ g k b) → LeadsTo P f g
leads_same e = record { enough = 0; just = λ none. refl; leads = λ k b. inl (e k b) }

-- what ends so by all numbers of levels
pub ends_by : (P : Program) {A : Type 0} (f : ℕ → Run A) (e : EvalEnd) → ((k b : ℕ) → IsEnd (f k b) e) → EndsBy P f e
ends_by P f Stopped h = leads_same h
ends_by P f TooDeep h = leads_same h
ends_by P f Overflow h = leads_same h
ends_by P f NoMemory h = tt
