-- What a watcher is told, by the numbers of a store.
use Rattle.mau_terms.specs.declared.ids.TermId.{TermId}
use Rattle.mau_api.specs.declared.step.Place.{Place}
use Rattle.mau_api.specs.declared.step.Step.{Step}

-- an evaluation or a pass begins, with a term at a place of the term at hand; the one that began last and has not ended yet ends, with a value; or
-- a step is made
pub data Event : Type 0 where
  entered : TermId → Place → Event
  left : TermId → Event
  made : Step → Event
