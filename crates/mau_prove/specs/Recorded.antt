-- What a recorder keeps, as what a watcher is told.
use Rattle.std.specs.Prelude.{List, map}
use Rattle.mau_api.specs.Events.{Event, entered, left, made}
use Rattle.mau_prove.specs.declared.recorder.Told.{Told}
use Rattle.mau_prove.specs.declared.recorder.Told.TheVariants.{Entered, Left, Made}

abbrev pub event_of : Told → Event
event_of (Entered t place) = entered t place
event_of (Left t) = left t
event_of (Made s) = made s

abbrev pub events_of : List Told → List Event
events_of es = map event_of es
