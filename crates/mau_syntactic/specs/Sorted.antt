-- Variables as places of a pattern, without the operators above them.
use Rattle.std.specs.Prelude.{None}
use Rattle.mau_terms.specs.declared.ids.VarId.{VarId}
use Rattle.mau_listing.specs.declared.places.Place.{Place}

abbrev pub as_place : VarId → Place
as_place x = record { variable = x; under = None }
