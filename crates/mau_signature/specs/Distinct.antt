-- Operators that stand in a list once.
use Rattle.std.specs.Prelude.{◌≡◌, List, [], ◌∷◌, false}
use Rattle.std.specs.List.{list_any}
use Rattle.mau_signature.specs.Names.{Operator, same_operator}

-- each operator is there once
abbrev pub AreDistinct : List Operator → Type 0
AreDistinct [] = Unit {0}
AreDistinct (f ∷ fs) = (list_any (same_operator f) fs ≡ false) × AreDistinct fs
