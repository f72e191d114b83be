-- What a module includes: the modules that it imports, with all that they include, each once; and their sorts, subsort pairs and declarations.
use Rattle.std.specs.Prelude.{ℕ, suc, ◌==◌, max, List, [], ◌∷◌, ◌++◌, map, fold, find, Bool, Option, Some, None, option_map, is_none, codes, if◌then◌else◌, slice_get}
use Rattle.std.specs.List.{flat_map, list_any}
use Rattle.std.specs.Option.{option_map_or}
use Rattle.mau_poset.specs.Order.{Hierarchy, kind_of}
use Rattle.mau_declare.specs.Names.{with_name}
use Rattle.mau_module.specs.Modules.{ModuleOf}
use Rattle.mau_module.specs.Library.{last_named, nat, truth}
use Rattle.mau_module.specs.Numbering.{or_zero, number_in, pair_to, number_to}

-- what a function gives of the module with a number; nothing where there is none
abbrev pub of_module : {A : Type 0} → List ModuleOf → (ModuleOf → List A) → ℕ → List A
of_module ms f i = option_map_or f (slice_get ms i) []

-- ---- imports by name

-- no module has the name
abbrev pub is_unknown : List ModuleOf → List ℕ → Bool
is_unknown ms x = is_none (last_named ms x)

-- the first name that no module has
abbrev pub first_unknown : List ModuleOf → List (List ℕ) → Option (List ℕ)
first_unknown ms names = find (is_unknown ms) names

-- the numbers of the modules with these names
abbrev pub numbers_of : List ModuleOf → List (List ℕ) → List ℕ
numbers_of ms names = map (λ x. or_zero (last_named ms x)) names

-- the depth of a module with these imports: 1 where there are none, else 1 more than the deepest import's
abbrev pub depth_over : List ModuleOf → List ℕ → ℕ
depth_over ms imports = suc (fold (λ d i. max d (option_map_or (λ m. m.depth) (slice_get ms i) 0)) 0 imports)

-- ---- parts

-- a number is among others
abbrev pub has_part : List ℕ → ℕ → Bool
has_part ps q = list_any (λ p. p == q) ps

-- the parts with another one behind them, unless it is there
abbrev pub with_part : List ℕ → ℕ → List ℕ
with_part ps q = if has_part ps q then ps else ps ++ q ∷ []

-- the parts of some modules, in order, each once
abbrev pub parts_of : List ModuleOf → List ℕ → List ℕ
parts_of ms imports = fold (λ ps i. fold with_part ps (of_module ms (λ m. m.parts) i)) [] imports

-- ---- what the parts have

-- the names of their sorts, each once
abbrev pub sorts_of : List ModuleOf → List ℕ → List (List ℕ)
sorts_of ms parts = fold (λ names p. fold with_name names (of_module ms (λ m. m.sorts) p)) [] parts

-- their subsort pairs, where the sorts have these names
abbrev pub pairs_of : List ModuleOf → List (List ℕ) → List ℕ → List (ℕ × ℕ)
pairs_of ms names parts = flat_map (of_module ms (λ m. map (pair_to m.sorts names) m.own.pairs)) parts

-- the numbers that sorts and kinds of a module have among these names and over this hierarchy
abbrev pub number_from : ModuleOf → List (List ℕ) → Hierarchy → ℕ → ℕ
number_from m names h a = number_to m.sorts m.signature.hierarchy names h a

-- ---- numerals and truth values

-- the sort of 0 and that of all other numerals, where the numbers are among the parts
abbrev pub numerals_of : List (List ℕ) → List ℕ → Option (ℕ × ℕ)
numerals_of names parts = if has_part parts nat then Some (number_in names (codes "Zero"), number_in names (codes "NzNat")) else None

-- the kind of the numerals
abbrev pub numeral_kind : Hierarchy → Option (ℕ × ℕ) → Option ℕ
numeral_kind h numerals = option_map (λ p. kind_of h p.0) numerals

-- truth values are among the parts
abbrev pub has_truth : List ℕ → Bool
has_truth parts = has_part parts truth
