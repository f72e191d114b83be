-- What is kept of the modules of a text.
use Rattle.std.specs.Prelude.{◌≡◌, ℕ, ◌-◌, ◌<◌, ◌≤◌, List, ◌++◌, length, take, slice_get, slice_index, Some, None}
use Rattle.mau_modtext.specs.Word.{Word}
use Rattle.mau_modtext.specs.declared.raw.RawItem.{RawItem}
use Rattle.mau_module.specs.Modules.{ModuleOf}
use Rattle.mau_module.specs.Library.{last_named}
use Rattle.mau_docheck.specs.Known.{KnownAfter, KnownBefore, items_before}

-- the modules that were there are there as before, and others may follow
abbrev pub IsLonger : List ModuleOf → List ModuleOf → Type 0
IsLonger old new = (more : List ModuleOf) × (new ≡ old ++ more)

-- the first n of all modules are those that are known behind the first i items
pub record IsCountAt (ws : List Word) (items : List RawItem) (ms : List ModuleOf) (i n : ℕ) : Type 0 where
  pub within : n ≤ length ms
  pub after : KnownAfter ws items i (take n ms)

-- counts are the numbers of modules that are known behind the first items, from none on
abbrev pub AreCounts : List Word → List RawItem → List ModuleOf → List ℕ → Type 0
AreCounts ws items ms counts = (i n : ℕ) → slice_get counts i ≡ Some n → IsCountAt ws items ms i n

-- how many modules are known before the item k, where the counts of all items are there
abbrev pub count_before : List ℕ → ℕ → ℕ
count_before counts k = slice_index counts (items_before k (length counts - 1))

-- the modules of a text, with counts of those that are known before each item
pub record AreModulesOf (text : List ℕ) (ms : List ModuleOf) (counts : List ℕ) : Type 0 where
  pub some : 0 < length counts
  pub within : (i n : ℕ) → slice_get counts i ≡ Some n → n ≤ length ms
  pub before : (k : ℕ) → KnownBefore text k (take (count_before counts k) ms)

-- m is the module of a name that is known before the item k
pub record IsModuleAt (text : List ℕ) (k : ℕ) (name : List ℕ) (m : ModuleOf) : Type 0 where
  pub all : List ModuleOf
  pub known : KnownBefore text k all
  pub number : ℕ
  pub last : last_named all name ≡ Some number
  pub there : slice_get all number ≡ Some m

-- there is none
pub record HasNoModule (text : List ℕ) (k : ℕ) (name : List ℕ) : Type 0 where
  pub all : List ModuleOf
  pub known : KnownBefore text k all
  pub none : last_named all name ≡ None
