-- The modules of a text that are known before an item.
use Rattle.std.specs.Prelude.{◌≡◌, ℕ, suc, ◌-◌, min, Bool, true, false, List, [], ◌∷◌, ◌++◌, length, slice_get, Some, Ok, Err}
use Rattle.mau_tokens.specs.declared.token.Token.{Token}
use Rattle.mau_tokens.specs.declared.token.TokenFault.{TokenFault}
use Rattle.mau_tokens.specs.TokensOf.{TokensOf}
use Rattle.mau_modtext.specs.Word.{Word}
use Rattle.mau_modtext.specs.Words.{words_of}
use Rattle.mau_modtext.specs.Items.{AreItems}
use Rattle.mau_modtext.specs.declared.raw.ModuleKind.{ModuleKind}
use Rattle.mau_modtext.specs.declared.raw.ModuleKind.TheVariants.{StrategyModule}
use Rattle.mau_modtext.specs.declared.raw.RawItem.{RawItem}
use Rattle.mau_modtext.specs.declared.raw.RawBody.TheVariants.{Module, Command, Setting as SettingBody, Quit}
use Rattle.mau_modtext.specs.declared.raw.RawModule.{RawModule}
use Rattle.mau_modtext.specs.declared.raw.RawCommand.{RawCommand}
use Rattle.mau_modtext.specs.declared.raw.Setting.{Setting}
use Rattle.mau_modtext.specs.declared.raw.TextFault.{TextFault}
use Rattle.mau_module.specs.Modules.{ModuleOf}
use Rattle.mau_module.specs.Prelude.{prelude}
use Rattle.mau_module.specs.Flattened.{FlattenedAs}
use Rattle.mau_module.specs.declared.fault.ModuleFault.{ModuleFault}

-- functional and system modules; modules of strategies are not built yet
abbrev pub is_built : ModuleKind → Bool
is_built StrategyModule = false
is_built _ = true

-- the modules that are known behind an item, where ms are known before it: an accepted module is one more; an item that is refused, or
-- that is no module, leaves them as they are
pub data Leaves (ws : List Word) (ms : List ModuleOf) (item : RawItem) : List ModuleOf → Type 0 where
  module_accepted : (raw : RawModule) (m : ModuleOf) → item.body ≡ Ok (Module raw) → is_built raw.kind ≡ true → FlattenedAs ms ws raw (Ok m) → Leaves ws ms item (ms ++ m ∷ [])
  module_refused : (raw : RawModule) (f : ModuleFault) → item.body ≡ Ok (Module raw) → is_built raw.kind ≡ true → FlattenedAs ms ws raw (Err f) → Leaves ws ms item ms
  module_not_built : (raw : RawModule) → item.body ≡ Ok (Module raw) → is_built raw.kind ≡ false → Leaves ws ms item ms
  command_passes : (c : RawCommand) → item.body ≡ Ok (Command c) → Leaves ws ms item ms
  setting_passes : (s : Setting) → item.body ≡ Ok (SettingBody s) → Leaves ws ms item ms
  quits : item.body ≡ Ok Quit → Leaves ws ms item ms
  faulty_passes : (f : TextFault) → item.body ≡ Err f → Leaves ws ms item ms

-- the modules that are known behind the first n of some items: those of the prelude, and then item by item
pub data KnownAfter (ws : List Word) (items : List RawItem) : ℕ → List ModuleOf → Type 0 where
  no_items : KnownAfter ws items 0 prelude
  one_more : (n : ℕ) (item : RawItem) (ms more : List ModuleOf) → KnownAfter ws items n ms → slice_get items n ≡ Some item → Leaves ws ms item more → KnownAfter ws items (suc n) more

-- how many of n items stand before the item k, which are numbered from 1; all of them where there are fewer
abbrev pub items_before : ℕ → ℕ → ℕ
items_before k n = min (k - 1) n

-- the modules of a text that are known before the item k; none where the text has no tokens
pub data KnownBefore (text : List ℕ) (k : ℕ) : List ModuleOf → Type 0 where
  known_before : (tokens : List Token) (items : List RawItem) (ms : List ModuleOf) → TokensOf text (Ok tokens) → AreItems (words_of text tokens) items
      → KnownAfter (words_of text tokens) items (items_before k (length items)) ms → KnownBefore text k ms
  none_known : (f : TokenFault) → TokensOf text (Err f) → KnownBefore text k []
