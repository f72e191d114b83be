-- The left side of a definition: a call, as it is one in a strategy. Labels of rules are no names there.
use Rattle.std.specs.Prelude.{◌≡◌, ℕ, suc, ◌<◌, ◌≤◌, List, [], ◌∷◌, length, take, Bool, true, false, ◌&&◌, Option, Result, Ok, Err, codes, if◌then◌else◌}
use Rattle.std.specs.Option.{option_map_or}
use Rattle.mau_tokens.specs.declared.token.Token.{Token}
use Rattle.mau_modtext.specs.Word.{Word}
use Rattle.mau_modtext.specs.Words.{is_word}
use Rattle.mau_modtext.specs.Brackets.{closing}
use Rattle.mau_declare.specs.Words.{place_at}
use Rattle.mau_terms.specs.Tree.{Tree}
use Rattle.mau_program.specs.Trees.{StrategyOf, call}
use Rattle.mau_program.specs.declared.definitions.StratDecl.{StratDecl}
use Rattle.mau_statement.specs.Context.{ContextOf}
use Rattle.mau_statement.specs.Parts.{Pairs, part_words, is_empty, begin_of}
use Rattle.mau_shapes.specs.Words.{beginning}
use Rattle.mau_shapes.specs.declared.words.Beginning.{Beginning}
use Rattle.mau_shapes.specs.declared.words.Beginning.TheVariants.{Name as of_name}
use Rattle.mau_strattext.specs.Setting.{SettingOf, setting_of}
use Rattle.mau_strattext.specs.Strategies.{StrategyRead}
use Rattle.mau_strattext.specs.declared.fault.StratFault.{StratFault}
use Rattle.mau_strattext.specs.declared.fault.StratFault.TheVariants.{Unexpected}
use Rattle.mau_definition.specs.declared.call.Call.{Call}

-- ---- the words of a call

-- a word that names a strategy behind which `(` stands
abbrev pub is_name : Beginning → Bool
is_name of_name = true
is_name _ = false

-- how many words the parentheses have with which the words begin; all, where they are not closed
abbrev pub pair_size : List Word → ℕ
pair_size ws = option_map_or suc (closing ws) (length ws)

-- how many words the call has with which the words begin: its name, and the parentheses directly behind it, if they are there
abbrev pub call_size : List Word → ℕ
call_size (w ∷ v ∷ ws) = if is_name (beginning w.text) && is_word (codes "(") v then suc (pair_size (v ∷ ws)) else 1
call_size ws = 1

-- the tokens of the call with which some tokens begin
abbrev pub call_tokens : List Word → List Token → List Token
call_tokens ws ts = take (call_size (part_words ws ts)) ts

-- ---- what it reads as, where ns are the variables before it and os those behind it

abbrev pub call_setting : List Word → ContextOf → List StratDecl → List Token → SettingOf
call_setting ws c names ts = setting_of ws (call_tokens ws ts) c [] names

abbrev pub is_call : StrategyOf → Bool
is_call (call f ts) = true
is_call _ = false

-- The call that the tokens are: a strategy which is one, with no word behind it. Or the first fault: that of this strategy; a strategy
-- that is no call; a word behind it. No tokens, which no left side of a text has, are none.
pub data CallRead (ws : List Word) (c : ContextOf) (names : List StratDecl) (ts : List Token) (ns os : Pairs) : Result Call StratFault → Type 0 where
  nothing_there : is_empty ws (call_tokens ws ts) ≡ true → CallRead ws c names ts ns os (Err (Unexpected (begin_of ws ts)))
  call_unread : (f : StratFault) → is_empty ws (call_tokens ws ts) ≡ false → StrategyRead (call_setting ws c names ts) ns os (Err f)
      → CallRead ws c names ts ns os (Err f)
  no_call : (middle : Pairs) (x : StrategyOf) → is_empty ws (call_tokens ws ts) ≡ false → StrategyRead (call_setting ws c names ts) ns middle (Ok x)
      → is_call x ≡ false → CallRead ws c names ts ns os (Err (Unexpected (begin_of ws ts)))
  words_behind : (middle : Pairs) (f : List ℕ) (bs : List Tree) → is_empty ws (call_tokens ws ts) ≡ false
      → StrategyRead (call_setting ws c names ts) ns middle (Ok (call f bs))
      → call_size (part_words ws ts) < length (part_words ws ts)
      → CallRead ws c names ts ns os (Err (Unexpected (place_at (part_words ws ts) (call_size (part_words ws ts)))))
  call_reads : (f : List ℕ) (bs : List Tree) → is_empty ws (call_tokens ws ts) ≡ false → StrategyRead (call_setting ws c names ts) ns os (Ok (call f bs))
      → length (part_words ws ts) ≤ call_size (part_words ws ts) → CallRead ws c names ts ns os (Ok (record { name = f; args = bs }))
