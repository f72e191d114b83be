-- The parts of a command, and where one isn't built.
use Rattle.std.specs.Prelude.{ℕ, ◌+◌, List, length, nat_lt, Bool, true, false, Option, Some, None, if◌then◌else◌}
use Rattle.std.specs.List.{list_any}
use Rattle.mau_modtext.specs.Word.{Word}
use Rattle.mau_modtext.specs.declared.raw.RawCommand.{RawCommand}
use Rattle.mau_modtext.specs.declared.raw.RawFragment.{RawFragment}
use Rattle.mau_modtext.specs.declared.raw.FragmentKind.{FragmentKind}
use Rattle.mau_modtext.specs.declared.raw.FragmentKind.TheVariants.{Reach}
use Rattle.mau_declare.specs.Words.{first_index}
use Rattle.mau_statement.specs.Parts.{is_empty}

-- the number of the word behind the subject
abbrev pub subject_end : List Word → RawCommand → ℕ
subject_end ws c = first_index ws c.second + length c.second

-- a command has a condition
abbrev pub has_condition : RawCommand → Bool
has_condition c = nat_lt 0 (length c.cond)

-- a condition has a fragment t => u
abbrev pub is_rewriting : FragmentKind → Bool
is_rewriting Reach = true
is_rewriting _ = false

abbrev pub has_rewriting : List RawFragment → Bool
has_rewriting raws = list_any (λ (raw : RawFragment). is_rewriting raw.kind) raws

-- the word at which a command isn't built: the place of a term or a strategy without tokens, or the word behind the subject, with which a condition begins that
-- has a fragment t => u. No command has any of these.
abbrev pub unbuilt : List Word → RawCommand → Option ℕ
unbuilt ws c =
    if is_empty ws c.first then Some (first_index ws c.first)
    else (if is_empty ws c.second then Some (first_index ws c.second)
    else (if has_rewriting c.cond then Some (subject_end ws c)
    else None))
