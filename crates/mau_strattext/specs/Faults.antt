-- The first fault of the names and terms of a strategy, in the order of the text. Its pieces may be those before a word at fault,
-- so what stands behind the last word of a name or of a test may be missing.
use Rattle.std.specs.Prelude.{◌≡◌, ℕ, ◌+◌, ◌-◌, List, [], ◌∷◌, length, if◌then◌else◌, Bool, true, false, Some, None, Ok, Err, slice_get}
use Rattle.std.specs.List.{list_any}
use Rattle.mau_terms.specs.declared.ids.VarId.{VarId}
use Rattle.mau_terms.specs.declared.bare.Bare.{Bare}
use Rattle.mau_terms.specs.declared.bare.Bare.TheVariants.{Var, Num, App}
use Rattle.mau_modtext.specs.declared.raw.RawFragment.{RawFragment}
use Rattle.mau_modtext.specs.declared.fault.Fault.TheVariants.{Unexpected as UnexpectedAt}
use Rattle.mau_parse.specs.declared.goals.Goal.{Goal}
use Rattle.mau_parse.specs.declared.goals.Goal.TheVariants.{AnyKind, Kind}
use Rattle.mau_parse.specs.declared.fault.ParseFault.{ParseFault}
use Rattle.mau_program.specs.declared.statements.Fragment.{Fragment as FragmentOf}
use Rattle.mau_program.specs.declared.strategies.Assign.{Assign}
use Rattle.mau_program.specs.declared.definitions.StratDecl.{StratDecl}
use Rattle.mau_program.specs.Trees.{StrategyOf}
use Rattle.mau_statement.specs.Parts.{Pairs, PartUnread}
use Rattle.mau_statement.specs.Conditions.{ConditionReads, ConditionUnread}
use Rattle.mau_statement.specs.declared.fault.StatementFault.{StatementFault}
use Rattle.mau_statement.specs.declared.fault.StatementFault.TheVariants.{Parse as NoTerm, UnknownSort}
use Rattle.mau_shapes.specs.declared.pieces.Part.{Part}
use Rattle.mau_shapes.specs.declared.pieces.Piece.{Piece}
use Rattle.mau_shapes.specs.declared.pieces.Piece.TheVariants.{Plain, Label, Variable, Value, Call, Argument, Called, Test, Pattern, Fragment, Wrapper}
use Rattle.mau_strattext.specs.Setting.{SettingOf, word_at, start_at, tokens_of, is_form, is_declared, is_label, is_unknown, declared}
use Rattle.mau_strattext.specs.Fragments.{cut}
use Rattle.mau_strattext.specs.Reads.{IsTerm, kind_in, IsUse, LeafReads, is_top}
use Rattle.mau_strattext.specs.declared.fault.StratFault.{StratFault}
use Rattle.mau_strattext.specs.declared.fault.StratFault.TheVariants.{Unexpected, UnknownName, Parse, Arity}

-- ---- terms

-- the part is no term of the kinds that are asked for
abbrev pub IsNoTerm : SettingOf → Part → Goal → Pairs → ParseFault → Type 0
IsNoTerm s p goal ns f = PartUnread s.words s.context.grammar (tokens_of s p) goal ns (NoTerm f)

abbrev pub is_variable : Bare → Bool
is_variable (Var v) = true
is_variable (Num n) = false
is_variable (App f ts) = false

-- the part is no variable: it is no term, or another one
pub data IsNoVariable (s : SettingOf) (p : Part) (ns : Pairs) : Type 0 where
  no_term_there : (f : ParseFault) → IsNoTerm s p AnyKind ns f → IsNoVariable s p ns
  other_term_there : (os : Pairs) (b : Bare) → IsTerm s p AnyKind ns os b → is_variable b ≡ false → IsNoVariable s p ns

-- ---- the first fault of what stands behind a word

pub data UsesFault (s : SettingOf) : List Piece → Pairs → StratFault → Type 0 where
  no_variable : (p : Part) (us : List Piece) (ns : Pairs) → IsNoVariable s p ns → UsesFault s (Variable p ∷ us) ns (Unexpected (start_at s p.start))
  no_value : (p q : Part) (us : List Piece) (ns middle : Pairs) (v : VarId) (x : List ℕ × ℕ) (f : ParseFault) → IsTerm s p AnyKind ns middle (Var v)
      → slice_get middle v.index ≡ Some x → IsNoTerm s q (Kind (kind_in s x.1)) middle f
      → UsesFault s (Variable p ∷ Value q ∷ us) ns (Parse (start_at s q.start) f)
  later_use : (p q : Part) (us : List Piece) (ns middle : Pairs) (a : Assign) (f : StratFault) → IsUse s p q ns middle a → UsesFault s us middle f
      → UsesFault s (Variable p ∷ Value q ∷ us) ns f

pub data ArgumentsFault (s : SettingOf) : List ℕ → List Piece → Pairs → StratFault → Type 0 where
  no_argument : (sort : ℕ) (sorts : List ℕ) (p : Part) (ps : List Piece) (ns : Pairs) (f : ParseFault) → IsNoTerm s p (Kind (kind_in s sort)) ns f
      → ArgumentsFault s (sort ∷ sorts) (Argument p ∷ ps) ns (Parse (start_at s p.start) f)
  later_argument : (sort : ℕ) (sorts : List ℕ) (p : Part) (ps : List Piece) (ns middle : Pairs) (b : Bare) (f : StratFault)
      → IsTerm s p (Kind (kind_in s sort)) ns middle b → ArgumentsFault s sorts ps middle f
      → ArgumentsFault s (sort ∷ sorts) (Argument p ∷ ps) ns f

-- the fault of a fragment that is cut, which begins at this place of the text: a side that is no term, or what is no sort
abbrev pub IsOfFragment : ℕ → StatementFault → StratFault → Type 0
IsOfFragment start (NoTerm f) g = g ≡ Parse start f
IsOfFragment start (UnknownSort at) g = g ≡ UnknownName at
IsOfFragment start f g = ⊥

pub data FragmentsFault (s : SettingOf) : List Piece → Pairs → StratFault → Type 0 where
  not_cut : (p : Part) (ps : List Piece) (ns : Pairs) (at : ℕ) → cut s p ≡ Err (UnexpectedAt at) → FragmentsFault s (Fragment p ∷ ps) ns (Unexpected at)
  no_fragment : (p : Part) (ps : List Piece) (raw : RawFragment) (ns : Pairs) (f : StatementFault) (g : StratFault) → cut s p ≡ Ok raw
      → ConditionUnread s.words s.context ns (raw ∷ []) f → IsOfFragment (start_at s p.start) f g → FragmentsFault s (Fragment p ∷ ps) ns g
  later_fragment : (p : Part) (ps : List Piece) (raw : RawFragment) (ns middle : Pairs) (xs : List FragmentOf) (f : StratFault) → cut s p ≡ Ok raw
      → ConditionReads s.words s.context ns (raw ∷ []) middle xs → FragmentsFault s ps middle f → FragmentsFault s (Fragment p ∷ ps) ns f

-- ---- the fault of a word and what stands behind it

-- the closing bracket of a call is there
abbrev pub is_closing : Piece → Bool
is_closing Called = true
is_closing _ = false

abbrev pub are_closed : List Piece → Bool
are_closed ps = list_any is_closing ps

pub data LeafFault (s : SettingOf) (under_top : Bool) : Piece → List Piece → Pairs → StratFault → Type 0 where
  -- a word by itself
  no_name : (i : ℕ) (ps : List Piece) (ns : Pairs) → is_form (word_at s i) ≡ false → is_unknown s (word_at s i) ≡ true
      → LeafFault s under_top (Plain i) ps ns (UnknownName (start_at s i))
  no_label_here : (i : ℕ) (ps : List Piece) (ns : Pairs) → is_form (word_at s i) ≡ false → is_declared s (word_at s i) ≡ true → under_top ≡ true
      → LeafFault s under_top (Plain i) ps ns (Unexpected (start_at s i))
  takes_arguments : (i : ℕ) (ps : List Piece) (ns : Pairs) → is_form (word_at s i) ≡ false → is_declared s (word_at s i) ≡ true → under_top ≡ false
      → declared s (word_at s i) 0 ≡ None → LeafFault s under_top (Plain i) ps ns (Arity (start_at s i))
  -- w[X <- t, ..]
  no_label : (i : ℕ) (ps : List Piece) (ns : Pairs) → is_unknown s (word_at s i) ≡ true → LeafFault s under_top (Label i) ps ns (UnknownName (start_at s i))
  takes_no_values : (i : ℕ) (ps : List Piece) (ns : Pairs) → is_declared s (word_at s i) ≡ true
      → LeafFault s under_top (Label i) ps ns (Unexpected (start_at s (i + 1)))
  in_values : (i : ℕ) (ps : List Piece) (ns : Pairs) (f : StratFault) → is_label s (word_at s i) ≡ true → UsesFault s ps ns f
      → LeafFault s under_top (Label i) ps ns f
  -- w(t, ..): without its closing bracket the number of its arguments isn't known, and so neither are their kinds
  no_strategy : (i : ℕ) (ps : List Piece) (ns : Pairs) → is_unknown s (word_at s i) ≡ true → LeafFault s under_top (Call i) ps ns (UnknownName (start_at s i))
  label_called : (i : ℕ) (ps : List Piece) (ns : Pairs) → is_label s (word_at s i) ≡ true → LeafFault s under_top (Call i) ps ns (Unexpected (start_at s (i + 1)))
  other_number : (i : ℕ) (ps : List Piece) (ns : Pairs) → is_declared s (word_at s i) ≡ true → are_closed ps ≡ true
      → declared s (word_at s i) (length ps - 1) ≡ None → LeafFault s under_top (Call i) ps ns (Arity (start_at s i))
  in_arguments : (i : ℕ) (ps : List Piece) (ns : Pairs) (d : StratDecl) (f : StratFault) → are_closed ps ≡ true
      → declared s (word_at s i) (length ps - 1) ≡ Some d → ArgumentsFault s d.args ps ns f → LeafFault s under_top (Call i) ps ns f
  -- tests
  no_pattern : (i : ℕ) (p : Part) (ps : List Piece) (ns : Pairs) (f : ParseFault) → IsNoTerm s p AnyKind ns f
      → LeafFault s under_top (Test i) (Pattern p ∷ ps) ns (Parse (start_at s p.start) f)
  in_condition : (i : ℕ) (p : Part) (ps : List Piece) (ns middle : Pairs) (b : Bare) (f : StratFault) → IsTerm s p AnyKind ns middle b
      → FragmentsFault s ps middle f → LeafFault s under_top (Test i) (Pattern p ∷ ps) ns f

-- ---- what has no fault, though something is missing behind it

pub data UsesOpen (s : SettingOf) : List Piece → Pairs → Type 0 where
  no_value_yet : (p : Part) (ns os : Pairs) (v : VarId) → IsTerm s p AnyKind ns os (Var v) → UsesOpen s (Variable p ∷ []) ns
  later_open : (p q : Part) (us : List Piece) (ns middle : Pairs) (a : Assign) → IsUse s p q ns middle a → UsesOpen s us middle
      → UsesOpen s (Variable p ∷ Value q ∷ us) ns

pub data LeafOpen (s : SettingOf) : Piece → List Piece → Pairs → Type 0 where
  values_open : (i : ℕ) (ps : List Piece) (ns : Pairs) → is_label s (word_at s i) ≡ true → UsesOpen s ps ns → LeafOpen s (Label i) ps ns
  call_open : (i : ℕ) (ps : List Piece) (ns : Pairs) → is_declared s (word_at s i) ≡ true → are_closed ps ≡ false → LeafOpen s (Call i) ps ns
  test_open : (i : ℕ) (ns : Pairs) → LeafOpen s (Test i) [] ns

-- ---- the pieces of a strategy

-- words of strategies without strategies in them, and what stands behind these words
abbrev pub is_leaf : Piece → Bool
is_leaf (Plain i) = true
is_leaf (Label i) = true
is_leaf (Call i) = true
is_leaf (Test i) = true
is_leaf _ = false

abbrev pub is_inner : Piece → Bool
is_inner (Variable p) = true
is_inner (Value p) = true
is_inner (Argument p) = true
is_inner Called = true
is_inner (Pattern p) = true
is_inner (Fragment p) = true
is_inner _ = false

abbrev pub inner : List Piece → List Piece
inner [] = []
inner (p ∷ ps) = if is_inner p then p ∷ inner ps else []

abbrev pub behind_inner : List Piece → List Piece
behind_inner [] = []
behind_inner (p ∷ ps) = if is_inner p then behind_inner ps else p ∷ ps

-- the word `top` of a wrapper
abbrev pub opens_top : SettingOf → Piece → Bool
opens_top s (Wrapper i) = is_top (word_at s i)
opens_top s _ = false

-- the first fault of some pieces
pub data FirstFault (s : SettingOf) : Bool → List Piece → Pairs → StratFault → Type 0 where
  at_leaf : (t : Bool) (p : Piece) (ps : List Piece) (ns : Pairs) (f : StratFault) → LeafFault s t p (inner ps) ns f → FirstFault s t (p ∷ ps) ns f
  behind_leaf : (t : Bool) (p : Piece) (ps : List Piece) (ns middle : Pairs) (x : StrategyOf) (f : StratFault) → LeafReads s t p (inner ps) ns middle x
      → FirstFault s false (behind_inner ps) middle f → FirstFault s t (p ∷ ps) ns f
  behind_form : (t : Bool) (p : Piece) (ps : List Piece) (ns : Pairs) (f : StratFault) → is_leaf p ≡ false → is_inner p ≡ false
      → FirstFault s (opens_top s p) ps ns f → FirstFault s t (p ∷ ps) ns f

-- they have none
pub data HasNoFault (s : SettingOf) : Bool → List Piece → Pairs → Type 0 where
  no_pieces : (t : Bool) (ns : Pairs) → HasNoFault s t [] ns
  leaf_reads : (t : Bool) (p : Piece) (ps : List Piece) (ns middle : Pairs) (x : StrategyOf) → LeafReads s t p (inner ps) ns middle x
      → HasNoFault s false (behind_inner ps) middle → HasNoFault s t (p ∷ ps) ns
  leaf_open : (t : Bool) (p : Piece) (ps : List Piece) (ns : Pairs) → LeafOpen s p (inner ps) ns → behind_inner ps ≡ [] → HasNoFault s t (p ∷ ps) ns
  form_there : (t : Bool) (p : Piece) (ps : List Piece) (ns : Pairs) → is_leaf p ≡ false → is_inner p ≡ false → HasNoFault s (opens_top s p) ps ns
      → HasNoFault s t (p ∷ ps) ns
