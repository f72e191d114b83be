-- What a strategy reads as. Its terms are read in the order of the text: ns are the variables before, and os those behind.
use Rattle.std.specs.Prelude.{◌≡◌, ℕ, ◌+◌, ◌-◌, List, [], ◌∷◌, ◌++◌, length, Bool, true, false, Option, Some, None, Ok, codes, slice_get, if◌then◌else◌}
use Rattle.mau_terms.specs.Tree.{Tree}
use Rattle.mau_terms.specs.View.{tree_of}
use Rattle.mau_terms.specs.declared.ids.VarId.{VarId}
use Rattle.mau_terms.specs.declared.bare.Bare.{Bare}
use Rattle.mau_terms.specs.declared.bare.Bare.TheVariants.{Var}
use Rattle.mau_poset.specs.Order.{kind_of}
use Rattle.mau_modtext.specs.declared.raw.RawFragment.{RawFragment}
use Rattle.mau_parse.specs.declared.goals.Goal.{Goal}
use Rattle.mau_parse.specs.declared.goals.Goal.TheVariants.{AnyKind, Kind}
use Rattle.mau_program.specs.declared.strategies.Assign.{Assign}
use Rattle.mau_program.specs.declared.strategies.TestKind.{TestKind}
use Rattle.mau_program.specs.declared.strategies.TestKind.TheVariants.{Match, Xmatch, Amatch}
use Rattle.mau_program.specs.declared.statements.Fragment.{Fragment as FragmentOf}
use Rattle.mau_program.specs.declared.definitions.StratDecl.{StratDecl}
use Rattle.mau_program.specs.Trees.{StrategyOf, idle, fail, every_rule, label, top_only, call, test, star, plus, to_normal, in_turn, either, or_else, branch, negation, attempt, test_of}
use Rattle.mau_statement.specs.Parts.{Pairs, TermReads}
use Rattle.mau_statement.specs.Conditions.{ConditionReads}
use Rattle.mau_shapes.specs.Words.{Word, is}
use Rattle.mau_shapes.specs.Shape.{Shape, plain, assigned, called, wrapped, within, tested, marked, joined, chosen, text}
use Rattle.mau_shapes.specs.Pieces.{use_pieces, term_pieces, such_pieces, part}
use Rattle.mau_shapes.specs.declared.pieces.Part.{Part}
use Rattle.mau_shapes.specs.declared.pieces.Piece.{Piece}
use Rattle.mau_shapes.specs.declared.pieces.Piece.TheVariants.{Plain, Label, Variable, Value, Call, Argument, Called, Test, Pattern, Fragment}
use Rattle.mau_strattext.specs.Setting.{SettingOf, word_at, tokens_of, is_form, is_label, declared}
use Rattle.mau_strattext.specs.Fragments.{cut}

-- ---- terms

-- the part is the term b, of the kinds that are asked for
abbrev pub IsTerm : SettingOf → Part → Goal → Pairs → Pairs → Bare → Type 0
IsTerm s p goal ns os b = TermReads s.words s.context.grammar (tokens_of s p) goal ns os b

-- the kind of a sort
abbrev pub kind_in : SettingOf → ℕ → ℕ
kind_in s sort = kind_of s.context.signature.hierarchy sort

-- X <- t: the part p is a variable X, and q is a term of its kind
pub record IsUse (s : SettingOf) (p q : Part) (ns os : Pairs) (a : Assign) : Type 0 where
  pub variable : VarId
  pub middle : Pairs
  pub is_variable : IsTerm s p AnyKind ns middle (Var variable)
  pub named : slice_get middle variable.index ≡ Some (a.name, a.sort)
  pub value : IsTerm s q (Kind (kind_in s a.sort)) middle os a.value

-- ---- what stands behind the word of a strategy that has no strategies in it, as the pieces of the text

-- X <- t, one after another
pub data UsesRead (s : SettingOf) : List Piece → Pairs → Pairs → List Assign → Type 0 where
  no_uses : (ns : Pairs) → UsesRead s [] ns ns []
  one_use : (p q : Part) (us : List Piece) (ns middle os : Pairs) (a : Assign) (more : List Assign) → IsUse s p q ns middle a
      → UsesRead s us middle os more → UsesRead s (Variable p ∷ Value q ∷ us) ns os (a ∷ more)

-- terms of the kinds of these sorts
pub data ArgumentsRead (s : SettingOf) : List ℕ → List Piece → Pairs → Pairs → List Tree → Type 0 where
  no_arguments : (ns : Pairs) → ArgumentsRead s [] (Called ∷ []) ns ns []
  one_argument : (sort : ℕ) (sorts : List ℕ) (p : Part) (ps : List Piece) (ns middle os : Pairs) (b : Bare) (more : List Tree)
      → IsTerm s p (Kind (kind_in s sort)) ns middle b → ArgumentsRead s sorts ps middle os more
      → ArgumentsRead s (sort ∷ sorts) (Argument p ∷ ps) ns os (tree_of b ∷ more)

-- the fragments of a condition
pub data FragmentsRead (s : SettingOf) : List Piece → Pairs → Pairs → List FragmentOf → Type 0 where
  no_fragments : (ns : Pairs) → FragmentsRead s [] ns ns []
  one_fragment : (p : Part) (ps : List Piece) (raw : RawFragment) (ns middle os : Pairs) (xs more : List FragmentOf) → cut s p ≡ Ok raw
      → ConditionReads s.words s.context ns (raw ∷ []) middle xs → FragmentsRead s ps middle os more
      → FragmentsRead s (Fragment p ∷ ps) ns os (xs ++ more)

-- the words of tests
abbrev pub test_kind : Word → Option TestKind
test_kind w =
    if is w (codes "match") then Some Match else
    (if is w (codes "xmatch") then Some Xmatch else
    (if is w (codes "amatch") then Some Amatch else None))

-- a piece, which is a word, and those behind it. Directly under `top` a name is a label.
pub data LeafReads (s : SettingOf) (under_top : Bool) : Piece → List Piece → Pairs → Pairs → StrategyOf → Type 0 where
  idle_reads : (i : ℕ) (ns : Pairs) → word_at s i ≡ codes "idle" → LeafReads s under_top (Plain i) [] ns ns idle
  fail_reads : (i : ℕ) (ns : Pairs) → word_at s i ≡ codes "fail" → LeafReads s under_top (Plain i) [] ns ns fail
  all_reads : (i : ℕ) (ns : Pairs) → word_at s i ≡ codes "all" → LeafReads s under_top (Plain i) [] ns ns every_rule
  label_reads : (i : ℕ) (ns : Pairs) → is_form (word_at s i) ≡ false → is_label s (word_at s i) ≡ true
      → LeafReads s under_top (Plain i) [] ns ns (label (word_at s i) [])
  name_reads : (i : ℕ) (ns : Pairs) (d : StratDecl) → is_form (word_at s i) ≡ false → under_top ≡ false → declared s (word_at s i) 0 ≡ Some d
      → LeafReads s under_top (Plain i) [] ns ns (call (word_at s i) [])
  assigned_reads : (i : ℕ) (us : List Piece) (ns os : Pairs) (xs : List Assign) → is_label s (word_at s i) ≡ true → UsesRead s us ns os xs
      → LeafReads s under_top (Label i) us ns os (label (word_at s i) xs)
  -- the last piece is the closing bracket, and each of the others an argument
  called_reads : (i : ℕ) (ps : List Piece) (ns os : Pairs) (d : StratDecl) (bs : List Tree) → declared s (word_at s i) (length ps - 1) ≡ Some d
      → ArgumentsRead s d.args ps ns os bs → LeafReads s under_top (Call i) ps ns os (call (word_at s i) bs)
  test_reads : (i : ℕ) (k : TestKind) (p : Part) (ps : List Piece) (ns middle os : Pairs) (b : Bare) (xs : List FragmentOf) → test_kind (word_at s i) ≡ Some k
      → IsTerm s p AnyKind ns middle b → FragmentsRead s ps middle os xs → LeafReads s under_top (Test i) (Pattern p ∷ ps) ns os (test k b xs)

-- ---- words of forms with strategies in them

abbrev pub is_top : Word → Bool
is_top w = is w (codes "top")

-- w(x)
abbrev pub wrapped_by : Word → StrategyOf → Option StrategyOf
wrapped_by w x =
    if is w (codes "top") then Some (top_only x) else
    (if is w (codes "not") then Some (negation x) else
    (if is w (codes "try") then Some (attempt x) else
    (if is w (codes "test") then Some (test_of x) else None)))

-- x w
abbrev pub marked_by : Word → StrategyOf → Option StrategyOf
marked_by w x =
    if is w (codes "*") then Some (star x) else
    (if is w (codes "+") then Some (plus x) else
    (if is w (codes "!") then Some (to_normal x) else None))

-- x w y
abbrev pub joined_by : Word → StrategyOf → StrategyOf → Option StrategyOf
joined_by w x y =
    if is w (codes ";") then Some (in_turn x y) else
    (if is w (codes "|") then Some (either x y) else
    (if is w (codes "or-else") then Some (or_else x y) else None))

-- ---- strategies

-- the shape e, whose text begins at the place i of the strategy, is the strategy x; t: `top` and its bracket stand directly before
abbrev pub ShapeReads : SettingOf → Bool → ℕ → Shape → Pairs → Pairs → StrategyOf → Type 0
ShapeReads s t i (plain w) ns os x = LeafReads s t (Plain i) [] ns os x
ShapeReads s t i (assigned w us) ns os x = LeafReads s t (Label i) (use_pieces (i + 2) us) ns os x
ShapeReads s t i (called w ts) ns os x = LeafReads s t (Call i) (term_pieces (i + 2) ts ++ Called ∷ []) ns os x
ShapeReads s t i (tested w p c) ns os x = LeafReads s t (Test i) (Pattern (part (i + 1) p) ∷ such_pieces (i + 1 + length p) c) ns os x
ShapeReads s t i (within e) ns os x = ShapeReads s t (i + 1) e ns os x
ShapeReads s t i (wrapped w e) ns os x =
    (y : StrategyOf) × ShapeReads s (is_top (word_at s i)) (i + 2) e ns os y × (wrapped_by (word_at s i) y ≡ Some x)
ShapeReads s t i (marked e w) ns os x =
    (y : StrategyOf) × ShapeReads s t i e ns os y × (marked_by (word_at s (i + length (text e))) y ≡ Some x)
ShapeReads s t i (joined w e f) ns os x =
    (y z : StrategyOf) × (middle : Pairs) × ShapeReads s t i e ns middle y
    × ShapeReads s false (i + length (text e) + 1) f middle os z × (joined_by (word_at s (i + length (text e))) y z ≡ Some x)
ShapeReads s t i (chosen e f g) ns os x =
    (a b c : StrategyOf) × (middle last : Pairs) × ShapeReads s t i e ns middle a
    × ShapeReads s false (i + length (text e) + 1) f middle last b
    × ShapeReads s false (i + length (text e) + 1 + length (text f) + 1) g last os c × (x ≡ branch a b c)
