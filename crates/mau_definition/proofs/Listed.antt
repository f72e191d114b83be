-- The variables of what is read are among those behind it, and those before it stay.
use Rattle.std.proofs.Common.{◌≡◌, ℕ, ◌+◌, List, [], ◌∷◌, ◌++◌, Bool, true, false, Option, Some, None, All, Ok, Err, length, refl, sym, subst, ap}
use Rattle.std.specs.Prelude.{if◌then◌else◌, codes}
use Rattle.std.proofs.lemmas.List.Elements.{All-nil, All-cons}
use Rattle.mau_terms.specs.Tree.{Tree}
use Rattle.mau_terms.specs.View.{tree_of}
use Rattle.mau_parse.specs.Terms.{AreGiven}
use Rattle.mau_program.specs.declared.strategies.Assign.{Assign}
use Rattle.mau_program.specs.declared.statements.Fragment.{Fragment}
use Rattle.mau_program.specs.Trees.{StrategyOf, idle, fail, every_rule, label, top_only, call, test, star, plus, to_normal, in_turn, either, or_else, branch, negation, attempt, test_of, part_rewrite, label_by}
use Rattle.mau_statement.specs.Parts.{Pairs, part_texts}
use Rattle.mau_statement.proofs.Own.{Extends, given_more, parsed_extends, parsed_given, condition_given}
use Rattle.mau_shapes.specs.Words.{Word, is}
use Rattle.mau_shapes.specs.Shape.{Shape, plain, assigned, called, wrapped, within, tested, marked, joined, chosen, text}
use Rattle.mau_shapes.specs.Pieces.{term_pieces, use_pieces, such_pieces, part}
use Rattle.mau_shapes.specs.declared.pieces.Part.{Part}
use Rattle.mau_shapes.specs.declared.pieces.Piece.{Piece}
use Rattle.mau_strattext.specs.Setting.{SettingOf, tokens_of, word_at}
use Rattle.mau_strattext.specs.Reads.{IsTerm, UsesRead, no_uses, one_use, ArgumentsRead, no_arguments, one_argument, FragmentsRead, no_fragments, one_fragment, LeafReads, idle_reads, fail_reads, all_reads, label_reads, name_reads, assigned_reads, called_reads, test_reads, ShapeReads, is_top, wrapped_by, marked_by, joined_by}
use Rattle.mau_strattext.specs.Strategies.{StrategyRead, reads}
use Rattle.mau_parse.specs.declared.goals.Goal.{Goal}
use Rattle.mau_terms.specs.declared.bare.Bare.{Bare}

pub same_extends : (ns : Pairs) → Extends ns ns
same_extends ns = λ k v e. e

pub both_extend : (ns ms os : Pairs) → Extends ns ms → Extends ms os → Extends ns os
both_extend ns ms os x y = λ k v e. y k v (x k v e)

-- P holds of the arguments of a strategy that is a call
abbrev pub IfCall : (List Tree → Type 0) → StrategyOf → Type 0
IfCall P (call f ts) = P ts
IfCall P _ = Unit {0}

abbrev pub Given : Pairs → StrategyOf → Type 0
Given os x = IfCall (All (AreGiven os)) x

module _ (s : SettingOf) where
  term_extends : (p : Part) (goal : Goal) (ns os : Pairs) (b : Bare) → IsTerm s p goal ns os b → Extends ns os
  term_extends p goal ns os b t = parsed_extends s.context.grammar (part_texts s.words (tokens_of s p)) goal ns os b t

  term_given : (p : Part) (goal : Goal) (ns os : Pairs) (b : Bare) → IsTerm s p goal ns os b → AreGiven os (tree_of b)
  term_given p goal ns os b t = parsed_given s.context.grammar (part_texts s.words (tokens_of s p)) goal ns os b t

  uses_extend : {ps : List Piece} {ns os : Pairs} {xs : List Assign} → UsesRead s ps ns os xs → Extends ns os
  uses_extend (no_uses ns) = same_extends ns
  uses_extend (one_use p q us ns m os a more u r) =
      both_extend ns m os (both_extend ns u.middle m (term_extends p _ ns u.middle _ u.is_variable) (term_extends q _ u.middle m a.value u.value)) (uses_extend r)

  -- arguments stay given
  arguments_more : (ms os : Pairs) → Extends ms os → (ts : List Tree) → All (AreGiven ms) ts → All (AreGiven os) ts
  arguments_more ms os x ts a = λ i d l. given_more ms os x _ (a i d l)

  record AreGivenBehind (ns os : Pairs) (ts : List Tree) : Type 0 where
    extends : Extends ns os
    given : All (AreGiven os) ts

  arguments_given : {sorts : List ℕ} {ps : List Piece} {ns os : Pairs} {ts : List Tree} → ArgumentsRead s sorts ps ns os ts → AreGivenBehind ns os ts
  arguments_given (no_arguments ns) = record { extends = same_extends ns; given = All-nil (AreGiven ns) }
  arguments_given (one_argument k ks p ps ns m os b more t r) =
      let rest = arguments_given r in
      record {
        extends = both_extend ns m os (term_extends p _ ns m b t) rest.extends;
        given = All-cons (AreGiven os) (tree_of b) more (given_more m os rest.extends (tree_of b) (term_given p _ ns m b t)) rest.given;
      }

  fragments_extend : {ps : List Piece} {ns os : Pairs} {xs : List Fragment} → FragmentsRead s ps ns os xs → Extends ns os
  fragments_extend (no_fragments ns) = same_extends ns
  fragments_extend (one_fragment p ps raw ns m os xs more e c r) =
      both_extend ns m os (condition_given s.words s.context ns (raw ∷ []) m xs c).extends (fragments_extend r)

  pub record IsGivenBehind (ns os : Pairs) (x : StrategyOf) : Type 0 where
    pub extends : Extends ns os
    pub given : Given os x

  leaf_given : {t : Bool} {p : Piece} {ps : List Piece} {ns os : Pairs} {x : StrategyOf} → LeafReads s t p ps ns os x → IsGivenBehind ns os x
  leaf_given (idle_reads i ns e) = record { extends = same_extends ns; given = tt }
  leaf_given (fail_reads i ns e) = record { extends = same_extends ns; given = tt }
  leaf_given (all_reads i ns e) = record { extends = same_extends ns; given = tt }
  leaf_given (label_reads i ns e l) = record { extends = same_extends ns; given = tt }
  leaf_given (name_reads i ns d e t f) = record { extends = same_extends ns; given = All-nil (AreGiven ns) }
  leaf_given (assigned_reads i us ns os xs l u) = record { extends = uses_extend u; given = tt }
  leaf_given (called_reads i ps ns os d bs e u) = let a = arguments_given u in record { extends = a.extends; given = a.given }
  leaf_given (test_reads i k p ps ns m os b xs e u v) = record { extends = both_extend ns m os (term_extends p _ ns m b u) (fragments_extend v); given = tt }

  -- ---- what is made of strategies is no call

  abbrev NoCall : (os : Pairs) → Option StrategyOf → StrategyOf → Type 0
  NoCall os o x = o ≡ Some x → Given os x

  some_given : (os : Pairs) (y x : StrategyOf) → Given os y → Some y ≡ Some x → Given os x
  some_given os y x g e = let same : y ≡ x = cc in subst (Given os) same g

  wrapped_given : (os : Pairs) (w : Word) (y x : StrategyOf) → wrapped_by w y ≡ Some x → Given os x
  wrapped_given os w y x = by (is w (codes "top")) (is w (codes "not")) (is w (codes "try")) (is w (codes "test"))
    where
      by : (a b c d : Bool) → (if a then Some (top_only y) else (if b then Some (negation y) else (if c then Some (attempt y) else (if d then Some (test_of y) else None)))) ≡ Some x → Given os x
      by true b c d e = some_given os (top_only y) x tt e
      by false true c d e = some_given os (negation y) x tt e
      by false false true d e = some_given os (attempt y) x tt e
      by false false false true e = some_given os (test_of y) x tt e
      by false false false false e = absurd cc

  marked_given : (os : Pairs) (w : Word) (y x : StrategyOf) → marked_by w y ≡ Some x → Given os x
  marked_given os w y x = by (is w (codes "*")) (is w (codes "+")) (is w (codes "!"))
    where
      by : (a b c : Bool) → (if a then Some (star y) else (if b then Some (plus y) else (if c then Some (to_normal y) else None))) ≡ Some x → Given os x
      by true b c e = some_given os (star y) x tt e
      by false true c e = some_given os (plus y) x tt e
      by false false true e = some_given os (to_normal y) x tt e
      by false false false e = absurd cc

  joined_given : (os : Pairs) (w : Word) (y z x : StrategyOf) → joined_by w y z ≡ Some x → Given os x
  joined_given os w y z x = by (is w (codes ";")) (is w (codes "|")) (is w (codes "or-else"))
    where
      by : (a b c : Bool) → (if a then Some (in_turn y z) else (if b then Some (either y z) else (if c then Some (or_else y z) else None))) ≡ Some x → Given os x
      by true b c e = some_given os (in_turn y z) x tt e
      by false true c e = some_given os (either y z) x tt e
      by false false true e = some_given os (or_else y z) x tt e
      by false false false e = absurd cc

  shape_given : (e : Shape) (t : Bool) (i : ℕ) (ns os : Pairs) (x : StrategyOf) → ShapeReads s t i e ns os x → IsGivenBehind ns os x
  shape_given (plain w) t i ns os x r = leaf_given r
  shape_given (assigned w us) t i ns os x r = leaf_given r
  shape_given (called w ts) t i ns os x r = leaf_given r
  shape_given (tested w p c) t i ns os x r = leaf_given r
  shape_given (within e) t i ns os x r = shape_given e t (i + 1) ns os x r
  shape_given (wrapped w e) t i ns os x r =
      record { extends = (shape_given e (is_top (word_at s i)) (i + 2) ns os r.0 r.1).extends; given = wrapped_given os (word_at s i) r.0 x r.2 }
  shape_given (marked e w) t i ns os x r =
      record { extends = (shape_given e t i ns os r.0 r.1).extends; given = marked_given os (word_at s (i + length (text e))) r.0 x r.2 }
  shape_given (joined w e f) t i ns os x r =
      let j = i + length (text e) in
      record {
        extends = both_extend ns r.2 os (shape_given e t i ns r.2 r.0 r.3).extends (shape_given f false (j + 1) r.2 os r.1 r.4).extends;
        given = joined_given os (word_at s j) r.0 r.1 x r.5;
      }
  shape_given (chosen e f g) t i ns os x r =
      let j = i + length (text e) + 1 in
      record {
        extends = both_extend ns r.3 os (shape_given e t i ns r.3 r.0 r.5).extends
            (both_extend r.3 r.4 os (shape_given f false j r.3 r.4 r.1 r.6).extends (shape_given g false (j + length (text f) + 1) r.4 os r.2 r.7).extends);
        given = subst (Given os) (sym r.8) tt;
      }

  pub strategy_given : (ns os : Pairs) (x : StrategyOf) → StrategyRead s ns os (Ok x) → IsGivenBehind ns os x
  strategy_given ns os x (reads e x' l w r) = shape_given e false 0 ns os x r
