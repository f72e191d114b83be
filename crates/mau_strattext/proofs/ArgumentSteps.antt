-- Arguments that are read one after another.
use Rattle.std.proofs.Common.{◌≡◌, ℕ, List, [], ◌∷◌, ◌++◌, Result, Ok, Err, refl, sym, subst, ap, ◌∙◌, append_assoc, length, map}
use Rattle.std.proofs.lemmas.List.{append-nil}
use Rattle.mau_terms.specs.Tree.{Tree}
use Rattle.mau_terms.specs.View.{tree_of}
use Rattle.mau_terms.specs.declared.bare.Bare.{Bare}
use Rattle.mau_parse.specs.declared.goals.Goal.TheVariants.{Kind}
use Rattle.mau_statement.specs.Parts.{Pairs}
use Rattle.mau_shapes.specs.declared.pieces.Part.{Part}
use Rattle.mau_shapes.specs.declared.pieces.Piece.{Piece}
use Rattle.mau_shapes.specs.declared.pieces.Piece.TheVariants.{Argument, Called}
use Rattle.mau_strattext.specs.Setting.{SettingOf}
use Rattle.mau_strattext.specs.Reads.{IsTerm, kind_in, ArgumentsRead, no_arguments, one_argument}
use Rattle.mau_strattext.specs.Faults.{ArgumentsFault, no_argument, later_argument}
use Rattle.mau_strattext.specs.Strategies.{IfTold}
use Rattle.mau_strattext.specs.Terms.{IsTermFault}
use Rattle.mau_strattext.specs.Building.{ArgumentsAnswer}
use Rattle.mau_strattext.specs.declared.fault.StratFault.{StratFault}
use Rattle.mau_strattext.proofs.Steps.{handed, none}

-- an answer, behind these
abbrev pub after_args : List Tree → Result (List Tree) StratFault → Result (List Tree) StratFault
after_args ts (Ok us) = Ok (ts ++ us)
after_args ts (Err f) = Err f

none_before : (r : Result (List Tree) StratFault) → after_args [] r ≡ r
none_before (Ok us) = refl
none_before (Err f) = refl

args_behind : (ts : List Tree) (t : Tree) (r : Result (List Tree) StratFault) → after_args ts (after_args (t ∷ []) r) ≡ after_args (ts ++ t ∷ []) r
args_behind ts t (Ok us) = ap (λ zs. Ok zs) (sym (append_assoc ts (t ∷ []) us))
args_behind ts t (Err f) = refl

trees_append : (xs ys : List Bare) → map tree_of (xs ++ ys) ≡ map tree_of xs ++ map tree_of ys
trees_append [] ys = refl
trees_append (x ∷ xs) ys = ap (λ zs. tree_of x ∷ zs) (trees_append xs ys)

-- a piece that is an argument
pub record IsArgument (s : SettingOf) (sort : ℕ) (piece : Piece) (ns os : Pairs) (b : Bare) : Type 0 where
  pub part : Part
  pub is : piece ≡ Argument part
  pub term : IsTerm s part (Kind (kind_in s sort)) ns os b

pub argument_fault : (s : SettingOf) (sort : ℕ) (piece : Piece) (p : Part) (ns : Pairs) (f : StratFault) → piece ≡ Argument p → IsTermFault s p (Kind (kind_in s sort)) ns f
    → (sorts : List ℕ) (ps : List Piece) → ArgumentsFault s (sort ∷ sorts) (piece ∷ ps) ns f
argument_fault s sort piece p ns f e u sorts ps =
    subst (λ z. ArgumentsFault s (sort ∷ sorts) (z ∷ ps) ns f) (sym e)
    (subst (ArgumentsFault s (sort ∷ sorts) (Argument p ∷ ps) ns) (sym u.told) (no_argument sort sorts p ps ns u.why u.unread))

module _ (s : SettingOf) where
  arg_more : (sort : ℕ) (others : List ℕ) (p : Part) (more : List Piece) (ns ms os : Pairs) (b : Bare) (r : Result (List Tree) StratFault)
      → IsTerm s p (Kind (kind_in s sort)) ns ms b → ArgumentsAnswer s others more ms os r
      → ArgumentsAnswer s (sort ∷ others) (Argument p ∷ more) ns os (after_args (tree_of b ∷ []) r)
  arg_more sort others p more ns ms os b (Ok us) t h = one_argument sort others p more ns ms os b us t h
  arg_more sort others p more ns ms os b (Err f) t h =
      handed (ArgumentsFault s others more ms) (ArgumentsFault s (sort ∷ others) (Argument p ∷ more) ns) (λ g k. later_argument sort others p more ns ms b g t k) f h

  -- whatever the rest reads as, the whole does behind those read so far
  pub record ArgumentsGo (sorts : List ℕ) (ps : List Piece) (ns : Pairs) (left : List ℕ) (rest : List Piece) (ms : Pairs) (xs : List Bare) : Type 0 where
    pub goes : (os : Pairs) (r : Result (List Tree) StratFault) → ArgumentsAnswer s left rest ms os r → ArgumentsAnswer s sorts ps ns os (after_args (map tree_of xs) r)

  pub args_begin : (sorts : List ℕ) (ps : List Piece) (ns : Pairs) (xs : List Bare) → xs ≡ [] → ArgumentsGo sorts ps ns sorts ps ns xs
  args_begin sorts ps ns xs e = subst (ArgumentsGo sorts ps ns sorts ps ns) (sym e) (record { goes = λ os r h. subst (ArgumentsAnswer s sorts ps ns os) (sym (none_before r)) h })

  pub args_go_on : (sorts : List ℕ) (ps : List Piece) (ns : Pairs) (left others : List ℕ) (rest more : List Piece) (sort : ℕ) (piece : Piece) (ms ms' : Pairs) (xs xs' : List Bare) (b : Bare)
      (p : Part) → ArgumentsGo sorts ps ns left rest ms xs → left ≡ sort ∷ others → rest ≡ piece ∷ more → xs' ≡ xs ++ b ∷ [] → piece ≡ Argument p
      → IsTerm s p (Kind (kind_in s sort)) ms ms' b → ArgumentsGo sorts ps ns others more ms' xs'
  args_go_on sorts ps ns left others rest more sort piece ms ms' xs xs' b p g e h k a t =
      subst (ArgumentsGo sorts ps ns others more ms') (sym k) (record {
        goes = λ os r w.
            subst (λ ts. ArgumentsAnswer s sorts ps ns os (after_args ts r)) (sym (trees_append xs (b ∷ [])))
            (subst (ArgumentsAnswer s sorts ps ns os) (args_behind (map tree_of xs) (tree_of b) r)
            (g.goes os (after_args (tree_of b ∷ []) r) (subst (λ zs. ArgumentsAnswer s zs rest ms os (after_args (tree_of b ∷ []) r)) (sym e)
            (subst (λ zs. ArgumentsAnswer s (sort ∷ others) zs ms os (after_args (tree_of b ∷ []) r)) (sym (h ∙ ap (λ z. z ∷ more) a))
            (arg_more sort others p more ms ms' os b r t w)))));
      })

  pub args_end : (sorts : List ℕ) (ps : List Piece) (ns : Pairs) (left : List ℕ) (rest : List Piece) (ms : Pairs) (xs : List Bare) (ts : List Tree)
      → ArgumentsGo sorts ps ns left rest ms xs → length left ≡ 0 → rest ≡ Called ∷ [] → ts ≡ map tree_of xs → ArgumentsRead s sorts ps ns ms ts
  args_end sorts ps ns left rest ms xs ts g e h k =
      subst (ArgumentsRead s sorts ps ns ms) (append-nil (map tree_of xs) ∙ sym k)
      (g.goes ms (Ok []) (subst (λ zs. ArgumentsRead s zs rest ms ms []) (sym (none left e)) (subst (λ zs. ArgumentsRead s [] zs ms ms []) (sym h) (no_arguments ms))))

  pub args_fault : (sorts : List ℕ) (ps : List Piece) (ns : Pairs) (left others : List ℕ) (rest more : List Piece) (sort : ℕ) (piece : Piece) (ms os : Pairs) (xs : List Bare)
      (f : StratFault) → ArgumentsGo sorts ps ns left rest ms xs → left ≡ sort ∷ others → rest ≡ piece ∷ more
      → IfTold (λ f. (sorts : List ℕ) (ps : List Piece) → ArgumentsFault s (sort ∷ sorts) (piece ∷ ps) ms f) f → IfTold (ArgumentsFault s sorts ps ns) f
  args_fault sorts ps ns left others rest more sort piece ms os xs f g e h u =
      g.goes os (Err f) (subst (λ zs. IfTold (ArgumentsFault s zs rest ms) f) (sym e) (subst (λ zs. IfTold (ArgumentsFault s (sort ∷ others) zs ms) f) (sym h)
      (handed (λ f. (sorts : List ℕ) (ps : List Piece) → ArgumentsFault s (sort ∷ sorts) (piece ∷ ps) ms f) (ArgumentsFault s (sort ∷ others) (piece ∷ more) ms)
      (λ f k. k others more) f u)))
