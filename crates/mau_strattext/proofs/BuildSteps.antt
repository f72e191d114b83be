-- Strategies that are built piece after piece.
use Rattle.std.proofs.Common.{◌≡◌, ◌≤◌, ℕ, List, [], ◌∷◌, Bool, true, false, Option, Some, None, Result, Ok, Err, refl, sym, subst, ap, ◌∙◌, length, drop, take, arith}
use Rattle.std.specs.Prelude.{if◌then◌else◌, codes}
use Rattle.std.proofs.lemmas.List.{drop_all}
use Rattle.mau_shapes.specs.Words.{is}
use Rattle.mau_strattext.specs.Lawful.{IsTyped, AreTyped}
use Rattle.mau_program.specs.Trees.{StrategyOf, top_only, negation, attempt, test_of, star, plus, to_normal, in_turn, either, or_else}
use Rattle.mau_signature.specs.Signature.{SignatureOf}
use Rattle.mau_statement.specs.Parts.{Pairs}
use Rattle.mau_shapes.specs.declared.pieces.Piece.{Piece}
use Rattle.mau_strattext.specs.Setting.{SettingOf, word_at}
use Rattle.mau_strattext.specs.Reads.{LeafReads}
use Rattle.mau_strattext.specs.Faults.{is_leaf, is_inner, inner, behind_inner, opens_top, LeafFault, LeafOpen, FirstFault, at_leaf, behind_leaf, behind_form, HasNoFault, no_pieces, leaf_reads, leaf_open, form_there}
use Rattle.mau_strattext.specs.Strategies.{IfTold}
use Rattle.mau_strattext.specs.Building.{Makes, opens, wraps, marks, joins, chooses, Builds, nothing_more, leaf_more, form_more, BuildAnswer, NextAnswer}
use Rattle.mau_strattext.specs.declared.fault.StratFault.{StratFault}
use Rattle.mau_strattext.proofs.Steps.{handed, none}

module _ (s : SettingOf) where
  -- ---- one piece, and then what the rest builds

  pub leaf_step : (t : Bool) (p : Piece) (ps : List Piece) (xs : List StrategyOf) (ns ms os : Pairs) (x : StrategyOf) (r : Result (Option (List StrategyOf)) StratFault)
      → LeafReads s t p (inner ps) ns ms x → BuildAnswer s false (behind_inner ps) (x ∷ xs) ms os r → BuildAnswer s t (p ∷ ps) xs ns os r
  leaf_step t p ps xs ns ms os x (Ok (Some ys)) l h = leaf_more t p ps xs ys ns ms os x l h
  leaf_step t p ps xs ns ms os x (Ok None) l h = leaf_reads t p ps ns ms x l h
  leaf_step t p ps xs ns ms os x (Err f) l h = handed (FirstFault s false (behind_inner ps) ms) (FirstFault s t (p ∷ ps) ns) (λ g k. behind_leaf t p ps ns ms x g l k) f h

  not_leaf : {p : Piece} {xs zs : List StrategyOf} → Makes s p xs zs → is_leaf p ≡ false
  not_leaf (opens i xs) = refl
  not_leaf (wraps i x y xs e) = refl
  not_leaf (marks i x y xs e) = refl
  not_leaf (joins i x y z xs e) = refl
  not_leaf (chooses a b c xs) = refl

  not_inner : {p : Piece} {xs zs : List StrategyOf} → Makes s p xs zs → is_inner p ≡ false
  not_inner (opens i xs) = refl
  not_inner (wraps i x y xs e) = refl
  not_inner (marks i x y xs e) = refl
  not_inner (joins i x y z xs e) = refl
  not_inner (chooses a b c xs) = refl

  pub form_step : (t : Bool) (p : Piece) (ps : List Piece) (xs zs : List StrategyOf) (ns os : Pairs) (r : Result (Option (List StrategyOf)) StratFault)
      → Makes s p xs zs → BuildAnswer s (opens_top s p) ps zs ns os r → BuildAnswer s t (p ∷ ps) xs ns os r
  form_step t p ps xs zs ns os (Ok (Some ys)) m h = form_more t p ps xs zs ys ns os m h
  form_step t p ps xs zs ns os (Ok None) m h = form_there t p ps ns (not_leaf m) (not_inner m) h
  form_step t p ps xs zs ns os (Err f) m h =
      handed (FirstFault s (opens_top s p) ps ns) (FirstFault s t (p ∷ ps) ns) (λ g k. behind_form t p ps ns g (not_leaf m) (not_inner m) k) f h

  -- ---- all pieces

  -- whatever the rest builds, the whole does
  pub record BuildGo (ps : List Piece) (ns : Pairs) (t : Bool) (rest : List Piece) (xs : List StrategyOf) (ms : Pairs) : Type 0 where
    pub goes : (os : Pairs) (r : Result (Option (List StrategyOf)) StratFault) → BuildAnswer s t rest xs ms os r → BuildAnswer s false ps [] ns os r

  pub build_begin : (ps : List Piece) (ns : Pairs) (xs : List StrategyOf) → xs ≡ [] → BuildGo ps ns false ps xs ns
  build_begin ps ns xs e = subst (λ zs. BuildGo ps ns false ps zs ns) (sym e) (record { goes = λ os r h. h })

  pub build_on : (ps : List Piece) (ns : Pairs) (t t' : Bool) (rest rest' more : List Piece) (p : Piece) (xs zs : List StrategyOf) (ms ms' : Pairs) → BuildGo ps ns t rest xs ms
      → rest ≡ p ∷ more
      → ((os : Pairs) (r : Result (Option (List StrategyOf)) StratFault) → BuildAnswer s t' rest' zs ms' os r → BuildAnswer s t (p ∷ more) xs ms os r)
      → BuildGo ps ns t' rest' zs ms'
  build_on ps ns t t' rest rest' more p xs zs ms ms' g e k =
      record { goes = λ os r h. g.goes os r (subst (λ qs. BuildAnswer s t qs xs ms os r) (sym e) (k os r h)) }

  pub build_end : (ps : List Piece) (ns : Pairs) (t : Bool) (rest : List Piece) (xs : List StrategyOf) (ms : Pairs) → BuildGo ps ns t rest xs ms → length rest ≡ 0
      → Builds s false ps [] ns xs ms
  build_end ps ns t rest xs ms g e = g.goes ms (Ok (Some xs)) (subst (λ qs. Builds s t qs xs ms xs ms) (sym (none rest e)) (nothing_more t xs ms))

  pub build_open : (ps : List Piece) (ns : Pairs) (t : Bool) (rest more : List Piece) (p : Piece) (xs : List StrategyOf) (ms os : Pairs) → BuildGo ps ns t rest xs ms
      → rest ≡ p ∷ more → HasNoFault s t (p ∷ more) ms → HasNoFault s false ps ns
  build_open ps ns t rest more p xs ms os g e h = g.goes os (Ok None) (subst (λ qs. HasNoFault s t qs ms) (sym e) h)

  pub build_fault : (ps : List Piece) (ns : Pairs) (t : Bool) (rest more : List Piece) (p : Piece) (xs : List StrategyOf) (ms os : Pairs) (f : StratFault) → BuildGo ps ns t rest xs ms
      → rest ≡ p ∷ more → IfTold (FirstFault s t (p ∷ more) ms) f → IfTold (FirstFault s false ps ns) f
  build_fault ps ns t rest more p xs ms os f g e h = g.goes os (Err f) (subst (λ qs. IfTold (FirstFault s t qs ms) f) (sym e) h)

  -- what builds has no fault
  pub no_fault : {t : Bool} {ps : List Piece} {xs ys : List StrategyOf} {ns os : Pairs} → Builds s t ps xs ns ys os → HasNoFault s t ps ns
  no_fault (nothing_more t xs ns) = no_pieces t ns
  no_fault (leaf_more t p ps xs ys ns ms os x l b) = leaf_reads t p ps ns ms x l (no_fault b)
  no_fault (form_more t p ps xs zs ys ns os m b) = form_there t p ps ns (not_leaf m) (not_inner m) (no_fault b)

  -- ---- what one piece answers

  pub leaf_next : (t : Bool) (p : Piece) (ps : List Piece) (xs zs : List StrategyOf) (ns ms : Pairs) (x : StrategyOf) (n : ℕ) → n ≤ length ps → inner ps ≡ take n ps
      → behind_inner ps ≡ drop n ps → LeafReads s t p (take n ps) ns ms x → zs ≡ x ∷ xs → NextAnswer s t p ps xs ns zs ms (Ok (Some (n, false)))
  leaf_next t p ps xs zs ns ms x n le e h l z = (
    le,
    λ os r b. leaf_step t p ps xs ns ms os x r (subst (λ us. LeafReads s t p us ns ms x) (sym e) l)
        (subst (λ qs. BuildAnswer s false qs (x ∷ xs) ms os r) (sym h) (subst (λ ws. BuildAnswer s false (drop n ps) ws ms os r) z b)),
  )

  pub open_next : (t : Bool) (p : Piece) (ps : List Piece) (ns : Pairs) (n : ℕ) → inner ps ≡ take n ps → behind_inner ps ≡ drop n ps → n ≡ length ps
      → LeafOpen s p (take n ps) ns → HasNoFault s t (p ∷ ps) ns
  open_next t p ps ns n e h k l = leaf_open t p ps ns (subst (λ us. LeafOpen s p us ns) (sym e) l) (h ∙ ap (λ m. drop m ps) k ∙ drop_all (length ps) ps (omega arith))

  pub fault_next : (t : Bool) (p : Piece) (ps : List Piece) (ns : Pairs) (n : ℕ) (f : StratFault) → inner ps ≡ take n ps → IfTold (LeafFault s t p (take n ps) ns) f
      → IfTold (FirstFault s t (p ∷ ps) ns) f
  fault_next t p ps ns n f e l =
      handed (LeafFault s t p (take n ps) ns) (FirstFault s t (p ∷ ps) ns) (λ g k. at_leaf t p ps ns g (subst (λ us. LeafFault s t p us ns g) (sym e) k)) f l

  pub form_next : (t b : Bool) (p : Piece) (ps : List Piece) (xs zs : List StrategyOf) (ns : Pairs) → Makes s p xs zs → b ≡ opens_top s p
      → NextAnswer s t p ps xs ns zs ns (Ok (Some (0, b)))
  form_next t b p ps xs zs ns m e = (omega arith, λ os r h. form_step t p ps xs zs ns os r m (subst (λ c. BuildAnswer s c ps zs ns os r) e h))

-- ---- the terms

module _ (g : SignatureOf) where
  some_typed : {x y : StrategyOf} → Some x ≡ Some y → IsTyped g x → IsTyped g y
  some_typed {x} {y} e t = let same : x ≡ y = cc e in subst (IsTyped g) same t

  none_typed : {y : StrategyOf} → None ≡ Some y → IsTyped g y
  none_typed e = absurd (cc e)

  wrapped_typed : (a b c d : Bool) (x y : StrategyOf)
      → (if a then Some (top_only x) else (if b then Some (negation x) else (if c then Some (attempt x) else (if d then Some (test_of x) else None)))) ≡ Some y → IsTyped g x → IsTyped g y
  wrapped_typed true b c d x y e t = some_typed e t
  wrapped_typed false true c d x y e t = some_typed e t
  wrapped_typed false false true d x y e t = some_typed e t
  wrapped_typed false false false true x y e t = some_typed e t
  wrapped_typed false false false false x y e t = none_typed e

  marked_typed : (a b c : Bool) (x y : StrategyOf) → (if a then Some (star x) else (if b then Some (plus x) else (if c then Some (to_normal x) else None))) ≡ Some y → IsTyped g x → IsTyped g y
  marked_typed true b c x y e t = some_typed e t
  marked_typed false true c x y e t = some_typed e t
  marked_typed false false true x y e t = some_typed e t
  marked_typed false false false x y e t = none_typed e

  joined_typed : (a b c : Bool) (x z y : StrategyOf) → (if a then Some (in_turn x z) else (if b then Some (either x z) else (if c then Some (or_else x z) else None))) ≡ Some y
      → IsTyped g x → IsTyped g z → IsTyped g y
  joined_typed true b c x z y e t u = some_typed e (t, u)
  joined_typed false true c x z y e t u = some_typed e (t, u)
  joined_typed false false true x z y e t u = some_typed e (t, u)
  joined_typed false false false x z y e t u = none_typed e

  pub makes_typed : (s : SettingOf) {p : Piece} {xs zs : List StrategyOf} → Makes s p xs zs → AreTyped g xs → AreTyped g zs
  makes_typed s (opens i xs) t = t
  makes_typed s (wraps i x y xs e) t =
      let w = word_at s i in (wrapped_typed (is w (codes "top")) (is w (codes "not")) (is w (codes "try")) (is w (codes "test")) x y e t.0, t.1)
  makes_typed s (marks i x y xs e) t = let w = word_at s i in (marked_typed (is w (codes "*")) (is w (codes "+")) (is w (codes "!")) x y e t.0, t.1)
  makes_typed s (joins i x y z xs e) t = let w = word_at s i in (joined_typed (is w (codes ";")) (is w (codes "|")) (is w (codes "or-else")) x y z e t.1.0 t.0, t.1.1)
  makes_typed s (chooses a b c xs) t = ((t.1.1.0, t.1.0, t.0), t.1.1.1)

  pub pushed_typed : (x : StrategyOf) (xs zs : List StrategyOf) → zs ≡ x ∷ xs → IsTyped g x → AreTyped g xs → AreTyped g zs
  pushed_typed x xs zs e t u = subst (AreTyped g) (sym e) (t, u)
