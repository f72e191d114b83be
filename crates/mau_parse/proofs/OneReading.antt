-- Tokens read in one way: as one term, or with one fault.
use Rattle.std.proofs.Common.{◌≡◌, ◌≢◌, ℕ, ◌<◌, ◌⊎◌, inl, inr, List, [], ◌∷◌, Option, Some, None, IsSome, All, refl, sym, ◌∙◌, ap, ap₂, subst, arith}
use Rattle.std.specs.Prelude.{slice_get}
use Rattle.std.proofs.lemmas.Bool.{cases_order, false≢true}
use Rattle.std.proofs.lemmas.Option.{slice_get_within}
use Rattle.mau_terms.specs.Tree.{Tree}
use Rattle.mau_terms.specs.View.{tree_of}
use Rattle.mau_terms.specs.declared.bare.Bare.{Bare}
use Rattle.mau_terms.specs.declared.bare.Bare.TheVariants.{Var, Num, App}
use Rattle.mau_terms.proofs.Pieces.{same_arguments}
use Rattle.mau_tokens.specs.declared.token.Token.{Token}
use Rattle.mau_grammar.specs.declared.production.Part.{Part}
use Rattle.mau_grammar.specs.Production.{IsShaped}
use Rattle.mau_grammar.specs.Grammar.{GrammarOf}
use Rattle.mau_grammar.specs.Leaves.{pairs_of}
use Rattle.mau_grammar.specs.Trees.{Reads, reads_numeral, reads_variable, reads_production, Spells, spells_nothing, spells_word, spells_place}
use Rattle.mau_parse.specs.declared.goals.Goal.{Goal}
use Rattle.mau_parse.specs.declared.fault.ParseFault.{ParseFault}
use Rattle.mau_parse.specs.declared.fault.ParseFault.TheVariants.{NoParse, Ambiguous, TooManyTokens, NumberTooLarge, SuccessorTooLarge, NoMemory}
use Rattle.mau_parse.specs.TooLarge.{IsTooLarge, IsFirstTooLarge, AllSmall}
use Rattle.mau_parse.specs.Goal.{IsTree, IsOnlyTree, AreTwoTrees}
use Rattle.mau_parse.specs.Terms.{added, pairs_in, renamed}
use Rattle.mau_parse.specs.Overflow.{overflows}
use Rattle.mau_parse.specs.Parsed.{IsReadable, BeginsAt, IsParsed, HasLargeNumeral, IsFault, without_trees}
use Rattle.mau_parse.proofs.LeavesListed.{reading_within}
use Rattle.mau_parse.proofs.Singles.{shape_at}

-- ---- terms

-- terms with one tree are one
pub tree_of-injective : (b b' : Bare) → tree_of b ≡ tree_of b' → b ≡ b'
tree_of-injective (Var v) (Var w) e =
    let index : v.index ≡ w.index = cc in
    let sort : v.sort ≡ w.sort = cc in
    ap₂ (λ i s. Var (record { index = i; sort = s })) index sort
tree_of-injective (Var v) (Num n) e = absurd cc
tree_of-injective (Var v) (App g us) e = absurd cc
tree_of-injective (Num m) (Var w) e = absurd cc
tree_of-injective (Num m) (Num n) e = let same : m ≡ n = cc in ap Num same
tree_of-injective (Num m) (App g us) e = absurd cc
tree_of-injective (App f ts) (Var w) e = absurd cc
tree_of-injective (App f ts) (Num n) e = absurd cc
tree_of-injective (App f ts) (App g us) e =
    let same : f.0 ≡ g.0 = cc in
    ap₂ (λ n us. App (record { 0 = n }) us) same (same_arguments f.0 g.0 ts us e)

-- ---- no tokens

module _ (g : GrammarOf) (shaped : All IsShaped g.productions) where
  mutual
    no_reads : (k q i j : ℕ) (ts : List Tree) → Reads g [] k q i j ts → ⊥
    no_reads k q i j ts (reads_numeral h m w e f x) = absurd (omega (arith, slice_get_within [] h w e))
    no_reads k q i j ts (reads_variable h m n r e f) = let b = reading_within g [] h r (m, e) in absurd (omega (arith, b.0, b.1))
    no_reads k q i j ts (reads_production n p {i = a} {j = b} {ts = us} e s) = no_spells p.parts a b us (shape_at g.productions shaped n p e).some s

    no_spells : (ps : List Part) (i j : ℕ) (ts : List Tree) → ps ≢ [] → Spells g [] ps i j ts → ⊥
    no_spells ps i j ts some (spells_nothing h) = some refl
    no_spells ps i j ts some (spells_word w rs h {j = b} {ts = us} e s) = absurd (omega (arith, slice_get_within [] h w e))
    no_spells ps i j ts some (spells_place k u q rs {i = h} {m = m} {j = b} {ts = vs} {us = us} r l s) = no_reads k q h m vs r

  -- they have no tree, where each production has a part
  pub no_tree : (goal : Goal) (t : Tree) → IsTree g [] goal t → ⊥
  no_tree goal t h = no_reads h.kind h.level 0 _ (t ∷ []) h.reads

  pub nothing_reads : (ws : List (List ℕ)) (goal : Goal) (ns os : List (List ℕ × ℕ)) (b : Bare) → ws ≡ [] → IsParsed g ws goal ns os b → ⊥
  nothing_reads ws goal ns os b e x = no_tree goal x.tree (subst (λ ws. IsTree g ws goal x.tree) e x.only.tree)

-- ---- tokens that are a term

module _ (g : GrammarOf) (ts : List Token) (ws : List (List ℕ)) (goal : Goal) (ns : List (List ℕ × ℕ)) where
  tree_once : (t u : Tree) → IsOnlyTree g ws goal t → IsOnlyTree g ws goal u → t ≡ u
  tree_once t u a b = b.only t a.tree

  pub record AreOneTerm (os os' : List (List ℕ × ℕ)) (b b' : Bare) : Type 0 where
    pub pairs : os ≡ os'
    pub tree : tree_of b ≡ tree_of b'
    pub term : b ≡ b'

  pub term_once : (os os' : List (List ℕ × ℕ)) (b b' : Bare) → IsParsed g ws goal ns os b → IsParsed g ws goal ns os' b' → AreOneTerm os os' b b'
  term_once os os' b b' x y =
      let t = tree_once x.tree y.tree x.only y.only in
      let p : os ≡ os' = x.term.vars ∙ ap (λ t. added ns (pairs_in (pairs_of g ws) t)) t ∙ sym y.term.vars in
      let e : tree_of b ≡ tree_of b' = x.term.term ∙ ap₂ (λ os t. renamed (pairs_of g ws) os t) p t ∙ sym y.term.term in
      record { pairs = p; tree = e; term = tree_of-injective b b' e }

  -- ---- faults

  place_once : (i j at at' : ℕ) → i ≡ j → BeginsAt ts i at → BeginsAt ts j at' → at ≡ at'
  place_once i j at at' e x y =
      let o : Some x.0 ≡ Some y.0 = sym x.1 ∙ ap (slice_get ts) e ∙ y.1 in
      let t : x.0 ≡ y.0 = cc in
      x.2 ∙ ap (λ t. t.start) t ∙ sym y.2

  first_once : (i j : ℕ) → IsFirstTooLarge ws i → IsFirstTooLarge ws j → i ≡ j
  first_once i j x y = by (cases_order i j)
    where
      by : (i ≡ j) ⊎ ((i < j) ⊎ (j < i)) → i ≡ j
      by (inl e) = e
      by (inr (inl h)) = absurd (y.1 i h x.0)
      by (inr (inr h)) = absurd (x.1 j h y.0)

  not_large : (o : Option ℕ) (i : ℕ) → IsSome o → AllSmall o ws → IsTooLarge ws i → ⊥
  not_large None i there small large = absurd (false≢true there)
  not_large (Some k) i there small large = small i large

  -- a numeral is too large, and none is
  small_or_large : (i : ℕ) → HasLargeNumeral g ws i → IsReadable g ws → ⊥
  small_or_large i x r = not_large g.numerals i x.numerals r.small x.first.0

  two_or_one : (t u v : Tree) → AreTwoTrees g ws goal t u → IsOnlyTree g ws goal v → ⊥
  two_or_one t u v x o = x.differ (o.only t x.first ∙ sym (o.only u x.second))

  -- a term has no fault
  pub term_no_fault : (os : List (List ℕ × ℕ)) (b : Bare) (f : ParseFault) → IsParsed g ws goal ns os b → IsFault g ts ws goal ns f → f ≢ NoMemory → ⊥
  term_no_fault os b (NoParse at) x y n = y.0.none x.tree x.only.tree
  term_no_fault os b (Ambiguous at c d) x y n = two_or_one y.0.one y.0.other x.tree y.0.trees x.only
  term_no_fault os b (TooManyTokens k) x y n = omega (arith, y.0, y.1, x.readable.few)
  term_no_fault os b (NumberTooLarge at) x y n = small_or_large y.0 y.1 x.readable
  term_no_fault os b (SuccessorTooLarge at) x y n =
      let e = tree_once x.tree y.0.tree x.only y.0.only in
      let o = sym x.small ∙ ap (overflows g.successors) e ∙ y.0.large in absurd cc
  term_no_fault os b NoMemory x y n = n refl

  -- they have one fault, but for the two trees that an ambiguity tells
  pub fault_once : (e f : ParseFault) → IsFault g ts ws goal ns e → IsFault g ts ws goal ns f → e ≢ NoMemory → f ≢ NoMemory → without_trees e ≡ without_trees f
  fault_once (NoParse i) (NoParse j) x y n m = ap NoParse (place_once 0 0 i j refl x.1 y.1)
  fault_once (NoParse i) (Ambiguous j c' d') x y n m = absurd (x.0.none y.0.one y.0.trees.first)
  fault_once (NoParse i) (TooManyTokens j) x y n m = absurd (omega (arith, y.0, y.1, x.0.readable.few))
  fault_once (NoParse i) (NumberTooLarge j) x y n m = absurd (small_or_large y.0 y.1 x.0.readable)
  fault_once (NoParse i) (SuccessorTooLarge j) x y n m = absurd (x.0.none y.0.tree y.0.only.tree)
  fault_once (NoParse i) NoMemory x y n m = absurd (m refl)
  fault_once (Ambiguous i c d) (NoParse j) x y n m = absurd (y.0.none x.0.one x.0.trees.first)
  fault_once (Ambiguous i c d) (Ambiguous j c' d') x y n m = ap (λ at. Ambiguous at (Num 0) (Num 0)) (place_once 0 0 i j refl x.1 y.1)
  fault_once (Ambiguous i c d) (TooManyTokens j) x y n m = absurd (omega (arith, y.0, y.1, x.0.readable.few))
  fault_once (Ambiguous i c d) (NumberTooLarge j) x y n m = absurd (small_or_large y.0 y.1 x.0.readable)
  fault_once (Ambiguous i c d) (SuccessorTooLarge j) x y n m = absurd (two_or_one x.0.one x.0.other y.0.tree x.0.trees y.0.only)
  fault_once (Ambiguous i c d) NoMemory x y n m = absurd (m refl)
  fault_once (TooManyTokens i) (NoParse j) x y n m = absurd (omega (arith, x.0, x.1, y.0.readable.few))
  fault_once (TooManyTokens i) (Ambiguous j c' d') x y n m = absurd (omega (arith, x.0, x.1, y.0.readable.few))
  fault_once (TooManyTokens i) (TooManyTokens j) x y n m = ap TooManyTokens (x.0 ∙ sym y.0)
  fault_once (TooManyTokens i) (NumberTooLarge j) x y n m = absurd (omega (arith, x.0, x.1, y.1.few))
  fault_once (TooManyTokens i) (SuccessorTooLarge j) x y n m = absurd (omega (arith, x.0, x.1, y.0.readable.few))
  fault_once (TooManyTokens i) NoMemory x y n m = absurd (m refl)
  fault_once (NumberTooLarge i) (NoParse j) x y n m = absurd (small_or_large x.0 x.1 y.0.readable)
  fault_once (NumberTooLarge i) (Ambiguous j c' d') x y n m = absurd (small_or_large x.0 x.1 y.0.readable)
  fault_once (NumberTooLarge i) (TooManyTokens j) x y n m = absurd (omega (arith, y.0, y.1, x.1.few))
  fault_once (NumberTooLarge i) (NumberTooLarge j) x y n m = ap NumberTooLarge (place_once x.0 y.0 i j (first_once x.0 y.0 x.1.first y.1.first) x.2 y.2)
  fault_once (NumberTooLarge i) (SuccessorTooLarge j) x y n m = absurd (small_or_large x.0 x.1 y.0.readable)
  fault_once (NumberTooLarge i) NoMemory x y n m = absurd (m refl)
  fault_once (SuccessorTooLarge i) (NoParse j) x y n m = absurd (y.0.none x.0.tree x.0.only.tree)
  fault_once (SuccessorTooLarge i) (Ambiguous j c' d') x y n m = absurd (two_or_one y.0.one y.0.other x.0.tree y.0.trees x.0.only)
  fault_once (SuccessorTooLarge i) (TooManyTokens j) x y n m = absurd (omega (arith, y.0, y.1, x.0.readable.few))
  fault_once (SuccessorTooLarge i) (NumberTooLarge j) x y n m = absurd (small_or_large y.0 y.1 x.0.readable)
  fault_once (SuccessorTooLarge i) (SuccessorTooLarge j) x y n m = ap SuccessorTooLarge (place_once 0 0 i j refl x.1 y.1)
  fault_once (SuccessorTooLarge i) NoMemory x y n m = absurd (m refl)
  fault_once NoMemory (NoParse j) x y n m = absurd (n refl)
  fault_once NoMemory (Ambiguous j c' d') x y n m = absurd (n refl)
  fault_once NoMemory (TooManyTokens j) x y n m = absurd (n refl)
  fault_once NoMemory (NumberTooLarge j) x y n m = absurd (n refl)
  fault_once NoMemory (SuccessorTooLarge j) x y n m = absurd (n refl)
  fault_once NoMemory NoMemory x y n m = absurd (n refl)
