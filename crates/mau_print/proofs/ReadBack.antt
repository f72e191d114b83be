-- What is printed of a normal form reads as each term that has it.
use Rattle.std.proofs.Common.{◌≡◌, ℕ, zero, suc, ◌+◌, List, [], ◌∷◌, ◌++◌, Bool, true, false, cond, not, Some, length, slice_get, refl, sym, ap, ap₂, ◌∙◌, subst, arith}
use Rattle.std.specs.List.{list_any}
use Rattle.std.proofs.lemmas.List.{append-nil}
use Rattle.std.proofs.lemmas.Option.{get_or_from_slice_get, same_Some, none-some}
use Rattle.mau_terms.specs.Tree.{Tree, variable, numeral, apply, Trees, no_trees, tree}
use Rattle.mau_terms.specs.Norm.{norm}
use Rattle.mau_terms.specs.Reading.{reading}
use Rattle.mau_terms.specs.Bare.{IsBareIn, EqualModulo}
use Rattle.mau_terms.specs.Vars.{same_pair, place_of, AreDistinct}
use Rattle.mau_terms.proofs.Pairs.{same_pair-is, same_pair_itself}
use Rattle.mau_terms.proofs.Chains.{chain_end}
use Rattle.mau_terms.proofs.Readings.{lead_norm}
use Rattle.mau_terms.proofs.Law.{equal_reading}
use Rattle.mau_terms.proofs.Normal.{IsNormal, norm_normal}
use Rattle.mau_signature.specs.Signature.{SignatureOf, theory_at, terms_over}
use Rattle.mau_grammar.specs.declared.aliases.Alias.{Alias}
use Rattle.mau_grammar.specs.Leaves.{pairs_of}
use Rattle.mau_grammar.specs.Trees.{Reads, TreeOf}
use Rattle.mau_parse.specs.Words.{texts_of}
use Rattle.mau_parse.specs.Terms.{AreGiven, AllGiven, pair_at, pairs_in, all_pairs, added, renamed, all_renamed}
use Rattle.mau_parse.proofs.LeavesListed.{any_there}
use Rattle.mau_parse.proofs.TreesGiven.{tree_given}
use Rattle.mau_print.specs.Printed.{Pairs, shown}
use Rattle.mau_print.specs.Words.{Window}
use Rattle.mau_print.specs.Worded.{Source, printer_for, worded}
use Rattle.mau_print.specs.Readable.{HaveNames, IsWritable, ReadsAs}
use Rattle.mau_print.specs.Laws.{TextsAreWords, TextsReadBack}
use Rattle.mau_print.proofs.Small.{normal_small, given_read}
use Rattle.mau_print.proofs.TextWords.{term_as}
use Rattle.mau_print.proofs.Cut.{cut_from}
use Rattle.mau_print.proofs.TermsRead.{term_read}

-- ---- places of pairs, there and back

-- what stands at the place of a pair is this pair
place_hit : (xs : Pairs) (y z : List ℕ × ℕ) → slice_get xs (place_of xs y) ≡ Some z → z ≡ y
place_hit [] y z e = absurd (none-some z e)
place_hit (x ∷ xs) y z e = by (same_pair y x) refl e (place_hit xs y z)
  where
    by : (b : Bool) → same_pair y x ≡ b → slice_get (x ∷ xs) (cond (not b) (1 + place_of xs y) 0) ≡ Some z → (slice_get xs (place_of xs y) ≡ Some z → z ≡ y) → z ≡ y
    by true q e ih = sym (same_Some x z e) ∙ sym (same_pair-is y x q)
    by false q e ih = let next : 1 + place_of xs y ≡ suc (place_of xs y) = omega arith in ih (sym (ap (slice_get (x ∷ xs)) next) ∙ e)

-- the place of a pair that is there once
place_own : (xs : Pairs) (i : ℕ) (y : List ℕ × ℕ) → AreDistinct xs → slice_get xs i ≡ Some y → place_of xs y ≡ i
place_own [] i y d e = absurd (none-some y e)
place_own (x ∷ xs) zero y d e = ap (λ b. cond (not b) (1 + place_of xs y) 0) (subst (λ z. same_pair y z ≡ true) (sym (same_Some x y e)) (same_pair_itself y))
place_own (x ∷ xs) (suc i) y d e = by (same_pair y x) refl (place_own xs i y d.1 e)
  where
    by : (b : Bool) → same_pair y x ≡ b → place_of xs y ≡ i → cond (not b) (1 + place_of xs y) 0 ≡ suc i
    by true q ih =
        let other : same_pair x y ≡ false = any_there (same_pair x) xs i y d.0 e in
        let one : same_pair x y ≡ true = subst (λ z. same_pair x z ≡ true) (sym (same_pair-is y x q)) (same_pair_itself x) in
        absurd (cc)
    by false q ih = omega (arith, ih)

module _ (ns ps : Pairs) (once : AreDistinct ns) where
  mutual
    back : (t : Tree) → AreGiven ns t → AreGiven ps (renamed ns ps t) → renamed ps ns (renamed ns ps t) ≡ t
    back (variable i s) g h =
        let y = pair_at ns i in
        let own : y ≡ (g.0, s) = get_or_from_slice_get ns i (g.0, s) ([], 0) g.1 in
        let there : pair_at ps (place_of ps y) ≡ y = get_or_from_slice_get ps (place_of ps y) (h.0, s) ([], 0) h.1 ∙ place_hit ps y (h.0, s) h.1 in
        let place : place_of ns y ≡ i = place_own ns i y once (g.1 ∙ ap Some (sym own)) in
        ap (λ n. variable n s) (ap (place_of ns) there ∙ place)
    back (numeral n) g h = refl
    back (apply f ts) g h = ap (apply f) (all_back ts g h)

    all_back : (ts : Trees) → AllGiven ns ts → AllGiven ps (all_renamed ns ps ts) → all_renamed ps ns (all_renamed ns ps ts) ≡ ts
    all_back no_trees g h = refl
    all_back (tree t ts) g h = ap₂ tree (back t g.0 h.0) (all_back ts g.1 h.1)

-- ---- no other pairs

-- each of these pairs is one of ns
abbrev AreThere : Pairs → Pairs → Type 0
AreThere ns [] = Unit {0}
AreThere ns (y ∷ ys) = (list_any (same_pair y) ns ≡ true) × AreThere ns ys

there_append : (ns ys zs : Pairs) → AreThere ns ys → AreThere ns zs → AreThere ns (ys ++ zs)
there_append ns [] zs a b = b
there_append ns (y ∷ ys) zs a b = (a.0, there_append ns ys zs a.1 b)

pair_there : (ns : Pairs) (i : ℕ) (y : List ℕ × ℕ) → slice_get ns i ≡ Some y → list_any (same_pair y) ns ≡ true
pair_there ns i y e = by (list_any (same_pair y) ns) refl
  where
    by : (b : Bool) → list_any (same_pair y) ns ≡ b → b ≡ true
    by true q = refl
    by false q = let none = any_there (same_pair y) ns i y q e in let own = same_pair_itself y in absurd (cc)

added_none : (ns ys : Pairs) → AreThere ns ys → added ns ys ≡ ns
added_none ns [] a = refl
added_none ns (y ∷ ys) a = ap (λ b. added (cond b ns (ns ++ y ∷ [])) ys) a.0 ∙ added_none ns ys a.1

module _ (ns ps : Pairs) where
  mutual
    pairs_there : (t : Tree) → AreGiven ns t → AreGiven ps (renamed ns ps t) → AreThere ns (pairs_in ps (renamed ns ps t))
    pairs_there (variable i s) g h =
        let y = pair_at ns i in
        let own : y ≡ (g.0, s) = get_or_from_slice_get ns i (g.0, s) ([], 0) g.1 in
        let there : pair_at ps (place_of ps y) ≡ y = get_or_from_slice_get ps (place_of ps y) (h.0, s) ([], 0) h.1 ∙ place_hit ps y (h.0, s) h.1 in
        (subst (λ z. list_any (same_pair z) ns ≡ true) (sym there) (pair_there ns i y (g.1 ∙ ap Some (sym own))), tt)
    pairs_there (numeral n) g h = tt
    pairs_there (apply f ts) g h = all_pairs_there ts g h

    all_pairs_there : (ts : Trees) → AllGiven ns ts → AllGiven ps (all_renamed ns ps ts) → AreThere ns (all_pairs ps (all_renamed ns ps ts))
    all_pairs_there no_trees g h = tt
    all_pairs_there (tree t ts) g h = there_append ns (pairs_in ps (renamed ns ps t)) (all_pairs ps (all_renamed ns ps ts)) (pairs_there t g.0 h.0) (all_pairs_there ts g.1 h.1)

-- ---- the law

-- the words have a tree whose term is equal to b
record HaveTree (s : SignatureOf) (x : Source) (ns : Pairs) (ws : List (List ℕ)) (k : ℕ) (b : Tree) : Type 0 where
  tree : Tree
  reads : TreeOf x.grammar ws k (k + 1) tree
  known : added ns (pairs_in (pairs_of x.grammar ws) tree) ≡ ns
  equal : EqualModulo (terms_over s) b (renamed (pairs_of x.grammar ws) ns tree)

module _ (x : Source) (names : List (List ℕ)) (aliases : List Alias) (wr : IsWritable x names aliases) (ns : Pairs) (have : HaveNames ns) (t : Tree) (given : AreGiven ns t) (k : ℕ) (b : Tree) (bare : IsBareIn (terms_over x.signature) b k) (normal : norm (theory_at x.signature) b ≡ t) where
  is_normal : IsNormal (theory_at x.signature) t
  is_normal = subst (IsNormal (theory_at x.signature)) normal (norm_normal (theory_at x.signature) wr.grammar.lawful.theories b)

  read_bare : IsBareIn (terms_over x.signature) (reading (theory_at x.signature) t) k
  read_bare = subst (λ u. IsBareIn (terms_over x.signature) (reading (theory_at x.signature) u) k) normal (chain_end (lead_norm (terms_over x.signature) wr.grammar.lawful k b bare))

  words_read : HaveTree x.signature x ns (worded x ns t).words k b
  words_read =
      let ws = (worded x ns t).words in
      let ps = pairs_of x.grammar ws in
      let r = reading (theory_at x.signature) t in
      let own = term_read x names aliases wr ws ns have k t is_normal given read_bare in
      let whole : Window ws 0 ws = record { front = []; back = []; split = sym (append-nil ws); len = refl } in
      let end : 0 + length ws ≡ length ws = omega arith in
      let of : TreeOf x.grammar ws k (k + 1) (renamed ns ps r) = record {
        kind = k;
        level = (worded x ns t).level;
        from = omega arith;
        to = omega arith;
        reads = subst (λ j. Reads x.grammar ws k (worded x ns t).level 0 j (renamed ns ps r ∷ [])) end (own.reads 0 whole);
      } in
      let given_r = given_read ns (theory_at x.signature) t given in
      let given_u = tree_given x.grammar ws k (k + 1) (renamed ns ps r) of in
      let same : renamed ps ns (renamed ns ps r) ≡ r = back ns ps have.0 r given_r given_u in
      record {
        tree = renamed ns ps r;
        reads = of;
        known = added_none ns (pairs_in ps (renamed ns ps r)) (pairs_there ns ps r given_r given_u);
        equal = subst (EqualModulo (terms_over x.signature) b) (ap (reading (theory_at x.signature)) normal ∙ sym same) (equal_reading (terms_over x.signature) wr.grammar.lawful b (k, bare));
      }

  text_reads : (text : List ℕ) → shown (printer_for x) ns t ≡ text → ReadsAs x.signature x.grammar ns text k b
  text_reads text e =
      let ws = (worded x ns t).words in
      let written = term_as x names aliases wr ns have t given (normal_small (terms_over x.signature) t k read_bare) in
      let cut = cut_from (length (shown (printer_for x) ns t)) ws (shown (printer_for x) ns t) written.text [] (omega arith) in
      let read : HaveTree x.signature x ns (texts_of (shown (printer_for x) ns t) cut.tokens) k b = subst (λ vs. HaveTree x.signature x ns vs k b) (sym cut.texts) words_read in
      subst (λ bs. ReadsAs x.signature x.grammar ns bs k b) e (record { tokens = cut.tokens; cut = cut.cut; tree = read.tree; reads = read.reads; known = read.known; equal = read.equal })

pub texts_read_back : TextsReadBack
texts_read_back p ns t x names aliases wr is_printer have given k b bare normal =
    text_reads x names aliases wr ns have t given k b bare normal (shown p ns t) (ap (λ q. shown q ns t) (sym is_printer))

pub texts_are_words : TextsAreWords
texts_are_words x names aliases ns t wr have given k bare =
    let text = shown (printer_for x) ns t in
    let written = term_as x names aliases wr ns have t given (normal_small (terms_over x.signature) t k bare) in
    let cut = cut_from (length text) (worded x ns t).words text written.text [] (omega arith) in
    (cut.tokens, cut.cut, cut.texts)
