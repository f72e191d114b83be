-- Each solution is among finitely many, and the number of those that come behind the last one falls with it.
use Rattle.std.proofs.Common.{◌≡◌, ◌+◌, ◌<◌, ◌≤◌, ℕ, List, [], ◌∷◌, ◌++◌, Bool, true, false, Option, Some, None, map, length, refl, sym, ap, ◌∙◌, subst, length-append, arith}
use Rattle.std.proofs.lemmas.List.{length-map}
use Rattle.std.specs.Ordering.{is_lt}
use Rattle.std.specs.Option.{option_map}
use Rattle.mau_terms.specs.Tree.{Tree}
use Rattle.mau_terms.specs.Norm.{norm, arrange}
use Rattle.mau_terms.specs.Lawful.{AreLawful}
use Rattle.mau_terms.specs.Bare.{TermSignature, IsLawful}
use Rattle.mau_terms.specs.Reading.{reading}
use Rattle.mau_terms.specs.Subst.{Variable, variables, with_values, value_at, instance, Occurs}
use Rattle.mau_terms.specs.Solution.{FitsUnder, FitsAt, FitsWithin, ArePieces, assoc_top, list_under, over_list}
use Rattle.mau_terms.specs.Finite.{IsIn, each_of, words, candidates}
use Rattle.mau_terms.specs.declared.theory.Theory.{Theory}
use Rattle.mau_terms.proofs.Finite.{AllIn, AllIn-left, AllIn-right, AllIn-itself, AllIn-arrange, in_map, in_words, in_each_of, length-arrange, value_is_candidate, over_its_list}
use Rattle.mau_terms.proofs.Law.{equal_norm}
use Rattle.mau_terms.proofs.Normal.{norm_normal, whole_pieces}
use Rattle.mau_terms.proofs.Pieces.{Each, Each-append, IsPiece}
use Rattle.mau_terms.proofs.Solutions.{list_of_made, each_piece}
use Rattle.mau_terms.proofs.Variables.{EachVar, variables_occur, values_of_variables}
use Rattle.mau_signature.specs.Signature.{SignatureOf, theory_at, terms_over}
use Rattle.mau_store.specs.Node.{Node, Extends}
use Rattle.mau_sorts.specs.Table.{Table}
use Rattle.mau_listing.specs.declared.solution.Solution.{Solution}
use Rattle.mau_listing.specs.Question.{Question, IsPart, IsSolution}
use Rattle.mau_listing.specs.Matcher.{Matcher}
use Rattle.mau_listing.specs.Next.{matcher_cmp, IsBehind}
use Rattle.mau_listing.specs.Asked.{Asked, BySort, question_in, matcher_in, CanGoOn}
use Rattle.mau_listing.specs.Finite.{beside, may_solve, comes_behind, count_behind, count_left}
use Rattle.mau_listing.specs.Laws.{CountFalls, CountStays}
use Rattle.mau_listing.proofs.Alone.{top_assoc, whole_is_part}
use Rattle.mau_listing.proofs.Answered.{norm-reading-is}
use Rattle.mau_listing.proofs.Counted.{fewer_behind}
use Rattle.mau_listing.proofs.Growth.{question_same, last_found_same}
use Rattle.mau_listing.proofs.Ordered.{matchers_are_ordered}

-- ---- values

module _ (th : ℕ → Theory) (lawful : AreLawful th) (p : Tree) where
  are_candidates : (g : Variable → Tree) (xs : List Variable) → EachVar (λ x. Occurs x p) xs → AllIn (map (norm th) (map g xs)) (candidates th p (norm th (instance g p)))
  are_candidates g [] o = tt
  are_candidates g (x ∷ xs) o = (value_is_candidate th lawful g x p o.0, are_candidates g xs o.1)

  -- the normal forms of an instance's values
  values_listed : (vs : List Tree) → length vs ≡ length (variables p) → IsIn (map (norm th) vs) (words (length (variables p)) (candidates th p (norm th (with_values p vs))))
  values_listed vs long =
      let few : length (map (norm th) vs) ≤ length (variables p) = omega (arith, length-map vs (norm th)) in
      in_words (length (variables p)) (map (norm th) vs) (candidates th p (norm th (with_values p vs))) few
      (subst (λ ws. AllIn (map (norm th) ws) (candidates th p (norm th (with_values p vs)))) (values_of_variables p vs long) (are_candidates (value_at (variables p) vs) (variables p) (variables_occur p)))

-- ---- solutions

module _ (s : TermSignature) (lawful : IsLawful s) (p t : Tree) (vs left right : List Tree) where
  abbrev th : ℕ → Theory
  th = s.theory

  abbrev values : List Tree
  values = map (norm s.theory) vs

  under : (f : ℕ) → (s.theory f).assoc ≡ true → FitsUnder s f p t vs left right → IsIn (beside left values) (may_solve s.theory (Some f) p (norm s.theory t))
  under f assoc h =
      let n = length (variables p) in
      let made = norm th (with_values p vs) in
      let l = list_under (th f) f (norm th t) in
      let m = list_under (th f) f made in
      let parts = words (length l) l in
      let all = left ++ (m ++ right) in
      let Piece = IsPiece (th f).assoc (th f).id f in
      let whole : Each Piece m = whole_pieces th f made (norm_normal th lawful.theories (with_values p vs)) in
      let e : l ≡ arrange (th f).comm all =
      ap (list_under (th f) f) h.whole
      ∙ list_of_made th f all assoc (Each-append Piece left (m ++ right) (each_piece th f left h.left_list.pieces) (Each-append Piece m right whole (each_piece th f right h.right_list.pieces))) in
      let count : length l ≡ length left + (length m + length right) = omega (arith, ap length e, length-arrange (th f).comm all, length-append left (m ++ right), length-append m right) in
      let inside : (xs : List Tree) → AllIn xs all → length xs ≤ length l → IsIn xs parts = (λ xs among few. in_words (length l) xs l few (subst (AllIn xs) (sym e) (AllIn-arrange (th f).comm xs all among))) in
      let left_in : IsIn left parts = inside left (AllIn-left left left (m ++ right) (AllIn-itself left)) (omega arith) in
      let made_in : IsIn m parts = inside m (AllIn-right m left (m ++ right) (AllIn-left m m right (AllIn-itself m))) (omega arith) in
      let known : IsIn values (words n (candidates th p (over_list (th f) f m))) =
      subst (λ u. IsIn values (words n (candidates th p u))) (sym (over_its_list th f made assoc (norm_normal th lawful.theories (with_values p vs)))) (values_listed th lawful.theories p vs h.one_each) in
      let values_in = in_each_of (λ k. words n (candidates th p (over_list (th f) f k))) m parts values made_in known in
      in_each_of (λ k. map (beside k) (each_of (λ j. words n (candidates th p (over_list (th f) f j))) parts)) left parts (beside left values) left_in
      (in_map (beside left) values (each_of (λ j. words n (candidates th p (over_list (th f) f j))) parts) values_in)

  pub fits_listed : FitsWithin s p t vs left right → IsIn (beside left values) (may_solve s.theory (assoc_top s.theory (norm s.theory p)) p (norm s.theory t))
  fits_listed = by (assoc_top th (norm th p)) refl
    where
      by : (o : Option ℕ) → assoc_top s.theory (norm s.theory p) ≡ o → FitsAt s o p t vs left right → IsIn (beside left values) (may_solve s.theory o p (norm s.theory t))
      by (Some f) e h = under f (top_assoc th (norm th p) f e) h
      by None e h =
          let n = length (variables p) in
          let known : IsIn values (words n (candidates th p (norm th t))) =
          subst (λ u. IsIn values (words n (candidates th p u))) (equal_norm s lawful h.0.equal) (values_listed th lawful.theories p vs h.0.one_each) in
          subst (λ l. IsIn (beside l values) (map (beside []) (words n (candidates th p (norm th t))))) (sym h.1)
          (in_map (beside []) values (words n (candidates th p (norm th t))) known)

module _ (s : SignatureOf) (lawful : IsLawful (terms_over s)) (P : ℕ → Tree → Type 0) (q : Question) (normal : norm (theory_at s) q.subject ≡ q.subject) where
  abbrev top : Option ℕ
  top = assoc_top (theory_at s) (norm (theory_at s) q.pattern)

  part_listed : (x : Matcher) → IsPart s P q x → IsIn (beside x.left x.values) (may_solve (theory_at s) top q.pattern q.subject)
  part_listed x is =
      subst (λ vs. IsIn (beside x.left vs) (may_solve (theory_at s) top q.pattern q.subject)) is.values
      (subst (λ u. IsIn (beside x.left (map (norm (theory_at s)) is.bare)) (may_solve (theory_at s) top q.pattern u)) (norm-reading-is (theory_at s) lawful.theories q.subject normal)
      (fits_listed (terms_over s) lawful q.pattern (reading (theory_at s) q.subject) is.bare x.left x.right is.solves.0))

  solution_listed : (c : Bool) (x : Matcher) → IsSolution c s P q x → IsIn (beside x.left x.values) (may_solve (theory_at s) top q.pattern q.subject)
  solution_listed true x is = part_listed x is
  solution_listed false x is = part_listed x (whole_is_part s lawful P q x is)

  behind : (last : Option Matcher) (x : Matcher) → IsBehind (matcher_cmp (theory_at s) q.pattern) last x → comes_behind (matcher_cmp (theory_at s) q.pattern) last (beside x.left x.values) ≡ true
  behind None x h = refl
  behind (Some last) x h = ap is_lt h

  pub count_falls : (c : Bool) (last : Option Matcher) (x : Matcher) → IsSolution c s P q x → IsBehind (matcher_cmp (theory_at s) q.pattern) last x → count_behind s q (Some x) < count_behind s q last
  unfolding count_behind
  count_falls c last x is h =
      fewer_behind (matcher_cmp (theory_at s) q.pattern) (matchers_are_ordered (theory_at s) q.pattern) (may_solve (theory_at s) top q.pattern q.subject) last (beside x.left x.values)
      (solution_listed c x is) (behind last x h)

pub count_falls_law : CountFalls
count_falls_law c s lawful known q normal last x = count_falls s lawful (BySort s known) q normal c last x

-- ---- in a store that grows

pub count_stays : CountStays
count_stays c s old new table extends a last can =
    ap (λ q. count_behind s q (option_map (matcher_in new) last)) (question_same old new extends s a can.askable)
    ∙ ap (count_behind s (question_in old a)) (last_found_same old new extends s c table a last can.given)

-- a solution that was given leaves fewer behind it, in a store that has grown
module _ (s : SignatureOf) (lawful : IsLawful (terms_over s)) (P : ℕ → Tree → Type 0) (old new : List Node) (extends : Extends old new) (c : Bool) (table : Table) (a : Asked) (last : Option Solution) (can : CanGoOn c s old table a last) where
  pub fewer_left : (x : Solution) → IsSolution c s P (question_in new a) (matcher_in new x) → IsBehind (matcher_cmp (theory_at s) a.pattern) (option_map (matcher_in old) last) (matcher_in new x) → count_left s new a (Some x) < count_left s old a last
  fewer_left x is behind =
      let same = question_same old new extends s a can.askable in
      let falls : count_behind s (question_in old a) (Some (matcher_in new x)) < count_behind s (question_in old a) (option_map (matcher_in old) last) =
      count_falls s lawful P (question_in old a) can.askable.subject.normal c (option_map (matcher_in old) last) (matcher_in new x) (subst (λ q. IsSolution c s P q (matcher_in new x)) same is) behind in
      subst (λ q. count_behind s q (Some (matcher_in new x)) < count_behind s (question_in old a) (option_map (matcher_in old) last)) (sym same) falls
