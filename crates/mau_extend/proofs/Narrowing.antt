-- A solution of the widened question is one of the question, with contexts.
use Rattle.std.proofs.Common.{◌≡◌, ◌≤◌, ◌+◌, ◌⊎◌, ℕ, List, [], ◌++◌, length, length-append, map, Bool, true, false, refl, sym, ◌∙◌, ap, ap₂, subst}
use Rattle.mau_terms.specs.Tree.{Tree}
use Rattle.mau_terms.specs.Norm.{norm}
use Rattle.mau_terms.specs.Bare.{IsBare, IsLawful}
use Rattle.mau_terms.specs.Reading.{reading}
use Rattle.mau_terms.specs.Subst.{Variable, has_variable, value_at, variables, with_values}
use Rattle.mau_terms.specs.Solution.{list_under, over_list, IsListOf, FitsAt, HaveSorts}
use Rattle.mau_terms.specs.declared.theory.Theory.{Theory}
use Rattle.mau_terms.proofs.Pieces.{Each-append, IsPiece}
use Rattle.mau_terms.proofs.Finite.{length-arrange}
use Rattle.mau_terms.proofs.Wholes.{norm-reading}
use Rattle.mau_terms.proofs.Normal.{IsNormal, norm_normal, whole_pieces}
use Rattle.mau_terms.proofs.Chains.{first_bare}
use Rattle.mau_terms.proofs.Law.{equal_norm}
use Rattle.mau_terms.proofs.Solutions.{length-map, with_values_norms, list_of_made}
use Rattle.mau_signature.specs.Signature.{SignatureOf, theory_at, terms_over}
use Rattle.mau_listing.specs.Question.{Question, OfNorm, IsWhole, IsPart}
use Rattle.mau_listing.specs.Matcher.{Matcher}
use Rattle.mau_extend.specs.Widened.{widened, around, context_list, as_term, widened_question, CanBeWidened, narrowed}
use Rattle.mau_extend.proofs.Widened.{Lacks, lacks, variables_widened}
use Rattle.mau_extend.proofs.Lists.{own_list, no_list, each_piece, norm-widened}
use Rattle.mau_extend.proofs.OfKind.{bare_within, top_assoc}
use Rattle.mau_extend.proofs.Around.{IsAround, around_is, sorts_within, has_around, value_kept, with_values_widened}
use Rattle.mau_canon.proofs.Standing.{map-norm-norm}

module _ (s : SignatureOf) (lawful : IsLawful (terms_over s)) (P : ℕ → Tree → Type 0) (q : Question) (h k : Bool) (f : ℕ) (a b : Variable) (can : CanBeWidened s q h f a b) where
  abbrev th : ℕ → Theory
  th = theory_at s

  abbrev p : Tree
  p = q.pattern

  abbrev wide : Tree
  wide = widened h k f (as_term a) q.pattern (as_term b)

  assoc : (theory_at s f).assoc ≡ true
  assoc = top_assoc (terms_over s) lawful f q.pattern can.pattern can.top

  no_first : Lacks q.pattern a
  no_first = lacks q.pattern a can.first.free

  context_of : (c : Bool) (l : Tree) → (c ≡ true → IsNormal (theory_at s) l) → IsListOf (theory_at s) f (context_list c (theory_at s f) f l)
  context_of true l n = own_list (theory_at s) lawful.theories f assoc l (n refl)
  context_of false l n = no_list (theory_at s) lawful.theories f assoc

  same_context : (c : Bool) (t l : Tree) → (c ≡ true → t ≡ l) → context_list c (theory_at s f) f t ≡ context_list c (theory_at s f) f l
  same_context true t l e = ap (list_under (theory_at s f) f) (e refl)
  same_context false t l e = refl

  -- what the subject is of
  pub whole_of : (y : Matcher) → IsWhole s P (widened_question h k f a b q) y → (l : Tree) (vs : List Tree) (r : Tree) → y.values ≡ around h k l vs r → length vs ≡ length (variables q.pattern)
      → norm (theory_at s) (reading (theory_at s) q.subject)
      ≡ over_list (theory_at s f) f (context_list h (theory_at s f) f l ++ (list_under (theory_at s f) f (norm (theory_at s) (with_values q.pattern vs)) ++ context_list k (theory_at s f) f r))
  whole_of y is l vs r values each =
      let split : IsAround (norm (theory_at s)) h k l vs r is.bare = around_is (norm (theory_at s)) h k l vs r is.bare q.pattern (is.values ∙ values) in
      let bs = split.middle in
      let inst = with_values q.pattern bs in
      let long : length bs ≡ length (variables q.pattern) = sym (length-map (norm (theory_at s)) bs) ∙ ap length split.values ∙ each in
      let same : with_values wide is.bare ≡ widened h k f split.first inst split.last =
      ap (with_values wide) split.whole ∙ with_values_widened f a b q.pattern no_first can.last.free can.apart bs long split.first split.last h k in
      let norms : norm (theory_at s) inst ≡ norm (theory_at s) (with_values q.pattern vs) =
      with_values_norms (theory_at s) q.pattern bs vs (sym (map-norm-norm (theory_at s) lawful.theories bs) ∙ ap (map (norm (theory_at s))) split.values) in
      sym (equal_norm (terms_over s) lawful is.solves.0.equal) ∙ ap (norm (theory_at s)) same
      ∙ norm-widened (theory_at s) lawful.theories f assoc h k split.first inst split.last
      ∙ ap₂ (λ us ws. over_list (theory_at s f) f (us ++ (list_under (theory_at s f) f (norm (theory_at s) inst) ++ ws)))
      (same_context h (norm (theory_at s) split.first) l split.at_first) (same_context k (norm (theory_at s) split.last) r split.at_last)
      ∙ ap (λ t. over_list (theory_at s f) f (context_list h (theory_at s f) f l ++ (list_under (theory_at s f) f t ++ context_list k (theory_at s f) f r))) norms

  contexts_normal : (y : Matcher) → IsWhole s P (widened_question h k f a b q) y → (l : Tree) (vs : List Tree) (r : Tree) → y.values ≡ around h k l vs r
      → IsListOf (theory_at s) f (context_list h (theory_at s f) f l) × IsListOf (theory_at s) f (context_list k (theory_at s f) f r)
  contexts_normal y is l vs r values =
      let split : IsAround (norm (theory_at s)) h k l vs r is.bare = around_is (norm (theory_at s)) h k l vs r is.bare q.pattern (is.values ∙ values) in (
        context_of h l (λ e. subst (IsNormal (theory_at s)) (split.at_first e) (norm_normal (theory_at s) lawful.theories split.first)),
        context_of k r (λ e. subst (IsNormal (theory_at s)) (split.at_last e) (norm_normal (theory_at s) lawful.theories split.last)),
      )

  -- how long the list of the subject is
  pub long_of : norm (theory_at s) q.subject ≡ q.subject → (y : Matcher) → IsWhole s P (widened_question h k f a b q) y → (l : Tree) (vs : List Tree) (r : Tree) → y.values ≡ around h k l vs r → length vs ≡ length (variables q.pattern)
      → length (list_under (theory_at s f) f q.subject)
      ≡ length (context_list h (theory_at s f) f l) + (length (list_under (theory_at s f) f (norm (theory_at s) (with_values q.pattern vs))) + length (context_list k (theory_at s f) f r))
  long_of normal y is l vs r values each =
      let m = list_under (theory_at s f) f (norm (theory_at s) (with_values q.pattern vs)) in
      let left = context_list h (theory_at s f) f l in
      let right = context_list k (theory_at s f) f r in
      let lists = contexts_normal y is l vs r values in
      let Q = IsPiece (theory_at s f).assoc (theory_at s f).id f in
      ap (λ t. length (list_under (theory_at s f) f t)) (sym (norm-reading (theory_at s) lawful.theories q.subject (subst (IsNormal (theory_at s)) normal (norm_normal (theory_at s) lawful.theories q.subject))) ∙ whole_of y is l vs r values each)
      ∙ ap length (list_of_made (theory_at s) f (left ++ (m ++ right)) assoc
      (Each-append Q left (m ++ right) (each_piece (theory_at s) lawful.theories f assoc left lists.0.pieces)
      (Each-append Q m right (whole_pieces (theory_at s) f (norm (theory_at s) (with_values q.pattern vs)) (norm_normal (theory_at s) lawful.theories (with_values q.pattern vs))) (each_piece (theory_at s) lawful.theories f assoc right lists.1.pieces))))
      ∙ length-arrange (theory_at s f).comm (left ++ (m ++ right))
      ∙ length-append left (m ++ right) ∙ ap (λ n. length left + n) (length-append m right)

  pub narrow : (y : Matcher) → IsWhole s P (widened_question h k f a b q) y → (l : Tree) (vs : List Tree) (r : Tree) → y.values ≡ around h k l vs r → length vs ≡ length (variables q.pattern)
      → (2 ≤ length (list_under (theory_at s f) f (norm (theory_at s) (with_values q.pattern vs)))) ⊎ ((context_list h (theory_at s f) f l ≡ []) × (context_list k (theory_at s f) f r ≡ []))
      → IsPart s P q (narrowed h k (theory_at s f) f l vs r)
  narrow y is l vs r values each part =
      let split : IsAround (norm (theory_at s)) h k l vs r is.bare = around_is (norm (theory_at s)) h k l vs r is.bare q.pattern (is.values ∙ values) in
      let bs = split.middle in
      let inst = with_values q.pattern bs in
      let long : length bs ≡ length (variables q.pattern) = sym (length-map (norm (theory_at s)) bs) ∙ ap length split.values ∙ each in
      let same : with_values wide is.bare ≡ widened h k f split.first inst split.last =
      ap (with_values wide) split.whole ∙ with_values_widened f a b q.pattern no_first can.last.free can.apart bs long split.first split.last h k in
      let names = variables_widened f a b q.pattern no_first can.last.free can.apart h k in
      let norms : norm (theory_at s) inst ≡ norm (theory_at s) (with_values q.pattern vs) =
      with_values_norms (theory_at s) q.pattern bs vs (sym (map-norm-norm (theory_at s) lawful.theories bs) ∙ ap (map (norm (theory_at s))) split.values) in
      record {
        bare = bs;
        values = split.values;
        solves = (
          subst (λ o. FitsAt (terms_over s) o q.pattern (reading (theory_at s) q.subject) bs (context_list h (theory_at s f) f l) (context_list k (theory_at s f) f r)) (sym can.top) (record {
            one_each = long;
            bare = bare_within (terms_over s) lawful f assoc h k split.first inst split.last (subst (IsBare (terms_over s)) same (first_bare is.solves.0.equal));
            left_list = (contexts_normal y is l vs r values).0;
            right_list = (contexts_normal y is l vs r values).1;
            rest_alone = λ e. ap (λ c. context_list c (theory_at s f) f l) (can.rest_alone e);
            whole =
                whole_of y is l vs r values each
                ∙ ap (λ t. over_list (theory_at s f) f (context_list h (theory_at s f) f l ++ (list_under (theory_at s f) f t ++ context_list k (theory_at s f) f r))) (sym norms);
            part = subst (λ t. (2 ≤ length (list_under (theory_at s f) f t)) ⊎ ((context_list h (theory_at s f) f l ≡ []) × (context_list k (theory_at s f) f r ≡ []))) (sym norms) part;
          }),
          sorts_within (OfNorm P s) h k a (variables q.pattern) b split.first bs split.last long
              (subst (λ xs. HaveSorts (OfNorm P s) xs (around h k split.first bs split.last)) names (subst (λ us. HaveSorts (OfNorm P s) (variables wide) us) split.whole is.solves.1)),
        );
        agrees = λ d c e.
            let there : has_variable (variables wide) d.0 ≡ true = subst (λ xs. has_variable xs d.0 ≡ true) (sym names) (has_around h k a (variables q.pattern) b d.0 e) in
            sym (value_kept a b (variables q.pattern) vs each l r h k d.0 (λ x. can.first.unbound d c) e)
            ∙ ap₂ (λ xs us. value_at xs us d.0) (sym names) (sym values)
            ∙ is.agrees d c there;
      }
