-- A solution with contexts is one of the widened question.
use Rattle.std.proofs.Common.{◌≡◌, ℕ, List, [], ◌++◌, length, map, Bool, true, false, refl, sym, ◌∙◌, ap, ap₂, subst}
use Rattle.mau_terms.specs.Tree.{Tree}
use Rattle.mau_terms.specs.Norm.{norm, arrange}
use Rattle.mau_terms.specs.Bare.{IsBareIn, IsBare, IsLawful}
use Rattle.mau_terms.specs.Reading.{reading}
use Rattle.mau_terms.specs.Subst.{Variable, has_variable, value_at, variables, with_values}
use Rattle.mau_terms.specs.Solution.{list_under, over_list, IsListOf, FitsUnder, FitsAt, HaveSorts}
use Rattle.mau_terms.specs.declared.theory.Theory.{Theory}
use Rattle.mau_terms.proofs.Pieces.{Each, Each-append, IsPiece}
use Rattle.mau_terms.proofs.Normal.{IsNormal, norm_normal, whole_pieces}
use Rattle.mau_terms.proofs.Law.{norm_equal}
use Rattle.mau_terms.proofs.Solutions.{length-map, list_of_made}
use Rattle.mau_terms.proofs.Wholes.{over_list_normal, norm-reading}
use Rattle.mau_terms.proofs.Normal.{normal_fixed}
use Rattle.mau_signature.specs.Signature.{SignatureOf, theory_at, terms_over}
use Rattle.mau_listing.specs.Question.{Question, OfNorm, IsWhole, IsPart}
use Rattle.mau_listing.specs.Matcher.{Matcher}
use Rattle.mau_extend.specs.Widened.{widened, around, context_list, as_term, widened_question, CanBeWidened, CanBeArgument}
use Rattle.mau_extend.proofs.Widened.{Lacks, lacks, variables_widened}
use Rattle.mau_extend.proofs.Lists.{each_piece, list_back, norm-widened}
use Rattle.mau_extend.proofs.OfKind.{widened_bare, over_bare, contexts_bare, top_assoc, top_operator, instance_of_kind}
use Rattle.mau_extend.proofs.Around.{map_around, around_long, sorts_around, around_has, value_kept, with_values_widened}

module _ (s : SignatureOf) (lawful : IsLawful (terms_over s)) (P : ℕ → Tree → Type 0) (q : Question) (h k : Bool) (f : ℕ) (a b : Variable) (can : CanBeWidened s q h f a b)
    (normal : norm (theory_at s) q.subject ≡ q.subject) (bare : IsBare (terms_over s) (reading (theory_at s) q.subject)) where
  abbrev th : ℕ → Theory
  th = theory_at s

  assoc : (theory_at s f).assoc ≡ true
  assoc = top_assoc (terms_over s) lawful f q.pattern can.pattern can.top

  has : (terms_over s).has_operator f ≡ true
  has = top_operator (terms_over s) lawful f q.pattern can.pattern can.top

  no_first : Lacks q.pattern a
  no_first = lacks q.pattern a can.first.free

  subject_normal : IsNormal (theory_at s) q.subject
  subject_normal = subst (IsNormal (theory_at s)) normal (norm_normal (theory_at s) lawful.theories q.subject)

  -- the list of the subject
  pub subject_list : (vs left right : List Tree) → FitsUnder (terms_over s) f q.pattern (reading (theory_at s) q.subject) vs left right
      → list_under (theory_at s f) f q.subject ≡ arrange (theory_at s f).comm (left ++ (list_under (theory_at s f) f (norm (theory_at s) (with_values q.pattern vs)) ++ right))
  subject_list vs left right x =
      let m = list_under (theory_at s f) f (norm (theory_at s) (with_values q.pattern vs)) in
      let Q = IsPiece (theory_at s f).assoc (theory_at s f).id f in
      ap (list_under (theory_at s f) f) (sym (norm-reading (theory_at s) lawful.theories q.subject subject_normal) ∙ x.whole)
      ∙ list_of_made (theory_at s) f (left ++ (m ++ right)) assoc
      (Each-append Q left (m ++ right) (each_piece (theory_at s) lawful.theories f assoc left x.left_list.pieces)
      (Each-append Q m right (whole_pieces (theory_at s) f (norm (theory_at s) (with_values q.pattern vs)) (norm_normal (theory_at s) lawful.theories (with_values q.pattern vs))) (each_piece (theory_at s) lawful.theories f assoc right x.right_list.pieces)))

  -- the normal form of a context's list, as a bare term
  abbrev argument : List Tree → Tree
  argument ts = reading (theory_at s) (over_list (theory_at s f) f ts)

  argument_norm : (ts : List Tree) → IsListOf (theory_at s) f ts → norm (theory_at s) (reading (theory_at s) (over_list (theory_at s f) f ts)) ≡ over_list (theory_at s f) f ts
  argument_norm ts l = norm-reading (theory_at s) lawful.theories (over_list (theory_at s f) f ts) (over_list_normal (theory_at s) lawful.theories f ts l.pieces)

  argument_list : (c : Bool) (ts : List Tree) → IsListOf (theory_at s) f ts → CanBeArgument c (theory_at s f) ts
      → context_list c (theory_at s f) f (norm (theory_at s) (reading (theory_at s) (over_list (theory_at s f) f ts))) ≡ ts
  argument_list true ts l d = ap (list_under (theory_at s f) f) (argument_norm ts l) ∙ list_back (theory_at s) lawful.theories f assoc ts l
  argument_list false ts l d = sym (d.none refl)

  argument_bare : (c : Bool) (ts : List Tree) → IsListOf (theory_at s) f ts → CanBeArgument c (theory_at s f) ts → Each (λ u. IsBareIn (terms_over s) (reading (theory_at s) u) ((terms_over s).result f)) ts → c ≡ true
      → IsBareIn (terms_over s) (reading (theory_at s) (over_list (theory_at s f) f ts)) ((terms_over s).result f)
  argument_bare c ts l d each e = over_bare (terms_over s) lawful f assoc has ts l each (d.there e)

  pub widen : (x : Matcher) → IsPart s P q x → CanBeArgument h (theory_at s f) x.left → CanBeArgument k (theory_at s f) x.right
      → ((v : Tree) → norm (theory_at s) v ≡ v → IsBareIn (terms_over s) (reading (theory_at s) v) ((terms_over s).result f) → P a.1 v × P b.1 v)
      → (y : Matcher) → y.left ≡ [] → y.right ≡ [] → y.values ≡ around h k (over_list (theory_at s f) f x.left) x.values (over_list (theory_at s f) f x.right)
      → IsWhole s P (widened_question h k f a b q) y
  widen x is at_left at_right of_kind y no_left no_right values =
      let wide = widened h k f (as_term a) q.pattern (as_term b) in
      let fits : FitsUnder (terms_over s) f q.pattern (reading (theory_at s) q.subject) is.bare x.left x.right =
      subst (λ o. FitsAt (terms_over s) o q.pattern (reading (theory_at s) q.subject) is.bare x.left x.right) can.top is.solves.0 in
      let l = reading (theory_at s) (over_list (theory_at s f) f x.left) in
      let r = reading (theory_at s) (over_list (theory_at s f) f x.right) in
      let inst = with_values q.pattern is.bare in
      let m = list_under (theory_at s f) f (norm (theory_at s) inst) in
      let names = variables_widened f a b q.pattern no_first can.last.free can.apart h k in
      let same : with_values wide (around h k l is.bare r) ≡ widened h k f l inst r =
      with_values_widened f a b q.pattern no_first can.last.free can.apart is.bare fits.one_each l r h k in
      let kinds = contexts_bare (terms_over s) lawful f assoc q.subject subject_normal bare x.left m x.right (subject_list is.bare x.left x.right fits) fits.part in
      let left_bare = argument_bare h x.left fits.left_list at_left kinds.0 in
      let right_bare = argument_bare k x.right fits.right_list at_right kinds.1 in
      let whole_bare : IsBare (terms_over s) (with_values wide (around h k l is.bare r)) =
      subst (IsBare (terms_over s)) (sym same) (
        (terms_over s).result f,
        widened_bare (terms_over s) lawful f assoc has h k l inst r left_bare
            (instance_of_kind (terms_over s) lawful f q.pattern can.pattern can.top (value_at (variables q.pattern) is.bare) fits.bare) right_bare,
      ) in
      let left_norm = argument_norm x.left fits.left_list in
      let right_norm = argument_norm x.right fits.right_list in
      let each : length x.values ≡ length (variables q.pattern) = sym (ap length is.values) ∙ length-map (norm (theory_at s)) is.bare ∙ fits.one_each in
      let kind_of_context : (c : Bool) (n : ℕ) (ts : List Tree) (e : c ≡ true) → IsListOf (theory_at s) f ts → (IsBareIn (terms_over s) (reading (theory_at s) (over_list (theory_at s f) f ts)) ((terms_over s).result f)) → ((v : Tree) → norm (theory_at s) v ≡ v → IsBareIn (terms_over s) (reading (theory_at s) v) ((terms_over s).result f) → P n v)
      → OfNorm P s n (reading (theory_at s) (over_list (theory_at s f) f ts)) =
      (λ c n ts e ls d of. subst (P n) (sym (argument_norm ts ls)) (of (over_list (theory_at s f) f ts) (normal_fixed (theory_at s) (over_list (theory_at s f) f ts) (over_list_normal (theory_at s) lawful.theories f ts ls.pieces)) d)) in
      record {
        bare = around h k l is.bare r;
        values =
            map_around (norm (theory_at s)) h k l is.bare r
            ∙ ap (λ t. around h k t (map (norm (theory_at s)) is.bare) (norm (theory_at s) r)) left_norm
            ∙ ap₂ (λ ts t. around h k (over_list (theory_at s f) f x.left) ts t) is.values right_norm
            ∙ sym values;
        solves = (
          record {
            one_each = around_long h k l is.bare r a (variables q.pattern) b fits.one_each ∙ ap (λ xs. length xs) (sym names);
            equal = norm_equal (terms_over s) lawful (with_values wide (around h k l is.bare r)) (reading (theory_at s) q.subject) whole_bare bare
                (ap (norm (theory_at s)) same ∙ norm-widened (theory_at s) lawful.theories f assoc h k l inst r
                ∙ ap₂ (λ us ws. over_list (theory_at s f) f (us ++ (m ++ ws))) (argument_list h x.left fits.left_list at_left) (argument_list k x.right fits.right_list at_right)
                ∙ sym fits.whole);
          },
          subst (λ xs. HaveSorts (OfNorm P s) xs (around h k l is.bare r)) (sym names)
              (sorts_around (OfNorm P s) h k a (variables q.pattern) b l is.bare r fits.one_each
              (λ e. kind_of_context h a.1 x.left e fits.left_list (left_bare e) (λ v n d. (of_kind v n d).0))
              is.solves.1
              (λ e. kind_of_context k b.1 x.right e fits.right_list (right_bare e) (λ v n d. (of_kind v n d).1))),
        );
        agrees = λ d c e.
            let there : has_variable (around h k a (variables q.pattern) b) d.0 ≡ true = subst (λ xs. has_variable xs d.0 ≡ true) names e in
            let own = around_has h k a (variables q.pattern) b d.0 (can.first.unbound d c) (can.last.unbound d c) there in
            ap₂ (λ xs us. value_at xs us d.0) names values
            ∙ value_kept a b (variables q.pattern) x.values each (over_list (theory_at s f) f x.left) (over_list (theory_at s f) f x.right) h k d.0 (λ z. can.first.unbound d c) own
            ∙ is.agrees d c own;
        no_left = no_left;
        no_right = no_right;
      }
