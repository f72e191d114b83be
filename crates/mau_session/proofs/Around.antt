-- The part that a solution with contexts matches, and the lists around it: they are within the limits where the subject is.
use Rattle.std.proofs.Common.{◌≡◌, inl, inr, ⊎_elim, ℕ, ◌<◌, ◌≤◌, ◌==◌, ◌&&◌, ◌||◌, if◌then◌else◌, suc, List, [], ◌∷◌, ◌++◌, length, map, Bool, true, false, Option, None, Some, refl, sym, ap, ap₂, ◌∙◌, subst, arith, length-append}
use Rattle.std.proofs.lemmas.List.Elements.{All-head, All-tail}
use Rattle.std.proofs.lemmas.Bool.{or_parts}
use Rattle.mau_terms.specs.Tree.{Tree, variable, numeral, apply, node, list_of, trees_of}
use Rattle.mau_terms.specs.Depth.{depth, depths}
use Rattle.mau_terms.specs.Norm.{all_pieces, arrange, finish, norm, holds_overflow, hold_overflow, is_greatest_numeral}
use Rattle.mau_terms.specs.Bare.{TermSignature, IsBare}
use Rattle.mau_terms.specs.Finite.{IsIn}
use Rattle.mau_terms.specs.Reading.{reading}
use Rattle.mau_terms.specs.Subst.{with_values}
use Rattle.mau_terms.specs.Solution.{list_under, over_list, FitsUnder, FitsAt, ArePieces, assoc_top}
use Rattle.mau_terms.specs.View.{tree_of}
use Rattle.mau_terms.specs.declared.theory.Identity.{Identity}
use Rattle.mau_terms.specs.declared.theory.Theory.{Theory}
use Rattle.mau_terms.proofs.Finite.{AllIn, AllIn-itself, AllIn-left, AllIn-right, AllIn-arrange, length-arrange}
use Rattle.mau_terms.proofs.Law.{equal_norm, equal_reading}
use Rattle.mau_terms.proofs.Induction.{norm-node}
use Rattle.mau_terms.proofs.Normal.{finish_long, pieces_all}
use Rattle.mau_terms.proofs.Pieces.{Split, unit, many, one, split, Each, Each-arrange, IsPiece, arrange_one, trees_of-list_of}
use Rattle.mau_terms.proofs.Solutions.{with_values_norms, assoc_top_assoc}
use Rattle.mau_signature.specs.Signature.{SignatureOf, IsOperator, theory_at, terms_over}
use Rattle.mau_store.specs.Node.{Node}
use Rattle.mau_store.specs.Trees.{tree_at, trees_at}
use Rattle.mau_store.specs.View.{numbers}
use Rattle.mau_canon.specs.declared.TheConstants.{MAX_DEPTH}
use Rattle.mau_canon.specs.declared.fault.BuildFault.TheVariants.{TooDeep, Overflow}
use Rattle.mau_canon.specs.Within.{IsWithin, IsCause}
use Rattle.mau_canon.specs.Standing.{StandsWithin, StandWithin}
use Rattle.mau_canon.proofs.Elements.{no_greatest}
use Rattle.mau_signature.specs.OverSignature.{IsTreeOver}
use Rattle.mau_listing.specs.declared.solution.Solution.{Solution}
use Rattle.mau_listing.specs.Matcher.{Matcher}
use Rattle.mau_sorts.specs.Table.{Table}
use Rattle.mau_listing.specs.Asked.{matcher_in, IsGiven}
use Rattle.mau_session.specs.Answers.{is_whole}
use Rattle.mau_session.specs.Parts.{IsContext}
use Rattle.mau_session.specs.KeptQuery.{asked_for, IsQueryOver}
use Rattle.mau_session.specs.declared.query.Query.{Query}
use Rattle.mau_signature.proofs.OverSignature.{norm_over}

-- ---- lists within the limits

member : (P : Tree → Type 0) (x : Tree) (ts : List Tree) → Each P ts → IsIn x ts → P x
member P x [] e h = absurd h
member P x (t ∷ ts) e (inl same) = subst P (sym same) e.0
member P x (t ∷ ts) e (inr h) = member P x ts e.1 h

members : (P : Tree → Type 0) (xs ts : List Tree) → Each P ts → AllIn xs ts → Each P xs
members P [] ts e h = tt
members P (x ∷ xs) ts e h = (member P x ts e h.0, members P xs ts e h.1)

neither : (b : Bool) → ((b && false) || false) ≡ false
neither true = refl
neither false = refl

finish_one : (a : Bool) (u : Option Identity) (s : Bool) (f : ℕ) (t : Tree) → a ≡ true → finish a u s f (t ∷ []) ≡ t
finish_one true None s f t e = refl
finish_one true (Some i) s f t e = refl
finish_one false u s f t e = absurd cc

finish_two : (a : Bool) (u : Option Identity) (s : Bool) (f : ℕ) (ts : List Tree) → 2 ≤ length ts → finish a u s f ts ≡ node f ts
finish_two a u s f [] h = absurd (omega arith)
finish_two a u s f (t ∷ []) h = absurd (omega arith)
finish_two a u s f (t ∷ v ∷ ts) h = finish_long a u s f t v ts

module _ (th : ℕ → Theory) where
  -- t may stand below an operator within the limits
  record IsElement (t : Tree) : Type 0 where
    shallow : suc (depth t) ≤ MAX_DEPTH
    no_overflow : holds_overflow th t ≡ false

  each_element : (ts : List Tree) → suc (depths (trees_of ts)) ≤ MAX_DEPTH → hold_overflow th (trees_of ts) ≡ false → Each IsElement ts
  each_element [] d o = tt
  each_element (t ∷ ts) d o =
      let both = or_parts (holds_overflow th t) (hold_overflow th (trees_of ts)) o in
      (record { shallow = omega (arith, d); no_overflow = both.0 }, each_element ts (omega (arith, d)) both.1)

  elements_of : (f : ℕ) (ts : List Tree) → IsWithin th (node f ts) → Each IsElement ts
  elements_of f ts w = each_element ts w.shallow ((or_parts ((th f).succ && is_greatest_numeral (trees_of ts)) (hold_overflow th (trees_of ts)) w.no_overflow).1)

  deep : (t : Tree) (ts : List Tree) → Each IsElement (t ∷ ts) → suc (depths (trees_of (t ∷ ts))) ≤ MAX_DEPTH
  deep t [] e = omega (arith, e.0.shallow)
  deep t (u ∷ ts) e = omega (arith, e.0.shallow, deep u ts e.1)

  none_hold : (ts : List Tree) → Each IsElement ts → hold_overflow th (trees_of ts) ≡ false
  none_hold [] e = refl
  none_hold (t ∷ ts) e = ap₂ (λ a b. a || b) e.0.no_overflow (none_hold ts e.1)

  over_elements : (f : ℕ) (ts : List Tree) → 2 ≤ length ts → Each IsElement ts → IsWithin th (node f ts)
  over_elements f [] h e = absurd (omega arith)
  over_elements f (t ∷ ts) h e = record { shallow = deep t ts e; no_overflow = ap₂ (λ a b. ((th f).succ && a) || b) (no_greatest (t ∷ ts) h) (none_hold (t ∷ ts) e) ∙ neither (th f).succ }

  over_list_two : (f : ℕ) (ts : List Tree) → 2 ≤ length ts → over_list (th f) f ts ≡ node f (arrange (th f).comm ts)
  over_list_two f ts h = finish_two (th f).assoc (th f).id (th f).succ f (arrange (th f).comm ts) (omega (arith, h, length-arrange (th f).comm ts))

  list_within : (f : ℕ) → (th f).assoc ≡ true → (ts : List Tree) → 0 < length ts → Each IsElement ts → IsWithin th (over_list (th f) f ts)
  list_within f a [] h e = absurd (omega arith)
  list_within f a (t ∷ []) h e =
      let same : over_list (th f) f (t ∷ []) ≡ t = ap (finish (th f).assoc (th f).id (th f).succ f) (arrange_one (th f).comm t) ∙ finish_one (th f).assoc (th f).id (th f).succ f t a in
      subst (IsWithin th) (sym same) (record { shallow = omega (arith, e.0.shallow); no_overflow = e.0.no_overflow })
  list_within f a (t ∷ u ∷ ts) h e =
      subst (IsWithin th) (sym (over_list_two f (t ∷ u ∷ ts) (omega arith)))
      (over_elements f (arrange (th f).comm (t ∷ u ∷ ts)) (omega (arith, length-arrange (th f).comm (t ∷ u ∷ ts))) (Each-arrange IsElement (th f).comm (t ∷ u ∷ ts) e))

-- ---- a part and its contexts

module _ (s : TermSignature) (f : ℕ) (a : (s.theory f).assoc ≡ true) (p t : Tree) (vs left right : List Tree) (fits : FitsUnder s f p t vs left right) (around : (left ≡ []) × (right ≡ []) → ⊥)
    (within : IsWithin s.theory (norm s.theory t)) where
  abbrev th : ℕ → Theory
  th = s.theory

  abbrev portion : Tree
  portion = norm th (with_values p vs)

  abbrev middle : List Tree
  middle = list_under (th f) f portion

  abbrev whole : List Tree
  whole = left ++ (middle ++ right)

  two : 2 ≤ length middle
  two = ⊎_elim (λ (h : 2 ≤ length middle). h) (λ (h : (left ≡ []) × (right ≡ [])). absurd (around h)) fits.part

  subject_top : norm th t ≡ node f (arrange (th f).comm whole)
  subject_top = fits.whole ∙ over_list_two th f whole (omega (arith, two, length-append left (middle ++ right), length-append middle right))

  elements : Each (IsElement th) whole
  elements = members (IsElement th) whole (arrange (th f).comm whole) (elements_of th f (arrange (th f).comm whole) (subst (IsWithin th) subject_top within)) (AllIn-arrange (th f).comm whole whole (AllIn-itself whole))

  left_within : 0 < length left → IsWithin th (over_list (th f) f left)
  left_within h = list_within th f a left h (members (IsElement th) left whole elements (AllIn-left left left (middle ++ right) (AllIn-itself left)))

  right_within : 0 < length right → IsWithin th (over_list (th f) f right)
  right_within h = list_within th f a right h (members (IsElement th) right whole elements (AllIn-right right left (middle ++ right) (AllIn-right right middle right (AllIn-itself right))))

  middle_elements : Each (IsElement th) middle
  middle_elements = members (IsElement th) middle whole elements (AllIn-right middle left (middle ++ right) (AllIn-left middle middle right (AllIn-itself middle)))

  portion_within : IsWithin th portion
  portion_within = by (split (th f).assoc (th f).id f portion)
    where
      by : Split (th f).assoc (th f).id f portion → IsWithin th portion
      by (unit i u e n) = absurd (omega (arith, two, ap length n))
      by (one n) = absurd (omega (arith, two, ap length n))
      by (many ts b e n) =
          subst (IsWithin th) (sym e) (subst (λ us. IsWithin th (apply f us)) (trees_of-list_of ts) (over_elements th f (list_of ts) (omega (arith, two, ap length n)) (subst (Each (IsElement th)) n middle_elements)))

-- ---- a solution of a query

trees_normal : (th : ℕ → Theory) (nodes : List Node) (ids : List ℕ) → StandWithin th nodes ids → map (norm th) (trees_at nodes ids) ≡ trees_at nodes ids
trees_normal th nodes [] all = refl
trees_normal th nodes (i ∷ ids) all =
    ap₂ (λ u us. u ∷ us) (All-head (StandsWithin th nodes) i ids all).normal (trees_normal th nodes ids (All-tail (StandsWithin th nodes) i ids all))

-- the subject is the operator f over a list, and the part of it that is matched and what stands around that are within the limits
pub record IsAround (s : SignatureOf) (p t : Tree) (x : Matcher) : Type 0 where
  pub op : ℕ
  pub top : assoc_top (theory_at s) (norm (theory_at s) p) ≡ Some op
  pub operator : IsOperator s op
  pub elements : List Tree
  pub subject : t ≡ node op elements
  pub portion : IsWithin (theory_at s) (norm (theory_at s) (with_values p x.values))
  pub left : IsContext s op x.left
  pub right : IsContext s op x.right

not_whole : (x : Matcher) → is_whole x ≡ false → (x.left ≡ []) × (x.right ≡ []) → ⊥
not_whole x e h = let w : is_whole x ≡ true = ap₂ (λ (l r : List Tree). (length l == 0) && (length r == 0)) h.0 h.1 in absurd cc

module _ (s : SignatureOf) (q : Query) (ready : IsQueryOver s q) (table : Table) (x : Solution) (given : IsGiven true s q.store table (asked_for q) x) (around : is_whole (matcher_in q.store x) ≡ false) where
  abbrev axioms : ℕ → Theory
  axioms = theory_at s

  abbrev here : Matcher
  here = matcher_in q.store x

  -- the subject
  abbrev subject : Tree
  subject = tree_at q.store q.number.0

  read_norm : norm axioms (reading axioms subject) ≡ subject
  read_norm =
      let same = equal_norm (terms_over s) ready.lawful (equal_reading (terms_over s) ready.lawful (tree_of q.subject) ready.subject) in
      ap (λ t. norm axioms (reading axioms t)) ready.stands ∙ sym same ∙ sym ready.stands

  over : IsTreeOver s subject
  over = subst (IsTreeOver s) (sym ready.stands) (norm_over s ready.lawful (tree_of q.subject) (subst (λ t. IsBare (terms_over s) (reading axioms t)) ready.stands ready.askable.bare))

  same_portion : norm axioms (with_values (tree_of q.pattern) given.solves.bare) ≡ norm axioms (with_values (tree_of q.pattern) here.values)
  same_portion =
      with_values_norms axioms (tree_of q.pattern) given.solves.bare here.values (given.solves.values ∙ sym (trees_normal axioms q.store (numbers x.values) given.values))

  pub is_around : IsAround s (tree_of q.pattern) subject here
  is_around = by (assoc_top axioms (norm axioms (tree_of q.pattern))) refl given.solves.solves.0
    where
      by : (o : Option ℕ) → assoc_top axioms (norm axioms (tree_of q.pattern)) ≡ o → FitsAt (terms_over s) o (tree_of q.pattern) (reading axioms subject) given.solves.bare here.left here.right
          → IsAround s (tree_of q.pattern) subject here
      by None e fits = absurd (not_whole here around (fits.1, fits.2))
      by (Some f) e fits =
          let assoc = assoc_top_assoc axioms (norm axioms (tree_of q.pattern)) f e in
          let within = subst (IsWithin axioms) (sym read_norm) ready.askable.subject.within in
          let vs = given.solves.bare in
          let p = tree_of q.pattern in
          let t = reading axioms subject in
          let none = not_whole here around in
          let top : subject ≡ node f _ = sym read_norm ∙ subject_top (terms_over s) f assoc p t vs here.left here.right fits none within in
          record {
            op = f;
            top = e;
            operator = (subst (IsTreeOver s) top over).0;
            elements = _;
            subject = top;
            portion = subst (IsWithin axioms) same_portion (portion_within (terms_over s) f assoc p t vs here.left here.right fits none within);
            left = record { list = fits.left_list; within = left_within (terms_over s) f assoc p t vs here.left here.right fits none within };
            right = record { list = fits.right_list; within = right_within (terms_over s) f assoc p t vs here.left here.right fits none within };
          }

-- ---- what is built

pub norm_of_list : (th : ℕ → Theory) (f : ℕ) (ts : List Tree) → ArePieces th f ts → norm th (node f ts) ≡ over_list (th f) f ts
norm_of_list th f ts p =
    norm-node th f ts
    ∙ ap (λ us. finish (th f).assoc (th f).id (th f).succ f (arrange (th f).comm (all_pieces (th f).assoc (th f).id f us))) (normal ts p)
    ∙ ap (λ us. finish (th f).assoc (th f).id (th f).succ f (arrange (th f).comm us)) (pieces_all th (th f).assoc (th f).id f ts (whole ts p))
  where
    normal : (us : List Tree) → ArePieces th f us → map (norm th) us ≡ us
    normal [] q = refl
    normal (u ∷ us) q = ap₂ (λ v vs. v ∷ vs) q.0 (normal us q.2)

    whole : (us : List Tree) → ArePieces th f us → Each (IsPiece (th f).assoc (th f).id f) us
    whole [] q = tt
    whole (u ∷ us) q = (q.1, whole us q.2)

pub not_too_deep : (th : ℕ → Theory) (t : Tree) → IsWithin th t → IsCause th t TooDeep → ⊥
not_too_deep th t within cause = omega (arith, within.shallow, cause)

pub no_overflow : (th : ℕ → Theory) (t : Tree) → IsWithin th t → IsCause th t Overflow → ⊥
no_overflow th t within cause = let yes = cause.1 in let no = within.no_overflow in cc (yes, no)
