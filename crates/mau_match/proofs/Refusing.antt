-- What is refused step by step, while the store grows, is never so.
use Rattle.std.proofs.Common.{◌≡◌, ◌⊎◌, ℕ, ◌+◌, ◌-◌, ◌==◌, ◌<◌, ◌≤◌, List, [], ◌∷◌, ◌++◌, map, length, take, drop, get_or, Bool, true, false, Option, Some, None, inl, inr, if◌then◌else◌, refl, sym, ◌∙◌, ap, ap₂, subst, arith, eq-eqb, length-append}
use Rattle.std.specs.Ordering.{is_gt}
use Rattle.std.proofs.lemmas.List.{take_more, take_rest, map-append}
use Rattle.mau_terms.specs.Tree.{Tree, apply, node, Trees, no_trees, tree, trees_of}
use Rattle.mau_terms.specs.Order.{tree_cmp, sort_trees}
use Rattle.mau_terms.specs.Norm.{unit_tree, all_pieces, arrange, build, norm, norms}
use Rattle.mau_terms.specs.Lawful.{AreLawful}
use Rattle.mau_terms.specs.Subst.{Variable, instance, instances}
use Rattle.mau_terms.specs.Solution.{list_under}
use Rattle.mau_terms.specs.Finite.{IsIn, units_of}
use Rattle.mau_terms.specs.View.{tree_of}
use Rattle.mau_terms.specs.declared.theory.Identity.{Identity}
use Rattle.mau_terms.specs.declared.theory.Identity.TheVariants.{Const, Num}
use Rattle.mau_terms.specs.declared.theory.Theory.{Theory}
use Rattle.mau_terms.specs.declared.ids.TermId.{TermId}
use Rattle.mau_terms.specs.declared.bare.Bare.{Bare}
use Rattle.mau_terms.proofs.Finite.{length-arrange}
use Rattle.mau_terms.proofs.Pieces.{Split, unit, many, one, split, same_arguments}
use Rattle.mau_terms.proofs.Normal.{norms_normal}
use Rattle.mau_signature.specs.Signature.{SignatureOf, theory_at}
use Rattle.mau_store.specs.Node.{Node, Extends}
use Rattle.mau_store.specs.Trees.{tree_at, trees_at}
use Rattle.mau_store.specs.View.{numbers}
use Rattle.mau_store.proofs.Growth.{trees_at-extends}
use Rattle.mau_canon.proofs.Standing.{stand_there}
use Rattle.mau_canon.proofs.Values.{values_in-extends}
use Rattle.mau_domains.specs.Parts.{Reach, whole, inside, Part, just, IsOf, Reaches}
use Rattle.mau_domains.specs.Stored.{reach_of}
use Rattle.mau_match.specs.Parts.{headed, is_bound, are_bound, alone_in, lists_in, apart_from, known_in, without_all, least_lengths, too_few_for, IsFair, AreFair}
use Rattle.mau_match.specs.Possible.{Agrees, AgreesIn, IsNever, IsNeverPlaced, AreNever, AreNeverSorted, AreNeverJoined, IsNeverAmong, AreNeverAmong, AreNeverLeft, free, frees}
use Rattle.mau_match.specs.Limited.{AreLimited}
use Rattle.mau_match.specs.Walked.{bound_of, values_of, target_of, span_in, AreGivenWithin, IsSpanWithin}
use Rattle.mau_match.specs.declared.part.Given.{Given}
use Rattle.mau_match.specs.declared.part.Span.{Span}
use Rattle.mau_match.proofs.Builds.{IsFolded, Built, placed, counted, folded, built_other}
use Rattle.mau_match.proofs.KnownElements.{bound_norm}
use Rattle.mau_match.proofs.Lengths.{not_too_few}
use Rattle.mau_match.proofs.NothingMissed.{Way, ways, alone_value, only_placed, head_op}
use Rattle.mau_match.proofs.Impossible.{any_order, reaches_left, reaches_right, free_part, known_there}

-- ---- the store grows

module _ (s : SignatureOf) (old new : List Node) (e : Extends old new) (g : Given) (w : AreGivenWithin s old g) where
  pub agrees_stay : (gg : Variable → Tree) → AgreesIn s old g gg → AgreesIn s new g gg
  agrees_stay gg h = record {
    agrees = subst (λ v. Agrees (theory_at s) (bound_of g) v gg) (sym (values_in-extends (theory_at s) old new g.variables g.values e w)) h.agrees;
    limited = h.limited;
  }

  pub never_before : (p : Tree) (q' q : Part) → q' ≡ q → IsNever s new g p q' → IsNever s old g p q
  never_before p q' q k h gg ag fair o = h gg (agrees_stay gg ag) fair (subst (λ r. IsOf (theory_at s) r (norm (theory_at s) (instance gg p))) (sym k) o)

  pub joined_before : (f : ℕ) (ps : Trees) (l' l : Reach × List Tree) → l' ≡ l → AreNeverJoined s new g f ps l' → AreNeverJoined s old g f ps l
  joined_before f ps l' l k h gg ag fair o = h gg (agrees_stay gg ag) fair (subst (λ r. Reaches (theory_at s f).comm r.0 (all_pieces (theory_at s f).assoc (theory_at s f).id f (norms (theory_at s) (instances gg ps))) r.1) (sym k) o)

pub span_stays : (s : SignatureOf) (old new : List Node) → Extends old new → (l : Span) → IsSpanWithin s old l → span_in new l ≡ span_in old l
span_stays s old new e l w = ap (λ ts. (reach_of l.reach, ts)) (trees_at-extends old new (numbers l.items.items) e (stand_there (theory_at s) old (numbers l.items.items) w))

pub spans_more : (nodes : List Node) (ls : List Span) (i : ℕ) (d : Span) → i < length ls → map (span_in nodes) (take (i + 1) ls) ≡ map (span_in nodes) (take i ls) ++ span_in nodes (get_or ls i d) ∷ []
spans_more nodes ls i d h = ap (map (span_in nodes)) (take_more ls i d h) ∙ map-append (span_in nodes) (take i ls) (get_or ls i d ∷ [])

pub in_more : {A : Type 0} (xs : List A) (y v : A) → IsIn v (xs ++ y ∷ []) → IsIn v xs ⊎ (v ≡ y)
in_more [] y v (inl e) = inr e
in_more [] y v (inr h) = absurd h
in_more (x ∷ xs) y v (inl e) = inl (inl e)
in_more (x ∷ xs) y v (inr h) = later (in_more xs y v h)
  where
    later : IsIn v xs ⊎ (v ≡ y) → IsIn v (x ∷ xs) ⊎ (v ≡ y)
    later (inl k) = inl (inr k)
    later (inr k) = inr k

-- ---- what is known

-- a pattern of which all is known has one value
pub never_known : (s : SignatureOf) (nodes : List Node) (g : Given) (p : Tree) (q : Part) → is_bound (bound_of g) p ≡ true → (v : Tree) → v ≡ norm (theory_at s) (instance (values_of nodes g) p) → (IsOf (theory_at s) q v → ⊥) → IsNever s nodes g p q
never_known s nodes g p q b v k h gg ag fair o =
    h (subst (IsOf (theory_at s) q) (sym (k ∙ bound_norm (theory_at s) (bound_of g) (values_of nodes g) gg (target_of g) ag.agrees p b)) o)

-- ---- operators that are not associative

module _ (s : SignatureOf) (lawful : AreLawful (theory_at s)) (nodes : List Node) (g : Given) (f : ℕ) (ps : Trees) (plain : (theory_at s f).assoc ≡ false) (not_succ : (theory_at s f).succ ≡ false) (no_id : (theory_at s f).id ≡ None) where
  built : (gg : Variable → Tree) → AgreesIn s nodes g gg → IsFair (theory_at s) gg (apply f ps) → build (theory_at s f) f (norms (theory_at s) (instances gg ps)) ≡ node f (arrange (theory_at s f).comm (norms (theory_at s) (instances gg ps)))
  built gg ag fair = only_placed (theory_at s) lawful (bound_of g) (values_of nodes g) gg (target_of g) ag.agrees f plain not_succ no_id (norms (theory_at s) (instances gg ps)) fair.0

  pub never_at_placed : (v : Tree) → IsNeverPlaced s nodes g f ps v → IsNever s nodes g (apply f ps) (just v)
  never_at_placed v h gg ag fair o = h gg ag fair.1 (sym (built gg ag fair) ∙ o)

  -- if it is none of the terms of a part, it is not of the part
  pub never_alone : (q : Part) → ((v : Tree) → IsIn v (alone_in (theory_at s) q) → IsNever s nodes g (apply f ps) (just v)) → IsNever s nodes g (apply f ps) q
  never_alone q h gg ag fair o =
      let v = build (theory_at s f) f (norms (theory_at s) (instances gg ps)) in
      h v (alone_value (theory_at s) lawful (bound_of g) (values_of nodes g) gg (target_of g) ag.agrees f plain no_id (norms (theory_at s) (instances gg ps)) fair.0 q o) gg ag fair refl

-- ---- arguments at their places

module _ (s : SignatureOf) (nodes : List Node) (g : Given) (f : ℕ) (ps : Trees) (v : Tree) where
  pub placed_pair : (es : List Tree) → (theory_at s f).comm ≡ true → v ≡ node f es → AreNeverSorted s nodes g ps es → IsNeverPlaced s nodes g f ps v
  placed_pair es m e h gg ag fair o =
      let zs = norms (theory_at s) (instances gg ps) in
      let k : arrange (theory_at s f).comm zs ≡ es = same_arguments f f (arrange (theory_at s f).comm zs) es (o ∙ e) in
      h gg ag fair (subst (λ d. arrange d zs ≡ es) m k)

  pub placed_stand : (es : List Tree) → (theory_at s f).comm ≡ false → v ≡ node f es → AreNever s nodes g ps es → IsNeverPlaced s nodes g f ps v
  placed_stand es m e h gg ag fair o =
      let zs = norms (theory_at s) (instances gg ps) in
      let k : arrange (theory_at s f).comm zs ≡ es = same_arguments f f (arrange (theory_at s f).comm zs) es (o ∙ e) in
      h gg ag fair (subst (λ d. arrange d zs ≡ es) m k)

  pub placed_other : headed f v ≡ false → IsNeverPlaced s nodes g f ps v
  placed_other e gg ag fair o =
      let k : headed f v ≡ true = ap (headed f) (sym o) ∙ eq-eqb f f refl in
      let n : true ≡ false = sym k ∙ e in
      absurd (cc)

  -- an operator with an identity has its arguments at their places, or one of them is the identity and the other is the term
  pub never_united : (theory_at s f).assoc ≡ false → (theory_at s f).succ ≡ false → (i : Identity) → (theory_at s f).id ≡ Some i → IsNeverPlaced s nodes g f ps v
      → AreNever s nodes g ps (unit_tree i ∷ v ∷ []) → AreNever s nodes g ps (v ∷ unit_tree i ∷ []) → IsNever s nodes g (apply f ps) (just v)
  never_united plain not_succ i id places first second gg ag fair o = by (built_other (theory_at s) f zs plain fair.0.two_by_unit)
    where
      zs : List Tree
      zs = norms (theory_at s) (instances gg ps)

      by : Built (theory_at s f) f zs (build (theory_at s f) f zs) → ⊥
      by (placed es e k nc) = places gg ag fair.1 (ap (node f) nc ∙ sym e ∙ o)
      by (counted n q e k) = let no : false ≡ true = sym not_succ ∙ q in absurd (cc)
      by (folded j u e) = one (let k : Some j ≡ Some i = sym u ∙ id in cc) e
        where
          one : j ≡ i → IsFolded j zs (build (theory_at s f) f zs) → ⊥
          one k (inl q) = first gg ag fair.1 (q ∙ ap₂ (λ a b. a ∷ b ∷ []) (ap unit_tree k) o)
          one k (inr q) = second gg ag fair.1 (q ∙ ap₂ (λ a b. a ∷ b ∷ []) o (ap unit_tree k))

-- two terms in one order or the other
abbrev IsPaired : Tree → Tree → List Tree → Type 0
IsPaired z z' es = (es ≡ z ∷ z' ∷ []) ⊎ (es ≡ z' ∷ z ∷ [])

paired : (z z' : Tree) (es : List Tree) → arrange true (z ∷ z' ∷ []) ≡ es → IsPaired z z' es
paired z z' es e = by (is_gt (tree_cmp z z')) e
  where
    by : (b : Bool) → (if b then z' ∷ z ∷ [] else z ∷ z' ∷ []) ≡ es → IsPaired z z' es
    by true k = inr (sym k)
    by false k = inl (sym k)

pub never_sorted : (s : SignatureOf) (nodes : List Node) (g : Given) (bs : List Bare) (t u : Tree) → length bs ≡ 2 → AreNever s nodes g (trees_of (map tree_of bs)) (t ∷ u ∷ []) → AreNever s nodes g (trees_of (map tree_of bs)) (u ∷ t ∷ []) → AreNeverSorted s nodes g (trees_of (map tree_of bs)) (t ∷ u ∷ [])
never_sorted s nodes g [] t u l h k gg ag fair o = absurd (omega (arith, l))
never_sorted s nodes g (b ∷ []) t u l h k gg ag fair o = absurd (omega (arith, l))
never_sorted s nodes g (b ∷ d ∷ e ∷ bs) t u l h k gg ag fair o = absurd (omega (arith, l))
never_sorted s nodes g (b ∷ d ∷ []) t u l h k gg ag fair o = by (paired z z' (t ∷ u ∷ []) o)
  where
    z : Tree
    z = norm (theory_at s) (instance gg (tree_of b))

    z' : Tree
    z' = norm (theory_at s) (instance gg (tree_of d))

    by : IsPaired z z' (t ∷ u ∷ []) → ⊥
    by (inl e) = h gg ag fair (sym e)
    by (inr e) = k gg ag fair (let i : z ≡ u = cc in let j : z' ≡ t = cc in ap₂ (λ v w. v ∷ w ∷ []) i j)

-- ---- arguments one after another

module _ (s : SignatureOf) (nodes : List Node) (g : Given) (p : Tree) (ps : Trees) where
  pub never_first : (t : Tree) (ts : List Tree) → IsNever s nodes g p (just t) → AreNever s nodes g (tree p ps) (t ∷ ts)
  never_first t ts h gg ag fair o = h gg ag fair.0 (let e : norm (theory_at s) (instance gg p) ≡ t = cc in e)

  pub never_rest : (t : Tree) (ts : List Tree) → AreNever s nodes g ps ts → AreNever s nodes g (tree p ps) (t ∷ ts)
  never_rest t ts h gg ag fair o = h gg ag fair.1 (let e : norms (theory_at s) (instances gg ps) ≡ ts = cc in e)

  pub never_none : AreNever s nodes g (tree p ps) []
  never_none gg ag fair o = cc

  pub never_first_among : (f : ℕ) (us : List Tree) → IsNeverAmong s nodes g f p us → AreNeverAmong s nodes g f (tree p ps) us
  never_first_among f us h gg ag fair o = h gg ag fair.0 (reaches_left (free (theory_at s) (bound_of g) gg f p) (frees (theory_at s) (bound_of g) gg f ps) us o)

  pub never_rest_among : (f : ℕ) (us : List Tree) → AreNeverAmong s nodes g f ps us → AreNeverAmong s nodes g f (tree p ps) us
  never_rest_among f us h gg ag fair o = h gg ag fair.1 (reaches_right (free (theory_at s) (bound_of g) gg f p) (frees (theory_at s) (bound_of g) gg f ps) us o)

pub are_before : (s : SignatureOf) (old new : List Node) → Extends old new → (g : Given) → AreGivenWithin s old g → (ps : Trees) (es' es : List Tree) → es' ≡ es → AreNever s new g ps es' → AreNever s old g ps es
are_before s old new e g w ps es' es k h gg ag fair o = h gg (agrees_stay s old new e g w gg ag) fair (o ∙ sym k)

-- the same of an operator with an identity, whose number is found while the store grows
pub united_before : (s : SignatureOf) (old new : List Node) → Extends old new → (g : Given) → AreGivenWithin s old g → (f : ℕ) (ps : Trees) (v v' u : Tree) → v' ≡ v → u ∷ [] ≡ units_of (theory_at s f).id → (theory_at s f).assoc ≡ false → (theory_at s f).succ ≡ false
    → IsNeverPlaced s old g f ps v → AreNever s new g ps (u ∷ v' ∷ []) × AreNever s new g ps (v' ∷ u ∷ []) → IsNever s old g (apply f ps) (just v)
united_before s old new e g w f ps v v' u k is plain not_succ places both = by (theory_at s f).id refl is
  where
    by : (o : Option Identity) → (theory_at s f).id ≡ o → u ∷ [] ≡ units_of o → IsNever s old g (apply f ps) (just v)
    by None n q = cc
    by (Some i) n q =
        let m : u ≡ unit_tree i = cc in
        never_united s old g f ps v plain not_succ i n places (are_before s old new e g w ps (u ∷ v' ∷ []) (unit_tree i ∷ v ∷ []) (ap₂ (λ a b. a ∷ b ∷ []) m k) both.0)
        (are_before s old new e g w ps (v' ∷ u ∷ []) (v ∷ unit_tree i ∷ []) (ap₂ (λ a b. a ∷ b ∷ []) k m) both.1)

pub among_before : (s : SignatureOf) (old new : List Node) → Extends old new → (g : Given) → AreGivenWithin s old g → (f : ℕ) (ps : Trees) (us' us : List Tree) → us' ≡ us → AreNeverAmong s new g f ps us' → AreNeverAmong s old g f ps us
among_before s old new e g w f ps us' us k h gg ag fair o = h gg (agrees_stay s old new e g w gg ag) fair (subst (Reaches true inside (frees (theory_at s) (bound_of g) gg f ps)) (sym k) o)

pub left_before : (s : SignatureOf) (old new : List Node) → Extends old new → (g : Given) → AreGivenWithin s old g → (f : ℕ) (ps : Trees) (r : Reach) (us' us : List Tree) → us' ≡ us → AreNeverLeft s new g f ps r us' → AreNeverLeft s old g f ps r us
left_before s old new e g w f ps r us' us k h gg ag fair o = h gg (agrees_stay s old new e g w gg ag) fair (subst (Reaches true r (frees (theory_at s) (bound_of g) gg f ps)) (sym k) o)

pub ids_split : (nodes : List Node) (ids : List TermId) (d : TermId) → 1 ≤ length ids → trees_at nodes (numbers ids) ≡ tree_at nodes (get_or ids 0 d).0 ∷ trees_at nodes (numbers (take (length ids - 1) (drop 1 ids)))
ids_split nodes [] d l = absurd (omega arith)
ids_split nodes (i ∷ is) d l = ap (λ w. tree_at nodes i.0 ∷ trees_at nodes (numbers w)) (sym (take_rest (i ∷ is) 1))

pub two_ids : (nodes : List Node) (ids : List TermId) (d : TermId) → length ids ≡ 2 → trees_at nodes (numbers ids) ≡ tree_at nodes (get_or ids 0 d).0 ∷ tree_at nodes (get_or ids 1 d).0 ∷ []
two_ids nodes [] d l = absurd (omega (arith, l))
two_ids nodes (i ∷ []) d l = absurd (omega (arith, l))
two_ids nodes (i ∷ j ∷ k ∷ is) d l = absurd (omega (arith, l))
two_ids nodes (i ∷ j ∷ []) d l = refl

-- ---- associative operators

module _ (s : SignatureOf) (lawful : AreLawful (theory_at s)) (nodes : List Node) (g : Given) (f : ℕ) (ps : Trees) (a : (theory_at s f).assoc ≡ true) where
  -- if its lists are none of a part's, it is not of the part
  pub never_listed : (q : Part) (ls : List (Reach × List Tree)) → ls ≡ lists_in (theory_at s) f q → ((l : Reach × List Tree) → IsIn l ls → AreNeverJoined s nodes g f ps l)
      → ((i : Identity) → IsIn q (apart_from (theory_at s) f q) → (theory_at s f).id ≡ Some i → ⊥) → IsNever s nodes g (apply f ps) q
  never_listed q ls e h none gg ag fair o = by (ways (theory_at s) lawful (bound_of g) (values_of nodes g) gg (target_of g) ag.agrees f a zs (norms_normal (theory_at s) lawful (instances gg ps)) fair.0 q o)
    where
      zs : List Tree
      zs = norms (theory_at s) (instances gg ps)

      by : Way (theory_at s) lawful (bound_of g) (values_of nodes g) gg (target_of g) ag.agrees f zs q → ⊥
      by (inl w) = h w.0 (subst (IsIn w.0) (sym e) w.1) gg ag fair w.2
      by (inr w) = none w.1.0 w.0 w.1.1

  pub never_few : (l : Reach × List Tree) → too_few_for (theory_at s f).id (length l.1) (least_lengths f ps) ≡ true → AreNeverJoined s nodes g f ps l
  never_few l k gg ag fair o =
      let n : too_few_for (theory_at s f).id (length l.1) (least_lengths f ps) ≡ false = not_too_few (theory_at s) lawful gg f a ps fair.1 (λ u. fair.0.filled a u) l.0 l.1 o in
      let c : true ≡ false = sym k ∙ n in
      absurd (cc)

  module _ (r : Reach) (ts : List Tree) where
    pub never_joined : (us : List Tree) → without_all (known_in (theory_at s) (bound_of g) (values_of nodes g) (target_of g) f ps) ts ≡ Some us → AreNeverLeft s nodes g f ps r us → AreNeverJoined s nodes g f ps (r, ts)
    never_joined us e h gg ag fair o =
        h gg ag fair.1
        (free_part (theory_at s) (bound_of g) (values_of nodes g) gg (target_of g) ag.agrees lawful f a ps r ts us e
        (any_order (theory_at s f).comm r (all_pieces (theory_at s f).assoc (theory_at s f).id f (norms (theory_at s) (instances gg ps))) ts o))

    pub never_there : without_all (known_in (theory_at s) (bound_of g) (values_of nodes g) (target_of g) f ps) ts ≡ None → AreNeverJoined s nodes g f ps (r, ts)
    never_there e gg ag fair o =
        known_there (theory_at s) (bound_of g) (values_of nodes g) gg (target_of g) ag.agrees lawful f a ps r ts e
        (any_order (theory_at s f).comm r (all_pieces (theory_at s f).assoc (theory_at s f).id f (norms (theory_at s) (instances gg ps))) ts o)

-- what is not among some items is no part of them
pub never_left : (s : SignatureOf) (nodes : List Node) (g : Given) (f : ℕ) (ps : Trees) (r : Reach) (us : List Tree) → AreNeverAmong s nodes g f ps us → AreNeverLeft s nodes g f ps r us
never_left s nodes g f ps r us h gg ag fair o = h gg ag fair (record { left = o.left; right = o.right; leaves = tt; all = o.all })

-- what is less than all items is not all of them
pub never_all : (s : SignatureOf) (nodes : List Node) (g : Given) (f : ℕ) (ps : Trees) (r : Reach) (us : List Tree) → r ≡ whole
    → ((gg : Variable → Tree) → AreLimited (theory_at s) g.limits gg → AreFair (theory_at s) gg ps → length (frees (theory_at s) (bound_of g) gg f ps) < length us) → AreNeverLeft s nodes g f ps r us
never_all s nodes g f ps r us e h gg ag fair o =
    let fs = frees (theory_at s) (bound_of g) gg f ps in
    let k : Reaches true whole fs us = subst (λ q. Reaches true q fs us) e o in
    omega (arith, h gg ag.limited fair, ap length k.leaves.0, ap length k.leaves.1, ap length k.all, length-sort (k.left ++ (fs ++ k.right)), length-sort us, length-append k.left (fs ++ k.right), length-append fs k.right)
  where
    length-sort : (ts : List Tree) → length (sort_trees ts) ≡ length ts
    length-sort ts = length-arrange true ts

-- an operator that is not known, over arguments
module _ (th : ℕ → Theory) (bound : List Variable) (gg : Variable → Tree) (f h : ℕ) (ps : Trees) (nb : are_bound bound ps ≡ false) where
  pub free_other : (h == f) ≡ false → free th bound gg f (apply h ps) ≡ list_under (th f) f (norm th (instance gg (apply h ps)))
  free_other e =
      ap (λ b. if b then [] else if h == f then frees th bound gg f ps else list_under (th f) f (norm th (instance gg (apply h ps)))) nb
      ∙ ap (λ b. if b then frees th bound gg f ps else list_under (th f) f (norm th (instance gg (apply h ps)))) e

  pub free_same : (h == f) ≡ true → free th bound gg f (apply h ps) ≡ frees th bound gg f ps
  free_same e =
      ap (λ b. if b then [] else if h == f then frees th bound gg f ps else list_under (th f) f (norm th (instance gg (apply h ps)))) nb
      ∙ ap (λ b. if b then frees th bound gg f ps else list_under (th f) f (norm th (instance gg (apply h ps)))) e

-- what is not known of a pattern with a plain top is one element
pub plain_alone : (th : ℕ → Theory) (lawful : AreLawful th) (bound : List Variable) (gg : Variable → Tree) (f h : ℕ) (ps : Trees) → (h == f) ≡ false → (th h).assoc ≡ false → (th h).succ ≡ false → (th h).id ≡ None → are_bound bound ps ≡ false → IsFair th gg (apply h ps)
    → length (free th bound gg f (apply h ps)) ≡ 1
plain_alone th lawful bound gg f h no_trees e a n u nb fair = cc
plain_alone th lawful bound gg f h (tree p ps) e a n u nb fair =
    subst (λ l. length l ≡ 1) (sym (free_other th bound gg f h (tree p ps) nb e)) (by (split (th f).assoc (th f).id f v))
  where
    zs : List Tree
    zs = norms th (instances gg (tree p ps))

    v : Tree
    v = norm th (instance gg (apply h (tree p ps)))

    is : norm th (instance gg (apply h (tree p ps))) ≡ node h (arrange (th h).comm (norms th (instances gg (tree p ps))))
    is = only_placed th lawful [] gg gg (0, 0) (λ y k. cc) h a n u zs fair.0

    some : (ts : List Tree) → ts ≡ arrange (th h).comm zs → 1 ≤ length ts
    some ts k = omega (arith, ap length k, length-arrange (th h).comm zs)

    not_unit : (i : Identity) → v ≡ unit_tree i → ⊥
    not_unit i k = at i (arrange (th h).comm zs) (some (arrange (th h).comm zs) refl) (sym is ∙ k)
      where
        at : (i : Identity) (ts : List Tree) → 1 ≤ length ts → node h ts ≡ unit_tree i → ⊥
        at (Const d) [] l q = absurd (omega arith)
        at (Const d) (t ∷ ts) l q = cc
        at (Num m) ts l q = cc

    by : Split (th f).assoc (th f).id f v → length (list_under (th f) f v) ≡ 1
    by (unit i k q l) = absurd (not_unit i q)
    by (one q) = ap length q
    by (many ts b k q) =
        let m : h ≡ f = head_op h f (trees_of (arrange (th h).comm zs)) ts (sym is ∙ k) in
        let d : true ≡ false = sym (eq-eqb h f m) ∙ e in
        absurd (cc)

pub plain_there : (th : ℕ → Theory) (lawful : AreLawful th) (bound : List Variable) (gg : Variable → Tree) (f h : ℕ) (ps : Trees) (p : Tree) → p ≡ apply h ps → (h == f) ≡ false → (th h).assoc ≡ false → (th h).succ ≡ false → (th h).id ≡ None → is_bound bound p ≡ false → IsFair th gg p
    → length (free th bound gg f p) ≡ 1
plain_there th lawful bound gg f h ps p k e a n u nb fair =
    subst (λ w. length (free th bound gg f w) ≡ 1) (sym k) (plain_alone th lawful bound gg f h ps e a n u (sym (ap (is_bound bound) k) ∙ nb) (subst (IsFair th gg) k fair))
