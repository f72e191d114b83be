-- Variables that few values are left for: what their values are, and that a variable with a value is given.
use Rattle.std.proofs.Common.{◌≡◌, ◌⊎◌, ℕ, ◌+◌, ◌≤◌, ◌<◌, List, [], ◌∷◌, ◌++◌, ◌||◌, map, length, take, All, Contains, get_or, Bool, true, false, Option, Some, None, Vec, Global, IfSome, inl, inr, if◌then◌else◌, refl, sym, ◌∙◌, ap, ap₂, subst, arith}
use Rattle.std.proofs.lemmas.List.{take_more, map-append}
use Rattle.std.proofs.lemmas.List.Elements.{All-nil, All-cons, All-push}
use Rattle.mau_terms.specs.Tree.{Tree}
use Rattle.mau_terms.specs.Norm.{norm, finish}
use Rattle.mau_terms.specs.Lawful.{AreLawful}
use Rattle.mau_terms.specs.Subst.{Variable, same_variable, has_variable, instance}
use Rattle.mau_terms.specs.Solution.{list_under, over_list}
use Rattle.mau_terms.specs.Finite.{IsIn, units_of}
use Rattle.mau_terms.specs.View.{variable_of}
use Rattle.mau_terms.specs.declared.ids.OpId.{OpId}
use Rattle.mau_terms.specs.declared.ids.TermId.{TermId}
use Rattle.mau_terms.specs.declared.ids.VarId.{VarId}
use Rattle.mau_terms.specs.declared.theory.Identity.{Identity}
use Rattle.mau_terms.specs.declared.theory.Theory.{Theory}
use Rattle.mau_terms.proofs.Finite.{in_left, in_right, over_its_list, finish_true_one}
use Rattle.mau_terms.proofs.Normal.{norm-norm}
use Rattle.mau_terms.proofs.Pieces.{arrange_none, arrange_one}
use Rattle.mau_terms.proofs.Variables.{same-is}
use Rattle.mau_signature.specs.Signature.{SignatureOf, theory_at}
use Rattle.mau_store.specs.Node.{Node, Extends}
use Rattle.mau_store.specs.Trees.{tree_at, trees_at}
use Rattle.mau_store.specs.View.{numbers}
use Rattle.mau_store.proofs.Growth.{trees_at-extends}
use Rattle.mau_canon.specs.Standing.{StandsWithin, StandWithin}
use Rattle.mau_canon.proofs.Standing.{stand_there, stand_within_extended}
use Rattle.mau_canon.specs.Values.{values_in}
use Rattle.mau_canon.proofs.Elements.{trees_at-append}
use Rattle.mau_listing.proofs.Answered.{normal_is}
use Rattle.mau_listing.proofs.Growth.{trees_long}
use Rattle.mau_domains.specs.Parts.{Reach, Part, just, some_of, IsOf}
use Rattle.mau_domains.specs.Stored.{part_in, reach_of, AddsTerms}
use Rattle.mau_domains.specs.declared.part.Part.{Part as PartOfCode}
use Rattle.mau_domains.specs.declared.part.Part.TheVariants.{One, ListOf}
use Rattle.mau_domains.specs.declared.part.Reach.{Reach as ReachOfCode}
use Rattle.mau_domains.specs.Parts.{Reaches}
use Rattle.mau_match.specs.Parts.{AnyOf, IsFair, alone_in, occurs}
use Rattle.mau_match.specs.Limited.{AreLimited, long_at}
use Rattle.mau_match.specs.Possible.{Agrees, AgreesIn}
use Rattle.mau_match.specs.Led.{IsAdded, AreAllValues, AreNeverWith, GainsValues, GathersValues, IsChoice}
use Rattle.mau_match.specs.Walked.{parts_in, bound_of, values_of, target_of, AreGivenWithin, AddsParts, walked}
use Rattle.mau_match.specs.declared.lead.Choice.{Choice}
use Rattle.mau_match.specs.declared.part.Given.{Given}
use Rattle.mau_match.specs.declared.part.Limit.{Limit}
use Rattle.mau_match.proofs.Adding.{trees_more}
use Rattle.mau_match.proofs.Lengths.{reach_length}
use Rattle.mau_match.proofs.NothingMissed.{walk}
use Rattle.mau_match.proofs.Refusing.{agrees_stay, in_more}
use Rattle.mau_match.proofs.Sound.{one_reaches}

-- ---- values with one element or none

module _ (th : ℕ → Theory) (lawful : AreLawful th) (f : ℕ) (a : (th f).assoc ≡ true) (r : Reach) (ts : List Tree) (v : Tree) (n : norm th v ≡ v) (o : IsOf th (some_of r f ts) v) where
  over : over_list (th f) f (list_under (th f) f v) ≡ v
  over = over_its_list th f v a (normal_is th lawful v n)

  one_item : (t : Tree) → list_under (th f) f v ≡ t ∷ [] → IsIn v ts
  one_item t e =
      let same : t ≡ v =
      sym
      (ap (over_list (th f) f) e
      ∙ ap (finish (th f).assoc (th f).id (th f).succ f) (arrange_one (th f).comm t)
      ∙ ap (λ b. finish b (th f).id (th f).succ f (t ∷ [])) a
      ∙ finish_true_one (th f).id (th f).succ f t)
      ∙ over in
      one_reaches (th f).comm r v ts (subst (λ l. Reaches (th f).comm r l ts) (e ∙ ap (λ w. w ∷ []) same) o)

  no_item : (u : Option Identity) → (th f).id ≡ u → (u ≡ None → ⊥) → list_under (th f) f v ≡ [] → IsIn v (units_of u)
  no_item None k some e = absurd (some refl)
  no_item (Some i) k some e =
      inl
      (sym over
      ∙ ap (over_list (th f) f) e
      ∙ ap (finish (th f).assoc (th f).id (th f).succ f) (arrange_none (th f).comm)
      ∙ ap₂ (λ b u. finish b u (th f).succ f []) a k)

  pub some_item : length (list_under (th f) f v) ≤ 1 → 1 ≤ length (list_under (th f) f v) → IsIn v ts
  some_item = by (list_under (th f) f v) refl
    where
      by : (l : List Tree) → list_under (th f) f v ≡ l → length l ≤ 1 → 1 ≤ length l → IsIn v ts
      by [] e h k = absurd (omega (arith, k))
      by (t ∷ []) e h k = one_item t e
      by (t ∷ u ∷ l) e h k = absurd (omega (arith, h))

  pub item_or_unit : length (list_under (th f) f v) ≤ 1 → ((th f).id ≡ None → ⊥) → IsIn v (units_of (th f).id ++ ts)
  item_or_unit h some = by (list_under (th f) f v) refl h
    where
      by : (l : List Tree) → list_under (th f) f v ≡ l → length l ≤ 1 → IsIn v (units_of (th f).id ++ ts)
      by [] e h = in_left v (units_of (th f).id) ts (no_item (th f).id refl some e)
      by (t ∷ []) e h = in_right v (units_of (th f).id) ts (one_item t e)
      by (t ∷ u ∷ l) e h = absurd (omega (arith, h))

-- ---- what is added

module _ (s : SignatureOf) (lawful : AreLawful (theory_at s)) (ls : List Limit) (x : VarId) (old new : List Node) (before after : List TermId) where
  -- a term alone
  pub gains_one : (id : TermId) → AddsTerms s old new before after (tree_at old id.0 ∷ []) → GainsValues s ls x old new (One id) before after
  gains_one id h = record {
    within = h.within;
    kept = λ v i. subst (IsIn v) (sym h.terms) (in_left v (trees_at old (numbers before)) (tree_at old id.0 ∷ []) i);
    values = λ gg limited o. subst (IsIn (norm (theory_at s) (gg (variable_of x)))) (sym h.terms) (in_right (norm (theory_at s) (gg (variable_of x))) (trees_at old (numbers before)) (tree_at old id.0 ∷ []) (inl o));
  }

  -- a list of which there are too few, or of which a value has one element or none
  module _ (r : ReachOfCode) (op : OpId) (items : List TermId) (a : (theory_at s op.0).assoc ≡ true) where
    abbrev IsItem : (Variable → Tree) → Type 0
    IsItem gg = IsOf (theory_at s) (some_of (reach_of r) op.0 (trees_at old (numbers items))) (norm (theory_at s) (gg (variable_of x)))

    among : (gg : Variable → Tree) → IsItem gg → long_at (theory_at s) gg op.0 (variable_of x) ≤ length items
    among gg o =
        omega (arith, trees_long old items, reach_length (theory_at s op.0).comm (reach_of r) (list_under (theory_at s op.0) op.0 (norm (theory_at s) (gg (variable_of x)))) (trees_at old (numbers items)) o)

    pub gains_none : StandWithin (theory_at s) old (numbers before) → (least : ℕ) → length items < least → ((gg : Variable → Tree) → AreLimited (theory_at s) ls gg → least ≤ long_at (theory_at s) gg op.0 (variable_of x)) → GainsValues s ls x old old (ListOf r op items) before before
    gains_none w least few h = record {
      within = w;
      kept = λ v i. i;
      values = λ gg limited o. absurd (omega (arith, few, h gg limited, among gg o));
    }

    abbrev IsShort : Type 0
    IsShort = (gg : Variable → Tree) → AreLimited (theory_at s) ls gg → long_at (theory_at s) gg op.0 (variable_of x) ≤ length items → long_at (theory_at s) gg op.0 (variable_of x) ≤ 1

    pub gains_items : StandWithin (theory_at s) old (numbers after) → after ≡ before ++ items → IsShort → ((gg : Variable → Tree) → AreLimited (theory_at s) ls gg → 1 ≤ long_at (theory_at s) gg op.0 (variable_of x)) → GainsValues s ls x old old (ListOf r op items) before after
    gains_items w e short some =
        let th = theory_at s in
        let both : trees_at old (numbers after) ≡ trees_at old (numbers before) ++ trees_at old (numbers items) = ap (λ l. trees_at old (numbers l)) e ∙ trees_at-append old before items in
        record {
          within = w;
          kept = λ v i. subst (IsIn v) (sym both) (in_left v (trees_at old (numbers before)) (trees_at old (numbers items)) i);
          values = λ gg limited o.
              subst (IsIn (norm th (gg (variable_of x)))) (sym both)
              (in_right (norm th (gg (variable_of x))) (trees_at old (numbers before)) (trees_at old (numbers items))
              (some_item th lawful op.0 a (reach_of r) (trees_at old (numbers items)) (norm th (gg (variable_of x))) (norm-norm th lawful (gg (variable_of x))) o (short gg limited (among gg o)) (some gg limited)));
        }

    pub gains_alone : AddsTerms s old new before after (alone_in (theory_at s) (some_of (reach_of r) op.0 (trees_at old (numbers items)))) → IsShort → ((theory_at s op.0).id ≡ None → ⊥) → GainsValues s ls x old new (ListOf r op items) before after
    gains_alone h short some =
        let th = theory_at s in
        let more = units_of (th op.0).id ++ trees_at old (numbers items) in
        record {
          within = h.within;
          kept = λ v i. subst (IsIn v) (sym h.terms) (in_left v (trees_at old (numbers before)) more i);
          values = λ gg limited o.
              subst (IsIn (norm th (gg (variable_of x)))) (sym h.terms)
              (in_right (norm th (gg (variable_of x))) (trees_at old (numbers before)) more
              (item_or_unit th lawful op.0 a (reach_of r) (trees_at old (numbers items)) (norm th (gg (variable_of x))) (norm-norm th lawful (gg (variable_of x))) o (short gg limited (among gg o)) some));
        }

-- ---- all values of some parts

pub gathers_none : (s : SignatureOf) (ls : List Limit) (x : VarId) (nodes : List Node) → GathersValues s ls x nodes nodes [] []
gathers_none s ls x nodes = record { within = All-nil (StandsWithin (theory_at s) nodes); values = λ gg limited o. absurd o }

any_split : (th : ℕ → Theory) (qs rs : List Part) (v : Tree) → AnyOf th (qs ++ rs) v → AnyOf th qs v ⊎ AnyOf th rs v
any_split th [] rs v h = inr h
any_split th (q ∷ qs) rs v (inl h) = inl (inl h)
any_split th (q ∷ qs) rs v (inr h) = by (any_split th qs rs v h)
  where
    by : AnyOf th qs v ⊎ AnyOf th rs v → AnyOf th (q ∷ qs) v ⊎ AnyOf th rs v
    by (inl k) = inl (inr k)
    by (inr k) = inr k

-- one part more, while the store grows from mid to new
pub gathers_more : (s : SignatureOf) (ls : List Limit) (x : VarId) (old mid new : List Node) (qs : List PartOfCode) (i : ℕ) (d : PartOfCode) → i < length qs → part_in mid (get_or qs i d) ≡ part_in old (get_or qs i d) → (before after : List TermId)
    → GathersValues s ls x old mid (take i qs) before → GainsValues s ls x mid new (get_or qs i d) before after → GathersValues s ls x old new (take (i + 1) qs) after
gathers_more s ls x old mid new qs i d h same before after g k = record {
  within = k.within;
  values = λ gg limited o.
      let v = norm (theory_at s) (gg (variable_of x)) in
      let split : parts_in old (take (i + 1) qs) ≡ parts_in old (take i qs) ++ part_in old (get_or qs i d) ∷ [] = ap (parts_in old) (take_more qs i d h) ∙ map-append (part_in old) (take i qs) (get_or qs i d ∷ []) in
      by gg limited (any_split (theory_at s) (parts_in old (take i qs)) (part_in old (get_or qs i d) ∷ []) v (subst (λ ps. AnyOf (theory_at s) ps v) split o));
}
  where
    by : (gg : Variable → Tree) → AreLimited (theory_at s) ls gg → AnyOf (theory_at s) (parts_in old (take i qs)) (norm (theory_at s) (gg (variable_of x))) ⊎ AnyOf (theory_at s) (part_in old (get_or qs i d) ∷ []) (norm (theory_at s) (gg (variable_of x)))
        → IsIn (norm (theory_at s) (gg (variable_of x))) (trees_at new (numbers after))
    by gg limited (inl o) = k.kept (norm (theory_at s) (gg (variable_of x))) (g.values gg limited o)
    by gg limited (inr (inl o)) = k.values gg limited (subst (λ q. IsOf (theory_at s) q (norm (theory_at s) (gg (variable_of x)))) (sym same) o)
    by gg limited (inr (inr o)) = absurd o

-- ---- each term once

pub added_keeps : (nodes : List Node) (before : Option TermId) (id : TermId) (old new : List TermId) → IsAdded before id old new → (v : Tree) → IsIn v (trees_at nodes (numbers old)) → IsIn v (trees_at nodes (numbers new))
added_keeps nodes before id old new (inl e) v i = subst (λ l. IsIn v (trees_at nodes (numbers l))) (sym e.0) i
added_keeps nodes before id old new (inr e) v i =
    subst (λ l. IsIn v (trees_at nodes (numbers l))) (sym e)
    (subst (IsIn v) (sym (trees_at-append nodes old (id ∷ []))) (in_left v (trees_at nodes (numbers old)) (trees_at nodes (numbers (id ∷ []))) i))

-- the term itself is there, if the one before it is
pub added_there : (nodes : List Node) (before : Option TermId) (id : TermId) (old new : List TermId) → IsAdded before id old new → IfSome before (λ b. IsIn (tree_at nodes b.0) (trees_at nodes (numbers old))) → IsIn (tree_at nodes id.0) (trees_at nodes (numbers new))
added_there nodes before id old new (inl e) b =
    subst (λ l. IsIn (tree_at nodes id.0) (trees_at nodes (numbers l))) (sym e.0) (subst (λ o. IfSome o (λ b. IsIn (tree_at nodes b.0) (trees_at nodes (numbers old)))) e.1 b)
added_there nodes before id old new (inr e) b =
    subst (λ l. IsIn (tree_at nodes id.0) (trees_at nodes (numbers l))) (sym e)
    (subst (IsIn (tree_at nodes id.0)) (sym (trees_at-append nodes old (id ∷ []))) (in_right (tree_at nodes id.0) (trees_at nodes (numbers old)) (trees_at nodes (numbers (id ∷ []))) (inl refl)))

pub added_among : (before : Option TermId) (id : TermId) (old new ids : List TermId) → IsAdded before id old new → All (Contains ids) old → Contains ids id → All (Contains ids) new
added_among before id old new ids (inl e) all one = subst (All (Contains ids)) (sym e.0) all
added_among before id old new ids (inr e) all one = subst (All (Contains ids)) (sym e) (All-push (Contains ids) old id all one)

-- one term more
pub added_more : (nodes : List Node) (ids : List TermId) (i : ℕ) (d : TermId) → i < length ids → (before : Option TermId) (old new : List TermId) → IsAdded before (get_or ids i d) old new
    → IfSome before (λ b. IsIn (tree_at nodes b.0) (trees_at nodes (numbers old))) → ((v : Tree) → IsIn v (trees_at nodes (numbers (take i ids))) → IsIn v (trees_at nodes (numbers old)))
    → (v : Tree) → IsIn v (trees_at nodes (numbers (take (i + 1) ids))) → IsIn v (trees_at nodes (numbers new))
added_more nodes ids i d lt before old new h b kept v k = by (in_more (trees_at nodes (numbers (take i ids))) (tree_at nodes (get_or ids i d).0) v (subst (IsIn v) (trees_more nodes ids i d lt) k))
  where
    by : IsIn v (trees_at nodes (numbers (take i ids))) ⊎ (v ≡ tree_at nodes (get_or ids i d).0) → IsIn v (trees_at nodes (numbers new))
    by (inl o) = added_keeps nodes before (get_or ids i d) old new h v (kept v o)
    by (inr e) = subst (λ w. IsIn w (trees_at nodes (numbers new))) (sym e) (added_there nodes before (get_or ids i d) old new h b)

-- ---- a variable with a value is given

module _ (s : SignatureOf) (lawful : AreLawful (theory_at s)) (nodes : List Node) (g g' : Given) (x : VarId) (id : TermId) (ev : g'.variables ≡ x ∷ g.variables) (el : g'.values ≡ id ∷ g.values) where
  pub agrees_with : g'.limits ≡ g.limits → (gg : Variable → Tree) → AgreesIn s nodes g gg → norm (theory_at s) (gg (variable_of x)) ≡ tree_at nodes id.0 → AgreesIn s nodes g' gg
  agrees_with em gg h e = record {
    agrees =
        subst (λ xs. Agrees (theory_at s) (map variable_of xs) (values_in nodes xs g'.values) gg) (sym ev)
        (subst (λ ids. Agrees (theory_at s) (map variable_of (x ∷ g.variables)) (values_in nodes (x ∷ g.variables) ids) gg) (sym el) all);
    limited = subst (λ ls. AreLimited (theory_at s) ls gg) (sym em) h.limited;
  }
    where
      all : Agrees (theory_at s) (map variable_of (x ∷ g.variables)) (values_in nodes (x ∷ g.variables) (id ∷ g.values)) gg
      all y has = by (same_variable (variable_of x) y) refl has
        where
          by : (b : Bool) → same_variable (variable_of x) y ≡ b → (b || has_variable (bound_of g) y) ≡ true → norm (theory_at s) (if b then tree_at nodes id.0 else values_of nodes g y) ≡ norm (theory_at s) (gg y)
          by true k m = ap (norm (theory_at s)) (sym e) ∙ norm-norm (theory_at s) lawful (gg (variable_of x)) ∙ ap (λ z. norm (theory_at s) (gg z)) (same-is (variable_of x) y k)
          by false k m = h.agrees y m

  pub given_with : AreGivenWithin s nodes g → StandsWithin (theory_at s) nodes id.0 → AreGivenWithin s nodes g'
  given_with w i = subst (λ ids. StandWithin (theory_at s) nodes (numbers ids)) (sym el) (All-cons (StandsWithin (theory_at s) nodes) id.0 (numbers g.values) i w)

-- what is given, for another variable
module _ (s : SignatureOf) (nodes : List Node) (g g' : Given) (ev : g'.variables ≡ g.variables) (el : g'.values ≡ g.values) where
  pub same_given : AreGivenWithin s nodes g → AreGivenWithin s nodes g'
  same_given w = subst (λ ids. StandWithin (theory_at s) nodes (numbers ids)) (sym el) w

  pub same_agrees : (gg : Variable → Tree) → AgreesIn s nodes g gg → Agrees (theory_at s) (bound_of g') (values_of nodes g') gg
  same_agrees gg h =
      subst (λ xs. Agrees (theory_at s) (map variable_of xs) (values_in nodes xs g'.values) gg) (sym ev)
      (subst (λ ids. Agrees (theory_at s) (map variable_of g.variables) (values_in nodes g.variables ids) gg) (sym el) h.agrees)

-- ---- choices

module _ (s : SignatureOf) (g : Given) (p t : Tree) where
  pub choice_stays : (old mid new : List Node) → Extends mid new → (c : Choice) → IsChoice s old mid g p t c → IsChoice s old new g p t c
  choice_stays old mid new e c h = record {
    within = stand_within_extended (theory_at s) mid new (numbers c.values.items) e h.within;
    values = λ gg ag fair o.
        subst (IsIn (norm (theory_at s) (gg (variable_of c.variable)))) (sym (trees_at-extends mid new (numbers c.values.items) e (stand_there (theory_at s) mid (numbers c.values.items) h.within))) (h.values gg ag fair o);
  }

  pub choice_before : (old mid new : List Node) → Extends old mid → AreGivenWithin s old g → (t' : Tree) → t' ≡ t → (c : Choice) → IsChoice s mid new g p t' c → IsChoice s old new g p t c
  choice_before old mid new e w t' k c h = record {
    within = h.within;
    values = λ gg ag fair o. h.values gg (agrees_stay s old mid e g w gg ag) fair (o ∙ sym k);
  }

-- ---- values one after another

module _ (s : SignatureOf) (nodes : List Node) (g : Given) (p t : Tree) (x : Variable) where
  pub never_no_value : AreNeverWith s nodes g p t x []
  never_no_value gg ag fair o i = i

  pub never_more : (vs : List Tree) (v : Tree) → AreNeverWith s nodes g p t x vs → ((gg : Variable → Tree) → AgreesIn s nodes g gg → IsFair (theory_at s) gg p → norm (theory_at s) (instance gg p) ≡ t → norm (theory_at s) (gg x) ≡ v → ⊥) → AreNeverWith s nodes g p t x (vs ++ v ∷ [])
  never_more vs v h k gg ag fair o i = elim (in_more vs v (norm (theory_at s) (gg x)) i) [ inl j ↦ h gg ag fair o j | inr e ↦ k gg ag fair o e ]

module _ (s : SignatureOf) (g : Given) (p : Tree) (old mid new : List Node) (e : Extends old mid) (more : Extends mid new) (w : AreGivenWithin s old g) (t' t : Tree) (same : t' ≡ t) where
  pub narrower_is : (best found r : Option Choice) → (r ≡ best) ⊎ (r ≡ found) → IfSome best (IsChoice s old mid g p t) → IfSome found (IsChoice s mid new g p t') → IfSome r (IsChoice s old new g p t)
  narrower_is best found r (inl k) h m = subst (λ o. IfSome o (IsChoice s old new g p t)) (sym k) (by best h)
    where
      by : (o : Option Choice) → IfSome o (IsChoice s old mid g p t) → IfSome o (IsChoice s old new g p t)
      by None h = tt
      by (Some c) h = choice_stays s g p t old mid new more c h
  narrower_is best found r (inr k) h m = subst (λ o. IfSome o (IsChoice s old new g p t)) (sym k) (by found m)
    where
      by : (o : Option Choice) → IfSome o (IsChoice s mid new g p t') → IfSome o (IsChoice s old new g p t)
      by None m = tt
      by (Some c) m = choice_before s g p t old mid new e w t' same c m

-- ---- what was gathered along the walk

pub gathered_within : (s : SignatureOf) (ls : List Limit) (x : VarId) (old new : List Node) (qs : List PartOfCode) (o : Option (Vec TermId Global)) → IfSome o (λ ids. GathersValues s ls x old new qs ids.items) → IfSome o (λ ids. StandWithin (theory_at s) new (numbers ids.items))
gathered_within s ls x old new qs None h = tt
gathered_within s ls x old new qs (Some ids) h = h.within

module _ (s : SignatureOf) (lawful : AreLawful (theory_at s)) (old : List Node) (g g' : Given) (ev : g'.variables ≡ g.variables) (el : g'.values ≡ g.values) (x : VarId) (et : g'.target ≡ x) (p : Tree) (occ : occurs (variable_of x) p ≡ true) (t : Tree) (mid new : List Node) (parts : List PartOfCode)
    (adds : AddsParts s old mid [] parts (walked s old g' p (just t))) where
  any_walked : (gg : Variable → Tree) → AgreesIn s old g gg → IsFair (theory_at s) gg p → norm (theory_at s) (instance gg p) ≡ t → AnyOf (theory_at s) (parts_in mid parts) (norm (theory_at s) (gg (variable_of x)))
  any_walked gg ag fair whole =
      let th = theory_at s in
      let occ' : occurs (target_of g') p ≡ true = ap (λ y. occurs (variable_of y) p) et ∙ occ in
      let found : AnyOf th (walked s old g' p (just t)) (norm th (gg (target_of g'))) = walk th lawful (bound_of g') (values_of old g') gg (target_of g') (same_agrees s old g g' ev el gg ag) p fair occ' (just t) whole in
      subst (λ qs. AnyOf th qs (norm th (gg (variable_of x)))) (sym adds.parts) (subst (λ y. AnyOf th (walked s old g' p (just t)) (norm th (gg (variable_of y)))) et found)

  pub walked_values : (ls : List Limit) → ls ≡ g.limits → (qs : List PartOfCode) → qs ≡ parts → (o : Option (Vec TermId Global)) → IfSome o (λ ids. GathersValues s ls x mid new qs ids.items)
      → IfSome o (λ ids. AreAllValues s old g p t (variable_of x) (trees_at new (numbers ids.items)))
  walked_values ls el' qs eq None h = tt
  walked_values ls el' qs eq (Some ids) h = λ gg ag fair whole.
      h.values gg (subst (λ l. AreLimited (theory_at s) l gg) (sym el') ag.limited) (subst (λ qs. AnyOf (theory_at s) (parts_in mid qs) (norm (theory_at s) (gg (variable_of x)))) (sym eq) (any_walked gg ag fair whole))
