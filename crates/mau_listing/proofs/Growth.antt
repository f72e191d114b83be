-- What is asked and what was found, in stores and tables that grow.
use Rattle.std.proofs.Common.{◌≡◌, ℕ, suc, List, [], ◌∷◌, length, Bool, true, false, All, Option, None, Some, IfSome, map, is_some, refl, sym, ap, ap₂, ◌∙◌, subst, ⊎_elim, inl, inr}
use Rattle.std.proofs.lemmas.List.Elements.{All-nil, All-head, All-tail}
use Rattle.std.proofs.lemmas.List.{length-map}
use Rattle.std.specs.Option.{option_map}
use Rattle.mau_terms.specs.Tree.{Tree}
use Rattle.mau_terms.specs.Norm.{norm}
use Rattle.mau_terms.specs.Bare.{IsBare}
use Rattle.mau_terms.specs.Reading.{reading}
use Rattle.mau_terms.specs.Subst.{Variable}
use Rattle.mau_terms.specs.View.{variable_of}
use Rattle.mau_terms.specs.Solution.{HaveSorts}
use Rattle.mau_terms.specs.declared.ids.VarId.{VarId}
use Rattle.mau_terms.specs.declared.ids.TermId.{TermId}
use Rattle.mau_terms.specs.declared.theory.Theory.{Theory}
use Rattle.mau_signature.specs.Signature.{SignatureOf, theory_at, terms_over}
use Rattle.mau_store.specs.Node.{Node, IsOf, AreOf, Extends}
use Rattle.mau_store.specs.Trees.{tree_at, trees_at}
use Rattle.mau_store.specs.View.{numbers}
use Rattle.mau_store.proofs.Growth.{IsOf-extends, AreOf-extends, trees_at-extends}
use Rattle.mau_store.proofs.Standing.{tree_at-extends}
use Rattle.mau_canon.specs.Standing.{StandsWithin}
use Rattle.mau_canon.proofs.Standing.{stands_within_extended, stand_within_extended, stand_there}
use Rattle.mau_sorts.specs.SortSets.{IsKeptOf}
use Rattle.mau_sorts.specs.HasSort.{Known, HasSort}
use Rattle.mau_sorts.specs.Table.{Table, entry_at, IsSettled, KeepsEntries}
use Rattle.mau_sorts.proofs.Entries.{settled_entry}
use Rattle.mau_sorts.proofs.Settling.{kept_same}
use Rattle.mau_listing.specs.declared.solution.Solution.{Solution}
use Rattle.mau_listing.specs.Question.{Question, OfNorm, IsSolution}
use Rattle.mau_listing.specs.Matcher.{Matcher}
use Rattle.mau_listing.specs.Asked.{Asked, IsTableOf, IsNumeralOrList, MaySettle, bound_in, question_in, matcher_in, IsAskable, IsTreeSettled, HasEntry, IsBelow, IsSettledFor, IsGiven, CanBeLast}
use Rattle.mau_listing.specs.Laws.{ListingsGoOn}

-- ---- sorts

HaveSorts-then : (P Q : ℕ → Tree → Type 0) → ((r : ℕ) (t : Tree) → P r t → Q r t) → (xs : List Variable) (vs : List Tree) → HaveSorts P xs vs → HaveSorts Q xs vs
HaveSorts-then P Q h [] vs has = tt
HaveSorts-then P Q h (x ∷ xs) [] has = absurd has
HaveSorts-then P Q h (x ∷ xs) (v ∷ vs) has = (h x.1 v has.0, HaveSorts-then P Q h xs vs has.1)

-- where terms have more sorts, solutions stay solutions
pub IsSolution-then : (c : Bool) (s : SignatureOf) (P Q : ℕ → Tree → Type 0) → ((r : ℕ) (t : Tree) → P r t → Q r t) → (q : Question) (x : Matcher) → IsSolution c s P q x → IsSolution c s Q q x
IsSolution-then false s P Q h q x is = record {
  bare = is.bare;
  values = is.values;
  solves = (is.solves.0, HaveSorts-then (OfNorm P s) (OfNorm Q s) (λ r t. h r (norm (theory_at s) t)) _ is.bare is.solves.1);
  agrees = is.agrees;
  no_left = is.no_left;
  no_right = is.no_right;
}
IsSolution-then true s P Q h q x is = record {
  bare = is.bare;
  values = is.values;
  solves = (is.solves.0, HaveSorts-then (OfNorm P s) (OfNorm Q s) (λ r t. h r (norm (theory_at s) t)) _ is.bare is.solves.1);
  agrees = is.agrees;
}

-- ---- a store and a table that grow

pub settled_kept : (before after : Table) → KeepsEntries before after → (i : ℕ) → IsSettled before i → IsSettled after i
settled_kept before after kept i settled = ap is_some (kept.entries i _ (settled_entry (entry_at before i) settled))

abbrev question : Tree → List (Variable × Tree) → Tree → Question
question p bound t = record { pattern = p; bound = bound; subject = t }

abbrev found : List Tree → List Tree → List Tree → Matcher
found ls rs vs = record { left = ls; right = rs; values = vs }

module _ (old new : List Node) (extends : Extends old new) where
  -- a question stays what it is
  bound_same : (th : ℕ → Theory) (bound : List (VarId × TermId)) → All (λ b. StandsWithin th old b.1.0) bound → bound_in new bound ≡ bound_in old bound
  bound_same th [] within = refl
  bound_same th (b ∷ bound) within =
      ap₂ (λ (t : Tree) (bs : List (Variable × Tree)). (variable_of b.0, t) ∷ bs) (tree_at-extends old new b.1.0 extends (All-head (λ e. StandsWithin th old e.1.0) b bound within).there)
      (bound_same th bound (All-tail (λ e. StandsWithin th old e.1.0) b bound within))

  pub question_same : (s : SignatureOf) (a : Asked) → IsAskable s old a → question_in new a ≡ question_in old a
  question_same s a askable =
      ap₂ (λ (bs : List (Variable × Tree)) (t : Tree). question a.pattern bs t) (bound_same (theory_at s) a.bound askable.bound)
      (tree_at-extends old new a.subject.0 extends askable.subject.there)

  -- so does a solution
  pub found_same : (x : Solution) → AreOf old (numbers x.left) → AreOf old (numbers x.right) → AreOf old (numbers x.values) → matcher_in new x ≡ matcher_in old x
  found_same x left right values =
      let ls : trees_at new (numbers x.left) ≡ trees_at old (numbers x.left) = trees_at-extends old new (numbers x.left) extends left in
      let rs : trees_at new (numbers x.right) ≡ trees_at old (numbers x.right) = trees_at-extends old new (numbers x.right) extends right in
      let vs : trees_at new (numbers x.values) ≡ trees_at old (numbers x.values) = trees_at-extends old new (numbers x.values) extends values in
      ap (λ ts. found ts (trees_at new (numbers x.right)) (trees_at new (numbers x.values))) ls
      ∙ ap (λ ts. found (trees_at old (numbers x.left)) ts (trees_at new (numbers x.values))) rs
      ∙ ap (λ ts. found (trees_at old (numbers x.left)) (trees_at old (numbers x.right)) ts) vs

  pub askable_extended : (s : SignatureOf) (a : Asked) → IsAskable s old a → IsAskable s new a
  askable_extended s a askable = record {
    pattern = askable.pattern;
    bound = λ k d h. stands_within_extended (theory_at s) old new extends _ (askable.bound k d h);
    subject = stands_within_extended (theory_at s) old new extends a.subject.0 askable.subject;
    bare = subst (λ t. IsBare (terms_over s) (reading (theory_at s) t)) (sym (tree_at-extends old new a.subject.0 extends askable.subject.there)) askable.bare;
  }

  module _ (before after : Table) (kept : KeepsEntries before after) where
    pub tree_settled_kept : (t : Tree) → IsTreeSettled old before t → IsTreeSettled new after t
    tree_settled_kept t is = record {
      number = is.number;
      there = IsOf-extends old new is.number extends is.there;
      tree = tree_at-extends old new is.number extends is.there ∙ is.tree;
      settled = settled_kept before after kept is.number is.settled;
    }

    pub entry_kept : (s : SignatureOf) (r : ℕ) (t : Tree) → HasEntry s old before r t → HasEntry s new after r t
    entry_kept s r t is = record {
      number = is.number;
      there = IsOf-extends old new is.number extends is.there;
      tree = tree_at-extends old new is.number extends is.there ∙ is.tree;
      entry = is.entry;
      at = kept.entries is.number is.entry is.at;
      has = is.has;
    }

    settled_for_kept : (s : SignatureOf) (a : Asked) → IsAskable s old a → IsSettledFor s old before a → IsSettledFor s new after a
    settled_for_kept s a askable is =
        let same : tree_at new a.subject.0 ≡ tree_at old a.subject.0 = tree_at-extends old new a.subject.0 extends askable.subject.there in
        record {
          identities = λ f i e. tree_settled_kept _ (is.identities f i e);
          below = λ u b. tree_settled_kept u (is.below u (subst (IsBelow u) same b));
          subject = ⊎_elim (λ t. inl (subst (IsTreeSettled new after) (sym same) (tree_settled_kept _ t))) inr is.subject;
        }

    pub given_kept : (c : Bool) (s : SignatureOf) (a : Asked) → IsAskable s old a → (x : Solution) → IsGiven c s old before a x → IsGiven c s new after a x
    given_kept c s a askable x is =
        let th = theory_at s in
        record {
          left = stand_within_extended th old new (numbers x.left) extends is.left;
          right = stand_within_extended th old new (numbers x.right) extends is.right;
          values = stand_within_extended th old new (numbers x.values) extends is.values;
          settled = λ k d h. settled_kept before after kept _ (is.settled k d h);
          solves =
              subst (λ q. IsSolution c s (HasEntry s new after) q (matcher_in new x)) (sym (question_same s a askable))
              (subst (IsSolution c s (HasEntry s new after) (question_in old a)) (sym (found_same x (stand_there th old (numbers x.left) is.left) (stand_there th old (numbers x.right) is.right) (stand_there th old (numbers x.values) is.values)))
              (IsSolution-then c s (HasEntry s old before) (HasEntry s new after) (entry_kept s) (question_in old a) (matcher_in old x) is.solves));
        }

    last_kept : (c : Bool) (s : SignatureOf) (a : Asked) → IsAskable s old a → (x : Solution) → CanBeLast c s old before a x → CanBeLast c s new after a x
    last_kept false s a askable x is = record {
      no_left = is.no_left;
      no_right = is.no_right;
      values = stand_within_extended (theory_at s) old new (numbers x.values) extends is.values;
      one_each = is.one_each;
      settled = λ k d h. settled_kept before after kept _ (is.settled k d h);
    }
    last_kept true s a askable x is = given_kept true s a askable x is

pub listings_go_on : ListingsGoOn
listings_go_on c s old new before after extends kept over a last is = record {
  askable = askable_extended old new extends s a is.askable;
  settled = settled_for_kept old new extends before after kept s a is.askable is.settled;
  over = over;
  given = by last is.given;
}
  where
    by : (o : Option Solution) → IfSome o (CanBeLast c s old before a) → IfSome o (CanBeLast c s new after a)
    by None h = tt
    by (Some x) h = last_kept old new extends before after kept c s a is.askable x h

-- what may be settled may be in a store that has grown
pub may_settle_grown : (s : SignatureOf) (old new : List Node) (table : Table) (t : Tree) (i : ℕ) → Extends old new → MaySettle s old table t i → MaySettle s new table t i
may_settle_grown s old new table t i extends (inl was) = inl was
may_settle_grown s old new table t i extends (inr may) =
    let same = tree_at-extends old new i extends may.0 in
    inr (IsOf-extends old new i extends may.0, subst (IsNumeralOrList (theory_at s)) (sym same) may.1, λ e. may.2 (sym same ∙ e))

-- a table of a store is one of a store that extends it
module _ (s : SignatureOf) (known : Known) (old new : List Node) (extends : Extends old new) (table : Table) where
  pub table_grown : IsTableOf s known old table → IsTableOf s known new table
  unfolding tree_settled_kept
  table_grown t = record {
    entries = λ i e at.
        let kept = t.entries i e at in (
          IsOf-extends old new i extends kept.0,
          subst (λ u. IsKeptOf s.hierarchy (HasSort s known u) e) (sym (tree_at-extends old new i extends kept.0)) kept.1,
        );
    settled = λ u r among. tree_settled_kept old new extends table table (kept_same table) u (t.settled u r among);
    further = λ u r among. t.further u r among;
  }

-- ---- several solutions

pub trees_long : (nodes : List Node) (l : List TermId) → length (trees_at nodes (numbers l)) ≡ length l
trees_long nodes [] = refl
trees_long nodes (id ∷ l) = ap suc (trees_long nodes l)

none : (nodes : List Node) (l : List TermId) → trees_at nodes (numbers l) ≡ [] → l ≡ []
none nodes [] e = refl
none nodes (id ∷ l) e = cc

-- the numbers of a solution are of the store
pub record AreOfStore (nodes : List Node) (x : Solution) : Type 0 where
  pub left : AreOf nodes (numbers x.left)
  pub right : AreOf nodes (numbers x.right)
  pub values : AreOf nodes (numbers x.values)

pub given_of_store : (c : Bool) (s : SignatureOf) (nodes : List Node) (table : Table) (a : Asked) (x : Solution) → IsGiven c s nodes table a x → AreOfStore nodes x
given_of_store c s nodes table a x is = record {
  left = stand_there (theory_at s) nodes (numbers x.left) is.left;
  right = stand_there (theory_at s) nodes (numbers x.right) is.right;
  values = stand_there (theory_at s) nodes (numbers x.values) is.values;
}

pub last_of_store : (c : Bool) (s : SignatureOf) (nodes : List Node) (table : Table) (a : Asked) (x : Solution) → CanBeLast c s nodes table a x → AreOfStore nodes x
last_of_store false s nodes table a x is = record {
  left = subst (λ (l : List TermId). AreOf nodes (numbers l)) (sym is.no_left) (All-nil (IsOf nodes));
  right = subst (λ (l : List TermId). AreOf nodes (numbers l)) (sym is.no_right) (All-nil (IsOf nodes));
  values = stand_there (theory_at s) nodes (numbers x.values) is.values;
}
last_of_store true s nodes table a x is = given_of_store true s nodes table a x is

-- a listing goes on behind each solution that was given
pub given_is_last : (c : Bool) (s : SignatureOf) (nodes : List Node) (table : Table) (a : Asked) (x : Solution) → IsGiven c s nodes table a x → CanBeLast c s nodes table a x
given_is_last false s nodes table a x is = record {
  no_left = none nodes x.left is.solves.no_left;
  no_right = none nodes x.right is.solves.no_right;
  values = is.values;
  one_each = sym (trees_long nodes x.values) ∙ ap length (sym is.solves.values) ∙ length-map is.solves.bare (norm (theory_at s)) ∙ is.solves.solves.0.one_each;
  settled = is.settled;
}
given_is_last true s nodes table a x is = is

module _ (old new : List Node) (extends : Extends old new) where
  pub of_store_extended : (xs : List Solution) → All (AreOfStore old) xs → All (AreOfStore new) xs
  of_store_extended xs within k d h =
      let one = within k d h in
      record {
        left = AreOf-extends old new _ extends one.left;
        right = AreOf-extends old new _ extends one.right;
        values = AreOf-extends old new _ extends one.values;
      }

  pub all_found_same : (xs : List Solution) → All (AreOfStore old) xs → map (matcher_in new) xs ≡ map (matcher_in old) xs
  all_found_same [] within = refl
  all_found_same (x ∷ xs) within =
      let one = All-head (AreOfStore old) x xs within in
      ap₂ (λ (y : Matcher) (ys : List Matcher). y ∷ ys) (found_same old new extends x one.left one.right one.values) (all_found_same xs (All-tail (AreOfStore old) x xs within))

  pub last_found_same : (s : SignatureOf) (c : Bool) (table : Table) (a : Asked) (o : Option Solution) → IfSome o (CanBeLast c s old table a) → option_map (matcher_in new) o ≡ option_map (matcher_in old) o
  last_found_same s c table a None h = refl
  last_found_same s c table a (Some x) h =
      let one = last_of_store c s old table a x h in
      ap Some (found_same old new extends x one.left one.right one.values)
