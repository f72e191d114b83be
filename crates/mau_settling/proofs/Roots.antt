-- What is left of the identities and the term: in states that grow, and one after another.
use Rattle.std.proofs.Common.{◌≡◌, ◌<◌, ◌≤◌, ◌+◌, ◌⊎◌, inl, inr, ℕ, zero, suc, List, [], ◌∷◌, ◌++◌, All, length, drop, get_or, refl, sym, ap, ◌∙◌, subst, arith, append_assoc, add-one}
use Rattle.std.proofs.lemmas.List.{map-append}
use Rattle.std.proofs.lemmas.List.Elements.{All-nil, All-cons, All-head, All-tail, All-push, All-weaker}
use Rattle.mau_terms.specs.Tree.{Tree}
use Rattle.mau_terms.specs.Bare.{IsBare}
use Rattle.mau_terms.specs.Reading.{reading}
use Rattle.mau_terms.specs.declared.ids.TermId.{TermId}
use Rattle.mau_signature.specs.Signature.{SignatureOf, theory_at, terms_over}
use Rattle.mau_store.specs.Node.{Node, IsOf, Extends}
use Rattle.mau_store.specs.Trees.{tree_at, trees_at}
use Rattle.mau_store.specs.View.{numbers}
use Rattle.mau_store.proofs.Standing.{tree_at-extends}
use Rattle.mau_store.proofs.Growth.{extension_is_preorder}
use Rattle.mau_canon.proofs.Standing.{stands_within_extended}
use Rattle.mau_sorts.specs.Table.{Table, IsSettled, KeepsEntries}
use Rattle.mau_listing.specs.Asked.{IsTreeSettled}
use Rattle.mau_listing.proofs.Growth.{tree_settled_kept}
use Rattle.mau_api.specs.Programs.{identities_of}
use Rattle.mau_api.specs.Terms.{IsTerm}
use Rattle.mau_settling.specs.Settlings.{AreLeft}

-- ---- in states that grow

module _ (s : SignatureOf) (old new : List Node) (x : Extends old new) where
  pub term_stays : (i : ℕ) → IsTerm s old i → IsTerm s new i
  term_stays i h = record {
    within = stands_within_extended (theory_at s) old new x i h.within;
    bare = subst (λ t. IsBare (terms_over s) (reading (theory_at s) t)) (sym (tree_at-extends old new i x h.within.there)) h.bare;
  }

  pub terms_stay : (is : List ℕ) → All (IsTerm s old) is → All (IsTerm s new) is
  terms_stay is all = All-weaker (IsTerm s old) (IsTerm s new) term_stays is all

  pub trees_stay : (is : List ℕ) → All (IsTerm s old) is → trees_at new is ≡ trees_at old is
  trees_stay [] all = refl
  trees_stay (i ∷ is) all =
      let first : tree_at new i ≡ tree_at old i = tree_at-extends old new i x (All-head (IsTerm s old) i is all).within.there in
      let rest : trees_at new is ≡ trees_at old is = trees_stay is (All-tail (IsTerm s old) i is all) in
      ap (λ t. t ∷ trees_at new is) first ∙ ap (λ ts. tree_at old i ∷ ts) rest

  pub roots_more : (ids more : List TermId) (id : TermId) → more ≡ ids ++ id ∷ [] → All (IsTerm s old) (numbers ids) → trees_at new (numbers more) ≡ trees_at old (numbers ids) ++ tree_at new id.0 ∷ []
  roots_more ids more id e all =
      ap (λ zs. trees_at new (numbers zs)) e
      ∙ (ap (trees_at new) (map-append (λ (z : TermId). z.0) ids (id ∷ []))
      ∙ (map-append (tree_at new) (numbers ids) (id.0 ∷ []) ∙ ap (λ us. us ++ tree_at new id.0 ∷ []) (trees_stay (numbers ids) all)))

  pub terms_more : (ids more : List TermId) (id : TermId) → more ≡ ids ++ id ∷ [] → All (IsTerm s old) (numbers ids) → IsTerm s new id.0 → All (IsTerm s new) (numbers more)
  terms_more ids more id e all one =
      subst (λ zs. All (IsTerm s new) (numbers zs)) (sym e)
      (subst (All (IsTerm s new)) (sym (map-append (λ (z : TermId). z.0) ids (id ∷ []))) (All-push (IsTerm s new) (numbers ids) id.0 (terms_stay (numbers ids) all) one))

-- ---- what is left

module _ (s : SignatureOf) (old new : List Node) (x : Extends old new) (before after : Table) (kept : KeepsEntries before after) where
  pub left_stays : (t : ℕ) (left : List ℕ) → IsTerm s old t → All (IsTerm s old) left → AreLeft s old before t left → AreLeft s new after t left
  left_stays t left term all h = record {
    before = h.before;
    are = ap (λ u. identities_of s ++ u ∷ []) (tree_at-extends old new t x term.within.there) ∙ (h.are ∙ ap (λ us. h.before ++ us) (sym (trees_stay s old new x left all)));
    settled = All-weaker (IsTreeSettled old before) (IsTreeSettled new after) (tree_settled_kept old new x before after kept) h.before h.settled;
  }

-- the first of those that are left, and the others
pub first_left : (ids : List TermId) (at : ℕ) (d : TermId) → at < length ids → drop at (numbers ids) ≡ (get_or ids at d).0 ∷ drop (at + 1) (numbers ids)
first_left [] at d l = absurd (omega arith)
first_left (i ∷ ids) zero d l = refl
first_left (i ∷ ids) (suc at) d l = rw add-one (first_left_in at (first_left ids at d (omega (arith, l))))
  where
    first_left_in : (n : ℕ) → drop n (numbers ids) ≡ (get_or ids n d).0 ∷ drop (n + 1) (numbers ids) → drop n (numbers ids) ≡ (get_or ids n d).0 ∷ drop (suc n) (numbers ids)
    first_left_in n e = let one : n + 1 ≡ suc n = omega arith in e ∙ ap (λ m. (get_or ids n d).0 ∷ drop m (numbers ids)) one

pub none_left : (ids : List TermId) (at : ℕ) → length ids ≤ at → drop at (numbers ids) ≡ []
none_left [] zero l = refl
none_left [] (suc at) l = refl
none_left (i ∷ ids) zero l = absurd (omega (arith, l))
none_left (i ∷ ids) (suc at) l = none_left ids at (omega (arith, l))

-- past the first one, which is settled
pub left_past : (s : SignatureOf) (nodes : List Node) (table : Table) (t i : ℕ) (is : List ℕ) → AreLeft s nodes table t (i ∷ is) → IsOf nodes i → IsSettled table i → AreLeft s nodes table t is
left_past s nodes table t i is h there settled = record {
  before = h.before ++ tree_at nodes i ∷ [];
  are = h.are ∙ sym (append_assoc h.before (tree_at nodes i ∷ []) (trees_at nodes is));
  settled = All-push (IsTreeSettled nodes table) h.before (tree_at nodes i) h.settled (record { number = i; there = there; tree = refl; settled = settled });
}

-- ---- where it is the last one

not_empty : (xs : List Tree) (t : Tree) (ts : List Tree) → [] ≡ xs ++ t ∷ ts → ⊥
not_empty [] t ts e = let k : [] ≡ t ∷ ts = e in absurd (cc)
not_empty (x ∷ xs) t ts e = let k : [] ≡ x ∷ (xs ++ t ∷ ts) = e in absurd (cc)

-- the last one, or one before it
pub last_or_more : (before : List Tree) (x : Tree) (rest us : List Tree) (t : Tree) → us ++ t ∷ [] ≡ before ++ x ∷ rest → ((rest ≡ []) × (us ≡ before) × (t ≡ x)) ⊎ ((more : List Tree) × (us ≡ before ++ x ∷ more))
last_or_more [] x rest [] t e = let k : t ∷ [] ≡ x ∷ rest = e in let a : rest ≡ [] = cc in let b : t ≡ x = cc in inl (a, refl, b)
last_or_more [] x rest (u ∷ us) t e = let k : u ∷ (us ++ t ∷ []) ≡ x ∷ rest = e in let a : u ≡ x = cc in inr (us, ap (λ v. v ∷ us) a)
last_or_more (b ∷ before) x rest [] t e = let k : t ∷ [] ≡ b ∷ (before ++ x ∷ rest) = e in let a : [] ≡ before ++ x ∷ rest = cc in absurd (not_empty before x rest a)
last_or_more (b ∷ before) x rest (u ∷ us) t e =
    let k : u ∷ (us ++ t ∷ []) ≡ b ∷ (before ++ x ∷ rest) = e in
    let a : u ≡ b = cc in
    let l : us ++ t ∷ [] ≡ before ++ x ∷ rest = cc in
    by a (last_or_more before x rest us t l)
  where
    by : u ≡ b → ((rest ≡ []) × (us ≡ before) × (t ≡ x)) ⊎ ((more : List Tree) × (us ≡ before ++ x ∷ more)) → ((rest ≡ []) × (u ∷ us ≡ b ∷ before) × (t ≡ x)) ⊎ ((more : List Tree) × (u ∷ us ≡ (b ∷ before) ++ x ∷ more))
    by a (inl h) = let m : us ≡ before = h.1 in inl (h.0, cc, h.2)
    by a (inr h) = let m : us ≡ before ++ x ∷ h.0 = h.1 in inr (h.0, cc)

-- ---- where settling begins

drop_none : (xs : List ℕ) → drop 0 xs ≡ xs
drop_none [] = refl
drop_none (x ∷ xs) = refl

-- with the identities
pub begun_left : (s : SignatureOf) (nodes : List Node) (table : Table) (ids more : List TermId) (id : TermId) → more ≡ ids ++ id ∷ [] → All (IsTerm s nodes) (numbers ids) → trees_at nodes (numbers ids) ≡ identities_of s →
    AreLeft s nodes table id.0 (drop 0 (numbers more))
begun_left s nodes table ids more id e all trees = record {
  before = [];
  are = ap (λ us. us ++ tree_at nodes id.0 ∷ []) (sym trees) ∙ (sym (roots_more s nodes nodes (extension_is_preorder.reflexive nodes) ids more id e all) ∙ ap (trees_at nodes) (sym (drop_none (numbers more))));
  settled = All-nil (IsTreeSettled nodes table);
}

-- behind them
pub only_left : (s : SignatureOf) (nodes : List Node) (table : Table) (ids more : List TermId) (id : TermId) → ids ≡ [] → more ≡ ids ++ id ∷ [] → All (IsTreeSettled nodes table) (identities_of s) → AreLeft s nodes table id.0 (drop 0 (numbers more))
only_left s nodes table ids more id none e all = record {
  before = identities_of s;
  are = ap (λ us. identities_of s ++ us) (ap (λ zs. trees_at nodes (numbers zs)) (sym (e ∙ ap (λ zs. zs ++ id ∷ []) none)) ∙ ap (trees_at nodes) (sym (drop_none (numbers more))));
  settled = all;
}

-- the term alone
pub one_term : (s : SignatureOf) (nodes : List Node) (ids more : List TermId) (id : TermId) → ids ≡ [] → more ≡ ids ++ id ∷ [] → IsTerm s nodes id.0 → All (IsTerm s nodes) (numbers more)
one_term s nodes ids more id none e term = subst (λ zs. All (IsTerm s nodes) (numbers zs)) (sym (e ∙ ap (λ zs. zs ++ id ∷ []) none)) (All-cons (IsTerm s nodes) id.0 [] term (All-nil (IsTerm s nodes)))
