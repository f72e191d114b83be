-- Terms that are added, one after another, while the store grows.
use Rattle.std.proofs.Common.{◌≡◌, ℕ, List, [], ◌∷◌, ◌++◌, All, Option, Some, None, IfSome, Result, Ok, Err, IfOk, refl, sym, ap, ap₂, ◌∙◌, subst, append_assoc, append-nil, inl, inr}
use Rattle.std.proofs.lemmas.List.{map-append}
use Rattle.std.proofs.lemmas.List.Elements.{All-append, All-cons, All-nil, All-head, All-tail}
use Rattle.mau_terms.specs.Tree.{Tree}
use Rattle.mau_terms.specs.declared.ids.TermId.{TermId}
use Rattle.mau_terms.specs.declared.theory.Theory.{Theory}
use Rattle.mau_signature.specs.Signature.{SignatureOf, theory_at}
use Rattle.mau_store.specs.Node.{Node, Extends}
use Rattle.mau_store.specs.Trees.{tree_at, trees_at}
use Rattle.mau_store.specs.View.{numbers}
use Rattle.mau_store.proofs.Growth.{extension_is_preorder, trees_at-extends}
use Rattle.mau_store.proofs.Standing.{tree_at-extends}
use Rattle.mau_canon.specs.Standing.{StandsWithin, StandWithin}
use Rattle.mau_canon.proofs.Standing.{stand_within_extended, stand_there}
use Rattle.mau_canon.proofs.Elements.{trees_at-append}
use Rattle.mau_lists.specs.Lists.{IsSubList, IsFront, IsPart}
use Rattle.mau_domains.specs.Stored.{tree_in, AddsTerms}

-- ---- answers

pub IfOk-both : {T E : Type 0} (P Q : T → Type 0) (r : Result T E) → IfOk r P → IfOk r Q → IfOk r (λ x. P x × Q x)
IfOk-both P Q (Ok x) p q = (p, q)
IfOk-both P Q (Err e) p q = tt

pub IfSome-then : {T : Type 0} (P Q : T → Type 0) → ((x : T) → P x → Q x) → (o : Option T) → IfSome o P → IfSome o Q
IfSome-then P Q h None p = tt
IfSome-then P Q h (Some x) p = h x p

-- ---- what holds of all items

pub all_of_sub_list : {A : Type 0} (P : A → Type 0) (xs ys : List A) → IsSubList xs ys → All P ys → All P xs
all_of_sub_list P [] ys h a = All-nil P
all_of_sub_list P (x ∷ xs) [] h a = absurd h
all_of_sub_list P (x ∷ xs) (y ∷ ys) (inl h) a = All-cons P x xs (subst P (sym h.0) (All-head P y ys a)) (all_of_sub_list P xs ys h.1 (All-tail P y ys a))
all_of_sub_list P (x ∷ xs) (y ∷ ys) (inr h) a = all_of_sub_list P (x ∷ xs) ys h (All-tail P y ys a)

all_of_front : {A : Type 0} (P : A → Type 0) (xs ys : List A) → IsFront xs ys → All P ys → All P xs
all_of_front P [] ys h a = All-nil P
all_of_front P (x ∷ xs) [] h a = absurd h
all_of_front P (x ∷ xs) (y ∷ ys) h a = All-cons P x xs (subst P (sym h.0) (All-head P y ys a)) (all_of_front P xs ys h.1 (All-tail P y ys a))

pub all_of_part : {A : Type 0} (P : A → Type 0) (xs ys : List A) → IsPart xs ys → All P ys → All P xs
all_of_part P xs [] h a = all_of_front P xs [] h a
all_of_part P xs (y ∷ ys) (inl h) a = all_of_front P xs (y ∷ ys) h a
all_of_part P xs (y ∷ ys) (inr h) a = all_of_part P xs ys h (All-tail P y ys a)

-- ---- the last value

pub tree_in-extends : (th : ℕ → Theory) (old new : List Node) (o : Option TermId) → Extends old new → IfSome o (λ id. StandsWithin th old id.0) → tree_in new o ≡ tree_in old o
tree_in-extends th old new None e w = refl
tree_in-extends th old new (Some id) e w = ap Some (tree_at-extends old new id.0 e w.there)

-- ---- terms

module _ (s : SignatureOf) where
  pub adds_no_terms : (old new : List Node) (ids : List TermId) → Extends old new → StandWithin (theory_at s) old (numbers ids) → AddsTerms s old new ids ids []
  adds_no_terms old new ids e w = record {
    extends = e;
    within = stand_within_extended (theory_at s) old new (numbers ids) e w;
    terms = trees_at-extends old new (numbers ids) e (stand_there (theory_at s) old (numbers ids) w) ∙ sym (append-nil (trees_at old (numbers ids)));
  }

  pub adds_some_terms : (old new : List Node) (before more after : List TermId) (ts : List Tree) → Extends old new → StandWithin (theory_at s) old (numbers before) → StandWithin (theory_at s) new (numbers more) → after ≡ before ++ more → trees_at new (numbers more) ≡ ts → AddsTerms s old new before after ts
  adds_some_terms old new before more after ts e wb wm k m =
      let P = StandsWithin (theory_at s) new in
      let wb' = stand_within_extended (theory_at s) old new (numbers before) e wb in
      record {
        extends = e;
        within = subst (λ ids. StandWithin (theory_at s) new (numbers ids)) (sym k) (subst (λ ns. StandWithin (theory_at s) new ns) (sym (map-append (λ id. id.0) before more)) (All-append P (numbers before) (numbers more) wb' wm));
        terms =
            ap (λ ids. trees_at new (numbers ids)) k
            ∙ trees_at-append new before more
            ∙ ap₂ (λ x y. x ++ y) (trees_at-extends old new (numbers before) e (stand_there (theory_at s) old (numbers before) wb)) m;
      }

  pub adds_one_term : (old new : List Node) (before after : List TermId) (id : TermId) (t : Tree) → Extends old new → StandWithin (theory_at s) old (numbers before) → StandsWithin (theory_at s) new id.0 → after ≡ before ++ id ∷ [] → tree_at new id.0 ≡ t → AddsTerms s old new before after (t ∷ [])
  adds_one_term old new before after id t e wb wm k m =
      adds_some_terms old new before (id ∷ []) after (t ∷ []) e wb (All-cons (StandsWithin (theory_at s) new) id.0 [] wm (All-nil (StandsWithin (theory_at s) new))) k (ap (λ y. y ∷ []) m)

  pub adds_both_terms : (a b c : List Node) (xs ys zs : List TermId) (ts us : List Tree) → AddsTerms s a b xs ys ts → AddsTerms s b c ys zs us → AddsTerms s a c xs zs (ts ++ us)
  adds_both_terms a b c xs ys zs ts us h k = record {
    extends = extension_is_preorder.transitive a b c h.extends k.extends;
    within = k.within;
    terms = k.terms ∙ ap (λ w. w ++ us) h.terms ∙ append_assoc (trees_at a (numbers xs)) ts us;
  }
