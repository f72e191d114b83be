-- What lawful programs have: their memberships have heads.
use Rattle.std.proofs.Common.{◌≡◌, inl, inr, ℕ, zero, suc, List, [], ◌∷◌, map, Bool, true, false, ◌||◌, not, All, Option, Some, None, is_some, length, refl, sym, ap, subst}
use Rattle.std.specs.Prelude.{slice_get}
use Rattle.std.proofs.lemmas.List.Elements.{All-head, All-tail}
use Rattle.mau_terms.specs.Tree.{Tree, variable, numeral, apply}
use Rattle.mau_terms.specs.Norm.{norm}
use Rattle.mau_terms.specs.Bare.{IsBare, IsLawful}
use Rattle.mau_terms.specs.Finite.{IsIn}
use Rattle.mau_terms.specs.View.{tree_of}
use Rattle.mau_terms.specs.declared.theory.Identity.{Identity}
use Rattle.mau_terms.specs.declared.theory.Theory.{Theory}
use Rattle.mau_signature.specs.Signature.{theory_at, terms_over}
use Rattle.mau_formula.specs.Operator.{Operator}
use Rattle.mau_listing.specs.Asked.{HasPlainTop}
use Rattle.mau_program.specs.declared.program.Program as Typed
use Rattle.mau_program.specs.declared.statements.Membership as Written
use Rattle.mau_program.specs.Tops.{has_head_operator}
use Rattle.mau_program.specs.LawfulPrograms.{IsLawfulProgram}
use Rattle.mau_program.specs.LawfulStatements.{IsLawfulMembership}
use Rattle.mau_evaluation.specs.HasSort.{IsHead, HasHeads}
use Rattle.mau_api.specs.Programs.{program_over, membership_of}

in_mapped : {A B : Type 0} (f : A → B) (P : B → Type 0) (xs : List A) → All (λ x. P (f x)) xs → (y : B) → IsIn y (map f xs) → P y
in_mapped f P [] a y i = absurd i
in_mapped f P (x ∷ xs) a y (inl same) = subst P (sym same) (All-head (λ z. P (f z)) x xs a)
in_mapped f P (x ∷ xs) a y (inr i) = in_mapped f P xs (All-tail (λ z. P (f z)) x xs a) y i

parts : (a : Bool) (i : Option Identity) (s : Bool) → not (a || (is_some i || s)) ≡ true → (a ≡ false) × (i ≡ None) × (s ≡ false)
parts true i s e = cc
parts false (Some x) s e = cc
parts false None true e = cc
parts false None false e = (refl, refl, refl)

head_is : (th : ℕ → Theory) (t : Tree) → has_head_operator th t ≡ true → IsHead th t
head_is th (variable i s) e = cc
head_is th (numeral n) e = cc
head_is th (apply f ts) e = parts (th f).assoc (th f).id (th f).succ e

-- its top is a plain one, as a listing has it
plain_top : (th : ℕ → Theory) (t : Tree) → IsHead th t → HasPlainTop th t
plain_top th (variable i s) h = absurd h
plain_top th (numeral n) h = absurd h
plain_top th (apply f ts) h = (h.0, h.2, h.1)

module _ (p : Typed.Program) (is : IsLawfulProgram p) (lawful : IsLawful (terms_over p.sig)) where
  pub heads : (hooks : List Operator) → HasHeads (program_over p hooks)
  heads hooks = record {
    signature = lawful;
    bare = λ m i. in_mapped membership_of (λ x. IsBare (terms_over p.sig) x.left) p.memberships (λ k d h. let one = is.memberships k d h in (_, one.parts.head)) m i;
    head = λ m i. in_mapped membership_of (λ x. IsHead (theory_at p.sig) (norm (theory_at p.sig) x.left)) p.memberships (λ k d h. head_is (theory_at p.sig) _ (is.memberships k d h).head) m i;
  }

  all_at : {A : Type 0} (P : A → Type 0) (xs : List A) (i : ℕ) (x : A) → All P xs → slice_get xs i ≡ Some x → P x
  all_at P [] i x all e = cc
  all_at P (y ∷ xs) zero x all e = let same : y ≡ x = cc in subst P same (All-head P y xs all)
  all_at P (y ∷ xs) (suc i) x all e = all_at P xs i x (All-tail P y xs all) e

  -- the membership at a place
  module _ (at : ℕ) (m : Written.Membership) (there : slice_get p.memberships at ≡ Some m) where
    pub lawful_one : IsLawfulMembership p.sig m
    lawful_one = all_at (IsLawfulMembership p.sig) p.memberships at m is.memberships there

    pub bare_one : IsBare (terms_over p.sig) (tree_of m.left)
    bare_one = (_, lawful_one.parts.head)

    pub plain_one : HasPlainTop (theory_at p.sig) (norm (theory_at p.sig) (tree_of m.left))
    plain_one = plain_top (theory_at p.sig) _ (head_is (theory_at p.sig) _ lawful_one.head)

-- a place of the memberships is one of their meanings
pub mapped_at : {A B : Type 0} (f : A → B) (xs : List A) (i : ℕ) (x : A) → slice_get xs i ≡ Some x → slice_get (map f xs) i ≡ Some (f x)
mapped_at f [] i x e = cc
mapped_at f (y ∷ xs) zero x e = let same : y ≡ x = cc in ap (λ z. Some (f z)) same
mapped_at f (y ∷ xs) (suc i) x e = mapped_at f xs i x e

pub mapped_from : {A B : Type 0} (f : A → B) (xs : List A) (i : ℕ) (y : B) → slice_get (map f xs) i ≡ Some y → (x : A) × (slice_get xs i ≡ Some x) × (f x ≡ y)
mapped_from f [] i y e = cc
mapped_from f (x ∷ xs) zero y e = let same : f x ≡ y = cc in (x, refl, same)
mapped_from f (x ∷ xs) (suc i) y e = mapped_from f xs i y e

pub at_in : {A : Type 0} (xs : List A) (i : ℕ) (x : A) → slice_get xs i ≡ Some x → IsIn x xs
at_in [] i x e = cc
at_in (y ∷ xs) zero x e = let same : y ≡ x = cc in inl (sym same)
at_in (y ∷ xs) (suc i) x e = inr (at_in xs i x e)

pub map_length : {A B : Type 0} (f : A → B) (xs : List A) → length (map f xs) ≡ length xs
map_length f [] = refl
map_length f (x ∷ xs) = ap suc (map_length f xs)
