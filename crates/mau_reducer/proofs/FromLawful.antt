-- What lawful programs have.
use Rattle.std.proofs.Common.{inl, inr, List, [], ◌∷◌, map, All, sym, subst}
use Rattle.std.proofs.lemmas.List.Elements.{All-head, All-tail}
use Rattle.mau_terms.specs.Bare.{IsBareIn, IsLawful}
use Rattle.mau_poset.specs.Order.{kind_of}
use Rattle.mau_terms.specs.Finite.{IsIn}
use Rattle.mau_signature.specs.Signature.{terms_over}
use Rattle.mau_program.specs.declared.program.Program as Typed
use Rattle.mau_program.specs.LawfulPrograms.{IsLawfulProgram}
use Rattle.mau_api.specs.Programs.{equation_of, membership_of}
use Rattle.mau_deriving.proofs.Lawful.{heads}
use Rattle.mau_reduce.specs.Reducible.{HasBareSides, IsReducible}

-- what holds of all elements holds of what is made of them
pub in_mapped : {A B : Type 0} (f : A → B) (P : B → Type 0) (xs : List A) → All (λ x. P (f x)) xs → (y : B) → IsIn y (map f xs) → P y
in_mapped f P [] a y i = absurd i
in_mapped f P (x ∷ xs) a y (inl same) = subst P (sym same) (All-head (λ z. P (f z)) x xs a)
in_mapped f P (x ∷ xs) a y (inr i) = in_mapped f P xs (All-tail (λ z. P (f z)) x xs a) y i

-- it may be evaluated
pub reducible : (p : Typed.Program) → IsLawfulProgram p → IsLawful (terms_over p.sig) → IsReducible p
reducible p is lawful = record {
  accepted = is.accepted;
  lawful = lawful;
  sides = λ e i. in_mapped equation_of (HasBareSides (terms_over p.sig)) p.equations (λ k d h. let one = is.equations k d h in record { kind = one.parts.sides.kind; left = one.parts.sides.first; right = one.parts.sides.second }) e i;
  heads = λ m i. record {
    bare = in_mapped membership_of (λ x. IsBareIn (terms_over p.sig) x.left (kind_of p.sig.hierarchy x.sort)) p.memberships (λ k d h. (is.memberships k d h).parts.head) m i;
    head = (heads p is lawful []).head m i;
  };
}
