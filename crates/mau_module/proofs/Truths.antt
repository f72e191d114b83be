-- Operators over one kind more.
use Rattle.std.proofs.Common.{◌≡◌, ℕ, ◌+◌, List, [], ◌∷◌, ◌++◌, ap, ◌∙◌, append_assoc, add-one}
use Rattle.std.specs.List.{flat_map, range_with_len}
use Rattle.mau_declare.proofs.Counting.{flat_append}
use Rattle.mau_declare.proofs.Ranges.{range_suc}
use Rattle.std.proofs.lemmas.List.{append-nil}
use Rattle.std.specs.Prelude.{All, codes}
use Rattle.std.proofs.lemmas.List.Elements.{All-append}
use Rattle.mau_poset.specs.Order.{Hierarchy}
use Rattle.mau_signature.specs.declared.decl.Decl.{Decl}
use Rattle.mau_signature.specs.Faults.{IsSort, HasSorts}
use Rattle.mau_module.specs.Truth.{if_declaration, comparison, truth_over}
use Rattle.mau_module.proofs.Alls.{all_one}

module _ {A : Type 0} (f : ℕ → List A) where
  pub flat_range_more : (from n : ℕ) → flat_map f (range_with_len from (n + 1)) ≡ flat_map f (range_with_len from n) ++ f (from + n)
  flat_range_more from n =
      ap (λ k. flat_map f (range_with_len from k)) (add-one n) ∙ ap (flat_map f) (range_suc from n) ∙ flat_append f (range_with_len from n) ((from + n) ∷ [])
      ∙ ap (λ ys. flat_map f (range_with_len from n) ++ ys) (append-nil (f (from + n)))

pub three_more : {A : Type 0} (xs a b c : List A) (x y z : A) → a ≡ xs ++ x ∷ [] → b ≡ a ++ y ∷ [] → c ≡ b ++ z ∷ [] → c ≡ xs ++ x ∷ y ∷ z ∷ []
three_more xs a b c x y z p q r = r ∙ ap (λ v. v ++ z ∷ []) (q ∙ ap (λ v. v ++ y ∷ []) p) ∙ simp append_assoc

-- they name only sorts and kinds that are there
module _ (h : Hierarchy) (bool kind : ℕ) (b : IsSort h bool) (k : IsSort h kind) where
  two : (x y : ℕ) → IsSort h x → IsSort h y → All (IsSort h) (x ∷ y ∷ [])
  two x y p q = All-append (IsSort h) (x ∷ []) (y ∷ []) (all_one (IsSort h) x p) (all_one (IsSort h) y q)

  three : (x y z : ℕ) → IsSort h x → IsSort h y → IsSort h z → All (IsSort h) (x ∷ y ∷ z ∷ [])
  three x y z p q r = All-append (IsSort h) (x ∷ []) (y ∷ z ∷ []) (all_one (IsSort h) x p) (two y z q r)

  choice : HasSorts h (if_declaration bool kind)
  choice = record { arguments = three bool kind kind b k k; result = k }

  compared : (sign name : List ℕ) → HasSorts h (comparison bool kind sign name)
  compared sign name = record { arguments = two kind kind k k; result = b }

  pub over_kind : (ds : List Decl) → All (HasSorts h) ds → All (HasSorts h) (ds ++ truth_over bool kind)
  over_kind ds a = All-append (HasSorts h) ds (truth_over bool kind) a (All-append (HasSorts h) (if_declaration bool kind ∷ []) (comparison bool kind (codes "==") (codes "same") ∷ comparison bool kind (codes "=/=") (codes "differ") ∷ [])
      (all_one (HasSorts h) (if_declaration bool kind) choice) (All-append (HasSorts h) (comparison bool kind (codes "==") (codes "same") ∷ []) (comparison bool kind (codes "=/=") (codes "differ") ∷ [])
      (all_one (HasSorts h) (comparison bool kind (codes "==") (codes "same")) (compared (codes "==") (codes "same"))) (all_one (HasSorts h) (comparison bool kind (codes "=/=") (codes "differ")) (compared (codes "=/=") (codes "differ")))))
