-- The constant `true` of a module.
use Rattle.std.proofs.Common.{◌≡◌, ◌<◌, ◌+◌, ◌++◌, ◌∷◌, [], ℕ, suc, List, Option, Some, None, Bool, true, cond, length, sym, ap, subst, ◌∙◌, arith}
use Rattle.std.specs.Prelude.{codes, bytes_eq}
use Rattle.std.specs.Option.{ForSome, option_map}
use Rattle.std.proofs.lemmas.List.Elements.{All-nil}
use Rattle.std.proofs.lemmas.List.Quantifiers.{position-Some}
use Rattle.mau_poset.specs.Order.{kind_of}
use Rattle.mau_terms.specs.declared.ids.OpId.{OpId}
use Rattle.mau_terms.specs.Bare.{IsBare, IsBareIn}
use Rattle.mau_terms.specs.Tree.{apply, no_trees}
use Rattle.mau_signature.specs.declared.form.Piece.TheVariants.{Word}
use Rattle.mau_signature.specs.declared.decl.Decl.{Decl}
use Rattle.mau_signature.specs.Attributes.{no_attributes}
use Rattle.mau_signature.specs.Faults.{HasSorts, IsSort}
use Rattle.mau_signature.specs.Names.{operator_of, constant_of}
use Rattle.mau_signature.specs.Signature.{SignatureOf, number_of, terms_over}
use Rattle.mau_program.specs.BuiltIns.{HasTruth}
use Rattle.mau_statement.specs.Context.{constant}
use Rattle.mau_module.specs.Modules.{ModuleOf}
use Rattle.mau_module.specs.Numbering.{or_zero, number_in}
use Rattle.mau_module.specs.Included.{has_truth}
use Rattle.mau_module.specs.Framed.{Frame, all_parts}
use Rattle.mau_module.specs.Conditions.{true_among}
use Rattle.mau_module.specs.Flattened.{truth_in}

pub true_is : (s : SignatureOf) (names : List (List ℕ)) (bool : ℕ) (d : Decl) (r : Option OpId) → bool ≡ number_in names (codes "Bool")
    → d ≡ record { form = Word (codes "true") ∷ []; args = []; result = bool; attrs = no_attributes }
    → r ≡ number_of s.names (operator_of s.hierarchy d) → r ≡ true_among names s
true_is s names bool d r at e q =
    let found : ℕ → Option OpId = λ x. number_of s.names (constant_of (Word (codes "true") ∷ []) (kind_of s.hierarchy x)) in
    q ∙ ap (λ x. number_of s.names (operator_of s.hierarchy x)) e ∙ ap found at

pub truth_is : (ms : List ModuleOf) (f : Frame) (s : SignatureOf) (parts : List ℕ) (b : Bool) (r : Option OpId)
    → b ≡ has_truth (parts ++ length ms ∷ []) → b ≡ true → parts ≡ f.parts → r ≡ true_among f.names s → r ≡ truth_in ms f s
truth_is ms f s parts b r has here p q =
    let there : has_truth (all_parts ms f.parts) ≡ true = ap (λ ps. has_truth (ps ++ length ms ∷ [])) (sym p) ∙ sym has ∙ here in
    q ∙ sym (ap (λ x. cond x (true_among f.names s) None) there)

-- ---- it is there

abbrev true_declared : ℕ → Decl
true_declared bool = record { form = Word (codes "true") ∷ []; args = []; result = bool; attrs = no_attributes }

module _ (names : List (List ℕ)) (s : SignatureOf) (t : HasTruth names s) (d : Decl) (bool : ℕ) (e : d ≡ true_declared bool) (b : bool ≡ number_in names (codes "Bool")) where
  bool_is : bool ≡ t.bool
  bool_is = b ∙ ap or_zero t.named

  pub true_sorts : length names ≡ s.hierarchy.sorts → HasSorts s.hierarchy d
  true_sorts n =
      let r = position-Some (bytes_eq (codes "Bool")) names t.bool [] t.named in
      let l : t.bool < length names = r.0 in
      let i = bool_is in
      subst (HasSorts s.hierarchy) (sym e) (record { arguments = All-nil (IsSort s.hierarchy); result = omega (arith, l, n, i) })

  pub true_bare : (r : Option OpId) → r ≡ number_of s.names (operator_of s.hierarchy d) → ForSome r (λ f. IsBare (terms_over s) (constant f))
  true_bare r q f g =
      let k : ℕ = kind_of s.hierarchy t.bool in
      let one : ℕ → OpId = λ i. record { 0 = i + 1 } in
      let found : r ≡ Some (one t.yes.place) =
      q ∙ ap (λ x. number_of s.names (operator_of s.hierarchy x)) e
      ∙ ap (λ x. number_of s.names (constant_of (Word (codes "true") ∷ []) (kind_of s.hierarchy x))) bool_is ∙ ap (option_map one) t.yes.found in
      let same : Some (one t.yes.place) ≡ Some f = sym found ∙ g in
      let is : one t.yes.place ≡ f = cc in
      let next : suc t.yes.place ≡ t.yes.place + 1 = omega arith in
      subst (λ (x : OpId). IsBare (terms_over s) (constant x)) is (k, subst (λ n. IsBareIn (terms_over s) (apply n no_trees) k) next t.yes.bare)
