-- The modules of the prelude are lawful, once their signatures are accepted.
use Rattle.std.proofs.Common.{◌≡◌, ◌<◌, ℕ, ◌+◌, List, [], ◌∷◌, ◌++◌, if◌then◌else◌, length, Some, None, refl, sym, ◌∙◌, ap, subst, inl, inr, arith}
use Rattle.std.specs.Prelude.{codes, bytes_eq, position}
use Rattle.std.specs.Option.{option_map}
use Rattle.std.proofs.lemmas.List.Elements.{All-nil}
use Rattle.mau_poset.specs.Order.{kind_of, kinds_before, first_sort, step, no_step}
use Rattle.mau_poset.proofs.Orders.{joined_sorts}
use Rattle.mau_terms.specs.Finite.{IsIn}
use Rattle.mau_terms.proofs.Finite.{in_left, in_right}
use Rattle.mau_signature.specs.declared.decl.Decl.{Decl}
use Rattle.mau_signature.specs.Signature.{SignatureOf}
use Rattle.mau_prelude.specs.declared.module.PreludeModule.{PreludeModule}
use Rattle.mau_prelude.specs.declared.module.PreludeModule.TheVariants.{TruthValue, Truth, Bool, Nat}
use Rattle.mau_prelude.specs.Booleans.{constants, connectives}
use Rattle.mau_prelude.specs.Numbers.{number_pairs}
use Rattle.mau_program.specs.LawfulStatements.{IsLawfulEquation, IsLawfulMembership, IsLawfulRule}
use Rattle.mau_program.specs.LawfulStrategies.{IsLawfulDefinition}
use Rattle.mau_program.specs.BuiltIns.{IsNamed, HasNumbers, HasBuiltIn, AreBuiltIn}
use Rattle.mau_signing.specs.Signed.{signature_over}
use Rattle.mau_module.specs.Modules.{ModuleOf}
use Rattle.mau_module.specs.Library.{truth_value, truth, bool}
use Rattle.mau_module.specs.Numbering.{number_in}
use Rattle.mau_module.specs.Included.{parts_of, pairs_of, numerals_of, has_truth}
use Rattle.mau_module.specs.Declarations.{declarations_of, hierarchy_over, if_truth, all_declarations, given_over}
use Rattle.mau_module.specs.Made.{AreLawfulOver, number_at, DeclaresNumbers, IsMadeOver, AreMade, IsSignedOver}
use Rattle.mau_module.specs.Ready.{module_of}
use Rattle.mau_module.proofs.Members.{in_contains}
use Rattle.mau_module.proofs.Sources as Sources
use Rattle.mau_module.proofs.Sourced.{in_part}
use Rattle.mau_module.proofs.BuiltAgain.{truth_there, all_built}
use Rattle.mau_module.proofs.MadeOver.{made_over, well_declared_so}
use Rattle.mau_module.proofs.NumberRows.{number_declarations, rows_built}
use Rattle.mau_module.proofs.PreludeFacts.{ms1, ms2, ms3, parts1, parts2, parts3, names3, length1, length2, length3}
use Rattle.mau_module.proofs.LawfulCarried.{nothing_few}
use Rattle.mau_module.proofs.BoolLawful.{bool_equations}
use Rattle.mau_module.proofs.PreludeSigned.{suit}

-- the module of a table is one over those before it, once it is signed
abbrev pub IsMadeOnce : List ModuleOf → List ℕ → PreludeModule → Type 0
IsMadeOnce ms imports p = AreMade ms → IsSignedOver ms (module_of ms imports p) (parts_of ms imports) → IsMadeOver ms (module_of ms imports p)

no_equations : (s : SignatureOf) → AreLawfulOver s (record { equations = []; memberships = []; rules = []; strategies = []; strats = [] })
no_equations s = record {
  equations = All-nil (IsLawfulEquation s);
  memberships = All-nil (IsLawfulMembership s);
  rules = All-nil (IsLawfulRule s);
  strategies = All-nil (IsLawfulDefinition s);
  few = nothing_few;
}

-- ---- truth values

constants_plain : (d : Decl) (name : List ℕ) → IsIn d constants → d.attrs.builtin ≡ Some name → ⊥
constants_plain d name (inl e) b = let x = ap (λ (y : Decl). y.attrs.builtin) (sym e) ∙ b in cc
constants_plain d name (inr (inl e)) b = let x = ap (λ (y : Decl). y.attrs.builtin) (sym e) ∙ b in cc
constants_plain d name (inr (inr e)) b = absurd e

pub truth_value_made : IsMadeOnce [] [] TruthValue
truth_value_made made k =
    made_over [] (module_of [] [] TruthValue) [] made k (no_equations (module_of [] [] TruthValue).signature) (inl refl)
    (λ d name i e. absurd (constants_plain d name i e))
    (λ e. record {
      sort = refl;
      yes = record { declaration = _; declared = inl refl; form = refl; args = refl; result = refl };
      no = record { declaration = _; declared = inr (inl refl); form = refl; args = refl; result = refl };
    })
    (λ e. absurd (omega arith))
    (λ e. constants_plain)
    built
  where
    built : AreBuiltIn (module_of [] [] TruthValue).sorts (signature_over (given_over [] [] (module_of [] [] TruthValue).sorts (hierarchy_over [] [] (module_of [] [] TruthValue).sorts []) constants))
    built f name o e =
        let names = (module_of [] [] TruthValue).sorts in
        let h = hierarchy_over [] [] names [] in
        let r = Sources.built_given h (all_declarations [] [] names h constants) (numerals_of names (0 ∷ [])) f name o e in
        absurd (constants_plain r.0 name (only r.0 r.1) r.2)
      where
        only : (d : Decl) → IsIn d (constants ++ []) → IsIn d constants
        only d (inl e) = inl e
        only d (inr (inl e)) = inr (inl e)
        only d (inr (inr e)) = absurd e

-- ---- the operators on truth values

nothing_declared : (d : Decl) (name : List ℕ) → IsIn d [] → d.attrs.builtin ≡ Some name → ⊥
nothing_declared d name i b = i

pub truth_made : IsMadeOnce ms1 (truth_value ∷ []) Truth
truth_made made k =
    let m = module_of ms1 (truth_value ∷ []) Truth in
    let parts = parts_of ms1 (truth_value ∷ []) in
    let first : IsIn 0 parts = subst (IsIn 0) (sym parts1) (inl refl) in
    let own = no_equations m.signature in
    made_over ms1 m parts made k own (subst (IsIn 0) (sym k.parts) (in_left 0 parts (length ms1 ∷ []) first))
    (λ d name i e. absurd i) (λ e. absurd (omega (arith, e, length1))) (λ e. absurd (omega (arith, e, length1))) (λ e. nothing_declared)
    (all_built ms1 m.sorts parts made k.closed m.own.pairs m.own.declarations (well_declared_so ms1 m parts made k own) first (λ d name i e t. absurd i))

-- ---- what may be computed with truth values

connectives_plain : (d : Decl) (name : List ℕ) → IsIn d connectives → d.attrs.builtin ≡ Some name → ⊥
connectives_plain d name (inl e) b = let x = ap (λ (y : Decl). y.attrs.builtin) (sym e) ∙ b in cc
connectives_plain d name (inr (inl e)) b = let x = ap (λ (y : Decl). y.attrs.builtin) (sym e) ∙ b in cc
connectives_plain d name (inr (inr (inl e))) b = let x = ap (λ (y : Decl). y.attrs.builtin) (sym e) ∙ b in cc
connectives_plain d name (inr (inr (inr (inl e)))) b = let x = ap (λ (y : Decl). y.attrs.builtin) (sym e) ∙ b in cc
connectives_plain d name (inr (inr (inr (inr (inl e))))) b = let x = ap (λ (y : Decl). y.attrs.builtin) (sym e) ∙ b in cc
connectives_plain d name (inr (inr (inr (inr (inr e))))) b = absurd e

pub bool_made : IsMadeOnce ms2 (truth ∷ []) Bool
bool_made made k =
    let m = module_of ms2 (truth ∷ []) Bool in
    let parts = parts_of ms2 (truth ∷ []) in
    let first : IsIn 0 parts = subst (IsIn 0) (sym parts2) (inl refl) in
    made_over ms2 m parts made k bool_equations (subst (IsIn 0) (sym k.parts) (in_left 0 parts (length ms2 ∷ []) first))
    (λ d name i e. absurd (connectives_plain d name i e)) (λ e. absurd (omega (arith, e, length2))) (λ e. absurd (omega (arith, e, length2))) (λ e. connectives_plain)
    (all_built ms2 m.sorts parts made k.closed m.own.pairs m.own.declarations (well_declared_so ms2 m parts made k bool_equations) first
    (λ d name i e t. absurd (connectives_plain d name i e)))

-- ---- numbers

declares_numbers : DeclaresNumbers (module_of ms3 (bool ∷ []) Nat)
unfolding ms1 ms2 ms3 kind_of kinds_before first_sort
declares_numbers = record {
  sorts = record { zero = refl; others = refl };
  one_kind = refl;
  successor = refl;
  in_kind = suit (module_of ms3 (bool ∷ []) Nat).signature.hierarchy 5 (module_of ms3 (bool ∷ []) Nat).own.declarations refl;
}

pub nat_made : IsMadeOnce ms3 (bool ∷ []) Nat
nat_made made k =
    let m = module_of ms3 (bool ∷ []) Nat in
    let parts = parts_of ms3 (bool ∷ []) in
    let names = m.sorts in
    let own = no_equations m.signature in
    let h = hierarchy_over ms3 parts names m.own.pairs in
    let whole = all_declarations ms3 parts names h m.own.declarations in
    let numerals = numerals_of names (parts ++ length ms3 ∷ []) in
    let first : IsIn 0 parts = subst (IsIn 0) (sym parts3) (inl refl) in
    let accepted = well_declared_so ms3 m parts made k own in
    let four : length names ≡ 4 = ap length names3 in
    let below : (a b : ℕ) → IsIn (a, b) number_pairs → a < 4 → b < 4 → kind_of h a ≡ kind_of h b = λ a b i l r.
    (joined_sorts h a b (omega (arith, four)) (omega (arith, four))).1
    (step (inl (in_contains h.pairs (a, b) (in_right (a, b) (pairs_of ms3 names parts) number_pairs i))) no_step) in
    let zero_kind = below 1 3 (inl refl) (omega arith) (omega arith) in
    let one_kind = below 2 3 (inr (inl refl)) (omega arith) (omega arith) in
    let named : (x : List ℕ) (a : ℕ) → position (bytes_eq x) (codes "Bool" ∷ codes "Zero" ∷ codes "NzNat" ∷ codes "Nat" ∷ []) ≡ Some a → IsNamed names x a = λ x a e.
    subst (λ ns. position (bytes_eq x) ns ≡ Some a) (sym names3) e in
    let truth = truth_there ms3 names parts made k.closed m.own.pairs m.own.declarations accepted first in
    let included = in_part (parts ++ length ms3 ∷ []) 3 (in_right 3 parts (length ms3 ∷ []) (inl (sym length3))) in
    let zero_is : number_in names (codes "Zero") ≡ 1 = ap (λ ns. number_in ns (codes "Zero")) names3 in
    let numbers : HasNumbers names (signature_over (given_over ms3 parts names h m.own.declarations)) = record {
      nat = 3;
      named = named (codes "Nat") 3 refl;
      nz_nat = 2;
      nz_named = named (codes "NzNat") 2 refl;
      one_kind = one_kind;
      numerals =
          ap (λ b. option_map (λ (p : ℕ × ℕ). kind_of h p.0) (if b then Some (number_in names (codes "Zero"), number_in names (codes "NzNat")) else None)) included
          ∙ ap Some (ap (kind_of h) zero_is ∙ zero_kind);
    } in
    let rows : (d : Decl) (name : List ℕ) → IsIn d number_declarations → d.attrs.builtin ≡ Some name
    → HasBuiltIn names (signature_over (given_over ms3 parts names h m.own.declarations)) (Sources.place h whole numerals d + 1) name =
    rows_built names h whole numerals accepted
    (λ d i. in_left d (declarations_of ms3 names h parts ++ m.own.declarations) (if_truth (has_truth (parts ++ length ms3 ∷ [])) h names)
    (in_right d (declarations_of ms3 names h parts) m.own.declarations i))
    (omega (arith, four)) one_kind (named (codes "Bool") 0 refl) (named (codes "NzNat") 2 refl) (named (codes "Nat") 3 refl) truth numbers in
    made_over ms3 m parts made k own (subst (IsIn 0) (sym k.parts) (in_left 0 parts (length ms3 ∷ []) first))
    (λ d name i e. subst (λ (x : SignatureOf). HasBuiltIn names x (number_at x d) name) (sym k.signature) (rows d name i e))
    (λ e. absurd (omega (arith, e, length3))) (λ e. declares_numbers) (λ e. absurd (e length3))
    (all_built ms3 names parts made k.closed m.own.pairs m.own.declarations accepted first (λ d name i e t. rows d name i e))
