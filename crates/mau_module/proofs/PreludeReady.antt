-- The tables of the prelude are those of modules, each over the modules before it.
use Rattle.std.proofs.Common.{◌≡◌, ◌<◌, ℕ, List, [], ◌∷◌, true, Some, None, length, refl, sym, ap, subst, inl, inr, arith}
use Rattle.std.specs.Prelude.{All, codes}
use Rattle.std.proofs.lemmas.List.Elements.{All-nil}
use Rattle.mau_poset.specs.Order.{IsWithin, kind_of, kinds_before, first_sort}
use Rattle.mau_terms.specs.Finite.{IsIn}
use Rattle.mau_terms.specs.View.{tree_of}
use Rattle.mau_signature.specs.Attributes.{no_attributes}
use Rattle.mau_signature.specs.declared.decl.Decl.{Decl}
use Rattle.mau_signature.specs.Faults.{Given, given, HasSorts, IsSort}
use Rattle.mau_signature.specs.Signature.{SignatureOf, theory_at}
use Rattle.mau_grammar.specs.declared.aliases.Alias.{Alias}
use Rattle.mau_prelude.specs.declared.module.PreludeModule.{PreludeModule}
use Rattle.mau_prelude.specs.declared.module.PreludeModule.TheVariants.{TruthValue, Truth, Bool, Nat}
use Rattle.mau_prelude.specs.Rows.{word_form, declare}
use Rattle.mau_prelude.specs.Booleans.{constants, variables}
use Rattle.mau_prelude.specs.Numbers.{number_pairs}
use Rattle.mau_prelude.specs.Tables.{table_of}
use Rattle.mau_program.specs.declared.statements.Equation.{Equation}
use Rattle.mau_program.specs.declared.statements.Membership.{Membership}
use Rattle.mau_program.specs.BuiltIns.{HasTruth}
use Rattle.mau_program.specs.Tops.{is_left_side, is_head}
use Rattle.mau_signing.specs.Signed.{signature_over}
use Rattle.mau_module.specs.Modules.{ModuleOf}
use Rattle.mau_module.specs.Library.{truth_value, truth, bool}
use Rattle.mau_module.specs.Included.{parts_of, depth_over, numerals_of}
use Rattle.mau_module.specs.Carried.{carried}
use Rattle.mau_module.specs.Prelude.{table_frame, table_given}
use Rattle.mau_module.specs.Declarations.{hierarchy_over, all_declarations, given_over}
use Rattle.mau_module.specs.Made.{AreMade, IsClosed}
use Rattle.mau_module.specs.Ready.{IsSignable, module_of, IsReady}
use Rattle.mau_module.proofs.LawfulCarried.{HaveTops}
use Rattle.mau_module.proofs.BuiltAgain.{constant_there, truth_there}
use Rattle.mau_module.proofs.Deciding.{every, every_in}
use Rattle.mau_module.proofs.PreludeFacts.{ms1, ms2, ms3, parts1, parts2, parts3, names1, names2, names3}
use Rattle.mau_module.proofs.PreludeSigned.{in_all, have_sorts, of_bools, of_numbers, declared_in_truth, declared_in_bool, declared_in_nat, constants_read, truth_read, bool_read, nat_read, no_numerals_in_constants, no_numerals_in_truth, no_numerals_in_bool, numerals_in_nat, within_numbers}
use Rattle.mau_module.proofs.PreludeMade.{truth_value_made, truth_made, bool_made, nat_made}
use Rattle.mau_module.proofs.Signable.{signable_from, signable_accepted, tops_lawful}

-- ---- what is declared

given0 : table_given [] (table_frame [] [] (table_of TruthValue)) (table_of TruthValue) ≡ given of_bools constants None
given0 = refl

given1 : table_given ms1 (table_frame ms1 (truth_value ∷ []) (table_of Truth)) (table_of Truth) ≡ given of_bools declared_in_truth None
unfolding ms1 kind_of kinds_before first_sort
given1 = refl

given2 : table_given ms2 (table_frame ms2 (truth ∷ []) (table_of Bool)) (table_of Bool) ≡ given of_bools declared_in_bool None
unfolding ms1 ms2 kind_of kinds_before first_sort
given2 = refl

given3 : table_given ms3 (table_frame ms3 (bool ∷ []) (table_of Nat)) (table_of Nat) ≡ given of_numbers declared_in_nat (Some (1, 2))
unfolding ms1 ms2 ms3 kind_of kinds_before first_sort
given3 = refl

sorts0 : All (HasSorts of_bools) constants
unfolding kind_of kinds_before first_sort
sorts0 = have_sorts of_bools constants refl

sorts1 : All (HasSorts of_bools) declared_in_truth
unfolding kind_of kinds_before first_sort
sorts1 = have_sorts of_bools declared_in_truth refl

sorts2 : All (HasSorts of_bools) declared_in_bool
unfolding kind_of kinds_before first_sort
sorts2 = have_sorts of_bools declared_in_bool refl

sorts3 : All (HasSorts of_numbers) declared_in_nat
unfolding kind_of kinds_before first_sort
sorts3 = have_sorts of_numbers declared_in_nat refl

no_pair_within : (n : ℕ) → IsWithin [] n
no_pair_within n = in_all (λ (p : ℕ × ℕ). (p.0 < n) × (p.1 < n)) [] (λ p i. absurd i)

signable0 : IsSignable [] (parts_of [] []) (table_frame [] [] (table_of TruthValue)).names (table_of TruthValue).pairs (table_of TruthValue).declarations
signable0 =
    let f = table_frame [] [] (table_of TruthValue) in
    signable_from [] f.parts f.names [] constants of_bools constants None given0 (omega arith) (no_pair_within (length f.names)) sorts0 (omega arith) no_numerals_in_constants (constants_read f.names)

signable1 : IsSignable ms1 (parts_of ms1 (truth_value ∷ [])) (table_frame ms1 (truth_value ∷ []) (table_of Truth)).names (table_of Truth).pairs (table_of Truth).declarations
signable1 =
    let f = table_frame ms1 (truth_value ∷ []) (table_of Truth) in
    let one : length f.names ≡ 1 = ap length names1 in
    signable_from ms1 f.parts f.names [] [] of_bools declared_in_truth None given1 (omega (arith, one)) (no_pair_within (length f.names)) sorts1 (omega arith) no_numerals_in_truth (truth_read f.names)

signable2 : IsSignable ms2 (parts_of ms2 (truth ∷ [])) (table_frame ms2 (truth ∷ []) (table_of Bool)).names (table_of Bool).pairs (table_of Bool).declarations
signable2 =
    let f = table_frame ms2 (truth ∷ []) (table_of Bool) in
    let one : length f.names ≡ 1 = ap length names2 in
    signable_from ms2 f.parts f.names [] (table_of Bool).declarations of_bools declared_in_bool None given2 (omega (arith, one)) (no_pair_within (length f.names)) sorts2 (omega arith) no_numerals_in_bool (bool_read f.names)

signable3 : IsSignable ms3 (parts_of ms3 (bool ∷ [])) (table_frame ms3 (bool ∷ []) (table_of Nat)).names (table_of Nat).pairs (table_of Nat).declarations
signable3 =
    let f = table_frame ms3 (bool ∷ []) (table_of Nat) in
    let four : length f.names ≡ 4 = ap length names3 in
    signable_from ms3 f.parts f.names number_pairs (table_of Nat).declarations of_numbers declared_in_nat (Some (1, 2)) given3 (omega (arith, four)) (subst (IsWithin number_pairs) (sym four) within_numbers) sorts3 (omega arith) numerals_in_nat (nat_read f.names)

-- ---- statements that are carried

abbrev has_left : SignatureOf → Equation → Type 0
has_left s e = is_left_side (theory_at s) (tree_of e.left) ≡ true

abbrev their : (ms : List ModuleOf) (imports : List ℕ) (p : PreludeModule) → Rattle.mau_module.specs.Modules.StatementsOf
their ms imports p = carried ms (table_frame ms imports (table_of p)).names (module_of ms imports p).signature (parts_of ms imports)

tops_by : (s : SignatureOf) (a : Rattle.mau_module.specs.Modules.StatementsOf) → every (λ (e : Equation). is_left_side (theory_at s) (tree_of e.left)) a.equations ≡ true
    → every (λ (m : Membership). is_head (theory_at s) (tree_of m.left)) a.memberships ≡ true → HaveTops s a
tops_by s a left heads = record {
  left_sides = in_all (λ (e : Equation). is_left_side (theory_at s) (tree_of e.left) ≡ true) a.equations (λ e i. every_in (λ (x : Equation). is_left_side (theory_at s) (tree_of x.left)) a.equations left e i);
  heads = in_all (λ (m : Membership). is_head (theory_at s) (tree_of m.left) ≡ true) a.memberships (λ m i. every_in (λ (x : Membership). is_head (theory_at s) (tree_of x.left)) a.memberships heads m i);
}

tops0 : HaveTops (module_of [] [] TruthValue).signature (their [] [] TruthValue)
unfolding kind_of kinds_before first_sort
tops0 = tops_by (module_of [] [] TruthValue).signature (their [] [] TruthValue) refl refl

tops1 : HaveTops (module_of ms1 (truth_value ∷ []) Truth).signature (their ms1 (truth_value ∷ []) Truth)
unfolding ms1 kind_of kinds_before first_sort
tops1 = tops_by (module_of ms1 (truth_value ∷ []) Truth).signature (their ms1 (truth_value ∷ []) Truth) refl refl

tops2 : HaveTops (module_of ms2 (truth ∷ []) Bool).signature (their ms2 (truth ∷ []) Bool)
unfolding ms1 ms2 kind_of kinds_before first_sort
tops2 = tops_by (module_of ms2 (truth ∷ []) Bool).signature (their ms2 (truth ∷ []) Bool) refl refl

tops3 : HaveTops (module_of ms3 (bool ∷ []) Nat).signature (their ms3 (bool ∷ []) Nat)
unfolding ms1 ms2 ms3 kind_of kinds_before first_sort
tops3 = tops_by (module_of ms3 (bool ∷ []) Nat).signature (their ms3 (bool ∷ []) Nat) refl refl

-- ---- depths

depth1 : depth_over ms1 (truth_value ∷ []) ≡ 2
unfolding ms1
depth1 = refl

depth2 : depth_over ms2 (truth ∷ []) ≡ 3
unfolding ms1 ms2
depth2 = refl

depth3 : depth_over ms3 (bool ∷ []) ≡ 4
unfolding ms1 ms2 ms3
depth3 = refl

-- ---- truth values

-- the module of truth values is among the parts
truth_from : (ms : List ModuleOf) (parts : List ℕ) (names : List (List ℕ)) (pairs : List (ℕ × ℕ)) (own : List Decl) → IsSignable ms parts names pairs own → IsIn 0 parts
    → AreMade ms → IsClosed ms names parts → HasTruth names (signature_over (given_over ms parts names (hierarchy_over ms parts names pairs) own))
truth_from ms parts names pairs own signable first made closed = truth_there ms names parts made closed pairs own (signable_accepted ms parts names pairs own signable) first

truth0 : HasTruth (table_frame [] [] (table_of TruthValue)).names (signature_over (table_given [] (table_frame [] [] (table_of TruthValue)) (table_of TruthValue)))
truth0 =
    let names = (table_frame [] [] (table_of TruthValue)).names in
    let h = hierarchy_over [] [] names [] in
    let ds = all_declarations [] [] names h constants in
    let accepted = signable_accepted [] [] names [] constants signable0 in
    record {
      bool = 0;
      named = refl;
      yes = constant_there names h ds (numerals_of names (0 ∷ [])) accepted (declare (word_form (codes "true")) [] 0 no_attributes) (codes "true") (inl refl) refl refl;
      no = constant_there names h ds (numerals_of names (0 ∷ [])) accepted (declare (word_form (codes "false")) [] 0 no_attributes) (codes "false") (inr (inl refl)) refl refl;
    }

-- ---- the four tables

pub truth_value_ready : IsReady [] [] TruthValue
truth_value_ready = record {
  shallow = omega arith;
  signable = signable0;
  variables = All-nil _;
  tops = λ made closed. let f = table_frame [] [] (table_of TruthValue) in tops_lawful [] f.parts f.names [] constants signable0 made closed tops0;
  truth = λ made closed. truth0;
  made = truth_value_made;
}

pub truth_ready : IsReady ms1 (truth_value ∷ []) Truth
truth_ready = record {
  shallow = omega (arith, depth1);
  signable = signable1;
  variables = All-nil _;
  tops = λ made closed. let f = table_frame ms1 (truth_value ∷ []) (table_of Truth) in tops_lawful ms1 f.parts f.names [] [] signable1 made closed tops1;
  truth = λ made closed. let f = table_frame ms1 (truth_value ∷ []) (table_of Truth) in truth_from ms1 f.parts f.names [] [] signable1 (subst (IsIn 0) (sym parts1) (inl refl)) made closed;
  made = truth_made;
}

variables2 : All (λ (v : Alias). IsSort of_bools v.sort) variables
unfolding kind_of kinds_before first_sort
variables2 = in_all (λ (v : Alias). IsSort of_bools v.sort) variables by
  where
    by : (v : Alias) → IsIn v variables → IsSort of_bools v.sort
    by v (inl e) = subst (λ (x : Alias). IsSort of_bools x.sort) (sym e) (omega arith)
    by v (inr (inl e)) = subst (λ (x : Alias). IsSort of_bools x.sort) (sym e) (omega arith)
    by v (inr (inr (inl e))) = subst (λ (x : Alias). IsSort of_bools x.sort) (sym e) (omega arith)
    by v (inr (inr (inr e))) = absurd e

pub bool_ready : IsReady ms2 (truth ∷ []) Bool
bool_ready = record {
  shallow = omega (arith, depth2);
  signable = signable2;
  variables = subst (λ (g : Given). All (λ (v : Alias). IsSort g.hierarchy v.sort) variables) (sym given2) variables2;
  tops = λ made closed. let f = table_frame ms2 (truth ∷ []) (table_of Bool) in tops_lawful ms2 f.parts f.names [] (table_of Bool).declarations signable2 made closed tops2;
  truth = λ made closed. let f = table_frame ms2 (truth ∷ []) (table_of Bool) in truth_from ms2 f.parts f.names [] (table_of Bool).declarations signable2 (subst (IsIn 0) (sym parts2) (inl refl)) made closed;
  made = bool_made;
}

pub nat_ready : IsReady ms3 (bool ∷ []) Nat
nat_ready = record {
  shallow = omega (arith, depth3);
  signable = signable3;
  variables = All-nil _;
  tops = λ made closed. let f = table_frame ms3 (bool ∷ []) (table_of Nat) in tops_lawful ms3 f.parts f.names number_pairs (table_of Nat).declarations signable3 made closed tops3;
  truth = λ made closed. let f = table_frame ms3 (bool ∷ []) (table_of Nat) in truth_from ms3 f.parts f.names number_pairs (table_of Nat).declarations signable3 (subst (IsIn 0) (sym parts3) (inl refl)) made closed;
  made = nat_made;
}
