-- The statements of all parts, in the numbers of the whole, are lawful where the left sides of equations and the heads of memberships are.
use Rattle.std.proofs.Common.{◌≡◌, ◌≤◌, ℕ, ◌+◌, List, [], ◌∷◌, ◌++◌, true, map, length, get_or, refl, sym, ap, subst, inl, inr, arith, length-append}
use Rattle.std.specs.Prelude.{All, fold}
use Rattle.std.specs.Option.{option_map_or}
use Rattle.std.proofs.Math.ListN.{get_or-append, get_or-map}
use Rattle.std.proofs.lemmas.List.{get_or-append-add, length-map}
use Rattle.std.proofs.lemmas.List.Elements.{All-nil, All-append, All-map}
use Rattle.mau_terms.specs.Finite.{IsIn}
use Rattle.mau_terms.specs.View.{tree_of}
use Rattle.mau_signature.specs.declared.decl.Decl.{Decl}
use Rattle.mau_signature.specs.Signature.{SignatureOf, theory_at}
use Rattle.mau_sigcheck.specs.Built.{IsBuiltAndAccepted}
use Rattle.mau_program.specs.declared.statements.Equation.{Equation}
use Rattle.mau_program.specs.declared.statements.Membership.{Membership}
use Rattle.mau_program.specs.declared.statements.Rule.{Rule}
use Rattle.mau_program.specs.declared.definitions.StratDef.{StratDef}
use Rattle.mau_program.specs.Tops.{is_left_side, is_head}
use Rattle.mau_program.specs.LawfulStatements.{IsLawfulEquation, IsLawfulMembership, IsLawfulRule}
use Rattle.mau_program.specs.LawfulStrategies.{IsLawfulDefinition}
use Rattle.mau_renumber.specs.Carried.{Numbers, variables_to, equation_to, membership_to, rule_to}
use Rattle.mau_renumber.specs.Strategies.{definition_to}
use Rattle.mau_renumber.specs.Keeps.{StatementsStayLawful}
use Rattle.mau_renumber.proofs.Apart.{variables_apart}
use Rattle.mau_renumber.proofs.Stays.{all_stay}
use Rattle.mau_statement.specs.declared.TheConstants.{MAX_VARIABLES}
use Rattle.mau_signing.specs.Signed.{signature_over}
use Rattle.mau_module.specs.Modules.{ModuleOf, StatementsOf, no_statements, and_more}
use Rattle.mau_module.specs.Declarations.{hierarchy_over, given_over}
use Rattle.mau_module.specs.Carried.{numbers_from, carried_from, carried_part, carried}
use Rattle.mau_module.specs.Made.{HaveFewVariables, AreLawfulOver, AreMade, IsClosed}
use Rattle.mau_module.proofs.Including.{part_is}
use Rattle.mau_module.proofs.Keeping.{keeps_kinds}

-- ---- lists of statements

abbrev Short : {A : Type 0} → (A → List (List ℕ × ℕ)) → A → Type 0
Short vars x = length (vars x) ≤ MAX_VARIABLES

pub nothing_few : HaveFewVariables no_statements
nothing_few = record {
  equations = All-nil (Short (λ (e : Equation). e.vars));
  memberships = All-nil (Short (λ (m : Membership). m.vars));
  rules = All-nil (Short (λ (r : Rule). r.vars));
  strategies = All-nil (Short (λ (d : StratDef). d.vars));
}

both_few : (a b : StatementsOf) → HaveFewVariables a → HaveFewVariables b → HaveFewVariables (and_more a b)
both_few a b x y = record {
  equations = All-append (Short (λ (e : Equation). e.vars)) a.equations b.equations x.equations y.equations;
  memberships = All-append (Short (λ (m : Membership). m.vars)) a.memberships b.memberships x.memberships y.memberships;
  rules = All-append (Short (λ (r : Rule). r.vars)) a.rules b.rules x.rules y.rules;
  strategies = All-append (Short (λ (d : StratDef). d.vars)) a.strategies b.strategies x.strategies y.strategies;
}

-- in other numbers there are as many
few_moved : (sort : ℕ → ℕ) (vars : List (List ℕ × ℕ)) → length vars ≤ MAX_VARIABLES → length (variables_to sort vars) ≤ MAX_VARIABLES
few_moved sort vars l =
    let same = ap length (variables_apart sort vars).1 in
    omega (arith, l, same, length-map (variables_to sort vars) (λ (p : List ℕ × ℕ). p.1), length-map vars (λ (p : List ℕ × ℕ). sort p.1))

moved_few : (n : Numbers) (a : StatementsOf) → HaveFewVariables a → HaveFewVariables (carried_from n a)
moved_few n a l = record {
  equations = All-map (Short (λ (e : Equation). e.vars)) (equation_to n) a.equations (λ i x w. few_moved n.sort (get_or a.equations i x).vars (l.equations i x w));
  memberships = All-map (Short (λ (m : Membership). m.vars)) (membership_to n) a.memberships (λ i x w. few_moved n.sort (get_or a.memberships i x).vars (l.memberships i x w));
  rules = All-map (Short (λ (r : Rule). r.vars)) (rule_to n) a.rules (λ i x w. few_moved n.sort (get_or a.rules i x).vars (l.rules i x w));
  strategies = All-map (Short (λ (d : StratDef). d.vars)) (definition_to n) a.strategies (λ i x w. few_moved n.sort (get_or a.strategies i x).vars (l.strategies i x w));
}

pub nothing_lawful : (s : SignatureOf) → AreLawfulOver s no_statements
nothing_lawful s = record {
  equations = All-nil (IsLawfulEquation s);
  memberships = All-nil (IsLawfulMembership s);
  rules = All-nil (IsLawfulRule s);
  strategies = All-nil (IsLawfulDefinition s);
  few = nothing_few;
}

pub both_lawful : (s : SignatureOf) (a b : StatementsOf) → AreLawfulOver s a → AreLawfulOver s b → AreLawfulOver s (and_more a b)
both_lawful s a b x y = record {
  equations = All-append (IsLawfulEquation s) a.equations b.equations x.equations y.equations;
  memberships = All-append (IsLawfulMembership s) a.memberships b.memberships x.memberships y.memberships;
  rules = All-append (IsLawfulRule s) a.rules b.rules x.rules y.rules;
  strategies = All-append (IsLawfulDefinition s) a.strategies b.strategies x.strategies y.strategies;
  few = both_few a b x.few y.few;
}

abbrev IsLeft : SignatureOf → Equation → Type 0
IsLeft s e = is_left_side (theory_at s) (tree_of e.left) ≡ true

abbrev IsHeadOf : SignatureOf → Membership → Type 0
IsHeadOf s m = is_head (theory_at s) (tree_of m.left) ≡ true

-- left sides and heads are such
pub record HaveTops (s : SignatureOf) (a : StatementsOf) : Type 0 where
  pub left_sides : All (IsLeft s) a.equations
  pub heads : All (IsHeadOf s) a.memberships

front : {A : Type 0} (P : A → Type 0) (xs ys : List A) → All P (xs ++ ys) → All P xs
front P xs ys a = λ i x w. subst P (get_or-append xs ys x i w) (a i x (omega (arith, length-append xs ys)))

back : {A : Type 0} (P : A → Type 0) (xs ys : List A) → All P (xs ++ ys) → All P ys
back P xs ys a = λ i x w. subst P (get_or-append-add xs ys i x) (a (length xs + i) x (omega (arith, length-append xs ys)))

first_tops : (s : SignatureOf) (a b : StatementsOf) → HaveTops s (and_more a b) → HaveTops s a
first_tops s a b h = record { left_sides = front (IsLeft s) a.equations b.equations h.left_sides; heads = front (IsHeadOf s) a.memberships b.memberships h.heads }

last_tops : (s : SignatureOf) (a b : StatementsOf) → HaveTops s (and_more a b) → HaveTops s b
last_tops s a b h = record { left_sides = back (IsLeft s) a.equations b.equations h.left_sides; heads = back (IsHeadOf s) a.memberships b.memberships h.heads }

-- statements in other numbers
moved_lawful : (n : Numbers) (old new : SignatureOf) → StatementsStayLawful n old new → (a : StatementsOf) → AreLawfulOver old a → HaveTops new (carried_from n a) → AreLawfulOver new (carried_from n a)
moved_lawful n old new stay a l tops = record {
  equations = λ i x w. each (equation_to n) a.equations (IsLeft new) (IsLawfulEquation old) (IsLawfulEquation new) stay.equations l.equations tops.left_sides i x w;
  memberships = λ i x w. each (membership_to n) a.memberships (IsHeadOf new) (IsLawfulMembership old) (IsLawfulMembership new) stay.memberships l.memberships tops.heads i x w;
  rules = All-map (IsLawfulRule new) (rule_to n) a.rules (λ i x w. stay.rules (get_or a.rules i x) (l.rules i x w));
  strategies = All-map (IsLawfulDefinition new) (definition_to n) a.strategies (λ i x w. stay.strategies (get_or a.strategies i x) (l.strategies i x w));
  few = moved_few n a l.few;
}
  where
    each : {A : Type 0} (f : A → A) (xs : List A) (T P Q : A → Type 0) → ((x : A) → P x → T (f x) → Q (f x)) → All P xs → All T (map f xs) → All Q (map f xs)
    each f xs T P Q step a t = All-map Q f xs (λ i x w. step (get_or xs i x) (a i x w) (subst T (get_or-map f xs i x) (t i (f x) (omega (arith, length-map xs f)))))

-- ---- those of all parts

module _ (ms : List ModuleOf) (names : List (List ℕ)) (parts : List ℕ) (all_made : AreMade ms) (closed : IsClosed ms names parts) (pairs : List (ℕ × ℕ)) (own : List Decl)
    (accepted : IsBuiltAndAccepted (signature_over (given_over ms parts names (hierarchy_over ms parts names pairs) own))) where
  abbrev s : SignatureOf
  s = signature_over (given_over ms parts names (hierarchy_over ms parts names pairs) own)

  abbrev all_from : StatementsOf → List ℕ → StatementsOf
  all_from done ps = fold (λ a p. and_more a (carried_part ms names s p)) done ps

  tops_before : (ps : List ℕ) (done : StatementsOf) → HaveTops s (all_from done ps) → HaveTops s done
  tops_before [] done h = h
  tops_before (p ∷ ps) done h = first_tops s done (carried_part ms names s p) (tops_before ps (and_more done (carried_part ms names s p)) h)

  part_lawful : (p : ℕ) → IsIn p parts → HaveTops s (carried_part ms names s p) → AreLawfulOver s (carried_part ms names s p)
  part_lawful p i tops =
      let r = part_is ms names parts all_made closed p i in
      let m = r.0 in
      let is : carried_part ms names s p ≡ carried_from (numbers_from m names s) m.own.statements =
      ap (λ o. option_map_or (λ (x : ModuleOf). carried_from (numbers_from x names s) x.own.statements) o no_statements) r.1.there in
      let keeps = keeps_kinds ms names parts all_made closed pairs own accepted p m r.1 in
      subst (AreLawfulOver s) (sym is)
      (moved_lawful (numbers_from m names s) m.signature s (all_stay (numbers_from m names s) m.signature s keeps) m.own.statements r.1.made.own (subst (HaveTops s) is tops))

  from_lawful : (ps : List ℕ) (done : StatementsOf) → ((p : ℕ) → IsIn p ps → IsIn p parts) → AreLawfulOver s done → HaveTops s (all_from done ps) → AreLawfulOver s (all_from done ps)
  from_lawful [] done among l tops = l
  from_lawful (p ∷ ps) done among l tops =
      let part = carried_part ms names s p in
      let its = last_tops s done part (tops_before ps (and_more done part) tops) in
      from_lawful ps (and_more done part) (λ q i. among q (inr i)) (both_lawful s done part l (part_lawful p (among p (inl refl)) its)) tops

  pub carried_lawful : HaveTops s (carried ms names s parts) → AreLawfulOver s (carried ms names s parts)
  carried_lawful tops = from_lawful parts no_statements (λ q i. i) (nothing_lawful s) tops
