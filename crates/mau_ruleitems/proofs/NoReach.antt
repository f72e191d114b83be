-- By rules without rewriting conditions terms may be rewritten.
use Rattle.std.proofs.Common.{◌≡◌, ℕ, zero, suc, ◌+◌, ◌<◌, ◌≤◌, List, [], ◌∷◌, length, map, Bool, true, false, ◌&&◌, ◌||◌, not, cond, Option, None, Some, All, ltb, ⊎_elim, refl, sym, ◌∙◌, ap, subst, arith}
use Rattle.std.specs.List.{list_any, position, position_or_len}
use Rattle.std.proofs.lemmas.List.Elements.{All-nil, All-cons, All-head, All-tail}
use Rattle.std.proofs.lemmas.Bool.{cases_lt, lt-ltb}
use Rattle.mau_terms.specs.Bare.{IsLawful}
use Rattle.mau_terms.specs.Finite.{IsIn}
use Rattle.mau_formula.specs.Operator.{Operator}
use Rattle.mau_signature.specs.Signature.{terms_over}
use Rattle.mau_program.specs.declared.program.Program.{Program}
use Rattle.mau_program.specs.declared.statements.Fragment.{Fragment}
use Rattle.mau_program.specs.declared.statements.Fragment.TheVariants.{Equal, Match, Sort, Reach}
use Rattle.mau_program.specs.declared.statements.Rule as Written
use Rattle.mau_program.specs.LawfulPrograms.{IsLawfulProgram}
use Rattle.mau_evaluation.specs.Program.{Rule}
use Rattle.mau_evaluation.specs.Rules.{has_reach}
use Rattle.mau_api.specs.Programs.{fragment_of, rule_of}
use Rattle.mau_api.specs.Meanings.{Meanings, meanings_by}
use Rattle.mau_reduce.proofs.Valued.{heads_of}
use Rattle.mau_reducer.proofs.FromLawful.{in_mapped, reducible}
use Rattle.mau_rules.specs.Runnable.{IsRunnable, GoesBy}
use Rattle.mau_ruleitems.specs.Conditions.{is_rewriting, asks_to_rewrite, rewriting_condition}

-- ---- no rule rewrites in its condition

none_reaches : (fs : List Fragment) → list_any is_rewriting fs ≡ false → has_reach (map fragment_of fs) ≡ false
none_reaches [] e = refl
none_reaches (Equal t u ∷ fs) e = none_reaches fs e
none_reaches (Match p u ∷ fs) e = none_reaches fs e
none_reaches (Sort t s ∷ fs) e = none_reaches fs e
none_reaches (Reach t u ∷ fs) e = absurd cc

never_none : (b : Bool) (n : ℕ) → b ≡ true → cond b (Some n) None ≡ None → ⊥
never_none true n t e = absurd cc
never_none false n t e = absurd cc

module _ {A : Type 0} (p : A → Bool) where
  -- the first one that passes is behind all of those that do not
  none_pass : (xs : List A) → length xs ≤ position_or_len p xs → All (λ x. p x ≡ false) xs
  none_pass [] h = All-nil (λ x. p x ≡ false)
  none_pass (x ∷ xs) h = by (p x) refl (λ i. none_pass xs i)
    where
      by : (b : Bool) → p x ≡ b → (length xs ≤ position_or_len p xs → All (λ x. p x ≡ false) xs) → All (λ x. p x ≡ false) (x ∷ xs)
      by true e rest = absurd (let z : position_or_len p (x ∷ xs) ≡ 0 = rw e refl in omega (arith, z, h))
      by false e rest =
          let z : position_or_len p (x ∷ xs) ≡ 1 + position_or_len p xs = rw e refl in
          All-cons (λ x. p x ≡ false) x xs e (rest (omega (arith, z, h)))

  none_found : (xs : List A) → position p xs ≡ None → All (λ x. p x ≡ false) xs
  none_found xs e =
      ⊎_elim (λ (low : position_or_len p xs < length xs). absurd (never_none (ltb (position_or_len p xs) (length xs)) (position_or_len p xs) (lt-ltb (position_or_len p xs) (length xs) low) e))
      (λ (high : length xs ≤ position_or_len p xs). none_pass xs high)
      (cases_lt (position_or_len p xs) (length xs))

rests : (q : Written.Rule) → asks_to_rewrite q ≡ false → (rule_of q).exec ≡ true → has_reach (rule_of q).cond ≡ false
rests q e exec = none_reaches q.cond (by q.exec (list_any is_rewriting q.cond) e exec)
  where
    by : (a b : Bool) → (a && b) ≡ false → a ≡ true → b ≡ false
    by true b e h = e
    by false b e h = absurd cc

all_rest : (qs : List Written.Rule) → All (λ q. asks_to_rewrite q ≡ false) qs → All (λ q. (rule_of q).exec ≡ true → has_reach (rule_of q).cond ≡ false) qs
all_rest [] all = All-nil (λ (q : Written.Rule). (rule_of q).exec ≡ true → has_reach (rule_of q).cond ≡ false)
all_rest (q ∷ qs) all =
    All-cons (λ (q : Written.Rule). (rule_of q).exec ≡ true → has_reach (rule_of q).cond ≡ false) q qs (rests q (All-head (λ q. asks_to_rewrite q ≡ false) q qs all))
    (all_rest qs (All-tail (λ q. asks_to_rewrite q ≡ false) q qs all))

-- ---- programs that may be run

pub runnable : (p : Program) → IsLawfulProgram p → IsLawful (terms_over p.sig) → rewriting_condition p.rules ≡ None → IsRunnable p
runnable p lawful signature none = record {
  reducible = reducible p lawful signature;
  heads = heads_of p (reducible p lawful signature);
  rules = lawful.rules;
  no_reach = in_mapped rule_of (λ (q : Rule). q.exec ≡ true → has_reach q.cond ≡ false) p.rules (all_rest p.rules (none_found asks_to_rewrite p.rules none));
}

-- an evaluator by the definitions
pub goes_by : (p : Program) (m : Meanings) (hooks : List Operator) (limit : ℕ) (r : Bool) → m ≡ meanings_by p hooks limit r → GoesBy p m
goes_by p m hooks limit r e = subst (GoesBy p) (sym e) (record { program = refl; defined = refl })
