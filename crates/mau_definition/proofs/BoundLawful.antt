-- A strategy whose terms are typed and bound is lawful.
use Rattle.std.proofs.Common.{◌≡◌, ℕ, zero, suc, ◌<◌, List, [], ◌∷◌, Bool, true, false, ◌&&◌, length, get_or, All, refl, arith}
use Rattle.std.proofs.lemmas.Bool.{and_parts}
use Rattle.mau_terms.specs.Tree.{Tree}
use Rattle.mau_terms.specs.Bare.{IsBare}
use Rattle.mau_terms.specs.Subst.{Variable}
use Rattle.mau_terms.specs.View.{tree_of}
use Rattle.mau_signature.specs.Signature.{SignatureOf, terms_over}
use Rattle.mau_program.specs.Binding.{has_only}
use Rattle.mau_program.specs.LawfulStrategies.{IsLawfulArgument, IsLawfulAssign, IsLawfulStrategy}
use Rattle.mau_program.specs.declared.strategies.Assign.{Assign}
use Rattle.mau_program.specs.Trees.{StrategyOf, idle, fail, every_rule, label, top_only, call, test, star, plus, to_normal, in_turn, either, or_else, branch, negation, attempt, test_of, part_rewrite, label_by}
use Rattle.mau_strattext.specs.Lawful.{IsTypedAssign, IsTyped}
use Rattle.mau_definition.specs.Bound.{are_values_bound, are_terms_bound, is_bound_in}

value_bound : (xs : List Variable) (us : List Assign) → are_values_bound xs us ≡ true → (i : ℕ) (d : Assign) → i < length us → has_only xs (tree_of (get_or us i d).value) ≡ true
value_bound xs [] e i d l = absurd (omega arith)
value_bound xs (u ∷ us) e zero d l = (and_parts (has_only xs (tree_of u.value)) (are_values_bound xs us) e).0
value_bound xs (u ∷ us) e (suc i) d l = value_bound xs us ((and_parts (has_only xs (tree_of u.value)) (are_values_bound xs us) e).1) i d (omega arith)

term_bound : (xs : List Variable) (ts : List Tree) → are_terms_bound xs ts ≡ true → (i : ℕ) (d : Tree) → i < length ts → has_only xs (get_or ts i d) ≡ true
term_bound xs [] e i d l = absurd (omega arith)
term_bound xs (t ∷ ts) e zero d l = (and_parts (has_only xs t) (are_terms_bound xs ts) e).0
term_bound xs (t ∷ ts) e (suc i) d l = term_bound xs ts ((and_parts (has_only xs t) (are_terms_bound xs ts) e).1) i d (omega arith)

module _ (s : SignatureOf) (xs : List Variable) where
  lawful_assigns : (us : List Assign) → All (IsTypedAssign s) us → are_values_bound xs us ≡ true → All (IsLawfulAssign s xs) us
  lawful_assigns us a e = λ i d l. record { sort = (a i d l).sort; value = (a i d l).value; bound = value_bound xs us e i d l }

  lawful_arguments : (ts : List Tree) → All (IsBare (terms_over s)) ts → are_terms_bound xs ts ≡ true → All (IsLawfulArgument s xs) ts
  lawful_arguments ts a e = λ i d l. record { bare = a i d l; bound = term_bound xs ts e i d l }

  pub lawful_strategy : (x : StrategyOf) → IsTyped s x → is_bound_in xs x ≡ true → IsLawfulStrategy s xs x
  lawful_strategy idle t e = tt
  lawful_strategy fail t e = tt
  lawful_strategy every_rule t e = tt
  lawful_strategy (label l us) t e = lawful_assigns us t e
  lawful_strategy (top_only x) t e = lawful_strategy x t e
  lawful_strategy (call f ts) t e = lawful_arguments ts t e
  lawful_strategy (test k p c) t e = record { matched = t.0; condition = t.1; bound = e }
  lawful_strategy (star x) t e = lawful_strategy x t e
  lawful_strategy (plus x) t e = lawful_strategy x t e
  lawful_strategy (to_normal x) t e = lawful_strategy x t e
  lawful_strategy (in_turn x y) t e =
      (lawful_strategy x t.0 ((and_parts (is_bound_in xs x) (is_bound_in xs y) e).0), lawful_strategy y t.1 ((and_parts (is_bound_in xs x) (is_bound_in xs y) e).1))
  lawful_strategy (either x y) t e =
      (lawful_strategy x t.0 ((and_parts (is_bound_in xs x) (is_bound_in xs y) e).0), lawful_strategy y t.1 ((and_parts (is_bound_in xs x) (is_bound_in xs y) e).1))
  lawful_strategy (or_else x y) t e =
      (lawful_strategy x t.0 ((and_parts (is_bound_in xs x) (is_bound_in xs y) e).0), lawful_strategy y t.1 ((and_parts (is_bound_in xs x) (is_bound_in xs y) e).1))
  lawful_strategy (branch x y z) t e =
      let more = (and_parts (is_bound_in xs x) (is_bound_in xs y && is_bound_in xs z) e).1 in (
        lawful_strategy x t.0 ((and_parts (is_bound_in xs x) (is_bound_in xs y && is_bound_in xs z) e).0),
        lawful_strategy y t.1 ((and_parts (is_bound_in xs y) (is_bound_in xs z) more).0),
        lawful_strategy z t.2 ((and_parts (is_bound_in xs y) (is_bound_in xs z) more).1),
      )
  lawful_strategy (negation x) t e = lawful_strategy x t e
  lawful_strategy (attempt x) t e = lawful_strategy x t e
  lawful_strategy (test_of x) t e = lawful_strategy x t e
  lawful_strategy (part_rewrite k p c us) t e = absurd t
  lawful_strategy (label_by l us ss) t e = absurd t
