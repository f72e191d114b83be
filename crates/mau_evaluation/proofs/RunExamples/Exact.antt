-- Premises of the laws hold of the examples, so that what their runs compute is what satisfies their strategies.
use Rattle.std.proofs.Common.{◌≡◌, ℕ, List, [], ◌∷◌, Bool, true, false, ◌==◌, ◌||◌, if◌then◌else◌, Some, inl, inr, refl}
use Rattle.mau_terms.specs.Tree.{Tree}
use Rattle.mau_terms.specs.Bare.{IsLawful}
use Rattle.mau_terms.specs.Finite.{IsIn}
use Rattle.mau_terms.specs.declared.theory.Theory.{Theory}
use Rattle.mau_evaluation.specs.Strategy.{in_turn}
use Rattle.mau_evaluation.specs.Satisfies.{Sat}
use Rattle.mau_evaluation.specs.OrderedLists.{AsksFirst}
use Rattle.mau_evaluation.proofs.After.{askings_are_right}
use Rattle.mau_evaluation.proofs.Walk.{run_is_exact}
use Rattle.mau_evaluation.proofs.RunExamples.Programs.{free, both, signature, vending, dollar, q, a, c, together, by, engine}

abbrev axioms : Bool → Theory
axioms b = if b then both else free

abbrev kinds : Bool → Bool → Bool → List ℕ
kinds b d k = if b || d then 10 ∷ 10 ∷ [] else if k then 10 ∷ [] else []

no_successor : (b : Bool) → (axioms b).succ ≡ true → ⊥
no_successor true e = cc
no_successor false e = cc

lawful : IsLawful signature
lawful = record {
  theories = record {
    succ_assoc = λ f e. absurd (no_successor (f == 6) e);
    succ_comm = λ f e. absurd (no_successor (f == 6) e);
    succ_id = λ f e. absurd (no_successor (f == 6) e);
    plain_unit = λ f i e. absurd (no_unit (f == 6) e);
  };
  assoc_kinds = λ f e. two_kinds (f == 6) (f == 9) (f == 10) e;
  comm_kinds = λ f e. (10, two_sorts (f == 6) (f == 9) (f == 10) e);
  unit_kinds = λ f i e. absurd (no_unit (f == 6) e);
  succ_kinds = λ f e. absurd (no_successor (f == 6) e);
}
  where
    no_unit : {i : _} (b : Bool) → (axioms b).id ≡ Some i → ⊥
    no_unit true e = cc
    no_unit false e = cc

    two_kinds : (b d k : Bool) → (axioms b).assoc ≡ true → kinds b d k ≡ 10 ∷ 10 ∷ []
    two_kinds true d k e = refl
    two_kinds false d k e = cc

    two_sorts : (b d k : Bool) → (axioms b).comm ≡ true → kinds b d k ≡ 10 ∷ 10 ∷ []
    two_sorts true d k e = refl
    two_sorts false d k e = cc

asks : AsksFirst vending (engine vending)
asks = (askings_are_right vending lawful 1999 1000000 1000000).0

abbrev two : Tree
two = together (dollar ∷ dollar ∷ [])

abbrev bought : Tree
bought = together (q ∷ a ∷ c ∷ [])

-- buy-c ; buy-a leads from $ $ to q a c, and to nothing else
leads_there : Sat vending (engine vending) [] 200 [] (in_turn (by 1) (by 2)) two bought
leads_there = (run_is_exact vending (engine vending) [] asks 99 two (record { form = in_turn (by 1) (by 2); calls = 200; values = [] }) refl bought).1 (inl refl)

leads_only_there : (u : Tree) → Sat vending (engine vending) [] 200 [] (in_turn (by 1) (by 2)) two u → u ≡ bought
leads_only_there u s = one ((run_is_exact vending (engine vending) [] asks 99 two (record { form = in_turn (by 1) (by 2); calls = 200; values = [] }) refl u).0 s)
  where
    one : IsIn u (bought ∷ []) → u ≡ bought
    one (inl e) = e
    one (inr e) = absurd e
