-- What a section proves that was judged.
use Rattle.std.proofs.Common.{◌≡◌, ℕ, List, Bool, Option, Some, None, Result, Ok, Err, IfOk, refl, sym, ◌∙◌}
use Rattle.std.specs.Prelude.{IsTrue}
use Rattle.mau_terms.specs.Tree.{Tree}
use Rattle.mau_store.specs.Trees.{tree_at}
use Rattle.mau_formula.specs.Operator.{Operator}
use Rattle.mau_program.specs.declared.program.Program.{Program}
use Rattle.mau_facts.specs.declared.document.Section.{Section}
use Rattle.mau_logic.specs.Says.{Says, leads, of_sort, says_nothing}
use Rattle.mau_check.specs.declared.check.Conclusion.{Conclusion}
use Rattle.mau_check.specs.declared.check.Judgement.TheVariants.{Accepted}
use Rattle.mau_check.specs.Judged.{IsJudgement, IsConclusion, said_last}
use Rattle.mau_prove.specs.Proved.{Proves}

-- what a section concludes that is justified, it proves of normal forms that are the same
pub proved : (p : Program) (hooks : List Operator) (pairs : List (List ℕ × ℕ)) (x : Section) (n : ℕ) (c : Conclusion) (t u : Tree) → IsJudgement p hooks x (Accepted n (Some c)) →
    c.variables ≡ pairs → tree_at c.store c.from.0 ≡ t → tree_at c.store c.to.0 ≡ u → Proves p hooks pairs t u x
proved p hooks pairs x n c t u h same from to = by (said_last p x) refl h.2
  where
    by : (o : Option Says) → said_last p x ≡ o → IsConclusion p x (Some c) o → Proves p hooks pairs t u x
    by (Some (leads e a b)) is k = record {
      justified = h.0;
      variables = sym k.variables ∙ same;
      by_equations = e;
      from = a;
      to = b;
      last = is;
      begins = sym k.from.stands ∙ from;
      ends = sym k.to.stands ∙ to;
    }
    by (Some (of_sort a r)) is k = absurd k
    by (Some says_nothing) is k = absurd k
    by None is k = absurd k

-- three answers together
pub if_all : {E A B C D : Type 0} (r : Result Bool E) → IfOk r (λ b. IsTrue b → A) → IfOk r (λ b. IsTrue b → B) → IfOk r (λ b. IsTrue b → C) → (A → B → C → D) → IfOk r (λ b. IsTrue b → D)
if_all (Ok b) f g h k = λ e. k (f e) (g e) (h e)
if_all (Err e) f g h k = tt
