-- All facts of a section, one after another.
use Rattle.std.proofs.Common.{◌≡◌, ℕ, zero, suc, ◌+◌, ◌-◌, ◌<◌, ◌≤◌, List, [], ◌∷◌, ◌++◌, length, take, get_or, Option, Some, None, ◌⊎◌, inl, inr, refl, sym, ap, ◌∙◌, subst, arith, add-one}
use Rattle.std.specs.Prelude.{slice_get}
use Rattle.std.specs.List.{AllZip}
use Rattle.std.proofs.lemmas.List.{take_more}
use Rattle.std.proofs.lemmas.List.Sums.{fold-append}
use Rattle.std.proofs.lemmas.Option.{slice_get-get_or, get_or_from_slice_get}
use Rattle.mau_terms.specs.Tree.{Tree}
use Rattle.mau_signature.specs.Signature.{SignatureOf}
use Rattle.mau_store.specs.Node.{Node, Extends}
use Rattle.mau_formula.specs.Operator.{Operator}
use Rattle.mau_program.specs.declared.program.Program.{Program}
use Rattle.mau_facts.specs.declared.document.Fact.{Fact}
use Rattle.mau_facts.specs.declared.document.Section.{Section}
use Rattle.mau_api.specs.Variables.{numbered}
use Rattle.mau_logic.specs.Lines.{section_terms}
use Rattle.mau_logic.specs.Says.{Says, said, all_said}
use Rattle.mau_logic.specs.Justified.{IsJustified, AreJustifiedOver, IsFirstUnjustified}
use Rattle.mau_check.specs.declared.said.Said.{Said}
use Rattle.mau_check.specs.Answer.{IsFirstOver}
use Rattle.mau_check.specs.Said.{IsSaid, AreSaid}
use Rattle.mau_check.proofs.Equals.{are_said_extended}
use Rattle.mau_check.proofs.Numbers.{zip_push}

said_more : (terms : List (Option Tree)) (facts : List Fact) (i : ℕ) (d : Fact) → i < length facts →
    all_said terms (take (i + 1) facts) ≡ all_said terms (take i facts) ++ said terms (all_said terms (take i facts)) (get_or facts i d) ∷ []
said_more terms facts i d l = ap (all_said terms) (take_more facts i d l) ∙ fold-append (λ xs f. xs ++ said terms xs f ∷ []) [] (take i facts) (get_or facts i d ∷ [])

-- one fact more
pub said_push : (s : SignatureOf) (old new : List Node) → Extends old new → (terms : List (Option Tree)) (facts : List Fact) (i : ℕ) (d : Fact) (xs : List Said) (one : Said) → i < length facts →
    AreSaid s old xs (all_said terms (take i facts)) → IsSaid s new one (said terms (all_said terms (take i facts)) (get_or facts i d)) → AreSaid s new (xs ++ one ∷ []) (all_said terms (take (i + 1) facts))
said_push s old new x terms facts i d xs one l h g =
    let before = all_said terms (take i facts) in
    subst (AreSaid s new (xs ++ one ∷ [])) (sym (said_more terms facts i d l))
    (zip_push (IsSaid s new) xs before one (said terms before (get_or facts i d)) (are_said_extended s old new x xs before h) g)

module _ (p : Program) (hooks : List Operator) (terms : List (Option Tree)) (facts : List Fact) where
  below_or_here : (j i : ℕ) → j < i + 1 → (j < i) ⊎ (j ≡ i)
  below_or_here zero zero l = inr refl
  below_or_here zero (suc i) l = inl (omega arith)
  below_or_here (suc j) zero l = absurd (omega arith)
  below_or_here (suc j) (suc i) l = more (below_or_here j i (omega arith))
    where
      more : (j < i) ⊎ (j ≡ i) → (suc j < suc i) ⊎ (suc j ≡ suc i)
      more (inl a) = inl (omega arith)
      more (inr e) = inr (ap suc e)

  pub justified_more : (i : ℕ) (d : Fact) → i < length facts → AreJustifiedOver p hooks terms facts i → IsJustified p hooks terms (all_said terms (take i facts)) (get_or facts i d) → AreJustifiedOver p hooks terms facts (i + 1)
  justified_more i d l h g j f k e = by (below_or_here j i k)
    where
      by : (j < i) ⊎ (j ≡ i) → IsJustified p hooks terms (all_said terms (take j facts)) f
      by (inl a) = h j f a e
      by (inr q) =
          let at : slice_get facts i ≡ Some f = subst (λ n. slice_get facts n ≡ Some f) q e in
          let same : get_or facts i d ≡ f = get_or_from_slice_get facts i f d at in
          subst (λ n. IsJustified p hooks terms (all_said terms (take n facts)) f) (sym q) (subst (IsJustified p hooks terms (all_said terms (take i facts))) same g)

  pub none_justified : AreJustifiedOver p hooks terms facts 0
  none_justified j f k e = absurd (omega arith)

  pub first_found : (i : ℕ) (d : Fact) → i < length facts → AreJustifiedOver p hooks terms facts i → (IsJustified p hooks terms (all_said terms (take i facts)) (get_or facts i d) → ⊥) → IsFirstOver p hooks terms facts (i + 1)
  first_found i d l h g =
      let e : i + 1 - 1 ≡ i = omega arith in
      record {
        fact = get_or facts i d;
        at = subst (λ n. numbered facts n ≡ Some (get_or facts i d)) (sym (add-one i)) (slice_get-get_or facts i d l);
        before = subst (AreJustifiedOver p hooks terms facts) (sym e) h;
        unjustified = λ j. g (subst (λ n. IsJustified p hooks terms (all_said terms (take n facts)) (get_or facts i d)) e j);
      }

-- the same of a section
pub first_of_section : (p : Program) (hooks : List Operator) (x : Section) (k : ℕ) → IsFirstOver p hooks (section_terms p x) x.facts k → IsFirstUnjustified p hooks x k
first_of_section p hooks x k h = record { fact = h.fact; at = h.at; before = h.before; unjustified = h.unjustified }

pub all_justified : (p : Program) (hooks : List Operator) (terms : List (Option Tree)) (facts : List Fact) (i : ℕ) → length facts ≤ i → AreJustifiedOver p hooks terms facts i → AreJustifiedOver p hooks terms facts (length facts)
all_justified p hooks terms facts i l h j f k e = h j f (omega arith) e
