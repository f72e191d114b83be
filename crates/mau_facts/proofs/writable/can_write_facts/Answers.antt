use Rattle.std.proofs.Common.{◌≡◌, ℕ, ◌+◌, ◌<◌, length, get_or, arith, subst, sym, refl, below_more}
use Rattle.std.specs.Prelude.{All}
use Rattle.std.proofs.lemmas.List.{get_or_read_under}
use Rattle.mau_facts.specs.declared.document.Fact.{Fact}
use Rattle.mau_facts.specs.Fields.{IsField, HasForm, fact_fields}
use Rattle.mau_facts.proofs.Ranged.{fact_lines_fit}
use Rattle.mau_facts.proofs.writable.can_write_facts.Goals as goal

pub loop-i-preserved : goal.loop-i-preserved
loop-i-preserved c =
    let fs = c.args.facts.now in
    let same : (d : Fact) → c.index-facts-i.result ≡ get_or fs c.loop-i.i d = λ d. get_or_read_under fs c.loop-i.i (length fs) c.index-facts-i.result d c.index-facts-i.is (omega (arith, c.loop-i-test.true)) refl in
    record {
      forms = λ j d l. below_more (λ k. HasForm (get_or fs k d)) c.loop-i.i (λ k b. c.loop-i.invariant.forms k d b) (subst HasForm (same d) (c.if-not-can_write_fact.ensures.form refl)) j l;
      fields = λ j d l. below_more (λ k. All (IsField c.args.count k) (fact_fields (get_or fs k d))) c.loop-i.i (λ k b. c.loop-i.invariant.fields k d b)
          (subst (λ f. All (IsField c.args.count c.loop-i.i) (fact_fields f)) (same d) (c.if-not-can_write_fact.ensures.fields refl)) j l;
    }

pub returns-clause-fields : goal.returns-clause-fields
returns-clause-fields c e =
    fact_lines_fit c.args.count 0 c.args.facts.now (omega (arith, c.counted.ensures)) (λ i d b. subst (λ n. All (IsField c.args.count n) (fact_fields (get_or c.args.facts.now i d))) (omega arith) (c.loop-i.invariant.fields i d (omega (arith, b, c.loop-i-test.false))))
