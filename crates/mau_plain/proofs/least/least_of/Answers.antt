use Rattle.std.proofs.Common.{◌≡◌, suc, [], get_or, take, add-one, sym, ap₂, ◌∙◌, subst, arith, rules}
use Rattle.std.proofs.lemmas.List.{get_or_default}
use Rattle.mau_signature.specs.Signature.{theory_at}
use Rattle.mau_listing.specs.Places.{under_all}
use Rattle.mau_plain.specs.Least.{values_cmp, IsLeastOf}
use Rattle.mau_trial.proofs.OfKind.{take_whole}
use Rattle.mau_plain.proofs.Leasts.{least_taken, least_kept}
use Rattle.mau_plain.proofs.least.least_of.Goals as goal
use Rattle.mau_plain.proofs.least.least_of.Goals.{then-comes_before, else-comes_before}

pub loop-i-preserved : goal.loop-i-preserved
loop-i-preserved c =
    let th = theory_at c.args.sig.now in
    let os = under_all c.args.places.now in
    let nodes = c.args.store.now in
    let ls = c.args.lists.now in
    let i = c.loop-i.i in
    let first : c.items.result.now ≡ get_or ls i [] = c.items.ensures ∙ c.index-lists-i.is ∙ get_or_default ls i _ [] c.loop-i-test.true in
    let second : c.items-in-loop-i.result.now ≡ get_or ls c.loop-i.best [] = c.items-in-loop-i.ensures ∙ c.index-lists-best.is ∙ get_or_default ls c.loop-i.best _ [] c.loop-i.invariant.there in
    let order : values_cmp th os nodes c.items.result.now c.items-in-loop-i.result.now ≡ values_cmp th os nodes (get_or ls i []) (get_or ls c.loop-i.best []) = ap₂ (values_cmp th os nodes) first second in
    elim c.if-comes_before.branch [
      | then-comes_before w ↦
          record {
            there = search rules;
            least = subst (λ n. IsLeastOf th os nodes (take n ls) (get_or ls c.if-comes_before.best [])) (sym (add-one i))
                (subst (λ k. IsLeastOf th os nodes (take (suc i) ls) (get_or ls k [])) (sym w.best-is)
                (least_taken th os nodes ls i (get_or ls c.loop-i.best []) c.loop-i-test.true c.loop-i.invariant.least (sym order ∙ c.comes_before.ensures.0 (search rules))));
          }
      | else-comes_before w ↦
          record {
            there = search rules;
            least = subst (λ n. IsLeastOf th os nodes (take n ls) (get_or ls c.if-comes_before.best [])) (sym (add-one i))
                (subst (λ k. IsLeastOf th os nodes (take (suc i) ls) (get_or ls k [])) (sym w.best-is)
                (least_kept th os nodes ls i (get_or ls c.loop-i.best []) c.loop-i-test.true c.loop-i.invariant.least (λ e. let yes = c.comes_before.ensures.1 (order ∙ e) in absurd (search rules))));
          }
    ]

pub returns-clause-least : goal.returns-clause-least
returns-clause-least c =
    subst (λ ls. IsLeastOf (theory_at c.args.sig.now) (under_all c.args.places.now) c.args.store.now ls (get_or c.args.lists.now c.loop-i.best [])) (take_whole c.args.lists.now c.loop-i.i (omega arith)) c.loop-i.invariant.least
