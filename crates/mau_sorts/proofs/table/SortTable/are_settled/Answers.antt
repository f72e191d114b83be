use Rattle.std.proofs.Common.{◌≡◌, get_or, subst, sym, refl, below_more, arith}
use Rattle.std.proofs.Math.ListN.{get_or-map}
use Rattle.std.proofs.lemmas.List.{get_or_default}
use Rattle.mau_terms.specs.declared.ids.TermId.{TermId}
use Rattle.mau_store.specs.View.{numbers}
use Rattle.mau_sorts.specs.Table.{IsSettled}
use Rattle.mau_sorts.proofs.Entries.{numbers_length, settled_number}
use Rattle.mau_sorts.proofs.table.SortTable.are_settled.Goals as goal

pub returns-then-not-is_settled : goal.returns-then-not-is_settled
returns-then-not-is_settled c = (
  λ yes. absurd (cc yes),
  λ all. c.if-not-is_settled.ensures.1 (settled_number c.args.self.now c.args.ids.now c.loop-id.id-index (record { 0 = 0 }) all c.loop-id-test.true),
)

pub loop-id-preserved : goal.loop-id-preserved
loop-id-preserved c =
    let i = c.loop-id.id-index in
    let number : get_or (numbers c.args.ids.now) i 0 ≡ (get_or c.args.ids.now i (record { 0 = 0 })).0
    = get_or-map (λ (x : TermId). x.0) c.args.ids.now i (record { 0 = 0 }) in
    below_more (λ k. IsSettled c.args.self.now (get_or (numbers c.args.ids.now) k 0)) i c.loop-id.invariant
    (subst (IsSettled c.args.self.now) (sym number) (c.if-not-is_settled.ensures.0 refl))

pub returns : goal.returns
returns c = (
  λ yes k d below. subst (IsSettled c.args.self.now) (get_or_default (numbers c.args.ids.now) k 0 d below)
      (c.loop-id.invariant k (omega (arith, c.loop-id-test.false, below, numbers_length c.args.ids.now))),
  λ all. refl,
)
