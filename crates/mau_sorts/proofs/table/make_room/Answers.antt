use Rattle.std.proofs.Common.{◌∷◌, [], ap, ◌∙◌, arith, length, length-append}
use Rattle.std.specs.Prelude.{None, slice_index_or}
use Rattle.mau_sorts.proofs.Entries.{entry_push}
use Rattle.mau_sorts.proofs.table.make_room.Goals as goal

pub loop-index-preserved : goal.loop-index-preserved
loop-index-preserved c = record {
  room = let e = ap length c.in_ok-push.ensures.items ∙ length-append c.loop-index.entries.items (None ∷ []) in omega (arith, e, c.loop-index.invariant.room);
  same = λ j. ap (λ t. slice_index_or t j None) c.in_ok-push.ensures.items ∙ entry_push c.loop-index.entries.items j ∙ c.loop-index.invariant.same j;
}

pub returns-in_err-push-clause-same : goal.returns-in_err-push-clause-same
returns-in_err-push-clause-same c j = ap (λ t. slice_index_or t j None) c.in_err-push.ensures.items ∙ c.loop-index.invariant.same j
