use Rattle.std.proofs.Common.{◌≡◌, ◌<◌, take}
use Rattle.mau_signature.specs.Signature.{theory_at}
use Rattle.mau_check.proofs.BuiltOf.{count, norms_kept}
use Rattle.mau_check.proofs.built.is_list.Given as goal

abbrev pub invariant-loop-value : goal.invariant-loop-value
invariant-loop-value l = record {
  counted : l.count ≡ count (theory_at l.sig l.op.0).assoc (theory_at l.sig l.op.0).id l.op.0 (norms_kept l.store (take l.value-index l.values));
  few : l.count < 2;
}
