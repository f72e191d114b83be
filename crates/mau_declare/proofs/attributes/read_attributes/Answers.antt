use Rattle.std.proofs.Common.{sym, ap, ◌∙◌, map}
use Rattle.std.specs.Prelude.{fold}
use Rattle.mau_signature.specs.Attributes.{unite}
use Rattle.mau_declare.specs.Attributes.{given}
use Rattle.mau_declare.proofs.Conflicts.{conflict_with, all_compared}
use Rattle.mau_declare.proofs.attributes.read_attributes.Goals as goal

pub loop-raw-init : goal.loop-raw-init
loop-raw-init c =
    let gs = map (given c.args.words.now c.args.arguments) c.args.list.now in
    record {
      attributes = sym (ap (λ a. fold unite a gs) c.none-attrs.ensures);
      conflict = sym (ap (λ a. conflict_with a gs) c.none-attrs.ensures ∙ all_compared gs);
      builtin = ap (λ a. a.builtin) c.none-attrs.ensures;
    }
