use Rattle.std.proofs.Common.{◌≤◌, length, refl, sym, subst, arith}
use Rattle.std.proofs.lemmas.List.Elements.{All-nil}
use Rattle.mau_sorts.specs.SortSets.{AreSorts}
use Rattle.mau_deriving.proofs.Kept.{asked_grown, begun_in}
use Rattle.mau_deriving.proofs.derivation.begin_deriving.Goals as goal

pub open-requires-clause-lawful : goal.open-requires-clause-lawful
open-requires-clause-lawful g c = c.requires.lawful

pub open-requires-clause-signature : goal.open-requires-clause-signature
open-requires-clause-signature g c = c.requires.signature

pub open-requires-clause-asked : goal.open-requires-clause-asked
open-requires-clause-asked g c = c.requires.asked

pub returns-in_err-questions-clause-grown : goal.returns-in_err-questions-clause-grown
returns-in_err-questions-clause-grown g c = c.open.ensures.grown

pub returns-clause-derives : goal.returns-clause-derives
returns-clause-derives g c = λ hooks limit d.
    begun_in c.args.program.now hooks limit c.args.store.now c.open.new.store c.args.table.now c.args.term c.open.ensures.grown.extends c.requires.asked c.in_ok-questions.questions.items
    (λ f ts e. c.in_ok-questions.ensures.open hooks limit f ts d e) _ refl refl refl refl refl c.new.ensures.items

pub returns-clause-stands : goal.returns-clause-stands
returns-clause-stands g c =
    let zero_at : 0 ≤ length c.args.program.now.memberships = omega arith in
    let zero_asked : 0 ≤ length c.in_ok-questions.questions.items = omega arith in
    record {
      can_be_asked = asked_grown c.args.program.now.sig c.args.store.now c.open.new.store c.args.table.now c.open.new.table c.open.ensures.grown.extends c.open.ensures.grown.kept c.open.ensures.grown.over c.args.term.0 c.requires.asked;
      at = zero_at;
      asked = zero_asked;
      found = subst (AreSorts c.args.program.now.sig.hierarchy) (sym c.new.ensures.items) (All-nil _);
      sorted = c.in_ok-questions.ensures.sorted;
    }

pub returns-clause-grown : goal.returns-clause-grown
returns-clause-grown g c = c.open.ensures.grown
