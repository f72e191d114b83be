use Rattle.std.proofs.Common.{All, sym, subst}
use Rattle.std.proofs.lemmas.List.Elements.{All-push, All-tail, All-map}
use Rattle.mau_terms.specs.Bare.{IsBare}
use Rattle.mau_terms.specs.View.{tree_of}
use Rattle.mau_terms.specs.declared.bare.Bare.{Bare}
use Rattle.mau_signature.specs.Faults.{IsSort}
use Rattle.mau_signature.specs.Signature.{terms_over}
use Rattle.mau_strattext.specs.Building.{IsEnd}
use Rattle.mau_strattext.proofs.ArgumentSteps.{args_go_on, args_end, args_fault}
use Rattle.mau_strattext.proofs.arguments.read_arguments.Goals as goal

pub loop-sort-preserved : goal.loop-sort-preserved
loop-sort-preserved c =
    let s = c.args.setting.now in
    let P : Bare → Type 0 = λ b. IsBare (terms_over s.context.signature) (tree_of b) in
    let sort = c.in-Some.sort.now in
    let others = c.in-Some.others.now in
    let read = c.in-Ok.ensures.reads in
    record {
      goes = args_go_on s c.args.sorts.now c.args.pieces.now c.args.vars.now c.loop-sort.left.now others c.loop-sort.rest.now c.in-Some-split_first.more.now sort
          c.in-Some-split_first.piece.now c.loop-sort.vars c.read_argument.new.vars c.loop-sort.args.items c.push.new.self.items c.in-Ok.arg read.0 c.loop-sort.invariant.goes
          c.in-Some.ensures.cases.0 c.in-Some-split_first.ensures.cases.0 c.in_ok-push-in-Ok.ensures.items read.1 read.2;
      sorts = All-tail (IsSort s.context.signature.hierarchy) sort others (subst (All (IsSort s.context.signature.hierarchy)) c.in-Some.ensures.cases.0 c.loop-sort.invariant.sorts);
      bare = subst (All P) (sym c.in_ok-push-in-Ok.ensures.items) (All-push P c.loop-sort.args.items c.in-Ok.arg c.loop-sort.invariant.bare c.in-Ok.ensures.bare);
    }

pub returns-in-Err-clause-answer : goal.returns-in-Err-clause-answer
returns-in-Err-clause-answer c =
    args_fault c.args.setting.now c.args.sorts.now c.args.pieces.now c.args.vars.now c.loop-sort.left.now c.in-Some.others.now c.loop-sort.rest.now
    c.in-Some-split_first.more.now c.in-Some.sort.now c.in-Some-split_first.piece.now c.loop-sort.vars c.read_argument.new.vars c.loop-sort.args.items c.in-Err.fault
    c.loop-sort.invariant.goes c.in-Some.ensures.cases.0 c.in-Some-split_first.ensures.cases.0 c.in-Err.ensures.fault

pub returns-then-is_end-clause-answer : goal.returns-then-is_end-clause-answer
returns-then-is_end-clause-answer c =
    args_end c.args.setting.now c.args.sorts.now c.args.pieces.now c.args.vars.now c.loop-sort.left.now c.loop-sort.rest.now c.loop-sort.vars c.loop-sort.args.items c.new.result
    c.loop-sort.invariant.goes c.in_default.ensures.cases (subst (λ b. IsEnd b c.loop-sort.rest.now) c.if-is_end.true c.is_end.ensures) c.new.ensures

pub returns-then-is_end-clause-bare : goal.returns-then-is_end-clause-bare
returns-then-is_end-clause-bare c =
    let P = IsBare (terms_over c.args.setting.now.context.signature) in
    subst (All P) (sym c.new.ensures) (All-map P tree_of c.loop-sort.args.items c.loop-sort.invariant.bare)
