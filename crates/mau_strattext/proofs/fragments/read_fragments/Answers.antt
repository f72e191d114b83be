use Rattle.std.proofs.Common.{◌++◌, All, sym, subst, ap, ◌∙◌}
use Rattle.std.proofs.lemmas.List.Elements.{All-append}
use Rattle.mau_program.specs.LawfulStatements.{IsLawfulFragment}
use Rattle.mau_strattext.proofs.FragmentSteps.{fragments_go_on, fragments_end, fragments_fault}
use Rattle.mau_strattext.proofs.fragments.read_fragments.Goals as goal

pub loop-piece-preserved : goal.loop-piece-preserved
loop-piece-preserved c =
    let s = c.args.setting.now in
    let P = IsLawfulFragment s.context.signature in
    let xs = c.loop-piece.fragments.items in
    let read = c.in-Ok.ensures.reads in
    let more = c.in_ok-push_all-in-Ok.ensures ∙ ap (λ zs. xs ++ zs) c.items.ensures in
    record {
      goes = fragments_go_on s c.args.pieces.now c.args.vars.now c.loop-piece.rest.now c.in-Some.more.now c.in-Some.piece.now c.in-Some-fragment.part read.0 c.loop-piece.vars
          c.read_fragment.new.vars xs c.push_all.new.out.items c.in-Ok.read c.loop-piece.invariant.goes c.in-Some.ensures.cases.0 c.in-Some-fragment.ensures more read.1 read.2;
      lawful = subst (All P) (sym more) (All-append P xs c.in-Ok.read c.loop-piece.invariant.lawful c.in-Ok.ensures.lawful);
    }

pub returns-in-Err-clause-answer : goal.returns-in-Err-clause-answer
returns-in-Err-clause-answer c =
    fragments_fault c.args.setting.now c.args.pieces.now c.args.vars.now c.loop-piece.rest.now c.in-Some.more.now c.in-Some.piece.now c.in-Some-fragment.part c.loop-piece.vars
    c.read_fragment.new.vars c.loop-piece.fragments.items c.in-Err.fault c.loop-piece.invariant.goes c.in-Some.ensures.cases.0 c.in-Some-fragment.ensures c.in-Err.ensures.fault

pub returns-clause-answer : goal.returns-clause-answer
returns-clause-answer c =
    fragments_end c.args.setting.now c.args.pieces.now c.args.vars.now c.loop-piece.rest.now c.loop-piece.vars c.loop-piece.fragments.items c.new.result
    c.loop-piece.invariant.goes c.in_default.ensures.cases c.new.ensures
