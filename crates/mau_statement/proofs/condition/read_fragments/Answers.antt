use Rattle.std.proofs.Common.{◌++◌, ◌+◌, [], ◌∷◌, All, take, sym, subst, ◌∙◌, ap, Some, arith}
use Rattle.std.proofs.lemmas.List.{take_more, take_all}
use Rattle.std.proofs.lemmas.List.Elements.{All-nil, All-push}
use Rattle.std.proofs.lemmas.Option.{slice_get-get_or}
use Rattle.mau_program.specs.LawfulStatements.{IsLawfulFragment}
use Rattle.mau_statement.specs.Conditions.{FragmentUnread, ConditionReads, ConditionUnread, none_read, one_more_reads}
use Rattle.mau_statement.proofs.Handed.{returned}
use Rattle.mau_statement.proofs.condition.read_fragments.Goals as goal

pub loop-raw-init : goal.loop-raw-init
loop-raw-init c =
    let none = sym c.new-fragments.ensures.items in
    record {
      reads = subst (λ xs. ConditionReads c.args.words.now c.args.context.now c.args.vars.now [] c.args.vars.now xs) none none_read;
      lawful = subst (All (IsLawfulFragment c.args.context.now.signature)) none (All-nil (IsLawfulFragment c.args.context.now.signature));
      few = omega arith;
    }

pub returns-in_err-fragment-clause-fault : goal.returns-in_err-fragment-clause-fault
returns-in_err-fragment-clause-fault c =
    let ws = c.args.words.now in
    let x = c.args.context.now in
    let raws = c.args.raws.now in
    let i = c.loop-raw.raw-index in
    let raw = c.raw-item.result in
    returned (FragmentUnread ws x raw c.loop-raw.vars) (ConditionUnread ws x c.args.vars.now raws)
    c.from_residual.result c.in_err-fragment.field-0.0 c.from_residual.ensures.1 c.in_err-fragment.ensures.fault
    (λ f u. record {
      i = i;
      raw = raw;
      there = slice_get-get_or raws i raw c.loop-raw-test.true ∙ ap Some (sym c.raw-item.is);
      middle = c.loop-raw.vars;
      before = c.loop-raw.fragments.items;
      reads = c.loop-raw.invariant.reads;
      unread = u;
    })

pub loop-raw-preserved : goal.loop-raw-preserved
loop-raw-preserved c =
    let ws = c.args.words.now in
    let x = c.args.context.now in
    let raws = c.args.raws.now in
    let i = c.loop-raw.raw-index in
    let raw = c.raw-item.result in
    let P = IsLawfulFragment x.signature in
    let xs = c.loop-raw.fragments.items in
    let one = c.in_ok-fragment.fragment in
    let more = take_more raws i raw c.loop-raw-test.true ∙ ap (λ r. take i raws ++ r ∷ []) (sym c.raw-item.is) in
    record {
      reads =
          subst (λ ys. ConditionReads ws x c.args.vars.now (take (i + 1) raws) c.read_fragment.new.vars ys) (sym c.in_ok-push.ensures.items)
          (subst (λ rs. ConditionReads ws x c.args.vars.now rs c.read_fragment.new.vars (xs ++ one ∷ [])) (sym more)
          (one_more_reads (take i raws) c.loop-raw.vars xs raw c.read_fragment.new.vars one c.loop-raw.invariant.reads c.in_ok-fragment.ensures.fragment));
      lawful = subst (All P) (sym c.in_ok-push.ensures.items) (All-push P xs one c.loop-raw.invariant.lawful c.in_ok-fragment.ensures.lawful);
      few = omega (arith, c.loop-raw.invariant.few, c.in_ok-fragment.ensures.small);
    }

pub returns-clause-condition : goal.returns-clause-condition
returns-clause-condition c =
    let ws = c.args.words.now in
    let x = c.args.context.now in
    let raws = c.args.raws.now in
    subst (λ xs. ConditionReads ws x c.args.vars.now raws c.loop-raw.vars xs) (sym c.new.ensures)
    (subst (λ rs. ConditionReads ws x c.args.vars.now rs c.loop-raw.vars c.loop-raw.fragments.items) (take_all c.loop-raw.raw-index raws c.loop-raw-test.false) c.loop-raw.invariant.reads)

pub returns-clause-lawful : goal.returns-clause-lawful
returns-clause-lawful c = subst (All (IsLawfulFragment c.args.context.now.signature)) (sym c.new.ensures) c.loop-raw.invariant.lawful
