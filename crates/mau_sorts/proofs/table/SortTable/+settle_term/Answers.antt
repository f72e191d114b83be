use Rattle.std.proofs.Common.{◌≡◌, ◌<◌, [], ap, sym, ◌∙◌, subst, get_or, length, arith}
use Rattle.std.proofs.Math.ListN.{get_or-map}
use Rattle.mau_terms.specs.declared.ids.TermId.{TermId}
use Rattle.mau_store.specs.Node.{arguments}
use Rattle.mau_store.specs.Trees.{tree_at}
use Rattle.mau_store.specs.View.{node_of, numbers}
use Rattle.mau_sorts.specs.Table.{IsSettled}
use Rattle.mau_signature.specs.OverSignature.{IsTreeOver}
use Rattle.mau_sorts.proofs.Entries.{numbers_length}
use Rattle.mau_sorts.proofs.Settling.{argument_over, is_ready, nothing_known, entries_same, settled_more, kept_on}
use Rattle.mau_sorts.proofs.table.SortTable.+settle_term.Goals as goal

pub settle_term-requires : goal.settle_term-requires
settle_term-requires t c =
    let i = c.loop-arg.arg-index in
    let items = c.arguments_of-arg-items.result.now in
    let same = c.arguments_of-arg-items.ensures in
    let number : get_or (numbers items) i 0 ≡ (get_or items i (record { 0 = 0 })).0 = get_or-map (λ (x : TermId). x.0) items i (record { 0 = 0 }) in
    let below : i < length (arguments (node_of c.view.result)) = subst (λ xs. i < length xs) same (subst (λ n. i < n) (sym (numbers_length items)) c.loop-arg-test.true) in
    let id_is : get_or (arguments (node_of c.view.result)) i 0 ≡ (get_or items i (record { 0 = 0 })).0 = ap (λ xs. get_or xs i 0) (sym same) ∙ number in
    let older : (get_or items i (record { 0 = 0 })).0 < c.args.id.0 = subst (λ n. n < c.args.id.0) id_is (c.view.ensures.older i 0 below) in
    let falls = c.decreases in (
      omega (arith, older),
      (
        omega (arith, older, c.requires.there),
        (
          subst (λ n. IsTreeOver c.args.sig.now (tree_at c.args.store.now n)) id_is
              (argument_over c.args.sig.now (tree_at c.args.store.now) (node_of c.view.result) (subst (IsTreeOver c.args.sig.now) c.view.ensures.tree c.requires.tree) i below),
          c.loop-arg.invariant.over,
        ),
      ),
    )

pub returns-in_err-settle_term-clause-value : goal.returns-in_err-settle_term-clause-value
returns-in_err-settle_term-clause-value t c entries = c.in_err-settle_term.ensures.value (c.loop-arg.invariant.value entries)

pub loop-arg-preserved : goal.loop-arg-preserved
loop-arg-preserved t c =
    let i = c.loop-arg.arg-index in
    let items = c.arguments_of-arg-items.result.now in
    let number : get_or (numbers items) i 0 ≡ (get_or items i (record { 0 = 0 })).0 = get_or-map (λ (x : TermId). x.0) items i (record { 0 = 0 }) in
    record {
      settled = settled_more c.loop-arg.self c.settle_term.new.self (numbers items) i c.in_ok-settle_term.ensures.kept c.loop-arg.invariant.settled
          (subst (IsSettled c.settle_term.new.self) (sym number) c.in_ok-settle_term.ensures.ok);
      value = λ entries. c.in_ok-settle_term.ensures.value (c.loop-arg.invariant.value entries);
      over = c.in_ok-settle_term.ensures.over;
      kept = kept_on c.args.self.now c.loop-arg.self c.settle_term.new.self c.loop-arg.invariant.kept c.in_ok-settle_term.ensures.kept;
    }

pub settle_declared-requires-clause-ready : goal.settle_declared-requires-clause-ready
settle_declared-requires-clause-ready t c =
    let items = c.arguments_of-arg-items.result.now in
    let same = c.arguments_of-arg-items.ensures in
    is_ready c.args.sig.now c.args.store.now c.loop-arg.self c.args.id.0 (node_of c.view.result) c.requires.there c.view.ensures.node c.view.ensures.tree c.requires.tree
    (λ k below. subst (λ xs. IsSettled c.loop-arg.self (get_or xs k 0)) same
    (c.loop-arg.invariant.settled k (omega (arith, c.loop-arg-test.false, numbers_length items, subst (λ xs. k < length xs) (sym same) below))))

pub returns-in_err-settle_declared-clause-value : goal.returns-in_err-settle_declared-clause-value
returns-in_err-settle_declared-clause-value t c entries =
    entries_same c.args.sig.now [] c.args.store.now c.loop-arg.self c.settle_declared.new.self c.in_err-settle_declared.ensures.unchanged (c.loop-arg.invariant.value entries)

pub returns-clause-value : goal.returns-clause-value
returns-clause-value t c entries = c.in_ok-settle_declared.ensures.value [] (c.loop-arg.invariant.value entries) (nothing_known (tree_at c.args.store.now c.args.id.0))

pub returns-in_err-settle_term-clause-kept : goal.returns-in_err-settle_term-clause-kept
returns-in_err-settle_term-clause-kept t c = kept_on c.args.self.now c.loop-arg.self c.settle_term.new.self c.loop-arg.invariant.kept c.in_err-settle_term.ensures.kept

pub returns-clause-kept : goal.returns-clause-kept
returns-clause-kept t c = kept_on c.args.self.now c.loop-arg.self c.settle_declared.new.self c.loop-arg.invariant.kept c.in_ok-settle_declared.ensures.kept
