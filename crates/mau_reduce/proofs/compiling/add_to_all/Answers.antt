use Rattle.std.proofs.Common.{◌<◌, ◌≤◌, length, map, arith}
use Rattle.std.proofs.lemmas.List.{length-map}
use Rattle.mau_reduce.proofs.Ordered.{none_added, one_added_in, all_added}
use Rattle.mau_reduce.proofs.compiling.add_to_all.Goals as goal

pub loop-top-init : goal.loop-top-init
loop-top-init c = none_added c.args.number (map (λ list. list.items) c.args.orders.now.items)

pub loop-top-preserved : goal.loop-top-preserved
loop-top-preserved c =
    let low : c.loop-top.top < length c.loop-top.orders.items = omega (arith, c.loop-top.invariant.same_length, length-map c.loop-top.orders.items (λ list. list.items), length-map c.args.orders.now.items (λ list. list.items)) in
    one_added_in (λ list. list.items) c.loop-top.orders.items c.loop-top.top c.args.number c.index_mut.result.now c.push.new.self low c.index_mut.ensures.value c.in_ok-push.ensures.items
    (map (λ list. list.items) c.args.orders.now.items) c.loop-top.invariant

pub returns : goal.returns
returns c =
    let end : length (map (λ list. list.items) c.args.orders.now.items) ≤ c.loop-top.top = omega (arith, length-map c.args.orders.now.items (λ list. list.items)) in
    all_added c.args.number c.loop-top.top (map (λ list. list.items) c.args.orders.now.items) (map (λ list. list.items) c.loop-top.orders.items) end c.loop-top.invariant
