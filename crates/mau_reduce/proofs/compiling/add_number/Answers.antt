use Rattle.std.proofs.Common.{◌<◌, length, map, OnOk, sym, subst}
use Rattle.std.proofs.Math.ListN.{set}
use Rattle.mau_reduce.specs.ByTop.{IsAdded}
use Rattle.mau_reduce.proofs.AttemptsLeft.{at_some}
use Rattle.mau_reduce.proofs.Ordered.{added_in}
use Rattle.mau_reduce.proofs.compiling.add_number.Goals as goal

pub returns-in_ok-push-in-Some : goal.returns-in_ok-push-in-Some
returns-in_ok-push-in-Some c =
    subst (λ o. IsAdded o c.args.number (map (λ list. list.items) c.args.orders.now.items) (map (λ list. list.items) (set c.args.orders.now.items c.in-Some.top c.push.new.self))) (sym c.in-Some.is)
    (added_in (λ list. list.items) c.args.orders.now.items c.in-Some.top c.args.number c.index_mut.result.now c.push.new.self (at_some (λ g. g < length c.args.orders.now.items) c.args.top c.in-Some.top c.in-Some.is c.requires)
    c.index_mut.ensures.value c.in_ok-push-in-Some.ensures.items)

pub returns-in-None : goal.returns-in-None
returns-in-None c =
    subst (λ o. OnOk c.add_to_all.result (IsAdded o c.args.number (map (λ list. list.items) c.args.orders.now.items) (map (λ list. list.items) c.add_to_all.new.orders.items))) (sym c.in-None.is) c.add_to_all.ensures
