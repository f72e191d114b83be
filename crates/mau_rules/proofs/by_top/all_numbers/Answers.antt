use Rattle.std.proofs.Common.{◌≡◌, ◌∷◌, [], suc, ℕ, length, map, Vec, Global, ap, ◌∙◌, arith}
use Rattle.std.proofs.lemmas.List.{map-append}
use Rattle.mau_rules.proofs.ByTop.{first_none, first_more, first_all}
use Rattle.mau_rules.proofs.by_top.all_numbers.Goals as goal

pub loop-top-init : goal.loop-top-init
loop-top-init c = first_none c.args.program.now (map (λ list. list.items) c.in_ok-orders.orders.items) (ap (map (λ (list : Vec ℕ Global). list.items)) c.in_ok-orders.ensures.items)

pub loop-top-preserved : goal.loop-top-preserved
loop-top-preserved c =
    first_more c.args.program.now c.loop-top.top (map (λ list. list.items) c.loop-top.orders.items) (map (λ list. list.items) c.push.new.self.items) c.in_ok-kept.kept.items
    (ap (map (λ (list : Vec ℕ Global). list.items)) c.in_ok-push.ensures.items ∙ map-append (λ (list : Vec ℕ Global). list.items) c.loop-top.orders.items (c.in_ok-kept.kept ∷ [])) c.in_ok-kept.ensures c.loop-top.invariant

pub returns : goal.returns
returns c =
    let whole : c.loop-top.top ≡ suc (length c.args.program.now.sig.declarations) = omega (arith, c.operators.ensures.value, c.loop-top-test.false, c.loop-top.auto.top-end) in
    first_all c.args.program.now c.loop-top.top (map (λ list. list.items) c.loop-top.orders.items) whole c.loop-top.invariant
