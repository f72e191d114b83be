use Rattle.std.proofs.Common.{ap, ◌∙◌, arith}
use Rattle.mau_reduce.specs.ByTop.{order_under}
use Rattle.mau_reduce.proofs.Ordered.{order_of_top, top_within}
use Rattle.mau_reduce.proofs.compiling.Compiled.order_at.Goals as goal

pub index-requires : goal.index-requires
index-requires c =
    omega (arith, c.args.self.now.orders.ok.0, top_within (λ list. list.items) c.args.program.now c.args.self.now.orders.items c.top_number-top.result c.requires.compiled.orders c.top_number-top.ensures.within)

pub returns : goal.returns
returns c =
    let p = c.args.program.now in
    let vs = c.args.self.now.orders.items in
    c.as_slice.ensures.value
    ∙ (order_of_top (λ list. list.items) p vs c.top_number-top.result c.index.result.now c.requires.compiled.orders (top_within (λ list. list.items) p vs c.top_number-top.result c.requires.compiled.orders c.top_number-top.ensures.within) c.index.ensures
    ∙ ap (order_under p) c.top_number-top.ensures.top)
