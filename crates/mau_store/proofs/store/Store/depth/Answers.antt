use Rattle.std.proofs.Common.{◌∙◌, arith, subst}
use Rattle.mau_store.specs.Trees.{AreKept}
use Rattle.mau_store.proofs.Depths.{depth_at, length-depths}
use Rattle.mau_store.proofs.store.Store.depth.Goals as goal

pub index-requires : goal.index-requires
index-requires c =
    let kept = subst (λ ns. AreKept ns c.self.inside.depths.items) c.self.view_is c.self.invariant in
    omega (arith, length-depths c.args.self.now c.self.inside.depths.items kept)

pub returns : goal.returns
returns c =
    let kept = subst (λ ns. AreKept ns c.self.inside.depths.items) c.self.view_is c.self.invariant in
    record { value = c.index.ensures ∙ depth_at c.args.self.now c.self.inside.depths.items c.args.id.0 _ kept c.requires }
