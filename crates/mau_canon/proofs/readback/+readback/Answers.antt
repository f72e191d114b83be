use Rattle.std.proofs.Common.{◌≡◌, map, suc, sym, ap, ◌∙◌, subst, arith}
use Rattle.mau_terms.specs.Depth.{depth, list_depth, depths-trees_of}
use Rattle.mau_terms.specs.Reading.{reading, nest}
use Rattle.mau_terms.specs.View.{tree_of}
use Rattle.mau_terms.specs.declared.theory.Theory.{Theory}
use Rattle.mau_terms.proofs.Outcomes.{IfOk-then}
use Rattle.mau_signature.specs.Signature.{theory_at}
use Rattle.mau_signature.specs.OverSignature.{IsTreeOver}
use Rattle.mau_store.specs.Trees.{tree_at, trees_at}
use Rattle.mau_store.specs.View.{numbers}
use Rattle.mau_canon.proofs.Nesting.{readings_each, over_each, deepest_here, there_here, over_here}
use Rattle.mau_canon.proofs.readback.+readback.Goals as goal

pub read-read_all-requires : goal.read-read_all-requires
read-read_all-requires t c =
    let ts = trees_at c.args.store.now (numbers c.in-App.args.now) in
    let deep : depth (tree_at c.args.store.now c.args.id.0) ≡ suc (list_depth ts) = ap depth c.in-App.ensures.tree ∙ ap suc (depths-trees_of ts) in (
      omega (arith, deep),
      (
        λ k d h. omega (arith, c.in-App.ensures.older k d h, c.requires.there),
        over_each c.args.sig.now ts (subst (IsTreeOver c.args.sig.now) c.in-App.ensures.tree c.requires.over).2,
      ),
    )

pub read-returns-in_ok-items-in-App : goal.read-returns-in_ok-items-in-App
read-returns-in_ok-items-in-App t c =
    let th = theory_at c.args.sig.now in
    let f = c.in-App.op.0 in
    let ts = trees_at c.args.store.now (numbers c.in-App.args.now) in
    IfOk-then _ _
    (λ term e.
    e
    ∙ ap (λ (h : Theory). nest h.assoc f (map tree_of c.in_ok-items-in-App.items.items)) c.theory.ensures.value
    ∙ ap (nest (th f).assoc f) (c.in_ok-items-in-App.ensures ∙ sym (readings_each th ts))
    ∙ ap (reading th) (sym c.in-App.ensures.tree))
    c.over.result c.over.ensures

pub read_all-read-requires : goal.read_all-read-requires
read_all-read-requires t c =
    let nodes = c.args.store.now in
    let ids = c.args.ids.now in
    let i = c.loop-id.id-index in (
      omega (arith, deepest_here nodes ids i (record { 0 = 0 }) c.loop-id-test.true),
      (there_here nodes ids i (record { 0 = 0 }) c.loop-id-test.true c.requires.there, over_here nodes c.args.sig.now ids i (record { 0 = 0 }) c.loop-id-test.true c.requires.over),
    )
