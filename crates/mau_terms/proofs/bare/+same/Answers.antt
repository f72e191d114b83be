use Rattle.std.proofs.Common.{◌≡◌, ◌<◌, map, sym, ◌∙◌, ap, ap₂, length, arith, eqb-true}
use Rattle.mau_terms.specs.Tree.{node}
use Rattle.mau_terms.specs.View.{tree_of}
use Rattle.mau_terms.proofs.Pieces.{same_arguments}
use Rattle.mau_terms.proofs.Views.{same_at}
use Rattle.mau_terms.proofs.bare.+same.Goals as goal

pub Args::same-returns-then-not-same : goal.Args::same-returns-then-not-same
Args::same-returns-then-not-same t c = (
  λ h. cc,
  λ e.
      let e' : map tree_of c.self.inside.items.items ≡ map tree_of c.other.inside.items.items = c.self.view_is ∙ e ∙ sym c.other.view_is in
      let h : c.loop-i.i < length c.self.inside.items.items = omega arith in
      let k : c.loop-i.i < length c.other.inside.items.items = omega arith in
      let w = c.same.ensures.1 (same_at c.self.inside.items.items c.other.inside.items.items c.loop-i.i c.index.result.now c.index-in-loop-i.result.now h k c.index.ensures c.index-in-loop-i.ensures e') in
      sym c.if-not-same.true ∙ w,
)

pub Bare::same-returns-then-eq : goal.Bare::same-returns-then-eq
Bare::same-returns-then-eq t c =
    let a = c.in-App-App in
    let f : a.f.0 ≡ a.g.0 = eqb-true a.f.0 a.g.0 (sym c.eq-in-App-App.ensures ∙ c.if-eq.true) in (
      λ h. ap tree_of a.is-0 ∙ ap₂ node f (c.same.ensures.0 h) ∙ ap tree_of (sym a.is-1),
      λ e. c.same.ensures.1 (same_arguments a.f.0 a.g.0 a.ts a.us (ap tree_of (sym a.is-0) ∙ e ∙ ap tree_of a.is-1)),
    )
