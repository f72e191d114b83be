use Rattle.std.proofs.Common.{◌≡◌, ◌<◌, length, slice_get, Some, sym, subst, arith}
use Rattle.std.proofs.lemmas.Option.{slice_get_within}
use Rattle.mau_stratforms.specs.Meanings.{meaning_of, meant}
use Rattle.mau_stratforms.proofs.Leaves.{not_there, mapped}
use Rattle.mau_stratforms.proofs.table.LeafTable.find.Goals as goal

pub loop-place-preserved : goal.loop-place-preserved
loop-place-preserved c =
    let h : c.loop-place.place < length c.self.inside.leaves.items = omega arith in
    not_there c.self.inside.leaves.items (meaning_of c.args.leaf.now) c.loop-place.place c.index.result.now c.same.result h c.index.ensures c.same.ensures.1 c.if-same.false c.loop-place.invariant

pub returns : goal.returns
returns c l e =
    let m = meaning_of c.args.leaf.now in
    let e' : slice_get (meant c.self.inside.leaves.items) l ≡ Some m = subst (λ xs. slice_get (meant xs) l ≡ Some m) (sym c.self.view_is) e in
    let w : l < length (meant c.self.inside.leaves.items) = slice_get_within (meant c.self.inside.leaves.items) l m e' in
    let n : length (meant c.self.inside.leaves.items) ≡ length c.self.inside.leaves.items = mapped meaning_of c.self.inside.leaves.items in
    let h : l < c.loop-place.place = omega (arith, w, n, c.len-place-end.ensures, c.loop-place-test.false) in
    c.loop-place.invariant l h e'
