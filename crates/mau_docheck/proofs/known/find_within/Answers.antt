use Rattle.std.proofs.Common.{◌≡◌, ◌<◌, length, arith, sym, ap, ◌∙◌, subst, Bool, true, false, cond, Some, take}
use Rattle.std.specs.Prelude.{IfSome, bytes_eq}
use Rattle.std.proofs.lemmas.Option.{get_or_from_slice_get}
use Rattle.mau_module.specs.Library.{last_named}
use Rattle.mau_module.proofs.Named.{last_named-more}
use Rattle.mau_docheck.proofs.known.find_within.Goals as goal
use Rattle.mau_docheck.proofs.known.find_within.Goals.{then-eq, else-eq}

pub loop-i-preserved : goal.loop-i-preserved
loop-i-preserved c =
    let ms = c.args.library.now in
    let i = c.loop-i.i in
    let m = c.module.result.now in
    let l : i < length ms = omega (arith, c.loop-i-test.true, c.requires) in
    let more = last_named-more ms c.args.name.now i m l (sym (get_or_from_slice_get ms i m m c.module.ensures.there)) in
    let same = ap (λ w. bytes_eq w c.args.name.now) (sym c.name.ensures) ∙ sym c.eq.ensures in
    let found = λ (b : Bool) (e : bytes_eq m.name c.args.name.now ≡ b). more ∙ ap (λ b. cond b (Some i) (last_named (take i ms) c.args.name.now)) e in
    elim c.if-eq.branch [
      | then-eq w ↦ record {
        number = w.last-is ∙ sym (found true (same ∙ w.if-eq.true));
        within = subst (λ o. IfSome o (λ n. n < c.args.count)) (sym w.last-is) c.loop-i-test.true;
      }
      | else-eq w ↦ record {
        number = w.last-is ∙ c.loop-i.invariant.number ∙ sym (found false (same ∙ w.if-eq.false));
        within = subst (λ o. IfSome o (λ n. n < c.args.count)) (sym w.last-is) c.loop-i.invariant.within;
      }
    ]
