use Rattle.std.proofs.Common.{◌+◌, [], ◌∷◌, ◌++◌, length, refl, sym, ap, ◌∙◌, subst, arith, add-one, length-append}
use Rattle.std.proofs.lemmas.Option.{slice_get_read}
use Rattle.mau_docheck.specs.Known.{KnownAfter, no_items, one_more}
use Rattle.mau_docheck.specs.Kept.{AreCounts}
use Rattle.mau_docheck.proofs.Knowing.{no_counts, one_count}
use Rattle.mau_docheck.proofs.known.modules_of_items.Goals as goal

pub loop-item-init : goal.loop-item-init
loop-item-init c =
    let ws = c.args.words.now in
    let items = c.args.items.now in
    let ms = c.in_ok-library.library in
    let known = subst (KnownAfter ws items 0) (sym c.in_ok-library.ensures.value) no_items in
    let counts = c.in_ok-push.ensures.items ∙ ap (λ xs. xs ++ c.len.result ∷ []) c.new-counts.ensures.items ∙ ap (λ n. n ∷ []) c.len.ensures.count in
    record {
      counts = subst (AreCounts ws items ms) (sym counts) (no_counts ws items ms known);
      counted = ap length counts;
      known = known;
      prelude = c.in_ok-library.ensures.count;
    }

pub loop-item-preserved : goal.loop-item-preserved
loop-item-preserved c =
    let ws = c.args.words.now in
    let items = c.args.items.now in
    let i = c.loop-item.item-index in
    let old = c.loop-item.library in
    let new = c.enter_item.new.library in
    let h = c.loop-item.invariant in
    let x = c.in_ok-enter_item.ensures.longer in
    let item = c.item-item.result in
    let here = slice_get_read items (length items) i item refl c.loop-item-test.true c.item-item.is in
    let known : KnownAfter ws items (i + 1) new = subst (λ n. KnownAfter ws items n new) (sym (add-one i)) (one_more i item old new h.known here c.in_ok-enter_item.ensures.leaves) in
    let counts = c.in_ok-push-2.ensures.items ∙ ap (λ n. c.loop-item.counts.items ++ n ∷ []) c.len-in-loop-item.ensures.count in
    let p = h.prelude in
    record {
      counts = subst (AreCounts ws items new) (sym counts) (one_count ws items old new c.loop-item.counts.items h.counts x (subst (λ n. KnownAfter ws items n new) (sym h.counted) known));
      counted = ap length counts ∙ length-append c.loop-item.counts.items (length new ∷ []) ∙ ap (λ n. n + 1) h.counted;
      known = known;
      prelude = omega (arith, p, ap length x.1, length-append old x.0);
    }
