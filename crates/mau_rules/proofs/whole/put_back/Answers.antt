use Rattle.std.proofs.Common.{◌≡◌, ◌<◌, ◌-◌, ◌==◌, ℕ, suc, length, get_or, take, map, refl, subst, arith}
use Rattle.std.proofs.lemmas.List.{get_or_default}
use Rattle.mau_terms.specs.Norm.{norm}
use Rattle.mau_terms.specs.declared.ids.TermId.{TermId}
use Rattle.mau_signature.specs.Signature.{theory_at}
use Rattle.mau_store.specs.Trees.{tree_at}
use Rattle.mau_store.proofs.Growth.{extension_is_preorder}
use Rattle.mau_rules.specs.declared.walk.Open.{Open}
use Rattle.mau_rules.specs.Walk.{opened, around_all, IsWalk}
use Rattle.mau_rules.proofs.PuttingBack.{term_here, step_here, walk_here, value_here, end_here}
use Rattle.mau_rules.proofs.whole.put_back.Goals as goal

one_more : (n : ℕ) → 0 < n → n ≡ suc (n - 1)
one_more n h = omega (arith, h)

pub put_one-requires-clause-last : goal.put_one-requires-clause-last
put_one-requires-clause-last c =
    let s = c.args.sig.now in
    let n = c.loop-count.count - 1 in
    let t : TermId = record { 0 = 0 } in
    let d : Open = record { term = t; next = 0 } in
    let o = get_or c.args.way.now n d in
    let w = c.loop-count.invariant.stands in
    let low : n < length c.args.way.now = omega (arith, c.loop-count.invariant.low, c.loop-count-test.true) in
    let walk = subst (λ (k : ℕ). IsWalk s c.loop-count.store w.0 (take k c.args.way.now) w.1) (one_more c.loop-count.count c.loop-count-test.true) w.2 in
    term_here s c.requires.lawful c.loop-count.store c.len.ensures.nodes w.0 w.1 c.args.way.now n o low (get_or_default c.args.way.now n o d low) walk

pub put_one-requires-clause-stands : goal.put_one-requires-clause-stands
put_one-requires-clause-stands c =
    let s = c.args.sig.now in
    let n = c.loop-count.count - 1 in
    let t : TermId = record { 0 = 0 } in
    let d : Open = record { term = t; next = 0 } in
    let o = get_or c.args.way.now n d in
    let w = c.loop-count.invariant.stands in
    let low : n < length c.args.way.now = omega (arith, c.loop-count.invariant.low, c.loop-count-test.true) in
    let walk = subst (λ (k : ℕ). IsWalk s c.loop-count.store w.0 (take k c.args.way.now) w.1) (one_more c.loop-count.count c.loop-count-test.true) w.2 in
    (w.1, step_here s c.requires.lawful c.loop-count.store c.len.ensures.nodes w.0 w.1 c.args.way.now n o low (get_or_default c.args.way.now n o d low) walk, w.3)

pub loop-count-preserved : goal.loop-count-preserved
loop-count-preserved c =
    let s = c.args.sig.now in
    let th = theory_at s in
    let now = c.loop-count.store in
    let new = c.put_one.new.store in
    let n = c.loop-count.count - 1 in
    let t : TermId = record { 0 = 0 } in
    let d : Open = record { term = t; next = 0 } in
    let o = get_or c.args.way.now n d in
    let w = c.loop-count.invariant.stands in
    let low : n < length c.args.way.now = omega (arith, c.loop-count.invariant.low, c.loop-count-test.true) in
    let walk = subst (λ (k : ℕ). IsWalk s now w.0 (take k c.args.way.now) w.1) (one_more c.loop-count.count c.loop-count-test.true) w.2 in
    let target = around_all (λ v. v) (map (opened c.args.store.now) c.args.way.now) (tree_at c.args.store.now c.args.term.0) in
    let so_far = subst (λ (k : ℕ). norm th (around_all (λ v. v) (map (opened now) (take k c.args.way.now)) (tree_at now c.loop-count.whole.0)) ≡ norm th target) (one_more c.loop-count.count c.loop-count-test.true) c.loop-count.invariant.value in
    let at = get_or_default c.args.way.now n o d low in
    record {
      low = omega (arith, c.loop-count.invariant.low);
      extends = extension_is_preorder.transitive c.args.store.now now new c.loop-count.invariant.extends c.in-Ok.ensures.extends;
      stands = (w.0, o.term.0, walk_here s c.requires.lawful now c.len.ensures.nodes w.0 w.1 c.args.way.now n o low at walk new c.in-Ok.ensures.extends, c.in-Ok.ensures.kind);
      value = value_here s c.requires.lawful now c.len.ensures.nodes w.0 w.1 c.args.way.now n o low at walk c.loop-count.whole.0 target so_far new c.in-Ok.ensures.extends c.in-Ok.id.0 c.in-Ok.ensures.value;
    }

pub returns-in-Err-clause-ends : goal.returns-in-Err-clause-ends
returns-in-Err-clause-ends c = λ b.
    let s = c.args.sig.now in
    let th = theory_at s in
    let now = c.loop-count.store in
    let n = c.loop-count.count - 1 in
    let t : TermId = record { 0 = 0 } in
    let d : Open = record { term = t; next = 0 } in
    let o = get_or c.args.way.now n d in
    let w = c.loop-count.invariant.stands in
    let low : n < length c.args.way.now = omega (arith, c.loop-count.invariant.low, c.loop-count-test.true) in
    let walk = subst (λ (k : ℕ). IsWalk s now w.0 (take k c.args.way.now) w.1) (one_more c.loop-count.count c.loop-count-test.true) w.2 in
    let target = around_all (λ v. v) (map (opened c.args.store.now) c.args.way.now) (tree_at c.args.store.now c.args.term.0) in
    let so_far = subst (λ (k : ℕ). norm th (around_all (λ v. v) (map (opened now) (take k c.args.way.now)) (tree_at now c.loop-count.whole.0)) ≡ norm th target) (one_more c.loop-count.count c.loop-count-test.true) c.loop-count.invariant.value in
    end_here s c.requires.lawful now c.len.ensures.nodes w.0 w.1 c.args.way.now n o low (get_or_default c.args.way.now n o d low) walk c.loop-count.whole.0 target so_far (n == 0) refl c.in-Err.end c.end_around.result
    c.end_around.ensures.whole c.end_around.ensures.part b (c.in-Err.ensures.ends b)
