use Rattle.std.proofs.Common.{◌≡◌, ◌-◌, ◌<◌, [], ℕ, suc, true, false, List, length, map, refl, sym, ◌∙◌, subst, arith, rules, vec_len, eqb-true}
use Rattle.mau_terms.specs.Norm.{norm}
use Rattle.mau_terms.specs.declared.ids.TermId.{TermId}
use Rattle.mau_signature.specs.Signature.{theory_at}
use Rattle.mau_store.specs.Trees.{tree_at}
use Rattle.mau_store.proofs.Growth.{extension_is_preorder}
use Rattle.mau_rules.specs.declared.frames.Frame.{Frame}
use Rattle.mau_rules.specs.Walk.{around_all, MayReplace}
use Rattle.mau_rules.specs.Passes.{frame_in, IsChain}
use Rattle.mau_rules.proofs.Putting.{written}
use Rattle.mau_rules.proofs.Closing.{closed_value, closed_end, no_items}
use Rattle.mau_rules.proofs.OpenTerms.{chain_before, chain_frame, chain_step, chain_kept, entered_within, put_frame, put_stands}
use Rattle.mau_rules.specs.Telling.{TellsPass}
use Rattle.mau_rules.proofs.Told.{behind_same, behind_on}
use Rattle.mau_rules.proofs.Parts.{IsClosing, closing_on, within_end}
use Rattle.mau_rules.proofs.frames.close_all.Goals as goal

less : (n i : ℕ) → n ≡ suc i → n - 1 ≡ i
less n i e = omega (arith, e)

none : {n : ℕ} → 0 < n → n ≡ 0 → ⊥
none h e = omega (arith, h, e)

pub loop-outer-init : goal.loop-outer-init
loop-outer-init g c = record {
  extends = extension_is_preorder.reflexive c.args.store.now;
  wanted = refl;
  behind = behind_same (g.W.StepWatcher.wanted c.args.watcher.now) (g.W.StepWatcher.told c.args.watcher.now);
  told = λ w hooks table front root inner n first chain may within. record { inner = inner; first = first; chain = chain; may = may; within = within };
  stands = c.requires.stands;
  value = refl;
}

pub put_in-at-requires-clause-next : goal.put_in-at-requires-clause-next
put_in-at-requires-clause-next g c =
    let s = c.args.program.now.sig in
    let now = c.loop-outer.store in
    let w = c.loop-outer.invariant.stands in
    let xs = c.pop.new.self.items in
    let x = c.in-Some.outer in
    let chain = subst (λ (zs : List Frame). IsChain s now w.0 zs w.1) c.in-Some.ensures.items w.2 in
    (entered_within s now x w.1 (chain_step s now w.0 xs x w.1 chain)).0

pub put_in-at-requires-clause-within : goal.put_in-at-requires-clause-within
put_in-at-requires-clause-within g c =
    let s = c.args.program.now.sig in
    let now = c.loop-outer.store in
    let w = c.loop-outer.invariant.stands in
    let xs = c.pop.new.self.items in
    let x = c.in-Some.outer in
    let chain = subst (λ (zs : List Frame). IsChain s now w.0 zs w.1) c.in-Some.ensures.items w.2 in
    (entered_within s now x w.1 (chain_step s now w.0 xs x w.1 chain)).1

pub rebuilt-requires-clause-frame : goal.rebuilt-requires-clause-frame
rebuilt-requires-clause-frame g c =
    let s = c.args.program.now.sig in
    let now = c.loop-outer.store in
    let w = c.loop-outer.invariant.stands in
    let xs = c.pop.new.self.items in
    let x = c.in-Some.outer in
    let y = c.put_in-at.result in
    let chain = subst (λ (zs : List Frame). IsChain s now w.0 zs w.1) c.in-Some.ensures.items w.2 in
    let e = chain_step s now w.0 xs x w.1 chain in
    put_frame s now c.len.ensures.nodes x (chain_frame s now w.0 xs x w.1 chain) w.1 c.loop-outer.whole.0 e w.3 y.args.items
    (written x.args.items x.args.items y.args.items (x.next - 1) e.place c.loop-outer.whole c.put_in-at.ensures.args refl (less x.next e.place e.next)) y c.put_in-at.ensures.term refl

pub loop-outer-preserved : goal.loop-outer-preserved
loop-outer-preserved g c =
    let s = c.args.program.now.sig in
    let now = c.loop-outer.store in
    let new = c.rebuilt.new.store in
    let w = c.loop-outer.invariant.stands in
    let xs = c.pop.new.self.items in
    let x = c.in-Some.outer in
    let y = c.put_in-at.result in
    let v = c.loop-outer.whole in
    let chain = subst (λ (zs : List Frame). IsChain s now w.0 zs w.1) c.in-Some.ensures.items w.2 in
    let e = chain_step s now w.0 xs x w.1 chain in
    let target = around_all (λ z. z) (map (frame_in c.args.store.now) c.args.frames.now.items) (tree_at c.args.store.now c.args.term.0) in
    let so_far = subst (λ (zs : List Frame). norm (theory_at s) (around_all (λ z. z) (map (frame_in now) zs) (tree_at now v.0)) ≡ norm (theory_at s) target) c.in-Some.ensures.items c.loop-outer.invariant.value in
    let put = written x.args.items x.args.items y.args.items (x.next - 1) e.place v c.put_in-at.ensures.args refl (less x.next e.place e.next) in
    let made = put_stands s now c.len.ensures.nodes x (chain_frame s now w.0 xs x w.1 chain) w.1 v.0 e w.3 y.args.items put y c.put_in-at.ensures.term refl in
    record {
      extends = extension_is_preorder.transitive c.args.store.now now new c.loop-outer.invariant.extends c.rebuilt.ensures.extends;
      wanted = c.tell_exit.ensures.wanted ∙ c.loop-outer.invariant.wanted;
      behind = behind_on (g.W.StepWatcher.wanted c.loop-outer.watcher) (g.W.StepWatcher.wanted c.args.watcher.now) (g.W.StepWatcher.told c.args.watcher.now) (g.W.StepWatcher.told c.loop-outer.watcher) (g.W.StepWatcher.told c.tell_exit.new.watcher)
          c.loop-outer.invariant.wanted c.loop-outer.invariant.behind c.tell_exit.ensures.behind;
      told = λ q hooks table front root inner n first entered may within.
          let b = g.W.StepWatcher.told c.loop-outer.watcher in
          let d = g.W.StepWatcher.told c.tell_exit.new.watcher in
          let h = subst (λ (zs : List Frame). IsClosing c.args.program.now hooks now table root zs v front b n) c.in-Some.ensures.items (c.loop-outer.invariant.told q hooks table front root inner n first entered may within) in
          closing_on c.args.program.now hooks c.requires.lawful now new c.rebuilt.ensures.extends table c.len.ensures.nodes root xs x v front b d n h (c.in-Ok.ensures.told (c.loop-outer.invariant.wanted ∙ q)) y c.put_in-at.ensures.term
          (λ f. written x.args.items x.args.items y.args.items (x.next - 1) f.place v c.put_in-at.ensures.args refl (less x.next f.place f.next))
          (put_frame s now c.len.ensures.nodes x (chain_frame s now w.0 xs x w.1 chain) w.1 v.0 e w.3 y.args.items put y c.put_in-at.ensures.term refl)
          c.in-Ok-rebuilt.id c.in-Ok-rebuilt.ensures.value (subst (λ (i : TermId). MayReplace s new i.0 c.in-Ok-rebuilt.id.0) refl c.in-Ok-rebuilt.ensures.kind);
      stands = (
        w.0,
        x.term.0,
        chain_kept s now new c.rebuilt.ensures.extends w.0 xs x.term.0 (chain_before s now w.0 xs x w.1 chain),
        subst (λ (i : TermId). MayReplace s new i.0 c.in-Ok-rebuilt.id.0) c.put_in-at.ensures.term c.in-Ok-rebuilt.ensures.kind,
      );
      value = closed_value s c.requires.lawful now c.len.ensures.nodes w.0 w.1 xs x chain v.0 target so_far (frame_in now y).0 made new c.rebuilt.ensures.extends c.in-Ok-rebuilt.id.0 c.in-Ok-rebuilt.ensures.value;
    }

pub returns-in-Err-rebuilt-clause-ends : goal.returns-in-Err-rebuilt-clause-ends
returns-in-Err-rebuilt-clause-ends g c = λ b.
    let s = c.args.program.now.sig in
    let now = c.loop-outer.store in
    let w = c.loop-outer.invariant.stands in
    let xs = c.pop.new.self.items in
    let x = c.in-Some.outer in
    let y = c.put_in-at.result in
    let v = c.loop-outer.whole in
    let chain = subst (λ (zs : List Frame). IsChain s now w.0 zs w.1) c.in-Some.ensures.items w.2 in
    let e = chain_step s now w.0 xs x w.1 chain in
    let target = around_all (λ z. z) (map (frame_in c.args.store.now) c.args.frames.now.items) (tree_at c.args.store.now c.args.term.0) in
    let so_far = subst (λ (zs : List Frame). norm (theory_at s) (around_all (λ z. z) (map (frame_in now) zs) (tree_at now v.0)) ≡ norm (theory_at s) target) c.in-Some.ensures.items c.loop-outer.invariant.value in
    let put = written x.args.items x.args.items y.args.items (x.next - 1) e.place v c.put_in-at.ensures.args refl (less x.next e.place e.next) in
    let made = put_stands s now c.len.ensures.nodes x (chain_frame s now w.0 xs x w.1 chain) w.1 v.0 e w.3 y.args.items put y c.put_in-at.ensures.term refl in
    let long : vec_len c.pop.new.self ≡ length xs = search rules in
    closed_end s c.requires.lawful now c.len.ensures.nodes w.0 w.1 xs x chain v.0 target so_far (frame_in now y).0 made c.is_empty.result (λ t. no_items xs (λ h. none h (sym long ∙ eqb-true (vec_len c.pop.new.self) 0 (sym c.is_empty.ensures ∙ t)))) c.in-Err-rebuilt.end c.end_around.result
    c.end_around.ensures.whole c.end_around.ensures.part b (c.in-Err-rebuilt.ensures.ends b)

never : false ≡ true → ⊥
never e = cc

pub returns-in-Ok-tell_exit-clause-told : goal.returns-in-Ok-tell_exit-clause-told
returns-in-Ok-tell_exit-clause-told g c = λ q hooks table front root inner n first entered may within.
    let p = c.args.program.now in
    let now = c.loop-outer.store in
    let i = c.loop-outer.invariant in
    let v = c.loop-outer.whole in
    let b = g.W.StepWatcher.told c.loop-outer.watcher in
    let d = g.W.StepWatcher.told c.tell_exit-2.new.watcher in
    let xs = c.loop-outer.frames.items in
    let long : vec_len c.loop-outer.frames ≡ length xs = search rules in
    let empty : xs ≡ [] = no_items xs (λ low. never (c.in_default.ensures.variant.1 (omega (arith, low, long)))) in
    let h = subst (λ (zs : List Frame). IsClosing p hooks now table root zs v front b n) empty (i.told q hooks table front root inner n first entered may within) in
    subst (λ (t : TermId). TellsPass p hooks now table t v front d n) h.first (within_end p hooks now table h.inner v front b d n (c.in-Ok-tell_exit.ensures.told (i.wanted ∙ q)) h.within)
