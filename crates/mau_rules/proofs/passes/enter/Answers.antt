use Rattle.std.proofs.Common.{◌++◌, ◌∷◌, [], List, map, arith, refl, sym, ap, ◌∙◌, subst}
use Rattle.std.proofs.lemmas.List.{map-append}
use Rattle.mau_terms.specs.declared.ids.TermId.{TermId}
use Rattle.mau_rules.specs.declared.frames.Frame.{Frame}
use Rattle.mau_rules.specs.Passes.{frame_in, IsChain}
use Rattle.mau_rules.proofs.OpenTerms.{next_term, chain_on, frame_again, entered_next}
use Rattle.mau_rules.proofs.Told.{behind_same}
use Rattle.mau_rules.proofs.passes.enter.Goals as goal

pub open_term-requires-clause-term : goal.open_term-requires-clause-term
open_term-requires-clause-term g c = next_term c.args.sig.now c.args.store.now c.len.ensures.nodes c.args.at c.requires.frame c.args.next c.args.child.0 c.requires.next

pub returns-clause-chain : goal.returns-clause-chain
returns-clause-chain g c =
    let s = c.args.sig.now in
    let nodes = c.args.store.now in
    let x = c.args.at in
    let y : Frame = record { term = x.term; args = x.args; next = c.args.next } in
    let root = c.requires.chain.0 in
    let on = chain_on s nodes root c.args.frames.now.items y c.args.child.0 c.requires.chain.1 (frame_again s nodes x y c.requires.frame refl refl) (entered_next s nodes x y c.args.next c.args.child.0 c.requires.next refl refl refl) in (
      root,
      subst (λ (xs : List Frame). IsChain s nodes root xs c.in_ok-inner.inner.term.0) (sym c.in_ok-push.ensures.items)
          (subst (λ (i : TermId). IsChain s nodes root (c.args.frames.now.items ++ y ∷ []) i.0) (sym c.in_ok-inner.ensures.term) on),
    )

pub returns-clause-frames : goal.returns-clause-frames
returns-clause-frames g c =
    let nodes = c.args.store.now in
    let y : Frame = record { term = c.args.at.term; args = c.args.at.args; next = c.args.next } in
    ap (map (frame_in nodes)) c.in_ok-push.ensures.items ∙ map-append (frame_in nodes) c.args.frames.now.items (y ∷ [])

pub tell_argument-requires : goal.tell_argument-requires
tell_argument-requires g c = omega (arith, c.requires.next.next)

pub returns-clause-pushed : goal.returns-clause-pushed
returns-clause-pushed g c =
    let y : Frame = record { term = c.args.at.term; args = c.args.at.args; next = c.args.next } in
    (y, refl, refl, refl, c.in_ok-push.ensures.items)

pub returns-in_err-inner-clause-behind : goal.returns-in_err-inner-clause-behind
returns-in_err-inner-clause-behind g c = behind_same (g.W.StepWatcher.wanted c.args.watcher.now) (g.W.StepWatcher.told c.args.watcher.now)
