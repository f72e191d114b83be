use Rattle.std.proofs.Common.{◌≡◌, Option, None, Some, true, false, is_some, not, refl, sym, ◌∙◌, ap, subst}
use Rattle.std.specs.Option.{option_map}
use Rattle.mau_terms.specs.View.{tree_of}
use Rattle.mau_terms.specs.declared.theory.Identity.{Identity}
use Rattle.mau_terms.specs.declared.theory.Theory.{Theory}
use Rattle.mau_signature.specs.Signature.{theory_at}
use Rattle.mau_terms.proofs.Outcomes.{IfOk-then}
use Rattle.mau_listing.specs.declared.solution.Solution.{Solution}
use Rattle.mau_listing.specs.Question.{IsSolution}
use Rattle.mau_listing.specs.Next.{matcher_cmp, IsNext}
use Rattle.mau_listing.specs.Asked.{question_in, matcher_in, BySort}
use Rattle.mau_trial.specs.Tried.{asked_in}
use Rattle.mau_extend.specs.Extended.{IsNextOf, IsNextBeside}
use Rattle.mau_extend.proofs.Covering.{by_identity, by_rest}
use Rattle.mau_extend.proofs.Falling.{falls}
use Rattle.mau_extend.proofs.next.next_part.Goals as goal

some_identity : (o : Option Identity) → is_some o ≡ true → (i : Identity) × (o ≡ Some i)
some_identity None e = cc
some_identity (Some i) e = (i, refl)

pub returns-then-is_some-clause-next : goal.returns-then-is_some-clause-next
returns-then-is_some-clause-next g c = λ known table.
    let s = c.args.sig.now in
    let t = c.args.trial.now in
    let old = c.args.store.now in
    let new = c.next_of_shape.new.store in
    let f = c.args.op.0 in
    let q = question_in old (asked_in t) in
    let last = option_map (matcher_in old) t.last in
    let theory = c.theory-theory.ensures.value in
    let id = some_identity (theory_at s f).id (ap (λ (h : Theory). is_some h.id) (sym theory) ∙ sym c.is_some.ensures ∙ c.if-is_some.true) in
    IfOk-then (λ (o : Option Solution). IsNextOf s known q (not c.theory-theory.result.now.comm) true f last (option_map (matcher_in new) o)) (λ (o : Option Solution). IsNext (IsSolution true s (BySort s known) q) (matcher_cmp (theory_at s) (tree_of t.pattern)) last (option_map (matcher_in new) o))
    (λ o n. by_identity s known q last f c.requires.top id.0 id.1 (option_map (matcher_in new) o) (subst (λ (h : Theory). IsNextOf s known q (not h.comm) true f last (option_map (matcher_in new) o)) theory n))
    c.next_of_shape.result (c.next_of_shape.ensures.next known table)

pub returns-then-theory-clause-next : goal.returns-then-theory-clause-next
returns-then-theory-clause-next g c = λ known table.
    let s = c.args.sig.now in
    let t = c.args.trial.now in
    let old = c.args.store.now in
    let new = c.next_beside.new.store in
    let f = c.args.op.0 in
    let q = question_in old (asked_in t) in
    let last = option_map (matcher_in old) t.last in
    let comm = ap (λ (h : Theory). h.comm) (sym c.theory-theory.ensures.value) ∙ c.if-theory.true in
    IfOk-then (λ (o : Option Solution). IsNextBeside s known q false f last (option_map (matcher_in new) o)) (λ (o : Option Solution). IsNext (IsSolution true s (BySort s known) q) (matcher_cmp (theory_at s) (tree_of t.pattern)) last (option_map (matcher_in new) o))
    (λ o n. by_rest s known q last f c.requires.top comm (option_map (matcher_in new) o) n)
    c.next_beside.result (c.next_beside.ensures.next known table)

pub returns-then-is_some-clause-falls : goal.returns-then-is_some-clause-falls
returns-then-is_some-clause-falls g c =
    falls c.args.sig.now c.args.trial.now c.args.store.now c.next_of_shape.new.store c.args.sorts.now c.requires.can c.next_of_shape.ensures.grows.extends c.theory-theory.ensures.lawful c.next_of_shape.new.sorts c.next_of_shape.result c.next_of_shape.ensures.behind c.next_of_shape.ensures.given

pub returns-then-theory-clause-falls : goal.returns-then-theory-clause-falls
returns-then-theory-clause-falls g c =
    falls c.args.sig.now c.args.trial.now c.args.store.now c.next_beside.new.store c.args.sorts.now c.requires.can c.next_beside.ensures.grows.extends c.theory-theory.ensures.lawful c.next_beside.new.sorts c.next_beside.result c.next_beside.ensures.behind c.next_beside.ensures.given

pub returns-clause-falls : goal.returns-clause-falls
returns-clause-falls g c =
    falls c.args.sig.now c.args.trial.now c.args.store.now c.next_apart.new.store c.args.sorts.now c.requires.can c.next_apart.ensures.grows.extends c.theory-theory.ensures.lawful c.next_apart.new.sorts c.next_apart.result c.next_apart.ensures.behind c.next_apart.ensures.given
