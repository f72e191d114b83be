use Rattle.std.proofs.Common.{◌≡◌, Option, Some, IfSome, true, sym, subst}
use Rattle.std.specs.Option.{option_map}
use Rattle.mau_terms.specs.Tree.{node}
use Rattle.mau_terms.specs.Norm.{norm}
use Rattle.mau_terms.specs.View.{tree_of}
use Rattle.mau_signature.specs.Signature.{theory_at}
use Rattle.mau_store.specs.Trees.{tree_at, trees_at}
use Rattle.mau_store.specs.View.{numbers}
use Rattle.mau_canon.specs.Standing.{StandsWithin}
use Rattle.mau_sorts.specs.Table.{IsSettled}
use Rattle.mau_listing.specs.declared.solution.Solution.{Solution}
use Rattle.mau_listing.specs.Next.{matcher_cmp, IsBehind}
use Rattle.mau_listing.specs.Asked.{question_in, matcher_in, IsPoint}
use Rattle.mau_trial.specs.Tried.{asked_in}
use Rattle.mau_extend.specs.Extended.{IsAheadOf, shaped_asked}
use Rattle.mau_extend.proofs.Starting.{nowhere, ahead, point}
use Rattle.mau_extend.proofs.start.start_of.Goals as goal

pub returns-then-is_beyond-clause-start : goal.returns-then-is_beyond-clause-start
returns-then-is_beyond-clause-start c = λ known table z is behind.
    let s = c.args.sig.now in
    let old = c.args.store.now in
    let t = c.args.trial.now in
    let beyond = c.is_beyond.ensures.beyond c.if-is_beyond.true in
    nowhere s c.is_lawful.ensures.lawful old c.args.sorts.now t c.args.shape c.in-Some.last c.in-Some.is c.requires.can c.requires.shape beyond.0 beyond.1 known z is
    (subst (λ (o : Option Solution). IsBehind (matcher_cmp (theory_at s) (tree_of t.pattern)) (option_map (matcher_in old) o) z) c.in-Some.is behind)

pub returns-clause-start : goal.returns-clause-start
returns-clause-start c = λ known table.
    let s = c.args.sig.now in
    let old = c.args.store.now in
    let new = c.first_argument.new.store in
    let t = c.args.trial.now in
    let w = c.args.shape in
    let q = question_in old (asked_in t) in
    subst (λ (o : Option Solution). IsAheadOf s known q w (option_map (matcher_in old) o) (Some (matcher_in new c.in_ok-point.point))) (sym c.in-Some.is)
    (subst (λ y. IsAheadOf s known q w (Some (matcher_in old c.in-Some.last)) (Some (matcher_in new y))) (sym c.in_ok-point.ensures)
    (ahead s c.is_lawful.ensures.lawful old c.args.sorts.now t w c.in-Some.last c.in-Some.is c.requires.can c.requires.shape new c.first_argument.new.sorts c.first_argument.ensures.grows c.in-Some-2.first
    (subst (λ o. IfSome o (λ i. w.left ≡ true → tree_at new i.0 ≡ norm (theory_at s) (node w.op.0 (trees_at old (numbers c.in-Some.last.left))))) c.in-Some-2.is c.in_ok-first.ensures.value)
    c.is_lawful.ensures.one_kind known table (c.is_beyond.ensures.inside c.if-is_beyond.false)))

pub returns-clause-point : goal.returns-clause-point
returns-clause-point c =
    let s = c.args.sig.now in
    let w = c.args.shape in
    let t = c.args.trial.now in
    let new = c.first_argument.new.store in
    let after = c.first_argument.new.sorts in
    let e = c.in_ok-first.ensures in
    let id = c.in-Some-2.first in
    subst (IsPoint s new after (shaped_asked w (asked_in t))) (sym c.in_ok-point.ensures)
    (point s c.is_lawful.ensures.lawful c.args.store.now c.args.sorts.now t w c.in-Some.last c.in-Some.is c.requires.can c.requires.shape new after c.first_argument.ensures.grows id
    (subst (λ o. IfSome o (λ i. w.left ≡ true → tree_at new i.0 ≡ norm (theory_at s) (node w.op.0 (trees_at c.args.store.now (numbers c.in-Some.last.left))))) c.in-Some-2.is e.value)
    (subst (λ o. IfSome o (λ i. w.left ≡ true → StandsWithin (theory_at s) new i.0)) c.in-Some-2.is e.within)
    (subst (λ o. IfSome o (λ i. w.left ≡ true → IsSettled after i.0)) c.in-Some-2.is e.settled)
    (c.can_stand.ensures c.if-not-can_stand.false))
