use Rattle.std.proofs.Common.{◌<◌, Bool, OnSome, ◌∙◌, subst}
use Rattle.std.specs.Option.{option_map}
use Rattle.mau_signature.specs.Signature.{theory_at}
use Rattle.mau_listing.specs.Question.{IsSolution}
use Rattle.mau_listing.specs.Next.{matcher_cmp, IsNext}
use Rattle.mau_listing.specs.Asked.{Asked, question_in, matcher_in, BySort}
use Rattle.mau_listing.specs.Finite.{count_left}
use Rattle.mau_trial.specs.Tried.{asked_in}
use Rattle.mau_extend.specs.Extended.{shaped_asked}
use Rattle.mau_extend.proofs.search.next_wide.Goals as goal

pub returns-clause-next : goal.returns-clause-next
returns-clause-next g c = λ known table.
    let s = c.args.sig.now in
    let old = c.args.store.now in
    let last = option_map (matcher_in old) (g.L.Lister.given c.args.listing.now) in
    let answer = option_map (matcher_in c.next.new.store) c.in_ok-found.found in
    subst (λ (b : Bool). IsNext (IsSolution b s (BySort s known) (question_in old (shaped_asked c.args.shape (asked_in c.args.trial.now)))) (matcher_cmp (theory_at s) (shaped_asked c.args.shape (asked_in c.args.trial.now)).pattern) last answer) c.requires.plain
    (subst (λ (a : Asked). IsNext (IsSolution g.L.Lister.with_context s (BySort s known) (question_in old a)) (matcher_cmp (theory_at s) a.pattern) last answer) c.requires.asked (c.in_ok-found.ensures.next known table))

pub returns-clause-falls : goal.returns-clause-falls
returns-clause-falls g c =
    let s = c.args.sig.now in
    let old = c.args.store.now in
    let new = c.next.new.store in
    let first = g.L.Lister.given c.args.listing.now in
    let then = g.L.Lister.given c.next.new.self in
    let answer = c.in_ok-found.found in
    subst (λ a. OnSome answer (count_left s new a then < count_left s old (shaped_asked c.args.shape (asked_in c.args.trial.now)) first)) (c.next.ensures.asked ∙ c.requires.asked)
    (subst (λ a. OnSome answer (count_left s new (g.L.Lister.asked c.next.new.self) then < count_left s old a first)) c.requires.asked c.in_ok-found.ensures.falls)
