use Rattle.std.proofs.Common.{◌<◌, None, Some, true, sym, subst}
use Rattle.std.specs.Option.{option_map}
use Rattle.mau_terms.specs.View.{tree_of}
use Rattle.mau_signature.specs.Signature.{theory_at}
use Rattle.mau_listing.specs.declared.solution.Solution.{Solution}
use Rattle.mau_listing.specs.Question.{IsSolution}
use Rattle.mau_listing.specs.Finite.{count_left}
use Rattle.mau_listing.specs.Next.{matcher_cmp, IsNext, IsLeastBehind}
use Rattle.mau_listing.specs.Asked.{BySort, question_in, matcher_in}
use Rattle.mau_trial.specs.Tried.{asked_in}
use Rattle.mau_extend.proofs.listing.ExtListingLister.next.Goals as goal

pub returns-in-None-clause-next : goal.returns-in-None-clause-next
returns-in-None-clause-next g c = λ known table.
    let s = c.args.sig.now in
    let old = c.args.store.now in
    let t = c.args.self.now.trial in
    let next : IsNext (IsSolution true s (BySort s known) (question_in old (asked_in t))) (matcher_cmp (theory_at s) (tree_of t.pattern)) (option_map (matcher_in old) t.last) None = rw c.in-None.is at (c.in_ok-next_with_contexts.ensures.next known table) in
    next

pub returns-in_ok-copy-in-Some-clause-next : goal.returns-in_ok-copy-in-Some-clause-next
returns-in_ok-copy-in-Some-clause-next g c = λ known table.
    let s = c.args.sig.now in
    let old = c.args.store.now in
    let t = c.args.self.now.trial in
    let next : IsLeastBehind (IsSolution true s (BySort s known) (question_in old (asked_in t))) (matcher_cmp (theory_at s) (tree_of t.pattern)) (option_map (matcher_in old) t.last) (matcher_in c.next_with_contexts.new.store c.in-Some.solution) =
    rw c.in-Some.is at (c.in_ok-next_with_contexts.ensures.next known table) in
    next

pub returns-in_ok-copy-in-Some-clause-falls : goal.returns-in_ok-copy-in-Some-clause-falls
returns-in_ok-copy-in-Some-clause-falls g c =
    let s = c.args.sig.now in
    let old = c.args.store.now in
    let new = c.next_with_contexts.new.store in
    let t = c.args.self.now.trial in
    let falls : count_left s new (asked_in t) (Some c.in-Some.solution) < count_left s old (asked_in t) t.last = rw c.in-Some.is at c.in_ok-next_with_contexts.ensures.falls in
    subst (λ (x : Solution). count_left s new (asked_in t) (Some x) < count_left s old (asked_in t) t.last) (sym c.in_ok-copy-in-Some.ensures) falls
