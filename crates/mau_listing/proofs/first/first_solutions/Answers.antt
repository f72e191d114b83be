use Rattle.std.proofs.Common.{◌≡◌, [], ◌∷◌, Some, is_some, IfSome, All, map, length, sym, ap, ◌∙◌, subst, arith, length-append}
use Rattle.std.proofs.lemmas.List.Elements.{All-push}
use Rattle.std.specs.Option.{option_map}
use Rattle.mau_signature.specs.Signature.{theory_at}
use Rattle.mau_sorts.proofs.Settling.{kept_on}
use Rattle.mau_store.proofs.Growth.{extension_is_preorder}
use Rattle.mau_listing.specs.Question.{IsSolution}
use Rattle.mau_listing.specs.Next.{matcher_cmp, IsNext, AreFirst, last_of}
use Rattle.mau_listing.specs.Asked.{question_in, matcher_in, last_after, BySort, IsGiven, CanBeLast}
use Rattle.mau_listing.proofs.Growth.{AreOfStore, question_same, given_of_store, given_is_last, of_store_extended, all_found_same, listings_go_on}
use Rattle.mau_listing.proofs.Chains.{comes_next, first_now, one_more, last_now}
use Rattle.mau_listing.proofs.first.first_solutions.Goals as goal

pub returns-in_err-push-in-Some-clause-kept : goal.returns-in_err-push-in-Some-clause-kept
returns-in_err-push-in-Some-clause-kept g c = kept_on c.args.sorts.now c.loop.sorts c.next.new.sorts c.loop.invariant.kept c.next.ensures.kept

pub returns-in_err-solution-clause-kept : goal.returns-in_err-solution-clause-kept
returns-in_err-solution-clause-kept g c = kept_on c.args.sorts.now c.loop.sorts c.next.new.sorts c.loop.invariant.kept c.next.ensures.kept

pub returns-in-None-clause-kept : goal.returns-in-None-clause-kept
returns-in-None-clause-kept g c = kept_on c.args.sorts.now c.loop.sorts c.next.new.sorts c.loop.invariant.kept c.next.ensures.kept

pub returns-in_err-next-clause-kept : goal.returns-in_err-next-clause-kept
returns-in_err-next-clause-kept g c = kept_on c.args.sorts.now c.loop.sorts c.next-2.new.sorts c.loop.invariant.kept c.next-2.ensures.kept

pub returns-clause-kept : goal.returns-clause-kept
returns-clause-kept g c = kept_on c.args.sorts.now c.loop.sorts c.next-2.new.sorts c.loop.invariant.kept c.next-2.ensures.kept

pub returns-in-None-clause-first : goal.returns-in-None-clause-first
returns-in-None-clause-first g c = λ known table.
    let w = g.L.Lister.with_context in
    let s = c.args.sig.now in
    let a = g.L.Lister.asked c.args.listing.now in
    let now = c.loop.store in
    let new = c.next.new.store in
    let xs = c.loop.solutions.items in
    let i = c.loop.invariant in
    let base = option_map (matcher_in c.args.store.now) (g.L.Lister.given c.args.listing.now) in
    let same : map (matcher_in new) xs ≡ map (matcher_in now) xs = all_found_same now new c.next.ensures.extends xs i.within in
    let q : question_in now a ≡ question_in c.args.store.now a = question_same c.args.store.now now i.extends s a c.requires.ready.askable in
    let is = comes_next w s known now new xs same base (g.L.Lister.asked c.loop.listing) a c.args.store.now i.asked q (g.L.Lister.given c.loop.listing) c.in_ok-solution.field-0 i.last (c.in_ok-solution.ensures.next known (i.table known table)) in
    let first = first_now w s known now new xs same base (IsSolution w s (BySort s known) (question_in c.args.store.now a)) (matcher_cmp (theory_at s) a.pattern) (i.next known table) c.in_ok-solution.field-0 is in
    subst (λ o. AreFirst (IsSolution w s (BySort s known) (question_in c.args.store.now a)) (matcher_cmp (theory_at s) a.pattern) base (map (matcher_in new) xs) (is_some o)) c.in-None.is first

pub returns-clause-first : goal.returns-clause-first
returns-clause-first g c = λ known table.
    let w = g.L.Lister.with_context in
    let s = c.args.sig.now in
    let a = g.L.Lister.asked c.args.listing.now in
    let now = c.loop.store in
    let new = c.next-2.new.store in
    let xs = c.loop.solutions.items in
    let i = c.loop.invariant in
    let base = option_map (matcher_in c.args.store.now) (g.L.Lister.given c.args.listing.now) in
    let same : map (matcher_in new) xs ≡ map (matcher_in now) xs = all_found_same now new c.next-2.ensures.extends xs i.within in
    let q : question_in now a ≡ question_in c.args.store.now a = question_same c.args.store.now now i.extends s a c.requires.ready.askable in
    let is = comes_next w s known now new xs same base (g.L.Lister.asked c.loop.listing) a c.args.store.now i.asked q (g.L.Lister.given c.loop.listing) c.in_ok-next.field-0 i.last (c.in_ok-next.ensures.next known (i.table known table)) in
    let first = first_now w s known now new xs same base (IsSolution w s (BySort s known) (question_in c.args.store.now a)) (matcher_cmp (theory_at s) a.pattern) (i.next known table) c.in_ok-next.field-0 is in
    subst (AreFirst (IsSolution w s (BySort s known) (question_in c.args.store.now a)) (matcher_cmp (theory_at s) a.pattern) base (map (matcher_in new) xs)) (sym c.is_some-more.ensures) first

pub loop-preserved : goal.loop-preserved
loop-preserved g c =
    let w = g.L.Lister.with_context in
    let s = c.args.sig.now in
    let a = g.L.Lister.asked c.args.listing.now in
    let start = c.args.store.now in
    let now = c.loop.store in
    let new = c.next.new.store in
    let xs = c.loop.solutions.items in
    let x = c.in-Some.solution in
    let i = c.loop.invariant in
    let base = option_map (matcher_in start) (g.L.Lister.given c.args.listing.now) in
    let same : map (matcher_in new) xs ≡ map (matcher_in now) xs = all_found_same now new c.next.ensures.extends xs i.within in
    let q : question_in now a ≡ question_in start a = question_same start now i.extends s a c.requires.ready.askable in
    let items = c.in_ok-push-in-Some.ensures.items in
    let given : g.L.Lister.given c.next.new.self ≡ Some x = c.in_ok-solution.ensures.given ∙ ap (last_after (g.L.Lister.given c.loop.listing)) c.in-Some.is in
    let solves : IsGiven w s new c.next.new.sorts a x =
    subst (λ o. IfSome o (IsGiven w s new c.next.new.sorts a)) c.in-Some.is
    (subst (λ v. IfSome c.in_ok-solution.field-0 (IsGiven w s new c.next.new.sorts v)) i.asked c.in_ok-solution.ensures.solves) in
    let ready = listings_go_on w s now new c.loop.sorts c.next.new.sorts c.next.ensures.extends c.next.ensures.kept c.next.ensures.over a (g.L.Lister.given c.loop.listing) i.ready in
    record {
      asked = c.next.ensures.asked ∙ i.asked;
      signature = c.next.ensures.signature;
      ready = record {
        askable = ready.askable;
        settled = ready.settled;
        over = ready.over;
        given = subst (λ o. IfSome o (CanBeLast w s new c.next.new.sorts a)) (sym given) (given_is_last w s new c.next.new.sorts a x solves);
      };
      extends = extension_is_preorder.transitive start now new i.extends c.next.ensures.extends;
      kept = kept_on c.args.sorts.now c.loop.sorts c.next.new.sorts i.kept c.next.ensures.kept;
      within =
          subst (All (AreOfStore new)) (sym items)
          (All-push (AreOfStore new) xs x (of_store_extended now new c.next.ensures.extends xs i.within) (given_of_store w s new c.next.new.sorts a x solves));
      counted = omega (arith, i.counted, ap length items, length-append xs (x ∷ []));
      table = λ known t. c.next.ensures.table known (i.table known t);
      last = ap (option_map (matcher_in new)) given ∙ last_now new xs base c.push.new.self.items x items;
      next = λ known t.
          let is = comes_next w s known now new xs same base (g.L.Lister.asked c.loop.listing) a start i.asked q (g.L.Lister.given c.loop.listing) c.in_ok-solution.field-0 i.last (c.in_ok-solution.ensures.next known (i.table known t)) in
          one_more w s known now new xs same base (IsSolution w s (BySort s known) (question_in start a)) (matcher_cmp (theory_at s) a.pattern) (i.next known t) c.push.new.self.items x items
          (subst (λ o. IsNext (IsSolution w s (BySort s known) (question_in start a)) (matcher_cmp (theory_at s) a.pattern) (last_of base (map (matcher_in new) xs)) (option_map (matcher_in new) o)) c.in-Some.is is);
    }
