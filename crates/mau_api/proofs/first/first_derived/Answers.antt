use Rattle.std.proofs.Common.{◌≡◌, Bool, [], ◌∷◌, List, Option, Some, is_some, IfSome, All, map, length, sym, ap, ◌∙◌, subst, arith, length-append}
use Rattle.std.proofs.lemmas.List.Elements.{All-push}
use Rattle.std.specs.Option.{option_map}
use Rattle.mau_signature.specs.Signature.{theory_at}
use Rattle.mau_store.specs.Node.{Node}
use Rattle.mau_sorts.specs.HasSort.{Known}
use Rattle.mau_sorts.specs.Table.{Table, AreOver}
use Rattle.mau_sorts.proofs.Settling.{kept_on}
use Rattle.mau_store.proofs.Growth.{extension_is_preorder}
use Rattle.mau_listing.specs.declared.solution.Solution.{Solution}
use Rattle.mau_listing.specs.Question.{IsSolution}
use Rattle.mau_listing.specs.Next.{matcher_cmp, IsNext, AreFirst, last_of}
use Rattle.mau_listing.specs.Asked.{Asked, question_in, matcher_in, last_after, IsTableOf, BySort, IsGiven, CanBeLast}
use Rattle.mau_listing.proofs.Growth.{AreOfStore, question_same, given_of_store, given_is_last, of_store_extended, all_found_same, listings_go_on}
use Rattle.mau_listing.proofs.Chains.{comes_next, first_now, one_more, last_now}
use Rattle.mau_api.specs.Meanings.{Meanings}
use Rattle.mau_api.proofs.first.first_derived.Goals as goal

-- what the next solution is, for an evaluator that goes by m
abbrev NextBy : Bool → List Node → List Node → Table → Asked → Option Solution → Option Solution → Meanings → Type 0
NextBy w now new table a given answer m = (known : Known) → IsTableOf m.program.sig known now table →
    IsNext (IsSolution w m.program.sig (BySort m.program.sig known) (question_in now a)) (matcher_cmp (theory_at m.program.sig) a.pattern) (option_map (matcher_in now) given) (option_map (matcher_in new) answer)

-- a table stays one, for an evaluator that goes by the same meanings
by_meanings : {n m : Meanings} (now new : List Node) (before after : Table) → n ≡ m → ((known : Known) → IsTableOf n.program.sig known now before → IsTableOf n.program.sig known new after) →
    (known : Known) → IsTableOf m.program.sig known now before → IsTableOf m.program.sig known new after
by_meanings now new before after e h = subst (λ (k : Meanings). (known : Known) → IsTableOf k.program.sig known now before → IsTableOf k.program.sig known new after) e h

pub returns-in_err-solution-clause-table : goal.returns-in_err-solution-clause-table
returns-in_err-solution-clause-table g c = λ known t.
    by_meanings c.loop.store c.list.new.store (g.E.Evaluator.table c.loop.evaluator) (g.E.Evaluator.table c.list.new.self) c.loop.invariant.meanings c.list.ensures.table known (c.loop.invariant.table known t)

pub returns-in_err-push-in-Some-clause-table : goal.returns-in_err-push-in-Some-clause-table
returns-in_err-push-in-Some-clause-table g c = λ known t.
    by_meanings c.loop.store c.list.new.store (g.E.Evaluator.table c.loop.evaluator) (g.E.Evaluator.table c.list.new.self) c.loop.invariant.meanings c.list.ensures.table known (c.loop.invariant.table known t)

pub returns-in-None-clause-table : goal.returns-in-None-clause-table
returns-in-None-clause-table g c = λ known t.
    by_meanings c.loop.store c.list.new.store (g.E.Evaluator.table c.loop.evaluator) (g.E.Evaluator.table c.list.new.self) c.loop.invariant.meanings c.list.ensures.table known (c.loop.invariant.table known t)

pub returns-in_err-list-clause-table : goal.returns-in_err-list-clause-table
returns-in_err-list-clause-table g c = λ known t.
    by_meanings c.loop.store c.list-2.new.store (g.E.Evaluator.table c.loop.evaluator) (g.E.Evaluator.table c.list-2.new.self) c.loop.invariant.meanings c.list-2.ensures.table known (c.loop.invariant.table known t)

pub returns-clause-table : goal.returns-clause-table
returns-clause-table g c = λ known t.
    by_meanings c.loop.store c.list-2.new.store (g.E.Evaluator.table c.loop.evaluator) (g.E.Evaluator.table c.list-2.new.self) c.loop.invariant.meanings c.list-2.ensures.table known (c.loop.invariant.table known t)

pub returns-in_err-push-in-Some-clause-kept : goal.returns-in_err-push-in-Some-clause-kept
returns-in_err-push-in-Some-clause-kept g c =
    kept_on (g.E.Evaluator.table c.args.evaluator.now) (g.E.Evaluator.table c.loop.evaluator) (g.E.Evaluator.table c.list.new.self) c.loop.invariant.kept c.list.ensures.kept

pub returns-in-None-clause-kept : goal.returns-in-None-clause-kept
returns-in-None-clause-kept g c =
    kept_on (g.E.Evaluator.table c.args.evaluator.now) (g.E.Evaluator.table c.loop.evaluator) (g.E.Evaluator.table c.list.new.self) c.loop.invariant.kept c.list.ensures.kept

pub returns-in_err-list-clause-kept : goal.returns-in_err-list-clause-kept
returns-in_err-list-clause-kept g c =
    kept_on (g.E.Evaluator.table c.args.evaluator.now) (g.E.Evaluator.table c.loop.evaluator) (g.E.Evaluator.table c.list-2.new.self) c.loop.invariant.kept c.list-2.ensures.kept

pub returns-clause-kept : goal.returns-clause-kept
returns-clause-kept g c =
    kept_on (g.E.Evaluator.table c.args.evaluator.now) (g.E.Evaluator.table c.loop.evaluator) (g.E.Evaluator.table c.list-2.new.self) c.loop.invariant.kept c.list-2.ensures.kept

pub returns-in-None-clause-first : goal.returns-in-None-clause-first
returns-in-None-clause-first g c = λ known table.
    let w = g.L.Lister.with_context in
    let s = (g.E.Evaluator.meanings c.args.evaluator.now).program.sig in
    let a = g.L.Lister.asked c.args.listing.now in
    let now = c.loop.store in
    let new = c.list.new.store in
    let xs = c.loop.solutions.items in
    let i = c.loop.invariant in
    let base = option_map (matcher_in c.args.store.now) (g.L.Lister.given c.args.listing.now) in
    let same : map (matcher_in new) xs ≡ map (matcher_in now) xs = all_found_same now new c.list.ensures.extends xs i.within in
    let q : question_in now a ≡ question_in c.args.store.now a = question_same c.args.store.now now i.extends s a c.requires.ready.askable in
    let next = subst (NextBy w now new (g.E.Evaluator.table c.loop.evaluator) (g.L.Lister.asked c.loop.listing) (g.L.Lister.given c.loop.listing) c.in_ok-solution.field-0) i.meanings c.in_ok-solution.ensures.next in
    let is = comes_next w s known now new xs same base (g.L.Lister.asked c.loop.listing) a c.args.store.now i.asked q (g.L.Lister.given c.loop.listing) c.in_ok-solution.field-0 i.last (next known (i.table known table)) in
    let first = first_now w s known now new xs same base (IsSolution w s (BySort s known) (question_in c.args.store.now a)) (matcher_cmp (theory_at s) a.pattern) (i.next known table) c.in_ok-solution.field-0 is in
    subst (λ o. AreFirst (IsSolution w s (BySort s known) (question_in c.args.store.now a)) (matcher_cmp (theory_at s) a.pattern) base (map (matcher_in new) xs) (is_some o)) c.in-None.is first

pub returns-clause-first : goal.returns-clause-first
returns-clause-first g c = λ known table.
    let w = g.L.Lister.with_context in
    let s = (g.E.Evaluator.meanings c.args.evaluator.now).program.sig in
    let a = g.L.Lister.asked c.args.listing.now in
    let now = c.loop.store in
    let new = c.list-2.new.store in
    let xs = c.loop.solutions.items in
    let i = c.loop.invariant in
    let base = option_map (matcher_in c.args.store.now) (g.L.Lister.given c.args.listing.now) in
    let same : map (matcher_in new) xs ≡ map (matcher_in now) xs = all_found_same now new c.list-2.ensures.extends xs i.within in
    let q : question_in now a ≡ question_in c.args.store.now a = question_same c.args.store.now now i.extends s a c.requires.ready.askable in
    let next = subst (NextBy w now new (g.E.Evaluator.table c.loop.evaluator) (g.L.Lister.asked c.loop.listing) (g.L.Lister.given c.loop.listing) c.in_ok-list.field-0) i.meanings c.in_ok-list.ensures.next in
    let is = comes_next w s known now new xs same base (g.L.Lister.asked c.loop.listing) a c.args.store.now i.asked q (g.L.Lister.given c.loop.listing) c.in_ok-list.field-0 i.last (next known (i.table known table)) in
    let first = first_now w s known now new xs same base (IsSolution w s (BySort s known) (question_in c.args.store.now a)) (matcher_cmp (theory_at s) a.pattern) (i.next known table) c.in_ok-list.field-0 is in
    subst (AreFirst (IsSolution w s (BySort s known) (question_in c.args.store.now a)) (matcher_cmp (theory_at s) a.pattern) base (map (matcher_in new) xs)) (sym c.is_some-more.ensures) first

pub loop-preserved : goal.loop-preserved
loop-preserved g c =
    let w = g.L.Lister.with_context in
    let m = g.E.Evaluator.meanings c.args.evaluator.now in
    let s = m.program.sig in
    let a = g.L.Lister.asked c.args.listing.now in
    let start = c.args.store.now in
    let now = c.loop.store in
    let new = c.list.new.store in
    let before = g.E.Evaluator.table c.loop.evaluator in
    let after = g.E.Evaluator.table c.list.new.self in
    let xs = c.loop.solutions.items in
    let x = c.in-Some.solution in
    let i = c.loop.invariant in
    let meanings : g.E.Evaluator.meanings c.list.new.self ≡ m = c.list.ensures.meanings ∙ i.meanings in
    let base = option_map (matcher_in start) (g.L.Lister.given c.args.listing.now) in
    let same : map (matcher_in new) xs ≡ map (matcher_in now) xs = all_found_same now new c.list.ensures.extends xs i.within in
    let q : question_in now a ≡ question_in start a = question_same start now i.extends s a c.requires.ready.askable in
    let items = c.in_ok-push-in-Some.ensures.items in
    let given : g.L.Lister.given c.list.new.listing ≡ Some x = c.in_ok-solution.ensures.given ∙ ap (last_after (g.L.Lister.given c.loop.listing)) c.in-Some.is in
    let solves : IsGiven w s new after a x =
    subst (λ o. IfSome o (IsGiven w s new after a)) c.in-Some.is
    (subst (λ v. IfSome c.in_ok-solution.field-0 (IsGiven w s new after v)) i.asked
    (subst (λ n. IfSome c.in_ok-solution.field-0 (IsGiven w n.program.sig new after (g.L.Lister.asked c.loop.listing))) i.meanings c.in_ok-solution.ensures.solves)) in
    let over : AreOver s.hierarchy after = subst (λ n. AreOver n.program.sig.hierarchy after) meanings (g.met.E.Evaluator.derived c.list.new.self new c.list.ensures.fits).over in
    let ready = listings_go_on w s now new before after c.list.ensures.extends c.list.ensures.kept over a (g.L.Lister.given c.loop.listing) i.ready in
    record {
      asked = c.list.ensures.asked ∙ i.asked;
      meanings = meanings;
      fits = c.list.ensures.fits;
      signature = subst (λ n. g.L.Lister.is_for c.list.new.listing n.program.sig) i.meanings c.list.ensures.signature;
      ready = record {
        askable = ready.askable;
        settled = ready.settled;
        over = ready.over;
        given = subst (λ o. IfSome o (CanBeLast w s new after a)) (sym given) (given_is_last w s new after a x solves);
      };
      extends = extension_is_preorder.transitive start now new i.extends c.list.ensures.extends;
      kept = kept_on (g.E.Evaluator.table c.args.evaluator.now) before after i.kept c.list.ensures.kept;
      within =
          subst (All (AreOfStore new)) (sym items)
          (All-push (AreOfStore new) xs x (of_store_extended now new c.list.ensures.extends xs i.within) (given_of_store w s new after a x solves));
      counted = omega (arith, i.counted, ap length items, length-append xs (x ∷ []));
      table = λ known t. by_meanings now new before after i.meanings c.list.ensures.table known (i.table known t);
      last = ap (option_map (matcher_in new)) given ∙ last_now new xs base c.push.new.self.items x items;
      next = λ known t.
          let next = subst (NextBy w now new before (g.L.Lister.asked c.loop.listing) (g.L.Lister.given c.loop.listing) c.in_ok-solution.field-0) i.meanings c.in_ok-solution.ensures.next in
          let is = comes_next w s known now new xs same base (g.L.Lister.asked c.loop.listing) a start i.asked q (g.L.Lister.given c.loop.listing) c.in_ok-solution.field-0 i.last (next known (i.table known t)) in
          one_more w s known now new xs same base (IsSolution w s (BySort s known) (question_in start a)) (matcher_cmp (theory_at s) a.pattern) (i.next known t) c.push.new.self.items x items
          (subst (λ o. IsNext (IsSolution w s (BySort s known) (question_in start a)) (matcher_cmp (theory_at s) a.pattern) (last_of base (map (matcher_in new) xs)) (option_map (matcher_in new) o)) c.in-Some.is is);
    }
