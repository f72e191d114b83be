use Rattle.std.proofs.Common.{[], All, Contains, get_or, sym, subst}
use Rattle.std.proofs.lemmas.List.{take_all}
use Rattle.std.proofs.lemmas.List.Elements.{All-nil, All-contains_itself}
use Rattle.mau_terms.specs.Finite.{IsIn}
use Rattle.mau_terms.specs.declared.ids.TermId.{TermId}
use Rattle.mau_store.specs.Trees.{trees_at}
use Rattle.mau_store.specs.View.{numbers}
use Rattle.mau_match.specs.Led.{IsAdded}
use Rattle.mau_match.proofs.Leading.{added_more, added_there, added_among}
use Rattle.mau_match.proofs.lead.distinct.Goals as goal

abbrev no_term : TermId
no_term = record { 0 = 0 }

pub loop-id-init : goal.loop-id-init
loop-id-init c = record {
  kept = λ nodes v i. absurd i;
  there = λ nodes. tt;
  among = subst (All (Contains c.args.ids.now)) (sym c.new-out.ensures.items) (All-nil (Contains c.args.ids.now));
}

pub loop-id-preserved : goal.loop-id-preserved
loop-id-preserved c =
    let ids = c.args.ids.now in
    let i = c.loop-id.id-index in
    let id = get_or ids i no_term in
    let inv = c.loop-id.invariant in
    let before = c.loop-id.before in
    let old = c.loop-id.out.items in
    let new = c.push_new.new.out.items in
    let h : IsAdded before id old new = c.in_ok-push_new.ensures in
    record {
      kept = λ nodes v k. added_more nodes ids i no_term c.loop-id-test.true before old new h (inv.there nodes) (inv.kept nodes) v k;
      there = λ nodes. added_there nodes before id old new h (inv.there nodes);
      among = added_among before id old new ids h inv.among (All-contains_itself ids i no_term c.loop-id-test.true);
    }

pub returns-clause-kept : goal.returns-clause-kept
returns-clause-kept c = λ nodes v k.
    c.loop-id.invariant.kept nodes v (subst (λ l. IsIn v (trees_at nodes (numbers l))) (sym (take_all c.loop-id.id-index c.args.ids.now c.loop-id-test.false)) k)
