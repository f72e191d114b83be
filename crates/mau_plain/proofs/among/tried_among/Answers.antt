use Rattle.std.proofs.Common.{◌≡◌, [], Contains, get_or, take, add-one, sym, ◌∙◌, subst, arith}
use Rattle.std.proofs.lemmas.List.{get_or_default}
use Rattle.mau_signature.specs.Signature.{theory_at}
use Rattle.mau_store.specs.View.{numbers}
use Rattle.mau_store.proofs.Growth.{extension_is_preorder}
use Rattle.mau_canon.specs.Standing.{StandWithin}
use Rattle.mau_canon.proofs.Standing.{stand_within_extended}
use Rattle.mau_plain.specs.Behind.{AddsTried}
use Rattle.mau_trial.proofs.OfKind.{take_whole}
use Rattle.mau_plain.proofs.Trials.{ready_extended, adds_before, tried_among_more, tried_more, all_tried_more}
use Rattle.mau_plain.proofs.among.tried_among.Goals as goal

pub push_tried-requires-clause-ready : goal.push_tried-requires-clause-ready
push_tried-requires-clause-ready c = ready_extended c.args.sig.now c.args.sorts.now c.args.trial.now c.args.places.now c.args.store.now c.loop-list.store c.loop-list.invariant.extends c.requires.ready

pub push_tried-requires-clause-values : goal.push_tried-requires-clause-values
push_tried-requires-clause-values c =
    let th = theory_at c.args.sig.now in
    let within = c.requires.values c.loop-list.list-index c.list-item.result c.loop-list-test.true in
    stand_within_extended th c.args.store.now c.loop-list.store (numbers c.list-item.result) c.loop-list.invariant.extends
    (subst (λ l. StandWithin th c.args.store.now (numbers l)) (sym c.list-item.is) within)

pub loop-list-preserved : goal.loop-list-preserved
loop-list-preserved c =
    let s = c.args.sig.now in
    let th = theory_at s in
    let i = c.loop-list.list-index in
    let ls = c.args.lists.now in
    let item : c.list-item.result ≡ get_or ls i [] = c.list-item.is ∙ get_or_default ls i c.list-item.result [] c.loop-list-test.true in
    let inv = c.loop-list.invariant in
    let ready = c.requires.ready in
    let table = c.args.sorts.now in
    let t = c.args.trial.now in
    let ps = c.args.places.now in
    let nodes = c.args.store.now in
    let within = subst (λ l. StandWithin th nodes (numbers l)) (sym c.list-item.is) (c.requires.values i c.list-item.result c.loop-list-test.true) in
    let before = c.loop-list.out.items in
    let after = c.push_tried.new.out.items in
    let adds = subst (λ l. AddsTried s nodes table t ps l before after) item
    (adds_before s table t ps nodes c.loop-list.store inv.extends ready c.list-item.result within before after c.in_ok-push_tried.ensures.added) in
    record {
      among = tried_among_more s nodes table t ps ls i c.loop-list-test.true before after adds inv.among;
      tried = tried_more s nodes table t ps ls i c.loop-list-test.true before after adds inv.tried;
      all = λ vs there. all_tried_more s nodes table t ps ls i c.loop-list-test.true before after adds inv.all vs (subst (λ n. Contains (take n ls) vs) (add-one i) there);
      extends = extension_is_preorder.transitive nodes c.loop-list.store c.push_tried.new.store inv.extends c.push_tried.ensures.extends;
    }

pub returns-clause-all : goal.returns-clause-all
returns-clause-all c = λ l there is.
    c.loop-list.invariant.all l (subst (λ ls. Contains ls l) (sym (take_whole c.args.lists.now c.loop-list.list-index (omega arith))) there) is
