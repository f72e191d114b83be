use Rattle.std.proofs.Common.{◌≡◌, [], All, Contains, sym, subst}
use Rattle.std.proofs.lemmas.List.{take_all}
use Rattle.mau_terms.specs.Norm.{norm}
use Rattle.mau_terms.specs.Finite.{IsIn}
use Rattle.mau_terms.specs.View.{variable_of}
use Rattle.mau_signature.specs.Signature.{theory_at}
use Rattle.mau_store.specs.Trees.{trees_at}
use Rattle.mau_store.specs.View.{numbers}
use Rattle.mau_store.proofs.Growth.{extension_is_preorder}
use Rattle.mau_canon.proofs.Standing.{stand_among}
use Rattle.mau_match.specs.Led.{GainsValues, GathersValues}
use Rattle.mau_match.specs.Walked.{IsPartWithin}
use Rattle.mau_match.proofs.Adding.{part_stays, part_within_stays}
use Rattle.mau_match.proofs.Leading.{gathers_none, gathers_more}
use Rattle.mau_match.proofs.lead.gathered.Goals as goal

pub loop-part-init : goal.loop-part-init
loop-part-init c = record {
  extends = extension_is_preorder.reflexive c.args.store.now;
  few = subst (GathersValues c.args.sig.now c.args.limits.now c.args.variable c.args.store.now c.args.store.now []) (sym c.new-out.ensures.items) (gathers_none c.args.sig.now c.args.limits.now c.args.variable c.args.store.now);
}

pub push_few-requires-clause-part : goal.push_few-requires-clause-part
push_few-requires-clause-part c =
    let s = c.args.sig.now in
    let old = c.args.store.now in
    let x = c.part-item.result in
    part_within_stays s old c.loop-part.store c.loop-part.invariant.extends x (subst (IsPartWithin s old) (sym c.part-item.is) (c.requires.parts c.loop-part.part-index x c.loop-part-test.true))

pub push_few-requires-clause-out : goal.push_few-requires-clause-out
push_few-requires-clause-out c = c.loop-part.invariant.few.within

pub loop-part-preserved : goal.loop-part-preserved
loop-part-preserved c =
    let s = c.args.sig.now in
    let old = c.args.store.now in
    let mid = c.loop-part.store in
    let new = c.push_few.new.store in
    let ls = c.args.limits.now in
    let v = c.args.variable in
    let parts = c.args.parts.now in
    let i = c.loop-part.part-index in
    let x = c.part-item.result in
    let inv = c.loop-part.invariant in
    record {
      extends = extension_is_preorder.transitive old mid new inv.extends c.push_few.ensures.extends;
      few =
          gathers_more s ls v old mid new parts i x c.loop-part-test.true (part_stays s old mid inv.extends _ (c.requires.parts i x c.loop-part-test.true)) c.loop-part.out.items c.push_few.new.out.items inv.few
          (subst (λ q. GainsValues s ls v mid new q c.loop-part.out.items c.push_few.new.out.items) c.part-item.is (c.in_ok-push_few.ensures.few c.if-not-branch.false));
    }

pub returns-clause-few : goal.returns-clause-few
returns-clause-few c =
    let s = c.args.sig.now in
    let old = c.args.store.now in
    let new = c.loop-part.store in
    let out = c.loop-part.out.items in
    let few = c.in_ok-few.few.items in
    let e : c.deref.result.now ≡ out = c.deref.ensures.value in
    let all : GathersValues s c.args.limits.now c.args.variable old new c.args.parts.now out =
    subst (λ qs. GathersValues s c.args.limits.now c.args.variable old new qs out) (take_all c.loop-part.part-index c.args.parts.now c.loop-part-test.false) c.loop-part.invariant.few in
    record {
      within = stand_among (theory_at s) new few out (subst (λ l. All (Contains l) few) e c.in_ok-few.ensures.among) all.within;
      values = λ gg limited o.
          c.in_ok-few.ensures.kept new (norm (theory_at s) (gg (variable_of c.args.variable)))
          (subst (λ l. IsIn (norm (theory_at s) (gg (variable_of c.args.variable))) (trees_at new (numbers l))) (sym e) (all.values gg limited o));
    }
