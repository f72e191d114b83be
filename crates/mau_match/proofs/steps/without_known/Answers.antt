use Rattle.std.proofs.Common.{◌≡◌, Some, None, true, false, if◌then◌else◌, sym, subst}
use Rattle.mau_signature.specs.Signature.{theory_at}
use Rattle.mau_store.specs.Trees.{trees_at}
use Rattle.mau_store.specs.View.{numbers}
use Rattle.mau_canon.specs.Standing.{StandWithin}
use Rattle.mau_canon.proofs.Standing.{stand_among, stand_within_extended}
use Rattle.mau_match.specs.Parts.{without_all}
use Rattle.mau_match.proofs.Taking.{taken_out}
use Rattle.mau_match.proofs.steps.without_known.Goals as goal

pub returns-then-remove_all-clause-some : goal.returns-then-remove_all-clause-some
returns-then-remove_all-clause-some c =
    let s = c.args.sig.now in
    let old = c.args.store.now in
    let new = c.push_all_known.new.store in
    let items = c.args.items.now in
    taken_out s old new c.new-known.result.items c.push_all_known.new.out.items c.deref.result.now _ items c.remove_all.new.items.items true
    c.in_ok-push_all_known.ensures.ok c.new-known.ensures.items c.deref.ensures.value c.requires.items
    (subst (λ l. without_all (trees_at new (numbers c.deref.result.now)) (trees_at new (numbers l)) ≡ Some (trees_at new (numbers c.remove_all.new.items.items))) c.in_ok-left.ensures
    (subst (λ b. without_all (trees_at new (numbers c.deref.result.now)) (trees_at new (numbers c.in_ok-left.left.items)) ≡ (if b then Some (trees_at new (numbers c.remove_all.new.items.items)) else None)) c.if-remove_all.true c.remove_all.ensures.value))

pub returns-then-remove_all-clause-within : goal.returns-then-remove_all-clause-within
returns-then-remove_all-clause-within c =
    let th = theory_at c.args.sig.now in
    let old = c.args.store.now in
    let new = c.push_all_known.new.store in
    stand_among th new c.remove_all.new.items.items c.in_ok-left.left.items c.remove_all.ensures.among
    (subst (λ l. StandWithin th new (numbers l)) (sym c.in_ok-left.ensures) (stand_within_extended th old new (numbers c.args.items.now) c.push_all_known.ensures.extends c.requires.items))

pub returns-else-remove_all-clause-none : goal.returns-else-remove_all-clause-none
returns-else-remove_all-clause-none c =
    let s = c.args.sig.now in
    let old = c.args.store.now in
    let new = c.push_all_known.new.store in
    let items = c.args.items.now in
    taken_out s old new c.new-known.result.items c.push_all_known.new.out.items c.deref.result.now _ items c.remove_all.new.items.items false
    c.in_ok-push_all_known.ensures.ok c.new-known.ensures.items c.deref.ensures.value c.requires.items
    (subst (λ l. without_all (trees_at new (numbers c.deref.result.now)) (trees_at new (numbers l)) ≡ None) c.in_ok-left.ensures
    (subst (λ b. without_all (trees_at new (numbers c.deref.result.now)) (trees_at new (numbers c.in_ok-left.left.items)) ≡ (if b then Some (trees_at new (numbers c.remove_all.new.items.items)) else None)) c.if-remove_all.false c.remove_all.ensures.value))
