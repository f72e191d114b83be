use Rattle.std.proofs.Common.{◌≡◌, ◌<◌, ◌≤◌, [], ◌∷◌, true, inl, sym, ap, ◌∙◌, arith}
use Rattle.std.proofs.lemmas.List.Elements.{All-nil, All-cons}
use Rattle.mau_terms.specs.Tree.{node}
use Rattle.mau_terms.specs.Depth.{depth}
use Rattle.mau_terms.specs.Norm.{norm, holds_overflow}
use Rattle.mau_terms.specs.Finite.{IsIn}
use Rattle.mau_signature.specs.Signature.{theory_at}
use Rattle.mau_store.specs.Trees.{trees_at}
use Rattle.mau_store.specs.View.{numbers}
use Rattle.mau_canon.specs.declared.TheConstants.{MAX_DEPTH}
use Rattle.mau_canon.specs.Standing.{StandsWithin}
use Rattle.mau_plain.specs.Parts.{IsOverList}
use Rattle.mau_plain.proofs.Gathering.{gathers_more, gathers_grown, gathers_then}
use Rattle.mau_plain.proofs.parts.push_list.Goals as goal

pub returns-in_ok-push-in-Ok-clause-ok : goal.returns-in_ok-push-in-Ok-clause-ok
returns-in_ok-push-in-Ok-clause-ok c =
    let th = theory_at c.args.sig.now in
    let new = c.from_list.new.store in
    let id = c.in-Ok.id in
    let ts = trees_at c.args.store.now (numbers c.args.items.now) in
    gathers_then th c.args.store.now new c.args.out.now.items c.push.new.self.items (λ t. IsIn t (trees_at new (numbers (id ∷ [])))) (IsOverList th c.args.op.0 ts)
    (λ t q. inl (q.0 ∙ sym c.in-Ok.ensures.ok))
    (gathers_more th c.args.store.now new c.args.out.now.items (id ∷ []) c.push.new.self.items c.from_list.ensures.extends c.requires.out
    (All-cons (StandsWithin th new) id.0 [] c.in-Ok.ensures.within (All-nil (StandsWithin th new))) c.in_ok-push-in-Ok.ensures.items)

pub returns-in-Err-TooDeep-clause-ok : goal.returns-in-Err-TooDeep-clause-ok
returns-in-Err-TooDeep-clause-ok c =
    let th = theory_at c.args.sig.now in
    let ts = trees_at c.args.store.now (numbers c.args.items.now) in
    gathers_then th c.args.store.now c.from_list.new.store c.args.out.now.items c.args.out.now.items (λ t. ⊥) (IsOverList th c.args.op.0 ts)
    (λ t q. let d : depth t ≡ depth (norm th (node c.args.op.0 ts)) = ap depth q.0 in let low = q.1.shallow in let deep : MAX_DEPTH < depth (norm th (node c.args.op.0 ts)) = rw c.in-Err-TooDeep.field-0-is at c.in-Err-TooDeep.ensures.refused in absurd (omega arith))
    (gathers_grown th c.args.store.now c.from_list.new.store c.args.out.now.items c.from_list.ensures.extends c.requires.out)

pub returns-in-Err-Overflow-clause-ok : goal.returns-in-Err-Overflow-clause-ok
returns-in-Err-Overflow-clause-ok c =
    let th = theory_at c.args.sig.now in
    let ts = trees_at c.args.store.now (numbers c.args.items.now) in
    gathers_then th c.args.store.now c.from_list.new.store c.args.out.now.items c.args.out.now.items (λ t. ⊥) (IsOverList th c.args.op.0 ts)
    (λ t q. let d : holds_overflow th t ≡ holds_overflow th (norm th (node c.args.op.0 ts)) = ap (holds_overflow th) q.0 in let no = q.1.no_overflow in let yes : (depth (norm th (node c.args.op.0 ts)) ≤ MAX_DEPTH) × (holds_overflow th (norm th (node c.args.op.0 ts)) ≡ true) = rw c.in-Err-Overflow.field-0-is at c.in-Err-Overflow.ensures.refused in let held = yes.1 in absurd (cc))
    (gathers_grown th c.args.store.now c.from_list.new.store c.args.out.now.items c.from_list.ensures.extends c.requires.out)
