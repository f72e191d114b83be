use Rattle.std.proofs.Common.{◌≡◌, ◌<◌, ◌-◌, ◌==◌, ℕ, List, [], ◌∷◌, length, All, Contains, Bool, true, false, get_or, sym, ◌∙◌, ap, subst, arith, eqb-true}
use Rattle.mau_terms.specs.Tree.{Tree}
use Rattle.mau_terms.specs.declared.ids.TermId.{TermId}
use Rattle.mau_signature.specs.Signature.{theory_at}
use Rattle.mau_store.specs.Trees.{tree_at, trees_at}
use Rattle.mau_store.specs.View.{numbers}
use Rattle.mau_store.specs.Node.{Node}
use Rattle.mau_terms.specs.declared.theory.Theory.{Theory}
use Rattle.mau_canon.specs.Standing.{StandWithin}
use Rattle.mau_canon.proofs.Standing.{stand_at}
use Rattle.mau_listing.specs.Asked.{matcher_in}
use Rattle.mau_extend.specs.Widened.{around, context_list, narrowed}
use Rattle.mau_extend.proofs.Ends.{around_ends, none_around, terms_around}
use Rattle.mau_extend.proofs.narrowed.narrowed.Goals as goal

three : (nodes : List Node) (t : Theory) (f : ℕ) (h k : Bool) (l r : Tree) (left right values : List TermId) → trees_at nodes (numbers left) ≡ context_list h t f l → trees_at nodes (numbers right) ≡ context_list k t f r
    → matcher_in nodes (record { left = left; right = right; values = values }) ≡ narrowed h k t f l (trees_at nodes (numbers values)) r
three nodes t f h k l r left right values e d = λ i. record { left = e i; right = d i; values = trees_at nodes (numbers values) }

some_there : (xs : List TermId) → (length xs == 0) ≡ false → 0 < length xs
some_there [] e = cc
some_there (x ∷ xs) e = omega arith

none_there : (xs : List TermId) → (length xs == 0) ≡ true → length xs ≡ 0
none_there xs e = eqb-true (length xs) 0 e

pub context_of-left-requires-clause-within : goal.context_of-left-requires-clause-within
context_of-left-requires-clause-within c =
    let xs = c.items-values.result.now in
    stand_at (theory_at c.args.sig.now) c.args.store.now xs 0 (record { 0 = 0 }) (some_there xs (sym c.is_empty.ensures ∙ c.if-is_empty.false))
    (subst (λ (us : List TermId). StandWithin (theory_at c.args.sig.now) c.args.store.now (numbers us)) (sym c.items-values.ensures) c.requires.within)

pub context_of-right-requires-clause-within : goal.context_of-right-requires-clause-within
context_of-right-requires-clause-within c =
    let xs = c.items-values.result.now in
    let some = some_there xs (sym c.is_empty.ensures ∙ c.if-is_empty.false) in
    stand_at (theory_at c.args.sig.now) c.args.store.now xs (length xs - 1) (record { 0 = 0 }) (omega (arith, some))
    (subst (λ (us : List TermId). StandWithin (theory_at c.args.sig.now) c.args.store.now (numbers us)) (sym c.items-values.ensures) c.requires.within)

pub returns-then-is_empty-clause-narrowed : goal.returns-then-is_empty-clause-narrowed
returns-then-is_empty-clause-narrowed c =
    let nodes = c.args.store.now in
    let h = c.args.shape.left in
    let k = c.args.shape.right in
    let t = theory_at c.args.sig.now c.args.shape.op.0 in
    let l = c.requires.around.0 in
    let r = c.requires.around.1 in
    let vs = c.requires.around.2 in
    let e : c.args.found.now.values ≡ around h k l vs r = c.requires.around.3 in
    let middle : c.middle-middle.result.now ≡ vs = c.middle-middle.ensures.middle l r vs (c.items-values.ensures ∙ e) in
    let empty = none_there c.items-values.result.now (sym c.is_empty.ensures ∙ c.if-is_empty.true) in
    let none = none_around h k l vs r (ap (λ (us : List TermId). length us) (sym (c.items-values.ensures ∙ e)) ∙ empty) in
    let copy : c.in_ok-copied.field-0 ≡ vs = c.in_ok-copied.ensures ∙ middle in
    let no_left : c.new-then-is_empty.result ≡ [] = c.new-then-is_empty.ensures ∙ c.new.ensures.items in
    let no_right : c.new-then-is_empty-3.result ≡ [] = c.new-then-is_empty-3.ensures ∙ c.new-then-is_empty-2.ensures.items in
    record {
      left = tree_at nodes l.0;
      right = tree_at nodes r.0;
      values =
          ap (λ (us : List TermId). trees_at nodes (numbers us)) e ∙ terms_around nodes h k l vs r
          ∙ ap (λ (us : List TermId). around h k (tree_at nodes l.0) (trees_at nodes (numbers us)) (tree_at nodes r.0)) (sym copy);
      same = three nodes t c.args.shape.op.0 h k (tree_at nodes l.0) (tree_at nodes r.0) c.new-then-is_empty.result c.new-then-is_empty-3.result c.in_ok-copied.field-0
          (ap (λ (us : List TermId). trees_at nodes (numbers us)) no_left ∙ ap (λ x. context_list x t c.args.shape.op.0 (tree_at nodes l.0)) (sym none.0))
          (ap (λ (us : List TermId). trees_at nodes (numbers us)) no_right ∙ ap (λ x. context_list x t c.args.shape.op.0 (tree_at nodes r.0)) (sym none.1));
    }

pub returns-clause-narrowed : goal.returns-clause-narrowed
returns-clause-narrowed c =
    let nodes = c.args.store.now in
    let h = c.args.shape.left in
    let k = c.args.shape.right in
    let t = theory_at c.args.sig.now c.args.shape.op.0 in
    let values = c.args.found.now.values in
    let xs = c.items-values.result.now in
    let d : TermId = record { 0 = 0 } in
    let l = c.requires.around.0 in
    let r = c.requires.around.1 in
    let vs = c.requires.around.2 in
    let e : xs ≡ around h k l vs r = c.items-values.ensures ∙ c.requires.around.3 in
    let middle : c.middle-middle.result.now ≡ vs = c.middle-middle.ensures.middle l r vs e in
    let copy : c.in_ok-copied-4.field-0 ≡ vs = c.in_ok-copied-4.ensures ∙ middle in
    let first = get_or xs 0 d in
    let last = get_or xs (length xs - 1) d in
    let ends : xs ≡ around h k first vs last = subst (λ (us : List TermId). us ≡ around h k (get_or us 0 d) vs (get_or us (length us - 1) d)) (sym e) (around_ends h k l vs r d) in
    record {
      left = tree_at nodes first.0;
      right = tree_at nodes last.0;
      values =
          ap (λ (us : List TermId). trees_at nodes (numbers us)) (sym c.items-values.ensures ∙ ends) ∙ terms_around nodes h k first vs last
          ∙ ap (λ (us : List TermId). around h k (tree_at nodes first.0) (trees_at nodes (numbers us)) (tree_at nodes last.0)) (sym copy);
      same = three nodes t c.args.shape.op.0 h k (tree_at nodes first.0) (tree_at nodes last.0) c.in_ok-copied-2.field-0 c.in_ok-copied-3.field-0 c.in_ok-copied-4.field-0
          (ap (λ (us : List TermId). trees_at nodes (numbers us)) c.in_ok-copied-2.ensures ∙ c.context_of-left.ensures.list)
          (ap (λ (us : List TermId). trees_at nodes (numbers us)) c.in_ok-copied-3.ensures ∙ c.context_of-right.ensures.list);
    }

pub returns-clause-among : goal.returns-clause-among
returns-clause-among c =
    subst (λ (us : List TermId). All (Contains c.args.found.now.values) us) (sym c.in_ok-copied-4.ensures)
    (subst (λ (us : List TermId). All (Contains us) c.middle-middle.result.now) c.items-values.ensures c.middle-middle.ensures.among)
