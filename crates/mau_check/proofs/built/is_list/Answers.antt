use Rattle.std.proofs.Common.{◌≡◌, ◌+◌, length, take, get_or, add-one, sym, ap, ◌∙◌, arith, refl}
use Rattle.std.proofs.lemmas.List.{take_all, length-map}
use Rattle.mau_terms.specs.Norm.{pieces}
use Rattle.mau_terms.specs.declared.ids.TermId.{TermId}
use Rattle.mau_signature.specs.Signature.{theory_at}
use Rattle.mau_store.specs.Trees.{tree_at}
use Rattle.mau_store.specs.View.{numbers}
use Rattle.mau_check.specs.declared.kept.Holes.TheVariants.{Absent}
use Rattle.mau_check.proofs.Overs.{kept_at_place}
use Rattle.mau_check.proofs.BuiltOf.{count, norms_kept, kept_norms, count_one, count_least}
use Rattle.mau_check.proofs.built.is_list.Goals as goal

pub list_of-more-requires-clause-there : goal.list_of-more-requires-clause-there
list_of-more-requires-clause-there c =
    (kept_at_place c.args.sig.now c.args.store.now c.args.values.now c.requires.values.0 c.loop-value.value-index (record { id = record { 0 = 0 }; kind = 0; holes = Absent }) c.requires.values.1 c.loop-value-test.true).2.there

pub overflow_add-count : goal.overflow_add-count
overflow_add-count c = let n = c.enough.ensures.no c.if-enough.false in omega (arith, n)

pub loop-value-preserved : goal.loop-value-preserved
loop-value-preserved c =
    let s = c.args.sig.now in
    let nodes = c.args.store.now in
    let f = c.args.op.0 in
    let i = c.loop-value.value-index in
    let ks = c.args.values.now in
    let a = (theory_at s f).assoc in
    let id = (theory_at s f).id in
    let pieces_are : length c.list_of-more.result.now ≡ length (pieces a id f (tree_at nodes (get_or ks i (record { id = record { 0 = 0 }; kind = 0; holes = Absent })).id.0)) =
    sym (length-map (numbers c.list_of-more.result.now) (tree_at nodes) ∙ length-map c.list_of-more.result.now (λ (x : TermId). x.0)) ∙ ap length c.list_of-more.ensures.list in
    let one = count_one a id f nodes ks i (record { id = record { 0 = 0 }; kind = 0; holes = Absent }) c.loop-value-test.true in
    let sum : c.loop-value.count + length c.list_of-more.result.now ≡ count a id f (norms_kept nodes (take (i + 1) ks)) =
    omega (arith, c.loop-value.invariant.counted, pieces_are, one) ∙ ap (λ n. count a id f (norms_kept nodes (take n ks))) (sym (add-one i)) in
    record { counted = sum; few = c.enough.ensures.no c.if-enough.false }

pub returns-then-enough : goal.returns-then-enough
returns-then-enough c ts h =
    let s = c.args.sig.now in
    let nodes = c.args.store.now in
    let f = c.args.op.0 in
    let i = c.loop-value.value-index in
    let ks = c.args.values.now in
    let a = (theory_at s f).assoc in
    let id = (theory_at s f).id in
    let pieces_are : length c.list_of-more.result.now ≡ length (pieces a id f (tree_at nodes (get_or ks i (record { id = record { 0 = 0 }; kind = 0; holes = Absent })).id.0)) =
    sym (length-map (numbers c.list_of-more.result.now) (tree_at nodes) ∙ length-map c.list_of-more.result.now (λ (x : TermId). x.0)) ∙ ap length c.list_of-more.ensures.list in
    let one = count_one a id f nodes ks i (record { id = record { 0 = 0 }; kind = 0; holes = Absent }) c.loop-value-test.true in
    let sum : c.loop-value.count + length c.list_of-more.result.now ≡ count a id f (norms_kept nodes (take (i + 1) ks)) =
    omega (arith, c.loop-value.invariant.counted, pieces_are, one) ∙ ap (λ n. count a id f (norms_kept nodes (take n ks))) (sym (add-one i)) in
    let least = count_least a id f nodes ks (i + 1) in
    let all = ap (count a id f) (kept_norms s nodes ks ts h) in
    ((λ t. let n = c.enough.ensures.yes c.if-enough.true in omega (arith, n, sum, least, all)), λ g. refl)

pub returns : goal.returns
returns c ts h =
    let s = c.args.sig.now in
    let nodes = c.args.store.now in
    let f = c.args.op.0 in
    let ks = c.args.values.now in
    let a = (theory_at s f).assoc in
    let id = (theory_at s f).id in
    let whole = ap (λ ls. count a id f (norms_kept nodes ls)) (take_all c.loop-value.value-index ks c.loop-value-test.false) in
    let all = ap (count a id f) (kept_norms s nodes ks ts h) in
    ((λ t. absurd cc), λ l. absurd (omega (arith, l, c.loop-value.invariant.counted, c.loop-value.invariant.few, whole, all)))
