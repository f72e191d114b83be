use Rattle.std.proofs.Common.{◌+◌, ◌++◌, [], ◌∷◌, take, get_or, sym, subst, arith}
use Rattle.std.proofs.lemmas.List.{take_all, take_more}
use Rattle.mau_store.specs.Trees.{tree_at}
use Rattle.mau_sorts.specs.HasSort.{HasSort}
use Rattle.mau_logic.specs.Shown.{known_by}
use Rattle.mau_check.specs.declared.kept.Holes.TheVariants.{Absent}
use Rattle.mau_check.proofs.Numbers.{zip_push}
use Rattle.mau_check.proofs.Overs.{kept_at_place}
use Rattle.mau_check.proofs.Tells.{kept_over, AreSorted, sorted_values}
use Rattle.mau_check.proofs.sorts.all_shown.Goals as goal

pub is_shown-requires-clause-term : goal.is_shown-requires-clause-term
is_shown-requires-clause-term c =
    (kept_at_place c.args.sig.now c.args.store.now c.args.values.now c.requires.values.0 c.loop-i.i (record { id = record { 0 = 0 }; kind = 0; holes = Absent }) c.requires.values.1 (omega (arith, c.loop-i-test.true, c.requires.many))).2.there

pub is_shown-requires-clause-tree : goal.is_shown-requires-clause-tree
is_shown-requires-clause-tree c =
    let g = kept_at_place c.args.sig.now c.args.store.now c.args.values.now c.requires.values.0 c.loop-i.i (record { id = record { 0 = 0 }; kind = 0; holes = Absent }) c.requires.values.1 (omega (arith, c.loop-i-test.true, c.requires.many)) in
    kept_over c.args.sig.now c.operators.ensures.lawful c.args.store.now (get_or c.args.values.now c.loop-i.i (record { id = record { 0 = 0 }; kind = 0; holes = Absent })) g.0 g.2

pub loop-i-preserved : goal.loop-i-preserved
loop-i-preserved c =
    let s = c.args.sig.now in
    let nodes = c.args.store.now in
    let xs = c.args.variables.now in
    let ks = c.args.values.now in
    let i = c.loop-i.i in
    record {
      plain = c.is_shown.ensures.plain;
      sorted = λ us h.
          subst (λ zs. AreSorted s nodes us zs (take (i + 1) ks)) (sym (take_more xs i (record { index = 0; sort = 0 }) c.loop-i-test.true))
          (subst (λ zs. AreSorted s nodes us (take i xs ++ get_or xs i (record { index = 0; sort = 0 }) ∷ []) zs) (sym (take_more ks i (record { id = record { 0 = 0 }; kind = 0; holes = Absent }) (omega (arith, c.loop-i-test.true, c.requires.many))))
          (zip_push (λ x k. HasSort s (known_by s us) (tree_at nodes k.id.0) x.sort) (take i xs) (take i ks) (get_or xs i (record { index = 0; sort = 0 })) (get_or ks i (record { id = record { 0 = 0 }; kind = 0; holes = Absent })) (c.loop-i.invariant.sorted us h)
          (c.in_ok-shown.ensures.shown c.if-not-shown.false us h)));
    }

pub returns-clause-have : goal.returns-clause-have
returns-clause-have c t us vs h k =
    let s = c.args.sig.now in
    let nodes = c.args.store.now in
    let xs = c.args.variables.now in
    let ks = c.args.values.now in
    let i = c.loop-i.i in
    sorted_values s nodes us xs ks vs k
    (subst (λ zs. AreSorted s nodes us zs ks) (take_all i xs c.loop-i-test.false)
    (subst (λ zs. AreSorted s nodes us (take i xs) zs) (take_all i ks (omega (arith, c.loop-i-test.false, c.requires.many))) (c.loop-i.invariant.sorted us h)))
