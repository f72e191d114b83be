use Rattle.std.proofs.Common.{◌≡◌, ◌<◌, ◌++◌, ◌∷◌, [], length, true, arith, sym, ap, ap₂, subst, ◌∙◌}
use Rattle.std.proofs.lemmas.List.{map_more}
use Rattle.std.proofs.lemmas.List.Elements.{All-push}
use Rattle.std.proofs.lemmas.Option.{get_or_from_slice_get}
use Rattle.std.specs.Prelude.{All}
use Rattle.mau_declare.specs.Names.{has_name}
use Rattle.mau_module.specs.Numbering.{number_in}
use Rattle.mau_module.proofs.numbering.sort_table.Goals as goal

pub loop-number-preserved : goal.loop-number-preserved
loop-number-preserved c =
    let n = c.loop-number.number in
    let l : n < length c.args.olds.now = omega (arith, c.len-number-end.ensures.count, c.loop-number-test.true) in
    let e = get_or_from_slice_get c.args.olds.now n c.in-Some.name.now [] (sym (rw c.in-Some.is at c.get.ensures)) in
    let there : has_name c.args.news.now c.in-Some.name.now ≡ true = subst (λ x. has_name c.args.news.now x ≡ true) e (c.requires.known n [] l) in
    record {
      table = c.in_ok-push-in-Some.ensures.items ∙ ap₂ (λ xs x. xs ++ x ∷ []) c.loop-number.invariant.table (c.number_in.ensures.value ∙ ap (number_in c.args.news.now) (sym e))
          ∙ sym (map_more (number_in c.args.news.now) c.args.olds.now n [] l);
      within = subst (All (λ s. s < length c.args.news.now)) (sym c.in_ok-push-in-Some.ensures.items) (All-push (λ s. s < length c.args.news.now) c.loop-number.table.items c.number_in.result c.loop-number.invariant.within (c.number_in.ensures.within there));
    }
