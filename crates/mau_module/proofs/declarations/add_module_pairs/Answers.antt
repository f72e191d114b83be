use Rattle.std.proofs.Common.{◌≡◌, ◌<◌, ℕ, length, get_or, map, arith, sym, ap, subst, ◌∙◌}
use Rattle.std.specs.Prelude.{All}
use Rattle.std.proofs.lemmas.List.{length-map}
use Rattle.std.proofs.lemmas.List.Elements.{All-push}
use Rattle.mau_declare.proofs.Counting.{added_more}
use Rattle.mau_module.specs.Numbering.{number_in, pair_to}
use Rattle.mau_module.proofs.Pairs.{pair_in_table, pair_within}
use Rattle.mau_module.proofs.declarations.add_module_pairs.Goals as goal

pub loop-pair-preserved : goal.loop-pair-preserved
loop-pair-preserved c =
    let l : c.loop-pair.pair-index < length c.own_pairs-pair-items.result.now = omega arith in
    let table : c.deref.result.now ≡ map (number_in c.args.names.now) c.args.«module».now.sorts =
    c.deref.ensures.value ∙ c.in_ok-table.ensures.table ∙ ap (map (number_in c.args.names.now)) c.sorts.ensures.names in
    let named = c.sorts.ensures.named in
    let names = ap length c.sorts.ensures.names in
    let bounds = c.own_pairs-pair-items.ensures.within c.loop-pair.pair-index (0, 0) l in
    let reach = ap length table ∙ length-map c.args.«module».now.sorts (number_in c.args.names.now) in
    let value : c.pair_in.result ≡ pair_to c.args.«module».now.sorts c.args.names.now (get_or c.own_pairs-pair-items.result.now c.loop-pair.pair-index (0, 0)) =
    c.pair_in.ensures ∙ pair_in_table c.args.«module».now.sorts c.args.names.now c.deref.result.now (get_or c.own_pairs-pair-items.result.now c.loop-pair.pair-index (0, 0)) table (omega (arith, bounds.0, named, names)) (omega (arith, bounds.1, named, names)) in
    record {
      pairs = added_more (pair_to c.args.«module».now.sorts c.args.names.now) c.own_pairs-pair-items.result.now c.loop-pair.pair-index (0, 0) c.args.pairs.now.items c.loop-pair.pairs.items c.push.new.self.items c.pair_in.result l
          c.loop-pair.invariant.pairs c.in_ok-push.ensures.items value;
      within = λ old. subst (All (λ (p : ℕ × ℕ). (p.0 < length c.args.names.now) × (p.1 < length c.args.names.now))) (sym c.in_ok-push.ensures.items)
          (All-push (λ (p : ℕ × ℕ). (p.0 < length c.args.names.now) × (p.1 < length c.args.names.now)) c.loop-pair.pairs.items c.pair_in.result (c.loop-pair.invariant.within old)
          (pair_within (length c.args.names.now) c.deref.result.now (get_or c.own_pairs-pair-items.result.now c.loop-pair.pair-index (0, 0)) c.pair_in.result
          (subst (All (λ s. s < length c.args.names.now)) (sym c.deref.ensures.value) c.in_ok-table.ensures.within) (omega (arith, bounds.0, named, names, reach)) (omega (arith, bounds.1, named, names, reach)) c.pair_in.ensures));
    }
