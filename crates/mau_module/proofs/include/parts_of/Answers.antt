use Rattle.std.proofs.Common.{◌<◌, [], length, arith, sym, ap, ap₂, subst, ◌∙◌}
use Rattle.std.specs.Prelude.{All, fold}
use Rattle.std.specs.Option.{option_map_or}
use Rattle.std.proofs.lemmas.List.Sums.{fold_more}
use Rattle.mau_module.specs.Modules.{ModuleOf}
use Rattle.mau_module.specs.Included.{with_part, of_module}
use Rattle.mau_module.proofs.Parts.{with_all}
use Rattle.mau_module.proofs.include.parts_of.Goals as goal

pub loop-number-preserved : goal.loop-number-preserved
loop-number-preserved c =
    let l : c.loop-number.number-index < length c.args.imports.now = omega arith in
    record {
      value = c.in_ok-add_parts.ensures ∙ ap₂ (fold with_part) c.loop-number.invariant.value (c.parts.ensures ∙ sym (ap (λ r. option_map_or (λ (m : ModuleOf). m.parts) r []) c.«module».ensures.there))
          ∙ sym (fold_more (λ ps i. fold with_part ps (of_module c.args.library.now (λ m. m.parts) i)) [] c.args.imports.now c.loop-number.number-index 0 l);
      within = subst (All (λ p. p < length c.args.library.now)) (sym c.in_ok-add_parts.ensures)
          (with_all (λ p. p < length c.args.library.now) c.parts.result.now c.loop-number.parts.items c.loop-number.invariant.within (subst (All (λ p. p < length c.args.library.now)) (sym c.parts.ensures) c.«module».ensures.parts));
    }
