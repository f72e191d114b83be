use Rattle.std.proofs.Common.{◌≡◌, ◌≤◌, take, max, slice_get}
use Rattle.std.specs.Prelude.{fold}
use Rattle.std.specs.Option.{option_map_or}
use Rattle.mau_module.specs.Modules.{ModuleOf}
use Rattle.mau_module.specs.declared.TheConstants.{MAX_DEPTH}
use Rattle.mau_module.proofs.include.depth_over.Given as goal

abbrev pub invariant-loop-number : goal.invariant-loop-number
invariant-loop-number l = record {
  value : l.deepest ≡ fold (λ d i. max d (option_map_or (λ (m : ModuleOf). m.depth) (slice_get l.library i) 0)) 0 (take l.number-index l.imports);
  limit : l.deepest ≤ MAX_DEPTH;
}
