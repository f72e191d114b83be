use Rattle.std.proofs.Common.{[], ◌∷◌, ◌++◌, map, ap, ap₂, sym, ◌∙◌}
use Rattle.std.proofs.lemmas.List.{map-append}
use Rattle.std.proofs.lemmas.List.Elements.{All-push, All-same}
use Rattle.mau_signature.specs.Attributes.{with_united}
use Rattle.mau_signature.specs.Built.{declarations_in, IsEntry}
use Rattle.mau_signature.proofs.build.enter_all.Goals as goal

pub loop-group-preserved : goal.loop-group-preserved
loop-group-preserved c =
    let e = c.in_ok-enter.field-0 in (
      ap (map declarations_in) c.in_ok-push.ensures.items
          ∙ map-append declarations_in c.loop-group.entries.items (e ∷ [])
          ∙ ap₂ (λ xs ys. xs ++ ys) c.loop-group.invariant.0 (ap (λ x. x ∷ []) c.in_ok-enter.ensures.declarations)
          ∙ sym (map-append with_united c.loop-group.yielded (c.in-Some.group ∷ [])),
      All-same (IsEntry c.args.poset.now c.args.names.now) c.push.new.self.items (c.loop-group.entries.items ++ e ∷ []) c.in_ok-push.ensures.items
          (All-push (IsEntry c.args.poset.now c.args.names.now) c.loop-group.entries.items e c.loop-group.invariant.1 c.in_ok-enter.ensures.entry),
    )
