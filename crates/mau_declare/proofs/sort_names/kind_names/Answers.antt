use Rattle.std.proofs.Common.{◌+◌, ◌++◌, ◌∷◌, [], map, ap, ap₂, sym, ◌∙◌, add-one}
use Rattle.std.specs.List.{range_with_len}
use Rattle.std.proofs.lemmas.List.{map-append}
use Rattle.mau_declare.specs.Flattened.{kind_name}
use Rattle.mau_declare.proofs.Ranges.{range_suc}
use Rattle.mau_declare.proofs.sort_names.kind_names.Goals as goal

pub loop-i-preserved : goal.loop-i-preserved
loop-i-preserved c =
    let a = c.args.poset.now.sorts in
    let i = c.loop-i.i in
    let f = kind_name c.args.sorts.now c.args.poset.now in
    c.in_ok-push.ensures.items
    ∙ ap₂ (λ xs x. xs ++ x ∷ []) c.loop-i.invariant (c.in_ok-new.ensures ∙ c.as_str.ensures.value ∙ c.in_ok-name.ensures ∙ ap (λ s. f (s + i)) c.sorts.ensures.value)
    ∙ sym (ap (λ k. map f (range_with_len a k)) (add-one i) ∙ ap (map f) (range_suc a i) ∙ map-append f (range_with_len a i) ((a + i) ∷ []))
