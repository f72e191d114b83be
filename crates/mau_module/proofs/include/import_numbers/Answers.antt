use Rattle.std.proofs.Common.{◌≡◌, ◌<◌, ◌++◌, ◌∷◌, [], List, ℕ, length, arith, sym, ap, subst, ◌∙◌, Some}
use Rattle.std.specs.Prelude.{All}
use Rattle.std.proofs.lemmas.List.Elements.{All-push}
use Rattle.mau_module.specs.Included.{first_unknown}
use Rattle.mau_module.specs.declared.fault.ModuleFault.TheVariants.{UnknownModule}
use Rattle.mau_declare.specs.Imports.{imports}
use Rattle.mau_module.proofs.FaultLemmas.{if_fault_then}
use Rattle.mau_module.proofs.Imports.{none_more, numbers_more, known_more, unknown_found}
use Rattle.mau_module.proofs.include.import_numbers.Goals as goal
use Rattle.mau_module.proofs.include.import_numbers.Goals.{in-Some+in-Some-find+in_ok-push-in-Some-find, in-None}

pub returns-in-None-find-clause-unknown : goal.returns-in-None-find-clause-unknown
returns-in-None-find-clause-unknown c =
    let first : first_unknown c.args.library.now (imports c.args.words.now c.args.elements.now) ≡ Some c.in-Some.name.now =
    unknown_found c.args.library.now c.args.words.now c.args.elements.now c.loop-element.element-index c.element-item.result (omega arith) c.element-item.is
    c.in-Some.name.now (sym (rw c.in-Some.is at c.import_name.ensures)) (sym c.find.ensures.number ∙ c.in-None-find.is) c.loop-element.invariant.known
    in if_fault_then (λ f. f ≡ UnknownModule c.in-Some.name.now)
    (λ f. (name : List ℕ) × (f ≡ UnknownModule name) × (first_unknown c.args.library.now (imports c.args.words.now c.args.elements.now) ≡ Some name))
    (λ f e. (c.in-Some.name.now, e, first)) c.unknown_module.result c.unknown_module.ensures

pub loop-element-preserved : goal.loop-element-preserved
loop-element-preserved c =
    let l : c.loop-element.element-index < length c.args.elements.now = omega arith in
    elim c.match-import_name.branch [
      | in-Some+in-Some-find+in_ok-push-in-Some-find w ↦
          let named = sym w.find.ensures.number ∙ w.in-Some-find.is in
          let here = sym (rw w.in-Some.is at c.import_name.ensures) in
          record {
            value = rw w.numbers-is (w.in_ok-push-in-Some-find.ensures.items ∙ ap (λ xs. xs ++ w.in-Some-find.number ∷ []) c.loop-element.invariant.value
                ∙ sym (numbers_more c.args.library.now c.args.words.now c.args.elements.now c.loop-element.element-index c.element-item.result l c.element-item.is w.in-Some.name.now here w.in-Some-find.number named));
            known = known_more c.args.library.now c.args.words.now c.args.elements.now c.loop-element.element-index c.element-item.result l c.element-item.is w.in-Some.name.now here w.in-Some-find.number named c.loop-element.invariant.known;
            within = rw w.numbers-is (subst (All (λ i. i < length c.args.library.now)) (sym w.in_ok-push-in-Some-find.ensures.items) (All-push (λ i. i < length c.args.library.now) c.loop-element.numbers.items w.in-Some-find.number c.loop-element.invariant.within (rw w.in-Some-find.is at w.find.ensures.within)));
          }
      | in-None w ↦
          let same = none_more c.args.library.now c.args.words.now c.args.elements.now c.loop-element.element-index c.element-item.result l c.element-item.is (sym (rw w.in-None.is at c.import_name.ensures)) in
          record {
            value = rw w.numbers-is (rw same c.loop-element.invariant.value);
            known = rw same c.loop-element.invariant.known;
            within = rw w.numbers-is c.loop-element.invariant.within;
          }
    ]
