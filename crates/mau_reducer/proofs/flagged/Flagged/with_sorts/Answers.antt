use Rattle.std.proofs.Common.{◌≡◌, true, false, sym, ◌∙◌, subst}
use Rattle.mau_api.specs.Meanings.{Meanings}
use Rattle.mau_api.specs.Answers.{IsDerivedTable}
use Rattle.mau_resting.specs.Rests.{AreResting}
use Rattle.mau_reducer.specs.declared.reducer.Reducer.{Reducer}
use Rattle.mau_reducer.specs.Worlds.{basis_of}
use Rattle.mau_reducer.specs.Handles.{words_of}
use Rattle.mau_reducer.specs.States.{IsFit}
use Rattle.mau_reducer.specs.MeantLaws.{meanings_are}
use Rattle.mau_reducer.proofs.flagged.Flagged.with_sorts.Goals as goal

pub returns-clause-fits : goal.returns-clause-fits
returns-clause-fits g c = λ nodes kept.
    let h = c.in_ok-reducer.ensures.fits nodes in (
      subst (λ (r : Reducer _ _ _). IsFit (basis_of g.N.Natives.operators r) nodes r.table r.begun) (sym c.new-2.ensures.world)
          (record {
            basis = h.0.basis;
            derived = subst (λ (m : Meanings). IsDerivedTable m nodes c.args.sorts)
                (sym (sym (meanings_are (basis_of g.N.Natives.operators c.in_ok-reducer.reducer)) ∙ c.in_ok-reducer.ensures.meanings)) kept;
            identities = λ (e : false ≡ true). absurd cc;
          }),
      h.1,
      subst (λ (r : Reducer _ _ _). AreResting (words_of g.L.Lister.with_context g.L.Lister.asked g.L.Lister.given g.L.Lister.is_for g.M.Lister.asked g.M.Lister.given g.M.Lister.is_for
          (basis_of g.N.Natives.operators r) nodes r.table) c.new-2.result.levels.items) (sym c.new-2.ensures.world) (c.new-2.ensures.resting nodes),
    )
