use Rattle.std.proofs.Common.{◌∙◌, ap, sym, subst}
use Rattle.std.specs.Option.{option_map}
use Rattle.mau_terms.specs.declared.ids.TermId.{TermId}
use Rattle.mau_settling.specs.declared.settling.Settling.{Settling}
use Rattle.mau_api.specs.Programs.{membership_of}
use Rattle.mau_deriving.proofs.Lawful.{mapped_at}
use Rattle.mau_reducer.specs.Worlds.{basis_of}
use Rattle.mau_reducer.specs.Handles.{IsKnownAsking, IsAskingWay}
use Rattle.mau_reducer.proofs.Settlings.{answered}
use Rattle.mau_reducer.proofs.world.ReducerWorld.told.Goals as goal

pub returns-in-Some : goal.returns-in-Some
returns-in-Some g c =
    let b = basis_of g.N.Natives.operators c.args.self.now in
    let nodes = c.args.arg2.now in
    let table = c.args.self.now.table in
    let σ = c.requires.answered.0 in
    let d = c.deref_mut.result.now in
    let k : IsKnownAsking b nodes table c.args.arg3.0 c.args.arg4 σ d =
    subst (IsKnownAsking b nodes table c.args.arg3.0 c.args.arg4 σ) (sym c.deref_mut.ensures.value)
    (subst (λ o. IsAskingWay b nodes table c.args.arg3.0 c.args.arg4 σ (option_map (λ x. x.value) o)) c.in-Some.is c.requires.answered.1) in
    record {
      known = record {
        own = ap (λ (x : TermId). x.0) c.told.ensures.term ∙ k.known.own;
        settling = c.told.ensures.settling b.program nodes table k.known.settling;
        derives =
            c.told.ensures.derives b.program b.hooks b.limit nodes (membership_of k.membership) k.place k.question k.asks (mapped_at membership_of b.program.memberships k.place k.membership k.there)
            (answered b nodes table c.args.arg3.0 c.args.arg4 σ d k c.args.holds c.requires.answered.2) k.known.derives;
      };
    }
