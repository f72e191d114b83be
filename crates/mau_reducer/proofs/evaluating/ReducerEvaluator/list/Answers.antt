use Rattle.std.proofs.Common.{false}
use Rattle.mau_store.specs.Trees.{tree_at}
use Rattle.mau_api.proofs.KeepsDerived.{listings_keep_derived}
use Rattle.mau_deriving.proofs.Lawful.{heads}
use Rattle.mau_reducer.specs.LaterStates.{identities_grown}
use Rattle.mau_reducer.proofs.evaluating.ReducerEvaluator.list.Goals as goal

pub returns-clause-fits : goal.returns-clause-fits
returns-clause-fits g c =
    let w = c.args.self.now in
    let p = w.program.now in
    let fit = c.requires.fits.0 in
    let e = c.next-found.ensures in (
      record {
        basis = fit.basis;
        derived =
            listings_keep_derived p (g.N.Natives.operators w.natives) w.limit false (heads p fit.basis.lawful fit.basis.reducible.lawful (g.N.Natives.operators w.natives)) fit.basis.reducible.accepted
            c.args.store.now c.next-found.new.store c.has_nodes.ensures e.extends w.table c.next-found.new.sorts e.kept fit.derived (tree_at c.args.store.now (g.K.Lister.asked c.args.listing.now).subject.0) e.entries e.over
            (e.table fit.derived.known fit.derived.declared) (e.closed fit.derived.closed);
        identities = λ k. identities_grown p.sig c.args.store.now c.next-found.new.store w.table c.next-found.new.sorts e.extends e.kept (fit.identities k);
      },
      c.requires.fits.1,
    )
