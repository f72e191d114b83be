use Rattle.std.proofs.Common.{◌≡◌, ◌<◌, ◌∷◌, [], length, map, sym, ap, ◌∙◌, subst, arith}
use Rattle.std.proofs.lemmas.List.{map-append}
use Rattle.mau_terms.specs.declared.ids.TermId.{TermId}
use Rattle.mau_store.specs.View.{numbers}
use Rattle.mau_sorts.specs.Table.{IsSettled, IsOrdered, kept_in}
use Rattle.mau_sorts.proofs.Settling.{one_settled, ordered_more}
use Rattle.mau_sorts.proofs.table.SortTable.enter.Goals as goal

pub invariant_of-self-in-Ok : goal.invariant_of-self-in-Ok
invariant_of-self-in-Ok c =
    let old = kept_in c.self.inside.entries.items (numbers c.self.inside.order.items) (numbers c.self.inside.further.items) in
    ordered_more old _ c.args.id.0 [] (subst (λ t. ¬ IsSettled t c.args.id.0) (sym c.self.view_is) c.requires.unsettled)
    (one_settled c.self.inside.entries.items c.make_room.new.entries.items (numbers c.self.inside.order.items) (numbers c.push.new.self.items) (numbers c.self.inside.further.items) (numbers c.add_if.new.ids.items) c.args.id.0 c.args.set
    (omega (arith, c.requires.there, c.in_ok-make_room.ensures.room, c.len.ensures.counted)) c.in_ok-make_room.ensures.same
    (ap numbers c.in-Ok.ensures.items ∙ map-append (λ (x : TermId). x.0) c.self.inside.order.items (c.args.id ∷ [])) c.in_ok-add_if.ensures.kept)
    c.self.invariant
