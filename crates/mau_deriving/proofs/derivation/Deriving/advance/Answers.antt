use Rattle.std.proofs.Common.{◌≤◌, ◌+◌, length, refl, sym, ap, ◌∙◌, subst, arith}
use Rattle.mau_sorts.specs.SortSets.{AreSorts}
use Rattle.mau_deriving.specs.Derivations.{found_after}
use Rattle.mau_deriving.proofs.ListedAll.{grown_same}
use Rattle.mau_deriving.proofs.Kept.{asked_grown, at_place, advanced_in, sorts_after}
use Rattle.mau_deriving.proofs.derivation.Deriving.advance.Goals as goal

pub sort_at-sort-requires : goal.sort_at-sort-requires
sort_at-sort-requires g c = c.requires.there

pub returns-in_err-add_found-clause-grown : goal.returns-in_err-add_found-clause-grown
returns-in_err-add_found-clause-grown g c = grown_same c.args.program.now.sig c.args.store.now c.args.table.now c.args.self.now.term.0 c.requires.stands.can_be_asked.over

pub open-requires-clause-lawful : goal.open-requires-clause-lawful
open-requires-clause-lawful g c = c.requires.lawful

pub open-requires-clause-signature : goal.open-requires-clause-signature
open-requires-clause-signature g c = c.requires.signature

pub open-requires-clause-asked : goal.open-requires-clause-asked
open-requires-clause-asked g c = c.requires.stands.can_be_asked

pub returns-in_err-self-clause-grown : goal.returns-in_err-self-clause-grown
returns-in_err-self-clause-grown g c = c.open.ensures.grown

pub returns-clause-derives : goal.returns-clause-derives
returns-clause-derives g c = λ hooks limit d k.
    let z = at_place c.args.program.now.memberships c.args.self.now.at c.requires.there in
    advanced_in c.args.program.now c.requires.lawful c.requires.signature hooks limit c.args.store.now c.open.new.store c.args.table.now c.open.new.table c.open.ensures.grown.extends c.open.ensures.grown.kept c.open.ensures.grown.over
    c.args.self.now _ c.requires.stands c.requires.answered z.0 z.1 (λ f ts e. c.in_ok-self.ensures.open hooks limit f ts d e) refl refl refl refl
    (c.in_ok-add_found.ensures ∙ ap (found_after c.args.self.now.holds c.args.self.now.found.items) (c.sort_at-sort.ensures.value z.0 z.1)) k

pub returns-clause-stands : goal.returns-clause-stands
returns-clause-stands g c =
    let z = at_place c.args.program.now.memberships c.args.self.now.at c.requires.there in
    let next : c.args.self.now.at + 1 ≤ length c.args.program.now.memberships = omega (arith, c.requires.there) in
    record {
      can_be_asked = asked_grown c.args.program.now.sig c.args.store.now c.open.new.store c.args.table.now c.open.new.table c.open.ensures.grown.extends c.open.ensures.grown.kept c.open.ensures.grown.over c.args.self.now.term.0
          c.requires.stands.can_be_asked;
      at = next;
      asked = omega arith;
      found = subst (AreSorts c.args.program.now.sig.hierarchy)
          (sym (c.in_ok-add_found.ensures ∙ ap (found_after c.args.self.now.holds c.args.self.now.found.items) (c.sort_at-sort.ensures.value z.0 z.1)))
          (sorts_after c.args.program.now c.requires.lawful c.requires.signature c.args.self.now.at z.0 z.1 c.args.self.now.holds c.args.self.now.found.items c.requires.stands.found);
      sorted = c.in_ok-self.ensures.sorted;
    }

pub returns-clause-grown : goal.returns-clause-grown
returns-clause-grown g c = c.open.ensures.grown
