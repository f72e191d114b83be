use Rattle.std.proofs.Common.{sym, subst}
use Rattle.std.specs.Prelude.{All}
use Rattle.std.proofs.lemmas.List.Elements.{All-append}
use Rattle.mau_signature.specs.Faults.{HasSorts}
use Rattle.mau_module.proofs.declarations.all_declarations.Goals as goal
use Rattle.mau_module.proofs.declarations.all_declarations.Goals.{then-has_part+in_ok-add_truth, else-has_part}

pub returns-clause-within : goal.returns-clause-within
returns-clause-within c =
    let both = subst (All (HasSorts c.args.poset.now)) (sym c.in_ok-add_copies.ensures) (All-append (HasSorts c.args.poset.now) c.in_ok-decls.decls.items c.args.own.now c.in_ok-decls.ensures.sorts c.requires.sorts) in
    elim c.if-has_part.branch [
      | then-has_part+in_ok-add_truth w ↦ rw w.decls-is (w.in_ok-add_truth.ensures.sorts both)
      | else-has_part w ↦ rw w.decls-is both
    ]
