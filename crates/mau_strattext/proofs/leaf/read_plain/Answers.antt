use Rattle.std.proofs.Common.{[], ◌∙◌, sym, subst}
use Rattle.mau_shapes.specs.declared.pieces.Piece.TheVariants.{Plain}
use Rattle.mau_strattext.specs.Reads.{LeafReads, idle_reads, fail_reads, all_reads}
use Rattle.mau_strattext.proofs.leaf.read_plain.Goals as goal

pub returns-in-idle-clause-reads : goal.returns-in-idle-clause-reads
returns-in-idle-clause-reads c = λ ns.
    subst (LeafReads c.args.setting.now c.args.under_top (Plain c.args.place) [] ns ns) (sym c.new.ensures) (idle_reads c.args.place ns (sym c.word.ensures ∙ c.in-idle.is))

pub returns-in-fail-clause-reads : goal.returns-in-fail-clause-reads
returns-in-fail-clause-reads c = λ ns.
    subst (LeafReads c.args.setting.now c.args.under_top (Plain c.args.place) [] ns ns) (sym c.new-in-fail.ensures)
    (fail_reads c.args.place ns (sym c.word.ensures ∙ c.in-fail.is))

pub returns-in-all-clause-reads : goal.returns-in-all-clause-reads
returns-in-all-clause-reads c = λ ns.
    subst (LeafReads c.args.setting.now c.args.under_top (Plain c.args.place) [] ns ns) (sym c.new-in-all.ensures)
    (all_reads c.args.place ns (sym c.word.ensures ∙ c.in-all.is))
