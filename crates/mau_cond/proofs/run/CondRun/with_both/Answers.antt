use Rattle.std.proofs.Common.{◌≡◌, sym, ap₂, ◌∙◌, subst}
use Rattle.std.proofs.lemmas.Option.{slice_get_within}
use Rattle.mau_program.specs.declared.statements.Fragment.TheVariants as Part
use Rattle.mau_store.specs.Trees.{tree_at}
use Rattle.mau_store.proofs.Standing.{tree_at-extends}
use Rattle.mau_evaluation.specs.Listing.{same_tree}
use Rattle.mau_cond.specs.Meaning.{Ends}
use Rattle.mau_cond.specs.Known.{AreToldAt}
use Rattle.mau_cond.specs.Steps.{decided, IsAnswered}
use Rattle.mau_cond.proofs.Steps.{both_equal, both_same, both_stations, both_awaits, answered_as, ends_as, if_ok, if_err, numbers_same}
use Rattle.mau_cond.proofs.run.CondRun.with_both.Goals as goal

pub decide-requires-clause-there : goal.decide-requires-clause-there
decide-requires-clause-there c =
    let p = c.args.self.now in
    let f = both_equal p c.requires.path c.args.left c.args.right c.requires.both in
    slice_get_within p.cond p.at (Part.Equal f.0 f.1) f.2

pub returns-clause-answered : goal.returns-clause-answered
returns-clause-answered c =
    let s = c.args.sig.now in
    let old = c.args.store.now in
    let new = c.decide.new.store in
    let table = c.args.sorts.now in
    let p = c.args.self.now in
    let v = c.args.left in
    let w = c.args.right in
    let f = both_equal p c.requires.path v w c.requires.both in
    let told = subst (AreToldAt s old table) c.requires.both c.requires.known.told in
    let there = told.0.0.within.there in
    let here = told.1.0.within.there in
    let holds : c.eq.result ≡ same_tree (tree_at new v.0) (tree_at new w.0) =
    numbers_same old c.len-nodes.ensures.nodes v.0 w.0 there here c.eq.result c.eq.ensures
    ∙ sym (ap₂ same_tree (tree_at-extends old new v.0 c.decide.ensures.extends there) (tree_at-extends old new w.0 c.decide.ensures.extends here)) in
    if_ok (IsAnswered s new table (decided p c.eq.result) c.decide.new.self) (IsAnswered s new table p c.decide.new.self)
    (λ a h. answered_as s new table p (decided p c.eq.result) c.decide.new.self a (both_same s new table p v w c.requires.both f.0 f.1 f.2 c.eq.result holds)
    (both_stations s new table p v w c.requires.both f.0 f.1 f.2 c.eq.result) (both_awaits s new table p v w c.requires.both f.0 f.1 f.2) h)
    c.decide.result c.decide.ensures.answered

pub returns-clause-ends : goal.returns-clause-ends
returns-clause-ends c =
    let s = c.args.sig.now in
    let old = c.args.store.now in
    let new = c.decide.new.store in
    let table = c.args.sorts.now in
    let p = c.args.self.now in
    let v = c.args.left in
    let w = c.args.right in
    let f = both_equal p c.requires.path v w c.requires.both in
    let told = subst (AreToldAt s old table) c.requires.both c.requires.known.told in
    let there = told.0.0.within.there in
    let here = told.1.0.within.there in
    let holds : c.eq.result ≡ same_tree (tree_at new v.0) (tree_at new w.0) =
    numbers_same old c.len-nodes.ensures.nodes v.0 w.0 there here c.eq.result c.eq.ensures
    ∙ sym (ap₂ same_tree (tree_at-extends old new v.0 c.decide.ensures.extends there) (tree_at-extends old new w.0 c.decide.ensures.extends here)) in
    if_err (Ends s new table (decided p c.eq.result)) (Ends s new table p)
    (λ e h. ends_as s new table p (decided p c.eq.result) e (both_same s new table p v w c.requires.both f.0 f.1 f.2 c.eq.result holds) h) c.decide.result c.decide.ensures.ends
