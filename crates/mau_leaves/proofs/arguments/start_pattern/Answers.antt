use Rattle.std.proofs.Common.{List, Vec, Global, sym, ap, ◌∙◌, subst}
use Rattle.mau_terms.specs.View.{tree_of}
use Rattle.mau_terms.specs.declared.ids.TermId.{TermId}
use Rattle.mau_terms.specs.declared.ids.VarId.{VarId}
use Rattle.mau_listing.specs.Asked.{Asked}
use Rattle.mau_leaves.specs.Searches.{variables_in}
use Rattle.mau_leaves.proofs.Patterns.{pattern_usable}
use Rattle.mau_leaves.proofs.arguments.start_pattern.Goals as goal

pub start_uses-requires-clause-usable : goal.start_uses-requires-clause-usable
start_uses-requires-clause-usable g c =
    pattern_usable c.args.program.now.sig (variables_in c.args.bound.items) c.requires.bound.apart (tree_of c.args.pattern.now) c.requires.pattern c.in_ok-rule.rule c.in_ok-rule.ensures

pub returns-clause-search : goal.returns-clause-search
returns-clause-search g c = record {
  rule = c.in_ok-rule.ensures;
  bound = ap (λ (bs : Vec (VarId × TermId) Global). variables_in bs.items) c.in_ok-uses.ensures.bound.0;
  usable = pattern_usable c.args.program.now.sig (variables_in c.args.bound.items) c.requires.bound.apart (tree_of c.args.pattern.now) c.requires.pattern c.in_ok-rule.rule c.in_ok-rule.ensures;
  whole = c.in_ok-uses.ensures.bound.1;
  subject = ap (λ (a : Asked). a.subject) c.in_ok-uses.ensures.asked;
  search = c.in_ok-uses.ensures.search;
  signature = c.in_ok-uses.ensures.signature;
}
