use Rattle.std.proofs.Common.{◌≡◌, List, All, Vec, Global, refl, sym, ap, ◌∙◌, subst}
use Rattle.std.proofs.lemmas.List.Elements.{All-nil}
use Rattle.mau_terms.specs.View.{tree_of}
use Rattle.mau_terms.specs.declared.ids.TermId.{TermId}
use Rattle.mau_terms.specs.declared.ids.VarId.{VarId}
use Rattle.mau_program.specs.declared.statements.Fragment.{Fragment}
use Rattle.mau_api.specs.Answers.{IsValueOf}
use Rattle.mau_leaves.specs.Searches.{variables_in, IsUsable}
use Rattle.mau_leaves.specs.Subterms.{IsOpenSubject, IsSpot}
use Rattle.mau_leaves.specs.Tests.{MayAsk}
use Rattle.mau_leaves.specs.declared.subterms.Spot.{Spot}
use Rattle.mau_leaves.proofs.Givens.{pairs_have}
use Rattle.mau_leaves.proofs.Holding.{test_usable}
use Rattle.mau_leaves.proofs.testing.start_test.Goals as goal

pub returns : goal.returns
returns g c = record {
  begun = λ w m table subject values.
      let p = c.args.program.now in
      let nodes = c.args.store.now in
      let s = c.start_subterms.result in
      let told = c.start_subterms.ensures in
      let rule = c.in_ok-rule.rule in
      let slice : c.deref.result.now ≡ c.in_ok-bound.bound.items = c.deref.ensures.value in
      let items : s.bound.items ≡ c.in_ok-bound.bound.items = ap (λ (z : Vec (VarId × TermId) Global). z.items) told.bound in
      let asks = subst (λ (cs : List Fragment). MayAsk p.sig (variables_in c.deref.result.now) (tree_of c.args.pattern.now) cs) c.items.ensures (c.in_ok-is_askable.ensures c.if-not-branch.false) in
      let usable = test_usable p.sig (variables_in c.deref.result.now) (tree_of c.args.pattern.now) c.args.cond.now asks rule c.in_ok-rule.ensures in
      record {
        rule = c.in_ok-rule.ensures;
        test = record {
          subject = subject;
          search = record {
            usable = subst (λ (bs : List (VarId × TermId)). IsUsable p.sig (variables_in bs) rule) (slice ∙ sym items) usable;
            values = subst (All (IsValueOf p.sig nodes table)) (sym (items ∙ c.in_ok-bound.ensures)) (pairs_have p.sig nodes table c.args.values.now values);
            spot = subst (λ (k : Spot g.row.L.Denot). IsSpot g.L.Lister.asked g.L.Lister.given g.L.Lister.is_for w p m rule s.bound.items nodes table k) (sym told.spot) subject;
            way = subst (All (IsOpenSubject p.sig nodes table)) (sym told.way) (All-nil (IsOpenSubject p.sig nodes table));
          };
        };
        subject = refl;
        begun = (told.way, told.spot, refl);
        looks = (items ∙ c.in_ok-bound.ensures, told.whole ∙ c.is_whole.ensures, told.below ∙ c.is_deep.ensures);
      };
}
