use Rattle.std.proofs.Common.{◌≡◌, List, [], ◌∷◌, ◌++◌, map, sym, ◌∙◌, ap, subst, arith}
use Rattle.std.proofs.lemmas.List.{map-append}
use Rattle.mau_terms.specs.Tree.{trees_of}
use Rattle.mau_terms.specs.Subst.{has_variable}
use Rattle.mau_terms.specs.declared.ids.VarId.{VarId}
use Rattle.mau_terms.specs.View.{tree_of, variable_of}
use Rattle.mau_match.specs.Parts.{copies_in}
use Rattle.mau_match.specs.Sums.{AreShared}
use Rattle.mau_match.specs.Walked.{bound_of}
use Rattle.mau_match.proofs.Uneven.{shared_more}
use Rattle.mau_match.proofs.sums.push_share.Goals as goal

pub returns : goal.returns
returns c = λ th gg h.
    let bound = bound_of c.args.given.now in
    let x = variable_of c.args.variable in
    let f = c.args.op.0 in
    let ps = trees_of (map tree_of c.args.patterns.now) in
    let hs = c.args.hidden.now.items in
    let ms = c.args.counts.now.items in
    let names : map variable_of c.push.new.self.items ≡ map variable_of hs ++ x ∷ [] = ap (map variable_of) c.in_ok-push.ensures.items ∙ map-append variable_of hs (c.args.variable ∷ []) in
    let many : c.in-Some.times ≡ copies_in bound x f ps = omega (arith, rw c.in-Some.is at c.times_in.ensures) in
    let numbers : c.push-2.new.self.items ≡ ms ++ copies_in bound x f ps ∷ [] = c.in_ok-push-2.ensures.items ∙ ap (λ n. ms ++ n ∷ []) many in
    subst (λ ys. AreShared th bound ys gg f ps c.push-2.new.self.items) (sym names) (subst (AreShared th bound (map variable_of hs ++ x ∷ []) gg f ps) (sym numbers) (shared_more th bound gg f x (map variable_of hs) (ap (λ (l : List VarId). has_variable (map variable_of l) x) (sym c.deref.ensures.value) ∙ sym c.has_variable.ensures ∙ c.if-has_variable.false) ps ms h))
