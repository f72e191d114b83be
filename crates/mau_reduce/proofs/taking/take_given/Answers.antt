use Rattle.std.proofs.Common.{◌≡◌, IfErr, sym, ◌∙◌, subst}
use Rattle.mau_terms.specs.Norm.{norm}
use Rattle.mau_signature.specs.Signature.{theory_at}
use Rattle.mau_store.specs.Trees.{tree_at, StandsFor}
use Rattle.mau_canon.specs.Standing.{StandsWithin}
use Rattle.mau_evaluation.specs.Evaluation.{admit}
use Rattle.mau_reduce.specs.declared.given.Given.TheVariants.{Before}
use Rattle.mau_reduce.specs.Ends.{IsEnd}
use Rattle.mau_reduce.specs.Kinds.{IsTermIn}
use Rattle.mau_reduce.specs.Giving.{given_value, CanBeTaken}
use Rattle.mau_reduce.proofs.Taken.{leaf_stands, taken_kind, both_ok}
use Rattle.mau_reduce.proofs.taking.take_given.Goals as goal

pub returns-in-Argument-clause-kind : goal.returns-in-Argument-clause-kind
returns-in-Argument-clause-kind c = λ hooks k gives is in_kind.
    let th = theory_at c.args.sig.now in
    let s = c.args.store.now in
    let within : StandsWithin th s c.in-Argument.id.0 = subst (CanBeTaken c.args.sig.now s) c.in-Argument.is c.requires.taken in
    taken_kind c.args.sig.now c.requires.lawful hooks s s k c.args.term.0 c.in-Argument.id.0 c.args.given gives is c.requires.gives in_kind
    (subst (λ g. tree_at s c.in-Argument.id.0 ≡ norm th (given_value s th (tree_at s c.args.term.0) g)) (sym c.in-Argument.is) (sym within.normal)) within

pub returns-in-Ok-clause-kind : goal.returns-in-Ok-clause-kind
returns-in-Ok-clause-kind c = λ hooks k gives is in_kind.
    let th = theory_at c.args.sig.now in
    let s = c.args.store.now in
    let taken = subst (CanBeTaken c.args.sig.now s) c.in-Whole.is c.requires.taken in
    taken_kind c.args.sig.now c.requires.lawful hooks s c.leaf_term.new.store k c.args.term.0 c.in-Ok.id.0 c.args.given gives is c.requires.gives in_kind
    (subst (λ g. tree_at c.leaf_term.new.store c.in-Ok.id.0 ≡ norm th (given_value s th (tree_at s c.args.term.0) g)) (sym c.in-Whole.is) (c.in-Ok.ensures.tree ∙ sym taken))
    (leaf_stands th c.leaf_term.new.store c.in-Ok.id.0 c.in-Whole.leaf c.in-Ok.ensures.there c.in-Ok.ensures.tree taken)

pub returns-in-Before-clause-ends : goal.returns-in-Before-clause-ends
returns-in-Before-clause-ends c = λ b.
    subst (λ g. IfErr c.before_others.result (IsEnd (admit (theory_at c.args.sig.now) (given_value c.args.store.now (theory_at c.args.sig.now) (tree_at c.args.store.now c.args.term.0) g) b))) (sym c.in-Before.is) (c.before_others.ensures.ends b)

pub returns-in-Before-clause-kind : goal.returns-in-Before-clause-kind
returns-in-Before-clause-kind c = λ hooks k gives is in_kind.
    let th = theory_at c.args.sig.now in
    let s = c.args.store.now in
    both_ok c.before_others.result (λ id. StandsFor th c.before_others.new.store id.0 (given_value s th (tree_at s c.args.term.0) (Before c.in-Before.leaf))) (λ id. StandsWithin th c.before_others.new.store id.0) (λ id. IsTermIn c.args.sig.now c.before_others.new.store k id.0)
    (λ id e within. taken_kind c.args.sig.now c.requires.lawful hooks s c.before_others.new.store k c.args.term.0 id.0 c.args.given gives is c.requires.gives in_kind
    (subst (λ g. tree_at c.before_others.new.store id.0 ≡ norm th (given_value s th (tree_at s c.args.term.0) g)) (sym c.in-Before.is) e) within)
    c.before_others.ensures.value c.before_others.ensures.within
