use Rattle.std.proofs.Common.{◌≡◌, List, length, vec_len, sym, ap, ◌∙◌, arith, eqb-true}
use Rattle.std.proofs.lemmas.Bool.{eqb-false}
use Rattle.mau_terms.specs.Tree.{Tree}
use Rattle.mau_terms.proofs.Outcomes.{IfOk-then}
use Rattle.mau_signature.specs.Signature.{declarations_at, strategy_of, theory_at}
use Rattle.mau_evaluation.specs.Evaluation.{count_up}
use Rattle.mau_api.specs.Programs.{places_of}
use Rattle.mau_reduce.specs.Orders.{order_in}
use Rattle.mau_reduce.proofs.PlacesNamed.{order_none, order_all}
use Rattle.mau_reduce.proofs.arguments.order_of.Goals as goal

pub returns-then-is_empty : goal.returns-then-is_empty
returns-then-is_empty c = λ ts e.
    order_none (theory_at c.args.sig.now c.args.op.0).assoc c.in_ok-named.named.items (places_of (strategy_of (declarations_at c.args.sig.now c.args.op.0))) ts
    (ap (λ h. h.assoc) (sym c.theory.ensures.value) ∙ c.if-not-theory.false)
    (c.in_ok-named.ensures ∙ ap places_of c.strat.ensures.value)
    (let e = eqb-true (vec_len c.in_ok-named.named) 0 (sym c.is_empty.ensures ∙ c.if-is_empty.true) in omega (arith, e, c.in_ok-named.named.ok.0))

pub returns : goal.returns
returns c =
    IfOk-then (λ v. (ts : List Tree) → length ts ≡ c.args.count → v.items ≡ count_up 0 ts) (λ v. (ts : List Tree) → length ts ≡ c.args.count → v.items ≡ order_in c.args.sig.now c.args.op.0 ts)
    (λ v p ts e. p ts e ∙ order_all (theory_at c.args.sig.now c.args.op.0).assoc c.in_ok-named.named.items (places_of (strategy_of (declarations_at c.args.sig.now c.args.op.0))) ts
    (ap (λ h. h.assoc) (sym c.theory.ensures.value) ∙ c.if-not-theory.false)
    (c.in_ok-named.ensures ∙ ap places_of c.strat.ensures.value)
    (λ h. eqb-false (vec_len c.in_ok-named.named) 0 (sym c.is_empty.ensures ∙ c.if-is_empty.false) (omega (arith, h, c.in_ok-named.named.ok.0))))
    c.all_places.result c.all_places.ensures
