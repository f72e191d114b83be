use Rattle.std.proofs.Common.{◌≡◌, false, Bool, ◌&&◌, List, All, sym, ap, ◌∙◌, subst}
use Rattle.std.specs.Prelude.{map, not}
use Rattle.std.specs.Option.{option_map}
use Rattle.std.specs.List.{zip}
use Rattle.mau_terms.specs.Bare.{IsBare}
use Rattle.mau_terms.specs.Subst.{Variable, variables}
use Rattle.mau_terms.specs.View.{tree_of, variable_of}
use Rattle.mau_terms.specs.declared.ids.VarId.{VarId}
use Rattle.mau_terms.specs.declared.ids.TermId.{TermId}
use Rattle.mau_signature.specs.Signature.{SignatureOf, terms_over}
use Rattle.mau_store.specs.Trees.{trees_at}
use Rattle.mau_store.specs.View.{numbers}
use Rattle.mau_listing.specs.Asked.{matcher_in, IsGiven}
use Rattle.mau_api.specs.Answers.{IsAskable, IsValueOf, binding_in}
use Rattle.mau_holding.proofs.Values.{binding_zipped}
use Rattle.mau_conditional.proofs.Derived.{entry_kind}
use Rattle.mau_conditional.proofs.Given.{bound_variables, given_values, given_one_each}
use Rattle.mau_conditional.proofs.Asked.{holding, failing, ending}
use Rattle.mau_conditional.proofs.next.holds_under.Goals as goal

pub solve-requires-clause-condition : goal.solve-requires-clause-condition
solve-requires-clause-condition g c =
    let w = g.L.Lister.with_context in
    let m = g.E.Evaluator.meanings c.args.evaluator.now in
    let can = c.requires.can in
    let r = m.program.sig in
    let p = tree_of c.args.pattern.now in
    let a = g.L.Lister.asked c.args.listing.now in
    let x = c.args.solution.now in
    let table = g.E.Evaluator.table c.args.evaluator.now in
    let b = c.in-Ok.ensures in
    let bound = c.deref.result.now in
    let bare = subst (λ (z : SignatureOf). IsBare (terms_over z) p) can.signature can.pattern in
    let given = subst (λ (z : SignatureOf). IsGiven w z c.args.store.now table a x) can.signature c.requires.given in
    let long = given_one_each r can.goes.heads.signature c.args.store.now table p bare x w a c.requires.pattern given in
    let same : map (λ (b : VarId × TermId). variable_of b.0) bound ≡ variables p = ap (map (λ (b : VarId × TermId). variable_of b.0)) (c.deref.ensures.value ∙ b.2) ∙ bound_variables b.0 x.values (variables p) b.1 long in
    subst (λ (z : SignatureOf). IsAskable z (map (λ (b : VarId × TermId). variable_of b.0) bound) c.args.cond.now) can.signature
    (subst (λ (vs : List Variable). IsAskable c.args.sig.now vs c.args.cond.now) (sym same) can.condition)

pub solve-requires-clause-bound : goal.solve-requires-clause-bound
solve-requires-clause-bound g c =
    let w = g.L.Lister.with_context in
    let m = g.E.Evaluator.meanings c.args.evaluator.now in
    let can = c.requires.can in
    let r = m.program.sig in
    let p = tree_of c.args.pattern.now in
    let a = g.L.Lister.asked c.args.listing.now in
    let x = c.args.solution.now in
    let table = g.E.Evaluator.table c.args.evaluator.now in
    let b = c.in-Ok.ensures in
    let bare = subst (λ (z : SignatureOf). IsBare (terms_over z) p) can.signature can.pattern in
    let given = subst (λ (z : SignatureOf). IsGiven w z c.args.store.now table a x) can.signature c.requires.given in
    let derived = g.met.E.Evaluator.derived c.args.evaluator.now c.args.store.now c.requires.fits in
    let all = given_values r can.goes.heads.signature c.args.store.now table p bare x
    (λ q k v normal is h. entry_kind m can.goes c.args.store.now table derived q k v normal is h) w a c.requires.pattern given b.0 b.1 in
    subst (All (IsValueOf r c.args.store.now table)) (sym (c.deref.ensures.value ∙ b.2)) all

pub returns-in-Ok-Some-clause-asked : goal.returns-in-Ok-Some-clause-asked
returns-in-Ok-Some-clause-asked g c =
    let m = g.E.Evaluator.meanings c.args.evaluator.now in
    let p = tree_of c.args.pattern.now in
    let x = c.args.solution.now in
    let store = c.args.store.now in
    let b = c.in-Ok.ensures in
    let alike : binding_in store c.deref.result.now ≡ zip (variables p) (matcher_in store x).values =
    ap (binding_in store) (c.deref.ensures.value ∙ b.2) ∙ (binding_zipped store b.0 x.values ∙ ap (λ (zs : List Variable). zip zs (trees_at store (numbers x.values))) b.1) in
    holding m p c.args.cond.now (matcher_in store x) (binding_in store c.deref.result.now) alike c.args.budget.now c.solve.new.budget c.solve.new.store
    _ _ (ap (option_map _) c.in-Ok-Some.field-0-is) (c.in-Ok-Some.ensures.exact (ap (λ (r : Bool). r && not false) c.requires.can.exactly))

pub returns-in-Ok-None-clause-asked : goal.returns-in-Ok-None-clause-asked
returns-in-Ok-None-clause-asked g c =
    let m = g.E.Evaluator.meanings c.args.evaluator.now in
    let p = tree_of c.args.pattern.now in
    let x = c.args.solution.now in
    let store = c.args.store.now in
    let b = c.in-Ok.ensures in
    let alike : binding_in store c.deref.result.now ≡ zip (variables p) (matcher_in store x).values =
    ap (binding_in store) (c.deref.ensures.value ∙ b.2) ∙ (binding_zipped store b.0 x.values ∙ ap (λ (zs : List Variable). zip zs (trees_at store (numbers x.values))) b.1) in
    failing m p c.args.cond.now (matcher_in store x) (binding_in store c.deref.result.now) alike c.args.budget.now c.solve.new.budget c.solve.new.store
    _ (ap (option_map _) c.in-Ok-None.field-0-is) (c.in-Ok-None.ensures.exact (ap (λ (r : Bool). r && not false) c.requires.can.exactly))

pub returns-clause-asked : goal.returns-clause-asked
returns-clause-asked g c =
    let m = g.E.Evaluator.meanings c.args.evaluator.now in
    let p = tree_of c.args.pattern.now in
    let x = c.args.solution.now in
    let store = c.args.store.now in
    let b = c.in-Ok.ensures in
    let alike : binding_in store c.deref.result.now ≡ zip (variables p) (matcher_in store x).values =
    ap (binding_in store) (c.deref.ensures.value ∙ b.2) ∙ (binding_zipped store b.0 x.values ∙ ap (λ (zs : List Variable). zip zs (trees_at store (numbers x.values))) b.1) in
    ending m p c.args.cond.now (matcher_in store x) (binding_in store c.deref.result.now) alike c.args.budget.now c.solve.new.budget c.solve.new.store
    c.in-Err-solve.end (c.in-Err-solve.ensures.exact (ap (λ (r : Bool). r && not false) c.requires.can.exactly))
