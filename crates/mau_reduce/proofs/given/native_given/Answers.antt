use Rattle.std.proofs.Common.{drop, length, refl, sym, ap, ◌∙◌, arith}
use Rattle.std.proofs.lemmas.List.{length-map}
use Rattle.mau_terms.specs.Tree.{node, trees_of}
use Rattle.mau_terms.specs.declared.ids.TermId.{TermId}
use Rattle.mau_terms.proofs.Pieces.{list_of-trees_of}
use Rattle.mau_signature.specs.Signature.{theory_at}
use Rattle.mau_store.specs.Trees.{tree_at, trees_at}
use Rattle.mau_store.specs.View.{numbers}
use Rattle.mau_store.proofs.Arguments.{id_below}
use Rattle.mau_evaluation.specs.Evaluation.{before_rest}
use Rattle.mau_api.specs.BuiltIns.{name_at}
use Rattle.mau_reduce.specs.declared.built_in.BuiltIn.TheVariants.{Native}
use Rattle.mau_reduce.specs.BuiltOperators.{meaning_of, answer_of}
use Rattle.mau_reduce.proofs.Answering.{kept_is_on_numerals, first_two, more_numbers, no_numbers}
use Rattle.mau_reduce.proofs.Taken.{number_taken}
use Rattle.mau_reduce.proofs.given.native_given.Goals as goal

pub number_of-requires-2 : goal.number_of-requires-2
number_of-requires-2 g c = id_below (length c.args.store.now) c.args.ids.now 1 _ (omega (arith, c.if-ids-lt2.false)) c.requires.there

pub returns-then-theory-clause-value : goal.returns-then-theory-clause-value
returns-then-theory-clause-value g c =
    more_numbers (meaning_of (g.N.Natives.operators c.args.natives.now) (name_at c.args.sig.now c.args.op.0) (Native c.args.wanted c.args.truths)) (kept_is_on_numerals (g.N.Natives.operators c.args.natives.now) (name_at c.args.sig.now c.args.op.0) c.args.wanted c.args.truths) (theory_at c.args.sig.now c.args.op.0) c.args.op.0 c.in-Some.m c.in-Some-number_of.n (trees_at c.args.store.now (numbers c.args.ids.now)) (trees_at c.args.store.now (numbers (drop 2 c.args.ids.now))) (first_two c.args.store.now c.args.ids.now _ c.in-Some.m c.in-Some-number_of.n c.if-ids-lt2.false c.in-Some.ensures.some c.in-Some-number_of.ensures.some) (λ k. c.if-ids-eq2.false (sym (length-map (numbers c.args.ids.now) (tree_at c.args.store.now) ∙ length-map c.args.ids.now (λ (x : TermId). x.0)) ∙ k)) (ap (λ h. h.comm) (sym c.theory.ensures.value) ∙ c.if-theory.true)
    ∙ (ap (before_rest (theory_at c.args.sig.now c.args.op.0) c.args.op.0 (trees_at c.args.store.now (numbers (drop 2 c.args.ids.now)))) (sym (c.native_answer-given.ensures.value c.args.store.now (theory_at c.args.sig.now) (node c.args.op.0 (trees_at c.args.store.now (numbers c.args.ids.now)))))
    ∙ sym (c.before_rest.ensures.value c.args.store.now (theory_at c.args.sig.now c.args.op.0) c.args.op.0 (theory_at c.args.sig.now) (trees_of (trees_at c.args.store.now (numbers c.args.ids.now))) refl c.native_answer-given.ensures.whole
    ∙ ap (λ ws. before_rest (theory_at c.args.sig.now c.args.op.0) c.args.op.0 (drop 2 ws) (answer_of c.args.store.now (theory_at c.args.sig.now) (node c.args.op.0 (trees_at c.args.store.now (numbers c.args.ids.now))) c.native_answer-given.result)) (list_of-trees_of (trees_at c.args.store.now (numbers c.args.ids.now)))
    ∙ ap (λ ws. before_rest (theory_at c.args.sig.now c.args.op.0) c.args.op.0 (drop 2 ws) (answer_of c.args.store.now (theory_at c.args.sig.now) (node c.args.op.0 (trees_at c.args.store.now (numbers c.args.ids.now))) c.native_answer-given.result)) (first_two c.args.store.now c.args.ids.now _ c.in-Some.m c.in-Some-number_of.n c.if-ids-lt2.false c.in-Some.ensures.some c.in-Some-number_of.ensures.some)))

pub returns-clause-value : goal.returns-clause-value
returns-clause-value g c =
    no_numbers (meaning_of (g.N.Natives.operators c.args.natives.now) (name_at c.args.sig.now c.args.op.0) (Native c.args.wanted c.args.truths)) (kept_is_on_numerals (g.N.Natives.operators c.args.natives.now) (name_at c.args.sig.now c.args.op.0) c.args.wanted c.args.truths) (theory_at c.args.sig.now c.args.op.0) c.args.op.0 c.in-Some.m c.in-Some-number_of.n (trees_at c.args.store.now (numbers c.args.ids.now)) (trees_at c.args.store.now (numbers (drop 2 c.args.ids.now))) (first_two c.args.store.now c.args.ids.now _ c.in-Some.m c.in-Some-number_of.n c.if-ids-lt2.false c.in-Some.ensures.some c.in-Some-number_of.ensures.some) (λ k. c.if-ids-eq2.false (sym (length-map (numbers c.args.ids.now) (tree_at c.args.store.now) ∙ length-map c.args.ids.now (λ (x : TermId). x.0)) ∙ k)) (ap (λ h. h.comm) (sym c.theory.ensures.value) ∙ c.if-theory.false)

pub returns-then-theory-clause-there : goal.returns-then-theory-clause-there
returns-then-theory-clause-there g c = c.before_rest.ensures.there c.args.store.now c.native_answer-given.ensures.whole

pub returns-then-ids-eq2-clause-taken : goal.returns-then-ids-eq2-clause-taken
returns-then-ids-eq2-clause-taken g c = λ normal. number_taken c.args.sig.now c.args.store.now (node c.args.op.0 (trees_at c.args.store.now (numbers c.args.ids.now))) (meaning_of (g.N.Natives.operators c.args.natives.now) (name_at c.args.sig.now c.args.op.0) (Native c.args.wanted c.args.truths)) c.in-Some.m c.in-Some-number_of.n (omega arith) (omega arith) normal c.native_answer-given.result c.native_answer-given.ensures.whole (c.native_answer-given.ensures.value c.args.store.now (theory_at c.args.sig.now) (node c.args.op.0 (trees_at c.args.store.now (numbers c.args.ids.now))))

pub returns-then-theory-clause-taken : goal.returns-then-theory-clause-taken
returns-then-theory-clause-taken g c = λ normal. c.before_rest.ensures.taken c.args.sig.now c.args.store.now (number_taken c.args.sig.now c.args.store.now (node c.args.op.0 (trees_at c.args.store.now (numbers c.args.ids.now))) (meaning_of (g.N.Natives.operators c.args.natives.now) (name_at c.args.sig.now c.args.op.0) (Native c.args.wanted c.args.truths)) c.in-Some.m c.in-Some-number_of.n (omega arith) (omega arith) normal c.native_answer-given.result c.native_answer-given.ensures.whole (c.native_answer-given.ensures.value c.args.store.now (theory_at c.args.sig.now) (node c.args.op.0 (trees_at c.args.store.now (numbers c.args.ids.now)))))
