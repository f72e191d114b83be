-- A told step of what is built in is one fact, where what is given is of the kind of the operator.
use Rattle.std.proofs.Common.{◌≡◌, ℕ, List, [], ◌∷◌, ◌++◌, map, Bool, true, false, ◌==◌, refl, sym, ap, ◌∙◌, subst, if◌then◌else◌}
use Rattle.std.specs.Prelude.{All}
use Rattle.std.proofs.lemmas.List.Elements.{All-nil, All-cons, All-head, All-tail}
use Rattle.mau_terms.specs.Tree.{Tree, variable, numeral, apply, Trees, no_trees, tree, trees_of}
use Rattle.mau_terms.specs.Norm.{norm, norms, build}
use Rattle.mau_terms.specs.Reading.{reading}
use Rattle.mau_terms.specs.Bare.{IsBareIn, IsLawful}
use Rattle.mau_terms.specs.Subst.{instances}
use Rattle.mau_terms.proofs.Induction.{norm-node}
use Rattle.mau_terms.proofs.Normal.{norm-norm}
use Rattle.mau_terms.proofs.Pieces.{Each, list_of-trees_of}
use Rattle.mau_terms.proofs.Wholes.{reading_top}
use Rattle.mau_terms.specs.declared.theory.Theory.{Theory}
use Rattle.mau_terms.specs.Lawful.{AreLawful}
use Rattle.mau_signature.specs.Signature.{theory_at, terms_over}
use Rattle.mau_signature.proofs.Operators.{is_operator}
use Rattle.mau_canon.specs.Within.{IsWithin}
use Rattle.mau_canon.proofs.Depths.{arguments_are_within}
use Rattle.mau_formula.specs.Operator.{Operator}
use Rattle.mau_evaluation.specs.Program.{value}
use Rattle.mau_evaluation.specs.Evaluation.{native, native_by}
use Rattle.mau_evaluation.proofs.BareTerms.{norm-reading-is}
use Rattle.mau_program.specs.declared.program.Program.{Program}
use Rattle.mau_api.specs.Programs.{program_over}
use Rattle.mau_api.specs.BuiltIns.{built_in_at}
use Rattle.mau_api.specs.Terms.{IsBareWithin, IsNormalTerm, hole_index, filler, fill, holes, holes_in, IsContextFor}
use Rattle.mau_api.specs.Told.{StepOf, IsBuiltStep, LeadsOver}
use Rattle.mau_api.proofs.BuiltIns.{answers_of_readings}
use Rattle.mau_built_ins.specs.Laws.{AnswersAreInKind}
use Rattle.mau_logic.specs.Derivable.{by_built_in, derives, no_facts, IsLed}
use Rattle.mau_built_ins.proofs.NormalTerms.{normal_of, read_norm}
use Rattle.mau_logic.proofs.Fitted.{in_context, context_kind}
use Rattle.mau_built_ins.proofs.Arguments.{arguments_normal}
use Rattle.mau_logic.proofs.Rebuilt.{over_readings}

-- ---- what stands in a hole is within the limits where the whole is

module _ (th : ℕ → Theory) (lawful : AreLawful th) (u : Tree) where
  own_norms : (ts : Trees) → map (norm th) (norms th ts) ≡ norms th ts
  own_norms no_trees = refl
  own_norms (tree t ts) = ap (λ v. v ∷ map (norm th) (norms th ts)) (norm-norm th lawful t) ∙ ap (λ vs. norm th t ∷ vs) (own_norms ts)

  all_own : (ts : Trees) → All (λ t. norm th t ≡ t) (norms th ts)
  all_own no_trees = All-nil (λ t. norm th t ≡ t)
  all_own (tree t ts) = All-cons (λ t. norm th t ≡ t) (norm th t) (norms th ts) (norm-norm th lawful t) (all_own ts)

  mutual
    pub hole_within : (c : Tree) → (holes c ≡ [] → ⊥) → IsWithin th (norm th (fill c u)) → IsWithin th (norm th u)
    hole_within (variable i r) some w = by (i == hole_index) some w
      where
        by : (b : Bool) → ((if b then r ∷ [] else []) ≡ [] → ⊥) → IsWithin th (norm th (if b then u else variable i r)) → IsWithin th (norm th u)
        by true h v = v
        by false h v = absurd (h refl)
    hole_within (numeral n) some w = absurd (some refl)
    hole_within (apply f cs) some w =
        let args = norms th (instances (filler u) cs) in
        one_within cs some (arguments_are_within th lawful f args (all_own (instances (filler u) cs))
        (subst (IsWithin th) (sym (norm-node th f args ∙ ap (build (th f) f) (own_norms (instances (filler u) cs)))) w))

    one_within : (cs : Trees) → (holes_in cs ≡ [] → ⊥) → All (IsWithin th) (norms th (instances (filler u) cs)) → IsWithin th (norm th u)
    one_within no_trees some w = absurd (some refl)
    one_within (tree c cs) some w =
        let args = norms th (instances (filler u) cs) in
        by (holes c) (λ h. hole_within c h (All-head (IsWithin th) (norm th (fill c u)) args w)) (λ h. one_within cs h (All-tail (IsWithin th) (norm th (fill c u)) args w)) refl some
      where
        by : (hs : List ℕ) → ((holes c ≡ [] → ⊥) → IsWithin th (norm th u)) → ((holes_in cs ≡ [] → ⊥) → IsWithin th (norm th u)) → holes c ≡ hs → (hs ++ holes_in cs ≡ [] → ⊥) → IsWithin th (norm th u)
        by [] first later e h = later h
        by (m ∷ ms) first later e h = first (λ q. differ (sym e ∙ q))
          where
            differ : m ∷ ms ≡ [] → ⊥
            differ d = cc

module _ (p : Program) (hooks : List Operator) (lawful : IsLawful (terms_over p.sig)) (kinds : AnswersAreInKind p hooks) where
  -- what a step replaces is a term within the limits
  before_term : (b c t : Tree) → norm (theory_at p.sig) b ≡ b → IsNormalTerm p.sig t → IsContextFor (terms_over p.sig) (reading (theory_at p.sig) b) c → norm (theory_at p.sig) (fill c b) ≡ t → IsNormalTerm p.sig b
  before_term b c t e n context to = record {
    normal = e;
    term = (
      (context.0, context.1),
      subst (IsWithin (theory_at p.sig)) (e ∙ sym (norm-reading-is (theory_at p.sig) lawful.theories b e))
          (hole_within (theory_at p.sig) lawful.theories b c (λ q. differ (sym context.2 ∙ q))
          (subst (IsWithin (theory_at p.sig)) (read_norm p.sig lawful t n ∙ sym to) n.term.1)),
    );
  }
    where
      differ : context.0 ∷ [] ≡ [] → ⊥
      differ d = cc

  read_each : (us : List Tree) → Each (IsNormalTerm p.sig) us → All (IsBareWithin p.sig) (map (reading (theory_at p.sig)) us)
  read_each [] h = All-nil (IsBareWithin p.sig)
  read_each (u ∷ us) h = All-cons (IsBareWithin p.sig) (reading (theory_at p.sig) u) (map (reading (theory_at p.sig)) us) (h.0).term (read_each us h.1)

  gives_by : (f : ℕ) (us : List Tree) (b a : Tree) → b ≡ apply f (trees_of us) → native (program_over p hooks) b ≡ value a → native_by (built_in_at p.sig hooks f) (theory_at p.sig f) f us ≡ value a
  gives_by f us b a e g = ap (native_by (built_in_at p.sig hooks f) (theory_at p.sig f) f) (sym (list_of-trees_of us)) ∙ ap (native (program_over p hooks)) (sym e) ∙ g

  module _ (f : ℕ) (x : StepOf) (t u : Tree) (us : List Tree) (a : Tree) (is : x.before ≡ apply f (trees_of us)) (n : IsNormalTerm p.sig t) (o : LeadsOver p.sig x t u)
      (b : IsNormalTerm p.sig (apply f (trees_of us))) (gives : native_by (built_in_at p.sig hooks f) (theory_at p.sig f) f us ≡ value a) (after : norm (theory_at p.sig) a ≡ x.after)
      (context : IsContextFor (terms_over p.sig) (reading (theory_at p.sig) (apply f (trees_of us))) x.context)
    where
      before_norms : norm (theory_at p.sig) x.before ≡ norm (theory_at p.sig) (reading (theory_at p.sig) (apply f (trees_of us)))
      before_norms = ap (norm (theory_at p.sig)) is ∙ b.normal ∙ sym (read_norm p.sig lawful (apply f (trees_of us)) b)

      after_norms : norm (theory_at p.sig) x.after ≡ norm (theory_at p.sig) (reading (theory_at p.sig) (norm (theory_at p.sig) a))
      after_norms = ap (norm (theory_at p.sig)) (sym after) ∙ norm-norm (theory_at p.sig) lawful.theories a
          ∙ sym (norm-reading-is (theory_at p.sig) lawful.theories (norm (theory_at p.sig) a) (norm-norm (theory_at p.sig) lawful.theories a))

      answer_in : IsBareIn (terms_over p.sig) (reading (theory_at p.sig) (norm (theory_at p.sig) a)) context.0
      answer_in = kinds f us a context.0 b context.1 gives

      built_by : IsLed p hooks false t u
      built_by = record {
        by_equations = true;
        kind = λ _. refl;
        from = n;
        to = o.normal;
        same_kind = context_kind p.sig lawful t u x.context (reading (theory_at p.sig) (apply f (trees_of us))) x.before x.after
            (reading (theory_at p.sig) (apply f (trees_of us))) (reading (theory_at p.sig) (norm (theory_at p.sig) a)) n o.context context context.1 answer_in before_norms o.from after_norms o.to;
        fact = derives [] no_facts (by_built_in f x.context (reading (theory_at p.sig) t) (reading (theory_at p.sig) u) (map (reading (theory_at p.sig)) us) o.context n.term o.normal.term
            (read_each us (arguments_normal p.sig lawful f us b)) (record {
              operator = is_operator p.sig f (reading_top (terms_over p.sig) f (trees_of us) context.0 (normal_of p.sig lawful (apply f (trees_of us)) b) context.1).0;
              whole = reading (theory_at p.sig) (apply f (trees_of us));
              over_arguments = over_readings p.sig lawful f us (normal_of p.sig lawful (apply f (trees_of us)) b) b.term.0;
              answer = a;
              gives = answers_of_readings p.sig lawful hooks f us b.normal ∙ gives;
              context = context;
              from = (in_context p.sig lawful t x.context (reading (theory_at p.sig) (apply f (trees_of us))) x.before (reading (theory_at p.sig) (apply f (trees_of us))) n o.context context context.1 before_norms o.from).0;
              to = (in_context p.sig lawful u x.context (reading (theory_at p.sig) (apply f (trees_of us))) x.after (reading (theory_at p.sig) (norm (theory_at p.sig) a)) o.normal o.context context answer_in after_norms o.to).1;
            }));
      }

  pub built : (f : ℕ) (x : StepOf) (t u : Tree) → IsNormalTerm p.sig t → IsBuiltStep p hooks f x → LeadsOver p.sig x t u → IsLed p hooks false t u
  built f x t u n h o =
      built_by f x t u h.arguments h.result h.before n o
      (subst (IsNormalTerm p.sig) h.before (before_term x.before x.context t h.normal n h.context o.from))
      (gives_by f h.arguments x.before h.result h.before h.gives) h.after
      (subst (λ z. IsContextFor (terms_over p.sig) (reading (theory_at p.sig) z) x.context) h.before h.context)
