-- A told step of a statement, by the readings of its values: both ends are the instances in the context, up to the axioms.
use Rattle.std.proofs.Common.{◌≡◌, ℕ, List, [], ◌∷◌, map, refl, sym, ap, ◌∙◌, subst}
use Rattle.std.specs.Prelude.{All}
use Rattle.std.proofs.lemmas.List.Elements.{All-head, All-tail}
use Rattle.mau_poset.specs.Order.{kind_of}
use Rattle.mau_terms.specs.Tree.{Tree}
use Rattle.mau_terms.specs.Norm.{norm}
use Rattle.mau_terms.specs.Reading.{reading}
use Rattle.mau_terms.specs.Bare.{IsBare, IsBareIn, IsLawful, EqualModulo}
use Rattle.mau_terms.specs.Subst.{Variable, value_at, instance}
use Rattle.mau_terms.specs.Solution.{HaveSorts}
use Rattle.mau_terms.proofs.Law.{norm_equal}
use Rattle.mau_terms.proofs.Normal.{norm-norm}
use Rattle.mau_terms.proofs.Solutions.{instances_by_norms, length-map}
use Rattle.mau_terms.proofs.Taken.{one_kind, equal_kind}
use Rattle.mau_signature.specs.Signature.{SignatureOf, theory_at, terms_over}
use Rattle.mau_sigcheck.specs.Built.{IsBuiltAndAccepted}
use Rattle.mau_formula.specs.Operator.{Operator}
use Rattle.mau_program.specs.declared.program.Program.{Program}
use Rattle.mau_api.specs.Terms.{IsBareWithin, IsNormalTerm, filler, fill, IsContextFor}
use Rattle.mau_api.specs.Told.{StepOf, IsInstance, LeadsOver}
use Rattle.mau_logic.proofs.WellFormed.{AreOfOneKind}
use Rattle.mau_logic.specs.Derivable.{IsSorted}
use Rattle.mau_logic.proofs.SortKinds.{is_kind}
use Rattle.mau_logic.proofs.Instances.{instance_in, have_values, AreAll, fill_in, filler_norms, value_norms}
use Rattle.mau_built_ins.proofs.NormalTerms.{read_bare, read_norm, read_norms, own_norms, read_terms}
use Rattle.mau_logic.proofs.FactKinds.{sorted_kind, HaveKindedHeads, facts_kind}
use Rattle.mau_logic.proofs.ToldRuns.{AreReadings, IsFit}

module _ (s : SignatureOf) (lawful : IsLawful (terms_over s)) where
  -- equal terms in a hole
  pub fill_norms : (c u v : Tree) → norm (theory_at s) u ≡ norm (theory_at s) v → norm (theory_at s) (fill c u) ≡ norm (theory_at s) (fill c v)
  fill_norms c u v e = instances_by_norms (theory_at s) (filler u) (filler v) (filler_norms (theory_at s) u v e) c

  pub fill_bare : (c left u : Tree) (j : ℕ) (context : IsContextFor (terms_over s) left c) → IsBareIn (terms_over s) u context.0 → IsBareIn (terms_over s) c j → IsBareIn (terms_over s) (fill c u) j
  fill_bare c left u j (k, bl, e) bu bc = fill_in (terms_over s) u k bu (is_kind s u k bu) c j (subst (AreAll (terms_over s) k) (sym e) (refl, tt)) bc

  -- both ends of a step, where u in the context is t
  pub in_context : (t c left u w : Tree) → IsNormalTerm s t → IsBareWithin s c → (context : IsContextFor (terms_over s) left c) → IsBareIn (terms_over s) w context.0 →
      norm (theory_at s) u ≡ norm (theory_at s) w → norm (theory_at s) (fill c u) ≡ t →
      EqualModulo (terms_over s) (reading (theory_at s) t) (fill c w) × EqualModulo (terms_over s) (fill c w) (reading (theory_at s) t)
  in_context t c left u w n bc context bw e to =
      let bare : IsBare (terms_over s) (fill c w) = (bc.0.0, fill_bare c left w bc.0.0 context bw bc.0.1) in
      let norms : norm (theory_at s) (fill c w) ≡ norm (theory_at s) (reading (theory_at s) t) = sym (fill_norms c u w e) ∙ to ∙ sym (read_norm s lawful t n) in (
        norm_equal (terms_over s) lawful (reading (theory_at s) t) (fill c w) n.term.0 bare (sym norms),
        norm_equal (terms_over s) lawful (fill c w) (reading (theory_at s) t) bare n.term.0 norms,
      )

  -- what the terms in one context lead to is of one kind
  pub context_kind : (t u c left v w a b : Tree) → IsNormalTerm s t → IsBareWithin s c → (context : IsContextFor (terms_over s) left c) → IsBareIn (terms_over s) a context.0 → IsBareIn (terms_over s) b context.0 →
      norm (theory_at s) v ≡ norm (theory_at s) a → norm (theory_at s) (fill c v) ≡ t → norm (theory_at s) w ≡ norm (theory_at s) b → norm (theory_at s) (fill c w) ≡ u →
      (k : ℕ) → IsBareIn (terms_over s) (reading (theory_at s) t) k → IsBareIn (terms_over s) (reading (theory_at s) u) k
  context_kind t u c left v w a b n bc context ba bb ea et eb eu k bk =
      let first : IsBareIn (terms_over s) (fill c a) bc.0.0 = fill_bare c left a bc.0.0 context ba bc.0.1 in
      let second : IsBareIn (terms_over s) (fill c b) bc.0.0 = fill_bare c left b bc.0.0 context bb bc.0.1 in
      let same : k ≡ bc.0.0 = equal_kind (terms_over s) lawful (reading (theory_at s) t) (fill c a) k bc.0.0 bk first (read_norm s lawful t n ∙ sym et ∙ fill_norms c v a ea) in
      subst (IsBareIn (terms_over s) (reading (theory_at s) u)) (sym same)
      (subst (λ z. IsBareIn (terms_over s) (reading (theory_at s) z) bc.0.0) (fill_norms c b w (sym eb) ∙ eu) (read_bare s lawful (fill c b) bc.0.0 second))

module _ (p : Program) (hooks : List Operator) (accepted : IsBuiltAndAccepted p.sig) (lawful : IsLawful (terms_over p.sig)) (heads : HaveKindedHeads p)
    (P : ℕ → Tree → Type 0) (sorted : (r : ℕ) (t : Tree) → IsNormalTerm p.sig t → P r t → IsSorted p hooks r t)
  where
    values_in : (xs : List Variable) (vs : List Tree) → HaveSorts P xs vs → All (IsNormalTerm p.sig) vs →
        HaveSorts (λ r v. IsBareIn (terms_over p.sig) v (kind_of p.sig.hierarchy r)) xs (map (reading (theory_at p.sig)) vs)
    values_in [] vs h n = tt
    values_in (x ∷ xs) [] h n = absurd h
    values_in (x ∷ xs) (v ∷ vs) h n =
        let w = All-head (IsNormalTerm p.sig) v vs n in
        let a = sorted x.1 v w h.0 in (
          sorted_kind p.sig accepted lawful a.uses (facts_kind p hooks accepted lawful heads a.derivable) (reading (theory_at p.sig) v) x.1 w.term.0.0 w.term.0.1 a.sorted,
          values_in xs vs h.1 (All-tail (IsNormalTerm p.sig) v vs n),
        )

    read_values : (vs : List Tree) → All (IsNormalTerm p.sig) vs → map (norm (theory_at p.sig)) (map (reading (theory_at p.sig)) vs) ≡ map (norm (theory_at p.sig)) vs
    read_values vs n = read_norms p.sig lawful vs n ∙ sym (own_norms p.sig lawful vs n)

    module _ (xs : List Variable) (vs : List Tree) (h : HaveSorts P xs vs) (n : All (IsNormalTerm p.sig) vs) where
      abbrev told : Variable → Tree
      told = value_at xs vs

      abbrev read : Variable → Tree
      read = value_at xs (map (reading (theory_at p.sig)) vs)

      read_in : (t : Tree) (k : ℕ) → IsBareIn (terms_over p.sig) t k → IsBareIn (terms_over p.sig) (instance read t) k
      read_in t k b = instance_in (terms_over p.sig) read (have_values (terms_over p.sig) xs (map (reading (theory_at p.sig)) vs) (values_in xs vs h n)) t k b

      instance_norms : (t : Tree) → norm (theory_at p.sig) (instance told t) ≡ norm (theory_at p.sig) (instance read t)
      instance_norms t = instances_by_norms (theory_at p.sig) told read (value_norms (theory_at p.sig) xs vs (map (reading (theory_at p.sig)) vs) (sym (read_values vs n))) t

      are_readings : AreReadings p.sig told read
      are_readings t a b e na =
          let bare : IsBare (terms_over p.sig) (instance read t) = (b.0, read_in t b.0 b.1) in
          let norms : norm (theory_at p.sig) (instance read t) ≡ norm (theory_at p.sig) (reading (theory_at p.sig) a) = sym (instance_norms t) ∙ e ∙ sym (read_norm p.sig lawful a na) in (
            norm_equal (terms_over p.sig) lawful (instance read t) (reading (theory_at p.sig) a) bare na.term.0 norms,
            norm_equal (terms_over p.sig) lawful (reading (theory_at p.sig) a) (instance read t) na.term.0 bare (sym norms),
          )

    pub fit : (xs : List Variable) (left right : Tree) (x : StepOf) (t u : Tree) → AreOfOneKind p.sig left right → IsNormalTerm p.sig t → IsInstance p.sig P xs left right x → LeadsOver p.sig x t u → IsFit p xs left right x t u
    fit xs left right x t u kinds n i o =
        let vs = map (reading (theory_at p.sig)) x.values in
        let context = i.context in
        let same : kinds.0 ≡ context.0 = one_kind (terms_over p.sig) left kinds.0 context.0 kinds.1 context.1 in
        let bl : IsBareIn (terms_over p.sig) (instance (value_at xs vs) left) context.0 = read_in xs x.values i.sorted o.values left context.0 context.1 in
        let br : IsBareIn (terms_over p.sig) (instance (value_at xs vs) right) context.0 = read_in xs x.values i.sorted o.values right context.0 (subst (IsBareIn (terms_over p.sig) right) same kinds.2) in
        let before : norm (theory_at p.sig) x.before ≡ norm (theory_at p.sig) (instance (value_at xs vs) left) =
        ap (norm (theory_at p.sig)) (sym i.before) ∙ norm-norm (theory_at p.sig) lawful.theories (instance (value_at xs x.values) left) ∙ instance_norms xs x.values i.sorted o.values left in
        let after : norm (theory_at p.sig) x.after ≡ norm (theory_at p.sig) (instance (value_at xs vs) right) =
        ap (norm (theory_at p.sig)) (sym i.after) ∙ norm-norm (theory_at p.sig) lawful.theories (instance (value_at xs x.values) right) ∙ instance_norms xs x.values i.sorted o.values right in
        record {
          values = read_terms p.sig lawful x.values o.values;
          one_each = length-map (reading (theory_at p.sig)) x.values ∙ i.one_each;
          before = (in_context p.sig lawful t x.context left x.before (instance (value_at xs vs) left) n o.context context bl before o.from).0;
          after = (in_context p.sig lawful u x.context left x.after (instance (value_at xs vs) right) o.normal o.context context br after o.to).1;
          same_kind = context_kind p.sig lawful t u x.context left x.before x.after (instance (value_at xs vs) left) (instance (value_at xs vs) right) n o.context context bl br before o.from after o.to;
          instances = are_readings xs x.values i.sorted o.values;
        }
