-- The seven facts of the ordered lists.
use Rattle.std.proofs.Common.{◌≡◌, ℕ, zero, suc, List, inl, inr, sym, subst, ◌⊎◌}
use Rattle.mau_terms.specs.Tree.{Tree}
use Rattle.mau_terms.specs.Finite.{IsIn}
use Rattle.mau_evaluation.specs.Program.{Program}
use Rattle.mau_evaluation.specs.Evaluation.{Binding}
use Rattle.mau_evaluation.specs.Engine.{Engine}
use Rattle.mau_evaluation.specs.Rules.{places_of, Shows, AskingEnds, root_of}
use Rattle.mau_evaluation.specs.Strategy.{Strategy, idle, fail, every_rule, label, top_only, call, test, part_rewrite, label_by, StratDef}
use Rattle.mau_evaluation.specs.Satisfies.{top_of, calls_at, Sat, Cut}
use Rattle.mau_evaluation.specs.Configs.{Todo, means}
use Rattle.mau_evaluation.specs.ClosedLists.{LeavesAreRight}
use Rattle.mau_evaluation.specs.Answers.{Answers, answers_of}
use Rattle.mau_evaluation.specs.OrderedLists.{top_results, results_of, results, bodies_of, AsksFirst, IsLeaf, LeafList, BodyListWith, BodyList}
use Rattle.mau_evaluation.specs.StrategyLaws.{OrderedListsAreRight}
use Rattle.mau_evaluation.proofs.Each.{Has, IsWhole, whole_list, has_list, list_has}
use Rattle.mau_evaluation.proofs.Leaves.{from_any, into_any, any_goes, from_labelled, into_labelled, labelled_goes}
use Rattle.mau_evaluation.proofs.Calls.{from_tested, into_tested, tested_goes, from_bodies, into_bodies, bodies_go, values_all_go}

module _ (P : Program) (L : Engine) (defs : List StratDef) (asks : AsksFirst P L) where
  from_top : (ρ : Binding) (e : Strategy) (t u : Tree) → Has u (top_results P L ρ e t) → (top_of P L ρ e).sat t u
  from_top ρ every_rule t u h = from_any P L root_of t u h
  from_top ρ (label n gs) t u h = from_labelled P L root_of defs ρ n gs t u h
  from_top ρ _ t u h = h

  into_top : (ρ : Binding) (e : Strategy) (t u : Tree) → IsWhole (top_results P L ρ e t) → (top_of P L ρ e).sat t u → Has u (top_results P L ρ e t)
  into_top ρ every_rule t u w h = into_any P L root_of t u w h
  into_top ρ (label n gs) t u w h = into_labelled P L root_of defs ρ n gs t u w h
  into_top ρ _ t u w h = h

  top_goes : (ρ : Binding) (e : Strategy) (t : Tree) → IsWhole (top_results P L ρ e t) → (top_of P L ρ e).cut t → ⊥
  top_goes ρ every_rule t w h = any_goes P L root_of t w h
  top_goes ρ (label n gs) t w h = labelled_goes P L root_of defs ρ n gs t w h
  top_goes ρ _ t w h = h

  pub from_results : (k : ℕ) (ρ : Binding) (e : Strategy) (t u : Tree) → IsLeaf e → Has u (results_of P L ρ e t) → Sat P L defs k ρ e t u
  from_results k ρ idle t u l (inl h) = h
  from_results k ρ idle t u l (inr h) = absurd h
  from_results k ρ fail t u l h = h
  from_results k ρ every_rule t u l h = from_any P L (places_of P) t u h
  from_results k ρ (label n gs) t u l h = from_labelled P L (places_of P) defs ρ n gs t u h
  from_results k ρ (top_only e) t u l h = from_top ρ e t u h
  from_results k ρ (test j p c) t u l h = from_tested P L asks j p c ρ t u h
  from_results k ρ (part_rewrite j p c us) t u l h = h
  from_results k ρ (label_by n gs es) t u l h = h
  from_results k ρ _ t u l h = absurd l

  into_results : (k : ℕ) (ρ : Binding) (e : Strategy) (t u : Tree) → IsLeaf e → IsWhole (results_of P L ρ e t) → Sat P L defs k ρ e t u → Has u (results_of P L ρ e t)
  into_results k ρ idle t u l w h = inl h
  into_results k ρ fail t u l w h = h
  into_results k ρ every_rule t u l w h = into_any P L (places_of P) t u w h
  into_results k ρ (label n gs) t u l w h = into_labelled P L (places_of P) defs ρ n gs t u w h
  into_results k ρ (top_only e) t u l w h = into_top ρ e t u w h
  into_results k ρ (test j p c) t u l w h = into_tested P L asks j p c ρ t u w h
  into_results k ρ (part_rewrite j p c us) t u l w h = h
  into_results k ρ (label_by n gs es) t u l w h = h
  into_results k ρ _ t u l w h = absurd l

  results_go : (k : ℕ) (ρ : Binding) (e : Strategy) (t : Tree) → IsLeaf e → IsWhole (results_of P L ρ e t) → Cut P L defs k ρ e t → ⊥
  results_go k ρ idle t l w h = h
  results_go k ρ fail t l w h = h
  results_go k ρ every_rule t l w h = any_goes P L (places_of P) t w h
  results_go k ρ (label n gs) t l w h = labelled_goes P L (places_of P) defs ρ n gs t w h
  results_go k ρ (top_only e) t l w h = top_goes ρ e t w h
  results_go k ρ (test j p c) t l w h = tested_goes P L asks j p c ρ t w h
  results_go k ρ (part_rewrite j p c us) t l w h = h
  results_go k ρ (label_by n gs es) t l w h = h
  results_go k ρ _ t l w h = absurd l

  whole_by : {A : Type 0} (p : Answers A) (us : List A) → p ≡ answers_of us → IsWhole p
  whole_by p us e = subst IsWhole (sym e) (whole_list us)

  call_is_right : (k : ℕ) (ρ : Binding) (n : List ℕ) (ts : List Tree) (t : Tree) (bs : List Todo) → BodyListWith P L defs k (record { form = call n ts; calls = k; values = ρ }) bs → (b : Todo) → IsIn b bs → (u : Tree) →
      Sat P L defs b.calls b.values b.form t u → Sat P L defs k ρ (call n ts) t u
  call_is_right zero ρ n ts t bs h b i u s = absurd h
  call_is_right (suc k) ρ n ts t bs h b i u s =
      let f = from_bodies P L defs k n ts ρ b (subst (Has b) (sym h) (list_has b bs i)) in
      (f.0, f.1, f.2, f.3, f.4, subst (λ z. Sat P L defs z.calls z.values z.form t u) f.5 s)

  pub rightly : LeavesAreRight P L defs (LeafList P L) (BodyList P L defs)
  rightly = record {
    leaf_gives = λ d t us h u s. has_list u us (subst (Has u) h.1 (into_results d.calls d.values d.form t u h.0 (whole_by (results P L d t) us h.1) s));
    leaf_right = λ d t us h u i. from_results d.calls d.values d.form t u h.0 (subst (Has u) (sym h.1) (list_has u us i));
    leaf_whole = λ d t us h c. results_go d.calls d.values d.form t h.0 (whole_by (results P L d t) us h.1) c;
    call_left = λ n ts ρ t bs h. h;
    call_gives = λ n ts ρ k t bs h u s.
        let w = whole_by (bodies_of P L defs k ρ n ts) bs h in
        let b : Todo = record { form = (s.0).body; calls = k; values = s.2 } in
        ((s.0).body, s.2, has_list b bs (subst (Has b) h (into_bodies P L defs k n ts ρ w s.0 s.1 s.2 s.3 s.4)), s.5);
    call_right = λ d n ts e t bs h b i u s. by_form d n ts e t bs h b i u s;
    call_whole = λ n ts ρ k t bs h c. whole_calls n ts ρ k t bs h c;
  }
    where
      by_form : (d : Todo) (n : List ℕ) (ts : List Tree) → d.form ≡ call n ts → (t : Tree) (bs : List Todo) → BodyList P L defs d t bs → (b : Todo) → IsIn b bs → (u : Tree) → (means P L defs (LeafList P L) (BodyList P L defs) b).sat t u → (means P L defs (LeafList P L) (BodyList P L defs) d).sat t u
      by_form d n ts e t bs h b i u s =
          let h2 : BodyListWith P L defs d.calls (record { form = call n ts; calls = d.calls; values = d.values }) bs = subst (λ z. BodyListWith P L defs d.calls (record { form = z; calls = d.calls; values = d.values }) bs) e h in
          subst (λ z. Sat P L defs d.calls d.values z t u) (sym e) (call_is_right d.calls d.values n ts t bs h2 b i u s)

      whole_calls : (n : List ℕ) (ts : List Tree) (ρ : Binding) (k : ℕ) (t : Tree) (bs : List Todo) → bodies_of P L defs k ρ n ts ≡ answers_of bs →
          (calls_at P L defs (suc k) ρ n ts).cut t → (e : Strategy) × (ρ' : Binding) × IsIn (record { form = e; calls = k; values = ρ' }) bs × Cut P L defs k ρ' e t
      whole_calls n ts ρ k t bs h (inl a) = absurd (values_all_go P L defs k n ts ρ (whole_by (bodies_of P L defs k ρ n ts) bs h) a)
      whole_calls n ts ρ k t bs h (inr a) = on a.3
        where
          w : IsWhole (bodies_of P L defs k ρ n ts)
          w = whole_by (bodies_of P L defs k ρ n ts) bs h

          on : (AskingEnds P L (a.0).cond a.1 ⊎ ((σ' : Binding) × Shows P L (a.0).cond a.1 σ' × Cut P L defs k σ' (a.0).body t)) → (e : Strategy) × (ρ' : Binding) × IsIn (record { form = e; calls = k; values = ρ' }) bs × Cut P L defs k ρ' e t
          on (inl z) = absurd (bodies_go P L defs k n ts ρ (whole_by (bodies_of P L defs k ρ n ts) bs h) a.0 a.1 a.2 z)
          on (inr z) =
              let b : Todo = record { form = (a.0).body; calls = k; values = z.0 } in
              ((a.0).body, z.0, has_list b bs (subst (Has b) h (into_bodies P L defs k n ts ρ (whole_by (bodies_of P L defs k ρ n ts) bs h) a.0 a.1 z.0 a.2 z.1)), z.2)

pub ordered_lists_are_right : OrderedListsAreRight
ordered_lists_are_right P L defs asks = rightly P L defs asks
