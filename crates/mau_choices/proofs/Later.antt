-- What is known of solutions stays in a later store and table, and what is left of them is the same.
use Rattle.std.proofs.Common.{◌≡◌, List, Bool, false, Option, None, Some, IfSome, sym, ap, ◌∙◌, subst}
use Rattle.std.specs.Option.{option_map}
use Rattle.mau_terms.specs.Tree.{Tree}
use Rattle.mau_terms.specs.declared.ids.VarId.{VarId}
use Rattle.mau_terms.specs.declared.ids.TermId.{TermId}
use Rattle.mau_signature.specs.Signature.{SignatureOf, theory_at}
use Rattle.mau_store.specs.Node.{Node, Extends}
use Rattle.mau_store.specs.Trees.{tree_at}
use Rattle.mau_sorts.specs.Table.{Table, KeepsEntries, AreOver}
use Rattle.mau_listing.specs.Asked.{Asked, asks, last_after, IsGiven, CanGoOn}
use Rattle.mau_listing.specs.declared.solution.Solution as Given
use Rattle.mau_listing.proofs.Growth.{listings_go_on, last_found_same, given_is_last}
use Rattle.mau_evaluation.specs.Program.{Fragment, Program}
use Rattle.mau_evaluation.specs.Evaluation.{Level}
use Rattle.mau_api.specs.Answers.{AreSettled, IsValueOf, binding_in}
use Rattle.mau_cond.proofs.Grown.{each, value_grown, bound_grown}
use Rattle.mau_reduce.specs.Trying.{solution_in}
use Rattle.mau_reduce.proofs.KindsKept.{tree_kept, is_term_kept}
use Rattle.mau_reduce.proofs.PlainTables.{settled_grown}
use Rattle.mau_reduce.proofs.Candidates.{same_option, matchers_of}
use Rattle.mau_choices.specs.Choosing.{left_of_choices, IsChoosing}

module _ (s : SignatureOf) (old new : List Node) (before after : Table) (p : Tree) (bound : List (VarId × TermId)) (v : TermId) (a : Asked) (last : Option Given.Solution) (is_for : Type 0)
    (extends : Extends old new) (kept : KeepsEntries before after) (over : AreOver s.hierarchy after) (is : IsChoosing s old before p bound v a last is_for) where
  pub value_same : tree_at new v.0 ≡ tree_at old v.0
  value_same = tree_kept (theory_at s) old new v.0 extends is.value.within

  pub binding_same : binding_in new bound ≡ binding_in old bound
  binding_same = bound_grown s old new before after extends kept bound is.values

  pub last_same : option_map (solution_in new) last ≡ option_map (solution_in old) last
  last_same =
      same_option (option_map (solution_in new) last) (option_map (solution_in old) last)
      (sym (matchers_of new last) ∙ (last_found_same old new extends s false before a last is.ready.given ∙ matchers_of old last))

  pub choosing_grown : IsChoosing s new after p bound v a last is_for
  choosing_grown = record {
    asked = is.asked;
    signature = is.signature;
    ready = listings_go_on false s old new before after extends kept over a last is.ready;
    values = each (IsValueOf s old before) (IsValueOf s new after) (value_grown s old new before after extends kept) bound is.values;
    apart = is.apart;
    value = is_term_kept s old new v.0 extends is.value;
    settled = subst (AreSettled s new after) (sym value_same) (settled_grown s old new before after (tree_at old v.0) extends kept is.settled);
  }

  pub left_same : (P : Program) (l : Level) (c : List Fragment) →
      left_of_choices P l p c (binding_in new bound) (tree_at new v.0) (option_map (solution_in new) last)
      ≡ left_of_choices P l p c (binding_in old bound) (tree_at old v.0) (option_map (solution_in old) last)
  left_same P l c =
      ap (λ σ. left_of_choices P l p c σ (tree_at new v.0) (option_map (solution_in new) last)) binding_same
      ∙ (ap (λ t. left_of_choices P l p c (binding_in old bound) t (option_map (solution_in new) last)) value_same
      ∙ ap (left_of_choices P l p c (binding_in old bound) (tree_at old v.0)) last_same)

  -- and so it does behind one more solution
  pub choosing_on : (c : Bool) → c ≡ false → (b : Asked) → b ≡ a → (answer more : Option Given.Solution) → more ≡ last_after last answer → IfSome answer (IsGiven c s new after a) →
      (still : Type 0) → still → IsChoosing s new after p bound v b more still
  choosing_on c w b e answer more m given still for = record {
    asked = e ∙ is.asked;
    signature = for;
    ready = subst (λ z. CanGoOn false s new after z more) (sym e) (subst (CanGoOn false s new after a) (sym m) (by answer given));
    values = choosing_grown.values;
    apart = is.apart;
    value = choosing_grown.value;
    settled = choosing_grown.settled;
  }
    where
      by : (o : Option Given.Solution) → IfSome o (IsGiven c s new after a) → CanGoOn false s new after a (last_after last o)
      by None h = choosing_grown.ready
      by (Some x) h = record {
        askable = choosing_grown.ready.askable;
        settled = choosing_grown.ready.settled;
        over = choosing_grown.ready.over;
        given = given_is_last false s new after a x (subst (λ z. IsGiven z s new after a x) w h);
      }

  -- and behind a solution that is given
  pub choosing_own : (x : Given.Solution) → IsGiven false s new after (asks p bound v) x → (b : Asked) → b ≡ asks p bound v → (more : Option Given.Solution) → more ≡ Some x → (still : Type 0) → still →
      IsChoosing s new after p bound v b more still
  choosing_own x given b e more m still for =
      let base : CanGoOn false s new after (asks p bound v) last = subst (λ z. CanGoOn false s new after z last) is.asked choosing_grown.ready in
      record {
        asked = e;
        signature = for;
        ready = subst (λ z. CanGoOn false s new after z more) (sym e) (subst (CanGoOn false s new after (asks p bound v)) (sym m) (record {
          askable = base.askable;
          settled = base.settled;
          over = base.over;
          given = given_is_last false s new after (asks p bound v) x given;
        }));
        values = choosing_grown.values;
        apart = is.apart;
        value = choosing_grown.value;
        settled = choosing_grown.settled;
      }
