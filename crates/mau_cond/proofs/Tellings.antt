-- What a path has to compute once it was told a value or a solution.
use Rattle.std.proofs.Common.{◌≡◌, ℕ, suc, ◌≤◌, List, [], ◌∷◌, ◌++◌, Bool, true, false, if◌then◌else◌, Option, Some, None, All, map, take, drop, length, slice_get, ◌||◌, refl, sym, ap, ◌∙◌, subst, arith}
use Rattle.std.proofs.Math.Seq.{take-length}
use Rattle.std.proofs.lemmas.List.{take-map}
use Rattle.mau_terms.specs.Tree.{Tree}
use Rattle.mau_terms.specs.Subst.{variables, same_variable}
use Rattle.mau_terms.specs.View.{tree_of, variable_of}
use Rattle.mau_terms.specs.declared.bare.Bare.{Bare}
use Rattle.mau_terms.specs.declared.ids.VarId.{VarId}
use Rattle.mau_terms.specs.declared.ids.TermId.{TermId}
use Rattle.mau_signature.specs.Signature.{SignatureOf}
use Rattle.mau_store.specs.Node.{Node}
use Rattle.mau_store.specs.Trees.{tree_at}
use Rattle.mau_sorts.specs.Table.{Table}
use Rattle.mau_program.specs.declared.statements.Fragment as Written
use Rattle.mau_program.specs.declared.statements.Fragment.TheVariants as Part
use Rattle.mau_evaluation.specs.Run.{done, counted_if}
use Rattle.mau_evaluation.specs.Program.{Fragment, matches, Program}
use Rattle.mau_evaluation.specs.Listing.{Solution, keep, solutions}
use Rattle.mau_evaluation.specs.Evaluation.{Binding, Level, extend, binds, agree}
use Rattle.mau_api.specs.Programs.{fragment_of}
use Rattle.mau_api.specs.Answers.{binding_in, IsValueOf}
use Rattle.mau_cond.specs.declared.stage.Station.{Station}
use Rattle.mau_cond.specs.declared.stage.Stage.{Stage}
use Rattle.mau_cond.specs.declared.stage.Stage.TheVariants.{Open, First, Both, Due, Failed}
use Rattle.mau_cond.specs.Bound.{is_bound, extended}
use Rattle.mau_cond.specs.Path.{Path, IsMatching, AreNested, IsPath}
use Rattle.mau_cond.specs.Meaning.{Left, left_at, AreTaken, solve_from, matched, with_first, tried, chosen, goes_on, through, whole, LeftAfter, IsTold, SameWhole, TakesValue, TakesSolution, TakesNone}
use Rattle.mau_cond.specs.Known.{IsToldValue, IsKnown}
use Rattle.mau_cond.specs.Steps.{failing}
use Rattle.mau_cond.proofs.Lists.{no_end}
use Rattle.mau_cond.proofs.Pairs.{added, all_extended}
use Rattle.mau_cond.proofs.Stations.{from_place, nested_push, nested_pop, through_push, through_same, one_told, chosen_sorted, chosen_from}
use Rattle.mau_cond.proofs.Steps.{all_last}

-- ---- bindings

bound_same : (nodes : List Node) (bs : List (VarId × TermId)) (x : VarId) → is_bound bs x ≡ binds (binding_in nodes bs) (variable_of x)
bound_same nodes [] x = refl
bound_same nodes (b ∷ bs) x = ap (λ w. same_variable (variable_of b.0) (variable_of x) || w) (bound_same nodes bs x)

bound_end : (nodes : List Node) (bs : List (VarId × TermId)) (b : VarId × TermId) → binding_in nodes (bs ++ b ∷ []) ≡ binding_in nodes bs ++ (variable_of b.0, tree_at nodes b.1.0) ∷ []
bound_end nodes [] b = refl
bound_end nodes (x ∷ bs) b = ap {A = Binding} {B = Binding} (λ σ. (variable_of x.0, tree_at nodes x.1.0) ∷ σ) (bound_end nodes bs b)

pub extended_is : (nodes : List Node) (told bs : List (VarId × TermId)) →
    binding_in nodes (extended bs told) ≡ extend (binding_in nodes bs) (map (λ b. variable_of b.0) told) (map (λ b. tree_at nodes b.1.0) told)
extended_is nodes [] bs = refl
extended_is nodes (b ∷ told) bs =
    extended_is nodes told (if is_bound bs b.0 then bs else bs ++ b ∷ [])
    ∙ ap (λ σ. extend σ (map (λ x. variable_of x.0) told) (map (λ x. tree_at nodes x.1.0) told))
    (by (is_bound bs b.0) ∙ ap (λ w. if w then binding_in nodes bs else binding_in nodes bs ++ (variable_of b.0, tree_at nodes b.1.0) ∷ []) (bound_same nodes bs b.0))
  where
    by : (w : Bool) → binding_in nodes (if w then bs else bs ++ b ∷ []) ≡ (if w then binding_in nodes bs else binding_in nodes bs ++ (variable_of b.0, tree_at nodes b.1.0) ∷ [])
    by true = refl
    by false = bound_end nodes bs b

binding_all : (nodes : List Node) (n : ℕ) (bound : List (VarId × TermId)) → n ≡ length bound → take n (binding_in nodes bound) ≡ binding_in nodes bound
binding_all nodes n bound e =
    take-map (λ b. (variable_of b.0, tree_at nodes b.1.0)) n bound ∙ ap (binding_in nodes) (ap (λ m. take m bound) e ∙ take-length bound)

matching_is : (o : Option Written.Fragment) → IsMatching o → (q : Bare) × (u : Bare) × (o ≡ Some (Part.Match q u))
matching_is None h = absurd h
matching_is (Some (Part.Equal t u)) h = absurd h
matching_is (Some (Part.Match t u)) h = (t, u, refl)
matching_is (Some (Part.Sort t u)) h = absurd h
matching_is (Some (Part.Reach t u)) h = absurd h

-- a path that stands at a stage
pub takes_at : (nodes : List Node) (p new : Path) (k : Stage) (v : Tree) → p.stage ≡ k →
    TakesValue nodes (record { cond = p.cond; bound = p.bound; stations = p.stations; at = p.at; stage = k }) new v → TakesValue nodes p new v
takes_at nodes p new k v e h =
    subst (λ z. TakesValue nodes (record { cond = p.cond; bound = p.bound; stations = p.stations; at = p.at; stage = z }) new v) (sym e) h

-- ---- values

module _ (P : Program) (l : Level) where
  matched_chosen : (last : Option Binding) (p : Tree) (c : List Fragment) (σ : Binding) (v : Tree) (zs : List Solution) → AreTaken P l last σ p v zs → (b : ℕ) →
      matched P l last p c σ v b ≡ chosen P l last p c σ zs b
  matched_chosen None p c σ v zs h b = chosen_sorted P l p c σ (keep (λ x. agree P.sign.theory σ (variables p) x.values) (solutions P.sign p v)) zs h b
  matched_chosen (Some last) p c σ v zs h b =
      chosen_from P l p c σ last (λ x. agree P.sign.theory last (variables p) x.values) (keep (λ x. agree P.sign.theory σ (variables p) x.values) (solutions P.sign p v)) zs h b

  left_same : (last : Option Binding) (f : Written.Fragment) (rest : List Fragment) (σ : Binding) (v : Tree) (n r : ℕ) (xs ys : List Left) → (IsMatching (Some f) → ⊥) →
      LeftAfter P l last (fragment_of f ∷ rest) σ v n r xs ys → xs ≡ ys
  left_same last (Part.Equal t u) rest σ v n r xs ys none h = sym h
  left_same last (Part.Match t u) rest σ v n r xs ys none h = absurd (none tt)
  left_same last (Part.Sort t u) rest σ v n r xs ys none h = sym h
  left_same last (Part.Reach t u) rest σ v n r xs ys none h = sym h

module _ (nodes : List Node) (cond : List Written.Fragment) (bound : List (VarId × TermId)) (ss : List Station) (i : ℕ) where
  abbrev at_path : Stage → Path
  at_path k = record { cond = cond; bound = bound; stations = ss; at = i; stage = k }

  abbrev c : List Fragment
  c = map fragment_of cond

  abbrev σ : Binding
  σ = binding_in nodes bound

  -- u in p := u has a value
  pub station_told : (v : TermId) (n : ℕ) (q u : Bare) → n ≡ length bound → slice_get cond i ≡ Some (Part.Match q u) →
      TakesValue nodes (at_path Open) (at_path (Due (record { at = i; value = v; bound = n }))) (tree_at nodes v.0)
  station_told v n q u e f P l last lefts more r b h =
      let s : Station = record { at = i; value = v; bound = n } in
      let rest = drop (suc i) c in
      let place = from_place cond i (Part.Match q u) f in
      let k = subst (λ z. LeftAfter P l last z σ (tree_at nodes v.0) (length ss) r lefts more) place h in
      let x = left_at r k.0 last in
      ap (λ z. through P l c σ z lefts (counted_if r (with_first P l last (drop i c) σ (tree_at nodes v.0) b))) (no_end ss)
      ∙ (ap (λ z. through P l c σ ss lefts (counted_if r (with_first P l last z σ (tree_at nodes v.0) b))) place
      ∙ (ap (λ o. through P l c σ ss lefts (counted_if r o)) (matched_chosen P l last (tree_of q) rest σ (tree_at nodes v.0) k.0 k.1 b)
      ∙ (ap (λ z. through P l c σ ss lefts (goes_on P l (matches (tree_of q) (tree_of u) ∷ rest) z x (done None 0 b))) (sym (binding_all nodes n bound e))
      ∙ (ap (λ z. through P l c σ ss lefts (goes_on P l z (take n σ) x (done None 0 b))) (sym place)
      ∙ (sym (through_push P l c σ ss lefts s x (done None 0 b) k.2)
      ∙ ap (λ z. through P l c σ (ss ++ s ∷ []) z (done None 0 b)) (sym k.3))))))

  -- t in t = u or in t : s has a value
  pub first_told : (v : TermId) (f : Written.Fragment) → slice_get cond i ≡ Some f → (IsMatching (Some f) → ⊥) → TakesValue nodes (at_path Open) (at_path (First v)) (tree_at nodes v.0)
  first_told v f e none P l last lefts more r b h =
      ap (λ z. through P l c σ (ss ++ []) z (counted_if r (with_first P l last (drop i c) σ (tree_at nodes v.0) b)))
      (left_same P l last f (drop (suc i) c) σ (tree_at nodes v.0) (length ss) r lefts more none
      (subst (λ z. LeftAfter P l last z σ (tree_at nodes v.0) (length ss) r lefts more) (from_place cond i f e) h))

  -- u in t = u has a value
  pub second_told : (v w : TermId) (f : Written.Fragment) → slice_get cond i ≡ Some f → (IsMatching (Some f) → ⊥) → TakesValue nodes (at_path (First v)) (at_path (Both v w)) (tree_at nodes w.0)
  second_told v w f e none P l last lefts more r b h =
      ap (λ z. whole P l nodes (at_path (Both v w)) last z r b)
      (left_same P l last f (drop (suc i) c) σ (tree_at nodes w.0) (length ss) r lefts more none
      (subst (λ z. LeftAfter P l last z σ (tree_at nodes w.0) (length ss) r lefts more) (from_place cond i f e) h))

  -- ---- solutions

  module _ (s : Station) (w : IsPath (at_path (Due s))) where
    abbrev rest : List Fragment
    rest = drop (suc s.at) c

    here : (q : Bare) × (u : Bare) × (slice_get cond s.at ≡ Some (Part.Match q u))
    here = matching_is (slice_get cond s.at) (all_last (λ (x : Station). IsMatching (slice_get cond x.at)) ss s w.matching)

    place : drop s.at c ≡ matches (tree_of here.0) (tree_of here.1) ∷ rest
    place = from_place cond s.at (Part.Match here.0 here.1) here.2

    nested : AreNested 0 ss s.bound × (s.bound ≤ length bound)
    nested = nested_pop 0 ss s (length bound) w.nested

    pub solution_told : (told bound' : List (VarId × TermId)) (ss' : List Station) (j : ℕ) → bound' ≡ extended bound told → ss' ≡ ss ++ s ∷ [] → j ≡ suc s.at →
        TakesSolution nodes (at_path (Due s)) (record { cond = cond; bound = bound'; stations = ss'; at = j; stage = Open }) told
    solution_told told bound' ss' j e f g P l x xs any last lefts before r b t h =
        let p = tree_of here.0 in
        let u = tree_of here.1 in
        let L = left_at before (x ∷ xs) last in
        let L' = left_at before xs None in
        let τ = binding_in nodes bound' in
        let k = subst (λ z. IsTold nodes z told x) place t in
        let o = tried P l last p rest σ x b in
        let whole_bound = binding_all nodes s.bound bound (w.due s refl) in
        let same : τ ≡ extend σ (variables p) x.values =
        ap (binding_in nodes) e ∙ (extended_is nodes told bound ∙ (ap (λ ys. extend σ ys (map (λ y. tree_at nodes y.1.0) told)) k.0 ∙ ap (extend σ (variables p)) k.1)) in
        let front : take s.bound τ ≡ σ =
        take-map (λ y. (variable_of y.0, tree_at nodes y.1.0)) s.bound bound'
        ∙ ap (binding_in nodes) (ap (take s.bound) e ∙ (ap (λ n. take n (extended bound told)) (w.due s refl) ∙ (added told bound).0)) in
        through_push P l c σ ss lefts s L (done None 0 b) h
        ∙ (ap (λ z. through P l c σ ss lefts (goes_on P l z (take s.bound σ) L (done None 0 b))) place
        ∙ (ap (λ z. through P l c σ ss lefts (goes_on P l (matches p u ∷ rest) z L (done None 0 b))) whole_bound
        ∙ (ap (through P l c σ ss lefts) (one_told P l c p u rest σ before xs o)
        ∙ (through_same P l c 0 s.bound σ τ ss lefts (goes_on P l (matches p u ∷ rest) σ L' (counted_if 0 o)) nested.0 (whole_bound ∙ sym front)
        ∙ (ap (λ z. through P l c τ ss lefts (goes_on P l (matches p u ∷ rest) z L' (counted_if 0 o))) (sym front)
        ∙ (ap (λ z. through P l c τ ss lefts (goes_on P l z (take s.bound τ) L' (counted_if 0 o))) (sym place)
        ∙ (ap (λ z. through P l c τ ss lefts (goes_on P l (drop s.at c) (take s.bound τ) L' (counted_if 0 (solve_from P l last rest z b)))) (sym same)
        ∙ (ap (λ n. through P l c τ ss lefts (goes_on P l (drop s.at c) (take s.bound τ) L' (counted_if 0 (solve_from P l last (drop n c) τ b)))) (sym g)
        ∙ (sym (through_push P l c τ ss lefts s L' (counted_if 0 (solve_from P l last (drop j c) τ b)) h)
        ∙ ap (λ z. through P l c τ z (lefts ++ L' ∷ []) (counted_if 0 (solve_from P l last (drop j c) τ b))) (sym (no_end ss' ∙ f)))))))))))

    pub none_told : (new : Path) → SameWhole nodes (failing (at_path (Due s))) new → TakesNone nodes (at_path (Due s)) new
    none_told new same P l any last lefts before r b h =
        let L = left_at before [] last in
        through_push P l c σ ss lefts s L (done None 0 b) h
        ∙ (ap (λ z. through P l c σ ss lefts (goes_on P l z (take s.bound σ) L (done None 0 b))) place
        ∙ (ap (λ z. through P l c σ z lefts (done None 0 b)) (sym (no_end ss))
        ∙ same P l any lefts r b))

    -- the path goes on behind it
    pub told_path : (told bound' : List (VarId × TermId)) (ss' : List Station) (j : ℕ) → bound' ≡ extended bound told → ss' ≡ ss ++ s ∷ [] →
        IsPath (record { cond = cond; bound = bound'; stations = ss'; at = j; stage = Open })
    told_path told bound' ss' j e f =
        let more : s.bound ≤ length bound' =
        let q = (added told bound).1 in let m = nested.1 in let n : length (extended bound told) ≡ length bound' = ap length (sym e) in omega (arith, q, m, n) in
        record {
          few = w.few;
          matching = subst (All (λ (x : Station). IsMatching (slice_get cond x.at))) (sym (no_end ss' ∙ f)) w.matching;
          nested = subst (λ z. AreNested 0 z (length bound')) (sym (no_end ss' ∙ f)) (nested_push 0 ss s (length bound') nested.0 more);
          due = λ z q. absurd (open_due z q);
          told = tt;
          over = λ q. absurd (open_over q);
        }
      where
        open_due : (z : Station) → Open ≡ Due z → ⊥
        open_due z q = cc

        open_over : Open ≡ Failed → ⊥
        open_over q = cc

    pub told_known : (sig : SignatureOf) (table : Table) (told bound' : List (VarId × TermId)) (ss' : List Station) (j : ℕ) → bound' ≡ extended bound told → ss' ≡ ss ++ s ∷ [] →
        IsKnown sig nodes table (at_path (Due s)) → All (IsValueOf sig nodes table) told → IsKnown sig nodes table (record { cond = cond; bound = bound'; stations = ss'; at = j; stage = Open })
    told_known sig table told bound' ss' j e f h k = record {
      fragments = h.fragments;
      bound = subst (All (IsValueOf sig nodes table)) (sym e) (all_extended (IsValueOf sig nodes table) told bound h.bound k);
      stations = subst (All (λ (x : Station). IsToldValue sig nodes table x.value)) (sym (no_end ss' ∙ f)) h.stations;
      told = tt;
    }
