-- The solutions of a pattern as the uses of a rule that has no condition: with engines whose askings of no condition give what is bound, uses and solutions are
-- left side by side; and engines that have no answer to some asking match as before.
use Rattle.std.proofs.Common.{◌≡◌, ◌⊎◌, inl, inr, ℕ, List, [], ◌∷◌, Bool, true, false, ◌&&◌, if◌then◌else◌, Option, Some, None, Result, Ok, Err, refl, sym, ap, ◌∙◌, subst}
use Rattle.std.specs.Option.{option_map}
use Rattle.mau_terms.specs.Tree.{Tree}
use Rattle.mau_terms.specs.Subst.{variables}
use Rattle.mau_listing.specs.Finite.{comes_behind}
use Rattle.mau_program.specs.declared.program.Program as Typed
use Rattle.mau_evaluation.specs.Run.{End, stopped, too_deep, overflowed, Outcome, done, ended, Run}
use Rattle.mau_evaluation.specs.Program.{Fragment, Rule, Program}
use Rattle.mau_evaluation.specs.Listing.{Solution, keep, compare, solutions}
use Rattle.mau_evaluation.specs.Evaluation.{Binding, extend, agree, have_sorts}
use Rattle.mau_evaluation.specs.Engine.{Engine, engine_of}
use Rattle.mau_evaluation.specs.Eventually.{Eventually}
use Rattle.mau_evaluation.specs.Questions.{Question, evaluates, takes_sorts, asks, asks_after, same_binding, same_condition, but_ends, without, EndsUnder}
use Rattle.mau_evaluation.specs.Answers.{Answers, no_more, ends_by, answer, answers_of, before, and_those, for_each, asking, from_outcome, when}
use Rattle.mau_evaluation.specs.OrderedLists.{shown, asked_from, asked, argument_at, argument_solutions}
use Rattle.mau_api.specs.Meanings.{Meanings}
use Rattle.mau_api.specs.Answers.{IsSolutionOf, first_one, one_behind, levels_of_condition}
use Rattle.mau_api.specs.declared.results.EvalEnd.{EvalEnd}
use Rattle.mau_api.specs.declared.results.EvalEnd.TheVariants.{Stopped, TooDeep, Overflow, NoMemory}
use Rattle.mau_rules.specs.Runnable.{GoesBy}
use Rattle.mau_leaves.specs.Steps.{Gives, IsOver, Passes, EndsNow, Throughout, IsDue}
use Rattle.mau_leaves.specs.Uses.{Use, Stand, behind, at_one, solutions_as, solutions_behind, use_by, uses_for, uses_at, uses_among, IsAskedBehind, IsLeft}
use Rattle.mau_leaves.specs.Answers.{IsDueBy}
use Rattle.mau_leaves.specs.Searches.{IsNextOne}
use Rattle.mau_leaves.specs.InTurn.{just}
use Rattle.mau_leaves.specs.Arguments.{matched_by, matched_among, left_matched}
use Rattle.mau_leaves.proofs.Rewrites.{those_none, each_those, each_each, each_same}
use Rattle.mau_leaves.proofs.Steps.{both_so, always_so}

-- ---- engines whose askings of no condition give what is bound

pub record AsksPlainly (L : Engine) : Type 0 where
  pub first : (τ : Binding) → (r : ℕ) × (l : ℕ) × (L.ask [] τ L.budget ≡ done (Some τ) r l)
  pub next : (last τ : Binding) → (r : ℕ) × (l : ℕ) × (L.ask_after last [] τ L.budget ≡ done None r l)

engines_plainly : (P : Program) (k B b : ℕ) → AsksPlainly (engine_of P k B b)
engines_plainly P k B b = record { first = λ τ. (0, b, refl); next = λ last τ. (0, b, refl) }

never_met : {A : Type 0} (b c : Bool) (o p : A) → (if ((b && false) && c) then o else p) ≡ p
never_met true c o p = refl
never_met false c o p = refl

module _ (L : Engine) (plain : AsksPlainly L) (e : End) where
  value_plainly : (t : Tree) → AsksPlainly (without L (evaluates t) e)
  value_plainly t = record { first = plain.first; next = plain.next }

  sorts_plainly : (t : Tree) → AsksPlainly (without L (takes_sorts t) e)
  sorts_plainly t = record { first = plain.first; next = plain.next }

  asks_plainly : (x : Fragment) (c : List Fragment) (σ : Binding) → AsksPlainly (without L (asks (x ∷ c) σ) e)
  asks_plainly x c σ = record { first = plain.first; next = plain.next }

  after_plainly : (m : Binding) (x : Fragment) (c : List Fragment) (σ : Binding) → AsksPlainly (without L (asks_after m (x ∷ c) σ) e)
  after_plainly m x c σ = record {
    first = plain.first;
    next = λ last τ. let h = plain.next last τ in (h.0, h.1, never_met (same_binding last m) _ (ended e) (L.ask_after last [] τ L.budget) ∙ h.2);
  }

-- ---- answers of answers

each_when : {A B : Type 0} (f : A → Answers B) (b : Bool) (p : Answers A) → for_each f (when b p) ≡ when b (for_each f p)
each_when f true p = refl
each_when f false p = refl

each_asking : {A B C : Type 0} (f : B → Answers C) (b : ℕ) (m : Run A) (g : A → Answers B) → for_each f (asking b m g) ≡ asking b m (λ x. for_each f (g x))
each_asking {A = A} f b m g = by (m b)
  where
    by : (o : Outcome A) → for_each f (from_outcome g o) ≡ from_outcome (λ x. for_each f (g x)) o
    by (done x r c) = refl
    by (ended e) = refl

-- ---- with one engine

abbrev values_by : Use → Answers Binding
values_by u = answer u.values no_more

module _ (P : Program) (L : Engine) (plain : AsksPlainly L) where
  -- nothing is asked
  asked_plainly : (τ : Binding) → asked P L [] τ ≡ answer τ no_more
  asked_plainly τ =
      let f = plain.first τ in
      let n = plain.next τ τ in
      ap (λ o. asked_from P L [] τ o (answer τ no_more)) f.2 ∙ ap (λ o. answer τ (asked_from P L [] τ o no_more)) n.2

  module _ (q : Rule) (none : q.cond ≡ []) where
    module _ (σ : Binding) where
      abbrev own : Solution → Binding
      own x = extend σ (variables q.left) x.values

      asked_own : (x : Solution) → asked P L q.cond (extend σ (variables q.left) x.values) ≡ answer (extend σ (variables q.left) x.values) no_more
      asked_own x = ap (λ c. asked P L c (own x)) none ∙ asked_plainly (own x)

      for_one : (x : Solution) → for_each values_by (uses_for P L q σ x) ≡ answer (extend σ (variables q.left) x.values) no_more
      for_one x = ap (λ z. for_each values_by (for_each (use_by q x) z)) (asked_own x)

      at_solution : (x : Solution) → for_each values_by (uses_at P L q σ x) ≡ matched_by P L q.left σ x
      at_solution x =
          each_when values_by (agree P.sign.theory σ (variables q.left) x.values) (asking L.budget (have_sorts L.level.sorts (variables q.left) x.values) λ ok. when ok (uses_for P L q σ x))
          ∙ ap (when (agree P.sign.theory σ (variables q.left) x.values))
          (each_asking values_by L.budget (have_sorts L.level.sorts (variables q.left) x.values) (λ ok. when ok (uses_for P L q σ x))
          ∙ (λ i. asking L.budget (have_sorts L.level.sorts (variables q.left) x.values) λ ok. tested ok i))
        where
          tested : (ok : Bool) → for_each values_by (when ok (uses_for P L q σ x)) ≡ when ok (answer (extend σ (variables q.left) x.values) no_more)
          tested ok = each_when values_by ok (uses_for P L q σ x) ∙ ap (when ok) (for_one x)

      among : (xs : List Solution) → for_each values_by (uses_among P L q σ xs) ≡ matched_among P L q.left σ xs
      among xs = each_each values_by (uses_at P L q σ) (answers_of xs) ∙ each_same (λ x. for_each values_by (uses_at P L q σ x)) (matched_by P L q.left σ) at_solution (answers_of xs)

      -- what is asked on behind what was given is nothing
      asked_behind : (c : List Fragment) → c ≡ [] → (τ last : Binding) (rest : Answers Binding) → IsAskedBehind P L c τ last rest → rest ≡ no_more
      asked_behind c e τ last rest h = by (subst (λ d. IsAskedBehind P L d τ last rest) e h)
        where
          nothing_more : (given : List Binding) (more : Answers Binding) → answer τ no_more ≡ before given (answer last more) → more ≡ no_more
          nothing_more [] more k = cc
          nothing_more (g ∷ []) more k = cc
          nothing_more (g ∷ h ∷ gs) more k = cc

          by : IsAskedBehind P L [] τ last rest → rest ≡ no_more
          by h =
              let n = plain.next last τ in
              h.rest_is ∙ (ap (λ o. asked_from P L [] τ o h.more) n.2 ∙ ap (asked_from P L [] τ (done None n.0 n.1)) (nothing_more h.given h.more h.listed))

      abbrev U : Tree → Stand → Answers Use → Type 0
      U t s = IsLeft P L true q σ t s

      to_matched : (t : Tree) (s : Stand) (p : Answers Use) → IsLeft P L true q σ t s p → for_each values_by p ≡ left_matched P L q σ t s
      to_matched t (behind last) p n = ap (for_each values_by) n ∙ among (solutions_behind P true q t last)
      to_matched t (at_one x None) p (rest, n, h) =
          ap (for_each values_by) (h ∙ ap (λ z. and_those (for_each (use_by q x) z) (uses_among P L q σ (solutions_behind P true q t (Some x)))) (n ∙ asked_own x))
          ∙ ap (answer (own x)) (among (solutions_behind P true q t (Some x)))
      to_matched t (at_one x (Some last)) p (rest, n, h) =
          ap (for_each values_by) (h ∙ ap (λ z. and_those (for_each (use_by q x) z) (uses_among P L q σ (solutions_behind P true q t (Some x)))) (asked_behind q.cond none (own x) last rest n))
          ∙ among (solutions_behind P true q t (Some x))

      -- what was found is the binding of the solution
      abbrev pub IsOwn : Stand → Type 0
      IsOwn (behind last) = Unit {0}
      IsOwn (at_one x None) = Unit {0}
      IsOwn (at_one x (Some last)) = last ≡ extend σ (variables q.left) x.values

      there : (t : Tree) (s : Stand) → IsOwn s → (p : Answers Use) × IsLeft P L true q σ t s p
      there t (behind last) h = (uses_among P L q σ (solutions_behind P true q t last), refl)
      there t (at_one x None) h = (_, (asked P L q.cond (own x), refl, refl))
      there t (at_one x (Some last)) h = (
        _,
        (
          asked_from P L q.cond (own x) (L.ask_after last q.cond (own x) L.budget) no_more,
          record { given = []; more = no_more; listed = ap (λ c. shown P L c (own x)) none ∙ ap (λ τ. answer τ no_more) (sym h); rest_is = refl },
          refl,
        ),
      )

    -- ---- one step

    module _ (σ : Binding) (t : Tree) (s : Stand) (is : IsOwn σ s) where
      abbrev Old : Answers Binding
      Old = left_matched P L q σ t s

      ends_matched : (e : End) → EndsNow (IsLeft P L true q σ t s) e → left_matched P L q σ t s ≡ ends_by e
      ends_matched e h = let p = there σ t s is in sym (to_matched σ t s p.0 p.1) ∙ ap (for_each values_by) (h p.0 p.1)

      over_matched : IsOver (IsLeft P L true q σ t s) → left_matched P L q σ t s ≡ no_more
      over_matched h = let p = there σ t s is in sym (to_matched σ t s p.0 p.1) ∙ ap (for_each values_by) (h p.0 p.1)

      module _ (σ' : Binding) (t' : Tree) (s' : Stand) where
        gives_matched : (u : Use) → Gives (IsLeft P L true q σ t s) u (IsLeft P L true q σ' t' s') → left_matched P L q σ t s ≡ answer u.values (left_matched P L q σ' t' s')
        gives_matched u h =
            let p = there σ t s is in
            let g = h p.0 p.1 in
            sym (to_matched σ t s p.0 p.1) ∙ (ap (for_each values_by) g.1 ∙ ap (answer u.values) (to_matched σ' t' s' g.0 g.2))

        passes_matched : Passes (IsLeft P L true q σ t s) (IsLeft P L true q σ' t' s') → left_matched P L q σ t s ≡ left_matched P L q σ' t' s'
        passes_matched h = let p = there σ t s is in sym (to_matched σ t s p.0 p.1) ∙ to_matched σ' t' s' p.0 (h p.0 p.1)

-- ---- throughout

module _ (P : Program) (q : Rule) (none : q.cond ≡ []) (σ : Binding) (t : Tree) (s : Stand) (is : (L : Engine) (plain : AsksPlainly L) → IsOwn P L plain q none σ s) where
  abbrev Uses : Engine → Answers Use → Type 0
  Uses L = IsLeft P L true q σ t s

  abbrev Matched : Engine → Answers Binding
  Matched L = left_matched P L q σ t s

  ends_as : (L : Engine) → AsksPlainly L → (e : End) → EndsNow (Uses L) e → EndsNow (just Matched L) e
  ends_as L plain e h r n = n ∙ ends_matched P L plain q none σ t s (is L plain) e h

  -- with engines that have no answer to some asking what is matched is the same, so K need not be said of them
  through_matched : {H K : Engine → Type 0} → ((L : Engine) → AsksPlainly L → H L → K L) → ((L : Engine) (c : List Fragment) (τ : Binding) (e : End) → K L → K (without L (asks c τ) e)) →
      ((L : Engine) (last : Binding) (c : List Fragment) (τ : Binding) (e : End) → K L → K (without L (asks_after last c τ) e)) → Throughout (engine_of P) Uses H → Throughout (engine_of P) (just Matched) K
  through_matched {H = H} {K = K} f stays stays_after h = record { always = holds; without_one = others }
    where
      holds : Eventually (engine_of P) K
      holds = both_so (engine_of P) {A = AsksPlainly} {B = H} {C = K} (λ L plain k. f L plain k) (always_so (engine_of P) {A = AsksPlainly} (engines_plainly P)) h.always

      by : (L : Engine) (e : End) → AsksPlainly L → H L ⊎ EndsNow (Uses L) e → K L ⊎ EndsNow (just Matched L) e
      by L e plain (inl k) = inl (f L plain k)
      by L e plain (inr k) = inr (ends_as L plain e k)

      others : (u : Question) (e : End) → Eventually (engine_of P) (λ L. K (without L u e) ⊎ EndsNow (just Matched (without L u e)) e)
      others (evaluates v) e =
          both_so (engine_of P) {A = AsksPlainly} {B = λ L. H (without L (evaluates v) e) ⊎ EndsNow (Uses (without L (evaluates v) e)) e} {C = λ L. K (without L (evaluates v) e) ⊎ EndsNow (just Matched (without L (evaluates v) e)) e}
          (λ L plain k. by (without L (evaluates v) e) e (value_plainly L plain e v) k) (always_so (engine_of P) {A = AsksPlainly} (engines_plainly P)) (h.without_one (evaluates v) e)
      others (takes_sorts v) e =
          both_so (engine_of P) {A = AsksPlainly} {B = λ L. H (without L (takes_sorts v) e) ⊎ EndsNow (Uses (without L (takes_sorts v) e)) e} {C = λ L. K (without L (takes_sorts v) e) ⊎ EndsNow (just Matched (without L (takes_sorts v) e)) e}
          (λ L plain k. by (without L (takes_sorts v) e) e (sorts_plainly L plain e v) k) (always_so (engine_of P) {A = AsksPlainly} (engines_plainly P)) (h.without_one (takes_sorts v) e)
      others (asks c τ) e = record { level = holds.level; each = holds.each; budget = holds.budget; holds = λ k B b i j l. inl (stays (engine_of P k B b) c τ e (holds.holds k B b i j l)) }
      others (asks_after last c τ) e =
          record { level = holds.level; each = holds.each; budget = holds.budget; holds = λ k B b i j l. inl (stays_after (engine_of P k B b) last c τ e (holds.holds k B b i j l)) }

  -- ---- an end that is due

  not_ended : {A : Type 0} (o : Outcome A) (x : A) (r l : ℕ) (e : End) → o ≡ done x r l → o ≡ ended e → ⊥
  not_ended o x r l e h k = let same : done x r l ≡ ended e = sym h ∙ k in cc

  never_asked : (k b : ℕ) (τ : Binding) (e : End) → EndsUnder P (engine_of P) [] k b (asks [] τ) e → ⊥
  never_asked k b τ stopped h = cc
  never_asked k b τ too_deep h = cc
  never_asked k b τ overflowed h = cc

  never_asked_after : (k b : ℕ) (last τ : Binding) (e : End) → EndsUnder P (engine_of P) [] k b (asks_after last [] τ) e → ⊥
  never_asked_after k b last τ stopped h = cc
  never_asked_after k b last τ too_deep h = cc
  never_asked_after k b last τ overflowed h = cc

  needs_as : (k b : ℕ) (u : Question) (e : End) → EndsUnder P (engine_of P) [] k b u e → ((f : End) → Eventually (engine_of P) (λ L. EndsNow (Uses (without L u f)) f)) →
      (f : End) → Eventually (engine_of P) (λ L. EndsNow (just Matched (without L u f)) f)
  needs_as k b (evaluates v) e ends needs f =
      both_so (engine_of P) {A = AsksPlainly} {B = λ L. EndsNow (Uses (without L (evaluates v) f)) f} {C = λ L. EndsNow (just Matched (without L (evaluates v) f)) f}
      (λ L plain h. ends_as (without L (evaluates v) f) (value_plainly L plain f v) f h) (always_so (engine_of P) {A = AsksPlainly} (engines_plainly P)) (needs f)
  needs_as k b (takes_sorts v) e ends needs f =
      both_so (engine_of P) {A = AsksPlainly} {B = λ L. EndsNow (Uses (without L (takes_sorts v) f)) f} {C = λ L. EndsNow (just Matched (without L (takes_sorts v) f)) f}
      (λ L plain h. ends_as (without L (takes_sorts v) f) (sorts_plainly L plain f v) f h) (always_so (engine_of P) {A = AsksPlainly} (engines_plainly P)) (needs f)
  needs_as k b (asks [] τ) e ends needs f = absurd (never_asked k b τ e ends)
  needs_as k b (asks (x ∷ c) τ) e ends needs f =
      both_so (engine_of P) {A = AsksPlainly} {B = λ L. EndsNow (Uses (without L (asks (x ∷ c) τ) f)) f} {C = λ L. EndsNow (just Matched (without L (asks (x ∷ c) τ) f)) f}
      (λ L plain h. ends_as (without L (asks (x ∷ c) τ) f) (asks_plainly L plain f x c τ) f h) (always_so (engine_of P) {A = AsksPlainly} (engines_plainly P)) (needs f)
  needs_as k b (asks_after last [] τ) e ends needs f = absurd (never_asked_after k b last τ e ends)
  needs_as k b (asks_after last (x ∷ c) τ) e ends needs f =
      both_so (engine_of P) {A = AsksPlainly} {B = λ L. EndsNow (Uses (without L (asks_after last (x ∷ c) τ) f)) f} {C = λ L. EndsNow (just Matched (without L (asks_after last (x ∷ c) τ) f)) f}
      (λ L plain h. ends_as (without L (asks_after last (x ∷ c) τ) f) (after_plainly L plain f last x c τ) f h) (always_so (engine_of P) {A = AsksPlainly} (engines_plainly P)) (needs f)

  due_as_matched : (k b : ℕ) (e : End) → IsDue P (engine_of P) k b Uses e → IsDue P (engine_of P) k b (just Matched) e
  due_as_matched k b e h = record { question = h.question; ends = h.ends; needs = needs_as k b h.question e h.ends h.needs }

  due_matched : (b : ℕ) (e : EvalEnd) → IsDueBy P b Uses e → IsDueBy P b (just Matched) e
  due_matched b Stopped h = due_as_matched levels_of_condition b stopped h
  due_matched b TooDeep h = due_as_matched levels_of_condition b too_deep h
  due_matched b Overflow h = due_as_matched levels_of_condition b overflowed h
  due_matched b NoMemory h = tt

  -- ---- the next one

  module _ (σ' : Binding) (t' : Tree) (s' : Stand) where
    abbrev Uses' : Engine → Answers Use → Type 0
    Uses' L = IsLeft P L true q σ' t' s'

    abbrev Matched' : Engine → Answers Binding
    Matched' L = left_matched P L q σ' t' s'

    pub next_matched : (b : ℕ) (o : Option Use) (o' : Option Binding) → ((u : Use) → o ≡ Some u → o' ≡ Some u.values) → (r : Result Bool EvalEnd) →
        IsNextOne P b (λ L. IsLeft P L true q σ t s) (λ L. IsLeft P L true q σ' t' s') o r → IsNextOne P b (just (λ L. left_matched P L q σ t s)) (just (λ L. left_matched P L q σ' t' s')) o' r
    next_matched b o o' same (Ok true) (u, e, h) = (
      u.values,
      same u e,
      through_matched {H = λ L. Gives (Uses L) u (Uses' L)} {K = λ L. Gives (just Matched L) u.values (just Matched' L)} (λ L plain k r n. (Matched' L, n ∙ gives_matched P L plain q none σ t s (is L plain) σ' t' s' u k, refl))
          (λ L c τ e k. k) (λ L last c τ e k. k) h,
    )
    next_matched b o o' same (Ok false) h =
        through_matched {H = λ L. IsOver (Uses L)} {K = λ L. IsOver (just Matched L)} (λ L plain k r n. n ∙ over_matched P L plain q none σ t s (is L plain) k) (λ L c τ e k. k) (λ L last c τ e k. k) h
    next_matched b o o' same (Err e) (h, d) = (
      through_matched {H = λ L. Passes (Uses L) (Uses' L)} {K = λ L. Passes (just Matched L) (just Matched' L)} (λ L plain k r n. n ∙ passes_matched P L plain q none σ t s (is L plain) σ' t' s' k)
          (λ L c τ e k. k) (λ L last c τ e k. k) h,
      due_matched b e d,
    )

-- ---- what solves no condition

pub solved_plainly : (p : Typed.Program) (m : Meanings) → GoesBy p m → (c : List Fragment) → c ≡ [] → (σ x : Binding) → IsSolutionOf m c σ x → x ≡ σ
solved_plainly p m goes c none σ x h = by x (subst (λ d. IsSolutionOf m d σ x) none h)
  where
    of_done : (y : Binding) (b r l : ℕ) → (let o : Outcome (Option Binding) = done (Some σ) 0 b in o ≡ done (Some y) r l) → y ≡ σ
    of_done y b r l e = cc

    none_done : (y : Binding) (b r l : ℕ) → (let o : Outcome (Option Binding) = done None 0 b in o ≡ done (Some y) r l) → y ≡ σ
    none_done y b r l e = cc

    by : (y : Binding) → IsSolutionOf m [] σ y → y ≡ σ
    by y (first_one _ k B b r l e) = of_done y b r l (sym (ap (λ (n : Meanings). n.solving k B [] σ b) goes.defined) ∙ e)
    by y (one_behind last _ k B b r l i e) = none_done y b r l (sym (ap (λ (n : Meanings). n.solving_after k B last [] σ b) goes.defined) ∙ e)

-- ---- all solutions of one pattern, and then of the others

keep_all : {A : Type 0} (xs : List A) → keep (λ x. true) xs ≡ xs
keep_all [] = refl
keep_all (x ∷ xs) = ap (λ ys. x ∷ ys) (keep_all xs)

module _ (P : Program) (L : Engine) where
  one_matched : (f : Binding → Answers Binding) (p : Tree) (σ : Binding) (x : Solution) → for_each f (matched_by P L p σ x) ≡ argument_at P L p σ x (f (extend σ (variables p) x.values))
  one_matched f p σ x =
      each_when f (agree P.sign.theory σ (variables p) x.values) (asking L.budget (have_sorts L.level.sorts (variables p) x.values) λ ok. when ok (answer (extend σ (variables p) x.values) no_more))
      ∙ ap (when (agree P.sign.theory σ (variables p) x.values))
      (each_asking f L.budget (have_sorts L.level.sorts (variables p) x.values) (λ ok. when ok (answer (extend σ (variables p) x.values) no_more))
      ∙ (λ i. asking L.budget (have_sorts L.level.sorts (variables p) x.values) λ ok. tested ok i))
    where
      tested : (ok : Bool) → for_each f (when ok (answer (extend σ (variables p) x.values) no_more)) ≡ when ok (f (extend σ (variables p) x.values))
      tested ok = each_when f ok (answer (extend σ (variables p) x.values) no_more) ∙ ap (when ok) (those_none (f (extend σ (variables p) x.values)))

  pub patterns_in_turn : (q : Rule) (ps vs : List Tree) (v : Tree) (σ : Binding) → for_each (argument_solutions P L ps vs) (left_matched P L q σ v (behind None)) ≡ argument_solutions P L (q.left ∷ ps) (v ∷ vs) σ
  patterns_in_turn q ps vs v σ =
      ap (λ xs. for_each (argument_solutions P L ps vs) (matched_among P L q.left σ xs)) (keep_all (solutions P.sign q.left v))
      ∙ (each_each (argument_solutions P L ps vs) (matched_by P L q.left σ) (answers_of (solutions P.sign q.left v))
      ∙ each_same (λ x. for_each (argument_solutions P L ps vs) (matched_by P L q.left σ x)) (λ x. argument_at P L q.left σ x (argument_solutions P L ps vs (extend σ (variables q.left) x.values)))
      (one_matched (argument_solutions P L ps vs) q.left σ) (answers_of (solutions P.sign q.left v)))
