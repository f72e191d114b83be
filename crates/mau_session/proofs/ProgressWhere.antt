-- What a query with a condition has shown after some of its next solutions.
use Rattle.std.proofs.Common.{◌≡◌, ℕ, zero, suc, ◌+◌, ◌-◌, ◌<◌, List, [], ◌∷◌, ◌++◌, length, Bool, true, false, Option, None, Some, Result, Ok, Err, IfOk, refl, sym, ap, ap₂, ◌∙◌, subst, arith, append_assoc, append-nil, length-append, add-zero}
use Rattle.std.specs.Prelude.{unwrap_or}
use Rattle.mau_terms.specs.declared.memory.NoMemory.{NoMemory as OutOfMemory}
use Rattle.mau_listing.specs.Matcher.{Matcher}
use Rattle.mau_listing.specs.Next.{matcher_cmp}
use Rattle.mau_evaluation.specs.Run.{End, stopped, too_deep, overflowed}
use Rattle.mau_program.specs.declared.statements.Fragment.{Fragment}
use Rattle.mau_api.specs.Meanings.{Meanings}
use Rattle.mau_api.specs.declared.results.EvalEnd.{EvalEnd}
use Rattle.mau_api.specs.declared.results.EvalEnd.TheVariants.{Stopped, TooDeep, Overflow, NoMemory}
use Rattle.mau_conditional.specs.Where as Conditional
use Rattle.mau_conditional.specs.Where.{Ending as EndingOf, no_more, bound_reached, ends_by, wants_one, one_fewer, enough_shown}
use Rattle.mau_conditional.specs.Meant.{Asks}
use Rattle.mau_conditional.specs.NextWhere.{next_is, none_is_left, asking_ended}
use Rattle.mau_conditional.proofs.Shown.{shows_next, shows_none, shows_end}
use Rattle.mau_module.specs.Modules.{ModuleOf}
use Rattle.mau_session.specs.Terms.{terms_in}
use Rattle.mau_session.specs.Matching.{IsSolution, last_shown}
use Rattle.mau_session.specs.Answers.{all_matchers, matcher_lines}
use Rattle.mau_session.specs.Query.{QueryOf, shown_more}
use Rattle.mau_session.specs.Where.{last_where}
use Rattle.mau_session.specs.KeptWhere.{ending_of, IsEndingBy, ShowsOneMore, ShowsNoMore, ShowsNextWhere, GainsMatchersWhere, GainsShownWhere}
use Rattle.mau_session.specs.declared.conditional.Ending.{Ending}
use Rattle.mau_session.specs.declared.conditional.Ending.TheVariants.{BoundReached}
use Rattle.mau_session.proofs.Showing.{last_shown-push}
use Rattle.mau_session.proofs.Progress.{matchers-push}

-- the same of equal meanings and conditions
pub shown_as : (m : ModuleOf) (e d : Meanings) (c f : List Fragment) → d ≡ e → f ≡ c → (q : QueryOf) (b : ℕ) (out : List ℕ) (r : Result Bool EvalEnd) (next : QueryOf) (new : List ℕ) (left : ℕ)
    → ShowsNextWhere m d f q b out r next new left → ShowsNextWhere m e c q b out r next new left
shown_as m e d c f same alike q b out r next new left s =
    subst (λ (z : Meanings). ShowsNextWhere m z c q b out r next new left) same (subst (λ (z : List Fragment). ShowsNextWhere m d z q b out r next new left) alike s)

-- an end is no bound that is reached
pub never_bound : (d : EvalEnd) (r : Result Ending OutOfMemory) → IfOk r (IsEndingBy d) → (P : Type 0) → IfOk r (λ x. x ≡ BoundReached → P)
never_bound d (Err x) is P = tt
never_bound Stopped (Ok x) is P = λ e. let f = sym is ∙ e in absurd cc
never_bound TooDeep (Ok x) is P = λ e. let f = sym is ∙ e in absurd cc
never_bound Overflow (Ok x) is P = λ e. let f = sym is ∙ e in absurd cc
never_bound NoMemory (Ok x) is P = absurd is

-- how many are asked for behind n of them
abbrev pub less : Option ℕ → ℕ → Option ℕ
less None n = None
less (Some k) n = Some (k - n)

less_none : (most : Option ℕ) → less most 0 ≡ most
less_none None = refl
less_none (Some k) = ap Some (omega arith)

less_one : (most : Option ℕ) (n : ℕ) → one_fewer (less most n) ≡ less most (n + 1)
less_one None n = refl
less_one (Some k) n = by (k - n) (k - (n + 1)) (omega arith) (omega arith)
  where
    by : (i j : ℕ) → (i ≡ 0 → j ≡ 0) → ((l : ℕ) → i ≡ suc l → j ≡ l) → one_fewer (Some i) ≡ Some j
    by zero j e f = ap Some (sym (e refl))
    by (suc l) j e f = ap Some (sym (f l refl))

some_left : (most : Option ℕ) (end n : ℕ) → n < unwrap_or most end → wants_one (less most n) ≡ true
some_left None end n h = refl
some_left (Some k) end n h = by (k - n) (omega (arith, h))
  where
    by : (i : ℕ) → 0 < i → wants_one (Some i) ≡ true
    by zero h = absurd (omega (arith, h))
    by (suc i) h = refl

none_left : (k n : ℕ) → n ≡ k → wants_one (less (Some k) n) ≡ false
none_left k n e = by (k - n) (omega (arith, e))
  where
    by : (i : ℕ) → i ≡ 0 → wants_one (Some i) ≡ false
    by zero e = refl
    by (suc i) e = absurd (omega (arith, e))

module _ (m : ModuleOf) (e : Meanings) (c : List Fragment) (q : QueryOf) (old : List ℕ) (most : Option ℕ) where
  -- what its solutions behind a last one show
  abbrev Behind : Option Matcher → ℕ → Option ℕ → List Matcher → EndingOf → Type 0
  Behind = Conditional.ShowsWhere (IsSolution m e q.with_context q.pattern q.subject) (matcher_cmp (terms_in m).theory q.pattern) (Asks e q.pattern c)

  pub record IsProgressWhere (now : QueryOf) (n b : ℕ) (new : List ℕ) : Type 0 where
    pub found : List Matcher
    pub after : now ≡ shown_more q found
    pub count : length found ≡ n
    pub leads : (more : List Matcher) (d : EndingOf) → Behind (last_shown q.last found) b (less most n) more d → Behind q.last e.limit most (found ++ more) d
    pub gained : new ≡ old ++ all_matchers m q.variables q.with_context q.pattern (q.shown + 1) found

  pub none_yet : IsProgressWhere q 0 e.limit old
  none_yet = record {
    found = [];
    after = ap (λ n. record q { shown = n }) (sym (add-zero q.shown));
    count = refl;
    leads = λ more d h. subst (λ k. Behind q.last e.limit k more d) (less_none most) h;
    gained = sym (append-nil old);
  }

  module _ (now : QueryOf) (n b : ℕ) (out : List ℕ) (p : IsProgressWhere now n b out) where
    pub one_more : (next : QueryOf) (k left end : ℕ) (new : List ℕ) → k ≡ n + 1 → n < unwrap_or most end → ShowsOneMore m e c now b out next new left → IsProgressWhere next k left new
    one_more next k left end new same h shows =
        let f = p.found in
        let s = subst (λ (z : QueryOf). ShowsOneMore m e c z b out next new left) p.after shows in
        let x = s.matcher in
        let l : length (f ++ x ∷ []) ≡ length f + 1 = length-append f (x ∷ []) in
        let many : (q.shown + length f) + 1 ≡ q.shown + length (f ++ x ∷ []) = omega (arith, l) in
        let number : (q.shown + length f) + 1 ≡ (q.shown + 1) + length f = omega arith in
        record {
          found = f ++ x ∷ [];
          after = s.after ∙ ap₂ (λ o n. record q { last = o; shown = n }) (sym (last_shown-push q.last f x)) many;
          count = l ∙ (ap (λ n. n + 1) p.count ∙ sym same);
          leads = λ more d g.
              let here : Behind (Some x) left (one_fewer (less most n)) more d =
              subst (λ z. Behind (Some x) left z more d) (sym (less_one most n))
              (subst (λ z. Behind (Some x) left (less most z) more d) same (subst (λ o. Behind o left (less most k) more d) (last_shown-push q.last f x) g)) in
              let with_it : Behind (last_shown q.last f) b (less most n) (x ∷ more) d =
              shows_next (IsSolution m e q.with_context q.pattern q.subject) (matcher_cmp (terms_in m).theory q.pattern) (Asks e q.pattern c) (last_shown q.last f) b x left s.is (less most n) (some_left most end n h) more d here in
              subst (λ z. Behind q.last e.limit most z d) (sym (append_assoc f (x ∷ []) more)) (p.leads (x ∷ more) d with_it);
          gained =
              s.gained
              ∙ (ap₂ (λ bytes k. bytes ++ matcher_lines m q.variables q.with_context q.pattern k x) p.gained number
              ∙ (append_assoc old (all_matchers m q.variables q.with_context q.pattern (q.shown + 1) f) (matcher_lines m q.variables q.with_context q.pattern ((q.shown + 1) + length f) x)
              ∙ ap (λ bytes. old ++ bytes) (sym (matchers-push m q.variables q.with_context q.pattern (q.shown + 1) f x))));
        }

    -- nothing more is shown
    stays : (next : QueryOf) (new : List ℕ) (d : EndingOf) → next ≡ now → new ≡ out → Behind (last_shown q.last p.found) b (less most n) [] d → GainsMatchersWhere m e c q next most old new d
    stays next new d after gained h = record {
      found = p.found;
      shows = subst (λ z. Behind q.last e.limit most z d) (append-nil p.found) (p.leads [] d h);
      after = after ∙ p.after;
      gained = gained ∙ p.gained;
    }

    pub none_more : (next : QueryOf) (left end : ℕ) (new : List ℕ) → n < unwrap_or most end → ShowsNoMore m e c now b out none_is_left next new left → GainsMatchersWhere m e c q next most old new no_more
    none_more next left end new h s =
        let z = subst (λ (z : QueryOf). ShowsNoMore m e c z b out none_is_left next new left) p.after s in
        stays next new no_more s.after s.gained
        (shows_none (IsSolution m e q.with_context q.pattern q.subject) (matcher_cmp (terms_in m).theory q.pattern) (Asks e q.pattern c) (last_shown q.last p.found) b left z.is (less most n) (some_left most end n h))

    ends_here : (next : QueryOf) (left end : ℕ) (new : List ℕ) (d : End) → n < unwrap_or most end → ShowsNoMore m e c now b out (asking_ended d) next new left → GainsMatchersWhere m e c q next most old new (ends_by d)
    ends_here next left end new d h s =
        let z = subst (λ (z : QueryOf). ShowsNoMore m e c z b out (asking_ended d) next new left) p.after s in
        stays next new (ends_by d) s.after s.gained
        (shows_end (IsSolution m e q.with_context q.pattern q.subject) (matcher_cmp (terms_in m).theory q.pattern) (Asks e q.pattern c) (last_shown q.last p.found) b d left z.is (less most n) (some_left most end n h))

    pub ends_with : (next : QueryOf) (left end : ℕ) (new : List ℕ) (d : EvalEnd) (r : Result Ending OutOfMemory) → IfOk r (IsEndingBy d) → n < unwrap_or most end
        → ShowsNextWhere m e c now b out (Err d) next new left → IfOk r (λ x. GainsMatchersWhere m e c q next most old new (ending_of x))
    ends_with next left end new d (Err x) is h s = tt
    ends_with next left end new Stopped (Ok x) is h s = subst (λ y. GainsMatchersWhere m e c q next most old new (ending_of y)) (sym is) (ends_here next left end new stopped h s)
    ends_with next left end new TooDeep (Ok x) is h s = subst (λ y. GainsMatchersWhere m e c q next most old new (ending_of y)) (sym is) (ends_here next left end new too_deep h s)
    ends_with next left end new Overflow (Ok x) is h s = subst (λ y. GainsMatchersWhere m e c q next most old new (ending_of y)) (sym is) (ends_here next left end new overflowed h s)
    ends_with next left end new NoMemory (Ok x) is h s = absurd is

    pub bounded : (k : ℕ) → most ≡ Some k → n ≡ k → GainsMatchersWhere m e c q now most old out bound_reached
    bounded k some same =
        stays now out bound_reached refl refl (enough_shown (last_shown q.last p.found) b (less most n) (ap (λ o. wants_one (less o n)) some ∙ none_left k n same))

  -- with the last line
  pub with_last : (next : QueryOf) (out new : List ℕ) (d : EndingOf) → GainsMatchersWhere m e c q next most old out d → new ≡ out ++ last_where e.limit d next.shown → GainsShownWhere m e c q next most old new d
  with_last next out new d g h = record {
    found = g.found;
    shows = g.shows;
    after = g.after;
    gained =
        h ∙ (ap₂ (λ bytes (k : QueryOf). bytes ++ last_where e.limit d k.shown) g.gained g.after
        ∙ append_assoc old (all_matchers m q.variables q.with_context q.pattern (q.shown + 1) g.found) (last_where e.limit d (q.shown + length g.found)));
  }
