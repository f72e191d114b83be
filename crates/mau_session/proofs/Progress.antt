-- What a query has shown after some of its next solutions.
use Rattle.std.proofs.Common.{◌≡◌, ℕ, suc, ◌+◌, ◌<◌, List, [], ◌∷◌, ◌++◌, length, Bool, true, false, Option, None, Some, refl, sym, ap, ap₂, ◌∙◌, subst, arith, append_assoc, append-nil, length-append, add-zero}
use Rattle.std.specs.Prelude.{unwrap_or}
use Rattle.mau_terms.specs.Tree.{Tree}
use Rattle.mau_listing.specs.Matcher.{Matcher}
use Rattle.mau_api.specs.Meanings.{Meanings}
use Rattle.mau_module.specs.Modules.{ModuleOf}
use Rattle.mau_session.specs.Terms.{Pairs}
use Rattle.mau_session.specs.Matching.{AreFewer, last_shown, shows_all, shows_first}
use Rattle.mau_session.specs.Answers.{matcher_lines, all_matchers, last_line}
use Rattle.mau_session.specs.Query.{QueryOf, shown_more}
use Rattle.mau_session.specs.Next.{IsNext, NoneIsBehind, ShowsNext, shows_one, shows_none, GainsMatchers, GainsShown}
use Rattle.mau_session.proofs.Showing.{AreShown, none_shown, one_shown, all_shown}

pub record IsProgress (m : ModuleOf) (e : Meanings) (q now : QueryOf) (n : ℕ) (old new : List ℕ) : Type 0 where
  pub found : List Matcher
  pub shown : AreShown m e q.with_context q.pattern q.subject q.last (last_shown q.last found) found
  pub after : now ≡ shown_more q found
  pub count : length found ≡ n
  pub gained : new ≡ old ++ all_matchers m q.variables q.with_context q.pattern (q.shown + 1) found

pub matchers-push : (m : ModuleOf) (ns : Pairs) (w : Bool) (p : Tree) (i : ℕ) (found : List Matcher) (xs : Matcher)
    → all_matchers m ns w p i (found ++ xs ∷ []) ≡ all_matchers m ns w p i found ++ matcher_lines m ns w p (i + length found) xs
matchers-push m ns w p i [] xs = append-nil (matcher_lines m ns w p i xs) ∙ ap (λ k. matcher_lines m ns w p k xs) (sym (add-zero i))
matchers-push m ns w p i (ys ∷ found) xs =
    let n : (i + 1) + length found ≡ i + suc (length found) = omega arith in
    ap (λ bytes. matcher_lines m ns w p i ys ++ bytes) (matchers-push m ns w p (i + 1) found xs)
    ∙ sym (append_assoc (matcher_lines m ns w p i ys) (all_matchers m ns w p (i + 1) found) (matcher_lines m ns w p ((i + 1) + length found) xs))
    ∙ ap (λ k. (matcher_lines m ns w p i ys ++ all_matchers m ns w p (i + 1) found) ++ matcher_lines m ns w p k xs) n

module _ (m : ModuleOf) (e : Meanings) (q : QueryOf) (old : List ℕ) where
  pub no_progress : IsProgress m e q q 0 old old
  no_progress = record {
    found = [];
    shown = none_shown m e q.with_context q.pattern q.subject q.last;
    after = ap (λ n. record q { shown = n }) (sym (add-zero q.shown));
    count = refl;
    gained = sym (append-nil old);
  }

  pub more_progress : (now next : QueryOf) (n k : ℕ) (out new : List ℕ) → k ≡ n + 1 → IsProgress m e q now n old out → ShowsNext m e now out next new true → IsProgress m e q next k old new
  more_progress now _ n k out _ same p (shows_one xs is) =
      let f = p.found in
      let here : IsNext m e q.with_context q.pattern q.subject (last_shown q.last f) xs = subst (λ (k : QueryOf). IsNext m e k.with_context k.pattern k.subject k.last xs) p.after is in
      let shown = one_shown m e q.with_context q.pattern q.subject q.last (last_shown q.last f) f xs p.shown here in
      let l : length (f ++ xs ∷ []) ≡ length f + 1 = length-append f (xs ∷ []) in
      let many : (q.shown + length f) + 1 ≡ q.shown + length (f ++ xs ∷ []) = omega (arith, l) in
      let number : (q.shown + length f) + 1 ≡ (q.shown + 1) + length f = omega arith in
      record {
        found = f ++ xs ∷ [];
        shown = subst (λ o. AreShown m e q.with_context q.pattern q.subject q.last o (f ++ xs ∷ [])) (sym shown.now_is) shown;
        after = ap (λ k. shown_more k (xs ∷ [])) p.after ∙ ap₂ (λ o n. record q { last = o; shown = n }) (sym shown.now_is) many;
        count = l ∙ ap (λ n. n + 1) p.count ∙ sym same;
        gained =
            ap (λ (k : QueryOf). out ++ matcher_lines m k.variables k.with_context k.pattern (k.shown + 1) xs) p.after
            ∙ ap₂ (λ bytes k. bytes ++ matcher_lines m q.variables q.with_context q.pattern k xs) p.gained number
            ∙ append_assoc old (all_matchers m q.variables q.with_context q.pattern (q.shown + 1) f) (matcher_lines m q.variables q.with_context q.pattern ((q.shown + 1) + length f) xs)
            ∙ ap (λ bytes. old ++ bytes) (sym (matchers-push m q.variables q.with_context q.pattern (q.shown + 1) f xs));
      }

  fewer : (most : Option ℕ) (end n : ℕ) (found : List Matcher) → n < unwrap_or most end → length found ≡ n → AreFewer found most
  fewer None end n found h long = tt
  fewer (Some k) end n found h long = omega (arith, h, long)

  pub ended_progress : (most : Option ℕ) (end : ℕ) (now next : QueryOf) (n : ℕ) (out new : List ℕ) → n < unwrap_or most end → IsProgress m e q now n old out → ShowsNext m e now out next new false
      → GainsMatchers m e q next most old new true
  ended_progress most end now _ n out _ h p (shows_none none) =
      let here : NoneIsBehind m e q.with_context q.pattern q.subject (last_shown q.last p.found) = subst (λ (k : QueryOf). NoneIsBehind m e k.with_context k.pattern k.subject k.last) p.after none in
      record {
        found = p.found;
        shows = shows_all most p.found (all_shown m e q.with_context q.pattern q.subject q.last (last_shown q.last p.found) p.found p.shown here) (fewer most end n p.found h p.count);
        after = p.after;
        gained = p.gained;
      }

  pub bounded_progress : (most n : ℕ) (now : QueryOf) (new : List ℕ) → n ≡ most → IsProgress m e q now n old new → GainsMatchers m e q now (Some most) old new false
  bounded_progress most n now new same p = record { found = p.found; shows = shows_first most p.found p.shown.first (p.count ∙ same); after = p.after; gained = p.gained }

  -- with the last line
  pub with_last_line : (next : QueryOf) (most : Option ℕ) (out new : List ℕ) (ended : Bool) → GainsMatchers m e q next most old out ended → new ≡ out ++ last_line ended next.shown
      → GainsShown m e q next most old new ended
  with_last_line next most out new ended g line = record {
    found = g.found;
    shows = g.shows;
    after = g.after;
    gained =
        line ∙ ap₂ (λ bytes (k : QueryOf). bytes ++ last_line ended k.shown) g.gained g.after
        ∙ append_assoc old (all_matchers m q.variables q.with_context q.pattern (q.shown + 1) g.found) (last_line ended (q.shown + length g.found));
  }
