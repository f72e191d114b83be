-- A derivable fact can be written down, where the terms that it names have numbers.
use Rattle.std.proofs.Common.{◌≡◌, ℕ, zero, suc, ◌+◌, ◌-◌, ◌<◌, ◌≤◌, List, [], ◌∷◌, ◌++◌, length, Bool, true, false, Option, Some, None, inl, inr, ◌⊎◌, refl, sym, ap, ◌∙◌, subst, arith, append_assoc}
use Rattle.std.specs.Prelude.{fold, take, slice_get}
use Rattle.std.specs.Option.{option_map, option_and_then}
use Rattle.std.proofs.lemmas.Bool.{cases_lt}
use Rattle.std.proofs.lemmas.List.{append-nil, length-append, take-append-le, take_all}
use Rattle.std.proofs.lemmas.List.Sums.{fold-append}
use Rattle.std.proofs.lemmas.List.Elements.{Contains-append_left, Contains-append_right}
use Rattle.mau_terms.specs.Tree.{Tree}
use Rattle.mau_formula.specs.Operator.{Operator}
use Rattle.mau_program.specs.declared.program.Program.{Program}
use Rattle.mau_facts.specs.declared.document.Fact.{Fact}
use Rattle.mau_facts.specs.declared.document.Fact.TheVariants.{Same, Step, Built, Under, Chain, SortDecl, SortMb}
use Rattle.mau_api.specs.Variables.{numbered}
use Rattle.mau_logic.specs.Lines.{all_numbered, all_there, term_at, terms_at}
use Rattle.mau_logic.specs.Says.{Says, leads, leads_if, of_sort_if, all_equational, start_of, end_of, or_none, facts_at, said, all_said}
use Rattle.mau_logic.specs.Shown.{HasSortBy}
use Rattle.mau_logic.specs.Justified.{IsMember, IsJustified, AreJustifiedOver}
use Rattle.mau_logic.specs.Derivable.{Follows, same, by_equation, by_rule, by_built_in, under, chain, declared, member, Derivable, derives, AreDerivable, no_facts, one_fact}
use Rattle.mau_logic.specs.Written.{named_by, named, all_named, HasTerms}
use Rattle.mau_logic.specs.Laws.{FactsAreWritten}
use Rattle.mau_logic.proofs.Rebuilt.{with_some}

-- ---- numbers

numbered_more : {A : Type 0} (xs ys : List A) (n : ℕ) (x : A) → numbered xs n ≡ Some x → numbered (xs ++ ys) n ≡ Some x
numbered_more xs ys zero x e = cc
numbered_more xs ys (suc n) x e = at xs n e
  where
    at : (zs : List _) (n : ℕ) → slice_get zs n ≡ Some x → slice_get (zs ++ ys) n ≡ Some x
    at [] n e = cc
    at (z ∷ zs) zero e = e
    at (z ∷ zs) (suc n) e = at zs n e

numbered_last : {A : Type 0} (xs : List A) (x : A) → numbered (xs ++ x ∷ []) (suc (length xs)) ≡ Some x
numbered_last [] x = refl
numbered_last (y ∷ xs) x = numbered_last xs x

one_numbered : {A : Type 0} (xs : List A) (n : ℕ) (ns : List ℕ) (y : A) (ys : List A) → numbered xs n ≡ Some y → all_numbered xs ns ≡ Some ys → all_numbered xs (n ∷ ns) ≡ Some (y ∷ ys)
one_numbered xs n ns y ys e d = ap (λ o. option_and_then (λ z. option_map (λ zs. z ∷ zs) (all_numbered xs ns)) o) e ∙ ap (λ o. option_map (λ zs. y ∷ zs) o) d

all_numbered_more : {A : Type 0} (xs zs : List A) (ns : List ℕ) (ys : List A) → all_numbered xs ns ≡ Some ys → all_numbered (xs ++ zs) ns ≡ Some ys
all_numbered_more xs zs [] ys e = e
all_numbered_more xs zs (n ∷ ns) ys e = by (λ ws d. all_numbered_more xs zs ns ws d) (numbered xs n) refl (all_numbered xs ns) refl e
  where
    by : ((ws : List _) → all_numbered xs ns ≡ Some ws → all_numbered (xs ++ zs) ns ≡ Some ws) → (o : Option _) → numbered xs n ≡ o → (r : Option (List _)) → all_numbered xs ns ≡ r →
        option_and_then (λ y. option_map (λ ws. y ∷ ws) r) o ≡ Some ys → all_numbered (xs ++ zs) (n ∷ ns) ≡ Some ys
    by rest None q r d w = cc
    by rest (Some y) q None d w = cc
    by rest (Some y) q (Some ws) d w = one_numbered (xs ++ zs) n ns y ws (numbered_more xs zs n y q) (rest ws d) ∙ w

-- ---- terms by numbers

there : (terms : List (Option Tree)) (n : ℕ) (t : Tree) → term_at terms n ≡ Some t → numbered terms n ≡ Some (Some t)
there terms n t e = by (numbered terms n) refl e
  where
    by : (o : Option (Option Tree)) → numbered terms n ≡ o → option_and_then (λ t. t) o ≡ Some t → numbered terms n ≡ Some (Some t)
    by None q d = cc
    by (Some None) q d = cc
    by (Some (Some u)) q d = q ∙ ap Some d

-- all that are there have numbers
record HaveNumbers (terms : List (Option Tree)) (ts : List Tree) : Type 0 where
  numbers : List ℕ
  found : List (Option Tree)
  at : all_numbered terms numbers ≡ Some found
  all : all_there found ≡ Some ts

have_numbers : (terms : List (Option Tree)) (ts : List Tree) → HasTerms terms ts → HaveNumbers terms ts
have_numbers terms [] h = record { numbers = []; found = []; at = refl; all = refl }
have_numbers terms (t ∷ ts) h =
    let n = h t (0, omega arith, refl) in
    let rest = have_numbers terms ts (λ u c. h u (Contains-append_right (t ∷ []) ts u c)) in
    record {
      numbers = n.0 ∷ rest.numbers;
      found = Some t ∷ rest.found;
      at = one_numbered terms n.0 rest.numbers (Some t) rest.found (there terms n.0 t n.1) rest.at;
      all = ap (λ o. option_map (λ us. t ∷ us) o) rest.all;
    }

terms_are : (terms : List (Option Tree)) (ts : List Tree) (h : HaveNumbers terms ts) → terms_at terms h.numbers ≡ Some ts
terms_are terms ts h = ap (λ o. option_and_then all_there o) h.at ∙ h.all

-- ---- one fact

module _ (p : Program) (hooks : List Operator) (terms : List (Option Tree)) where
  -- a fact that is justified and says this
  pub record IsFactFor (before : List Says) (x : Says) : Type 0 where
    pub fact : Fact
    pub justified : IsJustified p hooks terms before fact
    pub says : said terms before fact ≡ x

  leads_are : (e : Bool) (o q : Option Tree) (t u : Tree) → o ≡ Some t → q ≡ Some u → leads_if e o q ≡ leads e t u
  leads_are e o q t u h k = ap (λ w. leads_if e w q) h ∙ ap (λ w. leads_if e (Some t) w) k

  facts_are : (before us : List Says) (ns : List ℕ) → all_numbered before ns ≡ Some us → facts_at before ns ≡ us
  facts_are before us ns e = ap or_none e

  write_fact : (before us : List Says) (ns : List ℕ) → all_numbered before ns ≡ Some us → (x : Says) (f : Follows p hooks us x) → HasTerms terms (named_by p hooks f) → IsFactFor before x
  write_fact before us ns at _ (same t u bt bu e) h =
      let nt = h t (0, omega arith, refl) in
      let nu = h u (1, omega arith, refl) in
      record {
        fact = Same nt.0 nu.0 None;
        justified = with_some (term_at terms nt.0) t _ nt.1 (bt, with_some (term_at terms nu.0) u _ nu.1 (bu, e));
        says = leads_are true (term_at terms nt.0) (term_at terms nu.0) t u nt.1 nu.1;
      }
  write_fact before us ns at _ (by_equation n e c t u vs has bc bt bu bvs is) h =
      let nc = h c (0, omega arith, refl) in
      let nt = h t (1, omega arith, refl) in
      let nu = h u (2, omega arith, refl) in
      let nv = have_numbers terms vs (λ v k. h v (Contains-append_right (c ∷ t ∷ u ∷ []) vs v k)) in
      record {
        fact = Step (record { rule = false; number = n; context = nc.0; from = nt.0; to = nu.0; bind = nv.numbers; uses = ns });
        justified = with_some (term_at terms nc.0) c _ nc.1 (
          bc,
          with_some (term_at terms nt.0) t _ nt.1 (
            bt,
            with_some (term_at terms nu.0) u _ nu.1 (
              bu,
              with_some (terms_at terms nv.numbers) vs _ (terms_are terms vs nv) (bvs, with_some (all_numbered before ns) us _ at (with_some (numbered p.equations n) e _ has is)),
            ),
          ),
        );
        says = leads_are true (term_at terms nt.0) (term_at terms nu.0) t u nt.1 nu.1;
      }
  write_fact before us ns at _ (by_rule n q c t u vs has bc bt bu bvs is) h =
      let nc = h c (0, omega arith, refl) in
      let nt = h t (1, omega arith, refl) in
      let nu = h u (2, omega arith, refl) in
      let nv = have_numbers terms vs (λ v k. h v (Contains-append_right (c ∷ t ∷ u ∷ []) vs v k)) in
      record {
        fact = Step (record { rule = true; number = n; context = nc.0; from = nt.0; to = nu.0; bind = nv.numbers; uses = ns });
        justified = with_some (term_at terms nc.0) c _ nc.1 (
          bc,
          with_some (term_at terms nt.0) t _ nt.1 (
            bt,
            with_some (term_at terms nu.0) u _ nu.1 (
              bu,
              with_some (terms_at terms nv.numbers) vs _ (terms_are terms vs nv) (bvs, with_some (all_numbered before ns) us _ at (with_some (numbered p.rules n) q _ has is)),
            ),
          ),
        );
        says = leads_are false (term_at terms nt.0) (term_at terms nu.0) t u nt.1 nu.1;
      }
  write_fact before us ns at _ (by_built_in f c t u ts bc bt bu bts is) h =
      let nc = h c (0, omega arith, refl) in
      let nt = h t (1, omega arith, refl) in
      let nu = h u (2, omega arith, refl) in
      let na = have_numbers terms ts (λ v k. h v (Contains-append_right (c ∷ t ∷ u ∷ []) ts v k)) in
      record {
        fact = Built (record { op = f; context = nc.0; from = nt.0; to = nu.0; args = na.numbers });
        justified = with_some (term_at terms nc.0) c _ nc.1 (
          bc,
          with_some (term_at terms nt.0) t _ nt.1 (
            bt,
            with_some (term_at terms nu.0) u _ nu.1 (
              bu,
              with_some (terms_at terms na.numbers) ts _ (terms_are terms ts na) (bts, is),
            ),
          ),
        );
        says = leads_are true (term_at terms nt.0) (term_at terms nu.0) t u nt.1 nu.1;
      }
  write_fact before us ns at _ (under f t u bt bu is) h =
      let nt = h t (0, omega arith, refl) in
      let nu = h u (1, omega arith, refl) in
      record {
        fact = Under (record { op = f; facts = ns; from = nt.0; to = nu.0 });
        justified = with_some (term_at terms nt.0) t _ nt.1 (bt, with_some (term_at terms nu.0) u _ nu.1 (bu, with_some (all_numbered before ns) us _ at is));
        says = ap (λ ws. leads_if (all_equational ws) (term_at terms nt.0) (term_at terms nu.0)) (facts_are before us ns at) ∙ leads_are (all_equational us) (term_at terms nt.0) (term_at terms nu.0) t u nt.1 nu.1;
      }
  write_fact before us ns at _ (chain t u on e d) h = record {
    fact = Chain ns;
    justified = with_some (all_numbered before ns) us _ at on;
    says = ap (λ ws. leads_if (all_equational ws) (start_of ws) (end_of ws)) (facts_are before us ns at) ∙ leads_are (all_equational us) (start_of us) (end_of us) t u e d;
  }
  write_fact before us ns at _ (declared t r b low has) h =
      let nt = h t (0, omega arith, refl) in
      let number : r ≡ suc r - 1 = omega arith in
      record {
        fact = SortDecl (record { term = nt.0; sort = suc r; uses = ns });
        justified = with_some (term_at terms nt.0) t _ nt.1 (b, ((omega arith, omega arith), with_some (all_numbered before ns) us _ at (subst (λ q. HasSortBy p.sig us q t) number has)));
        says = ap (λ o. of_sort_if o (suc r)) nt.1;
      }
  write_fact before us ns at _ (member n m t r vs has b low bvs is) h =
      let nt = h t (0, omega arith, refl) in
      let nv = have_numbers terms vs (λ v k. h v (Contains-append_right (t ∷ []) vs v k)) in
      let number : r ≡ suc r - 1 = omega arith in
      record {
        fact = SortMb (record { term = nt.0; sort = suc r; membership = n; bind = nv.numbers; uses = ns });
        justified = with_some (term_at terms nt.0) t _ nt.1 (
          b,
          (
            (omega arith, omega arith),
            with_some (terms_at terms nv.numbers) vs _ (terms_are terms vs nv) (
              bvs,
              with_some (all_numbered before ns) us _ at (with_some (numbered p.memberships n) m _ has (subst (λ q. IsMember p.sig m q t vs us) number is)),
            ),
          ),
        );
        says = ap (λ o. of_sort_if o (suc r)) nt.1;
      }

-- ---- one fact after the other

-- what is said of some facts, and of more
said_more : (terms : List (Option Tree)) (xs : List Says) (gs : List Fact) → (rest : List Says) × (fold (λ ys g. ys ++ said terms ys g ∷ []) xs gs ≡ xs ++ rest)
said_more terms xs [] = ([], sym (append-nil xs))
said_more terms xs (g ∷ gs) =
    let r = said_more terms (xs ++ said terms xs g ∷ []) gs in
    (said terms xs g ∷ r.0, r.1 ∙ append_assoc xs (said terms xs g ∷ []) r.0)

said_prefix : (terms : List (Option Tree)) (fs gs : List Fact) → (rest : List Says) × (all_said terms (fs ++ gs) ≡ all_said terms fs ++ rest)
said_prefix terms fs gs =
    let r = said_more terms (all_said terms fs) gs in
    (r.0, fold-append (λ ys g. ys ++ said terms ys g ∷ []) [] fs gs ∙ r.1)

said_last : (terms : List (Option Tree)) (fs : List Fact) (f : Fact) → all_said terms (fs ++ f ∷ []) ≡ all_said terms fs ++ said terms (all_said terms fs) f ∷ []
said_last terms fs f = fold-append (λ ys g. ys ++ said terms ys g ∷ []) [] fs (f ∷ [])

push-length : {A : Type 0} (xs : List A) (x : A) → length (xs ++ x ∷ []) ≡ suc (length xs)
push-length xs x = length-append xs (x ∷ []) ∙ omega arith

said-length : (terms : List (Option Tree)) (xs : List Says) (fs : List Fact) → length (fold (λ ys g. ys ++ said terms ys g ∷ []) xs fs) ≡ length xs + length fs
said-length terms xs [] = omega arith
said-length terms xs (f ∷ fs) = said-length terms (xs ++ said terms xs f ∷ []) fs ∙ omega (arith, push-length xs (said terms xs f))

said-count : (terms : List (Option Tree)) (fs : List Fact) → length (all_said terms fs) ≡ length fs
said-count terms fs = said-length terms [] fs ∙ omega arith

at_front : {A : Type 0} (xs : List A) (x : A) (i : ℕ) → i < length xs → slice_get (xs ++ x ∷ []) i ≡ slice_get xs i
at_front [] x i l = absurd (omega arith)
at_front (y ∷ xs) x zero l = refl
at_front (y ∷ xs) x (suc i) l = at_front xs x i (omega arith)

at_end : {A : Type 0} (xs : List A) (x : A) → slice_get (xs ++ x ∷ []) (length xs) ≡ Some x
at_end [] x = refl
at_end (y ∷ xs) x = at_end xs x

module _ (p : Program) (hooks : List Operator) (terms : List (Option Tree)) where
  abbrev AreAll : List Fact → Type 0
  AreAll fs = AreJustifiedOver p hooks terms fs (length fs)

  justified_push : (fs : List Fact) (f : Fact) → AreAll fs → IsJustified p hooks terms (all_said terms fs) f → AreAll (fs ++ f ∷ [])
  justified_push fs f j h i g l e = by (cases_lt i (length fs))
    where
      by : (i < length fs) ⊎ (length fs ≤ i) → IsJustified p hooks terms (all_said terms (take i (fs ++ f ∷ []))) g
      by (inl k) =
          subst (λ gs. IsJustified p hooks terms (all_said terms gs) g) (sym (take-append-le i fs (f ∷ []) (omega arith))) (j i g k (sym (at_front fs f i k) ∙ e))
      by (inr k) =
          let same : i ≡ length fs = omega (arith, push-length fs f) in
          let within : length fs ≤ length fs = omega arith in
          let last : f ≡ g = some_is f g (sym (at_end fs f) ∙ ap (slice_get (fs ++ f ∷ [])) (sym same) ∙ e) in
          let front : take i (fs ++ f ∷ []) ≡ fs = ap (λ m. take m (fs ++ f ∷ [])) same ∙ take-append-le (length fs) fs (f ∷ []) within ∙ take_all (length fs) fs within in
          subst (λ gs. IsJustified p hooks terms (all_said terms gs) g) (sym front) (subst (IsJustified p hooks terms (all_said terms fs)) last h)
        where
          some_is : (x y : Fact) → Some x ≡ Some y → x ≡ y
          some_is x y q = cc

  -- more facts, the last of which says x
  record Wrote (fs : List Fact) (x : Says) : Type 0 where
    more : List Fact
    justified : AreAll (fs ++ more)
    says : numbered (all_said terms (fs ++ more)) (length (fs ++ more)) ≡ Some x

  -- more facts, among which are some that say us
  record WroteAll (fs : List Fact) (us : List Says) : Type 0 where
    more : List Fact
    justified : AreAll (fs ++ more)
    numbers : List ℕ
    say : all_numbered (all_said terms (fs ++ more)) numbers ≡ Some us

  wrote_one : (fs : List Fact) (us : List Says) (x : Says) (w : WroteAll fs us) → IsFactFor p hooks terms (all_said terms (fs ++ w.more)) x → Wrote fs x
  wrote_one fs us x w z =
      let all = fs ++ w.more in
      let same : all ++ z.fact ∷ [] ≡ fs ++ (w.more ++ z.fact ∷ []) = append_assoc fs w.more (z.fact ∷ []) in
      let long : length (all ++ z.fact ∷ []) ≡ suc (length (all_said terms all)) = push-length all z.fact ∙ ap suc (sym (said-count terms all)) in
      let last : numbered (all_said terms (all ++ z.fact ∷ [])) (length (all ++ z.fact ∷ [])) ≡ Some x =
      ap (λ n. numbered (all_said terms (all ++ z.fact ∷ [])) n) long
      ∙ ap (λ ys. numbered ys (suc (length (all_said terms all)))) (said_last terms all z.fact)
      ∙ numbered_last (all_said terms all) (said terms (all_said terms all) z.fact)
      ∙ ap Some z.says in
      record {
        more = w.more ++ z.fact ∷ [];
        justified = subst AreAll same (justified_push all z.fact w.justified z.justified);
        says = subst (λ gs. numbered (all_said terms gs) (length gs) ≡ Some x) same last;
      }

  wrote_more : (fs : List Fact) (x : Says) (us : List Says) (w : Wrote fs x) → WroteAll (fs ++ w.more) us → WroteAll fs (x ∷ us)
  wrote_more fs x us w v =
      let front = fs ++ w.more in
      let same : front ++ v.more ≡ fs ++ (w.more ++ v.more) = append_assoc fs w.more v.more in
      let rest = said_prefix terms front v.more in
      let first : numbered (all_said terms (front ++ v.more)) (length front) ≡ Some x =
      ap (λ ys. numbered ys (length front)) rest.1 ∙ numbered_more (all_said terms front) rest.0 (length front) x w.says in
      record {
        more = w.more ++ v.more;
        justified = subst AreAll same v.justified;
        numbers = length front ∷ v.numbers;
        say = subst (λ gs. all_numbered (all_said terms gs) (length front ∷ v.numbers) ≡ Some (x ∷ us)) same
            (one_numbered (all_said terms (front ++ v.more)) (length front) v.numbers x us first v.say);
      }

  mutual
    write_one : {x : Says} (d : Derivable p hooks x) → HasTerms terms (named p hooks d) → (fs : List Fact) → AreAll fs → Wrote fs x
    write_one {x} (derives us ds f) h fs j =
        let w = write_all ds (λ t c. h t (Contains-append_left (all_named p hooks ds) (named_by p hooks f) t c)) fs j in
        wrote_one fs us x w (write_fact p hooks terms (all_said terms (fs ++ w.more)) us w.numbers w.say x f (λ t c. h t (Contains-append_right (all_named p hooks ds) (named_by p hooks f) t c)))

    write_all : {us : List Says} (ds : AreDerivable p hooks us) → HasTerms terms (all_named p hooks ds) → (fs : List Fact) → AreAll fs → WroteAll fs us
    write_all no_facts h fs j = record { more = []; justified = subst AreAll (sym (append-nil fs)) j; numbers = []; say = refl }
    write_all (one_fact {x = x} {xs = xs} d ds) h fs j =
        let w = write_one d (λ t c. h t (Contains-append_left (named p hooks d) (all_named p hooks ds) t c)) fs j in
        wrote_more fs x xs w (write_all ds (λ t c. h t (Contains-append_right (named p hooks d) (all_named p hooks ds) t c)) (fs ++ w.more) w.justified)

pub facts_are_written : FactsAreWritten
facts_are_written p hooks terms x d h = let w = write_one p hooks terms d h [] (λ i f l e. absurd (omega arith)) in (w.more, w.justified, w.says)
