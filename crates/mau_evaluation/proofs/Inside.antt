-- What is entered inside a test stands behind the entry that opened it.
use Rattle.std.proofs.Common.{◌≡◌, ℕ, zero, suc, ◌+◌, ◌<◌, ◌≤◌, List, [], ◌∷◌, ◌++◌, length, map, get_or, All, Contains, inl, inr, refl, sym, ◌∙◌, ap, subst, ◌⊎◌, arith, length-append}
use Rattle.std.proofs.lemmas.Bool.{cases_lt}
use Rattle.std.proofs.lemmas.List.{get_or_append_left}
use Rattle.std.proofs.Math.Seq.{get_or-append_seam}
use Rattle.std.proofs.lemmas.List.Elements.{Contains-append_left}
use Rattle.mau_terms.specs.Tree.{Tree}
use Rattle.mau_terms.specs.Finite.{IsIn}
use Rattle.mau_evaluation.specs.Program.{Program}
use Rattle.mau_evaluation.specs.Engine.{Engine}
use Rattle.mau_evaluation.specs.Strategy.{Strategy, idle, fail, every_rule, label, top_only, call, test, star, plus, to_normal, in_turn, either, or_else, branch, negation, attempt, test_of, part_rewrite, label_by, StratDef}
use Rattle.mau_evaluation.specs.Satisfies.{Sat, Cut}
use Rattle.mau_evaluation.specs.Configs.{Todo, Frame, test_frame, Config, with_form, on, inside, NextOn, NextBy}
use Rattle.mau_evaluation.specs.ClosedLists.{EndsWith, AllListed, IsClosedWithin}
use Rattle.mau_evaluation.specs.OrderedLists.{LeafList, BodyList, AsksFirst}
use Rattle.mau_evaluation.specs.Reach.{At, IsClosedAt, begun, entered, IsClosed}
use Rattle.mau_evaluation.specs.Entries.{OpensBy, OpensOn, LeafFront, BodyFront, NextOf, BeginsWith, ReachedBy, IsAtBranch}
use Rattle.mau_evaluation.specs.StrategyLaws.{BranchesExhaust, EndedListsExhaust}
use Rattle.mau_evaluation.proofs.Closed.{closed_lists_exhaust}
use Rattle.mau_evaluation.proofs.Right.{rightly}
use Rattle.mau_evaluation.proofs.CameFrom.{opened_by, begun_on, behind_of}

-- ---- places in lists

pub at_push : {A : Type 0} (xs : List A) (y : A) (i : ℕ) (z : A) → At (xs ++ y ∷ []) i z → At xs i z ⊎ ((i ≡ length xs) × (z ≡ y))
at_push xs y i z a = by (cases_lt i (length xs))
  where
    last : length xs ≤ i → (i ≡ length xs) × (z ≡ y)
    last h =
        let l : length (xs ++ y ∷ []) ≡ length xs + 1 = length-append xs (y ∷ []) in
        let k : i < length (xs ++ y ∷ []) = a.0 in
        let e : i ≡ length xs = omega arith in
        (e, sym a.1 ∙ (ap (λ j. get_or (xs ++ y ∷ []) j z) e ∙ get_or-append_seam xs y [] z))

    by : (i < length xs) ⊎ (length xs ≤ i) → At xs i z ⊎ ((i ≡ length xs) × (z ≡ y))
    by (inl h) = inl (h, sym (get_or_append_left xs (y ∷ []) z i h) ∙ a.1)
    by (inr h) = inr (last h)

at_longer : {A : Type 0} (xs ys : List A) (i : ℕ) (z : A) → At xs i z → At (xs ++ ys) i z
at_longer xs ys i z a = (Contains-append_left_place xs ys i a.0, get_or_append_left xs ys z i a.0 ∙ a.1)
  where
    Contains-append_left_place : {A : Type 0} (xs ys : List A) (i : ℕ) → i < length xs → i < length (xs ++ ys)
    Contains-append_left_place xs ys i h = let l : length (xs ++ ys) ≡ length xs + length ys = length-append xs ys in omega arith

pub in_list : {A : Type 0} (x : A) (xs : List A) → IsIn x xs → Contains xs x
in_list x [] h = absurd h
in_list x (y ∷ xs) (inl e) = (0, omega arith, sym e)
in_list x (y ∷ xs) (inr h) = let r = in_list x xs h in (suc r.0, next r.0 r.1, r.2)
  where
    next : (n : ℕ) → n < length xs → suc n < length (y ∷ xs)
    next n h = omega arith

pub from_list : {A : Type 0} (x : A) (xs : List A) → Contains xs x → IsIn x xs
from_list x [] c = absurd (nothing c.0 c.1)
  where
    nothing : (n : ℕ) → n < 0 → ⊥
    nothing n h = omega arith
from_list {A = A} x (y ∷ xs) c = by c.0 c.1 c.2 (λ k. from_list x xs k)
  where
    by : (n : ℕ) → n < length (y ∷ xs) → get_or (y ∷ xs) n x ≡ x → (Contains xs x → IsIn x xs) → IsIn x (y ∷ xs)
    by zero l e k = inl (sym e)
    by (suc n) l e k = inr (k (n, before n l, e))
      where
        before : (n : ℕ) → suc n < length (y ∷ xs) → n < length xs
        before n h = omega arith

module _ (P : Program) (L : Engine) (defs : List StratDef) where
  -- the tests of a successor: those of the entry, one less, or one more that the entry opens
  abbrev pub GoesOn : Config → Config → Type 0
  GoesOn b c = (c.frames ≡ b.frames) ⊎ (((y : Frame) × (b.frames ≡ y ∷ c.frames)) ⊎ ((d : Todo) × (f : Strategy) × (ds : List Todo) × (b.todo ≡ d ∷ ds) × (c.frames ≡ inside d f b.term ds ∷ b.frames) × (e : Strategy) × (g : Strategy) × (d.form ≡ branch e f g) × (c ≡ on b.term (with_form d e ∷ []) (inside d f b.term ds ∷ b.frames))))

  in_mapped : {A : Type 0} (f : A → Config) (xs : List A) (b c : Config) → ((x : A) → GoesOn b (f x)) → IsIn c (map f xs) → GoesOn b c
  in_mapped f [] b c h i = absurd i
  in_mapped f (x ∷ xs) b c h (inl e) = subst (GoesOn b) (sym e) (h x)
  in_mapped f (x ∷ xs) b c h (inr i) = in_mapped f xs b c h i

  in_one : (b c z : Config) → GoesOn b z → IsIn c (z ∷ []) → GoesOn b c
  in_one b c z h (inl e) = subst (GoesOn b) (sym e) h
  in_one b c z h (inr i) = absurd i

  in_two : (b c y z : Config) → GoesOn b y → GoesOn b z → IsIn c (y ∷ z ∷ []) → GoesOn b c
  in_two b c y z h k (inl e) = subst (GoesOn b) (sym e) h
  in_two b c y z h k (inr i) = in_one b c z k i

  module _ (leaf : Todo → Tree → List Tree → Type 0) (bodies : Todo → Tree → List Todo → Type 0) where
    by_form : (e : Strategy) (t : Tree) (d : Todo) (ds : List Todo) (xs : List Frame) (cs : List Config) → NextBy P L defs leaf bodies e t d ds xs cs → (c : Config) → IsIn c cs → d.form ≡ e → GoesOn (on t (d ∷ ds) xs) c
    by_form idle t d ds xs cs n c i q = in_mapped (λ u. on u ds xs) n.0 (on t (d ∷ ds) xs) c (λ u. inl refl) (subst (IsIn c) n.2 i)
    by_form fail t d ds xs cs n c i q = in_mapped (λ u. on u ds xs) n.0 (on t (d ∷ ds) xs) c (λ u. inl refl) (subst (IsIn c) n.2 i)
    by_form every_rule t d ds xs cs n c i q = in_mapped (λ u. on u ds xs) n.0 (on t (d ∷ ds) xs) c (λ u. inl refl) (subst (IsIn c) n.2 i)
    by_form (label m gs) t d ds xs cs n c i q = in_mapped (λ u. on u ds xs) n.0 (on t (d ∷ ds) xs) c (λ u. inl refl) (subst (IsIn c) n.2 i)
    by_form (top_only e) t d ds xs cs n c i q = in_mapped (λ u. on u ds xs) n.0 (on t (d ∷ ds) xs) c (λ u. inl refl) (subst (IsIn c) n.2 i)
    by_form (test k p r) t d ds xs cs n c i q = in_mapped (λ u. on u ds xs) n.0 (on t (d ∷ ds) xs) c (λ u. inl refl) (subst (IsIn c) n.2 i)
    by_form (part_rewrite k p r us) t d ds xs cs n c i q = in_mapped (λ u. on u ds xs) n.0 (on t (d ∷ ds) xs) c (λ u. inl refl) (subst (IsIn c) n.2 i)
    by_form (label_by m gs es) t d ds xs cs n c i q = in_mapped (λ u. on u ds xs) n.0 (on t (d ∷ ds) xs) c (λ u. inl refl) (subst (IsIn c) n.2 i)
    by_form (call m ts) t d ds xs cs n c i q = in_mapped (λ b. on t (b ∷ ds) xs) n.0 (on t (d ∷ ds) xs) c (λ b. inl refl) (subst (IsIn c) n.2 i)
    by_form (in_turn e f) t d ds xs cs n c i q = in_one (on t (d ∷ ds) xs) c (on t (with_form d e ∷ with_form d f ∷ ds) xs) (inl refl) (subst (IsIn c) n i)
    by_form (either e f) t d ds xs cs n c i q = in_two (on t (d ∷ ds) xs) c (on t (with_form d e ∷ ds) xs) (on t (with_form d f ∷ ds) xs) (inl refl) (inl refl) (subst (IsIn c) n i)
    by_form (star e) t d ds xs cs n c i q = in_two (on t (d ∷ ds) xs) c (on t ds xs) (on t (with_form d e ∷ with_form d (star e) ∷ ds) xs) (inl refl) (inl refl) (subst (IsIn c) n i)
    by_form (plus e) t d ds xs cs n c i q = in_one (on t (d ∷ ds) xs) c (on t (with_form d (in_turn e (star e)) ∷ ds) xs) (inl refl) (subst (IsIn c) n i)
    by_form (to_normal e) t d ds xs cs n c i q = in_one (on t (d ∷ ds) xs) c (on t (with_form d (in_turn (star e) (negation e)) ∷ ds) xs) (inl refl) (subst (IsIn c) n i)
    by_form (or_else e f) t d ds xs cs n c i q = in_one (on t (d ∷ ds) xs) c (on t (with_form d (branch e idle f) ∷ ds) xs) (inl refl) (subst (IsIn c) n i)
    by_form (negation e) t d ds xs cs n c i q = in_one (on t (d ∷ ds) xs) c (on t (with_form d (branch e fail idle) ∷ ds) xs) (inl refl) (subst (IsIn c) n i)
    by_form (attempt e) t d ds xs cs n c i q = in_one (on t (d ∷ ds) xs) c (on t (with_form d (branch e idle idle) ∷ ds) xs) (inl refl) (subst (IsIn c) n i)
    by_form (test_of e) t d ds xs cs n c i q = in_one (on t (d ∷ ds) xs) c (on t (with_form d (branch (negation e) fail idle) ∷ ds) xs) (inl refl) (subst (IsIn c) n i)
    by_form (branch e f g) t d ds xs cs (inl n) c i q = in_one (on t (d ∷ ds) xs) c (on t (with_form d e ∷ []) (inside d f t ds ∷ xs)) (inr (inr (d, f, ds, refl, refl, e, g, q, refl))) (subst (IsIn c) n.2 i)
    by_form (branch e f g) t d ds xs cs (inr n) c i q = in_two (on t (d ∷ ds) xs) c (on t (with_form d e ∷ []) (inside d f t ds ∷ xs)) (on t (with_form d g ∷ ds) xs) (inr (inr (d, f, ds, refl, refl, e, g, q, refl))) (inl refl) (subst (IsIn c) n.2 i)

    by_next : (t : Tree) (todo : List Todo) (xs : List Frame) (cs : List Config) → NextOn P L defs leaf bodies t todo xs cs → (c : Config) → IsIn c cs → GoesOn (on t todo xs) c
    by_next t [] [] cs n c i = absurd (subst (IsIn c) n i)
    by_next t [] (test_frame d e b ds ∷ xs) cs n c i = in_one (on t [] (test_frame d e b ds ∷ xs)) c (on t (e ∷ ds) xs) (inr (inl (test_frame d e b ds, refl))) (subst (IsIn c) n i)
    by_next t (d ∷ ds) xs cs n c i = by_form d.form t d ds xs cs n c i refl

  pub in_front : {A : Type 0} (x : A) (xs ys zs : List A) → ys ≡ xs ++ zs → IsIn x xs → IsIn x ys
  in_front x xs ys zs e i = subst (IsIn x) (sym e) (left x xs zs i)
    where
      left : {A : Type 0} (x : A) (xs zs : List A) → IsIn x xs → IsIn x (xs ++ zs)
      left x [] zs i = absurd i
      left x (y ∷ xs) zs (inl e) = inl e
      left x (y ∷ xs) zs (inr i) = inr (left x xs zs i)

  by_opening : (e : Strategy) (t : Tree) (d : Todo) (ds : List Todo) (xs : List Frame) (cs : List Config) → OpensBy e t d ds xs cs → (c : Config) → IsIn c cs → d.form ≡ e → GoesOn (on t (d ∷ ds) xs) c
  by_opening (branch e f g) t d ds xs cs n c i q = in_one (on t (d ∷ ds) xs) c (on t (with_form d e ∷ []) (inside d f t ds ∷ xs)) (inr (inr (d, f, ds, refl, refl, e, g, q, refl))) (subst (IsIn c) n i)
  by_opening _ t d ds xs cs n c i q = absurd n

  opening : (t : Tree) (todo : List Todo) (xs : List Frame) (cs : List Config) → OpensOn t todo xs cs → (c : Config) → IsIn c cs → GoesOn (on t todo xs) c
  opening t [] xs cs n c i = absurd n
  opening t (d ∷ ds) xs cs n c i = by_opening d.form t d ds xs cs n c i refl

  pub goes_on : (b : Config) (cs : List Config) → BeginsWith P L defs b cs → (c : Config) → IsIn c cs → GoesOn b c
  goes_on b cs (inl e) c i = absurd (subst (IsIn c) e i)
  goes_on b cs (inr (inl o)) c i = opening b.term b.todo b.frames cs o c i
  goes_on b cs (inr (inr n)) c i = by_next (LeafFront P L defs) (BodyFront P L defs) b.term b.todo b.frames n.0 n.1 c (in_front c cs n.0 (n.2).0 (n.2).1 i)

  -- ---- the entry that opened a test

  module _ (t : Tree) (d : Todo) (f : Strategy) (ds : List Todo) (xs : List Frame) where
    abbrev zs : List Frame
    zs = inside d f t ds ∷ xs

    -- an entry with d and ds on t inside xs
    abbrev Opener : List Config → ℕ → Type 0
    Opener seen i = (j : ℕ) × (j < i) × At seen j (on t (d ∷ ds) xs)

    same_opener : (b : Config) (d' : Todo) (f' : Strategy) (ds' : List Todo) → b.todo ≡ d' ∷ ds' → zs ≡ inside d' f' b.term ds' ∷ b.frames → b ≡ on t (d ∷ ds) xs
    same_opener b d' f' ds' e q =
        let head : inside d f t ds ≡ inside d' f' b.term ds' = cc in
        let rest : xs ≡ b.frames = cc in
        let h1 : d ≡ d' = ap opened_by head in
        let h2 : t ≡ b.term = ap begun_on head in
        let h3 : ds ≡ ds' = ap behind_of head in
        let h4 : b.todo ≡ d ∷ ds = cc in
        same_parts b.term t b.todo (d ∷ ds) b.frames xs (sym h2) h4 (sym rest)
      where
        same_parts : (a b : Tree) (ds es : List Todo) (xs ys : List Frame) → a ≡ b → ds ≡ es → xs ≡ ys → on a ds xs ≡ on b es ys
        same_parts a b ds es xs ys p q r = cc

    opened : (t0 : Tree) (d0 : Todo) (seen : List Config) → ReachedBy P L defs t0 d0 seen → (i : ℕ) (c : Config) → At seen i c → EndsWith zs c.frames → Opener seen i
    opened t0 d0 seen begun i c a z = absurd (none (subst (λ w. EndsWith zs w.frames) (first i c a) z))
      where
        none : EndsWith zs [] → ⊥
        none h = cc

        first : (i : ℕ) (c : Config) → At (on t0 (d0 ∷ []) [] ∷ []) i c → c ≡ on t0 (d0 ∷ []) []
        first zero c a = sym a.1
        first (suc i) c a = absurd (too_far i a.0)
          where
            too_far : (i : ℕ) → suc i < 1 → ⊥
            too_far i h = omega arith
    opened t0 d0 seen (entered old y r n) i c a z = by (λ k b s w. opened t0 d0 old r k b s w) (at_push old y i c a)
      where
        old_one : (i : ℕ) → Opener old i → Opener (old ++ y ∷ []) i
        old_one i o = (o.0, o.1, at_longer old (y ∷ []) o.0 (on t (d ∷ ds) xs) o.2)

        later : (k : ℕ) → k < length old → Opener old k → Opener (old ++ y ∷ []) (length old)
        later k l o = (o.0, through o.0 o.1, at_longer old (y ∷ []) o.0 (on t (d ∷ ds) xs) o.2)
          where
            through : (m : ℕ) → m < k → m < length old
            through m h = omega arith

        last_in : (c : Config) (xs : List Config) → IsIn c (xs ++ c ∷ [])
        last_in c [] = inl refl
        last_in c (x ∷ xs) = inr (last_in c xs)

        from_entry : ((k : ℕ) (b : Config) → At old k b → EndsWith zs b.frames → Opener old k) → EndsWith zs y.frames → GoesOn n.entry y → Opener (old ++ y ∷ []) (length old)
        from_entry ih w (inl e) = later n.from (n.stands).0 (ih n.from n.entry n.stands (subst (EndsWith zs) e w))
        from_entry ih w (inr (inl e)) = later n.from (n.stands).0 (ih n.from n.entry n.stands (subst (EndsWith zs) (sym e.1) (inr w)))
        from_entry ih w (inr (inr o)) = cases (subst (EndsWith zs) o.4 w)
          where
            cases : (zs ≡ inside o.0 o.1 (n.entry).term o.2 ∷ (n.entry).frames) ⊎ EndsWith zs (n.entry).frames → Opener (old ++ y ∷ []) (length old)
            cases (inl q) = (n.from, (n.stands).0, at_longer old (y ∷ []) n.from (on t (d ∷ ds) xs) (subst (At old n.from) (same_opener n.entry o.0 o.1 o.2 o.3 q) n.stands))
            cases (inr q) = later n.from (n.stands).0 (ih n.from n.entry n.stands q)

        began : (xs : List Config) (e : Config) (cs : List Config) → BeginsWith P L defs e cs → cs ≡ xs ++ y ∷ [] → GoesOn e y
        began xs e cs b q = goes_on e cs b y (subst (IsIn y) (sym q) (last_in y xs))

        by : ((k : ℕ) (b : Config) → At old k b → EndsWith zs b.frames → Opener old k) → At old i c ⊎ ((i ≡ length old) × (c ≡ y)) → Opener (old ++ y ∷ []) i
        by ih (inl b) = old_one i (ih i c b z)
        by ih (inr b) =
            let o = from_entry ih (subst (λ w. EndsWith zs w.frames) b.1 z) (began n.given n.entry (n.given ++ y ∷ []) n.begins refl) in
            (o.0, subst (λ m. o.0 < m) (sym b.0) o.1, o.2)

  -- ---- each entry stands once

  pub once : (t0 : Tree) (d0 : Todo) (seen : List Config) → ReachedBy P L defs t0 d0 seen → (i j : ℕ) (c : Config) → At seen i c → At seen j c → i ≡ j
  once t0 d0 seen begun i j c a b = only i j a.0 b.0
    where
      only : (i j : ℕ) → i < 1 → j < 1 → i ≡ j
      only i j h k = omega arith
  once t0 d0 seen (entered old y r n) i j c a b = by (λ p q. once t0 d0 old r i j c p q) (at_push old y i c a) (at_push old y j c b)
    where
      not_there : (k : ℕ) → At old k c → c ≡ y → ⊥
      not_there k p q = n.fresh (subst (Contains old) q (k, p.0, p.1))

      by : (At old i c → At old j c → i ≡ j) → At old i c ⊎ ((i ≡ length old) × (c ≡ y)) → At old j c ⊎ ((j ≡ length old) × (c ≡ y)) → i ≡ j
      by ih (inl p) (inl q) = ih p q
      by ih (inl p) (inr q) = absurd (not_there i p q.1)
      by ih (inr p) (inl q) = absurd (not_there j q p.1)
      by ih (inr p) (inr q) = p.0 ∙ sym q.0

  all_listed : (seen cs : List Config) → All (Contains seen) cs → AllListed P L defs (LeafList P L) (BodyList P L defs) cs seen
  all_listed seen [] h = tt
  all_listed seen (c ∷ cs) h = (from_list c seen (first (h 0 c)), all_listed seen cs (λ k d l. h (suc k) d (next k l)))
    where
      first : (0 < length (c ∷ cs) → Contains seen c) → Contains seen c
      first k = k (omega arith)

      next : (k : ℕ) → k < length cs → suc k < length (c ∷ cs)
      next k h = omega arith

  closed_within : (zs : List Frame) (seen : List Config) → ((i : ℕ) (c : Config) → At seen i c → EndsWith zs c.frames → IsClosedAt (BeginsWith P L defs) (NextOf P L defs) seen c) → IsClosedWithin P L defs (LeafList P L) (BodyList P L defs) zs seen
  closed_within xs seen h c z i = let k = in_list c seen i in let r = h k.0 c (k.1, k.2) z in (r.0, r.1, all_listed seen r.0 r.2)

  branches : AsksFirst P L → (t0 : Tree) (d0 : Todo) (seen : List Config) → ReachedBy P L defs t0 d0 seen →
      (j : ℕ) (t : Tree) (d : Todo) (e f g : Strategy) (ds : List Todo) (xs : List Frame) → IsAtBranch P L defs seen j t d e f g ds xs →
      ((v : Tree) → Sat P L defs d.calls d.values e t v → Contains seen (on v [] (inside d f t ds ∷ xs))) × (Cut P L defs d.calls d.values e t → ⊥)
  branches asks t0 d0 seen r j t d e f g ds xs h =
      let zs = inside d f t ds ∷ xs in
      let inner : (i : ℕ) (c : Config) → At seen i c → EndsWith zs c.frames → IsClosedAt (BeginsWith P L defs) (NextOf P L defs) seen c =
      λ i c a z. let o = opened t d f ds xs t0 d0 seen r i c a z in h.behind i c (subst (λ m. m < i) (once t0 d0 seen r o.0 j (on t (d ∷ ds) xs) o.2 h.stands) o.1) a in
      let x = closed_lists_exhaust P L defs (LeafList P L) (BodyList P L defs) (rightly P L defs asks) seen zs (closed_within zs seen inner) t (with_form d e) [] zs (ends_itself zs) (from_list (on t (with_form d e ∷ []) zs) seen h.entered) in
      (λ v s. in_list (on v [] zs) seen (x.0 v s), x.1)
    where
      ends_itself : (xs : List Frame) → EndsWith xs xs
      ends_itself [] = refl
      ends_itself (x ∷ xs) = inl refl

  ended : AsksFirst P L → (t : Tree) (d : Todo) (seen : List Config) → ReachedBy P L defs t d seen → IsClosed (BeginsWith P L defs) (NextOf P L defs) seen →
      ((u : Tree) → Sat P L defs d.calls d.values d.form t u → Contains seen (on u [] [])) × (Cut P L defs d.calls d.values d.form t → ⊥)
  ended asks t d seen r closed =
      let x = closed_lists_exhaust P L defs (LeafList P L) (BodyList P L defs) (rightly P L defs asks) seen [] (closed_within [] seen (λ i c a z. closed i c a)) t d [] [] refl (from_list (on t (d ∷ []) []) seen (start_in seen r)) in
      (λ u s. in_list (on u [] []) seen (x.0 u s), x.1)
    where
      start_in : (seen : List Config) → ReachedBy P L defs t d seen → Contains seen (on t (d ∷ []) [])
      start_in seen begun = (0, omega arith, refl)
      start_in seen (entered old y r n) = Contains-append_left old (y ∷ []) (on t (d ∷ []) []) (start_in old r)

pub branches_exhaust : BranchesExhaust
branches_exhaust P L defs = branches P L defs

pub ended_lists_exhaust : EndedListsExhaust
ended_lists_exhaust P L defs = ended P L defs
