-- What holds from some limits on meets.
use Rattle.std.proofs.Common.{◌≡◌, ℕ, zero, suc, ◌+◌, ◌<◌, ◌≤◌, List, [], ◌∷◌, ◌++◌, length, Contains, inl, inr, refl, sym, ◌∙◌, subst, ◌⊎◌, arith}
use Rattle.std.proofs.lemmas.Bool.{cases_lt}
use Rattle.std.proofs.lemmas.List.{get_or_default}
use Rattle.mau_terms.specs.Tree.{Tree}
use Rattle.mau_evaluation.specs.Program.{Program}
use Rattle.mau_evaluation.specs.Engine.{Engine, Engines}
use Rattle.mau_evaluation.specs.Strategy.{Strategy, branch, StratDef}
use Rattle.mau_evaluation.specs.Satisfies.{Sat, Cut}
use Rattle.mau_evaluation.specs.Configs.{Todo, Frame, Config, on, with_form, inside, NextBy}
use Rattle.mau_evaluation.specs.OrderedLists.{AsksFirst, LeafList, BodyList}
use Rattle.mau_evaluation.specs.Reach.{At, IsClosedAt, ClosedBehind, IsNextEntry, Reached, begun, entered, IsClosed}
use Rattle.mau_evaluation.specs.Entries.{BeginsWith, NextOf}
use Rattle.mau_evaluation.specs.Eventually.{Eventually, Begins, NextAll, RunsTo}
use Rattle.mau_evaluation.specs.StrategyLaws.{RunsMeet, EndedRunsAreWhole, SolutionsHold, BranchesAreDecided}
use Rattle.mau_evaluation.proofs.Inside.{branches_exhaust, ended_lists_exhaust}
use Rattle.mau_evaluation.proofs.Local.{solutions_are_sat, inside_is_sat}

left_of : (m n k : ℕ) → m + n ≤ k → m ≤ k
left_of m n k h = omega arith

right_of : (m n k : ℕ) → m + n ≤ k → n ≤ k
right_of m n k h = omega arith

element : {A : Type 0} (xs : List A) (i : ℕ) → i < length xs → (d : A) × At xs i d
element [] i l = absurd (none i l)
  where
    none : (i : ℕ) → i < 0 → ⊥
    none i l = omega arith
element (x ∷ xs) zero l = (x, (l, refl))
element {A = A} (x ∷ xs) (suc i) l = let r = element xs i (less i l) in (r.0, (l, r.1.1))
  where
    less : (i : ℕ) → suc i < length (x ∷ xs) → i < length xs
    less i l = omega arith

pub same_at : {A : Type 0} (xs : List A) (i : ℕ) (d e : A) → At xs i d → At xs i e → d ≡ e
same_at xs i d e a b = sym a.1 ∙ (get_or_default xs i d e a.0 ∙ b.1)

module _ (E : Engines) where
  both : {A B : Engine → Type 0} → Eventually E A → Eventually E B → Eventually E (λ L. A L × B L)
  both h g = record {
    level = h.level + g.level;
    each = h.each + g.each;
    budget = h.budget + g.budget;
    holds = λ k B b i j l. (
      h.holds k B b (left_of h.level g.level k i) (left_of h.each g.each B j) (left_of h.budget g.budget b l),
      g.holds k B b (right_of h.level g.level k i) (right_of h.each g.each B j) (right_of h.budget g.budget b l),
    );
  }

  then_so : {A B : Engine → Type 0} → ((k B' b : ℕ) → A (E k B' b) → B (E k B' b)) → Eventually E A → Eventually E B
  then_so f h = record { level = h.level; each = h.each; budget = h.budget; holds = λ k B b i j l. f k B b (h.holds k B b i j l) }

  always : {A : Engine → Type 0} → ((L : Engine) → A L) → Eventually E A
  always {A = A} f = record { level = 0; each = 0; budget = 0; holds = λ k B b i j l. f (E k B b) }

  -- of each place below n
  each_place : (A : Engine → ℕ → Type 0) (n : ℕ) → ((i : ℕ) → i < n → Eventually E (λ L. A L i)) → Eventually E (λ L. (i : ℕ) → i < n → A L i)
  each_place A zero h = always {A = λ L. (i : ℕ) → i < 0 → A L i} (λ L i l. absurd (none i l))
    where
      none : (i : ℕ) → i < 0 → ⊥
      none i l = omega arith
  each_place A (suc n) h =
      then_so {A = λ L. ((i : ℕ) → i < n → A L i) × A L n} {B = λ L. (i : ℕ) → i < suc n → A L i} (λ k B b p i l. by (E k B b) p i (cases i n l))
      (both {A = λ L. (i : ℕ) → i < n → A L i} {B = λ L. A L n} (each_place A n (λ i l. h i (less i n l))) (h n (omega arith)))
    where
      less : (i n : ℕ) → i < n → i < suc n
      less i n l = omega arith

      cases : (i n : ℕ) → i < suc n → (i < n) ⊎ (i ≡ n)
      cases i zero l = inr (omega arith)
      cases zero (suc n) l = inl (omega arith)
      cases (suc i) (suc n) l = next (cases i n (omega arith))
        where
          next : (i < n) ⊎ (i ≡ n) → (suc i < suc n) ⊎ (suc i ≡ suc n)
          next (inl h) = inl (omega arith)
          next (inr h) = inr (omega arith)

      by : (L : Engine) → ((i : ℕ) → i < n → A L i) × A L n → (i : ℕ) → (i < n) ⊎ (i ≡ n) → A L i
      by L p i (inl l) = p.0 i l
      by L p i (inr e) = subst (A L) (sym e) p.1

module _ (P : Program) (E : Engines) (defs : List StratDef) where
  abbrev Fronts : Engine → Config → List Config → Type 0
  Fronts L = BeginsWith P L defs

  abbrev Nexts : Engine → Config → List Config → Type 0
  Nexts L = NextOf P L defs

  closed_so : (seen : List Config) (d : Config) → IsClosedAt (Begins P E defs) (NextAll P E defs) seen d → Eventually E (λ L. IsClosedAt (Fronts L) (Nexts L) seen d)
  closed_so seen d h = then_so E {A = λ L. Nexts L d h.0} {B = λ L. IsClosedAt (Fronts L) (Nexts L) seen d} (λ k B b n. (h.0, n, h.2)) h.1

  -- all entries from a place on
  all_closed : (seen : List Config) (low : ℕ) → ((i : ℕ) (d : Config) → low ≤ i → At seen i d → IsClosedAt (Begins P E defs) (NextAll P E defs) seen d) →
      Eventually E (λ L. (i : ℕ) (d : Config) → low ≤ i → At seen i d → IsClosedAt (Fronts L) (Nexts L) seen d)
  all_closed seen low h =
      then_so E {A = λ L. (i : ℕ) → i < length seen → (d : Config) → low ≤ i → At seen i d → IsClosedAt (Fronts L) (Nexts L) seen d} {B = λ L. (i : ℕ) (d : Config) → low ≤ i → At seen i d → IsClosedAt (Fronts L) (Nexts L) seen d}
      (λ k B b f i d l a. f i a.0 d l a) (each_place E (λ L i. (d : Config) → low ≤ i → At seen i d → IsClosedAt (Fronts L) (Nexts L) seen d) (length seen) (λ i l. at_place i (element seen i l) (cases_lt i low)))
    where
      at_place : (i : ℕ) → (d : Config) × At seen i d → (i < low) ⊎ (low ≤ i) → Eventually E (λ L. (d : Config) → low ≤ i → At seen i d → IsClosedAt (Fronts L) (Nexts L) seen d)
      at_place i x (inr l) = then_so E {A = λ L. IsClosedAt (Fronts L) (Nexts L) seen x.0} {B = λ L. (d : Config) → low ≤ i → At seen i d → IsClosedAt (Fronts L) (Nexts L) seen d}
          (λ k B b c d m a. subst (IsClosedAt (Fronts (E k B b)) (Nexts (E k B b)) seen) (same_at seen i x.0 d x.1 a) c) (closed_so seen x.0 (h i x.0 l x.1))
      at_place i x (inl l) = always E {A = λ L. (d : Config) → low ≤ i → At seen i d → IsClosedAt (Fronts L) (Nexts L) seen d} (λ L d m a. absurd (clash i m l))
        where
          clash : (i : ℕ) → low ≤ i → i < low → ⊥
          clash i m l = omega arith

  behind_so : (seen : List Config) (j : ℕ) → ClosedBehind (Begins P E defs) (NextAll P E defs) seen j → Eventually E (λ L. ClosedBehind (Fronts L) (Nexts L) seen j)
  behind_so seen j h = all_closed seen (suc j) (λ i d l a. h i d (omega arith) a)

  entry_so : (seen : List Config) (c : Config) → IsNextEntry (Begins P E defs) (NextAll P E defs) seen c → Eventually E (λ L. IsNextEntry (Fronts L) (Nexts L) seen c)
  entry_so seen c h =
      then_so E {A = λ L. Fronts L h.entry (h.given ++ c ∷ []) × ClosedBehind (Fronts L) (Nexts L) seen h.from} {B = λ L. IsNextEntry (Fronts L) (Nexts L) seen c}
      (λ k B b p. record { from = h.from; entry = h.entry; stands = h.stands; given = h.given; begins = p.0; listed = h.listed; fresh = h.fresh; behind = p.1 })
      (both E {A = λ L. Fronts L h.entry (h.given ++ c ∷ [])} {B = λ L. ClosedBehind (Fronts L) (Nexts L) seen h.from} h.begins (behind_so seen h.from h.behind))

  meet : (start : Config) (seen : List Config) → Reached (Begins P E defs) (NextAll P E defs) start seen → Eventually E (λ L. Reached (Fronts L) (Nexts L) start seen)
  meet start seen begun = always E {A = λ L. Reached (Fronts L) (Nexts L) start (start ∷ [])} (λ L. begun)
  meet start seen (entered old c r n) =
      then_so E {A = λ L. Reached (Fronts L) (Nexts L) start old × IsNextEntry (Fronts L) (Nexts L) old c} {B = λ L. Reached (Fronts L) (Nexts L) start (old ++ c ∷ [])}
      (λ k B b p. entered old c p.0 p.1) (both E {A = λ L. Reached (Fronts L) (Nexts L) start old} {B = λ L. IsNextEntry (Fronts L) (Nexts L) old c} (meet start old r) (entry_so old c n))

  ended_so : ((k B b : ℕ) → AsksFirst P (E k B b)) → (t : Tree) (d : Todo) (seen : List Config) → RunsTo P E defs t d seen → IsClosed (Begins P E defs) (NextAll P E defs) seen →
      Eventually E (λ L. ((u : Tree) → Sat P L defs d.calls d.values d.form t u → Contains seen (on u [] [])) × (Cut P L defs d.calls d.values d.form t → ⊥))
  ended_so asks t d seen r closed =
      then_so E {A = λ L. Reached (Fronts L) (Nexts L) (on t (d ∷ []) []) seen × ((i : ℕ) (c : Config) → 0 ≤ i → At seen i c → IsClosedAt (Fronts L) (Nexts L) seen c)}
      {B = λ L. ((u : Tree) → Sat P L defs d.calls d.values d.form t u → Contains seen (on u [] [])) × (Cut P L defs d.calls d.values d.form t → ⊥)}
      (λ k B b p. ended_lists_exhaust P (E k B b) defs (asks k B b) t d seen p.0 (λ i c a. p.1 i c (least i) a))
      (both E {A = λ L. Reached (Fronts L) (Nexts L) (on t (d ∷ []) []) seen} {B = λ L. (i : ℕ) (c : Config) → 0 ≤ i → At seen i c → IsClosedAt (Fronts L) (Nexts L) seen c}
      (meet (on t (d ∷ []) []) seen r) (all_closed seen 0 (λ i c l a. closed i c a)))
    where
      least : (i : ℕ) → 0 ≤ i
      least i = omega arith

  solutions_so : ((k B b : ℕ) → AsksFirst P (E k B b)) → (t : Tree) (d : Todo) (seen : List Config) → RunsTo P E defs t d seen → (u : Tree) → Contains seen (on u [] []) →
      Eventually E (λ L. Sat P L defs d.calls d.values d.form t u)
  solutions_so asks t d seen r u c =
      then_so E {A = λ L. Reached (Fronts L) (Nexts L) (on t (d ∷ []) []) seen} {B = λ L. Sat P L defs d.calls d.values d.form t u}
      (λ k B b p. solutions_are_sat P (E k B b) defs (asks k B b) t d seen p u c) (meet (on t (d ∷ []) []) seen r)

  -- the successors of a branch, at its form
  branch_next : (L : Engine) (t : Tree) (d : Todo) (e f g : Strategy) (ds : List Todo) (xs : List Frame) → d.form ≡ branch e f g → (cs : List Config) → NextBy P L defs (LeafList P L) (BodyList P L defs) (branch e f g) t d ds xs cs → Nexts L (on t (d ∷ ds) xs) cs
  branch_next L t d e f g ds xs q cs n = subst (λ z. NextBy P L defs (LeafList P L) (BodyList P L defs) z t d ds xs cs) (sym q) n

  decided : ((k B b : ℕ) → AsksFirst P (E k B b)) → (t0 : Tree) (d0 : Todo) (seen : List Config) → RunsTo P E defs t0 d0 seen →
      (j : ℕ) (t : Tree) (d : Todo) (e f g : Strategy) (ds : List Todo) (xs : List Frame) → d.form ≡ branch e f g → At seen j (on t (d ∷ ds) xs) →
      Contains seen (on t (with_form d e ∷ []) (inside d f t ds ∷ xs)) → ClosedBehind (Begins P E defs) (NextAll P E defs) seen j →
      (((v : Tree) → Contains seen (on v [] (inside d f t ds ∷ xs)) → ⊥) → NextAll P E defs (on t (d ∷ ds) xs) (on t (with_form d e ∷ []) (inside d f t ds ∷ xs) ∷ on t (with_form d g ∷ ds) xs ∷ [])) ×
      ((v : Tree) → Contains seen (on v [] (inside d f t ds ∷ xs)) → NextAll P E defs (on t (d ∷ ds) xs) (on t (with_form d e ∷ []) (inside d f t ds ∷ xs) ∷ []))
  decided asks t0 d0 seen r j t d e f g ds xs q stands into behind = (
    λ none. then_so E {A = λ L. Reached (Fronts L) (Nexts L) (on t0 (d0 ∷ []) []) seen × ClosedBehind (Fronts L) (Nexts L) seen j} {B = λ L. Nexts L (on t (d ∷ ds) xs) (first ∷ on t (with_form d g ∷ ds) xs ∷ [])}
        (λ k B b p. let x = branches_exhaust P (E k B b) defs (asks k B b) t0 d0 seen p.0 j t d e f g ds xs (record { form = q; stands = stands; entered = into; behind = p.1 }) in
        branch_next (E k B b) t d e f g ds xs q (first ∷ on t (with_form d g ∷ ds) xs ∷ []) (inr ((λ v s. none v (x.0 v s)), x.1, refl)))
        (both E {A = λ L. Reached (Fronts L) (Nexts L) (on t0 (d0 ∷ []) []) seen} {B = λ L. ClosedBehind (Fronts L) (Nexts L) seen j} (meet (on t0 (d0 ∷ []) []) seen r) (behind_so seen j behind)),
    λ v c. then_so E {A = λ L. Reached (Fronts L) (Nexts L) (on t0 (d0 ∷ []) []) seen} {B = λ L. Nexts L (on t (d ∷ ds) xs) (first ∷ [])}
        (λ k B b p. branch_next (E k B b) t d e f g ds xs q (first ∷ []) (inl (v, inside_is_sat P (E k B b) defs (asks k B b) t0 d0 seen p t d e f g ds xs q v c, refl))) (meet (on t0 (d0 ∷ []) []) seen r),
  )
    where
      first : Config
      first = on t (with_form d e ∷ []) (inside d f t ds ∷ xs)

pub runs_meet : RunsMeet
runs_meet P E defs = meet P E defs

pub ended_runs_are_whole : EndedRunsAreWhole
ended_runs_are_whole P E defs = ended_so P E defs

pub solutions_hold : SolutionsHold
solutions_hold P E defs = solutions_so P E defs

pub branches_are_decided : BranchesAreDecided
branches_are_decided P E defs = decided P E defs
