-- What is listed inside a test comes from the test's own strategy.
use Rattle.std.proofs.Common.{◌≡◌, ℕ, zero, suc, ◌+◌, ◌<◌, ◌≤◌, List, [], ◌∷◌, ◌++◌, length, map, Contains, inl, inr, refl, sym, ◌∙◌, ap, subst, ◌⊎◌, arith, length-append}
use Rattle.mau_terms.specs.Tree.{Tree}
use Rattle.mau_terms.specs.Finite.{IsIn}
use Rattle.mau_evaluation.specs.Program.{Program}
use Rattle.mau_evaluation.specs.Evaluation.{Binding}
use Rattle.mau_evaluation.specs.Engine.{Engine}
use Rattle.mau_evaluation.specs.Strategy.{Strategy, idle, fail, every_rule, label, top_only, call, test, star, plus, to_normal, in_turn, either, or_else, branch, negation, attempt, test_of, part_rewrite, label_by, StratDef}
use Rattle.mau_evaluation.specs.Satisfies.{Sat}
use Rattle.mau_evaluation.specs.Configs.{Todo, Frame, test_frame, Config, with_form, on, inside, NextOn, NextBy}
use Rattle.mau_evaluation.specs.ClosedLists.{EndsWith}
use Rattle.mau_evaluation.specs.Answers.{Answers, before}
use Rattle.mau_evaluation.specs.OrderedLists.{AsksFirst}
use Rattle.mau_evaluation.specs.Reach.{At, begun, entered}
use Rattle.mau_evaluation.specs.Entries.{OpensBy, OpensOn, LeafFront, BodyFrontWith, BodyFront, BeginsWith, ReachedBy}
use Rattle.mau_evaluation.specs.StrategyLaws.{SolutionsAreSat, InsideIsSat}
use Rattle.mau_evaluation.proofs.CameFrom.{opened_by, begun_on, LeavesAreSound, CameFrom, from_next, test_in}
use Rattle.mau_evaluation.proofs.Right.{from_results}
use Rattle.mau_evaluation.proofs.Calls.{from_bodies}
use Rattle.mau_evaluation.proofs.Inside.{at_push, in_front, GoesOn, goes_on}
use Rattle.mau_evaluation.proofs.Each.{Has}

has_front : {A : Type 0} (u : A) (us : List A) (rest : Answers A) → IsIn u us → Has u (before us rest)
has_front u [] rest i = absurd i
has_front u (x ∷ us) rest (inl e) = inl e
has_front u (x ∷ us) rest (inr i) = inr (has_front u us rest i)

last_in : {A : Type 0} (c : A) (xs : List A) → IsIn c (xs ++ c ∷ [])
last_in c [] = inl refl
last_in c (x ∷ xs) = inr (last_in c xs)

-- ---- tests taken away

abbrev add : List Frame → Config → Config
add zs c = on c.term c.todo (c.frames ++ zs)

from_map : {A : Type 0} (f g : A → Config) (zs : List Frame) → ((x : A) → f x ≡ add zs (g x)) → (xs : List A) → map f xs ≡ map (add zs) (map g xs)
from_map f g zs h [] = refl
from_map f g zs h (x ∷ xs) = cons (f x) (add zs (g x)) (map f xs) (map (add zs) (map g xs)) (h x) (from_map f g zs h xs)
  where
    cons : (a b : Config) (as_ bs : List Config) → a ≡ b → as_ ≡ bs → a ∷ as_ ≡ b ∷ bs
    cons a b as_ bs e q = cc

in_added : (zs : List Frame) (cs : List Config) (c : Config) → IsIn c (map (add zs) cs) → (b : Config) × IsIn b cs × (c ≡ add zs b)
in_added zs [] c i = absurd i
in_added zs (x ∷ cs) c (inl e) = (x, inl refl, e)
in_added zs (x ∷ cs) c (inr i) = let r = in_added zs cs c i in (r.0, inr r.1, r.2)

module _ (P : Program) (L : Engine) (defs : List StratDef) where
  module _ (leaf : Todo → Tree → List Tree → Type 0) (bodies : Todo → Tree → List Todo → Type 0) (zs : List Frame) where
    abbrev Stripped : Tree → List Todo → List Frame → List Config → Type 0
    Stripped t todo ts cs = (bs : List Config) × NextOn P L defs leaf bodies t todo ts bs × (cs ≡ map (add zs) bs)

    strip_form : (e : Strategy) (t : Tree) (d : Todo) (ds : List Todo) (ts : List Frame) (cs : List Config) → NextBy P L defs leaf bodies e t d ds (ts ++ zs) cs → (bs : List Config) × NextBy P L defs leaf bodies e t d ds ts bs × (cs ≡ map (add zs) bs)
    strip_form idle t d ds ts cs n = (map (λ u. on u ds ts) n.0, (n.0, n.1, refl), n.2 ∙ from_map (λ u. on u ds (ts ++ zs)) (λ u. on u ds ts) zs (λ u. refl) n.0)
    strip_form fail t d ds ts cs n = (map (λ u. on u ds ts) n.0, (n.0, n.1, refl), n.2 ∙ from_map (λ u. on u ds (ts ++ zs)) (λ u. on u ds ts) zs (λ u. refl) n.0)
    strip_form every_rule t d ds ts cs n = (map (λ u. on u ds ts) n.0, (n.0, n.1, refl), n.2 ∙ from_map (λ u. on u ds (ts ++ zs)) (λ u. on u ds ts) zs (λ u. refl) n.0)
    strip_form (label m gs) t d ds ts cs n = (map (λ u. on u ds ts) n.0, (n.0, n.1, refl), n.2 ∙ from_map (λ u. on u ds (ts ++ zs)) (λ u. on u ds ts) zs (λ u. refl) n.0)
    strip_form (top_only e) t d ds ts cs n = (map (λ u. on u ds ts) n.0, (n.0, n.1, refl), n.2 ∙ from_map (λ u. on u ds (ts ++ zs)) (λ u. on u ds ts) zs (λ u. refl) n.0)
    strip_form (test k p r) t d ds ts cs n = (map (λ u. on u ds ts) n.0, (n.0, n.1, refl), n.2 ∙ from_map (λ u. on u ds (ts ++ zs)) (λ u. on u ds ts) zs (λ u. refl) n.0)
    strip_form (part_rewrite k p r us) t d ds ts cs n = (map (λ u. on u ds ts) n.0, (n.0, n.1, refl), n.2 ∙ from_map (λ u. on u ds (ts ++ zs)) (λ u. on u ds ts) zs (λ u. refl) n.0)
    strip_form (label_by m gs es) t d ds ts cs n = (map (λ u. on u ds ts) n.0, (n.0, n.1, refl), n.2 ∙ from_map (λ u. on u ds (ts ++ zs)) (λ u. on u ds ts) zs (λ u. refl) n.0)
    strip_form (call m us) t d ds ts cs n = (map (λ b. on t (b ∷ ds) ts) n.0, (n.0, n.1, refl), n.2 ∙ from_map (λ b. on t (b ∷ ds) (ts ++ zs)) (λ b. on t (b ∷ ds) ts) zs (λ b. refl) n.0)
    strip_form (in_turn e f) t d ds ts cs n = (on t (with_form d e ∷ with_form d f ∷ ds) ts ∷ [], refl, n)
    strip_form (either e f) t d ds ts cs n = (on t (with_form d e ∷ ds) ts ∷ on t (with_form d f ∷ ds) ts ∷ [], refl, n)
    strip_form (star e) t d ds ts cs n = (on t ds ts ∷ on t (with_form d e ∷ with_form d (star e) ∷ ds) ts ∷ [], refl, n)
    strip_form (plus e) t d ds ts cs n = (on t (with_form d (in_turn e (star e)) ∷ ds) ts ∷ [], refl, n)
    strip_form (to_normal e) t d ds ts cs n = (on t (with_form d (in_turn (star e) (negation e)) ∷ ds) ts ∷ [], refl, n)
    strip_form (or_else e f) t d ds ts cs n = (on t (with_form d (branch e idle f) ∷ ds) ts ∷ [], refl, n)
    strip_form (negation e) t d ds ts cs n = (on t (with_form d (branch e fail idle) ∷ ds) ts ∷ [], refl, n)
    strip_form (attempt e) t d ds ts cs n = (on t (with_form d (branch e idle idle) ∷ ds) ts ∷ [], refl, n)
    strip_form (test_of e) t d ds ts cs n = (on t (with_form d (branch (negation e) fail idle) ∷ ds) ts ∷ [], refl, n)
    strip_form (branch e f g) t d ds ts cs (inl n) = (on t (with_form d e ∷ []) (inside d f t ds ∷ ts) ∷ [], inl (n.0, n.1, refl), n.2)
    strip_form (branch e f g) t d ds ts cs (inr n) = (on t (with_form d e ∷ []) (inside d f t ds ∷ ts) ∷ on t (with_form d g ∷ ds) ts ∷ [], inr (n.0, n.1, refl), n.2)

  module _ (asks : AsksFirst P L) where
    abbrev Came : Config → Config → Type 0
    Came c b = CameFrom P L defs (LeafFront P L defs) (BodyFront P L defs) c b

    call_from : (k : ℕ) (ρ : Binding) (n : List ℕ) (ts : List Tree) (t : Tree) (bs : List Todo) → BodyFrontWith P L defs k (record { form = call n ts; calls = k; values = ρ }) bs → (b : Todo) → IsIn b bs → (u : Tree) →
        Sat P L defs b.calls b.values b.form t u → Sat P L defs k ρ (call n ts) t u
    call_from zero ρ n ts t bs h b i u s = absurd h
    call_from (suc k) ρ n ts t bs h b i u s =
        let f = from_bodies P L defs k n ts ρ b (subst (Has b) (sym h.1) (has_front b bs h.0 i)) in
        (f.0, f.1, f.2, f.3, f.4, subst (λ z. Sat P L defs z.calls z.values z.form t u) f.5 s)

    sound : LeavesAreSound P L defs (LeafFront P L defs) (BodyFront P L defs)
    sound = record {
      leaf_sound = λ d t us h u i. from_results P L defs asks d.calls d.values d.form t u h.0 (subst (Has u) (sym (h.1).1) (has_front u us (h.1).0 i));
      call_sound = λ d n ts e t bs h b i u s.
          subst (λ z. Sat P L defs d.calls d.values z t u) (sym e) (call_from d.calls d.values n ts t bs (subst (λ z. BodyFrontWith P L defs d.calls (record { form = z; calls = d.calls; values = d.values }) bs) e h) b i u s);
    }

    opening_came : (e : Strategy) (k : ℕ) (ρ : Binding) (t : Tree) (ds : List Todo) (xs : List Frame) (cs : List Config) → OpensBy e t (record { form = e; calls = k; values = ρ }) ds xs cs → (c : Config) → IsIn c cs → Came c (on t (record { form = e; calls = k; values = ρ } ∷ ds) xs)
    opening_came (branch e f g) k ρ t ds xs cs n c i =
        subst (λ z. Came z (on t (record { form = branch e f g; calls = k; values = ρ } ∷ ds) xs)) (sym (in_one (subst (IsIn c) n i))) (test_in P L defs (LeafFront P L defs) (BodyFront P L defs) sound e f g k ρ t ds xs)
      where
        in_one : {z : Config} → IsIn c (z ∷ []) → c ≡ z
        in_one (inl q) = q
        in_one (inr q) = absurd q
    opening_came _ k ρ t ds xs cs n c i = absurd n

    opens_came : (t : Tree) (todo : List Todo) (xs : List Frame) (cs : List Config) → OpensOn t todo xs cs → (c : Config) → IsIn c cs → Came c (on t todo xs)
    opens_came t [] xs cs n c i = absurd n
    opens_came t (d ∷ ds) xs cs n c i = opening_came d.form d.calls d.values t ds xs cs n c i

    came : (b : Config) (cs : List Config) → BeginsWith P L defs b cs → (c : Config) → IsIn c cs → Came c b
    came b cs (inl e) c i = absurd (subst (IsIn c) e i)
    came b cs (inr (inl o)) c i = opens_came b.term b.todo b.frames cs o c i
    came b cs (inr (inr n)) c i = from_next P L defs (LeafFront P L defs) (BodyFront P L defs) sound b.term b.todo b.frames n.0 n.1 c (in_front P L defs c cs n.0 (n.2).0 (n.2).1 i)

    all_came : (t : Tree) (d : Todo) (seen : List Config) → ReachedBy P L defs t d seen → (i : ℕ) (c : Config) → At seen i c → Came c (on t (d ∷ []) [])
    all_came t d seen begun i c a = first i a
      where
        first : (i : ℕ) → At (on t (d ∷ []) [] ∷ []) i c → Came c (on t (d ∷ []) [])
        first zero b = subst (λ z. Came z (on t (d ∷ []) [])) b.1 (λ u h. h)
        first (suc i) b = absurd (too_far i b.0)
          where
            too_far : (i : ℕ) → suc i < 1 → ⊥
            too_far i h = omega arith
    all_came t d seen (entered old y r n) i c a = by (λ k b s. all_came t d old r k b s) (at_push old y i c a)
      where
        by : ((k : ℕ) (b : Config) → At old k b → Came b (on t (d ∷ []) [])) → At old i c ⊎ ((i ≡ length old) × (c ≡ y)) → Came c (on t (d ∷ []) [])
        by ih (inl b) = ih i c b
        by ih (inr b) = subst (λ z. Came z (on t (d ∷ []) [])) (sym b.1) (λ u h. ih n.from n.entry n.stands u (came n.entry (n.given ++ y ∷ []) n.begins y (last_in y n.given) u h))

    reached_sat : (t : Tree) (d : Todo) (seen : List Config) → ReachedBy P L defs t d seen → (u : Tree) → Contains seen (on u [] []) → Sat P L defs d.calls d.values d.form t u
    reached_sat t d seen r u c = let p = all_came t d seen r c.0 (on u [] []) (c.1, c.2) u refl in subst (Sat P L defs d.calls d.values d.form t) p.2 p.1

    -- ---- inside a test

    module _ (t : Tree) (d : Todo) (e f g : Strategy) (ds : List Todo) (xs : List Frame) (form : d.form ≡ branch e f g) where
      abbrev zs : List Frame
      zs = inside d f t ds ∷ xs

      -- without the tests outside, c comes from E on t
      abbrev Inner : Config → Type 0
      Inner c = (ts : List Frame) × (c.frames ≡ ts ++ zs) × Came (on c.term c.todo ts) (on t (with_form d e ∷ []) [])

      longer : (ys : List Frame) → EndsWith zs ys → length zs ≤ length ys
      longer [] h = let q : length zs ≡ length {A = Frame} [] = ap length h in omega arith
      longer (y ∷ ys) (inl h) = let q : length zs ≡ length (y ∷ ys) = ap length h in omega arith
      longer (y ∷ ys) (inr h) = let q : length zs ≤ length ys = longer ys h in more q
        where
          more : length zs ≤ length ys → length zs ≤ length (y ∷ ys)
          more q = omega arith

      not_shorter : EndsWith zs xs → ⊥
      not_shorter h = let q : length zs ≤ length xs = longer xs h in no q
        where
          no : length zs ≤ length xs → ⊥
          no q = omega arith

      from_added : (a : Tree) (todo : List Todo) (ts : List Frame) → Came (on a todo ts) (on t (with_form d e ∷ []) []) → (y b : Config) → y ≡ add zs b → Came b (on a todo ts) → Inner y
      from_added a todo ts k y b q m = subst Inner (sym q) (b.frames, refl, λ u h. k u (m u h))

      open_form : (o : Strategy) (k : ℕ) (ρ : Binding) (a : Tree) (es : List Todo) (ts : List Frame) (cs : List Config) (y : Config) → OpensBy o a (record { form = o; calls = k; values = ρ }) es (ts ++ zs) cs → IsIn y cs → (b : Config) × (y ≡ add zs b) × Came b (on a (record { form = o; calls = k; values = ρ } ∷ es) ts)
      open_form (branch o p q) k ρ a es ts cs y n i =
          let w : Todo = record { form = branch o p q; calls = k; values = ρ } in
          (on a (with_form w o ∷ []) (inside w p a es ∷ ts), in_one (subst (IsIn y) n i), test_in P L defs (LeafFront P L defs) (BodyFront P L defs) sound o p q k ρ a es ts)
        where
          in_one : {z : Config} → IsIn y (z ∷ []) → y ≡ z
          in_one (inl q) = q
          in_one (inr q) = absurd q
      open_form _ k ρ a es ts cs y n i = absurd n

      open_inside : (a : Tree) (todo : List Todo) (ts : List Frame) (cs : List Config) (y : Config) → OpensOn a todo (ts ++ zs) cs → IsIn y cs → (b : Config) × (y ≡ add zs b) × Came b (on a todo ts)
      open_inside a [] ts cs y n i = absurd n
      open_inside a (w ∷ es) ts cs y n i = open_form w.form w.calls w.values a es ts cs y n i

      next_inside : (a : Tree) (todo : List Todo) (ts : List Frame) (cs : List Config) (y : Config) → NextOn P L defs (LeafFront P L defs) (BodyFront P L defs) a todo (ts ++ zs) cs → IsIn y cs → EndsWith zs y.frames → (b : Config) × (y ≡ add zs b) × Came b (on a todo ts)
      next_inside a [] [] cs y n i z = absurd (not_shorter (subst (λ w. EndsWith zs w.frames) (in_one (subst (IsIn y) n i)) z))
        where
          in_one : {w : Config} → IsIn y (w ∷ []) → y ≡ w
          in_one (inl q) = q
          in_one (inr q) = absurd q
      next_inside a [] (test_frame o p b es ∷ ts) cs y n i z =
          (on a (p ∷ es) ts, in_one (subst (IsIn y) n i), from_next P L defs (LeafFront P L defs) (BodyFront P L defs) sound a [] (test_frame o p b es ∷ ts) (on a (p ∷ es) ts ∷ []) refl (on a (p ∷ es) ts) (inl refl))
        where
          in_one : {w : Config} → IsIn y (w ∷ []) → y ≡ w
          in_one (inl q) = q
          in_one (inr q) = absurd q
      next_inside a (w ∷ es) ts cs y n i z =
          let s = strip_form (LeafFront P L defs) (BodyFront P L defs) zs w.form a w es ts cs n in
          let b = in_added zs s.0 y (subst (IsIn y) s.2 i) in
          (b.0, b.2, from_next P L defs (LeafFront P L defs) (BodyFront P L defs) sound a (w ∷ es) ts s.0 s.1 b.0 b.1)

      from_inside : (b y : Config) (cs : List Config) → BeginsWith P L defs b cs → IsIn y cs → EndsWith zs y.frames → Inner b → Inner y
      from_inside b y cs (inl q) i z k = absurd (subst (IsIn y) q i)
      from_inside b y cs (inr (inl o)) i z k =
          let r = open_inside b.term b.todo k.0 cs y (subst (λ w. OpensOn b.term b.todo w cs) k.1 o) i in from_added b.term b.todo k.0 k.2 y r.0 r.1 r.2
      from_inside b y cs (inr (inr n)) i z k =
          let r = next_inside b.term b.todo k.0 n.0 y (subst (λ w. NextOn P L defs (LeafFront P L defs) (BodyFront P L defs) b.term b.todo w n.0) k.1 n.1) (in_front P L defs y cs n.0 (n.2).0 (n.2).1 i) z in
          from_added b.term b.todo k.0 k.2 y r.0 r.1 r.2

      same_form : (d' : Todo) (e' f' g' : Strategy) → d ≡ d' → d'.form ≡ branch e' f' g' → e ≡ e'
      same_form d' e' f' g' q h = let k : branch e f g ≡ branch e' f' g' = sym form ∙ (ap (λ w. w.form) q ∙ h) in cc

      opened_now : (b y : Config) (d' : Todo) (f' : Strategy) (ds' : List Todo) (e' g' : Strategy) → zs ≡ inside d' f' b.term ds' ∷ b.frames → d'.form ≡ branch e' f' g' → y ≡ on b.term (with_form d' e' ∷ []) (inside d' f' b.term ds' ∷ b.frames) → Inner y
      opened_now b y d' f' ds' e' g' q h w =
          let head : inside d f t ds ≡ inside d' f' b.term ds' = cc in
          let h1 : d ≡ d' = ap opened_by head in
          let h2 : t ≡ b.term = ap begun_on head in
          let h3 : e ≡ e' = same_form d' e' f' g' h1 h in
          subst Inner (sym w) (subst (λ v. Inner (on b.term (with_form d' e' ∷ []) v)) q (subst (λ v. Inner (on v (with_form d' e' ∷ []) zs)) h2 (subst (λ v. Inner (on t (with_form v e' ∷ []) zs)) h1 (subst (λ v. Inner (on t (with_form d v ∷ []) zs)) h3 ([], refl, λ u k. k)))))

      inner : (t0 : Tree) (d0 : Todo) (seen : List Config) → ReachedBy P L defs t0 d0 seen → (i : ℕ) (c : Config) → At seen i c → EndsWith zs c.frames → Inner c
      inner t0 d0 seen begun i c a z = absurd (first i a)
        where
          none : EndsWith zs [] → ⊥
          none h = cc

          first : (i : ℕ) → At (on t0 (d0 ∷ []) [] ∷ []) i c → ⊥
          first zero b = none (subst (λ w. EndsWith zs w.frames) (sym b.1) z)
          first (suc i) b = too_far i b.0
            where
              too_far : (i : ℕ) → suc i < 1 → ⊥
              too_far i h = omega arith
      inner t0 d0 seen (entered old y r n) i c a z = by (λ k b s w. inner t0 d0 old r k b s w) (at_push old y i c a)
        where
          from_entry : ((k : ℕ) (b : Config) → At old k b → EndsWith zs b.frames → Inner b) → EndsWith zs y.frames → GoesOn P L defs n.entry y → Inner y
          from_entry ih w (inl q) = from_inside n.entry y (n.given ++ y ∷ []) n.begins (last_in y n.given) w (ih n.from n.entry n.stands (subst (EndsWith zs) q w))
          from_entry ih w (inr (inl q)) = from_inside n.entry y (n.given ++ y ∷ []) n.begins (last_in y n.given) w (ih n.from n.entry n.stands (subst (EndsWith zs) (sym q.1) (inr w)))
          from_entry ih w (inr (inr o)) = cases (subst (EndsWith zs) o.4 w)
            where
              cases : (zs ≡ inside o.0 o.1 (n.entry).term o.2 ∷ (n.entry).frames) ⊎ EndsWith zs (n.entry).frames → Inner y
              cases (inl q) = opened_now n.entry y o.0 o.1 o.2 o.5 o.6 q o.7 o.8
              cases (inr q) = from_inside n.entry y (n.given ++ y ∷ []) n.begins (last_in y n.given) w (ih n.from n.entry n.stands q)

          by : ((k : ℕ) (b : Config) → At old k b → EndsWith zs b.frames → Inner b) → At old i c ⊎ ((i ≡ length old) × (c ≡ y)) → Inner c
          by ih (inl b) = ih i c b z
          by ih (inr b) = subst Inner (sym b.1) (from_entry ih (subst (λ w. EndsWith zs w.frames) b.1 z) (goes_on P L defs n.entry (n.given ++ y ∷ []) n.begins y (last_in y n.given)))

      own_front : (ts : List Frame) → zs ≡ ts ++ zs → ts ≡ []
      own_front [] q = refl
      own_front (x ∷ ts) q = absurd (no (length-append (x ∷ ts) zs) (ap length q))
        where
          no : length ((x ∷ ts) ++ zs) ≡ length (x ∷ ts) + length zs → length zs ≡ length ((x ∷ ts) ++ zs) → ⊥
          no a b = omega arith

      result_sat : (t0 : Tree) (d0 : Todo) (seen : List Config) → ReachedBy P L defs t0 d0 seen → (v : Tree) → Contains seen (on v [] zs) → Sat P L defs d.calls d.values e t v
      result_sat t0 d0 seen r v c =
          let k = inner t0 d0 seen r c.0 (on v [] zs) (c.1, c.2) (inl refl) in
          let n : k.0 ≡ [] = own_front k.0 k.1 in
          let m = subst (λ w. Came (on v [] w) (on t (with_form d e ∷ []) [])) n k.2 in
          let p = m v refl in
          subst (Sat P L defs d.calls d.values e t) p.2 p.1

pub inside_is_sat : InsideIsSat
inside_is_sat P L defs asks t0 d0 seen r t d e f g ds xs h v c = result_sat P L defs asks t d e f g ds xs h t0 d0 seen r v c

pub solutions_are_sat : SolutionsAreSat
solutions_are_sat P L defs asks t d seen r u c = reached_sat P L defs asks t d seen r u c
