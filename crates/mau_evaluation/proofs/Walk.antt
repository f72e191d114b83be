-- A run computed step by step, slowly, as its definition says it; and that what it computes is the list that a run reaches.
use Rattle.std.proofs.Common.{◌≡◌, ℕ, zero, suc, ◌<◌, ◌≤◌, List, [], ◌∷◌, ◌++◌, length, map, Bool, true, false, ◌&&◌, ◌||◌, All, Contains, inl, inr, refl, sym, ap, ap₂, ◌∙◌, subst, ◌⊎◌, arith}
use Rattle.std.proofs.Math.Nat.{eq-or-lt_of_le}
use Rattle.std.specs.List.{slice_index_or}
use Rattle.std.proofs.lemmas.List.{get_or_default, append-nil, map-append}
use Rattle.std.proofs.lemmas.List.Elements.{All-cons, All-nil}
use Rattle.mau_terms.specs.Tree.{Tree}
use Rattle.mau_terms.specs.Finite.{IsIn}
use Rattle.mau_evaluation.specs.Program.{Program}
use Rattle.mau_evaluation.specs.Evaluation.{Binding}
use Rattle.mau_evaluation.specs.Engine.{Engine}
use Rattle.mau_evaluation.specs.Strategy.{Strategy, idle, fail, every_rule, label, top_only, call, test, star, plus, to_normal, in_turn, either, or_else, branch, negation, attempt, test_of, part_rewrite, label_by, StratDef}
use Rattle.mau_evaluation.specs.Satisfies.{Sat}
use Rattle.mau_evaluation.specs.Configs.{Todo, Frame, test_frame, Config, with_form, on, inside, LeafNext, NextBy, Next}
use Rattle.mau_evaluation.specs.Answers.{Answers, no_more, ends_by, answer, answers_of, before}
use Rattle.mau_evaluation.specs.OrderedLists.{IsLeaf, results_of, bodies_for, AsksFirst, LeafList, BodyList}
use Rattle.mau_evaluation.specs.Reach.{At, IsClosedAt, ClosedBehind, IsNextEntry, begun, entered, IsClosed}
use Rattle.mau_evaluation.specs.Entries.{LeafFront, BodyFront, NextOf, BeginsWith, ReachedBy}
use Rattle.mau_evaluation.specs.Questions.{same_list}
use Rattle.mau_evaluation.proofs.BareTerms.{both_are}
use Rattle.mau_evaluation.proofs.Same.{same_frame, same_config, frames_tell, frames_know, config_tells, config_knows, not_both}
use Rattle.mau_evaluation.proofs.Inside.{in_list, from_list, branches_exhaust, ended_lists_exhaust}
use Rattle.mau_evaluation.proofs.Local.{inside_is_sat, solutions_are_sat}
use Rattle.std.proofs.lemmas.Bool.{or_parts}

-- ---- what is listed

abbrev pub is_listed : List Config → Config → Bool
is_listed [] c = false
is_listed (x ∷ xs) c = same_config c x || is_listed xs c

abbrev is_nil : List Todo → Bool
is_nil [] = true
is_nil (d ∷ ds) = false

-- some entry has nothing left inside the frames zs
abbrev has_inside : List Config → List Frame → Bool
has_inside [] zs = false
has_inside (c ∷ cs) zs = (is_nil c.todo && same_list same_frame c.frames zs) || has_inside cs zs

one_or : (a b : Bool) → (a || b) ≡ true → (a ≡ true) ⊎ (b ≡ true)
one_or true b h = inl refl
one_or false b h = inr h

listed_in : (xs : List Config) (c : Config) → is_listed xs c ≡ true → IsIn c xs
listed_in [] c h = cc
listed_in (x ∷ xs) c h = by (λ e. listed_in xs c e) (one_or (same_config c x) (is_listed xs c) h)
  where
    by : (is_listed xs c ≡ true → IsIn c xs) → (same_config c x ≡ true) ⊎ (is_listed xs c ≡ true) → IsIn c (x ∷ xs)
    by k (inl e) = inl (config_tells c x e)
    by k (inr e) = inr (k e)

not_listed : (xs : List Config) (c : Config) → is_listed xs c ≡ false → IsIn c xs → ⊥
not_listed [] c h i = absurd i
not_listed (x ∷ xs) c h (inl e) = let a : same_config c c ≡ false = subst (λ z. same_config c z ≡ false) (sym e) (or_parts (same_config c x) (is_listed xs c) h).0 in let k = config_knows c in not_both (same_config c c) k a
not_listed (x ∷ xs) c h (inr i) = not_listed xs c (or_parts (same_config c x) (is_listed xs c) h).1 i

inside_in : (xs : List Config) (zs : List Frame) → has_inside xs zs ≡ true → (v : Tree) × IsIn (on v [] zs) xs
inside_in [] zs h = cc
inside_in (c ∷ cs) zs h = by (λ e. inside_in cs zs e) (one_or (is_nil c.todo && same_list same_frame c.frames zs) (has_inside cs zs) h)
  where
    nothing : (ds : List Todo) → is_nil ds ≡ true → ds ≡ []
    nothing [] e = refl
    nothing (d ∷ ds) e = cc

    by : (has_inside cs zs ≡ true → (v : Tree) × IsIn (on v [] zs) cs) → ((is_nil c.todo && same_list same_frame c.frames zs) ≡ true) ⊎ (has_inside cs zs ≡ true) → (v : Tree) × IsIn (on v [] zs) (c ∷ cs)
    by k (inl e) =
        let p = both_are (is_nil c.todo) (same_list same_frame c.frames zs) e in
        let a : c.todo ≡ [] = nothing c.todo p.0 in
        let b : c.frames ≡ zs = frames_tell c.frames zs p.1 in
        (c.term, inl (λ i. record { term = c.term; todo = sym a i; frames = sym b i }))
    by k (inr e) = let r = k e in (r.0, inr r.1)

not_inside : (xs : List Config) (zs : List Frame) → has_inside xs zs ≡ false → (v : Tree) → IsIn (on v [] zs) xs → ⊥
not_inside [] zs h v i = absurd i
not_inside (c ∷ cs) zs h v (inl e) =
    let a = (or_parts (is_nil c.todo && same_list same_frame c.frames zs) (has_inside cs zs) h).0 in
    let b : (same_list same_frame zs zs) ≡ false = subst (λ w. (is_nil w.todo && same_list same_frame w.frames zs) ≡ false) (sym e) a in
    not_both (same_list same_frame zs zs) (frames_know zs) b
not_inside (c ∷ cs) zs h v (inr i) = not_inside cs zs (or_parts (is_nil c.todo && same_list same_frame c.frames zs) (has_inside cs zs) h).1 v i

-- ---- the first new one

-- a list ends before it has a new one; it has none; or the first new one
pub data Look : Type 0 where
  unknown : Look
  none_new : Look
  new : Config → Look

abbrev pick : Bool → Config → Look → Look
pick true c l = l
pick false c l = new c

abbrev first_new : {A : Type 0} → List Config → (A → Config) → Answers A → Look
first_new seen f no_more = none_new
first_new seen f (ends_by e) = unknown
first_new seen f (answer x p) = pick (is_listed seen (f x)) (f x) (first_new seen f p)

abbrev AllListed : List Config → List Config → Type 0
AllListed seen cs = All (Contains seen) cs

-- what is found by first_new
record IsNew {A : Type 0} (seen : List Config) (f : A → Config) (p : Answers A) (c : Config) : Type 0 where
  given : List A
  next : A
  rest : Answers A
  is : p ≡ before (given ++ next ∷ []) rest
  listed : AllListed seen (map f given)
  same : c ≡ f next
  fresh : Contains seen c → ⊥

abbrev IsAll : {A : Type 0} → List Config → (A → Config) → Answers A → Type 0
IsAll {A = A} seen f p = (us : List A) × (p ≡ answers_of us) × AllListed seen (map f us)

abbrev Finds : {A : Type 0} → List Config → (A → Config) → Answers A → Look → Type 0
Finds seen f p unknown = Unit {0}
Finds seen f p none_new = IsAll seen f p
Finds seen f p (new c) = IsNew seen f p c

finds : {A : Type 0} (seen : List Config) (f : A → Config) (p : Answers A) → Finds seen f p (first_new seen f p)
finds seen f no_more = ([], refl, All-nil (Contains seen))
finds seen f (ends_by e) = tt
finds {A = A} seen f (answer x p) = by (is_listed seen (f x)) refl (first_new seen f p) (finds seen f p)
  where
    by : (b : Bool) → is_listed seen (f x) ≡ b → (l : Look) → Finds seen f p l → Finds seen f (answer x p) (pick b (f x) l)
    by true e unknown r = tt
    by true e none_new r = (x ∷ r.0, ap (answer x) r.1, All-cons (Contains seen) (f x) (map f r.0) (in_list (f x) seen (listed_in seen (f x) e)) r.2)
    by true e (new c) r = record {
      given = x ∷ r.given;
      next = r.next;
      rest = r.rest;
      is = ap (answer x) r.is;
      listed = All-cons (Contains seen) (f x) (map f r.given) (in_list (f x) seen (listed_in seen (f x) e)) r.listed;
      same = r.same;
      fresh = r.fresh;
    }
    by false e l r = record { given = []; next = x; rest = p; is = refl; listed = All-nil (Contains seen); same = refl; fresh = λ c. not_listed seen (f x) e (from_list (f x) seen c) }

-- ---- the successors of an entry

-- what stands before a rest in a list's answers is a front of the list
split : {A : Type 0} (us cs : List A) (rest : Answers A) → answers_of cs ≡ before us rest → (zs : List A) × (cs ≡ us ++ zs)
split [] cs rest e = (cs, refl)
split (u ∷ us) [] rest e = absurd (no e)
  where
    no : no_more ≡ answer u (before us rest) → ⊥
    no q = cc
split (u ∷ us) (c ∷ cs) rest e = let r = split us cs rest (tail_of e) in (r.0, ap₂ (λ z zs. z ∷ zs) (head_of e) r.1)
  where
    tail_of : answer c (answers_of cs) ≡ answer u (before us rest) → answers_of cs ≡ before us rest
    tail_of q = cc

    head_of : answer c (answers_of cs) ≡ answer u (before us rest) → c ≡ u
    head_of q = cc

same_answers : {A : Type 0} (cs us : List A) → answers_of cs ≡ answers_of us → cs ≡ us
same_answers [] [] e = refl
same_answers [] (u ∷ us) e = absurd (no e)
  where
    no : no_more ≡ answer u (answers_of us) → ⊥
    no q = cc
same_answers (c ∷ cs) [] e = absurd (no e)
  where
    no : answer c (answers_of cs) ≡ no_more → ⊥
    no q = cc
same_answers (c ∷ cs) (u ∷ us) e = ap₂ (λ z zs. z ∷ zs) (head_of e) (same_answers cs us (tail_of e))
  where
    tail_of : answer c (answers_of cs) ≡ answer u (answers_of us) → answers_of cs ≡ answers_of us
    tail_of q = cc

    head_of : answer c (answers_of cs) ≡ answer u (answers_of us) → c ≡ u
    head_of q = cc

abbrev itself : Config → Config
itself c = c

map-itself : (cs : List Config) → map itself cs ≡ cs
map-itself [] = refl
map-itself (c ∷ cs) = ap (λ zs. c ∷ zs) (map-itself cs)

-- `E ? F : G`: inside is E inside the test, behind is G
abbrev branch_look : Bool → Bool → List Config → Config → Config → Look
branch_look false b seen inner behind = new inner
branch_look true true seen inner behind = none_new
branch_look true false seen inner behind = first_new seen itself (answers_of (behind ∷ []))

module _ (P : Program) (L : Engine) (defs : List StratDef) where
  abbrev calls_look : List Config → ℕ → Binding → Strategy → Tree → List Todo → List Frame → Look
  calls_look seen zero ρ e t ds xs = unknown
  calls_look seen (suc k) ρ e t ds xs = first_new seen (λ b. on t (b ∷ ds) xs) (bodies_for P L defs k ρ e)

  abbrev listing : List Config → List Config → Look
  listing seen cs = first_new seen itself (answers_of cs)

  -- the first new successor of an entry, by its first strategy
  abbrev form_look : List Config → Strategy → ℕ → Binding → Tree → List Todo → List Frame → Look
  form_look seen (in_turn e f) k ρ t ds xs = let d : Todo = record { form = in_turn e f; calls = k; values = ρ } in listing seen (on t (with_form d e ∷ with_form d f ∷ ds) xs ∷ [])
  form_look seen (either e f) k ρ t ds xs = let d : Todo = record { form = either e f; calls = k; values = ρ } in listing seen (on t (with_form d e ∷ ds) xs ∷ on t (with_form d f ∷ ds) xs ∷ [])
  form_look seen (star e) k ρ t ds xs = let d : Todo = record { form = star e; calls = k; values = ρ } in listing seen (on t ds xs ∷ on t (with_form d e ∷ with_form d (star e) ∷ ds) xs ∷ [])
  form_look seen (plus e) k ρ t ds xs = let d : Todo = record { form = plus e; calls = k; values = ρ } in listing seen (on t (with_form d (in_turn e (star e)) ∷ ds) xs ∷ [])
  form_look seen (to_normal e) k ρ t ds xs = let d : Todo = record { form = to_normal e; calls = k; values = ρ } in listing seen (on t (with_form d (in_turn (star e) (negation e)) ∷ ds) xs ∷ [])
  form_look seen (or_else e f) k ρ t ds xs = let d : Todo = record { form = or_else e f; calls = k; values = ρ } in listing seen (on t (with_form d (branch e idle f) ∷ ds) xs ∷ [])
  form_look seen (negation e) k ρ t ds xs = let d : Todo = record { form = negation e; calls = k; values = ρ } in listing seen (on t (with_form d (branch e fail idle) ∷ ds) xs ∷ [])
  form_look seen (attempt e) k ρ t ds xs = let d : Todo = record { form = attempt e; calls = k; values = ρ } in listing seen (on t (with_form d (branch e idle idle) ∷ ds) xs ∷ [])
  form_look seen (test_of e) k ρ t ds xs = let d : Todo = record { form = test_of e; calls = k; values = ρ } in listing seen (on t (with_form d (branch (negation e) fail idle) ∷ ds) xs ∷ [])
  form_look seen (branch e f g) k ρ t ds xs =
      let d : Todo = record { form = branch e f g; calls = k; values = ρ } in
      let zs : List Frame = inside d f t ds ∷ xs in
      branch_look (is_listed seen (on t (with_form d e ∷ []) zs)) (has_inside seen zs) seen (on t (with_form d e ∷ []) zs) (on t (with_form d g ∷ ds) xs)
  form_look seen (call n ts) k ρ t ds xs = calls_look seen k ρ (call n ts) t ds xs
  form_look seen e k ρ t ds xs = first_new seen (λ u. on u ds xs) (results_of P L ρ e t)

  abbrev look_on : List Config → Tree → List Todo → List Frame → Look
  look_on seen t [] [] = none_new
  look_on seen t [] (test_frame d e b ds ∷ xs) = listing seen (on t (e ∷ ds) xs ∷ [])
  look_on seen t (d ∷ ds) xs = form_look seen d.form d.calls d.values t ds xs

  abbrev pub look : List Config → Config → Look
  look seen c = look_on seen c.term c.todo c.frames

  -- ---- it is the first new successor

  abbrev Sees : List Config → Config → Look → Type 0
  Sees seen e unknown = Unit {0}
  Sees seen e none_new = IsClosedAt (BeginsWith P L defs) (NextOf P L defs) seen e
  Sees seen e (new c) = (given : List Config) × BeginsWith P L defs e (given ++ c ∷ []) × AllListed seen given × (Contains seen c → ⊥)

  -- where the successors are those of a list of answers
  sees_by : {A : Type 0} (seen : List Config) (e : Config) (f : A → Config) (p : Answers A) →
      ((us : List A) (rest : Answers A) → p ≡ before us rest → Next P L defs (LeafFront P L defs) (BodyFront P L defs) e (map f us)) →
      ((us : List A) → p ≡ answers_of us → NextOf P L defs e (map f us)) → Sees seen e (first_new seen f p)
  sees_by {A = A} seen e f p front all = by (first_new seen f p) (finds seen f p)
    where
      by : (l : Look) → Finds seen f p l → Sees seen e l
      by unknown r = tt
      by none_new r = (map f r.0, all r.0 r.1, r.2)
      by (new c) r = (
        map f r.given,
        inr (inr (map f (r.given ++ r.next ∷ []), front (r.given ++ r.next ∷ []) r.rest r.is, ([], (map-append f r.given (r.next ∷ []) ∙ ap (λ z. map f r.given ++ z ∷ []) (sym r.same)) ∙ sym (append-nil (map f r.given ++ c ∷ []))))),
        r.listed,
        r.fresh,
      )

  -- where they are these
  sees_list : (seen : List Config) (e : Config) (cs : List Config) → Next P L defs (LeafFront P L defs) (BodyFront P L defs) e cs → NextOf P L defs e cs → Sees seen e (listing seen cs)
  sees_list seen e cs front all = by (listing seen cs) (finds seen itself (answers_of cs))
    where
      by : (l : Look) → Finds seen itself (answers_of cs) l → Sees seen e l
      by unknown r = tt
      by none_new r = (cs, all, subst (AllListed seen) (map-itself r.0 ∙ sym (same_answers cs r.0 r.1)) r.2)
      by (new c) r =
          let z = split (r.given ++ r.next ∷ []) cs r.rest r.is in (
            map itself r.given,
            inr (inr (cs, front, (z.0, z.1 ∙ ap (λ w. w ++ z.0) (ap (λ w. w ++ r.next ∷ []) (sym (map-itself r.given)) ∙ ap (λ w. map itself r.given ++ w ∷ []) (sym r.same))))),
            r.listed,
            r.fresh,
          )

  module _ (asks : AsksFirst P L) (t0 : Tree) (d0 : Todo) (seen : List Config) (reached : ReachedBy P L defs t0 d0 seen) (j : ℕ) (behind : ClosedBehind (BeginsWith P L defs) (NextOf P L defs) seen j) where
    module _ (e f g : Strategy) (k : ℕ) (ρ : Binding) (t : Tree) (ds : List Todo) (xs : List Frame) where
      abbrev d : Todo
      d = record { form = branch e f g; calls = k; values = ρ }

      abbrev zs : List Frame
      zs = inside d f t ds ∷ xs

      abbrev inner : Config
      inner = on t (with_form d e ∷ []) zs

      abbrev outer : Config
      outer = on t (with_form d g ∷ ds) xs

      sees_branch : At seen j (on t (d ∷ ds) xs) → (a b : Bool) → is_listed seen inner ≡ a → has_inside seen zs ≡ b → Sees seen (on t (d ∷ ds) xs) (branch_look a b seen inner outer)
      sees_branch at false b h i = ([], inr (inl refl), All-nil (Contains seen), λ c. not_listed seen inner h (from_list inner seen c))
      sees_branch at true true h i =
          let v = inside_in seen zs i in (
            inner ∷ [],
            inl (v.0, inside_is_sat P L defs asks t0 d0 seen reached t d e f g ds xs refl v.0 (in_list (on v.0 [] zs) seen v.1), refl),
            All-cons (Contains seen) inner [] (in_list inner seen (listed_in seen inner h)) (All-nil (Contains seen)),
          )
      sees_branch at true false h i = after (listing seen (outer ∷ [])) (finds seen itself (answers_of (outer ∷ [])))
        where
          entered_in : Contains seen inner
          entered_in = in_list inner seen (listed_in seen inner h)

          none_inside : (v : Tree) → Contains seen (on v [] zs) → ⊥
          none_inside v c = not_inside seen zs i v (from_list (on v [] zs) seen c)

          next : NextOf P L defs (on t (d ∷ ds) xs) (inner ∷ outer ∷ [])
          next =
              let x = branches_exhaust P L defs asks t0 d0 seen reached j t d e f g ds xs (record { form = refl; stands = at; entered = entered_in; behind = behind }) in
              inr ((λ v s. none_inside v (x.0 v s)), x.1, refl)

          next_front : Next P L defs (LeafFront P L defs) (BodyFront P L defs) (on t (d ∷ ds) xs) (inner ∷ outer ∷ [])
          next_front =
              let x = branches_exhaust P L defs asks t0 d0 seen reached j t d e f g ds xs (record { form = refl; stands = at; entered = entered_in; behind = behind }) in
              inr ((λ v s. none_inside v (x.0 v s)), x.1, refl)

          one : (given : List Config) (c : Config) (rest : Answers Config) → answers_of (outer ∷ []) ≡ before (given ++ c ∷ []) rest → (given ≡ []) × (c ≡ outer)
          one [] c rest q = (refl, cc)
          one (x ∷ []) c rest q = absurd (no q)
            where
              no : answer outer no_more ≡ answer x (answer c rest) → ⊥
              no p = cc
          one (x ∷ y ∷ given) c rest q = absurd (no q)
            where
              no : answer outer no_more ≡ answer x (answer y (before (given ++ c ∷ []) rest)) → ⊥
              no p = cc

          listed_one : IsAll seen itself (answers_of (outer ∷ [])) → AllListed seen (outer ∷ [])
          listed_one r = subst (AllListed seen) (map-itself r.0 ∙ sym (same_answers (outer ∷ []) r.0 r.1)) r.2

          after : (l : Look) → Finds seen itself (answers_of (outer ∷ [])) l → Sees seen (on t (d ∷ ds) xs) l
          after unknown r = tt
          after none_new r = (inner ∷ outer ∷ [], next, All-cons (Contains seen) inner (outer ∷ []) entered_in (listed_one r))
          after (new c) r =
              let o = one r.given r.next r.rest r.is in (
                inner ∷ [],
                inr (inr (inner ∷ outer ∷ [], next_front, ([], ap (λ z. inner ∷ z ∷ []) (sym (r.same ∙ o.1))))),
                All-cons (Contains seen) inner [] entered_in (All-nil (Contains seen)),
                r.fresh,
              )

    sees_leaf : (e : Strategy) (k : ℕ) (ρ : Binding) (t : Tree) (ds : List Todo) (xs : List Frame) → IsLeaf e →
        ((leaf : Todo → Tree → List Tree → Type 0) (bodies : Todo → Tree → List Todo → Type 0) (cs : List Config) → LeafNext P L defs leaf bodies t (record { form = e; calls = k; values = ρ }) ds xs cs → NextBy P L defs leaf bodies e t (record { form = e; calls = k; values = ρ }) ds xs cs) →
        Sees seen (on t (record { form = e; calls = k; values = ρ } ∷ ds) xs) (first_new seen (λ u. on u ds xs) (results_of P L ρ e t))
    sees_leaf e k ρ t ds xs l h =
        let d : Todo = record { form = e; calls = k; values = ρ } in
        sees_by seen (on t (d ∷ ds) xs) (λ u. on u ds xs) (results_of P L ρ e t)
        (λ us rest q. h (LeafFront P L defs) (BodyFront P L defs) (map (λ u. on u ds xs) us) (us, (l, (rest, q)), refl))
        (λ us q. h (LeafList P L) (BodyList P L defs) (map (λ u. on u ds xs) us) (us, (l, q), refl))

    sees_call : (n : List ℕ) (ts : List Tree) (k : ℕ) (ρ : Binding) (t : Tree) (ds : List Todo) (xs : List Frame) → Sees seen (on t (record { form = call n ts; calls = k; values = ρ } ∷ ds) xs) (calls_look seen k ρ (call n ts) t ds xs)
    sees_call n ts zero ρ t ds xs = tt
    sees_call n ts (suc k) ρ t ds xs =
        let d : Todo = record { form = call n ts; calls = suc k; values = ρ } in
        sees_by seen (on t (d ∷ ds) xs) (λ b. on t (b ∷ ds) xs) (bodies_for P L defs k ρ (call n ts)) (λ bs rest q. (bs, (rest, q), refl)) (λ bs q. (bs, q, refl))

    sees_form : (e : Strategy) (k : ℕ) (ρ : Binding) (t : Tree) (ds : List Todo) (xs : List Frame) → At seen j (on t (record { form = e; calls = k; values = ρ } ∷ ds) xs) →
        Sees seen (on t (record { form = e; calls = k; values = ρ } ∷ ds) xs) (form_look seen e k ρ t ds xs)
    sees_form idle k ρ t ds xs at = sees_leaf idle k ρ t ds xs tt (λ leaf bodies cs n. n)
    sees_form fail k ρ t ds xs at = sees_leaf fail k ρ t ds xs tt (λ leaf bodies cs n. n)
    sees_form every_rule k ρ t ds xs at = sees_leaf every_rule k ρ t ds xs tt (λ leaf bodies cs n. n)
    sees_form (label n gs) k ρ t ds xs at = sees_leaf (label n gs) k ρ t ds xs tt (λ leaf bodies cs n. n)
    sees_form (top_only e) k ρ t ds xs at = sees_leaf (top_only e) k ρ t ds xs tt (λ leaf bodies cs n. n)
    sees_form (test m p c) k ρ t ds xs at = sees_leaf (test m p c) k ρ t ds xs tt (λ leaf bodies cs n. n)
    sees_form (part_rewrite m p c us) k ρ t ds xs at = sees_leaf (part_rewrite m p c us) k ρ t ds xs tt (λ leaf bodies cs n. n)
    sees_form (label_by n gs es) k ρ t ds xs at = sees_leaf (label_by n gs es) k ρ t ds xs tt (λ leaf bodies cs n. n)
    sees_form (call n ts) k ρ t ds xs at = sees_call n ts k ρ t ds xs
    sees_form (branch e f g) k ρ t ds xs at = sees_branch e f g k ρ t ds xs at (is_listed seen (inner e f g k ρ t ds xs)) (has_inside seen (zs e f g k ρ t ds xs)) refl refl
    sees_form (in_turn e f) k ρ t ds xs at = let d : Todo = record { form = in_turn e f; calls = k; values = ρ } in sees_list seen (on t (d ∷ ds) xs) (on t (with_form d e ∷ with_form d f ∷ ds) xs ∷ []) refl refl
    sees_form (either e f) k ρ t ds xs at = let d : Todo = record { form = either e f; calls = k; values = ρ } in sees_list seen (on t (d ∷ ds) xs) (on t (with_form d e ∷ ds) xs ∷ on t (with_form d f ∷ ds) xs ∷ []) refl refl
    sees_form (star e) k ρ t ds xs at = let d : Todo = record { form = star e; calls = k; values = ρ } in sees_list seen (on t (d ∷ ds) xs) (on t ds xs ∷ on t (with_form d e ∷ with_form d (star e) ∷ ds) xs ∷ []) refl refl
    sees_form (plus e) k ρ t ds xs at = let d : Todo = record { form = plus e; calls = k; values = ρ } in sees_list seen (on t (d ∷ ds) xs) (on t (with_form d (in_turn e (star e)) ∷ ds) xs ∷ []) refl refl
    sees_form (to_normal e) k ρ t ds xs at = let d : Todo = record { form = to_normal e; calls = k; values = ρ } in sees_list seen (on t (d ∷ ds) xs) (on t (with_form d (in_turn (star e) (negation e)) ∷ ds) xs ∷ []) refl refl
    sees_form (or_else e f) k ρ t ds xs at = let d : Todo = record { form = or_else e f; calls = k; values = ρ } in sees_list seen (on t (d ∷ ds) xs) (on t (with_form d (branch e idle f) ∷ ds) xs ∷ []) refl refl
    sees_form (negation e) k ρ t ds xs at = let d : Todo = record { form = negation e; calls = k; values = ρ } in sees_list seen (on t (d ∷ ds) xs) (on t (with_form d (branch e fail idle) ∷ ds) xs ∷ []) refl refl
    sees_form (attempt e) k ρ t ds xs at = let d : Todo = record { form = attempt e; calls = k; values = ρ } in sees_list seen (on t (d ∷ ds) xs) (on t (with_form d (branch e idle idle) ∷ ds) xs ∷ []) refl refl
    sees_form (test_of e) k ρ t ds xs at = let d : Todo = record { form = test_of e; calls = k; values = ρ } in sees_list seen (on t (d ∷ ds) xs) (on t (with_form d (branch (negation e) fail idle) ∷ ds) xs ∷ []) refl refl

    sees_on : (t : Tree) (ds : List Todo) (xs : List Frame) → At seen j (on t ds xs) → Sees seen (on t ds xs) (look_on seen t ds xs)
    sees_on t [] [] at = ([], refl, All-nil (Contains seen))
    sees_on t [] (test_frame d e b ds ∷ xs) at = sees_list seen (on t [] (test_frame d e b ds ∷ xs)) (on t (e ∷ ds) xs ∷ []) refl refl
    sees_on t (d ∷ ds) xs at = sees_form d.form d.calls d.values t ds xs at

    sees : (e : Config) → At seen j e → Sees seen e (look seen e)
    sees e at = sees_on e.term e.todo e.frames at

  -- ---- the run

  abbrev search_on : Look → Look → Look
  search_on unknown l = unknown
  search_on none_new l = l
  search_on (new c) l = new c

  -- the first new successor of the latest of the first n entries that has one
  abbrev search : Config → List Config → ℕ → Look
  search start seen zero = none_new
  search start seen (suc n) = search_on (look seen (slice_index_or seen n start)) (search start seen n)

  abbrev IsFound : List Config → Look → Type 0
  IsFound seen unknown = Unit {0}
  IsFound seen none_new = IsClosed (BeginsWith P L defs) (NextOf P L defs) seen
  IsFound seen (new c) = IsNextEntry (BeginsWith P L defs) (NextOf P L defs) seen c

  abbrev ClosedFrom : List Config → ℕ → Type 0
  ClosedFrom seen n = (i : ℕ) (d : Config) → n ≤ i → At seen i d → IsClosedAt (BeginsWith P L defs) (NextOf P L defs) seen d

  abbrev walk_on : (List Config → List Config × Bool) → List Config → Look → List Config × Bool
  walk_on more seen unknown = (seen, false)
  walk_on more seen none_new = (seen, true)
  walk_on more seen (new c) = more (seen ++ c ∷ [])

  -- at most n further entries; and whether it is known that there are no more
  abbrev walk : Config → ℕ → List Config → List Config × Bool
  walk start zero seen = (seen, false)
  walk start (suc n) seen = walk_on (walk start n) seen (search start seen (length seen))

  -- the run of d from t, with at most n entries behind its start
  abbrev pub run_of : ℕ → Tree → Todo → List Config × Bool
  run_of n t d = walk (on t (d ∷ []) []) n (on t (d ∷ []) [] ∷ [])

  module _ (asks : AsksFirst P L) (t0 : Tree) (d0 : Todo) where
    abbrev start : Config
    start = on t0 (d0 ∷ []) []

    found : (seen : List Config) → ReachedBy P L defs t0 d0 seen → (n : ℕ) → n ≤ length seen → ClosedFrom seen n → IsFound seen (search start seen n)
    found seen r zero m closed = λ i d a. closed i d (least i) a
      where
        least : (i : ℕ) → 0 ≤ i
        least i = omega arith
    found seen r (suc n) m closed =
        on_entry (look seen e) (sees asks t0 d0 seen r n (λ i d l a. closed i d l a) e at) (λ k. found seen r n (omega arith) k)
      where
        e : Config
        e = slice_index_or seen n start

        at : At seen n e
        at = (m, get_or_default seen n e start m)

        or_here : ClosedFrom seen (suc n) → IsClosedAt (BeginsWith P L defs) (NextOf P L defs) seen e → ClosedFrom seen n
        or_here c h i d l a = by (eq-or-lt_of_le l)
          where
            by : (n ≡ i) ⊎ (n < i) → IsClosedAt (BeginsWith P L defs) (NextOf P L defs) seen d
            by (inr k) = c i d k a
            by (inl q) = subst (IsClosedAt (BeginsWith P L defs) (NextOf P L defs) seen) (get_or_default seen n start d m ∙ (ap (λ k. slice_index_or seen k d) q ∙ a.1)) h

        on_entry : (l : Look) → Sees seen e l → (ClosedFrom seen n → IsFound seen (search start seen n)) → IsFound seen (search_on l (search start seen n))
        on_entry unknown s k = tt
        on_entry none_new s k = k (or_here closed s)
        on_entry (new c) s k = record { from = n; entry = e; stands = at; given = s.0; begins = s.1; listed = s.2; fresh = s.3; behind = λ i d l a. closed i d l a }

    abbrev IsWalked : List Config × Bool → Type 0
    IsWalked w = ReachedBy P L defs t0 d0 w.0 × (w.1 ≡ true → IsClosed (BeginsWith P L defs) (NextOf P L defs) w.0)

    walked : (n : ℕ) (seen : List Config) → ReachedBy P L defs t0 d0 seen → IsWalked (walk start n seen)
    walked zero seen r = (r, λ e. cc)
    walked (suc n) seen r = by (search start seen (length seen)) (found seen r (length seen) (omega arith) none_behind) (λ c q. walked n (seen ++ c ∷ []) (entered seen c r q))
      where
        none_behind : ClosedFrom seen (length seen)
        none_behind i d l a = absurd (no a.0)
          where
            no : i < length seen → ⊥
            no h = omega arith

        by : (l : Look) → IsFound seen l → ((c : Config) → IsNextEntry (BeginsWith P L defs) (NextOf P L defs) seen c → IsWalked (walk start n (seen ++ c ∷ []))) → IsWalked (walk_on (walk start n) seen l)
        by unknown f k = (r, λ e. cc)
        by none_new f k = (r, λ e. f)
        by (new c) f k = k c f

    -- it is the list that the run reaches, and where it ends there the run has ended
    pub run_reaches : (n : ℕ) → IsWalked (run_of n t0 d0)
    run_reaches n = walked n (start ∷ []) begun

-- the terms of the entries with nothing left and no frame
abbrev solution_at : Tree → List Todo → List Frame → List Tree
solution_at t [] [] = t ∷ []
solution_at t ds xs = []

abbrev pub solutions_in : List Config → List Tree
solutions_in [] = []
solutions_in (c ∷ cs) = solution_at c.term c.todo c.frames ++ solutions_in cs

solution_listed : (u : Tree) (cs : List Config) → IsIn (on u [] []) cs → IsIn u (solutions_in cs)
solution_listed u [] i = absurd i
solution_listed u (c ∷ cs) (inl e) = subst (λ z. IsIn u (solution_at z.term z.todo z.frames ++ solutions_in cs)) e (inl refl)
solution_listed u (c ∷ cs) (inr i) = behind (solution_at c.term c.todo c.frames) (solution_listed u cs i)
  where
    behind : (xs : List Tree) → IsIn u (solutions_in cs) → IsIn u (xs ++ solutions_in cs)
    behind [] h = h
    behind (x ∷ xs) h = inr (behind xs h)

listed_solution : (u : Tree) (cs : List Config) → IsIn u (solutions_in cs) → IsIn (on u [] []) cs
listed_solution u [] i = absurd i
listed_solution u (c ∷ cs) i = by c.term c.todo c.frames i (λ j. listed_solution u cs j)
  where
    by : (t : Tree) (ds : List Todo) (xs : List Frame) → IsIn u (solution_at t ds xs ++ solutions_in cs) → (IsIn u (solutions_in cs) → IsIn (on u [] []) cs) → IsIn (on u [] []) (on t ds xs ∷ cs)
    by t [] [] (inl e) k = inl (ap (λ z. on z [] []) e)
    by t [] [] (inr i) k = inr (k i)
    by t [] (x ∷ xs) i k = inr (k i)
    by t (d ∷ ds) xs i k = inr (k i)

-- the solutions of a run that has ended there are just the terms that satisfy its strategy
pub run_is_exact : (P : Program) (L : Engine) (defs : List StratDef) → AsksFirst P L → (n : ℕ) (t : Tree) (d : Todo) → (run_of P L defs n t d).1 ≡ true → (u : Tree) →
    (Sat P L defs d.calls d.values d.form t u → IsIn u (solutions_in (run_of P L defs n t d).0)) × (IsIn u (solutions_in (run_of P L defs n t d).0) → Sat P L defs d.calls d.values d.form t u)
run_is_exact P L defs asks n t d e u =
    let w = run_of P L defs n t d in
    let r = run_reaches P L defs asks t d n in (
      (λ s. solution_listed u w.0 (from_list (on u [] []) w.0 ((ended_lists_exhaust P L defs asks t d w.0 r.0 (r.1 e)).0 u s))),
      (λ i. solutions_are_sat P L defs asks t d w.0 r.0 u (in_list (on u [] []) w.0 (listed_solution u w.0 i))),
    )
