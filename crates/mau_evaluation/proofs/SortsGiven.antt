-- What was given on the way, where the computation of sorts gave some.
use Rattle.std.proofs.Common.{◌≡◌, ℕ, suc, ◌==◌, ◌||◌, List, [], ◌∷◌, ◌++◌, Bool, true, false, if◌then◌else◌, is_some, Option, None, inl, inr, refl, sym, ◌∙◌, ap, subst, eq-eqb, eqb-true}
use Rattle.mau_terms.specs.Tree.{Tree, apply, Trees, list_of}
use Rattle.mau_terms.specs.Subst.{variables}
use Rattle.mau_terms.specs.Finite.{IsIn}
use Rattle.mau_evaluation.specs.Run.{Outcome, done, ended, Run, gives, and_then, and_try, put_back, apart, each_in_turn, choose, where_true}
use Rattle.mau_evaluation.specs.Program.{Fragment, Membership, Program}
use Rattle.mau_evaluation.specs.Listing.{Solution, solutions}
use Rattle.mau_evaluation.specs.Evaluation.{Binding, binding_of, has_number, have_sorts, any, joined, holds_for, by_membership, sorts_in}
use Rattle.mau_evaluation.proofs.Invert.{not_done, same_value, went, tried}

-- from some budget m gave y
pub record Gave {A : Type 0} (m : Run A) (y : A) : Type 0 where
  pub before : ℕ
  pub count : ℕ
  pub after : ℕ
  pub gave : m before ≡ done y count after

-- on each of these f gave what stands in its place
abbrev pub EachGave : {A B : Type 0} → (A → Run B) → List A → List B → Type 0
EachGave f [] [] = Unit {0}
EachGave f [] (y ∷ ys) = ⊥
EachGave f (x ∷ xs) [] = ⊥
EachGave f (x ∷ xs) (y ∷ ys) = Gave (f x) y × EachGave f xs ys

-- m gave x, and then k of it gave y
pub record Both {A B : Type 0} (m : Run A) (k : A → Run B) (y : B) : Type 0 where
  pub middle : A
  pub first : Gave m middle
  pub second : Gave (k middle) y

pub then_gave : {A B : Type 0} (m : Run A) (k : A → Run B) (y : B) → Gave (and_then m k) y → Both m k y
then_gave m k y g =
    let w = went m k g.before y g.count g.after g.gave in
    record { middle = w.middle; first = record { before = g.before; count = w.count; after = w.between; gave = w.first }; second = record { before = w.between; count = w.behind; after = g.after; gave = w.second } }

pub try_gave : {A B : Type 0} (m : Run A) (k : A → Run (Option B)) (y : Option B) → Gave (and_try m k) y → Both m k y
try_gave m k y g =
    let w = tried m k g.before y g.count g.after g.gave in
    record { middle = w.middle; first = record { before = g.before; count = w.count; after = w.between; gave = w.first }; second = record { before = w.between; count = w.behind; after = g.after; gave = w.second } }

pub gave_itself : {A : Type 0} (x y : A) → Gave (gives x) y → x ≡ y
gave_itself x y g = same_value g.gave

pub apart_gave : {A : Type 0} (n : ℕ) (m : Run A) (y : A) → Gave (apart n m) y → Gave m y
apart_gave {A = A} n m y g = by (m n) refl g.gave
  where
    by : (o : Outcome A) → m n ≡ o → put_back g.before o ≡ done y g.count g.after → Gave m y
    by (done x r c) e h = record { before = n; count = r; after = c; gave = subst (λ z. m n ≡ done z r c) (same_value h) e }
    by (ended d) e h = absurd (not_done d y g.count g.after h)

pub each_gave : {A B : Type 0} (f : A → Run B) (xs : List A) (ys : List B) → Gave (each_in_turn f xs) ys → EachGave f xs ys
each_gave f [] ys g = subst (EachGave f []) (gave_itself [] ys g) tt
each_gave f (x ∷ xs) ys g =
    let p = then_gave (f x) (λ y. and_then (each_in_turn f xs) (λ zs. gives (y ∷ zs))) ys g in
    let q = then_gave (each_in_turn f xs) (λ zs. gives (p.middle ∷ zs)) ys p.second in
    subst (EachGave f (x ∷ xs)) (gave_itself (p.middle ∷ q.middle) ys q.second) (p.first, each_gave f xs q.middle q.first)

-- ---- numbers in lists

pub number_in : (ss : List ℕ) (n : ℕ) → has_number ss n ≡ true → IsIn n ss
number_in [] n e = cc
number_in (m ∷ ms) n e = by (number_in ms n) (m == n) refl e
  where
    by : (has_number ms n ≡ true → IsIn n ms) → (b : Bool) → (m == n) ≡ b → (b || has_number ms n) ≡ true → IsIn n (m ∷ ms)
    by rest true h e = inl (sym (eqb-true m n h))
    by rest false h e = inr (rest e)

pub in_number : (ss : List ℕ) (n : ℕ) → IsIn n ss → has_number ss n ≡ true
in_number [] n i = absurd i
in_number (m ∷ ms) n i = by (in_number ms n) (m == n) refl i
  where
    by : (IsIn n ms → has_number ms n ≡ true) → (b : Bool) → (m == n) ≡ b → IsIn n (m ∷ ms) → (b || has_number ms n) ≡ true
    by rest true h i = refl
    by rest false h (inl e) = let k : (m == n) ≡ true = eq-eqb m n (sym e) in cc
    by rest false h (inr i) = rest i

-- ---- the condition of a membership, for one solution of its head

-- the values have their sorts, and what was asked of the condition was o
pub record Asked (B : ℕ) (ask : List Fragment → Binding → Run (Option Binding)) (f : Tree → Run (List ℕ)) (m : Membership) (x : Solution) (answer : Bool) : Type 0 where
  pub having : Bool
  pub sorted : Gave (have_sorts f (variables m.left) x.values) having
  pub asked : having ≡ true → (o : Option Binding) × Gave (ask m.cond (binding_of m.left x)) o × (is_some o ≡ answer)
  pub refused : having ≡ false → answer ≡ false

pub asked_for : (P : Program) (B : ℕ) (ask : List Fragment → Binding → Run (Option Binding)) (f : Tree → Run (List ℕ)) (m : Membership) (x : Solution) (answer : Bool) → Gave (holds_for P B ask f m x) answer → Asked B ask f m x answer
asked_for P B ask f m x answer g =
    let k : Bool → Run (Option Binding) = λ ok. where_true ok (apart B (ask m.cond (binding_of m.left x))) in
    let p = then_gave (and_try (have_sorts f (variables m.left) x.values) k) (λ o. gives (is_some o)) answer g in
    let q = try_gave (have_sorts f (variables m.left) x.values) k p.middle p.first in
    by p.middle (gave_itself (is_some p.middle) answer p.second) q.middle q.first q.second
  where
    by : (o : Option Binding) → is_some o ≡ answer → (ok : Bool) → Gave (have_sorts f (variables m.left) x.values) ok → Gave (where_true ok (apart B (ask m.cond (binding_of m.left x)))) o → Asked B ask f m x answer
    by o e true s h = record { having = true; sorted = s; asked = λ t. (o, apart_gave B (ask m.cond (binding_of m.left x)) o h, e); refused = λ t. cc }
    by o e false s h = record { having = false; sorted = s; asked = λ t. cc; refused = λ t. sym e ∙ sym (ap is_some (gave_itself None o h)) }

-- ---- an operator over arguments

-- what was given on the arguments and by the memberships
pub record OverArguments (P : Program) (B : ℕ) (ask : List Fragment → Binding → Run (Option Binding)) (n f : ℕ) (ts : Trees) (ss : List ℕ) : Type 0 where
  pub sorts : List (List ℕ)
  pub more : List (List ℕ)
  pub arguments : EachGave (sorts_in P B ask n) (list_of ts) sorts
  pub members : EachGave (by_membership P B ask (sorts_in P B ask n) (apply f ts)) P.memberships more
  pub whole : P.declared f sorts ++ joined more ≡ ss

pub over_arguments : (P : Program) (B : ℕ) (ask : List Fragment → Binding → Run (Option Binding)) (n f : ℕ) (ts : Trees) (ss : List ℕ) → Gave (sorts_in P B ask (suc n) (apply f ts)) ss → OverArguments P B ask n f ts ss
over_arguments P B ask n f ts ss g =
    let on : Membership → Run (List ℕ) = by_membership P B ask (sorts_in P B ask n) (apply f ts) in
    let p = then_gave (each_in_turn (sorts_in P B ask n) (list_of ts)) (λ sorts. and_then (each_in_turn on P.memberships) λ more. gives (P.declared f sorts ++ joined more)) ss g in
    let q = then_gave (each_in_turn on P.memberships) (λ more. gives (P.declared f p.middle ++ joined more)) ss p.second in
    record {
      sorts = p.middle;
      more = q.middle;
      arguments = each_gave (sorts_in P B ask n) (list_of ts) p.middle p.first;
      members = each_gave on P.memberships q.middle q.first;
      whole = gave_itself (P.declared f p.middle ++ joined q.middle) ss q.second;
    }

-- what was given on the solutions of an executable membership's head
pub record OnSolutions (P : Program) (B : ℕ) (ask : List Fragment → Binding → Run (Option Binding)) (f : Tree → Run (List ℕ)) (t : Tree) (m : Membership) (ss : List ℕ) : Type 0 where
  pub answers : List Bool
  pub each : EachGave (holds_for P B ask f m) (solutions P.sign m.left t) answers
  pub whole : (if any answers then P.above m.sort else []) ≡ ss

pub on_solutions : (P : Program) (B : ℕ) (ask : List Fragment → Binding → Run (Option Binding)) (f : Tree → Run (List ℕ)) (t : Tree) (m : Membership) (ss : List ℕ) → m.exec ≡ true → Gave (by_membership P B ask f t m) ss → OnSolutions P B ask f t m ss
on_solutions P B ask f t m ss e g =
    let every : Run (List Bool) = each_in_turn (holds_for P B ask f m) (solutions P.sign m.left t) in
    let given : List Bool → Run (List ℕ) = λ bs. gives (if any bs then P.above m.sort else []) in
    let p = then_gave every given ss (subst (λ b. Gave (choose b (and_then every given) (gives [])) ss) e g) in
    record { answers = p.middle; each = each_gave (holds_for P B ask f m) (solutions P.sign m.left t) p.middle p.first; whole = gave_itself (if any p.middle then P.above m.sort else []) ss p.second }
