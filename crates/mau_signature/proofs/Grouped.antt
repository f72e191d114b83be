-- Declarations that go one after another into the groups of their operators.
use Rattle.std.proofs.Common.{◌≡◌, ℕ, ◌+◌, ◌<◌, nat_lt, zero, suc, List, [], ◌∷◌, ◌++◌, Bool, true, false, ◌||◌, cond, not, if◌then◌else◌, length, map, set, get_or, Option, Some, None, append_assoc, length-append, replicate, All, refl, sym, ◌∙◌, ap, ap₂, subst, append-nil, arith}
use Rattle.std.specs.Prelude.{filter, fold, position}
use Rattle.std.proofs.lemmas.List.{length-map}
use Rattle.std.specs.List.{list_any, position_or_len}
use Rattle.std.proofs.lemmas.List.Elements.{filter-append, All-head, All-tail, All-nil, All-same, All-replicate, All-push, All-set}
use Rattle.std.proofs.lemmas.Bool.{or_parts}
use Rattle.mau_poset.specs.Order.{Hierarchy, kind_of}
use Rattle.mau_signature.specs.declared.decl.Decl.{Decl}
use Rattle.mau_signature.specs.Names.{Operator, operator_of, same_operator, with_operator, operators_of, declarations_of, place_of}
use Rattle.mau_signature.specs.Distinct.{AreDistinct}
use Rattle.mau_signature.specs.Faults.{Given, HasSorts, IsFaultless, no_declaration, one_more, has_other_kind, has_wrong_arity}
use Rattle.mau_signature.specs.declared.fault.SigFault.{SigFault}
use Rattle.mau_signature.specs.declared.fault.SigFault.TheVariants.{KindMismatch, Arity}
use Rattle.mau_signature.specs.Judged.{fault_among, fault_of}
use Rattle.mau_signature.proofs.Causes.{not_at_fault}
use Rattle.mau_signature.proofs.KindLemmas.{HaveOneKind-end}
use Rattle.mau_signature.specs.Kinds.{HaveOneKind}
use Rattle.mau_signature.proofs.Same.{same_operator-is, same_operator_itself, same_operator_back}

-- where the groups stand after the declarations that are done
pub record IsGrouped (g : Given) (fs : List Operator) (done : List Decl) (held : List (List Decl)) (count : ℕ) (rest : List Decl) : Type 0 where
  pub whole : g.declarations ≡ done ++ rest
  pub groups : held ≡ map (declarations_of g.hierarchy done) fs
  pub faultless : IsFaultless g done
  pub one_kind : All (HaveOneKind g.hierarchy) held
  pub sorts : All (All (HasSorts g.hierarchy)) held
  pub number : count ≡ length done

-- ---- one declaration more

pub passes : {X : Type 0} (p : X → Bool) (xs : List X) (x : X) → p x ≡ true → filter p (xs ++ x ∷ []) ≡ filter p xs ++ x ∷ []
passes p xs x h = filter-append p xs (x ∷ []) ∙ ap (λ b. filter p xs ++ (if b then x ∷ [] else [])) h

pub fails : {X : Type 0} (p : X → Bool) (xs : List X) (x : X) → p x ≡ false → filter p (xs ++ x ∷ []) ≡ filter p xs
fails p xs x h = filter-append p xs (x ∷ []) ∙ ap (λ b. filter p xs ++ (if b then x ∷ [] else [])) h ∙ append-nil (filter p xs)

others_stay : (h : Hierarchy) (done : List Decl) (d : Decl) (fs : List Operator) → list_any (same_operator (operator_of h d)) fs ≡ false → map (declarations_of h (done ++ d ∷ [])) fs ≡ map (declarations_of h done) fs
others_stay h done d [] e = refl
others_stay h done d (f ∷ fs) e =
    let p = or_parts (same_operator (operator_of h d) f) (list_any (same_operator (operator_of h d)) fs) e in
    ap₂ (λ x xs. x ∷ xs)
    (fails (λ x. same_operator f (operator_of h x)) done d (same_operator_back (operator_of h d) f p.0))
    (others_stay h done d fs p.1)

pub goes_to_its_group : (h : Hierarchy) (done : List Decl) (d : Decl) (fs : List Operator) → AreDistinct fs → list_any (same_operator (operator_of h d)) fs ≡ true → (own : List Decl) → own ≡ declarations_of h done (operator_of h d) →
    map (declarations_of h (done ++ d ∷ [])) fs ≡ set (map (declarations_of h done) fs) (position_or_len (same_operator (operator_of h d)) fs) (own ++ d ∷ [])
goes_to_its_group h done d [] a e own o = cc
goes_to_its_group h done d (f ∷ fs) a e own o = by (same_operator (operator_of h d) f) refl (λ later. goes_to_its_group h done d fs a.1 later own o)
  where
    by : (b : Bool) → same_operator (operator_of h d) f ≡ b →
        (list_any (same_operator (operator_of h d)) fs ≡ true → map (declarations_of h (done ++ d ∷ [])) fs ≡ set (map (declarations_of h done) fs) (position_or_len (same_operator (operator_of h d)) fs) (own ++ d ∷ [])) →
        map (declarations_of h (done ++ d ∷ [])) (f ∷ fs) ≡ set (map (declarations_of h done) (f ∷ fs)) (cond (not b) (1 + position_or_len (same_operator (operator_of h d)) fs) 0) (own ++ d ∷ [])
    by true k ih =
        let f_is : operator_of h d ≡ f = same_operator-is (operator_of h d) f k in
        let self : same_operator f (operator_of h d) ≡ true = subst (λ x. same_operator x (operator_of h d) ≡ true) f_is (same_operator_itself (operator_of h d)) in
        let own_f : own ≡ declarations_of h done f = o ∙ ap (declarations_of h done) f_is in
        ap₂ (λ x xs. x ∷ xs)
        (passes (λ x. same_operator f (operator_of h x)) done d self ∙ ap (λ xs. xs ++ d ∷ []) (sym own_f))
        (others_stay h done d fs (subst (λ x. list_any (same_operator x) fs ≡ false) (sym f_is) a.0))
    by false k ih =
        let later : list_any (same_operator (operator_of h d)) fs ≡ true = sym (ap (λ b. b || list_any (same_operator (operator_of h d)) fs) k) ∙ e in
        let next : 1 + position_or_len (same_operator (operator_of h d)) fs ≡ suc (position_or_len (same_operator (operator_of h d)) fs) = omega arith in
        ap₂ (λ x xs. x ∷ xs)
        (fails (λ x. same_operator f (operator_of h x)) done d (same_operator_back (operator_of h d) f k))
        (ih later)
        ∙ ap (λ i. set (map (declarations_of h done) (f ∷ fs)) i (own ++ d ∷ [])) (sym next)

-- ---- each declaration has its operator among all

any-end : {X : Type 0} (p : X → Bool) (xs ys : List X) → list_any p xs ≡ true → list_any p (xs ++ ys) ≡ true
any-end p [] ys e = cc
any-end p (x ∷ xs) ys e = by (p x) refl (any-end p xs ys)
  where
    by : (b : Bool) → p x ≡ b → (list_any p xs ≡ true → list_any p (xs ++ ys) ≡ true) → (b || list_any p (xs ++ ys)) ≡ true
    by true k ih = refl
    by false k ih = ih (sym (ap (λ b. b || list_any p xs) k) ∙ e)

any-last : {X : Type 0} (p : X → Bool) (xs : List X) (x : X) → p x ≡ true → list_any p (xs ++ x ∷ []) ≡ true
any-last p [] x e = ap (λ b. b || false) e
any-last p (y ∷ xs) x e = by (p y) (any-last p xs x e)
  where
    by : (b : Bool) → list_any p (xs ++ x ∷ []) ≡ true → (b || list_any p (xs ++ x ∷ [])) ≡ true
    by true ih = refl
    by false ih = ih

stays : (f g : Operator) (fs : List Operator) → list_any (same_operator f) fs ≡ true → list_any (same_operator f) (with_operator fs g) ≡ true
stays f g fs e = by (list_any (same_operator g) fs)
  where
    by : (b : Bool) → list_any (same_operator f) (if b then fs else fs ++ g ∷ []) ≡ true
    by true = e
    by false = any-end (same_operator f) fs (g ∷ []) e

comes : (f : Operator) (fs : List Operator) → list_any (same_operator f) (with_operator fs f) ≡ true
comes f fs = by (list_any (same_operator f) fs) refl
  where
    by : (b : Bool) → list_any (same_operator f) fs ≡ b → list_any (same_operator f) (if b then fs else fs ++ f ∷ []) ≡ true
    by true e = e
    by false e = any-last (same_operator f) fs f (same_operator_itself f)

all_stay : (h : Hierarchy) (f : Operator) (ds : List Decl) (fs : List Operator) → list_any (same_operator f) fs ≡ true → list_any (same_operator f) (fold (λ gs d. with_operator gs (operator_of h d)) fs ds) ≡ true
all_stay h f [] fs e = e
all_stay h f (d ∷ ds) fs e = all_stay h f ds (with_operator fs (operator_of h d)) (stays f (operator_of h d) fs e)

among_from : (h : Hierarchy) (before : List Decl) (d : Decl) (after : List Decl) (fs : List Operator) → list_any (same_operator (operator_of h d)) (fold (λ gs x. with_operator gs (operator_of h x)) fs (before ++ d ∷ after)) ≡ true
among_from h [] d after fs = all_stay h (operator_of h d) after (with_operator fs (operator_of h d)) (comes (operator_of h d) fs)
among_from h (x ∷ before) d after fs = among_from h before d after (with_operator fs (operator_of h x))

pub is_among : (h : Hierarchy) (before : List Decl) (d : Decl) (after ds : List Decl) → ds ≡ before ++ d ∷ after → list_any (same_operator (operator_of h d)) (operators_of h ds) ≡ true
is_among h before d after ds e = subst (λ xs. list_any (same_operator (operator_of h d)) (operators_of h xs) ≡ true) (sym e) (among_from h before d after [])

pub found-key : (h : Hierarchy) (before : List Decl) (d : Decl) (after ds : List Decl) (fs : List Operator) (f : Operator) → ds ≡ before ++ d ∷ after → fs ≡ operators_of h ds → f ≡ operator_of h d → list_any (same_operator f) fs ≡ true
found-key h before d after ds fs f e n k =
    ap₂ (λ x xs. list_any (same_operator x) xs) k n ∙ is_among h before d after ds e

pub position-is : {X : Type 0} (p : X → Bool) (xs : List X) (i : ℕ) → Some i ≡ position p xs → i ≡ position_or_len p xs
position-is p xs i e = by (nat_lt (position_or_len p xs) (length xs)) e
  where
    by : (b : Bool) → Some i ≡ cond b (Some (position_or_len p xs)) None → i ≡ position_or_len p xs
    by true k = cc
    by false k = cc

-- ---- what holds of the group of a declaration

-- what a function gives at the place of the operator f is what it gives at f
pub value_at : {Y : Type 0} (D : Operator → Y) (f : Operator) (fs : List Operator) (x : Y) → list_any (same_operator f) fs ≡ true → get_or (map D fs) (position_or_len (same_operator f) fs) x ≡ D f
value_at D f [] x e = cc
value_at {Y} D f (g ∷ fs) x e = by (same_operator f g) refl (value_at D f fs x)
  where
    by : (b : Bool) → same_operator f g ≡ b → (list_any (same_operator f) fs ≡ true → get_or (map D fs) (position_or_len (same_operator f) fs) x ≡ D f) →
        get_or (map D (g ∷ fs)) (cond (not b) (1 + position_or_len (same_operator f) fs) 0) x ≡ D f
    by true k ih = ap D (sym (same_operator-is f g k))
    by false k ih =
        let later : list_any (same_operator f) fs ≡ true = sym (ap (λ b. b || list_any (same_operator f) fs) k) ∙ e in
        let next : 1 + position_or_len (same_operator f) fs ≡ suc (position_or_len (same_operator f) fs) = omega arith in
        ap (λ i. get_or (map D (g ∷ fs)) i x) next ∙ ih later

pub group_at : (h : Hierarchy) (done : List Decl) (f : Operator) (fs : List Operator) (x : List Decl) → list_any (same_operator f) fs ≡ true → get_or (map (declarations_of h done) fs) (position_or_len (same_operator f) fs) x ≡ declarations_of h done f
group_at h done f fs x e = value_at (declarations_of h done) f fs x e

pub held_within : (g : Given) (fs : List Operator) (done : List Decl) (held : List (List Decl)) (count : ℕ) (rest : List Decl) (i : ℕ) → IsGrouped g fs done held count rest → i < length fs → i < length held
held_within g fs done held count rest i inv lt =
    let e : length held ≡ length fs = ap length inv.groups ∙ length-map fs (declarations_of g.hierarchy done) in
    omega arith

pub at_group : {X : Type 0} (P : X → Type 0) (xs : List X) (i : ℕ) (x : X) → All P xs → i < length xs → x ≡ get_or xs i x → P x
at_group P xs i x a lt e = subst P (sym e) (a i x lt)

pub all_at : {X : Type 0} (P : X → Type 0) (xs : List X) (y : X) (ys : List X) → All P (xs ++ y ∷ ys) → P y
all_at P [] y ys a = All-head P y ys a
all_at P (x ∷ xs) y ys a = all_at P xs y ys (All-tail P x (xs ++ y ∷ ys) a)

-- the group of the declaration d, at its place
pub own_group : (g : Given) (fs : List Operator) (done : List Decl) (held : List (List Decl)) (count : ℕ) (rest : List Decl) (d : Decl) (f : Operator) (i : ℕ) (x : List Decl) →
    IsGrouped g fs done held count rest → list_any (same_operator f) fs ≡ true → f ≡ operator_of g.hierarchy d → Some i ≡ place_of fs f → x ≡ get_or held i x → x ≡ declarations_of g.hierarchy done (operator_of g.hierarchy d)
own_group g fs done held count rest d f i x inv among f_is at e =
    e ∙ ap₂ (λ xs j. get_or xs j x) inv.groups (position-is (same_operator f) fs i at)
    ∙ group_at g.hierarchy done f fs x among ∙ ap (declarations_of g.hierarchy done) f_is

-- what the judge says of it is what is meant
pub judged : (g : Given) (fs : List Operator) (done : List Decl) (held : List (List Decl)) (count : ℕ) (rest : List Decl) (d : Decl) (x : List Decl) (answer : Option SigFault) →
    IsGrouped g fs done held count rest → fs ≡ operators_of g.hierarchy g.declarations → x ≡ declarations_of g.hierarchy done (operator_of g.hierarchy d) →
    fault_among g.hierarchy fs g.numerals x d count ≡ answer → fault_of g done d ≡ answer
judged g fs done held count rest d x answer inv fs_are x_is e =
    ap (λ ys. fault_among g.hierarchy ys g.numerals (declarations_of g.hierarchy done (operator_of g.hierarchy d)) d (length done)) (sym fs_are)
    ∙ ap (λ ys. fault_among g.hierarchy fs g.numerals ys d (length done)) (sym x_is)
    ∙ ap (fault_among g.hierarchy fs g.numerals x d) (sym inv.number) ∙ e

-- a declaration without a fault has no other kind than those before it
pub no_other_kind : (h : Hierarchy) (fs : List Operator) (numerals : Option (ℕ × ℕ)) (earlier : List Decl) (d : Decl) (i : ℕ) → fault_among h fs numerals earlier d i ≡ None → has_other_kind h earlier (kind_of h d.result) ≡ false
no_other_kind h fs numerals earlier d i e = by (has_wrong_arity d) (has_other_kind h earlier (kind_of h d.result)) _ e
  where
    by : (a b : Bool) (last : Option SigFault) → (if a then Some (Arity i) else (if b then Some (KindMismatch i) else last)) ≡ None → b ≡ false
    by true b last k = cc
    by false true last k = cc
    by false false last k = refl

-- one declaration more goes to its group
pub one_grouped : (g : Given) (fs : List Operator) (done : List Decl) (held : List (List Decl)) (count : ℕ) (rest later : List Decl) (d : Decl) (f : Operator) (i : ℕ) (x y : List Decl) →
    IsGrouped g fs done held count rest → AreDistinct fs → fs ≡ operators_of g.hierarchy g.declarations → All (HasSorts g.hierarchy) g.declarations → rest ≡ d ∷ later →
    f ≡ operator_of g.hierarchy d → Some i ≡ place_of fs f → i < length fs → x ≡ get_or held i x → y ≡ x ++ d ∷ [] →
    fault_among g.hierarchy fs g.numerals x d count ≡ None → IsGrouped g fs (done ++ d ∷ []) (set held i y) (count + 1) later
one_grouped g fs done held count rest later d f i x y inv distinct fs_are sorts rest_is f_is at lt x_at y_is faultless =
    let h = g.hierarchy in
    let whole : g.declarations ≡ done ++ d ∷ later = inv.whole ∙ ap (λ r. done ++ r) rest_is in
    let among : list_any (same_operator f) fs ≡ true = found-key h done d later g.declarations fs f whole fs_are f_is in
    let among_d : list_any (same_operator (operator_of h d)) fs ≡ true = subst (λ z. list_any (same_operator z) fs ≡ true) f_is among in
    let own : x ≡ declarations_of h done (operator_of h d) = own_group g fs done held count rest d f i x inv among f_is at x_at in
    let within : i < length held = held_within g fs done held count rest i inv lt in
    let place : i ≡ position_or_len (same_operator (operator_of h d)) fs = position-is (same_operator f) fs i at ∙ ap (λ z. position_or_len (same_operator z) fs) f_is in
    let sorts_d : HasSorts h d = all_at (HasSorts h) done d later (subst (All (HasSorts h)) whole sorts) in
    record {
      whole = whole ∙ sym (append_assoc done (d ∷ []) later);
      groups = ap (set held i) y_is ∙ ap₂ (λ zs j. set zs j (x ++ d ∷ [])) inv.groups place ∙ sym (goes_to_its_group h done d fs distinct among_d x own);
      faultless = one_more d inv.faultless (not_at_fault g (declarations_of h done (operator_of h d)) d (length done) (judged g fs done held count rest d x None inv fs_are own faultless));
      one_kind = All-set (HaveOneKind h) held i y
          (subst (HaveOneKind h) (sym y_is) (HaveOneKind-end h x d (at_group (HaveOneKind h) held i x inv.one_kind within x_at) (no_other_kind h fs g.numerals x d count faultless))) inv.one_kind;
      sorts = All-set (All (HasSorts h)) held i y
          (subst (All (HasSorts h)) (sym y_is) (All-push (HasSorts h) x d (at_group (All (HasSorts h)) held i x inv.sorts within x_at) sorts_d)) inv.sorts;
      number = let n : length (done ++ d ∷ []) ≡ length done + 1 = length-append done (d ∷ []) in let m : count ≡ length done = inv.number in omega arith;
    }

-- at the beginning
pub none_grouped : (g : Given) (fs : List Operator) (held : List (List Decl)) → held ≡ replicate (length fs) [] → IsGrouped g fs [] held 0 g.declarations
none_grouped g fs held e = record {
  whole = refl;
  groups = e ∙ sym (all_empty fs);
  faultless = no_declaration;
  one_kind = All-same (HaveOneKind g.hierarchy) held (replicate (length fs) []) e (All-replicate (HaveOneKind g.hierarchy) (length fs) [] tt);
  sorts = All-same (All (HasSorts g.hierarchy)) held (replicate (length fs) []) e (All-replicate (All (HasSorts g.hierarchy)) (length fs) [] (All-nil (HasSorts g.hierarchy)));
  number = refl;
}
  where
    all_empty : (gs : List Operator) → map (declarations_of g.hierarchy []) gs ≡ replicate (length gs) []
    all_empty [] = refl
    all_empty (x ∷ gs) = ap (λ zs. [] ∷ zs) (all_empty gs)

pub same_read : {X : Type 0} (xs : List X) (i : ℕ) (x y : X) → i < length xs → x ≡ get_or xs i x → y ≡ get_or xs i y → x ≡ y
same_read [] i x y lt e k = absurd (omega arith)
same_read (z ∷ xs) zero x y lt e k = e ∙ sym k
same_read (z ∷ xs) (suc i) x y lt e k = same_read xs i x y (omega arith) e k
