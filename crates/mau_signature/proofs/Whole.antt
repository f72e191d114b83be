-- What holds of the groups when all declarations are in them.
use Rattle.std.proofs.Common.{◌≡◌, ◌≢◌, ℕ, ◌<◌, ◌≤◌, nat_lt, zero, suc, List, [], ◌∷◌, ◌++◌, Bool, true, false, ◌||◌, if◌then◌else◌, length, map, get_or, Option, Some, None, All, refl, sym, ◌∙◌, ap, ap₂, subst, arith}
use Rattle.std.specs.Prelude.{filter, fold}
use Rattle.std.specs.List.{list_any}
use Rattle.std.proofs.lemmas.List.{length-map}
use Rattle.std.proofs.lemmas.Bool.Decides.{nat_tests}
use Rattle.std.proofs.lemmas.List.Elements.{All-map, All-nil, All-push, All-same, All-filter, All-weaker, All-head, All-tail}
use Rattle.std.proofs.lemmas.Bool.{or_parts}
use Rattle.mau_poset.specs.Order.{Hierarchy, kind_of}
use Rattle.mau_signature.specs.declared.decl.Decl.{Decl}
use Rattle.mau_signature.specs.declared.operator.Entry.{Entry}
use Rattle.mau_signature.specs.Attributes.{with_united}
use Rattle.mau_signature.specs.Names.{Operator, operator_of, same_operator, with_operator, operators_of, declarations_of}
use Rattle.mau_signature.specs.Faults.{Given, HasSorts, IsSort, AreNumerals, IsFaultless, no_declaration, one_more, has_wrong_arity, is_at_fault}
use Rattle.mau_signature.specs.Signature.{SignatureOf, signature_of}
use Rattle.mau_signature.specs.Built.{HasZero, HasOthers, declarations_in}
use Rattle.mau_signature.proofs.Same.{same_operator_itself}

abbrev pub HasFewArguments : Decl → Type 0
HasFewArguments d = length d.args ≤ 16

not_more : (n : ℕ) → nat_lt 16 n ≡ false → n ≤ 16
not_more n e = grind (arith, nat_tests)

no_wrong_arity : (g : Given) (earlier : List Decl) (d : Decl) → is_at_fault g earlier d ≡ false → HasFewArguments d
no_wrong_arity g earlier d e =
    let right : has_wrong_arity d ≡ false = (or_parts (has_wrong_arity d) _ e).0 in
    not_more (length d.args) ((or_parts (nat_lt 16 (length d.args)) _ right).0)

pub few_arguments : (g : Given) (ds : List Decl) → IsFaultless g ds → All HasFewArguments ds
few_arguments g _ no_declaration = All-nil HasFewArguments
few_arguments g _ (one_more {ds} d before e) = All-push HasFewArguments ds d (few_arguments g ds before) (no_wrong_arity g (declarations_of g.hierarchy ds (operator_of g.hierarchy d)) d e)

in_groups : (h : Hierarchy) (ds : List Decl) (fs : List Operator) (groups : List (List Decl)) (P : Decl → Type 0) → groups ≡ map (declarations_of h ds) fs → All P ds → All (All P) groups
in_groups h ds fs groups P e a =
    All-same (All P) groups (map (declarations_of h ds) fs) e
    (All-map (All P) (declarations_of h ds) fs (λ k f lt. All-filter _ P ds a))

pub group_sorts : (h : Hierarchy) (ds : List Decl) (fs : List Operator) (groups : List (List Decl)) → groups ≡ map (declarations_of h ds) fs → All (HasSorts h) ds → All (All (HasSorts h)) groups
group_sorts h ds fs groups e a = in_groups h ds fs groups (HasSorts h) e a

pub group_arity : (g : Given) (ds : List Decl) (fs : List Operator) (groups : List (List Decl)) → groups ≡ map (declarations_of g.hierarchy ds) fs → IsFaultless g ds → All (All (λ d. length d.args ≤ 16)) groups
group_arity g ds fs groups e f = in_groups g.hierarchy ds fs groups HasFewArguments e (few_arguments g ds f)

-- ---- no group is empty

any_at : {X : Type 0} (p : X → Bool) (xs : List X) (k : ℕ) (d : X) → k < length xs → p (get_or xs k d) ≡ true → list_any p xs ≡ true
any_at p [] k d lt e = absurd (omega arith)
any_at p (x ∷ xs) zero d lt e = ap (λ b. b || list_any p xs) e
any_at p (x ∷ xs) (suc k) d lt e = by (p x) (any_at p xs k d (omega arith) e)
  where
    by : (b : Bool) → list_any p xs ≡ true → (b || list_any p xs) ≡ true
    by true ih = refl
    by false ih = ih

pub some_kept : {X : Type 0} (p : X → Bool) (xs : List X) → list_any p xs ≡ true → filter p xs ≢ []
some_kept p [] e = cc
some_kept p (x ∷ xs) e = by (p x) refl (some_kept p xs)
  where
    by : (b : Bool) → p x ≡ b → (list_any p xs ≡ true → filter p xs ≢ []) → (if b then x ∷ filter p xs else filter p xs) ≢ []
    by true k ih = λ h. cc
    by false k ih = ih (sym (ap (λ b. b || list_any p xs) k) ∙ e)

abbrev pub IsDeclared : Hierarchy → List Decl → Operator → Type 0
IsDeclared h ds f = list_any (λ d. same_operator f (operator_of h d)) ds ≡ true

with_declared : (h : Hierarchy) (ds : List Decl) (fs : List Operator) (f : Operator) → All (IsDeclared h ds) fs → IsDeclared h ds f → All (IsDeclared h ds) (with_operator fs f)
with_declared h ds fs f a e = by (list_any (same_operator f) fs)
  where
    by : (b : Bool) → All (IsDeclared h ds) (if b then fs else fs ++ f ∷ [])
    by true = a
    by false = All-push (IsDeclared h ds) fs f a e

fold_declared : (h : Hierarchy) (ds es : List Decl) (fs : List Operator) → All (IsDeclared h ds) fs → All (λ d. IsDeclared h ds (operator_of h d)) es → All (IsDeclared h ds) (fold (λ gs d. with_operator gs (operator_of h d)) fs es)
fold_declared h ds [] fs a b = a
fold_declared h ds (e ∷ es) fs a b =
    fold_declared h ds es (with_operator fs (operator_of h e))
    (with_declared h ds fs (operator_of h e) a (All-head (λ d. IsDeclared h ds (operator_of h d)) e es b))
    (All-tail (λ d. IsDeclared h ds (operator_of h d)) e es b)

pub all_declared : (h : Hierarchy) (ds : List Decl) → All (IsDeclared h ds) (operators_of h ds)
all_declared h ds =
    fold_declared h ds ds [] (All-nil (IsDeclared h ds))
    (λ k d lt. any_at (λ e. same_operator (operator_of h (get_or ds k d)) (operator_of h e)) ds k d lt (same_operator_itself (operator_of h (get_or ds k d))))

pub group_some : (h : Hierarchy) (ds : List Decl) (fs : List Operator) (groups : List (List Decl)) → groups ≡ map (declarations_of h ds) fs → fs ≡ operators_of h ds → All (λ group. group ≢ []) groups
group_some h ds fs groups e n =
    All-same (λ group. group ≢ []) groups (map (declarations_of h ds) fs) e
    (All-map (λ group. group ≢ []) (declarations_of h ds) fs
    (All-weaker (IsDeclared h ds) (λ f. declarations_of h ds f ≢ []) (λ f k. some_kept (λ d. same_operator f (operator_of h d)) ds k) fs
    (All-same (IsDeclared h ds) fs (operators_of h ds) n (all_declared h ds))))

-- ---- the signature

pub map-map : {X Y Z : Type 0} (f : Y → Z) (g : X → Y) (xs : List X) → map f (map g xs) ≡ map (λ x. f (g x)) xs
map-map f g [] = refl
map-map f g (x ∷ xs) = ap (λ ys. f (g x) ∷ ys) (map-map f g xs)

-- the names and the entries are those of all declarations
pub entered_are : (h : Hierarchy) (ds read : List Decl) (names : List Operator) (groups : List (List Decl)) (entries : List Entry) →
    read ≡ ds → names ≡ operators_of h read → groups ≡ map (declarations_of h ds) names → map declarations_in entries ≡ map with_united groups →
    (names ≡ operators_of h ds) × (map declarations_in entries ≡ map (λ f. with_united (declarations_of h ds f)) (operators_of h ds))
entered_are h ds read names groups entries r n g e =
    let names_are : names ≡ operators_of h ds = n ∙ ap (operators_of h) r in
    (names_are, e ∙ ap (map with_united) g ∙ map-map with_united (declarations_of h ds) names ∙ ap (map (λ f. with_united (declarations_of h ds f))) names_are)

-- so they make the signature of these declarations
pub signature_made : (h : Hierarchy) (ds : List Decl) (numerals : Option (ℕ × ℕ)) (fs : List Operator) (groups : List (List Decl)) →
    fs ≡ operators_of h ds → groups ≡ map (λ f. with_united (declarations_of h ds f)) (operators_of h ds) →
    record { hierarchy = h; names = fs; declarations = groups; numerals = numerals } ≡ signature_of h ds numerals
signature_made h ds numerals fs groups names_are groups_are = ap₂ parts names_are groups_are
  where
    parts : List Operator → List (List Decl) → SignatureOf
    parts gs es = record { hierarchy = h; names = gs; declarations = es; numerals = numerals }

pub as_many : (entries : List Entry) (ds : List (List Decl)) (fs : List Operator) (D : Operator → List Decl) → map declarations_in entries ≡ map with_united ds → ds ≡ map D fs → length entries ≡ length fs
as_many entries ds fs D e k =
    sym (length-map entries declarations_in) ∙ ap length e ∙ length-map ds with_united ∙ ap length k ∙ length-map fs D

pub zero_there : (h : Hierarchy) (ds : List Decl) (numerals : Option (ℕ × ℕ)) → AreNumerals h ds numerals → HasZero h numerals
zero_there h ds None a = λ p e. cc
zero_there h ds (Some z) a = λ p e. let k : z.0 ≡ p.0 = cc in subst (IsSort h) k a.0

pub others_there : (h : Hierarchy) (ds : List Decl) (numerals : Option (ℕ × ℕ)) → AreNumerals h ds numerals → HasOthers h numerals
others_there h ds None a = λ p e. cc
others_there h ds (Some z) a = λ p e.
    let k : z ≡ p = cc in
    subst (λ (w : ℕ × ℕ). IsSort h w.1 × (kind_of h w.0 ≡ kind_of h w.1)) k (a.1, a.2)
