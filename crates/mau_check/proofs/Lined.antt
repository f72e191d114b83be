-- The terms of lines: what is kept for each.
use Rattle.std.proofs.Common.{◌≡◌, ℕ, zero, suc, ◌+◌, ◌-◌, ◌<◌, ◌≤◌, ◌^◌, ◌==◌, List, [], ◌∷◌, ◌++◌, length, take, get_or, Bool, true, false, not, Option, Some, None, Result, Ok, Err, IfOk, refl, sym, ap, ◌∙◌, subst, arith, lit≤, if◌then◌else◌}
use Rattle.std.specs.Prelude.{All, IfSome, IfNone, nat_lt, slice_get, fold}
use Rattle.std.specs.List.{AllZip}
use Rattle.std.specs.Option.{option_map, option_and_then}
use Rattle.std.proofs.lemmas.Bool.{lt-ltb, eqb-true}
use Rattle.std.proofs.lemmas.List.{take_more}
use Rattle.std.proofs.lemmas.List.Sums.{fold-append, prefix_len-le-length}
use Rattle.std.proofs.lemmas.Option.{slice_get_within}
use Rattle.mau_poset.specs.Order.{kind_of, kinds}
use Rattle.mau_terms.specs.Tree.{Tree, variable, numeral}
use Rattle.mau_terms.specs.Norm.{greatest_numeral}
use Rattle.mau_terms.specs.Bare.{IsBareIn, IsLawful}
use Rattle.mau_terms.specs.Vars.{place_of, same_pair}
use Rattle.mau_terms.specs.declared.ids.TermId.{TermId}
use Rattle.mau_signature.specs.Faults.{IsSort}
use Rattle.mau_signature.specs.Signature.{SignatureOf, theory_at, terms_over}
use Rattle.mau_store.specs.Node.{Node, Extends}
use Rattle.mau_store.specs.Trees.{tree_at}
use Rattle.mau_facts.specs.declared.document.TermLine.{TermLine}
use Rattle.mau_facts.specs.declared.document.TermLine.TheVariants.{Num, Var, App}
use Rattle.mau_api.specs.Terms.{IsBareWithin, hole_index, holes}
use Rattle.mau_logic.specs.Lines.{Lines, no_lines, with_line, with_variable, lines_of, over, pair_of, is_hole, variable_at, terms_at}
use Rattle.mau_logic.specs.Justified.{With}
use Rattle.mau_check.specs.declared.kept.Holes.{Holes}
use Rattle.mau_check.specs.declared.kept.Holes.TheVariants.{Absent, Single}
use Rattle.mau_check.specs.declared.kept.Kept.{Kept}
use Rattle.mau_check.specs.Kept.{AreHoles, IsKeptFor, AreKeptFor, IsKept, AreKept}
use Rattle.mau_check.specs.LineTerms.{variable_by, pairs_by, line_term, line_pairs}
use Rattle.mau_check.proofs.Equals.{are_kept_extended}
use Rattle.mau_check.proofs.Numbers.{zip_push}
use Rattle.mau_check.proofs.Overs.{over_within, with_weaker}

-- ---- numerals and variables

pub kept_numeral : (s : SignatureOf) (nodes : List Node) (n : Node) (id : TermId) (kind v : ℕ) → v < 2 ^ 128 → Some kind ≡ (terms_over s).numerals → slice_get nodes id.0 ≡ Some n →
    tree_at nodes id.0 ≡ numeral v → IsKeptFor s nodes (record { id = id; kind = kind; holes = Absent }) (numeral v)
kept_numeral s nodes n id kind v l e at t =
    let few : v ≤ 2 ^ 128 - 1 = omega arith in
    record {
      within = ((kind, (few, sym e)), record { shallow = lit≤ tt; no_overflow = refl });
      kind = (few, sym e);
      there = slice_get_within nodes id.0 n at;
      stands = t;
      holes = refl;
    }

pub no_numeral : (s : SignatureOf) (v : ℕ) → None ≡ (terms_over s).numerals → IsBareWithin s (numeral v) → ⊥
no_numeral s v e w =
    let d : None ≡ Some w.0.0 = e ∙ w.0.1.1 in
    cc

pub kept_variable : (s : SignatureOf) (nodes : List Node) (n : Node) (id : TermId) (kind i r : ℕ) (hs : Holes) → i < 2 ^ 32 → IsSort s.hierarchy r → kind ≡ kind_of s.hierarchy r → AreHoles hs (holes (variable i r)) →
    slice_get nodes id.0 ≡ Some n → tree_at nodes id.0 ≡ variable i r → IsKeptFor s nodes (record { id = id; kind = kind; holes = hs }) (variable i r)
kept_variable s nodes n id kind i r hs l is k h at t =
    let bare : IsBareIn (terms_over s) (variable i r) kind = (l, lt-ltb r (s.hierarchy.sorts + kinds s.hierarchy) is, sym k) in
    record {
      within = ((kind, bare), record { shallow = lit≤ tt; no_overflow = refl });
      kind = bare;
      there = slice_get_within nodes id.0 n at;
      stands = t;
      holes = h;
    }

pub absent_holes : (i r : ℕ) → i < hole_index → AreHoles Absent (holes (variable i r))
absent_holes i r l = by (i == hole_index) refl
  where
    by : (b : Bool) → (i == hole_index) ≡ b → (if b then r ∷ [] else []) ≡ []
    by true e = absurd (let d : i ≡ 4294967295 = eqb-true i hole_index e in omega arith)
    by false e = refl

pub single_holes : (r : ℕ) → AreHoles (Single r) (holes (variable hole_index r))
single_holes r = refl

pub place_below : (pairs : List (List ℕ × ℕ)) (p : List ℕ × ℕ) → place_of pairs p ≤ length pairs
place_below pairs p = prefix_len-le-length (λ x. not (same_pair p x)) pairs

pub kept_named : (s : SignatureOf) (nodes : List Node) (k : Kept) (i r : ℕ) → i < hole_index → IsKeptFor s nodes k (variable i r) → IsKept s nodes (Some k) (variable_at i r)
kept_named s nodes k i r l h = subst (λ b. With (if b then Some (variable i r) else None) (IsKeptFor s nodes k)) (sym (lt-ltb i hole_index l)) h

-- ---- a variable, as it is written

pub none_by : (s : SignatureOf) (nodes : List Node) (pairs : List (List ℕ × ℕ)) (hole : Bool) (p : Option (List ℕ × ℕ)) → p ≡ None → IsKept s nodes None (variable_by pairs hole p)
none_by s nodes pairs true p e = subst (λ z. IsKept s nodes None (variable_by pairs true z)) (sym e) (λ w. w)
none_by s nodes pairs false p e = subst (λ z. IsKept s nodes None (variable_by pairs false z)) (sym e) (λ w. w)

pub none_pairs : (pairs : List (List ℕ × ℕ)) (hole : Bool) (p : Option (List ℕ × ℕ)) → p ≡ None → pairs ≡ pairs_by pairs hole p
none_pairs pairs true p e = sym (ap (pairs_by pairs true) e)
none_pairs pairs false p e = sym (ap (pairs_by pairs false) e)

pub hole_by : (s : SignatureOf) (nodes : List Node) (k : Kept) (pairs : List (List ℕ × ℕ)) (hole : Bool) (p : Option (List ℕ × ℕ)) (q : List ℕ × ℕ) → hole ≡ true → p ≡ Some q → IsKeptFor s nodes k (variable hole_index q.1) →
    IsKept s nodes (Some k) (variable_by pairs hole p)
hole_by s nodes k pairs hole p q e d h = subst (λ b. IsKept s nodes (Some k) (variable_by pairs b p)) (sym e) (subst (λ z. IsKept s nodes (Some k) (variable_by pairs true z)) (sym d) h)

pub hole_pairs : (pairs : List (List ℕ × ℕ)) (hole : Bool) (p : Option (List ℕ × ℕ)) (q : List ℕ × ℕ) → hole ≡ true → p ≡ Some q → pairs ≡ pairs_by pairs hole p
hole_pairs pairs hole p q e d = sym (ap (λ b. pairs_by pairs b p) e ∙ ap (pairs_by pairs true) d)

pub named_by : (s : SignatureOf) (nodes : List Node) (k : Kept) (pairs : List (List ℕ × ℕ)) (hole : Bool) (p : Option (List ℕ × ℕ)) (q : List ℕ × ℕ) → hole ≡ false → p ≡ Some q → IsKept s nodes (Some k) (variable_by pairs false (Some q)) →
    IsKept s nodes (Some k) (variable_by pairs hole p)
named_by s nodes k pairs hole p q e d h = subst (λ b. IsKept s nodes (Some k) (variable_by pairs b p)) (sym e) (subst (λ z. IsKept s nodes (Some k) (variable_by pairs false z)) (sym d) h)

pub named_pairs : (pairs more : List (List ℕ × ℕ)) (hole : Bool) (p : Option (List ℕ × ℕ)) (q : List ℕ × ℕ) → hole ≡ false → p ≡ Some q → more ≡ pairs_by pairs false (Some q) → more ≡ pairs_by pairs hole p
named_pairs pairs more hole p q e d h = h ∙ sym (ap (λ b. pairs_by pairs b p) e ∙ ap (pairs_by pairs false) d)

-- ---- operators

pub with_then : {A B : Type 0} (o : Option A) (f : A → Option B) (P : A → Type 0) (Q : B → Type 0) → ((x : A) → P x → With (f x) Q) → With o P → With (option_and_then f o) Q
with_then None f P Q g h = absurd h
with_then (Some x) f P Q g h = g x h

with_from : {A B : Type 0} (o : Option A) (f : A → Option B) (P : A → Type 0) (Q : B → Type 0) → ((x : A) → With (f x) Q → P x) → With (option_and_then f o) Q → With o P
with_from None f P Q g h = absurd h
with_from (Some x) f P Q g h = g x h

pub no_arguments : (s : SignatureOf) → IsLawful (terms_over s) → (f : ℕ) (o : Option (List Tree)) → (With o (All (IsBareWithin s)) → ⊥) → With (option_and_then (over s f) o) (IsBareWithin s) → ⊥
no_arguments s lawful f o g w = g (with_from o (over s f) (All (IsBareWithin s)) (IsBareWithin s) (over_within s lawful f) w)

-- what is found of an operator over arguments that are kept
pub built_line : {E : Type 0} (s : SignatureOf) (old new : List Node) (f : ℕ) (ks : List Kept) (o : Option (List Tree)) (r : Result (Option Kept) E) → With o (AreKeptFor s old ks) →
    ((ts : List Tree) → AreKeptFor s old ks ts → IfOk r (λ k. IfSome k (λ x. With (over s f ts) (IsKeptFor s new x)))) →
    ((ts : List Tree) → AreKeptFor s old ks ts → IfOk r (λ k. IfNone k (With (over s f ts) (IsBareWithin s) → ⊥))) →
    IfOk r (λ k. IsKept s new k (option_and_then (over s f) o))
built_line s old new f ks None r h some none = absurd h
built_line s old new f ks (Some ts) (Err e) h some none = tt
built_line s old new f ks (Some ts) (Ok None) h some none = none ts h
built_line s old new f ks (Some ts) (Ok (Some x)) h some none = some ts h

-- ---- lines

line_adds : (s : SignatureOf) (sorts : List (List ℕ)) (x : Lines) (l : TermLine) →
    ((with_line s sorts x l).terms ≡ x.terms ++ line_term s sorts x.pairs x.terms l ∷ []) × ((with_line s sorts x l).pairs ≡ line_pairs s sorts x.pairs l)
line_adds s sorts x (Num n) = (refl, refl)
line_adds s sorts x (App f ts) = (refl, refl)
line_adds s sorts x (Var w) = by (is_hole w) (pair_of s sorts w)
  where
    by : (hole : Bool) (p : Option (List ℕ × ℕ)) → ((with_variable x hole p).terms ≡ x.terms ++ variable_by x.pairs hole p ∷ []) × ((with_variable x hole p).pairs ≡ pairs_by x.pairs hole p)
    by true None = (refl, refl)
    by false None = (refl, refl)
    by true (Some p) = (refl, refl)
    by false (Some p) = (refl, refl)

lines_more : (s : SignatureOf) (sorts : List (List ℕ)) (lines : List TermLine) (i : ℕ) (d : TermLine) → i < length lines → lines_of s sorts (take (i + 1) lines) ≡ with_line s sorts (lines_of s sorts (take i lines)) (get_or lines i d)
lines_more s sorts lines i d l = ap (lines_of s sorts) (take_more lines i d l) ∙ fold-append (with_line s sorts) no_lines (take i lines) (get_or lines i d ∷ [])

-- one line more
pub line_kept : (s : SignatureOf) (sorts : List (List ℕ)) (old new : List Node) (lines : List TermLine) (i : ℕ) (d : TermLine) (ks : List (Option Kept)) (k : Option Kept) (pairs : List (List ℕ × ℕ)) → i < length lines → Extends old new →
    AreKept s old ks (lines_of s sorts (take i lines)).terms → pairs ≡ (lines_of s sorts (take i lines)).pairs → IsKept s new k (line_term s sorts pairs (lines_of s sorts (take i lines)).terms (get_or lines i d)) →
    AreKept s new (ks ++ k ∷ []) (lines_of s sorts (take (i + 1) lines)).terms
line_kept s sorts old new lines i d ks k pairs l x h e here =
    let before = lines_of s sorts (take i lines) in
    let term = line_term s sorts before.pairs before.terms (get_or lines i d) in
    subst (AreKept s new (ks ++ k ∷ []))
    (sym ((line_adds s sorts before (get_or lines i d)).0) ∙ ap (λ (z : Lines). z.terms) (sym (lines_more s sorts lines i d l)))
    (zip_push (IsKept s new) ks before.terms k term (are_kept_extended s old new x ks before.terms h)
    (subst (λ z. IsKept s new k (line_term s sorts z before.terms (get_or lines i d))) e here))

pub line_pairs_are : (s : SignatureOf) (sorts : List (List ℕ)) (lines : List TermLine) (i : ℕ) (d : TermLine) (old new : List (List ℕ × ℕ)) → i < length lines → old ≡ (lines_of s sorts (take i lines)).pairs →
    new ≡ line_pairs s sorts old (get_or lines i d) → new ≡ (lines_of s sorts (take (i + 1) lines)).pairs
line_pairs_are s sorts lines i d old new l e n =
    let before = lines_of s sorts (take i lines) in
    n
    ∙ ap (λ z. line_pairs s sorts z (get_or lines i d)) e
    ∙ sym ((line_adds s sorts before (get_or lines i d)).1)
    ∙ ap (λ (z : Lines). z.pairs) (sym (lines_more s sorts lines i d l))
