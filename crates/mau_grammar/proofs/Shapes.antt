-- Each production of a signature has a part, and one without an operator has one place.
use Rattle.std.proofs.Common.{cond, ◌≡◌, ◌≢◌, ℕ, zero, suc, ◌+◌, ◌==◌, List, [], ◌∷◌, ◌++◌, Bool, true, false, not, ◌&&◌, ◌||◌, Option, Some, None, codes, length, map, if◌then◌else◌, All, refl, sym, subst, arith, add-one}
use Rattle.std.specs.Option.{option_map}
use Rattle.std.proofs.lemmas.List.Elements.{All-nil, All-cons, All-append}
use Rattle.std.proofs.lemmas.List.Sums.{sum_by-append}
use Rattle.std.proofs.lemmas.Option.{same_Some, none-some}
use Rattle.mau_poset.specs.Order.{Hierarchy, kind_of, kinds}
use Rattle.mau_signature.specs.declared.form.Piece.{Piece}
use Rattle.mau_signature.specs.declared.form.Piece.TheVariants.{Hole, Word}
use Rattle.mau_signature.specs.declared.decl.Decl.{Decl}
use Rattle.mau_signature.specs.Form.{holes}
use Rattle.mau_signature.specs.Signature.{SignatureOf, declarations_at}
use Rattle.mau_grammar.specs.declared.production.Part.{Part}
use Rattle.mau_grammar.specs.declared.production.Production.{Production}
use Rattle.mau_grammar.specs.declared.sorts.SortName.{SortName}
use Rattle.mau_grammar.specs.Production.{word, any, is_place, places, production, IsShaped}
use Rattle.mau_grammar.specs.Parts.{parts_from, words_of, one_word, prefix_name, head_of, in_parentheses}
use Rattle.mau_grammar.specs.Productions.{operator, argument_kinds, level, written, list_kind, pair, chained, prefixed_by, with_head, prefixed, of_operator, of_operators, enclosed, of_kinds, sorted, sort_names}

-- one operator more
pub operators_more : (s : SignatureOf) (n : ℕ) → of_operators s (n + 1) ≡ of_operators s n ++ of_operator s.hierarchy (n + 1) (declarations_at s (n + 1))
operators_more s n = subst (λ m. of_operators s m ≡ of_operators s n ++ of_operator s.hierarchy m (declarations_at s m)) (sym (add-one n)) refl

All-joined : (ps qs : List Production) → All IsShaped ps → All IsShaped qs → All IsShaped (ps ++ qs)
All-joined ps qs a b = All-append IsShaped ps qs a b

-- ---- places

places-append : (ps qs : List Part) → places (ps ++ qs) ≡ places ps + places qs
places-append ps qs = sum_by-append (λ p. cond (is_place p) 1 0) ps qs

words_places : (form : List Piece) → places (words_of form) ≡ 0
words_places [] = refl
words_places (Hole ∷ ps) = words_places ps
words_places (Word w ∷ ps) = words_places ps

head_places : (form : List Piece) (head : List Part) → head_of form ≡ Some head → places head ≡ 0
head_places form head e = by (holes form == 0) (prefix_name form) e
  where
    by : (b : Bool) (n : Option (List ℕ)) → (if b then Some (words_of form) else option_map one_word n) ≡ Some head → places head ≡ 0
    by true n q = subst (λ h. places h ≡ 0) (same_Some (words_of form) head q) (words_places form)
    by false None q = absurd (none-some head q)
    by false (Some w) q = subst (λ h. places h ≡ 0) (same_Some (one_word w) head q) refl

-- ---- shapes

no_end : (ps : List Part) (p : Part) → ps ++ p ∷ [] ≢ []
no_end [] p e = cc
no_end (q ∷ ps) p e = cc

no_start : (p : Part) (ps : List Part) → p ∷ ps ≢ []
no_start p ps e = cc

-- with an operator only a part is needed
with_operator : (k q f : ℕ) (ps : List Part) → ps ≢ [] → IsShaped (production k q (operator f) ps)
with_operator k q f ps n = record { some = n; one = λ e. absurd (none-some (record { 0 = f }) (sym e)) }

behind : (head : List Part) (ks : List ℕ) → head ++ in_parentheses ks ≢ []
behind [] ks e = no_end _ (word (codes ")")) e
behind (p ∷ head) ks e = no_start p _ e

optional : (x : Bool) (p : Production) → IsShaped p → All IsShaped (if x then p ∷ [] else [])
optional true p s = All-cons IsShaped p [] s (All-nil IsShaped)
optional false p s = All-nil IsShaped

written_shaped : (h : Hierarchy) (f : ℕ) (d : Decl) → All IsShaped (written h f d)
written_shaped h f d = by d.form (not (holes d.form == 0) || length d.args == 0) (kind_of h d.result) (level d) (argument_kinds h d)
  where
    by : (form : List Piece) (c : Bool) (k q : ℕ) (ks : List ℕ) → All IsShaped (if not (length form == 0) && c then production k q (operator f) (parts_from d ks form 0) ∷ [] else [])
    by [] c k q ks = All-nil IsShaped
    by (p ∷ form) c k q ks = optional (not (length (p ∷ form) == 0) && c) (production k q (operator f) (parts_from d ks (p ∷ form) 0)) (with_operator k q f (parts_from d ks (p ∷ form) 0) (no_start _ _))

pair_shaped : (f k a b : ℕ) → IsShaped (pair f k a b)
pair_shaped f k a b = with_operator k 1 f (any a ∷ word (codes ",") ∷ any b ∷ []) (no_start (any a) (word (codes ",") ∷ any b ∷ []))

chained_shaped : (f k l : ℕ) (head : List Part) → places head ≡ 0 → All IsShaped (chained f k l head)
chained_shaped f k l head e =
    All-cons IsShaped (production k 1 None (head ++ in_parentheses (l ∷ []))) (pair f l k k ∷ pair f l k l ∷ [])
    (record { some = behind head (l ∷ []); one = λ q. omega (arith, places-append head (in_parentheses (l ∷ [])), e) })
    (All-cons IsShaped (pair f l k k) (pair f l k l ∷ []) (pair_shaped f l k k) (All-cons IsShaped (pair f l k l) [] (pair_shaped f l k l) (All-nil IsShaped)))

prefixed_by_shaped : (h : Hierarchy) (f : ℕ) (d : Decl) (head : List Part) → places head ≡ 0 → All IsShaped (prefixed_by h f d head)
prefixed_by_shaped h f d head e = by d.attrs.assoc
  where
    by : (b : Bool) → All IsShaped (if b then chained f (kind_of h d.result) (list_kind h f) head else production (kind_of h d.result) 1 (operator f) (head ++ in_parentheses (argument_kinds h d)) ∷ [])
    by true = chained_shaped f (kind_of h d.result) (list_kind h f) head e
    by false = All-cons IsShaped _ [] (with_operator _ _ f _ (behind head (argument_kinds h d))) (All-nil IsShaped)

prefixed_shaped : (h : Hierarchy) (f : ℕ) (d : Decl) → All IsShaped (prefixed h f d)
prefixed_shaped h f d = by (length d.args == 0) (head_of d.form) refl
  where
    by : (b : Bool) (x : Option (List Part)) → head_of d.form ≡ x → All IsShaped (if b then [] else with_head h f d x)
    by true x e = All-nil IsShaped
    by false None e = All-nil IsShaped
    by false (Some head) e = prefixed_by_shaped h f d head (head_places d.form head e)

of_operator_shaped : (h : Hierarchy) (f : ℕ) (ds : List Decl) → All IsShaped (of_operator h f ds)
of_operator_shaped h f [] = All-nil IsShaped
of_operator_shaped h f (d ∷ ds) = All-joined (written h f d) (prefixed h f d) (written_shaped h f d) (prefixed_shaped h f d)

of_operators_shaped : (s : SignatureOf) (n : ℕ) → All IsShaped (of_operators s n)
of_operators_shaped s zero = All-nil IsShaped
of_operators_shaped s (suc n) = All-joined (of_operators s n) _ (of_operators_shaped s n) (of_operator_shaped s.hierarchy (suc n) (declarations_at s (suc n)))

enclosed_shaped : (k : ℕ) → IsShaped (enclosed k)
enclosed_shaped k = record { some = no_start _ _; one = λ e. refl }

of_kinds_shaped : (h : Hierarchy) (n : ℕ) → All IsShaped (of_kinds h n)
of_kinds_shaped h zero = All-nil IsShaped
of_kinds_shaped h (suc n) = All-joined (of_kinds h n) _ (of_kinds_shaped h n) (All-cons IsShaped _ [] (enclosed_shaped (h.sorts + n)) (All-nil IsShaped))

sorted_shaped : (ss : List SortName) → All IsShaped (map sorted ss)
sorted_shaped [] = All-nil IsShaped
sorted_shaped (s ∷ ss) = All-cons IsShaped _ _ (record { some = no_start _ _; one = λ e. refl }) (sorted_shaped ss)

pub all_shaped : (s : SignatureOf) (ss : List SortName) → All IsShaped (of_operators s (length s.declarations) ++ (of_kinds s.hierarchy (kinds s.hierarchy) ++ map sorted ss))
all_shaped s ss =
    All-joined _ _ (of_operators_shaped s (length s.declarations))
    (All-joined _ _ (of_kinds_shaped s.hierarchy (kinds s.hierarchy)) (sorted_shaped ss))

-- ---- sorts

pub length-sort_names : (h : Hierarchy) (a : ℕ) (ws : List (List ℕ)) → length (sort_names h a ws) ≡ length ws
length-sort_names h a [] = refl
length-sort_names h a (w ∷ ws) = omega (arith, length-sort_names h (a + 1) ws)
