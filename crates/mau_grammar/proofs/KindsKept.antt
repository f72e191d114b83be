-- Each production of a signature makes terms of its kind from terms of the kinds at its places.
use Rattle.std.proofs.Common.{cond, ◌≡◌, ℕ, zero, suc, ◌+◌, ◌-◌, ◌<◌, ◌≤◌, ◌==◌, nat_lt, nat_le, List, [], ◌∷◌, ◌++◌, Bool, true, false, not, ◌&&◌, ◌||◌, ◌⊎◌, inl, inr, Option, Some, None, codes, length, map, drop, get_or, if◌then◌else◌, All, refl, sym, ◌∙◌, ap, ap₂, subst, arith, eqb-true}
use Rattle.std.specs.Option.{option_map}
use Rattle.std.proofs.Math.Seq.{drop-cons}
use Rattle.std.proofs.lemmas.Bool.{cases_lt, lt-ltb, le-ltb, or_parts}
use Rattle.std.proofs.lemmas.Bool.Decides.{nat_tests}
use Rattle.std.proofs.lemmas.List.{length-map}
use Rattle.std.proofs.lemmas.List.Sums.{sum_by-cons}
use Rattle.std.proofs.lemmas.List.Elements.{All-nil, All-cons, All-append, All-filter, All-map, All-push}
use Rattle.std.proofs.lemmas.Option.{same_Some, none-some}
use Rattle.mau_terms.specs.declared.ids.OpId.{OpId}
use Rattle.mau_terms.specs.Bare.{IsLawful}
use Rattle.mau_poset.specs.Order.{Hierarchy, kind_of, kinds}
use Rattle.mau_poset.proofs.Orders.{kind_of-kind, kind_of-in_range}
use Rattle.mau_signature.specs.declared.form.Piece.{Piece}
use Rattle.mau_signature.specs.declared.form.Piece.TheVariants.{Hole, Word}
use Rattle.mau_signature.specs.declared.decl.Decl.{Decl}
use Rattle.mau_signature.specs.Form.{is_hole, holes}
use Rattle.mau_signature.specs.Names.{operator_of, operators_of, declarations_of}
use Rattle.mau_signature.specs.Attributes.{united, with_attributes, with_united}
use Rattle.mau_signature.specs.Faults.{Given, given, IsSort, HasSorts, has_wrong_arity, is_at_fault, IsFaultless, no_declaration, one_more}
use Rattle.mau_signature.specs.Made.{IsSignature}
use Rattle.mau_signature.specs.Signature.{SignatureOf, arguments_of, result_of, attributes_of, declarations_at, terms_over}
use Rattle.mau_grammar.specs.declared.production.Part.{Part}
use Rattle.mau_grammar.specs.declared.production.Part.TheVariants.{Word as Letters, Hole as Place}
use Rattle.mau_grammar.specs.declared.production.Production.{Production}
use Rattle.mau_grammar.specs.declared.sorts.SortName.{SortName}
use Rattle.mau_grammar.specs.Production.{word, any, production, place_kinds}
use Rattle.mau_grammar.specs.Parts.{parts_from, words_of, one_word, prefix_name, head_of, listed, in_parentheses}
use Rattle.mau_grammar.specs.Productions.{operator, argument_kinds, level, is_written, written, list_kind, pair, chained, prefixed_by, with_head, prefixed, of_operator, of_operators, of_kinds, sorted, sort_names, productions_of}

-- ---- kinds of places

kinds-append : (ps qs : List Part) → place_kinds (ps ++ qs) ≡ place_kinds ps ++ place_kinds qs
kinds-append [] qs = refl
kinds-append (Letters w ∷ ps) qs = kinds-append ps qs
kinds-append (Place p ∷ ps) qs = ap (λ ks. p.kind ∷ ks) (kinds-append ps qs)

words_kinds : (form : List Piece) → place_kinds (words_of form) ≡ []
words_kinds [] = refl
words_kinds (Hole ∷ ps) = words_kinds ps
words_kinds (Word w ∷ ps) = words_kinds ps

head_kinds : (form : List Piece) (head : List Part) → head_of form ≡ Some head → place_kinds head ≡ []
head_kinds form head e = by (holes form == 0) (prefix_name form) e
  where
    by : (b : Bool) (n : Option (List ℕ)) → (if b then Some (words_of form) else option_map one_word n) ≡ Some head → place_kinds head ≡ []
    by true n q = subst (λ h. place_kinds h ≡ []) (same_Some (words_of form) head q) (words_kinds form)
    by false None q = absurd (none-some head q)
    by false (Some w) q = subst (λ h. place_kinds h ≡ []) (same_Some (one_word w) head q) refl

listed_kinds : (b : Bool) (ks : List ℕ) (qs : List Part) → place_kinds (listed b ks ++ qs) ≡ ks ++ place_kinds qs
listed_kinds b [] qs = refl
listed_kinds b (k ∷ ks) qs = ap (λ ls. k ∷ ls) (listed_kinds false ks qs)

none_right : (ks : List ℕ) → ks ++ [] ≡ ks
none_right [] = refl
none_right (k ∷ ks) = ap (λ ls. k ∷ ls) (none_right ks)

behind_kinds : (head : List Part) (ks : List ℕ) → place_kinds head ≡ [] → place_kinds (head ++ in_parentheses ks) ≡ ks
behind_kinds head ks e = kinds-append head (in_parentheses ks) ∙ ap₂ (λ a b. a ++ b) e (listed_kinds true ks (word (codes ")") ∷ []) ∙ none_right ks)

drop_all : (ks : List ℕ) (n : ℕ) → length ks ≤ n → [] ≡ drop n ks
drop_all [] zero h = refl
drop_all [] (suc n) h = refl
drop_all (k ∷ ks) zero h = absurd (omega arith)
drop_all (k ∷ ks) (suc n) h = drop_all ks n (omega arith)

-- as many holes as kinds are left: these are the kinds of the places
pub form_kinds : (d : Decl) (ks : List ℕ) (form : List Piece) (n : ℕ) → n + holes form ≡ length ks → place_kinds (parts_from d ks form n) ≡ drop n ks
form_kinds d ks [] n e = drop_all ks n (omega (arith, e))
form_kinds d ks (Word w ∷ ps) n e = form_kinds d ks ps n (omega (arith, e, sum_by-cons (λ p. cond (is_hole p) 1 0) (Word w) ps))
form_kinds d ks (Hole ∷ ps) n e =
    let more = sum_by-cons (λ p. cond (is_hole p) 1 0) Hole ps in
    let within : n < length ks = omega (arith, e, more) in
    let next : n + 1 ≡ suc n = omega arith in
    ap (λ ls. get_or ks n 0 ∷ ls) (form_kinds d ks ps (n + 1) (omega (arith, e, more)) ∙ ap (λ m. drop m ks) next) ∙ sym (drop-cons ks n 0 within)

-- ---- what the kinds of places mean

-- one more than the greatest kind
abbrev pub base : SignatureOf → ℕ
base s = s.hierarchy.sorts + kinds s.hierarchy

-- a kind is its own; the lists of arguments of an associative operator are terms of the kind of its result
abbrev pub meaning : SignatureOf → ℕ → ℕ
meaning s k = if nat_lt k (base s) then k else (terms_over s).result (k - base s)

pub meaning_kind : (s : SignatureOf) (k : ℕ) → k < base s → meaning s k ≡ k
meaning_kind s k h = ap (λ b. if b then k else (terms_over s).result (k - base s)) (lt-ltb k (base s) h)

meaning_list : (s : SignatureOf) (f : ℕ) → meaning s (list_kind s.hierarchy f) ≡ (terms_over s).result f
meaning_list s f =
    let k = list_kind s.hierarchy f in
    let past : base s ≤ k = omega arith in
    let same : k - base s ≡ f = omega arith in
    ap (λ b. if b then k else (terms_over s).result (k - base s)) (le-ltb k (base s) past) ∙ ap (terms_over s).result same

pub kind_in : (h : Hierarchy) (a : ℕ) → IsSort h a → kind_of h a < h.sorts + kinds h
kind_in h a i = elim (cases_lt a h.sorts) [
  | inl k ↦ kind_of-in_range h a k
  | inr k ↦ omega (arith, kind_of-kind h a k, i)
]

kinds_mean : (s : SignatureOf) (ks : List ℕ) → All (λ k. k < base s) ks → map (meaning s) ks ≡ ks
kinds_mean s [] a = refl
kinds_mean s (k ∷ ks) a = ap₂ (λ x xs. x ∷ xs) (meaning_kind s k (a 0 k (omega arith))) (kinds_mean s ks (λ i d l. a (suc i) d (omega arith)))

-- ---- declarations

-- its sorts are there, and its holes are none or those of its arguments
pub record IsFit (h : Hierarchy) (d : Decl) : Type 0 where
  pub sorts : HasSorts h d
  pub places : (holes d.form ≡ 0) ⊎ (holes d.form ≡ length d.args)

abbrev HasPlaces : Decl → Type 0
HasPlaces d = (holes d.form ≡ 0) ⊎ (holes d.form ≡ length d.args)

right_places : (a b : Bool) (d : Decl) → holes d.form == 0 ≡ a → holes d.form == length d.args ≡ b → (not a && not b) ≡ false → HasPlaces d
right_places true b d p q e = inl (eqb-true (holes d.form) 0 p)
right_places false true d p q e = inr (eqb-true (holes d.form) (length d.args) q)
right_places false false d p q e = cc

places_of : (g : Given) (earlier : List Decl) (d : Decl) → is_at_fault g earlier d ≡ false → HasPlaces d
places_of g earlier d e =
    let right : has_wrong_arity d ≡ false = (or_parts (has_wrong_arity d) _ e).0 in
    right_places (holes d.form == 0) (holes d.form == length d.args) d refl refl (or_parts _ (not (holes d.form == 0) && not (holes d.form == length d.args)) right).1

all_places : (g : Given) (ds : List Decl) → IsFaultless g ds → All HasPlaces ds
all_places g _ no_declaration = All-nil HasPlaces
all_places g _ (one_more {ds} d before e) = All-push HasPlaces ds d (all_places g ds before) (places_of g (declarations_of g.hierarchy ds (operator_of g.hierarchy d)) d e)

fit_with : (h : Hierarchy) (d : Decl) (a : _) → IsFit h d → IsFit h (with_attributes a d)
fit_with h d a f = record { sorts = record { arguments = f.sorts.arguments; result = f.sorts.result }; places = f.places }

all_fit : (s : SignatureOf) → IsSignature s → All (All (IsFit s.hierarchy)) s.declarations
all_fit s i =
    let h = s.hierarchy in
    let ds = i.source in
    let fit : All (IsFit h) ds = λ k d l. record { sorts = i.sorts k d l; places = all_places (given h ds s.numerals) ds i.faultless k d l } in
    let made : s.declarations ≡ map (λ f. with_united (declarations_of h ds f)) (operators_of h ds) = ap (λ (t : SignatureOf). t.declarations) i.made in
    subst (All (All (IsFit h))) (sym made)
    (All-map (All (IsFit h)) (λ f. with_united (declarations_of h ds f)) (operators_of h ds)
    (λ k f l.
    let own = declarations_of h ds (get_or (operators_of h ds) k f) in
    All-map (IsFit h) (with_attributes (united own)) own (All-filter _ (λ d. IsFit h (with_attributes (united own) d)) ds (λ n d m. fit_with h _ (united own) (fit n d m)))))

-- ---- productions

-- the operator f over terms of the kinds of its places, which are those of its arguments
pub record IsMadeBy (s : SignatureOf) (f : ℕ) (p : Production) : Type 0 where
  pub there : (terms_over s).has_operator f ≡ true
  pub result : (terms_over s).result f ≡ meaning s p.kind
  pub arguments : map (meaning s) (place_kinds p.parts) ≡ (terms_over s).arguments f

pub record IsProper (s : SignatureOf) (p : Production) : Type 0 where
  pub made : (f : OpId) → p.op ≡ Some f → IsMadeBy s f.0 p
  pub same : p.op ≡ None → map (meaning s) (place_kinds p.parts) ≡ meaning s p.kind ∷ []

made_proper : (s : SignatureOf) (k q f : ℕ) (ps : List Part) → IsMadeBy s f (production k q (operator f) ps) → IsProper s (production k q (operator f) ps)
made_proper s k q f ps m = record {
  made = λ g e. subst (λ (o : OpId). IsMadeBy s o.0 (production k q (operator f) ps)) (same_Some (record { 0 = f }) g e) m;
  same = λ e. absurd (none-some (record { 0 = f }) (sym e));
}

same_proper : (s : SignatureOf) (k q : ℕ) (ps : List Part) → map (meaning s) (place_kinds ps) ≡ meaning s k ∷ [] → IsProper s (production k q None ps)
same_proper s k q ps m = record { made = λ g e. absurd (none-some g e); same = λ e. m }

-- what is known of the operator f, whose first declaration is d
record IsOwn (s : SignatureOf) (f : ℕ) (d : Decl) : Type 0 where
  there : (terms_over s).has_operator f ≡ true
  fit : IsFit s.hierarchy d
  result : (terms_over s).result f ≡ kind_of s.hierarchy d.result
  arguments : (terms_over s).arguments f ≡ argument_kinds s.hierarchy d
  assoc : d.attrs.assoc ≡ true → (terms_over s).arguments f ≡ (terms_over s).result f ∷ (terms_over s).result f ∷ []

result_means : (s : SignatureOf) (f : ℕ) (d : Decl) → IsOwn s f d → (terms_over s).result f ≡ meaning s (kind_of s.hierarchy d.result)
result_means s f d own = own.result ∙ sym (meaning_kind s (kind_of s.hierarchy d.result) (kind_in s.hierarchy d.result own.fit.sorts.result))

arguments_mean : (s : SignatureOf) (f : ℕ) (d : Decl) → IsOwn s f d → map (meaning s) (argument_kinds s.hierarchy d) ≡ (terms_over s).arguments f
arguments_mean s f d own =
    kinds_mean s (argument_kinds s.hierarchy d) (All-map (λ k. k < base s) (kind_of s.hierarchy) d.args (λ k a l. kind_in s.hierarchy _ (own.fit.sorts.arguments k a l)))
    ∙ sym own.arguments

as_many : (hs n : ℕ) (b : Bool) → (b && (not (hs == 0) || n == 0)) ≡ true → (hs ≡ 0) ⊎ (hs ≡ n) → hs ≡ n
as_many hs n b e (inr p) = p
as_many hs n true e (inl p) = p ∙ sym (eqb-true n 0 (sym (ap (λ m. not (m == 0) || n == 0) p) ∙ e))
as_many hs n false e (inl p) = cc

all_one : (s : SignatureOf) (p : Production) → IsProper s p → All (IsProper s) (p ∷ [])
all_one s p i = All-cons (IsProper s) p [] i (All-nil (IsProper s))

written_proper : (s : SignatureOf) (f : ℕ) (d : Decl) → IsOwn s f d → All (IsProper s) (written s.hierarchy f d)
written_proper s f d own = by (is_written d) refl
  where
    by : (b : Bool) → is_written d ≡ b → All (IsProper s) (if b then production (kind_of s.hierarchy d.result) (level d) (operator f) (parts_from d (argument_kinds s.hierarchy d) d.form 0) ∷ [] else [])
    by true e =
        let ks = argument_kinds s.hierarchy d in
        let places : 0 + holes d.form ≡ length ks = omega (arith, as_many (holes d.form) (length d.args) _ e own.fit.places, length-map d.args (kind_of s.hierarchy)) in
        all_one s _ (made_proper s _ _ f _ (record {
          there = own.there;
          result = result_means s f d own;
          arguments = ap (map (meaning s)) (form_kinds d ks d.form 0 places) ∙ arguments_mean s f d own;
        }))
    by false e = All-nil (IsProper s)

chained_proper : (s : SignatureOf) (f : ℕ) (d : Decl) (head : List Part) → IsOwn s f d → d.attrs.assoc ≡ true → place_kinds head ≡ [] → All (IsProper s) (chained f (kind_of s.hierarchy d.result) (list_kind s.hierarchy f) head)
chained_proper s f d head own assoc e =
    let k = kind_of s.hierarchy d.result in
    let l = list_kind s.hierarchy f in
    let own_kind = result_means s f d own in
    let list = meaning_list s f in
    let both = own.assoc assoc in
    All-cons (IsProper s) (production k 1 None (head ++ in_parentheses (l ∷ []))) (pair f l k k ∷ pair f l k l ∷ []) (same_proper s k 1 (head ++ in_parentheses (l ∷ [])) (ap (map (meaning s)) (behind_kinds head (l ∷ []) e) ∙ ap (λ m. m ∷ []) (list ∙ own_kind)))
    (All-cons (IsProper s) (pair f l k k) (pair f l k l ∷ [])
    (made_proper s l 1 f (any k ∷ word (codes ",") ∷ any k ∷ []) (record { there = own.there; result = sym list; arguments = ap₂ (λ a b. a ∷ b ∷ []) (sym own_kind) (sym own_kind) ∙ sym both }))
    (all_one s (pair f l k l) (made_proper s l 1 f (any k ∷ word (codes ",") ∷ any l ∷ []) (record { there = own.there; result = sym list; arguments = ap₂ (λ a b. a ∷ b ∷ []) (sym own_kind) list ∙ sym both }))))

prefixed_by_proper : (s : SignatureOf) (f : ℕ) (d : Decl) (head : List Part) → IsOwn s f d → place_kinds head ≡ [] → All (IsProper s) (prefixed_by s.hierarchy f d head)
prefixed_by_proper s f d head own e = by d.attrs.assoc refl
  where
    by : (b : Bool) → d.attrs.assoc ≡ b
        → All (IsProper s) (if b then chained f (kind_of s.hierarchy d.result) (list_kind s.hierarchy f) head else production (kind_of s.hierarchy d.result) 1 (operator f) (head ++ in_parentheses (argument_kinds s.hierarchy d)) ∷ [])
    by true q = chained_proper s f d head own q e
    by false q = all_one s _ (made_proper s _ 1 f _ (record {
      there = own.there;
      result = result_means s f d own;
      arguments = ap (map (meaning s)) (behind_kinds head (argument_kinds s.hierarchy d) e) ∙ arguments_mean s f d own;
    }))

prefixed_proper : (s : SignatureOf) (f : ℕ) (d : Decl) → IsOwn s f d → All (IsProper s) (prefixed s.hierarchy f d)
prefixed_proper s f d own = by (length d.args == 0) (head_of d.form) refl
  where
    by : (b : Bool) (x : Option (List Part)) → head_of d.form ≡ x → All (IsProper s) (if b then [] else with_head s.hierarchy f d x)
    by true x e = All-nil (IsProper s)
    by false None e = All-nil (IsProper s)
    by false (Some head) e = prefixed_by_proper s f d head own (head_kinds d.form head e)

operator_proper : (s : SignatureOf) (f : ℕ) (ds : List Decl) → ((d : Decl) (es : List Decl) → ds ≡ d ∷ es → IsOwn s f d) → All (IsProper s) (of_operator s.hierarchy f ds)
operator_proper s f [] own = All-nil (IsProper s)
operator_proper s f (d ∷ ds) own =
    All-append (IsProper s) (written s.hierarchy f d) (prefixed s.hierarchy f d) (written_proper s f d (own d ds refl)) (prefixed_proper s f d (own d ds refl))

within : (n m : ℕ) → n < m → (nat_lt 0 (suc n) && nat_le (suc n) m) ≡ true
within n m h = ap₂ (λ a b. a && b) (lt-ltb 0 (suc n) (omega arith)) (by (nat_le (suc n) m) refl)
  where
    by : (b : Bool) → nat_le (suc n) m ≡ b → b ≡ true
    by true e = refl
    by false e = absurd (over (suc n) m (omega arith) e)
      where
        over : (a c : ℕ) → a ≤ c → nat_le a c ≡ false → ⊥
        over a c k q = grind (arith, nat_tests)

own_first : (s : SignatureOf) (n : ℕ) → IsSignature s → IsLawful (terms_over s) → n < length s.declarations → (d : Decl) (es : List Decl) → declarations_at s (suc n) ≡ d ∷ es → IsOwn s (suc n) d
own_first s n i lawful h d es e =
    let at : suc n - 1 ≡ n = omega arith in
    let fits : All (IsFit s.hierarchy) (get_or s.declarations (suc n - 1) []) = subst (λ m. All (IsFit s.hierarchy) (get_or s.declarations m [])) (sym at) (all_fit s i n [] h) in
    let first : All (IsFit s.hierarchy) (d ∷ es) = subst (All (IsFit s.hierarchy)) e fits in
    record {
      there = within n (length s.declarations) h;
      fit = first 0 d (omega arith);
      result = ap (λ ds. kind_of s.hierarchy (result_of ds)) e;
      arguments = ap (λ ds. map (kind_of s.hierarchy) (arguments_of ds)) e;
      assoc = λ a. lawful.assoc_kinds (suc n) (ap (λ ds. (attributes_of ds).assoc) e ∙ a);
    }

operators_proper : (s : SignatureOf) (n : ℕ) → IsSignature s → IsLawful (terms_over s) → n ≤ length s.declarations → All (IsProper s) (of_operators s n)
operators_proper s zero i lawful h = All-nil (IsProper s)
operators_proper s (suc n) i lawful h =
    All-append (IsProper s) (of_operators s n) _ (operators_proper s n i lawful (omega arith))
    (operator_proper s (suc n) (declarations_at s (suc n)) (own_first s n i lawful (omega arith)))

kinds_proper : (s : SignatureOf) (n : ℕ) → All (IsProper s) (of_kinds s.hierarchy n)
kinds_proper s zero = All-nil (IsProper s)
kinds_proper s (suc n) = All-append (IsProper s) (of_kinds s.hierarchy n) _ (kinds_proper s n) (all_one s _ (same_proper s (s.hierarchy.sorts + n) 0 (in_parentheses ((s.hierarchy.sorts + n) ∷ [])) refl))

sorts_proper : (s : SignatureOf) (ss : List SortName) → All (IsProper s) (map sorted ss)
sorts_proper s [] = All-nil (IsProper s)
sorts_proper s (x ∷ ss) = All-cons (IsProper s) _ _ (same_proper s x.kind 0 (in_parentheses (x.kind ∷ []) ++ word (codes "." ++ x.name) ∷ []) refl) (sorts_proper s ss)

pub all_proper : (s : SignatureOf) (names : List (List ℕ)) → IsSignature s → IsLawful (terms_over s) → All (IsProper s) (productions_of s names)
all_proper s names i lawful =
    All-append (IsProper s) _ _ (operators_proper s (length s.declarations) i lawful (omega arith))
    (All-append (IsProper s) _ _ (kinds_proper s (kinds s.hierarchy)) (sorts_proper s (sort_names s.hierarchy 0 names)))
