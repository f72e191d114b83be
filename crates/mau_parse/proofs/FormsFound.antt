-- The productions that may read a text are found by its words.
use Rattle.std.proofs.Common.{◌≡◌, ◌≢◌, ℕ, zero, suc, ◌+◌, ◌<◌, ◌≤◌, List, [], ◌∷◌, ◌++◌, length, get_or, drop, Bool, true, false, Option, Some, None, add-one, ◌⊎◌, inl, inr, append_assoc, append-nil, refl, sym, ◌∙◌, ap, subst, arith, slice_get, bytes_eq, if◌then◌else◌}
use Rattle.std.proofs.lemmas.Option.{slice_get_within, slice_get-get_or, same_Some, none-some}
use Rattle.std.proofs.lemmas.Slice.Eq.{bytes_eq-Decides}
use Rattle.std.specs.Option.{option_map_or}
use Rattle.mau_store.proofs.Places.{slice_get-front}
use Rattle.mau_grammar.specs.declared.production.Part.{Part}
use Rattle.mau_grammar.specs.declared.production.Part.TheVariants.{Word, Hole as Place}
use Rattle.mau_grammar.specs.declared.production.Production.{Production as Written}
use Rattle.mau_grammar.specs.Parts.{is_special}
use Rattle.mau_grammar.specs.Index.{first_plain, first_word, or_else, key_of, key_at, keyed, wordless}
use Rattle.mau_grammar.proofs.Indexed.{Stands, keyed_stands, wordless_stands, before_or_last}
use Rattle.mau_chart.specs.declared.grammar.Production.{Production}
use Rattle.mau_parse.specs.Words.{text_at}
use Rattle.mau_parse.specs.Charted.{word_number, IsFormOf, IsThere, AreThere, HasForm, IsOneOf, AreFormsOf}
use Rattle.mau_parse.specs.Forms.{AllAreForms, HasFormAt, PutsForms, PutsForm}
use Rattle.mau_parse.proofs.Charted.{word_number-at}

-- ---- forms that are found by words

-- a production is found by the first i words: it has no word, or its key is one of them
abbrev pub IsFoundBy : List (List ℕ) → ℕ → Option (List ℕ) → Type 0
IsFoundBy ws i None = Unit {0}
IsFoundBy ws i (Some w) = word_number ws w < i

-- forms that are found by the first i words
pub record HasFormsTo (ws : List (List ℕ)) (ps : List Written) (i : ℕ) (qs : List Production) : Type 0 where
  pub right : AllAreForms ws ps qs
  pub all : (n : ℕ) → IsFoundBy ws i (key_at ps n) → HasFormAt ws ps qs n

-- ---- forms that are put behind others

-- what is there at a place stays there
kept_at : {A : Type 0} (xs ys : List A) (n : ℕ) (x : A) → slice_get xs n ≡ Some x → slice_get (xs ++ ys) n ≡ Some x
kept_at xs ys n x e = slice_get-front xs ys n (slice_get_within xs n x e) ∙ e

pub form_kept : (ws : List (List ℕ)) (old more : List Production) (p : Written) → HasForm ws old p → HasForm ws (old ++ more) p
form_kept ws old more p h = (h.0, h.1, kept_at old more h.0 h.1 h.2, h.3)

all_left : (ws : List (List ℕ)) (ps : List Written) → AllAreForms ws ps []
all_left ws ps n q e = absurd (none-some q e)

all_one : (ws : List (List ℕ)) (ps : List Written) (q : Production) → IsOneOf ws ps q → AllAreForms ws ps (q ∷ [])
all_one ws ps q h zero r e = subst (IsOneOf ws ps) (same_Some q r e) h
all_one ws ps q h (suc n) r e = absurd (none-some r e)

pub all_both : (ws : List (List ℕ)) (ps : List Written) (qs rs : List Production) → AllAreForms ws ps qs → AllAreForms ws ps rs → AllAreForms ws ps (qs ++ rs)
all_both ws ps [] rs a b n r e = b n r e
all_both ws ps (q ∷ qs) rs a b zero r e = a 0 r e
all_both ws ps (q ∷ qs) rs a b (suc n) r e = all_both ws ps qs rs (λ m x h. a (suc m) x h) b n r e

-- there is no such production
pub puts_none : (ws : List (List ℕ)) (ps : List Written) (n : ℕ) (old : List Production) → slice_get ps n ≡ None → PutsForm ws ps n old old
puts_none ws ps n old e = record {
  more = [];
  behind = sym (append-nil old);
  right = all_left ws ps;
  there = λ p h. absurd (none-some p (sym e ∙ h));
}

-- the text can't be read by it
pub puts_unread : (ws : List (List ℕ)) (ps : List Written) (n : ℕ) (old : List Production) (p : Written) → slice_get ps n ≡ Some p → (AreThere ws p.parts → ⊥) → PutsForm ws ps n old old
puts_unread ws ps n old p e unread = record {
  more = [];
  behind = sym (append-nil old);
  right = all_left ws ps;
  there = λ r h there. absurd (unread (subst (λ z. AreThere ws z.parts) (same_Some r p (sym h ∙ e)) there));
}

last_at : (old : List Production) (q : Production) → slice_get (old ++ q ∷ []) (length old) ≡ Some q
last_at [] q = refl
last_at (r ∷ old) q = last_at old q

-- its form is put
pub puts_one : (ws : List (List ℕ)) (ps : List Written) (n : ℕ) (old new : List Production) (p : Written) (q : Production) → slice_get ps n ≡ Some p → IsFormOf ws p q → new ≡ old ++ q ∷ [] → PutsForm ws ps n old new
puts_one ws ps n old new p q e form is = record {
  more = q ∷ [];
  behind = is;
  right = all_one ws ps q (n, p, e, form);
  there = λ r h there. (length old, q, ap (λ z. slice_get z (length old)) is ∙ last_at old q, subst (λ z. IsFormOf ws z q) (same_Some p r (sym e ∙ h)) form);
}

-- an element of a list with one more at its end
in_more : (ns : List ℕ) (n m k : ℕ) → slice_get (ns ++ n ∷ []) m ≡ Some k → (slice_get ns m ≡ Some k) ⊎ (n ≡ k)
in_more [] n zero k e = inr (one e)
  where
    one : Some n ≡ Some k → n ≡ k
    one q = cc
in_more [] n (suc m) k e = absurd (no e)
  where
    no : ◌≡◌ {A = Option ℕ} None (Some k) → ⊥
    no q = cc
in_more (x ∷ ns) n zero k e = inl e
in_more (x ∷ ns) n (suc m) k e = in_more ns n m k e

pub puts_more : (ws : List (List ℕ)) (ps : List Written) (ns : List ℕ) (n : ℕ) (old mid new : List Production) → PutsForms ws ps ns old mid → PutsForm ws ps n mid new → PutsForms ws ps (ns ++ n ∷ []) old new
puts_more ws ps ns n old mid new a b = record {
  more = a.more ++ b.more;
  behind = b.behind ∙ ap (λ z. z ++ b.more) a.behind ∙ append_assoc old a.more b.more;
  right = all_both ws ps a.more b.more a.right b.right;
  all = λ m k e. by m k (in_more ns n m k e);
}
  where
    by : (m k : ℕ) → (slice_get ns m ≡ Some k) ⊎ (n ≡ k) → HasFormAt ws ps new k
    by m k (inl h) p e there = subst (λ z. HasForm ws z p) (sym b.behind) (form_kept ws mid b.more p (a.all m k h p e there))
    by m k (inr q) p e there = subst (HasFormAt ws ps new) q b.there p e there

-- ---- productions that are found by the first words

-- a word with a number below that of the words is the one at its number
at_number : (ws : List (List ℕ)) (w : List ℕ) → word_number ws w < length ws → slice_get ws (word_number ws w) ≡ Some w
at_number [] w h = absurd (omega (arith, h))
at_number (v ∷ ws) w h = by (bytes_eq v w) refl (λ l. at_number ws w l) h
  where
    by : (b : Bool) → bytes_eq v w ≡ b → (word_number ws w < length ws → slice_get ws (word_number ws w) ≡ Some w)
        → (if b then 0 else word_number ws w + 1) < length (v ∷ ws) → slice_get (v ∷ ws) (if b then 0 else word_number ws w + 1) ≡ Some w
    by true e rest l = ap Some ((bytes_eq-Decides v w).0 e)
    by false e rest l = ap (slice_get (v ∷ ws)) (add-one (word_number ws w)) ∙ rest (omega (arith, l))

-- so it is the word at i, if this is its number
is_text : (ws : List (List ℕ)) (w : List ℕ) (i : ℕ) → i < length ws → word_number ws w ≡ i → text_at ws i ≡ w
is_text ws w i h e =
    let at : slice_get ws i ≡ Some w = subst (λ n. slice_get ws n ≡ Some w) e (at_number ws w (omega (arith, h, e))) in
    same_Some (text_at ws i) w (sym (slice_get-get_or ws i [] h) ∙ at)

-- a production whose number stands in a list that was put
stands_form : (ws : List (List ℕ)) (ps : List Written) (ns : List ℕ) (old new : List Production) (n : ℕ) → PutsForms ws ps ns old new → (n < length ps → Stands ns n) → HasFormAt ws ps new n
stands_form ws ps ns old new n puts stands p e there =
    let x = stands (slice_get_within ps n p e) in
    puts.all x.0 n x.1 p e there

-- at first those without words
pub forms_first : (ws : List (List ℕ)) (ps : List Written) (new : List Production) → PutsForms ws ps (wordless ps) [] new → HasFormsTo ws ps 0 new
forms_first ws ps new puts = record {
  right = subst (AllAreForms ws ps) (sym puts.behind) puts.right;
  all = λ n found. by n (key_at ps n) refl found;
}
  where
    by : (n : ℕ) (o : Option (List ℕ)) → key_at ps n ≡ o → IsFoundBy ws 0 o → HasFormAt ws ps new n
    by n None e found = stands_form ws ps (wordless ps) [] new n puts (λ h. wordless_stands ps n h e)
    by n (Some w) e found = absurd (omega (arith, found))

-- a word that stood before
pub forms_again : (ws : List (List ℕ)) (ps : List Written) (i j : ℕ) (qs : List Production) → i < length ws → j ≡ i + 1 → word_number ws (text_at ws i) ≢ i → HasFormsTo ws ps i qs → HasFormsTo ws ps j qs
forms_again ws ps i j qs h ej other to = record {
  right = to.right;
  all = λ n found. to.all n (by (key_at ps n) found);
}
  where
    below : (w : List ℕ) → (word_number ws w < i) ⊎ (word_number ws w ≡ i) → word_number ws w < i
    below w (inl l) = l
    below w (inr e) = absurd (other (ap (word_number ws) (is_text ws w i h e) ∙ e))

    by : (o : Option (List ℕ)) → IsFoundBy ws j o → IsFoundBy ws i o
    by None found = tt
    by (Some w) found = below w (before_or_last (word_number ws w) i (omega (arith, found, ej)))

-- one that is new
pub forms_new : (ws : List (List ℕ)) (ps : List Written) (i j : ℕ) (old new : List Production) → i < length ws → j ≡ i + 1 → PutsForms ws ps (keyed ps (text_at ws i)) old new → HasFormsTo ws ps i old → HasFormsTo ws ps j new
forms_new ws ps i j old new h ej puts to = record {
  right = subst (AllAreForms ws ps) (sym puts.behind) (all_both ws ps old puts.more to.right puts.right);
  all = λ n found. by n (key_at ps n) refl found;
}
  where
    kept : (n : ℕ) → IsFoundBy ws i (key_at ps n) → HasFormAt ws ps new n
    kept n found p e there = subst (λ z. HasForm ws z p) (sym puts.behind) (form_kept ws old puts.more p (to.all n found p e there))

    word : (n : ℕ) (w : List ℕ) → key_at ps n ≡ Some w → (word_number ws w < i) ⊎ (word_number ws w ≡ i) → HasFormAt ws ps new n
    word n w e (inl l) = kept n (subst (IsFoundBy ws i) (sym e) l)
    word n w e (inr q) = stands_form ws ps (keyed ps (text_at ws i)) old new n puts (λ b. keyed_stands ps (text_at ws i) n b (e ∙ ap Some (sym (is_text ws w i h q))))

    by : (n : ℕ) (o : Option (List ℕ)) → key_at ps n ≡ o → IsFoundBy ws j o → HasFormAt ws ps new n
    by n None e found = kept n (subst (IsFoundBy ws i) (sym e) tt)
    by n (Some w) e found = word n w e (before_or_last (word_number ws w) i (omega (arith, found, ej)))

-- ---- all of them

-- a key is one of the words of its production
plain_there : (ws : List (List ℕ)) (parts : List Part) (w : List ℕ) → first_plain parts ≡ Some w → AreThere ws parts → IsThere ws (Word w)
plain_there ws [] w e there = absurd (none-some w e)
plain_there ws (Place h ∷ parts) w e there = plain_there ws parts w e there.1
plain_there ws (Word v ∷ parts) w e there = by (is_special v) (λ q. plain_there ws parts w q there.1) e
  where
    by : (b : Bool) → (first_plain parts ≡ Some w → IsThere ws (Word w)) → (if b then first_plain parts else Some v) ≡ Some w → IsThere ws (Word w)
    by true rest q = rest q
    by false rest q = subst (λ z. IsThere ws (Word z)) (same_Some v w q) there.0

word_there : (ws : List (List ℕ)) (parts : List Part) (w : List ℕ) → first_word parts ≡ Some w → AreThere ws parts → IsThere ws (Word w)
word_there ws [] w e there = absurd (none-some w e)
word_there ws (Place h ∷ parts) w e there = word_there ws parts w e there.1
word_there ws (Word v ∷ parts) w e there = subst (λ z. IsThere ws (Word z)) (same_Some v w e) there.0

key_there : (ws : List (List ℕ)) (parts : List Part) (w : List ℕ) → key_of parts ≡ Some w → AreThere ws parts → IsThere ws (Word w)
key_there ws parts w e there = by (first_plain parts) refl e
  where
    by : (o : Option (List ℕ)) → first_plain parts ≡ o → or_else o (first_word parts) ≡ Some w → IsThere ws (Word w)
    by None q r = word_there ws parts w r there
    by (Some v) q r = plain_there ws parts w (q ∙ r) there

pub forms_found : (ws : List (List ℕ)) (ps : List Written) (n : ℕ) (qs : List Production) → length ws ≤ n → HasFormsTo ws ps n qs → AreFormsOf ws ps qs
forms_found ws ps n qs h to = record {
  right = to.right;
  all = λ k p e there. to.all k (found k p e there (key_at ps k) refl) p e there;
}
  where
    key_is : (k : ℕ) (p : Written) → slice_get ps k ≡ Some p → key_at ps k ≡ key_of p.parts
    key_is k p e = ap (λ o. option_map_or (λ x. key_of x.parts) o None) e

    found : (k : ℕ) (p : Written) → slice_get ps k ≡ Some p → AreThere ws p.parts → (o : Option (List ℕ)) → key_at ps k ≡ o → IsFoundBy ws n o
    found k p e there None q = tt
    found k p e there (Some w) q =
        let x = key_there ws p.parts w (sym (key_is k p e) ∙ q) there in
        omega (arith, h, slice_get_within ws (word_number ws w) w (word_number-at ws x.0 w x.1))

-- a word that has no number isn't there
pub not_there : (ws : List (List ℕ)) (w : List ℕ) → word_number ws w ≡ length ws → IsThere ws (Word w) → ⊥
not_there ws w e there = omega (arith, e, slice_get_within ws (word_number ws w) w (word_number-at ws there.0 w there.1))

-- a part of a production of which the parts from its place on are there
pub part_there : (ws : List (List ℕ)) (parts : List Part) (i : ℕ) (part : Part) → i < length parts → part ≡ get_or parts i part → AreThere ws (drop i parts) → IsThere ws part
part_there ws [] i part h e there = absurd (omega (arith, h))
part_there ws (x ∷ parts) zero part h e there = subst (IsThere ws) (sym e) there.0
part_there ws (x ∷ parts) (suc i) part h e there = part_there ws parts i part (omega (arith, h)) e there
