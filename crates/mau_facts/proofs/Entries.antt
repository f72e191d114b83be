-- A line is read as an entry exactly where its words are those of the entry's fields.
use Rattle.std.proofs.Common.{◌≡◌, ℕ, ◌+◌, List, [], ◌∷◌, Option, Some, None, Ok, codes, false, refl, subst}
use Rattle.std.proofs.lemmas.Bool.{and_parts, eqb-true}
use Rattle.mau_facts.specs.declared.document.Section.{Section}
use Rattle.mau_facts.specs.declared.document.Fact.{Fact as FactOf}
use Rattle.mau_facts.specs.declared.fields.Range.TheVariants.{Small}
use Rattle.mau_facts.specs.declared.entry.Entry.{Entry}
use Rattle.mau_facts.specs.declared.entry.Entry.TheVariants.{Begin, Term, Fact, End}
use Rattle.mau_facts.specs.Fields.{word, number, IsWordOf, AreWordsOf}
use Rattle.mau_facts.specs.Lines.{entry_fields, MayFollow}
use Rattle.mau_facts.specs.FactReading.{entry_at, size_at, limits_of}
use Rattle.mau_facts.specs.Fronts.{limits_at, place_of, terms_so_far, facts_so_far}
use Rattle.mau_facts.proofs.FieldsRead.{IsPlaced, entry_reads, size_reads}
use Rattle.mau_facts.proofs.FieldsAgain.{entry_again, size_again}
use Rattle.mau_facts.proofs.Strict.{are_words_of, are_read}

-- an entry may follow exactly where it has its place
pub follows : (x : Option Section) (e : Entry) → IsPlaced (place_of x) e → MayFollow x e
follows None (Begin k m) h = tt
follows None (Term t) h = absurd h
follows None (Fact f) h = absurd h
follows None End h = absurd h
follows (Some x) e h = by x.facts e h
  where
    by : (fs : List FactOf) (e : Entry) → IsPlaced (place_of (Some (record x { facts = fs }))) e → MayFollow (Some (record x { facts = fs })) e
    by [] (Begin k m) h = absurd h
    by [] (Term t) h = refl
    by [] (Fact f) h = h
    by [] End h = tt
    by (g ∷ gs) (Begin k m) h = absurd h
    by (g ∷ gs) (Term t) h = absurd h
    by (g ∷ gs) (Fact f) h = h
    by (g ∷ gs) End h = tt

pub placed : (x : Option Section) (e : Entry) → MayFollow x e → IsPlaced (place_of x) e
placed None (Begin k m) h = tt
placed None (Term t) h = absurd h
placed None (Fact f) h = absurd h
placed None End h = absurd h
placed (Some x) e h = by x.facts e h
  where
    by : (fs : List FactOf) (e : Entry) → MayFollow (Some (record x { facts = fs })) e → IsPlaced (place_of (Some (record x { facts = fs }))) e
    by [] (Begin k m) h = absurd h
    by [] (Term t) h = tt
    by [] (Fact f) h = h
    by [] End h = tt
    by (g ∷ gs) (Begin k m) h = absurd h
    by (g ∷ gs) (Term t) h = absurd (some h)
      where
        some : g ∷ gs ≡ [] → ⊥
        some e = cc
    by (g ∷ gs) (Fact f) h = h
    by (g ∷ gs) End h = tt

-- the number that a term or a fact has next
abbrev pub next_number : ℕ → ℕ → Entry → ℕ
next_number terms facts (Begin k m) = 0
next_number terms facts (Term t) = terms + 1
next_number terms facts (Fact f) = facts + 1
next_number terms facts End = 0

-- an entry's own number is the next
numbered : (terms facts i : ℕ) (e : Entry) (ws : List (List ℕ)) → AreWordsOf (IsWordOf terms facts) (entry_fields i e) ws → AreWordsOf (IsWordOf terms facts) (entry_fields (next_number terms facts e) e) ws
numbered terms facts i (Begin k m) ws h = h
numbered terms facts i End ws h = h
numbered terms facts i (Term t) [] h = h
numbered terms facts i (Term t) (w ∷ []) h = h
numbered terms facts i (Term t) (w ∷ v ∷ ws) h = subst (λ n. AreWordsOf (IsWordOf terms facts) (entry_fields n (Term t)) (w ∷ v ∷ ws)) (eqb-true i (terms + 1) (and_parts _ _ h.1.0.1).1) h
numbered terms facts i (Fact f) [] h = h
numbered terms facts i (Fact f) (w ∷ []) h = h
numbered terms facts i (Fact f) (w ∷ v ∷ ws) h = subst (λ n. AreWordsOf (IsWordOf terms facts) (entry_fields n (Fact f)) (w ∷ v ∷ ws)) (eqb-true i (facts + 1) (and_parts _ _ h.1.0.1).1) h

pub entry_found : (x : Option Section) (ws : List (List ℕ)) (e : Entry) → entry_at (limits_at false x) (place_of x) ws ≡ Ok e
    → AreWordsOf (IsWordOf (terms_so_far x) (facts_so_far x)) (entry_fields (next_number (terms_so_far x) (facts_so_far x) e) e) ws × MayFollow x e
entry_found x ws e r =
    let h = (entry_reads (limits_at false x) (place_of x) ws).at e r in
    (numbered (terms_so_far x) (facts_so_far x) h.0 e ws (are_words_of (limits_at false x) refl (entry_fields h.0 e) ws h.1), follows x e h.2)

pub entry_only : (x : Option Section) (i : ℕ) (ws : List (List ℕ)) (e : Entry) → AreWordsOf (IsWordOf (terms_so_far x) (facts_so_far x)) (entry_fields i e) ws → MayFollow x e
    → entry_at (limits_at false x) (place_of x) ws ≡ Ok e
entry_only x i ws e h f = entry_again (limits_at false x) (place_of x) i e ws (placed x e f) (record { read = are_read (limits_at false x) refl (entry_fields i e) ws h })

pub size_found : (ws : List (List ℕ)) (n : ℕ) → size_at (limits_of false 0 0) ws ≡ Ok n → AreWordsOf (IsWordOf 0 0) (word (codes "text") ∷ number Small n ∷ []) ws
size_found ws n r = are_words_of (limits_of false 0 0) refl (word (codes "text") ∷ number Small n ∷ []) ws ((size_reads (limits_of false 0 0) ws).at n r)

pub size_only : (ws : List (List ℕ)) (n : ℕ) → AreWordsOf (IsWordOf 0 0) (word (codes "text") ∷ number Small n ∷ []) ws → size_at (limits_of false 0 0) ws ≡ Ok n
size_only ws n h = size_again (limits_of false 0 0) n ws (record { read = are_read (limits_of false 0 0) refl (word (codes "text") ∷ number Small n ∷ []) ws h })
