-- The tokens of a text that is made of words are these words.
use Rattle.std.proofs.Common.{◌≡◌, ℕ, ◌+◌, ◌-◌, ◌<◌, ◌≤◌, ◌⊎◌, inl, inr, List, [], ◌∷◌, ◌++◌, true, false, not, ◌||◌, Ok, length, take, drop, codes, bytes_eq, refl, sym, ap, ap₂, ◌∙◌, subst, append_assoc, arith, eq-eqb, length-append}
use Rattle.std.specs.Prelude.{slice_range}
use Rattle.std.proofs.lemmas.Bool.{false≢true, and_from, or_cases, or_left, or_right, ne_eqb}
use Rattle.std.proofs.lemmas.List.{append-nil, get_or-append-add, get_or_append_left}
use Rattle.std.proofs.lemmas.Slice.Eq.{bytes_eq-Decides}
use Rattle.std.proofs.Math.Seq.{drop-append_seam, take-append_seam}
use Rattle.mau_tokens.specs.declared.token.Token.{Token}
use Rattle.mau_tokens.specs.Lexeme.{Lexeme, separator, special, word, is_token, is_separator, is_special as is_special_byte, is_comment_sign, byte_at, lexeme_of, lexeme_at}
use Rattle.mau_tokens.specs.Ending.{parts_word, may_end, least_size, IsPiece}
use Rattle.mau_tokens.specs.TokensOf.{TokensFrom, text_ends, passes, takes}
use Rattle.mau_grammar.specs.Parts.{is_special}
use Rattle.mau_parse.specs.Words.{texts_of}
use Rattle.mau_print.proofs.PlainWords.{IsNoSign, IsWhole, whole_of, begins_again, sign_back}
use Rattle.mau_print.proofs.Joined.{IsJoined, no_words, after_space, mark_first, plain_first, is_end}

-- ---- special characters

-- a byte that is a token
pub record IsMark (w : List ℕ) : Type 0 where
  pub byte : ℕ
  pub only : w ≡ byte ∷ []
  pub begins : (b c d : ℕ) → lexeme_of byte b c d ≡ special

pub mark_of : (w : List ℕ) → is_special w ≡ true → IsMark w
mark_of w e = first (or_cases (bytes_eq w (codes "(")) _ e)
  where
    same : (v : List ℕ) → bytes_eq w v ≡ true → w ≡ v
    same v h = (bytes_eq-Decides w v).0 h

    seventh : (bytes_eq w (codes ",") ≡ true) ⊎ (false ≡ true) → IsMark w
    seventh (inl h) = record { byte = 44; only = same (codes ",") h; begins = λ b c d. refl }
    seventh (inr h) = absurd (false≢true h)

    sixth : (bytes_eq w (codes "}") ≡ true) ⊎ ((bytes_eq w (codes ",") || false) ≡ true) → IsMark w
    sixth (inl h) = record { byte = 125; only = same (codes "}") h; begins = λ b c d. refl }
    sixth (inr h) = seventh (or_cases (bytes_eq w (codes ",")) false h)

    fifth : (bytes_eq w (codes "{") ≡ true) ⊎ ((bytes_eq w (codes "}") || (bytes_eq w (codes ",") || false)) ≡ true) → IsMark w
    fifth (inl h) = record { byte = 123; only = same (codes "{") h; begins = λ b c d. refl }
    fifth (inr h) = sixth (or_cases (bytes_eq w (codes "}")) _ h)

    fourth : (bytes_eq w (codes "]") ≡ true) ⊎ ((bytes_eq w (codes "{") || (bytes_eq w (codes "}") || (bytes_eq w (codes ",") || false))) ≡ true) → IsMark w
    fourth (inl h) = record { byte = 93; only = same (codes "]") h; begins = λ b c d. refl }
    fourth (inr h) = fifth (or_cases (bytes_eq w (codes "{")) _ h)

    third : (bytes_eq w (codes "[") ≡ true) ⊎ ((bytes_eq w (codes "]") || (bytes_eq w (codes "{") || (bytes_eq w (codes "}") || (bytes_eq w (codes ",") || false)))) ≡ true) → IsMark w
    third (inl h) = record { byte = 91; only = same (codes "[") h; begins = λ b c d. refl }
    third (inr h) = fourth (or_cases (bytes_eq w (codes "]")) _ h)

    second : (bytes_eq w (codes ")") ≡ true) ⊎ ((bytes_eq w (codes "[") || (bytes_eq w (codes "]") || (bytes_eq w (codes "{") || (bytes_eq w (codes "}") || (bytes_eq w (codes ",") || false))))) ≡ true) → IsMark w
    second (inl h) = record { byte = 41; only = same (codes ")") h; begins = λ b c d. refl }
    second (inr h) = third (or_cases (bytes_eq w (codes "[")) _ h)

    first : (bytes_eq w (codes "(") ≡ true) ⊎ ((bytes_eq w (codes ")") || (bytes_eq w (codes "[") || (bytes_eq w (codes "]") || (bytes_eq w (codes "{") || (bytes_eq w (codes "}") || (bytes_eq w (codes ",") || false)))))) ≡ true) → IsMark w
    first (inl h) = record { byte = 40; only = same (codes "(") h; begins = λ b c d. refl }
    first (inr h) = second (or_cases (bytes_eq w (codes ")")) _ h)

-- ---- pieces behind some bytes

byte_behind : (front xs : List ℕ) (k : ℕ) → byte_at (front ++ xs) (length front + k) ≡ byte_at xs k
byte_behind front xs k = get_or-append-add front xs k 0

lexeme_behind : (front xs : List ℕ) → lexeme_at (front ++ xs) (length front) ≡ lexeme_of (byte_at xs 0) (byte_at xs 1) (byte_at xs 2) (byte_at xs 3)
lexeme_behind front xs =
    let bs = front ++ xs in
    let i = length front in
    let zeroth : byte_at bs i ≡ byte_at xs 0 = (let e : i ≡ i + 0 = omega arith in ap (byte_at bs) e) ∙ byte_behind front xs 0 in
    ap₂ (λ a b. lexeme_of a b (byte_at bs (i + 2)) (byte_at bs (i + 3))) zeroth (byte_behind front xs 1)
    ∙ ap₂ (λ a b. lexeme_of (byte_at xs 0) (byte_at xs 1) a b) (byte_behind front xs 2) (byte_behind front xs 3)

piece_of_mark : (front : List ℕ) (b : ℕ) (bs : List ℕ) (l : Lexeme) → least_size l ≡ 1 → ((e : ℕ) → may_end (front ++ b ∷ bs) l (length front) e ≡ true) → lexeme_at (front ++ b ∷ bs) (length front) ≡ l
    → IsPiece (front ++ b ∷ bs) l (length front) (length front + 1)
piece_of_mark front b bs l size ends begins = record {
  there = omega (arith, length-append front (b ∷ bs));
  begins = begins;
  least = omega (arith, size);
  within = omega (arith, length-append front (b ∷ bs));
  ends = ends (length front + 1);
  first = λ m low high. absurd (omega (arith, low, high, size));
}

-- ---- plain words

stops : (bs : List ℕ) → is_end bs ≡ true → IsNoSign (byte_at bs 0)
stops [] e = ((λ h. absurd (omega (arith, h))), (λ h. absurd (omega (arith, h))))
stops (b ∷ bs) e =
    ((λ h. false≢true (sym (ap (λ c. is_separator c || is_special_byte c) h) ∙ e)), (λ h. false≢true (sym (ap (λ c. is_separator c || is_special_byte c) h) ∙ e)))

module _ (front w bs : List ℕ) (p : IsWhole w) (end : is_end bs ≡ true) where
  abbrev all : List ℕ
  all = front ++ (w ++ bs)

  abbrev i : ℕ
  i = length front

  size : length (front ++ (w ++ bs)) ≡ length front + (length w + length bs)
  size = omega (arith, length-append front (w ++ bs), length-append w bs)

  own : (k : ℕ) → k < length w → byte_at (w ++ bs) k ≡ byte_at w k
  own k low = get_or_append_left w bs 0 k low

  next : byte_at (w ++ bs) (length w) ≡ byte_at bs 0
  next = (let e : length w ≡ length w + 0 = omega arith in ap (byte_at (w ++ bs)) e) ∙ byte_behind w bs 0

  word_begins : lexeme_at (front ++ (w ++ bs)) (length front) ≡ word
  word_begins =
      let x = w ++ bs in
      let stop : IsNoSign (byte_at x (length w)) = subst IsNoSign (sym next) (stops bs end) in
      lexeme_behind front x
      ∙ ap (λ c. lexeme_of c (byte_at x 1) (byte_at x 2) (byte_at x 3)) (own 0 p.some)
      ∙ begins_again (byte_at w 0) (byte_at w 1) (byte_at w 2) (byte_at w 3) (byte_at x 1) (byte_at x 2) (byte_at x 3) p.begins
      (λ e. sign_back w x (length w) p.some own stop (ap (λ c. is_comment_sign c (byte_at x 1) (byte_at x 2)) (own 0 p.some) ∙ e))

  word_ends : may_end (front ++ (w ++ bs)) word (length front) (length front + length w) ≡ true
  word_ends = by bs refl
    where
      last : byte_at (front ++ (w ++ bs)) (length front + length w - 1) ≡ byte_at w (length w - 1)
      last =
          (let e : length front + length w - 1 ≡ length front + (length w - 1) = omega (arith, p.some) in ap (byte_at (front ++ (w ++ bs))) e)
          ∙ byte_behind front (w ++ bs) (length w - 1)
          ∙ own (length w - 1) (omega (arith, p.some))

      parted : (c : ℕ) → (is_separator c || is_special_byte c) ≡ true → parts_word (byte_at w (length w - 1)) c ≡ true
      parted c e = elim (or_cases (is_separator c) (is_special_byte c) e) [
        | inl s ↦ or_left _ _ s
        | inr s ↦ or_right _ _ (and_from _ _ s (ap not (ne_eqb (byte_at w (length w - 1)) 96 p.last)))
      ]

      by : (cs : List ℕ) → bs ≡ cs → may_end (front ++ (w ++ bs)) word (length front) (length front + length w) ≡ true
      by [] e = or_left _ _ (eq-eqb (length front + length w) _ (omega (arith, size, ap length e)))
      by (c ∷ cs) e =
          let after : byte_at (front ++ (w ++ bs)) (length front + length w) ≡ c = byte_behind front (w ++ bs) (length w) ∙ next ∙ ap (λ ds. byte_at ds 0) e in
          or_right _ _ (ap₂ parts_word last after ∙ parted c (sym (ap is_end e) ∙ end))

  word_first : (m : ℕ) → length front + 1 ≤ m → m < length front + length w → may_end (front ++ (w ++ bs)) word (length front) m ≡ false
  word_first m low high =
      let k = m - length front in
      let at : m ≡ length front + k = omega arith in
      let before : m - 1 ≡ length front + (k - 1) = omega arith in
      ap₂ (λ a b. a || b) (ne_eqb m (length (front ++ (w ++ bs))) (λ e. absurd (omega (arith, e, size, high))))
      (ap₂ parts_word (ap (byte_at (front ++ (w ++ bs))) before ∙ byte_behind front (w ++ bs) (k - 1) ∙ own (k - 1) (omega arith)) (ap (byte_at (front ++ (w ++ bs))) at ∙ byte_behind front (w ++ bs) k ∙ own k (omega arith))
      ∙ p.inner k (omega arith) (omega arith))

  piece_of_word : IsPiece (front ++ (w ++ bs)) word (length front) (length front + length w)
  piece_of_word = record {
    there = omega (arith, size, p.some);
    begins = word_begins;
    least = omega (arith, p.some);
    within = omega (arith, size);
    ends = word_ends;
    first = word_first;
  }

-- ---- all

-- from i on the text is cut into these words
pub record IsCut (limit : ℕ) (bs : List ℕ) (i : ℕ) (ws : List (List ℕ)) : Type 0 where
  pub tokens : List Token
  pub cut : TokensFrom limit bs i (Ok tokens)
  pub texts : texts_of bs tokens ≡ ws

slice_is : (front w bs : List ℕ) → slice_range (front ++ (w ++ bs)) (length front) (length front + length w) ≡ w
slice_is front w bs =
    let size : length front + length w - length front ≡ length w = omega arith in
    ap (λ n. take n (drop (length front) (front ++ (w ++ bs)))) size
    ∙ ap (take (length w)) (drop-append_seam front (w ++ bs))
    ∙ take-append_seam w bs

-- one token more
with_word : (limit : ℕ) (front w bs : List ℕ) (ws : List (List ℕ)) (l : Lexeme) → is_token l ≡ true → length (front ++ (w ++ bs)) ≤ limit → IsPiece (front ++ (w ++ bs)) l (length front) (length front + length w)
    → IsCut limit ((front ++ w) ++ bs) (length (front ++ w)) ws → IsCut limit (front ++ (w ++ bs)) (length front) (w ∷ ws)
with_word limit front w bs ws l token fits piece rest =
    let i = length front in
    let e = length front + length w in
    let same : IsCut limit (front ++ (w ++ bs)) e ws =
    subst (λ n. IsCut limit (front ++ (w ++ bs)) n ws) (length-append front w) (subst (λ cs. IsCut limit cs (length (front ++ w)) ws) (append_assoc front w bs) rest) in
    record {
      tokens = record { start = i; end = e } ∷ same.tokens;
      cut = takes l i e (Ok same.tokens) token piece (omega (arith, fits, piece.within)) same.cut;
      texts = ap₂ (λ v vs. v ∷ vs) (slice_is front w bs) same.texts;
    }

pub cut_from : (limit : ℕ) (ws : List (List ℕ)) (bs : List ℕ) → IsJoined ws bs → (front : List ℕ) → length (front ++ bs) ≤ limit → IsCut limit (front ++ bs) (length front) ws
cut_from limit ws bs no_words front fits = record { tokens = []; cut = text_ends (length front) (sym (ap length (append-nil front))); texts = refl }
cut_from limit ws bs (after_space {ws = us} {bs = cs} r) front fits =
    let i = length front in
    let whole = front ++ 32 ∷ cs in
    let rest = cut_from limit us cs r (front ++ 32 ∷ []) (omega (arith, fits, ap length (append_assoc front (32 ∷ []) cs))) in
    let same : IsCut limit whole (i + 1) us =
    subst (λ n. IsCut limit whole n us) (length-append front (32 ∷ [])) (subst (λ ds. IsCut limit ds (length (front ++ 32 ∷ [])) us) (append_assoc front (32 ∷ []) cs) rest) in
    let piece = piece_of_mark front 32 cs separator refl (λ e. refl) (lexeme_behind front (32 ∷ cs)) in
    record { tokens = same.tokens; cut = passes separator i (i + 1) (Ok same.tokens) refl piece same.cut; texts = same.texts }
cut_from limit ws bs (mark_first {ws = us} {bs = cs} w s r) front fits =
    let m = mark_of w s in
    let rest = cut_from limit us cs r (front ++ w) (omega (arith, fits, ap length (append_assoc front w cs))) in
    let own : IsPiece (front ++ ((m.byte ∷ []) ++ cs)) special (length front) (length front + length (m.byte ∷ [])) =
    piece_of_mark front m.byte cs special refl (λ e. refl) (lexeme_behind front (m.byte ∷ cs) ∙ m.begins _ _ _) in
    with_word limit front w cs us special refl fits (subst (λ v. IsPiece (front ++ (v ++ cs)) special (length front) (length front + length v)) (sym m.only) own) rest
cut_from limit ws bs (plain_first {ws = us} {bs = cs} w p e r) front fits =
    with_word limit front w cs us word refl fits (piece_of_word front w cs (whole_of w p) e)
    (cut_from limit us cs r (front ++ w) (omega (arith, fits, ap length (append_assoc front w cs))))
