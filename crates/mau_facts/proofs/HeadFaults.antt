-- Faults of the first two lines, and of the text.
use Rattle.std.proofs.Common.{◌≡◌, ◌≢◌, ◌⊎◌, inl, inr, ◌≤◌, ◌<◌, ◌^◌, ℕ, suc, ◌+◌, ◌-◌, ◌==◌, List, [], ◌∷◌, ◌++◌, Bool, true, false, cond, length, take, drop, get_or, replicate, min, Ok, codes, decimal, refl, sym, ap, ◌∙◌, subst, append_assoc, arith, drop-cons}
use Rattle.std.specs.List.{count_by}
use Rattle.std.proofs.lemmas.List.{append_cancel_left, length-append, length-take-le, length-replicate, take_at, take_all, take-append-drop, get_or_at}
use Rattle.std.proofs.lemmas.List.Elements.{All-nil}
use Rattle.std.proofs.lemmas.Bool.{cases_lt, eqb-true}
use Rattle.mau_facts.specs.declared.fault.LineFault.{LineFault}
use Rattle.mau_facts.specs.declared.fault.LineFault.TheVariants.{Unexpected, BadNumber}
use Rattle.mau_facts.specs.declared.document.Document.{Document}
use Rattle.mau_facts.specs.Fields.{Field, AreWordsOf, IsLikeWordOf}
use Rattle.mau_facts.specs.Documents.{words, joined, head, IsDocument}
use Rattle.mau_facts.specs.Faults.{first_lines, CanBegin, IsFirstFault, IsTextLine, IsSectionLine, IsNumberAtFault, IsFault}
use Rattle.mau_facts.specs.declared.fault.FactFault.TheVariants as faults
use Rattle.mau_facts.specs.FactReading.{size_at, limits_of}
use Rattle.mau_facts.specs.FaultLines.{fault_at}
use Rattle.mau_facts.specs.Fronts.{opening, IsBadTextLine, IsTextLineFault}
use Rattle.mau_facts.specs.declared.fault.LineError.TheVariants as errors
use Rattle.mau_facts.proofs.Likes.{some_like_size, like_size}
use Rattle.mau_facts.proofs.Feeds.{IsOne, feeds, feeds_are, feeds_append, one_feeds, feed_there, same_line, same_front, no_lines, one_more, lines_upto, lines_over, after_lines, shared, shared_all, both_begin, Tail, tail_of}
use Rattle.mau_facts.proofs.Openings.{text_line, text_line_one, text_line_read, lead, opening_is, opening_front, opening_injective, opening_feeds, head_opens, document, document_of}
use Rattle.mau_facts.proofs.SectionFaults.{head_feeds, is_err_no, value_of_ok}

abbrev first : List ℕ
first = codes "mrew-facts 1"

-- a document of no section
empty : (text : List ℕ) → length text < 2 ^ 32 → IsDocument (head text ++ []) (document text [])
empty text h = document_of text [] [] h (All-nil _) refl

-- a document begins with the two lines, and goes on with its text
opens : (bytes : List ℕ) (d : Document) (h : IsDocument bytes d) → bytes ≡ opening (length d.text) (d.text ++ 10 ∷ joined h.lines)
opens bytes d h = h.whole ∙ head_opens d.text (joined h.lines)

-- a line of a section has two lines or more before it
section_line_feeds : (before : List ℕ) (fields : List Field) → IsSectionLine before fields → 2 ≤ feeds before
section_line_feeds before fields s =
    let a = ap feeds s.is_before ∙ feeds_append (head s.text) (joined s.lines) in
    let b = head_feeds s.text s.size in
    omega (arith, a, b)

text_line_feeds : (before : List ℕ) (fields : List Field) → IsTextLine before fields → feeds before ≡ 1
text_line_feeds before fields t = ap feeds t.is_before

-- ---- the first line

module _ (bytes : List ℕ) (other_first : (rest : List ℕ) → bytes ≡ first ++ 10 ∷ rest → ⊥) where
  first_none : CanBegin bytes 1 → ⊥
  first_none c =
      let o = opens c.other c.document c.is_document in
      let l : first_lines 1 bytes ≡ first ++ 10 ∷ [] = sym c.agrees ∙ ap (first_lines 1) (o ∙ opening_is (length c.document.text) (c.document.text ++ 10 ∷ joined c.is_document.lines)) ∙ lines_upto first (text_line (length c.document.text) ++ 10 ∷ (c.document.text ++ 10 ∷ joined c.is_document.lines)) in
      let t = after_lines 1 bytes in
      other_first t.0 (t.1 ∙ ap (λ x. x ++ t.0) l ∙ append_assoc first (10 ∷ []) t.0)

  pub first_fault : IsFault bytes (faults.Unexpected 1)
  first_fault = (
    record {
      above = omega arith;
      before = record { other = head [] ++ []; document = document [] []; is_document = empty [] (omega arith); agrees = no_lines (head [] ++ []) ∙ sym (no_lines bytes) };
      none = first_none;
    },
    λ q. by q,
  )
    where
      by : IsNumberAtFault bytes 1 → ⊥
      by q =
          let a = feeds_are q.before in
          let b = q.count in
          elim q.may_stand [
            | inl t ↦ (let f = text_line_feeds q.before q.fields t in absurd (omega (arith, a, b, f)))
            | inr s ↦ (let f = section_line_feeds q.before q.fields s in absurd (omega (arith, a, b, f)))
          ]

-- ---- the second line

module _ (bytes behind : List ℕ) (whole : bytes ≡ first ++ 10 ∷ behind) where
  one_line_before : CanBegin bytes 1
  one_line_before = record {
    other = head [] ++ [];
    document = document [] [];
    is_document = empty [] (omega arith);
    agrees = ap (first_lines 1) (head_opens [] []) ∙ both_begin first (codes "text " ++ (decimal 0 ++ 10 ∷ (10 ∷ []))) behind 1 refl ∙ ap (first_lines 1) (sym whole);
  }

  second_first : (CanBegin bytes 2 → ⊥) → IsFirstFault bytes 2
  second_first none = record { above = omega arith; before = one_line_before; none = none }

  second_behind : (other : List ℕ) (d : Document) (h : IsDocument other d) (t : List ℕ) → other ≡ first ++ 10 ∷ t → t ≡ text_line (length d.text) ++ 10 ∷ (d.text ++ 10 ∷ joined h.lines)
  second_behind other d h t e = append_cancel_left (first ++ 10 ∷ []) t _ (sym e ∙ opens other d h ∙ opening_is (length d.text) (d.text ++ 10 ∷ joined h.lines))

  -- ---- a bad line

  module _ (fault : LineFault) (bad : IsBadTextLine behind fault) where
    bad_second : CanBegin bytes 2 → ⊥
    bad_second c =
        let split : bytes ≡ (first ++ 10 ∷ bad.line) ++ 10 ∷ bad.after = whole ∙ ap (λ x. first ++ 10 ∷ x) bad.split in
        let s = shared c.other (first ++ 10 ∷ bad.line) bad.after 2 (ap (λ n. 1 + n + 1) (sym (one_feeds bad.line bad.one_line))) (c.agrees ∙ ap (first_lines 2) split) in
        let t = second_behind c.other c.document c.is_document (bad.line ++ 10 ∷ s.0) s.1 in
        let l = same_line bad.line (text_line (length c.document.text)) s.0 (c.document.text ++ 10 ∷ joined c.is_document.lines) bad.one_line (text_line_one (length c.document.text) c.is_document.size) t in
        is_err_no _ (length c.document.text) bad.strict (ap (λ b. size_at (limits_of false 0 0) (words b)) l.0 ∙ text_line_read (length c.document.text) c.is_document.size)

    bad_number : (n : ℕ) → size_at (limits_of true 0 0) (words bad.line) ≡ Ok n → IsNumberAtFault bytes 2
    bad_number n r = record {
      before = first ++ 10 ∷ [];
      line = bad.line;
      rest = bad.after;
      at = whole ∙ ap (λ x. first ++ 10 ∷ x) bad.split;
      count = refl;
      one_line = bad.one_line;
      fields = _;
      may_stand = inl (record { is_before = refl; size = n; is_fields = refl });
      like = some_like_size (limits_of true 0 0) (words bad.line) n r;
    }

  -- no line that is like the second stands there
  abbrev IsUnlike : Type 0
  IsUnlike = (line after : List ℕ) (n : ℕ) → behind ≡ line ++ 10 ∷ after → IsOne line → size_at (limits_of true 0 0) (words line) ≡ Ok n → ⊥

  no_number : IsUnlike → IsNumberAtFault bytes 2 → ⊥
  no_number none q =
      let a = feeds_are q.before in
      let b = q.count in
      elim q.may_stand [
        | inl t ↦ none q.line q.rest 0 (append_cancel_left (first ++ 10 ∷ []) behind (q.line ++ 10 ∷ q.rest) (sym whole ∙ q.at ∙ ap (λ x. x ++ (q.line ++ 10 ∷ q.rest)) t.is_before)) q.one_line
            (like_size (limits_of true 0 0) refl t.size (words q.line) (subst (λ fs. AreWordsOf IsLikeWordOf fs (words q.line)) t.is_fields q.like))
        | inr s ↦ (let f = section_line_feeds q.before q.fields s in absurd (omega (arith, a, b, f)))
      ]

  bad_unlike : (bad : IsBadTextLine behind Unexpected) → IsUnlike
  bad_unlike bad line after n e one r =
      let l = same_line line bad.line after bad.after one bad.one_line (sym e ∙ bad.split) in
      is_err_no _ n bad.lenient (ap (λ b. size_at (limits_of true 0 0) (words b)) (sym l.0) ∙ r)

  -- ---- no line

  module _ (one : IsOne behind) where
    cut_second : CanBegin bytes 2 → ⊥
    cut_second c =
        let f : feeds bytes ≡ 1 = ap feeds whole ∙ ap (λ n. 1 + n) (one_feeds behind one) in
        let e = shared_all c.other bytes 2 (omega (arith, f)) c.agrees in
        let t = second_behind c.other c.document c.is_document behind (e ∙ whole) in
        feed_there (text_line (length c.document.text)) (c.document.text ++ 10 ∷ joined c.is_document.lines) (subst IsOne t one)

    cut_unlike : IsUnlike
    cut_unlike line after n e o r = feed_there line after (subst IsOne e one)

  pub second_fault : (fault : LineFault) → IsTextLineFault behind (errors.Fault fault) → IsFault bytes (fault_at 2 fault)
  second_fault Unexpected (inl b) = (second_first (bad_second Unexpected b), no_number (bad_unlike b))
  second_fault BadNumber (inl b) = let v = value_of_ok (size_at (limits_of true 0 0) (words b.line)) b.lenient in (second_first (bad_second BadNumber b), bad_number BadNumber b v.0 v.1)
  second_fault Unexpected (inr c) = (second_first (cut_second c.0), no_number (cut_unlike c.0))
  second_fault BadNumber (inr c) = absurd (differ c.1)
    where
      differ : BadNumber ≡ Unexpected → ⊥
      differ d = cc

-- ---- the text

module _ (size : ℕ) (small : size < 2 ^ 32) (bytes rest : List ℕ) (whole : bytes ≡ opening size rest) (too_short : (text after : List ℕ) → length text ≡ size → rest ≡ text ++ 10 ∷ after → ⊥) where
  -- what there is of the text
  abbrev text_part : List ℕ
  text_part = take (min (length rest) size) rest

  part_fits : length text_part ≤ size
  part_fits = let e = length-take-le (min (length rest) size) rest (omega arith) in omega (arith, e)

  abbrev line_number : ℕ
  line_number = feeds (opening size text_part) + 1

  -- whole lines of it, and the rest of the line in which it would end
  abbrev tail : Tail text_part
  tail = tail_of text_part

  -- a text of that length with the same whole lines
  abbrev other_text : List ℕ
  other_text = tail.whole ++ replicate (size - length tail.whole) 0

  whole_fits : length tail.whole ≤ size
  whole_fits = let a = ap length tail.split ∙ length-append tail.whole tail.left in let b = part_fits in omega (arith, a, b)

  other_length : length other_text ≡ size
  other_length = let a = length-append tail.whole (replicate (size - length tail.whole) 0) in let b = length-replicate {A = ℕ} (size - length tail.whole) 0 in let c = whole_fits in omega (arith, a, b, c)

  abbrev other_bytes : List ℕ
  other_bytes = head other_text ++ []

  other_opens : other_bytes ≡ opening size (tail.whole ++ (replicate (size - length tail.whole) 0 ++ 10 ∷ []))
  other_opens = head_opens other_text [] ∙ ap (λ n. opening n (other_text ++ 10 ∷ [])) other_length ∙ ap (opening size) (append_assoc tail.whole (replicate (size - length tail.whole) 0) (10 ∷ []))

  rest_split : rest ≡ tail.whole ++ (tail.left ++ drop (min (length rest) size) rest)
  rest_split = sym (take-append-drop (min (length rest) size) rest) ∙ ap (λ x. x ++ drop (min (length rest) size) rest) tail.split ∙ append_assoc tail.whole tail.left (drop (min (length rest) size) rest)

  bytes_open : bytes ≡ opening size (tail.whole ++ (tail.left ++ drop (min (length rest) size) rest))
  bytes_open = whole ∙ ap (opening size) rest_split

  part_feeds : feeds text_part ≡ feeds tail.whole
  part_feeds = let a = ap feeds tail.split ∙ feeds_append tail.whole tail.left in let b = one_feeds tail.left tail.one in omega (arith, a, b)

  agree_by : (w x y : List ℕ) → (w ≡ []) ⊎ ((p : List ℕ) × (w ≡ p ++ 10 ∷ [])) → feeds text_part ≡ feeds w → first_lines (feeds (opening size text_part)) (opening size (w ++ x)) ≡ first_lines (feeds (opening size text_part)) (opening size (w ++ y))
  agree_by w x y (inl e) f =
      let n : feeds (opening size text_part) ≡ feeds (lead size) + 1 =
      (let a = opening_feeds size text_part small in let b = opening_feeds size [] small in let c = ap feeds (opening_is size []) ∙ feeds_append (lead size) (10 ∷ []) in let d = f ∙ ap feeds e in omega (arith, a, b, c, d)) in
      ap (first_lines (feeds (opening size text_part))) (ap (λ v. opening size (v ++ x)) e ∙ opening_is size x)
      ∙ both_begin (lead size) x y (feeds (opening size text_part)) n
      ∙ ap (first_lines (feeds (opening size text_part))) (sym (ap (λ v. opening size (v ++ y)) e ∙ opening_is size y))
  agree_by w x y (inr p) f =
      let s : (z : List ℕ) → opening size (w ++ z) ≡ opening size p.0 ++ 10 ∷ z = λ z. ap (opening size) (ap (λ v. v ++ z) p.1 ∙ append_assoc p.0 (10 ∷ []) z) ∙ opening_front size p.0 (10 ∷ z) in
      let n : feeds (opening size text_part) ≡ feeds (opening size p.0) + 1 =
      (let a = opening_feeds size text_part small in let b = opening_feeds size p.0 small in let c = f ∙ ap feeds p.1 ∙ feeds_append p.0 (10 ∷ []) in omega (arith, a, b, c)) in
      ap (first_lines (feeds (opening size text_part))) (s x)
      ∙ both_begin (opening size p.0) x y (feeds (opening size text_part)) n
      ∙ ap (first_lines (feeds (opening size text_part))) (sym (s y))

  text_so_far : CanBegin bytes (feeds (opening size text_part))
  text_so_far = record {
    other = other_bytes;
    document = document other_text [];
    is_document = empty other_text (let a = other_length in omega (arith, a));
    agrees =
        ap (first_lines (feeds (opening size text_part))) other_opens
        ∙ agree_by tail.whole (replicate (size - length tail.whole) 0 ++ 10 ∷ []) (tail.left ++ drop (min (length rest) size) rest) tail.ended part_feeds
        ∙ ap (first_lines (feeds (opening size text_part))) (sym bytes_open);
  }

  -- a document behind the same first lines has the same length of text
  same_size : (other : List ℕ) (d : Document) (h : IsDocument other d) (t : List ℕ) → other ≡ opening size t → (length d.text ≡ size) × (t ≡ d.text ++ 10 ∷ joined h.lines)
  same_size other d h t e = let o = opening_injective size (length d.text) t (d.text ++ 10 ∷ joined h.lines) small h.size (sym e ∙ opens other d h) in (sym o.0, o.1)

  -- where the bytes end before the text
  ends_early : length rest ≤ size → CanBegin bytes line_number → ⊥
  ends_early l c =
      let p : text_part ≡ rest = take_all (min (length rest) size) rest (omega arith) in
      let f : feeds bytes < line_number = (let a = ap feeds whole in let b = ap (λ x. feeds (opening size x)) p in omega (arith, a, b)) in
      let s = same_size c.other c.document c.is_document rest (shared_all c.other bytes line_number f c.agrees ∙ whole) in
      too_short c.document.text (joined c.is_document.lines) s.0 s.1

  -- where another byte stands in the line feed's place
  ends_otherwise : (t : List ℕ) (c : ℕ) (r : List ℕ) → rest ≡ t ++ c ∷ r → length t ≡ size → (c == 10) ≡ false → CanBegin bytes line_number → ⊥
  ends_otherwise t c r e l n b =
      let p : text_part ≡ t =
      (let a = ap length e ∙ length-append t (c ∷ r) in
      let m : min (length rest) size ≡ length t = omega (arith, a, l) in
      ap (λ k. take k rest) m ∙ ap (take (length t)) e ∙ take_at t (c ∷ r) (length t) refl) in
      let s : bytes ≡ opening size t ++ c ∷ r = whole ∙ ap (opening size) e ∙ opening_front size t (c ∷ r) in
      let m : line_number ≡ 1 + feeds (opening size t) = (let a = ap (λ x. feeds (opening size x)) p in omega (arith, a)) in
      let first_of : first_lines line_number bytes ≡ opening size t ++ c ∷ first_lines 1 r =
      ap (first_lines line_number) s ∙ lines_over (opening size t) (c ∷ r) 1 line_number (omega arith) m
      ∙ ap (λ x. opening size t ++ x) (one_more 1 c r (omega arith) ∙ ap (λ q. c ∷ first_lines (cond q (1 - 1) 1) r) n) in
      let left = after_lines line_number b.other in
      let o : b.other ≡ opening size (t ++ c ∷ (first_lines 1 r ++ left.0)) =
      left.1 ∙ ap (λ x. x ++ left.0) (b.agrees ∙ first_of) ∙ append_assoc (opening size t) (c ∷ first_lines 1 r) left.0 ∙ sym (opening_front size t (c ∷ (first_lines 1 r ++ left.0))) in
      let h = same_size b.other b.document b.is_document (t ++ c ∷ (first_lines 1 r ++ left.0)) o in
      let f = same_front t b.document.text (c ∷ (first_lines 1 r ++ left.0)) (10 ∷ joined b.is_document.lines) (l ∙ sym h.0) h.1 in
      too_short t r l (e ∙ ap (λ x. t ++ x ∷ r) (is_feed c _ _ f.1))
    where
      is_feed : (a : ℕ) (x y : List ℕ) → a ∷ x ≡ 10 ∷ y → a ≡ 10
      is_feed a x y e = cc

  text_none : CanBegin bytes line_number → ⊥
  text_none b = by (cases_lt size (length rest))
    where
      by : (size < length rest) ⊎ (length rest ≤ size) → ⊥
      by (inr l) = ends_early l b
      by (inl l) =
          let e : rest ≡ take size rest ++ get_or rest size 0 ∷ drop (suc size) rest = sym (take-append-drop size rest) ∙ ap (λ x. take size rest ++ x) (drop-cons rest size 0 l) in
          let n : length (take size rest) ≡ size = length-take-le size rest (omega arith) in
          otherwise (get_or rest size 0 == 10) refl (take size rest) (get_or rest size 0) (drop (suc size) rest) refl e n
        where
          otherwise : (t : Bool) → (get_or rest size 0 == 10) ≡ t → (x : List ℕ) (c : ℕ) (r : List ℕ) → c ≡ get_or rest size 0 → rest ≡ x ++ c ∷ r → length x ≡ size → ⊥
          otherwise false q x c r i e n = ends_otherwise x c r e n (ap (λ k. k == 10) i ∙ q) b
          otherwise true q x c r i e n = too_short x r n (e ∙ ap (λ k. x ++ k ∷ r) (i ∙ eqb-true (get_or rest size 0) 10 q))

  text_number : IsNumberAtFault bytes line_number → ⊥
  text_number q =
      let a = feeds_are q.before in
      let b = q.count in
      let o = opening_feeds size text_part small in
      elim q.may_stand [
        | inl t ↦ (let f = text_line_feeds q.before q.fields t in absurd (omega (arith, a, b, f, o)))
        | inr s ↦ (let i = opening_injective size (length s.text) rest (s.text ++ 10 ∷ (joined s.lines ++ (q.line ++ 10 ∷ q.rest))) small s.size
            (sym whole ∙ q.at ∙ ap (λ x. x ++ (q.line ++ 10 ∷ q.rest)) s.is_before ∙ append_assoc (head s.text) (joined s.lines) (q.line ++ 10 ∷ q.rest) ∙ head_opens s.text (joined s.lines ++ (q.line ++ 10 ∷ q.rest))) in
            too_short s.text (joined s.lines ++ (q.line ++ 10 ∷ q.rest)) (sym i.0) i.1)
      ]

  line_of_text : count_by (λ b. b == 10) (take (length bytes - length rest + min (length rest) size) bytes) ≡ feeds (opening size text_part)
  line_of_text =
      let left = drop (min (length rest) size) rest in
      let s : bytes ≡ opening size text_part ++ left = whole ∙ ap (opening size) (sym (take-append-drop (min (length rest) size) rest)) ∙ opening_front size text_part left in
      let a = ap length whole ∙ ap length (opening_front size [] rest) ∙ length-append (opening size []) rest in
      let b = ap length (opening_front size [] text_part) ∙ length-append (opening size []) text_part in
      let c = length-take-le (min (length rest) size) rest (omega arith) in
      ap (λ x. count_by (λ b. b == 10) (take (length bytes - length rest + min (length rest) size) x)) s
      ∙ ap (count_by (λ b. b == 10)) (take_at (opening size text_part) left (length bytes - length rest + min (length rest) size) (omega (arith, a, b, c)))
      ∙ feeds_are (opening size text_part)

  text_fault_here : IsFault bytes (faults.Unexpected line_number)
  text_fault_here = (record { above = omega arith; before = subst (CanBegin bytes) (omega arith) text_so_far; none = text_none }, text_number)

pub text_fault : (size : ℕ) (bytes rest : List ℕ) (n : ℕ) → size < 2 ^ 32 → bytes ≡ opening size rest → (length rest ≤ size) ⊎ (get_or rest size 0 ≢ 10)
    → n ≡ 1 + count_by (λ b. b == 10) (take (length bytes - length rest + min (length rest) size) bytes) → IsFault bytes (faults.Unexpected n)
text_fault size bytes rest n small whole c e =
    let l = line_of_text size small bytes rest whole (short c) in
    subst (λ k. IsFault bytes (faults.Unexpected k)) (omega (arith, e, l)) (text_fault_here size small bytes rest whole (short c))
  where
    short : (length rest ≤ size) ⊎ (get_or rest size 0 ≢ 10) → (text after : List ℕ) → length text ≡ size → rest ≡ text ++ 10 ∷ after → ⊥
    short (inl l) text after k s = let a = ap length s ∙ length-append text (10 ∷ after) in omega (arith, a)
    short (inr ne) text after k s = ne (ap (λ x. get_or x size 0) s ∙ get_or_at text 10 after 0 size k)
