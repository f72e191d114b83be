-- Where the lines of sections are read no further, the next line is the first fault.
use Rattle.std.proofs.Common.{decimal, ◌≡◌, ◌≢◌, ◌⊎◌, inl, inr, ◌≤◌, ◌<◌, ◌^◌, ℕ, ◌+◌, ◌-◌, ◌==◌, List, [], ◌∷◌, ◌++◌, true, false, length, take, All, Option, Some, None, IsSome, IsOk, IsErr, Result, Ok, Err, codes, refl, sym, ap, ◌∙◌, subst, append_assoc, arith}
use Rattle.std.specs.List.{count_by}
use Rattle.std.proofs.lemmas.List.{append-nil, length-append, take_at}
use Rattle.std.proofs.lemmas.List.Concat.{flat_map-append}
use Rattle.std.proofs.lemmas.List.Elements.{All-nil, All-head, All-push}
use Rattle.mau_facts.specs.declared.fault.LineFault.{LineFault}
use Rattle.mau_facts.specs.declared.fault.LineFault.TheVariants.{Unexpected, BadNumber}
use Rattle.mau_facts.specs.declared.document.Section.{Section}
use Rattle.mau_facts.specs.declared.entry.Entry.{Entry}
use Rattle.mau_facts.specs.declared.entry.Entry.TheVariants.{End}
use Rattle.mau_facts.specs.Fields.{Field, AreWordsOf, IsLikeWordOf}
use Rattle.mau_facts.specs.declared.document.Document.{Document}
use Rattle.mau_facts.specs.Lines.{Front, front_lines, entry_fields, MayFollow}
use Rattle.mau_facts.specs.Documents.{words, AreLines, joined, head, IsDocument}
use Rattle.mau_facts.specs.Faults.{first_lines, CanBegin, IsFirstFault, IsTextLine, IsSectionLine, IsNumberAtFault, IsFault}
use Rattle.mau_facts.specs.FactReading.{entry_at}
use Rattle.mau_facts.specs.FaultLines.{fault_at}
use Rattle.mau_facts.specs.Fronts.{limits_at, place_of, added, step, run, start, IsBadLine, IsCutOff, IsStopAt}
use Rattle.mau_facts.proofs.NumberLists.{bind_ok, ok_is}
use Rattle.mau_facts.proofs.FieldsAgain.{then_ok}
use Rattle.mau_facts.proofs.Entries.{follows, placed}
use Rattle.mau_facts.proofs.Likes.{some_like, like_read, zeroed_entry}
use Rattle.mau_facts.proofs.Runs.{front, step_only, run_append, run_found, run_only}
use Rattle.mau_facts.proofs.Feeds.{IsOne, AreOne, feeds, feeds_are, feeds_append, one_feeds, joined_feeds, one_by_test, feed_there, same_line, same_lines, beyond, ends, shared, shared_all, both_begin}
use Rattle.mau_facts.proofs.Openings.{document, document_of, lines_one, document_one, document_run, head_injective, head_opens, opening_feeds}

-- ---- what reading answers

pub is_err_no : {A : Type 0} (r : Result A LineFault) (x : A) → IsErr r → r ≡ Ok x → ⊥
is_err_no (Ok y) x h e = differ h
  where
    differ : false ≡ true → ⊥
    differ d = cc
is_err_no (Err f) x h e = absurd cc

pub value_of_ok : {A : Type 0} (r : Result A LineFault) → IsOk r → (x : A) × (r ≡ Ok x)
value_of_ok (Ok x) h = (x, refl)
value_of_ok (Err f) h = absurd (differ h)
  where
    differ : false ≡ true → ⊥
    differ d = cc

-- each front is ended by one line more, or none
record Ended (lines : List (List ℕ)) : Type 0 where
  more : List (List ℕ)
  sections : List Section
  one : AreOne (lines ++ more)
  ran : run start (lines ++ more) ≡ Ok (front sections None)

ended : (lines : List (List ℕ)) (f : Front) → AreOne lines → run start lines ≡ Ok f → Ended lines
ended lines f one ran = by f.begun refl
  where
    by : (x : Option Section) → f.begun ≡ x → Ended lines
    by None e = record { more = []; sections = f.done; one = subst AreOne (sym (append-nil lines)) one; ran = ap (run start) (append-nil lines) ∙ ran ∙ ap (λ x. Ok (front f.done x)) e }
    by (Some x) e = record {
      more = codes "end" ∷ [];
      sections = f.done ++ x ∷ [];
      one = All-push (All (λ c. c ≢ 10)) lines (codes "end") one (one_by_test (codes "end") refl);
      ran = run_append start f lines (codes "end" ∷ []) ran ∙ ap (λ y. run (front f.done y) (codes "end" ∷ [])) e ∙ then_ok (λ g. run g []) (step_only (front f.done (Some x)) End 0 (codes "end") ((refl, tt), tt) tt) refl;
    }

-- ---- behind the text and some lines

abbrev head_body : List ℕ → List ℕ
head_body text = codes "mrew-facts 1" ++ 10 ∷ (codes "text " ++ (decimal (length text) ++ 10 ∷ text))

head_ends : (text : List ℕ) → head text ≡ head_body text ++ 10 ∷ []
head_ends text = ap (λ x. codes "mrew-facts 1" ++ 10 ∷ (codes "text " ++ x)) (sym (append_assoc (decimal (length text)) (10 ∷ text) (10 ∷ [])))

pub head_feeds : (text : List ℕ) → length text < 2 ^ 32 → 2 ≤ feeds (head text)
head_feeds text h = let e = ap feeds (sym (append-nil (head text)) ∙ head_opens text []) ∙ opening_feeds (length text) (text ++ 10 ∷ []) h in omega arith

module _ (bytes text rest : List ℕ) (lines : List (List ℕ)) (f : Front) (size : length text < 2 ^ 32) (one : AreOne lines) (ran : run start lines ≡ Ok f) (whole : bytes ≡ (head text ++ joined lines) ++ rest) where
  abbrev consumed : List ℕ
  consumed = head text ++ joined lines

  -- what was read ends with a line feed
  last_feed : (p : List ℕ) × (consumed ≡ p ++ 10 ∷ [])
  last_feed = let e = ends (head_body text) lines in (e.0, ap (λ h. h ++ joined lines) (head_ends text) ∙ e.1)

  abbrev front_bytes : List ℕ
  front_bytes = last_feed.0

  split_front : bytes ≡ front_bytes ++ 10 ∷ rest
  split_front = whole ∙ ap (λ x. x ++ rest) last_feed.1 ∙ append_assoc front_bytes (10 ∷ []) rest

  count : feeds consumed ≡ feeds front_bytes + 1
  count = ap feeds last_feed.1 ∙ feeds_append front_bytes (10 ∷ [])

  -- some document has the same lines so far
  so_far : CanBegin bytes (feeds consumed)
  so_far =
      let e = ended lines f one ran in
      let s : head text ++ joined (lines ++ e.more) ≡ front_bytes ++ 10 ∷ joined e.more =
      ap (λ x. head text ++ x) (flat_map-append (λ b. b ++ 10 ∷ []) lines e.more) ∙ sym (append_assoc (head text) (joined lines) (joined e.more)) ∙ ap (λ x. x ++ joined e.more) last_feed.1 ∙ append_assoc front_bytes (10 ∷ []) (joined e.more) in
      record {
        other = head text ++ joined (lines ++ e.more);
        document = document text e.sections;
        is_document = document_of text e.sections (lines ++ e.more) size e.one e.ran;
        agrees = ap (first_lines (feeds consumed)) s ∙ both_begin front_bytes (joined e.more) rest (feeds consumed) count ∙ ap (first_lines (feeds consumed)) (sym split_front);
      }

  -- a document that begins with what was read goes on with lines
  record GoesOn (after : List ℕ) : Type 0 where
    more : List (List ℕ)
    rest_is : after ≡ joined more
    one_more : AreOne more
    sections : List Section
    ran_on : run f more ≡ Ok (front sections None)

  goes_on : (other after : List ℕ) (d : Document) → IsDocument other d → other ≡ consumed ++ after → GoesOn after
  goes_on other after d h e =
      let i = head_injective text d.text (joined lines ++ after) (joined h.lines) size h.size (sym (append_assoc (head text) (joined lines) after) ∙ sym e ∙ h.whole) in
      let b = beyond lines h.lines after one (document_one other d h) i.1 in
      record {
        more = b.more;
        rest_is = b.rest;
        one_more = b.one;
        sections = d.sections;
        ran_on = sym (run_append start f lines b.more ran) ∙ ap (run start) (sym b.split) ∙ document_run other d h;
      }

  -- ---- a bad line

  module _ (fault : LineFault) (bad : IsBadLine f rest fault) where
    refused : (g : Front) → step f bad.line ≡ Ok g → ⊥
    unfolding step
    refused g r = let p = bind_ok (entry_at (limits_at false f.begun) (place_of f.begun) (words bad.line)) (λ e. Ok (added f e)) g r in is_err_no _ p.0 bad.strict p.1

    line_end : bytes ≡ (front_bytes ++ 10 ∷ bad.line) ++ 10 ∷ bad.after
    line_end = split_front ∙ ap (λ x. front_bytes ++ 10 ∷ x) bad.split ∙ sym (append_assoc front_bytes (10 ∷ bad.line) (10 ∷ bad.after))

    line_count : feeds consumed + 1 ≡ feeds (front_bytes ++ 10 ∷ bad.line) + 1
    line_count = let a = feeds_append front_bytes (10 ∷ bad.line) in let b = one_feeds bad.line bad.one_line in let c = count in omega (arith, a, b, c)

    bad_none : CanBegin bytes (feeds consumed + 1) → ⊥
    bad_none c =
        let s = shared c.other (front_bytes ++ 10 ∷ bad.line) bad.after (feeds consumed + 1) line_count (c.agrees ∙ ap (first_lines (feeds consumed + 1)) line_end) in
        let e : c.other ≡ consumed ++ (bad.line ++ 10 ∷ s.0) = s.1 ∙ append_assoc front_bytes (10 ∷ bad.line) (10 ∷ s.0) ∙ sym (append_assoc front_bytes (10 ∷ []) (bad.line ++ 10 ∷ s.0)) ∙ ap (λ x. x ++ (bad.line ++ 10 ∷ s.0)) (sym last_feed.1) in
        by s.0 (goes_on c.other (bad.line ++ 10 ∷ s.0) c.document c.is_document e)
      where
        by : (t : List ℕ) → GoesOn (bad.line ++ 10 ∷ t) → ⊥
        by t g = more g.more g.rest_is g.one_more g.ran_on
          where
            more : (ms : List (List ℕ)) → bad.line ++ 10 ∷ t ≡ joined ms → AreOne ms → run f ms ≡ Ok (front g.sections None) → ⊥
            more [] e o r = feed_there bad.line t (subst IsOne (sym e) (All-nil (λ c. c ≢ 10)))
            more (m ∷ ms) e o r =
                let l = same_line bad.line m t (joined ms) bad.one_line (All-head (All (λ c. c ≢ 10)) m ms o) (e ∙ append_assoc m (10 ∷ []) (joined ms)) in
                let p = bind_ok (step f m) (λ h. run h ms) (front g.sections None) r in
                refused p.0 (ap (step f) l.0 ∙ p.1)

    bad_first : IsFirstFault bytes (feeds consumed + 1)
    bad_first = record { above = omega arith; before = subst (CanBegin bytes) (omega arith) so_far; none = bad_none }

    -- the numbers alone are at fault where the lenient reader reads the line
    lenient_fault : (e : Entry) → entry_at (limits_at true f.begun) (place_of f.begun) (words bad.line) ≡ Ok e → IsNumberAtFault bytes (feeds consumed + 1)
    lenient_fault e r =
        let s = some_like (limits_at true f.begun) (place_of f.begun) (words bad.line) e r in
        let g = run_found start f lines ran one (All-nil _, tt) in
        record {
          before = consumed;
          line = bad.line;
          rest = bad.after;
          at = whole ∙ ap (λ x. consumed ++ x) bad.split;
          count = ap (λ n. n + 1) (feeds_are consumed);
          one_line = bad.one_line;
          fields = entry_fields s.0 e;
          may_stand = inr (record {
            text = text;
            size = size;
            front = f;
            forms = g.forms;
            lines = lines;
            are_lines = subst (λ ls. AreLines ls lines) (sym g.split) g.are_lines;
            is_before = refl;
            entry = e;
            follows = follows f.begun e s.2;
            index = s.0;
            is_fields = refl;
          });
          like = s.1;
        }

  -- ---- a line of a section that stands behind as many lines

  module _ (before line after : List ℕ) (fields : List Field) (stands : IsSectionLine before fields) (at : bytes ≡ before ++ (line ++ 10 ∷ after)) (as_many : feeds before ≡ feeds consumed) where
    stands_one : AreOne stands.lines
    stands_one = lines_one (front_lines stands.front) stands.lines stands.are_lines

    same_text : (text ≡ stands.text) × (joined lines ++ rest ≡ joined stands.lines ++ (line ++ 10 ∷ after))
    same_text = head_injective text stands.text _ _ size stands.size
        (sym (append_assoc (head text) (joined lines) rest) ∙ sym whole ∙ at ∙ ap (λ x. x ++ (line ++ 10 ∷ after)) stands.is_before ∙ append_assoc (head stands.text) (joined stands.lines) (line ++ 10 ∷ after))

    same_count : length lines ≡ length stands.lines
    same_count =
        let a = feeds_append (head text) (joined lines) in
        let b = ap feeds stands.is_before ∙ feeds_append (head stands.text) (joined stands.lines) in
        let c = joined_feeds lines one in
        let d = joined_feeds stands.lines stands_one in
        let e = ap (λ t. feeds (head t)) same_text.0 in
        omega (arith, a, b, c, d, e, as_many)

    here : (lines ≡ stands.lines) × (rest ≡ line ++ 10 ∷ after)
    here = same_lines lines stands.lines rest (line ++ 10 ∷ after) one stands_one same_count same_text.1

    same_state : f ≡ stands.front
    same_state = ok_is f stands.front (sym ran ∙ ap (run start) here.0 ∙ run_only stands.front stands.lines stands.forms stands.are_lines)

    may_follow : MayFollow f.begun stands.entry
    may_follow = subst (λ g. MayFollow g.begun stands.entry) (sym same_state) stands.follows

  -- ---- no number is at fault

  no_text_line : (before line after : List ℕ) (fields : List Field) → IsTextLine before fields → feeds before ≡ feeds consumed → ⊥
  no_text_line before line after fields t e =
      let a = ap feeds t.is_before in
      let b = feeds_append (head text) (joined lines) in
      let c = head_feeds text size in
      omega (arith, a, b, c, e)

  -- a line of a section, as many line feeds behind the beginning, that is like what may stand there
  abbrev IsLikeHere : Type 0
  IsLikeHere = (before line after : List ℕ) (fields : List Field) (stands : IsSectionLine before fields) (at : bytes ≡ before ++ (line ++ 10 ∷ after)) (as_many : feeds before ≡ feeds consumed) → IsOne line → AreWordsOf IsLikeWordOf fields (words line) → ⊥

  no_number : IsLikeHere → IsNumberAtFault bytes (feeds consumed + 1) → ⊥
  no_number none q =
      let e : feeds q.before ≡ feeds consumed = (let a = feeds_are q.before in let b = q.count in omega (arith, a, b)) in
      elim q.may_stand [ inl t ↦ no_text_line q.before q.line q.rest q.fields t e | inr s ↦ none q.before q.line q.rest q.fields s q.at e q.one_line q.like ]

  bad_line_unlike : (fault : LineFault) (bad : IsBadLine f rest fault) → IsErr (entry_at (limits_at true f.begun) (place_of f.begun) (words bad.line)) → IsLikeHere
  bad_line_unlike fault bad lenient before line after fields stands at as_many line_one like =
      let h = here before line after fields stands at as_many in
      let l = same_line bad.line line bad.after after bad.one_line line_one (sym bad.split ∙ h.1) in
      let r = like_read (limits_at true f.begun) refl (place_of f.begun) stands.index stands.entry (words line)
      (placed f.begun stands.entry (may_follow before line after fields stands at as_many)) (subst (λ fs. AreWordsOf IsLikeWordOf fs (words line)) stands.is_fields like) in
      is_err_no _ (zeroed_entry stands.entry) lenient (ap (λ b. entry_at (limits_at true f.begun) (place_of f.begun) (words b)) l.0 ∙ r)

  -- ---- no line is left

  module _ (cut : IsCutOff f rest Unexpected) where
    whole_count : feeds bytes ≡ feeds consumed
    whole_count = let a = ap feeds whole ∙ feeds_append consumed rest in let b = one_feeds rest cut.no_line in omega (arith, a, b)

    cut_none : CanBegin bytes (feeds consumed + 1) → ⊥
    cut_none c =
        let e = shared_all c.other bytes (feeds consumed + 1) (let w = whole_count in omega (arith, w)) c.agrees in
        by (goes_on c.other rest c.document c.is_document (e ∙ whole))
      where
        by : GoesOn rest → ⊥
        by g = more g.more g.rest_is g.ran_on
          where
            open_one : (x : Option Section) → x ≡ None → IsSome x → ⊥
            open_one None e s = absurd (differ s)
              where
                differ : false ≡ true → ⊥
                differ d = cc
            open_one (Some x) e s = absurd cc

            more : (ms : List (List ℕ)) → rest ≡ joined ms → run f ms ≡ Ok (front g.sections None) → ⊥
            more [] e r = open_one f.begun (ap (λ (x : Front). x.begun) (ok_is f (front g.sections None) r)) (cut.no_end e)
            more (m ∷ ms) e r = feed_there m (joined ms) (subst IsOne (e ∙ append_assoc m (10 ∷ []) (joined ms)) cut.no_line)

    cut_first : IsFirstFault bytes (feeds consumed + 1)
    cut_first = record { above = omega arith; before = subst (CanBegin bytes) (omega arith) so_far; none = cut_none }

    cut_unlike : IsLikeHere
    cut_unlike before line after fields stands at as_many line_one like = feed_there line after (subst IsOne (here before line after fields stands at as_many).1 cut.no_line)

  pub fault_here : (fault : LineFault) → IsBadLine f rest fault ⊎ IsCutOff f rest fault → IsFault bytes (fault_at (feeds consumed + 1) fault)
  fault_here Unexpected (inl b) = (bad_first Unexpected b, no_number (bad_line_unlike Unexpected b b.lenient))
  fault_here BadNumber (inl b) = let v = value_of_ok (entry_at (limits_at true f.begun) (place_of f.begun) (words b.line)) b.lenient in (bad_first BadNumber b, lenient_fault BadNumber b v.0 v.1)
  fault_here Unexpected (inr c) = (cut_first c, no_number (cut_unlike c))
  fault_here BadNumber (inr c) = absurd (differ c.unexpected)
    where
      differ : BadNumber ≡ Unexpected → ⊥
      differ d = cc

pub stop_is_fault : (bytes text behind : List ℕ) (place n : ℕ) (fault : LineFault) → length text < 2 ^ 32 → bytes ≡ head text ++ behind → IsStopAt behind place fault
    → n ≡ 1 + count_by (λ b. b == 10) (take (length bytes - length behind + place) bytes) → IsFault bytes (fault_at n fault)
stop_is_fault bytes text behind place n fault size whole stop e =
    let lines = stop.read.lines in
    let split : bytes ≡ (head text ++ joined lines) ++ stop.rest = whole ∙ ap (λ x. head text ++ x) stop.read.split ∙ sym (append_assoc (head text) (joined lines) stop.rest) in
    let long : length (head text ++ joined lines) ≡ length bytes - length behind + place =
    (let a = ap length whole ∙ length-append (head text) behind in
    let b = ap length stop.read.split ∙ length-append (joined lines) stop.rest in
    let c = length-append (head text) (joined lines) in
    let d = stop.is_place in
    omega (arith, a, b, c, d)) in
    let taken : take (length bytes - length behind + place) bytes ≡ head text ++ joined lines = ap (take (length bytes - length behind + place)) split ∙ take_at (head text ++ joined lines) stop.rest (length bytes - length behind + place) long in
    let count = ap (count_by (λ b. b == 10)) taken ∙ feeds_are (head text ++ joined lines) in
    subst (λ k. IsFault bytes (fault_at k fault)) (omega (arith, e, count)) (fault_here bytes text stop.rest lines stop.front size stop.read.one_lines stop.read.ran split fault stop.why)
