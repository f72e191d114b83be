-- The pieces that stand before a fault: those that are whole, and a strategy that begins so.
use Rattle.std.proofs.Common.{◌≡◌, ℕ, zero, suc, ◌+◌, ◌≤◌, ◌<◌, List, [], ◌∷◌, ◌++◌, length, false, not, ◌&&◌, inl, inr, Option, Some, None, refl, sym, ap, ◌∙◌, subst, arith, append_assoc, append-nil, length-append, All}
use Rattle.std.proofs.lemmas.List.Elements.{All-nil, All-cons, All-append, All-push}
use Rattle.std.specs.Prelude.{codes, nat_eq, if◌then◌else◌}
use Rattle.std.proofs.lemmas.Bool.{and_right, ne_eqb}
use Rattle.mau_shapes.specs.Words.{Word, Words, of_test, beginning, joint, ends_test, ends_fragment, ends_variable, ends_term}
use Rattle.mau_shapes.specs.Shape.{SuchThat, Use, Shape, plain, assigned, called, wrapped, within, tested, marked, joined, chosen, each, parted, use_text, use_texts, such_text, text, IsPart, IsUse, Fits, IsTextOf}
use Rattle.mau_shapes.specs.Pieces.{part, term_pieces, fragment_pieces, use_pieces, such_pieces, pieces}
use Rattle.mau_shapes.specs.Before.{IsWhole, IsBehind, ArePiecesBefore}
use Rattle.mau_shapes.specs.Reader.{bracket, wrapper, top_wrapper, left, asked, answered, Frames, Goal, argument, variable, value, pattern, fragment, State, operand, named, done, reading, such_of, ends, is_narrow}
use Rattle.mau_shapes.specs.declared.pieces.Piece.{Piece}
use Rattle.mau_shapes.specs.declared.pieces.Piece.TheVariants as piece
use Rattle.mau_shapes.proofs.Tables.{known_as}
use Rattle.mau_shapes.proofs.Standing.{opened, AreOpen, looser, regroup, regroup_two, before, parted_more, uses_more, IsBegun, part_of, IsGoal, goal_words, state_words, Stands}
use Rattle.mau_shapes.proofs.Stepping.{wide, pushed_some, names_alone, names_rule, in_brackets, in_two, end_words}
use Rattle.mau_shapes.proofs.Completing.{MayBe, tight, admitted, stands_by_itself, is_rule, more_words, asked_words, tail, ended, one_word, argument_words, variable_words, value_words, pattern_words, fragment_words, such_words}
use Rattle.mau_shapes.specs.Machine as machine
use Rattle.mau_shapes.proofs.Coding.{code, same_place, other_place, goal_from, goal_to, kind_of, fragment_text, place, pieces_of, behind_it, one_longer, two_longer, place_behind, place_answered, joined_pieces, chosen_pieces, goal_pieces, before_length, term_more, fragment_more, use_length, use_more, part_end, with_part, part_at, argument_pieces, variable_pieces, value_pieces, pattern_pieces, fragment_pieces_more, value_length, fragment_length}

-- ---- pieces lie within their text

each_before : (w : Word) (ts : List Words) → length (each w ts) ≡ length (before w ts)
each_before w [] = refl
each_before w (t ∷ ts) =
    ap suc (length-append t (each w ts) ∙ ap (λ n. length t + n) (each_before w ts)) ∙ (omega arith ∙ sym (before_length w t ts))

parted_before : (w : Word) (ts : List Words) → length (before w ts) ≤ length (parted w ts) + 1
parted_before w [] = omega arith
parted_before w (t ∷ ts) = omega (arith, before_length w t ts, length-append t (each w ts), each_before w ts)

terms_within : (n i : ℕ) (ts : List Words) → i + length (before (codes ",") ts) ≤ n + 1 → All (IsWhole n) (term_pieces i ts)
terms_within n i [] h = All-nil (IsWhole n)
terms_within n i (t ∷ ts) h =
    All-cons (IsWhole n) (piece.Argument (part i t)) (term_pieces (i + length t + 1) ts) (omega (arith, h, before_length (codes ",") t ts))
    (terms_within n (i + length t + 1) ts (omega (arith, h, before_length (codes ",") t ts)))

fragments_within : (n i : ℕ) (ts : List Words) → i + length (before (codes "/\\") ts) ≤ n + 1 → All (IsWhole n) (fragment_pieces i ts)
fragments_within n i [] h = All-nil (IsWhole n)
fragments_within n i (t ∷ ts) h =
    All-cons (IsWhole n) (piece.Fragment (part i t)) (fragment_pieces (i + length t + 1) ts) (omega (arith, h, before_length (codes "/\\") t ts))
    (fragments_within n (i + length t + 1) ts (omega (arith, h, before_length (codes "/\\") t ts)))

uses_within : (n i : ℕ) (us : List Use) → i + length (before (codes ",") (use_texts us)) ≤ n + 1 → All (IsWhole n) (use_pieces i us)
uses_within n i [] h = All-nil (IsWhole n)
uses_within n i (u ∷ us) h =
    All-cons (IsWhole n) (piece.Variable (part i u.0)) (piece.Value (part (i + length u.0 + 1) u.1) ∷ use_pieces (i + length u.0 + 1 + length u.1 + 1) us)
    (omega (arith, h, before_length (codes ",") (use_text u) (use_texts us), use_length u))
    (All-cons (IsWhole n) (piece.Value (part (i + length u.0 + 1) u.1)) (use_pieces (i + length u.0 + 1 + length u.1 + 1) us)
    (omega (arith, h, before_length (codes ",") (use_text u) (use_texts us), use_length u))
    (uses_within n (i + length u.0 + 1 + length u.1 + 1) us (omega (arith, h, before_length (codes ",") (use_text u) (use_texts us), use_length u))))

such_within : (n i : ℕ) (c : Option SuchThat) → i + length (such_text c) ≤ n → All (IsWhole n) (such_pieces i c)
such_within n i None h = All-nil (IsWhole n)
such_within n i (Some c) h =
    fragments_within n (i + length c.0) c.1 (omega (arith, h, length-append c.0 (parted (codes "/\\") c.1), parted_before (codes "/\\") c.1))

pub pieces_within : (s : Shape) (i n : ℕ) → i + length (text s) ≤ n → All (IsWhole n) (pieces i s)
pieces_within (plain w) i n h = All-cons (IsWhole n) (piece.Plain i) [] (omega (arith, h)) (All-nil (IsWhole n))
pieces_within (assigned w us) i n h =
    All-cons (IsWhole n) (piece.Label i) (use_pieces (i + 2) us) (omega (arith, h))
    (uses_within n (i + 2) us (omega (arith, h, length-append (parted (codes ",") (use_texts us)) (codes "]" ∷ []), parted_before (codes ",") (use_texts us))))
pieces_within (called w ts) i n h =
    All-cons (IsWhole n) (piece.Call i) (term_pieces (i + 2) ts ++ piece.Called ∷ []) (omega (arith, h))
    (All-push (IsWhole n) (term_pieces (i + 2) ts) piece.Called
    (terms_within n (i + 2) ts (omega (arith, h, length-append (parted (codes ",") ts) (codes ")" ∷ []), parted_before (codes ",") ts))) tt)
pieces_within (wrapped w e) i n h =
    All-cons (IsWhole n) (piece.Wrapper i) (pieces (i + 2) e ++ piece.Wrapped i ∷ []) (omega (arith, h))
    (All-push (IsWhole n) (pieces (i + 2) e) (piece.Wrapped i) (pieces_within e (i + 2) n (omega (arith, h, length-append (text e) (codes ")" ∷ [])))) tt)
pieces_within (within e) i n h = pieces_within e (i + 1) n (omega (arith, h, length-append (text e) (codes ")" ∷ [])))
pieces_within (tested w p c) i n h =
    All-cons (IsWhole n) (piece.Test i) (piece.Pattern (part (i + 1) p) ∷ such_pieces (i + 1 + length p) c) (omega (arith, h))
    (All-cons (IsWhole n) (piece.Pattern (part (i + 1) p)) (such_pieces (i + 1 + length p) c) (omega (arith, h, length-append p (such_text c)))
    (such_within n (i + 1 + length p) c (omega (arith, h, length-append p (such_text c)))))
pieces_within (marked e w) i n h =
    All-push (IsWhole n) (pieces i e) (piece.Marked (i + length (text e))) (pieces_within e i n (omega (arith, h, length-append (text e) (w ∷ [])))) tt
pieces_within (joined w e f) i n h =
    All-append (IsWhole n) (pieces i e) (pieces (i + length (text e) + 1) f ++ piece.Joined (i + length (text e)) ∷ [])
    (pieces_within e i n (omega (arith, h, length-append (text e) (w ∷ text f))))
    (All-push (IsWhole n) (pieces (i + length (text e) + 1) f) (piece.Joined (i + length (text e)))
    (pieces_within f (i + length (text e) + 1) n (omega (arith, h, length-append (text e) (w ∷ text f)))) tt)
pieces_within (chosen e f g) i n h =
    let a : length (text e ++ codes "?" ∷ (text f ++ codes ":" ∷ text g)) ≡ length (text e) + (length (text f) + (length (text g) + 1) + 1)
    = length-append (text e) (codes "?" ∷ (text f ++ codes ":" ∷ text g)) ∙ ap (λ n. length (text e) + suc n) (length-append (text f) (codes ":" ∷ text g)) ∙ omega arith in
    All-append (IsWhole n) (pieces i e) (pieces (i + length (text e) + 1) f ++ (pieces (i + length (text e) + 1 + length (text f) + 1) g ++ piece.Chosen ∷ []))
    (pieces_within e i n (omega (arith, h, a)))
    (All-append (IsWhole n) (pieces (i + length (text e) + 1) f) (pieces (i + length (text e) + 1 + length (text f) + 1) g ++ piece.Chosen ∷ [])
    (pieces_within f (i + length (text e) + 1) n (omega (arith, h, a)))
    (All-push (IsWhole n) (pieces (i + length (text e) + 1 + length (text f) + 1) g) piece.Chosen
    (pieces_within g (i + length (text e) + 1 + length (text f) + 1) n (omega (arith, h, a))) tt))

pub frames_within : (k : Frames) (n : ℕ) → place k ≤ n → All (IsWhole n) (pieces_of k)
frames_within [] n h = All-nil (IsWhole n)
frames_within (bracket ∷ k) n h = frames_within k n (omega (arith, h, one_longer (opened k) (codes "(")))
frames_within (wrapper w ∷ k) n h =
    All-push (IsWhole n) (pieces_of k) (piece.Wrapper (place k)) (frames_within k n (omega (arith, h, two_longer (opened k) w (codes "("))))
    (omega (arith, h, two_longer (opened k) w (codes "(")))
frames_within (top_wrapper w ∷ k) n h =
    All-push (IsWhole n) (pieces_of k) (piece.Wrapper (place k)) (frames_within k n (omega (arith, h, two_longer (opened k) w (codes "("))))
    (omega (arith, h, two_longer (opened k) w (codes "(")))
frames_within (left w m e ∷ k) n h =
    All-append (IsWhole n) (pieces_of k) (pieces (place k) e) (frames_within k n (omega (arith, h, place_behind (opened k) (text e) w)))
    (pieces_within e (place k) n (omega (arith, h, place_behind (opened k) (text e) w)))
frames_within (asked e ∷ k) n h =
    All-append (IsWhole n) (pieces_of k) (pieces (place k) e) (frames_within k n (omega (arith, h, place_behind (opened k) (text e) (codes "?"))))
    (pieces_within e (place k) n (omega (arith, h, place_behind (opened k) (text e) (codes "?"))))
frames_within (answered e f ∷ k) n h =
    let a = place_answered (opened k) (text e) (codes "?") (text f) (codes ":") in
    All-append (IsWhole n) (pieces_of k) (pieces (place k) e ++ pieces (place k + length (text e) + 1) f) (frames_within k n (omega (arith, h, a)))
    (All-append (IsWhole n) (pieces (place k) e) (pieces (place k + length (text e) + 1) f) (pieces_within e (place k) n (omega (arith, h, a)))
    (pieces_within f (place k + length (text e) + 1) n (omega (arith, h, a))))

goal_within : (g : Goal) (k : Frames) (n : ℕ) → length (opened k ++ goal_words g) ≤ n → All (IsWhole n) (pieces_of k ++ goal_pieces (place k) g)
goal_within (argument w ts) k n h =
    let a = length-append (opened k) (goal_words (argument w ts)) in
    All-append (IsWhole n) (pieces_of k) (goal_pieces (place k) (argument w ts)) (frames_within k n (omega (arith, h, a)))
    (All-cons (IsWhole n) (piece.Call (place k)) (term_pieces (place k + 2) ts) (omega (arith, h, a)) (terms_within n (place k + 2) ts (omega (arith, h, a))))
goal_within (variable w us) k n h =
    let a = length-append (opened k) (goal_words (variable w us)) in
    All-append (IsWhole n) (pieces_of k) (goal_pieces (place k) (variable w us)) (frames_within k n (omega (arith, h, a)))
    (All-cons (IsWhole n) (piece.Label (place k)) (use_pieces (place k + 2) us) (omega (arith, h, a)) (uses_within n (place k + 2) us (omega (arith, h, a))))
goal_within (value w us x) k n h =
    let a = length-append (opened k) (goal_words (value w us x)) in
    let b = value_length (before (codes ",") (use_texts us)) x (codes "<-") in
    All-append (IsWhole n) (pieces_of k) (goal_pieces (place k) (value w us x)) (frames_within k n (omega (arith, h, a)))
    (All-cons (IsWhole n) (piece.Label (place k)) (use_pieces (place k + 2) us ++ piece.Variable (part (place k + 2 + length (before (codes ",") (use_texts us))) x) ∷ [])
    (omega (arith, h, a))
    (All-push (IsWhole n) (use_pieces (place k + 2) us) (piece.Variable (part (place k + 2 + length (before (codes ",") (use_texts us))) x))
    (uses_within n (place k + 2) us (omega (arith, h, a, b))) (omega (arith, h, a, b))))
goal_within (pattern w) k n h =
    let a = length-append (opened k) (w ∷ []) in
    All-append (IsWhole n) (pieces_of k) (piece.Test (place k) ∷ []) (frames_within k n (omega (arith, h, a)))
    (All-cons (IsWhole n) (piece.Test (place k)) [] (omega (arith, h, a)) (All-nil (IsWhole n)))
goal_within (fragment w p c cs) k n h =
    let a = length-append (opened k) (goal_words (fragment w p c cs)) in
    let b = fragment_length w p c (before (codes "/\\") cs) in
    All-append (IsWhole n) (pieces_of k) (goal_pieces (place k) (fragment w p c cs)) (frames_within k n (omega (arith, h, a)))
    (All-cons (IsWhole n) (piece.Test (place k)) (piece.Pattern (part (place k + 1) p) ∷ fragment_pieces (place k + 1 + length p + length c) cs) (omega (arith, h, a, b))
    (All-cons (IsWhole n) (piece.Pattern (part (place k + 1) p)) (fragment_pieces (place k + 1 + length p + length c) cs) (omega (arith, h, a, b))
    (fragments_within n (place k + 1 + length p + length c) cs (omega (arith, h, a, b)))))

-- ---- a strategy that begins so, with its pieces

record Goes (k : Frames) (s : Shape) (f : Words) : Type 0 where
  pub shape : Shape
  pub more : Words
  pub reads : IsTextOf (f ++ more) shape
  pub rest : List Piece
  pub split : pieces 0 shape ≡ behind_it s k ++ rest
  pub behind : All (IsBehind (length f)) rest

wrapped_split : (a : List Piece) (x : Piece) (b : List Piece) (y : Piece) (r : List Piece) → (a ++ (x ∷ (b ++ y ∷ []))) ++ r ≡ ((a ++ x ∷ []) ++ b) ++ y ∷ r
wrapped_split a x b y r = simp append_assoc

asked_split : (a b c : List Piece) (x y : Piece) (r : List Piece) → (((a ++ (b ++ c)) ++ x ∷ []) ++ y ∷ []) ++ r ≡ ((a ++ b) ++ c) ++ x ∷ y ∷ r
asked_split a b c x y r = simp append_assoc

in_front : (f more : Words) (ws : Words) → ws ≡ f ++ more → length f ≤ length ws
in_front f more ws h = omega (arith, ap length h, length-append f more)

goes_on : (k : Frames) (s : Shape) (n : ℕ) (f more : Words) → AreOpen k → Fits n s → n ≤ 6 → MayBe n s k → opened k ++ text s ≡ f ++ more → Goes k s f
goes_on [] s n f more o h le a e = record {
  shape = s;
  more = more;
  reads = record { strategy = looser s n 6 le h; words = e };
  rest = [];
  split = sym (append-nil (pieces 0 s));
  behind = All-nil (IsBehind (length f));
}
goes_on (bracket ∷ k) s n f more o h le a e =
    let r = goes_on k (within s) 2 f (more ++ codes ")" ∷ []) o.1 (looser s n 6 le h) (omega arith) (tight k (within s) o.1 (wide (within s) k o.0))
    (in_brackets (opened k) (codes "(") (text s) (codes ")") ∙ more_words (opened (bracket ∷ k) ++ text s) f more (codes ")" ∷ []) e) in
    record {
      shape = r.shape;
      more = r.more;
      reads = r.reads;
      rest = r.rest;
      split = r.split ∙ ap (λ i. (pieces_of k ++ pieces i s) ++ r.rest) (sym (one_longer (opened k) (codes "(")));
      behind = r.behind;
    }
goes_on (wrapper w ∷ k) s n f more o h le a e =
    let r = goes_on k (wrapped w s) 2 f (more ++ codes ")" ∷ []) o.2 (inl o.0, looser s n 6 le h) (omega arith) (tight k (wrapped w s) o.2 (wide (wrapped w s) k o.1))
    (in_two (opened k) w (codes "(") (text s) (codes ")") ∙ more_words (opened (wrapper w ∷ k) ++ text s) f more (codes ")" ∷ []) e) in
    record {
      shape = r.shape;
      more = r.more;
      reads = r.reads;
      rest = piece.Wrapped (place k) ∷ r.rest;
      split = r.split ∙ (wrapped_split (pieces_of k) (piece.Wrapper (place k)) (pieces (place k + 2) s) (piece.Wrapped (place k)) r.rest
          ∙ ap (λ i. ((pieces_of k ++ piece.Wrapper (place k) ∷ []) ++ pieces i s) ++ piece.Wrapped (place k) ∷ r.rest) (sym (two_longer (opened k) w (codes "("))));
      behind = All-cons (IsBehind (length f)) (piece.Wrapped (place k)) r.rest tt r.behind;
    }
goes_on (top_wrapper w ∷ k) s n f more o h le a e =
    let r = goes_on k (wrapped w s) 2 f (more ++ codes ")" ∷ []) o.2 (inr (o.0, a), looser s n 6 le h) (omega arith) (tight k (wrapped w s) o.2 (wide (wrapped w s) k o.1))
    (in_two (opened k) w (codes "(") (text s) (codes ")") ∙ more_words (opened (top_wrapper w ∷ k) ++ text s) f more (codes ")" ∷ []) e) in
    record {
      shape = r.shape;
      more = r.more;
      reads = r.reads;
      rest = piece.Wrapped (place k) ∷ r.rest;
      split = r.split ∙ (wrapped_split (pieces_of k) (piece.Wrapper (place k)) (pieces (place k + 2) s) (piece.Wrapped (place k)) r.rest
          ∙ ap (λ i. ((pieces_of k ++ piece.Wrapper (place k) ∷ []) ++ pieces i s) ++ piece.Wrapped (place k) ∷ r.rest) (sym (two_longer (opened k) w (codes "("))));
      behind = All-cons (IsBehind (length f)) (piece.Wrapped (place k)) r.rest tt r.behind;
    }
goes_on (left w m e ∷ k) s n f more o h le a q =
    let b : (3 ≤ m) × (m ≤ 5) = known_as w (joint m) o.0 in
    let r = goes_on k (joined w e s) m f more o.3 (m, o.0, omega arith, o.1, looser s n m a h) (omega (arith, b.1)) (admitted k m (joined w e s) o.2)
    (regroup (opened k) (text e) w (text s) ∙ q) in
    record {
      shape = r.shape;
      more = r.more;
      reads = r.reads;
      rest = piece.Joined (place k + length (text e)) ∷ r.rest;
      split = r.split ∙ (ap (λ z. z ++ r.rest) (sym (joined_pieces w m e s k)) ∙ append_assoc (behind_it s (left w m e ∷ k)) (piece.Joined (place k + length (text e)) ∷ []) r.rest);
      behind = All-cons (IsBehind (length f)) (piece.Joined (place k + length (text e))) r.rest tt r.behind;
    }
goes_on (asked e ∷ k) s n f more o h le a q =
    let all = plain (codes "all") in
    let at = place (answered e s ∷ k) in
    let r = goes_on k (chosen e s all) 6 f (more ++ codes ":" ∷ codes "all" ∷ []) o.2 (omega arith, o.0, looser s n 6 le h, stands_by_itself) (omega arith)
    (admitted k 6 (chosen e s all) o.1)
    (asked_words (opened k) (text e) (codes "?") (text s) (codes ":" ∷ codes "all" ∷ [])
    ∙ more_words (opened (asked e ∷ k) ++ text s) f more (codes ":" ∷ codes "all" ∷ []) q) in
    let far : length f ≤ at = omega (
      arith,
      in_front f more (opened (asked e ∷ k) ++ text s) q,
      length-append (opened (asked e ∷ k)) (text s),
      place_behind (opened k) (text e) (codes "?"),
      place_answered (opened k) (text e) (codes "?") (text s) (codes ":"),
    ) in
    record {
      shape = r.shape;
      more = r.more;
      reads = r.reads;
      rest = piece.Plain at ∷ piece.Chosen ∷ r.rest;
      split = r.split ∙ (ap (λ z. z ++ r.rest) (sym (chosen_pieces e s all k))
          ∙ (asked_split (pieces_of k) (pieces (place k) e) (pieces (place k + length (text e) + 1) s) (piece.Plain at) piece.Chosen r.rest
          ∙ ap (λ i. ((pieces_of k ++ pieces (place k) e) ++ pieces i s) ++ piece.Plain at ∷ piece.Chosen ∷ r.rest) (sym (place_behind (opened k) (text e) (codes "?")))));
      behind = All-cons (IsBehind (length f)) (piece.Plain at) (piece.Chosen ∷ r.rest) far (All-cons (IsBehind (length f)) piece.Chosen r.rest tt r.behind);
    }
goes_on (answered e g ∷ k) s n f more o h le a q =
    let r = goes_on k (chosen e g s) 6 f more o.3 (omega arith, o.0, o.1, looser s n 6 le h) (omega arith) (admitted k 6 (chosen e g s) o.2)
    (regroup_two (opened k) (text e) (codes "?") (text g) (codes ":") (text s) ∙ q) in
    record {
      shape = r.shape;
      more = r.more;
      reads = r.reads;
      rest = piece.Chosen ∷ r.rest;
      split = r.split ∙ (ap (λ z. z ++ r.rest) (sym (chosen_pieces e g s k)) ∙ append_assoc (behind_it s (answered e g ∷ k)) (piece.Chosen ∷ []) r.rest);
      behind = All-cons (IsBehind (length f)) piece.Chosen r.rest tt r.behind;
    }

-- ---- what is whole behind a state

abbrev pub flush_part : Goal → Words → ℕ → Frames → List Piece
flush_part g (v ∷ p) zero k = with_part g (v ∷ p) k
flush_part g p d k = pieces_of k ++ goal_pieces (place k) g

-- the pieces, with the name or the part at hand
abbrev pub flushed : State → List Piece
flushed (operand k) = pieces_of k
flushed (named w k) = pieces_of k ++ piece.Plain (place k) ∷ []
flushed (done s k) = behind_it s k
flushed (reading g p d k) = flush_part g p d k
flushed (such_of w p v k) = pieces_of k ++ (piece.Test (place k) ∷ piece.Pattern (part (place k + 1) p) ∷ [])

make : (k : Frames) (s : Shape) (f : Words) (ps rest : List Piece) → Goes k s f → behind_it s k ≡ ps ++ rest → All (IsWhole (length f)) ps → All (IsBehind (length f)) rest
    → ArePiecesBefore f ps
make k s f ps rest g e h b = record {
  shape = g.shape;
  more = g.more;
  reads = g.reads;
  rest = rest ++ g.rest;
  split = g.split ∙ (ap (λ z. z ++ g.rest) e ∙ append_assoc ps rest g.rest);
  whole = h;
  behind = All-append (IsBehind (length f)) rest g.rest b g.behind;
}

nothing_behind : (n : ℕ) → All (IsBehind n) []
nothing_behind n = All-nil (IsBehind n)

-- ---- a part that ends here

with_part_whole : (g : Goal) (p : Words) (k : Frames) → ((x : part_at g p k ≡ part_at g p k) → IsWhole (length (opened k ++ (goal_words g ++ p))) (machine.part_piece (kind_of g) (part_at g p k)))
    → All (IsWhole (length (opened k ++ (goal_words g ++ p)))) (with_part g p k)
with_part_whole g p k h =
    All-push (IsWhole (length (opened k ++ (goal_words g ++ p)))) (pieces_of k ++ goal_pieces (place k) g) (machine.part_piece (kind_of g) (part_at g p k))
    (goal_within g k (length (opened k ++ (goal_words g ++ p))) (omega (arith, part_end (opened k) (goal_words g) p))) (h refl)

ended_part : (g : Goal) (v : Word) (p : Words) (k : Frames) → IsGoal g k → IsBegun (ends g) (v ∷ p) 0 → AreOpen k
    → ArePiecesBefore (opened k ++ (goal_words g ++ v ∷ p)) (with_part g (v ∷ p) k)
ended_part (argument w ts) v p k h b o =
    let f = opened k ++ (goal_words (argument w ts) ++ v ∷ p) in
    let q = part_of ends_term (v ∷ p) b (λ e. cc) in
    let s = called w (ts ++ (v ∷ p) ∷ []) in
    let g = goes_on k s 2 f (codes ")" ∷ []) o (h.0, pushed_some ts (v ∷ p), All-push (IsPart ends_term) ts (v ∷ p) h.1 q) (omega arith) (tight k s o (wide s k h.2))
    (end_words (opened k) (goal_words (argument w ts)) (v ∷ p) (w ∷ codes "(" ∷ parted (codes ",") (ts ++ (v ∷ p) ∷ [])) (codes ")")
    (ap (λ z. w ∷ codes "(" ∷ z) (parted_more (codes ",") ts (v ∷ p)))) in
    make k s f (with_part (argument w ts) (v ∷ p) k) (piece.Called ∷ []) g
    (sym (append_assoc (pieces_of k) (goal_pieces (place k) (argument w (ts ++ (v ∷ p) ∷ []))) (piece.Called ∷ []))
    ∙ ap (λ z. z ++ piece.Called ∷ []) (sym (argument_pieces w ts (v ∷ p) k)))
    (with_part_whole (argument w ts) (v ∷ p) k (λ e. omega arith)) (All-cons (IsBehind (length f)) piece.Called [] tt (nothing_behind (length f)))
ended_part (variable w us) v p k h b o =
    let f = opened k ++ (goal_words (variable w us) ++ v ∷ p) in
    let q = part_of ends_variable (v ∷ p) b (λ e. cc) in
    let all : Words = codes "all" ∷ [] in
    let u : Use = (v ∷ p, all) in
    let s = assigned w (us ++ u ∷ []) in
    let n = place k + 2 + length (before (codes ",") (use_texts us)) in
    let x = piece.Value (part (n + length (v ∷ p) + 1) all) in
    let g = goes_on k s 2 f (codes "<-" ∷ codes "all" ∷ codes "]" ∷ []) o
    (h.0, pushed_some us u, All-push IsUse us u h.1 (record { variable = q; value = one_word ends_term refl })) (omega arith) (tight k s o (λ n. refl))
    (ap (λ z. opened k ++ (w ∷ codes "[" ∷ (z ++ codes "]" ∷ []))) (ap (parted (codes ",")) (uses_more us u) ∙ parted_more (codes ",") (use_texts us) (use_text u))
    ∙ use_end (opened k) w (codes "[") (before (codes ",") (use_texts us)) (v ∷ p) (codes "<-") (codes "all") (codes "]")) in
    make k s f (with_part (variable w us) (v ∷ p) k) (x ∷ []) g
    (ap (λ z. pieces_of k ++ (piece.Label (place k) ∷ z)) (use_more (place k + 2) us u n refl
    ∙ sym (append_assoc (use_pieces (place k + 2) us) (piece.Variable (part n (v ∷ p)) ∷ []) (x ∷ [])))
    ∙ (sym (append_assoc (pieces_of k) (piece.Label (place k) ∷ (use_pieces (place k + 2) us ++ piece.Variable (part n (v ∷ p)) ∷ [])) (x ∷ []))
    ∙ ap (λ z. z ++ x ∷ []) (sym (variable_pieces w us (v ∷ p) k))))
    (with_part_whole (variable w us) (v ∷ p) k (λ e. omega arith))
    (All-cons (IsBehind (length f)) x [] (omega (arith, part_end (opened k) (goal_words (variable w us)) (v ∷ p), length-append (opened k) (goal_words (variable w us))))
    (nothing_behind (length f)))
  where
    use_end : (a : Words) (w o : Word) (b p : Words) (x u c : Word) → a ++ (w ∷ o ∷ ((b ++ (p ++ x ∷ u ∷ [])) ++ c ∷ [])) ≡ (a ++ ((w ∷ o ∷ b) ++ p)) ++ x ∷ u ∷ c ∷ []
    use_end a w o b p x u c = simp append_assoc
ended_part (value w us x) v p k h b o =
    let f = opened k ++ (goal_words (value w us x) ++ v ∷ p) in
    let q = part_of ends_term (v ∷ p) b (λ e. cc) in
    let u : Use = (x, v ∷ p) in
    let s = assigned w (us ++ u ∷ []) in
    let g = goes_on k s 2 f (codes "]" ∷ []) o
    (h.0, pushed_some us u, All-push IsUse us u h.1 (record { variable = h.2; value = q })) (omega arith) (tight k s o (λ n. refl))
    (ap (λ z. opened k ++ (w ∷ codes "[" ∷ (z ++ codes "]" ∷ []))) (ap (parted (codes ",")) (uses_more us u) ∙ parted_more (codes ",") (use_texts us) (use_text u))
    ∙ value_end (opened k) w (codes "[") (before (codes ",") (use_texts us)) x (codes "<-") (v ∷ p) (codes "]")) in
    make k s f (with_part (value w us x) (v ∷ p) k) [] g
    (sym (value_pieces w us x (v ∷ p) k) ∙ sym (append-nil (with_part (value w us x) (v ∷ p) k)))
    (with_part_whole (value w us x) (v ∷ p) k (λ e. omega arith)) (nothing_behind (length f))
  where
    value_end : (a : Words) (w o : Word) (b x : Words) (v : Word) (p : Words) (c : Word) → a ++ (w ∷ o ∷ ((b ++ (x ++ v ∷ p)) ++ c ∷ [])) ≡ (a ++ ((w ∷ o ∷ (b ++ (x ++ v ∷ []))) ++ p)) ++ c ∷ []
    value_end a w o b x v p c = simp append_assoc
ended_part (pattern w) v p k h b o =
    let f = opened k ++ (goal_words (pattern w) ++ v ∷ p) in
    let q = part_of ends_test (v ∷ p) b (λ e. cc) in
    let s = tested w (v ∷ p) None in
    let g = goes_on k s 2 f [] o (h.0, q, tt) (omega arith) (tight k s o (wide s k h.1))
    (ap (λ z. opened k ++ w ∷ z) (append-nil (v ∷ p)) ∙ sym (append-nil f)) in
    make k s f (with_part (pattern w) (v ∷ p) k) [] g
    (sym (pattern_pieces w (v ∷ p) k) ∙ sym (append-nil (with_part (pattern w) (v ∷ p) k)))
    (with_part_whole (pattern w) (v ∷ p) k (λ e. omega arith)) (nothing_behind (length f))
ended_part (fragment w p c cs) v q k h b o =
    let f = opened k ++ (goal_words (fragment w p c cs) ++ v ∷ q) in
    let t = part_of ends_fragment (v ∷ q) b (λ e. cc) in
    let s = tested w p (Some (c, cs ++ (v ∷ q) ∷ [])) in
    let g = goes_on k s 2 f [] o
    (h.0, h.2, record { sign = h.3; some = pushed_some cs (v ∷ q); fragments = All-push (IsPart ends_fragment) cs (v ∷ q) h.4 t })
    (omega arith) (tight k s o (wide s k h.1)) (ap (λ z. opened k ++ z) (fragment_text w p c cs (v ∷ q)) ∙ sym (append-nil f)) in
    make k s f (with_part (fragment w p c cs) (v ∷ q) k) [] g
    (sym (fragment_pieces_more w p c cs (v ∷ q) k) ∙ sym (append-nil (with_part (fragment w p c cs) (v ∷ q) k)))
    (with_part_whole (fragment w p c cs) (v ∷ q) k (λ e. omega arith)) (nothing_behind (length f))

-- ---- a part that goes on

tail_longer : (p : Words) (d : ℕ) → length p < length (p ++ tail d)
unfolding tail
tail_longer p d = omega (arith, length-append p (tail d))

begun_part : (g : Goal) (p : Words) (d : ℕ) (k : Frames) → IsGoal g k → IsBegun (ends g) p d → AreOpen k
    → ArePiecesBefore (opened k ++ (goal_words g ++ p)) (pieces_of k ++ goal_pieces (place k) g)
begun_part (argument w ts) p d k h b o =
    let f = opened k ++ (goal_words (argument w ts) ++ p) in
    let t = p ++ tail d in
    let q = ended ends_term p d refl b in
    let s = called w (ts ++ t ∷ []) in
    let n = place k + 2 + length (before (codes ",") ts) in
    let g = goes_on k s 2 f (tail d ++ codes ")" ∷ []) o (h.0, pushed_some ts t, All-push (IsPart ends_term) ts t h.1 q) (omega arith) (tight k s o (wide s k h.2))
    (ap (λ z. opened k ++ (w ∷ codes "(" ∷ (z ++ codes ")" ∷ []))) (parted_more (codes ",") ts t)
    ∙ argument_words (opened k) w (codes "(") (before (codes ",") ts) p (tail d) (codes ")" ∷ [])) in
    make k s f (pieces_of k ++ goal_pieces (place k) (argument w ts)) (piece.Argument (part n t) ∷ piece.Called ∷ []) g
    (ap (λ z. pieces_of k ++ (piece.Call (place k) ∷ (z ++ piece.Called ∷ []))) (term_more (place k + 2) ts t)
    ∙ last_two (pieces_of k) (piece.Call (place k)) (term_pieces (place k + 2) ts) (piece.Argument (part n t)) piece.Called)
    (goal_within (argument w ts) k (length f) (omega (arith, part_end (opened k) (goal_words (argument w ts)) p)))
    (All-cons (IsBehind (length f)) (piece.Argument (part n t)) (piece.Called ∷ [])
    (omega (arith, tail_longer p d, part_end (opened k) (goal_words (argument w ts)) p, length-append (opened k) (goal_words (argument w ts))))
    (All-cons (IsBehind (length f)) piece.Called [] tt (nothing_behind (length f))))
  where
    last_two : (a : List Piece) (c : Piece) (b : List Piece) (x y : Piece) → a ++ (c ∷ ((b ++ x ∷ []) ++ y ∷ [])) ≡ (a ++ (c ∷ b)) ++ x ∷ y ∷ []
    last_two a c b x y = simp append_assoc
begun_part (variable w us) p d k h b o =
    let f = opened k ++ (goal_words (variable w us) ++ p) in
    let t = p ++ tail d in
    let q = ended ends_variable p d refl b in
    let all : Words = codes "all" ∷ [] in
    let u : Use = (t, all) in
    let s = assigned w (us ++ u ∷ []) in
    let n = place k + 2 + length (before (codes ",") (use_texts us)) in
    let x = piece.Value (part (n + length t + 1) all) in
    let g = goes_on k s 2 f (tail d ++ codes "<-" ∷ codes "all" ∷ codes "]" ∷ []) o
    (h.0, pushed_some us u, All-push IsUse us u h.1 (record { variable = q; value = one_word ends_term refl })) (omega arith) (tight k s o (λ n. refl))
    (ap (λ z. opened k ++ (w ∷ codes "[" ∷ (z ++ codes "]" ∷ []))) (ap (parted (codes ",")) (uses_more us u) ∙ parted_more (codes ",") (use_texts us) (use_text u))
    ∙ variable_words (opened k) w (codes "[") (before (codes ",") (use_texts us)) p (tail d) (codes "<-") (codes "all" ∷ []) (codes "]" ∷ [])) in
    make k s f (pieces_of k ++ goal_pieces (place k) (variable w us)) (piece.Variable (part n t) ∷ x ∷ []) g
    (ap (λ z. pieces_of k ++ (piece.Label (place k) ∷ z)) (use_more (place k + 2) us u n refl)
    ∙ sym (append_assoc (pieces_of k) (piece.Label (place k) ∷ use_pieces (place k + 2) us) (piece.Variable (part n t) ∷ x ∷ [])))
    (goal_within (variable w us) k (length f) (omega (arith, part_end (opened k) (goal_words (variable w us)) p)))
    (All-cons (IsBehind (length f)) (piece.Variable (part n t)) (x ∷ [])
    (omega (arith, tail_longer p d, part_end (opened k) (goal_words (variable w us)) p, length-append (opened k) (goal_words (variable w us))))
    (All-cons (IsBehind (length f)) x []
    (omega (arith, tail_longer p d, part_end (opened k) (goal_words (variable w us)) p, length-append (opened k) (goal_words (variable w us))))
    (nothing_behind (length f))))
begun_part (value w us x) p d k h b o =
    let f = opened k ++ (goal_words (value w us x) ++ p) in
    let t = p ++ tail d in
    let q = ended ends_term p d refl b in
    let u : Use = (x, t) in
    let s = assigned w (us ++ u ∷ []) in
    let n = place k + 2 + length (before (codes ",") (use_texts us)) in
    let y = piece.Value (part (n + length x + 1) t) in
    let g = goes_on k s 2 f (tail d ++ codes "]" ∷ []) o
    (h.0, pushed_some us u, All-push IsUse us u h.1 (record { variable = h.2; value = q })) (omega arith) (tight k s o (λ n. refl))
    (ap (λ z. opened k ++ (w ∷ codes "[" ∷ (z ++ codes "]" ∷ []))) (ap (parted (codes ",")) (uses_more us u) ∙ parted_more (codes ",") (use_texts us) (use_text u))
    ∙ value_words (opened k) w (codes "[") (before (codes ",") (use_texts us)) x (codes "<-") p (tail d) (codes "]" ∷ [])) in
    make k s f (pieces_of k ++ goal_pieces (place k) (value w us x)) (y ∷ []) g
    (ap (λ z. pieces_of k ++ (piece.Label (place k) ∷ z)) (use_more (place k + 2) us u n refl
    ∙ sym (append_assoc (use_pieces (place k + 2) us) (piece.Variable (part n x) ∷ []) (y ∷ [])))
    ∙ sym (append_assoc (pieces_of k) (piece.Label (place k) ∷ (use_pieces (place k + 2) us ++ piece.Variable (part n x) ∷ [])) (y ∷ [])))
    (goal_within (value w us x) k (length f) (omega (arith, part_end (opened k) (goal_words (value w us x)) p)))
    (All-cons (IsBehind (length f)) y []
    (omega (
      arith,
      tail_longer p d,
      part_end (opened k) (goal_words (value w us x)) p,
      length-append (opened k) (goal_words (value w us x)),
      value_length (before (codes ",") (use_texts us)) x (codes "<-"),
    ))
    (nothing_behind (length f)))
begun_part (pattern w) p d k h b o =
    let f = opened k ++ (goal_words (pattern w) ++ p) in
    let t = p ++ tail d in
    let q = ended ends_test p d refl b in
    let s = tested w t None in
    let g = goes_on k s 2 f (tail d) o (h.0, q, tt) (omega arith) (tight k s o (wide s k h.1)) (pattern_words (opened k) w p (tail d)) in
    make k s f (pieces_of k ++ goal_pieces (place k) (pattern w)) (piece.Pattern (part (place k + 1) t) ∷ []) g
    (sym (append_assoc (pieces_of k) (piece.Test (place k) ∷ []) (piece.Pattern (part (place k + 1) t) ∷ [])))
    (goal_within (pattern w) k (length f) (omega (arith, part_end (opened k) (w ∷ []) p)))
    (All-cons (IsBehind (length f)) (piece.Pattern (part (place k + 1) t)) []
    (omega (arith, tail_longer p d, part_end (opened k) (w ∷ []) p, length-append (opened k) (w ∷ []))) (nothing_behind (length f)))
begun_part (fragment w p c cs) q d k h b o =
    let f = opened k ++ (goal_words (fragment w p c cs) ++ q) in
    let t = q ++ tail d in
    let part_t = ended ends_fragment q d refl b in
    let s = tested w p (Some (c, cs ++ t ∷ [])) in
    let m = place k + 1 + length p + length c in
    let x = piece.Fragment (part (m + length (before (codes "/\\") cs)) t) in
    let g = goes_on k s 2 f (tail d) o
    (h.0, h.2, record { sign = h.3; some = pushed_some cs t; fragments = All-push (IsPart ends_fragment) cs t h.4 part_t })
    (omega arith) (tight k s o (wide s k h.1))
    (ap (λ z. opened k ++ (w ∷ (p ++ (c ++ z)))) (parted_more (codes "/\\") cs t) ∙ fragment_words (opened k) w p c (before (codes "/\\") cs) q (tail d)) in
    make k s f (pieces_of k ++ goal_pieces (place k) (fragment w p c cs)) (x ∷ []) g
    (ap (λ z. pieces_of k ++ (piece.Test (place k) ∷ piece.Pattern (part (place k + 1) p) ∷ z)) (fragment_more m cs t)
    ∙ sym (append_assoc (pieces_of k) (goal_pieces (place k) (fragment w p c cs)) (x ∷ [])))
    (goal_within (fragment w p c cs) k (length f) (omega (arith, part_end (opened k) (goal_words (fragment w p c cs)) q)))
    (All-cons (IsBehind (length f)) x []
    (omega (
      arith,
      tail_longer q d,
      part_end (opened k) (goal_words (fragment w p c cs)) q,
      length-append (opened k) (goal_words (fragment w p c cs)),
      fragment_length w p c (before (codes "/\\") cs),
    ))
    (nothing_behind (length f)))

part_before : (g : Goal) (p : Words) (d : ℕ) (k : Frames) → IsGoal g k → IsBegun (ends g) p d → AreOpen k
    → ArePiecesBefore (opened k ++ (goal_words g ++ p)) (flush_part g p d k)
part_before g [] d k h b o = begun_part g [] d k h b o
part_before g (v ∷ p) zero k h b o = ended_part g v p k h b o
part_before g (v ∷ p) (suc d) k h b o = begun_part g (v ∷ p) (suc d) k h b o

such_before : (w : Word) (p : Words) (v : Word) (k : Frames) → beginning w ≡ of_test → is_narrow k ≡ false → IsPart ends_test p → v ≡ codes "such" → AreOpen k
    → ArePiecesBefore (opened k ++ w ∷ (p ++ v ∷ [])) (flushed (such_of w p v k))
such_before w p v k h free q e o =
    let f = opened k ++ w ∷ (p ++ v ∷ []) in
    let all : Words = codes "all" ∷ [] in
    let s = tested w p (Some (v ∷ codes "that" ∷ [], all ∷ [])) in
    let x = piece.Fragment (part (place k + 1 + length p + 2) all) in
    let l : length f ≡ place k + 1 + length p + 1 = length-append (opened k) (w ∷ (p ++ v ∷ [])) ∙ (ap (λ n. place k + suc n) (one_longer p v) ∙ omega arith) in
    let g = goes_on k s 2 f (codes "that" ∷ codes "all" ∷ []) o (
      h,
      q,
      record {
        sign = inr (ap (λ z. z ∷ codes "that" ∷ []) e);
        some = λ x. cc;
        fragments = All-cons (IsPart ends_fragment) all [] (one_word ends_fragment refl) (All-nil (IsPart ends_fragment));
      },
    )
    (omega arith) (tight k s o (wide s k free)) (such_words (opened k) w p v (codes "that" ∷ codes "all" ∷ [])) in
    make k s f (flushed (such_of w p v k)) (x ∷ []) g
    (sym (append_assoc (pieces_of k) (piece.Test (place k) ∷ piece.Pattern (part (place k + 1) p) ∷ []) (x ∷ [])))
    (All-append (IsWhole (length f)) (pieces_of k) (piece.Test (place k) ∷ piece.Pattern (part (place k + 1) p) ∷ []) (frames_within k (length f) (omega (arith, l)))
    (All-cons (IsWhole (length f)) (piece.Test (place k)) (piece.Pattern (part (place k + 1) p) ∷ []) (omega (arith, l))
    (All-cons (IsWhole (length f)) (piece.Pattern (part (place k + 1) p)) [] (omega (arith, l)) (All-nil (IsWhole (length f))))))
    (All-cons (IsBehind (length f)) x [] (omega (arith, l)) (nothing_behind (length f)))

pub pieces_before : (f : Words) (x : State) → Stands f x → ArePiecesBefore f (flushed x)
pieces_before f (operand k) h =
    let all = plain (codes "all") in
    subst (λ z. ArePiecesBefore z (pieces_of k)) h.words
    (make k all (opened k) (pieces_of k) (piece.Plain (place k) ∷ [])
    (goes_on k all 2 (opened k) (codes "all" ∷ []) h.right stands_by_itself (omega arith) (tight k all h.right (λ n. is_rule)) refl) refl
    (frames_within k (place k) (omega arith))
    (All-cons (IsBehind (place k)) (piece.Plain (place k)) [] (omega arith) (nothing_behind (place k))))
pieces_before f (named w k) h =
    let l = one_longer (opened k) w in
    subst (λ z. ArePiecesBefore z (behind_it (plain w) k)) h.words
    (make k (plain w) (opened k ++ w ∷ []) (behind_it (plain w) k) []
    (goes_on k (plain w) 2 (opened k ++ w ∷ []) [] h.right.1 (names_alone (beginning w) h.right.0) (omega arith)
    (tight k (plain w) h.right.1 (λ n. names_rule (beginning w) h.right.0)) (sym (append-nil (opened k ++ w ∷ []))))
    (sym (append-nil (behind_it (plain w) k)))
    (All-push (IsWhole (length (opened k ++ w ∷ []))) (pieces_of k) (piece.Plain (place k)) (frames_within k (length (opened k ++ w ∷ [])) (omega (arith, l))) (omega (arith, l)))
    (nothing_behind (length (opened k ++ w ∷ []))))
pieces_before f (done s k) h =
    let l = length-append (opened k) (text s) in
    subst (λ z. ArePiecesBefore z (behind_it s k)) h.words
    (make k s (opened k ++ text s) (behind_it s k) []
    (goes_on k s 2 (opened k ++ text s) [] h.right.3 h.right.0 (omega arith) (tight k s h.right.3 h.right.2) (sym (append-nil (opened k ++ text s))))
    (sym (append-nil (behind_it s k)))
    (All-append (IsWhole (length (opened k ++ text s))) (pieces_of k) (pieces (place k) s) (frames_within k (length (opened k ++ text s)) (omega (arith, l)))
    (pieces_within s (place k) (length (opened k ++ text s)) (omega (arith, l))))
    (nothing_behind (length (opened k ++ text s))))
pieces_before f (reading g p d k) h = subst (λ z. ArePiecesBefore z (flush_part g p d k)) h.words (part_before g p d k h.right.0 h.right.1 h.right.2)
pieces_before f (such_of w p v k) h =
    subst (λ z. ArePiecesBefore z (flushed (such_of w p v k))) h.words (such_before w p v k h.right.0 h.right.1 h.right.2 h.right.3 h.right.4)

-- ---- the code's reader

flush_image : (g : Goal) (p : Words) (d : ℕ) (k : Frames) → machine.flushed (goal_to g p k) (code (reading g p d k)) ≡ flush_part g p d k
flush_image g [] d k =
    ap (λ b. if nat_eq d 0 && not b then with_part g [] k else pieces_of k ++ goal_pieces (place k) g) (same_place g k)
    ∙ ap (λ b. if b then with_part g [] k else pieces_of k ++ goal_pieces (place k) g) (and_right (nat_eq d 0) false refl)
flush_image g (v ∷ p) zero k = ap (λ b. if not b then with_part g (v ∷ p) k else pieces_of k ++ goal_pieces (place k) g) (other_place g v p k)
flush_image g (v ∷ p) (suc d) k =
    ap (λ b. if b && not (nat_eq (goal_from g k) (goal_to g (v ∷ p) k)) then with_part g (v ∷ p) k else pieces_of k ++ goal_pieces (place k) g)
    (ne_eqb (suc d) 0 (λ e. omega (arith, e)))

pub flushed_image : (x : State) → machine.flushed (length (state_words x)) (code x) ≡ flushed x
flushed_image (operand k) = refl
flushed_image (named w k) = refl
flushed_image (done s k) = refl
flushed_image (reading g p d k) = flush_image g p d k
flushed_image (such_of w p v k) = refl
