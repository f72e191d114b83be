-- The code's reader keeps places where shapes have words: one step of the one is a step of the other.
use Rattle.std.proofs.Common.{◌≡◌, ℕ, zero, suc, ◌+◌, List, [], ◌∷◌, ◌++◌, length, Bool, true, false, not, ◌&&◌, Option, Some, None, refl, sym, ap, ◌∙◌, arith, append_assoc, append-nil, length-append}
use Rattle.std.proofs.lemmas.Bool.{ne_eqb, eq-eqb, and_right}
use Rattle.std.specs.Prelude.{codes, nat_eq, nat_lt, if◌then◌else◌}
use Rattle.mau_shapes.specs.Words.{Word, Words, is, Beginning, of_bracket, of_all, of_form, of_test, of_top, of_wrapper, of_nothing, of_name, beginning, Role, mark, joint, question, colon, condition, such, conjunction, comma, arrow, opening_round, opening_square, closing_round, closing_square, role, behind}
use Rattle.mau_shapes.specs.Shape.{Use, Shape, plain, tested, marked, joined, chosen, use_text, use_texts, text, stops}
use Rattle.mau_shapes.specs.Pieces.{part, term_pieces, fragment_pieces, use_pieces, pieces}
use Rattle.mau_shapes.specs.Reader as whole
use Rattle.mau_shapes.specs.Reader.{bracket, wrapper, top_wrapper, left, asked, answered, Frames, Goal, argument, variable, value, pattern, fragment, State, operand, named, done, reading, such_of, ends, close, is_narrow, step, go_on, run}
use Rattle.mau_shapes.specs.Machine as machine
use Rattle.mau_shapes.specs.Machine.{part_ends, top_of, is_top, closed, close_piece}
use Rattle.mau_shapes.specs.declared.words.PartKind.{PartKind}
use Rattle.mau_shapes.specs.declared.words.PartKind.TheVariants as kind
use Rattle.mau_shapes.specs.declared.pieces.Part.{Part}
use Rattle.mau_shapes.specs.declared.pieces.Piece.{Piece}
use Rattle.mau_shapes.specs.declared.pieces.Piece.TheVariants as piece
use Rattle.mau_shapes.specs.declared.frames.Frame.{Frame}
use Rattle.mau_shapes.specs.declared.frames.Frame.TheVariants as waiting
use Rattle.mau_shapes.specs.declared.reader.Mode.{Mode}
use Rattle.mau_shapes.specs.declared.reader.Mode.TheVariants as mode
use Rattle.mau_shapes.specs.declared.reader.Reader.{Reader}
use Rattle.mau_shapes.proofs.Standing.{opened, before, before_more, parted_more, uses_more, goal_words, state_words}

-- ---- what waits

abbrev pub place : Frames → ℕ
place k = length (opened k)

abbrev pub frame_at : ℕ → whole.Frame → Frame
frame_at i bracket = waiting.Bracket
frame_at i (wrapper w) = waiting.Wrapper i
frame_at i (top_wrapper w) = waiting.Top i
frame_at i (left w m e) = waiting.Left m (i + length (text e))
frame_at i (asked e) = waiting.Asked
frame_at i (answered e f) = waiting.Answered

abbrev pub frames_of : Frames → List Frame
frames_of [] = []
frames_of (x ∷ k) = frame_at (place k) x ∷ frames_of k

abbrev pub pieces_of : Frames → List Piece
pieces_of [] = []
pieces_of (bracket ∷ k) = pieces_of k
pieces_of (wrapper w ∷ k) = pieces_of k ++ piece.Wrapper (place k) ∷ []
pieces_of (top_wrapper w ∷ k) = pieces_of k ++ piece.Wrapper (place k) ∷ []
pieces_of (left w m e ∷ k) = pieces_of k ++ pieces (place k) e
pieces_of (asked e ∷ k) = pieces_of k ++ pieces (place k) e
pieces_of (answered e f ∷ k) = pieces_of k ++ (pieces (place k) e ++ pieces (place k + length (text e) + 1) f)

-- the pieces behind a strategy
abbrev pub behind_it : Shape → Frames → List Piece
behind_it s k = pieces_of k ++ pieces (place k) s

pub one_longer : (a : Words) (w : Word) → length (a ++ w ∷ []) ≡ length a + 1
one_longer a w = simp length-append

pub two_longer : (a : Words) (w u : Word) → length (a ++ w ∷ u ∷ []) ≡ length a + 2
two_longer a w u = simp length-append

pub place_behind : (a b : Words) (w : Word) → length (a ++ (b ++ w ∷ [])) ≡ length a + length b + 1
place_behind a b w = length-append a (b ++ w ∷ []) ∙ (ap (λ n. length a + n) (one_longer b w) ∙ omega arith)

pub place_answered : (a b : Words) (q : Word) (c : Words) (v : Word) → length (a ++ (b ++ q ∷ (c ++ v ∷ []))) ≡ length a + length b + 1 + length c + 1
place_answered a b q c v =
    length-append a (b ++ q ∷ (c ++ v ∷ [])) ∙ (ap (λ n. length a + n) (length-append b (q ∷ (c ++ v ∷ []))
    ∙ ap (λ n. length b + suc n) (one_longer c v)) ∙ omega arith)

narrow_image : (k : Frames) → is_top (top_of (frames_of k)) ≡ is_narrow k
narrow_image [] = refl
narrow_image (bracket ∷ k) = refl
narrow_image (wrapper w ∷ k) = refl
narrow_image (top_wrapper w ∷ k) = refl
narrow_image (left w m e ∷ k) = refl
narrow_image (asked e ∷ k) = refl
narrow_image (answered e f ∷ k) = refl

-- ---- closed forms

pub joined_pieces : (w : Word) (m : ℕ) (e s : Shape) (k : Frames)
    → behind_it s (left w m e ∷ k) ++ piece.Joined (place k + length (text e)) ∷ [] ≡ behind_it (joined w e s) k
joined_pieces w m e s k =
    ap (λ i. ((pieces_of k ++ pieces (place k) e) ++ pieces i s) ++ piece.Joined (place k + length (text e)) ∷ []) (place_behind (opened k) (text e) w)
    ∙ (append_assoc (pieces_of k ++ pieces (place k) e) (pieces (place k + length (text e) + 1) s) (piece.Joined (place k + length (text e)) ∷ [])
    ∙ append_assoc (pieces_of k) (pieces (place k) e) (pieces (place k + length (text e) + 1) s ++ piece.Joined (place k + length (text e)) ∷ []))

pub chosen_pieces : (e f s : Shape) (k : Frames) → behind_it s (answered e f ∷ k) ++ piece.Chosen ∷ [] ≡ behind_it (chosen e f s) k
chosen_pieces e f s k =
    ap (λ i. ((pieces_of k ++ (pieces (place k) e ++ pieces (place k + length (text e) + 1) f)) ++ pieces i s) ++ piece.Chosen ∷ [])
    (place_answered (opened k) (text e) (codes "?") (text f) (codes ":"))
    ∙ (append_assoc (pieces_of k ++ (pieces (place k) e ++ pieces (place k + length (text e) + 1) f))
    (pieces (place k + length (text e) + 1 + length (text f) + 1) s) (piece.Chosen ∷ [])
    ∙ (append_assoc (pieces_of k) (pieces (place k) e ++ pieces (place k + length (text e) + 1) f)
    (pieces (place k + length (text e) + 1 + length (text f) + 1) s ++ piece.Chosen ∷ [])
    ∙ ap (λ z. pieces_of k ++ z) (append_assoc (pieces (place k) e) (pieces (place k + length (text e) + 1) f)
    (pieces (place k + length (text e) + 1 + length (text f) + 1) s ++ piece.Chosen ∷ []))))

abbrev pub both : Shape × Frames → List Frame × List Piece
both x = (frames_of x.1, behind_it x.0 x.1)

abbrev go : ℕ → Frame → List Frame → List Piece → Option Piece → List Frame × List Piece
go m f fs ps o = elim o [ None ↦ (f ∷ fs, ps) | Some p ↦ closed m fs (ps ++ p ∷ []) ]

pub close_image : (m : ℕ) (s : Shape) (k : Frames) → closed m (frames_of k) (behind_it s k) ≡ both (close m s k)
close_image m s [] = refl
close_image m s (bracket ∷ k) = refl
close_image m s (wrapper w ∷ k) = refl
close_image m s (top_wrapper w ∷ k) = refl
close_image m s (asked e ∷ k) = refl
close_image m s (left w j e ∷ k) =
    elim (nat_lt j m) as (λ b. go m (waiting.Left j (place k + length (text e))) (frames_of k) (behind_it s (left w j e ∷ k))
    (if b then Some (piece.Joined (place k + length (text e))) else None)
    ≡ both (if b then close m (joined w e s) k else (s, left w j e ∷ k))) [
      | true ↦ ap (closed m (frames_of k)) (joined_pieces w j e s k) ∙ close_image m (joined w e s) k
      | false ↦ refl
    ]
close_image m s (answered e f ∷ k) =
    elim (nat_lt 6 m) as (λ b. go m waiting.Answered (frames_of k) (behind_it s (answered e f ∷ k)) (if b then Some piece.Chosen else None)
    ≡ both (if b then close m (chosen e f s) k else (s, answered e f ∷ k))) [
      | true ↦ ap (closed m (frames_of k)) (chosen_pieces e f s k) ∙ close_image m (chosen e f s) k
      | false ↦ refl
    ]

-- the words stay
left_words : (a b : Words) (w : Word) (c : Words) → (a ++ (b ++ w ∷ [])) ++ c ≡ a ++ (b ++ w ∷ c)
left_words a b w c = simp append_assoc

answered_words : (a b : Words) (q : Word) (c : Words) (v : Word) (d : Words) → (a ++ (b ++ q ∷ (c ++ v ∷ []))) ++ d ≡ a ++ (b ++ q ∷ (c ++ v ∷ d))
answered_words a b q c v d = simp append_assoc

abbrev all_words : Shape × Frames → Words
all_words x = opened x.1 ++ text x.0

pub close_words : (m : ℕ) (s : Shape) (k : Frames) → all_words (close m s k) ≡ opened k ++ text s
close_words m s [] = refl
close_words m s (bracket ∷ k) = refl
close_words m s (wrapper w ∷ k) = refl
close_words m s (top_wrapper w ∷ k) = refl
close_words m s (asked e ∷ k) = refl
close_words m s (left w j e ∷ k) =
    elim (nat_lt j m) as (λ b. all_words (if b then close m (joined w e s) k else (s, left w j e ∷ k)) ≡ opened (left w j e ∷ k) ++ text s) [
      | true ↦ close_words m (joined w e s) k ∙ sym (left_words (opened k) (text e) w (text s))
      | false ↦ refl
    ]
close_words m s (answered e f ∷ k) =
    elim (nat_lt 6 m) as (λ b. all_words (if b then close m (chosen e f s) k else (s, answered e f ∷ k)) ≡ opened (answered e f ∷ k) ++ text s) [
      | true ↦ close_words m (chosen e f s) k ∙ sym (answered_words (opened k) (text e) (codes "?") (text f) (codes ":") (text s))
      | false ↦ refl
    ]

-- ---- states

abbrev pub kind_of : Goal → PartKind
kind_of (argument w ts) = kind.Argument
kind_of (variable w us) = kind.Variable
kind_of (value w us x) = kind.Value
kind_of (pattern w) = kind.Pattern
kind_of (fragment w p c cs) = kind.Fragment

abbrev pub goal_pieces : ℕ → Goal → List Piece
goal_pieces i (argument w ts) = piece.Call i ∷ term_pieces (i + 2) ts
goal_pieces i (variable w us) = piece.Label i ∷ use_pieces (i + 2) us
goal_pieces i (value w us x) = piece.Label i ∷ (use_pieces (i + 2) us ++ piece.Variable (part (i + 2 + length (before (codes ",") (use_texts us))) x) ∷ [])
goal_pieces i (pattern w) = piece.Test i ∷ []
goal_pieces i (fragment w p c cs) = piece.Test i ∷ piece.Pattern (part (i + 1) p) ∷ fragment_pieces (i + 1 + length p + length c) cs

abbrev pub reader : Mode → List Frame → List Piece → Reader
reader m fs ps = record { mode = m; frames = fs; pieces = ps }

abbrev pub code : State → Reader
code (operand k) = reader mode.Operand (frames_of k) (pieces_of k)
code (named w k) = reader (mode.Named (place k) (beginning w)) (frames_of k) (pieces_of k)
code (done s k) = reader mode.Done (frames_of k) (behind_it s k)
code (reading g p d k) = reader (mode.Reading (kind_of g) (length (opened k ++ goal_words g)) d) (frames_of k) (pieces_of k ++ goal_pieces (place k) g)
code (such_of w p v k) = reader mode.Such (frames_of k) (pieces_of k ++ (piece.Test (place k) ∷ piece.Pattern (part (place k + 1) p) ∷ []))

abbrev pub image : Option State → Option Reader
image None = None
image (Some x) = Some (code x)

unless_image : (a b : Bool) (o : Option Reader) (u : Option State) → a ≡ b → o ≡ image u → machine.unless a o ≡ image (whole.unless b u)
unless_image true true o u e h = refl
unless_image false false o u e h = h
unless_image true false o u e h = cc
unless_image false true o u e h = cc

-- ---- behind a strategy

leave_image : (k : Frames) (s : Shape) → machine.leave_by (frames_of k) (behind_it s k) ≡ image (whole.leave_in s k)
leave_image [] s = refl
leave_image (bracket ∷ k) s =
    ap (λ i. Some (reader mode.Done (frames_of k) (pieces_of k ++ pieces i s))) (one_longer (opened k) (codes "("))
leave_image (wrapper w ∷ k) s =
    ap (λ i. Some (reader mode.Done (frames_of k) (((pieces_of k ++ piece.Wrapper (place k) ∷ []) ++ pieces i s) ++ piece.Wrapped (place k) ∷ []))) (two_longer (opened k) w (codes "("))
    ∙ ap (λ z. Some (reader mode.Done (frames_of k) z))
    (append_assoc (pieces_of k ++ piece.Wrapper (place k) ∷ []) (pieces (place k + 2) s) (piece.Wrapped (place k) ∷ [])
    ∙ append_assoc (pieces_of k) (piece.Wrapper (place k) ∷ []) (pieces (place k + 2) s ++ piece.Wrapped (place k) ∷ []))
leave_image (top_wrapper w ∷ k) s =
    ap (λ i. Some (reader mode.Done (frames_of k) (((pieces_of k ++ piece.Wrapper (place k) ∷ []) ++ pieces i s) ++ piece.Wrapped (place k) ∷ []))) (two_longer (opened k) w (codes "("))
    ∙ ap (λ z. Some (reader mode.Done (frames_of k) z))
    (append_assoc (pieces_of k ++ piece.Wrapper (place k) ∷ []) (pieces (place k + 2) s) (piece.Wrapped (place k) ∷ [])
    ∙ append_assoc (pieces_of k) (piece.Wrapper (place k) ∷ []) (pieces (place k + 2) s ++ piece.Wrapped (place k) ∷ []))
leave_image (left w m e ∷ k) s = refl
leave_image (asked e ∷ k) s = refl
leave_image (answered e f ∷ k) s = refl

answer_image : (k : Frames) (s : Shape) → machine.answer_by (frames_of k) (behind_it s k) ≡ image (whole.answer_in s k)
answer_image [] s = refl
answer_image (bracket ∷ k) s = refl
answer_image (wrapper w ∷ k) s = refl
answer_image (top_wrapper w ∷ k) s = refl
answer_image (left w m e ∷ k) s = refl
answer_image (answered e f ∷ k) s = refl
answer_image (asked e ∷ k) s =
    ap (λ i. Some (reader mode.Operand (waiting.Answered ∷ frames_of k) ((pieces_of k ++ pieces (place k) e) ++ pieces i s))) (place_behind (opened k) (text e) (codes "?"))
    ∙ ap (λ z. Some (reader mode.Operand (waiting.Answered ∷ frames_of k) z)) (append_assoc (pieces_of k) (pieces (place k) e) (pieces (place k + length (text e) + 1) s))

follow_image : (r : Role) (v : Word) (s : Shape) (k : Frames) (m : Mode)
    → machine.follow r (length (opened k ++ text s)) (reader m (frames_of k) (behind_it s k)) ≡ image (whole.follow r v s k)
follow_image mark v s k m =
    unless_image (is_top (top_of (frames_of k))) (is_narrow k) _ (Some (done (marked s v) k)) (narrow_image k)
    (ap (λ i. Some (reader mode.Done (frames_of k) ((pieces_of k ++ pieces (place k) s) ++ piece.Marked i ∷ []))) (length-append (opened k) (text s))
    ∙ ap (λ z. Some (reader mode.Done (frames_of k) z)) (append_assoc (pieces_of k) (pieces (place k) s) (piece.Marked (place k + length (text s)) ∷ [])))
follow_image (joint n) v s k m =
    let x = close n s k in
    let i : length (opened k ++ text s) ≡ place x.1 + length (text x.0) = ap length (sym (close_words n s k)) ∙ length-append (opened x.1) (text x.0) in
    unless_image (is_top (top_of (frames_of k))) (is_narrow k) _ (Some (operand (left v n x.0 ∷ x.1))) (narrow_image k)
    (ap (λ y. Some (machine.waits (waiting.Left n (length (opened k ++ text s))) y)) (close_image n s k)
    ∙ ap (λ j. Some (reader mode.Operand (waiting.Left n j ∷ frames_of x.1) (behind_it x.0 x.1))) i)
follow_image question v s k m =
    let x = close 6 s k in
    unless_image (is_top (top_of (frames_of k))) (is_narrow k) _ (Some (operand (asked x.0 ∷ x.1))) (narrow_image k)
    (ap (λ y. Some (machine.waits waiting.Asked y)) (close_image 6 s k))
follow_image colon v s k m =
    let x = close 7 s k in
    unless_image (is_top (top_of (frames_of k))) (is_narrow k) _ (whole.answer_in x.0 x.1) (narrow_image k)
    (ap machine.answer (close_image 7 s k) ∙ answer_image x.1 x.0)
follow_image closing_round v s k m =
    let x = close 7 s k in
    ap machine.leave (close_image 7 s k) ∙ leave_image x.1 x.0
follow_image _ v s k m = refl

-- ---- where a strategy is wanted, and behind a name

begin_image : (b : Beginning) (v : Word) (k : Frames) → beginning v ≡ b → machine.begin b (place k) (code (operand k)) ≡ image (whole.begin b v k)
begin_image of_bracket v k e = unless_image (is_top (top_of (frames_of k))) (is_narrow k) _ (Some (operand (bracket ∷ k))) (narrow_image k) refl
begin_image of_all v k e = refl
begin_image of_form v k e = unless_image (is_top (top_of (frames_of k))) (is_narrow k) _ (Some (done (plain v) k)) (narrow_image k) refl
begin_image of_test v k e = unless_image (is_top (top_of (frames_of k))) (is_narrow k) _ (Some (reading (pattern v) [] 0 k)) (narrow_image k)
    (ap (λ i. Some (reader (mode.Reading kind.Pattern i 0) (frames_of k) (pieces_of k ++ piece.Test (place k) ∷ []))) (sym (one_longer (opened k) v)))
begin_image of_nothing v k e = refl
begin_image of_top v k e = ap (λ b. Some (reader (mode.Named (place k) b) (frames_of k) (pieces_of k))) (sym e)
begin_image of_wrapper v k e = ap (λ b. Some (reader (mode.Named (place k) b) (frames_of k) (pieces_of k))) (sym e)
begin_image of_name v k e = ap (λ b. Some (reader (mode.Named (place k) b) (frames_of k) (pieces_of k))) (sym e)

next_place : (a : Words) (w u : Word) → length (a ++ w ∷ []) + 1 ≡ length (a ++ w ∷ u ∷ [])
next_place a w u = ap (λ n. n + 1) (one_longer a w) ∙ (omega arith ∙ sym (two_longer a w u))

round_image : (b : Beginning) (w : Word) (k : Frames)
    → machine.open_round b (place k) (length (opened k ++ w ∷ [])) (code (named w k)) ≡ image (whole.open_round b w k)
round_image of_top w k = refl
round_image of_wrapper w k = refl
round_image _ w k =
    ap (λ i. Some (reader (mode.Reading kind.Argument i 0) (frames_of k) (pieces_of k ++ piece.Call (place k) ∷ []))) (next_place (opened k) w (codes "("))

name_image : (r : Role) (v w : Word) (k : Frames)
    → machine.behind_name r (beginning w) (place k) (length (opened k ++ w ∷ [])) (code (named w k)) ≡ image (whole.behind_name r v w k)
name_image opening_round v w k =
    unless_image (is_top (top_of (frames_of k))) (is_narrow k) _ (whole.open_round (beginning w) w k) (narrow_image k) (round_image (beginning w) w k)
name_image opening_square v w k =
    ap (λ i. Some (reader (mode.Reading kind.Variable i 0) (frames_of k) (pieces_of k ++ piece.Label (place k) ∷ []))) (next_place (opened k) w (codes "["))
name_image r v w k = follow_image r v (plain w) k (mode.Named (place k) (beginning w))

-- ---- parts

pub part_end : (a b p : Words) → length (a ++ (b ++ p)) ≡ length (a ++ b) + length p
part_end a b p = ap length (sym (append_assoc a b p)) ∙ length-append (a ++ b) p

-- the part p behind the words a and b
here_part : (a b p : Words) (n : ℕ) → length a + length b ≡ n
    → ◌≡◌ {A = Part} (record { start = length (a ++ b); end = length (a ++ (b ++ p)) }) (part n p)
here_part a b p n h =
    let s : length (a ++ b) ≡ n = length-append a b ∙ h in
    let e : length (a ++ (b ++ p)) ≡ n + length p = part_end a b p ∙ ap (λ m. m + length p) s in
    cc

next_from : (a b p c : Words) (v : Word) → c ≡ b ++ (p ++ v ∷ []) → length (a ++ (b ++ p)) + 1 ≡ length (a ++ c)
next_from a b p c v h =
    sym (one_longer (a ++ (b ++ p)) v) ∙ ap length (append_assoc a (b ++ p) (v ∷ []) ∙ (ap (λ z. a ++ z) (append_assoc b p (v ∷ [])) ∙ ap (λ z. a ++ z) (sym h)))

pub before_length : (w : Word) (t : Words) (ts : List Words) → length (before w (t ∷ ts)) ≡ length t + 1 + length (before w ts)
before_length w t ts = length-append t (w ∷ before w ts) ∙ omega arith

pub term_more : (i : ℕ) (ts : List Words) (t : Words)
    → term_pieces i (ts ++ t ∷ []) ≡ term_pieces i ts ++ piece.Argument (part (i + length (before (codes ",") ts)) t) ∷ []
term_more i [] t = let z : i ≡ i + 0 = omega arith in ap (λ n. piece.Argument (part n t) ∷ []) z
term_more i (u ∷ ts) t =
    let z : i + length u + 1 + length (before (codes ",") ts) ≡ i + length (before (codes ",") (u ∷ ts)) = omega (arith, before_length (codes ",") u ts) in
    ap (λ ps. piece.Argument (part i u) ∷ ps) (term_more (i + length u + 1) ts t
    ∙ ap (λ n. term_pieces (i + length u + 1) ts ++ piece.Argument (part n t) ∷ []) z)

pub fragment_more : (i : ℕ) (ts : List Words) (t : Words)
    → fragment_pieces i (ts ++ t ∷ []) ≡ fragment_pieces i ts ++ piece.Fragment (part (i + length (before (codes "/\\") ts)) t) ∷ []
fragment_more i [] t = let z : i ≡ i + 0 = omega arith in ap (λ n. piece.Fragment (part n t) ∷ []) z
fragment_more i (u ∷ ts) t =
    let z : i + length u + 1 + length (before (codes "/\\") ts) ≡ i + length (before (codes "/\\") (u ∷ ts)) = omega (arith, before_length (codes "/\\") u ts) in
    ap (λ ps. piece.Fragment (part i u) ∷ ps) (fragment_more (i + length u + 1) ts t
    ∙ ap (λ n. fragment_pieces (i + length u + 1) ts ++ piece.Fragment (part n t) ∷ []) z)

pub use_length : (u : Use) → length (use_text u) ≡ length u.0 + 1 + length u.1
use_length u = length-append u.0 (codes "<-" ∷ u.1) ∙ omega arith

pub use_more : (i : ℕ) (us : List Use) (u : Use) (n : ℕ) → i + length (before (codes ",") (use_texts us)) ≡ n
    → use_pieces i (us ++ u ∷ []) ≡ use_pieces i us ++ (piece.Variable (part n u.0) ∷ piece.Value (part (n + length u.0 + 1) u.1) ∷ [])
use_more i [] u n h =
    let z : i ≡ n = omega (arith, h) in ap (λ n. piece.Variable (part n u.0) ∷ piece.Value (part (n + length u.0 + 1) u.1) ∷ []) z
use_more i (y ∷ us) u n h =
    let z : i + length y.0 + 1 + length y.1 + 1 + length (before (codes ",") (use_texts us)) ≡ n
    = omega (arith, before_length (codes ",") (use_text y) (use_texts us), use_length y, h) in
    ap (λ ps. piece.Variable (part i y.0) ∷ piece.Value (part (i + length y.0 + 1) y.1) ∷ ps)
    (use_more (i + length y.0 + 1 + length y.1 + 1) us u n z)

-- the pieces with those of one more part
abbrev pub goal_from : Goal → Frames → ℕ
goal_from g k = length (opened k ++ goal_words g)

abbrev pub goal_to : Goal → Words → Frames → ℕ
goal_to g p k = length (opened k ++ (goal_words g ++ p))

abbrev pub part_at : Goal → Words → Frames → Part
part_at g p k = record { start = goal_from g k; end = goal_to g p k }

abbrev pub with_part : Goal → Words → Frames → List Piece
with_part g p k = (pieces_of k ++ goal_pieces (place k) g) ++ machine.part_piece (kind_of g) (part_at g p k) ∷ []

pub argument_pieces : (w : Word) (ts : List Words) (p : Words) (k : Frames)
    → with_part (argument w ts) p k ≡ pieces_of k ++ goal_pieces (place k) (argument w (ts ++ p ∷ []))
argument_pieces w ts p k =
    let h : part_at (argument w ts) p k ≡ part (place k + 2 + length (before (codes ",") ts)) p
    = here_part (opened k) (goal_words (argument w ts)) p (place k + 2 + length (before (codes ",") ts)) (omega arith) in
    append_assoc (pieces_of k) (goal_pieces (place k) (argument w ts)) (piece.Argument (part_at (argument w ts) p k) ∷ [])
    ∙ (ap (λ x. pieces_of k ++ (piece.Call (place k) ∷ (term_pieces (place k + 2) ts ++ piece.Argument x ∷ []))) h
    ∙ ap (λ z. pieces_of k ++ (piece.Call (place k) ∷ z)) (sym (term_more (place k + 2) ts p)))

pub variable_pieces : (w : Word) (us : List Use) (p : Words) (k : Frames) → with_part (variable w us) p k ≡ pieces_of k ++ goal_pieces (place k) (value w us p)
variable_pieces w us p k =
    let h : part_at (variable w us) p k ≡ part (place k + 2 + length (before (codes ",") (use_texts us))) p
    = here_part (opened k) (goal_words (variable w us)) p (place k + 2 + length (before (codes ",") (use_texts us))) (omega arith) in
    append_assoc (pieces_of k) (goal_pieces (place k) (variable w us)) (piece.Variable (part_at (variable w us) p k) ∷ [])
    ∙ ap (λ x. pieces_of k ++ (piece.Label (place k) ∷ (use_pieces (place k + 2) us ++ piece.Variable x ∷ []))) h

pub value_length : (b x : Words) (a : Word) → length (b ++ (x ++ a ∷ [])) ≡ length b + length x + 1
value_length b x a = place_behind b x a

pub value_pieces : (w : Word) (us : List Use) (x p : Words) (k : Frames)
    → with_part (value w us x) p k ≡ pieces_of k ++ goal_pieces (place k) (variable w (us ++ (x, p) ∷ []))
value_pieces w us x p k =
    let n = place k + 2 + length (before (codes ",") (use_texts us)) in
    let h : part_at (value w us x) p k ≡ part (n + length x + 1) p
    = here_part (opened k) (goal_words (value w us x)) p (n + length x + 1) (omega (arith, value_length (before (codes ",") (use_texts us)) x (codes "<-"))) in
    append_assoc (pieces_of k) (goal_pieces (place k) (value w us x)) (piece.Value (part_at (value w us x) p k) ∷ [])
    ∙ (ap (λ y. pieces_of k ++ (piece.Label (place k) ∷ ((use_pieces (place k + 2) us ++ piece.Variable (part n x) ∷ []) ++ piece.Value y ∷ []))) h
    ∙ (ap (λ z. pieces_of k ++ (piece.Label (place k) ∷ z)) (append_assoc (use_pieces (place k + 2) us) (piece.Variable (part n x) ∷ []) (piece.Value (part (n + length x + 1) p) ∷ []))
    ∙ ap (λ z. pieces_of k ++ (piece.Label (place k) ∷ z)) (sym (use_more (place k + 2) us (x, p) n refl))))

pub pattern_pieces : (w : Word) (p : Words) (k : Frames)
    → with_part (pattern w) p k ≡ pieces_of k ++ (piece.Test (place k) ∷ piece.Pattern (part (place k + 1) p) ∷ [])
pattern_pieces w p k =
    let h : part_at (pattern w) p k ≡ part (place k + 1) p = here_part (opened k) (w ∷ []) p (place k + 1) refl in
    append_assoc (pieces_of k) (piece.Test (place k) ∷ []) (piece.Pattern (part_at (pattern w) p k) ∷ [])
    ∙ ap (λ x. pieces_of k ++ (piece.Test (place k) ∷ piece.Pattern x ∷ [])) h

pub fragment_length : (w : Word) (p c b : Words) → length (w ∷ (p ++ (c ++ b))) ≡ 1 + length p + length c + length b
fragment_length w p c b = ap suc (length-append p (c ++ b) ∙ ap (λ n. length p + n) (length-append c b)) ∙ omega arith

pub fragment_pieces_more : (w : Word) (p c : Words) (cs : List Words) (q : Words) (k : Frames)
    → with_part (fragment w p c cs) q k ≡ pieces_of k ++ goal_pieces (place k) (fragment w p c (cs ++ q ∷ []))
fragment_pieces_more w p c cs q k =
    let f = place k + 1 + length p + length c in
    let h : part_at (fragment w p c cs) q k ≡ part (f + length (before (codes "/\\") cs)) q
    = here_part (opened k) (goal_words (fragment w p c cs)) q (f + length (before (codes "/\\") cs)) (omega (arith, fragment_length w p c (before (codes "/\\") cs))) in
    append_assoc (pieces_of k) (goal_pieces (place k) (fragment w p c cs)) (piece.Fragment (part_at (fragment w p c cs) q k) ∷ [])
    ∙ (ap (λ x. pieces_of k ++ (piece.Test (place k) ∷ piece.Pattern (part (place k + 1) p) ∷ (fragment_pieces f cs ++ piece.Fragment x ∷ []))) h
    ∙ ap (λ z. pieces_of k ++ (piece.Test (place k) ∷ piece.Pattern (part (place k + 1) p) ∷ z)) (sym (fragment_more f cs q)))

-- ---- a part that ends

argument_image : (r : Role) (m : Mode) (w : Word) (ts : List Words) (p : Words) (k : Frames)
    → machine.end_argument r (goal_to (argument w ts) p k) (reader m (frames_of k) (with_part (argument w ts) p k)) ≡ image (whole.end_argument r w ts p k)
argument_image comma m w ts p k =
    ap (λ i. Some (reader (mode.Reading kind.Argument i 0) (frames_of k) (with_part (argument w ts) p k)))
    (next_from (opened k) (goal_words (argument w ts)) p (goal_words (argument w (ts ++ p ∷ []))) (codes ",") (ap (λ z. w ∷ codes "(" ∷ z) (before_more (codes ",") ts p)))
    ∙ ap (λ z. Some (reader (mode.Reading kind.Argument (goal_from (argument w (ts ++ p ∷ [])) k) 0) (frames_of k) z)) (argument_pieces w ts p k)
argument_image closing_round m w ts p k =
    ap (λ z. Some (reader mode.Done (frames_of k) (z ++ piece.Called ∷ []))) (argument_pieces w ts p k)
    ∙ ap (λ z. Some (reader mode.Done (frames_of k) z))
    (append_assoc (pieces_of k) (goal_pieces (place k) (argument w (ts ++ p ∷ []))) (piece.Called ∷ []))
argument_image _ m w ts p k = refl

variable_image : (r : Role) (m : Mode) (w : Word) (us : List Use) (p : Words) (k : Frames)
    → machine.end_variable r (goal_to (variable w us) p k) (reader m (frames_of k) (with_part (variable w us) p k)) ≡ image (whole.end_variable r w us p k)
variable_image arrow m w us p k =
    ap (λ i. Some (reader (mode.Reading kind.Value i 0) (frames_of k) (with_part (variable w us) p k)))
    (next_from (opened k) (goal_words (variable w us)) p (goal_words (value w us p)) (codes "<-") refl)
    ∙ ap (λ z. Some (reader (mode.Reading kind.Value (goal_from (value w us p) k) 0) (frames_of k) z)) (variable_pieces w us p k)
variable_image _ m w us p k = refl

use_step : (b x p : Words) (a v : Word) → b ++ ((x ++ a ∷ p) ++ v ∷ []) ≡ (b ++ (x ++ a ∷ [])) ++ (p ++ v ∷ [])
use_step b x p a v = simp append_assoc

value_image : (r : Role) (m : Mode) (w : Word) (us : List Use) (x p : Words) (k : Frames)
    → machine.end_value r (goal_to (value w us x) p k) (reader m (frames_of k) (with_part (value w us x) p k)) ≡ image (whole.end_value r w us (x, p) k)
value_image comma m w us x p k =
    ap (λ i. Some (reader (mode.Reading kind.Variable i 0) (frames_of k) (with_part (value w us x) p k)))
    (next_from (opened k) (goal_words (value w us x)) p (goal_words (variable w (us ++ (x, p) ∷ []))) (codes ",")
    (ap (λ z. w ∷ codes "[" ∷ z) (ap (before (codes ",")) (uses_more us (x, p)) ∙ (before_more (codes ",") (use_texts us) (use_text (x, p))
    ∙ use_step (before (codes ",") (use_texts us)) x p (codes "<-") (codes ",")))))
    ∙ ap (λ z. Some (reader (mode.Reading kind.Variable (goal_from (variable w (us ++ (x, p) ∷ [])) k) 0) (frames_of k) z)) (value_pieces w us x p k)
value_image closing_square m w us x p k = ap (λ z. Some (reader mode.Done (frames_of k) z)) (value_pieces w us x p k)
value_image _ m w us x p k = refl

pattern_image : (r : Role) (m : Mode) (v w : Word) (p : Words) (k : Frames)
    → machine.end_pattern r (goal_to (pattern w) p k) (reader m (frames_of k) (with_part (pattern w) p k)) ≡ image (whole.end_pattern r v w p k)
pattern_image condition m v w p k =
    ap (λ i. Some (reader (mode.Reading kind.Fragment i 0) (frames_of k) (with_part (pattern w) p k)))
    (next_from (opened k) (w ∷ []) p (goal_words (fragment w p (v ∷ []) [])) v refl)
    ∙ ap (λ z. Some (reader (mode.Reading kind.Fragment (goal_from (fragment w p (v ∷ []) []) k) 0) (frames_of k) z)) (pattern_pieces w p k)
pattern_image such m v w p k = ap (λ z. Some (reader mode.Such (frames_of k) z)) (pattern_pieces w p k)
pattern_image r m v w p k =
    ap (λ z. machine.follow r (goal_to (pattern w) p k) (reader m (frames_of k) z)) (pattern_pieces w p k)
    ∙ (ap (λ z. machine.follow r (length (opened k ++ w ∷ z)) (reader m (frames_of k) (behind_it (tested w p None) k))) (sym (append-nil p))
    ∙ follow_image r v (tested w p None) k m)

pub fragment_text : (w : Word) (p c : Words) (cs : List Words) (q : Words) → text (tested w p (Some (c, cs ++ q ∷ []))) ≡ goal_words (fragment w p c cs) ++ q
fragment_text w p c cs q = ap (λ z. w ∷ (p ++ (c ++ z))) (parted_more (codes "/\\") cs q) ∙ last_words w p c (before (codes "/\\") cs) q
  where
    last_words : (w : Word) (p c b q : Words) → w ∷ (p ++ (c ++ (b ++ q))) ≡ (w ∷ (p ++ (c ++ b))) ++ q
    last_words w p c b q = simp append_assoc

fragment_next : (w : Word) (p c b q : Words) (v : Word) → w ∷ (p ++ (c ++ (b ++ (q ++ v ∷ [])))) ≡ (w ∷ (p ++ (c ++ b))) ++ (q ++ v ∷ [])
fragment_next w p c b q v = simp append_assoc

fragment_image : (r : Role) (m : Mode) (v w : Word) (p c : Words) (cs : List Words) (q : Words) (k : Frames)
    → machine.end_fragment r (goal_to (fragment w p c cs) q k) (reader m (frames_of k) (with_part (fragment w p c cs) q k))
    ≡ image (whole.end_fragment r v w p c (cs ++ q ∷ []) k)
fragment_image conjunction m v w p c cs q k =
    ap (λ i. Some (reader (mode.Reading kind.Fragment i 0) (frames_of k) (with_part (fragment w p c cs) q k)))
    (next_from (opened k) (goal_words (fragment w p c cs)) q (goal_words (fragment w p c (cs ++ q ∷ []))) (codes "/\\")
    (ap (λ z. w ∷ (p ++ (c ++ z))) (before_more (codes "/\\") cs q) ∙ fragment_next w p c (before (codes "/\\") cs) q (codes "/\\")))
    ∙ ap (λ z. Some (reader (mode.Reading kind.Fragment (goal_from (fragment w p c (cs ++ q ∷ [])) k) 0) (frames_of k) z)) (fragment_pieces_more w p c cs q k)
fragment_image r m v w p c cs q k =
    ap (λ z. machine.follow r (goal_to (fragment w p c cs) q k) (reader m (frames_of k) z)) (fragment_pieces_more w p c cs q k)
    ∙ (ap (λ z. machine.follow r (length (opened k ++ z)) (reader m (frames_of k) (behind_it (tested w p (Some (c, cs ++ q ∷ []))) k))) (sym (fragment_text w p c cs q))
    ∙ follow_image r v (tested w p (Some (c, cs ++ q ∷ []))) k m)

end_image : (g : Goal) (m : Mode) (v : Word) (p : Words) (k : Frames)
    → machine.end_part (kind_of g) (role v) (goal_to g p k) (reader m (frames_of k) (with_part g p k)) ≡ image (whole.end_part g v p k)
end_image (argument w ts) m v p k = argument_image (role v) m w ts p k
end_image (variable w us) m v p k = variable_image (role v) m w us p k
end_image (value w us x) m v p k = value_image (role v) m w us x p k
end_image (pattern w) m v p k = pattern_image (role v) m v w p k
end_image (fragment w p c cs) m v q k = fragment_image (role v) m v w p c cs q k

pub same_place : (g : Goal) (k : Frames) → nat_eq (goal_from g k) (goal_to g [] k) ≡ true
same_place g k = eq-eqb (goal_from g k) (goal_to g [] k) (ap (λ z. length (opened k ++ z)) (sym (append-nil (goal_words g))))

pub other_place : (g : Goal) (w : Word) (p : Words) (k : Frames) → nat_eq (goal_from g k) (goal_to g (w ∷ p) k) ≡ false
other_place g w p k = ne_eqb (goal_from g k) (goal_to g (w ∷ p) k) (λ e. omega (arith, e, part_end (opened k) (goal_words g) (w ∷ p)))

some_image : (g : Goal) (m : Mode) (v : Word) (p : Words) (k : Frames)
    → (if nat_eq (goal_from g k) (goal_to g p k) then None else machine.end_part (kind_of g) (role v) (goal_to g p k) (reader m (frames_of k) (with_part g p k)))
    ≡ image (whole.end_some g v p k)
some_image g m v [] k =
    ap (λ b. if b then None else machine.end_part (kind_of g) (role v) (goal_to g [] k) (reader m (frames_of k) (with_part g [] k))) (same_place g k)
some_image g m v (w ∷ p) k =
    ap (λ b. if b then None else machine.end_part (kind_of g) (role v) (goal_to g (w ∷ p) k) (reader m (frames_of k) (with_part g (w ∷ p) k))) (other_place g w p k)
    ∙ end_image g m v (w ∷ p) k

ends_image : (g : Goal) → part_ends (kind_of g) ≡ ends g
ends_image (argument w ts) = refl
ends_image (variable w us) = refl
ends_image (value w us x) = refl
ends_image (pattern w) = refl
ends_image (fragment w p c cs) = refl

choose_image : (a b : Bool) (o q : Option Reader) (u y : Option State) → a ≡ b → o ≡ image u → q ≡ image y → (if a then o else q) ≡ image (if b then u else y)
choose_image true true o q u y e h j = h
choose_image false false o q u y e h j = j
choose_image true false o q u y e h j = cc
choose_image false true o q u y e h j = cc

read_image : (g : Goal) (p : Words) (d : ℕ) (k : Frames) (v : Word)
    → machine.read (kind_of g) (goal_from g k) d (role v) (goal_to g p k) (code (reading g p d k)) ≡ image (whole.read g v p d k)
read_image g p d k v =
    choose_image (stops (part_ends (kind_of g)) d (role v)) (stops (ends g) d (role v)) _ _ (whole.end_some g v p k)
    (Some (reading g (p ++ v ∷ []) (behind d (role v)) k)) (ap (λ f. stops f d (role v)) (ends_image g))
    (some_image g (mode.Reading (kind_of g) (goal_from g k) d) v p k) refl

-- ---- one step

such_place : (a : Words) (w : Word) (p : Words) (u v : Word) → length (a ++ w ∷ (p ++ u ∷ [])) + 1 ≡ length (a ++ w ∷ (p ++ u ∷ v ∷ []))
such_place a w p u v = sym (one_longer (a ++ w ∷ (p ++ u ∷ [])) v) ∙ ap length (words a w p u v)
  where
    words : (a : Words) (w : Word) (p : Words) (u v : Word) → (a ++ w ∷ (p ++ u ∷ [])) ++ v ∷ [] ≡ a ++ w ∷ (p ++ u ∷ v ∷ [])
    words a w p u v = simp append_assoc

pub step_image : (v : Word) (x : State) → machine.next v (length (state_words x)) (code x) ≡ image (step v x)
step_image v (operand k) = begin_image (beginning v) v k refl
step_image v (named w k) = name_image (role v) v w k
step_image v (done s k) = follow_image (role v) v s k mode.Done
step_image v (reading g p d k) = read_image g p d k v
step_image v (such_of w p u k) =
    choose_image (is v (codes "that")) (is v (codes "that")) _ None (Some (reading (fragment w p (u ∷ v ∷ []) []) [] 0 k)) None refl
    (ap (λ i. Some (reader (mode.Reading kind.Fragment i 0) (frames_of k) (pieces_of k ++ (piece.Test (place k) ∷ piece.Pattern (part (place k + 1) p) ∷ []))))
    (such_place (opened k) w p u v)) refl

-- ---- the end

abbrev pub pieces_in : Option Shape → Option (List Piece)
pieces_in None = None
pieces_in (Some s) = Some (pieces 0 s)

whole_by_image : (k : Frames) (s : Shape) → machine.whole_by (frames_of k) (behind_it s k) ≡ pieces_in (whole.whole_in s k)
whole_by_image [] s = refl
whole_by_image (x ∷ k) s = refl

whole_image : (s : Shape) (k : Frames) → machine.whole (closed 7 (frames_of k) (behind_it s k)) ≡ pieces_in (whole.whole (close 7 s k))
whole_image s k = ap machine.whole (close_image 7 s k) ∙ whole_by_image (close 7 s k).1 (close 7 s k).0

finish_pattern : (w : Word) (p : Words) (d : ℕ) (k : Frames)
    → machine.finished (goal_to (pattern w) p k) (code (reading (pattern w) p d k)) ≡ pieces_in (whole.finish (reading (pattern w) p d k))
finish_pattern w [] d k =
    ap (λ b. if nat_eq d 0 && not b then machine.whole (closed 7 (frames_of k) (with_part (pattern w) [] k)) else None) (same_place (pattern w) k)
    ∙ ap (λ b. if b then machine.whole (closed 7 (frames_of k) (with_part (pattern w) [] k)) else None) (and_right (nat_eq d 0) false refl)
finish_pattern w (v ∷ p) zero k =
    ap (λ b. if not b then machine.whole (closed 7 (frames_of k) (with_part (pattern w) (v ∷ p) k)) else None) (other_place (pattern w) v p k)
    ∙ (ap (λ z. machine.whole (closed 7 (frames_of k) z)) (pattern_pieces w (v ∷ p) k) ∙ whole_image (tested w (v ∷ p) None) k)
finish_pattern w (v ∷ p) (suc d) k =
    ap (λ b. if b && not (nat_eq (goal_from (pattern w) k) (goal_to (pattern w) (v ∷ p) k)) then machine.whole (closed 7 (frames_of k) (with_part (pattern w) (v ∷ p) k)) else None)
    (ne_eqb (suc d) 0 (λ e. omega (arith, e)))

finish_fragment : (w : Word) (p c : Words) (cs : List Words) (q : Words) (d : ℕ) (k : Frames)
    → machine.finished (goal_to (fragment w p c cs) q k) (code (reading (fragment w p c cs) q d k)) ≡ pieces_in (whole.finish (reading (fragment w p c cs) q d k))
finish_fragment w p c cs [] d k =
    ap (λ b. if nat_eq d 0 && not b then machine.whole (closed 7 (frames_of k) (with_part (fragment w p c cs) [] k)) else None) (same_place (fragment w p c cs) k)
    ∙ ap (λ b. if b then machine.whole (closed 7 (frames_of k) (with_part (fragment w p c cs) [] k)) else None) (and_right (nat_eq d 0) false refl)
finish_fragment w p c cs (v ∷ q) zero k =
    ap (λ b. if not b then machine.whole (closed 7 (frames_of k) (with_part (fragment w p c cs) (v ∷ q) k)) else None) (other_place (fragment w p c cs) v q k)
    ∙ (ap (λ z. machine.whole (closed 7 (frames_of k) z)) (fragment_pieces_more w p c cs (v ∷ q) k) ∙ whole_image (tested w p (Some (c, cs ++ (v ∷ q) ∷ []))) k)
finish_fragment w p c cs (v ∷ q) (suc d) k =
    ap (λ b. if b && not (nat_eq (goal_from (fragment w p c cs) k) (goal_to (fragment w p c cs) (v ∷ q) k))
    then machine.whole (closed 7 (frames_of k) (with_part (fragment w p c cs) (v ∷ q) k)) else None)
    (ne_eqb (suc d) 0 (λ e. omega (arith, e)))

pub finish_image : (x : State) → machine.finished (length (state_words x)) (code x) ≡ pieces_in (whole.finish x)
finish_image (operand k) = refl
finish_image (named w k) = whole_image (plain w) k
finish_image (done s k) = whole_image s k
finish_image (reading (argument w ts) p d k) = refl
finish_image (reading (variable w us) p d k) = refl
finish_image (reading (value w us x) p d k) = refl
finish_image (reading (pattern w) p d k) = finish_pattern w p d k
finish_image (reading (fragment w p c cs) q d k) = finish_fragment w p c cs q d k
finish_image (such_of w p v k) = refl
