-- The reader of the code, word by word, with places in the text for words.
use Rattle.std.specs.Prelude.{ℕ, ◌+◌, List, [], ◌∷◌, ◌++◌, Bool, true, false, ◌&&◌, not, if◌then◌else◌, codes, nat_eq, nat_lt, Option, Some, None}
use Rattle.mau_shapes.specs.Words.{Word, is, Beginning, of_bracket, of_all, of_form, of_test, of_top, of_wrapper, of_nothing, of_name, beginning, Role, mark, joint, question, colon, condition, such, conjunction, comma, arrow, opening_round, opening_square, closing_round, closing_square, role, behind, ends_test, ends_fragment, ends_variable, ends_term}
use Rattle.mau_shapes.specs.Shape.{stops}
use Rattle.mau_shapes.specs.declared.words.PartKind.{PartKind}
use Rattle.mau_shapes.specs.declared.words.PartKind.TheVariants as kind
use Rattle.mau_shapes.specs.declared.pieces.Part.{Part}
use Rattle.mau_shapes.specs.declared.pieces.Piece.{Piece}
use Rattle.mau_shapes.specs.declared.pieces.Piece.TheVariants as piece
use Rattle.mau_shapes.specs.declared.frames.Frame.{Frame}
use Rattle.mau_shapes.specs.declared.frames.Frame.TheVariants as waiting
use Rattle.mau_shapes.specs.declared.reader.Mode.{Mode}
use Rattle.mau_shapes.specs.declared.reader.Mode.TheVariants as mode
use Rattle.mau_shapes.specs.declared.reader.Reader.{Reader}

abbrev pub part_ends : PartKind → Role → Bool
part_ends kind.Argument = ends_term
part_ends kind.Variable = ends_variable
part_ends kind.Value = ends_term
part_ends kind.Pattern = ends_test
part_ends kind.Fragment = ends_fragment

-- ---- what waits

abbrev pub top_of : List Frame → Option Frame
top_of [] = None
top_of (f ∷ fs) = Some f

abbrev pub rest_of : List Frame → List Frame
rest_of [] = []
rest_of (f ∷ fs) = fs

abbrev pub is_top : Option Frame → Bool
is_top (Some (waiting.Top i)) = true
is_top _ = false

abbrev pub narrow : Reader → Bool
narrow r = is_top (top_of r.frames)

-- the piece of a form below the level m, which is closed
abbrev pub close_piece : ℕ → Option Frame → Option Piece
close_piece m (Some (waiting.Left j i)) = if nat_lt j m then Some (piece.Joined i) else None
close_piece m (Some waiting.Answered) = if nat_lt 6 m then Some piece.Chosen else None
close_piece m _ = None

abbrev pub closed : ℕ → List Frame → List Piece → List Frame × List Piece
closed m [] ps = ([], ps)
closed m (f ∷ fs) ps = elim (close_piece m (Some f)) [ None ↦ (f ∷ fs, ps) | Some p ↦ closed m fs (ps ++ p ∷ []) ]

-- ---- one word more

-- a step, if there is one
abbrev pub steps_by : Bool → Reader → Option Reader
steps_by more r = if more then Some r else None

abbrev pub unless : Bool → Option Reader → Option Reader
unless b o = if b then None else o

abbrev pub with_piece : Piece → Reader → Reader
with_piece p r = record r { pieces = r.pieces ++ p ∷ [] }

abbrev pub in_mode : Mode → Reader → Reader
in_mode m r = record r { mode = m }

abbrev pub waits : Frame → List Frame × List Piece → Reader
waits f x = record { mode = mode.Operand; frames = f ∷ x.0; pieces = x.1 }

abbrev pub leave_by : List Frame → List Piece → Option Reader
leave_by (waiting.Bracket ∷ fs) ps = Some (record { mode = mode.Done; frames = fs; pieces = ps })
leave_by (waiting.Wrapper i ∷ fs) ps = Some (record { mode = mode.Done; frames = fs; pieces = ps ++ piece.Wrapped i ∷ [] })
leave_by (waiting.Top i ∷ fs) ps = Some (record { mode = mode.Done; frames = fs; pieces = ps ++ piece.Wrapped i ∷ [] })
leave_by _ ps = None

abbrev pub leave : List Frame × List Piece → Option Reader
leave x = leave_by x.0 x.1

abbrev pub answer_by : List Frame → List Piece → Option Reader
answer_by (waiting.Asked ∷ fs) ps = Some (record { mode = mode.Operand; frames = waiting.Answered ∷ fs; pieces = ps })
answer_by _ ps = None

abbrev pub answer : List Frame × List Piece → Option Reader
answer x = answer_by x.0 x.1

abbrev pub follow : Role → ℕ → Reader → Option Reader
follow mark i r = unless (narrow r) (Some (in_mode mode.Done (with_piece (piece.Marked i) r)))
follow (joint m) i r = unless (narrow r) (Some (waits (waiting.Left m i) (closed m r.frames r.pieces)))
follow question i r = unless (narrow r) (Some (waits waiting.Asked (closed 6 r.frames r.pieces)))
follow colon i r = unless (narrow r) (answer (closed 7 r.frames r.pieces))
follow closing_round i r = leave (closed 7 r.frames r.pieces)
follow _ i r = None

abbrev pub begin : Beginning → ℕ → Reader → Option Reader
begin of_bracket i r = unless (narrow r) (Some (record r { mode = mode.Operand; frames = waiting.Bracket ∷ r.frames }))
begin of_all i r = Some (in_mode mode.Done (with_piece (piece.Plain i) r))
begin of_form i r = unless (narrow r) (Some (in_mode mode.Done (with_piece (piece.Plain i) r)))
begin of_test i r = unless (narrow r) (Some (in_mode (mode.Reading kind.Pattern (i + 1) 0) (with_piece (piece.Test i) r)))
begin of_nothing i r = None
begin of_top i r = Some (in_mode (mode.Named i of_top) r)
begin of_wrapper i r = Some (in_mode (mode.Named i of_wrapper) r)
begin of_name i r = Some (in_mode (mode.Named i of_name) r)

-- words at which any form may begin
abbrev pub is_wide : Beginning → Bool
is_wide of_bracket = true
is_wide of_form = true
is_wide of_test = true
is_wide _ = false

-- `(` at the place i, behind the name at the place j
abbrev pub open_round : Beginning → ℕ → ℕ → Reader → Option Reader
open_round of_top j i r = Some (record { mode = mode.Operand; frames = waiting.Top j ∷ r.frames; pieces = r.pieces ++ piece.Wrapper j ∷ [] })
open_round of_wrapper j i r = Some (record { mode = mode.Operand; frames = waiting.Wrapper j ∷ r.frames; pieces = r.pieces ++ piece.Wrapper j ∷ [] })
open_round _ j i r = Some (in_mode (mode.Reading kind.Argument (i + 1) 0) (with_piece (piece.Call j) r))

abbrev pub behind_name : Role → Beginning → ℕ → ℕ → Reader → Option Reader
behind_name opening_round b j i r = unless (narrow r) (open_round b j i r)
behind_name opening_square b j i r = Some (in_mode (mode.Reading kind.Variable (i + 1) 0) (with_piece (piece.Label j) r))
behind_name role b j i r = follow role i (with_piece (piece.Plain j) r)

abbrev pub part_piece : PartKind → Part → Piece
part_piece kind.Argument p = piece.Argument p
part_piece kind.Variable p = piece.Variable p
part_piece kind.Value p = piece.Value p
part_piece kind.Pattern p = piece.Pattern p
part_piece kind.Fragment p = piece.Fragment p

abbrev pub end_argument : Role → ℕ → Reader → Option Reader
end_argument comma i r = Some (in_mode (mode.Reading kind.Argument (i + 1) 0) r)
end_argument closing_round i r = Some (in_mode mode.Done (with_piece piece.Called r))
end_argument _ i r = None

abbrev pub end_variable : Role → ℕ → Reader → Option Reader
end_variable arrow i r = Some (in_mode (mode.Reading kind.Value (i + 1) 0) r)
end_variable _ i r = None

abbrev pub end_value : Role → ℕ → Reader → Option Reader
end_value comma i r = Some (in_mode (mode.Reading kind.Variable (i + 1) 0) r)
end_value closing_square i r = Some (in_mode mode.Done r)
end_value _ i r = None

abbrev pub end_pattern : Role → ℕ → Reader → Option Reader
end_pattern condition i r = Some (in_mode (mode.Reading kind.Fragment (i + 1) 0) r)
end_pattern such i r = Some (in_mode mode.Such r)
end_pattern role i r = follow role i r

abbrev pub end_fragment : Role → ℕ → Reader → Option Reader
end_fragment conjunction i r = Some (in_mode (mode.Reading kind.Fragment (i + 1) 0) r)
end_fragment role i r = follow role i r

-- behind a part, which is among the pieces
abbrev pub end_part : PartKind → Role → ℕ → Reader → Option Reader
end_part kind.Argument = end_argument
end_part kind.Variable = end_variable
end_part kind.Value = end_value
end_part kind.Pattern = end_pattern
end_part kind.Fragment = end_fragment

abbrev pub with_part : PartKind → ℕ → ℕ → Reader → Reader
with_part k s i r = with_piece (part_piece k (record { start = s; end = i })) r

abbrev pub read : PartKind → ℕ → ℕ → Role → ℕ → Reader → Option Reader
read k s d role i r =
    if stops (part_ends k) d role then (if nat_eq s i then None else end_part k role i (with_part k s i r))
    else Some (in_mode (mode.Reading k s (behind d role)) r)

abbrev pub such_step : Bool → ℕ → Reader → Option Reader
such_step that i r = if that then Some (in_mode (mode.Reading kind.Fragment (i + 1) 0) r) else None

-- the word at the place i
abbrev pub next_in : Mode → Word → ℕ → Reader → Option Reader
next_in mode.Operand v i r = begin (beginning v) i r
next_in (mode.Named j b) v i r = behind_name (role v) b j i r
next_in mode.Done v i r = follow (role v) i r
next_in (mode.Reading k s d) v i r = read k s d (role v) i r
next_in mode.Such v i r = such_step (is v (codes "that")) i r

abbrev pub next : Word → ℕ → Reader → Option Reader
next v i r = next_in r.mode v i r

-- ---- the end, at the place n

abbrev pub whole_by : List Frame → List Piece → Option (List Piece)
whole_by [] ps = Some ps
whole_by (f ∷ fs) ps = None

abbrev pub whole : List Frame × List Piece → Option (List Piece)
whole x = whole_by x.0 x.1

abbrev pub is_last : PartKind → Bool
is_last kind.Pattern = true
is_last kind.Fragment = true
is_last _ = false

abbrev pub finished_in : Mode → ℕ → Reader → Option (List Piece)
finished_in mode.Operand n r = None
finished_in (mode.Named j b) n r = whole (closed 7 r.frames (r.pieces ++ piece.Plain j ∷ []))
finished_in mode.Done n r = whole (closed 7 r.frames r.pieces)
finished_in (mode.Reading k s d) n r =
    if (is_last k && nat_eq d 0) && not (nat_eq s n) then whole (closed 7 r.frames (r.pieces ++ part_piece k (record { start = s; end = n }) ∷ [])) else None
finished_in mode.Such n r = None

abbrev pub finished : ℕ → Reader → Option (List Piece)
finished n r = finished_in r.mode n r

-- ---- where the words end in the middle of a text, at the place n: the name or the part at hand is a piece

abbrev pub flushed_in : Mode → ℕ → Reader → List Piece
flushed_in (mode.Named j b) n r = r.pieces ++ piece.Plain j ∷ []
flushed_in (mode.Reading k s d) n r =
    if nat_eq d 0 && not (nat_eq s n) then r.pieces ++ part_piece k (record { start = s; end = n }) ∷ [] else r.pieces
flushed_in _ n r = r.pieces

abbrev pub flushed : ℕ → Reader → List Piece
flushed n r = flushed_in r.mode n r

-- ---- the pieces where no strategy goes on, or at the end: the reader r stands before the words ws, the first of which is at the place i

abbrev pub pieces_from : ℕ → Reader → List Word → List Piece
pieces_from i r [] = flushed i r
pieces_from i r (w ∷ ws) = elim (next w i r) [ None ↦ flushed i r | Some q ↦ pieces_from (i + 1) q ws ]

abbrev pub nothing_read : Reader
nothing_read = record { mode = mode.Operand; frames = []; pieces = [] }

abbrev pub pieces_found : List Word → List Piece
pieces_found ws = pieces_from 0 nothing_read ws
