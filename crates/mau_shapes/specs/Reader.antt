-- Shapes found word by word: what is open, what is read, and what the next word makes of it.
use Rattle.std.specs.Prelude.{ℕ, zero, List, [], ◌∷◌, ◌++◌, Bool, true, false, if◌then◌else◌, codes, nat_lt, Option, Some, None}
use Rattle.mau_shapes.specs.Words.{Word, Words, is, Beginning, of_bracket, of_all, of_form, of_test, of_top, of_wrapper, of_nothing, of_name, beginning, Role, mark, joint, question, colon, condition, such, conjunction, comma, arrow, opening_round, opening_square, closing_round, closing_square, role, behind, ends_test, ends_fragment, ends_variable, ends_term}
use Rattle.mau_shapes.specs.Shape.{Use, Shape, plain, assigned, called, wrapped, within, tested, marked, joined, chosen, stops}

-- what waits for a strategy, the latest one first
pub data Frame : Type 0 where
  bracket : Frame  -- (
  wrapper : Word → Frame  -- not(
  top_wrapper : Word → Frame  -- top(
  left : Word → ℕ → Shape → Frame  -- E ;
  asked : Shape → Frame  -- E ?
  answered : Shape → Shape → Frame  -- E ? F :

abbrev pub Frames : Type 0
Frames = List Frame

-- what the words at hand are a part of
pub data Goal : Type 0 where
  argument : Word → List Words → Goal  -- name(t,
  variable : Word → List Use → Goal  -- label[X <- t,
  value : Word → List Use → Words → Goal  -- label[X <-
  pattern : Word → Goal  -- match
  fragment : Word → Words → Words → List Words → Goal  -- match P s.t. C /\

pub data State : Type 0 where
  operand : Frames → State  -- a strategy is wanted
  named : Word → Frames → State  -- behind a name
  done : Shape → Frames → State  -- behind a strategy
  reading : Goal → Words → ℕ → Frames → State  -- within a part, with so many open brackets
  such_of : Word → Words → Word → Frames → State  -- behind `such`

abbrev pub ends : Goal → Role → Bool
ends (argument w ts) = ends_term
ends (variable w us) = ends_variable
ends (value w us x) = ends_term
ends (pattern w) = ends_test
ends (fragment w p c cs) = ends_fragment

-- ---- behind a strategy

-- forms below the level m are closed
abbrev pub close : ℕ → Shape → Frames → Shape × Frames
close m s [] = (s, [])
close m s (left w n e ∷ k) = if nat_lt n m then close m (joined w e s) k else (s, left w n e ∷ k)
close m s (answered e f ∷ k) = if nat_lt 6 m then close m (chosen e f s) k else (s, answered e f ∷ k)
close m s (bracket ∷ k) = (s, bracket ∷ k)
close m s (wrapper w ∷ k) = (s, wrapper w ∷ k)
close m s (top_wrapper w ∷ k) = (s, top_wrapper w ∷ k)
close m s (asked e ∷ k) = (s, asked e ∷ k)

-- nothing but a label's form or `all` may stand there
abbrev pub is_narrow : Frames → Bool
is_narrow (top_wrapper w ∷ k) = true
is_narrow _ = false

abbrev pub leave_in : Shape → Frames → Option State
leave_in s (bracket ∷ k) = Some (done (within s) k)
leave_in s (wrapper w ∷ k) = Some (done (wrapped w s) k)
leave_in s (top_wrapper w ∷ k) = Some (done (wrapped w s) k)
leave_in s _ = None

abbrev pub leave : Shape × Frames → Option State
leave x = leave_in x.0 x.1

abbrev pub answer_in : Shape → Frames → Option State
answer_in s (asked e ∷ k) = Some (operand (answered e s ∷ k))
answer_in s _ = None

abbrev pub answer : Shape × Frames → Option State
answer x = answer_in x.0 x.1

abbrev pub join : Word → ℕ → Shape × Frames → Option State
join w m x = Some (operand (left w m x.0 ∷ x.1))

abbrev pub ask : Shape × Frames → Option State
ask x = Some (operand (asked x.0 ∷ x.1))

abbrev pub unless : Bool → Option State → Option State
unless b o = if b then None else o

abbrev pub follow : Role → Word → Shape → Frames → Option State
follow mark v s k = unless (is_narrow k) (Some (done (marked s v) k))
follow (joint m) v s k = unless (is_narrow k) (join v m (close m s k))
follow question v s k = unless (is_narrow k) (ask (close 6 s k))
follow colon v s k = unless (is_narrow k) (answer (close 7 s k))
follow closing_round v s k = leave (close 7 s k)
follow _ v s k = None

-- ---- what one more word makes

abbrev pub begin : Beginning → Word → Frames → Option State
begin of_bracket v k = unless (is_narrow k) (Some (operand (bracket ∷ k)))
begin of_all v k = Some (done (plain v) k)
begin of_form v k = unless (is_narrow k) (Some (done (plain v) k))
begin of_test v k = unless (is_narrow k) (Some (reading (pattern v) [] 0 k))
begin of_nothing v k = None
begin of_top v k = Some (named v k)
begin of_wrapper v k = Some (named v k)
begin of_name v k = Some (named v k)

-- `(` behind a name
abbrev pub open_round : Beginning → Word → Frames → Option State
open_round of_top w k = Some (operand (top_wrapper w ∷ k))
open_round of_wrapper w k = Some (operand (wrapper w ∷ k))
open_round _ w k = Some (reading (argument w []) [] 0 k)

abbrev pub behind_name : Role → Word → Word → Frames → Option State
behind_name opening_round v w k = unless (is_narrow k) (open_round (beginning w) w k)
behind_name opening_square v w k = Some (reading (variable w []) [] 0 k)
behind_name r v w k = follow r v (plain w) k

-- a part ends before the word v
abbrev pub end_argument : Role → Word → List Words → Words → Frames → Option State
end_argument comma w ts p k = Some (reading (argument w (ts ++ p ∷ [])) [] 0 k)
end_argument closing_round w ts p k = Some (done (called w (ts ++ p ∷ [])) k)
end_argument _ w ts p k = None

abbrev pub end_variable : Role → Word → List Use → Words → Frames → Option State
end_variable arrow w us p k = Some (reading (value w us p) [] 0 k)
end_variable _ w us p k = None

abbrev pub end_value : Role → Word → List Use → Use → Frames → Option State
end_value comma w us u k = Some (reading (variable w (us ++ u ∷ [])) [] 0 k)
end_value closing_square w us u k = Some (done (assigned w (us ++ u ∷ [])) k)
end_value _ w us u k = None

abbrev pub end_pattern : Role → Word → Word → Words → Frames → Option State
end_pattern condition v w p k = Some (reading (fragment w p (v ∷ []) []) [] 0 k)
end_pattern such v w p k = Some (such_of w p v k)
end_pattern r v w p k = follow r v (tested w p None) k

abbrev pub end_fragment : Role → Word → Word → Words → Words → List Words → Frames → Option State
end_fragment conjunction v w p c cs k = Some (reading (fragment w p c cs) [] 0 k)
end_fragment r v w p c cs k = follow r v (tested w p (Some (c, cs))) k

abbrev pub end_part : Goal → Word → Words → Frames → Option State
end_part (argument w ts) v p k = end_argument (role v) w ts p k
end_part (variable w us) v p k = end_variable (role v) w us p k
end_part (value w us x) v p k = end_value (role v) w us (x, p) k
end_part (pattern w) v p k = end_pattern (role v) v w p k
end_part (fragment w p c cs) v q k = end_fragment (role v) v w p c (cs ++ q ∷ []) k

-- a part has a word
abbrev pub end_some : Goal → Word → Words → Frames → Option State
end_some g v [] k = None
end_some g v (w ∷ p) k = end_part g v (w ∷ p) k

abbrev pub read : Goal → Word → Words → ℕ → Frames → Option State
read g v p d k = if stops (ends g) d (role v) then end_some g v p k else Some (reading g (p ++ v ∷ []) (behind d (role v)) k)

abbrev pub step : Word → State → Option State
step v (operand k) = begin (beginning v) v k
step v (named w k) = behind_name (role v) v w k
step v (done s k) = follow (role v) v s k
step v (reading g p d k) = read g v p d k
step v (such_of w p u k) = if is v (codes "that") then Some (reading (fragment w p (u ∷ v ∷ []) []) [] 0 k) else None

-- ---- all words, and the end

abbrev pub go_on : Option State → (State → Option State) → Option State
go_on None f = None
go_on (Some st) f = f st

abbrev pub run : Words → State → Option State
run [] st = Some st
run (w ∷ ws) st = go_on (step w st) (run ws)

abbrev pub whole_in : Shape → Frames → Option Shape
whole_in s [] = Some s
whole_in s (x ∷ k) = None

abbrev pub whole : Shape × Frames → Option Shape
whole x = whole_in x.0 x.1

abbrev pub finish_part : Goal → Words → ℕ → Frames → Option Shape
finish_part (pattern w) (v ∷ p) zero k = whole (close 7 (tested w (v ∷ p) None) k)
finish_part (fragment w p c cs) (v ∷ q) zero k = whole (close 7 (tested w p (Some (c, cs ++ (v ∷ q) ∷ []))) k)
finish_part _ _ _ k = None

abbrev pub finish : State → Option Shape
finish (operand k) = None
finish (named w k) = whole (close 7 (plain w) k)
finish (done s k) = whole (close 7 s k)
finish (reading g p d k) = finish_part g p d k
finish (such_of w p v k) = None
