-- The pieces that the reader of the code has: what it makes of the words before a place, and then of those behind it.
use Rattle.std.proofs.Common.{◌≡◌, ℕ, ◌+◌, ◌<◌, List, [], ◌∷◌, ◌++◌, length, take, drop, get_or, Bool, true, false, None, Some, refl, sym, ap, ◌∙◌, subst, arith, append_assoc, append-nil}
use Rattle.std.proofs.lemmas.List.{take_more, drop_more, drop_all}
use Rattle.mau_shapes.specs.Words.{Word, Words}
use Rattle.mau_shapes.specs.Machine.{next, steps_by, flushed, pieces_from, nothing_read, pieces_found}
use Rattle.mau_shapes.specs.declared.pieces.Piece.{Piece}
use Rattle.mau_shapes.specs.declared.frames.Frame.{Frame}
use Rattle.mau_shapes.specs.declared.reader.Mode.{Mode}
use Rattle.mau_shapes.specs.declared.reader.Mode.TheVariants as mode
use Rattle.mau_shapes.specs.declared.reader.Reader.{Reader}

-- behind the first i words it goes on as from the beginning
abbrev pub Runs : Words → ℕ → Reader → Type 0
Runs ws i r = (zs : Words) → pieces_found (take i ws ++ zs) ≡ pieces_from i r zs

pub runs_none : (ws : Words) (r : Reader) → r.mode ≡ mode.Operand → r.frames ≡ [] → r.pieces ≡ [] → Runs ws 0 r
runs_none ws r m f p zs =
    sym (ap (λ (q : Reader). pieces_from 0 q zs)
    (ap (λ (z : Mode). record { mode = z; frames = r.frames; pieces = r.pieces }) m
    ∙ (ap (λ (z : List Frame). record { mode = mode.Operand; frames = z; pieces = r.pieces }) f
    ∙ ap (λ (z : List Piece). record { mode = mode.Operand; frames = []; pieces = z }) p)))

pub runs_more : (ws : Words) (i : ℕ) (r q : Reader) (w : Word) (b : Bool) → Runs ws i r → i < length ws → w ≡ get_or ws i [] → b ≡ true
    → next w i r ≡ steps_by b q → Runs ws (i + 1) q
runs_more ws i r q w b h l e t s zs =
    let n : next (get_or ws i []) i r ≡ Some q = ap (λ z. next z i r) (sym e) ∙ (s ∙ ap (λ c. steps_by c q) t) in
    ap (λ x. pieces_found (x ++ zs)) (take_more ws i [] l) ∙ (ap pieces_found (append_assoc (take i ws) (get_or ws i [] ∷ []) zs)
    ∙ (h (get_or ws i [] ∷ zs) ∙ ap (λ o. elim o [ None ↦ flushed i r | Some x ↦ pieces_from (i + 1) x zs ]) n))

-- behind the first i words alone
pub runs_to : (ws : Words) (i : ℕ) (r : Reader) → Runs ws i r → pieces_found (take i ws) ≡ flushed i r
runs_to ws i r h = ap pieces_found (sym (append-nil (take i ws))) ∙ h []

take_and_drop : (ws : Words) (i : ℕ) → take i ws ++ drop i ws ≡ ws
take_and_drop ws i = Rattle.std.proofs.lemmas.List.take-append-drop i ws

-- where the word i leads nowhere
pub runs_stuck : (ws : Words) (i : ℕ) (r q : Reader) (w : Word) (b : Bool) → Runs ws i r → i < length ws → w ≡ get_or ws i [] → b ≡ false
    → next w i r ≡ steps_by b q → pieces_found ws ≡ pieces_found (take i ws)
runs_stuck ws i r q w b h l e t s =
    let n : next (get_or ws i []) i r ≡ None = ap (λ z. next z i r) (sym e) ∙ (s ∙ ap (λ c. steps_by c q) t) in
    ap pieces_found (sym (take_and_drop ws i)) ∙ (h (drop i ws) ∙ (ap (pieces_from i r) (drop_more ws i [] l)
    ∙ (ap (λ o. elim o [ None ↦ flushed i r | Some x ↦ pieces_from (i + 1) x (drop (i + 1) ws) ]) n ∙ sym (runs_to ws i r h))))

pub runs_whole : (ws : Words) (n : ℕ) → n ≡ length ws → pieces_found ws ≡ pieces_found (take n ws)
runs_whole ws n e = ap pieces_found (sym (ap (λ k. take k ws) e ∙ take_all ws))
  where
    take_all : (ws : Words) → take (length ws) ws ≡ ws
    take_all [] = refl
    take_all (w ∷ ws) = ap (λ z. w ∷ z) (take_all ws)
