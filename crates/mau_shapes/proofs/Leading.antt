-- The code's reader behind some words of a text.
use Rattle.std.proofs.Common.{◌≡◌, ℕ, ◌+◌, ◌-◌, ◌≤◌, ◌<◌, List, [], ◌∷◌, length, take, drop, get_or, Bool, true, false, inl, inr, Option, Some, None, refl, sym, ap, ◌∙◌, subst, arith}
use Rattle.std.proofs.lemmas.List.{take_more, take-append-drop, length-take-le}
use Rattle.mau_shapes.specs.Words.{Word, Words}
use Rattle.mau_shapes.specs.Front.{IsFront, IsUnexpected}
use Rattle.mau_shapes.specs.Before.{IsLongestFront, ArePiecesBefore}
use Rattle.mau_shapes.specs.Pieces.{pieces}
use Rattle.mau_shapes.specs.Reading.{ArePiecesOf}
use Rattle.mau_shapes.specs.Reader.{State, operand, step, go_on, run, finish}
use Rattle.mau_shapes.specs.Machine.{next, steps_by, finished, flushed}
use Rattle.mau_shapes.specs.declared.pieces.Piece.{Piece}
use Rattle.mau_shapes.specs.declared.frames.Frame.{Frame}
use Rattle.mau_shapes.specs.declared.reader.Mode.{Mode}
use Rattle.mau_shapes.specs.declared.reader.Mode.TheVariants as mode
use Rattle.mau_shapes.specs.declared.reader.Reader.{Reader}
use Rattle.mau_shapes.proofs.Running.{run_more}
use Rattle.mau_shapes.proofs.Standing.{state_words}
use Rattle.mau_shapes.proofs.Completing.{stands_behind, front_of, no_front, is_whole, leads_nowhere, ends_early}
use Rattle.mau_shapes.proofs.Answering.{front_before}
use Rattle.mau_shapes.proofs.Before as before
use Rattle.mau_shapes.proofs.Before.{pieces_before, flushed_image}
use Rattle.mau_shapes.proofs.Coding.{code, image, step_image, pieces_in, finish_image}

-- it is behind the first i words
pub record Led (ws : Words) (i : ℕ) (r : Reader) : Type 0 where
  pub state : State
  pub leads : run (take i ws) (operand []) ≡ Some state
  pub same : r ≡ code state

abbrev made : Mode → List Frame → List Piece → Reader
made m fs ps = record { mode = m; frames = fs; pieces = ps }

pub led_none : (ws : Words) (r : Reader) → r.mode ≡ mode.Operand → r.frames ≡ [] → r.pieces ≡ [] → Led ws 0 r
led_none ws r m f p = record {
  state = operand [];
  leads = refl;
  same = ap (λ z. made z r.frames r.pieces) m ∙ (ap (λ z. made mode.Operand z r.pieces) f ∙ ap (λ z. made mode.Operand [] z) p);
}

at_place : (ws : Words) (i : ℕ) (x : State) → i ≤ length ws → run (take i ws) (operand []) ≡ Some x → length (state_words x) ≡ i
at_place ws i x le h = ap length ((stands_behind (take i ws) x h).words) ∙ length-take-le i ws le

-- what the next word makes
tells : (ws : Words) (i : ℕ) (r : Reader) (h : Led ws i r) → i < length ws → next (get_or ws i []) i r ≡ image (step (get_or ws i []) h.state)
tells ws i r h l =
    let n : length (state_words h.state) ≡ i = at_place ws i h.state (omega (arith, l)) h.leads in
    ap (next (get_or ws i []) i) h.same ∙ (ap (λ j. next (get_or ws i []) j (code h.state)) (sym n) ∙ step_image (get_or ws i []) h.state)

pub led_more : (ws : Words) (i : ℕ) (r q : Reader) → Led ws i r → i < length ws → next (get_or ws i []) i r ≡ steps_by true q → Led ws (i + 1) q
led_more ws i r q h l e =
    let t : image (step (get_or ws i []) h.state) ≡ Some q = sym (tells ws i r h l) ∙ e in
    (elim (step (get_or ws i []) h.state) as (λ o. step (get_or ws i []) h.state ≡ o → image o ≡ Some q → Led ws (i + 1) q) [
      | None ↦ λ s u. absurd (let n : ◌≡◌ {A = Option Reader} None (Some q) = u in cc)
      | Some y ↦ λ s u. record {
        state = y;
        leads = ap (λ z. run z (operand [])) (take_more ws i [] l) ∙ (run_more (take i ws) (get_or ws i [] ∷ []) (operand [])
            ∙ (ap (λ o. go_on o (run (get_or ws i [] ∷ []))) h.leads ∙ ap (λ o. go_on o (run [])) s));
        same = (let n : ◌≡◌ {A = Option Reader} (Some (code y)) (Some q) = u in cc);
      }
    ]) refl t

pub led_nowhere : (ws : Words) (i : ℕ) (r q : Reader) → Led ws i r → i < length ws → next (get_or ws i []) i r ≡ steps_by false q → IsUnexpected ws i
led_nowhere ws i r q h l e =
    let t : image (step (get_or ws i []) h.state) ≡ None = sym (tells ws i r h l) ∙ e in
    (elim (step (get_or ws i []) h.state) as (λ o. step (get_or ws i []) h.state ≡ o → image o ≡ None → IsUnexpected ws i) [
      | None ↦ λ s u. leads_nowhere ws i h.state l h.leads s
      | Some y ↦ λ s u. absurd (let n : ◌≡◌ {A = Option Reader} (Some (code y)) None = u in cc)
    ]) refl t

-- all words
all_of : (ws : Words) (x : State) → run (take (length ws) ws) (operand []) ≡ Some x → run ws (operand []) ≡ Some x
all_of ws x h = subst (λ z. run z (operand []) ≡ Some x) (take_all ws) h
  where
    take_all : (ws : Words) → take (length ws) ws ≡ ws
    take_all [] = refl
    take_all (w ∷ ws) = ap (λ z. w ∷ z) (take_all ws)

ends_with : (ws : Words) (r : Reader) (h : Led ws (length ws) r) → finished (length ws) r ≡ pieces_in (finish h.state)
ends_with ws r h =
    let n : length (state_words h.state) ≡ length ws = at_place ws (length ws) h.state (omega arith) h.leads in
    ap (finished (length ws)) h.same ∙ (ap (λ j. finished j (code h.state)) (sym n) ∙ finish_image h.state)

pub led_whole : (ws : Words) (r : Reader) (ps : List Piece) → Led ws (length ws) r → finished (length ws) r ≡ Some ps → ArePiecesOf ws ps
led_whole ws r ps h e =
    let t : pieces_in (finish h.state) ≡ Some ps = sym (ends_with ws r h) ∙ e in
    (elim (finish h.state) as (λ o. finish h.state ≡ o → pieces_in o ≡ Some ps → ArePiecesOf ws ps) [
      | None ↦ λ s u. absurd (let n : ◌≡◌ {A = Option (List Piece)} None (Some ps) = u in cc)
      | Some y ↦ λ s u. record {
        shape = y;
        reads = is_whole ws h.state y (all_of ws h.state h.leads) s;
        pieces = (let n : ◌≡◌ {A = Option (List Piece)} (Some (pieces 0 y)) (Some ps) = u in cc);
      }
    ]) refl t

pub led_early : (ws : Words) (r : Reader) → 0 < length ws → Led ws (length ws) r → finished (length ws) r ≡ None → IsUnexpected ws (length ws - 1)
led_early ws r l h e =
    let t : pieces_in (finish h.state) ≡ None = sym (ends_with ws r h) ∙ e in
    (elim (finish h.state) as (λ o. finish h.state ≡ o → pieces_in o ≡ None → IsUnexpected ws (length ws - 1)) [
      | None ↦ λ s u. ends_early ws h.state l (all_of ws h.state h.leads) s
      | Some y ↦ λ s u. absurd (let n : ◌≡◌ {A = Option (List Piece)} (Some (pieces 0 y)) None = u in cc)
    ]) refl t

-- ---- as the code knows it

pub word_more : (ws : Words) (i : ℕ) (r q : Reader) (w : Word) (b : Bool) → Led ws i r → i < length ws → w ≡ get_or ws i [] → b ≡ true
    → next w i r ≡ steps_by b q → Led ws (i + 1) q
word_more ws i r q w b h l e t s = led_more ws i r q h l (ap (λ z. next z i r) (sym e) ∙ (s ∙ ap (λ b. steps_by b q) t))

pub word_nowhere : (ws : Words) (i : ℕ) (r q : Reader) (w : Word) (b : Bool) → Led ws i r → i < length ws → w ≡ get_or ws i [] → b ≡ false
    → next w i r ≡ steps_by b q → IsUnexpected ws i
word_nowhere ws i r q w b h l e t s = led_nowhere ws i r q h l (ap (λ z. next z i r) (sym e) ∙ (s ∙ ap (λ b. steps_by b q) t))

pub whole_at : (ws : Words) (i n : ℕ) (r : Reader) (o : Option (List Piece)) (ps : List Piece) → Led ws i r → i ≡ length ws → n ≡ length ws
    → finished n r ≡ o → o ≡ Some ps → ArePiecesOf ws ps
whole_at ws i n r o ps h e m f q = led_whole ws r ps (subst (λ j. Led ws j r) e h) (ap (λ j. finished j r) (sym m) ∙ (f ∙ q))

pub early_at : (ws : Words) (i n : ℕ) (r : Reader) (o : Option (List Piece)) → Led ws i r → i ≡ length ws → n ≡ length ws → 0 < n
    → finished n r ≡ o → o ≡ None → IsUnexpected ws (n - 1)
early_at ws i n r o h e m l f q =
    let l' : 0 < length ws = omega (arith, m, l) in
    subst (λ j. IsUnexpected ws (j - 1)) (sym m) (led_early ws r l' (subst (λ j. Led ws j r) e h) (ap (λ j. finished j r) (sym m) ∙ (f ∙ q)))

-- ---- beginnings

pub word_stuck : (ws : Words) (i : ℕ) (r q : Reader) (w : Word) (b : Bool) → Led ws i r → i < length ws → w ≡ get_or ws i [] → b ≡ false
    → next w i r ≡ steps_by b q → IsFront (take (i + 1) ws) → ⊥
word_stuck ws i r q w b h l e t s f =
    let u : image (step (get_or ws i []) h.state) ≡ None = sym (tells ws i r h l) ∙ (ap (λ z. next z i r) (sym e) ∙ (s ∙ ap (λ b. steps_by b q) t)) in
    (elim (step (get_or ws i []) h.state) as (λ o. step (get_or ws i []) h.state ≡ o → image o ≡ None → ⊥) [
      | None ↦ λ n u. no_front ws i h.state l h.leads n f
      | Some y ↦ λ n u. (let n : ◌≡◌ {A = Option Reader} (Some (code y)) None = u in cc)
    ]) refl u

pub front_at : (ws : Words) (i : ℕ) (r : Reader) → Led ws i r → IsFront (take i ws)
front_at ws i r h = front_of (take i ws) h.state (stands_behind (take i ws) h.state h.leads)

take_all : (ws : Words) → take (length ws) ws ≡ ws
take_all [] = refl
take_all (w ∷ ws) = ap (λ z. w ∷ z) (take_all ws)

pub stuck_front : (ws : Words) (i : ℕ) (r q : Reader) (w : Word) (b : Bool) → Led ws i r → i < length ws → w ≡ get_or ws i [] → b ≡ false
    → next w i r ≡ steps_by b q → IsLongestFront ws (take i ws)
stuck_front ws i r q w b h l e t s =
    let n : length (take i ws) ≡ i = length-take-le i ws (omega (arith, l)) in
    record {
      front = front_at ws i r h;
      more = drop i ws;
      begins = sym (take-append-drop i ws);
      longest = inr (λ f. word_stuck ws i r q w b h l e t s (subst (λ j. IsFront (take (j + 1) ws)) n f));
    }

pub whole_front : (ws : Words) (i n : ℕ) (r : Reader) → Led ws i r → i ≡ length ws → n ≡ length ws → IsLongestFront ws (take n ws)
whole_front ws i n r h e m =
    let s : i ≡ n = e ∙ sym m in
    record {
      front = subst (λ j. IsFront (take j ws)) s (front_at ws i r h);
      more = drop n ws;
      begins = sym (take-append-drop n ws);
      longest = inl (ap (λ j. take j ws) m ∙ take_all ws);
    }

pub never_stuck : (ws : Words) (i n : ℕ) (r q : Reader) (w : Word) (b : Bool) → Led ws i r → i < n → n ≤ length ws → IsFront (take n ws) → w ≡ get_or ws i [] → b ≡ false
    → next w i r ≡ steps_by b q → ⊥
never_stuck ws i n r q w b h l le f e t s =
    word_stuck ws i r q w b h (omega (arith, l, le)) e t s (front_before ws (i + 1) n (omega (arith, l)) f)

pub first_pieces : (ws : Words) (i n : ℕ) (r : Reader) (ps : List Piece) → Led ws i r → i ≡ n → n ≤ length ws → flushed n r ≡ ps → ArePiecesBefore (take n ws) ps
first_pieces ws i n r ps h e le q =
    let g : Led ws n r = subst (λ j. Led ws j r) e h in
    let m : length (state_words g.state) ≡ n = at_place ws n g.state le g.leads in
    let f : ps ≡ before.flushed g.state = sym q ∙ (ap (flushed n) g.same ∙ (ap (λ j. flushed j (code g.state)) (sym m) ∙ flushed_image g.state)) in
    subst (ArePiecesBefore (take n ws)) (sym f) (pieces_before (take n ws) g.state (stands_behind (take n ws) g.state g.leads))
