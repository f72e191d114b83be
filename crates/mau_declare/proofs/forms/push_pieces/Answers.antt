use Rattle.std.proofs.Common.{◌≡◌, ℕ, ◌+◌, List, [], ◌∷◌, ◌++◌, Bool, false, get_or, refl, sym, ap, ◌∙◌, subst, arith}
use Rattle.std.proofs.lemmas.Str.{IsCharBoundary-start, IsCharBoundary-after_ascii}
use Rattle.mau_signature.specs.declared.form.Piece.{Piece}
use Rattle.mau_signature.specs.declared.form.Piece.TheVariants.{Hole}
use Rattle.mau_declare.specs.Forms.{ended, pieces_of, is_quote}
use Rattle.mau_declare.proofs.Cutting.{IsCut, special_ends, quoted_step, hole_step, quote_step, plain_step}
use Rattle.mau_declare.proofs.forms.push_pieces.Goals as goal
use Rattle.mau_declare.proofs.forms.push_pieces.Goals.{then-is_quoted+in_ok-push_word, else-is_quoted+then-bytes-i-eq95+in_ok-push_word-2+in_ok-push, else-is_quoted+else-bytes-i-eq95+then-is_quote+in_ok-push_word-3, else-is_quoted+else-bytes-i-eq95+else-is_quote}

-- a cut, by other names
moved : (t : List ℕ) (all out out' : List Piece) (q q' : Bool) (from from' i : ℕ) → out' ≡ out → q' ≡ q → from' ≡ from → IsCut t all out q from i → IsCut t all out' q' from' i
moved t all out out' q q' from from' i o e f c =
    subst (λ o. IsCut t all o q' from' i) (sym o) (subst (λ q. IsCut t all out q from' i) (sym e) (subst (λ k. IsCut t all out q k i) (sym f) c))

pub loop-i-init : goal.loop-i-init
loop-i-init c = record { rest = refl; ascends = omega arith; boundary = IsCharBoundary-start c.args.text.now c.utf8.text; quoted = λ e. absurd cc }

pub range-requires-clause-end_boundary : goal.range-requires-clause-end_boundary
range-requires-clause-end_boundary c =
    IsCharBoundary-after_ascii c.args.text.now c.loop-i.i c.utf8.text (omega arith) (special_ends c.args.text.now c.loop-i.i (omega arith) (c.loop-i.invariant.quoted c.if-is_quoted.true))

pub loop-i-preserved : goal.loop-i-preserved
loop-i-preserved c =
    let t = c.args.text.now in
    let all = c.args.out.now.items ++ pieces_of t in
    let i = c.loop-i.i in
    let out = c.loop-i.out.items in
    let from = c.loop-i.begin in
    elim c.if-is_quoted.branch [
      | then-is_quoted+in_ok-push_word w ↦
          quoted_step t all out c.if-is_quoted.out.items c.if-is_quoted.is_quoted from c.if-is_quoted.begin i c.utf8.text (omega arith) w.begin-is
          (subst (λ q. IsCut t all out q from i) w.if-is_quoted.true c.loop-i.invariant) w.is_quoted-is
          (ap (λ v. v.items) w.out-is ∙ w.in_ok-push_word.ensures ∙ ap (λ x. out ++ ended x) w.range.ensures.value)
      | else-is_quoted+then-bytes-i-eq95+in_ok-push_word-2+in_ok-push w ↦
          hole_step t all out c.if-is_quoted.out.items c.if-is_quoted.is_quoted from c.if-is_quoted.begin i c.utf8.text (omega arith) w.begin-is
          (subst (λ q. IsCut t all out q from i) w.if-is_quoted.false c.loop-i.invariant) (sym (ap (λ xs. get_or xs i 0) c.as_bytes-bytes.ensures.value) ∙ w.if-bytes-i-eq95.true) (w.is_quoted-is ∙ w.if-is_quoted.false)
          (ap (λ v. v.items) w.out-is ∙ w.in_ok-push.ensures.items ∙ ap (λ xs. xs ++ Hole ∷ []) (w.in_ok-push_word-2.ensures ∙ ap (λ x. out ++ ended x) w.range-then-bytes-i-eq95.ensures.value))
      | else-is_quoted+else-bytes-i-eq95+then-is_quote+in_ok-push_word-3 w ↦
          quote_step t all out c.if-is_quoted.out.items c.if-is_quoted.is_quoted from c.if-is_quoted.begin i c.utf8.text (omega arith) w.begin-is
          (subst (λ q. IsCut t all out q from i) w.if-is_quoted.false c.loop-i.invariant) (sym (w.is_quote.ensures ∙ ap (λ xs. is_quote xs i) c.as_bytes-bytes.ensures.value) ∙ w.if-is_quote.true) w.is_quoted-is
          (ap (λ v. v.items) w.out-is ∙ w.in_ok-push_word-3.ensures ∙ ap (λ x. out ++ ended x) w.range-then-is_quote.ensures.value)
      | else-is_quoted+else-bytes-i-eq95+else-is_quote w ↦
          moved t all out c.if-is_quoted.out.items false c.if-is_quoted.is_quoted from c.if-is_quoted.begin (i + 1) (ap (λ v. v.items) w.out-is) (w.is_quoted-is ∙ w.if-is_quoted.false) w.begin-is
          (plain_step t all out from i (omega arith) (subst (λ q. IsCut t all out q from i) w.if-is_quoted.false c.loop-i.invariant) (λ e. w.if-bytes-i-eq95.false (ap (λ xs. get_or xs i 0) c.as_bytes-bytes.ensures.value ∙ e)) (sym (w.is_quote.ensures ∙ ap (λ xs. is_quote xs i) c.as_bytes-bytes.ensures.value) ∙ w.if-is_quote.false))
    ]
