-- One word more: what stands in a state, and the word, stand in the next one.
use Rattle.std.proofs.Common.{◌≡◌, ℕ, ◌≤◌, List, [], ◌∷◌, ◌++◌, Bool, true, false, ◌||◌, inl, inr, Option, Some, None, refl, sym, ap, ◌∙◌, subst, arith, append_assoc, append-nil}
use Rattle.std.proofs.lemmas.Bool.{false≢true, and_parts, eqb-true}
use Rattle.std.proofs.lemmas.List.Elements.{All-nil, All-push}
use Rattle.std.proofs.lemmas.Slice.Eq.{bytes_eq-Decides}
use Rattle.std.specs.Prelude.{codes, nat_eq, if◌then◌else◌}
use Rattle.mau_shapes.specs.Words.{Word, Words, is, Beginning, of_bracket, of_all, of_form, of_test, of_top, of_wrapper, of_nothing, of_name, beginning, names, stands_alone, Role, mark, joint, question, colon, condition, such, conjunction, comma, arrow, opening_round, opening_square, closing_round, closing_square, role, closes, behind, ends_test, ends_fragment, ends_variable, ends_term}
use Rattle.mau_shapes.specs.Shape.{Use, Shape, plain, assigned, called, wrapped, within, tested, marked, parted, use_text, use_texts, text, stops, IsPart, IsUse, begins_rule, takes_marks, Fits}
use Rattle.mau_shapes.specs.Reader.{bracket, wrapper, top_wrapper, left, asked, answered, Frames, Goal, argument, variable, value, pattern, fragment, State, operand, named, done, reading, such_of, ends, close, is_narrow, leave, leave_in, answer_in, unless, follow, begin, open_round, behind_name, end_argument, end_variable, end_value, end_pattern, end_fragment, end_part, end_some, read, step, go_on, run}
use Rattle.mau_shapes.proofs.Tables.{known_as, bracket_word}
use Rattle.mau_shapes.proofs.Reading.{Admits}
use Rattle.mau_shapes.proofs.Standing.{opened, AreOpen, admits_two, looser, Closed, closing, before, before_more, parted_more, uses_more, IsBegun, begun_none, begun_more, part_of, IsGoal, goal_words, MayStand, IsState, Stands}

-- ---- what a step tells

pub kept : (b : Bool) (o : Option State) (y : State) → unless b o ≡ Some y → (b ≡ false) × (o ≡ Some y)
kept true o y h = cc
kept false o y h = (refl, h)

same_state : (x y : State) → Some x ≡ Some y → x ≡ y
same_state x y h = cc

to : (ws : Words) (x y : State) → Some x ≡ Some y → Stands ws x → Stands ws y
to ws x y h s = subst (Stands ws) (same_state x y h) s

pub wide : (s : Shape) (k : Frames) → is_narrow k ≡ false → MayStand s k
wide s k free n = absurd (false≢true (sym free ∙ n))

pub pushed_some : {A : Type 0} (ts : List A) (t : A) → ts ++ t ∷ [] ≡ [] → ⊥
pushed_some [] t h = cc
pushed_some (u ∷ ts) t h = cc

-- ---- behind a place for a strategy

begin_stands : (b : Beginning) (v : Word) (k : Frames) (y : State) → beginning v ≡ b → AreOpen k → begin b v k ≡ Some y → Stands (opened k ++ v ∷ []) y
begin_stands of_bracket v k y e o h =
    let g : (is_narrow k ≡ false) × (Some (operand (bracket ∷ k)) ≡ Some y) = kept (is_narrow k) (Some (operand (bracket ∷ k))) y h in
    to (opened k ++ v ∷ []) (operand (bracket ∷ k)) y g.1 (record { right = (g.0, o); words = ap (λ z. opened k ++ z ∷ []) (sym (bracket_word v e)) })
begin_stands of_all v k y e o h =
    to (opened k ++ v ∷ []) (done (plain v) k) y h (record { right = (ap stands_alone e, refl, λ n. ap begins_rule e, o); words = refl })
begin_stands of_form v k y e o h =
    let g : (is_narrow k ≡ false) × (Some (done (plain v) k) ≡ Some y) = kept (is_narrow k) (Some (done (plain v) k)) y h in
    to (opened k ++ v ∷ []) (done (plain v) k) y g.1 (record { right = (ap stands_alone e, refl, wide (plain v) k g.0, o); words = refl })
begin_stands of_test v k y e o h =
    let g : (is_narrow k ≡ false) × (Some (reading (pattern v) [] 0 k) ≡ Some y) = kept (is_narrow k) (Some (reading (pattern v) [] 0 k)) y h in
    to (opened k ++ v ∷ []) (reading (pattern v) [] 0 k) y g.1 (record { right = ((e, g.0), begun_none ends_test, o); words = refl })
begin_stands of_nothing v k y e o h = cc
begin_stands of_top v k y e o h = to (opened k ++ v ∷ []) (named v k) y h (record { right = (ap names e, o); words = refl })
begin_stands of_wrapper v k y e o h = to (opened k ++ v ∷ []) (named v k) y h (record { right = (ap names e, o); words = refl })
begin_stands of_name v k y e o h = to (opened k ++ v ∷ []) (named v k) y h (record { right = (ap names e, o); words = refl })

-- ---- behind a strategy

tail_word : (a b : Words) (v : Word) → a ++ (b ++ v ∷ []) ≡ (a ++ b) ++ v ∷ []
tail_word a b v = sym (append_assoc a b (v ∷ []))

pub in_brackets : (a : Words) (w : Word) (b : Words) (v : Word) → a ++ (w ∷ (b ++ v ∷ [])) ≡ ((a ++ w ∷ []) ++ b) ++ v ∷ []
in_brackets a w b v = simp append_assoc

pub in_two : (a : Words) (w u : Word) (b : Words) (v : Word) → a ++ (w ∷ u ∷ (b ++ v ∷ [])) ≡ ((a ++ w ∷ u ∷ []) ++ b) ++ v ∷ []
in_two a w u b v = simp append_assoc

behind_question : (a b : Words) (q : Word) (c : Words) (v : Word) → a ++ (b ++ q ∷ (c ++ v ∷ [])) ≡ ((a ++ (b ++ q ∷ [])) ++ c) ++ v ∷ []
behind_question a b q c v = simp append_assoc

leave_stands : (k : Frames) (s : Shape) (v : Word) (y : State) → v ≡ codes ")" → Fits 6 s → Admits 7 k → AreOpen k → leave_in s k ≡ Some y
    → Stands ((opened k ++ text s) ++ v ∷ []) y
leave_stands [] s v y e h a o q = cc
leave_stands (bracket ∷ k) s v y e h a o q =
    to ((opened (bracket ∷ k) ++ text s) ++ v ∷ []) (done (within s) k) y q (record {
      right = (h, refl, wide (within s) k o.0, o.1);
      words = in_brackets (opened k) (codes "(") (text s) (codes ")") ∙ ap (λ z. (opened (bracket ∷ k) ++ text s) ++ z ∷ []) (sym e);
    })
leave_stands (wrapper w ∷ k) s v y e h a o q =
    to ((opened (wrapper w ∷ k) ++ text s) ++ v ∷ []) (done (wrapped w s) k) y q (record {
      right = ((inl o.0, h), refl, wide (wrapped w s) k o.1, o.2);
      words = in_two (opened k) w (codes "(") (text s) (codes ")") ∙ ap (λ z. (opened (wrapper w ∷ k) ++ text s) ++ z ∷ []) (sym e);
    })
leave_stands (top_wrapper w ∷ k) s v y e h a o q = absurd a
leave_stands (left w m f ∷ k) s v y e h a o q = cc
leave_stands (asked f ∷ k) s v y e h a o q = cc
leave_stands (answered f g ∷ k) s v y e h a o q = cc

narrow_stands : (k : Frames) (s : Shape) (v : Word) (y : State) → v ≡ codes ")" → Fits 6 s → is_narrow k ≡ true → MayStand s k → AreOpen k → leave (close 7 s k) ≡ Some y
    → Stands ((opened k ++ text s) ++ v ∷ []) y
narrow_stands (top_wrapper w ∷ k) s v y e h n a o q =
    to ((opened (top_wrapper w ∷ k) ++ text s) ++ v ∷ []) (done (wrapped w s) k) y q (record {
      right = ((inr (o.0, a refl), h), refl, wide (wrapped w s) k o.1, o.2);
      words = in_two (opened k) w (codes "(") (text s) (codes ")") ∙ ap (λ z. (opened (top_wrapper w ∷ k) ++ text s) ++ z ∷ []) (sym e);
    })
narrow_stands [] s v y e h n a o q = absurd (false≢true n)
narrow_stands (bracket ∷ k) s v y e h n a o q = absurd (false≢true n)
narrow_stands (wrapper w ∷ k) s v y e h n a o q = absurd (false≢true n)
narrow_stands (left w m f ∷ k) s v y e h n a o q = absurd (false≢true n)
narrow_stands (asked f ∷ k) s v y e h n a o q = absurd (false≢true n)
narrow_stands (answered f g ∷ k) s v y e h n a o q = absurd (false≢true n)

answer_stands : (k : Frames) (s : Shape) (v : Word) (y : State) → v ≡ codes ":" → Fits 6 s → AreOpen k → answer_in s k ≡ Some y
    → Stands ((opened k ++ text s) ++ v ∷ []) y
answer_stands [] s v y e h o q = cc
answer_stands (bracket ∷ k) s v y e h o q = cc
answer_stands (wrapper w ∷ k) s v y e h o q = cc
answer_stands (top_wrapper w ∷ k) s v y e h o q = cc
answer_stands (left w m f ∷ k) s v y e h o q = cc
answer_stands (answered f g ∷ k) s v y e h o q = cc
answer_stands (asked f ∷ k) s v y e h o q =
    to ((opened (asked f ∷ k) ++ text s) ++ v ∷ []) (operand (answered f s ∷ k)) y q (record {
      right = (o.0, h, o.1, o.2);
      words = behind_question (opened k) (text f) (codes "?") (text s) (codes ":") ∙ ap (λ z. (opened (asked f ∷ k) ++ text s) ++ z ∷ []) (sym e);
    })

-- what is closed has the same words
closed_words : (m : ℕ) (s : Shape) (k : Frames) (x : Shape × Frames) (v : Word) (y : State) → Closed m s k x → Stands ((opened x.1 ++ text x.0) ++ v ∷ []) y
    → Stands ((opened k ++ text s) ++ v ∷ []) y
closed_words m s k x v y c h = subst (λ z. Stands (z ++ v ∷ []) y) c.words h

pub follow_stands : (r : Role) (v : Word) (s : Shape) (k : Frames) (y : State) → role v ≡ r → Fits 2 s → (r ≡ mark → takes_marks s ≡ true) → MayStand s k → AreOpen k
    → follow r v s k ≡ Some y → Stands ((opened k ++ text s) ++ v ∷ []) y
follow_stands mark v s k y e h t a o q =
    let g : (is_narrow k ≡ false) × (Some (done (marked s v) k) ≡ Some y) = kept (is_narrow k) (Some (done (marked s v) k)) y q in
    to ((opened k ++ text s) ++ v ∷ []) (done (marked s v) k) y g.1 (record {
      right = ((omega arith, e, t refl, h), refl, wide (marked s v) k g.0, o);
      words = tail_word (opened k) (text s) v;
    })
follow_stands (joint m) v s k y e h t a o q =
    let x = close m s k in
    let g : (is_narrow k ≡ false) × (Some (operand (left v m x.0 ∷ x.1)) ≡ Some y) = kept (is_narrow k) (Some (operand (left v m x.0 ∷ x.1))) y q in
    let b : (3 ≤ m) × (m ≤ 5) = known_as v (joint m) e in
    let c : Closed m s k x = closing k m 2 s h (omega (arith, b.0)) (omega (arith, b.1)) (admits_two k o g.0) o in
    closed_words m s k x v y c (to ((opened x.1 ++ text x.0) ++ v ∷ []) (operand (left v m x.0 ∷ x.1)) y g.1 (record {
      right = (e, c.fits, c.admits, c.open_still);
      words = tail_word (opened x.1) (text x.0) v;
    }))
follow_stands question v s k y e h t a o q =
    let x = close 6 s k in
    let g : (is_narrow k ≡ false) × (Some (operand (asked x.0 ∷ x.1)) ≡ Some y) = kept (is_narrow k) (Some (operand (asked x.0 ∷ x.1))) y q in
    let c : Closed 6 s k x = closing k 6 2 s h (omega arith) (omega arith) (admits_two k o g.0) o in
    closed_words 6 s k x v y c (to ((opened x.1 ++ text x.0) ++ v ∷ []) (operand (asked x.0 ∷ x.1)) y g.1 (record {
      right = (c.fits, c.admits, c.open_still);
      words = tail_word (opened x.1) (text x.0) (codes "?") ∙ ap (λ z. (opened x.1 ++ text x.0) ++ z ∷ []) (sym (known_as v question e));
    }))
follow_stands colon v s k y e h t a o q =
    let x = close 7 s k in
    let g : (is_narrow k ≡ false) × (answer_in x.0 x.1 ≡ Some y) = kept (is_narrow k) (answer_in x.0 x.1) y q in
    let c : Closed 7 s k x = closing k 7 2 s h (omega arith) (omega arith) (admits_two k o g.0) o in
    closed_words 7 s k x v y c (answer_stands x.1 x.0 v y (known_as v colon e) c.fits c.open_still g.1)
follow_stands closing_round v s k y e h t a o q =
    (elim (is_narrow k) as (λ b. is_narrow k ≡ b → Stands ((opened k ++ text s) ++ v ∷ []) y) [
      | true ↦ λ n. narrow_stands k s v y (known_as v closing_round e) (looser s 2 6 (omega arith) h) n a o q
      | false ↦ λ free.
          let c : Closed 7 s k (close 7 s k) = closing k 7 2 s h (omega arith) (omega arith) (admits_two k o free) o in
          closed_words 7 s k (close 7 s k) v y c (leave_stands (close 7 s k).1 (close 7 s k).0 v y (known_as v closing_round e) c.fits c.admits c.open_still q)
    ]) refl
follow_stands _ v s k y e h t a o q = cc

-- ---- behind a name

pub names_alone : (b : Beginning) → names b ≡ true → stands_alone b ≡ true
names_alone of_top h = refl
names_alone of_wrapper h = refl
names_alone of_name h = refl
names_alone of_bracket h = absurd (false≢true h)
names_alone of_all h = refl
names_alone of_form h = refl
names_alone of_test h = absurd (false≢true h)
names_alone of_nothing h = absurd (false≢true h)

pub names_rule : (b : Beginning) → names b ≡ true → begins_rule b ≡ true
names_rule of_top h = refl
names_rule of_wrapper h = refl
names_rule of_name h = refl
names_rule of_bracket h = absurd (false≢true h)
names_rule of_all h = refl
names_rule of_form h = absurd (false≢true h)
names_rule of_test h = absurd (false≢true h)
names_rule of_nothing h = absurd (false≢true h)

round_stands : (b : Beginning) (v w : Word) (k : Frames) (y : State) → v ≡ codes "(" → beginning w ≡ b → names b ≡ true → is_narrow k ≡ false → AreOpen k
    → open_round b w k ≡ Some y → Stands ((opened k ++ w ∷ []) ++ v ∷ []) y
round_stands of_top v w k y e h n free o q =
    to ((opened k ++ w ∷ []) ++ v ∷ []) (operand (top_wrapper w ∷ k)) y q (record {
      right = (h, free, o);
      words = tail_word (opened k) (w ∷ []) (codes "(") ∙ ap (λ z. (opened k ++ w ∷ []) ++ z ∷ []) (sym e);
    })
round_stands of_wrapper v w k y e h n free o q =
    to ((opened k ++ w ∷ []) ++ v ∷ []) (operand (wrapper w ∷ k)) y q (record {
      right = (h, free, o);
      words = tail_word (opened k) (w ∷ []) (codes "(") ∙ ap (λ z. (opened k ++ w ∷ []) ++ z ∷ []) (sym e);
    })
round_stands of_name v w k y e h n free o q =
    to ((opened k ++ w ∷ []) ++ v ∷ []) (reading (argument w []) [] 0 k) y q (record {
      right = ((h, All-nil (IsPart ends_term), free), begun_none ends_term, o);
      words = tail_word (opened k) (w ∷ []) (codes "(") ∙ ap (λ z. (opened k ++ w ∷ []) ++ z ∷ []) (sym e);
    })
round_stands of_bracket v w k y e h n free o q = absurd (false≢true n)
round_stands of_all v w k y e h n free o q = absurd (false≢true n)
round_stands of_form v w k y e h n free o q = absurd (false≢true n)
round_stands of_test v w k y e h n free o q = absurd (false≢true n)
round_stands of_nothing v w k y e h n free o q = absurd (false≢true n)

name_stands : (r : Role) (v w : Word) (k : Frames) (y : State) → role v ≡ r → names (beginning w) ≡ true → AreOpen k → behind_name r v w k ≡ Some y
    → Stands ((opened k ++ w ∷ []) ++ v ∷ []) y
name_stands opening_round v w k y e n o q =
    let g : (is_narrow k ≡ false) × (open_round (beginning w) w k ≡ Some y) = kept (is_narrow k) (open_round (beginning w) w k) y q in
    round_stands (beginning w) v w k y (known_as v opening_round e) refl n g.0 o g.1
name_stands opening_square v w k y e n o q =
    to ((opened k ++ w ∷ []) ++ v ∷ []) (reading (variable w []) [] 0 k) y q (record {
      right = ((n, All-nil IsUse), begun_none ends_variable, o);
      words = tail_word (opened k) (w ∷ []) (codes "[") ∙ ap (λ z. (opened k ++ w ∷ []) ++ z ∷ []) (sym (known_as v opening_square e));
    })
name_stands r v w k y e n o q =
    follow_stands r v (plain w) k y e (names_alone (beginning w) n) (λ m. refl) (λ m. names_rule (beginning w) n) o q

-- ---- behind a part

part_words : (a b p : Words) (v : Word) → a ++ (b ++ (p ++ v ∷ [])) ≡ (a ++ (b ++ p)) ++ v ∷ []
part_words a b p v = simp append_assoc

-- the words b are those of the goal, and p the part that ends
list_words : (a b p c : Words) (v : Word) → c ≡ b ++ (p ++ v ∷ []) → a ++ (c ++ []) ≡ (a ++ (b ++ p)) ++ v ∷ []
list_words a b p c v h = ap (λ z. a ++ z) (append-nil c ∙ h) ∙ part_words a b p v

pub end_words : (a b p c : Words) (v : Word) → c ≡ b ++ p → a ++ (c ++ v ∷ []) ≡ (a ++ (b ++ p)) ++ v ∷ []
end_words a b p c v h = ap (λ z. a ++ (z ++ v ∷ [])) h ∙ tail_word a (b ++ p) v

argument_stands : (r : Role) (v w : Word) (ts : List Words) (p : Words) (k : Frames) (y : State) → role v ≡ r → IsGoal (argument w ts) k → IsPart ends_term p → AreOpen k
    → end_argument r w ts p k ≡ Some y → Stands ((opened k ++ (goal_words (argument w ts) ++ p)) ++ v ∷ []) y
argument_stands comma v w ts p k y e h i o q =
    to ((opened k ++ (goal_words (argument w ts) ++ p)) ++ v ∷ []) (reading (argument w (ts ++ p ∷ [])) [] 0 k) y q (record {
      right = ((h.0, All-push (IsPart ends_term) ts p h.1 i, h.2), begun_none ends_term, o);
      words = list_words (opened k) (goal_words (argument w ts)) p (goal_words (argument w (ts ++ p ∷ []))) (codes ",")
          (ap (λ z. w ∷ codes "(" ∷ z) (before_more (codes ",") ts p))
          ∙ ap (λ z. (opened k ++ (goal_words (argument w ts) ++ p)) ++ z ∷ []) (sym (known_as v comma e));
    })
argument_stands closing_round v w ts p k y e h i o q =
    to ((opened k ++ (goal_words (argument w ts) ++ p)) ++ v ∷ []) (done (called w (ts ++ p ∷ [])) k) y q (record {
      right = ((h.0, pushed_some ts p, All-push (IsPart ends_term) ts p h.1 i), refl, wide (called w (ts ++ p ∷ [])) k h.2, o);
      words = end_words (opened k) (goal_words (argument w ts)) p (w ∷ codes "(" ∷ parted (codes ",") (ts ++ p ∷ [])) (codes ")")
          (ap (λ z. w ∷ codes "(" ∷ z) (parted_more (codes ",") ts p))
          ∙ ap (λ z. (opened k ++ (goal_words (argument w ts) ++ p)) ++ z ∷ []) (sym (known_as v closing_round e));
    })
argument_stands _ v w ts p k y e h i o q = cc

variable_words : (w a : Word) (b p : Words) (v : Word) → w ∷ a ∷ (b ++ (p ++ v ∷ [])) ≡ (w ∷ a ∷ b) ++ (p ++ v ∷ [])
variable_words w a b p v = refl

variable_stands : (r : Role) (v w : Word) (us : List Use) (p : Words) (k : Frames) (y : State) → role v ≡ r → IsGoal (variable w us) k → IsPart ends_variable p → AreOpen k
    → end_variable r w us p k ≡ Some y → Stands ((opened k ++ (goal_words (variable w us) ++ p)) ++ v ∷ []) y
variable_stands arrow v w us p k y e h i o q =
    to ((opened k ++ (goal_words (variable w us) ++ p)) ++ v ∷ []) (reading (value w us p) [] 0 k) y q (record {
      right = ((h.0, h.1, i), begun_none ends_term, o);
      words = list_words (opened k) (goal_words (variable w us)) p (goal_words (value w us p)) (codes "<-") refl
          ∙ ap (λ z. (opened k ++ (goal_words (variable w us) ++ p)) ++ z ∷ []) (sym (known_as v arrow e));
    })
variable_stands _ v w us p k y e h i o q = cc

use_words : (b x p : Words) (a v : Word) → b ++ ((x ++ a ∷ p) ++ v ∷ []) ≡ (b ++ (x ++ a ∷ [])) ++ (p ++ v ∷ [])
use_words b x p a v = simp append_assoc

last_use_words : (b x p : Words) (a : Word) → b ++ (x ++ a ∷ p) ≡ (b ++ (x ++ a ∷ [])) ++ p
last_use_words b x p a = simp append_assoc

value_stands : (r : Role) (v w : Word) (us : List Use) (x p : Words) (k : Frames) (y : State) → role v ≡ r → IsGoal (value w us x) k → IsPart ends_term p → AreOpen k
    → end_value r w us (x, p) k ≡ Some y → Stands ((opened k ++ (goal_words (value w us x) ++ p)) ++ v ∷ []) y
value_stands comma v w us x p k y e h i o q =
    to ((opened k ++ (goal_words (value w us x) ++ p)) ++ v ∷ []) (reading (variable w (us ++ (x, p) ∷ [])) [] 0 k) y q (record {
      right = ((h.0, All-push IsUse us (x, p) h.1 (record { variable = h.2; value = i })), begun_none ends_variable, o);
      words = list_words (opened k) (goal_words (value w us x)) p (goal_words (variable w (us ++ (x, p) ∷ []))) (codes ",")
          (ap (λ z. w ∷ codes "[" ∷ z) (ap (before (codes ",")) (uses_more us (x, p)) ∙ (before_more (codes ",") (use_texts us) (use_text (x, p))
          ∙ use_words (before (codes ",") (use_texts us)) x p (codes "<-") (codes ","))))
          ∙ ap (λ z. (opened k ++ (goal_words (value w us x) ++ p)) ++ z ∷ []) (sym (known_as v comma e));
    })
value_stands closing_square v w us x p k y e h i o q =
    to ((opened k ++ (goal_words (value w us x) ++ p)) ++ v ∷ []) (done (assigned w (us ++ (x, p) ∷ [])) k) y q (record {
      right = ((h.0, pushed_some us (x, p), All-push IsUse us (x, p) h.1 (record { variable = h.2; value = i })), refl, λ n. refl, o);
      words = end_words (opened k) (goal_words (value w us x)) p (w ∷ codes "[" ∷ parted (codes ",") (use_texts (us ++ (x, p) ∷ []))) (codes "]")
          (ap (λ z. w ∷ codes "[" ∷ z) (ap (parted (codes ",")) (uses_more us (x, p)) ∙ (parted_more (codes ",") (use_texts us) (use_text (x, p))
          ∙ last_use_words (before (codes ",") (use_texts us)) x p (codes "<-"))))
          ∙ ap (λ z. (opened k ++ (goal_words (value w us x) ++ p)) ++ z ∷ []) (sym (known_as v closing_square e));
    })
value_stands _ v w us x p k y e h i o q = cc

no_mark : (f : Role → Bool) (r : Role) (s : Shape) → f mark ≡ false → stops f 0 r ≡ true → r ≡ mark → takes_marks s ≡ true
no_mark f r s n h e =
    let a : stops f 0 mark ≡ true = subst (λ r. stops f 0 r ≡ true) e h in
    let b : (f mark || false) ≡ false = ap (λ b. b || false) n in
    absurd (false≢true (sym b ∙ a))

pattern_stands : (r : Role) (v w : Word) (p : Words) (k : Frames) (y : State) → role v ≡ r → stops ends_test 0 r ≡ true → IsGoal (pattern w) k → IsPart ends_test p → AreOpen k
    → end_pattern r v w p k ≡ Some y → Stands ((opened k ++ (goal_words (pattern w) ++ p)) ++ v ∷ []) y
pattern_stands condition v w p k y e n h i o q =
    to ((opened k ++ (goal_words (pattern w) ++ p)) ++ v ∷ []) (reading (fragment w p (v ∷ []) []) [] 0 k) y q (record {
      right = ((h.0, h.1, i, inl (ap (λ z. z ∷ []) (known_as v condition e)), All-nil (IsPart ends_fragment)), begun_none ends_fragment, o);
      words = list_words (opened k) (goal_words (pattern w)) p (goal_words (fragment w p (v ∷ []) [])) v refl;
    })
pattern_stands such v w p k y e n h i o q =
    to ((opened k ++ (goal_words (pattern w) ++ p)) ++ v ∷ []) (such_of w p v k) y q (record {
      right = (h.0, h.1, i, known_as v such e, o);
      words = tail_word (opened k) (w ∷ p) v;
    })
pattern_stands r v w p k y e n h i o q =
    subst (λ z. Stands ((opened k ++ w ∷ z) ++ v ∷ []) y) (append-nil p)
    (follow_stands r v (tested w p None) k y e (h.0, i, tt) (no_mark ends_test r (tested w p None) refl n) (wide (tested w p None) k h.1) o q)

fragment_list : (w : Word) (p c b q : Words) (v : Word) → w ∷ (p ++ (c ++ (b ++ (q ++ v ∷ [])))) ≡ (w ∷ (p ++ (c ++ b))) ++ (q ++ v ∷ [])
fragment_list w p c b q v = simp append_assoc

fragment_last : (w : Word) (p c b q : Words) → w ∷ (p ++ (c ++ (b ++ q))) ≡ (w ∷ (p ++ (c ++ b))) ++ q
fragment_last w p c b q = simp append_assoc

fragment_stands : (r : Role) (v w : Word) (p c : Words) (cs : List Words) (q : Words) (k : Frames) (y : State) → role v ≡ r → stops ends_fragment 0 r ≡ true
    → IsGoal (fragment w p c cs) k → IsPart ends_fragment q → AreOpen k
    → end_fragment r v w p c (cs ++ q ∷ []) k ≡ Some y → Stands ((opened k ++ (goal_words (fragment w p c cs) ++ q)) ++ v ∷ []) y
fragment_stands conjunction v w p c cs q k y e n h i o x =
    to ((opened k ++ (goal_words (fragment w p c cs) ++ q)) ++ v ∷ []) (reading (fragment w p c (cs ++ q ∷ [])) [] 0 k) y x (record {
      right = ((h.0, h.1, h.2, h.3, All-push (IsPart ends_fragment) cs q h.4 i), begun_none ends_fragment, o);
      words = list_words (opened k) (goal_words (fragment w p c cs)) q (goal_words (fragment w p c (cs ++ q ∷ []))) (codes "/\\")
          (ap (λ z. w ∷ (p ++ (c ++ z))) (before_more (codes "/\\") cs q) ∙ fragment_list w p c (before (codes "/\\") cs) q (codes "/\\"))
          ∙ ap (λ z. (opened k ++ (goal_words (fragment w p c cs) ++ q)) ++ z ∷ []) (sym (known_as v conjunction e));
    })
fragment_stands r v w p c cs q k y e n h i o x =
    subst (λ z. Stands ((opened k ++ z) ++ v ∷ []) y)
    (ap (λ z. w ∷ (p ++ (c ++ z))) (parted_more (codes "/\\") cs q) ∙ fragment_last w p c (before (codes "/\\") cs) q)
    (follow_stands r v (tested w p (Some (c, cs ++ q ∷ []))) k y e
    (h.0, h.2, record { sign = h.3; some = pushed_some cs q; fragments = All-push (IsPart ends_fragment) cs q h.4 i })
    (no_mark ends_fragment r (tested w p (Some (c, cs ++ q ∷ []))) refl n) (wide (tested w p (Some (c, cs ++ q ∷ []))) k h.1) o x)

end_stands : (g : Goal) (v : Word) (p : Words) (k : Frames) (y : State) → IsGoal g k → IsPart (ends g) p → AreOpen k → stops (ends g) 0 (role v) ≡ true
    → end_part g v p k ≡ Some y → Stands ((opened k ++ (goal_words g ++ p)) ++ v ∷ []) y
end_stands (argument w ts) v p k y h i o n q = argument_stands (role v) v w ts p k y refl h i o q
end_stands (variable w us) v p k y h i o n q = variable_stands (role v) v w us p k y refl h i o q
end_stands (value w us x) v p k y h i o n q = value_stands (role v) v w us x p k y refl h i o q
end_stands (pattern w) v p k y h i o n q = pattern_stands (role v) v w p k y refl n h i o q
end_stands (fragment w p c cs) v x k y h i o n q = fragment_stands (role v) v w p c cs x k y refl n h i o q

some_stands : (g : Goal) (v : Word) (p : Words) (k : Frames) (y : State) → IsGoal g k → IsBegun (ends g) p 0 → AreOpen k → stops (ends g) 0 (role v) ≡ true
    → end_some g v p k ≡ Some y → Stands ((opened k ++ (goal_words g ++ p)) ++ v ∷ []) y
some_stands g v [] k y h b o n q = cc
some_stands g v (u ∷ p) k y h b o n q = end_stands g v (u ∷ p) k y h (part_of (ends g) (u ∷ p) b (λ e. cc)) o n q

outside : (f : Role → Bool) (d : ℕ) (r : Role) → stops f d r ≡ true → d ≡ 0
outside f d r h = eqb-true d 0 (and_parts (nat_eq d 0) (f r || closes r) h).0

read_stands : (g : Goal) (v : Word) (p : Words) (d : ℕ) (k : Frames) (y : State) → IsGoal g k → IsBegun (ends g) p d → AreOpen k → read g v p d k ≡ Some y
    → Stands ((opened k ++ (goal_words g ++ p)) ++ v ∷ []) y
read_stands g v p d k y h b o q =
    (elim (stops (ends g) d (role v)) as (λ t. stops (ends g) d (role v) ≡ t
    → (if t then end_some g v p k else Some (reading g (p ++ v ∷ []) (behind d (role v)) k)) ≡ Some y
    → Stands ((opened k ++ (goal_words g ++ p)) ++ v ∷ []) y) [
      | true ↦ λ n e.
          let z : d ≡ 0 = outside (ends g) d (role v) n in
          some_stands g v p k y h (subst (IsBegun (ends g) p) z b) o (subst (λ d. stops (ends g) d (role v) ≡ true) z n) e
      | false ↦ λ n e.
          to ((opened k ++ (goal_words g ++ p)) ++ v ∷ []) (reading g (p ++ v ∷ []) (behind d (role v)) k) y e (record {
            right = (h, begun_more (ends g) p d v b n, o);
            words = part_words (opened k) (goal_words g) p v;
          })
    ]) refl q

such_words : (a : Words) (w : Word) (p : Words) (u v : Word) → a ++ ((w ∷ (p ++ ((u ∷ v ∷ []) ++ []))) ++ []) ≡ (a ++ w ∷ (p ++ u ∷ [])) ++ v ∷ []
such_words a w p u v = simp (append_assoc, append-nil)

such_stands : (v w : Word) (p : Words) (u : Word) (k : Frames) (y : State) → IsState (such_of w p u k) → step v (such_of w p u k) ≡ Some y
    → Stands ((opened k ++ w ∷ (p ++ u ∷ [])) ++ v ∷ []) y
such_stands v w p u k y h q =
    (elim (is v (codes "that")) as (λ b. is v (codes "that") ≡ b → (if b then Some (reading (fragment w p (u ∷ v ∷ []) []) [] 0 k) else None) ≡ Some y
    → Stands ((opened k ++ w ∷ (p ++ u ∷ [])) ++ v ∷ []) y) [
      | true ↦ λ e x.
          let that : v ≡ codes "that" = (bytes_eq-Decides v (codes "that")).0 e in
          to ((opened k ++ w ∷ (p ++ u ∷ [])) ++ v ∷ []) (reading (fragment w p (u ∷ v ∷ []) []) [] 0 k) y x (record {
            right = ((h.0, h.1, h.2, inr (ap (λ z. z ∷ v ∷ []) h.3 ∙ ap (λ z. codes "such" ∷ z ∷ []) that), All-nil (IsPart ends_fragment)), begun_none ends_fragment, h.4);
            words = such_words (opened k) w p u v;
          })
      | false ↦ λ e x. cc
    ]) refl q

-- ---- one word more, and all

pub one_stands : (v : Word) (x y : State) (ws : Words) → Stands ws x → step v x ≡ Some y → Stands (ws ++ v ∷ []) y
one_stands v (operand k) y ws h q = subst (λ z. Stands (z ++ v ∷ []) y) h.words (begin_stands (beginning v) v k y refl h.right q)
one_stands v (named w k) y ws h q = subst (λ z. Stands (z ++ v ∷ []) y) h.words (name_stands (role v) v w k y refl h.right.0 h.right.1 q)
one_stands v (done s k) y ws h q =
    subst (λ z. Stands (z ++ v ∷ []) y) h.words (follow_stands (role v) v s k y refl h.right.0 (λ m. h.right.1) h.right.2 h.right.3 q)
one_stands v (reading g p d k) y ws h q = subst (λ z. Stands (z ++ v ∷ []) y) h.words (read_stands g v p d k y h.right.0 h.right.1 h.right.2 q)
one_stands v (such_of w p u k) y ws h q = subst (λ z. Stands (z ++ v ∷ []) y) h.words (such_stands v w p u k y h.right q)

pub all_stand : (vs : Words) (x y : State) (ws : Words) → Stands ws x → run vs x ≡ Some y → Stands (ws ++ vs) y
all_stand [] x y ws h q = subst (λ z. Stands z y) (sym (append-nil ws)) (to ws x y q h)
all_stand (v ∷ vs) x y ws h q =
    (elim (step v x) as (λ o. step v x ≡ o → go_on o (run vs) ≡ Some y → Stands (ws ++ v ∷ vs) y) [
      | None ↦ λ e r. cc
      | Some z ↦ λ e r. subst (λ u. Stands u y) (append_assoc ws (v ∷ []) vs) (all_stand vs z y (ws ++ v ∷ []) (one_stands v x z ws h e) r)
    ]) refl q

pub start_stands : Stands [] (operand [])
start_stands = record { right = tt; words = refl }
