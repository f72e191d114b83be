-- What stands in a state may go on to be a strategy; and the first word with which none goes on.
use Rattle.std.proofs.Common.{◌≡◌, ℕ, zero, suc, ◌+◌, ◌-◌, ◌≤◌, ◌<◌, [], ◌∷◌, ◌++◌, length, take, drop, get_or, Bool, true, false, ◌||◌, inl, inr, Some, None, refl, sym, ap, ◌∙◌, subst, arith, append_assoc, append-nil}
use Rattle.std.proofs.lemmas.Bool.{false≢true, and_left, and_right, ne_eqb}
use Rattle.std.proofs.lemmas.List.{take_more, take-append-drop}
use Rattle.std.proofs.lemmas.List.Elements.{All-nil, All-cons, All-push}
use Rattle.std.specs.Prelude.{codes, nat_eq, if◌then◌else◌}
use Rattle.mau_shapes.specs.Words.{Word, Words, of_test, beginning, stands_alone, Role, joint, no_role, closing_round, role, behind, ends_test, ends_fragment, ends_variable, ends_term}
use Rattle.mau_shapes.specs.Shape.{Shape, plain, assigned, called, wrapped, within, tested, joined, chosen, parted, use_text, use_texts, text, stops, is_clear, IsPart, IsUse, begins_rule, is_rule_form, Fits, IsTextOf}
use Rattle.mau_shapes.specs.Front.{IsFront, IsUnexpected}
use Rattle.mau_shapes.specs.Reader.{bracket, wrapper, top_wrapper, left, asked, answered, Frames, Goal, argument, variable, value, pattern, fragment, State, operand, named, done, reading, such_of, ends, close, is_narrow, step, go_on, run, whole, whole_in, finish}
use Rattle.mau_shapes.proofs.Running.{run_more, of_closing_round}
use Rattle.mau_shapes.proofs.Tables.{known_as}
use Rattle.mau_shapes.proofs.Reading.{Admits, result, goes, ends_nowhere}
use Rattle.mau_shapes.proofs.Standing.{opened, AreOpen, admits_two, looser, Closed, closing, regroup, regroup_two, before, parted_more, uses_more, IsBegun, part_of, IsGoal, goal_words, MayStand, Stands}
use Rattle.mau_shapes.proofs.Stepping.{wide, pushed_some, names_alone, names_rule, in_brackets, in_two, all_stand, start_stands}

-- ---- forms that are open are closed

-- a strategy of the level n may stand there
abbrev pub MayBe : ℕ → Shape → Frames → Type 0
MayBe n s [] = Unit {0}
MayBe n s (bracket ∷ k) = Unit {0}
MayBe n s (wrapper w ∷ k) = Unit {0}
MayBe n s (top_wrapper w ∷ k) = is_rule_form s ≡ true
MayBe n s (left w m e ∷ k) = n ≤ m
MayBe n s (asked e ∷ k) = Unit {0}
MayBe n s (answered e f ∷ k) = Unit {0}

pub admitted : (k : Frames) (n : ℕ) (s : Shape) → Admits n k → MayBe n s k
admitted [] n s h = tt
admitted (bracket ∷ k) n s h = tt
admitted (wrapper w ∷ k) n s h = tt
admitted (top_wrapper w ∷ k) n s h = absurd h
admitted (left w m e ∷ k) n s h = h
admitted (asked e ∷ k) n s h = tt
admitted (answered e f ∷ k) n s h = tt

pub tight : (k : Frames) (s : Shape) → AreOpen k → MayStand s k → MayBe 2 s k
tight [] s o h = tt
tight (bracket ∷ k) s o h = tt
tight (wrapper w ∷ k) s o h = tt
tight (top_wrapper w ∷ k) s o h = h refl
tight (left w m e ∷ k) s o h = let b : (3 ≤ m) × (m ≤ 5) = known_as w (joint m) o.0 in omega (arith, b.0)
tight (asked e ∷ k) s o h = tt
tight (answered e f ∷ k) s o h = tt

pub stands_by_itself : stands_alone (beginning (codes "all")) ≡ true
unfolding beginning
stands_by_itself = refl

pub is_rule : begins_rule (beginning (codes "all")) ≡ true
unfolding beginning
is_rule = refl

pub more_words : (a ws more b : Words) → a ≡ ws ++ more → a ++ b ≡ ws ++ (more ++ b)
more_words a ws more b h = ap (λ z. z ++ b) h ∙ append_assoc ws more b

pub asked_words : (a b : Words) (q : Word) (s c : Words) → a ++ (b ++ q ∷ (s ++ c)) ≡ ((a ++ (b ++ q ∷ [])) ++ s) ++ c
asked_words a b q s c = simp append_assoc

pub complete : (k : Frames) (s : Shape) (n : ℕ) (ws more : Words) → AreOpen k → Fits n s → n ≤ 6 → MayBe n s k → opened k ++ text s ≡ ws ++ more → IsFront ws
complete [] s n ws more o h le a e = record { shape = s; more = more; reads = record { strategy = looser s n 6 le h; words = e } }
complete (bracket ∷ k) s n ws more o h le a e =
    complete k (within s) 2 ws (more ++ codes ")" ∷ []) o.1 (looser s n 6 le h) (omega arith) (tight k (within s) o.1 (wide (within s) k o.0))
    (in_brackets (opened k) (codes "(") (text s) (codes ")") ∙ more_words (opened (bracket ∷ k) ++ text s) ws more (codes ")" ∷ []) e)
complete (wrapper w ∷ k) s n ws more o h le a e =
    complete k (wrapped w s) 2 ws (more ++ codes ")" ∷ []) o.2 (inl o.0, looser s n 6 le h) (omega arith) (tight k (wrapped w s) o.2 (wide (wrapped w s) k o.1))
    (in_two (opened k) w (codes "(") (text s) (codes ")") ∙ more_words (opened (wrapper w ∷ k) ++ text s) ws more (codes ")" ∷ []) e)
complete (top_wrapper w ∷ k) s n ws more o h le a e =
    complete k (wrapped w s) 2 ws (more ++ codes ")" ∷ []) o.2 (inr (o.0, a), looser s n 6 le h) (omega arith) (tight k (wrapped w s) o.2 (wide (wrapped w s) k o.1))
    (in_two (opened k) w (codes "(") (text s) (codes ")") ∙ more_words (opened (top_wrapper w ∷ k) ++ text s) ws more (codes ")" ∷ []) e)
complete (left w m f ∷ k) s n ws more o h le a e =
    let b : (3 ≤ m) × (m ≤ 5) = known_as w (joint m) o.0 in
    complete k (joined w f s) m ws more o.3 (m, o.0, omega arith, o.1, looser s n m a h) (omega (arith, b.1)) (admitted k m (joined w f s) o.2)
    (regroup (opened k) (text f) w (text s) ∙ e)
complete (asked f ∷ k) s n ws more o h le a e =
    complete k (chosen f s (plain (codes "all"))) 6 ws (more ++ codes ":" ∷ codes "all" ∷ []) o.2 (omega arith, o.0, looser s n 6 le h, stands_by_itself) (omega arith)
    (admitted k 6 (chosen f s (plain (codes "all"))) o.1)
    (asked_words (opened k) (text f) (codes "?") (text s) (codes ":" ∷ codes "all" ∷ [])
    ∙ more_words (opened (asked f ∷ k) ++ text s) ws more (codes ":" ∷ codes "all" ∷ []) e)
complete (answered f g ∷ k) s n ws more o h le a e =
    complete k (chosen f g s) 6 ws more o.3 (omega arith, o.0, o.1, looser s n 6 le h) (omega arith) (admitted k 6 (chosen f g s) o.2)
    (regroup_two (opened k) (text f) (codes "?") (text g) (codes ":") (text s) ∙ e)

-- ---- parts that are begun are ended

unfoldable pub closers : ℕ → Words
closers zero = []
closers (suc d) = codes ")" ∷ closers d

unfoldable pub tail : ℕ → Words
tail d = codes "all" ∷ closers d

of_all_role : role (codes "all") ≡ no_role
unfolding role
of_all_role = refl

closers_clear : (f : Role → Bool) (d : ℕ) → is_clear f d (closers d) ≡ true
unfolding closers
closers_clear f zero = refl
closers_clear f (suc d) =
    let e : suc d - 1 ≡ d = omega arith in
    let z : nat_eq (suc d) 0 ≡ false = ne_eqb (suc d) 0 (λ e. omega (arith, e)) in
    let n : stops f (suc d) closing_round ≡ false = and_left (nat_eq (suc d) 0) (f closing_round || true) z in
    ap (λ r. if stops f (suc d) r then false else is_clear f (behind (suc d) r) (closers d)) of_closing_round
    ∙ (ap (λ b. if b then false else is_clear f (suc d - 1) (closers d)) n ∙ (ap (λ n. is_clear f n (closers d)) e ∙ closers_clear f d))

tail_clear : (f : Role → Bool) (d : ℕ) → f no_role ≡ false → is_clear f d (tail d) ≡ true
unfolding tail
tail_clear f d h =
    let n : stops f d no_role ≡ false = and_right (nat_eq d 0) (f no_role || false) (ap (λ b. b || false) h) in
    ap (λ r. if stops f d r then false else is_clear f (behind d r) (closers d)) of_all_role
    ∙ (ap (λ b. if b then false else is_clear f d (closers d)) n ∙ closers_clear f d)

no_end : (g : Goal) → ends g no_role ≡ false
no_end (argument w ts) = refl
no_end (variable w us) = refl
no_end (value w us x) = refl
no_end (pattern w) = refl
no_end (fragment w p c cs) = refl

pub tail_some : (p : Words) (d : ℕ) → p ++ tail d ≡ [] → ⊥
unfolding tail
tail_some [] d h = cc
tail_some (w ∷ p) d h = cc

pub ended : (f : Role → Bool) (p : Words) (d : ℕ) → f no_role ≡ false → IsBegun f p d → IsPart f (p ++ tail d)
ended f p d n h = record { some = tail_some p d; clear = h.clear (tail d) ∙ tail_clear f d n }

pub one_word : (f : Role → Bool) → f no_role ≡ false → IsPart f (codes "all" ∷ [])
unfolding tail closers
one_word f n = record { some = λ e. cc; clear = tail_clear f 0 n }

pub argument_words : (a : Words) (w o : Word) (b p t : Words) (c : Words) → a ++ (w ∷ o ∷ ((b ++ (p ++ t)) ++ c)) ≡ (a ++ ((w ∷ o ∷ b) ++ p)) ++ (t ++ c)
argument_words a w o b p t c = simp append_assoc

pub variable_words : (a : Words) (w o : Word) (b p t : Words) (x : Word) (u c : Words) → a ++ (w ∷ o ∷ ((b ++ ((p ++ t) ++ x ∷ u)) ++ c)) ≡ (a ++ ((w ∷ o ∷ b) ++ p)) ++ (t ++ x ∷ (u ++ c))
variable_words a w o b p t x u c = simp append_assoc

pub value_words : (a : Words) (w o : Word) (b x : Words) (v : Word) (p t c : Words)
    → a ++ (w ∷ o ∷ ((b ++ (x ++ v ∷ (p ++ t))) ++ c)) ≡ (a ++ ((w ∷ o ∷ (b ++ (x ++ v ∷ []))) ++ p)) ++ (t ++ c)
value_words a w o b x v p t c = simp append_assoc

pub pattern_words : (a : Words) (w : Word) (p t : Words) → a ++ (w ∷ ((p ++ t) ++ [])) ≡ (a ++ ((w ∷ []) ++ p)) ++ t
pattern_words a w p t = simp (append_assoc, append-nil)

pub fragment_words : (a : Words) (w : Word) (p c b q t : Words) → a ++ (w ∷ (p ++ (c ++ (b ++ (q ++ t))))) ≡ (a ++ ((w ∷ (p ++ (c ++ b))) ++ q)) ++ t
fragment_words a w p c b q t = simp append_assoc

pub such_words : (a : Words) (w : Word) (p : Words) (v : Word) (t : Words) → a ++ (w ∷ (p ++ v ∷ t)) ≡ (a ++ (w ∷ (p ++ v ∷ []))) ++ t
such_words a w p v t = simp append_assoc

part_front : (g : Goal) (p : Words) (d : ℕ) (k : Frames) → IsGoal g k → IsBegun (ends g) p d → AreOpen k → IsFront (opened k ++ (goal_words g ++ p))
part_front (argument w ts) p d k h b o =
    let part = ended ends_term p d refl b in
    let s = called w (ts ++ (p ++ tail d) ∷ []) in
    complete k s 2 (opened k ++ (goal_words (argument w ts) ++ p)) (tail d ++ codes ")" ∷ []) o
    (h.0, pushed_some ts (p ++ tail d), All-push (IsPart ends_term) ts (p ++ tail d) h.1 part) (omega arith) (tight k s o (wide s k h.2))
    (ap (λ z. opened k ++ (w ∷ codes "(" ∷ (z ++ codes ")" ∷ []))) (parted_more (codes ",") ts (p ++ tail d))
    ∙ argument_words (opened k) w (codes "(") (before (codes ",") ts) p (tail d) (codes ")" ∷ []))
part_front (variable w us) p d k h b o =
    let part = ended ends_variable p d refl b in
    let s = assigned w (us ++ (p ++ tail d, codes "all" ∷ []) ∷ []) in
    complete k s 2 (opened k ++ (goal_words (variable w us) ++ p)) (tail d ++ codes "<-" ∷ codes "all" ∷ codes "]" ∷ []) o (
      h.0,
      pushed_some us (p ++ tail d, codes "all" ∷ []),
      All-push IsUse us (p ++ tail d, codes "all" ∷ []) h.1 (record { variable = part; value = one_word ends_term refl }),
    ) (omega arith) (tight k s o (λ n. refl))
    (ap (λ z. opened k ++ (w ∷ codes "[" ∷ (z ++ codes "]" ∷ []))) (ap (parted (codes ",")) (uses_more us (p ++ tail d, codes "all" ∷ []))
    ∙ parted_more (codes ",") (use_texts us) (use_text (p ++ tail d, codes "all" ∷ [])))
    ∙ variable_words (opened k) w (codes "[") (before (codes ",") (use_texts us)) p (tail d) (codes "<-") (codes "all" ∷ []) (codes "]" ∷ []))
part_front (value w us x) p d k h b o =
    let part = ended ends_term p d refl b in
    let s = assigned w (us ++ (x, p ++ tail d) ∷ []) in
    complete k s 2 (opened k ++ (goal_words (value w us x) ++ p)) (tail d ++ codes "]" ∷ []) o
    (h.0, pushed_some us (x, p ++ tail d), All-push IsUse us (x, p ++ tail d) h.1 (record { variable = h.2; value = part })) (omega arith) (tight k s o (λ n. refl))
    (ap (λ z. opened k ++ (w ∷ codes "[" ∷ (z ++ codes "]" ∷ []))) (ap (parted (codes ",")) (uses_more us (x, p ++ tail d))
    ∙ parted_more (codes ",") (use_texts us) (use_text (x, p ++ tail d)))
    ∙ value_words (opened k) w (codes "[") (before (codes ",") (use_texts us)) x (codes "<-") p (tail d) (codes "]" ∷ []))
part_front (pattern w) p d k h b o =
    let part = ended ends_test p d refl b in
    let s = tested w (p ++ tail d) None in
    complete k s 2 (opened k ++ (goal_words (pattern w) ++ p)) (tail d) o (h.0, part, tt) (omega arith) (tight k s o (wide s k h.1))
    (pattern_words (opened k) w p (tail d))
part_front (fragment w p c cs) q d k h b o =
    let part = ended ends_fragment q d refl b in
    let s = tested w p (Some (c, cs ++ (q ++ tail d) ∷ [])) in
    complete k s 2 (opened k ++ (goal_words (fragment w p c cs) ++ q)) (tail d) o
    (h.0, h.2, record { sign = h.3; some = pushed_some cs (q ++ tail d); fragments = All-push (IsPart ends_fragment) cs (q ++ tail d) h.4 part })
    (omega arith) (tight k s o (wide s k h.1))
    (ap (λ z. opened k ++ (w ∷ (p ++ (c ++ z)))) (parted_more (codes "/\\") cs (q ++ tail d))
    ∙ fragment_words (opened k) w p c (before (codes "/\\") cs) q (tail d))

such_front : (w : Word) (p : Words) (v : Word) (k : Frames) → beginning w ≡ of_test → is_narrow k ≡ false → IsPart ends_test p → v ≡ codes "such" → AreOpen k
    → IsFront (opened k ++ w ∷ (p ++ v ∷ []))
such_front w p v k h free part e o =
    let s = tested w p (Some (v ∷ codes "that" ∷ [], (codes "all" ∷ []) ∷ [])) in
    complete k s 2 (opened k ++ w ∷ (p ++ v ∷ [])) (codes "that" ∷ codes "all" ∷ []) o (
      h,
      part,
      record {
        sign = inr (ap (λ z. z ∷ codes "that" ∷ []) e);
        some = λ x. cc;
        fragments = All-cons (IsPart ends_fragment) (codes "all" ∷ []) [] (one_word ends_fragment refl) (All-nil (IsPart ends_fragment));
      },
    )
    (omega arith) (tight k s o (wide s k free)) (such_words (opened k) w p v (codes "that" ∷ codes "all" ∷ []))

pub front_of : (ws : Words) (x : State) → Stands ws x → IsFront ws
front_of ws (operand k) h = subst IsFront h.words
    (complete k (plain (codes "all")) 2 (opened k) (codes "all" ∷ []) h.right stands_by_itself (omega arith) (tight k (plain (codes "all")) h.right (λ n. is_rule)) refl)
front_of ws (named w k) h = subst IsFront h.words
    (complete k (plain w) 2 (opened k ++ w ∷ []) [] h.right.1 (names_alone (beginning w) h.right.0) (omega arith)
    (tight k (plain w) h.right.1 (λ n. names_rule (beginning w) h.right.0)) (sym (append-nil (opened k ++ w ∷ []))))
front_of ws (done s k) h = subst IsFront h.words
    (complete k s 2 (opened k ++ text s) [] h.right.3 h.right.0 (omega arith) (tight k s h.right.3 h.right.2) (sym (append-nil (opened k ++ text s))))
front_of ws (reading g p d k) h = subst IsFront h.words (part_front g p d k h.right.0 h.right.1 h.right.2)
front_of ws (such_of w p v k) h = subst IsFront h.words (such_front w p v k h.right.0 h.right.1 h.right.2 h.right.3 h.right.4)

-- ---- the end

whole_at : (k : Frames) (s t : Shape) (ws : Words) → Fits 6 s → whole_in s k ≡ Some t → opened k ++ text s ≡ ws → IsTextOf ws t
whole_at [] s t ws h q e =
    let same : s ≡ t = cc in
    subst (IsTextOf ws) same (record { strategy = h; words = e })
whole_at (f ∷ k) s t ws h q e = cc

narrow_end : (k : Frames) (s t : Shape) → is_narrow k ≡ true → whole (close 7 s k) ≡ Some t → ⊥
narrow_end (top_wrapper w ∷ k) s t n q = cc
narrow_end [] s t n q = cc
narrow_end (bracket ∷ k) s t n q = cc
narrow_end (wrapper w ∷ k) s t n q = cc
narrow_end (left w m e ∷ k) s t n q = absurd (false≢true n)
narrow_end (asked e ∷ k) s t n q = cc
narrow_end (answered e f ∷ k) s t n q = absurd (false≢true n)

whole_stands : (k : Frames) (s t : Shape) → Fits 2 s → AreOpen k → whole (close 7 s k) ≡ Some t → IsTextOf (opened k ++ text s) t
whole_stands k s t h o q =
    (elim (is_narrow k) as (λ b. is_narrow k ≡ b → IsTextOf (opened k ++ text s) t) [
      | true ↦ λ n. absurd (narrow_end k s t n q)
      | false ↦ λ free.
          let c : Closed 7 s k (close 7 s k) = closing k 7 2 s h (omega arith) (omega arith) (admits_two k o free) o in
          whole_at (close 7 s k).1 (close 7 s k).0 t (opened k ++ text s) c.fits q c.words
    ]) refl

part_whole : (g : Goal) (p : Words) (d : ℕ) (k : Frames) (t : Shape) → IsGoal g k → IsBegun (ends g) p d → AreOpen k → finish (reading g p d k) ≡ Some t
    → IsTextOf (opened k ++ (goal_words g ++ p)) t
part_whole (pattern w) (v ∷ p) zero k t h b o q =
    subst (λ z. IsTextOf (opened k ++ w ∷ z) t) (append-nil (v ∷ p))
    (whole_stands k (tested w (v ∷ p) None) t (h.0, part_of ends_test (v ∷ p) b (λ e. cc), tt) o q)
part_whole (fragment w p c cs) (v ∷ x) zero k t h b o q =
    let part : IsPart ends_fragment (v ∷ x) = part_of ends_fragment (v ∷ x) b (λ e. cc) in
    let s = tested w p (Some (c, cs ++ (v ∷ x) ∷ [])) in
    subst (λ z. IsTextOf z t)
    (ap (λ z. opened k ++ (w ∷ (p ++ (c ++ z)))) (parted_more (codes "/\\") cs (v ∷ x))
    ∙ (ap (λ z. opened k ++ (w ∷ (p ++ (c ++ (before (codes "/\\") cs ++ z))))) (sym (append-nil (v ∷ x)))
    ∙ (fragment_words (opened k) w p c (before (codes "/\\") cs) (v ∷ x) [] ∙ append-nil (opened k ++ (goal_words (fragment w p c cs) ++ (v ∷ x))))))
    (whole_stands k s t
    (h.0, h.2, record { sign = h.3; some = pushed_some cs (v ∷ x); fragments = All-push (IsPart ends_fragment) cs (v ∷ x) h.4 part }) o q)
part_whole _ _ _ k t h b o q = cc

pub finish_stands : (ws : Words) (x : State) (t : Shape) → Stands ws x → finish x ≡ Some t → IsTextOf ws t
finish_stands ws (operand k) t h q = cc
finish_stands ws (named w k) t h q = subst (λ z. IsTextOf z t) h.words (whole_stands k (plain w) t (names_alone (beginning w) h.right.0) h.right.1 q)
finish_stands ws (done s k) t h q = subst (λ z. IsTextOf z t) h.words (whole_stands k s t h.right.0 h.right.3 q)
finish_stands ws (reading g p d k) t h q = subst (λ z. IsTextOf z t) h.words (part_whole g p d k t h.right.0 h.right.1 h.right.2 q)
finish_stands ws (such_of w p v k) t h q = cc

-- ---- what words lead to

pub stands_behind : (ws : Words) (x : State) → run ws (operand []) ≡ Some x → Stands ws x
stands_behind ws x h = all_stand ws (operand []) x [] start_stands h

-- the whole text of a shape
pub is_whole : (ws : Words) (x : State) (s : Shape) → run ws (operand []) ≡ Some x → finish x ≡ Some s → IsTextOf ws s
is_whole ws x s h q = finish_stands ws x s (stands_behind ws x h) q

-- a word that leads nowhere
pub no_front : (ws : Words) (i : ℕ) (x : State) → i < length ws → run (take i ws) (operand []) ≡ Some x → step (get_or ws i []) x ≡ None → IsFront (take (i + 1) ws) → ⊥
no_front ws i x l h q f =
    goes (take (i + 1) ws) f.more f.shape f.reads
    (ap (λ z. run z (operand [])) (take_more ws i [] l) ∙ (run_more (take i ws) (get_or ws i [] ∷ []) (operand [])
    ∙ (ap (λ o. go_on o (run (get_or ws i [] ∷ []))) h ∙ ap (λ o. go_on o (run [])) q)))

pub leads_nowhere : (ws : Words) (i : ℕ) (x : State) → i < length ws → run (take i ws) (operand []) ≡ Some x → step (get_or ws i []) x ≡ None → IsUnexpected ws i
leads_nowhere ws i x l h q = record { there = l; front = front_of (take i ws) x (stands_behind (take i ws) x h); fault = inl (no_front ws i x l h q) }

led : (ws : Words) (i : ℕ) (x : State) → run ws (operand []) ≡ Some x → IsFront (take i ws)
led ws i x h =
    let e : run (take i ws ++ drop i ws) (operand []) ≡ go_on (run (take i ws) (operand [])) (run (drop i ws)) = run_more (take i ws) (drop i ws) (operand []) in
    let r : take i ws ++ drop i ws ≡ ws = take-append-drop i ws in
    let all : go_on (run (take i ws) (operand [])) (run (drop i ws)) ≡ Some x = sym e ∙ (ap (λ z. run z (operand [])) r ∙ h) in
    (elim (run (take i ws) (operand [])) as (λ o. run (take i ws) (operand []) ≡ o → go_on o (run (drop i ws)) ≡ Some x → IsFront (take i ws)) [
      | None ↦ λ n a. cc
      | Some y ↦ λ s a. front_of (take i ws) y (stands_behind (take i ws) y s)
    ]) refl all

-- words behind which a strategy doesn't end
pub ends_early : (ws : Words) (x : State) → 0 < length ws → run ws (operand []) ≡ Some x → finish x ≡ None → IsUnexpected ws (length ws - 1)
ends_early ws x l h q = record {
  there = omega (arith, l);
  front = led ws (length ws - 1) x h;
  fault = inr (omega (arith, l), λ s t. ends_nowhere ws s t (ap result h ∙ q));
}
