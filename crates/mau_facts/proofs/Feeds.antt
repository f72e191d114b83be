-- Bytes as lines: where a line feed stands, the first lines of some bytes, and that bytes are the lines of one list.
use Rattle.std.proofs.Common.{◌≡◌, ◌≢◌, ◌⊎◌, inl, inr, ◌≤◌, ◌<◌, ℕ, zero, suc, ◌+◌, ◌-◌, ◌==◌, List, [], ◌∷◌, ◌++◌, Bool, true, false, cond, not, ◌&&◌, length, take, drop, All, refl, sym, ap, ◌∙◌, subst, append_assoc, arith}
use Rattle.std.specs.List.{count_by}
use Rattle.std.proofs.lemmas.List.{append-nil, take_at, drop_at}
use Rattle.std.proofs.lemmas.List.Elements.{All-nil, All-cons, All-head, All-tail}
use Rattle.std.proofs.lemmas.List.Recursion.{is_count_by}
use Rattle.std.proofs.lemmas.Bool.{and_parts, not-true, eqb-true, eqb-false}
use Rattle.std.proofs.lemmas.Bool.Decides.{nat_tests}
use Rattle.mau_facts.specs.Documents.{joined}
use Rattle.mau_facts.specs.Faults.{first_lines}

-- no line feed is there
abbrev pub IsOne : List ℕ → Type 0
IsOne b = All (λ c. c ≢ 10) b

abbrev pub AreOne : List (List ℕ) → Type 0
AreOne bs = All (All (λ c. c ≢ 10)) bs

head_is : (a b : ℕ) (x y : List ℕ) → a ∷ x ≡ b ∷ y → a ≡ b
head_is a b x y e = cc

tail_is : (a b : ℕ) (x y : List ℕ) → a ∷ x ≡ b ∷ y → x ≡ y
tail_is a b x y e = cc

-- ---- the first line feed

pub same_line : (a b r s : List ℕ) → IsOne a → IsOne b → a ++ 10 ∷ r ≡ b ++ 10 ∷ s → (a ≡ b) × (r ≡ s)
same_line [] [] r s h k e = (refl, tail_is 10 10 r s e)
same_line [] (c ∷ b) r s h k e = absurd (All-head (λ c. c ≢ 10) c b k (sym (head_is 10 c r (b ++ 10 ∷ s) e)))
same_line (c ∷ a) [] r s h k e = absurd (All-head (λ c. c ≢ 10) c a h (head_is c 10 (a ++ 10 ∷ r) s e))
same_line (c ∷ a) (d ∷ b) r s h k e =
    let t = same_line a b r s (All-tail (λ c. c ≢ 10) c a h) (All-tail (λ c. c ≢ 10) d b k) (tail_is c d (a ++ 10 ∷ r) (b ++ 10 ∷ s) e) in
    let f = head_is c d (a ++ 10 ∷ r) (b ++ 10 ∷ s) e in
    (ap (λ x. x ∷ a) f ∙ ap (λ x. d ∷ x) t.0, t.1)

pub feed_there : (a r : List ℕ) → IsOne (a ++ 10 ∷ r) → ⊥
feed_there [] r h = All-head (λ c. c ≢ 10) 10 r h refl
feed_there (c ∷ a) r h = feed_there a r (All-tail (λ c. c ≢ 10) c (a ++ 10 ∷ r) h)

-- lists of one length in front
pub same_front : (a b x y : List ℕ) → length a ≡ length b → a ++ x ≡ b ++ y → (a ≡ b) × (x ≡ y)
same_front a b x y l e = (
  sym (take_at a x (length a) refl) ∙ ap (take (length a)) e ∙ take_at b y (length a) (sym l),
  sym (drop_at a x (length a) refl) ∙ ap (drop (length a)) e ∙ drop_at b y (length a) (sym l),
)

-- ---- how many line feeds there are

abbrev pub feeds : List ℕ → ℕ
feeds [] = 0
feeds (c ∷ cs) = cond (c == 10) (1 + feeds cs) (feeds cs)

pub feeds_are : (cs : List ℕ) → count_by (λ b. b == 10) cs ≡ feeds cs
feeds_are cs = sym (is_count_by feeds (λ b. b == 10) refl (λ x xs. refl) cs)

pub feeds_append : (a b : List ℕ) → feeds (a ++ b) ≡ feeds a + feeds b
feeds_append [] b = omega arith
feeds_append (c ∷ a) b = by (c == 10) (feeds_append a b)
  where
    by : (t : Bool) → feeds (a ++ b) ≡ feeds a + feeds b → cond t (1 + feeds (a ++ b)) (feeds (a ++ b)) ≡ cond t (1 + feeds a) (feeds a) + feeds b
    by true h = omega (arith, h)
    by false h = h

pub one_feeds : (a : List ℕ) → IsOne a → feeds a ≡ 0
one_feeds [] h = refl
one_feeds (c ∷ a) h =
    let ne = All-head (λ c. c ≢ 10) c a h in
    let f : (c == 10) ≡ false = grind (arith, nat_tests, ne) in
    ap (λ t. cond t (1 + feeds a) (feeds a)) f ∙ one_feeds a (All-tail (λ c. c ≢ 10) c a h)

pub line_feeds : (a r : List ℕ) → IsOne a → feeds (a ++ 10 ∷ r) ≡ feeds r + 1
line_feeds a r h = feeds_append a (10 ∷ r) ∙ ap (λ n. n + (1 + feeds r)) (one_feeds a h) ∙ omega arith

-- ---- the first lines

module _ (n c : ℕ) (r : List ℕ) (some : 0 < n) where
  pub one_more : first_lines n (c ∷ r) ≡ c ∷ first_lines (cond (c == 10) (n - 1) n) r
  one_more = let f : (n == 0) ≡ false = grind (arith, nat_tests, some) in ap (λ t. cond t [] (c ∷ first_lines (cond (c == 10) (n - 1) n) r)) f

pub no_lines : (r : List ℕ) → first_lines 0 r ≡ []
no_lines [] = refl
no_lines (c ∷ r) = refl

-- behind a line feed that is not the last of them
pub lines_past : (p r : List ℕ) (n m : ℕ) → m ≡ n + 1 + feeds p → first_lines m (p ++ 10 ∷ r) ≡ p ++ 10 ∷ first_lines n r
lines_past [] r n m e = one_more m 10 r (omega arith) ∙ ap (λ k. 10 ∷ first_lines k r) (omega arith)
lines_past (c ∷ p) r n m e = one_more m c (p ++ 10 ∷ r) (omega (arith, at_least (c == 10) e)) ∙ ap (λ x. c ∷ x) (lines_past p r n (cond (c == 10) (m - 1) m) (left (c == 10) e))
  where
    at_least : (t : Bool) → m ≡ n + 1 + cond t (1 + feeds p) (feeds p) → 0 < m
    at_least true h = omega arith
    at_least false h = omega arith

    left : (t : Bool) → m ≡ n + 1 + cond t (1 + feeds p) (feeds p) → cond t (m - 1) m ≡ n + 1 + feeds p
    left true h = omega arith
    left false h = h

-- just these lines
pub lines_upto : (p r : List ℕ) → first_lines (feeds p + 1) (p ++ 10 ∷ r) ≡ p ++ 10 ∷ []
lines_upto p r = lines_past p r 0 (feeds p + 1) (omega arith) ∙ ap (λ x. p ++ 10 ∷ x) (no_lines r)

-- all of them, where there are fewer
pub all_lines : (a : List ℕ) (n : ℕ) → feeds a < n → first_lines n a ≡ a
all_lines [] n h = refl
all_lines (c ∷ a) n h = one_more n c a (omega arith) ∙ ap (λ x. c ∷ x) (all_lines a (cond (c == 10) (n - 1) n) (fewer (c == 10) h))
  where
    fewer : (t : Bool) → cond t (1 + feeds a) (feeds a) < n → feeds a < cond t (n - 1) n
    fewer true k = omega arith
    fewer false k = k

-- what is left behind the first lines
pub after_lines : (n : ℕ) (a : List ℕ) → (r : List ℕ) × (a ≡ first_lines n a ++ r)
after_lines n [] = ([], refl)
after_lines zero (c ∷ a) = (c ∷ a, refl)
after_lines (suc n) (c ∷ a) =
    let t = after_lines (cond (c == 10) (suc n - 1) (suc n)) a in
    (t.0, ap (λ x. c ∷ x) t.1 ∙ ap (λ x. x ++ t.0) (sym (one_more (suc n) c a (omega arith))))

-- where the first lines have fewer line feeds, they are all
pub few_lines : (a : List ℕ) (n : ℕ) → feeds (first_lines n a) < n → first_lines n a ≡ a
few_lines [] n h = refl
few_lines (c ∷ a) n h =
    one_more n c a (omega arith) ∙ ap (λ x. c ∷ x) (few_lines a (cond (c == 10) (n - 1) n) (fewer (c == 10) (feeds (first_lines (cond (c == 10) (n - 1) n) a)) (subst (λ x. feeds x < n) (one_more n c a (omega arith)) h)))
  where
    fewer : (t : Bool) (k : ℕ) → cond t (1 + k) k < n → k < cond t (n - 1) n
    fewer true k l = omega arith
    fewer false k l = l

-- the first n of the first m lines
pub lines_within : (n m : ℕ) (a : List ℕ) → n ≤ m → first_lines n (first_lines m a) ≡ first_lines n a
lines_within n m [] h = refl
lines_within zero m (c ∷ a) h = no_lines (first_lines m (c ∷ a))
lines_within (suc n) m (c ∷ a) h =
    ap (first_lines (suc n)) (one_more m c a (omega arith))
    ∙ one_more (suc n) c (first_lines (cond (c == 10) (m - 1) m) a) (omega arith)
    ∙ ap (λ x. c ∷ x) (lines_within (cond (c == 10) (suc n - 1) (suc n)) (cond (c == 10) (m - 1) m) a (less (c == 10)))
    ∙ sym (one_more (suc n) c a (omega arith))
  where
    less : (t : Bool) → cond t (suc n - 1) (suc n) ≤ cond t (m - 1) m
    less true = omega arith
    less false = h

-- ---- two byte strings with the same first lines

-- what ends with a line feed is in both
pub shared : (other p r : List ℕ) (n : ℕ) → n ≡ feeds p + 1 → first_lines n other ≡ first_lines n (p ++ 10 ∷ r) → (t : List ℕ) × (other ≡ p ++ 10 ∷ t)
shared other p r n e h =
    let t = after_lines n other in
    (t.0, t.1 ∙ ap (λ x. x ++ t.0) (h ∙ subst (λ k. first_lines k (p ++ 10 ∷ r) ≡ p ++ 10 ∷ []) (sym e) (lines_upto p r)) ∙ append_assoc p (10 ∷ []) t.0)

-- and all, where there are fewer lines
pub shared_all : (other bytes : List ℕ) (n : ℕ) → feeds bytes < n → first_lines n other ≡ first_lines n bytes → other ≡ bytes
shared_all other bytes n l h =
    let e = h ∙ all_lines bytes n l in
    sym (few_lines other n (subst (λ x. feeds x < n) (sym e) l)) ∙ e

pub both_begin : (p r s : List ℕ) (n : ℕ) → n ≡ feeds p + 1 → first_lines n (p ++ 10 ∷ r) ≡ first_lines n (p ++ 10 ∷ s)
both_begin p r s n e = subst (λ k. first_lines k (p ++ 10 ∷ r) ≡ first_lines k (p ++ 10 ∷ s)) (sym e) (lines_upto p r ∙ sym (lines_upto p s))

-- ---- lines joined

pub joined_feeds : (bs : List (List ℕ)) → AreOne bs → feeds (joined bs) ≡ length bs
joined_feeds [] h = refl
joined_feeds (b ∷ bs) h =
    ap feeds (append_assoc b (10 ∷ []) (joined bs))
    ∙ line_feeds b (joined bs) (All-head (All (λ c. c ≢ 10)) b bs h)
    ∙ ap (λ n. n + 1) (joined_feeds bs (All-tail (All (λ c. c ≢ 10)) b bs h)) ∙ omega arith

-- lines are the first of lines that begin with the same bytes
pub record Beyond (cs bs : List (List ℕ)) (r : List ℕ) : Type 0 where
  pub more : List (List ℕ)
  pub split : bs ≡ cs ++ more
  pub rest : r ≡ joined more
  pub one : AreOne more

some_bytes : (b r : List ℕ) → b ++ 10 ∷ r ≡ [] → ⊥
some_bytes [] r e = cc
some_bytes (c ∷ b) r e = cc

regroup : (b : List ℕ) (bs : List (List ℕ)) (r : List ℕ) → joined (b ∷ bs) ++ r ≡ b ++ 10 ∷ (joined bs ++ r)
regroup b bs r = simp append_assoc

pub beyond : (cs bs : List (List ℕ)) (r : List ℕ) → AreOne cs → AreOne bs → joined cs ++ r ≡ joined bs → Beyond cs bs r
beyond [] bs r h k e = record { more = bs; split = refl; rest = e; one = k }
beyond (c ∷ cs) [] r h k e = absurd (some_bytes c (joined cs ++ r) (sym (regroup c cs r) ∙ e))
beyond (c ∷ cs) (b ∷ bs) r h k e =
    let i : c ++ 10 ∷ (joined cs ++ r) ≡ b ++ 10 ∷ joined bs = sym (regroup c cs r) ∙ e ∙ append_assoc b (10 ∷ []) (joined bs) in
    let s = same_line c b (joined cs ++ r) (joined bs) (All-head (All (λ c. c ≢ 10)) c cs h) (All-head (All (λ c. c ≢ 10)) b bs k) i in
    let t = beyond cs bs r (All-tail (All (λ c. c ≢ 10)) c cs h) (All-tail (All (λ c. c ≢ 10)) b bs k) s.1 in
    record { more = t.more; split = ap (λ x. x ∷ bs) (sym s.0) ∙ ap (λ x. c ∷ x) t.split; rest = t.rest; one = t.one }

-- as many lines in front are the same
pub same_lines : (cs bs : List (List ℕ)) (r s : List ℕ) → AreOne cs → AreOne bs → length cs ≡ length bs → joined cs ++ r ≡ joined bs ++ s → (cs ≡ bs) × (r ≡ s)
same_lines [] [] r s h k l e = (refl, e)
same_lines [] (b ∷ bs) r s h k l e = absurd (omega arith)
same_lines (c ∷ cs) [] r s h k l e = absurd (omega arith)
same_lines (c ∷ cs) (b ∷ bs) r s h k l e =
    let i : c ++ 10 ∷ (joined cs ++ r) ≡ b ++ 10 ∷ (joined bs ++ s) = sym (regroup c cs r) ∙ e ∙ regroup b bs s in
    let f = same_line c b (joined cs ++ r) (joined bs ++ s) (All-head (All (λ c. c ≢ 10)) c cs h) (All-head (All (λ c. c ≢ 10)) b bs k) i in
    let t = same_lines cs bs r s (All-tail (All (λ c. c ≢ 10)) c cs h) (All-tail (All (λ c. c ≢ 10)) b bs k) (omega arith) f.1 in
    (ap (λ x. x ∷ cs) f.0 ∙ ap (λ x. b ∷ x) t.0, t.1)

-- lines behind a line feed end with one
pub ends : (a : List ℕ) (bs : List (List ℕ)) → (p : List ℕ) × ((a ++ 10 ∷ []) ++ joined bs ≡ p ++ 10 ∷ [])
ends a [] = (a, append-nil (a ++ 10 ∷ []))
ends a (b ∷ bs) =
    let t = ends ((a ++ 10 ∷ []) ++ b) bs in
    (t.0, regroup ∙ t.1)
  where
    regroup : (a ++ 10 ∷ []) ++ ((b ++ 10 ∷ []) ++ joined bs) ≡ (((a ++ 10 ∷ []) ++ b) ++ 10 ∷ []) ++ joined bs
    regroup = simp append_assoc

-- ---- a test for words that are written out

abbrev pub has_no_feed : List ℕ → Bool
has_no_feed [] = true
has_no_feed (c ∷ cs) = not (c == 10) && has_no_feed cs

pub one_by_test : (w : List ℕ) → has_no_feed w ≡ true → IsOne w
one_by_test [] h = All-nil (λ c. c ≢ 10)
one_by_test (c ∷ cs) h = let p = and_parts (not (c == 10)) (has_no_feed cs) h in All-cons (λ c. c ≢ 10) c cs (eqb-false c 10 (not-true (c == 10) p.0)) (one_by_test cs p.1)

-- behind so many line feeds, whole lines or not
pub lines_over : (a r : List ℕ) (n m : ℕ) → 0 < n → m ≡ n + feeds a → first_lines m (a ++ r) ≡ a ++ first_lines n r
lines_over [] r n m p e = ap (λ k. first_lines k r) (omega arith)
lines_over (c ∷ a) r n m p e = one_more m c (a ++ r) (omega arith) ∙ ap (λ x. c ∷ x) (lines_over a r n (cond (c == 10) (m - 1) m) p (left (c == 10) e))
  where
    left : (t : Bool) → m ≡ n + cond t (1 + feeds a) (feeds a) → cond t (m - 1) m ≡ n + feeds a
    left true h = omega arith
    left false h = h

-- some bytes, cut behind their last line feed
pub record Tail (a : List ℕ) : Type 0 where
  pub whole : List ℕ
  pub left : List ℕ
  pub split : a ≡ whole ++ left
  pub one : IsOne left
  pub ended : (whole ≡ []) ⊎ ((p : List ℕ) × (whole ≡ p ++ 10 ∷ []))

pub tail_of : (a : List ℕ) → Tail a
tail_of [] = record { whole = []; left = []; split = refl; one = All-nil (λ c. c ≢ 10); ended = inl refl }
tail_of (c ∷ a) = by (tail_of a) (c == 10) refl
  where
    by : Tail a → (b : Bool) → (c == 10) ≡ b → Tail (c ∷ a)
    by t b e = elim t.ended [ inr p ↦ behind t p | inl n ↦ here t n b e ]
      where
        behind : (t : Tail a) → (p : List ℕ) × (t.whole ≡ p ++ 10 ∷ []) → Tail (c ∷ a)
        behind t p = record { whole = c ∷ t.whole; left = t.left; split = ap (λ x. c ∷ x) t.split; one = t.one; ended = inr (c ∷ p.0, ap (λ x. c ∷ x) p.1) }

        here : (t : Tail a) → t.whole ≡ [] → (b : Bool) → (c == 10) ≡ b → Tail (c ∷ a)
        here t n true e = record { whole = c ∷ []; left = t.left; split = ap (λ x. c ∷ x) (t.split ∙ ap (λ x. x ++ t.left) n); one = t.one; ended = inr ([], ap (λ x. x ∷ []) (eqb-true c 10 e)) }
        here t n false e = record { whole = []; left = c ∷ a; split = refl; one = All-cons (λ c. c ≢ 10) c a (eqb-false c 10 e) (subst IsOne (sym (t.split ∙ ap (λ x. x ++ t.left) n)) t.one); ended = inl refl }
