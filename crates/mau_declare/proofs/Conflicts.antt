-- Each attribute of a list compared with the first values before it, and with all before it.
use Rattle.std.proofs.Common.{◌≡◌, List, [], ◌∷◌, Bool, true, false, not, nat_eq, ◌||◌, Option, Some, None, refl, ap, ap₂, ◌∙◌}
use Rattle.std.specs.Prelude.{bytes_eq}
use Rattle.std.specs.List.{list_any}
use Rattle.std.specs.Cmp.Lexicographic.{pointwise}
use Rattle.std.proofs.lemmas.Bool.{and_parts, or_parts, eqb-true}
use Rattle.std.proofs.lemmas.Slice.Eq.{bytes_eq-Decides}
use Rattle.mau_signature.specs.declared.attributes.Attrs.{Attrs}
use Rattle.mau_signature.specs.declared.attributes.Gather.TheVariants.{Upto, Below, Any}
use Rattle.mau_signature.specs.declared.attributes.IdSpec.TheVariants.{Const, Num}
use Rattle.mau_signature.specs.declared.form.Piece.TheVariants.{Hole, Word}
use Rattle.mau_signature.specs.Form.{same_piece}
use Rattle.mau_signature.specs.Attributes.{no_attributes, first_given, unite, differ, same_identity, same_gather, has_two_values}
use Rattle.mau_declare.specs.Attributes.{some_differ}

-- ---- tests that are true of equal values alone

abbrev IsEquality : {A : Type 0} → (A → A → Bool) → Type 0
IsEquality {A} same = (x y : A) → same x y ≡ true → x ≡ y

bytes_equal : IsEquality bytes_eq
bytes_equal x y e = (bytes_eq-Decides x y).0 e

pointwise_equal : {A : Type 0} (same : A → A → Bool) → IsEquality same → IsEquality (pointwise same)
pointwise_equal same q [] [] e = refl
pointwise_equal same q [] (y ∷ ys) e = absurd cc
pointwise_equal same q (x ∷ xs) [] e = absurd cc
pointwise_equal same q (x ∷ xs) (y ∷ ys) e =
    let p = and_parts (same x y) (pointwise same xs ys) e in ap₂ (λ x xs. x ∷ xs) (q x y p.0) (pointwise_equal same q xs ys p.1)

pieces_equal : IsEquality same_piece
pieces_equal Hole Hole e = refl
pieces_equal Hole (Word w) e = absurd cc
pieces_equal (Word v) Hole e = absurd cc
pieces_equal (Word v) (Word w) e = ap (λ w. Word w) (bytes_equal v w e)

identities_equal : IsEquality same_identity
identities_equal (Const f) (Const g) e = ap (λ f. Const f) (pointwise_equal same_piece pieces_equal f g e)
identities_equal (Num m) (Num n) e = ap (λ n. Num n) (eqb-true m n e)
identities_equal (Const f) (Num n) e = absurd cc
identities_equal (Num m) (Const g) e = absurd cc

gathers_equal : IsEquality same_gather
gathers_equal Upto Upto e = refl
gathers_equal Below Below e = refl
gathers_equal Any Any e = refl
gathers_equal Upto Below e = absurd cc
gathers_equal Upto Any e = absurd cc
gathers_equal Below Upto e = absurd cc
gathers_equal Below Any e = absurd cc
gathers_equal Any Upto e = absurd cc
gathers_equal Any Below e = absurd cc

-- ---- one attribute

twice : (b : Bool) → b ≡ (b || b)
twice true = refl
twice false = refl

or_false : (b : Bool) → b ≡ (b || false)
or_false true = refl
or_false false = refl

not_false : (b : Bool) → not b ≡ false → b ≡ true
not_false true e = refl
not_false false e = absurd cc

-- a value that is not the first given by two, which do not differ, is not the one or not the other
differ_from_first : {A : Type 0} (same : A → A → Bool) → IsEquality same → (a g x : Option A) → differ same a g ≡ false → differ same (first_given a g) x ≡ (differ same a x || differ same g x)
differ_from_first same q None g x h = refl
differ_from_first same q (Some v) None x h = or_false (differ same (Some v) x)
differ_from_first same q (Some v) (Some w) None h = refl
differ_from_first same q (Some v) (Some w) (Some u) h = twice (not (same v u)) ∙ ap (λ w. not (same v u) || not (same w u)) (q v w (not_false (same v w) h))

-- ---- all attributes

crossed : (a b c d : Bool) → ((a || b) || (c || d)) ≡ ((a || c) || (b || d))
crossed true b c d = refl
crossed false true true d = refl
crossed false true false d = refl
crossed false false true d = refl
crossed false false false d = refl

joined : (u a g us vs gs : Bool) → u ≡ (a || g) → us ≡ (vs || gs) → (u || us) ≡ ((a || vs) || (g || gs))
joined u a g us vs gs e f = ap₂ (λ u us. u || us) e f ∙ crossed a g vs gs

numbers_equal : IsEquality (pointwise nat_eq)
numbers_equal = pointwise_equal nat_eq eqb-true

-- what is compared behind an attribute
abbrev behind_strat : Attrs → Attrs → Bool
behind_strat a x = differ (pointwise nat_eq) a.frozen x.frozen || differ bytes_eq a.builtin x.builtin

abbrev behind_gather : Attrs → Attrs → Bool
behind_gather a x = differ (pointwise nat_eq) a.strat x.strat || behind_strat a x

abbrev behind_prec : Attrs → Attrs → Bool
behind_prec a x = differ (pointwise same_gather) a.gather x.gather || behind_gather a x

abbrev behind_id : Attrs → Attrs → Bool
behind_id a x = differ nat_eq a.prec x.prec || behind_prec a x

differ_from_united : (a g x : Attrs) → has_two_values a g ≡ false → has_two_values (unite a g) x ≡ (has_two_values a x || has_two_values g x)
differ_from_united a g x h =
    let id = or_parts (differ same_identity a.id g.id) _ h in
    let prec = or_parts (differ nat_eq a.prec g.prec) _ id.1 in
    let gather = or_parts (differ (pointwise same_gather) a.gather g.gather) _ prec.1 in
    let strat = or_parts (differ (pointwise nat_eq) a.strat g.strat) _ gather.1 in
    let frozen = or_parts (differ (pointwise nat_eq) a.frozen g.frozen) (differ bytes_eq a.builtin g.builtin) strat.1 in
    joined _ (differ same_identity a.id x.id) (differ same_identity g.id x.id) _ (behind_id a x) (behind_id g x) (differ_from_first same_identity identities_equal a.id g.id x.id id.0)
    (joined _ (differ nat_eq a.prec x.prec) (differ nat_eq g.prec x.prec) _ (behind_prec a x) (behind_prec g x) (differ_from_first nat_eq eqb-true a.prec g.prec x.prec prec.0)
    (joined _ (differ (pointwise same_gather) a.gather x.gather) (differ (pointwise same_gather) g.gather x.gather) _ (behind_gather a x) (behind_gather g x)
    (differ_from_first (pointwise same_gather) (pointwise_equal same_gather gathers_equal) a.gather g.gather x.gather gather.0)
    (joined _ (differ (pointwise nat_eq) a.strat x.strat) (differ (pointwise nat_eq) g.strat x.strat) _ (behind_strat a x) (behind_strat g x)
    (differ_from_first (pointwise nat_eq) numbers_equal a.strat g.strat x.strat strat.0)
    (joined _ (differ (pointwise nat_eq) a.frozen x.frozen) (differ (pointwise nat_eq) g.frozen x.frozen) _ (differ bytes_eq a.builtin x.builtin) (differ bytes_eq g.builtin x.builtin)
    (differ_from_first (pointwise nat_eq) numbers_equal a.frozen g.frozen x.frozen frozen.0)
    (differ_from_first bytes_eq bytes_equal a.builtin g.builtin x.builtin frozen.1)))))

-- ---- lists

any_of_both : {X : Type 0} (p q : X → Bool) (xs : List X) → list_any (λ x. p x || q x) xs ≡ (list_any p xs || list_any q xs)
any_of_both p q [] = refl
any_of_both p q (x ∷ xs) = ap (λ b. (p x || q x) || b) (any_of_both p q xs) ∙ crossed (p x) (q x) (list_any p xs) (list_any q xs)

any_same : {X : Type 0} (p q : X → Bool) → ((x : X) → p x ≡ q x) → (xs : List X) → list_any p xs ≡ list_any q xs
any_same p q e [] = refl
any_same p q e (x ∷ xs) = ap₂ (λ a b. a || b) (e x) (any_same p q e xs)

-- one of the list has another value than a, or than the first one before it
abbrev pub conflict_with : Attrs → List Attrs → Bool
conflict_with a [] = false
conflict_with a (g ∷ gs) = has_two_values a g || conflict_with (unite a g) gs

three : (a b c : Bool) → ((a || b) || c) ≡ (a || (b || c))
three true b c = refl
three false b c = refl

compared : (a : Attrs) (gs : List Attrs) → conflict_with a gs ≡ (list_any (has_two_values a) gs || some_differ gs)
compared a [] = refl
compared a (g ∷ gs) = by (compared (unite a g) gs) (has_two_values a g) refl
  where
    by : conflict_with (unite a g) gs ≡ (list_any (has_two_values (unite a g)) gs || some_differ gs) → (b : Bool) → has_two_values a g ≡ b
        → (has_two_values a g || conflict_with (unite a g) gs) ≡ ((has_two_values a g || list_any (has_two_values a) gs) || (list_any (has_two_values g) gs || some_differ gs))
    by r true e = rw e refl
    by r false e =
        rw e (r ∙ ap (λ b. b || some_differ gs) (any_same _ _ (λ x. differ_from_united a g x e) gs ∙ any_of_both (has_two_values a) (has_two_values g) gs)
        ∙ three (list_any (has_two_values a) gs) (list_any (has_two_values g) gs) (some_differ gs))

-- compared with the first values alone, a list is found to conflict exactly where two of it differ
pub all_compared : (gs : List Attrs) → conflict_with no_attributes gs ≡ some_differ gs
all_compared gs = compared no_attributes gs ∙ ap (λ b. b || some_differ gs) (none gs)
  where
    none : (gs : List Attrs) → list_any (has_two_values no_attributes) gs ≡ false
    none [] = refl
    none (g ∷ gs) = none gs
