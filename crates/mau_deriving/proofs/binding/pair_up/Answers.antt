use Rattle.std.proofs.Common.{◌≡◌, ℕ, ◌<◌, ◌+◌, ◌++◌, ◌∷◌, List, [], length, take, get_or, refl, sym, ap, ◌∙◌, arith}
use Rattle.std.specs.List.{zip}
use Rattle.std.proofs.lemmas.List.{take_all, take_more}
use Rattle.std.proofs.lemmas.Slice.Zip.{get_or-zip}
use Rattle.mau_deriving.proofs.binding.pair_up.Goals as goal

zipped_length : {A B : Type 0} (xs : List A) (ys : List B) → length xs ≡ length ys → length xs ≡ length (zip xs ys)
zipped_length [] ys e = refl
zipped_length (x ∷ xs) [] e = absurd (omega (arith, e))
zipped_length (x ∷ xs) (y ∷ ys) e = let q = zipped_length xs ys (omega (arith, e)) in omega (arith, q)

-- one pair more
pair_more : {A B : Type 0} (xs : List A) (ys : List B) (i : ℕ) (d : A) (e : B) (was more : List (A × B)) → more ≡ was ++ (get_or xs i d, get_or ys i e) ∷ [] → was ≡ take i (zip xs ys) →
    i < length xs → length xs ≡ length ys → more ≡ take (i + 1) (zip xs ys)
pair_more xs ys i d e was more added is h same =
    let long = zipped_length xs ys same in
    added ∙ (ap (λ zs. zs ++ (get_or xs i d, get_or ys i e) ∷ []) is
    ∙ (ap (λ z. take i (zip xs ys) ++ z ∷ []) (sym (get_or-zip xs ys i (d, e) h (omega (arith, h, same)))) ∙ sym (take_more (zip xs ys) i (d, e) (omega (arith, h, long)))))

pub returns : goal.returns
returns c =
    let same : length c.args.variables.now ≡ length (zip c.args.variables.now c.args.values.now) = zipped_length c.args.variables.now c.args.values.now c.requires in
    c.loop-i.invariant ∙ take_all c.loop-i.i (zip c.args.variables.now c.args.values.now) (omega arith)

pub loop-i-preserved : goal.loop-i-preserved
loop-i-preserved c = pair_more c.args.variables.now c.args.values.now c.loop-i.i _ _ _ _ c.in_ok-push.ensures.items c.loop-i.invariant (omega arith) c.requires
