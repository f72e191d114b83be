-- Reading fields.
use Rattle.std.proofs.Common.{◌≡◌, ℕ, ◌+◌, ◌^◌, ◌<◌, ◌≤◌, lit<, add-one, drop-cons, List, [], ◌∷◌, ◌++◌, Bool, true, false, cond, nat_lt, length, drop, get_or, Result, Ok, Err, refl, sym, ap, ◌∙◌, subst, append_assoc}
use Rattle.std.proofs.lemmas.List.{append-nil, drop_all}
use Rattle.std.specs.Str.Parse.{digits_value}
use denote.Ref.{Bor}
use Rattle.mau_facts.specs.declared.fault.LineError.{LineError}
use Rattle.mau_facts.specs.declared.fault.LineError.TheVariants as errors
use Rattle.std.proofs.lemmas.Bool.{ltb-true}
use Rattle.mau_facts.specs.declared.fault.LineFault.{LineFault}
use Rattle.mau_facts.specs.declared.fault.LineFault.TheVariants.{Unexpected, BadNumber}
use Rattle.mau_facts.specs.declared.fields.Range.{Range}
use Rattle.mau_facts.specs.declared.fields.Range.TheVariants.{Small}
use Rattle.mau_facts.specs.declared.fields.Limits.{Limits}
use Rattle.mau_numerals.specs.Numerals.{is_numeral}
use Rattle.mau_facts.specs.LineReading.{and_then, ◌>>=◌, Fails, texts, number_in, number_at, numbers_at}

-- ---- lists of numbers

abbrev pub with_front : List ℕ → Result (List ℕ × List (List ℕ)) LineFault → Result (List ℕ × List (List ℕ)) LineFault
with_front ns r = r >>= λ x. Ok (ns ++ x.0, x.1)

abbrev done : {A : Type 0} → A → Result A LineFault
done x = Ok x

pub ok_is : {A : Type 0} (x y : A) → done x ≡ done y → x ≡ y
ok_is x y e = cc

pub front_nil : (r : Result (List ℕ × List (List ℕ)) LineFault) → with_front [] r ≡ r
unfolding and_then
front_nil (Ok x) = refl
front_nil (Err f) = refl

-- the value of a step that did not fail
pub bind_ok : {A B : Type 0} (r : Result A LineFault) (f : A → Result B LineFault) (y : B) → (r >>= f) ≡ Ok y → (x : A) × (r ≡ Ok x) × (f x ≡ Ok y)
unfolding and_then
bind_ok (Ok x) f y e = (x, refl, e)
bind_ok (Err d) f y e = absurd cc

small_by : (b : Bool) (n m : ℕ) → b ≡ nat_lt n 4294967296 → cond b (done n) (Err BadNumber) ≡ Ok m → m < 2 ^ 32
small_by true n m t e = subst (λ k. k < 2 ^ 32) (ok_is n m e) (ltb-true n 4294967296 (sym t))
small_by false n m t e = absurd cc

in_small : (lenient numeral : Bool) (n m : ℕ) → cond numeral (cond lenient (Ok 0) (cond (nat_lt n 4294967296) (Ok n) (Err BadNumber))) (Err Unexpected) ≡ Ok m → m < 2 ^ 32
in_small lenient false n m e = absurd cc
in_small true true n m e = subst (λ k. k < 2 ^ 32) (ok_is 0 m e) (lit< tt)
in_small false true n m e = small_by (nat_lt n 4294967296) n m refl e

-- a number that is read as small is small
pub number_small : (l : Limits) (ws : List (List ℕ)) (n : ℕ) (rest : List (List ℕ)) → number_at l Small ws ≡ Ok (n, rest) → n < 2 ^ 32
unfolding number_at and_then
number_small l [] n rest e = absurd cc
number_small l (w ∷ ws) n rest e =
    let b = bind_ok (number_in l Small w) (λ m. Ok (m, ws)) (n, rest) e in
    subst (λ k. k < 2 ^ 32) (ap (λ (x : ℕ × List (List ℕ)). x.0) (ok_is (b.0, ws) (n, rest) b.2)) (in_small l.lenient (is_numeral w) (digits_value 10 w) b.0 b.1)

-- ---- the loop over a list of numbers: what was read before, and what is still to be read

regroup : (ns : List ℕ) (n : ℕ) (r : Result (List ℕ × List (List ℕ)) LineFault) → with_front ns (r >>= λ x. Ok (n ∷ x.0, x.1)) ≡ with_front (ns ++ n ∷ []) r
unfolding and_then
regroup ns n (Ok x) = ap (λ (ms : List ℕ). Ok (ms, x.1)) (simp append_assoc)
regroup ns n (Err f) = refl

next : (words : List (Bor (List ℕ))) (i : ℕ) (d : Bor (List ℕ)) → i < length words → texts (drop i words) ≡ (get_or words i d).now ∷ texts (drop (i + 1) words)
next words i d lt = ap texts (drop-cons words i d lt) ∙ ap (λ k. (get_or words i d).now ∷ texts (drop k words)) (sym (add-one i))

module _ (l : Limits) (r : Range) (words : List (Bor (List ℕ))) (i : ℕ) (d : Bor (List ℕ)) (ns : List ℕ) (total : Result (List ℕ × List (List ℕ)) LineFault) (so_far : with_front ns (numbers_at l r (texts (drop i words))) ≡ total) where
  -- a number comes
  one_more : i < length words → true ≡ is_numeral (get_or words i d).now → total ≡ with_front ns (number_in l r (get_or words i d).now >>= λ n. numbers_at l r (texts (drop (i + 1) words)) >>= λ x. Ok (n ∷ x.0, x.1))
  unfolding numbers_at and_then
  one_more lt t =
      sym so_far
      ∙ ap (λ ws. with_front ns (numbers_at l r ws)) (next words i d lt)
      ∙ ap (λ b. with_front ns (cond b (number_in l r (get_or words i d).now >>= λ n. numbers_at l r (texts (drop (i + 1) words)) >>= λ x. Ok (n ∷ x.0, x.1)) (Ok ([], (get_or words i d).now ∷ texts (drop (i + 1) words))))) (sym t)

  pub goes_on : (n : ℕ) → i < length words → true ≡ is_numeral (get_or words i d).now → number_in l r (get_or words i d).now ≡ Ok n → with_front (ns ++ n ∷ []) (numbers_at l r (texts (drop (i + 1) words))) ≡ total
  unfolding and_then
  goes_on n lt t e =
      sym (one_more lt t ∙ ap (λ (x : Result ℕ LineFault). with_front ns (x >>= λ n. numbers_at l r (texts (drop (i + 1) words)) >>= λ x. Ok (n ∷ x.0, x.1))) e
      ∙ regroup ns n (numbers_at l r (texts (drop (i + 1) words))))

  pub fails : (e : LineError) → i < length words → true ≡ is_numeral (get_or words i d).now → Fails e (number_in l r (get_or words i d).now) → Fails e total
  unfolding and_then
  fails errors.NoMemory lt t f = tt
  fails (errors.Fault g) lt t f = one_more lt t ∙ ap (λ (x : Result ℕ LineFault). with_front ns (x >>= λ n. numbers_at l r (texts (drop (i + 1) words)) >>= λ x. Ok (n ∷ x.0, x.1))) f

  -- another word comes, or none
  pub stops : i < length words → false ≡ is_numeral (get_or words i d).now → total ≡ Ok (ns, texts (drop i words))
  unfolding numbers_at and_then
  stops lt t =
      sym so_far
      ∙ ap (λ ws. with_front ns (numbers_at l r ws)) (next words i d lt)
      ∙ ap (λ b. with_front ns (cond b (number_in l r (get_or words i d).now >>= λ n. numbers_at l r (texts (drop (i + 1) words)) >>= λ x. Ok (n ∷ x.0, x.1)) (Ok ([], (get_or words i d).now ∷ texts (drop (i + 1) words))))) (sym t)
      ∙ ap (λ (x : List ℕ × List (List ℕ)). Ok x) (ap (λ (ms : List ℕ). (ms, (get_or words i d).now ∷ texts (drop (i + 1) words))) (append-nil ns) ∙ ap (λ (ws : List (List ℕ)). (ns, ws)) (sym (next words i d lt)))

  pub is_done : length words ≤ i → total ≡ Ok (ns, texts (drop i words))
  unfolding numbers_at and_then
  is_done le =
      let e : texts (drop i words) ≡ [] = ap texts (drop_all i words le) in
      sym so_far ∙ ap (λ ws. with_front ns (numbers_at l r ws)) e
      ∙ ap (λ (x : List ℕ × List (List ℕ)). Ok x) (ap (λ (ms : List ℕ). (ms, [])) (append-nil ns) ∙ ap (λ (ws : List (List ℕ)). (ns, ws)) (sym e))
