-- The lists that are stored by their links.
use Rattle.std.proofs.Common.{◌≡◌, ℕ, zero, suc, Bool, true, false, ◌&&◌, eqb, ◌+◌, ◌-◌, ◌<◌, ◌≤◌, ◌⊎◌, inl, inr, List, [], ◌∷◌, ◌++◌, fold, length, take, slice_get, Some, refl, ap, ap₂, sym, ◌∙◌, arith, subst, length-append}
use Rattle.std.specs.Bool.{Decides}
use Rattle.std.specs.Cmp.Derive.{both_true}
use Rattle.std.proofs.lemmas.Bool.Decides.{Decides-eqb}
use Rattle.std.proofs.lemmas.List.Sums.{fold-append}
use Rattle.std.proofs.lemmas.Option.{slice_get_within, slice_get-get_or, get_or_from_slice_get}
use Rattle.std.proofs.Math.ListN.{get_or-append}
use Rattle.std.proofs.Math.Seq.{get_or-append_seam}
use Rattle.mau_store.proofs.Places.{place_push}
use Rattle.mau_strat.specs.declared.lists.Link.{Link}
use Rattle.mau_strat.specs.Sharing.{EachOnce, list_at, add_list, lists_of, AreLinks}
use Rattle.mau_strat.proofs.Inserted.{IsInserted, once_inserted}

-- a list, cut behind an element
pub cut : {X : Type 0} (xs : List X) (n : ℕ) (x : X) → slice_get xs n ≡ Some x → (rest : List X) × (xs ≡ (take n xs ++ x ∷ []) ++ rest) × (length (take n xs) ≡ n)
cut [] n x h = absurd (cc)
cut (y ∷ ys) zero x h = let e : y ≡ x = cc in (ys, ap (λ z. z ∷ ys) e, refl)
cut (y ∷ ys) (suc n) x h =
    let c = cut ys n x h in
    (c.0, ap (λ zs. y ∷ zs) c.1, ap suc c.2)

-- ---- links that are compared

abbrev pub link_eq : {A : Type 0} → (A → A → Bool) → Link A → Link A → Bool
link_eq e a b = e a.first b.first && eqb a.rest b.rest

-- both parts of a test hold
parts : (p q : Bool) → (p && q) ≡ true → (p ≡ true) × (q ≡ true)
parts true q h = (refl, h)
parts false q h = absurd (cc)

pub Decides-link : {A : Type 0} (e : A → A → Bool) → ((x y : A) → Decides (e x y) (x ≡ y)) → (a b : Link A) → Decides (link_eq e a b) (a ≡ b)
Decides-link {A = A} e decides a b = (forth, back)
  where
    forth : link_eq e a b ≡ true → a ≡ b
    forth h =
        let both = parts (e a.first b.first) (eqb a.rest b.rest) h in
        let first : a.first ≡ b.first = (decides a.first b.first).0 both.0 in
        let rest : a.rest ≡ b.rest = (Decides-eqb a.rest b.rest).0 both.1 in
        λ t. record { first = first t; rest = rest t }

    back : a ≡ b → link_eq e a b ≡ true
    back h = both_true ((decides a.first b.first).1 (ap (λ (l : Link A). l.first) h)) ((Decides-eqb a.rest b.rest).1 (ap (λ (l : Link A). l.rest) h))

module _ {A : Type 0} where
  length-fold : (ls : List (List A)) (ks : List (Link A)) → length (fold add_list ls ks) ≡ length ls + length ks
  length-fold ls [] = omega arith
  length-fold ls (k ∷ ks) = omega (arith, length-fold (add_list ls k) ks, length-append ls ((k.first ∷ list_at ls k.rest) ∷ []))

  -- one more than what is stored
  pub length-lists_of : (ks : List (Link A)) → length (lists_of ks) ≡ suc (length ks)
  length-lists_of ks = omega (arith, length-fold ([] ∷ []) ks)

  -- further ones change none
  kept : (ls : List (List A)) (ks : List (Link A)) (n : ℕ) → n < length ls → list_at (fold add_list ls ks) n ≡ list_at ls n
  kept ls [] n h = refl
  kept ls (k ∷ ks) n h =
      let longer : n < length (add_list ls k) = omega (arith, length-append ls ((k.first ∷ list_at ls k.rest) ∷ [])) in
      kept (add_list ls k) ks n longer ∙ get_or-append ls ((k.first ∷ list_at ls k.rest) ∷ []) [] n h

  list_at-append : (old more : List (Link A)) (n : ℕ) → n < length (lists_of old) → list_at (lists_of (old ++ more)) n ≡ list_at (lists_of old) n
  list_at-append old more n h = ap (λ ls. list_at ls n) (fold-append add_list ([] ∷ []) old more) ∙ kept (lists_of old) more n h

  -- one more list
  pub lists_of-push : (ks : List (Link A)) (k : Link A) → lists_of (ks ++ k ∷ []) ≡ lists_of ks ++ (k.first ∷ list_at (lists_of ks) k.rest) ∷ []
  lists_of-push ks k = fold-append add_list ([] ∷ []) ks (k ∷ [])

  list_at-last : (ks : List (Link A)) (k : Link A) → list_at (lists_of (ks ++ k ∷ [])) (suc (length ks)) ≡ k.first ∷ list_at (lists_of ks) k.rest
  list_at-last ks k =
      ap₂ list_at (lists_of-push ks k) (sym (length-lists_of ks))
      ∙ get_or-append_seam (lists_of ks) (k.first ∷ list_at (lists_of ks) k.rest) [] []

  -- the list of a link is its element before the rest
  pub list_of_link : (ks : List (Link A)) → AreLinks ks → (n : ℕ) (k : Link A) → slice_get ks n ≡ Some k → list_at (lists_of ks) (suc n) ≡ k.first ∷ list_at (lists_of ks) k.rest
  list_of_link ks are n k h =
      let c = cut ks n k h in
      let front = take n ks in
      let older : k.rest ≤ n = are.older n k h in
      let short : suc n < length (lists_of (front ++ k ∷ [])) = omega (arith, length-lists_of (front ++ k ∷ []), length-append front (k ∷ []), c.2) in
      let rest : list_at (lists_of front) k.rest ≡ list_at (lists_of ks) k.rest =
      sym (ap (λ xs. list_at (lists_of xs) k.rest) c.1
      ∙ list_at-append (front ++ k ∷ []) c.0 k.rest (omega (arith, length-lists_of (front ++ k ∷ []), length-append front (k ∷ []), c.2))
      ∙ list_at-append front (k ∷ []) k.rest (omega (arith, length-lists_of front, c.2))) in
      ap (λ xs. list_at (lists_of xs) (suc n)) c.1
      ∙ list_at-append (front ++ k ∷ []) c.0 (suc n) short
      ∙ ap (λ m. list_at (lists_of (front ++ k ∷ [])) (suc m)) (sym c.2)
      ∙ list_at-last front k
      ∙ ap (λ l. k.first ∷ l) rest

  -- ---- a link that is put in

  pub links_inserted : (old new : List (Link A)) (k : Link A) → IsInserted old k new → k.rest ≤ length old → AreLinks old → AreLinks new
  links_inserted old new k i h are = record { once = once_inserted old new k i are.once; older = older i }
    where
      older : IsInserted old k new → (n : ℕ) (l : Link A) → slice_get new n ≡ Some l → l.rest ≤ n
      older (inl e) n l p = are.older n l (ap (λ xs. slice_get xs n) (sym e) ∙ p)
      older (inr e) n l p = by (place_push old k l n (ap (λ xs. slice_get xs n) (sym e.0) ∙ p))
        where
          by : (slice_get old n ≡ Some l) ⊎ ((n ≡ length old) × (l ≡ k)) → l.rest ≤ n
          by (inl q) = are.older n l q
          by (inr q) = subst (λ m. l.rest ≤ m) (sym q.0) (subst (λ z. z.rest ≤ length old) (sym q.1) h)

  pub list_added : (old new : List (Link A)) (k : Link A) → IsInserted old k new → (lists_of new ≡ lists_of old) ⊎ (lists_of new ≡ lists_of old ++ (k.first ∷ list_at (lists_of old) k.rest) ∷ [])
  list_added old new k (inl e) = inl (ap lists_of e)
  list_added old new k (inr e) = inr (ap lists_of e.0 ∙ lists_of-push old k)

  -- it has the number one above its place
  pub list_inserted : (old new : List (Link A)) (k : Link A) → IsInserted old k new → k.rest ≤ length old → AreLinks new → (n : ℕ) → slice_get new n ≡ Some k → slice_get (lists_of new) (suc n) ≡ Some (k.first ∷ list_at (lists_of old) k.rest)
  list_inserted old new k i h are n p =
      let within : n < length new = slice_get_within new n k p in
      slice_get-get_or (lists_of new) (suc n) [] (omega (arith, length-lists_of new))
      ∙ ap Some (list_of_link new are n k p ∙ ap (λ l. k.first ∷ l) (by i))
    where
      by : IsInserted old k new → list_at (lists_of new) k.rest ≡ list_at (lists_of old) k.rest
      by (inl e) = ap (λ xs. list_at (lists_of xs) k.rest) e
      by (inr e) = ap (λ xs. list_at (lists_of xs) k.rest) e.0 ∙ list_at-append old (k ∷ []) k.rest (omega (arith, length-lists_of old))

  -- ---- no list has two numbers

  link_there : (ks : List (Link A)) (n : ℕ) → n < length ks → (k : Link A) × (slice_get ks n ≡ Some k)
  link_there [] n h = absurd (omega arith)
  link_there (k ∷ ks) zero h = (k, refl)
  link_there (k ∷ ks) (suc n) h = link_there ks n (omega arith)

  first_is : (ks : List (Link A)) → list_at (lists_of ks) 0 ≡ []
  first_is ks = kept ([] ∷ []) ks 0 (omega arith)

  -- below n, by induction on n
  one_below : (ks : List (Link A)) → AreLinks ks → (n i j : ℕ) → i < n → i < length (lists_of ks) → j < length (lists_of ks) → list_at (lists_of ks) i ≡ list_at (lists_of ks) j → i ≡ j
  one_below ks are zero i j h p q e = absurd (omega arith)
  one_below ks are (suc n) zero zero h p q e = refl
  one_below ks are (suc n) zero (suc j) h p q e =
      let b : j < length ks = omega (arith, length-lists_of ks) in
      let l = link_there ks j b in
      let front : list_at (lists_of ks) 0 ≡ [] = first_is ks in
      absurd (no (sym front ∙ e ∙ list_of_link ks are j l.0 l.1))
    where
      no : {x : A} {xs : List A} → [] ≡ x ∷ xs → ⊥
      no q = cc
  one_below ks are (suc n) (suc i) zero h p q e =
      let b : i < length ks = omega (arith, length-lists_of ks) in
      let l = link_there ks i b in
      let front : list_at (lists_of ks) 0 ≡ [] = first_is ks in
      absurd (no (sym front ∙ sym e ∙ list_of_link ks are i l.0 l.1))
    where
      no : {x : A} {xs : List A} → [] ≡ x ∷ xs → ⊥
      no q = cc
  one_below ks are (suc n) (suc i) (suc j) h p q e =
      let l = link_there ks i (omega (arith, length-lists_of ks)) in
      let r = link_there ks j (omega (arith, length-lists_of ks)) in
      let whole : l.0.first ∷ list_at (lists_of ks) l.0.rest ≡ r.0.first ∷ list_at (lists_of ks) r.0.rest = sym (list_of_link ks are i l.0 l.1) ∙ e ∙ list_of_link ks are j r.0 r.1 in
      let a : l.0.rest ≤ i = are.older i l.0 l.1 in
      let b : r.0.rest ≤ j = are.older j r.0 r.1 in
      let firsts : l.0.first ≡ r.0.first = cc in
      let rests : l.0.rest ≡ r.0.rest = one_below ks are n l.0.rest r.0.rest (omega arith) (omega arith) (omega arith) (cc) in
      let one : l.0 ≡ r.0 = λ t. record { first = firsts t; rest = rests t } in
      ap suc (are.once i j r.0 (l.1 ∙ ap Some one) r.1)

  pub one_list : (ks : List (Link A)) → AreLinks ks → (i j : ℕ) → i < length (lists_of ks) → j < length (lists_of ks) → list_at (lists_of ks) i ≡ list_at (lists_of ks) j → i ≡ j
  one_list ks are i j p q e = one_below ks are (suc i) i j (omega arith) p q e

  pub lists_once : (ks : List (Link A)) → AreLinks ks → EachOnce (lists_of ks)
  lists_once ks are i j l p q =
      one_list ks are i j (slice_get_within (lists_of ks) i l p) (slice_get_within (lists_of ks) j l q)
      (get_or_from_slice_get (lists_of ks) i l [] p ∙ sym (get_or_from_slice_get (lists_of ks) j l [] q))

  -- ---- seen as lists

  -- a number of a list is above a place of a link, but for 0
  pub rest_within : (ks : List (Link A)) (ls : List (List A)) (n : ℕ) → lists_of ks ≡ ls → n < length ls → n ≤ length ks
  rest_within ks ls n e h = omega (arith, ap length e, length-lists_of ks)

  pub first_empty : (ks : List (Link A)) (ls : List (List A)) (n : ℕ) → lists_of ks ≡ ls → n ≡ 0 → list_at ls n ≡ []
  first_empty ks ls n e h = ap₂ list_at (sym e) h ∙ first_is ks

  pub parts_of : (ks : List (Link A)) (ls : List (List A)) (n : ℕ) (k : Link A) → lists_of ks ≡ ls → AreLinks ks → 0 < n → slice_get ks (n - 1) ≡ Some k → (list_at ls n ≡ k.first ∷ list_at ls k.rest) × (k.rest < n)
  parts_of ks ls n k e are above p =
      let same : n ≡ suc (n - 1) = omega arith in
      let older : k.rest ≤ n - 1 = are.older (n - 1) k p in
      (ap₂ list_at (sym e) same ∙ list_of_link ks are (n - 1) k p ∙ ap (λ xs. k.first ∷ list_at xs k.rest) e, omega arith)
