-- A module and those that it includes: sorts, pairs and declarations of a part are there again, in the numbers of the whole.
use Rattle.std.proofs.Common.{◌≡◌, ◌<◌, ℕ, zero, suc, List, [], ◌∷◌, ◌++◌, true, map, length, take, Some, refl, sym, ◌∙◌, ap, ap₂, subst, inl, inr, arith}
use Rattle.std.specs.Prelude.{All, slice_get}
use Rattle.std.specs.Option.{option_map_or}
use Rattle.mau_poset.specs.Order.{Hierarchy, Leads, IsWithin}
use Rattle.mau_terms.specs.Finite.{IsIn}
use Rattle.mau_terms.proofs.Finite.{in_left, in_map}
use Rattle.mau_signature.specs.Signature.{SignatureOf}
use Rattle.mau_declare.specs.Names.{has_name}
use Rattle.mau_declare.specs.Flattened.{name_at}
use Rattle.mau_module.specs.Modules.{ModuleOf}
use Rattle.mau_module.specs.Numbering.{number_in, sort_to, pair_to}
use Rattle.mau_module.specs.Included.{of_module, pairs_of}
use Rattle.mau_module.specs.Declarations.{hierarchy_over}
use Rattle.mau_module.specs.Made.{IsMadeOver, AreMade, IsClosed}
use Rattle.mau_module.proofs.Members.{in_both, all_in, in_mapped, in_flat, in_flattened, in_contains, contains_in}
use Rattle.mau_module.proofs.Numberings.{IsNumbering, name_of_number, name_in}

-- ---- modules with a number

pub module_there : (ms : List ModuleOf) (i : ℕ) → i < length ms → (m : ModuleOf) × (slice_get ms i ≡ Some m)
module_there [] i l = absurd (omega arith)
module_there (m ∷ ms) zero l = (m, refl)
module_there (m ∷ ms) (suc i) l = module_there ms i (omega arith)

pub there_below : (ms : List ModuleOf) (i : ℕ) (m : ModuleOf) → slice_get ms i ≡ Some m → i < length ms
there_below [] i m e = absurd cc
there_below (x ∷ ms) zero m e = omega arith
there_below (x ∷ ms) (suc i) m e = omega (arith, there_below ms i m e)

pub before_it : (ms : List ModuleOf) (q i : ℕ) (m : ModuleOf) → slice_get (take q ms) i ≡ Some m → slice_get ms i ≡ Some m
before_it ms zero i m e = absurd cc
before_it [] (suc q) i m e = absurd cc
before_it (x ∷ ms) (suc q) zero m e = e
before_it (x ∷ ms) (suc q) (suc i) m e = before_it ms q i m e

pub still_there : (ms : List ModuleOf) (q i : ℕ) → i < q → slice_get (take q ms) i ≡ slice_get ms i
still_there ms zero i l = absurd (omega arith)
still_there [] (suc q) i l = refl
still_there (x ∷ ms) (suc q) zero l = refl
still_there (x ∷ ms) (suc q) (suc i) l = still_there ms q i (omega arith)

take_take : (ms : List ModuleOf) (q i : ℕ) → i < q → take i (take q ms) ≡ take i ms
take_take ms zero i l = absurd (omega arith)
take_take [] (suc q) zero l = refl
take_take [] (suc q) (suc i) l = refl
take_take (x ∷ ms) (suc q) zero l = refl
take_take (x ∷ ms) (suc q) (suc i) l = ap (λ ys. x ∷ ys) (take_take ms q i (omega arith))

pub length_take : (ms : List ModuleOf) (q : ℕ) → q < length ms → length (take q ms) ≡ q
length_take [] q l = absurd (omega arith)
length_take (x ∷ ms) zero l = refl
length_take (x ∷ ms) (suc q) l = ap suc (length_take ms q (omega arith))

index_below : (ms : List ModuleOf) (q i : ℕ) (m : ModuleOf) → slice_get (take q ms) i ≡ Some m → i < q
index_below ms zero i m e = absurd cc
index_below [] (suc q) i m e = absurd cc
index_below (x ∷ ms) (suc q) zero m e = omega arith
index_below (x ∷ ms) (suc q) (suc i) m e = omega (arith, index_below ms q i m e)

-- those before a module are made too
pub made_before : (ms : List ModuleOf) (q : ℕ) → AreMade ms → AreMade (take q ms)
made_before ms q made i m e =
    subst (λ xs. IsMadeOver xs m) (sym (take_take ms q i (index_below ms q i m e))) (made i m (before_it ms q i m e))

of_it : {A : Type 0} (ms : List ModuleOf) (f : ModuleOf → List A) (i : ℕ) (m : ModuleOf) → slice_get ms i ≡ Some m → of_module ms f i ≡ f m
of_it ms f i m e = ap (λ r. option_map_or f r []) e

pub in_of_it : {A : Type 0} (ms : List ModuleOf) (f : ModuleOf → List A) (i : ℕ) (m : ModuleOf) (x : A) → slice_get ms i ≡ Some m → IsIn x (f m) → IsIn x (of_module ms f i)
in_of_it ms f i m x e h = subst (IsIn x) (sym (of_it ms f i m e)) h

pub out_of_it : {A : Type 0} (ms : List ModuleOf) (f : ModuleOf → List A) (i : ℕ) (m : ModuleOf) (x : A) → slice_get ms i ≡ Some m → IsIn x (of_module ms f i) → IsIn x (f m)
out_of_it ms f i m x e h = subst (IsIn x) (of_it ms f i m e) h

-- ---- a frame that is closed: it has all that its parts include, and their sorts

pub closed_of : (ms : List ModuleOf) (m : ModuleOf) (made : IsMadeOver ms m) → IsClosed ms m.sorts made.included
closed_of ms m made = record { within = made.within; closed = made.closed; known = made.known }

-- a part, as a module
pub record IsPart (ms : List ModuleOf) (names : List (List ℕ)) (parts : List ℕ) (q : ℕ) (m : ModuleOf) : Type 0 where
  pub there : slice_get ms q ≡ Some m
  pub among : IsIn q parts
  pub made : IsMadeOver (take q ms) m
  pub names_known : (x : List ℕ) → IsIn x m.sorts → has_name names x ≡ true

pub part_is : (ms : List ModuleOf) (names : List (List ℕ)) (parts : List ℕ) → AreMade ms → IsClosed ms names parts → (q : ℕ) → IsIn q parts → (m : ModuleOf) × IsPart ms names parts q m
part_is ms names parts made closed q i =
    let r = module_there ms q (all_in (λ p. p < length ms) parts q closed.within i) in
    let all = all_in (λ p. All (λ x. has_name names x ≡ true) (of_module ms (λ m. m.sorts) p)) parts q closed.known i in (
      r.0,
      record {
        there = r.1;
        among = i;
        made = made q r.0 r.1;
        names_known = λ x h. all_in (λ x. has_name names x ≡ true) (of_module ms (λ m. m.sorts) q) x all (in_of_it ms (λ m. m.sorts) q r.0 x r.1 h);
      },
    )

module _ (ms : List ModuleOf) (names : List (List ℕ)) (parts : List ℕ) (all_made : AreMade ms) (closed : IsClosed ms names parts) (pairs : List (ℕ × ℕ)) where
  abbrev h : Hierarchy
  h = hierarchy_over ms parts names pairs

  module _ (q : ℕ) (m : ModuleOf) (part : IsPart ms names parts q m) where
    -- its sorts in their order
    abbrev over : Hierarchy
    over = hierarchy_over (take q ms) part.made.included m.sorts m.own.pairs

    pub hierarchy_is : m.signature.hierarchy ≡ over
    hierarchy_is = ap (λ (s : SignatureOf). s.hierarchy) part.made.signature

    below : q < length ms
    below = there_below ms q m part.there

    -- what the part includes is included
    pub included_again : (r : ℕ) → IsIn r part.made.included → IsIn r parts
    included_again r i =
        closed.closed q r part.among (in_of_it ms (λ x. x.parts) q m r part.there
        (subst (IsIn r) (sym part.made.parts) (in_left r part.made.included (length (take q ms) ∷ []) i)))

    -- the parts of the part, over the modules before it
    pub closed_there : IsClosed (take q ms) m.sorts part.made.included
    closed_there = closed_of (take q ms) m part.made

    pub part_there : (r : ℕ) → IsIn r part.made.included → (n : ModuleOf) × IsPart (take q ms) m.sorts part.made.included r n
    part_there r i = part_is (take q ms) m.sorts part.made.included (made_before ms q all_made) closed_there r i

    one_of_two : (n : ModuleOf) (r a : ℕ) → IsPart (take q ms) m.sorts part.made.included r n → a < length n.sorts → sort_to m.sorts names (sort_to n.sorts m.sorts a) ≡ sort_to n.sorts names a
    one_of_two n r a p l = ap (number_in names) (name_of_number m.sorts (name_at n.sorts a) (p.names_known (name_at n.sorts a) (name_in n.sorts a l)))

    pair_again : (r : ℕ) (n : ModuleOf) (p : ℕ × ℕ) → IsPart (take q ms) m.sorts part.made.included r n → IsIn p n.own.pairs
        → (sort_to m.sorts names (pair_to n.sorts m.sorts p).0, sort_to m.sorts names (pair_to n.sorts m.sorts p).1) ≡ pair_to n.sorts names p
    pair_again r n p part_r i =
        let w = all_in (λ (x : ℕ × ℕ). (x.0 < n.signature.hierarchy.sorts) × (x.1 < n.signature.hierarchy.sorts)) n.own.pairs p part_r.made.over.within i in
        let len : length n.sorts ≡ n.signature.hierarchy.sorts = sym (ap (λ (x : SignatureOf). x.hierarchy.sorts) part_r.made.signature) in
        let both : ℕ → ℕ → ℕ × ℕ = λ a b. (a, b) in
        ap₂ both (one_of_two n r p.0 part_r (omega (arith, w.0, len))) (one_of_two n r p.1 part_r (omega (arith, w.1, len)))

    pair_there : (r : ℕ) (n : ModuleOf) (p : ℕ × ℕ) → slice_get ms r ≡ Some n → IsIn r parts → IsIn p n.own.pairs → IsIn (pair_to n.sorts names p) h.pairs
    pair_there r n p e i j =
        in_left (pair_to n.sorts names p) (pairs_of ms names parts) pairs
        (in_flat (of_module ms (λ x. map (pair_to x.sorts names) x.own.pairs)) parts r (pair_to n.sorts names p) i
        (in_of_it ms (λ x. map (pair_to x.sorts names) x.own.pairs) r n (pair_to n.sorts names p) e (in_map (pair_to n.sorts names) p n.own.pairs j)))

    leads_again : (a b : ℕ) → Leads over.pairs a b → Leads h.pairs (sort_to m.sorts names a) (sort_to m.sorts names b)
    leads_again a b l =
        let theirs = pairs_of (take q ms) m.sorts part.made.included in
        let there : IsIn (a, b) (theirs ++ m.own.pairs) = contains_in over.pairs (a, b) l in
        let moved : ℕ × ℕ = (sort_to m.sorts names a, sort_to m.sorts names b) in
        in_contains h.pairs moved (elim (in_both (a, b) theirs m.own.pairs there) [
          | inl i ↦
              let f = in_flattened (of_module (take q ms) (λ x. map (pair_to x.sorts m.sorts) x.own.pairs)) part.made.included (a, b) i in
              let r = f.0 in
              let p = part_there r f.1 in
              let n = p.0 in
              let g = in_mapped (pair_to n.sorts m.sorts) n.own.pairs (a, b) (out_of_it (take q ms) (λ x. map (pair_to x.sorts m.sorts) x.own.pairs) r n (a, b) p.1.there f.2) in
              let same : moved ≡ pair_to n.sorts names g.0 =
              ap (λ (y : ℕ × ℕ). let v : ℕ × ℕ = (sort_to m.sorts names y.0, sort_to m.sorts names y.1) in v) g.2 ∙ pair_again r n g.0 p.1 g.1 in
              subst (λ (y : ℕ × ℕ). IsIn y h.pairs) (sym same) (pair_there r n g.0 (before_it ms q r n p.1.there) (included_again r f.1) g.1)
          | inr i ↦ pair_there q m (a, b) part.there part.among i
        ])

    pub part_numbering : IsNumbering m.sorts over names h
    part_numbering = record {
      old_named = refl;
      new_named = refl;
      known = part.names_known;
      within = subst (λ (x : Hierarchy). IsWithin x.pairs x.sorts) hierarchy_is part.made.lawful.accepted.poset.within;
      pairs = leads_again;
    }

    pub numbered : IsNumbering m.sorts m.signature.hierarchy names h
    numbered = subst (λ x. IsNumbering m.sorts x names h) (sym hierarchy_is) part_numbering
