-- The parts of a module: those that it imports, with all that they include.
use Rattle.std.proofs.Common.{◌≡◌, ◌<◌, ◌⊎◌, ℕ, List, [], ◌∷◌, ◌++◌, Bool, true, false, cond, length, take, refl, sym, ◌∙◌, ap, subst, inl, inr}
use Rattle.std.specs.Prelude.{All, fold}
use Rattle.mau_terms.specs.Finite.{IsIn}
use Rattle.mau_terms.proofs.Finite.{in_left, in_right}
use Rattle.mau_module.specs.Modules.{ModuleOf}
use Rattle.mau_module.specs.Included.{of_module, has_part, with_part, parts_of}
use Rattle.mau_module.specs.Known.{AreKnown}
use Rattle.mau_module.specs.Library.{bool}
use Rattle.mau_module.specs.Made.{AreMade, IsClosed}
use Rattle.mau_module.proofs.Members.{in_both, all_in}
use Rattle.mau_module.proofs.Including.{module_there, length_take, still_there, in_of_it, out_of_it}
use Rattle.mau_module.proofs.Sourced.{part_in}

-- ---- one part more, and several

stays_part : (ps : List ℕ) (q x : ℕ) → IsIn x ps → IsIn x (with_part ps q)
stays_part ps q x i = by (has_part ps q)
  where
    by : (b : Bool) → IsIn x (cond b ps (ps ++ q ∷ []))
    by true = i
    by false = in_left x ps (q ∷ []) i

comes_part : (ps : List ℕ) (q : ℕ) → IsIn q (with_part ps q)
comes_part ps q = by (has_part ps q) refl
  where
    by : (b : Bool) → has_part ps q ≡ b → IsIn q (cond b ps (ps ++ q ∷ []))
    by true e = part_in ps q e
    by false e = in_right q ps (q ∷ []) (inl refl)

was_part : (ps : List ℕ) (q x : ℕ) → IsIn x (with_part ps q) → IsIn x ps ⊎ (x ≡ q)
was_part ps q x i = by (has_part ps q) i
  where
    last : IsIn x (q ∷ []) → IsIn x ps ⊎ (x ≡ q)
    last (inl e) = inr e
    last (inr e) = absurd e

    by : (b : Bool) → IsIn x (cond b ps (ps ++ q ∷ [])) → IsIn x ps ⊎ (x ≡ q)
    by true j = inl j
    by false j = elim (in_both x ps (q ∷ []) j) [ inl k ↦ inl k | inr k ↦ last k ]

stay_parts : (more ps : List ℕ) (x : ℕ) → IsIn x ps → IsIn x (fold with_part ps more)
stay_parts [] ps x i = i
stay_parts (q ∷ more) ps x i = stay_parts more (with_part ps q) x (stays_part ps q x i)

come_parts : (more ps : List ℕ) (x : ℕ) → IsIn x more → IsIn x (fold with_part ps more)
come_parts [] ps x i = absurd i
come_parts (q ∷ more) ps x (inl e) = stay_parts more (with_part ps q) x (subst (λ y. IsIn y (with_part ps q)) (sym e) (comes_part ps q))
come_parts (q ∷ more) ps x (inr i) = come_parts more (with_part ps q) x i

were_parts : (more ps : List ℕ) (x : ℕ) → IsIn x (fold with_part ps more) → IsIn x ps ⊎ IsIn x more
were_parts [] ps x i = inl i
were_parts (q ∷ more) ps x i = elim (were_parts more (with_part ps q) x i) [
  | inl j ↦ elim (was_part ps q x j) [ inl k ↦ inl k | inr e ↦ inr (inl e) ]
  | inr j ↦ inr (inr j)
]

module _ (ms : List ModuleOf) where
  abbrev their : ℕ → List ℕ
  their i = of_module ms (λ m. m.parts) i

  stay_all : (imports ps : List ℕ) (x : ℕ) → IsIn x ps → IsIn x (fold (λ qs i. fold with_part qs (of_module ms (λ m. m.parts) i)) ps imports)
  stay_all [] ps x i = i
  stay_all (j ∷ imports) ps x i = stay_all imports (fold with_part ps (their j)) x (stay_parts (their j) ps x i)

  come_all : (imports ps : List ℕ) (j x : ℕ) → IsIn j imports → IsIn x (of_module ms (λ m. m.parts) j) → IsIn x (fold (λ qs i. fold with_part qs (of_module ms (λ m. m.parts) i)) ps imports)
  come_all [] ps j x k i = absurd k
  come_all (l ∷ imports) ps j x (inl e) i = stay_all imports (fold with_part ps (their l)) x (come_parts (their l) ps x (subst (λ y. IsIn x (their y)) e i))
  come_all (l ∷ imports) ps j x (inr k) i = come_all imports (fold with_part ps (their l)) j x k i

  were_all : (imports ps : List ℕ) (x : ℕ) → IsIn x (fold (λ qs i. fold with_part qs (of_module ms (λ m. m.parts) i)) ps imports)
      → IsIn x ps ⊎ ((j : ℕ) × IsIn j imports × IsIn x (of_module ms (λ m. m.parts) j))
  were_all [] ps x i = inl i
  were_all (l ∷ imports) ps x i = elim (were_all imports (fold with_part ps (their l)) x i) [
    | inl k ↦ elim (were_parts (their l) ps x k) [ inl a ↦ inl a | inr a ↦ inr (l, inl refl, a) ]
    | inr k ↦ inr (k.0, inr k.1, k.2)
  ]

  pub part_of_import : (imports : List ℕ) (j x : ℕ) → IsIn j imports → IsIn x (of_module ms (λ m. m.parts) j) → IsIn x (parts_of ms imports)
  part_of_import imports j x k i = come_all imports [] j x k i

  import_of_part : (imports : List ℕ) (x : ℕ) → IsIn x (parts_of ms imports) → (j : ℕ) × IsIn j imports × IsIn x (of_module ms (λ m. m.parts) j)
  import_of_part imports x i = elim (were_all imports [] x i) [ inl k ↦ absurd k | inr k ↦ k ]

  -- the parts of imports have all that each of them includes
  pub parts_closed : AreMade ms → (imports : List ℕ) → All (λ i. i < length ms) imports → (p q : ℕ) → IsIn p (parts_of ms imports)
      → IsIn q (of_module ms (λ x. x.parts) p) → IsIn q (parts_of ms imports)
  parts_closed made imports within p q i k =
      let r = import_of_part imports p i in
      let j = r.0 in
      let l = all_in (λ i. i < length ms) imports j within r.1 in
      let t = module_there ms j l in
      let m = t.0 in
      let its = made j m t.1 in
      let have : (x : ℕ) → IsIn x m.parts → IsIn x (parts_of ms imports) = λ x a. part_of_import imports j x r.1 (in_of_it ms (λ m. m.parts) j m x t.1 a) in
      let it : IsIn p (its.included ++ length (take j ms) ∷ []) = subst (IsIn p) its.parts (out_of_it ms (λ m. m.parts) j m p t.1 r.2) in
      elim (in_both p its.included (length (take j ms) ∷ []) it) [
        | inl a ↦
            let less : p < j = subst (λ n. p < n) (length_take ms j l) (all_in (λ x. x < length (take j ms)) its.included p its.within a) in
            let same = ap (λ o. Rattle.std.specs.Option.option_map_or (λ (x : ModuleOf). x.parts) o []) (still_there ms j p less) in
            have q (subst (IsIn q) (sym its.parts) (in_left q its.included (length (take j ms) ∷ []) (its.closed p q a (subst (IsIn q) (sym same) k))))
        | inr a ↦ have q (out_of_it ms (λ m. m.parts) j m q t.1 (subst (λ n. IsIn q (of_module ms (λ m. m.parts) n)) (is_last p j l a) k))
      ]
    where
      is_last : (p j : ℕ) → j < length ms → IsIn p (length (take j ms) ∷ []) → p ≡ j
      is_last p j l (inl e) = e ∙ length_take ms j l
      is_last p j l (inr e) = absurd e

  pub frame_closed : AreMade ms → (imports : List ℕ) (names : List (List ℕ)) → All (λ i. i < length ms) imports → All (λ p. p < length ms) (parts_of ms imports)
      → AreKnown ms names (parts_of ms imports) → IsClosed ms names (parts_of ms imports)
  frame_closed made imports names within parts known = record { within = parts; closed = parts_closed made imports within; known = known }

  -- the module of truth values is included with that of operators on them
  pub truth_included : AreMade ms → (imports : List ℕ) → bool < length ms → IsIn 0 (parts_of ms (bool ∷ imports))
  truth_included made imports l =
      let t = module_there ms bool l in
      part_of_import (bool ∷ imports) bool 0 (inl refl) (in_of_it ms (λ m. m.parts) bool t.0 0 t.1 (made bool t.0 t.1).first)
