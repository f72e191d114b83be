-- What may have been an argument is within the limits.
use Rattle.std.proofs.Common.{◌≡◌, ℕ, suc, ◌≤◌, List, [], ◌∷◌, Bool, true, false, ◌&&◌, ◌||◌, inl, inr, refl, ap, ap₂, ◌∙◌, arith, lit≤}
use Rattle.std.proofs.lemmas.Bool.{or_parts}
use Rattle.mau_terms.specs.Tree.{Tree, variable, numeral, apply, Trees, no_trees, tree, node, list_of, trees_of}
use Rattle.mau_terms.specs.Depth.{list_depth}
use Rattle.mau_terms.specs.Norm.{unit_tree, holds_overflow, hold_overflow, is_greatest_numeral}
use Rattle.mau_terms.specs.Lawful.{AreLawful}
use Rattle.mau_terms.specs.Finite.{IsIn, arguments_of}
use Rattle.mau_terms.specs.declared.theory.Identity.{Identity}
use Rattle.mau_terms.specs.declared.theory.Identity.TheVariants.{Const, Num}
use Rattle.mau_terms.specs.declared.theory.Theory.{Theory}
use Rattle.mau_terms.proofs.Pieces.{Each}
use Rattle.mau_canon.specs.declared.TheConstants.{MAX_DEPTH}
use Rattle.mau_canon.specs.Within.{IsWithin}
use Rattle.mau_listing.specs.Values.{IsPartUnder}
use Rattle.mau_listing.proofs.Parts.{holds_of_part}
use Rattle.mau_listing.proofs.Depths.{argument_depth}
use Rattle.mau_store.proofs.Depths.{depth-node}

and_false : (b : Bool) → (b && false) ≡ false
and_false true = refl
and_false false = refl

both_false : (a b : Bool) → a ≡ false → b ≡ false → (a || b) ≡ false
both_false a b e k = ap₂ (λ x y. x || y) e k

module _ (th : ℕ → Theory) (lawful : AreLawful th) (f : ℕ) (t : Tree) (within : IsWithin th t) where
  arguments_hold_none : (z : Tree) → IsIn z (arguments_of t) → holds_overflow th z ≡ false
  arguments_hold_none z h = by t within.no_overflow h
    where
      go : (us : Trees) → hold_overflow th us ≡ false → IsIn z (list_of us) → holds_overflow th z ≡ false
      go no_trees e k = absurd k
      go (tree u us) e (inl k) = ap (holds_overflow th) k ∙ (or_parts (holds_overflow th u) (hold_overflow th us) e).0
      go (tree u us) e (inr k) = go us (or_parts (holds_overflow th u) (hold_overflow th us) e).1 k

      by : (u : Tree) → holds_overflow th u ≡ false → IsIn z (arguments_of u) → holds_overflow th z ≡ false
      by (variable i s) e k = absurd k
      by (numeral n) e k = absurd k
      by (apply g us) e k = go us (or_parts ((th g).succ && is_greatest_numeral us) (hold_overflow th us) e).1 k

  unit_within : (i : Identity) → IsWithin th (unit_tree i)
  unit_within (Const c) = record { shallow = lit≤ tt; no_overflow = both_false ((th c.0).succ && false) false (and_false (th c.0).succ) refl }
  unit_within (Num n) = record { shallow = lit≤ tt; no_overflow = refl }

  list_within : (th f).assoc ≡ true → (ts : List Tree) → Each (λ u. IsIn u (arguments_of t)) ts → IsWithin th (node f ts)
  list_within a ts all = record {
    shallow = let low = within.shallow in omega (arith, depth-node f ts, deep ts all);
    no_overflow = both_false ((th f).succ && is_greatest_numeral (trees_of ts)) (hold_overflow th (trees_of ts)) (no_succ (th f).succ refl) (none ts all);
  }
    where
      deep : (us : List Tree) → Each (λ u. IsIn u (arguments_of t)) us → suc (list_depth us) ≤ MAX_DEPTH
      deep [] h = lit≤ tt
      deep (u ∷ us) h = let k = argument_depth t u h.0 in let low = within.shallow in omega (arith, deep us h.1)

      none : (us : List Tree) → Each (λ u. IsIn u (arguments_of t)) us → hold_overflow th (trees_of us) ≡ false
      none [] h = refl
      none (u ∷ us) h = both_false (holds_overflow th u) (hold_overflow th (trees_of us)) (arguments_hold_none u h.0) (none us h.1)

      no_succ : (b : Bool) → (th f).succ ≡ b → (b && is_greatest_numeral (trees_of ts)) ≡ false
      no_succ true e = let no : (th f).assoc ≡ false = lawful.succ_assoc f e in absurd (cc)
      no_succ false e = refl

  pub part_within : (z : Tree) → IsPartUnder th f t z → IsWithin th z
  part_within z =
      holds_of_part th f t (IsWithin th) (record {
        unit = λ i e. unit_within i;
        number = λ n. record { shallow = lit≤ tt; no_overflow = refl };
        itself = within;
        argument = λ u h. record {
          shallow = let k = argument_depth t u h in let low = within.shallow in omega arith;
          no_overflow = arguments_hold_none u h;
        };
        list = λ a ts all. list_within a ts all;
      }) z
