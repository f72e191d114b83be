-- Operators over items that are within the limits together.
use Rattle.std.proofs.Common.{◌≡◌, ℕ, ◌≤◌, ◌<◌, List, [], ◌∷◌, Bool, true, false, ◌||◌, ◌&&◌, Option, Some, None, map, refl, sym, ◌∙◌, ap, ap₂, subst, arith}
use Rattle.std.proofs.lemmas.Bool.{or_parts}
use Rattle.mau_terms.specs.Tree.{Tree, node, trees_of}
use Rattle.mau_terms.specs.Depth.{depth, list_depth, depths-trees_of}
use Rattle.mau_terms.specs.Norm.{finish, build, norm, holds_overflow, hold_overflow}
use Rattle.mau_terms.specs.Lawful.{AreLawful}
use Rattle.mau_terms.specs.Solution.{over_list, ArePieces}
use Rattle.mau_terms.specs.declared.theory.Identity.{Identity}
use Rattle.mau_terms.specs.declared.theory.Identity.TheVariants.{Const, Num}
use Rattle.mau_terms.specs.declared.theory.Theory.{Theory}
use Rattle.mau_terms.proofs.Induction.{norm-node}
use Rattle.mau_terms.proofs.Pieces.{Each, IsPiece, arrange_none}
use Rattle.mau_terms.proofs.Normal.{IsNormal, norm_normal, pieces_all}
use Rattle.mau_canon.specs.declared.TheConstants.{MAX_DEPTH}
use Rattle.mau_canon.specs.declared.fault.BuildFault.{BuildFault}
use Rattle.mau_canon.specs.declared.fault.BuildFault.TheVariants.{TooDeep, Overflow, NoMemory}
use Rattle.mau_canon.specs.Within.{IsWithin, IsCause}
use Rattle.mau_canon.proofs.Elements.{no_greatest}

module _ (th : ℕ → Theory) (f : ℕ) where
  norms_of_pieces : (ts : List Tree) → ArePieces th f ts → map (norm th) ts ≡ ts
  norms_of_pieces [] p = refl
  norms_of_pieces (t ∷ ts) p = ap₂ (λ v vs. v ∷ vs) p.0 (norms_of_pieces ts p.2)

  pub each_piece : (ts : List Tree) → ArePieces th f ts → Each (IsPiece (th f).assoc (th f).id f) ts
  each_piece [] p = tt
  each_piece (t ∷ ts) p = (p.1, each_piece ts p.2)

  pub each_normal : AreLawful th → (ts : List Tree) → ArePieces th f ts → Each (IsNormal th) ts
  each_normal lawful [] p = tt
  each_normal lawful (t ∷ ts) p = (subst (IsNormal th) p.0 (norm_normal th lawful t), each_normal lawful ts p.2)

  -- an operator over pieces comes to the operator over the list
  pub norm_of_pieces : (ts : List Tree) → ArePieces th f ts → norm th (node f ts) ≡ over_list (th f) f ts
  norm_of_pieces ts p =
      norm-node th f ts
      ∙ ap (build (th f) f) (norms_of_pieces ts p)
      ∙ ap (over_list (th f) f) (pieces_all th (th f).assoc (th f).id f ts (each_piece ts p))

  -- what is within the limits is refused for want of memory alone
  pub only_memory : (ts : List Tree) → ArePieces th f ts → IsWithin th (over_list (th f) f ts) → (e : BuildFault) → IsCause th (norm th (node f ts)) e → e ≡ NoMemory
  only_memory ts p w NoMemory c = refl
  only_memory ts p w TooDeep c =
      let d : MAX_DEPTH < depth (over_list (th f) f ts) = subst (λ t. MAX_DEPTH < depth t) (norm_of_pieces ts p) c in
      absurd (omega (arith, w.shallow))
  only_memory ts p w Overflow c =
      let o : holds_overflow th (over_list (th f) f ts) ≡ true = ap (holds_overflow th) (sym (norm_of_pieces ts p)) ∙ c.1 in
      absurd (let k : false ≡ true = sym w.no_overflow ∙ o in cc)

  -- ---- some of the items

  pub record IsBelow (d : ℕ) (t : Tree) : Type 0 where
    pub shallow : depth t ≤ d
    pub no_overflow : holds_overflow th t ≡ false

  pub all_below : (ts : List Tree) → hold_overflow th (trees_of ts) ≡ false → (d : ℕ) → list_depth ts ≤ d → Each (IsBelow d) ts
  all_below [] o d h = tt
  all_below (t ∷ ts) o d h =
      let both = or_parts (holds_overflow th t) (hold_overflow th (trees_of ts)) o in
      (record { shallow = omega arith; no_overflow = both.0 }, all_below ts both.1 d (omega arith))

  depth_below : (ts : List Tree) (d : ℕ) → Each (IsBelow d) ts → list_depth ts ≤ d
  depth_below [] d h = omega arith
  depth_below (t ∷ ts) d h = omega (arith, h.0.shallow, depth_below ts d h.1)

  holds_below : (ts : List Tree) (d : ℕ) → Each (IsBelow d) ts → hold_overflow th (trees_of ts) ≡ false
  holds_below [] d h = refl
  holds_below (t ∷ ts) d h = ap₂ (λ a b. a || b) h.0.no_overflow (holds_below ts d h.1)

  -- two elements or more
  pub node_within : (t u : Tree) (ts : List Tree) (d : ℕ) → d < MAX_DEPTH → Each (IsBelow d) (t ∷ u ∷ ts) → IsWithin th (node f (t ∷ u ∷ ts))
  node_within t u ts d l h = record {
    shallow = let k : depth (node f (t ∷ u ∷ ts)) ≤ MAX_DEPTH = omega (arith, depths-trees_of (t ∷ u ∷ ts), depth_below (t ∷ u ∷ ts) d h) in k;
    no_overflow = ap₂ (λ a b. ((th f).succ && a) || b) (no_greatest (t ∷ u ∷ ts) (omega arith)) (holds_below (t ∷ u ∷ ts) d h) ∙ never (th f).succ;
  }
    where
      never : (b : Bool) → ((b && false) || false) ≡ false
      never true = refl
      never false = refl

  -- no item
  pub none_within : IsWithin th (over_list (th f) f [])
  none_within = subst (λ l. IsWithin th (finish (th f).assoc (th f).id (th f).succ f l)) (sym (arrange_none (th f).comm)) (by (th f).assoc (th f).id)
    where
      never : (b : Bool) → ((b && false) || false) ≡ false
      never true = refl
      never false = refl

      by : (a : Bool) (u : Option Identity) → IsWithin th (finish a u (th f).succ f [])
      by a None = record { shallow = omega arith; no_overflow = never (th f).succ }
      by a (Some (Const c)) = record { shallow = omega arith; no_overflow = never (th c.0).succ }
      by a (Some (Num n)) = record { shallow = omega arith; no_overflow = refl }
