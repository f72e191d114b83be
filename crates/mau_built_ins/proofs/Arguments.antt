-- A normal form as an operator over its arguments, and what the arguments are.
use Rattle.std.proofs.Common.{◌≡◌, ℕ, List, [], ◌∷◌, map, Bool, true, false, refl, sym, ap, ◌∙◌, subst}
use Rattle.std.specs.Prelude.{All}
use Rattle.std.proofs.lemmas.List.Elements.{All-nil, All-cons, All-head, All-tail}
use Rattle.mau_terms.specs.Tree.{Tree, apply, trees_of}
use Rattle.mau_terms.specs.Norm.{norm}
use Rattle.mau_terms.specs.Reading.{nest, nest_from, reading}
use Rattle.mau_terms.specs.Bare.{IsBare, IsBareIn, AreBareIn, IsLawful}
use Rattle.mau_terms.proofs.Leads.{two_bare}
use Rattle.mau_terms.proofs.Normal.{IsNormal, each_normal, normal_fixed}
use Rattle.mau_terms.proofs.Pieces.{Each, list_of-trees_of}
use Rattle.mau_terms.proofs.Wholes.{norm-reading}
use Rattle.mau_signature.specs.Signature.{SignatureOf, theory_at, terms_over}
use Rattle.mau_canon.specs.Within.{IsWithin}
use Rattle.mau_canon.proofs.Depths.{arguments_are_within}
use Rattle.mau_canon.proofs.Nesting.{readings_each}
use Rattle.mau_api.specs.Terms.{IsNormalTerm}
use Rattle.mau_built_ins.proofs.NormalTerms.{normal_of, read_norm}

module _ (s : SignatureOf) (lawful : IsLawful (terms_over s)) where
  pub reading_over : (f : ℕ) (ts : List Tree) → reading (theory_at s) (apply f (trees_of ts)) ≡ nest (theory_at s f).assoc f (map (reading (theory_at s)) ts)
  reading_over f ts = ap (nest (theory_at s f).assoc f) (readings_each (theory_at s) ts)

  -- ---- parts

  bare_from : (f : ℕ) → (theory_at s f).assoc ≡ true → (r : Tree) (rs : List Tree) (k : ℕ) → IsBareIn (terms_over s) (nest_from f r rs) k → Each (IsBare (terms_over s)) (r ∷ rs)
  bare_from f a r [] k b = ((k, b), tt)
  bare_from f a r (q ∷ rs) k b =
      let d = (terms_over s).result f in
      let parts = two_bare (terms_over s) f k d d r (nest_from f q rs) (lawful.assoc_kinds f a) b in
      ((d, parts.0), bare_from f a q rs d parts.1)

  bare_each : (rs : List Tree) (ks : List ℕ) → AreBareIn (terms_over s) (trees_of rs) ks → Each (IsBare (terms_over s)) rs
  bare_each [] ks b = tt
  bare_each (r ∷ rs) [] b = absurd b
  bare_each (r ∷ rs) (k ∷ ks) b = ((k, b.0), bare_each rs ks b.1)

  nest_parts : (f : ℕ) (a : Bool) → (theory_at s f).assoc ≡ a → (rs : List Tree) (k : ℕ) → IsBareIn (terms_over s) (nest a f rs) k → Each (IsBare (terms_over s)) rs
  nest_parts f true a [] k b = tt
  nest_parts f true a (r ∷ rs) k b = bare_from f a r rs k b
  nest_parts f false a rs k b = bare_each rs ((terms_over s).arguments f) b.2

  -- the arguments of a normal form within the limits are such normal forms
  pub arguments_normal : (f : ℕ) (ts : List Tree) → IsNormalTerm s (apply f (trees_of ts)) → Each (IsNormalTerm s) ts
  arguments_normal f ts n = all ts (subst (Each (IsNormal (theory_at s))) (list_of-trees_of ts) (each_normal (theory_at s) (trees_of ts) (normal_of s lawful (apply f (trees_of ts)) n).0)) bare within
    where
      bare : Each (IsBare (terms_over s)) (map (reading (theory_at s)) ts)
      bare = nest_parts f (theory_at s f).assoc refl (map (reading (theory_at s)) ts) n.term.0.0 (subst (λ t. IsBareIn (terms_over s) t n.term.0.0) (reading_over f ts) n.term.0.1)

      fixed : (us : List Tree) → Each (IsNormal (theory_at s)) us → All (λ t. norm (theory_at s) t ≡ t) us
      fixed [] m = All-nil (λ t. norm (theory_at s) t ≡ t)
      fixed (u ∷ us) m = All-cons (λ t. norm (theory_at s) t ≡ t) u us (normal_fixed (theory_at s) u m.0) (fixed us m.1)

      within : All (IsWithin (theory_at s)) ts
      within = arguments_are_within (theory_at s) lawful.theories f ts
          (fixed ts (subst (Each (IsNormal (theory_at s))) (list_of-trees_of ts) (each_normal (theory_at s) (trees_of ts) (normal_of s lawful (apply f (trees_of ts)) n).0)))
          (subst (IsWithin (theory_at s)) (read_norm s lawful (apply f (trees_of ts)) n ∙ sym n.normal) n.term.1)

      all : (us : List Tree) → Each (IsNormal (theory_at s)) us → Each (IsBare (terms_over s)) (map (reading (theory_at s)) us) → All (IsWithin (theory_at s)) us → Each (IsNormalTerm s) us
      all [] m b w = tt
      all (u ∷ us) m b w = (
        record {
          normal = normal_fixed (theory_at s) u m.0;
          term = (b.0, subst (IsWithin (theory_at s)) (sym (norm_back u m.0)) (All-head (IsWithin (theory_at s)) u us w));
        },
        all us m.1 b.1 (All-tail (IsWithin (theory_at s)) u us w),
      )
        where
          norm_back : (v : Tree) → IsNormal (theory_at s) v → norm (theory_at s) (reading (theory_at s) v) ≡ v
          norm_back v m = norm-reading (theory_at s) lawful.theories v m
