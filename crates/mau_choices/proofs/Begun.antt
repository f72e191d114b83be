-- Solutions that begin: a listing that can be asked, and all solutions that are left.
use Rattle.std.proofs.Common.{◌≡◌, ℕ, suc, List, [], ◌∷◌, All, false, Option, None, inl, refl, sym, ap, subst}
use Rattle.mau_terms.specs.Tree.{Tree}
use Rattle.mau_terms.specs.Bare.{IsBare}
use Rattle.mau_terms.specs.declared.ids.VarId.{VarId}
use Rattle.mau_terms.specs.declared.ids.TermId.{TermId}
use Rattle.mau_signature.specs.Signature.{SignatureOf, theory_at, terms_over}
use Rattle.mau_store.specs.Node.{Node}
use Rattle.mau_store.specs.Trees.{tree_at}
use Rattle.mau_canon.specs.Standing.{StandsWithin}
use Rattle.mau_sorts.specs.Table.{Table, AreOver}
use Rattle.mau_listing.specs.Asked.{Asked, asks, CanGoOn}
use Rattle.mau_listing.specs.Finite.{comes_behind}
use Rattle.mau_listing.specs.declared.solution.Solution as Given
use Rattle.mau_evaluation.specs.Run.{first_of}
use Rattle.mau_evaluation.specs.Program.{Fragment, Program}
use Rattle.mau_evaluation.specs.Listing.{Solution, keep, compare}
use Rattle.mau_evaluation.specs.Evaluation.{Binding, Level, levels}
use Rattle.mau_api.specs.Terms.{IsTerm}
use Rattle.mau_api.specs.Answers.{AreSettled, IsValueOf}
use Rattle.mau_machine.specs.Words.{Rules, rest_of, pattern_in, choose_from, choose_after}
use Rattle.mau_cond.proofs.Grown.{each}
use Rattle.mau_choices.specs.Choosing.{solution_gives, agreeing, left_of_choices, behind_own}

-- ---- all that is left

all_kept : (P : Program) (p : Tree) (xs : List Solution) → keep (comes_behind (compare P.sign.theory p) None) xs ≡ xs
all_kept P p [] = refl
all_kept P p (x ∷ xs) = ap (λ zs. x ∷ zs) (all_kept P p xs)

-- where nothing was given yet, all solutions are left
pub begun_is : (P : Program) (l : Level) (p : Tree) (c : List Fragment) (σ : Binding) (v : Tree) → left_of_choices P l p c σ v None ≡ first_of (solution_gives P l p c σ) (agreeing P p σ v)
begun_is P l p c σ v = ap (first_of (solution_gives P l p c σ)) (all_kept P p (agreeing P p σ v))

-- as the loop of evaluation has it
pub unchosen_begun : (R : Rules) (k e i : ℕ) (σ : Binding) (v : Tree) →
    left_of_choices R.program (levels R.program R.limit k) (pattern_in (rest_of R e i)) (rest_of R e (suc i)) σ v None ≡ choose_from R k e i σ v
unchosen_begun R k e i σ v = begun_is R.program (levels R.program R.limit k) (pattern_in (rest_of R e i)) (rest_of R e (suc i)) σ v

-- and behind a solution of the condition
pub own_begun : (R : Rules) (last : Binding) (k e i : ℕ) (σ : Binding) (v : Tree) (b : ℕ) →
    behind_own R.program (levels R.program R.limit k) (pattern_in (rest_of R e i)) (rest_of R e (suc i)) last σ v b ≡ choose_after R last k e i σ v b
own_begun R last k e i σ v b = refl

-- ---- a listing

pub can_begin : (s : SignatureOf) (nodes : List Node) (table : Table) (p : Tree) (bound : List (VarId × TermId)) (v : TermId) →
    IsBare (terms_over s) p → All (IsValueOf s nodes table) bound → IsTerm s nodes v.0 → AreSettled s nodes table (tree_at nodes v.0) → AreOver s.hierarchy table →
    (a : Asked) → a ≡ asks p bound v → (last : Option Given.Solution) → last ≡ None → CanGoOn false s nodes table a last
can_begin s nodes table p bound v bare values term settled over a e last none =
    subst (λ z. CanGoOn false s nodes table z last) (sym e)
    (subst (CanGoOn false s nodes table (asks p bound v)) (sym none) (record {
      askable = record {
        pattern = bare;
        bound = each (IsValueOf s nodes table) (λ b. StandsWithin (theory_at s) nodes b.1.0) (λ b h. h.term.within) bound values;
        subject = term.within;
        bare = term.bare;
      };
      settled = record { identities = settled.identities; below = settled.below; subject = inl settled.itself };
      over = over;
      given = tt;
    }))
