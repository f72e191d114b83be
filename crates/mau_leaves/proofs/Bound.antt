-- The condition of a rule, asked for the values of a solution of its left side.
use Rattle.std.proofs.Common.{◌≡◌, ℕ, List, [], ◌∷◌, length, map, Vec, Global, Bor, Option, Some, None, IfSome, IfOk, Result, Ok, Err, refl, sym, ap, ◌∙◌, subst, arith}
use Rattle.std.proofs.lemmas.List.{length-map}
use Rattle.std.specs.List.{zip}
use Rattle.std.specs.Option.{option_map}
use Rattle.mau_terms.specs.Subst.{variables}
use Rattle.mau_terms.specs.View.{tree_of, variable_of}
use Rattle.mau_terms.specs.declared.ids.TermId.{TermId}
use Rattle.mau_terms.specs.declared.ids.VarId.{VarId}
use Rattle.mau_signature.specs.Signature.{SignatureOf}
use Rattle.mau_store.specs.Node.{Node}
use Rattle.mau_program.specs.declared.statements.Fragment as Written
use Rattle.mau_program.specs.declared.statements.Rule as WrittenRule
use Rattle.mau_evaluation.specs.Program.{Fragment, Program}
use Rattle.mau_evaluation.specs.Evaluation.{Binding}
use Rattle.mau_api.specs.Meanings.{Meanings}
use Rattle.mau_api.specs.Answers.{IsAskable, IsSolutionOf, first_one, one_behind, GivesUnder, solving_from, MaySolve, binding_in, levels_of_condition, mapped}
use Rattle.mau_api.specs.declared.results.EvalEnd.{EvalEnd}
use Rattle.mau_leaves.specs.Answers.{IsNextShown}
use Rattle.mau_leaves.specs.Searches.{IsUsable}

-- the same asked with other words
pub shown_as : (P : Program) (b : ℕ) (nodes : List Node) (r : Result (Option (List (VarId × TermId))) EvalEnd) (last last' : Option Binding) → last ≡ last' → (c c' : List Fragment) → c ≡ c' → (σ σ' : Binding) → σ ≡ σ' →
    IsNextShown P b last c σ nodes r → IsNextShown P b last' c' σ' nodes r
shown_as P b nodes r last last' e c c' f σ σ' g h =
    subst (λ (z : Option Binding). IsNextShown P b z c' σ' nodes r) e (subst (λ (z : List Fragment). IsNextShown P b last z σ' nodes r) f (subst (λ (z : Binding). IsNextShown P b last c z nodes r) g h))

pub solution_as : (m : Meanings) (c c' : List Fragment) → c ≡ c' → (σ σ' : Binding) → σ ≡ σ' → (x y : Binding) → x ≡ y → IsSolutionOf m c σ x → IsSolutionOf m c' σ' y
solution_as m c c' f σ σ' g x y e h = subst (λ (z : List Fragment). IsSolutionOf m z σ' y) f (subst (λ (z : Binding). IsSolutionOf m c z y) g (subst (IsSolutionOf m c σ) e h))

pub solutions_as : (m : Meanings) (c c' : List Fragment) → c ≡ c' → (σ σ' : Binding) → σ ≡ σ' → (nodes : List Node) (r : Result (Option (Vec (VarId × TermId) Global)) EvalEnd) →
    IfOk r (λ o. IfSome o (λ x. IsSolutionOf m c σ (binding_in nodes x.items))) → IfOk r (λ o. IfSome o (λ x. IsSolutionOf m c' σ' (binding_in nodes x.items)))
solutions_as m c c' f σ σ' g nodes (Ok (Some x)) h = solution_as m c c' f σ σ' g (binding_in nodes x.items) (binding_in nodes x.items) refl h
solutions_as m c c' f σ σ' g nodes (Ok None) h = tt
solutions_as m c c' f σ σ' g nodes (Err e) h = tt

-- of what references point to
pub behind_references : {A : Type 0} (Q : A → Type 0) (o : Option (Bor A)) (p : Option A) → option_map (λ (x : Bor A). x.now) o ≡ p → IfSome p Q → IfSome o (λ x. Q x.now)
behind_references Q o p e h = by o (subst (λ z. IfSome z Q) (sym e) h)
  where
    by : (o : Option (Bor _)) → IfSome (option_map (λ (x : Bor _). x.now) o) Q → IfSome o (λ x. Q x.now)
    by None h = tt
    by (Some x) h = h

pub then_of : {A B : Type 0} (f : A → B) (o : Option (Bor A)) (p : Option A) → option_map (λ (x : Bor A). x.now) o ≡ p → option_map (λ (x : Bor A). f x.now) o ≡ option_map f p
then_of f o p e = by o ∙ ap (option_map f) e
  where
    by : (o : Option (Bor _)) → option_map (λ (x : Bor _). f x.now) o ≡ option_map f (option_map (λ (x : Bor _). x.now) o)
    by None = refl
    by (Some x) = refl

pub if_some : {A : Type 0} (Q R : A → Type 0) → ((x : A) → Q x → R x) → (o : Option A) → IfSome o Q → IfSome o R
if_some Q R f None h = tt
if_some Q R f (Some x) h = f x h

-- what was solved is a solution
pub was_solved : (m : Meanings) (c : List Fragment) (σ : Binding) (last : Option Binding) → IfSome last (IsSolutionOf m c σ) → (x : Binding) (r b : ℕ) → GivesUnder (solving_from m last c σ) levels_of_condition m.limit b (Some x) r → IsSolutionOf m c σ x
was_solved m c σ None h x r b g = first_one x g.0 g.1 g.2 r g.3 g.7
was_solved m c σ (Some last) h x r b g = one_behind last x g.0 g.1 g.2 r g.3 h g.7

pub all_solved : (m : Meanings) (c : List Fragment) (σ : Binding) (last : Option Binding) → IfSome last (IsSolutionOf m c σ) → (nodes : List Node) (b : ℕ) (r : Result (Option (Vec (VarId × TermId) Global × ℕ)) EvalEnd) →
    MaySolve m (solving_from m last c σ) b nodes (mapped (option_map (λ (x : Vec (VarId × TermId) Global × ℕ). (x.0.items, x.1))) r) → IfOk r (λ o. IfSome o (λ x. IsSolutionOf m c σ (binding_in nodes x.0.items)))
all_solved m c σ last h nodes b (Ok (Some x)) may = was_solved m c σ last h (binding_in nodes x.0.items) may.0 b may.1
all_solved m c σ last h nodes b (Ok None) may = tt
all_solved m c σ last h nodes b (Err e) may = tt
