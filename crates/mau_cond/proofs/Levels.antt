-- What a level gives for terms and instances.
use Rattle.std.proofs.Common.{◌≡◌, ℕ, ◌+◌, List, [], ◌∷◌, false, if◌then◌else◌, Option, map, refl, sym, ap, ap₂, ◌∙◌, arith, le-ltb}
use Rattle.std.proofs.lemmas.Bool.{lt-ltb}
use Rattle.mau_terms.specs.Tree.{Tree}
use Rattle.mau_terms.specs.Depth.{depth}
use Rattle.mau_terms.specs.Norm.{norm, holds_overflow}
use Rattle.mau_terms.specs.Subst.{Variable, same_variable, instance}
use Rattle.mau_terms.specs.View.{variable_of}
use Rattle.mau_terms.specs.declared.ids.VarId.{VarId}
use Rattle.mau_terms.specs.declared.ids.TermId.{TermId}
use Rattle.mau_terms.specs.declared.theory.Theory.{Theory}
use Rattle.mau_signature.specs.Signature.{SignatureOf, theory_at}
use Rattle.mau_store.specs.Node.{Node}
use Rattle.mau_store.specs.Trees.{tree_at}
use Rattle.mau_canon.specs.Within.{IsWithin, IsCause}
use Rattle.mau_canon.specs.Values.{values_in}
use Rattle.mau_canon.specs.declared.fault.BuildFault.{BuildFault}
use Rattle.mau_canon.specs.declared.fault.BuildFault.TheVariants as Fault
use Rattle.mau_sorts.specs.Table.{Table}
use Rattle.mau_evaluation.specs.Run.{Outcome, done, ended, Run, counted, go_on, try_on, counted_if}
use Rattle.mau_evaluation.specs.Evaluation.{Level, look_up, admitted, within_limits}
use Rattle.mau_evaluation.proofs.BareTerms.{instance_same}
use Rattle.mau_api.specs.Answers.{binding_in}
use Rattle.mau_cond.specs.Meaning.{IsEndBy}
use Rattle.mau_cond.specs.Known.{IsLevelOf}

-- ---- what is built

counted_none : {A : Type 0} (o : Outcome A) → counted 0 o ≡ o
counted_none (done x r b) = ap (λ q. done x q b) (none r)
  where
    none : (r : ℕ) → 0 + r ≡ r
    none r = omega arith
counted_none (ended e) = refl

module _ (s : SignatureOf) (nodes : List Node) (table : Table) (l : Level) (of : IsLevelOf s nodes table l) where
  abbrev th : ℕ → Theory
  th = theory_at s

  -- a term is evaluated by its number
  pub level_evaluates : (t u : Tree) → u ≡ norm th t → IsWithin th u → (b : ℕ) → l.eval t b ≡ l.eval u b
  level_evaluates t u e i b =
      of.admits t b
      ∙ (ap (λ z. go_on l.eval (within_limits th z b)) (sym e)
      ∙ (ap (λ d. go_on l.eval (admitted d (holds_overflow th u) u b)) (le-ltb 1000 (depth u) i.shallow)
      ∙ (ap (λ o. go_on l.eval (admitted false o u b)) i.no_overflow
      ∙ counted_none (l.eval u b))))

  -- a term that is not built ends
  pub level_refuses : (t : Tree) (fault : BuildFault) → IsCause th (norm th t) fault → (b : ℕ) → IsEndBy (l.eval t b) fault
  level_refuses t Fault.TooDeep h b =
      of.admits t b ∙ ap (λ d. go_on l.eval (admitted d (holds_overflow th (norm th t)) (norm th t) b)) (lt-ltb 1000 (depth (norm th t)) h)
  level_refuses t Fault.Overflow h b =
      of.admits t b
      ∙ (ap (λ d. go_on l.eval (admitted d (holds_overflow th (norm th t)) (norm th t) b)) (le-ltb 1000 (depth (norm th t)) h.0)
      ∙ ap (λ o. go_on l.eval (admitted false o (norm th t) b)) h.1)
  level_refuses t Fault.NoMemory h b = tt

-- an end stays one
pub try_refused : {A B : Type 0} (k : A → Run (Option B)) (o : Outcome A) (r : ℕ) (fault : BuildFault) → IsEndBy o fault → IsEndBy (counted_if r (try_on k o)) fault
try_refused k o r Fault.TooDeep h = ap (λ z. counted_if r (try_on k z)) h
try_refused k o r Fault.Overflow h = ap (λ z. counted_if r (try_on k z)) h
try_refused k o r Fault.NoMemory h = tt

-- ---- instances

-- a binding gives the value at the place of a variable
looked_up : (nodes : List Node) (bound : List (VarId × TermId)) (x : Variable) →
    look_up (binding_in nodes bound) x ≡ values_in nodes (map (λ b. b.0) bound) (map (λ b. b.1) bound) x
looked_up nodes [] x = refl
looked_up nodes (b ∷ bound) x = ap (λ t. if same_variable (variable_of b.0) x then tree_at nodes b.1.0 else t) (looked_up nodes bound x)

pub instance_bound : (nodes : List Node) (bound : List (VarId × TermId)) (t : Tree) →
    instance (values_in nodes (map (λ b. b.0) bound) (map (λ b. b.1) bound)) t ≡ instance (look_up (binding_in nodes bound)) t
instance_bound nodes bound t = instance_same (values_in nodes (map (λ b. b.0) bound) (map (λ b. b.1) bound)) (look_up (binding_in nodes bound)) (λ x. sym (looked_up nodes bound x)) t

-- an instance by the values in two lists is one by the binding, in a store that has grown
pub built_bound : (old new : List Node) (bound : List (VarId × TermId)) (xs : List VarId) (ids : List TermId) (t : Tree) → xs ≡ map (λ b. b.0) bound → ids ≡ map (λ b. b.1) bound →
    binding_in new bound ≡ binding_in old bound → instance (values_in old xs ids) t ≡ instance (look_up (binding_in new bound)) t
built_bound old new bound xs ids t e f g =
    ap₂ (λ ys is. instance (values_in old ys is) t) e f ∙ (instance_bound old bound t ∙ ap (λ σ. instance (look_up σ) t) (sym g))
