-- Conditions that are asked one solution behind another.
use Rattle.std.proofs.Common.{◌≡◌, ◌<◌, ◌∷◌, [], List, length, get_or, map, ℕ, nat_lt, true, false, Vec, Global, Bor, Option, Some, None, IfSome, IfOk, Result, Ok, Err, All, sym, subst, arith}
use Rattle.std.proofs.lemmas.List.Elements.{All-nil, All-cons, All-head, All-tail}
use borrow.Author.Tests.{ltb-true}
use Rattle.std.specs.Option.{option_map}
use Rattle.mau_terms.specs.declared.ids.TermId.{TermId}
use Rattle.mau_terms.specs.declared.ids.VarId.{VarId}
use Rattle.mau_signature.specs.Faults.{IsSort}
use Rattle.mau_signature.specs.Signature.{SignatureOf}
use Rattle.mau_store.specs.Node.{Node}
use Rattle.mau_program.specs.Binding.{are_bound}
use Rattle.mau_program.specs.LawfulStatements.{IsLawfulFragment, IsLawfulEquation}
use Rattle.mau_program.specs.declared.statements.Equation.{Equation}
use Rattle.mau_program.specs.declared.statements.Fragment as Written
use Rattle.mau_program.specs.declared.statements.Fragment.TheVariants as Part
use Rattle.mau_evaluation.specs.Program.{Fragment}
use Rattle.mau_evaluation.specs.Evaluation.{Binding}
use Rattle.mau_evaluation.specs.Rules.{has_reach}
use Rattle.mau_api.specs.Meanings.{Meanings}
use Rattle.mau_api.specs.Programs.{fragment_of}
use Rattle.mau_api.specs.Answers.{IsAskable, IsFragment, IsSolutionOf, first_one, one_behind, GivesUnder, solving_from, MaySolve, binding_in, levels_of_condition, mapped}
use Rattle.mau_api.specs.declared.results.EvalEnd.{EvalEnd}

a_sort : (s : SignatureOf) (r : ℕ) → r < s.hierarchy.sorts → IsSort s.hierarchy r
a_sort s r h = omega arith

fragments : (s : SignatureOf) (cond : List Written.Fragment) → All (IsLawfulFragment s) cond → has_reach (map fragment_of cond) ≡ false → All (IsFragment s) cond
fragments s [] h e = All-nil (IsFragment s)
fragments s (Part.Equal t u ∷ cs) h e =
    let f = All-head (IsLawfulFragment s) (Part.Equal t u) cs h in
    All-cons (IsFragment s) (Part.Equal t u) cs ((f.kind, f.first), (f.kind, f.second)) (fragments s cs (All-tail (IsLawfulFragment s) (Part.Equal t u) cs h) e)
fragments s (Part.Match t u ∷ cs) h e =
    let f = All-head (IsLawfulFragment s) (Part.Match t u) cs h in
    All-cons (IsFragment s) (Part.Match t u) cs ((f.kind, f.first), (f.kind, f.second)) (fragments s cs (All-tail (IsLawfulFragment s) (Part.Match t u) cs h) e)
fragments s (Part.Sort t r ∷ cs) h e =
    All-cons (IsFragment s) (Part.Sort t r) cs (let f = All-head (IsLawfulFragment s) (Part.Sort t r) cs h in (f.0, a_sort s r f.1)) (fragments s cs (All-tail (IsLawfulFragment s) (Part.Sort t r) cs h) e)
fragments s (Part.Reach t u ∷ cs) h e = cc

pub asked : (s : SignatureOf) (cond : List Written.Fragment) → All (IsLawfulFragment s) cond → has_reach (map fragment_of cond) ≡ false → are_bound [] cond ≡ true → IsAskable s [] cond
asked s cond h e b = record { fragments = fragments s cond h e; bound = b; apart = tt }

-- of what references point to
pub behind_references : {A B : Type 0} (f : B → A) (Q : A → Type 0) (o : Option (Bor A)) (p : Option B) → option_map (λ (x : Bor A). x.now) o ≡ option_map f p → IfSome p (λ x. Q (f x)) → IfSome o (λ x. Q x.now)
behind_references f Q None p e h = tt
behind_references f Q (Some x) None e h = cc
behind_references f Q (Some x) (Some y) e h = subst (λ z. IfSome z Q) (sym e) h

-- what was solved is a solution
was_solved : (m : Meanings) (c : List Fragment) (σ : Binding) (last : Option Binding) → IfSome last (IsSolutionOf m c σ) → (x : Binding) (r b : ℕ) → GivesUnder (solving_from m last c σ) levels_of_condition m.limit b (Some x) r → IsSolutionOf m c σ x
was_solved m c σ None h x r b g = first_one x g.0 g.1 g.2 r g.3 g.7
was_solved m c σ (Some last) h x r b g = one_behind last x g.0 g.1 g.2 r g.3 h g.7

all_solved : (m : Meanings) (c : List Fragment) (σ : Binding) (last : Option Binding) → IfSome last (IsSolutionOf m c σ) → (nodes : List Node) (b : ℕ) (r : Result (Option (Vec (VarId × TermId) Global × ℕ)) EvalEnd) →
    MaySolve m (solving_from m last c σ) b nodes (mapped (option_map (λ (x : Vec (VarId × TermId) Global × ℕ). (x.0.items, x.1))) r) → IfOk r (λ o. IfSome o (λ x. IsSolutionOf m c σ (binding_in nodes x.0.items)))
all_solved m c σ last h nodes b (Ok (Some x)) may = was_solved m c σ last h (binding_in nodes x.0.items) may.0 b may.1
all_solved m c σ last h nodes b (Ok None) may = tt
all_solved m c σ last h nodes b (Err e) may = tt

pub next_solved : (m : Meanings) (c : List Fragment) (σ : Binding) (before nodes : List Node) (last : Option (Bor (List (VarId × TermId)))) → IfSome last (λ x. IsSolutionOf m c σ (binding_in before x.now)) →
    (b : ℕ) (r : Result (Option (Vec (VarId × TermId) Global × ℕ)) EvalEnd) →
    MaySolve m (solving_from m (option_map (λ (x : Bor (List (VarId × TermId))). binding_in before x.now) last) c σ) b nodes (mapped (option_map (λ (x : Vec (VarId × TermId) Global × ℕ). (x.0.items, x.1))) r) →
    IfOk r (λ o. IfSome o (λ x. IsSolutionOf m c σ (binding_in nodes x.0.items)))
next_solved m c σ before nodes None h b r may = all_solved m c σ None tt nodes b r may
next_solved m c σ before nodes (Some x) h b r may = all_solved m c σ (Some (binding_in before x.now)) h nodes b r may

pub lawful_at : (s : SignatureOf) (xs ys : List Equation) (i : ℕ) (e : Equation) → true ≡ nat_lt i (length xs) → e ≡ get_or xs i e → xs ≡ ys → All (IsLawfulEquation s) ys → IsLawfulEquation s e
lawful_at s xs ys i e lt is same h = subst (IsLawfulEquation s) (sym is) (subst (All (IsLawfulEquation s)) (sym same) h i e (ltb-true i (length xs) (sym lt)))
