-- The trees of the steps of a tree.
use Rattle.std.proofs.Common.{◌≡◌, ℕ, zero, suc, get_or, List, [], ◌∷◌, ◌++◌, length, map, take, drop, refl, sym, ap, ap₂, ◌∙◌, subst, ◌<◌, append-nil, append_assoc, arith}
use Rattle.std.proofs.Math.Seq.{take-append_seam, drop-append_seam}
use Rattle.mau_terms.specs.Tree.{Tree, variable, numeral, apply, Trees, no_trees, tree, node, list_of, trees_of}
use Rattle.mau_terms.specs.Subst.{Variable, variables, add_variables, add_all_variables}
use Rattle.mau_terms.specs.Code.{first_tree}
use Rattle.mau_terms.specs.View.{tree_of}
use Rattle.mau_terms.specs.declared.bare.Bare.{Bare}
use Rattle.mau_terms.specs.declared.ids.OpId.{OpId}
use Rattle.mau_terms.specs.declared.ids.VarId.{VarId}
use Rattle.mau_terms.proofs.Pieces.{trees_of-list_of}
use Rattle.mau_syntactic.specs.declared.step.Step.{Step}
use Rattle.mau_syntactic.specs.declared.step.Step.TheVariants.{Operator}
use Rattle.mau_syntactic.specs.Steps.{count_trees, steps_of, all_steps_of, trees_from, variable_at, pattern_from, AreStepsOf}
use Rattle.mau_syntactic.proofs.Places.{placed, variable_place, all_grow}

pub count-list_of : (ts : Trees) → count_trees ts ≡ length (list_of ts)
count-list_of no_trees = refl
count-list_of (tree t ts) = ap suc (count-list_of ts)

module _ (all : List Variable) where
  mutual
    trees_steps : (t : Tree) (seen later : List Variable) (rest : List Step) → all ≡ add_variables seen t ++ later → trees_from all (steps_of seen t ++ rest) ≡ t ∷ trees_from all rest
    trees_steps (variable i s) seen later rest e =
        let p = placed all seen later i s e in
        ap (λ v. v ∷ trees_from all rest) (ap (λ k. variable_at all k) (sym p.same) ∙ variable_place all (i, s) (subst (λ k. k < length all) (sym p.same) p.low))
    trees_steps (numeral n) seen later rest e = refl
    trees_steps (apply f ts) seen later rest e =
        let below : trees_from all (all_steps_of seen ts ++ rest) ≡ list_of ts ++ trees_from all rest = all_trees_steps ts seen later rest e in
        ap₂ (λ (n : ℕ) (us : List Tree). node f (take n us) ∷ drop n us) (count-list_of ts) below
        ∙ ap₂ (λ us vs. node f us ∷ vs) (take-append_seam (list_of ts) (trees_from all rest)) (drop-append_seam (list_of ts) (trees_from all rest))
        ∙ ap (λ us. apply f us ∷ trees_from all rest) (trees_of-list_of ts)

    all_trees_steps : (ts : Trees) (seen later : List Variable) (rest : List Step) → all ≡ add_all_variables seen ts ++ later → trees_from all (all_steps_of seen ts ++ rest) ≡ list_of ts ++ trees_from all rest
    all_trees_steps no_trees seen later rest e = refl
    all_trees_steps (tree t ts) seen later rest e =
        let more = all_grow ts (add_variables seen t) in
        let k : all ≡ add_variables seen t ++ (more.0 ++ later) = e ∙ ap (λ w. w ++ later) more.1 ∙ append_assoc (add_variables seen t) more.0 later in
        ap (trees_from all) (append_assoc (steps_of seen t) (all_steps_of (add_variables seen t) ts) rest)
        ∙ trees_steps t seen (more.0 ++ later) (all_steps_of (add_variables seen t) ts ++ rest) k
        ∙ ap (λ us. t ∷ us) (all_trees_steps ts (add_variables seen t) later rest e)

-- from the steps of a tree the tree is read again
pub pattern_steps : (p : Tree) (xs : List VarId) (ss : List Step) → AreStepsOf p xs ss → pattern_from xs ss ≡ p
pattern_steps p xs ss are =
    ap₂ (λ (vs : List Variable) (w : List Step). first_tree (trees_from vs w)) are.in_order (are.steps ∙ sym (append-nil (steps_of [] p)))
    ∙ ap first_tree (trees_steps (variables p) p [] [] [] (sym (append-nil (variables p))))

pub steps_of_pattern : (p : Tree) (xs : List VarId) (ss : List Step) → AreStepsOf p xs ss → AreStepsOf (pattern_from xs ss) xs ss
steps_of_pattern p xs ss are = subst (λ q. AreStepsOf q xs ss) (sym (pattern_steps p xs ss are)) are

-- ---- one more term

pub steps_more : (xs : List Variable) (bs : List Bare) (i : ℕ) (d : Bare) → i < length bs →
    all_steps_of xs (trees_of (map tree_of (take (suc i) bs))) ≡ all_steps_of xs (trees_of (map tree_of (take i bs))) ++ steps_of (add_all_variables xs (trees_of (map tree_of (take i bs)))) (tree_of (get_or bs i d))
steps_more xs [] i d h = absurd (omega arith)
steps_more xs (b ∷ bs) zero d h = append-nil (steps_of xs (tree_of b))
steps_more xs (b ∷ bs) (suc i) d h =
    ap (λ w. steps_of xs (tree_of b) ++ w) (steps_more (add_variables xs (tree_of b)) bs i d (omega arith))
    ∙ sym (append_assoc (steps_of xs (tree_of b)) (all_steps_of (add_variables xs (tree_of b)) (trees_of (map tree_of (take i bs)))) (steps_of (add_all_variables (add_variables xs (tree_of b)) (trees_of (map tree_of (take i bs)))) (tree_of (get_or bs i d))))

pub variables_more : (xs : List Variable) (bs : List Bare) (i : ℕ) (d : Bare) → i < length bs →
    add_all_variables xs (trees_of (map tree_of (take (suc i) bs))) ≡ add_variables (add_all_variables xs (trees_of (map tree_of (take i bs)))) (tree_of (get_or bs i d))
variables_more xs [] i d h = absurd (omega arith)
variables_more xs (b ∷ bs) zero d h = refl
variables_more xs (b ∷ bs) (suc i) d h = variables_more (add_variables xs (tree_of b)) bs i d (omega arith)

pub count-trees_of : (ts : List Tree) → count_trees (trees_of ts) ≡ length ts
count-trees_of [] = refl
count-trees_of (t ∷ ts) = ap suc (count-trees_of ts)

pub steps_node : (xs : List Variable) (op : OpId) (ts : List Tree) (n : ℕ) → n ≡ length ts → Operator op n ∷ all_steps_of xs (trees_of ts) ≡ steps_of xs (node op.0 ts)
steps_node xs op ts n e = ap (λ k. Operator op k ∷ all_steps_of xs (trees_of ts)) (e ∙ sym (count-trees_of ts))
