-- A code for trees, which a contract that sees a value as trees needs: no definition speaks of it. A tree is written as a list of
-- marks, each after what it joins, and read back with two stacks, of trees and of lists of trees.
use Rattle.std.specs.Prelude.{◌≡◌, ℕ, zero, suc, List, [], ◌∷◌, ◌++◌, refl}
use Rattle.std.specs.Coded.{Coded, code_by, coded×, coded_ℕ, coded_list}
use Rattle.std.proofs.Common.{ap, ◌∙◌, append_assoc, append-nil, sym}
use Rattle.mau_terms.specs.Tree.{Tree, variable, numeral, apply, Trees, no_trees, tree}

-- a kind of mark, and two numbers: 0 a variable, 1 a numeral, 2 an operator, 3 the empty list, 4 a tree before a list
abbrev pub Mark : Type 0
Mark = ℕ × (ℕ × ℕ)

abbrev mutual
  pub marks_of : Tree → List Mark
  marks_of (variable i s) = (0, (i, s)) ∷ []
  marks_of (numeral n) = (1, (n, 0)) ∷ []
  marks_of (apply f ts) = marks_of_all ts ++ (2, (f, 0)) ∷ []

  pub marks_of_all : Trees → List Mark
  marks_of_all no_trees = (3, (0, 0)) ∷ []
  marks_of_all (tree t ts) = marks_of t ++ (marks_of_all ts ++ (4, (0, 0)) ∷ [])

-- the stacks after one mark
abbrev pub after_mark : ℕ → ℕ → ℕ → List Tree → List Trees → List Tree × List Trees
after_mark zero a b ts us = (variable a b ∷ ts, us)
after_mark (suc zero) a b ts us = (numeral a ∷ ts, us)
after_mark (suc (suc zero)) a b ts [] = (ts, [])
after_mark (suc (suc zero)) a b ts (u ∷ us) = (apply a u ∷ ts, us)
after_mark (suc (suc (suc zero))) a b ts us = (ts, no_trees ∷ us)
after_mark (suc (suc (suc (suc k)))) a b [] us = ([], us)
after_mark (suc (suc (suc (suc k)))) a b (t ∷ ts) [] = (t ∷ ts, [])
after_mark (suc (suc (suc (suc k)))) a b (t ∷ ts) (u ∷ us) = (ts, tree t u ∷ us)

-- the stack of trees after all marks
abbrev pub trees_after : List Mark → List Tree → List Trees → List Tree
trees_after [] ts us = ts
trees_after (w ∷ ws) ts us = let p = after_mark w.0 w.1.0 w.1.1 ts us in trees_after ws p.0 p.1

mutual
  trees_after-marks_of : (t : Tree) (k : List Mark) (ts : List Tree) (us : List Trees) → trees_after (marks_of t ++ k) ts us ≡ trees_after k (t ∷ ts) us
  trees_after-marks_of (variable i s) k ts us = refl
  trees_after-marks_of (numeral n) k ts us = refl
  trees_after-marks_of (apply f vs) k ts us =
      ap (λ w. trees_after w ts us) (append_assoc (marks_of_all vs) ((2, (f, 0)) ∷ []) k)
      ∙ trees_after-marks_of_all vs ((2, (f, 0)) ∷ k) ts us

  trees_after-marks_of_all : (vs : Trees) (k : List Mark) (ts : List Tree) (us : List Trees) → trees_after (marks_of_all vs ++ k) ts us ≡ trees_after k ts (vs ∷ us)
  trees_after-marks_of_all no_trees k ts us = refl
  trees_after-marks_of_all (tree v vs) k ts us =
      ap (λ w. trees_after w ts us) (append_assoc (marks_of v) (marks_of_all vs ++ (4, (0, 0)) ∷ []) k ∙ ap (λ w. marks_of v ++ w) (append_assoc (marks_of_all vs) ((4, (0, 0)) ∷ []) k))
      ∙ trees_after-marks_of v (marks_of_all vs ++ ((4, (0, 0)) ∷ k)) ts us
      ∙ trees_after-marks_of_all vs ((4, (0, 0)) ∷ k) (v ∷ ts) us

abbrev pub first_tree : List Tree → Tree
first_tree [] = numeral 0
first_tree (t ∷ ts) = t

abbrev pub tree_at_marks : List Mark → Tree
tree_at_marks ws = first_tree (trees_after ws [] [])

pub tree_at_marks-marks_of : (t : Tree) → tree_at_marks (marks_of t) ≡ t
tree_at_marks-marks_of t =
    ap (λ w. first_tree (trees_after w [] [])) (sym (append-nil (marks_of t)))
    ∙ ap first_tree (trees_after-marks_of t [] [] [])

abbrev pub tree_code : Coded Tree
tree_code = code_by (List Mark) (coded_list (coded× coded_ℕ (coded× coded_ℕ coded_ℕ))) marks_of tree_at_marks tree_at_marks-marks_of
