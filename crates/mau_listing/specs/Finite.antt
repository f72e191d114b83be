-- A listing comes to an end: all solutions are among finitely many, so a number falls with each one that is given.
use Rattle.std.specs.Prelude.{ℕ, List, [], length, map, count_by, Bool, true, Option, None, Some}
use Rattle.std.specs.Ordering.{is_lt}
use Rattle.std.specs.declared.cmp.Ordering.{Ordering}
use Rattle.mau_terms.specs.Tree.{Tree}
use Rattle.mau_terms.specs.Norm.{norm}
use Rattle.mau_terms.specs.Subst.{variables}
use Rattle.mau_terms.specs.Solution.{list_under, over_list, assoc_top}
use Rattle.mau_terms.specs.Finite.{each_of, words, candidates}
use Rattle.mau_terms.specs.declared.theory.Theory.{Theory}
use Rattle.mau_signature.specs.Signature.{SignatureOf, theory_at}
use Rattle.mau_store.specs.Node.{Node}
use Rattle.std.specs.Option.{option_map}
use Rattle.mau_listing.specs.declared.solution.Solution.{Solution}
use Rattle.mau_listing.specs.Question.{Question}
use Rattle.mau_listing.specs.Matcher.{Matcher}
use Rattle.mau_listing.specs.Next.{matcher_cmp}
use Rattle.mau_listing.specs.Asked.{Asked, question_in, matcher_in}

-- a left context and values, from which the right context follows
abbrev pub beside : List Tree → List Tree → Matcher
beside left vs = record { left = left; right = []; values = vs }

-- among these is each solution of the pattern p and the normal form t, but for its right context, where f is the associative top of
-- the pattern, if there is one
abbrev pub may_solve : (ℕ → Theory) → Option ℕ → Tree → Tree → List Matcher
may_solve th None p t = map (beside []) (words (length (variables p)) (candidates th p t))
may_solve th (Some f) p t =
    let parts = words (length (list_under (th f) f t)) (list_under (th f) f t) in
    let values = each_of (λ l. words (length (variables p)) (candidates th p (over_list (th f) f l))) parts in
    each_of (λ left. map (beside left) values) parts

-- x comes behind the last one, if there is one
abbrev pub comes_behind : {A : Type 0} → (A → A → Ordering) → Option A → A → Bool
comes_behind cmp None x = true
comes_behind cmp (Some last) x = is_lt (cmp last x)

-- how many of these come behind the last solution: no fewer than there are solutions left
unfoldable pub count_behind : SignatureOf → Question → Option Matcher → ℕ
count_behind s q last =
    let th = theory_at s in
    count_by (comes_behind (matcher_cmp th q.pattern) last) (may_solve th (assoc_top th (norm th q.pattern)) q.pattern q.subject)

-- the same by the numbers of a store
abbrev pub count_left : SignatureOf → List Node → Asked → Option Solution → ℕ
count_left s nodes a last = count_behind s (question_in nodes a) (option_map (matcher_in nodes) last)
