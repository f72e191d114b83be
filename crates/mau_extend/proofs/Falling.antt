-- What is given comes behind the last solution, so fewer are left.
use Rattle.std.proofs.Common.{◌≡◌, ◌<◌, List, true, Option, None, Some, IfSome, OnSome, Result, Ok, Err, IfOk, ◌∙◌, subst}
use Rattle.std.specs.Option.{option_map}
use Rattle.mau_terms.specs.Bare.{IsLawful}
use Rattle.mau_terms.specs.View.{tree_of}
use Rattle.mau_signature.specs.Signature.{SignatureOf, theory_at, terms_over}
use Rattle.mau_store.specs.Node.{Node, Extends}
use Rattle.mau_sorts.specs.Table.{Table}
use Rattle.mau_listing.specs.declared.solution.Solution.{Solution}
use Rattle.mau_listing.specs.Next.{matcher_cmp, IsBehind}
use Rattle.mau_listing.specs.Asked.{Asked, matcher_in, last_after, HasEntry, IsGiven, CanGoOn}
use Rattle.mau_listing.specs.Finite.{count_left}
use Rattle.mau_listing.proofs.Finitely.{fewer_left}
use Rattle.mau_listing.proofs.Growth.{last_found_same}
use Rattle.mau_trial.specs.Tried.{asked_in}
use Rattle.mau_trial.specs.declared.tried.Trial.{Trial}

module _ (s : SignatureOf) (t : Trial) (old new : List Node) (before : Table) (can : CanGoOn true s old before (asked_in t) t.last) (extends : Extends old new) where
  -- behind the last solution, by the nodes that there were first
  pub behind_first : (now : List Node) (o : Option Solution) → IfSome (option_map (matcher_in now) o) (IsBehind (matcher_cmp (theory_at s) (tree_of t.pattern)) (option_map (matcher_in new) t.last))
      → IfSome (option_map (matcher_in now) o) (IsBehind (matcher_cmp (theory_at s) (tree_of t.pattern)) (option_map (matcher_in old) t.last))
  behind_first now o = subst (λ l. IfSome (option_map (matcher_in now) o) (IsBehind (matcher_cmp (theory_at s) (tree_of t.pattern)) l)) (last_found_same old new extends s true before (asked_in t) t.last can.given)

  module _ (lawful : IsLawful (terms_over s)) (after : Table) where
    one_falls : (o : Option Solution) → IfSome (option_map (matcher_in new) o) (IsBehind (matcher_cmp (theory_at s) (tree_of t.pattern)) (option_map (matcher_in old) t.last)) → IfSome o (IsGiven true s new after (asked_in t))
        → IfSome o (λ x. count_left s new (asked_in t) (Some x) < count_left s old (asked_in t) t.last)
    one_falls None b g = tt
    one_falls (Some x) b g = fewer_left s lawful (HasEntry s new after) old new extends true before (asked_in t) t.last can x g.solves b

    pub falls : {E : Type 0} (r : Result (Option Solution) E) → IfOk r (λ o. IfSome (option_map (matcher_in new) o) (IsBehind (matcher_cmp (theory_at s) (tree_of t.pattern)) (option_map (matcher_in old) t.last)))
        → IfOk r (λ o. IfSome o (IsGiven true s new after (asked_in t))) → IfOk r (λ o. IfSome o (λ x. count_left s new (asked_in t) (Some x) < count_left s old (asked_in t) t.last))
    falls (Ok o) b g = one_falls o b g
    falls (Err e) b g = tt

-- a listing of the pattern itself leaves fewer
pub falls_alone : (s : SignatureOf) (old new : List Node) (was now a : Asked) (first then last o : Option Solution) → now ≡ was → was ≡ a → first ≡ last → then ≡ last_after first o
    → OnSome o (count_left s new now then < count_left s old was first) → IfSome o (λ x. count_left s new a (Some x) < count_left s old a last)
falls_alone s old new was now a first then last None e f h k l = tt
falls_alone s old new was now a first then last (Some x) e f h k l =
    subst (λ z. count_left s new a (Some x) < count_left s old a z) h
    (subst (λ z. count_left s new a z < count_left s old a first) k
    (subst (λ z. count_left s new z then < count_left s old a first) (e ∙ f)
    (subst (λ z. count_left s new now then < count_left s old z first) f l)))
