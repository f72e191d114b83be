-- One use of a statement, put together of its parts.
use Rattle.std.proofs.Common.{◌≡◌, ◌↔◌, ℕ, ◌≤◌, ◌==◌, List, [], ◌∷◌, length, Bool, true, false, refl, sym, ap, ◌∙◌, subst, arith, eq-eqb}
use Rattle.std.specs.Prelude.{IsTrue, All}
use Rattle.std.proofs.lemmas.Bool.{eqb-true}
use Rattle.mau_poset.specs.Order.{kind_of}
use Rattle.mau_terms.specs.Tree.{Tree}
use Rattle.mau_terms.specs.Bare.{TermSignature, IsBareIn, EqualModulo, IsLawful}
use Rattle.mau_terms.specs.Subst.{Variable, instance, value_at}
use Rattle.mau_terms.specs.Solution.{HaveSorts}
use Rattle.mau_terms.proofs.Taken.{one_kind}
use Rattle.mau_signature.specs.Signature.{SignatureOf, terms_over}
use Rattle.mau_sigcheck.specs.Built.{IsBuiltAndAccepted}
use Rattle.mau_store.specs.Node.{Node}
use Rattle.mau_program.specs.declared.statements.Fragment.{Fragment}
use Rattle.mau_api.specs.Terms.{IsBareWithin, fill, holes, IsContextFor}
use Rattle.mau_logic.specs.Says.{Says, leads, of_sort, says_nothing}
use Rattle.mau_logic.specs.Shown.{HasSortBy, ShowsAll}
use Rattle.mau_logic.specs.Justified.{Uses}
use Rattle.mau_logic.proofs.FactKinds.{AreKinded, values_kinds}
use Rattle.mau_check.specs.declared.kept.Holes.{Holes}
use Rattle.mau_check.specs.declared.kept.Holes.TheVariants.{Absent, Single, Several}
use Rattle.mau_check.specs.declared.kept.Kept.{Kept}
use Rattle.mau_check.specs.declared.said.Said.{Said}
use Rattle.mau_check.specs.declared.said.Said.TheVariants.{Leads, Sorted}
use Rattle.mau_check.specs.Kept.{AreHoles, IsKeptFor, AreKeptFor}
use Rattle.mau_check.specs.Said.{IsSaid, AreSaid}
use Rattle.std.proofs.lemmas.List.Elements.{All-nil, All-cons}

-- ---- contexts

-- the kind of a term decides whether it fits the only hole
pub context_single : (s : TermSignature) (t c : Tree) (k j : ℕ) → IsBareIn s t j → holes c ≡ k ∷ [] → IsTrue (k == j) ↔ IsContextFor s t c
context_single s t c k j b e = (
  (λ same. (k, subst (IsBareIn s t) (sym (eqb-true k j same)) b, e)),
  λ context. let d : k ∷ [] ≡ context.0 ∷ [] = sym e ∙ context.2 in
      let same : k ≡ context.0 = cc in
      eq-eqb k j (same ∙ one_kind s t context.0 j context.1 b),
)

pub context_none : (s : TermSignature) (t c : Tree) → holes c ≡ [] → IsContextFor s t c → ⊥
context_none s t c e (k, b, d) = let f : k ∷ [] ≡ [] = sym d ∙ e in cc

pub context_more : (s : TermSignature) (t c : Tree) → 2 ≤ length (holes c) → IsContextFor s t c → ⊥
context_more s t c l (k, b, d) = let n : length (holes c) ≡ 1 = ap length d in omega (arith, l, n)

-- ---- kinds of values

-- facts tell sorts of the kinds of their terms
pub said_kinded : (s : SignatureOf) (nodes : List Node) (xs : List Said) (us : List Says) → AreSaid s nodes xs us → AreKinded s us
said_kinded s nodes [] [] h = tt
said_kinded s nodes [] (u ∷ us) h = absurd h
said_kinded s nodes (x ∷ xs) [] h = absurd h
said_kinded s nodes (Leads e a b ∷ xs) (leads d t u ∷ us) h = (tt, said_kinded s nodes xs us h.1)
said_kinded s nodes (Leads e a b ∷ xs) (of_sort t r ∷ us) h = absurd h.0
said_kinded s nodes (Leads e a b ∷ xs) (says_nothing ∷ us) h = absurd h.0
said_kinded s nodes (Sorted a q ∷ xs) (leads d t u ∷ us) h = absurd h.0
said_kinded s nodes (Sorted a q ∷ xs) (of_sort t r ∷ us) h = (h.0.3, said_kinded s nodes xs us h.1)
said_kinded s nodes (Sorted a q ∷ xs) (says_nothing ∷ us) h = absurd h.0

pub kept_within : (s : SignatureOf) (nodes : List Node) (ks : List Kept) (ts : List Tree) → AreKeptFor s nodes ks ts → All (IsBareWithin s) ts
kept_within s nodes [] [] h = All-nil (IsBareWithin s)
kept_within s nodes [] (t ∷ ts) h = absurd h
kept_within s nodes (k ∷ ks) [] h = absurd h
kept_within s nodes (k ∷ ks) (t ∷ ts) h = All-cons (IsBareWithin s) t ts h.0.within (kept_within s nodes ks ts h.1)

-- values that have their variables' sorts lie in the kinds of these
pub bound_kinds : (s : SignatureOf) → IsBuiltAndAccepted s → IsLawful (terms_over s) → (nodes : List Node) (uses : List Said) (us : List Says) → AreSaid s nodes uses us → (xs : List Variable) (ks : List Kept) (vs : List Tree) → AreKeptFor s nodes ks vs →
    HaveSorts (HasSortBy s us) xs vs → HaveSorts (λ r v. IsBareIn (terms_over s) v (kind_of s.hierarchy r)) xs vs
bound_kinds s accepted lawful nodes uses us said xs ks vs kept has = values_kinds s accepted lawful us (said_kinded s nodes uses us said) xs vs (kept_within s nodes ks vs kept) has
