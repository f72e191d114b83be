-- Chains of bare terms of one kind, and how they are put together.
use Rattle.std.proofs.Common.{◌≡◌, ℕ, List, ◌∷◌, true}
use Rattle.mau_terms.specs.Tree.{Tree, apply, Trees, tree}
use Rattle.mau_terms.specs.Axioms.{AxiomStep, left_to_right, right_to_left, under_operator, AxiomStepIn, in_first, in_later}
use Rattle.mau_terms.specs.Bare.{TermSignature, IsBareIn, AreBareIn, IsBare, EqualModulo, same_term, one_step}
use Rattle.mau_terms.specs.declared.theory.Theory.{Theory}

-- ---- chains

pub EqualModulo-trans : {s : TermSignature} {t u v : Tree} → EqualModulo s t u → EqualModulo s u v → EqualModulo s t v
EqualModulo-trans (same_term b) q = q
EqualModulo-trans (one_step b x p) q = one_step b x (EqualModulo-trans p q)

mutual
  pub turn : {th : ℕ → Theory} {t u : Tree} → AxiomStep th t u → AxiomStep th u t
  turn (left_to_right x) = right_to_left x
  turn (right_to_left x) = left_to_right x
  turn (under_operator f x) = under_operator f (turn_in x)

  pub turn_in : {th : ℕ → Theory} {ts us : Trees} → AxiomStepIn th ts us → AxiomStepIn th us ts
  turn_in (in_first ts x) = in_first ts (turn x)
  turn_in (in_later t x) = in_later t (turn_in x)

pub first_bare : {s : TermSignature} {t u : Tree} → EqualModulo s t u → IsBare s t
first_bare (same_term b) = b
first_bare (one_step b x p) = b

pub last_bare : {s : TermSignature} {t u : Tree} → EqualModulo s t u → IsBare s u
last_bare (same_term b) = b
last_bare (one_step b x p) = last_bare p

pub EqualModulo-sym : {s : TermSignature} {t u : Tree} → EqualModulo s t u → EqualModulo s u t
EqualModulo-sym (same_term b) = same_term b
EqualModulo-sym (one_step b x p) = EqualModulo-trans (EqualModulo-sym p) (one_step (first_bare p) (turn x) (same_term b))

-- ---- chains within one kind

pub data Chain (s : TermSignature) (k : ℕ) : Tree → Tree → Type 0 where
  stop : {t : Tree} → IsBareIn s t k → Chain s k t t
  go : {t u v : Tree} → IsBareIn s t k → AxiomStep s.theory t u → Chain s k u v → Chain s k t v

pub data ChainIn (s : TermSignature) (ks : List ℕ) : Trees → Trees → Type 0 where
  stop_in : {ts : Trees} → AreBareIn s ts ks → ChainIn s ks ts ts
  go_in : {ts us vs : Trees} → AreBareIn s ts ks → AxiomStepIn s.theory ts us → ChainIn s ks us vs → ChainIn s ks ts vs

pub chain_equal : {s : TermSignature} {k : ℕ} {t u : Tree} → Chain s k t u → EqualModulo s t u
chain_equal {k} (stop b) = same_term (k, b)
chain_equal {k} (go b x p) = one_step (k, b) x (chain_equal p)

pub chain_end : {s : TermSignature} {k : ℕ} {t u : Tree} → Chain s k t u → IsBareIn s u k
chain_end (stop b) = b
chain_end (go b x p) = chain_end p

pub chain_trans : {s : TermSignature} {k : ℕ} {t u v : Tree} → Chain s k t u → Chain s k u v → Chain s k t v
chain_trans (stop b) q = q
chain_trans (go b x p) q = go b x (chain_trans p q)

pub chain_in_trans : {s : TermSignature} {ks : List ℕ} {ts us vs : Trees} → ChainIn s ks ts us → ChainIn s ks us vs → ChainIn s ks ts vs
chain_in_trans (stop_in b) q = q
chain_in_trans (go_in b x p) q = go_in b x (chain_in_trans p q)

pub chain_here : {s : TermSignature} {k : ℕ} {ks : List ℕ} {t u : Tree} (ts : Trees) → AreBareIn s ts ks → Chain s k t u → ChainIn s (k ∷ ks) (tree t ts) (tree u ts)
chain_here ts bs (stop b) = stop_in (b, bs)
chain_here ts bs (go b x p) = go_in (b, bs) (in_first ts x) (chain_here ts bs p)

pub chain_there : {s : TermSignature} {k : ℕ} {ks : List ℕ} (t : Tree) {ts us : Trees} → IsBareIn s t k → ChainIn s ks ts us → ChainIn s (k ∷ ks) (tree t ts) (tree t us)
chain_there t b (stop_in bs) = stop_in (b, bs)
chain_there t b (go_in bs x p) = go_in (b, bs) (in_later t x) (chain_there t b p)

pub chain_below : {s : TermSignature} {k : ℕ} (f : ℕ) {ts us : Trees} → s.has_operator f ≡ true → s.result f ≡ k → ChainIn s (s.arguments f) ts us → Chain s k (apply f ts) (apply f us)
chain_below f o e (stop_in bs) = stop (o, e, bs)
chain_below f o e (go_in bs x p) = go (o, e, bs) (under_operator f x) (chain_below f o e p)
