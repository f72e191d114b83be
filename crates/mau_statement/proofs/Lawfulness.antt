-- A statement without a fault is lawful as one of a program.
use Rattle.std.proofs.Common.{◌≡◌, ℕ, ◌+◌, zero, suc, List, [], ◌∷◌, Bool, true, false, not, ◌&&◌, ◌||◌, if◌then◌else◌, All, get_or, slice_get, Option, Some, None, refl, ap, ap₂, subst, arith}
use Rattle.mau_terms.specs.Tree.{Tree, variable, numeral, apply, Trees, no_trees, tree}
use Rattle.mau_terms.specs.Subst.{Variable, same_variable, has_variable, variables}
use Rattle.mau_terms.specs.View.{tree_of}
use Rattle.mau_terms.proofs.Variables.{same_itself}
use Rattle.mau_parse.specs.Terms.{AreGiven, AllGiven}
use Rattle.mau_signature.specs.Signature.{SignatureOf, theory_at}
use Rattle.mau_program.specs.declared.statements.Fragment.{Fragment}
use Rattle.mau_program.specs.declared.statements.Fragment.TheVariants.{Equal, Match, Sort, Reach}
use Rattle.mau_program.specs.Binding.{has_only, have_only, listed_from, listed, binds, are_bound}
use Rattle.mau_program.specs.Tops.{is_left_side, is_head}
use Rattle.mau_program.specs.LawfulStatements.{HasListedIn}
use Rattle.mau_statement.specs.Lawful.{HasVariablesOf, HasNoFault, IsLawfulStatement}
use Rattle.mau_statement.specs.declared.fault.StatementFault.{StatementFault}
use Rattle.mau_statement.specs.declared.fault.StatementFault.TheVariants.{LhsVariable, MembershipHead}
use Rattle.mau_statement.specs.declared.statement.Statement.{Statement}
use Rattle.mau_statement.specs.declared.statement.Statement.TheVariants.{Equation, Membership, Rule}

-- ---- variables that are given are listed

either : (a b : Bool) → b ≡ true → (a || b) ≡ true
either true b e = refl
either false b e = e

given_from : (k : ℕ) (ps : List (List ℕ × ℕ)) (i : ℕ) (name : List ℕ) (s : ℕ) → slice_get ps i ≡ Some (name, s) → has_variable (listed_from k ps) (k + i, s) ≡ true
given_from k [] i name s e = absurd cc
given_from k (p ∷ ps) zero name s e =
    let same : p.1 ≡ s = ap (λ (o : Option (List ℕ × ℕ)). elim o [ Some q ↦ q.1 | None ↦ s ]) e in
    let here : same_variable (k, p.1) (k + 0, s) ≡ true = subst (λ (v : Variable). same_variable (k, p.1) v ≡ true) (ap₂ (λ a b. let v : Variable = (a, b) in v) (omega arith) same) (same_itself (k, p.1)) in
    ap (λ b. b || has_variable (listed_from (suc k) ps) (k + 0, s)) here
given_from k (p ∷ ps) (suc i) name s e =
    either (same_variable (k, p.1) (k + suc i, s)) (has_variable (listed_from (suc k) ps) (k + suc i, s))
    (subst (λ j. has_variable (listed_from (suc k) ps) (j, s) ≡ true) (omega arith) (given_from (suc k) ps i name s e))

mutual
  pub given_listed : (ps : List (List ℕ × ℕ)) (t : Tree) → AreGiven ps t → has_only (listed ps) t ≡ true
  given_listed ps (variable i s) g = subst (λ j. has_variable (listed ps) (j, s) ≡ true) (omega arith) (given_from 0 ps i g.0 s g.1)
  given_listed ps (numeral n) g = refl
  given_listed ps (apply f ts) g = all_listed ps ts g

  all_listed : (ps : List (List ℕ × ℕ)) (ts : Trees) → AllGiven ps ts → have_only (listed ps) ts ≡ true
  all_listed ps no_trees g = refl
  all_listed ps (tree t ts) g = ap₂ (λ a b. a && b) (given_listed ps t g.0) (all_listed ps ts g.1)

fragment_listed : (ps : List (List ℕ × ℕ)) (f : Fragment) → HasVariablesOf ps f → HasListedIn ps f
fragment_listed ps (Equal t u) h = (given_listed ps (tree_of t) h.0, given_listed ps (tree_of u) h.1)
fragment_listed ps (Match p u) h = (given_listed ps (tree_of p) h.0, given_listed ps (tree_of u) h.1)
fragment_listed ps (Sort t s) h = given_listed ps (tree_of t) h
fragment_listed ps (Reach t u) h = (given_listed ps (tree_of t) h.0, given_listed ps (tree_of u) h.1)

pub fragments_listed : (ps : List (List ℕ × ℕ)) (fs : List Fragment) → All (HasVariablesOf ps) fs → All (HasListedIn ps) fs
fragments_listed ps fs h = λ i x w. fragment_listed ps (get_or fs i x) (h i x w)

-- ---- no fault

no_fault : (b : Bool) (f : StatementFault) → (if b then None else Some f) ≡ None → b ≡ true
no_fault true f e = refl
no_fault false f e = absurd cc

none_unbound : (exec bound : Bool) → (exec && not bound) ≡ false → exec ≡ true → bound ≡ true
none_unbound true true e x = refl
none_unbound true false e x = absurd cc
none_unbound false bound e x = absurd cc

pub lawful_statement : (s : SignatureOf) (x : Statement) → HasNoFault s x → IsLawfulStatement s x
lawful_statement s (Equation e) h = record {
  parts = h.parts;
  listed = (given_listed e.vars (tree_of e.left) h.own.0, given_listed e.vars (tree_of e.right) h.own.1, fragments_listed e.vars e.cond h.own.2);
  left_side = no_fault (is_left_side (theory_at s) (tree_of e.left)) LhsVariable h.head;
  bound = none_unbound e.exec (binds (tree_of e.left) e.cond (tree_of e.right)) h.bound;
}
lawful_statement s (Membership m) h = record {
  parts = h.parts;
  listed = (given_listed m.vars (tree_of m.left) h.own.0, fragments_listed m.vars m.cond h.own.1);
  head = no_fault (is_head (theory_at s) (tree_of m.left)) MembershipHead h.head;
  bound = none_unbound m.exec (are_bound (variables (tree_of m.left)) m.cond) h.bound;
}
lawful_statement s (Rule r) h = record {
  parts = h.parts;
  listed = (given_listed r.vars (tree_of r.left) h.own.0, given_listed r.vars (tree_of r.right) h.own.1, fragments_listed r.vars r.cond h.own.2);
  bound = none_unbound r.exec (binds (tree_of r.left) r.cond (tree_of r.right)) h.bound;
}
