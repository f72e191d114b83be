-- An operator is found at its place, or at none.
use Rattle.std.proofs.Common.{◌≡◌, ℕ, ◌+◌, List, Option, ap}
use Rattle.std.specs.Prelude.{option_map}
use Rattle.mau_poset.specs.Order.{Hierarchy}
use Rattle.mau_terms.specs.declared.ids.OpId.{OpId}
use Rattle.mau_signature.specs.declared.decl.Decl.{Decl}
use Rattle.mau_signature.specs.Names.{Operator, operator_of, place_of}
use Rattle.mau_signature.specs.Signature.{SignatureOf, number_of}
use Rattle.mau_signature.proofs.signature.Signature.operator.Goals as goal

place_same : (s : SignatureOf) (h : Hierarchy) (fs : List Operator) (d : Decl) (k : Operator) (r : Option ℕ) → r ≡ place_of fs k → k ≡ operator_of h d
    → fs ≡ s.names → h ≡ s.hierarchy → r ≡ place_of s.names (operator_of s.hierarchy d)
place_same s h fs d k r found same names order = cc

numbered : (s : SignatureOf) (h : Hierarchy) (fs : List Operator) (d : Decl) (k : Operator) (r : Option ℕ) → r ≡ place_of fs k → k ≡ operator_of h d
    → fs ≡ s.names → h ≡ s.hierarchy → option_map (λ i. let o : OpId = record { 0 = i + 1 } in o) r ≡ number_of s.names (operator_of s.hierarchy d)
numbered s h fs d k r found same names order = ap (option_map (λ i. let o : OpId = record { 0 = i + 1 } in o)) (place_same s h fs d k r found same names order)

pub returns-in-Some-clause-number : goal.returns-in-Some-clause-number
returns-in-Some-clause-number c =
    numbered c.args.self.now _ _ c.args.decl.now _ _ c.in-Some.ensures.value c.in_ok-key.ensures (ap (λ (s : SignatureOf). s.names) c.self.view_is) (ap (λ (s : SignatureOf). s.hierarchy) c.self.view_is)

pub returns-clause-number : goal.returns-clause-number
returns-clause-number c =
    numbered c.args.self.now _ _ c.args.decl.now _ _ c.in-None.ensures.value c.in_ok-key.ensures (ap (λ (s : SignatureOf). s.names) c.self.view_is) (ap (λ (s : SignatureOf). s.hierarchy) c.self.view_is)
