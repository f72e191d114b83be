-- Lawful programs are well formed.
use Rattle.std.proofs.Common.{◌≡◌, ℕ, zero, suc, List, [], ◌∷◌, Some, subst}
use Rattle.std.specs.Prelude.{All, slice_get}
use Rattle.std.proofs.lemmas.List.Elements.{All-head, All-tail}
use Rattle.mau_terms.specs.Bare.{IsLawful}
use Rattle.mau_signature.specs.Signature.{SignatureOf, terms_over}
use Rattle.mau_program.specs.declared.statements.Fragment.{Fragment}
use Rattle.mau_program.specs.declared.statements.Fragment.TheVariants.{Equal, Match, Sort, Reach}
use Rattle.mau_program.specs.declared.program.Program.{Program}
use Rattle.mau_program.specs.LawfulStatements.{IsLawfulFragment, IsLawfulEquation, IsLawfulMembership, IsLawfulRule}
use Rattle.mau_program.specs.LawfulPrograms.{IsLawfulProgram}
use Rattle.mau_api.specs.Variables.{numbered}
use Rattle.mau_built_ins.proofs.FromRows.{lawful_declares}
use Rattle.mau_logic.proofs.WellFormed.{AreBareFragments, IsWellFormed}

all_at : {A : Type 0} (P : A → Type 0) (xs : List A) → All P xs → (n : ℕ) (x : A) → numbered xs n ≡ Some x → P x
all_at P xs all zero x e = cc
all_at P xs all (suc n) x e = at xs all n e
  where
    at : (ys : List _) → All P ys → (n : ℕ) → slice_get ys n ≡ Some x → P x
    at [] all n e = cc
    at (y ∷ ys) all zero e = subst P (let d : y ≡ x = cc in d) (All-head P y ys all)
    at (y ∷ ys) all (suc n) e = at ys (All-tail P y ys all) n e

bare_fragments : (s : SignatureOf) (cs : List Fragment) → All (IsLawfulFragment s) cs → AreBareFragments s cs
bare_fragments s [] all = tt
bare_fragments s (c ∷ cs) all = by c (All-head (IsLawfulFragment s) c cs all) (bare_fragments s cs (All-tail (IsLawfulFragment s) c cs all))
  where
    by : (c : Fragment) → IsLawfulFragment s c → AreBareFragments s cs → AreBareFragments s (c ∷ cs)
    by (Equal t u) h rest = ((h.kind, h.first), (h.kind, h.second), rest)
    by (Match q u) h rest = ((h.kind, h.first), (h.kind, h.second), rest)
    by (Sort t r) h rest = (h.0, rest)
    by (Reach t u) h rest = ((h.kind, h.first), (h.kind, h.second), rest)

pub well_formed : (p : Program) → IsLawfulProgram p → IsLawful (terms_over p.sig) → IsWellFormed p
well_formed p l lawful = record {
  signature = lawful;
  accepted = l.accepted;
  built_ins = lawful_declares p l;
  equations = λ n e at. let h = (all_at (IsLawfulEquation p.sig) p.equations l.equations n e at).parts in ((h.sides.kind, h.sides.first, h.sides.second), bare_fragments p.sig e.cond h.condition);
  rules = λ n q at. let h = (all_at (IsLawfulRule p.sig) p.rules l.rules n q at).parts in ((h.sides.kind, h.sides.first, h.sides.second), bare_fragments p.sig q.cond h.condition);
  memberships = λ n m at. (all_at (IsLawfulMembership p.sig) p.memberships l.memberships n m at).parts.head;
}
