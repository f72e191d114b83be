-- An evaluator that is asked again, and what is kept of the terms of its store.
use Rattle.std.proofs.Common.{◌≡◌, ℕ, ◌<◌, nat_lt, length, List, [], ◌∷◌, Bool, true, false, Option, Some, None, map, refl, sym, ap, ap₂, ◌∙◌, subst, arith, get_or}
use Rattle.std.specs.Prelude.{All}
use Rattle.mau_poset.specs.Order.{kind_of}
use Rattle.mau_terms.specs.Tree.{Tree}
use Rattle.mau_terms.specs.Bare.{IsBareIn, IsLawful}
use Rattle.mau_terms.specs.Reading.{reading}
use Rattle.mau_terms.specs.Subst.{Variable, variables}
use Rattle.mau_terms.specs.View.{tree_of, variable_of}
use Rattle.mau_terms.specs.declared.ids.VarId.{VarId}
use Rattle.mau_terms.specs.declared.ids.TermId.{TermId}
use Rattle.mau_terms.proofs.Variables.{distinct}
use Rattle.mau_signature.specs.Faults.{IsSort}
use Rattle.mau_signature.specs.Signature.{SignatureOf, theory_at, terms_over}
use Rattle.mau_signature.specs.OverSignature.{IsTreeOver}
use Rattle.mau_canon.specs.Standing.{StandsWithin}
use Rattle.mau_store.specs.Node.{Node, Extends}
use Rattle.mau_store.specs.Trees.{tree_at}
use Rattle.mau_store.proofs.Growth.{extension_is_preorder}
use Rattle.mau_sorts.specs.SortSets.{SortsOf, IsIn}
use Rattle.mau_sorts.specs.Table.{Table, entry_at, IsSettled}
use Rattle.mau_sorts.proofs.Entries.{settled_entry}
use Rattle.mau_sorts.specs.Derived.{set_or_none}
use Rattle.mau_program.specs.LawfulStatements.{IsLawfulFragment, IsLawfulMembership}
use Rattle.mau_program.specs.declared.program.Program.{Program}
use Rattle.mau_program.specs.declared.statements.Membership.{Membership}
use Rattle.mau_program.specs.declared.statements.Fragment.{Fragment}
use Rattle.mau_program.specs.declared.statements.Fragment.TheVariants.{Equal, Match, Sort, Reach}
use Rattle.mau_built_ins.proofs.NormalTerms.{read_bare}
use Rattle.mau_api.specs.Terms.{IsTerm}
use Rattle.mau_api.specs.Meanings.{Meanings}
use Rattle.mau_api.specs.Answers.{IsFragment, IsAskable, IsValueOf}
use Rattle.mau_check.specs.declared.kept.Kept.{Kept}
use Rattle.mau_check.proofs.Equals.{stands_within}
use Rattle.mau_check.proofs.Tells.{kept_over}
use Rattle.mau_prove.specs.Making.{AreSomeKept}
use Rattle.mau_prove.specs.Sorting.{IsKeptTerm, is_rewriting, IsWorking, HasWorked}
use Rattle.mau_prove.proofs.Standing.{some_grown}
use borrow.Author.Tests.{ltb-true}

-- ---- terms

module _ (s : SignatureOf) (lawful : IsLawful (terms_over s)) (nodes : List Node) where
  -- it lies in the kind that is kept
  kept_kind : (i : ℕ) (k : Kept) → IsKeptTerm s nodes i k → IsBareIn (terms_over s) (reading (theory_at s) (tree_at nodes i)) k.kind
  kept_kind i k h =
      subst (λ (j : ℕ). IsBareIn (terms_over s) (reading (theory_at s) (tree_at nodes j)) k.kind) h.same
      (subst (λ (t : Tree). IsBareIn (terms_over s) (reading (theory_at s) t) k.kind) (sym h.kept.stands) (read_bare s lawful h.term k.kind h.kept.kind))

  pub kept_term : (i : ℕ) (k : Kept) → IsKeptTerm s nodes i k → IsTerm s nodes i
  kept_term i k h = record {
    within = subst (λ (j : ℕ). StandsWithin (theory_at s) nodes j) h.same (stands_within s lawful nodes k h.term h.kept);
    bare = (k.kind, kept_kind i k h);
  }

  pub kept_tree : (i : ℕ) (k : Kept) → IsKeptTerm s nodes i k → IsTreeOver s (tree_at nodes i)
  kept_tree i k h = subst (λ (j : ℕ). IsTreeOver s (tree_at nodes j)) h.same (kept_over s lawful nodes k h.term h.kept)

  pub kept_value : (k : Kept) (table : Table) (v : VarId) (id : TermId) → IsKeptTerm s nodes id.0 k → k.kind ≡ kind_of s.hierarchy v.sort → IsSettled table id.0 →
      ((e : SortsOf) → entry_at table id.0 ≡ Some e → IsIn s.hierarchy e v.sort) → IsValueOf s nodes table (v, id)
  kept_value k table v id h kind settled has =
      let e = settled_entry (entry_at table id.0) settled in record {
        term = kept_term id.0 k h;
        kind = subst (λ (n : ℕ). IsBareIn (terms_over s) (reading (theory_at s) (tree_at nodes id.0)) n) kind (kept_kind id.0 k h);
        sort = record {
          number = id.0;
          there = (kept_term id.0 k h).within.there;
          tree = refl;
          entry = set_or_none (entry_at table id.0);
          at = e;
          has = has (set_or_none (entry_at table id.0)) e;
        };
      }

-- ---- conditions

a_sort : (s : SignatureOf) (r : ℕ) → r < s.hierarchy.sorts → IsSort s.hierarchy r
a_sort s r h = omega arith

asked_fragment : (s : SignatureOf) (x : Fragment) → IsLawfulFragment s x → is_rewriting x ≡ false → IsFragment s x
asked_fragment s (Equal t u) f e = ((f.kind, f.first), (f.kind, f.second))
asked_fragment s (Match t u) f e = ((f.kind, f.first), (f.kind, f.second))
asked_fragment s (Sort t r) f e = (f.0, a_sort s r f.1)
asked_fragment s (Reach t u) f e = absurd cc

-- the condition of an executable membership may be asked where the variables of its head have values
pub membership_askable : (s : SignatureOf) (m : Membership) → IsLawfulMembership s m → m.exec ≡ true → All (λ f. is_rewriting f ≡ false) m.cond → (xs : List Variable) → xs ≡ variables (tree_of m.left) → IsAskable s xs m.cond
membership_askable s m lawful exec plain xs same = subst (λ (ys : List Variable). IsAskable s ys m.cond) (sym same) (record {
  fragments = λ k d h. asked_fragment s (get_or m.cond k d) (lawful.parts.condition k d h) (plain k d h);
  bound = lawful.bound exec;
  apart = distinct (tree_of m.left) [] tt;
})

-- variables with values
pub bound_variables : (bound : List (VarId × TermId)) (xs : List VarId) → map (λ (b : VarId × TermId). b.0) bound ≡ xs → map (λ (b : VarId × TermId). variable_of b.0) bound ≡ map variable_of xs
bound_variables [] xs e = ap (map variable_of) e
bound_variables (b ∷ bound) [] e = absurd cc
bound_variables (b ∷ bound) (x ∷ xs) e =
    let one : b.0 ≡ x = cc in
    let rest : map (λ (c : VarId × TermId). c.0) bound ≡ xs = cc in
    ap₂ (λ (y : Variable) ys. y ∷ ys) (ap variable_of one) (bound_variables bound xs rest)

pub bound_askable : (s : SignatureOf) (bound : List (VarId × TermId)) (xs : List VarId) (cond : List Fragment) → map (λ (b : VarId × TermId). b.0) bound ≡ xs → IsAskable s (map variable_of xs) cond → IsAskable s (map (λ (b : VarId × TermId). variable_of b.0) bound) cond
bound_askable s bound xs cond e h = subst (λ (ys : List Variable). IsAskable s ys cond) (sym (bound_variables bound xs e)) h

-- ---- states

pub worked_on : {F G : Type 0} (s : SignatureOf) (first second third : Meanings) (old mid new : List Node) (some more : List (Option Kept)) → HasWorked s first second F old mid some → HasWorked s second third G mid new more → HasWorked s first third G old new more
worked_on s first second third old mid new some more h k = record {
  meanings = k.meanings ∙ h.meanings;
  fits = k.fits;
  extends = extension_is_preorder.transitive old mid new h.extends k.extends;
  kept = k.kept;
}

pub works_on : {F G : Type 0} (p : Program) (before after : Meanings) (old new : List Node) (some more : List (Option Kept)) → IsWorking p before F old some → HasWorked p.sig before after G old new more → IsWorking p after G new more
works_on p before after old new some more h k = record {
  program = ap (λ (m : Meanings). m.program) k.meanings ∙ h.program;
  fits = k.fits;
  kept = k.kept;
}

-- nothing was asked, and the store is the same
pub at_first : {F : Type 0} (p : Program) (m : Meanings) (nodes : List Node) (kept : List (Option Kept)) → IsWorking p m F nodes kept → HasWorked p.sig m m F nodes nodes kept
at_first p m nodes kept h = record {
  meanings = refl;
  fits = h.fits;
  extends = extension_is_preorder.reflexive nodes;
  kept = h.kept;
}

-- more is kept of the terms, and the evaluator stays
pub more_known : {F G : Type 0} (p : Program) (m : Meanings) (old new : List Node) (some more : List (Option Kept)) → IsWorking p m F old some → Extends old new → (F → G) → AreSomeKept p.sig new more → HasWorked p.sig m m G old new more
more_known p m old new some more h x grows kept = record {
  meanings = refl;
  fits = grows h.fits;
  extends = x;
  kept = kept;
}

-- the evaluator is asked, and no more is kept
pub asked_apart : {F G : Type 0} (p : Program) (before after : Meanings) (old new : List Node) (some : List (Option Kept)) → IsWorking p before F old some → after ≡ before → G → Extends old new → HasWorked p.sig before after G old new some
asked_apart p before after old new some h same fits x = record {
  meanings = same;
  fits = fits;
  extends = x;
  kept = some_grown p.sig old new x some h.kept;
}

-- an evaluator's program and signature
pub sig_of : {F : Type 0} (p : Program) (m : Meanings) (nodes : List Node) (kept : List (Option Kept)) → IsWorking p m F nodes kept → m.program.sig ≡ p.sig
sig_of p m nodes kept h = ap (λ (q : Program). q.sig) h.program

-- what is read at a place of a list of which all is known
pub read_all : {A : Type 0} (P : A → Type 0) (xs ys : List A) (i : ℕ) (x : A) → All P ys → true ≡ nat_lt i (length xs) → x ≡ get_or xs i x → xs ≡ ys → P x
read_all P xs ys i x all l at same = subst P (sym at) (subst (All P) (sym same) all i x (ltb-true i (length xs) (sym l)))
