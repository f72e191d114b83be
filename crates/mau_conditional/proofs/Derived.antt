-- By an evaluator's table, where the subject is settled, just those are solutions whose values have their derived sorts.
use Rattle.std.proofs.Common.{◌≡◌, ℕ, List, Bool, true, Option, Some, None, refl, sym, ap, ◌∙◌, subst}
use Rattle.mau_terms.specs.Tree.{Tree}
use Rattle.mau_terms.specs.Bare.{IsBareIn}
use Rattle.mau_terms.specs.Reading.{reading}
use Rattle.mau_terms.specs.Finite.{IsIn}
use Rattle.mau_signature.specs.Signature.{SignatureOf, theory_at, terms_over}
use Rattle.mau_sigcheck.specs.Built.{IsBuiltAndAccepted}
use Rattle.mau_formula.specs.Operator.{Operator}
use Rattle.mau_store.specs.Node.{Node}
use Rattle.mau_store.specs.Trees.{tree_at}
use Rattle.mau_sorts.specs.HasSort.{Known, HasSort}
use Rattle.mau_sorts.specs.Table.{Table}
use Rattle.mau_listing.specs.Matcher.{Matcher}
use Rattle.std.specs.Option.{option_map}
use Rattle.mau_listing.specs.declared.solution.Solution as Declared
use Rattle.mau_listing.specs.Next.{matcher_cmp, IsNext}
use Rattle.mau_listing.specs.Question.{Question, IsSolution}
use Rattle.mau_listing.specs.Asked.{Asked, question_in, matcher_in, BySort, HasEntry, IsTableOf}
use Rattle.std.specs.declared.cmp.Ordering.{Ordering}
use Rattle.mau_program.specs.declared.program.Program as Typed
use Rattle.mau_evaluation.specs.Program.{Program}
use Rattle.mau_evaluation.specs.Listing.{Solution, solutions_within}
use Rattle.mau_evaluation.specs.Evaluation.{has_number}
use Rattle.mau_evaluation.specs.HasSort.{HasHeads}
use Rattle.mau_evaluation.proofs.Stay.{values_are_one}
use Rattle.mau_api.specs.Programs.{program_over}
use Rattle.mau_api.specs.Terms.{IsNormalBare}
use Rattle.mau_api.specs.Meanings.{Meanings, meanings_by, program_of}
use Rattle.mau_api.specs.Answers.{IsDerivedTable, AreSettled}
use Rattle.mau_api.proofs.KnownSorts.{values_are_known}
use Rattle.mau_conditional.specs.Meant.{HasDerivedSort}
use Rattle.mau_conditional.specs.NextWhere.{GoesByProgram, IsReadyFor}
use Rattle.mau_conditional.proofs.Resorted.{resorted}

-- of the solutions of a question those by what is known besides declarations, of which the table is one, are those by derived sorts
pub record AreDerived (m : Meanings) (nodes : List Node) (table : Table) (w : Bool) (u : Question) : Type 0 where
  pub known : Known
  pub is_table : IsTableOf m.program.sig known nodes table
  pub to : (x : Matcher) → IsSolution w m.program.sig (BySort m.program.sig known) u x → IsSolution w m.program.sig (HasDerivedSort m) u x
  pub from : (x : Matcher) → IsSolution w m.program.sig (HasDerivedSort m) u x → IsSolution w m.program.sig (BySort m.program.sig known) u x

module _ (p : Typed.Program) (hooks : List Operator) (limit : ℕ) (remembers : Bool) (heads : HasHeads (program_over p hooks)) (accepted : IsBuiltAndAccepted p.sig)
    (nodes : List Node) (table : Table) (derived : IsDerivedTable (meanings_by p hooks limit remembers) nodes table)
    (u : Question) (normal : IsNormalBare p.sig u.subject) (settled : AreSettled p.sig nodes table u.subject) where
  abbrev m : Meanings
  m = meanings_by p hooks limit remembers

  sort_to : (x : Solution) → IsIn x (solutions_within (terms_over p.sig) u.pattern u.subject) → (v : Tree) → IsIn v x.values → (r : ℕ) → HasSort p.sig derived.known v r → HasDerivedSort (meanings_by p hooks limit remembers) r v
  sort_to x i v j r h =
      let own = values_are_known p hooks limit remembers heads accepted nodes table derived u.subject normal settled u.pattern x i v j in
      record { levels = own.levels; sorts = own.sorts; known = own.known_at; has = (own.exact r).1 h }

  sort_from : (x : Solution) → IsIn x (solutions_within (terms_over p.sig) u.pattern u.subject) → (v : Tree) → IsIn v x.values → (r : ℕ) → HasDerivedSort (meanings_by p hooks limit remembers) r v → HasSort p.sig derived.known v r
  sort_from x i v j r h =
      let own = values_are_known p hooks limit remembers heads accepted nodes table derived u.subject normal settled u.pattern x i v j in
      let one = values_are_one.2 (program_over p hooks) v h.sorts own.sorts 0 0 (record { level = h.levels; each = limit; budget = 0; left = 0; comes = h.known 0 })
      (record { level = own.levels; each = limit; budget = 0; left = 0; comes = own.known_at 0 }) in
      (own.exact r).0 (subst (λ ss. has_number ss r ≡ true) one.0 h.has)

  are_derived_by : (w : Bool) → AreDerived (meanings_by p hooks limit remembers) nodes table w u
  are_derived_by w = record {
    known = derived.known;
    is_table = derived.declared;
    to = resorted p.sig (BySort p.sig derived.known) (HasDerivedSort m) heads.signature u normal.0 normal.1 sort_to w;
    from = resorted p.sig (HasDerivedSort m) (BySort p.sig derived.known) heads.signature u normal.0 normal.1 sort_from w;
  }

module _ (m : Meanings) (goes : GoesByProgram m) (nodes : List Node) (table : Table) where
  pub are_derived : IsDerivedTable m nodes table → (u : Question) → IsNormalBare m.program.sig u.subject → AreSettled m.program.sig nodes table u.subject → (w : Bool) → AreDerived m nodes table w u
  are_derived derived u normal settled w =
      subst (λ (n : Meanings). IsDerivedTable n nodes table → IsNormalBare n.program.sig u.subject → AreSettled n.program.sig nodes table u.subject → AreDerived n nodes table w u) (sym goes.defined)
      (λ d n s. are_derived_by m.program m.hooks m.limit m.remembers goes.heads goes.accepted nodes table d u n s w) derived normal settled

  -- an entry has derived sorts
  pub entry_derived : IsDerivedTable m nodes table → (r : ℕ) (v : Tree) → IsNormalBare m.program.sig v → HasEntry m.program.sig nodes table r v → HasDerivedSort m r v
  entry_derived derived r v normal h =
      let e = derived.entries h.number h.entry h.at (subst (IsNormalBare m.program.sig) (sym h.tree) normal) in
      subst (HasDerivedSort m r) h.tree (record { levels = e.levels; sorts = e.sorts; known = e.known; has = (e.exact r).0 h.has })

  -- so a value that a listing gave is of the kind of its sort
  pub entry_kind : IsDerivedTable m nodes table → (r k : ℕ) (v : Tree) → IsNormalBare m.program.sig v → IsBareIn (terms_over m.program.sig) (reading (theory_at m.program.sig) v) k → HasEntry m.program.sig nodes table r v →
      IsBareIn (terms_over m.program.sig) (reading (theory_at m.program.sig) v) ((terms_over m.program.sig).kind_of r)
  entry_kind derived r k v normal bare h =
      subst (IsBareIn (terms_over m.program.sig) (reading (theory_at m.program.sig) v)) (sym (goes.kinds v r k normal (entry_derived derived r v normal h) bare)) bare

-- ---- what comes next

module _ (Is Are : Matcher → Type 0) (to : (x : Matcher) → Is x → Are x) (from : (x : Matcher) → Are x → Is x) (cmp : Matcher → Matcher → Ordering) (last : Option Matcher) where
  next_so : (o : Option Matcher) → IsNext Is cmp last o → IsNext Are cmp last o
  next_so None n = λ x is behind. n x (from x is) behind
  next_so (Some x) n = record { is_one = to x n.is_one; behind = n.behind; least = λ y is behind. n.least y (from y is) behind }

-- what an evaluator lists, by the sorts that it has settled, is the next one by derived sorts
module _ (m : Meanings) (goes : GoesByProgram m) (s : SignatureOf) (es : s ≡ m.program.sig) (nodes : List Node) (table : Table) (derived : IsDerivedTable m nodes table)
    (w : Bool) (a : Asked) (given : Option Declared.Solution) (ready : IsReadyFor w s nodes table a given) (o : Option Matcher) where
  pub listed_derived :
      ((known : Known) → IsTableOf m.program.sig known nodes table →
      IsNext (IsSolution w m.program.sig (BySort m.program.sig known) (question_in nodes a)) (matcher_cmp (theory_at m.program.sig) a.pattern) (option_map (matcher_in nodes) given) o) →
      IsNext (IsSolution w s (HasDerivedSort m) (question_in nodes a)) (matcher_cmp (theory_at s) a.pattern) (option_map (matcher_in nodes) given) o
  listed_derived h =
      let r = m.program.sig in
      let u = question_in nodes a in
      let last = option_map (matcher_in nodes) given in
      let normal : IsNormalBare r u.subject = subst (λ (z : SignatureOf). IsNormalBare z u.subject) es (ready.can.askable.subject.normal, ready.can.askable.bare) in
      let settled = subst (λ (z : SignatureOf). AreSettled z nodes table u.subject) es ready.settled in
      let d = are_derived m goes nodes table derived u normal settled w in
      let next = next_so (IsSolution w r (BySort r d.known) u) (IsSolution w r (HasDerivedSort m) u) d.to d.from (matcher_cmp (theory_at r) a.pattern) last o (h d.known d.is_table) in
      subst (λ (z : SignatureOf). IsNext (IsSolution w z (HasDerivedSort m) u) (matcher_cmp (theory_at z) a.pattern) last o) (sym es) next
