-- What the last fact of a section concludes.
use Rattle.std.proofs.Common.{◌≡◌, ℕ, List, Bool, Option, Some, None, sym, subst}
use Rattle.mau_terms.specs.declared.ids.TermId.{TermId}
use Rattle.mau_signature.specs.Signature.{SignatureOf}
use Rattle.mau_store.specs.Node.{Node}
use Rattle.mau_program.specs.declared.program.Program.{Program}
use Rattle.mau_facts.specs.declared.document.Section.{Section}
use Rattle.mau_logic.specs.Says.{Says, leads, of_sort, says_nothing}
use Rattle.mau_logic.specs.Justified.{With}
use Rattle.mau_check.specs.declared.check.Conclusion.{Conclusion}
use Rattle.mau_check.specs.declared.kept.Kept.{Kept}
use Rattle.mau_check.specs.declared.said.Said.TheVariants.{Leads, Sorted}
use Rattle.mau_check.specs.Said.{IsSaid}
use Rattle.mau_check.specs.Judged.{section_variables, AreEndsOf, IsConclusion}

pub leads_end : (s : SignatureOf) (nodes : List Node) (e : Bool) (a b : Kept) (o : Option Says) → With o (IsSaid s nodes (Leads e a b)) → AreEndsOf s nodes (Some (a.id, b.id)) o
leads_end s nodes e a b None h = absurd h
leads_end s nodes e a b (Some (leads d t u)) h = (record { there = h.1.there; stands = h.1.stands }, record { there = h.2.there; stands = h.2.stands })
leads_end s nodes e a b (Some (of_sort t r)) h = h
leads_end s nodes e a b (Some says_nothing) h = h

pub sorted_end : (s : SignatureOf) (nodes : List Node) (a : Kept) (q : ℕ) (o : Option Says) → With o (IsSaid s nodes (Sorted a q)) → AreEndsOf s nodes None o
sorted_end s nodes a q None h = tt
sorted_end s nodes a q (Some (leads d t u)) h = h
sorted_end s nodes a q (Some (of_sort t r)) h = tt
sorted_end s nodes a q (Some says_nothing) h = tt

pub none_end : (s : SignatureOf) (nodes : List Node) (o : Option Says) → o ≡ None → AreEndsOf s nodes None o
none_end s nodes o e = subst (AreEndsOf s nodes None) (sym e) tt

pub concluded : (p : Program) (x : Section) (c : Conclusion) → c.variables ≡ section_variables p x → (o : Option Says) → AreEndsOf p.sig c.store (Some (c.from, c.to)) o → IsConclusion p x (Some c) o
concluded p x c v None h = h
concluded p x c v (Some (leads d t u)) h = record { variables = v; from = h.0; to = h.1 }
concluded p x c v (Some (of_sort t r)) h = h
concluded p x c v (Some says_nothing) h = h

pub nothing_concluded : (p : Program) (x : Section) (nodes : List Node) (o : Option Says) → AreEndsOf p.sig nodes None o → IsConclusion p x None o
nothing_concluded p x nodes None h = h
nothing_concluded p x nodes (Some (leads d t u)) h = h
nothing_concluded p x nodes (Some (of_sort t r)) h = h
nothing_concluded p x nodes (Some says_nothing) h = h
