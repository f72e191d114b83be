-- Conclusions as text.
use Rattle.std.proofs.Common.{◌≡◌, ℕ, List, [], ◌++◌, Option, Some, None, Result, Ok, Err, OnOk, refl, ap, ap₂, ◌∙◌, append_assoc}
use Rattle.mau_terms.specs.Tree.{Tree}
use Rattle.mau_terms.specs.declared.ids.TermId.{TermId}
use Rattle.mau_signature.specs.Signature.{theory_at}
use Rattle.mau_store.specs.Node.{Node}
use Rattle.mau_store.specs.Trees.{tree_at, StandsFor}
use Rattle.mau_print.specs.Printed.{Pairs}
use Rattle.mau_facts.specs.declared.document.Section.{Section}
use Rattle.mau_logic.specs.Says.{Says, leads, of_sort, says_nothing}
use Rattle.mau_check.specs.declared.check.Conclusion.{Conclusion}
use Rattle.mau_check.specs.Judged.{Concludes, IsConclusion}
use Rattle.mau_module.specs.Modules.{ModuleOf}
use Rattle.mau_module.specs.Lawful.{program_of}
use Rattle.mau_docheck.specs.Holes.{named}
use Rattle.mau_docheck.specs.Naming.{IsNamed}
use Rattle.mau_docheck.specs.Concluded.{named_norm, ends_line, leads_line, conclusion_by}

-- what holds of an answer without a value
pub on_ok_then : {A E : Type 0} (r : Result A E) (P Q : Type 0) → (P → Q) → OnOk r P → OnOk r Q
on_ok_then (Ok x) P Q f h = f h
on_ok_then (Err e) P Q f h = tt

-- five texts, one after another
pub five : (o a b c d e p q r s t : List ℕ) → p ≡ o ++ a → q ≡ p ++ b → r ≡ q ++ c → s ≡ r ++ d → t ≡ s ++ e → t ≡ o ++ ((((a ++ b) ++ c) ++ d) ++ e)
five o a b c d e p q r s t h i j k l =
    l ∙ ap (λ z. z ++ e) (k ∙ ap (λ z. z ++ d) (j ∙ ap (λ z. z ++ c) (i ∙ ap (λ z. z ++ b) h ∙ append_assoc o a b) ∙ append_assoc o (a ++ b) c) ∙ append_assoc o ((a ++ b) ++ c) d)
    ∙ append_assoc o (((a ++ b) ++ c) ++ d) e

-- two
pub two : (o a b p q : List ℕ) → p ≡ o ++ a → q ≡ p ++ b → q ≡ o ++ (a ++ b)
two o a b p q h i = i ∙ ap (λ z. z ++ b) h ∙ append_assoc o a b

-- a term whose holes are named is what is shown of the term that it stands for
pub named_end : (m : ModuleOf) (ns all : Pairs) (old new : List Node) (i : ℕ) (id : TermId) (t : Tree) → ns ≡ all → IsNamed ns new id (tree_at old i) → StandsFor (theory_at m.signature) old i t
    → tree_at new id.0 ≡ named_norm m all t
named_end m ns all old new i id t e h s = h.stands ∙ ap (named ns) s ∙ ap (λ xs. named_norm m xs t) e

pub ends_same : (m : ModuleOf) (ns all : Pairs) (a b t u : Tree) → ns ≡ all → a ≡ named_norm m all t → b ≡ named_norm m all u → ends_line m ns a b ≡ leads_line m all t u
ends_same m ns all a b t u e f g = ap (λ xs. ends_line m xs a b) e ∙ ap₂ (ends_line m all) f g

-- what a conclusion says
pub record Leading (m : ModuleOf) (x : Section) (ns : Pairs) (c : Conclusion) (s : Option Says) : Type 0 where
  pub from : Tree
  pub to : Tree
  pub concludes : Concludes (program_of m) x c from to
  pub line : conclusion_by m ns s ≡ leads_line m ns from to

pub leading : (m : ModuleOf) (x : Section) (ns : Pairs) (c : Conclusion) (s : Option Says) → IsConclusion (program_of m) x (Some c) s → Leading m x ns c s
leading m x ns c (Some (leads e t u)) h = record { from = t; to = u; concludes = h; line = refl }
leading m x ns c (Some (of_sort t r)) h = absurd h
leading m x ns c (Some says_nothing) h = absurd h
leading m x ns c None h = absurd h

pub nothing_concluded : (m : ModuleOf) (x : Section) (ns : Pairs) (s : Option Says) → IsConclusion (program_of m) x None s → conclusion_by m ns s ≡ []
nothing_concluded m x ns (Some (leads e t u)) h = absurd h
nothing_concluded m x ns (Some (of_sort t r)) h = refl
nothing_concluded m x ns (Some says_nothing) h = refl
nothing_concluded m x ns None h = refl
