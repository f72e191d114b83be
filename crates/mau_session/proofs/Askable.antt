-- The condition of a command that is read may be asked.
use Rattle.std.proofs.Common.{◌≡◌, ℕ, ◌<◌, List, [], ◌∷◌, ◌++◌, Bool, true, false, ◌||◌, All, None, get_or, refl, sym, ◌∙◌, ap, arith}
use Rattle.std.specs.List.{list_any}
use Rattle.std.proofs.lemmas.List.Elements.{All-nil, All-push}
use Rattle.mau_terms.specs.Tree.{Tree}
use Rattle.mau_terms.specs.Subst.{variables}
use Rattle.mau_terms.proofs.Variables.{distinct}
use Rattle.mau_signature.specs.Faults.{IsSort}
use Rattle.mau_signature.specs.Signature.{SignatureOf}
use Rattle.mau_modtext.specs.Word.{Word}
use Rattle.mau_modtext.specs.declared.raw.RawFragment.{RawFragment}
use Rattle.mau_program.specs.LawfulStatements.{IsLawfulFragment}
use Rattle.mau_program.specs.declared.statements.Fragment.{Fragment}
use Rattle.mau_program.specs.declared.statements.Fragment.TheVariants.{Equal, Match, Sort, Reach}
use Rattle.mau_api.specs.Answers.{IsFragment, IsAskable}
use Rattle.mau_statement.specs.Context.{ContextOf}
use Rattle.mau_statement.specs.Parts.{Pairs}
use Rattle.mau_statement.specs.Binding.{first_unbound}
use Rattle.mau_statement.specs.Conditions.{FragmentReads, equal_reads, match_reads, reach_reads, sort_reads, truth_reads, ConditionReads, none_read, one_more_reads}
use Rattle.mau_statement.proofs.Unbound.{none_unbound}
use Rattle.mau_session.specs.Commands.{is_rewriting, has_rewriting}

-- it is no t => u
abbrev IsPlain : Fragment → Type 0
IsPlain (Equal t u) = Unit {0}
IsPlain (Match t u) = Unit {0}
IsPlain (Sort t r) = Unit {0}
IsPlain (Reach t u) = ⊥

plain_or : (a b : Bool) → (a || b) ≡ false → (a ≡ false) × (b ≡ false)
plain_or true b e = absurd cc
plain_or false b e = (refl, e)

last_plain : (raws : List RawFragment) (raw : RawFragment) → has_rewriting (raws ++ raw ∷ []) ≡ false → (has_rewriting raws ≡ false) × (is_rewriting raw.kind ≡ false)
last_plain [] raw e = (refl, (plain_or (is_rewriting raw.kind) false e).0)
last_plain (r ∷ raws) raw e =
    let two = plain_or (is_rewriting r.kind) (has_rewriting (raws ++ raw ∷ [])) e in
    let rest = last_plain raws raw two.1 in
    (ap (λ b. b || has_rewriting raws) two.0 ∙ rest.0, rest.1)

module _ (ws : List Word) (c : ContextOf) where
  fragment_plain : (raw : RawFragment) (ns os : Pairs) (x : Fragment) → FragmentReads ws c raw ns os x → is_rewriting raw.kind ≡ false → IsPlain x
  fragment_plain raw ns os _ (equal_reads t u k p) e = tt
  fragment_plain raw ns os _ (match_reads q u k p) e = tt
  fragment_plain raw ns os _ (reach_reads t u k p) e = absurd (let f = sym (ap is_rewriting k) ∙ e in cc)
  fragment_plain raw ns os _ (sort_reads t sort k p n) e = tt
  fragment_plain raw ns os _ (truth_reads t truth kind k n l p) e = tt

  fragments_plain : (ns : Pairs) (raws : List RawFragment) (os : Pairs) (fs : List Fragment) → ConditionReads ws c ns raws os fs → has_rewriting raws ≡ false → All IsPlain fs
  fragments_plain ns _ _ _ none_read e = All-nil IsPlain
  fragments_plain ns _ _ _ (one_more_reads before middle read raw last x p q) e =
      let two = last_plain before raw e in
      All-push IsPlain read x (fragments_plain ns before middle read p two.0) (fragment_plain raw middle last x q two.1)

a_sort : (s : SignatureOf) (r : ℕ) → r < s.hierarchy.sorts → IsSort s.hierarchy r
a_sort s r h = omega arith

asked_fragment : (s : SignatureOf) (x : Fragment) → IsLawfulFragment s x → IsPlain x → IsFragment s x
asked_fragment s (Equal t u) f p = ((f.kind, f.first), (f.kind, f.second))
asked_fragment s (Match t u) f p = ((f.kind, f.first), (f.kind, f.second))
asked_fragment s (Sort t r) f p = (f.0, a_sort s r f.1)
asked_fragment s (Reach t u) f p = absurd p

pub condition_askable : (ws : List Word) (c : ContextOf) (s : SignatureOf) (p : Tree) (ns : Pairs) (raws : List RawFragment) (os : Pairs) (fs : List Fragment) → ConditionReads ws c ns raws os fs → has_rewriting raws ≡ false
    → All (IsLawfulFragment s) fs → first_unbound (variables p) fs ≡ None → IsAskable s (variables p) fs
condition_askable ws c s p ns raws os fs reads none lawful bound =
    let plain = fragments_plain ws c ns raws os fs reads none in
    record {
      fragments = λ k d h. asked_fragment s (get_or fs k d) (lawful k d h) (plain k d h);
      bound = none_unbound (variables p) fs bound;
      apart = distinct p [] tt;
    }
