-- The module of a text is one over those of the library.
use Rattle.std.proofs.Common.{◌≡◌, ◌<◌, ◌≤◌, ℕ, suc, List, [], ◌∷◌, Bool, true, false, cond, Option, Some, None, length, refl, sym, ◌∙◌, ap, ap₂, subst, arith}
use Rattle.std.specs.Prelude.{All, Ok, IfSome, bytes_eq}
use Rattle.std.proofs.lemmas.List.Elements.{All-cons, All-nil}
use Rattle.mau_poset.specs.Order.{IsPoset}
use Rattle.mau_terms.specs.Finite.{IsIn}
use Rattle.mau_signature.specs.declared.decl.Decl.{Decl}
use Rattle.mau_signature.specs.Faults.{Given}
use Rattle.mau_signature.specs.Made.{IsSignature}
use Rattle.mau_signature.specs.Signature.{SignatureOf}
use Rattle.mau_sigcheck.specs.Accepted.{IsAccepted}
use Rattle.mau_sigcheck.specs.Built.{IsBuiltAndAccepted}
use Rattle.mau_program.specs.BuiltIns.{HasTruth}
use Rattle.mau_program.proofs.WellDeclared.{built_and_accepted}
use Rattle.mau_grammar.specs.Grammar.{GrammarOf}
use Rattle.mau_modtext.specs.Word.{Word}
use Rattle.mau_modtext.specs.declared.raw.RawModule.{RawModule}
use Rattle.mau_declare.specs.Elements.{Elements}
use Rattle.mau_declare.specs.Imports.{imports}
use Rattle.mau_signing.specs.Signed.{SignatureRead, signature_read, signature_over}
use Rattle.mau_signing.proofs.OneSignature.{signature_is}
use Rattle.mau_module.specs.Modules.{ModuleOf, StatementsOf, and_more}
use Rattle.mau_module.specs.Behind.{behind}
use Rattle.mau_module.specs.declared.statements.Counts.{Counts}
use Rattle.mau_module.specs.Library.{bool, next_or, last_named}
use Rattle.mau_module.specs.Libraries.{IsNext}
use Rattle.mau_module.specs.Numbering.{or_zero}
use Rattle.mau_module.specs.Included.{numbers_of, numeral_kind, numerals_of, parts_of}
use Rattle.mau_module.specs.Known.{AreKnown}
use Rattle.mau_module.specs.Kept.{IsOver}
use Rattle.mau_module.specs.Framed.{Frame, all_parts, imported, frame_of}
use Rattle.mau_module.specs.Declarations.{given_over}
use Rattle.mau_module.specs.Flattened.{IsSigned, hierarchy_in, own_in, given_in, carried_in}
use Rattle.mau_module.specs.Gathered.{AreStatements}
use Rattle.mau_module.specs.Made.{AreLawfulOver, AreMade, IsClosed, IsSignedOver}
use Rattle.mau_module.proofs.Framing.{frame_closed, truth_included}
use Rattle.mau_module.proofs.Plain.{declared_plain}
use Rattle.mau_module.proofs.Flattening.{behind_parts, made, parts_are_next}
use Rattle.mau_module.proofs.BuiltAgain.{truth_there}
use Rattle.mau_module.proofs.MadeOver.{text_made}

-- ---- the numbers of imports

last_lt : (ms : List ModuleOf) (x : List ℕ) → IfSome (last_named ms x) (λ i. i < length ms)
last_lt [] x = tt
last_lt (m ∷ ms) x = by (last_named ms x) (last_lt ms x)
  where
    here : (b : Bool) → IfSome (cond b (Some 0) None) (λ i. i < suc (length ms))
    here true = omega arith
    here false = tt

    by : (o : Option ℕ) → IfSome o (λ i. i < length ms) → IfSome (next_or o (cond (bytes_eq m.name x) (Some 0) None)) (λ i. i < suc (length ms))
    by (Some i) l = omega (arith, l)
    by None l = here (bytes_eq m.name x)

number_lt : (ms : List ModuleOf) (x : List ℕ) → 4 ≤ length ms → or_zero (last_named ms x) < length ms
number_lt ms x far = by (last_named ms x) (last_lt ms x)
  where
    by : (o : Option ℕ) → IfSome o (λ i. i < length ms) → or_zero o < length ms
    by (Some i) l = l
    by None l = omega arith

numbers_lt : (ms : List ModuleOf) (xs : List (List ℕ)) → 4 ≤ length ms → All (λ i. i < length ms) (numbers_of ms xs)
numbers_lt ms [] far = All-nil (λ i. i < length ms)
numbers_lt ms (x ∷ xs) far = All-cons (λ i. i < length ms) (or_zero (last_named ms x)) (numbers_of ms xs) (number_lt ms x far) (numbers_lt ms xs far)

-- ---- what a signature that is read is

-- what a module of a text includes is closed
pub text_closed : (ms : List ModuleOf) (ws : List Word) (raw : RawModule) (f : Frame) → f ≡ frame_of ms ws raw → AreMade ms → 4 ≤ length ms → All (λ p. p < length ms) f.parts
    → AreKnown ms f.names f.parts → IsClosed ms f.names f.parts
text_closed ms ws raw f q made far within known =
    let is : f.parts ≡ parts_of ms (bool ∷ imported ms ws raw) = ap (λ (x : Frame). x.parts) q in
    let lt = All-cons (λ i. i < length ms) bool (imported ms ws raw) (omega arith) (numbers_lt ms (imports ws raw.elements) far) in
    subst (λ ps. IsClosed ms f.names ps) (sym is)
    (frame_closed ms made (bool ∷ imported ms ws raw) f.names lt (subst (All (λ p. p < length ms)) is within) (subst (AreKnown ms f.names) is known))

pub read_right : (names : List (List ℕ)) (g : Given) (c : Option ℕ) {s : SignatureOf} → SignatureRead names g c (Ok s) → IsPoset g.hierarchy × IsAccepted (signature_over g)
read_right names g c (signature_read p w n a l) = (p, a)

-- ---- the module

module _ (ms : List ModuleOf) (ws : List Word) (raw : RawModule) (f : Frame) (q : f ≡ frame_of ms ws raw) (e : Elements) (s : SignatureOf) (signed : IsSigned ms ws raw e s)
    (within : All (λ p. p < length ms) f.parts) (known : AreKnown ms f.names f.parts) (is_signature : IsSignature s) where
  abbrev all_imports : List ℕ
  all_imports = imported ms ws raw

  parts_are : f.parts ≡ parts_of ms (bool ∷ all_imports)
  parts_are = ap (λ (x : Frame). x.parts) q

  signature_so : s ≡ signature_over (given_in ms f e)
  signature_so =
      signature_is (frame_of ms ws raw).names (given_in ms (frame_of ms ws raw) e) (Rattle.mau_module.specs.Flattened.conflict_in ms (frame_of ms ws raw) e) signed.signature
      ∙ ap (λ (x : Frame). signature_over (given_in ms x e)) (sym q)

  right : IsPoset (hierarchy_in ms f e) × IsAccepted s
  right =
      let r = read_right (frame_of ms ws raw).names (given_in ms (frame_of ms ws raw) e) (Rattle.mau_module.specs.Flattened.conflict_in ms (frame_of ms ws raw) e) signed.signature in
      let p = subst (λ (x : Frame). IsPoset (hierarchy_in ms x e) × IsAccepted (signature_over (given_in ms x e))) (sym q) r in
      (p.0, subst IsAccepted (sym signature_so) p.1)

  text_frame : 4 ≤ length ms → AreMade ms → IsClosed ms f.names f.parts
  text_frame far all_made = text_closed ms ws raw f q all_made far within known

  -- truth values are there
  pub text_truth : 4 ≤ length ms → AreMade ms → HasTruth f.names s
  text_truth far all_made =
      let poset = subst IsPoset (sym (ap (λ (x : SignatureOf). x.hierarchy) signature_so)) right.0 in
      let accepted = subst IsBuiltAndAccepted signature_so (built_and_accepted s is_signature poset right.1) in
      subst (HasTruth f.names) (sym signature_so)
      (truth_there ms f.names f.parts all_made (text_frame far all_made) e.pairs (own_in ms f e) accepted (subst (IsIn 0) (sym parts_are) (truth_included ms all_made all_imports (omega arith))))

  module _ (g : GrammarOf) (decls : List Decl) (n : Counts) (all : StatementsOf) (declared : decls ≡ own_in ms f e) (over : IsOver s e.pairs decls) (are : AreStatements ms ws raw f e s n all) where
    abbrev it : ModuleOf
    it = made ms ws raw f q e s signed f g decls all (behind n all)

    its_own : behind n all ≡ are.own
    its_own = ap₂ behind are.counted are.whole ∙ behind_parts (carried_in ms f s) are.own

    making : 4 ≤ length ms → AreMade ms → IsSignedOver ms it f.parts
    making far all_made = record {
      closed = text_frame far all_made;
      parts = refl;
      signature = signature_so ∙ ap (λ ds. signature_over (given_over ms f.parts f.names (hierarchy_in ms f e) ds)) (sym declared);
      made = is_signature;
      poset = subst IsPoset (sym (ap (λ (x : SignatureOf). x.hierarchy) signature_so)) right.0;
      accepted = right.1;
      over = over;
      statements = are.whole ∙ ap (and_more (carried_in ms f s)) (sym its_own);
      tops = are.lawful;
    }

    plain : (d : Decl) → IsIn d decls → d.attrs.builtin ≡ None
    plain d i =
        declared_plain ws (frame_of ms ws raw).names raw.elements e signed.elements (hierarchy_in ms f e) (numeral_kind (hierarchy_in ms f e) (numerals_of f.names (all_parts ms f.parts))) d
        (subst (IsIn d) declared i)

    pub text_next : 4 ≤ length ms → AreMade ms → (m : ModuleOf) → m ≡ it → IsNext ms m
    text_next far all_made m is =
        subst (IsNext ms) (sym is) (record {
          parts = parts_are_next ms f.parts within;
          made = text_made ms it f.parts all_made (making far all_made) (subst (AreLawfulOver s) (sym its_own) are.its) far (subst (IsIn 0) (sym parts_are) (truth_included ms all_made all_imports (omega arith))) plain;
        })
