-- What is entered of the prelude: the module of a table is one over those before it, where its signature was made and accepted.
use Rattle.std.proofs.Common.{◌≡◌, ◌<◌, ◌≤◌, List, [], ◌∷◌, ℕ, None, length, refl, sym, ap, subst}
use Rattle.std.specs.Prelude.{All, Result, Ok, Err, IfOk}
use Rattle.mau_poset.specs.Order.{Hierarchy, IsPoset}
use Rattle.mau_signature.specs.declared.decl.Decl.{Decl}
use Rattle.mau_signature.specs.Faults.{IsSort}
use Rattle.mau_signature.specs.Signature.{SignatureOf}
use Rattle.mau_grammar.specs.declared.aliases.Alias.{Alias}
use Rattle.mau_sigcheck.specs.Accepted.{IsAccepted}
use Rattle.mau_program.specs.BuiltIns.{HasTruth}
use Rattle.mau_prelude.specs.declared.module.PreludeModule.{PreludeModule}
use Rattle.mau_prelude.specs.declared.module.PreludeModule.TheVariants.{TruthValue, Truth, Bool, Nat}
use Rattle.mau_prelude.specs.Tables.{table_of}
use Rattle.mau_signing.specs.Signed.{SignatureRead, signature_over}
use Rattle.mau_signing.proofs.OneSignature.{signature_is}
use Rattle.mau_module.specs.Modules.{ModuleOf}
use Rattle.mau_module.specs.Library.{truth_value, truth, bool}
use Rattle.mau_module.specs.Libraries.{IsLibrary, IsNext}
use Rattle.mau_module.specs.Known.{AreKnown}
use Rattle.mau_module.specs.Framed.{Frame}
use Rattle.mau_module.specs.declared.TheConstants.{MAX_DEPTH}
use Rattle.mau_module.specs.Declarations.{hierarchy_over, given_over}
use Rattle.mau_module.specs.Carried.{carried}
use Rattle.mau_module.specs.Stated.{AreLawful}
use Rattle.mau_module.specs.Prelude.{table_frame, with_table}
use Rattle.mau_module.specs.Made.{IsRightOver, IsSignedOver}
use Rattle.mau_module.specs.Ready.{module_of, IsSignable, IsReady}
use Rattle.mau_module.proofs.Framing.{frame_closed}
use Rattle.mau_module.proofs.Flattening.{parts_are_next}
use Rattle.mau_module.proofs.TextMade.{read_right}
use Rattle.mau_module.proofs.PreludeFacts.{ms1, ms2, ms3}
use Rattle.mau_module.proofs.PreludeReady.{truth_value_ready, truth_ready, bool_ready, nat_ready}

-- a signature that is read is right
pub right_as : (ms : List ModuleOf) (names : List (List ℕ)) (parts : List ℕ) (h : Hierarchy) (ds : List Decl) (s : SignatureOf) → SignatureRead names (given_over ms parts names h ds) None (Ok s)
    → IsPoset s.hierarchy × IsAccepted s
right_as ms names parts h ds s r =
    let g = given_over ms parts names h ds in
    let p = read_right names g None r in
    let e = signature_is names g None r in
    (subst IsPoset (sym (ap (λ (x : SignatureOf). x.hierarchy) e)) p.0, subst IsAccepted (sym e) p.1)

-- what is right of a module is right of what is given
pub right_given : {E : Type 0} (ms : List ModuleOf) (parts : List ℕ) (r : Result ModuleOf E) (x : ModuleOf) → IfOk r (λ m. m ≡ x) → IsRightOver ms x parts → IfOk r (λ m. IsRightOver ms m parts)
right_given ms parts (Ok m) x e right = subst (λ y. IsRightOver ms y parts) (sym e) right
right_given ms parts (Err f) x e right = e

module _ (ms : List ModuleOf) (imports : List ℕ) (p : PreludeModule) (lib : IsLibrary ms) (ready : IsReady ms imports p) (within : All (λ i. i < length ms) imports) where
  abbrev f : Frame
  f = table_frame ms imports (table_of p)

  abbrev it : ModuleOf
  it = module_of ms imports p

  signed_over : All (λ q. q < length ms) f.parts → AreKnown ms f.names f.parts → IsRightOver ms it f.parts → IsSignedOver ms it f.parts
  signed_over parts known right = record {
    closed = frame_closed ms lib.made imports f.names within parts known;
    parts = refl;
    signature = refl;
    made = right.made;
    poset = right.poset;
    accepted = right.accepted;
    over = right.over;
    statements = refl;
    tops = right.tops;
  }

  next_by : (g : Frame) → g ≡ f → All (λ q. q < length ms) g.parts → AreKnown ms g.names g.parts → (m : ModuleOf) → m ≡ it → IsRightOver ms m g.parts → IsNext ms m
  next_by g e parts known m is right =
      let here : All (λ q. q < length ms) f.parts = subst (λ (x : Frame). All (λ q. q < length ms) x.parts) e parts in
      let known_here : AreKnown ms f.names f.parts = subst (λ (x : Frame). AreKnown ms x.names x.parts) e known in
      let right_here : IsRightOver ms it f.parts = subst (λ x. IsRightOver ms x f.parts) is (subst (λ (x : Frame). IsRightOver ms m x.parts) e right) in
      subst (IsNext ms) (sym is) (record {
        parts = parts_are_next ms f.parts here;
        made = ready.made lib.made (signed_over here known_here right_here);
      })

  pub table_next : {E : Type 0} (r : Result ModuleOf E) (g : Frame) → g ≡ f → All (λ q. q < length ms) g.parts → AreKnown ms g.names g.parts → IfOk r (λ m. m ≡ it)
      → IfOk r (λ m. IsRightOver ms m g.parts) → IfOk r (IsNext ms)
  table_next (Ok m) g e parts known is right = next_by g e parts known m is right
  table_next (Err x) g e parts known is right = is

  -- ---- as it is made of the table

  module _ (g : Frame) (e : g ≡ f) (ps : List (ℕ × ℕ)) (pe : ps ≡ (table_of p).pairs) (ds : List Decl) (de : ds ≡ (table_of p).declarations) where
    pub depth_so : g.depth ≤ MAX_DEPTH
    depth_so = subst (λ (x : Frame). x.depth ≤ MAX_DEPTH) (sym e) ready.shallow

    pub signable_so : IsSignable ms g.parts g.names ps ds
    signable_so =
        subst (λ (x : Frame). IsSignable ms x.parts x.names ps ds) (sym e)
        (subst (λ qs. IsSignable ms f.parts f.names qs ds) (sym pe) (subst (IsSignable ms f.parts f.names (table_of p).pairs) (sym de) ready.signable))

    pub variables_so : (vs : List Alias) → vs ≡ (table_of p).variables → All (λ (a : Alias). IsSort (hierarchy_over ms g.parts g.names ps) a.sort) vs
    variables_so vs ve =
        subst (λ (x : Frame). All (λ (a : Alias). IsSort (hierarchy_over ms x.parts x.names ps) a.sort) vs) (sym e)
        (subst (λ qs. All (λ (a : Alias). IsSort (hierarchy_over ms f.parts f.names qs) a.sort) vs) (sym pe)
        (subst (All (λ (a : Alias). IsSort (hierarchy_over ms f.parts f.names (table_of p).pairs) a.sort)) (sym ve) ready.variables))

    abbrev signature_by : Frame → List (ℕ × ℕ) → List Decl → SignatureOf
    signature_by x qs xs = signature_over (given_over ms x.parts x.names (hierarchy_over ms x.parts x.names qs) xs)

    pub tops_so : All (λ q. q < length ms) g.parts → AreKnown ms g.names g.parts
        → AreLawful (signature_over (given_over ms g.parts g.names (hierarchy_over ms g.parts g.names ps) ds)) (carried ms g.names (signature_over (given_over ms g.parts g.names (hierarchy_over ms g.parts g.names ps) ds)) g.parts)
    tops_so parts known =
        let here : All (λ q. q < length ms) f.parts = subst (λ (x : Frame). All (λ q. q < length ms) x.parts) e parts in
        let known_here : AreKnown ms f.names f.parts = subst (λ (x : Frame). AreKnown ms x.names x.parts) e known in
        let t = ready.tops lib.made (frame_closed ms lib.made imports f.names within here known_here) in
        subst (λ (x : Frame). AreLawful (signature_by x ps ds) (carried ms x.names (signature_by x ps ds) x.parts)) (sym e)
        (subst (λ qs. AreLawful (signature_by f qs ds) (carried ms f.names (signature_by f qs ds) f.parts)) (sym pe)
        (subst (λ xs. AreLawful (signature_by f (table_of p).pairs xs) (carried ms f.names (signature_by f (table_of p).pairs xs) f.parts)) (sym de) t))

    pub truth_so : All (λ q. q < length ms) g.parts → AreKnown ms g.names g.parts → HasTruth g.names (signature_over (given_over ms g.parts g.names (hierarchy_over ms g.parts g.names ps) ds))
    truth_so parts known =
        let here : All (λ q. q < length ms) f.parts = subst (λ (x : Frame). All (λ q. q < length ms) x.parts) e parts in
        let known_here : AreKnown ms f.names f.parts = subst (λ (x : Frame). AreKnown ms x.names x.parts) e known in
        let t = ready.truth lib.made (frame_closed ms lib.made imports f.names within here known_here) in
        subst (λ (x : Frame). HasTruth x.names (signature_by x ps ds)) (sym e)
        (subst (λ qs. HasTruth f.names (signature_by f qs ds)) (sym pe) (subst (λ xs. HasTruth f.names (signature_by f (table_of p).pairs xs)) (sym de) t))

-- ---- the four modules

pub ready_first : (ms : List ModuleOf) → ms ≡ [] → IsReady ms [] TruthValue
ready_first ms e = subst (λ xs. IsReady xs [] TruthValue) (sym e) truth_value_ready

pub ready_second : (ms : List ModuleOf) → ms ≡ with_table [] [] TruthValue → IsReady ms (truth_value ∷ []) Truth
unfolding ms1
ready_second ms e = subst (λ xs. IsReady xs (truth_value ∷ []) Truth) (sym e) truth_ready

pub ready_third : (ms : List ModuleOf) → ms ≡ with_table (with_table [] [] TruthValue) (truth_value ∷ []) Truth → IsReady ms (truth ∷ []) Bool
unfolding ms1 ms2
ready_third ms e = subst (λ xs. IsReady xs (truth ∷ []) Bool) (sym e) bool_ready

pub ready_fourth : (ms : List ModuleOf) → ms ≡ with_table (with_table (with_table [] [] TruthValue) (truth_value ∷ []) Truth) (truth ∷ []) Bool → IsReady ms (bool ∷ []) Nat
unfolding ms1 ms2 ms3
ready_fourth ms e = subst (λ xs. IsReady xs (bool ∷ []) Nat) (sym e) nat_ready
