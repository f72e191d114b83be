-- What a module of a text is not, for each fault that is found in turn.
use Rattle.std.proofs.Common.{◌≡◌, ◌<◌, ◌≤◌, ℕ, List, Some, None, sym, ap, subst, ◌∙◌}
use Rattle.std.specs.Prelude.{Ok, Err}
use Rattle.mau_modtext.specs.Word.{Word}
use Rattle.mau_modtext.specs.declared.raw.RawModule.{RawModule}
use Rattle.mau_declare.specs.Imports.{imports}
use Rattle.mau_declare.specs.Elements.{Elements, elements_of}
use Rattle.mau_signing.specs.Signed.{SignatureRead}
use Rattle.mau_module.specs.declared.fault.Limit.{Limit}
use Rattle.mau_module.specs.declared.fault.ModuleFault.{ModuleFault}
use Rattle.mau_module.specs.declared.fault.ModuleFault.TheVariants.{UnknownModule, ImportTooDeep, TooLarge, UnknownSort, Signed, Statement, Strategy, NoMemory}
use Rattle.mau_module.specs.Faults.{IfFault, IfSigned}
use Rattle.mau_module.specs.declared.TheConstants.{MAX_DEPTH}
use Rattle.mau_module.specs.Modules.{ModuleOf}
use Rattle.mau_module.specs.Included.{first_unknown}
use Rattle.mau_module.specs.Framed.{Frame, frame_of, limit_passed}
use Rattle.mau_module.specs.Flattened.{FlattenedAs, IsFramed, given_in, conflict_in, module_unknown, import_too_deep, too_large, sort_unknown, not_signed}

module _ (ms : List ModuleOf) (ws : List Word) (raw : RawModule) where
  pub not_known : (f : ModuleFault) → (name : List ℕ) × (f ≡ UnknownModule name) × (first_unknown ms (imports ws raw.elements) ≡ Some name) → FlattenedAs ms ws raw (Err f)
  not_known f w = subst (λ x. FlattenedAs ms ws raw (Err x)) (sym w.1) (module_unknown w.0 w.2)

  module _ (f : Frame) (q : f ≡ frame_of ms ws raw) where
    pub deep : first_unknown ms (imports ws raw.elements) ≡ None → MAX_DEPTH < f.depth → FlattenedAs ms ws raw (Err ImportTooDeep)
    deep known l = import_too_deep known (subst (λ (x : Frame). MAX_DEPTH < x.depth) q l)

    pub large : (limit : Limit) → first_unknown ms (imports ws raw.elements) ≡ None → f.depth ≤ MAX_DEPTH → limit_passed ms f raw ≡ Some limit → FlattenedAs ms ws raw (Err (TooLarge limit))
    large limit known l p = too_large limit known (subst (λ (x : Frame). x.depth ≤ MAX_DEPTH) q l) (ap (λ x. limit_passed ms x raw) (sym q) ∙ p)

    pub no_sort : (at : ℕ) → IsFramed ms ws raw → elements_of ws f.names raw.elements ≡ Err at → FlattenedAs ms ws raw (Err (UnknownSort at))
    no_sort at framed p = sort_unknown at framed (ap (λ (x : Frame). elements_of ws x.names raw.elements) (sym q) ∙ p)

    -- sorts, declarations or operators at fault
    pub no_signature : (e : Elements) → IsFramed ms ws raw → elements_of ws f.names raw.elements ≡ Ok e → (g : ModuleFault)
        → IfSigned g (λ t. SignatureRead f.names (given_in ms f e) (conflict_in ms f e) (Err t)) → IfFault (λ x. FlattenedAs ms ws raw (Err x)) g
    no_signature e framed p (Signed t) w =
        not_signed e t framed (ap (λ (x : Frame). elements_of ws x.names raw.elements) (sym q) ∙ p)
        (subst (λ (x : Frame). SignatureRead x.names (given_in ms x e) (conflict_in ms x e) (Err t)) q w)
    no_signature e framed p NoMemory w = w
    no_signature e framed p (UnknownModule name) w = absurd w
    no_signature e framed p ImportTooDeep w = absurd w
    no_signature e framed p (TooLarge limit) w = absurd w
    no_signature e framed p (UnknownSort at) w = absurd w
    no_signature e framed p (Statement i x) w = absurd w
    no_signature e framed p (Strategy i x) w = absurd w
