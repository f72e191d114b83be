-- Imports of elements that are read one after another.
use Rattle.std.proofs.Common.{◌≡◌, ℕ, ◌+◌, ◌<◌, List, [], ◌∷◌, ◌++◌, Some, None, length, get_or, take, drop, refl, sym, ap, ◌∙◌, add-one}
use Rattle.std.specs.Option.{option_or}
use Rattle.std.specs.List.{filter_map}
use Rattle.std.proofs.Math.Seq.{take-suc}
use Rattle.std.proofs.lemmas.List.{map-append, append-nil, take-append-drop}
use Rattle.std.proofs.lemmas.List.Elements.{filter_map-append}
use Rattle.std.proofs.lemmas.List.Folds.{find-append}
use Rattle.mau_modtext.specs.Word.{Word}
use Rattle.mau_modtext.specs.declared.raw.RawElement.{RawElement}
use Rattle.mau_declare.specs.Imports.{import_of, imports}
use Rattle.mau_module.specs.Modules.{ModuleOf}
use Rattle.mau_module.specs.Library.{last_named}
use Rattle.mau_module.specs.Numbering.{or_zero}
use Rattle.mau_module.specs.Included.{is_unknown, first_unknown, numbers_of}

module _ (ms : List ModuleOf) (ws : List Word) (es : List RawElement) (i : ℕ) (e : RawElement) (l : i < length es) (here : e ≡ get_or es i e) where
  one_more : imports ws (take (i + 1) es) ≡ imports ws (take i es) ++ filter_map (import_of ws) (e ∷ [])
  one_more =
      ap (λ k. imports ws (take k es)) (add-one i) ∙ ap (imports ws) (take-suc es i e l) ∙ ap (λ y. imports ws (take i es ++ y ∷ [])) (sym here)
      ∙ filter_map-append (import_of ws) (take i es) (e ∷ [])

  -- an element that imports nothing
  pub none_more : import_of ws e ≡ None → imports ws (take (i + 1) es) ≡ imports ws (take i es)
  none_more q = one_more ∙ ap (λ ys. imports ws (take i es) ++ ys) (rw q refl) ∙ append-nil (imports ws (take i es))

  -- one that imports the module of a name
  module _ (x : List ℕ) (q : import_of ws e ≡ Some x) where
    name_more : imports ws (take (i + 1) es) ≡ imports ws (take i es) ++ x ∷ []
    name_more = one_more ∙ ap (λ ys. imports ws (take i es) ++ ys) (rw q refl)

    pub numbers_more : (n : ℕ) → last_named ms x ≡ Some n → numbers_of ms (imports ws (take (i + 1) es)) ≡ numbers_of ms (imports ws (take i es)) ++ n ∷ []
    numbers_more n named =
        ap (numbers_of ms) name_more ∙ map-append (λ y. or_zero (last_named ms y)) (imports ws (take i es)) (x ∷ [])
        ∙ ap (λ r. numbers_of ms (imports ws (take i es)) ++ or_zero r ∷ []) named

    pub known_more : (n : ℕ) → last_named ms x ≡ Some n → first_unknown ms (imports ws (take i es)) ≡ None → first_unknown ms (imports ws (take (i + 1) es)) ≡ None
    known_more n named known =
        ap (first_unknown ms) name_more ∙ find-append (is_unknown ms) (imports ws (take i es)) (x ∷ []) ∙ ap (λ r. option_or r (first_unknown ms (x ∷ []))) known
        ∙ rw named refl

    alone : last_named ms x ≡ None → first_unknown ms (x ∷ []) ≡ Some x
    alone unnamed = rw unnamed refl

    pub unknown_found : last_named ms x ≡ None → first_unknown ms (imports ws (take i es)) ≡ None → first_unknown ms (imports ws es) ≡ Some x
    unknown_found unnamed known =
        ap (λ ys. first_unknown ms (imports ws ys)) (sym (take-append-drop (i + 1) es))
        ∙ ap (first_unknown ms) (filter_map-append (import_of ws) (take (i + 1) es) (drop (i + 1) es))
        ∙ find-append (is_unknown ms) (imports ws (take (i + 1) es)) (imports ws (drop (i + 1) es))
        ∙ ap (λ r. option_or r (first_unknown ms (imports ws (drop (i + 1) es)))) (
        ap (first_unknown ms) name_more ∙ find-append (is_unknown ms) (imports ws (take i es)) (x ∷ []) ∙ ap (λ r. option_or r (first_unknown ms (x ∷ []))) known
        ∙ alone unnamed)
