-- Names that are added to others are among them, and so are those that were there.
use Rattle.std.proofs.Common.{◌≡◌, ℕ, zero, suc, ◌<◌, List, [], ◌∷◌, ◌++◌, Bool, true, false, cond, ◌||◌, length, get_or, refl, ap, ◌∙◌, subst, arith}
use Rattle.std.specs.Prelude.{bytes_eq, fold, All, slice_get, Some}
use Rattle.std.specs.Option.{option_map_or}
use Rattle.std.proofs.lemmas.List.Folds.{list_any-append}
use Rattle.std.proofs.lemmas.Slice.Eq.{bytes_eq-Decides}
use Rattle.std.proofs.lemmas.Bool.{or_left, or_right}
use Rattle.mau_modtext.specs.Word.{Word}
use Rattle.mau_tokens.specs.declared.token.Token.{Token}
use Rattle.mau_modtext.specs.declared.raw.RawElement.{RawElement}
use Rattle.mau_modtext.specs.declared.raw.RawElement.TheVariants.{Import, Sorts, Subsorts, Ops, Vars, Statement, Strats}
use Rattle.mau_declare.specs.Words.{first_text}
use Rattle.mau_declare.specs.Names.{has_name, with_name}
use Rattle.mau_declare.specs.Sorts.{with_names, with_sorts, declared_sorts}
use Rattle.mau_module.specs.Modules.{ModuleOf}
use Rattle.mau_module.specs.Included.{of_module, sorts_of}
use Rattle.mau_module.specs.Known.{AreKnown}

pub kept_one : (ns : List (List ℕ)) (y x : List ℕ) → has_name ns x ≡ true → has_name (with_name ns y) x ≡ true
kept_one ns y x h = by (has_name ns y)
  where
    by : (b : Bool) → has_name (cond b ns (ns ++ y ∷ [])) x ≡ true
    by true = h
    by false = list_any-append (bytes_eq x) ns (y ∷ []) ∙ or_left _ _ h

pub there_one : (ns : List (List ℕ)) (y : List ℕ) → has_name (with_name ns y) y ≡ true
there_one ns y = by (has_name ns y) refl
  where
    last : (bytes_eq y y || false) ≡ true
    last = or_left _ _ ((bytes_eq-Decides y y).1 refl)

    by : (b : Bool) → has_name ns y ≡ b → has_name (cond b ns (ns ++ y ∷ [])) y ≡ true
    by true h = h
    by false h = list_any-append (bytes_eq y) ns (y ∷ []) ∙ or_right _ _ last

-- ---- several names

pub kept_all : (more ns : List (List ℕ)) (x : List ℕ) → has_name ns x ≡ true → has_name (fold with_name ns more) x ≡ true
kept_all [] ns x h = h
kept_all (y ∷ ys) ns x h = kept_all ys (with_name ns y) x (kept_one ns y x h)

pub there_all : (more ns : List (List ℕ)) (k : ℕ) (d : List ℕ) → k < length more → has_name (fold with_name ns more) (get_or more k d) ≡ true
there_all [] ns k d l = absurd (omega (arith, l))
there_all (y ∷ ys) ns zero d l = kept_all ys (with_name ns y) y (there_one ns y)
there_all (y ∷ ys) ns (suc k) d l = there_all ys (with_name ns y) k d (omega (arith, l))

-- ---- the names of the sorts of modules

module _ (ms : List ModuleOf) where
  names_at : ℕ → List (List ℕ)
  names_at p = of_module ms (λ m. m.sorts) p

  kept_parts : (ps : List ℕ) (ns : List (List ℕ)) (x : List ℕ) → has_name ns x ≡ true
      → has_name (fold (λ names p. fold with_name names (of_module ms (λ m. m.sorts) p)) ns ps) x ≡ true
  kept_parts [] ns x h = h
  kept_parts (p ∷ ps) ns x h = kept_parts ps (fold with_name ns (of_module ms (λ m. m.sorts) p)) x (kept_all (of_module ms (λ m. m.sorts) p) ns x h)

  there_parts : (ps : List ℕ) (ns : List (List ℕ)) (k d j : ℕ) (e : List ℕ) → k < length ps → j < length (of_module ms (λ m. m.sorts) (get_or ps k d))
      → has_name (fold (λ names p. fold with_name names (of_module ms (λ m. m.sorts) p)) ns ps) (get_or (of_module ms (λ m. m.sorts) (get_or ps k d)) j e) ≡ true
  there_parts [] ns k d j e l m = absurd (omega (arith, l))
  there_parts (p ∷ ps) ns zero d j e l m =
      kept_parts ps (fold with_name ns (of_module ms (λ m. m.sorts) p)) _ (there_all (of_module ms (λ m. m.sorts) p) ns j e m)
  there_parts (p ∷ ps) ns (suc k) d j e l m = there_parts ps (fold with_name ns (of_module ms (λ m. m.sorts) p)) k d j e (omega (arith, l)) m

-- ---- the names of sorts that elements declare

module _ (ws : List Word) where
  kept_names : (sorts : List (List Token)) (ns : List (List ℕ)) (x : List ℕ) → has_name ns x ≡ true → has_name (with_names ws ns sorts) x ≡ true
  kept_names [] ns x h = h
  kept_names (s ∷ sorts) ns x h = kept_names sorts (with_name ns (first_text ws s)) x (kept_one ns (first_text ws s) x h)

  kept_element : (e : RawElement) (ns : List (List ℕ)) (x : List ℕ) → has_name ns x ≡ true → has_name (with_sorts ws ns e) x ≡ true
  kept_element (Import name) ns x h = h
  kept_element (Sorts sorts) ns x h = kept_names sorts ns x h
  kept_element (Subsorts lists) ns x h = h
  kept_element (Ops ops) ns x h = h
  kept_element (Vars vars) ns x h = h
  kept_element (Statement s) ns x h = h
  kept_element (Strats s) ns x h = h

  kept_declared : (es : List RawElement) (ns : List (List ℕ)) (x : List ℕ) → has_name ns x ≡ true → has_name (declared_sorts ws ns es) x ≡ true
  kept_declared [] ns x h = h
  kept_declared (e ∷ es) ns x h = kept_declared es (with_sorts ws ns e) x (kept_element e ns x h)

-- the names of the parts, and then those that elements declare, have those of the parts
pub all_known : (ms : List ModuleOf) (ws : List Word) (es : List RawElement) (ps : List ℕ) (k d : ℕ) → k < length ps
    → (j : ℕ) (e : List ℕ) → j < length (of_module ms (λ m. m.sorts) (get_or ps k d))
    → has_name (declared_sorts ws (sorts_of ms ps) es) (get_or (of_module ms (λ m. m.sorts) (get_or ps k d)) j e) ≡ true
all_known ms ws es ps k d l j e m = kept_declared ws es (sorts_of ms ps) _ (there_parts ms ps [] k d j e l m)

-- so have those of the parts, and then others
pub more_known : (ms : List ModuleOf) (more : List (List ℕ)) (ps : List ℕ) → AreKnown ms (fold with_name (sorts_of ms ps) more) ps
more_known ms more ps k d l j e m = kept_all more (sorts_of ms ps) _ (there_parts ms ps [] k d j e l m)

-- names that have those of some modules have those of each of them
pub known_at : (ms : List ModuleOf) (names : List (List ℕ)) (parts : List ℕ) (i d : ℕ) (m : ModuleOf) → AreKnown ms names parts → i < length parts
    → slice_get ms (get_or parts i d) ≡ Some m → All (λ x. has_name names x ≡ true) m.sorts
known_at ms names parts i d m known l there =
    subst (λ ns. All (λ x. has_name names x ≡ true) ns) (ap (λ r. option_map_or (λ (n : ModuleOf). n.sorts) r []) there) (known i d l)
