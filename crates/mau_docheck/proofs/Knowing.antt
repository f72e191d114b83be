-- The modules of a text, as they are entered one after another.
use Rattle.std.proofs.Common.{◌≡◌, ℕ, zero, suc, ◌+◌, ◌-◌, ◌<◌, List, [], ◌∷◌, ◌++◌, length, take, get_or, slice_get, Some, Result, Ok, Err, IfOk, OnOk, true, refl, sym, ap, ◌∙◌, subst, arith, below_more, length-append}
use Rattle.std.proofs.lemmas.List.{take-append-le, take_all}
use Rattle.std.proofs.lemmas.Option.{slice_get-get_or, slice_get_within, get_or_from_slice_get}
use Rattle.std.proofs.Math.ListN.{get_or-append}
use Rattle.std.proofs.Math.Seq.{get_or-append_seam}
use Rattle.mau_tokens.specs.declared.token.Token.{Token}
use Rattle.mau_tokens.specs.declared.token.TokenFault.{TokenFault}
use Rattle.mau_tokens.specs.TokensOf.{TokensOf}
use Rattle.mau_modtext.specs.Word.{Word}
use Rattle.mau_modtext.specs.Words.{words_of}
use Rattle.mau_modtext.specs.Items.{AreItems}
use Rattle.mau_modtext.specs.declared.raw.RawItem.{RawItem}
use Rattle.mau_modtext.specs.declared.raw.RawBody.TheVariants.{Module}
use Rattle.mau_modtext.specs.declared.raw.RawModule.{RawModule}
use Rattle.mau_module.specs.Modules.{ModuleOf}
use Rattle.mau_module.specs.Flattened.{FlattenedAs}
use Rattle.mau_module.specs.Faults.{IfFault}
use Rattle.mau_module.specs.declared.fault.ModuleFault.{ModuleFault}
use Rattle.mau_module.specs.declared.fault.ModuleFault.TheVariants.{UnknownModule, ImportTooDeep, TooLarge, UnknownSort, Signed, Statement, Strategy, NoMemory}
use Rattle.mau_docheck.specs.Known.{is_built, Leaves, module_accepted, module_refused, KnownAfter, KnownBefore, known_before, none_known, items_before}
use Rattle.mau_docheck.specs.Kept.{IsLonger, IsCountAt, AreCounts, count_before, AreModulesOf}

-- what holds of an answer by two facts of it
pub both_ok : {A E : Type 0} (r : Result A E) (P Q R : A → Type 0) → ((x : A) → P x → Q x → R x) → IfOk r P → IfOk r Q → IfOk r R
both_ok (Ok x) P Q R f p q = f x p q
both_ok (Err e) P Q R f p q = tt

pub named_ok : {A E : Type 0} (r : Result A E) (P R : A → Type 0) (Q : Type 0) → ((x : A) → P x → Q → R x) → IfOk r P → OnOk r Q → IfOk r R
named_ok (Ok x) P R Q f p q = f x p q
named_ok (Err e) P R Q f p q = tt

-- a fault of a module that is not want of memory
pub if_named : (P : ModuleFault → Type 0) (f : ModuleFault) → (f ≡ NoMemory → ⊥) → IfFault P f → P f
if_named P (UnknownModule name) n p = p
if_named P ImportTooDeep n p = p
if_named P (TooLarge limit) n p = p
if_named P (UnknownSort at) n p = p
if_named P (Signed text) n p = p
if_named P (Statement i f) n p = p
if_named P (Strategy i f) n p = p
if_named P NoMemory n p = absurd (n refl)

-- a module that is at fault, and that no memory was wanting for, leaves the modules as they are
pub refused_by : {E : Type 0} (ws : List Word) (ms : List ModuleOf) (item : RawItem) (raw : RawModule) (f : ModuleFault) (r : Result (Unit {0}) E) → item.body ≡ Ok (Module raw) → is_built raw.kind ≡ true
    → IfFault (λ f. FlattenedAs ms ws raw (Err f)) f → OnOk r (f ≡ NoMemory → ⊥) → OnOk r (Leaves ws ms item ms)
refused_by ws ms item raw f (Ok x) is built h named = module_refused raw f is built (if_named (λ f. FlattenedAs ms ws raw (Err f)) f named h)
refused_by ws ms item raw f (Err e) is built h named = tt

pub accepted_by : {E : Type 0} (ws : List Word) (ms new : List ModuleOf) (item : RawItem) (raw : RawModule) (m : ModuleOf) (r : Result (Unit {0}) E) → item.body ≡ Ok (Module raw) → is_built raw.kind ≡ true
    → FlattenedAs ms ws raw (Ok m) → OnOk r (new ≡ ms ++ m ∷ []) → OnOk r (Leaves ws ms item new)
accepted_by ws ms new item raw m (Ok x) is built h e = subst (Leaves ws ms item) (sym e) (module_accepted raw m is built h)
accepted_by ws ms new item raw m (Err e) is built h same = tt

-- what a list of one element has
one_element : (n i m : ℕ) → slice_get (n ∷ []) i ≡ Some m → (i ≡ 0) × (m ≡ n)
one_element n zero m e = (refl, cc)
one_element n (suc i) m e = absurd cc

module _ (ws : List Word) (items : List RawItem) where
  pub no_counts : (ms : List ModuleOf) → KnownAfter ws items 0 ms → AreCounts ws items ms (length ms ∷ [])
  no_counts ms h i n e =
      let at = one_element (length ms) i n e in
      record {
        within = omega (arith, at.1);
        after = subst (λ j. KnownAfter ws items j (take n ms)) (sym at.0) (subst (KnownAfter ws items 0) (sym (ap (λ k. take k ms) at.1 ∙ take_all (length ms) ms (omega arith))) h);
      }

  pub one_count : (old new : List ModuleOf) (counts : List ℕ) → AreCounts ws items old counts → IsLonger old new → KnownAfter ws items (length counts) new → AreCounts ws items new (counts ++ length new ∷ [])
  one_count old new counts h x known i n e =
      let all = counts ++ length new ∷ [] in
      let l = slice_get_within all i n e in
      let is : get_or all i n ≡ n = get_or_from_slice_get all i n n e in
      below_more (λ k. get_or all k n ≡ n → IsCountAt ws items new k n) (length counts)
      (λ k b is.
      let there : slice_get counts k ≡ Some n = slice_get-get_or counts k n b ∙ ap Some (sym (get_or-append counts (length new ∷ []) n k b) ∙ is) in
      let before = h k n there in
      let w = before.within in
      record {
        within = omega (arith, w, ap length x.1, length-append old x.0);
        after = subst (KnownAfter ws items k) (sym (ap (take n) x.1 ∙ take-append-le n old x.0 w)) before.after;
      })
      (λ is.
      let same : n ≡ length new = sym is ∙ get_or-append_seam counts (length new) [] n in
      record {
        within = omega (arith, same);
        after = subst (KnownAfter ws items (length counts)) (sym (ap (λ k. take k new) same ∙ take_all (length new) new (omega arith))) known;
      })
      i (omega (arith, l, length-append counts (length new ∷ []))) is

-- the counts of all items
pub modules_of : (text : List ℕ) (tokens : List Token) (items : List RawItem) (ms : List ModuleOf) (counts : List ℕ) → TokensOf text (Ok tokens) → AreItems (words_of text tokens) items
    → AreCounts (words_of text tokens) items ms counts → length counts ≡ length items + 1 → AreModulesOf text ms counts
modules_of text tokens items ms counts are reads h all = record {
  some = omega (arith, all);
  within = λ i n e. (h i n e).within;
  before = λ k.
      let last : length counts - 1 ≡ length items = omega (arith, all) in
      let i = items_before k (length items) in
      let b : i < length counts = omega (arith, all) in
      let n : get_or counts i 0 ≡ count_before counts k = ap (λ l. get_or counts (items_before k l) 0) (sym last) in
      known_before tokens items (take (count_before counts k) ms) are reads (h i (count_before counts k) (slice_get-get_or counts i 0 b ∙ ap Some n)).after;
}

no_module : (j : ℕ) → get_or {A = ℕ} (0 ∷ []) j 0 ≡ zero
no_module zero = refl
no_module (suc j) = refl

pub no_modules_of : (text : List ℕ) (f : TokenFault) (ms : List ModuleOf) → TokensOf text (Err f) → AreModulesOf text ms (0 ∷ [])
no_modules_of text f ms h = record {
  some = omega arith;
  within = λ i n e. let at = one_element 0 i n e in omega (arith, at.1);
  before = λ k. subst (λ n. KnownBefore text k (take n ms)) (sym (no_module (items_before k 0))) (none_known f h);
}
