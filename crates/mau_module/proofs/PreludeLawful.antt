-- The modules of the prelude are lawful.
use Rattle.std.proofs.Common.{◌≡◌, ◌<◌, ℕ, List, [], ◌∷◌, ◌++◌, true, length, refl}
use Rattle.std.specs.Prelude.{All, nat_lt}
use Rattle.std.proofs.lemmas.Bool.{ltb-true}
use Rattle.mau_declare.specs.Names.{has_name}
use Rattle.mau_prelude.specs.declared.module.PreludeModule.{PreludeModule}
use Rattle.mau_prelude.specs.declared.module.PreludeModule.TheVariants.{TruthValue, Truth, Bool, Nat}
use Rattle.mau_prelude.specs.Tables.{table_of}
use Rattle.mau_module.specs.Modules.{ModuleOf}
use Rattle.mau_module.specs.Library.{truth_value, truth, bool}
use Rattle.mau_module.specs.Included.{of_module, parts_of}
use Rattle.mau_module.specs.Known.{AreKnown}
use Rattle.mau_module.specs.Libraries.{AreLawfulModules}
use Rattle.mau_module.specs.Prelude.{table_frame, prelude}
use Rattle.mau_module.specs.Made.{AreMade, IsSignedOver}
use Rattle.mau_module.specs.Ready.{module_of, IsReady}
use Rattle.mau_module.proofs.Deciding.{every, every_in}
use Rattle.mau_module.proofs.Framing.{frame_closed}
use Rattle.mau_module.proofs.MadeOver.{one_more_made}
use Rattle.mau_module.proofs.PreludeSigned.{in_all}
use Rattle.mau_module.proofs.PreludeFacts.{ms1, ms2, ms3}
use Rattle.mau_module.proofs.PreludeReady.{truth_value_ready, truth_ready, bool_ready, nat_ready}
use Rattle.mau_module.proofs.Signable.{what, own_sorts, is_signature}

-- ---- parts that are there, by tests

are_below : (n : ℕ) (xs : List ℕ) → every (λ i. nat_lt i n) xs ≡ true → All (λ i. i < n) xs
are_below n xs e = in_all (λ i. i < n) xs (λ i j. ltb-true i n (every_in (λ x. nat_lt x n) xs e i j))

are_known : (ms : List ModuleOf) (names : List (List ℕ)) (parts : List ℕ) → every (λ p. every (has_name names) (of_module ms (λ m. m.sorts) p)) parts ≡ true → AreKnown ms names parts
are_known ms names parts e =
    in_all (λ p. All (λ x. has_name names x ≡ true) (of_module ms (λ m. m.sorts) p)) parts
    (λ p i. in_all (λ x. has_name names x ≡ true) (of_module ms (λ m. m.sorts) p)
    (every_in (has_name names) (of_module ms (λ m. m.sorts) p) (every_in (λ q. every (has_name names) (of_module ms (λ m. m.sorts) q)) parts e p i)))

-- ---- one module of the prelude more

module _ (ms : List ModuleOf) (imports : List ℕ) (p : PreludeModule) (made : AreMade ms) (ready : IsReady ms imports p) (import_there : All (λ i. i < length ms) imports)
    (parts_there : All (λ i. i < length ms) (parts_of ms imports)) (known : AreKnown ms (table_frame ms imports (table_of p)).names (parts_of ms imports)) where
  abbrev names : List (List ℕ)
  names = (table_frame ms imports (table_of p)).names

  signed : IsSignedOver ms (module_of ms imports p) (parts_of ms imports)
  signed =
      let t = table_of p in
      let ps = parts_of ms imports in
      let closed = frame_closed ms made imports names import_there parts_there known in
      let w = what ms ps names t.pairs t.declarations ready.signable in
      record {
        closed = closed;
        parts = refl;
        signature = refl;
        made = is_signature ms ps names t.pairs t.declarations ready.signable;
        poset = w.0;
        accepted = w.2;
        over = record { within = ready.signable.within; sorts = own_sorts ms ps names t.pairs t.declarations ready.signable };
        statements = refl;
        tops = ready.tops made closed;
      }

  one_more : AreMade (ms ++ module_of ms imports p ∷ [])
  one_more = one_more_made ms (module_of ms imports p) made (ready.made made signed)

nothing_made : AreMade []
nothing_made i m e = absurd cc

first_made : AreMade ms1
unfolding ms1
first_made = one_more [] [] TruthValue nothing_made truth_value_ready (are_below 0 [] refl) (are_below 0 [] refl) (are_known [] (table_frame [] [] (table_of TruthValue)).names [] refl)

second_made : AreMade ms2
unfolding ms1 ms2
second_made =
    one_more ms1 (truth_value ∷ []) Truth first_made truth_ready (are_below 1 (truth_value ∷ []) refl) (are_below 1 (parts_of ms1 (truth_value ∷ [])) refl)
    (are_known ms1 (table_frame ms1 (truth_value ∷ []) (table_of Truth)).names (parts_of ms1 (truth_value ∷ [])) refl)

third_made : AreMade ms3
unfolding ms1 ms2 ms3
third_made =
    one_more ms2 (truth ∷ []) Bool second_made bool_ready (are_below 2 (truth ∷ []) refl) (are_below 2 (parts_of ms2 (truth ∷ [])) refl)
    (are_known ms2 (table_frame ms2 (truth ∷ []) (table_of Bool)).names (parts_of ms2 (truth ∷ [])) refl)

all_made : AreMade prelude
unfolding ms1 ms2 ms3 prelude
all_made =
    one_more ms3 (bool ∷ []) Nat third_made nat_ready (are_below 3 (bool ∷ []) refl) (are_below 3 (parts_of ms3 (bool ∷ [])) refl)
    (are_known ms3 (table_frame ms3 (bool ∷ []) (table_of Nat)).names (parts_of ms3 (bool ∷ [])) refl)

pub prelude_is_lawful : AreLawfulModules prelude
prelude_is_lawful = record { each = λ i m e. (all_made i m e).lawful }
