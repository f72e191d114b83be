-- What the modules of the prelude have, computed.
use Rattle.std.proofs.Common.{◌≡◌, List, [], ◌∷◌, length, refl}
use Rattle.std.specs.Prelude.{codes}
use Rattle.mau_prelude.specs.declared.module.PreludeModule.TheVariants.{TruthValue, Truth, Bool, Nat}
use Rattle.mau_prelude.specs.Tables.{table_of}
use Rattle.mau_module.specs.Modules.{ModuleOf}
use Rattle.mau_module.specs.Library.{truth_value, truth, bool}
use Rattle.mau_module.specs.Prelude.{table_frame, with_table}

unfoldable pub ms1 : List ModuleOf
ms1 = with_table [] [] TruthValue

unfoldable pub ms2 : List ModuleOf
ms2 = with_table ms1 (truth_value ∷ []) Truth

unfoldable pub ms3 : List ModuleOf
ms3 = with_table ms2 (truth ∷ []) Bool

pub parts1 : (table_frame ms1 (truth_value ∷ []) (table_of Truth)).parts ≡ 0 ∷ []
unfolding ms1
parts1 = refl

pub names1 : (table_frame ms1 (truth_value ∷ []) (table_of Truth)).names ≡ codes "Bool" ∷ []
unfolding ms1
names1 = refl

pub parts2 : (table_frame ms2 (truth ∷ []) (table_of Bool)).parts ≡ 0 ∷ 1 ∷ []
unfolding ms1 ms2
parts2 = refl

pub names2 : (table_frame ms2 (truth ∷ []) (table_of Bool)).names ≡ codes "Bool" ∷ []
unfolding ms1 ms2
names2 = refl

pub parts3 : (table_frame ms3 (bool ∷ []) (table_of Nat)).parts ≡ 0 ∷ 1 ∷ 2 ∷ []
unfolding ms1 ms2 ms3
parts3 = refl

pub names3 : (table_frame ms3 (bool ∷ []) (table_of Nat)).names ≡ codes "Bool" ∷ codes "Zero" ∷ codes "NzNat" ∷ codes "Nat" ∷ []
unfolding ms1 ms2 ms3
names3 = refl

pub length1 : length ms1 ≡ 1
unfolding ms1
length1 = refl

pub length2 : length ms2 ≡ 2
unfolding ms1 ms2
length2 = refl

pub length3 : length ms3 ≡ 3
unfolding ms1 ms2 ms3
length3 = refl
