-- What holds of an answer holds in another form too.
use Rattle.std.proofs.Common.{Result, Ok, Err, IfOk, OnOk}

pub IfOk-then : {T E : Type 0} (P Q : T → Type 0) → ((x : T) → P x → Q x) → (r : Result T E) → IfOk r P → IfOk r Q
IfOk-then P Q h (Ok x) p = h x p
IfOk-then P Q h (Err e) p = tt

pub OnOk-then : {T E : Type 0} (P Q : Type 0) → (P → Q) → (r : Result T E) → OnOk r P → OnOk r Q
OnOk-then P Q h (Ok x) p = h p
OnOk-then P Q h (Err e) p = tt
