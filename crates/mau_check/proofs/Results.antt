-- Results that may hold nothing.
use Rattle.std.proofs.Common.{◌≡◌, Result, Ok, Err, IfOk, OnOk, Option, Some, None}
use Rattle.std.specs.Prelude.{IfSome, IfNone}

-- nothing is found
pub none_found : {A E : Type 0} (r : Result (Option A) E) (P : A → Type 0) → IfOk r (λ o. o ≡ None) → IfOk r (λ o. IfSome o P)
none_found (Err e) P h = tt
none_found (Ok None) P h = tt
none_found (Ok (Some x)) P h = absurd cc

pub always_none : {A E : Type 0} (r : Result (Option A) E) (Q : Type 0) → IfOk r (λ o. Q) → IfOk r (λ o. IfNone o Q)
always_none (Err e) Q h = tt
always_none (Ok None) Q h = h
always_none (Ok (Some x)) Q h = tt

pub some_then : {A E : Type 0} (P Q : A → Type 0) → ((x : A) → P x → Q x) → (r : Result (Option A) E) → IfOk r (λ o. IfSome o P) → IfOk r (λ o. IfSome o Q)
some_then P Q f (Err e) h = tt
some_then P Q f (Ok None) h = tt
some_then P Q f (Ok (Some x)) h = f x h

pub none_then : {A E : Type 0} (P Q : Type 0) → (P → Q) → (r : Result (Option A) E) → IfOk r (λ o. IfNone o P) → IfOk r (λ o. IfNone o Q)
none_then P Q f (Err e) h = tt
none_then P Q f (Ok None) h = f h
none_then P Q f (Ok (Some x)) h = tt

pub if_some_then : {A : Type 0} (P Q : A → Type 0) → ((x : A) → P x → Q x) → (o : Option A) → IfSome o P → IfSome o Q
if_some_then P Q f None h = tt
if_some_then P Q f (Some x) h = f x h

pub if_none_then : {A : Type 0} (P Q : Type 0) → (P → Q) → (o : Option A) → IfNone o P → IfNone o Q
if_none_then P Q f None h = f h
if_none_then P Q f (Some x) h = tt

pub on_ok_always : {A E : Type 0} (r : Result A E) (P : Type 0) → P → OnOk r P
on_ok_always (Ok x) P h = h
on_ok_always (Err e) P h = tt
