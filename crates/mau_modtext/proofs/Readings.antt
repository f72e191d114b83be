-- Answers and readings, moved along equations.
use Rattle.std.proofs.Common.{◌≡◌, Result, Err, ap, ◌∙◌, subst}
use Rattle.mau_modtext.specs.declared.fault.ReadFault.{ReadFault}
use Rattle.mau_modtext.specs.declared.fault.ReadFault.TheVariants.{Fault as Faulty, NoMemory}
use Rattle.mau_modtext.specs.Faults.{OrFault, Reads, and_then}

pub ap2 : {A B C : Type 0} (f : A → B → C) {a a' : A} {b b' : B} → a ≡ a' → b ≡ b' → f a b ≡ f a' b'
ap2 f {a' = a'} {b = b} p q = ap (λ x. f x b) p ∙ ap (f a') q

pub ap3 : {A B C D : Type 0} (f : A → B → C → D) {a a' : A} {b b' : B} {c c' : C} → a ≡ a' → b ≡ b' → c ≡ c' → f a b c ≡ f a' b' c'
ap3 f {a' = a'} {b = b} {c = c} p q r = ap (λ x. f x b c) p ∙ ap2 (f a') q r

-- the same answer for an equal reading
pub along : {X : Type 0} (a : Result X ReadFault) {r s : OrFault X} → r ≡ s → Reads a r → Reads a s
along {X} a p h = let P : OrFault X → Type 0 = λ r. Reads a r in subst P p h

-- a fault of a part is one of the whole
pub fails : {X Y : Type 0} (e : ReadFault) (r : OrFault X) (more : X → OrFault Y) → Reads {X = X} (Err e) r → Reads {X = Y} (Err e) (and_then r more)
fails (Faulty f) r more h = ap (λ r. and_then r more) h
fails NoMemory r more h = tt
