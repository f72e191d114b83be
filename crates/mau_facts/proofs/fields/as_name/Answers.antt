use Rattle.std.proofs.Common.{◌≡◌, Bool, true, false, refl, arith}
use Rattle.std.proofs.lemmas.Bool.{and_from, and_right}
use Rattle.std.proofs.lemmas.Bool.Decides.{nat_tests}
use Rattle.std.proofs.lemmas.Str.{IsUtf8-from_is_utf8, is_utf8-from_IsUtf8}
use Rattle.std.specs.Str.{is_utf8}
use Rattle.mau_facts.proofs.fields.as_name.Goals as goal

false_by : (b : Bool) → (b ≡ true → ⊥) → b ≡ false
false_by true h = absurd (h refl)
false_by false h = refl

pub returns-in-Ok-clause-some : goal.returns-in-Ok-clause-some
returns-in-Ok-clause-some c =
    (c.in-Ok.ensures.cases.0, and_from _ _ (let h = c.if-is_empty.false in let g = c.is_empty.ensures in grind (arith, nat_tests, h, g)) (is_utf8-from_IsUtf8 c.args.word.now c.in-Ok.ensures.cases.1))

pub returns-in-Err-clause-none : goal.returns-in-Err-clause-none
returns-in-Err-clause-none c = and_right _ _ (false_by (is_utf8 c.args.word.now) (λ e. c.in-Err.ensures.cases.0 (IsUtf8-from_is_utf8 c.args.word.now e)))
