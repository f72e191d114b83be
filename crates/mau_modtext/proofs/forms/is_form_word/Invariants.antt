use Rattle.std.proofs.Common.{◌≡◌, length}
use Rattle.mau_modtext.specs.declared.forms.Within.TheVariants.{Start}
use Rattle.mau_modtext.specs.Forms.{are_form_bytes}
use Rattle.mau_modtext.proofs.forms.is_form_word.Given as goal

abbrev pub invariant-loop-byte : goal.invariant-loop-byte
invariant-loop-byte l = are_form_bytes Start l.text ≡ are_form_bytes l.within l.bytes

abbrev pub decreases-loop-byte : goal.decreases-loop-byte
decreases-loop-byte l = length l.bytes
