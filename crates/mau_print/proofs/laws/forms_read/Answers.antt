use Rattle.std.proofs.Common.{subst, ap}
use Rattle.mau_grammar.specs.Trees.{made}
use Rattle.mau_print.specs.Words.{ReadsHere, woven_words}
use Rattle.mau_print.proofs.Windows.{here_production}
use Rattle.mau_print.proofs.Weaving.{woven_here}
use Rattle.mau_print.proofs.laws.forms_read.Goals as goal

pub returns : goal.returns
returns c = λ g whole n p f there op xs ts r.
    let all = here_production g whole n p (woven_words p.parts xs) ts there (woven_here g whole p.parts xs ts r) in
    subst (λ us. ReadsHere g whole p.kind p.level (woven_words p.parts xs) us) (ap (λ o. made o ts) op) all
