use Rattle.std.proofs.Common.{sym, subst}
use Rattle.mau_docheck.specs.Kept.{AreModulesOf}
use Rattle.mau_docheck.proofs.Knowing.{named_ok, no_modules_of}
use Rattle.mau_docheck.proofs.known.Known.of.Goals as goal

pub returns-in-Err : goal.returns-in-Err
returns-in-Err c =
    let text = c.args.text.now in
    named_ok c.without_tokens.result _ _ _ (λ k counts named. subst (AreModulesOf text k.library) (sym counts) (no_modules_of text c.in-Err.fault k.library (c.in-Err.ensures.fault named)))
    c.without_tokens.ensures.counts c.without_tokens.ensures.named
