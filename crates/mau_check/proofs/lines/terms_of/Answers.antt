use Rattle.std.proofs.Common.{◌≡◌, ◌+◌, take, sym, subst}
use Rattle.std.proofs.lemmas.List.{take_all}
use Rattle.mau_logic.specs.Lines.{lines_of}
use Rattle.mau_check.specs.Kept.{IsKept, AreKept}
use Rattle.mau_check.specs.LineTerms.{line_term, line_pairs}
use Rattle.mau_check.proofs.Growing.{extends_trans}
use Rattle.mau_check.proofs.Lined.{line_kept, line_pairs_are}
use Rattle.mau_check.proofs.lines.terms_of.Goals as goal

pub add_line-requires-clause-kept : goal.add_line-requires-clause-kept
add_line-requires-clause-kept c =
    let terms = (lines_of c.args.program.now.sig c.args.program.now.sorts (take c.loop-line.line-index c.args.lines.now)).terms in
    (terms, subst (λ ks. AreKept c.args.program.now.sig c.loop-line.store ks terms) (sym c.deref.ensures.value) c.loop-line.invariant.kept)

pub loop-line-preserved : goal.loop-line-preserved
loop-line-preserved c =
    let s = c.args.program.now.sig in
    let sorts = c.args.program.now.sorts in
    let lines = c.args.lines.now in
    let i = c.loop-line.line-index in
    let old = c.loop-line.store in
    let new = c.add_line.new.store in
    let before = lines_of s sorts (take i lines) in
    let deref = subst (λ ks. AreKept s old ks before.terms) (sym c.deref.ensures.value) c.loop-line.invariant.kept in
    let here = subst (λ l. IsKept s new c.in_ok-term.term (line_term s sorts c.loop-line.variables before.terms l)) c.line-item.is (c.in_ok-term.ensures.kept before.terms deref) in
    record {
      extends = extends_trans c.args.store.now old new c.loop-line.invariant.extends c.in_ok-term.ensures.extends;
      kept = subst (λ ks. AreKept s new ks (lines_of s sorts (take (i + 1) lines)).terms) (sym c.in_ok-push.ensures.items)
          (line_kept s sorts old new lines i c.line-item.result c.loop-line.kept.items c.in_ok-term.term c.loop-line.variables c.loop-line-test.true c.in_ok-term.ensures.extends c.loop-line.invariant.kept c.loop-line.invariant.pairs here);
      pairs = line_pairs_are s sorts lines i c.line-item.result c.loop-line.variables c.add_line.new.variables c.loop-line-test.true c.loop-line.invariant.pairs
          (subst (λ l. c.add_line.new.variables ≡ line_pairs s sorts c.loop-line.variables l) c.line-item.is c.in_ok-term.ensures.pairs);
    }

pub returns-clause-kept : goal.returns-clause-kept
returns-clause-kept c =
    let s = c.args.program.now.sig in
    let sorts = c.args.program.now.sorts in
    subst (λ ls. AreKept s c.loop-line.store c.loop-line.kept.items (lines_of s sorts ls).terms) (take_all c.loop-line.line-index c.args.lines.now c.loop-line-test.false) c.loop-line.invariant.kept

pub returns-clause-variables : goal.returns-clause-variables
returns-clause-variables c =
    let s = c.args.program.now.sig in
    let sorts = c.args.program.now.sorts in
    subst (λ ls. c.loop-line.variables ≡ (lines_of s sorts ls).pairs) (take_all c.loop-line.line-index c.args.lines.now c.loop-line-test.false) c.loop-line.invariant.pairs
