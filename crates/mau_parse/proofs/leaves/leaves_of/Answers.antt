use Rattle.std.proofs.Common.{◌≡◌, ℕ, length, sym, ◌∙◌, ap, subst, arith}
use Rattle.mau_grammar.specs.Leaves.{pairs_of}
use Rattle.mau_parse.specs.Charted.{AreLeavesOf}
use Rattle.mau_parse.proofs.LeavesListed.{leaves_to, leaves_are}
use Rattle.mau_parse.proofs.leaves.leaves_of.Goals as goal

pub returns-clause-leaves : goal.returns-clause-leaves
returns-clause-leaves c =
    let g = c.args.grammar.now in
    let ws = c.args.words.now in
    let all : c.loop-i.i ≡ length ws = omega arith in
    subst (AreLeavesOf g ws) (sym (c.loop-i.invariant.leaves ∙ ap (λ (n : ℕ). leaves_to g ws (pairs_of g ws) n) all)) (leaves_are g ws)
