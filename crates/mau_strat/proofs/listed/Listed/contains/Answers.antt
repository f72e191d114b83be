use Rattle.std.proofs.Common.{Contains, IsTrue, ◌↔◌, sym, subst}
use Rattle.std.specs.Cmp.{nat_eq_equiv}
use Rattle.std.proofs.lemmas.Map.Views.{hash_set_contains_iff, exact_unsigned_eq}
use Rattle.mau_strat.proofs.listed.Listed.contains.Goals as goal

pub returns : goal.returns
returns c =
    let found = hash_set_contains_iff nat_eq_equiv exact_unsigned_eq c.self.inside.entries c.args.config in
    subst (λ xs. IsTrue c.contains.result ↔ Contains xs c.args.config) c.self.view_is
    (subst (λ b. IsTrue b ↔ Contains c.self.inside.entries.keys c.args.config) (sym c.contains.ensures) found)
