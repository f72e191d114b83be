use Rattle.std.proofs.Common.{◌≡◌}
use Rattle.std.proofs.lemmas.Result.{IfOk-weaker}
use Rattle.mau_terms.specs.Reading.{reading}
use Rattle.mau_terms.specs.View.{tree_of}
use Rattle.mau_signature.specs.Signature.{theory_at}
use Rattle.mau_store.specs.Trees.{tree_at}
use Rattle.mau_api.specs.Terms.{IsBareWithin}
use Rattle.mau_reduce.proofs.PlainTables.{term_over}
use Rattle.mau_reduce.proofs.Stepped.{read_told}
use Rattle.mau_rules.proofs.telling.context_around.Goals as goal

pub placed-requires-clause-kind : goal.placed-requires-clause-kind
placed-requires-clause-kind c = (c.args.hole.sort, c.requires.term, c.requires.hole)

pub read-requires-clause-over : goal.read-requires-clause-over
read-requires-clause-over c = term_over c.args.sig.now c.requires.lawful c.placed.new.store c.in-Ok.id.0 c.in-Ok.ensures.term

pub returns-in-Ok-clause-within : goal.returns-in-Ok-clause-within
returns-in-Ok-clause-within c =
    let is = c.in-Ok.ensures.term in
    IfOk-weaker c.read.result (λ b. tree_of b ≡ reading (theory_at c.args.sig.now) (tree_at c.placed.new.store c.in-Ok.id.0)) (λ b. IsBareWithin c.args.sig.now (tree_of b))
    (λ b e. read_told c.args.sig.now c.requires.lawful c.placed.new.store is.bare.0 c.in-Ok.id.0 (tree_of b) (record { within = is.within; bare = is.bare.1 }) e) c.read.ensures
