use Rattle.std.proofs.Common.{◌≡◌}
use Rattle.std.proofs.lemmas.Result.{IfOk-weaker}
use Rattle.mau_terms.specs.Reading.{reading}
use Rattle.mau_terms.specs.View.{tree_of}
use Rattle.mau_signature.specs.Signature.{theory_at}
use Rattle.mau_store.specs.Trees.{tree_at}
use Rattle.mau_api.specs.Terms.{IsBareWithin}
use Rattle.mau_reduce.proofs.PlainTables.{term_over}
use Rattle.mau_reduce.proofs.Stepped.{read_told}
use Rattle.mau_reduce.proofs.stepping.context_around.Goals as goal

pub read-requires-clause-over : goal.read-requires-clause-over
read-requires-clause-over c =
    let is = c.in-Ok.ensures.kind c.args.hole.sort c.requires.term c.requires.hole in
    term_over c.args.sig.now c.requires.lawful c.replace.new.store c.in-Ok.id.0 (record { within = is.within; bare = (c.args.hole.sort, is.bare) })

pub returns-in-Ok-clause-within : goal.returns-in-Ok-clause-within
returns-in-Ok-clause-within c =
    let is = c.in-Ok.ensures.kind c.args.hole.sort c.requires.term c.requires.hole in
    IfOk-weaker c.read.result (λ b. tree_of b ≡ reading (theory_at c.args.sig.now) (tree_at c.replace.new.store c.in-Ok.id.0)) (λ b. IsBareWithin c.args.sig.now (tree_of b))
    (λ b e. read_told c.args.sig.now c.requires.lawful c.replace.new.store c.args.hole.sort c.in-Ok.id.0 (tree_of b) is e) c.read.ensures
