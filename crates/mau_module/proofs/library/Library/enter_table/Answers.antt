use Rattle.std.proofs.Common.{◌≡◌, ◌++◌, ◌∷◌, [], length, ap, ◌∙◌, length-append}
use Rattle.std.proofs.lemmas.Result.{on_ok_weaker}
use Rattle.mau_module.proofs.library.Library.enter_table.Goals as goal

pub table_module-requires-clause-ready : goal.table_module-requires-clause-ready
table_module-requires-clause-ready c = c.requires.ready

pub returns-clause-count : goal.returns-clause-count
returns-clause-count c =
    on_ok_weaker c.enter.result (λ (e : c.enter.new.self ≡ c.args.self.now ++ c.in_ok-module.module ∷ []). ap length e ∙ length-append c.args.self.now (c.in_ok-module.module ∷ [])) c.enter.ensures.ok
