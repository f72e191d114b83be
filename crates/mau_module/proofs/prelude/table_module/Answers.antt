use Rattle.std.proofs.Common.{◌≡◌, ℕ, List, ap, ap₂, ◌∙◌}
use Rattle.std.specs.Prelude.{fold}
use Rattle.mau_signature.specs.declared.decl.Decl.{Decl}
use Rattle.mau_grammar.specs.declared.aliases.Alias.{Alias}
use Rattle.mau_program.specs.declared.statements.Equation.{Equation}
use Rattle.mau_prelude.specs.Tables.{TableOf, table_of}
use Rattle.mau_declare.specs.Names.{with_name}
use Rattle.mau_module.specs.Included.{depth_over, parts_of, sorts_of}
use Rattle.mau_module.specs.Framed.{Frame}
use Rattle.mau_module.specs.Prelude.{table_frame, table_module}
use Rattle.mau_module.proofs.Tabled.{if_ok_is}
use Rattle.mau_module.proofs.ReadyMade.{table_next, depth_so, signable_so, variables_so, tops_so, truth_so}
use Rattle.mau_module.proofs.prelude.table_module.Goals as goal

pub returns-clause-value : goal.returns-clause-value
returns-clause-value c =
    let ms = c.args.library.now in
    let t = table_of c.args.«module» in
    let each : List ℕ → List (ℕ × ℕ) → List Decl → List Alias → List Equation → TableOf = λ x y z v w. record { name = x; sorts = t.sorts; pairs = y; declarations = z; variables = v; equations = w } in
    let over : List (List ℕ) → Frame = λ xs. record { depth = depth_over ms c.args.imports.now; parts = parts_of ms c.args.imports.now; names = fold with_name (sorts_of ms (parts_of ms c.args.imports.now)) xs } in
    let e = c.in_ok-table.ensures in
    let frame : c.in_ok-frame.frame ≡ table_frame ms c.args.imports.now t = c.in_ok-frame.ensures.frame ∙ ap over (c.deref.ensures.value ∙ e.sorts) in
    if_ok_is c.make_module.result
    (table_module ms c.in_ok-frame.frame (each c.in_ok-table.table.name c.in_ok-table.table.pairs.items c.in_ok-table.table.declarations.items c.in_ok-table.table.variables.items c.in_ok-table.table.equations.items))
    (table_module ms (table_frame ms c.args.imports.now t) t)
    (c.make_module.ensures.value t.sorts)
    (ap (λ x. table_module ms x (each c.in_ok-table.table.name c.in_ok-table.table.pairs.items c.in_ok-table.table.declarations.items c.in_ok-table.table.variables.items c.in_ok-table.table.equations.items)) frame
    ∙ ap (table_module ms (table_frame ms c.args.imports.now t))
    (ap₂ (λ x y. each x y c.in_ok-table.table.declarations.items c.in_ok-table.table.variables.items c.in_ok-table.table.equations.items) e.name e.pairs
    ∙ ap (λ x. each t.name t.pairs x c.in_ok-table.table.variables.items c.in_ok-table.table.equations.items) e.declarations
    ∙ ap₂ (each t.name t.pairs t.declarations) e.variables e.equations))

pub returns-clause-next : goal.returns-clause-next
returns-clause-next c =
    let t = table_of c.args.«module» in
    let over : List (List ℕ) → Frame = λ xs. record { depth = depth_over c.args.library.now c.args.imports.now; parts = parts_of c.args.library.now c.args.imports.now; names = fold with_name (sorts_of c.args.library.now (parts_of c.args.library.now c.args.imports.now)) xs } in
    table_next c.args.library.now c.args.imports.now c.args.«module» c.len-modules.ensures.library c.requires.ready c.requires.imports
    c.make_module.result c.in_ok-frame.frame (c.in_ok-frame.ensures.frame ∙ ap over (c.deref.ensures.value ∙ c.in_ok-table.ensures.sorts)) c.in_ok-frame.ensures.within c.in_ok-frame.ensures.known
    (returns-clause-value c) c.make_module.ensures.right

pub make_module-requires-clause-depth : goal.make_module-requires-clause-depth
make_module-requires-clause-depth c =
    let t = table_of c.args.«module» in
    let over : List (List ℕ) → Frame = λ xs. record { depth = depth_over c.args.library.now c.args.imports.now; parts = parts_of c.args.library.now c.args.imports.now; names = fold with_name (sorts_of c.args.library.now (parts_of c.args.library.now c.args.imports.now)) xs } in
    let frame : c.in_ok-frame.frame ≡ table_frame c.args.library.now c.args.imports.now t = c.in_ok-frame.ensures.frame ∙ ap over (c.deref.ensures.value ∙ c.in_ok-table.ensures.sorts) in
    depth_so c.args.library.now c.args.imports.now c.args.«module» c.len-modules.ensures.library c.requires.ready c.requires.imports c.in_ok-frame.frame frame
    c.in_ok-table.table.pairs.items c.in_ok-table.ensures.pairs c.in_ok-table.table.declarations.items c.in_ok-table.ensures.declarations

pub make_module-requires-clause-signable : goal.make_module-requires-clause-signable
make_module-requires-clause-signable c =
    let t = table_of c.args.«module» in
    let over : List (List ℕ) → Frame = λ xs. record { depth = depth_over c.args.library.now c.args.imports.now; parts = parts_of c.args.library.now c.args.imports.now; names = fold with_name (sorts_of c.args.library.now (parts_of c.args.library.now c.args.imports.now)) xs } in
    let frame : c.in_ok-frame.frame ≡ table_frame c.args.library.now c.args.imports.now t = c.in_ok-frame.ensures.frame ∙ ap over (c.deref.ensures.value ∙ c.in_ok-table.ensures.sorts) in
    signable_so c.args.library.now c.args.imports.now c.args.«module» c.len-modules.ensures.library c.requires.ready c.requires.imports c.in_ok-frame.frame frame
    c.in_ok-table.table.pairs.items c.in_ok-table.ensures.pairs c.in_ok-table.table.declarations.items c.in_ok-table.ensures.declarations

pub make_module-requires-clause-variables : goal.make_module-requires-clause-variables
make_module-requires-clause-variables c =
    let t = table_of c.args.«module» in
    let over : List (List ℕ) → Frame = λ xs. record { depth = depth_over c.args.library.now c.args.imports.now; parts = parts_of c.args.library.now c.args.imports.now; names = fold with_name (sorts_of c.args.library.now (parts_of c.args.library.now c.args.imports.now)) xs } in
    let frame : c.in_ok-frame.frame ≡ table_frame c.args.library.now c.args.imports.now t = c.in_ok-frame.ensures.frame ∙ ap over (c.deref.ensures.value ∙ c.in_ok-table.ensures.sorts) in
    variables_so c.args.library.now c.args.imports.now c.args.«module» c.len-modules.ensures.library c.requires.ready c.requires.imports c.in_ok-frame.frame frame
    c.in_ok-table.table.pairs.items c.in_ok-table.ensures.pairs c.in_ok-table.table.declarations.items c.in_ok-table.ensures.declarations
    c.in_ok-table.table.variables.items c.in_ok-table.ensures.variables

pub make_module-requires-clause-tops : goal.make_module-requires-clause-tops
make_module-requires-clause-tops c =
    let t = table_of c.args.«module» in
    let over : List (List ℕ) → Frame = λ xs. record { depth = depth_over c.args.library.now c.args.imports.now; parts = parts_of c.args.library.now c.args.imports.now; names = fold with_name (sorts_of c.args.library.now (parts_of c.args.library.now c.args.imports.now)) xs } in
    let frame : c.in_ok-frame.frame ≡ table_frame c.args.library.now c.args.imports.now t = c.in_ok-frame.ensures.frame ∙ ap over (c.deref.ensures.value ∙ c.in_ok-table.ensures.sorts) in
    tops_so c.args.library.now c.args.imports.now c.args.«module» c.len-modules.ensures.library c.requires.ready c.requires.imports c.in_ok-frame.frame frame
    c.in_ok-table.table.pairs.items c.in_ok-table.ensures.pairs c.in_ok-table.table.declarations.items c.in_ok-table.ensures.declarations
    c.in_ok-frame.ensures.within c.in_ok-frame.ensures.known

pub make_module-requires-clause-truth : goal.make_module-requires-clause-truth
make_module-requires-clause-truth c =
    let t = table_of c.args.«module» in
    let over : List (List ℕ) → Frame = λ xs. record { depth = depth_over c.args.library.now c.args.imports.now; parts = parts_of c.args.library.now c.args.imports.now; names = fold with_name (sorts_of c.args.library.now (parts_of c.args.library.now c.args.imports.now)) xs } in
    let frame : c.in_ok-frame.frame ≡ table_frame c.args.library.now c.args.imports.now t = c.in_ok-frame.ensures.frame ∙ ap over (c.deref.ensures.value ∙ c.in_ok-table.ensures.sorts) in
    truth_so c.args.library.now c.args.imports.now c.args.«module» c.len-modules.ensures.library c.requires.ready c.requires.imports c.in_ok-frame.frame frame
    c.in_ok-table.table.pairs.items c.in_ok-table.ensures.pairs c.in_ok-table.table.declarations.items c.in_ok-table.ensures.declarations
    c.in_ok-frame.ensures.within c.in_ok-frame.ensures.known
