-- The bytes of the answers.
use Rattle.std.specs.Prelude.{ℕ, zero, suc, ◌+◌, ◌==◌, Bool, true, false, ◌&&◌, List, [], ◌∷◌, ◌++◌, length, Option, None, Some, codes, decimal, if◌then◌else◌}
use Rattle.mau_terms.specs.Tree.{Tree}
use Rattle.mau_terms.specs.Norm.{norm}
use Rattle.mau_terms.specs.Subst.{Variable, variables, with_values}
use Rattle.mau_terms.specs.Solution.{assoc_top, over_list}
use Rattle.mau_listing.specs.Matcher.{Matcher}
use Rattle.mau_tokens.specs.declared.token.TokenFault.{TokenFault}
use Rattle.mau_tokens.specs.declared.token.TokenFault.TheVariants.{NotUtf8, OpenComment, OpenString, TokenTooLong, NoMemory}
use Rattle.mau_statement.specs.declared.fault.Limit.{Limit as StatementLimit}
use Rattle.mau_statement.specs.declared.fault.Limit.TheVariants.{Variables, Fragments}
use Rattle.mau_statement.specs.declared.fault.StatementFault.{StatementFault}
use Rattle.mau_statement.specs.declared.fault.StatementFault.TheVariants.{LimitExceeded, Parse, UnknownSort as UnknownSortOfStatement, LhsVariable, MembershipHead, UnboundVariable, NoMemory as NoMemoryOfStatement}
use Rattle.mau_module.specs.Modules.{ModuleOf}
use Rattle.mau_module.specs.declared.fault.Limit.{Limit}
use Rattle.mau_module.specs.declared.fault.Limit.TheVariants.{Sorts, Declarations, Statements}
use Rattle.mau_strattext.specs.declared.fault.StratFault.{StratFault}
use Rattle.mau_strattext.specs.declared.fault.StratFault.TheVariants.{TooManyTokens as TooManyWords, Unexpected as UnexpectedWord, UnknownName, Parse as NoTerm, Arity, NoMemory as NoMemoryOfStrategy}
use Rattle.mau_module.specs.declared.fault.ModuleFault.{ModuleFault}
use Rattle.mau_module.specs.declared.fault.ModuleFault.TheVariants.{UnknownModule as UnknownImport, ImportTooDeep, TooLarge, UnknownSort, Signed, Statement, Strategy, NoMemory as NoMemoryOfModule}
use Rattle.mau_session.specs.declared.refusal.Refusal.{Refusal}
use Rattle.mau_session.specs.declared.refusal.Refusal.TheVariants.{NotBuilt, UnknownModule, BadBound, NothingToContinue, RewritingCondition}
use Rattle.mau_modtext.specs.Word.{Word}
use Rattle.mau_modtext.specs.declared.raw.TextFault.{TextFault}
use Rattle.mau_modtext.specs.declared.raw.TextFault.TheVariants.{Unended, Unexpected, Unsupported}
use Rattle.mau_declare.specs.Words.{text_at, place_at}
use Rattle.mau_parse.specs.declared.fault.ParseFault.{ParseFault}
use Rattle.mau_parse.specs.declared.fault.ParseFault.TheVariants.{NoParse, Ambiguous, TooManyTokens, NumberTooLarge, SuccessorTooLarge, NoMemory as NoMemoryOfParse}
use Rattle.mau_session.specs.Terms.{Pairs, terms_in}
use Rattle.mau_print.specs.Printed.{PrinterOf, shown}
use Rattle.mau_session.specs.Shown.{shown_variable, printer_in}

-- each answer begins with the number of its item
abbrev pub item_head : ℕ → List ℕ
item_head k = codes "[" ++ decimal k ++ codes "] "

-- ---- refusals: the name of the fault, the word that it names, and its place

abbrev pub shown_refusal : List Word → Refusal → List ℕ
shown_refusal ws (NotBuilt i) = codes "NotBuilt " ++ text_at ws i ++ codes " " ++ decimal (place_at ws i)
shown_refusal ws (UnknownModule i) = codes "UnknownModule " ++ text_at ws i
shown_refusal ws BadBound = codes "BadBound"
shown_refusal ws NothingToContinue = codes "NothingToContinue"
shown_refusal ws (RewritingCondition i) = codes "RewritingCondition " ++ decimal (i + 1)

abbrev pub refusal_line : ℕ → List Word → Refusal → List ℕ
refusal_line k ws r = item_head k ++ codes "refused: " ++ shown_refusal ws r ++ codes "\n"

-- the answer of an item that is refused with this text
abbrev pub faulty_line : ℕ → List ℕ → List ℕ
faulty_line k text = item_head k ++ codes "refused: " ++ text ++ codes "\n"

-- the fault of an item: its name, that of a form which is known by name alone, and the place
abbrev pub shown_text_fault : TextFault → List ℕ
shown_text_fault (Unended at) = codes "Unended " ++ decimal at
shown_text_fault (Unexpected at) = codes "Unexpected " ++ decimal at
shown_text_fault (Unsupported name at) = codes "Unsupported " ++ name ++ codes " " ++ decimal at

abbrev pub text_fault_line : ℕ → TextFault → List ℕ
text_fault_line k f = faulty_line k (shown_text_fault f)

-- why the tokens of a command are no term: the name of the fault, and its place or the number of tokens; want of memory has none
abbrev pub shown_parse_fault : ParseFault → List ℕ
shown_parse_fault (NoParse at) = codes "NoParse " ++ decimal at
shown_parse_fault (Ambiguous at a b) = codes "Ambiguous " ++ decimal at
shown_parse_fault (TooManyTokens n) = codes "TooManyTokens " ++ decimal n
shown_parse_fault (NumberTooLarge at) = codes "NumberTooLarge " ++ decimal at
shown_parse_fault (SuccessorTooLarge at) = codes "SuccessorTooLarge " ++ decimal at
shown_parse_fault NoMemoryOfParse = []

abbrev pub parse_fault_line : ℕ → ParseFault → List ℕ
parse_fault_line k f = faulty_line k (shown_parse_fault f)

-- why a statement of a module is refused, which has the number i: the name of the fault and the number, but of a part that is no term
-- the number first; want of memory has none
abbrev pub statement_limit_name : StatementLimit → List ℕ
statement_limit_name Variables = codes "variables"
statement_limit_name Fragments = codes "fragments"

abbrev pub shown_statement_fault : ℕ → StatementFault → List ℕ
shown_statement_fault i (LimitExceeded limit) = codes "LimitExceeded " ++ decimal i ++ codes " " ++ statement_limit_name limit
shown_statement_fault i (Parse f) = decimal i ++ codes " " ++ shown_parse_fault f
shown_statement_fault i (UnknownSortOfStatement at) = codes "UnknownSort " ++ decimal at
shown_statement_fault i LhsVariable = codes "LhsVariable " ++ decimal i
shown_statement_fault i MembershipHead = codes "MembershipHead " ++ decimal i
shown_statement_fault i UnboundVariable = codes "UnboundVariable " ++ decimal i
shown_statement_fault i NoMemoryOfStatement = []

-- why the call or the strategy of a definition is refused, in the statement i
abbrev pub shown_strategy_fault : StratFault → List ℕ
shown_strategy_fault (TooManyWords n) = codes "TooManyTokens " ++ decimal n
shown_strategy_fault (UnexpectedWord at) = codes "Unexpected " ++ decimal at
shown_strategy_fault (UnknownName at) = codes "UnknownName " ++ decimal at
shown_strategy_fault (NoTerm at f) = shown_parse_fault f
shown_strategy_fault (Arity at) = codes "Arity " ++ decimal at
shown_strategy_fault NoMemoryOfStrategy = []

abbrev pub shown_definition_fault : ℕ → StratFault → List ℕ
shown_definition_fault i f = decimal i ++ codes " " ++ shown_strategy_fault f

-- why a module is refused: the name of the fault, and the name, the limit or the place that it is about; what is at fault in sorts and
-- operators has its own text, and want of memory has none
abbrev pub limit_name : Limit → List ℕ
limit_name Sorts = codes "sorts"
limit_name Declarations = codes "declarations"
limit_name Statements = codes "statements"

abbrev pub shown_module_fault : ModuleFault → List ℕ
shown_module_fault (UnknownImport name) = codes "UnknownModule " ++ name
shown_module_fault ImportTooDeep = codes "ImportTooDeep"
shown_module_fault (TooLarge limit) = codes "TooLarge " ++ limit_name limit
shown_module_fault (UnknownSort at) = codes "UnknownSort " ++ decimal at
shown_module_fault (Signed text) = text
shown_module_fault (Statement i f) = shown_statement_fault i f
shown_module_fault (Strategy i f) = shown_definition_fault i f
shown_module_fault NoMemoryOfModule = []

abbrev pub module_fault_line : ℕ → ModuleFault → List ℕ
module_fault_line k f = faulty_line k (shown_module_fault f)

-- a text with a token fault has one line for its answer; want of memory has none
abbrev pub shown_fault : TokenFault → List ℕ
shown_fault (NotUtf8 i) = codes "NotUtf8 " ++ decimal i
shown_fault (OpenComment i) = codes "OpenComment " ++ decimal i
shown_fault (OpenString i) = codes "OpenString " ++ decimal i
shown_fault (TokenTooLong i) = codes "TokenTooLong " ++ decimal i
shown_fault NoMemory = []

abbrev pub fault_line : TokenFault → List ℕ
fault_line f = codes "refused: " ++ shown_fault f ++ codes "\n"

-- ---- settings, modules and listings

-- the answer of a setting
abbrev pub ok_line : ℕ → List ℕ
ok_line k = item_head k ++ codes "ok\n"

-- the answer of an item that names a module which isn't there
abbrev pub unknown_module_line : ℕ → List ℕ → List ℕ
unknown_module_line k name = faulty_line k (codes "UnknownModule " ++ name)

abbrev pub module_line : ℕ → ModuleOf → List ℕ
module_line k m = item_head k ++ codes "module " ++ m.name ++ codes "\n"

-- a value, which is a normal form
abbrev pub value_line : ModuleOf → Pairs → Variable → Tree → List ℕ
value_line m ns x v = shown_variable m ns x.0 x.1 ++ codes " --> " ++ shown (printer_in m) ns v ++ codes "\n"

abbrev pub value_lines : ModuleOf → Pairs → List Variable → List Tree → List ℕ
value_lines m ns (x ∷ xs) (v ∷ vs) = value_line m ns x v ++ value_lines m ns xs vs
value_lines m ns (x ∷ xs) [] = []
value_lines m ns [] vs = []

abbrev pub substitution_lines : ModuleOf → Pairs → List Variable → List Tree → List ℕ
substitution_lines m ns [] vs = codes "empty substitution\n"
substitution_lines m ns (x ∷ xs) vs = value_lines m ns (x ∷ xs) vs

-- a term behind its label
abbrev pub term_line : PrinterOf → Pairs → List ℕ → Tree → List ℕ
term_line printer ns label t = label ++ codes " = " ++ shown printer ns t ++ codes "\n"

-- both contexts are empty
abbrev pub is_whole : Matcher → Bool
is_whole x = (length x.left == 0) && (length x.right == 0)

-- the part of the subject that is matched, which is the instance of the pattern p, or that it is the whole
abbrev pub portion_line : ModuleOf → Pairs → Tree → Matcher → List ℕ
portion_line m ns p x =
    if is_whole x then codes "Matched portion = (whole)\n"
    else term_line (printer_in m) ns (codes "Matched portion") (norm (terms_in m).theory (with_values p x.values))

-- a context: the operator f over its list, or no line where that is empty
abbrev pub context_line : ModuleOf → Pairs → ℕ → List ℕ → List Tree → List ℕ
context_line m ns f label [] = []
context_line m ns f label (t ∷ ts) = term_line (printer_in m) ns label (over_list ((terms_in m).theory f) f (t ∷ ts))

-- what the context behind the part is called: under a commutative operator it is all the rest
abbrev pub right_label : Bool → List ℕ
right_label comm = if comm then codes "Rest" else codes "Right context"

-- the contexts of a solution, where f is the associative operator at the top of the pattern's normal form, if it has one
abbrev pub context_lines : ModuleOf → Pairs → Option ℕ → Matcher → List ℕ
context_lines m ns None x = []
context_lines m ns (Some f) x = context_line m ns f (codes "Left context") x.left ++ context_line m ns f (right_label ((terms_in m).theory f).comm) x.right

-- what a solution with contexts shows of them, which one without does not
abbrev pub part_lines : ModuleOf → Pairs → Bool → Tree → Matcher → List ℕ
part_lines m ns false p x = []
part_lines m ns true p x = portion_line m ns p x ++ context_lines m ns (assoc_top (terms_in m).theory (norm (terms_in m).theory p)) x

-- the solution with the number i, where w says whether it has contexts
abbrev pub matcher_lines : ModuleOf → Pairs → Bool → Tree → ℕ → Matcher → List ℕ
matcher_lines m ns w p i x = codes "Matcher " ++ decimal i ++ codes "\n" ++ part_lines m ns w p x ++ substitution_lines m ns (variables p) x.values

-- the solutions, numbered from i on
abbrev pub all_matchers : ModuleOf → Pairs → Bool → Tree → ℕ → List Matcher → List ℕ
all_matchers m ns w p i [] = []
all_matchers m ns w p i (x ∷ found) = matcher_lines m ns w p i x ++ all_matchers m ns w p (i + 1) found

-- where so many solutions were shown in all, and it is said whether the listing has ended
abbrev pub last_line : Bool → ℕ → List ℕ
last_line false n = codes "Bound reached.\n"
last_line true zero = codes "No match.\n"
last_line true (suc n) = codes "No more matches.\n"

-- what a listing shows, behind so many solutions that it has shown before
abbrev pub listing_lines : ModuleOf → Pairs → Bool → Tree → ℕ → List Matcher → Bool → List ℕ
listing_lines m ns w p before found ended = all_matchers m ns w p (before + 1) found ++ last_line ended (before + length found)

-- what a command is called whose solutions have contexts, and one whose solutions have none
abbrev pub match_name : Bool → List ℕ
match_name w = if w then codes "xmatch" else codes "match"

abbrev pub match_head : ℕ → Bool → ModuleOf → List ℕ
match_head k w m = item_head k ++ match_name w ++ codes " in " ++ m.name ++ codes "\n"

abbrev pub continue_head : ℕ → ModuleOf → List ℕ
continue_head k m = item_head k ++ codes "continue in " ++ m.name ++ codes "\n"

abbrev pub reduce_head : ℕ → ModuleOf → List ℕ
reduce_head k m = item_head k ++ codes "reduce in " ++ m.name ++ codes "\n"
