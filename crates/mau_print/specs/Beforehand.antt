-- What is found out before the layouts are made: how many things have each text, the first sorts of kinds, and productions.
use Rattle.std.specs.Prelude.{◌≡◌, ℕ, List, Bool, length, slice_get, Some, unwrap_or, count_by, bytes_eq, if◌then◌else◌}
use Rattle.std.specs.HashMap.{get_by_text}
use Rattle.mau_poset.specs.Order.{Hierarchy}
use Rattle.mau_signature.specs.declared.decl.Decl.{Decl}
use Rattle.mau_grammar.specs.declared.production.Production.{Production}
use Rattle.mau_grammar.specs.Grammar.{GrammarOf}
use Rattle.mau_grammar.specs.Parts.{parts_in_order}
use Rattle.mau_grammar.specs.Productions.{argument_kinds, level}
use Rattle.mau_print.specs.declared.layout.Layout.{Layout}
use Rattle.mau_print.specs.declared.layout.Layout.TheVariants.{Form, Chain}
use Rattle.mau_print.specs.declared.making.Known.{Known}
use Rattle.mau_print.specs.FirstSorts.{AreFirstNames}

-- this is what is known of the sorts of g, where `owned` are the texts of constants and declared variables
pub record AreKnown (g : GrammarOf) (owned : List (List ℕ)) (k : Known) : Type 0 where
  pub counted : (q : List ℕ) → unwrap_or (get_by_text k.counts q) 0 ≡ count_by (bytes_eq q) owned
  pub firsts : AreFirstNames g.sorts k.first_kind (length k.firsts.items) k.firsts.items

-- the production at this place has the level and the parts in which terms with the first declaration d are written
pub record IsProductionFor (h : Hierarchy) (g : GrammarOf) (d : Decl) (at : ℕ) : Type 0 where
  pub production : Production
  pub there : slice_get g.productions at ≡ Some production
  pub level : production.level ≡ level d
  pub parts : production.parts ≡ parts_in_order d (argument_kinds h d)

-- the layout of a form with holes, by its production
abbrev pub production_layout : Bool → Production → Layout
production_layout is_list p = if is_list then Chain p.level p.parts else Form p.level p.parts
