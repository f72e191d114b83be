-- A definition that is read, and has no unbound variable, is lawful.
use Rattle.std.proofs.Common.{◌≡◌, List, [], Bool, true, false, ◌&&◌, All, Ok, Err, refl}
use Rattle.std.proofs.lemmas.Bool.{and_parts}
use Rattle.mau_terms.specs.Tree.{Tree}
use Rattle.mau_parse.specs.Terms.{AreGiven}
use Rattle.mau_signature.specs.Signature.{SignatureOf}
use Rattle.mau_modtext.specs.declared.raw.RawStatement.{RawStatement}
use Rattle.mau_program.specs.Binding.{has_only, listed}
use Rattle.mau_program.specs.LawfulStrategies.{IsLawfulDefinition}
use Rattle.mau_program.specs.Trees.{StrategyOf}
use Rattle.mau_program.specs.declared.definitions.StratDef.{StratDef}
use Rattle.mau_statement.specs.Parts.{Pairs}
use Rattle.mau_statement.proofs.Own.{Extends, given_more, all_more, condition_given}
use Rattle.mau_statement.proofs.Lawfulness.{given_listed, fragments_listed}
use Rattle.mau_strattext.specs.Setting.{setting_of}
use Rattle.mau_definition.specs.declared.call.Call.{Call}
use Rattle.mau_definition.specs.Calls.{call_setting, CallRead, call_reads}
use Rattle.mau_definition.specs.Bound.{binds_condition, binds_body}
use Rattle.mau_definition.specs.Definitions.{Around, BodyRead, body_reads, DefinitionReads}
use Rattle.mau_definition.specs.Inner.{HasTypedParts}
use Rattle.mau_definition.proofs.BoundLawful.{lawful_strategy}
use Rattle.mau_definition.proofs.Listed.{both_extend, strategy_given}
use Rattle.mau_tokens.specs.declared.token.Token.{Token}

module _ (a : Around) where
  call_given : (ts : List Token) (ns os : Pairs) (x : Call) → CallRead a.words a.context a.names ts ns os (Ok x) → All (AreGiven os) x.args
  call_given ts ns os x (call_reads f bs e r l) = (strategy_given (call_setting a.words a.context a.names ts) ns os _ r).given

  body_extends : (ts : List Token) (ns os : Pairs) (x : StrategyOf) → BodyRead a ts ns os (Ok x) → Extends ns os
  body_extends ts ns os x (body_reads r e w) = (strategy_given (setting_of a.words ts a.context a.labels a.names) ns os x w).extends

  pub lawful_read : (raw : RawStatement) (d : StratDef) → DefinitionReads a raw d → HasTypedParts a.context.signature d → binds_condition d && binds_body d ≡ true
      → IsLawfulDefinition a.context.signature d
  lawful_read raw d r t b =
      let cond = condition_given a.words a.context r.middle raw.cond r.last d.cond r.condition in
      let behind = body_extends raw.right r.last d.vars d.body r.body in
      let from = both_extend r.middle r.last d.vars cond.extends behind in
      let call = call_given raw.left [] r.middle (record { name = d.name; args = d.args }) r.defined in
      record {
        args = t.args;
        condition = t.condition;
        listed = (
          λ i x l. given_listed d.vars _ (given_more r.middle d.vars from _ (call i x l)),
          fragments_listed d.vars d.cond (all_more a.words a.context r.last d.vars behind d.cond cond.given),
        );
        bound = (and_parts (binds_condition d) (binds_body d) b).0;
        body = lawful_strategy a.context.signature _ d.body t.body ((and_parts (binds_condition d) (binds_body d) b).1);
      }
