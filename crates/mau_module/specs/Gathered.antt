-- What is read of a module of a text in turn: all its statements.
use Rattle.std.specs.Prelude.{◌≡◌, List, Ok}
use Rattle.mau_signature.specs.Signature.{SignatureOf}
use Rattle.mau_modtext.specs.Word.{Word}
use Rattle.mau_modtext.specs.declared.raw.RawModule.{RawModule}
use Rattle.mau_declare.specs.Elements.{Elements}
use Rattle.mau_module.specs.declared.statements.Counts.{Counts}
use Rattle.mau_module.specs.Modules.{StatementsOf, and_more, ModuleOf}
use Rattle.mau_module.specs.Behind.{counts_of}
use Rattle.mau_module.specs.Framed.{Frame}
use Rattle.mau_module.specs.Stated.{AreLawful}
use Rattle.mau_module.specs.Flattened.{carried_in, OwnAs}
use Rattle.mau_module.specs.Made.{AreLawfulOver}

-- all its statements, of which so many are those of its parts
pub record AreStatements (ms : List ModuleOf) (ws : List Word) (raw : RawModule) (f : Frame) (e : Elements) (s : SignatureOf) (n : Counts) (all : StatementsOf) : Type 0 where
  pub lawful : AreLawful s (carried_in ms f s)
  pub own : StatementsOf
  pub read : OwnAs ms ws raw f e s (Ok own)
  pub its : AreLawfulOver s own
  pub counted : n ≡ counts_of (carried_in ms f s)
  pub whole : all ≡ and_more (carried_in ms f s) own
