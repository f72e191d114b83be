-- What an answer adds to the bytes so far.
use Rattle.std.specs.Prelude.{◌≡◌, List, ◌++◌, ℕ, Bool}
use Rattle.mau_formula.specs.Operator.{Operator}
use Rattle.mau_facts.specs.declared.document.Section.{Section}
use Rattle.mau_module.specs.Modules.{ModuleOf}
use Rattle.mau_docheck.specs.Known.{KnownBefore}
use Rattle.mau_docheck.specs.DocumentTranscript.{JudgedAs, SectionAnswer}

pub record GainsJudged (hooks : List Operator) (m : ModuleOf) (x : Section) (old new : List ℕ) (refused : Bool) : Type 0 where
  pub bytes : List ℕ
  pub answer : JudgedAs hooks m x bytes refused
  pub gained : new ≡ old ++ bytes

pub record GainsSection (hooks : List Operator) (text : List ℕ) (x : Section) (old new : List ℕ) (refused : Bool) : Type 0 where
  pub all : List ModuleOf
  pub known : KnownBefore text x.item all
  pub bytes : List ℕ
  pub answer : SectionAnswer hooks all x bytes refused
  pub gained : new ≡ old ++ bytes
