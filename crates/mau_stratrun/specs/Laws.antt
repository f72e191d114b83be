-- What is yielded by leaves and calls, in the words of mau_evaluation: who gives results or bodies one after another meets `Leaves` by these.
use Rattle.std.specs.Prelude.{◌≡◌, ℕ, List, map}
use Rattle.mau_terms.specs.Tree.{Tree}
use Rattle.mau_evaluation.specs.Engine.{engine_of}
use Rattle.mau_evaluation.specs.Strategy.{call}
use Rattle.mau_evaluation.specs.Configs.{Todo}
use Rattle.mau_evaluation.specs.OrderedLists.{LeafList, BodyList}
use Rattle.mau_evaluation.specs.Entries.{LeafFront, BodyFront}
use Rattle.mau_evaluation.specs.Eventually.{Eventually}
use Rattle.mau_stratrun.specs.Settings.{Fixed}
use Rattle.mau_stratrun.specs.Yields.{result_of, body_on, YieldsFirst, YieldsAll}

-- first results of a leaf are what it yields first, and all results are all
abbrev pub LeavesYield : Type 0
LeavesYield = (f : Fixed) (d : Todo) (t : Tree) (us : List Tree) →
    (Eventually (engine_of f.program) (λ L. LeafFront f.program L f.definitions d t us) → YieldsFirst f d t (map result_of us)) ×
    (Eventually (engine_of f.program) (λ L. LeafList f.program L d t us) → YieldsAll f d t (map result_of us))

-- so it is with the bodies of a call
abbrev pub CallsYield : Type 0
CallsYield = (f : Fixed) (d : Todo) (n : List ℕ) (ts : List Tree) → d.form ≡ call n ts → (t : Tree) (bs : List Todo) →
    (Eventually (engine_of f.program) (λ L. BodyFront f.program L f.definitions d t bs) → YieldsFirst f d t (map (body_on t) bs)) ×
    (Eventually (engine_of f.program) (λ L. BodyList f.program L f.definitions d t bs) → YieldsAll f d t (map (body_on t) bs))
