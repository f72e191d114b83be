use Rattle.std.proofs.Common.{Contains}
use Rattle.std.proofs.lemmas.List.Elements.{All-contains_itself, All-drop, All-take}
use Rattle.mau_extend.proofs.narrowed.middle.Goals as goal

pub returns-clause-among : goal.returns-clause-among
returns-clause-among c =
    let xs = c.args.values.now in
    All-take (Contains xs) _ _ (All-drop (Contains xs) _ xs (All-contains_itself xs))
