use Rattle.std.proofs.Common.{◌≡◌, ◌+◌, [], ◌∷◌, ◌++◌, length, get_or, take, subst, below_more, arith}
use Rattle.std.specs.Prelude.{All}
use Rattle.std.proofs.lemmas.Bool.{OnTrue_at, OnFalse_at}
use Rattle.std.proofs.lemmas.List.{take_all, length-set}
use Rattle.std.proofs.lemmas.List.Elements.{All-tail}
use Rattle.mau_signature.specs.Faults.{IsSort}
use Rattle.mau_sigcheck.specs.Tuples.{IsKind}
use Rattle.mau_sigcheck.specs.Checking.{Meets}
use Rattle.mau_sigcheck.proofs.Walks.{HoldsFrom, sorts_extended, holds_extended, still_kept, found_behind, all_behind}
use Rattle.mau_sigcheck.proofs.checker.Checker.+find_from.Goals as goal

pub find_from-requires : goal.find_from-requires
find_from-requires t c =
    let h = c.args.self.now.hierarchy in
    let others = c.in-Some.others.now in
    let kind = c.in-Some.kind.now in
    let ms = c.members-member-items.result.now in
    let split = c.in-Some.ensures.cases in
    let long : length c.loop-member.tuple ≡ length c.args.tuple.now = c.loop-member.auto.tuple in
    let room : c.args.place + length c.args.kinds.now ≡ length c.args.tuple.now = c.requires.room in
    let shorter : length others + 1 ≡ length c.args.kinds.now = split.1 in
    let falls = c.decreases in (
      omega arith,
      (
        c.requires.operator,
        (
          All-tail (IsKind h) kind others (subst (All (IsKind h)) split.0 c.requires.kinds),
          (
            simp length-set (omega arith),
            sorts_extended h kind others (Meets c.args.self.now c.args.op.0 c.args.demand) c.args.tuple.now c.loop-member.tuple ms c.args.place c.loop-member.member-index
                c.members-member-items.ensures c.loop-member-test.true (omega arith) long c.loop-member.invariant.kept c.requires.sorts,
          ),
        ),
      ),
    )

pub returns-then-find_from-clause-found : goal.returns-then-find_from-clause-found
returns-then-find_from-clause-found t c =
    let h = c.args.self.now.hierarchy in
    let others = c.in-Some.others.now in
    let kind = c.in-Some.kind.now in
    let ms = c.members-member-items.result.now in
    let split = c.in-Some.ensures.cases in
    let long : length c.loop-member.tuple ≡ length c.args.tuple.now = c.loop-member.auto.tuple in
    let room : c.args.place + length c.args.kinds.now ≡ length c.args.tuple.now = c.requires.room in
    let shorter : length others + 1 ≡ length c.args.kinds.now = split.1 in
    found_behind h kind others (Meets c.args.self.now c.args.op.0 c.args.demand) c.args.tuple.now c.loop-member.tuple ms c.args.place c.loop-member.member-index
    c.members-member-items.ensures c.loop-member-test.true (omega arith) long c.loop-member.invariant.kept c.args.kinds.now c.find_from.new.tuple split.0 c.loop-member.invariant.below
    c.find_from.ensures.kept (OnTrue_at c.if-find_from.true c.find_from.ensures.found)

pub loop-member-preserved : goal.loop-member-preserved
loop-member-preserved t c =
    let h = c.args.self.now.hierarchy in
    let others = c.in-Some.others.now in
    let kind = c.in-Some.kind.now in
    let ms = c.members-member-items.result.now in
    let i = c.loop-member.member-index in
    let split = c.in-Some.ensures.cases in
    let long : length c.loop-member.tuple ≡ length c.args.tuple.now = c.loop-member.auto.tuple in
    let room : c.args.place + length c.args.kinds.now ≡ length c.args.tuple.now = c.requires.room in
    let shorter : length others + 1 ≡ length c.args.kinds.now = split.1 in
    let P = Meets c.args.self.now c.args.op.0 c.args.demand in
    record {
      kept = still_kept c.args.tuple.now c.loop-member.tuple c.args.place (get_or ms i 0) (omega arith) long c.loop-member.invariant.kept c.find_from.new.tuple c.find_from.ensures.kept;
      below = below_more (λ j. HoldsFrom h others P (take c.args.place c.args.tuple.now ++ get_or ms j 0 ∷ [])) i c.loop-member.invariant.below
          (holds_extended h kind others P c.args.tuple.now c.loop-member.tuple ms c.args.place i c.members-member-items.ensures c.loop-member-test.true (omega arith) long c.loop-member.invariant.kept
          (OnFalse_at c.if-find_from.false c.find_from.ensures.none));
    }

pub meets-requires-clause-sorts : goal.meets-requires-clause-sorts
meets-requires-clause-sorts t c =
    let room : c.args.place + length c.args.kinds.now ≡ length c.args.tuple.now = c.requires.room in
    let none : length c.args.kinds.now ≡ 0 = c.in-None.ensures.cases in
    subst (All (IsSort c.args.self.now.hierarchy)) (take_all c.args.place c.args.tuple.now (omega arith)) c.requires.sorts

pub returns-after-loop-member-clause-none : goal.returns-after-loop-member-clause-none
returns-after-loop-member-clause-none t c =
    all_behind c.args.self.now.hierarchy c.in-Some.kind.now c.in-Some.others.now (Meets c.args.self.now c.args.op.0 c.args.demand) (take c.args.place c.args.tuple.now)
    c.members-member-items.result.now c.args.kinds.now c.loop-member.member-index c.members-member-items.ensures c.in-Some.ensures.cases.0 c.loop-member-test.false c.loop-member.invariant.below
