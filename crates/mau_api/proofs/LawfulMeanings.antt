-- The meanings by the definitions of evaluation have the laws of meanings.
use Rattle.mau_evaluation.proofs.Stay.{evaluation_stays, sorts_stay, solving_stays, solving_after_stays}
use Rattle.mau_evaluation.proofs.Limits.{levels_alone, budgets_alone}
use Rattle.mau_evaluation.proofs.Falls.{budgets_fall}
use Rattle.mau_api.specs.Programs.{program_over}
use Rattle.mau_api.specs.Meanings.{MeaningsAreLawful}

pub meanings_are_lawful : MeaningsAreLawful
meanings_are_lawful p hooks limit remembers =
    let P = program_over p hooks in
    record {
      evaluation = λ t. record { stays = evaluation_stays P t; levels = λ k j B l. levels_alone.0 P k j B l t; budgets = λ k B C l. budgets_alone.0 P k B C l t };
      solving = λ c σ. record { stays = solving_stays P c σ; levels = λ k j B l. levels_alone.2 P k j B l c σ; budgets = λ k B C l. budgets_alone.2 P k B C l c σ };
      solving_after = λ last c σ. record { stays = solving_after_stays P last c σ; levels = λ k j B l. levels_alone.3 P k j B l last c σ; budgets = λ k B C l. budgets_alone.3 P k B C l last c σ };
      sorting = λ t. record { stays = sorts_stay P t; levels = λ k j B l. levels_alone.1 P k j B l t; budgets = λ k B C l. budgets_alone.1 P k B C l t };
      evaluation_falls = λ k B t. budgets_fall.0 P k B t;
      solving_falls = λ k B c σ. budgets_fall.1 P k B c σ;
    }
