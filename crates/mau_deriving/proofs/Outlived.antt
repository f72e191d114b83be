-- What was derived outlives what others do.
use Rattle.std.proofs.Common.{◌≡◌, ℕ, ◌+◌, ◌-◌, ◌≤◌, subst, arith}
use Rattle.mau_sorts.proofs.Settling.{kept_same}
use Rattle.mau_evaluation.specs.Run.{done}
use Rattle.mau_evaluation.specs.Evaluation.{sorts_at, solve_at}
use Rattle.mau_evaluation.proofs.Stay.{sorts_stay, solving_stays}
use Rattle.mau_api.specs.Programs.{program_over}
use Rattle.mau_deriving.specs.Outliving.{StandingOutlives, DerivationsOutlive, AnswersOutlive, EntriesOutlive}
use Rattle.mau_deriving.proofs.Kept.{stands_grown, derives_grown}

pub standing_outlives : StandingOutlives
standing_outlives p old new extends before after kept over d h = stands_grown p old new before after extends kept over d h

pub derivations_outlive : DerivationsOutlive
derivations_outlive p hooks limit old new extends table d h k = derives_grown p old new table table extends (kept_same table) h.can_be_asked.over hooks limit d h k

pub answers_outlive : AnswersOutlive
answers_outlive P B B' l c σ holds w =
    let more : B + (B' - B) ≡ B' = omega (arith, l) in
    let z = (solving_stays P c σ w.levels w.levels B B' B (B' - B) (omega arith) l).0 w.solution w.count w.left w.was in
    record {
      levels = w.levels;
      solution = w.solution;
      count = w.count;
      left = w.left + (B' - B);
      was = subst (λ n. solve_at P w.levels B' c σ n ≡ done w.solution w.count (w.left + (B' - B))) more z;
      is = w.is;
    }

pub entries_outlive : EntriesOutlive
entries_outlive p hooks limit larger remembers l nodes table d = record {
  entries = λ i e at normal.
      let own = d.entries i e at normal in
      record {
        levels = own.levels;
        sorts = own.sorts;
        known = λ b.
            let z = (sorts_stay (program_over p hooks) _ own.levels own.levels limit larger 0 b (omega arith) l).0 own.sorts 0 0 (own.known 0) in
            let same : 0 + b ≡ b = omega arith in
            subst (λ n. sorts_at (program_over p hooks) own.levels larger _ n ≡ done own.sorts 0 n) same z;
        exact = own.exact;
      };
  known = d.known;
  declared = d.declared;
  over = d.over;
  closed = d.closed;
}
