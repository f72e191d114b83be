use Rattle.std.proofs.Common.{◌≡◌, false, IfSome}
use Rattle.std.specs.Option.{option_map}
use Rattle.mau_sorts.specs.HasSort.{Known}
use Rattle.mau_listing.specs.Asked.{question_in, matcher_in, IsTableOf, CanBeLast}
use Rattle.mau_listing.specs.Finite.{count_left}
use Rattle.mau_trial.specs.Tried.{asked_in}
use Rattle.mau_match.specs.Searched.{Grows, subject_in}
use Rattle.mau_extend.specs.Extended.{IsAheadOf, shaped_asked}
use Rattle.mau_extend.proofs.search.first_accepted.Given as goal

abbrev pub invariant-loop-found : goal.invariant-loop-found
invariant-loop-found g l = record {
  asked : g.L.Lister.asked l.listing ≡ shaped_asked l.shape (asked_in l.trial);
  signature : g.L.Lister.is_for l.listing l.sig;
  given : IfSome (g.L.Lister.given l.listing) (CanBeLast false l.sig l.store l.sorts (shaped_asked l.shape (asked_in l.trial)));
  grows : Grows l.sig (subject_in l.fn.store l.trial) l.fn.store l.store l.fn.sorts l.sorts;
  ahead : (known : Known) → IsTableOf l.sig known l.fn.store l.fn.sorts →
      IsAheadOf l.sig known (question_in l.fn.store (asked_in l.trial)) l.shape (option_map (matcher_in l.fn.store) l.trial.last) (option_map (matcher_in l.fn.store) (g.L.Lister.given l.fn.listing)) →
      IsAheadOf l.sig known (question_in l.fn.store (asked_in l.trial)) l.shape (option_map (matcher_in l.fn.store) l.trial.last) (option_map (matcher_in l.store) (g.L.Lister.given l.listing));
}

abbrev pub decreases-loop-found : goal.decreases-loop-found
decreases-loop-found g l = count_left l.sig l.store (shaped_asked l.shape (asked_in l.trial)) (g.L.Lister.given l.listing)
