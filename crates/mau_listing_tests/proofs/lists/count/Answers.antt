use Rattle.std.proofs.Common.{◌≡◌, ℕ, List, Option, Some, None, IfSome, true, is_some, sym, ◌∙◌}
use Rattle.std.specs.Borrow.{Bor}
use Rattle.mau_terms.specs.declared.ids.TermId.{TermId}
use Rattle.mau_store.specs.View.{numbers}
use Rattle.mau_lists.proofs.Fewer.{sub_list_calls_leave_fewer}
use Rattle.mau_listing_tests.proofs.lists.count.Goals as goal

-- the list that was due, where one was given
given : (o : Option (Bor (List TermId))) (due : Option (List ℕ)) → is_some o ≡ true → IfSome o (λ l. due ≡ Some (numbers l.now)) → (list : List ℕ) × (due ≡ Some list)
given None due e h = absurd (cc)
given (Some l) due e h = (numbers l.now, h)

pub loop-count-smaller : goal.loop-count-smaller
loop-count-smaller c =
    let list = given c.next.result c.loop-count.lists.due (sym c.is_some.ensures ∙ c.loop-count-test.true) c.next.ensures.value in
    sub_list_calls_leave_fewer c.args.store.now c.loop-count.lists c.next.follows.lender-at-none list.0 c.next.follows.holds-at-none list.1
