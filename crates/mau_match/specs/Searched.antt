-- What the search over the variables of a pattern needs, keeps and finds.
use Rattle.std.specs.Prelude.{◌≡◌, ◌++◌, ℕ, List, [], ◌∷◌, All, Bool, true, false, Option, None, Some, length}
use Rattle.std.specs.Borrow.{Bor}
use Rattle.std.specs.declared.cmp.Ordering.{Ordering}
use Rattle.mau_terms.specs.Tree.{Tree}
use Rattle.mau_terms.specs.View.{tree_of}
use Rattle.mau_terms.specs.declared.ids.TermId.{TermId}
use Rattle.mau_signature.specs.Signature.{SignatureOf, theory_at}
use Rattle.mau_store.specs.Node.{Node, Extends}
use Rattle.mau_store.specs.Trees.{tree_at, trees_at}
use Rattle.mau_store.specs.View.{numbers}
use Rattle.mau_canon.specs.Standing.{StandWithin}
use Rattle.mau_sorts.specs.HasSort.{Known}
use Rattle.mau_sorts.specs.Table.{Table, IsSettled, AreOver, KeepsEntries}
use Rattle.mau_listing.specs.declared.places.Place.{Place}
use Rattle.mau_listing.specs.Places.{under_all}
use Rattle.mau_listing.specs.Answers.{IsAnswer}
use Rattle.mau_listing.specs.Asked.{question_in, IsTableOf, IsClosedTable, BySort, MaySettle, CanGoOn}
use Rattle.mau_trial.specs.Tried.{ArePlacesOf, asked_in}
use Rattle.mau_trial.specs.declared.tried.Trial.{Trial}
use Rattle.mau_match.specs.Search.{IsBehind, IsHeadBehind, IsFirst, IsEnd, IsFirstFrom, IsNoneFrom, Onward}
use Rattle.mau_match.specs.Listing.{order_at}

-- the store and the table have grown, and nothing was settled but what a listing for this subject may settle
pub record Grows (s : SignatureOf) (subject : Tree) (old new : List Node) (before after : Table) : Type 0 where
  pub extends : Extends old new
  pub entries : (i : ℕ) → IsSettled after i → MaySettle s new before subject i
  pub kept : KeepsEntries before after
  pub over : AreOver s.hierarchy after
  pub table : (known : Known) → IsTableOf s known old before → IsTableOf s known new after
  pub closed : IsClosedTable old before → IsClosedTable new after

abbrev pub subject_in : List Node → Trial → Tree
subject_in nodes t = tree_at nodes t.subject.0

-- the numbers of values that are normal forms within the limits, and settled
pub record AreChosen (s : SignatureOf) (nodes : List Node) (table : Table) (ids : List TermId) : Type 0 where
  pub within : StandWithin (theory_at s) nodes (numbers ids)
  pub settled : All (IsSettled table) (numbers ids)

-- what the search needs: that a listing can go on, the places of the pattern, and values for the first of them
pub record IsReadyToSearch (s : SignatureOf) (nodes : List Node) (table : Table) (t : Trial) (ps : List Place) (ids : List TermId) : Type 0 where
  pub can : CanGoOn false s nodes table (asked_in t) t.last
  pub places : ArePlacesOf s (tree_of t.pattern) ps
  pub chosen : AreChosen s nodes table ids

-- the answers, where so much is known of sorts
abbrev pub AnswerIn : SignatureOf → Known → List Node → Trial → List Tree → Type 0
AnswerIn s known nodes t = IsAnswer s (BySort s known) (question_in nodes (asked_in t))

-- the order of the values at each place
abbrev pub order_of : SignatureOf → List Place → ℕ → Tree → Tree → Ordering
order_of s ps = order_at (theory_at s) (under_all ps)

-- the answers that begin with these values, without them
abbrev pub Rest : SignatureOf → Known → List Node → Trial → List Place → List TermId → List Tree → Type 0
Rest s known nodes t ps chosen = Onward (order_of s ps) (AnswerIn s known nodes t) (trees_at nodes (numbers chosen))

-- the other values of the last solution, if they count
abbrev pub last_in : List Node → Option (Bor (List TermId)) → Option (List Tree)
last_in nodes None = None
last_in nodes (Some l) = Some (trees_at nodes (numbers l.now))

-- the first answer behind the last one that begins with the chosen values is put behind them, or there is none
abbrev pub IsFound : SignatureOf → Known → Trial → List Place → List Node → List Node → List TermId → Option (List Tree) → List TermId → Bool → Type 0
IsFound s known t ps old new chosen last after true = (ys : List TermId) × (after ≡ chosen ++ ys) × IsFirst (order_of s ps) (Rest s known old t ps chosen) (length chosen) last (trees_at new (numbers ys))
IsFound s known t ps old new chosen last after false = IsEnd (order_of s ps) (Rest s known old t ps chosen) (length chosen) last

-- the same of answers whose next value stands behind a value
abbrev pub IsFoundFrom : SignatureOf → Known → Trial → List Place → List Node → List Node → List TermId → Option Tree → List TermId → Bool → Type 0
IsFoundFrom s known t ps old new chosen value after true = (ys : List TermId) × (after ≡ chosen ++ ys) × IsFirstFrom (order_of s ps) (Rest s known old t ps chosen) (length chosen) value (trees_at new (numbers ys))
IsFoundFrom s known t ps old new chosen value after false = IsNoneFrom (order_of s ps) (Rest s known old t ps chosen) (length chosen) value

-- the same of answers whose next value is this one
abbrev pub IsFoundWith : SignatureOf → Known → Trial → List Place → List Node → List Node → List TermId → TermId → Option (List Tree) → List TermId → Bool → Type 0
IsFoundWith s known t ps old new chosen value last after true = IsFound s known t ps old new (chosen ++ value ∷ []) last after true
IsFoundWith s known t ps old new chosen value last after false = IsEnd (order_of s ps) (Rest s known old t ps (chosen ++ value ∷ [])) (length (chosen ++ value ∷ [])) last

-- other values are put behind the chosen ones, and these stand behind the last ones, whatever is known of sorts
abbrev pub GoesBehind : SignatureOf → List Place → List Node → List TermId → Option (List Tree) → List TermId → Type 0
GoesBehind s ps nodes chosen last after = (ys : List TermId) × (after ≡ chosen ++ ys) × IsBehind (order_of s ps) (length chosen) last (trees_at nodes (numbers ys))

-- the same of others whose first one stands behind a value
abbrev pub GoesBehindFrom : SignatureOf → List Place → List Node → List TermId → Option Tree → List TermId → Type 0
GoesBehindFrom s ps nodes chosen value after = (ys : List TermId) × (after ≡ chosen ++ ys) × IsHeadBehind (order_of s ps) (length chosen) value (trees_at nodes (numbers ys))
