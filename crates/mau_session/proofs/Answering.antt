-- The answers of items, from what their parts give.
use Rattle.std.proofs.Common.{◌≡◌, ℕ, ◌+◌, List, [], ◌∷◌, ◌++◌, Bool, true, false, ◌||◌, Option, None, Some, Result, Ok, Err, IfOk, OnOk, refl, sym, ◌∙◌, ap, ap₂, subst, append_assoc, append-nil}
use Rattle.std.specs.Prelude.{slice_get}
use Rattle.mau_terms.specs.Tree.{Tree}
use Rattle.mau_api.specs.Meanings.{Meanings}
use Rattle.mau_module.specs.Modules.{ModuleOf}
use Rattle.mau_modtext.specs.Word.{Word}
use Rattle.mau_modtext.specs.declared.raw.RawItem.{RawItem}
use Rattle.mau_modtext.specs.declared.raw.RawBody.{RawBody}
use Rattle.mau_modtext.specs.declared.raw.TextFault.{TextFault}
use Rattle.mau_declare.specs.Words.{index_at}
use Rattle.mau_session.specs.Built.{has_context}
use Rattle.mau_modtext.specs.declared.raw.RawCommand.{RawCommand}
use Rattle.mau_terms.specs.View.{tree_of}
use Rattle.mau_terms.specs.declared.bare.Bare.{Bare}
use Rattle.mau_session.specs.Terms.{Pairs}
use Rattle.mau_session.specs.Query.{QueryOf, asked_first, shown_more}
use Rattle.mau_session.specs.State.{a_listing, a_listing_where, GoingOf, StateOf, at_first, IsChosen, OutcomeOf, is_refused, has_ended, goes_on, left_by, refuses, state_after}
use Rattle.mau_session.specs.Bounds.{bound_of}
use Rattle.mau_session.specs.Commands.{has_condition, unbuilt}
use Rattle.mau_parse.specs.declared.goals.Goal.TheVariants.{AnyKind}
use Rattle.mau_statement.specs.Parts.{TermReads}
use Rattle.mau_session.specs.Environment.{Environment, meanings_in}
use Rattle.mau_session.specs.Next.{GainsShown}
use Rattle.mau_program.specs.declared.statements.Fragment.{Fragment}
use Rattle.mau_conditional.specs.Where.{Ending, no_more, bound_reached, ends_by}
use Rattle.mau_session.specs.Where.{left_where, where_lines, IsConditionOf, WhereAnswer, where_too_deep, where_overflows, where_sorts_end, where_listed}
use Rattle.mau_session.specs.Transcript.{TermsRead, TermsAnswer, too_deep, overflows, sorts_end, listed, asks_where, MatchAnswer, bound_refused, command_answered, ContinueAnswer, continued, continued_where, term_answered, BodyAnswer, item_faulty, item_answered, ItemsAnswer, item_first}
use Rattle.mau_session.specs.Gains.{GainsListing, GainsListed, gains_solutions, gains_sorts_end, gains_too_deep, gains_overflow, GainsWhere, GainsListedWhere, gains_solutions_where, gains_sorts_end_where, gains_too_deep_where, gains_overflow_where, GainsTerms, ChosenAnswer, chosen_refused, chosen_answered, GainsChosen, GainsMatch, GainsOn, GainsOnWhere, GainsContinue, GainsAnswer, GainsTerm, GainsBody, GainsItem}
use Rattle.mau_session.specs.Lines.{too_deep_line, overflow_line, end_line, answer_lines}
use Rattle.mau_session.specs.Answers.{text_fault_line, listing_lines, match_head, continue_head, reduce_head}

-- what was written answers an item, where it is known whether that is a refusal
pub answered_with : {E A : Type 0} (v : Bool) (P : Bool → Type 0) (r : Result Bool E) → OnOk r A → IfOk r (λ b. b ≡ v) → (A → P v) → IfOk r P
answered_with v P (Ok b) a e f = subst P (sym e) (f a)
answered_with v P (Err e) a h f = tt

pub refused_with : {E A : Type 0} (P : Bool → Type 0) (r : Result Bool E) → OnOk r A → IfOk r (λ b. b ≡ true) → (A → P true) → IfOk r P
refused_with = answered_with true

-- so does the fault of a term
pub unread_with : {T E A B : Type 0} (v : T) (P : T → Type 0) (r : Result T E) → OnOk r A → OnOk r B → IfOk r (λ b. b ≡ v) → (A → B → P v) → IfOk r P
unread_with v P (Ok b) a c e f = subst P (sym e) (f a c)
unread_with v P (Err e) a c h f = tt

-- ---- the items one after another

or_parts : (r i l : Bool) → (r || (i || l)) ≡ ((r || i) || l)
or_parts true i l = refl
or_parts false i l = refl

pub or_first : (r i : Bool) → r ≡ true → r ≡ (r || i)
or_first true i e = refl
or_first false i e = absurd cc

or_nothing : (r : Bool) → (r || false) ≡ r
or_nothing true = refl
or_nothing false = refl

module _ (e : Environment) (ws : List Word) where
  pub one_more : (st next : StateOf) (k : ℕ) (item : RawItem) (items : List RawItem) (o n : List ℕ) (r b s : Bool) → GainsItem e ws st k item next o n b → s ≡ (r || b)
      → (all : List RawItem) → ((more : List ℕ) (later : Bool) → ItemsAnswer e ws st k (item ∷ items) more later → ItemsAnswer e ws at_first 1 all (o ++ more) (r || later))
      → (more : List ℕ) (later : Bool) → ItemsAnswer e ws next (k + 1) items more later → ItemsAnswer e ws at_first 1 all (n ++ more) (s || later)
  one_more st next k item items o n r b s g same all rest more later a =
      let whole = rest (g.bytes ++ more) (b || later) (item_first st next k item items g.bytes more b later g.answer a) in
      subst (λ x. ItemsAnswer e ws at_first 1 all x (s || later)) (sym (append_assoc o g.bytes more) ∙ ap (λ x. x ++ more) (sym g.gained))
      (subst (λ x. ItemsAnswer e ws at_first 1 all (o ++ (g.bytes ++ more)) x) (or_parts r b later ∙ ap (λ x. x || later) (sym same)) whole)

  -- nothing more is answered
  pub all_answered : (st : StateOf) (k : ℕ) (items all : List RawItem) (o : List ℕ) (r : Bool) → ItemsAnswer e ws st k items [] false
      → ((more : List ℕ) (later : Bool) → ItemsAnswer e ws st k items more later → ItemsAnswer e ws at_first 1 all (o ++ more) (r || later)) → ItemsAnswer e ws at_first 1 all o r
  all_answered st k items all o r none rest =
      subst (λ x. ItemsAnswer e ws at_first 1 all x r) (append-nil o)
      (subst (λ x. ItemsAnswer e ws at_first 1 all (o ++ []) x) (or_nothing r) (rest [] false none))

-- ---- one item

module _ (e : Environment) (ws : List Word) (st : StateOf) (k : ℕ) (item : RawItem) (i : ℕ) (at : i ≡ index_at ws item.at) where
  pub item_says : (b : RawBody) (next : StateOf) (o n : List ℕ) (r : Bool) → item.body ≡ Ok b → GainsBody e ws st k i b next o n r → GainsItem e ws st k item next o n r
  item_says b next o n r h g = record { bytes = g.bytes; answer = item_answered b next g.bytes r h (subst (λ i. BodyAnswer e ws st k i b next g.bytes r) at g.answer); gained = g.gained }

  pub item_fails : (f : TextFault) (o n : List ℕ) → item.body ≡ Err f → n ≡ o ++ text_fault_line k f → GainsItem e ws st k item st o n true
  item_fails f o n h g = record { bytes = _; answer = item_faulty f h; gained = g }

-- ---- listings

-- the answer of a match command without a condition whose pattern and subject are read
pub gains_terms : (e : Environment) (ws : List Word) (m : ModuleOf) (k : ℕ) (c : RawCommand) (most : Option ℕ) (p t : Bare) (os : Pairs) → TermsRead ws m c p t os → has_condition c ≡ false
    → (o a n : List ℕ) (left : OutcomeOf) → a ≡ o ++ match_head k (has_context c.kind) m → GainsListed m (meanings_in e m) (asked_first (has_context c.kind) (tree_of p) (tree_of t) os) most left a n
    → GainsTerms e ws m k c most o n left
gains_terms e ws m k c most p t os read none o _ _ _ head (gains_solutions left a n within known listing) = record {
  bytes = match_head k (has_context c.kind) m ++ listing_lines m os (has_context c.kind) (tree_of p) 0 listing.found listing.ended;
  answer = subst (λ l. TermsAnswer e ws m k c most l (match_head k (has_context c.kind) m ++ listing_lines m os (has_context c.kind) (tree_of p) 0 listing.found listing.ended)) (sym listing.leaves)
      (listed p t os listing.found listing.ended read none within known listing.listing);
  gained = listing.gained ∙ ap (λ x. x ++ listing_lines m os (has_context c.kind) (tree_of p) 0 listing.found listing.ended) head ∙ append_assoc o (match_head k (has_context c.kind) m) (listing_lines m os (has_context c.kind) (tree_of p) 0 listing.found listing.ended);
}
gains_terms e ws m k c most p t os read none o _ _ _ head (gains_sorts_end x a n within ends gained) = record {
  bytes = match_head k (has_context c.kind) m ++ end_line e.budget x;
  answer = sorts_end p t os x read none within ends;
  gained = gained ∙ ap (λ w. w ++ end_line e.budget x) head ∙ append_assoc o (match_head k (has_context c.kind) m) (end_line e.budget x);
}
gains_terms e ws m k c most p t os read none o _ _ _ head (gains_too_deep a n cause gained) = record {
  bytes = match_head k (has_context c.kind) m ++ too_deep_line;
  answer = too_deep p t os read none cause;
  gained = gained ∙ ap (λ x. x ++ too_deep_line) head ∙ append_assoc o (match_head k (has_context c.kind) m) too_deep_line;
}
gains_terms e ws m k c most p t os read none o _ _ _ head (gains_overflow a n cause gained) = record {
  bytes = match_head k (has_context c.kind) m ++ overflow_line;
  answer = overflows p t os read none cause;
  gained = gained ∙ ap (λ x. x ++ overflow_line) head ∙ append_assoc o (match_head k (has_context c.kind) m) overflow_line;
}

-- that of one with a condition
pub gains_asked : (e : Environment) (ws : List Word) (m : ModuleOf) (k : ℕ) (c : RawCommand) (most : Option ℕ) (p t : Bare) (os : Pairs) → TermsRead ws m c p t os → has_condition c ≡ true
    → (o n : List ℕ) (left : OutcomeOf) → GainsWhere e ws m k c most (tree_of p) (tree_of t) os o n left → GainsTerms e ws m k c most o n left
gains_asked e ws m k c most p t os read some o n left g = record { bytes = g.bytes; answer = asks_where p t os left g.bytes read some g.answer; gained = g.gained }

-- the answer of a match command with a condition that is read
pub gains_where : (e : Environment) (ws : List Word) (m : ModuleOf) (k : ℕ) (c : RawCommand) (most : Option ℕ) (p t : Tree) (ns os : Pairs) (cond : List Fragment) → IsConditionOf ws m c.cond p ns os cond
    → (o a n : List ℕ) (left : OutcomeOf) → a ≡ o ++ match_head k (has_context c.kind) m
    → GainsListedWhere m (meanings_in e m) cond (asked_first (has_context c.kind) p t os) most left a n → GainsWhere e ws m k c most p t ns o n left
gains_where e ws m k c most p t ns os cond is o _ _ _ head (gains_solutions_where left a n within known listing) =
    let lines = where_lines m e.budget (asked_first (has_context c.kind) p t os) listing.found listing.ending in
    record {
      bytes = match_head k (has_context c.kind) m ++ lines;
      answer = subst (λ l. WhereAnswer e ws m k c most p t ns l (match_head k (has_context c.kind) m ++ lines)) (sym listing.leaves)
          (where_listed os cond listing.found listing.ending is within known listing.listing);
      gained = listing.gained ∙ ap (λ x. x ++ lines) head ∙ append_assoc o (match_head k (has_context c.kind) m) lines;
    }
gains_where e ws m k c most p t ns os cond is o _ _ _ head (gains_sorts_end_where x a n within ends gained) = record {
  bytes = match_head k (has_context c.kind) m ++ end_line e.budget x;
  answer = where_sorts_end os cond x is within ends;
  gained = gained ∙ ap (λ w. w ++ end_line e.budget x) head ∙ append_assoc o (match_head k (has_context c.kind) m) (end_line e.budget x);
}
gains_where e ws m k c most p t ns os cond is o _ _ _ head (gains_too_deep_where a n cause gained) = record {
  bytes = match_head k (has_context c.kind) m ++ too_deep_line;
  answer = where_too_deep os cond is cause;
  gained = gained ∙ ap (λ x. x ++ too_deep_line) head ∙ append_assoc o (match_head k (has_context c.kind) m) too_deep_line;
}
gains_where e ws m k c most p t ns os cond is o _ _ _ head (gains_overflow_where a n cause gained) = record {
  bytes = match_head k (has_context c.kind) m ++ overflow_line;
  answer = where_overflows os cond is cause;
  gained = gained ∙ ap (λ x. x ++ overflow_line) head ∙ append_assoc o (match_head k (has_context c.kind) m) overflow_line;
}

-- what a query shows
pub gains_listing : (m : ModuleOf) (e : Meanings) (q first next : QueryOf) (most : Option ℕ) (left : OutcomeOf) (old new : List ℕ) (ended : Bool)
    → q ≡ first → GainsShown m e q next most old new ended → left ≡ left_by ended next → GainsListing m e first most left old new
gains_listing m e q first next most left old new ended same g l =
    let h = subst (λ k. GainsShown m e k next most old new ended) same g in
    record { found = h.found; ended = ended; listing = h.shows; leaves = l ∙ ap (left_by ended) h.after; gained = h.gained }

-- what a query shows that goes on, behind the first line of the answer
pub gains_on : (e : Environment) (st : StateOf) (k i : ℕ) (q : QueryOf) (most : Option ℕ) (m : ModuleOf) (at_number : slice_get st.modules i ≡ Some m) (left : OutcomeOf) (after : StateOf) (o a n : List ℕ) (refused : Bool)
    → a ≡ o ++ continue_head k m → GainsListing m (meanings_in e m) q most left a n → after ≡ state_after st i left → refused ≡ refuses left
    → GainsOn e st k i q most after o n refused
gains_on e st k i q most m at_number left after o a n refused head g is answered = record {
  «module» = m;
  there = at_number;
  found = g.found;
  ended = g.ended;
  shows = g.listing;
  after = is ∙ ap (state_after st i) g.leaves;
  gained =
      g.gained ∙ ap (λ x. x ++ listing_lines m q.variables q.with_context q.pattern q.shown g.found g.ended) head
      ∙ append_assoc o (continue_head k m) (listing_lines m q.variables q.with_context q.pattern q.shown g.found g.ended);
  answered = answered ∙ (ap refuses g.leaves ∙ never g.ended);
}
  where
    never : (b : Bool) → refuses (left_by b (shown_more q g.found)) ≡ false
    never true = refl
    never false = refl

-- what goes on may be taken out of the state before
pub after_taken : (st : StateOf) (taken : Option GoingOf) (n : ℕ) (left : OutcomeOf) → refuses left ≡ false → state_after (record st { going = taken }) n left ≡ state_after st n left
after_taken st taken n is_refused e = absurd cc
after_taken st taken n has_ended e = refl
after_taken st taken n (goes_on what) e = refl

query_goes : (b : Bool) (q : QueryOf) → refuses (left_by b q) ≡ false
query_goes true q = refl
query_goes false q = refl

where_goes : (x : Ending) (q : QueryOf) (cond : List Fragment) → refuses (left_where x q cond) ≡ false
where_goes no_more q cond = refl
where_goes bound_reached q cond = refl
where_goes (ends_by x) q cond = refl

-- the answer of a command that continues a query
pub continues : (e : Environment) (ws : List Word) (st : StateOf) (taken : Option GoingOf) (k : ℕ) (c : RawCommand) (most : Option ℕ) (i : ℕ) (q : QueryOf) (next : StateOf) (o n : List ℕ) (refused : Bool)
    → bound_of ws c.bound ≡ Ok most → st.going ≡ Some (record { number = i; what = a_listing q }) → GainsOn e (record st { going = taken }) k i q most next o n refused → GainsContinue e ws st k c next o n refused
continues e ws st taken k c most i q next o n refused bound going on =
    let bytes = continue_head k on.«module» ++ listing_lines on.«module» q.variables q.with_context q.pattern q.shown on.found on.ended in
    let p = shown_more q on.found in
    record {
      bytes = bytes;
      answer = subst (λ s. ContinueAnswer e ws st k c s bytes refused) (sym (on.after ∙ after_taken st taken i (left_by on.ended p) (query_goes on.ended p)))
          (subst (λ b. ContinueAnswer e ws st k c (state_after st i (left_by on.ended p)) bytes b) (sym on.answered)
          (continued most i q on.«module» on.found on.ended bound going on.there on.shows));
      gained = on.gained;
    }

-- of one that continues a query with a condition
pub continues_where : (e : Environment) (ws : List Word) (st : StateOf) (taken : Option GoingOf) (k : ℕ) (c : RawCommand) (most : Option ℕ) (i : ℕ) (q : QueryOf) (cond : List Fragment) (next : StateOf) (o n : List ℕ) (refused : Bool)
    → bound_of ws c.bound ≡ Ok most → st.going ≡ Some (record { number = i; what = a_listing_where q cond }) → GainsOnWhere e (record st { going = taken }) k i q cond most next o n refused
    → GainsContinue e ws st k c next o n refused
continues_where e ws st taken k c most i q cond next o n refused bound going on =
    let bytes = continue_head k on.«module» ++ where_lines on.«module» e.budget q on.found on.ending in
    let left = left_where on.ending (shown_more q on.found) cond in
    record {
      bytes = bytes;
      answer = subst (λ s. ContinueAnswer e ws st k c s bytes refused) (sym (on.after ∙ after_taken st taken i left (where_goes on.ending (shown_more q on.found) cond)))
          (subst (λ b. ContinueAnswer e ws st k c (state_after st i left) bytes b) (sym on.answered)
          (continued_where most i q cond on.«module» on.found on.ending bound going on.there on.shows));
      gained = on.gained;
    }

-- a state of which that was taken
pub as_taken : (st before : StateOf) → before.modules ≡ st.modules → before.current ≡ st.current → st ≡ record before { going = st.going }
as_taken st before e f = ap₂ (λ ms i. record st { modules = ms; current = i }) (sym e) (sym f)

-- the answer of a match command over a module that was chosen
pub gains_chosen : (e : Environment) (ws : List Word) (st : StateOf) (k : ℕ) (c : RawCommand) (n : ℕ) (next : StateOf) (old new : List ℕ) (refused : Bool) → unbuilt ws c ≡ None → IsChosen ws st c n
    → GainsChosen e ws st k c n next old new refused → GainsMatch e ws st k c next old new refused
gains_chosen e ws st k c n next old new refused built chosen g = record { bytes = g.bytes; answer = by g.answer; gained = g.gained }
  where
    by : {s : StateOf} {b : List ℕ} {r : Bool} → ChosenAnswer e ws st k c n s b r → MatchAnswer e ws st k c s b r
    by (chosen_refused m r there d) = bound_refused n m r built chosen there d
    by (chosen_answered m most left bytes there d a) = command_answered n m most left bytes built chosen there d a

-- ---- evaluations

-- the answer of a reduce command whose term is read
pub gains_term : (e : Environment) (ws : List Word) (m : ModuleOf) (k : ℕ) (c : RawCommand) (t : Bare) (ns : Pairs) → TermReads ws m.grammar c.first AnyKind [] ns t
    → (o a n : List ℕ) → a ≡ o ++ reduce_head k m → GainsAnswer m (meanings_in e m) e.remembers ns (tree_of t) a n → GainsTerm e ws m k c o n has_ended
gains_term e ws m k c t ns reads o a n head g = record {
  bytes = reduce_head k m ++ answer_lines m ns e.budget g.answer;
  answer = term_answered t ns g.answer reads g.allowed;
  gained = g.gained ∙ ap (λ x. x ++ answer_lines m ns e.budget g.answer) head ∙ append_assoc o (reduce_head k m) (answer_lines m ns e.budget g.answer);
}
