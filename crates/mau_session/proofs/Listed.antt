-- Solutions over a module, and those of the question that a listing is asked.
use Rattle.std.proofs.Common.{◌≡◌, ℕ, ◌<◌, List, [], length, Bool, false, true, Option, None, Some, IfSome, refl, sym, ap, ◌∙◌, subst, arith}
use Rattle.std.proofs.lemmas.List.{length-map}
use Rattle.std.specs.Option.{option_map}
use Rattle.mau_terms.specs.Tree.{Tree}
use Rattle.mau_terms.specs.Norm.{norm}
use Rattle.mau_terms.specs.Bare.{IsBare, IsLawful}
use Rattle.mau_terms.specs.Reading.{reading}
use Rattle.mau_terms.specs.Subst.{variables}
use Rattle.mau_terms.specs.Solution.{Fits, FitsAt, assoc_top}
use Rattle.mau_terms.specs.View.{tree_of}
use Rattle.mau_terms.proofs.Chains.{EqualModulo-trans, EqualModulo-sym}
use Rattle.mau_terms.proofs.Law.{equal_norm, equal_reading}
use Rattle.mau_signature.specs.Signature.{SignatureOf, theory_at}
use Rattle.mau_store.specs.Node.{Node, AreOf, Extends}
use Rattle.mau_store.specs.Trees.{tree_at}
use Rattle.mau_store.specs.View.{numbers}
use Rattle.mau_store.proofs.Standing.{tree_at-extends}
use Rattle.mau_canon.proofs.Standing.{stand_there}
use Rattle.mau_sorts.proofs.Settling.{kept_same}
use Rattle.mau_sorts.specs.HasSort.{Known}
use Rattle.mau_sorts.specs.Table.{Table, AreOver, KeepsEntries}
use Rattle.mau_listing.specs.declared.solution.Solution.{Solution}
use Rattle.mau_listing.specs.Question.{Question}
use Rattle.mau_listing.specs.Matcher.{Matcher}
use Rattle.mau_listing.specs.Question
use Rattle.mau_listing.specs.Next
use Rattle.mau_listing.specs.Next.{matcher_cmp, IsLeastBehind}
use Rattle.mau_listing.specs.Asked.{Asked, question_in, matcher_in, IsTableOf, BySort, IsGiven, CanBeLast}
use Rattle.mau_listing.proofs.Growth.{found_same, askable_extended, given_is_last, last_of_store, given_of_store, trees_long}
use Rattle.mau_api.specs.Meanings.{Meanings}
use Rattle.mau_api.specs.Answers.{IsDerivedTable}
use Rattle.mau_conditional.specs.Meant.{HasDerivedSort}
use Rattle.mau_conditional.proofs.Derived.{listed_derived}
use Rattle.mau_conditional.proofs.Ready.{ready_on, ready_behind}
use Rattle.mau_module.specs.Modules.{ModuleOf}
use Rattle.mau_session.specs.Terms.{terms_in}
use Rattle.mau_session.specs.Matching.{IsSolution}
use Rattle.mau_session.specs.KeptQuery.{asked_for, query_of, IsQueryOver, IsReady, GoesIn}
use Rattle.mau_session.specs.Next.{IsNext, NoneIsBehind}
use Rattle.mau_session.specs.declared.query.Query.{Query}

abbrev pub question : Tree → Tree → Question
question p u = record { pattern = p; bound = []; subject = u }

module _ (m : ModuleOf) (e : Meanings) (lawful : IsLawful (terms_in m)) (p t : Tree) (bare : IsBare (terms_in m) t) where
  -- the subject as its normal form is read
  abbrev read : Tree
  read = reading (terms_in m).theory (norm (terms_in m).theory t)

  same_norm : norm (terms_in m).theory t ≡ norm (terms_in m).theory read
  same_norm = equal_norm (terms_in m) lawful (equal_reading (terms_in m) lawful t bare)

  fits_in : (vs : List Tree) → Fits (terms_in m) p t vs → Fits (terms_in m) p read vs
  fits_in vs is = record { one_each = is.one_each; equal = EqualModulo-trans is.equal (equal_reading (terms_in m) lawful t bare) }

  fits_from : (vs : List Tree) → Fits (terms_in m) p read vs → Fits (terms_in m) p t vs
  fits_from vs is = record { one_each = is.one_each; equal = EqualModulo-trans is.equal (EqualModulo-sym (equal_reading (terms_in m) lawful t bare)) }

  within_in : (o : Option ℕ) (vs left right : List Tree) → FitsAt (terms_in m) o p t vs left right → FitsAt (terms_in m) o p read vs left right
  within_in None vs left right is = (fits_in vs is.0, is.1, is.2)
  within_in (Some f) vs left right is = record {
    one_each = is.one_each;
    bare = is.bare;
    left_list = is.left_list;
    right_list = is.right_list;
    rest_alone = is.rest_alone;
    whole = sym same_norm ∙ is.whole;
    part = is.part;
  }

  within_from : (o : Option ℕ) (vs left right : List Tree) → FitsAt (terms_in m) o p read vs left right → FitsAt (terms_in m) o p t vs left right
  within_from None vs left right is = (fits_from vs is.0, is.1, is.2)
  within_from (Some f) vs left right is = record {
    one_each = is.one_each;
    bare = is.bare;
    left_list = is.left_list;
    right_list = is.right_list;
    rest_alone = is.rest_alone;
    whole = same_norm ∙ is.whole;
    part = is.part;
  }

  abbrev pub IsFound : Bool → Matcher → Type 0
  IsFound w = Question.IsSolution w m.signature (HasDerivedSort e) (question p (norm (terms_in m).theory t))

  pub solution_in : (w : Bool) (x : Matcher) → IsSolution m e w p t x → IsFound w x
  solution_in false x is = record {
    bare = is.values;
    values = is.normal;
    solves = (fits_in is.values is.solves.0.0, is.solves.0.1);
    agrees = λ b among. absurd (let low : among.0 < 0 = among.1 in omega arith);
    no_left = is.solves.1;
    no_right = is.solves.2;
  }
  solution_in true x is = record {
    bare = is.values;
    values = is.normal;
    solves = (within_in (assoc_top (terms_in m).theory (norm (terms_in m).theory p)) is.values x.left x.right is.solves.0, is.solves.1);
    agrees = λ b among. absurd (let low : among.0 < 0 = among.1 in omega arith);
  }

  pub solution_from : (w : Bool) (x : Matcher) → IsFound w x → IsSolution m e w p t x
  solution_from false x is = record { values = is.bare; normal = is.values; solves = ((fits_from is.bare is.solves.0, is.solves.1), is.no_left, is.no_right) }
  solution_from true x is = record {
    values = is.bare;
    normal = is.values;
    solves = (within_from (assoc_top (terms_in m).theory (norm (terms_in m).theory p)) is.bare x.left x.right is.solves.0, is.solves.1);
  }

  none_behind : (w : Bool) (last : Option Matcher) → Next.IsNext (IsFound w) (matcher_cmp (terms_in m).theory p) last None → NoneIsBehind m e w p t last
  none_behind w last none x is behind = none x (solution_in w x is) behind

  next_behind : (w : Bool) (last : Option Matcher) (x : Matcher) → IsLeastBehind (IsFound w) (matcher_cmp (terms_in m).theory p) last x → IsNext m e w p t last x
  next_behind w last x is = record { is_one = solution_from w x is.is_one; behind = is.behind; least = λ y solved behind. is.least y (solution_in w y solved) behind }

-- ---- queries

module _ (m : ModuleOf) (e : Meanings) (q : Query) (over : IsQueryOver m.signature q) where
  abbrev pub Answers : Question → Option Matcher → Type 0
  Answers u o =
      Next.IsNext (Question.IsSolution q.with_context m.signature (HasDerivedSort e) u) (matcher_cmp (terms_in m).theory (tree_of q.pattern)) (option_map (matcher_in q.store) q.last) o

  pub same_question : question (tree_of q.pattern) (tree_at q.store q.number.0) ≡ question (tree_of q.pattern) (norm (terms_in m).theory (tree_of q.subject))
  same_question = ap (question (tree_of q.pattern)) over.stands

  pub nothing_next : (o : Option Matcher) → o ≡ None → Answers (question_in q.store (asked_for q)) o → NoneIsBehind m e q.with_context (tree_of q.pattern) (tree_of q.subject) (query_of q).last
  nothing_next o same answer =
      let none = subst (Answers (question_in q.store (asked_for q))) same answer in
      none_behind m e over.lawful (tree_of q.pattern) (tree_of q.subject) over.subject q.with_context (option_map (matcher_in q.store) q.last) (subst (λ u. Answers u None) same_question none)

  pub something_next : (x : Matcher) (o : Option Matcher) → o ≡ Some x → Answers (question_in q.store (asked_for q)) o
      → IsNext m e q.with_context (tree_of q.pattern) (tree_of q.subject) (query_of q).last x
  something_next x o same answer =
      let some = subst (Answers (question_in q.store (asked_for q))) same answer in
      next_behind m e over.lawful (tree_of q.pattern) (tree_of q.subject) over.subject q.with_context (option_map (matcher_in q.store) q.last) x (subst (λ u. Answers u (Some x)) same_question some)

-- what a listing of an evaluator answers
module _ (m : ModuleOf) (e : Meanings) (goes : GoesIn m e) (q : Query) (table : Table) (ready : IsReady m.signature table q) (derived : IsDerivedTable e q.store table) (o : Option Matcher) where
  -- by the sorts that are known besides those by declarations
  abbrev pub Listed : Bool → Asked → Option Solution → Type 0
  Listed w a last =
      (known : Known) → IsTableOf e.program.sig known q.store table →
      Next.IsNext (Question.IsSolution w e.program.sig (BySort e.program.sig known) (question_in q.store a)) (matcher_cmp (theory_at e.program.sig) a.pattern) (option_map (matcher_in q.store) last) o

  pub answers_here : (w : Bool) (a : Asked) (last : Option Solution) → w ≡ q.with_context → a ≡ asked_for q → last ≡ q.last → Listed w a last → Answers m e q ready.query (question_in q.store (asked_for q)) o
  answers_here w a last ew ea el h =
      listed_derived e goes.goes m.signature goes.signature q.store table derived q.with_context (asked_for q) q.last ready.listing o
      (subst (λ l. Listed q.with_context (asked_for q) l) el (subst (λ b. Listed q.with_context b last) ea (subst (λ v. Listed v a last) ew h)))

module _ (m : ModuleOf) (q : Query) where
  pub given_here : (w : Bool) (s : SignatureOf) (a : Asked) → w ≡ q.with_context → s ≡ m.signature → a ≡ asked_for q → (store : List Node) (sorts : Table) (x : Solution)
      → IsGiven w s store sorts a x → IsGiven q.with_context m.signature store sorts (asked_for q) x
  given_here w s a ew es ea store sorts x h =
      subst (λ b. IsGiven q.with_context m.signature store sorts b x) ea (subst (λ r. IsGiven q.with_context r store sorts a x) es (subst (λ v. IsGiven v s store sorts a x) ew h))

-- in a store that has grown
module _ (s : SignatureOf) (q : Query) (store : List Node) (extends : Extends q.store store) where
  abbrev pub grown : Query
  grown = record q { store = store }

  pub grown_over : IsQueryOver s q → IsQueryOver s grown
  grown_over over = record {
    lawful = over.lawful;
    askable = askable_extended q.store store extends s (asked_for q) over.askable;
    stands = tree_at-extends q.store store q.number.0 extends over.askable.subject.there ∙ over.stands;
    subject = over.subject;
    numbered = over.numbered;
    few = over.few;
    small = over.small;
  }

  pub grown_ready : (table sorts : Table) → KeepsEntries table sorts → AreOver s.hierarchy sorts → IsReady s table q → IsReady s sorts grown
  grown_ready table sorts kept over ready = record {
    query = grown_over ready.query;
    listing = ready_on q.with_context s q.store store table sorts (record { extends = extends; kept = kept }) over (asked_for q) q.last ready.listing;
  }

  pub grown_same : (table : Table) → IsReady s table q → query_of grown ≡ query_of q
  grown_same table ready = ap (λ o. record (query_of q) { last = o }) (by q.last ready.listing.can.given)
    where
      by : (o : Option Solution) → IfSome o (CanBeLast q.with_context s q.store table (asked_for q)) → option_map (matcher_in store) o ≡ option_map (matcher_in q.store) o
      by None g = refl
      by (Some x) g =
          let there = last_of_store q.with_context s q.store table (asked_for q) x g in
          ap Some (found_same q.store store extends x there.left there.right there.values)

-- ---- one solution more

module _ (m : ModuleOf) (q : Query) (over : IsQueryOver m.signature q) (table : Table) (x : Solution) (given : IsGiven q.with_context m.signature q.store table (asked_for q) x) where
  pub given_there : AreOf q.store (numbers x.values)
  given_there = stand_there (theory_at m.signature) q.store (numbers x.values) given.values

  pub given_each : length x.values ≡ length (variables (tree_of q.pattern))
  given_each = by q.with_context (given_is_last q.with_context m.signature q.store table (asked_for q) x given)
    where
      by : (w : Bool) → CanBeLast w m.signature q.store table (asked_for q) x → length x.values ≡ length (variables (tree_of q.pattern))
      by false is = is.one_each
      by true is =
          sym (trees_long q.store x.values) ∙ ap length (sym is.solves.values) ∙ length-map is.solves.bare (norm (theory_at m.signature))
          ∙ each (assoc_top (theory_at m.signature) (norm (theory_at m.signature) (tree_of q.pattern))) is.solves.bare (matcher_in q.store x).left (matcher_in q.store x).right is.solves.solves.0
        where
          each : (o : Option ℕ) (vs left right : List Tree) → FitsAt (terms_in m) o (tree_of q.pattern) (reading (theory_at m.signature) (tree_at q.store q.number.0)) vs left right
              → length vs ≡ length (variables (tree_of q.pattern))
          each None vs left right fits = fits.0.one_each
          each (Some f) vs left right fits = fits.one_each

  -- which is shown, in a store that may have grown
  module _ (store : List Node) (extends : Extends q.store store) where
    abbrev pub advanced : ℕ → Query
    advanced n = record q { store = store; last = Some x; shown = n }

    pub advanced_over : (n : ℕ) → IsQueryOver m.signature (advanced n)
    advanced_over n = record {
      lawful = over.lawful;
      askable = askable_extended q.store store extends m.signature (asked_for q) over.askable;
      stands = tree_at-extends q.store store q.number.0 extends over.askable.subject.there ∙ over.stands;
      subject = over.subject;
      numbered = over.numbered;
      few = over.few;
      small = over.small;
    }

    pub advanced_same : matcher_in store x ≡ matcher_in q.store x
    advanced_same = let there = given_of_store q.with_context m.signature q.store table (asked_for q) x given in found_same q.store store extends x there.left there.right there.values

    -- so it can go on behind it
    pub advanced_ready : (n : ℕ) → AreOver m.signature.hierarchy table → IsReady m.signature table q → IsReady m.signature table (advanced n)
    advanced_ready n over_table ready = record {
      query = advanced_over n;
      listing = ready_on q.with_context m.signature q.store store table table (record { extends = extends; kept = kept_same table }) over_table (asked_for q) (Some x)
          (ready_behind q.with_context m.signature q.store table (asked_for q) q.last x ready.listing given);
    }
