-- What is read behind some variables is read behind any others too: its tokens have one tree, and only the places of its variables change.
use Rattle.std.proofs.Common.{◌≡◌, ◌≢◌, ◌≤◌, ◌<◌, ℕ, List, [], ◌∷◌, ◌++◌, length, Bool, true, false, if◌then◌else◌, refl, sym, ap, subst, arith, length-append}
use Rattle.std.specs.List.{list_any}
use Rattle.mau_terms.specs.Tree.{Tree, variable, numeral, apply, list_of}
use Rattle.mau_terms.specs.Bare.{TermSignature}
use Rattle.mau_terms.specs.Vars.{same_pair, with_pair}
use Rattle.mau_terms.specs.View.{tree_of}
use Rattle.mau_terms.specs.declared.bare.Bare.{Bare}
use Rattle.mau_terms.specs.declared.bare.Bare.TheVariants.{Var, Num, App}
use Rattle.mau_terms.proofs.Pieces.{trees_of-list_of}
use Rattle.mau_tokens.specs.declared.token.Token.{Token}
use Rattle.mau_modtext.specs.Word.{Word}
use Rattle.mau_modtext.specs.declared.raw.RawFragment.{RawFragment}
use Rattle.mau_grammar.specs.Grammar.{GrammarOf}
use Rattle.mau_grammar.specs.Leaves.{pairs_of}
use Rattle.mau_parse.specs.declared.goals.Goal.{Goal}
use Rattle.mau_parse.specs.declared.goals.Goal.TheVariants.{AnyKind, Kind}
use Rattle.mau_parse.specs.declared.fault.ParseFault.{ParseFault}
use Rattle.mau_parse.specs.declared.fault.ParseFault.TheVariants.{NoParse, Ambiguous, TooManyTokens, NumberTooLarge, SuccessorTooLarge, NoMemory}
use Rattle.mau_parse.specs.Terms.{pairs_in, added, renamed, AreTermsOf}
use Rattle.mau_program.specs.declared.statements.Fragment.{Fragment}
use Rattle.mau_program.specs.declared.statements.Fragment.TheVariants.{Equal, Match, Sort, Reach}
use Rattle.mau_statement.specs.Context.{ContextOf, terms_in}
use Rattle.mau_statement.specs.Parts.{Pairs, part_texts, is_empty, begin_of, TermReads, IsUnread, PartUnread, nothing_there, no_term, LiesIn, PairReads, PairUnread, first_unread, second_unread}
use Rattle.mau_statement.specs.Conditions.{FragmentReads, equal_reads, match_reads, reach_reads, sort_reads, truth_reads, FragmentUnread, equal_unread, match_unread, reach_unread, tested_unread, no_sort, truth_unread, no_truth, one_more_reads}
use Rattle.mau_statement.specs.Long.{ArePassed}
use Rattle.mau_statement.specs.declared.TheConstants.{MAX_VARIABLES}
use Rattle.mau_statement.specs.declared.fault.StatementFault.{StatementFault}
use Rattle.mau_statement.specs.declared.fault.StatementFault.TheVariants.{Parse, UnknownSort}

-- ---- variables only become more

more_with : (xs : Pairs) (y : List ℕ × ℕ) → length xs ≤ length (with_pair xs y)
more_with xs y = by (list_any (same_pair y) xs)
  where
    by : (b : Bool) → length xs ≤ length (if b then xs else xs ++ y ∷ [])
    by true = omega arith
    by false = omega (arith, length-append xs (y ∷ []))

more_added : (xs ys : Pairs) → length xs ≤ length (added xs ys)
more_added xs [] = omega arith
more_added xs (y ∷ ys) = omega (arith, more_with xs y, more_added (with_pair xs y) ys)

-- ---- the term with a tree

abbrev term_of : Tree → Bare
term_of (variable i s) = Var (record { index = i; sort = s })
term_of (numeral n) = Num n
term_of (apply f ts) = App (record { 0 = f }) (list_of ts)

its_tree : (t : Tree) → tree_of (term_of t) ≡ t
its_tree (variable i s) = refl
its_tree (numeral n) = refl
its_tree (apply f ts) = ap (λ us. apply f us) (trees_of-list_of ts)

-- other places of its variables leave it in its kind
lies_renamed : (s : TermSignature) (ps xs ys : Pairs) (t : Tree) (k : ℕ) → LiesIn s (renamed ps xs t) k → LiesIn s (renamed ps ys t) k
lies_renamed s ps xs ys (variable i r) k h = h
lies_renamed s ps xs ys (numeral n) k h = h
lies_renamed s ps xs ys (apply f ts) k h = h

-- ---- a term

module _ (ws : List Word) (g : GrammarOf) (ts : List Token) (goal : Goal) where
  record TermAgain (ns : Pairs) (b : Bare) : Type 0 where
    vars : Pairs
    term : Bare
    reads : TermReads ws g ts goal ns vars term
    more : length ns ≤ length vars
    lies : (s : TermSignature) (k : ℕ) → LiesIn s (tree_of b) k → LiesIn s (tree_of term) k

  term_again : (ns os ms : Pairs) (b : Bare) → TermReads ws g ts goal ns os b → TermAgain ms b
  term_again ns os ms b p =
      let ps = pairs_of g (part_texts ws ts) in
      let new = added ms (pairs_in ps p.tree) in
      let t = renamed ps new p.tree in
      record {
        vars = new;
        term = term_of t;
        reads = record { readable = p.readable; tree = p.tree; only = p.only; small = p.small; term = record { vars = refl; term = its_tree t } };
        more = more_added ms (pairs_in ps p.tree);
        lies = λ s k l. subst (λ u. LiesIn s u k) (sym (its_tree t)) (lies_renamed s ps os new p.tree k (subst (λ u. LiesIn s u k) p.term.term l));
      }

  unread_again : (ns ms : Pairs) (f : ParseFault) → is_empty ws ts ≡ false → f ≢ NoMemory → IsUnread ws g ts goal ns f → (e : StatementFault) × PartUnread ws g ts goal ms e
  unread_again ns ms (NoParse at) h n u = (Parse (NoParse at), no_term (NoParse at) h n u)
  unread_again ns ms (TooManyTokens m) h n u = (Parse (TooManyTokens m), no_term (TooManyTokens m) h n u)
  unread_again ns ms (NumberTooLarge at) h n u = (Parse (NumberTooLarge at), no_term (NumberTooLarge at) h n u)
  unread_again ns ms (SuccessorTooLarge at) h n u = (Parse (SuccessorTooLarge at), no_term (SuccessorTooLarge at) h n u)
  unread_again ns ms NoMemory h n u = absurd (n refl)
  unread_again ns ms (Ambiguous at a b) h n u =
      let two = u.0 in
      let ps = pairs_of g (part_texts ws ts) in
      let middle = added ms (pairs_in ps two.one) in
      let last = added middle (pairs_in ps two.other) in
      let one = renamed ps middle two.one in
      let other = renamed ps last two.other in
      let terms : AreTermsOf ps ms two.one two.other (term_of one) (term_of other) = record { middle = middle; last = last; first = record { vars = refl; term = its_tree one }; second = record { vars = refl; term = its_tree other } } in (
        Parse (Ambiguous at (term_of one) (term_of other)),
        no_term (Ambiguous at (term_of one) (term_of other)) h (λ e. cc)
            (record { readable = two.readable; one = two.one; other = two.other; trees = two.trees; terms = terms }, u.1),
      )

  part_again : (ns ms : Pairs) (f : StatementFault) → PartUnread ws g ts goal ns f → (e : StatementFault) × PartUnread ws g ts goal ms e
  part_again ns ms f (nothing_there h) = (Parse (NoParse (begin_of ws ts)), nothing_there h)
  part_again ns ms f (no_term p h n u) = unread_again ns ms p h n u

-- ---- two terms of one kind

module _ (ws : List Word) (c : ContextOf) where
  record PairAgain (first second : List Token) (ns : Pairs) : Type 0 where
    vars : Pairs
    one : Bare
    other : Bare
    reads : PairReads ws c first second ns vars one other
    more : length ns ≤ length vars

  pair_again : (first second : List Token) (ns os ms : Pairs) (a b : Bare) → PairReads ws c first second ns os a b → PairAgain first second ms
  pair_again first second ns os ms a b p =
      let x = term_again ws c.grammar first AnyKind ns p.middle ms a p.first_reads in
      let y = term_again ws c.grammar second (Kind p.kind) p.middle os x.vars b p.second_reads in
      record {
        vars = y.vars;
        one = x.term;
        other = y.term;
        reads = record { kind = p.kind; middle = x.vars; first_reads = x.reads; lies = x.lies (terms_in c) p.kind p.lies; second_reads = y.reads };
        more = omega (arith, x.more, y.more);
      }

  pair_unread_again : (first second : List Token) (ns ms : Pairs) (f : StatementFault) → PairUnread ws c first second ns f → (e : StatementFault) × PairUnread ws c first second ms e
  pair_unread_again first second ns ms f (first_unread e u) =
      let r = part_again ws c.grammar first AnyKind ns ms e u in
      (r.0, first_unread r.0 r.1)
  pair_unread_again first second ns ms f (second_unread e k m a r l u) =
      let x = term_again ws c.grammar first AnyKind ns m ms a r in
      let y = part_again ws c.grammar second (Kind k) m x.vars e u in
      (y.0, second_unread y.0 k x.vars x.term x.reads (x.lies (terms_in c) k l) y.1)

  -- ---- a fragment

  module _ (raw : RawFragment) where
    record FragmentAgain (ns : Pairs) : Type 0 where
      vars : Pairs
      fragment : Fragment
      reads : FragmentReads ws c raw ns vars fragment
      more : length ns ≤ length vars

    fragment_again : (ns os ms : Pairs) (x : Fragment) → FragmentReads ws c raw ns os x → FragmentAgain ms
    fragment_again ns os ms x (equal_reads t u k p) =
        let r = pair_again raw.left raw.right ns os ms t u p in
        record { vars = r.vars; fragment = Equal r.one r.other; reads = equal_reads r.one r.other k r.reads; more = r.more }
    fragment_again ns os ms x (match_reads q u k p) =
        let r = pair_again raw.right raw.left ns os ms u q p in
        record { vars = r.vars; fragment = Match r.other r.one; reads = match_reads r.other r.one k r.reads; more = r.more }
    fragment_again ns os ms x (reach_reads t u k p) =
        let r = pair_again raw.left raw.right ns os ms t u p in
        record { vars = r.vars; fragment = Reach r.one r.other; reads = reach_reads r.one r.other k r.reads; more = r.more }
    fragment_again ns os ms x (sort_reads t sort k p e) =
        let r = term_again ws c.grammar raw.left AnyKind ns os ms t p in
        record { vars = r.vars; fragment = Sort r.term sort; reads = sort_reads r.term sort k r.reads e; more = r.more }
    fragment_again ns os ms x (truth_reads t truth kind k e l p) =
        let r = term_again ws c.grammar raw.left (Kind kind) ns os ms t p in
        record { vars = r.vars; fragment = Equal r.term (App truth []); reads = truth_reads r.term truth kind k e l r.reads; more = r.more }

    pub never_read : (ns ms : Pairs) (f : StatementFault) → FragmentUnread ws c raw ns f → (e : StatementFault) × FragmentUnread ws c raw ms e
    never_read ns ms f (equal_unread e k u) = let r = pair_unread_again raw.left raw.right ns ms e u in (r.0, equal_unread r.0 k r.1)
    never_read ns ms f (match_unread e k u) = let r = pair_unread_again raw.right raw.left ns ms e u in (r.0, match_unread r.0 k r.1)
    never_read ns ms f (reach_unread e k u) = let r = pair_unread_again raw.left raw.right ns ms e u in (r.0, reach_unread r.0 k r.1)
    never_read ns ms f (tested_unread e k u) = let r = part_again ws c.grammar raw.left AnyKind ns ms e u in (r.0, tested_unread r.0 k r.1)
    never_read ns ms f (no_sort t os k p n) =
        let r = term_again ws c.grammar raw.left AnyKind ns os ms t p in
        (UnknownSort (begin_of ws raw.right), no_sort r.term r.vars k r.reads n)
    never_read ns ms f (truth_unread e truth kind k h l u) = let r = part_again ws c.grammar raw.left (Kind kind) ns ms e u in (r.0, truth_unread r.0 truth kind k h l r.1)
    never_read ns ms f (no_truth k h) = (Parse (NoParse (begin_of ws raw.left)), no_truth k h)

    -- ---- one fragment more, behind others

    module _ (ns : Pairs) (raws : List RawFragment) (before after : Pairs) (x : Fragment) (reads : FragmentReads ws c raw before after x) where
      known : length after ≤ MAX_VARIABLES → ArePassed ws c ns raws false before → ArePassed ws c ns (raws ++ raw ∷ []) false after
      known few p =
          let same = p.same refl in
          record {
            vars = after;
            cond = p.cond ++ x ∷ [];
            reads = one_more_reads raws p.vars p.cond raw after x p.reads (subst (λ vs. FragmentReads ws c raw vs after x) same.0 reads);
            more = λ e. absurd cc;
            same = λ e. (refl, few);
          }

      lost : (kept : Pairs) → ArePassed ws c ns raws true before → ArePassed ws c ns (raws ++ raw ∷ []) true kept
      lost kept p =
          let y = fragment_again before after p.vars x reads in
          record {
            vars = y.vars;
            cond = p.cond ++ y.fragment ∷ [];
            reads = one_more_reads raws p.vars p.cond raw y.vars y.fragment p.reads y.reads;
            more = λ e. omega (arith, p.more refl, y.more);
            same = λ e. absurd cc;
          }

      -- not more of them than there may be
      pub passed : (many : Bool) → length after ≤ MAX_VARIABLES → ArePassed ws c ns raws many before → ArePassed ws c ns (raws ++ raw ∷ []) many after
      passed true few p = lost after p
      passed false few p = known few p

      -- too many of them
      pub overrun : (many : Bool) (kept : Pairs) → MAX_VARIABLES < length after → ArePassed ws c ns raws many before → ArePassed ws c ns (raws ++ raw ∷ []) true kept
      overrun true kept over p = lost kept p
      overrun false kept over p =
          let same = p.same refl in
          record {
            vars = after;
            cond = p.cond ++ x ∷ [];
            reads = one_more_reads raws p.vars p.cond raw after x p.reads (subst (λ vs. FragmentReads ws c raw vs after x) same.0 reads);
            more = λ e. over;
            same = λ e. absurd cc;
          }
