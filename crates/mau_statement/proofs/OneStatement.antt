-- What is read of a statement is one thing.
use Rattle.std.proofs.Common.{◌≡◌, ℕ, zero, suc, ◌-◌, ◌<◌, ◌⊎◌, inl, inr, List, [], ◌∷◌, ◌++◌, length, take, map, Some, Result, Err, All, slice_get, refl, sym, ◌∙◌, ap, ap₂, subst, arith, eqb-true}
use Rattle.std.proofs.Math.Seq.{take-append_seam}
use Rattle.std.proofs.lemmas.Bool.{cases_order}
use Rattle.std.proofs.lemmas.List.{take-append-le, length_push, nil_from_length}
use Rattle.std.proofs.lemmas.Option.{slice_get_within}
use Rattle.mau_terms.specs.Tree.{Tree, variable, numeral, apply}
use Rattle.mau_terms.specs.Bare.{TermSignature, IsBareIn}
use Rattle.mau_terms.specs.View.{tree_of}
use Rattle.mau_terms.specs.declared.theory.Theory.{Theory}
use Rattle.mau_terms.specs.declared.bare.Bare.{Bare}
use Rattle.mau_terms.specs.declared.bare.Bare.TheVariants.{App}
use Rattle.mau_terms.proofs.Taken.{one_kind}
use Rattle.mau_poset.specs.Order.{kind_of}
use Rattle.mau_signature.specs.Signature.{SignatureOf, theory_at}
use Rattle.mau_tokens.specs.declared.token.Token.{Token}
use Rattle.mau_modtext.specs.Word.{Word}
use Rattle.mau_modtext.specs.declared.raw.RawFragment.{RawFragment}
use Rattle.mau_modtext.specs.declared.raw.FragmentKind.{FragmentKind}
use Rattle.mau_modtext.specs.declared.raw.FragmentKind.TheVariants as Sign
use Rattle.mau_modtext.specs.declared.raw.RawStatement.{RawStatement}
use Rattle.mau_modtext.specs.declared.raw.StatementKind.{StatementKind}
use Rattle.mau_modtext.specs.declared.raw.StatementKind.TheVariants as Keyword
use Rattle.mau_declare.proofs.Counting.{get_front, get_behind}
use Rattle.mau_declare.proofs.Once.{yes_no, some_none, some_once}
use Rattle.mau_grammar.specs.declared.aliases.Alias.{Alias}
use Rattle.mau_grammar.specs.Production.{IsShaped}
use Rattle.mau_grammar.specs.Productions.{sort_names}
use Rattle.mau_grammar.specs.Grammar.{grammar_of}
use Rattle.mau_grammar.proofs.Shapes.{all_shaped}
use Rattle.mau_parse.specs.declared.goals.Goal.{Goal}
use Rattle.mau_parse.specs.declared.goals.Goal.TheVariants.{AnyKind, Kind}
use Rattle.mau_parse.proofs.OneReading.{AreOneTerm, term_once, term_no_fault, fault_once, nothing_reads}
use Rattle.mau_program.specs.declared.statements.Fragment.{Fragment}
use Rattle.mau_program.specs.declared.statements.Fragment.TheVariants.{Equal, Match, Sort, Reach}
use Rattle.mau_program.specs.declared.statements.Equation.{Equation}
use Rattle.mau_program.specs.declared.statements.Membership.{Membership}
use Rattle.mau_program.specs.declared.statements.Rule.{Rule}
use Rattle.mau_statement.specs.Context.{ContextOf, terms_in, constant}
use Rattle.mau_statement.specs.Parts.{Pairs, part_words, part_tokens, part_texts, TermReads, PartUnread, nothing_there, no_term, LiesIn, PairReads, PairUnread, first_unread, second_unread}
use Rattle.mau_statement.specs.Conditions.{FragmentReads, equal_reads, match_reads, reach_reads, sort_reads, truth_reads, FragmentUnread, equal_unread, match_unread, reach_unread, tested_unread, no_sort, truth_unread, no_truth, ConditionReads, none_read, one_more_reads, ConditionUnread}
use Rattle.mau_statement.specs.Statements.{EquationReads, RuleReads, MembershipReads, PartsRead, equation_reads, membership_reads, rule_reads, SidesUnread, sides_unread, condition_unread, MembershipUnread, no_sort as sort_unknown, head_unread, condition_unread_behind, PartsUnread, equation_unread, membership_unread, rule_unread, Judged, too_many_variables, too_many_fragments, head_at_fault, variable_unbound, accepted, StatementRead, parts_read, too_many_unread, part_unread}
use Rattle.mau_statement.specs.Faults.{without_trees, told}
use Rattle.mau_statement.specs.declared.statement.Statement.{Statement}
use Rattle.mau_statement.specs.declared.fault.StatementFault.{StatementFault}
use Rattle.mau_statement.specs.declared.fault.StatementFault.TheVariants.{Parse}
use Rattle.mau_statement.proofs.Handed.{part_moved, term_moved}

-- ---- lists

-- a list ends in one way
ends_once : {X : Type 0} (xs ys : List X) (x y : X) → xs ++ x ∷ [] ≡ ys ++ y ∷ [] → (xs ≡ ys) × (x ≡ y)
ends_once [] [] x y e = (refl, cc)
ends_once [] (b ∷ ys) x y e = absurd (omega (arith, ap length e, length_push ys y))
ends_once (a ∷ xs) [] x y e = absurd (omega (arith, ap length e, length_push xs x))
ends_once (a ∷ xs) (b ∷ ys) x y e =
    let first : a ≡ b = cc in
    let rest : xs ++ x ∷ [] ≡ ys ++ y ∷ [] = cc in
    let one = ends_once xs ys x y rest in
    (ap₂ (λ a xs. a ∷ xs) first one.0, one.1)

never_ends : {X : Type 0} (xs : List X) (x : X) → [] ≡ xs ++ x ∷ [] → ⊥
never_ends xs x e = absurd (omega (arith, ap length e, length_push xs x))

get_taken : {X : Type 0} (n : ℕ) (xs : List X) (i : ℕ) → i < n → slice_get (take n xs) i ≡ slice_get xs i
get_taken zero xs i h = absurd (omega (arith, h))
get_taken (suc n) [] i h = refl
get_taken (suc n) (x ∷ xs) zero h = refl
get_taken (suc n) (x ∷ xs) (suc i) h = get_taken n xs i (omega (arith, h))

taken_again : {X : Type 0} (i n : ℕ) (xs : List X) → i < n → take i (take n xs) ≡ take i xs
taken_again zero n xs h = refl
taken_again (suc i) zero xs h = absurd (omega (arith, h))
taken_again (suc i) (suc n) [] h = refl
taken_again (suc i) (suc n) (x ∷ xs) h = ap (λ ys. x ∷ ys) (taken_again i n xs (omega (arith, h)))

-- ---- what is one

record AreOnePair (os os' : Pairs) (a a' b b' : Bare) : Type 0 where
  pairs : os ≡ os'
  first : a ≡ a'
  second : b ≡ b'

record AreOneFragment (os os' : Pairs) (x x' : Fragment) : Type 0 where
  pairs : os ≡ os'
  fragment : x ≡ x'

pub record AreOneCondition (os os' : Pairs) (fs fs' : List Fragment) : Type 0 where
  pub pairs : os ≡ os'
  pub fragments : fs ≡ fs'

one_equation : (e f : Equation) → e.left ≡ f.left → e.right ≡ f.right → e.cond ≡ f.cond → e.owise ≡ f.owise → e.exec ≡ f.exec → e.vars ≡ f.vars → e ≡ f
one_equation e f l r c o x v =
    ap₂ (λ l r. record e { left = l; right = r }) l r
    ∙ ap₂ (λ c o. record e { left = f.left; right = f.right; cond = c; owise = o }) c o
    ∙ ap₂ (λ x v. record f { exec = x; vars = v }) x v

one_membership : (m n : Membership) → m.left ≡ n.left → m.sort ≡ n.sort → m.cond ≡ n.cond → m.exec ≡ n.exec → m.vars ≡ n.vars → m ≡ n
one_membership m n l s c x v =
    ap₂ (λ l s. record m { left = l; sort = s }) l s
    ∙ ap (λ c. record m { left = n.left; sort = n.sort; cond = c }) c
    ∙ ap₂ (λ x v. record n { exec = x; vars = v }) x v

one_rule : (p q : Rule) → p.label ≡ q.label → p.left ≡ q.left → p.right ≡ q.right → p.cond ≡ q.cond → p.exec ≡ q.exec → p.vars ≡ q.vars → p ≡ q
one_rule p q n l r c x v =
    ap₂ (λ n l. record p { label = n; left = l }) n l
    ∙ ap₂ (λ r c. record p { label = q.label; left = q.left; right = r; cond = c }) r c
    ∙ ap₂ (λ x v. record q { exec = x; vars = v }) x v

-- ---- what is judged

module _ (th : ℕ → Theory) (n : ℕ) (s : Statement) where
  judged_once : {p q : Result Statement StatementFault} → Judged th n s p → Judged th n s q → p ≡ q
  judged_once (too_many_variables l) (too_many_variables l') = refl
  judged_once (too_many_variables l) (too_many_fragments l' k') = absurd (omega (arith, l, l'))
  judged_once (too_many_variables l) (head_at_fault f' w' e') = absurd (omega (arith, l, w'.variables))
  judged_once (too_many_variables l) (variable_unbound w' e' u') = absurd (omega (arith, l, w'.variables))
  judged_once (too_many_variables l) (accepted w' e' u') = absurd (omega (arith, l, w'.variables))
  judged_once (too_many_fragments l k) (too_many_variables l') = absurd (omega (arith, l, l'))
  judged_once (too_many_fragments l k) (too_many_fragments l' k') = refl
  judged_once (too_many_fragments l k) (head_at_fault f' w' e') = absurd (omega (arith, k, w'.fragments))
  judged_once (too_many_fragments l k) (variable_unbound w' e' u') = absurd (omega (arith, k, w'.fragments))
  judged_once (too_many_fragments l k) (accepted w' e' u') = absurd (omega (arith, k, w'.fragments))
  judged_once (head_at_fault f w e) (too_many_variables l') = absurd (omega (arith, l', w.variables))
  judged_once (head_at_fault f w e) (too_many_fragments l' k') = absurd (omega (arith, k', w.fragments))
  judged_once (head_at_fault f w e) (head_at_fault f' w' e') = ap (λ f. Err f) (some_once e e')
  judged_once (head_at_fault f w e) (variable_unbound w' e' u') = absurd (some_none e e')
  judged_once (head_at_fault f w e) (accepted w' e' u') = absurd (some_none e e')
  judged_once (variable_unbound w e u) (too_many_variables l') = absurd (omega (arith, l', w.variables))
  judged_once (variable_unbound w e u) (too_many_fragments l' k') = absurd (omega (arith, k', w.fragments))
  judged_once (variable_unbound w e u) (head_at_fault f' w' e') = absurd (some_none e' e)
  judged_once (variable_unbound w e u) (variable_unbound w' e' u') = refl
  judged_once (variable_unbound w e u) (accepted w' e' u') = absurd (yes_no _ u u')
  judged_once (accepted w e u) (too_many_variables l') = absurd (omega (arith, l', w.variables))
  judged_once (accepted w e u) (too_many_fragments l' k') = absurd (omega (arith, k', w.fragments))
  judged_once (accepted w e u) (head_at_fault f' w' e') = absurd (some_none e' e)
  judged_once (accepted w e u) (variable_unbound w' e' u') = absurd (yes_no _ u' u)
  judged_once (accepted w e u) (accepted w' e' u') = refl

-- ---- what is read, where each production has a part: no tokens are no term then

-- each production of a signature has one
pub shaped_of : (s : SignatureOf) (names : List (List ℕ)) (aliases : List Alias) → All IsShaped (grammar_of s names aliases).productions
shaped_of s names aliases = all_shaped s (sort_names s.hierarchy 0 names)

lies_in_one : (s : TermSignature) (t : Tree) (k j : ℕ) → LiesIn s t k → LiesIn s t j → k ≡ j
lies_in_one s (variable i r) k j x y = sym x ∙ y
lies_in_one s (numeral n) k j x y = some_once x y
lies_in_one s (apply f ts) k j x y = sym x ∙ y

module _ (ws : List Word) (c : ContextOf) (shaped : All IsShaped c.grammar.productions) where
  kind_once : (t u : Tree) (k j : ℕ) → t ≡ u → IsBareIn (terms_in c) t k → IsBareIn (terms_in c) u j → k ≡ j
  kind_once t u k j e x y = one_kind (terms_in c) u k j (subst (λ t. IsBareIn (terms_in c) t k) e x) y

  lies_once : (t u : Tree) (k j : ℕ) → t ≡ u → LiesIn (terms_in c) t k → LiesIn (terms_in c) u j → k ≡ j
  lies_once t u k j e x y = lies_in_one (terms_in c) u k j (subst (λ t. LiesIn (terms_in c) t k) e x) y

  -- ---- a term

  pub part_once : (ts : List Token) (goal : Goal) (ns : Pairs) {os os' : Pairs} {b b' : Bare} → TermReads ws c.grammar ts goal ns os b → TermReads ws c.grammar ts goal ns os' b'
      → AreOneTerm c.grammar (part_tokens ws ts) (part_texts ws ts) goal ns os os' b b'
  part_once ts goal ns {os} {os'} {b} {b'} x y = term_once c.grammar (part_tokens ws ts) (part_texts ws ts) goal ns os os' b b' x y

  pub part_no_fault : (ts : List Token) (goal : Goal) (ns : Pairs) {os : Pairs} {b : Bare} {f : StatementFault} → TermReads ws c.grammar ts goal ns os b → PartUnread ws c.grammar ts goal ns f → ⊥
  part_no_fault ts goal ns {os} {b} x (nothing_there e) =
      let none = nil_from_length (part_words ws ts) (eqb-true _ 0 e) in
      nothing_reads c.grammar shaped (part_texts ws ts) goal ns os b (ap (map (λ w. w.text)) none) x
  part_no_fault ts goal ns {os} {b} x (no_term f e n u) = term_no_fault c.grammar (part_tokens ws ts) (part_texts ws ts) goal ns os b f x u n

  pub part_fault_once : (ts : List Token) (goal : Goal) (ns : Pairs) {e f : StatementFault} → PartUnread ws c.grammar ts goal ns e → PartUnread ws c.grammar ts goal ns f → without_trees e ≡ without_trees f
  part_fault_once ts goal ns (nothing_there h) (nothing_there h') = refl
  part_fault_once ts goal ns (nothing_there h) (no_term f h' n u) = absurd (yes_no _ h h')
  part_fault_once ts goal ns (no_term f h n u) (nothing_there h') = absurd (yes_no _ h' h)
  part_fault_once ts goal ns (no_term e h m v) (no_term f h' n u) = ap Parse (fault_once c.grammar (part_tokens ws ts) (part_texts ws ts) goal ns e f v u m n)

  -- ---- two terms of one kind

  module _ (left right : List Token) (ns : Pairs) where
    pair_once : {os os' : Pairs} {a a' b b' : Bare} → PairReads ws c left right ns os a b → PairReads ws c left right ns os' a' b' → AreOnePair os os' a a' b b'
    pair_once {os} {os'} {a} {a'} {b} {b'} x y =
        let one = part_once left AnyKind ns x.first_reads y.first_reads in
        let k = lies_once (tree_of a') (tree_of a) y.kind x.kind (sym one.tree) y.lies x.lies in
        let two = part_once right (Kind x.kind) x.middle x.second_reads (term_moved ws c.grammar os' b' refl k (sym one.pairs) y.second_reads) in
        record { pairs = two.pairs; first = one.term; second = two.term }

    pair_no_fault : {os : Pairs} {a b : Bare} {f : StatementFault} → PairReads ws c left right ns os a b → PairUnread ws c left right ns f → ⊥
    pair_no_fault x (first_unread f u) = part_no_fault left AnyKind ns x.first_reads u
    pair_no_fault {os} {a} {b} x (second_unread f k m a' r l u) =
        let one = part_once left AnyKind ns r x.first_reads in
        let h = lies_once (tree_of a') (tree_of a) k x.kind one.tree l x.lies in
        part_no_fault right (Kind x.kind) x.middle x.second_reads (part_moved f refl h one.pairs u)

    pair_fault_once : {e f : StatementFault} → PairUnread ws c left right ns e → PairUnread ws c left right ns f → without_trees e ≡ without_trees f
    pair_fault_once (first_unread e u) (first_unread f u') = part_fault_once left AnyKind ns u u'
    pair_fault_once (first_unread e u) (second_unread f k' m' a' r' l' u') = absurd (part_no_fault left AnyKind ns r' u)
    pair_fault_once (second_unread e k m a r l u) (first_unread f u') = absurd (part_no_fault left AnyKind ns r u')
    pair_fault_once (second_unread e k m a r l u) (second_unread f k' m' a' r' l' u') =
        let one = part_once left AnyKind ns r r' in
        let h = lies_once (tree_of a) (tree_of a') k k' one.tree l l' in
        part_fault_once right (Kind k') m' (part_moved e refl h one.pairs u) u'

  -- ---- a fragment

  module _ (raw : RawFragment) (ns : Pairs) where
    -- the sign that it is read by
    abbrev sign_read : {os : Pairs} {x : Fragment} → FragmentReads ws c raw ns os x → FragmentKind
    sign_read (equal_reads t u k p) = Sign.Equal
    sign_read (match_reads t u k p) = Sign.Match
    sign_read (reach_reads t u k p) = Sign.Reach
    sign_read (sort_reads t s k r n) = Sign.Sort
    sign_read (truth_reads t f j k e l r) = Sign.Bool

    abbrev sign_unread : {f : StatementFault} → FragmentUnread ws c raw ns f → FragmentKind
    sign_unread (equal_unread f k u) = Sign.Equal
    sign_unread (match_unread f k u) = Sign.Match
    sign_unread (reach_unread f k u) = Sign.Reach
    sign_unread (tested_unread f k u) = Sign.Sort
    sign_unread (no_sort t os k r n) = Sign.Sort
    sign_unread (truth_unread f t j k e l u) = Sign.Bool
    sign_unread (no_truth k e) = Sign.Bool

    read_sign : {os : Pairs} {x : Fragment} (r : FragmentReads ws c raw ns os x) → raw.kind ≡ sign_read r
    read_sign (equal_reads t u k p) = k
    read_sign (match_reads t u k p) = k
    read_sign (reach_reads t u k p) = k
    read_sign (sort_reads t s k r n) = k
    read_sign (truth_reads t f j k e l r) = k

    unread_sign : {f : StatementFault} (u : FragmentUnread ws c raw ns f) → raw.kind ≡ sign_unread u
    unread_sign (equal_unread f k u) = k
    unread_sign (match_unread f k u) = k
    unread_sign (reach_unread f k u) = k
    unread_sign (tested_unread f k u) = k
    unread_sign (no_sort t os k r n) = k
    unread_sign (truth_unread f t j k e l u) = k
    unread_sign (no_truth k e) = k

    fragment_once : {os os' : Pairs} {x x' : Fragment} → FragmentReads ws c raw ns os x → FragmentReads ws c raw ns os' x' → AreOneFragment os os' x x'
    fragment_once (equal_reads t u k p) (equal_reads t' u' k' p') =
        let one = pair_once raw.left raw.right ns p p' in
        record { pairs = one.pairs; fragment = ap₂ Equal one.first one.second }
    fragment_once (match_reads t u k p) (match_reads t' u' k' p') =
        let one = pair_once raw.right raw.left ns p p' in
        record { pairs = one.pairs; fragment = ap₂ Match one.second one.first }
    fragment_once (reach_reads t u k p) (reach_reads t' u' k' p') =
        let one = pair_once raw.left raw.right ns p p' in
        record { pairs = one.pairs; fragment = ap₂ Reach one.first one.second }
    fragment_once (sort_reads t s k r n) (sort_reads t' s' k' r' n') =
        let one = part_once raw.left AnyKind ns r r' in
        record { pairs = one.pairs; fragment = ap₂ Sort one.term (some_once n n') }
    fragment_once {os} {os'} (truth_reads t f j k e l r) (truth_reads t' f' j' k' e' l' r') =
        let same = some_once e e' in
        let h = kind_once (constant f) (constant f') j j' (ap constant same) l l' in
        let one = part_once raw.left (Kind j') ns (term_moved ws c.grammar os t refl h refl r) r' in
        record { pairs = one.pairs; fragment = ap₂ (λ t f. Equal t (App f [])) one.term same }
    fragment_once r r' = let e = sym (read_sign r) ∙ read_sign r' in absurd cc

    fragment_no_fault : {os : Pairs} {x : Fragment} {f : StatementFault} → FragmentReads ws c raw ns os x → FragmentUnread ws c raw ns f → ⊥
    fragment_no_fault (equal_reads t u k p) (equal_unread f k' v) = pair_no_fault raw.left raw.right ns p v
    fragment_no_fault (match_reads t u k p) (match_unread f k' v) = pair_no_fault raw.right raw.left ns p v
    fragment_no_fault (reach_reads t u k p) (reach_unread f k' v) = pair_no_fault raw.left raw.right ns p v
    fragment_no_fault (sort_reads t s k r n) (tested_unread f k' v) = part_no_fault raw.left AnyKind ns r v
    fragment_no_fault (sort_reads t s k r n) (no_sort t' os' k' r' n') = some_none n n'
    fragment_no_fault (truth_reads t f j k e l r) (truth_unread g f' j' k' e' l' v) =
        let h = kind_once (constant f') (constant f) j' j (ap constant (some_once e' e)) l' l in
        part_no_fault raw.left (Kind j) ns r (part_moved g refl h refl v)
    fragment_no_fault (truth_reads t f j k e l r) (no_truth k' e') = some_none e e'
    fragment_no_fault r u = let e = sym (read_sign r) ∙ unread_sign u in absurd cc

    fragment_fault_once : {e f : StatementFault} → FragmentUnread ws c raw ns e → FragmentUnread ws c raw ns f → without_trees e ≡ without_trees f
    fragment_fault_once (equal_unread e k u) (equal_unread f k' u') = pair_fault_once raw.left raw.right ns u u'
    fragment_fault_once (match_unread e k u) (match_unread f k' u') = pair_fault_once raw.right raw.left ns u u'
    fragment_fault_once (reach_unread e k u) (reach_unread f k' u') = pair_fault_once raw.left raw.right ns u u'
    fragment_fault_once (tested_unread e k u) (tested_unread f k' u') = part_fault_once raw.left AnyKind ns u u'
    fragment_fault_once (tested_unread e k u) (no_sort t' os' k' r' n') = absurd (part_no_fault raw.left AnyKind ns r' u)
    fragment_fault_once (no_sort t os k r n) (tested_unread f k' u') = absurd (part_no_fault raw.left AnyKind ns r u')
    fragment_fault_once (no_sort t os k r n) (no_sort t' os' k' r' n') = refl
    fragment_fault_once (truth_unread e t j k h l u) (truth_unread f t' j' k' h' l' u') =
        let i = kind_once (constant t) (constant t') j j' (ap constant (some_once h h')) l l' in
        part_fault_once raw.left (Kind j') ns (part_moved e refl i refl u) u'
    fragment_fault_once (truth_unread e t j k h l u) (no_truth k' h') = absurd (some_none h h')
    fragment_fault_once (no_truth k h) (truth_unread f t' j' k' h' l' u') = absurd (some_none h' h)
    fragment_fault_once (no_truth k h) (no_truth k' h') = refl
    fragment_fault_once u u' = let e = sym (unread_sign u) ∙ unread_sign u' in absurd cc

  -- ---- a condition

  -- the fragments are given twice, since what is read of them is told from the last one on
  pub condition_once : (ns : Pairs) (raws raws' : List RawFragment) {os os' : Pairs} {fs fs' : List Fragment} → raws ≡ raws' → ConditionReads ws c ns raws os fs → ConditionReads ws c ns raws' os' fs'
      → AreOneCondition os os' fs fs'
  condition_once ns raws raws' e none_read none_read = record { pairs = refl; fragments = refl }
  condition_once ns raws raws' e none_read (one_more_reads rs m xs r os x p q) = absurd (never_ends rs r e)
  condition_once ns raws raws' e (one_more_reads rs m xs r os x p q) none_read = absurd (never_ends rs r (sym e))
  condition_once ns raws raws' e (one_more_reads rs m xs r os x p q) (one_more_reads rs' m' xs' r' os' x' p' q') =
      let ends = ends_once rs rs' r r' e in
      let before = condition_once ns rs rs' ends.0 p p' in
      let q'' = subst (λ r. FragmentReads ws c r m os' x') (sym ends.1) (subst (λ m. FragmentReads ws c r' m os' x') (sym before.pairs) q') in
      let one = fragment_once r m q q'' in
      record { pairs = one.pairs; fragments = ap₂ (λ xs x. xs ++ x ∷ []) before.fragments one.fragment }

  -- the fragments before one, and that one
  record IsReadAt (ns : Pairs) (raws : List RawFragment) (i : ℕ) (raw : RawFragment) : Type 0 where
    middle : Pairs
    after : Pairs
    before : List Fragment
    fragment : Fragment
    reads : ConditionReads ws c ns (take i raws) middle before
    next : FragmentReads ws c raw middle after fragment

  read_more : (ns : Pairs) (rs : List RawFragment) (m : Pairs) (xs : List Fragment) (r : RawFragment) (os : Pairs) (x : Fragment) → ConditionReads ws c ns rs m xs → FragmentReads ws c r m os x
      → (i : ℕ) (raw : RawFragment) → slice_get (rs ++ r ∷ []) i ≡ Some raw → (slice_get rs i ≡ Some raw → IsReadAt ns rs i raw) → IsReadAt ns (rs ++ r ∷ []) i raw
  read_more ns rs m xs r os x p q i raw e earlier = by (cases_order i (length rs))
    where
      by : (i ≡ length rs) ⊎ ((i < length rs) ⊎ (length rs < i)) → IsReadAt ns (rs ++ r ∷ []) i raw
      by (inl h) =
          let none : i - length rs ≡ 0 = omega (arith, h) in
          let same : r ≡ raw = some_once (ap (slice_get (r ∷ [])) none) (sym (get_behind rs (r ∷ []) i (omega (arith, h))) ∙ e) in
          let l : take i (rs ++ r ∷ []) ≡ rs = ap (λ k. take k (rs ++ r ∷ [])) h ∙ take-append_seam rs (r ∷ []) in
          record {
            middle = m;
            after = os;
            before = xs;
            fragment = x;
            reads = subst (λ l. ConditionReads ws c ns l m xs) (sym l) p;
            next = subst (λ r. FragmentReads ws c r m os x) same q;
          }
      by (inr (inl h)) =
          let y = earlier (sym (get_front rs (r ∷ []) i h) ∙ e) in
          let l : take i (rs ++ r ∷ []) ≡ take i rs = take-append-le i rs (r ∷ []) (omega (arith, h)) in
          record {
            middle = y.middle;
            after = y.after;
            before = y.before;
            fragment = y.fragment;
            reads = subst (λ l. ConditionReads ws c ns l y.middle y.before) (sym l) y.reads;
            next = y.next;
          }
      by (inr (inr h)) = absurd (omega (arith, h, slice_get_within (rs ++ r ∷ []) i raw e, length_push rs r))

  read_at : (ns : Pairs) (raws : List RawFragment) {os : Pairs} {fs : List Fragment} (i : ℕ) (raw : RawFragment) → ConditionReads ws c ns raws os fs → slice_get raws i ≡ Some raw → IsReadAt ns raws i raw
  read_at ns raws i raw none_read e = absurd (omega (arith, slice_get_within [] i raw e))
  read_at ns raws i raw (one_more_reads rs m xs r os x p q) e = read_more ns rs m xs r os x p q i raw e (λ h. read_at ns rs i raw p h)

  pub condition_no_fault : (ns : Pairs) (raws : List RawFragment) {os : Pairs} {fs : List Fragment} {f : StatementFault} → ConditionReads ws c ns raws os fs → ConditionUnread ws c ns raws f → ⊥
  condition_no_fault ns raws {os} {fs} {f} x u =
      let y = read_at ns raws u.i u.raw x u.there in
      let one = condition_once ns (take u.i raws) (take u.i raws) refl u.reads y.reads in
      fragment_no_fault u.raw y.middle y.next (subst (λ m. FragmentUnread ws c u.raw m f) one.pairs u.unread)

  -- where fragments are read up to one that isn't, none before it isn't
  none_earlier : (ns : Pairs) (raws : List RawFragment) {e f : StatementFault} (x : ConditionUnread ws c ns raws e) (y : ConditionUnread ws c ns raws f) → x.i < y.i → ⊥
  none_earlier ns raws x y h =
      condition_no_fault ns (take y.i raws) y.reads
      (record {
        i = x.i;
        raw = x.raw;
        there = get_taken y.i raws x.i h ∙ x.there;
        middle = x.middle;
        before = x.before;
        reads = subst (λ l. ConditionReads ws c ns l x.middle x.before) (sym (taken_again x.i y.i raws h)) x.reads;
        unread = x.unread;
      })

  pub condition_fault_once : (ns : Pairs) (raws : List RawFragment) {e f : StatementFault} → ConditionUnread ws c ns raws e → ConditionUnread ws c ns raws f → without_trees e ≡ without_trees f
  condition_fault_once ns raws {e} {f} x y = by (cases_order x.i y.i)
    where
      by : (x.i ≡ y.i) ⊎ ((x.i < y.i) ⊎ (y.i < x.i)) → without_trees e ≡ without_trees f
      by (inl h) =
          let same : x.raw ≡ y.raw = some_once x.there (ap (slice_get raws) h ∙ y.there) in
          let one = condition_once ns (take x.i raws) (take y.i raws) (ap (λ i. take i raws) h) x.reads y.reads in
          let u = subst (λ m. FragmentUnread ws c y.raw m e) one.pairs (subst (λ r. FragmentUnread ws c r x.middle e) same x.unread) in
          fragment_fault_once y.raw y.middle u y.unread
      by (inr (inl h)) = absurd (none_earlier ns raws x y h)
      by (inr (inr h)) = absurd (none_earlier ns raws y x h)

  -- ---- the parts of a statement

  module _ (raw : RawStatement) where
    abbrev kind_of_sort : ℕ → Goal
    kind_of_sort s = Kind (kind_of c.signature.hierarchy s)

    equation_once : (e e' : Equation) → EquationReads ws c raw e → EquationReads ws c raw e' → e ≡ e'
    equation_once e e' x y =
        let one = pair_once raw.left raw.right [] x.sides y.sides in
        let z = subst (λ m. ConditionReads ws c m raw.cond e'.vars e'.cond) (sym one.pairs) y.condition in
        let rest = condition_once x.middle raw.cond raw.cond refl x.condition z in
        one_equation e e' one.first one.second rest.fragments (x.owise ∙ sym y.owise) (x.exec ∙ sym y.exec) rest.pairs

    rule_once : (r r' : Rule) → RuleReads ws c raw r → RuleReads ws c raw r' → r ≡ r'
    rule_once r r' x y =
        let one = pair_once raw.left raw.right [] x.sides y.sides in
        let z = subst (λ m. ConditionReads ws c m raw.cond r'.vars r'.cond) (sym one.pairs) y.condition in
        let rest = condition_once x.middle raw.cond raw.cond refl x.condition z in
        one_rule r r' (x.label ∙ sym y.label) one.first one.second rest.fragments (x.exec ∙ sym y.exec) rest.pairs

    membership_once : (m m' : Membership) → MembershipReads ws c raw m → MembershipReads ws c raw m' → m ≡ m'
    membership_once m m' x y =
        let sort = some_once y.sort x.sort in
        let head = term_moved ws c.grammar y.middle m'.left refl (ap (kind_of c.signature.hierarchy) sort) refl y.head in
        let one = part_once raw.left (kind_of_sort m.sort) [] x.head head in
        let z = subst (λ n. ConditionReads ws c n raw.cond m'.vars m'.cond) (sym one.pairs) y.condition in
        let rest = condition_once x.middle raw.cond raw.cond refl x.condition z in
        one_membership m m' one.term (sym sort) rest.fragments (x.exec ∙ sym y.exec) rest.pairs

    -- two sides and a condition have no fault
    sides_no_fault : {m os : Pairs} {l r : Bare} {fs : List Fragment} {f : StatementFault} → PairReads ws c raw.left raw.right [] m l r → ConditionReads ws c m raw.cond os fs → SidesUnread ws c raw f → ⊥
    sides_no_fault p q (sides_unread f u) = pair_no_fault raw.left raw.right [] p u
    sides_no_fault {m} p q (condition_unread f m' l' r' p' u) =
        let one = pair_once raw.left raw.right [] p' p in
        condition_no_fault m raw.cond q (subst (λ m. ConditionUnread ws c m raw.cond f) one.pairs u)

    sides_fault_once : {e f : StatementFault} → SidesUnread ws c raw e → SidesUnread ws c raw f → without_trees e ≡ without_trees f
    sides_fault_once (sides_unread e u) (sides_unread f u') = pair_fault_once raw.left raw.right [] u u'
    sides_fault_once (sides_unread e u) (condition_unread f m' l' r' p' u') = absurd (pair_no_fault raw.left raw.right [] p' u)
    sides_fault_once (condition_unread e m l r p u) (sides_unread f u') = absurd (pair_no_fault raw.left raw.right [] p u')
    sides_fault_once (condition_unread e m l r p u) (condition_unread f m' l' r' p' u') =
        let one = pair_once raw.left raw.right [] p p' in
        condition_fault_once m' raw.cond (subst (λ m. ConditionUnread ws c m raw.cond e) one.pairs u) u'

    membership_no_fault : {m : Membership} {f : StatementFault} → MembershipReads ws c raw m → MembershipUnread ws c raw f → ⊥
    membership_no_fault x (sort_unknown n) = some_none x.sort n
    membership_no_fault {m} x (head_unread f s e u) =
        part_no_fault raw.left (kind_of_sort m.sort) [] x.head (part_moved f refl (ap (kind_of c.signature.hierarchy) (some_once e x.sort)) refl u)
    membership_no_fault {m} x (condition_unread_behind f s n b e r u) =
        let head = term_moved ws c.grammar n b refl (ap (kind_of c.signature.hierarchy) (some_once e x.sort)) refl r in
        let one = part_once raw.left (kind_of_sort m.sort) [] head x.head in
        condition_no_fault x.middle raw.cond x.condition (subst (λ m. ConditionUnread ws c m raw.cond f) one.pairs u)

    membership_fault_once : {e f : StatementFault} → MembershipUnread ws c raw e → MembershipUnread ws c raw f → without_trees e ≡ without_trees f
    membership_fault_once (sort_unknown n) (sort_unknown n') = refl
    membership_fault_once (sort_unknown n) (head_unread f s' h' u') = absurd (some_none h' n)
    membership_fault_once (sort_unknown n) (condition_unread_behind f s' m' b' h' r' u') = absurd (some_none h' n)
    membership_fault_once (head_unread e s h u) (sort_unknown n') = absurd (some_none h n')
    membership_fault_once (head_unread e s h u) (head_unread f s' h' u') =
        part_fault_once raw.left (kind_of_sort s') [] (part_moved e refl (ap (kind_of c.signature.hierarchy) (some_once h h')) refl u) u'
    membership_fault_once (head_unread e s h u) (condition_unread_behind f s' m' b' h' r' u') =
        absurd (part_no_fault raw.left (kind_of_sort s') [] r' (part_moved e refl (ap (kind_of c.signature.hierarchy) (some_once h h')) refl u))
    membership_fault_once (condition_unread_behind e s m b h r u) (sort_unknown n') = absurd (some_none h n')
    membership_fault_once (condition_unread_behind e s m b h r u) (head_unread f s' h' u') =
        absurd (part_no_fault raw.left (kind_of_sort s) [] r (part_moved f refl (ap (kind_of c.signature.hierarchy) (some_once h' h)) refl u'))
    membership_fault_once (condition_unread_behind e s m b h r u) (condition_unread_behind f s' m' b' h' r' u') =
        let head = term_moved ws c.grammar m b refl (ap (kind_of c.signature.hierarchy) (some_once h h')) refl r in
        let one = part_once raw.left (kind_of_sort s') [] head r' in
        condition_fault_once m' raw.cond (subst (λ m. ConditionUnread ws c m raw.cond e) one.pairs u) u'

    -- the kind that it is read as
    abbrev word_read : {s : Statement} → PartsRead ws c raw s → StatementKind
    word_read (equation_reads e k x) = Keyword.Equation
    word_read (membership_reads m k x) = Keyword.Membership
    word_read (rule_reads r k x) = Keyword.Rule

    abbrev word_unread : {f : StatementFault} → PartsUnread ws c raw f → StatementKind
    word_unread (equation_unread f k u) = Keyword.Equation
    word_unread (membership_unread f k u) = Keyword.Membership
    word_unread (rule_unread f k u) = Keyword.Rule

    read_word : {s : Statement} (x : PartsRead ws c raw s) → raw.kind ≡ word_read x
    read_word (equation_reads e k x) = k
    read_word (membership_reads m k x) = k
    read_word (rule_reads r k x) = k

    unread_word : {f : StatementFault} (u : PartsUnread ws c raw f) → raw.kind ≡ word_unread u
    unread_word (equation_unread f k u) = k
    unread_word (membership_unread f k u) = k
    unread_word (rule_unread f k u) = k

    parts_once : {s s' : Statement} → PartsRead ws c raw s → PartsRead ws c raw s' → s ≡ s'
    parts_once (equation_reads e k x) (equation_reads e' k' x') = ap (λ e. Statement.Equation e) (equation_once e e' x x')
    parts_once (membership_reads m k x) (membership_reads m' k' x') = ap (λ m. Statement.Membership m) (membership_once m m' x x')
    parts_once (rule_reads r k x) (rule_reads r' k' x') = ap (λ r. Statement.Rule r) (rule_once r r' x x')
    parts_once x y = let e = sym (read_word x) ∙ read_word y in absurd cc

    parts_no_fault : {s : Statement} {f : StatementFault} → PartsRead ws c raw s → PartsUnread ws c raw f → ⊥
    parts_no_fault (equation_reads e k x) (equation_unread f k' u) = sides_no_fault x.sides x.condition u
    parts_no_fault (membership_reads m k x) (membership_unread f k' u) = membership_no_fault x u
    parts_no_fault (rule_reads r k x) (rule_unread f k' u) = sides_no_fault x.sides x.condition u
    parts_no_fault x u = let e = sym (read_word x) ∙ unread_word u in absurd cc

    parts_fault_once : {e f : StatementFault} → PartsUnread ws c raw e → PartsUnread ws c raw f → without_trees e ≡ without_trees f
    parts_fault_once (equation_unread e k u) (equation_unread f k' u') = sides_fault_once u u'
    parts_fault_once (membership_unread e k u) (membership_unread f k' u') = membership_fault_once u u'
    parts_fault_once (rule_unread e k u) (rule_unread f k' u') = sides_fault_once u u'
    parts_fault_once u u' = let e = sym (unread_word u) ∙ unread_word u' in absurd cc

    -- ---- a statement

    judged_alike : {s s' : Statement} {r r' : Result Statement StatementFault} → s ≡ s' → Judged (theory_at c.signature) (length raw.cond) s r → Judged (theory_at c.signature) (length raw.cond) s' r' → r ≡ r'
    judged_alike {s} {s'} {r} {r'} e x y =
        judged_once (theory_at c.signature) (length raw.cond) s' (subst (λ s. Judged (theory_at c.signature) (length raw.cond) s r) e x) y

    -- what it says, or its fault, is told in one way
    pub statement_once : (r s : Result Statement StatementFault) → StatementRead ws c raw r → StatementRead ws c raw s → told r ≡ told s
    statement_once r s (parts_read x r' p j) (parts_read y s' q l) = ap told (judged_alike (parts_once p q) j l)
    statement_once r s (parts_read x r' p j) (too_many_unread f u l) = absurd (parts_no_fault p u)
    statement_once r s (parts_read x r' p j) (part_unread f u l) = absurd (parts_no_fault p u)
    statement_once r s (too_many_unread f u l) (parts_read y s' q j) = absurd (parts_no_fault q u)
    statement_once r s (too_many_unread f u l) (too_many_unread g v h) = refl
    statement_once r s (too_many_unread f u l) (part_unread g v h) = absurd (omega (arith, l, h))
    statement_once r s (part_unread f u l) (parts_read y s' q j) = absurd (parts_no_fault q u)
    statement_once r s (part_unread f u l) (too_many_unread g v h) = absurd (omega (arith, l, h))
    statement_once r s (part_unread f u l) (part_unread g v h) = ap (λ f. Err f) (parts_fault_once u v)
