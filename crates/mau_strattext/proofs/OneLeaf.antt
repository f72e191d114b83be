-- A word of a strategy with what stands behind it is one strategy, or has one fault, but for the two trees of an ambiguity.
use Rattle.std.proofs.Common.{◌≡◌, ◌≢◌, ℕ, ◌+◌, ◌-◌, List, [], ◌∷◌, ◌++◌, Bool, true, false, not, ◌&&◌, ◌||◌, ◌==◌, Option, Some, None, Result, Ok, Err, length, refl, sym, subst, ap, ap₂, ◌∙◌, All, slice_get}
use Rattle.std.specs.Prelude.{if◌then◌else◌, find, codes}
use Rattle.std.specs.List.{list_any}
use Rattle.std.specs.Str.{bytes_eq}
use Rattle.mau_terms.specs.Tree.{Tree}
use Rattle.mau_terms.specs.View.{tree_of}
use Rattle.mau_terms.specs.declared.ids.VarId.{VarId}
use Rattle.mau_terms.specs.declared.bare.Bare.{Bare}
use Rattle.mau_terms.specs.declared.bare.Bare.TheVariants.{Var}
use Rattle.mau_declare.proofs.Once.{yes_no, some_none, some_once}
use Rattle.mau_grammar.specs.Production.{IsShaped}
use Rattle.mau_modtext.specs.declared.raw.RawFragment.{RawFragment}
use Rattle.mau_modtext.specs.declared.fault.Fault.TheVariants.{Unexpected as UnexpectedAt}
use Rattle.mau_parse.specs.declared.goals.Goal.{Goal}
use Rattle.mau_parse.specs.declared.goals.Goal.TheVariants.{AnyKind, Kind}
use Rattle.mau_parse.specs.declared.fault.ParseFault.{ParseFault}
use Rattle.mau_parse.specs.Parsed.{without_trees as without_trees_of}
use Rattle.mau_parse.proofs.OneReading.{AreOneTerm}
use Rattle.mau_program.specs.declared.statements.Fragment.{Fragment as FragmentOf}
use Rattle.mau_program.specs.declared.strategies.Assign.{Assign}
use Rattle.mau_program.specs.declared.definitions.StratDecl.{StratDecl}
use Rattle.mau_program.specs.Trees.{StrategyOf, idle, fail, every_rule, label, call, test}
use Rattle.mau_statement.specs.Parts.{Pairs, part_tokens, part_texts}
use Rattle.mau_statement.specs.Conditions.{ConditionReads, ConditionUnread}
use Rattle.mau_statement.specs.Faults.{without_trees as without_trees_of_statement}
use Rattle.mau_statement.specs.declared.fault.StatementFault.{StatementFault}
use Rattle.mau_statement.specs.declared.fault.StatementFault.TheVariants.{LimitExceeded, Parse as NoTerm, UnknownSort, LhsVariable, MembershipHead, UnboundVariable, NoMemory}
use Rattle.mau_statement.proofs.Handed.{part_moved, term_moved}
use Rattle.mau_statement.proofs.OneStatement.{part_once, part_no_fault, part_fault_once, condition_once, condition_no_fault, condition_fault_once}
use Rattle.mau_shapes.specs.declared.pieces.Part.{Part}
use Rattle.mau_shapes.specs.declared.pieces.Piece.{Piece}
use Rattle.mau_shapes.specs.declared.pieces.Piece.TheVariants.{Plain, Label, Variable, Value, Call, Argument, Called, Test, Pattern, Fragment}
use Rattle.mau_strattext.specs.Setting.{SettingOf, word_at, start_at, tokens_of, has_name, is_form, is_declared, is_label, is_unknown, declared}
use Rattle.mau_strattext.specs.Fragments.{cut}
use Rattle.mau_strattext.specs.Reads.{IsTerm, kind_in, IsUse, UsesRead, no_uses, one_use, ArgumentsRead, no_arguments, one_argument, FragmentsRead, no_fragments, one_fragment, test_kind, LeafReads, idle_reads, fail_reads, all_reads, label_reads, name_reads, assigned_reads, called_reads, test_reads}
use Rattle.mau_strattext.specs.Faults.{is_leaf, IsNoTerm, is_variable, IsNoVariable, no_term_there, other_term_there, UsesFault, no_variable, no_value, later_use, ArgumentsFault, no_argument, later_argument, IsOfFragment, FragmentsFault, not_cut, no_fragment, later_fragment, are_closed, LeafFault, no_name, no_label_here, takes_arguments, no_label, takes_no_values, in_values, no_strategy, label_called, other_number, in_arguments, no_pattern, in_condition, UsesOpen, no_value_yet, later_open, LeafOpen, values_open, call_open, test_open}
use Rattle.mau_strattext.specs.Building.{fragment_fault_of}
use Rattle.mau_strattext.specs.Laws.{without_trees}
use Rattle.mau_strattext.proofs.Whole.{leaf_is}
use Rattle.mau_strattext.specs.declared.fault.StratFault.{StratFault}
use Rattle.mau_strattext.specs.declared.fault.StratFault.TheVariants.{Unexpected, UnknownName, Parse, Arity}

-- ---- names

label_declared : (d l : Bool) → (not d && l) ≡ true → d ≡ true → ⊥
label_declared true l e h = absurd cc
label_declared false l e h = absurd cc

label_unknown : (d l : Bool) → (not d && l) ≡ true → (not d && not l) ≡ true → ⊥
label_unknown true l e h = absurd cc
label_unknown false true e h = absurd cc
label_unknown false false e h = absurd cc

unknown_declared : (d l : Bool) → (not d && not l) ≡ true → d ≡ true → ⊥
unknown_declared true l e h = absurd cc
unknown_declared false l e h = absurd cc

-- a declaration with some number of arguments is one of the name
found_named : (w : List ℕ) (n : ℕ) (ds : List StratDecl) (d : StratDecl) → find (λ (d : StratDecl). has_name w d && length d.args == n) ds ≡ Some d → list_any (has_name w) ds ≡ true
found_named w n [] d e = absurd cc
found_named w n (x ∷ ds) d e = by (has_name w x) (length x.args == n) (found_named w n ds d) e
  where
    by : (a b : Bool) → (find (λ (d : StratDecl). has_name w d && length d.args == n) ds ≡ Some d → list_any (has_name w) ds ≡ true)
        → (if a && b then Some x else find (λ (d : StratDecl). has_name w d && length d.args == n) ds) ≡ Some d → (a || list_any (has_name w) ds) ≡ true
    by true b rest h = refl
    by false b rest h = rest h

variable_same : {v w : VarId} → Var v ≡ Var w → v ≡ w
variable_same e = cc

is_variable_so : {v : VarId} {b : Bare} → Var v ≡ b → is_variable b ≡ false → ⊥
is_variable_so {v} {b} e n = let m = ap is_variable e ∙ n in absurd cc

module _ (s : SettingOf) (shaped : All IsShaped s.context.grammar.productions) where
  -- ---- terms

  abbrev SameTerm : Part → Goal → Pairs → Pairs → Pairs → Bare → Bare → Type 0
  SameTerm p goal ns os os' b b' = AreOneTerm s.context.grammar (part_tokens s.words (tokens_of s p)) (part_texts s.words (tokens_of s p)) goal ns os os' b b'

  term_same : (p : Part) (goal : Goal) (ns : Pairs) {os os' : Pairs} {b b' : Bare} → IsTerm s p goal ns os b → IsTerm s p goal ns os' b' → SameTerm p goal ns os os' b b'
  term_same p goal ns x y = part_once s.words s.context shaped (tokens_of s p) goal ns x y

  term_there : (p : Part) (goal : Goal) (ns : Pairs) {os : Pairs} {b : Bare} {f : ParseFault} → IsTerm s p goal ns os b → IsNoTerm s p goal ns f → ⊥
  term_there p goal ns x u = part_no_fault s.words s.context shaped (tokens_of s p) goal ns x u

  fault_same : (p : Part) (goal : Goal) (ns : Pairs) {f g : ParseFault} → IsNoTerm s p goal ns f → IsNoTerm s p goal ns g → without_trees_of f ≡ without_trees_of g
  fault_same p goal ns {f} {g} u v =
      let e : NoTerm (without_trees_of f) ≡ NoTerm (without_trees_of g) = part_fault_once s.words s.context shaped (tokens_of s p) goal ns u v in cc

  -- the same in another kind, behind other variables
  term_at : (p : Part) {k j : ℕ} {ns ms os : Pairs} {b : Bare} → k ≡ j → ns ≡ ms → IsTerm s p (Kind k) ns os b → IsTerm s p (Kind j) ms os b
  term_at p {k} {j} {ns} {ms} {os} {b} e m x = term_moved s.words s.context.grammar os b refl e m x

  no_term_at : (p : Part) {k j : ℕ} {ns ms : Pairs} {f : ParseFault} → k ≡ j → ns ≡ ms → IsNoTerm s p (Kind k) ns f → IsNoTerm s p (Kind j) ms f
  no_term_at p {k} {j} {ns} {ms} {f} e m u = part_moved (NoTerm f) refl e m u

  -- a variable is there
  no_variable_none : (p : Part) (ns os : Pairs) (v : VarId) → IsTerm s p AnyKind ns os (Var v) → IsNoVariable s p ns → ⊥
  no_variable_none p ns os v x (no_term_there f u) = term_there p AnyKind ns x u
  no_variable_none p ns os v x (other_term_there os' b y n) = is_variable_so (term_same p AnyKind ns x y).term n

  -- ---- X <- t

  record SameVariable (os os' : Pairs) (x y : List ℕ × ℕ) : Type 0 where
    pairs : os ≡ os'
    variable : x ≡ y

  variable_once : (p : Part) (ns os os' : Pairs) (v w : VarId) (x y : List ℕ × ℕ) → IsTerm s p AnyKind ns os (Var v) → IsTerm s p AnyKind ns os' (Var w)
      → slice_get os v.index ≡ Some x → slice_get os' w.index ≡ Some y → SameVariable os os' x y
  variable_once p ns os os' v w x y t u e f =
      let one = term_same p AnyKind ns t u in
      record {
        pairs = one.pairs;
        variable = some_once e (ap₂ (λ ms (z : VarId). slice_get ms z.index) one.pairs (variable_same one.term) ∙ f);
      }

  use_once : (p q : Part) (ns os os' : Pairs) (a a' : Assign) → IsUse s p q ns os a → IsUse s p q ns os' a' → (os ≡ os') × (a ≡ a')
  use_once p q ns os os' a a' x y =
      let one = variable_once p ns x.middle y.middle x.variable y.variable (a.name, a.sort) (a'.name, a'.sort) x.is_variable y.is_variable x.named y.named in
      let kind : kind_in s a'.sort ≡ kind_in s a.sort = ap (λ (z : List ℕ × ℕ). kind_in s z.1) (sym one.variable) in
      let two = term_same q (Kind (kind_in s a.sort)) x.middle x.value (term_at q kind (sym one.pairs) y.value) in
      (two.pairs, ap₂ (λ (z : List ℕ × ℕ) (b : Bare). let c : Assign = record { name = z.0; sort = z.1; value = b } in c) one.variable two.term)

  -- a use, and a value that is none
  value_there : (p q : Part) (ns os m : Pairs) (a : Assign) (v : VarId) (x : List ℕ × ℕ) (f : ParseFault) → IsUse s p q ns os a → IsTerm s p AnyKind ns m (Var v)
      → slice_get m v.index ≡ Some x → IsNoTerm s q (Kind (kind_in s x.1)) m f → ⊥
  value_there p q ns os m a v x f u t e n =
      let one = variable_once p ns u.middle m u.variable v (a.name, a.sort) x u.is_variable t u.named e in
      term_there q (Kind (kind_in s a.sort)) u.middle u.value (no_term_at q (ap (λ (z : List ℕ × ℕ). kind_in s z.1) (sym one.variable)) (sym one.pairs) n)

  uses_once : {ps : List Piece} {ns os os' : Pairs} {xs xs' : List Assign} → UsesRead s ps ns os xs → UsesRead s ps ns os' xs' → (os ≡ os') × (xs ≡ xs')
  uses_once (no_uses ns) (no_uses ns') = (refl, refl)
  uses_once (one_use p q us ns m os a more u r) (one_use p' q' us' ns' m' end a' more' u' r') =
      let one = use_once p q ns m m' a a' u u' in
      let rest = uses_once r (subst (λ z. UsesRead s us z end more') (sym one.0) r') in
      (rest.0, ap₂ (λ (z : Assign) zs. z ∷ zs) one.1 rest.1)

  uses_no_fault : {ps : List Piece} {ns os : Pairs} {xs : List Assign} {f : StratFault} → UsesRead s ps ns os xs → UsesFault s ps ns f → ⊥
  uses_no_fault (no_uses ns) x = elim x [ ]
  uses_no_fault (one_use p q us ns m os a more u r) (no_variable p' us' ns' n) = no_variable_none p ns u.middle u.variable u.is_variable n
  uses_no_fault (one_use p q us ns m os a more u r) (no_value p' q' us' ns' m' v x f t e n) = value_there p q ns m m' a v x f u t e n
  uses_no_fault (one_use p q us ns m os a more u r) (later_use p' q' us' ns' m' a' g u' l) =
      let one = use_once p q ns m m' a a' u u' in
      uses_no_fault r (subst (λ z. UsesFault s us z g) (sym one.0) l)

  uses_fault_once : {ps : List Piece} {ns : Pairs} {f g : StratFault} → UsesFault s ps ns f → UsesFault s ps ns g → without_trees f ≡ without_trees g
  uses_fault_once (no_variable p us ns n) (no_variable p' us' ns' n') = refl
  uses_fault_once (no_variable p us ns n) (no_value p' q' us' ns' m' v' x' f' t' e' n') = absurd (no_variable_none p ns m' v' t' n)
  uses_fault_once (no_variable p us ns n) (later_use p' q' us' ns' m' a' f' u' l') = absurd (no_variable_none p ns u'.middle u'.variable u'.is_variable n)
  uses_fault_once (no_value p q us ns m v x f t e n) (no_variable p' us' ns' n') = absurd (no_variable_none p ns m v t n')
  uses_fault_once (no_value p q us ns m v x f t e n) (no_value p' q' us' ns' m' v' x' f' t' e' n') =
      let one = variable_once p ns m m' v v' x x' t t' e e' in
      ap (Parse (start_at s q.start)) (fault_same q (Kind (kind_in s x.1)) m n (no_term_at q (ap (λ (z : List ℕ × ℕ). kind_in s z.1) (sym one.variable)) (sym one.pairs) n'))
  uses_fault_once (no_value p q us ns m v x f t e n) (later_use p' q' us' ns' m' a' f' u' l') = absurd (value_there p q ns m' m a' v x f u' t e n)
  uses_fault_once (later_use p q us ns m a f u l) (no_variable p' us' ns' n') = absurd (no_variable_none p ns u.middle u.variable u.is_variable n')
  uses_fault_once (later_use p q us ns m a f u l) (no_value p' q' us' ns' m' v' x' f' t' e' n') = absurd (value_there p q ns m m' a v' x' f' u t' e' n')
  uses_fault_once (later_use p q us ns m a f u l) (later_use p' q' us' ns' m' a' f' u' l') =
      uses_fault_once l (subst (λ z. UsesFault s us z f') (sym (use_once p q ns m m' a a' u u').0) l')

  -- ---- arguments

  arguments_once : {sorts : List ℕ} {ps : List Piece} {ns os os' : Pairs} {bs bs' : List Tree} → ArgumentsRead s sorts ps ns os bs → ArgumentsRead s sorts ps ns os' bs'
      → (os ≡ os') × (bs ≡ bs')
  arguments_once (no_arguments ns) (no_arguments ns') = (refl, refl)
  arguments_once (one_argument k ks p ps ns m os b more t r) (one_argument k' ks' p' ps' ns' m' os' b' more' t' r') =
      let one = term_same p (Kind (kind_in s k)) ns t t' in
      let rest = arguments_once r (subst (λ z. ArgumentsRead s ks ps z os' more') (sym one.pairs) r') in
      (rest.0, ap₂ (λ (z : Tree) zs. z ∷ zs) one.tree rest.1)

  arguments_no_fault : {sorts : List ℕ} {ps : List Piece} {ns os : Pairs} {bs : List Tree} {f : StratFault} → ArgumentsRead s sorts ps ns os bs → ArgumentsFault s sorts ps ns f → ⊥
  arguments_no_fault (no_arguments ns) x = elim x [ ]
  arguments_no_fault (one_argument k ks p ps ns m os b more t r) (no_argument k' ks' p' ps' ns' f n) = term_there p (Kind (kind_in s k)) ns t n
  arguments_no_fault (one_argument k ks p ps ns m os b more t r) (later_argument k' ks' p' ps' ns' m' b' f t' l) =
      arguments_no_fault r (subst (λ z. ArgumentsFault s ks ps z f) (sym (term_same p (Kind (kind_in s k)) ns t t').pairs) l)

  arguments_fault_once : {sorts : List ℕ} {ps : List Piece} {ns : Pairs} {f g : StratFault} → ArgumentsFault s sorts ps ns f → ArgumentsFault s sorts ps ns g
      → without_trees f ≡ without_trees g
  arguments_fault_once (no_argument k ks p ps ns f n) (no_argument k' ks' p' ps' ns' f' n') = ap (Parse (start_at s p.start)) (fault_same p (Kind (kind_in s k)) ns n n')
  arguments_fault_once (no_argument k ks p ps ns f n) (later_argument k' ks' p' ps' ns' m' b' f' t' l') = absurd (term_there p (Kind (kind_in s k)) ns t' n)
  arguments_fault_once (later_argument k ks p ps ns m b f t l) (no_argument k' ks' p' ps' ns' f' n') = absurd (term_there p (Kind (kind_in s k)) ns t n')
  arguments_fault_once (later_argument k ks p ps ns m b f t l) (later_argument k' ks' p' ps' ns' m' b' f' t' l') =
      arguments_fault_once l (subst (λ z. ArgumentsFault s ks ps z f') (sym (term_same p (Kind (kind_in s k)) ns t t').pairs) l')

  -- ---- fragments

  ok_same : {X E : Type 0} {x y : X} {r : Result X E} → r ≡ Ok x → r ≡ Ok y → x ≡ y
  ok_same e f = let t = sym e ∙ f in cc

  ok_not : {X E : Type 0} {x : X} {y : E} {r : Result X E} → r ≡ Ok x → r ≡ Err y → ⊥
  ok_not e f = let t = sym e ∙ f in absurd cc

  err_same : {X E : Type 0} {x y : E} {r : Result X E} → r ≡ Err x → r ≡ Err y → x ≡ y
  err_same e f = let t = sym e ∙ f in cc

  of_fragment : (at : ℕ) (f : StatementFault) (g : StratFault) → IsOfFragment at f g → without_trees g ≡ fragment_fault_of at (without_trees_of_statement f)
  of_fragment at (NoTerm f) g h = ap without_trees h
  of_fragment at (UnknownSort n) g h = ap without_trees h
  of_fragment at (LimitExceeded l) g h = absurd h
  of_fragment at LhsVariable g h = absurd h
  of_fragment at MembershipHead g h = absurd h
  of_fragment at UnboundVariable g h = absurd h
  of_fragment at NoMemory g h = absurd h

  raws_same : {a b : RawFragment} → a ≡ b → a ∷ [] ≡ b ∷ []
  raws_same e = ap (λ (z : RawFragment). z ∷ []) e

  fragments_once : {ps : List Piece} {ns os os' : Pairs} {xs xs' : List FragmentOf} → FragmentsRead s ps ns os xs → FragmentsRead s ps ns os' xs' → (os ≡ os') × (xs ≡ xs')
  fragments_once (no_fragments ns) (no_fragments ns') = (refl, refl)
  fragments_once (one_fragment p ps raw ns m os xs more e c r) (one_fragment p' ps' raw' ns' m' end xs' more' e' c' r') =
      let one = condition_once s.words s.context shaped ns (raw ∷ []) (raw' ∷ []) (raws_same (ok_same e e')) c c' in
      let rest = fragments_once r (subst (λ z. FragmentsRead s ps z end more') (sym one.pairs) r') in
      (rest.0, ap₂ (λ (ys zs : List FragmentOf). ys ++ zs) one.fragments rest.1)

  fragments_no_fault : {ps : List Piece} {ns os : Pairs} {xs : List FragmentOf} {f : StratFault} → FragmentsRead s ps ns os xs → FragmentsFault s ps ns f → ⊥
  fragments_no_fault (no_fragments ns) x = elim x [ ]
  fragments_no_fault (one_fragment p ps raw ns m os xs more e c r) (not_cut p' ps' ns' at e') = ok_not e e'
  fragments_no_fault (one_fragment p ps raw ns m os xs more e c r) (no_fragment p' ps' raw' ns' f g e' u o) =
      condition_no_fault s.words s.context shaped ns (raw ∷ []) c (subst (λ zs. ConditionUnread s.words s.context ns zs f) (raws_same (ok_same e' e)) u)
  fragments_no_fault (one_fragment p ps raw ns m os xs more e c r) (later_fragment p' ps' raw' ns' m' xs' f e' c' l) =
      let one = condition_once s.words s.context shaped ns (raw ∷ []) (raw' ∷ []) (raws_same (ok_same e e')) c c' in
      fragments_no_fault r (subst (λ z. FragmentsFault s ps z f) (sym one.pairs) l)

  fragments_fault_once : {ps : List Piece} {ns : Pairs} {f g : StratFault} → FragmentsFault s ps ns f → FragmentsFault s ps ns g → without_trees f ≡ without_trees g
  fragments_fault_once (not_cut p ps ns at e) (not_cut p' ps' ns' at' e') =
      let same : UnexpectedAt at ≡ UnexpectedAt at' = err_same e e' in
      let n : at ≡ at' = cc in ap (λ n. Unexpected n) n
  fragments_fault_once (not_cut p ps ns at e) (no_fragment p' ps' raw' ns' f' g' e' u' o') = absurd (ok_not e' e)
  fragments_fault_once (not_cut p ps ns at e) (later_fragment p' ps' raw' ns' m' xs' f' e' c' l') = absurd (ok_not e' e)
  fragments_fault_once (no_fragment p ps raw ns f g e u o) (not_cut p' ps' ns' at' e') = absurd (ok_not e e')
  fragments_fault_once (no_fragment p ps raw ns f g e u o) (no_fragment p' ps' raw' ns' f' g' e' u' o') =
      let same = condition_fault_once s.words s.context shaped ns (raw ∷ []) u (subst (λ zs. ConditionUnread s.words s.context ns zs f') (raws_same (ok_same e' e)) u') in
      of_fragment (start_at s p.start) f g o ∙ (ap (fragment_fault_of (start_at s p.start)) same ∙ sym (of_fragment (start_at s p.start) f' g' o'))
  fragments_fault_once (no_fragment p ps raw ns f g e u o) (later_fragment p' ps' raw' ns' m' xs' f' e' c' l') =
      absurd (condition_no_fault s.words s.context shaped ns (raw' ∷ []) c' (subst (λ zs. ConditionUnread s.words s.context ns zs f) (raws_same (ok_same e e')) u))
  fragments_fault_once (later_fragment p ps raw ns m xs f e c l) (not_cut p' ps' ns' at' e') = absurd (ok_not e e')
  fragments_fault_once (later_fragment p ps raw ns m xs f e c l) (no_fragment p' ps' raw' ns' f' g' e' u' o') =
      absurd (condition_no_fault s.words s.context shaped ns (raw ∷ []) c (subst (λ zs. ConditionUnread s.words s.context ns zs f') (raws_same (ok_same e' e)) u'))
  fragments_fault_once (later_fragment p ps raw ns m xs f e c l) (later_fragment p' ps' raw' ns' m' xs' f' e' c' l') =
      let one = condition_once s.words s.context shaped ns (raw ∷ []) (raw' ∷ []) (raws_same (ok_same e e')) c c' in
      fragments_fault_once l (subst (λ z. FragmentsFault s ps z f') (sym one.pairs) l')

  -- ---- a word by itself

  named_there : (w : List ℕ) (n : ℕ) {d : StratDecl} → declared s w n ≡ Some d → is_declared s w ≡ true
  named_there w n {d} e = found_named w n s.names d e

  -- what a name at the place i says, and what any word does: d, l: it is declared, and it is a label
  abbrev name_answer : List ℕ → ℕ → Bool → Bool → Bool → Option StratDecl → Result StrategyOf StratFault
  name_answer w i true l true o = Err (Unexpected (start_at s i))
  name_answer w i true l false (Some d) = Ok (call w [])
  name_answer w i true l false None = Err (Arity (start_at s i))
  name_answer w i false true t o = Ok (label w [])
  name_answer w i false false t o = Err (UnknownName (start_at s i))

  abbrev name_says : Bool → List ℕ → ℕ → Result StrategyOf StratFault
  name_says t w i = name_answer w i (is_declared s w) (list_any (bytes_eq w) s.labels) t (declared s w 0)

  abbrev word_says : Bool → List ℕ → ℕ → Result StrategyOf StratFault
  word_says t w i =
      if bytes_eq w (codes "idle") then Ok idle
      else (if bytes_eq w (codes "fail") then Ok fail
      else (if bytes_eq w (codes "all") then Ok every_rule else name_says t w i))

  no_form : (t : Bool) (w : List ℕ) (i : ℕ) → is_form w ≡ false → word_says t w i ≡ name_says t w i
  no_form t w i = by (bytes_eq w (codes "idle")) (bytes_eq w (codes "fail")) (bytes_eq w (codes "all"))
    where
      by : (a b c : Bool) → (a || (b || c)) ≡ false → (if a then Ok idle else (if b then Ok fail else (if c then Ok every_rule else name_says t w i))) ≡ name_says t w i
      by true b c e = absurd cc
      by false true c e = absurd cc
      by false false true e = absurd cc
      by false false false e = refl

  label_says : (w : List ℕ) (i : ℕ) (d l t : Bool) (o : Option StratDecl) → (not d && l) ≡ true → name_answer w i d l t o ≡ Ok (label w [])
  label_says w i true l t o e = absurd cc
  label_says w i false true t o e = refl
  label_says w i false false t o e = absurd cc

  unknown_says : (w : List ℕ) (i : ℕ) (d l t : Bool) (o : Option StratDecl) → (not d && not l) ≡ true → name_answer w i d l t o ≡ Err (UnknownName (start_at s i))
  unknown_says w i true l t o e = absurd cc
  unknown_says w i false true t o e = absurd cc
  unknown_says w i false false t o e = refl

  declared_says : (w : List ℕ) (i : ℕ) (d l t : Bool) (o : Option StratDecl) (x : StratDecl) → d ≡ true → t ≡ false → o ≡ Some x → name_answer w i d l t o ≡ Ok (call w [])
  declared_says w i d l t o x e f g = ap (λ a. name_answer w i a l t o) e ∙ (ap (λ b. name_answer w i true l b o) f ∙ ap (name_answer w i true l false) g)

  hidden_says : (w : List ℕ) (i : ℕ) (d l t : Bool) (o : Option StratDecl) → d ≡ true → t ≡ true → name_answer w i d l t o ≡ Err (Unexpected (start_at s i))
  hidden_says w i d l t o e f = ap (λ a. name_answer w i a l t o) e ∙ ap (λ b. name_answer w i true l b o) f

  short_says : (w : List ℕ) (i : ℕ) (d l t : Bool) (o : Option StratDecl) → d ≡ true → t ≡ false → o ≡ None → name_answer w i d l t o ≡ Err (Arity (start_at s i))
  short_says w i d l t o e f g = ap (λ a. name_answer w i a l t o) e ∙ (ap (λ b. name_answer w i true l b o) f ∙ ap (name_answer w i true l false) g)

  abbrev is_named : List ℕ → Bool
  is_named w = list_any (bytes_eq w) s.labels

  word_reads : {t : Bool} {i : ℕ} {ps : List Piece} {ns os : Pairs} {x : StrategyOf} → LeafReads s t (Plain i) ps ns os x → (ns ≡ os) × (word_says t (word_at s i) i ≡ Ok x)
  word_reads {t = t} (idle_reads i ns e) = (refl, ap (λ w. word_says t w i) e)
  word_reads {t = t} (fail_reads i ns e) = (refl, ap (λ w. word_says t w i) e)
  word_reads {t = t} (all_reads i ns e) = (refl, ap (λ w. word_says t w i) e)
  word_reads {t = t} (label_reads i ns e l) =
      let w = word_at s i in (refl, no_form t w i e ∙ label_says w i (is_declared s w) (is_named w) t (declared s w 0) l)
  word_reads {t = t} (name_reads i ns d e f g) =
      let w = word_at s i in (refl, no_form t w i e ∙ declared_says w i (is_declared s w) (is_named w) t (declared s w 0) d (named_there w 0 g) f g)

  word_fault : {t : Bool} {i : ℕ} {ps : List Piece} {ns : Pairs} {f : StratFault} → LeafFault s t (Plain i) ps ns f → word_says t (word_at s i) i ≡ Err f
  word_fault {t = t} (no_name i ps ns e u) = let w = word_at s i in no_form t w i e ∙ unknown_says w i (is_declared s w) (is_named w) t (declared s w 0) u
  word_fault {t = t} (no_label_here i ps ns e d h) = let w = word_at s i in no_form t w i e ∙ hidden_says w i (is_declared s w) (is_named w) t (declared s w 0) d h
  word_fault {t = t} (takes_arguments i ps ns e d h n) = let w = word_at s i in no_form t w i e ∙ short_says w i (is_declared s w) (is_named w) t (declared s w 0) d h n

  -- ---- all words

  pub record AreOneLeaf (os os' : Pairs) (x y : StrategyOf) : Type 0 where
    pub pairs : os ≡ os'
    pub strategy : x ≡ y

  word_once : {t : Bool} {i : ℕ} {ps : List Piece} {ns os os' : Pairs} {x y : StrategyOf} → LeafReads s t (Plain i) ps ns os x → LeafReads s t (Plain i) ps ns os' y → AreOneLeaf os os' x y
  word_once r r' = let a = word_reads r in let b = word_reads r' in record { pairs = sym a.0 ∙ b.0; strategy = ok_same a.1 b.1 }

  label_once : {t : Bool} {i : ℕ} {ps : List Piece} {ns os os' : Pairs} {x y : StrategyOf} → LeafReads s t (Label i) ps ns os x → LeafReads s t (Label i) ps ns os' y → AreOneLeaf os os' x y
  label_once (assigned_reads i us ns os xs l u) (assigned_reads i' us' ns' os' xs' l' u') =
      let one = uses_once u u' in record { pairs = one.0; strategy = ap (label (word_at s i)) one.1 }

  call_once : {t : Bool} {i : ℕ} {ps : List Piece} {ns os os' : Pairs} {x y : StrategyOf} → LeafReads s t (Call i) ps ns os x → LeafReads s t (Call i) ps ns os' y → AreOneLeaf os os' x y
  call_once (called_reads i ps ns os d bs e u) (called_reads i' ps' ns' os' d' bs' e' u') =
      let one = arguments_once u (subst (λ (z : StratDecl). ArgumentsRead s z.args ps ns os' bs') (some_once e' e) u') in
      record { pairs = one.0; strategy = ap (call (word_at s i)) one.1 }

  test_once : {t : Bool} {i : ℕ} {ps : List Piece} {ns os os' : Pairs} {x y : StrategyOf} → LeafReads s t (Test i) ps ns os x → LeafReads s t (Test i) ps ns os' y → AreOneLeaf os os' x y
  test_once (test_reads i k p ps ns m os b xs e u v) (test_reads i' k' p' ps' ns' m' os' b' xs' e' u' v') =
      let one = term_same p AnyKind ns u u' in
      let two = fragments_once v (subst (λ z. FragmentsRead s ps z os' xs') (sym one.pairs) v') in
      record { pairs = two.0; strategy = ap (λ k. test k b xs) (some_once e e') ∙ ap₂ (test k') one.term two.1 }

  pub leaf_once : (t : Bool) (p : Piece) (ps : List Piece) (ns : Pairs) {os os' : Pairs} {x y : StrategyOf} → LeafReads s t p ps ns os x → LeafReads s t p ps ns os' y → AreOneLeaf os os' x y
  leaf_once t (Plain i) ps ns r r' = word_once r r'
  leaf_once t (Label i) ps ns r r' = label_once r r'
  leaf_once t (Call i) ps ns r r' = call_once r r'
  leaf_once t (Test i) ps ns r r' = test_once r r'
  leaf_once t p ps ns r r' = let e = leaf_is s r in absurd cc

  -- ---- words and faults

  word_no_fault : {t : Bool} {i : ℕ} {ps : List Piece} {ns os : Pairs} {x : StrategyOf} {f : StratFault} → LeafReads s t (Plain i) ps ns os x → LeafFault s t (Plain i) ps ns f → ⊥
  word_no_fault r u = ok_not (word_reads r).1 (word_fault u)

  label_no_fault : {t : Bool} {i : ℕ} {ps : List Piece} {ns os : Pairs} {x : StrategyOf} {f : StratFault} → LeafReads s t (Label i) ps ns os x → LeafFault s t (Label i) ps ns f → ⊥
  label_no_fault (assigned_reads i us ns os xs l u) (no_label i' ps' ns' e) = label_unknown (is_declared s (word_at s i)) (is_named (word_at s i)) l e
  label_no_fault (assigned_reads i us ns os xs l u) (takes_no_values i' ps' ns' e) = label_declared (is_declared s (word_at s i)) (is_named (word_at s i)) l e
  label_no_fault (assigned_reads i us ns os xs l u) (in_values i' ps' ns' f l' u') = uses_no_fault u u'

  call_no_fault : {t : Bool} {i : ℕ} {ps : List Piece} {ns os : Pairs} {x : StrategyOf} {f : StratFault} → LeafReads s t (Call i) ps ns os x → LeafFault s t (Call i) ps ns f → ⊥
  call_no_fault (called_reads i ps ns os d bs e u) (no_strategy i' ps' ns' h) =
      unknown_declared (is_declared s (word_at s i)) (is_named (word_at s i)) h (named_there (word_at s i) (length ps - 1) e)
  call_no_fault (called_reads i ps ns os d bs e u) (label_called i' ps' ns' h) =
      label_declared (is_declared s (word_at s i)) (is_named (word_at s i)) h (named_there (word_at s i) (length ps - 1) e)
  call_no_fault (called_reads i ps ns os d bs e u) (other_number i' ps' ns' h c n) = some_none e n
  call_no_fault (called_reads i ps ns os d bs e u) (in_arguments i' ps' ns' d' f c e' u') =
      arguments_no_fault u (subst (λ (z : StratDecl). ArgumentsFault s z.args ps ns f) (some_once e' e) u')

  test_no_fault : {t : Bool} {i : ℕ} {ps : List Piece} {ns os : Pairs} {x : StrategyOf} {f : StratFault} → LeafReads s t (Test i) ps ns os x → LeafFault s t (Test i) ps ns f → ⊥
  test_no_fault (test_reads i k p ps ns m os b xs e u v) (no_pattern i' p' ps' ns' f n) = term_there p AnyKind ns u n
  test_no_fault (test_reads i k p ps ns m os b xs e u v) (in_condition i' p' ps' ns' m' b' f u' w) =
      fragments_no_fault v (subst (λ z. FragmentsFault s ps z f) (sym (term_same p AnyKind ns u u').pairs) w)

  pub leaf_no_fault : (t : Bool) (p : Piece) (ps : List Piece) (ns : Pairs) {os : Pairs} {x : StrategyOf} {f : StratFault} → LeafReads s t p ps ns os x → LeafFault s t p ps ns f → ⊥
  leaf_no_fault t (Plain i) ps ns r u = word_no_fault r u
  leaf_no_fault t (Label i) ps ns r u = label_no_fault r u
  leaf_no_fault t (Call i) ps ns r u = call_no_fault r u
  leaf_no_fault t (Test i) ps ns r u = test_no_fault r u
  leaf_no_fault t p ps ns r u = let e = leaf_is s r in absurd cc

  word_fault_once : {t : Bool} {i : ℕ} {ps : List Piece} {ns : Pairs} {f g : StratFault} → LeafFault s t (Plain i) ps ns f → LeafFault s t (Plain i) ps ns g → without_trees f ≡ without_trees g
  word_fault_once u u' = ap without_trees (err_same (word_fault u) (word_fault u'))

  label_fault_once : {t : Bool} {i : ℕ} {ps : List Piece} {ns : Pairs} {f g : StratFault} → LeafFault s t (Label i) ps ns f → LeafFault s t (Label i) ps ns g → without_trees f ≡ without_trees g
  label_fault_once (no_label i ps ns e) (no_label i' ps' ns' e') = refl
  label_fault_once (no_label i ps ns e) (takes_no_values i' ps' ns' e') = absurd (unknown_declared (is_declared s (word_at s i)) (is_named (word_at s i)) e e')
  label_fault_once (no_label i ps ns e) (in_values i' ps' ns' f' l' u') = absurd (label_unknown (is_declared s (word_at s i)) (is_named (word_at s i)) l' e)
  label_fault_once (takes_no_values i ps ns e) (no_label i' ps' ns' e') = absurd (unknown_declared (is_declared s (word_at s i)) (is_named (word_at s i)) e' e)
  label_fault_once (takes_no_values i ps ns e) (takes_no_values i' ps' ns' e') = refl
  label_fault_once (takes_no_values i ps ns e) (in_values i' ps' ns' f' l' u') = absurd (label_declared (is_declared s (word_at s i)) (is_named (word_at s i)) l' e)
  label_fault_once (in_values i ps ns f l u) (no_label i' ps' ns' e') = absurd (label_unknown (is_declared s (word_at s i)) (is_named (word_at s i)) l e')
  label_fault_once (in_values i ps ns f l u) (takes_no_values i' ps' ns' e') = absurd (label_declared (is_declared s (word_at s i)) (is_named (word_at s i)) l e')
  label_fault_once (in_values i ps ns f l u) (in_values i' ps' ns' f' l' u') = uses_fault_once u u'

  call_fault_once : {t : Bool} {i : ℕ} {ps : List Piece} {ns : Pairs} {f g : StratFault} → LeafFault s t (Call i) ps ns f → LeafFault s t (Call i) ps ns g → without_trees f ≡ without_trees g
  call_fault_once (no_strategy i ps ns h) (no_strategy i' ps' ns' h') = refl
  call_fault_once (no_strategy i ps ns h) (label_called i' ps' ns' h') = absurd (label_unknown (is_declared s (word_at s i)) (is_named (word_at s i)) h' h)
  call_fault_once (no_strategy i ps ns h) (other_number i' ps' ns' h' c' n') = absurd (unknown_declared (is_declared s (word_at s i)) (is_named (word_at s i)) h h')
  call_fault_once (no_strategy i ps ns h) (in_arguments i' ps' ns' d' f' c' e' u') =
      absurd (unknown_declared (is_declared s (word_at s i)) (is_named (word_at s i)) h (named_there (word_at s i) (length ps - 1) e'))
  call_fault_once (label_called i ps ns h) (no_strategy i' ps' ns' h') = absurd (label_unknown (is_declared s (word_at s i)) (is_named (word_at s i)) h h')
  call_fault_once (label_called i ps ns h) (label_called i' ps' ns' h') = refl
  call_fault_once (label_called i ps ns h) (other_number i' ps' ns' h' c' n') = absurd (label_declared (is_declared s (word_at s i)) (is_named (word_at s i)) h h')
  call_fault_once (label_called i ps ns h) (in_arguments i' ps' ns' d' f' c' e' u') =
      absurd (label_declared (is_declared s (word_at s i)) (is_named (word_at s i)) h (named_there (word_at s i) (length ps - 1) e'))
  call_fault_once (other_number i ps ns h c n) (no_strategy i' ps' ns' h') = absurd (unknown_declared (is_declared s (word_at s i)) (is_named (word_at s i)) h' h)
  call_fault_once (other_number i ps ns h c n) (label_called i' ps' ns' h') = absurd (label_declared (is_declared s (word_at s i)) (is_named (word_at s i)) h' h)
  call_fault_once (other_number i ps ns h c n) (other_number i' ps' ns' h' c' n') = refl
  call_fault_once (other_number i ps ns h c n) (in_arguments i' ps' ns' d' f' c' e' u') = absurd (some_none e' n)
  call_fault_once (in_arguments i ps ns d f c e u) (no_strategy i' ps' ns' h') =
      absurd (unknown_declared (is_declared s (word_at s i)) (is_named (word_at s i)) h' (named_there (word_at s i) (length ps - 1) e))
  call_fault_once (in_arguments i ps ns d f c e u) (label_called i' ps' ns' h') =
      absurd (label_declared (is_declared s (word_at s i)) (is_named (word_at s i)) h' (named_there (word_at s i) (length ps - 1) e))
  call_fault_once (in_arguments i ps ns d f c e u) (other_number i' ps' ns' h' c' n') = absurd (some_none e n')
  call_fault_once (in_arguments i ps ns d f c e u) (in_arguments i' ps' ns' d' f' c' e' u') =
      arguments_fault_once u (subst (λ (z : StratDecl). ArgumentsFault s z.args ps ns f') (some_once e' e) u')

  test_fault_once : {t : Bool} {i : ℕ} {ps : List Piece} {ns : Pairs} {f g : StratFault} → LeafFault s t (Test i) ps ns f → LeafFault s t (Test i) ps ns g → without_trees f ≡ without_trees g
  test_fault_once (no_pattern i p ps ns f n) (no_pattern i' p' ps' ns' f' n') = ap (Parse (start_at s p.start)) (fault_same p AnyKind ns n n')
  test_fault_once (no_pattern i p ps ns f n) (in_condition i' p' ps' ns' m' b' f' u' w') = absurd (term_there p AnyKind ns u' n)
  test_fault_once (in_condition i p ps ns m b f u w) (no_pattern i' p' ps' ns' f' n') = absurd (term_there p AnyKind ns u n')
  test_fault_once (in_condition i p ps ns m b f u w) (in_condition i' p' ps' ns' m' b' f' u' w') =
      fragments_fault_once w (subst (λ z. FragmentsFault s ps z f') (sym (term_same p AnyKind ns u u').pairs) w')

  pub fault_is : {t : Bool} {p : Piece} {ps : List Piece} {ns : Pairs} {f : StratFault} → LeafFault s t p ps ns f → is_leaf p ≡ true
  fault_is (no_name i ps ns e u) = refl
  fault_is (no_label_here i ps ns e d h) = refl
  fault_is (takes_arguments i ps ns e d h n) = refl
  fault_is (no_label i ps ns e) = refl
  fault_is (takes_no_values i ps ns e) = refl
  fault_is (in_values i ps ns f l u) = refl
  fault_is (no_strategy i ps ns h) = refl
  fault_is (label_called i ps ns h) = refl
  fault_is (other_number i ps ns h c n) = refl
  fault_is (in_arguments i ps ns d f c e u) = refl
  fault_is (no_pattern i p ps ns f n) = refl
  fault_is (in_condition i p ps ns m b f u w) = refl

  pub leaf_fault_once : (t : Bool) (p : Piece) (ps : List Piece) (ns : Pairs) {f g : StratFault} → LeafFault s t p ps ns f → LeafFault s t p ps ns g → without_trees f ≡ without_trees g
  leaf_fault_once t (Plain i) ps ns u v = word_fault_once u v
  leaf_fault_once t (Label i) ps ns u v = label_fault_once u v
  leaf_fault_once t (Call i) ps ns u v = call_fault_once u v
  leaf_fault_once t (Test i) ps ns u v = test_fault_once u v
  leaf_fault_once t p ps ns u v = let e = fault_is u in absurd cc

  -- ---- what has no fault, though something is missing

  uses_open_none : {ps : List Piece} {ns : Pairs} {f : StratFault} → UsesOpen s ps ns → UsesFault s ps ns f → ⊥
  uses_open_none (no_value_yet p ns os v x) (no_variable p' us' ns' n) = no_variable_none p ns os v x n
  uses_open_none (later_open p q us ns m a u o) (no_variable p' us' ns' n) = no_variable_none p ns u.middle u.variable u.is_variable n
  uses_open_none (later_open p q us ns m a u o) (no_value p' q' us' ns' m' v x f t e n) = value_there p q ns m m' a v x f u t e n
  uses_open_none (later_open p q us ns m a u o) (later_use p' q' us' ns' m' a' g u' l) =
      uses_open_none o (subst (λ z. UsesFault s us z g) (sym (use_once p q ns m m' a a' u u').0) l)

  label_open_none : {t : Bool} {i : ℕ} {ps : List Piece} {ns : Pairs} {f : StratFault} → LeafOpen s (Label i) ps ns → LeafFault s t (Label i) ps ns f → ⊥
  label_open_none (values_open i ps ns l o) (no_label i' ps' ns' e) = label_unknown (is_declared s (word_at s i)) (is_named (word_at s i)) l e
  label_open_none (values_open i ps ns l o) (takes_no_values i' ps' ns' e) = label_declared (is_declared s (word_at s i)) (is_named (word_at s i)) l e
  label_open_none (values_open i ps ns l o) (in_values i' ps' ns' f l' u) = uses_open_none o u

  yes_not : {b : Bool} → b ≡ true → b ≡ false → ⊥
  yes_not e f = let h = sym e ∙ f in absurd cc

  call_open_none : {t : Bool} {i : ℕ} {ps : List Piece} {ns : Pairs} {f : StratFault} → LeafOpen s (Call i) ps ns → LeafFault s t (Call i) ps ns f → ⊥
  call_open_none (call_open i ps ns d c) (no_strategy i' ps' ns' h) = unknown_declared (is_declared s (word_at s i)) (is_named (word_at s i)) h d
  call_open_none (call_open i ps ns d c) (label_called i' ps' ns' h) = label_declared (is_declared s (word_at s i)) (is_named (word_at s i)) h d
  call_open_none (call_open i ps ns d c) (other_number i' ps' ns' h c' n) = yes_not c' c
  call_open_none (call_open i ps ns d c) (in_arguments i' ps' ns' d' f c' e u) = yes_not c' c

  test_open_none : {t : Bool} {i : ℕ} {ps : List Piece} {ns : Pairs} {f : StratFault} → ps ≡ [] → LeafFault s t (Test i) ps ns f → ⊥
  test_open_none e (no_pattern i p ps ns f n) = absurd cc
  test_open_none e (in_condition i p ps ns m b f u w) = absurd cc

  test_open_empty : {i : ℕ} {ps : List Piece} {ns : Pairs} → LeafOpen s (Test i) ps ns → ps ≡ []
  test_open_empty (test_open i ns) = refl

  pub open_is : {p : Piece} {ps : List Piece} {ns : Pairs} → LeafOpen s p ps ns → is_leaf p ≡ true
  open_is (values_open i ps ns l o) = refl
  open_is (call_open i ps ns d c) = refl
  open_is (test_open i ns) = refl

  no_plain_open : {i : ℕ} {ps : List Piece} {ns : Pairs} → LeafOpen s (Plain i) ps ns → ⊥
  no_plain_open o = elim o [ ]

  pub open_no_fault : (t : Bool) (p : Piece) (ps : List Piece) (ns : Pairs) {f : StratFault} → LeafOpen s p ps ns → LeafFault s t p ps ns f → ⊥
  open_no_fault t (Plain i) ps ns o u = no_plain_open o
  open_no_fault t (Label i) ps ns o u = label_open_none o u
  open_no_fault t (Call i) ps ns o u = call_open_none o u
  open_no_fault t (Test i) ps ns o u = test_open_none (test_open_empty o) u
  open_no_fault t p ps ns o u = let e = open_is o in absurd cc
