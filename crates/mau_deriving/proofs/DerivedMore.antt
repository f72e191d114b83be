-- A term whose arguments are settled gets an entry, with what the memberships give: the table is still an evaluator's.
use Rattle.std.proofs.Common.{◌≡◌, ◌≢◌, ◌⊎◌, inl, inr, ℕ, suc, ◌≤◌, List, [], ◌∷◌, ◌++◌, map, Bool, true, false, ⊎_elim, Some, refl, sym, ap, ◌∙◌, subst, arith}
use Rattle.std.specs.Prelude.{◌↔◌, All, slice_get}
use Rattle.std.proofs.lemmas.Bool.{cases_eq}
use Rattle.std.proofs.lemmas.List.Elements.{All-head, All-tail}
use Rattle.mau_terms.specs.Tree.{Tree, apply, Trees, no_trees, tree, list_of, trees_of}
use Rattle.mau_terms.specs.Norm.{norm}
use Rattle.mau_terms.specs.Bare.{AreBareIn, IsBare, IsLawful}
use Rattle.mau_terms.specs.Reading.{nest, reading, readings}
use Rattle.mau_terms.specs.Finite.{IsIn}
use Rattle.mau_terms.proofs.Normal.{IsNormal, AreNormal, normal_fixed}
use Rattle.mau_signature.specs.Signature.{SignatureOf, theory_at, terms_over}
use Rattle.mau_signature.specs.OverSignature.{IsTreeOver}
use Rattle.mau_signature.proofs.OverSignature.{norm_over}
use Rattle.mau_formula.specs.Operator.{Operator}
use Rattle.mau_store.specs.Node.{Node, numeral_node, variable_node, operator_node, arguments, AreNodes, IsOf}
use Rattle.mau_store.specs.Trees.{tree_at, tree_over}
use Rattle.mau_store.proofs.Standing.{tree_of_node}
use Rattle.mau_sorts.specs.SortSets.{SortsOf, IsAbove, IsKeptOf}
use Rattle.mau_sorts.specs.HasSort.{Known, HasSort, IsKnown}
use Rattle.mau_sorts.specs.Table.{Table, entry_at, IsSettled, IsReady, IsKnownOf, AreEntries, AreOver, KeepsEntries, Settles}
use Rattle.mau_sorts.proofs.MinimalSorts.{IsAbove-nil}
use Rattle.mau_sigcheck.specs.Built.{IsBuiltAndAccepted}
use Rattle.mau_listing.specs.Asked.{IsTreeSettled}
use Rattle.mau_listing.proofs.Answered.{normal_is}
use Rattle.mau_listing.proofs.Closed.{closed_more}
use Rattle.mau_listing.proofs.Readied.{AreSettled as EachSettled}
use Rattle.mau_program.specs.declared.program.Program as Typed
use Rattle.mau_evaluation.specs.Run.{done}
use Rattle.mau_evaluation.specs.Program.{Program}
use Rattle.mau_evaluation.specs.Evaluation.{joined, sizes, sorts_in, levels}
use Rattle.mau_evaluation.specs.HasSort.{HasHeads}
use Rattle.mau_evaluation.proofs.SortsGiven.{number_in, in_number}
use Rattle.mau_evaluation.proofs.Listed.{split_append}
use Rattle.mau_api.specs.SortLists.{sorts_over}
use Rattle.mau_api.specs.Programs.{program_over}
use Rattle.mau_api.specs.Meanings.{meanings_by}
use Rattle.mau_api.specs.Answers.{IsEntryOf, IsDerivedTable}
use Rattle.mau_api.specs.Exact.{AreSortsOf}
use Rattle.mau_api.specs.Terms.{IsNormalBare}
use Rattle.mau_api.proofs.DeclaredSorts.{sorts_above_are_all, numeral_sorts_are_all, declared_sorts_are_all}
use Rattle.mau_api.proofs.KnownSorts.{EachNormalBare, elements_bare, of_settled}
use Rattle.mau_deriving.specs.Known.{IsKnownFrom, AreKnownFrom}
use Rattle.mau_deriving.specs.Given.{asks_by, sorts_on, GiveJust}
use Rattle.mau_deriving.proofs.Known.{IsSoFrom, gives_known}
use Rattle.mau_deriving.proofs.Members.{sorts_known, fuelled, term_known}
use Rattle.mau_deriving.proofs.Entering.{known_more, settled_same, known_of, is_known, entries_more, table_after}

-- ---- arguments

module _ (s : SignatureOf) where
  each_bare : (ts : Trees) (ks : List ℕ) → AreNormal (theory_at s) ts → AreBareIn (terms_over s) (trees_of (readings (theory_at s) ts)) ks → EachNormalBare s ts
  each_bare no_trees ks n b = tt
  each_bare (tree t ts) [] n b = absurd b
  each_bare (tree t ts) (k ∷ ks) n b = ((normal_fixed (theory_at s) t n.0, (k, b.0)), each_bare ts ks n.1 b.1)

  pub arguments_bare : IsLawful (terms_over s) → (f : ℕ) (ts : Trees) → IsNormalBare s (apply f ts) → EachNormalBare s ts
  arguments_bare lawful f ts normal = by (theory_at s f).assoc refl normal.1
    where
      m : IsNormal (theory_at s) (apply f ts)
      m = normal_is (theory_at s) lawful.theories (apply f ts) normal.0

      by : (a : Bool) → (theory_at s f).assoc ≡ a → IsBare (terms_over s) (nest a f (readings (theory_at s) ts)) → EachNormalBare s ts
      by true e b = elements_bare s lawful f e ts m.0 b
      by false e b = each_bare ts ((terms_over s).arguments f) m.0 b.1.2

module _ (nodes : List Node) (table : Table) where
  pub each_settled : (ids : List ℕ) → All (IsOf nodes) ids → All (IsSettled table) ids → EachSettled nodes table (trees_of (map (tree_at nodes) ids))
  each_settled [] there settled = tt
  each_settled (j ∷ ids) there settled = (
    record { number = j; there = All-head (IsOf nodes) j ids there; tree = refl; settled = All-head (IsSettled table) j ids settled },
    each_settled ids (All-tail (IsOf nodes) j ids there) (All-tail (IsSettled table) j ids settled),
  )

-- ---- lists of sorts

in_first : {A : Type 0} (x : A) (xs ys : List A) → IsIn x xs → IsIn x (xs ++ ys)
in_first x [] ys i = absurd i
in_first x (z ∷ xs) ys (inl e) = inl e
in_first x (z ∷ xs) ys (inr i) = inr (in_first x xs ys i)

in_second : {A : Type 0} (x : A) (xs ys : List A) → IsIn x ys → IsIn x (xs ++ ys)
in_second x [] ys i = i
in_second x (z ∷ xs) ys i = inr (in_second x xs ys i)

in_both : (r : ℕ) (ss ms : List ℕ) (D E : Type 0) → IsIn r ss ↔ D → IsIn r ms ↔ E → IsIn r (ss ++ ms) ↔ (D ⊎ E)
in_both r ss ms D E h k = (
  (λ i. ⊎_elim (λ (a : IsIn r ss). let z : D ⊎ E = inl (h.0 a) in z) (λ (a : IsIn r ms). let z : D ⊎ E = inr (k.0 a) in z) (split_append r ss ms i)),
  ⊎_elim (λ (d : D). in_first r ss ms (h.1 d)) (λ (e : E). in_second r ss ms (k.1 e)),
)

in_one : (r : ℕ) (ss : List ℕ) (D E : Type 0) → IsIn r ss ↔ D → (E → ⊥) → IsIn r ss ↔ (D ⊎ E)
in_one r ss D E h never = ((λ i. inl (h.0 i)), ⊎_elim (λ (d : D). h.1 d) (λ (e : E). absurd (never e)))

-- ---- an entry

module _ (p : Typed.Program) (hooks : List Operator) (limit : ℕ) (remembers : Bool) where
  -- with the sorts that are known from some number of levels on
  pub entry_is : (t : Tree) → norm (theory_at p.sig) t ≡ t → (ss : List ℕ) → IsKnownFrom (λ j. sorts_on (program_over p hooks) limit j t) ss → (D : ℕ → Type 0) → ((r : ℕ) → IsIn r ss ↔ D r) →
      (e : SortsOf) → IsKeptOf p.sig.hierarchy D e → IsEntryOf (meanings_by p hooks limit remembers) t e
  entry_is t normal ss k D exact e kept = record {
    levels = suc k.enough;
    sorts = ss;
    known = λ b. ap (λ u. (levels (program_over p hooks) limit (suc k.enough)).sorts u b) normal ∙ by b (k.known k.enough b);
    exact = λ r. ((λ h. in_number ss r ((exact r).1 ((kept.exact r).0 h))), (λ h. (kept.exact r).1 ((exact r).0 (number_in ss r h))));
  }
    where
      by : (b : ℕ) → IsSoFrom k.enough k.enough (sorts_on (program_over p hooks) limit k.enough t b) (done ss 0 b) → sorts_on (program_over p hooks) limit k.enough t b ≡ done ss 0 b
      by b (inl h) = h
      by b (inr h) = absurd (omega (arith, h.0))

-- ---- a term that gets an entry

module _ (p : Typed.Program) (hooks : List Operator) (limit : ℕ) (remembers : Bool) (heads : HasHeads (program_over p hooks)) (accepted : IsBuiltAndAccepted p.sig)
    (nodes : List Node) (are : AreNodes nodes) (old : Table) (derived : IsDerivedTable (meanings_by p hooks limit remembers) nodes old)
    (i : ℕ) (ready : IsReady p.sig nodes old i) (unsettled : ¬ IsSettled old i) (normal : IsNormalBare p.sig (tree_at nodes i)) (more : List ℕ) where
  abbrev P : Program
  P = program_over p hooks

  abbrev s : SignatureOf
  s = p.sig

  abbrev known : Known
  known = known_more p.sig nodes are derived.known old derived.declared derived.closed i ready.there unsettled more

  same : (u : Tree) → IsTreeSettled nodes old u → (r : ℕ) → HasSort s derived.known u r ↔ HasSort s known u r
  same = settled_same p.sig nodes are derived.known old derived.declared derived.closed i ready.there unsettled more

  known_is : (r : ℕ) → IsKnown s.hierarchy known (tree_at nodes i) r ↔ IsAbove s.hierarchy more r
  known_is = is_known p.sig nodes are derived.known old derived.declared derived.closed i ready.there unsettled more

  over : IsTreeOver s (tree_at nodes i)
  over = subst (IsTreeOver s) normal.0 (norm_over s heads.signature (tree_at nodes i) (subst (λ u. IsBare (terms_over s) (reading (theory_at s) u)) (sym normal.0) normal.1))

  -- what is known of the arguments
  record ArgumentsAre (n : ℕ) (ts : Trees) : Type 0 where
    args : List (List ℕ)
    exact : AreSortsOf p.sig known ts args
    computed : AreKnownFrom (λ j. sorts_in (program_over p hooks) limit (asks_by (program_over p hooks) limit j) n) (list_of ts) args

  arguments_are : (n : ℕ) (ts : Trees) → sizes ts ≤ n → EachNormalBare p.sig ts → EachSettled nodes old ts → ArgumentsAre n ts
  arguments_are n no_trees l bare settled = record { args = []; exact = tt; computed = tt }
  arguments_are n (tree t ts) l bare settled =
      let own = of_settled p hooks limit remembers heads accepted nodes old derived t bare.0 settled.0 in
      let rest = arguments_are n ts (omega (arith, l)) bare.1 settled.1 in
      record {
        args = own.sorts ∷ rest.args;
        exact = ((λ r. ((λ h. (same t settled.0 r).0 ((own.exact r).0 (in_number own.sorts r h))), (λ h. number_in own.sorts r ((own.exact r).1 ((same t settled.0 r).1 h))))), rest.exact);
        computed = (fuelled P limit heads t own.sorts n (omega (arith, l)) (sorts_known P limit t own.sorts own.levels bare.0.0 own.known_at), rest.computed);
      }

  -- the sorts of the term
  record SortsAre (t : Tree) : Type 0 where
    sorts : List ℕ
    computed : IsKnownFrom (λ j. sorts_on (program_over p hooks) limit j t) sorts
    exact : (r : ℕ) → IsIn r sorts ↔ HasSort p.sig known t r

  sorts_are : (n : Node) → slice_get nodes i ≡ Some n → tree_at nodes i ≡ tree_over (tree_at nodes) n → GiveJust (program_over p hooks) limit p.sig.hierarchy (tree_over (tree_at nodes) n) more → SortsAre (tree_over (tree_at nodes) n)
  sorts_are (variable_node v q) at e given = record {
    sorts = P.above q;
    computed = gives_known (P.above q);
    exact = λ r. in_one r (P.above q) _ _ (sorts_above_are_all s.hierarchy accepted.poset q (subst (IsTreeOver s) e over) r)
        (λ h. IsAbove-nil s.hierarchy r (subst (λ ms. IsAbove s.hierarchy ms r) given ((known_is r).0 (subst (λ u. IsKnown s.hierarchy known u r) (sym e) h))));
  }
  sorts_are (numeral_node n) at e given = record {
    sorts = P.numeral_sorts n;
    computed = gives_known (P.numeral_sorts n);
    exact = λ r. in_one r (P.numeral_sorts n) _ _ (numeral_sorts_are_all s accepted n r)
        (λ h. IsAbove-nil s.hierarchy r (subst (λ ms. IsAbove s.hierarchy ms r) given ((known_is r).0 (subst (λ u. IsKnown s.hierarchy known u r) (sym e) h))));
  }
  sorts_are (operator_node f ids) at e given =
      let ts = trees_of (map (tree_at nodes) ids) in
      let there : All (IsOf nodes) ids = (λ k d l. omega (arith, are.closed i (operator_node f ids) at k d l, ready.there)) in
      let args = arguments_are (sizes ts) ts (omega arith) (arguments_bare s heads.signature f ts (subst (IsNormalBare s) e normal)) (each_settled nodes old ids there (ready.arguments (operator_node f ids) at)) in
      record {
        sorts = sorts_over s f args.args ++ joined given.given;
        computed = term_known P limit (sizes ts) f ts args.args given.given args.computed given.known;
        exact = λ r. in_both r (sorts_over s f args.args) (joined given.given) _ _ (declared_sorts_are_all s accepted known f (subst (IsTreeOver s) e over).0 ts args.args args.exact r)
            (let k = given.exact r in let z = known_is r in
            ((λ h. subst (λ u. IsKnown s.hierarchy known u r) e (z.1 (k.0 h))), (λ h. k.1 (z.0 (subst (λ u. IsKnown s.hierarchy known u r) (sym e) h)))));
      }

  module _ (new : Table) (kept : KeepsEntries old new) (settles : Settles old new i more) (are_over : AreOver p.sig.hierarchy new)
      (value : (k : Known) → AreEntries p.sig k nodes old → IsKnownOf k (tree_at nodes i) more → AreEntries p.sig k nodes new)
      (given : GiveJust (program_over p hooks) limit p.sig.hierarchy (tree_at nodes i) more) where
    entries : AreEntries s known nodes new
    entries = value known (entries_more p.sig nodes are derived.known old derived.declared derived.closed i ready.there unsettled more)
        (known_of p.sig nodes are derived.known old derived.declared derived.closed i ready.there unsettled more)

    own_sorts : SortsAre (tree_at nodes i)
    own_sorts = by (closed_more s nodes old new i ready kept settles.others derived.closed i settles.settled)
      where
        by : (n : Node) × (slice_get nodes i ≡ Some n) × All (IsSettled new) (arguments n) → SortsAre (tree_at nodes i)
        by (n, at, all) =
            let e = tree_of_node nodes are i n at in
            subst SortsAre (sym e) (sorts_are n at e (subst (λ u. GiveJust P limit s.hierarchy u more) e given))

    new_entry : (e : SortsOf) → entry_at new i ≡ Some e → IsEntryOf (meanings_by p hooks limit remembers) (tree_at nodes i) e
    new_entry e at =
        entry_is p hooks limit remembers (tree_at nodes i) normal.0 own_sorts.sorts own_sorts.computed (HasSort s known (tree_at nodes i)) own_sorts.exact e (entries i e at).1

    pub derived_more : IsDerivedTable (meanings_by p hooks limit remembers) nodes new
    derived_more = record {
      entries = λ j e at bare. by j e at bare (cases_eq j i);
      known = known;
      declared = table_after p.sig nodes are derived.known old derived.declared derived.closed i ready.there unsettled more new kept settles entries;
      over = are_over;
      closed = closed_more s nodes old new i ready kept settles.others derived.closed;
    }
      where
        by : (j : ℕ) (e : SortsOf) → entry_at new j ≡ Some e → IsNormalBare s (tree_at nodes j) → (j ≡ i) ⊎ (j ≢ i) → IsEntryOf (meanings_by p hooks limit remembers) (tree_at nodes j) e
        by j e at bare (inl same) = subst (λ k. entry_at new k ≡ Some e → IsEntryOf (meanings_by p hooks limit remembers) (tree_at nodes k) e) (sym same) (new_entry e) at
        by j e at bare (inr other) = derived.entries j e (sym (settles.others j other) ∙ at) bare
