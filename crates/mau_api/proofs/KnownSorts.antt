-- The sorts of values of listed solutions are known, where the sorts of the subject are settled.
use Rattle.std.proofs.Common.{◌≡◌, inl, inr, ℕ, zero, suc, ◌+◌, ◌≤◌, List, [], ◌∷◌, ◌++◌, Bool, true, false, Contains, Option, Some, None, is_some, if◌then◌else◌, refl, sym, ap, ◌∙◌, subst, arith, append-nil}
use Rattle.mau_terms.specs.Tree.{Tree, variable, numeral, apply, Trees, no_trees, tree, list_of}
use Rattle.mau_terms.specs.Norm.{norm}
use Rattle.mau_terms.specs.Bare.{IsBareIn, AreBareIn, IsBare, IsLawful}
use Rattle.mau_terms.specs.Reading.{nest, nest_from, reading, readings}
use Rattle.mau_terms.specs.Finite.{IsIn}
use Rattle.mau_terms.proofs.Normal.{IsNormal, AreNormal, normal_fixed}
use Rattle.mau_signature.specs.Signature.{SignatureOf, theory_at, terms_over}
use Rattle.mau_signature.specs.OverSignature.{IsTreeOver}
use Rattle.mau_signature.proofs.OverSignature.{norm_over}
use Rattle.mau_formula.specs.Operator.{Operator}
use Rattle.mau_store.specs.Node.{Node}
use Rattle.mau_sorts.specs.SortSets.{SortsOf}
use Rattle.mau_sorts.specs.HasSort.{Known, HasSort, IsKnown}
use Rattle.mau_sorts.specs.Table.{Table, entry_at}
use Rattle.mau_sigcheck.specs.Built.{IsBuiltAndAccepted}
use Rattle.mau_listing.specs.Asked.{IsTreeSettled}
use Rattle.mau_listing.proofs.Answered.{normal_is}
use Rattle.mau_listing.proofs.Readied.{CanBeSettled, AreSettled as EachSettled}
use Rattle.mau_program.specs.declared.program.Program as Typed
use Rattle.mau_evaluation.specs.Run.{done, Run, gives, and_then, each_in_turn, choose, counted, go_on}
use Rattle.mau_evaluation.specs.Program.{Fragment, Membership, Program}
use Rattle.mau_evaluation.specs.Listing.{solutions}
use Rattle.mau_evaluation.specs.Evaluation.{Binding, has_number, any, joined, holds_for, by_membership, size, sizes, sorts_in, sorts_of, sorts_at, levels, no_level, solve}
use Rattle.mau_evaluation.specs.HasSort.{HasHeads}
use Rattle.mau_evaluation.proofs.Fuel.{fuel_is_enough}
use Rattle.mau_evaluation.proofs.Heads.{HasPlainTop, heads_plain}
use Rattle.mau_evaluation.proofs.SortsGiven.{number_in, in_number}
use Rattle.mau_evaluation.proofs.Stay.{sorts_stay}
use Rattle.mau_evaluation.proofs.Invert.{same_value}
use Rattle.mau_api.specs.SortLists.{sorts_of_numeral, sorts_over}
use Rattle.mau_api.specs.Programs.{program_over}
use Rattle.mau_api.specs.Meanings.{meanings_by}
use Rattle.mau_api.specs.Answers.{IsDerivedTable}
use Rattle.mau_api.specs.Exact.{AreSortsOf, HasByDeclarations}
use Rattle.mau_api.specs.Terms.{IsNormalBare}
use Rattle.mau_api.specs.KnownSorts.{HasKnownSorts, ValuesAreKnown}
use Rattle.mau_api.proofs.DeclaredSorts.{numeral_sorts_are_all, declared_sorts_are_all}
use Rattle.mau_api.proofs.ValuesFit.{IsSettledValue, values_settled}

-- ---- what asks on a level

abbrev asks : Program → ℕ → ℕ → List Fragment → Binding → Run (Option Binding)
asks P B zero = solve P no_level
asks P B (suc k) = solve P (levels P B k)

sorts_on : (P : Program) (B k : ℕ) (t : Tree) → (levels P B k).sorts t ≡ sorts_of P B (asks P B k) t
sorts_on P B zero t = refl
sorts_on P B (suc k) t = refl

-- ---- under more levels

module _ (P : Program) (B : ℕ) (t : Tree) where
  -- known sorts are known under more levels
  on_more : (k j : ℕ) (ss : List ℕ) → k ≤ j → ((b : ℕ) → sorts_at P k B t b ≡ done ss 0 b) → (b : ℕ) → sorts_at P j B t b ≡ done ss 0 b
  on_more k j ss l h b =
      let more = (sorts_stay P t k j B B b 0 l (omega arith)).0 ss 0 b (h b) in
      subst (λ c. sorts_at P j B t c ≡ done ss 0 c) (omega arith) more

  -- and they are one
  one_sorts : (k j : ℕ) (ss rs : List ℕ) → ((b : ℕ) → sorts_at P k B t b ≡ done ss 0 b) → ((b : ℕ) → sorts_at P j B t b ≡ done rs 0 b) → ss ≡ rs
  one_sorts k j ss rs h g = same_value (sym (on_more k (k + j) ss (omega arith) h 0) ∙ on_more j (k + j) rs (omega arith) g 0)

-- ---- memberships give nothing to a list

-- a list that has no element
none_in : {A : Type 0} (xs : List A) → ((x : A) → IsIn x xs → ⊥) → xs ≡ []
none_in [] h = refl
none_in (x ∷ xs) h = absurd (h x (inl refl))

no_lists : {A : Type 0} → List A → List (List ℕ)
no_lists [] = []
no_lists (x ∷ xs) = [] ∷ no_lists xs

none_joined : {A : Type 0} (xs : List A) → joined (no_lists xs) ≡ []
unfolding no_lists
none_joined [] = refl
none_joined (x ∷ xs) = none_joined xs

module _ (P : Program) (heads : HasHeads P) (B : ℕ) (ask : List Fragment → Binding → Run (Option Binding)) (f : Tree → Run (List ℕ)) (t : Tree) (list : HasPlainTop P.sign.theory t → ⊥) where
  no_solutions : (m : Membership) → IsIn m P.memberships → solutions P.sign m.left t ≡ []
  no_solutions m i = none_in (solutions P.sign m.left t) (λ x j. list (heads_plain P heads m i t x j))

  member_gives : (m : Membership) → IsIn m P.memberships → (b : ℕ) → by_membership P B ask f t m b ≡ done [] 0 b
  member_gives m i b = by m.exec (no_solutions m i)
    where
      by : (e : Bool) → solutions P.sign m.left t ≡ [] →
          choose e (and_then (each_in_turn (holds_for P B ask f m) (solutions P.sign m.left t)) (λ bs. gives (if any bs then P.above m.sort else []))) (gives []) b ≡ done [] 0 b
      by true none = ap (λ xs. and_then (each_in_turn (holds_for P B ask f m) xs) (λ bs. gives (if any bs then P.above m.sort else [])) b) none
      by false none = refl

  members_give : (ms : List Membership) → ((m : Membership) → IsIn m ms → IsIn m P.memberships) → (b : ℕ) → each_in_turn (by_membership P B ask f t) ms b ≡ done (no_lists ms) 0 b
  unfolding no_lists
  members_give [] h b = refl
  members_give (m ∷ ms) h b =
      ap (go_on (λ y. and_then (each_in_turn (by_membership P B ask f t) ms) (λ ys. gives (y ∷ ys)))) (member_gives m (h m (inl refl)) b)
      ∙ ap (λ o. counted 0 (go_on (λ ys. gives ([] ∷ ys)) o)) (members_give ms (λ x i. h x (inr i)) b)

-- ---- the elements of a list

module _ (s : SignatureOf) where
  -- each is the normal form of a bare term
  abbrev pub EachNormalBare : Trees → Type 0
  EachNormalBare no_trees = Unit {0}
  EachNormalBare (tree t ts) = IsNormalBare s t × EachNormalBare ts

  list_bare : IsLawful (terms_over s) → (f : ℕ) → (theory_at s f).assoc ≡ true → (t : Tree) (ts : Trees) → norm (theory_at s) t ≡ t → AreNormal (theory_at s) ts → (k : ℕ) →
      IsBareIn (terms_over s) (nest_from f (reading (theory_at s) t) (readings (theory_at s) ts)) k → EachNormalBare (tree t ts)
  list_bare lawful f a t no_trees n m k b = ((n, (k, b)), tt)
  list_bare lawful f a t (tree u us) n m k b =
      let r = (terms_over s).result f in
      let both = subst (AreBareIn (terms_over s) (tree (reading (theory_at s) t) (tree (nest_from f (reading (theory_at s) u) (readings (theory_at s) us)) no_trees))) (lawful.assoc_kinds f a) b.2 in
      ((n, (r, both.0)), list_bare lawful f a u us (normal_fixed (theory_at s) u m.0) m.1 r both.1.0)

  pub elements_bare : IsLawful (terms_over s) → (f : ℕ) → (theory_at s f).assoc ≡ true → (ts : Trees) → AreNormal (theory_at s) ts → IsBare (terms_over s) (nest true f (readings (theory_at s) ts)) → EachNormalBare ts
  elements_bare lawful f a no_trees n b = tt
  elements_bare lawful f a (tree t ts) n b = list_bare lawful f a t ts (normal_fixed (theory_at s) t n.0) n.1 b.0 b.1

-- ---- lists and numerals

module _ (p : Typed.Program) (hooks : List Operator) (limit : ℕ) (heads : HasHeads (program_over p hooks)) (accepted : IsBuiltAndAccepted p.sig) (known : Known)
    (besides : (t : Tree) (q : ℕ) → IsNormalBare p.sig t → Contains known (t, q) → HasKnownSorts (program_over p hooks) p.sig known limit t) where
  abbrev P : Program
  P = program_over p hooks

  abbrev s : SignatureOf
  s = p.sig

  abbrev Sorts : Tree → Type 0
  Sorts t = HasKnownSorts (program_over p hooks) p.sig known limit t

  -- what is known besides of a term, where its sorts are computed, is computed too
  known_computed : (t : Tree) → IsNormalBare p.sig t → (k : ℕ) (ss : List ℕ) → ((b : ℕ) → sorts_at P k limit t b ≡ done ss 0 b) → (r : ℕ) → IsKnown s.hierarchy known t r → HasSort s known t r → has_number ss r ≡ true
  known_computed t is k ss computed r h has =
      let own = besides t h.0 is h.1 in
      let e = one_sorts P limit t own.levels k own.sorts ss own.known_at computed in
      subst (λ rs. has_number rs r ≡ true) e ((own.exact r).1 has)

  pub numeral_known : (n : ℕ) → IsNormalBare p.sig (numeral n) → Sorts (numeral n)
  numeral_known n is = record {
    levels = 0;
    sorts = sorts_of_numeral s n;
    known_at = λ b. refl;
    exact = λ r. (
      λ h. inl ((numeral_sorts_are_all s accepted n r).0 (number_in (sorts_of_numeral s n) r h)),
      λ h. by r h h,
    );
  }
    where
      by : (r : ℕ) → HasSort s known (numeral n) r → HasSort s known (numeral n) r → has_number (sorts_of_numeral s n) r ≡ true
      by r has (inl h) = in_number (sorts_of_numeral s n) r ((numeral_sorts_are_all s accepted n r).1 h)
      by r has (inr h) = known_computed (numeral n) is 0 (sorts_of_numeral s n) (λ b. refl) r h has

  abbrev pub EachKnown : Trees → Type 0
  EachKnown no_trees = Unit {0}
  EachKnown (tree t ts) = HasKnownSorts (program_over p hooks) p.sig known limit t × EachKnown ts

  -- the sorts of all elements on common levels
  record AreKnown (ts : Trees) : Type 0 where
    levels : ℕ
    sorts : List (List ℕ)
    exact : AreSortsOf s known ts sorts
    known_at : (k : ℕ) → levels ≤ k → (n : ℕ) → sizes ts ≤ n → (b : ℕ) → each_in_turn (sorts_in P limit (asks P limit k) n) (list_of ts) b ≡ done sorts 0 b

  one_known : (t : Tree) → norm (theory_at s) t ≡ t → (own : Sorts t) → (k : ℕ) → own.levels ≤ k → (n : ℕ) → size t ≤ n → (b : ℕ) → sorts_in P limit (asks P limit k) n t b ≡ done own.sorts 0 b
  one_known t normal own k l n m b =
      fuel_is_enough P heads limit (asks P limit k) n t b m
      ∙ (ap (λ g. g b) (sym (sorts_on P limit k t)) ∙ (ap (λ u. (levels P limit k).sorts u b) (sym normal) ∙ on_more P limit t own.levels k own.sorts l own.known_at b))

  elements_known : (ts : Trees) → AreNormal (theory_at s) ts → EachKnown ts → AreKnown ts
  elements_known no_trees n h = record { levels = 0; sorts = []; exact = tt; known_at = λ k l m z b. refl }
  elements_known (tree t ts) n h =
      let own = h.0 in
      let rest = elements_known ts n.1 h.1 in
      record {
        levels = own.levels + rest.levels;
        sorts = own.sorts ∷ rest.sorts;
        exact = (λ r. ((λ i. (own.exact r).0 (in_number own.sorts r i)), (λ h. number_in own.sorts r ((own.exact r).1 h))), rest.exact);
        known_at = λ k l m z b.
            let first : sorts_in P limit (asks P limit k) m t b ≡ done own.sorts 0 b = one_known t (normal_fixed (theory_at s) t n.0) own k (omega arith) m (omega (arith, z)) b in
            let more : each_in_turn (sorts_in P limit (asks P limit k) m) (list_of ts) b ≡ done rest.sorts 0 b = rest.known_at k (omega arith) m (omega (arith, z)) b in
            ap (go_on (λ y. and_then (each_in_turn (sorts_in P limit (asks P limit k) m) (list_of ts)) (λ ys. gives (y ∷ ys)))) first
            ∙ ap (λ o. counted 0 (go_on (λ ys. gives (own.sorts ∷ ys)) o)) more;
      }

  pub list_known : (f : ℕ) (ts : Trees) → (theory_at s f).assoc ≡ true → IsNormalBare p.sig (apply f ts) → EachKnown ts → Sorts (apply f ts)
  list_known f ts assoc normal each =
      let over : IsTreeOver s (apply f ts) = subst (IsTreeOver s) normal.0 (norm_over s heads.signature (apply f ts) (subst (λ u. IsBare (terms_over s) (reading (theory_at s) u)) (sym normal.0) normal.1)) in
      let m : IsNormal (theory_at s) (apply f ts) = normal_is (theory_at s) heads.signature.theories (apply f ts) normal.0 in
      let known_ones = elements_known ts m.0 each in
      let ss = sorts_over s f known_ones.sorts in
      let ask = asks P limit known_ones.levels in
      let n = sizes ts in
      let not_plain : HasPlainTop P.sign.theory (apply f ts) → ⊥ = (λ h. let e : true ≡ false = sym assoc ∙ h in cc) in
      let members : (b : ℕ) → each_in_turn (by_membership P limit ask (sorts_in P limit ask n) (apply f ts)) P.memberships b ≡ done (no_lists P.memberships) 0 b =
      members_give P heads limit ask (sorts_in P limit ask n) (apply f ts) not_plain P.memberships (λ m i. i) in
      let inner : (b : ℕ) → sorts_in P limit ask (suc n) (apply f ts) b ≡ done ss 0 b = (λ b.
      ap (go_on (λ args. and_then (each_in_turn (by_membership P limit ask (sorts_in P limit ask n) (apply f ts)) P.memberships) (λ more. gives (P.declared f args ++ joined more)))) (known_ones.known_at known_ones.levels (omega arith) n (omega arith) b)
      ∙ (ap (λ o. counted 0 (go_on (λ more. gives (ss ++ joined more)) o)) (members b)
      ∙ ap (λ more. done (ss ++ more) 0 b) (none_joined P.memberships) ∙ ap (λ rs. done rs 0 b) (append-nil ss))) in
      let computed : (b : ℕ) → sorts_at P known_ones.levels limit (apply f ts) b ≡ done ss 0 b = (λ b.
      ap (λ u. (levels P limit known_ones.levels).sorts u b) normal.0 ∙ (ap (λ g. g b) (sorts_on P limit known_ones.levels (apply f ts)) ∙ inner b)) in
      record {
        levels = known_ones.levels;
        sorts = ss;
        known_at = computed;
        exact = λ r. (
          λ h. inl ((declared_sorts_are_all s accepted known f over.0 ts known_ones.sorts known_ones.exact r).0 (number_in ss r h)),
          λ h. by known_ones.levels ss computed r (λ d. in_number ss r ((declared_sorts_are_all s accepted known f over.0 ts known_ones.sorts known_ones.exact r).1 d)) h h,
        );
      }
    where
      by : (k : ℕ) (ss : List ℕ) → ((b : ℕ) → sorts_at P k limit (apply f ts) b ≡ done ss 0 b) → (r : ℕ) → (HasByDeclarations s known f ts r → has_number ss r ≡ true) →
          HasSort s known (apply f ts) r → HasSort s known (apply f ts) r → has_number ss r ≡ true
      by k ss computed r declared has (inl h) = declared h
      by k ss computed r declared has (inr h) = known_computed (apply f ts) normal k ss computed r h has

-- ---- values

module _ (p : Typed.Program) (hooks : List Operator) (limit : ℕ) (remembers : Bool) (heads : HasHeads (program_over p hooks)) (accepted : IsBuiltAndAccepted p.sig)
    (nodes : List Node) (table : Table) (derived : IsDerivedTable (meanings_by p hooks limit remembers) nodes table) where
  abbrev SortsOfTable : Tree → Type 0
  SortsOfTable t = HasKnownSorts (program_over p hooks) p.sig derived.known limit t

  -- a settled term
  pub of_settled : (t : Tree) → IsNormalBare p.sig t → IsTreeSettled nodes table t → SortsOfTable t
  of_settled t normal is = by (entry_at table is.number) refl is.settled
    where
      by : (o : Option SortsOf) → entry_at table is.number ≡ o → is_some o ≡ true → SortsOfTable t
      by None e h = cc
      by (Some e) at h =
          let own = derived.entries is.number e at (subst (IsNormalBare p.sig) (sym is.tree) normal) in
          let kept = (derived.declared.entries is.number e at).1 in
          record {
            levels = own.levels;
            sorts = own.sorts;
            known_at = subst (λ u. (b : ℕ) → sorts_at (program_over p hooks) own.levels limit u b ≡ done own.sorts 0 b) is.tree own.known;
            exact = λ r. (
              λ h. subst (λ u. HasSort p.sig derived.known u r) is.tree ((kept.exact r).0 ((own.exact r).1 h)),
              λ h. (own.exact r).0 ((kept.exact r).1 (subst (λ u. HasSort p.sig derived.known u r) (sym is.tree) h)),
            );
          }

  pub besides_settled : (t : Tree) (q : ℕ) → IsNormalBare p.sig t → Contains derived.known (t, q) → SortsOfTable t
  besides_settled t q normal c = of_settled t normal (derived.declared.settled t q c)

  each_settled : (ts : Trees) → EachNormalBare p.sig ts → EachSettled nodes table ts → EachKnown p hooks limit heads accepted derived.known besides_settled ts
  each_settled no_trees n h = tt
  each_settled (tree t ts) n h = (of_settled t n.0 h.0, each_settled ts n.1 h.1)

  pub value_known : (v : Tree) → IsSettledValue p.sig nodes table v → SortsOfTable v
  value_known v is = by v (is.normal, is.bare) is.fits
    where
      by : (v : Tree) → IsNormalBare p.sig v → CanBeSettled (theory_at p.sig) nodes table v → SortsOfTable v
      by v normal (inl settled) = of_settled v normal settled
      by (variable i r) normal (inr h) = absurd h
      by (numeral n) normal (inr h) = numeral_known p hooks limit heads accepted derived.known besides_settled n normal
      by (apply f ts) normal (inr h) =
          let m : IsNormal (theory_at p.sig) (apply f ts) = normal_is (theory_at p.sig) heads.signature.theories (apply f ts) normal.0 in
          let bare = subst (λ a. IsBare (terms_over p.sig) (nest a f (readings (theory_at p.sig) ts))) h.0 normal.1 in
          list_known p hooks limit heads accepted derived.known besides_settled f ts h.0 normal (each_settled ts (elements_bare p.sig heads.signature f h.0 ts m.0 bare) h.1)

pub values_are_known : ValuesAreKnown
values_are_known p hooks limit remembers heads accepted nodes table derived t is settled pattern x i v j =
    value_known p hooks limit remembers heads accepted nodes table derived v (values_settled p.sig heads.signature nodes table t is.0 is.1 settled pattern x i v j)
