-- A term in which no rule may apply has no place at which one does; so its places are passed.
use Rattle.std.proofs.Common.{◌≡◌, ◌≢◌, ◌<◌, ◌==◌, ℕ, zero, suc, List, [], ◌∷◌, ◌++◌, Bool, true, false, ◌&&◌, None, if◌then◌else◌, map, length, get_or, Vec, Global, refl, sym, ap, ◌∙◌, subst, arith, eqb-true, length-append}
use Rattle.std.specs.List.{list_all}
use Rattle.std.proofs.Math.Seq.{get_or-append_seam}
use Rattle.std.proofs.lemmas.Bool.{and_parts, eqb-false}
use Rattle.std.proofs.lemmas.List.{get_or_append_left}
use Rattle.mau_terms.specs.Tree.{Tree, variable, numeral, apply, Trees, no_trees, tree, node, list_of, trees_of}
use Rattle.mau_terms.specs.Bare.{IsBare, AreBareIn, IsLawful}
use Rattle.mau_terms.specs.Reading.{nest, readings}
use Rattle.mau_terms.proofs.Normal.{IsNormal, AreNormal, normal_fixed}
use Rattle.mau_listing.proofs.Answered.{normal_is}
use Rattle.mau_signature.specs.Signature.{SignatureOf, theory_at, terms_over}
use Rattle.mau_formula.specs.Operator.{Operator}
use Rattle.mau_store.specs.Node.{Node, Extends}
use Rattle.mau_store.specs.Trees.{tree_at, trees_at}
use Rattle.mau_store.proofs.Standing.{tree_at-extends}
use Rattle.mau_program.specs.declared.program.Program as Typed
use Rattle.mau_evaluation.specs.Run.{done}
use Rattle.mau_evaluation.specs.Program.{Rule, Program}
use Rattle.mau_evaluation.specs.Rules.{Place, places, places_in}
use Rattle.mau_evaluation.specs.RuleRuns.{Turns, Stand}
use Rattle.mau_api.specs.Programs.{program_over}
use Rattle.mau_api.specs.Terms.{IsNormalBare}
use Rattle.mau_api.proofs.KnownSorts.{EachNormalBare, elements_bare}
use Rattle.mau_reduce.specs.ByTop.{top_number}
use Rattle.mau_rules.specs.declared.by_top.RulesByTop.{RulesByTop}
use Rattle.mau_rules.specs.declared.walk.Open.{Open}
use Rattle.mau_rules.specs.Runnable.{IsRunnable}
use Rattle.mau_rules.specs.Known.{Item}
use Rattle.mau_rules.specs.Found.{rules_in, one_by}
use Rattle.mau_rules.specs.ByTop.{rules_under, AreRulesByTop, has_none, is_idle, are_idle, IsIdleTable, IsByTop}
use Rattle.mau_rules.specs.Walk.{is_frozen_at, opened, around_all, places_behind, places_left}
use Rattle.mau_rules.proofs.Composed.{always_gives}
use Rattle.mau_rules.proofs.Placed.{each_place, past_one}
use Rattle.mau_rules.proofs.Walking.{place_first}
use Rattle.mau_rules.proofs.Walked.{places_after, places_on, IsLeft}
use Rattle.mau_rules.proofs.ByTop.{none_under}

-- ---- the arguments of a normal form

module _ (s : SignatureOf) where
  each_bare : (ts : Trees) (ks : List ℕ) → AreNormal (theory_at s) ts → AreBareIn (terms_over s) (trees_of (readings (theory_at s) ts)) ks → EachNormalBare s ts
  each_bare no_trees ks n b = tt
  each_bare (tree t ts) [] n b = absurd b
  each_bare (tree t ts) (k ∷ ks) n b = ((normal_fixed (theory_at s) t n.0, (k, b.0)), each_bare ts ks n.1 b.1)

  arguments_bare : IsLawful (terms_over s) → (f : ℕ) (ts : Trees) → IsNormalBare s (apply f ts) → EachNormalBare s ts
  arguments_bare lawful f ts normal = by (theory_at s f).assoc refl normal.1
    where
      m : IsNormal (theory_at s) (apply f ts)
      m = normal_is (theory_at s) lawful.theories (apply f ts) normal.0

      by : (a : Bool) → (theory_at s f).assoc ≡ a → IsBare (terms_over s) (nest a f (readings (theory_at s) ts)) → EachNormalBare s ts
      by true e b = elements_bare s lawful f e ts m.0 b
      by false e b = each_bare ts ((terms_over s).arguments f) m.0 b.1.2

-- ---- tops under which no rule may apply

is_there : (lists : List (List ℕ)) (g : ℕ) → has_none lists g ≡ true → (g < length lists) × (get_or lists g [] ≡ [])
is_there [] g e = cc
is_there ([] ∷ lists) zero e = (omega arith, refl)
is_there ((i ∷ is) ∷ lists) zero e = cc
is_there (is ∷ lists) (suc g) e = let h = is_there lists g e in (omega (arith, h.0), h.1)

no_first : (qs : List (ℕ × Rule)) → map (λ (q : ℕ × Rule). q.0) qs ≡ [] → qs ≡ []
no_first [] e = refl
no_first (q ∷ qs) e = cc

empty_under : (p : Typed.Program) (lists : List (List ℕ)) → AreRulesByTop p lists → (g : ℕ) → has_none lists g ≡ true → rules_under p g ≡ []
empty_under p lists are g e = let h = is_there lists g e in no_first (rules_under p g) (sym (are.under g h.0) ∙ h.1)

-- ---- tables of idle nodes

-- in a store that grows
pub idle_grown : (lists : List (List ℕ)) (old new : List Node) → Extends old new → (idle : List Bool) → IsIdleTable lists old idle → IsIdleTable lists new idle
idle_grown lists old new x idle h = record {
  within = omega (arith, h.within, ap (λ (ns : List Node). length ns) x.1, length-append old x.0);
  each = λ i low. h.each i low ∙ ap (is_idle lists) (sym (tree_at-extends old new i x (omega (arith, low, h.within))));
}

-- one node more
pub idle_more : (lists : List (List ℕ)) (nodes : List Node) (idle : List Bool) (b : Bool) → length idle < length nodes → b ≡ is_idle lists (tree_at nodes (length idle)) → IsIdleTable lists nodes idle → IsIdleTable lists nodes (idle ++ b ∷ [])
idle_more lists nodes idle b low e h = record { within = omega (arith, low, length-append idle (b ∷ [])); each = each }
  where
    each : (i : ℕ) → i < length (idle ++ b ∷ []) → get_or (idle ++ b ∷ []) i false ≡ is_idle lists (tree_at nodes i)
    each i l = by (i == length idle) refl
      where
        by : (c : Bool) → (i == length idle) ≡ c → get_or (idle ++ b ∷ []) i false ≡ is_idle lists (tree_at nodes i)
        by true k =
            let same : i ≡ length idle = eqb-true i (length idle) k in
            ap (λ j. get_or (idle ++ b ∷ []) j false) same ∙ (get_or-append_seam idle b [] false ∙ (e ∙ ap (λ j. is_idle lists (tree_at nodes j)) (sym same)))
        by false k =
            let other : i ≢ length idle = eqb-false i (length idle) k in
            let before : i < length idle = omega (arith, l, other, length-append idle (b ∷ [])) in
            get_or_append_left idle (b ∷ []) false i before ∙ h.each i before

pub by_top_grown : (p : Typed.Program) (old new : List Node) (x : RulesByTop) → Extends old new → IsByTop p old x → IsByTop p new x
by_top_grown p old new x e h = record { rules = h.rules; idle = idle_grown (map (λ list. list.items) x.orders.items) old new e x.idle.items h.idle }

-- more nodes are noted
pub by_top_noted : (p : Typed.Program) (nodes : List Node) (x y : RulesByTop) → y.orders ≡ x.orders → IsIdleTable (map (λ list. list.items) x.orders.items) nodes y.idle.items → IsByTop p nodes x → IsByTop p nodes y
by_top_noted p nodes x y e h b = record {
  rules = subst (λ (z : Vec (Vec ℕ Global) Global). AreRulesByTop p (map (λ list. list.items) z.items)) (sym e) b.rules;
  idle = subst (λ (z : Vec (Vec ℕ Global) Global). IsIdleTable (map (λ list. list.items) z.items) nodes y.idle.items) (sym e) h;
}

-- the arguments of a node
pub all_idle : (lists : List (List ℕ)) (nodes : List Node) (ids : List ℕ) → list_all (λ i. is_idle lists (tree_at nodes i)) ids ≡ are_idle lists (trees_of (trees_at nodes ids))
all_idle lists nodes [] = refl
all_idle lists nodes (i ∷ is) = ap (λ b. is_idle lists (tree_at nodes i) && b) (all_idle lists nodes is)

-- ---- places

module _ (p : Typed.Program) (run : IsRunnable p) (hooks : List Operator) (I : Item) (h : Turns) where
  abbrev P : Program
  P = program_over p hooks

  -- at none of them a rule applies
  pub data AllNone : List Place → Type 0 where
    no_more_none : AllNone []
    one_none : {q : Place} {qs : List Place} → ((k E b : ℕ) → rules_in P h q k E b ≡ done None 0 b) → AllNone qs → AllNone (q ∷ qs)

  both_none : (qs rs : List Place) → AllNone qs → AllNone rs → AllNone (qs ++ rs)
  both_none [] rs no_more_none r = r
  both_none (q ∷ qs) rs (one_none e g) r = one_none e (both_none qs rs g r)

  later_none : (q : Place) (qs : List Place) → AllNone (q ∷ qs) → AllNone qs
  later_none q qs (one_none e g) = g

  module _ (lists : List (List ℕ)) (are : AreRulesByTop p lists) (z : ℕ → ℕ → Bool) where
    none_here : (around : Tree → Tree) (t : Tree) → IsNormalBare p.sig t → has_none lists (top_number t) ≡ true → (k E b : ℕ) → rules_in P h (record { term = t; around = around }) k E b ≡ done None 0 b
    none_here around t n e = none_under p run hooks t n.0 n.1 I h (record { term = t; around = around }) refl (empty_under p lists are (top_number t) e)

    mutual
      idle_places : (around : Tree → Tree) (t : Tree) → IsNormalBare p.sig t → is_idle lists t ≡ true → AllNone (places z around t)
      idle_places around (variable i s) n e = one_none (none_here around (variable i s) n e) no_more_none
      idle_places around (numeral m) n e = one_none (none_here around (numeral m) n e) no_more_none
      idle_places around (apply f ts) n e =
          let both = and_parts (has_none lists f) (are_idle lists ts) e in
          one_none (none_here around (apply f ts) n both.0) (idle_places_in around f [] 0 ts (arguments_bare p.sig run.reducible.lawful f ts n) both.1)

      idle_places_in : (around : Tree → Tree) (f : ℕ) (before : List Tree) (i : ℕ) (ts : Trees) → EachNormalBare p.sig ts → are_idle lists ts ≡ true → AllNone (places_in z around f before i ts)
      idle_places_in around f before i no_trees n e = no_more_none
      idle_places_in around f before i (tree t ts) n e =
          let both = and_parts (is_idle lists t) (are_idle lists ts) e in
          let inside = places z (λ v. around (node f (before ++ v ∷ list_of ts))) t in
          both_none (if z f i then [] else inside) (places_in z around f (before ++ t ∷ []) (suc i) ts)
          (by (z f i) inside (idle_places (λ v. around (node f (before ++ v ∷ list_of ts))) t n.0 both.0)) (idle_places_in around f (before ++ t ∷ []) (suc i) ts n.1 both.1)
        where
          by : (b : Bool) (qs : List Place) → AllNone qs → AllNone (if b then [] else qs)
          by true qs g = no_more_none
          by false qs g = g

    idle_behind : (around : Tree → Tree) (t : Tree) → IsNormalBare p.sig t → is_idle lists t ≡ true → AllNone (places_behind z around t 0)
    idle_behind around t n e = later_none (record { term = t; around = around }) (places_behind z around t 0) (subst AllNone (place_first z around t) (idle_places around t n e))

-- ---- the search

module _ (p : Typed.Program) (run : IsRunnable p) (hooks : List Operator) (I : Item) (s : Stand) (b0 : ℕ) where
  pass_all : (qs rest : List Place) (b : ℕ) → AllNone p run hooks I s.turns qs → IsLeft p hooks I s b0 (qs ++ rest) b → IsLeft p hooks I s b0 rest b
  pass_all [] rest b no_more_none left = left
  pass_all (q ∷ qs) rest b (one_none e g) left =
      pass_all qs rest b g
      (past_one I (each_place (program_over p hooks) I s) (one_by (program_over p hooks) s) b0 q (qs ++ rest) b b left (always_gives I (λ k E. rules_in (program_over p hooks) s.turns q k E) b None e))

  -- behind a term at whose top no rule applies: what is below it is left out where it is idle
  pub passed_below : (lists : List (List ℕ)) → AreRulesByTop p lists → (skip : Bool) (nodes : List Node) (os : List Open) (due b : ℕ) → IsNormalBare p.sig (tree_at nodes due) →
      (skip ≡ true → is_idle lists (tree_at nodes due) ≡ true) → IsLeft p hooks I s b0 (places_after p nodes os due) b →
      IsLeft p hooks I s b0 (places_on skip p nodes os due) b
  passed_below lists are false nodes os due b n idle left = left
  passed_below lists are true nodes os due b n idle left =
      pass_all (places_behind (is_frozen_at p.sig) (around_all (λ v. v) (map (opened nodes) os)) (tree_at nodes due) 0) (places_left (is_frozen_at p.sig) (λ v. v) (map (opened nodes) os)) b
      (idle_behind p run hooks I s.turns lists are (is_frozen_at p.sig) (around_all (λ v. v) (map (opened nodes) os)) (tree_at nodes due) n (idle refl)) left
