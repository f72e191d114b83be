-- Whether two configurations are the same one.
use Rattle.std.proofs.Common.{◌≡◌, [], ◌∷◌, Bool, true, false, ◌&&◌, ◌==◌, refl, ap, ap₂, eq-eqb, eqb-true}
use Rattle.mau_terms.specs.Tree.{Tree}
use Rattle.mau_terms.specs.Subst.{Variable, same_variable}
use Rattle.mau_evaluation.specs.Program.{equals, matches, has_sort, reaches}
use Rattle.mau_evaluation.specs.Listing.{same_tree}
use Rattle.mau_evaluation.specs.Strategy.{TestKind, at_top, within_top, anywhere, Assign, Strategy, idle, fail, every_rule, label, top_only, call, test, star, plus, to_normal, in_turn, either, or_else, branch, negation, attempt, test_of, part_rewrite, label_by, PartUses, no_parts, part_use, Strategies, no_strategies, strategy}
use Rattle.mau_evaluation.specs.Satisfies.{same_name}
use Rattle.mau_evaluation.specs.Configs.{Todo, Frame, test_frame, Config}
use Rattle.mau_evaluation.specs.Questions.{same_list, same_fragment, same_binding}
use Rattle.mau_evaluation.proofs.Reduced.{same_tree_true}
use Rattle.mau_evaluation.proofs.Still.{same_tree_itself}
use Rattle.mau_evaluation.proofs.Leaves.{same_name-is, same_name_itself}
use Rattle.mau_evaluation.proofs.BareTerms.{both_are, and_so}
use Rattle.mau_terms.proofs.Variables.{same-is, same_itself}

abbrev same_kind : TestKind → TestKind → Bool
same_kind at_top at_top = true
same_kind within_top within_top = true
same_kind anywhere anywhere = true
same_kind _ _ = false

abbrev same_assign : Assign → Assign → Bool
same_assign a b = same_name a.name b.name && ((a.sort == b.sort) && same_tree a.term b.term)

abbrev mutual
  pub same_strategy : Strategy → Strategy → Bool
  same_strategy idle idle = true
  same_strategy fail fail = true
  same_strategy every_rule every_rule = true
  same_strategy (label n gs) (label m hs) = same_name n m && same_list same_assign gs hs
  same_strategy (top_only e) (top_only f) = same_strategy e f
  same_strategy (call n ts) (call m us) = same_name n m && same_list same_tree ts us
  same_strategy (test k p c) (test j q d) = same_kind k j && (same_tree p q && same_list same_fragment c d)
  same_strategy (star e) (star f) = same_strategy e f
  same_strategy (plus e) (plus f) = same_strategy e f
  same_strategy (to_normal e) (to_normal f) = same_strategy e f
  same_strategy (in_turn e f) (in_turn g h) = same_strategy e g && same_strategy f h
  same_strategy (either e f) (either g h) = same_strategy e g && same_strategy f h
  same_strategy (or_else e f) (or_else g h) = same_strategy e g && same_strategy f h
  same_strategy (branch e f i) (branch g h j) = same_strategy e g && (same_strategy f h && same_strategy i j)
  same_strategy (negation e) (negation f) = same_strategy e f
  same_strategy (attempt e) (attempt f) = same_strategy e f
  same_strategy (test_of e) (test_of f) = same_strategy e f
  same_strategy (part_rewrite k p c us) (part_rewrite j q d vs) = same_kind k j && (same_tree p q && (same_list same_fragment c d && same_parts us vs))
  same_strategy (label_by n gs es) (label_by m hs fs) = same_name n m && (same_list same_assign gs hs && same_strategies es fs)
  same_strategy _ _ = false

  pub same_parts : PartUses → PartUses → Bool
  same_parts no_parts no_parts = true
  same_parts (part_use x e us) (part_use y f vs) = same_variable x y && (same_strategy e f && same_parts us vs)
  same_parts _ _ = false

  pub same_strategies : Strategies → Strategies → Bool
  same_strategies no_strategies no_strategies = true
  same_strategies (strategy e es) (strategy f fs) = same_strategy e f && same_strategies es fs
  same_strategies _ _ = false

abbrev same_todo : Todo → Todo → Bool
same_todo d e = same_strategy d.form e.form && ((d.calls == e.calls) && same_binding d.values e.values)

abbrev pub same_frame : Frame → Frame → Bool
same_frame (test_frame d e t ds) (test_frame f g u es) = same_todo d f && (same_todo e g && (same_tree t u && same_list same_todo ds es))

abbrev pub same_config : Config → Config → Bool
same_config b c = same_tree b.term c.term && (same_list same_todo b.todo c.todo && same_list same_frame b.frames c.frames)

-- ---- the same is equal

abbrev pub Tells : {A : Type 0} → (A → A → Bool) → Type 0
Tells {A = A} same = (x y : A) → same x y ≡ true → x ≡ y

abbrev Knows : {A : Type 0} → (A → A → Bool) → Type 0
Knows {A = A} same = (x : A) → same x x ≡ true

list_tells : {A : Type 0} (same : A → A → Bool) → Tells same → Tells (same_list same)
list_tells same t [] [] h = refl
list_tells same t [] (y ∷ ys) h = cc
list_tells same t (x ∷ xs) [] h = cc
list_tells same t (x ∷ xs) (y ∷ ys) h = let p = both_are (same x y) (same_list same xs ys) h in ap₂ (λ z zs. z ∷ zs) (t x y p.0) (list_tells same t xs ys p.1)

list_knows : {A : Type 0} (same : A → A → Bool) → Knows same → Knows (same_list same)
list_knows same k [] = refl
list_knows same k (x ∷ xs) = and_so (same x x) (same_list same xs xs) (k x) (list_knows same k xs)

kind_tells : Tells same_kind
kind_tells at_top at_top h = refl
kind_tells within_top within_top h = refl
kind_tells anywhere anywhere h = refl
kind_tells _ _ h = cc

kind_knows : Knows same_kind
kind_knows at_top = refl
kind_knows within_top = refl
kind_knows anywhere = refl

assign_tells : Tells same_assign
assign_tells a b h =
    let p = both_are (same_name a.name b.name) ((a.sort == b.sort) && same_tree a.term b.term) h in
    let q = both_are (a.sort == b.sort) (same_tree a.term b.term) p.1 in
    let n : a.name ≡ b.name = same_name-is a.name b.name p.0 in
    let s : a.sort ≡ b.sort = eqb-true a.sort b.sort q.0 in
    let t : a.term ≡ b.term = same_tree_true a.term b.term q.1 in λ i. record { name = n i; sort = s i; term = t i }

assign_knows : Knows same_assign
assign_knows a =
    and_so (same_name a.name a.name) ((a.sort == a.sort) && same_tree a.term a.term) (same_name_itself a.name) (and_so (a.sort == a.sort) (same_tree a.term a.term) (eq-eqb a.sort a.sort refl) (same_tree_itself a.term))

fragment_tells : Tells same_fragment
fragment_tells (equals t u) (equals v w) h = let p = both_are (same_tree t v) (same_tree u w) h in ap₂ equals (same_tree_true t v p.0) (same_tree_true u w p.1)
fragment_tells (matches t u) (matches v w) h = let p = both_are (same_tree t v) (same_tree u w) h in ap₂ matches (same_tree_true t v p.0) (same_tree_true u w p.1)
fragment_tells (has_sort t s) (has_sort v r) h = let p = both_are (same_tree t v) (s == r) h in ap₂ has_sort (same_tree_true t v p.0) (eqb-true s r p.1)
fragment_tells (reaches t u) (reaches v w) h = let p = both_are (same_tree t v) (same_tree u w) h in ap₂ reaches (same_tree_true t v p.0) (same_tree_true u w p.1)
fragment_tells _ _ h = cc

fragment_knows : Knows same_fragment
fragment_knows (equals t u) = and_so (same_tree t t) (same_tree u u) (same_tree_itself t) (same_tree_itself u)
fragment_knows (matches t u) = and_so (same_tree t t) (same_tree u u) (same_tree_itself t) (same_tree_itself u)
fragment_knows (has_sort t s) = and_so (same_tree t t) (s == s) (same_tree_itself t) (eq-eqb s s refl)
fragment_knows (reaches t u) = and_so (same_tree t t) (same_tree u u) (same_tree_itself t) (same_tree_itself u)

abbrev same_bound : Variable × Tree → Variable × Tree → Bool
same_bound x y = same_variable x.0 y.0 && same_tree x.1 y.1

bound_tells : Tells same_bound
bound_tells x y h =
    let p = both_are (same_variable x.0 y.0) (same_tree x.1 y.1) h in
    let a : x.0 ≡ y.0 = same-is x.0 y.0 p.0 in
    let b : x.1 ≡ y.1 = same_tree_true x.1 y.1 p.1 in λ i. (a i, b i)

bound_knows : Knows same_bound
bound_knows x = and_so (same_variable x.0 x.0) (same_tree x.1 x.1) (same_itself x.0) (same_tree_itself x.1)

pub condition_tells : Tells (same_list same_fragment)
condition_tells = list_tells same_fragment fragment_tells

pub binding_tells : Tells same_binding
binding_tells = list_tells same_bound bound_tells

mutual
  strategy_tells : Tells same_strategy
  strategy_tells idle idle h = refl
  strategy_tells fail fail h = refl
  strategy_tells every_rule every_rule h = refl
  strategy_tells (label n gs) (label m hs) h =
      let p = both_are (same_name n m) (same_list same_assign gs hs) h in ap₂ label (same_name-is n m p.0) (list_tells same_assign assign_tells gs hs p.1)
  strategy_tells (top_only e) (top_only f) h = ap top_only (strategy_tells e f h)
  strategy_tells (call n ts) (call m us) h =
      let p = both_are (same_name n m) (same_list same_tree ts us) h in ap₂ call (same_name-is n m p.0) (list_tells same_tree same_tree_true ts us p.1)
  strategy_tells (test k p c) (test j q d) h =
      let a = both_are (same_kind k j) (same_tree p q && same_list same_fragment c d) h in
      let b = both_are (same_tree p q) (same_list same_fragment c d) a.1 in
      let x : k ≡ j = kind_tells k j a.0 in
      let y : p ≡ q = same_tree_true p q b.0 in
      let z : c ≡ d = list_tells same_fragment fragment_tells c d b.1 in cc
  strategy_tells (star e) (star f) h = ap star (strategy_tells e f h)
  strategy_tells (plus e) (plus f) h = ap plus (strategy_tells e f h)
  strategy_tells (to_normal e) (to_normal f) h = ap to_normal (strategy_tells e f h)
  strategy_tells (in_turn e f) (in_turn g i) h = let p = both_are (same_strategy e g) (same_strategy f i) h in ap₂ in_turn (strategy_tells e g p.0) (strategy_tells f i p.1)
  strategy_tells (either e f) (either g i) h = let p = both_are (same_strategy e g) (same_strategy f i) h in ap₂ either (strategy_tells e g p.0) (strategy_tells f i p.1)
  strategy_tells (or_else e f) (or_else g i) h = let p = both_are (same_strategy e g) (same_strategy f i) h in ap₂ or_else (strategy_tells e g p.0) (strategy_tells f i p.1)
  strategy_tells (branch e f k) (branch g i j) h =
      let a = both_are (same_strategy e g) (same_strategy f i && same_strategy k j) h in
      let b = both_are (same_strategy f i) (same_strategy k j) a.1 in
      let x : e ≡ g = strategy_tells e g a.0 in
      let y : f ≡ i = strategy_tells f i b.0 in
      let z : k ≡ j = strategy_tells k j b.1 in cc
  strategy_tells (negation e) (negation f) h = ap negation (strategy_tells e f h)
  strategy_tells (attempt e) (attempt f) h = ap attempt (strategy_tells e f h)
  strategy_tells (test_of e) (test_of f) h = ap test_of (strategy_tells e f h)
  strategy_tells (part_rewrite k p c us) (part_rewrite j q d vs) h =
      let a = both_are (same_kind k j) (same_tree p q && (same_list same_fragment c d && same_parts us vs)) h in
      let b = both_are (same_tree p q) (same_list same_fragment c d && same_parts us vs) a.1 in
      let e = both_are (same_list same_fragment c d) (same_parts us vs) b.1 in
      let x : k ≡ j = kind_tells k j a.0 in
      let y : p ≡ q = same_tree_true p q b.0 in
      let z : c ≡ d = list_tells same_fragment fragment_tells c d e.0 in
      let w : us ≡ vs = parts_tell us vs e.1 in cc
  strategy_tells (label_by n gs es) (label_by m hs fs) h =
      let a = both_are (same_name n m) (same_list same_assign gs hs && same_strategies es fs) h in
      let b = both_are (same_list same_assign gs hs) (same_strategies es fs) a.1 in
      let x : n ≡ m = same_name-is n m a.0 in
      let y : gs ≡ hs = list_tells same_assign assign_tells gs hs b.0 in
      let z : es ≡ fs = strategies_tell es fs b.1 in cc
  strategy_tells _ _ h = cc

  parts_tell : Tells same_parts
  parts_tell no_parts no_parts h = refl
  parts_tell (part_use x e us) (part_use y f vs) h =
      let a = both_are (same_variable x y) (same_strategy e f && same_parts us vs) h in
      let b = both_are (same_strategy e f) (same_parts us vs) a.1 in
      let u : x ≡ y = same-is x y a.0 in
      let v : e ≡ f = strategy_tells e f b.0 in
      let w : us ≡ vs = parts_tell us vs b.1 in cc
  parts_tell _ _ h = cc

  strategies_tell : Tells same_strategies
  strategies_tell no_strategies no_strategies h = refl
  strategies_tell (strategy e es) (strategy f fs) h =
      let a = both_are (same_strategy e f) (same_strategies es fs) h in ap₂ strategy (strategy_tells e f a.0) (strategies_tell es fs a.1)
  strategies_tell _ _ h = cc

mutual
  strategy_knows : Knows same_strategy
  strategy_knows idle = refl
  strategy_knows fail = refl
  strategy_knows every_rule = refl
  strategy_knows (label n gs) = and_so (same_name n n) (same_list same_assign gs gs) (same_name_itself n) (list_knows same_assign assign_knows gs)
  strategy_knows (top_only e) = strategy_knows e
  strategy_knows (call n ts) = and_so (same_name n n) (same_list same_tree ts ts) (same_name_itself n) (list_knows same_tree same_tree_itself ts)
  strategy_knows (test k p c) =
      and_so (same_kind k k) (same_tree p p && same_list same_fragment c c) (kind_knows k) (and_so (same_tree p p) (same_list same_fragment c c) (same_tree_itself p) (list_knows same_fragment fragment_knows c))
  strategy_knows (star e) = strategy_knows e
  strategy_knows (plus e) = strategy_knows e
  strategy_knows (to_normal e) = strategy_knows e
  strategy_knows (in_turn e f) = and_so (same_strategy e e) (same_strategy f f) (strategy_knows e) (strategy_knows f)
  strategy_knows (either e f) = and_so (same_strategy e e) (same_strategy f f) (strategy_knows e) (strategy_knows f)
  strategy_knows (or_else e f) = and_so (same_strategy e e) (same_strategy f f) (strategy_knows e) (strategy_knows f)
  strategy_knows (branch e f g) =
      and_so (same_strategy e e) (same_strategy f f && same_strategy g g) (strategy_knows e) (and_so (same_strategy f f) (same_strategy g g) (strategy_knows f) (strategy_knows g))
  strategy_knows (negation e) = strategy_knows e
  strategy_knows (attempt e) = strategy_knows e
  strategy_knows (test_of e) = strategy_knows e
  strategy_knows (part_rewrite k p c us) =
      and_so (same_kind k k) (same_tree p p && (same_list same_fragment c c && same_parts us us)) (kind_knows k)
      (and_so (same_tree p p) (same_list same_fragment c c && same_parts us us) (same_tree_itself p)
      (and_so (same_list same_fragment c c) (same_parts us us) (list_knows same_fragment fragment_knows c) (parts_know us)))
  strategy_knows (label_by n gs es) =
      and_so (same_name n n) (same_list same_assign gs gs && same_strategies es es) (same_name_itself n)
      (and_so (same_list same_assign gs gs) (same_strategies es es) (list_knows same_assign assign_knows gs) (strategies_know es))

  parts_know : Knows same_parts
  parts_know no_parts = refl
  parts_know (part_use x e us) =
      and_so (same_variable x x) (same_strategy e e && same_parts us us) (same_itself x) (and_so (same_strategy e e) (same_parts us us) (strategy_knows e) (parts_know us))

  strategies_know : Knows same_strategies
  strategies_know no_strategies = refl
  strategies_know (strategy e es) = and_so (same_strategy e e) (same_strategies es es) (strategy_knows e) (strategies_know es)

todo_tells : Tells same_todo
todo_tells d e h =
    let a = both_are (same_strategy d.form e.form) ((d.calls == e.calls) && same_binding d.values e.values) h in
    let b = both_are (d.calls == e.calls) (same_binding d.values e.values) a.1 in
    let x : d.form ≡ e.form = strategy_tells d.form e.form a.0 in
    let y : d.calls ≡ e.calls = eqb-true d.calls e.calls b.0 in
    let z : d.values ≡ e.values = list_tells same_bound bound_tells d.values e.values b.1 in λ i. record { form = x i; calls = y i; values = z i }

todo_knows : Knows same_todo
todo_knows d =
    and_so (same_strategy d.form d.form) ((d.calls == d.calls) && same_binding d.values d.values) (strategy_knows d.form)
    (and_so (d.calls == d.calls) (same_binding d.values d.values) (eq-eqb d.calls d.calls refl) (list_knows same_bound bound_knows d.values))

pub not_both : (b : Bool) → b ≡ true → b ≡ false → ⊥
not_both true p q = cc
not_both false p q = cc

pub frame_tells : Tells same_frame
frame_tells (test_frame d e t ds) (test_frame f g u es) h =
    let a = both_are (same_todo d f) (same_todo e g && (same_tree t u && same_list same_todo ds es)) h in
    let b = both_are (same_todo e g) (same_tree t u && same_list same_todo ds es) a.1 in
    let c = both_are (same_tree t u) (same_list same_todo ds es) b.1 in
    let x : d ≡ f = todo_tells d f a.0 in
    let y : e ≡ g = todo_tells e g b.0 in
    let z : t ≡ u = same_tree_true t u c.0 in
    let w : ds ≡ es = list_tells same_todo todo_tells ds es c.1 in cc

pub frame_knows : Knows same_frame
frame_knows (test_frame d e t ds) =
    and_so (same_todo d d) (same_todo e e && (same_tree t t && same_list same_todo ds ds)) (todo_knows d)
    (and_so (same_todo e e) (same_tree t t && same_list same_todo ds ds) (todo_knows e)
    (and_so (same_tree t t) (same_list same_todo ds ds) (same_tree_itself t) (list_knows same_todo todo_knows ds)))

pub frames_tell : Tells (same_list same_frame)
frames_tell = list_tells same_frame frame_tells

pub frames_know : Knows (same_list same_frame)
frames_know = list_knows same_frame frame_knows

pub config_tells : Tells same_config
config_tells b c h =
    let p = both_are (same_tree b.term c.term) (same_list same_todo b.todo c.todo && same_list same_frame b.frames c.frames) h in
    let q = both_are (same_list same_todo b.todo c.todo) (same_list same_frame b.frames c.frames) p.1 in
    let x : b.term ≡ c.term = same_tree_true b.term c.term p.0 in
    let y : b.todo ≡ c.todo = list_tells same_todo todo_tells b.todo c.todo q.0 in
    let z : b.frames ≡ c.frames = list_tells same_frame frame_tells b.frames c.frames q.1 in λ i. record { term = x i; todo = y i; frames = z i }

pub config_knows : Knows same_config
config_knows c =
    and_so (same_tree c.term c.term) (same_list same_todo c.todo c.todo && same_list same_frame c.frames c.frames) (same_tree_itself c.term)
    (and_so (same_list same_todo c.todo c.todo) (same_list same_frame c.frames c.frames) (list_knows same_todo todo_knows c.todo) (list_knows same_frame frame_knows c.frames))
