-- Under a pattern with a plain top, the value of no variable is the subject: it is less deep.
use Rattle.std.proofs.Common.{◌≡◌, ℕ, suc, ◌+◌, ◌≤◌, ◌<◌, List, [], ◌∷◌, ◌++◌, length, Bool, true, false, nat_lt, if◌then◌else◌, Option, Some, None, inl, inr, ◌⊎◌, ⊎_elim, refl, sym, ◌∙◌, ap, ap₂, subst, arith}
use Rattle.mau_terms.specs.Tree.{Tree, variable, numeral, apply, Trees, no_trees, tree, node, list_of}
use Rattle.mau_terms.specs.Depth.{depth, depths, list_depth}
use Rattle.mau_terms.specs.Norm.{unit_tree, greatest_numeral, pieces, all_pieces, arrange, finish, made, build, norm, norms}
use Rattle.mau_terms.specs.Lawful.{AreLawful}
use Rattle.mau_terms.specs.Subst.{Variable, instance, instances, Occurs, OccursIn}
use Rattle.mau_terms.specs.Finite.{IsIn, arguments_of}
use Rattle.mau_terms.specs.declared.theory.Identity.{Identity}
use Rattle.mau_terms.specs.declared.theory.Identity.TheVariants.{Const, Num}
use Rattle.mau_terms.specs.declared.theory.Theory.{Theory}
use Rattle.mau_terms.proofs.Pieces.{Split, unit, many, one, split, alone_element, trees_of-list_of, Each}
use Rattle.mau_terms.proofs.Normal.{IsNormal, norms_normal}
use Rattle.mau_terms.proofs.Finite.{AllIn, AllIn-arrange, in_arrange, length-arrange, pieces_within, length_within}
use Rattle.mau_listing.specs.Asked.{HasPlainTop}
use Rattle.mau_listing.proofs.Parts.{each_at, holds_of_part}
use Rattle.mau_listing.proofs.Valued.{part_of_built}
use Rattle.mau_store.proofs.Depths.{depth-node}
use Rattle.mau_canon.proofs.Depths.{unit_depth}

-- ---- depths

positive : (t : Tree) → 1 ≤ depth t
positive (variable i s) = omega arith
positive (numeral n) = omega arith
positive (apply f ts) = omega arith

among_depth : (z : Tree) (ts : List Tree) → IsIn z ts → depth z ≤ list_depth ts
among_depth z [] h = absurd h
among_depth z (t ∷ ts) (inl e) = let k : depth z ≡ depth t = ap depth e in omega arith
among_depth z (t ∷ ts) (inr h) = omega (arith, among_depth z ts h)

pub argument_depth : (t z : Tree) → IsIn z (arguments_of t) → depth z < depth t
argument_depth (variable i s) z h = absurd h
argument_depth (numeral n) z h = absurd h
argument_depth (apply f ts) z h = omega (arith, go ts h)
  where
    go : (us : Trees) → IsIn z (list_of us) → depth z ≤ depths us
    go no_trees k = absurd k
    go (tree u us) (inl e) = let d : depth z ≡ depth u = ap depth e in omega arith
    go (tree u us) (inr k) = omega (arith, go us k)

-- ---- occurrences

argument_occurs : (x : Variable) (t z : Tree) → IsIn z (arguments_of t) → Occurs x z → Occurs x t
argument_occurs x (variable i s) z h o = absurd h
argument_occurs x (numeral n) z h o = absurd h
argument_occurs x (apply f ts) z h o = go ts h
  where
    go : (us : Trees) → IsIn z (list_of us) → OccursIn x us
    go no_trees k = absurd k
    go (tree u us) (inl e) = inl (subst (Occurs x) e o)
    go (tree u us) (inr k) = inr (go us k)

unit_has_none : (x : Variable) (i : Identity) → Occurs x (unit_tree i) → ⊥
unit_has_none x (Const c) o = o
unit_has_none x (Num n) o = o

node_occurs : (x : Variable) (f : ℕ) (ts : List Tree) → Occurs x (node f ts) → (z : Tree) × IsIn z ts × Occurs x z
node_occurs x f [] o = absurd o
node_occurs x f (t ∷ ts) (inl o) = (t, inl refl, o)
node_occurs x f (t ∷ ts) (inr o) = let one = node_occurs x f ts o in (one.0, inr one.1, one.2)

module _ (th : ℕ → Theory) (f : ℕ) (zs : List Tree) (normal : Each (IsNormal th) zs) (z : Tree) (among : IsIn z zs) where
  abbrev t : Tree
  t = build (th f) f zs

  -- an argument is no deeper than the normal form
  built_depth : depth z ≤ depth (build (th f) f zs)
  built_depth =
      holds_of_part th f t (λ u. depth u ≤ depth t) (record {
        unit = λ i e. omega (arith, unit_depth i, positive t);
        number = λ n. positive t;
        itself = omega arith;
        argument = λ u h. omega (arith, argument_depth t u h);
        list = λ a ts within. omega (arith, depth-node f ts, list_low_by ts within, positive t);
      }) z (part_of_built th f z zs normal among)
    where
      list_low_by : (us : List Tree) → Each (λ u. IsIn u (arguments_of (build (th f) f zs))) us → suc (list_depth us) ≤ depth (build (th f) f zs)
      list_low_by [] h = positive (build (th f) f zs)
      list_low_by (u ∷ us) h = let k = argument_depth (build (th f) f zs) u h.0 in omega (arith, list_low_by us h.1)

  -- a variable of it is one of the normal form
  built_occurs : (x : Variable) → Occurs x z → Occurs x (build (th f) f zs)
  built_occurs x =
      holds_of_part th f t (λ u. Occurs x u → Occurs x t) (record {
        unit = λ i e o. absurd (unit_has_none x i o);
        number = λ n o. absurd o;
        itself = λ o. o;
        argument = λ u h o. argument_occurs x t u h o;
        list = λ a ts within o. let one = node_occurs x f ts o in argument_occurs x t one.0 (each_at (λ u. IsIn u (arguments_of t)) one.0 ts within one.1) one.2;
      }) z (part_of_built th f z zs normal among)

-- ---- patterns

module _ (th : ℕ → Theory) (lawful : AreLawful th) (x : Variable) where
  mutual
    -- the variables of a term are those of its normal form
    norm_occurs : (p : Tree) → Occurs x p → Occurs x (norm th p)
    norm_occurs (variable i s) o = o
    norm_occurs (numeral n) o = o
    norm_occurs (apply f ps) o = let one = norms_occur ps o in built_occurs th f (norms th ps) (norms_normal th lawful ps) one.0 one.1 x one.2

    norms_occur : (ps : Trees) → OccursIn x ps → (z : Tree) × IsIn z (norms th ps) × Occurs x z
    norms_occur no_trees o = absurd o
    norms_occur (tree p ps) (inl o) = (norm th p, inl refl, norm_occurs p o)
    norms_occur (tree p ps) (inr o) = let one = norms_occur ps o in (one.0, inr one.1, one.2)

  free_pieces : (f : ℕ) (ts : List Tree) → all_pieces false None f ts ≡ ts
  free_pieces f [] = refl
  free_pieces f (t ∷ ts) = ap₂ (λ v w. v ++ w) (alone_element f t) (free_pieces f ts)

  plain_finish : (f : ℕ) (ws : List Tree) → finish false None false f ws ≡ node f ws
  plain_finish f [] = refl
  plain_finish f (variable i s ∷ []) = refl
  plain_finish f (numeral n ∷ []) = refl
  plain_finish f (apply g ts ∷ []) = refl
  plain_finish f (w ∷ w' ∷ ws) = refl

  -- the normal form of the successor over a list has no plain top
  successor_top : (f : ℕ) → (th f).succ ≡ true → (ws : List Tree) → HasPlainTop th (finish false None true f ws) → ⊥
  successor_top f e [] top = let no = top.1 in cc
  successor_top f e (variable i s ∷ []) top = let no = top.1 in cc
  successor_top f e (apply g ts ∷ []) top = let no = top.1 in cc
  successor_top f e (numeral n ∷ []) top = by (nat_lt n greatest_numeral) top
    where
      by : (b : Bool) → HasPlainTop th (if b then numeral (n + 1) else node f (numeral n ∷ [])) → ⊥
      by true h = h
      by false h = let no = h.1 in cc
  successor_top f e (w ∷ w' ∷ ws) top = let no = top.1 in cc

  module _ (g : Variable → Tree) where
    abbrev v : Tree
    v = norm th (g x)

    mutual
      -- a value is no deeper than the instance
      value_depth : (p : Tree) → Occurs x p → depth v ≤ depth (norm th (instance g p))
      value_depth (variable i s) o = let k : depth v ≡ depth (norm th (g (i, s))) = ap (λ y. depth (norm th (g y))) o in omega arith
      value_depth (numeral n) o = absurd o
      value_depth (apply f ps) o = let one = values_depth ps o in let k = one.2 in omega (arith, built_depth th f (norms th (instances g ps)) (norms_normal th lawful (instances g ps)) one.0 one.1)

      values_depth : (ps : Trees) → OccursIn x ps → (z : Tree) × IsIn z (norms th (instances g ps)) × (depth v ≤ depth z)
      values_depth no_trees o = absurd o
      values_depth (tree p ps) (inl o) = (norm th (instance g p), inl refl, value_depth p o)
      values_depth (tree p ps) (inr o) = let one = values_depth ps o in (one.0, inr one.1, one.2)

    -- an operator without axioms stays the top
    plain_deeper : (f : ℕ) (ys : List Tree) (z : Tree) → IsIn z ys → depth v ≤ depth z → (c : Bool) → depth v < depth (made false c None false f ys)
    plain_deeper f ys z h low c =
        let e : made false c None false f ys ≡ node f (arrange c ys) = ap (λ l. finish false None false f (arrange c l)) (free_pieces f ys) ∙ plain_finish f (arrange c ys) in
        omega (arith, low, ap depth e, depth-node f (arrange c ys), among_depth z (arrange c ys) (in_arrange c z ys h))

    -- one pattern among the arguments has the variable, and is less deep where it has a plain top
    abbrev OneDeeper : Trees → Type 0
    OneDeeper ps = (z : Tree) × IsIn z (norms th ps) × Occurs x z × (y : Tree) × IsIn y (norms th (instances g ps)) × (HasPlainTop th z → depth v < depth y)

    -- where all but one of the lists are empty, the normal form is that of an argument
    lone_deeper : (f : ℕ) (a : Bool) (id : Option Identity) → (th f).assoc ≡ a → (zs : List Tree) → Each (IsNormal th) zs → (z : Tree) → IsIn z zs → Occurs x z → (w : Tree)
        → AllIn (pieces a id f z) (w ∷ []) → length (pieces a id f z) ≤ 1 → (th f).id ≡ id → z ≡ w
    lone_deeper f a id ea zs normal z among o w within short eid = by (split a id f z)
      where
        never : (ts : List Tree) (s : Bool) → z ≡ node f ts → AllIn ts (w ∷ []) → length ts ≤ 1 → finish true id s f ts ≡ node f ts → z ≡ w
        never [] s e h l long = absurd (subst (Occurs x) e o)
        never (t ∷ []) s e h l long = absurd (deep id long)
          where
            deep : (u : Option Identity) → finish true u s f (t ∷ []) ≡ node f (t ∷ []) → ⊥
            deep None k = let d : depth t ≡ depth (node f (t ∷ [])) = ap depth k in omega (arith, d, depth-node f (t ∷ []))
            deep (Some i) k = let d : depth t ≡ depth (node f (t ∷ [])) = ap depth k in omega (arith, d, depth-node f (t ∷ []))
        never (t ∷ t' ∷ ts) s e h l long = absurd (omega arith)

        by : Split a id f z → z ≡ w
        by (unit i u k p) = absurd (unit_has_none x i (subst (Occurs x) k o))
        by (one p) = ⊎_elim (λ (e : z ≡ w). e) (λ h. absurd h) (subst (λ l. AllIn l (w ∷ [])) p within).0
        by (many ts b k p) =
            let m : IsNormal th (apply f ts) = subst (IsNormal th) k (each_at (IsNormal th) z zs normal among) in
            let long : finish true id (th f).succ f (list_of ts) ≡ node f (list_of ts) = subst (λ c. finish c id (th f).succ f (list_of ts) ≡ node f (list_of ts)) (ea ∙ b) (subst (λ u. finish (th f).assoc u (th f).succ f (list_of ts) ≡ node f (list_of ts)) eid m.1.long) in
            never (list_of ts) (th f).succ (k ∙ ap (apply f) (sym (trees_of-list_of ts))) (subst (λ l. AllIn l (w ∷ [])) p within) (omega (arith, short, ap length p)) long

    module _ (f : ℕ) (ps : Trees) (found : OneDeeper ps) where
      zs : List Tree
      zs = norms th ps

      ys : List Tree
      ys = norms th (instances g ps)

      abbrev Deeper : Type 0
      Deeper = depth v < depth (norm th (instance g (apply f ps)))

      -- the pieces of the argument with the variable are the one that is left
      lone_found : (a : Bool) (id : Option Identity) → (th f).assoc ≡ a → (th f).id ≡ id → (y : Tree) → arrange (th f).comm (all_pieces a id f (norms th ps)) ≡ y ∷ [] → HasPlainTop th y → Deeper
      lone_found a id ea eid y e top =
          let all = all_pieces a id f (norms th ps) in
          let within : AllIn (pieces a id f found.0) (y ∷ []) = subst (λ l. AllIn (pieces a id f found.0) l) e (AllIn-arrange (th f).comm (pieces a id f found.0) all (pieces_within a id f found.0 (norms th ps) found.1)) in
          let short : length (pieces a id f found.0) ≤ 1 = omega (arith, length_within a id f found.0 (norms th ps) found.1, length-arrange (th f).comm all, ap length e) in
          let same : found.0 ≡ y = lone_deeper f a id ea (norms th ps) (norms_normal th lawful ps) found.0 found.1 found.2 y within short eid in
          let less = found.5 (subst (HasPlainTop th) (sym same) top) in
          omega (arith, less, built_depth th f (norms th (instances g ps)) (norms_normal th lawful (instances g ps)) found.3 found.4)

      -- an associative operator, or one with an identity, stays no plain top
      rest_deeper : (a : Bool) (id : Option Identity) → (th f).assoc ≡ a → (th f).id ≡ id → ((a ≡ true) ⊎ ((i : Identity) × (id ≡ Some i))) → (ws : List Tree) → arrange (th f).comm (all_pieces a id f (norms th ps)) ≡ ws
          → HasPlainTop th (finish a id (th f).succ f ws) → Occurs x (finish a id (th f).succ f ws) → Deeper
      rest_deeper a None ea eid is [] e top o = absurd o
      rest_deeper a (Some i) ea eid is [] e top o = absurd (unit_has_none x i o)
      rest_deeper true None ea eid is (y ∷ []) e top o = lone_found true None ea eid y e top
      rest_deeper true (Some i) ea eid is (y ∷ []) e top o = lone_found true (Some i) ea eid y e top
      rest_deeper false (Some i) ea eid is (y ∷ []) e top o = lone_found false (Some i) ea eid y e top
      rest_deeper false None ea eid (inl h) (y ∷ []) e top o = absurd (cc)
      rest_deeper false None ea eid (inr h) (y ∷ []) e top o = let k = h.1 in absurd (cc)
      rest_deeper true None ea eid is (y ∷ y' ∷ ws) e top o = let no = top.0 in absurd (cc)
      rest_deeper true (Some i) ea eid is (y ∷ y' ∷ ws) e top o = let no = top.0 in absurd (cc)
      rest_deeper false (Some i) ea eid is (y ∷ y' ∷ ws) e top o = let no = top.2 in absurd (cc)
      rest_deeper false None ea eid (inl h) (y ∷ y' ∷ ws) e top o = absurd (cc)
      rest_deeper false None ea eid (inr h) (y ∷ y' ∷ ws) e top o = let k = h.1 in absurd (cc)

      deeper_by : (a : Bool) (id : Option Identity) (s : Bool) → (th f).assoc ≡ a → (th f).id ≡ id → (th f).succ ≡ s → ((z : Tree) × IsIn z (norms th (instances g ps)) × (depth v ≤ depth z))
          → HasPlainTop th (made a (th f).comm id s f (norms th ps)) → Occurs x (made a (th f).comm id (th f).succ f (norms th ps)) → HasPlainTop th (made a (th f).comm id (th f).succ f (norms th ps)) → Deeper
      deeper_by false None false ea eid es low top o again =
          let one = plain_deeper f (norms th (instances g ps)) low.0 low.1 low.2 (th f).comm in
          let two = subst (λ b. depth v < depth (made b (th f).comm None false f (norms th (instances g ps)))) (sym ea) one in
          let three = subst (λ i. depth v < depth (made (th f).assoc (th f).comm i false f (norms th (instances g ps)))) (sym eid) two in
          subst (λ b. depth v < depth (made (th f).assoc (th f).comm (th f).id b f (norms th (instances g ps)))) (sym es) three
      deeper_by false None true ea eid es low top o again = absurd (successor_top f es (arrange (th f).comm (all_pieces false None f (norms th ps))) top)
      deeper_by true id s ea eid es low top o again = rest_deeper true id ea eid (inl refl) (arrange (th f).comm (all_pieces true id f (norms th ps))) refl again o
      deeper_by false (Some i) s ea eid es low top o again = rest_deeper false (Some i) ea eid (inr (i, refl)) (arrange (th f).comm (all_pieces false (Some i) f (norms th ps))) refl again o

    mutual
      pub deeper : (p : Tree) → HasPlainTop th (norm th p) → Occurs x p → depth v < depth (norm th (instance g p))
      deeper (variable i s) top o = absurd top
      deeper (numeral n) top o = absurd top
      deeper (apply f ps) top o =
          deeper_by f ps (ones_deeper ps o) (th f).assoc (th f).id (th f).succ refl refl refl (values_depth ps o) top (norm_occurs (apply f ps) o) top

      ones_deeper : (ps : Trees) → OccursIn x ps → OneDeeper ps
      ones_deeper no_trees o = absurd o
      ones_deeper (tree p ps) (inl o) = (norm th p, inl refl, norm_occurs p o, norm th (instance g p), inl refl, λ top. deeper p top o)
      ones_deeper (tree p ps) (inr o) = let rest = ones_deeper ps o in (rest.0, inr rest.1, rest.2, rest.3, inr rest.4, rest.5)
