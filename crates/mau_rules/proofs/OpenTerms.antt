-- Open terms of a pass, by the nodes of a store.
use Rattle.std.proofs.Common.{◌≡◌, ◌≤◌, ◌<◌, ◌-◌, ◌++◌, ◌∷◌, [], List, ℕ, zero, suc, Some, length, get_or, take, drop, map, slice_get, refl, sym, ap, ap₂, ◌∙◌, subst, arith}
use Rattle.std.proofs.Math.ListN.{set}
use Rattle.std.proofs.lemmas.List.{map-set, length-map, set_split}
use Rattle.std.proofs.lemmas.Option.{slice_get_within}
use Rattle.mau_terms.specs.Tree.{Tree, apply, node, trees_of}
use Rattle.mau_terms.specs.Norm.{norm}
use Rattle.mau_terms.specs.Bare.{IsBareIn, IsLawful}
use Rattle.mau_terms.specs.Reading.{reading}
use Rattle.mau_terms.specs.declared.ids.TermId.{TermId}
use Rattle.mau_terms.proofs.Pieces.{list_of-trees_of}
use Rattle.mau_signature.specs.Signature.{SignatureOf, theory_at, terms_over}
use Rattle.mau_store.specs.Node.{Node, numeral_node, variable_node, operator_node, AreNodes, Extends}
use Rattle.mau_store.specs.Trees.{tree_at, trees_at}
use Rattle.mau_store.specs.View.{numbers}
use Rattle.mau_store.proofs.Standing.{tree_of_node}
use Rattle.mau_api.specs.Terms.{IsTerm}
use Rattle.mau_reduce.specs.Kinds.{IsTermIn, AreUnder}
use Rattle.mau_reduce.proofs.KindsKept.{under_term, under_put, built_in_kind, tree_kept, trees_kept, under_kept, is_term_kept}
use Rattle.mau_rules.specs.declared.frames.Frame.{Frame}
use Rattle.mau_rules.specs.Walk.{Opened, around_last, MayReplace}
use Rattle.mau_rules.specs.Passes.{over, frame_in, IsFrame, IsEntered, IsChain, IsNext}
use Rattle.mau_rules.proofs.Placed.{get_there}
use Rattle.mau_rules.proofs.Paths.{node_kept, argument_in}

-- the operator and the arguments of a node are its own
pub same_operator : (f g : ℕ) (xs ys : List ℕ) → Some (operator_node f xs) ≡ Some (operator_node g ys) → f ≡ g
same_operator f g xs ys e = cc

pub same_arguments : (f g : ℕ) (xs ys : List ℕ) → Some (operator_node f xs) ≡ Some (operator_node g ys) → xs ≡ ys
same_arguments f g xs ys e = cc

abbrev pub frame_of : TermId → List TermId → ℕ → List Node → Opened
frame_of t args n nodes = (over (tree_at nodes t.0) (trees_at nodes (numbers args)), n)

module _ (s : SignatureOf) (nodes : List Node) (are : AreNodes nodes) where
  -- ---- an operator over other arguments

  pub over_node : (i f : ℕ) (ids : List ℕ) → slice_get nodes i ≡ Some (operator_node f ids) → (us : List Tree) → over (tree_at nodes i) us ≡ apply f (trees_of us)
  over_node i f ids at us = ap (λ t. over t us) (tree_of_node nodes are i (operator_node f ids) at)

  -- ---- a term is opened

  pub opened_stands : (i f : ℕ) (ids args : List ℕ) → slice_get nodes i ≡ Some (operator_node f ids) → args ≡ ids → over (tree_at nodes i) (trees_at nodes args) ≡ tree_at nodes i
  opened_stands i f ids args at e =
      over_node i f ids at (trees_at nodes args)
      ∙ (ap (λ (xs : List ℕ). apply f (trees_of (trees_at nodes xs))) e ∙ sym (tree_of_node nodes are i (operator_node f ids) at))

  pub opened_frame : IsLawful (terms_over s) → (x : Frame) (f : ℕ) (ids : List ℕ) → slice_get nodes x.term.0 ≡ Some (operator_node f ids) → numbers x.args.items ≡ ids → IsTerm s nodes x.term.0 → IsFrame s nodes x
  opened_frame lawful x f ids at e term = record {
    term = term;
    under = λ g js h.
        let same : ids ≡ js = same_arguments f g ids js (sym at ∙ h) in
        subst (AreUnder s nodes g) (sym (e ∙ same)) (under_term s lawful nodes are x.term.0 g term.bare.0 js h record { within = term.within; bare = term.bare.1 }).0;
  }

  -- a numeral or a variable
  pub leaf_frame : (x : Frame) (n : Node) → slice_get nodes x.term.0 ≡ Some n → ((f : ℕ) (ids : List ℕ) → n ≡ operator_node f ids → ⊥) → IsTerm s nodes x.term.0 → IsFrame s nodes x
  leaf_frame x n at leaf term = record { term = term; under = λ f ids h. absurd (leaf f ids (same n (operator_node f ids) (sym at ∙ h))) }
    where
      same : (n m : Node) → Some n ≡ Some m → n ≡ m
      same n m e = cc

  -- the argument that comes next is a term
  pub next_term : (x : Frame) → IsFrame s nodes x → (n child : ℕ) → IsNext s nodes x n child → IsTerm s nodes child
  next_term x is n child i =
      let k = argument_in s nodes i.operator (numbers x.args.items) i.place child i.argument (is.under i.operator i.ids i.at) in
      record { within = k.1.within; bare = (k.0, k.1.bare) }

  -- ---- it is built again

  module _ (lawful : IsLawful (terms_over s)) (x : Frame) (is : IsFrame s nodes x) (f : ℕ) (ids : List ℕ) (at : slice_get nodes x.term.0 ≡ Some (operator_node f ids)) where
    pub frame_under : AreUnder s nodes f (numbers x.args.items)
    frame_under = is.under f ids at

    pub frame_tree : (frame_in nodes x).0 ≡ node f (trees_at nodes (numbers x.args.items))
    frame_tree = over_node x.term.0 f ids at (trees_at nodes (numbers x.args.items))

    pub frame_kind : IsTermIn s nodes ((terms_over s).result f) x.term.0
    frame_kind =
        let under = under_term s lawful nodes are x.term.0 f is.term.bare.0 ids at record { within = is.term.within; bare = is.term.bare.1 } in
        record { within = is.term.within; bare = subst (IsBareIn (terms_over s) (reading (theory_at s) (tree_at nodes x.term.0))) (sym under.1) is.term.bare.1 }

    pub frame_bare : IsBareIn (terms_over s) (reading (theory_at s) (norm (theory_at s) (node f (trees_at nodes (numbers x.args.items))))) ((terms_over s).result f)
    frame_bare = built_in_kind s lawful nodes f (numbers x.args.items) frame_under

  -- ---- a term in the place of the argument that was entered last

  module _ (x : Frame) (is : IsFrame s nodes x) (child v : ℕ) (e : IsEntered nodes x child) (may : MayReplace s nodes child v) (args : List TermId) (put : numbers args ≡ set (numbers x.args.items) e.place v) where
    abbrev Put : Frame → Type 0
    Put y = (y.term ≡ x.term) × (y.args.items ≡ args)

    there : e.place < length (numbers x.args.items)
    there = slice_get_within (numbers x.args.items) e.place child e.argument

    is_child : (ids : List ℕ) (i : ℕ) → slice_get ids i ≡ Some child → get_or ids i child ≡ child
    is_child [] i h = cc
    is_child (j ∷ ids) zero h = cc
    is_child (j ∷ ids) (suc i) h = is_child ids i h

    pub put_frame : (y : Frame) → y.term ≡ x.term → y.args.items ≡ args → IsFrame s nodes y
    put_frame y t a = record {
      term = subst (λ (z : TermId). IsTerm s nodes z.0) (sym t) is.term;
      under = λ f ids h.
          let at : slice_get nodes x.term.0 ≡ Some (operator_node f ids) = subst (λ (z : TermId). slice_get nodes z.0 ≡ Some (operator_node f ids)) t h in
          subst (AreUnder s nodes f) (sym (ap numbers a ∙ put))
          (under_put s nodes f may.0 (numbers x.args.items) e.place child v there (subst (IsTermIn s nodes may.0) (sym (is_child (numbers x.args.items) e.place e.argument)) may.1) may.2 (is.under f ids at));
    }

    pub put_stands : (y : Frame) → y.term ≡ x.term → y.args.items ≡ args → (frame_in nodes y).0 ≡ around_last (λ w. w) (frame_in nodes x).0 x.next (tree_at nodes v)
    put_stands y t a =
        let us = trees_at nodes (numbers x.args.items) in
        let f = e.operator in
        ap₂ (λ (z : TermId) (zs : List TermId). over (tree_at nodes z.0) (trees_at nodes (numbers zs))) t a
        ∙ (over_node x.term.0 f e.ids e.at (trees_at nodes (numbers args))
        ∙ (ap (λ (zs : List ℕ). node f (trees_at nodes zs)) put
        ∙ (ap (node f) (map-set (tree_at nodes) (numbers x.args.items) e.place v ∙ set_split us e.place (tree_at nodes v) (omega (arith, there, length-map (numbers x.args.items) (tree_at nodes))))
        ∙ (ap (λ k. node f (take k us ++ tree_at nodes v ∷ drop (suc e.place) us)) (less e.place)
        ∙ (ap (λ ts. node f (take (suc e.place - 1) ts ++ tree_at nodes v ∷ drop (suc e.place) ts)) (sym (list_of-trees_of us))
        ∙ (ap (λ u. around_last (λ w. w) u (suc e.place) (tree_at nodes v)) (sym (over_node x.term.0 f e.ids e.at us))
        ∙ ap (λ n. around_last (λ w. w) (frame_in nodes x).0 n (tree_at nodes v)) (sym e.next)))))))
      where
        less : (n : ℕ) → n ≡ suc n - 1
        less n = omega arith

-- ---- chains

module _ (s : SignatureOf) (nodes : List Node) where
  pub chain_on : (root : ℕ) (xs : List Frame) (x : Frame) (child : ℕ) → IsChain s nodes root xs x.term.0 → IsFrame s nodes x → IsEntered nodes x child → IsChain s nodes root (xs ++ x ∷ []) child
  chain_on root [] x child c f e = (sym c, f, child, e, refl)
  chain_on root (y ∷ ys) x child c f e = (c.0, c.1, c.2, c.3, chain_on c.2 ys x child c.4 f e)

  pub chain_before : (root : ℕ) (xs : List Frame) (x : Frame) (child : ℕ) → IsChain s nodes root (xs ++ x ∷ []) child → IsChain s nodes root xs x.term.0
  chain_before root [] x child c = sym c.0
  chain_before root (y ∷ ys) x child c = (c.0, c.1, c.2, c.3, chain_before c.2 ys x child c.4)

  pub chain_frame : (root : ℕ) (xs : List Frame) (x : Frame) (child : ℕ) → IsChain s nodes root (xs ++ x ∷ []) child → IsFrame s nodes x
  chain_frame root [] x child c = c.1
  chain_frame root (y ∷ ys) x child c = chain_frame c.2 ys x child c.4

  pub chain_step : (root : ℕ) (xs : List Frame) (x : Frame) (child : ℕ) → IsChain s nodes root (xs ++ x ∷ []) child → IsEntered nodes x child
  chain_step root [] x child c = subst (IsEntered nodes x) c.4 c.3
  chain_step root (y ∷ ys) x child c = chain_step c.2 ys x child c.4

  -- the same but for what is behind the pass
  pub frame_again : (x y : Frame) → IsFrame s nodes x → y.term ≡ x.term → y.args.items ≡ x.args.items → IsFrame s nodes y
  frame_again x y is t a = record {
    term = subst (λ (z : TermId). IsTerm s nodes z.0) (sym t) is.term;
    under = λ f ids h. subst (λ (zs : List TermId). AreUnder s nodes f (numbers zs)) (sym a) (is.under f ids (subst (λ (z : TermId). slice_get nodes z.0 ≡ Some (operator_node f ids)) t h));
  }

  -- how many arguments there are
  pub entered_within : (x : Frame) (child : ℕ) → IsEntered nodes x child → (0 < x.next) × (x.next ≤ length x.args.items)
  entered_within x child e =
      let low = slice_get_within (numbers x.args.items) e.place child e.argument in
      let same = length-map x.args.items (λ (z : TermId). z.0) in
      (omega (arith, e.next), omega (arith, e.next, low, same))

  -- the next argument is the one that is entered
  pub entered_next : (x y : Frame) (n child : ℕ) → IsNext s nodes x n child → y.term ≡ x.term → y.args.items ≡ x.args.items → y.next ≡ n → IsEntered nodes y child
  entered_next x y n child i t a m = record {
    operator = i.operator;
    ids = i.ids;
    at = subst (λ (z : TermId). slice_get nodes z.0 ≡ Some (operator_node i.operator i.ids)) (sym t) i.at;
    place = i.place;
    next = m ∙ i.next;
    argument = subst (λ (zs : List TermId). slice_get (numbers zs) i.place ≡ Some child) (sym a) i.argument;
  }

-- ---- in a store that grows

module _ (s : SignatureOf) (old new : List Node) (more : Extends old new) where
  node_before : (i : ℕ) (n : Node) → i < length old → slice_get new i ≡ Some n → slice_get old i ≡ Some n
  node_before i n low h =
      let here = get_there old i low in
      here.1 ∙ (sym (node_kept old new i here.0 more here.1) ∙ h)

  pub frame_kept : (x : Frame) → IsFrame s old x → IsFrame s new x
  frame_kept x is = record {
    term = is_term_kept s old new x.term.0 more is.term;
    under = λ f ids h. under_kept s old new f (numbers x.args.items) more (is.under f ids (node_before x.term.0 (operator_node f ids) is.term.within.there h));
  }

  entered_kept : (x : Frame) (child : ℕ) → IsEntered old x child → IsEntered new x child
  entered_kept x child e = record { operator = e.operator; ids = e.ids; at = node_kept old new x.term.0 (operator_node e.operator e.ids) more e.at; place = e.place; next = e.next; argument = e.argument }

  pub chain_kept : (root : ℕ) (xs : List Frame) (term : ℕ) → IsChain s old root xs term → IsChain s new root xs term
  chain_kept root [] term c = c
  chain_kept root (x ∷ xs) term c = (c.0, frame_kept x c.1, c.2, entered_kept x c.2 c.3, chain_kept c.2 xs term c.4)

  module _ (are : AreNodes old) where
    tree_same : (x : Frame) (n : Node) → slice_get old x.term.0 ≡ Some n → IsFrame s old x → over (tree_at old x.term.0) (trees_at new (numbers x.args.items)) ≡ over (tree_at old x.term.0) (trees_at old (numbers x.args.items))
    tree_same x (numeral_node n) at is =
        let e = tree_of_node old are x.term.0 (numeral_node n) at in
        ap (λ t. over t (trees_at new (numbers x.args.items))) e ∙ sym (ap (λ t. over t (trees_at old (numbers x.args.items))) e)
    tree_same x (variable_node i r) at is =
        let e = tree_of_node old are x.term.0 (variable_node i r) at in
        ap (λ t. over t (trees_at new (numbers x.args.items))) e ∙ sym (ap (λ t. over t (trees_at old (numbers x.args.items))) e)
    tree_same x (operator_node f ids) at is =
        ap (over (tree_at old x.term.0)) (trees_kept (theory_at s) old new (numbers x.args.items) more (is.under f ids at).within)

    pub frame_same : (x : Frame) → IsFrame s old x → frame_in new x ≡ frame_in old x
    frame_same x is =
        let here = get_there old x.term.0 is.term.within.there in
        ap (λ t. (over t (trees_at new (numbers x.args.items)), x.next)) (tree_kept (theory_at s) old new x.term.0 more is.term.within)
        ∙ ap (λ t. (t, x.next)) (tree_same x here.0 here.1 is)

    pub frames_same : (root : ℕ) (xs : List Frame) (term : ℕ) → IsChain s old root xs term → map (frame_in new) xs ≡ map (frame_in old) xs
    frames_same root [] term c = refl
    frames_same root (x ∷ xs) term c = ap₂ (λ (o : Opened) (os : List Opened). o ∷ os) (frame_same x c.1) (frames_same c.2 xs term c.4)
