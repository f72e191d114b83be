use Rattle.std.proofs.Common.{◌≡◌, ◌≤◌, suc, List, [], ◌∷◌, All, Contains, length, get_or, inl, inr, refl, sym, ap, ap₂, ◌∙◌, subst, arith}
use Rattle.std.proofs.lemmas.List.{length-map}
use Rattle.std.proofs.lemmas.List.Elements.{All-nil, All-cons, All-head, All-tail}
use Rattle.mau_terms.specs.Tree.{Tree, node}
use Rattle.mau_terms.specs.Norm.{norm}
use Rattle.mau_terms.specs.Solution.{list_under}
use Rattle.mau_terms.specs.Finite.{IsIn}
use Rattle.mau_terms.specs.declared.ids.TermId.{TermId}
use Rattle.mau_terms.proofs.Normal.{IsNormal}
use Rattle.mau_signature.specs.Signature.{theory_at}
use Rattle.mau_store.specs.Node.{Node}
use Rattle.mau_store.specs.Trees.{tree_at, trees_at}
use Rattle.mau_store.specs.View.{numbers}
use Rattle.mau_canon.proofs.Standing.{stand_among}
use Rattle.mau_listing.proofs.Answered.{normal_is}
use Rattle.mau_plain.specs.Parts.{IsOverOneList, IsWordOf}
use Rattle.mau_plain.proofs.Gathering.{gathers_then}
use Rattle.mau_plain.proofs.Limits.{over_elements}
use Rattle.mau_plain.proofs.parts.push_words.Goals as goal

-- elements of the list of a term have numbers among those of the list
numbers_of : (nodes : List Node) (ids : List TermId) (ts : List Tree) → All (λ u. IsIn u (trees_at nodes (numbers ids))) ts → (l : List TermId) × All (Contains ids) l × (trees_at nodes (numbers l) ≡ ts)
numbers_of nodes ids [] all = ([], All-nil (Contains ids), refl)
numbers_of nodes ids (t ∷ ts) all =
    let rest = numbers_of nodes ids ts (All-tail (λ u. IsIn u (trees_at nodes (numbers ids))) t ts all) in
    let one = at ids (All-head (λ u. IsIn u (trees_at nodes (numbers ids))) t ts all) in
    (one.0 ∷ rest.0, All-cons (Contains ids) one.0 rest.0 one.1 rest.1, ap₂ (λ u us. u ∷ us) one.2 rest.2)
  where
    at : (is : List TermId) → IsIn t (trees_at nodes (numbers is)) → (i : TermId) × Contains is i × (tree_at nodes i.0 ≡ t)
    at [] h = absurd h
    at (i ∷ is) (inl e) = (i, (0, omega arith, refl), sym e)
    at (i ∷ is) (inr h) = let rest = at is h in let lt = rest.1.1 in (rest.0, (suc rest.1.0, omega arith, rest.1.2), rest.2)

pub push_lists-requires-clause-lists : goal.push_lists-requires-clause-lists
push_lists-requires-clause-lists c = λ k d h.
    stand_among (theory_at c.args.sig.now) c.args.store.now (get_or c.deref.result.now k d) c.list_of-items.result.now
    (subst (λ ls. All (All (Contains c.list_of-items.result.now)) ls) (sym c.deref.ensures.value) c.in_ok-lists.ensures.among k d h)
    (c.list_of-items.ensures.within c.requires.term)

pub returns-clause-ok : goal.returns-clause-ok
returns-clause-ok c =
    let th = theory_at c.args.sig.now in
    let f = c.args.op.0 in
    let nodes = c.args.store.now in
    let t = tree_at nodes c.args.id.0 in
    let ids = c.list_of-items.result.now in
    let list : trees_at nodes (numbers ids) ≡ list_under (th f) f t = c.list_of-items.ensures.list in
    let n : IsNormal th t = normal_is th c.requires.lawful.theories t c.requires.term.normal in
    gathers_then th nodes c.push_lists.new.store c.args.out.now.items c.push_lists.new.out.items (IsOverOneList th f nodes c.deref.result.now) (IsWordOf th f t)
    (λ z q.
    let one = numbers_of nodes ids q.0 (subst (λ l. All (λ u. IsIn u l) q.0) (sym list) q.1) in
    let short : length one.0 ≤ length ids = omega (arith, q.2, ap length list, ap length one.2, length-map (numbers ids) (tree_at nodes), length-map ids (λ id. id.0), length-map (numbers one.0) (tree_at nodes), length-map one.0 (λ id. id.0)) in
    let there : Contains c.deref.result.now one.0 = subst (λ ls. Contains ls one.0) (sym c.deref.ensures.value) (c.in_ok-lists.ensures.all one.0 one.1 short) in
    (one.0, there, (q.4 ∙ sym (over_elements th f t n q.0 q.1) ∙ ap (λ us. norm th (node f us)) (sym one.2), q.3)))
    c.in_ok-push_lists.ensures.ok
