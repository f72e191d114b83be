use Rattle.std.proofs.Common.{◌≡◌, ◌+◌, ◌-◌, ℕ, [], ◌∷◌, inl, ⊎_elim, refl, sym, ap, ◌∙◌, subst, arith, lit≤}
use Rattle.std.proofs.lemmas.List.Elements.{All-nil, All-cons}
use Rattle.std.proofs.lemmas.Option.{slice_get_within}
use Rattle.mau_terms.specs.Tree.{Tree, numeral, node}
use Rattle.mau_terms.specs.Norm.{norm}
use Rattle.mau_terms.specs.Finite.{IsIn, arguments_of}
use Rattle.mau_terms.proofs.Pieces.{list_of-trees_of}
use Rattle.mau_signature.specs.Signature.{theory_at}
use Rattle.mau_store.specs.Trees.{tree_at, trees_at}
use Rattle.mau_store.specs.View.{numbers}
use Rattle.mau_store.proofs.Growth.{extension_is_preorder}
use Rattle.mau_canon.specs.Within.{IsWithin}
use Rattle.mau_canon.specs.Standing.{StandsWithin}
use Rattle.mau_canon.proofs.Standing.{arguments_stand_within}
use Rattle.mau_plain.specs.Parts.{IsBelowOrLess}
use Rattle.mau_plain.proofs.Gathering.{gathers_more, gathers_then}
use Rattle.mau_plain.proofs.parts.push_below.Goals as goal

less_is : (n m : ℕ) (t : Tree) → numeral n ≡ numeral (m + 1) → t ≡ numeral m → t ≡ numeral (n - 1)
less_is n m t e k = let same : n ≡ m + 1 = cc in k ∙ ap numeral (let d : m ≡ n - 1 = omega arith in d)

pub returns-in_ok-push-in-Num-clause-ok : goal.returns-in_ok-push-in-Num-clause-ok
returns-in_ok-push-in-Num-clause-ok c =
    let th = theory_at c.args.sig.now in
    let new = c.intern.new.self in
    let less = c.in_ok-less-in-Num.less in
    let e : tree_at c.args.store.now c.args.id.0 ≡ numeral c.in-Num.n = c.in-Num.ensures.tree in
    let k : tree_at new less.0 ≡ numeral (c.in-Num.n - 1) = c.in_ok-less-in-Num.ensures.tree in
    gathers_then th c.args.store.now new c.args.out.now.items c.push.new.self.items (λ t. IsIn t (trees_at new (numbers (less ∷ [])))) (IsBelowOrLess (tree_at c.args.store.now c.args.id.0))
    (λ t q. ⊎_elim
    (λ (h : IsIn t (arguments_of (tree_at c.args.store.now c.args.id.0))). absurd (subst (λ u. IsIn t (arguments_of u)) e h))
    (λ (h : (n : ℕ) × (tree_at c.args.store.now c.args.id.0 ≡ numeral (n + 1)) × (t ≡ numeral n)). inl (less_is c.in-Num.n h.0 t (sym e ∙ h.1) h.2 ∙ sym k))
    q)
    (gathers_more th c.args.store.now new c.args.out.now.items (less ∷ []) c.push.new.self.items c.intern.ensures.extends c.requires.out
    (All-cons (StandsWithin th new) less.0 [] (record {
      there = slice_get_within new less.0 _ c.in_ok-less-in-Num.ensures.ok;
      normal = ap (norm th) k ∙ sym k;
      within = subst (IsWithin th) (sym k) (record { shallow = lit≤ tt; no_overflow = refl });
    }) (All-nil (StandsWithin th new))) c.in_ok-push-in-Num.ensures.items)

pub returns-in_ok-extend_from_slice-in-App-clause-ok : goal.returns-in_ok-extend_from_slice-in-App-clause-ok
returns-in_ok-extend_from_slice-in-App-clause-ok c =
    let th = theory_at c.args.sig.now in
    let nodes = c.args.store.now in
    let args = c.in-App.args.now in
    let ts = trees_at nodes (numbers args) in
    let e : tree_at nodes c.args.id.0 ≡ node c.in-App.field-0.0 ts = c.in-App.ensures.tree in
    gathers_then th nodes nodes c.args.out.now.items c.extend_from_slice.new.self.items (λ t. IsIn t ts) (IsBelowOrLess (tree_at nodes c.args.id.0))
    (λ t q. ⊎_elim
    (λ (h : IsIn t (arguments_of (tree_at nodes c.args.id.0))). subst (IsIn t) (ap arguments_of e ∙ list_of-trees_of ts) h)
    (λ (h : (n : ℕ) × (tree_at nodes c.args.id.0 ≡ numeral (n + 1)) × (t ≡ numeral n)). let no : node c.in-App.field-0.0 ts ≡ numeral (h.0 + 1) = sym e ∙ h.1 in absurd (cc))
    q)
    (gathers_more th nodes nodes c.args.out.now.items args c.extend_from_slice.new.self.items (extension_is_preorder.reflexive nodes) c.requires.out
    (arguments_stand_within th c.requires.lawful.theories nodes c.in-App.ensures.nodes c.args.id.0 _ c.in-App.ensures.node c.requires.term) c.in_ok-extend_from_slice-in-App.ensures.items)
