use Rattle.std.proofs.Common.{◌≡◌, ◌∷◌, ◌&&◌, ◌-◌, [], true, if◌then◌else◌, refl, sym, ap, ap₂, ◌∙◌, subst, lit≤, lt-ltb}
use Rattle.std.proofs.lemmas.Option.{slice_get_within}
use Rattle.mau_terms.specs.Tree.{numeral}
use Rattle.mau_terms.specs.Norm.{norm}
use Rattle.mau_signature.specs.Signature.{theory_at}
use Rattle.mau_store.specs.Trees.{tree_at}
use Rattle.mau_canon.specs.Within.{IsWithin}
use Rattle.mau_domains.specs.Stored.{AddsTerms}
use Rattle.mau_domains.proofs.Adding.{adds_one_term}
use Rattle.mau_free.specs.Arguments.{one_before}
use Rattle.mau_free.proofs.taken.push_before.Goals as goal

pub returns-in_ok-push-in-Num-clause-ok : goal.returns-in_ok-push-in-Num-clause-ok
returns-in_ok-push-in-Num-clause-ok c =
    let s = c.args.sig.now in
    let th = theory_at s in
    let f = c.args.op.0 in
    let old = c.args.store.now in
    let new = c.intern.new.self in
    let n = c.in-Num.n in
    let before = c.in_ok-before-in-Num.before in
    let succ : (th f).succ ≡ true = ap (λ w. w.succ) (sym c.theory.ensures.value) ∙ c.if-succ.true in
    let all : one_before (th f).succ (tree_at old c.args.term.0) ≡ numeral (n - 1) ∷ [] =
    ap (one_before (th f).succ) c.in-Num.ensures.tree ∙ ap₂ (λ d e. if d && e then numeral (n - 1) ∷ [] else []) succ (lt-ltb 0 n c.if-n-gt0.true) in
    let k : tree_at new before.0 ≡ numeral (n - 1) = c.in_ok-before-in-Num.ensures.tree in
    subst (AddsTerms s old new c.args.values.now.items c.push.new.self.items) (sym all)
    (adds_one_term s old new c.args.values.now.items c.push.new.self.items before (numeral (n - 1)) c.intern.ensures.extends c.requires.values
    (record {
      there = slice_get_within new before.0 _ c.in_ok-before-in-Num.ensures.ok;
      normal = ap (norm th) k ∙ sym k;
      within = subst (IsWithin th) (sym k) (record { shallow = lit≤ tt; no_overflow = refl });
    }) c.in_ok-push-in-Num.ensures.items k)
