use Rattle.std.proofs.Common.{◌≡◌, ◌+◌, nat_lt, true, ap, ap₂, sym, subst, refl, ◌∙◌, arith}
use Rattle.mau_poset.specs.Order.{kinds}
use Rattle.mau_signature.specs.Signature.{terms_over}
use Rattle.mau_signature.proofs.bare.is_variable.Goals as goal

pub returns : goal.returns
returns c =
    let s = terms_over c.args.sig.now in
    let sort = c.args.sort in
    let count : c.sorts.result + c.kinds.result ≡ c.args.sig.now.hierarchy.sorts + kinds c.args.sig.now.hierarchy =
    ap₂ (λ x y. x + y) (c.sorts.ensures.value ∙ ap (λ p. p.sorts) c.poset.ensures.value) (c.kinds.ensures.value ∙ ap kinds c.poset-2.ensures.value) in (
      λ h. (s.kind_of sort, (omega arith, subst (λ n. nat_lt sort n ≡ true) count h, refl)),
      λ b. subst (λ n. nat_lt sort n ≡ true) (sym count) b.1.1,
    )
