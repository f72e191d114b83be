-- Lists that are written into buffers.
use Rattle.std.proofs.Common.{◌≡◌, ℕ, List, ◌++◌, length, take, drop, Option, IfSome, sym, ◌∙◌, ap, subst, arith, append-nil}
use Rattle.std.proofs.lemmas.List.{take_all, drop_all}
use Rattle.mau_terms.specs.declared.ids.TermId.{TermId}
use Rattle.mau_lists.specs.Lists.{IsSubList}
use Rattle.mau_lists.specs.Place.{front_of, IsWithin}
use Rattle.mau_lists.specs.Kept.{HoldsRoom}

-- a buffer that was written whole
pub filled : (n : ℕ) (new old : List TermId) → length new ≡ n → length old ≡ n → take n (new ++ drop (length new) old) ≡ new
filled n new old e h =
    ap (λ l. take n (new ++ l)) (drop_all (length new) old (omega (arith, e, h)))
    ∙ ap (take n) (append-nil new)
    ∙ take_all n new (omega (arith, e))

-- what is kept once another list is due
pub holds_room : (items given due new old : List TermId) (n : ℕ) (len : Option ℕ) (o : Option (List TermId)) → length given ≡ length items → length new ≡ length items → length old ≡ n → length new ≡ n → IsWithin len (length items) → front_of len new ≡ o → IfSome o (λ s. IsSubList s items)
    → due ≡ take n (new ++ drop (length new) old) → HoldsRoom items given due len
holds_room items given due new old n len o g h k l w f part e =
    let same : due ≡ new = e ∙ filled n new old l k in
    record {
      given_room = g;
      due_room = ap length same ∙ h;
      within = w;
      part = subst (λ b. IfSome (front_of len b) (λ s. IsSubList s items)) (sym same) (subst (λ o'. IfSome o' (λ s. IsSubList s items)) (sym f) part);
    }

-- what was copied to the front of a buffer that was written whole
pub copied : (n k : ℕ) (buffer new old from : List TermId) → buffer ≡ take n (new ++ drop (length new) old) → length new ≡ n → length old ≡ n → take k new ≡ take k from → take k buffer ≡ take k from
copied n k buffer new old from e h l f = ap (take k) (e ∙ filled n new old h l) ∙ f
