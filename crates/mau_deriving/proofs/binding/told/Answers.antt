use Rattle.std.proofs.Common.{◌≡◌, List, [], ◌∷◌, length, map, refl, sym, ap, ◌∙◌, arith}
use Rattle.std.specs.List.{zip}
use Rattle.std.proofs.lemmas.List.{length-map}
use Rattle.mau_terms.specs.View.{variable_of}
use Rattle.mau_terms.specs.declared.ids.VarId.{VarId}
use Rattle.mau_terms.specs.declared.ids.TermId.{TermId}
use Rattle.mau_listing.specs.Places.{variables_in}
use Rattle.mau_deriving.proofs.binding.told.Goals as goal

seconds : (xs : List VarId) (ys : List TermId) → length xs ≡ length ys → map (λ (p : VarId × TermId). p.1) (zip xs ys) ≡ ys
seconds [] [] e = refl
seconds [] (y ∷ ys) e = absurd (omega (arith, e))
seconds (x ∷ xs) [] e = absurd (omega (arith, e))
seconds (x ∷ xs) (y ∷ ys) e = ap (λ zs. y ∷ zs) (seconds xs ys (omega (arith, e)))

named : (xs : List VarId) (ys : List TermId) → length xs ≡ length ys → map (λ b. variable_of b.0) (zip xs ys) ≡ map variable_of xs
named [] ys e = refl
named (x ∷ xs) [] e = absurd (omega (arith, e))
named (x ∷ xs) (y ∷ ys) e = ap (λ zs. variable_of x ∷ zs) (named xs ys (omega (arith, e)))

pub pair_up-requires : goal.pair_up-requires
pair_up-requires c =
    let names = ap (map variable_of) (c.in_ok-variables.ensures ∙ ap variables_in c.deref.ensures.value) ∙ c.in_ok-places.ensures.variables in
    ap length c.deref-2.ensures.value ∙ (sym (length-map c.in_ok-variables.variables.items variable_of) ∙ (ap length names ∙ sym c.requires.one_each))

pub returns : goal.returns
returns c =
    let xs = c.in_ok-variables.variables.items in
    let names = ap (map variable_of) (c.in_ok-variables.ensures ∙ ap variables_in c.deref.ensures.value) ∙ c.in_ok-places.ensures.variables in
    let long : length xs ≡ length c.args.values.now = sym (length-map xs variable_of) ∙ (ap length names ∙ sym c.requires.one_each) in
    let pairs = c.in_ok-told.ensures ∙ ap (λ zs. zip zs c.args.values.now) c.deref-2.ensures.value in
    record {
      variables = ap (map (λ (b : VarId × TermId). variable_of b.0)) pairs ∙ (named xs c.args.values.now long ∙ names);
      values = ap (map (λ (b : VarId × TermId). b.1)) pairs ∙ seconds xs c.args.values.now long;
    }
