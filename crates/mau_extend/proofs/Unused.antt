-- Variables with an unused index are no variables of the question.
use Rattle.std.proofs.Common.{◌≡◌, ◌≢◌, ◌<◌, ◌^◌, ℕ, List, [], ◌∷◌, map, true, false, ◌==◌, ◌&&◌, ◌||◌, All, refl, sym, ap, subst, ne_eqb}
use Rattle.std.proofs.lemmas.List.Elements.{All-nil, All-cons, All-head, All-tail, All-contains}
use Rattle.mau_terms.specs.Tree.{Tree}
use Rattle.mau_terms.specs.Subst.{Variable, same_variable, has_variable, variables}
use Rattle.mau_terms.specs.View.{variable_of}
use Rattle.mau_terms.specs.declared.ids.TermId.{TermId}
use Rattle.mau_terms.specs.declared.ids.VarId.{VarId}
use Rattle.mau_signature.specs.Signature.{SignatureOf, terms_over}
use Rattle.mau_store.specs.Node.{Node}
use Rattle.mau_listing.specs.declared.places.Place.{Place}
use Rattle.mau_listing.specs.Places.{variables_in}
use Rattle.mau_listing.specs.Asked.{Asked, bound_in, question_in}
use Rattle.mau_extend.specs.Widened.{IsFresh}
use Rattle.mau_extend.specs.Extended.{IsUnused}

-- variables with two indexes are two
pub other_index : (x y : VarId) → x.index ≢ y.index → same_variable (variable_of x) (variable_of y) ≡ false
other_index x y n = ap (λ b. b && (x.sort == y.sort)) (ne_eqb x.index y.index n)

free : (ps : List Place) (x : VarId) → All (λ p. p.variable.index ≢ x.index) ps → has_variable (map variable_of (variables_in ps)) (variable_of x) ≡ false
free [] x h = refl
free (p ∷ ps) x h =
    subst (λ b. (b || has_variable (map variable_of (variables_in ps)) (variable_of x)) ≡ false) (sym (other_index p.variable x (All-head (λ (q : Place). q.variable.index ≢ x.index) p ps h)))
    (free ps x (All-tail (λ (q : Place). q.variable.index ≢ x.index) p ps h))

bound_there : (nodes : List Node) (bound : List (VarId × TermId)) (x : VarId) → All (λ b. b.0.index ≢ x.index) bound → All (λ b. same_variable (variable_of x) b.0 ≡ false) (bound_in nodes bound)
bound_there nodes bound x h = go bound h
  where
    go : (bs : List (VarId × TermId)) → All (λ b. b.0.index ≢ x.index) bs → All (λ b. same_variable (variable_of x) b.0 ≡ false) (bound_in nodes bs)
    go [] h = All-nil (λ (b : Variable × Tree). same_variable (variable_of x) b.0 ≡ false)
    go (b ∷ bs) h =
        All-cons (λ (d : Variable × Tree). same_variable (variable_of x) d.0 ≡ false) _ (bound_in nodes bs)
        (other_index x b.0 (λ e. All-head (λ (d : VarId × TermId). d.0.index ≢ x.index) b bs h (sym e)))
        (go bs (All-tail (λ (d : VarId × TermId). d.0.index ≢ x.index) b bs h))

pub unused_is_fresh : (s : SignatureOf) (nodes : List Node) (a : Asked) (ps : List Place) → map variable_of (variables_in ps) ≡ variables a.pattern → (n : ℕ) (x : VarId) → IsUnused ps a.bound x.index → x.index < 2 ^ 32 → (terms_over s).has_sort x.sort ≡ true → (terms_over s).kind_of x.sort ≡ n
    → IsFresh s (question_in nodes a) n (variable_of x)
unused_is_fresh s nodes a ps e n x unused small sort kind = record {
  small = small;
  sort = sort;
  kind = kind;
  free = subst (λ xs. has_variable xs (variable_of x) ≡ false) e (free ps x unused.in_pattern);
  unbound = λ b c. All-contains (λ (d : Variable × Tree). same_variable (variable_of x) d.0 ≡ false) (bound_in nodes a.bound) b (bound_there nodes a.bound x unused.beforehand) c;
}
