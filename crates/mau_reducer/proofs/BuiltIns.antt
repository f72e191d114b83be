-- What is built in of the operators, one after another.
use Rattle.std.proofs.Common.{◌≡◌, ◌<◌, ◌+◌, ℕ, suc, List, [], ◌∷◌, ◌++◌, length, get_or, slice_index_or, sym, ap, ◌∙◌, subst, arith, below_more, length-append}
use Rattle.std.proofs.lemmas.List.{get_or_append_left, get_or_push}
use Rattle.mau_signature.specs.Signature.{SignatureOf}
use Rattle.mau_formula.specs.Operator.{Operator}
use Rattle.mau_api.specs.BuiltIns.{built_in_at, name_at}
use Rattle.mau_reduce.specs.declared.built_in.BuiltIn.{BuiltIn}
use Rattle.mau_reduce.specs.declared.built_in.BuiltIn.TheVariants.{Nothing}
use Rattle.mau_reduce.specs.BuiltOperators.{meaning_of}
use Rattle.mau_reducer.specs.Basis.{AreBuiltIns}

-- those of the first n operators
pub record AreFirst (s : SignatureOf) (hooks : List Operator) (bs : List BuiltIn) (n : ℕ) : Type 0 where
  pub one_each : length bs ≡ n
  pub built_in : (i : ℕ) → i < n → built_in_at s hooks (suc i) ≡ meaning_of hooks (name_at s (suc i)) (slice_index_or bs i Nothing)

module _ (s : SignatureOf) (hooks : List Operator) where
  pub none_yet : (bs : List BuiltIn) → bs ≡ [] → AreFirst s hooks bs 0
  none_yet bs e = record { one_each = ap length e; built_in = λ i h. absurd (omega (arith, h)) }

  pub one_more : (bs more : List BuiltIn) (n : ℕ) (x : BuiltIn) → more ≡ bs ++ x ∷ [] → built_in_at s hooks (n + 1) ≡ meaning_of hooks (name_at s (n + 1)) x → AreFirst s hooks bs n → AreFirst s hooks more (n + 1)
  one_more bs more n x e is a = record {
    one_each = ap length e ∙ (length-append bs (x ∷ []) ∙ ap (λ m. m + 1) a.one_each);
    built_in = below_more (λ i. built_in_at s hooks (suc i) ≡ meaning_of hooks (name_at s (suc i)) (slice_index_or more i Nothing)) n earlier last;
  }
    where
      earlier : (i : ℕ) → i < n → built_in_at s hooks (suc i) ≡ meaning_of hooks (name_at s (suc i)) (slice_index_or more i Nothing)
      earlier i h =
          let low : i < length bs = omega (arith, h, a.one_each) in
          a.built_in i h ∙ ap (meaning_of hooks (name_at s (suc i))) (sym (ap (λ ys. get_or ys i Nothing) e ∙ get_or_append_left bs (x ∷ []) Nothing i low))

      last : built_in_at s hooks (suc n) ≡ meaning_of hooks (name_at s (suc n)) (slice_index_or more n Nothing)
      last =
          let next : n + 1 ≡ suc n = omega arith in
          subst (λ m. built_in_at s hooks m ≡ meaning_of hooks (name_at s m) x) next is
          ∙ ap (meaning_of hooks (name_at s (suc n))) (sym (ap (λ ys. get_or ys n Nothing) e ∙ get_or_push bs x Nothing n a.one_each))

  pub all_found : (bs : List BuiltIn) (n : ℕ) → n ≡ length s.declarations → AreFirst s hooks bs n → AreBuiltIns s hooks bs
  all_found bs n e a = record { one_each = a.one_each ∙ e; built_in = λ i o. a.built_in i (omega (arith, o.1, e)) }
