-- The sorts that elements declare.
use Rattle.std.specs.Prelude.{ℕ, List, fold}
use Rattle.mau_tokens.specs.declared.token.Token.{Token}
use Rattle.mau_modtext.specs.Word.{Word}
use Rattle.mau_modtext.specs.declared.raw.RawElement.{RawElement}
use Rattle.mau_modtext.specs.declared.raw.RawElement.TheVariants.{Sorts}
use Rattle.mau_declare.specs.Words.{first_text}
use Rattle.mau_declare.specs.Names.{with_name}

-- the names with those of some sorts, each of one token
abbrev pub with_names : List Word → List (List ℕ) → List (List Token) → List (List ℕ)
with_names ws names sorts = fold (λ ns s. with_name ns (first_text ws s)) names sorts

-- the names with those that an element declares
abbrev pub with_sorts : List Word → List (List ℕ) → RawElement → List (List ℕ)
with_sorts ws names (Sorts sorts) = with_names ws names sorts
with_sorts ws names _ = names

-- the names with those that elements declare: a sort that is there already, or is declared twice, is one sort
abbrev pub declared_sorts : List Word → List (List ℕ) → List RawElement → List (List ℕ)
declared_sorts ws names es = fold (with_sorts ws) names es
