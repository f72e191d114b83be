-- The first sort of a kind, one sort after another.
use Rattle.std.proofs.Common.{◌≡◌, ℕ, ◌+◌, ◌<◌, ◌==◌, List, [], ◌∷◌, ◌++◌, Bool, true, false, cond, Some, Option, length, get_or, take, refl, sym, ap, ◌∙◌, arith}
use Rattle.std.proofs.lemmas.List.{take_more}
use Rattle.mau_grammar.specs.declared.sorts.SortName.{SortName}
use Rattle.mau_print.specs.Layouts.{first_name}
use Rattle.mau_print.specs.FirstSorts.{or_name, AreFirstNames}

push_by : (b : Bool) (w : List ℕ) (x y : Option (List ℕ)) (c : Bool) (v : List ℕ) → x ≡ or_name y c v → cond b (Some w) x ≡ or_name (cond b (Some w) y) c v
push_by true w x y c v e = refl
push_by false w x y c v e = e

pub first_name-push : (ns : List SortName) (n : SortName) (k : ℕ) → first_name (ns ++ n ∷ []) k ≡ or_name (first_name ns k) (n.kind == k) n.name
first_name-push [] n k = refl
first_name-push (m ∷ ns) n k = push_by (m.kind == k) m.name _ (first_name ns k) (n.kind == k) n.name (first_name-push ns n k)

-- one sort more is noted
pub noted-more : (ns : List SortName) (i : ℕ) (n : SortName) (first kinds : ℕ) (old new : List (Option (List ℕ))) → i < length ns → n ≡ get_or ns i n → AreFirstNames (take i ns) first kinds old → length new ≡ length old
    → ((k : ℕ) (d : Option (List ℕ)) → k < length old → get_or new k d ≡ or_name (get_or old k d) (n.kind == first + k) n.name) → AreFirstNames (take (i + 1) ns) first kinds new
noted-more ns i n first kinds old new below at are same each = record {
  len = same ∙ are.len;
  each = λ k d h.
      each k d (omega (arith, h, same))
      ∙ ap (λ o. or_name o (n.kind == first + k) n.name) (are.each k d (omega (arith, h, same)))
      ∙ sym (first_name-push (take i ns) n (first + k))
      ∙ ap (λ ms. first_name ms (first + k)) (sym (take_more ns i n below ∙ ap (λ m. take i ns ++ m ∷ []) (sym at)));
}
