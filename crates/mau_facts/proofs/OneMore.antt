-- How far the lines of sections are read, one line after another.
use Rattle.std.proofs.Common.{◌≡◌, ◌≢◌, ℕ, List, [], ◌∷◌, ◌++◌, All, Ok, false, refl, sym, ap, ◌∙◌, append_assoc}
use Rattle.std.proofs.lemmas.List.{append-nil}
use Rattle.std.proofs.lemmas.List.Concat.{flat_map-append}
use Rattle.std.proofs.lemmas.List.Elements.{All-push}
use Rattle.mau_facts.specs.declared.entry.Entry.{Entry}
use Rattle.mau_facts.specs.Lines.{Front}
use Rattle.mau_facts.specs.Documents.{words, joined}
use Rattle.mau_facts.specs.FactReading.{entry_at}
use Rattle.mau_facts.specs.Fronts.{limits_at, place_of, added, step, run, start, IsReadTo}
use Rattle.mau_facts.proofs.FieldsAgain.{then_ok}
use Rattle.mau_facts.proofs.Runs.{run_append}
use Rattle.mau_facts.proofs.Feeds.{IsOne}

-- one line more is read
module _ (bytes rest line after : List ℕ) (front : Front) (read : IsReadTo bytes rest front) (split : rest ≡ line ++ 10 ∷ after) (one : IsOne line) where
  pub read_more : (e : Entry) → entry_at (limits_at false front.begun) (place_of front.begun) (words line) ≡ Ok e → IsReadTo bytes after (added front e)
  unfolding step
  read_more e r = record {
    lines = read.lines ++ line ∷ [];
    split =
        read.split ∙ ap (λ x. joined read.lines ++ x) (split ∙ sym (append_assoc line (10 ∷ []) after))
        ∙ sym (append_assoc (joined read.lines) (line ++ 10 ∷ []) after)
        ∙ ap (λ x. x ++ after) (sym (flat_map-append (λ b. b ++ 10 ∷ []) read.lines (line ∷ []) ∙ ap (λ x. joined read.lines ++ x) (append-nil (line ++ 10 ∷ []))));
    one_lines = All-push (All (λ b. b ≢ 10)) read.lines line read.one_lines one;
    ran = run_append start front read.lines (line ∷ []) read.ran ∙ then_ok (λ g. run g []) (then_ok (λ d. Ok (added front d)) r refl) refl;
  }
