-- How many words a call has, by its first words.
use Rattle.std.proofs.Common.{◌≡◌, ◌<◌, ◌≤◌, ℕ, suc, Ok, Err, sym, subst, ◌+◌, ◌-◌, take_all, List, [], ◌∷◌, Bool, true, false, ◌&&◌, length, take, drop, map, refl, ap, ◌∙◌, arith}
use Rattle.std.specs.Prelude.{codes, if◌then◌else◌}
use Rattle.mau_tokens.specs.declared.token.Token.{Token}
use Rattle.mau_tokens.specs.Laws.{text_of}
use Rattle.mau_modtext.specs.Word.{Word}
use Rattle.mau_modtext.specs.Words.{words_of, is_word}
use Rattle.mau_declare.specs.Words.{text_at, place_at, first_index, is_word as reads}
use Rattle.mau_statement.specs.Parts.{Pairs, part_words, is_empty}
use Rattle.mau_strattext.proofs.Cuts.{same_words}
use Rattle.mau_shapes.specs.Words.{beginning}
use Rattle.mau_terms.specs.Tree.{Tree}
use Rattle.mau_program.specs.Trees.{call}
use Rattle.mau_program.specs.declared.definitions.StratDecl.{StratDecl}
use Rattle.mau_statement.specs.Context.{ContextOf}
use Rattle.mau_strattext.specs.Setting.{setting_of}
use Rattle.mau_strattext.specs.Strategies.{StrategyRead}
use Rattle.mau_strattext.specs.declared.fault.StratFault.TheVariants.{Unexpected}
use Rattle.mau_definition.specs.Calls.{is_name, pair_size, call_size, call_tokens, CallRead, words_behind, call_reads}

-- a name, and `(` behind it
pub pair_behind : (bs : List ℕ) (ts : List Token) → 1 < length ts → is_name (beginning (text_at (words_of bs ts) 0)) ≡ true → reads (words_of bs ts) (codes "(") 1 ≡ true
    → call_size (words_of bs ts) ≡ suc (pair_size (words_of bs (drop 1 ts)))
pair_behind bs [] l n e = absurd (omega arith)
pair_behind bs (t ∷ []) l n e = absurd (omega arith)
pair_behind bs (t ∷ u ∷ ts) l n e =
    let ws = words_of bs (t ∷ u ∷ ts) in
    ap (λ a. if a && reads ws (codes "(") 1 then suc (pair_size (words_of bs (u ∷ ts))) else 1) n
    ∙ ap (λ b. if b then suc (pair_size (words_of bs (u ∷ ts))) else 1) e

pub no_pair : (bs : List ℕ) (ts : List Token) → is_name (beginning (text_at (words_of bs ts) 0)) && reads (words_of bs ts) (codes "(") 1 ≡ false → call_size (words_of bs ts) ≡ 1
no_pair bs [] e = refl
no_pair bs (t ∷ []) e = refl
no_pair bs (t ∷ u ∷ ts) e = ap (λ b. if b then suc (pair_size (words_of bs (u ∷ ts))) else 1) e

pub one_word : (bs : List ℕ) (ts : List Token) → length ts < 2 → call_size (words_of bs ts) ≡ 1
one_word bs [] l = refl
one_word bs (t ∷ []) l = refl
one_word bs (t ∷ u ∷ ts) l = absurd (omega arith)

-- all behind the first
pub rest_of : (ts : List Token) → take (length ts - 1) (drop 1 ts) ≡ drop 1 ts
rest_of [] = refl
rest_of (t ∷ ts) = take_all (length (t ∷ ts) - 1) ts (omega arith)

-- the words of the tokens of a part
pub part_same : (ws : List Word) (ts us : List Token) (bs : List ℕ) (i : ℕ) → i ≡ first_index ws ts → us ≡ map (λ w. w.token) (take (length ts) (drop i ws))
    → map (text_of bs) us ≡ map (λ w. w.text) (take (length ts) (drop i ws)) → words_of bs us ≡ part_words ws ts
part_same ws ts us bs i e t x = same_words bs us (take (length ts) (drop i ws)) t x ∙ ap (λ n. take (length ts) (drop n ws)) e

-- a call, and the word behind it; or no word
module _ (ws : List Word) (x : ContextOf) (names : List StratDecl) (ts : List Token) (ns os ms : Pairs) (f : List ℕ) (bs : List Tree) (n : ℕ)
    (there : is_empty ws (call_tokens ws ts) ≡ false) (read : StrategyRead (setting_of ws (call_tokens ws ts) x [] names) ns ms (Ok (call f bs))) (size : n ≡ call_size (part_words ws ts)) where
  pub behind_call : (at : ℕ) → (n < length (part_words ws ts)) × (at ≡ place_at (part_words ws ts) n) → CallRead ws x names ts ns os (Err (Unexpected at))
  behind_call at h =
      subst (λ k. CallRead ws x names ts ns os (Err (Unexpected k))) (sym (h.1 ∙ ap (place_at (part_words ws ts)) size))
      (words_behind ms f bs there read (subst (λ k. k < length (part_words ws ts)) size h.0))

  pub whole_call : length (part_words ws ts) ≤ n → CallRead ws x names ts ns ms (Ok (record { name = f; args = bs }))
  whole_call l = call_reads f bs there read (subst (λ k. length (part_words ws ts) ≤ k) size l)
