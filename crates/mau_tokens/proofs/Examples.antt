-- The definitions at small texts, computed.
use Rattle.std.proofs.Common.{◌≡◌, [], ◌∷◌, true, false, Some, None, Ok, Err, refl, subst, codes, arith, lit<, lit≤}
use Rattle.std.specs.Str.{is_utf8, chars}
use Rattle.std.specs.Str.Lossy.{utf8_valid_len}
use lib.Utf8.{encode}
use Rattle.mau_tokens.specs.declared.token.TokenFault.TheVariants.{NotUtf8, OpenComment, OpenString}
use Rattle.mau_tokens.specs.Lexeme.{line_comment, block_comment, string, word, lexeme_at}
use Rattle.mau_tokens.specs.Ending.{may_end}
use Rattle.mau_tokens.specs.TokensOf.{TokensOf}
use Rattle.mau_tokens.specs.Computed.{first_end, tokens_of}
use Rattle.mau_tokens.specs.Spans.{AreSpans}
use Rattle.mau_tokens.proofs.Answer.{answers_are_computed}
use Rattle.mau_tokens.proofs.SpansLemmas.{tokens_are_spans}

-- what begins at a place

begins_1 : lexeme_at (codes "a ***(b)") 2 ≡ block_comment
begins_1 = refl

begins_2 : lexeme_at (codes "--- b") 0 ≡ line_comment
begins_2 = refl

begins_3 : lexeme_at (codes "`(") 0 ≡ word
begins_3 = refl

begins_4 : lexeme_at (codes "** b") 0 ≡ word
begins_4 = refl

begins_5 : lexeme_at (codes "(\"b\"") 1 ≡ string
begins_5 = refl

-- where it may end

may_end_1 : may_end (codes "`(b c") word 0 1 ≡ false
may_end_1 = refl

may_end_2 : may_end (codes "`(b c") word 0 3 ≡ true
may_end_2 = refl

may_end_3 : may_end (codes "***((a)b)") block_comment 0 7 ≡ false
may_end_3 = refl

may_end_4 : may_end (codes "***((a)b)") block_comment 0 9 ≡ true
may_end_4 = refl

-- its first possible end

first_end_1 : first_end (codes "***((a)b)c") block_comment 0 ≡ Some 9
first_end_1 = refl

first_end_2 : first_end (codes "\"a\\\"b\" c\"") string 0 ≡ Some 6
first_end_2 = refl

first_end_3 : first_end (codes "`(b(c") word 0 ≡ Some 3
first_end_3 = refl

first_end_4 : first_end (codes "***(a") block_comment 0 ≡ None
first_end_4 = refl

-- the tokens of a text, or its first fault

tokens_1 : tokens_of (codes "f(a, b)") ≡ Ok (record { start = 0; end = 1 } ∷ record { start = 1; end = 2 } ∷ record { start = 2; end = 3 } ∷ record { start = 3; end = 4 } ∷ record { start = 5; end = 6 } ∷ record { start = 6; end = 7 } ∷ [])
unfolding is_utf8 chars utf8_valid_len encode
tokens_1 = refl

tokens_2 : tokens_of (codes "a***b `(***(c)\"d\"") ≡ Ok (record { start = 0; end = 5 } ∷ record { start = 6; end = 11 } ∷ record { start = 11; end = 12 } ∷ record { start = 12; end = 13 } ∷ record { start = 13; end = 14 } ∷ record { start = 14; end = 17 } ∷ [])
unfolding is_utf8 chars utf8_valid_len encode
tokens_2 = refl

tokens_3 : tokens_of (codes " --- \"") ≡ Ok []
unfolding is_utf8 chars utf8_valid_len encode
tokens_3 = refl

tokens_4 : tokens_of (codes "a ***(b \"") ≡ Err (OpenComment 2)
unfolding is_utf8 chars utf8_valid_len encode
tokens_4 = refl

tokens_5 : tokens_of (codes "a \"b\\\"") ≡ Err (OpenString 2)
unfolding is_utf8 chars utf8_valid_len encode
tokens_5 = refl

tokens_6 : tokens_of (97 ∷ 34 ∷ 255 ∷ []) ≡ Err (NotUtf8 2)
unfolding is_utf8 chars utf8_valid_len encode
tokens_6 = refl

tokens_7 : tokens_of (codes "a b") ≡ Ok (record { start = 0; end = 1 } ∷ record { start = 2; end = 3 } ∷ [])
unfolding is_utf8 chars utf8_valid_len encode
tokens_7 = refl

-- and so by the definition

of_1 : TokensOf (codes " --- \"") (Ok [])
of_1 = subst (TokensOf (codes " --- \"")) tokens_3 (answers_are_computed (codes " --- \""))

of_2 : TokensOf (codes "a ***(b \"") (Err (OpenComment 2))
of_2 = subst (TokensOf (codes "a ***(b \"")) tokens_4 (answers_are_computed (codes "a ***(b \""))

of_3 : TokensOf (97 ∷ 34 ∷ 255 ∷ []) (Err (NotUtf8 2))
of_3 = subst (TokensOf (97 ∷ 34 ∷ 255 ∷ [])) tokens_6 (answers_are_computed (97 ∷ 34 ∷ 255 ∷ []))

-- spans of a text

spans_1 : AreSpans (codes "a b") (record { start = 0; end = 1 } ∷ record { start = 2; end = 3 } ∷ [])
spans_1 = (tokens_are_spans (codes "a b") _ (subst (TokensOf (codes "a b")) tokens_7 (answers_are_computed (codes "a b")))).0

spans_2 : AreSpans (codes "a b") (record { start = 0; end = 2 } ∷ record { start = 1; end = 3 } ∷ []) → ⊥
spans_2 spans = absurd (omega (arith, spans.ascending 0 1 (record { start = 0; end = 0 }) (lit< tt) (lit< tt)))

spans_3 : AreSpans (codes "a b") (record { start = 1; end = 1 } ∷ []) → ⊥
spans_3 spans = absurd (omega (arith, spans.not_empty 0 (record { start = 0; end = 0 }) (lit< tt)))

spans_4 : AreSpans (195 ∷ 169 ∷ []) (record { start = 0; end = 1 } ∷ []) → ⊥
spans_4 spans = absurd (omega (arith, (spans.ends 0 (record { start = 0; end = 0 }) (lit< tt)).1 (lit< tt) (lit≤ tt)))
