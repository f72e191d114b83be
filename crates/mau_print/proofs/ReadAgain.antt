-- A text that reads as a term is read as nothing else.
use Rattle.std.proofs.Common.{◌≡◌, ℕ, ◌+◌, ◌≤◌, List, length, Ok, Err, refl, sym, ap, ◌∙◌, subst, arith}
use Rattle.mau_terms.specs.Bare.{EqualModulo}
use Rattle.mau_terms.specs.View.{tree_of}
use Rattle.mau_tokens.specs.declared.token.Token.{Token}
use Rattle.mau_tokens.specs.TokensOf.{Answer, before, TokensFrom, text_ends, passes, takes, too_long, comment_open, string_open}
use Rattle.mau_tokens.proofs.Companion.{computed}
use Rattle.mau_tokens.proofs.SpansLemmas.{utf8_of}
use Rattle.mau_signature.specs.Signature.{terms_over}
use Rattle.mau_grammar.specs.Leaves.{pairs_of}
use Rattle.mau_grammar.specs.Trees.{TreeOf}
use Rattle.mau_parse.specs.Words.{texts_of}
use Rattle.mau_parse.specs.Terms.{pairs_in, added, renamed}
use Rattle.mau_parse.specs.Goal.{lowest, highest}
use Rattle.mau_terms.specs.declared.bare.Bare.{Bare}
use Rattle.mau_parse.specs.Parsed.{IsParsed}
use Rattle.mau_print.specs.Printed.{Pairs}
use Rattle.mau_print.specs.Laws.{TextsReadAsNothingElse}

-- ---- tokens under a greater limit

raised_before : (t : Token) (r : Answer) (ts : List Token) → before t r ≡ Ok ts → (us : List Token) × (r ≡ Ok us)
raised_before t (Ok us) ts e = (us, refl)
raised_before t (Err f) ts e = absurd (cc)

raised : (l m : ℕ) (bs : List ℕ) (i : ℕ) (r : Answer) → l ≤ m → TokensFrom l bs i r → (ts : List Token) → r ≡ Ok ts → TokensFrom m bs i r
raised l m bs i r low (text_ends j e) ts q = text_ends j e
raised l m bs i r low (passes x j e s t p rest) ts q = passes x j e s t p (raised l m bs e s low rest ts q)
raised l m bs i r low (takes x j e s t p fits rest) ts q =
    let inner = raised_before (record { start = j; end = e }) s ts q in
    takes x j e s t p (omega (arith, fits, low)) (raised l m bs e s low rest inner.0 inner.1)
raised l m bs i r low (too_long x j e t p long) ts q = absurd (cc)
raised l m bs i r low (comment_open j o) ts q = absurd (cc)
raised l m bs i r low (string_open j o) ts q = absurd (cc)

-- the tokens are the same, whatever the limits
one_cut : (l m : ℕ) (bs : List ℕ) (ts us : List Token) → TokensFrom l bs 0 (Ok ts) → TokensFrom m bs 0 (Ok us) → ts ≡ us
one_cut l m bs ts us a b =
    let p = computed (l + m) bs (length bs) 0 (Ok ts) (raised l (l + m) bs 0 (Ok ts) (omega arith) a ts refl) (omega arith) in
    let q = computed (l + m) bs (length bs) 0 (Ok us) (raised m (l + m) bs 0 (Ok us) (omega arith) b us refl) (omega arith) in
    let e : ◌≡◌ {A = Answer} (Ok ts) (Ok us) = p ∙ sym q in
    cc

-- ---- the law

pub texts_read_as_nothing_else : TextsReadAsNothingElse
texts_read_as_nothing_else s g ns text k t r ts of goal low high = record { some = λ none. none.none r.tree wide; same = same }
  where
    one : r.tokens ≡ ts
    one = one_cut (length text) 1024 text r.tokens ts r.cut ((utf8_of text (Ok ts) of).1)

    words : texts_of text r.tokens ≡ texts_of text ts
    words = ap (texts_of text) one

    own : TreeOf g (texts_of text ts) k (k + 1) r.tree
    own = subst (λ vs. TreeOf g vs k (k + 1) r.tree) words r.reads

    wide : TreeOf g (texts_of text ts) (lowest g goal) (highest g goal) r.tree
    wide = record {
      kind = own.kind;
      level = own.level;
      from = omega (arith, own.from, low);
      to = omega (arith, own.to, high);
      reads = own.reads;
    }

    same : (new : Pairs) (b : Bare) → IsParsed g (texts_of text ts) goal ns new b → EqualModulo (terms_over s) t (tree_of b) × (new ≡ ns)
    same new b parsed =
        let ws = texts_of text ts in
        let tree : r.tree ≡ parsed.tree = parsed.only.only r.tree wide in
        let known : added ns (pairs_in (pairs_of g ws) parsed.tree) ≡ ns = subst (λ u. added ns (pairs_in (pairs_of g ws) u) ≡ ns) tree (subst (λ vs. added ns (pairs_in (pairs_of g vs) r.tree) ≡ ns) words r.known) in
        let vars : new ≡ ns = parsed.term.vars ∙ known in
        let term : renamed (pairs_of g (texts_of text r.tokens)) ns r.tree ≡ tree_of b =
        ap (λ vs. renamed (pairs_of g vs) ns r.tree) words ∙ ap (renamed (pairs_of g ws) ns) tree ∙ ap (λ ms. renamed (pairs_of g ws) ms parsed.tree) (sym vars) ∙ sym parsed.term.term in
        (subst (EqualModulo (terms_over s) t) term r.equal, vars)
