-- The shapes of strategies: a strategy with its parentheses, the words of its terms left as words. A shape has one text.
use Rattle.std.specs.Prelude.{◌≡◌, ◌⊎◌, ℕ, ◌-◌, ◌≤◌, List, [], ◌∷◌, ◌++◌, Bool, true, false, ◌&&◌, ◌||◌, if◌then◌else◌, codes, nat_eq, Option, Some, None, All}
use Rattle.mau_shapes.specs.Words.{Word, Words, Beginning, of_all, of_test, of_top, of_wrapper, of_name, beginning, names, stands_alone, Role, mark, joint, role, closes, behind, ends_test, ends_fragment, ends_variable, ends_term}

-- a condition: `s.t.` or `such that`, and its fragments
abbrev pub SuchThat : Type 0
SuchThat = Words × List Words

-- X <- t
abbrev pub Use : Type 0
Use = Words × Words

-- parentheses are a part of the shape, and leave no trace in its strategy
pub data Shape : Type 0 where
  plain : Word → Shape  -- idle, fail, all, a label or a name
  assigned : Word → List Use → Shape  -- label[X <- t, Y <- u]
  called : Word → List Words → Shape  -- name(t, u)
  wrapped : Word → Shape → Shape  -- top(A), not(E), try(E), test(E)
  within : Shape → Shape  -- ( E )
  tested : Word → Words → Option SuchThat → Shape  -- match P s.t. C
  marked : Shape → Word → Shape  -- E *, E +, E !
  joined : Word → Shape → Shape → Shape  -- E ; F, E | F, E or-else F
  chosen : Shape → Shape → Shape → Shape  -- E ? F : G

-- ---- the text of a shape

-- some words before each of the lists
abbrev pub each : Word → List Words → Words
each w [] = []
each w (ws ∷ more) = w ∷ (ws ++ each w more)

-- a word between lists of words
abbrev pub parted : Word → List Words → Words
parted w [] = []
parted w (ws ∷ more) = ws ++ each w more

abbrev pub use_text : Use → Words
use_text u = u.0 ++ codes "<-" ∷ u.1

abbrev pub use_texts : List Use → List Words
use_texts [] = []
use_texts (u ∷ us) = use_text u ∷ use_texts us

abbrev pub such_text : Option SuchThat → Words
such_text None = []
such_text (Some c) = c.0 ++ parted (codes "/\\") c.1

abbrev pub text : Shape → Words
text (plain w) = w ∷ []
text (assigned w us) = w ∷ codes "[" ∷ (parted (codes ",") (use_texts us) ++ codes "]" ∷ [])
text (called w ts) = w ∷ codes "(" ∷ (parted (codes ",") ts ++ codes ")" ∷ [])
text (wrapped w e) = w ∷ codes "(" ∷ (text e ++ codes ")" ∷ [])
text (within e) = codes "(" ∷ (text e ++ codes ")" ∷ [])
text (tested w p c) = w ∷ (p ++ such_text c)
text (marked e w) = text e ++ w ∷ []
text (joined w e f) = text e ++ w ∷ text f
text (chosen e f g) = text e ++ codes "?" ∷ (text f ++ codes ":" ∷ text g)

-- ---- the parts of a shape

-- where d brackets are open, such a word ends a part: one that ends it, or a closing bracket, outside brackets
abbrev pub stops : (Role → Bool) → ℕ → Role → Bool
stops ends d r = nat_eq d 0 && (ends r || closes r)

-- no such word stands in it, and its brackets are closed
abbrev pub is_clear : (Role → Bool) → ℕ → Words → Bool
is_clear ends d [] = nat_eq d 0
is_clear ends d (w ∷ ws) = if stops ends d (role w) then false else is_clear ends (behind d (role w)) ws

pub record IsPart (ends : Role → Bool) (ws : Words) : Type 0 where
  pub some : ws ≡ [] → ⊥
  pub clear : is_clear ends 0 ws ≡ true

pub record IsUse (u : Use) : Type 0 where
  pub variable : IsPart ends_variable u.0
  pub value : IsPart ends_term u.1

pub record IsSuch (c : SuchThat) : Type 0 where
  pub sign : (c.0 ≡ codes "s.t." ∷ []) ⊎ (c.0 ≡ codes "such" ∷ codes "that" ∷ [])
  pub some : c.1 ≡ [] → ⊥
  pub fragments : All (IsPart ends_fragment) c.1

abbrev pub IfSuch : Option SuchThat → Type 0
IfSuch None = Unit {0}
IfSuch (Some c) = IsSuch c

-- ---- which shapes are strategies

abbrev pub begins_rule : Beginning → Bool
begins_rule of_all = true
begins_rule b = names b

-- a label, with or without values of variables, or `all`
abbrev pub is_rule_form : Shape → Bool
is_rule_form (plain w) = begins_rule (beginning w)
is_rule_form (assigned w us) = true
is_rule_form _ = false

-- the words behind a test belong to its term
abbrev pub takes_marks : Shape → Bool
takes_marks (tested w p c) = false
takes_marks _ = true

-- a strategy of the form n or a tighter one: 2 for E *, 3 for E ; F, 4 for E | F, 5 for E or-else F, 6 for E ? F : G
abbrev pub Fits : ℕ → Shape → Type 0
Fits n (plain w) = stands_alone (beginning w) ≡ true
Fits n (assigned w us) = (names (beginning w) ≡ true) × (us ≡ [] → ⊥) × All IsUse us
Fits n (called w ts) = (beginning w ≡ of_name) × (ts ≡ [] → ⊥) × All (IsPart ends_term) ts
Fits n (wrapped w e) = ((beginning w ≡ of_wrapper) ⊎ ((beginning w ≡ of_top) × (is_rule_form e ≡ true))) × Fits 6 e
Fits n (within e) = Fits 6 e
Fits n (tested w p c) = (beginning w ≡ of_test) × IsPart ends_test p × IfSuch c
Fits n (marked e w) = (2 ≤ n) × (role w ≡ mark) × (takes_marks e ≡ true) × Fits 2 e
Fits n (joined w e f) = (m : ℕ) × (role w ≡ joint m) × (m ≤ n) × Fits (m - 1) e × Fits m f
Fits n (chosen e f g) = (6 ≤ n) × Fits 5 e × Fits 6 f × Fits 6 g

-- the words are the text of the shape
pub record IsTextOf (ws : Words) (s : Shape) : Type 0 where
  pub strategy : Fits 6 s
  pub words : text s ≡ ws
