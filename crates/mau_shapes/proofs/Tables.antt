-- Which word has a role, and what roles say of levels.
use Rattle.std.proofs.Common.{◌≡◌, ◌≤◌, Bool, true, false, ◌||◌, refl, arith}
use Rattle.std.specs.Prelude.{codes, if◌then◌else◌}
use Rattle.std.proofs.lemmas.Slice.Eq.{bytes_eq-Decides}
use Rattle.mau_shapes.specs.Words.{Word, is, Role, mark, joint, question, colon, condition, such, conjunction, comma, arrow, opening_round, opening_square, opening_curly, closing_round, closing_square, closing_curly, no_role, role, Beginning, of_bracket, of_all, of_form, of_test, of_top, of_wrapper, of_nothing, of_name, beginning, begins_nothing}

-- what is known of a word by its role
abbrev pub Known : Role → Word → Type 0
Known mark w = Unit {0}
Known (joint m) w = (3 ≤ m) × (m ≤ 5)
Known question w = w ≡ codes "?"
Known colon w = w ≡ codes ":"
Known condition w = w ≡ codes "s.t."
Known such w = w ≡ codes "such"
Known conjunction w = w ≡ codes "/\\"
Known comma w = w ≡ codes ","
Known arrow w = w ≡ codes "<-"
Known opening_round w = w ≡ codes "("
Known opening_square w = w ≡ codes "["
Known opening_curly w = w ≡ codes "{"
Known closing_round w = w ≡ codes ")"
Known closing_square w = w ≡ codes "]"
Known closing_curly w = w ≡ codes "}"
Known no_role w = Unit {0}

same : (w v : Word) → is w v ≡ true → w ≡ v
same w v h = (bytes_eq-Decides w v).0 h

one_of : (w c : Word) (r q : Role) → (w ≡ c → Known r w) → Known q w → Known (if is w c then r else q) w
one_of w c r q h k =
    (elim (is w c) as (λ b. is w c ≡ b → Known (if b then r else q) w) [ true ↦ λ e. h (same w c e) | false ↦ λ e. k ]) refl

one_mark : (b : Bool) (q : Role) (w : Word) → Known q w → Known (if b then mark else q) w
one_mark true q w k = tt
one_mark false q w k = k

pub known : (w : Word) → Known (role w) w
unfolding role
known w =
    one_of w (codes "(") _ _ (λ e. e) (
    one_of w (codes ")") _ _ (λ e. e) (
    one_of w (codes "[") _ _ (λ e. e) (
    one_of w (codes "]") _ _ (λ e. e) (
    one_of w (codes "{") _ _ (λ e. e) (
    one_of w (codes "}") _ _ (λ e. e) (
    one_of w (codes ",") _ _ (λ e. e) (
    one_of w (codes ";") (joint 3) _ (λ e. (omega arith, omega arith)) (
    one_of w (codes "|") (joint 4) _ (λ e. (omega arith, omega arith)) (
    one_of w (codes "or-else") (joint 5) _ (λ e. (omega arith, omega arith)) (
    one_of w (codes "?") _ _ (λ e. e) (
    one_of w (codes ":") _ _ (λ e. e) (
    one_mark (is w (codes "*") || (is w (codes "+") || is w (codes "!"))) _ w (
    one_of w (codes "s.t.") _ _ (λ e. e) (
    one_of w (codes "such") _ _ (λ e. e) (
    one_of w (codes "/\\") _ _ (λ e. e) (
    one_of w (codes "<-") arrow no_role (λ e. e) tt))))))))))))))))

pub known_as : (w : Word) (r : Role) → role w ≡ r → Known r w
known_as w r h = rw h at (known w)

-- ---- a word with which a strategy begins

abbrev pub Begins : Beginning → Word → Type 0
Begins of_bracket w = w ≡ codes "("
Begins _ w = Unit {0}

begins_any : (b : Bool) (x y : Beginning) (w : Word) → Begins x w → Begins y w → Begins (if b then x else y) w
begins_any true x y w h k = h
begins_any false x y w h k = k

pub begins : (w : Word) → Begins (beginning w) w
unfolding beginning
begins w =
    (elim (is w (codes "(")) as (λ b. is w (codes "(") ≡ b → Begins (if b then of_bracket else
    (if is w (codes "all") then of_all else
    (if is w (codes "idle") || is w (codes "fail") then of_form else
    (if is w (codes "match") || (is w (codes "xmatch") || is w (codes "amatch")) then of_test else
    (if is w (codes "top") then of_top else
    (if is w (codes "not") || (is w (codes "try") || is w (codes "test")) then of_wrapper else
    (if begins_nothing w then of_nothing else of_name))))))) w) [
      | true ↦ λ e. same w (codes "(") e
      | false ↦ λ e.
          begins_any (is w (codes "all")) _ _ w tt (
          begins_any (is w (codes "idle") || is w (codes "fail")) _ _ w tt (
          begins_any (is w (codes "match") || (is w (codes "xmatch") || is w (codes "amatch"))) _ _ w tt (
          begins_any (is w (codes "top")) _ _ w tt (
          begins_any (is w (codes "not") || (is w (codes "try") || is w (codes "test"))) _ _ w tt (
          begins_any (begins_nothing w) of_nothing of_name w tt tt)))))
    ]) refl

pub bracket_word : (w : Word) → beginning w ≡ of_bracket → w ≡ codes "("
bracket_word w h = rw h at (begins w)
