-- What the declarations of an operator say of its kinds, where no declaration is at fault.
use Rattle.std.proofs.Common.{◌≡◌, ℕ, nat_eq, List, [], ◌∷◌, ◌++◌, ◌⊎◌, inl, inr, ⊎_elim, Bool, true, false, ◌&&◌, if◌then◌else◌, not, length, map, Option, Some, None, All, refl, sym, ◌∙◌, ap, subst, eqb-true}
use Rattle.std.specs.Prelude.{is_some}
use Rattle.std.specs.Option.{option_map}
use Rattle.std.proofs.lemmas.List.Elements.{All-head, All-tail, All-nil, All-cons}
use Rattle.std.proofs.lemmas.Bool.{and_parts, or_parts}
use Rattle.mau_poset.specs.Order.{Hierarchy, kind_of}
use Rattle.mau_signature.specs.declared.attributes.Attrs.{Attrs}
use Rattle.mau_signature.specs.declared.decl.Decl.{Decl}
use Rattle.mau_signature.specs.Names.{Operator, operator_of, same_operator, operators_of, declarations_of}
use Rattle.mau_signature.specs.Attributes.{first_given, unite, united, has_two_values}
use Rattle.mau_signature.specs.Signature.{result_of}
use Rattle.mau_signature.specs.Faults.{Given, AreNumerals, is_text, is_successor, successor, IsFaultless, no_declaration, one_more, is_at_fault, mismatches_kind, conflicts, has_bad_strategy, lacks_identity, has_wrong_arity, has_other_kind, is_pair_of_one, is_in_one_kind, kinds_suit, gather_suits, frozen_suits, attributes_suit, is_identity_in}
use Rattle.mau_signature.proofs.Same.{numbers-Decides, same_operator-is}
use Rattle.mau_signature.proofs.KindLemmas.{not_false}
use Rattle.mau_signature.proofs.United.{united-end}
use Rattle.mau_signature.proofs.Grouped.{passes, fails}

-- ---- numerals

-- the kind of the numerals, if there are any
abbrev pub kind_of_numerals : Hierarchy → Option (ℕ × ℕ) → Option ℕ
kind_of_numerals h numerals = option_map (λ (p : ℕ × ℕ). kind_of h p.0) numerals

-- a declaration of the successor goes from the kind of the numerals to that kind
abbrev pub IsSuccessorRight : Hierarchy → Option (ℕ × ℕ) → Decl → Type 0
IsSuccessorRight h numerals d = is_successor d.attrs ≡ true → (map (kind_of h) d.args ≡ kind_of h d.result ∷ []) × (kind_of_numerals h numerals ≡ Some (kind_of h d.result))

pub successors_right : (h : Hierarchy) (ds : List Decl) (numerals : Option (ℕ × ℕ)) → AreNumerals h ds numerals → All (IsSuccessorRight h numerals) ds
successors_right h ds None a = λ i d lt e. cc (a i d lt)
successors_right h ds (Some p) a = λ i d lt e.
    let both = a.4 i d lt e in
    (both.0 ∙ ap (λ k. k ∷ []) (sym both.1), ap Some (sym both.1))

-- ---- an operator

-- the kinds of the operator f suit the attributes a, where its results are in the kind k
pub record IsSettled (h : Hierarchy) (fs : List Operator) (numerals : Option (ℕ × ℕ)) (f : Operator) (a : Attrs) (k : ℕ) : Type 0 where
  pub assoc : a.assoc ≡ true → f.arguments ≡ k ∷ k ∷ []
  pub comm : a.comm ≡ true → (j : ℕ) × (f.arguments ≡ j ∷ j ∷ [])
  pub id : is_some a.id ≡ true → f.arguments ≡ k ∷ k ∷ []
  pub identity : is_identity_in h fs numerals k a.id ≡ true
  pub succ : is_successor a ≡ true → (f.arguments ≡ k ∷ []) × (kind_of_numerals h numerals ≡ Some k)

abbrev pub AreSettled : Hierarchy → List Operator → Option (ℕ × ℕ) → Operator → List Decl → Type 0
AreSettled h fs numerals f group = IsSettled h fs numerals f (united group) (kind_of h (result_of group))

-- ---- what a declaration without a fault says

pub record IsRight (h : Hierarchy) (fs : List Operator) (numerals : Option (ℕ × ℕ)) (earlier : List Decl) (d : Decl) : Type 0 where
  pub kind : has_other_kind h earlier (kind_of h d.result) ≡ false
  pub kinds : kinds_suit h (unite (united earlier) d.attrs) d ≡ true
  pub identity : is_identity_in h fs numerals (kind_of h d.result) (unite (united earlier) d.attrs).id ≡ true

faultless_is_right : (g : Given) (earlier : List Decl) (d : Decl) → is_at_fault g earlier d ≡ false → IsRight g.hierarchy (operators_of g.hierarchy g.declarations) g.numerals earlier d
faultless_is_right g earlier d e =
    let h : Hierarchy = g.hierarchy in
    let a : Attrs = unite (united earlier) d.attrs in
    let p = or_parts (has_wrong_arity d) _ e in
    let q = or_parts (mismatches_kind g earlier d) _ p.1 in
    let r = or_parts (conflicts g earlier d) _ q.1 in
    let t = or_parts (has_bad_strategy earlier d) (lacks_identity g earlier d) r.1 in
    let suit : attributes_suit h a d ≡ true = not_false (attributes_suit h a d) ((or_parts (has_two_values (united earlier) d.attrs) (not (attributes_suit h a d)) r.0).1) in
    record {
      kind = q.0;
      kinds = (and_parts (kinds_suit h a d) (gather_suits (length d.args) a.gather && frozen_suits a.assoc (length d.args) a.frozen) suit).0;
      identity = not_false (is_identity_in h (operators_of h g.declarations) g.numerals (kind_of h d.result) a.id) t.1;
    }

if_so : (b c : Bool) → (if b then c else true) ≡ true → b ≡ true → c ≡ true
if_so true c e k = e
if_so false c e k = cc

pair_of_one : (ks : List ℕ) → is_pair_of_one ks ≡ true → (k : ℕ) × (ks ≡ k ∷ k ∷ [])
pair_of_one [] e = cc
pair_of_one (k ∷ []) e = cc
pair_of_one (k ∷ l ∷ []) e = (k, ap (λ x. k ∷ x ∷ []) (sym (eqb-true k l e)))
pair_of_one (k ∷ l ∷ m ∷ ks) e = cc

one_kind : (h : Hierarchy) (d : Decl) → is_in_one_kind h d ≡ true → map (kind_of h) d.args ≡ kind_of h d.result ∷ kind_of h d.result ∷ []
one_kind h d e = (numbers-Decides (map (kind_of h) d.args) (kind_of h d.result ∷ kind_of h d.result ∷ [])).0 e

text_of_two : (x y : Option (List ℕ)) (wanted : List ℕ) → is_text (first_given x y) wanted ≡ true → (is_text x wanted ≡ true) ⊎ (is_text y wanted ≡ true)
text_of_two (Some text) y wanted e = inl e
text_of_two None y wanted e = inr e

-- ---- one declaration more

-- the results of the declarations before it are in its kind, if there is one of the successor
kind_before : (h : Hierarchy) (group : List Decl) (d : Decl) → has_other_kind h group (kind_of h d.result) ≡ false → is_successor (united group) ≡ true → kind_of h (result_of group) ≡ kind_of h d.result
kind_before h [] d e s = cc
kind_before h (x ∷ group) d e s =
    eqb-true (kind_of h x.result) (kind_of h d.result)
    (not_false (nat_eq (kind_of h x.result) (kind_of h d.result))
    ((or_parts (not (nat_eq (kind_of h x.result) (kind_of h d.result))) (has_other_kind h group (kind_of h d.result)) e).0))

kind_at_end : (h : Hierarchy) (group : List Decl) (d : Decl) → has_other_kind h group (kind_of h d.result) ≡ false → kind_of h (result_of (group ++ d ∷ [])) ≡ kind_of h d.result
kind_at_end h [] d e = refl
kind_at_end h (x ∷ group) d e =
    eqb-true (kind_of h x.result) (kind_of h d.result)
    (not_false (nat_eq (kind_of h x.result) (kind_of h d.result))
    ((or_parts (not (nat_eq (kind_of h x.result) (kind_of h d.result))) (has_other_kind h group (kind_of h d.result)) e).0))

one_settled : (h : Hierarchy) (fs : List Operator) (numerals : Option (ℕ × ℕ)) (f : Operator) (group : List Decl) (d : Decl) →
    AreSettled h fs numerals f group → IsRight h fs numerals group d → IsSuccessorRight h numerals d → f.arguments ≡ map (kind_of h) d.args →
    IsSettled h fs numerals f (unite (united group) d.attrs) (kind_of h d.result)
one_settled h fs numerals f group d before right successor_right kinds_are =
    let a : Attrs = unite (united group) d.attrs in
    let k : ℕ = kind_of h d.result in
    let p = and_parts (if a.assoc then is_in_one_kind h d else true)
    ((if a.comm then is_pair_of_one (map (kind_of h) d.args) else true) && (if is_some a.id then is_in_one_kind h d else true)) right.kinds in
    let q = and_parts (if a.comm then is_pair_of_one (map (kind_of h) d.args) else true) (if is_some a.id then is_in_one_kind h d else true) p.1 in
    record {
      assoc = λ e. kinds_are ∙ one_kind h d (if_so a.assoc (is_in_one_kind h d) p.0 e);
      comm = λ e. let pair = pair_of_one (map (kind_of h) d.args) (if_so a.comm (is_pair_of_one (map (kind_of h) d.args)) q.0 e) in (pair.0, kinds_are ∙ pair.1);
      id = λ e. kinds_are ∙ one_kind h d (if_so (is_some a.id) (is_in_one_kind h d) q.1 e);
      identity = right.identity;
      succ = λ e. ⊎_elim
          (λ (old : is_successor (united group) ≡ true).
          let it = before.succ old in
          let same : kind_of h (result_of group) ≡ k = kind_before h group d right.kind old in
          (it.0 ∙ ap (λ j. j ∷ []) same, it.1 ∙ ap Some same))
          (λ (new : is_successor d.attrs ≡ true).
          let it = successor_right new in
          (kinds_are ∙ it.0, it.1))
          (text_of_two (united group).builtin d.attrs.builtin successor e);
    }

none_settled : (h : Hierarchy) (fs : List Operator) (numerals : Option (ℕ × ℕ)) (f : Operator) → AreSettled h fs numerals f []
none_settled h fs numerals f = record {
  assoc = λ e. cc;
  comm = λ e. cc;
  id = λ e. cc;
  identity = refl;
  succ = λ e. cc;
}

all_before : (P : Decl → Type 0) (ds : List Decl) (d : Decl) → All P (ds ++ d ∷ []) → All P ds × P d
all_before P [] d a = (All-nil P, All-head P d [] a)
all_before P (x ∷ ds) d a =
    let rest = all_before P ds d (All-tail P x (ds ++ d ∷ []) a) in
    (All-cons P x ds (All-head P x (ds ++ d ∷ []) a) rest.0, rest.1)

step_settled : (g : Given) (f : Operator) (ds : List Decl) (d : Decl) → AreSettled g.hierarchy (operators_of g.hierarchy g.declarations) g.numerals f (declarations_of g.hierarchy ds f) →
    is_at_fault g (declarations_of g.hierarchy ds (operator_of g.hierarchy d)) d ≡ false → IsSuccessorRight g.hierarchy g.numerals d → AreSettled g.hierarchy (operators_of g.hierarchy g.declarations) g.numerals f (declarations_of g.hierarchy (ds ++ d ∷ []) f)
step_settled g f ds d settled e right_successor = by (same_operator f (operator_of g.hierarchy d)) refl
  where
    h : Hierarchy
    h = g.hierarchy

    fs : List Operator
    fs = operators_of h g.declarations

    group : List Decl
    group = declarations_of h ds f

    Settled : List Decl → Type 0
    Settled = AreSettled h fs g.numerals f

    by : (b : Bool) → same_operator f (operator_of h d) ≡ b → Settled (declarations_of h (ds ++ d ∷ []) f)
    by false k = subst Settled (sym (fails (λ x. same_operator f (operator_of h x)) ds d k)) settled
    by true k =
        let f_is : f ≡ operator_of h d = same_operator-is f (operator_of h d) k in
        let right : IsRight h fs g.numerals group d =
        faultless_is_right g group d (subst (λ x. is_at_fault g (declarations_of h ds x) d ≡ false) (sym f_is) e) in
        let one = one_settled h fs g.numerals f group d settled right right_successor (ap (λ x. x.arguments) f_is) in
        subst Settled (sym (passes (λ x. same_operator f (operator_of h x)) ds d k))
        (subst (λ a. IsSettled h fs g.numerals f a (kind_of h (result_of (group ++ d ∷ [])))) (sym (united-end group d))
        (subst (λ j. IsSettled h fs g.numerals f (unite (united group) d.attrs) j) (sym (kind_at_end h group d right.kind)) one))

pub all_settled : (g : Given) (f : Operator) (ds : List Decl) → IsFaultless g ds → All (IsSuccessorRight g.hierarchy g.numerals) ds → AreSettled g.hierarchy (operators_of g.hierarchy g.declarations) g.numerals f (declarations_of g.hierarchy ds f)
all_settled g f _ no_declaration a = none_settled g.hierarchy (operators_of g.hierarchy g.declarations) g.numerals f
all_settled g f _ (one_more {ds} d before e) a =
    let parts = all_before (IsSuccessorRight g.hierarchy g.numerals) ds d a in
    step_settled g f ds d (all_settled g f ds before parts.0) e parts.1
