-- The numbers of a part keep kinds, and what is built in of a part is built in of the whole.
use Rattle.std.proofs.Common.{◌≡◌, ◌<◌, ℕ, ◌+◌, List, [], ◌∷◌, ◌++◌, Bool, true, false, ◌&&◌, if◌then◌else◌, map, length, take, Option, Some, None, refl, sym, ◌∙◌, ap, ap₂, subst, inl, inr, arith}
use Rattle.std.specs.Prelude.{All, codes}
use Rattle.std.specs.Option.{option_map}
use Rattle.std.proofs.lemmas.Bool.{lt-ltb, le-leb}
use Rattle.std.proofs.lemmas.List.Elements.{All-head, All-tail}
use Rattle.mau_poset.specs.Order.{Hierarchy, kind_of}
use Rattle.mau_terms.specs.Finite.{IsIn}
use Rattle.mau_terms.proofs.Finite.{in_left, in_right}
use Rattle.mau_signature.specs.declared.decl.Decl.{Decl}
use Rattle.mau_signature.specs.Attributes.{united, with_attributes}
use Rattle.mau_signature.specs.Faults.{IsSort, HasSorts}
use Rattle.mau_signature.specs.Names.{Operator, if_constant, operator_of, declarations_of}
use Rattle.mau_signature.specs.Signature.{SignatureOf, IsOperator, declarations_at, form_of, arguments_of, result_of, terms_over}
use Rattle.mau_sigcheck.specs.Built.{IsBuiltAndAccepted}
use Rattle.mau_renumber.specs.Carried.{declaration_to, op_or_zero, operator_like, operator_to}
use Rattle.mau_renumber.specs.Keeps.{KeepsOperator, KeepsKinds}
use Rattle.mau_signing.specs.Signed.{signature_over}
use Rattle.mau_module.specs.Modules.{ModuleOf}
use Rattle.mau_module.specs.Library.{nat}
use Rattle.mau_module.specs.Numbering.{number_in, number_to}
use Rattle.mau_module.specs.Included.{numerals_of, has_part}
use Rattle.mau_module.specs.Declarations.{hierarchy_over, all_declarations, given_over}
use Rattle.mau_module.specs.Carried.{numbers_from}
use Rattle.mau_module.specs.Made.{HasNumberSorts, IsMadeOver, AreMade, IsClosed}
use Rattle.mau_module.proofs.Members.{in_both, all_in}
use Rattle.mau_module.proofs.Numbers.{sort_number}
use Rattle.mau_module.proofs.Numberings.{IsNumbering, name_of_number, number_within, kinds_kept, number_there, sort_within}
use Rattle.mau_module.proofs.Including.{made_before, in_of_it, closed_of, IsPart, part_is, length_take, included_again, hierarchy_is, part_numbering}
use Rattle.mau_module.proofs.Sources as Sources
use Rattle.mau_module.proofs.Sourced.{name_there, part_in, in_part, from_source}

-- ---- the sorts of numerals

pub number_sorts : (ms : List ModuleOf) (m : ModuleOf) → AreMade ms → (over : IsMadeOver ms m) → IsIn nat (over.included ++ length ms ∷ []) → HasNumberSorts m
number_sorts ms m made over i = elim (in_both nat over.included (length ms ∷ []) i) [ inl j ↦ theirs j | inr j ↦ own j ]
  where
    own : IsIn nat (length ms ∷ []) → HasNumberSorts m
    own (inl e) = (over.numbers (sym e)).sorts
    own (inr e) = absurd e

    theirs : IsIn nat over.included → HasNumberSorts m
    theirs j =
        let p = part_is ms m.sorts over.included made (closed_of ms m over) nat j in
        let its = p.1.made.numbers (length_take ms nat (all_in (λ p. p < length ms) over.included nat over.within j)) in
        record {
          zero = p.1.names_known (codes "Zero") (name_there p.0.sorts (codes "Zero") its.sorts.zero);
          others = p.1.names_known (codes "NzNat") (name_there p.0.sorts (codes "NzNat") its.sorts.others);
        }

-- ---- a part and the whole

module _ (ms : List ModuleOf) (names : List (List ℕ)) (parts : List ℕ) (all_made : AreMade ms) (closed : IsClosed ms names parts) (pairs : List (ℕ × ℕ)) (own : List Decl) where
  abbrev h : Hierarchy
  h = hierarchy_over ms parts names pairs

  abbrev whole : List Decl
  whole = all_declarations ms parts names h own

  abbrev numerals : Option (ℕ × ℕ)
  numerals = numerals_of names (parts ++ length ms ∷ [])

  abbrev s : SignatureOf
  s = signature_over (given_over ms parts names h own)

  module _ (accepted : IsBuiltAndAccepted s) (q : ℕ) (m : ModuleOf) (part : IsPart ms names parts q m) where
    abbrev before : List ModuleOf
    before = take q ms

    abbrev theirs : List ℕ
    theirs = part.made.included

    abbrev over : Hierarchy
    over = hierarchy_over before theirs m.sorts m.own.pairs

    abbrev source : List Decl
    source = all_declarations before theirs m.sorts over m.own.declarations

    abbrev their_numerals : Option (ℕ × ℕ)
    their_numerals = numerals_of m.sorts (theirs ++ length before ∷ [])

    abbrev old : SignatureOf
    old = signature_over (given_over before theirs m.sorts over m.own.declarations)

    abbrev to : ℕ → ℕ
    to = number_to m.sorts over names h

    pub its : IsNumbering m.sorts over names h
    its = part_numbering ms names parts all_made closed pairs q m part

    pub old_accepted : IsBuiltAndAccepted old
    old_accepted = subst IsBuiltAndAccepted part.made.signature part.made.lawful.accepted

    pub moved : (d : Decl) → IsIn d source → IsIn (declaration_to to d) whole
    moved d i = from_source ms names parts all_made closed pairs own q m part (hierarchy_is ms names parts all_made closed pairs q m part) d i

    -- ---- operators

    pub move : Operator → Operator
    move f = record { form = f.form; arguments = map to f.arguments; constant = option_map to f.constant }

    kinds_moved : (xs : List ℕ) → All (IsSort over) xs → map (kind_of h) (map to xs) ≡ map to (map (kind_of over) xs)
    kinds_moved [] a = refl
    kinds_moved (x ∷ xs) a =
        ap₂ (λ y ys. y ∷ ys) (kinds_kept m.sorts over names h its x (All-head (IsSort over) x xs a)) (kinds_moved xs (All-tail (IsSort over) x xs a))

    constant_moved : (xs : List ℕ) (k l : ℕ) → l ≡ to k → if_constant (map to xs) l ≡ option_map to (if_constant xs k)
    constant_moved [] k l e = ap Some e
    constant_moved (x ∷ xs) k l e = refl

    pub operator_moved : (d : Decl) → HasSorts over d → operator_of h (declaration_to to d) ≡ move (operator_of over d)
    unfolding move
    operator_moved d has =
        let with_parts : List ℕ → Option ℕ → Operator = λ as_ c. record { form = d.form; arguments = as_; constant = c } in
        ap₂ with_parts (kinds_moved d.args has.arguments)
        (constant_moved d.args (kind_of over d.result) (kind_of h (to d.result)) (kinds_kept m.sorts over names h its d.result has.result))

    -- the first declaration of an operator of the part
    module _ (g : ℕ) (o : IsOperator old g) where
      pub at : Sources.AreOf over source their_numerals g
      at = Sources.at_number over source their_numerals g o

      first : Decl
      first = at.first

      pub has_sorts_of : (e : Decl) → IsIn e source → operator_of over e ≡ operator_of over at.first → HasSorts over e
      has_sorts_of e i same =
          let a = united (declarations_of over source (operator_of over at.first)) in
          let there = subst (IsIn (with_attributes a e)) (sym at.whole) (Sources.in_group over source their_numerals at.first e i same) in
          let r = all_in (HasSorts over) (declarations_at old g) (with_attributes a e) (old_accepted.declared g o).sorts there in
          record { arguments = r.arguments; result = r.result }

      pub first_has : HasSorts over at.first
      first_has = has_sorts_of at.first at.given refl

      abbrev pub image : Decl
      image = declaration_to to at.first

      pub image_there : IsIn image whole
      image_there = moved at.first at.given

      number_moved : operator_to to old s g ≡ Sources.place h whole numerals image + 1
      number_moved =
          ap (λ b. if b then operator_like to s (declarations_at old g) else 0) (ap₂ (λ x y. x && y) (lt-ltb 0 g o.0) (le-leb g (length old.declarations) o.1))
          ∙ ap (operator_like to s) at.declared
          ∙ ap op_or_zero (Sources.number_is h whole numerals image image_there)

      alike_there : (n : ℕ) → IsOperator s n → All (Rattle.mau_signature.specs.Signature.IsAlike h (declarations_at s n)) (declarations_at s n)
      alike_there n p = (accepted.declared n p).alike

      operator_kept : KeepsOperator (record { sort = to; operator = operator_to to old s }) old s g
      operator_kept =
          let n = Sources.place h whole numerals image + 1 in
          let args_of : arguments_of (declarations_at old g) ≡ at.first.args = ap arguments_of at.declared in
          let result : result_of (declarations_at old g) ≡ at.first.result = ap result_of at.declared in
          record {
            there = subst (IsOperator s) (sym number_moved) (Sources.is_operator_of h whole numerals image image_there);
            arguments =
                ap (λ k. map (kind_of h) (arguments_of (declarations_at s k))) number_moved
                ∙ Sources.arguments_at h whole numerals alike_there image image_there
                ∙ kinds_moved at.first.args first_has.arguments ∙ ap (λ xs. map to (map (kind_of over) xs)) (sym args_of);
            result =
                ap (λ k. kind_of h (result_of (declarations_at s k))) number_moved
                ∙ Sources.result_at h whole numerals alike_there image image_there
                ∙ kinds_kept m.sorts over names h its at.first.result first_has.result ∙ ap (λ r. to (kind_of over r)) (sym result);
          }

    -- ---- numerals

    nat_included : IsIn nat (theirs ++ length before ∷ []) → IsIn nat parts
    nat_included i = elim (in_both nat theirs (length before ∷ []) i) [
      | inl j ↦ included_again ms names parts all_made closed pairs q m part nat j
      | inr j ↦ closed.closed q nat part.among (in_of_it ms (λ x. x.parts) q m nat part.there (subst (IsIn nat) (sym part.made.parts) (in_right nat theirs (length before ∷ []) j)))
    ]

    numerals_by : (b : Bool) → has_part (theirs ++ length before ∷ []) nat ≡ b → (k : ℕ)
        → option_map (λ (p : ℕ × ℕ). kind_of over p.0) (if b then Some (number_in m.sorts (codes "Zero"), number_in m.sorts (codes "NzNat")) else None) ≡ Some k
        → (terms_over s).numerals ≡ Some (to k)
    numerals_by false e k w = absurd cc
    numerals_by true e k w =
        let i = part_in (theirs ++ length before ∷ []) nat e in
        let zero = (number_sorts before m (made_before ms q all_made) part.made i).zero in
        let there = in_part (parts ++ length ms ∷ []) nat (in_left nat parts (length ms ∷ []) (nat_included i)) in
        let z = number_in m.sorts (codes "Zero") in
        let l = number_within m.sorts (codes "Zero") zero in
        let is : kind_of over z ≡ k = cc in
        let z_to : to z ≡ number_in names (codes "Zero") = sort_number m.sorts over names h z l ∙ ap (number_in names) (name_of_number m.sorts (codes "Zero") zero) in
        ap (λ b. option_map (λ (p : ℕ × ℕ). kind_of h p.0) (if b then Some (number_in names (codes "Zero"), number_in names (codes "NzNat")) else None)) there
        ∙ ap Some (ap (kind_of h) (sym z_to) ∙ kinds_kept m.sorts over names h its z (omega (arith, l)) ∙ ap to is)

    -- ---- the numbers of the part keep kinds

    sorts_kept : (a : ℕ) → a < over.sorts → to a < h.sorts
    sorts_kept a l = omega (arith, sort_number m.sorts over names h a l, sort_within m.sorts over names h its a l)

    pub kept : KeepsKinds (record { sort = to; operator = operator_to to old s }) old s
    kept = record {
      sorts = sorts_kept;
      there = number_there m.sorts over names h its;
      kinds = kinds_kept m.sorts over names h its;
      operators = operator_kept;
      numerals = numerals_by (has_part (theirs ++ length before ∷ []) nat) refl;
    }

    abbrev Keeps : SignatureOf → Type 0
    Keeps x = KeepsKinds (record { sort = number_to m.sorts x.hierarchy names h; operator = operator_to (number_to m.sorts x.hierarchy names h) x s }) x s

    pub keeps_kinds : KeepsKinds (numbers_from m names s) m.signature s
    keeps_kinds = subst Keeps (sym part.made.signature) kept
