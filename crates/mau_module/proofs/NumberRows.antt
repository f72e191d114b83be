-- What is built in of the module of numbers: each declaration of its table stands in a row of those of numbers.
use Rattle.std.proofs.Common.{◌≡◌, ◌<◌, ℕ, ◌+◌, List, [], ◌∷◌, ◌++◌, true, map, Option, Some, None, refl, sym, ◌∙◌, ap, ap₂, subst, inl, inr}
use Rattle.std.specs.Prelude.{All, codes}
use Rattle.std.proofs.lemmas.List.Elements.{All-cons}
use Rattle.mau_poset.specs.Order.{Hierarchy, kind_of}
use Rattle.mau_poset.proofs.Orders.{kind_of-in_range}
use Rattle.mau_terms.specs.Finite.{IsIn}
use Rattle.mau_signature.specs.declared.decl.Decl.{Decl}
use Rattle.mau_signature.specs.declared.form.Piece.{Piece}
use Rattle.mau_signature.specs.declared.attributes.Gather.TheVariants.{Upto, Below}
use Rattle.mau_signature.specs.Attributes.{no_attributes}
use Rattle.mau_signature.specs.Faults.{IsSort}
use Rattle.mau_signature.specs.Names.{Operator, operator_of}
use Rattle.mau_signature.specs.Signature.{SignatureOf, signature_of, declarations_at}
use Rattle.mau_sigcheck.specs.Built.{IsBuiltAndAccepted}
use Rattle.mau_prelude.specs.Rows.{bool, nz_nat, nat, word_form, prefix_form, infix_form, declare}
use Rattle.mau_prelude.specs.Numbers.{sums, products, choices, comparisons}
use Rattle.mau_program.specs.BuiltIns.{IsNamed, HasShape, HasTruth, HasNumbers, HasBuiltIn, of_numbers}
use Rattle.mau_module.proofs.Alls.{all_one}
use Rattle.mau_module.proofs.Numberings.{kind_again}
use Rattle.mau_module.proofs.Sources as Sources
use Rattle.mau_module.proofs.BuiltAgain.{shape_there, form_there}

abbrev pub number_declarations : List Decl
number_declarations = sums ++ (products ++ (choices ++ comparisons))

all_two : {A : Type 0} (P : A → Type 0) (x y : A) → P x → P y → All P (x ∷ y ∷ [])
all_two P x y p q = All-cons P x (y ∷ []) p (all_one P y q)

module _ (names : List (List ℕ)) (h : Hierarchy) (ds : List Decl) (numerals : Option (ℕ × ℕ)) (accepted : IsBuiltAndAccepted (signature_of h ds numerals))
    (among : (d : Decl) → IsIn d number_declarations → IsIn d ds) (few : nat < h.sorts) (one : kind_of h nz_nat ≡ kind_of h nat)
    (is_bool : IsNamed names (codes "Bool") bool) (is_nz : IsNamed names (codes "NzNat") nz_nat) (is_nat : IsNamed names (codes "Nat") nat)
    (truth : HasTruth names (signature_of h ds numerals)) (numbers : HasNumbers names (signature_of h ds numerals)) where
  abbrev made : SignatureOf
  made = signature_of h ds numerals

  abbrev number : Decl → ℕ
  number d = Sources.place h ds numerals d + 1

  abbrev k : ℕ
  k = kind_of h nat

  k_there : IsSort h (kind_of h nat)
  k_there = kind_of-in_range h nat few

  k_again : kind_of h (kind_of h nat) ≡ kind_of h nat
  k_again = kind_again h nat

  -- two declarations of one form over arguments of the same kinds
  same_two : (d e : Decl) (a b x y : ℕ) → d.form ≡ e.form → kind_of h a ≡ kind_of h x → kind_of h b ≡ kind_of h y → d.args ≡ a ∷ b ∷ [] → e.args ≡ x ∷ y ∷ [] → operator_of h d ≡ operator_of h e
  same_two d e a b x y form p q da ea =
      let over : List Piece → List ℕ → Operator = λ f as_. record { form = f; arguments = as_; constant = None } in
      let left : operator_of h d ≡ over d.form (kind_of h a ∷ kind_of h b ∷ []) =
      ap (λ as_. record { form = d.form; arguments = map (kind_of h) as_; constant = Rattle.mau_signature.specs.Names.if_constant as_ (kind_of h d.result) }) da in
      let right : operator_of h e ≡ over e.form (kind_of h x ∷ kind_of h y ∷ []) =
      ap (λ as_. record { form = e.form; arguments = map (kind_of h) as_; constant = Rattle.mau_signature.specs.Names.if_constant as_ (kind_of h e.result) }) ea in
      left ∙ ap₂ over form (ap₂ (λ u v. u ∷ v ∷ []) p q) ∙ sym right

  at_row : (d e : Decl) (name word : List ℕ) → d ≡ e → d.attrs.builtin ≡ Some name → e.attrs.builtin ≡ Some word → HasBuiltIn names made (number e) word → HasBuiltIn names made (number d) name
  at_row d e name word s b c built =
      let same : word ≡ name = let x = sym c ∙ ap (λ (y : Decl). y.attrs.builtin) (sym s) ∙ b in cc in
      subst (λ (x : Decl). HasBuiltIn names made (number x) name) (sym s) (subst (HasBuiltIn names made (number e)) same built)

  abbrev d0 : Decl
  d0 = declare (prefix_form (codes "s")) (nat ∷ []) nz_nat (record no_attributes { builtin = Some (codes "succ") })

  in0 : IsIn d0 ds
  in0 = among d0 (inl refl)

  abbrev d1 : Decl
  d1 = declare (infix_form (codes "+")) (nz_nat ∷ nat ∷ []) nz_nat (record no_attributes { assoc = true; comm = true; prec = Some 33; builtin = Some (codes "nat-add") })

  in1 : IsIn d1 ds
  in1 = among d1 (inr (inl refl))

  abbrev d2 : Decl
  d2 = declare (infix_form (codes "+")) (nat ∷ nat ∷ []) nat (record no_attributes { builtin = Some (codes "nat-add") })

  in2 : IsIn d2 ds
  in2 = among d2 (inr (inr (inl refl)))

  abbrev d3 : Decl
  d3 = declare (word_form (codes "sd")) (nat ∷ nat ∷ []) nat (record no_attributes { comm = true; builtin = Some (codes "nat-sd") })

  in3 : IsIn d3 ds
  in3 = among d3 (inr (inr (inr (inl refl))))

  abbrev d4 : Decl
  d4 = declare (infix_form (codes "*")) (nz_nat ∷ nz_nat ∷ []) nz_nat (record no_attributes { assoc = true; comm = true; prec = Some 31; builtin = Some (codes "nat-mul") })

  in4 : IsIn d4 ds
  in4 = among d4 (inr (inr (inr (inr (inl refl)))))

  abbrev d5 : Decl
  d5 = declare (infix_form (codes "*")) (nat ∷ nat ∷ []) nat (record no_attributes { builtin = Some (codes "nat-mul") })

  in5 : IsIn d5 ds
  in5 = among d5 (inr (inr (inr (inr (inr (inl refl))))))

  abbrev d6 : Decl
  d6 = declare (infix_form (codes "quo")) (nat ∷ nz_nat ∷ []) nat (record no_attributes { prec = Some 31; gather = Some (Upto ∷ Below ∷ []); builtin = Some (codes "nat-quo") })

  in6 : IsIn d6 ds
  in6 = among d6 (inr (inr (inr (inr (inr (inr (inl refl)))))))

  abbrev d7 : Decl
  d7 = declare (infix_form (codes "rem")) (nat ∷ nz_nat ∷ []) nat (record no_attributes { prec = Some 31; gather = Some (Upto ∷ Below ∷ []); builtin = Some (codes "nat-rem") })

  in7 : IsIn d7 ds
  in7 = among d7 (inr (inr (inr (inr (inr (inr (inr (inl refl))))))))

  abbrev d8 : Decl
  d8 = declare (infix_form (codes "^")) (nz_nat ∷ nat ∷ []) nz_nat (record no_attributes { prec = Some 29; gather = Some (Upto ∷ Below ∷ []); builtin = Some (codes "nat-pow") })

  in8 : IsIn d8 ds
  in8 = among d8 (inr (inr (inr (inr (inr (inr (inr (inr (inl refl)))))))))

  abbrev d9 : Decl
  d9 = declare (infix_form (codes "^")) (nat ∷ nat ∷ []) nat (record no_attributes { builtin = Some (codes "nat-pow") })

  in9 : IsIn d9 ds
  in9 = among d9 (inr (inr (inr (inr (inr (inr (inr (inr (inr (inl refl))))))))))

  abbrev d10 : Decl
  d10 = declare (word_form (codes "gcd")) (nz_nat ∷ nat ∷ []) nz_nat (record no_attributes { assoc = true; comm = true; builtin = Some (codes "nat-gcd") })

  in10 : IsIn d10 ds
  in10 = among d10 (inr (inr (inr (inr (inr (inr (inr (inr (inr (inr (inl refl)))))))))))

  abbrev d11 : Decl
  d11 = declare (word_form (codes "gcd")) (nat ∷ nat ∷ []) nat (record no_attributes { builtin = Some (codes "nat-gcd") })

  in11 : IsIn d11 ds
  in11 = among d11 (inr (inr (inr (inr (inr (inr (inr (inr (inr (inr (inr (inl refl))))))))))))

  abbrev d12 : Decl
  d12 = declare (word_form (codes "min")) (nz_nat ∷ nz_nat ∷ []) nz_nat (record no_attributes { assoc = true; comm = true; builtin = Some (codes "nat-min") })

  in12 : IsIn d12 ds
  in12 = among d12 (inr (inr (inr (inr (inr (inr (inr (inr (inr (inr (inr (inr (inl refl)))))))))))))

  abbrev d13 : Decl
  d13 = declare (word_form (codes "min")) (nat ∷ nat ∷ []) nat (record no_attributes { builtin = Some (codes "nat-min") })

  in13 : IsIn d13 ds
  in13 = among d13 (inr (inr (inr (inr (inr (inr (inr (inr (inr (inr (inr (inr (inr (inl refl))))))))))))))

  abbrev d14 : Decl
  d14 = declare (word_form (codes "max")) (nz_nat ∷ nat ∷ []) nz_nat (record no_attributes { assoc = true; comm = true; builtin = Some (codes "nat-max") })

  in14 : IsIn d14 ds
  in14 = among d14 (inr (inr (inr (inr (inr (inr (inr (inr (inr (inr (inr (inr (inr (inr (inl refl)))))))))))))))

  abbrev d15 : Decl
  d15 = declare (word_form (codes "max")) (nat ∷ nat ∷ []) nat (record no_attributes { builtin = Some (codes "nat-max") })

  in15 : IsIn d15 ds
  in15 = among d15 (inr (inr (inr (inr (inr (inr (inr (inr (inr (inr (inr (inr (inr (inr (inr (inl refl))))))))))))))))

  abbrev d16 : Decl
  d16 = declare (infix_form (codes "<")) (nat ∷ nat ∷ []) bool (record no_attributes { prec = Some 37; builtin = Some (codes "nat-lt") })

  in16 : IsIn d16 ds
  in16 = among d16 (inr (inr (inr (inr (inr (inr (inr (inr (inr (inr (inr (inr (inr (inr (inr (inr (inl refl)))))))))))))))))

  abbrev d17 : Decl
  d17 = declare (infix_form (codes "<=")) (nat ∷ nat ∷ []) bool (record no_attributes { prec = Some 37; builtin = Some (codes "nat-le") })

  in17 : IsIn d17 ds
  in17 = among d17 (inr (inr (inr (inr (inr (inr (inr (inr (inr (inr (inr (inr (inr (inr (inr (inr (inr (inl refl))))))))))))))))))

  abbrev d18 : Decl
  d18 = declare (infix_form (codes ">")) (nat ∷ nat ∷ []) bool (record no_attributes { prec = Some 37; builtin = Some (codes "nat-gt") })

  in18 : IsIn d18 ds
  in18 = among d18 (inr (inr (inr (inr (inr (inr (inr (inr (inr (inr (inr (inr (inr (inr (inr (inr (inr (inr (inl refl)))))))))))))))))))

  abbrev d19 : Decl
  d19 = declare (infix_form (codes ">=")) (nat ∷ nat ∷ []) bool (record no_attributes { prec = Some 37; builtin = Some (codes "nat-ge") })

  in19 : IsIn d19 ds
  in19 = among d19 (inr (inr (inr (inr (inr (inr (inr (inr (inr (inr (inr (inr (inr (inr (inr (inr (inr (inr (inr (inl refl))))))))))))))))))))

  built0 : HasBuiltIn names made (number d0) (codes "succ")
  built0 = of_numbers _ (inl refl) (record {
    form = form_there names h ds numerals accepted d0 _ in0 refl;
    for_kind = k;
    there = k_there;
    is_kind = k_again;
    shapes = all_one (HasShape names k (declarations_at made (number d0))) _ (shape_there names h ds numerals accepted d0 d0 k _ in0 in0 (refl) (is_nat, tt) is_nz);
  }) truth numbers

  built1 : HasBuiltIn names made (number d1) (codes "nat-add")
  built1 = of_numbers _ (inr (inl refl)) (record {
    form = form_there names h ds numerals accepted d1 _ in1 refl;
    for_kind = k;
    there = k_there;
    is_kind = k_again;
    shapes = all_two (HasShape names k (declarations_at made (number d1))) _ _ (shape_there names h ds numerals accepted d1 d1 k _ in1 in1 (refl) (is_nz, (is_nat, tt)) is_nz) (shape_there names h ds numerals accepted d1 d2 k _ in1 in2 (same_two d2 d1 nat nat nz_nat nat refl (sym one) refl refl refl) (is_nat, (is_nat, tt)) is_nat);
  }) truth numbers

  built2 : HasBuiltIn names made (number d2) (codes "nat-add")
  built2 = of_numbers _ (inr (inl refl)) (record {
    form = form_there names h ds numerals accepted d2 _ in2 refl;
    for_kind = k;
    there = k_there;
    is_kind = k_again;
    shapes = all_two (HasShape names k (declarations_at made (number d2))) _ _ (shape_there names h ds numerals accepted d2 d1 k _ in2 in1 (same_two d1 d2 nz_nat nat nat nat refl one refl refl refl) (is_nz, (is_nat, tt)) is_nz) (shape_there names h ds numerals accepted d2 d2 k _ in2 in2 (refl) (is_nat, (is_nat, tt)) is_nat);
  }) truth numbers

  built3 : HasBuiltIn names made (number d3) (codes "nat-sd")
  built3 = of_numbers _ (inr (inr (inl refl))) (record {
    form = form_there names h ds numerals accepted d3 _ in3 refl;
    for_kind = k;
    there = k_there;
    is_kind = k_again;
    shapes = all_one (HasShape names k (declarations_at made (number d3))) _ (shape_there names h ds numerals accepted d3 d3 k _ in3 in3 (refl) (is_nat, (is_nat, tt)) is_nat);
  }) truth numbers

  built4 : HasBuiltIn names made (number d4) (codes "nat-mul")
  built4 = of_numbers _ (inr (inr (inr (inl refl)))) (record {
    form = form_there names h ds numerals accepted d4 _ in4 refl;
    for_kind = k;
    there = k_there;
    is_kind = k_again;
    shapes = all_two (HasShape names k (declarations_at made (number d4))) _ _ (shape_there names h ds numerals accepted d4 d4 k _ in4 in4 (refl) (is_nz, (is_nz, tt)) is_nz) (shape_there names h ds numerals accepted d4 d5 k _ in4 in5 (same_two d5 d4 nat nat nz_nat nz_nat refl (sym one) (sym one) refl refl) (is_nat, (is_nat, tt)) is_nat);
  }) truth numbers

  built5 : HasBuiltIn names made (number d5) (codes "nat-mul")
  built5 = of_numbers _ (inr (inr (inr (inl refl)))) (record {
    form = form_there names h ds numerals accepted d5 _ in5 refl;
    for_kind = k;
    there = k_there;
    is_kind = k_again;
    shapes = all_two (HasShape names k (declarations_at made (number d5))) _ _ (shape_there names h ds numerals accepted d5 d4 k _ in5 in4 (same_two d4 d5 nz_nat nz_nat nat nat refl one one refl refl) (is_nz, (is_nz, tt)) is_nz) (shape_there names h ds numerals accepted d5 d5 k _ in5 in5 (refl) (is_nat, (is_nat, tt)) is_nat);
  }) truth numbers

  built6 : HasBuiltIn names made (number d6) (codes "nat-quo")
  built6 = of_numbers _ (inr (inr (inr (inr (inl refl))))) (record {
    form = form_there names h ds numerals accepted d6 _ in6 refl;
    for_kind = k;
    there = k_there;
    is_kind = k_again;
    shapes = all_one (HasShape names k (declarations_at made (number d6))) _ (shape_there names h ds numerals accepted d6 d6 k _ in6 in6 (refl) (is_nat, (is_nz, tt)) is_nat);
  }) truth numbers

  built7 : HasBuiltIn names made (number d7) (codes "nat-rem")
  built7 = of_numbers _ (inr (inr (inr (inr (inr (inl refl)))))) (record {
    form = form_there names h ds numerals accepted d7 _ in7 refl;
    for_kind = k;
    there = k_there;
    is_kind = k_again;
    shapes = all_one (HasShape names k (declarations_at made (number d7))) _ (shape_there names h ds numerals accepted d7 d7 k _ in7 in7 (refl) (is_nat, (is_nz, tt)) is_nat);
  }) truth numbers

  built8 : HasBuiltIn names made (number d8) (codes "nat-pow")
  built8 = of_numbers _ (inr (inr (inr (inr (inr (inr (inl refl))))))) (record {
    form = form_there names h ds numerals accepted d8 _ in8 refl;
    for_kind = k;
    there = k_there;
    is_kind = k_again;
    shapes = all_two (HasShape names k (declarations_at made (number d8))) _ _ (shape_there names h ds numerals accepted d8 d8 k _ in8 in8 (refl) (is_nz, (is_nat, tt)) is_nz) (shape_there names h ds numerals accepted d8 d9 k _ in8 in9 (same_two d9 d8 nat nat nz_nat nat refl (sym one) refl refl refl) (is_nat, (is_nat, tt)) is_nat);
  }) truth numbers

  built9 : HasBuiltIn names made (number d9) (codes "nat-pow")
  built9 = of_numbers _ (inr (inr (inr (inr (inr (inr (inl refl))))))) (record {
    form = form_there names h ds numerals accepted d9 _ in9 refl;
    for_kind = k;
    there = k_there;
    is_kind = k_again;
    shapes = all_two (HasShape names k (declarations_at made (number d9))) _ _ (shape_there names h ds numerals accepted d9 d8 k _ in9 in8 (same_two d8 d9 nz_nat nat nat nat refl one refl refl refl) (is_nz, (is_nat, tt)) is_nz) (shape_there names h ds numerals accepted d9 d9 k _ in9 in9 (refl) (is_nat, (is_nat, tt)) is_nat);
  }) truth numbers

  built10 : HasBuiltIn names made (number d10) (codes "nat-gcd")
  built10 = of_numbers _ (inr (inr (inr (inr (inr (inr (inr (inl refl)))))))) (record {
    form = form_there names h ds numerals accepted d10 _ in10 refl;
    for_kind = k;
    there = k_there;
    is_kind = k_again;
    shapes = all_two (HasShape names k (declarations_at made (number d10))) _ _ (shape_there names h ds numerals accepted d10 d10 k _ in10 in10 (refl) (is_nz, (is_nat, tt)) is_nz) (shape_there names h ds numerals accepted d10 d11 k _ in10 in11 (same_two d11 d10 nat nat nz_nat nat refl (sym one) refl refl refl) (is_nat, (is_nat, tt)) is_nat);
  }) truth numbers

  built11 : HasBuiltIn names made (number d11) (codes "nat-gcd")
  built11 = of_numbers _ (inr (inr (inr (inr (inr (inr (inr (inl refl)))))))) (record {
    form = form_there names h ds numerals accepted d11 _ in11 refl;
    for_kind = k;
    there = k_there;
    is_kind = k_again;
    shapes = all_two (HasShape names k (declarations_at made (number d11))) _ _ (shape_there names h ds numerals accepted d11 d10 k _ in11 in10 (same_two d10 d11 nz_nat nat nat nat refl one refl refl refl) (is_nz, (is_nat, tt)) is_nz) (shape_there names h ds numerals accepted d11 d11 k _ in11 in11 (refl) (is_nat, (is_nat, tt)) is_nat);
  }) truth numbers

  built12 : HasBuiltIn names made (number d12) (codes "nat-min")
  built12 = of_numbers _ (inr (inr (inr (inr (inr (inr (inr (inr (inl refl))))))))) (record {
    form = form_there names h ds numerals accepted d12 _ in12 refl;
    for_kind = k;
    there = k_there;
    is_kind = k_again;
    shapes = all_two (HasShape names k (declarations_at made (number d12))) _ _ (shape_there names h ds numerals accepted d12 d12 k _ in12 in12 (refl) (is_nz, (is_nz, tt)) is_nz) (shape_there names h ds numerals accepted d12 d13 k _ in12 in13 (same_two d13 d12 nat nat nz_nat nz_nat refl (sym one) (sym one) refl refl) (is_nat, (is_nat, tt)) is_nat);
  }) truth numbers

  built13 : HasBuiltIn names made (number d13) (codes "nat-min")
  built13 = of_numbers _ (inr (inr (inr (inr (inr (inr (inr (inr (inl refl))))))))) (record {
    form = form_there names h ds numerals accepted d13 _ in13 refl;
    for_kind = k;
    there = k_there;
    is_kind = k_again;
    shapes = all_two (HasShape names k (declarations_at made (number d13))) _ _ (shape_there names h ds numerals accepted d13 d12 k _ in13 in12 (same_two d12 d13 nz_nat nz_nat nat nat refl one one refl refl) (is_nz, (is_nz, tt)) is_nz) (shape_there names h ds numerals accepted d13 d13 k _ in13 in13 (refl) (is_nat, (is_nat, tt)) is_nat);
  }) truth numbers

  built14 : HasBuiltIn names made (number d14) (codes "nat-max")
  built14 = of_numbers _ (inr (inr (inr (inr (inr (inr (inr (inr (inr (inl refl)))))))))) (record {
    form = form_there names h ds numerals accepted d14 _ in14 refl;
    for_kind = k;
    there = k_there;
    is_kind = k_again;
    shapes = all_two (HasShape names k (declarations_at made (number d14))) _ _ (shape_there names h ds numerals accepted d14 d14 k _ in14 in14 (refl) (is_nz, (is_nat, tt)) is_nz) (shape_there names h ds numerals accepted d14 d15 k _ in14 in15 (same_two d15 d14 nat nat nz_nat nat refl (sym one) refl refl refl) (is_nat, (is_nat, tt)) is_nat);
  }) truth numbers

  built15 : HasBuiltIn names made (number d15) (codes "nat-max")
  built15 = of_numbers _ (inr (inr (inr (inr (inr (inr (inr (inr (inr (inl refl)))))))))) (record {
    form = form_there names h ds numerals accepted d15 _ in15 refl;
    for_kind = k;
    there = k_there;
    is_kind = k_again;
    shapes = all_two (HasShape names k (declarations_at made (number d15))) _ _ (shape_there names h ds numerals accepted d15 d14 k _ in15 in14 (same_two d14 d15 nz_nat nat nat nat refl one refl refl refl) (is_nz, (is_nat, tt)) is_nz) (shape_there names h ds numerals accepted d15 d15 k _ in15 in15 (refl) (is_nat, (is_nat, tt)) is_nat);
  }) truth numbers

  built16 : HasBuiltIn names made (number d16) (codes "nat-lt")
  built16 = of_numbers _ (inr (inr (inr (inr (inr (inr (inr (inr (inr (inr (inl refl))))))))))) (record {
    form = form_there names h ds numerals accepted d16 _ in16 refl;
    for_kind = k;
    there = k_there;
    is_kind = k_again;
    shapes = all_one (HasShape names k (declarations_at made (number d16))) _ (shape_there names h ds numerals accepted d16 d16 k _ in16 in16 (refl) (is_nat, (is_nat, tt)) is_bool);
  }) truth numbers

  built17 : HasBuiltIn names made (number d17) (codes "nat-le")
  built17 = of_numbers _ (inr (inr (inr (inr (inr (inr (inr (inr (inr (inr (inr (inl refl)))))))))))) (record {
    form = form_there names h ds numerals accepted d17 _ in17 refl;
    for_kind = k;
    there = k_there;
    is_kind = k_again;
    shapes = all_one (HasShape names k (declarations_at made (number d17))) _ (shape_there names h ds numerals accepted d17 d17 k _ in17 in17 (refl) (is_nat, (is_nat, tt)) is_bool);
  }) truth numbers

  built18 : HasBuiltIn names made (number d18) (codes "nat-gt")
  built18 = of_numbers _ (inr (inr (inr (inr (inr (inr (inr (inr (inr (inr (inr (inr (inl refl))))))))))))) (record {
    form = form_there names h ds numerals accepted d18 _ in18 refl;
    for_kind = k;
    there = k_there;
    is_kind = k_again;
    shapes = all_one (HasShape names k (declarations_at made (number d18))) _ (shape_there names h ds numerals accepted d18 d18 k _ in18 in18 (refl) (is_nat, (is_nat, tt)) is_bool);
  }) truth numbers

  built19 : HasBuiltIn names made (number d19) (codes "nat-ge")
  built19 = of_numbers _ (inr (inr (inr (inr (inr (inr (inr (inr (inr (inr (inr (inr (inr (inl refl)))))))))))))) (record {
    form = form_there names h ds numerals accepted d19 _ in19 refl;
    for_kind = k;
    there = k_there;
    is_kind = k_again;
    shapes = all_one (HasShape names k (declarations_at made (number d19))) _ (shape_there names h ds numerals accepted d19 d19 k _ in19 in19 (refl) (is_nat, (is_nat, tt)) is_bool);
  }) truth numbers

  pub rows_built : (d : Decl) (name : List ℕ) → IsIn d number_declarations → d.attrs.builtin ≡ Some name → HasBuiltIn names made (number d) name
  rows_built d name (inl e) b = at_row d d0 name (codes "succ") e b refl built0
  rows_built d name (inr (inl e)) b = at_row d d1 name (codes "nat-add") e b refl built1
  rows_built d name (inr (inr (inl e))) b = at_row d d2 name (codes "nat-add") e b refl built2
  rows_built d name (inr (inr (inr (inl e)))) b = at_row d d3 name (codes "nat-sd") e b refl built3
  rows_built d name (inr (inr (inr (inr (inl e))))) b = at_row d d4 name (codes "nat-mul") e b refl built4
  rows_built d name (inr (inr (inr (inr (inr (inl e)))))) b = at_row d d5 name (codes "nat-mul") e b refl built5
  rows_built d name (inr (inr (inr (inr (inr (inr (inl e))))))) b = at_row d d6 name (codes "nat-quo") e b refl built6
  rows_built d name (inr (inr (inr (inr (inr (inr (inr (inl e)))))))) b = at_row d d7 name (codes "nat-rem") e b refl built7
  rows_built d name (inr (inr (inr (inr (inr (inr (inr (inr (inl e))))))))) b = at_row d d8 name (codes "nat-pow") e b refl built8
  rows_built d name (inr (inr (inr (inr (inr (inr (inr (inr (inr (inl e)))))))))) b = at_row d d9 name (codes "nat-pow") e b refl built9
  rows_built d name (inr (inr (inr (inr (inr (inr (inr (inr (inr (inr (inl e))))))))))) b = at_row d d10 name (codes "nat-gcd") e b refl built10
  rows_built d name (inr (inr (inr (inr (inr (inr (inr (inr (inr (inr (inr (inl e)))))))))))) b = at_row d d11 name (codes "nat-gcd") e b refl built11
  rows_built d name (inr (inr (inr (inr (inr (inr (inr (inr (inr (inr (inr (inr (inl e))))))))))))) b = at_row d d12 name (codes "nat-min") e b refl built12
  rows_built d name (inr (inr (inr (inr (inr (inr (inr (inr (inr (inr (inr (inr (inr (inl e)))))))))))))) b = at_row d d13 name (codes "nat-min") e b refl built13
  rows_built d name (inr (inr (inr (inr (inr (inr (inr (inr (inr (inr (inr (inr (inr (inr (inl e))))))))))))))) b = at_row d d14 name (codes "nat-max") e b refl built14
  rows_built d name (inr (inr (inr (inr (inr (inr (inr (inr (inr (inr (inr (inr (inr (inr (inr (inl e)))))))))))))))) b = at_row d d15 name (codes "nat-max") e b refl built15
  rows_built d name (inr (inr (inr (inr (inr (inr (inr (inr (inr (inr (inr (inr (inr (inr (inr (inr (inl e))))))))))))))))) b = at_row d d16 name (codes "nat-lt") e b refl built16
  rows_built d name (inr (inr (inr (inr (inr (inr (inr (inr (inr (inr (inr (inr (inr (inr (inr (inr (inr (inl e)))))))))))))))))) b = at_row d d17 name (codes "nat-le") e b refl built17
  rows_built d name (inr (inr (inr (inr (inr (inr (inr (inr (inr (inr (inr (inr (inr (inr (inr (inr (inr (inr (inl e))))))))))))))))))) b = at_row d d18 name (codes "nat-gt") e b refl built18
  rows_built d name (inr (inr (inr (inr (inr (inr (inr (inr (inr (inr (inr (inr (inr (inr (inr (inr (inr (inr (inr (inl e)))))))))))))))))))) b = at_row d d19 name (codes "nat-ge") e b refl built19
  rows_built d name (inr (inr (inr (inr (inr (inr (inr (inr (inr (inr (inr (inr (inr (inr (inr (inr (inr (inr (inr (inr e)))))))))))))))))))) b = absurd e
