-- What is built in of the operators of a module.
use Rattle.std.proofs.Common.{◌≡◌, ◌<◌, ◌≤◌, ℕ, ◌+◌, suc, List, [], ◌∷◌, ◌++◌, Bool, true, false, ◌&&◌, map, length, take, get_or, Option, Some, refl, sym, ◌∙◌, ap, ap₂, subst, inl, inr, arith}
use Rattle.std.specs.Prelude.{All, codes, bytes_eq}
use Rattle.std.specs.List.{position_or_len, range_with_len}
use Rattle.std.specs.Option.{option_map_or}
use Rattle.std.proofs.lemmas.Bool.{lt-ltb, le-leb}
use Rattle.std.proofs.lemmas.List.Quantifiers.{position-Some}
use Rattle.std.proofs.lemmas.Slice.Eq.{bytes_eq-Decides}
use Rattle.std.proofs.lemmas.Option.{slice_get-get_or}
use Rattle.mau_poset.specs.Order.{Hierarchy, kind_of, kinds}
use Rattle.mau_poset.proofs.Orders.{kind_of-kind}
use Rattle.mau_terms.specs.Tree.{no_trees}
use Rattle.mau_terms.specs.Bare.{AreBareIn}
use Rattle.mau_terms.specs.Finite.{IsIn}
use Rattle.mau_terms.proofs.Finite.{in_left, in_right}
use Rattle.mau_signature.specs.declared.decl.Decl.{Decl}
use Rattle.mau_signature.specs.declared.form.Piece.{Piece}
use Rattle.mau_signature.specs.declared.form.Piece.TheVariants.{Word}
use Rattle.mau_signature.specs.Attributes.{united, with_attributes}
use Rattle.mau_signature.specs.Names.{Operator, if_constant, operator_of, constant_of, same_operator, operators_of, declarations_of, place_of}
use Rattle.mau_signature.specs.Signature.{SignatureOf, IsOperator, IsAlike, declarations_at, form_of, arguments_of, result_of, attributes_of, terms_over}
use Rattle.mau_signature.proofs.Same.{same_operator-is}
use Rattle.mau_sigcheck.specs.Built.{IsBuiltAndAccepted}
use Rattle.mau_declare.specs.Flattened.{name_at}
use Rattle.mau_renumber.specs.Carried.{declaration_to}
use Rattle.mau_program.specs.BuiltIns.{Place, sort, kind, Shape, Row, IsNamed, IsAt, AreAt, HasShape, IsDeclaredBy, IsConstantIn, HasTruth, HasNumbers, HasBuiltIn, of_truth_values, of_numbers, AreBuiltIn}
use Rattle.mau_signing.specs.Signed.{signature_over}
use Rattle.mau_module.specs.Modules.{ModuleOf}
use Rattle.mau_module.specs.Numbering.{number_in, number_to}
use Rattle.mau_module.specs.Included.{of_module, number_from, numerals_of, has_truth}
use Rattle.mau_module.specs.Truth.{truth_over}
use Rattle.mau_module.specs.Declarations.{declarations_of as declarations_of_parts, hierarchy_over, if_truth, all_declarations, given_over}
use Rattle.mau_module.specs.Made.{number_at, AreMade, IsClosed}
use Rattle.mau_module.proofs.Alls.{all_one}
use Rattle.mau_module.proofs.Members.{in_both, in_filtered, in_mapped, in_flattened, range_in}
use Rattle.mau_module.proofs.Numbers.{sort_number}
use Rattle.mau_module.proofs.Numberings.{IsNumbering, number_found, kinds_kept, number_there, name_in}
use Rattle.mau_module.proofs.Including.{out_of_it, IsPart, part_is, hierarchy_is, part_numbering}
use Rattle.mau_module.proofs.Sources as Sources
use Rattle.mau_module.proofs.Sourced.{truth_name}
use Rattle.mau_module.proofs.Keeping.{moved, move, operator_moved, at, has_sorts_of, first_has, image, image_there, kept}

-- ---- over the signature of some declarations

module _ (names : List (List ℕ)) (h : Hierarchy) (ds : List Decl) (numerals : Option (ℕ × ℕ)) (accepted : IsBuiltAndAccepted (Rattle.mau_signature.specs.Signature.signature_of h ds numerals)) where
  abbrev made : SignatureOf
  made = Rattle.mau_signature.specs.Signature.signature_of h ds numerals

  alike : (n : ℕ) → IsOperator made n → All (IsAlike h (declarations_at made n)) (declarations_at made n)
  alike n o = (accepted.declared n o).alike

  abbrev number : Decl → ℕ
  number d = Sources.place h ds numerals d + 1

  -- a word that is declared without arguments is a constant
  pub constant_there : (d : Decl) (w : List ℕ) → IsIn d ds → d.form ≡ Word w ∷ [] → d.args ≡ [] → IsConstantIn made w (kind_of h d.result)
  constant_there d w i form args =
      let k = kind_of h d.result in
      let with_parts : List Piece → List ℕ → Operator = λ f as_. record { form = f; arguments = map (kind_of h) as_; constant = if_constant as_ k } in
      let is : operator_of h d ≡ constant_of (Word w ∷ []) k = ap₂ with_parts form args in
      let p = Sources.place h ds numerals d in
      let next : p + 1 ≡ suc p = omega arith in
      let o = Sources.is_operator_of h ds numerals d i in
      let none = Sources.arguments_at h ds numerals alike d i ∙ ap (map (kind_of h)) args in
      record {
        place = p;
        found = subst (λ f. place_of made.names f ≡ Some p) is (Sources.position_there (same_operator (operator_of h d)) (operators_of h ds) (Sources.operator_there h ds numerals d i));
        bare = (
          ap₂ (λ x y. x && y) (lt-ltb 0 (suc p) (omega arith)) (le-leb (suc p) (length made.declarations) (omega (arith, o.1))),
          ap (λ n. kind_of h (result_of (declarations_at made n))) (sym next) ∙ Sources.result_at h ds numerals alike d i,
          subst (AreBareIn (terms_over made) no_trees) (sym (ap (λ n. map (kind_of h) (arguments_of (declarations_at made n))) (sym next) ∙ none)) tt,
        );
      }

  -- a declaration has its own shape
  pub shape_there : (d e : Decl) (k : ℕ) (shape : Shape) → IsIn d ds → IsIn e ds → operator_of h e ≡ operator_of h d → AreAt names k shape.args e.args → IsAt names k shape.result e.result
      → HasShape names k (declarations_at made (number d)) shape
  shape_there d e k shape i j same args result = record {
    declaration = with_attributes (united (declarations_of h ds (operator_of h d))) e;
    declared = Sources.in_group_at h ds numerals d e i j same;
    args = args;
    result = result;
  }

  pub form_there : (d : Decl) (form : List Piece) → IsIn d ds → d.form ≡ form → form_of (declarations_at made (number d)) ≡ form
  form_there d form i e = Sources.form_at h ds numerals alike d i ∙ e

  -- an operator with the same declarations has the same built in
  pub same_built : (f g : ℕ) (name : List ℕ) → declarations_at made f ≡ declarations_at made g → HasBuiltIn names made g name → HasBuiltIn names made f name
  same_built f g _ e (of_truth_values r i d t) = of_truth_values r i (declared_same f g r e d) t
    where
      declared_same : (f g : ℕ) (r : Row) → declarations_at made f ≡ declarations_at made g → IsDeclaredBy names made g r → IsDeclaredBy names made f r
      declared_same f g r e d = record {
        form = ap form_of e ∙ d.form;
        for_kind = d.for_kind;
        there = d.there;
        is_kind = d.is_kind;
        shapes = subst (λ xs. All (HasShape names d.for_kind xs) r.shapes) (sym e) d.shapes;
      }
  same_built f g _ e (of_numbers r i d t n) = of_numbers r i (declared_same f g r e d) t n
    where
      declared_same : (f g : ℕ) (r : Row) → declarations_at made f ≡ declarations_at made g → IsDeclaredBy names made g r → IsDeclaredBy names made f r
      declared_same f g r e d = record {
        form = ap form_of e ∙ d.form;
        for_kind = d.for_kind;
        there = d.there;
        is_kind = d.is_kind;
        shapes = subst (λ xs. All (HasShape names d.for_kind xs) r.shapes) (sym e) d.shapes;
      }

  -- the operators of truth values over a kind
  module _ (bool k : ℕ) (named : IsNamed names (codes "Bool") bool) (above : h.sorts ≤ k) (below : k < h.sorts + kinds h) (has : HasTruth names made) where
    pub truth_built : (d : Decl) (name : List ℕ) → IsIn d ds → d.attrs.builtin ≡ Some name → IsIn d (truth_over bool k) → HasBuiltIn names made (number d) name
    truth_built d name i b (inl e) =
        let its : codes "branch" ≡ name = let x = ap (λ (y : Decl). y.attrs.builtin) (sym e) ∙ b in cc in
        subst (HasBuiltIn names made (number d)) its (of_truth_values _ (inl refl) (record {
          form = form_there d _ i (ap (λ (y : Decl). y.form) e);
          for_kind = k;
          there = below;
          is_kind = kind_of-kind h k above;
          shapes = all_one (HasShape names k (declarations_at made (number d))) _
              (shape_there d d k _ i i refl (subst (λ (y : Decl). AreAt names k (sort (codes "Bool") ∷ kind ∷ kind ∷ []) y.args) (sym e) (named, (refl, (refl, tt)))) (ap (λ (y : Decl). y.result) e));
        }) has)
    truth_built d name i b (inr (inl e)) =
        let its : codes "same" ≡ name = let x = ap (λ (y : Decl). y.attrs.builtin) (sym e) ∙ b in cc in
        subst (HasBuiltIn names made (number d)) its (of_truth_values _ (inr (inl refl)) (record {
          form = form_there d _ i (ap (λ (y : Decl). y.form) e);
          for_kind = k;
          there = below;
          is_kind = kind_of-kind h k above;
          shapes = all_one (HasShape names k (declarations_at made (number d))) _
              (shape_there d d k _ i i refl (subst (λ (y : Decl). AreAt names k (kind ∷ kind ∷ []) y.args) (sym e) (refl, (refl, tt)))
              (subst (λ (y : Decl). IsNamed names (codes "Bool") y.result) (sym e) named));
        }) has)
    truth_built d name i b (inr (inr (inl e))) =
        let its : codes "differ" ≡ name = let x = ap (λ (y : Decl). y.attrs.builtin) (sym e) ∙ b in cc in
        subst (HasBuiltIn names made (number d)) its (of_truth_values _ (inr (inr (inl refl))) (record {
          form = form_there d _ i (ap (λ (y : Decl). y.form) e);
          for_kind = k;
          there = below;
          is_kind = kind_of-kind h k above;
          shapes = all_one (HasShape names k (declarations_at made (number d))) _
              (shape_there d d k _ i i refl (subst (λ (y : Decl). AreAt names k (kind ∷ kind ∷ []) y.args) (sym e) (refl, (refl, tt)))
              (subst (λ (y : Decl). IsNamed names (codes "Bool") y.result) (sym e) named));
        }) has)
    truth_built d name i b (inr (inr (inr e))) = absurd e

-- ---- a part and the whole

module _ (ms : List ModuleOf) (names : List (List ℕ)) (parts : List ℕ) (all_made : AreMade ms) (closed : IsClosed ms names parts) (pairs : List (ℕ × ℕ)) (own : List Decl)
    (accepted : IsBuiltAndAccepted (signature_over (given_over ms parts names (hierarchy_over ms parts names pairs) own))) where
  abbrev h : Hierarchy
  h = hierarchy_over ms parts names pairs

  abbrev whole : List Decl
  whole = all_declarations ms parts names h own

  abbrev numerals : Option (ℕ × ℕ)
  numerals = numerals_of names (parts ++ length ms ∷ [])

  abbrev s : SignatureOf
  s = signature_over (given_over ms parts names h own)

  module _ (q : ℕ) (m : ModuleOf) (part : IsPart ms names parts q m) where
    abbrev over : Hierarchy
    over = hierarchy_over (take q ms) part.made.included m.sorts m.own.pairs

    abbrev source : List Decl
    source = all_declarations (take q ms) part.made.included m.sorts over m.own.declarations

    abbrev their_numerals : Option (ℕ × ℕ)
    their_numerals = numerals_of m.sorts (part.made.included ++ length (take q ms) ∷ [])

    abbrev old : SignatureOf
    old = signature_over (given_over (take q ms) part.made.included m.sorts over m.own.declarations)

    abbrev to : ℕ → ℕ
    to = number_to m.sorts over names h

    numbering : IsNumbering m.sorts over names h
    numbering = part_numbering ms names parts all_made closed pairs q m part

    -- a sort with a name has it again
    name_moved : (x : List ℕ) (a : ℕ) → IsNamed m.sorts x a → (a < over.sorts) × IsNamed names x (to a)
    name_moved x a e =
        let r = position-Some (bytes_eq x) m.sorts a [] e in
        let is : name_at m.sorts a ≡ x = ap (λ o. option_map_or (λ y. y) o []) (slice_get-get_or m.sorts a [] r.0) ∙ sym ((bytes_eq-Decides x (get_or m.sorts a [])).0 r.1) in
        let there = part.names_known x (subst (λ y. IsIn y m.sorts) is (name_in m.sorts a r.0)) in
        (r.0, number_found names x there ∙ ap Some (ap (number_in names) (sym is) ∙ sym (sort_number m.sorts over names h a r.0)))

    place_moved : (k a : ℕ) (p : Place) → IsAt m.sorts k p a → IsAt names (to k) p (to a)
    place_moved k a (sort x) e = (name_moved x a e).1
    place_moved k a kind e = ap to e

    places_moved : (k : ℕ) (ps : List Place) (as_ : List ℕ) → AreAt m.sorts k ps as_ → AreAt names (to k) ps (map to as_)
    places_moved k [] [] e = tt
    places_moved k [] (a ∷ as_) e = absurd e
    places_moved k (p ∷ ps) [] e = absurd e
    places_moved k (p ∷ ps) (a ∷ as_) e = (place_moved k a p e.0, places_moved k ps as_ e.1)

    numbers_moved : HasNumbers m.sorts old → HasNumbers names s
    numbers_moved n =
        let a = name_moved (codes "Nat") n.nat n.named in
        let b = name_moved (codes "NzNat") n.nz_nat n.nz_named in
        let ka = kinds_kept m.sorts over names h numbering n.nat (omega (arith, a.0)) in
        let kb = kinds_kept m.sorts over names h numbering n.nz_nat (omega (arith, b.0)) in
        record {
          nat = to n.nat;
          named = a.1;
          nz_nat = to n.nz_nat;
          nz_named = b.1;
          one_kind = kb ∙ ap to n.one_kind ∙ sym ka;
          numerals = (kept ms names parts all_made closed pairs own accepted q m part).numerals (kind_of over n.nat) n.numerals ∙ ap Some (sym ka);
        }

    -- an operator of the part
    module _ (g : ℕ) (o : IsOperator old g) where
      abbrev its_image : Decl
      its_image = image ms names parts all_made closed pairs own accepted q m part g o

      abbrev new_number : ℕ
      new_number = Sources.place h whole numerals its_image + 1

      there_again : IsIn its_image whole
      there_again = image_there ms names parts all_made closed pairs own accepted q m part g o

      its_first : Sources.AreOf over source their_numerals g
      its_first = at ms names parts all_made closed pairs own accepted q m part g o

      abbrev its_move : Operator → Operator
      its_move = move ms names parts all_made closed pairs own accepted q m part

      image_moved : operator_of h its_image ≡ its_move (operator_of over its_first.first)
      unfolding its_first
      image_moved = operator_moved ms names parts all_made closed pairs own accepted q m part its_first.first (first_has ms names parts all_made closed pairs own accepted q m part g o)

      same_moved : (e : Decl) → IsIn e source → operator_of over e ≡ operator_of over its_first.first → operator_of h (declaration_to to e) ≡ operator_of h its_image
      unfolding its_first
      same_moved e i same =
          operator_moved ms names parts all_made closed pairs own accepted q m part e (has_sorts_of ms names parts all_made closed pairs own accepted q m part g o e i same)
          ∙ ap its_move same ∙ sym image_moved

      shape_moved : (k : ℕ) (shape : Shape) → HasShape m.sorts k (declarations_at old g) shape → HasShape names (to k) (declarations_at s new_number) shape
      shape_moved k shape has =
          let f = operator_of over its_first.first in
          let a = united (declarations_of over source f) in
          let r = in_mapped (with_attributes a) (declarations_of over source f) has.declaration (subst (IsIn has.declaration) its_first.whole has.declared) in
          let e = r.0 in
          let there = in_filtered (λ x. same_operator f (operator_of over x)) source e r.1 in
          let same = sym (same_operator-is f (operator_of over e) there.1) in
          let again = moved ms names parts all_made closed pairs own accepted q m part e there.0 in
          shape_there names h whole numerals accepted its_image (declaration_to to e) (to k) shape there_again again (same_moved e there.0 same)
          (places_moved k shape.args e.args (subst (λ (x : Decl). AreAt m.sorts k shape.args x.args) r.2 has.args))
          (place_moved k e.result shape.result (subst (λ (x : Decl). IsAt m.sorts k shape.result x.result) r.2 has.result))

      declared_moved : (r : Row) → IsDeclaredBy m.sorts old g r → IsDeclaredBy names s new_number r
      unfolding its_first
      declared_moved r d = record {
        form = form_there names h whole numerals accepted its_image r.form there_again (sym (ap form_of its_first.declared) ∙ d.form);
        for_kind = to d.for_kind;
        there = number_there m.sorts over names h numbering d.for_kind d.there;
        is_kind = kinds_kept m.sorts over names h numbering d.for_kind d.there ∙ ap to d.is_kind;
        shapes = λ i x w. shape_moved d.for_kind (get_or r.shapes i x) (d.shapes i x w);
      }

      pub built_moved : (name : List ℕ) → HasTruth names s → HasBuiltIn m.sorts old g name → HasBuiltIn names s new_number name
      built_moved _ t (of_truth_values r i d u) = of_truth_values r i (declared_moved r d) t
      built_moved _ t (of_numbers r i d u n) = of_numbers r i (declared_moved r d) t (numbers_moved n)

    -- one of the part's own declarations
    pub own_built_moved : (d : Decl) (name : List ℕ) → IsIn d m.own.declarations → d.attrs.builtin ≡ Some name → HasTruth names s
        → HasBuiltIn names s (Sources.place h whole numerals (declaration_to to d) + 1) name
    own_built_moved d name i e t =
        let there : IsIn d source = in_left d (declarations_of_parts (take q ms) m.sorts over part.made.included ++ m.own.declarations) (if_truth (has_truth (part.made.included ++ length (take q ms) ∷ [])) over m.sorts)
        (in_right d (declarations_of_parts (take q ms) m.sorts over part.made.included) m.own.declarations i) in
        let g = Sources.place over source their_numerals d + 1 in
        let o = Sources.is_operator_of over source their_numerals d there in
        let built = subst (λ (x : SignatureOf). HasBuiltIn m.sorts x (number_at x d) name) part.made.signature (part.made.built_ins d name i e) in
        let same : operator_of over d ≡ operator_of over (its_first g o).first = Sources.at_place over source their_numerals d there ∙ sym (its_first g o).its in
        let place_same = ap (λ f. position_or_len (same_operator f) (operators_of h whole) + 1) (same_moved g o d there same) in
        subst (λ n. HasBuiltIn names s n name) (sym place_same) (built_moved g o name t built)

  -- ---- truth values

  pub truth_there : IsIn 0 parts → HasTruth names s
  truth_there i =
      let p = part_is ms names parts all_made closed 0 i in
      let m = p.0 in
      let part = p.1 in
      let t = part.made.truth refl in
      let b = number_in m.sorts (codes "Bool") in
      let r = name_moved 0 m part (codes "Bool") b (number_found m.sorts (codes "Bool") t.sort) in
      let to_new = to 0 m part in
      let in_source : (d : Decl) → IsIn d m.own.declarations → IsIn d (source 0 m part) = λ d j.
      in_left d (declarations_of_parts (take 0 ms) m.sorts (over 0 m part) part.made.included ++ m.own.declarations) (if_truth (has_truth (part.made.included ++ length (take 0 ms) ∷ [])) (over 0 m part) m.sorts)
      (in_right d (declarations_of_parts (take 0 ms) m.sorts (over 0 m part) part.made.included) m.own.declarations j) in
      let again : (d : Decl) → IsIn d m.own.declarations → IsIn (declaration_to to_new d) whole = λ d j.
      moved ms names parts all_made closed pairs own accepted 0 m part d (in_source d j) in
      record {
        bool = to_new b;
        named = r.1;
        yes = subst (λ x. IsConstantIn s (codes "true") (kind_of h (to_new x))) t.yes.result
            (constant_there names h whole numerals accepted (declaration_to to_new t.yes.declaration) (codes "true") (again t.yes.declaration t.yes.declared) t.yes.form (ap (map to_new) t.yes.args));
        no = subst (λ x. IsConstantIn s (codes "false") (kind_of h (to_new x))) t.no.result
            (constant_there names h whole numerals accepted (declaration_to to_new t.no.declaration) (codes "false") (again t.no.declaration t.no.declared) t.no.form (ap (map to_new) t.no.args));
      }

  -- ---- all operators

  module _ (first : IsIn 0 parts)
      (own_built : (d : Decl) (name : List ℕ) → IsIn d own → d.attrs.builtin ≡ Some name → HasTruth names s → HasBuiltIn names s (Sources.place h whole numerals d + 1) name) where
    from_parts : (d : Decl) (name : List ℕ) → IsIn d (declarations_of_parts ms names h parts) → d.attrs.builtin ≡ Some name → HasBuiltIn names s (Sources.place h whole numerals d + 1) name
    from_parts d name i b =
        let f = in_flattened (of_module ms (λ m. map (declaration_to (number_from m names h)) m.own.declarations)) parts d i in
        let p = part_is ms names parts all_made closed f.0 f.1 in
        let m = p.0 in
        let g = in_mapped (declaration_to (number_from m names h)) m.own.declarations d (out_of_it ms (λ m. map (declaration_to (number_from m names h)) m.own.declarations) f.0 m d p.1.there f.2) in
        let is : d ≡ declaration_to (to f.0 m p.1) g.0 = g.2 ∙ ap (λ (x : Hierarchy). declaration_to (number_to m.sorts x names h) g.0) (hierarchy_is ms names parts all_made closed pairs f.0 m p.1) in
        subst (λ (x : Decl). HasBuiltIn names s (Sources.place h whole numerals x + 1) name) (sym is)
        (own_built_moved f.0 m p.1 g.0 name g.1 (ap (λ (x : Decl). x.attrs.builtin) (sym is) ∙ b) (truth_there first))

    from_truth : (d : Decl) (name : List ℕ) (b : Bool) → IsIn d whole → IsIn d (if_truth b h names) → d.attrs.builtin ≡ Some name → HasBuiltIn names s (Sources.place h whole numerals d + 1) name
    from_truth d name false w i b = absurd i
    from_truth d name true w i b =
        let f = in_flattened (truth_over (number_in names (codes "Bool"))) (range_with_len h.sorts (kinds h)) d i in
        let r = range_in h.sorts (kinds h) f.0 f.1 in
        truth_built names h whole numerals accepted (number_in names (codes "Bool")) f.0 (number_found names (codes "Bool") (truth_name ms names parts all_made closed first)) (omega (arith, r.0)) r.1
        (truth_there first) d name w b f.2

    declared_built : (d : Decl) (name : List ℕ) → IsIn d whole → d.attrs.builtin ≡ Some name → HasBuiltIn names s (Sources.place h whole numerals d + 1) name
    declared_built d name i b = elim (in_both d (declarations_of_parts ms names h parts ++ own) (if_truth (has_truth (parts ++ length ms ∷ [])) h names) i) [
      | inl j ↦ elim (in_both d (declarations_of_parts ms names h parts) own j) [ inl k ↦ from_parts d name k b | inr k ↦ own_built d name k b (truth_there first) ]
      | inr j ↦ from_truth d name (has_truth (parts ++ length ms ∷ [])) i j b
    ]

    pub all_built : AreBuiltIn names s
    all_built f name o e =
        let r = Sources.built_given h whole numerals f name o e in
        same_built names h whole numerals accepted f (Sources.place h whole numerals r.0 + 1) name r.3 (declared_built r.0 name r.1 r.2)
