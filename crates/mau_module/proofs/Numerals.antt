-- Numerals and the successor in a module of a text, and how many declarations it has.
use Rattle.std.proofs.Common.{◌≡◌, ◌<◌, ◌≤◌, ℕ, ◌+◌, ◌*◌, List, [], ◌∷◌, ◌++◌, Bool, true, false, cond, map, length, take, Option, Some, None, refl, sym, ◌∙◌, ap, ap₂, subst, inl, inr, arith, length-append}
use Rattle.std.specs.Prelude.{All, slice_get, codes}
use Rattle.std.specs.List.{flat_map, list_any, range_with_len}
use Rattle.std.specs.Option.{option_map_or}
use Rattle.std.proofs.lemmas.Bool.{true≢false, or_cases, or_left, or_right, cases_eq, false_from_ne_true}
use Rattle.std.proofs.lemmas.List.{length-map}
use Rattle.std.proofs.lemmas.List.Sums.{sum_by-cons}
use Rattle.std.proofs.lemmas.List.Elements.{All-head, All-tail}
use Rattle.std.proofs.lemmas.List.FromFn.{length-range_with_len}
use Rattle.mau_poset.specs.Order.{Hierarchy, kind_of, kinds}
use Rattle.mau_poset.specs.declared.TheConstants.{MAX_SORTS}
use Rattle.mau_poset.proofs.Orders.{kinds_before-le}
use Rattle.mau_terms.specs.Finite.{IsIn}
use Rattle.mau_signature.specs.declared.TheConstants.{MAX_DECLARATIONS}
use Rattle.mau_signature.specs.declared.decl.Decl.{Decl}
use Rattle.mau_signature.specs.Faults.{HasSorts, IsSort, is_text, successor, is_successor, IsSuccessorIn, AreNumerals}
use Rattle.mau_declare.specs.Names.{has_name}
use Rattle.mau_declare.specs.Elements.{Elements}
use Rattle.mau_declare.specs.Flattened.{declared_forms, declaration_at, declarations_in, declarations}
use Rattle.mau_declare.specs.declared.element.Operators.{Operators}
use Rattle.mau_renumber.specs.Carried.{declaration_to}
use Rattle.mau_module.specs.Modules.{ModuleOf}
use Rattle.mau_module.specs.Library.{nat}
use Rattle.mau_module.specs.Numbering.{number_in, number_to}
use Rattle.mau_module.specs.Included.{of_module, number_from, numeral_kind, numerals_of, has_part, has_truth}
use Rattle.mau_module.specs.Framed.{Frame, all_parts, own_count, included_declarations}
use Rattle.mau_module.specs.Truth.{if_declaration, comparison, truth_over}
use Rattle.mau_module.specs.Declarations.{declarations_of, hierarchy_over, if_truth, all_declarations}
use Rattle.mau_module.specs.Flattened.{hierarchy_in, own_in}
use Rattle.mau_module.specs.Made.{AreMade, IsClosed, DeclaresNumbers, kind_of_zero}
use Rattle.mau_module.specs.Ready.{AreNotBuiltIn}
use Rattle.mau_module.proofs.Members.{in_both, all_in, in_mapped, in_flattened}
use Rattle.mau_module.proofs.Numbers.{sort_number}
use Rattle.mau_module.proofs.Numberings.{IsNumbering, name_of_number, number_within, kinds_kept}
use Rattle.mau_module.proofs.Including.{out_of_it, length_take, there_below, IsPart, part_is, numbered}
use Rattle.mau_module.proofs.PreludeSigned.{in_all}
use Rattle.mau_module.proofs.Sourced.{name_there, part_in, in_part, own_of_part}

-- ---- lists

any_there : {A : Type 0} (p : A → Bool) (xs : List A) → list_any p xs ≡ true → (x : A) × IsIn x xs × (p x ≡ true)
any_there p [] e = absurd (true≢false (sym e))
any_there p (x ∷ xs) e = elim (or_cases (p x) (list_any p xs) e) [
  | inl y ↦ (x, inl refl, y)
  | inr y ↦ (let r = any_there p xs y in (r.0, inr r.1, r.2))
]

there_any : {A : Type 0} (p : A → Bool) (xs : List A) (x : A) → IsIn x xs → p x ≡ true → list_any p xs ≡ true
there_any p [] x i e = absurd i
there_any p (y ∷ xs) x (inl s) e = or_left (p y) (list_any p xs) (subst (λ z. p z ≡ true) s e)
there_any p (y ∷ xs) x (inr i) e = or_right (p y) (list_any p xs) (there_any p xs x i e)

-- ---- how many declarations there are

module _ (ms : List ModuleOf) (names : List (List ℕ)) (h : Hierarchy) where
  carried_count : (p : ℕ) → length (of_module ms (λ m. map (declaration_to (number_from m names h)) m.own.declarations) p) ≡ own_count (λ m. length m.own.declarations) ms p
  carried_count p = by (slice_get ms p)
    where
      by : (o : Option ModuleOf) → length (option_map_or (λ (m : ModuleOf). map (declaration_to (number_from m names h)) m.own.declarations) o []) ≡ option_map_or (λ (m : ModuleOf). length m.own.declarations) o 0
      by (Some m) = length-map m.own.declarations (declaration_to (number_from m names h))
      by None = refl

  parts_count : (parts : List ℕ) → length (declarations_of ms names h parts) ≡ included_declarations ms parts
  parts_count [] = refl
  parts_count (p ∷ parts) =
      length-append (of_module ms (λ m. map (declaration_to (number_from m names h)) m.own.declarations) p) (declarations_of ms names h parts)
      ∙ ap₂ (λ a b. a + b) (carried_count p) (parts_count parts)
      ∙ sym (sum_by-cons (own_count (λ m. length m.own.declarations) ms) p parts)

truth_count : (b : ℕ) (ks : List ℕ) → length (flat_map (truth_over b) ks) ≡ 3 * length ks
truth_count b [] = refl
truth_count b (k ∷ ks) = let r = truth_count b ks in omega (arith, r)

if_truth_count : (b : Bool) (h : Hierarchy) (names : List (List ℕ)) → length (if_truth b h names) ≤ 3 * kinds h
if_truth_count true h names =
    let r = truth_count (number_in names (codes "Bool")) (range_with_len h.sorts (kinds h)) in
    let n : length (range_with_len h.sorts (kinds h)) ≡ kinds h = length-range_with_len h.sorts (kinds h) in
    omega (arith, r, n)
if_truth_count false h names = omega arith

pub all_count : (ms : List ModuleOf) (parts : List ℕ) (names : List (List ℕ)) (h : Hierarchy) (own : List Decl) → h.sorts ≤ MAX_SORTS → included_declarations ms parts + length own ≤ 1000000
    → length (all_declarations ms parts names h own) ≤ MAX_DECLARATIONS
all_count ms parts names h own few count =
    let theirs = declarations_of ms names h parts in
    let truth = if_truth (has_truth (parts ++ length ms ∷ [])) h names in
    let a = length-append (theirs ++ own) truth in
    let b = length-append theirs own in
    let c = parts_count ms names h parts in
    let d = if_truth_count (has_truth (parts ++ length ms ∷ [])) h names in
    let k = kinds_before-le h.pairs h.sorts in
    omega (arith, a, b, c, d, k, few, count)

pub own_count_is : (h : Hierarchy) (numerals : Option ℕ) (os : List Operators) → length (declarations h numerals os) ≡ length (declared_forms os)
own_count_is h numerals [] = refl
own_count_is h numerals (o ∷ os) =
    length-append (declarations_in h numerals o) (declarations h numerals os)
    ∙ ap₂ (λ a b. a + b) (length-map o.forms (declaration_at h numerals o)) (own_count_is h numerals os)
    ∙ sym (length-append o.forms (declared_forms os))

-- ---- the successor

successor_built : (o : Option (List ℕ)) → is_text o successor ≡ true → (name : List ℕ) × (o ≡ Some name)
successor_built (Some x) e = (x, refl)
successor_built None e = absurd (true≢false (sym e))

no_successor_in_truth : (b k : ℕ) (d : Decl) → IsIn d (truth_over b k) → is_successor d.attrs ≡ true → ⊥
no_successor_in_truth b k d (inl e) s = let x : is_successor (if_declaration b k).attrs ≡ true = subst (λ (y : Decl). is_successor y.attrs ≡ true) e s in true≢false (sym x)
no_successor_in_truth b k d (inr (inl e)) s =
    let x : is_successor (comparison b k (codes "==") (codes "same")).attrs ≡ true = subst (λ (y : Decl). is_successor y.attrs ≡ true) e s in true≢false (sym x)
no_successor_in_truth b k d (inr (inr (inl e))) s =
    let x : is_successor (comparison b k (codes "=/=") (codes "differ")).attrs ≡ true = subst (λ (y : Decl). is_successor y.attrs ≡ true) e s in true≢false (sym x)
no_successor_in_truth b k d (inr (inr (inr e))) s = e

module _ (ms : List ModuleOf) (names : List (List ℕ)) (parts : List ℕ) (all_made : AreMade ms) (closed : IsClosed ms names parts) (pairs : List (ℕ × ℕ)) (own : List Decl)
    (far : 4 ≤ length ms) (plain : AreNotBuiltIn own) where
  abbrev h : Hierarchy
  h = hierarchy_over ms parts names pairs

  abbrev whole : List Decl
  whole = all_declarations ms parts names h own

  -- a part that is the module of numbers
  module _ (m : ModuleOf) (part : IsPart ms names parts nat m) where
    three : length (take nat ms) ≡ 3
    three = length_take ms nat (omega arith)

    its : DeclaresNumbers m
    its = part.made.numbers three

    abbrev old : Hierarchy
    old = m.signature.hierarchy

    abbrev number : ℕ → ℕ
    number = number_to m.sorts old names h

    numbering : IsNumbering m.sorts old names h
    numbering = numbered ms names parts all_made closed pairs nat m part

    named_again : (x : List ℕ) → has_name m.sorts x ≡ true → number (number_in m.sorts x) ≡ number_in names x
    named_again x e =
        let l : number_in m.sorts x < old.sorts = omega (arith, number_within m.sorts x e, numbering.old_named) in
        sort_number m.sorts old names h (number_in m.sorts x) l ∙ ap (number_in names) (name_of_number m.sorts x e)

    sort_there : (x : List ℕ) → has_name m.sorts x ≡ true → IsSort old (number_in m.sorts x)
    sort_there x e = omega (arith, number_within m.sorts x e, numbering.old_named)

    kind_moved : (x : List ℕ) → has_name m.sorts x ≡ true → kind_of h (number_in names x) ≡ number (kind_of old (number_in m.sorts x))
    kind_moved x e = ap (kind_of h) (sym (named_again x e)) ∙ kinds_kept m.sorts old names h numbering (number_in m.sorts x) (sort_there x e)

    zero_moved : kind_of h (number_in names (codes "Zero")) ≡ number (kind_of_zero m)
    zero_moved = kind_moved (codes "Zero") its.sorts.zero

    pub one_kind : kind_of h (number_in names (codes "Zero")) ≡ kind_of h (number_in names (codes "NzNat"))
    one_kind = zero_moved ∙ ap number its.one_kind ∙ sym (kind_moved (codes "NzNat") its.sorts.others)

    kinds_moved : (xs : List ℕ) → All (IsSort old) xs → map (kind_of h) (map number xs) ≡ map number (map (kind_of old) xs)
    kinds_moved [] a = refl
    kinds_moved (x ∷ xs) a = ap₂ (λ y ys. y ∷ ys) (kinds_kept m.sorts old names h numbering x (All-head (IsSort old) x xs a)) (kinds_moved xs (All-tail (IsSort old) x xs a))

    pub successor_moved : (d : Decl) → IsIn d m.own.declarations → IsSuccessorIn h (kind_of h (number_in names (codes "Zero"))) (declaration_to number d)
    successor_moved d i s =
        let has = all_in (HasSorts old) m.own.declarations d part.made.over.sorts i in
        let old_kind = all_in (IsSuccessorIn old (kind_of_zero m)) m.own.declarations d its.in_kind i s in (
          kinds_moved d.args has.arguments ∙ ap (map number) old_kind.0 ∙ ap (λ k. k ∷ []) (sym zero_moved),
          kinds_kept m.sorts old names h numbering d.result has.result ∙ ap number old_kind.1 ∙ sym zero_moved,
        )

    pub successor_there : list_any (λ (d : Decl). is_successor d.attrs) whole ≡ true
    successor_there =
        let r = any_there (λ (d : Decl). is_successor d.attrs) m.own.declarations its.successor in
        there_any (λ (d : Decl). is_successor d.attrs) whole (declaration_to number r.0) (own_of_part ms names parts all_made closed pairs own nat m r.0 part.among part.there r.1) r.2

    pub zero_there : number_in names (codes "Zero") < length names
    zero_there = number_within names (codes "Zero") (part.names_known (codes "Zero") (name_there m.sorts (codes "Zero") its.sorts.zero))

    pub other_there : number_in names (codes "NzNat") < length names
    other_there = number_within names (codes "NzNat") (part.names_known (codes "NzNat") (name_there m.sorts (codes "NzNat") its.sorts.others))

  -- the module of numbers, where it is included
  numbers_part : has_part (parts ++ length ms ∷ []) nat ≡ true → (m : ModuleOf) × IsPart ms names parts nat m
  numbers_part e = elim (in_both nat parts (length ms ∷ []) (part_in (parts ++ length ms ∷ []) nat e)) [
    | inl i ↦ part_is ms names parts all_made closed nat i
    | inr i ↦ absurd (last i)
  ]
    where
      last : IsIn nat (length ms ∷ []) → ⊥
      last (inl e) = omega (arith, e)
      last (inr e) = e

  pub names_there : has_part (parts ++ length ms ∷ []) nat ≡ true → 0 < length names
  names_there e = let r = numbers_part e in let l = zero_there r.0 r.1 in omega (arith, l)

  -- a declaration of the successor is one of the module of numbers
  from_numbers : (d : Decl) → IsIn d whole → is_successor d.attrs ≡ true → (m : ModuleOf) × IsPart ms names parts nat m × ((x : Decl) × IsIn x m.own.declarations × (d ≡ declaration_to (number_from m names h) x))
  from_numbers d i s = elim (in_both d (declarations_of ms names h parts ++ own) (if_truth (has_truth (parts ++ length ms ∷ [])) h names) i) [
    | inl j ↦ elim (in_both d (declarations_of ms names h parts) own j) [ inl k ↦ from_parts k | inr k ↦ absurd (none_of_own k) ]
    | inr j ↦ absurd (none_of_truth (has_truth (parts ++ length ms ∷ [])) j)
  ]
    where
      built : (name : List ℕ) × (d.attrs.builtin ≡ Some name)
      built = successor_built d.attrs.builtin s

      none_of_own : IsIn d own → ⊥
      none_of_own k = let e = sym built.1 ∙ plain d k in cc

      none_of_truth : (b : Bool) → IsIn d (if_truth b h names) → ⊥
      none_of_truth true j =
          let f = in_flattened (truth_over (number_in names (codes "Bool"))) (range_with_len h.sorts (kinds h)) d j in
          no_successor_in_truth (number_in names (codes "Bool")) f.0 d f.2 s
      none_of_truth false j = j

      from_parts : IsIn d (declarations_of ms names h parts) → (m : ModuleOf) × IsPart ms names parts nat m × ((x : Decl) × IsIn x m.own.declarations × (d ≡ declaration_to (number_from m names h) x))
      from_parts k =
          let f = in_flattened (of_module ms (λ n. map (declaration_to (number_from n names h)) n.own.declarations)) parts d k in
          let p = part_is ms names parts all_made closed f.0 f.1 in
          let g = in_mapped (declaration_to (number_from p.0 names h)) p.0.own.declarations d (out_of_it ms (λ n. map (declaration_to (number_from n names h)) n.own.declarations) f.0 p.0 d p.1.there f.2) in
          elim (cases_eq f.0 nat) [
            | inl e ↦ (p.0, subst (λ q. IsPart ms names parts q p.0) e p.1, (g.0, g.1, g.2))
            | inr n ↦ absurd (p.1.made.plain (λ e. n (sym (length_take ms f.0 (there_below ms f.0 p.0 p.1.there)) ∙ e)) g.0 built.0 g.1 (ap (λ (x : Decl). x.attrs.builtin) (sym g.2) ∙ built.1))
          ]

  part_number : (m : ModuleOf) → IsPart ms names parts nat m → has_part (parts ++ length ms ∷ []) nat ≡ true
  part_number m p = in_part (parts ++ length ms ∷ []) nat (Rattle.mau_terms.proofs.Finite.in_left nat parts (length ms ∷ []) p.among)

  pub numerals_right : AreNumerals h whole (numerals_of names (parts ++ length ms ∷ []))
  numerals_right = by (has_part (parts ++ length ms ∷ []) nat) refl
    where
      by : (b : Bool) → has_part (parts ++ length ms ∷ []) nat ≡ b → AreNumerals h whole (cond b (Some (number_in names (codes "Zero"), number_in names (codes "NzNat"))) None)
      by true e =
          let r = numbers_part e in
          let z = zero_there r.0 r.1 in
          let o = other_there r.0 r.1 in (
            omega (arith, z),
            omega (arith, o),
            one_kind r.0 r.1,
            successor_there r.0 r.1,
            in_all (IsSuccessorIn h (kind_of h (number_in names (codes "Zero")))) whole (λ d i s.
                let f = from_numbers d i s in
                subst (IsSuccessorIn h (kind_of h (number_in names (codes "Zero")))) (sym f.2.2) (successor_moved f.0 f.1 f.2.0 f.2.1) s),
          )
      by false e = in_all (λ (d : Decl). is_successor d.attrs ≡ false) whole (λ d i. false_from_ne_true (is_successor d.attrs) (λ s.
          let f = from_numbers d i s in true≢false (sym (part_number f.0 f.1) ∙ e)))

-- where numerals suit the sorts, there are names
pub some_names : (h : Hierarchy) (ds : List Decl) (names : List (List ℕ)) (ps : List ℕ) → AreNumerals h ds (numerals_of names ps) → length names ≡ h.sorts → has_part ps nat ≡ true → 0 < length names
some_names h ds names ps a n e =
    let b = subst (λ b. AreNumerals h ds (cond b (Some (number_in names (codes "Zero"), number_in names (codes "NzNat"))) None)) e a in
    let z = b.0 in
    let k = kinds_before-le h.pairs h.sorts in
    omega (arith, z, k, n)

-- ---- as a module of a text is signed

module _ (ms : List ModuleOf) (f : Frame) (e : Elements) (names : List (List ℕ)) (parts : List ℕ) (n : names ≡ f.names) (p : parts ≡ f.parts) (made : AreMade ms)
    (closed : IsClosed ms f.names f.parts) (far : 4 ≤ length ms) (plain : AreNotBuiltIn (own_in ms f e)) where
  pub text_names : has_part (parts ++ length ms ∷ []) nat ≡ true → 0 < length names
  text_names i =
      let r = names_there ms f.names f.parts made closed e.pairs (own_in ms f e) far plain (subst (λ ps. has_part (ps ++ length ms ∷ []) nat ≡ true) p i) in
      subst (λ ns. 0 < length ns) (sym n) r

  module _ (h : Hierarchy) (o : h ≡ hierarchy_in ms f e) (ds : List Decl) (d : ds ≡ own_in ms f e) where
    abbrev all_of : List (List ℕ) → List ℕ → Hierarchy → List Decl → List Decl
    all_of ns ps k xs = all_declarations ms ps ns k xs

    pub text_numerals : AreNumerals h (all_declarations ms parts names h ds) (numerals_of names (parts ++ length ms ∷ []))
    text_numerals =
        let k = hierarchy_in ms f e in
        let xs = own_in ms f e in
        subst (λ ns. AreNumerals h (all_of ns parts h ds) (numerals_of ns (parts ++ length ms ∷ []))) (sym n)
        (subst (λ ps. AreNumerals h (all_of f.names ps h ds) (numerals_of f.names (ps ++ length ms ∷ []))) (sym p)
        (subst (λ x. AreNumerals x (all_of f.names f.parts x ds) (numerals_of f.names (f.parts ++ length ms ∷ []))) (sym o)
        (subst (λ x. AreNumerals k (all_of f.names f.parts k x) (numerals_of f.names (f.parts ++ length ms ∷ []))) (sym d)
        (numerals_right ms f.names f.parts made closed e.pairs xs far plain))))

    pub text_short : length f.names ≤ MAX_SORTS → included_declarations ms f.parts + length (declared_forms e.operators) ≤ 1000000 → length (all_declarations ms parts names h ds) ≤ MAX_DECLARATIONS
    text_short few count =
        let many : length ds ≡ length (declared_forms e.operators) =
        ap length d ∙ own_count_is (hierarchy_in ms f e) (numeral_kind (hierarchy_in ms f e) (numerals_of f.names (all_parts ms f.parts))) e.operators in
        let sorts : h.sorts ≡ length f.names = ap (λ (x : Hierarchy). x.sorts) o in
        let parts_same : included_declarations ms parts ≡ included_declarations ms f.parts = ap (included_declarations ms) p in
        all_count ms parts names h ds (omega (arith, sorts, few)) (omega (arith, many, parts_same, count))
