-- The sorts of declared strategies are sorts of the module: those of its parts in its numbers, and its own.
use Rattle.std.proofs.Common.{◌≡◌, ◌<◌, ℕ, ◌+◌, List, [], ◌∷◌, ◌++◌, Option, Some, None, Bool, true, false, length, get_or, map, refl, sym, subst, arith}
use Rattle.std.specs.Prelude.{All, codes, fold, slice_get, bytes_eq, nat_lt, if◌then◌else◌}
use Rattle.std.proofs.lemmas.List.Elements.{All-nil, All-append, All-map}
use Rattle.std.proofs.lemmas.List.Quantifiers.{position-Some}
use Rattle.mau_tokens.specs.declared.token.Token.{Token}
use Rattle.mau_poset.specs.Order.{Hierarchy, kind_of, kinds}
use Rattle.mau_poset.proofs.Orders.{kind_of-in_range}
use Rattle.mau_signature.specs.Faults.{IsSort}
use Rattle.std.specs.Option.{option_map_or}
use Rattle.mau_signature.specs.Signature.{SignatureOf}
use Rattle.mau_modtext.specs.Word.{Word}
use Rattle.mau_modtext.specs.declared.raw.RawElement.{RawElement}
use Rattle.mau_modtext.specs.declared.raw.RawElement.TheVariants.{Import, Sorts, Subsorts, Ops, Vars, Statement, Strats}
use Rattle.mau_modtext.specs.declared.raw.RawStrats.{RawStrats}
use Rattle.mau_declare.specs.Words.{first_text}
use Rattle.mau_declare.specs.Flattened.{name_at}
use Rattle.mau_declare.specs.Names.{number_of}
use Rattle.mau_program.specs.BuiltIns.{HasTruth}
use Rattle.mau_program.specs.declared.definitions.StratDecl.{StratDecl}
use Rattle.mau_renumber.specs.Strategies.{strategy_declaration_to}
use Rattle.mau_strattext.specs.Setting.{HasSorts}
use Rattle.mau_module.specs.Modules.{ModuleOf, StatementsOf, no_statements, and_more}
use Rattle.mau_module.specs.Numbering.{or_zero, number_in, first_sort_of, sort_to, number_to}
use Rattle.mau_module.specs.Carried.{numbers_from, carried_from, carried_part, carried}
use Rattle.mau_module.specs.Named.{sort_in, declared_strat, strats_in, own_strats}

-- the number of a name is among the names, where there are any
number_there : (names : List (List ℕ)) (x : List ℕ) → 0 < length names → number_in names x < length names
number_there names x l = by (number_of names x) (λ i e. (position-Some (bytes_eq x) names i [] e).0)
  where
    by : (o : Option ℕ) → ((i : ℕ) → o ≡ Some i → i < length names) → or_zero o < length names
    by (Some i) h = h i refl
    by None h = l

module _ (names : List (List ℕ)) (h : Hierarchy) (named : length names ≡ h.sorts) (some : 0 < length names) where
  sort_there : (x : List ℕ) → IsSort h (number_in names x)
  sort_there x = omega (arith, number_there names x some, named)

  -- any number of a sort or a kind of another module
  moved_there : (olds : List (List ℕ)) (old : Hierarchy) (a : ℕ) → IsSort h (number_to olds old names h a)
  moved_there olds old a = by (nat_lt a old.sorts) (nat_lt a (old.sorts + kinds old))
    where
      kind_there : (x : List ℕ) → IsSort h (kind_of h (number_in names x))
      kind_there x = kind_of-in_range h (number_in names x) (omega (arith, number_there names x some, named))

      by : (b c : Bool) → IsSort h (if b then sort_to olds names a else (if c then kind_of h (sort_to olds names (first_sort_of old a)) else 0))
      by true c = sort_there (name_at olds a)
      by false true = kind_there (name_at olds (first_sort_of old a))
      by false false = omega (arith, named, some)

  -- ---- those of parts

  abbrev AreThere : List StratDecl → Type 0
  AreThere ds = All (HasSorts h) ds

  module _ (s : SignatureOf) (its : s.hierarchy ≡ h) (ms : List ModuleOf) where
    moved_sorts : (m : ModuleOf) (ds : List StratDecl) → AreThere (map (strategy_declaration_to (numbers_from m names s)) ds)
    moved_sorts m ds =
        All-map (HasSorts h) (strategy_declaration_to (numbers_from m names s)) ds (λ i x w.
        All-map (IsSort h) (numbers_from m names s).sort (get_or ds i x).args (λ j y v.
        subst (λ z. IsSort h (number_to m.sorts m.signature.hierarchy names z (get_or (get_or ds i x).args j y))) (sym its)
        (moved_there m.sorts m.signature.hierarchy (get_or (get_or ds i x).args j y))))

    part_sorts : (p : ℕ) → AreThere (carried_part ms names s p).strats
    part_sorts p = by (slice_get ms p)
      where
        by : (o : Option ModuleOf) → AreThere (option_map_or (λ m. carried_from (numbers_from m names s) m.own.statements) o no_statements).strats
        by (Some m) = moved_sorts m m.own.statements.strats
        by None = All-nil (HasSorts h)

    all_sorts : (ps : List ℕ) (done : StatementsOf) → AreThere done.strats → AreThere (fold (λ a p. and_more a (carried_part ms names s p)) done ps).strats
    all_sorts [] done l = l
    all_sorts (p ∷ ps) done l =
        all_sorts ps (and_more done (carried_part ms names s p)) (All-append (HasSorts h) done.strats (carried_part ms names s p).strats l (part_sorts p))

    pub carried_sorts : (parts : List ℕ) → AreThere (carried ms names s parts).strats
    carried_sorts parts = all_sorts parts no_statements (All-nil (HasSorts h))

  -- ---- its own

  declared_sorts : (ws : List Word) (d : RawStrats) (t : Token) → HasSorts h (declared_strat ws names d t)
  declared_sorts ws d t = All-map (IsSort h) (sort_in ws names) d.args (λ i x w. sort_there (first_text ws (get_or d.args i x)))

  element_sorts : (ws : List Word) (e : RawElement) → AreThere (strats_in ws names e)
  element_sorts ws (Strats d) = All-map (HasSorts h) (declared_strat ws names d) d.names (λ i x w. declared_sorts ws d (get_or d.names i x))
  element_sorts ws (Import x) = All-nil (HasSorts h)
  element_sorts ws (Sorts x) = All-nil (HasSorts h)
  element_sorts ws (Subsorts x) = All-nil (HasSorts h)
  element_sorts ws (Ops x) = All-nil (HasSorts h)
  element_sorts ws (Vars x) = All-nil (HasSorts h)
  element_sorts ws (Statement x) = All-nil (HasSorts h)

  pub own_sorts : (ws : List Word) (es : List RawElement) → AreThere (own_strats ws names es)
  own_sorts ws [] = All-nil (HasSorts h)
  own_sorts ws (e ∷ es) = All-append (HasSorts h) (strats_in ws names e) (own_strats ws names es) (element_sorts ws e) (own_sorts ws es)

-- all that a module knows, which has truth values and so sorts
pub names_sorts : (ms : List ModuleOf) (ws : List Word) (names : List (List ℕ)) (s : SignatureOf) (parts : List ℕ) (es : List RawElement) (a : StatementsOf) (ds : List StratDecl)
    → HasTruth names s → length names ≡ s.hierarchy.sorts → a ≡ carried ms names s parts → ds ≡ a.strats ++ own_strats ws names es → All (HasSorts s.hierarchy) ds
names_sorts ms ws names s parts es a ds truth count is e =
    let some : 0 < length names = omega (arith, (position-Some (bytes_eq (codes "Bool")) names truth.bool [] truth.named).0) in
    subst (All (HasSorts s.hierarchy)) (sym e)
    (All-append (HasSorts s.hierarchy) a.strats (own_strats ws names es)
    (subst (λ (b : StatementsOf). All (HasSorts s.hierarchy) b.strats) (sym is) (carried_sorts names s.hierarchy count some s refl ms parts)) (own_sorts names s.hierarchy count some ws es))
