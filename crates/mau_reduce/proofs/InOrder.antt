-- The numbers of equations in the order in which they are tried.
use Rattle.std.proofs.Common.{◌≡◌, ℕ, zero, suc, ◌+◌, ◌<◌, ◌≤◌, List, [], ◌∷◌, ◌++◌, Bool, true, false, ◌&&◌, not, if◌then◌else◌, All, Some, map, drop, length, get_or, slice_get, refl, sym, ap, ◌∙◌, subst, append_assoc, append-nil, arith, zero-add}
use Rattle.std.proofs.Math.Seq.{drop-cons}
use Rattle.std.proofs.lemmas.List.Elements.{All-append, All-cons, All-nil, All-head, All-tail}
use Rattle.std.proofs.lemmas.Bool.{and_parts}
use Rattle.mau_evaluation.specs.Program.{Equation}
use Rattle.mau_program.specs.declared.program.Program as Typed
use Rattle.mau_program.specs.declared.statements.Equation as Written
use Rattle.mau_api.specs.Programs.{equation_of}
use Rattle.mau_evaluation.specs.Listing.{keep}
use Rattle.mau_reduce.specs.Trying.{numbers_of, order_of_all, IsExecutable}
use Rattle.mau_reduce.specs.ByTop.{may_apply_at, order_under}

module _ (o : Bool) (es : List Written.Equation) where
  next : (i : ℕ) (e : Written.Equation) → i < length es → e ≡ get_or es i e → (b : Bool) → (e.exec && (if o then e.owise else not e.owise)) ≡ b →
      numbers_of o i (map equation_of (drop i es)) ≡ (if b then i ∷ numbers_of o (i + 1) (map equation_of (drop (i + 1) es)) else numbers_of o (i + 1) (map equation_of (drop (i + 1) es)))
  next i e h is b t =
      ap (λ ds. numbers_of o i (map equation_of ds)) (drop-cons es i e h ∙ ap (λ d. d ∷ drop (suc i) es) (sym is))
      ∙ (ap (λ w. if w then i ∷ numbers_of o (suc i) (map equation_of (drop (suc i) es)) else numbers_of o (suc i) (map equation_of (drop (suc i) es))) t
      ∙ ap (λ n. if b then i ∷ numbers_of o n (map equation_of (drop n es)) else numbers_of o n (map equation_of (drop n es))) (more i))
    where
      more : (n : ℕ) → suc n ≡ n + 1
      more n = omega arith

  -- a number is added, or passed over
  pub one_added : (done all : List ℕ) (i : ℕ) (e : Written.Equation) → i < length es → e ≡ get_or es i e → (e.exec && (if o then e.owise else not e.owise)) ≡ true →
      done ++ numbers_of o i (map equation_of (drop i es)) ≡ all → (done ++ i ∷ []) ++ numbers_of o (i + 1) (map equation_of (drop (i + 1) es)) ≡ all
  one_added done all i e h is t k =
      append_assoc done (i ∷ []) (numbers_of o (i + 1) (map equation_of (drop (i + 1) es))) ∙ (sym (ap (λ xs. done ++ xs) (next i e h is true t)) ∙ k)

  pub one_left : (done all : List ℕ) (i : ℕ) (e : Written.Equation) → i < length es → e ≡ get_or es i e → (e.exec && (if o then e.owise else not e.owise)) ≡ false →
      done ++ numbers_of o i (map equation_of (drop i es)) ≡ all → done ++ numbers_of o (i + 1) (map equation_of (drop (i + 1) es)) ≡ all
  one_left done all i e h is t k = sym (ap (λ xs. done ++ xs) (next i e h is false t)) ∙ k

numbers_end : (o : Bool) (i : ℕ) (es : List Written.Equation) → length es ≤ i → numbers_of o i (map equation_of (drop i es)) ≡ []
numbers_end o i es h = ap (λ ds. numbers_of o i (map equation_of ds)) (past es i h)
  where
    past : (xs : List Written.Equation) (n : ℕ) → length xs ≤ n → drop n xs ≡ []
    past [] zero h = refl
    past [] (suc n) h = refl
    past (x ∷ xs) zero h = absurd (omega (arith, h))
    past (x ∷ xs) (suc n) h = past xs n (omega (arith, h))

-- none is left at the end
pub none_left : (o : Bool) (done all : List ℕ) (i : ℕ) (es : List Written.Equation) → length es ≤ i → done ++ numbers_of o i (map equation_of (drop i es)) ≡ all → done ≡ all
none_left o done all i es h k = sym (append-nil done) ∙ (ap (λ xs. done ++ xs) (sym (numbers_end o i es h)) ∙ k)

-- ---- they are numbers of equations

one_more : (m n : ℕ) (ns : List ℕ) (b : Bool) → n < m → All (λ i. i < m) ns → All (λ i. i < m) (if b then n ∷ ns else ns)
one_more m n ns true h a = All-cons (λ i. i < m) n ns h a
one_more m n ns false h a = a

within_from : (o : Bool) (n m : ℕ) (es : List Equation) → n + length es ≡ m → All (λ i. i < m) (numbers_of o n es)
within_from o n m [] h = λ k d less. absurd (omega (arith, less))
within_from o n m (e ∷ es) h = one_more m n (numbers_of o (suc n) es) (e.exec && (if o then e.owise else not e.owise)) (omega (arith, h)) (within_from o (suc n) m es (omega (arith, h)))

pub order_within : (es : List Written.Equation) → All (λ i. i < length es) (order_of_all (map equation_of es))
order_within es =
    All-append (λ i. i < length es) (numbers_of false 0 (map equation_of es)) (numbers_of true 0 (map equation_of es))
    (within_from false 0 (length es) (map equation_of es) (as_many es)) (within_from true 0 (length es) (map equation_of es) (as_many es))
  where
    mapped : (es : List Written.Equation) → length (map equation_of es) ≡ length es
    mapped [] = refl
    mapped (e ∷ es) = ap suc (mapped es)

    as_many : (es : List Written.Equation) → zero + length (map equation_of es) ≡ length es
    as_many es = zero-add (length (map equation_of es)) ∙ mapped es

-- ---- they are executable

module _ (p : Typed.Program) (o : Bool) where
  one_executable : (n : ℕ) (ns : List ℕ) (b : Bool) → (b ≡ true → IsExecutable p n) → All (IsExecutable p) ns → All (IsExecutable p) (if b then n ∷ ns else ns)
  one_executable n ns true h a = All-cons (IsExecutable p) n ns (h refl) a
  one_executable n ns false h a = a

  executable_from : (n : ℕ) (es : List Written.Equation) → ((i : ℕ) (e : Written.Equation) → slice_get es i ≡ Some e → slice_get p.equations (n + i) ≡ Some e) → All (IsExecutable p) (numbers_of o n (map equation_of es))
  executable_from n [] there = All-nil (IsExecutable p)
  executable_from n (e ∷ es) there =
      one_executable n (numbers_of o (suc n) (map equation_of es)) (e.exec && (if o then e.owise else not e.owise))
      (λ h. record { equation = e; at = subst (λ m. slice_get p.equations m ≡ Some e) (this n) (there zero e refl); exec = (and_parts e.exec (if o then e.owise else not e.owise) h).0 })
      (executable_from (suc n) es (λ i d at. subst (λ m. slice_get p.equations m ≡ Some d) (more n i) (there (suc i) d at)))
    where
      this : (n : ℕ) → n + zero ≡ n
      this n = omega arith

      more : (n i : ℕ) → n + suc i ≡ suc n + i
      more n i = omega arith

pub order_executable : (p : Typed.Program) → All (IsExecutable p) (order_of_all (map equation_of p.equations))
order_executable p =
    All-append (IsExecutable p) (numbers_of false 0 (map equation_of p.equations)) (numbers_of true 0 (map equation_of p.equations))
    (executable_from p false 0 p.equations (λ i e at. subst (λ m. slice_get p.equations m ≡ Some e) (sym (zero-add i)) at))
    (executable_from p true 0 p.equations (λ i e at. subst (λ m. slice_get p.equations m ≡ Some e) (sym (zero-add i)) at))

-- ---- and so are those that may apply under a top

kept_all : {A : Type 0} (P : A → Type 0) (f : A → Bool) (xs : List A) → All P xs → All P (keep f xs)
kept_all P f [] a = a
kept_all P f (x ∷ xs) a = by (kept_all P f xs (All-tail P x xs a)) (f x)
  where
    by : All P (keep f xs) → (w : Bool) → All P (if w then x ∷ keep f xs else keep f xs)
    by rest true = All-cons P x (keep f xs) (All-head P x xs a) rest
    by rest false = rest

pub kept_within : (p : Typed.Program) (g : ℕ) → All (λ i. i < length p.equations) (order_under p g)
kept_within p g = kept_all (λ i. i < length p.equations) (may_apply_at p g) (order_of_all (map equation_of p.equations)) (order_within p.equations)

pub kept_executable : (p : Typed.Program) (g : ℕ) → All (IsExecutable p) (order_under p g)
kept_executable p g = kept_all (IsExecutable p) (may_apply_at p g) (order_of_all (map equation_of p.equations)) (order_executable p)
