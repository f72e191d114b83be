-- Words of strategies without strategies in them.
use Rattle.std.proofs.Common.{◌≡◌, ℕ, List, [], ◌∷◌, Bool, true, false, ◌&&◌, not, Option, Some, None, cond, All, length, ◌-◌, ◌==◌, refl, sym, subst, ap, ◌∙◌}
use Rattle.std.specs.List.{list_any}
use Rattle.std.specs.Prelude.{bytes_eq, find}
use Rattle.std.proofs.lemmas.List.Elements.{All-head, All-tail}
use Rattle.mau_terms.specs.Tree.{Tree}
use Rattle.mau_poset.specs.Order.{Hierarchy}
use Rattle.mau_signature.specs.Faults.{IsSort}
use Rattle.mau_program.specs.declared.strategies.Assign.{Assign}
use Rattle.mau_program.specs.declared.strategies.TestKind.{TestKind}
use Rattle.mau_shapes.specs.declared.pieces.Part.{Part}
use Rattle.mau_program.specs.Trees.{StrategyOf, label, call, test}
use Rattle.mau_program.specs.declared.definitions.StratDecl.{StratDecl}
use Rattle.mau_statement.specs.Parts.{Pairs}
use Rattle.mau_shapes.specs.declared.pieces.Piece.{Piece}
use Rattle.mau_shapes.specs.declared.pieces.Piece.TheVariants.{Plain, Label, Call, Test, Pattern}
use Rattle.mau_strattext.specs.Setting.{SettingOf, HasSorts, has_name, start_at, word_at, is_form, is_declared, is_label, is_unknown, declared}
use Rattle.mau_strattext.specs.Reads.{LeafReads, label_reads, name_reads, assigned_reads, called_reads, test_reads, test_kind, UsesRead, ArgumentsRead}
use Rattle.mau_strattext.specs.Faults.{UsesFault, ArgumentsFault, LeafFault, LeafOpen, are_closed, in_values, in_arguments, other_number, no_pattern, in_condition, test_open}
use Rattle.mau_strattext.specs.Strategies.{IfTold}
use Rattle.mau_strattext.specs.Building.{TestReads, TestFault, of_pattern, of_condition, test_there as test_there_of}
use Rattle.mau_strattext.specs.declared.fault.StratFault.{StratFault}
use Rattle.mau_strattext.specs.declared.fault.StratFault.TheVariants.{Arity}
use Rattle.mau_strattext.proofs.Steps.{handed, none}

-- what a test says of a word, said of the word at its place
pub moved : (f : List ℕ → Bool) (w v : List ℕ) (r b : Bool) → w ≡ v → r ≡ f w → r ≡ b → f v ≡ b
moved f w v r b e h k = ap f (sym e) ∙ sym h ∙ k

neither : (d l : Bool) → d ≡ false → (not d && l) ≡ false → (not d && not l) ≡ true
neither true l e h = sym e
neither false true e h = sym h
neither false false e h = refl

pub unknown : (s : SettingOf) (w : List ℕ) → is_declared s w ≡ false → is_label s w ≡ false → is_unknown s w ≡ true
unknown s w d l = neither (is_declared s w) (list_any (bytes_eq w) s.labels) d l

module _ (s : SettingOf) (t : Bool) (i : ℕ) where
  pub label_there : (w : List ℕ) (x : StrategyOf) → w ≡ word_at s i → is_form (word_at s i) ≡ false → is_label s (word_at s i) ≡ true → x ≡ label w []
      → (ns : Pairs) → LeafReads s t (Plain i) [] ns ns x
  label_there w x e f l h ns = subst (LeafReads s t (Plain i) [] ns ns) (sym (h ∙ ap (λ v. label v []) e)) (label_reads i ns f l)

  pub name_there : (w : List ℕ) (x : StrategyOf) (d : StratDecl) → w ≡ word_at s i → is_form (word_at s i) ≡ false → t ≡ false → declared s w 0 ≡ Some d → x ≡ call w []
      → (ns : Pairs) → LeafReads s t (Plain i) [] ns ns x
  name_there w x d e f n l h ns =
      subst (LeafReads s t (Plain i) [] ns ns) (sym (h ∙ ap (λ v. call v []) e)) (name_reads i ns d f n (ap (λ v. declared s v 0) (sym e) ∙ l))

-- ---- calls

found_by : {A : Type 0} (P : A → Type 0) (x d : A) (o : Option A) (b : Bool) → cond b (Some x) o ≡ Some d → P x → (o ≡ Some d → P d) → P d
found_by P x d o true e h k = let same : x ≡ d = cc e in subst P same h
found_by P x d o false e h k = k e

found : {A : Type 0} (p : A → Bool) (P : A → Type 0) (xs : List A) (d : A) → find p xs ≡ Some d → All P xs → P d
found p P [] d e a = let no : None ≡ Some d = e in absurd (cc no)
found p P (x ∷ xs) d e a = found_by P x d (find p xs) (p x) e (All-head P x xs a) (λ h. found p P xs d h (All-tail P x xs a))

pub sorts_found : (s : SettingOf) (w : List ℕ) (n : ℕ) (d : StratDecl) (h : Hierarchy) (sorts : List ℕ) → declared s w n ≡ Some d → All (HasSorts h) s.names → sorts ≡ d.args
    → All (IsSort h) sorts
sorts_found s w n d h sorts e a k = subst (All (IsSort h)) (sym k) (found (λ d. has_name w d && length d.args == n) (HasSorts h) s.names d e a)

module _ (s : SettingOf) (t : Bool) (i : ℕ) (w : List ℕ) (there : w ≡ word_at s i) (ps : List Piece) (n : ℕ) (many : n ≡ length ps - 1) where
  at_place : {o : Option StratDecl} → declared s w n ≡ o → declared s (word_at s i) (length ps - 1) ≡ o
  at_place e = ap (λ m. declared s (word_at s i) m) (sym many) ∙ ap (λ v. declared s v n) (sym there) ∙ e

  pub called_there : (d : StratDecl) (sorts : List ℕ) (ns os : Pairs) (bs : List Tree) (x : StrategyOf) → declared s w n ≡ Some d → sorts ≡ d.args
      → ArgumentsRead s sorts ps ns os bs → x ≡ call w bs → LeafReads s t (Call i) ps ns os x
  called_there d sorts ns os bs x e k a h =
      subst (LeafReads s t (Call i) ps ns os) (sym (h ∙ ap (λ v. call v bs) there)) (called_reads i ps ns os d bs (at_place e) (subst (λ zs. ArgumentsRead s zs ps ns os bs) k a))

  pub called_fault : (d : StratDecl) (sorts : List ℕ) (ns : Pairs) (f : StratFault) → are_closed ps ≡ true → declared s w n ≡ Some d → sorts ≡ d.args
      → IfTold (ArgumentsFault s sorts ps ns) f → IfTold (LeafFault s t (Call i) ps ns) f
  called_fault d sorts ns f c e k u =
      handed (ArgumentsFault s sorts ps ns) (LeafFault s t (Call i) ps ns) (λ g a. in_arguments i ps ns d g c (at_place e) (subst (λ zs. ArgumentsFault s zs ps ns g) k a)) f u

  pub called_otherwise : (ns : Pairs) (at : ℕ) → is_declared s (word_at s i) ≡ true → are_closed ps ≡ true → declared s w n ≡ None → at ≡ start_at s i
      → LeafFault s t (Call i) ps ns (Arity at)
  called_otherwise ns at d c e k = subst (λ m. LeafFault s t (Call i) ps ns (Arity m)) (sym k) (other_number i ps ns d c (at_place e))

-- ---- labels with values, and tests

pub assigned_there : (s : SettingOf) (t : Bool) (i : ℕ) (w : List ℕ) (ps : List Piece) (ns os : Pairs) (xs : List Assign) (x : StrategyOf) → w ≡ word_at s i
    → is_label s (word_at s i) ≡ true → UsesRead s ps ns os xs → x ≡ label w xs → LeafReads s t (Label i) ps ns os x
assigned_there s t i w ps ns os xs x e l u h =
    subst (LeafReads s t (Label i) ps ns os) (sym (h ∙ ap (λ v. label v xs) e)) (assigned_reads i ps ns os xs l u)

pub values_fault : (s : SettingOf) (t : Bool) (i : ℕ) (ps : List Piece) (ns : Pairs) (f : StratFault) → is_label s (word_at s i) ≡ true → IfTold (UsesFault s ps ns) f
    → IfTold (LeafFault s t (Label i) ps ns) f
values_fault s t i ps ns f l u = handed (UsesFault s ps ns) (LeafFault s t (Label i) ps ns) (λ g a. in_values i ps ns g l a) f u

pub test_there : (s : SettingOf) (t : Bool) (i : ℕ) (w : List ℕ) (k : TestKind) (p : Part) (first : Piece) (ps more : List Piece) (ns os : Pairs) (x : StrategyOf) → w ≡ word_at s i
    → Some k ≡ test_kind w → first ≡ Pattern p → ps ≡ first ∷ more → TestReads s k p more ns os x → LeafReads s t (Test i) ps ns os x
test_there s t i w k p first ps more ns os x e h a b (test_there_of middle y xs u v) =
    subst (λ zs. LeafReads s t (Test i) zs ns os (test k y xs)) (sym (b ∙ ap (λ z. z ∷ more) a))
    (test_reads i k p more ns middle os y xs (ap test_kind (sym e) ∙ sym h) u v)

pub test_fault : (s : SettingOf) (t : Bool) (i : ℕ) (p : Part) (first : Piece) (ps more : List Piece) (ns : Pairs) (f : StratFault) → first ≡ Pattern p → ps ≡ first ∷ more
    → IfTold (TestFault s p more ns) f → IfTold (LeafFault s t (Test i) ps ns) f
test_fault s t i p first ps more ns f a b u =
    subst (λ zs. IfTold (LeafFault s t (Test i) zs ns) f) (sym (b ∙ ap (λ z. z ∷ more) a))
    (handed (TestFault s p more ns) (LeafFault s t (Test i) (Pattern p ∷ more) ns) of_test f u)
  where
    of_test : (g : StratFault) → TestFault s p more ns g → LeafFault s t (Test i) (Pattern p ∷ more) ns g
    of_test g (of_pattern w) = subst (LeafFault s t (Test i) (Pattern p ∷ more) ns) (sym w.told) (no_pattern i p more ns w.why w.unread)
    of_test g (of_condition middle b w v) = in_condition i p more ns middle b g w v

pub test_open_there : (s : SettingOf) (i : ℕ) (ps : List Piece) (ns : Pairs) → length ps ≡ 0 → LeafOpen s (Test i) ps ns
test_open_there s i ps ns e = subst (λ zs. LeafOpen s (Test i) zs ns) (sym (none ps e)) (test_open i ns)
