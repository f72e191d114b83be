-- Settling a term with all that is below it.
use Rattle.std.proofs.Common.{◌≡◌, ◌<◌, ◌≤◌, ℕ, zero, suc, List, [], ◌∷◌, ◌++◌, length, map, get_or, refl, sym, ap, ◌∙◌, subst, below_more, ◌+◌, set, get_or-set_same, get_or-set_other, Option, None, arith, append-nil, append_assoc, inl, inr}
use Rattle.std.specs.Prelude.{◌≢◌, ◌⊎◌, All, AllPairs, Contains, Some, true, false, is_some, slice_get}
use Rattle.std.proofs.lemmas.Bool.{cases_eq}
use Rattle.std.proofs.lemmas.List.Elements.{Contains-append_left, Contains-append_right, Contains-append_cases}
use Rattle.std.proofs.lemmas.List.Quantifiers.{all_pairs_push}
use Rattle.std.proofs.lemmas.List.{get_or_default}
use Rattle.mau_terms.specs.Tree.{Tree, trees_of}
use Rattle.mau_terms.proofs.Pieces.{list_of-trees_of}
use Rattle.mau_signature.specs.Signature.{SignatureOf}
use Rattle.mau_store.specs.Node.{Node, numeral_node, variable_node, operator_node, arguments, IsOf}
use Rattle.mau_store.specs.Trees.{tree_over, tree_at}
use Rattle.mau_sorts.specs.SortSets.{SortsOf}
use Rattle.mau_sorts.specs.HasSort.{Known}
use Rattle.mau_sorts.proofs.Entries.{settled_entry}
use Rattle.mau_sorts.specs.Table.{Table, kept_in, entry_at, IsSettled, AreEntries, IsNodeOver, IsReady, AreSame, KeepsEntries, Settles, IsOrdered, IsKnownOf}
use Rattle.mau_signature.specs.OverSignature.{IsTreeOver, AreTreesOver}

map_length : (g : ℕ → Tree) (ids : List ℕ) → length (map g ids) ≡ length ids
map_length g [] = refl
map_length g (i ∷ ids) = ap suc (map_length g ids)

pub node_over : (s : SignatureOf) (g : ℕ → Tree) (n : Node) → IsTreeOver s (tree_over g n) → IsNodeOver s n
node_over s g (variable_node i p) over = over
node_over s g (numeral_node v) over = over
node_over s g (operator_node f ids) over = (over.0, λ assoc. subst (λ k. 2 ≤ k) (ap length (list_of-trees_of (map g ids)) ∙ map_length g ids) (over.1 assoc))

arguments_over : (s : SignatureOf) (g : ℕ → Tree) (ids : List ℕ) → AreTreesOver s (trees_of (map g ids)) → (k : ℕ) → k < length ids → IsTreeOver s (g (get_or ids k 0))
arguments_over s g [] over k below = absurd (omega arith)
arguments_over s g (i ∷ ids) over zero below = over.0
arguments_over s g (i ∷ ids) over (suc k) below = arguments_over s g ids over.1 k (omega arith)

pub argument_over : (s : SignatureOf) (g : ℕ → Tree) (n : Node) → IsTreeOver s (tree_over g n) → (k : ℕ) → k < length (arguments n) → IsTreeOver s (g (get_or (arguments n) k 0))
argument_over s g (variable_node i p) over k below = absurd (omega arith)
argument_over s g (numeral_node v) over k below = absurd (omega arith)
argument_over s g (operator_node f ids) over k below = arguments_over s g ids over.2 k below

arguments_from : (s : SignatureOf) (g : ℕ → Tree) (ids : List ℕ) → ((k : ℕ) → k < length ids → IsTreeOver s (g (get_or ids k 0))) → AreTreesOver s (trees_of (map g ids))
arguments_from s g [] each = tt
arguments_from s g (i ∷ ids) each = (each zero (omega arith), arguments_from s g ids (λ k below. each (suc k) (omega (arith, below))))

-- a node over terms that are over the signature
pub tree_from : (s : SignatureOf) (g : ℕ → Tree) (n : Node) → IsNodeOver s n → ((k : ℕ) → k < length (arguments n) → IsTreeOver s (g (get_or (arguments n) k 0))) → IsTreeOver s (tree_over g n)
tree_from s g (variable_node i p) over each = over
tree_from s g (numeral_node v) over each = over
tree_from s g (operator_node f ids) over each =
    (over.0, λ assoc. subst (λ k. 2 ≤ k) (sym (ap length (list_of-trees_of (map g ids)) ∙ map_length g ids)) (over.1 assoc), arguments_from s g ids each)

pub is_ready : (s : SignatureOf) (nodes : List Node) (t : Table) (i : ℕ) (n : Node) → IsOf nodes i → slice_get nodes i ≡ Some n → tree_at nodes i ≡ tree_over (tree_at nodes) n
    → IsTreeOver s (tree_at nodes i) → ((k : ℕ) → k < length (arguments n) → IsSettled t (get_or (arguments n) k 0)) → IsReady s nodes t i
is_ready s nodes t i n there at_i tree over settled = record {
  there = there;
  over = λ m at_m. subst (IsNodeOver s) (same m at_m) (node_over s (tree_at nodes) n (subst (IsTreeOver s) tree over));
  arguments = λ m at_m. subst (λ x. All (IsSettled t) (arguments x)) (same m at_m) (λ k d below. subst (IsSettled t) (get_or_default (arguments n) k 0 d below) (settled k below));
}
  where
    same : (m : Node) → slice_get nodes i ≡ Some m → n ≡ m
    same m at_m = let e : Some n ≡ Some m = sym at_i ∙ at_m in cc

pub nothing_known : (t : Tree) → IsKnownOf [] t []
nothing_known t r = (λ among. absurd (let below : among.0 < 0 = among.1 in omega arith), λ among. absurd (let below : among.0 < 0 = among.1 in omega arith))

-- ---- tables that grow

pub kept_same : (t : Table) → KeepsEntries t t
kept_same t = record { entries = λ i e at_i. at_i; order = ([], sym (append-nil t.order)) }

pub kept_on : (a b c : Table) → KeepsEntries a b → KeepsEntries b c → KeepsEntries a c
kept_on a b c first second = record {
  entries = λ i e at_i. second.entries i e (first.entries i e at_i);
  order = (first.order.0 ++ second.order.0, second.order.1 ∙ ap (λ xs. xs ++ second.order.0) first.order.1 ∙ append_assoc a.order first.order.0 second.order.0);
}

-- one more is settled
pub kept_settled : (old new : Table) (i : ℕ) (qs : List ℕ) → ¬ IsSettled old i → Settles old new i qs → KeepsEntries old new
kept_settled old new i qs un more = record {
  entries = λ j e at_j. more.others j (λ same. un (subst (IsSettled old) same (ap is_some at_j))) ∙ at_j;
  order = (i ∷ [], more.order);
}

pub kept_unchanged : (old new : Table) → AreSame old new → KeepsEntries old new
kept_unchanged old new same = record { entries = λ i e at_i. same.entries i ∙ at_i; order = ([], same.order ∙ sym (append-nil old.order)) }

-- an order with one more
pub ordered_more : (old new : Table) (i : ℕ) (qs : List ℕ) → ¬ IsSettled old i → Settles old new i qs → IsOrdered old → IsOrdered new
ordered_more old new i qs un more was = record {
  settled = λ j. (forth j (cases_eq j i), back j);
  once = subst (AllPairs (λ j k. j ≢ k)) (sym more.order) (all_pairs_push (λ j k. j ≢ k) old.order i was.once apart);
}
  where
    forth : (j : ℕ) → (j ≡ i) ⊎ (j ≡ i → ⊥) → IsSettled new j → Contains new.order j
    forth j (inl e) s = subst (λ xs. Contains xs j) (sym more.order) (Contains-append_right old.order (i ∷ []) j (0, omega arith, sym e))
    forth j (inr e) s =
        let other : entry_at new j ≡ entry_at old j = more.others j e in
        subst (λ xs. Contains xs j) (sym more.order) (Contains-append_left old.order (i ∷ []) j ((was.settled j).0 (ap is_some (sym other) ∙ s)))

    among : (j : ℕ) → Contains old.order j ⊎ Contains (i ∷ []) j → IsSettled new j
    among j (inl x) = let s = (was.settled j).1 x in ap is_some (more.others j (λ same. un (subst (IsSettled old) same s))) ∙ s
    among j (inr w) = let z : w.0 ≡ 0 = omega (arith, w.1) in subst (IsSettled new) (ap (λ k. get_or (i ∷ []) k j) (sym z) ∙ w.2) more.settled

    back : (j : ℕ) → Contains new.order j → IsSettled new j
    back j x = among j (Contains-append_cases old.order (i ∷ []) j (subst (λ xs. Contains xs j) more.order x))

    apart : (k : ℕ) (d : ℕ) → k < length old.order → get_or old.order k d ≢ i
    apart k d h same = un ((was.settled i).1 (k, h, get_or_default old.order k i d h ∙ same))

-- the table after one more entry
pub one_settled : (xs ys : List (Option SortsOf)) (before after was now : List ℕ) (i : ℕ) (e : SortsOf) → i < length ys → ((j : ℕ) → get_or ys j None ≡ get_or xs j None) → after ≡ before ++ i ∷ []
    → ((j : ℕ) → Contains was j → Contains now j) → Settles (kept_in xs before was) (kept_in (set ys i (Some e)) after now) i []
one_settled xs ys before after was now i e h same order kept = record {
  settled = ap is_some (get_or-set_same ys i (Some e) None h);
  others = λ j n. get_or-set_other ys i j (Some e) None n ∙ same j;
  order = order;
  further = λ q among. absurd (omega (arith, among.1));
  kept = kept;
}

pub entries_same : (s : SignatureOf) (known : Known) (nodes : List Node) (old new : Table) → AreSame old new → AreEntries s known nodes old → AreEntries s known nodes new
entries_same s known nodes old new same entries i e at_i = entries i e (sym (same.entries i) ∙ at_i)

pub settled_more : (old new : Table) (ids : List ℕ) (i : ℕ) → KeepsEntries old new → ((k : ℕ) → k < i → IsSettled old (get_or ids k 0)) → IsSettled new (get_or ids i 0)
    → (k : ℕ) → k < i + 1 → IsSettled new (get_or ids k 0)
settled_more old new ids i kept had here = below_more (λ k. IsSettled new (get_or ids k 0)) i (λ k below. ap is_some (kept.entries _ _ (settled_entry (entry_at old (get_or ids k 0)) (had k below)))) here
