use Rattle.std.proofs.Common.{◌≡◌, ℕ, ◌+◌, ◌<◌, ◌≤◌, ◌++◌, ◌∷◌, [], length, get_or, map, arith, sym, ap, subst, ◌∙◌, length-append, ◌⊎◌, inl, inr}
use Rattle.std.proofs.lemmas.List.{length-map, get_or_past}
use Rattle.std.proofs.lemmas.Grind.{get_or_default_zero}
use Rattle.std.specs.Prelude.{All}
use Rattle.std.proofs.lemmas.Bool.{cases_lt}
use Rattle.std.proofs.lemmas.List.Elements.{All-push}
use Rattle.std.proofs.Math.ListN.{get_or-append}
use Rattle.mau_poset.specs.Order.{Hierarchy, kinds, kind_of}
use Rattle.mau_signature.specs.Signature.{SignatureOf}
use Rattle.mau_signature.specs.Faults.{IsSort}
use Rattle.mau_module.specs.Numbering.{number_in, first_sort_of}
use Rattle.mau_module.specs.Included.{number_from}
use Rattle.mau_module.proofs.Numbers.{sort_number, no_number, in_table, one_kind_more}
use Rattle.mau_module.proofs.numbering.number_table.Goals as goal

pub loop-i-init : goal.loop-i-init
loop-i-init c =
    let n : length c.args.«module».now.sorts ≡ c.args.«module».now.signature.hierarchy.sorts = omega (arith, c.sorts.ensures.named, ap length c.sorts.ensures.names) in
    let t : c.in_ok-table.table.items ≡ map (number_in c.args.news.now) c.args.«module».now.sorts = c.in_ok-table.ensures.table ∙ ap (map (number_in c.args.news.now)) c.sorts.ensures.names in
    let len : length c.in_ok-table.table.items ≡ c.args.«module».now.signature.hierarchy.sorts = ap length t ∙ length-map c.args.«module».now.sorts (number_in c.args.news.now) ∙ n in
    record {
      len = omega (arith, len);
      each = λ a l. ap (λ xs. get_or xs a 0) t ∙ in_table c.args.«module».now.sorts c.args.news.now a (omega (arith, l, n))
          ∙ sym (sort_number c.args.«module».now.sorts c.args.«module».now.signature.hierarchy c.args.news.now c.args.poset.now a (omega (arith, l)));
      first = λ a l. omega (arith, c.in_ok-table.ensures.within a 0 (omega (arith, l, len)), c.requires.named);
      sorts = λ k d l. omega (arith, c.in_ok-table.ensures.within k d l, c.requires.named);
    }

pub loop-i-preserved : goal.loop-i-preserved
loop-i-preserved c =
    let same : c.poset-old.result.now ≡ c.args.«module».now.signature.hierarchy = c.poset-old.ensures.value ∙ ap (λ (s : SignatureOf). s.hierarchy) c.signature.ensures.value in
    let sorts : c.poset-old.result.now.sorts ≡ c.args.«module».now.signature.hierarchy.sorts = ap (λ (h : Hierarchy). h.sorts) same in
    let room : c.loop-i.i < kinds c.args.«module».now.signature.hierarchy = omega (arith, c.kinds-i-end.ensures.value, c.loop-i-test.true, ap kinds same) in
    let some : 0 < c.poset-old.result.now.sorts = omega (arith, c.kinds-i-end.ensures.limit, c.loop-i-test.true) in
    let low : c.first_sort.result < c.args.«module».now.signature.hierarchy.sorts = omega (arith, c.first_sort.ensures.sort some, sorts) in
    let first : c.first_sort.result ≡ first_sort_of c.args.«module».now.signature.hierarchy (c.args.«module».now.signature.hierarchy.sorts + c.loop-i.i) =
    c.first_sort.ensures.first ∙ ap (λ n. first_sort_of c.poset-old.result.now (n + c.loop-i.i)) c.sorts-in-loop-i.ensures.value ∙ ap (λ (h : Hierarchy). first_sort_of h (h.sorts + c.loop-i.i)) same in
    let value : c.kind_of.result ≡ kind_of c.args.poset.now (get_or c.loop-i.table.items c.first_sort.result 0) =
    c.kind_of.ensures.value ∙ ap (kind_of c.args.poset.now) (c.index-sort.ensures ∙ get_or_default_zero c.loop-i.table.items c.first_sort.result c.index-sort.result.now (omega (arith, low, c.loop-i.invariant.len))) in
    let items : c.push.new.self.items ≡ c.loop-i.table.items ++ c.kind_of.result ∷ [] = c.in_ok-push.ensures.items in
    record {
      len = omega (arith, ap length items ∙ length-append c.loop-i.table.items (c.kind_of.result ∷ []), c.loop-i.invariant.len);
      each = λ a l. ap (λ xs. get_or xs a 0) items
          ∙ one_kind_more c.args.«module».now.sorts c.args.«module».now.signature.hierarchy c.args.news.now c.args.poset.now c.loop-i.table.items c.loop-i.i c.kind_of.result c.first_sort.result c.loop-i.invariant.each c.loop-i.invariant.len room first low value a l;
      first = λ a l. let e : get_or c.push.new.self.items a 0 ≡ get_or c.loop-i.table.items a 0 = ap (λ xs. get_or xs a 0) items ∙ get_or-append c.loop-i.table.items (c.kind_of.result ∷ []) 0 a (omega (arith, l, c.loop-i.invariant.len)) in omega (arith, e, c.loop-i.invariant.first a l);
      sorts = subst (All (IsSort c.args.poset.now)) (sym items) (All-push (IsSort c.args.poset.now) c.loop-i.table.items c.kind_of.result c.loop-i.invariant.sorts c.kind_of.ensures.kind.1);
    }

pub index-sort-requires : goal.index-sort-requires
index-sort-requires c =
    let same : c.poset-old.result.now ≡ c.args.«module».now.signature.hierarchy = c.poset-old.ensures.value ∙ ap (λ (s : SignatureOf). s.hierarchy) c.signature.ensures.value in
    let sorts : c.poset-old.result.now.sorts ≡ c.args.«module».now.signature.hierarchy.sorts = ap (λ (h : Hierarchy). h.sorts) same in
    let some : 0 < c.poset-old.result.now.sorts = omega (arith, c.kinds-i-end.ensures.limit, c.loop-i-test.true) in
    omega (arith, c.first_sort.ensures.sort some, sorts, c.loop-i.invariant.len)

pub kind_of-requires : goal.kind_of-requires
kind_of-requires c =
    let same : c.poset-old.result.now ≡ c.args.«module».now.signature.hierarchy = c.poset-old.ensures.value ∙ ap (λ (s : SignatureOf). s.hierarchy) c.signature.ensures.value in
    let sorts : c.poset-old.result.now.sorts ≡ c.args.«module».now.signature.hierarchy.sorts = ap (λ (h : Hierarchy). h.sorts) same in
    let some : 0 < c.poset-old.result.now.sorts = omega (arith, c.kinds-i-end.ensures.limit, c.loop-i-test.true) in
    let low : c.first_sort.result < c.args.«module».now.signature.hierarchy.sorts = omega (arith, c.first_sort.ensures.sort some, sorts) in
    let value = c.index-sort.ensures ∙ get_or_default_zero c.loop-i.table.items c.first_sort.result c.index-sort.result.now (omega (arith, low, c.loop-i.invariant.len)) in
    omega (arith, value, c.loop-i.invariant.first c.first_sort.result low)

pub returns-clause-each : goal.returns-clause-each
returns-clause-each c = by
  where
    in_reach : (a : ℕ) → (a < length c.loop-i.table.items) ⊎ (length c.loop-i.table.items ≤ a)
        → get_or c.loop-i.table.items a 0 ≡ number_from c.args.«module».now c.args.news.now c.args.poset.now a
    in_reach a (inl l) = c.loop-i.invariant.each a (omega (arith, l, c.loop-i.invariant.len))
    in_reach a (inr g) =
        let same : c.poset-old.result.now ≡ c.args.«module».now.signature.hierarchy = c.poset-old.ensures.value ∙ ap (λ (s : SignatureOf). s.hierarchy) c.signature.ensures.value in
        get_or_past c.loop-i.table.items a 0 g
        ∙ no_number c.args.«module».now.sorts c.args.«module».now.signature.hierarchy c.args.news.now c.args.poset.now a (omega (arith, g, c.loop-i.invariant.len, c.kinds-i-end.ensures.value, c.loop-i-test.false, ap kinds same))

    by : (a : ℕ) → get_or c.loop-i.table.items a 0 ≡ number_from c.args.«module».now c.args.news.now c.args.poset.now a
    by a = in_reach a (cases_lt a (length c.loop-i.table.items))
