use Rattle.std.proofs.Common.{◌≡◌, ◌<◌, ◌≤◌, List, length, map, false, Option, Some, slice_get, refl, sym, ap, ◌∙◌, subst, arith, rules}
use Rattle.std.proofs.lemmas.List.{length-map}
use Rattle.mau_terms.specs.Bare.{IsBare}
use Rattle.mau_terms.specs.View.{tree_of}
use Rattle.mau_signature.specs.Signature.{terms_over}
use Rattle.mau_reduce.proofs.Numbered.{at_index, is_among}
use Rattle.mau_rules.proofs.Shown.{all_in}
use Rattle.mau_leaves.proofs.InTurns.{slice_mapped}
use Rattle.mau_leaves.proofs.StackTurns.{bound_got, deeper_on, deeper_known, more_patterns_on, more_values_on, all_on, all_gone, unchanged_on, unchanged_known, some_at, read_at}
use Rattle.mau_leaves.proofs.arguments.go_into.Goals as goal

pub go_deeper-requires-clause-pattern : goal.go_deeper-requires-clause-pattern
go_deeper-requires-clause-pattern g c =
    let m = g.E.Evaluator.meanings c.args.evaluator.now in
    let p = c.args.program.now in
    let nodes = c.args.store.now in
    let table = g.E.Evaluator.table c.args.evaluator.now in
    let s = c.args.search.now in
    let patterns = c.args.patterns.now in
    let ps = map tree_of patterns in
    let ids = c.args.values.now in
    let depth : length s.searches.items ≡ c.len-depth.result = search rules in
    let many : length ps ≡ length patterns = length-map patterns tree_of in
    let x = c.index-patterns-depth.result in
    let pattern : slice_get ps (length s.searches.items) ≡ Some (tree_of x) = ap (slice_get ps) depth ∙ slice_mapped tree_of patterns c.len-depth.result x (at_index patterns patterns c.len-depth.result x refl c.if-depth-patterns.true c.index-patterns-depth.is) in
    let bare = IsBare (terms_over p.sig) in
    all_in bare ps (tree_of x) c.requires.patterns (is_among ps (length s.searches.items) (tree_of x) pattern)

pub go_deeper-requires-clause-found : goal.go_deeper-requires-clause-found
go_deeper-requires-clause-found g c =
    let m = g.E.Evaluator.meanings c.args.evaluator.now in
    let p = c.args.program.now in
    let nodes = c.args.store.now in
    let table = g.E.Evaluator.table c.args.evaluator.now in
    let s = c.args.search.now in
    let patterns = c.args.patterns.now in
    let ps = map tree_of patterns in
    let ids = c.args.values.now in
    let depth : length s.searches.items ≡ c.len-depth.result = search rules in
    let many : length ps ≡ length patterns = length-map patterns tree_of in
    bound_got g.L.Lister.asked g.L.Lister.given g.L.Lister.is_for g.L.Lister.with_context p m c.requires.goes_by nodes table ps ids s c.requires.due c.requires.search

pub returns-in-Ok-clause-turn : goal.returns-in-Ok-clause-turn
returns-in-Ok-clause-turn g c = λ b.
    let m = g.E.Evaluator.meanings c.args.evaluator.now in
    let p = c.args.program.now in
    let nodes = c.args.store.now in
    let table = g.E.Evaluator.table c.args.evaluator.now in
    let s = c.args.search.now in
    let patterns = c.args.patterns.now in
    let ps = map tree_of patterns in
    let ids = c.args.values.now in
    let depth : length s.searches.items ≡ c.len-depth.result = search rules in
    let many : length ps ≡ length patterns = length-map patterns tree_of in
    let x = c.index-patterns-depth.result in
    let pattern : slice_get ps (length s.searches.items) ≡ Some (tree_of x) = ap (slice_get ps) depth ∙ slice_mapped tree_of patterns c.len-depth.result x (at_index patterns patterns c.len-depth.result x refl c.if-depth-patterns.true c.index-patterns-depth.is) in
    let value = ap (slice_get ids) depth ∙ read_at ids c.len-depth.result c.if-depth-values.true (record { 0 = 0 }) in
    deeper_on g.L.Lister.asked g.L.Lister.given g.L.Lister.is_for g.L.Lister.with_context p m c.requires.goes_by nodes table ps ids s c.requires.due c.requires.search (tree_of x) _ pattern value c.go_deeper.new.search c.in-Ok.ensures.deeper

pub returns-in-Ok-clause-search : goal.returns-in-Ok-clause-search
returns-in-Ok-clause-search g c =
    let m = g.E.Evaluator.meanings c.args.evaluator.now in
    let p = c.args.program.now in
    let nodes = c.args.store.now in
    let table = g.E.Evaluator.table c.args.evaluator.now in
    let s = c.args.search.now in
    let patterns = c.args.patterns.now in
    let ps = map tree_of patterns in
    let ids = c.args.values.now in
    let depth : length s.searches.items ≡ c.len-depth.result = search rules in
    let many : length ps ≡ length patterns = length-map patterns tree_of in
    let x = c.index-patterns-depth.result in
    let pattern : slice_get ps (length s.searches.items) ≡ Some (tree_of x) = ap (slice_get ps) depth ∙ slice_mapped tree_of patterns c.len-depth.result x (at_index patterns patterns c.len-depth.result x refl c.if-depth-patterns.true c.index-patterns-depth.is) in
    let value = ap (slice_get ids) depth ∙ read_at ids c.len-depth.result c.if-depth-values.true (record { 0 = 0 }) in
    deeper_known g.L.Lister.asked g.L.Lister.given g.L.Lister.is_for g.L.Lister.with_context p m c.requires.goes_by nodes table ps ids s c.requires.due c.requires.search (tree_of x) _ pattern value c.go_deeper.new.search c.in-Ok.ensures.deeper

pub returns-in-Err-clause-turn : goal.returns-in-Err-clause-turn
returns-in-Err-clause-turn g c = λ b.
    let m = g.E.Evaluator.meanings c.args.evaluator.now in
    let p = c.args.program.now in
    let nodes = c.args.store.now in
    let table = g.E.Evaluator.table c.args.evaluator.now in
    let s = c.args.search.now in
    let patterns = c.args.patterns.now in
    let ps = map tree_of patterns in
    let ids = c.args.values.now in
    let depth : length s.searches.items ≡ c.len-depth.result = search rules in
    let many : length ps ≡ length patterns = length-map patterns tree_of in
    (unchanged_on g.L.Lister.asked g.L.Lister.given g.L.Lister.is_for g.L.Lister.with_context p m nodes table ps ids s c.go_deeper.new.search c.in-Err.ensures.unchanged.0 c.in-Err.ensures.unchanged.1, tt)

pub returns-in-Err-clause-search : goal.returns-in-Err-clause-search
returns-in-Err-clause-search g c =
    let m = g.E.Evaluator.meanings c.args.evaluator.now in
    let p = c.args.program.now in
    let nodes = c.args.store.now in
    let table = g.E.Evaluator.table c.args.evaluator.now in
    let s = c.args.search.now in
    let patterns = c.args.patterns.now in
    let ps = map tree_of patterns in
    let ids = c.args.values.now in
    let depth : length s.searches.items ≡ c.len-depth.result = search rules in
    let many : length ps ≡ length patterns = length-map patterns tree_of in
    unchanged_known g.L.Lister.asked g.L.Lister.given g.L.Lister.is_for g.L.Lister.with_context p m nodes table ps ids s c.go_deeper.new.search c.in-Err.ensures.unchanged.0 c.in-Err.ensures.unchanged.1 c.requires.search

pub returns-then-depth-patterns-clause-turn : goal.returns-then-depth-patterns-clause-turn
returns-then-depth-patterns-clause-turn g c = λ b.
    let m = g.E.Evaluator.meanings c.args.evaluator.now in
    let p = c.args.program.now in
    let nodes = c.args.store.now in
    let table = g.E.Evaluator.table c.args.evaluator.now in
    let s = c.args.search.now in
    let patterns = c.args.patterns.now in
    let ps = map tree_of patterns in
    let ids = c.args.values.now in
    let depth : length s.searches.items ≡ c.len-depth.result = search rules in
    let many : length ps ≡ length patterns = length-map patterns tree_of in
    let low = c.if-depth-patterns.true in
    let q = some_at ps (length s.searches.items) (omega (arith, depth, many, low)) in
    let past = c.if-depth-values.false in
    more_patterns_on g.L.Lister.asked g.L.Lister.given g.L.Lister.is_for g.L.Lister.with_context p m c.requires.goes_by nodes table ps ids s c.requires.due c.requires.search (record { searches = s.searches; due = false }) refl refl q.0 q.1 (omega (arith, depth, past))

pub returns-then-depth-values-2-clause-turn : goal.returns-then-depth-values-2-clause-turn
returns-then-depth-values-2-clause-turn g c = λ b.
    let m = g.E.Evaluator.meanings c.args.evaluator.now in
    let p = c.args.program.now in
    let nodes = c.args.store.now in
    let table = g.E.Evaluator.table c.args.evaluator.now in
    let s = c.args.search.now in
    let patterns = c.args.patterns.now in
    let ps = map tree_of patterns in
    let ids = c.args.values.now in
    let depth : length s.searches.items ≡ c.len-depth.result = search rules in
    let many : length ps ≡ length patterns = length-map patterns tree_of in
    let past = c.if-depth-patterns.false in
    let low = c.if-depth-values-2.true in
    let v = some_at ids (length s.searches.items) (omega (arith, depth, low)) in
    more_values_on g.L.Lister.asked g.L.Lister.given g.L.Lister.is_for g.L.Lister.with_context p m c.requires.goes_by nodes table ps ids s c.requires.due c.requires.search (record { searches = s.searches; due = false }) refl refl (omega (arith, depth, many, past)) v.0 v.1

pub returns-clause-turn : goal.returns-clause-turn
returns-clause-turn g c = λ b.
    let m = g.E.Evaluator.meanings c.args.evaluator.now in
    let p = c.args.program.now in
    let nodes = c.args.store.now in
    let table = g.E.Evaluator.table c.args.evaluator.now in
    let s = c.args.search.now in
    let patterns = c.args.patterns.now in
    let ps = map tree_of patterns in
    let ids = c.args.values.now in
    let depth : length s.searches.items ≡ c.len-depth.result = search rules in
    let many : length ps ≡ length patterns = length-map patterns tree_of in
    let past = c.if-depth-patterns.false in
    let gone = c.if-depth-values-2.false in
    all_on g.L.Lister.asked g.L.Lister.given g.L.Lister.is_for g.L.Lister.with_context p m c.requires.goes_by nodes table ps ids s c.requires.due c.requires.search (record { searches = s.searches; due = false }) refl refl (omega (arith, depth, many, past)) (omega (arith, depth, gone))

pub returns-clause-all : goal.returns-clause-all
returns-clause-all g c = λ z.
    let m = g.E.Evaluator.meanings c.args.evaluator.now in
    let p = c.args.program.now in
    let nodes = c.args.store.now in
    let table = g.E.Evaluator.table c.args.evaluator.now in
    let s = c.args.search.now in
    let patterns = c.args.patterns.now in
    let ps = map tree_of patterns in
    let ids = c.args.values.now in
    let depth : length s.searches.items ≡ c.len-depth.result = search rules in
    let many : length ps ≡ length patterns = length-map patterns tree_of in
    let past = c.if-depth-patterns.false in
    all_gone g.L.Lister.asked g.L.Lister.given g.L.Lister.is_for g.L.Lister.with_context p m c.requires.goes_by nodes table ps ids s c.requires.due c.requires.search (record { searches = s.searches; due = false }) refl refl (omega (arith, depth, many, past)) ∙ many
