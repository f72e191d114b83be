use Rattle.std.proofs.Common.{◌≡◌, ◌++◌, ◌∙◌, ap, map, filter, fold, [], List, ℕ, subst, string_bytes}
use Rattle.mau_print.specs.declared.layout.Layout.{Layout}
use Rattle.mau_print.specs.Printed.{PrinterOf}
use Rattle.mau_print.specs.Layouts.{owned_texts, is_numeral_in, with_text}
use Rattle.mau_print.specs.Beforehand.{AreKnown}
use Rattle.mau_print.proofs.printer.Printer.of.Goals as goal

same_printer : (ls ms : List Layout) (ns us cs ds : List (List ℕ)) (v w : List ℕ) → ls ≡ ms → ns ≡ us → cs ≡ ds → v ≡ w
    → ◌≡◌ {A = PrinterOf} (record { layouts = ls; names = ns; clashes = cs; numeral_sort = v }) (record { layouts = ms; names = us; clashes = ds; numeral_sort = w })
same_printer ls ms ns us cs ds v w a b c d = cc

pub returns : goal.returns
returns c =
    let s = c.args.sig.now in
    let g = c.args.grammar.now in
    let owned = owned_texts s g in
    let texts : map string_bytes c.in_ok-owned.owned.items ≡ owned = c.in_ok-owned.ensures in
    let first : map string_bytes c.deref.result.now ≡ owned = ap (map string_bytes) c.deref.ensures.value ∙ texts in
    let second : map string_bytes c.deref-2.result.now ≡ owned = ap (map string_bytes) c.deref-2.ensures.value ∙ texts in
    let known : AreKnown g owned c.in_ok-known.known = subst (λ (ts : List (List ℕ)). AreKnown g ts c.in_ok-known.known) first c.in_ok-known.ensures.known in
    record {
      ok = c.from_parts.ensures
          ∙ same_printer _ _ _ _ _ _ _ _
          (c.in_ok-layouts.ensures owned known)
          (c.in_ok-names.ensures ∙ ap (λ ns. map (λ n. n.name) ns ++ c.args.kinds.now) c.sorts.ensures.value)
          (c.in_ok-clashes.ensures ∙ ap (λ ts. fold with_text [] (filter (is_numeral_in g) ts)) second)
          (c.in_ok-numeral_sort.ensures g owned c.requires known);
    }
