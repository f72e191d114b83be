use Rattle.std.proofs.Common.{ap, ◌∙◌, refl, string_bytes}
use Rattle.std.specs.Prelude.{bytes_eq}
use Rattle.std.specs.List.{list_any}
use Rattle.mau_terms.proofs.Keyed.{any-keyed}
use Rattle.mau_print.proofs.printer.Printer.is_clash.Goals as goal

pub returns : goal.returns
returns c =
    c.contains.ensures
    ∙ any-keyed string_bytes _ (bytes_eq c.args.text.now) (λ k. refl) c.self.inside.clashes.keys
    ∙ ap (λ p. list_any (bytes_eq c.args.text.now) p.clashes) c.self.view_is
