use Rattle.std.proofs.Common.{ap, ◌∙◌, refl, string_bytes, map}
use Rattle.std.specs.Prelude.{bytes_eq}
use Rattle.mau_terms.proofs.Keyed.{insert-keyed}
use Rattle.mau_print.proofs.texts.add_clash.Goals as goal

pub returns : goal.returns
returns c =
    ap (map string_bytes) c.in_ok-insert_full.ensures.keys
    ∙ insert-keyed string_bytes _ (bytes_eq (string_bytes c.args.text)) (λ k. refl) c.args.clashes.now.keys c.args.text
