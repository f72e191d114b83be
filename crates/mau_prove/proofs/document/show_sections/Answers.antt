use Rattle.std.proofs.Common.{refl, length, sym, ap, subst, arith}
use Rattle.std.specs.Prelude.{All}
use Rattle.mau_facts.specs.Lines.{HasForms}
use Rattle.mau_prove.proofs.Documented.{all_forms, all_fields, AreFields}
use Rattle.mau_prove.proofs.document.show_sections.Goals as goal

pub show_document-requires : goal.show_document-requires
show_document-requires c = record {
  version = refl;
  size = omega (arith, ap length c.new.ensures, c.requires.text);
  forms = subst (All HasForms) (sym c.new-2.ensures) (all_forms c.args.sections.items c.requires.sections);
  fields = subst AreFields (sym c.new-2.ensures) (all_fields c.args.sections.items c.requires.sections);
}
