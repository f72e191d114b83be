use Rattle.std.proofs.Common.{◌≡◌, ◌≤◌, length, map, ◌∙◌, ap, arith}
use Rattle.mau_signature.specs.Names.{operators_of, declarations_of}
use Rattle.mau_signature.specs.Faults.{Given}
use Rattle.mau_signature.specs.Built.{declarations_in}
use Rattle.mau_signature.proofs.Whole.{group_sorts, group_arity, group_some, entered_are, signature_made, as_many, zero_there, others_there}
use Rattle.mau_signature.proofs.Alike.{entries_alike}
use Rattle.mau_signature.proofs.Lawful.{entries_are_lawful}
use Rattle.mau_signature.proofs.signature.Signature.assemble.Goals as goal

pub enter_all-requires-clause-sorts : goal.enter_all-requires-clause-sorts
enter_all-requires-clause-sorts c = group_sorts c.args.poset c.args.decls.items c.in_ok-names.names c.in_ok-groups.groups.items c.in_ok-groups.ensures.ok c.requires.sorts

pub enter_all-requires-clause-some : goal.enter_all-requires-clause-some
enter_all-requires-clause-some c =
    group_some c.args.poset c.args.decls.items c.in_ok-names.names c.in_ok-groups.groups.items c.in_ok-groups.ensures.ok
    (c.in_ok-names.ensures.names ∙ ap (operators_of c.args.poset) c.deref.ensures.value)

pub enter_all-requires-clause-arity : goal.enter_all-requires-clause-arity
enter_all-requires-clause-arity c =
    let g : Given = record { hierarchy = c.args.poset; declarations = c.args.decls.items; numerals = c.args.numerals } in
    group_arity g c.args.decls.items c.in_ok-names.names c.in_ok-groups.groups.items c.in_ok-groups.ensures.ok c.in_ok-groups.ensures.faultless

pub invariant_of-result : goal.invariant_of-result
invariant_of-result c =
    let g : Given = record { hierarchy = c.args.poset; declarations = c.args.decls.items; numerals = c.args.numerals } in
    let n : length c.in_ok-entries.entries.items ≡ length c.in_ok-names.names =
    as_many c.in_ok-entries.entries.items c.in_ok-groups.groups.items c.in_ok-names.names (declarations_of c.args.poset c.args.decls.items) c.in_ok-entries.ensures.declarations c.in_ok-groups.ensures.ok in
    let m : length c.in_ok-names.names ≤ length c.deref.result.now = c.in_ok-names.ensures.few in
    let e : length c.deref.result.now ≡ length c.args.decls.items = ap length c.deref.ensures.value in
    let are = entered_are c.args.poset c.args.decls.items c.deref.result.now c.in_ok-names.names c.in_ok-groups.groups.items c.in_ok-entries.entries.items
    c.deref.ensures.value c.in_ok-names.ensures.names c.in_ok-groups.ensures.ok c.in_ok-entries.ensures.declarations in
    record {
      few = omega arith;
      entries = c.in_ok-entries.ensures.entries;
      alike = entries_alike g c.in_ok-entries.entries.items c.in_ok-groups.ensures.faultless are.1;
      numerals = zero_there c.args.poset c.args.decls.items c.args.numerals c.requires.numerals;
      others = others_there c.args.poset c.args.decls.items c.args.numerals c.requires.numerals;
      made = record {
        source = c.args.decls.items;
        few = c.requires.few;
        sorts = c.requires.sorts;
        numerals = c.requires.numerals;
        faultless = c.in_ok-groups.ensures.faultless;
        made = signature_made c.args.poset c.args.decls.items c.args.numerals c.in_ok-names.names (map declarations_in c.in_ok-entries.entries.items) are.0 are.1;
      };
      lawful = entries_are_lawful g c.in_ok-entries.entries.items c.in_ok-names.names c.in_ok-groups.ensures.faultless c.requires.numerals c.in_ok-entries.ensures.entries are.0 are.1;
    }

pub returns-clause-ok : goal.returns-clause-ok
unfolding invariant_of-result
returns-clause-ok c = (invariant_of-result c).made.made

pub returns-clause-lawful : goal.returns-clause-lawful
returns-clause-lawful c = (invariant_of-result c).lawful
