use Rattle.std.proofs.Common.{ap, ◌∙◌, refl, not, map, sym, subst}
use Rattle.std.specs.Prelude.{string_bytes, bytes_eq}
use Rattle.mau_declare.specs.Names.{has_name, with_name}
use Rattle.mau_terms.proofs.Keyed.{any-keyed, insert-keyed}
use Rattle.mau_grammar.specs.Names.{AreDistinct}
use Rattle.mau_declare.proofs.Distinct.{with_distinct}
use Rattle.mau_declare.proofs.names.Names.add.Goals as goal

pub returns-clause-new : goal.returns-clause-new
returns-clause-new c =
    c.in_ok-is_new.ensures.added
    ∙ ap not (any-keyed string_bytes _ (bytes_eq (string_bytes c.in_ok-name.name)) (λ k. refl) c.self.inside.names.keys
    ∙ ap (λ x. has_name (map string_bytes c.self.inside.names.keys) x) c.in_ok-name.ensures.ok
    ∙ ap (λ xs. has_name xs c.args.name.now) c.self.view_is)

pub returns-clause-names : goal.returns-clause-names
returns-clause-names c =
    ap (map string_bytes) c.in_ok-is_new.ensures.keys
    ∙ insert-keyed string_bytes _ (bytes_eq (string_bytes c.in_ok-name.name)) (λ k. refl) c.self.inside.names.keys c.in_ok-name.name
    ∙ ap (λ x. with_name (map string_bytes c.self.inside.names.keys) x) c.in_ok-name.ensures.ok
    ∙ ap (λ xs. with_name xs c.args.name.now) c.self.view_is

pub invariant_of-self-2 : goal.invariant_of-self-2
invariant_of-self-2 c =
    subst AreDistinct (sym (
    ap (map string_bytes) c.in_ok-is_new.ensures.keys
    ∙ insert-keyed string_bytes _ (bytes_eq (string_bytes c.in_ok-name.name)) (λ k. refl) c.self.inside.names.keys c.in_ok-name.name
    )) (with_distinct (map string_bytes c.self.inside.names.keys) (string_bytes c.in_ok-name.name) c.self.invariant)
