use Rattle.std.proofs.Common.{◌≡◌, [], None, map, sym, ap, ◌∙◌}
use Rattle.mau_terms.specs.Solution.{add_places}
use Rattle.mau_terms.specs.View.{tree_of}
use Rattle.mau_signature.specs.Signature.{theory_at}
use Rattle.mau_listing.specs.Places.{places_in}
use Rattle.mau_listing.proofs.Placed.{places_variables, firsts, firsts_in, seconds_in}
use Rattle.mau_listing.proofs.places.places_of.Goals as goal

found : (c : goal.In_ok-add_term) → places_in c.add_term.new.found.items ≡ add_places (theory_at c.args.sig.now) None [] (tree_of c.args.pattern.now)
found c = c.in_ok-add_term.ensures.ok ∙ ap (λ ps. add_places (theory_at c.args.sig.now) None (places_in ps) (tree_of c.args.pattern.now)) c.new-found.ensures.items

pub returns-clause-variables : goal.returns-clause-variables
returns-clause-variables c =
    sym (firsts_in c.add_term.new.found.items)
    ∙ ap firsts (found c)
    ∙ places_variables (theory_at c.args.sig.now) None [] (tree_of c.args.pattern.now)

pub returns-clause-places : goal.returns-clause-places
returns-clause-places c =
    sym (seconds_in c.add_term.new.found.items)
    ∙ ap (map (λ e. e.1)) (found c)
