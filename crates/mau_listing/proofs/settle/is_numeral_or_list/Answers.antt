use Rattle.mau_listing.proofs.settle.is_numeral_or_list.Goals as goal

pub theory-requires : goal.theory-requires
theory-requires c = (c.requires.over _ c.in-App.ensures.node).0
