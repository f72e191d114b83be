-- Forms that are closed one after another.
use Rattle.std.proofs.Common.{◌≡◌, ℕ, ◌<◌, List, [], ◌∷◌, ◌++◌, length, Option, Some, None, refl, ap, arith}
use Rattle.mau_shapes.specs.declared.pieces.Piece.{Piece}
use Rattle.mau_shapes.specs.declared.frames.Frame.{Frame}
use Rattle.mau_shapes.specs.Machine.{top_of, rest_of, close_piece, closed}

abbrev go : ℕ → Frame → List Frame → List Piece → Option Piece → List Frame × List Piece
go m f fs ps o = elim o [ None ↦ (f ∷ fs, ps) | Some p ↦ closed m fs (ps ++ p ∷ []) ]

pub closed_more : (m : ℕ) (fs : List Frame) (ps : List Piece) (p : Piece) → close_piece m (top_of fs) ≡ Some p → closed m fs ps ≡ closed m (rest_of fs) (ps ++ p ∷ [])
closed_more m [] ps p h = cc
closed_more m (f ∷ fs) ps p h = ap (go m f fs ps) h

pub closed_whole : (m : ℕ) (fs : List Frame) (ps : List Piece) → close_piece m (top_of fs) ≡ None → closed m fs ps ≡ (fs, ps)
closed_whole m [] ps h = refl
closed_whole m (f ∷ fs) ps h = ap (go m f fs ps) h

pub shorter : (m : ℕ) (fs : List Frame) (p : Piece) → close_piece m (top_of fs) ≡ Some p → length (rest_of fs) < length fs
shorter m [] p h = cc
shorter m (f ∷ fs) p h = omega arith
