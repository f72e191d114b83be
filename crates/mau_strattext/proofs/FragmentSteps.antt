-- Fragments that are read one after another.
use Rattle.std.proofs.Common.{◌≡◌, ℕ, List, [], ◌∷◌, ◌++◌, Result, Ok, Err, refl, sym, subst, ap, ◌∙◌, append_assoc, length}
use Rattle.std.proofs.lemmas.List.{append-nil}
use Rattle.mau_modtext.specs.declared.raw.RawFragment.{RawFragment}
use Rattle.mau_program.specs.declared.statements.Fragment.{Fragment}
use Rattle.mau_statement.specs.Parts.{Pairs}
use Rattle.mau_statement.specs.Conditions.{ConditionReads}
use Rattle.mau_shapes.specs.declared.pieces.Part.{Part}
use Rattle.mau_shapes.specs.declared.pieces.Piece.{Piece}
use Rattle.mau_shapes.specs.declared.pieces.Piece.TheVariants.{Fragment as FragmentPiece}
use Rattle.mau_modtext.specs.Word.{Word}
use Rattle.mau_statement.specs.Context.{ContextOf}
use Rattle.mau_statement.specs.Conditions.{ConditionUnread}
use Rattle.mau_statement.specs.declared.fault.StatementFault.{StatementFault}
use Rattle.mau_strattext.specs.Setting.{SettingOf, start_at}
use Rattle.mau_strattext.specs.Fragments.{cut}
use Rattle.mau_strattext.specs.Reads.{FragmentsRead, no_fragments, one_fragment}
use Rattle.mau_strattext.specs.Faults.{FragmentsFault, IsOfFragment, not_cut, no_fragment, later_fragment}
use Rattle.mau_strattext.specs.Strategies.{IfTold}
use Rattle.mau_strattext.specs.Building.{FragmentsAnswer, CutAnswer}
use Rattle.mau_strattext.specs.declared.fault.StratFault.{StratFault}
use Rattle.mau_strattext.specs.declared.fault.StratFault.TheVariants.{TooManyTokens, Unexpected, UnknownName, Parse, Arity, NoMemory}
use Rattle.mau_strattext.proofs.Steps.{handed, none}

-- an answer, behind these
abbrev pub after_fragments : List Fragment → Result (List Fragment) StratFault → Result (List Fragment) StratFault
after_fragments xs (Ok ys) = Ok (xs ++ ys)
after_fragments xs (Err f) = Err f

none_before : (r : Result (List Fragment) StratFault) → after_fragments [] r ≡ r
none_before (Ok us) = refl
none_before (Err f) = refl

fragments_behind : (xs ys : List Fragment) (r : Result (List Fragment) StratFault) → after_fragments xs (after_fragments ys r) ≡ after_fragments (xs ++ ys) r
fragments_behind xs ys (Ok us) = ap (λ zs. Ok zs) (sym (append_assoc xs ys us))
fragments_behind xs ys (Err f) = refl

module _ (s : SettingOf) where
  fragment_more : (p : Part) (more : List Piece) (raw : RawFragment) (ns ms os : Pairs) (ys : List Fragment) (r : Result (List Fragment) StratFault) → cut s p ≡ Ok raw
      → ConditionReads s.words s.context ns (raw ∷ []) ms ys → FragmentsAnswer s more ms os r → FragmentsAnswer s (FragmentPiece p ∷ more) ns os (after_fragments ys r)
  fragment_more p more raw ns ms os ys (Ok us) e c h = one_fragment p more raw ns ms os ys us e c h
  fragment_more p more raw ns ms os ys (Err f) e c h =
      handed (FragmentsFault s more ms) (FragmentsFault s (FragmentPiece p ∷ more) ns) (λ g k. later_fragment p more raw ns ms ys g e c k) f h

  -- whatever the rest reads as, the whole does behind those read so far
  pub record FragmentsGo (ps : List Piece) (ns : Pairs) (rest : List Piece) (ms : Pairs) (xs : List Fragment) : Type 0 where
    pub goes : (os : Pairs) (r : Result (List Fragment) StratFault) → FragmentsAnswer s rest ms os r → FragmentsAnswer s ps ns os (after_fragments xs r)

  pub fragments_begin : (ps : List Piece) (ns : Pairs) (xs : List Fragment) → xs ≡ [] → FragmentsGo ps ns ps ns xs
  fragments_begin ps ns xs e = subst (FragmentsGo ps ns ps ns) (sym e) (record { goes = λ os r h. subst (FragmentsAnswer s ps ns os) (sym (none_before r)) h })

  pub fragments_go_on : (ps : List Piece) (ns : Pairs) (rest more : List Piece) (piece : Piece) (p : Part) (raw : RawFragment) (ms ms' : Pairs) (xs xs' ys : List Fragment)
      → FragmentsGo ps ns rest ms xs → rest ≡ piece ∷ more → piece ≡ FragmentPiece p → xs' ≡ xs ++ ys → cut s p ≡ Ok raw
      → ConditionReads s.words s.context ms (raw ∷ []) ms' ys → FragmentsGo ps ns more ms' xs'
  fragments_go_on ps ns rest more piece p raw ms ms' xs xs' ys g e a k c w =
      subst (FragmentsGo ps ns more ms') (sym k) (record {
        goes = λ os r h. subst (FragmentsAnswer s ps ns os) (fragments_behind xs ys r)
            (g.goes os (after_fragments ys r) (subst (λ zs. FragmentsAnswer s zs ms os (after_fragments ys r)) (sym (e ∙ ap (λ z. z ∷ more) a)) (fragment_more p more raw ms ms' os ys r c w h)));
      })

  pub fragments_end : (ps : List Piece) (ns : Pairs) (rest : List Piece) (ms : Pairs) (xs ys : List Fragment) → FragmentsGo ps ns rest ms xs → length rest ≡ 0 → ys ≡ xs
      → FragmentsRead s ps ns ms ys
  fragments_end ps ns rest ms xs ys g e h =
      subst (FragmentsRead s ps ns ms) (append-nil xs ∙ sym h) (g.goes ms (Ok []) (subst (λ zs. FragmentsRead s zs ms ms []) (sym (none rest e)) (no_fragments ms)))

  pub fragments_fault : (ps : List Piece) (ns : Pairs) (rest more : List Piece) (piece : Piece) (p : Part) (ms os : Pairs) (xs : List Fragment) (f : StratFault)
      → FragmentsGo ps ns rest ms xs → rest ≡ piece ∷ more → piece ≡ FragmentPiece p
      → IfTold (λ f. (ps : List Piece) → FragmentsFault s (FragmentPiece p ∷ ps) ms f) f → IfTold (FragmentsFault s ps ns) f
  fragments_fault ps ns rest more piece p ms os xs f g e a u =
      g.goes os (Err f) (subst (λ zs. IfTold (FragmentsFault s zs ms) f) (sym (e ∙ ap (λ z. z ∷ more) a))
      (handed (λ f. (ps : List Piece) → FragmentsFault s (FragmentPiece p ∷ ps) ms f) (FragmentsFault s (FragmentPiece p ∷ more) ms) (λ f k. k more) f u))

-- ---- faults of one fragment

pub raw_fault : (s : SettingOf) (p : Part) (raw : RawFragment) (ns : Pairs) (ws : List Word) (c : ContextOf) (at : ℕ) (g : StratFault) → ws ≡ s.words → c ≡ s.context
    → at ≡ start_at s p.start → cut s p ≡ Ok raw → (f : StatementFault) × ConditionUnread ws c ns (raw ∷ []) f × IsOfFragment at f g
    → (ps : List Piece) → FragmentsFault s (FragmentPiece p ∷ ps) ns g
raw_fault s p raw ns ws c at g e h k r u ps =
    no_fragment p ps raw ns u.0 g r
    (subst (λ vs. ConditionUnread vs s.context ns (raw ∷ []) u.0) e (subst (λ d. ConditionUnread ws d ns (raw ∷ []) u.0) h u.1)) (subst (λ n. IsOfFragment n u.0 g) k u.2)

pub cut_fault : (s : SettingOf) (p : Part) (ns : Pairs) (f : StratFault) → CutAnswer {X = RawFragment} (Err f) (cut s p)
    → IfTold (λ f. (ps : List Piece) → FragmentsFault s (FragmentPiece p ∷ ps) ns f) f
cut_fault s p ns (TooManyTokens n) h = absurd h
cut_fault s p ns (Unexpected n) h = λ ps. not_cut p ps ns n h
cut_fault s p ns (UnknownName n) h = absurd h
cut_fault s p ns (Parse n f) h = absurd h
cut_fault s p ns (Arity n) h = absurd h
cut_fault s p ns NoMemory h = tt
