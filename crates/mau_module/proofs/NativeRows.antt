-- The declarations of the prelude's module of numbers stand in the table of what is built in.
use Rattle.std.proofs.Common.{◌≡◌, Some, refl, sym, subst, inl, inr}
use Rattle.mau_terms.specs.Finite.{IsIn}
use Rattle.mau_signature.specs.declared.decl.Decl.{Decl}
use Rattle.mau_program.specs.BuiltIns.{Row, number_rows}
use Rattle.mau_module.specs.Laws.{RowsAreNative}

abbrev StandsIn : Decl → Type 0
StandsIn d = (r : Row) × IsIn r number_rows × (d.form ≡ r.form) × (d.attrs.builtin ≡ Some r.name)

stands : (d e : Decl) (r : Row) → d ≡ e → IsIn r number_rows → e.form ≡ r.form → e.attrs.builtin ≡ Some r.name → StandsIn d
stands d e r s i f b = subst StandsIn (sym s) (r, i, f, b)

pub rows_are_native : RowsAreNative
rows_are_native d (inl e) = stands d _ _ e (inl refl) refl refl
rows_are_native d (inr (inl e)) = stands d _ _ e (inr (inl refl)) refl refl
rows_are_native d (inr (inr (inl e))) = stands d _ _ e (inr (inl refl)) refl refl
rows_are_native d (inr (inr (inr (inl e)))) = stands d _ _ e (inr (inr (inl refl))) refl refl
rows_are_native d (inr (inr (inr (inr (inl e))))) = stands d _ _ e (inr (inr (inr (inl refl)))) refl refl
rows_are_native d (inr (inr (inr (inr (inr (inl e)))))) = stands d _ _ e (inr (inr (inr (inl refl)))) refl refl
rows_are_native d (inr (inr (inr (inr (inr (inr (inl e))))))) = stands d _ _ e (inr (inr (inr (inr (inl refl))))) refl refl
rows_are_native d (inr (inr (inr (inr (inr (inr (inr (inl e)))))))) = stands d _ _ e (inr (inr (inr (inr (inr (inl refl)))))) refl refl
rows_are_native d (inr (inr (inr (inr (inr (inr (inr (inr (inl e))))))))) = stands d _ _ e (inr (inr (inr (inr (inr (inr (inl refl))))))) refl refl
rows_are_native d (inr (inr (inr (inr (inr (inr (inr (inr (inr (inl e)))))))))) = stands d _ _ e (inr (inr (inr (inr (inr (inr (inl refl))))))) refl refl
rows_are_native d (inr (inr (inr (inr (inr (inr (inr (inr (inr (inr (inl e))))))))))) = stands d _ _ e (inr (inr (inr (inr (inr (inr (inr (inl refl)))))))) refl refl
rows_are_native d (inr (inr (inr (inr (inr (inr (inr (inr (inr (inr (inr (inl e)))))))))))) = stands d _ _ e (inr (inr (inr (inr (inr (inr (inr (inl refl)))))))) refl refl
rows_are_native d (inr (inr (inr (inr (inr (inr (inr (inr (inr (inr (inr (inr (inl e))))))))))))) = stands d _ _ e (inr (inr (inr (inr (inr (inr (inr (inr (inl refl))))))))) refl refl
rows_are_native d (inr (inr (inr (inr (inr (inr (inr (inr (inr (inr (inr (inr (inr (inl e)))))))))))))) = stands d _ _ e (inr (inr (inr (inr (inr (inr (inr (inr (inl refl))))))))) refl refl
rows_are_native d (inr (inr (inr (inr (inr (inr (inr (inr (inr (inr (inr (inr (inr (inr (inl e))))))))))))))) = stands d _ _ e (inr (inr (inr (inr (inr (inr (inr (inr (inr (inl refl)))))))))) refl refl
rows_are_native d (inr (inr (inr (inr (inr (inr (inr (inr (inr (inr (inr (inr (inr (inr (inr (inl e)))))))))))))))) = stands d _ _ e (inr (inr (inr (inr (inr (inr (inr (inr (inr (inl refl)))))))))) refl refl
rows_are_native d (inr (inr (inr (inr (inr (inr (inr (inr (inr (inr (inr (inr (inr (inr (inr (inr (inl e))))))))))))))))) = stands d _ _ e (inr (inr (inr (inr (inr (inr (inr (inr (inr (inr (inl refl))))))))))) refl refl
rows_are_native d (inr (inr (inr (inr (inr (inr (inr (inr (inr (inr (inr (inr (inr (inr (inr (inr (inr (inl e)))))))))))))))))) = stands d _ _ e (inr (inr (inr (inr (inr (inr (inr (inr (inr (inr (inr (inl refl)))))))))))) refl refl
rows_are_native d (inr (inr (inr (inr (inr (inr (inr (inr (inr (inr (inr (inr (inr (inr (inr (inr (inr (inr (inl e))))))))))))))))))) = stands d _ _ e (inr (inr (inr (inr (inr (inr (inr (inr (inr (inr (inr (inr (inl refl))))))))))))) refl refl
rows_are_native d (inr (inr (inr (inr (inr (inr (inr (inr (inr (inr (inr (inr (inr (inr (inr (inr (inr (inr (inr (inl e)))))))))))))))))))) = stands d _ _ e (inr (inr (inr (inr (inr (inr (inr (inr (inr (inr (inr (inr (inr (inl refl)))))))))))))) refl refl
rows_are_native d (inr (inr (inr (inr (inr (inr (inr (inr (inr (inr (inr (inr (inr (inr (inr (inr (inr (inr (inr (inr e)))))))))))))))))))) = absurd e
