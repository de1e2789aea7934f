-- A file that was read, or its error, where the call names the input.
-- Assumes nothing.
use Rattle.std.specs.Prelude.{Result, Ok, Err}
use mathlib.Core.Path.{◌≡◌, sym, ap, ◌∙◌}
use mathlib.Core.List.{List}
use Prim.Native.Nat.{ℕ}
use Rattle.wire.specs.declared.error.Error.{Error}
use Rattle.wire.specs.declared.error.Input.{Input}
use Rattle.wire.specs.Errors.{code_of}
use Rattle.wire.specs.Read.{Read, ok, bad, about, refused, told}
use Rattle.wire.proofs.Pieces.{about_was, about_err}
use Rattle.tree.specs.Filling.{Filled}
use Rattle.schema.specs.declared.reader.Place.{Place}
use Rattle.schema.specs.Told.{placed, told_place}

module _ (name : Input) (r s : Result Place Error) (exit : List ℕ) {filling : Read Filled} (h : told_place r exit ≡ filling) (e : told s ≡ about name (told r)) where
  pub named_read : {p : Place} → s ≡ Ok p → filling ≡ ok (placed p exit)
  named_read w = sym h ∙ ap (λ (x : Result Place Error). told_place x exit) (about_was name r s e w)

  pub named_refused : {A : Type 0} {x : Error} → s ≡ Err x → (d : Error) × (filling ≡ refused d) × (refused {A = A} x ≡ bad (code_of d.kind) d.offset name)
  named_refused w =
      let (d, f, g) = about_err name r s e w in
      (d, sym h ∙ ap (λ (x : Result Place Error). told_place x exit) f, g)
