-- Stops, and the columns that are none; the widths of columns.
-- Assumes nothing.
use Prim.Native.Nat.{ℕ, ◌≤◌}
use mathlib.Core.Path.{◌≡◌, refl, sym, ◌∙◌}
use mathlib.Core.List.{List, [], ◌∷◌}
use mathlib.Core.Bool.{Bool, true, false, true≢false}
use native.Mathlib.Omega.{arith}
use lib.Dec.{leb, eqb}
use borrow.Author.Tests.{leb-true}
use Rattle.wire.specs.Read.{pick}
use Rattle.column.specs.declared.column.Column.{Column}
use Rattle.column.specs.declared.types.Kind.{Kind}
use Rattle.column.specs.declared.types.Kind.TheVariants.{Fixed, Variable, Wide, Chapter, Unknown}
use Rattle.column.specs.Types.{Entry, types, kind_in, kind_of, width_of, variable_kind, chapter_kind}
use Rattle.column.specs.Columns.{kind, width, is_variable, is_chapter, is_nullable, is_stop}

-- no type of a table is wider than 16 bytes
narrow : List Entry → Bool
narrow [] = true
narrow (e ∷ es) = pick (leb (width_of e.kind) 16) (narrow es) false

-- so none that is found in it is
narrow_in : (es : List Entry) (code : ℕ) → narrow es ≡ true → width_of (kind_in es code) ≤ 16
unfolding kind_in narrow
narrow_in [] code h = omega arith
narrow_in (e ∷ es) code h = go (leb (width_of e.kind) 16) refl h (eqb code e.code) (narrow_in es code)
  where
    go :
        (t : Bool) → leb (width_of e.kind) 16 ≡ t → pick t (narrow es) false ≡ true → (s : Bool) → (narrow es ≡ true → width_of (kind_in es code) ≤ 16) →
        width_of (pick s e.kind (kind_in es code)) ≤ 16
    go true x y true r = leb-true _ _ x
    go true x y false r = r y
    go false x y s r = absurd (true≢false (sym y))

module _ (c : Column) where
  -- the width of a column
  pub width_few : width c ≤ 16
  unfolding kind_of types narrow
  width_few = narrow_in types c.code refl

  -- a chapter has no length and no field
  pub chapter_bare : is_chapter c ≡ true → (is_variable c ≡ false) × (width c ≡ 0)
  chapter_bare = go (kind c)
    where
      go : (k : Kind) → chapter_kind k ≡ true → (variable_kind k ≡ false) × (width_of k ≡ 0)
      go (Fixed w) h = absurd (true≢false (sym h))
      go Variable h = absurd (true≢false (sym h))
      go Wide h = absurd (true≢false (sym h))
      go Chapter h = (refl, refl)
      go Unknown h = (refl, refl)

  -- A stop, or not.

  pub stop_chapter : is_chapter c ≡ true → is_stop c ≡ false
  unfolding is_stop
  stop_chapter e = rw e

  pub stop_nullable : is_chapter c ≡ false → is_nullable c ≡ true → is_stop c ≡ true
  unfolding is_stop
  stop_nullable e n = rw (e, n)

  pub stop_plain : is_chapter c ≡ false → is_nullable c ≡ false → is_stop c ≡ is_variable c
  unfolding is_stop
  stop_plain e n = rw (e, n)

  -- no stop and no chapter: not nullable, of fixed width
  pub no_stop_lem : is_stop c ≡ false → is_chapter c ≡ false → (is_nullable c ≡ false) × (is_variable c ≡ false)
  unfolding is_stop
  no_stop_lem h x = go (is_nullable c) refl (sym (rw x) ∙ h)
    where
      go : (t : Bool) → is_nullable c ≡ t → pick t true (is_variable c) ≡ false → (is_nullable c ≡ false) × (is_variable c ≡ false)
      go true e y = absurd (true≢false y)
      go false e y = (e, y)
