-- A page asks nothing of its look-up but the answers: two that answer alike on every part give the same page.
-- Assumes nothing.
use Prim.Native.Nat.{ℕ, zero, suc}
use mathlib.Core.Path.{◌≡◌, refl}
use mathlib.Core.List.{List, [], ◌∷◌}
use Rattle.wire.specs.Read.{Bytes, Read}
use Rattle.walk.specs.Rows.{Answer}
use Rattle.batch.specs.Pages.{Numbered, owned_in, page_of, first_in, room_in, page_by}
use Rattle.batch.proofs.Alike.{span_alike}

module _ (look other : Bytes → Read Answer) (same : (part : Bytes) → look part ≡ other part) (s : Bytes) where
  page_alike : (rows room : ℕ) (os : List Numbered) → page_of look s rows room os ≡ page_of other s rows room os
  unfolding page_of
  page_alike rows room [] = refl
  page_alike rows zero (o ∷ os) = refl
  page_alike rows (suc room) (o ∷ os) = rw (span_alike look other same s o.row.original, page_alike rows room os) refl

  first_alike : (room : ℕ) (os : List Numbered) → first_in look s room os ≡ first_in other s room os
  unfolding first_in
  first_alike room [] = refl
  first_alike zero (o ∷ os) = refl
  first_alike (suc room) (o ∷ os) = rw (span_alike look other same s o.row.original) refl

  pub page_by_alike : (table : List ℕ) (rows from owner room : ℕ) → page_by look s table rows from owner room ≡ page_by other s table rows from owner room
  unfolding page_by
  page_by_alike table rows from owner room = rw (first_alike (room_in room) (owned_in table rows from owner), page_alike rows (room_in room) (owned_in table rows from owner)) refl
