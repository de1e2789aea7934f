-- Reserved bits of update data are ignored on reading, in both maps.
-- Assumes nothing.
use Prim.Native.Nat.{ℕ, ◌+◌, ◌*◌, ◌<◌}
use mathlib.Core.List.{List}
use mathlib.Core.Bool.{Bool, true, false}
use mathlib.Core.Path.{◌≡◌, refl, sym, ◌∙◌}
use native.Mathlib.Omega.{arith}
use lib.ListN.{length, get_or, drop}
use lib.Dec.{ltb}
use borrow.Author.Tests.{ltb-true, ltb-false}
use Rattle.wire.specs.Read.{Bytes, whole}
use Rattle.wire.specs.Bits.{bit_set}
use Rattle.column.specs.declared.column.Column.{Column}
use Rattle.walk.specs.Presence.{no_column, Mark, no_mark, mark}
use Rattle.walk.specs.Rows.{place}
use Rattle.walk.specs.Updates.{numbered, update_bytes, chapter_marked, force_broken, carried, carried_in, update_opened, update_walked, update_end, update_field, update_column, look_update}
use Rattle.walk.proofs.UpdateLaws.{length_numbered, number_at_lem, look_update_column}
use Rattle.walk.proofs.Later.{clear_same}
use Rattle.walk.proofs.Reserved.{walk_alike, arrive_alike}

-- Update data that differ in reserved bits at most: as long, with the same bits of columns in both maps, and the same fields.
pub record UpdateAlike (cs : List Column) (row other : Bytes) : Type 0 where
  pub long : length row ≡ length other
  pub updates : (b : ℕ) → b < length cs → bit_set row b ≡ bit_set other b
  pub forces : (b : ℕ) → b < length cs → bit_set (drop (update_bytes cs) row) b ≡ bit_set (drop (update_bytes cs) other) b
  pub rest : drop (2 * update_bytes cs) row ≡ drop (2 * update_bytes cs) other

module _ (cs : List Column) (row other : Bytes) (a : UpdateAlike cs row other) where
  -- a test of a column by its bits says the same of both
  same_at :
      (has had : Mark → Bool) → ((i : ℕ) → i < length cs → has (mark (get_or cs i no_column) i) ≡ had (mark (get_or cs i no_column) i)) → (i : ℕ) → i < length (numbered 0 cs) →
      has (get_or (numbered 0 cs) i no_mark) ≡ had (get_or (numbered 0 cs) i no_mark)
  same_at has had e i h = let g : i < length cs = omega (arith, length_numbered 0 cs) in rw (number_at_lem cs i g) (e i g)

  carried_of : (i : ℕ) → i < length cs → carried_in cs row 0 (mark (get_or cs i no_column) i) ≡ carried_in cs other 0 (mark (get_or cs i no_column) i)
  unfolding carried_in carried
  carried_of i h = let z : 0 + update_bytes cs ≡ update_bytes cs = omega arith in rw (z, a.updates i h, a.forces i h) refl

  opened_alike : update_opened cs row 0 ≡ update_opened cs other 0
  unfolding update_opened whole chapter_marked force_broken
  opened_alike =
      let z : 0 + update_bytes cs ≡ update_bytes cs = omega arith in
      let u = clear_same (chapter_marked row) (chapter_marked other) 12 0 (numbered 0 cs) (same_at (chapter_marked row) (chapter_marked other) (λ i h. rw (a.updates i h) refl)) in
      let f =
      clear_same (chapter_marked (drop (update_bytes cs) row)) (chapter_marked (drop (update_bytes cs) other)) 12 (update_bytes cs) (numbered 0 cs)
      (same_at (chapter_marked (drop (update_bytes cs) row)) (chapter_marked (drop (update_bytes cs) other)) (λ i h. rw (a.forces i h) refl)) in
      let r =
      clear_same (force_broken row (drop (update_bytes cs) row)) (force_broken other (drop (update_bytes cs) other)) 13 (update_bytes cs) (numbered 0 cs)
      (same_at (force_broken row (drop (update_bytes cs) row)) (force_broken other (drop (update_bytes cs) other)) (λ i h. rw (a.updates i h, a.forces i h) refl)) in
      rw (z, a.long, u, f, r) refl

  walked_alike : (k : ℕ) → update_walked cs row 0 k ≡ update_walked cs other 0 k
  unfolding update_walked
  walked_alike k =
      walk_alike row other (2 * update_bytes cs) a.long a.rest (carried_in cs row 0) (carried_in cs other 0) k (numbered 0 cs) (place (0 + 2 * update_bytes cs) 0)
      (omega arith) (same_at (carried_in cs row 0) (carried_in cs other 0) carried_of)

  -- the end of the update data
  pub update_reserved_end : update_end cs row 0 ≡ update_end cs other 0
  unfolding update_end
  update_reserved_end = rw (opened_alike, walked_alike (length cs)) refl

  field_alike : (k : ℕ) → update_field cs row k ≡ update_field cs other k
  unfolding update_field update_walked
  field_alike k =
      arrive_alike row other (2 * update_bytes cs) a.long a.rest (carried_in cs row 0) (carried_in cs other 0) k (numbered 0 cs) (place (0 + 2 * update_bytes cs) 0)
      (get_or cs k no_column) (omega arith) (walked_alike k)

  look_alike : (k : ℕ) → k < length cs → look_update cs row k ≡ look_update cs other k
  unfolding look_update update_column
  look_alike k h = rw (update_reserved_end, a.updates k h, a.forces k h, field_alike k) refl

  -- and every look-up
  pub update_reserved_look_up : (k : ℕ) → look_update cs row k ≡ look_update cs other k
  update_reserved_look_up k = by (ltb k (length cs)) refl
    where
      by : (t : Bool) → ltb k (length cs) ≡ t → look_update cs row k ≡ look_update cs other k
      by true t = look_alike k (ltb-true _ _ t)
      by false t = look_update_column cs row k (ltb-false _ _ t) ∙ sym (look_update_column cs other k (ltb-false _ _ t))
