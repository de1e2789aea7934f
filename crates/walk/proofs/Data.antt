-- Row data gone over column by column end where they end, or at the first error.
-- Assumes nothing.
use Prim.Native.Nat.{ℕ, ◌+◌, ◌-◌, ◌≤◌, ◌<◌, min}
use mathlib.Core.Path.{◌≡◌, refl, sym, ap, ◌∙◌}
use mathlib.Core.List.{List}
use mathlib.Core.Bool.{Bool, true, false}
use native.Mathlib.Omega.{arith}
use lib.Dec.{leb}
use borrow.Author.Tests.{leb-true, leb-false}
use lib.ListN.{length, get_or, take, drop, drop_of_length-le}
use Rattle.wire.specs.declared.error.Input.{Input}
use Rattle.wire.specs.Read.{Bytes, ok, bad}
use Rattle.column.specs.declared.column.Column.{Column}
use Rattle.column.specs.declared.field.Field.{Field}
use Rattle.column.specs.Fields.{field_at}
use Rattle.walk.specs.Presence.{no_column, Mark, mark, no_mark, mark_of, present}
use Rattle.walk.specs.Rows.{step}
use Rattle.walk.specs.Updates.{carried, carried_in, update_bytes}
use Rattle.walk.specs.Data.{data_marks, HasAt, data_passed}
use Rattle.walk.proofs.Laws.{mark_at}
use Rattle.walk.proofs.UpdateLaws.{number_at_lem}
use Rattle.walk.proofs.Arrays.{rest}

-- Column i, as code asks about it.
module _ (u : Bool) (cs : List Column) (s : Bytes) (start i at : ℕ) {has : Bool} (h : HasAt u cs s start i has) where
  -- it has no field
  pub passed_absent : has ≡ false → data_passed u cs s start i at ≡ ok at
  unfolding data_passed step
  passed_absent e = rw (sym h ∙ e) refl

  module _ (e : has ≡ true) {c : Column} (same : (get_or (data_marks u cs) i no_mark).column ≡ c) where
    pub passed_field : {f : Field} → field_at c s at ≡ ok f → data_passed u cs s start i at ≡ ok f.end
    unfolding data_passed step
    passed_field g = rw (sym h ∙ e, same, g) refl

    pub passed_refused : {k o : ℕ} {x : Input} → field_at c s at ≡ bad k o x → data_passed u cs s start i at ≡ bad k o x
    unfolding data_passed step
    passed_refused g = rw (sym h ∙ e, same, g) refl

-- the column of a mark
pub data_column : (u : Bool) (cs : List Column) (i : ℕ) → i < length cs → (get_or (data_marks u cs) i no_mark).column ≡ get_or cs i no_column
data_column true cs i h = ap (λ (m : Mark). m.column) (number_at_lem cs i h)
data_column false cs i h = ap (λ (m : Mark). m.column) (mark_at cs i h)

-- Maps that code takes as parts of the input.

-- a part from the lesser of a place and the end is the part from that place
from_least : (s : Bytes) (a : ℕ) {from : ℕ} → from ≡ min a (length s) → take (length s - from) (drop from s) ≡ drop a s
from_least s a {from} e = rest s from ∙ go (leb a (length s)) refl
  where
    go : (t : Bool) → leb a (length s) ≡ t → drop from s ≡ drop a s
    go true h = let l : a ≤ length s = leb-true _ _ h in let z : from ≡ a = omega arith in ap (λ (k : ℕ). drop k s) z
    go false h =
        let l : length s < a = leb-false _ _ h in
        let f : length s ≤ from = omega arith in
        let g : length s ≤ a = omega arith in
        drop_of_length-le s f ∙ sym (drop_of_length-le s g)

-- and so for a place behind that lesser one
from_behind : (s : Bytes) (a size : ℕ) {from force : ℕ} → from ≡ min a (length s) → force ≡ min (from + size) (length s) → take (length s - force) (drop force s) ≡ drop (a + size) s
from_behind s a size {from} {force} e f = from_least s (from + size) f ∙ go (leb a (length s)) refl
  where
    go : (t : Bool) → leb a (length s) ≡ t → drop (from + size) s ≡ drop (a + size) s
    go true h = let l : a ≤ length s = leb-true _ _ h in let z : from + size ≡ a + size = omega arith in ap (λ (k : ℕ). drop k s) z
    go false h =
        let l : length s < a = leb-false _ _ h in
        let x : length s ≤ from + size = omega arith in
        let y : length s ≤ a + size = omega arith in
        drop_of_length-le s x ∙ sym (drop_of_length-le s y)

module _ (cs : List Column) (s : Bytes) (start i : ℕ) (h : i < length cs) {from : ℕ} (e : from ≡ min start (length s)) {r : Bool} where
  pub has_present : r ≡ present (take (length s - from) (drop from s)) (mark_of cs i) → HasAt false cs s start i r
  has_present p = p ∙ rw (from_least s start e, mark_at cs i h) refl

  pub has_carried :
      {c : Column} {size force : ℕ} → c ≡ get_or cs i no_column → size ≡ update_bytes cs → force ≡ min (from + size) (length s) →
      r ≡ carried (take (length s - from) (drop from s)) (take (length s - force) (drop force s)) (mark c i) → HasAt true cs s start i r
  unfolding carried_in
  has_carried {c} {size} {force} k z f p =
      let g : take (length s - force) (drop force s) ≡ drop (start + update_bytes cs) s = from_behind s start size e f ∙ ap (λ (n : ℕ). drop (start + n) s) z in
      p ∙ rw (from_least s start e, g, number_at_lem cs i h, k) refl
