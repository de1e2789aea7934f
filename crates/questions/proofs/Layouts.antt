-- Laws of the columns of a schema by value and in slots.
-- Assumes nothing.
use Rattle.std.specs.Prelude.{Ok, Err}
use Prim.Native.Nat.{ℕ, ◌≤◌}
use mathlib.Core.Path.{◌≡◌, refl, sym, ap, ◌∙◌}
use mathlib.Core.List.{List, map}
use Rattle.wire.specs.declared.error.Error.{Error}
use native.Mathlib.Omega.{arith}
use lib.ListN.{length, get_or, set, replicate, length-set}
use lib.Seq.{get_or-set_same}
use Rattle.wire.specs.Read.{Bytes, AreBytes, ok, refused}
use Rattle.column.specs.declared.column.Column.{Column}
use Rattle.column.specs.Packed.{packed_from}
use Rattle.column.specs.Layout.{most_columns, layout}
use Rattle.tree.specs.Table.{table_size, schema_slot, block, start_in, count_in, entries_in, schemas_in}
use Rattle.tree.proofs.Packed.{block_start, block_count}
use Rattle.tree.proofs.Filled.{schemas_read}
use Rattle.schema.specs.Flat.{laid_over, Flat}
use Rattle.schema.proofs.Slotted.{laid_beyond, laid_columns_lem}
use Rattle.tree.specs.Schemas.{Entry, as_column, Schema}
use Rattle.questions.specs.Questions.{selected, selected_of, columns_of, column_list_of, Slotted}
use Rattle.questions.proofs.Questions.{with_found, select_refused, select_found}

-- The columns of a schema: by value
module _ (b : Bytes) (k : ℕ) where
  pub columns_refused : (e : Error) → selected_of b k ≡ refused e → columns_of b k ≡ refused e
  unfolding columns_of
  columns_refused e h = select_refused b k _ e h

  pub columns_found : (ss : List Schema) (es : List Entry) → selected_of b k ≡ ok (selected ss es) → columns_of b k ≡ ok (layout (map as_column es))
  unfolding columns_of
  columns_found ss es h = select_found b k _ ss es h

  -- in slots
  pub slotted_refused : (e : Error) {s : List ℕ} → selected_of b k ≡ refused e → Slotted b k s (Err e)
  unfolding column_list_of
  slotted_refused e h = record { answers = sym (select_refused b k _ e h); few = tt }

  pub slotted_found :
      (ss : List Schema) (es : List Entry) (n : ℕ) {s : List ℕ} → selected_of b k ≡ ok (selected ss es) → packed_from n 0 s ≡ map as_column es → n ≤ most_columns →
      Slotted b k s (Ok n)
  unfolding column_list_of
  slotted_found ss es n h l few = record { answers = ap (λ (r : List Column). ok r) l ∙ sym (select_found b k _ ss es h); few = few }

-- a file of one schema
pub slotted_flat : (b : Bytes) (s : List ℕ) (n : ℕ) → AreBytes b → Flat b s n → Slotted b 0 s (Ok n)
unfolding selected_of
slotted_flat b s n bytes f =
    let table : List ℕ = replicate table_size 0 in
    let opened : List ℕ = set table (schema_slot 0) (block 0 n 0) in
    let laid : List ℕ = laid_over n s opened in
    let long : length opened ≡ 512 = simp length-set refl in
    let within : n ≤ length s = omega (arith, f.long, f.few) in
    let size : n ≤ length opened = omega (arith, long, f.few) in
    let slot : get_or laid (schema_slot 0) 0 ≡ block 0 n 0 =
    laid_beyond n s opened (schema_slot 0) within size (omega (arith, f.few)) ∙ get_or-set_same table (schema_slot 0) (block 0 n 0) 0 (omega arith) in
    let start : start_in (block 0 n 0) ≡ 0 = block_start 0 n 0 (omega arith) (omega (arith, f.few)) in
    let count : count_in (block 0 n 0) ≡ n = block_count 0 n 0 (omega arith) (omega (arith, f.few)) in
    let found = with_found b 0 (λ ss es. ok (selected ss es)) 1 laid (schemas_read b table bytes refl _ (f.reads table refl)) (omega arith) in
    slotted_found b 0 (schemas_in 0 1 laid) (entries_in 0 n laid) n (rw (slot, start, count) at found) (laid_columns_lem n s opened within size) f.few
