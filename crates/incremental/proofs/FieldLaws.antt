-- The fields of row data in progress: what passes a column, what a column's field leads to, and the columns in their slots.
-- Assumes nothing.
use Rattle.std.specs.Prelude.{Option as Rust, Some, None}
use Rattle.std.specs.Option.{unwrap_or}
use Rattle.schema.specs.Children.{told_child}
use Prim.Native.Nat.{ℕ, zero, suc, ◌+◌, ◌-◌, ◌≤◌, ◌<◌, max, min}
use mathlib.Core.List.{List, [], ◌∷◌}
use mathlib.Core.Bool.{Bool, true, false}
use mathlib.Core.Option.{Option, none, some}
use mathlib.Core.Path.{◌≡◌, refl, sym, ap, ◌∙◌}
use native.Mathlib.Omega.{arith}
use lib.ListN.{length, get_or, drop, drop_of_length-le}
use lib.Seq.{drop-cons}
use lib.Dec.{leb, ltb}
use borrow.Author.Tests.{leb-true, leb-false, ltb-true, ltb-false}
use Rattle.wire.specs.Read.{Bytes, ok, pick, cut}
use Rattle.wire.specs.Bits.{map_bytes}
use Rattle.column.specs.declared.column.Column.{Column}
use Rattle.column.specs.declared.field.Field.{Field}
use Rattle.column.specs.Fields.{field_at}
use Rattle.column.proofs.Laws.{field_told}
use Rattle.column.specs.Columns.{is_variable, width, prefix_size}
use Rattle.walk.specs.Presence.{no_column, bit_of, no_mark, mark, present}
use Rattle.walk.specs.Updates.{update_bytes, carried, carried_in}
use Rattle.walk.specs.Data.{data_has, data_marks}
use Rattle.walk.proofs.Laws.{mark_at}
use Rattle.walk.proofs.UpdateLaws.{number_at_lem}
use Rattle.walk.proofs.Data.{data_column}
use Rattle.tree.specs.Schemas.{Schema, child_number, or0}
use Rattle.tree.specs.Table.{schema_slot, start_in, count_in, schemas_in}
use Rattle.tree.proofs.TableSays.{schemas_in_length}
use Rattle.tree.proofs.Children.{child_found}
use Rattle.shapes.specs.Shapes.{Sound, slot_columns}
use Rattle.shapes.proofs.Slots.{in_slots, length_slots, slot_bit}
use mir.Val.{bool_byte}
use Rattle.walk.specs.Presence.{one}
use Rattle.column.specs.Columns.{is_nullable}
use Rattle.tree.specs.Schemas.{as_column}
use Rattle.tree.specs.Table.{entry_in}
use Rattle.grammar.specs.Grammar.{columns_at}
use Rattle.section.proofs.Scanning.{columns_at_lem}
use Rattle.feeding.specs.Machine.{Kind, parent_row, child_row, change_row, is_update, columns_for, column_for, marks_for, has_for, behind, adds, prefix, State, between, keep, skip, body_of, seek, seek_from, feed}
use Rattle.feeding.proofs.Left.{marks_length}
use Rattle.feeding.proofs.Fed.{feed_append}
use Rattle.feeding.proofs.Bulk.{cut_two, field_passed}
use Rattle.incremental.specs.declared.fields.Block.{Block}
use Rattle.incremental.specs.declared.fields.Fields.{Fields}
use Rattle.incremental.specs.declared.fields.Moved.{Moved}
use Rattle.incremental.specs.declared.record.Reader.{Reader}
use Rattle.incremental.specs.declared.record.RowKind.{RowKind}
use Rattle.incremental.specs.declared.record.RowKind.TheVariants as row_kind
use Rattle.incremental.specs.Parts.{kind_told}
use mathlib.Core.Logic.{◌⊎◌, inl, inr}
use Rattle.incremental.specs.Record.{kind_in, map_in}
use Rattle.incremental.specs.Steps.{number_for, Columns, FieldsPassed, Sought, Stands}

false_true : false ≡ true → ⊥
false_true e = let z : ◌≡◌ {A = ℕ} 0 1 = cc in omega arith

pub prefix_few : (c : Column) → prefix_size c ≤ 4
unfolding prefix_size
prefix_few c = go (ltb c.maximum 256)
  where
    go : (t : Bool) → pick t 1 4 ≤ 4
    go true = omega arith
    go false = omega arith

-- The bit of the next column, as code counts.
counted : (t : Bool) → bool_byte t ≡ one t
counted true = refl
counted false = refl

pub slot_counted :
    (slots : List ℕ) (first count i b : ℕ) (c : Column) {t : Bool} {o : ℕ} → i < count → b ≡ bit_of (in_slots slots first count) i →
    c ≡ as_column (entry_in (get_or slots (first + i) 0)) → t ≡ is_nullable c → o ≡ bool_byte t →
    (b + o ≡ bit_of (in_slots slots first count) (i + 1)) × (b + o ≤ i + 1)
slot_counted slots first count i b c {t} h e f g k = slot_bit slots first count i b c h e f g (k ∙ counted t)

-- One column.
module _ (S : List Schema) (n at : ℕ) (k : Kind) (bits : Bytes) (j : ℕ) where
  module _ (h : j < length (columns_for S k)) where
    seek_step :
        seek_from S n at k bits j
        ≡ pick (has_for S k bits (get_or (marks_for S k) j no_mark))
        (pick (is_variable (column_for S k j)) (keep n at [] (prefix_size (column_for S k j) - 1) (prefix k bits j))
        (body_of n at (width (column_for S k j)) k bits (suc j) (seek_from S n (at + width (column_for S k j)) k bits (suc j))))
        (seek_from S n at k bits (suc j))
    unfolding seek
    seek_step =
        let l : j < length (marks_for S k) = omega (arith, marks_length (is_update k) (columns_for S k)) in
        let e : drop j (marks_for S k) ≡ get_or (marks_for S k) j no_mark ∷ drop (suc j) (marks_for S k) = drop-cons (marks_for S k) j no_mark l in
        let c : (get_or (marks_for S k) j no_mark).column ≡ column_for S k j = data_column (is_update k) (columns_for S k) j h in
        ap (seek S n at k bits j) e ∙ rw c

    pub seek_none : has_for S k bits (get_or (marks_for S k) j no_mark) ≡ false → seek_from S n at k bits j ≡ seek_from S n at k bits (suc j)
    seek_none e = seek_step ∙ rw e

    module _ (e : has_for S k bits (get_or (marks_for S k) j no_mark) ≡ true) where
      pub seek_field :
          (s : Bytes) (start : ℕ) (f : Field) → field_at (column_for S k j) s start ≡ ok f →
          feed S (seek_from S n at k bits j) (cut s start (f.end - start)) ≡ seek_from S n (at + (f.end - start)) k bits (suc j)
      seek_field s start f x =
          let l : j < length (marks_for S k) = omega (arith, marks_length (is_update k) (columns_for S k)) in
          let c : (get_or (marks_for S k) j no_mark).column ≡ column_for S k j = data_column (is_update k) (columns_for S k) j h in
          field_passed S s n k bits j (get_or (marks_for S k) j no_mark) (drop (suc j) (marks_for S k)) at start f (drop-cons (marks_for S k) j no_mark l) e
          (ap (λ (y : Column). field_at y s start) c ∙ x)

      pub seek_empty :
          is_variable (column_for S k j) ≡ false → width (column_for S k j) ≡ 0 → seek_from S n at k bits j ≡ seek_from S n at k bits (suc j)
      seek_empty v w =
          let z : at + 0 ≡ at = omega arith in
          seek_step ∙ rw (e, v, w) (ap (λ (x : ℕ). seek_from S n x k bits (suc j)) z)

      pub seek_prefix :
          is_variable (column_for S k j) ≡ true → seek_from S n at k bits j ≡ keep n at [] (prefix_size (column_for S k j) - 1) (prefix k bits j)
      seek_prefix v = seek_step ∙ rw (e, v)

      pub seek_body :
          is_variable (column_for S k j) ≡ false → 0 < width (column_for S k j) →
          seek_from S n at k bits j ≡ skip n at (width (column_for S k j) - 1) k bits (suc j)
      seek_body v w = seek_step ∙ rw (e, v) (go (width (column_for S k j)) w (seek_from S n (at + width (column_for S k j)) k bits (suc j)))
        where
          go : (x : ℕ) → 0 < x → (st : State) → body_of n at x k bits (suc j) st ≡ skip n at (x - 1) k bits (suc j)
          go zero l st = absurd (omega arith)
          go (suc x) l st = let z : x ≡ suc x - 1 = omega arith in ap (λ (y : ℕ). skip n at y k bits (suc j)) z

  pub seek_past : length (columns_for S k) ≤ j → seek_from S n at k bits j ≡ between (n + adds k) at (behind k)
  unfolding seek
  seek_past h =
      let l : length (marks_for S k) ≤ j = omega (arith, marks_length (is_update k) (columns_for S k)) in
      let e : drop j (marks_for S k) ≡ [] = drop_of_length-le (marks_for S k) l in
      ap (seek S n at k bits j) e

-- Whether a column has a field, as code asks.
drop_least : (s : Bytes) (a half : ℕ) → half ≡ min a (length s) → drop half s ≡ drop a s
drop_least s a half e = go (leb a (length s)) refl
  where
    go : (t : Bool) → leb a (length s) ≡ t → drop half s ≡ drop a s
    go true h = let l : a ≤ length s = leb-true _ _ h in let z : half ≡ a = omega arith in ap (λ (x : ℕ). drop x s) z
    go false h =
        let l : length s < a = leb-false _ _ h in
        let f : length s ≤ half = omega arith in
        let g : length s ≤ a = omega arith in
        drop_of_length-le s f ∙ sym (drop_of_length-le s g)

pub has_told :
    (u : Bool) (cs : List Column) (bits : Bytes) (i bit half : ℕ) (c : Column) → i < length cs → c ≡ get_or cs i no_column → bit ≡ bit_of cs i →
    half ≡ min (update_bytes cs) (length bits) →
    pick u (carried bits (drop half bits) (mark c i)) (present bits (mark c bit)) ≡ data_has u cs bits 0 (get_or (data_marks u cs) i no_mark)
unfolding carried_in
has_told true cs bits i bit half c h e b l =
    let z : 0 + update_bytes cs ≡ update_bytes cs = omega arith in
    rw (number_at_lem cs i h, e, drop_least bits (update_bytes cs) half l, z)
has_told false cs bits i bit half c h e b l = rw (mark_at cs i h, e, b)

-- The loop over the columns: up to column i, all fields from column j on were passed.
pub record Passing (u : Bool) (cs : List Column) (bits : Bytes) (j : ℕ) (s : Bytes) (start i bit at : ℕ) : Type 0 where
  pub from : min j (length cs) ≤ i
  pub below : i ≤ length cs
  pub counted : bit ≡ bit_of cs i
  pub few : bit ≤ i
  pub forward : start ≤ at
  pub inside : at ≤ length s
  pub passes :
      (S : List Schema) (n place : ℕ) (k : Kind) → columns_for S k ≡ cs → is_update k ≡ u →
      feed S (seek_from S n place k bits j) (cut s start (at - start)) ≡ seek_from S n (place + (at - start)) k bits (max i j)

module _ (u : Bool) (cs : List Column) (bits : Bytes) (j : ℕ) (s : Bytes) (start : ℕ) where
  pub passing_start : (i bit : ℕ) → i ≡ min j (length cs) → (bit ≡ bit_of cs i) × (bit ≤ i) → start ≤ length s → Passing u cs bits j s start i bit start
  unfolding feed
  passing_start i bit e b l =
      let z : max i j ≡ j = omega arith in
      let x : start - start ≡ 0 = omega arith in
      record {
        from = omega arith;
        below = omega arith;
        counted = b.0;
        few = b.1;
        forward = omega arith;
        inside = l;
        passes = λ S n place k e f. let y : place + 0 ≡ place = omega arith in rw (x, y, z) refl;
      }

  module _ {i bit at : ℕ} (w : Passing u cs bits j s start i bit at) (h : i < length cs) where
    asked_for : j ≤ i
    asked_for = omega (arith, w.from)

    module _ (bit' : ℕ) (e : (bit' ≡ bit_of cs (i + 1)) × (bit' ≤ i + 1)) where
      -- one that moves nothing
      passing_past :
          ((S : List Schema) (n place : ℕ) (k : Kind) → columns_for S k ≡ cs → is_update k ≡ u → seek_from S n place k bits i ≡ seek_from S n place k bits (suc i)) →
          Passing u cs bits j s start (i + 1) bit' at
      passing_past g =
          let y : max i j ≡ i = omega (arith, asked_for) in
          let z : suc i ≡ max (i + 1) j = omega (arith, asked_for) in
          record {
            from = omega (arith, w.from);
            below = omega arith;
            counted = e.0;
            few = e.1;
            forward = w.forward;
            inside = w.inside;
            passes = λ S n place k p q.
                w.passes S n place k p q
                ∙ ap (seek_from S n (place + (at - start)) k bits) y
                ∙ g S n (place + (at - start)) k p q
                ∙ ap (seek_from S n (place + (at - start)) k bits) z;
          }

      -- one without a field
      pub passing_none : data_has u cs bits 0 (get_or (data_marks u cs) i no_mark) ≡ false → Passing u cs bits j s start (i + 1) bit' at
      passing_none t = passing_past (λ S n place k p q. seek_none S n place k bits i (rw p h) (rw (p, q) t))

      -- one whose field has no bytes
      pub passing_empty :
          data_has u cs bits 0 (get_or (data_marks u cs) i no_mark) ≡ true → is_variable (get_or cs i no_column) ≡ false → width (get_or cs i no_column) ≡ 0 →
          Passing u cs bits j s start (i + 1) bit' at
      passing_empty t v x = passing_past (λ S n place k p q. seek_empty S n place k bits i (rw p h) (rw (p, q) t) (rw p v) (rw p x))

      -- one whose field is whole
      pub passing_field :
          data_has u cs bits 0 (get_or (data_marks u cs) i no_mark) ≡ true → (f : Field) → field_at (get_or cs i no_column) s at ≡ ok f →
          Passing u cs bits j s start (i + 1) bit' f.end
      passing_field t f x =
          let y : max i j ≡ i = omega (arith, asked_for) in
          let z : suc i ≡ max (i + 1) j = omega (arith, asked_for) in
          let d = field_told (get_or cs i no_column) s at x in
          let o : at ≤ f.end = omega (arith, d.starts, d.forward) in
          record {
            from = omega (arith, w.from);
            below = omega arith;
            counted = e.0;
            few = e.1;
            forward = omega (arith, w.forward);
            inside = d.ends;
            passes = λ S n place k p q.
                let v : place + (at - start) + (f.end - at) ≡ place + (f.end - start) = omega (arith, w.forward) in
                ap (feed S (seek_from S n place k bits j)) (cut_two s start at f.end w.forward o d.ends)
                ∙ feed_append S _ (cut s start (at - start)) (cut s at (f.end - at))
                ∙ ap (λ (st : State). feed S st (cut s at (f.end - at))) (w.passes S n place k p q ∙ ap (seek_from S n (place + (at - start)) k bits) y)
                ∙ seek_field S n (place + (at - start)) k bits i (rw p h) (rw (p, q) t) s at f (rw p x)
                ∙ ap (λ (a : ℕ). seek_from S n a k bits (suc i)) v
                ∙ ap (seek_from S n (place + (f.end - start)) k bits) z;
          }

    -- the field that is not
    pub passing_found :
        data_has u cs bits 0 (get_or (data_marks u cs) i no_mark) ≡ true → (is_variable (get_or cs i no_column) ≡ false → 0 < width (get_or cs i no_column)) →
        FieldsPassed u cs bits j s start (record { at = at; column = i })
    passing_found t x =
        let y : max i j ≡ i = omega (arith, asked_for) in
        record {
          passes = λ S n place k p q. w.passes S n place k p q ∙ ap (seek_from S n (place + (at - start)) k bits) y;
          forward = w.forward;
          inside = w.inside;
          most = omega arith;
          has = λ _. t;
          sized = λ _. x;
        }

  -- all columns
  pub passing_end :
      {i bit at : ℕ} → Passing u cs bits j s start i bit at → (c : ℕ) → c ≡ length cs → c ≤ i → FieldsPassed u cs bits j s start (record { at = at; column = c })
  passing_end {i} {bit} {at} w c z l =
      record {
        passes = λ S n place k p q.
            w.passes S n place k p q
            ∙ seek_past S n (place + (at - start)) k bits (max i j) (rw p (omega arith))
            ∙ sym (seek_past S n (place + (at - start)) k bits c (rw p (omega arith)));
        forward = w.forward;
        inside = w.inside;
        most = omega arith;
        has = λ g. absurd (omega arith);
        sized = λ g. absurd (omega arith);
      }

-- What the test of one column says.
module _ (u : Bool) (cs : List Column) (bits : Bytes) (j : ℕ) (s : Bytes) (start : ℕ) {i bit at : ℕ} (w : Passing u cs bits j s start i bit at) (h : i < length cs) (half : ℕ) (l : half ≡ min (update_bytes cs) (length bits)) (c : Column) (e : c ≡ get_or cs i no_column) (r : Bool)
    (f : r ≡ pick (pick u (carried bits (drop half bits) (mark c i)) (present bits (mark c bit))) (pick (is_variable c) true (ltb 0 (width c))) false) where
  -- it has a field, with bytes or with a length in front of it
  abbrev Comes : Type 0
  Comes = (data_has u cs bits 0 (get_or (data_marks u cs) i no_mark) ≡ true) × (is_variable (get_or cs i no_column) ≡ false → 0 < width (get_or cs i no_column))

  has_here : pick u (carried bits (drop half bits) (mark c i)) (present bits (mark c bit)) ≡ data_has u cs bits 0 (get_or (data_marks u cs) i no_mark)
  has_here = has_told u cs bits i bit half c h e w.counted l

  asked : r ≡ pick (data_has u cs bits 0 (get_or (data_marks u cs) i no_mark)) (pick (is_variable (get_or cs i no_column)) true (ltb 0 (width (get_or cs i no_column)))) false
  asked = f ∙ rw (has_here, e)

  asked_comes : r ≡ true → Comes
  asked_comes t =
      go (data_has u cs bits 0 (get_or (data_marks u cs) i no_mark)) (is_variable (get_or cs i no_column)) (ltb 0 (width (get_or cs i no_column))) refl refl refl (sym asked ∙ t)
    where
      go :
          (b v x : Bool) → data_has u cs bits 0 (get_or (data_marks u cs) i no_mark) ≡ b → is_variable (get_or cs i no_column) ≡ v → ltb 0 (width (get_or cs i no_column)) ≡ x →
          pick b (pick v true x) false ≡ true → Comes
      go false v x q y z k = absurd (false_true k)
      go true true x q y z k = (q, λ n. absurd (false_true (sym n ∙ y)))
      go true false true q y z k = (q, λ _. ltb-true _ _ z)
      go true false false q y z k = absurd (false_true k)

  pub asked_found : r ≡ true → FieldsPassed u cs bits j s start (record { at = at; column = i })
  asked_found t = let (q, x) = asked_comes t in passing_found u cs bits j s start w h q x

  pub asked_passed :
      r ≡ true → (bit' : ℕ) → (bit' ≡ bit_of cs (i + 1)) × (bit' ≤ i + 1) → (x : Field) → ok x ≡ field_at c s at → Passing u cs bits j s start (i + 1) bit' x.end
  asked_passed t bit' n x g =
      let (q, _) = asked_comes t in
      passing_field u cs bits j s start w h bit' n q x (ap (λ (y : Column). field_at y s at) (sym e) ∙ sym g)

  pub asked_next : r ≡ false → (bit' : ℕ) → (bit' ≡ bit_of cs (i + 1)) × (bit' ≤ i + 1) → Passing u cs bits j s start (i + 1) bit' at
  asked_next t bit' n =
      go (data_has u cs bits 0 (get_or (data_marks u cs) i no_mark)) (is_variable (get_or cs i no_column)) (ltb 0 (width (get_or cs i no_column))) refl refl refl (sym asked ∙ t)
    where
      go :
          (b v x : Bool) → data_has u cs bits 0 (get_or (data_marks u cs) i no_mark) ≡ b → is_variable (get_or cs i no_column) ≡ v → ltb 0 (width (get_or cs i no_column)) ≡ x →
          pick b (pick v true x) false ≡ false → Passing u cs bits j s start (i + 1) bit' at
      go false v x q y z k = passing_none u cs bits j s start w h bit' n q
      go true true x q y z k = absurd (false_true (sym k))
      go true false true q y z k = absurd (false_true (sym k))
      go true false false q y z k =
          let o : width (get_or cs i no_column) ≤ 0 = ltb-false _ _ z in
          passing_empty u cs bits j s start w h bit' n q y (omega arith)

-- where the force-null map starts
pub half_told :
    (slots : List ℕ) (first count : ℕ) (bits : Bytes) {half size : ℕ} → half ≡ min size (length bits) → size ≡ map_bytes count →
    half ≡ min (update_bytes (in_slots slots first count)) (length bits)
unfolding update_bytes
half_told slots first count bits e f = e ∙ rw (f, length_slots slots first count)

-- The state at the column that comes next.
module _ (S : List Schema) (n place : ℕ) (k : Kind) (bits : Bytes) {u : Bool} {cs : List Column} {j : ℕ} {s : Bytes} {start : ℕ} {r : Fields} (f : FieldsPassed u cs bits j s start r)
    (p : columns_for S k ≡ cs) (q : is_update k ≡ u) where
  pub found_field :
      (to : ℕ) → place + (r.at - start) ≡ to → r.column < length cs → (c : Column) → c ≡ get_or cs r.column no_column →
      feed S (seek_from S n place k bits j) (cut s start (r.at - start))
      ≡ pick (is_variable c) (keep n to [] (prefix_size c - 1) (prefix k bits r.column)) (skip n to (width c - 1) k bits (suc r.column))
  found_field to z h c e = f.passes S n place k p q ∙ ap (λ (x : ℕ). seek_from S n x k bits r.column) z ∙ go (is_variable c) refl
    where
      l : r.column < length (columns_for S k)
      l = rw p h

      has : has_for S k bits (get_or (marks_for S k) r.column no_mark) ≡ true
      has = rw (p, q) (f.has h)

      same : column_for S k r.column ≡ c
      same = rw p (sym e)

      go :
          (v : Bool) → is_variable c ≡ v →
          seek_from S n to k bits r.column ≡ pick v (keep n to [] (prefix_size c - 1) (prefix k bits r.column)) (skip n to (width c - 1) k bits (suc r.column))
      go true v =
          seek_prefix S n to k bits r.column l has (ap is_variable same ∙ v) ∙ ap (λ (x : Column). keep n to [] (prefix_size x - 1) (prefix k bits r.column)) same
      go false v =
          let w : 0 < width (get_or cs r.column no_column) = f.sized h (ap is_variable (sym e) ∙ v) in
          let y : width (column_for S k r.column) ≡ width (get_or cs r.column no_column) = ap width (same ∙ e) in
          seek_body S n to k bits r.column l has (ap is_variable same ∙ v) (omega arith) ∙ ap (λ (x : Column). skip n to (width x - 1) k bits (suc r.column)) same

  pub found_none :
      (to : ℕ) → place + (r.at - start) ≡ to → length cs ≤ r.column → feed S (seek_from S n place k bits j) (cut s start (r.at - start)) ≡ between (n + adds k) to (behind k)
  found_none to z h = f.passes S n place k p q ∙ ap (λ (x : ℕ). seek_from S n x k bits r.column) z ∙ seek_past S n to k bits r.column (rw p h)

-- It stands where the fields have come to.
pub sought :
    {S : List Schema} {s : Bytes} {r a : Reader} {place j start at to : ℕ} {st : State} → start ≤ at → at ≤ length s → place + (at - start) ≡ to →
    feed S (seek_from S r.rows place (kind_in r) (map_in r) j) (cut s start (at - start)) ≡ st → Stands st to a → Sought S s r place j start (record { reader = a; at = at })
sought {a = a} l i z e w = record { state = e ∙ sym w.state; forward = l; inside = i; sane = rw z w.sane }

-- Nothing is at hand.
pub sought_none :
    {S : List Schema} {s : Bytes} {r : Reader} {place j : ℕ} {m : Moved} → Sought S s r place j 0 m → length s ≡ 0 →
    Stands (seek_from S r.rows place (kind_in r) (map_in r) j) place m.reader
unfolding feed
sought_none {S} {s} {r} {place} {j} {m} w z =
    let x : m.at ≡ 0 = omega (arith, w.inside) in
    let y : place + (m.at - 0) ≡ place = omega arith in
    let v : m.at - 0 ≡ 0 = omega arith in
    record {
      state = sym w.state ∙ ap (λ (n : ℕ). feed S (seek_from S r.rows place (kind_in r) (map_in r) j) (cut s 0 n)) v;
      sane = rw y at w.sane;
    }

-- Where no schema has an id, the number is 0.
pub or0_told : (x : Rust ℕ) → unwrap_or x 0 ≡ or0 (told_child x)
or0_told None = refl
or0_told (Some k) = refl

-- The columns of row data stand in the slots of their schema.
or_low : (ss : List Schema) (id : ℕ) → 1 ≤ length ss → or0 (child_number ss id) < length ss
or_low ss id top = go (child_number ss id) refl
  where
    go : (o : Option ℕ) → child_number ss id ≡ o → or0 o < length ss
    go none e = omega (arith, top)
    go (some k) e = (child_found ss id k e).1

module _ (slots : List ℕ) (n : ℕ) (sound : Sound slots n) where
  pub number_low : (id : ℕ) → or0 (child_number (schemas_in 0 n slots) id) < n
  number_low id = let z = schemas_in_length 0 n slots in omega (arith, or_low (schemas_in 0 n slots) id (omega (arith, sound.top)))

  pub number_few : (id : ℕ) → or0 (child_number (schemas_in 0 n slots) id) < 256
  number_few id = omega (arith, number_low id, sound.all)

  at_number :
      (k : ℕ) (b : Block) → k < n → b.first ≡ start_in (get_or slots (schema_slot k) 0) → b.count ≡ count_in (get_or slots (schema_slot k) 0) →
      Columns slots (slot_columns slots k) b
  at_number k b h e f =
      record {
        are = rw (e, f);
        few = omega (arith, sound.few k h);
        inside = omega (arith, sound.inside k h);
      }

  child_block :
      (id number : ℕ) (b : Block) → number ≡ or0 (child_number (schemas_in 0 n slots) id) →
      b.first ≡ start_in (get_or slots (schema_slot number) 0) → b.count ≡ count_in (get_or slots (schema_slot number) 0) →
      Columns slots (columns_at (schemas_in 0 n slots) (or0 (child_number (schemas_in 0 n slots) id))) b
  child_block id number b e f g =
      rw (columns_at_lem slots n (or0 (child_number (schemas_in 0 n slots) id)) (number_low id))
      (at_number (or0 (child_number (schemas_in 0 n slots) id)) b (number_low id) (f ∙ rw e) (g ∙ rw e))

  pub block_told :
      (k : Kind) (number : ℕ) (b : Block) → number ≡ number_for (schemas_in 0 n slots) k →
      b.first ≡ start_in (get_or slots (schema_slot number) 0) → b.count ≡ count_in (get_or slots (schema_slot number) 0) →
      Columns slots (columns_for (schemas_in 0 n slots) k) b
  block_told parent_row number b e f g =
      rw (columns_at_lem slots n 0 (omega (arith, sound.top))) (at_number 0 b (omega (arith, sound.top)) (f ∙ rw e) (g ∙ rw e))
  block_told (child_row id) number b e f g = child_block id number b e f g
  block_told (change_row id) number b e f g = child_block id number b e f g

  -- The number of the schema, as code finds it.
  pub number_told :
      (kind : RowKind) (id number : ℕ) → (kind ≡ row_kind.Child id) ⊎ (kind ≡ row_kind.Change id) → number ≡ or0 (child_number (schemas_in 0 n slots) id) →
      (number ≡ number_for (schemas_in 0 n slots) (kind_told kind)) × (number < 256)
  number_told kind id number (inl e) f = (rw e f, rw f (number_few id))
  number_told kind id number (inr e) f = (rw e f, rw f (number_few id))
