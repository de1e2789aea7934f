-- Shapes of schemas, made one after the other.
-- Assumes nothing.
use Prim.Native.Nat.{ℕ, zero, suc, ◌+◌, ◌*◌, ◌≤◌, ◌<◌, min}
use mathlib.Core.Path.{◌≡◌, refl, sym, ap, ◌∙◌}
use mathlib.Core.Logic.{◌⊎◌, inl, inr}
use mathlib.Core.List.{List, [], ◌∷◌}
use mathlib.Core.Bool.{Bool, true, false}
use native.Mathlib.Numerals.{add-one}
use native.Mathlib.Omega.{arith}
use borrow.Author.Count.{below_none, below_more}
use lib.ListN.{length, get_or, set, take, length-set}
use lib.Seq.{get_or-set_same, get_or-set_other}
use Rattle.column.specs.declared.column.Column.{Column}
use Rattle.column.specs.Columns.{is_nullable, is_stop}
use Rattle.walk.specs.Presence.{marks}
use Rattle.walk.proofs.Laws.{length_marks}
use Rattle.walk.proofs.Leap.{stops_few, update_stops}
use Rattle.tree.specs.Schemas.{Schema, schema, column_count}
use Rattle.tree.specs.Table.{start_in, count_in, schema_slot, schema_in, schemas_in}
use Rattle.tree.proofs.TableSays.{entries_length, schemas_in_length, schemas_in_at}
use Rattle.shapes.specs.Data.{data_stops}
use Rattle.shapes.specs.Shapes.{first_in, form_at, Formed, slot_columns, Sound, Added}
use Rattle.shapes.specs.Masks.{Masked, MasksAdded, Shape, HasRoom, SchemaAdded, shapes_needed, Kept}
use Rattle.shapes.proofs.Slots.{length_slots}
use Rattle.shapes.proofs.MaskLaws.{masks_kept}

-- no more stops than columns
data_few : (update : Bool) (cs : List Column) → length (data_stops update cs) ≤ length cs
data_few true cs = omega (arith, update_stops cs)
data_few false cs = omega (arith, stops_few is_nullable is_stop 0 (marks 0 cs), length_marks 0 cs)

-- a form says the same of other numbers, where those of its words are the same
formed_same :
    (shapes other : List ℕ) (form : ℕ) (update : Bool) (cs : List Column) → length other ≡ length shapes →
    ((i : ℕ) → first_in form ≤ i → i < first_in form + 2 * length cs → get_or other i 0 ≡ get_or shapes i 0) →
    Formed shapes form update cs → Formed other form update cs
formed_same shapes other form update cs long same f =
    record {
      stops = λ i h.
          let x = same (first_in form + 2 * i) (omega arith) (omega (arith, data_few update cs)) in
          let y = same (first_in form + 2 * i + 1) (omega arith) (omega (arith, data_few update cs)) in
          rw (x, y) (f.stops i h);
      inside = omega (arith, f.inside);
      count = f.count;
      map = f.map;
      tail = f.tail;
      always = f.always;
    }

-- One schema.

module _
    {cs : List Column} {k next : ℕ} {entry masked stopped : List ℕ} {form : ℕ} (few : length cs ≤ 64) (low : 8 * k + 8 ≤ next)
    (room : next + 4 * length cs ≤ length entry) (m : MasksAdded cs k entry masked) (a : Added false cs next masked stopped form)
  where
    abbrev headed : List ℕ
    headed = set stopped (8 * k) form

    long : length headed ≡ length entry
    long = length-set stopped (8 * k) form ∙ a.long ∙ m.long

    head_form : get_or headed (8 * k) 0 ≡ form
    head_form = get_or-set_same stopped (8 * k) form 0 (omega (arith, a.long, m.long))

    head_other : (i : ℕ) → (i ≡ 8 * k → ⊥) → i < next → get_or headed i 0 ≡ get_or masked i 0
    head_other i n l = get_or-set_other stopped (8 * k) i form 0 n ∙ a.others i (inl l)

    row_formed : Formed headed form false cs
    row_formed =
        formed_same stopped headed form false cs (length-set stopped (8 * k) form)
        (λ i g l. get_or-set_other stopped (8 * k) i form 0 (λ e. omega (arith, a.first))) a.formed

    masks_stay : Masked headed k cs
    masks_stay = masks_kept (λ i g l. head_other i (λ e. omega arith) (omega arith)) m.masked

    before : (i : ℕ) → (i < 8 * k) ⊎ ((8 * k + 8 ≤ i) × (i < next)) → get_or headed i 0 ≡ get_or entry i 0
    before i (inl l) = head_other i (λ e. omega arith) (omega arith) ∙ m.others i (inl (omega arith))
    before i (inr (g, l)) = head_other i (λ e. omega arith) l ∙ m.others i (inr (omega arith))

    -- the top schema has no update data
    pub schema_top : k ≡ 0 → SchemaAdded cs k next entry headed
    schema_top z =
        record {
          shape =
              record {
                few = few;
                room = omega (arith, long);
                row = rw head_form row_formed;
                update = λ l. absurd (omega arith);
                masked = masks_stay;
              };
          first = rw head_form a.first;
          changes = λ l. absurd (omega arith);
          long = long;
          others = before;
        }

    -- any other has
    pub schema_nested :
        {added : List ℕ} {changes at : ℕ} → at ≡ next + 2 * length cs → Added true cs at headed added changes →
        SchemaAdded cs k next entry (set added (8 * k + 1) changes)
    schema_nested {added} {changes} {at} here u =
        record {
          shape =
              record {
                few = few;
                room = omega (arith, all_long);
                row = rw (same (8 * k) (λ e. omega arith) (omega arith), head_form) rows;
                update = λ l. rw now changed;
                masked = masks_kept (λ i g l. same i (λ e. omega arith) (omega arith)) masks_stay;
              };
          first = rw (same (8 * k) (λ e. omega arith) (omega arith), head_form) a.first;
          changes = λ l. rw now (u.first ∙ here);
          long = all_long;
          others = λ i h. same i (λ e. away i h e) (near i h) ∙ before i h;
        }
      where
        exit : List ℕ
        exit = set added (8 * k + 1) changes

        all_long : length exit ≡ length entry
        all_long = length-set added (8 * k + 1) changes ∙ u.long ∙ long

        now : get_or exit (8 * k + 1) 0 ≡ changes
        now = get_or-set_same added (8 * k + 1) changes 0 (omega (arith, u.long, long))

        same : (i : ℕ) → (i ≡ 8 * k + 1 → ⊥) → i < next + 2 * length cs → get_or exit i 0 ≡ get_or headed i 0
        same i n l = get_or-set_other added (8 * k + 1) i changes 0 n ∙ u.others i (inl (omega (arith, here)))

        rows : Formed exit form false cs
        rows = formed_same headed exit form false cs (all_long ∙ sym long) (λ i g l. same i (λ e. omega (arith, a.first)) (omega (arith, a.first))) row_formed

        changed : Formed exit changes true cs
        changed =
            formed_same added exit changes true cs (length-set added (8 * k + 1) changes)
            (λ i g l. get_or-set_other added (8 * k + 1) i changes 0 (λ e. omega (arith, u.first, here))) u.formed

        away : (i : ℕ) → (i < 8 * k) ⊎ ((8 * k + 8 ≤ i) × (i < next)) → i ≡ 8 * k + 1 → ⊥
        away i (inl l) e = omega arith
        away i (inr (g, l)) e = omega arith

        near : (i : ℕ) → (i < 8 * k) ⊎ ((8 * k + 8 ≤ i) × (i < next)) → i < next + 2 * length cs
        near i (inl l) = omega arith
        near i (inr (g, l)) = omega arith

-- Schemas.

-- the columns of one schema more
count_suc : (ss : List Schema) (k : ℕ) → k < length ss → column_count (take (suc k) ss) ≡ column_count (take k ss) + length (get_or ss k (schema 0 [])).columns
unfolding column_count
count_suc [] k h = absurd (omega arith)
count_suc (s ∷ ss) zero h = omega arith
count_suc (s ∷ ss) (suc k) h = omega (arith, count_suc ss k (omega arith))

-- no more than of all
count_below : (ss : List Schema) (k : ℕ) → column_count (take k ss) ≤ column_count ss
unfolding column_count
count_below ss zero = omega arith
count_below [] (suc k) = omega arith
count_below (s ∷ ss) (suc k) = omega (arith, count_below ss k)

-- how many columns schema number k has
schema_length : (slots : List ℕ) (n k : ℕ) → k < n → length (get_or (schemas_in 0 n slots) k (schema 0 [])).columns ≡ count_in (get_or slots (schema_slot k) 0)
unfolding schema_in
schema_length slots n k h =
    let z : 0 + k ≡ k = omega arith in
    let slot : ℕ = get_or slots (schema_slot k) 0 in
    ap (λ (s : Schema). length s.columns) (schemas_in_at 0 n slots k h ∙ ap (λ (j : ℕ). schema_in j slots) z)
    ∙ entries_length (start_in slot) (count_in slot) slots

-- the words of a form stand between two places
pub record Between (from to form size : ℕ) : Type 0 where
  pub low : from ≤ first_in form
  pub high : first_in form + 2 * size ≤ to

-- The shapes of the first k of n schemas, with the words before `next`.
pub record Keeping (slots : List ℕ) (n : ℕ) (entry shapes : List ℕ) (next k : ℕ) : Type 0 where
  pub below : k ≤ n
  pub long : length shapes ≡ length entry
  pub shaped : (j : ℕ) → j < k → Shape shapes j (slot_columns slots j)
  pub rows : (j : ℕ) → j < k → Between (8 * n) next (get_or shapes (form_at false j) 0) (length (slot_columns slots j))
  pub changes : (j : ℕ) → j < k → 1 ≤ j → Between (8 * n) next (get_or shapes (form_at true j) 0) (length (slot_columns slots j))
  pub room : next ≡ 8 * n + 4 * column_count (take k (schemas_in 0 n slots))
  pub near : next ≤ 65536

pub keep_start : (slots : List ℕ) (n : ℕ) (entry : List ℕ) → n ≤ 256 → Keeping slots n entry entry (8 * n) 0
unfolding column_count
keep_start slots n entry h =
    record {
      below = omega arith;
      long = refl;
      shaped = below_none _;
      rows = below_none _;
      changes = below_none _;
      room = omega arith;
      near = omega arith;
    }

wider : {from to more form size : ℕ} → to ≤ more → Between from to form size → Between from more form size
wider h b = record { low = b.low; high = omega (arith, b.high) }

module _ {slots : List ℕ} {n : ℕ} {entry shapes : List ℕ} {next k : ℕ} (f : Keeping slots n entry shapes next k) (h : k < n) where
  abbrev slot : ℕ
  slot = get_or slots (schema_slot k) 0

  more : column_count (take (suc k) (schemas_in 0 n slots)) ≡ column_count (take k (schemas_in 0 n slots)) + count_in slot
  more = omega (arith, count_suc (schemas_in 0 n slots) k (omega (arith, schemas_in_length 0 n slots, h)), schema_length slots n k h)

  pub keep_next :
      {exit : List ℕ} {room : ℕ} → HasRoom (start_in slot) (count_in slot) next room → room ≤ 65535 → SchemaAdded (slot_columns slots k) k next shapes exit →
      Keeping slots n entry exit (next + 4 * count_in slot) (k + 1)
  keep_next {exit} {room} has top a =
      record {
        below = omega arith;
        long = a.long ∙ f.long;
        shaped = below_more _ k before a.shape;
        rows = below_more _ k (λ j l. rw (head j l (8 * j) (omega arith) (omega arith)) (wider (omega arith) (f.rows j l))) (record { low = omega (arith, a.first, start); high = omega (arith, a.first, size) });
        changes =
            below_more _ k (λ j l q. rw (head j l (8 * j + 1) (omega arith) (omega arith)) (wider (omega arith) (f.changes j l q)))
            (λ q. record { low = omega (arith, a.changes q, start); high = omega (arith, a.changes q, size) });
        room = rw (add-one k) (omega (arith, more, f.room));
        near = omega (arith, has.words);
      }
    where
      size : length (slot_columns slots k) ≡ count_in slot
      size = length_slots slots (start_in slot) (count_in slot)

      start : 8 * n ≤ next
      start = omega (arith, f.room)

      -- the eight numbers of a schema before it
      head : (j : ℕ) → j < k → (i : ℕ) → 8 * j ≤ i → i < 8 * j + 8 → get_or exit i 0 ≡ get_or shapes i 0
      head j l i g m = a.others i (inl (omega arith))

      -- its words
      words : {form m : ℕ} → Between (8 * n) next form m → (i : ℕ) → first_in form ≤ i → i < first_in form + 2 * m → get_or exit i 0 ≡ get_or shapes i 0
      words b i g l = a.others i (inr (omega (arith, b.low), omega (arith, b.high)))

      before : (j : ℕ) → j < k → Shape exit j (slot_columns slots j)
      before j l =
          let s = f.shaped j l in
          record {
            few = s.few;
            room = omega (arith, s.room, a.long);
            row = rw (head j l (8 * j) (omega arith) (omega arith)) (formed_same shapes exit _ false _ a.long (words (f.rows j l)) s.row);
            update = λ q. rw (head j l (8 * j + 1) (omega arith) (omega arith)) (formed_same shapes exit _ true _ a.long (words (f.changes j l q)) (s.update q));
            masked = masks_kept (λ i g m. head j l i (omega arith) (omega arith)) s.masked;
          }

  -- in a sound table with room a schema has room
  pub keep_room : {room : ℕ} → room ≡ min (length entry) 65535 → Sound slots n → shapes_needed slots n ≤ length entry → HasRoom (start_in slot) (count_in slot) next room
  keep_room {room} r sound enough =
      let t : column_count (take (suc k) (schemas_in 0 n slots)) ≤ column_count (schemas_in 0 n slots) = count_below (schemas_in 0 n slots) (suc k) in
      record {
        few = sound.few k h;
        inside = sound.inside k h;
        words = omega (arith, r, more, t, f.room, sound.total, sound.all, enough);
      }

pub keep_end : {slots : List ℕ} {n : ℕ} {entry shapes : List ℕ} {next k : ℕ} → Keeping slots n entry shapes next k → n ≤ k → Kept slots n entry shapes
keep_end f h = record { long = f.long; shaped = λ s e j l. f.shaped j (omega (arith, l, h)) }
