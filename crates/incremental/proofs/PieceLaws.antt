-- Pieces that are whole: what each is judged to, and the record that then stands.
-- Assumes nothing.
use Rattle.std.specs.Prelude.{Result, Ok, Err, IfErr, IsErrAnd}
use Rattle.wire.specs.Read.{told}
use Prim.Native.Nat.{ℕ, zero, suc, ◌+◌, ◌*◌, ◌-◌, ◌≤◌, ◌<◌, min}
use mathlib.Core.Path.{◌≡◌, refl, sym, ap, ◌∙◌}
use mathlib.Core.List.{List, [], ◌∷◌, ◌++◌, map}
use mathlib.Core.Bool.{Bool, true, false}
use native.Mathlib.Omega.{arith}
use native.Mathlib.Numerals.{add-one}
use lib.ListN.{length, get_or, take, drop}
use borrow.Author.Tests.{ne_eqb}
use Rattle.wire.specs.declared.error.Error.{Error}
use Rattle.wire.specs.declared.error.Input.{Input}
use Rattle.wire.specs.declared.error.Input.TheVariants as input
use Rattle.wire.specs.Read.{Bytes, Read, ok, bad, check, refused}
use Rattle.wire.specs.Integers.{read_int}
use Rattle.wire.specs.Bits.{map_bytes}
use Rattle.column.specs.declared.column.Column.{Column}
use Rattle.column.specs.declared.columns.Columns.{Columns as Arrays}
use Rattle.column.specs.Columns.{prefix_size, length_error}
use Rattle.column.specs.Fields.{allowed}
use Rattle.column.specs.Layout.{layout, columns_in}
use Rattle.walk.specs.Presence.{no_column, presence_bytes, nullables, Mark, mark, marks, bit_of, mark_of, chapter_present, clear}
use Rattle.walk.specs.Rows.{opened}
use Rattle.walk.specs.Updates.{update_end, update_bytes}
use Rattle.walk.specs.Data.{data_opened}
use Rattle.walk.proofs.Laws.{bit_zero, bit_all, bit_few, opened_well, bits_next, bits_end}
use Rattle.tree.specs.Schemas.{Schema, as_column, child_number}
use Rattle.tree.specs.Table.{entries_in}
use Rattle.shapes.proofs.Slots.{in_slots, length_slots, columns_held}
use Rattle.grammar.specs.Grammar.{Before, other}
use Rattle.grammar.specs.Reader.{token_of, known_child, follows}
use Rattle.grammar.proofs.RowErrors.{RowErrorAt, short, chapter_bit, force_rule, length_rule, of_told, of_int, of_opened, of_update}
use mathlib.Core.Option.{none, some}
use Rattle.feeding.specs.Machine.{Kind, from, parent_row, child_row, change_row, is_update, columns_for, column_for, map_size, child_id, change_id, delete_id, maps, prefix, State, between, keep, skip, finished, stopped, settle, body_of, seek_from, mapped, row_from, row_by, tokened, measured, judge, feed}
use Rattle.feeding.proofs.Bulk.{keep_some, keep_all}
use Rattle.incremental.specs.declared.record.Reader.{Reader}
use Rattle.incremental.specs.declared.fields.Block.{Block}
use Rattle.incremental.specs.Record.{before_by, paired_of, paired_id, kind_of, id_of, kind_in, held_in, map_in, stage_in, state_in, numbers}
use Rattle.incremental.specs.Steps.{Columns, Sane, Stands, Reached}
use Rattle.incremental.proofs.StateLaws.{before_back, kind_back, state_between, state_piece, state_finished, stage_child, stage_change, stage_delete, stage_maps, sane_between, sane_late, sane_piece, body_stands, stands}
use lib.Seq.{length-take-le}
use lib.Dec.{eqb}
use Rattle.wire.specs.Errors.{code_of}

-- The same record, of another way to say its state.
pub stands_as : {st st' : State} {to : ℕ} {r : Reader} → Stands st to r → st ≡ st' → Stands st' to r
stands_as {st} {st'} {to} {r} s e = record { state = s.state ∙ e; sane = s.sane }

pub reached_as : {st st' : State} {to to' : ℕ} (r : Result Reader Error) → Reached st to r → st ≡ st' → to ≡ to' → Reached st' to' r
reached_as {st} {st'} {to} {to'} (Ok r) s e f = record { state = s.state ∙ e; sane = rw f at s.sane }
reached_as (Err q) s e f = s ∙ e

-- what a `?` ends early
pub reached_exit : (st : State) (to : ℕ) (r : Result Reader Error) (e : Error) → IsErrAnd r (λ d. d ≡ e) → settle (refused e) ≡ st → Reached st to r
reached_exit st to (Ok _) e same h = elim same [ ]
reached_exit st to (Err d) e same h = ap (λ (x : Error). settle (refused x)) same ∙ h

-- An error of a piece is about a single input, and stands in it.
pub record Within (size offset : ℕ) (name : Input) : Type 0 where
  pub single : name ≡ input.Single
  pub inside : offset ≤ size

within : {n c o : ℕ} {i : Input} → RowErrorAt n c o × (i ≡ input.Single) → Within n o i
within (short, e) = record { single = e; inside = omega arith }
within (chapter_bit h, e) = record { single = e; inside = omega arith }
within (force_rule h, e) = record { single = e; inside = omega arith }
within (length_rule h, e) = record { single = e; inside = omega arith }

pub int_within : (s : Bytes) (n : ℕ) {c o : ℕ} {i : Input} → read_int s 0 n ≡ bad c o i → Within (length s) o i
int_within s n e = within (of_told (of_int s 0 n) e)

pub data_within : (update : Bool) (cs : List Column) (s : Bytes) {c o : ℕ} {i : Input} → data_opened update cs s 0 ≡ bad c o i → Within (length s) o i
unfolding update_end
data_within true cs s {c} {o} {i} e =
    let f : update_end cs s 0 ≡ bad c o i = rw e refl in
    within (of_told (of_update s cs 0) f)
data_within false cs s e = within (of_told (of_opened s cs 0) e)

pub refused_piece :
    {st : State} {size : ℕ} (to start : ℕ) (e : Error) → Within size e.offset e.input → st ≡ stopped (code_of e.kind) (start + e.offset) e.input →
    Reached st to (Err (record { kind = e.kind; offset = start + e.offset; input = input.Single }))
refused_piece {st} {size} to start e w q = ap (λ (i : Input). stopped (code_of e.kind) (start + e.offset) i) (sym w.single) ∙ sym q

-- The place of an error of a piece is no greater than its size.
early : {n c o : ℕ} {i : Input} → RowErrorAt n c o × (i ≡ input.Single) → o ≤ n
early (short, e) = omega arith
early (chapter_bit h, e) = omega arith
early (force_rule h, e) = omega arith
early (length_rule h, e) = omega arith

pub int_early : (s : Bytes) (n : ℕ) (r : Result ℕ Error) → length s ≤ 16 → told r ≡ read_int s 0 n → IfErr r (λ e. e.offset ≤ 16777216)
int_early s n (Ok v) l e = tt
int_early s n (Err q) l e = let o : q.offset ≤ length s = early (of_told (of_int s 0 n) (sym e)) in omega arith

pub data_early :
    (update : Bool) (cs : List Column) (s : Bytes) (r : Result ℕ Error) → length s ≤ 16 → told r ≡ data_opened update cs s 0 →
    IfErr r (λ e. e.offset ≤ 16777216)
unfolding update_end
data_early update cs s (Ok v) l e = tt
data_early true cs s (Err q) l e =
    let f : update_end cs s 0 ≡ refused q = rw (sym e) refl in
    let o : q.offset ≤ length s = early (of_told (of_update s cs 0) f) in
    omega arith
data_early false cs s (Err q) l e = let o : q.offset ≤ length s = early (of_told (of_opened s cs 0) (sym e)) in omega arith

-- The columns of row data, in their slots.
module _ (slots : List ℕ) (S : List Schema) (k : Kind) (b : Block) (h : Columns slots (columns_for S k) b) where
  columns_count : length (columns_for S k) ≡ b.count
  columns_count = ap length h.are ∙ length_slots slots b.first b.count

  pub column_in_lem : {c : Column} (j : ℕ) → j < b.count → c ≡ get_or (in_slots slots b.first b.count) j no_column → c ≡ column_for S k j
  column_in_lem j l e = e ∙ ap (λ (cs : List Column). get_or cs j no_column) (sym h.are)

  pub column_past : (j : ℕ) → b.count ≤ j → no_column ≡ column_for S k j
  column_past j l = sym (past (columns_for S k) j (omega (arith, columns_count)))
    where
      past : (cs : List Column) (j : ℕ) → length cs ≤ j → get_or cs j no_column ≡ no_column
      past [] j l = refl
      past (c ∷ cs) zero l = absurd (omega arith)
      past (c ∷ cs) (suc j) l = past cs j (omega arith)

  pub columns_open :
      {columns : Arrays} {u : Bool} {t : Read ℕ} (s : Bytes) → columns ≡ layout (map as_column (entries_in (min b.first 256) (min b.count 64) slots)) →
      is_update k ≡ u → t ≡ data_opened u (columns_in columns) s 0 → data_opened (is_update k) (columns_for S k) s 0 ≡ t
  columns_open {columns} {u} {t} s e f g =
      let x : columns_in columns ≡ columns_for S k = columns_held slots b.first b.count h.inside h.few e ∙ sym h.are in
      sym (rw (x, ← f) at g)

  -- the bytes of their maps
  map_most : (n : ℕ) → n ≤ 64 → map_bytes n ≤ 8
  unfolding map_bytes
  map_most n l = omega arith

  pub size_update : (m : ℕ) → is_update k ≡ true → m ≡ map_bytes b.count → (2 * m ≡ map_size S k) × (2 * m ≤ 16)
  unfolding update_bytes
  size_update m e f =
      let x : map_bytes (length (columns_for S k)) ≡ m = ap map_bytes columns_count ∙ sym f in
      let y : map_bytes b.count ≤ 8 = map_most b.count h.few in
      (rw e (omega arith), omega arith)

  pub size_original : (m bit : ℕ) → is_update k ≡ false → bit ≡ bit_of (in_slots slots b.first b.count) b.count → m ≡ map_bytes bit → (m ≡ map_size S k) × (m ≤ 16)
  unfolding presence_bytes
  size_original m bit e f g =
      let x : bit ≡ nullables (columns_for S k) =
      f ∙ ap (bit_of (in_slots slots b.first b.count)) (sym (length_slots slots b.first b.count)) ∙ bit_all (in_slots slots b.first b.count) ∙ ap nullables (sym h.are) in
      let n : bit ≤ 64 = omega (arith, f, bit_few (in_slots slots b.first b.count) b.count, h.few) in
      (rw (e, ← x) g, omega (arith, map_most bit n, g))

  -- a presence map that was seen to keep its rules
  pub map_opened :
      {u : Bool} (s : Bytes) → is_update k ≡ u → (u ≡ false) × (opened (in_slots slots b.first b.count) s 0 ≡ ok (presence_bytes (in_slots slots b.first b.count))) →
      data_opened (is_update k) (columns_for S k) s 0 ≡ ok (presence_bytes (in_slots slots b.first b.count))
  map_opened {u} s e (f, g) = rw (e ∙ f, h.are) g

-- A presence map, column by column.
pub record Opening (cs : List Column) (bits : Bytes) (i bit : ℕ) : Type 0 where
  pub below : i ≤ length cs
  pub counted : bit ≡ bit_of cs i
  pub few : bit ≤ i
  pub clears : clear (chapter_present bits) 12 0 (marks 0 cs) ≡ clear (chapter_present bits) 12 0 (drop i (marks 0 cs))

module _ (cs : List Column) (bits : Bytes) where
  pub opening_start : Opening cs bits 0 0
  opening_start = record { below = omega arith; counted = sym (bit_zero cs); few = omega arith; clears = refl }

  pub opening_next :
      {i bit bit' : ℕ} {t : Bool} (c : Column) → Opening cs bits i bit → i < length cs → c ≡ get_or cs i no_column → t ≡ chapter_present bits (mark c bit) → t ≡ false →
      (bit' ≡ bit_of cs (i + 1)) × (bit' ≤ i + 1) → Opening cs bits (i + 1) bit'
  opening_next {i} {bit} {bit'} {t} c w h e f g b =
      let m : chapter_present bits (mark_of cs i) ≡ false = ap (λ (x : Mark). chapter_present bits x) (rw (← e, ← w.counted) refl) ∙ sym f ∙ g in
      record { below = omega arith; counted = b.0; few = b.1; clears = w.clears ∙ bits_next cs bits 0 i h m }

  pub opening_end : {i bit : ℕ} → Opening cs bits i bit → length cs ≤ i → map_bytes bit ≤ length bits → opened cs bits 0 ≡ ok (presence_bytes cs)
  unfolding presence_bytes
  opening_end {i} {bit} w l r =
      let z : i ≡ length cs = omega (arith, w.below) in
      let x : bit ≡ nullables cs = w.counted ∙ ap (bit_of cs) z ∙ bit_all cs in
      let y : 0 + presence_bytes cs ≡ presence_bytes cs = omega arith in
      opened_well cs bits 0 (omega (arith, ap map_bytes x)) (w.clears ∙ bits_end cs bits 0 i l) ∙ ap (λ (v : ℕ). ok v) y

-- The maps of row data.
module _ (S : List Schema) (n start : ℕ) (bits : Bytes) (k : Kind) where
  pub maps_stopped : {c o : ℕ} {i : Input} → from start (data_opened (is_update k) (columns_for S k) bits 0) ≡ bad c o i → settle (mapped S n start bits k) ≡ stopped c o i
  unfolding mapped
  maps_stopped e = rw e refl

  pub maps_kept : {v : ℕ} → from start (data_opened (is_update k) (columns_for S k) bits 0) ≡ ok v → settle (mapped S n start bits k) ≡ seek_from S n (start + length bits) k bits 0
  unfolding mapped
  maps_kept e = rw e refl

  pub maps_judged : judge S n start bits (maps k) ≡ mapped S n start bits k
  unfolding judge
  maps_judged = refl

-- Row data that start.
module _ (S : List Schema) (n at : ℕ) (k : Kind) (size : ℕ) (e : size ≡ map_size S k) where
  pub row_mapless : size ≡ 0 → row_from S n at k ≡ mapped S n at [] k
  row_mapless z = rw (sym e ∙ z) refl

  row_maps : (size ≡ 0 → ⊥) → row_from S n at k ≡ ok (keep n at [] (size - 1) (maps k))
  row_maps z = rw (← e) (go size z)
    where
      go : (m : ℕ) → (m ≡ 0 → ⊥) → row_by S n at m k ≡ ok (keep n at [] (m - 1) (maps k))
      go zero z = absurd (z refl)
      go (suc m) z = let y : suc m - 1 ≡ m = omega arith in rw y refl

  pub row_started : size ≤ 16 → (size ≡ 0 → ⊥) → n < at → Stands (settle (row_from S n at k)) at (numbers 4 0 (kind_of k) (id_of k) 0 n at (size - 1) 0 0 [] [])
  row_started l z h =
      let r : Reader = numbers 4 0 (kind_of k) (id_of k) 0 n at (size - 1) 0 0 [] [] in
      stands
      (state_piece r (omega arith) (omega arith)
      ∙ ap (keep n at [] (size - 1)) (stage_maps r refl ∙ ap maps (kind_back k))
      ∙ sym (ap settle (row_maps z)))
      (sane_piece r (omega arith) (omega arith) (omega arith) (omega arith) (omega arith) (omega arith) (omega arith) (omega arith)) (omega arith)

-- Tokens.
module _ (S : List Schema) (n at : ℕ) (before : Before) (t : ℕ) where
  pub token_parent : t ≡ 0x07 → tokened S n at before (token_of t) ≡ row_from S n (at + 1) parent_row
  unfolding tokened token_of
  token_parent e = rw e refl

  pub token_done : t ≡ 0x0F → tokened S n at before (token_of t) ≡ ok (finished n (at + 1))
  unfolding tokened token_of
  token_done e = rw e refl

  token_child : t ≡ 0x87 → tokened S n at before (token_of t) ≡ ok (keep n (at + 1) [] 3 (child_id at))
  unfolding tokened token_of
  token_child e = rw e refl

  token_change : t ≡ 0x8A → tokened S n at before (token_of t) ≡ ok (keep n (at + 1) [] 3 (change_id before at))
  unfolding tokened token_of
  token_change e = rw e refl

  token_delete : t ≡ 0x8C → tokened S n at before (token_of t) ≡ ok (keep n (at + 1) [] 3 (delete_id before at))
  unfolding tokened token_of
  token_delete e = rw e refl

  pub token_unknown :
      (t ≡ 0x07 → ⊥) → (t ≡ 0x87 → ⊥) → (t ≡ 0x8A → ⊥) → (t ≡ 0x8C → ⊥) → (t ≡ 0x0F → ⊥) → tokened S n at before (token_of t) ≡ bad 9 at input.Single
  unfolding tokened token_of
  token_unknown a b c d f = rw (ne_eqb _ _ a, ne_eqb _ _ b, ne_eqb _ _ c, ne_eqb _ _ d, ne_eqb _ _ f) refl

-- An id behind a token.
id_sane : (stage rows at : ℕ) (before : Before) → 1 ≤ stage → stage ≤ 3 → rows < at → Sane (numbers stage 0 0 (paired_id before) (paired_of before) rows at 3 0 0 [] []) (at + 0)
id_sane stage rows at before l h a =
    let r : Reader = numbers stage 0 0 (paired_id before) (paired_of before) rows at 3 0 0 [] [] in
    sane_piece r (omega arith) (omega arith) (omega arith) l (omega arith) (omega arith) (omega arith) (omega arith)

module _ (S : List Schema) (n at : ℕ) (before : Before) (t : ℕ) (a : n ≤ at) where
  pub child_waits : t ≡ 0x87 → Stands (settle (tokened S n at before (token_of t))) (at + 1) (numbers 1 0 0 0 0 n (at + 1) 3 0 0 [] [])
  child_waits e =
      let r : Reader = numbers 1 0 0 0 0 n (at + 1) 3 0 0 [] [] in
      let z : at + 1 - 1 ≡ at = omega arith in
      stands
      (state_piece r (omega arith) (omega arith)
      ∙ ap (keep n (at + 1) [] 3) (stage_child r refl ∙ ap child_id z)
      ∙ sym (ap settle (token_child S n at before t e)))
      (id_sane 1 n (at + 1) other (omega arith) (omega arith) (omega arith)) (omega arith)

  pub change_waits : t ≡ 0x8A → Stands (settle (tokened S n at before (token_of t))) (at + 1) (numbers 2 0 0 (paired_id before) (paired_of before) n (at + 1) 3 0 0 [] [])
  change_waits e =
      let r : Reader = numbers 2 0 0 (paired_id before) (paired_of before) n (at + 1) 3 0 0 [] [] in
      let z : at + 1 - 1 ≡ at = omega arith in
      stands
      (state_piece r (omega arith) (omega arith)
      ∙ ap (keep n (at + 1) [] 3) (stage_change r refl ∙ ap (λ (x : ℕ). change_id (before_by (paired_of before) (paired_id before)) x) z ∙ ap (λ (b : Before). change_id b at) (before_back before))
      ∙ sym (ap settle (token_change S n at before t e)))
      (id_sane 2 n (at + 1) before (omega arith) (omega arith) (omega arith)) (omega arith)

  pub delete_waits : t ≡ 0x8C → Stands (settle (tokened S n at before (token_of t))) (at + 1) (numbers 3 0 0 (paired_id before) (paired_of before) n (at + 1) 3 0 0 [] [])
  delete_waits e =
      let r : Reader = numbers 3 0 0 (paired_id before) (paired_of before) n (at + 1) 3 0 0 [] [] in
      let z : at + 1 - 1 ≡ at = omega arith in
      stands
      (state_piece r (omega arith) (omega arith)
      ∙ ap (keep n (at + 1) [] 3) (stage_delete r refl ∙ ap (λ (x : ℕ). delete_id (before_by (paired_of before) (paired_id before)) x) z ∙ ap (λ (b : Before). delete_id b at) (before_back before))
      ∙ sym (ap settle (token_delete S n at before t e)))
      (id_sane 3 n (at + 1) before (omega arith) (omega arith) (omega arith)) (omega arith)

-- the same, of any id
pub id_started : (stage rows at paired id : ℕ) → 1 ≤ stage → stage ≤ 3 → rows < at → Sane (numbers stage 0 0 id paired rows at 3 0 0 [] []) at
id_started stage rows at paired id l h a =
    let r : Reader = numbers stage 0 0 id paired rows at 3 0 0 [] [] in
    let z : at + 0 ≡ at = omega arith in
    rw z at (sane_piece r (omega arith) (omega arith) (omega arith) l (omega arith) (omega arith) (omega arith) (omega arith))

-- A record that waits for an id of four bytes.
pub record Waits (stage rows at paired id : ℕ) (r : Reader) : Type 0 where
  pub stages : r.stage ≡ stage
  pub counted : r.rows ≡ rows
  pub stands : r.at ≡ at
  pub pairs : r.paired ≡ paired
  pub names : r.id ≡ id
  pub lacks : r.more ≡ 3
  pub empty : r.filled ≡ 0
  pub sane : Sane r at

pub waits :
    {stage rows at paired id : ℕ} {r : Reader} →
    (r.stage ≡ stage) × (r.rows ≡ rows) × (r.at ≡ at) × (r.paired ≡ paired) × (r.id ≡ id) × (r.more ≡ 3) × (r.filled ≡ 0) × Sane r at →
    Waits stage rows at paired id r
waits (a, b, c, d, e, f, g, h) =
    record { stages = a; counted = b; stands = c; pairs = d; names = e; lacks = f; empty = g; sane = h }

waits_in : {stage rows at paired id : ℕ} {r : Reader} → 1 ≤ stage → stage ≤ 5 → Waits stage rows at paired id r → state_in r ≡ keep rows at [] 3 (stage_in r)
waits_in {stage} {rows} {at} {paired} {id} {r} l h w =
    state_piece r (omega (arith, w.stages)) (omega (arith, w.stages)) ∙ rw (w.counted, w.stands, w.lacks, w.empty) refl

module _ (S : List Schema) (n at paired id t : ℕ) (r : Reader) where
  pub child_waiting : t ≡ 0x87 → Waits 1 n (at + 1) 0 0 r → Stands (settle (tokened S n at (before_by paired id) (token_of t))) (at + 1) r
  child_waiting e w =
      let z : r.at - 1 ≡ at = omega (arith, w.stands) in
      let y : stage_in r ≡ child_id at = stage_child r w.stages ∙ rw z refl in
      record { state = waits_in (omega arith) (omega arith) w ∙ rw y refl ∙ sym (ap settle (token_child S n at (before_by paired id) t e)); sane = w.sane }

  pub change_waiting : t ≡ 0x8A → Waits 2 n (at + 1) paired id r → Stands (settle (tokened S n at (before_by paired id) (token_of t))) (at + 1) r
  change_waiting e w =
      let z : r.at - 1 ≡ at = omega (arith, w.stands) in
      let y : stage_in r ≡ change_id (before_by paired id) at = stage_change r w.stages ∙ rw (z, w.pairs, w.names) refl in
      record { state = waits_in (omega arith) (omega arith) w ∙ rw y refl ∙ sym (ap settle (token_change S n at (before_by paired id) t e)); sane = w.sane }

  pub delete_waiting : t ≡ 0x8C → Waits 3 n (at + 1) paired id r → Stands (settle (tokened S n at (before_by paired id) (token_of t))) (at + 1) r
  delete_waiting e w =
      let z : r.at - 1 ≡ at = omega (arith, w.stands) in
      let y : stage_in r ≡ delete_id (before_by paired id) at = stage_delete r w.stages ∙ rw (z, w.pairs, w.names) refl in
      record { state = waits_in (omega arith) (omega arith) w ∙ rw y refl ∙ sym (ap settle (token_delete S n at (before_by paired id) t e)); sane = w.sane }

pub done_read : (n at : ℕ) → n ≤ at → Stands (finished n at) at (numbers 7 0 0 0 0 n at 0 0 0 [] [])
done_read n at h =
    let r : Reader = numbers 7 0 0 0 0 n at 0 0 0 [] [] in
    stands (state_finished r refl) (sane_late r (omega arith) (omega arith) h (omega arith) (omega arith)) refl

-- Ids that are whole.
pub follows_paired : (paired before id : ℕ) → (paired ≡ 0 → ⊥) → eqb before id ≡ follows (before_by paired before) id
follows_paired zero before id h = absurd (h refl)
follows_paired (suc n) before id h = refl

-- Ids that are whole.
module _ (S : List Schema) (n start : ℕ) (held : Bytes) (at : ℕ) where
  pub child_stopped : {c o : ℕ} {i : Input} → from start (read_int held 0 4) ≡ bad c o i → settle (judge S n start held (child_id at)) ≡ stopped c o i
  unfolding judge
  child_stopped e = rw e refl

  module _ {id : ℕ} (e : from start (read_int held 0 4) ≡ ok id) where
    pub child_unknown : child_number S id ≡ none → settle (judge S n start held (child_id at)) ≡ stopped 10 at input.Single
    unfolding judge known_child
    child_unknown f = rw (e, f) refl

    pub child_known : {k : ℕ} → child_number S id ≡ some k → settle (judge S n start held (child_id at)) ≡ settle (row_from S n (start + length held) (child_row id))
    unfolding judge known_child
    child_known f = rw (e, f) refl

  module _ (before : Before) where
    pub change_stopped : {c o : ℕ} {i : Input} → from start (read_int held 0 4) ≡ bad c o i → settle (judge S n start held (change_id before at)) ≡ stopped c o i
    unfolding judge
    change_stopped e = rw e refl

    pub delete_stopped : {c o : ℕ} {i : Input} → from start (read_int held 0 4) ≡ bad c o i → settle (judge S n start held (delete_id before at)) ≡ stopped c o i
    unfolding judge
    delete_stopped e = rw e refl

    module _ {id : ℕ} (e : from start (read_int held 0 4) ≡ ok id) where
      pub change_alone : follows before id ≡ false → settle (judge S n start held (change_id before at)) ≡ stopped 11 at input.Single
      unfolding judge check
      change_alone f = rw (e, f) refl

      pub change_unknown : follows before id ≡ true → child_number S id ≡ none → settle (judge S n start held (change_id before at)) ≡ stopped 10 at input.Single
      unfolding judge check known_child
      change_unknown f g = rw (e, f, g) refl

      pub change_known :
          {k : ℕ} → follows before id ≡ true → child_number S id ≡ some k →
          settle (judge S n start held (change_id before at)) ≡ settle (row_from S n (start + length held) (change_row id))
      unfolding judge check known_child
      change_known f g = rw (e, f, g) refl

      pub delete_alone : follows before id ≡ false → settle (judge S n start held (delete_id before at)) ≡ stopped 11 at input.Single
      unfolding judge check
      delete_alone f = rw (e, f) refl

      pub delete_read : follows before id ≡ true → settle (judge S n start held (delete_id before at)) ≡ between n (start + length held) other
      unfolding judge check
      delete_read f = rw (e, f) refl

-- Between elements, behind no 87 element.
pub between_read : (n at : ℕ) → n ≤ at → Stands (between n at other) at (numbers 0 0 0 0 0 n at 0 0 0 [] [])
between_read n at h =
    let r : Reader = numbers 0 0 0 0 0 n at 0 0 0 [] [] in
    stands (state_between r refl) (sane_between r (omega arith) (omega arith) h refl) refl

-- The stage of a piece that is none of the others.
pub is_prefix : (stage : ℕ) → 1 ≤ stage → stage ≤ 5 → (stage ≡ 1 → ⊥) → (stage ≡ 2 → ⊥) → (stage ≡ 3 → ⊥) → (stage ≡ 4 → ⊥) → stage ≡ 5
is_prefix stage l h a b c d = omega arith

-- The length in front of a field is whole.
module _ (S : List Schema) (n start : ℕ) (held : Bytes) (k : Kind) (bits : Bytes) (j : ℕ) {c : Column} (same : c ≡ column_for S k j) where
  pub prefix_stopped :
      {p o : ℕ} {i : Input} → from start (read_int held 0 (prefix_size c)) ≡ bad p o i → settle (judge S n start held (prefix k bits j)) ≡ stopped p o i
  unfolding judge
  prefix_stopped e = let f = rw same at e in rw f refl

  module _ {size : ℕ} (e : from start (read_int held 0 (prefix_size c)) ≡ ok size) where
    pub prefix_long : {code : ℕ} → code ≡ length_error c size → 0 < code → settle (judge S n start held (prefix k bits j)) ≡ stopped code start input.Single
    unfolding judge measured allowed
    prefix_long {code} f z =
        let g = rw same at e in
        let h : length_error (column_for S k j) size ≡ code = sym (rw same at f) in
        let y : code ≡ 0 → ⊥ = λ q. omega arith in
        rw (g, h, ne_eqb code 0 y) refl

    pub prefix_read :
        0 ≡ length_error c size →
        settle (judge S n start held (prefix k bits j)) ≡ body_of n (start + length held) size k bits (suc j) (seek_from S n (start + length held + size) k bits (suc j))
    unfolding judge measured allowed
    prefix_read f =
        let g = rw same at e in
        let h : length_error (column_for S k j) size ≡ 0 = sym (rw same at f) in
        rw (g, h) refl

-- The bytes of a field.
module _ (S : List Schema) (n at size : ℕ) (k : Kind) (bits : Bytes) (j : ℕ) where
  body_some : (rest : State) → (size ≡ 0 → ⊥) → skip n at (size - 1) k bits (j + 1) ≡ body_of n at size k bits (suc j) rest
  body_some rest z = rw (add-one j) (go size z)
    where
      go : (m : ℕ) → (m ≡ 0 → ⊥) → skip n at (m - 1) k bits (suc j) ≡ body_of n at m k bits (suc j) rest
      go zero z = absurd (z refl)
      go (suc m) z = let y : suc m - 1 ≡ m = omega arith in rw y refl

  pub body_none : size ≡ 0 → body_of n at size k bits (suc j) (seek_from S n (at + size) k bits (suc j)) ≡ seek_from S n at k bits (j + 1)
  body_none z = let y : at + 0 ≡ at = omega arith in rw (z, y, add-one j) refl

-- a record of a field's bytes
abbrev pub bodied : Reader → (at size : ℕ) → Reader
bodied r at size =
    record {
      stage = 6;
      code = r.code;
      kind = r.kind;
      id = r.id;
      paired = r.paired;
      rows = r.rows;
      at = at;
      more = size - 1;
      column = r.column + 1;
      input = r.input;
      filled = r.filled;
      mapped = r.mapped;
      held = r.held;
      map = r.map;
    }

pub body_started :
    (S : List Schema) (r : Reader) (at size : ℕ) → r.mapped ≤ 16 → r.rows < at → r.column < 64 → (size ≡ 0 → ⊥) →
    Stands (body_of r.rows at size (kind_in r) (map_in r) (suc r.column) (seek_from S r.rows (at + size) (kind_in r) (map_in r) (suc r.column))) at (bodied r at size)
body_started S r at size m a c z =
    stands_as (body_stands (bodied r at size) at (size - 1) (r.column + 1) refl refl refl refl m (omega arith) (omega arith))
    (body_some S r.rows at size (kind_in r) (map_in r) r.column _ z)

-- The first bytes.
pub part_of : (bytes : Bytes) (n : ℕ) → n ≤ length bytes → (take (n - 0) (drop 0 bytes) ≡ take n bytes) × (length (take n bytes) ≡ n)
part_of bytes n h = let z : n - 0 ≡ n = omega arith in (rw z refl, length-take-le n bytes h)

-- a record of a piece with so many bytes more
abbrev pub longer : Reader → (n more : ℕ) → Bytes → Reader
longer r n more bytes =
    record {
      stage = r.stage;
      code = r.code;
      kind = r.kind;
      id = r.id;
      paired = r.paired;
      rows = r.rows;
      at = r.at;
      more = more;
      column = r.column;
      input = r.input;
      filled = r.filled + n;
      mapped = r.mapped;
      held = bytes;
      map = r.map;
    }

module _ (S : List Schema) (r : Reader) (x : Bytes) (n : ℕ) (bytes : Bytes) (l : length x ≡ n) (s : Sane r (r.at + r.filled)) (first : 1 ≤ r.stage) (last : r.stage ≤ 5)
    (held : take (r.filled + n) bytes ≡ held_in r ++ x) where
  same_stage : (more : ℕ) → stage_in (longer r n more bytes) ≡ stage_in r
  unfolding stage_in
  same_stage more = refl

  pub piece_whole :
      (a : Result Reader Error) → n ≡ r.more + 1 →
      Reached (settle (judge S r.rows r.at (held_in (longer r n r.more bytes)) (stage_in (longer r n r.more bytes)))) (r.at + (r.filled + n)) a →
      Reached (feed S (state_in r) x) (r.at + r.filled + n) a
  piece_whole a z d =
      let f : r.at + (r.filled + n) ≡ r.at + r.filled + n = omega arith in
      reached_as a d
      (rw (same_stage r.more, held, state_piece r first last) (sym (keep_all S r.rows r.at r.more (held_in r) x (stage_in r) (omega arith)))) f

  pub piece_some : n ≤ r.more → Stands (feed S (state_in r) x) (r.at + r.filled + n) (longer r n (r.more - n) bytes)
  piece_some z =
      let next : Reader = longer r n (r.more - n) bytes in
      let k : r.filled + r.more ≤ 15 = s.kept first last in
      let t : 1 ≤ r.at = s.token first last in
      let e : feed S (keep r.rows r.at (held_in r) r.more (stage_in r)) x ≡ keep r.rows r.at (held_in r ++ x) (r.more - n) (stage_in r) =
      keep_some S r.rows r.at r.more (held_in r) x (stage_in r) (omega arith)
      ∙ ap (λ (m : ℕ). keep r.rows r.at (held_in r ++ x) (r.more - m) (stage_in r)) l in
      stands (state_piece next first last ∙ rw (same_stage (r.more - n), held, state_piece r first last) (sym e))
      (sane_piece next s.mapped s.column s.rows first last t (s.below first last) (omega arith)) (omega arith)
