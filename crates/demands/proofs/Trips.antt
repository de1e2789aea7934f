-- Demand 2, round trips, for each writer in two theorems over the definitions that the contracts of the public calls cite.
-- There: what a writer accepts reads back, from the output that it was written into, as the values given. A header and handler options
-- stand at the output's start and a row at any place, with any bytes behind them; a schema file is read alone. A row is read column by
-- column, by the walk or through the plan.
-- Back: what was read is accepted by the writer for any output with room, which then holds the same bytes, and all else as before: of a
-- row where its reserved bits were 0, of options where their update type was 1.
-- Assumes nothing.
use Prim.Native.Nat.{ℕ, zero, suc, ◌+◌, ◌*◌, ◌<◌, ◌≤◌}
use mathlib.Core.Path.{◌≡◌, refl, sym, ap, ◌∙◌}
use mathlib.Core.List.{List, [], ◌∷◌, ◌++◌, map, append_assoc}
use mathlib.Core.Logic.{◌⊎◌, inl, inr}
use mathlib.Core.Bool.{Bool, true, false, true≢false}
use native.Mathlib.Omega.{arith}
use lib.ListN.{length, take, drop, get_or, length-append, length-take, length-drop}
use lib.Seq.{take-append_seam, drop_at, length-take-le}
use lib.Dec.{leb, eqb}
use borrow.Author.Tests.{leb-true, le-leb}
use Rattle.wire.specs.declared.error.Input.{Input}
use Rattle.wire.specs.declared.error.Input.TheVariants as input
use Rattle.wire.specs.Read.{Bytes, AreBytes, Read, ok, bad, ◌>>=◌, pick, check, about, limit, sized_by, sized, byte_at, constants}
use Rattle.wire.specs.Read as read
use Rattle.wire.specs.Output.{fitting, output_after}
use Rattle.wire.specs.Bits.{map_bytes}
use Rattle.wire.specs.Integers.{int_bytes}
use Rattle.wire.proofs.Laws.{put_fits, sized_within}
use Rattle.wire.proofs.Pieces.{bind_ok, about_ok, ok_ok, sized_ok, fitting_ok}
use Rattle.column.specs.declared.column.Column.{Column}
use Rattle.column.specs.declared.field.Field.{Field}
use Rattle.column.specs.Types.{types, kind_in, kind_of}
use Rattle.column.specs.Columns.{is_nullable, prefix_size, prefix_bytes, greatest, length_error_of, length_error}
use Rattle.header.specs.declared.header.Header.{Header}
use Rattle.options.specs.declared.options.Options.{Options}
use Rattle.header.specs.Header.{signature, header_as, header_fields, header_bytes, header_of, header_written}
use Rattle.options.specs.Options.{async_allowed, options_of, string_bytes, head_bytes, options_bytes, strings_size, options_size, options_written, text_of}
use Rattle.options.proofs.Laws.{options_sized_lem}
use Rattle.options.proofs.Trips.{OptionsBack}
use Rattle.header.proofs.Trips as header
use Rattle.options.proofs.Trips as options
use Rattle.tree.specs.Numbers.{groups, third_group, second_group, number_in}
use Rattle.tree.specs.Tree.{member, numbers}
use Rattle.tree.specs.Reader.{read_number, read_range, read_fixed, read_variable, read_chapter, read_kind, read_column, read_columns, read_schema, ended, read_file, file_of}
use Rattle.tree.specs.Schemas.{as_column, own_columns, nested_schemas, schemas_of, read_schemas, schema_at}
use Rattle.questions.specs.Questions.{with_schema, alone, Selected, selected_of}
use Rattle.numbers.specs.Writer.{coded_number, coded, in_range, of_numbers, file_written, numbers_listed}
use Rattle.numbers.proofs.Trips as schema
use Rattle.walk.specs.Rows.{Answer, look_up, row_end}
use Rattle.walk.specs.Rows as rows
use Rattle.walk.specs.Updates.{UpdateAnswer, look_update, update_end}
use Rattle.walk.specs.Updates as updates
use Rattle.walk.proofs.Found.{field_inside}
use Rattle.walk.proofs.UpdateFound.{update_field_inside}
use Rattle.encode.specs.Entries.{null, given_at, givens_from, is_entry, are_entries, entry_of, entries_of}
use Rattle.encode.specs.Encoding.{byte_of, pack_in, pack, field_bytes, fields_of, presence_bits, original_bytes, update_bits, force_bits, update_data}
use Rattle.encode.specs.Writers.{length_stands, in_original, in_update, entries_stand, entries_in, writing, write_original, write_update, output_with}
use Rattle.encode.specs.Trips.{numbers_of, numbers_of_update, numbers_from, read_original, read_update}
use Rattle.encode.proofs.Written.{entries_at}
use Rattle.encode.proofs.Trips as encode
use Rattle.plan.specs.declared.plan.Plan.{Plan}
use Rattle.jump.specs.Jumps.{planned_row}
use Rattle.adtg.specs.InSchema.{in_schema}
use Rattle.adtg.specs.Plans.{columns_of, plan_in}
use Rattle.adtg.specs.Rows.{look_up_in, row_end_in}
use Rattle.adtg.specs.Updates.{look_update_in, update_end_in}
use Rattle.adtg.specs.Writers.{write_original_in, write_update_in}
use Rattle.adtg.proofs.Laws.{all_sizes, by_selection}
use Rattle.adtg.proofs.Selected.{asks_columns}
use Rattle.demands.specs.Trips.{laid, header_output, options_output, file_output, numbers_table, original_output, update_output, OriginalSays, UpdateSays, Accepted, original_read, update_read, Within, OriginalRow, UpdateRow}
use Rattle.demands.specs.Examples.{S, whole}
use Rattle.demands.proofs.Plans.{plan_route_is_walk, small, small_bytes, column}

-- What an output holds after a writer that accepts.

module _ (written : Read Bytes) (piece out : Bytes) (e : written ≡ ok piece) where
  laid_at : (place : ℕ) → place + length piece ≤ length out → output_with written place out ≡ laid out place piece
  unfolding output_with
  laid_at place h = rw e (put_fits out place piece h)

  laid_start : length piece ≤ length out → output_after written out ≡ laid out 0 piece
  unfolding output_after
  laid_start h = rw e (put_fits out 0 piece (omega arith))

-- from the place on: the piece, and what was behind it
laid_from_lem : (out : Bytes) (place : ℕ) (piece : Bytes) → place + length piece ≤ length out → drop place (laid out place piece) ≡ piece ++ drop (place + length piece) out
laid_from_lem out place piece h =
    ap (drop place) (append_assoc (take place out) piece (drop (place + length piece) out))
    ∙ drop_at (take place out) (piece ++ drop (place + length piece) out) place (length-take-le place out (omega arith))

-- which are as many bytes as before
part_within :
    (out : Bytes) (place : ℕ) (piece : Bytes) → place + length piece ≤ length out → length (drop place out) ≤ limit →
    length (piece ++ drop (place + length piece) out) ≤ limit
part_within out place piece h l =
    omega (arith, length-append piece (drop (place + length piece) out), length-drop (place + length piece) out, length-drop place out)

-- what has room is no longer than it
fitted : (x : Bytes) (capacity : ℕ) (y : Bytes) → fitting x capacity ≡ ok y → length y ≤ capacity
fitted x capacity y e = let (h, z) = fitting_ok x capacity y e in rw (← z) h

taken : (s : Bytes) (end capacity : ℕ) → end ≤ capacity → length (take end s) ≤ capacity
taken s end capacity h = omega (arith, length-take end s)

-- The header.

byte_small : (s : Bytes) (at b : ℕ) → AreBytes s → byte_at s at ≡ ok b → b < 256
unfolding byte_at
byte_small s at b bytes e =
    let (_, _, f) = bind_ok (read.whole s at 1) _ b e in
    let z : get_or s at 0 ≡ b = ok_ok f in
    rw (← z) (bytes at)

-- A header reads back from the output that it was written into.
pub header_reads_back :
    (major minor order unicode : ℕ) (written out : Bytes) → header_written major minor order unicode (length out) ≡ ok written → length out ≤ limit →
    header_of (header_output major minor order unicode out) ≡ ok (header_as major minor order unicode (length written))
unfolding header_written
header_reads_back major minor order unicode written out e l =
    let (u, _, f) = bind_ok (about input.Order (check (eqb order 0) 3 7)) _ written e in
    let (v, _, g) = bind_ok (about input.Unicode (check (leb unicode 1) 3 8)) _ written f in
    let room : length written ≤ length out = fitted _ (length out) written g in
    rw (laid_start _ written out e room)
    (header.header_read_back major minor order unicode (length out) written (drop (0 + length written) out) e (part_within out 0 written (omega arith) l))

-- What was read can be given to the writer, which takes bytes,
pub header_bytes_lem :
    (s : Bytes) (h : Header) → AreBytes s → header_of s ≡ ok h → (h.major < 256) × (h.minor < 256) × (h.order < 256) × (h.unicode < 256)
unfolding header_of header_fields
header_bytes_lem s h bytes e =
    let (_, _, f0) = bind_ok (sized s) _ h e in
    let (_, _, f1) = bind_ok (constants s 0 signature) _ h f0 in
    let (major, e2, f2) = bind_ok (byte_at s 5) _ h f1 in
    let (minor, e3, f3) = bind_ok (byte_at s 6) _ h f2 in
    let (order, e4, f4) = bind_ok (byte_at s 7) _ h f3 in
    let (_, _, f5) = bind_ok (check (eqb order 0) 3 7) _ h f4 in
    let (unicode, e6, f6) = bind_ok (byte_at s 8) _ h f5 in
    let (_, _, f7) = bind_ok (check (leb unicode 1) 3 8) _ h f6 in
    let z : header_as major minor order unicode 9 ≡ h = ok_ok f7 in
    rw (← z) (byte_small s 5 major bytes e2, byte_small s 6 minor bytes e3, byte_small s 7 order bytes e4, byte_small s 8 unicode bytes e6)

-- and is written back as the same bytes.
pub header_rewritten :
    (s : Bytes) (h : Header) (out : Bytes) → header_of s ≡ ok h → h.end ≤ length out →
    (header_written h.major h.minor h.order h.unicode (length out) ≡ ok (take h.end s))
    × (header_output h.major h.minor h.order h.unicode out ≡ laid out 0 (take h.end s))
header_rewritten s h out e room =
    let w = header.header_rewritten s h (length out) e room in
    (w, laid_start _ (take h.end s) out w (taken s h.end (length out) room))

-- Handler options.

-- The async option that is written is one of its three values.
pub options_async :
    (first second third : Bytes) (async capacity : ℕ) (written : Bytes) → options_written first second third async capacity ≡ ok written → async ≤ 3
unfolding options_written async_allowed
options_async first second third async capacity written e =
    let (n, d, _) = bind_ok (options_size (length first) (length second) (length third) async) _ written e in
    go (leb 1 async) (options_sized_lem (length first) (length second) (length third) async n d).allowed
  where
    go : (t : Bool) → pick t (leb async 3) false ≡ true → async ≤ 3
    go true q = leb-true _ _ q
    go false q = absurd (true≢false (sym q))

-- Options read back from the output that they were written into: update type 1, the strings and the async option given.
pub options_read_back :
    (first second third : Bytes) (async : ℕ) (written out : Bytes) → options_written first second third async (length out) ≡ ok written → length out ≤ limit →
    OptionsBack (options_output first second third async out) first second third async (length written)
unfolding options_written
options_read_back first second third async written out e l =
    let (n, d, f) = bind_ok (options_size (length first) (length second) (length third) async) _ written e in
    let room : length written ≤ length out = fitted _ (length out) written f in
    let small : async ≤ 3 = options_async first second third async (length out) written e in
    rw (laid_start _ written out e room)
    (options.options_read_back first second third async (length out) written (drop (0 + length written) out) (omega arith) e (part_within out 0 written (omega arith) l))

-- Options that were read with update type 1 are written back as the same bytes.
pub options_rewritten :
    (s : Bytes) (o : Options) (out : Bytes) → AreBytes s → options_of s ≡ ok o → o.update ≡ 1 → o.end ≤ length out →
    (options_written (text_of s o.strings.first) (text_of s o.strings.second) (text_of s o.strings.third) o.asynchronous (length out) ≡ ok (take o.end s))
    × (options_output (text_of s o.strings.first) (text_of s o.strings.second) (text_of s o.strings.third) o.asynchronous out ≡ laid out 0 (take o.end s))
options_rewritten s o out bytes e one room =
    let w = options.options_rewritten s o (length out) bytes e one room in
    (w, laid_start _ (take o.end s) out w (taken s o.end (length out) room))

-- Schema files.

-- The numbers of what was written, which stands at the start of the output, are those given: for any table with room.
pub file_reads_back :
    (numbers : List ℕ) (written out : Bytes) (table : List ℕ) → file_written numbers (length out) ≡ ok written → length numbers ≤ length table →
    (numbers_listed (take (length written) (file_output numbers out)) (length table) ≡ ok numbers)
    × (numbers_table (take (length written) (file_output numbers out)) table ≡ laid table 0 numbers)
unfolding file_written numbers_listed about check
file_reads_back numbers written out table e few =
    let (u, _, f) = bind_ok (about input.Numbers (sized_by (4 * length numbers))) _ written e in
    let (t, _, g) = bind_ok (of_numbers (read_file (coded numbers))) _ written f in
    let room : length written ≤ length out = fitted _ (length out) written g in
    let piece : take (length written) (file_output numbers out) ≡ written =
    ap (take (length written)) (laid_start _ written out e room) ∙ take-append_seam written (drop (0 + length written) out) in
    let (t, r, n) = schema.written_reads_back numbers (length out) written e in
    let listed : numbers_listed (take (length written) (file_output numbers out)) (length table) ≡ ok numbers =
    rw (piece, r, n, le-leb (length numbers) (length table) few) in
    (listed, laid_start _ numbers table listed few)

-- The numbers that were listed are written back as the same file.
pub file_rewritten :
    (file : Bytes) (numbers : List ℕ) (count : ℕ) (out : Bytes) → AreBytes file → numbers_listed file count ≡ ok numbers → length file ≤ length out →
    (file_written numbers (length out) ≡ ok file) × (file_output numbers out ≡ laid out 0 file)
unfolding numbers_listed
file_rewritten file ns count out bytes e room =
    let (t, d, f) = bind_ok (about input.Schema (file_of file)) _ ns e in
    let (u, _, g) = bind_ok (about input.Table (check (leb (length (numbers t)) count) 16 (length (numbers t)))) _ ns f in
    let z : numbers t ≡ ns = ok_ok g in
    let w : file_written ns (length out) ≡ ok file =
    ap (λ (l : List ℕ). file_written l (length out)) (sym z) ∙ schema.read_writes_back file t (length out) bytes (about_ok input.Schema (file_of file) t d) room in
    (w, laid_start _ file out w room)

-- A question in a schema that has these columns, beside an input within the limit, is a question of the columns.

module _ (file : Bytes) (number : ℕ) (cs : List Column) (here : columns_of file number ≡ ok cs) where
  module _ {A : Type 0} (name : Input) (s : Bytes) (ask : List Column → Read A) where
    asked : length s ≤ limit → in_schema file (about name (sized s)) number ask ≡ ask cs
    unfolding about
    asked l = asks_columns file number cs here (about name (sized s)) ask ∙ rw (sized_within s l) refl

    -- an answer to it tells the input's size
    answered : (a : A) → in_schema file (about name (sized s)) number ask ≡ ok a → (length s ≤ limit) × (ask cs ≡ ok a)
    answered a e =
        let (u, f, g) = bind_ok (about name (sized s)) (λ u. ask cs) a (sym (asks_columns file number cs here (about name (sized s)) ask) ∙ e) in
        (sized_ok s u (about_ok name (sized s) u f), g)

-- What is answered with a schema file is answered under a schema of a valid file, which has columns.

selected_columns :
    (file : Bytes) (number : ℕ) (x : Selected) (u : Unit {0}) → about input.Schema (sized file) ≡ ok u → selected_of file number ≡ ok x →
    columns_of file number ≡ ok (map as_column x.columns)
unfolding columns_of
selected_columns file number x u e f = by_selection file alone number (λ columns. ok columns) ∙ rw (e, f)

answered_columns :
    {A : Type 0} (file : Bytes) (sizes : Read (Unit {0})) (number : ℕ) (ask : List Column → Read A) (a : A) → in_schema file sizes number ask ≡ ok a →
    (cs : List Column) × (columns_of file number ≡ ok cs)
answered_columns file sizes number ask a e =
    let (x, f, _) = bind_ok (all_sizes file sizes >>= λ u. selected_of file number) (λ x. ask (map as_column x.columns)) a (sym (by_selection file sizes number ask) ∙ e) in
    let (u, g, h) = bind_ok (all_sizes file sizes) (λ u. selected_of file number) x f in
    let (v, k, _) = bind_ok (about input.Schema (sized file)) (λ u. sizes) u g in
    (map as_column x.columns, selected_columns file number x v k h)

-- So a row that a writer accepts is written under one.
pub accepted_columns :
    (file : Bytes) (number : ℕ) (entries : List ℕ) (values : Bytes) (size place : ℕ) (row : Bytes) →
    (write_original_in file number entries values size place ≡ ok row) ⊎ (write_update_in file number entries values size place ≡ ok row) →
    (cs : List Column) × (columns_of file number ≡ ok cs)
unfolding write_original_in write_update_in
accepted_columns file number entries values size place row (inl e) = answered_columns file _ number (λ columns. write_original columns entries values size place) row e
accepted_columns file number entries values size place row (inr e) = answered_columns file _ number (λ columns. write_update columns entries values size place) row e

-- Rows, there.

module _ (file : Bytes) (number : ℕ) (cs : List Column) (entries : List ℕ) (values : Bytes) (place : ℕ) (row out : Bytes) where
  -- behind the row
  abbrev rest : Bytes
  rest = drop (place + length row) out

  -- the entry of column k, as the writers' laws have it
  entry_given : (k : ℕ) → k < length cs → get_or (entries_in (length cs) entries values) k null ≡ entry_of values (given_at entries k)
  entry_given k l =
      let z : 0 + k ≡ k = omega arith in
      entries_at values (length cs) 0 entries k l ∙ ap (λ (i : ℕ). entry_of values (given_at entries i)) z

  -- what the output holds from the place on
  part_is : (written : Read Bytes) → written ≡ ok row → place + length row ≤ length out → drop place (output_with written place out) ≡ row ++ rest
  part_is written e h = ap (drop place) (laid_at written row out e place h) ∙ laid_from_lem out place row h

  module _ (g : Accepted file number cs (write_original_in file number entries values (length out) place) row place out) where
    wrote_original : write_original cs entries values (length out) place ≡ ok row
    unfolding write_original_in
    wrote_original = (answered file number cs g.columns input.Values values (λ columns. write_original columns entries values (length out) place) row g.accepts).1

    original_fits : place + length row ≤ length out
    original_fits = encode.original_fits cs entries values (length out) place row wrote_original

    original_part : drop place (original_output file number entries values place out) ≡ row ++ rest
    original_part = part_is _ g.accepts original_fits

    original_part_within : length (row ++ rest) ≤ limit
    original_part_within = part_within out place row original_fits g.within

    -- An original row reads back by the walk.
    pub original_reads_back : OriginalSays (look_up_in file number) cs entries values (drop place (original_output file number entries values place out))
    unfolding look_up_in
    original_reads_back k l =
        rw (original_part, asked file number cs g.columns input.Row (row ++ rest) (λ columns. look_up columns (row ++ rest) k) original_part_within, ← entry_given k l)
        (encode.original_reads_back cs entries values (length out) place row wrote_original rest k l)

    -- And through the plan that the schema makes.
    pub original_reads_back_planned :
        (p : Plan) → AreBytes file → plan_in file number ≡ ok p →
        OriginalSays (planned_row p) cs entries values (drop place (original_output file number entries values place out))
    original_reads_back_planned p bytes h k l =
        rw (plan_route_is_walk file number p bytes h (drop place (original_output file number entries values place out)) k) (original_reads_back k l)

    -- It ends where it was written to, and its reserved bits are 0: what is read off it is written back as it was.
    pub original_written :
        AreBytes (drop place (original_output file number entries values place out)) →
        OriginalRow file number cs (drop place (original_output file number entries values place out)) (length row)
    unfolding row_end_in about
    original_written bytes =
        record {
          columns = g.columns;
          bytes = bytes;
          ends = rw (
            original_part,
            asked file number cs g.columns input.Row (row ++ rest) (λ columns. about input.Row (row_end columns (row ++ rest) 0)) original_part_within,
            encode.original_ends cs entries values (length out) place row wrote_original rest,
          );
          reserved = rw original_part (encode.original_reserved cs entries values (length out) place row wrote_original rest);
        }

  module _ (g : Accepted file number cs (write_update_in file number entries values (length out) place) row place out) where
    wrote_update : write_update cs entries values (length out) place ≡ ok row
    unfolding write_update_in
    wrote_update = (answered file number cs g.columns input.Values values (λ columns. write_update columns entries values (length out) place) row g.accepts).1

    update_fits : place + length row ≤ length out
    update_fits = encode.update_fits cs entries values (length out) place row wrote_update

    update_part : drop place (update_output file number entries values place out) ≡ row ++ rest
    update_part = part_is _ g.accepts update_fits

    update_part_within : length (row ++ rest) ≤ limit
    update_part_within = part_within out place row update_fits g.within

    -- Update data read back.
    pub update_reads_back : UpdateSays (look_update_in file number) cs entries values (drop place (update_output file number entries values place out))
    unfolding look_update_in
    update_reads_back k l =
        rw (update_part, asked file number cs g.columns input.Update (row ++ rest) (λ columns. look_update columns (row ++ rest) k) update_part_within, ← entry_given k l)
        (encode.update_reads_back cs entries values (length out) place row wrote_update rest k l)

    -- They end where they were written to, and their reserved bits are 0.
    pub update_written :
        AreBytes (drop place (update_output file number entries values place out)) →
        UpdateRow file number cs (drop place (update_output file number entries values place out)) (length row)
    unfolding update_end_in about
    update_written bytes =
        record {
          columns = g.columns;
          bytes = bytes;
          ends = rw (
            update_part,
            asked file number cs g.columns input.Update (row ++ rest) (λ columns. about input.Update (update_end columns (row ++ rest) 0)) update_part_within,
            encode.update_ends cs entries values (length out) place row wrote_update rest,
          );
          reserved = rw update_part (encode.update_reserved cs entries values (length out) place row wrote_update rest);
        }

-- Rows, back.

-- the same numbers of each column are the same numbers of all
numbers_same : (f g : ℕ → List ℕ) → ((k : ℕ) → f k ≡ g k) → (n k : ℕ) → numbers_from f n k ≡ numbers_from g n k
unfolding numbers_from
numbers_same f g e zero k = refl
numbers_same f g e (suc n) k = rw (e k, numbers_same f g e n (suc k))

-- Through the plan that a schema makes the same is read.
pub original_read_planned :
    (file : Bytes) (number : ℕ) (p : Plan) → AreBytes file → plan_in file number ≡ ok p → (count : ℕ) (row : Bytes) →
    numbers_from (λ (k : ℕ). numbers_of (planned_row p row k)) count 0 ≡ original_read file number count row
original_read_planned file number p bytes h count row =
    numbers_same (λ (k : ℕ). numbers_of (planned_row p row k)) (λ (k : ℕ). numbers_of (look_up_in file number row k))
    (λ k. ap numbers_of (plan_route_is_walk file number p bytes h row k)) count 0

-- Numbers within the limit.

three_within : (a b c : ℕ) → a ≤ limit → b ≤ limit → c ≤ limit → Within (a ∷ b ∷ c ∷ [])
three_within a b c x y z zero = x
three_within a b c x y z (suc zero) = y
three_within a b c x y z (suc (suc zero)) = z
three_within a b c x y z (suc (suc (suc i))) = omega arith

within_more : (x y : List ℕ) → Within x → Within y → Within (x ++ y)
within_more [] y h k i = k i
within_more (n ∷ x) y h k zero = h 0
within_more (n ∷ x) y h k (suc i) = within_more x y (λ j. h (suc j)) k i

numbers_within : (of : ℕ → List ℕ) → ((k : ℕ) → Within (of k)) → (n k : ℕ) → Within (numbers_from of n k)
unfolding numbers_from
numbers_within of h zero k = λ i. omega arith
numbers_within of h (suc n) k = within_more (of k) (numbers_from of n (suc k)) (h k) (numbers_within of h n (suc k))

-- those of an answer, whose field lies in a row within the limit
module _ (row : Bytes) (l : length row ≤ limit) where
  answer_within : (a : Read Answer) → ((f : Field) → a ≡ ok (rows.field f) → (f.start ≤ f.end) × (f.end ≤ length row)) → Within (numbers_of a)
  answer_within (ok (rows.field f)) h = let (x, y) = h f refl in three_within 1 f.start f.end (omega arith) (omega arith) (omega arith)
  answer_within (ok rows.null) h = three_within 0 0 0 (omega arith) (omega arith) (omega arith)
  answer_within (ok rows.chapter) h = three_within 0 0 0 (omega arith) (omega arith) (omega arith)
  answer_within (bad c o i) h = three_within 2 0 0 (omega arith) (omega arith) (omega arith)

  update_answer_within :
      (a : Read UpdateAnswer) → ((f : Field) → a ≡ ok (updates.field f) → (f.start ≤ f.end) × (f.end ≤ length row)) → Within (numbers_of_update a)
  update_answer_within (ok (updates.field f)) h = let (x, y) = h f refl in three_within 1 f.start f.end (omega arith) (omega arith) (omega arith)
  update_answer_within (ok updates.null) h = three_within 0 0 0 (omega arith) (omega arith) (omega arith)
  update_answer_within (ok updates.unchanged) h = three_within 2 0 0 (omega arith) (omega arith) (omega arith)
  update_answer_within (ok updates.chapter) h = three_within 2 0 0 (omega arith) (omega arith) (omega arith)
  update_answer_within (bad c o i) h = three_within 2 0 0 (omega arith) (omega arith) (omega arith)

module _ (file : Bytes) (number : ℕ) (cs : List Column) (row : Bytes) (end : ℕ) where
  module _ (g : OriginalRow file number cs row end) where
    original_ended : (length row ≤ limit) × (row_end cs row 0 ≡ ok end)
    unfolding row_end_in
    original_ended =
        let (l, e) = answered file number cs g.columns input.Row row (λ columns. about input.Row (row_end columns row 0)) end g.ends in
        (l, about_ok input.Row (row_end cs row 0) end e)

    original_numbers : original_read file number (length cs) row ≡ read_original cs row
    unfolding look_up_in read_original
    original_numbers =
        numbers_same (λ (k : ℕ). numbers_of (look_up_in file number row k)) (λ (k : ℕ). numbers_of (look_up cs row k))
        (λ k. ap numbers_of (asked file number cs g.columns input.Row row (λ columns. look_up columns row k) original_ended.0))
        (length cs) 0

    -- What look-ups read off an original row can be given to the writer,
    pub original_numbers_within : Within (original_read file number (length cs) row)
    unfolding read_original
    original_numbers_within =
        rw original_numbers
        (numbers_within (λ (k : ℕ). numbers_of (look_up cs row k)) (λ k. answer_within row original_ended.0 (look_up cs row k) (field_inside cs row k)) (length cs) 0)

    module _ (out : Bytes) (place : ℕ) (room : place + end ≤ length out) where
      original_again : write_original cs (original_read file number (length cs) row) row (length out) place ≡ ok (take end row)
      original_again =
          rw original_numbers (encode.original_rewritten cs row end (length out) place g.bytes original_ended.1 g.reserved room)

      -- and is written back as the same bytes.
      pub original_rewritten :
          (write_original_in file number (original_read file number (length cs) row) row (length out) place ≡ ok (take end row))
          × (original_output file number (original_read file number (length cs) row) row place out ≡ laid out place (take end row))
      unfolding write_original_in
      original_rewritten =
          let numbers : List ℕ = original_read file number (length cs) row in
          let e : write_original_in file number (original_read file number (length cs) row) row (length out) place ≡ ok (take end row) =
          asked file number cs g.columns input.Values row (λ columns. write_original columns numbers row (length out) place) original_ended.0 ∙ original_again in
          (e, laid_at _ (take end row) out e place (encode.original_fits cs numbers row (length out) place (take end row) original_again))

  module _ (g : UpdateRow file number cs row end) where
    update_ended : (length row ≤ limit) × (update_end cs row 0 ≡ ok end)
    unfolding update_end_in
    update_ended =
        let (l, e) = answered file number cs g.columns input.Update row (λ columns. about input.Update (update_end columns row 0)) end g.ends in
        (l, about_ok input.Update (update_end cs row 0) end e)

    update_numbers : update_read file number (length cs) row ≡ read_update cs row
    unfolding look_update_in read_update
    update_numbers =
        numbers_same (λ (k : ℕ). numbers_of_update (look_update_in file number row k)) (λ (k : ℕ). numbers_of_update (look_update cs row k))
        (λ k. ap numbers_of_update (asked file number cs g.columns input.Update row (λ columns. look_update columns row k) update_ended.0))
        (length cs) 0

    -- What look-ups read off update data can be given to the writer,
    pub update_numbers_within : Within (update_read file number (length cs) row)
    unfolding read_update
    update_numbers_within =
        rw update_numbers
        (numbers_within (λ (k : ℕ). numbers_of_update (look_update cs row k)) (λ k. update_answer_within row update_ended.0 (look_update cs row k) (update_field_inside cs row k)) (length cs) 0)

    module _ (out : Bytes) (place : ℕ) (room : place + end ≤ length out) where
      update_again : write_update cs (update_read file number (length cs) row) row (length out) place ≡ ok (take end row)
      update_again =
          rw update_numbers (encode.update_rewritten cs row end (length out) place g.bytes update_ended.1 g.reserved room)

      -- and is written back as the same bytes.
      pub update_rewritten :
          (write_update_in file number (update_read file number (length cs) row) row (length out) place ≡ ok (take end row))
          × (update_output file number (update_read file number (length cs) row) row place out ≡ laid out place (take end row))
      unfolding write_update_in
      update_rewritten =
          let numbers : List ℕ = update_read file number (length cs) row in
          let e : write_update_in file number (update_read file number (length cs) row) row (length out) place ≡ ok (take end row) =
          asked file number cs g.columns input.Values row (λ columns. write_update columns numbers row (length out) place) update_ended.0 ∙ update_again in
          (e, laid_at _ (take end row) out e place (encode.update_fits cs numbers row (length out) place (take end row) update_again))

-- The premises are met: these values are written, and under S the row and the update data that are written are such rows.

abbrev S-columns : List Column
S-columns = column 0x03 0 0 ∷ column 0x82 1 10 ∷ column 0x11 1 0 ∷ []

-- the values 5, "hi" and 2A; an entry for each; and only the last of them, the text null by force
abbrev S-values : Bytes
S-values = 0x05 ∷ 0x00 ∷ 0x00 ∷ 0x00 ∷ 0x68 ∷ 0x00 ∷ 0x69 ∷ 0x00 ∷ 0x2A ∷ []

abbrev S-entries : List ℕ
S-entries = 1 ∷ 0 ∷ 4 ∷ 1 ∷ 4 ∷ 8 ∷ 1 ∷ 8 ∷ 9 ∷ []

abbrev S-changes : List ℕ
S-changes = 2 ∷ 0 ∷ 0 ∷ 0 ∷ 0 ∷ 0 ∷ 1 ∷ 8 ∷ 9 ∷ []

abbrev S-change : Bytes
S-change = 0x60 ∷ 0x40 ∷ 0x2A ∷ []

S-has : columns_of S 0 ≡ ok S-columns
unfolding columns_of with_schema schema_at check about sized sized_by types kind_in kind_of third_group second_group number_in member read_number read_range read_fixed read_variable read_chapter read_kind read_column read_columns read_schema ended read_file file_of own_columns nested_schemas schemas_of read_schemas
S-has = refl

S-writes : (write_original S-columns S-entries S-values 12 1 ≡ ok whole) × (write_update S-columns S-changes S-values 12 1 ≡ ok S-change)
unfolding write_original write_update writing check about fitting kind_of types kind_in is_nullable prefix_size prefix_bytes greatest length_error_of length_error givens_from is_entry are_entries entry_of entries_of byte_of pack_in pack field_bytes fields_of presence_bits original_bytes update_bits force_bits update_data length_stands in_original in_update entries_stand map_bytes int_bytes
S-writes = (refl, refl)

-- into any output of 12 bytes, from its second on
module _ (out : Bytes) (size : length out ≡ 12) where
  S-within : length (drop 1 out) ≤ limit
  S-within = omega (arith, length-drop 1 out)

  pub S-original : Accepted S 0 S-columns (write_original_in S 0 S-entries S-values (length out) 1) whole 1 out
  unfolding write_original_in
  S-original =
      record {
        columns = S-has;
        accepts = rw size (asked S 0 S-columns S-has input.Values S-values (λ columns. write_original columns S-entries S-values 12 1) (omega arith) ∙ S-writes.0);
        within = S-within;
      }

  pub S-reads-back : OriginalSays (look_up_in S 0) S-columns S-entries S-values (drop 1 (original_output S 0 S-entries S-values 1 out))
  S-reads-back = original_reads_back S 0 S-columns S-entries S-values 1 whole out S-original

  pub S-update : Accepted S 0 S-columns (write_update_in S 0 S-changes S-values (length out) 1) S-change 1 out
  unfolding write_update_in
  S-update =
      record {
        columns = S-has;
        accepts = rw size (asked S 0 S-columns S-has input.Values S-values (λ columns. write_update columns S-changes S-values 12 1) (omega arith) ∙ S-writes.1);
        within = S-within;
      }

pub S-original-row : OriginalRow S 0 S-columns whole 11
unfolding row_end_in small about
S-original-row =
    record {
      columns = S-has;
      bytes = small_bytes whole refl;
      ends =
          asked S 0 S-columns S-has input.Row whole (λ columns. about input.Row (row_end columns whole 0)) (omega arith)
          ∙ ap (about input.Row) (encode.original_ends S-columns S-entries S-values 12 1 whole S-writes.0 []);
      reserved = encode.original_reserved S-columns S-entries S-values 12 1 whole S-writes.0 [];
    }

pub S-update-row : UpdateRow S 0 S-columns S-change 3
unfolding update_end_in small about
S-update-row =
    record {
      columns = S-has;
      bytes = small_bytes S-change refl;
      ends =
          asked S 0 S-columns S-has input.Update S-change (λ columns. about input.Update (update_end columns S-change 0)) (omega arith)
          ∙ ap (about input.Update) (encode.update_ends S-columns S-changes S-values 12 1 S-change S-writes.1 []);
      reserved = encode.update_reserved S-columns S-changes S-values 12 1 S-change S-writes.1 [];
    }

-- a header of the versions 1 and 0, options of three empty strings, S by its numbers
pub heads_written :
    (header_written 1 0 0 0 9 ≡ ok (header_bytes 1 0 0 0))
    × (options_written [] [] [] 1 28 ≡ ok (options_bytes [] [] [] 1))
    × (file_written (3 ∷ 3 ∷ 0 ∷ 0x82 ∷ 1 ∷ 10 ∷ 0x11 ∷ 1 ∷ []) 9 ≡ ok S)
unfolding header_written options_written options_size strings_size async_allowed string_bytes head_bytes options_bytes int_bytes fitting check about sized_by file_written groups coded_number coded in_range types kind_in kind_of third_group second_group number_in member read_number read_range read_fixed read_variable read_chapter read_kind read_column read_columns read_schema ended read_file
heads_written = (refl, refl, refl)
