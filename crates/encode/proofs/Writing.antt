-- The maps of a row, and the writers' ways out.
-- Assumes nothing.
use Rattle.std.specs.Prelude.{Ok, Err}
use Prim.Native.Nat.{ℕ, zero, suc, ◌+◌, ◌*◌, ◌-◌, ◌≤◌, ◌<◌}
use mathlib.Core.Path.{◌≡◌, refl, sym, ap, ◌∙◌}
use mathlib.Core.List.{List, ◌++◌, append_assoc}
use mathlib.Core.Bool.{Bool, true, false}
use native.Mathlib.Omega.{arith}
use lib.ListN.{length, length-append}
use borrow.Author.Tests.{le-leb, lt-leb, eq-eqb, ne_eqb}
use Rattle.wire.specs.declared.error.Error.{Error}
use Rattle.wire.specs.declared.error.Input.TheVariants as input
use Rattle.wire.specs.Read.{Bytes, Read, ok, bad, ◌>>=◌, check, about, refused, limit}
use Rattle.wire.specs.Bits.{map_bytes}
use Rattle.wire.specs.Output.{put, size_of, fitting}
use Rattle.wire.proofs.Laws.{sized_over, sized_within, put_put, length_put, fitting_fits, fitting_not}
use Rattle.wire.proofs.Pieces.{bad_ok, ok_ok}
use Rattle.column.specs.declared.column.Column.{Column}
use Rattle.encode.specs.declared.map.Map.TheVariants as maps
use Rattle.encode.specs.Entries.{Entry, givens_from, are_entries, entries_of}
use Rattle.encode.specs.Encoding.{pack, fields_of, update_bits, force_bits, original_bytes, update_data}
use Rattle.encode.specs.Writers.{entries_stand, entries_in, writing, values_sized, output_with, WroteAt}
use Rattle.encode.specs.Steps.{stands_in, row_in, maps_in, fields_size, bits_of, Laid}
use Rattle.encode.proofs.Pack.{length_pack}

-- The maps.

update_count : (n i : ℕ) (numbers : List ℕ) (values : Bytes) → length (update_bits (entries_of values (givens_from n i numbers))) ≡ n
unfolding update_bits entries_of givens_from
update_count zero i numbers values = refl
update_count (suc n) i numbers values = ap suc (update_count n (suc i) numbers values)

force_count : (n i : ℕ) (numbers : List ℕ) (values : Bytes) → length (force_bits (entries_of values (givens_from n i numbers))) ≡ n
unfolding force_bits entries_of givens_from
force_count zero i numbers values = refl
force_count (suc n) i numbers values = ap suc (force_count n (suc i) numbers values)

module _ {update : Bool} (cs : List Column) where
  pub maps_update : (es : List Entry) → update ≡ true → maps_in update cs es ≡ pack (bits_of maps.Update cs es) ++ pack (bits_of maps.Force cs es)
  unfolding maps_in bits_of
  maps_update es e = rw e refl

  pub maps_original : (es : List Entry) → update ≡ false → maps_in update cs es ≡ pack (bits_of maps.Presence cs es)
  unfolding maps_in bits_of
  maps_original es e = rw e refl

  pub maps_two : (n : ℕ) (numbers : List ℕ) (values : Bytes) → update ≡ true → length (maps_in update cs (entries_in n numbers values)) ≡ 2 * map_bytes n
  unfolding bits_of
  maps_two n numbers values e =
      let es : List Entry = entries_in n numbers values in
      let u : length (pack (update_bits es)) ≡ map_bytes n = length_pack (update_bits es) ∙ ap map_bytes (update_count n 0 numbers values) in
      let f : length (pack (force_bits es)) ≡ map_bytes n = length_pack (force_bits es) ∙ ap map_bytes (force_count n 0 numbers values) in
      ap length (maps_update es e) ∙ length-append (pack (update_bits es)) (pack (force_bits es)) ∙ omega (arith, u, f)

-- one piece behind another
pub laid_next :
    (x y : Bytes) (at : ℕ) (out : Bytes) {laid exit : Bytes} {r s : ℕ} → at + length (x ++ y) ≤ length out → Laid x at out laid r → Laid y (at + r) laid exit s →
    Laid (x ++ y) at out exit (r + s)
laid_next x y at out {laid} {exit} {r} {s} h a b =
    let n : length (x ++ y) ≡ length x + length y = length-append x y in
    let z : at + r ≡ at + length x = omega (arith, a.answers) in
    record {
      answers = omega (arith, a.answers, b.answers, n);
      leaves = b.leaves ∙ ap (λ (o : Bytes). put o (at + r) y) a.leaves ∙ ap (λ (p : ℕ). put (put out at x) p y) z ∙ put_put out at x y (omega (arith, h, n));
    }

-- a row is its maps and then its fields
pub row_made : (update : Bool) (cs : List Column) (es : List Entry) → maps_in update cs es ++ fields_of cs es ≡ row_in update cs es
unfolding maps_in original_bytes update_data
row_made true cs es = append_assoc (pack (update_bits es)) (pack (force_bits es)) (fields_of cs es)
row_made false cs es = refl

pub row_size : (update : Bool) (cs : List Column) (es : List Entry) → length (row_in update cs es) ≡ length (maps_in update cs es) + length (fields_of cs es)
row_size update cs es = ap length (sym (row_made update cs es)) ∙ length-append (maps_in update cs es) (fields_of cs es)

pub row_laid :
    (update : Bool) (cs : List Column) (es : List Entry) (place : ℕ) (out : Bytes) {laid exit : Bytes} {r : ℕ} → place + length (row_in update cs es) ≤ length out →
    Laid (maps_in update cs es) place out laid r → exit ≡ put laid (place + r) (fields_of cs es) → exit ≡ put out place (row_in update cs es)
row_laid update cs es place out {laid} {exit} {r} h m e =
    let x : Bytes = maps_in update cs es in
    let y : Bytes = fields_of cs es in
    let f : Laid y (place + r) laid exit (length y) = record { answers = refl; leaves = e } in
    (laid_next x y place out (omega (arith, h, row_size update cs es, length-append x y)) m f).leaves ∙ ap (put out place) (row_made update cs es)

-- What a row writer is asked for: a row of these columns and numbers, into this output.
pub record Task : Type 0 where
  pub update : Bool
  pub columns : List Column
  pub numbers : List ℕ
  pub values : Bytes
  pub out : Bytes
  pub place : ℕ

abbrev pub entries : Task → List Entry
entries t = entries_in (length t.columns) t.numbers t.values

-- the row, or the error, with values of allowed size
abbrev pub answer : Task → Read Bytes
answer t = writing (stands_in t.update) (row_in t.update) t.columns t.numbers t.values (length t.out) t.place

-- its maps, its fields, and their sizes where every entry can stand
abbrev pub maps_of : Task → Bytes
maps_of t = maps_in t.update t.columns (entries t)

abbrev pub fields_in : Task → Bytes
fields_in t = fields_of t.columns (entries t)

abbrev pub sizes_of : Task → Read ℕ
sizes_of t = fields_size (stands_in t.update) t.columns (entries t)

-- The writer's ways out: where each check fails, and where all hold.

pub values_within : (values : Bytes) (w : Read Bytes) → length values ≤ limit → values_sized values w ≡ w
unfolding values_sized about
values_within values w h = rw (sized_within values h) refl

pub values_over : (values : Bytes) (w : Read Bytes) → limit < length values → values_sized values w ≡ bad 19 0 input.Values
unfolding values_sized about
values_over values w h = rw (sized_over values h) refl

module _ (t : Task) where
  pub place_outside : length t.out < t.place → answer t ≡ bad 18 0 input.Place
  unfolding writing check about
  place_outside h = rw (lt-leb t.place (length t.out) h) refl

  module _ (p : t.place ≤ length t.out) where
    pub entries_miscounted : (length t.numbers ≡ 3 * length t.columns → ⊥) → answer t ≡ bad 18 0 input.Entries
    unfolding writing check about
    entries_miscounted h = rw (le-leb t.place (length t.out) p, ne_eqb (length t.numbers) (3 * length t.columns) h) refl

    pub entries_none : length t.numbers ≡ 3 * length t.columns → are_entries t.values (givens_from (length t.columns) 0 t.numbers) ≡ false → answer t ≡ bad 18 0 input.Entries
    unfolding writing check about
    entries_none l h = rw (le-leb t.place (length t.out) p, eq-eqb (length t.numbers) (3 * length t.columns) l, h) refl

-- All checks before the entries' standing hold.
pub record Checked (t : Task) : Type 0 where
  pub inside : t.place ≤ length t.out
  pub counted : length t.numbers ≡ 3 * length t.columns
  pub are : are_entries t.values (givens_from (length t.columns) 0 t.numbers) ≡ true

module _ (t : Task) (k : Checked t) where
  abbrev standing : Read (Unit {0})
  standing = about input.Entries (entries_stand (stands_in t.update) 0 t.columns (entries t))

  abbrev row : Bytes
  row = row_in t.update t.columns (entries t)

  abbrev capacity : ℕ
  capacity = length t.out - t.place

  checked : answer t ≡ (standing >>= λ _. fitting row capacity)
  unfolding writing check about
  checked =
      rw (le-leb t.place (length t.out) k.inside, eq-eqb (length t.numbers) (3 * length t.columns) k.counted, k.are) refl

  -- an entry can't stand
  pub entry_refused : (e : Error) → refused e ≡ sizes_of t → answer t ≡ refused e
  unfolding fields_size
  entry_refused e h = checked ∙ go standing (sym h)
    where
      go : (r : Read (Unit {0})) → (r >>= λ _. ok (length (fields_in t))) ≡ refused e → (r >>= λ _. fitting row capacity) ≡ refused e
      go (ok u) q = absurd (bad_ok (sym q))
      go (bad c o i) q = cc

  -- all can
  module _ {f : ℕ} (h : ok f ≡ sizes_of t) where
    all_stand : (r : Read (Unit {0})) → (r >>= λ _. ok (length (fields_in t))) ≡ ok f → ((r >>= λ _. fitting row capacity) ≡ fitting row capacity) × (f ≡ length (fields_in t))
    all_stand (ok u) q = (refl, sym (ok_ok q))
    all_stand (bad c o i) q = absurd (bad_ok q)

    fitted : answer t ≡ fitting row capacity
    unfolding fields_size
    fitted = checked ∙ (all_stand standing (sym h)).0

    pub fields_sized : f ≡ length (fields_in t)
    unfolding fields_size
    fields_sized = (all_stand standing (sym h)).1

    module _ {m : ℕ} (g : m ≡ length (maps_of t)) where
      sized_row : m + f ≡ length row
      sized_row = omega (arith, g, fields_sized, row_size t.update t.columns (entries t))

      pub row_over : length t.out - t.place < m + f → answer t ≡ bad 16 (m + f) input.Output
      row_over l = fitted ∙ fitting_not row capacity (omega (arith, l, sized_row)) ∙ ap (λ (n : ℕ). bad 16 n input.Output) (sym sized_row)

      module _ (l : m + f ≤ length t.out - t.place) where
        pub maps_fit : t.place + length (maps_of t) ≤ length t.out
        maps_fit = omega (arith, k.inside, l, g)

        module _ {laid : Bytes} {r : ℕ} (d : Laid (maps_of t) t.place t.out laid r) where
          pub fields_fit : t.place + r + length (fields_in t) ≤ length laid
          fields_fit =
              let n : length laid ≡ length t.out = ap length d.leaves ∙ length_put t.out t.place (maps_of t) in
              omega (arith, n, k.inside, l, g, fields_sized, d.answers)

          pub row_written : {exit : Bytes} → exit ≡ put laid (t.place + r) (fields_in t) → WroteAt (answer t) t.place t.out exit (Ok (m + f))
          unfolding size_of output_with
          row_written {exit} e =
              let o : answer t ≡ ok row = fitted ∙ fitting_fits row capacity (omega (arith, l, sized_row)) in
              let b : exit ≡ put t.out t.place row = row_laid t.update t.columns (entries t) t.place t.out (omega (arith, k.inside, l, sized_row)) d e in
              record {
                answers = ap (λ (n : ℕ). ok n) sized_row ∙ ap size_of (sym o);
                leaves = b ∙ ap (λ (q : Read Bytes). output_with q t.place t.out) (sym o);
              }

-- after an error all is as it was
pub row_refused : (w : Read Bytes) (place : ℕ) (out : Bytes) (e : Error) → w ≡ refused e → WroteAt w place out out (Err e)
unfolding size_of output_with
row_refused w place out e h = record { answers = ap size_of (sym h); leaves = ap (λ (q : Read Bytes). output_with q place out) (sym h) }
