-- The writers' output reads back as the entries that were given, and what was read is written back as it was where the reserved bits
-- were 0: for original rows and for update data.
-- Assumes nothing.
use Prim.Native.Nat.{ℕ, ◌+◌, ◌<◌, ◌≤◌}
use mathlib.Core.Path.{◌≡◌, refl, subst}
use mathlib.Core.List.{List, ◌++◌}
use lib.ListN.{length, take, get_or}
use Rattle.wire.specs.Read.{Bytes, AreBytes, Read, ok, bad}
use Rattle.column.specs.declared.column.Column.{Column}
use Rattle.walk.specs.Presence.{no_column}
use Rattle.walk.specs.Rows as rows
use Rattle.walk.specs.Rows.{row_end, look_up}
use Rattle.walk.specs.Updates as updates
use Rattle.walk.specs.Updates.{update_end, look_update}
use Rattle.encode.specs.Entries.{Entry, null, is_entry, entry_of}
use Rattle.encode.specs.Encoding.{original_bytes, update_data}
use Rattle.encode.specs.Writers.{in_original, in_update, entries_in, write_original, write_update}
use Rattle.encode.specs.Trips.{Says, says_value, says_null, says_chapter, SaysUpdate, says_new, says_forced, says_unchanged, says_chapter_unchanged, numbers_of, numbers_of_update, read_original, read_update, ReservedZero, UpdateReservedZero}
use Rattle.encode.proofs.Originals as original
use Rattle.encode.proofs.UpdateData as update
use Rattle.encode.proofs.Written.{entries_length, writing_ok, writing_fits, Gives, gives_value, rewrites}

-- Each column of what was written reads back as its entry, whatever follows; it ends where it does, and its reserved bits are 0.

module _ (cs : List Column) (numbers : List ℕ) (values : Bytes) (size place : ℕ) (row : Bytes) where
  -- what is written has room behind the place
  pub original_fits : write_original cs numbers values size place ≡ ok row → place + length row ≤ size
  unfolding write_original
  original_fits h = writing_fits in_original original_bytes cs numbers values size place row h

  pub update_fits : write_update cs numbers values size place ≡ ok row → place + length row ≤ size
  unfolding write_update
  update_fits h = writing_fits in_update update_data cs numbers values size place row h

  module _ (h : write_original cs numbers values size place ≡ ok row) (r : Bytes) where
    original_made : original.Made cs (entries_in (length cs) numbers values) (row ++ r) (length row)
    unfolding write_original
    original_made =
        let es : List Entry = entries_in (length cs) numbers values in
        let (u, s, e) = writing_ok in_original original_bytes cs numbers values size place row h in
        subst (λ (x : Bytes). original.Made cs es (x ++ r) (length x)) e (original.written_made cs es (entries_length values (length cs) 0 numbers) r u s)

    pub original_reads_back :
        (k : ℕ) → k < length cs → Says (row ++ r) (get_or cs k no_column) (get_or (entries_in (length cs) numbers values) k null) (look_up cs (row ++ r) k)
    original_reads_back = original.made_says original_made

    pub original_ends : row_end cs (row ++ r) 0 ≡ ok (length row)
    original_ends = original.made_end original_made

    pub original_reserved : ReservedZero cs (row ++ r)
    unfolding write_original
    original_reserved =
        let (u, s, e) = writing_ok in_original original_bytes cs numbers values size place row h in
        subst (λ (x : Bytes). ReservedZero cs (x ++ r)) e (original.written_reserved cs _ (entries_length values (length cs) 0 numbers) r)

  module _ (h : write_update cs numbers values size place ≡ ok row) (r : Bytes) where
    update_made : update.Made cs (entries_in (length cs) numbers values) (row ++ r) (length row)
    unfolding write_update
    update_made =
        let es : List Entry = entries_in (length cs) numbers values in
        let (u, s, e) = writing_ok in_update update_data cs numbers values size place row h in
        subst (λ (x : Bytes). update.Made cs es (x ++ r) (length x)) e (update.written_made cs es (entries_length values (length cs) 0 numbers) r u s)

    pub update_reads_back :
        (k : ℕ) → k < length cs → SaysUpdate (row ++ r) (get_or cs k no_column) (get_or (entries_in (length cs) numbers values) k null) (look_update cs (row ++ r) k)
    update_reads_back = update.made_says update_made

    pub update_ends : update_end cs (row ++ r) 0 ≡ ok (length row)
    update_ends = update.made_end update_made

    pub update_reserved : UpdateReservedZero cs (row ++ r)
    unfolding write_update
    update_reserved =
        let (u, s, e) = writing_ok in_update update_data cs numbers values size place row h in
        subst (λ (x : Bytes). UpdateReservedZero cs (x ++ r)) e (update.written_reserved cs _ (entries_length values (length cs) 0 numbers) r)

-- The numbers of an answer that says an entry give this entry.

numbers_three : (a : Read rows.Answer) → length (numbers_of a) ≡ 3
numbers_three (ok (rows.field f)) = refl
numbers_three (ok rows.null) = refl
numbers_three (ok rows.chapter) = refl
numbers_three (bad code offset about) = refl

says_gives : {row : Bytes} {c : Column} {e : Entry} {a : Read rows.Answer} → Says row c e a → Gives row e (numbers_of a)
unfolding is_entry entry_of
says_gives {row} (says_value {v = v} {s = s} {e = e} p l i h) = gives_value row v s e l i h
says_gives (says_null p) = record { is = refl; says = refl }
says_gives (says_chapter p) = record { is = refl; says = refl }

update_three : (a : Read updates.UpdateAnswer) → length (numbers_of_update a) ≡ 3
update_three (ok (updates.field f)) = refl
update_three (ok updates.null) = refl
update_three (ok updates.unchanged) = refl
update_three (ok updates.chapter) = refl
update_three (bad code offset about) = refl

update_gives : {row : Bytes} {c : Column} {e : Entry} {a : Read updates.UpdateAnswer} → SaysUpdate row c e a → Gives row e (numbers_of_update a)
unfolding is_entry entry_of
update_gives {row} (says_new {v = v} {s = s} {e = e} p l i h) = gives_value row v s e l i h
update_gives (says_forced p) = record { is = refl; says = refl }
update_gives (says_unchanged p) = record { is = refl; says = refl }
update_gives (says_chapter_unchanged p) = record { is = refl; says = refl }

-- What was read, given to the writer with the row as its values, is written as the same bytes, where the reserved bits were 0.

module _ (cs : List Column) (row : Bytes) (end size place : ℕ) (bytes : AreBytes row) where
  pub original_rewritten :
      row_end cs row 0 ≡ ok end → ReservedZero cs row → place + end ≤ size → write_original cs (read_original cs row) row size place ≡ ok (take end row)
  unfolding write_original read_original
  original_rewritten h z f =
      let (es, d) = original.accepted_made cs row end bytes h in
      rewrites in_original original_bytes cs es (λ (k : ℕ). numbers_of (look_up cs row k)) row size place end (original.made_length d)
      (λ k. numbers_three (look_up cs row k)) (λ k l. says_gives (original.made_says d k l)) (original.made_stands d) (original.made_bytes d bytes z) d.fields.inside f

  pub update_rewritten :
      update_end cs row 0 ≡ ok end → UpdateReservedZero cs row → place + end ≤ size → write_update cs (read_update cs row) row size place ≡ ok (take end row)
  unfolding write_update read_update
  update_rewritten h z f =
      let (es, d) = update.accepted_made cs row end bytes h in
      rewrites in_update update_data cs es (λ (k : ℕ). numbers_of_update (look_update cs row k)) row size place end (update.made_length d)
      (λ k. update_three (look_update cs row k)) (λ k l. update_gives (update.made_says d k l)) (update.made_stands d) (update.made_bytes d bytes z) d.fields.inside f
