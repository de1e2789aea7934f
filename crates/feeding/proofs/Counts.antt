-- The rows that a state counts are the whole 07 and 87 elements so far.
-- Assumes nothing.
use Prim.Native.Nat.{ℕ, zero, suc, ◌+◌, ◌-◌, max, ◌≤◌}
use mathlib.Core.List.{List, [], ◌∷◌, ◌++◌}
use mathlib.Core.Bool.{Bool, true, false}
use mathlib.Core.Path.{◌≡◌, refl, sym, ap, ◌∙◌}
use native.Mathlib.Omega.{arith}
use lib.ListN.{length, get_or, take, drop}
use lib.Seq.{take-suc, take-length}
use Rattle.wire.specs.declared.error.Input.{Input}
use Rattle.wire.specs.declared.error.Input.TheVariants.{Single}
use Rattle.wire.specs.Read.{Bytes, Read, ok, bad, ◌>>=◌, pick, check}
use Rattle.wire.specs.Integers.{read_int}
use Rattle.column.specs.declared.column.Column.{Column}
use Rattle.column.specs.Columns.{width, is_variable, prefix_size, length_error}
use Rattle.column.specs.Fields.{allowed}
use Rattle.walk.specs.Presence.{Mark}
use Rattle.walk.specs.Data.{data_opened}
use Rattle.tree.specs.Schemas.{Schema, child_number}
use Rattle.grammar.specs.Grammar.{Before, Row}
use Rattle.grammar.specs.Reader.{Token, parent_token, child_token, change_token, delete_token, done_token, unknown_token, token_of, known_child, follows, section}
use Rattle.feeding.specs.Answers.{or_none, most_rows, whole_rows}
use Rattle.feeding.specs.Machine.{Kind, parent_row, child_row, change_row, adds, is_update, columns_for, column_for, marks_for, has_for, map_size, from, Stage, child_id, change_id, delete_id, maps, prefix, State, between, keep, skip, finished, stopped, settle, body_of, seek, seek_from, mapped, row_by, row_from, tokened, measured, judge, byte, feed, start, closed}
use Rattle.feeding.proofs.Fed.{section_count, whole_is_fed, feed_append}
use Rattle.feeding.proofs.Prefixes.{count_rows, finished_by}

abbrev pub rows_of : State → ℕ
rows_of (between n at before) = n
rows_of (keep n start held more g) = n
rows_of (skip n at more k map j) = n
rows_of (finished n at) = n
rows_of (stopped code offset name) = 0

-- the section is neither complete nor refused
abbrev pub Going : State → Type 0
Going (between n at before) = Unit {0}
Going (keep n start held more g) = Unit {0}
Going (skip n at more k map j) = Unit {0}
Going (finished n at) = ⊥
Going (stopped code offset name) = ⊥

-- Behind a piece of an element, from n rows on: the count moves only where an element ends.
data Moved (n : ℕ) : State → Type 0 where
  at_token : {m at : ℕ} {before : Before} → n ≤ m → Moved n (between m at before)
  in-piece : {start more : ℕ} {held : Bytes} {g : Stage} → Moved n (keep n start held more g)
  in_field : {at more : ℕ} {k : Kind} {map : Bytes} {j : ℕ} → Moved n (skip n at more k map j)
  refused_there : {code offset : ℕ} {name : Input} → Moved n (stopped code offset name)

moved_after : {A : Type 0} {n : ℕ} (r : Read A) (g : A → Read State) → ((a : A) → Moved n (settle (g a))) → Moved n (settle (r >>= g))
moved_after (ok a) g h = h a
moved_after (bad c o i) g h = refused_there

moved_body : (n at more : ℕ) (k : Kind) (map : Bytes) (j : ℕ) (st : State) → Moved n st → Moved n (body_of n at more k map j st)
moved_body n at zero k map j st h = h
moved_body n at (suc more) k map j st h = in_field

module _ (S : List Schema) where
  moved_seek : (n at : ℕ) (k : Kind) (map : Bytes) (j : ℕ) (ms : List Mark) → Moved n (seek S n at k map j ms)
  unfolding seek
  moved_seek n at k map j [] = at_token {m = n + adds k} (omega arith)
  moved_seek n at k map j (m ∷ ms) = go (λ a. moved_seek n a k map (suc j) ms) (has_for S k map m) (is_variable m.column)
    where
      go :
          ((a : ℕ) → Moved n (seek S n a k map (suc j) ms)) → (t v : Bool) →
          Moved n
          (pick t
          (pick v (keep n at [] (prefix_size m.column - 1) (prefix k map j))
          (body_of n at (width m.column) k map (suc j) (seek S n (at + width m.column) k map (suc j) ms)))
          (seek S n at k map (suc j) ms))
      go ih true true = in-piece
      go ih true false = moved_body n at (width m.column) k map (suc j) _ (ih (at + width m.column))
      go ih false v = ih at

  moved_from : (n at : ℕ) (k : Kind) (map : Bytes) (j : ℕ) → Moved n (seek_from S n at k map j)
  moved_from n at k map j = moved_seek n at k map j (drop j (marks_for S k))

  moved_mapped : (n start : ℕ) (held : Bytes) (k : Kind) → Moved n (settle (mapped S n start held k))
  unfolding mapped
  moved_mapped n start held k =
      moved_after (from start (data_opened (is_update k) (columns_for S k) held 0)) _ (λ _. moved_from n (start + length held) k held 0)

  moved_by : (n at size : ℕ) (k : Kind) → Moved n (settle (row_by S n at size k))
  moved_by n at zero k = moved_mapped n at [] k
  moved_by n at (suc more) k = in-piece

  moved_row : (n at : ℕ) (k : Kind) → Moved n (settle (row_from S n at k))
  moved_row n at k = moved_by n at (map_size S k) k

  moved_measured : (n start at v : ℕ) (c : Column) (k : Kind) (map : Bytes) (j : ℕ) → Moved n (settle (measured S n start at c v k map j))
  unfolding measured
  moved_measured n start at v c k map j =
      moved_after (allowed (length_error c v) start) _ (λ _. moved_body n at v k map j _ (moved_from n _ k map j))

  moved_judged : (n start : ℕ) (held : Bytes) (g : Stage) → Moved n (settle (judge S n start held g))
  unfolding judge
  moved_judged n start held (child_id at) =
      moved_after (from start (read_int held 0 4)) _
      (λ id. moved_after (known_child at (child_number S id)) _ (λ _. moved_row n (start + length held) (child_row id)))
  moved_judged n start held (change_id before at) =
      moved_after (from start (read_int held 0 4)) _
      (λ id.
      moved_after (check (follows before id) 11 at) _
      (λ _. moved_after (known_child at (child_number S id)) _ (λ _. moved_row n (start + length held) (change_row id))))
  moved_judged n start held (delete_id before at) =
      moved_after (from start (read_int held 0 4)) _
      (λ id. moved_after (check (follows before id) 11 at) _ (λ _. at_token {m = n} (omega arith)))
  moved_judged n start held (maps k) = moved_mapped n start held k
  moved_judged n start held (prefix k map j) =
      moved_after (from start (read_int held 0 (prefix_size (column_for S k j)))) _
      (λ v. moved_measured n start (start + length held) v (column_for S k j) k map (suc j))

  moved_tokened : (n at : ℕ) (before : Before) (t : Token) → Going (settle (tokened S n at before t)) → Moved n (settle (tokened S n at before t))
  unfolding tokened
  moved_tokened n at before done_token h = absurd h
  moved_tokened n at before parent_token h = moved_row n (at + 1) parent_row
  moved_tokened n at before child_token h = in-piece
  moved_tokened n at before change_token h = in-piece
  moved_tokened n at before delete_token h = in-piece
  moved_tokened n at before unknown_token h = refused_there

  moved_keep : (n start more b : ℕ) (held : Bytes) (g : Stage) → Moved n (byte S (keep n start held more g) b)
  unfolding byte
  moved_keep n start zero b held g = moved_judged n start (held ++ (b ∷ [])) g
  moved_keep n start (suc more) b held g = in-piece

  moved_skip : (n at more b : ℕ) (k : Kind) (map : Bytes) (j : ℕ) → Moved n (byte S (skip n at more k map j) b)
  unfolding byte
  moved_skip n at zero b k map j = moved_from n (at + 1) k map j
  moved_skip n at (suc more) b k map j = in_field

  moved_byte : (st : State) (b : ℕ) → Going (byte S st b) → Moved (rows_of st) (byte S st b)
  unfolding byte
  moved_byte (between n at before) b h = moved_tokened n at before (token_of b) h
  moved_byte (keep n start held more g) b h = moved_keep n start more b held g
  moved_byte (skip n at more k map j) b h = moved_skip n at more b k map j
  moved_byte (finished n at) b h = absurd h
  moved_byte (stopped c o i) b h = absurd h

  -- Only a done token completes a section.
  none : {n : ℕ} {st : State} → Moved n st → or_none (closed st) ≡ 0
  none (at_token h) = refl
  none in-piece = refl
  none in_field = refl
  none refused_there = refl

  going_back : (st : State) (b : ℕ) → Going (byte S st b) → Going st
  unfolding byte
  going_back (between n at before) b h = tt
  going_back (keep n start held more g) b h = tt
  going_back (skip n at more k map j) b h = tt
  going_back (finished n at) b h = h
  going_back (stopped c o i) b h = h

  counts : {n : ℕ} {st : State} → Moved n st → Going st → max n (or_none (closed (byte S st 0x0F))) ≡ rows_of st
  unfolding byte tokened token_of
  counts (at_token h) g = omega arith
  counts {n} (in-piece {start} {more} {held} {g}) _ = rw (none (moved_keep n start more 0x0F held g)) (omega arith)
  counts {n} (in_field {at} {more} {k} {map} {j}) _ = rw (none (moved_skip n at more 0x0F k map j)) (omega arith)
  counts refused_there g = absurd g

  most_counts : (s : Bytes) (k : ℕ) → k ≤ length s → Going (feed S start (take k s)) → most_rows S s k ≡ rows_of (feed S start (take k s))
  unfolding most_rows feed
  most_counts s zero h g = refl
  most_counts s (suc k) h g =
      let e : feed S start (take (suc k) s) ≡ byte S (feed S start (take k s)) (get_or s k 0) =
      ap (feed S start) (take-suc s k 0 (omega arith)) ∙ feed_append S start (take k s) (get_or s k 0 ∷ []) in
      let f : section_count S (take (suc k) s ++ (0x0F ∷ [])) ≡ closed (byte S (byte S (feed S start (take k s)) (get_or s k 0)) 0x0F) =
      whole_is_fed S (take (suc k) s ++ (0x0F ∷ []))
      ∙ ap closed (feed_append S start (take (suc k) s) (0x0F ∷ []) ∙ ap (λ (x : State). byte S x 0x0F) e) in
      let g' : Going (byte S (feed S start (take k s)) (get_or s k 0)) = rw e at g in
      rw (most_counts s k (omega arith) (going_back (feed S start (take k s)) (get_or s k 0) g'), f, e)
      (counts (moved_byte (feed S start (take k s)) (get_or s k 0) g') g')

  pub rows_so_far : (s : Bytes) → Going (feed S start s) → whole_rows S s ≡ rows_of (feed S start s)
  unfolding whole_rows
  rows_so_far s g =
      let e : take (length s) s ≡ s = take-length s in
      most_counts s (length s) (omega arith) (rw e g) ∙ ap (λ (x : Bytes). rows_of (feed S start x)) e

  -- A complete section has as many.
  not_finished : {n m at : ℕ} {st : State} → Moved n st → st ≡ finished m at → ⊥
  not_finished (at_token h) e = let z : ◌≡◌ {A = ℕ} 0 1 = cc in omega arith
  not_finished in-piece e = let z : ◌≡◌ {A = ℕ} 0 1 = cc in omega arith
  not_finished in_field e = let z : ◌≡◌ {A = ℕ} 0 1 = cc in omega arith
  not_finished refused_there e = let z : ◌≡◌ {A = ℕ} 0 1 = cc in omega arith

  finished_token : (n m p at : ℕ) (before : Before) (t : Token) → settle (tokened S n at before t) ≡ finished m p → n ≡ m
  unfolding tokened
  finished_token n m p at before done_token e = cc
  finished_token n m p at before parent_token e = absurd (not_finished (moved_row n (at + 1) parent_row) e)
  finished_token n m p at before child_token e = absurd (not_finished {n = n} in-piece e)
  finished_token n m p at before change_token e = absurd (not_finished {n = n} in-piece e)
  finished_token n m p at before delete_token e = absurd (not_finished {n = n} in-piece e)
  finished_token n m p at before unknown_token e = absurd (not_finished {n = n} refused_there e)

  finished_back : (st : State) (b m p : ℕ) → byte S st b ≡ finished m p → Going st × (rows_of st ≡ m)
  unfolding byte
  finished_back (between n at before) b m p e = (tt, finished_token n m p at before (token_of b) e)
  finished_back (keep n start held more g) b m p e = absurd (not_finished (moved_keep n start more b held g) e)
  finished_back (skip n at more k map j) b m p e = absurd (not_finished (moved_skip n at more b k map j) e)
  finished_back (finished n at) b m p e = absurd (not_finished {n = 0} refused_there e)
  finished_back (stopped c o i) b m p e = absurd (not_finished {n = 0} refused_there e)

  complete_rows : (s : Bytes) (m p : ℕ) → feed S start s ≡ finished m p → whole_rows S s ≡ m
  unfolding whole_rows most_rows feed byte
  complete_rows s m p e = go (length s) refl
    where
      here : (k : ℕ) → length s ≡ k → take k s ≡ s
      here k z = ap (λ (n : ℕ). take n s) (sym z) ∙ take-length s

      go : (k : ℕ) → length s ≡ k → most_rows S s k ≡ m
      go zero z = absurd (not_finished {n = 0} (at_token {m = 0} (omega arith)) (ap (feed S start) (here 0 z) ∙ e))
      go (suc k) z =
          let f : feed S start (take (suc k) s) ≡ finished m p = ap (feed S start) (here (suc k) z) ∙ e in
          let q : byte S (feed S start (take k s)) (get_or s k 0) ≡ finished m p =
          sym (ap (feed S start) (take-suc s k 0 (omega arith)) ∙ feed_append S start (take k s) (get_or s k 0 ∷ [])) ∙ f in
          let (g, r) = finished_back (feed S start (take k s)) (get_or s k 0) m p q in
          let n : section_count S (take (suc k) s ++ (0x0F ∷ [])) ≡ bad 15 p Single =
          whole_is_fed S (take (suc k) s ++ (0x0F ∷ []))
          ∙ ap closed (feed_append S start (take (suc k) s) (0x0F ∷ []) ∙ ap (λ (x : State). byte S x 0x0F) f) in
          rw n (omega (arith, most_counts s k (omega arith) g))

  pub all_rows_lem : (s : Bytes) {rs : List Row} → section S s ≡ ok rs → whole_rows S s ≡ length rs
  all_rows_lem s {rs} e =
      let (at, f) = finished_by (feed S start s) (sym (whole_is_fed S s) ∙ count_rows S s e) in
      complete_rows s (length rs) at f
