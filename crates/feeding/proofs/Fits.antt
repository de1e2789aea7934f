-- A state keeps little, and its numbers are in range. Each byte moves it one place, and none past the limit.
-- Assumes nothing.
use Prim.Native.Nat.{ℕ, zero, suc, ◌+◌, ◌-◌, ◌≤◌, ◌<◌}
use mathlib.Core.List.{List, [], ◌∷◌, ◌++◌}
use mathlib.Core.Bool.{Bool, true, false}
use mathlib.Core.Path.{◌≡◌, refl, ap, ◌∙◌}
use native.Mathlib.Omega.{arith}
use lib.ListN.{length, take, drop, length-append, length-drop}
use lib.Dec.{ltb}
use borrow.Author.Tests.{ltb-true, lt-ltb, le-ltb}
use Rattle.wire.specs.declared.error.Input.{Input}
use Rattle.wire.specs.declared.error.Input.TheVariants as input
use Rattle.wire.specs.Read.{Bytes, Read, ok, bad, ◌>>=◌, pick, check, limit}
use Rattle.wire.specs.Bits.{map_bytes}
use Rattle.wire.specs.Integers.{read_int}
use Rattle.column.specs.declared.column.Column.{Column}
use Rattle.column.specs.Columns.{width, is_variable, prefix_size, length_error}
use Rattle.column.specs.Fields.{allowed}
use Rattle.walk.specs.Presence.{presence_bytes, Mark}
use Rattle.walk.specs.Updates.{update_bytes}
use Rattle.walk.specs.Data.{data_opened}
use Rattle.walk.proofs.Laws.{bit_all, bit_few}
use Rattle.tree.specs.Schemas.{Schema, child_number, or0}
use Rattle.grammar.specs.Grammar.{Before, columns_at}
use Rattle.grammar.specs.Reader.{Token, parent_token, child_token, change_token, delete_token, done_token, unknown_token, token_of, known_child, follows}
use Rattle.feeding.specs.Machine.{Kind, parent_row, child_row, change_row, adds, is_update, columns_for, column_for, marks_for, has_for, maps_size, map_size, from, Stage, child_id, change_id, delete_id, maps, prefix, State, between, keep, skip, finished, stopped, settle, body_of, seek, seek_from, mapped, row_by, row_from, tokened, measured, judge, byte, feed}
use Rattle.feeding.specs.Feeding.{total, over, next, take_in}
use Rattle.feeding.proofs.Left.{Seated, marks_length}
use Rattle.feeding.proofs.Fed.{Stands}

module _ (S : List Schema) where
  -- Each byte moves a state one place, unless it stops it.
  stands_after : {A : Type 0} (p : ℕ) (r : Read A) (g : A → Read State) → ((a : A) → Stands p (settle (g a))) → Stands p (settle (r >>= g))
  stands_after p (ok a) g h = h a
  stands_after p (bad c o i) g h = tt

  stands_body :
      (n at p size : ℕ) (k : Kind) (map : Bytes) (j : ℕ) (st : State) → at ≡ p → (size ≡ 0 → Stands p st) → Stands p (body_of n at size k map j st)
  stands_body n at p zero k map j st e h = h refl
  stands_body n at p (suc more) k map j st e h = e

  stands_seek : (n at p : ℕ) (k : Kind) (map : Bytes) (j : ℕ) (ms : List Mark) → at ≡ p → Stands p (seek S n at k map j ms)
  unfolding seek
  stands_seek n at p k map j [] e = e
  stands_seek n at p k map j (m ∷ ms) e = go (λ a q. stands_seek n a p k map (suc j) ms q) (has_for S k map m) (is_variable m.column)
    where
      go :
          ((a : ℕ) → a ≡ p → Stands p (seek S n a k map (suc j) ms)) → (t v : Bool) →
          Stands p
          (pick t
          (pick v (keep n at [] (prefix_size m.column - 1) (prefix k map j))
          (body_of n at (width m.column) k map (suc j) (seek S n (at + width m.column) k map (suc j) ms)))
          (seek S n at k map (suc j) ms))
      go ih true true = omega arith
      go ih true false =
          stands_body n at p (width m.column) k map (suc j) (seek S n (at + width m.column) k map (suc j) ms) e
          (λ z. ih (at + width m.column) (omega arith))
      go ih false v = ih at e

  stands_mapped : (n start p : ℕ) (held : Bytes) (k : Kind) → start + length held ≡ p → Stands p (settle (mapped S n start held k))
  unfolding mapped
  stands_mapped n start p held k e =
      stands_after p (from start (data_opened (is_update k) (columns_for S k) held 0)) _
      (λ _. stands_seek n (start + length held) p k held 0 (drop 0 (marks_for S k)) e)

  stands_row : (n at p : ℕ) (k : Kind) → at ≡ p → Stands p (settle (row_from S n at k))
  stands_row n at p k e = go (map_size S k)
    where
      go : (size : ℕ) → Stands p (settle (row_by S n at size k))
      go zero = stands_mapped n at p [] k (omega arith)
      go (suc more) = omega arith

  stands_tokened : (n at : ℕ) (before : Before) (t : Token) → Stands (at + 1) (settle (tokened S n at before t))
  unfolding tokened
  stands_tokened n at before done_token = refl
  stands_tokened n at before parent_token = stands_row n (at + 1) (at + 1) parent_row refl
  stands_tokened n at before child_token = omega arith
  stands_tokened n at before change_token = omega arith
  stands_tokened n at before delete_token = omega arith
  stands_tokened n at before unknown_token = tt

  stands_judged : (n start p : ℕ) (held : Bytes) (g : Stage) → start + length held ≡ p → Stands p (settle (judge S n start held g))
  unfolding judge measured
  stands_judged n start p held (child_id at) e =
      stands_after p (from start (read_int held 0 4)) _
      (λ id. stands_after p (known_child at (child_number S id)) _ (λ _. stands_row n (start + length held) p (child_row id) e))
  stands_judged n start p held (change_id before at) e =
      stands_after p (from start (read_int held 0 4)) _
      (λ id.
      stands_after p (check (follows before id) 11 at) _
      (λ _. stands_after p (known_child at (child_number S id)) _ (λ _. stands_row n (start + length held) p (change_row id) e)))
  stands_judged n start p held (delete_id before at) e =
      stands_after p (from start (read_int held 0 4)) _ (λ id. stands_after p (check (follows before id) 11 at) _ (λ _. e))
  stands_judged n start p held (maps k) e = stands_mapped n start p held k e
  stands_judged n start p held (prefix k map j) e =
      stands_after p (from start (read_int held 0 (prefix_size (column_for S k j)))) _
      (λ v.
      stands_after p (allowed (length_error (column_for S k j) v) start) _
      (λ _.
      stands_body n (start + length held) p v k map (suc j) (seek_from S n (start + length held + v) k map (suc j)) e
      (λ z. stands_seek n (start + length held + v) p k map (suc j) (drop (suc j) (marks_for S k)) (omega arith))))

  pub byte_stands : (p : ℕ) (st : State) (b : ℕ) → Stands p st → Stands (p + 1) (byte S st b)
  unfolding byte
  byte_stands p (between n at before) b e = rw (← e) (stands_tokened n at before (token_of b))
  byte_stands p (keep n start held zero g) b e =
      stands_judged n start (p + 1) (held ++ (b ∷ [])) g (omega (arith, length-append held (b ∷ [])))
  byte_stands p (keep n start held (suc more) g) b e = omega (arith, length-append held (b ∷ []))
  byte_stands p (skip n at zero k map j) b e = stands_seek n (at + 1) (p + 1) k map j (drop j (marks_for S k)) (omega arith)
  byte_stands p (skip n at (suc more) k map j) b e = omega arith
  byte_stands p (finished n at) b e = tt
  byte_stands p (stopped c o i) b e = tt

  -- where any state stands
  pub stands_total : (st : State) → Stands (total st) st
  stands_total (between n at before) = refl
  stands_total (keep n start held more g) = refl
  stands_total (skip n at more k map j) = refl
  stands_total (finished n at) = refl
  stands_total (stopped c o i) = tt

  pub total_within : (p : ℕ) (st : State) → Stands p st → total st ≤ p
  total_within p (between n at before) e = omega arith
  total_within p (keep n start held more g) e = omega arith
  total_within p (skip n at more k map j) e = omega arith
  total_within p (finished n at) e = omega arith
  total_within p (stopped c o i) e = omega arith

  pub total_byte : (st : State) (b : ℕ) → Stands (total st + 1) (byte S st b)
  total_byte st b = byte_stands (total st) st b (stands_total st)

  -- The limit.
  next_within : (st : State) (b : ℕ) → total st < limit → next S st b ≡ byte S st b
  unfolding next
  next_within st b h = rw (lt-ltb (total st) limit h)

  next_over : (p : ℕ) (st : State) (b : ℕ) → Stands p st → limit ≤ p → next S st b ≡ over st
  unfolding next byte
  next_over p (between n at before) b e h = rw (le-ltb at limit (omega arith))
  next_over p (keep n start held more g) b e h = rw (le-ltb (start + length held) limit (omega arith))
  next_over p (skip n at more k map j) b e h = rw (le-ltb at limit (omega arith))
  next_over p (finished n at) b e h = rw (le-ltb at limit (omega arith))
  next_over p (stopped c o i) b e h = refl

  pub stopped_stays : (c o : ℕ) (i : Input) (v : Bytes) → take_in S (stopped c o i) v ≡ stopped c o i
  unfolding take_in next byte
  stopped_stays c o i [] = refl
  stopped_stays c o i (b ∷ v) = stopped_stays c o i v

  over_stays : (st : State) (v : Bytes) → take_in S (over st) v ≡ over st
  over_stays (between n at before) v = stopped_stays 19 0 input.Single v
  over_stays (keep n start held more g) v = stopped_stays 19 0 input.Single v
  over_stays (skip n at more k map j) v = stopped_stays 19 0 input.Single v
  over_stays (finished n at) v = stopped_stays 19 0 input.Single v
  over_stays (stopped c o i) v = stopped_stays c o i v

  within_from : (p : ℕ) (st : State) (f : Bytes) → Stands p st → length f ≤ limit - p → take_in S st f ≡ feed S st f
  unfolding take_in feed
  within_from p st [] e h = refl
  within_from p st (b ∷ f) e h =
      ap (λ (x : State). take_in S x f) (next_within st b (omega (arith, total_within p st e)))
      ∙ within_from (p + 1) (byte S st b) f (byte_stands p st b e) (omega arith)

  over_from : (p : ℕ) (st : State) (f : Bytes) → Stands p st → limit - p < length f → take_in S st f ≡ over (feed S st (take (limit - p) f))
  unfolding take_in feed
  over_from p st [] e h = absurd (omega arith)
  over_from p st (b ∷ f) e h = go (λ l. over_from (p + 1) (byte S st b) f (byte_stands p st b e) l) (limit - p) refl
    where
      go :
          (limit - (p + 1) < length f → take_in S (byte S st b) f ≡ over (feed S (byte S st b) (take (limit - (p + 1)) f))) →
          (r : ℕ) → limit - p ≡ r → take_in S (next S st b) f ≡ over (feed S st (take r (b ∷ f)))
      go ih zero q = ap (λ (x : State). take_in S x f) (next_over p st b e (omega arith)) ∙ over_stays st f
      go ih (suc r) q =
          let z : limit - (p + 1) ≡ r = omega arith in
          ap (λ (x : State). take_in S x f) (next_within st b (omega (arith, total_within p st e)))
          ∙ ih (omega arith)
          ∙ ap (λ (x : ℕ). over (feed S (byte S st b) (take x f))) z

  -- A fragment up to the limit, and one that passes it.
  pub taken_within : (st : State) (f : Bytes) → length f ≤ limit - total st → take_in S st f ≡ feed S st f
  taken_within st f h = within_from (total st) st f (stands_total st) h

  pub taken_over : (st : State) (f : Bytes) → limit - total st < length f → take_in S st f ≡ over (feed S st (take (limit - total st) f))
  taken_over st f h = over_from (total st) st f (stands_total st) h

-- The numbers of a state: no more rows than bytes, no more bytes than the limit, and little that is kept.
abbrev pub Small : Stage → Type 0
Small (child_id at) = Unit {0}
Small (change_id before at) = Unit {0}
Small (delete_id before at) = Unit {0}
Small (maps k) = Unit {0}
Small (prefix k map j) = (length map ≤ 16) × (j < 64)

abbrev pub Fits : State → Type 0
Fits (between n at before) = (n ≤ at) × (at ≤ limit)
Fits (keep n start held more g) =
    (n ≤ start) × (1 ≤ start) × (start + length held ≤ limit) × (length held + more ≤ 15) × Seated g start × Small g
Fits (skip n at more k map j) = (n ≤ at) × (at ≤ limit) × (length map ≤ 16) × (j ≤ 64)
Fits (finished n at) = (n ≤ at) × (at ≤ limit)
Fits (stopped code offset name) = Unit {0}

prefix_few : (c : Column) → prefix_size c ≤ 4
unfolding prefix_size
prefix_few c = go (ltb c.maximum 256)
  where
    go : (t : Bool) → pick t 1 4 ≤ 4
    go true = omega arith
    go false = omega arith

adds_few : (k : Kind) → adds k ≤ 1
adds_few parent_row = omega arith
adds_few (child_row id) = omega arith
adds_few (change_row id) = omega arith

maps_few : (u : Bool) (cs : List Column) → length cs ≤ 64 → maps_size u cs ≤ 16
unfolding presence_bytes update_bytes map_bytes
maps_few true cs h = omega arith
maps_few false cs h = omega (arith, bit_all cs, bit_few cs (length cs))

fits_after : {A : Type 0} (r : Read A) (g : A → Read State) → ((a : A) → Fits (settle (g a))) → Fits (settle (r >>= g))
fits_after (ok a) g h = h a
fits_after (bad c o i) g h = tt

fits_body :
    (n at size : ℕ) (k : Kind) (map : Bytes) (j : ℕ) (st : State) → n ≤ at → at ≤ limit → length map ≤ 16 → j ≤ 64 → (size ≡ 0 → Fits st) →
    Fits (body_of n at size k map j st)
fits_body n at zero k map j st a l w i h = h refl
fits_body n at (suc more) k map j st a l w i h = (a, l, w, i)

-- where no schema has more than 64 columns
module _ (S : List Schema) (few : (j : ℕ) → length (columns_at S j) ≤ 64) where
  fits_seek :
      (n at : ℕ) (k : Kind) (map : Bytes) (j : ℕ) (ms : List Mark) → n < at → at ≤ limit → length map ≤ 16 → j + length ms ≤ 64 →
      Fits (seek S n at k map j ms)
  unfolding seek
  fits_seek n at k map j [] a l w i = (omega (arith, adds_few k), l)
  fits_seek n at k map j (m ∷ ms) a l w i = go (λ x y z. fits_seek n x k map (suc j) ms y z w (omega arith)) (has_for S k map m) (is_variable m.column)
    where
      go :
          ((x : ℕ) → n < x → x ≤ limit → Fits (seek S n x k map (suc j) ms)) → (t v : Bool) →
          Fits
          (pick t
          (pick v (keep n at [] (prefix_size m.column - 1) (prefix k map j))
          (body_of n at (width m.column) k map (suc j) (seek S n (at + width m.column) k map (suc j) ms)))
          (seek S n at k map (suc j) ms))
      go ih true true = (omega arith, omega arith, omega arith, omega (arith, prefix_few m.column), tt, (w, omega arith))
      go ih true false =
          fits_body n at (width m.column) k map (suc j) (seek S n (at + width m.column) k map (suc j) ms) (omega arith) l w (omega arith)
          (λ z. ih (at + width m.column) (omega arith) (omega arith))
      go ih false v = ih at a l

  columns_few : (k : Kind) → length (columns_for S k) ≤ 64
  columns_few parent_row = few 0
  columns_few (child_row id) = few (or0 (child_number S id))
  columns_few (change_row id) = few (or0 (child_number S id))

  fits_seek_from : (n at : ℕ) (k : Kind) (map : Bytes) (j : ℕ) → n < at → at ≤ limit → length map ≤ 16 → j ≤ 64 → Fits (seek_from S n at k map j)
  fits_seek_from n at k map j a l w i =
      fits_seek n at k map j (drop j (marks_for S k)) a l w
      (omega (arith, length-drop j (marks_for S k), marks_length (is_update k) (columns_for S k), columns_few k))

  fits_mapped :
      (n start : ℕ) (held : Bytes) (k : Kind) → n < start + length held → start + length held ≤ limit → length held ≤ 16 →
      Fits (settle (mapped S n start held k))
  unfolding mapped
  fits_mapped n start held k a l w =
      fits_after (from start (data_opened (is_update k) (columns_for S k) held 0)) _
      (λ _. fits_seek_from n (start + length held) k held 0 a l w (omega arith))

  fits_row : (n at : ℕ) (k : Kind) → n < at → at ≤ limit → Fits (settle (row_from S n at k))
  fits_row n at k a l = go (map_size S k) (maps_few (is_update k) (columns_for S k) (columns_few k))
    where
      go : (size : ℕ) → size ≤ 16 → Fits (settle (row_by S n at size k))
      go zero h = fits_mapped n at [] k (omega arith) (omega arith) (omega arith)
      go (suc more) h = (omega arith, omega arith, omega arith, omega arith, tt, tt)

  fits_tokened : (n at : ℕ) (before : Before) (t : Token) → n ≤ at → at < limit → Fits (settle (tokened S n at before t))
  unfolding tokened
  fits_tokened n at before done_token a l = (omega arith, omega arith)
  fits_tokened n at before parent_token a l = fits_row n (at + 1) parent_row (omega arith) (omega arith)
  fits_tokened n at before child_token a l = (omega arith, omega arith, omega arith, omega arith, refl, tt)
  fits_tokened n at before change_token a l = (omega arith, omega arith, omega arith, omega arith, refl, tt)
  fits_tokened n at before delete_token a l = (omega arith, omega arith, omega arith, omega arith, refl, tt)
  fits_tokened n at before unknown_token a l = tt

  fits_judged :
      (n start : ℕ) (held : Bytes) (g : Stage) → n < start + length held → start + length held ≤ limit → length held ≤ 16 → Small g →
      Fits (settle (judge S n start held g))
  unfolding judge measured
  fits_judged n start held (child_id at) a l w h =
      fits_after (from start (read_int held 0 4)) _
      (λ id. fits_after (known_child at (child_number S id)) _ (λ _. fits_row n (start + length held) (child_row id) a l))
  fits_judged n start held (change_id before at) a l w h =
      fits_after (from start (read_int held 0 4)) _
      (λ id.
      fits_after (check (follows before id) 11 at) _
      (λ _. fits_after (known_child at (child_number S id)) _ (λ _. fits_row n (start + length held) (change_row id) a l)))
  fits_judged n start held (delete_id before at) a l w h =
      fits_after (from start (read_int held 0 4)) _ (λ id. fits_after (check (follows before id) 11 at) _ (λ _. (omega arith, l)))
  fits_judged n start held (maps k) a l w h = fits_mapped n start held k a l w
  fits_judged n start held (prefix k map j) a l w (h, i) =
      fits_after (from start (read_int held 0 (prefix_size (column_for S k j)))) _
      (λ v.
      fits_after (allowed (length_error (column_for S k j) v) start) _
      (λ _.
      fits_body n (start + length held) v k map (suc j) (seek_from S n (start + length held + v) k map (suc j)) (omega arith) l h (omega arith)
      (λ z. fits_seek_from n (start + length held + v) k map (suc j) (omega arith) (omega arith) h (omega arith))))

  pub fits_byte : (st : State) (b : ℕ) → Fits st → total st < limit → Fits (byte S st b)
  unfolding byte
  fits_byte (between n at before) b (a, l) h = fits_tokened n at before (token_of b) a h
  fits_byte (keep n start held zero g) b (a, o, l, w, p, m) h =
      let z : length (held ++ (b ∷ [])) ≡ length held + 1 = length-append held (b ∷ []) in
      fits_judged n start (held ++ (b ∷ [])) g (omega arith) (omega arith) (omega arith) m
  fits_byte (keep n start held (suc more) g) b (a, o, l, w, p, m) h =
      let z : length (held ++ (b ∷ [])) ≡ length held + 1 = length-append held (b ∷ []) in
      (a, o, omega arith, omega arith, p, m)
  fits_byte (skip n at zero k map j) b (a, l, w, i) h = fits_seek_from n (at + 1) k map j (omega arith) (omega arith) w i
  fits_byte (skip n at (suc more) k map j) b (a, l, w, i) h = (omega arith, omega arith, w, i)
  fits_byte (finished n at) b f h = tt
  fits_byte (stopped c o i) b f h = tt

  fits_over : (st : State) → Fits (over st)
  fits_over (between n at before) = tt
  fits_over (keep n start held more g) = tt
  fits_over (skip n at more k map j) = tt
  fits_over (finished n at) = tt
  fits_over (stopped c o i) = tt

  fits_next : (st : State) (b : ℕ) → Fits st → Fits (next S st b)
  unfolding next
  fits_next st b f = go (ltb (total st) limit) refl
    where
      go : (t : Bool) → ltb (total st) limit ≡ t → Fits (pick t (byte S st b) (over st))
      go true e = fits_byte st b f (ltb-true _ _ e)
      go false e = fits_over st

  pub fits_taken : (st : State) → Fits st → (f : Bytes) → Fits (take_in S st f)
  unfolding take_in
  fits_taken st h [] = h
  fits_taken st h (b ∷ f) = fits_taken (next S st b) (fits_next st b h) f
