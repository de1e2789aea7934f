-- Reserved bits are ignored on reading: rows that differ only in bits which no column has look up alike.
-- Assumes nothing.
use Prim.Native.Nat.{ℕ, zero, suc, ◌+◌, ◌-◌, ◌≤◌, ◌<◌}
use mathlib.Core.List.{List, [], ◌∷◌}
use mathlib.Core.Bool.{Bool, true, false}
use mathlib.Core.Path.{◌≡◌, refl, sym, ap, ◌∙◌}
use native.Mathlib.Omega.{arith}
use lib.ListN.{length, get_or, drop}
use lib.Seq.{drop-drop}
use lib.Dec.{ltb}
use borrow.Author.Tests.{ltb-true, ltb-false}
use Rattle.wire.specs.Read.{Bytes, Read, ok, bad, ◌>>=◌, pick, whole}
use Rattle.wire.specs.Integers.{int_at, read_int}
use Rattle.wire.specs.Bits.{bit_set}
use Rattle.column.specs.declared.column.Column.{Column}
use Rattle.column.specs.Columns.{is_chapter, is_nullable}
use Rattle.column.specs.Fields.{bytes_at, variable_at, field_at}
use Rattle.walk.specs.Presence.{no_column, nullables, presence_bytes, Mark, no_mark, marks, bit_of, mark_of, present, chapter_present}
use Rattle.walk.specs.Rows.{Place, place, step, walk, arrive, opened, walked, row_end, field_of, column_of, look_up}
use Rattle.walk.proofs.Laws.{bit_nullable, bit_below, length_marks, mark_at, look_up_column}
use Rattle.walk.proofs.Found.{step_told, step_forward, walk_forward}
use Rattle.walk.proofs.Later.{clear_same}

-- Two rows that differ in reserved bits at most: as long, with the same bits of columns, and the same bytes behind the map.
pub record Alike (cs : List Column) (row other : Bytes) : Type 0 where
  pub long : length row ≡ length other
  pub bits : (b : ℕ) → b < nullables cs → bit_set row b ≡ bit_set other b
  pub rest : drop (presence_bytes cs) row ≡ drop (presence_bytes cs) other

-- a field depends on the row's length and on the bytes from its position on
pub field_rest :
    (c : Column) (row other : Bytes) (p : ℕ) → length row ≡ length other → drop p row ≡ drop p other → field_at c row p ≡ field_at c other p
unfolding field_at variable_at bytes_at read_int whole int_at
field_rest c row other p l d = rw (l, d) refl

-- Two inputs of one length that are the same from `base` on: a walk that starts behind it goes alike, where it reads the same columns.
module _ (row other : Bytes) (base : ℕ) (long : length row ≡ length other) (rest : drop base row ≡ drop base other) where
  rest_from : (p : ℕ) → base ≤ p → drop p row ≡ drop p other
  rest_from p h =
      let z : base + (p - base) ≡ p = omega arith in
      ap (λ (n : ℕ). drop n row) (sym z)
      ∙ sym (drop-drop (p - base) base row)
      ∙ ap (drop (p - base)) rest
      ∙ drop-drop (p - base) base other
      ∙ ap (λ (n : ℕ). drop n other) z

  module _ (has had : Mark → Bool) where
    step_alike : (m : Mark) (w : Place) → base ≤ w.at → has m ≡ had m → step has row m w ≡ step had other m w
    unfolding step
    step_alike m w h e = rw (e, field_rest m.column row other w.at long (rest_from w.at h)) refl

    pub walk_alike :
        (k : ℕ) (ms : List Mark) (w : Place) → base ≤ w.at → ((i : ℕ) → i < length ms → has (get_or ms i no_mark) ≡ had (get_or ms i no_mark)) →
        walk has row k ms w ≡ walk had other k ms w
    unfolding walk
    walk_alike zero ms w h e = refl
    walk_alike (suc k) [] w h e = refl
    walk_alike (suc k) (m ∷ ms) w h e =
        go (step has row m w) refl (λ v l. walk_alike k ms v l (λ i g. e (suc i) (omega arith)))
        ∙ ap (λ (r : Read Place). r >>= walk had other k ms) (step_alike m w h (e 0 (omega arith)))
      where
        go :
            (r : Read Place) → step has row m w ≡ r → ((v : Place) → base ≤ v.at → walk has row k ms v ≡ walk had other k ms v) →
            step has row m w >>= walk has row k ms ≡ step has row m w >>= walk had other k ms
        go (ok v) x f = rw x (f v (omega (arith, step_forward has row (step_told has row m w v x))))
        go (bad c o i) x f = rw x refl

    -- the field that such a walk comes to
    pub arrive_alike :
        (k : ℕ) (ms : List Mark) (w : Place) (c : Column) → base ≤ w.at → walk has row k ms w ≡ walk had other k ms w →
        walk has row k ms w >>= arrive c row ≡ walk had other k ms w >>= arrive c other
    unfolding arrive
    arrive_alike k ms w c h e = go (walk has row k ms w) refl
      where
        go : (r : Read Place) → walk has row k ms w ≡ r → walk has row k ms w >>= arrive c row ≡ walk had other k ms w >>= arrive c other
        go (ok v) x =
            let l = walk_forward has row k ms w v x in
            rw (← e) (rw (x, field_rest c row other v.at long (rest_from v.at (omega arith))) refl)
        go (bad c o i) x = rw (← e) (rw x refl)

module _ (cs : List Column) (row other : Bytes) (a : Alike cs row other) where
  own_bit : (i : ℕ) → i < length cs → is_nullable (get_or cs i no_column) ≡ true → bit_set row (bit_of cs i) ≡ bit_set other (bit_of cs i)
  own_bit i h n = a.bits (bit_of cs i) (omega (arith, bit_nullable cs i h n, bit_below cs (i + 1)))

  present_of : (i : ℕ) → i < length cs → present row (mark_of cs i) ≡ present other (mark_of cs i)
  unfolding present
  present_of i h = go (is_nullable (get_or cs i no_column)) refl
    where
      go :
          (n : Bool) → is_nullable (get_or cs i no_column) ≡ n →
          pick (is_chapter (get_or cs i no_column)) false (pick n (bit_set row (bit_of cs i)) true)
          ≡ pick (is_chapter (get_or cs i no_column)) false (pick n (bit_set other (bit_of cs i)) true)
      go true n = rw (own_bit i h n)
      go false n = refl

  chapter_of : (i : ℕ) → i < length cs → chapter_present row (mark_of cs i) ≡ chapter_present other (mark_of cs i)
  unfolding chapter_present
  chapter_of i h = go (is_nullable (get_or cs i no_column)) refl
    where
      go :
          (n : Bool) → is_nullable (get_or cs i no_column) ≡ n →
          pick (is_chapter (get_or cs i no_column)) (pick n (bit_set row (bit_of cs i)) false) false
          ≡ pick (is_chapter (get_or cs i no_column)) (pick n (bit_set other (bit_of cs i)) false) false
      go true n = rw (own_bit i h n)
      go false n = refl

  present_same : (i : ℕ) → i < length (marks 0 cs) → present row (get_or (marks 0 cs) i no_mark) ≡ present other (get_or (marks 0 cs) i no_mark)
  present_same i h = let g : i < length cs = omega (arith, length_marks 0 cs) in rw (mark_at cs i g) (present_of i g)

  chapter_same : (i : ℕ) → i < length (marks 0 cs) → chapter_present row (get_or (marks 0 cs) i no_mark) ≡ chapter_present other (get_or (marks 0 cs) i no_mark)
  chapter_same i h = let g : i < length cs = omega (arith, length_marks 0 cs) in rw (mark_at cs i g) (chapter_of i g)

  opened_alike : opened cs row 0 ≡ opened cs other 0
  unfolding opened whole
  opened_alike = rw (a.long, clear_same (chapter_present row) (chapter_present other) 12 0 (marks 0 cs) chapter_same) refl

  walked_alike : (k : ℕ) → walked cs row 0 k ≡ walked cs other 0 k
  unfolding walked
  walked_alike k = walk_alike row other (presence_bytes cs) a.long a.rest (present row) (present other) k (marks 0 cs) (place (0 + presence_bytes cs) 0) (omega arith) present_same

  -- the end of the row
  pub reserved_end : row_end cs row 0 ≡ row_end cs other 0
  unfolding row_end
  reserved_end = rw (opened_alike, walked_alike (length cs)) refl

  field_alike : (k : ℕ) → field_of cs row k ≡ field_of cs other k
  unfolding field_of walked
  field_alike k =
      arrive_alike row other (presence_bytes cs) a.long a.rest (present row) (present other) k (marks 0 cs) (place (0 + presence_bytes cs) 0)
      (get_or cs k no_column) (omega arith) (walked_alike k)

  look_alike : (k : ℕ) → k < length cs → look_up cs row k ≡ look_up cs other k
  unfolding look_up column_of
  look_alike k h = rw (opened_alike, present_of k h, field_alike k) refl

  -- and every look-up
  pub reserved_look_up : (k : ℕ) → look_up cs row k ≡ look_up cs other k
  reserved_look_up k = by (ltb k (length cs)) refl
    where
      by : (t : Bool) → ltb k (length cs) ≡ t → look_up cs row k ≡ look_up cs other k
      by true t = look_alike k (ltb-true _ _ t)
      by false t = look_up_column cs row k (ltb-false _ _ t) ∙ sym (look_up_column cs other k (ltb-false _ _ t))
