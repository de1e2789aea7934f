-- Laws of presence, of the walk and of look-up. The functions' proofs and the layers above cite these.
-- Assumes nothing.
use Prim.Native.Nat.{ℕ, zero, suc, ◌+◌, ◌*◌, ◌/◌, ◌≤◌, ◌<◌, min}
use mathlib.Core.List.{List, [], ◌∷◌, map}
use mathlib.Core.Bool.{Bool, true, false}
use mathlib.Core.Path.{◌≡◌, refl, ap, ◌∙◌}
use native.Mathlib.Numerals.{add-one}
use native.Mathlib.Omega.{arith}
use lib.ListN.{length, get_or, take, drop, drop_of_length-le}
use lib.Seq.{drop-cons, take-length}
use lib.Dec.{ltb}
use native.Mathlib.Decide.{le_ind}
use borrow.Author.Tests.{ltb-true, ltb-false, lt-ltb, le-ltb}
use Rattle.wire.specs.declared.error.Input.{Input}
use Rattle.wire.specs.declared.error.Input.TheVariants as input
use Rattle.wire.specs.Read.{Bytes, Read, ok, bad, ◌>>=◌, pick, check, about, limit}
use Rattle.wire.specs.Bits.{bit_set, map_bytes}
use Rattle.wire.proofs.Laws.{whole_fits, whole_short, sized_over, sized_within}
use Rattle.column.specs.declared.column.Column.{Column}
use Rattle.column.specs.declared.field.Field.{Field}
use Rattle.column.specs.Columns.{is_chapter, is_nullable}
use Rattle.column.specs.Fields.{field_at}
use Rattle.column.specs.Layout.{padded, most_columns, filled, layout}
use Rattle.walk.specs.Presence.{no_column, one, nullables, presence_bytes, Mark, mark, no_mark, marks, bit_of, mark_of, present, chapter_present, clear}
use Rattle.walk.specs.Rows.{Place, place, past, step, walk, arrive, opened, walked, row_end, field, null, chapter, field_of, column_of, known, look_up, look_up_row, always, set_bits, field_count}

-- one reader after another that ends in an error
pub bind_bad : {A B : Type 0} {r : Read A} (g : A → Read B) {e o : ℕ} {i : Input} → r ≡ bad e o i → r >>= g ≡ bad e o i
bind_bad g h = rw h

pub bind_of : {A B : Type 0} {r : Read A} (g : A → Read B) {a : A} → r ≡ ok a → r >>= g ≡ g a
bind_of g h = rw h

-- The bits of columns, counted along a loop.

pub bit_zero : (cs : List Column) → bit_of cs 0 ≡ 0
unfolding bit_of nullables
bit_zero cs = refl

bit_suc : (cs : List Column) (i : ℕ) → i < length cs → bit_of cs (suc i) ≡ bit_of cs i + one (is_nullable (get_or cs i no_column))
unfolding bit_of nullables
bit_suc [] i h = absurd (omega arith)
bit_suc (c ∷ cs) zero h = omega arith
bit_suc (c ∷ cs) (suc i) h = omega (arith, bit_suc cs i (omega arith))

pub bit_next : (cs : List Column) (i : ℕ) → i < length cs → bit_of cs (i + 1) ≡ bit_of cs i + one (is_nullable (get_or cs i no_column))
bit_next cs i h = rw (add-one i) (bit_suc cs i h)

pub bit_nullable : (cs : List Column) (i : ℕ) → i < length cs → is_nullable (get_or cs i no_column) ≡ true → bit_of cs (i + 1) ≡ bit_of cs i + 1
bit_nullable cs i h e = rw (add-one i) (bit_suc cs i h ∙ rw e)

-- behind the last column: all nullable columns
pub bit_all : (cs : List Column) → bit_of cs (length cs) ≡ nullables cs
unfolding bit_of nullables
bit_all [] = refl
bit_all (c ∷ cs) = ap (λ (n : ℕ). one (is_nullable c) + n) (bit_all cs)

-- bits only grow
pub bit_below : (cs : List Column) (i : ℕ) → bit_of cs i ≤ nullables cs
unfolding bit_of nullables
bit_below cs zero = omega arith
bit_below [] (suc i) = omega arith
bit_below (c ∷ cs) (suc i) = omega (arith, bit_below cs i)

pub one_most : (b : Bool) → one b ≤ 1
one_most true = omega arith
one_most false = omega arith

-- at most one a column
pub bit_few : (cs : List Column) (i : ℕ) → bit_of cs i ≤ i
unfolding bit_of nullables
bit_few cs zero = omega arith
bit_few [] (suc i) = omega arith
bit_few (c ∷ cs) (suc i) = omega (arith, bit_few cs i, one_most (is_nullable c))

-- The mark of a column.

pub length_marks : (b : ℕ) (cs : List Column) → length (marks b cs) ≡ length cs
unfolding marks
length_marks b [] = refl
length_marks b (c ∷ cs) = ap suc (length_marks (b + one (is_nullable c)) cs)

marks_at : (b : ℕ) (cs : List Column) (i : ℕ) → i < length cs → get_or (marks b cs) i no_mark ≡ mark (get_or cs i no_column) (b + bit_of cs i)
unfolding marks bit_of nullables
marks_at b [] i h = absurd (omega arith)
marks_at b (c ∷ cs) zero h = let z : b ≡ b + 0 = omega arith in ap (mark c) z
marks_at b (c ∷ cs) (suc i) h =
    let z : b + one (is_nullable c) + bit_of cs i ≡ b + (one (is_nullable c) + bit_of cs i) = omega arith in
    marks_at (b + one (is_nullable c)) cs i (omega arith) ∙ ap (mark (get_or cs i no_column)) z

-- column i with its bit
pub mark_at : (cs : List Column) (i : ℕ) → i < length cs → get_or (marks 0 cs) i no_mark ≡ mark_of cs i
mark_at cs i h = marks_at 0 cs i h ∙ (let z : 0 + bit_of cs i ≡ bit_of cs i = omega arith in ap (mark (get_or cs i no_column)) z)

-- Presence of a column, by its kind.

module _ (map : Bytes) (c : Column) (b : ℕ) where
  pub present_chapter : is_chapter c ≡ true → present map (mark c b) ≡ false
  unfolding present
  present_chapter e = rw e

  pub present_bit : is_chapter c ≡ false → is_nullable c ≡ true → present map (mark c b) ≡ bit_set map b
  unfolding present
  present_bit e n = rw (e, n)

  pub present_always : is_chapter c ≡ false → is_nullable c ≡ false → present map (mark c b) ≡ true
  unfolding present
  present_always e n = rw (e, n)

  pub chapter_bit : is_chapter c ≡ true → is_nullable c ≡ true → chapter_present map (mark c b) ≡ bit_set map b
  unfolding chapter_present
  chapter_bit e n = rw (e, n)

  pub chapter_plain : is_nullable c ≡ false → chapter_present map (mark c b) ≡ false
  unfolding chapter_present
  chapter_plain n = go (is_chapter c) refl
    where
      go : (t : Bool) → is_chapter c ≡ t → pick t (pick (is_nullable c) (bit_set map b) false) false ≡ false
      go true e = rw n
      go false e = refl

  pub chapter_none : is_chapter c ≡ false → chapter_present map (mark c b) ≡ false
  unfolding chapter_present
  chapter_none e = rw e

-- A rule over the marks, checked one by one: those before i keep it.

module _ (broken : Mark → Bool) (code at : ℕ) (ms : List Mark) (i : ℕ) where
  pub clear_end : length ms ≤ i → clear broken code at (drop i ms) ≡ ok tt
  unfolding clear
  clear_end h = simp (drop_of_length-le ms h)

  module _ (h : i < length ms) where
    pub clear_found : broken (get_or ms i no_mark) ≡ true → clear broken code at (drop i ms) ≡ bad code (at + (get_or ms i no_mark).bit / 8) input.Single
    unfolding clear check
    clear_found e = simp (drop-cons ms i no_mark h, e)

    pub clear_next : broken (get_or ms i no_mark) ≡ false → clear broken code at (drop i ms) ≡ clear broken code at (drop (i + 1) ms)
    unfolding clear check
    clear_next e = simp (drop-cons ms i no_mark h, e, add-one i)

-- One column of a walk.

module _ (has : Mark → Bool) (row : Bytes) (m : Mark) (w : Place) where
  pub step_absent : has m ≡ false → step has row m w ≡ ok w
  unfolding step
  step_absent e = rw e

  pub step_field : (f : Field) → has m ≡ true → field_at m.column row w.at ≡ ok f → step has row m w ≡ ok (past w f)
  unfolding step
  step_field f e h = rw (e, h)

  pub step_refused : {e o : ℕ} {i : Input} → has m ≡ true → field_at m.column row w.at ≡ bad e o i → step has row m w ≡ bad e o i
  unfolding step
  step_refused e h = rw (e, h)

-- The walk, one column further.

module _ (has : Mark → Bool) (row : Bytes) where
  walk_long : (i : ℕ) (ms : List Mark) (w : Place) → length ms ≤ i → walk has row (suc i) ms w ≡ walk has row i ms w
  unfolding walk
  walk_long zero [] w h = refl
  walk_long (suc i) [] w h = refl
  walk_long zero (m ∷ ms) w h = absurd (omega arith)
  walk_long (suc i) (m ∷ ms) w h = go (step has row m w) (λ v. walk_long i ms v (omega arith))
    where
      go :
          (r : Read Place) → ((v : Place) → walk has row (suc i) ms v ≡ walk has row i ms v) → r >>= walk has row (suc i) ms ≡ r >>= walk has row i ms
      go (ok v) f = f v
      go (bad e o i) f = refl

  walk_suc : (i : ℕ) (ms : List Mark) (w : Place) → i < length ms → walk has row (suc i) ms w ≡ walk has row i ms w >>= step has row (get_or ms i no_mark)
  unfolding walk
  walk_suc i [] w h = absurd (omega arith)
  walk_suc zero (m ∷ ms) w h = go (step has row m w)
    where
      go : (r : Read Place) → r >>= (λ v. ok v) ≡ r
      go (ok v) = refl
      go (bad e o i) = refl
  walk_suc (suc i) (m ∷ ms) w h = go (step has row m w) (λ v. walk_suc i ms v (omega arith))
    where
      go :
          (r : Read Place) → ((v : Place) → walk has row (suc i) ms v ≡ walk has row i ms v >>= step has row (get_or ms i no_mark)) →
          r >>= walk has row (suc i) ms ≡ (r >>= walk has row i ms) >>= step has row (get_or ms i no_mark)
      go (ok v) f = f v
      go (bad e o i) f = refl

  pub walk_zero : (ms : List Mark) (w : Place) → walk has row 0 ms w ≡ ok w
  unfolding walk
  walk_zero ms w = refl

  pub walk_next :
      (i : ℕ) (ms : List Mark) (w : Place) {v : Place} → i < length ms → walk has row i ms w ≡ ok v →
      walk has row (i + 1) ms w ≡ step has row (get_or ms i no_mark) v
  walk_next i ms w h e = rw (add-one i) (walk_suc i ms w h ∙ bind_of _ e)

  walk_bad : (i : ℕ) (ms : List Mark) (w : Place) {e o : ℕ} {x : Input} → walk has row i ms w ≡ bad e o x → walk has row (suc i) ms w ≡ bad e o x
  walk_bad i ms w {e} {o} {x} h = go (ltb i (length ms)) refl
    where
      go : (t : Bool) → ltb i (length ms) ≡ t → walk has row (suc i) ms w ≡ bad e o x
      go true l = walk_suc i ms w (ltb-true _ _ l) ∙ bind_bad _ h
      go false l = walk_long i ms w (ltb-false _ _ l) ∙ h

  -- an error stays
  pub walk_ended : (i k : ℕ) (ms : List Mark) (w : Place) {e o : ℕ} {x : Input} → i ≤ k → walk has row i ms w ≡ bad e o x → walk has row k ms w ≡ bad e o x
  walk_ended i k ms w {e} {o} {x} l h =
      le_ind (λ (k : ℕ). walk has row k ms w ≡ bad e o x) h (λ (k : ℕ) (_ : i ≤ k) (r : walk has row k ms w ≡ bad e o x). walk_bad k ms w r) k l

  -- the walk ends with the columns
  walk_all : (k : ℕ) (ms : List Mark) (w : Place) → length ms ≤ k → walk has row k ms w ≡ walk has row (length ms) ms w
  walk_all k ms w l =
      le_ind (λ (k : ℕ). walk has row k ms w ≡ walk has row (length ms) ms w) refl
      (λ (k : ℕ) (h : length ms ≤ k) (r : walk has row k ms w ≡ walk has row (length ms) ms w). walk_long k ms w h ∙ r) k l

  pub walk_least : (k : ℕ) (ms : List Mark) (w : Place) → walk has row k ms w ≡ walk has row (min (length ms) k) ms w
  walk_least k ms w = go (ltb (length ms) k) refl
    where
      go : (t : Bool) → ltb (length ms) k ≡ t → walk has row k ms w ≡ walk has row (min (length ms) k) ms w
      go true t =
          let h = ltb-true (length ms) k t in
          let e : length ms ≡ min (length ms) k = omega (arith, h) in
          walk_all k ms w (omega (arith, h)) ∙ ap (λ (j : ℕ). walk has row j ms w) e
      go false t =
          let h = ltb-false (length ms) k t in
          let e : k ≡ min (length ms) k = omega (arith, h) in
          ap (λ (j : ℕ). walk has row j ms w) e

  -- the walk over columns, by their numbers
  pub columns_next :
      (cs : List Column) (i : ℕ) (w : Place) {v : Place} → i < length cs → walk has row i (marks 0 cs) w ≡ ok v →
      walk has row (i + 1) (marks 0 cs) w ≡ step has row (mark_of cs i) v
  columns_next cs i w {v} h e =
      walk_next i (marks 0 cs) w (omega (arith, length_marks 0 cs)) e ∙ ap (λ (m : Mark). step has row m v) (mark_at cs i h)

-- the walk of a row at `at` past a field
pub walked_field :
    (cs : List Column) (row : Bytes) (at i p n : ℕ) → i < length cs → walked cs row at i ≡ ok (place p n) → present (drop at row) (mark_of cs i) ≡ true →
    (f : Field) → field_at (get_or cs i no_column) row p ≡ ok f → walked cs row at (i + 1) ≡ ok (place f.end (n + f.prefixes))
unfolding walked
walked_field cs row at i p n h e t f g = columns_next (present (drop at row)) row cs i _ h e ∙ step_field _ _ (mark_of cs i) _ f t g

-- A row opens, or not.

module _ (cs : List Column) (row : Bytes) (at : ℕ) where
  pub opened_short : length row < at + presence_bytes cs → opened cs row at ≡ bad 1 (length row) input.Single
  unfolding opened
  opened_short h = simp (whole_short row at (presence_bytes cs) h)

  module _ (h : at + presence_bytes cs ≤ length row) where
    pub opened_bad :
        {e o : ℕ} {i : Input} → clear (chapter_present (drop at row)) 12 at (marks 0 cs) ≡ bad e o i → opened cs row at ≡ bad e o i
    unfolding opened
    opened_bad c = simp (whole_fits row at (presence_bytes cs) h, c)

    pub opened_well : clear (chapter_present (drop at row)) 12 at (marks 0 cs) ≡ ok tt → opened cs row at ≡ ok (at + presence_bytes cs)
    unfolding opened
    opened_well c = simp (whole_fits row at (presence_bytes cs) h, c)

-- The chapters' bits of a row at `at`: those of the columns before i are not set.

module _ (cs : List Column) (row : Bytes) (at i : ℕ) where
  pub bits_end : length cs ≤ i → clear (chapter_present (drop at row)) 12 at (drop i (marks 0 cs)) ≡ ok tt
  bits_end h = clear_end _ _ _ (marks 0 cs) i (omega (arith, length_marks 0 cs))

  module _ (h : i < length cs) where
    pub bits_found :
        chapter_present (drop at row) (mark_of cs i) ≡ true →
        clear (chapter_present (drop at row)) 12 at (drop i (marks 0 cs)) ≡ bad 12 (at + bit_of cs i / 8) input.Single
    bits_found e =
        clear_found _ 12 at (marks 0 cs) i (omega (arith, length_marks 0 cs)) (ap (chapter_present (drop at row)) (mark_at cs i h) ∙ e)
        ∙ ap (λ (m : Mark). bad 12 (at + m.bit / 8) input.Single) (mark_at cs i h)

    pub bits_next :
        chapter_present (drop at row) (mark_of cs i) ≡ false →
        clear (chapter_present (drop at row)) 12 at (drop i (marks 0 cs)) ≡ clear (chapter_present (drop at row)) 12 at (drop (i + 1) (marks 0 cs))
    bits_next e = clear_next _ 12 at (marks 0 cs) i (omega (arith, length_marks 0 cs)) (ap (chapter_present (drop at row)) (mark_at cs i h) ∙ e)

-- The ways out of the end of a row.

module _ (cs : List Column) (row : Bytes) (at : ℕ) where
  pub end_closed : {e o : ℕ} {i : Input} → opened cs row at ≡ bad e o i → row_end cs row at ≡ bad e o i
  unfolding row_end
  end_closed h = simp h

  module _ (s : ℕ) (h : opened cs row at ≡ ok s) where
    pub end_refused : {e o : ℕ} {i : Input} → walked cs row at (length cs) ≡ bad e o i → row_end cs row at ≡ bad e o i
    unfolding row_end
    end_refused g = simp (h, g)

    pub end_reached : (p n : ℕ) → walked cs row at (length cs) ≡ ok (place p n) → row_end cs row at ≡ ok p
    unfolding row_end
    end_reached p n g = simp (h, g)

-- The ways out of a look-up, in the order of its checks.

module _ (cs : List Column) (k : ℕ) where
  pub known_not : length cs ≤ k → known cs k ≡ bad 18 0 input.Column
  unfolding known about check
  known_not h = simp (le-ltb k (length cs) h)

  pub known_well : k < length cs → known cs k ≡ ok tt
  unfolding known about check
  known_well h = simp (lt-ltb k (length cs) h)

module _ (cs : List Column) (row : Bytes) (k : ℕ) where
  pub look_up_column : length cs ≤ k → look_up cs row k ≡ bad 18 0 input.Column
  unfolding look_up
  look_up_column h = simp (known_not cs k h)

  module _ (h : k < length cs) where
    pub look_up_closed : {e o : ℕ} {i : Input} → opened cs row 0 ≡ bad e o i → look_up cs row k ≡ bad e o input.Row
    unfolding look_up about
    look_up_closed g = simp (known_well cs k h, g)

    module _ (s : ℕ) (g : opened cs row 0 ≡ ok s) where
      -- a row that opens is asked for its column
      pub look_up_open : look_up cs row k ≡ about input.Row (column_of cs row k)
      unfolding look_up about
      look_up_open = simp (known_well cs k h, g)

      pub look_up_chapter : is_chapter (get_or cs k no_column) ≡ true → look_up cs row k ≡ ok chapter
      unfolding column_of about
      look_up_chapter c = look_up_open ∙ simp c

      module _ (c : is_chapter (get_or cs k no_column) ≡ false) where
        pub look_up_null : present row (mark_of cs k) ≡ false → look_up cs row k ≡ ok null
        unfolding column_of about
        look_up_null t = look_up_open ∙ simp (c, t)

        module _ (t : present row (mark_of cs k) ≡ true) where
          -- the walk to the column ends in an error
          pub look_up_refused : {e o : ℕ} {i : Input} → walked cs row 0 k ≡ bad e o i → look_up cs row k ≡ bad e o input.Row
          unfolding column_of field_of about
          look_up_refused x = look_up_open ∙ simp (c, t, x)

          module _ (p n : ℕ) (x : walked cs row 0 k ≡ ok (place p n)) where
            -- so does its field
            pub look_up_bad : {e o : ℕ} {i : Input} → field_at (get_or cs k no_column) row p ≡ bad e o i → look_up cs row k ≡ bad e o input.Row
            unfolding column_of field_of arrive about
            look_up_bad y = look_up_open ∙ simp (c, t, x, y)

            -- its field is found
            pub look_up_found :
                (f : Field) → field_at (get_or cs k no_column) row p ≡ ok f →
                look_up cs row k ≡ ok (field (record { start = f.start; end = f.end; prefixes = n + f.prefixes }))
            unfolding column_of field_of arrive about
            look_up_found f y = look_up_open ∙ simp (c, t, x, y)

  pub look_up_large : limit < length row → look_up_row cs row k ≡ bad 19 0 input.Row
  unfolding look_up_row about
  look_up_large h = simp (sized_over row h)

  pub look_up_sized : length row ≤ limit → look_up_row cs row k ≡ look_up cs row k
  unfolding look_up_row about
  look_up_sized h = simp (sized_within row h)

-- The ways out of the number of fields.

module _ (cs : List Column) (row : Bytes) where
  pub count_large : limit < length row → field_count cs row ≡ bad 19 0 input.Row
  unfolding field_count about
  count_large h = simp (sized_over row h)

  module _ (h : length row ≤ limit) where
    pub count_closed : {e o : ℕ} {i : Input} → opened cs row 0 ≡ bad e o i → field_count cs row ≡ bad e o input.Row
    unfolding field_count about
    count_closed g = simp (sized_within row h, g)

    pub count_well : (s : ℕ) → opened cs row 0 ≡ ok s → field_count cs row ≡ ok (always cs + set_bits row (nullables cs))
    unfolding field_count about
    count_well s g = simp (sized_within row h, g)

-- A map has a bit for each of n, and no more bytes than that.

pub map_bits_lem : (n : ℕ) → n ≤ 8 * map_bytes n
unfolding map_bytes
map_bits_lem n = omega arith

pub map_few : (n : ℕ) → map_bytes n ≤ n
unfolding map_bytes
map_few n = omega arith

-- Columns that are always present, and set bits, counted along a loop.

pub always_zero : (cs : List Column) → always (take 0 cs) ≡ 0
unfolding always
always_zero cs = refl

always_suc :
    (cs : List Column) (i : ℕ) → i < length cs →
    always (take (suc i) cs) ≡ always (take i cs) + pick (is_chapter (get_or cs i no_column)) 0 (pick (is_nullable (get_or cs i no_column)) 0 1)
unfolding always
always_suc [] i h = absurd (omega arith)
always_suc (c ∷ cs) zero h = omega arith
always_suc (c ∷ cs) (suc i) h = omega (arith, always_suc cs i (omega arith))

-- one column more, by what is counted for it
pub always_one :
    (cs : List Column) (i : ℕ) → i < length cs → {o : ℕ} → pick (is_chapter (get_or cs i no_column)) 0 (pick (is_nullable (get_or cs i no_column)) 0 1) ≡ o →
    always (take (i + 1) cs) ≡ always (take i cs) + o
always_one cs i h e = rw (add-one i) (always_suc cs i h ∙ ap (λ (o : ℕ). always (take i cs) + o) e)

-- no more than there are columns
pub always_few : (cs : List Column) (i : ℕ) → always (take i cs) ≤ i
unfolding always
always_few cs zero = omega arith
always_few [] (suc i) = omega arith
always_few (c ∷ cs) (suc i) = omega (arith, always_few cs i, most (is_chapter c) (is_nullable c))
  where
    most : (k n : Bool) → pick k 0 (pick n 0 1) ≤ 1
    most true n = omega arith
    most false true = omega arith
    most false false = omega arith

pub always_end : (cs : List Column) → always (take (length cs) cs) ≡ always cs
always_end cs = ap always (take-length cs)

pub set_zero : (map : Bytes) → set_bits map 0 ≡ 0
unfolding set_bits
set_zero map = refl

pub set_next : (map : Bytes) (n : ℕ) → set_bits map (n + 1) ≡ set_bits map n + one (bit_set map n)
unfolding set_bits
set_next map n = rw (add-one n)

-- Numbers with zeros behind.

pub padded_at : (n : ℕ) (l : List ℕ) (i : ℕ) → i < n → get_or (padded n l) i 0 ≡ get_or l i 0
unfolding padded
padded_at zero l i h = absurd (omega arith)
padded_at (suc n) [] zero h = refl
padded_at (suc n) [] (suc i) h = padded_at n [] i (omega arith)
padded_at (suc n) (a ∷ l) zero h = refl
padded_at (suc n) (a ∷ l) (suc i) h = padded_at n l i (omega arith)

-- Columns by value.

filled_at : (n : ℕ) (cs : List Column) (i : ℕ) → i < n → get_or (filled n cs) i no_column ≡ get_or cs i no_column
unfolding filled
filled_at zero cs i h = absurd (omega arith)
filled_at (suc n) [] zero h = refl
filled_at (suc n) [] (suc i) h = filled_at n [] i (omega arith)
filled_at (suc n) (c ∷ cs) zero h = refl
filled_at (suc n) (c ∷ cs) (suc i) h = filled_at n cs i (omega arith)

pub layout_count : (cs : List Column) → (layout cs).count ≡ length cs
unfolding layout
layout_count cs = refl

-- column i, from the array
pub layout_column : (cs : List Column) (i : ℕ) → i < most_columns → get_or (layout cs).columns i no_column ≡ get_or cs i no_column
unfolding layout
layout_column cs i h = filled_at most_columns cs i h
