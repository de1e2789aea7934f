-- Laws of update data and of the current value, for the functions' proofs and the layers above.
-- Assumes nothing.
use Prim.Native.Nat.{ℕ, zero, suc, ◌+◌, ◌*◌, ◌/◌, ◌≤◌, ◌<◌}
use mathlib.Core.List.{List, [], ◌∷◌}
use mathlib.Core.Bool.{Bool, true, false}
use mathlib.Core.Path.{◌≡◌, refl, ap, ◌∙◌}
use native.Mathlib.Omega.{arith}
use lib.ListN.{length, get_or, drop}
use Rattle.wire.specs.declared.error.Input.{Input}
use Rattle.wire.specs.declared.error.Input.TheVariants as input
use Rattle.wire.specs.Read.{Bytes, Read, ok, bad, pick, about, limit}
use Rattle.wire.specs.Bits.{bit_set, map_bytes}
use Rattle.wire.proofs.Laws.{whole_fits, whole_short, sized_over, sized_within}
use Rattle.column.specs.declared.column.Column.{Column}
use Rattle.column.specs.declared.field.Field.{Field}
use Rattle.column.specs.Columns.{is_chapter, is_nullable}
use Rattle.column.specs.Fields.{field_at}
use Rattle.walk.specs.Presence.{no_column, Mark, mark, no_mark, clear}
use Rattle.walk.specs.Rows.{Place, place, step, walk, arrive, Answer, look_up}
use Rattle.walk.specs.Updates.{numbered, update_bytes, chapter_marked, force_broken, carried, carried_in, update_opened, update_walked, update_end, field, null, unchanged, chapter, update_field, update_column, look_update, look_update_row, updated, forced, original, from_row, current_by, current, current_row}
use Rattle.walk.proofs.Laws.{clear_end, clear_found, clear_next, step_field, walk_next, known_not, known_well}

-- The mark of a column: its bit is its number.

pub length_numbered : (i : ℕ) (cs : List Column) → length (numbered i cs) ≡ length cs
unfolding numbered
length_numbered i [] = refl
length_numbered i (c ∷ cs) = ap suc (length_numbered (suc i) cs)

numbered_at : (j : ℕ) (cs : List Column) (i : ℕ) → i < length cs → get_or (numbered j cs) i no_mark ≡ mark (get_or cs i no_column) (j + i)
unfolding numbered
numbered_at j [] i h = absurd (omega arith)
numbered_at j (c ∷ cs) zero h = let z : j ≡ j + 0 = omega arith in ap (mark c) z
numbered_at j (c ∷ cs) (suc i) h =
    let z : suc j + i ≡ j + suc i = omega arith in
    numbered_at (suc j) cs i (omega arith) ∙ ap (mark (get_or cs i no_column)) z

pub number_at_lem : (cs : List Column) (i : ℕ) → i < length cs → get_or (numbered 0 cs) i no_mark ≡ mark (get_or cs i no_column) i
number_at_lem cs i h = numbered_at 0 cs i h ∙ (let z : 0 + i ≡ i = omega arith in ap (mark (get_or cs i no_column)) z)

-- The rules of one column.

module _ (map : Bytes) (c : Column) (i : ℕ) where
  pub marked_chapter : is_chapter c ≡ true → chapter_marked map (mark c i) ≡ bit_set map i
  unfolding chapter_marked
  marked_chapter e = rw e

  pub marked_none : is_chapter c ≡ false → chapter_marked map (mark c i) ≡ false
  unfolding chapter_marked
  marked_none e = rw e

module _ (update force : Bytes) (c : Column) (i : ℕ) where
  pub force_not : bit_set force i ≡ false → force_broken update force (mark c i) ≡ false
  unfolding force_broken
  force_not f = rw f

  pub force_alone : bit_set force i ≡ true → bit_set update i ≡ false → force_broken update force (mark c i) ≡ true
  unfolding force_broken
  force_alone f u = rw (f, u)

  pub force_plain : bit_set force i ≡ true → is_nullable c ≡ false → force_broken update force (mark c i) ≡ true
  unfolding force_broken
  force_plain f n = rw (f, n) (go (bit_set update i))
    where
      go : (u : Bool) → pick u true true ≡ true
      go true = refl
      go false = refl

  pub force_well : bit_set update i ≡ true → is_nullable c ≡ true → force_broken update force (mark c i) ≡ false
  unfolding force_broken
  force_well u n = rw (u, n) (go (bit_set force i))
    where
      go : (f : Bool) → pick f false false ≡ false
      go true = refl
      go false = refl

  pub carried_not : bit_set update i ≡ false → carried update force (mark c i) ≡ false
  unfolding carried
  carried_not u = rw u

  pub carried_forced : bit_set force i ≡ true → carried update force (mark c i) ≡ false
  unfolding carried
  carried_forced f = rw f (go (bit_set update i))
    where
      go : (u : Bool) → pick u false false ≡ false
      go true = refl
      go false = refl

  pub carried_field : bit_set update i ≡ true → bit_set force i ≡ false → carried update force (mark c i) ≡ true
  unfolding carried
  carried_field u f = rw (u, f)

pub carried_in_lem : (cs : List Column) (row : Bytes) (at : ℕ) (m : Mark) → carried_in cs row at m ≡ carried (drop at row) (drop (at + update_bytes cs) row) m
unfolding carried_in
carried_in_lem cs row at m = refl

-- A rule over the columns, checked one by one: those before i keep it.

module _ (cs : List Column) (broken : Mark → Bool) (code at i : ℕ) where
  pub rule_end : length cs ≤ i → clear broken code at (drop i (numbered 0 cs)) ≡ ok tt
  rule_end h = clear_end broken code at (numbered 0 cs) i (omega (arith, length_numbered 0 cs))

  module _ (h : i < length cs) where
    pub rule_found : broken (mark (get_or cs i no_column) i) ≡ true → clear broken code at (drop i (numbered 0 cs)) ≡ bad code (at + i / 8) input.Single
    rule_found e =
        clear_found broken code at (numbered 0 cs) i (omega (arith, length_numbered 0 cs)) (ap broken (number_at_lem cs i h) ∙ e)
        ∙ ap (λ (m : Mark). bad code (at + m.bit / 8) input.Single) (number_at_lem cs i h)

    pub rule_next :
        broken (mark (get_or cs i no_column) i) ≡ false → clear broken code at (drop i (numbered 0 cs)) ≡ clear broken code at (drop (i + 1) (numbered 0 cs))
    rule_next e = clear_next broken code at (numbered 0 cs) i (omega (arith, length_numbered 0 cs)) (ap broken (number_at_lem cs i h) ∙ e)

-- the byte of bit i lies in a map of n bits
pub map_byte : (n i : ℕ) → i < n → i / 8 < map_bytes n
unfolding map_bytes
map_byte n i h = omega (arith, h)

-- Update data open, or not.

module _ (cs : List Column) (row : Bytes) (at : ℕ) where
  pub update_short : length row < at + 2 * update_bytes cs → update_opened cs row at ≡ bad 1 (length row) input.Single
  unfolding update_opened
  update_short h = simp (whole_short row at (2 * update_bytes cs) h)

  module _ (h : at + 2 * update_bytes cs ≤ length row) where
    pub update_chapter :
        {e o : ℕ} {i : Input} → clear (chapter_marked (drop at row)) 12 at (numbered 0 cs) ≡ bad e o i → update_opened cs row at ≡ bad e o i
    unfolding update_opened
    update_chapter c = simp (whole_fits row at (2 * update_bytes cs) h, c)

    module _ (u : clear (chapter_marked (drop at row)) 12 at (numbered 0 cs) ≡ ok tt) where
      pub force_chapter :
          {e o : ℕ} {i : Input} → clear (chapter_marked (drop (at + update_bytes cs) row)) 12 (at + update_bytes cs) (numbered 0 cs) ≡ bad e o i →
          update_opened cs row at ≡ bad e o i
      unfolding update_opened
      force_chapter c = simp (whole_fits row at (2 * update_bytes cs) h, u, c)

      module _ (f : clear (chapter_marked (drop (at + update_bytes cs) row)) 12 (at + update_bytes cs) (numbered 0 cs) ≡ ok tt) where
        pub force_rule :
            {e o : ℕ} {i : Input} →
            clear (force_broken (drop at row) (drop (at + update_bytes cs) row)) 13 (at + update_bytes cs) (numbered 0 cs) ≡ bad e o i →
            update_opened cs row at ≡ bad e o i
        unfolding update_opened
        force_rule c = simp (whole_fits row at (2 * update_bytes cs) h, u, f, c)

        pub update_well :
            clear (force_broken (drop at row) (drop (at + update_bytes cs) row)) 13 (at + update_bytes cs) (numbered 0 cs) ≡ ok tt →
            update_opened cs row at ≡ ok (at + 2 * update_bytes cs)
        unfolding update_opened
        update_well c = simp (whole_fits row at (2 * update_bytes cs) h, u, f, c)

-- A walk over numbered columns, one column further.
pub numbers_next :
    (has : Mark → Bool) (row : Bytes) (cs : List Column) (i : ℕ) (w : Place) {v : Place} → i < length cs → walk has row i (numbered 0 cs) w ≡ ok v →
    walk has row (i + 1) (numbered 0 cs) w ≡ step has row (mark (get_or cs i no_column) i) v
numbers_next has row cs i w {v} h e =
    walk_next has row i (numbered 0 cs) w (omega (arith, length_numbered 0 cs)) e ∙ ap (λ (m : Mark). step has row m v) (number_at_lem cs i h)

-- the walk of update data, by where the force-null map and the fields start
pub update_walked_from :
    (cs : List Column) (row : Bytes) (at k : ℕ) {force start : ℕ} → force ≡ at + update_bytes cs → start ≡ at + 2 * update_bytes cs →
    walk (carried (drop at row) (drop force row)) row k (numbered 0 cs) (place start 0) ≡ update_walked cs row at k
unfolding update_walked carried_in
update_walked_from cs row at k e f = rw (e, f)

-- the walk of update data past a field
pub update_walked_field :
    (cs : List Column) (row : Bytes) (at i p n : ℕ) → i < length cs → update_walked cs row at i ≡ ok (place p n) →
    carried_in cs row at (mark (get_or cs i no_column) i) ≡ true → (f : Field) → field_at (get_or cs i no_column) row p ≡ ok f →
    update_walked cs row at (i + 1) ≡ ok (place f.end (n + f.prefixes))
unfolding update_walked
update_walked_field cs row at i p n h e t f g =
    numbers_next (carried_in cs row at) row cs i _ h e ∙ step_field _ _ (mark (get_or cs i no_column) i) _ f t g

-- The ways out of the end of update data.

module _ (cs : List Column) (row : Bytes) (at : ℕ) where
  pub update_end_closed : {e o : ℕ} {i : Input} → update_opened cs row at ≡ bad e o i → update_end cs row at ≡ bad e o i
  unfolding update_end
  update_end_closed h = simp h

  module _ (s : ℕ) (h : update_opened cs row at ≡ ok s) where
    pub update_end_refused : {e o : ℕ} {i : Input} → update_walked cs row at (length cs) ≡ bad e o i → update_end cs row at ≡ bad e o i
    unfolding update_end
    update_end_refused g = simp (h, g)

    pub update_end_reached : (p n : ℕ) → update_walked cs row at (length cs) ≡ ok (place p n) → update_end cs row at ≡ ok p
    unfolding update_end
    update_end_reached p n g = simp (h, g)

-- The ways out of a look-up in update data.

module _ (cs : List Column) (update : Bytes) (k : ℕ) where
  pub look_update_column : length cs ≤ k → look_update cs update k ≡ bad 18 0 input.Column
  unfolding look_update
  look_update_column h = simp (known_not cs k h)

  module _ (h : k < length cs) where
    pub look_update_refused : {e o : ℕ} {i : Input} → update_end cs update 0 ≡ bad e o i → look_update cs update k ≡ bad e o input.Update
    unfolding look_update about
    look_update_refused g = simp (known_well cs k h, g)

    module _ (s : ℕ) (g : update_end cs update 0 ≡ ok s) where
      look_update_open : look_update cs update k ≡ about input.Update (update_column cs update k)
      unfolding look_update about
      look_update_open = simp (known_well cs k h, g)

      pub look_update_chapter : is_chapter (get_or cs k no_column) ≡ true → look_update cs update k ≡ ok chapter
      unfolding update_column about
      look_update_chapter c = look_update_open ∙ simp c

      module _ (c : is_chapter (get_or cs k no_column) ≡ false) where
        pub look_update_unchanged : bit_set update k ≡ false → look_update cs update k ≡ ok unchanged
        unfolding update_column about
        look_update_unchanged u = look_update_open ∙ simp (c, u)

        module _ (u : bit_set update k ≡ true) where
          pub look_update_null : bit_set (drop (update_bytes cs) update) k ≡ true → look_update cs update k ≡ ok null
          unfolding update_column about
          look_update_null f = look_update_open ∙ simp (c, u, f)

          module _ (f : bit_set (drop (update_bytes cs) update) k ≡ false) where
            pub look_update_walk : {e o : ℕ} {i : Input} → update_walked cs update 0 k ≡ bad e o i → look_update cs update k ≡ bad e o input.Update
            unfolding update_column update_field about
            look_update_walk x = look_update_open ∙ simp (c, u, f, x)

            module _ (p n : ℕ) (x : update_walked cs update 0 k ≡ ok (place p n)) where
              pub look_update_bad :
                  {e o : ℕ} {i : Input} → field_at (get_or cs k no_column) update p ≡ bad e o i → look_update cs update k ≡ bad e o input.Update
              unfolding update_column update_field arrive about
              look_update_bad y = look_update_open ∙ simp (c, u, f, x, y)

              pub look_update_found :
                  (g : Field) → field_at (get_or cs k no_column) update p ≡ ok g →
                  look_update cs update k ≡ ok (field (record { start = g.start; end = g.end; prefixes = n + g.prefixes }))
              unfolding update_column update_field arrive about
              look_update_found g y = look_update_open ∙ simp (c, u, f, x, y)

  pub look_update_large : limit < length update → look_update_row cs update k ≡ bad 19 0 input.Update
  unfolding look_update_row about
  look_update_large h = simp (sized_over update h)

  pub look_update_sized : length update ≤ limit → look_update_row cs update k ≡ look_update cs update k
  unfolding look_update_row about
  look_update_sized h = simp (sized_within update h)

-- The ways out of the current value.

module _ (cs : List Column) (row update : Bytes) (k : ℕ) where
  pub current_refused : {e o : ℕ} {i : Input} → look_update cs update k ≡ bad e o i → current cs row update k ≡ bad e o i
  unfolding current
  current_refused h = simp h

  pub current_updated : (f : Field) → look_update cs update k ≡ ok (field f) → current cs row update k ≡ ok (updated f)
  unfolding current current_by
  current_updated f h = simp h

  pub current_forced : look_update cs update k ≡ ok null → current cs row update k ≡ ok forced
  unfolding current current_by
  current_forced h = simp h

  pub current_unchanged : look_update cs update k ≡ ok unchanged → current cs row update k ≡ from_row (look_up cs row k)
  unfolding current current_by
  current_unchanged h = simp h

  pub current_chapter : look_update cs update k ≡ ok chapter → current cs row update k ≡ from_row (look_up cs row k)
  unfolding current current_by
  current_chapter h = simp h

  pub current_large_update : limit < length update → current_row cs row update k ≡ bad 19 0 input.Update
  unfolding current_row about
  current_large_update h = simp (sized_over update h)

  module _ (h : length update ≤ limit) where
    pub current_large_row : limit < length row → current_row cs row update k ≡ bad 19 0 input.Row
    unfolding current_row about
    current_large_row g = simp (sized_within update h, sized_over row g)

    pub current_sized : length row ≤ limit → current_row cs row update k ≡ current cs row update k
    unfolding current_row about
    current_sized g = simp (sized_within update h, sized_within row g)

pub from_row_lem : {r : Read Answer} (a : Answer) → r ≡ ok a → from_row r ≡ ok (original a)
unfolding from_row
from_row_lem a h = rw h

pub from_row_bad : {r : Read Answer} {e o : ℕ} {i : Input} → r ≡ bad e o i → from_row r ≡ bad e o i
unfolding from_row
from_row_bad h = rw h
