-- Laws of the definitions that the code's proofs cite.
-- Assumes nothing.
use Prim.Native.Nat.{ℕ, suc, ◌+◌, ◌*◌, ◌-◌, ◌≤◌, ◌<◌}
use mathlib.Core.Path.{◌≡◌, ap, ◌∙◌}
use mathlib.Core.List.{List}
use native.Mathlib.Omega.{arith}
use lib.ListN.{length, get_or, length-set}
use borrow.Author.Tests.{lt-ltb, le-ltb, le-leb, lt-leb, eq-eqb, ne_eqb}
use Rattle.wire.specs.declared.error.Input.{Input}
use Rattle.wire.specs.declared.error.Input.TheVariants.{Single}
use Rattle.wire.specs.Read.{Bytes, ok, bad, check, limit}
use Rattle.wire.proofs.Laws.{sized_over, sized_within}
use Rattle.tree.specs.Numbers.{Found, found, second_at, number_at, third_at}
use Rattle.tree.specs.Tree.{most_file_columns}
use Rattle.tree.specs.Reader.{read_file, file_of}
use Rattle.tree.specs.Schemas.{schema_at, column_at, number_from, child_number}
use Rattle.tree.specs.Table.{schema_slot, start_in, count_in, entry_in, schema_in, schemas_in, id_in}
use Rattle.tree.specs.Filling.{Filled, Good, moved, holding, opened, range_at}
use Rattle.tree.proofs.TableSays.{entries_length, entries_at, schemas_in_length, schemas_in_at}
use mathlib.Core.Option.{none, some}

-- A number by its groups: what each test of the code decides.

module _ (b : Bytes) (at : ℕ) where
  pub number_short : length b ≤ at → number_at b at ≡ bad 1 (length b) Single
  unfolding number_at check
  number_short h = simp (le-ltb _ _ h)

  pub number_one : at < length b → get_or b at 0 < 0x80 → number_at b at ≡ ok (found (get_or b at 0) (at + 1))
  unfolding number_at check
  number_one h k = simp (lt-ltb _ _ h, lt-ltb _ _ k)

  pub number_more : at < length b → 0x80 ≤ get_or b at 0 → number_at b at ≡ second_at b at
  unfolding number_at check
  number_more h k = simp (lt-ltb _ _ h, le-ltb _ _ k)

  pub number_two :
      at + 1 < length b → 1 ≤ get_or b (at + 1) 0 → get_or b (at + 1) 0 < 0x80 →
      second_at b at ≡ ok (found ((get_or b at 0 - 0x80) + 0x80 * get_or b (at + 1) 0) (at + 2))
  unfolding second_at check
  number_two h k l = simp (lt-ltb _ _ h, le-leb _ _ k, lt-ltb _ _ l)

  pub second_short : length b ≤ at + 1 → second_at b at ≡ bad 1 (length b) Single
  unfolding second_at check
  second_short h = simp (le-ltb _ _ h)

  module _ (h : at + 1 < length b) where
    pub second_zero : get_or b (at + 1) 0 < 1 → second_at b at ≡ bad 5 at Single
    unfolding second_at check
    second_zero k = simp (lt-ltb _ _ h, lt-leb _ _ k)

    pub second_more : 0x80 ≤ get_or b (at + 1) 0 → second_at b at ≡ third_at b at
    unfolding second_at check
    second_more k = simp (lt-ltb _ _ h, le-leb 1 (get_or b (at + 1) 0) (omega arith), le-ltb _ _ k)

  pub third_short : length b ≤ at + 2 → third_at b at ≡ bad 1 (length b) Single
  unfolding third_at check
  third_short h = simp (le-ltb _ _ h)

  module _ (h : at + 2 < length b) where
    pub third_zero : get_or b (at + 2) 0 < 1 → third_at b at ≡ bad 5 at Single
    unfolding third_at check
    third_zero k = simp (lt-ltb _ _ h, lt-leb _ _ k)

    pub third_long : 0x80 ≤ get_or b (at + 2) 0 → third_at b at ≡ bad 5 at Single
    unfolding third_at check
    third_long k = simp (lt-ltb _ _ h, le-leb 1 (get_or b (at + 2) 0) (omega arith), le-ltb _ _ k)

    pub number_three :
        1 ≤ get_or b (at + 2) 0 → get_or b (at + 2) 0 < 0x80 →
        third_at b at ≡ ok (found ((get_or b at 0 - 0x80) + 0x80 * (get_or b (at + 1) 0 - 0x80) + 0x4000 * get_or b (at + 2) 0) (at + 3))
    unfolding third_at check
    number_three k l = simp (lt-ltb _ _ h, le-leb _ _ k, lt-ltb _ _ l)

-- A number and its range.

module _ (low high : ℕ) (b : Bytes) (at : ℕ) where
  pub range_short : (c p : ℕ) (i : Input) → number_at b at ≡ bad c p i → range_at low high b at ≡ bad c p i
  unfolding range_at
  range_short c p i e = rw e

  module _ (f : Found) (e : number_at b at ≡ ok f) where
    pub range_within : low ≤ f.value → f.value ≤ high → range_at low high b at ≡ ok f
    unfolding range_at check
    range_within k l = rw (e, le-leb low f.value k, le-leb f.value high l)

    pub range_low : f.value < low → range_at low high b at ≡ bad 6 at Single
    unfolding range_at check
    range_low k = rw (e, lt-leb low f.value k)

    pub range_high : low ≤ f.value → high < f.value → range_at low high b at ≡ bad 6 at Single
    unfolding range_at check
    range_high k l = rw (e, le-leb low f.value k, lt-leb f.value high l)

-- Room stays: at another offset of the input, with another column, with one more schema.

module _ (b : Bytes) (f : Filled) where
  pub good_moved : (at : ℕ) → Good b f → at ≤ length b → Good b (moved at f)
  good_moved at good h = record { inside = h; some = good.some; few = good.few; long = good.long }

  pub good_held : (i v : ℕ) → Good b f → Good b (holding i v f)
  good_held i v good = record { inside = good.inside; some = good.some; few = good.few; long = length-set f.table i v ∙ good.long }

  pub good_opened : (id c : ℕ) → Good b f → 1 ≤ c → f.columns + c ≤ most_file_columns → Good b (opened id c f)
  good_opened id c good l h =
      record { inside = good.inside; some = omega (arith, good.some); few = h; long = length-set f.table _ _ ∙ good.long }

-- The schema with an id, among those from number j on.

module _ (k id : ℕ) (table : List ℕ) where
  pub child_all : 1 ≤ k → child_number (schemas_in 0 k table) id ≡ number_from 1 (schemas_in 1 (k - 1) table) id
  unfolding child_number schemas_in
  child_all h = let z : k ≡ suc (k - 1) = omega arith in ap (λ (m : ℕ). child_number (schemas_in 0 m table) id) z

  pub child_none : (j : ℕ) → k ≤ j → number_from j (schemas_in j (k - j) table) id ≡ none
  unfolding number_from schemas_in
  child_none j h = let z : k - j ≡ 0 = omega arith in rw z

  module _ (j : ℕ) (h : j < k) where
    pub child_here : id_in (get_or table (schema_slot j) 0) ≡ id → number_from j (schemas_in j (k - j) table) id ≡ some j
    unfolding number_from schemas_in schema_in
    child_here e =
        let z : k - j ≡ suc (k - (j + 1)) = omega arith in
        rw (z, eq-eqb (id_in (get_or table (schema_slot j) 0)) id e)

    pub child_next :
        (id_in (get_or table (schema_slot j) 0) ≡ id → ⊥) →
        number_from j (schemas_in j (k - j) table) id ≡ number_from (j + 1) (schemas_in (j + 1) (k - (j + 1)) table) id
    unfolding number_from schemas_in schema_in
    child_next e =
        let z : k - j ≡ suc (k - (j + 1)) = omega arith in
        rw (z, ne_eqb (id_in (get_or table (schema_slot j) 0)) id e)

-- A schema and a column by their numbers, where there are k schemas.

module _ (k : ℕ) (table : List ℕ) where
  pub schema_missing : (j : ℕ) → k ≤ j → schema_at (schemas_in 0 k table) j ≡ bad 18 0 Single
  unfolding schema_at check
  schema_missing j h = rw (schemas_in_length 0 k table, le-ltb j k h)

  module _ (j : ℕ) (h : j < k) where
    pub schema_at_lem : schema_at (schemas_in 0 k table) j ≡ ok (schema_in j table)
    unfolding schema_at check
    schema_at_lem =
        let z : 0 + j ≡ j = omega arith in
        rw (schemas_in_length 0 k table, lt-ltb j k h, schemas_in_at 0 k table j h, z)

    pub column_at_lem :
        (c : ℕ) → c < count_in (get_or table (schema_slot j) 0) →
        column_at (schemas_in 0 k table) j c ≡ ok (entry_in (get_or table (start_in (get_or table (schema_slot j) 0) + c) 0))
    unfolding column_at schema_in check
    column_at_lem c l =
        let slot : ℕ = get_or table (schema_slot j) 0 in
        rw (schema_at_lem, entries_length (start_in slot) (count_in slot) table, lt-ltb c (count_in slot) l, entries_at (start_in slot) (count_in slot) table c l)

-- The size of a file.

pub file_over : (b : Bytes) → limit < length b → file_of b ≡ bad 19 0 Single
unfolding file_of
file_over b h = rw (sized_over b h)

pub file_within : (b : Bytes) → length b ≤ limit → file_of b ≡ read_file b
unfolding file_of
file_within b h = rw (sized_within b h)
