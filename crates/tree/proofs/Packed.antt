-- The numbers of a table back to their parts.
-- Assumes nothing.
use Prim.Native.Nat.{ℕ, ◌+◌, ◌*◌, ◌/◌, ◌<◌}
use mathlib.Core.Path.{◌≡◌}
use native.Mathlib.Omega.{arith}
use Rattle.tree.specs.Table.{packed, code_in, flags_in, maximum_in, block, start_in, count_in, id_in}

-- of a column
module _ (code flags maximum id : ℕ) (c : code < 256) (f : flags < 256) (m : maximum < 65536) where
  pub packed_code : code_in (packed code flags maximum id) ≡ code
  packed_code = omega arith

  pub packed_flags : flags_in (packed code flags maximum id) ≡ flags
  packed_flags =
      let q : packed code flags maximum id / 256 ≡ flags + 256 * maximum + 16777216 * id = omega arith in
      rw q (omega arith)

  pub packed_maximum : maximum_in (packed code flags maximum id) ≡ maximum
  packed_maximum =
      let q : packed code flags maximum id / 65536 ≡ maximum + 65536 * id = omega arith in
      rw q (omega arith)

  pub packed_id : id_in (packed code flags maximum id) ≡ id
  packed_id = omega arith

-- of a schema
module _ (start count id : ℕ) (s : start < 65536) (c : count < 65536) where
  pub block_start : start_in (block start count id) ≡ start
  block_start = omega arith

  pub block_count : count_in (block start count id) ≡ count
  block_count =
      let q : block start count id / 65536 ≡ count + 65536 * id = omega arith in
      rw q (omega arith)

  pub block_id : id_in (block start count id) ≡ id
  block_id = omega arith
