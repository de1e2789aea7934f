-- Columns in the usual form: their numbers as the definition reads them.
-- Assumes nothing.
use Prim.Native.Nat.{ℕ, ◌+◌, ◌-◌, ◌*◌, ◌≤◌, ◌<◌}
use mathlib.Core.Path.{◌≡◌, refl, ap, ◌∙◌}
use native.Mathlib.Omega.{arith}
use lib.ListN.{length, get_or}
use Rattle.wire.specs.Read.{Bytes, ok}
use Rattle.column.specs.Types.{kind_of}
use Rattle.tree.specs.Numbers.{found, number_at}
use Rattle.tree.specs.Tree.{most_flags, most_maximum}
use Rattle.tree.specs.Filling.{range_at}
use Rattle.tree.specs.Table.{packed}
use Rattle.entry.specs.Usual.{Slotted}
use Rattle.entry.specs.Heads.{field_head, fixed_head, variable_head, head_by, head_at}
use Rattle.tree.proofs.Laws.{number_one, number_more, number_two, range_within}

-- Behind the code.

module _ (b : Bytes) (code at : ℕ) (k : get_or b at 0 ≤ 1) where
  flags_usual : at < length b → range_at 0 most_flags b at ≡ ok (found (get_or b at 0) (at + 1))
  flags_usual h = range_within 0 most_flags b at (found (get_or b at 0) (at + 1)) (number_one b at h (omega (arith, k))) (omega arith) k

  pub fixed_usual : at + 1 ≤ length b → fixed_head b code at ≡ ok (field_head code (get_or b at 0) 0 (at + 1))
  unfolding fixed_head
  fixed_usual h = rw (flags_usual (omega (arith, h))) refl

  module _ (h : at + 3 ≤ length b) where
    variable_usual : (m p : ℕ) → number_at b (at + 1) ≡ ok (found m p) → 1 ≤ m → m ≤ most_maximum → variable_head b code at ≡ ok (field_head code (get_or b at 0) m p)
    unfolding variable_head
    variable_usual m p e l u = rw (flags_usual (omega (arith, h)), range_within 1 most_maximum b (at + 1) (found m p) e l u) refl

    -- a maximum of one byte, and of two
    pub variable_one :
        1 ≤ get_or b (at + 1) 0 → get_or b (at + 1) 0 < 0x80 → variable_head b code at ≡ ok (field_head code (get_or b at 0) (get_or b (at + 1) 0) (at + 2))
    variable_one l u =
        let z : at + 1 + 1 ≡ at + 2 = omega arith in
        variable_usual (get_or b (at + 1) 0) (at + 2)
        (number_one b (at + 1) (omega (arith, h)) u ∙ ap (λ (p : ℕ). ok (found (get_or b (at + 1) 0) p)) z) l (omega (arith, u))

    pub variable_two :
        0x80 ≤ get_or b (at + 1) 0 → get_or b (at + 1) 0 < 0x100 → 1 ≤ get_or b (at + 2) 0 → get_or b (at + 2) 0 < 0x80 →
        variable_head b code at ≡ ok (field_head code (get_or b at 0) ((get_or b (at + 1) 0 - 0x80) + 0x80 * get_or b (at + 2) 0) (at + 3))
    variable_two m n l u =
        let z : at + 1 + 1 ≡ at + 2 = omega arith in
        let y : at + 1 + 2 ≡ at + 3 = omega arith in
        variable_usual ((get_or b (at + 1) 0 - 0x80) + 0x80 * get_or b (at + 2) 0) (at + 3)
        (number_more b (at + 1) (omega (arith, h)) m
        ∙ number_two b (at + 1) (omega (arith, h)) (rw z l) (rw z u)
        ∙ rw (z, y) refl)
        (omega (arith, l)) (omega (arith, n, u))

-- such a column in one number

module _ (b : Bytes) (code at : ℕ) (k : get_or b at 0 ≤ 1) {slot end : ℕ} (small : slot < 4294967296) where
  pub fixed_slotted : at + 1 ≤ length b → slot ≡ packed code (get_or b at 0) 0 0 → end ≡ at + 1 → Slotted (fixed_head b code at) slot end
  fixed_slotted h e z = record { code = code; flags = get_or b at 0; maximum = 0; head = rw z (fixed_usual b code at k h); holds = e; small = small }

  pub variable_slotted :
      at + 3 ≤ length b → 1 ≤ get_or b (at + 1) 0 → get_or b (at + 1) 0 < 0x80 → slot ≡ packed code (get_or b at 0) (get_or b (at + 1) 0) 0 → end ≡ at + 2 →
      Slotted (variable_head b code at) slot end
  variable_slotted h l u e z =
      record { code = code; flags = get_or b at 0; maximum = get_or b (at + 1) 0; head = rw z (variable_one b code at k h l u); holds = e; small = small }

  pub variable_long_slotted :
      at + 3 ≤ length b → 0x80 ≤ get_or b (at + 1) 0 → get_or b (at + 1) 0 < 0x100 → 1 ≤ get_or b (at + 2) 0 → get_or b (at + 2) 0 < 0x80 →
      slot ≡ packed code (get_or b at 0) ((get_or b (at + 1) 0 - 0x80) + 0x80 * get_or b (at + 2) 0) 0 → end ≡ at + 3 → Slotted (variable_head b code at) slot end
  variable_long_slotted h m n l u e z =
      record {
        code = code;
        flags = get_or b at 0;
        maximum = (get_or b (at + 1) 0 - 0x80) + 0x80 * get_or b (at + 2) 0;
        head = rw z (variable_two b code at k h m n l u);
        holds = e;
        small = small;
      }

-- The code.

module _ (b : Bytes) (at : ℕ) where
  head_by_lem : (code p : ℕ) → number_at b at ≡ ok (found code p) → head_at b at ≡ head_by (kind_of code) b code at p
  unfolding head_at
  head_by_lem code p e = rw e refl

  pub head_one : at < length b → get_or b at 0 < 0x80 → head_at b at ≡ head_by (kind_of (get_or b at 0)) b (get_or b at 0) at (at + 1)
  head_one h k = head_by_lem (get_or b at 0) (at + 1) (number_one b at h k)

  pub head_two : at + 1 < length b → 0x80 ≤ get_or b at 0 → get_or b (at + 1) 0 ≡ 1 → head_at b at ≡ head_by (kind_of (get_or b at 0)) b (get_or b at 0) at (at + 2)
  head_two h k e =
      let z : (get_or b at 0 - 0x80) + 0x80 * get_or b (at + 1) 0 ≡ get_or b at 0 = omega (arith, k, e) in
      head_by_lem (get_or b at 0) (at + 2)
      (number_more b at (omega (arith, h)) k ∙ number_two b at h (omega (arith, e)) (omega (arith, e)) ∙ ap (λ (n : ℕ). ok (found n (at + 2))) z)
