-- What the writer's steps come to: the reader's answer on the buffer is its answer on all of the numbers' bytes.
-- Assumes nothing.
use Prim.Native.Nat.{ℕ, zero, suc, ◌+◌, ◌*◌, ◌≤◌, ◌<◌}
use mathlib.Core.Path.{◌≡◌, refl, sym, ap, ◌∙◌}
use mathlib.Core.List.{List, [], ◌∷◌, ◌++◌}
use mathlib.Core.Bool.{Bool, true, false}
use native.Mathlib.Omega.{arith}
use lib.ListN.{length, take}
use lib.Seq.{length-take-le}
use lib.Dec.{ltb}
use borrow.Author.Tests.{ltb-true, ltb-false, le-leb, lt-leb}
use Rattle.wire.specs.declared.error.Error.{Error}
use Rattle.wire.specs.declared.error.Input.TheVariants as input
use Rattle.wire.specs.Read.{Bytes, AreBytes, Read, ok, bad, ◌>>=◌, check, about, refused, limit, sized_by}
use Rattle.wire.specs.Output.{fitting}
use Rattle.wire.proofs.Laws.{fitting_not}
use Rattle.wire.proofs.Pieces.{bad_ok, bind_ok}
use Rattle.tree.specs.Tree.{Tree}
use Rattle.tree.specs.Reader.{read_file, file_of}
use Rattle.tree.specs.Table.{table_size}
use Rattle.tree.specs.Filling.{Filled, fill_file}
use Rattle.numbers.specs.Writer.{coded, in_range, of_numbers, file_written, Coded}
use Rattle.tree.proofs.Laws.{file_within}
use Rattle.tree.proofs.Agreement.{laid_file, fill_file_lem}
use Rattle.tree.proofs.Lists.{append_nil}
use Rattle.tree.proofs.Prefix.{decides, prefix_decides, long_refused}
use Rattle.numbers.proofs.Coding.{coded_bytes}

-- the first part of a list of bytes
bytes_front : (x y : Bytes) → AreBytes (x ++ y) → AreBytes x
bytes_front [] y h i = omega arith
bytes_front (b ∷ x) y h zero = h 0
bytes_front (b ∷ x) y h (suc i) = bytes_front x y (λ j. h (suc j)) i

-- What a file that is read into a table, or is not, tells of the reader.

module _ (b : Bytes) (table : List ℕ) (o : AreBytes b) (l : length table ≡ table_size) where
  pub fill_bad : (e : Error) → fill_file b table ≡ refused e → file_of b ≡ refused e
  fill_bad e h = by (file_of b) (sym (fill_file_lem b table o l) ∙ h)
    where
      by : (r : Read Tree) → (r >>= λ t. ok (laid_file b table t)) ≡ refused e → r ≡ refused e
      by (ok t) q = absurd (bad_ok (sym q))
      by (bad c p i) q = cc

  pub fill_ok : (f : Filled) → fill_file b table ≡ ok f → (t : Tree) × (file_of b ≡ ok t)
  fill_ok f h =
      let (t, e, g) = bind_ok (file_of b) _ f (sym (fill_file_lem b table o l) ∙ h) in
      (t, e)

-- The numbers' bytes in the buffer.

pub held_count : {ns : List ℕ} {buffer : Bytes} {r : ℕ} → Coded ns buffer r → r ≡ length (take r buffer)
held_count {ns} {buffer} {r} c = sym (length-take-le r buffer c.inside)

module _ (ns : List ℕ) (buffer : Bytes) (r : ℕ) (c : Coded ns buffer r) (whole : length buffer ≡ 4096) where
  held_size : length (take r buffer) ≡ r
  held_size = length-take-le r buffer c.inside

  pub held_bytes : AreBytes (take r buffer)
  held_bytes = bytes_front (take r buffer) c.rest (rw c.splits at (coded_bytes ns))

  -- all of them where they are few
  held_all : r + 3 ≤ length buffer → coded ns ≡ take r buffer
  held_all h = c.splits ∙ ap (λ (l : Bytes). take r buffer ++ l) (c.all h) ∙ append_nil (take r buffer)

  -- the reader says the same of them as of all
  pub held_decides : read_file (coded ns) ≡ file_of (take r buffer)
  held_decides = by (ltb r decides) refl ∙ sym (file_within (take r buffer) (omega (arith, held_size, c.inside)))
    where
      by : (t : Bool) → ltb r decides ≡ t → read_file (coded ns) ≡ read_file (take r buffer)
      by true e =
          let h : r < decides = ltb-true _ _ e in
          ap read_file (held_all (omega arith))
      by false e =
          let h : decides ≤ r = ltb-false _ _ e in
          ap read_file c.splits ∙ prefix_decides c.rest (take r buffer) (omega (arith, held_size))

  pub held_file : (t : Tree) → file_of (take r buffer) ≡ ok t → coded ns ≡ take r buffer
  held_file t e = by (ltb r decides) refl
    where
      by : (u : Bool) → ltb r decides ≡ u → coded ns ≡ take r buffer
      by true q =
          let h : r < decides = ltb-true _ _ q in
          held_all (omega arith)
      by false q =
          let h : decides ≤ r = ltb-false _ _ q in
          absurd (long_refused (take r buffer) t (omega (arith, held_size))
          (sym (file_within (take r buffer) (omega (arith, held_size, c.inside))) ∙ e))

-- The writer's ways out.

pub numbers_many : (ns : List ℕ) (capacity : ℕ) → 4194304 < length ns → file_written ns capacity ≡ bad 19 0 input.Numbers
unfolding file_written sized_by check about
numbers_many ns capacity h = rw (lt-leb (4 * length ns) limit (omega arith)) refl

module _ (ns : List ℕ) (buffer : Bytes) (r : ℕ) (c : Coded ns buffer r) (whole : length buffer ≡ 4096) (table : List ℕ) (l : length table ≡ table_size)
    (few : length ns ≤ 4194304) (capacity : ℕ) where
  pub file_unwritten :
      (e e' : Error) → fill_file (take r buffer) table ≡ refused e → refused e' ≡ of_numbers (refused e) → file_written ns capacity ≡ refused e'
  unfolding file_written sized_by check about
  file_unwritten e e' h k =
      let z : of_numbers (read_file (coded ns)) ≡ refused e' =
      ap of_numbers (held_decides ns buffer r c whole ∙ fill_bad (take r buffer) table (held_bytes ns buffer r c whole) l e h) ∙ sym k in
      rw (le-leb (4 * length ns) limit (omega arith), z) refl

  module _ (f : Filled) (h : fill_file (take r buffer) table ≡ ok f) where
    pub file_written_lem : file_written ns capacity ≡ fitting (take r buffer) capacity
    unfolding file_written sized_by check about in_range
    file_written_lem =
        let (t, e) = fill_ok (take r buffer) table (held_bytes ns buffer r c whole) l f h in
        let z : read_file (coded ns) ≡ ok t = held_decides ns buffer r c whole ∙ e in
        rw (le-leb (4 * length ns) limit (omega arith), z) (ap (λ (b : Bytes). fitting b capacity) (held_file ns buffer r c whole t e))

    pub file_room : capacity < r → file_written ns capacity ≡ bad 16 r input.Output
    file_room k =
        let z : length (take r buffer) ≡ r = held_size ns buffer r c whole in
        file_written_lem ∙ fitting_not (take r buffer) capacity (omega arith) ∙ ap (λ (n : ℕ). bad 16 n input.Output) z
