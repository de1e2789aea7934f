-- Row data whose maps their masks accept open.
-- Assumes nothing.
use Prim.Native.Nat.{ℕ, suc, ◌+◌, ◌*◌, ◌≤◌, ◌<◌}
use mathlib.Core.Path.{◌≡◌, refl, sym, ap, ◌∙◌}
use mathlib.Core.List.{List, [], ◌∷◌}
use mathlib.Core.Bool.{Bool, true, false, not}
use native.Mathlib.Omega.{arith}
use lib.Bits.{bit_and}
use lib.Dec.{eqb}
use lib.ListN.{length, get_or, drop}
use borrow.Author.Tests.{eqb-true}
use Rattle.wire.specs.Read.{Bytes, AreBytes, ok, pick, check}
use Rattle.wire.specs.Bits.{bit_set}
use Rattle.maps.specs.Maps.{map_bits, top_bit}
use Rattle.wire.proofs.Laws.{whole_fits}
use Rattle.column.specs.declared.column.Column.{Column}
use Rattle.column.specs.Columns.{is_chapter, is_nullable}
use Rattle.walk.specs.Presence.{presence_bytes, Mark, no_mark, marks, chapter_present, clear}
use Rattle.walk.specs.Rows.{opened}
use Rattle.walk.specs.Updates.{numbered, update_bytes, chapter_marked, force_broken, update_opened}
use Rattle.walk.proofs.Laws.{bit_few, length_marks, mark_at}
use Rattle.walk.proofs.UpdateLaws.{length_numbered, number_at_lem}
use Rattle.shapes.specs.Masks.{Covers, is_marked, is_nested, is_unforced, is_any}
use Rattle.quick.specs.Quick.{Keeps}
use Rattle.maps.proofs.MapBits.{map_bit, bit_none, bit_within}

-- Bits.

module _ (s : Bytes) (o : AreBytes s) (at i : ℕ) (h : i < 64) where
  -- a bit of a map, by its number
  pub set_by : bit_set (drop at s) i ≡ eqb (top_bit (map_bits s at) i) 1
  unfolding bit_set
  set_by = ap (λ (b : ℕ). eqb b 1) (sym (map_bit s at i o h))

  -- it is not set where a mask has it with which the map shares none
  unset_by : (mask : ℕ) → bit_and (map_bits s at) mask ≡ 0 → top_bit mask i ≡ 1 → bit_set (drop at s) i ≡ false
  unset_by mask e m = set_by ∙ ap (λ (b : ℕ). eqb b 1) (bit_none (map_bits s at) mask i e m)

-- The bits of columns.

-- a column's bit in a presence map
mark_small : (cs : List Column) → length cs ≤ 64 → (i : ℕ) → i < length (marks 0 cs) → (get_or (marks 0 cs) i no_mark).bit < 64
mark_small cs few i l =
    let g : i < length cs = omega (arith, l, length_marks 0 cs) in
    rw (mark_at cs i g) (omega (arith, bit_few cs i))

-- in a map of update data
number_small : (cs : List Column) → length cs ≤ 64 → (i : ℕ) → i < length (numbered 0 cs) → (get_or (numbered 0 cs) i no_mark).bit < 64
number_small cs few i l =
    let g : i < length cs = omega (arith, l, length_numbered 0 cs) in
    rw (number_at_lem cs i g) (omega arith)

-- Rules.

-- no mark breaks one
none_broken :
    (broken : Mark → Bool) (code at : ℕ) (ms : List Mark) → ((i : ℕ) → i < length ms → broken (get_or ms i no_mark) ≡ false) → clear broken code at ms ≡ ok tt
unfolding clear check
none_broken broken code at [] h = refl
none_broken broken code at (m ∷ ms) h = rw (h 0 (omega arith)) (none_broken broken code at ms (λ i l. h (suc i) (omega arith)))

module _ (cs : List Column) (s : Bytes) (o : AreBytes s) (few : length cs ≤ 64) where
  -- no nullable chapter's bit is set in a presence map
  presence_kept :
      (at mask : ℕ) → Covers mask is_marked (marks 0 cs) → bit_and (map_bits s at) mask ≡ 0 →
      clear (chapter_present (drop at s)) 12 at (marks 0 cs) ≡ ok tt
  unfolding chapter_present
  presence_kept at mask covers e = none_broken (chapter_present (drop at s)) 12 at (marks 0 cs) each
    where
      by : (t n b : Bool) → (pick t n false ≡ true → b ≡ false) → pick t (pick n b false) false ≡ false
      by true true b h = h refl
      by true false b h = refl
      by false n b h = refl

      each : (i : ℕ) → i < length (marks 0 cs) → chapter_present (drop at s) (get_or (marks 0 cs) i no_mark) ≡ false
      each i l =
          let m : Mark = get_or (marks 0 cs) i no_mark in
          by (is_chapter m.column) (is_nullable m.column) (bit_set (drop at s) m.bit)
          (λ t. unset_by s o at m.bit (mark_small cs few i l) mask e (covers i l t))

  -- no chapter's bit is set in a map of update data
  chapters_kept :
      (at mask : ℕ) → Covers mask is_nested (numbered 0 cs) → bit_and (map_bits s at) mask ≡ 0 →
      clear (chapter_marked (drop at s)) 12 at (numbered 0 cs) ≡ ok tt
  unfolding chapter_marked
  chapters_kept at mask covers e = none_broken (chapter_marked (drop at s)) 12 at (numbered 0 cs) each
    where
      by : (t b : Bool) → (t ≡ true → b ≡ false) → pick t b false ≡ false
      by true b h = h refl
      by false b h = refl

      each : (i : ℕ) → i < length (numbered 0 cs) → chapter_marked (drop at s) (get_or (numbered 0 cs) i no_mark) ≡ false
      each i l =
          let m : Mark = get_or (numbered 0 cs) i no_mark in
          by (is_chapter m.column) (bit_set (drop at s) m.bit)
          (λ t. unset_by s o at m.bit (number_small cs few i l) mask e (covers i l t))

  -- the force rule
  force_kept :
      (at force unforced all : ℕ) → Covers unforced is_unforced (numbered 0 cs) → Covers all is_any (numbered 0 cs) →
      bit_and (map_bits s force) unforced ≡ 0 → bit_and (bit_and (map_bits s force) all) (map_bits s at) ≡ bit_and (map_bits s force) all →
      clear (force_broken (drop at s) (drop force s)) 13 force (numbered 0 cs) ≡ ok tt
  unfolding force_broken
  force_kept at force unforced all covers any e both = none_broken (force_broken (drop at s) (drop force s)) 13 force (numbered 0 cs) each
    where
      by : (f u t n : Bool) → (pick t true (not n) ≡ true → f ≡ false) → (f ≡ true → u ≡ true) → pick f (pick u (not n) true) false ≡ false
      by true true t true h g = refl
      by true true true false h g = h refl
      by true true false false h g = h refl
      by true false t n h g = sym (g refl)
      by false u t n h g = refl

      each : (i : ℕ) → i < length (numbered 0 cs) → force_broken (drop at s) (drop force s) (get_or (numbered 0 cs) i no_mark) ≡ false
      each i l =
          let m : Mark = get_or (numbered 0 cs) i no_mark in
          let k : m.bit < 64 = number_small cs few i l in
          by (bit_set (drop force s) m.bit) (bit_set (drop at s) m.bit) (is_chapter m.column) (is_nullable m.column)
          (λ t. unset_by s o force m.bit k unforced e (covers i l t))
          (λ t.
          let f : top_bit (map_bits s force) m.bit ≡ 1 = eqb-true _ _ (sym (set_by s o force m.bit k) ∙ t) in
          let v : top_bit (map_bits s at) m.bit ≡ 1 = bit_within (map_bits s force) (map_bits s at) all m.bit both (any i l refl) f in
          set_by s o at m.bit k ∙ ap (λ (b : ℕ). eqb b 1) v)

  -- Original row data.
  pub row_opens :
      (at mask : ℕ) → Covers mask is_marked (marks 0 cs) → bit_and (map_bits s at) mask ≡ 0 → at + presence_bytes cs ≤ length s →
      opened cs s at ≡ ok (at + presence_bytes cs)
  unfolding opened
  row_opens at mask covers e h = simp (whole_fits s at (presence_bytes cs) h, presence_kept at mask covers e)

  -- Update data.
  pub update_opens :
      (at chapters unforced all : ℕ) → Covers chapters is_nested (numbered 0 cs) → Covers unforced is_unforced (numbered 0 cs) →
      Covers all is_any (numbered 0 cs) → Keeps (map_bits s at) (map_bits s (at + update_bytes cs)) chapters unforced all →
      at + 2 * update_bytes cs ≤ length s → update_opened cs s at ≡ ok (at + 2 * update_bytes cs)
  unfolding update_opened
  update_opens at chapters unforced all nested covers any k h =
      let force : ℕ = at + update_bytes cs in
      let second : clear (chapter_marked (drop force s)) 12 force (numbered 0 cs) ≡ ok tt =
      chapters_kept force unforced (λ i l t. covers i l (also (get_or (numbered 0 cs) i no_mark) t)) k.force in
      simp (
        whole_fits s at (2 * update_bytes cs) h,
        chapters_kept at chapters nested k.update,
        second,
        force_kept at force unforced all covers any k.force k.both,
      )
    where
      also : (m : Mark) → is_nested m ≡ true → is_unforced m ≡ true
      also m t = rw t refl
