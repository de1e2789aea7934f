-- By the room, and by the size.
-- Assumes nothing.
use mathlib.Core.Path.{refl}
use native.Mathlib.Omega.{arith}
use lib.ListN.{length-set}
use Rattle.section.specs.Sizes.{passed, ended}
use Rattle.section.proofs.Noting.{note_one, note_three}
use Rattle.section.proofs.notes.note.Goals as goal

pub returns-then-stepped : goal.returns-then-stepped
returns-then-stepped c = rw c.if-stepped.true (passed refl)

pub bounds-sizes-i-then-size-lt255 : goal.bounds-sizes-i-then-size-lt255
bounds-sizes-i-then-size-lt255 c = simp length-set (omega (arith, c.if-i-sizes.true))

pub returns-then-size-lt255 : goal.returns-then-size-lt255
returns-then-size-lt255 c =
    rw c.if-stepped.false (note_one c.args.sizes.now c.args.i c.args.size c.if-i-sizes.true c.if-size-lt255.true)

pub bounds-sizes-i-then-size-lt65536-2 : goal.bounds-sizes-i-then-size-lt65536-2
bounds-sizes-i-then-size-lt65536-2 c =
    simp length-set (omega (arith, c.if-i-sizes.true))

pub bounds-sizes-i-then-size-lt65536-3 : goal.bounds-sizes-i-then-size-lt65536-3
bounds-sizes-i-then-size-lt65536-3 c =
    simp length-set (omega (arith, c.if-i-sizes.true))

pub bounds-sizes-i-then-size-lt65536-4 : goal.bounds-sizes-i-then-size-lt65536-4
bounds-sizes-i-then-size-lt65536-4 c =
    simp length-set (omega (arith, c.if-i-sizes.true))

pub returns-then-size-lt65536 : goal.returns-then-size-lt65536
returns-then-size-lt65536 c =
    rw c.if-stepped.false (note_three c.args.sizes.now c.args.i c.args.size c.if-i-sizes.true c.if-size-lt255.false)

pub returns-else-size-lt65536 : goal.returns-else-size-lt65536
returns-else-size-lt65536 c =
    rw c.if-stepped.false (ended refl refl)

pub returns-else-i-sizes : goal.returns-else-i-sizes
returns-else-i-sizes c = rw c.if-stepped.false (ended refl refl)
