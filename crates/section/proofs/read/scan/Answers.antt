-- A run, an element that the quick way says, or one whose head and columns are gone over keeps what holds before it.
-- Assumes nothing.
use Rattle.std.specs.Prelude.{Ok}
use Prim.Native.Nat.{◌<◌}
use mathlib.Core.Path.{◌≡◌, refl, sym, ap, ◌∙◌}
use native.Mathlib.Omega.{arith}
use borrow.Author.Tests.{ltb-true, ltb-false}
use Rattle.wire.specs.Read.{ok}
use Rattle.tree.specs.Table.{schemas_in}
use Rattle.shapes.proofs.Slots.{sound_held}
use Rattle.section.specs.declared.heads.Head.{Head}
use Rattle.section.specs.Heads.{told_head, data_head, head_at, before_in, kind_number}
use Rattle.section.specs.Elements.{ElementAt, delete_element, by_head}
use Rattle.section.proofs.ElementLaws.{data_number, element_read, element_short}
use Rattle.section.proofs.Turns.{first, turn_next, turn_refused, turn_end}
use Rattle.section.proofs.Scanning.{scan_start, scan_run, ScanNext, scan_next, element_refused, scanned_rows, scanned_refused}
use Rattle.section.proofs.read.scan.Goals.{In-Ok-Data, Joined-quick_element, in-Some, in-None+in-Ok-Delete, in-None+in-Ok-Data+else-loop-i-test}
use Rattle.section.proofs.read.scan.Goals as goal

headed :
    (k : In-Ok-Data) →
    head_at (schemas_in 0 k.args.sheet.now.schemas k.args.sheet.now.slots.now) k.args.sheet.now.section.now (before_in k.args.sheet.now.slots.now k.section.child) k.section.at
    ≡ ok (data_head (kind_number k.in-Ok-Data.kind) k.in-Ok-Data.number k.in-Ok-Data.field-0-2 k.in-Ok-Data.start)
headed k = sym k.head_at.ensures ∙ ap told_head k.in-Ok-Data.is ∙ ap (λ (h : Head). told_head (Ok h)) k.in-Ok-Data.field-0-is

numbered : (k : In-Ok-Data) → k.in-Ok-Data.number < k.args.sheet.now.schemas
numbered k = data_number _ _ _ _ _ k.requires.0.sound.top (headed k)

taken :
    (j : Joined-quick_element) →
    ElementAt (schemas_in 0 j.args.sheet.now.schemas j.args.sheet.now.slots.now) j.args.sheet.now.section.now (before_in j.args.sheet.now.slots.now j.section.child) j.section.at
    (kind_number j.match-quick_element.element.kind) j.match-quick_element.element.number j.match-quick_element.element.end
taken j =
    elim j.match-quick_element.branch [
      | in-Some w ↦ rw w.element-is (w.in-Some.ensures.says j.requires.0.sound j.requires.0.shaped)
      | in-None+in-Ok-Delete w ↦
          rw w.element-is (delete_element (sym w.head_at.ensures ∙ ap told_head w.in-Ok-Delete.is ∙ ap (λ (h : Head). told_head (Ok h)) w.in-Ok-Delete.field-0-is) refl)
      | in-None+in-Ok-Data+else-loop-i-test w ↦
          let h = sym w.head_at.ensures ∙ ap told_head w.in-Ok-Data.is ∙ ap (λ (h : Head). told_head (Ok h)) w.in-Ok-Data.field-0-is in
          rw w.element-is (
          element_read _ _ _ _ _ w.in-Ok-Data.kind w.in-Ok-Data.number _ w.in-Ok-Data.start (data_number _ _ _ _ _ j.requires.0.sound.top h) h _ _ w.is_change-update.ensures
          (turn_end _ _ _ _ (omega (arith, w.turns_of-i-end.ensures, w.loop-i-test.false)) w.loop-i.invariant)
          )
    ]

next :
    (j : Joined-quick_element) →
    ScanNext _ _ _ _ _ _ _ _ _ _ j.section.invariant.0 (kind_number j.match-quick_element.element.kind) j.match-quick_element.element.number j.match-quick_element.element.end
next j = scan_next _ _ _ _ _ _ _ _ _ _ j.section.invariant.0 j.requires.0.sound.top j.args.sheet.now.bytes (taken j)

pub section-init : goal.section-init
section-init c =
    (scan_start _ _ _ _ _ c.requires.0.sound.top c.requires.1, c.requires.0.sound.top)

pub section-preserved-then-n-gt0 : goal.section-preserved-then-n-gt0
section-preserved-then-n-gt0 c =
    (scan_run _ _ _ _ _ _ _ _ _ _ c.section.invariant.0 c.requires.0 c.args.sheet.now.bytes c.run-n.ensures (λ z. omega (arith, z, c.if-n-gt0.true)), c.section.invariant.1)

pub turns_of-i-end-requires : goal.turns_of-i-end-requires
turns_of-i-end-requires c = sound_held c.requires.0.sound (numbered (goal.at.turns_of-i-end-requires c).In-Ok-Data)

pub loop-i-init : goal.loop-i-init
loop-i-init c = first

pub turn-requires : goal.turn-requires
turn-requires c =
    (sound_held c.requires.0.sound (numbered (goal.at.turn-requires c).In-Ok-Data), omega (arith, c.turns_of-i-end.ensures, c.loop-i-test.true))

pub loop-i-preserved : goal.loop-i-preserved
loop-i-preserved c =
    turn_next _ _ _ _ (omega (arith, c.turns_of-i-end.ensures, c.loop-i-test.true)) c.loop-i.invariant (sym c.in-Ok.ensures)

pub returns-in-Err-turn : goal.returns-in-Err-turn
returns-in-Err-turn c =
    let k = (goal.at.returns-in-Err-turn c).In-Ok-Data in
    let q = turn_refused _ _ _ _ c.in-Err-turn.fault (omega (arith, c.turns_of-i-end.ensures, c.loop-i-test.true)) c.loop-i.invariant (sym c.in-Err-turn.ensures) in (
      scanned_refused _ _ _ _ _ (
          element_refused _ _ _ _ _ _ _ _ _ _ c.section.invariant.0 c.requires.0.sound.top c.args.sheet.now.bytes
          (element_short _ _ _ _ _ c.in-Ok-Data.kind c.in-Ok-Data.number _ c.in-Ok-Data.start (numbered k) (headed k) _ c.in-Err-turn.fault c.is_change-update.ensures q)
          ),
      c.section.invariant.0.long,
    )

pub returns-in-Err : goal.returns-in-Err
returns-in-Err c = (
  scanned_refused _ _ _ _ _
      (element_refused _ _ _ _ _ _ _ _ _ _ c.section.invariant.0 c.requires.0.sound.top c.args.sheet.now.bytes (by_head (sym c.head_at.ensures ∙ ap told_head c.in-Err.is))),
  c.section.invariant.0.long,
)

pub returns-in-Ok-Done : goal.returns-in-Ok-Done
returns-in-Ok-Done c =
    (scanned_rows _ _ _ _ _ _ _ _ _ _ c.section.invariant.0 (sym c.head_at.ensures ∙ ap told_head c.in-Ok-Done.is ∙ ap (λ (h : Head). told_head (Ok h)) c.in-Ok-Done.field-0-is), c.section.invariant.0.long)

pub bounds-own-at : goal.bounds-own-at
bounds-own-at c = (next (goal.at.bounds-own-at c).Joined-quick_element).there

pub overflow_sub-element : goal.overflow_sub-element
overflow_sub-element c = omega (arith, (next (goal.at.overflow_sub-element c).Joined-quick_element).onward)

pub section-smaller-then-is_new : goal.section-smaller-then-is_new
section-smaller-then-is_new c =
    let n = next (goal.at.section-smaller-then-is_new c).Joined-quick_element in omega (arith, n.onward, n.within)

pub section-smaller : goal.section-smaller
section-smaller c =
    let n = next (goal.at.section-smaller c).Joined-quick_element in omega (arith, n.onward, n.within)

pub section-preserved-then-is_new : goal.section-preserved-then-is_new
section-preserved-then-is_new c =
    let n = next (goal.at.section-preserved-then-is_new c).Joined-quick_element in
    let h = ltb-true _ _ (sym c.is_new.ensures ∙ c.if-is_new.true) in
    (n.added h _ _ (rw c.is_stepped-stepped.ensures at c.note-used.ensures), n.number h)

pub section-preserved : goal.section-preserved
section-preserved c =
    let n = next (goal.at.section-preserved c).Joined-quick_element in
    (n.closed (ltb-false _ _ (sym c.is_new.ensures ∙ c.if-is_new.false)) _ _ (rw c.is_stepped-stepped.ensures at c.note-used.ensures), c.section.invariant.1)
