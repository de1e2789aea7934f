-- The loop goes on with one more schema, which is lent its columns.
-- Assumes nothing.
use mathlib.Core.Path.{sym, ◌∙◌}
use mathlib.Core.Bool.{true≢false}
use native.Mathlib.Omega.{arith}
use lib.ListN.{get_or}
use Rattle.tree.specs.Table.{schema_slot, start_in, count_in}
use Rattle.shapes.proofs.Slots.{slots_lent}
use Rattle.shapes.proofs.ShapesMade.{keep_start, keep_next, keep_room}
use Rattle.shapes.proofs.shapes.keep_schemas.Goals as goal

pub loop-k-init : goal.loop-k-init
loop-k-init c = keep_start c.args.slots.now c.args.schemas c.args.shapes.now c.if-schemas-gt-SCHEMAS.false

pub returns-then-not-has_room : goal.returns-then-not-has_room
returns-then-not-has_room c =
    record {
      long = c.loop-k.invariant.long;
      shaped = λ s e.
          let yes = c.has_room.ensures.1 (keep_room c.loop-k.invariant c.loop-k-test.true c.min-room.ensures s e) in
          absurd (true≢false (sym yes ∙ c.if-not-has_room.true));
    }

pub loop-k-preserved : goal.loop-k-preserved
loop-k-preserved c =
    let room = c.has_room.ensures.0 c.if-not-has_room.false in
    let slot = get_or c.args.slots.now (schema_slot c.loop-k.k) 0 in
    keep_next c.loop-k.invariant c.loop-k-test.true room (omega (arith, c.min-room.ensures))
    (rw (slots_lent c.args.slots.now (start_in slot) (count_in slot) (omega (arith, room.inside))) at c.add_schema.ensures)
