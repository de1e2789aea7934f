-- By computing it.
-- Assumes nothing.
use mathlib.Core.Path.{refl}
use Rattle.wire.specs.Bits.{map_bytes}
use Rattle.column.specs.Layout.{padded}
use Rattle.walk.specs.Presence.{nullables, presence_bytes, marks}
use Rattle.walk.specs.Leaps.{stops_from}
use Rattle.plan.specs.Packed.{counted, laid}
use Rattle.plan.specs.Plans.{numbers_from, first_stop, chapter_mask, plan_of}
use Rattle.adtg_c.proofs.plans.blank_plan.Goals as goal

pub returns : goal.returns
unfolding plan_of laid padded counted presence_bytes map_bytes nullables marks numbers_from stops_from first_stop chapter_mask
returns c = refl
