-- Its token, and the id of the 87 element before it.
-- Assumes nothing.
use Rattle.std.proofs.lemmas.Grind.{common_steps}
use Prim.Native.Nat.{◌<◌}
use mathlib.Core.Path.{◌≡◌, sym, ◌∙◌}
use lib.ListN.{length, get_or}
use native.Mathlib.Omega.{arith}
use Rattle.section.proofs.ElementLaws.{deleted_by}
use Rattle.section.proofs.elements.is_deleted.Goals.{then-at-sheet, else-at-sheet}
use Rattle.section.proofs.elements.is_deleted.Goals as goal

pub returns-then-sheet-at : goal.returns-then-sheet-at
returns-then-sheet-at c =
    let p : (c.args.at < length c.args.sheet.now.section.now) × (get_or c.args.sheet.now.section.now c.args.at 0 ≡ 0x8C) =
    elim c.if-at-sheet.branch [ then-at-sheet w ↦ grind (arith, common_steps) | else-at-sheet w ↦ grind (arith, common_steps) ] in
    λ e. deleted_by c.args.sheet.now.slots.now c.args.sheet.now.section.now c.args.child c.args.at c.paired_id.result p.0 p.1 c.paired_id.ensures (sym c.is_ok.ensures.value ∙ e)
