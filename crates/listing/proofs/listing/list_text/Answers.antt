-- The line of an error, or the number of rows and their lines; rows that were read lie in the table.
-- Assumes nothing.
use Rattle.wire.specs.Read.{told}
use Prim.Native.Nat.{◌*◌, ◌≤◌, ◌/◌}
use mathlib.Core.Path.{refl, sym, ap, ◌∙◌}
use native.Mathlib.Omega.{arith}
use lib.ListN.{length, take}
use lib.Seq.{length-take-le}
use Rattle.listing.specs.Lines.{Text}
use Rattle.listing.specs.Listing.{listing}
use Rattle.listing.proofs.Laws.{rows_room, error_text, listing_text, front_lines}
use Rattle.listing.proofs.listing.list_text.Goals as goal
use Rattle.listing.proofs.listing.list_text.Goals.{In-Ok, After-add_rows}

-- the rows that were read lie in the table
room : (c : In-Ok) → c.in-Ok.n ≤ length c.args.table.now / 4
room c = rows_room _ _ _ _ (sym (ap told c.in-Ok.is) ∙ c.list_rows.ensures.answers)

front : (c : In-Ok) → 4 * c.in-Ok.n ≤ length c.list_rows.new.table
front c = omega (arith, room c, c.list_rows.auto)

pub overflow_mul-n : goal.overflow_mul-n
overflow_mul-n c = omega (arith, front (goal.at.overflow_mul-n c).In-Ok)

pub slice_bounds-add_rows-end : goal.slice_bounds-add_rows-end
slice_bounds-add_rows-end c = front (goal.at.slice_bounds-add_rows-end c).In-Ok

pub slice_bounds-add_rows-end-in-Ok : goal.slice_bounds-add_rows-end-in-Ok
slice_bounds-add_rows-end-in-Ok c = sym (length-take-le (4 * c.in-Ok.n) c.list_rows.new.table (front (goal.at.slice_bounds-add_rows-end-in-Ok c).In-Ok))

pub add_rows-requires : goal.add_rows-requires
add_rows-requires c =
    let k = (goal.at.add_rows-requires c).In-Ok in
    omega (arith, room k, length-take-le (4 * c.in-Ok.n) c.list_rows.new.table (front k), c.add_count-at.ensures.few, c.add_count-at.auto, c.requires)

pub returns-in-Err-clause-text : goal.returns-in-Err-clause-text
returns-in-Err-clause-text c =
    (error_text _ _ _ c.in-Err.e (sym (ap told c.in-Err.is) ∙ c.list_rows.ensures.answers) (omega (arith, c.requires)) c.add_error.ensures).1

-- what the two parts of the text are
laid : (c : After-add_rows) → 4 * c.in-Ok.n ≤ length c.list_rows.new.table → (c.add_rows.result ≤ length c.add_rows.new.text) × Text (listing c.args.sheet.now c.args.rows.now (length c.args.table.now)) (take c.add_rows.result c.add_rows.new.text)
laid c h =
    listing_text _ _ _ c.args.table.now _ refl (sym (ap told c.in-Ok.is) ∙ c.list_rows.ensures.answers) c.list_rows.ensures.leaves c.requires c.add_count-at.ensures
    (front_lines c.in-Ok.n c.list_rows.new.table h c.add_rows.ensures)

pub returns-in-Ok-clause-size : goal.returns-in-Ok-clause-size
returns-in-Ok-clause-size c = let g = goal.at.returns-in-Ok-clause-size c in (laid g.After-add_rows (front g.In-Ok)).0

pub returns-in-Ok-clause-text : goal.returns-in-Ok-clause-text
returns-in-Ok-clause-text c = let g = goal.at.returns-in-Ok-clause-text c in (laid g.After-add_rows (front g.In-Ok)).1
