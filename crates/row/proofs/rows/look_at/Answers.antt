-- Each way out is a law of look-up.
-- Assumes nothing.
use Prim.Native.Nat.{◌<◌}
use mathlib.Core.Path.{◌≡◌, refl, sym, ap, ◌∙◌}
use native.Mathlib.Omega.{arith}
use lib.ListN.{length, get_or}
use Rattle.wire.specs.Read.{told, refused}
use Rattle.column.specs.declared.column.Column.{Column}
use Rattle.column.specs.Columns.{is_chapter}
use Rattle.column.specs.Fields.{field_at}
use Rattle.column.specs.Packed.{packed_from}
use Rattle.column.proofs.PackedLaws.{packed_taken}
use Rattle.walk.specs.Presence.{marks, mark_of, no_column, nullables, present}
use Rattle.walk.specs.Rows.{place, walked}
use Rattle.row.specs.Told.{told_walk}
use Rattle.walk.proofs.Laws.{look_up_chapter, look_up_null, look_up_refused, look_up_bad, look_up_found}
use Rattle.walk.proofs.Found.{walked_from, walk_few}
use Rattle.walk.proofs.Arrays.{few_prefixes}
use Rattle.walk.proofs.Slots.{length_from, asked, marked, bit_counted}
use Rattle.row.proofs.rows.look_at.Goals.{After-is_chapter, After-is_present, After-walk_row}
use Rattle.row.proofs.rows.look_at.Goals as goal

counted : (a : After-is_chapter) → a.args.k < length (packed_from (length a.args.slots.now) 0 a.args.slots.now)
counted a = omega (arith, length_from a.args.slots.now (length a.args.slots.now) 0, a.requires)

-- whether the column is a chapter
chapter : (a : After-is_chapter) → is_chapter (get_or (packed_from (length a.args.slots.now) 0 a.args.slots.now) a.args.k no_column) ≡ a.is_chapter.result
chapter a = asked a.args.slots.now is_chapter (length a.args.slots.now) a.args.k a.unpack_slot-column.result a.requires.1 a.unpack_slot-column.ensures a.is_chapter.ensures

-- whether it has a field
stands : (a : After-is_present) → present a.args.row.now (mark_of (packed_from (length a.args.slots.now) 0 a.args.slots.now) a.args.k) ≡ a.is_present.result
stands a =
    let b = a.count_nullable-bit.ensures ∙ ap nullables (packed_taken a.args.k a.args.slots.now (omega (arith, a.requires))) in
    marked a.args.slots.now (present a.args.row.now) (length a.args.slots.now) a.args.k a.unpack_slot-column.result a.count_nullable-bit.result a.requires.1 a.unpack_slot-column.ensures
    (bit_counted a.args.slots.now (length a.args.slots.now) a.args.k (omega (arith, a.requires)) b) a.is_present.ensures

-- the walk to it
walks : (a : After-walk_row) → walked (packed_from (length a.args.slots.now) 0 a.args.slots.now) a.args.row.now 0 a.args.k ≡ told_walk a.walk_row.result
walks a = sym (walked_from (packed_from (length a.args.slots.now) 0 a.args.slots.now) a.args.row.now 0 a.args.k a.args.start a.requires.2) ∙ sym a.walk_row.ensures

pub returns-then-is_chapter : goal.returns-then-is_chapter
returns-then-is_chapter c =
    let a = (goal.at.returns-then-is_chapter c).After-is_chapter in
    sym (look_up_chapter (packed_from (length c.args.slots.now) 0 c.args.slots.now) c.args.row.now c.args.k (counted a) c.args.start c.requires.2 (chapter a ∙ c.if-is_chapter.true))

pub returns-then-not-is_present : goal.returns-then-not-is_present
returns-then-not-is_present c =
    let a = (goal.at.returns-then-not-is_present c).After-is_chapter in
    let t = stands (goal.at.returns-then-not-is_present c).After-is_present in
    sym (look_up_null (packed_from (length c.args.slots.now) 0 c.args.slots.now) c.args.row.now c.args.k (counted a) c.args.start c.requires.2 (chapter a ∙ c.if-is_chapter.false)
    (t ∙ c.if-not-is_present.true))

pub returns-in-Err : goal.returns-in-Err
returns-in-Err c =
    let a = (goal.at.returns-in-Err c).After-is_chapter in
    let t = stands (goal.at.returns-in-Err c).After-is_present in
    let x = walks (goal.at.returns-in-Err c).After-walk_row ∙ ap told_walk c.in-Err.is in
    ap refused c.about.ensures
    ∙ sym (look_up_refused (packed_from (length c.args.slots.now) 0 c.args.slots.now) c.args.row.now c.args.k (counted a) c.args.start c.requires.2
    (chapter a ∙ c.if-is_chapter.false) (t ∙ c.if-not-is_present.false) x)

pub returns-in-Err-field_at : goal.returns-in-Err-field_at
returns-in-Err-field_at c =
    let a = (goal.at.returns-in-Err-field_at c).After-is_chapter in
    let t = stands (goal.at.returns-in-Err-field_at c).After-is_present in
    let x = walks (goal.at.returns-in-Err-field_at c).After-walk_row ∙ ap told_walk c.in-Ok.is in
    let f = asked c.args.slots.now (λ (x : Column). field_at x c.args.row.now c.in-Ok.field-0.position) (length c.args.slots.now) c.args.k c.unpack_slot-column.result c.requires.1 c.unpack_slot-column.ensures refl in
    ap refused c.about-in-Err-field_at.ensures
    ∙ sym (look_up_bad (packed_from (length c.args.slots.now) 0 c.args.slots.now) c.args.row.now c.args.k (counted a) c.args.start c.requires.2
    (chapter a ∙ c.if-is_chapter.false) (t ∙ c.if-not-is_present.false) c.in-Ok.field-0.position c.in-Ok.field-0.prefixes x
    (f ∙ sym c.field_at.ensures ∙ ap told c.in-Err-field_at.is))

pub overflow_add-result : goal.overflow_add-result
overflow_add-result c =
    let a = walk_few (present c.args.row.now) c.args.row.now c.args.k (marks 0 (packed_from (length c.args.slots.now) 0 c.args.slots.now)) (place c.args.start 0) _ (sym c.walk_row.ensures ∙ ap told_walk c.in-Ok.is) in
    let b = few_prefixes c.unpack_slot-column.result c.args.row.now c.in-Ok.field-0.position (sym c.field_at.ensures ∙ ap told c.in-Ok-field_at.is) in
    omega arith

pub returns-in-Ok-field_at : goal.returns-in-Ok-field_at
returns-in-Ok-field_at c =
    let a = (goal.at.returns-in-Ok-field_at c).After-is_chapter in
    let t = stands (goal.at.returns-in-Ok-field_at c).After-is_present in
    let x = walks (goal.at.returns-in-Ok-field_at c).After-walk_row ∙ ap told_walk c.in-Ok.is in
    let f = asked c.args.slots.now (λ (x : Column). field_at x c.args.row.now c.in-Ok.field-0.position) (length c.args.slots.now) c.args.k c.unpack_slot-column.result c.requires.1 c.unpack_slot-column.ensures refl in
    sym (look_up_found (packed_from (length c.args.slots.now) 0 c.args.slots.now) c.args.row.now c.args.k (counted a) c.args.start c.requires.2
    (chapter a ∙ c.if-is_chapter.false) (t ∙ c.if-not-is_present.false) c.in-Ok.field-0.position c.in-Ok.field-0.prefixes x
    _ (f ∙ sym c.field_at.ensures ∙ ap told c.in-Ok-field_at.is))
