-- Each way out is a law of look-up in update data.
-- Assumes nothing.
use Prim.Native.Nat.{ℕ, ◌*◌, ◌≤◌}
use mathlib.Core.Bool.{false}
use mathlib.Core.Path.{◌≡◌, sym, ap, ◌∙◌}
use native.Mathlib.Omega.{arith}
use lib.ListN.{length, drop}
use Rattle.std.proofs.lemmas.Result.{err_from_is_err_and}
use Rattle.wire.specs.declared.error.Input.TheVariants as input
use Rattle.wire.specs.Read.{Bytes, told}
use Rattle.wire.specs.Bits.{bit_set}
use Rattle.wire.proofs.Pieces.{about_was, about_err}
use Rattle.walk.specs.Rows.{place, walk}
use Rattle.walk.specs.Updates.{numbered, update_bytes, carried, update_walked}
use Rattle.row.specs.Told.{told_walk}
use Rattle.walk.proofs.Arrays.{rest}
use Rattle.walk.proofs.UpdateFound.{update_end_told}
use Rattle.walk.proofs.UpdateLaws.{update_walked_from, look_update_walk, look_update_bad, look_update_found}
use Rattle.update.proofs.updates.update_at.Goals.{After-map_bytes-size, After-walk_update-walked, Else-is_set}
use Rattle.update.proofs.updates.update_at.Goals as goal

-- the update data hold their maps
inside : (a : After-map_bytes-size) → a.map_bytes-size.result ≤ length a.args.update.now
unfolding update_bytes
inside a = omega (arith, (update_end_told a.args.columns.now a.args.update.now 0 a.args.end a.requires.2).inside)

-- null is not forced
free : (a : Else-is_set) → bit_set (drop (update_bytes a.args.columns.now) a.args.update.now) a.args.k ≡ false
unfolding update_bytes
free a =
    sym (a.if-is_set.ensures ∙ ap (λ (m : Bytes). bit_set m a.args.k) (rest a.args.update.now a.map_bytes-size.result)
    ∙ ap (λ (n : ℕ). bit_set (drop n a.args.update.now) a.args.k) a.map_bytes-size.ensures)

-- the walk to the column
walked : (a : After-walk_update-walked) → update_walked a.args.columns.now a.args.update.now 0 a.args.k ≡ told_walk a.walk_update-walked.result
unfolding update_bytes
walked a =
    let row : Bytes = a.args.update.now in
    let size : ℕ = a.map_bytes-size.result in
    sym (update_walked_from a.args.columns.now row 0 a.args.k {force = size} {start = 2 * size} (omega arith) (omega arith))
    ∙ ap (λ (m : Bytes). walk (carried row m) row a.args.k (numbered 0 a.args.columns.now) (place (2 * size) 0)) (sym (rest row size))
    ∙ sym a.walk_update-walked.ensures

pub slice_bounds-force-count : goal.slice_bounds-force-count
slice_bounds-force-count c = inside (goal.at.slice_bounds-force-count c).After-map_bytes-size

pub slice_bounds-force-start : goal.slice_bounds-force-start
slice_bounds-force-start c = inside (goal.at.slice_bounds-force-start c).After-map_bytes-size

pub returns-in_err-position : goal.returns-in_err-position
returns-in_err-position c =
    let p = err_from_is_err_and c.from_residual.result c.from_residual.ensures.1 in
    let q = about_err input.Update c.walk_update-walked.result c.about.result c.about.ensures c.in_err-position.was in
    let x = walked (goal.at.returns-in_err-position c).After-walk_update-walked ∙ ap told_walk q.1 in
    rw (p.1, p.2)
    (q.2 ∙ sym (look_update_walk c.args.columns.now c.args.update.now c.args.k c.requires.1 c.args.end c.requires.2 (sym c.if-is_chapter.ensures)
    (sym c.if-not-is_set.ensures) (free (goal.at.returns-in_err-position c).Else-is_set) x))

pub returns-in_err-f : goal.returns-in_err-f
returns-in_err-f c =
    let p = err_from_is_err_and c.from_residual-in_err-f.result c.from_residual-in_err-f.ensures.1 in
    let q = about_err input.Update c.field_at.result c.about-2.result c.about-2.ensures c.in_err-f.was in
    let w = about_was input.Update c.walk_update-walked.result c.about.result c.about.ensures c.in_ok-position.was in
    let x = walked (goal.at.returns-in_err-f c).After-walk_update-walked ∙ ap told_walk w in
    rw (p.1, p.2)
    (q.2 ∙ sym (look_update_bad c.args.columns.now c.args.update.now c.args.k c.requires.1 c.args.end c.requires.2 (sym c.if-is_chapter.ensures)
    (sym c.if-not-is_set.ensures) (free (goal.at.returns-in_err-f c).Else-is_set) c.in_ok-position.field-0.position c.in_ok-position.field-0.prefixes x
    (sym c.field_at.ensures ∙ ap told q.1)))

pub returns : goal.returns
returns c =
    let w = about_was input.Update c.walk_update-walked.result c.about.result c.about.ensures c.in_ok-position.was in
    let x = walked (goal.at.returns c).After-walk_update-walked ∙ ap told_walk w in
    let f = about_was input.Update c.field_at.result c.about-2.result c.about-2.ensures c.in_ok-f.was in
    sym (look_update_found c.args.columns.now c.args.update.now c.args.k c.requires.1 c.args.end c.requires.2 (sym c.if-is_chapter.ensures)
    (sym c.if-not-is_set.ensures) (free (goal.at.returns c).Else-is_set) c.in_ok-position.field-0.position c.in_ok-position.field-0.prefixes x
    _ (sym c.field_at.ensures ∙ ap told f))
