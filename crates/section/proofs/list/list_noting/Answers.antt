-- The pass that checks and notes; then the room, and the pass that fills.
-- Assumes nothing.
use Prim.Native.Nat.{ℕ}
use mathlib.Core.Path.{ap, ◌∙◌}
use native.Mathlib.Omega.{arith}
use Rattle.std.proofs.lemmas.Result.{err_from_is_err_and}
use Rattle.wire.specs.declared.error.Error.{Error}
use Rattle.wire.specs.Read.{about}
use Rattle.wire.specs.declared.error.Input.TheVariants as input
use Rattle.wire.specs.declared.error.ErrorKind.TheVariants as error
use Rattle.tree.specs.Table.{schemas_in}
use Rattle.section.proofs.Listing.{rows_about, fitting_refused, fitting_full, fitting_count}
use Rattle.section.proofs.list.list_noting.Goals as goal

pub fill-requires : goal.fill-requires
fill-requires g c =
    let (rs, q, z) = rows_about input.Section _ c.in_ok-n.n (c.in_ok-n.ensures ∙ ap (about input.Section) c.scan.ensures.0.answers) in
    (c.requires.0, record { rows = rs; splits = q; some = c.scan.ensures.0.notes rs q })

pub returns-in_err-n : goal.returns-in_err-n
returns-in_err-n g c =
    let p = err_from_is_err_and c.from_residual.result c.from_residual.ensures.1 in
    rw (p.1, p.2) (fitting_refused (schemas_in 0 c.args.sheet.now.schemas c.args.sheet.now.slots.now) c.args.sheet.now.section.now c.args.table.now _ (c.in_err-n.ensures ∙ ap (about input.Section) c.scan.ensures.0.answers))

pub returns-then-table-n : goal.returns-then-table-n
returns-then-table-n g c =
    let (rs, q, z) = rows_about input.Section _ c.in_ok-n.n (c.in_ok-n.ensures ∙ ap (about input.Section) c.scan.ensures.0.answers) in
    fitting_full (schemas_in 0 c.args.sheet.now.schemas c.args.sheet.now.slots.now) c.args.sheet.now.section.now c.args.table.now rs q _
    (c.about-then-table-n.ensures
    ∙ ap (λ (e : Error). record { kind = e.kind; offset = e.offset; input = input.Table }) c.at.ensures
    ∙ ap (λ (o : ℕ). record { kind = error.Capacity; offset = o; input = input.Table }) z)
    (omega (arith, z, c.if-table-n.true))

pub returns : goal.returns
returns g c =
    let (rs, q, z) = rows_about input.Section _ c.in_ok-n.n (c.in_ok-n.ensures ∙ ap (about input.Section) c.scan.ensures.0.answers) in
    fitting_count (schemas_in 0 c.args.sheet.now.schemas c.args.sheet.now.slots.now) c.args.sheet.now.section.now c.args.table.now rs q _ c.in_ok-n.n z (omega (arith, z, c.if-table-n.false)) (c.fill.ensures rs q)
