-- The next number, or the end.
-- Assumes nothing.
use mathlib.Core.Path.{sym}
use native.Mathlib.Omega.{arith}
use Rattle.tree.proofs.Offsets.{number_inside, number_small}
use Rattle.numbers.proofs.Walking.{left_next, left_end}
use Rattle.numbers.proofs.listing.next_number.Goals as goal

pub overflow_cast-result : goal.overflow_cast-result
overflow_cast-result c =
    let i = number_inside _ _ _ _ (sym c.in-Ok.ensures) in
    omega (arith, number_small _ _ _ _ (λ j. (c.type_inv.file j).fits) (omega (arith, i)) (sym c.in-Ok.ensures))

pub returns-in-Ok : goal.returns-in-Ok
returns-in-Ok c = left_next _ _ _ _ (sym c.in-Ok.ensures)

pub returns-in-Err : goal.returns-in-Err
returns-in-Err c = left_end _ _ (sym c.in-Err.ensures)
