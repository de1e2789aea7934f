-- One column after the other.
-- Assumes nothing.
use mathlib.Core.Path.{sym, ap, ◌∙◌}
use Rattle.column.specs.Layout.{blank_column}
use Rattle.encode.specs.Steps.{bit_of}
use Rattle.encode.proofs.Arrays.{fill_start, fill_next, fill_skip, fill_end}
use Rattle.encode.proofs.row.Row.bits.Goals.{then-has_bit, else-has_bit}
use Rattle.encode.proofs.row.Row.bits.Goals as goal

pub loop-i-init : goal.loop-i-init
loop-i-init c = fill_start _ _ _ _

pub loop-i-preserved : goal.loop-i-preserved
loop-i-preserved c = elim c.if-has_bit.branch [
  | then-has_bit w ↦
      rw (w.bits-is, w.count-is)
      (fill_next _ _ _ _ c.loop-i.invariant blank_column c.loop-i-test.true c.args.self.now.few
      (sym c.has_bit.ensures ∙ w.if-has_bit.true) (w.bit_of.ensures ∙ ap (bit_of c.args.map) w.entry.ensures))
  | else-has_bit w ↦ rw (w.bits-is, w.count-is) (fill_skip _ _ _ _ c.loop-i.invariant blank_column c.loop-i-test.true (sym c.has_bit.ensures ∙ w.if-has_bit.false))
]

pub returns : goal.returns
returns c = fill_end _ _ _ _ c.loop-i.invariant c.args.self.now.few c.loop-i-test.false
