-- A refusal leaves the output; else the parts that are laid are the options' bytes.
-- Assumes nothing.
use Prim.Native.Nat.{◌+◌, ◌≤◌}
use mathlib.Core.Path.{◌≡◌, sym, ◌∙◌}
use lib.ListN.{length}
use Rattle.wire.specs.Read.{ok}
use Rattle.wire.proofs.Laws.{wrote_error, wrote_exit, wrote_piece, fitting_fits, fitting_not}
use Rattle.options.specs.Options.{options_bytes, options_size, options_written}
use Rattle.options.proofs.Laws.{Sized, options_sized_lem, length_options, options_laid}
use native.Mathlib.Omega.{arith}
use Rattle.options.proofs.options.write_options.Goals as goal
use Rattle.options.proofs.options.write_options.Goals.{In_ok-size}

-- the strings and the async option are allowed
allowed : (c : In_ok-size) → options_size (length c.args.first.now) (length c.args.second.now) (length c.args.third.now) c.args.asynchronous ≡ ok c.in_ok-size.size
allowed c = rw c.from.ensures at (sym c.in_ok-size.ensures)

-- the size is their sum
sized : (c : In_ok-size) → Sized (length c.args.first.now) (length c.args.second.now) (length c.args.third.now) c.args.asynchronous c.in_ok-size.size
sized c = options_sized_lem _ _ _ _ _ (allowed c)

-- the length of all that is written
whole : (c : In_ok-size) → length (options_bytes c.args.first.now c.args.second.now c.args.third.now c.args.asynchronous) ≡ 3 + c.in_ok-size.size
whole c = length_options c.args.first.now c.args.second.now c.args.third.now c.args.asynchronous ∙ omega (arith, (sized c).sizes.sum)

pub returns-in_err-size : goal.returns-in_err-size
unfolding options_written
returns-in_err-size c =
    wrote_exit _ c.args.out.now _ _ c.from_residual.ensures.1 (let e = rw c.from.ensures at (sym c.in_err-size.ensures) in simp e)

pub returns-then-out-size : goal.returns-then-out-size
unfolding options_written
returns-then-out-size c =
    let k = (goal.at.returns-then-out-size c).In_ok-size in
    let l = whole k in
    wrote_error _ c.args.out.now _
    (simp (
      allowed k,
      fitting_not (options_bytes c.args.first.now c.args.second.now c.args.third.now c.args.asynchronous) (length c.args.out.now) (rw l c.if-out-size.true),
      l,
      c.about.ensures,
      c.at.ensures,
    ))

pub returns : goal.returns
unfolding options_written
returns c =
    let k = (goal.at.returns c).In_ok-size in
    let l = whole k in
    let room : 3 + c.in_ok-size.size ≤ length c.args.out.now = c.if-out-size.false in
    wrote_piece _ (options_bytes c.args.first.now c.args.second.now c.args.third.now c.args.asynchronous) c.args.out.now _ (3 + c.in_ok-size.size)
    (simp (
      allowed k,
      fitting_fits (options_bytes c.args.first.now c.args.second.now c.args.third.now c.args.asynchronous) (length c.args.out.now) (rw l room),
    ))
    (sym l)
    (options_laid c.args.out.now _ _ _ _ _ c.args.first.now c.args.second.now c.args.third.now c.args.asynchronous c.in_ok-size.size (sized k).sizes room
    c.put_head.ensures c.put_string.ensures c.put_string-2.ensures c.put_string-3.ensures c.put_u16.ensures)
