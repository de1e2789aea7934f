-- The loop copies number after number: `paste` of as many as have been copied.
-- Assumes nothing.
use Prim.Native.Nat.{◌<◌, ◌+◌}
use mathlib.Core.Path.{◌≡◌, refl, sym, ap, ◌∙◌}
use mathlib.Core.List.{List}
use native.Mathlib.Numerals.{add-one}
use lib.ListN.{length, get_or, set, length-set}
use lib.Seq.{paste, paste-zero, paste-suc}
use native.Mathlib.Omega.{arith}
use Rattle.std.proofs.lemmas.Grind.{common_steps}
use Rattle.wire.proofs.Laws.{put_paste}
use Rattle.wire.proofs.bytes.copy_into.Goals as goal

pub loop-i-init : goal.loop-i-init
loop-i-init g c =
    let a = c.args in
    (grind (arith, common_steps), refl, paste-zero a.out.now a.at a.part.now)

pub loop-i-preserved : goal.loop-i-preserved
loop-i-preserved g c =
    let l = c.loop-i in
    let a = c.args in
    let h : a.at + l.i < length a.out.now = omega (arith, l.invariant.0, c.loop-i-test.true) in (
      l.invariant.0,
      length-set l.out (a.at + l.i) c.index-part-i.result ∙ l.invariant.1,
      ap (set l.out (a.at + l.i)) c.index-part-i.is
          ∙ ap (λ (x : List g.row.T.Denot). set x (a.at + l.i) (get_or a.part.now l.i c.index-part-i.result)) l.invariant.2
          ∙ paste-suc a.out.now a.at a.part.now l.i c.index-part-i.result h c.loop-i-test.true
          ∙ ap (paste a.out.now a.at a.part.now) (sym (add-one l.i)),
    )

pub returns : goal.returns
returns g c =
    let l = c.loop-i in
    let a = c.args in
    let e : l.i ≡ length a.part.now = omega (arith, l.auto.i-end, c.loop-i-test.false) in
    l.invariant.2 ∙ ap (paste a.out.now a.at a.part.now) e ∙ sym (put_paste _ _ _ l.invariant.0)
