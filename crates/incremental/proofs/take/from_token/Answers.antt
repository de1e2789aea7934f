-- Whole elements are passed, or one token is read.
-- Assumes nothing.
use native.Mathlib.Omega.{arith}
use Rattle.incremental.specs.Steps.{schemas_of}
use Rattle.incremental.specs.Parts.{before_told}
use Rattle.incremental.proofs.StateLaws.{place_between}
use Rattle.incremental.proofs.PassLaws.{passes_behind}
use Rattle.incremental.proofs.TakeLaws.{moved_elements}
use Rattle.incremental.proofs.take.from_token.Goals as goal

pub returns-then-at-to : goal.returns-then-at-to
returns-then-at-to c =
    let p = c.pass_elements-passed.ensures.passes c.args.sheet.now.sound c.requires.0.shaped c.requires.0.steps c.child_of-child.ensures.1 (omega (arith, c.requires)) (omega (arith, c.requires)) in
    moved_elements (schemas_of c.args.sheet.now) c.args.fragment.now c.args.at c.args.r.now _ (before_told c.before-before.result) c.requires.2 c.before-before.ensures (omega (arith, place_between c.args.r.now c.requires.2, c.requires)) c.if-at-to.true p.inside
    (passes_behind c.args.sheet.now.slots.now c.args.sheet.now.schemas c.args.fragment.now (before_told c.before-before.result) c.child_of-child.ensures.0 p.passes c.if-at-to.true) c.behind_elements.ensures
