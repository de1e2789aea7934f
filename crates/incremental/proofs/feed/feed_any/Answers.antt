-- Up to the limit.
-- Assumes nothing.
use mathlib.Core.Path.{◌≡◌}
use native.Mathlib.Omega.{arith}
use lib.ListN.{length}
use borrow.Author.Rules.{rules}
use Rattle.tree.specs.Table.{schemas_in}
use Rattle.incremental.proofs.FeedLaws.{taken_cut}
use Rattle.incremental.proofs.feed.feed_any.Goals as goal

pub returns-then-size-fragment : goal.returns-then-size-fragment
returns-then-size-fragment c =
    let l : length c.args.reader.now.held ≡ 16 = search rules in
    rw c.at-then-size-fragment.ensures (taken_cut (schemas_in 0 c.args.place.schemas c.args.slots.now) c.args.reader.now c.args.fragment.now l c.requires.1 _ (omega (arith, c.min-size.ensures, c.total-before.ensures)) _ c.in_ok-next.ensures c.if-size-fragment.true)
