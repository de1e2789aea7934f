-- There are as many numbers as are left at the start.
-- Assumes nothing.
use Prim.Native.Nat.{ℕ}
use mathlib.Core.Path.{◌≡◌, refl, ap, ◌∙◌}
use mathlib.Core.Logic.{inl}
use lib.ListN.{length}
use native.Mathlib.Omega.{arith}
use Rattle.std.proofs.lemmas.Iterator.Consumers.{YieldsList-from_first, count_from_yields_List}
use Rattle.numbers.specs.declared.listing.Numbers.{Numbers}
use Rattle.numbers.specs.Listing.{numbers_left}
use Rattle.numbers.proofs.Walking.{left_few, left_file}
use Rattle.numbers.proofs.listing.count_numbers.Goals as goal

pub count-requires-clause-fits : goal.count-requires-clause-fits
count-requires-clause-fits c = inl (omega (arith, left_few c.args.file.now 0))

pub returns : goal.returns
returns c =
    let e : c.count.result ≡ length (numbers_left c.args.file.now 0) =
    count_from_yields_List _ c.count.result c.count.ensures.ran
    (YieldsList-from_first (λ (x : ℕ). x) (λ (s : Numbers). numbers_left s.file.now s.at) (numbers_left c.args.file.now 0) refl) in
    λ t h. e ∙ ap length (left_file c.args.file.now (λ i. (c.type_inv.file i).fits) t h)
