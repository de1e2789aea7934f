-- Promise: which archive this is.
-- Assumes nothing.
use Rattle.std.specs.Prelude.{ℕ, List, [], ◌∷◌}

-- The number of a version, 10,000 times the major one, 100 times the minor one and the patch; and that of the layout of plans.
pub record Version : Type 0 where
  pub number : ℕ
  pub layout : ℕ

-- version 0.2.0, and the first layout of plans that has a number
abbrev pub version : Version
version = record { number = 200; layout = 1 }

-- the values of a version
abbrev pub version_values : Version → List ℕ
version_values v = v.number ∷ v.layout ∷ []
