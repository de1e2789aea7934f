-- Inner: the numbers that bytes have, one after the other.
-- Assumes nothing.
use Rattle.std.specs.Prelude.{ℕ, zero, suc, ◌-◌, List, [], ◌∷◌, length}
use Rattle.wire.specs.Read.{Bytes, Read, ok, bad}
use Rattle.tree.specs.Numbers.{Found, number_at}

-- a number that was found, and the rest behind it
abbrev pub with_rest : (ℕ → List ℕ) → Read Found → List ℕ
with_rest rest (ok n) = n.value ∷ rest n.at
with_rest rest (bad code offset about) = []

-- the numbers from `at` on, up to the first that is refused: at most k
unfoldable pub numbers_from : ℕ → Bytes → ℕ → List ℕ
numbers_from zero b at = []
numbers_from (suc k) b at = with_rest (λ p. numbers_from k b p) (number_at b at)

-- all of them
unfoldable pub numbers_left : Bytes → ℕ → List ℕ
numbers_left b at = numbers_from (length b - at) b at
