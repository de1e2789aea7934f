-- Whether a row is an owner's, by its kind and its id.
-- Assumes nothing.
use Prim.Native.Nat.{ℕ, ◌+◌, ◌*◌, ◌<◌}
use mathlib.Core.Bool.{Bool, true, false, not}
use mathlib.Core.Path.{◌≡◌, sym}
use mathlib.Core.List.{List}
use native.Mathlib.Omega.{arith}
use lib.ListN.{get_or}
use lib.Dec.{eqb}
use borrow.Author.Tests.{eq-eqb, ne_eqb}
use Rattle.wire.specs.Read.{pick}
use Rattle.batch.specs.Spans.{row_at, parents, owner_of}

module _ (table : List ℕ) (i owner : ℕ) where
  -- the owner is the parent, which no id is
  pub owned_parent : owner ≡ parents → get_or table (4 * i + 1) 0 < parents → eqb (owner_of (row_at table i)) owner ≡ eqb (get_or table (4 * i) 0) 1
  unfolding owner_of
  owned_parent e l = go (eqb (get_or table (4 * i) 0) 1)
    where
      go : (t : Bool) → eqb (pick t parents (get_or table (4 * i + 1) 0)) owner ≡ t
      go true = eq-eqb _ _ (sym e)
      go false = ne_eqb _ _ (λ (q : get_or table (4 * i + 1) 0 ≡ owner). omega (arith, l))

  module _ (d : owner ≡ parents → ⊥) where
    -- a row with another id
    pub owned_other : (get_or table (4 * i + 1) 0 ≡ owner → ⊥) → eqb (owner_of (row_at table i)) owner ≡ false
    unfolding owner_of
    owned_other n = go (eqb (get_or table (4 * i) 0) 1)
      where
        go : (t : Bool) → eqb (pick t parents (get_or table (4 * i + 1) 0)) owner ≡ false
        go true = ne_eqb _ _ (λ q. d (sym q))
        go false = ne_eqb _ _ n

    -- a row with this id is the child's, unless it is a parent
    pub owned_child : get_or table (4 * i + 1) 0 ≡ owner → eqb (owner_of (row_at table i)) owner ≡ not (eqb (get_or table (4 * i) 0) 1)
    unfolding owner_of
    owned_child e = go (eqb (get_or table (4 * i) 0) 1)
      where
        go : (t : Bool) → eqb (pick t parents (get_or table (4 * i + 1) 0)) owner ≡ not t
        go true = ne_eqb _ _ (λ q. d (sym q))
        go false = eq-eqb _ _ e
