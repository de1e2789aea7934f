-- Inner: what contracts of inner functions cite: bounds; the first checks.
-- Assumes nothing.
use Rattle.std.specs.Prelude.{ℕ, ◌+◌, ◌*◌, ◌≤◌, ◌<◌, ◌≡◌, map, eqb, Result, Ok, Err}
use Rattle.row.specs.declared.rows.Walked.{Walked}
use Rattle.wire.specs.declared.error.Error.{Error}
use Rattle.wire.specs.declared.error.Input.TheVariants as input
use Rattle.wire.specs.Read.{Bytes, Read, ok, bad, refused, ◌>>=◌, pick, about, sized}
use Rattle.wire.specs.Bits.{bit_set}
use Rattle.maps.specs.Maps.{top_bit}
use Rattle.column.specs.declared.field.Field.{Field}
use Rattle.column.specs.Stops.{Stop, span_at, span_error}
use Rattle.walk.specs.Presence.{one}
use Rattle.walk.specs.Rows.{Place, place, reached, Answer, field}
use Rattle.plan.specs.declared.plan.Plan.{Plan}
use Rattle.jump.specs.declared.look.Way.{Way}
use Rattle.walk.specs.Leaps.{leaps}
use Rattle.plan.specs.Plans.{planned_known, planned_stop}
use Rattle.jump.specs.Jumps.{tabled, by_bit}

-- Where a way over stops has come to.
abbrev pub come : Way → Place
come w = place (w.base + w.length) w.prefixes

abbrev pub told_way : Result Way Error → Read Place
told_way (Ok w) = ok (come w)
told_way (Err e) = refused e

-- A step of the way ends no further than this, with one prefix more at most: what keeps its numbers small.
abbrev pub Near : (most prefixes : ℕ) → Result Way Error → Type 0
Near most prefixes (Ok w) = (w.base + w.length ≤ most) × (w.prefixes ≤ prefixes + 1)
Near most prefixes (Err e) = Unit {0}

-- Behind j stops a way has come no further than this.
pub record Far (j : ℕ) (w : Way) : Type 0 where
  pub near : w.base + w.length ≤ 4295032836 * j
  pub few : w.prefixes ≤ j

abbrev pub Behind : (j : ℕ) → Result Way Error → Type 0
Behind j (Ok w) = Far j w
Behind j (Err e) = Unit {0}

-- over n of the stops listed, from number j on
abbrev pub way_over : Plan → Bytes → (n j : ℕ) → Place → Read Place
way_over p row n j w = leaps (bit_set row) row (map by_bit (tabled (planned_stop p) n j)) w

-- A way has come no further than this.
abbrev pub Small : (most : ℕ) → Result Walked Error → Type 0
Small most (Ok w) = (w.position ≤ most) × (w.prefixes ≤ 64)
Small most (Err e) = Unit {0}

-- a number has the first bits of a row's map
abbrev pub BitsOf : Bytes → ℕ → Type 0
BitsOf row bits = (i : ℕ) → i < 64 → top_bit bits i ≡ one (bit_set row i)

-- past a stop that the row has, whose field stands at p
abbrev pub over : Stop → Bytes → (p prefixes : ℕ) → Read Place
over t s p prefixes =
    pick (eqb (span_error t s p) 0) (ok (place (p + span_at t s p) (prefixes + one t.variable))) (bad (span_error t s p) p input.Single)

-- what a look-up answers by the field at a place
abbrev pub found_in : Place → Read Field → Read Answer
found_in w (ok f) = ok (field (reached w f))
found_in w (bad code offset _) = bad code offset input.Row

-- What is checked before a row is looked at: its size (19), the column number (18).
unfoldable pub asked : Plan → Bytes → ℕ → Read (Unit {0})
asked p row k = do
  _ ← about input.Row (sized row)
  planned_known p k
