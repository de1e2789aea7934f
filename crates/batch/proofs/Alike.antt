-- A batch asks nothing of its look-up but the answers: two that answer alike on every part give the same batch.
-- Assumes nothing.
use Prim.Native.Nat.{ℕ}
use mathlib.Core.Path.{◌≡◌, refl}
use mathlib.Core.List.{List, [], ◌∷◌}
use lib.ListN.{drop}
use Rattle.wire.specs.Read.{Bytes, Read}
use Rattle.walk.specs.Rows.{Answer}
use Rattle.grammar.specs.Grammar.{Row}
use Rattle.batch.specs.Spans.{rows_of, start_in, span_in, spans_in, spans_by}

module _ (look other : Bytes → Read Answer) (same : (part : Bytes) → look part ≡ other part) (s : Bytes) where
  pub span_alike : (start : ℕ) → span_in look s start ≡ span_in other s start
  unfolding span_in
  span_alike start = rw (same (drop (start_in s start) s)) refl

  spans_alike : (owner : ℕ) (rs : List Row) → spans_in look s owner rs ≡ spans_in other s owner rs
  unfolding spans_in
  spans_alike owner [] = refl
  spans_alike owner (r ∷ rs) = rw (span_alike r.original, spans_alike owner rs) refl

  pub batch_alike : (rows : List ℕ) (owner room : ℕ) → spans_by look s rows owner room ≡ spans_by other s rows owner room
  unfolding spans_by
  batch_alike rows owner room = rw (spans_alike owner (rows_of rows)) refl
