-- Inner: what the contracts of inner functions cite: one row's answer, and one pass over the rows.
-- Assumes nothing.
use Rattle.std.specs.Prelude.{ℕ, ◌+◌, ◌*◌, ◌≡◌, List, [], ◌∷◌, length, Result, Ok, Err}
use Rattle.batch.specs.declared.search.RowSpan.{RowSpan}
use Rattle.wire.specs.declared.error.Error.{Error}
use Rattle.wire.specs.Read.{Read, ok, bad, refused}
use Rattle.wire.specs.Output.{put}
use Rattle.batch.specs.Spans.{Span, span, span_numbers}

-- what the `Result` says
abbrev pub told_span : Result RowSpan Error → Read Span
told_span (Ok x) = ok (span x.start x.end)
told_span (Err e) = refused e

-- numbers with spans laid into them, the first as span i; a span that does not fit leaves them
unfoldable pub laid_from : ℕ → List Span → List ℕ → List ℕ
laid_from i [] numbers = numbers
laid_from i (x ∷ xs) numbers = laid_from (i + 1) xs (put numbers (2 * i) (span_numbers x))

-- How many spans a pass has found, and the numbers with those laid in that they have room for.
pub record Pass : Type 0 where
  pub count : ℕ
  pub numbers : List ℕ

abbrev pub pass : ℕ → List ℕ → Pass
pass n l = record { count = n; numbers = l }

-- a pass that has come so far, with these spans ahead
unfoldable pub passed : Pass → Read (List Span) → Read Pass
passed w (ok xs) = ok (pass (w.count + length xs) (laid_from w.count xs w.numbers))
passed w (bad code offset about) = bad code offset about

-- what a pass answers, with the numbers that it leaves
abbrev pub told_pass : Result ℕ Error → List ℕ → Read Pass
told_pass (Ok n) exit = ok (pass n exit)
told_pass (Err e) exit = refused e

-- What a pass over rows promises: the spans or the first error, and numbers of the same length.
pub record Scanned (xs : Read (List Span)) (entry exit : List ℕ) (answer : Result ℕ Error) : Type 0 where
  pub told : told_pass answer exit ≡ passed (pass 0 entry) xs
  pub long : length exit ≡ length entry
