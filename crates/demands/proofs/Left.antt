-- Demand 1: after a refusal what was lent holds what it held: an output, from its start or from a place on, the tables, the spans of a batch and of a page.
-- Assumes nothing.
use Rattle.std.specs.Prelude.{Result}
use Rattle.batch.specs.declared.page.PageCount.{PageCount}
use Rattle.wire.specs.declared.error.Error.{Error}
use Prim.Native.Nat.{ℕ}
use mathlib.Core.Path.{◌≡◌, sym, ◌∙◌}
use mathlib.Core.List.{List}
use Rattle.wire.specs.declared.error.Input.{Input}
use Rattle.wire.specs.Read.{Bytes, Read, ok, bad, told}
use Rattle.wire.specs.Output.{output_after, size_of, Wrote}
use Rattle.wire.proofs.Pieces.{bad_ok}
use Rattle.numbers.specs.Writer.{Lists}
use Rattle.encode.specs.Writers.{output_with, WroteAt}
use Rattle.grammar.specs.Grammar.{Row}
use Rattle.section.specs.Table.{table_after}
use Rattle.section.specs.Table as table
use Rattle.batch.specs.Spans.{Span, spans_after, Batched}
use Rattle.batch.specs.Pages.{Page, page_after, told_page, Paged}

pub output_left :
    {piece : Read Bytes} {entry exit : Bytes} {answer : (Result ℕ Error)} → Wrote piece entry exit answer → (code offset : ℕ) (i : Input) →
    told answer ≡ bad code offset i → exit ≡ entry
unfolding output_after size_of
output_left {piece = ok piece} w code offset i e = absurd (bad_ok (sym e ∙ w.answers))
output_left {piece = bad c o j} w code offset i e = w.leaves

pub row_output_left :
    {piece : Read Bytes} {at : ℕ} {entry exit : Bytes} {answer : (Result ℕ Error)} → WroteAt piece at entry exit answer → (code offset : ℕ) (i : Input) →
    told answer ≡ bad code offset i → exit ≡ entry
unfolding output_with size_of
row_output_left {piece = ok piece} w code offset i e = absurd (bad_ok (sym e ∙ w.answers))
row_output_left {piece = bad c o j} w code offset i e = w.leaves

pub numbers_left :
    {ns : Read (List ℕ)} {entry exit : List ℕ} {answer : (Result ℕ Error)} → Lists ns entry exit answer → (code offset : ℕ) (i : Input) →
    told answer ≡ bad code offset i → exit ≡ entry
unfolding output_after size_of
numbers_left {ns = ok ns} w code offset i e = absurd (bad_ok (sym e ∙ w.answers))
numbers_left {ns = bad c o j} w code offset i e = w.leaves

pub rows_left :
    {rs : Read (List Row)} {entry exit : List ℕ} {answer : (Result ℕ Error)} → table.Listed rs entry exit answer → (code offset : ℕ) (i : Input) →
    told answer ≡ bad code offset i → exit ≡ entry
unfolding table_after
rows_left {rs = ok rs} w code offset i e = absurd (bad_ok (sym e ∙ w.answers))
rows_left {rs = bad c o j} w code offset i e = w.leaves

pub spans_left :
    {xs : Read (List Span)} {entry exit : List ℕ} {answer : (Result ℕ Error)} → Batched xs entry exit answer → (code offset : ℕ) (i : Input) →
    told answer ≡ bad code offset i → exit ≡ entry
unfolding spans_after
spans_left {xs = ok xs} w code offset i e = absurd (bad_ok (sym e ∙ w.answers))
spans_left {xs = bad c o j} w code offset i e = w.leaves

pub page_left :
    {p : Read Page} {entry exit : List ℕ} {answer : (Result PageCount Error)} → Paged p entry exit answer → (code offset : ℕ) (i : Input) →
    told_page answer ≡ bad code offset i → exit ≡ entry
unfolding page_after
page_left {p = ok p} w code offset i e = absurd (bad_ok (sym e ∙ w.answers))
page_left {p = bad c o j} w code offset i e = w.leaves
