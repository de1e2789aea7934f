-- Which listings are refused, and what is printed of a refusal.
-- Assumes nothing.
use Prim.Native.Nat.{ℕ, ◌≤◌, ◌<◌}
use mathlib.Core.Path.{◌≡◌, refl, sym, ◌∙◌}
use mathlib.Core.List.{List}
use mathlib.Core.Bool.{Bool, true, false}
use mathlib.Core.Logic.{◌↔◌}
use native.Mathlib.Omega.{arith}
use lib.ListN.{length}
use lib.Dec.{leb}
use borrow.Author.Tests.{leb-true, leb-false}
use Rattle.wire.specs.declared.error.Input.{Input}
use Rattle.wire.specs.Read.{Bytes, Read, bad}
use Rattle.grammar.specs.Grammar.{Row}
use Rattle.listing.specs.Lines.{refusal_words, RefusalLine, Text, rows_text, refusal_text}
use Rattle.listing.specs.Listing.{file_limit, listing, Refusal, sheet_over, rows_over, in_reading}
use Rattle.listing.proofs.Laws.{sheet_large, rows_large, sizes_fit}

module _ (sheet rows : Bytes) (numbers : ℕ) where
  -- A listing is refused exactly so.
  pub listing_refused_iff : (code place : ℕ) (name : Input) → listing sheet rows numbers ≡ bad code place name ↔ Refusal sheet rows numbers code place name
  listing_refused_iff code place name = ((λ e. by_sheet (leb (length sheet) file_limit) refl e), (λ r. back r))
    where
      moved : {c p : ℕ} {i : Input} → ◌≡◌ {A = Read (List Row)} (bad c p i) (bad code place name) → Refusal sheet rows numbers c p i → Refusal sheet rows numbers code place name
      moved {c} {p} {i} e r =
          let x : c ≡ code = cc in
          let y : p ≡ place = cc in
          let z : i ≡ name = cc in
          rw (← x, ← y, ← z) r

      by_rows : length sheet ≤ file_limit → (t : Bool) → leb (length rows) file_limit ≡ t → listing sheet rows numbers ≡ bad code place name →
          Refusal sheet rows numbers code place name
      by_rows f true t e = let h : length rows ≤ file_limit = leb-true _ _ t in in_reading f h (sym (sizes_fit sheet rows numbers f h) ∙ e)
      by_rows f false t e = let h : file_limit < length rows = leb-false _ _ t in moved (sym (rows_large sheet rows numbers f h) ∙ e) (rows_over f h)

      by_sheet : (t : Bool) → leb (length sheet) file_limit ≡ t → listing sheet rows numbers ≡ bad code place name → Refusal sheet rows numbers code place name
      by_sheet true t e = by_rows (leb-true _ _ t) (leb (length rows) file_limit) refl e
      by_sheet false t e = let h : file_limit < length sheet = leb-false _ _ t in moved (sym (sheet_large sheet rows numbers h) ∙ e) (sheet_over h)

      back : {c p : ℕ} {i : Input} → Refusal sheet rows numbers c p i → listing sheet rows numbers ≡ bad c p i
      back (sheet_over h) = sheet_large sheet rows numbers h
      back (rows_over f h) = rows_large sheet rows numbers f h
      back (in_reading f h e) = sizes_fit sheet rows numbers f h ∙ e

  -- Its text is one line alone: what is refused, the number and the place.
  pub refusal_printed : {text : Bytes} {code place : ℕ} {name : Input} → Text (listing sheet rows numbers) text → Refusal sheet rows numbers code place name →
      RefusalLine (refusal_words name) code place text
  refusal_printed {text} {code} {place} {name} t r = by t ((listing_refused_iff code place name).1 r)
    where
      by : {answer : Read (List Row)} {text : Bytes} → Text answer text → answer ≡ bad code place name → RefusalLine (refusal_words name) code place text
      by (rows_text n l) e = let z : ◌≡◌ {A = ℕ} 0 1 = cc in absurd (omega arith)
      by (refusal_text {code = c} {place = p} {name = i} l) e =
          let x : c ≡ code = cc in
          let y : p ≡ place = cc in
          let z : i ≡ name = cc in
          rw (← x, ← y, ← z) l
