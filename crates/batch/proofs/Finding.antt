-- The checks around the two passes, and what they come to.
-- Assumes nothing.
use Rattle.std.specs.Prelude.{Result, Ok, Err}
use Prim.Native.Nat.{ℕ, ◌+◌, ◌*◌, ◌/◌, ◌<◌, ◌≤◌}
use mathlib.Core.Path.{◌≡◌, refl, sym, ap, ◌∙◌}
use mathlib.Core.List.{List}
use native.Mathlib.Omega.{arith}
use lib.ListN.{length, take}
use borrow.Author.Tests.{le-leb, lt-leb}
use Rattle.wire.specs.declared.error.Error.{Error}
use Rattle.wire.specs.declared.error.Input.{Input}
use Rattle.wire.specs.declared.error.Input.TheVariants as input
use Rattle.wire.specs.declared.error.ErrorKind.TheVariants as error
use Rattle.wire.specs.Errors.{code_of}
use Rattle.wire.specs.Read.{Bytes, Read, ok, bad, check, about, limit, refused}
use Rattle.wire.specs.Output.{put}
use Rattle.wire.proofs.Laws.{sized_over, sized_within}
use Rattle.wire.proofs.Pieces.{bad_ok}
use Rattle.walk.specs.Rows.{Answer}
use Rattle.batch.specs.Spans.{rows_of, Span, spans_in, spans_by, spans_after, Batched}
use Rattle.batch.specs.Scan.{laid_from, Pass, pass, passed, told_pass, Scanned}
use Rattle.batch.proofs.Laid.{length_laid, laid_all, held_laid}

-- a number of spans is told of spans
pub spans_told : (r : Read (List Span)) (n : ℕ) {entry exit : List ℕ} {a : (Result ℕ Error)} → Scanned r entry exit a → a ≡ Ok n →
    (xs : List Span) × (r ≡ ok xs) × (n ≡ length xs)
unfolding passed
spans_told (ok xs) n {entry} {exit} c q =
    let e : ok (pass n exit) ≡ ok (pass (0 + length xs) (laid_from 0 xs entry)) = ap (λ (a : Result ℕ Error). told_pass a exit) (sym q) ∙ c.told in
    let z : n ≡ 0 + length xs = count_of e in
    (xs, refl, omega arith)
  where
    count_of : {p q : Pass} → ok p ≡ ok q → p.count ≡ q.count
    count_of e = cc
spans_told (bad c o i) n {entry} {exit} d q = absurd (bad_ok (sym (ap (λ (a : Result ℕ Error). told_pass a exit) (sym q) ∙ d.told)))

-- and the numbers hold them
pub spans_laid : (xs : List Span) (n : ℕ) {r : Read (List Span)} {entry exit : List ℕ} {a : (Result ℕ Error)} → Scanned r entry exit a → a ≡ Ok n → r ≡ ok xs →
    exit ≡ laid_from 0 xs entry
unfolding passed
spans_laid xs n {entry = entry} {exit = exit} c q e =
    numbers_of (ap (λ (a : Result ℕ Error). told_pass a exit) (sym q) ∙ c.told ∙ ap (passed (pass 0 entry)) e)
  where
    numbers_of : {p q : Pass} → ok p ≡ ok q → p.numbers ≡ q.numbers
    numbers_of e = cc

-- an error is told of an error
pub error_told : (r : Read (List Span)) (e : Error) {entry exit : List ℕ} {a : (Result ℕ Error)} → Scanned r entry exit a → a ≡ Err e → r ≡ refused e
unfolding passed
error_told (ok xs) e {entry} {exit} c t = absurd (bad_ok (ap (λ (a : Result ℕ Error). told_pass a exit) (sym t) ∙ c.told))
error_told (bad c o i) e {entry} {exit} d t =
    let q : ◌≡◌ {A = Read Pass} (refused e) (bad c o i) = ap (λ (a : Result ℕ Error). told_pass a exit) (sym t) ∙ d.told in
    let x : code_of e.kind ≡ c = code_of_lem q in
    let y : e.offset ≡ o = offset_of_lem q in
    let z : e.input ≡ i = input_of q in
    rw (x, y, z) refl
  where
    code_of_lem : {a b x y : ℕ} {i j : Input} → ◌≡◌ {A = Read Pass} (bad a x i) (bad b y j) → a ≡ b
    code_of_lem p = cc

    offset_of_lem : {a b x y : ℕ} {i j : Input} → ◌≡◌ {A = Read Pass} (bad a x i) (bad b y j) → x ≡ y
    offset_of_lem p = cc

    input_of : {a b x y : ℕ} {i j : Input} → ◌≡◌ {A = Read Pass} (bad a x i) (bad b y j) → i ≡ j
    input_of p = cc

-- an error leaves the numbers
found_error : (r : Read (List Span)) (numbers : List ℕ) (e : Error) → r ≡ refused e → Batched r numbers numbers (Err e)
unfolding spans_after
found_error r numbers e q = record { answers = rw q refl; leaves = rw q refl }

module _ (look : Bytes → Read Answer) (s : Bytes) (rows : List ℕ) (owner : ℕ) (numbers : List ℕ) where
  pub found_large : limit < length s →
      Batched (spans_by look s rows owner (length numbers)) numbers numbers (Err (record { kind = error.TooLarge; offset = 0; input = input.Section }))
  unfolding spans_by about
  found_large h = found_error _ numbers _ by
    where
      by : spans_by look s rows owner (length numbers) ≡ bad 19 0 input.Section
      by = rw (sized_over s h) refl

  module _ (h : length s ≤ limit) where
    pub found_refused : (e : Error) → spans_in look s owner (rows_of rows) ≡ refused e → Batched (spans_by look s rows owner (length numbers)) numbers numbers (Err e)
    unfolding spans_by about
    found_refused e q = found_error _ numbers e by
      where
        by : spans_by look s rows owner (length numbers) ≡ refused e
        by = rw (sized_within s h, q) refl

    module _ (xs : List Span) (q : spans_in look s owner (rows_of rows) ≡ ok xs) where
      pub found_full : (e : Error) → e ≡ record { kind = error.Capacity; offset = length xs; input = input.Output } → length numbers / 2 < length xs →
          Batched (spans_by look s rows owner (length numbers)) numbers numbers (Err e)
      unfolding spans_by about check
      found_full e z l = rw z (found_error _ numbers _ by)
        where
          by : spans_by look s rows owner (length numbers) ≡ bad 16 (length xs) input.Output
          by = rw (sized_within s h, q, lt-leb (2 * length xs) (length numbers) (omega arith)) refl

      fitting : length xs ≤ length numbers / 2 → spans_by look s rows owner (length numbers) ≡ ok xs
      unfolding spans_by about check
      fitting l = rw (sized_within s h, q, le-leb (2 * length xs) (length numbers) (omega arith)) refl

      pub found_spans_lem : (exit : List ℕ) (r : Result ℕ Error) → length xs ≤ length numbers / 2 → Scanned (spans_in look s owner (rows_of rows)) numbers exit r →
          Batched (spans_by look s rows owner (length numbers)) numbers exit r
      unfolding passed spans_after
      found_spans_lem exit r l c = go r (c.told ∙ ap (passed (pass 0 numbers)) q)
        where
          count_of : {p q : Pass} → ok p ≡ ok q → p.count ≡ q.count
          count_of e = cc

          numbers_of : {p q : Pass} → ok p ≡ ok q → p.numbers ≡ q.numbers
          numbers_of e = cc

          go : (r : Result ℕ Error) → told_pass r exit ≡ passed (pass 0 numbers) (ok xs) → Batched (spans_by look s rows owner (length numbers)) numbers exit r
          go (Err e) d = absurd (bad_ok d)
          go (Ok n) d =
              let z : n ≡ 0 + length xs = count_of d in
              let y : n ≡ length xs = omega arith in
              record {
                answers = rw (fitting l, y) refl;
                leaves = rw (fitting l) (numbers_of d ∙ laid_all xs numbers (omega arith));
              }

      -- the same of spans that were held, and copied into the numbers
      pub found_held :
          (held exit : List ℕ) (n : ℕ) → n ≡ length xs → 2 * n ≤ length held → length xs ≤ length numbers / 2 →
          exit ≡ put numbers 0 (take (2 * n) (laid_from 0 xs held)) → Batched (spans_by look s rows owner (length numbers)) numbers exit (Ok n)
      unfolding passed
      found_held held exit n z k l e = found_spans_lem exit (Ok n) l (record { told = told; long = ap length laid ∙ length_laid 0 xs numbers })
        where
          laid : exit ≡ laid_from 0 xs numbers
          laid = e ∙ ap (λ (m : ℕ). put numbers 0 (take (2 * m) (laid_from 0 xs held))) z ∙ held_laid xs held numbers (omega arith) (omega arith)

          told : told_pass (Ok n) exit ≡ passed (pass 0 numbers) (spans_in look s owner (rows_of rows))
          told =
              let y : n ≡ 0 + length xs = omega arith in
              ap (λ (m : ℕ). ok (pass m exit)) y ∙ ap (λ (x : List ℕ). ok (pass (0 + length xs) x)) laid ∙ ap (passed (pass 0 numbers)) (sym q)
