-- Spans laid into numbers one after the other.
-- Assumes nothing.
use Prim.Native.Nat.{ℕ, ◌+◌, ◌*◌, ◌≤◌}
use mathlib.Core.Path.{◌≡◌, refl, sym, ap, ◌∙◌}
use mathlib.Core.List.{List, [], ◌∷◌, ◌++◌, append-nil}
use native.Mathlib.Omega.{arith}
use lib.ListN.{length, take, drop, length-append, take-append-drop, set}
use Rattle.wire.specs.Output.{put}
use Rattle.wire.proofs.Laws.{take_put, put_fits, length_put, put_put, put_paste}
use Rattle.batch.specs.Spans.{Span, span_numbers, spans_numbers}
use Rattle.batch.specs.Scan.{laid_from}
use lib.Seq.{paste, paste-zero, paste-suc}

pub length_laid : (i : ℕ) (xs : List Span) (numbers : List ℕ) → length (laid_from i xs numbers) ≡ length numbers
unfolding laid_from
length_laid i [] numbers = refl
length_laid i (x ∷ xs) numbers = length_laid (i + 1) xs (put numbers (2 * i) (span_numbers x)) ∙ length_put numbers (2 * i) (span_numbers x)

length_numbers : (xs : List Span) → length (spans_numbers xs) ≡ 2 * length xs
unfolding spans_numbers
length_numbers [] = refl
length_numbers (x ∷ xs) = rw length-append (omega (arith, length_numbers xs))

-- Spans that fit are laid as one piece.
laid_piece : (i : ℕ) (xs : List Span) (numbers : List ℕ) → 2 * i + 2 * length xs ≤ length numbers → laid_from i xs numbers ≡ put numbers (2 * i) (spans_numbers xs)
unfolding laid_from spans_numbers
laid_piece i [] numbers h =
    let z : 2 * i + 0 ≡ 2 * i = omega arith in
    sym (put_fits numbers (2 * i) [] (omega arith) ∙ rw z (go numbers (2 * i)))
  where
    go : (t : List ℕ) (m : ℕ) → take m t ++ [] ++ drop m t ≡ t
    go t m = rw append-nil (take-append-drop m t)
laid_piece i (x ∷ xs) numbers h =
    let n : length (put numbers (2 * i) (span_numbers x)) ≡ length numbers = length_put numbers (2 * i) (span_numbers x) in
    let z : 2 * (i + 1) ≡ 2 * i + length (span_numbers x) = omega arith in
    laid_piece (i + 1) xs (put numbers (2 * i) (span_numbers x)) (rw n (omega arith))
    ∙ ap (λ (m : ℕ). put (put numbers (2 * i) (span_numbers x)) m (spans_numbers xs)) z
    ∙ put_put numbers (2 * i) (span_numbers x) (spans_numbers xs) (omega (arith, length_numbers xs))

pub laid_all : (xs : List Span) (numbers : List ℕ) → 2 * length xs ≤ length numbers → laid_from 0 xs numbers ≡ put numbers 0 (spans_numbers xs)
laid_all xs numbers h = laid_piece 0 xs numbers (omega arith)

-- Spans that were laid into numbers of their own, copied into others: they are laid into these.
pub held_laid :
    (xs : List Span) (held numbers : List ℕ) → 2 * length xs ≤ length held → 2 * length xs ≤ length numbers →
    put numbers 0 (take (2 * length xs) (laid_from 0 xs held)) ≡ laid_from 0 xs numbers
held_laid xs held numbers h k =
    let l : length (spans_numbers xs) ≡ 2 * length xs = length_numbers xs in
    ap (λ (x : List ℕ). put numbers 0 (take (2 * length xs) x)) (laid_all xs held (omega arith))
    ∙ ap (λ (n : ℕ). put numbers 0 (take n (put held 0 (spans_numbers xs)))) (sym l)
    ∙ ap (put numbers 0) (take_put held (spans_numbers xs) (omega arith))
    ∙ sym (laid_all xs numbers (omega arith))

-- two numbers stored one by one
pub put_two : (numbers : List ℕ) (at a b : ℕ) → at + 2 ≤ length numbers → set (set numbers at a) (at + 1) b ≡ put numbers at (a ∷ b ∷ [])
put_two numbers at a b h =
    let x : List ℕ = a ∷ b ∷ [] in
    let z : at ≡ at + 0 = omega arith in
    ap (λ (t : List ℕ). set (set t at a) (at + 1) b) (paste-zero numbers at x)
    ∙ ap (λ (n : ℕ). set (set (paste numbers at x 0) n a) (at + 1) b) z
    ∙ ap (λ (t : List ℕ). set t (at + 1) b) (paste-suc numbers at x 0 0 (omega arith) (omega arith))
    ∙ paste-suc numbers at x 1 0 (omega arith) (omega arith)
    ∙ sym (put_paste numbers at x h)
