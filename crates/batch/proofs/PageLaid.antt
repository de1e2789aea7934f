-- The numbers of a page, laid one after the other.
-- Assumes nothing.
use Prim.Native.Nat.{ℕ, ◌+◌, ◌*◌, ◌≤◌}
use mathlib.Core.Path.{◌≡◌, refl, sym, ap, ◌∙◌}
use mathlib.Core.List.{List, [], ◌∷◌, ◌++◌, append_assoc}
use native.Mathlib.Omega.{arith}
use lib.ListN.{length, length-append, set}
use Rattle.wire.specs.Output.{put}
use Rattle.wire.proofs.Laws.{put_fits, put_next, put_paste}
use Rattle.batch.specs.Pages.{Located, located_numbers, page_numbers}
use lib.Seq.{paste, paste-zero, paste-suc}

pub length_numbers : (xs : List Located) → length (page_numbers xs) ≡ 3 * length xs
unfolding page_numbers
length_numbers [] = refl
length_numbers (x ∷ xs) = rw length-append (omega (arith, length_numbers xs))

-- one more span
numbers_next : (xs : List Located) (x : Located) → page_numbers (xs ++ x ∷ []) ≡ page_numbers xs ++ located_numbers x
unfolding page_numbers
numbers_next [] x = refl
numbers_next (y ∷ xs) x = ap (λ (l : List ℕ). located_numbers y ++ l) (numbers_next xs x) ∙ append_assoc (located_numbers y) (page_numbers xs) (located_numbers x)

-- no span at all
pub none_laid : (numbers : List ℕ) → put numbers 0 (page_numbers []) ≡ numbers
unfolding page_numbers
none_laid numbers = put_fits numbers 0 [] (omega arith)

-- the next span is laid behind those before it
pub next_laid :
    (xs : List Located) (x : Located) (numbers laid : List ℕ) → laid ≡ put numbers 0 (page_numbers xs) → 3 * length xs + 3 ≤ length numbers →
    put laid (3 * length xs) (located_numbers x) ≡ put numbers 0 (page_numbers (xs ++ x ∷ []))
next_laid xs x numbers laid e h =
    put_next numbers laid (page_numbers xs) (located_numbers x) (3 * length xs) e (sym (length_numbers xs)) (omega (arith, length_numbers xs))
    ∙ ap (put numbers 0) (sym (numbers_next xs x))

-- three numbers stored one by one
pub put_three :
    (numbers : List ℕ) (at a b c : ℕ) → at + 3 ≤ length numbers → set (set (set numbers at a) (at + 1) b) (at + 2) c ≡ put numbers at (a ∷ b ∷ c ∷ [])
put_three numbers at a b c h =
    let x : List ℕ = a ∷ b ∷ c ∷ [] in
    let z : at ≡ at + 0 = omega arith in
    ap (λ (t : List ℕ). set (set (set t at a) (at + 1) b) (at + 2) c) (paste-zero numbers at x)
    ∙ ap (λ (n : ℕ). set (set (set (paste numbers at x 0) n a) (at + 1) b) (at + 2) c) z
    ∙ ap (λ (t : List ℕ). set (set t (at + 1) b) (at + 2) c) (paste-suc numbers at x 0 0 (omega arith) (omega arith))
    ∙ ap (λ (t : List ℕ). set t (at + 2) c) (paste-suc numbers at x 1 0 (omega arith) (omega arith))
    ∙ paste-suc numbers at x 2 0 (omega arith) (omega arith)
    ∙ sym (put_paste numbers at x h)
