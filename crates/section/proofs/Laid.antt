-- Rows laid into a table one after the other.
-- Assumes nothing.
use Prim.Native.Nat.{ℕ, suc, ◌+◌, ◌*◌, ◌≤◌}
use mathlib.Core.Path.{◌≡◌, refl, sym, ap, ◌∙◌}
use mathlib.Core.List.{List, [], ◌∷◌, ◌++◌, append_assoc, append-nil}
use mathlib.Core.Bool.{Bool, true, false}
use native.Mathlib.Omega.{arith}
use lib.ListN.{length, take, drop, set, length-append, take-append-drop}
use lib.Seq.{take_at, drop_at, length-take-le, paste, paste-zero, paste-suc}
use lib.Dec.{leb}
use borrow.Author.Tests.{leb-true, leb-false}
use Rattle.wire.specs.Output.{put}
use Rattle.wire.proofs.Laws.{put_fits, put_not, put_paste, length_put, put_put}
use Rattle.grammar.specs.Grammar.{Row}
use Rattle.section.specs.Table.{row_numbers, table_numbers}
use Rattle.section.specs.Scan.{laid_from}

-- one row more, behind the others
pub laid_more : (i : ℕ) (rs : List Row) (r : Row) (table : List ℕ) →
    laid_from i (rs ++ (r ∷ [])) table ≡ put (laid_from i rs table) (4 * (i + length rs)) (row_numbers r)
unfolding laid_from
laid_more i [] r table = let z : i + 0 ≡ i = omega arith in rw z
laid_more i (q ∷ rs) r table =
    let z : i + suc (length rs) ≡ i + 1 + length rs = omega arith in
    rw z (laid_more (i + 1) rs r (put table (4 * i) (row_numbers q)))

pub length_laid : (i : ℕ) (rs : List Row) (table : List ℕ) → length (laid_from i rs table) ≡ length table
unfolding laid_from
length_laid i [] table = refl
length_laid i (r ∷ rs) table = length_laid (i + 1) rs (put table (4 * i) (row_numbers r)) ∙ length_put table (4 * i) (row_numbers r)

-- a piece laid over another of its length
pub put_over : (table : List ℕ) (at : ℕ) (x y : List ℕ) → length x ≡ length y → put (put table at x) at y ≡ put table at y
put_over table at x y l = go (leb (at + length x) (length table)) refl
  where
    go : (b : Bool) → leb (at + length x) (length table) ≡ b → put (put table at x) at y ≡ put table at y
    go false e = ap (λ (t : List ℕ). put t at y) (put_not table at x (leb-false _ _ e))
    go true e =
        let h : at + length x ≤ length table = leb-true _ _ e in
        let front : List ℕ = take at table in
        let rest : List ℕ = drop (at + length x) table in
        let f : length front ≡ at = length-take-le at table (omega arith) in
        let n : length (put table at x) ≡ length table = length_put table at x in
        let laid : put table at x ≡ front ++ x ++ rest = put_fits table at x h in
        let z : at + length y ≡ length (front ++ x) = rw length-append (omega arith) in
        let d : drop (at + length y) (front ++ x ++ rest) ≡ rest = drop_at (front ++ x) rest (at + length y) (sym z) in
        let y' : at + length y ≡ at + length x = omega arith in
        put_fits (put table at x) at y (rw n (omega arith))
        ∙ ap (λ (t : List ℕ). take at t ++ y ++ drop (at + length y) t) laid
        ∙ ap (λ (t : List ℕ). t ++ y ++ drop (at + length y) (front ++ x ++ rest)) (ap (take at) (append_assoc front x rest) ∙ take_at front (x ++ rest) at f)
        ∙ ap (λ (t : List ℕ). front ++ y ++ t) (d ∙ ap (λ (m : ℕ). drop m table) (sym y'))
        ∙ sym (put_fits table at y (omega arith))

-- the last row anew
pub laid_again : (rs : List Row) (q r : Row) (table : List ℕ) (i : ℕ) → i ≡ length rs →
    put (laid_from 0 (rs ++ (q ∷ [])) table) (4 * i) (row_numbers r) ≡ laid_from 0 (rs ++ (r ∷ [])) table
laid_again rs q r table i e =
    let z : 0 + length rs ≡ length rs = omega arith in
    rw (e, laid_more 0 rs q table, laid_more 0 rs r table, z)
    (put_over (laid_from 0 rs table) (4 * length rs) (row_numbers q) (row_numbers r) refl)

length_numbers : (rs : List Row) → length (table_numbers rs) ≡ 4 * length rs
unfolding table_numbers
length_numbers [] = refl
length_numbers (r ∷ rs) = rw length-append (omega (arith, length_numbers rs))

-- Rows that fit are laid as one piece.
laid_piece : (i : ℕ) (rs : List Row) (table : List ℕ) → 4 * i + 4 * length rs ≤ length table → laid_from i rs table ≡ put table (4 * i) (table_numbers rs)
unfolding laid_from table_numbers
laid_piece i [] table h =
    let z : 4 * i + 0 ≡ 4 * i = omega arith in
    sym (put_fits table (4 * i) [] (omega arith) ∙ rw z (go table (4 * i)))
  where
    go : (t : List ℕ) (m : ℕ) → take m t ++ [] ++ drop m t ≡ t
    go t m = rw append-nil (take-append-drop m t)
laid_piece i (r ∷ rs) table h =
    let n : length (put table (4 * i) (row_numbers r)) ≡ length table = length_put table (4 * i) (row_numbers r) in
    let z : 4 * (i + 1) ≡ 4 * i + length (row_numbers r) = omega arith in
    laid_piece (i + 1) rs (put table (4 * i) (row_numbers r)) (rw n (omega arith))
    ∙ ap (λ (m : ℕ). put (put table (4 * i) (row_numbers r)) m (table_numbers rs)) z
    ∙ put_put table (4 * i) (row_numbers r) (table_numbers rs) (omega (arith, length_numbers rs))

pub laid_all : (rs : List Row) (table : List ℕ) → 4 * length rs ≤ length table → laid_from 0 rs table ≡ put table 0 (table_numbers rs)
laid_all rs table h = laid_piece 0 rs table (omega arith)

-- four numbers stored one by one
pub put_four : (table : List ℕ) (at a b c d : ℕ) → at + 4 ≤ length table →
    set (set (set (set table at a) (at + 1) b) (at + 2) c) (at + 3) d ≡ put table at (a ∷ b ∷ c ∷ d ∷ [])
put_four table at a b c d h =
    let x : List ℕ = a ∷ b ∷ c ∷ d ∷ [] in
    let z : at ≡ at + 0 = omega arith in
    ap (λ (t : List ℕ). set (set (set (set t at a) (at + 1) b) (at + 2) c) (at + 3) d) (paste-zero table at x)
    ∙ ap (λ (n : ℕ). set (set (set (set (paste table at x 0) n a) (at + 1) b) (at + 2) c) (at + 3) d) z
    ∙ ap (λ (t : List ℕ). set (set (set t (at + 1) b) (at + 2) c) (at + 3) d) (paste-suc table at x 0 0 (omega arith) (omega arith))
    ∙ ap (λ (t : List ℕ). set (set t (at + 2) c) (at + 3) d) (paste-suc table at x 1 0 (omega arith) (omega arith))
    ∙ ap (λ (t : List ℕ). set t (at + 3) d) (paste-suc table at x 2 0 (omega arith) (omega arith))
    ∙ paste-suc table at x 3 0 (omega arith) (omega arith)
    ∙ sym (put_paste table at x h)
