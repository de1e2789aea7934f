-- Round trips of the header: what was written reads back, and what was read is written back as the same bytes.
-- Assumes nothing.
use Prim.Native.Nat.{ℕ, ◌≤◌}
use mathlib.Core.List.{[], ◌∷◌, ◌++◌}
use mathlib.Core.Bool.{true}
use mathlib.Core.Path.{◌≡◌, sym, ap, subst}
use native.Mathlib.Omega.{arith}
use lib.ListN.{length, take}
use lib.Dec.{leb, eqb}
use Rattle.wire.specs.declared.error.Input.TheVariants as input
use Rattle.wire.specs.Read.{Bytes, ok, check, about, limit, sized, byte_at, constants}
use Rattle.wire.proofs.Laws.{sized_within, fitting_fits}
use Rattle.wire.proofs.Pieces.{Piece, cut_piece, join, front, back, bind_ok, check_ok, about_ok, ok_ok, byte_is, byte_ok, constants_is, constants_ok, fitting_ok, piece_start}
use Rattle.header.specs.declared.header.Header.{Header}
use Rattle.header.specs.Header.{signature, header_as, header_fields, header_of, header_bytes, header_written}

-- A header that was written, with any bytes after it, reads back as the values given.
pub header_read_back :
    (major minor order unicode capacity : ℕ) (written rest : Bytes) → header_written major minor order unicode capacity ≡ ok written →
    length (written ++ rest) ≤ limit → header_of (written ++ rest) ≡ ok (header_as major minor order unicode (length written))
unfolding header_written header_of header_fields check
header_read_back major minor order unicode capacity written rest e h =
    let (u1, e1, f1) = bind_ok (about input.Order (check (eqb order 0) 3 7)) _ written e in
    let (u2, e2, f2) = bind_ok (about input.Unicode (check (leb unicode 1) 3 8)) _ written f1 in
    let (room, same) = fitting_ok (header_bytes major minor order unicode) capacity written f2 in
    let s : Bytes = header_bytes major minor order unicode ++ rest in
    let p : Piece s 0 9 (header_bytes major minor order unicode) = piece_start (header_bytes major minor order unicode) rest in
    let q : Piece s 5 9 (major ∷ minor ∷ order ∷ unicode ∷ []) = back signature _ p in
    let q6 : Piece s 6 9 (minor ∷ order ∷ unicode ∷ []) = back (major ∷ []) _ q in
    let q7 : Piece s 7 9 (order ∷ unicode ∷ []) = back (minor ∷ []) _ q6 in
    let q8 : Piece s 8 9 (unicode ∷ []) = back (order ∷ []) _ q7 in
    let o : eqb order 0 ≡ true = check_ok _ _ _ u1 (about_ok _ _ u1 e1) in
    let m : leb unicode 1 ≡ true = check_ok _ _ _ u2 (about_ok _ _ u2 e2) in
    let l : length s ≤ limit = subst (λ (x : Bytes). length (x ++ rest) ≤ limit) (sym same) h in
    rw (← same)
    (simp (
      sized_within s l,
      constants_is signature (front signature (major ∷ minor ∷ order ∷ unicode ∷ []) p),
      byte_is (front (major ∷ []) _ q),
      byte_is (front (minor ∷ []) _ q6),
      byte_is (front (order ∷ []) _ q7),
      o,
      byte_is q8,
      m,
    ))

-- A header that was read is written back as the same bytes.
pub header_rewritten :
    (s : Bytes) (h : Header) (capacity : ℕ) → header_of s ≡ ok h → h.end ≤ capacity →
    header_written h.major h.minor h.order h.unicode capacity ≡ ok (take h.end s)
unfolding header_written header_of header_fields check about
header_rewritten s h capacity e r =
    let (u0, e0, f0) = bind_ok (sized s) _ h e in
    let (u1, e1, f1) = bind_ok (constants s 0 signature) _ h f0 in
    let (major, e2, f2) = bind_ok (byte_at s 5) _ h f1 in
    let (minor, e3, f3) = bind_ok (byte_at s 6) _ h f2 in
    let (order, e4, f4) = bind_ok (byte_at s 7) _ h f3 in
    let (u5, e5, f5) = bind_ok (check (eqb order 0) 3 7) _ h f4 in
    let (unicode, e6, f6) = bind_ok (byte_at s 8) _ h f5 in
    let (u7, e7, f7) = bind_ok (check (leb unicode 1) 3 8) _ h f6 in
    let o : eqb order 0 ≡ true = check_ok _ _ _ u5 e5 in
    let m : leb unicode 1 ≡ true = check_ok _ _ _ u7 e7 in
    let p0 : Piece s 0 5 signature = constants_ok s 0 signature u1 (omega arith) e1 in
    let p : Piece s 0 9 (header_bytes major minor order unicode) =
    join p0 (join (byte_ok s 5 major e2) (join (byte_ok s 6 minor e3) (join (byte_ok s 7 order e4) (byte_ok s 8 unicode e6)))) in
    subst (λ (g : Header). g.end ≤ capacity → header_written g.major g.minor g.order g.unicode capacity ≡ ok (take g.end s))
    (ok_ok f7)
    (λ room. simp (o, m, fitting_fits (header_bytes major minor order unicode) capacity room) (ap (λ (x : Bytes). ok x) (sym (cut_piece p))))
    r
