-- A record written anew, with zeros in all that its state does not need.
-- Assumes nothing.
use Prim.Native.Nat.{ℕ, ◌+◌, ◌-◌, ◌≤◌, suc, zero, ◌<◌}
use mathlib.Core.List.{[], ◌++◌, append-nil}
use mathlib.Core.Bool.{Bool, true, false}
use mathlib.Core.Path.{◌≡◌, refl, sym, ap, ◌∙◌}
use native.Mathlib.Omega.{arith}
use borrow.Rule.Slice.PartMut.{put_mid}
use lib.ListN.{length, take, drop, replicate, length-take, length-drop, drop_of_length-le}
use lib.Seq.{take-append-add}
use Rattle.std.proofs.lemmas.List.{take-replicate}
use lib.Dec.{eqb, leb, ltb}
use borrow.Author.Tests.{eqb-true, eqb-false, ltb-true, ltb-false, le-leb, lt-leb}
use Rattle.wire.specs.Read.{Bytes}
use Rattle.incremental.specs.declared.record.Reader.{Reader}
use Rattle.incremental.specs.Record.{before_by, kind_in, held_in, map_in, state_in, state_of, sixteen, numbers}
use Rattle.incremental.specs.Parts.{paired_as, kind_as, maps_as}
use Rattle.incremental.proofs.StateLaws.{state_between, state_piece, state_body, state_finished, stage_child, stage_change, stage_delete, stage_maps, stage_prefix}
use Rattle.grammar.specs.Grammar.{after}

-- Room for a piece.
pub room_told : (filled more : ℕ) → filled < 16 → ltb more (16 - filled) ≡ leb (filled + more) 15
room_told filled more h = go (ltb more (16 - filled)) refl
  where
    go : (t : Bool) → ltb more (16 - filled) ≡ t → t ≡ leb (filled + more) 15
    go true e = let l : filled + more ≤ 15 = omega (arith, ltb-true more (16 - filled) e) in sym (le-leb _ _ l)
    go false e = let l : 15 < filled + more = omega (arith, ltb-false more (16 - filled) e) in sym (lt-leb _ _ l)

pub room_none : (filled more : ℕ) → 16 ≤ filled → leb (filled + more) 15 ≡ false
room_none filled more h = let l : 15 < filled + more = omega arith in lt-leb _ _ l

-- An 87 element stands before.
pub before_paired : (paired id : ℕ) → (paired ≡ 0 → ⊥) → before_by paired id ≡ after id
before_paired zero id h = absurd (h refl)
before_paired (suc n) id h = refl

-- The first n of sixteen bytes, and zeros.
pub first_long : (bytes : Bytes) (n : ℕ) → length bytes ≡ 16 → n ≤ 16 → length (take n bytes) ≡ n
first_long bytes n l h = simp length-take (omega arith)

pub zeros_behind : (bytes : Bytes) (n : ℕ) → length bytes ≡ 16 → n ≤ 16 → take n bytes ++ replicate (16 - n) 0 ≡ sixteen (take n bytes)
zeros_behind bytes n l h =
    let f : length (take n bytes) ≡ n = first_long bytes n l h in
    let z : length (take n bytes) + (16 - n) ≡ 16 = omega arith in
    ap (λ (x : Bytes). take n bytes ++ x) (sym (take-replicate (16 - n) 16 0 (omega arith)))
    ∙ sym (take-append-add (take n bytes) (replicate 16 0) (16 - n))
    ∙ ap (λ (k : ℕ). take k (take n bytes ++ replicate 16 0)) z

pub cleared_told :
    (bytes ys : Bytes) (n : ℕ) → length bytes ≡ 16 → n ≤ 16 → ys ≡ replicate (16 - n) 0 → put_mid n (16 - n) bytes ys ≡ sixteen (take n bytes)
cleared_told bytes ys n l h e =
    let z : drop (16 - n) (drop n bytes) ≡ [] = drop_of_length-le (drop n bytes) (omega (arith, length-drop n bytes)) in
    ap (λ (x : Bytes). take n bytes ++ (ys ++ x)) z
    ∙ ap (λ (x : Bytes). take n bytes ++ x) (append-nil ys ∙ e)
    ∙ zeros_behind bytes n l h

-- A record of each stage is written as its state is.
module _ (r : Reader) where
  abbrev piece : Reader
  piece = numbers r.stage 0 0 0 0 r.rows r.at r.more 0 0 (held_in r) []

  pub tidy_between :
      r.stage ≡ 0 → paired_as (numbers 0 0 0 0 0 r.rows r.at 0 0 0 [] []) (before_by r.paired r.id) ≡ state_of (state_in r)
  tidy_between e = rw (state_between r e) refl

  pub tidy_finished : r.stage ≡ 7 → numbers 7 0 0 0 0 r.rows r.at 0 0 0 [] [] ≡ state_of (state_in r)
  tidy_finished e = rw (state_finished r e) refl

  pub tidy_body :
      r.stage ≡ 6 → maps_as (kind_as (numbers 6 0 0 0 0 r.rows r.at r.more 0 0 [] []) (kind_in r)) (map_in r) r.column ≡ state_of (state_in r)
  tidy_body e = rw (state_body r e) refl

  pub tidy_child : r.stage ≡ 1 → piece ≡ state_of (state_in r)
  tidy_child e = rw (state_piece r (omega arith) (omega arith), stage_child r e, e) refl

  tidy_change : r.stage ≡ 2 → paired_as piece (before_by r.paired r.id) ≡ state_of (state_in r)
  tidy_change e = rw (state_piece r (omega arith) (omega arith), stage_change r e, e) refl

  tidy_delete : r.stage ≡ 3 → paired_as piece (before_by r.paired r.id) ≡ state_of (state_in r)
  tidy_delete e = rw (state_piece r (omega arith) (omega arith), stage_delete r e, e) refl

  pub tidy_paired : 2 ≤ r.stage → r.stage ≤ 3 → paired_as piece (before_by r.paired r.id) ≡ state_of (state_in r)
  tidy_paired l h = go (eqb r.stage 2) refl
    where
      go : (t : Bool) → eqb r.stage 2 ≡ t → paired_as piece (before_by r.paired r.id) ≡ state_of (state_in r)
      go true e = tidy_change (eqb-true _ _ e)
      go false e = let n : r.stage ≡ 2 → ⊥ = eqb-false _ _ e in tidy_delete (omega arith)

  pub tidy_maps : r.stage ≡ 4 → kind_as piece (kind_in r) ≡ state_of (state_in r)
  tidy_maps e = rw (state_piece r (omega arith) (omega arith), stage_maps r e, e) refl

  pub tidy_prefix : r.stage ≡ 5 → maps_as (kind_as piece (kind_in r)) (map_in r) r.column ≡ state_of (state_in r)
  tidy_prefix e = rw (state_piece r (omega arith) (omega arith), stage_prefix r e, e) refl
