-- Row data gone over turn by turn, opened and then column by column, end where they end, or at the first error.
-- Assumes nothing.
use Prim.Native.Nat.{ℕ, zero, suc, ◌+◌, ◌-◌, ◌≤◌, ◌<◌}
use mathlib.Core.Path.{◌≡◌, refl, sym, ap, ◌∙◌}
use mathlib.Core.List.{List}
use mathlib.Core.Bool.{Bool, true, false}
use native.Mathlib.Omega.{arith}
use lib.ListN.{length, get_or}
use Rattle.wire.specs.declared.error.Input.{Input}
use Rattle.wire.specs.declared.error.Error.{Error}
use Rattle.wire.specs.Read.{Bytes, Read, ok, bad, ◌>>=◌, pick, refused}
use Rattle.wire.proofs.Pieces.{ok_ok}
use Rattle.column.specs.declared.column.Column.{Column}
use Rattle.column.specs.declared.field.Field.{Field}
use Rattle.column.specs.Fields.{field_at}
use Rattle.walk.specs.Presence.{Mark, no_mark, marks}
use Rattle.walk.specs.Rows.{Place, place, past, step, walk, walked, row_end}
use Rattle.walk.specs.Updates.{numbered, update_walked, update_end}
use Rattle.walk.specs.Data.{data_end, data_opened, data_marks, data_has, data_passed}
use Rattle.walk.proofs.Laws.{bind_bad, bind_of, length_marks, walk_zero, walk_next, walk_ended}
use Rattle.walk.proofs.UpdateLaws.{length_numbered}
use Rattle.walk.proofs.Found.{opened_ok}
use Rattle.walk.proofs.UpdateFound.{update_opened_ok}
use Rattle.section.specs.Ends.{turned}

-- the position alone
abbrev here : Place → Read ℕ
here w = ok w.at

data_marks_length : (u : Bool) (cs : List Column) → length (data_marks u cs) ≡ length cs
data_marks_length true cs = length_numbered 0 cs
data_marks_length false cs = length_marks 0 cs

-- data that do not open
pub data_closed : (u : Bool) (cs : List Column) (s : Bytes) (start : ℕ) {c o : ℕ} {i : Input} → data_opened u cs s start ≡ bad c o i → data_end u cs s start ≡ bad c o i
unfolding row_end update_end
data_closed true cs s start e = bind_bad _ e
data_closed false cs s start e = bind_bad _ e

-- data that open: the walk over all columns
data_walk :
    (u : Bool) (cs : List Column) (s : Bytes) (start d : ℕ) → data_opened u cs s start ≡ ok d →
    data_end u cs s start ≡ walk (data_has u cs s start) s (length cs) (data_marks u cs) (place d 0) >>= here
unfolding row_end update_end walked update_walked
data_walk true cs s start d e =
    let (z, l) = update_opened_ok cs s start d e in
    bind_of _ e ∙ ap (λ (p : ℕ). walk (data_has true cs s start) s (length cs) (numbered 0 cs) (place p 0) >>= here) (sym z)
data_walk false cs s start d e =
    let (z, l, _) = opened_ok cs s start d e in
    bind_of _ e ∙ ap (λ (p : ℕ). walk (data_has false cs s start) s (length cs) (marks 0 cs) (place p 0) >>= here) (sym z)

-- a step takes the same bytes after any prefixes
step_position :
    (has : Mark → Bool) (s : Bytes) (m : Mark) (p n : ℕ) (r : Read ℕ) → step has s m (place p 0) >>= here ≡ r → step has s m (place p n) >>= here ≡ r
unfolding step
step_position has s m p n r e = go (has m) (field_at m.column s p) e
  where
    go :
        (t : Bool) (f : Read Field) → pick t (f >>= (λ (f : Field). ok (past (place p 0) f))) (ok (place p 0)) >>= here ≡ r →
        pick t (f >>= (λ (f : Field). ok (past (place p n) f))) (ok (place p n)) >>= here ≡ r
    go true (ok f) e = e
    go true (bad c o i) e = e
    go false f e = e

-- where there is a position there is a place
placed : (r : Read Place) (q : ℕ) → r >>= here ≡ ok q → (n : ℕ) × (r ≡ ok (place q n))
placed (ok w) q e = (w.prefixes, ap (λ (x : ℕ). ok (place x w.prefixes)) (ok_ok e))
placed (bad c o i) q e = let z : ◌≡◌ {A = ℕ} 0 1 = cc in absurd (omega arith)

refused_place : (r : Read Place) {c o : ℕ} {i : Input} → r >>= here ≡ bad c o i → r ≡ bad c o i
refused_place (ok w) e = let z : ◌≡◌ {A = ℕ} 0 1 = cc in absurd (omega arith)
refused_place (bad c o i) e = cc

-- The walk stands at p before column i.
pub record Walking (u : Bool) (cs : List Column) (s : Bytes) (start p i : ℕ) : Type 0 where
  pub fields : ℕ
  pub prefixes : ℕ
  pub opens : data_opened u cs s start ≡ ok fields
  pub walks : walk (data_has u cs s start) s i (data_marks u cs) (place fields 0) ≡ ok (place p prefixes)

module _ (u : Bool) (cs : List Column) (s : Bytes) (start : ℕ) where
  pub walking_start : (d : ℕ) → data_opened u cs s start ≡ ok d → Walking u cs s start d 0
  walking_start d e =
      record { fields = d; prefixes = 0; opens = e; walks = walk_zero (data_has u cs s start) s (data_marks u cs) (place d 0) }

  module _ {p i : ℕ} (w : Walking u cs s start p i) where
    module _ (h : i < length cs) where
      one_more :
          walk (data_has u cs s start) s (i + 1) (data_marks u cs) (place w.fields 0)
          ≡ step (data_has u cs s start) s (get_or (data_marks u cs) i no_mark) (place p w.prefixes)
      one_more =
          walk_next (data_has u cs s start) s i (data_marks u cs) (place w.fields 0) (omega (arith, data_marks_length u cs)) w.walks

      pub walking_next : (q : ℕ) → data_passed u cs s start i p ≡ ok q → Walking u cs s start q (i + 1)
      unfolding data_passed
      walking_next q e =
          let (n, f) = placed _ q (step_position (data_has u cs s start) s (get_or (data_marks u cs) i no_mark) p w.prefixes (ok q) e) in
          record { fields = w.fields; prefixes = n; opens = w.opens; walks = one_more ∙ f }

      pub walking_refused : {c o : ℕ} {x : Input} → data_passed u cs s start i p ≡ bad c o x → data_end u cs s start ≡ bad c o x
      unfolding data_passed
      walking_refused {c} {o} {x} e =
          let f = refused_place _ (step_position (data_has u cs s start) s (get_or (data_marks u cs) i no_mark) p w.prefixes (bad c o x) e) in
          data_walk u cs s start w.fields w.opens
          ∙ bind_bad _ (walk_ended (data_has u cs s start) s (i + 1) (length cs) (data_marks u cs) (place w.fields 0) (omega arith) (one_more ∙ f))

    pub walking_end : i ≡ length cs → data_end u cs s start ≡ ok p
    walking_end e =
        data_walk u cs s start w.fields w.opens
        ∙ bind_of _ (ap (λ (k : ℕ). walk (data_has u cs s start) s k (data_marks u cs) (place w.fields 0)) (sym e) ∙ w.walks)

-- Before turn i, at p: nothing is done yet; or the walk stands before column i - 1.
pub data AtTurn (u : Bool) (cs : List Column) (s : Bytes) (start p : ℕ) : (i : ℕ) → Type 0 where
  first : AtTurn u cs s start p 0
  later : {i : ℕ} → i ≤ length cs → Walking u cs s start p i → AtTurn u cs s start p (suc i)

module _ (u : Bool) (cs : List Column) (s : Bytes) (start : ℕ) where
  pub turn_next : {p i q : ℕ} → i < length cs + 1 → AtTurn u cs s start p i → turned u cs s start p i ≡ ok q → AtTurn u cs s start q (i + 1)
  turn_next {q = q} h first t = later {i = 0} (omega arith) (walking_start u cs s start q t)
  turn_next {q = q} h (later {i = i} l w) t =
      let z : suc i + 1 ≡ suc (i + 1) = omega arith in
      rw z (later {i = i + 1} (omega arith) (walking_next u cs s start w (omega arith) q t))

  pub turn_refused : {p i : ℕ} (e : Error) → i < length cs + 1 → AtTurn u cs s start p i → turned u cs s start p i ≡ refused e → data_end u cs s start ≡ refused e
  turn_refused e h first t = data_closed u cs s start t
  turn_refused e h (later l w) t = walking_refused u cs s start w (omega arith) t

  pub turn_end : {p i : ℕ} → i ≡ length cs + 1 → AtTurn u cs s start p i → data_end u cs s start ≡ ok p
  turn_end h first = absurd (omega arith)
  turn_end h (later l w) = walking_end u cs s start w (omega arith)

-- what a turn answers, by its number
module _ (u : Bool) (cs : List Column) (s : Bytes) (start at : ℕ) {r : Read ℕ} where
  pub turned_first : {i : ℕ} → i ≡ 0 → r ≡ data_opened u cs s start → r ≡ turned u cs s start at i
  turned_first e h = rw e h

  pub turned_later : {i k : ℕ} → (i ≡ 0 → ⊥) → k ≡ i - 1 → r ≡ data_passed u cs s start k at → r ≡ turned u cs s start at i
  turned_later {i = zero} n e h = absurd (n refl)
  turned_later {i = suc i} n e h =
      let z : suc i - 1 ≡ i = omega arith in
      h ∙ ap (λ (j : ℕ). data_passed u cs s start j at) (e ∙ z)
