-- A column that is no chapter fills its slot, and so does each of a run.
-- Assumes nothing.
use Prim.Native.Nat.{ℕ, zero, suc, ◌+◌, ◌-◌, ◌≤◌, ◌<◌}
use mathlib.Core.Path.{◌≡◌, refl, sym, ap, ◌∙◌}
use mathlib.Core.List.{List}
use native.Mathlib.Omega.{arith}
use lib.ListN.{length, get_or, set, length-set}
use lib.Seq.{get_or-set_same, get_or-set_other}
use Rattle.wire.specs.Read.{Bytes, Read, ok}
use Rattle.tree.specs.Filling.{Filled, filled, fill_columns}
use Rattle.entry.specs.Heads.{head_at}
use Rattle.schema.specs.declared.reader.Place.{Place}
use Rattle.schema.specs.declared.runs.Run.{Run}
use Rattle.schema.specs.Told.{placed}
use Rattle.entry.specs.Usual.{Slotted}
use Rattle.schema.specs.Runs.{laid_from, RanInto, Ran}
use Rattle.entry.proofs.Heads.{head_inside}
use Rattle.schema.proofs.Reading.{column_filled, columns_next}

-- such a column fills its slot, and the columns behind it are what is left
pub usual_next :
    (nest : ℕ → Filled → Read Filled) (b : Bytes) (slot most count at columns schemas v end : ℕ) (table : List ℕ) →
    count < most → Slotted (head_at b at) v end →
    fill_columns nest b (most - count) (slot + count) (filled at columns schemas table)
    ≡ fill_columns nest b (most - (count + 1)) (slot + (count + 1)) (filled end columns schemas (set table (slot + count) v))
usual_next nest b slot most count at columns schemas v end table h s =
    let f : Filled = filled at columns schemas table in
    let g : Filled = filled end columns schemas (set table (slot + count) v) in
    let z : most - count ≡ suc (most - (count + 1)) = omega (arith, h) in
    let y : slot + count + 1 ≡ slot + (count + 1) = omega arith in
    columns_next nest b (slot + count) f (most - count) (most - (count + 1)) g z
    (column_filled nest b (slot + count) f s.code s.flags s.maximum end s.head
    ∙ ap (λ (x : ℕ). ok (filled end columns schemas (set table (slot + count) x))) (sym s.holds))
    ∙ ap (λ (i : ℕ). fill_columns nest b (most - (count + 1)) i g) y

-- slots that are not laid do not matter
laid_other : (base n : ℕ) (slots table : List ℕ) (i v : ℕ) → n ≤ i → laid_from base n (set slots i v) table ≡ laid_from base n slots table
laid_other base zero slots table i v h = refl
laid_other base (suc n) slots table i v h =
    let other : get_or (set slots i v) n 0 ≡ get_or slots n 0 = get_or-set_other slots i n v 0 (λ e. absurd (omega (arith, e, h))) in
    rw (other, laid_other base n slots table i v (omega (arith, h))) refl

module _ (b : Bytes) (from most : ℕ) where
  pub run_start : (slots : List ℕ) → length slots ≡ 64 → from ≤ length b → RanInto b from most slots (record { count = 0; at = from })
  run_start slots l h =
      record {
        few = omega arith;
        long = l;
        further = omega arith;
        inside = h;
        fills = λ nest n base columns schemas table some.
            let x : n - 0 ≡ n = omega arith in
            let y : base + 0 ≡ base = omega arith in
            rw (x, y) refl;
      }

  pub run_next :
      {slots : List ℕ} {at i : ℕ} (v end : ℕ) → most ≤ 64 → RanInto b from most slots (record { count = i; at = at }) → i < most →
      Slotted (head_at b at) v end → RanInto b from most (set slots i v) (record { count = i + 1; at = end })
  run_next {slots} {at} {i} v end m p h s =
      let inner = head_inside b at s.head in
      record {
        few = omega (arith, h);
        long = simp length-set p.long;
        further = omega (arith, p.further, inner.0);
        inside = inner.1;
        fills = λ nest n base columns schemas table some.
            let same : get_or (set slots i v) i 0 ≡ v = get_or-set_same slots i v 0 (omega (arith, p.long, m, h)) in
            let laid : set (laid_from base i slots table) (base + i) v ≡ laid_from base (suc i) (set slots i v) table =
            rw (same, laid_other base i slots table i v (omega arith)) refl in
            let z : i + 1 ≡ suc i = omega arith in
            p.fills nest n base columns schemas table (omega (arith, some))
            ∙ usual_next nest b base n i at columns schemas v end (laid_from base i slots table) (omega (arith, some)) s
            ∙ rw z (ap (λ (t : List ℕ). fill_columns nest b (n - suc i) (base + suc i) (filled end columns schemas t)) laid);
      }

-- one more slot laid
pub laid_more :
    (base i : ℕ) (slots table now : List ℕ) (v : ℕ) → v ≡ get_or slots i 0 → now ≡ laid_from base i slots table → set now (base + i) v ≡ laid_from base (i + 1) slots table
laid_more base i slots table now v h e =
    let z : i + 1 ≡ suc i = omega arith in
    rw (h, e, z) refl

pub laid_all : (base i n : ℕ) (slots table : List ℕ) {now : List ℕ} → now ≡ laid_from base i slots table → i ≡ n → now ≡ laid_from base n slots table
laid_all base i n slots table e all = rw (← all) e

-- laid into a table
pub run_laid :
    (b : Bytes) (from slot most n : ℕ) (slots table exit : List ℕ) (r : Run) → RanInto b from n slots r → n ≤ most →
    exit ≡ laid_from slot r.count slots table → Ran b from slot most table exit r
run_laid b from slot most n slots table exit r p h e =
    record {
      few = omega (arith, p.few, h);
      further = p.further;
      inside = p.inside;
      fills = λ nest columns schemas. rw e (p.fills nest most slot columns schemas table (omega (arith, p.few, h)));
    }

-- the place behind columns that were read so
abbrev pub behind : Place → Run → Place
behind p r = record { at = r.at; columns = p.columns; schemas = p.schemas }

-- the columns of a schema behind the i-th and those that were read so
pub run_on :
    (nest : ℕ → Filled → Read Filled) (b : Bytes) (start n i : ℕ) (p : Place) (entry exit : List ℕ) (r : Run) →
    Ran b p.at (start + i) (n - i) entry exit r →
    fill_columns nest b (n - i) (start + i) (placed p entry) ≡ fill_columns nest b (n - (i + r.count)) (start + (i + r.count)) (placed (behind p r) exit)
run_on nest b start n i p entry exit r u =
    let x : n - i - r.count ≡ n - (i + r.count) = omega arith in
    let y : start + i + r.count ≡ start + (i + r.count) = omega arith in
    u.fills nest p.columns p.schemas ∙ rw (x, y) refl
