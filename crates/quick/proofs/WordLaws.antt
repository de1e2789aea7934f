-- The loop over the words of a row's data: where it stands, how a word takes it on, and that it ends where the data end.
-- Assumes nothing.
use Prim.Native.Nat.{ℕ, ◌+◌, ◌*◌, ◌<◌, ◌≤◌}
use mathlib.Core.Path.{◌≡◌, refl, sym, ap, ◌∙◌, subst}
use Rattle.std.specs.Prelude.{Some}
use mathlib.Core.List.{List}
use mathlib.Core.Bool.{Bool}
use native.Mathlib.Numerals.{add-one}
use native.Mathlib.Omega.{arith}
use lib.ListN.{length, get_or, drop, drop_of_length-le}
use lib.Seq.{drop-cons}
use borrow.Author.Tests.{le-leb}
use Rattle.wire.specs.Read.{Bytes, ok}
use Rattle.column.specs.Stops.{Stop, no_stop, stop_in}
use Rattle.walk.specs.Rows.{Place, place}
use Rattle.walk.specs.Leaps.{passed, leaps, inside, leap}
use Rattle.shapes.specs.Shapes.{first_in, stops_in, tail_in}
use Rattle.quick.specs.Quick.{Leads, Leading, Over}
use Rattle.quick.proofs.StepLaws.{Passes}

-- one stop more
leap_next : (on : ℕ → Bool) (s : Bytes) (ts : List Stop) (tail i : ℕ) (w v : Place) → i < length ts → passed on s (get_or ts i no_stop) w ≡ ok v →
    leap on s (drop i ts) tail w ≡ leap on s (drop (i + 1) ts) tail v
unfolding leap leaps
leap_next on s ts tail i w v h e = simp (drop-cons ts i no_stop h, e, add-one i)

-- behind the last
pub leap_end : (on : ℕ → Bool) (s : Bytes) (ts : List Stop) (tail i p n : ℕ) → length ts ≤ i → p + tail ≤ length s →
    leap on s (drop i ts) tail (place p n) ≡ ok (place (p + tail) n)
unfolding leap leaps inside
leap_end on s ts tail i p n h l = simp (drop_of_length-le ts h, le-leb (p + tail) (length s) l)

-- a word leads over its own stop
lead_own : {on : ℕ → Bool} {bits word mask : ℕ} {t : Stop} → Leads on bits word mask t → Leads on bits word mask (stop_in word)
lead_own {on} {bits} {word} {mask} {t} l = subst (λ (x : Stop). Leads on bits word mask x) (sym l.says.stop) l

-- Before word number i: the leap over all stops goes on from the two sums, over those that are left.
pub record AtWord (shapes : List ℕ) (form bits : ℕ) (s : Bytes) (fields lead lengths i : ℕ) : Type 0 where
  pub near : lead ≤ 16777216 + 131072 * i
  pub short : lengths ≤ 4294967296 * i
  pub goes :
      (on : ℕ → Bool) (ts : List Stop) → Leading shapes form on bits ts →
      (n : ℕ) × (leap on s ts (tail_in form) (place fields 0) ≡ leap on s (drop i ts) (tail_in form) (place (lead + lengths) n))

module _ (shapes : List ℕ) (form bits : ℕ) (s : Bytes) (fields : ℕ) where
  pub word_start : fields ≤ 16777216 → AtWord shapes form bits s fields fields 0 0
  word_start h =
      record {
        near = omega arith;
        short = omega arith;
        goes = λ on ts l. let y : fields + 0 ≡ fields = omega arith in (0, rw y refl);
      }

  module _ {lead lengths i : ℕ} (here : AtWord shapes form bits s fields lead lengths i) where
    -- the sums are far from the greatest number
    pub word_small : i ≤ stops_in form → (lead ≤ 17179869184) × (lengths ≤ 562949953421312)
    word_small h =
        let a : i ≤ 255 = omega (arith, h) in
        (omega (arith, here.near), omega (arith, here.short))

    pub word_next :
        {next more first : ℕ} → first ≡ first_in form → i < stops_in form →
        Passes (get_or shapes (first + 2 * i) 0) (get_or shapes (first + 2 * i + 1) 0) bits s (lead + lengths) (next + (lengths + more)) →
        next ≤ lead + 131072 → more ≤ 4294967296 → AtWord shapes form bits s fields next (lengths + more) (i + 1)
    word_next {next} {more} {first} f h passes a b =
        record {
          near = omega (arith, here.near);
          short = omega (arith, here.short);
          goes = onward;
        }
      where
        onward :
            (on : ℕ → Bool) (ts : List Stop) → Leading shapes form on bits ts →
            (n : ℕ) × (leap on s ts (tail_in form) (place fields 0) ≡ leap on s (drop (i + 1) ts) (tail_in form) (place (next + (lengths + more)) n))
        onward on ts l =
            let (n, e) = here.goes on ts l in
            let k : i < length ts = omega (arith, l.count) in
            let word : Leads on bits (get_or shapes (first + 2 * i) 0) (get_or shapes (first + 2 * i + 1) 0) (get_or ts i no_stop) = rw f (l.leads i k) in
            let (m, p) = passes on (lead_own word) n in
            let q : passed on s (get_or ts i no_stop) (place (lead + lengths) n) ≡ ok (place (next + (lengths + more)) m) =
            ap (λ (t : Stop). passed on s t (place (lead + lengths) n)) (sym word.says.stop) ∙ p in
            (m, e ∙ leap_next on s ts (tail_in form) i _ _ k q)

    pub word_end : {end : ℕ} → stops_in form ≤ i → end ≡ lead + lengths + tail_in form → end ≤ length s → Over shapes form bits s fields (Some end)
    word_end {end} h e l on ts leading =
        let (n, g) = here.goes on ts leading in
        (n, g ∙ leap_end on s ts (tail_in form) i (lead + lengths) n (omega (arith, leading.count)) (omega arith) ∙ rw e refl)
