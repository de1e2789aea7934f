-- Forms back to their parts.
-- Assumes nothing.
use Prim.Native.Nat.{ℕ, ◌+◌, ◌*◌, ◌/◌, ◌%◌, ◌<◌}
use mathlib.Core.Path.{◌≡◌, refl, sym}
use mathlib.Core.Bool.{Bool, true, false}
use native.Mathlib.Nat.{div-div-eq-div-mul}
use native.Mathlib.Omega.{arith}
use lib.Dec.{eqb}
use borrow.Author.Tests.{eqb-true, eqb-false, eq-eqb, ne_eqb}
use Rattle.shapes.specs.Shapes.{form_of, first_in, stops_in, map_in, tail_in, always_in}

module _ (first stops map tail always : ℕ) (f : first < 65536) (s : stops < 256) (m : map < 256) (t : tail < 65536) where
  pub form_first : first_in (form_of first stops map tail always) ≡ first
  form_first = omega arith

  pub form_stops : stops_in (form_of first stops map tail always) ≡ stops
  form_stops =
      let q : form_of first stops map tail always / 65536 ≡ stops + 256 * map + 65536 * tail + 4294967296 * always = omega arith in
      rw q (omega arith)

  pub form_map : map_in (form_of first stops map tail always) ≡ map
  form_map =
      let q : form_of first stops map tail always / 16777216 ≡ map + 256 * tail + 16777216 * always = omega arith in
      rw q (omega arith)

  pub form_tail : tail_in (form_of first stops map tail always) ≡ tail
  form_tail =
      let q : form_of first stops map tail always / 4294967296 ≡ tail + 65536 * always = omega arith in
      rw q (omega arith)

  pub form_always : always_in (form_of first stops map tail always) ≡ always
  form_always = omega arith

-- no stops and no map, where these parts together are 0
pub rigid_parts : (form : ℕ) → form / 65536 % 65536 ≡ 0 → (stops_in form ≡ 0) × (map_in form ≡ 0)
rigid_parts form e =
    let z : form / 16777216 ≡ form / 65536 / 256 = sym (div-div-eq-div-mul form 65536 256) in
    (omega arith, rw z (omega arith))

-- sixteen bits by their two halves
none : (x : ℕ) → x % 256 ≡ 0 → x / 256 % 256 ≡ 0 → x % 65536 ≡ 0
none x low high =
    let a : x ≡ 256 * (x / 256) = omega (arith, low) in
    let b : x / 256 ≡ 256 * (x / 256 / 256) = omega (arith, high) in
    multiple (x / 256 / 256) (omega (arith, a, b))
  where
    multiple : (m : ℕ) → x ≡ 65536 * m → x % 65536 ≡ 0
    multiple m e = omega (arith, e)

pub rigid_told : (form : ℕ) → eqb (form / 65536 % 65536) 0 ≡ eqb (stops_in form + map_in form) 0
rigid_told form = go (eqb (form / 65536 % 65536) 0) refl
  where
    go : (b : Bool) → eqb (form / 65536 % 65536) 0 ≡ b → b ≡ eqb (stops_in form + map_in form) 0
    go true e = let (x, y) = rigid_parts form (eqb-true _ _ e) in sym (eq-eqb (stops_in form + map_in form) 0 (omega (arith, x, y)))
    go false e =
        let z : form / 16777216 ≡ form / 65536 / 256 = sym (div-div-eq-div-mul form 65536 256) in
        sym (ne_eqb (stops_in form + map_in form) 0 (λ h. eqb-false (form / 65536 % 65536) 0 e (whole z h)))
      where
        whole : form / 16777216 ≡ form / 65536 / 256 → stops_in form + map_in form ≡ 0 → form / 65536 % 65536 ≡ 0
        whole z h =
            let low : form / 65536 % 256 ≡ 0 = omega (arith, h) in
            let high : form / 16777216 % 256 ≡ 0 = omega (arith, h) in
            none (form / 65536) low (rw z at high)
