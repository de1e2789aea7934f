-- Laws of handler options that the code's proofs cite.
-- Assumes nothing.
use Prim.Native.Nat.{ℕ, ◌+◌, ◌≤◌}
use mathlib.Core.List.{◌++◌}
use mathlib.Core.Bool.{true}
use mathlib.Core.Path.{◌≡◌, refl, sym, ap, ◌∙◌}
use native.Mathlib.Omega.{arith}
use lib.ListN.{length, length-append}
use lib.Dec.{leb}
use borrow.Author.Tests.{leb-true}
use Rattle.wire.specs.declared.error.Input.TheVariants as input
use Rattle.wire.specs.Read.{Bytes, ok, check, about, sized_by}
use Rattle.wire.specs.Integers.{int_bytes}
use Rattle.wire.specs.Output.{put}
use Rattle.wire.proofs.Laws.{length_int, put_next}
use Rattle.wire.proofs.Pieces.{bind_ok, check_ok, about_ok, ok_ok}
use Rattle.options.specs.Options.{string_bytes, head_bytes, options_bytes, strings_size, options_size, async_allowed}

-- what the size of three strings tells
pub record Sizes (first second third n : ℕ) : Type 0 where
  pub sum : n ≡ 25 + first + second + third
  pub small : n ≤ 65535

pub strings_sizes : (first second third n : ℕ) → strings_size first second third ≡ ok n → Sizes first second third n
unfolding strings_size
strings_sizes first second third n e =
    let (u1, e1, f1) = bind_ok (about input.FirstString (sized_by first)) _ n e in
    let (u2, e2, f2) = bind_ok (about input.SecondString (sized_by second)) _ n f1 in
    let (u3, e3, f3) = bind_ok (about input.ThirdString (sized_by third)) _ n f2 in
    let (u4, e4, f4) = bind_ok (about input.FirstString (check (leb (25 + first) 65535) 4 1)) _ n f3 in
    let (u5, e5, f5) = bind_ok (about input.SecondString (check (leb (25 + first + second) 65535) 4 1)) _ n f4 in
    let (u6, e6, f6) = bind_ok (about input.ThirdString (check (leb (25 + first + second + third) 65535) 4 1)) _ n f5 in
    let sum : 25 + first + second + third ≡ n = ok_ok f6 in
    let l : 25 + first + second + third ≤ 65535 = leb-true _ _ (check_ok _ _ _ u6 (about_ok _ _ u6 e6)) in
    record { sum = sym sum; small = omega arith }

pub record Sized (first second third async n : ℕ) : Type 0 where
  pub sizes : Sizes first second third n
  pub allowed : async_allowed async ≡ true

pub options_sized_lem : (first second third async n : ℕ) → options_size first second third async ≡ ok n → Sized first second third async n
unfolding options_size
options_sized_lem first second third async n e =
    let (m, e1, f1) = bind_ok (strings_size first second third) _ n e in
    let (u2, e2, f2) = bind_ok (about input.Async (check (async_allowed async) 3 (m + 1))) _ n f1 in
    let same : m ≡ n = ok_ok f2 in
    record {
      sizes = rw same at (strings_sizes first second third m e1);
      allowed = check_ok _ _ _ u2 (about_ok _ _ u2 e2);
    }

pub length_string : (x : Bytes) → length (string_bytes x) ≡ 2 + length x
unfolding string_bytes
length_string x = simp (length-append, length_int)

pub length_head : (n : ℕ) → length (head_bytes n) ≡ 20
unfolding head_bytes int_bytes
length_head n = refl

pub length_options : (x y z : Bytes) (async : ℕ) → length (options_bytes x y z async) ≡ 28 + length x + length y + length z
unfolding options_bytes
length_options x y z async = simp (length-append, length_string, length_head, length_int) (omega arith)

-- the options laid down part by part are the whole piece
pub options_laid :
    (out a b c d e x y z : Bytes) (async n : ℕ) → Sizes (length x) (length y) (length z) n → 3 + n ≤ length out →
    a ≡ put out 0 (head_bytes n) → b ≡ put a 20 (string_bytes x) → c ≡ put b (22 + length x) (string_bytes y) →
    d ≡ put c (24 + length x + length y) (string_bytes z) → e ≡ put d (n + 1) (int_bytes 2 async) →
    e ≡ put out 0 (options_bytes x y z async)
unfolding options_bytes
options_laid out a b c d e x y z async n sizes h ea eb ec ed ee =
    let sum : n ≡ 25 + length x + length y + length z = sizes.sum in
    let w1 : Bytes = head_bytes n in
    let w2 : Bytes = w1 ++ string_bytes x in
    let w3 : Bytes = w2 ++ string_bytes y in
    let w4 : Bytes = w3 ++ string_bytes z in
    let l1 : length w1 ≡ 20 = length_head n in
    let lx : length (string_bytes x) ≡ 2 + length x = length_string x in
    let ly : length (string_bytes y) ≡ 2 + length y = length_string y in
    let lz : length (string_bytes z) ≡ 2 + length z = length_string z in
    let li : length (int_bytes 2 async) ≡ 2 = length_int 2 async in
    let l2 : length w2 ≡ 22 + length x = omega (arith, length-append w1 (string_bytes x)) in
    let l3 : length w3 ≡ 24 + length x + length y = omega (arith, length-append w2 (string_bytes y)) in
    let l4 : length w4 ≡ 26 + length x + length y + length z = omega (arith, length-append w3 (string_bytes z)) in
    let b2 : b ≡ put out 0 w2 = eb ∙ put_next out a w1 (string_bytes x) 20 ea (omega arith) (omega arith) in
    let c2 : c ≡ put out 0 w3 = ec ∙ put_next out b w2 (string_bytes y) (22 + length x) b2 (omega arith) (omega arith) in
    let d2 : d ≡ put out 0 w4 = ed ∙ put_next out c w3 (string_bytes z) (24 + length x + length y) c2 (omega arith) (omega arith) in
    ee
    ∙ put_next out d w4 (int_bytes 2 async) (n + 1) d2 (omega arith) (omega arith)
    ∙ ap (λ (m : ℕ). put out 0 (head_bytes m ++ string_bytes x ++ string_bytes y ++ string_bytes z ++ int_bytes 2 async)) sum
