-- Laws of the numbers' bytes, for the writer.
-- Assumes nothing.
use Prim.Native.Nat.{ℕ, zero, suc, ◌+◌, ◌/◌, ◌%◌, ◌≤◌, ◌<◌}
use mathlib.Core.Path.{◌≡◌, refl, sym, ap, ◌∙◌}
use mathlib.Core.List.{List, [], ◌∷◌, ◌++◌, append_assoc}
use mathlib.Core.Bool.{Bool, true, false}
use native.Mathlib.Numerals.{add-one}
use native.Mathlib.Omega.{arith}
use lib.ListN.{length, get_or, take, drop, length-append, take-append-drop, drop_of_length-le}
use lib.Seq.{take-suc, take_at}
use lib.Dec.{ltb}
use borrow.Author.Tests.{ltb-true, ltb-false, lt-ltb, le-ltb}
use Rattle.wire.specs.declared.error.Input.TheVariants.{Single}
use Rattle.wire.specs.Read.{Bytes, AreBytes, bad, check}
use Rattle.wire.specs.Output.{put}
use Rattle.wire.proofs.Laws.{put_fits, put_next, length_put}
use Rattle.tree.specs.Numbers.{number_limit, groups, third_group, second_group, number_in}
use Rattle.numbers.specs.Writer.{no_number, coded_number, coded, Coded}
use Rattle.tree.proofs.Lists.{append_nil, bytes_append}
use Rattle.tree.proofs.NumberForms.{one_group, two_groups, three_groups}

-- The bytes of a number by its size.

module _ (n : ℕ) where
  pub coded_one : n < 0x80 → coded_number n ≡ n ∷ []
  unfolding coded_number
  coded_one h = rw (lt-ltb n number_limit (omega arith)) (one_group n h)

  pub coded_two : 0x80 ≤ n → n < 0x4000 → coded_number n ≡ (n % 0x80 + 0x80) ∷ ((n / 0x80) ∷ [])
  unfolding coded_number
  coded_two h k =
      rw (lt-ltb n number_limit (omega arith)) (two_groups n (n % 0x80) (n / 0x80) (omega arith) (omega arith) (omega arith) (omega arith))

  pub coded_three : 0x4000 ≤ n → n < number_limit → coded_number n ≡ (n % 0x80 + 0x80) ∷ ((n / 0x80 % 0x80 + 0x80) ∷ ((n / 0x4000) ∷ []))
  unfolding coded_number
  coded_three h k =
      rw (lt-ltb n number_limit k)
      (three_groups n (n % 0x80) (n / 0x80 % 0x80) (n / 0x4000) (omega arith) (omega arith) (omega arith) (omega arith) (omega arith))

  pub coded_none : number_limit ≤ n → coded_number n ≡ no_number
  unfolding coded_number
  coded_none h = rw (le-ltb n number_limit h)

  pub coded_shortest : n < number_limit → coded_number n ≡ groups n
  unfolding coded_number
  coded_shortest h = rw (lt-ltb n number_limit h)

-- Its length is one to three, and its bytes are bytes.

pub record Bytewise (s : Bytes) : Type 0 where
  pub some : 1 ≤ length s
  pub short : length s ≤ 3
  pub bytes : AreBytes s

one_byte : (a : ℕ) → a < 256 → AreBytes (a ∷ [])
one_byte a h zero = h
one_byte a h (suc i) = omega arith

two_bytes : (a b : ℕ) → a < 256 → b < 256 → AreBytes (a ∷ (b ∷ []))
two_bytes a b h k = bytes_append (a ∷ []) (b ∷ []) (one_byte a h) (one_byte b k)

three_bytes : (a b c : ℕ) → a < 256 → b < 256 → c < 256 → AreBytes (a ∷ (b ∷ (c ∷ [])))
three_bytes a b c h k l = bytes_append (a ∷ []) (b ∷ (c ∷ [])) (one_byte a h) (two_bytes b c k l)

pub coded_bytewise : (n : ℕ) → Bytewise (coded_number n)
coded_bytewise n = by (ltb n 0x80) (ltb n 0x4000) (ltb n number_limit) refl refl refl
  where
    by : (t u v : Bool) → ltb n 0x80 ≡ t → ltb n 0x4000 ≡ u → ltb n number_limit ≡ v → Bytewise (coded_number n)
    by true u v e f g =
        let h : n < 0x80 = ltb-true _ _ e in
        rw (coded_one n h) (record { some = omega arith; short = omega arith; bytes = one_byte n (omega arith) })
    by false true v e f g =
        let h : n < 0x4000 = ltb-true _ _ f in
        rw (coded_two n (ltb-false _ _ e) h)
        (record { some = omega arith; short = omega arith; bytes = two_bytes (n % 0x80 + 0x80) (n / 0x80) (omega arith) (omega arith) })
    by false false true e f g =
        let h : n < number_limit = ltb-true _ _ g in
        let a : ℕ = n % 0x80 + 0x80 in
        let b : ℕ = n / 0x80 % 0x80 + 0x80 in
        let c : ℕ = n / 0x4000 in
        rw (coded_three n (ltb-false _ _ f) h)
        (record { some = omega arith; short = omega arith; bytes = three_bytes a b c (omega arith) (omega arith) (omega arith) })
    by false false false e f g =
        rw (coded_none n (ltb-false _ _ g))
        (record { some = omega arith; short = omega arith; bytes = three_bytes 0x80 0x80 0x80 (omega arith) (omega arith) (omega arith) })

-- What the reader says where no number stands: three bytes that are none, and no bytes at all.

pub none_read : (l : Bytes) (at : ℕ) → number_in (no_number ++ l) at ≡ bad 5 at Single
unfolding number_in second_group third_group check
none_read l at = refl

pub nothing_read : (at : ℕ) → number_in [] at ≡ bad 1 at Single
unfolding number_in
nothing_read at = refl

-- Numbers one after the other.

pub coded_append : (x y : List ℕ) → coded (x ++ y) ≡ coded x ++ coded y
unfolding coded
coded_append [] y = refl
coded_append (n ∷ x) y = rw (coded_append x y) (sym (append_assoc (coded_number n) (coded x) (coded y)))

pub coded_bytes : (ns : List ℕ) → AreBytes (coded ns)
unfolding coded
coded_bytes [] = λ i. omega arith
coded_bytes (n ∷ ns) = bytes_append (coded_number n) (coded ns) (coded_bytewise n).bytes (coded_bytes ns)

pub coded_long : (ns : List ℕ) → length ns ≤ length (coded ns)
unfolding coded
coded_long [] = omega arith
coded_long (n ∷ ns) = simp length-append (omega (arith, (coded_bytewise n).some, coded_long ns))

-- What the loop has in the buffer after i numbers.

pub record Coding (ns : List ℕ) (entry buffer : Bytes) (at i : ℕ) : Type 0 where
  pub few : i ≤ length ns
  pub inside : at ≤ length entry
  pub size : at ≡ length (coded (take i ns))
  pub laid : buffer ≡ put entry 0 (coded (take i ns))

module _ (ns : List ℕ) (entry : Bytes) where
  pub coding_start : Coding ns entry entry 0 0
  unfolding coded
  coding_start = record { few = omega arith; inside = omega arith; size = refl; laid = sym (put_fits entry 0 [] (omega arith)) }

  module _ (buffer : Bytes) (at i : ℕ) (c : Coding ns entry buffer at i) where
    pub coding_length : length buffer ≡ length entry
    coding_length = ap length c.laid ∙ length_put entry 0 (coded (take i ns))

    pub coding_next :
        (next : Bytes) (size : ℕ) → i < length ns → at + 3 ≤ length buffer → size ≡ length (coded_number (get_or ns i 0)) →
        next ≡ put buffer at (coded_number (get_or ns i 0)) → Coding ns entry next (at + size) (i + 1)
    unfolding coded
    coding_next next size h room e f =
        let v : Bytes = coded_number (get_or ns i 0) in
        let w : Bytes = coded (take i ns) in
        let z : coded (take (i + 1) ns) ≡ w ++ v =
        ap (λ (k : ℕ). coded (take k ns)) (add-one i) ∙ ap coded (take-suc ns i 0 h) ∙ coded_append (take i ns) (get_or ns i 0 ∷ [])
        ∙ ap (λ (l : Bytes). w ++ l) (append_nil v) in
        let short : length v ≤ 3 = (coded_bytewise (get_or ns i 0)).short in
        let l : length (w ++ v) ≡ length w + length v = length-append w v in
        record {
          few = omega arith;
          inside = omega (arith, c.size, coding_length);
          size = rw (z, l, c.size, e) refl;
          laid = f ∙ put_next entry buffer w v at c.laid c.size (omega (arith, c.size, coding_length)) ∙ ap (put entry 0) (sym z);
        }

    -- the bytes that are in the buffer, and those that are not
    coding_held : take at buffer ≡ coded (take i ns)
    coding_held =
        let w : Bytes = coded (take i ns) in
        rw (c.laid ∙ put_fits entry 0 w (omega (arith, c.size, c.inside))) (take_at w (drop (0 + length w) entry) at (sym c.size))

    coding_splits : coded ns ≡ take at buffer ++ coded (drop i ns)
    coding_splits = rw coding_held (ap coded (sym (take-append-drop i ns)) ∙ coded_append (take i ns) (drop i ns))

    pub coded_part : length buffer < at + 3 → Coded ns buffer at
    coded_part h =
        record {
          inside = omega (arith, c.inside, coding_length);
          rest = coded (drop i ns);
          splits = coding_splits;
          all = λ k. absurd (omega arith);
        }

    pub coded_whole : length ns ≤ i → Coded ns buffer at
    unfolding coded
    coded_whole h =
        record {
          inside = omega (arith, c.inside, coding_length);
          rest = coded (drop i ns);
          splits = coding_splits;
          all = λ k. rw (drop_of_length-le ns h) refl;
        }
