-- Round trips of handler options: what was written reads back, and what was read is written back as the same bytes.
-- Assumes nothing.
use Prim.Native.Nat.{ℕ, ◌+◌, ◌-◌, ◌≤◌, ◌<◌}
use mathlib.Core.List.{[], ◌∷◌, ◌++◌}
use mathlib.Core.Bool.{true}
use mathlib.Core.Path.{◌≡◌, refl, sym, ap, subst, ◌∙◌}
use native.Mathlib.Omega.{arith}
use lib.ListN.{length, take, length-append}
use lib.Dec.{leb, eqb}
use borrow.Author.Tests.{leb-true, le-leb, eqb-true, eq-eqb}
use Rattle.wire.specs.Read.{Bytes, AreBytes, ok, check, about, limit, sized_by, sized, cut, whole, byte_at, constants}
use Rattle.wire.specs.Integers.{read_int, int_bytes}
use Rattle.wire.proofs.Laws.{length_int, whole_fits, sized_within, fitting_fits}
use Rattle.wire.proofs.Pieces.{Piece, piece, cut_length, cut_is, cut_piece, join, front, back, bind_ok, check_ok, ok_ok, whole_ok, byte_is, byte_ok, constants_is, constants_ok, int_is, int_ok, int_small, fitting_ok, piece_from, piece_to, piece_start}
use Rattle.options.specs.declared.options.Span.{Span}
use Rattle.options.specs.declared.options.Spans.{Spans}
use Rattle.options.specs.declared.options.Options.{Options}
use Rattle.options.specs.Options.{token, guid, async_allowed, span_from, spans_as, options_as, span_at, spans_of, async_rest, options_rest, options_sized, options_of, string_bytes, head_bytes, options_bytes, strings_size, options_size, options_written, text_of}
use Rattle.options.proofs.Laws.{Sized, options_sized_lem, length_string, length_options}

-- A string at its piece, and what a string that was read tells.

span_is :
    {s : Bytes} {at b : ℕ} (x : Bytes) (end : ℕ) → Piece s at b (string_bytes x) → length x < 65536 → b ≤ end →
    span_at s at end ≡ ok (span_from (at + 2) (at + 2 + length x))
unfolding span_at string_bytes check
span_is {s} {at} {b} x end p small inside =
    let l : length (string_bytes x) ≡ 2 + length x = length_string x in
    let a : at + 2 ≤ end = omega (arith, p.ends) in
    let c : at + 2 + length x ≤ end = omega (arith, p.ends) in
    simp (le-leb (at + 2) end a, int_is 2 (length x) small (front (int_bytes 2 (length x)) x p), le-leb (at + 2 + length x) end c)

record SpanTold (s : Bytes) (at end : ℕ) (x : Span) : Type 0 where
  pub bytes : Piece s at x.end (string_bytes (text_of s x))
  pub inside : x.end ≤ end

text_is : (s : Bytes) (a n : ℕ) → text_of s (span_from a (a + n)) ≡ cut s a n
text_is s a n = let z : a + n - a ≡ n = omega arith in ap (cut s a) z

span_told : (s : Bytes) (at end : ℕ) (x : Span) → AreBytes s → end ≤ length s → span_at s at end ≡ ok x → SpanTold s at end x
unfolding span_at string_bytes
span_told s at end x small h e =
    let (u1, e1, f1) = bind_ok (check (leb (at + 2) end) 4 1) _ x e in
    let (n, e2, f2) = bind_ok (read_int s at 2) _ x f1 in
    let (u3, e3, f3) = bind_ok (check (leb (at + 2 + n) end) 4 1) _ x f2 in
    let c : at + 2 + n ≤ end = leb-true _ _ (check_ok _ _ _ u3 e3) in
    let t : Bytes = cut s (at + 2) n in
    let l : length t ≡ n = cut_length s (at + 2) n (omega arith) in
    let p : Piece s at (at + 2 + n) (int_bytes 2 n ++ t) = join (int_ok s at 2 n small e2) (piece s (at + 2) n (omega arith)) in
    let q : Piece s at (at + 2 + n) (int_bytes 2 (length t) ++ t) = rw l p in
    subst (SpanTold s at end) (ok_ok f3)
    (record {
      bytes = subst (λ (y : Bytes). Piece s at (at + 2 + n) (int_bytes 2 (length y) ++ y)) (sym (text_is s (at + 2) n)) q;
      inside = c;
    })

record SpansTold (s : Bytes) (end : ℕ) (x : Spans) : Type 0 where
  pub first : SpanTold s 20 end x.first
  pub second : SpanTold s x.first.end end x.second
  pub third : SpanTold s x.second.end end x.third

spans_told : (s : Bytes) (end : ℕ) (x : Spans) → AreBytes s → end ≤ length s → spans_of s end ≡ ok x → SpansTold s end x
unfolding spans_of
spans_told s end x small h e =
    let (a, e1, f1) = bind_ok (span_at s 20 end) _ x e in
    let (b, e2, f2) = bind_ok (span_at s a.end end) _ x f1 in
    let (c, e3, f3) = bind_ok (span_at s b.end end) _ x f2 in
    subst (SpansTold s end) (ok_ok f3)
    (record {
      first = span_told s 20 end a small h e1;
      second = span_told s a.end end b small h e2;
      third = span_told s b.end end c small h e3;
    })

-- the bytes of options with any update type
abbrev with_update : ℕ → ℕ → Bytes → Bytes → Bytes → ℕ → Bytes
with_update update size x y z async =
    token ++ int_bytes 2 size ++ guid ++ (update ∷ []) ++ string_bytes x ++ string_bytes y ++ string_bytes z ++ int_bytes 2 async

-- what options that were read tell
record OptionsTold (s : Bytes) (o : Options) : Type 0 where
  pub size : ℕ
  pub bytes : Piece s 0 o.end (with_update o.update size (text_of s o.strings.first) (text_of s o.strings.second) (text_of s o.strings.third) o.asynchronous)
  pub ends : o.end ≡ 3 + size
  pub small : size < 65536
  pub allowed : async_allowed o.asynchronous ≡ true

async_told :
    (s : Bytes) (end size update : ℕ) (x : Spans) (o : Options) → AreBytes s → SpansTold s end x → end ≡ 3 + size → size < 65536 →
    Piece s 0 20 (token ++ int_bytes 2 size ++ guid ++ (update ∷ [])) → async_rest s end update x ≡ ok o → OptionsTold s o
unfolding async_rest
async_told s end size update x o bytes strings ends small p e =
    let (u1, e1, f1) = bind_ok (check (eqb (x.third.end + 2) end) 4 1) _ o e in
    let (async, e2, f2) = bind_ok (read_int s x.third.end 2) _ o f1 in
    let (u3, e3, f3) = bind_ok (check (async_allowed async) 3 x.third.end) _ o f2 in
    let z : x.third.end + 2 ≡ end = eqb-true _ _ (check_ok _ _ _ u1 e1) in
    let q = join (join (join (join p strings.first.bytes) strings.second.bytes) strings.third.bytes) (int_ok s x.third.end 2 async bytes e2) in
    subst (OptionsTold s) (ok_ok f3)
    (record { size = size; bytes = piece_to z q; ends = ends; small = small; allowed = check_ok _ _ _ u3 e3 })

sized_told : (s : Bytes) (size : ℕ) (o : Options) → AreBytes s → size < 65536 → Piece s 0 3 (token ++ int_bytes 2 size) → options_sized s size ≡ ok o → OptionsTold s o
unfolding options_sized options_rest
sized_told s size o bytes small p e =
    let (end, e1, f1) = bind_ok (whole s 3 size) _ o e in
    let (u2, e2, f2) = bind_ok (check (leb 25 size) 4 1) _ o f1 in
    let (u3, e3, f3) = bind_ok (constants s 3 guid) _ o f2 in
    let (update, e4, f4) = bind_ok (byte_at s 19) _ o f3 in
    let (strings, e5, f5) = bind_ok (spans_of s end) _ o f4 in
    let (w, l) = whole_ok s 3 size end e1 in
    let ends : end ≡ 3 + size = omega (arith, w.ends) in
    let g : Piece s 3 19 guid = constants_ok s 3 guid u3 p.inside e3 in
    async_told s end size update strings o bytes (spans_told s end strings bytes w.inside e5) ends small (join (join p g) (byte_ok s 19 update e4)) f5

options_told : (s : Bytes) (o : Options) → AreBytes s → options_of s ≡ ok o → OptionsTold s o
unfolding options_of
options_told s o bytes e =
    let (u0, e0, f0) = bind_ok (sized s) _ o e in
    let (u1, e1, f1) = bind_ok (constants s 0 token) _ o f0 in
    let (size, e2, f2) = bind_ok (read_int s 1 2) _ o f1 in
    let t : Piece s 0 1 token = constants_ok s 0 token u1 (omega arith) e1 in
    sized_told s size o bytes (int_small s 1 2 size bytes e2) (join t (int_ok s 1 2 size bytes e2)) f2

-- lengths that fit a size are allowed
sizes_allowed :
    (a b c async : ℕ) → 25 + a + b + c < 65536 → async_allowed async ≡ true → options_size a b c async ≡ ok (25 + a + b + c)
unfolding options_size strings_size sized_by check about
sizes_allowed a b c async h e =
    simp (
      le-leb a limit (omega arith),
      le-leb b limit (omega arith),
      le-leb c limit (omega arith),
      le-leb (25 + a) 65535 (omega arith),
      le-leb (25 + a + b) 65535 (omega arith),
      le-leb (25 + a + b + c) 65535 (omega arith),
      e,
    )

length_with : (update size : ℕ) (x y z : Bytes) (async : ℕ) → length (with_update update size x y z async) ≡ 28 + length x + length y + length z
length_with update size x y z async = simp (length-append, length_string, length_int) (omega arith)

rewritten :
    (s : Bytes) (o : Options) (capacity : ℕ) → OptionsTold s o → o.update ≡ 1 → o.end ≤ capacity →
    options_written (text_of s o.strings.first) (text_of s o.strings.second) (text_of s o.strings.third) o.asynchronous capacity
    ≡ ok (take o.end s)
unfolding options_written options_bytes head_bytes
rewritten s o capacity told one room =
    let x : Bytes = text_of s o.strings.first in
    let y : Bytes = text_of s o.strings.second in
    let z : Bytes = text_of s o.strings.third in
    let n : length (with_update o.update told.size x y z o.asynchronous) ≡ 28 + length x + length y + length z =
    length_with o.update told.size x y z o.asynchronous in
    let size : told.size ≡ 25 + length x + length y + length z = omega (arith, told.bytes.ends) in
    let p : Piece s 0 o.end (options_bytes x y z o.asynchronous) =
    subst (λ (u : ℕ). Piece s 0 o.end (with_update u (25 + length x + length y + length z) x y z o.asynchronous)) one
    (subst (λ (k : ℕ). Piece s 0 o.end (with_update o.update k x y z o.asynchronous)) size told.bytes) in
    let l : length (options_bytes x y z o.asynchronous) ≡ o.end = length_options x y z o.asynchronous ∙ omega (arith, told.ends) in
    simp (
      sizes_allowed (length x) (length y) (length z) o.asynchronous (omega (arith, told.small)) told.allowed,
      fitting_fits (options_bytes x y z o.asynchronous) capacity (rw l room),
    )
    (ap (λ (b : Bytes). ok b) (sym (cut_is o.end p l)))

-- Options that were read with update type 1 are written back as the same bytes.
pub options_rewritten :
    (s : Bytes) (o : Options) (capacity : ℕ) → AreBytes s → options_of s ≡ ok o → o.update ≡ 1 → o.end ≤ capacity →
    options_written (text_of s o.strings.first) (text_of s o.strings.second) (text_of s o.strings.third) o.asynchronous capacity
    ≡ ok (take o.end s)
options_rewritten s o capacity bytes e one room = rewritten s o capacity (options_told s o bytes e) one room

-- Options with these strings and this async option, as they stand at the start of an input.
pub record OptionsBack (s x y z : Bytes) (async size : ℕ) : Type 0 where
  pub options : Options
  pub reads : options_of s ≡ ok options
  pub update : options.update ≡ 1
  pub first : text_of s options.strings.first ≡ x
  pub second : text_of s options.strings.second ≡ y
  pub third : text_of s options.strings.third ≡ z
  pub asynchronous : options.asynchronous ≡ async
  pub ends : options.end ≡ size

-- the text of a string at its piece
text_at : {s : Bytes} {at b : ℕ} (x : Bytes) → Piece s at b (string_bytes x) → text_of s (span_from (at + 2) (at + 2 + length x)) ≡ x
unfolding string_bytes
text_at {s} {at} {b} x p =
    let l : length (int_bytes 2 (length x)) ≡ 2 = length_int 2 (length x) in
    text_is s (at + 2) (length x) ∙ ap (λ (n : ℕ). cut s (at + n) (length x)) (sym l) ∙ cut_piece (back (int_bytes 2 (length x)) x p)

-- the parts of options, each at its place
record Parts (s x y z : Bytes) (async n : ℕ) : Type 0 where
  pub token : Piece s 0 1 token
  pub size : Piece s 1 3 (int_bytes 2 n)
  pub guid : Piece s 3 19 guid
  pub update : Piece s 19 20 (1 ∷ [])
  pub first : Piece s 20 (22 + length x) (string_bytes x)
  pub second : Piece s (22 + length x) (22 + length x + 2 + length y) (string_bytes y)
  pub third : Piece s (22 + length x + 2 + length y) (22 + length x + 2 + length y + 2 + length z) (string_bytes z)
  pub last : Piece s (22 + length x + 2 + length y + 2 + length z) (3 + n) (int_bytes 2 async)

parts_read :
    (s x y z : Bytes) (async n : ℕ) → Sized (length x) (length y) (length z) async n → length s ≤ limit → async < 65536 →
    Parts s x y z async n → OptionsBack s x y z async (3 + n)
unfolding options_of options_sized options_rest spans_of async_rest check
parts_read s x y z async n sized h small p =
    let sum : n ≡ 25 + length x + length y + length z = sized.sizes.sum in
    let n16 : n < 65536 = omega (arith, sized.sizes.small) in
    let inside : 3 + n ≤ length s = p.last.inside in
    record {
      options = options_as 1 (spans_as (span_from 22 (22 + length x)) (span_from (22 + length x + 2) (22 + length x + 2 + length y)) (span_from (22 + length x + 2 + length y + 2) (22 + length x + 2 + length y + 2 + length z))) async (3 + n);
      reads = simp (
        sized_within s h,
        constants_is token p.token,
        int_is 2 n n16 p.size,
        whole_fits s 3 n inside,
        le-leb 25 n (omega arith),
        constants_is guid p.guid,
        byte_is p.update,
        span_is x (3 + n) p.first (omega arith) (omega arith),
        span_is y (3 + n) p.second (omega arith) (omega arith),
        span_is z (3 + n) p.third (omega arith) (omega arith),
        eq-eqb (22 + length x + 2 + length y + 2 + length z + 2) (3 + n) (omega arith),
        int_is 2 async small p.last,
        sized.allowed,
      );
      update = refl;
      first = text_at x p.first;
      second = text_at y p.second;
      third = text_at z p.third;
      asynchronous = refl;
      ends = refl;
    }

parts_of :
    (x y z : Bytes) (async : ℕ) (rest : Bytes) →
    Parts (options_bytes x y z async ++ rest) x y z async (25 + length x + length y + length z)
unfolding options_bytes head_bytes int_bytes
parts_of x y z async rest =
    let n : ℕ = 25 + length x + length y + length z in
    let w1 : Bytes = head_bytes n in
    let w2 : Bytes = w1 ++ string_bytes x in
    let w3 : Bytes = w2 ++ string_bytes y in
    let w4 : Bytes = w3 ++ string_bytes z in
    let s : Bytes = options_bytes x y z async ++ rest in
    let lx : length (string_bytes x) ≡ 2 + length x = length_string x in
    let ly : length (string_bytes y) ≡ 2 + length y = length_string y in
    let lz : length (string_bytes z) ≡ 2 + length z = length_string z in
    let l2 : 0 + length w2 ≡ 22 + length x = omega (arith, length-append w1 (string_bytes x)) in
    let l3 : 0 + length w3 ≡ 22 + length x + 2 + length y = omega (arith, length-append w2 (string_bytes y)) in
    let l4 : 0 + length w4 ≡ 22 + length x + 2 + length y + 2 + length z = omega (arith, length-append w3 (string_bytes z)) in
    let l5 : length (options_bytes x y z async) ≡ 3 + n = length_options x y z async ∙ omega arith in
    let p5 : Piece s 0 (length (options_bytes x y z async)) (w4 ++ int_bytes 2 async) = piece_start (options_bytes x y z async) rest in
    let p4 : Piece s 0 (0 + length w4) w4 = front w4 (int_bytes 2 async) p5 in
    let p3 : Piece s 0 (0 + length w3) w3 = front w3 (string_bytes z) p4 in
    let p2 : Piece s 0 (0 + length w2) w2 = front w2 (string_bytes y) p3 in
    let p1 : Piece s 0 20 w1 = front w1 (string_bytes x) p2 in
    let h3 : Piece s 0 19 (token ++ int_bytes 2 n ++ guid) = front (token ++ int_bytes 2 n ++ guid) (1 ∷ []) p1 in
    let h2 : Piece s 0 3 (token ++ int_bytes 2 n) = front (token ++ int_bytes 2 n) guid h3 in
    record {
      token = front token (int_bytes 2 n) h2;
      size = back token (int_bytes 2 n) h2;
      guid = back (token ++ int_bytes 2 n) guid h3;
      update = back (token ++ int_bytes 2 n ++ guid) (1 ∷ []) p1;
      first = piece_to l2 (back w1 (string_bytes x) p2);
      second = piece_from l2 (piece_to l3 (back w2 (string_bytes y) p3));
      third = piece_from l3 (piece_to l4 (back w3 (string_bytes z) p4));
      last = piece_from l4 (piece_to l5 (back w4 (int_bytes 2 async) p5));
    }

-- Options that were written, with any bytes after them, read back as the values given.
pub options_read_back :
    (x y z : Bytes) (async capacity : ℕ) (written rest : Bytes) → async < 65536 → options_written x y z async capacity ≡ ok written →
    length (written ++ rest) ≤ limit → OptionsBack (written ++ rest) x y z async (length written)
unfolding options_written
options_read_back x y z async capacity written rest small e h =
    let (n, e1, f1) = bind_ok (options_size (length x) (length y) (length z) async) _ written e in
    let told : Sized (length x) (length y) (length z) async n = options_sized_lem (length x) (length y) (length z) async n e1 in
    let (room, same) = fitting_ok (options_bytes x y z async) capacity written f1 in
    let size : length (options_bytes x y z async) ≡ 3 + (25 + length x + length y + length z) = length_options x y z async ∙ omega arith in
    subst (λ (b : Bytes). length (b ++ rest) ≤ limit → OptionsBack (b ++ rest) x y z async (length b)) same
    (λ l. subst (OptionsBack (options_bytes x y z async ++ rest) x y z async) (sym size)
    (parts_read (options_bytes x y z async ++ rest) x y z async _ (subst (Sized (length x) (length y) (length z) async) told.sizes.sum told) l small (parts_of x y z async rest)))
    h
