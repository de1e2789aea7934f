-- Promise: handler options (document 01, "Header and handler options").
-- Assumes nothing.
use Rattle.std.specs.Prelude.{ℕ, ◌+◌, ◌-◌, [], ◌∷◌, ◌++◌, Bool, false, length, leb, eqb}
use Rattle.wire.specs.declared.error.Input.{Input}
use Rattle.wire.specs.declared.error.Input.TheVariants as input
use Rattle.wire.specs.Read.{Bytes, Read, ok, ◌>>=◌, pick, check, about, sized_by, sized, cut, whole, byte_at, constants}
use Rattle.wire.specs.Integers.{read_int, int_bytes}
use Rattle.wire.specs.Output.{fitting}
use Rattle.options.specs.declared.options.Span.{Span}
use Rattle.options.specs.declared.options.Spans.{Spans}
use Rattle.options.specs.declared.options.Options.{Options}

abbrev pub token : Bytes
token = 0x02 ∷ []

abbrev pub guid : Bytes
guid =
    0xB6 ∷ 0x92 ∷ 0xF2 ∷ 0x3F ∷ 0x04 ∷ 0xB2 ∷ 0xCF ∷ 0x11 ∷ 0x8D ∷ 0x23 ∷ 0x00 ∷ 0xAA ∷ 0x00 ∷ 0x5F ∷ 0xFE ∷ 0x58 ∷ []

-- the values of the async option
unfoldable pub async_allowed : ℕ → Bool
async_allowed n = pick (leb 1 n) (leb n 3) false

abbrev pub span_from : ℕ → ℕ → Span
span_from start end = record { start = start; end = end }

abbrev pub spans_as : Span → Span → Span → Spans
spans_as first second third = record { first = first; second = second; third = third }

abbrev pub options_as : ℕ → Spans → ℕ → ℕ → Options
options_as update strings async end = record { update = update; strings = strings; asynchronous = async; end = end }

-- A string of options that end at `end`: a two-byte length and then its bytes. The size is wrong (4) where they go past the end.
unfoldable pub span_at : Bytes → ℕ → ℕ → Read Span
span_at s at end = do
  _ ← check (leb (at + 2) end) 4 1
  n ← read_int s at 2
  _ ← check (leb (at + 2 + n) end) 4 1
  ok (span_from (at + 2) (at + 2 + n))

-- the three strings, one after the other
unfoldable pub spans_of : Bytes → ℕ → Read Spans
spans_of s end = do
  first ← span_at s 20 end
  second ← span_at s first.end end
  third ← span_at s second.end end
  ok (spans_as first second third)

-- The async option: it fills the size exactly (4), and has one of its values (3).
unfoldable pub async_rest : Bytes → ℕ → ℕ → Spans → Read Options
async_rest s end update strings = do
  _ ← check (eqb (strings.third.end + 2) end) 4 1
  async ← read_int s strings.third.end 2
  _ ← check (async_allowed async) 3 strings.third.end
  ok (options_as update strings async end)

-- after the GUID: the update type, any byte, as it stands; the strings; the async option
unfoldable pub options_rest : Bytes → ℕ → Read Options
options_rest s end = do
  update ← byte_at s 19
  strings ← spans_of s end
  async_rest s end update strings

-- after the size: the whole piece is there (1), the size is 25 at the least (4), the GUID (2)
unfoldable pub options_sized : Bytes → ℕ → Read Options
options_sized s size = do
  end ← whole s 3 size
  _ ← check (leb 25 size) 4 1
  _ ← constants s 3 guid
  options_rest s end

-- the handler options at the start of an input, or the first error
unfoldable pub options_of : Bytes → Read Options
options_of s = do
  _ ← sized s
  _ ← constants s 0 token
  size ← read_int s 1 2
  options_sized s size

-- the bytes of a string: its length and then its bytes
unfoldable pub string_bytes : Bytes → Bytes
string_bytes string = int_bytes 2 (length string) ++ string

-- token, size, GUID and update type 1
unfoldable pub head_bytes : ℕ → Bytes
head_bytes size = token ++ int_bytes 2 size ++ guid ++ (0x01 ∷ [])

-- the bytes of options: all that follows the size field is 25 bytes and the strings
unfoldable pub options_bytes : Bytes → Bytes → Bytes → ℕ → Bytes
options_bytes first second third async =
    head_bytes (25 + length first + length second + length third)
    ++ string_bytes first ++ string_bytes second ++ string_bytes third ++ int_bytes 2 async

-- The size with one string more: the size says at most 65,535 (4), and the error names the string that passes it.
unfoldable pub size_with : ℕ → ℕ → Input → Read ℕ
size_with size n name = do
  _ ← about name (check (leb (size + n) 65535) 4 1)
  ok (size + n)

-- The size of three strings of these lengths: each is within the limit (19), and the size says at most 65,535 (4): the
-- error names the string that passes it.
unfoldable pub strings_size : ℕ → ℕ → ℕ → Read ℕ
strings_size first second third = do
  _ ← about input.FirstString (sized_by first)
  _ ← about input.SecondString (sized_by second)
  _ ← about input.ThirdString (sized_by third)
  _ ← about input.FirstString (check (leb (25 + first) 65535) 4 1)
  _ ← about input.SecondString (check (leb (25 + first + second) 65535) 4 1)
  _ ← about input.ThirdString (check (leb (25 + first + second + third) 65535) 4 1)
  ok (25 + first + second + third)

-- the same with the async option, which would stand in the last two bytes of the piece
unfoldable pub options_size : ℕ → ℕ → ℕ → ℕ → Read ℕ
options_size first second third async = do
  size ← strings_size first second third
  _ ← about input.Async (check (async_allowed async) 3 (size + 1))
  ok size

-- What the writer writes into an output of some capacity: values first, then the room.
unfoldable pub options_written : Bytes → Bytes → Bytes → ℕ → ℕ → Read Bytes
options_written first second third async capacity = do
  _ ← options_size (length first) (length second) (length third) async
  fitting (options_bytes first second third async) capacity

-- the bytes of a string that was read
abbrev pub text_of : Bytes → Span → Bytes
text_of s x = cut s x.start (x.end - x.start)

-- Inner.
