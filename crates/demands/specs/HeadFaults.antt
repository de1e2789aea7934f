-- Promise: what can be wrong with header and handler options (document 01, "Header and handler options", and its table of refusals), exactly;
-- and what their writers refuse.
-- Assumes nothing.
use Rattle.std.specs.Prelude.{ℕ, ◌+◌, ◌<◌, ◌≡◌, ◌↔◌, length, get_or}
use Rattle.wire.specs.declared.error.Input.{Input}
use Rattle.wire.specs.declared.error.Input.TheVariants as input
use Rattle.wire.specs.Read.{Bytes, Read, bad}
use Rattle.wire.specs.Integers.{int_at}
use Rattle.header.specs.Header.{signature}
use Rattle.options.specs.Options.{token, guid}
use Rattle.demands.specs.Checks.{Refusals, ◌then◌, Of, Short, NoRoom}

-- the first k bytes from `at` on are the expected ones
abbrev pub Agree : Bytes → ℕ → Bytes → ℕ → Type 0
Agree s at expected k = (i : ℕ) → i < k → get_or s (at + i) 0 ≡ get_or expected i 0

-- Constant bytes from `at` on, from left to right. 1: the input ends inside them, at its length; 2: a byte differs, at the first such byte.
pub data ConstantFault (s : Bytes) (at : ℕ) (expected : Bytes) : (code offset : ℕ) → Type 0 where
  ends : {k : ℕ} → k < length expected → Agree s at expected k → length s ≡ at + k → ConstantFault s at expected 1 (length s)
  differs : {k : ℕ} → k < length expected → Agree s at expected k → at + k < length s → (get_or s (at + k) 0 ≡ get_or expected k 0 → ⊥) →
      ConstantFault s at expected 2 (at + k)

-- 3: a value that is not one of `low` to `high`, at its field
pub data ValueFault (low high value field : ℕ) : (code offset : ℕ) → Type 0 where
  below : value < low → ValueFault low high value field 3 field
  above : high < value → ValueFault low high value field 3 field

-- 4: the size of options is wrong, at 1
pub data SizeFault (wrong : Type 0) : (code offset : ℕ) → Type 0 where
  wrong_size : wrong → SizeFault wrong 4 1

-- The header, behind its size: 01, 07, "TG!"; two versions of any value; byte order, 0 only; unicode, 0 or 1.
abbrev pub HeaderFaults : Bytes → Refusals
HeaderFaults s =
    Of input.Single (ConstantFault s 0 signature) then Of input.Single (Short s 5 3) then Of input.Single (ValueFault 0 0 (get_or s 7 0) 7) then Of input.Single (Short s 8 1) then Of input.Single (ValueFault 0 1 (get_or s 8 0) 8)

-- The fields of options, each where the one before it ends. The size field says the bytes that follow it, from 3 on.
abbrev pub size_field : Bytes → ℕ
size_field s = int_at s 1 2

-- a string at `at`: a two-byte length and then its bytes
abbrev pub string_end : Bytes → ℕ → ℕ
string_end s at = at + 2 + int_at s at 2

-- the first string stands behind the GUID and the update type
abbrev pub first_end : Bytes → ℕ
first_end s = string_end s 20

abbrev pub second_end : Bytes → ℕ
second_end s = string_end s (first_end s)

-- where the async option stands
abbrev pub third_end : Bytes → ℕ
third_end s = string_end s (second_end s)

-- The fields do not fill options that end at `end`: a string goes past it, or the two bytes of the async option do not end there.
pub data NotFilled (s : Bytes) (end : ℕ) : Type 0 where
  in_first : end < first_end s → NotFilled s end
  in_second : end < second_end s → NotFilled s end
  in_third : end < third_end s → NotFilled s end
  in_async : (third_end s + 2 ≡ end → ⊥) → NotFilled s end

-- Options, behind their size: token; size read; whole piece present; size under 25; GUID; strings and async option filling the size; async value, 1 to 3.
abbrev pub OptionsFaults : Bytes → Refusals
OptionsFaults s =
    Of input.Single (ConstantFault s 0 token) then Of input.Single (Short s 1 2) then Of input.Single (Short s 3 (size_field s)) then Of input.Single (SizeFault (size_field s < 25)) then Of input.Single (ConstantFault s 3 guid)
    then Of input.Single (SizeFault (NotFilled s (3 + size_field s))) then Of input.Single (ValueFault 1 3 (int_at s (third_end s) 2) (third_end s))

-- The header's writer: the values as the reader would refuse them, then room for nine bytes.
abbrev pub HeaderWriteFaults : (order unicode capacity : ℕ) → Refusals
HeaderWriteFaults order unicode capacity =
    Of input.Order (ValueFault 0 0 order 7) then Of input.Unicode (ValueFault 0 1 unicode 8) then Of input.Output (NoRoom 9 capacity)

-- The options' writer, behind the strings' sizes: the size field says at most 65,535, and the refusal names the string that passes it; the async option,
-- where it would stand; then room for the piece.
abbrev pub OptionsWriteFaults : (first second third : Bytes) (async capacity : ℕ) → Refusals
OptionsWriteFaults first second third async capacity =
    Of input.FirstString (SizeFault (65535 < 25 + length first)) then Of input.SecondString (SizeFault (65535 < 25 + length first + length second))
    then Of input.ThirdString (SizeFault (65535 < 25 + length first + length second + length third))
    then Of input.Async (ValueFault 1 3 async (26 + length first + length second + length third))
    then Of input.Output (NoRoom (28 + length first + length second + length third) capacity)

-- A writer refuses a value with the code and offset at which the reader would refuse its bytes: of whichever input, and 16 aside.
abbrev pub RefusesAs : {A : Type 0} (written : Read Bytes) (read : Read A) → Type 0
RefusesAs written read =
    (code offset : ℕ) → ((name : Input) × (written ≡ bad code offset name)) × (code ≡ 16 → ⊥) ↔ read ≡ bad code offset input.Single
