-- Promise: the quick way over row data: what it says is where they end.
-- Assumes nothing.
use Rattle.std.specs.Prelude.{ℕ, ◌+◌, ◌*◌, ◌<◌, ◌≤◌, ◌≡◌, List, Bool, true, eqb, length, get_or, Option, IfSome}
use Rattle.std.specs.Int.Bits.{bit_and}
use Rattle.wire.specs.Read.{Bytes, AreBytes, Read, ok, pick}
use Rattle.maps.specs.Maps.{top_bit}
use Rattle.column.specs.declared.column.Column.{Column}
use Rattle.column.specs.Columns.{length_error_of}
use Rattle.column.specs.Stops.{Stop, no_stop, prefix_of, there, length_at}
use Rattle.walk.specs.Presence.{one}
use Rattle.walk.specs.Rows.{place, row_end}
use Rattle.walk.specs.Updates.{update_end}
use Rattle.walk.specs.Leaps.{leap}
use Rattle.shapes.specs.Shapes.{first_in, stops_in, tail_in, bit_mask, SayOne}
use Rattle.shapes.specs.Masks.{Shape}

-- a number is the end
abbrev pub Says : Read ℕ → Option ℕ → Type 0
Says end r = IfSome r (λ e. end ≡ ok e)

-- The quick end of original row data: that of all columns of which this is the shape.
abbrev pub QuickRow : (shapes : List ℕ) (k : ℕ) → Bytes → (start : ℕ) → Option ℕ → Type 0
QuickRow shapes k s start r = (cs : List Column) → Shape shapes k cs → Says (row_end cs s start) r

-- that of update data; no row of the top schema has such
abbrev pub QuickUpdate : (shapes : List ℕ) (k : ℕ) → Bytes → (start : ℕ) → Option ℕ → Type 0
QuickUpdate shapes k s start r = (cs : List Column) → 1 ≤ k → Shape shapes k cs → Says (update_end cs s start) r

-- How far it is from one parent to the next, where all original row data of the top schema have one size: a token and the data. 0 says nothing.
abbrev pub RowStep : (shapes : List ℕ) (r : ℕ) → Type 0
RowStep shapes r = (cs : List Column) → Shape shapes 0 cs → 1 ≤ r → (s : Bytes) → AreBytes s → (at : ℕ) → at + r ≤ length s → row_end cs s (at + 1) ≡ ok (at + r)

-- Inner.

-- a word and its mask lead over a stop, by these bits
pub record Leads (on : ℕ → Bool) (bits word mask : ℕ) (t : Stop) : Type 0 where
  pub says : SayOne word mask t
  pub has : top_bit bits t.bit ≡ one (there on t)
  pub sized : t.variable ≡ true → t.size ≡ prefix_of t

-- the words of a form lead over these stops
pub record Leading (shapes : List ℕ) (form : ℕ) (on : ℕ → Bool) (bits : ℕ) (ts : List Stop) : Type 0 where
  pub count : stops_in form ≡ length ts
  pub leads : (i : ℕ) → i < length ts → Leads on bits (get_or shapes (first_in form + 2 * i) 0) (get_or shapes (first_in form + 2 * i + 1) 0) (get_or ts i no_stop)

-- what is said of the way over a form's words: where it ends over whatever stops they lead
abbrev pub Over : (shapes : List ℕ) (form bits : ℕ) → Bytes → (fields : ℕ) → Option ℕ → Type 0
Over shapes form bits s fields r =
    (on : ℕ → Bool) (ts : List Stop) → Leading shapes form on bits ts → IfSome r (λ e. (n : ℕ) × (leap on s ts (tail_in form) (place fields 0) ≡ ok (place e n)))

-- r is the bit among these bits that a mask has, whichever it is
abbrev pub Tells : (mask bits r : ℕ) → Type 0
Tells mask bits r = (b : ℕ) → mask ≡ bit_mask b → r ≡ top_bit bits b

-- the length of a stop's field at p, where `has` is 1, else 0; one that is not allowed is told as a number that is too long
unfoldable pub length_over : Stop → (has : ℕ) → Bytes → (p : ℕ) → ℕ
length_over t has s p =
    pick t.variable (pick (eqb (length_error_of t.most t.even (length_at t s p * has)) 0) (length_at t s p * has) 4294967296) 0

-- By masks of its columns the two maps of update data keep all rules.
pub record Keeps (updated forced chapters unforced all : ℕ) : Type 0 where
  pub update : bit_and updated chapters ≡ 0
  pub force : bit_and forced unforced ≡ 0
  pub both : bit_and (bit_and forced all) updated ≡ bit_and forced all
