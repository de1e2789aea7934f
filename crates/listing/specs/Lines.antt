-- Promise: the lines that the program prints (document 01, "Examples").
-- Assumes nothing.
use Rattle.std.specs.Prelude.{ℕ, zero, suc, ◌+◌, ◌-◌, ◌/◌, ◌%◌, ◌^◌, ◌<◌, ◌≤◌, ◌≡◌, List, [], ◌∷◌, ◌++◌, length, get_or, drop, eqb}
use Rattle.wire.specs.declared.error.Input.{Input}
use Rattle.wire.specs.declared.error.Input.TheVariants as input
use Rattle.wire.specs.Errors.{input_number}
use Rattle.wire.specs.Read.{Bytes, Read, ok, bad, pick}
use Rattle.wire.specs.Output.{put}
use Rattle.grammar.specs.Grammar.{Row, entry}

-- the last k decimal digits of n, the most significant first
unfoldable pub last_digits : ℕ → ℕ → Bytes
last_digits zero n = []
last_digits (suc k) n = last_digits k (n / 10) ++ ((48 + n % 10) ∷ [])

-- n takes k decimal digits: one at least, and no more than it needs
abbrev pub IsDigitCount : ℕ → ℕ → Type 0
IsDigitCount n k = (1 ≤ k) × (n < 10 ^ k) × (1 < k → 10 ^ (k - 1) ≤ n)

-- A number in decimal, with no zero in front.
pub record Decimal (n : ℕ) (text : Bytes) : Type 0 where
  pub places : ℕ
  pub fewest : IsDigitCount n places
  pub spelled : text ≡ last_digits places n

-- a space, and a newline
abbrev pub space : Bytes
space = 32 ∷ []

abbrev pub newline : Bytes
newline = 10 ∷ []

-- The numbers of a row of the row table, a space between two.
pub data RowLine (kind id original update : ℕ) : Bytes → Type 0 where
  row_line : {a b c d : Bytes} → Decimal kind a → Decimal id b → Decimal original c → Decimal update d →
      RowLine kind id original update ((((a ++ space) ++ (b ++ space)) ++ (c ++ space)) ++ (d ++ newline))

-- `rows N`: this many rows follow
abbrev pub rows_word : Bytes
rows_word = 114 ∷ 111 ∷ 119 ∷ 115 ∷ 32 ∷ []

pub data CountLine (n : ℕ) : Bytes → Type 0 where
  count_line : {text : Bytes} → Decimal n text → CountLine n (rows_word ++ (text ++ newline))

-- the words ` refused ` behind the name of a file: `sheet` or `rows`; and `at `
abbrev pub sheet_refused : Bytes
sheet_refused = 115 ∷ 104 ∷ 101 ∷ 101 ∷ 116 ∷ 32 ∷ 114 ∷ 101 ∷ 102 ∷ 117 ∷ 115 ∷ 101 ∷ 100 ∷ 32 ∷ []

abbrev pub rows_refused : Bytes
rows_refused = 114 ∷ 111 ∷ 119 ∷ 115 ∷ 32 ∷ 114 ∷ 101 ∷ 102 ∷ 117 ∷ 115 ∷ 101 ∷ 100 ∷ 32 ∷ []

abbrev pub at_word : Bytes
at_word = 97 ∷ 116 ∷ 32 ∷ []

-- an error about the schema file names the sheet, every other one the rows
abbrev pub refusal_words : Input → Bytes
refusal_words name = pick (eqb (input_number name) (input_number input.Schema)) sheet_refused rows_refused

-- `sheet refused N at P` or `rows refused N at P`
pub data RefusalLine (words : Bytes) (code place : ℕ) : Bytes → Type 0 where
  refusal_line : {a b : Bytes} → Decimal code a → Decimal place b → RefusalLine words code place (((words ++ (a ++ space)) ++ at_word) ++ (b ++ newline))

-- The lines of rows, one after the other.
pub data RowLines : List Row → Bytes → Type 0 where
  no_lines : RowLines [] []
  one_more : {rs : List Row} {r : Row} {lines line : Bytes} → RowLines rs lines → RowLine r.kind r.id r.original r.update line →
      RowLines (rs ++ (r ∷ [])) (lines ++ line)

-- The text of a listing: how many rows and a line for each, or a refusal alone.
pub data Text : Read (List Row) → Bytes → Type 0 where
  rows_text : {rs : List Row} {first lines : Bytes} → CountLine (length rs) first → RowLines rs lines → Text (ok rs) (first ++ lines)
  refusal_text : {code place : ℕ} {name : Input} {line : Bytes} → RefusalLine (refusal_words name) code place line → Text (bad code place name) line

-- Inner.

-- the first n rows of a table
unfoldable pub rows_of : ℕ → List ℕ → List Row
rows_of zero table = []
rows_of (suc n) table = entry (get_or table 0 0) (get_or table 1 0) (get_or table 2 0) (get_or table 3 0) ∷ rows_of n (drop 4 table)

-- A text that has `at` bytes is given a piece more; then it has `end`.
pub record Adds (entry exit : Bytes) (at : ℕ) (piece : Bytes) (end : ℕ) : Type 0 where
  pub holds : exit ≡ put entry at piece
  pub ends : end ≡ at + length piece

-- The piece is a number in decimal, and a byte behind it.
pub record AddsNumber (entry exit : Bytes) (at n byte end : ℕ) : Type 0 where
  pub text : Bytes
  pub decimal : Decimal n text
  pub few : length text ≤ 20
  pub adds : Adds entry exit at (text ++ (byte ∷ [])) end

-- The piece is what it is said to be, and not longer than so many bytes.
pub record AddsThe (Is : Bytes → Type 0) (most : ℕ) (entry exit : Bytes) (at end : ℕ) : Type 0 where
  pub piece : Bytes
  pub is : Is piece
  pub adds : Adds entry exit at piece end
  pub few : end ≤ at + most
