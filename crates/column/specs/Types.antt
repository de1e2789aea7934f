-- Promise: the column types: document 01's table of codes and widths (source 004, 3.3.5.8.2).
-- Assumes nothing.
use Rattle.std.specs.Prelude.{ℕ, List, [], ◌∷◌, Bool, true, false, eqb}
use Rattle.wire.specs.Read.{pick}
use Rattle.column.specs.declared.types.Kind.{Kind}
use Rattle.column.specs.declared.types.Kind.TheVariants.{Fixed, Variable, Wide, Chapter, Unknown}

-- the code of a chapter
abbrev pub chapter_code : ℕ
chapter_code = 0x88

pub record Entry : Type 0 where
  pub code : ℕ
  pub kind : Kind

abbrev pub entry : ℕ → Kind → Entry
entry c k = record { code = c; kind = k }

-- the types, in the paper's order: fixed ones with their widths, those of variable length, the chapter
unfoldable pub types : List Entry
types =
    entry 0x02 (Fixed 2) ∷ entry 0x03 (Fixed 4) ∷ entry 0x04 (Fixed 4) ∷ entry 0x05 (Fixed 8) ∷ entry 0x06 (Fixed 8) ∷ entry 0x07 (Fixed 8)
    ∷ entry 0x0A (Fixed 4) ∷ entry 0x0B (Fixed 2) ∷ entry 0x0E (Fixed 16) ∷ entry 0x10 (Fixed 1) ∷ entry 0x11 (Fixed 1)
    ∷ entry 0x12 (Fixed 2) ∷ entry 0x13 (Fixed 4) ∷ entry 0x14 (Fixed 8) ∷ entry 0x15 (Fixed 8) ∷ entry 0x48 (Fixed 16)
    ∷ entry 0x85 (Fixed 6) ∷ entry 0x86 (Fixed 6) ∷ entry 0x80 Variable ∷ entry 0x81 Variable ∷ entry 0x82 Wide ∷ entry chapter_code Chapter ∷ []

unfoldable pub kind_in : List Entry → ℕ → Kind
kind_in [] code = Unknown
kind_in (e ∷ es) code = pick (eqb code e.code) e.kind (kind_in es code)

-- what a field of the type with this code looks like; no other code than the table's is known
unfoldable pub kind_of : ℕ → Kind
unfolding kind_in types
kind_of code = kind_in types code

-- the bytes of a field of fixed width; 0 for every other kind
abbrev pub width_of : Kind → ℕ
width_of (Fixed w) = w
width_of Variable = 0
width_of Wide = 0
width_of Chapter = 0
width_of Unknown = 0

-- fields of the kind carry a length
abbrev pub variable_kind : Kind → Bool
variable_kind (Fixed w) = false
variable_kind Variable = true
variable_kind Wide = true
variable_kind Chapter = false
variable_kind Unknown = false

-- the length counts bytes of wide text
abbrev pub wide_kind : Kind → Bool
wide_kind (Fixed w) = false
wide_kind Variable = false
wide_kind Wide = true
wide_kind Chapter = false
wide_kind Unknown = false

abbrev pub chapter_kind : Kind → Bool
chapter_kind (Fixed w) = false
chapter_kind Variable = false
chapter_kind Wide = false
chapter_kind Chapter = true
chapter_kind Unknown = false
