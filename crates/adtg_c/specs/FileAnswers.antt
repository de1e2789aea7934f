-- Promise: the values of answers about headers, handler options and schema files, as C and Rust see them.
-- Assumes nothing.
use Rattle.std.specs.Prelude.{ℕ, List, [], ◌∷◌}
use Rattle.questions.specs.declared.file.Counts.{Counts}
use Rattle.questions.specs.Questions.{Asked}
use Rattle.header.specs.declared.header.Header.{Header}
use Rattle.options.specs.declared.options.Options.{Options}

-- the values of a header
abbrev pub header_values : Header → List ℕ
header_values h = h.major ∷ h.minor ∷ h.order ∷ h.unicode ∷ h.end ∷ []

-- the values of handler options: update type, the two ends of each string, async option, end
abbrev pub options_values : Options → List ℕ
options_values o =
    o.update ∷ o.strings.first.start ∷ o.strings.first.end ∷ o.strings.second.start ∷ o.strings.second.end
    ∷ o.strings.third.start ∷ o.strings.third.end ∷ o.asynchronous ∷ o.end ∷ []

-- the values of a schema file: how many schemas and columns it has
abbrev pub counts_values : Counts → List ℕ
counts_values c = c.schemas ∷ c.columns ∷ []

-- the values of a column: type code, flags, maximum, child id, number of a chapter's schema
abbrev pub column_values : Asked → List ℕ
column_values a = a.column.code ∷ a.column.flags ∷ a.column.maximum ∷ a.column.id ∷ a.nested ∷ []
