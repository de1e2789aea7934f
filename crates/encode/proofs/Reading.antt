-- What is read of the numbers of an entry.
-- Assumes nothing.
use mathlib.Core.Path.{◌≡◌, refl, sym, ◌∙◌}
use mathlib.Core.Bool.{true, true≢false}
use Rattle.std.specs.Prelude.{Option, Some, None}
use Rattle.std.specs.Option.{IsSome, is_some}
use Rattle.wire.specs.Read.{Bytes}
use Rattle.encode.specs.declared.entry.Entry as E
use Rattle.encode.specs.Entries.{Given, is_entry}
use Rattle.encode.specs.Steps.{ReadsEntry}

pub reads_is : (values : Bytes) (g : Given) (r : Option E.Entry) → ReadsEntry values g r → is_some r ≡ is_entry values g
reads_is values g None h = sym h
reads_is values g (Some e) h = sym h.0

-- numbers that say an entry are read as one
pub reads_some : (values : Bytes) (g : Given) (r : Option E.Entry) → ReadsEntry values g r → is_entry values g ≡ true → IsSome r
reads_some values g None h e = absurd (true≢false (sym e ∙ h))
reads_some values g (Some x) h e = refl
