-- A schema file that is read into a table of slots, whose error is about the file.
-- Assumes nothing.
use Rattle.std.specs.Prelude.{Result, Ok, Err}
use Prim.Native.Nat.{ℕ, ◌≤◌}
use mathlib.Core.Path.{◌≡◌, sym, ◌∙◌}
use mathlib.Core.List.{List}
use lib.ListN.{length}
use Rattle.wire.specs.declared.error.Error.{Error}
use Rattle.wire.specs.declared.error.Input.TheVariants as input
use Rattle.wire.specs.Read.{Bytes, AreBytes, Read, about, limit, refused, told}
use Rattle.wire.proofs.Pieces.{ok_ok, bad_ok}
use Rattle.schema.specs.declared.reader.Place.{Place}
use Rattle.schema.specs.Told.{told_place, blank}
use Rattle.tree.specs.Filling.{fill_file}
use Rattle.grammar.specs.Grammar.{Row}
use Rattle.section.specs.Scan.{Opened}
use Rattle.section.proofs.Sound.{schemas_of_lem, sound_of, columns_of, file_bad}
use Rattle.section.proofs.Listing.{named, file_refused, file_read}

-- an error that one answer tells is told by another
same_refused : (x y : Error) → ◌≡◌ {A = Read Place} (refused x) (refused y) → ◌≡◌ {A = Read (List Row)} (refused x) (refused y)
same_refused x y z = cc

module _ (file s : Bytes) (table : List ℕ) (bytes : AreBytes file) (f : length file ≤ limit) (h : length s ≤ limit) where
  pub opened : (r q : Result Place Error) → told_place r table ≡ fill_file file blank → told q ≡ about input.Schema (told r) → Opened file s table q
  unfolding about
  opened (Ok p) (Ok q) e z = rw (ok_ok z) record {
    reads = file_read file s f h _ (schemas_of_lem file table p bytes (sym e));
    sound = sound_of file table p bytes (sym e);
    columns = columns_of file table p bytes (sym e);
    sized = h;
  }
  opened (Ok p) (Err y) e z = absurd (bad_ok z)
  opened (Err x) (Ok q) e z = absurd (bad_ok (sym z))
  opened (Err x) (Err y) e z = file_refused file s f h x (file_bad file x bytes e) ∙ sym (same_refused y (named x input.Schema) z)
