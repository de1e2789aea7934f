-- Inner: a record with one part of it written anew.
-- Assumes nothing.
use Rattle.std.specs.Prelude.{ℕ, length, Option, None, Some}
use Rattle.wire.specs.Read.{Bytes}
use Rattle.grammar.specs.Grammar.{Before, other, after}
use Rattle.feeding.specs.Machine.{Kind, parent_row, child_row, change_row}
use Rattle.incremental.specs.declared.record.Reader.{Reader}
use Rattle.incremental.specs.declared.record.RowKind.{RowKind}
use Rattle.incremental.specs.declared.record.RowKind.TheVariants as row_kind
use Rattle.incremental.specs.Record.{paired_of, paired_id, kind_of, id_of, sixteen}

-- what stands before the next element, by the id of an 87 element
abbrev pub before_told : Option ℕ → Before
before_told None = other
before_told (Some id) = after id

-- row data in progress, as the machine has them
abbrev pub kind_told : RowKind → Kind
kind_told row_kind.Parent = parent_row
kind_told (row_kind.Child id) = child_row id
kind_told (row_kind.Change id) = change_row id

-- what stands before the next element
abbrev pub paired_as : Reader → Before → Reader
paired_as r before =
    record {
      stage = r.stage;
      code = r.code;
      kind = r.kind;
      id = paired_id before;
      paired = paired_of before;
      rows = r.rows;
      at = r.at;
      more = r.more;
      column = r.column;
      input = r.input;
      filled = r.filled;
      mapped = r.mapped;
      held = r.held;
      map = r.map;
    }

-- row data in progress
abbrev pub kind_as : Reader → Kind → Reader
kind_as r k =
    record {
      stage = r.stage;
      code = r.code;
      kind = kind_of k;
      id = id_of k;
      paired = r.paired;
      rows = r.rows;
      at = r.at;
      more = r.more;
      column = r.column;
      input = r.input;
      filled = r.filled;
      mapped = r.mapped;
      held = r.held;
      map = r.map;
    }

-- the maps, and the column that comes next
abbrev pub maps_as : Reader → Bytes → ℕ → Reader
maps_as r map j =
    record {
      stage = r.stage;
      code = r.code;
      kind = r.kind;
      id = r.id;
      paired = r.paired;
      rows = r.rows;
      at = r.at;
      more = r.more;
      column = j;
      input = r.input;
      filled = r.filled;
      mapped = length map;
      held = r.held;
      map = sixteen map;
    }
