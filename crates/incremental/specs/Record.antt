-- Promise: the record of a reader: which state or standing answer its numbers are, and the numbers of each.
-- Assumes nothing.
use Rattle.std.specs.Prelude.{ℕ, zero, suc, ◌+◌, ◌-◌, [], ◌++◌, Bool, true, false, length, take, replicate, leb, ltb, eqb}
use Rattle.wire.specs.declared.error.Input.{Input}
use Rattle.wire.specs.declared.error.Input.TheVariants as input
use Rattle.wire.specs.Errors.{input_number}
use Rattle.wire.specs.Read.{Bytes, pick, limit}
use Rattle.grammar.specs.Grammar.{Before, other, after}
use Rattle.feeding.specs.Machine.{Kind, parent_row, child_row, change_row, Stage, child_id, change_id, delete_id, maps, prefix, State, between, keep, skip, finished, stopped}
use Rattle.feeding.specs.Feeding.{opened, completed, failed}
use Rattle.feeding.specs.Feeding.{Reader as Standing}
use Rattle.incremental.specs.declared.record.Reader.{Reader}

-- What stands before the next element: an 87 element with this id, or where `paired` is 0 none.
abbrev pub before_by : (paired id : ℕ) → Before
before_by zero id = other
before_by (suc n) id = after id

abbrev pub paired_of : Before → ℕ
paired_of other = 0
paired_of (after id) = 1

abbrev pub paired_id : Before → ℕ
paired_id other = 0
paired_id (after id) = id

-- Row data in progress: 1 of a 07, 2 of an 87, 3 of an 8A, as the rows that they make have kinds; with the child id.
abbrev pub kind_by : (kind id : ℕ) → Kind
kind_by kind id = pick (eqb kind 3) (change_row id) (pick (eqb kind 2) (child_row id) parent_row)

abbrev pub kind_of : Kind → ℕ
kind_of parent_row = 1
kind_of (child_row id) = 2
kind_of (change_row id) = 3

abbrev pub id_of : Kind → ℕ
id_of parent_row = 0
id_of (child_row id) = id
id_of (change_row id) = id

-- What a refusal is about: the schema file, the section, or else the record itself.
abbrev pub input_in : ℕ → Input
input_in number = pick (eqb number (input_number input.Schema)) input.Schema (pick (eqb number (input_number input.Section)) input.Section input.Reader)

-- The bytes of a piece, and of the maps, that a record holds.
abbrev pub held_in : Reader → Bytes
held_in r = take r.filled r.held

abbrev pub map_in : Reader → Bytes
map_in r = take r.mapped r.map

abbrev pub kind_in : Reader → Kind
kind_in r = kind_by r.kind r.id

-- What a kept piece is, by the stage. The token of an id stands directly before it.
unfoldable pub stage_in : Reader → Stage
stage_in r =
    pick (eqb r.stage 1) (child_id (r.at - 1))
    (pick (eqb r.stage 2) (change_id (before_by r.paired r.id) (r.at - 1))
    (pick (eqb r.stage 3) (delete_id (before_by r.paired r.id) (r.at - 1))
    (pick (eqb r.stage 4) (maps (kind_in r)) (prefix (kind_in r) (map_in r) r.column))))

-- The state that a record is.
unfoldable pub state_in : Reader → State
state_in r =
    pick (eqb r.stage 0) (between r.rows r.at (before_by r.paired r.id))
    (pick (leb r.stage 5) (keep r.rows r.at (held_in r) r.more (stage_in r))
    (pick (eqb r.stage 6) (skip r.rows r.at r.more (kind_in r) (map_in r) r.column)
    (pick (eqb r.stage 7) (finished r.rows r.at) (stopped r.code r.at input.Single))))

-- a token stands before what is kept, which has room
abbrev pub has_room : Reader → Bool
has_room r = pick (leb 1 r.at) (pick (ltb r.column 64) (leb (r.filled + r.more) 15) false) false

-- A record of a state that calls come to: no more rows than bytes, no more bytes than the limit, and what is kept has room.
unfoldable pub fits : Reader → Bool
fits r =
    pick (leb r.rows r.at)
    (pick (leb r.at limit)
    (pick (leb r.mapped 16)
    (pick (leb r.column 64)
    (pick (leb 1 r.stage)
    (pick (leb r.stage 5) (has_room r) true)
    true)
    false)
    false)
    false)
    false

-- a number that a refusal has
abbrev pub known_code : ℕ → Bool
known_code code = pick (leb 1 code) (leb code 20) false

-- What a record says: a refusal or a count that stands, or a state. A record that is none of these is refused: 18, about itself.
unfoldable pub reader_in : Reader → Standing
reader_in r =
    pick (eqb r.stage 8) (pick (known_code r.code) (failed r.code r.at (input_in r.input)) (failed 18 0 input.Reader))
    (pick (eqb r.stage 9) (completed r.rows)
    (pick (ltb r.stage 8) (pick (fits r) (opened (state_in r)) (failed 18 0 input.Reader)) (failed 18 0 input.Reader)))

-- sixteen bytes that begin with these
abbrev pub sixteen : Bytes → Bytes
sixteen bytes = take 16 (bytes ++ replicate 16 0)

-- The numbers of a record.
abbrev pub numbers : (stage code kind id paired rows at more column input : ℕ) (held map : Bytes) → Reader
numbers stage code kind id paired rows at more column input held map =
    record {
      stage = stage;
      code = code;
      kind = kind;
      id = id;
      paired = paired;
      rows = rows;
      at = at;
      more = more;
      column = column;
      input = input;
      filled = length held;
      mapped = length map;
      held = sixteen held;
      map = sixteen map;
    }

-- of a piece
abbrev pub piece_of : (rows at : ℕ) (held : Bytes) (more : ℕ) → Stage → Reader
piece_of rows at held more (child_id token) = numbers 1 0 0 0 0 rows at more 0 0 held []
piece_of rows at held more (change_id before token) = numbers 2 0 0 (paired_id before) (paired_of before) rows at more 0 0 held []
piece_of rows at held more (delete_id before token) = numbers 3 0 0 (paired_id before) (paired_of before) rows at more 0 0 held []
piece_of rows at held more (maps k) = numbers 4 0 (kind_of k) (id_of k) 0 rows at more 0 0 held []
piece_of rows at held more (prefix k map j) = numbers 5 0 (kind_of k) (id_of k) 0 rows at more j 0 held map

-- of a state
abbrev pub state_of : State → Reader
state_of (between n at before) = numbers 0 0 0 (paired_id before) (paired_of before) n at 0 0 0 [] []
state_of (keep n start held more stage) = piece_of n start held more stage
state_of (skip n at more k map j) = numbers 6 0 (kind_of k) (id_of k) 0 n at more j 0 [] map
state_of (finished n at) = numbers 7 0 0 0 0 n at 0 0 0 [] []
state_of (stopped code offset name) = numbers 8 code 0 0 0 0 offset 0 0 (input_number input.Section) [] []

-- The record of what is remembered; all that is not needed is 0.
unfoldable pub record_of : Standing → Reader
record_of (opened st) = state_of st
record_of (completed n) = numbers 9 0 0 0 0 n 0 0 0 0 [] []
record_of (failed code offset name) = numbers 8 code 0 0 0 0 offset 0 0 (input_number name) [] []
