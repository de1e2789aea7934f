-- Every example of the lists is answered as the paper says, by computing it.
-- Assumes nothing.
use mathlib.Core.List.{map, ◌++◌}
use mathlib.Core.Path.{◌≡◌, refl}
use Rattle.wire.specs.Read.{check, about, sized_by, sized, whole}
use Rattle.wire.specs.Integers.{value_of, int_at, read_int}
use Rattle.wire.specs.Bits.{bit_at, bit_set, map_bytes}
use Rattle.column.specs.Types.{types, kind_in, kind_of}
use Rattle.column.specs.Columns.{is_nullable, prefix_size, greatest, length_error_of, length_error}
use Rattle.column.specs.Fields.{allowed, bytes_at, variable_at, field_at}
use Rattle.walk.specs.Presence.{nullables, presence_bytes, marks, bit_of, present, chapter_present, clear}
use Rattle.walk.specs.Rows.{step, walk, arrive, opened, walked, field_of, column_of, known, look_up, look_up_row, row_end, always, set_bits, field_count}
use Rattle.walk.specs.Updates.{numbered, update_bytes, chapter_marked, force_broken, carried, carried_in, update_opened, update_walked, update_end, update_field, update_column, look_update, from_row, current_by, current, current_row}
use Rattle.walk.specs.Examples.{Example, answer_to, paper, cases, Change, answer_to_change, changes, Ending, answer_to_piece, endings}

-- look-ups: the paper's rows under S, and cases that catch likely errors
pub examples_hold : map answer_to (paper ++ cases) ≡ map (λ (e : Example). e.said) (paper ++ cases)
unfolding paper cases check about sized_by sized whole value_of int_at read_int bit_at bit_set map_bytes types kind_in kind_of is_nullable prefix_size greatest length_error_of length_error allowed bytes_at variable_at field_at nullables presence_bytes marks bit_of present chapter_present clear step walk arrive opened walked field_of column_of known look_up look_up_row
examples_hold = refl

-- current values
pub changes_hold : map answer_to_change changes ≡ map (λ (c : Change). c.said) changes
unfolding changes check about sized_by sized whole value_of int_at read_int bit_at bit_set map_bytes types kind_in kind_of is_nullable prefix_size greatest length_error_of length_error allowed bytes_at variable_at field_at nullables presence_bytes marks bit_of present chapter_present clear step walk arrive opened walked field_of column_of known look_up numbered update_bytes chapter_marked force_broken carried carried_in update_opened update_walked update_end update_field update_column look_update from_row current_by current current_row
changes_hold = refl

-- ends of rows and of update data, and numbers of fields
pub endings_hold : map (λ (e : Ending). answer_to_piece e.piece) endings ≡ map (λ (e : Ending). e.said) endings
unfolding endings check about sized_by sized whole value_of int_at read_int bit_at bit_set map_bytes types kind_in kind_of is_nullable prefix_size greatest length_error_of length_error allowed bytes_at variable_at field_at nullables presence_bytes marks bit_of present chapter_present clear step walk opened walked row_end always set_bits field_count numbered update_bytes chapter_marked force_broken carried carried_in update_opened update_walked update_end
endings_hold = refl
