-- Every example of the list is answered as the paper says, by computing it.
-- Assumes nothing.
use mathlib.Core.List.{map}
use mathlib.Core.Path.{◌≡◌, refl}
use Rattle.wire.specs.Read.{check, about, sized_by, sized, whole, byte_at, constants}
use Rattle.wire.specs.Bits.{bit_at, bit_set, map_bytes}
use Rattle.wire.specs.Integers.{value_of, int_at, read_int}
use Rattle.column.specs.Types.{types, kind_in, kind_of}
use Rattle.column.specs.Columns.{is_nullable, prefix_size, greatest, length_error_of, length_error}
use Rattle.column.specs.Fields.{allowed, bytes_at, variable_at, field_at}
use Rattle.tree.specs.Numbers.{third_group, second_group, number_in}
use Rattle.tree.specs.Tree.{member}
use Rattle.tree.specs.Reader.{read_number, read_range, read_fixed, read_variable, read_chapter, read_kind, read_column, read_columns, read_schema, ended, read_file, file_of}
use Rattle.tree.specs.Schemas.{own_columns, nested_schemas, schemas_of, read_schemas, schema_at, columns_of, number_from, child_number}
use Rattle.questions.specs.Questions.{with_schema}
use Rattle.header.specs.Header.{header_fields, header_of}
use Rattle.walk.specs.Presence.{nullables, presence_bytes, marks, bit_of, present, chapter_present, clear}
use Rattle.walk.specs.Rows.{step, walk, arrive, opened, walked, field_of, column_of, known, look_up, row_end}
use Rattle.walk.specs.Updates.{numbered, update_bytes, chapter_marked, force_broken, carried, carried_in, update_opened, update_walked, update_end}
use Rattle.grammar.specs.Grammar.{child_kind, update_start, rows}
use Rattle.grammar.specs.Reader.{token_of, known_child, element, scan, elements, section}
use Rattle.section.specs.Table.{rows_checked, rows_listed}
use Rattle.adtg.specs.Rows.{look_up_in}
use Rattle.demands.specs.Examples.{Example, answer_to, examples}

pub examples_hold : map (λ (e : Example). answer_to e.call) examples ≡ map (λ (e : Example). e.said) examples
unfolding examples header_of header_fields sized sized_by check constants byte_at whole types kind_in kind_of third_group second_group number_in member read_number read_range read_fixed read_variable read_chapter read_kind read_column read_columns read_schema ended read_file file_of own_columns nested_schemas schemas_of read_schemas schema_at with_schema about bit_at bit_set map_bytes value_of int_at read_int is_nullable prefix_size greatest length_error_of length_error allowed bytes_at variable_at field_at nullables presence_bytes marks bit_of present chapter_present clear step walk arrive opened walked field_of column_of known look_up look_up_in columns_of number_from child_number row_end numbered update_bytes chapter_marked force_broken carried carried_in update_opened update_walked update_end child_kind update_start rows token_of known_child element scan elements section rows_checked rows_listed
examples_hold = refl
