-- Demand 1, call by call: what each public call refuses, exactly, and 19 exactly when an input is over the limit. Each statement is about the
-- definition that the call's contract cites; `Refuses` (specs/Checks) has the inputs with a size, then the checks behind the sizes.
-- Assumes nothing.
use Prim.Native.Nat.{ℕ, ◌/◌, ◌≤◌}
use mathlib.Core.Path.{◌≡◌, refl, sym}
use mathlib.Core.List.{List, [], ◌∷◌}
use mathlib.Core.Bool.{Bool, true, false}
use native.Mathlib.Omega.{arith}
use lib.ListN.{length, drop, length-drop}
use Rattle.wire.specs.declared.error.Input.{Input}
use Rattle.wire.specs.declared.error.Input.TheVariants as input
use Rattle.wire.specs.Read.{Bytes, Read, about, limit}
use Rattle.wire.proofs.Pieces.{bad_ok}
use Rattle.grammar.specs.Grammar.{Row}
use Rattle.header.specs.Header.{header_of, header_written}
use Rattle.options.specs.Options.{options_of, options_written}
use Rattle.questions.specs.Questions.{counts_of, column_count_of, column_of, child_of}
use Rattle.numbers.specs.Writer.{coded, numbers_listed, file_written}
use Rattle.section.specs.Table.{rows_checked, rows_listed}
use Rattle.walk.specs.Rows.{look_up, field_count, row_end}
use Rattle.walk.specs.Updates.{look_update, update_end, current}
use Rattle.encode.specs.Writers.{write_original, write_update}
use Rattle.plan.specs.declared.plan.Plan.{Plan}
use Rattle.plan.specs.Plans.{plan_of, planned_count, fixed_place}
use Rattle.jump.specs.Jumps.{planned_row}
use Rattle.jump.specs.Handles.{opened_row}
use Rattle.batch.specs.Spans.{start_in, rows_of, planned, spans_in, spans_found}
use Rattle.batch.specs.Pages.{page_found}
use Rattle.adtg.specs.Rows.{look_up_in, field_count_in, row_end_in}
use Rattle.adtg.specs.Updates.{look_update_in, update_end_in, current_in}
use Rattle.adtg.specs.Writers.{write_original_in, write_update_in}
use Rattle.adtg.specs.Plans.{plan_in, plan_beside, Checked}
use Rattle.demands.specs.Checks.{Refusals, Never, ◌then◌, Of, lent, lent_numbers, Sizes, over, within, Missing, NoRoom, Refuses}
use Rattle.demands.specs.RowFaults.{OpenFaults, RowFaults, LookUpFaults, UpdateFaults, LookUpdateFaults, CurrentFaults}
use Rattle.demands.specs.FileFaults.{FileFault, schemas_in, columns_in, numbers_in, NoChild, WrittenFault}
use Rattle.demands.specs.SectionFaults.{CheckFaults, ListFaults}
use Rattle.demands.specs.HeadFaults.{HeaderFaults, OptionsFaults, HeaderWriteFaults, OptionsWriteFaults}
use Rattle.demands.specs.WriterFaults.{WriteFaults}
use Rattle.demands.specs.PlanFaults.{PlanFault, differs, PlanOpenFaults, PlannedFaults, PlannedRowFaults, BatchFault, found_spans}
use Rattle.demands.specs.PageFaults.{PageFaults}
use Rattle.demands.specs.Calls.{WithFile, InFile, InSchema}
use Rattle.demands.proofs.Exactly.{refuses, refuses_within, exactly_alike, exactly_within, then_grouped, then_alike, exactly_sized, never_then, never_of, never_missing, never_room}
use Rattle.demands.proofs.FileExactly.{size_within, sizes_none, sizes_one, sizes_more, sizes_rest, exactly_in_schema, exactly_in_schema_told, counts_exactly, column_count_exactly, column_exactly, child_exactly, numbers_exactly, schema_written_exactly, file_never_size, never_child, never_schema_written}
use Rattle.demands.proofs.SectionExactly.{checked_exactly, listed_exactly, never_checked, never_listed}
use Rattle.demands.proofs.HeadExactly.{header_exactly, options_exactly, header_written_exactly, options_written_exactly, never_header, never_options, never_header_written, never_options_written}
use Rattle.demands.proofs.RowExactly.{Foreign, foreign, exactly_row_end, exactly_look_up, exactly_field_count, exactly_update_end, exactly_look_update, exactly_current, never_opened, never_row, never_look_up, never_update, never_look_update, never_current}
use Rattle.demands.proofs.WriterExactly.{exactly_original, exactly_update, never_written}
use Rattle.demands.proofs.PlanExactly.{fixed_place_exactly, open_row_exactly, planned_exactly, batch_exactly, check_plan_exactly, never_planned_open, never_planned, never_batch}
use Rattle.demands.proofs.PageExactly.{page_exactly, never_page}

module _ (file : Bytes) (number : ℕ) where
  -- neither a file nor a schema number gives 19
  never_in_schema : {Q : Refusals} → Never 19 Q → Never 19 (InSchema file number Q)
  never_in_schema h = never_then file_never_size (never_then (never_missing (λ e. omega arith)) h)

  never_in_file : Never 19 (InFile file number)
  never_in_file = never_then file_never_size (never_missing (λ e. omega arith))

  -- a code that rows do not have
  apart : Foreign 19
  apart = foreign (omega arith)

  -- Rows.
  module _ (row : Bytes) where
    pub look_up_refuses :
        (k : ℕ) → Refuses (look_up_in file number row k) (lent input.Schema file ∷ lent input.Row row ∷ []) (InSchema file number (LookUpFaults (columns_in file number) row k))
    unfolding look_up_in
    look_up_refuses k =
        refuses (exactly_in_schema file (sizes_one input.Row row) number (λ columns. look_up columns row k) (λ _ _ _. exactly_look_up (columns_in file number) row k))
        (never_in_schema (never_look_up apart (λ e. omega arith) (columns_in file number) row k))

    pub field_count_refuses :
        Refuses (field_count_in file number row) (lent input.Schema file ∷ lent input.Row row ∷ []) (InSchema file number (OpenFaults input.Row (columns_in file number) row 0))
    unfolding field_count_in
    field_count_refuses =
        refuses
        (exactly_in_schema file (sizes_one input.Row row) number (λ columns. field_count columns row)
        (λ quiet _ _. exactly_within (exactly_field_count (columns_in file number) row) (sizes_rest quiet)))
        (never_in_schema (never_opened apart input.Row (columns_in file number) row 0))

    pub row_end_refuses :
        (at : ℕ) → Refuses (row_end_in file number row at) (lent input.Schema file ∷ lent input.Row row ∷ []) (InSchema file number (RowFaults input.Row (columns_in file number) row at))
    unfolding row_end_in
    row_end_refuses at =
        refuses (exactly_in_schema file (sizes_one input.Row row) number (λ columns. about input.Row (row_end columns row at)) (λ _ _ _. exactly_row_end input.Row (columns_in file number) row at))
        (never_in_schema (never_row apart input.Row (columns_in file number) row at))

  -- Update data, and the current value.
  module _ (update : Bytes) where
    pub look_update_refuses :
        (k : ℕ) →
        Refuses (look_update_in file number update k) (lent input.Schema file ∷ lent input.Update update ∷ [])
        (InSchema file number (LookUpdateFaults (columns_in file number) update k))
    unfolding look_update_in
    look_update_refuses k =
        refuses (exactly_in_schema file (sizes_one input.Update update) number (λ columns. look_update columns update k) (λ _ _ _. exactly_look_update (columns_in file number) update k))
        (never_in_schema (never_look_update apart (λ e. omega arith) (columns_in file number) update k))

    pub update_end_refuses :
        (at : ℕ) →
        Refuses (update_end_in file number update at) (lent input.Schema file ∷ lent input.Update update ∷ [])
        (InSchema file number (UpdateFaults input.Update (columns_in file number) update at))
    unfolding update_end_in
    update_end_refuses at =
        refuses (exactly_in_schema file (sizes_one input.Update update) number (λ columns. about input.Update (update_end columns update at)) (λ _ _ _. exactly_update_end input.Update (columns_in file number) update at))
        (never_in_schema (never_update apart input.Update (columns_in file number) update at))

    pub current_refuses :
        (row : Bytes) (k : ℕ) →
        Refuses (current_in file number row update k) (lent input.Schema file ∷ lent input.Update update ∷ lent input.Row row ∷ [])
        (InSchema file number (CurrentFaults (columns_in file number) row update k))
    unfolding current_in
    current_refuses row k =
        refuses
        (exactly_in_schema file (sizes_more input.Update update (sizes_one input.Row row)) number (λ columns. current columns row update k) (λ _ _ _. exactly_current (columns_in file number) row update k))
        (never_in_schema (never_current apart (λ e. omega arith) (columns_in file number) row update k))

  -- The row writers.
  module _ (entries : List ℕ) (values : Bytes) (size place : ℕ) where
    never_entry : (update : Bool) → Never 19 (InSchema file number (WriteFaults update (columns_in file number) entries values size place))
    never_entry update =
        never_in_schema (never_written update (columns_in file number) entries values size place (λ e. omega arith) (λ e. omega arith) (λ e. omega arith))

    pub write_original_refuses :
        Refuses (write_original_in file number entries values size place) (lent input.Schema file ∷ lent input.Values values ∷ [])
        (InSchema file number (WriteFaults false (columns_in file number) entries values size place))
    unfolding write_original_in
    write_original_refuses =
        refuses (exactly_in_schema file (sizes_one input.Values values) number (λ columns. write_original columns entries values size place) (λ _ _ _. exactly_original (columns_in file number) entries values size place)) (never_entry false)

    pub write_update_refuses :
        Refuses (write_update_in file number entries values size place) (lent input.Schema file ∷ lent input.Values values ∷ [])
        (InSchema file number (WriteFaults true (columns_in file number) entries values size place))
    unfolding write_update_in
    write_update_refuses =
        refuses (exactly_in_schema file (sizes_one input.Values values) number (λ columns. write_update columns entries values size place) (λ _ _ _. exactly_update (columns_in file number) entries values size place)) (never_entry true)

  -- Plans, made and compared.
  pub make_plan_refuses : Refuses (plan_in file number) (lent input.Schema file ∷ []) (InFile file number)
  unfolding plan_in
  make_plan_refuses = refuses (exactly_in_schema_told file sizes_none number (λ columns. plan_of columns)) never_in_file

  -- 17 exactly where the plan is not the one that the schema makes
  pub check_plan_refuses :
      (p : Plan) (answer : Read (Unit {0})) → Checked p (plan_in file number) answer →
      Refuses answer (lent input.Schema file ∷ []) (InSchema file number (Of input.Plan (PlanFault p (plan_beside (plan_in file number)))))
  check_plan_refuses p answer h =
      refuses
      (exactly_alike (exactly_alike (check_plan_exactly p (plan_in file number) answer h make_plan_refuses.exactly) then_grouped) (then_alike then_grouped))
      (never_in_schema (never_of (λ _ f. other f refl)))
    where
      other : {q : Plan} {code offset : ℕ} → PlanFault p q code offset → code ≡ 19 → ⊥
      other (differs d) e = omega arith

-- Through a plan, whatever its numbers.
module _ (p : Plan) where
  pub fixed_place_refuses : (k : ℕ) → Refuses (fixed_place p k) [] (Of input.Column (Missing (planned_count p) k))
  fixed_place_refuses k = refuses (exactly_sized (fixed_place_exactly p k)) (never_missing (λ e. omega arith))

  module _ (row : Bytes) where
    pub open_row_refuses : Refuses (opened_row p row) (lent input.Row row ∷ []) (PlanOpenFaults p row)
    open_row_refuses = refuses (open_row_exactly p row) (never_planned_open (foreign (omega arith)) p row)

    pub planned_refuses : (k : ℕ) → Refuses (planned_row p row k) (lent input.Row row ∷ []) (PlannedFaults p row k)
    planned_refuses k = refuses (planned_exactly p row k) (never_planned (foreign (omega arith)) p row k (λ e. omega arith))

  -- a batch, whose rows are parts of the section
  pub batch_refuses :
      (s : Bytes) (rows : List ℕ) (owner k room : ℕ) →
      Refuses (spans_found p s rows owner k room) (lent input.Section s ∷ [])
      (BatchFault (PlannedRowFaults p k) s owner (rows_of rows) then Of input.Output (NoRoom (length (found_spans (spans_in (planned p k) s owner (rows_of rows)))) (room / 2)))
  batch_refuses s rows owner k room =
      refuses_within (batch_exactly (planned p k) (PlannedRowFaults p k) (λ part. planned_exactly p part k) s rows owner room)
      (λ quiet. never_then (never_batch s owner (λ r. part_within (size_within quiet) r) (rows_of rows)) (never_room (λ e. omega arith)))
    where
      small : (part : Bytes) → length part ≤ limit → {c o : ℕ} {i : Input} → Sizes (lent input.Row part ∷ []) c o i → ⊥
      small part w (over z) = omega arith
      small part w (within z p) = bad_ok (sym ((sizes_none _ _ _).1 p))

      part_within : length s ≤ limit → (r : Row) → Never 19 (PlannedRowFaults p k (drop (start_in s r.original) s))
      part_within w r =
          let l : length (drop (start_in s r.original) s) ≤ limit = omega (arith, length-drop (start_in s r.original) s) in
          never_then (λ o i z. small (drop (start_in s r.original) s) l z) (never_planned (foreign (omega arith)) p (drop (start_in s r.original) s) k (λ e. omega arith))

  -- a page, whose rows are parts of the section
  pub page_refuses :
      (s : Bytes) (table : List ℕ) (rows from owner k room : ℕ) →
      Refuses (page_found p s table rows from owner k room) (lent input.Section s ∷ []) (PageFaults (PlannedRowFaults p k) s table rows from owner room)
  page_refuses s table rows from owner k room =
      refuses_within (page_exactly (planned p k) (PlannedRowFaults p k) (λ part. planned_exactly p part k) s table rows from owner room)
      (λ quiet. never_page s (λ e. omega arith) (λ start. part_within (size_within quiet) start) table rows from owner room)
    where
      small : (part : Bytes) → length part ≤ limit → {c o : ℕ} {i : Input} → Sizes (lent input.Row part ∷ []) c o i → ⊥
      small part w (over z) = omega arith
      small part w (within z p) = bad_ok (sym ((sizes_none _ _ _).1 p))

      part_within : length s ≤ limit → (start : ℕ) → Never 19 (PlannedRowFaults p k (drop (start_in s start) s))
      part_within w start =
          let l : length (drop (start_in s start) s) ≤ limit = omega (arith, length-drop (start_in s start) s) in
          never_then (λ o i z. small (drop (start_in s start) s) l z) (never_planned (foreign (omega arith)) p (drop (start_in s start) s) k (λ e. omega arith))

-- Header and handler options.

pub read_header_refuses : (s : Bytes) → Refuses (header_of s) (lent input.Single s ∷ []) (HeaderFaults s)
read_header_refuses s = refuses (header_exactly s) (never_header s)

pub write_header_refuses : (major minor order unicode capacity : ℕ) → Refuses (header_written major minor order unicode capacity) [] (HeaderWriteFaults order unicode capacity)
write_header_refuses major minor order unicode capacity =
    refuses (exactly_sized (header_written_exactly major minor order unicode capacity)) (never_header_written order unicode capacity)

pub read_options_refuses : (s : Bytes) → Refuses (options_of s) (lent input.Single s ∷ []) (OptionsFaults s)
read_options_refuses s = refuses (options_exactly s) (never_options s)

pub write_options_refuses :
    (first second third : Bytes) (async capacity : ℕ) →
    Refuses (options_written first second third async capacity) (lent input.FirstString first ∷ lent input.SecondString second ∷ lent input.ThirdString third ∷ [])
    (OptionsWriteFaults first second third async capacity)
write_options_refuses first second third async capacity = refuses (options_written_exactly first second third async capacity) (never_options_written first second third async capacity)

-- Schema files.

module _ (file : Bytes) where
  pub read_schema_refuses : Refuses (counts_of file) (lent input.Single file ∷ []) (Of input.Single (FileFault file))
  read_schema_refuses = refuses (counts_exactly file) file_never_size

  pub schema_columns_refuses : (number : ℕ) → Refuses (column_count_of file number) (lent input.Schema file ∷ []) (InFile file number)
  schema_columns_refuses number = refuses (column_count_exactly file number) (never_in_file file number)

  pub schema_column_refuses :
      (number column : ℕ) →
      Refuses (column_of file number column) (lent input.Schema file ∷ []) (InSchema file number (Of input.Column (Missing (length (columns_in file number)) column)))
  schema_column_refuses number column = refuses (column_exactly file number column) (never_in_schema file number (never_missing (λ e. omega arith)))

  pub schema_of_child_refuses : (id : ℕ) → Refuses (child_of file id) (lent input.Schema file ∷ []) (WithFile file (Of input.ChildId (NoChild (schemas_in file) id)))
  schema_of_child_refuses id = refuses (child_exactly file id) (never_then file_never_size (never_child (λ e. omega arith)))

  pub schema_numbers_refuses :
      (capacity : ℕ) → Refuses (numbers_listed file capacity) (lent input.Schema file ∷ []) (WithFile file (Of input.Table (NoRoom (length (numbers_in file)) capacity)))
  schema_numbers_refuses capacity = refuses (numbers_exactly file capacity) (never_then file_never_size (never_room (λ e. omega arith)))

  -- and row sections
  pub check_section_refuses : (s : Bytes) → Refuses (rows_checked file s) (lent input.Schema file ∷ lent input.Section s ∷ []) (CheckFaults file s)
  check_section_refuses s = refuses (checked_exactly file s) (never_checked file s)

  pub list_section_refuses :
      (s : Bytes) (numbers : ℕ) → Refuses (rows_listed file s numbers) (lent input.Schema file ∷ lent input.Section s ∷ []) (ListFaults file s numbers)
  list_section_refuses s numbers = refuses (listed_exactly file s numbers) (never_listed file s numbers)

-- the writer, lent numbers of 32 bits
pub write_schema_refuses :
    (ns : List ℕ) (capacity : ℕ) →
    Refuses (file_written ns capacity) (lent_numbers input.Numbers ns ∷ []) (Of input.Numbers (WrittenFault ns) then Of input.Output (NoRoom (length (coded ns)) capacity))
write_schema_refuses ns capacity = refuses (schema_written_exactly ns capacity) (never_schema_written ns capacity)
