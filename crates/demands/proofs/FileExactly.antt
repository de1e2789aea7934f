-- A schema file is refused exactly by its faults, and so is every call that takes one by those of its inputs.
-- Assumes nothing.
use Prim.Native.Nat.{ℕ, zero, suc, ◌+◌, ◌*◌, ◌≤◌, ◌<◌}
use mathlib.Core.Path.{◌≡◌, refl, sym, ap, ◌∙◌, subst}
use mathlib.Core.List.{List, [], ◌∷◌, ◌++◌, map}
use mathlib.Core.Bool.{Bool, true, false, not, true≢false}
use mathlib.Core.Option.{Option, none, some}
use mathlib.Core.Logic.{◌↔◌}
use native.Mathlib.Omega.{arith}
use lib.ListN.{length, length-append, length-map, get_or}
use lib.Dec.{leb, ltb, eqb}
use borrow.Author.Tests.{leb-true, leb-false, le-leb, lt-leb, ltb-true, ltb-false, le-ltb, eqb-true, eqb-false, ne_eqb, not-true, not-false}
use Rattle.wire.specs.declared.error.Input.{Input}
use Rattle.wire.specs.declared.error.Input.TheVariants as input
use Rattle.wire.specs.Read.{Bytes, Read, ok, bad, ◌>>=◌, pick, check, about, limit, sized_by, sized}
use Rattle.wire.specs.Output.{fitting}
use Rattle.wire.proofs.Pieces.{bad_ok, ok_ok, bind_ok, bind_unit, check_ok, about_ok}
use Rattle.wire.proofs.Laws.{sized_over, sized_within}
use Rattle.column.specs.declared.types.Kind.{Kind}
use Rattle.column.specs.declared.types.Kind.TheVariants.{Fixed, Variable, Wide, Chapter, Unknown}
use Rattle.column.specs.declared.column.Column.{Column}
use Rattle.column.specs.Types.{kind_of, variable_kind}
use Rattle.tree.specs.Numbers.{number_limit, third_group, second_group, number_in}
use Rattle.column.specs.Layout.{most_columns}
use Rattle.tree.specs.Tree.{most_file_columns, most_depth, most_flags, most_maximum, Tree, numbers, member}
use Rattle.tree.specs.Reader.{State, state_at, Got, counting, seeing, read_number, read_range, read_fixed, read_variable, read_chapter, read_kind, read_column, read_columns, read_schema, ended, read_file, file_of}
use Rattle.tree.specs.Schemas.{Entry, as_column, Schema, schema, schemas_of, read_schemas, schema_at, columns_of, number_from, child_number}
use Rattle.questions.specs.Questions.{alone, with_schema, counts_of, column_count_of, found_child, child_of, entry_at, column_of}
use Rattle.numbers.specs.Writer.{coded, in_range, file_written, numbers_listed}
use Rattle.tree.proofs.Children.{child_found}
use Rattle.tree.proofs.Errors.{ErrorAt, short, form, out_of_range, too_much, refused_where}
use Rattle.tree.proofs.Errors as errors
use Rattle.numbers.proofs.Forms.{Over, form_over}
use Rattle.numbers.proofs.Coding.{coded_bytewise}
use Rattle.numbers.proofs.Trips.{AllSmall}
use Rattle.tree.proofs.Laws.{file_over, file_within}
use Rattle.grammar.proofs.RowErrors.{OfError, no_error, an_error, of_bind, of_check, of_other}
use Rattle.adtg.specs.InSchema.{both, in_schema}
use Rattle.demands.specs.Checks.{Refusals, Silent, Never, Nothing, ◌then◌, first, second, Exactly, Faults, Of, of, Lent, lent, lent_numbers, Sizes, over, within, Missing, NoRoom}
use Rattle.demands.specs.FileFaults.{NumberFault, no_group, no_second, no_third, second_zero, third_zero, too_long, RangeFault, in_number, below, above, Part, a_schema, some_columns, a_column, SchemaFault, too_deep, in_count, too_many, in_columns, in_first, in_rest, in_code, unknown_type, in_flags, in_maximum, in_id, repeated, in_nested, FileFault, in-schema, bytes_after, schemas_in, columns_in, numbers_in, NoChild, no_child, WrittenFault, over_groups, as_read}
use Rattle.demands.proofs.Exactly.{exactly_of, exactly_fitting, exactly_size_of, never_missing, never_room, moved_error, ok_silent, exactly_then, exactly_last, exactly_alike, single_fault, exactly_about, about_last, exactly_missing, exactly_room, exactly_size, exactly_sized, never_then, never_of}

-- errors of either of two readers
of_pick : {A : Type 0} {P : Faults} (t : Bool) {x y : Read A} → (t ≡ true → OfError P x) → (t ≡ false → OfError P y) → OfError P (pick t x y)
of_pick true h k = h refl
of_pick false h k = k refl

-- Numbers.

third_faults : (a b : ℕ) (l : Bytes) (at : ℕ) → 0x80 ≤ a → 0x80 ≤ b → OfError (NumberFault (a ∷ b ∷ l) at) (third_group a b l at)
unfolding third_group
third_faults a b [] at h k = an_error (no_third h k)
third_faults a b (c ∷ l) at h k =
    of_bind _ _ (of_check (leb 1 c) 5 at (λ t. zeroth (leb-false _ _ t)))
    (λ _ _. of_bind _ _ (of_check (ltb c 0x80) 5 at (λ t. too_long h k (ltb-false _ _ t))) (λ _ _. no_error))
  where
    zeroth : c < 1 → NumberFault (a ∷ b ∷ c ∷ l) at 5 at
    zeroth m = let z : c ≡ 0 = omega arith in rw z (third_zero h k)

second_faults : (a : ℕ) (l : Bytes) (at : ℕ) → 0x80 ≤ a → OfError (NumberFault (a ∷ l) at) (second_group a l at)
unfolding second_group
second_faults a [] at h = an_error (no_second h)
second_faults a (b ∷ l) at h =
    of_bind _ _ (of_check (leb 1 b) 5 at (λ t. zeroth (leb-false _ _ t)))
    (λ _ _. of_pick (ltb b 0x80) (λ _. no_error) (λ t. third_faults a b l at h (ltb-false _ _ t)))
  where
    zeroth : b < 1 → NumberFault (a ∷ b ∷ l) at 5 at
    zeroth m = let z : b ≡ 0 = omega arith in rw z (second_zero h)

number_faults : (l : Bytes) (at : ℕ) → OfError (NumberFault l at) (number_in l at)
unfolding number_in
number_faults [] at = an_error no_group
number_faults (a ∷ l) at = of_pick (ltb a 0x80) (λ _. no_error) (λ t. second_faults a l at (ltb-false _ _ t))

number_refused : {l : Bytes} {at code offset : ℕ} → NumberFault l at code offset → number_in l at ≡ bad code offset input.Single
unfolding number_in second_group third_group check
number_refused no_group = refl
number_refused (no_second {a} h) = rw (le-ltb a 0x80 h)
number_refused (no_third {a} {b} h k) = rw (le-ltb a 0x80 h, le-leb 1 b (omega arith), le-ltb b 0x80 k)
number_refused (second_zero {a} h) = rw (le-ltb a 0x80 h)
number_refused (third_zero {a} {b} h k) = rw (le-ltb a 0x80 h, le-leb 1 b (omega arith), le-ltb b 0x80 k)
number_refused (too_long {a} {b} {c} h k m) = rw (le-ltb a 0x80 h, le-leb 1 b (omega arith), le-ltb b 0x80 k, le-leb 1 c (omega arith), le-ltb c 0x80 m)

pub exactly_number : (l : Bytes) (at : ℕ) → Exactly (number_in l at) (Of input.Single (NumberFault l at))
exactly_number l at = exactly_of (number_faults l at) (λ _ _ h. number_refused h)

read_faults : (s : State) → OfError (NumberFault s.left s.at) (read_number s)
unfolding read_number
read_faults s = of_bind _ _ (number_faults s.left s.at) (λ _ _. no_error)

read_refused : (s : State) {code offset : ℕ} → NumberFault s.left s.at code offset → read_number s ≡ bad code offset input.Single
unfolding read_number
read_refused s h = rw (number_refused h)

module _ (low high : ℕ) (s : State) where
  range_faults : OfError (RangeFault low high s) (read_range low high s)
  unfolding read_range
  range_faults =
      of_bind _ _ (of_other (λ _ _ h. in_number h) (read_faults s))
      (λ n e. of_bind _ _ (of_check (leb low n.value) 6 s.at (λ t. below e (leb-false _ _ t)))
      (λ _ _. of_bind _ _ (of_check (leb n.value high) 6 s.at (λ t. above e (leb-false _ _ t))) (λ _ _. no_error)))

  range_refused : {code offset : ℕ} → RangeFault low high s code offset → read_range low high s ≡ bad code offset input.Single
  unfolding read_range check
  range_refused (in_number h) = rw (read_refused s h)
  range_refused (below {n} e l) = rw (e, lt-leb low n.value l)
  range_refused (above {n} e l) = rw (e, lt-leb n.value high l) (go (leb low n.value))
    where
      go : (t : Bool) → ◌≡◌ {A = Read (Got ℕ)} (check t 6 s.at >>= λ _. bad 6 s.at input.Single) (bad 6 s.at input.Single)
      go true = refl
      go false = refl

  pub exactly_range : Exactly (read_range low high s) (Of input.Single (RangeFault low high s))
  exactly_range = exactly_of range_faults (λ _ _ h. range_refused h)

-- Columns and schemas: each error is a fault.

module _ (d : ℕ) (nests : (s : State) → OfError (SchemaFault (a_schema d) s) (read_schema d s)) where
  variable_faults :
      (s : State) (n : Got ℕ) → read_number s ≡ ok n → variable_kind (kind_of n.value) ≡ true → OfError (SchemaFault (a_column d) s) (read_variable n.value n.next)
  unfolding read_variable
  variable_faults s n e k =
      of_bind _ _ (of_other (λ _ _ h. in_flags e (λ z. true≢false (sym k ∙ ap variable_kind z)) h) (range_faults 0 most_flags n.next))
      (λ f e'. of_bind _ _ (of_other (λ _ _ h. in_maximum e k e' h) (range_faults 1 most_maximum f.next)) (λ _ _. no_error))

  kind_faults :
      (k : Kind) (s : State) (n : Got ℕ) → read_number s ≡ ok n → kind_of n.value ≡ k →
      OfError (SchemaFault (a_column d) s) (read_kind (read_schema d) k n.value s.at n.next)
  unfolding read_kind read_fixed read_chapter
  kind_faults (Fixed w) s n e k =
      of_bind _ _ (of_other (λ _ _ h. in_flags e (λ z. let y : ◌≡◌ {A = ℕ} 0 1 = cc in omega arith) h) (range_faults 0 most_flags n.next)) (λ _ _. no_error)
  kind_faults Variable s n e k = variable_faults s n e (ap variable_kind k)
  kind_faults Wide s n e k = variable_faults s n e (ap variable_kind k)
  kind_faults Chapter s n e k =
      of_bind _ _ (of_other (λ _ _ h. in_flags e (λ z. let y : ◌≡◌ {A = ℕ} 0 1 = cc in omega arith) h) (range_faults 0 most_flags n.next))
      (λ f e'. of_bind _ _ (of_other (λ _ _ h. in_id e k e' h) (read_faults f.next))
      (λ i e''. of_bind _ _ (of_check (not (member i.value i.next.seen)) 8 f.next.at (λ t. repeated e k e' e'' (not-false _ t)))
      (λ u t. of_bind _ _ (of_other (λ _ _ h. in_nested e k e' e'' (not-true _ (check_ok _ _ _ u t)) h) (nests (seeing i.value i.next)))
      (λ _ _. no_error))))
  kind_faults Unknown s n e k = an_error (unknown_type e k)

  column_faults : (s : State) → OfError (SchemaFault (a_column d) s) (read_column (read_schema d) s)
  unfolding read_column
  column_faults s = of_bind _ _ (of_other (λ _ _ h. in_code h) (read_faults s)) (λ n e. kind_faults (kind_of n.value) s n e refl)

  columns_faults : (n : ℕ) (s : State) → OfError (SchemaFault (some_columns d n) s) (read_columns (read_schema d) n s)
  unfolding read_columns
  columns_faults zero s = no_error
  columns_faults (suc n) s =
      of_bind _ _ (of_other (λ _ _ h. in_first h) (column_faults s))
      (λ c e. of_bind _ _ (of_other (λ _ _ h. in_rest e h) (columns_faults n c.next)) (λ _ _. no_error))

schema_faults : (d : ℕ) (s : State) → OfError (SchemaFault (a_schema d) s) (read_schema d s)
unfolding read_schema
schema_faults zero s = an_error too_deep
schema_faults (suc d) s =
    of_bind _ _ (of_other (λ _ _ h. in_count h) (range_faults 1 most_columns s))
    (λ n e. of_bind _ _ (of_check (leb (n.next.total + n.value) most_file_columns) 7 s.at (λ t. too_many e (leb-false _ _ t)))
    (λ u t. of_other (λ _ _ h. in_columns e (leb-true _ _ (check_ok _ _ _ u t)) h) (columns_faults d (schema_faults d) n.value (counting n.value n.next))))

-- And each fault is the error.

abbrev Refuses : Part → State → (code offset : ℕ) → Type 0
Refuses (a_schema d) s code offset = read_schema d s ≡ bad code offset input.Single
Refuses (some_columns d n) s code offset = read_columns (read_schema d) n s ≡ bad code offset input.Single
Refuses (a_column d) s code offset = read_column (read_schema d) s ≡ bad code offset input.Single

module _ (nest : State → Read (Got Tree)) (s : State) (n : Got ℕ) (e : read_number s ≡ ok n) where
  -- by the kind of the column
  by_kind : {k : Kind} → kind_of n.value ≡ k → read_column nest s ≡ read_kind nest k n.value s.at n.next
  unfolding read_column
  by_kind k = rw (e, k)

  flags_refused : {code offset : ℕ} → (kind_of n.value ≡ Unknown → ⊥) → RangeFault 0 most_flags n.next code offset → read_column nest s ≡ bad code offset input.Single
  unfolding read_kind read_fixed read_variable read_chapter
  flags_refused {code} {offset} known h = go (kind_of n.value) refl
    where
      go : (k : Kind) → kind_of n.value ≡ k → read_column nest s ≡ bad code offset input.Single
      go (Fixed w) k = by_kind k ∙ rw (range_refused 0 most_flags n.next h)
      go Variable k = by_kind k ∙ rw (range_refused 0 most_flags n.next h)
      go Wide k = by_kind k ∙ rw (range_refused 0 most_flags n.next h)
      go Chapter k = by_kind k ∙ rw (range_refused 0 most_flags n.next h)
      go Unknown k = absurd (known k)

  maximum_refused :
      {code offset : ℕ} (f : Got ℕ) → variable_kind (kind_of n.value) ≡ true → read_range 0 most_flags n.next ≡ ok f → RangeFault 1 most_maximum f.next code offset →
      read_column nest s ≡ bad code offset input.Single
  unfolding read_kind read_variable
  maximum_refused {code} {offset} f v e' h = go (kind_of n.value) refl v
    where
      go : (k : Kind) → kind_of n.value ≡ k → variable_kind k ≡ true → read_column nest s ≡ bad code offset input.Single
      go (Fixed w) k v = absurd (true≢false (sym v))
      go Variable k v = by_kind k ∙ rw (e', range_refused 1 most_maximum f.next h)
      go Wide k v = by_kind k ∙ rw (e', range_refused 1 most_maximum f.next h)
      go Chapter k v = absurd (true≢false (sym v))
      go Unknown k v = absurd (true≢false (sym v))

schema_refused : {p : Part} {s : State} {code offset : ℕ} → SchemaFault p s code offset → Refuses p s code offset
unfolding read_schema read_columns read_column read_kind read_chapter check
schema_refused too_deep = refl
schema_refused {s = s} (in_count h) = rw (range_refused 1 most_columns s h)
schema_refused (too_many {n} e h) = rw (e, lt-leb (n.next.total + n.value) most_file_columns h)
schema_refused (in_columns {n} e l h) = rw (e, le-leb (n.next.total + n.value) most_file_columns l) (schema_refused h)
schema_refused (in_first h) = rw (schema_refused h)
schema_refused (in_rest e h) = rw (e, schema_refused h)
schema_refused {s = s} (in_code h) = rw (read_refused s h)
schema_refused (unknown_type e k) = rw (e, k)
schema_refused {s = s} (in_flags {d} {n} e k h) = flags_refused (read_schema d) s n e k h
schema_refused {s = s} (in_maximum {d} {n} {f} e k e' h) = maximum_refused (read_schema d) s n e f k e' h
schema_refused {s = s} (in_id {f} e k e' h) = rw (e, k, e', read_refused f.next h)
schema_refused (repeated e k e' e'' m) = rw (e, k, e', e'', m)
schema_refused (in_nested e k e' e'' m h) = rw (e, k, e', e'', m, schema_refused h)

pub exactly_schema : (d : ℕ) (s : State) → Exactly (read_schema d s) (Of input.Single (SchemaFault (a_schema d) s))
exactly_schema d s = exactly_of (schema_faults d s) (λ _ _ h. schema_refused h)

pub exactly_columns : (d n : ℕ) (s : State) → Exactly (read_columns (read_schema d) n s) (Of input.Single (SchemaFault (some_columns d n) s))
exactly_columns d n s = exactly_of (columns_faults d (schema_faults d) n s) (λ _ _ h. schema_refused h)

pub exactly_column : (d : ℕ) (s : State) → Exactly (read_column (read_schema d) s) (Of input.Single (SchemaFault (a_column d) s))
exactly_column d s = exactly_of (column_faults d (schema_faults d) s) (λ _ _ h. schema_refused h)

-- A file.

ended_faults : {F : Faults} (l : Bytes) (at : ℕ) → (0 < length l → F 15 at) → OfError F (ended l at)
unfolding ended
ended_faults [] at h = no_error
ended_faults (b ∷ l) at h = an_error (h (omega arith))

ended_refused : (l : Bytes) (at : ℕ) → 0 < length l → ended l at ≡ bad 15 at input.Single
unfolding ended
ended_refused [] at h = absurd (omega arith)
ended_refused (b ∷ l) at h = refl

file_faults : (b : Bytes) → OfError (FileFault b) (read_file b)
unfolding read_file
file_faults b =
    of_bind _ _ (of_other (λ _ _ h. in-schema h) (schema_faults most_depth (state_at b 0 0 [])))
    (λ t e. of_bind _ _ (ended_faults t.next.left t.next.at (λ h. bytes_after e h)) (λ _ _. no_error))

file_refused : {b : Bytes} {code offset : ℕ} → FileFault b code offset → read_file b ≡ bad code offset input.Single
unfolding read_file
file_refused (in-schema h) = rw (schema_refused h)
file_refused (bytes_after {t} e h) = rw (e, ended_refused t.next.left t.next.at h)

pub exactly_file : (b : Bytes) → Exactly (read_file b) (Of input.Single (FileFault b))
exactly_file b = exactly_of (file_faults b) (λ _ _ h. file_refused h)

-- Its size first: a call with one input, which refuses it where it is over the limit.
pub exactly_by_size :
    {A : Type 0} {Q : Refusals} (name : Input) (s : Bytes) (r : Read A) → (limit < length s → r ≡ bad 19 0 name) → (length s ≤ limit → Exactly r Q) →
    Exactly r (Sizes (lent name s ∷ []) then Q)
unfolding about
exactly_by_size {A} {Q} name s r large small =
    subst (λ (x : Read A). Exactly x (Sizes (lent name s ∷ []) then Q)) (go (leb (length s) limit) refl) (exactly_size name s r (λ w. exactly_sized (small w)))
  where
    go : (t : Bool) → leb (length s) limit ≡ t → (about name (sized s) >>= λ _. r) ≡ r
    go true t = rw (sized_within s (leb-true _ _ t))
    go false t = rw (sized_over s (leb-false _ _ t)) (sym (large (leb-false _ _ t)))

pub exactly_file_of : (b : Bytes) → Exactly (file_of b) (Sizes (lent input.Single b ∷ []) then Of input.Single (FileFault b))
exactly_file_of b = exactly_by_size input.Single b (file_of b) (file_over b) (λ w. rw (file_within b w) (exactly_file b))

module _ (b : Bytes) where
  schemas_over : limit < length b → read_schemas b ≡ bad 19 0 input.Single
  unfolding read_schemas
  schemas_over h = rw (file_over b h)

  schemas_within : length b ≤ limit → Exactly (read_schemas b) (Of input.Single (FileFault b))
  unfolding read_schemas
  schemas_within w = rw (file_within b w) (exactly_last (read_file b) schemas_of (exactly_file b))

  pub exactly_schemas : Exactly (read_schemas b) (Sizes (lent input.Single b ∷ []) then Of input.Single (FileFault b))
  exactly_schemas = exactly_by_size input.Single b (read_schemas b) schemas_over schemas_within

  module _ (name : Input) where
    -- under its name in a call, where the size passed
    pub about_schemas_within : length b ≤ limit → Exactly (about name (read_schemas b)) (Of name (FileFault b))
    about_schemas_within w = exactly_about name (read_schemas b) (schemas_within w)

    pub about_schemas : Exactly (about name (read_schemas b)) (Sizes (lent name b ∷ []) then Of name (FileFault b))
    unfolding about
    about_schemas = exactly_by_size name b (about name (read_schemas b)) (λ h. rw (schemas_over h)) about_schemas_within

    pub about_file_of : Exactly (about name (file_of b)) (Sizes (lent name b ∷ []) then Of name (FileFault b))
    unfolding about
    about_file_of =
        exactly_by_size name b (about name (file_of b)) (λ h. rw (file_over b h)) (λ w. rw (file_within b w) (exactly_about name (read_file b) (exactly_file b)))

-- The sizes of inputs.

then_nothing : {P : Refusals} (code offset : ℕ) (name : Input) → P code offset name ↔ (P then Nothing) code offset name
then_nothing {P} code offset name = ((λ p. first p), (λ q. by q))
  where
    by : {code offset : ℕ} {name : Input} → (P then Nothing) code offset name → P code offset name
    by (first p) = p
    by (second s q) = absurd q

-- none
pub sizes_none : Exactly alone (Sizes [])
sizes_none code offset name = ((λ e. absurd (bad_ok (sym e))), (λ h. absurd (no_sizes h refl)))
  where
    no_sizes : {l : List Lent} {code offset : ℕ} {name : Input} → Sizes l code offset name → l ≡ [] → ⊥
    no_sizes (over h) e = let z : ◌≡◌ {A = ℕ} 0 1 = cc in omega arith
    no_sizes (within h k) e = let z : ◌≡◌ {A = ℕ} 0 1 = cc in omega arith

-- one before others
pub sizes_more :
    {l : List Lent} {sizes : Read (Unit {0})} (name : Input) (s : Bytes) → Exactly sizes (Sizes l) → Exactly (both (about name (sized s)) sizes) (Sizes (lent name s ∷ l))
sizes_more {l} {sizes} name s h =
    exactly_alike (exactly_size name s sizes (λ _. exactly_alike h then_nothing)) (λ c o i. ((then_nothing c o i).1, (then_nothing c o i).0))

-- one
pub sizes_one : (name : Input) (s : Bytes) → Exactly (about name (sized s)) (Sizes (lent name s ∷ []))
sizes_one name s = rw (bind_unit (about name (sized s))) at (sizes_more name s sizes_none)

-- where they pass, each is within the limit
pub size_within : {x : Lent} {l : List Lent} → Silent (Sizes (x ∷ l)) → x.size ≤ limit
size_within {x} {l} h = go (leb x.size limit) refl
  where
    go : (t : Bool) → leb x.size limit ≡ t → x.size ≤ limit
    go true t = leb-true _ _ t
    go false t = absurd (h 19 0 x.name (over (leb-false _ _ t)))

pub sizes_rest : {x : Lent} {l : List Lent} → Silent (Sizes (x ∷ l)) → Silent (Sizes l)
sizes_rest {x} h code offset name p = h code offset name (within (size_within h) p)

sizes_pass : {x : Lent} {l : List Lent} → x.size ≤ limit → Silent (Sizes l) → Silent (Sizes (x ∷ l))
sizes_pass {x} {l} w h code offset name p = by p
  where
    by : {code offset : ℕ} {name : Input} → Sizes (x ∷ l) code offset name → ⊥
    by (over z) = omega arith
    by (within z q) = h _ _ _ q

-- The common front of calls with a schema file.

-- a schema number: 18 where there is no such schema
pub about_schema_at : (schemas : List Schema) (k : ℕ) → Exactly (about input.SchemaNumber (schema_at schemas k)) (Of input.SchemaNumber (Missing (length schemas) k))
unfolding schema_at
about_schema_at schemas k =
    about_last input.SchemaNumber _ (λ (u : Unit {0}). get_or schemas k (schema 0 [])) (exactly_about input.SchemaNumber _ (exactly_missing (length schemas) k))

module _ (b : Bytes) where
  -- what the file was read as
  pub schemas_told_lem : (schemas : List Schema) → read_schemas b ≡ ok schemas → schemas_in b ≡ schemas
  unfolding schemas_in
  schemas_told_lem schemas e = rw e

  module _ {A : Type 0} {l : List Lent} {sizes : Read (Unit {0})} (others : Exactly sizes (Sizes l)) where
    -- All sizes, the file's own faults, then the rest.
    pub exactly_front :
        {Q : Refusals} (f : List Schema → Read A) →
        (Silent (Sizes (lent input.Schema b ∷ l)) → read_schemas b ≡ ok (schemas_in b) → Exactly (f (schemas_in b)) Q) →
        Exactly (about input.Schema (sized b) >>= λ _. sizes >>= λ _. about input.Schema (read_schemas b) >>= f)
        (Sizes (lent input.Schema b ∷ l) then Of input.Schema (FileFault b) then Q)
    exactly_front {Q} f h =
        exactly_size input.Schema b _
        (λ w. exactly_then sizes _ others
        (λ u e. exactly_then _ f (about_schemas_within b input.Schema w) (λ schemas g. go (sizes_pass w (ok_silent u others e)) schemas (about_ok _ _ schemas g))))
      where
        go : Silent (Sizes (lent input.Schema b ∷ l)) → (schemas : List Schema) → read_schemas b ≡ ok schemas → Exactly (f schemas) Q
        go z schemas g =
            let e : schemas_in b ≡ schemas = schemas_told_lem schemas g in
            subst (λ (x : List Schema). Exactly (f x) Q) e (h z (rw e g))

    -- and the schema number in front of it
    pub exactly_with_schema :
        {Q : Refusals} (k : ℕ) (rest : List Schema → List Entry → Read A) →
        (Silent (Sizes (lent input.Schema b ∷ l)) → read_schemas b ≡ ok (schemas_in b) → k < length (schemas_in b) →
        Exactly (rest (schemas_in b) (columns_of (schemas_in b) k)) Q) →
        Exactly (with_schema b sizes k rest)
        (Sizes (lent input.Schema b ∷ l) then Of input.Schema (FileFault b) then Of input.SchemaNumber (Missing (length (schemas_in b)) k) then Q)
    unfolding with_schema schema_at columns_of
    exactly_with_schema {Q} k rest h =
        exactly_front (λ schemas. about input.SchemaNumber (schema_at schemas k) >>= λ s. rest schemas s.columns)
        (λ z e. exactly_then _ _ (about_schema_at (schemas_in b) k) (λ s g. go z e s (about_ok _ _ s g)))
      where
        go : Silent (Sizes (lent input.Schema b ∷ l)) → read_schemas b ≡ ok (schemas_in b) → (s : Schema) → schema_at (schemas_in b) k ≡ ok s →
            Exactly (rest (schemas_in b) s.columns) Q
        go z e s g =
            let (u, t, r) = bind_ok _ _ s g in
            let y : get_or (schemas_in b) k (schema 0 []) ≡ s = ok_ok r in
            subst (λ (x : Schema). Exactly (rest (schemas_in b) x.columns) Q) y (h z e (ltb-true _ _ (check_ok _ _ _ u t)))

    -- what is told of the schema always answers
    pub exactly_told :
        (k : ℕ) (tell : List Schema → List Entry → A) →
        Exactly (with_schema b sizes k (λ schemas columns. ok (tell schemas columns)))
        (Sizes (lent input.Schema b ∷ l) then Of input.Schema (FileFault b) then Of input.SchemaNumber (Missing (length (schemas_in b)) k))
    unfolding with_schema
    exactly_told k tell =
        exactly_front (λ schemas. about input.SchemaNumber (schema_at schemas k) >>= λ s. ok (tell schemas s.columns))
        (λ z e. exactly_last _ (λ s. tell (schemas_in b) s.columns) (about_schema_at (schemas_in b) k))

    -- Questions about the columns of one schema.
    pub exactly_in_schema :
        {Q : Refusals} (k : ℕ) (ask : List Column → Read A) →
        (Silent (Sizes (lent input.Schema b ∷ l)) → read_schemas b ≡ ok (schemas_in b) → k < length (schemas_in b) → Exactly (ask (columns_in b k)) Q) →
        Exactly (in_schema b sizes k ask)
        (Sizes (lent input.Schema b ∷ l) then Of input.Schema (FileFault b) then Of input.SchemaNumber (Missing (length (schemas_in b)) k) then Q)
    unfolding columns_in
    exactly_in_schema k ask h = exactly_with_schema k (λ schemas columns. ask (map as_column columns)) h

    pub exactly_in_schema_told :
        (k : ℕ) (tell : List Column → A) →
        Exactly (in_schema b sizes k (λ columns. ok (tell columns)))
        (Sizes (lent input.Schema b ∷ l) then Of input.Schema (FileFault b) then Of input.SchemaNumber (Missing (length (schemas_in b)) k))
    exactly_in_schema_told k tell = exactly_told k (λ schemas columns. tell (map as_column columns))

-- The schema's own calls.

pub counts_exactly : (b : Bytes) → Exactly (counts_of b) (Sizes (lent input.Single b ∷ []) then Of input.Single (FileFault b))
unfolding counts_of
counts_exactly b = exactly_last (read_schemas b) _ (exactly_schemas b)

pub column_count_exactly :
    (b : Bytes) (k : ℕ) →
    Exactly (column_count_of b k)
    (Sizes (lent input.Schema b ∷ []) then Of input.Schema (FileFault b) then Of input.SchemaNumber (Missing (length (schemas_in b)) k))
unfolding column_count_of
column_count_exactly b k = exactly_told b sizes_none k (λ schemas columns. length columns)

exactly_entry : (columns : List Entry) (j : ℕ) → Exactly (entry_at columns j) (Of input.Column (Missing (length (map as_column columns)) j))
unfolding entry_at
exactly_entry columns j = rw length-map (exactly_last _ _ (exactly_about input.Column _ (exactly_missing (length columns) j)))

pub column_exactly :
    (b : Bytes) (k j : ℕ) →
    Exactly (column_of b k j)
    (Sizes (lent input.Schema b ∷ []) then Of input.Schema (FileFault b) then Of input.SchemaNumber (Missing (length (schemas_in b)) k)
    then Of input.Column (Missing (length (columns_in b k)) j))
unfolding column_of columns_in
column_exactly b k j = exactly_with_schema b sizes_none k _ (λ _ _ _. exactly_last _ _ (exactly_entry (columns_of (schemas_in b) k) j))

-- a child id: 18 exactly where no nested schema has it
no_number_lem : (k : ℕ) (ss : List Schema) (id : ℕ) → number_from k ss id ≡ none → (j : ℕ) → j < length ss → (get_or ss j (schema 0 [])).id ≡ id → ⊥
unfolding number_from
no_number_lem k [] id e j h g = omega arith
no_number_lem k (s ∷ ss) id e j h g = by (eqb s.id id) refl e j h g (no_number_lem (k + 1) ss id)
  where
    by : (t : Bool) → eqb s.id id ≡ t → pick t (some k) (number_from (k + 1) ss id) ≡ none →
        (j : ℕ) → j < suc (length ss) → (get_or (s ∷ ss) j (schema 0 [])).id ≡ id →
        (number_from (k + 1) ss id ≡ none → (i : ℕ) → i < length ss → (get_or ss i (schema 0 [])).id ≡ id → ⊥) → ⊥
    by true q f j h g ih = let z : ◌≡◌ {A = ℕ} 0 1 = cc in omega arith
    by false q f zero h g ih = eqb-false s.id id q g
    by false q f (suc j) h g ih = ih f j (omega arith) g

no_such_child : (ss : List Schema) (id : ℕ) → child_number ss id ≡ none → NoChild ss id 18 0
unfolding child_number
no_such_child [] id e = no_child (λ k _ h _. omega arith)
no_such_child (top ∷ ss) id e = no_child by
  where
    by : (k : ℕ) → 1 ≤ k → k < suc (length ss) → (get_or (top ∷ ss) k (schema 0 [])).id ≡ id → ⊥
    by zero h l g = omega arith
    by (suc k) h l g = no_number_lem 1 ss id e k (omega arith) g

exactly_child : (ss : List Schema) (id : ℕ) → Exactly (found_child (child_number ss id)) (Of input.ChildId (NoChild ss id))
exactly_child ss id = go (child_number ss id) refl
  where
    go : (n : Option ℕ) → child_number ss id ≡ n → Exactly (found_child n) (Of input.ChildId (NoChild ss id))
    go none e code offset name = ((λ r. moved_error (Of input.ChildId (NoChild ss id)) r (of (no_such_child ss id e))), (λ p. by p))
      where
        by : {code offset : ℕ} {name : Input} → Of input.ChildId (NoChild ss id) code offset name → ◌≡◌ {A = Read ℕ} (bad 18 0 input.ChildId) (bad code offset name)
        by (of (no_child h)) = refl
    go (some n) e code offset name = ((λ r. absurd (bad_ok (sym r))), (λ p. absurd (by p)))
      where
        by : {code offset : ℕ} {name : Input} → Of input.ChildId (NoChild ss id) code offset name → ⊥
        by (of (no_child h)) = let (a, b, c) = child_found ss id n e in h n a b c

child_code : {ss : List Schema} {id code offset : ℕ} → NoChild ss id code offset → code ≡ 18
child_code (no_child _) = refl

pub never_child : {ss : List Schema} {id n : ℕ} {name : Input} → (n ≡ 18 → ⊥) → Never n (Of name (NoChild ss id))
never_child h = never_of (λ _ f. h (child_code f))

pub child_exactly :
    (b : Bytes) (id : ℕ) →
    Exactly (child_of b id) (Sizes (lent input.Schema b ∷ []) then Of input.Schema (FileFault b) then Of input.ChildId (NoChild (schemas_in b) id))
unfolding child_of about
child_exactly b id =
    exactly_by_size input.Schema b (child_of b id) (λ h. rw (schemas_over b h))
    (λ w. exactly_then (about input.Schema (read_schemas b)) _ (about_schemas_within b input.Schema w)
    (λ schemas e. rw (schemas_told_lem b schemas (about_ok input.Schema _ schemas e)) (exactly_child schemas id)))

-- room for the numbers of a file: 16 with the numbers needed
pub numbers_exactly :
    (b : Bytes) (capacity : ℕ) →
    Exactly (numbers_listed b capacity) (Sizes (lent input.Schema b ∷ []) then Of input.Schema (FileFault b) then Of input.Table (NoRoom (length (numbers_in b)) capacity))
unfolding numbers_listed numbers_in about
numbers_exactly b capacity =
    exactly_by_size input.Schema b (numbers_listed b capacity) (λ h. rw (file_over b h))
    (λ w. exactly_then (about input.Schema (file_of b)) _ (rw (file_within b w) (exactly_about input.Schema (read_file b) (exactly_file b)))
    (λ t e. rw (about_ok input.Schema (file_of b) t e) (exactly_last _ _ (exactly_about input.Table _ (exactly_room (length (numbers t)) capacity)))))

-- Codes that a file's faults do not have: none is over 15.

code_low : {n code offset : ℕ} → ErrorAt n code offset → code ≤ 15
code_low (short h) = omega arith
code_low (form h) = omega arith
code_low (out_of_range h) = omega arith
code_low (too_much h) = omega arith
code_low (errors.repeated h) = omega arith
code_low (errors.bytes_after h) = omega arith

pub file_code : {b : Bytes} {code offset : ℕ} → FileFault b code offset → ErrorAt (length b) code offset
file_code {b} h = (refused_where b _ _ input.Single (file_refused h)).0

pub file_never : {b : Bytes} {name : Input} (n : ℕ) → 15 < n → Never n (Of name (FileFault b))
file_never n h = never_of (λ _ f. omega (arith, code_low (file_code f)))

pub file_never_room : {b : Bytes} {name : Input} → Never 16 (Of name (FileFault b))
file_never_room = file_never 16 (omega arith)

pub file_never_size : {b : Bytes} {name : Input} → Never 19 (Of name (FileFault b))
file_never_size = file_never 19 (omega arith)

-- nor 16 and 19 what stands before the rest of a call
pub front_never :
    {b : Bytes} {k : ℕ} {Q : Refusals} (n : ℕ) → 15 < n → (n ≡ 18 → ⊥) → Never n Q →
    Never n (Of input.Schema (FileFault b) then Of input.SchemaNumber (Missing (length (schemas_in b)) k) then Q)
front_never n h k q = never_then (file_never n h) (never_then (never_missing k) q)

-- The writer of a file.

module _ (ns : List ℕ) where
  -- A wrong form is refused only where a number over three groups stands.
  pub form_is_over : {p : ℕ} → FileFault (coded ns) 5 p → Over ns p
  form_is_over {p} h = form_over ns p input.Single (file_refused h)

  over_fault : {p : ℕ} → FileFault (coded ns) 5 p → WrittenFault ns 6 p
  over_fault {p} h =
      let o : Over ns p = form_is_over h in
      rw o.place (over_groups o.before o.number o.behind o.splits o.over (rw o.place at h))

  written_faults : OfError (WrittenFault ns) (in_range (read_file (coded ns)))
  unfolding in_range
  written_faults = by (file_faults (coded ns))
    where
      by : {r : Read Tree} → OfError (FileFault (coded ns)) r → OfError (WrittenFault ns) (in_range r)
      by no_error = no_error
      by (an_error {code} {offset} h) = go (eqb code 5) refl
        where
          go : (t : Bool) → eqb code 5 ≡ t → OfError {A = Tree} (WrittenFault ns) (bad (pick t 6 code) offset input.Single)
          go true t = an_error (over_fault (rw (eqb-true code 5 t) at h))
          go false t = an_error (as_read h (eqb-false code 5 t))

  written_refused : {code offset : ℕ} → WrittenFault ns code offset → in_range (read_file (coded ns)) ≡ bad code offset input.Single
  unfolding in_range
  written_refused (over_groups _ _ _ _ _ h) = rw (file_refused h)
  written_refused (as_read {code} h k) = rw (file_refused h, ne_eqb code 5 k)

  pub schema_written_exactly :
      (capacity : ℕ) →
      Exactly (file_written ns capacity)
      (Sizes (lent_numbers input.Numbers ns ∷ []) then Of input.Numbers (WrittenFault ns) then Of input.Output (NoRoom (length (coded ns)) capacity))
  unfolding file_written
  schema_written_exactly capacity =
      exactly_size_of (lent_numbers input.Numbers ns) _
      (λ _. exactly_sized
      (exactly_then _ _ (exactly_about input.Numbers _ (exactly_of written_faults (λ _ _ h. written_refused h))) (λ _ _. exactly_fitting (coded ns) capacity)))

  written_code : {code offset : ℕ} → WrittenFault ns code offset → code ≤ 15
  written_code (over_groups _ _ _ _ _ _) = omega arith
  written_code (as_read f _) = code_low (file_code f)

  pub never_schema_written : (capacity : ℕ) → Never 19 (Of input.Numbers (WrittenFault ns) then Of input.Output (NoRoom (length (coded ns)) capacity))
  never_schema_written capacity = never_then (never_of (λ _ f. omega (arith, written_code f))) (never_room (λ e. omega arith))

-- Numbers that three groups can say: the writer refuses them as the reader does their bytes.

small_at : (x : List ℕ) (n : ℕ) (y : List ℕ) → AllSmall (x ++ (n ∷ y)) → n < number_limit
small_at [] n y h = h 0
small_at (m ∷ x) n y h = small_at x n y (λ i. h (suc i))

coded_short : (ns : List ℕ) → length (coded ns) ≤ 3 * length ns
unfolding coded
coded_short [] = omega arith
coded_short (n ∷ ns) = simp length-append (omega (arith, (coded_bytewise n).short, coded_short ns))

-- the name of a refusal
of_name : {n i : Input} {F : Faults} {code offset : ℕ} → Of n F code offset i → i ≡ n
of_name (of f) = refl

module _ (ns : List ℕ) (small : AllSmall ns) where
  -- the shortest form is written
  pub small_no_form : (p : ℕ) → FileFault (coded ns) 5 p → ⊥
  small_no_form p h =
      let o : Over ns p = form_is_over ns h in
      let l : o.number < number_limit = small_at o.before o.number o.behind (rw o.splits at small) in
      omega (arith, o.over)

  pub small_never_form : (p : ℕ) (i : Input) → read_file (coded ns) ≡ bad 5 p i → ⊥
  small_never_form p i e = small_no_form p (single_fault (exactly_file (coded ns)) e).0

  pub written_as_read : (code offset : ℕ) → WrittenFault ns code offset ↔ FileFault (coded ns) code offset
  written_as_read code offset = ((λ w. by w), (λ f. as_read f (λ z. small_no_form offset (rw z at f))))
    where
      by : {code offset : ℕ} → WrittenFault ns code offset → FileFault (coded ns) code offset
      by (over_groups _ _ _ _ _ h) = absurd (small_no_form _ h)
      by (as_read h _) = h

  module _ (fits : 4 * length ns ≤ limit) (capacity : ℕ) where
    -- The writer answers what the reader does of the bytes, and then room.
    pub schema_writer_reads : file_written ns capacity ≡ (about input.Numbers (file_of (coded ns)) >>= λ _. fitting (coded ns) capacity)
    unfolding file_written sized_by check about in_range
    schema_writer_reads =
        let w : length (coded ns) ≤ limit = omega (arith, coded_short ns) in
        rw (le-leb (4 * length ns) limit fits, file_within (coded ns) w) (go (read_file (coded ns)) refl)
      where
        go : (r : Read Tree) → read_file (coded ns) ≡ r →
            (about input.Numbers (in_range r) >>= λ _. fitting (coded ns) capacity) ≡ (about input.Numbers r >>= λ _. fitting (coded ns) capacity)
        go (ok t) e = refl
        go (bad c o i) e =
            let z : c ≡ 5 → ⊥ = λ x. small_never_form o i (rw x at e) in
            rw (ne_eqb c 5 z)

    -- It refuses the numbers with the code and offset with which the reader refuses their bytes.
    pub schema_writer_refuses_as_reader :
        (code offset : ℕ) → file_written ns capacity ≡ bad code offset input.Numbers ↔ file_of (coded ns) ≡ bad code offset input.Single
    unfolding about
    schema_writer_refuses_as_reader code offset =
        let w : length (coded ns) ≤ limit = omega (arith, coded_short ns) in
        rw (schema_writer_reads, file_within (coded ns) w) (go (file_faults (coded ns)))
      where
        go : {r : Read Tree} → OfError (FileFault (coded ns)) r →
            (about input.Numbers r >>= λ _. fitting (coded ns) capacity) ≡ bad code offset input.Numbers ↔ r ≡ bad code offset input.Single
        go no_error = ((λ e. absurd (no_room_name e)), (λ e. absurd (bad_ok (sym e))))
          where
            no_room_name : fitting (coded ns) capacity ≡ bad code offset input.Numbers → ⊥
            no_room_name e =
                let z : input.Numbers ≡ input.Output = of_name ((exactly_fitting (coded ns) capacity code offset input.Numbers).0 e) in
                let y : ◌≡◌ {A = ℕ} 0 1 = cc in
                omega arith
        go (an_error {code = c} {offset = o} h) = (
          (λ e.
              let x : c ≡ code = cc in
              let y : o ≡ offset = cc in
              cc),
          (λ e.
              let x : c ≡ code = cc in
              let y : o ≡ offset = cc in
              cc),
        )
