-- What is remembered between calls is what its record says, and each call leaves a record that says what is then remembered.
-- Assumes nothing.
use Prim.Native.Nat.{ℕ, zero, suc, ◌+◌, ◌-◌, ◌≤◌}
use mathlib.Core.List.{List, [], ◌++◌}
use mathlib.Core.Bool.{Bool, true}
use mathlib.Core.Path.{◌≡◌, refl, sym, ap, ◌∙◌}
use native.Mathlib.Omega.{arith}
use lib.ListN.{length, get_or, take, replicate, length-map}
use lib.Seq.{take-take, take-append_seam}
use borrow.Author.Tests.{le-leb, lt-ltb}
use Rattle.wire.specs.declared.error.Input.{Input}
use Rattle.wire.specs.declared.error.Input.TheVariants as input
use Rattle.wire.specs.Errors.{input_number}
use Rattle.wire.specs.Read.{Bytes, AreBytes, Read, ok, bad, ◌>>=◌, pick, about, limit, sized}
use Rattle.wire.proofs.Pieces.{bad_ok, ok_ok, bind_ok}
use Rattle.tree.specs.Reader.{file_of}
use Rattle.tree.specs.Schemas.{Schema, schema, schemas_of, read_schemas, columns_of, as_column}
use Rattle.tree.proofs.SchemaLists.{SchemasRange, no_schema, a_schema_lem, schemas_range}
use Rattle.tree.proofs.Theorem.{file_of_iff}
use Rattle.grammar.specs.Grammar.{columns_at}
use Rattle.feeding.specs.Answers.{Call, fragment, close}
use Rattle.feeding.specs.Machine.{child_id, change_id, delete_id, maps, prefix, State, between, keep, skip, finished, stopped, closed}
use Rattle.feeding.specs.Feeding.{take_in, opened, completed, failed, standing, ending, file_schemas, with_file, call}
use Rattle.feeding.specs.Feeding.{Reader as Standing}
use Rattle.feeding.proofs.Fits.{Fits, fits_taken}
use Rattle.feeding.proofs.Codes.{Code, Coded, CodedState, coded_taken, coded_closed, coded_file}
use Rattle.incremental.proofs.StateLaws.{before_back, kind_back}
use Rattle.incremental.specs.Record.{input_in, stage_in, state_in, fits, known_code, reader_in, sixteen, state_of, record_of}

-- A state that is open: its numbers fit a record, and it has not stopped.
abbrev pub Running : State → Type 0
Running (between n at before) = Unit {0}
Running (keep n start held more g) = Unit {0}
Running (skip n at more k map j) = Unit {0}
Running (finished n at) = Unit {0}
Running (stopped code offset name) = ⊥

-- A refusal is about the schema file, the section or the record itself: what the number of a record can name. It has a number that refusals have.
abbrev pub FitsStanding : Standing → Type 0
FitsStanding (opened st) = Running st × Fits st
FitsStanding (completed n) = Unit {0}
FitsStanding (failed code offset name) = (input_in (input_number name) ≡ name) × (known_code code ≡ true)

-- The parts of a record.
sixteen_back : (l : Bytes) → length l ≤ 16 → take (length l) (sixteen l) ≡ l
sixteen_back l h = take-take (length l) 16 (l ++ replicate 16 0) h ∙ take-append_seam l (replicate 16 0)

opened_back : (st : State) → Running st → Fits st → reader_in (state_of st) ≡ opened st
unfolding reader_in fits state_in stage_in
opened_back (between n at before) o (a, l) = rw (le-leb n at a, le-leb at limit l, before_back before)
opened_back (keep n start held more (child_id at)) o (a, b, l, w, p, m) =
    let z : start - 1 ≡ at = omega arith in
    rw (le-leb n start a, le-leb start limit (omega arith), le-leb 1 start b, le-leb (length held + more) 15 w, sixteen_back held (omega arith), z)
opened_back (keep n start held more (change_id before at)) o (a, b, l, w, p, m) =
    let z : start - 1 ≡ at = omega arith in
    rw
    (le-leb n start a, le-leb start limit (omega arith), le-leb 1 start b, le-leb (length held + more) 15 w, sixteen_back held (omega arith), z, before_back before)
opened_back (keep n start held more (delete_id before at)) o (a, b, l, w, p, m) =
    let z : start - 1 ≡ at = omega arith in
    rw
    (le-leb n start a, le-leb start limit (omega arith), le-leb 1 start b, le-leb (length held + more) 15 w, sixteen_back held (omega arith), z, before_back before)
opened_back (keep n start held more (maps k)) o (a, b, l, w, p, m) =
    rw (le-leb n start a, le-leb start limit (omega arith), le-leb 1 start b, le-leb (length held + more) 15 w, sixteen_back held (omega arith), kind_back k)
opened_back (keep n start held more (prefix k map j)) o (a, b, l, w, p, (m, i)) =
    rw (
      le-leb n start a,
      le-leb start limit (omega arith),
      le-leb (length map) 16 m,
      le-leb j 64 (omega arith),
      le-leb 1 start b,
      lt-ltb j 64 i,
      le-leb (length held + more) 15 w,
      sixteen_back held (omega arith),
      kind_back k,
      sixteen_back map m,
    )
opened_back (skip n at more k map j) o (a, l, m, i) =
    rw (le-leb n at a, le-leb at limit l, le-leb (length map) 16 m, le-leb j 64 i, kind_back k, sixteen_back map m)
opened_back (finished n at) o (a, l) = rw (le-leb n at a, le-leb at limit l)
opened_back (stopped c p i) o f = absurd o

-- A record says what it is the record of.
pub record_read : (R : Standing) → FitsStanding R → reader_in (record_of R) ≡ R
unfolding record_of reader_in
record_read (opened st) (o, f) = opened_back st o f
record_read (completed n) h = refl
record_read (failed code offset name) (h, k) =
    ap (λ (t : Bool). pick t (failed code offset (input_in (input_number name))) (failed 18 0 input.Reader)) k ∙ ap (λ (x : Input). failed code offset x) h

-- No schema of a file that is read has more than 64 columns.
few_at : {ss : List Schema} → SchemasRange ss → (j : ℕ) → length (get_or ss j (schema 0 [])).columns ≤ 64
few_at no_schema j = omega arith
few_at (a_schema_lem r rs) zero = r.count.few
few_at (a_schema_lem r rs) (suc j) = few_at rs j

pub read_few : (file : Bytes) (S : List Schema) → AreBytes file → read_schemas file ≡ ok S → (j : ℕ) → length (columns_at S j) ≤ 64
unfolding read_schemas columns_of
read_few file S bytes e j =
    let (t, r, q) = bind_ok (file_of file) (λ t. ok (schemas_of t)) S e in
    let z : schemas_of t ≡ S = ok_ok q in
    let h : length (get_or (schemas_of t) j (schema 0 [])).columns ≤ 64 = few_at (schemas_range ((file_of_iff file t bytes).0 r).1) j in
    rw (← z) (omega (arith, length-map (get_or (schemas_of t) j (schema 0 [])).columns as_column))

-- The schemas of the file, or a refusal that is about it.
file_read : (file : Bytes) {S : List Schema} → file_schemas file ≡ ok S → read_schemas file ≡ ok S
unfolding file_schemas about
file_read file {S} e = go (sized file) (read_schemas file) e
  where
    go : (q : Read (Unit {0})) (r : Read (List Schema)) → (about input.Schema q >>= λ _. about input.Schema r) ≡ ok S → r ≡ ok S
    go (ok u) (ok T) e = e
    go (ok u) (bad c o i) e = absurd (bad_ok e)
    go (bad c o i) r e = absurd (bad_ok e)

file_named : (file : Bytes) {c o : ℕ} {i : Input} → file_schemas file ≡ bad c o i → input.Schema ≡ i
unfolding file_schemas about
file_named file {c} {o} {i} e = go (sized file) (read_schemas file) e
  where
    go : (q : Read (Unit {0})) (r : Read (List Schema)) → (about input.Schema q >>= λ _. about input.Schema r) ≡ bad c o i → input.Schema ≡ i
    go (ok u) (ok T) e = absurd (bad_ok (sym e))
    go (ok u) (bad d p j) e = cc
    go (bad d p j) r e = cc

-- A number that refusals have.
code_known : (code : ℕ) → Code code → known_code code ≡ true
code_known code (a, b) = rw (le-leb 1 code a, le-leb code 20 b)

running_coded : (st : State) → Running st → CodedState st
running_coded (between n at before) o = tt
running_coded (keep n start held more g) o = tt
running_coded (skip n at more k map j) o = tt
running_coded (finished n at) o = tt
running_coded (stopped c p i) o = absurd o

fits_standing : (st : State) → Fits st → CodedState st → FitsStanding (standing st)
fits_standing (between n at before) h k = (tt, h)
fits_standing (keep n start held more g) h k = (tt, h)
fits_standing (skip n at more k map j) h c = (tt, h)
fits_standing (finished n at) h k = (tt, h)
fits_standing (stopped c o i) h k = (refl, code_known c k)

fits_ending : (r : Read ℕ) → Coded r → FitsStanding (ending r)
fits_ending (ok n) k = tt
fits_ending (bad c o i) k = (refl, code_known c k)

-- After every call, what is remembered fits its record.
pub fits_call : (file : Bytes) → AreBytes file → (R : Standing) (c : Call) → FitsStanding R → FitsStanding (call file R c)
unfolding call
fits_call file bytes (opened st) c (o, f) = go (file_schemas file) refl (coded_file file) c
  where
    go : (r : Read (List Schema)) → file_schemas file ≡ r → Coded r → (c : Call) → FitsStanding (with_file r st c)
    go (ok S) e k (fragment v) =
        fits_standing (take_in S st v) (fits_taken S (read_few file S bytes (file_read file e)) st f v) (coded_taken S st v (running_coded st o))
    go (ok S) e k close = fits_ending (closed st) (coded_closed st (running_coded st o))
    go (bad code offset name) e k c = (ap (λ (x : Input). input_in (input_number x)) (sym (file_named file e)) ∙ file_named file e, code_known code k)
fits_call file bytes (completed n) c h = h
fits_call file bytes (failed code offset name) c h = h
