-- Promise: a reader that is fed fragments: its state under the size limit, and its calls.
-- Assumes nothing.
use Rattle.std.specs.Prelude.{ℕ, ◌+◌, List, [], ◌∷◌, length, ltb}
use Rattle.wire.specs.declared.error.Input.{Input}
use Rattle.wire.specs.declared.error.Input.TheVariants as input
use Rattle.wire.specs.Read.{Bytes, Read, ok, bad, ◌>>=◌, pick, about, limit, sized}
use Rattle.tree.specs.Schemas.{Schema, read_schemas}
use Rattle.feeding.specs.Machine.{State, between, keep, skip, finished, stopped, byte, start, closed}
use Rattle.feeding.specs.Answers.{Answer, going, complete, refused, Call, fragment, close}

-- the bytes so far
abbrev pub total : State → ℕ
total (between n at before) = at
total (keep n start held more stage) = start + length held
total (skip n at more k map j) = at
total (finished n at) = at
total (stopped code offset name) = 0

-- a byte over the limit
abbrev pub over : State → State
over (between n at before) = stopped 19 0 input.Single
over (keep n start held more stage) = stopped 19 0 input.Single
over (skip n at more k map j) = stopped 19 0 input.Single
over (finished n at) = stopped 19 0 input.Single
over (stopped code offset name) = stopped code offset name

unfoldable pub next : List Schema → State → ℕ → State
next schemas st b = pick (ltb (total st) limit) (byte schemas st b) (over st)

-- a fragment
unfoldable pub take_in : List Schema → State → Bytes → State
take_in schemas st [] = st
take_in schemas st (b ∷ bs) = take_in schemas (next schemas st b) bs

-- What is remembered between calls: a state, or an answer that stands.
pub data Reader : Type 0 where
  opened : State → Reader
  completed : (n : ℕ) → Reader
  failed : (code offset : ℕ) → Input → Reader

abbrev pub first : Reader
first = opened start

-- after a fragment; a refusal stands
abbrev pub standing : State → Reader
standing (between n at before) = opened (between n at before)
standing (keep n start held more stage) = opened (keep n start held more stage)
standing (skip n at more k map j) = opened (skip n at more k map j)
standing (finished n at) = opened (finished n at)
standing (stopped code offset name) = failed code offset input.Section

-- after the close
abbrev pub ending : Read ℕ → Reader
ending (ok n) = completed n
ending (bad code offset name) = failed code offset input.Section

-- what is answered where a reader stands
abbrev pub told : State → Answer
told (between n at before) = going n
told (keep n start held more stage) = going n
told (skip n at more k map j) = going n
told (finished n at) = complete n
told (stopped code offset name) = refused code offset input.Section

abbrev pub tell : Reader → Answer
tell (opened st) = told st
tell (completed n) = complete n
tell (failed code offset name) = refused code offset name

-- a call of a reader that is open, under these schemas
abbrev pub call_in : List Schema → State → Call → Reader
call_in schemas st (fragment f) = standing (take_in schemas st f)
call_in schemas st close = ending (closed st)

-- the schema file, which is read at each of these calls: its size, then its own errors
unfoldable pub file_schemas : Bytes → Read (List Schema)
file_schemas file = do
  _ ← about input.Schema (sized file)
  about input.Schema (read_schemas file)

abbrev pub with_file : Read (List Schema) → State → Call → Reader
with_file (ok schemas) st c = call_in schemas st c
with_file (bad code offset name) st c = failed code offset name

-- a call; an answer that stands is given again
unfoldable pub call : (file : Bytes) → Reader → Call → Reader
call file (opened st) c = with_file (file_schemas file) st c
call file (completed n) c = completed n
call file (failed code offset name) c = failed code offset name

unfoldable pub calls : (file : Bytes) → Reader → List Call → Reader
calls file r [] = r
calls file r (c ∷ cs) = calls file (call file r c) cs
