-- Promise: the calls of a reader: what each answers, and the record that it leaves.
-- Assumes nothing.
use Rattle.std.specs.Prelude.{Result, Ok, Err}
use Rattle.wire.specs.declared.error.Error.{Error}
use Rattle.wire.specs.Errors.{code_of}
use Rattle.wire.specs.Read.{Bytes}
use Rattle.feeding.specs.Answers.{Answer, going, complete, refused, fragment, close}
use Rattle.feeding.specs.Feeding.{tell, call}
use Rattle.incremental.specs.declared.record.Reader.{Reader}
use Rattle.incremental.specs.declared.feed.Fed.{Fed}
use Rattle.incremental.specs.declared.feed.Fed.TheVariants as fed
use Rattle.incremental.specs.Record.{reader_in, record_of}

-- a fragment
unfoldable pub record_fed : (file : Bytes) → Reader → Bytes → Reader
record_fed file r f = record_of (call file (reader_in r) (fragment f))

unfoldable pub answer_fed : (file : Bytes) → Reader → Bytes → Answer
answer_fed file r f = tell (call file (reader_in r) (fragment f))

-- the end of the input
unfoldable pub record_closed : (file : Bytes) → Reader → Reader
record_closed file r = record_of (call file (reader_in r) close)

unfoldable pub answer_closed : (file : Bytes) → Reader → Answer
answer_closed file r = tell (call file (reader_in r) close)

-- what an answer says
abbrev pub told_fed : Result Fed Error → Answer
told_fed (Ok (fed.Going n)) = going n
told_fed (Ok (fed.Complete n)) = complete n
told_fed (Err e) = refused (code_of e.kind) e.offset e.input
