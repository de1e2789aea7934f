-- Promise: what the code's answers say.
-- Assumes nothing.
use Rattle.std.specs.Prelude.{Result, Ok, Err}
use Rattle.wire.specs.declared.error.Error.{Error}
use Rattle.wire.specs.Read.{Read, ok, refused}
use Rattle.update.specs.declared.updates.UpdateLookUp.{UpdateLookUp}
use Rattle.update.specs.declared.updates.UpdateLookUp.TheVariants as update
use Rattle.update.specs.declared.current.CurrentValue.{CurrentValue}
use Rattle.update.specs.declared.current.CurrentValue.TheVariants as current
use Rattle.row.specs.Told.{answer_in}
use Rattle.walk.specs.Updates as U

abbrev pub told_update : Result UpdateLookUp Error → Read U.UpdateAnswer
told_update (Ok (update.Found f)) = ok (U.field f)
told_update (Ok update.Null) = ok U.null
told_update (Ok update.Unchanged) = ok U.unchanged
told_update (Ok update.Chapter) = ok U.chapter
told_update (Err e) = refused e

abbrev pub told_current : Result CurrentValue Error → Read U.Current
told_current (Ok (current.Updated f)) = ok (U.updated f)
told_current (Ok current.Forced) = ok U.forced
told_current (Ok (current.Original a)) = ok (U.original (answer_in a))
told_current (Err e) = refused e
