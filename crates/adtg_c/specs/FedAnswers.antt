-- Promise: what a reader of fragments answers, as C sees it: 1 for going and 2 for complete, with a count; or the error's code, offset and input.
-- Assumes nothing.
use Rattle.wire.specs.Errors.{input_number}
use Rattle.feeding.specs.Answers.{Answer, going, complete, refused}
use Rattle.adtg_c.specs.declared.readers.FedAnswer.{FedAnswer}

abbrev pub fed_answer : Answer → FedAnswer
fed_answer (going n) = record { code = 0; progress = 1; first = n; second = 0 }
fed_answer (complete n) = record { code = 0; progress = 2; first = n; second = 0 }
fed_answer (refused code offset name) = record { code = code; progress = 0; first = offset; second = input_number name }
