-- Promise: what a page of a batch answers, as C sees it: the row that comes next and how many spans; or the error's code, offset and input.
-- Assumes nothing.
use Rattle.wire.specs.Errors.{input_number}
use Rattle.wire.specs.Read.{Read, ok, bad}
use Rattle.batch.specs.Pages.{Counted}
use Rattle.adtg_c.specs.declared.pages.PageAnswer.{PageAnswer}

abbrev pub page_answer : Read Counted → PageAnswer
page_answer (ok c) = record { code = 0; first = c.next; second = 0; spans = c.spans }
page_answer (bad code offset about) = record { code = code; first = offset; second = input_number about; spans = 0 }
