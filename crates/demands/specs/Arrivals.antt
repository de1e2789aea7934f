-- Promise: what is said of a row section that is read as it arrives (document 02, "Read as it arrives"): calls one after the other, each given
-- the record that the one before left.
-- Assumes nothing.
use Rattle.std.specs.Prelude.{◌≡◌, List, [], ◌∷◌, ◌++◌, map, Bool, replicate}
use Rattle.wire.specs.Read.{Bytes}
use Rattle.feeding.specs.Answers.{Answer, Call, fragment, close, joined, any_close}
use Rattle.incremental.specs.declared.record.Reader.{Reader}
use Rattle.incremental.specs.Calls.{record_fed, answer_fed, record_closed, answer_closed}

-- the first record: zeros
abbrev pub first_record : Reader
first_record =
    record {
      stage = 0;
      code = 0;
      kind = 0;
      id = 0;
      paired = 0;
      rows = 0;
      at = 0;
      more = 0;
      column = 0;
      input = 0;
      filled = 0;
      mapped = 0;
      held = replicate 16 0;
      map = replicate 16 0;
    }

-- A call with a fragment, or with the end of the input: the record that it leaves, and what it answers.
abbrev pub record_after : (file : Bytes) → Reader → Call → Reader
record_after file r (fragment f) = record_fed file r f
record_after file r close = record_closed file r

abbrev pub answer_after : (file : Bytes) → Reader → Call → Answer
answer_after file r (fragment f) = answer_fed file r f
answer_after file r close = answer_closed file r

-- Calls, each with the same file: the record that the last leaves, what is answered to one more, and what is answered to each.
unfoldable pub last_record : (file : Bytes) → Reader → List Call → Reader
last_record file r [] = r
last_record file r (c ∷ cs) = last_record file (record_after file r c) cs

abbrev pub last_answer : (file : Bytes) → Reader → List Call → Call → Answer
last_answer file r cs c = answer_after file (last_record file r cs) c

unfoldable pub answers : (file : Bytes) → Reader → List Call → List Answer
answers file r [] = []
answers file r (c ∷ cs) = answer_after file r c ∷ answers file (record_after file r c) cs

-- the first call of some, the first two, and so on up to all
unfoldable pub firsts : List Call → List (List Call)
firsts [] = []
firsts (c ∷ cs) = (c ∷ []) ∷ map (λ (p : List Call). c ∷ p) (firsts cs)

-- Calls and one more bring these bytes, with a close among them or with none.
pub record Arrived (cs : List Call) (c : Call) (s : Bytes) (closed : Bool) : Type 0 where
  pub brings : joined (cs ++ (c ∷ [])) ≡ s
  pub ends : any_close (cs ++ (c ∷ [])) ≡ closed
