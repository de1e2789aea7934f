-- Promise: errors: the number that document 01 gives each kind (its table of refusals), and a number for each input's name.
-- Assumes nothing.
use Rattle.std.specs.Prelude.{ℕ, ◌≡◌, ◌<◌, ◌⊎◌, Result, MatchResult}
use Rattle.wire.specs.declared.error.ErrorKind.{ErrorKind}
use Rattle.wire.specs.declared.error.ErrorKind.TheVariants as kind
use Rattle.wire.specs.declared.error.Input.{Input}
use Rattle.wire.specs.declared.error.Input.TheVariants as input
use Rattle.wire.specs.declared.error.UnknownCode.{UnknownCode}

-- the paper's number of a kind
abbrev pub code_of : ErrorKind → ℕ
code_of kind.Short = 1
code_of kind.Constant = 2
code_of kind.Value = 3
code_of kind.OptionsSize = 4
code_of kind.NumberForm = 5
code_of kind.Range = 6
code_of kind.Limit = 7
code_of kind.RepeatedId = 8
code_of kind.UnknownToken = 9
code_of kind.UnknownId = 10
code_of kind.Unpaired = 11
code_of kind.ChapterBit = 12
code_of kind.ForceNull = 13
code_of kind.Length = 14
code_of kind.Trailing = 15
code_of kind.Capacity = 16
code_of kind.PlanMismatch = 17
code_of kind.Missing = 18
code_of kind.TooLarge = 19
code_of kind.Entry = 20

-- the kind with this number, or an error where no kind has it
abbrev pub Decodes : ℕ → Result ErrorKind UnknownCode → Type 0
Decodes code r = MatchResult r (λ k. code_of k ≡ code) (λ e. (e.0 ≡ code) × (code ≡ 0 ⊎ 20 < code))

-- the number that stands for an input's name outside: 0 where the call has one input, which has no name
abbrev pub input_number : Input → ℕ
input_number input.Single = 0
input_number input.Schema = 1
input_number input.SchemaNumber = 2
input_number input.Row = 3
input_number input.Update = 4
input_number input.Column = 5
input_number input.Section = 6
input_number input.Table = 7
input_number input.Output = 8
input_number input.Plan = 9
input_number input.Entries = 10
input_number input.Values = 11
input_number input.Place = 12
input_number input.Numbers = 13
input_number input.Order = 14
input_number input.Unicode = 15
input_number input.FirstString = 16
input_number input.SecondString = 17
input_number input.ThirdString = 18
input_number input.Async = 19
input_number input.ChildId = 20
input_number input.Reader = 21
