-- What a row writer with a schema file leaves where a `?` ends it early: nothing.
-- Assumes nothing.
use Rattle.std.specs.Prelude.{Result, Ok, Err}
use Rattle.std.specs.Result.{IsErrAnd}
use Prim.Native.Nat.{ℕ}
use mathlib.Core.Path.{◌≡◌, sym, ap, ◌∙◌}
use Rattle.wire.specs.declared.error.Error.{Error}
use Rattle.wire.specs.Read.{Bytes, Read, refused}
use Rattle.wire.specs.Output.{size_of}
use Rattle.encode.specs.Writers.{output_with, WroteAt}

pub wrote_exit :
    (row : Read Bytes) (place : ℕ) (out : Bytes) (r : Result ℕ Error) (e : Error) → IsErrAnd r (λ d. d ≡ e) → row ≡ refused e → WroteAt row place out out r
unfolding size_of output_with
wrote_exit row place out (Ok n) e same h = elim same [ ]
wrote_exit row place out (Err d) e same h =
    let z = h ∙ ap refused (sym same) in
    record {
      answers = ap size_of (sym z);
      leaves = ap (λ (r : Read Bytes). output_with r place out) (sym z);
    }

-- the same row, said otherwise
pub wrote_same :
    {row other : Read Bytes} {place : ℕ} {entry exit : Bytes} {answer : Result ℕ Error} → WroteAt row place entry exit answer → row ≡ other →
    WroteAt other place entry exit answer
wrote_same {place = place} {entry = entry} w e =
    record {
      answers = w.answers ∙ ap size_of e;
      leaves = w.leaves ∙ ap (λ (r : Read Bytes). output_with r place entry) e;
    }
