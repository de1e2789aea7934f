-- What making and comparing plans promise, by what was read of the file.
-- Assumes nothing.
use mathlib.Core.Path.{◌≡◌, refl, sym, ap, ◌∙◌}
use mathlib.Core.List.{List}
use Rattle.wire.specs.declared.error.Error.{Error}
use Rattle.std.specs.Prelude.{Result, Ok, Err}
use Rattle.wire.specs.Read.{Read, ok, bad, refused, told, ◌>>=◌}
use Rattle.wire.proofs.Pieces.{bad_ok, ok_ok}
use Rattle.column.specs.declared.column.Column.{Column}
use Rattle.plan.specs.declared.plan.Plan.{Plan}
use Rattle.plan.specs.Plans.{plan_of}
use Rattle.plan.specs.Compare.{Compared}
use Rattle.adtg.specs.Plans.{Checked, MadeInto, plan_after}

-- an error leaves the plan that was lent
pub made_refused : {made : Read Plan} {entry : Plan} (e : Error) → made ≡ refused e → MadeInto made entry entry (Err e)
made_refused {entry = entry} e a =
    record {
      answers = sym (ap (λ (r : Read Plan). r >>= λ q. ok tt) a);
      leaves = sym (ap (λ (r : Read Plan). plan_after r entry) a);
    }

-- else it is the plan that was made
pub made_found : {made : Read Plan} {entry exit : Plan} → made ≡ ok exit → MadeInto made entry exit (Ok tt)
made_found {entry = entry} a =
    record {
      answers = sym (ap (λ (r : Read Plan). r >>= λ q. ok tt) a);
      leaves = sym (ap (λ (r : Read Plan). plan_after r entry) a);
    }

-- what is told by a plan that was made into one that was lent
pub made_ok : {made : Read Plan} {entry exit : Plan} {answer : Result (Unit {0}) Error} → MadeInto made entry exit answer → answer ≡ Ok tt → ok exit ≡ made
made_ok {made} {entry} {exit} m a = go made refl
  where
    go : (r : Read Plan) → made ≡ r → ok exit ≡ made
    go (ok p) e = ap ok (m.leaves ∙ ap (λ (r : Read Plan). plan_after r entry) e) ∙ sym e
    go (bad code offset about) e = absurd (bad_ok (sym (ap (λ (r : Read Plan). r >>= λ q. ok tt) e) ∙ sym m.answers ∙ ap told a))

pub made_err :
    {made : Read Plan} {entry exit : Plan} {answer : Result (Unit {0}) Error} (x : Error) → MadeInto made entry exit answer → answer ≡ Err x → refused x ≡ made
made_err {made} {entry} x m a = go made refl
  where
    go : (r : Read Plan) → made ≡ r → refused x ≡ made
    go (ok p) e = absurd (bad_ok (sym (ap told a) ∙ m.answers ∙ ap (λ (r : Read Plan). r >>= λ q. ok tt) e))
    go (bad code offset about) e =
        ap (λ (r : Read (Unit {0})). r >>= λ u. made) (sym (ap told a) ∙ m.answers ∙ ap (λ (r : Read Plan). r >>= λ q. ok tt) e) ∙ sym e

-- no plan is accepted where none is made
pub checked_refused : (p : Plan) {made : Read Plan} (e : Error) → made ≡ refused e → Checked p made (refused e)
checked_refused p e a =
    record {
      errors = λ h. ap (λ (r : Read Plan). r >>= λ q. ok tt) (sym a ∙ h);
      accepts = λ h. absurd (bad_ok h);
      equal = λ h. absurd (bad_ok (sym a ∙ h));
      differs = λ q h n. absurd (bad_ok (sym a ∙ h));
    }

-- else it is compared with the plan of the columns
pub checked_found :
    (p : Plan) {made : Read Plan} (cs : List Column) {answer : Read (Unit {0})} → made ≡ ok (plan_of cs) → Compared p cs answer → Checked p made answer
checked_found p cs a d =
    record {
      errors = λ h. absurd (bad_ok (sym h ∙ a));
      accepts = λ h. a ∙ ap ok (sym (d.accepts h));
      equal = λ h. d.equal (ok_ok (sym h ∙ a));
      differs = λ q h n. d.refuses (λ e. n (e ∙ ok_ok (sym a ∙ h)));
    }
