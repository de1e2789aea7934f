-- However the bytes of a section are cut, the reader that is fed answers what is written over the bytes joined.
-- Assumes nothing.
use Prim.Native.Nat.{ℕ, ◌≤◌, ◌<◌}
use mathlib.Core.List.{List, [], ◌∷◌, ◌++◌, append_assoc, append-nil}
use mathlib.Core.Bool.{Bool, true, false}
use mathlib.Core.Path.{◌≡◌, refl, sym, ap, ◌∙◌}
use native.Mathlib.Omega.{arith}
use lib.ListN.{length, take}
use lib.Seq.{length-take-le}
use lib.Dec.{leb, eqb}
use borrow.Author.Tests.{leb-true, leb-false, le-leb, ne_eqb}
use Rattle.wire.specs.declared.error.Input.{Input}
use Rattle.wire.specs.declared.error.Input.TheVariants as input
use Rattle.wire.specs.Read.{Bytes, Read, ok, bad, ◌>>=◌, pick, about, limit, sized}
use Rattle.wire.proofs.Laws.{sized_within}
use Rattle.wire.proofs.Pieces.{bad_ok, ok_ok}
use Rattle.tree.specs.Schemas.{Schema, read_schemas}
use Rattle.section.specs.Table.{rows_checked, row_count}
use Rattle.grammar.specs.Grammar.{Row}
use Rattle.grammar.specs.Reader.{section}
use Rattle.feeding.specs.Answers.{whole_rows, whole_in, whole_elements, Answer, going, complete, refused, said, said_with, so_far, past, answer_over, answer_so_far, answer_closed, Call, fragment, close, joined, any_close, answer_to}
use Rattle.feeding.specs.Machine.{State, between, keep, skip, finished, stopped, feed, start, closed}
use Rattle.feeding.specs.Feeding.{over, next, take_in, told, Reader, opened, completed, failed, first, standing, ending, tell, file_schemas, with_file, call, calls}
use Rattle.feeding.proofs.Fed.{section_count, whole_is_fed}
use Rattle.feeding.proofs.Prefixes.{stopped_not_one}
use Rattle.feeding.proofs.Fits.{stopped_stays, taken_within, taken_over}
use Rattle.feeding.proofs.Counts.{Going, rows_of, rows_so_far}

-- What is said of a section under schemas that were read, with a count in place of its own 1.
abbrev sofar : ℕ → Read ℕ → Answer
sofar n (ok m) = complete m
sofar n (bad code offset name) = pick (eqb code 1) (going n) (refused code offset input.Section)

abbrev so_far_in : List Schema → Bytes → Answer
so_far_in S s = sofar (whole_rows S s) (section_count S s)

unfoldable open_in : List Schema → Bytes → Answer
open_in S s = pick (leb (length s) limit) (so_far_in S s) (past (so_far_in S (take limit s)))

unfoldable closed_in : List Schema → Bytes → Answer
closed_in S s = pick (leb (length s) limit) (said (about input.Section (section_count S s))) (past (so_far_in S (take limit s)))

module _ (S : List Schema) where
  -- What is told where the state stands is what is said of the bytes so far.
  told_so_far : (s : Bytes) → told (feed S start s) ≡ so_far_in S s
  told_so_far s = go (feed S start s) refl ∙ ap (sofar (whole_rows S s)) (sym (whole_is_fed S s))
    where
      count : (st : State) → feed S start s ≡ st → Going st → going (rows_of st) ≡ going (whole_rows S s)
      count st e g =
          ap (λ (n : ℕ). going n) (ap rows_of (sym e) ∙ sym (rows_so_far S s (rw e g)))

      go : (st : State) → feed S start s ≡ st → told st ≡ sofar (whole_rows S s) (closed st)
      go (between n at before) e = count (between n at before) e tt
      go (keep n start held more g) e = count (keep n start held more g) e tt
      go (skip n at more k map j) e = count (skip n at more k map j) e tt
      go (finished n at) e = refl
      go (stopped c o i) e = rw (ne_eqb c 1 (stopped_not_one S s e))

  -- The limit.
  take_in_append : (st : State) (u v : Bytes) → take_in S st (u ++ v) ≡ take_in S (take_in S st u) v
  unfolding take_in
  take_in_append st [] v = refl
  take_in_append st (b ∷ u) v = take_in_append (next S st b) u v

  all_within : (s : Bytes) → length s ≤ limit → take_in S start s ≡ feed S start s
  all_within s h = taken_within S start s (omega arith)

  all_over : (s : Bytes) → limit < length s → take_in S start s ≡ over (feed S start (take limit s))
  all_over s h = taken_over S start s (omega arith)

  told_over : (st : State) → told (over st) ≡ past (told st)
  told_over (between n at before) = refl
  told_over (keep n start held more g) = refl
  told_over (skip n at more k map j) = refl
  told_over (finished n at) = refl
  told_over (stopped c o i) = refl

  closed_over : (st : State) → said (about input.Section (closed (over st))) ≡ told (over st)
  unfolding about
  closed_over (between n at before) = refl
  closed_over (keep n start held more g) = refl
  closed_over (skip n at more k map j) = refl
  closed_over (finished n at) = refl
  closed_over (stopped c o i) = refl

  -- Open, and closed.
  told_open : (s : Bytes) → told (take_in S start s) ≡ open_in S s
  unfolding open_in
  told_open s = go (leb (length s) limit) refl
    where
      go : (t : Bool) → leb (length s) limit ≡ t → told (take_in S start s) ≡ pick t (so_far_in S s) (past (so_far_in S (take limit s)))
      go true e = ap told (all_within s (leb-true _ _ e)) ∙ told_so_far s
      go false e =
          ap told (all_over s (leb-false _ _ e)) ∙ told_over (feed S start (take limit s)) ∙ ap past (told_so_far (take limit s))

  told_closed : (s : Bytes) → said (about input.Section (closed (take_in S start s))) ≡ closed_in S s
  unfolding closed_in
  told_closed s = go (leb (length s) limit) refl
    where
      go :
          (t : Bool) → leb (length s) limit ≡ t →
          said (about input.Section (closed (take_in S start s)))
          ≡ pick t (said (about input.Section (section_count S s))) (past (so_far_in S (take limit s)))
      go true e =
          ap (λ (r : Read ℕ). said (about input.Section r)) (ap closed (all_within s (leb-true _ _ e)) ∙ sym (whole_is_fed S s))
      go false e =
          ap (λ (st : State). said (about input.Section (closed st))) (all_over s (leb-false _ _ e))
          ∙ closed_over (feed S start (take limit s))
          ∙ told_over (feed S start (take limit s))
          ∙ ap past (told_so_far (take limit s))

pub no_going : {n c o : ℕ} {i : Input} → going n ≡ refused c o i → ⊥
no_going e = let z : ◌≡◌ {A = ℕ} 0 1 = cc in omega arith

pub no_complete : {n c o : ℕ} {i : Input} → complete n ≡ refused c o i → ⊥
no_complete e = let z : ◌≡◌ {A = ℕ} 0 1 = cc in omega arith

-- The whole reader under the schema file.
module _ (file : Bytes) where
  read_file_lem : (q : Read (Unit {0})) (r : Read (List Schema)) {S : List Schema} → (about input.Schema q >>= λ _. about input.Schema r) ≡ ok S → r ≡ ok S
  unfolding about
  read_file_lem (ok _) (ok T) e = e
  read_file_lem (ok _) (bad c o i) e = absurd (bad_ok e)
  read_file_lem (bad c o i) r e = absurd (bad_ok e)

  whole_elements_lem : {S : List Schema} → file_schemas file ≡ ok S → (s : Bytes) → whole_elements file s ≡ whole_rows S s
  unfolding file_schemas whole_elements
  whole_elements_lem e s = ap (λ (r : Read (List Schema)). whole_in r s) (read_file_lem (sized file) (read_schemas file) e)

  checked_under : {S : List Schema} → file_schemas file ≡ ok S → (s : Bytes) → length s ≤ limit → row_count (rows_checked file s) ≡ about input.Section (section_count S s)
  unfolding file_schemas rows_checked about
  checked_under {S} e s h = rw (sized_within s h) (go (sized file) (read_schemas file) e)
    where
      each : (r : Read (List Row)) → row_count (about input.Section r) ≡ about input.Section (row_count r)
      each (ok rs) = refl
      each (bad c o i) = refl

      go :
          (q : Read (Unit {0})) (r : Read (List Schema)) → (about input.Schema q >>= λ _. about input.Schema r) ≡ ok S →
          row_count (about input.Schema q >>= λ _. about input.Schema r >>= λ T. about input.Section (section T s)) ≡ about input.Section (section_count S s)
      go (ok _) (ok T) e = let z : T ≡ S = ok_ok e in ap (λ (x : List Schema). row_count (about input.Section (section x s))) z ∙ each (section S s)
      go (ok _) (bad c o i) e = absurd (bad_ok e)
      go (bad c o i) r e = absurd (bad_ok e)

  checked_bad :
      {c o : ℕ} {i : Input} → file_schemas file ≡ bad c o i → (s : Bytes) → length s ≤ limit → (row_count (rows_checked file s) ≡ bad c o i) × (i ≡ input.Schema)
  unfolding file_schemas rows_checked about
  checked_bad {c} {o} {i} e s h = rw (sized_within s h) (go (sized file) (read_schemas file) e)
    where
      go :
          (q : Read (Unit {0})) (r : Read (List Schema)) → (about input.Schema q >>= λ _. about input.Schema r) ≡ bad c o i →
          (row_count (about input.Schema q >>= λ _. about input.Schema r >>= λ T. about input.Section (section T s)) ≡ bad c o i) × (i ≡ input.Schema)
      go (ok _) (ok T) e = absurd (bad_ok (sym e))
      go (ok _) (bad d p j) e =
          let x : d ≡ c = cc in
          let y : p ≡ o = cc in
          let z : input.Schema ≡ i = cc in
          (ap (λ (u : ℕ). bad u p input.Schema) x ∙ ap (λ (u : ℕ). bad c u input.Schema) y ∙ ap (λ (u : Input). bad c o u) z, sym z)
      go (bad d p j) r e =
          let x : d ≡ c = cc in
          let y : p ≡ o = cc in
          let z : input.Schema ≡ i = cc in
          (ap (λ (u : ℕ). bad u p input.Schema) x ∙ ap (λ (u : ℕ). bad c u input.Schema) y ∙ ap (λ (u : Input). bad c o u) z, sym z)

  said_section : (n : ℕ) (r : Read ℕ) → said_with n (about input.Section r) ≡ sofar n r
  unfolding about
  said_section n (ok m) = refl
  said_section n (bad c o i) = go (eqb c 1)
    where
      go : (t : Bool) → pick (pick t true false) (going n) (refused c o input.Section) ≡ pick t (going n) (refused c o input.Section)
      go true = refl
      go false = refl

  so_far_in_lem : {S : List Schema} → file_schemas file ≡ ok S → (s : Bytes) → length s ≤ limit → so_far file s ≡ so_far_in S s
  unfolding so_far
  so_far_in_lem {S} e s h = rw (checked_under e s h, whole_elements_lem e s) (said_section (whole_rows S s) (section_count S s))

  so_far_bad : {c o : ℕ} {i : Input} → file_schemas file ≡ bad c o i → (s : Bytes) → length s ≤ limit → so_far file s ≡ refused c o i
  unfolding so_far
  so_far_bad {c} {o} {i} e s h =
      let (q, z) = checked_bad e s h in
      rw (q, z) (go (eqb c 1))
    where
      go : (t : Bool) → pick (pick t false false) (going (whole_elements file s)) (refused c o input.Schema) ≡ refused c o input.Schema
      go true = refl
      go false = refl

  short_take : (s : Bytes) → limit < length s → length (take limit s) ≤ limit
  short_take s h = omega (arith, length-take-le limit s (omega arith))

  open_in_lem : {S : List Schema} → file_schemas file ≡ ok S → (s : Bytes) → answer_so_far file s ≡ open_in S s
  unfolding answer_so_far answer_over open_in
  open_in_lem {S} e s = go (leb (length s) limit) refl
    where
      go :
          (t : Bool) → leb (length s) limit ≡ t →
          pick t (so_far file s) (past (so_far file (take limit s))) ≡ pick t (so_far_in S s) (past (so_far_in S (take limit s)))
      go true q = so_far_in_lem e s (leb-true _ _ q)
      go false q = ap past (so_far_in_lem e (take limit s) (short_take s (leb-false _ _ q)))

  closed_in_lem : {S : List Schema} → file_schemas file ≡ ok S → (s : Bytes) → answer_closed file s ≡ closed_in S s
  unfolding answer_closed answer_over closed_in
  closed_in_lem {S} e s = go (leb (length s) limit) refl
    where
      go :
          (t : Bool) → leb (length s) limit ≡ t →
          pick t (said (row_count (rows_checked file s))) (past (so_far file (take limit s)))
          ≡ pick t (said (about input.Section (section_count S s))) (past (so_far_in S (take limit s)))
      go true q = ap said (checked_under e s (leb-true _ _ q))
      go false q = ap past (so_far_in_lem e (take limit s) (short_take s (leb-false _ _ q)))

  open_bad : {c o : ℕ} {i : Input} → file_schemas file ≡ bad c o i → (s : Bytes) → answer_so_far file s ≡ refused c o i
  unfolding answer_so_far answer_over
  open_bad {c} {o} {i} e s = go (leb (length s) limit) refl
    where
      go : (t : Bool) → leb (length s) limit ≡ t → pick t (so_far file s) (past (so_far file (take limit s))) ≡ refused c o i
      go true q = so_far_bad e s (leb-true _ _ q)
      go false q = ap past (so_far_bad e (take limit s) (short_take s (leb-false _ _ q)))

  closed_bad : {c o : ℕ} {i : Input} → file_schemas file ≡ bad c o i → (s : Bytes) → answer_closed file s ≡ refused c o i
  unfolding answer_closed answer_over
  closed_bad {c} {o} {i} e s = go (leb (length s) limit) refl
    where
      go : (t : Bool) → leb (length s) limit ≡ t → pick t (said (row_count (rows_checked file s))) (past (so_far file (take limit s))) ≡ refused c o i
      go true q = ap said (checked_bad e s (leb-true _ _ q)).0
      go false q = ap past (so_far_bad e (take limit s) (short_take s (leb-false _ _ q)))

-- The calls.

-- an answer that stands
abbrev Ended : Reader → Type 0
Ended (opened st) = ⊥
Ended (completed n) = Unit {0}
Ended (failed code offset name) = Unit {0}

ended_stays : (file : Bytes) (r : Reader) (cs : List Call) → Ended r → calls file r cs ≡ r
unfolding calls call
ended_stays file r [] h = refl
ended_stays file (opened st) (c ∷ cs) h = absurd h
ended_stays file (completed n) (c ∷ cs) h = ended_stays file (completed n) cs h
ended_stays file (failed code offset name) (c ∷ cs) h = ended_stays file (failed code offset name) cs h

ending_ended : (r : Read ℕ) → Ended (ending r)
ending_ended (ok n) = tt
ending_ended (bad code offset name) = tt

tell_ending : (r : Read ℕ) → tell (ending r) ≡ said (about input.Section r)
unfolding about
tell_ending (ok n) = refl
tell_ending (bad code offset name) = refl

-- a reader that stands where a state does answers alike, whether it is open or has ended
stood :
    (file : Bytes) (S : List Schema) → file_schemas file ≡ ok S → (st : State) (cs : List Call) →
    tell (calls file (standing st) cs) ≡ tell (calls file (opened st) cs)
unfolding calls call
stood file S e (between n at before) cs = refl
stood file S e (keep n start held more g) cs = refl
stood file S e (skip n at more k map j) cs = refl
stood file S e (finished n at) cs = refl
stood file S e (stopped c o i) cs = ap tell (ended_stays file (failed c o input.Section) cs tt) ∙ sym (go cs)
  where
    go : (cs : List Call) → tell (calls file (opened (stopped c o i)) cs) ≡ refused c o input.Section
    go [] = refl
    go (fragment f ∷ cs) =
        ap (λ (r : Read (List Schema)). tell (calls file (with_file r (stopped c o i) (fragment f)) cs)) e
        ∙ ap (λ (st : State). tell (calls file (standing st) cs)) (stopped_stays S c o i f)
        ∙ ap tell (ended_stays file (failed c o input.Section) cs tt)
    go (close ∷ cs) =
        ap (λ (r : Read (List Schema)). tell (calls file (with_file r (stopped c o i) close) cs)) e
        ∙ ap tell (ended_stays file (failed c o input.Section) cs tt)

fed_calls :
    (file : Bytes) (S : List Schema) → file_schemas file ≡ ok S → (u : Bytes) (cs : List Call) →
    tell (calls file (opened (take_in S start u)) cs) ≡ pick (any_close cs) (closed_in S (u ++ joined cs)) (open_in S (u ++ joined cs))
unfolding calls call any_close joined
fed_calls file S e u [] = told_open S u ∙ ap (open_in S) (sym (append-nil u))
fed_calls file S e u (fragment f ∷ cs) =
    ap (λ (r : Read (List Schema)). tell (calls file (with_file r (take_in S start u) (fragment f)) cs)) e
    ∙ ap (λ (st : State). tell (calls file (standing st) cs)) (sym (take_in_append S start u f))
    ∙ stood file S e (take_in S start (u ++ f)) cs
    ∙ fed_calls file S e (u ++ f) cs
    ∙ ap (λ (x : Bytes). pick (any_close cs) (closed_in S x) (open_in S x)) (append_assoc u f (joined cs))
fed_calls file S e u (close ∷ cs) =
    ap (λ (r : Read (List Schema)). tell (calls file (with_file r (take_in S start u) close) cs)) e
    ∙ ap tell (ended_stays file (ending (closed (take_in S start u))) cs (ending_ended (closed (take_in S start u))))
    ∙ tell_ending (closed (take_in S start u))
    ∙ told_closed S u
    ∙ ap (closed_in S) (sym (append-nil u))

file_refused :
    (file : Bytes) (code offset : ℕ) (name : Input) → file_schemas file ≡ bad code offset name → (c : Call) (cs : List Call) →
    tell (calls file first (c ∷ cs)) ≡ refused code offset name
unfolding calls call
file_refused file code offset name e c cs =
    ap (λ (r : Read (List Schema)). tell (calls file (with_file r start c) cs)) e ∙ ap tell (ended_stays file (failed code offset name) cs tt)

pick_same : {A : Type 0} (t : Bool) (a : A) → pick t a a ≡ a
pick_same true a = refl
pick_same false a = refl

-- After every call, however the bytes are cut, the answer is the one that is written over the bytes joined.
pub fed_answers : (file : Bytes) (c : Call) (cs : List Call) → tell (calls file first (c ∷ cs)) ≡ answer_to file (c ∷ cs)
unfolding answer_to take_in
fed_answers file c cs = go (file_schemas file) refl
  where
    go : (r : Read (List Schema)) → file_schemas file ≡ r → tell (calls file first (c ∷ cs)) ≡ pick (any_close (c ∷ cs)) (answer_closed file (joined (c ∷ cs))) (answer_so_far file (joined (c ∷ cs)))
    go (ok S) e = fed_calls file S e [] (c ∷ cs) ∙ sym (rw (closed_in_lem file e (joined (c ∷ cs)), open_in_lem file e (joined (c ∷ cs))))
    go (bad code offset name) e =
        file_refused file code offset name e c cs
        ∙ sym (rw (closed_bad file e (joined (c ∷ cs)), open_bad file e (joined (c ∷ cs))) (pick_same (any_close (c ∷ cs)) (refused code offset name)))

-- Within the limit the answer of a close is the whole reader's.
pub closed_is_whole : (file s : Bytes) → length s ≤ limit → answer_closed file s ≡ said (row_count (rows_checked file s))
unfolding answer_closed
closed_is_whole file s h = rw (le-leb (length s) limit h)

-- A refusal is never taken back.
module _ (S : List Schema) where
  told_refused : (st : State) {c o : ℕ} {i : Input} → told st ≡ refused c o i → (v : Bytes) → told (take_in S st v) ≡ refused c o i
  told_refused (between n at before) e v = absurd (no_going e)
  told_refused (keep n start held more g) e v = absurd (no_going e)
  told_refused (skip n at more k map j) e v = absurd (no_going e)
  told_refused (finished n at) e v = absurd (no_complete e)
  told_refused (stopped d p j) e v = ap told (stopped_stays S d p j v) ∙ e

  open_stands : (s t : Bytes) {c o : ℕ} {i : Input} → open_in S s ≡ refused c o i → open_in S (s ++ t) ≡ refused c o i
  open_stands s t e =
      sym (told_open S (s ++ t)) ∙ ap told (take_in_append S start s t) ∙ told_refused (take_in S start s) (told_open S s ∙ e) t

pub refused_stands : (file s t : Bytes) {c o : ℕ} {i : Input} → answer_so_far file s ≡ refused c o i → answer_so_far file (s ++ t) ≡ refused c o i
refused_stands file s t {c} {o} {i} e = go (file_schemas file) refl
  where
    go : (r : Read (List Schema)) → file_schemas file ≡ r → answer_so_far file (s ++ t) ≡ refused c o i
    go (ok S) q = open_in_lem file q (s ++ t) ∙ open_stands S s t (sym (open_in_lem file q s) ∙ e)
    go (bad d p j) q = open_bad file q (s ++ t) ∙ sym (open_bad file q s) ∙ e

-- Two ways to cut the same bytes have the same last answer.
pub cut_anyhow :
    (file : Bytes) (c d : Call) (cs ds : List Call) → joined (c ∷ cs) ≡ joined (d ∷ ds) → any_close (c ∷ cs) ≡ any_close (d ∷ ds) →
    tell (calls file first (c ∷ cs)) ≡ tell (calls file first (d ∷ ds))
unfolding answer_to
cut_anyhow file c d cs ds e f =
    fed_answers file c cs
    ∙ ap (λ (s : Bytes). pick (any_close (c ∷ cs)) (answer_closed file s) (answer_so_far file s)) e
    ∙ ap (λ (t : Bool). pick t (answer_closed file (joined (d ∷ ds))) (answer_so_far file (joined (d ∷ ds)))) f
    ∙ sym (fed_answers file d ds)

-- A section that is fed whole and closed is answered as by the whole reader.
pub whole_and_close :
    (file s : Bytes) → length s ≤ limit → tell (calls file first (fragment s ∷ close ∷ [])) ≡ said (row_count (rows_checked file s))
unfolding answer_to any_close joined
whole_and_close file s h =
    fed_answers file (fragment s) (close ∷ []) ∙ ap (answer_closed file) (append-nil s) ∙ closed_is_whole file s h
