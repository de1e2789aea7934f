-- The calls of a reader: what a record says, what a call makes of it, and how far a fragment is taken in.
-- Assumes nothing.
use Rattle.std.specs.Prelude.{Result, Ok, Err, IsErrAnd}
use mathlib.Core.Logic.{◌⊎◌, inl, inr}
use Prim.Native.Nat.{ℕ, ◌+◌, ◌-◌, ◌≤◌, ◌<◌, min}
use mathlib.Core.List.{List, [], ◌∷◌}
use mathlib.Core.Bool.{Bool, true, false}
use mathlib.Core.Path.{◌≡◌, refl, sym, ap, subst, ◌∙◌}
use native.Mathlib.Omega.{arith}
use lib.ListN.{length, take}
use lib.Seq.{length-take-le, take_all}
use lib.Dec.{leb, ltb, eqb}
use borrow.Author.Tests.{eq-eqb, ne_eqb, le-leb, lt-ltb, le-ltb, lt-leb, leb-true, leb-false, ltb-true, eqb-true, eqb-false}
use Rattle.wire.specs.declared.error.Error.{Error}
use Rattle.wire.specs.declared.error.ErrorKind.{ErrorKind}
use Rattle.wire.specs.declared.error.ErrorKind.TheVariants as kind
use Rattle.wire.specs.declared.error.Input.{Input}
use Rattle.wire.specs.declared.error.Input.TheVariants as input
use Rattle.wire.specs.Errors.{code_of}
use Rattle.wire.specs.Read.{Bytes, AreBytes, Read, ok, bad, pick, about, limit, refused}
use Rattle.wire.specs.Read.{told as result_told}
use Rattle.schema.specs.Told.{told_place}
use Rattle.wire.proofs.Laws.{sized_over, sized_within}
use Rattle.wire.proofs.Pieces.{bad_ok, ok_ok}
use Rattle.tree.specs.Schemas.{Schema, read_schemas}
use Rattle.tree.specs.Filling.{fill_file}
use Rattle.schema.specs.declared.reader.Place.{Place}
use Rattle.schema.specs.Told.{placed, blank}
use Rattle.section.proofs.Sound.{schemas_of_lem, sound_of, columns_of, file_bad}
use Rattle.feeding.specs.Answers.{going, complete, Call, fragment, close}
use Rattle.feeding.specs.Machine.{State, stopped, settle, feed, closed}
use Rattle.feeding.specs.Feeding.{total, over, take_in, opened, completed, failed, standing, ending, told, tell, call_in, file_schemas, call}
use Rattle.feeding.specs.Feeding.{Reader as Standing}
use Rattle.feeding.proofs.Fits.{taken_within, taken_over}
use Rattle.incremental.specs.declared.record.Reader.{Reader}
use Rattle.incremental.specs.declared.feed.Fed.{Fed}
use Rattle.incremental.specs.declared.feed.Next.{Next}
use Rattle.incremental.specs.Record.{input_in, state_in, fits, known_code, reader_in, state_of, record_of}
use Rattle.incremental.specs.Calls.{record_fed, answer_fed, record_closed, answer_closed, told_fed}
use Rattle.incremental.specs.Steps.{place_in, Sane, Stands, Left, Tells, Slotted, FileRead}
use Rattle.incremental.proofs.StateLaws.{state_between, state_piece, state_body, state_finished, place_between, place_piece, place_late, state_stopped}
use Rattle.incremental.specs.declared.feed.Fed.TheVariants as fed

-- The record of a state, by its stage.
data Open (r : Reader) : Type 0 where
  at_token : r.stage ≡ 0 → Open r
  at_piece : 1 ≤ r.stage → r.stage ≤ 5 → Open r
  at_body : r.stage ≡ 6 → Open r
  at_end : r.stage ≡ 7 → Open r

open_by : (r : Reader) → r.stage ≤ 7 → Open r
open_by r h = go (eqb r.stage 0) refl (leb r.stage 5) refl (eqb r.stage 6) refl
  where
    go :
        (t : Bool) → eqb r.stage 0 ≡ t → (u : Bool) → leb r.stage 5 ≡ u → (v : Bool) → eqb r.stage 6 ≡ v → Open r
    go true e u f v g = at_token (eqb-true _ _ e)
    go false e true f v g = at_piece (let n : r.stage ≡ 0 → ⊥ = eqb-false _ _ e in omega arith) (leb-true _ _ f)
    go false e false f true g = at_body (eqb-true _ _ g)
    go false e false f false g =
        let n : r.stage ≡ 6 → ⊥ = eqb-false _ _ g in
        let l : 5 < r.stage = leb-false _ _ f in
        at_end (omega arith)

-- Tests one after the other.
both : (t : Bool) {u : Bool} → pick t u false ≡ true → (t ≡ true) × (u ≡ true)
both true e = (refl, e)
both false e = let z : true ≡ false = sym e in (sym z, cc)

either : {t u v : Bool} → pick t (pick u v true) true ≡ true → t ≡ true → u ≡ true → v ≡ true
either {t} {u} {v} e p q = rw (p, q) at e

-- Such a record.
module _ (r : Reader) where
  total_open : Open r → length r.held ≡ 16 → Sane r (place_in r) → total (state_in r) ≡ place_in r
  total_open (at_token e) w s = ap total (state_between r e) ∙ sym (place_between r e)
  total_open (at_piece l h) w s =
      let k : r.filled + r.more ≤ 15 = s.kept l h in
      let m : r.filled ≤ length r.held = omega arith in
      ap total (state_piece r l h) ∙ ap (λ (n : ℕ). r.at + n) (length-take-le r.filled r.held m) ∙ sym (place_piece r l h)
  total_open (at_body e) w s = ap total (state_body r e) ∙ sym (place_late r (omega arith))
  total_open (at_end e) w s = ap total (state_finished r e) ∙ sym (place_late r (omega arith))

  over_open : Open r → over (state_in r) ≡ stopped 19 0 input.Single
  over_open (at_token e) = ap over (state_between r e)
  over_open (at_piece l h) = ap over (state_piece r l h)
  over_open (at_body e) = ap over (state_body r e)
  over_open (at_end e) = ap over (state_finished r e)

  standing_open : Open r → standing (state_in r) ≡ opened (state_in r)
  standing_open (at_token e) = ap standing (state_between r e) ∙ ap opened (sym (state_between r e))
  standing_open (at_piece l h) = ap standing (state_piece r l h) ∙ ap opened (sym (state_piece r l h))
  standing_open (at_body e) = ap standing (state_body r e) ∙ ap opened (sym (state_body r e))
  standing_open (at_end e) = ap standing (state_finished r e) ∙ ap opened (sym (state_finished r e))

  told_open : Open r → (r.stage ≡ 7 → ⊥) → told (state_in r) ≡ going r.rows
  told_open (at_token e) n = ap told (state_between r e)
  told_open (at_piece l h) n = ap told (state_piece r l h)
  told_open (at_body e) n = ap told (state_body r e)
  told_open (at_end e) n = absurd (n e)

  -- Where the input ends too soon.
  closed_open : Open r → (r.stage ≡ 7 → ⊥) → closed (state_in r) ≡ bad 1 (total (state_in r)) input.Single
  closed_open (at_token e) n = rw (state_between r e)
  closed_open (at_piece l h) n = rw (state_piece r l h)
  closed_open (at_body e) n = rw (state_body r e)
  closed_open (at_end e) n = absurd (n e)

  -- What a record says.
  pub reader_closed : r.stage ≡ 9 → reader_in r ≡ completed r.rows
  unfolding reader_in
  reader_closed e = let n : r.stage ≡ 8 → ⊥ = λ f. omega arith in rw (ne_eqb _ _ n, eq-eqb _ _ e)

  pub reader_refused : r.stage ≡ 8 → known_code r.code ≡ true → reader_in r ≡ failed r.code r.at (input_in r.input)
  unfolding reader_in
  reader_refused e k = rw (eq-eqb _ _ e, k)

  pub reader_unknown : r.stage ≡ 8 → known_code r.code ≡ false → reader_in r ≡ failed 18 0 input.Reader
  unfolding reader_in
  reader_unknown e k = rw (eq-eqb _ _ e, k)

  pub reader_none : 8 ≤ r.stage → (r.stage ≡ 8 → ⊥) → (r.stage ≡ 9 → ⊥) → reader_in r ≡ failed 18 0 input.Reader
  unfolding reader_in
  reader_none l n m = rw (ne_eqb _ _ n, ne_eqb _ _ m, le-ltb _ _ l)

  reader_unfit : r.stage < 8 → fits r ≡ false → reader_in r ≡ failed 18 0 input.Reader
  unfolding reader_in
  reader_unfit l e =
      let n : r.stage ≡ 8 → ⊥ = λ f. omega arith in
      let m : r.stage ≡ 9 → ⊥ = λ f. omega arith in
      rw (ne_eqb _ _ n, ne_eqb _ _ m, lt-ltb _ _ l, e)

  reader_open : r.stage < 8 → fits r ≡ true → reader_in r ≡ opened (state_in r)
  unfolding reader_in
  reader_open l e =
      let n : r.stage ≡ 8 → ⊥ = λ f. omega arith in
      let m : r.stage ≡ 9 → ⊥ = λ f. omega arith in
      rw (ne_eqb _ _ n, ne_eqb _ _ m, lt-ltb _ _ l, e)

  -- A record that fits is that of a state, with its place in range.
  pub fits_sane : r.stage < 8 → fits r ≡ true → Sane r (place_in r) × (r.at ≤ 16777216)
  unfolding fits
  fits_sane l e =
      let (a, e1) = both (leb r.rows r.at) e in
      let (b, e2) = both (leb r.at limit) e1 in
      let (m, e3) = both (leb r.mapped 16) e2 in
      let (c, e4) = both (leb r.column 64) e3 in (
        record {
          stage = omega arith;
          rows = leb-true _ _ a;
          comes = refl;
          mapped = leb-true _ _ m;
          column = leb-true _ _ c;
          token = λ p q. leb-true _ _ (piece e4 p q).0;
          below = λ p q. ltb-true _ _ (piece e4 p q).1;
          kept = λ p q. leb-true _ _ (piece e4 p q).2;
        },
        leb-true _ _ b,
      )
    where
      piece :
          pick (leb 1 r.stage)
          (pick (leb r.stage 5) (pick (leb 1 r.at) (pick (ltb r.column 64) (leb (r.filled + r.more) 15) false) false) true)
          true
          ≡ true →
          1 ≤ r.stage → r.stage ≤ 5 → (leb 1 r.at ≡ true) × (ltb r.column 64 ≡ true) × (leb (r.filled + r.more) 15 ≡ true)
      piece e p q =
          let (a, f) = both (leb 1 r.at) (either e (le-leb 1 r.stage p) (le-leb r.stage 5 q)) in
          let (b, g) = both (ltb r.column 64) f in
          (a, b, g)

  -- What a call makes of it.
  module _ (file : Bytes) (c : Call) where
    pub call_stands : 8 ≤ r.stage → call file (reader_in r) c ≡ reader_in r
    unfolding call
    call_stands l = go (eqb r.stage 8) refl (eqb r.stage 9) refl (known_code r.code) refl
      where
        go :
            (t : Bool) → eqb r.stage 8 ≡ t → (u : Bool) → eqb r.stage 9 ≡ u → (v : Bool) → known_code r.code ≡ v →
            call file (reader_in r) c ≡ reader_in r
        go true e u f true g = rw (reader_refused (eqb-true _ _ e) g)
        go true e u f false g = rw (reader_unknown (eqb-true _ _ e) g)
        go false e true f v g = rw (reader_closed (eqb-true _ _ f))
        go false e false f v g = rw (reader_none l (eqb-false _ _ e) (eqb-false _ _ f))

    pub call_unfit : r.stage < 8 → fits r ≡ false → call file (reader_in r) c ≡ failed 18 0 input.Reader
    unfolding call
    call_unfit l e = rw (reader_unfit l e)

    module _ (l : r.stage < 8) (e : fits r ≡ true) where
      pub call_refused : (q : Error) → file_schemas file ≡ refused q → call file (reader_in r) c ≡ failed (code_of q.kind) q.offset q.input
      unfolding call
      call_refused q h = rw (reader_open l e, h)

      pub call_read : (S : List Schema) → file_schemas file ≡ ok S → call file (reader_in r) c ≡ call_in S (state_in r) c
      unfolding call
      call_read S h = rw (reader_open l e, h)

  -- The end of the input.
  pub ending_complete : r.stage ≡ 7 → ending (closed (state_in r)) ≡ completed r.rows
  ending_complete e = rw (state_finished r e)

  pub ending_short :
      (place : ℕ) → place ≡ place_in r → r.stage < 8 → (r.stage ≡ 7 → ⊥) → length r.held ≡ 16 → Sane r (place_in r) →
      ending (closed (state_in r)) ≡ failed 1 place input.Section
  ending_short place p l n w s =
      let o : Open r = open_by r (omega arith) in
      ap ending (closed_open o n ∙ ap (λ (q : ℕ). bad 1 q input.Single) (total_open o w s ∙ sym p))

  -- What a state answers.
  pub tells_open :
      (st : State) (a : Reader) (f : Fed) → Left st (Ok r) → a ≡ state_of (state_in r) → told_fed (Ok f) ≡ pick (eqb r.stage 7) (complete r.rows) (going r.rows) →
      Tells (standing st) (record { reader = a; answer = Ok f })
  unfolding record_of
  tells_open st a f t h g =
      let o : Open r = open_by r t.sane.stage in
      record {
        keeps = h ∙ ap record_of (sym (standing_open o)) ∙ ap (λ (x : State). record_of (standing x)) t.state;
        answers = g ∙ go (eqb r.stage 7) refl ∙ ap tell (sym (standing_open o)) ∙ ap (λ (x : State). tell (standing x)) t.state;
      }
    where
      go : (b : Bool) → eqb r.stage 7 ≡ b → pick b (complete r.rows) (going r.rows) ≡ told (state_in r)
      go true e = sym (ap told (state_finished r (eqb-true _ _ e)))
      go false e = sym (told_open (open_by r t.sane.stage) (eqb-false _ _ e))

  pub tells_refused : {n : Next} → r.stage ≡ 8 → Tells (failed r.code r.at input.Section) n → Tells (standing (state_in r)) n
  tells_refused e t = rw (state_stopped r (omega arith)) t

  pub tells_complete : (a : Reader) → r.stage ≡ 7 → a ≡ state_of (state_in r) → Tells (standing (state_in r)) (record { reader = a; answer = Ok (fed.Complete r.rows) })
  unfolding record_of
  tells_complete a e h =
      record {
        keeps = h ∙ ap record_of (sym (standing_open (at_end e)));
        answers = sym (rw (state_finished r e));
      }

  pub tells_going :
      (a : Reader) → r.stage ≤ 7 → (r.stage ≡ 7 → ⊥) → a ≡ state_of (state_in r) →
      Tells (standing (state_in r)) (record { reader = a; answer = Ok (fed.Going r.rows) })
  unfolding record_of
  tells_going a l n h =
      let o : Open r = open_by r l in
      record {
        keeps = h ∙ ap record_of (sym (standing_open o));
        answers = sym (ap tell (standing_open o) ∙ told_open o n);
      }

-- The numbers of kinds are those of refusals.
pub code_known : (k : ErrorKind) {code : ℕ} → code_of k ≡ code → known_code code ≡ true
code_known k {code} e = rw (← e) (go k)
  where
    go : (k : ErrorKind) → known_code (code_of k) ≡ true
    go kind.Short = refl
    go kind.Constant = refl
    go kind.Value = refl
    go kind.OptionsSize = refl
    go kind.NumberForm = refl
    go kind.Range = refl
    go kind.Limit = refl
    go kind.RepeatedId = refl
    go kind.UnknownToken = refl
    go kind.UnknownId = refl
    go kind.Unpaired = refl
    go kind.ChapterBit = refl
    go kind.ForceNull = refl
    go kind.Length = refl
    go kind.Trailing = refl
    go kind.Capacity = refl
    go kind.PlanMismatch = refl
    go kind.Missing = refl
    go kind.TooLarge = refl
    go kind.Entry = refl

pub code_unknown : (code : ℕ) → (code ≡ 0) ⊎ (20 < code) → known_code code ≡ false
code_unknown code (inl e) = rw e refl
code_unknown code (inr l) = go (leb 1 code)
  where
    go : (t : Bool) → pick t (leb code 20) false ≡ false
    go true = lt-leb _ _ l
    go false = refl

-- what a `?` ends early
pub left_exit : (st : State) (r : Result Reader Error) (e : Error) → IsErrAnd r (λ d. d ≡ e) → settle (refused e) ≡ st → Left st r
left_exit st (Ok _) e same h = elim same [ ]
left_exit st (Err d) e same h = ap (λ (x : Error). settle (refused x)) same ∙ h

-- A fragment taken in.
module _ (S : List Schema) (r : Reader) (f : Bytes) (w : length r.held ≡ 16) (s : Sane r (place_in r)) where
  from_place : total (state_in r) ≡ place_in r
  from_place = total_open r (open_by r s.stage) w s

  pub taken_none : length f ≡ 0 → take_in S (state_in r) f ≡ state_in r
  unfolding take_in
  taken_none e = go f e
    where
      go : (g : Bytes) → length g ≡ 0 → take_in S (state_in r) g ≡ state_in r
      go [] e = refl
      go (b ∷ g) e = absurd (omega arith)

  pub taken_full : limit ≤ place_in r → 0 < length f → stopped 19 0 input.Single ≡ take_in S (state_in r) f
  unfolding feed
  taken_full h l =
      let z : limit - total (state_in r) ≡ 0 = omega (arith, from_place) in
      sym
      (taken_over S (state_in r) f (omega arith)
      ∙ ap (λ (n : ℕ). over (feed S (state_in r) (take n f))) z
      ∙ over_open r (open_by r s.stage))

  -- as much as there is room for
  module _ (size : ℕ) (p : size ≡ min (length f) (limit - place_in r)) where
    over_room : size < length f → take_in S (state_in r) f ≡ over (feed S (state_in r) (take size f))
    over_room h =
        let z : limit - total (state_in r) ≡ size = omega (arith, from_place) in
        taken_over S (state_in r) f (omega arith) ∙ ap (λ (n : ℕ). over (feed S (state_in r) (take n f))) z

    within_room : length f ≤ size → take_in S (state_in r) f ≡ feed S (state_in r) (take size f)
    within_room h = taken_within S (state_in r) f (omega (arith, from_place)) ∙ ap (feed S (state_in r)) (sym (take_all size f h))

    pub taken_stopped : {c o : ℕ} {i : Input} → stopped c o i ≡ feed S (state_in r) (take size f) → stopped c o i ≡ take_in S (state_in r) f
    taken_stopped {c} {o} {i} e = go (leb (length f) size) refl
      where
        go : (t : Bool) → leb (length f) size ≡ t → stopped c o i ≡ take_in S (state_in r) f
        go true h = e ∙ sym (within_room (leb-true _ _ h))
        go false h = ap over e ∙ sym (over_room (leb-false _ _ h))

    module _ (a : Reader) {to : ℕ} (t : Stands (feed S (state_in r) (take size f)) to a) where
      pub taken_all : length f ≤ size → Left (take_in S (state_in r) f) (Ok a)
      taken_all h = record { state = t.state ∙ sym (within_room h); sane = rw (sym t.sane.comes) at t.sane }

      pub taken_cut : size < length f → stopped 19 0 input.Single ≡ take_in S (state_in r) f
      taken_cut h = sym (over_room h ∙ ap over (sym t.state) ∙ over_open a (open_by a t.sane.stage))

-- The schema file.
same_error : Read Place → Read (List Schema)
same_error (ok p) = ok []
same_error (bad c o i) = bad c o i

module _ (file : Bytes) where
  pub file_large : limit < length file → file_schemas file ≡ bad 19 0 input.Schema
  unfolding file_schemas about
  file_large h = rw (sized_over file h) refl

  module _ (h : length file ≤ limit) where
    pub file_refused : (e : Error) → read_schemas file ≡ refused e → file_schemas file ≡ bad (code_of e.kind) e.offset input.Schema
    unfolding file_schemas about
    file_refused e q = rw (sized_within file h, q) refl

    pub file_read : (S : List Schema) → read_schemas file ≡ ok S → file_schemas file ≡ ok S
    unfolding file_schemas about
    file_read S q = rw (sized_within file h, q) refl

    file_slotted : (table : List ℕ) (p : Place) → AreBytes file → fill_file file blank ≡ ok (placed p table) → Slotted file table p
    file_slotted table p bytes e =
        let columns = columns_of file table p bytes e in
        let sound = sound_of file table p bytes e in
        record {
          reads = file_read _ (schemas_of_lem file table p bytes e);
          sound = sound;
          columns = columns;
          few = omega (arith, columns, sound.total);
        }

    -- What the reader of a file answers, about the schema file.
    pub file_told :
        (table : List ℕ) (read answer : Result Place Error) → AreBytes file → told_place read table ≡ fill_file file blank →
        result_told answer ≡ about input.Schema (result_told read) →
        FileRead file table answer
    unfolding about same_error
    file_told table (Ok p) (Ok q) bytes e f = subst (λ (x : Place). Slotted file table x) (ok_ok (sym f)) (file_slotted table p bytes (sym e))
    file_told table (Ok p) (Err q) bytes e f = absurd (bad_ok f)
    file_told table (Err p) (Ok q) bytes e f = absurd (bad_ok (sym f))
    file_told table (Err p) (Err q) bytes e f = file_refused p (file_bad file p bytes e) ∙ ap same_error (sym f)

-- The record and the answer of a call.
pub fed_by :
    (file : Bytes) (r : Reader) (f : Bytes) {R : Standing} (n : Next) → call file (reader_in r) (fragment f) ≡ R → Tells R n →
    (n.reader ≡ record_fed file r f) × (told_fed n.answer ≡ answer_fed file r f)
unfolding record_fed answer_fed
fed_by file r f n e t = (t.keeps ∙ ap record_of (sym e), t.answers ∙ ap tell (sym e))

pub closed_by :
    (file : Bytes) (r : Reader) {R : Standing} (n : Next) → call file (reader_in r) close ≡ R → Tells R n →
    (n.reader ≡ record_closed file r) × (told_fed n.answer ≡ answer_closed file r)
unfolding record_closed answer_closed
closed_by file r n e t = (t.keeps ∙ ap record_of (sym e), t.answers ∙ ap tell (sym e))
