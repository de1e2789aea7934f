-- Moves over a fragment: what is left of it leads to the same state.
-- Assumes nothing.
use Rattle.std.specs.Prelude.{Result, Ok, Err, IsErrAnd}
use Rattle.wire.specs.declared.error.Error.{Error}
use Prim.Native.Nat.{ℕ, zero, suc, ◌+◌, ◌-◌, ◌≤◌, ◌<◌}
use mathlib.Core.List.{List, [], ◌++◌}
use mathlib.Core.Path.{◌≡◌, refl, sym, ap, ◌∙◌, subst}
use native.Mathlib.Omega.{arith}
use lib.ListN.{length, get_or, drop, length-drop, take-append-drop}
use lib.Seq.{drop-cons, drop-drop, drop-length}
use Rattle.wire.specs.declared.error.Input.{Input}
use Rattle.wire.specs.declared.error.Input.TheVariants as input
use Rattle.wire.specs.Read.{Bytes, cut, refused}
use Rattle.wire.proofs.Pieces.{cut_length}
use Rattle.tree.specs.Schemas.{Schema}
use Rattle.tree.specs.Table.{schema_slot, id_in}
use Rattle.grammar.specs.Grammar.{Before, other, after}
use Rattle.grammar.specs.Reader.{token_of}
use Rattle.section.specs.Heads.{before_in}
use Rattle.section.specs.Passes.{Passes}
use Rattle.feeding.specs.Machine.{State, between, skip, stopped, settle, seek_from, tokened, byte, feed}
use Rattle.feeding.proofs.Fed.{feed_append, feed_stopped}
use Rattle.feeding.proofs.Bulk.{cut_two, skip_some, skip_all}
use Rattle.incremental.specs.declared.record.Reader.{Reader}
use Rattle.incremental.specs.declared.fields.Moved.{Moved}
use Rattle.incremental.specs.Record.{before_by, kind_in, map_in, state_in, numbers}
use Rattle.incremental.specs.Parts.{paired_as}
use Rattle.incremental.specs.Steps.{place_in, Sane, Stands, Sought, Movable, Onward, MovedOn}
use Rattle.incremental.proofs.StateLaws.{state_between, state_body, state_finished, place_between, place_piece, place_late, stands, sane_between}
use Rattle.incremental.proofs.PassLaws.{passes_fed}

-- the same, at a place that is told another way
pub sane_to : {r : Reader} {from to : ℕ} → Sane r from → from ≡ to → Sane r to
sane_to {r} s e = subst (λ (x : ℕ). Sane r x) e s

module _ (S : List Schema) (s : Bytes) (at : ℕ) where
  -- a part and what stands behind it
  parts : (n : ℕ) → drop at s ≡ cut s at n ++ drop (at + n) s
  parts n = sym (take-append-drop n (drop at s)) ∙ ap (λ (x : Bytes). cut s at n ++ x) (drop-drop n at s)

  -- A part of the fragment, whole.
  pub moved_part :
      (r r' : Reader) (to : ℕ) → at < to → to ≤ length s → feed S (state_in r) (cut s at (to - at)) ≡ state_in r' → Sane r' (place_in r + (to - at)) →
      Onward S s r at (record { reader = r'; at = to })
  moved_part r r' to h l e c =
      let z : at + (to - at) ≡ to = omega arith in
      record {
        same =
            ap (feed S (state_in r)) (parts (to - at))
            ∙ feed_append S (state_in r) (cut s at (to - at)) (drop (at + (to - at)) s)
            ∙ ap (λ (st : State). feed S st (drop (at + (to - at)) s)) e
            ∙ ap (λ (o : ℕ). feed S (state_in r') (drop o s)) z;
        further = h;
        inside = l;
        sane = c;
      }

  -- One that is refused.
  pub part_stopped :
      (st : State) (n : ℕ) {c o : ℕ} {i : Input} → stopped c o i ≡ feed S st (cut s at n) → stopped c o i ≡ feed S st (drop at s)
  part_stopped st n {c} {o} {i} e =
      sym
      (ap (feed S st) (parts n)
      ∙ feed_append S st (cut s at n) (drop (at + n) s)
      ∙ ap (λ (x : State). feed S x (drop (at + n) s)) (sym e)
      ∙ feed_stopped S c o i (drop (at + n) s))

  -- One byte.
  first_byte : (st : State) → at < length s → feed S st (drop at s) ≡ feed S (byte S st (get_or s at 0)) (drop (at + 1) s)
  unfolding feed
  first_byte st h = let z : suc at ≡ at + 1 = omega arith in ap (feed S st) (drop-cons s at 0 h) ∙ ap (λ (x : ℕ). feed S (byte S st (get_or s at 0)) (drop x s)) z

  pub moved_byte :
      (r r' : Reader) → at < length s → state_in r' ≡ byte S (state_in r) (get_or s at 0) → Sane r' (place_in r + 1) →
      Onward S s r at (record { reader = r'; at = at + 1 })
  moved_byte r r' h e c =
      record {
        same = first_byte (state_in r) h ∙ ap (λ (x : State). feed S x (drop (at + 1) s)) (sym e);
        further = omega arith;
        inside = omega arith;
        sane = sane_to c (omega arith);
      }

  byte_stopped : (st : State) {c o : ℕ} {i : Input} → at < length s → stopped c o i ≡ byte S st (get_or s at 0) → stopped c o i ≡ feed S st (drop at s)
  byte_stopped st {c} {o} {i} h e =
      sym (first_byte st h ∙ ap (λ (x : State). feed S x (drop (at + 1) s)) (sym e) ∙ feed_stopped S c o i (drop (at + 1) s))

  module _ (r : Reader) (h : at < length s) where
    module _ (before : Before) (e : r.stage ≡ 0) (b : before ≡ before_by r.paired r.id) where
      token_byte : byte S (state_in r) (get_or s at 0) ≡ settle (tokened S r.rows r.at before (token_of (get_or s at 0)))
      unfolding byte
      token_byte = ap (λ (x : State). byte S x (get_or s at 0)) (state_between r e) ∙ rw (← b) refl

      pub moved_token :
          (r' : Reader) → Stands (settle (tokened S r.rows r.at before (token_of (get_or s at 0)))) (r.at + 1) r' →
          Onward S s r at (record { reader = r'; at = at + 1 })
      moved_token r' w =
          record {
            same = first_byte (state_in r) h ∙ ap (λ (x : State). feed S x (drop (at + 1) s)) (token_byte ∙ sym w.state);
            further = omega arith;
            inside = omega arith;
            sane = sane_to w.sane (omega (arith, place_between r e));
          }

      pub token_stopped : {c o : ℕ} {i : Input} → stopped c o i ≡ settle (tokened S r.rows r.at before (token_of (get_or s at 0))) → stopped c o i ≡ feed S (state_in r) (drop at s)
      token_stopped q = byte_stopped (state_in r) h (q ∙ sym token_byte)

    pub done_stopped : r.stage ≡ 7 → stopped 15 r.at input.Single ≡ feed S (state_in r) (drop at s)
    unfolding byte
    done_stopped e = byte_stopped (state_in r) h (sym (ap (λ (x : State). byte S x (get_or s at 0)) (state_finished r e)))

  -- Bytes of a piece.
  pub moved_piece :
      (r r' : Reader) (to : ℕ) → 1 ≤ r.stage → r.stage ≤ 5 → at < to → to ≤ length s →
      Stands (feed S (state_in r) (cut s at (to - at))) (r.at + r.filled + length (cut s at (to - at))) r' → Onward S s r at (record { reader = r'; at = to })
  moved_piece r r' to l e o h w =
      let z : length (cut s at (to - at)) ≡ to - at = cut_length s at (to - at) (omega arith) in
      moved_part r r' to o h (sym w.state) (sane_to w.sane (omega (arith, place_piece r l e)))

  -- Whole elements.
  pub moved_elements :
      (r r' : Reader) {rows to : ℕ} {behind : Before} (before : Before) → r.stage ≡ 0 → before ≡ before_by r.paired r.id → at ≤ r.at → at < to → to ≤ length s →
      Passes S s at before rows to behind →
      Stands (between (r.rows + rows) (r.at + (to - at)) behind) (r.at + (to - at)) r' → Onward S s r at (record { reader = r'; at = to })
  moved_elements r r' {rows} {to} {behind} before e b a h l p w =
      let x : r.at ≡ r.at - at + at = omega arith in
      let y : r.at - at + to ≡ r.at + (to - at) = omega arith in
      moved_part r r' to h l
      (ap (λ (st : State). feed S st (cut s at (to - at))) (state_between r e ∙ ap (between r.rows r.at) (sym b) ∙ ap (λ (o : ℕ). between r.rows o before) x)
      ∙ passes_fed S s p l (r.at - at) r.rows
      ∙ ap (λ (o : ℕ). between (r.rows + rows) o behind) y
      ∙ sym w.state)
      (sane_to w.sane (ap (λ (o : ℕ). o + (to - at)) (sym (place_between r e))))

  -- All bytes of a field, and the fields behind it that are whole.
  pub moved_body :
      (r : Reader) (place start : ℕ) {m : Moved} → r.stage ≡ 6 → place ≡ r.at + (r.more + 1) → start ≡ at + (r.more + 1) → start ≤ length s →
      Sought S s r place r.column start m → Onward S s r at m
  moved_body r place start {m} e u v l w =
      let x : start - at ≡ suc r.more = omega arith in
      let n : length (cut s at (start - at)) ≡ start - at = cut_length s at (start - at) (omega arith) in
      let y : r.at + length (cut s at (start - at)) ≡ place = omega arith in
      let z : place + (m.at - start) ≡ place_in r + (m.at - at) = omega (arith, place_late r (omega arith), w.forward) in
      moved_part r m.reader m.at (omega (arith, w.forward)) w.inside
      (ap (feed S (state_in r)) (cut_two s at start m.at (omega arith) w.forward w.inside)
      ∙ feed_append S (state_in r) (cut s at (start - at)) (cut s start (m.at - start))
      ∙ ap (λ (st : State). feed S st (cut s start (m.at - start)))
      (ap (λ (st : State). feed S st (cut s at (start - at))) (state_body r e)
      ∙ skip_all S r.rows r.at r.more (kind_in r) (map_in r) r.column (cut s at (start - at)) (omega arith)
      ∙ ap (λ (o : ℕ). seek_from S r.rows o (kind_in r) (map_in r) r.column) y)
      ∙ w.state)
      (sane_to w.sane z)

  -- Some of them, to the fragment's end.
  pub moved_within :
      (r r' : Reader) (left : ℕ) → r.stage ≡ 6 → at < length s → left ≡ length s - at → left ≤ r.more →
      Stands (skip r.rows (r.at + left) (r.more - left) (kind_in r) (map_in r) r.column) (r.at + left) r' →
      Onward S s r at (record { reader = r'; at = at + left })
  unfolding feed
  moved_within r r' left e h u v w =
      let n : length (drop at s) ≡ left = length-drop at s ∙ sym u in
      let z : length s ≡ at + left = omega arith in
      let x : r.at + left ≡ place_in r + (at + left - at) = omega (arith, place_late r (omega arith)) in
      record {
        same =
            ap (λ (st : State). feed S st (drop at s)) (state_body r e)
            ∙ skip_some S r.rows r.at r.more (kind_in r) (map_in r) r.column (drop at s) (omega arith)
            ∙ ap (λ (o : ℕ). skip r.rows (r.at + o) (r.more - o) (kind_in r) (map_in r) r.column) n
            ∙ sym w.state
            ∙ sym (ap (feed S (state_in r')) (sym (ap (λ (o : ℕ). drop o s) z) ∙ drop-length s));
        further = omega arith;
        inside = omega arith;
        sane = sane_to w.sane x;
      }

-- what a `?` ends early
pub moved_exit :
    (S : List Schema) (s : Bytes) (r : Reader) (at : ℕ) (m : Result Moved Error) (e : Error) → IsErrAnd m (λ d. d ≡ e) →
    settle (refused e) ≡ feed S (state_in r) (drop at s) → MovedOn S s r at m
moved_exit S s r at (Ok _) e same h = elim same [ ]
moved_exit S s r at (Err d) e same h = ap (λ (x : Error). settle (refused x)) same ∙ h

-- The loop over a fragment.
pub record Taking (S : List Schema) (s : Bytes) (reader r : Reader) (at : ℕ) : Type 0 where
  pub same : feed S (state_in reader) s ≡ feed S (state_in r) (drop at s)
  pub inside : at ≤ length s
  pub sane : Sane r (place_in reader + at)

pub taking_start : (S : List Schema) (s : Bytes) (reader : Reader) → Sane reader (place_in reader) → Taking S s reader reader 0
taking_start S s reader w = record { same = refl; inside = omega arith; sane = sane_to w (omega arith) }

pub taking_next :
    (S : List Schema) (s : Bytes) (reader r : Reader) (at : ℕ) (m : Moved) → Taking S s reader r at → Onward S s r at m → Taking S s reader m.reader m.at
taking_next S s reader r at m t w =
    record { same = t.same ∙ w.same; inside = w.inside; sane = sane_to w.sane (omega (arith, w.further, t.sane.comes)) }

pub taking_end :
    (S : List Schema) (s : Bytes) (reader r : Reader) (at : ℕ) → Taking S s reader r at → length s ≤ at → Stands (feed S (state_in reader) s) (place_in reader + length s) r
unfolding feed
taking_end S s reader r at t h =
    let z : at ≡ length s = omega (arith, t.inside) in
    record {
      state = sym (t.same ∙ ap (λ (x : ℕ). feed S (state_in r) (drop x s)) z ∙ ap (feed S (state_in r)) (drop-length s));
      sane = sane_to t.sane (ap (λ (x : ℕ). place_in reader + x) z);
    }

-- What stands before the next element, by the number of its schema.
before_some : (slots : List ℕ) (child : ℕ) → 0 < child → before_in slots child ≡ after (id_in (get_or slots (schema_slot child) 0))
before_some slots zero h = absurd (omega arith)
before_some slots (suc k) h = refl

pub behind_child :
    (slots : List ℕ) (child rows at : ℕ) → 0 < child → rows ≤ at →
    Stands (between rows at (before_in slots child)) at (paired_as (numbers 0 0 0 0 0 rows at 0 0 0 [] []) (after (id_in (get_or slots (schema_slot child) 0))))
behind_child slots child rows at h l =
    let r : Reader = paired_as (numbers 0 0 0 0 0 rows at 0 0 0 [] []) (after (id_in (get_or slots (schema_slot child) 0))) in
    stands (state_between r refl ∙ rw (before_some slots child h)) (sane_between r (omega arith) (omega arith) l refl) refl

pub behind_other :
    (slots : List ℕ) (child rows at : ℕ) → child ≤ 0 → rows ≤ at →
    Stands (between rows at (before_in slots child)) at (paired_as (numbers 0 0 0 0 0 rows at 0 0 0 [] []) other)
behind_other slots child rows at h l =
    let r : Reader = paired_as (numbers 0 0 0 0 0 rows at 0 0 0 [] []) other in
    let z : child ≡ 0 = omega arith in
    stands (state_between r refl ∙ rw z) (sane_between r (omega arith) (omega arith) l refl) refl

-- What a move is given.
pub taking_ready :
    (S : List Schema) (s : Bytes) (reader r : Reader) (at : ℕ) → Taking S s reader r at → place_in reader + length s ≤ 16777216 → at < length s →
    Movable s r at
taking_ready S s reader r at t h l =
    record {
      sane = sane_to t.sane (sym t.sane.comes);
      further = l;
      behind = omega (arith, t.sane.comes);
      inside = omega (arith, t.sane.comes, t.inside);
    }
