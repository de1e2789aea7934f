-- A row section read as it arrives: from the first record on, each call answers what is written over the bytes so far, however they are cut.
-- Assumes nothing.
use Rattle.std.specs.Prelude.{Result}
use Rattle.wire.specs.declared.error.Error.{Error}
use Prim.Native.Nat.{ℕ, ◌≤◌, ◌<◌}
use mathlib.Core.Path.{◌≡◌, refl, sym, ap, ◌∙◌}
use mathlib.Core.List.{List, [], ◌∷◌, ◌++◌, map, map-map, append_assoc, append-nil}
use mathlib.Core.Bool.{Bool, true, false}
use native.Mathlib.Omega.{arith}
use lib.ListN.{length, take, drop, length-append, take-append-drop}
use lib.Dec.{leb}
use borrow.Author.Tests.{leb-true, leb-false, le-leb, lt-leb}
use Rattle.wire.specs.declared.error.Input.{Input}
use Rattle.wire.specs.declared.error.Input.TheVariants as input
use Rattle.wire.specs.Read.{Bytes, AreBytes, Read, ok, bad, pick, about, limit, sized, told}
use Rattle.wire.proofs.Pieces.{bad_ok, bind_ok, about_ok}
use Rattle.tree.specs.Schemas.{Schema, read_schemas}
use Rattle.grammar.specs.Grammar.{Element, Row, child_kind, update_start, rows}
use Rattle.grammar.specs.Reader.{section}
use Rattle.grammar.proofs.Examples.{T-schemas, T-elements, T-splits}
use Rattle.section.specs.Table.{rows_checked, row_count}
use Rattle.feeding.specs.Answers.{Answer, going, complete, refused, said, own_short, said_with, so_far, past, answer_over, answer_so_far, answer_closed, whole_rows, whole_in, whole_elements, Call, fragment, close, joined, any_close, answer_to}
use Rattle.feeding.specs.Feeding.{first, tell, call, calls}
use Rattle.feeding.specs.Feeding.{Reader as Standing}
use Rattle.feeding.proofs.Prefixes.{accepted_over}
use Rattle.feeding.proofs.Elements.{Whole, no_more, one_has_them}
use Rattle.feeding.proofs.Theorem.{no_going, no_complete, fed_answers, refused_stands}
use Rattle.incremental.specs.declared.record.Reader.{Reader}
use Rattle.incremental.specs.Record.{record_of}
use Rattle.incremental.specs.Calls.{record_fed, answer_fed, record_closed}
use Rattle.incremental.specs.Calls as incremental
use Rattle.incremental.proofs.RoundTrip.{FitsStanding, record_read, fits_call}
use Rattle.demands.specs.Examples.{T, section_t}
use Rattle.demands.specs.Sections.{Given}
use Rattle.demands.specs.Arrivals.{first_record, record_after, answer_after, last_record, last_answer, answers, firsts, Arrived}
use Rattle.demands.proofs.Plans.{T-bytes}
use Rattle.demands.proofs.Sections.{count_bad, check_never_full, given_checked, checked_iff_split, T-given}

-- The first record is that of a reader that was fed nothing.
pub first_is_zeros : record_of first ≡ first_record
unfolding record_of
first_is_zeros = refl

-- Calls by records are calls of what the records are of.
module _ (file : Bytes) (bytes : AreBytes file) where
  record_one : (R : Standing) (c : Call) → FitsStanding R → record_after file (record_of R) c ≡ record_of (call file R c)
  unfolding record_fed record_closed
  record_one R (fragment f) h = ap (λ (x : Standing). record_of (call file x (fragment f))) (record_read R h)
  record_one R close h = ap (λ (x : Standing). record_of (call file x close)) (record_read R h)

  answer_one : (R : Standing) (c : Call) → FitsStanding R → answer_after file (record_of R) c ≡ tell (call file R c)
  unfolding answer_fed incremental.answer_closed
  answer_one R (fragment f) h = ap (λ (x : Standing). tell (call file x (fragment f))) (record_read R h)
  answer_one R close h = ap (λ (x : Standing). tell (call file x close)) (record_read R h)

  answer_last : (R : Standing) (cs : List Call) (c : Call) → FitsStanding R → last_answer file (record_of R) cs c ≡ tell (calls file R (cs ++ (c ∷ [])))
  unfolding last_record calls
  answer_last R [] c h = answer_one R c h
  answer_last R (d ∷ cs) c h =
      ap (λ (r : Reader). last_answer file r cs c) (record_one R d h) ∙ answer_last (call file R d) cs c (fits_call file bytes R d h)

  answers_each :
      (R : Standing) (cs : List Call) → FitsStanding R → answers file (record_of R) cs ≡ map (λ (p : List Call). tell (calls file R p)) (firsts cs)
  unfolding answers firsts calls
  answers_each R [] h = refl
  answers_each R (c ∷ cs) h =
      ap (λ (a : Answer). a ∷ answers file (record_after file (record_of R) c) cs) (answer_one R c h)
      ∙ ap (λ (r : Reader). tell (call file R c) ∷ answers file r cs) (record_one R c h)
      ∙ ap (λ (l : List Answer). tell (call file R c) ∷ l)
      (answers_each (call file R c) cs (fits_call file bytes R c h)
      ∙ sym (map-map (λ (p : List Call). tell (calls file R p)) (λ (p : List Call). c ∷ p) (firsts cs)))

map_same : {A B : Type 0} (f g : A → B) → ((a : A) → f a ≡ g a) → (l : List A) → map f l ≡ map g l
map_same f g h [] = refl
map_same f g h (a ∷ l) = ap (λ (b : _). b ∷ map f l) (h a) ∙ ap (λ (m : List _). g a ∷ m) (map_same f g h l)

-- The bytes of calls and of more behind them.
joined_open : (cs ds : List Call) → any_close cs ≡ false → joined (cs ++ ds) ≡ joined cs ++ joined ds
unfolding joined any_close
joined_open [] ds e = refl
joined_open (fragment f ∷ cs) ds e = ap (λ (x : Bytes). f ++ x) (joined_open cs ds e) ∙ sym (append_assoc f (joined cs) (joined ds))
joined_open (close ∷ cs) ds e = absurd (let z : ◌≡◌ {A = ℕ} 0 1 = cc in omega arith)

joined_shut : (cs ds : List Call) → any_close cs ≡ true → joined (cs ++ ds) ≡ joined cs
unfolding joined any_close
joined_shut [] ds e = absurd (let z : ◌≡◌ {A = ℕ} 0 1 = cc in omega arith)
joined_shut (fragment f ∷ cs) ds e = ap (λ (x : Bytes). f ++ x) (joined_shut cs ds e)
joined_shut (close ∷ cs) ds e = refl

any_open : (cs ds : List Call) → any_close cs ≡ false → any_close (cs ++ ds) ≡ any_close ds
unfolding any_close
any_open [] ds e = refl
any_open (fragment f ∷ cs) ds e = any_open cs ds e
any_open (close ∷ cs) ds e = absurd (let z : ◌≡◌ {A = ℕ} 0 1 = cc in omega arith)

any_shut : (cs ds : List Call) → any_close cs ≡ true → any_close (cs ++ ds) ≡ true
unfolding any_close
any_shut [] ds e = absurd (let z : ◌≡◌ {A = ℕ} 0 1 = cc in omega arith)
any_shut (fragment f ∷ cs) ds e = any_shut cs ds e
any_shut (close ∷ cs) ds e = refl

-- The answers that are written over the bytes.
module _ (file : Bytes) where
  -- before the close, or from it on
  abbrev answer_at : Bool → Bytes → Answer
  answer_at closed s = pick closed (answer_closed file s) (answer_so_far file s)

  open_within : (s : Bytes) → length s ≤ limit → answer_so_far file s ≡ so_far file s
  unfolding answer_so_far
  open_within s h = rw (le-leb (length s) limit h)

  closed_within : (s : Bytes) → length s ≤ limit → answer_closed file s ≡ said (row_count (rows_checked file s))
  unfolding answer_closed
  closed_within s h = rw (le-leb (length s) limit h)

  at_over : (closed : Bool) (s : Bytes) → limit < length s → answer_at closed s ≡ past (so_far file (take limit s))
  unfolding answer_so_far answer_closed answer_over
  at_over true s h = rw (lt-leb (length s) limit h)
  at_over false s h = rw (lt-leb (length s) limit h)

  -- what the whole reader says of bytes that are refused, and of bytes that are counted
  told_bad : (n : ℕ) (r : Read ℕ) {code offset : ℕ} {name : Input} → said_with n r ≡ refused code offset name → r ≡ bad code offset name
  told_bad n (ok m) e = absurd (no_complete e)
  told_bad n (bad d p j) {code} {offset} {name} e = go (own_short d j) e
    where
      go : (t : Bool) → pick t (going n) (refused d p j) ≡ refused code offset name → ◌≡◌ {A = Read ℕ} (bad d p j) (bad code offset name)
      go true e = absurd (no_going e)
      go false e = let x : d ≡ code = cc in let y : p ≡ offset = cc in let z : j ≡ name = cc in rw (x, y, z)

  told_going : (n : ℕ) (r : Read ℕ) {m : ℕ} → said_with n r ≡ going m → n ≡ m
  told_going n (ok k) e = absurd (let z : ◌≡◌ {A = ℕ} 0 1 = cc in omega arith)
  told_going n (bad d p j) {m} e = go (own_short d j) e
    where
      go : (t : Bool) → pick t (going n) (refused d p j) ≡ going m → n ≡ m
      go true e = cc
      go false e = absurd (no_going (sym e))

  so_far_bad : (s : Bytes) {code offset : ℕ} {name : Input} → so_far file s ≡ refused code offset name → row_count (rows_checked file s) ≡ bad code offset name
  unfolding so_far
  so_far_bad s e = told_bad (whole_elements file s) (row_count (rows_checked file s)) e

  bad_so_far :
      (s : Bytes) {code offset : ℕ} {name : Input} → row_count (rows_checked file s) ≡ bad code offset name → own_short code name ≡ false →
      so_far file s ≡ refused code offset name
  unfolding so_far
  bad_so_far s e h = rw (e, h)

  -- a refusal so far is that of a close, and stands
  open_closed : (s : Bytes) {code offset : ℕ} {name : Input} → answer_so_far file s ≡ refused code offset name → answer_closed file s ≡ refused code offset name
  open_closed s {code} {offset} {name} e = go (leb (length s) limit) refl
    where
      go : (t : Bool) → leb (length s) limit ≡ t → answer_closed file s ≡ refused code offset name
      go true q = let h : length s ≤ limit = leb-true _ _ q in closed_within s h ∙ ap said (so_far_bad s (sym (open_within s h) ∙ e))
      go false q = let h : limit < length s = leb-false _ _ q in at_over true s h ∙ sym (at_over false s h) ∙ e

  at_stands :
      (closed : Bool) (s t : Bytes) {code offset : ℕ} {name : Input} → answer_so_far file s ≡ refused code offset name →
      answer_at closed (s ++ t) ≡ refused code offset name
  at_stands true s t e = open_closed (s ++ t) (refused_stands file s t e)
  at_stands false s t e = refused_stands file s t e

  -- calls behind a close, and behind a refusal
  to_after : (cs ds : List Call) → any_close cs ≡ true → answer_to file (cs ++ ds) ≡ answer_to file cs
  unfolding answer_to
  to_after cs ds e = rw (any_shut cs ds e, joined_shut cs ds e, e)

  to_stands :
      (cs ds : List Call) {code offset : ℕ} {name : Input} → answer_to file cs ≡ refused code offset name → answer_to file (cs ++ ds) ≡ refused code offset name
  unfolding answer_to
  to_stands cs ds {code} {offset} {name} e = go (any_close cs) refl
    where
      go : (closed : Bool) → any_close cs ≡ closed → answer_at (any_close (cs ++ ds)) (joined (cs ++ ds)) ≡ refused code offset name
      go true q = to_after cs ds q ∙ e
      go false q = rw (any_open cs ds q, joined_open cs ds q) (at_stands (any_close ds) (joined cs) (joined ds) (rw q at e))

  -- 16 is never among them
  count_full : (s : Bytes) {offset : ℕ} {name : Input} → row_count (rows_checked file s) ≡ bad 16 offset name → ⊥
  count_full s {offset} {name} e = check_never_full file s offset name ((count_bad (rows_checked file s) 16 offset name).0 e)

  past_full : (a : Answer) {offset : ℕ} {name : Input} → past a ≡ refused 16 offset name → a ≡ refused 16 offset name
  past_full (going n) e = absurd (let z : ◌≡◌ {A = ℕ} 19 16 = cc in omega arith)
  past_full (complete n) e = absurd (let z : ◌≡◌ {A = ℕ} 19 16 = cc in omega arith)
  past_full (refused c o i) e = e

  said_bad : (r : Read ℕ) {code offset : ℕ} {name : Input} → said r ≡ refused code offset name → r ≡ bad code offset name
  said_bad (ok n) e = absurd (no_complete e)
  said_bad (bad d p j) {code} {offset} {name} e = let x : d ≡ code = cc in let y : p ≡ offset = cc in let z : j ≡ name = cc in rw (x, y, z)

  at_full : (closed : Bool) (s : Bytes) {offset : ℕ} {name : Input} → answer_at closed s ≡ refused 16 offset name → ⊥
  at_full closed s {offset} {name} e = go closed (leb (length s) limit) refl e
    where
      go : (closed t : Bool) → leb (length s) limit ≡ t → answer_at closed s ≡ refused 16 offset name → ⊥
      go true true q e = count_full s (said_bad (row_count (rows_checked file s)) (sym (closed_within s (leb-true _ _ q)) ∙ e))
      go false true q e = count_full s (so_far_bad s (sym (open_within s (leb-true _ _ q)) ∙ e))
      go closed false q e =
          count_full (take limit s) (so_far_bad (take limit s) (past_full (so_far file (take limit s)) (sym (at_over closed s (leb-false _ _ q)) ∙ e)))

-- The whole reader, of a byte behind an accepted section: 15.
checked_schemas : (file s : Bytes) (rs : List Row) → rows_checked file s ≡ ok rs → (S : List Schema) × (read_schemas file ≡ ok S) × (section S s ≡ ok rs)
unfolding rows_checked
checked_schemas file s rs e =
    let (u, _, e1) = bind_ok (about input.Schema (sized file)) _ rs e in
    let (v, _, e2) = bind_ok (about input.Section (sized s)) _ rs e1 in
    let (S, r, e3) = bind_ok (about input.Schema (read_schemas file)) _ rs e2 in
    (S, about_ok input.Schema (read_schemas file) S r, about_ok input.Section (section S s) rs e3)

behind_done :
    (file s : Bytes) (b : ℕ) (rs : List Row) → length s < limit → rows_checked file s ≡ ok rs →
    row_count (rows_checked file (s ++ (b ∷ []))) ≡ bad 15 (length s) input.Section
unfolding about
behind_done file s b rs h e =
    let (S, v, q) = checked_schemas file s rs e in
    let g : Given file (s ++ (b ∷ [])) S = record { valid = v; within = omega (arith, length-append s (b ∷ [])) } in
    ap row_count (given_checked g ∙ ap (about input.Section) (accepted_over S s q b []))

-- some calls and one more, and more behind them
behind : (cs ds : List Call) (c d : Call) → (cs ++ (c ∷ ds)) ++ (d ∷ []) ≡ (cs ++ (c ∷ [])) ++ (ds ++ (d ∷ []))
behind cs ds c d = append_assoc cs (c ∷ ds) (d ∷ []) ∙ sym (append_assoc cs (c ∷ []) (ds ++ (d ∷ [])))

answers_last : (file : Bytes) (cs : List Call) (c : Call) → tell (calls file first (cs ++ (c ∷ []))) ≡ answer_to file (cs ++ (c ∷ []))
answers_last file [] c = fed_answers file c []
answers_last file (d ∷ cs) c = fed_answers file d (cs ++ (c ∷ []))

module _ (file : Bytes) (bytes : AreBytes file) where
  -- From the first record on, after any calls, a call answers what is written over all of them: fragments of any sizes, empty ones too, and
  -- calls behind a close.
  pub arrival_answers : (cs : List Call) (c : Call) → last_answer file first_record cs c ≡ answer_to file (cs ++ (c ∷ []))
  arrival_answers cs c =
      ap (λ (r : Reader). last_answer file r cs c) (sym first_is_zeros)
      ∙ answer_last file bytes first cs c (tt, (omega arith, omega arith))
      ∙ answers_last file cs c

  -- The same of all answers to some calls at once: each is what is written over the calls up to it.
  pub arrival_all : (cs : List Call) → answers file first_record cs ≡ map (answer_to file) (firsts cs)
  unfolding firsts
  arrival_all cs = ap (λ (r : Reader). answers file r cs) (sym first_is_zeros) ∙ answers_each file bytes first cs (tt, (omega arith, omega arith)) ∙ go cs
    where
      go : (cs : List Call) → map (λ (p : List Call). tell (calls file first p)) (firsts cs) ≡ map (answer_to file) (firsts cs)
      go [] = refl
      go (c ∷ cs) =
          ap (λ (a : Answer). a ∷ map (λ (p : List Call). tell (calls file first p)) (map (λ (p : List Call). c ∷ p) (firsts cs))) (fed_answers file c [])
          ∙ ap (λ (l : List Answer). answer_to file (c ∷ []) ∷ l)
          (map-map (λ (p : List Call). tell (calls file first p)) (λ (p : List Call). c ∷ p) (firsts cs)
          ∙ map_same (λ (p : List Call). tell (calls file first (c ∷ p))) (λ (p : List Call). answer_to file (c ∷ p)) (λ p. fed_answers file c p) (firsts cs)
          ∙ sym (map-map (answer_to file) (λ (p : List Call). c ∷ p) (firsts cs)))

  answer_at_lem : {cs : List Call} {c : Call} {s : Bytes} {closed : Bool} → Arrived cs c s closed → last_answer file first_record cs c ≡ answer_at file closed s
  unfolding answer_to
  answer_at_lem {cs} {c} a = arrival_answers cs c ∙ rw (a.ends, a.brings)

  -- Two ways to cut the same bytes have the same last answer.
  pub arrival_cut :
      {cs ds : List Call} {c d : Call} {s : Bytes} {closed : Bool} → Arrived cs c s closed → Arrived ds d s closed →
      last_answer file first_record cs c ≡ last_answer file first_record ds d
  arrival_cut a b = answer_at_lem a ∙ sym (answer_at_lem b)

  -- Up to the limit, itself included, an answer before the close is what the whole reader says of the bytes so far, with the count of the whole
  -- elements in place of the section's own 1.
  pub arrival_open :
      {cs : List Call} {c : Call} {s : Bytes} → Arrived cs c s false → length s ≤ limit →
      last_answer file first_record cs c ≡ said_with (whole_elements file s) (row_count (rows_checked file s))
  unfolding so_far
  arrival_open {s = s} a h = answer_at_lem a ∙ open_within file s h

  -- That count, by the grammar: one first part of the bytes is whole elements with so many rows, and none has more.
  pub arrival_count :
      {cs : List Call} {c : Call} {s : Bytes} (S : List Schema) (n : ℕ) → Arrived cs c s false → Given file s S →
      last_answer file first_record cs c ≡ going n →
      ((k : ℕ) × (es : List Element) × (k ≤ length s) × Whole S s k es × (length (rows 0 es) ≡ n))
      × ((k : ℕ) (es : List Element) → k ≤ length s → Whole S s k es → length (rows 0 es) ≤ n)
  unfolding whole_elements
  arrival_count {s = s} S n a g e =
      let w : whole_elements file s ≡ n = told_going file (whole_elements file s) (row_count (rows_checked file s)) (sym (arrival_open a g.within) ∙ e) in
      let z : whole_rows S s ≡ n = ap (λ (r : Read (List Schema)). whole_in r s) (sym g.valid) ∙ w in
      let (k, es, l, sp, q) = one_has_them S s in
      ((k, es, l, sp, q ∙ z), (λ k es l sp. omega (arith, no_more S s k es l sp)))

  -- From the close on it is the whole reader's, however the section is cut.
  pub arrival_closed :
      {cs : List Call} {c : Call} {s : Bytes} → Arrived cs c s true → length s ≤ limit →
      last_answer file first_record cs c ≡ said (row_count (rows_checked file s))
  arrival_closed {s = s} a h = answer_at_lem a ∙ closed_within file s h

  -- A section that is fed whole and closed is answered as the call that checks it answers.
  pub arrival_whole :
      (s : Bytes) (checked : Result ℕ Error) → length s ≤ limit → told checked ≡ row_count (rows_checked file s) →
      last_answer file first_record (fragment s ∷ []) close ≡ said (told checked)
  unfolding joined any_close
  arrival_whole s checked h e =
      let a : Arrived (fragment s ∷ []) close s true = record { brings = append-nil s; ends = refl } in
      arrival_closed a h ∙ ap said (sym e)

  -- An empty fragment changes nothing.
  pub arrival_empty : (cs : List Call) (c : Call) → last_answer file first_record (cs ++ (c ∷ [])) (fragment []) ≡ last_answer file first_record cs c
  unfolding joined any_close
  arrival_empty cs c = go (any_close (cs ++ (c ∷ []))) refl
    where
      go : (closed : Bool) → any_close (cs ++ (c ∷ [])) ≡ closed → last_answer file first_record (cs ++ (c ∷ [])) (fragment []) ≡ last_answer file first_record cs c
      go true q =
          let a : Arrived (cs ++ (c ∷ [])) (fragment []) (joined (cs ++ (c ∷ []))) true =
          record { brings = joined_shut (cs ++ (c ∷ [])) (fragment [] ∷ []) q; ends = any_shut (cs ++ (c ∷ [])) (fragment [] ∷ []) q } in
          let b : Arrived cs c (joined (cs ++ (c ∷ []))) true = record { brings = refl; ends = q } in
          arrival_cut a b
      go false q =
          let a : Arrived (cs ++ (c ∷ [])) (fragment []) (joined (cs ++ (c ∷ []))) false =
          record {
            brings = joined_open (cs ++ (c ∷ [])) (fragment [] ∷ []) q ∙ append-nil (joined (cs ++ (c ∷ [])));
            ends = any_open (cs ++ (c ∷ [])) (fragment [] ∷ []) q;
          } in
          let b : Arrived cs c (joined (cs ++ (c ∷ []))) false = record { brings = refl; ends = q } in
          arrival_cut a b

  -- A refusal is never taken back: it is the answer to every later call.
  pub arrival_stands :
      (cs ds : List Call) (c d : Call) (code offset : ℕ) (name : Input) → last_answer file first_record cs c ≡ refused code offset name →
      last_answer file first_record (cs ++ (c ∷ ds)) d ≡ refused code offset name
  arrival_stands cs ds c d code offset name e =
      arrival_answers (cs ++ (c ∷ ds)) d
      ∙ ap (answer_to file) (behind cs ds c d)
      ∙ to_stands file (cs ++ (c ∷ [])) (ds ++ (d ∷ [])) (sym (arrival_answers cs c) ∙ e)

  -- From a close on, every answer is the same.
  pub arrival_ends :
      (cs ds : List Call) (c d : Call) → any_close (cs ++ (c ∷ [])) ≡ true → last_answer file first_record (cs ++ (c ∷ ds)) d ≡ last_answer file first_record cs c
  arrival_ends cs ds c d e =
      arrival_answers (cs ++ (c ∷ ds)) d
      ∙ ap (answer_to file) (behind cs ds c d)
      ∙ to_after file (cs ++ (c ∷ [])) (ds ++ (d ∷ [])) e
      ∙ sym (arrival_answers cs c)

  -- A refusal is given at the first fragment that has its byte: where a first part of the bytes so far earns one, it is the answer;
  pub first_byte_refuses :
      {cs : List Call} {c : Call} {closed : Bool} (s t : Bytes) (code offset : ℕ) (name : Input) → Arrived cs c (s ++ t) closed → length s ≤ limit →
      row_count (rows_checked file s) ≡ bad code offset name → own_short code name ≡ false → last_answer file first_record cs c ≡ refused code offset name
  first_byte_refuses {closed = closed} s t code offset name a h e o = answer_at_lem a ∙ at_stands file closed s t (open_within file s h ∙ bad_so_far file s e o)

  -- and up to the limit a refusal is what the whole reader says of the bytes so far.
  pub refusal_is_whole :
      {cs : List Call} {c : Call} {s : Bytes} (code offset : ℕ) (name : Input) → Arrived cs c s false → length s ≤ limit →
      last_answer file first_record cs c ≡ refused code offset name → row_count (rows_checked file s) ≡ bad code offset name
  refusal_is_whole {s = s} code offset name a h e = told_bad file (whole_elements file s) (row_count (rows_checked file s)) (sym (arrival_open a h) ∙ e)

  -- A byte within the limit behind the done token: 15, at that byte.
  pub arrival_behind :
      {cs : List Call} {c : Call} {closed : Bool} (s t : Bytes) (b : ℕ) (rs : List Row) → Arrived cs c (s ++ (b ∷ t)) closed → length s < limit →
      rows_checked file s ≡ ok rs → last_answer file first_record cs c ≡ refused 15 (length s) input.Section
  arrival_behind {cs} {c} {closed} s t b rs a h e =
      let a' : Arrived cs c ((s ++ (b ∷ [])) ++ t) closed = record { brings = a.brings ∙ sym (append_assoc s (b ∷ []) t); ends = a.ends } in
      first_byte_refuses (s ++ (b ∷ [])) t 15 (length s) input.Section a' (omega (arith, length-append s (b ∷ []))) (behind_done file s b rs h e) refl

  -- Past the limit: what the first 16,777,216 bytes earn, where it is a refusal but the section's own 1;
  pub arrival_earned :
      {cs : List Call} {c : Call} {s : Bytes} {closed : Bool} (code offset : ℕ) (name : Input) → Arrived cs c s closed → limit < length s →
      row_count (rows_checked file (take limit s)) ≡ bad code offset name → own_short code name ≡ false → last_answer file first_record cs c ≡ refused code offset name
  arrival_earned {s = s} {closed = closed} code offset name a h e o = answer_at_lem a ∙ at_over file closed s h ∙ ap past (bad_so_far file (take limit s) e o)

  -- else 19 at 0, about the section.
  pub arrival_over :
      {cs : List Call} {c : Call} {s : Bytes} {closed : Bool} → Arrived cs c s closed → limit < length s →
      ((code offset : ℕ) (name : Input) → row_count (rows_checked file (take limit s)) ≡ bad code offset name → own_short code name ≡ true) →
      last_answer file first_record cs c ≡ refused 19 0 input.Section
  unfolding so_far
  arrival_over {s = s} {closed = closed} a h e = answer_at_lem a ∙ at_over file closed s h ∙ go (row_count (rows_checked file (take limit s))) refl
    where
      go : (r : Read ℕ) → row_count (rows_checked file (take limit s)) ≡ r → past (said_with (whole_elements file (take limit s)) r) ≡ refused 19 0 input.Section
      go (ok n) q = refl
      go (bad code offset name) q = rw (e code offset name q)

  -- So the done token at the limit and a byte behind it is 19, and not 15.
  pub arrival_done_over :
      {cs : List Call} {c : Call} {s : Bytes} {closed : Bool} (rs : List Row) → Arrived cs c s closed → limit < length s →
      rows_checked file (take limit s) ≡ ok rs → last_answer file first_record cs c ≡ refused 19 0 input.Section
  arrival_done_over rs a h e = arrival_over a h (λ code offset name q. absurd (bad_ok (sym q ∙ ap row_count e)))

  -- 16 is never answered.
  pub never_full : (cs : List Call) (c : Call) (offset : ℕ) (name : Input) → last_answer file first_record cs c ≡ refused 16 offset name → ⊥
  never_full cs c offset name e =
      let a : Arrived cs c (joined (cs ++ (c ∷ []))) (any_close (cs ++ (c ∷ []))) = record { brings = refl; ends = refl } in
      at_full file (any_close (cs ++ (c ∷ []))) (joined (cs ++ (c ∷ []))) (sym (answer_at_lem a) ∙ e)

-- The premises are met: the section of the paper's T, in two fragments and closed, has two rows.
pub T-arrives : (k : ℕ) → last_answer T first_record (fragment (take k section_t) ∷ fragment (drop k section_t) ∷ []) close ≡ complete 2
unfolding joined any_close rows child_kind update_start
T-arrives k =
    let a : Arrived (fragment (take k section_t) ∷ fragment (drop k section_t) ∷ []) close section_t true =
    record { brings = ap (λ (x : Bytes). take k section_t ++ x) (append-nil (drop k section_t)) ∙ take-append-drop k section_t; ends = refl } in
    arrival_closed T T-bytes a (omega arith)
    ∙ ap (λ (r : Read (List Row)). said (row_count r)) ((checked_iff_split T section_t T-schemas T-given (rows 0 T-elements)).1 (T-elements, T-splits, refl))
