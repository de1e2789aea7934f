-- A row section is refused exactly for what is wrong with it: the first fault, with its code, offset and input.
-- Assumes nothing.
use Prim.Native.Nat.{ℕ, zero, suc, ◌+◌, ◌-◌, ◌≤◌, ◌<◌}
use mathlib.Core.Path.{◌≡◌, refl, ap, ◌∙◌}
use mathlib.Core.List.{List, [], ◌∷◌}
use mathlib.Core.Bool.{Bool, true, false}
use mathlib.Core.Option.{Option, none, some}
use native.Mathlib.Omega.{arith}
use lib.ListN.{length, get_or}
use lib.Dec.{leb, eqb}
use borrow.Author.Tests.{leb-true, leb-false, eqb-false, eq-eqb, ne_eqb}
use Rattle.wire.specs.declared.error.Input.{Input}
use Rattle.wire.specs.declared.error.Input.TheVariants as input
use Rattle.wire.specs.Read.{Bytes, Read, ok, bad, ◌>>=◌, check, about, whole, sized}
use Rattle.wire.proofs.Laws.{whole_fits, whole_short}
use Rattle.wire.proofs.Pieces.{check_ok, about_ok}
use Rattle.tree.specs.Schemas.{Schema, child_number, read_schemas}
use Rattle.grammar.specs.Grammar.{Element, Before, other, after, columns_at, rows}
use Rattle.grammar.specs.Reader.{Token, parent_token, child_token, change_token, delete_token, done_token, unknown_token, token_of, known_child, follows, id_at, element, scan, elements, section}
use Rattle.grammar.proofs.Ends.{row_ends, update_ends}
use Rattle.grammar.proofs.Sections.{Says, says, follows_after, known_ok}
use Rattle.grammar.proofs.RowErrors.{OfError, no_error, an_error, of_bind, of_check, of_other, of_row, of_update}
use Rattle.section.specs.Table.{room_for, fitting, rows_fitting, rows_checked, rows_listed}
use Rattle.demands.specs.Checks.{Refusals, Never, ◌then◌, Exactly, Of, Lent, lent, Sizes, within, NoRoom}
use Rattle.demands.specs.FileFaults.{schemas_in}
use Rattle.demands.specs.SectionFaults.{NoToken, HasId, of_child, of_change, of_delete, a_change, a_delete, SectionFault, no_token, unknown_token_lem, bytes_after, in_id, unknown_id, alone, in_parent, in_child, in_change, behind_parent, behind_child, behind_change, behind_delete, rows_in, CheckFaults, ListFaults}
use Rattle.demands.proofs.Exactly.{exactly_of, never_room, exactly_then, exactly_last, exactly_about, exactly_room, never_then, never_of}
use Rattle.demands.proofs.RowExactly.{exactly_row_end_alone, exactly_update_end_alone, foreign, never_row, never_update}
use Rattle.demands.proofs.FileExactly.{sizes_one, exactly_front, file_never_room, file_never_size}

-- Tokens.

-- a byte that is read as no token is none
no_token_by : (b : ℕ) → token_of b ≡ unknown_token → NoToken b
unfolding token_of
no_token_by b h =
    record {
      no_parent = (λ e. let z : ◌≡◌ {A = Token} parent_token unknown_token = rw e at h in let y : ◌≡◌ {A = ℕ} 0 1 = cc in omega arith);
      no_child = (λ e. let z : ◌≡◌ {A = Token} child_token unknown_token = rw e at h in let y : ◌≡◌ {A = ℕ} 0 1 = cc in omega arith);
      no_change = (λ e. let z : ◌≡◌ {A = Token} change_token unknown_token = rw e at h in let y : ◌≡◌ {A = ℕ} 0 1 = cc in omega arith);
      no_delete = (λ e. let z : ◌≡◌ {A = Token} delete_token unknown_token = rw e at h in let y : ◌≡◌ {A = ℕ} 0 1 = cc in omega arith);
      no_done = (λ e. let z : ◌≡◌ {A = Token} done_token unknown_token = rw e at h in let y : ◌≡◌ {A = ℕ} 0 1 = cc in omega arith);
    }

-- and one that is none is read as none
token_by_none : (b : ℕ) → NoToken b → token_of b ≡ unknown_token
unfolding token_of
token_by_none b n =
    simp (ne_eqb _ _ n.no_parent, ne_eqb _ _ n.no_child, ne_eqb _ _ n.no_change, ne_eqb _ _ n.no_delete, ne_eqb _ _ n.no_done)

-- an 87 before has an id that is known
abbrev Known : List Schema → Before → Type 0
Known S before = (id : ℕ) → before ≡ after id → child_number S id ≡ none → ⊥

known_other : (S : List Schema) → Known S other
known_other S id e h = let z : ◌≡◌ {A = ℕ} 0 1 = cc in omega arith

known_after : (S : List Schema) (id k : ℕ) → child_number S id ≡ some k → Known S (after id)
known_after S id k h j e n =
    let z : id ≡ j = cc in
    let y : ◌≡◌ {A = ℕ} 0 1 = cc in
    omega arith

-- What stands before an 8A or 8C.
not_after : (before : Before) (id : ℕ) → (before ≡ after id → ⊥) → follows before id ≡ false
not_after other id h = refl
not_after (after i) id h = ne_eqb _ _ (λ e. h (ap (λ (x : ℕ). after x) e))

not_follows : (before : Before) (id : ℕ) → follows before id ≡ false → before ≡ after id → ⊥
not_follows other id f e = let z : ◌≡◌ {A = ℕ} 0 1 = cc in omega arith
not_follows (after i) id f e = eqb-false i id f (cc)

-- Errors.

-- an error of a part, by its checks
of_exactly : {A : Type 0} {P R : ℕ → ℕ → Type 0} {Q : Refusals} {r : Read A} → Exactly r Q → OfError P r → ((code offset : ℕ) → Q code offset input.Single → R code offset) → OfError R r
of_exactly h no_error f = no_error
of_exactly h (an_error {code = c} {offset = o} e) f = an_error (f c o ((h c o input.Single).0 refl))

-- so many bytes, and what follows them
of_whole :
    {A : Type 0} {P : ℕ → ℕ → Type 0} (s : Bytes) (at n : ℕ) (f : ℕ → Read A) → (length s < at + n → P 1 (length s)) → (at + n ≤ length s → OfError P (f (at + n))) →
    OfError P (whole s at n >>= f)
of_whole {A} {P} s at n f h k = go (leb (at + n) (length s)) refl
  where
    go : (t : Bool) → leb (at + n) (length s) ≡ t → OfError P (whole s at n >>= f)
    go true e = let i : at + n ≤ length s = leb-true _ _ e in rw (whole_fits s at n i) (k i)
    go false e = let i : length s < at + n = leb-false _ _ e in rw (whole_short s at n i) (an_error (h i))

of_known : {P : ℕ → ℕ → Type 0} (at : ℕ) (o : Option ℕ) → (o ≡ none → P 10 at) → OfError P (known_child at o)
unfolding known_child
of_known at none h = an_error (h refl)
of_known at (some k) h = no_error

module _ (S : List Schema) (s : Bytes) where
  -- An error of the reader is a fault. `next` is asked only past the token.
  module _ (next : Before → ℕ → Read (List Element)) (before : Before) (at : ℕ) (inside : at < length s) (known : Known S before)
      (ih : (b : Before) (e : ℕ) → Known S b → at < e → e ≤ length s → OfError (SectionFault S s b e) (next b e)) where
    -- the id behind the token, and what follows it
    of_id : (f : ℕ → Read (List Element)) → HasId (get_or s at 0) → (at + 5 ≤ length s → OfError (SectionFault S s before at) (f (at + 5))) →
        OfError (SectionFault S s before at) (whole s (at + 1) 4 >>= f)
    of_id f t k =
        let z : at + 5 ≡ at + 1 + 4 = omega arith in
        of_whole s (at + 1) 4 f (λ h. in_id inside t (omega arith)) (λ h. rw z at (k (omega arith)))

    of_element : (k : Token) → token_of (get_or s at 0) ≡ k → Says k (get_or s at 0) → OfError (SectionFault S s before at) (element S s next before at k)
    unfolding element
    of_element done_token _ t =
        of_bind _ _ (of_check (eqb (length s) (at + 1)) 15 _ (λ e. bytes_after t (let z : (length s ≡ at + 1 → ⊥) = eqb-false _ _ e in omega arith))) (λ _ _. no_error)
    of_element parent_token _ t =
        of_bind _ _ (of_exactly (exactly_row_end_alone (columns_at S 0) s (at + 1)) (of_row s (columns_at S 0) (at + 1)) (λ _ _ h. in_parent inside t h))
        (λ e r.
        let (l, i) = row_ends (columns_at S 0) s (at + 1) e r in
        of_bind _ _ (of_other (λ _ _ h. behind_parent inside t r h) (ih other e (known_other S) (omega arith) i)) (λ _ _. no_error))
    of_element child_token _ t =
        of_id _ (of_child t)
        (λ w.
        of_bind _ _ (of_known at (child_number S (id_at s at)) (λ h. unknown_id t w h))
        (λ k q.
        let c : child_number S (id_at s at) ≡ some k = known_ok at _ k q in
        of_bind _ _ (of_exactly (exactly_row_end_alone (columns_at S k) s (at + 5)) (of_row s (columns_at S k) (at + 5)) (λ _ _ h. in_child t w c h))
        (λ e r.
        let (l, i) = row_ends (columns_at S k) s (at + 5) e r in
        of_bind _ _ (of_other (λ _ _ h. behind_child t w c r h) (ih _ e (known_after S _ k c) (omega arith) i)) (λ _ _. no_error))))
    of_element change_token _ t =
        of_id _ (of_change t)
        (λ w.
        of_bind _ _ (of_check (follows before (id_at s at)) 11 at (λ f. alone (a_change t) w (not_follows before (id_at s at) f)))
        (λ u f.
        let b : before ≡ after (id_at s at) = follows_after before (id_at s at) (check_ok _ _ _ u f) in
        of_bind _ _ (of_known at (child_number S (id_at s at)) (λ h. absurd (known (id_at s at) b h)))
        (λ k q.
        let c : child_number S (id_at s at) ≡ some k = known_ok at _ k q in
        rw b
        (of_bind _ _ (of_exactly (exactly_update_end_alone (columns_at S k) s (at + 5)) (of_update s (columns_at S k) (at + 5)) (λ _ _ h. in_change t w c h))
        (λ e r.
        let (l, i) = update_ends (columns_at S k) s (at + 5) e r in
        of_bind _ _ (of_other (λ _ _ h. behind_change t w c r h) (ih other e (known_other S) (omega arith) i)) (λ _ _. no_error))))))
    of_element delete_token _ t =
        of_id _ (of_delete t)
        (λ w.
        of_bind _ _ (of_check (follows before (id_at s at)) 11 at (λ f. alone (a_delete t) w (not_follows before (id_at s at) f)))
        (λ u f.
        let b : before ≡ after (id_at s at) = follows_after before (id_at s at) (check_ok _ _ _ u f) in
        rw b (of_bind _ _ (of_other (λ _ _ h. behind_delete t w h) (ih other (at + 5) (known_other S) (omega arith) w)) (λ _ _. no_error))))
    of_element unknown_token e t = an_error (unknown_token_lem inside (no_token_by (get_or s at 0) e))

  of_scan : (fuel : ℕ) (before : Before) (at : ℕ) → Known S before → at ≤ length s → length s - at < fuel → OfError (SectionFault S s before at) (scan S s fuel before at)
  unfolding scan
  of_scan zero before at k h f = absurd (omega arith)
  of_scan (suc fuel) before at k h f =
      of_whole s at 1 _ (λ i. no_token (omega arith))
      (λ i. of_element (scan S s fuel) before at (omega arith) k (λ c e kn l j. of_scan fuel c e kn j (omega arith)) (token_of (get_or s at 0)) refl (says (get_or s at 0)))

  -- A fault is the reader's answer.

  -- the reader at a token of this byte
  scan_token : (fuel : ℕ) (before : Before) (at t : ℕ) → length s - at < fuel → at < length s → get_or s at 0 ≡ t →
      scan S s fuel before at ≡ element S s (scan S s (fuel - 1)) before at (token_of t)
  unfolding scan
  scan_token zero before at t f h e = absurd (omega arith)
  scan_token (suc fuel) before at t f h e =
      let z : suc fuel - 1 ≡ fuel = omega arith in
      rw (z, whole_fits s at 1 (omega arith), e)

  id_whole : (at : ℕ) → at + 5 ≤ length s → whole s (at + 1) 4 ≡ ok (at + 5)
  id_whole at w =
      let z : at + 5 ≡ at + 1 + 4 = omega arith in
      rw z (whole_fits s (at + 1) 4 (omega arith))

  told : {before : Before} {at code offset : ℕ} → SectionFault S s before at code offset → (fuel : ℕ) → at ≤ length s → length s - at < fuel →
      scan S s fuel before at ≡ bad code offset input.Single
  unfolding scan element token_of check known_child
  told (no_token h) zero l f = absurd (omega arith)
  told {at = at} (no_token h) (suc fuel) l f = rw (whole_short s at 1 (omega arith))
  told {before} {at} (unknown_token_lem i n) fuel l f = scan_token fuel before at (get_or s at 0) f i refl ∙ rw (token_by_none (get_or s at 0) n)
  told {before} {at} (bytes_after t h) fuel l f = scan_token fuel before at 0x0F f (omega arith) t ∙ rw (ne_eqb (length s) (at + 1) (λ e. omega arith))
  told {before} {at} (in_id i (of_child t) h) fuel l f = scan_token fuel before at 0x87 f i t ∙ rw (whole_short s (at + 1) 4 (omega arith))
  told {before} {at} (in_id i (of_change t) h) fuel l f = scan_token fuel before at 0x8A f i t ∙ rw (whole_short s (at + 1) 4 (omega arith))
  told {before} {at} (in_id i (of_delete t) h) fuel l f = scan_token fuel before at 0x8C f i t ∙ rw (whole_short s (at + 1) 4 (omega arith))
  told {before} {at} (unknown_id t w n) fuel l f = scan_token fuel before at 0x87 f (omega arith) t ∙ rw (id_whole at w, n)
  told {before} {at} (alone (a_change t) w n) fuel l f = scan_token fuel before at 0x8A f (omega arith) t ∙ rw (id_whole at w, not_after before (id_at s at) n)
  told {before} {at} (alone (a_delete t) w n) fuel l f = scan_token fuel before at 0x8C f (omega arith) t ∙ rw (id_whole at w, not_after before (id_at s at) n)
  told {before} {at} (in_parent {code = c} {offset = o} i t h) fuel l f =
      scan_token fuel before at 0x07 f i t ∙ rw ((exactly_row_end_alone (columns_at S 0) s (at + 1) c o input.Single).1 h)
  told {before} {at} (in_child {k = k} {code = c} {offset = o} t w q h) fuel l f =
      scan_token fuel before at 0x87 f (omega arith) t ∙ rw (id_whole at w, q, (exactly_row_end_alone (columns_at S k) s (at + 5) c o input.Single).1 h)
  told {before} {at} (in_change {k = k} {code = c} {offset = o} t w q h) fuel l f =
      scan_token fuel before at 0x8A f (omega arith) t
      ∙ rw (id_whole at w, eq-eqb (id_at s at) (id_at s at) refl, q, (exactly_update_end_alone (columns_at S k) s (at + 5) c o input.Single).1 h)
  told {before} {at} (behind_parent {e = e} i t r h) fuel l f =
      let (n, j) = row_ends (columns_at S 0) s (at + 1) e r in
      scan_token fuel before at 0x07 f i t ∙ rw (r, told h (fuel - 1) j (omega arith))
  told {before} {at} (behind_child {e = e} {k = k} t w q r h) fuel l f =
      let (n, j) = row_ends (columns_at S k) s (at + 5) e r in
      scan_token fuel before at 0x87 f (omega arith) t ∙ rw (id_whole at w, q, r, told h (fuel - 1) j (omega arith))
  told {before} {at} (behind_change {e = e} {k = k} t w q r h) fuel l f =
      let (n, j) = update_ends (columns_at S k) s (at + 5) e r in
      scan_token fuel before at 0x8A f (omega arith) t ∙ rw (id_whole at w, eq-eqb (id_at s at) (id_at s at) refl, q, r, told h (fuel - 1) j (omega arith))
  told {before} {at} (behind_delete t w h) fuel l f =
      scan_token fuel before at 0x8C f (omega arith) t ∙ rw (id_whole at w, eq-eqb (id_at s at) (id_at s at) refl, told h (fuel - 1) w (omega arith))

  -- The section is refused exactly for its first fault.
  pub exactly_section : Exactly (section S s) (Of input.Single (SectionFault S s other 0))
  unfolding section elements
  exactly_section =
      exactly_last _ (λ es. rows 0 es)
      (exactly_of (of_scan (length s + 1) other 0 (known_other S) (omega arith) (omega arith)) (λ _ _ h. told h (length s + 1) (omega arith) (omega arith)))

-- The rows of a section under these schemas: its faults, and last the room.
pub exactly_rows_fitting : (S : List Schema) (s : Bytes) (numbers : ℕ) →
    Exactly (rows_fitting S s numbers) (Of input.Section (SectionFault S s other 0) then Of input.Table (NoRoom (length (rows_in S s)) (room_for numbers)))
unfolding rows_in
exactly_rows_fitting S s numbers =
    exactly_then (about input.Section (section S s)) _ (exactly_about input.Section (section S s) (exactly_section S s))
    (λ rs e. rw (about_ok input.Section (section S s) rs e) (exactly_last _ (λ _. rs) (exactly_about input.Table _ (exactly_room (length rs) (room_for numbers)))))

-- A section under a schema file: every refusal, exactly.
pub checked_exactly : (file s : Bytes) → Exactly (rows_checked file s) (Sizes (lent input.Schema file ∷ lent input.Section s ∷ []) then CheckFaults file s)
unfolding rows_checked
checked_exactly file s =
    exactly_front file (sizes_one input.Section s) (λ S. about input.Section (section S s))
    (λ _ _. exactly_about input.Section (section (schemas_in file) s) (exactly_section (schemas_in file) s))

-- With a table.
pub listed_exactly : (file s : Bytes) (numbers : ℕ) → Exactly (rows_listed file s numbers) (Sizes (lent input.Schema file ∷ lent input.Section s ∷ []) then ListFaults file s numbers)
unfolding rows_checked rows_listed
listed_exactly file s numbers =
    rw (behind (about input.Schema (sized file)) (about input.Section (sized s)) (about input.Schema (read_schemas file)))
    (exactly_front file (sizes_one input.Section s) (λ S. rows_fitting S s numbers) (λ _ _. exactly_rows_fitting (schemas_in file) s numbers))
  where
    -- the room is asked behind all that
    behind :
        (a b : Read (Unit {0})) (c : Read (List Schema)) →
        ((a >>= λ _. b >>= λ _. c >>= λ S. about input.Section (section S s)) >>= fitting numbers) ≡ (a >>= λ _. b >>= λ _. c >>= λ S. rows_fitting S s numbers)
    behind (bad _ _ _) b c = refl
    behind (ok _) (bad _ _ _) c = refl
    behind (ok _) (ok _) (bad _ _ _) = refl
    behind (ok _) (ok _) (ok S) = refl

-- No code over 15 is of a section: 16 is of the table alone, 19 of a size alone.

section_codes : {S : List Schema} {s : Bytes} {before : Before} {at n offset : ℕ} → 15 < n → SectionFault S s before at n offset → ⊥
section_codes h (no_token _) = omega arith
section_codes h (unknown_token_lem _ _) = omega arith
section_codes h (bytes_after _ _) = omega arith
section_codes h (in_id _ _ _) = omega arith
section_codes h (unknown_id _ _ _) = omega arith
section_codes h (alone _ _ _) = omega arith
section_codes h (in_parent _ _ p) = never_row (foreign (omega arith)) _ _ _ _ _ _ p
section_codes h (in_child _ _ _ p) = never_row (foreign (omega arith)) _ _ _ _ _ _ p
section_codes h (in_change _ _ _ p) = never_update (foreign (omega arith)) _ _ _ _ _ _ p
section_codes h (behind_parent _ _ _ f) = section_codes h f
section_codes h (behind_child _ _ _ _ f) = section_codes h f
section_codes h (behind_change _ _ _ _ f) = section_codes h f
section_codes h (behind_delete _ _ f) = section_codes h f

pub never_section : (S : List Schema) (s : Bytes) {name : Input} (n : ℕ) → 15 < n → Never n (Of name (SectionFault S s other 0))
never_section S s n h = never_of (λ _ f. section_codes h f)

pub never_checked : (file s : Bytes) → Never 19 (CheckFaults file s)
never_checked file s = never_then file_never_size (never_section (schemas_in file) s 19 (omega arith))

pub never_listed : (file s : Bytes) (numbers : ℕ) → Never 19 (ListFaults file s numbers)
never_listed file s numbers = never_then file_never_size (never_then (never_section (schemas_in file) s 19 (omega arith)) (never_room (λ e. omega arith)))

-- No size gives 16, and so no check of a section does.
sizes_never : {l : List Lent} {offset : ℕ} {name : Input} → Sizes l 16 offset name → ⊥
sizes_never (within h p) = sizes_never p

pub never_full : (file s : Bytes) → Never 16 (Sizes (lent input.Schema file ∷ lent input.Section s ∷ []) then CheckFaults file s)
never_full file s = never_then (λ _ _ p. sizes_never p) (never_then file_never_room (never_section (schemas_in file) s 16 (omega arith)))
