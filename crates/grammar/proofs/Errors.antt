-- Which error of a section can stand where, and what stands there. So error 1 is at the length of the input, every error names the one
-- input, and the fuel never runs out.
-- Assumes nothing.
use Prim.Native.Nat.{ℕ, zero, suc, ◌+◌, ◌-◌, ◌<◌, ◌≤◌}
use mathlib.Core.Path.{◌≡◌, refl}
use mathlib.Core.List.{List}
use mathlib.Core.Option.{Option, none, some}
use native.Mathlib.Omega.{arith}
use lib.ListN.{length, get_or}
use lib.Dec.{eqb}
use borrow.Author.Tests.{eqb-false}
use Rattle.wire.specs.declared.error.Input.{Input}
use Rattle.wire.specs.declared.error.Input.TheVariants.{Single}
use Rattle.wire.specs.Read.{Bytes, Read, bad, whole}
use Rattle.wire.proofs.Pieces.{check_ok, whole_ok}
use Rattle.column.specs.declared.column.Column.{Column}
use Rattle.walk.specs.Rows.{row_end}
use Rattle.walk.specs.Updates.{update_end}
use Rattle.tree.specs.Schemas.{Schema, child_number}
use Rattle.grammar.specs.Grammar.{Element, Before, other, after, columns_at}
use Rattle.grammar.specs.Reader.{Token, parent_token, child_token, change_token, delete_token, done_token, unknown_token, token_of, known_child, follows, id_at, element, scan, elements, section}
use Rattle.grammar.proofs.Ends.{row_ends, update_ends}
use Rattle.grammar.proofs.Sections.{Says, says, known_ok, follows_after}
use Rattle.grammar.proofs.RowErrors.{OfError, no_error, an_error, of_bind, of_check, of_other, of_told, RowErrorAt, short, chapter_bit, force_rule, length_rule, of_row, of_update}
use Rattle.grammar.proofs.RowErrors as row

-- The errors that there are: code, offset, and what stands there. No error has code 0, by which `scan` says that its fuel ran out.
pub data Reason (schemas : List Schema) (s : Bytes) : ℕ → ℕ → Type 0 where
  in_row : {code offset : ℕ} → RowErrorAt (length s) code offset → Reason schemas s code offset
  unknown_token_lem : {at : ℕ} → at < length s → token_of (get_or s at 0) ≡ unknown_token → Reason schemas s 9 at
  unknown_id : {at : ℕ} → at < length s → get_or s at 0 ≡ 0x87 → child_number schemas (id_at s at) ≡ none → Reason schemas s 10 at
  change_alone : {at : ℕ} → at < length s → get_or s at 0 ≡ 0x8A → Reason schemas s 11 at
  delete_alone : {at : ℕ} → at < length s → get_or s at 0 ≡ 0x8C → Reason schemas s 11 at
  bytes_after : (at : ℕ) → get_or s at 0 ≡ 0x0F → at + 1 < length s → Reason schemas s 15 (at + 1)

-- An id that an 87 before it has is known.
data Known (schemas : List Schema) : Before → Type 0 where
  known_other : Known schemas other
  known_after : {id k : ℕ} → child_number schemas id ≡ some k → Known schemas (after id)

known_some : {S : List Schema} {b : Before} (id : ℕ) → Known S b → b ≡ after id → child_number S id ≡ none → ⊥
known_some id known_other e h = let z : ◌≡◌ {A = ℕ} 0 1 = cc in omega arith
known_some id (known_after k) e h = let z : ◌≡◌ {A = ℕ} 0 1 = cc in omega arith

module _ (S : List Schema) (s : Bytes) where
  of_whole : (at n : ℕ) → OfError (Reason S s) (whole s at n)
  of_whole at n = of_other (λ _ _ h. in_row h) (row.of_whole s at n)

  of_original : (columns : List Column) (at : ℕ) → OfError (Reason S s) (row_end columns s at)
  of_original columns at = of_other (λ _ _ h. in_row h) (of_row s columns at)

  of_change : (columns : List Column) (at : ℕ) → OfError (Reason S s) (update_end columns s at)
  of_change columns at = of_other (λ _ _ h. in_row h) (of_update s columns at)

  of_known : (at : ℕ) (o : Option ℕ) → (o ≡ none → Reason S s 10 at) → OfError (Reason S s) (known_child at o)
  unfolding known_child
  of_known at none h = an_error (h refl)
  of_known at (some k) h = no_error

  -- `next` is asked only past the token
  module _ (next : Before → ℕ → Read (List Element)) (before : Before) (at : ℕ) (inside : at < length s) (kn : Known S before)
      (ih : (b : Before) (e : ℕ) → Known S b → at < e → e ≤ length s → OfError (Reason S s) (next b e)) where
    of_element : (k : Token) → token_of (get_or s at 0) ≡ k → Says k (get_or s at 0) → OfError (Reason S s) (element S s next before at k)
    unfolding element
    of_element done_token _ t =
        of_bind _ _ (of_check (eqb (length s) (at + 1)) 15 _ (λ e. bytes_after at t (let z : (length s ≡ at + 1 → ⊥) = eqb-false _ _ e in omega arith))) (λ _ _. no_error)
    of_element parent_token _ t =
        of_bind _ _ (of_original _ (at + 1))
        (λ e r.
        let (l, i) = row_ends (columns_at S 0) s (at + 1) e r in
        of_bind _ _ (ih other e known_other (omega arith) i) (λ _ _. no_error))
    of_element child_token _ t =
        of_bind _ _ (of_whole (at + 1) 4)
        (λ b w.
        let (p, _) = whole_ok s (at + 1) 4 b w in
        of_bind _ _ (of_known at (child_number S (id_at s at)) (λ h. unknown_id inside t h))
        (λ j k.
        of_bind _ _ (of_original (columns_at S j) b)
        (λ e r.
        let (l, i) = row_ends (columns_at S j) s b e r in
        of_bind _ _ (ih _ e (known_after (known_ok at _ j k)) (omega (arith, p.ends)) i) (λ _ _. no_error))))
    of_element change_token _ t =
        of_bind _ _ (of_whole (at + 1) 4)
        (λ b w.
        let (p, _) = whole_ok s (at + 1) 4 b w in
        of_bind _ _ (of_check (follows before (id_at s at)) 11 at (λ _. change_alone inside t))
        (λ u f.
        of_bind _ _ (of_known at (child_number S (id_at s at)) (λ h. absurd (known_some (id_at s at) kn (follows_after before (id_at s at) (check_ok _ _ _ u f)) h)))
        (λ j _.
        of_bind _ _ (of_change (columns_at S j) b)
        (λ e r.
        let (l, i) = update_ends (columns_at S j) s b e r in
        of_bind _ _ (ih _ e known_other (omega (arith, p.ends)) i) (λ _ _. no_error)))))
    of_element delete_token _ t =
        of_bind _ _ (of_whole (at + 1) 4)
        (λ b w.
        let (p, _) = whole_ok s (at + 1) 4 b w in
        of_bind _ _ (of_check _ 11 at (λ _. delete_alone inside t))
        (λ _ _. of_bind _ _ (ih _ b known_other (omega (arith, p.ends)) p.inside) (λ _ _. no_error)))
    of_element unknown_token e t = an_error (unknown_token_lem inside e)

  of_scan : (fuel : ℕ) (before : Before) (at : ℕ) → Known S before → at ≤ length s → length s - at < fuel → OfError (Reason S s) (scan S s fuel before at)
  unfolding scan
  of_scan zero before at k h f = absurd (omega arith)
  of_scan (suc fuel) before at k h f =
      of_bind _ _ (of_whole at 1)
      (λ b w.
      let (p, l) = whole_ok s at 1 b w in
      of_element (scan S s fuel) before at (omega (arith, p.ends, p.inside)) k (λ c e kn i j. of_scan fuel c e kn j (omega arith)) (token_of (get_or s at 0)) refl
      (says (get_or s at 0)))

  -- Every error of a section is one of these, and one of the one input.
  pub section_errors : (code offset : ℕ) (i : Input) → section S s ≡ bad code offset i → Reason S s code offset × (i ≡ Single)
  unfolding section elements
  section_errors code offset i e = of_told (of_bind _ _ (of_scan (length s + 1) other 0 known_other (omega arith) (omega arith)) (λ _ _. no_error)) e

  -- Error 1 is at the length of the input; no other is.
  reason_short : {offset code : ℕ} → Reason S s code offset → code ≡ 1 → offset ≡ length s
  reason_short (in_row short) e = refl
  reason_short (in_row (chapter_bit _)) e = absurd (omega arith)
  reason_short (in_row (force_rule _)) e = absurd (omega arith)
  reason_short (in_row (length_rule _)) e = absurd (omega arith)
  reason_short (unknown_token_lem _ _) e = absurd (omega arith)
  reason_short (unknown_id _ _ _) e = absurd (omega arith)
  reason_short (change_alone _ _) e = absurd (omega arith)
  reason_short (delete_alone _ _) e = absurd (omega arith)
  reason_short (bytes_after _ _ _) e = absurd (omega arith)

  pub short_at_length : (offset : ℕ) (i : Input) → section S s ≡ bad 1 offset i → offset ≡ length s
  short_at_length offset i e = let (r, _) = section_errors 1 offset i e in reason_short r refl

  reason_inside : {code offset : ℕ} → Reason S s code offset → (code ≡ 1 → ⊥) → offset < length s
  reason_inside (in_row short) e = absurd (e refl)
  reason_inside (in_row (chapter_bit h)) e = h
  reason_inside (in_row (force_rule h)) e = h
  reason_inside (in_row (length_rule h)) e = h
  reason_inside (unknown_token_lem h _) e = h
  reason_inside (unknown_id h _ _) e = h
  reason_inside (change_alone h _) e = h
  reason_inside (delete_alone h _) e = h
  reason_inside (bytes_after _ _ h) e = h

  pub others_inside : (code offset : ℕ) (i : Input) → section S s ≡ bad code offset i → (code ≡ 1 → ⊥) → offset < length s
  others_inside code offset i e h = let (r, _) = section_errors code offset i e in reason_inside r h

  -- The fuel does not run out.
  reason_positive : {code offset : ℕ} → Reason S s code offset → 0 < code
  reason_positive (in_row short) = omega arith
  reason_positive (in_row (chapter_bit _)) = omega arith
  reason_positive (in_row (force_rule _)) = omega arith
  reason_positive (in_row (length_rule _)) = omega arith
  reason_positive (unknown_token_lem _ _) = omega arith
  reason_positive (unknown_id _ _ _) = omega arith
  reason_positive (change_alone _ _) = omega arith
  reason_positive (delete_alone _ _) = omega arith
  reason_positive (bytes_after _ _ _) = omega arith

  pub fuel_lasts : (code offset : ℕ) (i : Input) → section S s ≡ bad code offset i → 0 < code
  fuel_lasts code offset i e = let (r, _) = section_errors code offset i e in reason_positive r
