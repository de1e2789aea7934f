-- What is refused of a page through a plan, whatever its numbers.
-- Assumes nothing.
use Prim.Native.Nat.{ℕ, zero, suc, ◌+◌}
use mathlib.Core.Path.{◌≡◌, refl, sym}
use mathlib.Core.List.{List, [], ◌∷◌}
use mathlib.Core.Bool.{Bool, true, false}
use lib.ListN.{length, drop}
use lib.Dec.{leb}
use borrow.Author.Tests.{leb-false, lt-leb}
use Rattle.wire.specs.declared.error.Input.{Input}
use Rattle.wire.specs.declared.error.Input.TheVariants as input
use Rattle.wire.specs.Read.{Bytes, Read, ok, bad, ◌>>=◌, pick, check}
use Rattle.wire.proofs.Pieces.{bad_ok}
use Rattle.walk.specs.Rows.{Answer}
use Rattle.batch.specs.Spans.{start_in, is_row, span_of, moved, span_in}
use Rattle.batch.specs.Pages.{Numbered, owned_in, page_of, first_in, room_in, rows_in, page_by}
use Rattle.demands.specs.Checks.{Refusals, Never, ◌then◌, Exactly, Of, lent, Sizes}
use Rattle.demands.specs.PageFaults.{Beyond, beyond, PageFault, in_row, of_other, PageFaults}
use Rattle.demands.proofs.Exactly.{moved_error, exactly_then, exactly_last, exactly_about, exactly_check, exactly_size, exactly_sized, never_then, never_of}

-- Pages, by any look-up that is exact.
module _ (look : Bytes → Read Answer) (refuses : Bytes → Refusals) (exact : (part : Bytes) → Exactly (look part) (refuses part)) (s : Bytes) where
  first_there : (room : ℕ) (os : List Numbered) {code offset : ℕ} {name : Input} → first_in look s room os ≡ bad code offset name → PageFault refuses s room os code offset name
  unfolding first_in span_in moved
  first_there room [] e = absurd (bad_ok (sym e))
  first_there zero (o ∷ os) e = absurd (bad_ok (sym e))
  first_there (suc room) (o ∷ os) {code} {offset} {name} e = by_look (look (drop at s)) refl e
    where
      at : ℕ
      at = start_in s o.row.original

      by_name : (c k : ℕ) (n : Input) → refuses (drop at s) c k n → (t : Bool) → is_row n ≡ t →
          ◌≡◌ {A = Read (Unit {0})} (((pick {A = Read Answer} t (bad c (at + k) input.Section) (bad c k n)) >>= λ a. ok (span_of at a)) >>= λ x. ok tt) (bad code offset name) →
          PageFault refuses s (suc room) (o ∷ os) code offset name
      by_name c k n f true t e = moved_error (PageFault refuses s (suc room) (o ∷ os)) e (in_row t f)
      by_name c k n f false t e = moved_error (PageFault refuses s (suc room) (o ∷ os)) e (of_other t f)

      by_look : (a : Read Answer) → look (drop at s) ≡ a → ◌≡◌ {A = Read (Unit {0})} ((moved at a >>= λ a. ok (span_of at a)) >>= λ x. ok tt) (bad code offset name) →
          PageFault refuses s (suc room) (o ∷ os) code offset name
      by_look (ok a) q e = absurd (bad_ok (sym e))
      by_look (bad c k n) q e = by_name c k n ((exact (drop at s) c k n).0 q) (is_row n) refl e

  first_back : {room : ℕ} {os : List Numbered} {code offset : ℕ} {name : Input} → PageFault refuses s room os code offset name → first_in look s room os ≡ bad code offset name
  unfolding first_in span_in moved
  first_back (in_row {o = o} t f) = rw ((exact (drop (start_in s o.row.original) s) _ _ _).1 f, t) refl
  first_back (of_other {o = o} t f) = rw ((exact (drop (start_in s o.row.original) s) _ _ _).1 f, t) refl

  pub page_exactly : (table : List ℕ) (rows from owner room : ℕ) →
      Exactly (page_by look s table rows from owner room) (Sizes (lent input.Section s ∷ []) then PageFaults refuses s table rows from owner room)
  unfolding page_by
  page_exactly table rows from owner room =
      exactly_size input.Section s _
      (λ _. exactly_sized (exactly_then _ _ (exactly_about input.Table _ (exactly_beyond (rows_in (length table)) rows))
      (λ _ _. exactly_then _ _ (exactly_about input.Place _ (exactly_beyond rows from))
      (λ _ _. exactly_last _ (λ (u : Unit {0}). page_of look s rows (room_in room) (owned_in table rows from owner))
      (λ c o n. (first_there (room_in room) (owned_in table rows from owner), first_back))))))
    where
      exactly_beyond : (most number : ℕ) → Exactly (check (leb number most) 18 0) (Of input.Single (Beyond most number))
      exactly_beyond most number = exactly_check (leb number most) 18 0 (λ t. beyond (leb-false _ _ t)) told
        where
          told : (c o : ℕ) → Beyond most number c o → (leb number most ≡ false) × (c ≡ 18) × (o ≡ 0)
          told c o (beyond h) = (lt-leb _ _ h, refl, refl)

-- Codes that are never given.

pub never_page :
    {n : ℕ} {refuses : Bytes → Refusals} (s : Bytes) → (n ≡ 18 → ⊥) → ((start : ℕ) → Never n (refuses (drop (start_in s start) s))) →
    (table : List ℕ) (rows from owner room : ℕ) → Never n (PageFaults refuses s table rows from owner room)
never_page {n} {refuses} s m never table rows from owner room = never_then (never_of (λ _ h. beyond_codes h refl)) (never_then (never_of (λ _ h. beyond_codes h refl)) (λ o i h. by h refl))
  where
    beyond_codes : {a b code offset : ℕ} → Beyond a b code offset → code ≡ n → ⊥
    beyond_codes (beyond h) e = m (sym e)

    by : {k code offset : ℕ} {os : List Numbered} {name : Input} → PageFault refuses s k os code offset name → code ≡ n → ⊥
    by (in_row {o = o} _ p) e = never o.row.original _ _ (rw e at p)
    by (of_other {o = o} _ p) e = never o.row.original _ _ (rw e at p)
