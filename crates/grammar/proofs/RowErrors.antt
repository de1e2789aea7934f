-- Which error of a row or of update data can stand where: 1 at the end of the input and nowhere else, the others on a byte of it.
-- Assumes nothing.
use Prim.Native.Nat.{ℕ, zero, suc, ◌+◌, ◌*◌, ◌/◌, ◌<◌, ◌≤◌}
use mathlib.Core.Path.{◌≡◌, refl, sym, ap, ◌∙◌}
use mathlib.Core.List.{List, [], ◌∷◌}
use mathlib.Core.Logic.{◌⊎◌, inl, inr}
use mathlib.Core.Bool.{Bool, true, false, not, true≢false}
use native.Mathlib.Omega.{arith}
use lib.ListN.{length, drop}
use lib.Dec.{leb, ltb}
use Rattle.wire.specs.declared.error.Input.{Input}
use Rattle.wire.specs.declared.error.Input.TheVariants.{Single}
use Rattle.wire.specs.Read.{Bytes, Read, ok, bad, ◌>>=◌, pick, check, whole}
use Rattle.wire.specs.Bits.{map_bytes}
use Rattle.wire.specs.Integers.{read_int}
use Rattle.wire.proofs.Pieces.{whole_ok}
use Rattle.column.specs.declared.column.Column.{Column}
use Rattle.column.specs.Columns.{width, is_variable, is_nullable, prefix_size, length_error}
use Rattle.column.specs.Fields.{allowed, bytes_at, variable_at, field_at}
use Rattle.column.proofs.Laws.{length_either}
use Rattle.walk.specs.Presence.{one, nullables, presence_bytes, Mark, mark, marks, present, chapter_present, clear}
use Rattle.walk.specs.Rows.{Place, past, step, walk, opened, walked, row_end}
use Rattle.walk.specs.Updates.{update_bytes, numbered, chapter_marked, force_broken, carried_in, update_opened, update_walked, update_end}
use Rattle.walk.proofs.Laws.{chapter_plain}
use Rattle.walk.proofs.UpdateLaws.{map_byte}

-- P holds of the code and the offset of the error, if the answer is one; it is one of a single input.
pub data OfError {A : Type 0} (P : ℕ → ℕ → Type 0) : Read A → Type 0 where
  no_error : {a : A} → OfError P (ok a)
  an_error : {code offset : ℕ} → P code offset → OfError P (bad code offset Single)

pub of_check : {P : ℕ → ℕ → Type 0} (t : Bool) (c p : ℕ) → (t ≡ false → P c p) → OfError P (check t c p)
unfolding check
of_check true c p h = no_error
of_check false c p h = an_error (h refl)

pub of_other : {A : Type 0} {P Q : ℕ → ℕ → Type 0} {r : Read A} → ((c p : ℕ) → P c p → Q c p) → OfError P r → OfError Q r
of_other f no_error = no_error
of_other f (an_error h) = an_error (f _ _ h)

pub of_told : {A : Type 0} {P : ℕ → ℕ → Type 0} {r : Read A} {c p : ℕ} {i : Input} → OfError P r → r ≡ bad c p i → P c p × (i ≡ Single)
of_told no_error e = let z : ◌≡◌ {A = ℕ} 0 1 = cc in absurd (omega arith)
of_told {c = c} {p = p} (an_error {code = d} {offset = q} h) e =
    let u : d ≡ c = cc in
    let v : q ≡ p = cc in
    (rw (← u, ← v) h, (cc))

pub of_bind :
    {A B : Type 0} {P : ℕ → ℕ → Type 0} (r : Read A) (g : A → Read B) → OfError P r → ((a : A) → r ≡ ok a → OfError P (g a)) → OfError P (r >>= g)
of_bind (ok a) g h k = k a refl
of_bind (bad c p i) g h k =
    let (x, e) = of_told h refl in
    rw e (an_error x)

-- The errors in an input of n bytes: code and offset.
pub data RowErrorAt (n : ℕ) : ℕ → ℕ → Type 0 where
  short : RowErrorAt n 1 n
  chapter_bit : {p : ℕ} → p < n → RowErrorAt n 12 p
  force_rule : {p : ℕ} → p < n → RowErrorAt n 13 p
  length_rule : {p : ℕ} → p < n → RowErrorAt n 14 p

prefix_positive : (c : Column) → 0 < prefix_size c
unfolding prefix_size
prefix_positive c = go (ltb c.maximum 256)
  where
    go : (t : Bool) → 0 < pick t 1 4
    go true = omega arith
    go false = omega arith

module _ (s : Bytes) where
  pub of_whole : (at n : ℕ) → OfError (RowErrorAt (length s)) (whole s at n)
  unfolding whole
  of_whole at n = of_bind (check (leb (at + n) (length s)) 1 (length s)) _ (of_check _ 1 (length s) (λ _. short)) (λ _ _. no_error)

  -- One field.

  of_allowed : (c : Column) (n at : ℕ) → at < length s → OfError (RowErrorAt (length s)) (allowed (length_error c n) at)
  unfolding allowed
  of_allowed c n at h = go (length_either c n)
    where
      go : (length_error c n ≡ 0) ⊎ (length_error c n ≡ 14) → OfError (RowErrorAt (length s)) (allowed (length_error c n) at)
      go (inl e) = rw e no_error
      go (inr e) = rw e (an_error (length_rule h))

  pub of_bytes : (at w n : ℕ) → OfError (RowErrorAt (length s)) (bytes_at s at w n)
  unfolding bytes_at
  of_bytes at w n = of_bind _ _ (of_whole at w) (λ _ _. no_error)

  pub of_int : (at n : ℕ) → OfError (RowErrorAt (length s)) (read_int s at n)
  unfolding read_int
  of_int at n = of_bind _ _ (of_whole at n) (λ _ _. no_error)

  pub of_variable : (c : Column) (at : ℕ) → OfError (RowErrorAt (length s)) (variable_at c s at)
  unfolding variable_at
  of_variable c at =
      of_bind _ _ (of_whole at (prefix_size c))
      (λ b w.
      let (p, l) = whole_ok s at (prefix_size c) b w in
      let h : at < length s = omega (arith, p.ends, p.inside, prefix_positive c) in
      of_bind _ _ (of_int at (prefix_size c)) (λ n _. of_bind _ _ (of_allowed c n at h) (λ _ _. of_bytes b n 1)))

  pub of_field : (c : Column) (at : ℕ) → OfError (RowErrorAt (length s)) (field_at c s at)
  unfolding field_at
  of_field c at = go (is_variable c)
    where
      go : (t : Bool) → OfError (RowErrorAt (length s)) (pick t (variable_at c s at) (bytes_at s at (width c) 0))
      go true = of_variable c at
      go false = of_bytes at (width c) 0

  of_step : (has : Mark → Bool) (m : Mark) (w : Place) → OfError (RowErrorAt (length s)) (step has s m w)
  unfolding step
  of_step has m w = go (has m)
    where
      go : (t : Bool) → OfError (RowErrorAt (length s)) (pick t (field_at m.column s w.at >>= (λ f. ok (past w f))) (ok w))
      go true = of_bind _ _ (of_field m.column w.at) (λ _ _. no_error)
      go false = no_error

  pub of_walk : (has : Mark → Bool) (k : ℕ) (ms : List Mark) (w : Place) → OfError (RowErrorAt (length s)) (walk has s k ms w)
  unfolding walk
  of_walk has zero ms w = no_error
  of_walk has (suc k) [] w = no_error
  of_walk has (suc k) (m ∷ ms) w = of_bind _ _ (of_step has m w) (λ v _. of_walk has k ms v)

  -- Rules over a map of n bits at `at`.
  module _ (n at : ℕ) (inside : at + map_bytes n ≤ length s) where
    of_chapters :
        (seen : Bytes) (b : ℕ) (cs : List Column) → b + nullables cs ≤ n →
        OfError (RowErrorAt (length s)) (clear (chapter_present seen) 12 at (marks b cs))
    unfolding clear marks nullables
    of_chapters seen b [] h = no_error
    of_chapters seen b (c ∷ cs) h =
        of_bind _ _ (of_check (not (chapter_present seen (mark c b))) 12 _ (λ e. go (is_nullable c) refl e))
        (λ _ _. of_chapters seen (b + one (is_nullable c)) cs (omega arith))
      where
        go : (t : Bool) → is_nullable c ≡ t → not (chapter_present seen (mark c b)) ≡ false → RowErrorAt (length s) 12 (at + b / 8)
        go true q e = chapter_bit {p = at + b / 8} (omega (arith, map_byte n b (omega (arith, ap one q))))
        go false q e = absurd (true≢false (ap not (sym (chapter_plain seen c b q)) ∙ e))

    of_rule :
        (broken : Mark → Bool) (code : ℕ) → ((p : ℕ) → p < length s → RowErrorAt (length s) code p) → (b : ℕ) (cs : List Column) → b + length cs ≤ n →
        OfError (RowErrorAt (length s)) (clear broken code at (numbered b cs))
    unfolding clear numbered
    of_rule broken code f b [] h = no_error
    of_rule broken code f b (c ∷ cs) h =
        of_bind _ _ (of_check (not (broken (mark c b))) code _ (λ _. f _ (omega (arith, map_byte n b (omega arith)))))
        (λ _ _. of_rule broken code f (suc b) cs (omega arith))

  pub of_opened : (columns : List Column) (at : ℕ) → OfError (RowErrorAt (length s)) (opened columns s at)
  unfolding opened presence_bytes
  of_opened columns at =
      of_bind _ _ (of_whole at (presence_bytes columns))
      (λ b w.
      let (p, l) = whole_ok s at (presence_bytes columns) b w in
      of_bind _ _ (of_chapters (nullables columns) at (omega (arith, p.ends, p.inside)) (drop at s) 0 columns (omega arith)) (λ _ _. no_error))

  pub of_row : (columns : List Column) (at : ℕ) → OfError (RowErrorAt (length s)) (row_end columns s at)
  unfolding row_end walked
  of_row columns at =
      of_bind _ _ (of_opened columns at)
      (λ _ _. of_bind _ _ (of_walk (present (drop at s)) (length columns) (marks 0 columns) _) (λ _ _. no_error))

  pub of_update : (columns : List Column) (at : ℕ) → OfError (RowErrorAt (length s)) (update_end columns s at)
  unfolding update_end update_opened update_walked update_bytes
  of_update columns at =
      of_bind _ _
      (of_bind _ _ (of_whole at (2 * update_bytes columns))
      (λ b w.
      let (p, l) = whole_ok s at (2 * update_bytes columns) b w in
      let u : ℕ = map_bytes (length columns) in
      let h : at + u ≤ length s = omega (arith, p.ends, p.inside) in
      let i : at + u + u ≤ length s = omega (arith, p.ends, p.inside) in
      of_bind _ _ (of_rule (length columns) at h (chapter_marked (drop at s)) 12 (λ _ q. chapter_bit q) 0 columns (omega arith))
      (λ _ _.
      of_bind _ _ (of_rule (length columns) (at + u) i (chapter_marked (drop (at + u) s)) 12 (λ _ q. chapter_bit q) 0 columns (omega arith))
      (λ _ _.
      of_bind _ _ (of_rule (length columns) (at + u) i (force_broken (drop at s) (drop (at + u) s)) 13 (λ _ q. force_rule q) 0 columns (omega arith))
      (λ _ _. no_error)))))
      (λ _ _. of_bind _ _ (of_walk (carried_in columns s at) (length columns) (numbered 0 columns) _) (λ _ _. no_error))
