-- The whole reader on longer and longer bytes: a refusal but 1 stands, a byte behind the done token is 15, and the rows so far only grow.
-- Assumes nothing.
use Prim.Native.Nat.{ℕ, zero, suc, ◌+◌, ◌≤◌}
use mathlib.Core.List.{List, [], ◌∷◌, ◌++◌}
use mathlib.Core.Path.{◌≡◌, refl, sym, ap, ◌∙◌}
use native.Mathlib.Omega.{arith}
use lib.ListN.{length, length-append}
use lib.Seq.{take-append-le}
use Rattle.wire.specs.declared.error.Input.{Input}
use Rattle.wire.specs.declared.error.Input.TheVariants.{Single}
use Rattle.wire.specs.Read.{Bytes, Read, ok, bad}
use Rattle.wire.proofs.Pieces.{bad_ok}
use Rattle.tree.specs.Schemas.{Schema}
use Rattle.grammar.specs.Grammar.{Row}
use Rattle.grammar.specs.Reader.{section}
use Rattle.grammar.proofs.Errors.{short_at_length}
use Rattle.feeding.specs.Answers.{most_rows, whole_rows}
use Rattle.feeding.specs.Machine.{State, between, keep, skip, finished, stopped, byte, feed, start, closed}
use Rattle.section.specs.Table.{row_count}
use Rattle.feeding.proofs.Fed.{section_count, whole_is_fed, Stands, stands, feed_append, feed_stopped}

-- The count of the rows is refused where the rows are.
counted_bad : (r : Read (List Row)) {c o : ℕ} {i : Input} → row_count r ≡ bad c o i → r ≡ bad c o i
counted_bad (ok rs) e = absurd (bad_ok (sym e))
counted_bad (bad d p j) {c} {o} {i} e =
    let x : d ≡ c = cc in
    let y : p ≡ o = cc in
    let z : j ≡ i = cc in
    rw (x, y, z)

module _ (S : List Schema) (s : Bytes) where
  pub count_refused : {c o : ℕ} {i : Input} → section S s ≡ bad c o i → section_count S s ≡ bad c o i
  count_refused e = rw e

  pub section_refused : {c o : ℕ} {i : Input} → section_count S s ≡ bad c o i → section S s ≡ bad c o i
  section_refused e = counted_bad (section S s) e

  pub count_rows : {rs : List Row} → section S s ≡ ok rs → section_count S s ≡ ok (length rs)
  count_rows e = rw e

-- a state that is closed with an error but 1 has stopped; one that is closed with rows is finished
stopped_by : (st : State) {c o : ℕ} {i : Input} → closed st ≡ bad c o i → (c ≡ 1 → ⊥) → st ≡ stopped c o i
stopped_by (between n at before) {c} e h = let z : c ≡ 1 = cc in absurd (h z)
stopped_by (keep n start held more g) {c} e h = let z : c ≡ 1 = cc in absurd (h z)
stopped_by (skip n at more k map j) {c} e h = let z : c ≡ 1 = cc in absurd (h z)
stopped_by (finished n at) e h = absurd (bad_ok (sym e))
stopped_by (stopped d p j) {c} {o} {i} e h =
    let x : d ≡ c = cc in
    let y : p ≡ o = cc in
    let z : j ≡ i = cc in
    rw (x, y, z)

pub finished_by : (st : State) {m : ℕ} → closed st ≡ ok m → (at : ℕ) × (st ≡ finished m at)
finished_by (between n at before) e = absurd (bad_ok e)
finished_by (keep n start held more g) e = absurd (bad_ok e)
finished_by (skip n at more k map j) e = absurd (bad_ok e)
finished_by (finished n at) {m} e = let z : n ≡ m = cc in (at, ap (λ (x : ℕ). finished x at) z)
finished_by (stopped d p j) e = absurd (bad_ok e)

module _ (S : List Schema) (s : Bytes) where
  count_stands : {c o : ℕ} {i : Input} → section_count S s ≡ bad c o i → (c ≡ 1 → ⊥) → (t : Bytes) → section_count S (s ++ t) ≡ bad c o i
  count_stands {c} {o} {i} e h t =
      let st : feed S start s ≡ stopped c o i = stopped_by (feed S start s) (sym (whole_is_fed S s) ∙ e) h in
      whole_is_fed S (s ++ t) ∙ ap closed (feed_append S start s t ∙ ap (λ (x : State). feed S x t) st ∙ feed_stopped S c o i t)

  -- A refusal but 1 stands, whatever follows.
  pub refusal_stands : {c o : ℕ} {i : Input} → section S s ≡ bad c o i → (c ≡ 1 → ⊥) → (t : Bytes) → section S (s ++ t) ≡ bad c o i
  refusal_stands e h t = section_refused S (s ++ t) (count_stands (count_refused S s e) h t)

  -- A byte behind an accepted section is 15, at that byte.
  pub accepted_over : {rs : List Row} → section S s ≡ ok rs → (b : ℕ) (t : Bytes) → section S (s ++ (b ∷ t)) ≡ bad 15 (length s) Single
  unfolding feed byte
  accepted_over {rs} e b t =
      let (at, st) = finished_by (feed S start s) (sym (whole_is_fed S s) ∙ count_rows S s e) in
      let f : feed S start (s ++ (b ∷ t)) ≡ stopped 15 at Single =
      feed_append S start s (b ∷ t) ∙ ap (λ (x : State). feed S x (b ∷ t)) st ∙ feed_stopped S 15 at Single t in
      let q : Stands (length s) (finished (length rs) at) = rw st at (stands S s) in
      section_refused S (s ++ (b ∷ t)) (whole_is_fed S (s ++ (b ∷ t)) ∙ ap closed f ∙ ap (λ (x : ℕ). bad 15 x Single) q)

  -- No state has stopped with 1: that is at the length, and another byte would move it.
  pub stopped_not_one : {c o : ℕ} {i : Input} → feed S start s ≡ stopped c o i → c ≡ 1 → ⊥
  stopped_not_one {c} {o} {i} e z =
      let e1 : feed S start s ≡ stopped 1 o i = e ∙ ap (λ (x : ℕ). stopped x o i) z in
      let e2 : feed S start (s ++ (0 ∷ [])) ≡ stopped 1 o i =
      feed_append S start s (0 ∷ []) ∙ ap (λ (x : State). feed S x (0 ∷ [])) e1 ∙ feed_stopped S 1 o i (0 ∷ []) in
      let a : o ≡ length s = short_at_length S s o i (section_refused S s (whole_is_fed S s ∙ ap closed e1)) in
      let b : o ≡ length (s ++ (0 ∷ [])) =
      short_at_length S (s ++ (0 ∷ [])) o i (section_refused S (s ++ (0 ∷ [])) (whole_is_fed S (s ++ (0 ∷ [])) ∙ ap closed e2)) in
      omega (arith, length-append s (0 ∷ []))

  -- The rows so far only grow.
  most_same : (t : Bytes) (k : ℕ) → k ≤ length s → most_rows S (s ++ t) k ≡ most_rows S s k
  unfolding most_rows
  most_same t zero h = refl
  most_same t (suc k) h = rw (most_same t k (omega arith), take-append-le (suc k) s t h)

  most_more : (k d : ℕ) → most_rows S s k ≤ most_rows S s (k + d)
  unfolding most_rows
  most_more k zero = let z : k + 0 ≡ k = omega arith in rw z (omega arith)
  most_more k (suc d) = let z : k + suc d ≡ suc (k + d) = omega arith in rw z (omega (arith, most_more k d))

pub rows_grow : (S : List Schema) (s t : Bytes) → whole_rows S s ≤ whole_rows S (s ++ t)
unfolding whole_rows
rows_grow S s t =
    let z : length (s ++ t) ≡ length s + length t = length-append s t in
    let a : most_rows S (s ++ t) (length s) ≤ most_rows S (s ++ t) (length s + length t) = most_more S (s ++ t) (length s) (length t) in
    let b : most_rows S (s ++ t) (length s) ≡ most_rows S s (length s) = most_same S s t (length s) (omega arith) in
    rw z (omega arith)
