-- Maps: the bits that a reader looks up by number are the bits that the grammar takes in order, and the checks and choices of columns
-- by number are those of `Present` and `Carried`.
-- Assumes nothing.
use Prim.Native.Nat.{ℕ, zero, suc, ◌+◌, ◌*◌, ◌/◌, ◌%◌, ◌<◌, ◌≤◌}
use mathlib.Core.Path.{◌≡◌, refl, sym, ap, ◌∙◌, subst}
use mathlib.Core.List.{List, [], ◌∷◌, ◌++◌}
use mathlib.Core.Bool.{Bool, true, false, not, true≢false}
use native.Mathlib.Omega.{arith}
use native.Mathlib.Numerals.{add-one}
use native.Mathlib.Nat.{add-zero}
use lib.ListN.{length, drop, get_or}
use lib.Seq.{drop-cons}
use borrow.Author.Tests.{not-true}
use Rattle.wire.specs.Read.{Bytes, ok, pick, check}
use Rattle.wire.specs.Bits.{bit_at, bit_set, map_bytes}
use Rattle.wire.proofs.Pieces.{Piece, bind_ok, check_ok}
use Rattle.column.specs.declared.column.Column.{Column}
use Rattle.column.specs.Columns.{is_chapter, is_nullable}
use Rattle.walk.specs.Presence.{one, nullables, Mark, mark, marks, present, chapter_present, clear}
use Rattle.walk.specs.Updates.{numbered, chapter_marked, force_broken, carried}
use Rattle.grammar.specs.Grammar.{byte_bits, bits, Present, no_column_lem, always, set, unset, a_chapter, Carried, no_column_left, unchanged, value, forced_null}

-- A map has eight bits a byte.
bits_length : (map : Bytes) → length (bits map) ≡ 8 * length map
unfolding bits byte_bits
bits_length [] = refl
bits_length (b ∷ bs) = omega (arith, bits_length bs)

-- Bytes that begin with a map: their bits by number are the map's bits in order.
pub record Begins (seen map : Bytes) : Type 0 where
  pub bit : (k : ℕ) → k < 8 * length map → get_or (bits map) k false ≡ bit_set seen k

bit_of_lem : (map rest : Bytes) (k : ℕ) → k < 8 * length map → get_or (bits map) k false ≡ bit_set (map ++ rest) k
unfolding bits byte_bits bit_set bit_at
bit_of_lem [] rest k h = absurd (omega arith)
bit_of_lem (b ∷ bs) rest zero h = refl
bit_of_lem (b ∷ bs) rest (suc zero) h = refl
bit_of_lem (b ∷ bs) rest (suc (suc zero)) h = refl
bit_of_lem (b ∷ bs) rest (suc (suc (suc zero))) h = refl
bit_of_lem (b ∷ bs) rest (suc (suc (suc (suc zero)))) h = refl
bit_of_lem (b ∷ bs) rest (suc (suc (suc (suc (suc zero))))) h = refl
bit_of_lem (b ∷ bs) rest (suc (suc (suc (suc (suc (suc zero)))))) h = refl
bit_of_lem (b ∷ bs) rest (suc (suc (suc (suc (suc (suc (suc zero))))))) h = refl
bit_of_lem (b ∷ bs) rest (suc (suc (suc (suc (suc (suc (suc (suc j)))))))) h =
    let d : suc (suc (suc (suc (suc (suc (suc (suc j))))))) / 8 ≡ suc (j / 8) = omega arith in
    let m : suc (suc (suc (suc (suc (suc (suc (suc j))))))) % 8 ≡ j % 8 = omega arith in
    rw (d, m) (bit_of_lem bs rest j (omega arith))

-- what stands from the start of a piece on begins with it
pub piece_begins : {s : Bytes} {a b : ℕ} {map : Bytes} → Piece s a b map → Begins (drop a s) map
piece_begins {s} {a} {b} {map} p = subst (λ (l : Bytes). Begins l map) (sym p.splits) (record { bit = bit_of_lem map (drop b s) })

-- a map in as many bytes as needed has bits enough
pub enough : (n : ℕ) (map : Bytes) → length map ≡ map_bytes n → 0 + n ≤ 8 * length map
unfolding map_bytes
enough n map e = omega arith

module _ {seen map : Bytes} (same : Begins seen map) where
  -- a bit, and what follows it
  bit_first : (k : ℕ) → k < 8 * length map → drop k (bits map) ≡ bit_set seen k ∷ drop (k + 1) (bits map)
  bit_first k h = rw (add-one k, ← same.bit k h) (drop-cons (bits map) k false (omega (arith, bits_length map)))

  -- a bit that is known, and what follows it
  bit_known :
      (k : ℕ) (t : Bool) (bs : List Bool) → k < 8 * length map → drop k (bits map) ≡ t ∷ bs → (bit_set seen k ≡ t) × (drop (k + 1) (bits map) ≡ bs)
  bit_known k t bs h d =
      let e : bit_set seen k ∷ drop (k + 1) (bits map) ≡ t ∷ bs = sym (bit_first k h) ∙ d in
      ((cc), (cc))

-- A rule is kept exactly where no mark breaks it.
pub data Nowhere (broken : Mark → Bool) : List Mark → Type 0 where
  nowhere_end : Nowhere broken []
  nowhere_next : (m : Mark) {ms : List Mark} → broken m ≡ false → Nowhere broken ms → Nowhere broken (m ∷ ms)

pub clear_sound : (broken : Mark → Bool) (code at : ℕ) (ms : List Mark) (u : Unit {0}) → clear broken code at ms ≡ ok u → Nowhere broken ms
unfolding clear
clear_sound broken code at [] u r = nowhere_end
clear_sound broken code at (m ∷ ms) u r =
    let (v, t, r₁) = bind_ok _ _ u r in
    nowhere_next m (not-true _ (check_ok _ _ _ v t)) (clear_sound broken code at ms u r₁)

pub clear_complete : {broken : Mark → Bool} {ms : List Mark} (code at : ℕ) → Nowhere broken ms → clear broken code at ms ≡ ok tt
unfolding clear check
clear_complete code at nowhere_end = refl
clear_complete code at (nowhere_next m f n) = rw f (clear_complete code at n)

-- The columns of the marks that pass a test, in order.
abbrev pub keep : Bool → Column → List Column → List Column
keep true c cs = c ∷ cs
keep false c cs = cs

unfoldable pub chosen : (Mark → Bool) → List Mark → List Column
chosen test [] = []
chosen test (m ∷ ms) = keep (test m) m.column (chosen test ms)

-- The presence map.

present_by :
    (c : Column) (cs qs : List Column) (bs : List Bool) (k : ℕ) (x n t : Bool) → is_chapter c ≡ x → is_nullable c ≡ n →
    (n ≡ true → drop k bs ≡ t ∷ drop (k + 1) bs) → pick x (pick n t false) false ≡ false → Present cs (drop (k + one n) bs) qs →
    Present (c ∷ cs) (drop k bs) (keep (pick x false (pick n t true)) c qs)
present_by c cs qs bs k true true true ex en d f p = absurd (true≢false f)
present_by c cs qs bs k true true false ex en d f p = rw (d refl) (unset en p)
present_by c cs qs bs k true false t ex en d f p = a_chapter ex en (rw (add-zero k) at p)
present_by c cs qs bs k false true true ex en d f p = rw (d refl) (set ex en p)
present_by c cs qs bs k false true false ex en d f p = rw (d refl) (unset en p)
present_by c cs qs bs k false false t ex en d f p = always ex en (rw (add-zero k) at p)

pub present_sound :
    {seen map : Bytes} → Begins seen map → (cs : List Column) (k : ℕ) → k + nullables cs ≤ 8 * length map → Nowhere (chapter_present seen) (marks k cs) →
    Present cs (drop k (bits map)) (chosen (present seen) (marks k cs))
unfolding nullables marks chapter_present present chosen
present_sound same [] k h n = no_column_lem
present_sound {seen} {map} same (c ∷ cs) k h (nowhere_next _ f n) =
    present_by c cs (chosen (present seen) (marks (k + one (is_nullable c)) cs)) (bits map) k (is_chapter c) (is_nullable c) (bit_set seen k) refl refl
    (λ e. bit_first same k (omega (arith, ap one e))) f (present_sound same cs (k + one (is_nullable c)) (omega arith) n)

-- what `Present` tells of a reader
pub record PresentRead (seen : Bytes) (k : ℕ) (cs ps : List Column) : Type 0 where
  pub no_chapter : Nowhere (chapter_present seen) (marks k cs)
  pub same : chosen (present seen) (marks k cs) ≡ ps

pick_none : (b : Bool) → pick b false false ≡ false
pick_none true = refl
pick_none false = refl

pub present_complete :
    {cs ps : List Column} {bs : List Bool} {seen map : Bytes} → Present cs bs ps → Begins seen map → (k : ℕ) → k + nullables cs ≤ 8 * length map →
    drop k (bits map) ≡ bs → PresentRead seen k cs ps
unfolding nullables marks chapter_present present chosen
present_complete no_column_lem b k h d = record { no_chapter = nowhere_end; same = refl }
present_complete {seen = seen} (always {c = c} {cs = cs} ex en p) b k h d =
    let z : k + one (is_nullable c) ≡ k = rw en (add-zero k) in
    let r = present_complete p b k (omega arith) d in
    let n : Nowhere (chapter_present seen) (marks (k + one (is_nullable c)) cs) = rw z r.no_chapter in
    record { no_chapter = nowhere_next (mark c k) (rw ex) n; same = rw (z, ex, en) (ap (λ (l : List Column). c ∷ l) r.same) }
present_complete {seen = seen} (set {c = c} {cs = cs} {bs = bs} ex en p) b k h d =
    let z : one (is_nullable c) ≡ 1 = rw en in
    let (t, d') = bit_known b k true bs (omega arith) d in
    let r = present_complete p b (k + 1) (omega arith) d' in
    let n : Nowhere (chapter_present seen) (marks (k + one (is_nullable c)) cs) = rw z r.no_chapter in
    record { no_chapter = nowhere_next (mark c k) (rw ex) n; same = rw (z, ex, en, t) (ap (λ (l : List Column). c ∷ l) r.same) }
present_complete {seen = seen} (unset {c = c} {cs = cs} {bs = bs} en p) b k h d =
    let z : one (is_nullable c) ≡ 1 = rw en in
    let (t, d') = bit_known b k false bs (omega arith) d in
    let r = present_complete p b (k + 1) (omega arith) d' in
    let n : Nowhere (chapter_present seen) (marks (k + one (is_nullable c)) cs) = rw z r.no_chapter in
    record { no_chapter = nowhere_next (mark c k) (rw (en, t) (pick_none (is_chapter c))) n; same = rw (z, en, t, pick_none) r.same }
present_complete {seen = seen} (a_chapter {c = c} {cs = cs} ex en p) b k h d =
    let z : k + one (is_nullable c) ≡ k = rw en (add-zero k) in
    let r = present_complete p b k (omega arith) d in
    let n : Nowhere (chapter_present seen) (marks (k + one (is_nullable c)) cs) = rw z r.no_chapter in
    record { no_chapter = nowhere_next (mark c k) (rw (ex, en)) n; same = rw (z, ex) r.same }

-- The update map and the force-null map.

carried_by :
    (c : Column) (cs qs : List Column) (us fs us' fs' : List Bool) (x n t v : Bool) → is_chapter c ≡ x → is_nullable c ≡ n → us ≡ t ∷ us' → fs ≡ v ∷ fs' →
    pick x t false ≡ false → pick x v false ≡ false → pick v (pick t (not n) true) false ≡ false → Carried cs us' fs' qs →
    Carried (c ∷ cs) us fs (keep (pick t (not v) false) c qs)
carried_by c cs qs us fs us' fs' x n false false ex en eu ef a b f p = rw (eu, ef) (unchanged p)
carried_by c cs qs us fs us' fs' x n false true ex en eu ef a b f p = absurd (true≢false f)
carried_by c cs qs us fs us' fs' true n true v ex en eu ef a b f p = absurd (true≢false a)
carried_by c cs qs us fs us' fs' false n true false ex en eu ef a b f p = rw (eu, ef) (value ex p)
carried_by c cs qs us fs us' fs' false false true true ex en eu ef a b f p = absurd (true≢false f)
carried_by c cs qs us fs us' fs' false true true true ex en eu ef a b f p = rw (eu, ef) (forced_null ex en p)

pub carried_sound :
    {seen seen' update force : Bytes} → Begins seen update → Begins seen' force → (cs : List Column) (k : ℕ) → k + length cs ≤ 8 * length update →
    k + length cs ≤ 8 * length force → Nowhere (chapter_marked seen) (numbered k cs) → Nowhere (chapter_marked seen') (numbered k cs) →
    Nowhere (force_broken seen seen') (numbered k cs) →
    Carried cs (drop k (bits update)) (drop k (bits force)) (chosen (carried seen seen') (numbered k cs))
unfolding numbered chapter_marked force_broken carried chosen
carried_sound u f [] k h i n₁ n₂ n₃ = no_column_left
carried_sound {seen} {seen'} {update} {force} u f (c ∷ cs) k h i (nowhere_next _ a n₁) (nowhere_next _ b n₂) (nowhere_next _ e n₃) =
    let z : k + 1 ≡ suc k = add-one k in
    carried_by c cs (chosen (carried seen seen') (numbered (suc k) cs)) _ _ (drop (suc k) (bits update)) (drop (suc k) (bits force)) (is_chapter c) (is_nullable c) (bit_set seen k)
    (bit_set seen' k) refl refl (rw z at (bit_first u k (omega arith))) (rw z at (bit_first f k (omega arith))) a b e
    (carried_sound u f cs (suc k) (omega arith) (omega arith) n₁ n₂ n₃)

-- what `Carried` tells of a reader
pub record CarriedRead (seen seen' : Bytes) (k : ℕ) (cs ps : List Column) : Type 0 where
  pub no_update : Nowhere (chapter_marked seen) (numbered k cs)
  pub no_force : Nowhere (chapter_marked seen') (numbered k cs)
  pub kept : Nowhere (force_broken seen seen') (numbered k cs)
  pub same : chosen (carried seen seen') (numbered k cs) ≡ ps

pub carried_complete :
    {cs ps : List Column} {us fs : List Bool} {seen seen' update force : Bytes} → Carried cs us fs ps → Begins seen update → Begins seen' force → (k : ℕ) →
    k + length cs ≤ 8 * length update → k + length cs ≤ 8 * length force → drop k (bits update) ≡ us → drop k (bits force) ≡ fs → CarriedRead seen seen' k cs ps
unfolding numbered chapter_marked force_broken carried chosen
carried_complete no_column_left u f k h i d e = record { no_update = nowhere_end; no_force = nowhere_end; kept = nowhere_end; same = refl }
carried_complete (unchanged {c = c} {us = us} {fs = fs} p) u f k h i d e =
    let (t, d') = bit_known u k false us (omega arith) d in
    let (v, e') = bit_known f k false fs (omega arith) e in
    let r = carried_complete p u f (suc k) (omega arith) (omega arith) (rw add-one at d') (rw add-one at e') in
    record {
      no_update = nowhere_next (mark c k) (rw t (pick_none (is_chapter c))) r.no_update;
      no_force = nowhere_next (mark c k) (rw v (pick_none (is_chapter c))) r.no_force;
      kept = nowhere_next (mark c k) (rw v) r.kept;
      same = rw t r.same;
    }
carried_complete (value {c = c} {us = us} {fs = fs} x p) u f k h i d e =
    let (t, d') = bit_known u k true us (omega arith) d in
    let (v, e') = bit_known f k false fs (omega arith) e in
    let r = carried_complete p u f (suc k) (omega arith) (omega arith) (rw add-one at d') (rw add-one at e') in
    record {
      no_update = nowhere_next (mark c k) (rw x) r.no_update;
      no_force = nowhere_next (mark c k) (rw x) r.no_force;
      kept = nowhere_next (mark c k) (rw v) r.kept;
      same = rw (t, v) (ap (λ (l : List Column). c ∷ l) r.same);
    }
carried_complete (forced_null {c = c} {us = us} {fs = fs} x n p) u f k h i d e =
    let (t, d') = bit_known u k true us (omega arith) d in
    let (v, e') = bit_known f k true fs (omega arith) e in
    let r = carried_complete p u f (suc k) (omega arith) (omega arith) (rw add-one at d') (rw add-one at e') in
    record {
      no_update = nowhere_next (mark c k) (rw x) r.no_update;
      no_force = nowhere_next (mark c k) (rw x) r.no_force;
      kept = nowhere_next (mark c k) (rw (v, t, n)) r.kept;
      same = rw (t, v) r.same;
    }
