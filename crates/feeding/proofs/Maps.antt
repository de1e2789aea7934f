-- The maps of row data as a piece by itself say what they say in the input.
-- Assumes nothing.
use Prim.Native.Nat.{ℕ, zero, suc, ◌+◌, ◌*◌, ◌-◌, ◌/◌, ◌%◌, ◌^◌, ◌≤◌, ◌<◌}
use mathlib.Core.List.{List, [], ◌∷◌, ◌++◌}
use mathlib.Core.Bool.{Bool, true, false, not}
use mathlib.Core.Path.{◌≡◌, refl, sym, ap, ◌∙◌}
use native.Mathlib.Omega.{arith}
use native.Mathlib.Nat.{add-zero}
use lib.ListN.{length, drop, length-drop, get_or-append}
use lib.Seq.{drop-drop, drop-append-le}
use lib.Dec.{eqb}
use Rattle.wire.specs.declared.error.Input.TheVariants.{Single}
use Rattle.wire.specs.Read.{Bytes, Read, ok, bad, ◌>>=◌, pick, check}
use Rattle.wire.specs.Bits.{bit_at, bit_set, map_bytes}
use Rattle.wire.proofs.Laws.{whole_fits}
use Rattle.wire.proofs.Pieces.{Piece, bind_same, bind_bind}
use Rattle.column.specs.declared.column.Column.{Column}
use Rattle.column.specs.Columns.{is_chapter, is_nullable}
use Rattle.column.specs.Fields.{field_at}
use Rattle.walk.specs.Presence.{one, nullables, presence_bytes, Mark, mark, marks, present, chapter_present, clear}
use Rattle.walk.specs.Rows.{Place, place, past, step, walk, opened, walked, row_end}
use Rattle.walk.specs.Updates.{numbered, update_bytes, chapter_marked, force_broken, carried, carried_in, update_opened, update_walked, update_end}
use Rattle.walk.specs.Data.{data_end, data_opened, data_marks, data_has}
use Rattle.walk.proofs.Laws.{length_marks}
use Rattle.walk.proofs.UpdateLaws.{length_numbered}
use Rattle.feeding.specs.Machine.{maps_size, from}

-- two tests that say the same of these marks
abbrev pub Alike : (p q : Mark → Bool) → List Mark → Type 0
Alike p q [] = Unit {0}
Alike p q (m ∷ ms) = (p m ≡ q m) × Alike p q ms

pub walk_alike : (p q : Mark → Bool) (s : Bytes) (k : ℕ) (ms : List Mark) (w : Place) → Alike p q ms → walk p s k ms w ≡ walk q s k ms w
unfolding walk step
walk_alike p q s zero ms w a = refl
walk_alike p q s (suc k) [] w a = refl
walk_alike p q s (suc k) (m ∷ ms) w (e, a) =
    ap (λ (t : Bool). pick t (field_at m.column s w.at >>= λ f. ok (past w f)) (ok w) >>= λ v. walk p s k ms v) e
    ∙ bind_same (step q s m w) _ _ (λ v _. walk_alike p q s k ms v a)

pub clear_alike : (p q : Mark → Bool) (code at o : ℕ) (ms : List Mark) → Alike p q ms → clear p code (at + o) ms ≡ from at (clear q code o ms)
unfolding clear check
clear_alike p q code at o [] a = refl
clear_alike p q code at o (m ∷ ms) (e, a) =
    ap (λ (t : Bool). check (not t) code (at + o + m.bit / 8) >>= λ _. clear p code (at + o) ms) e ∙ go (clear_alike p q code at o ms a) (q m)
  where
    go :
        clear p code (at + o) ms ≡ from at (clear q code o ms) → (t : Bool) →
        (check (not t) code (at + o + m.bit / 8) >>= λ _. clear p code (at + o) ms) ≡ from at (check (not t) code (o + m.bit / 8) >>= λ _. clear q code o ms)
    go ih true = let z : at + o + m.bit / 8 ≡ at + (o + m.bit / 8) = omega arith in ap (λ (n : ℕ). bad code n Single) z
    go ih false = ih

-- A map and what stands behind it.

bit_front : (map rest : Bytes) (b : ℕ) → b < 8 * length map → bit_set (map ++ rest) b ≡ bit_set map b
unfolding bit_set bit_at
bit_front map rest b h = ap (λ (x : ℕ). eqb (x / 2 ^ (7 - b % 8) % 2) 1) (get_or-append map rest 0 (b / 8) (omega arith))

module _ (map rest : Bytes) where
  present_alike : (b : ℕ) (cs : List Column) → b + nullables cs ≤ 8 * length map → Alike (present (map ++ rest)) (present map) (marks b cs)
  unfolding marks nullables present
  present_alike b [] h = tt
  present_alike b (c ∷ cs) h = (go (is_nullable c) refl, present_alike (b + one (is_nullable c)) cs (omega arith))
    where
      go :
          (n : Bool) → is_nullable c ≡ n →
          pick (is_chapter c) false (pick n (bit_set (map ++ rest) b) true) ≡ pick (is_chapter c) false (pick n (bit_set map b) true)
      go true q = rw (bit_front map rest b (omega (arith, ap one q)))
      go false q = refl

  chapter_alike : (b : ℕ) (cs : List Column) → b + nullables cs ≤ 8 * length map → Alike (chapter_present (map ++ rest)) (chapter_present map) (marks b cs)
  unfolding marks nullables chapter_present
  chapter_alike b [] h = tt
  chapter_alike b (c ∷ cs) h = (go (is_nullable c) refl, chapter_alike (b + one (is_nullable c)) cs (omega arith))
    where
      go :
          (n : Bool) → is_nullable c ≡ n →
          pick (is_chapter c) (pick n (bit_set (map ++ rest) b) false) false ≡ pick (is_chapter c) (pick n (bit_set map b) false) false
      go true q = rw (bit_front map rest b (omega (arith, ap one q)))
      go false q = refl

-- a test that asks only for the bits below n of two maps
module _ (p q : Mark → Bool) (n : ℕ) (same : (c : Column) (i : ℕ) → i < n → p (mark c i) ≡ q (mark c i)) where
  numbered_alike : (b : ℕ) (cs : List Column) → b + length cs ≤ n → Alike p q (numbered b cs)
  unfolding numbered
  numbered_alike b [] h = tt
  numbered_alike b (c ∷ cs) h = (same c b (omega arith), numbered_alike (suc b) cs (omega arith))

-- An error of a piece, and one after the other.
pub from_bind : {A B : Type 0} (at : ℕ) (r : Read A) (g : A → Read B) → from at (r >>= g) ≡ from at r >>= λ a. from at (g a)
from_bind at (ok a) g = refl
from_bind at (bad c o i) g = refl

three :
    (at x y : ℕ) (a b c : Read (Unit {0})) →
    (from at a >>= λ _. from at b >>= λ _. from at c >>= λ _. ok x) ≡ (from at (a >>= λ _. b >>= λ _. c >>= λ _. ok y) >>= λ _. ok x)
three at x y (ok _) (ok _) (ok _) = refl
three at x y (ok _) (ok _) (bad c o i) = refl
three at x y (ok _) (bad c o i) r = refl
three at x y (bad c o i) q r = refl

module _ (s : Bytes) (start : ℕ) {e : ℕ} (map : Bytes) (p : Piece s start e map) (cs : List Column) where
  -- Presence maps.
  module _ (l : length map ≡ presence_bytes cs) where
    room : 0 + nullables cs ≤ 8 * length map
    unfolding presence_bytes map_bytes
    room = omega arith

    pub opened_piece : opened cs s start ≡ (from start (opened cs map 0) >>= λ _. ok (start + presence_bytes cs))
    unfolding opened
    opened_piece =
        let c : clear (chapter_present (drop start s)) 12 start (marks 0 cs) ≡ from start (clear (chapter_present map) 12 0 (marks 0 cs)) =
        ap (λ (n : ℕ). clear (chapter_present (drop start s)) 12 n (marks 0 cs)) (sym (add-zero start))
        ∙ ap (λ (x : Bytes). clear (chapter_present x) 12 (start + 0) (marks 0 cs)) p.splits
        ∙ clear_alike (chapter_present (map ++ drop e s)) (chapter_present map) 12 start 0 (marks 0 cs) (chapter_alike map (drop e s) 0 cs room) in
        simp (whole_fits s start (presence_bytes cs) (omega (arith, p.ends, p.inside)), whole_fits map 0 (presence_bytes cs) (omega arith), c, from_bind)
        (sym (bind_bind (from start (clear (chapter_present map) 12 0 (marks 0 cs))) _ _))

    pub walked_piece : walked cs s start (length cs) ≡ walk (present map) s (length (marks 0 cs)) (marks 0 cs) (place (start + presence_bytes cs) 0)
    unfolding walked
    walked_piece =
        ap (λ (x : Bytes). walk (present x) s (length cs) (marks 0 cs) (place (start + presence_bytes cs) 0)) p.splits
        ∙ walk_alike (present (map ++ drop e s)) (present map) s (length cs) (marks 0 cs) _ (present_alike map (drop e s) 0 cs room)
        ∙ ap (λ (n : ℕ). walk (present map) s n (marks 0 cs) (place (start + presence_bytes cs) 0)) (sym (length_marks 0 cs))

  -- The maps of update data.
  module _ (l : length map ≡ 2 * update_bytes cs) where
    wide : (i : ℕ) → i < length cs → i < 8 * update_bytes cs
    unfolding update_bytes map_bytes
    wide i h = omega arith

    behind_first : drop (start + update_bytes cs) s ≡ drop (0 + update_bytes cs) map ++ drop e s
    behind_first =
        let z : 0 + update_bytes cs ≡ update_bytes cs = omega arith in
        sym (drop-drop (update_bytes cs) start s)
        ∙ ap (drop (update_bytes cs)) p.splits
        ∙ drop-append-le (update_bytes cs) map (drop e s) (omega arith)
        ∙ ap (λ (n : ℕ). drop n map ++ drop e s) (sym z)

    update_bit : (i : ℕ) → i < length cs → bit_set (drop start s) i ≡ bit_set map i
    update_bit i h = ap (λ (x : Bytes). bit_set x i) p.splits ∙ bit_front map (drop e s) i (omega (arith, wide i h))

    force_bit : (i : ℕ) → i < length cs → bit_set (drop (start + update_bytes cs) s) i ≡ bit_set (drop (0 + update_bytes cs) map) i
    force_bit i h =
        ap (λ (x : Bytes). bit_set x i) behind_first
        ∙ bit_front (drop (0 + update_bytes cs) map) (drop e s) i (omega (arith, wide i h, length-drop (0 + update_bytes cs) map))

    marked_alike : Alike (chapter_marked (drop start s)) (chapter_marked map) (numbered 0 cs)
    unfolding chapter_marked
    marked_alike = numbered_alike (chapter_marked (drop start s)) (chapter_marked map) (length cs) (λ c i h. rw (update_bit i h)) 0 cs (omega arith)

    forced_alike : Alike (chapter_marked (drop (start + update_bytes cs) s)) (chapter_marked (drop (0 + update_bytes cs) map)) (numbered 0 cs)
    unfolding chapter_marked
    forced_alike =
        numbered_alike (chapter_marked (drop (start + update_bytes cs) s)) (chapter_marked (drop (0 + update_bytes cs) map)) (length cs) (λ c i h. rw (force_bit i h)) 0 cs
        (omega arith)

    rule_alike :
        Alike (force_broken (drop start s) (drop (start + update_bytes cs) s)) (force_broken map (drop (0 + update_bytes cs) map)) (numbered 0 cs)
    unfolding force_broken
    rule_alike =
        numbered_alike (force_broken (drop start s) (drop (start + update_bytes cs) s)) (force_broken map (drop (0 + update_bytes cs) map)) (length cs)
        (λ c i h. rw (update_bit i h, force_bit i h)) 0 cs (omega arith)

    carried_alike : Alike (carried_in cs s start) (carried_in cs map 0) (numbered 0 cs)
    unfolding carried_in carried
    carried_alike =
        numbered_alike (carried_in cs s start) (carried_in cs map 0) (length cs) (λ c i h. rw (update_bit i h, force_bit i h)) 0 cs (omega arith)

    pub update_opened_piece : update_opened cs s start ≡ (from start (update_opened cs map 0) >>= λ _. ok (start + 2 * update_bytes cs))
    unfolding update_opened
    update_opened_piece =
        let z : start ≡ start + 0 = omega arith in
        let y : start + update_bytes cs ≡ start + (0 + update_bytes cs) = omega arith in
        let c1 : clear (chapter_marked (drop start s)) 12 start (numbered 0 cs) ≡ from start (clear (chapter_marked map) 12 0 (numbered 0 cs)) =
        ap (λ (n : ℕ). clear (chapter_marked (drop start s)) 12 n (numbered 0 cs)) z
        ∙ clear_alike (chapter_marked (drop start s)) (chapter_marked map) 12 start 0 (numbered 0 cs) marked_alike in
        let c2 :
        clear (chapter_marked (drop (start + update_bytes cs) s)) 12 (start + update_bytes cs) (numbered 0 cs)
        ≡ from start (clear (chapter_marked (drop (0 + update_bytes cs) map)) 12 (0 + update_bytes cs) (numbered 0 cs)) =
        ap (λ (n : ℕ). clear (chapter_marked (drop (start + update_bytes cs) s)) 12 n (numbered 0 cs)) y
        ∙ clear_alike (chapter_marked (drop (start + update_bytes cs) s)) (chapter_marked (drop (0 + update_bytes cs) map)) 12 start (0 + update_bytes cs) (numbered 0 cs) forced_alike in
        let c3 :
        clear (force_broken (drop start s) (drop (start + update_bytes cs) s)) 13 (start + update_bytes cs) (numbered 0 cs)
        ≡ from start (clear (force_broken map (drop (0 + update_bytes cs) map)) 13 (0 + update_bytes cs) (numbered 0 cs)) =
        ap (λ (n : ℕ). clear (force_broken (drop start s) (drop (start + update_bytes cs) s)) 13 n (numbered 0 cs)) y
        ∙ clear_alike (force_broken (drop start s) (drop (start + update_bytes cs) s)) (force_broken map (drop (0 + update_bytes cs) map)) 13 start (0 + update_bytes cs) (numbered 0 cs)
        rule_alike in
        rw (whole_fits s start (2 * update_bytes cs) (omega (arith, p.ends, p.inside)), whole_fits map 0 (2 * update_bytes cs) (omega arith), c1, c2, c3)
        (three start (start + 2 * update_bytes cs) (0 + 2 * update_bytes cs) (clear (chapter_marked map) 12 0 (numbered 0 cs))
        (clear (chapter_marked (drop (0 + update_bytes cs) map)) 12 (0 + update_bytes cs) (numbered 0 cs))
        (clear (force_broken map (drop (0 + update_bytes cs) map)) 13 (0 + update_bytes cs) (numbered 0 cs)))

    pub update_walked_piece :
        update_walked cs s start (length cs) ≡ walk (carried_in cs map 0) s (length (numbered 0 cs)) (numbered 0 cs) (place (start + 2 * update_bytes cs) 0)
    unfolding update_walked
    update_walked_piece =
        walk_alike (carried_in cs s start) (carried_in cs map 0) s (length cs) (numbered 0 cs) _ carried_alike
        ∙ ap (λ (n : ℕ). walk (carried_in cs map 0) s n (numbered 0 cs) (place (start + 2 * update_bytes cs) 0)) (sym (length_numbered 0 cs))

-- the walk over the fields whose marks are left
abbrev pub fields_from : (update : Bool) → List Column → Bytes → Bytes → List Mark → ℕ → Read ℕ
fields_from u cs map s ms at = walk (data_has u cs map 0) s (length ms) ms (place at 0) >>= λ w. ok w.at

-- where row data end, by the piece that is their maps
pub data_piece :
    (u : Bool) (cs : List Column) (s : Bytes) (start e : ℕ) (map : Bytes) → Piece s start e map → length map ≡ maps_size u cs →
    data_end u cs s start ≡ (from start (data_opened u cs map 0) >>= λ _. fields_from u cs map s (data_marks u cs) (start + maps_size u cs))
unfolding row_end update_end
data_piece false cs s start e map p l =
    rw (opened_piece s start map p cs l, walked_piece s start map p cs l) (bind_bind (from start (opened cs map 0)) _ _)
data_piece true cs s start e map p l =
    rw (update_opened_piece s start map p cs l, update_walked_piece s start map p cs l) (bind_bind (from start (update_opened cs map 0)) _ _)
