-- Words and forms that are made column by column, and of all schemas.
-- Assumes nothing.
use Prim.Native.Nat.{ℕ, ◌+◌, ◌*◌, ◌%◌, ◌≤◌, ◌<◌}
use mathlib.Core.Path.{◌≡◌, refl, sym, ap, ◌∙◌}
use mathlib.Core.Logic.{◌⊎◌, inl, inr}
use mathlib.Core.List.{List, [], ◌∷◌, ◌++◌, append-nil}
use mathlib.Core.Bool.{Bool, true, false}
use native.Mathlib.Numerals.{add-one}
use native.Mathlib.Omega.{arith}
use lib.Dec.{ltb}
use borrow.Author.Tests.{ltb-true, ltb-false}
use borrow.Author.Count.{below_none}
use lib.ListN.{length, get_or, set, take, length-append, length-set, length-take, get_or-append}
use lib.Seq.{take_all, take-suc, get_or-set_same, get_or-set_other, get_or-append_seam}
use Rattle.wire.specs.Bits.{map_bytes}
use Rattle.wire.specs.Read.{pick}
use Rattle.column.specs.declared.column.Column.{Column}
use Rattle.column.specs.Columns.{width, is_nullable, is_stop}
use Rattle.column.specs.Stops.{Stop, no_stop, stop_of, stop_word}
use Rattle.column.proofs.Stops.{width_few}
use Rattle.stops.proofs.StopLaws.{stop_in_lem, stop_fits}
use Rattle.walk.specs.Presence.{no_column, one, nullables, presence_bytes, Mark, mark, no_mark, marks, bit_of}
use Rattle.walk.specs.Updates.{update_bytes}
use Rattle.walk.specs.Leaps.{stops_from, tail_from}
use Rattle.walk.proofs.Laws.{bit_zero, bit_next, bit_all, length_marks, mark_at, map_few}
use Rattle.walk.proofs.Leap.{stops_append, tail_append, update_stops, update_stop}
use Rattle.tree.specs.Schemas.{as_column}
use Rattle.tree.specs.Table.{entry_in}
use Rattle.shapes.specs.Shapes.{form_of, first_in, stops_in, map_in, tail_in, always_in, bit_mask, SayOne, SayAll, Added}
use Rattle.shapes.specs.Data.{data_stops}
use Rattle.shapes.proofs.FormParts.{form_first, form_stops, form_map, form_tail, form_always}

pub one_most : (b : Bool) → one b ≤ 1
one_most true = omega arith
one_most false = omega arith

-- Words.

stop_bit : (free : Bool) (c : Column) (gap bit : ℕ) → (stop_of free c gap bit).bit ≡ pick free bit 63
unfolding stop_of
stop_bit free c gap bit = refl

-- the word of a column in a slot says its stop, with the mask of its bit
pub word_says :
    (free : Bool) (c : Column) (gap bit slot : ℕ) {w m : ℕ} → gap < 65536 → bit < 64 → c ≡ as_column (entry_in slot) →
    w ≡ stop_word (stop_of free c (gap % 65536) (bit % 64)) → m ≡ bit_mask (pick free bit 63) → SayOne w m (stop_of free c gap bit)
word_says free c gap bit slot {w} {m} g b e h k =
    let x : gap % 65536 ≡ gap = omega arith in
    let y : bit % 64 ≡ bit = omega arith in
    let most : c.maximum < 65536 = rw e (omega arith) in
    record { stop = rw (h, x, y) (stop_in_lem (stop_fits free c gap bit g b most)); bit = rw stop_bit k }

-- Numbers from `next` on say these stops; all others are what they were.
pub record Saying (next : ℕ) (ts : List Stop) (words₀ words : List ℕ) : Type 0 where
  pub says : SayAll words next ts
  pub long : length words ≡ length words₀
  pub others : (j : ℕ) → (j < next) ⊎ (next + 2 * length ts ≤ j) → get_or words j 0 ≡ get_or words₀ j 0

say_start : (next : ℕ) (words : List ℕ) → Saying next [] words words
say_start next words = record { says = below_none _; long = refl; others = λ j h. refl }

-- one stop more
say_more :
    {next : ℕ} {ts : List Stop} {words₀ words : List ℕ} (w m at : ℕ) {t : Stop} → Saying next ts words₀ words → SayOne w m t →
    at ≡ next + 2 * length ts → at + 1 < length words → Saying next (ts ++ (t ∷ [])) words₀ (set (set words at w) (at + 1) m)
say_more {next} {ts} {words₀} {words} w m at {t} s e a h =
    record {
      says = λ i l. here i l (ltb i (length ts)) refl;
      long = simp length-set s.long;
      others = λ j l. behind j (rw n at l);
    }
  where
    n : length (ts ++ (t ∷ [])) ≡ length ts + 1
    n = length-append ts (t ∷ [])

    more : List ℕ
    more = set (set words at w) (at + 1) m

    other : (j : ℕ) → (j ≡ at → ⊥) → (j ≡ at + 1 → ⊥) → get_or more j 0 ≡ get_or words j 0
    other j x y = get_or-set_other (set words at w) (at + 1) j m 0 y ∙ get_or-set_other words at j w 0 x

    its_word : get_or more at 0 ≡ w
    its_word = get_or-set_other (set words at w) (at + 1) at m 0 (λ z. omega arith) ∙ get_or-set_same words at w 0 (omega arith)

    its_mask : get_or more (at + 1) 0 ≡ m
    its_mask = get_or-set_same (set words at w) (at + 1) m 0 (simp length-set h)

    here :
        (i : ℕ) → i < length (ts ++ (t ∷ [])) → (b : Bool) → ltb i (length ts) ≡ b →
        SayOne (get_or more (next + 2 * i) 0) (get_or more (next + 2 * i + 1) 0) (get_or (ts ++ (t ∷ [])) i no_stop)
    here i l true b =
        let k : i < length ts = ltb-true _ _ b in
        let x : get_or more (next + 2 * i) 0 ≡ get_or words (next + 2 * i) 0 = other _ (λ z. omega arith) (λ z. omega arith) in
        let y : get_or more (next + 2 * i + 1) 0 ≡ get_or words (next + 2 * i + 1) 0 = other _ (λ z. omega arith) (λ z. omega arith) in
        rw (x, y, get_or-append ts (t ∷ []) no_stop i k) (s.says i k)
    here i l false b =
        let k : length ts ≤ i = ltb-false _ _ b in
        let z : i ≡ length ts = omega (arith, n) in
        rw (z, ← a, its_word, its_mask, get_or-append_seam ts t [] no_stop) e

    behind : (j : ℕ) → (j < next) ⊎ (next + 2 * (length ts + 1) ≤ j) → get_or more j 0 ≡ get_or words₀ j 0
    behind j (inl l) = other j (λ z. omega arith) (λ z. omega arith) ∙ s.others j (inl l)
    behind j (inr l) = other j (λ z. omega arith) (λ z. omega arith) ∙ s.others j (inr (omega arith))

-- The words of update data, of the first i columns.

module _ (cs : List Column) (next : ℕ) where
  abbrev pub Updating : (words₀ words : List ℕ) (i : ℕ) → Type 0
  Updating words₀ words i = Saying next (take i (data_stops true cs)) words₀ words

  pub updates_start : (words : List ℕ) → Updating words words 0
  updates_start words = say_start next words

  pub updates_next :
      {words₀ words : List ℕ} {i w m : ℕ} {c : Column} (slot : ℕ) → Updating words₀ words i → i < length cs → length cs ≤ 64 → next + 2 * i + 1 < length words →
      c ≡ get_or cs i no_column → c ≡ as_column (entry_in slot) → w ≡ stop_word (stop_of true c 0 (i % 64)) → m ≡ bit_mask i →
      Updating words₀ (set (set words (next + 2 * i) w) (next + 2 * i + 1) m) (i + 1)
  updates_next {words₀} {words} {i} {w} {m} {c} slot u h few room e f g k =
      let ts : List Stop = data_stops true cs in
      let n : length (take i ts) ≡ i = omega (arith, length-take i ts, update_stops cs, h) in
      let t : get_or ts i no_stop ≡ stop_of true c 0 i = update_stop cs i h ∙ ap (λ (x : Column). stop_of true x 0 i) (sym e) in
      let more : take (i + 1) ts ≡ take i ts ++ (stop_of true c 0 i ∷ []) =
      ap (λ (k : ℕ). take k ts) (add-one i) ∙ take-suc ts i no_stop (omega (arith, update_stops cs, h)) ∙ rw t refl in
      rw more (say_more w m (next + 2 * i) u (word_says true c 0 i slot (omega arith) (omega arith) f g k) (omega (arith, n)) room)

  -- all of them, and the form
  pub updates_end :
      {words₀ words : List ℕ} {i bytes form : ℕ} → Updating words₀ words i → length cs ≤ i → length cs ≤ 64 → next + 2 * length cs < 65536 →
      next + 2 * length cs ≤ length words → bytes ≡ map_bytes (length cs) → form ≡ form_of next (length cs) bytes 0 0 → Added true cs next words₀ words form
  unfolding update_bytes
  updates_end {words₀} {words} {i} {bytes} {form} u h few near room b f =
      let n : length (data_stops true cs) ≡ length cs = update_stops cs in
      let all : take i (data_stops true cs) ≡ data_stops true cs = take_all i (data_stops true cs) (omega (arith, n, h)) in
      let p : next < 65536 = omega arith in
      let q : length cs < 256 = omega arith in
      let r : bytes < 256 = omega (arith, b, map_few (length cs)) in
      let t : 0 < 65536 = omega arith in
      let first : first_in form ≡ next = ap (λ (x : ℕ). first_in x) f ∙ form_first next (length cs) bytes 0 0 p q r t in
      record {
        formed =
            record {
              stops = rw (first, ← all) u.says;
              inside = omega (arith, first);
              count = ap (λ (x : ℕ). stops_in x) f ∙ form_stops next (length cs) bytes 0 0 p q r t ∙ sym n;
              map = ap (λ (x : ℕ). map_in x) f ∙ form_map next (length cs) bytes 0 0 p q r t ∙ b;
              tail = ap (λ (x : ℕ). tail_in x) f ∙ form_tail next (length cs) bytes 0 0 p q r t;
              always = ap (λ (x : ℕ). always_in x) f ∙ form_always next (length cs) bytes 0 0 p q r t;
            };
        first = first;
        long = u.long;
        others = λ j l. u.others j (rw (all, n) l);
      }

-- The stops and the counts of the first i columns of a schema, with the words from `next` on.
pub record Growing (cs : List Column) (next : ℕ) (words₀ words : List ℕ) (stops gap bit i : ℕ) : Type 0 where
  pub below : i ≤ length cs
  pub said : Saying next (stops_from is_nullable is_stop 0 (take i (marks 0 cs))) words₀ words
  pub count : stops ≡ length (stops_from is_nullable is_stop 0 (take i (marks 0 cs)))
  pub tail : gap ≡ tail_from is_stop 0 (take i (marks 0 cs))
  pub bits : bit ≡ bit_of cs i
  pub few_stops : stops ≤ i
  pub few_gap : gap ≤ 16 * i
  pub few_bits : bit ≤ i

pub grow_start : (cs : List Column) (next : ℕ) (words : List ℕ) → Growing cs next words words 0 0 0 0
unfolding stops_from tail_from
grow_start cs next words =
    record {
      below = omega arith;
      said = say_start next words;
      count = refl;
      tail = refl;
      bits = sym (bit_zero cs);
      few_stops = omega arith;
      few_gap = omega arith;
      few_bits = omega arith;
    }

-- Column i.
module _
    {cs : List Column} {next : ℕ} {words₀ words : List ℕ} {stops gap bit i : ℕ}
    (grown : Growing cs next words₀ words stops gap bit i) (h : i < length cs) (c : Column) (e : c ≡ get_or cs i no_column)
  where
    abbrev ms : List Mark
    ms = take i (marks 0 cs)

    -- with its bit it comes behind the columns before it
    marks_more : take (i + 1) (marks 0 cs) ≡ ms ++ (mark c bit ∷ [])
    marks_more =
        let m : get_or (marks 0 cs) i no_mark ≡ mark c bit = mark_at cs i h ∙ rw (e, grown.bits) refl in
        ap (λ (j : ℕ). take j (marks 0 cs)) (add-one i) ∙ take-suc (marks 0 cs) i no_mark (omega (arith, length_marks 0 cs, h)) ∙ rw m refl

    stops_more : stops_from is_nullable is_stop 0 (take (i + 1) (marks 0 cs)) ≡ stops_from is_nullable is_stop 0 ms ++ stops_from is_nullable is_stop gap (mark c bit ∷ [])
    stops_more = rw (marks_more, grown.tail) (stops_append is_nullable is_stop 0 ms (mark c bit ∷ []))

    tail_more : tail_from is_stop 0 (take (i + 1) (marks 0 cs)) ≡ tail_from is_stop gap (mark c bit ∷ [])
    tail_more = rw (marks_more, grown.tail) (tail_append is_stop 0 ms (mark c bit ∷ []))

    module _ {n : ℕ} (a-bit : n ≡ one (is_nullable c)) where
      bits_on : bit + n ≡ bit_of cs (i + 1)
      bits_on = rw (a-bit, e, grown.bits) (sym (bit_next cs i h))

      -- a stop, and its word
      pub grow_stop :
          is_stop c ≡ true → (slot : ℕ) {w m : ℕ} → c ≡ as_column (entry_in slot) → w ≡ stop_word (stop_of (is_nullable c) c (gap % 65536) (bit % 64)) →
          m ≡ bit_mask (pick (is_nullable c) bit 63) → length cs ≤ 64 → next + 2 * stops + 1 < length words →
          Growing cs next words₀ (set (set words (next + 2 * stops) w) (next + 2 * stops + 1) m) (stops + 1) 0 (bit + n) (i + 1)
      unfolding stops_from tail_from
      grow_stop s slot {w} {m} a b k few room =
          let old : List Stop = stops_from is_nullable is_stop 0 ms in
          let t : Stop = stop_of (is_nullable c) c gap bit in
          let more : stops_from is_nullable is_stop 0 (take (i + 1) (marks 0 cs)) ≡ old ++ (t ∷ []) = stops_more ∙ rw s refl in
          let says : SayOne w m t =
          word_says (is_nullable c) c gap bit slot (omega (arith, grown.few_gap, h, few)) (omega (arith, grown.few_bits, h, few)) a b k in
          record {
            below = omega arith;
            said = rw more (say_more w m (next + 2 * stops) grown.said says (omega (arith, grown.count)) room);
            count = rw more (omega (arith, grown.count, length-append old (t ∷ [])));
            tail = sym (tail_more ∙ rw s refl);
            bits = bits_on;
            few_stops = omega (arith, grown.few_stops);
            few_gap = omega arith;
            few_bits = omega (arith, grown.few_bits, a-bit, one_most (is_nullable c));
          }

      -- any other column
      pub grow_plain : is_stop c ≡ false → {w : ℕ} → w ≡ width c → Growing cs next words₀ words stops (gap + w) (bit + n) (i + 1)
      unfolding stops_from tail_from
      grow_plain s {w} b =
          let old : List Stop = stops_from is_nullable is_stop 0 ms in
          let none : stops_from is_nullable is_stop 0 (take (i + 1) (marks 0 cs)) ≡ old = stops_more ∙ rw s (append-nil old) in
          record {
            below = omega arith;
            said = rw none grown.said;
            count = rw none grown.count;
            tail = rw b (sym (tail_more ∙ rw s refl));
            bits = bits_on;
            few_stops = omega (arith, grown.few_stops);
            few_gap = omega (arith, grown.few_gap, b, width_few c);
            few_bits = omega (arith, grown.few_bits, a-bit, one_most (is_nullable c));
          }

-- All columns: the form of the schema.
module _
    {cs : List Column} {next : ℕ} {words₀ words : List ℕ} {stops gap bit i : ℕ}
    (grown : Growing cs next words₀ words stops gap bit i) (few : length cs ≤ 64) (near : next + 2 * length cs < 65536)
    {bytes : ℕ} (b : bytes ≡ map_bytes bit)
  where
    -- its parts have their room
    pub grow_fits : (next < 65536) × (stops < 256) × (bytes < 256) × (gap < 65536)
    grow_fits =
        let l : i ≤ 64 = omega (arith, grown.below) in (
          omega arith,
          omega (arith, grown.few_stops),
          omega (arith, b, map_few bit, grown.few_bits),
          omega (arith, grown.few_gap),
        )

    pub grow_end :
        length cs ≤ i → next + 2 * length cs ≤ length words → {form always : ℕ} → always ≡ one (ltb bit (length cs)) → form ≡ form_of next stops bytes gap always →
        Added false cs next words₀ words form
    unfolding presence_bytes
    grow_end l room {form} {always} y f =
        let z : i ≡ length cs = omega (arith, grown.below, l) in
        let whole : take i (marks 0 cs) ≡ marks 0 cs = take_all i (marks 0 cs) (omega (arith, length_marks 0 cs, l)) in
        let s : stops_from is_nullable is_stop 0 (take i (marks 0 cs)) ≡ data_stops false cs = ap (stops_from is_nullable is_stop 0) whole in
        let n : stops ≡ length (data_stops false cs) = grown.count ∙ ap length s in
        let all : bit ≡ nullables cs = grown.bits ∙ ap (bit_of cs) z ∙ bit_all cs in
        let (p, q, r, t) = grow_fits in
        let first : first_in form ≡ next = ap (λ (x : ℕ). first_in x) f ∙ form_first next stops bytes gap always p q r t in
        record {
          formed =
              record {
                stops = rw (first, ← s) grown.said.says;
                inside = omega (arith, first);
                count = ap (λ (x : ℕ). stops_in x) f ∙ form_stops next stops bytes gap always p q r t ∙ n;
                map = ap (λ (x : ℕ). map_in x) f ∙ form_map next stops bytes gap always p q r t ∙ b ∙ ap map_bytes all;
                tail = ap (λ (x : ℕ). tail_in x) f ∙ form_tail next stops bytes gap always p q r t ∙ grown.tail ∙ ap (tail_from is_stop 0) whole;
                always =
                    ap (λ (x : ℕ). always_in x) f ∙ form_always next stops bytes gap always p q r t
                    ∙ y ∙ ap (λ (x : ℕ). one (ltb x (length cs))) all;
              };
          first = first;
          long = grown.said.long;
          others = λ j h. grown.said.others j (wider j h);
        }
      where
        wider :
            (j : ℕ) → (j < next) ⊎ (next + 2 * length cs ≤ j) →
            (j < next) ⊎ (next + 2 * length (stops_from is_nullable is_stop 0 (take i (marks 0 cs))) ≤ j)
        wider j (inl h) = inl h
        wider j (inr h) = inr (omega (arith, grown.count, grown.few_stops, grown.below))
