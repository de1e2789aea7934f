-- Masks of columns, made column by column.
-- Assumes nothing.
use Prim.Native.Nat.{ℕ, ◌+◌, ◌*◌, ◌-◌, ◌/◌, ◌%◌, ◌^◌, ◌<◌, ◌≤◌}
use mathlib.Core.Path.{◌≡◌, refl, sym, ap, ◌∙◌}
use mathlib.Core.Logic.{◌⊎◌, inl, inr}
use mathlib.Core.List.{List}
use mathlib.Core.Bool.{Bool, true, false}
use native.Mathlib.Omega.{arith}
use borrow.Author.Count.{below_none, below_more}
use lib.ListN.{length, get_or, set, length-set}
use lib.Seq.{get_or-set_same, get_or-set_other}
use lib.Pow.{pow-add, shl-shr, shr-shr}
use lib.Bits.{bit_or}
use mir.Val.{bool_byte}
use Rattle.maps.specs.Maps.{top_bit}
use Rattle.column.specs.declared.column.Column.{Column}
use Rattle.column.specs.Columns.{is_chapter}
use Rattle.column.specs.Packed.{packed_at}
use Rattle.walk.specs.Presence.{Mark, mark, no_mark, marks, bit_of, one}
use Rattle.walk.specs.Updates.{numbered}
use Rattle.walk.proofs.Laws.{bit_few, length_marks, mark_at}
use Rattle.walk.proofs.Slots.{length_from, asked}
use Rattle.walk.proofs.UpdateLaws.{length_numbered, number_at_lem}
use Rattle.shapes.specs.Shapes.{bit_mask, slice_columns}
use Rattle.shapes.specs.Masks.{Covers, BitAdded, is_marked, is_nested, is_unforced, is_any, Masked, ForcedAdded, MasksAdded}
use Rattle.maps.proofs.MapBits.{bit_small, or_bit}

-- a test in a sum
pub bool_one : (b : Bool) {n : ℕ} → n ≡ bool_byte b → n ≡ one b
bool_one true e = e
bool_one false e = e

-- the mask of a bit, as code makes it
pub mask_is : (i : ℕ) → i < 64 → 9223372036854775808 / 2 ^ i ≡ bit_mask i
mask_is i h =
    let e : 63 - i + i ≡ 63 = omega arith in
    ap (λ (n : ℕ). n / 2 ^ i) (ap (λ (k : ℕ). 2 ^ k) (sym e) ∙ pow-add 2 (63 - i) i) ∙ shl-shr (2 ^ (63 - i)) i

-- One bit more in a mask.

-- the bit that is shifted to place i
pub bit_alone : (i : ℕ) → i < 64 → top_bit (9223372036854775808 / 2 ^ i) i ≡ 1
unfolding top_bit
bit_alone i h =
    let e : i + (63 - i) ≡ 63 = omega arith in
    ap (λ (n : ℕ). n % 2) (shr-shr 9223372036854775808 i (63 - i) ∙ ap (λ (k : ℕ). 9223372036854775808 / 2 ^ k) e)

pub bit_added : (mask i : ℕ) {on : Bool} → i < 64 → BitAdded mask i on (bit_or mask (9223372036854775808 / 2 ^ i))
bit_added mask i h =
    record {
      kept = λ j l e. rw or_bit (omega (arith, e, bit_small (9223372036854775808 / 2 ^ i) j));
      added = λ e. rw or_bit (omega (arith, bit_alone i h, bit_small mask i));
    }

pub bit_kept : (mask i : ℕ) {on : Bool} → on ≡ false → BitAdded mask i on mask
bit_kept mask i f = record { kept = λ j l e. e; added = λ e. cc }

-- the first n marks that pass a test have their bits in a mask
abbrev pub CoversTo : (mask : ℕ) (test : Mark → Bool) (ms : List Mark) (n : ℕ) → Type 0
CoversTo mask test ms n = (i : ℕ) → i < n → test (get_or ms i no_mark) ≡ true → top_bit mask (get_or ms i no_mark).bit ≡ 1

-- one mark more, with its column and its bit
covers_next :
    {mask b r : ℕ} {on : Bool} (test : Mark → Bool) (ms : List Mark) (n : ℕ) → ((i : ℕ) → i < n → (get_or ms i no_mark).bit < 64) → CoversTo mask test ms n →
    (get_or ms n no_mark).bit ≡ b → test (get_or ms n no_mark) ≡ on → BitAdded mask b on r → CoversTo r test ms (n + 1)
covers_next {mask} {b} {r} {on} test ms n few h e f a =
    below_more _ _ (λ i l t. a.kept (get_or ms i no_mark).bit (few i l) (h i l t)) (λ t. rw e (a.added (sym f ∙ t)))

-- the masks of update data, of the first n columns
pub record Masking (cs : List Column) (d u a n : ℕ) : Type 0 where
  pub chapters : CoversTo d is_nested (numbered 0 cs) n
  pub unforced : CoversTo u is_unforced (numbered 0 cs) n
  pub all : CoversTo a is_any (numbered 0 cs) n

pub mask_start : (cs : List Column) → Masking cs 0 0 0 0
mask_start cs = record { chapters = below_none _; unforced = below_none _; all = below_none _ }

-- the mask of presence
abbrev pub Presenting : (cs : List Column) (p n : ℕ) → Type 0
Presenting cs p n = CoversTo p is_marked (marks 0 cs) n

pub present_start : (cs : List Column) → Presenting cs 0 0
present_start cs = below_none _

module _ (slots : List ℕ) (n : ℕ) (c : Column) (few : length slots ≤ 64) (h : n < length slots) (e : c ≡ packed_at slots n) where
  here : n < length (slice_columns slots)
  here = omega (arith, length_from slots (length slots) 0, h)

  bits_few : (i : ℕ) → i < n → (get_or (marks 0 (slice_columns slots)) i no_mark).bit < 64
  bits_few i l =
      omega (arith, few, h, l, ap (λ (m : Mark). m.bit) (mark_at (slice_columns slots) i (omega (arith, here, l))), bit_few (slice_columns slots) i)

  numbers_few : (i : ℕ) → i < n → (get_or (numbered 0 (slice_columns slots)) i no_mark).bit < 64
  numbers_few i l = omega (arith, few, h, l, ap (λ (m : Mark). m.bit) (number_at_lem (slice_columns slots) i (omega (arith, here, l))))

  -- a column more: its bit of the presence map
  pub present_next :
      {mask b r : ℕ} {on : Bool} → Presenting (slice_columns slots) mask n → b ≡ bit_of (slice_columns slots) n →
      on ≡ is_marked (mark c 0) → BitAdded mask b on r → Presenting (slice_columns slots) r (n + 1)
  present_next m g t a =
      covers_next is_marked (marks 0 (slice_columns slots)) n bits_few m
      (ap (λ (m : Mark). m.bit) (mark_at (slice_columns slots) n here) ∙ sym g)
      (ap is_marked (mark_at (slice_columns slots) n here) ∙ asked slots (λ (x : Column). is_marked (mark x 0)) (length slots) n c h e t) a

  -- its bit of a map of update data
  number_next :
      {mask r : ℕ} {on : Bool} (test : Column → Bool) → CoversTo mask (λ m. test m.column) (numbered 0 (slice_columns slots)) n →
      on ≡ test c → BitAdded mask n on r → CoversTo r (λ m. test m.column) (numbered 0 (slice_columns slots)) (n + 1)
  number_next test m t a =
      covers_next (λ (m : Mark). test m.column) (numbered 0 (slice_columns slots)) n numbers_few m
      (ap (λ (m : Mark). m.bit) (number_at_lem (slice_columns slots) n here))
      (ap (λ (m : Mark). test m.column) (number_at_lem (slice_columns slots) n here) ∙ asked slots test (length slots) n c h e t) a

  pub mask_next :
      {d u a d' u' a' : ℕ} {nested unforced : Bool} → Masking (slice_columns slots) d u a n → nested ≡ is_chapter c → BitAdded d n nested d' →
      unforced ≡ is_unforced (mark c 0) → BitAdded u n unforced u' → BitAdded a n true a' → Masking (slice_columns slots) d' u' a' (n + 1)
  mask_next m td ad tu au aa =
      record {
        chapters = number_next is_chapter m.chapters td ad;
        unforced = number_next (λ c. is_unforced (mark c 0)) m.unforced tu au;
        all = number_next (λ c. true) m.all refl aa;
      }

-- The three masks of update data of schema k, put in their places one by one.
module _ (shapes : List ℕ) (k d u a : ℕ) where
  abbrev first : List ℕ
  first = set shapes (8 * k + 3) d

  abbrev second : List ℕ
  second = set first (8 * k + 4) u

  abbrev third : List ℕ
  third = set second (8 * k + 5) a

  mask_1 : 8 * k + 3 < length shapes → get_or third (8 * k + 3) 0 ≡ d
  mask_1 h =
      get_or-set_other second (8 * k + 5) (8 * k + 3) a 0 (omega arith) ∙ get_or-set_other first (8 * k + 4) (8 * k + 3) u 0 (omega arith)
      ∙ get_or-set_same shapes (8 * k + 3) d 0 h

  mask_2 : 8 * k + 4 < length shapes → get_or third (8 * k + 4) 0 ≡ u
  mask_2 h = get_or-set_other second (8 * k + 5) (8 * k + 4) a 0 (omega arith) ∙ get_or-set_same first (8 * k + 4) u 0 (simp length-set h)

  mask_3 : 8 * k + 5 < length shapes → get_or third (8 * k + 5) 0 ≡ a
  mask_3 h = get_or-set_same second (8 * k + 5) a 0 (simp length-set h)

  mask_others : (i : ℕ) → (i < 8 * k + 3) ⊎ (8 * k + 6 ≤ i) → get_or third i 0 ≡ get_or shapes i 0
  mask_others i h =
      get_or-set_other second (8 * k + 5) i a 0 (λ e. away h (omega arith) (omega arith)) ∙ get_or-set_other first (8 * k + 4) i u 0 (λ e. away h (omega arith) (omega arith))
      ∙ get_or-set_other shapes (8 * k + 3) i d 0 (λ e. away h (omega arith) (omega arith))
    where
      away : (i < 8 * k + 3) ⊎ (8 * k + 6 ≤ i) → 8 * k + 3 ≤ i → i ≤ 8 * k + 5 → ⊥
      away (inl l) x y = omega arith
      away (inr l) x y = omega arith

  pub mask_end : (cs : List Column) (n : ℕ) → Masking cs d u a n → length cs ≤ n → 8 * k + 8 ≤ length shapes → ForcedAdded cs k shapes third
  mask_end cs n m l room =
      record {
        forced =
            record {
              chapters = λ i h t. rw (mask_1 (omega arith)) (m.chapters i (omega (arith, length_numbered 0 cs, h, l)) t);
              unforced = λ i h t. rw (mask_2 (omega arith)) (m.unforced i (omega (arith, length_numbered 0 cs, h, l)) t);
              all = λ i h t. rw (mask_3 (omega arith)) (m.all i (omega (arith, length_numbered 0 cs, h, l)) t);
            };
        long = simp length-set;
        others = mask_others;
      }

-- That of presence in its place, and those of update data where there are any.
module _ (shapes : List ℕ) (k p : ℕ) (cs : List Column) (n : ℕ) (m : Presenting cs p n) (l : length cs ≤ n) (room : 8 * k + 8 ≤ length shapes) where
  present_here : (exit : List ℕ) → get_or exit (8 * k + 2) 0 ≡ get_or (set shapes (8 * k + 2) p) (8 * k + 2) 0 → Covers (get_or exit (8 * k + 2) 0) is_marked (marks 0 cs)
  present_here exit e i h t = rw (e ∙ get_or-set_same shapes (8 * k + 2) p 0 (omega arith)) (m i (omega (arith, length_marks 0 cs, h, l)) t)

  away : {i : ℕ} → (i < 8 * k + 2) ⊎ (8 * k + 6 ≤ i) → i ≡ 8 * k + 2 → ⊥
  away (inl g) e = omega arith
  away (inr g) e = omega arith

  pub masks_top : k ≡ 0 → MasksAdded cs k shapes (set shapes (8 * k + 2) p)
  masks_top z =
      record {
        masked = record { present = present_here (set shapes (8 * k + 2) p) refl; forced = λ g. absurd (omega arith) };
        long = simp length-set;
        others = λ i h. get_or-set_other shapes (8 * k + 2) i p 0 (away h);
      }

  pub masks_nested : {exit : List ℕ} → ForcedAdded cs k (set shapes (8 * k + 2) p) exit → MasksAdded cs k shapes exit
  masks_nested {exit} f =
      record {
        masked = record { present = present_here exit (f.others (8 * k + 2) (inl (omega arith))); forced = λ g. f.forced };
        long = f.long ∙ simp length-set;
        others = λ i h. f.others i (wider h) ∙ get_or-set_other shapes (8 * k + 2) i p 0 (away h);
      }
    where
      wider : {i : ℕ} → (i < 8 * k + 2) ⊎ (8 * k + 6 ≤ i) → (i < 8 * k + 3) ⊎ (8 * k + 6 ≤ i)
      wider (inl g) = inl (omega arith)
      wider (inr g) = inr g

-- The masks say the same where their numbers are the same.
pub masks_kept :
    {cs : List Column} {k : ℕ} {old new : List ℕ} → ((i : ℕ) → 8 * k + 2 ≤ i → i < 8 * k + 6 → get_or new i 0 ≡ get_or old i 0) → Masked old k cs → Masked new k cs
masks_kept {cs} {k} {old} {new} same m =
    record {
      present = λ i h t. rw (same (8 * k + 2) (omega arith) (omega arith)) (m.present i h t);
      forced = λ g.
          record {
            chapters = λ i h t. rw (same (8 * k + 3) (omega arith) (omega arith)) ((m.forced g).chapters i h t);
            unforced = λ i h t. rw (same (8 * k + 4) (omega arith) (omega arith)) ((m.forced g).unforced i h t);
            all = λ i h t. rw (same (8 * k + 5) (omega arith) (omega arith)) ((m.forced g).all i h t);
          };
    }
