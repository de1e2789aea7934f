-- Original rows and the entries that they are made of: a row whose map and fields are those of entries says these entries, and a row
-- that is accepted is made of entries.
-- Assumes nothing.
use Prim.Native.Nat.{ℕ, zero, suc, ◌+◌, ◌*◌, ◌<◌, ◌≤◌}
use mathlib.Core.Path.{◌≡◌, refl, sym, ap, ◌∙◌, subst}
use mathlib.Core.List.{List, [], ◌∷◌, ◌++◌}
use mathlib.Core.Bool.{Bool, true, false, true≢false}
use native.Mathlib.Omega.{arith}
use lib.ListN.{length, take, get_or}
use Rattle.wire.specs.Read.{Bytes, AreBytes, ok, pick}
use Rattle.wire.specs.Bits.{bit_set, map_bytes}
use Rattle.wire.proofs.Pieces.{Piece, piece_start, piece_from, piece_to, cut_piece, join, front, back}
use Rattle.column.specs.declared.column.Column.{Column}
use Rattle.column.specs.Columns.{is_chapter, is_nullable}
use Rattle.column.specs.Fields.{field_at}
use Rattle.walk.specs.Presence.{no_column, one, nullables, presence_bytes, Mark, no_mark, marks, bit_of, mark_of, present, chapter_present}
use Rattle.walk.specs.Rows.{place, walk, opened, walked, row_end, look_up}
use Rattle.walk.proofs.Laws.{length_marks, mark_at, bit_nullable, bit_below, present_chapter, present_bit, present_always, chapter_bit, opened_well, end_reached, look_up_chapter, look_up_null, look_up_found}
use Rattle.walk.proofs.Found.{opened_ok}
use Rattle.walk.proofs.Later.{row_end_told}
use Rattle.encode.specs.Entries.{Entry, value, null, unchanged}
use Rattle.encode.specs.Encoding.{pack, fields_of, is_value, presence_bits, original_bytes}
use Rattle.encode.specs.Writers.{in_original, entries_stand}
use Rattle.encode.specs.Trips.{Says, says_value, says_null, says_chapter, ReservedZero}
use Rattle.encode.proofs.Pack.{length_pack, piece_bit, piece_reserved, map_packed}
use Rattle.encode.proofs.Fields.{stands_fits, fits_stands}
use Rattle.encode.proofs.Walks.{Each, each_end, each, columns_of, each_length, each_at, each_by, each_clear, each_stands, clear_at, piece_take, stands_at, Shows, came_end, came_value, Passes, walk_read}

-- An entry can stand in its column of an original row, and the column's bit, if it has one, says whether it is a value.
pub record InRow (map : Bytes) (m : Mark) (e : Entry) : Type 0 where
  pub stands : in_original m.column e ≡ true
  pub bit : is_nullable m.column ≡ true → bit_set map m.bit ≡ is_value e

module _ (map : Bytes) where
  present_by : (m : Mark) (e : Entry) → InRow map m e → present map m ≡ is_value e
  unfolding present in_original
  present_by m (value v) i = rw (stands_fits m.column (length v) i.stands).plain (go (is_nullable m.column) refl)
    where
      go : (n : Bool) → is_nullable m.column ≡ n → pick n (bit_set map m.bit) true ≡ true
      go true n = i.bit n
      go false n = refl
  present_by m null i = go (is_chapter m.column) (is_nullable m.column) refl i.stands
    where
      go : (t n : Bool) → is_nullable m.column ≡ n → pick t true n ≡ true → pick t false (pick n (bit_set map m.bit) true) ≡ false
      go true n en e = refl
      go false true en e = i.bit en
      go false false en e = absurd (true≢false (sym e))
  present_by m unchanged i = absurd (true≢false (sym i.stands))

  chapter_by : (m : Mark) (e : Entry) → InRow map m e → chapter_present map m ≡ false
  unfolding chapter_present
  chapter_by m e i = go (is_chapter m.column) (is_nullable m.column) refl refl
    where
      go : (t n : Bool) → is_chapter m.column ≡ t → is_nullable m.column ≡ n → pick t (pick n (bit_set map m.bit) false) false ≡ false
      go true true et en = i.bit en ∙ sym (present_by m e i) ∙ present_chapter map m.column m.bit et
      go true false et en = refl
      go false n et en = refl

  row_shows : Shows (present map) (InRow map)
  unfolding in_original
  row_shows =
      record {
        shown = λ {m} {e} i. present_by m e i;
        fits = λ {m} {v} i. stands_fits m.column (length v) i.stands;
      }

  -- what a present column is not, and what an absent one is
  present_plain : (m : Mark) → present map m ≡ true → is_chapter m.column ≡ false
  present_plain m t = go (is_chapter m.column) refl
    where
      go : (c : Bool) → is_chapter m.column ≡ c → c ≡ false
      go true e = sym t ∙ present_chapter map m.column m.bit e
      go false e = refl

  absent_null : (m : Mark) → chapter_present map m ≡ false → present map m ≡ false → InRow map m null
  unfolding in_original
  absent_null m k t = go (is_chapter m.column) (is_nullable m.column) refl refl
    where
      go : (c n : Bool) → is_chapter m.column ≡ c → is_nullable m.column ≡ n → InRow map m null
      go true n ec en = record { stands = rw ec; bit = λ z. sym (chapter_bit map m.column m.bit ec z) ∙ k }
      go false true ec en = record { stands = rw (ec, en); bit = λ z. sym (present_bit map m.column m.bit ec z) ∙ t }
      go false false ec en = absurd (true≢false (sym (present_always map m.column m.bit ec en) ∙ t))

  row_passes : Passes (present map) (λ (m : Mark). chapter_present map m ≡ false) (InRow map)
  unfolding in_original
  row_passes =
      record {
        plain = λ {m} k t. present_plain m t;
        on =
            λ {m} {v} k t f.
            record { stands = fits_stands m.column (length v) f; bit = λ n. sym (present_bit map m.column m.bit (present_plain m t) n) ∙ t };
        off = λ {m} k t. (null, refl, absent_null m k t);
      }

-- The bits of the presence map.

pub presence_length : (cs : List Column) (es : List Entry) → length es ≡ length cs → length (presence_bits cs es) ≡ nullables cs
unfolding presence_bits nullables
presence_length [] es l = refl
presence_length (c ∷ cs) [] l = absurd (omega arith)
presence_length (c ∷ cs) (e ∷ es) l = go (is_nullable c) (presence_length cs es (omega arith))
  where
    go : (n : Bool) → length (presence_bits cs es) ≡ nullables cs → length (pick n (is_value e ∷ presence_bits cs es) (presence_bits cs es)) ≡ one n + nullables cs
    go true h = omega arith
    go false h = omega arith

-- the bit of a nullable column says whether its entry is a value
presence_at :
    (cs : List Column) (es : List Entry) (k : ℕ) → length es ≡ length cs → k < length cs → is_nullable (get_or cs k no_column) ≡ true →
    get_or (presence_bits cs es) (bit_of cs k) false ≡ is_value (get_or es k null)
unfolding presence_bits bit_of nullables
presence_at [] es k l h n = absurd (omega arith)
presence_at (c ∷ cs) [] k l h n = absurd (omega arith)
presence_at (c ∷ cs) (e ∷ es) zero l h n = rw n refl
presence_at (c ∷ cs) (e ∷ es) (suc k) l h n = go (is_nullable c) ∙ presence_at cs es k (omega arith) (omega arith) n
  where
    go :
        (t : Bool) →
        get_or (pick t (is_value e ∷ presence_bits cs es) (presence_bits cs es)) (one t + bit_of cs k) false ≡ get_or (presence_bits cs es) (bit_of cs k) false
    go true = let z : 1 + bit_of cs k ≡ suc (bit_of cs k) = omega arith in ap (λ (i : ℕ). get_or (is_value e ∷ presence_bits cs es) i false) z
    go false = let z : 0 + bit_of cs k ≡ bit_of cs k = omega arith in ap (λ (i : ℕ). get_or (presence_bits cs es) i false) z

-- the bits of a map that says the entries are those of the presence map
presence_said :
    (map : Bytes) (b : ℕ) (cs : List Column) (es : List Entry) → Each (InRow map) (marks b cs) es → (i : ℕ) → i < length (presence_bits cs es) →
    bit_set map (b + i) ≡ get_or (presence_bits cs es) i false
unfolding presence_bits marks
presence_said map b [] [] each_end i h = absurd (omega arith)
presence_said map b [] (e ∷ es) x i h = elim x [ ]
presence_said map b (c ∷ cs) [] x i h = elim x [ ]
presence_said map b (c ∷ cs) (e ∷ es) (each p r) i h = go (is_nullable c) refl (presence_said map (b + one (is_nullable c)) cs es r) i h
  where
    go :
        (n : Bool) → is_nullable c ≡ n →
        ((i : ℕ) → i < length (presence_bits cs es) → bit_set map (b + one (is_nullable c) + i) ≡ get_or (presence_bits cs es) i false) → (i : ℕ) →
        i < length (pick n (is_value e ∷ presence_bits cs es) (presence_bits cs es)) →
        bit_set map (b + i) ≡ get_or (pick n (is_value e ∷ presence_bits cs es) (presence_bits cs es)) i false
    go true n f zero h = let z : b + 0 ≡ b = omega arith in ap (bit_set map) z ∙ p.bit n
    go true n f (suc i) h =
        let o : one (is_nullable c) ≡ 1 = ap one n in
        let z : b + suc i ≡ b + one (is_nullable c) + i = omega arith in
        ap (bit_set map) z ∙ f i (omega arith)
    go false n f i h =
        let o : one (is_nullable c) ≡ 0 = ap one n in
        let z : b + i ≡ b + one (is_nullable c) + i = omega arith in
        ap (bit_set map) z ∙ f i h

columns_marks : (b : ℕ) (cs : List Column) → columns_of (marks b cs) ≡ cs
unfolding marks
columns_marks b [] = refl
columns_marks b (c ∷ cs) = ap (λ (l : List Column). c ∷ l) (columns_marks (b + one (is_nullable c)) cs)

-- A row that is made of entries.

pub record Made (cs : List Column) (es : List Entry) (row : Bytes) (b : ℕ) : Type 0 where
  pub map : Each (InRow row) (marks 0 cs) es
  pub fields : Piece row (0 + presence_bytes cs) b (fields_of cs es)

module _ {cs : List Column} {es : List Entry} {row : Bytes} {b : ℕ} (d : Made cs es row b) where
  laid : Piece row (0 + presence_bytes cs) b (fields_of (columns_of (marks 0 cs)) es)
  laid = subst (λ (l : List Column). Piece row (0 + presence_bytes cs) b (fields_of l es)) (sym (columns_marks 0 cs)) d.fields

  opens : opened cs row 0 ≡ ok (0 + presence_bytes cs)
  opens =
      opened_well cs row 0 (omega (arith, d.fields.ends, d.fields.inside)) (each_clear (chapter_present row) 12 0 (chapter_by row) d.map)

  -- it ends behind its fields
  pub made_end : row_end cs row 0 ≡ ok b
  unfolding walked
  made_end =
      let (n, x) = came_end (row_shows row) row b d.map (place (0 + presence_bytes cs) 0) laid (length cs) (sym (length_marks 0 cs)) in
      end_reached cs row 0 _ opens b n x

  -- its columns say what the entries say
  pub made_says : (k : ℕ) → k < length cs → Says row (get_or cs k no_column) (get_or es k null) (look_up cs row k)
  unfolding walked in_original
  made_says k h = go (get_or es k null) (is_chapter (get_or cs k no_column)) refl refl own
    where
      m : get_or (marks 0 cs) k no_mark ≡ mark_of cs k
      m = mark_at cs k h

      g : k < length (marks 0 cs)
      g = omega (arith, length_marks 0 cs)

      own : InRow row (mark_of cs k) (get_or es k null)
      own = subst (λ (m : Mark). InRow row m (get_or es k null)) m (each_at d.map k g)

      go : (e : Entry) (t : Bool) → get_or es k null ≡ e → is_chapter (get_or cs k no_column) ≡ t → InRow row (mark_of cs k) e → Says row (get_or cs k no_column) e (look_up cs row k)
      go (value v) t ee et i =
          let f = stands_fits (get_or cs k no_column) (length v) i.stands in
          let (p, n, a, x, y, q) = came_value (row_shows row) row b d.map (place (0 + presence_bytes cs) 0) laid k v g ee in
          subst (Says row (get_or cs k no_column) (value v))
          (sym (look_up_found cs row k h _ opens f.plain (present_by row (mark_of cs k) (value v) i) p n x a (sym (ap (λ (m : Mark). field_at m.column row p) m) ∙ y)))
          (says_value f.plain q.ends q.inside (cut_piece q))
      go null true ee et i = subst (Says row (get_or cs k no_column) null) (sym (look_up_chapter cs row k h _ opens et)) (says_chapter et)
      go null false ee et i =
          subst (Says row (get_or cs k no_column) null) (sym (look_up_null cs row k h _ opens et (present_by row (mark_of cs k) null i))) (says_null et)
      go unchanged t ee et i = absurd (true≢false (sym i.stands))

-- What is written is made of its entries.

module _ (cs : List Column) (es : List Entry) (l : length es ≡ length cs) (r : Bytes) where
  bits : length (presence_bits cs es) ≡ nullables cs
  bits = presence_length cs es l

  written_row : Piece (original_bytes cs es ++ r) 0 (length (original_bytes cs es)) (pack (presence_bits cs es) ++ fields_of cs es)
  unfolding original_bytes
  written_row = piece_start (pack (presence_bits cs es) ++ fields_of cs es) r

  written_map : Piece (original_bytes cs es ++ r) 0 (0 + length (pack (presence_bits cs es))) (pack (presence_bits cs es))
  written_map = front (pack (presence_bits cs es)) (fields_of cs es) written_row

  written_bit : (k : ℕ) → k < length cs → is_nullable (get_or cs k no_column) ≡ true → bit_set (original_bytes cs es ++ r) (bit_of cs k) ≡ is_value (get_or es k null)
  written_bit k h n =
      piece_bit (presence_bits cs es) written_map (bit_of cs k) (omega (arith, bits, bit_nullable cs k h n, bit_below cs (k + 1))) ∙ presence_at cs es k l h n

  pub written_made : (u : Unit {0}) → entries_stand in_original 0 cs es ≡ ok u → Made cs es (original_bytes cs es ++ r) (length (original_bytes cs es))
  unfolding presence_bytes
  written_made u s =
      let z : 0 + length (pack (presence_bits cs es)) ≡ 0 + presence_bytes cs =
      ap (λ (n : ℕ). 0 + n) (length_pack (presence_bits cs es) ∙ ap map_bytes bits) in
      record {
        map =
            each_by (marks 0 cs) es (l ∙ sym (length_marks 0 cs))
            (λ k h.
            let g : k < length cs = omega (arith, length_marks 0 cs) in
            subst (λ (m : Mark). InRow (original_bytes cs es ++ r) m (get_or es k null)) (sym (mark_at cs k g))
            (record { stands = stands_at in_original 0 cs es u l s k g; bit = written_bit k g }));
        fields = piece_from z (back (pack (presence_bits cs es)) (fields_of cs es) written_row);
      }

  -- its reserved bits are 0
  pub written_reserved : ReservedZero cs (original_bytes cs es ++ r)
  unfolding presence_bytes
  written_reserved k h g =
      piece_reserved (presence_bits cs es) written_map k (omega (arith, bits)) (subst (λ (n : ℕ). k < 8 * map_bytes n) (sym bits) g)

-- What is accepted is made of entries.

pub accepted_made : (cs : List Column) (row : Bytes) (e : ℕ) → AreBytes row → row_end cs row 0 ≡ ok e → (es : List Entry) × Made cs es row e
unfolding walked
accepted_made cs row e bytes h =
    let (w, o, x, l, q) = row_end_told cs row 0 e h in
    let (z, i, c) = opened_ok cs row 0 _ o in
    let y = ap (λ (n : ℕ). walk (present row) row n (marks 0 cs) (place (0 + presence_bytes cs) 0)) (length_marks 0 cs) ∙ x in
    let (es, r, p) =
    walk_read (row_passes row) row bytes (marks 0 cs) (place (0 + presence_bytes cs) 0) w (clear_at (chapter_present row) 12 0 (marks 0 cs) c) i y in
    (es, record { map = r; fields = piece_to q (subst (λ (l : List Column). Piece row (0 + presence_bytes cs) w.at (fields_of l es)) (columns_marks 0 cs) p) })

-- A row that is made of entries is what is written of them, where its reserved bits are 0.

module _ {cs : List Column} {es : List Entry} {row : Bytes} {e : ℕ} (d : Made cs es row e) where
  pub made_length : length es ≡ length cs
  made_length = each_length d.map ∙ length_marks 0 cs

  pub made_stands : entries_stand in_original 0 cs es ≡ ok tt
  made_stands =
      ap (λ (l : List Column). entries_stand in_original 0 l es) (sym (columns_marks 0 cs))
      ∙ each_stands in_original 0 (λ (m : Mark) (e : Entry) (i : InRow row m e). i.stands) d.map

  pub made_bytes : AreBytes row → ReservedZero cs row → original_bytes cs es ≡ take e row
  unfolding original_bytes presence_bytes
  made_bytes bytes reserved =
      let i : 0 + map_bytes (nullables cs) ≤ length row = omega (arith, d.fields.ends, d.fields.inside) in
      let l : length (presence_bits cs es) ≡ nullables cs = presence_length cs es made_length in
      let p =
      map_packed row 0 (nullables cs) (presence_bits cs es) bytes l i
      (λ k g. let z : k ≡ 0 + k = omega arith in ap (bit_set row) z ∙ presence_said row 0 cs es d.map k (omega arith)) reserved in
      piece_take (join p d.fields)
