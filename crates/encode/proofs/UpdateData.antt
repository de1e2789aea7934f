-- Update data and the entries that they are made of: data whose maps and fields are those of entries say these entries, and data that
-- are accepted are made of entries.
-- Assumes nothing.
use Prim.Native.Nat.{ℕ, zero, suc, ◌+◌, ◌*◌, ◌<◌, ◌≤◌}
use mathlib.Core.Path.{◌≡◌, refl, sym, ap, ◌∙◌, subst}
use mathlib.Core.List.{List, [], ◌∷◌, ◌++◌, map}
use mathlib.Core.Bool.{Bool, true, false, true≢false}
use native.Mathlib.Omega.{arith}
use lib.ListN.{length, take, drop, get_or, length-map}
use Rattle.wire.specs.Read.{Bytes, AreBytes, ok, pick}
use Rattle.wire.specs.Bits.{bit_set, map_bytes}
use Rattle.wire.proofs.Pieces.{Piece, piece_start, piece_from, piece_to, cut_piece, join, front, back}
use Rattle.column.specs.declared.column.Column.{Column}
use Rattle.column.specs.Columns.{is_chapter, is_nullable}
use Rattle.column.specs.Fields.{field_at}
use Rattle.walk.specs.Presence.{no_column, Mark, mark, no_mark}
use Rattle.walk.specs.Rows.{place, walk}
use Rattle.walk.specs.Updates.{numbered, update_bytes, chapter_marked, force_broken, carried, carried_in, update_opened, update_walked, update_end, look_update}
use Rattle.walk.proofs.UpdateLaws.{length_numbered, number_at_lem, marked_chapter, force_alone, force_plain, carried_not, carried_forced, carried_field, update_well, update_end_reached, look_update_chapter, look_update_unchanged, look_update_null, look_update_found}
use Rattle.walk.proofs.UpdateFound.{update_end_told}
use Rattle.encode.specs.Entries.{Entry, value, null, unchanged}
use Rattle.encode.specs.Encoding.{pack, fields_of, is_value, is_change, is_forced, update_bits, force_bits, update_data}
use Rattle.encode.specs.Writers.{in_update, entries_stand}
use Rattle.encode.specs.Trips.{SaysUpdate, says_new, says_forced, says_unchanged, says_chapter_unchanged, UpdateReservedZero}
use Rattle.encode.proofs.Pack.{length_pack, piece_bit, piece_reserved, map_packed}
use Rattle.encode.proofs.Fields.{stands_fits, fits_stands}
use Rattle.encode.proofs.Walks.{Each, columns_of, each_length, each_at, each_by, each_clear, each_stands, clear_at, piece_take, stands_at, Shows, came_end, came_value, Passes, walk_read}

-- An entry can stand in its column of update data, and the column's two bits say whether it is a change and whether it is null.
pub record InData (update force : Bytes) (m : Mark) (e : Entry) : Type 0 where
  pub stands : in_update m.column e ≡ true
  pub change : bit_set update m.bit ≡ is_change e
  pub nulled : bit_set force m.bit ≡ is_forced e

-- The rules of the two maps that a column keeps.
pub record Ruled (update force : Bytes) (m : Mark) : Type 0 where
  pub no_update : chapter_marked update m ≡ false
  pub no_force : chapter_marked force m ≡ false
  pub rule : force_broken update force m ≡ false

-- a column that is null by force is no chapter, and nullable
null_plain : (c : Column) → in_update c null ≡ true → (is_chapter c ≡ false) × (is_nullable c ≡ true)
unfolding in_update
null_plain c s = go (is_chapter c) refl s
  where
    go : (t : Bool) → is_chapter c ≡ t → pick t false (is_nullable c) ≡ true → (is_chapter c ≡ false) × (is_nullable c ≡ true)
    go true t e = absurd (true≢false (sym e))
    go false t e = (t, e)

module _ (update force : Bytes) where
  carried_by : (m : Mark) (e : Entry) → InData update force m e → carried update force m ≡ is_value e
  carried_by m (value v) i = carried_field update force m.column m.bit i.change i.nulled
  carried_by m null i = carried_forced update force m.column m.bit i.nulled
  carried_by m unchanged i = carried_not update force m.column m.bit i.change

  -- a chapter is unchanged
  chapter_kept : (m : Mark) (e : Entry) → in_update m.column e ≡ true → is_chapter m.column ≡ true → e ≡ unchanged
  unfolding in_update
  chapter_kept m (value v) s h = absurd (true≢false (sym h ∙ (stands_fits m.column (length v) s).plain))
  chapter_kept m null s h = absurd (true≢false (sym h ∙ (null_plain m.column s).0))
  chapter_kept m unchanged s h = refl

  ruled_by : (m : Mark) (e : Entry) → InData update force m e → Ruled update force m
  unfolding chapter_marked force_broken
  ruled_by m e i = record { no_update = by update (λ (e : Entry). is_change e) i.change refl; no_force = by force (λ (e : Entry). is_forced e) i.nulled refl; rule = rule e i }
    where
      by : (bytes : Bytes) (f : Entry → Bool) → bit_set bytes m.bit ≡ f e → f unchanged ≡ false → chapter_marked bytes m ≡ false
      by bytes f b z = go (is_chapter m.column) refl
        where
          go : (t : Bool) → is_chapter m.column ≡ t → pick t (bit_set bytes m.bit) false ≡ false
          go true t = b ∙ ap f (chapter_kept m e i.stands t) ∙ z
          go false t = refl

      rule : (e : Entry) → InData update force m e → force_broken update force m ≡ false
      rule (value v) i = rw i.nulled
      rule null i = rw (i.nulled, i.change, (null_plain m.column i.stands).1)
      rule unchanged i = rw i.nulled

  data_shows : Shows (carried update force) (InData update force)
  unfolding in_update
  data_shows = record { shown = λ {m} {e} i. carried_by m e i; fits = λ {m} {v} i. stands_fits m.column (length v) i.stands }

  -- a column that changes is no chapter
  changed_plain : (m : Mark) → Ruled update force m → bit_set update m.bit ≡ true → is_chapter m.column ≡ false
  changed_plain m k u = go (is_chapter m.column) refl
    where
      go : (t : Bool) → is_chapter m.column ≡ t → t ≡ false
      go true e = sym u ∙ sym (marked_chapter update m.column m.bit e) ∙ k.no_update
      go false e = refl

  carried_bits : (m : Mark) → carried update force m ≡ true → (bit_set update m.bit ≡ true) × (bit_set force m.bit ≡ false)
  carried_bits m t = go (bit_set update m.bit) (bit_set force m.bit) refl refl
    where
      go :
          (u f : Bool) → bit_set update m.bit ≡ u → bit_set force m.bit ≡ f → (bit_set update m.bit ≡ true) × (bit_set force m.bit ≡ false)
      go true false eu ef = (eu, ef)
      go true true eu ef = absurd (true≢false (sym t ∙ carried_forced update force m.column m.bit ef))
      go false f eu ef = absurd (true≢false (sym t ∙ carried_not update force m.column m.bit eu))

  -- a column without a field is null by force or unchanged
  not_carried : (m : Mark) → Ruled update force m → carried update force m ≡ false → (e : Entry) × (is_value e ≡ false) × InData update force m e
  unfolding in_update
  not_carried m k t = go (bit_set update m.bit) (bit_set force m.bit) (is_nullable m.column) refl refl refl
    where
      go :
          (u f n : Bool) → bit_set update m.bit ≡ u → bit_set force m.bit ≡ f → is_nullable m.column ≡ n →
          (e : Entry) × (is_value e ≡ false) × InData update force m e
      go false false n eu ef en = (unchanged, refl, record { stands = refl; change = eu; nulled = ef })
      go false true n eu ef en = absurd (true≢false (sym (force_alone update force m.column m.bit ef eu) ∙ k.rule))
      go true false n eu ef en = absurd (true≢false (sym (carried_field update force m.column m.bit eu ef) ∙ t))
      go true true false eu ef en = absurd (true≢false (sym (force_plain update force m.column m.bit ef en) ∙ k.rule))
      go true true true eu ef en = (null, refl, record { stands = rw (changed_plain m k eu, en); change = eu; nulled = ef })

  data_passes : Passes (carried update force) (Ruled update force) (InData update force)
  unfolding in_update
  data_passes =
      record {
        plain = λ {m} k t. changed_plain m k (carried_bits m t).0;
        on = λ {m} {v} k t f. record { stands = fits_stands m.column (length v) f; change = (carried_bits m t).0; nulled = (carried_bits m t).1 };
        off = λ {m} k t. not_carried m k t;
      }

-- The bits of the two maps: one of each a column.

update_map : (es : List Entry) → update_bits es ≡ map (λ (e : Entry). is_change e) es
unfolding update_bits
update_map [] = refl
update_map (e ∷ es) = ap (λ (l : List Bool). is_change e ∷ l) (update_map es)

force_map : (es : List Entry) → force_bits es ≡ map (λ (e : Entry). is_forced e) es
unfolding force_bits
force_map [] = refl
force_map (e ∷ es) = ap (λ (l : List Bool). is_forced e ∷ l) (force_map es)

module _ (f : Entry → Bool) (bits : List Bool) (es : List Entry) (q : bits ≡ map f es) where
  bits_length : length bits ≡ length es
  bits_length = ap length q ∙ length-map es f

  bits_at : (k : ℕ) → k < length es → get_or bits k false ≡ f (get_or es k null)
  bits_at k h = ap (λ (l : List Bool). get_or l k false) q ∙ go es k h
    where
      go : (es : List Entry) (k : ℕ) → k < length es → get_or (map f es) k false ≡ f (get_or es k null)
      go [] k h = absurd (omega arith)
      go (e ∷ es) zero h = refl
      go (e ∷ es) (suc k) h = go es k (omega arith)

columns_numbered : (i : ℕ) (cs : List Column) → columns_of (numbered i cs) ≡ cs
unfolding numbered
columns_numbered i [] = refl
columns_numbered i (c ∷ cs) = ap (λ (l : List Column). c ∷ l) (columns_numbered (suc i) cs)

-- Update data that are made of entries.

pub record Made (cs : List Column) (es : List Entry) (row : Bytes) (b : ℕ) : Type 0 where
  pub maps : Each (InData row (drop (0 + update_bytes cs) row)) (numbered 0 cs) es
  pub fields : Piece row (0 + 2 * update_bytes cs) b (fields_of cs es)

module _ {cs : List Column} {es : List Entry} {row : Bytes} {b : ℕ} (d : Made cs es row b) where
  laid : Piece row (0 + 2 * update_bytes cs) b (fields_of (columns_of (numbered 0 cs)) es)
  laid = subst (λ (l : List Column). Piece row (0 + 2 * update_bytes cs) b (fields_of l es)) (sym (columns_numbered 0 cs)) d.fields

  opens : update_opened cs row 0 ≡ ok (0 + 2 * update_bytes cs)
  opens =
      let f : Bytes = drop (0 + update_bytes cs) row in
      update_well cs row 0 (omega (arith, d.fields.ends, d.fields.inside))
      (each_clear (chapter_marked row) 12 0 (λ m e i. (ruled_by row f m e i).no_update) d.maps)
      (each_clear (chapter_marked f) 12 (0 + update_bytes cs) (λ m e i. (ruled_by row f m e i).no_force) d.maps)
      (each_clear (force_broken row f) 13 (0 + update_bytes cs) (λ m e i. (ruled_by row f m e i).rule) d.maps)

  -- they end behind their fields
  pub made_end : update_end cs row 0 ≡ ok b
  unfolding update_walked carried_in
  made_end =
      let o = data_shows row (drop (0 + update_bytes cs) row) in
      let (n, x) = came_end o row b d.maps (place (0 + 2 * update_bytes cs) 0) laid (length cs) (sym (length_numbered 0 cs)) in
      update_end_reached cs row 0 _ opens b n x

  -- their columns say what the entries say
  pub made_says : (k : ℕ) → k < length cs → SaysUpdate row (get_or cs k no_column) (get_or es k null) (look_update cs row k)
  unfolding update_walked carried_in in_update
  made_says k h = go (get_or es k null) (is_chapter (get_or cs k no_column)) refl refl own
    where
      m : get_or (numbered 0 cs) k no_mark ≡ mark (get_or cs k no_column) k
      m = number_at_lem cs k h

      g : k < length (numbered 0 cs)
      g = omega (arith, length_numbered 0 cs)

      own : InData row (drop (0 + update_bytes cs) row) (mark (get_or cs k no_column) k) (get_or es k null)
      own = subst (λ (m : Mark). InData row (drop (0 + update_bytes cs) row) m (get_or es k null)) m (each_at d.maps k g)

      nulled : {t : Bool} → bit_set (drop (0 + update_bytes cs) row) k ≡ t → bit_set (drop (update_bytes cs) row) k ≡ t
      nulled e = let z : update_bytes cs ≡ 0 + update_bytes cs = omega arith in ap (λ (n : ℕ). bit_set (drop n row) k) z ∙ e

      go :
          (e : Entry) (t : Bool) → get_or es k null ≡ e → is_chapter (get_or cs k no_column) ≡ t →
          InData row (drop (0 + update_bytes cs) row) (mark (get_or cs k no_column) k) e → SaysUpdate row (get_or cs k no_column) e (look_update cs row k)
      go (value v) t ee et i =
          let f = stands_fits (get_or cs k no_column) (length v) i.stands in
          let o = data_shows row (drop (0 + update_bytes cs) row) in
          let (p, n, a, x, y, q) = came_value o row b d.maps (place (0 + 2 * update_bytes cs) 0) laid k v g ee in
          subst (SaysUpdate row (get_or cs k no_column) (value v))
          (sym
          (look_update_found cs row k h b made_end f.plain i.change (nulled i.nulled) p n x a
          (sym (ap (λ (m : Mark). field_at m.column row p) m) ∙ y)))
          (says_new f.plain q.ends q.inside (cut_piece q))
      go null t ee et i =
          let c : is_chapter (get_or cs k no_column) ≡ false = (null_plain (get_or cs k no_column) i.stands).0 in
          subst (SaysUpdate row (get_or cs k no_column) null) (sym (look_update_null cs row k h b made_end c i.change (nulled i.nulled))) (says_forced c)
      go unchanged true ee et i = subst (SaysUpdate row (get_or cs k no_column) unchanged) (sym (look_update_chapter cs row k h b made_end et)) (says_chapter_unchanged et)
      go unchanged false ee et i =
          subst (SaysUpdate row (get_or cs k no_column) unchanged) (sym (look_update_unchanged cs row k h b made_end et i.change)) (says_unchanged et)

-- What is written is made of its entries.

module _ (cs : List Column) (es : List Entry) (l : length es ≡ length cs) where
  update_length : length (update_bits es) ≡ length cs
  update_length = bits_length (λ (e : Entry). is_change e) (update_bits es) es (update_map es) ∙ l

  force_length : length (force_bits es) ≡ length cs
  force_length = bits_length (λ (e : Entry). is_forced e) (force_bits es) es (force_map es) ∙ l

  update_at : (k : ℕ) → k < length cs → get_or (update_bits es) k false ≡ is_change (get_or es k null)
  update_at k h = bits_at (λ (e : Entry). is_change e) (update_bits es) es (update_map es) k (omega arith)

  force_at : (k : ℕ) → k < length cs → get_or (force_bits es) k false ≡ is_forced (get_or es k null)
  force_at k h = bits_at (λ (e : Entry). is_forced e) (force_bits es) es (force_map es) k (omega arith)

  module _ (r : Bytes) where
    -- behind the update map, then behind both
    written_rest : Piece (update_data cs es ++ r) (0 + update_bytes cs) (length (update_data cs es)) (pack (force_bits es) ++ fields_of cs es)
    unfolding update_data update_bytes
    written_rest =
        let x : Bytes = pack (update_bits es) in
        let y : Bytes = pack (force_bits es) ++ fields_of cs es in
        piece_from (ap (λ (n : ℕ). 0 + n) (length_pack (update_bits es) ∙ ap map_bytes update_length)) (back x y (piece_start (x ++ y) r))

    written_fields : Piece (update_data cs es ++ r) (0 + 2 * update_bytes cs) (length (update_data cs es)) (fields_of cs es)
    unfolding update_bytes
    written_fields =
        let n : length (pack (force_bits es)) ≡ update_bytes cs = length_pack (force_bits es) ∙ ap map_bytes force_length in
        let z : 0 + update_bytes cs + length (pack (force_bits es)) ≡ 0 + 2 * update_bytes cs = omega arith in
        piece_from z (back (pack (force_bits es)) (fields_of cs es) written_rest)

    update_written : Piece (update_data cs es ++ r) 0 (0 + length (pack (update_bits es))) (pack (update_bits es))
    unfolding update_data
    update_written =
        let x : Bytes = pack (update_bits es) in
        let y : Bytes = pack (force_bits es) ++ fields_of cs es in
        front x y (piece_start (x ++ y) r)

    force_written : Piece (update_data cs es ++ r) (0 + update_bytes cs) (0 + update_bytes cs + length (pack (force_bits es))) (pack (force_bits es))
    force_written = front (pack (force_bits es)) (fields_of cs es) written_rest

    pub written_made : (u : Unit {0}) → entries_stand in_update 0 cs es ≡ ok u → Made cs es (update_data cs es ++ r) (length (update_data cs es))
    written_made u s =
        record {
          maps =
              each_by (numbered 0 cs) es (l ∙ sym (length_numbered 0 cs))
              (λ k h.
              let row : Bytes = update_data cs es ++ r in
              let g : k < length cs = omega (arith, length_numbered 0 cs) in
              subst (λ (m : Mark). InData row (drop (0 + update_bytes cs) row) m (get_or es k null)) (sym (number_at_lem cs k g))
              (record {
                stands = stands_at in_update 0 cs es u l s k g;
                change = piece_bit (update_bits es) update_written k (omega (arith, update_length)) ∙ update_at k g;
                nulled = piece_bit (force_bits es) force_written k (omega (arith, force_length)) ∙ force_at k g;
              }));
          fields = written_fields;
        }

    -- their reserved bits are 0
    pub written_reserved : UpdateReservedZero cs (update_data cs es ++ r)
    unfolding update_bytes
    written_reserved k h g =
        let z : update_bytes cs ≡ 0 + update_bytes cs = omega arith in (
          piece_reserved (update_bits es) update_written k (omega (arith, update_length)) (subst (λ (n : ℕ). k < 8 * map_bytes n) (sym update_length) g),
          ap (λ (a : ℕ). bit_set (drop a (update_data cs es ++ r)) k) z
              ∙ piece_reserved (force_bits es) force_written k (omega (arith, force_length)) (subst (λ (n : ℕ). k < 8 * map_bytes n) (sym force_length) g),
        )

-- What is accepted is made of entries.

pub accepted_made : (cs : List Column) (row : Bytes) (e : ℕ) → AreBytes row → update_end cs row 0 ≡ ok e → (es : List Entry) × Made cs es row e
unfolding update_walked carried_in
accepted_made cs row e bytes h =
    let d = update_end_told cs row 0 e h in
    let f : Bytes = drop (0 + update_bytes cs) row in
    let y = ap (λ (n : ℕ). walk (carried_in cs row 0) row n (numbered 0 cs) (place (0 + 2 * update_bytes cs) 0)) (length_numbered 0 cs) ∙ d.walk in
    let k : (i : ℕ) → i < length (numbered 0 cs) → Ruled row f (get_or (numbered 0 cs) i no_mark) =
    λ i l.
    record {
      no_update = clear_at (chapter_marked row) 12 0 (numbered 0 cs) d.no_update i l;
      no_force = clear_at (chapter_marked f) 12 (0 + update_bytes cs) (numbered 0 cs) d.no_force i l;
      rule = clear_at (force_broken row f) 13 (0 + update_bytes cs) (numbered 0 cs) d.ruled i l;
    } in
    let (es, r, p) = walk_read (data_passes row f) row bytes (numbered 0 cs) (place (0 + 2 * update_bytes cs) 0) d.last k d.inside y in
    (es, record { maps = r; fields = piece_to d.ends (subst (λ (l : List Column). Piece row (0 + 2 * update_bytes cs) d.last.at (fields_of l es)) (columns_numbered 0 cs) p) })

-- Update data that are made of entries are what is written of them, where their reserved bits are 0.

module _ {cs : List Column} {es : List Entry} {row : Bytes} {e : ℕ} (d : Made cs es row e) where
  pub made_length : length es ≡ length cs
  made_length = each_length d.maps ∙ length_numbered 0 cs

  pub made_stands : entries_stand in_update 0 cs es ≡ ok tt
  made_stands =
      ap (λ (l : List Column). entries_stand in_update 0 l es) (sym (columns_numbered 0 cs))
      ∙ each_stands in_update 0 (λ (m : Mark) (e : Entry) (i : InData row (drop (0 + update_bytes cs) row) m e). i.stands) d.maps

  own : (k : ℕ) → k < length cs → InData row (drop (0 + update_bytes cs) row) (mark (get_or cs k no_column) k) (get_or es k null)
  own k h =
      subst (λ (m : Mark). InData row (drop (0 + update_bytes cs) row) m (get_or es k null)) (number_at_lem cs k h) (each_at d.maps k (omega (arith, length_numbered 0 cs)))

  pub made_bytes : AreBytes row → UpdateReservedZero cs row → update_data cs es ≡ take e row
  unfolding update_data update_bytes
  made_bytes bytes reserved =
      let n : ℕ = length cs in
      let l : length es ≡ length cs = made_length in
      let i : 0 + map_bytes n + map_bytes n ≤ length row = omega (arith, d.fields.ends, d.fields.inside) in
      let p =
      map_packed row 0 n (update_bits es) bytes (update_length cs es l) (omega arith)
      (λ k g. (own k g).change ∙ sym (update_at cs es l k g)) (λ k g m. (reserved k g m).0) in
      let q =
      map_packed row (0 + map_bytes n) n (force_bits es) bytes (force_length cs es l) i
      (λ k g. (own k g).nulled ∙ sym (force_at cs es l k g))
      (λ k g m.
      let z : 0 + map_bytes n ≡ map_bytes n = omega arith in
      ap (λ (a : ℕ). bit_set (drop a row) k) z ∙ (reserved k g m).1) in
      let z : 0 + map_bytes n + map_bytes n ≡ 0 + 2 * map_bytes n = omega arith in
      piece_take (join p (join (piece_to z q) d.fields))
