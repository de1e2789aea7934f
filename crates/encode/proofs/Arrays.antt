-- Columns in a slice and entries in numbers, along the writers' loops.
-- Assumes nothing.
use Prim.Native.Nat.{ℕ, zero, suc, ◌+◌, ◌*◌, ◌-◌, ◌≤◌, ◌<◌}
use mathlib.Core.Path.{◌≡◌, refl, sym, ap, ◌∙◌}
use mathlib.Core.List.{List, [], ◌∷◌, ◌++◌, append-nil, append_assoc}
use mathlib.Core.Bool.{Bool, true, false, true≢false}
use mathlib.Core.Logic.{⊎_elim}
use native.Mathlib.Numerals.{add-one}
use native.Mathlib.Nat.{eq-or-lt_of_le}
use native.Mathlib.Omega.{arith}
use lib.ListN.{length, get_or, take, drop, set, replicate, length-append, length-set, drop_of_length-le}
use lib.Seq.{drop-cons, take_all, length-take-le}
use Rattle.wire.specs.declared.error.Input.TheVariants as input
use Rattle.wire.specs.Read.{Bytes, ok, bad, pick, check, about, limit}
use Rattle.wire.specs.Output.{put}
use Rattle.wire.proofs.Laws.{put_put, length_put}
use Rattle.column.specs.declared.column.Column.{Column}
use Rattle.column.specs.Layout.{most_columns}
use Rattle.encode.specs.declared.map.Map.{Map}
use Rattle.encode.specs.declared.map.Map.TheVariants as maps
use Rattle.encode.specs.Entries.{Entry, given_at, givens_from, is_entry, are_entries, entry_of, entries_of}
use Rattle.encode.specs.Encoding.{entry_bytes, fields_of, presence_bits, update_bits, force_bits}
use Rattle.encode.specs.Writers.{entries_stand}
use Rattle.encode.specs.Steps.{fields_size, has_bit, bit_of, bits_of, Held, Laid}
use Rattle.encode.proofs.Laws.{entry_small, put_none_at, put_lent}

both : (t u : Bool) → pick t u false ≡ true → (t ≡ true) × (u ≡ true)
both true u e = (refl, e)
both false u e = absurd (true≢false (sym e))

-- Numbers that are entries.
module _ (values : Bytes) (numbers : List ℕ) where
  entries_among : (n i k : ℕ) → are_entries values (givens_from n i numbers) ≡ true → k < n → is_entry values (given_at numbers (i + k)) ≡ true
  unfolding are_entries givens_from
  entries_among zero i k e h = absurd (omega arith)
  entries_among (suc n) i zero e h = let z : i + 0 ≡ i = omega arith in rw z (both (is_entry values (given_at numbers i)) _ e).0
  entries_among (suc n) i (suc k) e h =
      let z : i + suc k ≡ suc i + k = omega arith in
      rw z (entries_among n (suc i) k (both (is_entry values (given_at numbers i)) _ e).1 (omega arith))

  -- each of them is one
  pub entry_among : (n i : ℕ) → are_entries values (givens_from n 0 numbers) ≡ true → i < n → is_entry values (given_at numbers i) ≡ true
  entry_among n i e h = let z : 0 + i ≡ i = omega arith in rw z at (entries_among n 0 i e h)

  all_entries : (n i : ℕ) → ((k : ℕ) → k < i + n → is_entry values (given_at numbers k) ≡ true) → are_entries values (givens_from n i numbers) ≡ true
  unfolding are_entries givens_from
  all_entries zero i h = refl
  all_entries (suc n) i h = rw (h i (omega arith)) (all_entries n (suc i) (λ k l. h k (omega arith)))

  -- where each is one, they are
  pub entries_all : (n : ℕ) → ((k : ℕ) → k < n → is_entry values (given_at numbers k) ≡ true) → are_entries values (givens_from n 0 numbers) ≡ true
  entries_all n h = all_entries n 0 (λ k l. h k (omega arith))

  -- and where one is not, not
  pub entries_lack : (n i : ℕ) → i < n → is_entry values (given_at numbers i) ≡ false → are_entries values (givens_from n 0 numbers) ≡ false
  entries_lack n i l f = go (are_entries values (givens_from n 0 numbers)) refl
    where
      go : (t : Bool) → are_entries values (givens_from n 0 numbers) ≡ t → t ≡ false
      go true e = absurd (true≢false (sym (entry_among n i e l) ∙ f))
      go false e = refl

-- lists that columns with their entries give, joined
unfoldable joined : {A : Type 0} → (Column → Entry → List A) → List Column → List Entry → List A
joined g [] es = []
joined g (c ∷ cs) [] = []
joined g (c ∷ cs) (e ∷ es) = g c e ++ joined g cs es

fields_joined : (cs : List Column) (es : List Entry) → fields_of cs es ≡ joined entry_bytes cs es
unfolding fields_of joined
fields_joined [] es = refl
fields_joined (c ∷ cs) [] = refl
fields_joined (c ∷ cs) (e ∷ es) = ap (λ (l : Bytes). entry_bytes c e ++ l) (fields_joined cs es)

-- the bit that a column adds to a map, if it has one
abbrev added : Map → Column → Entry → List Bool
added m c e = pick (has_bit m c) (bit_of m e ∷ []) []

bits_joined : (m : Map) (cs : List Column) (es : List Entry) → length cs ≡ length es → bits_of m cs es ≡ joined (added m) cs es
unfolding bits_of joined presence_bits update_bits force_bits has_bit bit_of
bits_joined maps.Presence cs es h = presence cs es
  where
    push : (t u : Bool) (l : List Bool) → pick t (u ∷ l) l ≡ pick t (u ∷ []) [] ++ l
    push true u l = refl
    push false u l = refl

    presence : (cs : List Column) (es : List Entry) → presence_bits cs es ≡ joined (added maps.Presence) cs es
    presence [] es = refl
    presence (c ∷ cs) [] = refl
    presence (c ∷ cs) (e ∷ es) = push (has_bit maps.Presence c) (bit_of maps.Presence e) (presence_bits cs es) ∙ ap (λ (l : List Bool). added maps.Presence c e ++ l) (presence cs es)
bits_joined maps.Update [] [] h = refl
bits_joined maps.Update [] (e ∷ es) h = absurd (omega arith)
bits_joined maps.Update (c ∷ cs) [] h = absurd (omega arith)
bits_joined maps.Update (c ∷ cs) (e ∷ es) h = ap (λ (l : List Bool). bit_of maps.Update e ∷ l) (bits_joined maps.Update cs es (omega arith))
bits_joined maps.Force [] [] h = refl
bits_joined maps.Force [] (e ∷ es) h = absurd (omega arith)
bits_joined maps.Force (c ∷ cs) [] h = absurd (omega arith)
bits_joined maps.Force (c ∷ cs) (e ∷ es) h = ap (λ (l : List Bool). bit_of maps.Force e ∷ l) (bits_joined maps.Force cs es (omega arith))

-- The columns of a slice, and the entries that numbers give.
module _ (cs : List Column) (numbers : List ℕ) (values : Bytes) where
  abbrev entry : ℕ → Entry
  entry i = entry_of values (given_at numbers i)

  abbrev entries : ℕ → ℕ → List Entry
  entries n i = entries_of values (givens_from n i numbers)

  count_entries : (n i : ℕ) → length (entries n i) ≡ n
  unfolding entries_of givens_from
  count_entries zero i = refl
  count_entries (suc n) i = ap suc (count_entries n (suc i))

  joined_more :
      {A : Type 0} (g : Column → Entry → List A) (d : Column) (ds : List Column) (n i : ℕ) → n < length ds →
      joined g (take (suc n) ds) (entries (suc n) i) ≡ joined g (take n ds) (entries n i) ++ g (get_or ds n d) (entry (i + n))
  unfolding joined givens_from entries_of
  joined_more g d [] n i h = absurd (omega arith)
  joined_more g d (c ∷ ds) zero i h = let z : i + 0 ≡ i = omega arith in rw z (append-nil (g c (entry i)))
  joined_more g d (c ∷ ds) (suc n) i h =
      let z : suc i + n ≡ i + suc n = omega arith in
      ap (λ l. g c (entry i) ++ l) (joined_more g d ds n (suc i) (omega arith))
      ∙ sym (append_assoc (g c (entry i)) (joined g (take n ds) (entries n (suc i))) (g (get_or ds n d) (entry (suc i + n))))
      ∙ ap (λ k. (g c (entry i) ++ joined g (take n ds) (entries n (suc i))) ++ g (get_or ds n d) (entry k)) z

  -- the fields of the first n columns
  abbrev pub fields : ℕ → Bytes
  fields n = fields_of (take n cs) (entries n 0)

  fields_all : fields (length cs) ≡ fields_of cs (entries (length cs) 0)
  fields_all = ap (λ (ds : List Column). fields_of ds (entries (length cs) 0)) (take_all (length cs) cs (omega arith))

  module _ (d : Column) where
    pub fields_next : (n : ℕ) → n < length cs → fields (n + 1) ≡ fields n ++ entry_bytes (get_or cs n d) (entry n)
    fields_next n h =
        let z : 0 + n ≡ n = omega arith in
        rw (add-one n)
        (fields_joined (take (suc n) cs) (entries (suc n) 0) ∙ joined_more entry_bytes d cs n 0 h
        ∙ rw z (ap (λ (l : Bytes). l ++ entry_bytes (get_or cs n d) (entry n)) (sym (fields_joined (take n cs) (entries n 0)))))

    pub length_next : (n : ℕ) → n < length cs → length (fields (n + 1)) ≡ length (fields n) + length (entry_bytes (get_or cs n d) (entry n))
    length_next n h = ap length (fields_next n h) ∙ length-append (fields n) (entry_bytes (get_or cs n d) (entry n))

    pub fields_grow : (n i : ℕ) → i ≤ n → n ≤ length cs → length (fields i) ≤ length (fields n)
    fields_grow zero i h l = let z : i ≡ 0 = omega arith in rw z (omega arith)
    fields_grow (suc n) i h l = ⊎_elim
        (λ e. rw e (omega arith))
        (λ k. let r : i ≤ n = omega arith in
        let m = length_next n (omega arith) in
        let z : n + 1 ≡ suc n = omega arith in
        omega (arith, fields_grow n i r (omega arith), rw z at m))
        (eq-or-lt_of_le h)

    -- they are no more than a machine counts
    pub fields_small : length values ≤ limit → (n : ℕ) → n ≤ length cs → length (fields n) ≤ n * (limit + 4)
    unfolding fields_of
    fields_small h zero l = omega arith
    fields_small h (suc n) l =
        let z : n + 1 ≡ suc n = omega arith in
        let m : length (fields (suc n)) ≡ length (fields n) + length (entry_bytes (get_or cs n d) (entry n)) = rw z at (length_next n (omega arith)) in
        omega (arith, m, fields_small h n (omega arith), entry_small values (given_at numbers n) (get_or cs n d), h)

    pub fields_most : length values ≤ limit → length (fields_of cs (entries (length cs) 0)) ≤ length cs * (limit + 4)
    fields_most h = omega (arith, fields_small h (length cs) (omega arith), ap length fields_all)

    -- one column more adds its bit
    pub bits_next : (m : Map) (n : ℕ) → n < length cs → bits_of m (take (n + 1) cs) (entries (n + 1) 0) ≡ bits_of m (take n cs) (entries n 0) ++ added m (get_or cs n d) (entry n)
    bits_next m n h =
        let z : 0 + n ≡ n = omega arith in
        let j : (k : ℕ) → k ≤ length cs → bits_of m (take k cs) (entries k 0) ≡ joined (added m) (take k cs) (entries k 0) =
        λ k l. bits_joined m (take k cs) (entries k 0) (length-take-le k cs l ∙ sym (count_entries k 0)) in
        rw (add-one n)
        (j (suc n) (omega arith) ∙ joined_more (added m) d cs n 0 h
        ∙ rw z (ap (λ (l : List Bool). l ++ added m (get_or cs n d) (entry n)) (sym (j n (omega arith)))))

  -- The entries before i can stand, and their fields have so many bytes: the answer is that from i on.
  pub record Standing (stands : Column → Entry → Bool) (size i : ℕ) : Type 0 where
    pub few : i ≤ length cs
    pub sized : size ≡ length (fields i)
    pub same : entries_stand stands 0 cs (entries (length cs) 0) ≡ entries_stand stands i (drop i cs) (entries (length cs - i) i)

  module _ (stands : Column → Entry → Bool) where
    pub standing_start : Standing stands 0 0
    unfolding fields_of
    standing_start = let z : length cs - 0 ≡ length cs = omega arith in record { few = omega arith; sized = refl; same = rw z refl }

    module _ {size i : ℕ} (h : Standing stands size i) where
      stand_suc :
          (d : Column) → i < length cs →
          entries_stand stands i (drop i cs) (entries (length cs - i) i)
          ≡ entries_stand stands i (get_or cs i d ∷ drop (suc i) cs) (entry i ∷ entries (length cs - suc i) (suc i))
      unfolding givens_from entries_of
      stand_suc d l =
          let z : length cs - i ≡ suc (length cs - suc i) = omega arith in
          rw (z, drop-cons cs i d l) refl

      pub standing_next : (d : Column) {r : ℕ} → i < length cs → stands (get_or cs i d) (entry i) ≡ true → r ≡ length (entry_bytes (get_or cs i d) (entry i)) → Standing stands (size + r) (i + 1)
      unfolding entries_stand check
      standing_next d {r} l u q =
          record {
            few = omega arith;
            sized = omega (arith, h.sized, length_next d i l, q);
            same = h.same ∙ stand_suc d l ∙ rw u (ap (λ (k : ℕ). entries_stand stands k (drop k cs) (entries (length cs - k) k)) (sym (add-one i)));
          }

      pub standing_not : (d : Column) → i < length cs → stands (get_or cs i d) (entry i) ≡ false → bad 20 i input.Entries ≡ fields_size stands cs (entries (length cs) 0)
      unfolding fields_size entries_stand check about
      standing_not d l u =
          let w : entries_stand stands 0 cs (entries (length cs) 0) ≡ bad 20 i input.Single = h.same ∙ stand_suc d l ∙ rw u refl in
          rw w refl

      pub standing_end : length cs ≤ i → ok size ≡ fields_size stands cs (entries (length cs) 0)
      unfolding fields_size entries_stand check about givens_from entries_of
      standing_end l =
          let y : i ≡ length cs = omega (arith, h.few) in
          let e : drop i cs ≡ [] = drop_of_length-le cs l in
          let w : entries_stand stands 0 cs (entries (length cs) 0) ≡ ok tt = h.same ∙ rw e refl in
          rw w (ap ok (h.sized ∙ ap (λ (k : ℕ). length (fields k)) y ∙ ap length fields_all))

  -- The fields of the columns before i are laid, one after the other.
  pub record Laying (at : ℕ) (entry exit : Bytes) (position i : ℕ) : Type 0 where
    pub few : i ≤ length cs
    pub stands : position ≡ at + length (fields i)
    pub leaves : exit ≡ put entry at (fields i)

  module _ (at : ℕ) (out : Bytes) where
    pub laying_start : at ≤ length out → Laying at out out at 0
    unfolding fields_of
    laying_start h = record { few = omega arith; stands = omega arith; leaves = sym (put_none_at out at h) }

    module _ {laid : Bytes} {position i : ℕ} (h : Laying at out laid position i) where
      pub laying_length : length laid ≡ length out
      laying_length = ap length h.leaves ∙ length_put out at (fields i)

      pub laying_end : length cs ≤ i → laid ≡ put out at (fields_of cs (entries (length cs) 0))
      laying_end l =
          let z : i ≡ length cs = omega (arith, h.few) in
          h.leaves ∙ ap (λ (k : ℕ). put out at (fields k)) z ∙ ap (put out at) fields_all

      module _ (room : at + length (fields_of cs (entries (length cs) 0)) ≤ length out) (d : Column) where
        pub laying_inside : position ≤ length laid
        laying_inside = omega (arith, laying_length, h.stands, fields_grow d (length cs) i h.few (omega arith), ap length fields_all)

        module _ (l : i < length cs) where
          pub laying_room : position + length (entry_bytes (get_or cs i d) (entry i)) ≤ length laid
          laying_room = omega (arith, laying_length, h.stands, length_next d i l, fields_grow d (length cs) (i + 1) (omega (arith, l)) (omega arith), ap length fields_all)

          pub laying_next :
              {last : Bytes} {r : ℕ} → Laid (entry_bytes (get_or cs i d) (entry i)) 0 (take (length laid - position) (drop position laid)) last r →
              Laying at out (take position laid ++ (last ++ drop (length laid - position) (drop position laid))) (position + r) (i + 1)
          laying_next {last} {r} k =
              let x : Bytes = entry_bytes (get_or cs i d) (entry i) in
              let m : fields i ++ x ≡ fields (i + 1) = sym (fields_next d i l) in
              let a : length (fields i) + length x ≡ length (fields (i + 1)) = sym (length-append (fields i) x) ∙ ap length m in
              let g : length (fields (i + 1)) ≤ length (fields (length cs)) = fields_grow d (length cs) (i + 1) (omega (arith, l)) (omega arith) in
              record {
                few = omega (arith, l);
                stands = omega (arith, h.stands, k.answers, a);
                leaves =
                    ap (λ (b : Bytes). take position laid ++ (b ++ drop (length laid - position) (drop position laid))) k.leaves
                    ∙ put_lent laid position x laying_inside
                    ∙ ap (λ (b : Bytes). put b position x) h.leaves
                    ∙ ap (λ (p : ℕ). put (put out at (fields i)) p x) h.stands
                    ∙ put_put out at (fields i) x (omega (arith, a, g, room, ap length fields_all))
                    ∙ ap (put out at) m;
              }

  -- An array is filled with the bits of a map, column after column.
  module _ (m : Map) where
    abbrev bits_to : ℕ → List Bool
    bits_to n = bits_of m (take n cs) (entries n 0)

    pub record Filling (bits : List Bool) (count i : ℕ) : Type 0 where
      pub few : i ≤ length cs
      pub fewer : count ≤ i
      pub long : length bits ≡ most_columns
      pub same : (k : ℕ) → get_or bits k false ≡ get_or (bits_to i) k false
      pub counts : count ≡ length (bits_to i)

    no_bits : bits_to 0 ≡ []
    unfolding bits_of givens_from entries_of presence_bits update_bits force_bits
    no_bits = go m
      where
        go : (k : Map) → bits_of k [] [] ≡ []
        go maps.Presence = refl
        go maps.Update = refl
        go maps.Force = refl

    all_false : (n k : ℕ) → get_or (replicate n false) k false ≡ false
    all_false zero k = refl
    all_false (suc n) zero = refl
    all_false (suc n) (suc k) = all_false n k

    pub fill_start : Filling (replicate most_columns false) 0 0
    fill_start = record { few = omega arith; fewer = omega arith; long = refl; same = λ k. all_false most_columns k ∙ sym (ap (λ (l : List Bool). get_or l k false) no_bits); counts = sym (ap length no_bits) }

    -- one bit more in an array
    one_more : (l bs : List Bool) (b : Bool) → length bs < length l → ((k : ℕ) → get_or l k false ≡ get_or bs k false) → (k : ℕ) → get_or (set l (length bs) b) k false ≡ get_or (bs ++ (b ∷ [])) k false
    one_more [] bs b h s k = absurd (omega arith)
    one_more (a ∷ l) [] b h s zero = refl
    one_more (a ∷ l) [] b h s (suc k) = s (suc k)
    one_more (a ∷ l) (x ∷ bs) b h s zero = s zero
    one_more (a ∷ l) (x ∷ bs) b h s (suc k) = one_more l bs b (omega arith) (λ j. s (suc j)) k

    module _ {bits : List Bool} {count i : ℕ} (h : Filling bits count i) where
      module _ (d : Column) (l : i < length cs) where
        pub fill_next : {b : Bool} → length cs ≤ most_columns → has_bit m (get_or cs i d) ≡ true → b ≡ bit_of m (entry i) → Filling (set bits count b) (count + 1) (i + 1)
        fill_next {b} o u e =
            let more : bits_to (i + 1) ≡ bits_to i ++ (b ∷ []) = bits_next d m i l ∙ rw (u, e) refl in
            let room : length (bits_to i) < length bits = omega (arith, h.counts, h.fewer, h.long) in
            record {
              few = omega arith;
              fewer = omega (arith, h.fewer);
              long = length-set bits count b ∙ h.long;
              same = λ k. ap (λ (n : ℕ). get_or (set bits n b) k false) h.counts ∙ one_more bits (bits_to i) b room h.same k ∙ sym (ap (λ (x : List Bool). get_or x k false) more);
              counts = omega (arith, h.counts, ap length more, length-append (bits_to i) (b ∷ []));
            }

        pub fill_skip : has_bit m (get_or cs i d) ≡ false → Filling bits count (i + 1)
        fill_skip u =
            let more : bits_to (i + 1) ≡ bits_to i = bits_next d m i l ∙ rw u (append-nil (bits_to i)) in
            record {
              few = omega arith;
              fewer = omega (arith, h.fewer);
              long = h.long;
              same = λ k. h.same k ∙ sym (ap (λ (x : List Bool). get_or x k false) more);
              counts = h.counts ∙ ap length (sym more);
            }

      pub fill_end : length cs ≤ most_columns → length cs ≤ i → Held (bits_of m cs (entries (length cs) 0)) bits count
      fill_end o l =
          let z : i ≡ length cs = omega (arith, h.few) in
          let e : bits_to i ≡ bits_of m cs (entries (length cs) 0) = ap bits_to z ∙ ap (λ (ds : List Column). bits_of m ds (entries (length cs) 0)) (take_all (length cs) cs (omega arith)) in
          record { same = λ k. h.same k ∙ ap (λ (x : List Bool). get_or x k false) e; counts = h.counts ∙ ap length e; few = omega (arith, h.fewer) }
