-- The row writers refuse exactly what their definition of faults says.
-- Assumes nothing.
use Prim.Native.Nat.{ℕ, zero, suc, ◌+◌, ◌*◌, ◌-◌, ◌^◌, ◌≤◌, ◌<◌}
use mathlib.Core.Path.{◌≡◌, refl, sym, ap, ◌∙◌}
use mathlib.Core.List.{List, [], ◌∷◌}
use mathlib.Core.Bool.{Bool, true, false, true≢false}
use mathlib.Core.Logic.{◌↔◌, ⊎_elim}
use native.Mathlib.Omega.{arith}
use lib.ListN.{length}
use lib.Dec.{leb, ltb, eqb}
use borrow.Author.Tests.{leb-false, lt-leb, ltb-false, le-ltb, eqb-false, ne_eqb}
use Rattle.wire.specs.declared.error.Input.{Input}
use Rattle.wire.specs.declared.error.Input.TheVariants as input
use Rattle.wire.specs.Read.{Bytes, Read, bad, ◌>>=◌, pick, check}
use Rattle.wire.proofs.Pieces.{bad_ok}
use Rattle.column.specs.declared.column.Column.{Column}
use Rattle.column.specs.Columns.{width, is_variable, is_chapter, is_nullable, prefix_size, length_error}
use Rattle.encode.specs.Entries.{Entry, value, null, unchanged, given_at, givens_from, is_entry, are_entries}
use Rattle.encode.specs.Steps.{stands_in, row_in}
use Rattle.encode.specs.Writers.{length_stands, in_original, in_update, entries_stand, entries_in, writing, write_original, write_update}
use Rattle.demands.specs.Checks.{Never, Exactly, Of, of, Missing, missing}
use Rattle.demands.specs.RowFaults.{LengthFault}
use Rattle.demands.specs.WriterFaults.{CountFault, not_one_each, NoEntry, no_entry, CantStand, not_nullable, wrong_width, wrong_length, over_prefix, unchanged_there, chapter_value, chapter_null, EntryFault, this_entry, later_entry, WriteFaults}
use Rattle.demands.proofs.Exactly.{exactly_then, exactly_fitting, exactly_about, exactly_check, moved_error, never_then, never_of, never_missing, never_room}
use Rattle.demands.proofs.RowExactly.{length_fault, length_either}

-- 18: the entries.

module _ (values : Bytes) (numbers : List ℕ) where
  -- an entry that is none stands among n entries from i on
  none_among : (n i : ℕ) → are_entries values (givens_from n i numbers) ≡ false → (j : ℕ) × (j < i + n) × (is_entry values (given_at numbers j) ≡ false)
  unfolding are_entries givens_from
  none_among zero i e = absurd (true≢false e)
  none_among (suc n) i e = go (is_entry values (given_at numbers i)) refl e (none_among n (suc i))
    where
      go : (t : Bool) → is_entry values (given_at numbers i) ≡ t → pick t (are_entries values (givens_from n (suc i) numbers)) false ≡ false →
          (are_entries values (givens_from n (suc i) numbers) ≡ false → (j : ℕ) × (j < suc i + n) × (is_entry values (given_at numbers j) ≡ false)) →
          (j : ℕ) × (j < i + suc n) × (is_entry values (given_at numbers j) ≡ false)
      go false t x rest = (i, omega arith, t)
      go true t x rest = let (j, l, h) = rest x in (j, omega arith, h)

  among_none : (n i j : ℕ) → i ≤ j → j < i + n → is_entry values (given_at numbers j) ≡ false → are_entries values (givens_from n i numbers) ≡ false
  unfolding are_entries givens_from
  among_none zero i j l m h = absurd (omega arith)
  among_none (suc n) i j l m h = go (is_entry values (given_at numbers i)) refl (λ k. among_none n (suc i) j k (omega arith) h)
    where
      go : (t : Bool) → is_entry values (given_at numbers i) ≡ t → (suc i ≤ j → are_entries values (givens_from n (suc i) numbers) ≡ false) →
          pick t (are_entries values (givens_from n (suc i) numbers)) false ≡ false
      go false t rest = refl
      go true t rest = rest (differ (λ (z : i ≡ j). true≢false (sym t ∙ ap (λ (k : ℕ). is_entry values (given_at numbers k)) z ∙ h)))
        where
          differ : (i ≡ j → ⊥) → suc i ≤ j
          differ x = omega arith

exactly_count : (numbers : List ℕ) (n : ℕ) → Exactly (check (eqb (length numbers) (3 * n)) 18 0) (Of input.Single (CountFault numbers n))
exactly_count numbers n = exactly_check (eqb (length numbers) (3 * n)) 18 0 (λ t. not_one_each (eqb-false _ _ t)) told
  where
    told : (c o : ℕ) → CountFault numbers n c o → (eqb (length numbers) (3 * n) ≡ false) × (c ≡ 18) × (o ≡ 0)
    told c o (not_one_each h) = (ne_eqb _ _ h, refl, refl)

exactly_entries : (numbers : List ℕ) (values : Bytes) (n : ℕ) → Exactly (check (are_entries values (givens_from n 0 numbers)) 18 0) (Of input.Single (NoEntry numbers values n))
exactly_entries numbers values n =
    exactly_check (are_entries values (givens_from n 0 numbers)) 18 0
    (λ t. let (j, l, h) = none_among values numbers n 0 t in no_entry {i = j} (omega arith) h) told
  where
    told : (c o : ℕ) → NoEntry numbers values n c o → (are_entries values (givens_from n 0 numbers) ≡ false) × (c ≡ 18) × (o ≡ 0)
    told c o (no_entry {i = i} l h) = (among_none values numbers n 0 i (omega arith) (omega arith) h, refl, refl)

-- 20: an entry in its column.

module _ (update : Bool) (c : Column) where
  -- a value of these bytes
  value_stands : (v : Bytes) → (CantStand update c (value v) ↔ (length_stands c (length v) ≡ false))
  unfolding length_stands
  value_stands v = (λ f. there f, λ e. back (is_chapter c) (is_variable c) refl refl e)
    where
      refused_length : LengthFault c (length v) → length_error c (length v) ≡ 0 → ⊥
      refused_length d z = let y : length_error c (length v) ≡ 14 = length_fault c (length v) d in omega arith

      allowed_not : (length_error c (length v) ≡ 0 → ⊥) → LengthFault c (length v)
      allowed_not z = ⊎_elim (λ y. absurd (z y)) (λ d. d) (length_either c (length v))

      there : CantStand update c (value v) → length_stands c (length v) ≡ false
      there (wrong_width h w d) = rw (h, w, ne_eqb _ _ d) refl
      there (wrong_length w d) = go (is_chapter c)
        where
          go : (t : Bool) → pick t false (pick (is_variable c) (pick (eqb (length_error c (length v)) 0) (ltb (length v) (256 ^ prefix_size c)) false) (eqb (length v) (width c))) ≡ false
          go true = refl
          go false = rw (w, ne_eqb _ _ (refused_length d)) refl
      there (over_prefix w l) = go (is_chapter c) (eqb (length_error c (length v)) 0)
        where
          go : (t u : Bool) → pick t false (pick (is_variable c) (pick u (ltb (length v) (256 ^ prefix_size c)) false) (eqb (length v) (width c))) ≡ false
          go true u = refl
          go false true = rw (w, le-ltb _ _ l) refl
          go false false = rw w refl
      there (chapter_value h) = rw h refl

      by_length : is_variable c ≡ true → (t u : Bool) → eqb (length_error c (length v)) 0 ≡ t → ltb (length v) (256 ^ prefix_size c) ≡ u → pick t u false ≡ false → CantStand update c (value v)
      by_length w true true t u e = absurd (true≢false e)
      by_length w true false t u e = over_prefix w (ltb-false _ _ u)
      by_length w false u t x e = wrong_length w (allowed_not (eqb-false _ _ t))

      back : (t u : Bool) → is_chapter c ≡ t → is_variable c ≡ u →
          pick t false (pick u (pick (eqb (length_error c (length v)) 0) (ltb (length v) (256 ^ prefix_size c)) false) (eqb (length v) (width c))) ≡ false →
          CantStand update c (value v)
      back true u h w e = chapter_value h
      back false true h w e = by_length w (eqb (length_error c (length v)) 0) (ltb (length v) (256 ^ prefix_size c)) refl refl e
      back false false h w e = wrong_width h w (eqb-false _ _ e)

module _ (c : Column) where
  -- An entry can't stand exactly where the writer's test fails.
  pub cant_stand : (update : Bool) (e : Entry) → (CantStand update c e ↔ (stands_in update c e ≡ false))
  unfolding in_original in_update
  cant_stand true (value v) = value_stands true c v
  cant_stand false (value v) = value_stands false c v
  cant_stand true null = (λ f. there f, λ e. back (is_chapter c) (is_nullable c) refl refl e)
    where
      there : CantStand true c null → pick (is_chapter c) false (is_nullable c) ≡ false
      there (not_nullable h n) = rw (h, n) refl
      there (chapter_null _ h) = rw h refl

      back : (t u : Bool) → is_chapter c ≡ t → is_nullable c ≡ u → pick t false u ≡ false → CantStand true c null
      back true u h n e = chapter_null refl h
      back false true h n e = absurd (true≢false e)
      back false false h n e = not_nullable h n
  cant_stand false null = (λ f. there f, λ e. back (is_chapter c) (is_nullable c) refl refl e)
    where
      there : CantStand false c null → pick (is_chapter c) true (is_nullable c) ≡ false
      there (not_nullable h n) = rw (h, n) refl
      there (chapter_null z _) = absurd (true≢false (sym z))

      back : (t u : Bool) → is_chapter c ≡ t → is_nullable c ≡ u → pick t true u ≡ false → CantStand false c null
      back true u h n e = absurd (true≢false e)
      back false true h n e = absurd (true≢false e)
      back false false h n e = not_nullable h n
  cant_stand true unchanged = (λ f. there f, λ e. absurd (true≢false e))
    where
      there : CantStand true c unchanged → true ≡ false
      there (unchanged_there z) = z
  cant_stand false unchanged = (λ f. refl, λ e. unchanged_there refl)

-- each entry in its column
exactly_stand : (update : Bool) (k : ℕ) (cs : List Column) (es : List Entry) → Exactly (entries_stand (stands_in update) k cs es) (Of input.Single (EntryFault update k cs es))
unfolding entries_stand check
exactly_stand update k [] es code offset name = ((λ e. absurd (bad_ok (sym e))), (λ p. absurd (by p)))
  where
    none : {cs : List Column} {es : List Entry} {c o : ℕ} → EntryFault update k cs es c o → cs ≡ [] → ⊥
    none (this_entry h) e = let z : ◌≡◌ {A = ℕ} 0 1 = cc in omega arith
    none (later_entry h p) e = let z : ◌≡◌ {A = ℕ} 0 1 = cc in omega arith

    by : {name : Input} → Of input.Single (EntryFault update k [] es) code offset name → ⊥
    by (of p) = none p refl
exactly_stand update k (c ∷ cs) [] code offset name = ((λ e. absurd (bad_ok (sym e))), (λ p. absurd (by p)))
  where
    none : {es : List Entry} {d o : ℕ} → EntryFault update k (c ∷ cs) es d o → es ≡ [] → ⊥
    none (this_entry h) e = let z : ◌≡◌ {A = ℕ} 0 1 = cc in omega arith
    none (later_entry h p) e = let z : ◌≡◌ {A = ℕ} 0 1 = cc in omega arith

    by : {name : Input} → Of input.Single (EntryFault update k (c ∷ cs) []) code offset name → ⊥
    by (of p) = none p refl
exactly_stand update k (c ∷ cs) (e ∷ es) code offset name = go (stands_in update c e) refl (exactly_stand update (suc k) cs es code offset)
  where
    go : (t : Bool) → stands_in update c e ≡ t →
        ((name : Input) → entries_stand (stands_in update) (suc k) cs es ≡ bad code offset name ↔ Of input.Single (EntryFault update (suc k) cs es) code offset name) →
        (check t 20 k >>= λ _. entries_stand (stands_in update) (suc k) cs es) ≡ bad code offset name ↔ Of input.Single (EntryFault update k (c ∷ cs) (e ∷ es)) code offset name
    go true t rest = ((λ q. up ((rest name).0 q)), (λ p. down p))
      where
        stands : CantStand update c e → ⊥
        stands f = true≢false (sym t ∙ (cant_stand c update e).0 f)

        up : {name : Input} → Of input.Single (EntryFault update (suc k) cs es) code offset name → Of input.Single (EntryFault update k (c ∷ cs) (e ∷ es)) code offset name
        up (of p) = of (later_entry stands p)

        down_by : {o d : ℕ} → EntryFault update k (c ∷ cs) (e ∷ es) d o → EntryFault update (suc k) cs es d o
        down_by (this_entry f) = absurd (stands f)
        down_by (later_entry h p) = p

        down : {name : Input} → Of input.Single (EntryFault update k (c ∷ cs) (e ∷ es)) code offset name → entries_stand (stands_in update) (suc k) cs es ≡ bad code offset name
        down (of p) = (rest input.Single).1 (of (down_by p))
    go false t rest = ((λ q. moved_error (Of input.Single (EntryFault update k (c ∷ cs) (e ∷ es))) q (of (this_entry cant))), (λ p. down p))
      where
        cant : CantStand update c e
        cant = (cant_stand c update e).1 t

        same : {o d : ℕ} → EntryFault update k (c ∷ cs) (e ∷ es) d o → (d ≡ 20) × (o ≡ k)
        same (this_entry f) = (refl, refl)
        same (later_entry h p) = absurd (h cant)

        down : {name : Input} → Of input.Single (EntryFault update k (c ∷ cs) (e ∷ es)) code offset name → ◌≡◌ {A = Read (Unit {0})} (bad 20 k input.Single) (bad code offset name)
        down (of p) =
            let (x, y) = same p in
            let z : 20 ≡ code = sym x in
            let w : k ≡ offset = sym y in
            cc

-- Writing.

exactly_place : (size place : ℕ) → Exactly (check (leb place size) 18 0) (Of input.Single (Missing (suc size) place))
exactly_place size place = exactly_check (leb place size) 18 0 (λ t. let l : size < place = leb-false _ _ t in missing (omega arith)) told
  where
    told : (c o : ℕ) → Missing (suc size) place c o → (leb place size ≡ false) × (c ≡ 18) × (o ≡ 0)
    told c o (missing h) = let l : size < place = omega arith in (lt-leb _ _ l, refl, refl)

exactly_writing :
    (update : Bool) (cs : List Column) (numbers : List ℕ) (values : Bytes) (size place : ℕ) →
    Exactly (writing (stands_in update) (row_in update) cs numbers values size place) (WriteFaults update cs numbers values size place)
unfolding writing
exactly_writing update cs numbers values size place =
    exactly_then _ _ (exactly_about input.Place _ (exactly_place size place))
    (λ _ _. exactly_then _ _ (exactly_about input.Entries _ (exactly_count numbers (length cs)))
    (λ _ _. exactly_then _ _ (exactly_about input.Entries _ (exactly_entries numbers values (length cs)))
    (λ _ _. exactly_then _ _ (exactly_about input.Entries _ (exactly_stand update 0 cs (entries_in (length cs) numbers values)))
    (λ _ _. exactly_fitting (row_in update cs (entries_in (length cs) numbers values)) (size - place)))))

-- The row writers, over the columns of a schema.
module _ (cs : List Column) (numbers : List ℕ) (values : Bytes) (size place : ℕ) where
  pub exactly_original : Exactly (write_original cs numbers values size place) (WriteFaults false cs numbers values size place)
  unfolding write_original
  exactly_original = exactly_writing false cs numbers values size place

  pub exactly_update : Exactly (write_update cs numbers values size place) (WriteFaults true cs numbers values size place)
  unfolding write_update
  exactly_update = exactly_writing true cs numbers values size place

-- They give 16, 18 and 20 alone.
entry_code : {update : Bool} {k code offset : ℕ} {cs : List Column} {es : List Entry} → EntryFault update k cs es code offset → code ≡ 20
entry_code (this_entry h) = refl
entry_code (later_entry h p) = entry_code p

count_code : {numbers : List ℕ} {n code offset : ℕ} → CountFault numbers n code offset → code ≡ 18
count_code (not_one_each h) = refl

no_entry_code : {numbers : List ℕ} {values : Bytes} {n code offset : ℕ} → NoEntry numbers values n code offset → code ≡ 18
no_entry_code (no_entry l h) = refl

pub never_written :
    (update : Bool) (cs : List Column) (numbers : List ℕ) (values : Bytes) (size place : ℕ) {n : ℕ} → (n ≡ 16 → ⊥) → (n ≡ 18 → ⊥) → (n ≡ 20 → ⊥) →
    Never n (WriteFaults update cs numbers values size place)
never_written update cs numbers values size place a b c =
    never_then (never_missing b)
    (never_then (never_of (λ _ f. b (count_code f)))
    (never_then (never_of (λ _ f. b (no_entry_code f))) (never_then (never_of (λ _ f. c (entry_code f))) (never_room a))))
