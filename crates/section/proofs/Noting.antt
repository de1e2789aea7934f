-- Sizes that are noted: how each element's goes behind the others.
-- Assumes nothing.
use Rattle.std.specs.Prelude.{Option, Some, None}
use Prim.Native.Nat.{ℕ, zero, suc, ◌+◌, ◌*◌, ◌-◌, ◌/◌, ◌%◌, ◌<◌, ◌≤◌}
use mathlib.Core.Path.{◌≡◌, refl, sym, ap, ◌∙◌}
use mathlib.Core.Logic.{◌⊎◌, inl, inr}
use mathlib.Core.List.{List}
use mathlib.Core.Bool.{Bool, true, false}
use native.Mathlib.Omega.{arith}
use native.Mathlib.Nat.{eq-or-lt_of_le}
use lib.ListN.{length, get_or, set, length-set, replicate, length-replicate}
use lib.Seq.{get_or-set_same, get_or-set_other}
use lib.Dec.{eqb}
use borrow.Author.Tests.{lt-ltb, le-ltb}
use Rattle.wire.specs.Read.{Bytes, ok}
use Rattle.tree.specs.Schemas.{Schema}
use Rattle.grammar.specs.Grammar.{Before, columns_at}
use Rattle.grammar.specs.Reader.{token_of, known_child}
use Rattle.section.specs.Heads.{delete_head, data_head}
use Rattle.walk.specs.Data.{data_end}
use Rattle.section.specs.Sizes.{end_by, place_in, element_start, element_size, note_bytes, in_step, is_stepped, note_start, NotedAs, in_one, in_three, NotedSome, NoteMade, NotedAt, passed, made, ended, Blank, NotedIs}
use Rattle.section.specs.declared.notes.Size.{Size}
use Rattle.section.proofs.RowsByHead.{HeadTold, told_delete, told_parent, told_child, told_change}

-- Before an element at `at`: the sizes of all before it are noted, up to `used`; or no more are.
pub record AtNote (step : ℕ) (S : List Schema) (s : Bytes) (sizes : List ℕ) (at used : ℕ) : Type 0 where
  pub some : NotedSome step S s sizes
  pub next : (used ≡ length sizes) ⊎ ((at ≡ element_start S s some.elements) × (used ≡ note_start step S s some.elements))

pub noted_start : (step : ℕ) (S : List Schema) (s : Bytes) (sizes : List ℕ) → Blank sizes → AtNote step S s sizes 0 0
unfolding element_start note_start
noted_start step S s sizes b = record { some = record { elements = 0; noted = λ j h. absurd (omega (arith, h)); stops = b.clear }; next = inr (refl, refl) }

pub bytes_one : (size : ℕ) → size < 255 → note_bytes size ≡ 1
unfolding note_bytes
bytes_one size h = simp (lt-ltb _ _ h)

pub bytes_three : (size : ℕ) → 255 ≤ size → note_bytes size ≡ 3
unfolding note_bytes
bytes_three size h = simp (le-ltb _ _ h)

-- what noting leaves is as long, and the next note goes inside it
pub note_long : {entry exit : List ℕ} {i size next : ℕ} {stepped : Bool} → NotedAt entry exit i size stepped next → length exit ≡ length entry
note_long (passed e) = ap length e
note_long (made l m) = l
note_long (ended e n) = ap length e

pub note_within : {entry exit : List ℕ} {i size next : ℕ} {stepped : Bool} → NotedAt entry exit i size stepped next → i ≤ length entry → next ≤ length exit
note_within (passed e) h = omega (arith, ap length e)
note_within {exit = exit} {i = i} {size = size} {next = next} (made l m) h = by m.noted
  where
    by : NotedAs exit i size → next ≤ length exit
    by (in_one x y z) = omega (arith, m.onward, bytes_one size x, z)
    by (in_three x y v z) = omega (arith, m.onward, bytes_three size x, z)
note_within (ended e n) h = omega (arith, ap length e)

module _ (step : ℕ) (S : List Schema) (s : Bytes) where
  -- notes go on
  note_onward : (i n : ℕ) → note_start step S s i ≤ note_start step S s (i + n)
  unfolding note_start
  note_onward i zero = let z : i + 0 ≡ i = omega arith in rw z (omega arith)
  note_onward i (suc n) =
      let z : i + suc n ≡ suc (i + n) = omega arith in
      rw z (omega (arith, note_onward i n))

  -- where the note behind one goes
  pub note_next : (j : ℕ) → is_stepped step S s j ≡ false → note_start step S s (suc j) ≡ note_start step S s j + note_bytes (element_size S s j)
  unfolding note_start
  note_next j e = rw e refl

  pub note_same : (j : ℕ) → is_stepped step S s j ≡ true → note_start step S s (suc j) ≡ note_start step S s j
  unfolding note_start
  note_same j e = rw e (omega arith)

  -- a note before another is not touched by it
  note_stays : (entry exit : List ℕ) (n j : ℕ) → length exit ≡ length entry → ((i : ℕ) → i < note_start step S s n → get_or exit i 0 ≡ get_or entry i 0) → j < n →
      is_stepped step S s j ≡ false → NotedAs entry (note_start step S s j) (element_size S s j) → NotedAs exit (note_start step S s j) (element_size S s j)
  note_stays entry exit n j l k h e =
      let z : suc j + (n - suc j) ≡ n = omega arith in
      let f : note_start step S s (suc j) ≤ note_start step S s n = rw z at (note_onward (suc j) (n - suc j)) in
      go (rw (note_next j e) at f)
    where
      go : note_start step S s j + note_bytes (element_size S s j) ≤ note_start step S s n → NotedAs entry (note_start step S s j) (element_size S s j) →
          NotedAs exit (note_start step S s j) (element_size S s j)
      go f (in_one x y i) = in_one x (k _ (omega (arith, f, bytes_one (element_size S s j) x)) ∙ y) (omega (arith, l, i))
      go f (in_three x y v i) =
          let b = bytes_three (element_size S s j) x in
          let c : get_or exit (note_start step S s j + 1) 0 ≡ get_or entry (note_start step S s j + 1) 0 = k _ (omega (arith, f, b)) in
          let d : get_or exit (note_start step S s j + 2) 0 ≡ get_or entry (note_start step S s j + 2) 0 = k _ (omega (arith, f, b)) in
          in_three x (k _ (omega (arith, f, b)) ∙ y) (rw (c, d) v) (omega (arith, l, i))

  -- An element at `at` that ends at e.
  module _ (at e : ℕ) (h : end_by S s at (token_of (get_or s at 0)) ≡ ok e) where
    module _ (j : ℕ) (p : at ≡ element_start S s j) where
      pub end_place : e ≡ element_start S s (suc j)
      unfolding element_start
      end_place = ap place_in (sym h) ∙ ap (λ (q : ℕ). place_in (end_by S s q (token_of (get_or s q 0)))) p

      pub stepped_same : {b : Bool} → in_step step (get_or s at 0) ≡ b → is_stepped step S s j ≡ b
      stepped_same t = rw (← p) t

    -- one that is passed by its step
    pub noted_pass : {sizes : List ℕ} {used : ℕ} → in_step step (get_or s at 0) ≡ true → AtNote step S s sizes at used → AtNote step S s sizes e used
    noted_pass {sizes} {used} t a = by a.next
      where
        m : ℕ
        m = a.some.elements

        by : (used ≡ length sizes) ⊎ ((at ≡ element_start S s m) × (used ≡ note_start step S s m)) → AtNote step S s sizes e used
        by (inl c) = record { some = a.some; next = inl c }
        by (inr (p, u)) =
            let g : is_stepped step S s m ≡ true = stepped_same m p t in
            record {
              some =
                  record {
                    elements = suc m;
                    noted = λ i l x. go i (eq-or-lt_of_le (omega (arith, l))) g x;
                    stops = rw (note_same m g) a.some.stops;
                  };
              next = inr (end_place m p, u ∙ sym (note_same m g));
            }
          where
            go : (i : ℕ) → (i ≡ m) ⊎ (i < m) → is_stepped step S s m ≡ true → is_stepped step S s i ≡ false → NotedAs sizes (note_start step S s i) (element_size S s i)
            go i (inl z) g x = let v : true ≡ false = sym g ∙ ap (is_stepped step S s) (sym z) ∙ x in let w : ◌≡◌ {A = ℕ} 0 1 = cc in absurd (omega arith)
            go i (inr z) g x = a.some.noted i z x

    -- one that is noted
    one_noted : {entry exit : List ℕ} {used next : ℕ} → length exit ≡ length entry → NoteMade entry exit used (e - at) next → in_step step (get_or s at 0) ≡ false →
        AtNote step S s entry at used → AtNote step S s exit e next
    one_noted {entry} {exit} {used} {next} l m t a = by a.next
      where
        n : ℕ
        n = a.some.elements

        by : (used ≡ length entry) ⊎ ((at ≡ element_start S s n) × (used ≡ note_start step S s n)) → AtNote step S s exit e next
        by (inl c) = absurd (omega (arith, c, m.room))
        by (inr (p, u)) =
            let g : is_stepped step S s n ≡ false = stepped_same n p t in
            let z : e - at ≡ element_size S s n = omega (arith, end_place n p, p) in
            let x : next ≡ note_start step S s (suc n) = omega (arith, m.onward, u, ap note_bytes z, note_next n g) in
            record {
              some =
                  record {
                    elements = suc n;
                    noted = λ i q y. go i (eq-or-lt_of_le (omega (arith, q))) z y;
                    stops = ap (λ (k : ℕ). get_or exit k 0) (sym x) ∙ m.stops;
                  };
              next = inr (end_place n p, x);
            }
          where
            go : (i : ℕ) → (i ≡ n) ⊎ (i < n) → e - at ≡ element_size S s n → is_stepped step S s i ≡ false → NotedAs exit (note_start step S s i) (element_size S s i)
            go i (inl q) z y = rw q (rw (u, z) at m.noted)
            go i (inr q) z y = note_stays entry exit n i l (λ k r. m.before k (omega (arith, r, u))) q y (a.some.noted i q y)

    pub noted_next : {entry exit : List ℕ} {used next : ℕ} {stepped : Bool} → in_step step (get_or s at 0) ≡ stepped → NotedAt entry exit used (e - at) stepped next →
        AtNote step S s entry at used → AtNote step S s exit e next
    noted_next t (passed x) a = rw x (noted_pass t a)
    noted_next t (made l m) a = one_noted l m t a
    noted_next {entry} {exit} {used} {next} t (ended x y) a =
        rw x (record { some = a.some; next = inl y })

module _ (S : List Schema) (s : Bytes) where
  -- where the element of a head ends
  module _ (before : Before) (at : ℕ) where
    pub data_ends : {kind k id start e : ℕ} → HeadTold S s before at (data_head kind k id start) → data_end (eqb kind 3) (columns_at S k) s start ≡ ok e →
        end_by S s at (token_of (get_or s at 0)) ≡ ok e
    unfolding end_by known_child
    data_ends (told_parent i l) q = rw i q
    data_ends (told_child i c j z l) q = rw (i, ← j, c, ← z) q
    data_ends (told_change i b c j z l) q = rw (i, ← j, c, ← z) q

    pub delete_ends : {id : ℕ} → HeadTold S s before at (delete_head id) → end_by S s at (token_of (get_or s at 0)) ≡ ok (at + 5)
    unfolding end_by
    delete_ends (told_delete i b j l) = rw i refl

-- What noting one size leaves.
module _ (l : List ℕ) (i size : ℕ) (room : i + 3 < length l) where
  abbrev pub one : List ℕ
  one = set (set l i size) (i + 1) 0

  pub note_one : size < 255 → NotedAt l one i size false (i + 1)
  note_one h =
      made {next = i + 1} (simp length-set refl)
      (record {
        noted =
            in_one h (get_or-set_other (set l i size) (i + 1) i 0 0 (λ q. omega (arith, q)) ∙ get_or-set_same l i size 0 (omega arith)) (simp length-set (omega arith));
        onward = omega (arith, bytes_one size h);
        stops = get_or-set_same (set l i size) (i + 1) 0 0 (simp length-set (omega arith));
        before = λ j k. get_or-set_other (set l i size) (i + 1) j 0 0 (λ q. omega (arith, k, q)) ∙ get_or-set_other l i j size 0 (λ q. omega (arith, k, q));
        room = room;
      })

  abbrev two : List ℕ
  two = set (set l i 255) (i + 1) (size / 256)

  abbrev three : List ℕ
  three = set two (i + 2) (size % 256)

  abbrev pub four : List ℕ
  four = set three (i + 3) 0

  -- what stands before is not touched
  three_before : (j : ℕ) → j < i → get_or three j 0 ≡ get_or l j 0
  three_before j k =
      get_or-set_other two (i + 2) j (size % 256) 0 (λ q. omega (arith, k, q))
      ∙ get_or-set_other (set l i 255) (i + 1) j (size / 256) 0 (λ q. omega (arith, k, q))
      ∙ get_or-set_other l i j 255 0 (λ q. omega (arith, k, q))

  -- nor by the 0 behind
  four_below : (j : ℕ) → j < i + 3 → get_or four j 0 ≡ get_or three j 0
  four_below j k = get_or-set_other three (i + 3) j 0 0 (λ q. omega (arith, k, q))

  pub note_three : 255 ≤ size → NotedAt l four i size false (i + 3)
  note_three h =
      let x : get_or three i 0 ≡ 255 =
      get_or-set_other two (i + 2) i (size % 256) 0 (λ q. omega (arith, q)) ∙ get_or-set_other (set l i 255) (i + 1) i (size / 256) 0 (λ q. omega (arith, q))
      ∙ get_or-set_same l i 255 0 (omega arith) in
      let y : get_or three (i + 1) 0 ≡ size / 256 =
      get_or-set_other two (i + 2) (i + 1) (size % 256) 0 (λ q. omega (arith, q)) ∙ get_or-set_same (set l i 255) (i + 1) (size / 256) 0 (simp length-set (omega arith)) in
      let z : get_or three (i + 2) 0 ≡ size % 256 =
      get_or-set_same two (i + 2) (size % 256) 0 (simp length-set (omega arith)) in
      let y₁ : get_or four (i + 1) 0 ≡ size / 256 = four_below (i + 1) (omega arith) ∙ y in
      let z₁ : get_or four (i + 2) 0 ≡ size % 256 = four_below (i + 2) (omega arith) ∙ z in
      made {next = i + 3} (simp length-set refl)
      (record {
        noted = in_three h (four_below i (omega arith) ∙ x) (rw (y₁, z₁) (omega arith)) (simp length-set (omega arith));
        onward = omega (arith, bytes_three size h);
        stops = get_or-set_same three (i + 3) 0 0 (simp length-set (omega arith));
        before = λ j k. four_below j (omega (arith, k)) ∙ three_before j k;
        room = room;
      })

-- an element by its token, where there is a step
pub stepped_by : (step t : ℕ) → (step ≡ 0 → ⊥) → eqb t 0x07 ≡ in_step step t
stepped_by zero t n = absurd (n refl)
stepped_by (suc k) t n = refl

-- What is read at a note.
module _ (sizes : List ℕ) (i : ℕ) where
  pub read_stepped : NotedIs sizes i true None
  read_stepped = record { noted = λ n l t x. let w : ◌≡◌ {A = ℕ} 0 1 = cc in absurd (omega arith); none = λ z. refl; skipped = λ t. refl }

  pub read_none : {b : Bool} → length sizes < i + 3 → NotedIs sizes i b None
  read_none l = record { noted = λ n o t x. absurd (by x); none = λ z. refl; skipped = λ t. refl }
    where
      by : {n : ℕ} → NotedAs sizes i n → ⊥
      by (in_one x y z) = omega (arith, l, z)
      by (in_three x y v z) = omega (arith, l, z)

  pub read_zero : {b : Bool} → get_or sizes i 0 ≡ 0 → NotedIs sizes i b None
  read_zero e = record { noted = λ n o t x. absurd (by o x); none = λ z. refl; skipped = λ t. refl }
    where
      by : {n : ℕ} → 1 ≤ n → NotedAs sizes i n → ⊥
      by o (in_one x y z) = omega (arith, e, y, o)
      by o (in_three x y v z) = omega (arith, e, y)

  pub read_one : {b : Bool} → b ≡ false → get_or sizes i 0 < 255 → (get_or sizes i 0 ≡ 0 → ⊥) → NotedIs sizes i b (Some (record { bytes = get_or sizes i 0; next = i + 1 }))
  read_one e h p = rw e (record { noted = λ n o t x. by x; none = λ z. absurd (p z); skipped = λ t. let w : ◌≡◌ {A = ℕ} 0 1 = cc in absurd (omega arith) })
    where
      by : {n : ℕ} → NotedAs sizes i n → ◌≡◌ {A = Option Size} (Some (record { bytes = get_or sizes i 0; next = i + 1 })) (Some (record { bytes = n; next = i + note_bytes n }))
      by {n} (in_one x y l) = rw (y, bytes_one n x) refl
      by (in_three x y v l) = absurd (omega (arith, h, y))

  pub read_three : {b : Bool} → b ≡ false → 255 ≤ get_or sizes i 0 →
      NotedIs sizes i b (Some (record { bytes = 256 * get_or sizes (i + 1) 0 + get_or sizes (i + 2) 0; next = i + 3 }))
  read_three e h = rw e (record { noted = λ n o t x. by x; none = λ z. absurd (omega (arith, h, z)); skipped = λ t. let w : ◌≡◌ {A = ℕ} 0 1 = cc in absurd (omega arith) })
    where
      by : {n : ℕ} → NotedAs sizes i n →
          ◌≡◌ {A = Option Size} (Some (record { bytes = 256 * get_or sizes (i + 1) 0 + get_or sizes (i + 2) 0; next = i + 3 })) (Some (record { bytes = n; next = i + note_bytes n }))
      by (in_one x y l) = absurd (omega (arith, h, x, y))
      by {n} (in_three x y v l) = rw (v, bytes_three n x) refl

-- the room that zeros have, without counting them
pub zeros : (n : ℕ) → length (replicate {A = ℕ} n 0) ≡ n
zeros n = length-replicate n 0

pub blank_of : (n : ℕ) → n ≤ 16777216 → Blank (replicate {A = ℕ} n 0)
blank_of n l = record { most = omega (arith, zeros n); clear = first n }
  where
    first : (k : ℕ) → get_or (replicate {A = ℕ} k 0) 0 0 ≡ 0
    first zero = refl
    first (suc k) = refl
