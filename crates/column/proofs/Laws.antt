-- Laws of columns and of one field at a position of a row. The functions' proofs and the layers above cite these.
-- Assumes nothing.
use Prim.Native.Nat.{ℕ, zero, suc, ◌+◌, ◌*◌, ◌-◌, ◌%◌, ◌≤◌, ◌<◌}
use mathlib.Core.List.{List, [], ◌∷◌}
use mathlib.Core.Bool.{Bool, true, false, true≢false}
use mathlib.Core.Path.{◌≡◌, refl, sym, ap, ◌∙◌}
use mathlib.Core.Logic.{◌⊎◌, inl, inr, ⊎_elim, ◌↔◌}
use native.Mathlib.Omega.{arith, by_contra, not-le}
use mir.Val.{bool_byte}
use lib.ListN.{length, take}
use lib.Seq.{take-take}
use lib.Dec.{leb, eqb}
use borrow.Author.Tests.{lt-ltb, le-ltb, leb-true, le-leb, lt-leb, ne_eqb, eqb-true, eqb-false}
use Rattle.wire.specs.declared.error.ErrorKind.{ErrorKind}
use Rattle.wire.specs.declared.error.ErrorKind.TheVariants as error
use Rattle.wire.specs.declared.error.Input.{Input}
use Rattle.wire.specs.declared.error.Input.TheVariants.{Single}
use Rattle.wire.specs.Errors.{code_of}
use Rattle.wire.specs.Read.{Bytes, Read, ok, bad, pick, cut}
use Rattle.wire.specs.Integers.{value_of, int_at, read_int}
use Rattle.wire.proofs.Laws.{whole_fits, whole_short, int_fits, int_short}
use Rattle.wire.proofs.Pieces.{bad_ok}
use Rattle.column.specs.declared.column.Column.{Column}
use Rattle.column.specs.declared.field.Field.{Field}
use Rattle.column.specs.declared.types.Kind.{Kind}
use Rattle.column.specs.declared.types.Kind.TheVariants.{Variable, Wide, Unknown}
use Rattle.column.specs.Types.{chapter_code, Entry, types, kind_in, kind_of, variable_kind, wide_kind, chapter_kind}
use Rattle.column.specs.Columns.{kind, width, is_variable, is_wide, is_chapter, prefix_size, prefix_bytes, greatest, length_error_of, length_error}
use Rattle.column.specs.Fields.{field, allowed, bytes_at, variable_at, field_at}

-- Answers and errors.

-- no error has the number 0
pub code_positive : (k : ErrorKind) → 0 < code_of k
code_positive error.Short = omega arith
code_positive error.Constant = omega arith
code_positive error.Value = omega arith
code_positive error.OptionsSize = omega arith
code_positive error.NumberForm = omega arith
code_positive error.Range = omega arith
code_positive error.Limit = omega arith
code_positive error.RepeatedId = omega arith
code_positive error.UnknownToken = omega arith
code_positive error.UnknownId = omega arith
code_positive error.Unpaired = omega arith
code_positive error.ChapterBit = omega arith
code_positive error.ForceNull = omega arith
code_positive error.Length = omega arith
code_positive error.Trailing = omega arith
code_positive error.Capacity = omega arith
code_positive error.PlanMismatch = omega arith
code_positive error.Missing = omega arith
code_positive error.TooLarge = omega arith
code_positive error.Entry = omega arith

-- an integer that was read is there
pub int_inside : (s : Bytes) (at size n : ℕ) → read_int s at size ≡ ok n → at + size ≤ length s
int_inside s at size n h = by_contra _ _ (λ l. bad_ok (sym (int_short s at size l) ∙ h))

-- bytes within the first e, and their integer, depend on these alone
cut_front : (s : Bytes) (e at size : ℕ) → at + size ≤ e → cut (take e s) at size ≡ cut s at size
cut_front s e zero size h = take-take size e s (omega arith)
cut_front s zero (suc at) size h = absurd (omega arith)
cut_front [] (suc e) (suc at) size h = refl
cut_front (b ∷ s) (suc e) (suc at) size h = cut_front s e at size (omega arith)

int_front : (s t : Bytes) (e at size : ℕ) → at + size ≤ e → take e s ≡ take e t → int_at s at size ≡ int_at t at size
unfolding int_at
int_front s t e at size h q =
    ap value_of (sym (cut_front s e at size h) ∙ ap (λ (x : Bytes). cut x at size) q ∙ cut_front t e at size h)

-- What a column decides.

-- a definition over kinds, at the kind that was found
pub kind_told : {A : Type 0} (f : Kind → A) {k j v : Kind} → k ≡ j → k ≡ v → f v ≡ f j
kind_told f e g = ap f (sym g ∙ e)

-- no entry that passes a test has this code
unfoldable apart : (Kind → Bool) → List Entry → ℕ → Bool
apart f [] code = true
apart f (e ∷ es) code = pick (f e.kind) (pick (eqb code e.code) false (apart f es code)) (apart f es code)

-- so its kind does not pass it
apart_not : (f : Kind → Bool) (es : List Entry) (code : ℕ) → f Unknown ≡ false → apart f es code ≡ true → f (kind_in es code) ≡ false
unfolding apart kind_in
apart_not f [] code u h = u
apart_not f (e ∷ es) code u h = go (eqb code e.code) (f e.kind) refl h (apart_not f es code u)
  where
    go :
        (t b : Bool) → f e.kind ≡ b → pick b (pick t false (apart f es code)) (apart f es code) ≡ true →
        (apart f es code ≡ true → f (kind_in es code) ≡ false) → f (pick t e.kind (kind_in es code)) ≡ false
    go true true x y r = absurd (true≢false (sym y))
    go true false x y r = x
    go false true x y r = r y
    go false false x y r = r y

module _ (c : Column) where
  -- a chapter by its code
  pub chapter_code_lem : eqb c.code chapter_code ≡ is_chapter c
  unfolding kind_of kind_in types apart
  chapter_code_lem = go (eqb c.code chapter_code) refl
    where
      go : (t : Bool) → eqb c.code chapter_code ≡ t → t ≡ is_chapter c
      go true e = rw (eqb-true c.code chapter_code e) refl
      go false e = sym (apart_not chapter_kind types c.code refl (rw e refl))

  -- wide text by its code
  pub wide_told : eqb c.code 0x82 ≡ is_wide c
  unfolding kind_of kind_in types apart
  wide_told = go (eqb c.code 0x82) refl
    where
      go : (t : Bool) → eqb c.code 0x82 ≡ t → t ≡ is_wide c
      go true e = rw (eqb-true c.code 0x82 e) refl
      go false e = sym (apart_not wide_kind types c.code refl (rw e refl))

  -- a type of variable length by its code
  pub bytes_code : c.code ≡ 0x80 → is_variable c ≡ true
  unfolding kind_of kind_in types
  bytes_code e = rw e refl

  pub text_code : c.code ≡ 0x81 → is_variable c ≡ true
  unfolding kind_of kind_in types
  text_code e = rw e refl

  pub wide_code : (c.code ≡ 0x80 → ⊥) → (c.code ≡ 0x81 → ⊥) → eqb c.code 0x82 ≡ is_variable c
  unfolding kind_of kind_in types apart
  wide_code a b = go (eqb c.code 0x82) refl
    where
      go : (t : Bool) → eqb c.code 0x82 ≡ t → t ≡ is_variable c
      go true e = rw (eqb-true c.code 0x82 e) refl
      go false e = sym (apart_not variable_kind types c.code refl (rw (ne_eqb c.code 0x80 a, ne_eqb c.code 0x81 b, e) refl))

  pub prefix_one : c.maximum < 256 → prefix_size c ≡ 1
  unfolding prefix_size
  prefix_one h = rw (lt-ltb _ _ h)

  pub prefix_four : 256 ≤ c.maximum → prefix_size c ≡ 4
  unfolding prefix_size
  prefix_four h = rw (le-ltb _ _ h)

  -- a prefix has one of two sizes
  pub prefix_else : (prefix_size c ≡ 1 → ⊥) → prefix_size c ≡ 4
  prefix_else h = prefix_four (by_contra _ _ (λ l. h (prefix_one (omega arith))))

  pub prefix_variable : is_variable c ≡ true → prefix_bytes c ≡ prefix_size c
  unfolding prefix_bytes
  prefix_variable v = rw v

  pub prefix_plain : is_variable c ≡ false → prefix_bytes c ≡ 0
  unfolding prefix_bytes
  prefix_plain v = rw v

  -- the greatest length and whether it must be even, by the kind
  pub wide_kind_lem : kind c ≡ Wide → (greatest c ≡ 2 * c.maximum) × (is_wide c ≡ true)
  unfolding greatest
  wide_kind_lem e = (rw e refl, rw e refl)

  pub plain_kind : kind c ≡ Variable → (greatest c ≡ c.maximum) × (is_wide c ≡ false)
  unfolding greatest
  plain_kind e = (rw e refl, rw e refl)

  pub greatest_wide : is_wide c ≡ true → greatest c ≡ 2 * c.maximum
  unfolding greatest
  greatest_wide w = rw w

  pub greatest_plain : is_wide c ≡ false → greatest c ≡ c.maximum
  unfolding greatest
  greatest_plain w = rw w

  -- the error of a length
  module _ (n : ℕ) where
    pub length_free : is_variable c ≡ false → 0 ≡ length_error c n
    unfolding length_error
    length_free v = rw v

    -- where the column carries one: the rule with its greatest length
    pub length_rule : is_variable c ≡ true → length_error c n ≡ length_error_of (greatest c) (is_wide c) n
    unfolding length_error
    length_rule v = rw v

    pub length_ruled : {most k : ℕ} {even : Bool} → is_variable c ≡ true → most ≡ greatest c → even ≡ is_wide c → k ≡ length_error_of most even n → k ≡ length_error c n
    length_ruled v g w e = e ∙ rw (g, w) (sym (length_rule v))

    -- by the kind
    pub length_plain : kind c ≡ Variable → length_error c n ≡ pick (leb n c.maximum) 0 14
    unfolding length_error_of
    length_plain e = let (g, w) = plain_kind e in length_rule (rw e refl) ∙ rw (g, w) refl

    pub length_wide : kind c ≡ Wide → length_error c n ≡ pick (leb n (2 * c.maximum)) (pick (eqb (n % 2) 0) 0 14) 14
    unfolding length_error_of
    length_wide e = let (g, w) = wide_kind_lem e in length_rule (rw e refl) ∙ rw (g, w) refl

    -- what is allowed, by the kind
    pub plain_allowed : kind c ≡ Variable → (length_error c n ≡ 0) ↔ (n ≤ c.maximum)
    plain_allowed e = (to, λ m. length_plain e ∙ rw (le-leb n c.maximum m))
      where
        to : length_error c n ≡ 0 → n ≤ c.maximum
        to h = by_contra _ _ (λ l. let z : length_error c n ≡ 14 = length_plain e ∙ rw (lt-leb n c.maximum l) in omega arith)

    pub wide_allowed : kind c ≡ Wide → (length_error c n ≡ 0) ↔ ((n ≤ 2 * c.maximum) × (n % 2 ≡ 0))
    wide_allowed e = (λ h. go (leb n (2 * c.maximum)) (eqb (n % 2) 0) refl refl (sym (length_wide e) ∙ h), λ m. length_wide e ∙ rw (le-leb n (2 * c.maximum) m.0, m.1))
      where
        go :
            (t u : Bool) → leb n (2 * c.maximum) ≡ t → eqb (n % 2) 0 ≡ u → ◌≡◌ {A = ℕ} (pick t (pick u 0 14) 14) 0 →
            (n ≤ 2 * c.maximum) × (n % 2 ≡ 0)
        go true true t u h = (leb-true _ _ t, eqb-true _ _ u)
        go true false t u h = absurd (omega arith)
        go false u t v h = absurd (omega arith)

-- what the error of a length is, by its number: none, or 14
pub length_rule_either : (most : ℕ) (even : Bool) (n : ℕ) → (length_error_of most even n ≡ 0) ⊎ (length_error_of most even n ≡ 14)
unfolding length_error_of
length_rule_either most even n = go (leb n most) even (eqb (n % 2) 0)
  where
    go : (t e u : Bool) → (◌≡◌ {A = ℕ} (pick t (pick e (pick u 0 14) 0) 14) 0) ⊎ (◌≡◌ {A = ℕ} (pick t (pick e (pick u 0 14) 0) 14) 14)
    go true true true = inl refl
    go true true false = inr refl
    go true false u = inl refl
    go false e u = inr refl

-- The rule by its tests.

module _ (most : ℕ) (even : Bool) (n : ℕ) where
  pub rule_over : most < n → length_error_of most even n ≡ 14
  unfolding length_error_of
  rule_over h = rw (lt-leb n most h)

  pub rule_under : n ≤ most → eqb (bool_byte even * (n % 2)) 0 ≡ eqb (length_error_of most even n) 0
  unfolding length_error_of
  rule_under h = rw (le-leb n most h) (go even)
    where
      told : (t : Bool) → t ≡ eqb (pick t 0 14) 0
      told true = refl
      told false = refl

      go : (e : Bool) → eqb (bool_byte e * (n % 2)) 0 ≡ eqb (pick e (pick (eqb (n % 2) 0) 0 14) 0) 0
      go true =
          let z : bool_byte true * (n % 2) ≡ n % 2 = omega arith in
          ap (λ (k : ℕ). eqb k 0) z ∙ told (eqb (n % 2) 0)
      go false = let z : bool_byte false * (n % 2) ≡ 0 = omega arith in ap (λ (k : ℕ). eqb k 0) z

  -- by the flag as a number
  pub flag_odd : bool_byte even * (n % 2) ≤ 1
  flag_odd = go even
    where
      go : (e : Bool) → bool_byte e * (n % 2) ≤ 1
      go true = omega arith
      go false = omega arith

  -- what is allowed is no longer than the greatest length
  pub rule_most : length_error_of most even n ≡ 0 → n ≤ most
  rule_most h = by_contra _ _ (λ l. omega (arith, rule_over l))

  -- what is not allowed is refused with 14
  pub rule_refused : eqb (length_error_of most even n) 0 ≡ false → length_error_of most even n ≡ 14
  rule_refused h = ⊎_elim (λ e. absurd (eqb-false _ _ h e)) (λ e. e) (length_rule_either most even n)

pub length_either : (c : Column) (n : ℕ) → (length_error c n ≡ 0) ⊎ (length_error c n ≡ 14)
length_either c n = go (is_variable c) refl
  where
    go : (t : Bool) → is_variable c ≡ t → (length_error c n ≡ 0) ⊎ (length_error c n ≡ 14)
    go true v = by (length_rule_either (greatest c) (is_wide c) n)
      where
        by :
            (length_error_of (greatest c) (is_wide c) n ≡ 0) ⊎ (length_error_of (greatest c) (is_wide c) n ≡ 14) →
            (length_error c n ≡ 0) ⊎ (length_error c n ≡ 14)
        by (inl e) = inl (length_rule c n v ∙ e)
        by (inr e) = inr (length_rule c n v ∙ e)
    go false v = inl (sym (length_free c n v))

pub length_refused : (c : Column) (n : ℕ) → (length_error c n ≡ 0 → ⊥) → length_error c n ≡ 14
length_refused c n h = ⊎_elim (λ e. absurd (h e)) (λ e. e) (length_either c n)

-- A field of so many bytes.

module _ (row : Bytes) (at width prefixes : ℕ) where
  pub bytes_short : length row < at + width → bytes_at row at width prefixes ≡ bad 1 (length row) Single
  unfolding bytes_at
  bytes_short h = simp (whole_short row at width h)

  pub bytes_fit : at + width ≤ length row → bytes_at row at width prefixes ≡ ok (field at (at + width) prefixes)
  unfolding bytes_at
  bytes_fit h = simp (whole_fits row at width h)

  bytes_inside : {f : Field} → bytes_at row at width prefixes ≡ ok f → at + width ≤ length row
  bytes_inside h = by_contra _ _ (λ l. bad_ok (sym (bytes_short l) ∙ h))

  bytes_told : {f : Field} → bytes_at row at width prefixes ≡ ok f → f ≡ field at (at + width) prefixes
  bytes_told {f} h = let e : ok f ≡ ok (field at (at + width) prefixes) = sym h ∙ bytes_fit (bytes_inside h) in cc

-- A field of variable length: the answer of its prefix is its own; then its length is refused, or its bytes follow.

module _ (c : Column) (row : Bytes) (at : ℕ) where
  pub variable_short : length row < at + prefix_size c → variable_at c row at ≡ bad 1 (length row) Single
  unfolding variable_at
  variable_short h = simp (whole_short row at (prefix_size c) h)

  pub variable_refused : (k o : ℕ) (i : Input) → read_int row at (prefix_size c) ≡ bad k o i → variable_at c row at ≡ bad k o i
  variable_refused k o i h =
      let l = not-le (at + prefix_size c) (length row) (λ l. bad_ok (sym h ∙ int_fits row at (prefix_size c) l)) in
      let e : ◌≡◌ {A = Read ℕ} (bad 1 (length row) Single) (bad k o i) = sym (int_short row at (prefix_size c) l) ∙ h in
      variable_short l ∙ cc

  module _ (n : ℕ) (h : read_int row at (prefix_size c) ≡ ok n) where
    pub variable_long : (length_error c n ≡ 0 → ⊥) → variable_at c row at ≡ bad (length_error c n) at Single
    unfolding variable_at allowed
    variable_long e = simp (whole_fits row at (prefix_size c) (int_inside _ _ _ _ h), h, ne_eqb _ _ e)

    pub variable_bytes : length_error c n ≡ 0 → variable_at c row at ≡ bytes_at row (at + prefix_size c) n 1
    unfolding variable_at allowed
    variable_bytes e = simp (whole_fits row at (prefix_size c) (int_inside _ _ _ _ h), h, e)

-- The field of a present column.

module _ (c : Column) (row : Bytes) (p : ℕ) where
  pub field_variable : is_variable c ≡ true → field_at c row p ≡ variable_at c row p
  unfolding field_at
  field_variable v = rw v

  pub field_fixed : is_variable c ≡ false → field_at c row p ≡ bytes_at row p (width c) 0
  unfolding field_at
  field_fixed v = rw v

  -- past the row's end every field is short
  pub field_past : length row < p → field_at c row p ≡ bad 1 (length row) Single
  field_past h = go (is_variable c) refl
    where
      go : (v : Bool) → is_variable c ≡ v → field_at c row p ≡ bad 1 (length row) Single
      go true v = field_variable v ∙ variable_short c row p (omega arith)
      go false v = field_fixed v ∙ bytes_short row p (width c) 0 (omega arith)

-- What a field that is found tells; and where all of this holds, it is found.

pub record Told (c : Column) (row : Bytes) (p : ℕ) (f : Field) : Type 0 where
  pub starts : f.start ≡ p + prefix_bytes c
  pub forward : f.start ≤ f.end
  pub ends : f.end ≤ length row
  pub counts : f.prefixes ≡ pick (is_variable c) 1 0
  pub length_allowed : is_variable c ≡ true → length_error c (f.end - f.start) ≡ 0
  pub length_said : is_variable c ≡ true → int_at row p (prefix_size c) ≡ f.end - f.start
  pub fixed : is_variable c ≡ false → f.end ≡ f.start + width c

found : (f : Field) {s e k : ℕ} → s ≡ f.start → e ≡ f.end → k ≡ f.prefixes → ok (field s e k) ≡ ok f
found f p q r = rw (p, q, r)

module _ (c : Column) (row : Bytes) (p : ℕ) where
  told_variable : {f : Field} → is_variable c ≡ true → variable_at c row p ≡ ok f → Told c row p f
  told_variable {f} v h =
      let n : ℕ = int_at row p (prefix_size c) in
      let l = by_contra (p + prefix_size c) (length row) (λ l. bad_ok (sym (variable_short c row p l) ∙ h)) in
      let i = int_fits row p (prefix_size c) l in
      let z : length_error c n ≤ 0 = by_contra _ _ (λ l. bad_ok (sym (variable_long c row p n i (omega arith)) ∙ h)) in
      let b = sym (variable_bytes c row p n i (omega arith)) ∙ h in
      let e = bytes_told row (p + prefix_size c) n 1 b in
      let s : f.start ≡ p + prefix_size c = ap (λ (x : Field). x.start) e in
      let t : f.end ≡ p + prefix_size c + n = ap (λ (x : Field). x.end) e in
      let d : n ≡ f.end - f.start = omega arith in
      record {
        starts = omega (arith, prefix_variable c v);
        forward = omega arith;
        ends = omega (arith, bytes_inside row (p + prefix_size c) n 1 b);
        counts = rw v (ap (λ (x : Field). x.prefixes) e);
        length_allowed = λ _. ap (length_error c) (sym d) ∙ omega arith;
        length_said = λ _. d;
        fixed = λ q. absurd (true≢false (sym v ∙ q));
      }

  told_fixed : {f : Field} → is_variable c ≡ false → bytes_at row p (width c) 0 ≡ ok f → Told c row p f
  told_fixed {f} v h =
      let e = bytes_told row p (width c) 0 h in
      let s : f.start ≡ p = ap (λ (x : Field). x.start) e in
      let t : f.end ≡ p + width c = ap (λ (x : Field). x.end) e in
      record {
        starts = omega (arith, prefix_plain c v);
        forward = omega arith;
        ends = omega (arith, bytes_inside row p (width c) 0 h);
        counts = rw v (ap (λ (x : Field). x.prefixes) e);
        length_allowed = λ q. absurd (true≢false (sym q ∙ v));
        length_said = λ q. absurd (true≢false (sym q ∙ v));
        fixed = λ _. omega arith;
      }

  pub field_told : {f : Field} → field_at c row p ≡ ok f → Told c row p f
  field_told {f} h = go (is_variable c) refl
    where
      go : (v : Bool) → is_variable c ≡ v → Told c row p f
      go true v = told_variable v (sym (field_variable c row p v) ∙ h)
      go false v = told_fixed v (sym (field_fixed c row p v) ∙ h)

  pub field_made : {f : Field} → Told c row p f → field_at c row p ≡ ok f
  field_made {f} t = go (is_variable c) refl
    where
      go : (v : Bool) → is_variable c ≡ v → field_at c row p ≡ ok f
      go true v =
          let q = prefix_variable c v in
          let n : ℕ = f.end - f.start in
          let i : read_int row p (prefix_size c) ≡ ok n = int_fits row p (prefix_size c) (omega arith) ∙ ap ok (t.length_said v) in
          field_variable c row p v ∙ variable_bytes c row p n i (t.length_allowed v) ∙ bytes_fit row (p + prefix_size c) n 1 (omega arith)
          ∙ found f (omega arith) (omega arith) (sym (t.counts ∙ rw v))
      go false v =
          let q = prefix_plain c v in
          let w = t.fixed v in
          field_fixed c row p v ∙ bytes_fit row p (width c) 0 (omega arith) ∙ found f (omega arith) (omega arith) (sym (t.counts ∙ rw v))

-- bytes after a field that is found do not matter
pub field_later :
    (c : Column) (row other : Bytes) (p : ℕ) {f : Field} → field_at c row p ≡ ok f → take f.end row ≡ take f.end other → f.end ≤ length other →
    field_at c other p ≡ ok f
field_later c row other p {f} h q l =
    let t = field_told c row p h in
    field_made c other p
    (record {
      starts = t.starts;
      forward = t.forward;
      ends = l;
      counts = t.counts;
      length_allowed = t.length_allowed;
      length_said = λ v. sym (int_front row other f.end p (prefix_size c) (omega (arith, prefix_variable c v)) q) ∙ t.length_said v;
      fixed = t.fixed;
    })

-- a length of no bytes is allowed
pub rule_none : (most : ℕ) (even : Bool) → length_error_of most even 0 ≡ 0
unfolding length_error_of
rule_none most true = rw (le-leb 0 most (omega arith))
rule_none most false = rw (le-leb 0 most (omega arith))

pub length_none : (c : Column) → length_error c 0 ≡ 0
length_none c = go (is_variable c) refl
  where
    go : (t : Bool) → is_variable c ≡ t → length_error c 0 ≡ 0
    go true v = length_rule c 0 v ∙ rule_none (greatest c) (is_wide c)
    go false v = sym (length_free c 0 v)
