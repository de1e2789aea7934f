-- Demand 1 of header and handler options: which refusals their readers and writers give, exactly; and that a writer refuses a value as the
-- reader would refuse its bytes.
-- Assumes nothing.
use Prim.Native.Nat.{ℕ, zero, suc, ◌+◌, ◌≤◌, ◌<◌}
use mathlib.Core.Path.{◌≡◌, refl, sym, ap, subst, ◌∙◌}
use mathlib.Core.List.{[], ◌∷◌, ◌++◌, append-nil}
use mathlib.Core.Bool.{Bool, true, false, true≢false}
use native.Mathlib.Omega.{arith}
use lib.ListN.{length, get_or, length-append}
use lib.Seq.{drop-length}
use lib.Dec.{leb, eqb}
use borrow.Author.Tests.{leb-true, leb-false, le-leb, lt-leb, eqb-true, eqb-false, eq-eqb, ne_eqb}
use Rattle.wire.specs.declared.error.Input.{Input}
use Rattle.wire.specs.declared.error.Input.TheVariants as input
use Rattle.wire.specs.Read.{Bytes, Read, ok, bad, ◌>>=◌, pick, check, about, limit, sized_by, sized, whole, byte_at, constants}
use Rattle.wire.specs.Integers.{int_at, read_int, int_bytes}
use Rattle.wire.specs.Output.{fitting}
use Rattle.wire.proofs.Laws.{length_int, whole_fits, whole_short, byte_fits, byte_short, int_fits, sized_within}
use Rattle.wire.proofs.Pieces.{Piece, front, back, bad_ok, ok_ok, bind_bind, check_ok, whole_ok, constants_is, int_is, piece_from}
use Rattle.options.specs.declared.options.Spans.{Spans}
use Rattle.options.specs.declared.options.Options.{Options}
use Rattle.header.specs.Header.{signature, header_as, header_fields, header_of, header_bytes, header_written}
use Rattle.options.specs.Options.{token, guid, async_allowed, span_from, spans_as, options_as, span_at, spans_of, async_rest, options_rest, options_sized, options_of, string_bytes, head_bytes, options_bytes, strings_size, options_size, options_written}
use Rattle.options.proofs.Laws.{length_string, length_options}
use Rattle.demands.specs.Checks.{Refusals, Never, ◌then◌, Exactly, Faults, Of, of, lent, Sizes, Short, NoRoom, no_room}
use Rattle.demands.specs.HeadFaults.{Agree, ConstantFault, ends, differs, ValueFault, below, above, SizeFault, wrong_size, HeaderFaults, size_field, string_end, first_end, second_end, third_end, NotFilled, in_first, in_second, in_third, in_async, OptionsFaults, HeaderWriteFaults, OptionsWriteFaults, RefusesAs}
use Rattle.demands.proofs.Exactly.{never_short, never_room, exactly_fitting, exactly_then, exactly_last, exactly_alike, exactly_about, exactly_check, exactly_whole, exactly_size, exactly_sized, never_then, never_of}

-- Checks of one input.

-- a check is of a single input
single_name : (t : Bool) (code offset : ℕ) → about input.Single (check t code offset) ≡ check t code offset
unfolding about check
single_name true code offset = refl
single_name false code offset = refl

-- the size of a single input
single_size :
    {A : Type 0} {Q : Refusals} (s : Bytes) (rest : Read A) → (length s ≤ limit → Exactly rest Q) →
    Exactly (sized s >>= λ _. rest) (Sizes (lent input.Single s ∷ []) then Q)
unfolding sized sized_by
single_size {A} {Q} s rest h =
    subst (λ (r : Read (Unit {0})). Exactly (r >>= λ _. rest) (Sizes (lent input.Single s ∷ []) then Q)) (single_name (leb (length s) limit) 19 0)
    (exactly_size input.Single s rest (λ w. exactly_sized (h w)))

-- so many bytes, and what follows where they are there
whole_then :
    {A : Type 0} {Q : Refusals} (s : Bytes) (at n : ℕ) (f : ℕ → Read A) → (at + n ≤ length s → Exactly (f (at + n)) Q) →
    Exactly (whole s at n >>= f) (Of input.Single (Short s at n) then Q)
whole_then {A} {Q} s at n f h = exactly_then (whole s at n) f (exactly_whole s at n) after
  where
    after : (a : ℕ) → whole s at n ≡ ok a → Exactly (f a) Q
    after a e =
        let (p, l) = whole_ok s at n a e in
        let z : at + n ≡ a = omega (arith, p.ends) in
        subst (λ (m : ℕ). Exactly (f m) Q) z (h (omega (arith, p.ends, p.inside)))

-- an integer
int_then :
    {A : Type 0} {Q : Refusals} (s : Bytes) (at n : ℕ) (f : ℕ → Read A) → (at + n ≤ length s → Exactly (f (int_at s at n)) Q) →
    Exactly (read_int s at n >>= f) (Of input.Single (Short s at n) then Q)
unfolding read_int
int_then {A} {Q} s at n f h =
    subst (λ (r : Read A). Exactly r (Of input.Single (Short s at n) then Q)) (sym (bind_bind (whole s at n) (λ _. ok (int_at s at n)) f))
    (whole_then s at n (λ _. f (int_at s at n)) h)

-- 3: a test of a value
value_check :
    (t : Bool) (low high value field : ℕ) → (t ≡ false → ValueFault low high value field 3 field) → (value < low → t ≡ false) → (high < value → t ≡ false) →
    Exactly (check t 3 field) (Of input.Single (ValueFault low high value field))
value_check t low high value field given under over = exactly_check t 3 field given told
  where
    told : (c o : ℕ) → ValueFault low high value field c o → (t ≡ false) × (c ≡ 3) × (o ≡ field)
    told c o (below h) = (under h, refl, refl)
    told c o (above h) = (over h, refl, refl)

order_check : (order : ℕ) → Exactly (check (eqb order 0) 3 7) (Of input.Single (ValueFault 0 0 order 7))
order_check order =
    value_check (eqb order 0) 0 0 order 7
    (λ t. above (given t))
    (λ h. absurd (omega arith))
    (λ h. ne_eqb _ _ (λ (e : order ≡ 0). omega arith))
  where
    given : eqb order 0 ≡ false → 0 < order
    given t = let z : order ≡ 0 → ⊥ = eqb-false _ _ t in omega arith

unicode_check : (unicode : ℕ) → Exactly (check (leb unicode 1) 3 8) (Of input.Single (ValueFault 0 1 unicode 8))
unicode_check unicode = value_check (leb unicode 1) 0 1 unicode 8 (λ t. above (leb-false _ _ t)) (λ h. absurd (omega arith)) (λ h. lt-leb _ _ h)

async_check : (async field : ℕ) → Exactly (check (async_allowed async) 3 field) (Of input.Single (ValueFault 1 3 async field))
unfolding async_allowed
async_check async field = go (leb 1 async) refl
  where
    go : (t : Bool) → leb 1 async ≡ t → Exactly (check (pick t (leb async 3) false) 3 field) (Of input.Single (ValueFault 1 3 async field))
    go true e = let low : 1 ≤ async = leb-true _ _ e in value_check (leb async 3) 1 3 async field (λ t. above (leb-false _ _ t)) (λ h. absurd (omega arith)) (λ h. lt-leb _ _ h)
    go false e = value_check false 1 3 async field (λ _. below (leb-false _ _ e)) (λ _. refl) (λ _. refl)

-- 4: a test of a size
size_check : (t : Bool) {wrong : Type 0} → (t ≡ false → wrong) → (wrong → t ≡ false) → Exactly (check t 4 1) (Of input.Single (SizeFault wrong))
size_check t {wrong} given back = exactly_check t 4 1 (λ e. wrong_size (given e)) told
  where
    told : (c o : ℕ) → SizeFault wrong c o → (t ≡ false) × (c ≡ 4) × (o ≡ 1)
    told c o (wrong_size h) = (back h, refl, refl)

most_check : (n most : ℕ) → Exactly (check (leb n most) 4 1) (Of input.Single (SizeFault (most < n)))
most_check n most = size_check (leb n most) (λ t. leb-false _ _ t) (λ h. lt-leb _ _ h)

-- Constant bytes.

-- the same faults in other words
same_faults :
    {A : Type 0} {name : Input} {F G : Faults} {r : Read A} → Exactly r (Of name F) → ((code offset : ℕ) → F code offset → G code offset) →
    ((code offset : ℕ) → G code offset → F code offset) → Exactly r (Of name G)
same_faults {name = name} {F = F} {G = G} h there back = exactly_alike h (λ c o i. ((λ p. by there p), (λ p. by back p)))
  where
    by : {F G : Faults} → ((code offset : ℕ) → F code offset → G code offset) → {c o : ℕ} {i : Input} → Of name F c o i → Of name G c o i
    by f (of p) = of (f _ _ p)

-- no bytes agree
agree_none : (s : Bytes) (at : ℕ) (x : Bytes) → Agree s at x 0
agree_none s at x i h = absurd (omega arith)

module _ (s : Bytes) (at v : ℕ) (x : Bytes) where
  at_zero : get_or s (at + 0) 0 ≡ get_or s at 0
  at_zero = let z : at + 0 ≡ at = omega arith in rw z

  at_next : (i : ℕ) → get_or s (at + suc i) 0 ≡ get_or s (at + 1 + i) 0
  at_next i = let z : at + suc i ≡ at + 1 + i = omega arith in rw z

  -- a first byte that is not there, and one that differs
  first_short : length s ≡ at → ConstantFault s at (v ∷ x) 1 (length s)
  first_short l = ends {k = 0} (omega arith) (agree_none s at (v ∷ x)) (omega arith)

  only_short : length s ≤ at → (code offset : ℕ) → ConstantFault s at (v ∷ x) code offset → (false ≡ false) × (code ≡ 1) × (offset ≡ length s)
  only_short l _ _ (ends h a m) = (refl, refl, refl)
  only_short l _ _ (differs h a m n) = absurd (omega arith)

  module _ (l : at < length s) where
    first_differs : (get_or s at 0 ≡ v → ⊥) → ConstantFault s at (v ∷ x) 2 at
    first_differs n =
        let z : at + 0 ≡ at = omega arith in
        subst (ConstantFault s at (v ∷ x) 2) z
        (differs {k = 0} (omega arith) (agree_none s at (v ∷ x)) (omega arith) (λ d. n (sym at_zero ∙ d)))

    only_differs : (get_or s at 0 ≡ v → ⊥) → (code offset : ℕ) → ConstantFault s at (v ∷ x) code offset → (false ≡ false) × (code ≡ 2) × (offset ≡ at)
    only_differs n _ _ (ends {k = zero} h a m) = absurd (omega arith)
    only_differs n _ _ (ends {k = suc k} h a m) = absurd (n (sym at_zero ∙ a 0 (omega arith)))
    only_differs n _ _ (differs {k = zero} h a m d) = (refl, refl, omega arith)
    only_differs n _ _ (differs {k = suc k} h a m d) = absurd (n (sym at_zero ∙ a 0 (omega arith)))

    -- the first byte agrees: what is wrong with the others
    module _ (same : get_or s at 0 ≡ v) where
      one_more : (k : ℕ) → Agree s (at + 1) x k → Agree s at (v ∷ x) (suc k)
      one_more k a zero h = at_zero ∙ same
      one_more k a (suc i) h = at_next i ∙ a i (omega arith)

      one_less : (k : ℕ) → Agree s at (v ∷ x) (suc k) → Agree s (at + 1) x k
      one_less k a i h = sym (at_next i) ∙ a (suc i) (omega arith)

      fault_more : (code offset : ℕ) → ConstantFault s (at + 1) x code offset → ConstantFault s at (v ∷ x) code offset
      fault_more _ _ (ends {k = k} h a m) = ends {k = suc k} (omega arith) (one_more k a) (omega arith)
      fault_more _ _ (differs {k = k} h a m n) =
          let z : at + suc k ≡ at + 1 + k = omega arith in
          subst (ConstantFault s at (v ∷ x) 2) z
          (differs {k = suc k} (omega arith) (one_more k a) (omega arith) (λ d. n (sym (at_next k) ∙ d)))

      fault_less : (code offset : ℕ) → ConstantFault s at (v ∷ x) code offset → ConstantFault s (at + 1) x code offset
      fault_less _ _ (ends {k = zero} h a m) = absurd (omega arith)
      fault_less _ _ (ends {k = suc k} h a m) = ends {k = k} (omega arith) (one_less k a) (omega arith)
      fault_less _ _ (differs {k = zero} h a m n) = absurd (n (at_zero ∙ same))
      fault_less _ _ (differs {k = suc k} h a m n) =
          let z : at + 1 + k ≡ at + suc k = omega arith in
          subst (ConstantFault s (at + 1) x 2) z
          (differs {k = k} (omega arith) (one_less k a) (omega arith) (λ d. n (at_next k ∙ d)))

  constants_next :
      at ≤ length s → (at + 1 ≤ length s → Exactly (constants s (at + 1) x) (Of input.Single (ConstantFault s (at + 1) x))) →
      Exactly (constants s at (v ∷ x)) (Of input.Single (ConstantFault s at (v ∷ x)))
  unfolding constants check
  constants_next inside h = go (leb (length s) at) (eqb (get_or s at 0) v) refl refl
    where
      go : (t u : Bool) → leb (length s) at ≡ t → eqb (get_or s at 0) v ≡ u → Exactly (constants s at (v ∷ x)) (Of input.Single (ConstantFault s at (v ∷ x)))
      go true u t w =
          let l : length s ≤ at = leb-true _ _ t in
          rw (byte_short s at l) (exactly_check false 1 (length s) (λ _. first_short (omega arith)) (only_short l))
      go false false t w =
          let l : at < length s = leb-false _ _ t in
          rw (byte_fits s at l, w) (exactly_check false 2 at (λ _. first_differs l (eqb-false _ _ w)) (only_differs l (eqb-false _ _ w)))
      go false true t w =
          let l : at < length s = leb-false _ _ t in
          let n : get_or s at 0 ≡ v = eqb-true _ _ w in
          rw (byte_fits s at l, w) (same_faults (h (omega arith)) (fault_more l n) (fault_less l n))

-- 1 and 2: constant bytes
exactly_constants : (s : Bytes) (at : ℕ) (x : Bytes) → at ≤ length s → Exactly (constants s at x) (Of input.Single (ConstantFault s at x))
unfolding constants check
exactly_constants s at [] inside = exactly_check true 1 0 (λ e. absurd (true≢false e)) none
  where
    none : (c o : ℕ) → ConstantFault s at [] c o → (true ≡ false) × (c ≡ 1) × (o ≡ 0)
    none _ _ (ends h a l) = absurd (omega arith)
    none _ _ (differs h a l n) = absurd (omega arith)
exactly_constants s at (v ∷ x) inside = constants_next s at v x inside (λ next. exactly_constants s (at + 1) x next)

-- The header.

-- the first three fields of a short header: whichever lacks, the error is the same
pub fields_short : (s : Bytes) → length s ≤ 7 → header_fields s ≡ bad 1 (length s) input.Single
unfolding header_fields
fields_short s h = go (leb (length s) 5) (leb (length s) 6) refl refl
  where
    go : (five six : Bool) → leb (length s) 5 ≡ five → leb (length s) 6 ≡ six → header_fields s ≡ bad 1 (length s) input.Single
    go true six e f = simp (byte_short s 5 (leb-true _ _ e))
    go false true e f = simp (byte_fits s 5 (leb-false _ _ e), byte_short s 6 (leb-true _ _ f))
    go false false e f = simp (byte_fits s 5 (leb-false _ _ e), byte_fits s 6 (leb-false _ _ f), byte_short s 7 h)

-- the fields behind its constant bytes: nothing is refused between bytes 5 and 7
fields_are :
    (s : Bytes) → header_fields s ≡ (whole s 5 3 >>= λ _. check (eqb (get_or s 7 0) 0) 3 7 >>= λ _. whole s 8 1 >>= λ _. check (leb (get_or s 8 0) 1) 3 8 >>= λ _.
    ok (header_as (get_or s 5 0) (get_or s 6 0) (get_or s 7 0) (get_or s 8 0) 9))
unfolding header_fields byte_at
fields_are s = go (leb 8 (length s)) refl
  where
    go :
        (t : Bool) → leb 8 (length s) ≡ t →
        header_fields s ≡ (whole s 5 3 >>= λ _. check (eqb (get_or s 7 0) 0) 3 7 >>= λ _. whole s 8 1 >>= λ _. check (leb (get_or s 8 0) 1) 3 8 >>= λ _.
        ok (header_as (get_or s 5 0) (get_or s 6 0) (get_or s 7 0) (get_or s 8 0) 9))
    go true e =
        let l : 8 ≤ length s = leb-true _ _ e in
        simp (whole_fits s 5 1 (omega arith), whole_fits s 6 1 (omega arith), whole_fits s 7 1 (omega arith), whole_fits s 5 3 (omega arith), bind_bind)
    go false e = let l : length s < 8 = leb-false _ _ e in fields_short s (omega arith) ∙ simp (whole_short s 5 3 (omega arith))

-- A header is refused exactly so.
pub header_exactly : (s : Bytes) → Exactly (header_of s) (Sizes (lent input.Single s ∷ []) then HeaderFaults s)
unfolding header_of
header_exactly s =
    single_size s _
    (λ _. exactly_then _ _ (exactly_constants s 0 signature (omega arith))
    (λ _ _. rw (fields_are s)
    (whole_then s 5 3 _
    (λ _. exactly_then _ _ (order_check (get_or s 7 0)) (λ _ _. whole_then s 8 1 _ (λ _. exactly_last _ _ (unicode_check (get_or s 8 0))))))))

-- Handler options.

-- A string of options whose piece is there: it goes past the end, or it is read.
module _ (s : Bytes) (at end : ℕ) (inside : end ≤ length s) where
  span_past : end < string_end s at → span_at s at end ≡ bad 4 1 input.Single
  unfolding span_at check
  span_past h = go (leb (at + 2) end) refl
    where
      go : (t : Bool) → leb (at + 2) end ≡ t → span_at s at end ≡ bad 4 1 input.Single
      go true e = let l : at + 2 ≤ end = leb-true _ _ e in simp (e, int_fits s at 2 (omega arith), lt-leb (at + 2 + int_at s at 2) end h)
      go false e = simp e

  span_fits : string_end s at ≤ end → span_at s at end ≡ ok (span_from (at + 2) (string_end s at))
  unfolding span_at check
  span_fits h = simp (le-leb (at + 2) end (omega arith), int_fits s at 2 (omega arith), le-leb (at + 2 + int_at s at 2) end h)

-- the strings of options, and all of them
abbrev spans_in : Bytes → Spans
spans_in s = spans_as (span_from 22 (first_end s)) (span_from (first_end s + 2) (second_end s)) (span_from (second_end s + 2) (third_end s))

abbrev options_in : Bytes → ℕ → Options
options_in s end = options_as (get_or s 19 0) (spans_in s) (int_at s (third_end s) 2) end

-- behind the GUID: the fields fill the size, and then the async option's value
module _ (s : Bytes) (end : ℕ) (least : 28 ≤ end) (inside : end ≤ length s) where
  rest_is :
      options_rest s end ≡ (check (eqb (third_end s + 2) end) 4 1 >>= λ _. check (async_allowed (int_at s (third_end s) 2)) 3 (third_end s) >>= λ _. ok (options_in s end))
  unfolding options_rest spans_of async_rest check
  rest_is = go (eqb (third_end s + 2) end) refl
    where
      past : (a b c : Bool) → leb (first_end s) end ≡ a → leb (second_end s) end ≡ b → leb (third_end s) end ≡ c → eqb (third_end s + 2) end ≡ false → options_rest s end ≡ bad 4 1 input.Single
      past false b c e f g h = simp (byte_fits s 19 (omega arith), span_past s 20 end inside (leb-false _ _ e))
      past true false c e f g h = simp (byte_fits s 19 (omega arith), span_fits s 20 end inside (leb-true _ _ e), span_past s (first_end s) end inside (leb-false _ _ f))
      past true true false e f g h =
          simp (
            byte_fits s 19 (omega arith),
            span_fits s 20 end inside (leb-true _ _ e),
            span_fits s (first_end s) end inside (leb-true _ _ f),
            span_past s (second_end s) end inside (leb-false _ _ g),
          )
      past true true true e f g h =
          simp (
            byte_fits s 19 (omega arith),
            span_fits s 20 end inside (leb-true _ _ e),
            span_fits s (first_end s) end inside (leb-true _ _ f),
            span_fits s (second_end s) end inside (leb-true _ _ g),
            h,
          )

      go :
          (t : Bool) → eqb (third_end s + 2) end ≡ t →
          options_rest s end ≡ (check (eqb (third_end s + 2) end) 4 1 >>= λ _. check (async_allowed (int_at s (third_end s) 2)) 3 (third_end s) >>= λ _. ok (options_in s end))
      go true e =
          let z : third_end s + 2 ≡ end = eqb-true _ _ e in
          simp (
            byte_fits s 19 (omega arith),
            span_fits s 20 end inside (omega arith),
            span_fits s (first_end s) end inside (omega arith),
            span_fits s (second_end s) end inside (omega arith),
            e,
            int_fits s (third_end s) 2 (omega arith),
          )
      go false e = past (leb (first_end s) end) (leb (second_end s) end) (leb (third_end s) end) refl refl refl e ∙ simp e

  rest_at :
      (t v : ℕ) → third_end s ≡ t → int_at s t 2 ≡ v → t + 2 ≡ end → options_rest s end ≡ (check (async_allowed v) 3 t >>= λ _. ok (options_in s end))
  unfolding check
  rest_at t v e f g =
      subst (λ (m : ℕ). options_rest s end ≡ (check (eqb (m + 2) end) 4 1 >>= λ _. check (async_allowed (int_at s m 2)) 3 m >>= λ _. ok (options_in s end))) e rest_is
      ∙ simp (eq-eqb (t + 2) end g, f)

  filled_check : Exactly (check (eqb (third_end s + 2) end) 4 1) (Of input.Single (SizeFault (NotFilled s end)))
  filled_check = size_check (eqb (third_end s + 2) end) (λ t. in_async (eqb-false _ _ t)) wrong
    where
      wrong : NotFilled s end → eqb (third_end s + 2) end ≡ false
      wrong (in_first h) = ne_eqb _ _ (λ (e : third_end s + 2 ≡ end). omega arith)
      wrong (in_second h) = ne_eqb _ _ (λ (e : third_end s + 2 ≡ end). omega arith)
      wrong (in_third h) = ne_eqb _ _ (λ (e : third_end s + 2 ≡ end). omega arith)
      wrong (in_async h) = ne_eqb _ _ h

  rest_exactly :
      Exactly (options_rest s end)
      (Of input.Single (SizeFault (NotFilled s end)) then Of input.Single (ValueFault 1 3 (int_at s (third_end s) 2) (third_end s)))
  rest_exactly = rw rest_is (exactly_then _ _ filled_check (λ _ _. exactly_last _ _ (async_check (int_at s (third_end s) 2) (third_end s))))

-- Options are refused exactly so.
pub options_exactly : (s : Bytes) → Exactly (options_of s) (Sizes (lent input.Single s ∷ []) then OptionsFaults s)
unfolding options_of options_sized
options_exactly s =
    single_size s _
    (λ _. exactly_then _ _ (exactly_constants s 0 token (omega arith))
    (λ _ _. int_then s 1 2 _
    (λ _. whole_then s 3 (size_field s) _
    (λ w. exactly_then _ _ (most_check 25 (size_field s))
    (λ u e.
    let l : 25 ≤ size_field s = leb-true _ _ (check_ok _ _ _ u e) in
    exactly_then _ _ (exactly_constants s 3 guid (omega arith)) (λ _ _. rest_exactly s (3 + size_field s) (omega arith) w))))))

-- Writers.

-- room for a piece of this size
fitting_needs : (piece : Bytes) (needed capacity : ℕ) → length piece ≡ needed → Exactly (fitting piece capacity) (Of input.Output (NoRoom needed capacity))
fitting_needs piece needed capacity e = rw (← e) (exactly_fitting piece capacity)

-- A header's values are refused exactly so.
pub header_written_exactly :
    (major minor order unicode capacity : ℕ) → Exactly (header_written major minor order unicode capacity) (HeaderWriteFaults order unicode capacity)
unfolding header_written
header_written_exactly major minor order unicode capacity =
    exactly_then _ _ (exactly_about input.Order _ (order_check order))
    (λ _ _. exactly_then _ _ (exactly_about input.Unicode _ (unicode_check unicode)) (λ _ _. fitting_needs (header_bytes major minor order unicode) 9 capacity refl))

-- the checks of the options' writer, one after the other
written_is :
    (first second third : Bytes) (async capacity : ℕ) →
    options_written first second third async capacity
    ≡ (about input.FirstString (sized first) >>= λ _. about input.SecondString (sized second) >>= λ _. about input.ThirdString (sized third) >>= λ _.
    about input.FirstString (check (leb (25 + length first) 65535) 4 1) >>= λ _.
    about input.SecondString (check (leb (25 + length first + length second) 65535) 4 1) >>= λ _.
    about input.ThirdString (check (leb (25 + length first + length second + length third) 65535) 4 1) >>= λ _.
    about input.Async (check (async_allowed async) 3 (26 + length first + length second + length third)) >>= λ _.
    fitting (options_bytes first second third async) capacity)
unfolding options_written options_size strings_size sized
written_is first second third async capacity =
    let z : 25 + length first + length second + length third + 1 ≡ 26 + length first + length second + length third = omega arith in
    simp (bind_bind, z)

-- The values of options are refused exactly so.
pub options_written_exactly :
    (first second third : Bytes) (async capacity : ℕ) →
    Exactly (options_written first second third async capacity)
    (Sizes (lent input.FirstString first ∷ lent input.SecondString second ∷ lent input.ThirdString third ∷ []) then OptionsWriteFaults first second third async capacity)
options_written_exactly first second third async capacity =
    rw (written_is first second third async capacity)
    (exactly_size input.FirstString first _
    (λ _. exactly_size input.SecondString second _
    (λ _. exactly_size input.ThirdString third _
    (λ _. exactly_sized
    (exactly_then _ _ (exactly_about input.FirstString _ (most_check _ 65535))
    (λ _ _. exactly_then _ _ (exactly_about input.SecondString _ (most_check _ 65535))
    (λ _ _. exactly_then _ _ (exactly_about input.ThirdString _ (most_check _ 65535))
    (λ _ _. exactly_then _ _ (exactly_about input.Async _ (async_check async _))
    (λ _ _. fitting_needs _ _ capacity (length_options first second third async))))))))))

-- 19 is for sizes alone.

-- faults with codes under 19
never_over : {name : Input} {F : Faults} → ((code offset : ℕ) → F code offset → code < 19) → Never 19 (Of name F)
never_over h = never_of (λ offset p. let z : 19 < 19 = h 19 offset p in omega arith)

no_constant : {name : Input} {s : Bytes} {at : ℕ} {x : Bytes} → Never 19 (Of name (ConstantFault s at x))
no_constant {s = s} {at = at} {x = x} = never_over under
  where
    under : (c o : ℕ) → ConstantFault s at x c o → c < 19
    under _ _ (ends _ _ _) = omega arith
    under _ _ (differs _ _ _ _) = omega arith

no_value : {name : Input} {low high value field : ℕ} → Never 19 (Of name (ValueFault low high value field))
no_value {low = low} {high = high} {value = value} {field = field} = never_over under
  where
    under : (c o : ℕ) → ValueFault low high value field c o → c < 19
    under _ _ (below _) = omega arith
    under _ _ (above _) = omega arith

no_size : {name : Input} {wrong : Type 0} → Never 19 (Of name (SizeFault wrong))
no_size {wrong = wrong} = never_over under
  where
    under : (c o : ℕ) → SizeFault wrong c o → c < 19
    under _ _ (wrong_size _) = omega arith

no_short : {name : Input} {s : Bytes} {at n : ℕ} → Never 19 (Of name (Short s at n))
no_short = never_short (λ e. omega arith)

no_no_room : {name : Input} {needed room : ℕ} → Never 19 (Of name (NoRoom needed room))
no_no_room = never_room (λ e. omega arith)

pub never_header : (s : Bytes) → Never 19 (HeaderFaults s)
never_header s = never_then no_constant (never_then no_short (never_then no_value (never_then no_short no_value)))

pub never_options : (s : Bytes) → Never 19 (OptionsFaults s)
never_options s = never_then no_constant (never_then no_short (never_then no_short (never_then no_size (never_then no_constant (never_then no_size no_value)))))

pub never_header_written : (order unicode capacity : ℕ) → Never 19 (HeaderWriteFaults order unicode capacity)
never_header_written order unicode capacity = never_then no_value (never_then no_value no_no_room)

pub never_options_written : (first second third : Bytes) (async capacity : ℕ) → Never 19 (OptionsWriteFaults first second third async capacity)
never_options_written first second third async capacity = never_then no_size (never_then no_size (never_then no_size (never_then no_value no_no_room)))

-- A writer refuses a value as the reader would refuse its bytes.

-- the same error by another name
renamed :
    {A B : Type 0} {a b c d : ℕ} {i j : Input} (name : Input) → ◌≡◌ {A = Read A} (bad a b i) (bad c d j) → ◌≡◌ {A = Read B} (bad a b name) (bad c d name)
renamed {a = a} {b = b} {c = c} {d = d} name e =
    let x : a ≡ c = cc in
    let y : b ≡ d = cc in
    cc

-- both make the same check, and then go on alike
same_check :
    {A : Type 0} {written : Read Bytes} {read : Read A} (name : Input) (t : Bool) (code offset : ℕ) → (code ≡ 16 → ⊥) → RefusesAs written read →
    RefusesAs (about name (check t code offset) >>= λ _. written) (check t code offset >>= λ _. read)
unfolding about check
same_check name true code offset n h c o = h c o
same_check {A} name false code offset n h c o = ((λ (g, _). renamed input.Single g.1), (λ e. ((name, renamed name e), other e)))
  where
    other : ◌≡◌ {A = Read A} (bad code offset input.Single) (bad c o input.Single) → c ≡ 16 → ⊥
    other e z = let x : code ≡ c = cc in n (x ∙ z)

-- at last the writer checks the room, where the reader answers
then_room : {A : Type 0} (piece : Bytes) (capacity : ℕ) (a : A) → RefusesAs (fitting piece capacity) (ok a)
then_room piece capacity a code offset = ((λ g. absurd (there g)), (λ e. absurd (bad_ok (sym e))))
  where
    sixteen : {c o : ℕ} {i : Input} → Of input.Output (NoRoom (length piece) capacity) c o i → c ≡ 16
    sixteen (of (no_room h)) = refl

    there : ((i : Input) × (fitting piece capacity ≡ bad code offset i)) × (code ≡ 16 → ⊥) → ⊥
    there ((i, e), n) = n (sixteen ((exactly_fitting piece capacity code offset i).0 e))

-- the header's reader over coded bytes
header_coded :
    (major minor order unicode : ℕ) →
    header_of (header_bytes major minor order unicode)
    ≡ (check (eqb order 0) 3 7 >>= λ _. check (leb unicode 1) 3 8 >>= λ _. ok (header_as major minor order unicode 9))
unfolding header_of
header_coded major minor order unicode =
    let s : Bytes = header_bytes major minor order unicode in
    let p : Piece s 0 9 s = record { ends = refl; inside = omega arith; splits = refl } in
    simp (
      sized_within s (omega arith),
      constants_is signature (front signature (major ∷ minor ∷ order ∷ unicode ∷ []) p),
      fields_are s,
      whole_fits s 5 3 (omega arith),
      whole_fits s 8 1 (omega arith),
    )

-- The header's writer refuses values exactly as the reader refuses their bytes.
pub header_writer_refuses_as_reader :
    (major minor order unicode capacity : ℕ) →
    RefusesAs (header_written major minor order unicode capacity) (header_of (header_bytes major minor order unicode))
unfolding header_written
header_writer_refuses_as_reader major minor order unicode capacity =
    rw (header_coded major minor order unicode)
    (same_check input.Order (eqb order 0) 3 7 (λ (e : ◌≡◌ {A = ℕ} 3 16). omega arith)
    (same_check input.Unicode (leb unicode 1) 3 8 (λ (e : ◌≡◌ {A = ℕ} 3 16). omega arith)
    (then_room (header_bytes major minor order unicode) capacity (header_as major minor order unicode 9))))

-- the parts of coded options: an integer at its piece, and a string behind other bytes
int_told : {s : Bytes} {a b : ℕ} (n : ℕ) → n < 65536 → Piece s a b (int_bytes 2 n) → int_at s a 2 ≡ n
int_told {s} {a} {b} n h p =
    let l : length (int_bytes 2 n) ≡ 2 = length_int 2 n in
    ok_ok (sym (int_fits s a 2 (omega (arith, p.ends, p.inside))) ∙ int_is 2 n h p)

string_told :
    {s : Bytes} {b : ℕ} (w x : Bytes) (at : ℕ) → length w ≡ at → length x < 65536 → Piece s 0 b (w ++ string_bytes x) → string_end s at ≡ at + 2 + length x
unfolding string_bytes
string_told {s} {b} w x at e h p =
    let z : 0 + length w ≡ at = omega arith in
    let q : Piece s at b (int_bytes 2 (length x) ++ x) = piece_from z (back w (int_bytes 2 (length x) ++ x) p) in
    ap (λ (n : ℕ). at + 2 + n) (int_told (length x) h (front (int_bytes 2 (length x)) x q))

-- all bytes are a piece
whole_piece : (s : Bytes) → Piece s 0 (length s) s
whole_piece s = record { ends = omega arith; inside = omega arith; splits = sym (rw (drop-length s) (append-nil s)) }

-- the options' reader over coded bytes
module _ (x y z : Bytes) (async : ℕ) (most : 25 + length x + length y + length z ≤ 65535) (small : async < 65536) where
  options_coded :
      options_of (options_bytes x y z async)
      ≡ (check (async_allowed async) 3 (26 + length x + length y + length z) >>= λ _.
      ok (options_in (options_bytes x y z async) (3 + (25 + length x + length y + length z))))
  unfolding options_of options_sized options_bytes head_bytes int_bytes check
  options_coded =
      let n : ℕ = 25 + length x + length y + length z in
      let s : Bytes = options_bytes x y z async in
      let w1 : Bytes = head_bytes n in
      let w2 : Bytes = w1 ++ string_bytes x in
      let w3 : Bytes = w2 ++ string_bytes y in
      let w4 : Bytes = w3 ++ string_bytes z in
      let size : length s ≡ 28 + length x + length y + length z = length_options x y z async in
      let l2 : length w2 ≡ 22 + length x = length-append w1 (string_bytes x) ∙ omega (arith, length_string x) in
      let l3 : length w3 ≡ 22 + length x + 2 + length y = length-append w2 (string_bytes y) ∙ omega (arith, length_string y) in
      let l4 : 0 + length w4 ≡ 26 + length x + length y + length z = omega (arith, length-append w3 (string_bytes z), length_string z) in
      let p5 : Piece s 0 (length s) (w4 ++ int_bytes 2 async) = whole_piece s in
      let p4 : Piece s 0 (0 + length w4) w4 = front w4 (int_bytes 2 async) p5 in
      let p3 : Piece s 0 (0 + length w3) w3 = front w3 (string_bytes z) p4 in
      let p2 : Piece s 0 (0 + length w2) w2 = front w2 (string_bytes y) p3 in
      let h3 : Piece s 0 20 w1 = front w1 (string_bytes x) p2 in
      let h2 : Piece s 0 19 (token ++ int_bytes 2 n ++ guid) = front (token ++ int_bytes 2 n ++ guid) (1 ∷ []) h3 in
      let h1 : Piece s 0 3 (token ++ int_bytes 2 n) = front (token ++ int_bytes 2 n) guid h2 in
      let first : first_end s ≡ 22 + length x = string_told w1 x 20 refl (omega arith) p2 in
      let second : second_end s ≡ 22 + length x + 2 + length y = ap (string_end s) first ∙ string_told w2 y _ l2 (omega arith) p3 in
      let third : third_end s ≡ 26 + length x + length y + length z = ap (string_end s) second ∙ string_told w3 z _ l3 (omega arith) p4 ∙ omega arith in
      let last : int_at s (26 + length x + length y + length z) 2 ≡ async = int_told async small (piece_from l4 (back w4 (int_bytes 2 async) p5)) in
      simp (
        sized_within s (omega arith),
        constants_is token (front token (int_bytes 2 n) h1),
        int_is 2 n (omega arith) (back token (int_bytes 2 n) h1),
        whole_fits s 3 n (omega arith),
        le-leb 25 n (omega arith),
        constants_is guid (back (token ++ int_bytes 2 n) guid h2),
      )
      (rest_at s (3 + n) (omega arith) (omega arith) (26 + length x + length y + length z) async third last (omega arith))

  -- the options' writer within 65,535
  written_within :
      (capacity : ℕ) →
      options_written x y z async capacity
      ≡ (about input.Async (check (async_allowed async) 3 (26 + length x + length y + length z)) >>= λ _. fitting (options_bytes x y z async) capacity)
  unfolding about check
  written_within capacity =
      written_is x y z async capacity
      ∙ simp (
        sized_within x (omega arith),
        sized_within y (omega arith),
        sized_within z (omega arith),
        le-leb (25 + length x) 65535 (omega arith),
        le-leb (25 + length x + length y) 65535 (omega arith),
        le-leb (25 + length x + length y + length z) 65535 most,
      )

-- The options' writer refuses values exactly as the reader refuses their bytes, where the size field can say the size.
pub options_writer_refuses_as_reader :
    (first second third : Bytes) (async capacity : ℕ) → 25 + length first + length second + length third ≤ 65535 → async < 65536 →
    RefusesAs (options_written first second third async capacity) (options_of (options_bytes first second third async))
options_writer_refuses_as_reader first second third async capacity most small =
    rw (options_coded first second third async most small, written_within first second third async most small capacity)
    (same_check input.Async (async_allowed async) 3 _ (λ (e : ◌≡◌ {A = ℕ} 3 16). omega arith) (then_room (options_bytes first second third async) capacity _))

-- Where the size is over 65,535, and each string within the limit, it answers 4 at 1.
pub options_writer_too_large :
    (first second third : Bytes) (async capacity : ℕ) → length first ≤ limit → length second ≤ limit → length third ≤ limit →
    65535 < 25 + length first + length second + length third → (name : Input) × (options_written first second third async capacity ≡ bad 4 1 name)
unfolding about check
options_writer_too_large first second third async capacity a b c most = go (leb (25 + length first) 65535) (leb (25 + length first + length second) 65535) refl refl
  where
    go :
        (t u : Bool) → leb (25 + length first) 65535 ≡ t → leb (25 + length first + length second) 65535 ≡ u →
        (name : Input) × (options_written first second third async capacity ≡ bad 4 1 name)
    go false u e f = (input.FirstString, written_is first second third async capacity ∙ simp (sized_within first a, sized_within second b, sized_within third c, e))
    go true false e f = (input.SecondString, written_is first second third async capacity ∙ simp (sized_within first a, sized_within second b, sized_within third c, e, f))
    go true true e f = (
      input.ThirdString,
      written_is first second third async capacity
          ∙ simp (sized_within first a, sized_within second b, sized_within third c, e, f, lt-leb (25 + length first + length second + length third) 65535 most),
    )
