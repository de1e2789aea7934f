-- Laws of heads: the id behind a token, and the ways out of each kind of head.
-- Assumes nothing.
use Prim.Native.Nat.{ℕ, zero, suc, ◌+◌, ◌^◌, ◌≤◌, ◌<◌}
use mathlib.Core.Path.{◌≡◌, refl, sym, ap, ◌∙◌}
use mathlib.Core.List.{List, []}
use mathlib.Core.Bool.{Bool, true, false}
use mathlib.Core.Option.{Option, none, some}
use native.Mathlib.Omega.{arith}
use lib.ListN.{length, get_or, drop}
use lib.Dec.{eqb, leb}
use borrow.Author.Tests.{eqb-true, eq-eqb, ne_eqb, leb-true, leb-false}
use Rattle.wire.specs.declared.error.Input.{Input}
use Rattle.wire.specs.declared.error.Input.TheVariants as input
use Rattle.wire.specs.Read.{Bytes, AreBytes, cut, Read, ok, bad, ◌>>=◌, pick, check, whole}
use Rattle.wire.specs.Integers.{value_of, int_at, read_int}
use Rattle.wire.proofs.Laws.{whole_fits, whole_short}
use Rattle.wire.proofs.Pieces.{bad_ok, bind_ok, check_ok, ok_ok, cut_length, value_small, bytes_take, bytes_drop}
use Rattle.tree.specs.Schemas.{Schema, child_number, or0}
use Rattle.tree.specs.Table.{schema_slot, id_in, schemas_in}
use Rattle.tree.proofs.TableSays.{schemas_in_length}
use Rattle.tree.proofs.Children.{child_found}
use Rattle.grammar.specs.Grammar.{Before, other}
use Rattle.grammar.specs.Reader.{Token, child_token, change_token, delete_token, done_token, unknown_token, token_of, known_child, follows, id_at}
use Rattle.std.specs.Prelude.{IfSome}
use Rattle.std.specs.Prelude as rust
use Rattle.schema.specs.Children.{told_child}
use Rattle.section.specs.declared.heads.RowKind.TheVariants as kind
use Rattle.section.specs.Said.{SaidIn}
use Rattle.section.specs.Heads.{done_head, delete_head, data_head, head_by, head_at, before_in, paired_id}
use Rattle.shapes.specs.Shapes.{Sound}

-- The id behind a token, read or not.
module _ (s : Bytes) (at : ℕ) where
  pub id_short : {e o : ℕ} {i : Input} → read_int s (at + 1) 4 ≡ bad e o i → whole s (at + 1) 4 ≡ bad e o i
  unfolding read_int
  id_short h = go (whole s (at + 1) 4) h
    where
      go : {e o : ℕ} {i : Input} (r : Read ℕ) → (r >>= λ _. ok (int_at s (at + 1) 4)) ≡ bad e o i → r ≡ bad e o i
      go (ok b) g = absurd (bad_ok (sym g))
      go (bad e o i) g = cc

  pub whole_inside : (n b : ℕ) → whole s at n ≡ ok b → (b ≡ at + n) × (at + n ≤ length s)
  unfolding whole
  whole_inside n b e =
      let (u, t, f) = bind_ok (check (leb (at + n) (length s)) 1 (length s)) (λ _. ok (at + n)) b e in
      (sym (ok_ok f), leb-true _ _ (check_ok _ _ _ u t))

  -- an id is a number of four bytes
  pub id_small : AreBytes s → at + 5 ≤ length s → id_at s at < 4294967296
  unfolding int_at
  id_small o h =
      let l : length (cut s (at + 1) 4) ≡ 4 = cut_length s (at + 1) 4 (omega arith) in
      let v : value_of (cut s (at + 1) 4) < 256 ^ length (cut s (at + 1) 4) = value_small (cut s (at + 1) 4) (bytes_take 4 (drop (at + 1) s) (bytes_drop (at + 1) s o)) in
      rw l at v

-- four bytes behind a token end at at + 5
pub id_end : (s : Bytes) (at b : ℕ) → whole s (at + 1) 4 ≡ ok b → (b ≡ at + 5) × (at + 5 ≤ length s)
id_end s at b e = let (x, y) = whole_inside s (at + 1) 4 b e in (omega arith, omega arith)

pub id_read : (s : Bytes) (at : ℕ) {n : ℕ} → read_int s (at + 1) 4 ≡ ok n → (whole s (at + 1) 4 ≡ ok (at + 5)) × (id_at s at ≡ n)
unfolding read_int
id_read s at {n} h =
    let (b, e, f) = bind_ok (whole s (at + 1) 4) (λ _. ok (int_at s (at + 1) 4)) n h in
    (e ∙ ap (λ (x : ℕ). ok x) (id_end s at b e).0, ok_ok f)

-- An 87 element directly before, by the number of its schema.
pub follows_child : (slots : List ℕ) (child id : ℕ) → 0 < child → follows (before_in slots child) id ≡ eqb (id_in (get_or slots (schema_slot child) 0)) id
follows_child slots zero id h = absurd (omega arith)
follows_child slots (suc k) id h = refl

pub follows_nothing : (slots : List ℕ) (child id : ℕ) → child ≤ 0 → follows (before_in slots child) id ≡ false
follows_nothing slots zero id h = refl
follows_nothing slots (suc k) id h = absurd (omega arith)

-- the schema of the 87 element before is the one with the id
pub followed :
    (slots : List ℕ) (n child id : ℕ) → Sound slots n → child < n → follows (before_in slots child) id ≡ true → child_number (schemas_in 0 n slots) id ≡ some child
followed slots n zero id sound l f = absurd (false_true f)
  where
    false_true : ◌≡◌ {A = Bool} false true → ⊥
    false_true e = let z : ◌≡◌ {A = ℕ} 0 1 = ap (λ (b : Bool). pick b 1 0) e in omega (arith, z)
followed slots n (suc k) id sound l f =
    let e : id_in (get_or slots (schema_slot (suc k)) 0) ≡ id = eqb-true _ _ f in
    ap (child_number (schemas_in 0 n slots)) (sym e) ∙ sound.once (suc k) (omega arith) l

-- The id that has to be that of the element before.
module _ (s : Bytes) (before : Before) (at : ℕ) where
  pub paired_short : {e o : ℕ} {i : Input} → whole s (at + 1) 4 ≡ bad e o i → paired_id s before at ≡ bad e o i
  unfolding paired_id
  paired_short h = simp h

  pub paired_was : {id : ℕ} → paired_id s before at ≡ ok id → (whole s (at + 1) 4 ≡ ok (at + 5)) × (follows before (id_at s at) ≡ true) × (id_at s at ≡ id)
  unfolding paired_id
  paired_was {id} h =
      let (b, e, f) = bind_ok (whole s (at + 1) 4) (λ _. check (follows before (id_at s at)) 11 at >>= λ _. ok (id_at s at)) id h in
      let (u, g, k) = bind_ok (check (follows before (id_at s at)) 11 at) (λ _. ok (id_at s at)) id f in
      (e ∙ ap (λ (x : ℕ). ok x) (id_end s at b e).0, check_ok _ _ _ u g, ok_ok k)

  module _ {n : ℕ} (w : whole s (at + 1) 4 ≡ ok n) where
    pub paired_other : follows before (id_at s at) ≡ false → paired_id s before at ≡ bad 11 at input.Single
    unfolding paired_id check
    paired_other f = simp (w, f)

    pub paired_found : follows before (id_at s at) ≡ true → paired_id s before at ≡ ok (id_at s at)
    unfolding paired_id check
    paired_found f = simp (w, f)

-- The ways out of a head, by its token.
module _ (schemas : List Schema) (s : Bytes) (before : Before) (at : ℕ) where
  pub child_short : {e o : ℕ} {i : Input} → whole s (at + 1) 4 ≡ bad e o i → head_by schemas s before at child_token ≡ bad e o i
  unfolding head_by
  child_short h = simp h

  module _ (w : whole s (at + 1) 4 ≡ ok (at + 5)) where
    pub child_unknown : child_number schemas (id_at s at) ≡ none → head_by schemas s before at child_token ≡ bad 10 at input.Single
    unfolding head_by known_child
    child_unknown h = simp (w, h)

    pub child_known :
        {k : ℕ} → child_number schemas (id_at s at) ≡ some k → head_by schemas s before at child_token ≡ ok (data_head 2 k (id_at s at) (at + 5))
    unfolding head_by known_child
    child_known h = simp (w, h)

  pub change_refused : {e o : ℕ} {i : Input} → paired_id s before at ≡ bad e o i → head_by schemas s before at change_token ≡ bad e o i
  unfolding head_by paired_id
  change_refused h = go (whole s (at + 1) 4) (check (follows before (id_at s at)) 11 at) h
    where
      go :
          {e o : ℕ} {i : Input} (r : Read ℕ) (t : Read (Unit {0})) → (r >>= λ _. t >>= λ _. ok (id_at s at)) ≡ bad e o i →
          (r >>= λ b. t >>= λ _. known_child at (child_number schemas (id_at s at)) >>= λ k. ok (data_head 3 k (id_at s at) b)) ≡ bad e o i
      go (ok b) (ok u) g = absurd (bad_ok (sym g))
      go (ok b) (bad e o i) g = cc
      go (bad e o i) t g = cc

  pub change_known :
      {id k : ℕ} → paired_id s before at ≡ ok id → child_number schemas id ≡ some k → head_by schemas s before at change_token ≡ ok (data_head 3 k id (at + 5))
  unfolding head_by known_child check
  change_known {id} {k} h g =
      let (w, f, e) = paired_was s before at h in
      let n : child_number schemas (id_at s at) ≡ some k = ap (child_number schemas) e ∙ g in
      simp (w, f, n) (ap (λ (x : ℕ). ok (data_head 3 k x (at + 5))) e)

  pub delete_refused : {e o : ℕ} {i : Input} → paired_id s before at ≡ bad e o i → head_by schemas s before at delete_token ≡ bad e o i
  unfolding head_by paired_id
  delete_refused h = go (whole s (at + 1) 4) (check (follows before (id_at s at)) 11 at) h
    where
      go :
          {e o : ℕ} {i : Input} (r : Read ℕ) (t : Read (Unit {0})) → (r >>= λ _. t >>= λ _. ok (id_at s at)) ≡ bad e o i →
          (r >>= λ b. t >>= λ _. ok (delete_head (id_at s at))) ≡ bad e o i
      go (ok b) (ok u) g = absurd (bad_ok (sym g))
      go (ok b) (bad e o i) g = cc
      go (bad e o i) t g = cc

  pub delete_read : {id : ℕ} → paired_id s before at ≡ ok id → head_by schemas s before at delete_token ≡ ok (delete_head id)
  unfolding head_by check
  delete_read {id} h =
      let (w, f, e) = paired_was s before at h in
      simp (w, f) (ap (λ (x : ℕ). ok (delete_head x)) e)

  pub done_end : length s ≡ at + 1 → head_by schemas s before at done_token ≡ ok done_head
  unfolding head_by check
  done_end h = simp (eq-eqb _ _ h)

  pub done_trailing : (length s ≡ at + 1 → ⊥) → head_by schemas s before at done_token ≡ bad 15 (at + 1) input.Single
  unfolding head_by check
  done_trailing h = simp (ne_eqb _ _ h)

  -- The head at `at`: its token is there, and says which head it is.
  pub head_short : length s ≤ at → head_at schemas s before at ≡ bad 1 (length s) input.Single
  unfolding head_at
  head_short h = simp (whole_short s at 1 (omega arith))

  module _ (h : at < length s) where
    head_there : head_at schemas s before at ≡ head_by schemas s before at (token_of (get_or s at 0))
    unfolding head_at
    head_there = simp (whole_fits s at 1 (omega arith))

    by_token : {t : Token} → token_of (get_or s at 0) ≡ t → head_at schemas s before at ≡ head_by schemas s before at t
    by_token e = head_there ∙ ap (head_by schemas s before at) e

    pub head_parent : get_or s at 0 ≡ 0x07 → head_at schemas s before at ≡ ok (data_head 1 0 0 (at + 1))
    unfolding token_of head_by
    head_parent e = by_token (ap token_of e)

    pub head_child : get_or s at 0 ≡ 0x87 → head_at schemas s before at ≡ head_by schemas s other at child_token
    unfolding token_of head_by
    head_child e = by_token (ap token_of e)

    pub head_change : get_or s at 0 ≡ 0x8A → head_at schemas s before at ≡ head_by schemas s before at change_token
    unfolding token_of
    head_change e = by_token (ap token_of e)

    pub head_delete : get_or s at 0 ≡ 0x8C → head_at schemas s before at ≡ head_by [] s before at delete_token
    unfolding token_of head_by
    head_delete e = by_token (ap token_of e)

    pub head_done : get_or s at 0 ≡ 0x0F → head_at schemas s before at ≡ head_by [] s other at done_token
    unfolding token_of head_by
    head_done e = by_token (ap token_of e)

    pub head_unknown :
        (get_or s at 0 ≡ 0x07 → ⊥) → (get_or s at 0 ≡ 0x87 → ⊥) → (get_or s at 0 ≡ 0x8A → ⊥) → (get_or s at 0 ≡ 0x8C → ⊥) → (get_or s at 0 ≡ 0x0F → ⊥) →
        head_at schemas s before at ≡ bad 9 at input.Single
    unfolding token_of head_by
    head_unknown a b c d e =
        by_token {t = unknown_token} (simp (ne_eqb _ _ a, ne_eqb _ _ b, ne_eqb _ _ c, ne_eqb _ _ d, ne_eqb _ _ e))

-- the head of an 8A element whose id is that of the element before
pub change_followed :
    (slots : List ℕ) (n child : ℕ) (s : Bytes) (at : ℕ) {id : ℕ} → Sound slots n → child < n → paired_id s (before_in slots child) at ≡ ok id →
    head_by (schemas_in 0 n slots) s (before_in slots child) at change_token ≡ ok (data_head 3 child id (at + 5))
change_followed slots n child s at {id} sound l h =
    let (w, f, e) = paired_was s (before_in slots child) at h in
    change_known (schemas_in 0 n slots) s (before_in slots child) at h
    (followed slots n child id sound l (ap (follows (before_in slots child)) (sym e) ∙ f))

-- What `find_child` answers: 0 exactly where there is no schema with the id.
pub number_none : (ss : List Schema) (id : ℕ) → or0 (child_number ss id) ≡ 0 → child_number ss id ≡ none
number_none ss id h = go (child_number ss id) refl h
  where
    go : (o : Option ℕ) → child_number ss id ≡ o → or0 o ≡ 0 → o ≡ none
    go none e g = refl
    go (some k) e g = absurd (omega (arith, g, (child_found ss id k e).0))

pub number_some : (ss : List Schema) (id : ℕ) {k : ℕ} → k ≡ or0 (child_number ss id) → (k ≡ 0 → ⊥) → child_number ss id ≡ some k
number_some ss id {k} h n = go (child_number ss id) h
  where
    go : (o : Option ℕ) → k ≡ or0 o → o ≡ some k
    go none e = absurd (n e)
    go (some j) e = ap (λ (m : ℕ). some m) (sym e)

-- and in any case the number of a schema
pub child_low : (ss : List Schema) (id : ℕ) → 1 ≤ length ss → or0 (child_number ss id) < length ss
child_low ss id top = go (child_number ss id) refl
  where
    go : (o : Option ℕ) → child_number ss id ≡ o → or0 o < length ss
    go none e = omega (arith, top)
    go (some k) e = (child_found ss id k e).1

pub found_low : (slots : List ℕ) (n id : ℕ) (r : rust.Option ℕ) → 1 ≤ n → told_child r ≡ child_number (schemas_in 0 n slots) id → IfSome r (λ k. k < n)
found_low slots n id (rust.Some k) top e = let (a, b, _) = child_found (schemas_in 0 n slots) id k (sym e) in omega (arith, b, schemas_in_length 0 n slots)
found_low slots n id rust.None top e = tt

pub number_in : (slots : List ℕ) (n id : ℕ) {k : ℕ} → 1 ≤ n → k ≡ or0 (child_number (schemas_in 0 n slots) id) → k < n
number_in slots n id top e =
    let m : length (schemas_in 0 n slots) ≡ n = schemas_in_length 0 n slots in
    omega (arith, e, child_low (schemas_in 0 n slots) id (omega (arith, m, top)), m)

-- The heads that the quick way knows, where five bytes are there.
module _ (slots : List ℕ) (n : ℕ) (s : Bytes) (at : ℕ) (h : at + 5 ≤ length s) where
  five : whole s (at + 1) 4 ≡ ok (at + 5)
  five = let z : at + 1 + 4 ≡ at + 5 = omega arith in whole_fits s (at + 1) 4 (omega arith) ∙ ap (λ (x : ℕ). ok x) z

  pub said_child : (b : Before) (id k : ℕ) → get_or s at 0 ≡ 0x87 → id ≡ id_at s at → k ≡ or0 (child_number (schemas_in 0 n slots) id) → (k ≡ 0 → ⊥) →
      head_at (schemas_in 0 n slots) s b at ≡ ok (data_head 2 k (id_at s at) (at + 5))
  said_child b id k t e q z =
      head_child (schemas_in 0 n slots) s b at (omega arith) t
      ∙ child_known (schemas_in 0 n slots) s other at five (ap (child_number (schemas_in 0 n slots)) (sym e) ∙ number_some (schemas_in 0 n slots) id q z)

  pub said_change : (child id : ℕ) → Sound slots n → child < n → get_or s at 0 ≡ 0x8A → id ≡ id_at s at → 0 < child → id_in (get_or slots (schema_slot child) 0) ≡ id →
      head_at (schemas_in 0 n slots) s (before_in slots child) at ≡ ok (data_head 3 child (id_at s at) (at + 5))
  said_change child id sound l t e p i =
      let f : follows (before_in slots child) (id_at s at) ≡ true = follows_child slots child (id_at s at) p ∙ eq-eqb _ _ (i ∙ e) in
      head_change (schemas_in 0 n slots) s (before_in slots child) at (omega arith) t
      ∙ change_followed slots n child s at sound l (paired_found s (before_in slots child) at five f)

  pub said_parent_in : (b : Before) → 1 ≤ n → get_or s at 0 ≡ 0x07 → SaidIn slots n s b at (record { kind = kind.Parent; number = 0; start = at + 1 })
  said_parent_in b one t = record { number = omega arith; says = λ sound. record { id = 0; head = head_parent (schemas_in 0 n slots) s b at (omega arith) t } }

  pub said_child_in : (b : Before) (id k : ℕ) → id ≡ id_at s at → k < n → (Sound slots n → some k ≡ child_number (schemas_in 0 n slots) id) → get_or s at 0 ≡ 0x87 →
      SaidIn slots n s b at (record { kind = kind.Child; number = k; start = at + 5 })
  said_child_in b id k e l q t =
      record {
        number = l;
        says = λ sound. record {
          id = id_at s at;
          head =
              head_child (schemas_in 0 n slots) s b at (omega arith) t
              ∙ child_known (schemas_in 0 n slots) s other at five (ap (child_number (schemas_in 0 n slots)) (sym e) ∙ sym (q sound));
        };
      }

  pub said_change_in : (child id : ℕ) → id ≡ id_at s at → child < n → follows (before_in slots child) id ≡ true → get_or s at 0 ≡ 0x8A →
      SaidIn slots n s (before_in slots child) at (record { kind = kind.Change; number = child; start = at + 5 })
  said_change_in child id e l f t =
      record {
        number = l;
        says = λ sound. record {
          id = id_at s at;
          head =
              head_change (schemas_in 0 n slots) s (before_in slots child) at (omega arith) t
              ∙ change_followed slots n child s at sound l (paired_found s (before_in slots child) at five (ap (follows (before_in slots child)) (sym e) ∙ f));
        };
      }

-- The id behind a token, or 0.
pub id_or_zero : (s : Bytes) (at : ℕ) {r : ℕ} → AreBytes s → r ≡ pick (leb (at + 1 + 4) (length s)) (id_at s at) 0 → (r < 4294967296) × (at + 5 ≤ length s → r ≡ id_at s at)
id_or_zero s at {r} o e = go (leb (at + 1 + 4) (length s)) refl e
  where
    go : (b : Bool) → leb (at + 1 + 4) (length s) ≡ b → r ≡ pick b (id_at s at) 0 → (r < 4294967296) × (at + 5 ≤ length s → r ≡ id_at s at)
    go true t e = (rw e (id_small s at o (omega (arith, leb-true (at + 1 + 4) (length s) t))), λ h. e)
    go false t e = (omega (arith, e), λ h. absurd (omega (arith, h, leb-false (at + 1 + 4) (length s) t)))
