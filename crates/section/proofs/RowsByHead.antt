-- A turn of the reader by positions is the element's head and then what the head asks for.
-- Assumes nothing.
use Prim.Native.Nat.{ℕ, zero, suc, ◌+◌, ◌≤◌}
use mathlib.Core.Path.{◌≡◌, refl, sym, ap, ◌∙◌}
use mathlib.Core.List.{List, [], ◌∷◌}
use mathlib.Core.Bool.{Bool, true, false}
use mathlib.Core.Option.{Option, none, some}
use native.Mathlib.Omega.{arith}
use lib.ListN.{length, get_or}
use lib.Dec.{eqb}
use borrow.Author.Tests.{eqb-true}
use Rattle.wire.specs.Read.{Bytes, Read, ok, ◌>>=◌, pick, check, whole}
use Rattle.tree.specs.Schemas.{Schema, child_number}
use Rattle.wire.proofs.Pieces.{bind_ok, check_ok, ok_ok, bad_ok, bind_same, bind_bind}
use Rattle.grammar.specs.Grammar.{Before, other, after, columns_at, Row, entry}
use Rattle.grammar.specs.Reader.{Token, parent_token, child_token, change_token, delete_token, done_token, unknown_token, token_of, known_child, follows, id_at}
use Rattle.grammar.specs.Pending.{Pending, nothing, child_row_lem, before_of, flush, close, turn, rows_from}
use Rattle.section.specs.Heads.{HeadAt, done_head, delete_head, data_head, head_by, head_at, before_in, pending_in}
use Rattle.walk.specs.Data.{data_end}
use Rattle.section.proofs.HeadLaws.{whole_inside, id_end}

-- what is pending behind row data of a kind
abbrev pub pending_after : (kind id start : ℕ) → Pending
pending_after kind id start = pick (eqb kind 2) (child_row_lem id start) nothing

-- the rows with that of the data in front
abbrev pub rows_after : (kind start : ℕ) → Pending → List Row → List Row
rows_after kind start p rs = pick (eqb kind 3) (close 3 start p rs) (flush p (pick (eqb kind 2) rs (entry 1 0 start 0 ∷ rs)))

-- what follows a head
abbrev pub resumed : List Schema → Bytes → (Pending → ℕ → Read (List Row)) → Pending → ℕ → HeadAt → Read (List Row)
resumed S s next p at done_head = ok (flush p [])
resumed S s next p at (delete_head id) = next nothing (at + 5) >>= λ rs. ok (close 4 0 p rs)
resumed S s next p at (data_head kind k id start) =
    data_end (eqb kind 3) (columns_at S k) s start >>= λ e. next (pending_after kind id start) e >>= λ rs. ok (rows_after kind start p rs)

module _ (S : List Schema) (s : Bytes) (next : Pending → ℕ → Read (List Row)) (p : Pending) (at : ℕ) where
  by_token : (t : Token) → turn S s next p at t ≡ (head_by S s (before_of p) at t >>= resumed S s next p at)
  unfolding turn head_by
  by_token done_token = sym (bind_bind (check (eqb (length s) (at + 1)) 15 (at + 1)) _ _)
  by_token parent_token = refl
  by_token child_token =
      bind_same (whole s (at + 1) 4) _ _ (λ b e. sym (bind_bind (known_child at (child_number S (id_at s at))) _ _))
      ∙ sym (bind_bind (whole s (at + 1) 4) _ _)
  by_token change_token =
      bind_same (whole s (at + 1) 4) _ _
      (λ b e. bind_same (check (follows (before_of p) (id_at s at)) 11 at) _ _ (λ u f. sym (bind_bind (known_child at (child_number S (id_at s at))) _ _))
      ∙ sym (bind_bind (check (follows (before_of p) (id_at s at)) 11 at) _ _))
      ∙ sym (bind_bind (whole s (at + 1) 4) _ _)
  by_token delete_token =
      bind_same (whole s (at + 1) 4) _ _
      (λ b e. ap (λ (x : ℕ). check (follows (before_of p) (id_at s at)) 11 at >>= λ _. next nothing x >>= λ rs. ok (close 4 0 p rs)) (id_end s at b e).0
      ∙ sym (bind_bind (check (follows (before_of p) (id_at s at)) 11 at) _ _))
      ∙ sym (bind_bind (whole s (at + 1) 4) _ _)
  by_token unknown_token = refl

-- one element more
pub rows_step : (S : List Schema) (s : Bytes) (fuel : ℕ) (p : Pending) (at : ℕ) →
    rows_from S s (suc fuel) p at ≡ (head_at S s (before_of p) at >>= resumed S s (rows_from S s fuel) p at)
unfolding rows_from head_at
rows_step S s fuel p at =
    bind_same (whole s at 1) _ _ (λ b e. by_token S s (rows_from S s fuel) p at (token_of (get_or s at 0))) ∙ sym (bind_bind (whole s at 1) _ _)

-- what code keeps of what is pending says what stands before
pub before_pending : (slots : List ℕ) (child origin : ℕ) → before_of (pending_in slots child origin) ≡ before_in slots child
before_pending slots zero origin = refl
before_pending slots (suc k) origin = refl

-- the token of the element at `at`
abbrev pub TokenIs : Bytes → ℕ → Token → Type 0
TokenIs s at t = token_of (get_or s at 0) ≡ t

-- What a head tells.
pub data HeadTold (S : List Schema) (s : Bytes) (before : Before) (at : ℕ) : HeadAt → Type 0 where
  told_done : TokenIs s at done_token → at + 1 ≡ length s → HeadTold S s before at done_head
  told_delete : {id : ℕ} → TokenIs s at delete_token → before ≡ after id → id ≡ id_at s at → at + 5 ≤ length s → HeadTold S s before at (delete_head id)
  told_parent : TokenIs s at parent_token → at + 1 ≤ length s → HeadTold S s before at (data_head 1 0 0 (at + 1))
  told_child : {k id start : ℕ} → TokenIs s at child_token → child_number S id ≡ some k → id ≡ id_at s at → start ≡ at + 5 → start ≤ length s → HeadTold S s before at (data_head 2 k id start)
  told_change : {k id start : ℕ} → TokenIs s at change_token → before ≡ after id → child_number S id ≡ some k → id ≡ id_at s at → start ≡ at + 5 → start ≤ length s → HeadTold S s before at (data_head 3 k id start)

known_some : (at : ℕ) (o : Option ℕ) (k : ℕ) → known_child at o ≡ ok k → o ≡ some k
unfolding known_child
known_some at none k e = absurd (bad_ok e)
known_some at (some j) k e = ap (λ (x : ℕ). some x) (ok_ok e)

follows_after : (b : Before) (id : ℕ) → follows b id ≡ true → b ≡ after id
follows_after other id e = let z : ◌≡◌ {A = ℕ} 0 1 = cc in absurd (omega arith)
follows_after (after i) id e = ap (λ (x : ℕ). after x) (eqb-true _ _ e)

as_told : {S : List Schema} {s : Bytes} {before : Before} {at : ℕ} {g h : HeadAt} → HeadTold S s before at g → g ≡ h → HeadTold S s before at h
as_told t e = rw (← e) t

module _ (S : List Schema) (s : Bytes) (before : Before) (at : ℕ) (here : at + 1 ≤ length s) where
  told_by : (t : Token) (h : HeadAt) → TokenIs s at t → head_by S s before at t ≡ ok h → HeadTold S s before at h
  unfolding head_by
  told_by done_token h i e =
      let (u, c, r) = bind_ok (check (eqb (length s) (at + 1)) 15 (at + 1)) (λ _. ok done_head) h e in
      as_told (told_done i (sym (eqb-true _ _ (check_ok _ _ _ u c)))) (ok_ok r)
  told_by parent_token h i e = as_told (told_parent i here) (ok_ok e)
  told_by child_token h i e =
      let (b, w, r₁) = bind_ok _ _ h e in
      let (k, n, r₂) = bind_ok _ _ h r₁ in
      let (x, y) = id_end s at b w in
      as_told (told_child i (known_some at _ k n) refl (omega arith) (omega arith)) (ok_ok r₂)
  told_by change_token h i e =
      let (b, w, r₁) = bind_ok _ _ h e in
      let (u, f, r₂) = bind_ok _ _ h r₁ in
      let (k, n, r₃) = bind_ok _ _ h r₂ in
      let (x, y) = id_end s at b w in
      as_told (told_change i (follows_after before (id_at s at) (check_ok _ _ _ u f)) (known_some at _ k n) refl (omega arith) (omega arith)) (ok_ok r₃)
  told_by delete_token h i e =
      let (b, w, r₁) = bind_ok _ _ h e in
      let (u, f, r₂) = bind_ok _ _ h r₁ in
      let (x, y) = id_end s at b w in
      as_told (told_delete i (follows_after before (id_at s at) (check_ok _ _ _ u f)) refl (omega arith)) (ok_ok r₂)
  told_by unknown_token h i e = absurd (bad_ok e)

pub head_told : (S : List Schema) (s : Bytes) (before : Before) (at : ℕ) (h : HeadAt) → head_at S s before at ≡ ok h → HeadTold S s before at h
unfolding head_at
head_told S s before at h e =
    let (b, w, r) = bind_ok _ _ h e in
    let (x, y) = whole_inside s at 1 b w in
    told_by S s before at y (token_of (get_or s at 0)) h refl r

-- the byte of a token
abbrev pub ByteIs : Token → ℕ → Type 0
ByteIs parent_token t = t ≡ 0x07
ByteIs child_token t = t ≡ 0x87
ByteIs change_token t = t ≡ 0x8A
ByteIs delete_token t = t ≡ 0x8C
ByteIs done_token t = t ≡ 0x0F
ByteIs unknown_token t = Unit {0}

byte_is : (t : ℕ) → ByteIs (token_of t) t
unfolding token_of
byte_is t = go (eqb t 0x07) (eqb t 0x87) (eqb t 0x8A) (eqb t 0x8C) (eqb t 0x0F) refl refl refl refl refl
  where
    go : (a b c d e : Bool) → eqb t 0x07 ≡ a → eqb t 0x87 ≡ b → eqb t 0x8A ≡ c → eqb t 0x8C ≡ d → eqb t 0x0F ≡ e →
        ByteIs (pick a parent_token (pick b child_token (pick c change_token (pick d delete_token (pick e done_token unknown_token))))) t
    go true b c d e p q r s u = eqb-true _ _ p
    go false true c d e p q r s u = eqb-true _ _ q
    go false false true d e p q r s u = eqb-true _ _ r
    go false false false true e p q r s u = eqb-true _ _ s
    go false false false false true p q r s u = eqb-true _ _ u
    go false false false false false p q r s u = tt

pub byte_of : (t : ℕ) (k : Token) → token_of t ≡ k → ByteIs k t
byte_of t k e = rw e at (byte_is t)
