-- The reader of a section and the grammar agree.
-- Assumes nothing.
use Prim.Native.Nat.{ℕ, zero, suc, ◌+◌, ◌-◌, ◌<◌, ◌≤◌}
use mathlib.Core.Path.{◌≡◌, refl, sym, ap, ◌∙◌}
use mathlib.Core.List.{List, [], ◌∷◌, ◌++◌}
use mathlib.Core.Bool.{Bool, true, false}
use mathlib.Core.Option.{Option, none, some}
use native.Mathlib.Omega.{arith}
use native.Mathlib.Numerals.{add-one}
use lib.ListN.{length, drop, get_or, length-append, length-drop}
use lib.Seq.{drop-cons, drop-length}
use lib.Dec.{eqb}
use borrow.Author.Tests.{eqb-true, eq-eqb}
use Rattle.wire.specs.Read.{Bytes, Read, ok, pick, check, cut}
use Rattle.wire.specs.Integers.{int_at}
use Rattle.wire.proofs.Laws.{whole_fits}
use Rattle.wire.proofs.Pieces.{between, here, bad_ok, bind_ok, check_ok, ok_ok, whole_ok, whole_is, cut_is}
use Rattle.tree.specs.Schemas.{Schema}
use Rattle.grammar.specs.Grammar.{IdBytes, Element, parent_element, child_element, change_element, Before, other, after, columns_at, Split, done, parent, child, change, delete}
use Rattle.grammar.specs.Reader.{Token, parent_token, child_token, change_token, delete_token, done_token, unknown_token, token_of, known_child, follows, id_at, element, scan}
use Rattle.grammar.proofs.Rows.{row_sound, row_complete, update_sound, update_complete}

-- the byte of a token
abbrev pub Says : Token → ℕ → Type 0
Says parent_token t = t ≡ 0x07
Says child_token t = t ≡ 0x87
Says change_token t = t ≡ 0x8A
Says delete_token t = t ≡ 0x8C
Says done_token t = t ≡ 0x0F
Says unknown_token t = Unit {0}

says_by : (t : ℕ) (a b c d e : Bool) → eqb t 0x07 ≡ a → eqb t 0x87 ≡ b → eqb t 0x8A ≡ c → eqb t 0x8C ≡ d → eqb t 0x0F ≡ e →
    Says (pick a parent_token (pick b child_token (pick c change_token (pick d delete_token (pick e done_token unknown_token))))) t
says_by t true b c d e p q r u v = eqb-true _ _ p
says_by t false true c d e p q r u v = eqb-true _ _ q
says_by t false false true d e p q r u v = eqb-true _ _ r
says_by t false false false true e p q r u v = eqb-true _ _ u
says_by t false false false false true p q r u v = eqb-true _ _ v
says_by t false false false false false p q r u v = tt

pub says : (t : ℕ) → Says (token_of t) t
unfolding token_of
says t = says_by t _ _ _ _ _ refl refl refl refl refl

pub known_ok : (at : ℕ) (o : Option ℕ) (k : ℕ) → known_child at o ≡ ok k → o ≡ some k
unfolding known_child
known_ok at none k e = absurd (bad_ok e)
known_ok at (some j) k e = ap (λ (x : ℕ). some x) (ok_ok e)

pub follows_after : (b : Before) (id : ℕ) → follows b id ≡ true → b ≡ after id
follows_after other id e = let z : ◌≡◌ {A = ℕ} 0 1 = cc in absurd (omega arith)
follows_after (after i) id e = ap (λ (x : ℕ). after x) (eqb-true _ _ e)

-- the bytes behind a token say the id that is read
id_read : (s : Bytes) (at : ℕ) → length (cut s (at + 1) 4) ≡ 4 → IdBytes (cut s (at + 1) 4) (id_at s at)
unfolding int_at
id_read s at l = record { four = l; says = refl }

-- a token and what follows it
token_splits : (s : Bytes) (at t : ℕ) (rest : Bytes) → at < length s → get_or s at 0 ≡ t → drop (at + 1) s ≡ rest → drop at s ≡ t ∷ rest
token_splits s at t rest h e d =
    let d' : drop (suc at) s ≡ rest = rw (add-one at) at d in
    cc (drop-cons s at 0 h)

as_split : {S : List Schema} {b : Before} {x y : Bytes} {es fs : List Element} → Split S b x es → y ≡ x → es ≡ fs → Split S b y fs
as_split sp e f = rw (e, ← f) sp

-- An answer of the reader is a split. `next` stands for the reader of what follows.
module _ (S : List Schema) (s : Bytes) (next : Before → ℕ → Read (List Element))
    (ih : (b : Before) (e : ℕ) (es : List Element) → e ≤ length s → next b e ≡ ok es → Split S b (drop e s) es) where
  element_sound : (before : Before) (at : ℕ) (k : Token) (es : List Element) → at < length s → Says k (get_or s at 0) →
      element S s next before at k ≡ ok es → Split S before (drop at s) es
  unfolding element
  element_sound before at done_token es h t r =
      let (u, c, r₁) = bind_ok _ _ es r in
      let l : length s ≡ at + 1 = eqb-true _ _ (check_ok _ _ _ u c) in
      as_split done (token_splits s at 0x0F [] h t (rw (← l) (drop-length s))) (ok_ok r₁)
  element_sound before at parent_token es h t r =
      let (e, w, r₁) = bind_ok _ _ es r in
      let (fs, n, r₂) = bind_ok _ _ es r₁ in
      let (x, O, p) = row_sound _ s (at + 1) e w in
      as_split (parent O (ih other e fs p.inside n)) (token_splits s at 0x07 _ h t p.splits) (ap (λ (z : Bytes). parent_element z ∷ fs) (sym (between p)) ∙ ok_ok r₂)
  element_sound before at child_token es h t r =
      let (b, w, r₁) = bind_ok _ _ es r in
      let (j, k, r₂) = bind_ok _ _ es r₁ in
      let (e, v, r₃) = bind_ok _ _ es r₂ in
      let (fs, n, r₄) = bind_ok _ _ es r₃ in
      let (p, l) = whole_ok s (at + 1) 4 b w in
      let (x, O, q) = row_sound (columns_at S j) s b e v in
      as_split (child (id_read s at l) (known_ok at _ j k) O (ih _ e fs q.inside n))
      (token_splits s at 0x87 (cut s (at + 1) 4 ++ (x ++ drop e s)) h t (p.splits ∙ ap (λ (z : Bytes). cut s (at + 1) 4 ++ z) q.splits))
      (ap (λ (z : Bytes). child_element (id_at s at) z ∷ fs) (sym (between q)) ∙ ok_ok r₄)
  element_sound before at change_token es h t r =
      let (b, w, r₁) = bind_ok _ _ es r in
      let (u, f, r₂) = bind_ok _ _ es r₁ in
      let (j, k, r₃) = bind_ok _ _ es r₂ in
      let (e, v, r₄) = bind_ok _ _ es r₃ in
      let (fs, n, r₅) = bind_ok _ _ es r₄ in
      let (p, l) = whole_ok s (at + 1) 4 b w in
      let (x, U, q) = update_sound (columns_at S j) s b e v in
      rw (follows_after before (id_at s at) (check_ok _ _ _ u f))
      (as_split (change (id_read s at l) (known_ok at _ j k) U (ih _ e fs q.inside n))
      (token_splits s at 0x8A (cut s (at + 1) 4 ++ (x ++ drop e s)) h t (p.splits ∙ ap (λ (z : Bytes). cut s (at + 1) 4 ++ z) q.splits))
      (ap (λ (z : Bytes). change_element (id_at s at) z ∷ fs) (sym (between q)) ∙ ok_ok r₅))
  element_sound before at delete_token es h t r =
      let (b, w, r₁) = bind_ok _ _ es r in
      let (u, f, r₂) = bind_ok _ _ es r₁ in
      let (fs, n, r₃) = bind_ok _ _ es r₂ in
      let (p, l) = whole_ok s (at + 1) 4 b w in
      rw (follows_after before (id_at s at) (check_ok _ _ _ u f))
      (as_split (delete (id_read s at l) (ih _ b fs p.inside n)) (token_splits s at 0x8C _ h t p.splits) (ok_ok r₃))
  element_sound before at unknown_token es h t r = absurd (bad_ok r)

pub scan_sound : (S : List Schema) (s : Bytes) (fuel : ℕ) (before : Before) (at : ℕ) (es : List Element) → at ≤ length s →
    scan S s fuel before at ≡ ok es → Split S before (drop at s) es
unfolding scan
scan_sound S s zero before at es h r = absurd (bad_ok r)
scan_sound S s (suc fuel) before at es h r =
    let (b, w, r₁) = bind_ok _ _ es r in
    let (p, l) = whole_ok s at 1 b w in
    let h' : at < length s = omega (arith, p.ends, p.inside) in
    element_sound S s (scan S s fuel) (λ b e fs i n. scan_sound S s fuel b e fs i n) before at _ es h' (says (get_or s at 0)) r₁

-- A split is an answer of the reader.
pub token_here : (s : Bytes) (at t : ℕ) (rest : Bytes) → at ≤ length s → drop at s ≡ t ∷ rest → (at < length s) × (get_or s at 0 ≡ t) × (drop (at + 1) s ≡ rest)
token_here s at t rest h e =
    let l : length s - at ≡ suc (length rest) = sym (length-drop at s) ∙ ap length e in
    let i : at < length s = omega arith in
    let c : get_or s at 0 ∷ drop (suc at) s ≡ t ∷ rest = sym (drop-cons s at 0 i) ∙ e in
    let c₁ : get_or s at 0 ≡ t = cc in
    let c₂ : drop (suc at) s ≡ rest = cc in
    (i, c₁, rw (add-one at) c₂)

scan_step : (S : List Schema) (s : Bytes) (fuel : ℕ) (before : Before) (at t : ℕ) → 0 < fuel → at < length s → get_or s at 0 ≡ t →
    scan S s fuel before at ≡ element S s (scan S s (fuel - 1)) before at (token_of t)
unfolding scan
scan_step S s zero before at t f h e = absurd (omega arith)
scan_step S s (suc fuel) before at t f h e =
    let z : suc fuel - 1 ≡ fuel = omega arith in
    rw (z, whole_fits s at 1 (omega arith), e)

pub scan_complete : {S : List Schema} {before : Before} {bytes : Bytes} {es : List Element} → Split S before bytes es → (s : Bytes) (fuel at : ℕ) → at ≤ length s →
    drop at s ≡ bytes → length bytes < fuel → scan S s fuel before at ≡ ok es
unfolding element token_of check known_child int_at
scan_complete {S} {before} done s fuel at h d f =
    let (i, t, r) = token_here s at 0x0F [] h d in
    let l : length s - (at + 1) ≡ 0 = sym (length-drop (at + 1) s) ∙ ap length r in
    let l' : length s ≡ at + 1 = omega arith in
    scan_step S s fuel before at 0x0F (omega arith) i t ∙ rw (eq-eqb _ _ l')
scan_complete {S} {before} (parent {row = x} {rest = y} {elements = fs} O sp) s fuel at h d f =
    let (i, t, r) = token_here s at 0x07 (x ++ y) h d in
    let (p, r') = here s (at + 1) x y (omega arith) r in
    let e : ℕ = at + 1 + length x in
    let n : scan S s (fuel - 1) other e ≡ ok fs = scan_complete sp s (fuel - 1) e p.inside r' (omega (arith, length-append x y)) in
    scan_step S s fuel before at 0x07 (omega arith) i t ∙ rw (row_complete O p, n, between p)
scan_complete {S} {before} (child {id = id} {k = j} {ids = ids} {row = x} {rest = y} {elements = fs} w k O sp) s fuel at h d f =
    let (i, t, r) = token_here s at 0x87 (ids ++ (x ++ y)) h d in
    let (p, r₁) = here s (at + 1) ids (x ++ y) (omega arith) r in
    let b : ℕ = at + 1 + length ids in
    let (q, r₂) = here s b x y p.inside r₁ in
    let e : ℕ = b + length x in
    let n : scan S s (fuel - 1) (after id) e ≡ ok fs =
    scan_complete sp s (fuel - 1) e q.inside r₂ (omega (arith, length-append ids (x ++ y), length-append x y)) in
    scan_step S s fuel before at 0x87 (omega arith) i t
    ∙ rw (whole_is 4 p w.four, cut_is 4 p w.four, w.says, k, row_complete O q, n, between q)
scan_complete {S} (change {id = id} {k = j} {ids = ids} {row = x} {rest = y} {elements = fs} w k U sp) s fuel at h d f =
    let (i, t, r) = token_here s at 0x8A (ids ++ (x ++ y)) h d in
    let (p, r₁) = here s (at + 1) ids (x ++ y) (omega arith) r in
    let b : ℕ = at + 1 + length ids in
    let (q, r₂) = here s b x y p.inside r₁ in
    let e : ℕ = b + length x in
    let n : scan S s (fuel - 1) other e ≡ ok fs =
    scan_complete sp s (fuel - 1) e q.inside r₂ (omega (arith, length-append ids (x ++ y), length-append x y)) in
    scan_step S s fuel (after id) at 0x8A (omega arith) i t
    ∙ rw (whole_is 4 p w.four, cut_is 4 p w.four, w.says, eq-eqb id id refl, k, update_complete U q, n, between q)
scan_complete {S} (delete {id = id} {ids = ids} {rest = y} {elements = fs} w sp) s fuel at h d f =
    let (i, t, r) = token_here s at 0x8C (ids ++ y) h d in
    let (p, r₁) = here s (at + 1) ids y (omega arith) r in
    let b : ℕ = at + 1 + length ids in
    let n : scan S s (fuel - 1) other b ≡ ok fs = scan_complete sp s (fuel - 1) b p.inside r₁ (omega (arith, length-append ids y)) in
    scan_step S s fuel (after id) at 0x8C (omega arith) i t
    ∙ rw (whole_is 4 p w.four, cut_is 4 p w.four, w.says, eq-eqb id id refl, n)
