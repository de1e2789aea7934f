-- Lines made piece by piece, and the checks in front of a listing.
-- Assumes nothing.
use Prim.Native.Nat.{ℕ, zero, suc, ◌+◌, ◌-◌, ◌*◌, ◌/◌, ◌%◌, ◌^◌, ◌<◌, ◌≤◌}
use mathlib.Core.Path.{◌≡◌, refl, sym, ap, ◌∙◌, subst}
use mathlib.Core.List.{List, [], ◌∷◌, ◌++◌, append-nil}
use native.Mathlib.Nat.{pow-suc}
use native.Mathlib.Numerals.{add-one}
use native.Mathlib.Omega.{arith}
use lib.ListN.{length, take, drop, get_or, length-append, take-append-drop}
use Rattle.std.proofs.lemmas.List.{get_or-take, drop-take, length-drop, length-take-le}
use lib.Seq.{take-append_seam, get_or-drop}
use lib.Dec.{leb}
use borrow.Author.Tests.{le-leb, lt-leb, leb-true, eq-eqb, ne_eqb}
use Rattle.wire.specs.declared.error.Input.TheVariants as input
use Rattle.wire.specs.declared.error.Error.{Error}
use Rattle.wire.specs.Errors.{code_of, input_number}
use Rattle.wire.specs.Read.{Bytes, Read, ok, bad, check, about, refused}
use Rattle.wire.specs.Output.{put}
use Rattle.wire.proofs.Laws.{put_fits, put_put, length_put}
use Rattle.wire.proofs.Pieces.{bind_ok, check_ok, about_ok, ok_ok}
use Rattle.std.specs.Fmt.{decimal}
use Rattle.std.proofs.lemmas.Fmt.{decimal_by_steps, length-decimal-le}
use Rattle.grammar.specs.Grammar.{Row, entry}
use Rattle.section.specs.Table.{table_numbers, fitting, rows_checked, rows_listed, row_count, table_after}
use Rattle.section.proofs.Listing.{rows_told_lem, error_told}
use Rattle.listing.specs.Lines.{last_digits, IsDigitCount, Decimal, space, newline, rows_word, at_word, CountLine, count_line, RowLine, row_line, RowLines, no_lines, one_more, refusal_words, RefusalLine, refusal_line, Text, rows_text, refusal_text, rows_of, Adds, AddsNumber, AddsThe, sheet_refused, rows_refused}
use Rattle.listing.specs.Listing.{file_limit, listing}
use Rattle.wire.specs.declared.error.Input.{Input}

-- the text of a number of 64 bits is that number in decimal
pub decimal_spelled : (n : ℕ) → n < 2 ^ 64 → Decimal n (decimal n)
unfolding last_digits
decimal_spelled = decimal_by_steps Decimal one more
  where
    one : (n : ℕ) → n < 10 → Decimal n ((48 + n) ∷ [])
    one n small =
        let same : n % 10 ≡ n = omega arith in
        record { places = 1; fewest = (omega arith, omega arith, λ h. absurd (omega arith)); spelled = rw same refl }

    more : (n : ℕ) (text : Bytes) → 10 ≤ n → Decimal (n / 10) text → Decimal n (text ++ ((48 + n % 10) ∷ []))
    more n text large front =
        record {
          places = suc front.places;
          fewest = (omega arith, holds, needed);
          spelled = ap (λ (l : Bytes). l ++ ((48 + n % 10) ∷ [])) front.spelled;
        }
      where
        holds : n < 10 ^ suc front.places
        holds = let power = pow-suc 10 front.places in omega (arith, front.fewest.1, power)

        needed : 1 < suc front.places → 10 ^ (suc front.places - 1) ≤ n
        needed h = let less : suc front.places - 1 ≡ front.places = omega arith in rw less (by front.places front.fewest)
          where
            by : (k : ℕ) → IsDigitCount (n / 10) k → 10 ^ k ≤ n
            by zero f = absurd (omega (arith, f.0))
            by (suc zero) f = omega arith
            by (suc (suc k)) f =
                let less : suc (suc k) - 1 ≡ suc k = omega arith in
                let least : 10 ^ suc k ≤ n / 10 = rw (← less) (f.2 (omega arith)) in
                omega (arith, least, pow-suc 10 (suc k))

-- digits and a byte behind them, copied into a line
pub number_added :
    {line line₁ line₂ shown : Bytes}
    {at n byte : ℕ}
    → at + 21 ≤ length line
    → n < 2 ^ 64
    → shown ≡ decimal n
    → line₁ ≡ put line at shown
    → line₂ ≡ put line₁ (at + length shown) (byte ∷ [])
    → AddsNumber line line₂ at n byte (at + length shown + 1)
number_added {line} {line₁} {line₂} {shown} {at} {n} {byte} room small s e₁ e₂ =
    let few : length shown ≤ 20 = rw s (length-decimal-le 20 n (omega arith) (omega arith) small) in
    record {
      text = shown;
      decimal = rw s (decimal_spelled n small);
      few = few;
      adds =
          record {
            holds =
                e₂
                ∙ ap (λ (o : Bytes). put o (at + length shown) (byte ∷ [])) e₁
                ∙ put_put line at shown (byte ∷ []) (omega (arith, few));
            ends = rw length-append (omega arith);
          };
    }

-- a piece more
pub adds_next : {text laid exit w v : Bytes} {at p end : ℕ} → Adds text laid at w p → Adds laid exit p v end → end ≤ length text → Adds text exit at (w ++ v) end
adds_next {text} {laid} {exit} {w} {v} {at} {p} {end} a b h =
    record {
      holds =
          b.holds
          ∙ ap (λ (o : Bytes). put o p v) a.holds
          ∙ ap (λ (n : ℕ). put (put text at w) n v) a.ends
          ∙ put_put text at w v (omega (arith, a.ends, b.ends));
      ends = rw length-append (omega (arith, a.ends, b.ends));
    }

-- the text that was made
pub text_made : {text exit w : Bytes} {end : ℕ} → Adds text exit 0 w end → end ≤ length text → (end ≤ length exit) × (w ≡ take end exit)
text_made {text} {exit} {w} {end} a h =
    let e : exit ≡ w ++ drop (0 + length w) text = a.holds ∙ put_fits text 0 w (omega (arith, a.ends)) in
    let n : end ≡ length w = omega (arith, a.ends) in
    let t : take end exit ≡ w = rw (n, e) (take-append_seam w (drop (0 + length w) text)) in
    let l : length exit ≡ length text = ap length a.holds ∙ length_put text 0 w in
    (omega arith, sym t)

-- The lines, each of its pieces.
pub count_made : {text t₁ t₂ : Bytes} {n p₁ p₂ : ℕ} → 84 ≤ length text → Adds text t₁ 0 rows_word p₁ → AddsNumber t₁ t₂ p₁ n 10 p₂ × (p₂ ≤ p₁ + 21) →
    AddsThe (CountLine n) 84 text t₂ 0 p₂
count_made room a b =
    record {
      piece = rows_word ++ (b.0.text ++ newline);
      is = count_line b.0.decimal;
      adds = adds_next a b.0.adds (omega (arith, a.ends, b.1));
      few = omega (arith, a.ends, b.1);
    }

pub row_made : {text t₁ t₂ t₃ t₄ : Bytes} {at kind id original update p₁ p₂ p₃ p₄ : ℕ} → at + 84 ≤ length text → AddsNumber text t₁ at kind 32 p₁ × (p₁ ≤ at + 21) →
    AddsNumber t₁ t₂ p₁ id 32 p₂ × (p₂ ≤ p₁ + 21) → AddsNumber t₂ t₃ p₂ original 32 p₃ × (p₃ ≤ p₂ + 21) → AddsNumber t₃ t₄ p₃ update 10 p₄ × (p₄ ≤ p₃ + 21) →
    AddsThe (RowLine kind id original update) 84 text t₄ at p₄
row_made room a b c d =
    let two = adds_next a.0.adds b.0.adds (omega (arith, room, a.1, b.1)) in
    let three = adds_next two c.0.adds (omega (arith, room, a.1, b.1, c.1)) in
    record {
      piece = (((a.0.text ++ space) ++ (b.0.text ++ space)) ++ (c.0.text ++ space)) ++ (d.0.text ++ newline);
      is = row_line a.0.decimal b.0.decimal c.0.decimal d.0.decimal;
      adds = adds_next three d.0.adds (omega (arith, room, a.1, b.1, c.1, d.1));
      few = omega (arith, a.1, b.1, c.1, d.1);
    }

pub refusal_made : {text t₁ t₂ t₃ t₄ words : Bytes} {code place p₁ p₂ p₃ p₄ : ℕ} → 84 ≤ length text → length words ≤ 14 → Adds text t₁ 0 words p₁ →
    AddsNumber t₁ t₂ p₁ code 32 p₂ × (p₂ ≤ p₁ + 21) → Adds t₂ t₃ p₂ at_word p₃ → AddsNumber t₃ t₄ p₃ place 10 p₄ × (p₄ ≤ p₃ + 21) →
    AddsThe (RefusalLine words code place) 84 text t₄ 0 p₄
refusal_made {words = words} room short a b c d =
    let two = adds_next a b.0.adds (omega (arith, room, short, a.ends, b.1)) in
    let three = adds_next two c (omega (arith, room, short, a.ends, b.1, c.ends)) in
    record {
      piece = ((words ++ (b.0.text ++ space)) ++ at_word) ++ (d.0.text ++ newline);
      is = refusal_line b.0.decimal d.0.decimal;
      adds = adds_next three d.0.adds (omega (arith, room, short, a.ends, b.1, c.ends, d.1));
      few = omega (arith, short, a.ends, b.1, c.ends, d.1);
    }

-- Row i of a table.
abbrev pub row_in : List ℕ → ℕ → Row
row_in table i = entry (get_or table (4 * i) 0) (get_or table (4 * i + 1) 0) (get_or table (4 * i + 2) 0) (get_or table (4 * i + 3) 0)

-- one row more
pub rows_more : (i : ℕ) (table : List ℕ) → rows_of (suc i) table ≡ rows_of i table ++ (row_in table i ∷ [])
unfolding rows_of
rows_more zero table = refl
rows_more (suc i) table =
    let at : (j : ℕ) → get_or (drop 4 table) (4 * i + j) 0 ≡ get_or table (4 * suc i + j) 0 = λ j. get_or-drop 4 table (4 * i + j) 0 ∙ ap (λ (k : ℕ). get_or table k 0) (omega arith) in
    let first : get_or (drop 4 table) (4 * i) 0 ≡ get_or table (4 * suc i) 0 = get_or-drop 4 table (4 * i) 0 ∙ ap (λ (k : ℕ). get_or table k 0) (omega arith) in
    let same : row_in (drop 4 table) i ≡ row_in table (suc i) = rw (first, at 1, at 2, at 3) refl in
    ap (λ (rs : List Row). entry (get_or table 0 0) (get_or table 1 0) (get_or table 2 0) (get_or table 3 0) ∷ rs) (rows_more i (drop 4 table) ∙ ap (λ (r : Row). rows_of i (drop 4 table) ++ (r ∷ [])) same)

numbers_length : (rs : List Row) → length (table_numbers rs) ≡ 4 * length rs
unfolding table_numbers
numbers_length [] = refl
numbers_length (r ∷ rs) = rw length-append (omega (arith, numbers_length rs))

-- a table that holds rows first
rows_held : (rs : List Row) (rest : List ℕ) → rows_of (length rs) (table_numbers rs ++ rest) ≡ rs
unfolding rows_of table_numbers
rows_held [] rest = refl
rows_held (r ∷ rs) rest = ap (λ (l : List Row). r ∷ l) (rows_held rs rest)

-- The lines of rows, row by row.
pub lines_start : (text table : Bytes) (at : ℕ) → at ≤ length text → AddsThe (RowLines (rows_of 0 table)) (84 * 0) text text at at
unfolding rows_of
lines_start text table at h = record { piece = []; is = no_lines; adds = record { holds = sym (nothing_put text at h); ends = omega arith }; few = omega arith }
  where
    nothing_put : (out : Bytes) (p : ℕ) → p ≤ length out → put out p [] ≡ out
    nothing_put out p h =
        let z : p + 0 ≡ p = omega arith in
        put_fits out p [] (omega (arith, h))
        ∙ ap (λ (n : ℕ). take p out ++ [] ++ drop n out) z
        ∙ ap (λ (l : Bytes). l ++ drop p out) (append-nil (take p out))
        ∙ take-append-drop p out

pub lines_next : {text laid exit : Bytes} {at p end : ℕ} (table : List ℕ) (i : ℕ) → AddsThe (RowLines (rows_of i table)) (84 * i) text laid at p →
    AddsThe (RowLine (get_or table (4 * i) 0) (get_or table (4 * i + 1) 0) (get_or table (4 * i + 2) 0) (get_or table (4 * i + 3) 0)) 84 laid exit p end →
    at + 84 * (i + 1) ≤ length text → AddsThe (RowLines (rows_of (i + 1) table)) (84 * (i + 1)) text exit at end
lines_next table i a b room =
    record {
      piece = a.piece ++ b.piece;
      is =
          subst (λ (rs : List Row). RowLines rs (a.piece ++ b.piece)) (sym (ap (λ (n : ℕ). rows_of n table) (add-one i) ∙ rows_more i table))
          (one_more {r = row_in table i} a.is b.is);
      adds = adds_next a.adds b.adds (omega (arith, a.few, b.few, room));
      few = omega (arith, a.few, b.few);
    }

pub lines_end : {text exit : Bytes} {at end : ℕ} (table : List ℕ) (i n : ℕ) → i ≤ n → n ≤ i → AddsThe (RowLines (rows_of i table)) (84 * i) text exit at end →
    AddsThe (RowLines (rows_of n table)) (84 * n) text exit at end
lines_end {text} {exit} {at} {end} table i n h k a =
    let z : i ≡ n = omega arith in
    subst (λ (m : ℕ). AddsThe (RowLines (rows_of m table)) (84 * m) text exit at end) z a

-- the words of a refusal, by what it is about
module _ (name : Input) {a b : ℕ} (p : a ≡ input_number name) (q : b ≡ input_number input.Schema) where
  pub of_sheet : a ≡ b → sheet_refused ≡ refusal_words name
  of_sheet e = rw (eq-eqb (input_number name) (input_number input.Schema) (sym p ∙ e ∙ q)) refl

  pub of_rows : (a ≡ b → ⊥) → rows_refused ≡ refusal_words name
  of_rows e = rw (ne_eqb (input_number name) (input_number input.Schema) (λ h. e (p ∙ h ∙ sym q))) refl

-- the rows of the front of a table
pub rows_front : (n : ℕ) (table : List ℕ) → 4 * n ≤ length table → rows_of n (take (4 * n) table) ≡ rows_of n table
unfolding rows_of
rows_front zero table h = refl
rows_front (suc n) table h =
    let e : 4 * suc n ≡ 4 + 4 * n = omega arith in
    let f : (i : ℕ) → i < 4 → get_or (take (4 * suc n) table) i 0 ≡ get_or table i 0 = λ i k. get_or-take (4 * suc n) table i 0 (omega arith) in
    let g : drop 4 (take (4 * suc n) table) ≡ take (4 * n) (drop 4 table) = rw e (drop-take 4 (4 * n) table) in
    rw (f 0 (omega arith), f 1 (omega arith), f 2 (omega arith), f 3 (omega arith), g, rows_front n (drop 4 table) (rw length-drop (omega arith))) refl

-- the lines of that front
pub front_lines :
    {text exit : Bytes} {at end : ℕ} (n : ℕ) (table : List ℕ) → 4 * n ≤ length table →
    AddsThe (RowLines (rows_of (length (take (4 * n) table) / 4) (take (4 * n) table))) (84 * (length (take (4 * n) table) / 4)) text exit at end →
    AddsThe (RowLines (rows_of n table)) (84 * n) text exit at end
front_lines n table h a =
    let z : length (take (4 * n) table) / 4 ≡ n = omega (arith, length-take-le (4 * n) table h) in
    rw (z, rows_front n table h) at a

-- rows that are listed have room in the table
fitting_room : (numbers : ℕ) (qs rs : List Row) → fitting numbers qs ≡ ok rs → length rs ≤ numbers / 4
fitting_room numbers qs rs e =
    let q = bind_ok (about input.Table (check (leb (length qs) (numbers / 4)) 16 (length qs))) _ rs e in
    let h : length qs ≤ numbers / 4 = leb-true _ _ (check_ok _ _ _ _ (about_ok input.Table _ _ q.1)) in
    let z : length qs ≡ length rs = ap length (ok_ok q.2) in
    omega arith

pub rows_room : (sheet rows : Bytes) (numbers n : ℕ) → ok n ≡ row_count (listing sheet rows numbers) → n ≤ numbers / 4
unfolding listing rows_listed
rows_room sheet rows numbers n e =
    let t = rows_told_lem (listing sheet rows numbers) n e in
    let a = bind_ok (about input.Schema (check (leb (length sheet) file_limit) 19 0)) _ t.0 t.1 in
    let b = bind_ok (about input.Section (check (leb (length rows) file_limit) 19 0)) _ t.0 a.2 in
    let c = bind_ok (rows_checked sheet rows) (fitting numbers) t.0 b.2 in
    let h : length t.0 ≤ numbers / 4 = fitting_room numbers c.0 t.0 c.2 in
    omega (arith, t.2)

-- The text of a listing that is refused, or of rows.
module _ (sheet rows : Bytes) (numbers : ℕ) {text : Bytes} where
  pub error_text : {exit : Bytes} {end : ℕ} (e : Error) → refused e ≡ row_count (listing sheet rows numbers) → 84 ≤ length text →
      AddsThe (RefusalLine (refusal_words e.input) (code_of e.kind) e.offset) 84 text exit 0 end →
      (end ≤ length exit) × Text (listing sheet rows numbers) (take end exit)
  error_text {exit} {end} e q room a =
      let m = text_made a.adds (omega (arith, a.few, room)) in
      (m.0, rw (error_told (listing sheet rows numbers) e q) (subst (Text (refused e)) m.1 (refusal_text a.is)))

  pub listing_text : {laid exit : Bytes} {n p end : ℕ} (table after : List ℕ) → length table ≡ numbers → ok n ≡ row_count (listing sheet rows numbers) →
      after ≡ table_after (listing sheet rows numbers) table → 84 + 21 * numbers ≤ length text → AddsThe (CountLine n) 84 text laid 0 p →
      AddsThe (RowLines (rows_of n after)) (84 * n) laid exit p end → (end ≤ length exit) × Text (listing sheet rows numbers) (take end exit)
  unfolding table_after
  listing_text {laid} {exit} {n} {p} {end} table after size q leaves room a b =
      let (rs, e, z) = rows_told_lem (listing sheet rows numbers) n q in
      let h : n ≤ numbers / 4 = rows_room sheet rows numbers n q in
      let l : length (table_numbers rs) ≡ 4 * length rs = numbers_length rs in
      let rest : List ℕ = drop (0 + length (table_numbers rs)) table in
      let held : after ≡ table_numbers rs ++ rest =
      leaves
      ∙ ap (λ (r : Read (List Row)). table_after r table) e
      ∙ put_fits table 0 (table_numbers rs) (omega (arith, h, l, z, size)) in
      let same : rows_of n after ≡ rs = ap (λ (k : ℕ). rows_of k after) z ∙ ap (rows_of (length rs)) held ∙ rows_held rs rest in
      let all = adds_next a.adds b.adds (omega (arith, a.few, b.few, room, h)) in
      let m = text_made all (omega (arith, a.few, b.few, room, h)) in
      let is : Text (ok rs) (a.piece ++ b.piece) =
      rows_text (subst (λ (k : ℕ). CountLine k a.piece) z a.is) (subst (λ (l : List Row). RowLines l b.piece) same b.is) in
      (m.0, rw e (subst (Text (ok rs)) m.1 is))

-- The checks in front of a section.
module _ (sheet rows : Bytes) (numbers : ℕ) where
  pub sheet_large : file_limit < length sheet → listing sheet rows numbers ≡ bad 19 0 input.Schema
  unfolding listing about check
  sheet_large h = rw (lt-leb (length sheet) file_limit h) refl

  module _ (f : length sheet ≤ file_limit) where
    pub rows_large : file_limit < length rows → listing sheet rows numbers ≡ bad 19 0 input.Section
    unfolding listing about check
    rows_large h = rw (le-leb (length sheet) file_limit f, lt-leb (length rows) file_limit h) refl

    pub sizes_fit : length rows ≤ file_limit → listing sheet rows numbers ≡ rows_listed sheet rows numbers
    unfolding listing about check
    sizes_fit h = rw (le-leb (length sheet) file_limit f, le-leb (length rows) file_limit h) refl
