-- The numbers that bytes have, one after the other: each call gives the next, and those of a file are its numbers.
-- Assumes nothing.
use Prim.Native.Nat.{ℕ, zero, suc, ◌+◌, ◌-◌, ◌≤◌, ◌<◌}
use mathlib.Core.Path.{◌≡◌, refl, sym, ap, ◌∙◌}
use mathlib.Core.List.{List, [], ◌∷◌}
use mathlib.Core.Bool.{Bool, true, false}
use native.Mathlib.Numerals.{add-one}
use native.Mathlib.Omega.{arith}
use lib.ListN.{length, get_or, set, drop, length-drop, drop_of_length-le}
use lib.Seq.{drop-cons, paste, paste-suc, paste-zero}
use lib.Dec.{ltb}
use borrow.Author.Tests.{ltb-true, ltb-false}
use Rattle.wire.specs.declared.error.Input.{Input}
use Rattle.wire.specs.Read.{Bytes, AreBytes, Read, ok, bad}
use Rattle.wire.specs.Output.{put}
use Rattle.wire.proofs.Laws.{put_paste}
use Rattle.tree.specs.Numbers.{Found, found, number_at}
use Rattle.tree.specs.Tree.{Tree, numbers}
use Rattle.tree.specs.Reader.{file_of}
use Rattle.tree.proofs.Offsets.{number_inside}
use Rattle.std.proofs.lemmas.List.{set-get_or}
use Rattle.numbers.specs.Writer.{ListIs}
use Rattle.numbers.specs.Listing.{with_rest, numbers_from, numbers_left}
use Rattle.numbers.proofs.Listed.{Behind, behind_end, behind_value, behind_next, behind_more, behind_never, file_start, file_small}
use Rattle.numbers.proofs.Trips.{AllSmall}

module _ (b : Bytes) where
  -- nothing stands behind the end
  none_left : (at : ℕ) (f : ℕ → List ℕ) → length b ≤ at → with_rest f (number_at b at) ≡ []
  none_left at f h = go (number_at b at) refl
    where
      go : (r : Read Found) → number_at b at ≡ r → with_rest f r ≡ []
      go (ok n) e = absurd (omega (arith, h, number_inside b at n.value n.at e))
      go (bad c o i) e = refl

  same_rest : (at : ℕ) (f g : ℕ → List ℕ) → ((p : ℕ) → at < p → p ≤ length b → f p ≡ g p) → with_rest f (number_at b at) ≡ with_rest g (number_at b at)
  same_rest at f g h = go (number_at b at) refl
    where
      go : (r : Read Found) → number_at b at ≡ r → with_rest f r ≡ with_rest g r
      go (ok n) e = let q = number_inside b at n.value n.at e in ap (λ (x : List ℕ). n.value ∷ x) (h n.at q.0 q.1)
      go (bad c o i) e = refl

  enough : (k j at : ℕ) → length b - at ≤ k → length b - at ≤ j → numbers_from k b at ≡ numbers_from j b at
  unfolding numbers_from
  enough zero zero at h l = refl
  enough zero (suc j) at h l = sym (none_left at (λ p. numbers_from j b p) (omega (arith, h)))
  enough (suc k) zero at h l = none_left at (λ p. numbers_from k b p) (omega (arith, l))
  enough (suc k) (suc j) at h l =
      same_rest at (λ p. numbers_from k b p) (λ p. numbers_from j b p) (λ p m q. enough k j p (omega (arith, h, m, q)) (omega (arith, l, m, q)))

  few_from : (k at : ℕ) → length (numbers_from k b at) ≤ k
  unfolding numbers_from
  few_from zero at = omega arith
  few_from (suc k) at = go (number_at b at) (λ p. few_from k p)
    where
      go : (r : Read Found) → ((p : ℕ) → length (numbers_from k b p) ≤ k) → length (with_rest (λ p. numbers_from k b p) r) ≤ suc k
      go (ok n) f = omega (arith, f n.at)
      go (bad c o i) f = omega arith

  -- there are no more than bytes
  pub left_few : (at : ℕ) → length (numbers_left b at) ≤ length b
  unfolding numbers_left
  left_few at = omega (arith, few_from (length b - at) at)

  -- what a call gives
  pub left_next : (at v p : ℕ) → number_at b at ≡ ok (found v p) → numbers_left b at ≡ v ∷ numbers_left b p
  unfolding numbers_left numbers_from
  left_next at v p e =
      let q = number_inside b at v p e in
      let z : length b - at ≡ suc (length b - at - 1) = omega (arith, q) in
      ap (λ (k : ℕ). numbers_from k b at) z ∙ rw e (ap (λ (x : List ℕ). v ∷ x) (enough (length b - at - 1) (length b - p) p (omega (arith, q)) (omega arith)))

  pub left_end : (at : ℕ) {c o : ℕ} {i : Input} → number_at b at ≡ bad c o i → numbers_left b at ≡ []
  unfolding numbers_left numbers_from
  left_end at {c} {o} {i} e = go (length b - at)
    where
      go : (k : ℕ) → numbers_from k b at ≡ []
      go zero = refl
      go (suc k) = rw e refl

  -- behind n numbers the others are left
  module _ (ns : List ℕ) (small : AllSmall ns) where
    none_behind : (at n : ℕ) → Behind b ns at n → length b ≤ at → [] ≡ drop n ns
    none_behind at n p l = let z : n ≡ length ns = behind_end b ns small at n p l in sym (drop_of_length-le ns (omega (arith, z)))

    behind_from : (k at n : ℕ) → length b - at ≤ k → Behind b ns at n → numbers_from k b at ≡ drop n ns
    unfolding numbers_from
    behind_from zero at n h p = none_behind at n p (omega (arith, h))
    behind_from (suc k) at n h p = go (number_at b at) refl (λ q m l r. behind_from k q (n + 1) (omega (arith, h, m, l)) r)
      where
        stays : (c o : ℕ) (i : Input) → number_at b at ≡ bad c o i → (t : Bool) → ltb at (length b) ≡ t → [] ≡ drop n ns
        stays c o i e true l = absurd (behind_never b ns small at n p c o i (ltb-true _ _ l) e)
        stays c o i e false l = none_behind at n p (ltb-false _ _ l)

        go : (r : Read Found) → number_at b at ≡ r → ((q : ℕ) → at < q → q ≤ length b → Behind b ns q (n + 1) → numbers_from k b q ≡ drop (n + 1) ns) →
            with_rest (λ q. numbers_from k b q) r ≡ drop n ns
        go (ok m) e f =
            let q = number_inside b at m.value m.at e in
            let l : at < length b = omega (arith, q) in
            let v : m.value ≡ get_or ns n 0 = behind_value b ns small at n p m.value m.at l e in
            let rest : numbers_from k b m.at ≡ drop (n + 1) ns = f m.at q.0 q.1 (behind_next b ns small at n p m.value m.at l e) in
            rw (v, rest, add-one) (sym (drop-cons ns n 0 (behind_more b ns small at n p l)))
        go (bad c o i) e f = stays c o i e (ltb at (length b)) refl

-- the numbers of a file are all that its bytes have
pub left_file : (b : Bytes) → AreBytes b → (t : Tree) → file_of b ≡ ok t → numbers_left b 0 ≡ numbers t
unfolding numbers_left
left_file b o t e = behind_from b (numbers t) (file_small b o t e) (length b - 0) 0 0 (omega arith) (file_start b o t e)

-- The table that is filled has the first n, and so many are left.
pub record Filled (ns entry table left : List ℕ) (n : ℕ) : Type 0 where
  pub few : n ≤ length ns
  pub rest : drop n ns ≡ left
  pub holds : table ≡ paste entry 0 ns n

module _ (ns entry : List ℕ) where
  pub filled_start : Filled ns entry entry ns 0
  filled_start = record { few = omega arith; rest = refl; holds = sym (paste-zero entry 0 ns) }

  pub filled_next : {table left : List ℕ} {n : ℕ} (x : ℕ) (later : List ℕ) → Filled ns entry table left n → n < length entry → left ≡ x ∷ later → Filled ns entry (set table n x) later (n + 1)
  filled_next {table} {left} {n} x later f h e =
      let r : drop n ns ≡ x ∷ later = f.rest ∙ e in
      let l : n < length ns = omega (arith, length-drop n ns, ap length r) in
      let d : get_or ns n 0 ∷ drop (suc n) ns ≡ x ∷ later = sym (drop-cons ns n 0 l) ∙ r in
      let v : x ≡ get_or ns n 0 = cc in
      let behind : drop (suc n) ns ≡ later = cc in
      let y : n ≡ 0 + n = omega arith in
      record {
        few = omega (arith, l);
        rest = rw add-one behind;
        holds = rw (f.holds, v, add-one) (ap (λ (j : ℕ). set (paste entry 0 ns n) j (get_or ns n 0)) y ∙ paste-suc entry 0 ns n 0 (omega (arith, h)) l);
      }

  filled_end : {table left : List ℕ} {n : ℕ} → Filled ns entry table left n → length ns ≤ length entry → length ns ≤ n → table ≡ put entry 0 ns
  filled_end {table} {left} {n} f h l =
      let z : n ≡ length ns = omega (arith, f.few, l) in
      f.holds ∙ ap (paste entry 0 ns) z ∙ sym (put_paste entry 0 ns (omega (arith, h)))

module _ (b : Bytes) (o : AreBytes b) (entry : List ℕ) {table left : List ℕ} {n : ℕ} (f : Filled (numbers_left b 0) entry table left n) where
  filled_file : ((t : Tree) → file_of b ≡ ok t → length (numbers t) ≤ length entry → length (numbers_left b 0) ≤ n) → ListIs b entry table
  filled_file all t h l =
      let z : numbers_left b 0 ≡ numbers t = left_file b o t h in
      filled_end (numbers_left b 0) entry f (omega (arith, ap length z, l)) (all t h l) ∙ ap (put entry 0) z

  -- where no number is left, and where the table is full
  pub filled_none : left ≡ [] → ListIs b entry (set table n (get_or table n 0))
  filled_none e =
      let k : length (numbers_left b 0) ≤ n = omega (arith, length-drop n (numbers_left b 0), ap length (f.rest ∙ e)) in
      rw (set-get_or table n 0) (filled_file (λ t q l. k))

  pub filled_full : length entry ≤ n → ListIs b entry table
  filled_full h = filled_file (λ t q l. omega (arith, ap length (left_file b o t q), l, h))
