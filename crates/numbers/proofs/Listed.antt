-- Laws of the numbers of a file, listed one after the other.
-- Assumes nothing.
use Rattle.std.specs.Prelude.{Ok, Err}
use Prim.Native.Nat.{ℕ, ◌+◌, ◌≤◌, ◌<◌}
use mathlib.Core.Path.{◌≡◌, refl, sym, ap, ◌∙◌}
use mathlib.Core.List.{List, [], ◌++◌}
use mathlib.Core.Bool.{Bool, true, false}
use native.Mathlib.Numerals.{add-one}
use native.Mathlib.Omega.{arith}
use lib.ListN.{length, get_or, drop, length-drop, drop_of_length-le}
use lib.Seq.{drop-cons}
use lib.Dec.{ltb}
use borrow.Author.Tests.{ltb-true, ltb-false, le-leb, lt-leb}
use Rattle.wire.specs.declared.error.Error.{Error}
use Rattle.wire.specs.declared.error.Input.{Input}
use Rattle.wire.specs.declared.error.Input.TheVariants as input
use Rattle.wire.specs.Errors.{code_of}
use Rattle.wire.specs.Read.{Bytes, AreBytes, Read, ok, bad, check, about, refused}
use Rattle.wire.specs.Output.{put, size_of, output_after}
use Rattle.wire.proofs.Pieces.{bad_ok, ok_ok}
use Rattle.tree.specs.Numbers.{groups, all_groups, Number, number, number_in, found, number_at}
use Rattle.tree.specs.Tree.{Tree, numbers, encode}
use Rattle.tree.specs.Reader.{file_of}
use Rattle.tree.specs.Table.{table_size}
use Rattle.tree.specs.Filling.{Filled, fill_file}
use Rattle.numbers.specs.Writer.{numbers_listed, CountIs, ListIs, Lists}
use Rattle.tree.proofs.NumberForms.{number_complete}
use Rattle.tree.proofs.Offsets.{number_at_lem, number_inside}
use Rattle.tree.proofs.Theorem.{file_of_iff}
use Rattle.numbers.proofs.Coding.{nothing_read}
use Rattle.numbers.proofs.Writing.{fill_bad, fill_ok}
use Rattle.numbers.proofs.Trips.{AllSmall, numbers_small}

-- Behind n numbers, at an offset of their bytes.
pub record Behind (b : Bytes) (ns : List ℕ) (at n : ℕ) : Type 0 where
  pub few : n ≤ length ns
  pub inside : at ≤ length b
  pub rest : drop at b ≡ all_groups (drop n ns)

behind_start : (b : Bytes) (ns : List ℕ) → b ≡ all_groups ns → Behind b ns 0 0
behind_start b ns e = record { few = omega arith; inside = omega arith; rest = e }

module _ (b : Bytes) (ns : List ℕ) (small : AllSmall ns) (at n : ℕ) (k : Behind b ns at n) where
  -- the number that stands there, and what is left behind it
  behind_read : n < length ns → (p : ℕ) × (number_in (drop at b) at ≡ ok (number (get_or ns n 0) (all_groups (drop (n + 1) ns)) p))
  unfolding all_groups
  behind_read h =
      let m : ℕ = get_or ns n 0 in
      let l : Bytes = all_groups (drop (n + 1) ns) in
      let (p, f) = number_complete m l at (small n) in
      let z : drop at b ≡ groups m ++ l =
      k.rest ∙ ap all_groups (drop-cons ns n 0 h) ∙ ap (λ (j : ℕ). groups m ++ all_groups (drop j ns)) (sym (add-one n)) in
      (p, ap (λ (x : Bytes). number_in x at) z ∙ f)

  -- a number stands there exactly if bytes do
  pub behind_end : length b ≤ at → n ≡ length ns
  behind_end h = by (ltb n (length ns)) refl
    where
      by : (t : Bool) → ltb n (length ns) ≡ t → n ≡ length ns
      by true e =
          let (p, f) = behind_read (ltb-true _ _ e) in
          absurd (bad_ok (sym (nothing_read at) ∙ ap (λ (x : Bytes). number_in x at) (sym (drop_of_length-le b h)) ∙ f))
      by false e =
          let l : length ns ≤ n = ltb-false _ _ e in
          omega (arith, k.few)

  pub behind_more : at < length b → n < length ns
  unfolding all_groups
  behind_more h = by (ltb n (length ns)) refl
    where
      by : (t : Bool) → ltb n (length ns) ≡ t → n < length ns
      by true e = ltb-true _ _ e
      by false e =
          let z : drop at b ≡ [] = k.rest ∙ ap all_groups (drop_of_length-le ns (ltb-false _ _ e)) in
          absurd (omega (arith, ap length z, length-drop at b))

  pub behind_never : (c p : ℕ) (i : Input) → at < length b → number_at b at ≡ bad c p i → ⊥
  behind_never c p i h e =
      let (q, f) = behind_read (behind_more h) in
      let z : bad c p i ≡ number_in (drop at b) at = rw e at (number_at_lem b at k.inside) in
      bad_ok (z ∙ f)

  module _ (v p : ℕ) (h : at < length b) (e : number_at b at ≡ ok (found v p)) where
    behind_same : (q : ℕ) × (number v (drop p b) p ≡ number (get_or ns n 0) (all_groups (drop (n + 1) ns)) q)
    behind_same =
        let (q, f) = behind_read (behind_more h) in
        let z : ok (number v (drop p b) p) ≡ number_in (drop at b) at = rw e at (number_at_lem b at k.inside) in
        (q, ok_ok (z ∙ f))

    pub behind_value : v ≡ get_or ns n 0
    behind_value = ap (λ (x : Number). x.value) behind_same.1

    pub behind_next : Behind b ns p (n + 1)
    behind_next =
        record { few = omega (arith, behind_more h); inside = (number_inside b at v p e).1; rest = ap (λ (x : Number). x.left) behind_same.1 }

-- Of a file: its numbers are small, and all of them stand behind its start.

module _ (b : Bytes) (o : AreBytes b) where
  pub file_small : (t : Tree) → file_of b ≡ ok t → AllSmall (numbers t)
  file_small t e = numbers_small ((file_of_iff b t o).0 e).1

  pub file_start : (t : Tree) → file_of b ≡ ok t → Behind b (numbers t) 0 0
  unfolding encode
  file_start t e = behind_start b (numbers t) ((file_of_iff b t o).0 e).0

-- The ways out of the listing.

pub lists_error : (ns : Read (List ℕ)) (entry : List ℕ) (e : Error) → ns ≡ refused e → Lists ns entry entry (Err e)
unfolding size_of output_after
lists_error ns entry e h = record { answers = ap size_of (sym h); leaves = ap (λ (q : Read (List ℕ)). output_after q entry) (sym h) }

lists_numbers :
    (r : Read (List ℕ)) (ns entry exit : List ℕ) (n : ℕ) → r ≡ ok ns → n ≡ length ns → exit ≡ put entry 0 ns → Lists r entry exit (Ok n)
unfolding size_of output_after
lists_numbers r ns entry exit n h l e =
    record {
      answers = ap (λ (m : ℕ). ok m) l ∙ ap size_of (sym h);
      leaves = e ∙ ap (λ (q : Read (List ℕ)). output_after q entry) (sym h);
    }

module _ (b : Bytes) (o : AreBytes b) (slots : List ℕ) (l : length slots ≡ table_size) where
  pub listed_refused :
      (capacity : ℕ) (e : Error) → fill_file b slots ≡ refused e → numbers_listed b capacity ≡ bad (code_of e.kind) e.offset input.Schema
  unfolding numbers_listed about
  listed_refused capacity e h = rw (fill_bad b slots o l e h) refl

  module _ (f : Filled) (h : fill_file b slots ≡ ok f) (n : ℕ) (k : CountIs b n) where
    pub listed_room : (capacity : ℕ) → capacity < n → numbers_listed b capacity ≡ bad 16 n input.Table
    unfolding numbers_listed about check
    listed_room capacity m =
        let (t, e) = fill_ok b slots o l f h in
        let z : n ≡ length (numbers t) = k t e in
        rw (e, ← z, lt-leb n capacity m) refl

    pub lists_all :
        (entry exit : List ℕ) → n ≤ length entry → ListIs b entry exit → Lists (numbers_listed b (length entry)) entry exit (Ok n)
    unfolding numbers_listed about check
    lists_all entry exit m q =
        let (t, e) = fill_ok b slots o l f h in
        let z : n ≡ length (numbers t) = k t e in
        let r : numbers_listed b (length entry) ≡ ok (numbers t) = rw (e, le-leb (length (numbers t)) (length entry) (omega arith)) refl in
        lists_numbers (numbers_listed b (length entry)) (numbers t) entry exit n r z (q t e (omega arith))
