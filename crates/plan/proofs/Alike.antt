-- Plans are compared.
-- Assumes nothing.
use Prim.Native.Nat.{ℕ, ◌+◌, ◌≤◌, ◌<◌}
use mathlib.Core.List.{List}
use mathlib.Core.Bool.{Bool, true, false, true≢false}
use mathlib.Core.Path.{◌≡◌, refl, sym, ap, ◌∙◌}
use native.Mathlib.Omega.{arith}
use borrow.Author.Count.{below_none, below_more}
use borrow.Author.Tests.{eqb-true, eq-eqb}
use denote.Laws.{Is}
use denote.Struct.Declared.{row}
use mir.Val.{Val}
use lib.Bits.{bit_or, bit_xor, and_le_l, and_le_r, or_add_and, xor_add_and, xor_self}
use lib.Dec.{eqb}
use lib.ListN.{length, get_or}
use lib.Seq.{ext_get_or}
use Rattle.wire.specs.declared.error.Input.TheVariants as input
use Rattle.wire.specs.Read.{ok, bad}
use Rattle.wire.proofs.Pieces.{bad_ok}
use Rattle.column.specs.declared.column.Column.{Column}
use Rattle.plan.specs.declared.plan.Plan.{Plan}
use Rattle.plan.specs.Plans.{plan_of}
use Rattle.plan.specs.Compare.{Compared, Tells}
use Rattle.plan.proofs.Packed.{laid_long}
use Rattle.plan.specs.contracts.plan.Plan.{the_type}

-- bits that differ nowhere
or_none_lem : (a b : ℕ) → bit_or a b ≡ 0 → (a ≡ 0) × (b ≡ 0)
or_none_lem a b e = (omega (arith, e, or_add_and a b, and_le_l a b, and_le_r a b), omega (arith, e, or_add_and a b, and_le_l a b, and_le_r a b))

xor_none : (a b : ℕ) → bit_xor a b ≡ 0 → a ≡ b
xor_none a b e = omega (arith, e, xor_add_and a b, and_le_l a b, and_le_r a b)

-- What was gathered of the first i numbers of two plans is 0 where they are the same.
pub record Gathered (a b : List ℕ) (d i : ℕ) : Type 0 where
  pub below : i ≤ 131
  pub none : d ≡ 0 → (k : ℕ) → k < i → get_or a k 0 ≡ get_or b k 0
  pub equal : a ≡ b → d ≡ 0

module _ (a b : List ℕ) where
  -- none is compared yet
  pub gather_start : Gathered a b 0 0
  gather_start = record { below = omega arith; none = λ _. below_none (λ (k : ℕ). get_or a k 0 ≡ get_or b k 0); equal = λ _. refl }

  -- one more
  pub gather_next : {d i : ℕ} → Gathered a b d i → i < 131 → Gathered a b (bit_or d (bit_xor (get_or a i 0) (get_or b i 0))) (i + 1)
  gather_next {d} {i} g l =
      record {
        below = omega arith;
        none = λ e.
            let (x, y) = or_none_lem d (bit_xor (get_or a i 0) (get_or b i 0)) e in
            below_more (λ (k : ℕ). get_or a k 0 ≡ get_or b k 0) i (g.none x) (xor_none (get_or a i 0) (get_or b i 0) y);
        equal = λ e.
            let x : bit_xor (get_or a i 0) (get_or b i 0) ≡ 0 = ap (λ (l : List ℕ). bit_xor (get_or a i 0) (get_or l i 0)) (sym e) ∙ xor_self (get_or a i 0) in
            rw (g.equal e, x) refl;
      }

  -- all
  pub gather_end : {d i : ℕ} → Gathered a b d i → 131 ≤ i → Tells (eqb d 0) a b
  gather_end {d} {i} g l = record { same = λ e k h. g.none (eqb-true d 0 e) k (omega (arith, h, l)); equal = λ e. eq-eqb d 0 (g.equal e) }

-- a plan by value has so many numbers
plan_long : (p : Plan) (vs : List Val) → Is (row the_type) p vs → length p.numbers ≡ 131
plan_long p vs g = g.1.1.0.1.0.1

made_long : (cs : List Column) → length (plan_of cs).numbers ≡ 131
unfolding plan_of
made_long cs = laid_long _ _ _ _ _

-- The answer of a comparison with the plan that was made of the columns.
module _ (p made : Plan) (vs : List Val) (v : Is (row the_type) p vs) (cs : List Column) (r : Bool) (h : Tells r p.numbers made.numbers) (m : made ≡ plan_of cs) where
  -- they are the same
  pub compared_same : r ≡ true → Compared p cs (ok tt)
  compared_same e =
      let n : length p.numbers ≡ length made.numbers = plan_long p vs v ∙ sym (ap (λ (q : Plan). length q.numbers) m ∙ made_long cs) in
      let l : p.numbers ≡ made.numbers = ext_get_or 0 p.numbers made.numbers n (λ k g. h.same e k (omega (arith, g, plan_long p vs v))) in
      let q : p ≡ plan_of cs = ap (λ (l : List ℕ). record { numbers = l }) l ∙ m in
      record { accepts = λ _. q; equal = λ _. refl; refuses = λ n. absurd (n q) }

  -- they differ
  pub compared_not : r ≡ false → Compared p cs (bad 17 0 input.Plan)
  compared_not e =
      let n : p ≡ plan_of cs → ⊥ = λ q. true≢false (sym (h.equal (ap (λ (x : Plan). x.numbers) (q ∙ sym m))) ∙ e) in
      record { accepts = λ q. absurd (bad_ok q); equal = λ q. absurd (n q); refuses = λ _. refl }
