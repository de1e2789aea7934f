-- What the numbers of a column, read by offsets, tell: they end inside the input, and are in their ranges.
-- Assumes nothing.
use Prim.Native.Nat.{ℕ, ◌≤◌, ◌<◌}
use mathlib.Core.Path.{◌≡◌, refl, ap, ◌∙◌}
use native.Mathlib.Omega.{arith}
use lib.ListN.{length}
use lib.Dec.{leb}
use borrow.Author.Tests.{leb-true}
use Rattle.wire.specs.Read.{Bytes, AreBytes, Read, ok, bad, ◌>>=◌, check}
use Rattle.wire.proofs.Pieces.{ok_ok, bind_ok, check_ok}
use Rattle.column.specs.declared.types.Kind.{Kind}
use Rattle.column.specs.declared.types.Kind.TheVariants.{Fixed, Variable, Wide, Chapter, Unknown}
use Rattle.column.specs.Types.{kind_of, variable_kind}
use Rattle.tree.specs.Numbers.{number_limit, Found, found, number_at}
use Rattle.tree.specs.Tree.{most_flags, most_maximum}
use Rattle.tree.specs.Filling.{range_at}
use Rattle.entry.specs.Heads.{Head, field_head, id_head, fixed_head, variable_head, chapter_head, head_by, head_at}
use Rattle.tree.proofs.Lists.{fixed_code, variable_code, chapter_code_lem}
use Rattle.tree.proofs.Offsets.{number_inside, number_small}

-- no code over a byte is known
pub unknown_code : (code : ℕ) → 255 < code → kind_of code ≡ Unknown
unknown_code code h = by (kind_of code) refl
  where
    by : (k : Kind) → kind_of code ≡ k → k ≡ Unknown
    by (Fixed w) e = absurd (omega (arith, fixed_code w code e))
    by Variable e = absurd (omega (arith, variable_code code (ap variable_kind e)))
    by Wide e = absurd (omega (arith, variable_code code (ap variable_kind e)))
    by Chapter e = absurd (omega (arith, chapter_code_lem code e))
    by Unknown e = refl

-- What a range tells.

pub record InRange (low high : ℕ) (b : Bytes) (at n p : ℕ) : Type 0 where
  pub number : number_at b at ≡ ok (found n p)
  pub least : low ≤ n
  pub most : n ≤ high
  pub after : at < p
  pub inside : p ≤ length b

pub range_inside : (low high : ℕ) (b : Bytes) (at : ℕ) {n p : ℕ} → range_at low high b at ≡ ok (found n p) → InRange low high b at n p
unfolding range_at
range_inside low high b at {n} {p} e =
    let (m, e₁, e₂) = bind_ok (number_at b at) _ (found n p) e in
    let (u, e₃, e₄) = bind_ok (check (leb low m.value) 6 at) _ (found n p) e₂ in
    let (v, e₅, e₆) = bind_ok (check (leb m.value high) 6 at) _ (found n p) e₄ in
    let z : m ≡ found n p = ok_ok e₆ in
    let k : m.value ≡ n = ap (λ (x : Found). x.value) z in
    let e : number_at b at ≡ ok (found n p) = e₁ ∙ e₆ in
    let (a, i) = number_inside b at n p e in
    record {
      number = e;
      least = omega (arith, leb-true low m.value (check_ok _ _ _ u e₃));
      most = omega (arith, leb-true m.value high (check_ok _ _ _ v e₅));
      after = a;
      inside = i;
    }

-- What the numbers of a column tell of themselves: they end inside the input, and are in their ranges.

abbrev pub end_of : Head → ℕ
end_of (field_head code flags maximum p) = p
end_of (id_head flags id q p) = p

abbrev pub Small : Head → Type 0
Small (field_head code flags maximum p) = (code < 256) × (flags ≤ most_flags) × (maximum ≤ most_maximum)
Small (id_head flags id q p) = (flags ≤ most_flags) × (id < number_limit)

module _ (b : Bytes) (at : ℕ) where
  -- told of the answer, where there is one
  abbrev Told : Read Head → Type 0
  Told (ok x) = (at < end_of x) × (end_of x ≤ length b) × (AreBytes b → Small x)
  Told (bad c o i) = Unit {0}

  told_on : {A : Type 0} (r : Read A) (g : A → Read Head) → ((a : A) → r ≡ ok a → Told (g a)) → Told (r >>= g)
  told_on (ok a) g h = h a refl
  told_on (bad c o i) g h = tt

  fixed_told : (code p : ℕ) → at < p → code < 256 → Told (fixed_head b code p)
  unfolding fixed_head
  fixed_told code p h k =
      told_on (range_at 0 most_flags b p) _
      (λ n e.
      let r = range_inside 0 most_flags b p e in
      (omega arith, r.inside, λ o. (k, r.most, omega arith)))

  variable_told : (code p : ℕ) → at < p → code < 256 → Told (variable_head b code p)
  unfolding variable_head
  variable_told code p h k =
      told_on (range_at 0 most_flags b p) _
      (λ n e. told_on (range_at 1 most_maximum b n.at) _
      (λ m f.
      let r = range_inside 0 most_flags b p e in
      let q = range_inside 1 most_maximum b n.at f in
      (omega arith, q.inside, λ o. (k, r.most, q.most))))

  chapter_told : (p : ℕ) → at < p → Told (chapter_head b p)
  unfolding chapter_head
  chapter_told p h =
      told_on (range_at 0 most_flags b p) _
      (λ n e. told_on (number_at b n.at) _
      (λ m f.
      let r = range_inside 0 most_flags b p e in
      let (a, i) = number_inside b n.at m.value m.at f in
      (omega arith, i, λ o. (r.most, number_small b n.at m.value m.at o r.inside f))))

  kind_told : (k : Kind) (code p : ℕ) → at < p → kind_of code ≡ k → Told (head_by k b code at p)
  unfolding head_by
  kind_told (Fixed w) code p h e = fixed_told code p h (fixed_code w code e)
  kind_told Variable code p h e = variable_told code p h (variable_code code (ap variable_kind e))
  kind_told Wide code p h e = variable_told code p h (variable_code code (ap variable_kind e))
  kind_told Chapter code p h e = chapter_told p h
  kind_told Unknown code p h e = tt

  head_told : Told (head_at b at)
  unfolding head_at
  head_told = told_on (number_at b at) _ (λ n e. kind_told (kind_of n.value) n.value n.at (number_inside b at n.value n.at e).0 refl)

  module _ {x : Head} (e : head_at b at ≡ ok x) where
    told_of : Told (ok x)
    told_of = rw e at head_told

    pub head_inside : (at < end_of x) × (end_of x ≤ length b)
    head_inside = (told_of.0, told_of.1)

    pub head_small : AreBytes b → Small x
    head_small = told_of.2
