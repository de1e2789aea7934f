-- One number more, and one zero less.
-- Assumes nothing.
use Rattle.std.proofs.Common.{ℕ, ◌≡◌, ◌+◌, ◌-◌, ◌<◌, zero, suc, List, [], ◌∷◌, ◌++◌, length, get_or, take, refl, sym, ap, ◌∙◌, arith, add-one}
use lib.ListN.{set, replicate}
use lib.Seq.{take_all}
use Rattle.answers.proofs.answer.tell.Goals as goal

fill : (l : List ℕ) (i m : ℕ) → i < length l → set (take i l ++ replicate (suc m) 0) i (get_or l i 0) ≡ take (suc i) l ++ replicate m 0
fill [] i m h = absurd (omega arith)
fill (a ∷ l) zero m h = refl
fill (a ∷ l) (suc i) m h = ap (λ (r : List ℕ). a ∷ r) (fill l i m (omega arith))

pub loop-i-preserved : goal.loop-i-preserved
loop-i-preserved c =
    let v : List ℕ = c.args.values.now in
    let i : ℕ = c.loop-i.i in
    let l : c.loop-i.i < length c.args.values.now = omega arith in
    let z : 16 - c.loop-i.i ≡ suc (16 - (c.loop-i.i + 1)) = omega arith in
    ap (λ (n : List ℕ). set n i (get_or v i 0)) (c.loop-i.invariant ∙ ap (λ (m : ℕ). take i v ++ replicate m 0) z)
    ∙ fill v i (16 - (i + 1)) l
    ∙ ap (λ (k : ℕ). take k v ++ replicate (16 - (i + 1)) 0) (sym (add-one i))

pub returns : goal.returns
returns c h =
    let e : c.loop-i.i ≡ length c.args.values.now = omega (arith, h) in
    c.loop-i.invariant
    ∙ ap (λ (k : ℕ). take k c.args.values.now ++ replicate (16 - k) 0) e
    ∙ ap (λ (l : List ℕ). l ++ replicate (16 - length c.args.values.now) 0) (take_all (length c.args.values.now) c.args.values.now (omega arith))
