-- Which state a record is, by its stage.
-- Assumes nothing.
use Prim.Native.Nat.{ℕ, ◌+◌, ◌-◌, ◌≤◌, ◌<◌}
use mathlib.Core.List.{[]}
use mathlib.Core.Path.{◌≡◌, refl, ap, ◌∙◌}
use native.Mathlib.Omega.{arith}
use lib.ListN.{take}
use borrow.Author.Tests.{eq-eqb, ne_eqb, le-leb, lt-leb, eqb-false, leb-false}
use Rattle.grammar.specs.Grammar.{Before, other, after}
use Rattle.feeding.specs.Machine.{Kind, parent_row, child_row, change_row, child_id, change_id, delete_id, maps, prefix, State, between, keep, skip, finished, is_update, adds, behind, stopped}
use Rattle.incremental.specs.declared.record.Reader.{Reader}
use Rattle.incremental.specs.Record.{before_by, paired_of, paired_id, kind_by, kind_of, id_of, kind_in, held_in, map_in, stage_in, state_in}
use Rattle.incremental.specs.Steps.{place_in, Sane, Stands}
use mathlib.Core.Bool.{Bool, true, false}
use lib.Dec.{leb, eqb}
use Rattle.wire.specs.declared.error.Input.{Input}
use Rattle.wire.specs.declared.error.Input.TheVariants as input
use Rattle.wire.specs.Read.{pick}

-- The state.
module _ (r : Reader) where
  pub state_between : r.stage ≡ 0 → state_in r ≡ between r.rows r.at (before_by r.paired r.id)
  unfolding state_in
  state_between e = rw (eq-eqb _ _ e)

  pub state_piece : 1 ≤ r.stage → r.stage ≤ 5 → state_in r ≡ keep r.rows r.at (held_in r) r.more (stage_in r)
  unfolding state_in
  state_piece l h = let n : r.stage ≡ 0 → ⊥ = λ e. omega arith in rw (ne_eqb _ _ n, le-leb _ _ h)

  pub state_body : r.stage ≡ 6 → state_in r ≡ skip r.rows r.at r.more (kind_in r) (map_in r) r.column
  unfolding state_in
  state_body e =
      let n : r.stage ≡ 0 → ⊥ = λ f. omega arith in
      let l : 5 < r.stage = omega arith in
      rw (ne_eqb _ _ n, lt-leb _ _ l, eq-eqb _ _ e)

  pub state_finished : r.stage ≡ 7 → state_in r ≡ finished r.rows r.at
  unfolding state_in
  state_finished e =
      let n : r.stage ≡ 0 → ⊥ = λ f. omega arith in
      let l : 5 < r.stage = omega arith in
      let m : r.stage ≡ 6 → ⊥ = λ f. omega arith in
      rw (ne_eqb _ _ n, lt-leb _ _ l, ne_eqb _ _ m, eq-eqb _ _ e)

  pub state_stopped : 8 ≤ r.stage → state_in r ≡ stopped r.code r.at input.Single
  unfolding state_in
  state_stopped h =
      let n : r.stage ≡ 0 → ⊥ = λ f. omega arith in
      let l : 5 < r.stage = omega arith in
      let m : r.stage ≡ 6 → ⊥ = λ f. omega arith in
      let o : r.stage ≡ 7 → ⊥ = λ f. omega arith in
      rw (ne_eqb _ _ n, lt-leb _ _ l, ne_eqb _ _ m, ne_eqb _ _ o)

  -- The place.
  pub place_between : r.stage ≡ 0 → place_in r ≡ r.at
  place_between e = rw (eq-eqb _ _ e)

  pub place_piece : 1 ≤ r.stage → r.stage ≤ 5 → place_in r ≡ r.at + r.filled
  place_piece l h =
      let n : r.stage ≡ 0 → ⊥ = λ e. omega arith in
      let m : r.stage < 6 = omega arith in
      rw (ne_eqb _ _ n, lt-leb _ _ m)

  pub place_late : 6 ≤ r.stage → place_in r ≡ r.at
  place_late h = let n : r.stage ≡ 0 → ⊥ = λ e. omega arith in rw (ne_eqb _ _ n, le-leb _ _ h)

  -- What a kept piece is.
  pub stage_child : r.stage ≡ 1 → stage_in r ≡ child_id (r.at - 1)
  unfolding stage_in
  stage_child e = rw (eq-eqb _ _ e)

  pub stage_change : r.stage ≡ 2 → stage_in r ≡ change_id (before_by r.paired r.id) (r.at - 1)
  unfolding stage_in
  stage_change e = let n : r.stage ≡ 1 → ⊥ = λ f. omega arith in rw (ne_eqb _ _ n, eq-eqb _ _ e)

  pub stage_delete : r.stage ≡ 3 → stage_in r ≡ delete_id (before_by r.paired r.id) (r.at - 1)
  unfolding stage_in
  stage_delete e =
      let n : r.stage ≡ 1 → ⊥ = λ f. omega arith in
      let m : r.stage ≡ 2 → ⊥ = λ f. omega arith in
      rw (ne_eqb _ _ n, ne_eqb _ _ m, eq-eqb _ _ e)

  pub stage_maps : r.stage ≡ 4 → stage_in r ≡ maps (kind_in r)
  unfolding stage_in
  stage_maps e =
      let n : r.stage ≡ 1 → ⊥ = λ f. omega arith in
      let m : r.stage ≡ 2 → ⊥ = λ f. omega arith in
      let o : r.stage ≡ 3 → ⊥ = λ f. omega arith in
      rw (ne_eqb _ _ n, ne_eqb _ _ m, ne_eqb _ _ o, eq-eqb _ _ e)

  pub stage_prefix : r.stage ≡ 5 → stage_in r ≡ prefix (kind_in r) (map_in r) r.column
  unfolding stage_in
  stage_prefix e =
      let n : r.stage ≡ 1 → ⊥ = λ f. omega arith in
      let m : r.stage ≡ 2 → ⊥ = λ f. omega arith in
      let o : r.stage ≡ 3 → ⊥ = λ f. omega arith in
      let p : r.stage ≡ 4 → ⊥ = λ f. omega arith in
      rw (ne_eqb _ _ n, ne_eqb _ _ m, ne_eqb _ _ o, ne_eqb _ _ p)

  -- Records of a state that has come to a place.
  module _ (mapped : r.mapped ≤ 16) (column : r.column ≤ 64) (rows : r.rows ≤ r.at) where
    pub sane_between : r.stage ≡ 0 → Sane r r.at
    sane_between e =
        record {
          stage = omega arith;
          rows = rows;
          comes = place_between e;
          mapped = mapped;
          column = column;
          token = λ l _. absurd (omega arith);
          below = λ l _. absurd (omega arith);
          kept = λ l _. absurd (omega arith);
        }

    pub sane_late : 6 ≤ r.stage → r.stage ≤ 7 → Sane r r.at
    sane_late l h =
        record {
          stage = h;
          rows = rows;
          comes = place_late l;
          mapped = mapped;
          column = column;
          token = λ _ m. absurd (omega arith);
          below = λ _ m. absurd (omega arith);
          kept = λ _ m. absurd (omega arith);
        }

    pub sane_piece : 1 ≤ r.stage → r.stage ≤ 5 → 1 ≤ r.at → r.column < 64 → r.filled + r.more ≤ 15 → Sane r (r.at + r.filled)
    sane_piece l h a b f =
        record {
          stage = omega arith;
          rows = rows;
          comes = place_piece l h;
          mapped = mapped;
          column = column;
          token = λ _ _. a;
          below = λ _ _. b;
          kept = λ _ _. f;
        }

-- The parts of a record that were written.
pub before_back : (before : Before) → before_by (paired_of before) (paired_id before) ≡ before
before_back other = refl
before_back (after id) = refl

pub kind_back : (k : Kind) → kind_by (kind_of k) (id_of k) ≡ k
kind_back parent_row = refl
kind_back (child_row id) = refl
kind_back (change_row id) = refl

-- The kind of row data in progress, by its number.
pub kind_change : (kind id : ℕ) → kind ≡ 3 → kind_by kind id ≡ change_row id
kind_change kind id e = rw (eq-eqb _ _ e)

pub kind_child : (kind id : ℕ) → kind ≡ 2 → kind_by kind id ≡ child_row id
kind_child kind id e = let n : kind ≡ 3 → ⊥ = λ f. omega arith in rw (ne_eqb _ _ n, eq-eqb _ _ e)

pub kind_parent : (kind id : ℕ) → (kind ≡ 3 → ⊥) → (kind ≡ 2 → ⊥) → kind_by kind id ≡ parent_row
kind_parent kind id n m = rw (ne_eqb _ _ n, ne_eqb _ _ m)

pub kind_update : (kind id : ℕ) → is_update (kind_by kind id) ≡ eqb kind 3
kind_update kind id = go (eqb kind 3) (eqb kind 2)
  where
    go : (t v : Bool) → is_update (pick t (change_row id) (pick v (child_row id) parent_row)) ≡ t
    go true v = refl
    go false true = refl
    go false false = refl

-- Stands, with the place and the state as they are asked for.
pub stands : {r : Reader} {st : State} {to from : ℕ} → state_in r ≡ st → Sane r from → from ≡ to → Stands st to r
stands {r} {st} {to} {from} e s f = record { state = e; sane = rw (← f) s }

-- Between elements.
pub between_stands :
    (r : Reader) → r.stage ≡ 0 → r.mapped ≡ 0 → r.column ≡ 0 → r.rows ≤ r.at → Stands (between r.rows r.at (before_by r.paired r.id)) r.at r
between_stands r e m c h = stands (state_between r e) (sane_between r (omega arith) (omega arith) h e) refl

-- Row data that have ended.
pub row_ended :
    (kind id rows at : ℕ) (r : Reader) → r.stage ≡ 0 → r.at ≡ at → rows < at → r.mapped ≡ 0 → r.column ≡ 0 →
    r.rows ≡ rows + adds (kind_by kind id) → before_by r.paired r.id ≡ behind (kind_by kind id) → r.rows ≤ at →
    Stands (between (rows + adds (kind_by kind id)) at (behind (kind_by kind id))) at r
row_ended kind id rows at r e a l m c n b s =
    stands (state_between r e ∙ rw (a, n, b)) (sane_between r (omega arith) (omega arith) (omega arith) e) a

-- The length in front of a field comes next.
pub prefix_stands :
    (r : Reader) (at : ℕ) → r.stage ≡ 5 → r.at ≡ at → r.filled ≡ 0 → r.mapped ≤ 16 → r.column < 64 → r.rows ≤ at → 1 ≤ at → r.more ≤ 15 →
    Stands (keep r.rows at [] r.more (prefix (kind_in r) (map_in r) r.column)) at r
prefix_stands r at e a f m c n l k =
    stands
    (state_piece r (omega arith) (omega arith)
    ∙ ap (keep r.rows r.at (held_in r) r.more) (stage_prefix r e)
    ∙ ap (λ (x : ℕ). keep r.rows x (held_in r) r.more (prefix (kind_in r) (map_in r) r.column)) a
    ∙ ap (λ (x : ℕ). keep r.rows at (take x r.held) r.more (prefix (kind_in r) (map_in r) r.column)) f)
    (sane_piece r m (omega arith) (omega arith) (omega arith) (omega arith) (omega arith) c (omega arith)) (omega arith)

-- The bytes of a field come next.
pub body_stands :
    (r : Reader) (at more column : ℕ) → r.stage ≡ 6 → r.at ≡ at → r.more ≡ more → r.column ≡ column → r.mapped ≤ 16 → column ≤ 64 → r.rows ≤ at →
    Stands (skip r.rows at more (kind_in r) (map_in r) column) at r
body_stands r at more column e a w c m l n =
    stands (state_body r e ∙ rw (a, w, c)) (sane_late r m (omega arith) (omega arith) (omega arith) (omega arith)) a

-- A record of a state is none of a refusal.
not_stopped : (r : Reader) {c o : ℕ} {i : Input} → r.stage ≤ 7 → state_in r ≡ stopped c o i → ⊥
unfolding state_in
not_stopped r {c} {o} {i} h e = go (eqb r.stage 0) (leb r.stage 5) (eqb r.stage 6) (eqb r.stage 7) refl refl refl e
  where
    go :
        (s t u v : Bool) → leb r.stage 5 ≡ t → eqb r.stage 6 ≡ u → eqb r.stage 7 ≡ v →
        pick s (between r.rows r.at (before_by r.paired r.id))
        (pick t (keep r.rows r.at (held_in r) r.more (stage_in r))
        (pick u (skip r.rows r.at r.more (kind_in r) (map_in r) r.column)
        (pick v (finished r.rows r.at) (stopped r.code r.at input.Single))))
        ≡ stopped c o i →
        ⊥
    go true t u v p q w e = let z : ◌≡◌ {A = ℕ} 0 1 = cc in omega arith
    go false true u v p q w e = let z : ◌≡◌ {A = ℕ} 0 1 = cc in omega arith
    go false false true v p q w e = let z : ◌≡◌ {A = ℕ} 0 1 = cc in omega arith
    go false false false true p q w e = let z : ◌≡◌ {A = ℕ} 0 1 = cc in omega arith
    go false false false false p q w e =
        let a : 5 < r.stage = leb-false _ _ p in
        let b : r.stage ≡ 6 → ⊥ = eqb-false _ _ q in
        let d : r.stage ≡ 7 → ⊥ = eqb-false _ _ w in
        omega arith
