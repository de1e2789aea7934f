-- The schema with a child id.
-- Assumes nothing.
use Prim.Native.Nat.{ℕ, zero, suc, ◌+◌, ◌-◌, ◌≤◌, ◌<◌}
use mathlib.Core.Path.{◌≡◌, refl, sym, ap, ◌∙◌}
use mathlib.Core.List.{List, [], ◌∷◌}
use mathlib.Core.Bool.{Bool, true, false, true≢false}
use mathlib.Core.Option.{Option, none, some}
use mathlib.Core.Logic.{◌↔◌}
use native.Mathlib.Omega.{arith}
use lib.ListN.{length, get_or}
use lib.Dec.{eqb}
use borrow.Author.Tests.{eqb-true, eqb-false, eq-eqb, ne_eqb}
use Rattle.wire.specs.Read.{pick}
use Rattle.tree.specs.Tree.{Tree, ids, member, Distinct, WellFormed}
use Rattle.tree.specs.Schemas.{Schema, schema, nested_schemas, schemas_of, schema_count, number_from, child_number}
use Rattle.tree.proofs.Lists.{not_head, distinct_head, distinct_tail}
use Rattle.tree.proofs.SchemaLists.{ids_of, nested_ids}

none_some : {n : ℕ} → ◌≡◌ {A = Option ℕ} none (some n) → ⊥
none_some e = let z : ◌≡◌ {A = ℕ} 0 1 = cc in omega arith

-- what is found has the id
from_found :
    (k : ℕ) (ss : List Schema) (id j : ℕ) → number_from k ss id ≡ some j → (k ≤ j) × (j < k + length ss) × ((get_or ss (j - k) (schema 0 [])).id ≡ id)
unfolding number_from
from_found k [] id j e = absurd (none_some e)
from_found k (s ∷ ss) id j e = by (eqb s.id id) refl e (from_found (k + 1) ss id j)
  where
    by : (t : Bool) → eqb s.id id ≡ t → pick t (some k) (number_from (k + 1) ss id) ≡ some j →
        (number_from (k + 1) ss id ≡ some j → (k + 1 ≤ j) × (j < k + 1 + length ss) × ((get_or ss (j - (k + 1)) (schema 0 [])).id ≡ id)) →
        (k ≤ j) × (j < k + suc (length ss)) × ((get_or (s ∷ ss) (j - k) (schema 0 [])).id ≡ id)
    by true q f ih =
        let z : k ≡ j = cc in
        let y : j - k ≡ 0 = omega arith in
        (omega arith, omega arith, rw y (eqb-true _ _ q))
    by false q f ih =
        let (a, b, c) = ih f in
        let y : j - k ≡ suc (j - (k + 1)) = omega arith in
        (omega arith, omega arith, rw y c)

-- The schema with an id is a nested one and has that id.
pub child_found : (ss : List Schema) (id k : ℕ) → child_number ss id ≡ some k → (1 ≤ k) × (k < length ss) × ((get_or ss k (schema 0 [])).id ≡ id)
unfolding child_number
child_found [] id k e = absurd (none_some e)
child_found (s ∷ ss) id k e =
    let (a, b, c) = from_found 1 ss id k e in
    let y : k ≡ suc (k - 1) = omega arith in
    (a, omega arith, rw y c)

from_missing : (k : ℕ) (ss : List Schema) (id : ℕ) → number_from k ss id ≡ none → member id (ids_of ss) ≡ false
unfolding number_from member
from_missing k [] id e = refl
from_missing k (s ∷ ss) id e = by (eqb s.id id) refl e (from_missing (k + 1) ss id)
  where
    by : (t : Bool) → eqb s.id id ≡ t → pick t (some k) (number_from (k + 1) ss id) ≡ none →
        (number_from (k + 1) ss id ≡ none → member id (ids_of ss) ≡ false) →
        pick (eqb id s.id) true (member id (ids_of ss)) ≡ false
    by true q f ih = absurd (none_some (sym f))
    by false q f ih = rw (ne_eqb id s.id (λ z. eqb-false s.id id q (sym z)), ih f)

missing_from : (k : ℕ) (ss : List Schema) (id : ℕ) → member id (ids_of ss) ≡ false → number_from k ss id ≡ none
unfolding number_from
missing_from k [] id e = refl
missing_from k (s ∷ ss) id e =
    let (a, b) = not_head id s.id (ids_of ss) e in
    rw (ne_eqb s.id id (λ z. eqb-false id s.id a (sym z)), missing_from (k + 1) ss id b)

-- There is none exactly if the file has no such id.
pub child_missing : (t : Tree) (id : ℕ) → child_number (schemas_of t) id ≡ none ↔ (member id (ids t) ≡ false)
unfolding child_number schemas_of
child_missing t id = (
  λ e. ap (member id) (sym (nested_ids t)) ∙ from_missing 1 (nested_schemas t) id e,
  λ e. missing_from 1 (nested_schemas t) id (ap (member id) (nested_ids t) ∙ e),
)

-- where no id stands twice, a schema with the id is the one that is found
member_at : (ss : List Schema) (j : ℕ) → j < length ss → member (get_or ss j (schema 0 [])).id (ids_of ss) ≡ true
unfolding member
member_at [] j h = absurd (omega arith)
member_at (s ∷ ss) zero h = rw (eq-eqb s.id s.id refl)
member_at (s ∷ ss) (suc j) h = by (eqb (get_or ss j (schema 0 [])).id s.id) (member_at ss j (omega arith))
  where
    by : (t : Bool) → member (get_or ss j (schema 0 [])).id (ids_of ss) ≡ true → pick t true (member (get_or ss j (schema 0 [])).id (ids_of ss)) ≡ true
    by true e = refl
    by false e = e

from_only : (k : ℕ) (ss : List Schema) (j : ℕ) → Distinct (ids_of ss) → j < length ss → number_from k ss (get_or ss j (schema 0 [])).id ≡ some (k + j)
unfolding number_from
from_only k [] j d h = absurd (omega arith)
from_only k (s ∷ ss) zero d h =
    let z : k + 0 ≡ k = omega arith in
    rw (eq-eqb s.id s.id refl, z)
from_only k (s ∷ ss) (suc j) d h =
    let id : ℕ = (get_or ss j (schema 0 [])).id in
    let z : k + suc j ≡ k + 1 + j = omega arith in
    let there : member id (ids_of ss) ≡ true = member_at ss j (omega arith) in
    let other : s.id ≡ id → ⊥ = λ e. true≢false (sym there ∙ ap (λ (x : ℕ). member x (ids_of ss)) (sym e) ∙ distinct_head d) in
    rw (ne_eqb s.id id other, from_only (k + 1) ss j (distinct_tail d) (omega arith), z)

-- Of a well-formed file it is the only one: each nested schema is the one with its id.
pub child_only :
    (t : Tree) → WellFormed t → (k : ℕ) → 1 ≤ k → k < schema_count (schemas_of t) →
    child_number (schemas_of t) (get_or (schemas_of t) k (schema 0 [])).id ≡ some k
unfolding child_number schemas_of
child_only t w zero h l = absurd (omega arith)
child_only t w (suc j) h l =
    let d : Distinct (ids_of (nested_schemas t)) = rw (nested_ids t) w.once in
    let z : 1 + j ≡ suc j = omega arith in
    rw z at (from_only 1 (nested_schemas t) j d (omega arith))
