-- The schema that a child id names, found among the numbers of the schemas.
-- Assumes nothing.
use Rattle.std.specs.Prelude.{Option, Some, option_map}
use Prim.Native.Nat.{ℕ, zero, suc, ◌+◌, ◌-◌, ◌≤◌}
use mathlib.Core.Path.{◌≡◌, refl, sym, ap, ◌∙◌}
use mathlib.Core.Bool.{Bool, true, false, cond}
use mathlib.Core.List.{List}
use lib.Dec.{eqb}
use lib.ListN.{get_or}
use Rattle.std.proofs.lemmas.Iterator.Adapters.{option_map_id}
use Rattle.std.specs.List.{find, range_with_len}
use Rattle.wire.specs.Read.{pick}
use Rattle.tree.specs.Schemas.{number_from, child_number}
use Rattle.tree.specs.Table.{schema_slot, id_in, schema_in, schemas_in}
use Rattle.tree.proofs.Laws.{child_all}
use Rattle.schema.specs.Children.{told_child}
use mathlib.Core.Option as found

module _ (table : List ℕ) (id : ℕ) where
  one_found : (t : Bool) (k : ℕ) (x : Option ℕ) {y : found.Option ℕ} → told_child x ≡ y → told_child (cond t (Some k) x) ≡ pick t (found.some k) y
  one_found true k x e = refl
  one_found false k x e = e

  found_from : (n i : ℕ) → told_child (find (λ (k : ℕ). eqb (id_in (get_or table (schema_slot k) 0)) id) (range_with_len i n)) ≡ number_from i (schemas_in i n table) id
  unfolding number_from schemas_in schema_in
  found_from zero i = refl
  found_from (suc n) i = one_found (eqb (id_in (get_or table (schema_slot i) 0)) id) i _ (found_from n (i + 1))

  pub found_child : (schemas : ℕ) → 1 ≤ schemas → (r : Option ℕ) →
      option_map (λ (k : ℕ). k) r ≡ find (λ (k : ℕ). eqb (id_in (get_or table (schema_slot k) 0)) id) (range_with_len 1 (schemas - 1)) →
      told_child r ≡ child_number (schemas_in 0 schemas table) id
  found_child schemas h r e = ap told_child (sym (option_map_id r) ∙ e) ∙ found_from (schemas - 1) 1 ∙ sym (child_all schemas id table h)
