-- The ids of the schemas, one after the other.
-- Assumes nothing.
use Prim.Native.Nat.{ℕ, ◌-◌}
use mathlib.Core.Path.{refl, ◌∙◌}
use lib.ListN.{get_or}
use borrow.Author.Rules.{rules}
use lib.Dec.{eqb}
use Rattle.std.proofs.lemmas.Iterator.{YieldsList-from_range}
use Rattle.std.proofs.lemmas.Iterator.Search.{any_from_yields_List}
use Rattle.tree.specs.Table.{id_in, schema_slot}
use Rattle.schema.proofs.Reading.{seen_any}
use Rattle.schema.proofs.reader.is_seen.Goals as goal

pub returns : goal.returns
returns c =
    any_from_yields_List (λ (i : ℕ). eqb c.args.id (id_in (get_or c.args.table.now (schema_slot i) 0))) _ _ c.any.result c.any.ensures.ran
    (YieldsList-from_range 1 c.args.schemas (c.args.schemas - 1) refl refl)
    (λ x b q k. search rules)
    ∙ seen_any c.args.table.now c.args.id c.args.schemas
