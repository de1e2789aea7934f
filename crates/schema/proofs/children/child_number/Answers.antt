-- The schemas, one after the other.
-- Assumes nothing.
use Prim.Native.Nat.{ℕ, ◌-◌}
use mathlib.Core.Path.{refl}
use native.Mathlib.Omega.{arith}
use lib.ListN.{get_or}
use lib.Dec.{eqb}
use borrow.Author.Rules.{rules}
use Rattle.std.proofs.lemmas.Iterator.{YieldsList-from_range}
use Rattle.std.proofs.lemmas.Iterator.Search.{find_from_yields_List}
use Rattle.tree.specs.Table.{id_in, schema_slot}
use Rattle.schema.proofs.Finding.{found_child}
use Rattle.schema.proofs.children.child_number.Goals as goal

pub returns-then-schemas-gt-MOST_FILE_COLUMNS : goal.returns-then-schemas-gt-MOST_FILE_COLUMNS
returns-then-schemas-gt-MOST_FILE_COLUMNS c = λ a b. absurd (omega (arith, c.if-schemas-gt-MOST_FILE_COLUMNS.true, b))

pub returns : goal.returns
returns c = λ a b.
    found_child c.args.table.now c.args.id c.args.schemas a c.find.result
    (find_from_yields_List (λ (k : ℕ). eqb (id_in (get_or c.args.table.now (schema_slot k) 0)) c.args.id) _ _ c.find.result c.find.ensures.ran
    (YieldsList-from_range 1 c.args.schemas (c.args.schemas - 1) refl refl)
    (λ x b q k. search rules))
