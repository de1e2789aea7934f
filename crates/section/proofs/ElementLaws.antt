-- Elements by the quick way, and by their heads and columns.
-- Assumes nothing.
use Rattle.std.specs.Prelude.{Result, Ok, Err, Some, is_ok}
use Prim.Native.Nat.{ℕ, ◌+◌, ◌<◌, ◌≤◌}
use mathlib.Core.Path.{◌≡◌, refl, sym, ap, ◌∙◌}
use mathlib.Core.List.{List, []}
use mathlib.Core.Bool.{Bool, true}
use native.Mathlib.Omega.{arith}
use lib.ListN.{length, get_or}
use lib.Dec.{eqb}
use Rattle.wire.specs.declared.error.Error.{Error}
use Rattle.wire.specs.Read.{Bytes, Read, ok, refused, told}
use Rattle.column.specs.declared.column.Column.{Column}
use Rattle.walk.specs.Data.{data_end}
use Rattle.tree.specs.Schemas.{Schema}
use Rattle.tree.specs.Table.{schemas_in}
use Rattle.shapes.specs.Shapes.{slot_columns}
use Rattle.grammar.specs.Grammar.{Before, columns_at}
use Rattle.section.specs.declared.heads.RowKind.{RowKind}
use Rattle.section.specs.declared.heads.RowKind.TheVariants as kind
use Rattle.section.specs.declared.elements.Said.{Said}
use Rattle.section.specs.Heads.{delete_head, data_head, head_at, before_in, paired_id, kind_number}
use Rattle.section.specs.Ends.{QuickEnd}
use Rattle.section.specs.Said.{SaidIn}
use Rattle.section.specs.Elements.{ElementAt, data_element, delete_element, ElementIn, ElementRefused, by_data, DeletedAt}
use Rattle.section.proofs.HeadLaws.{head_delete, delete_read}
use Rattle.section.proofs.RowsByHead.{HeadTold, told_delete, told_parent, told_child, told_change, head_told}
use Rattle.section.proofs.Scanning.{columns_at_lem, child_slot}

-- row data that were said, up to an end that was said
pub element_said : (slots shapes : List ℕ) (n : ℕ) (s : Bytes) (b : Before) (at : ℕ) (r : Said) (update : Bool) (e : ℕ) →
    SaidIn slots n s b at r → update ≡ eqb (kind_number r.kind) 3 → QuickEnd shapes r.number update s r.start (Some e) →
    ElementIn slots shapes n s b at (record { kind = r.kind; number = r.number; end = e })
element_said slots shapes n s b at r update e h z q =
    record {
      number = h.number;
      says = λ sound shaped.
          data_element (h.says sound).head
          (ap (λ (cs : List Column). data_end (eqb (kind_number r.kind) 3) cs s r.start) (columns_at_lem slots n r.number h.number)
          ∙ ap (λ (u : Bool). data_end u (slot_columns slots r.number) s r.start) (sym z)
          ∙ q (slot_columns slots r.number) (shaped r.number h.number));
    }

-- an 8C
delete_inside : {S : List Schema} {s : Bytes} {before : Before} {at id : ℕ} → HeadTold S s before at (delete_head id) → at + 5 ≤ length s
delete_inside (told_delete i b c l) = l

pub deleted_at : {slots : List ℕ} {s : Bytes} {child at id : ℕ} → at < length s → get_or s at 0 ≡ 0x8C → paired_id s (before_in slots child) at ≡ ok id → DeletedAt slots s child at
deleted_at {slots} {s} {child} {at} {id} l t p = record { id = id; head = here; inside = delete_inside (head_told [] s (before_in slots child) at (delete_head id) (here [])) }
  where
    here : (S : List Schema) → head_at S s (before_in slots child) at ≡ ok (delete_head id)
    here S = head_delete S s (before_in slots child) at l t ∙ delete_read [] s (before_in slots child) at p

pub deleted_by : (slots : List ℕ) (s : Bytes) (child at : ℕ) (r : Result ℕ Error) → at < length s → get_or s at 0 ≡ 0x8C → told r ≡ paired_id s (before_in slots child) at → is_ok r ≡ true →
    DeletedAt slots s child at
deleted_by slots s child at (Ok id) l t p h = deleted_at l t (sym p)
deleted_by slots s child at (Err e) l t p h = let z : ◌≡◌ {A = ℕ} 0 1 = cc in absurd (omega arith)

pub element_deleted : (slots shapes : List ℕ) (n : ℕ) (s : Bytes) (child at : ℕ) → child < n → DeletedAt slots s child at →
    ElementIn slots shapes n s (before_in slots child) at (record { kind = kind.Delete; number = child; end = at + 5 })
element_deleted slots shapes n s child at l d = record { number = l; says = λ sound shaped. delete_element (d.head (schemas_in 0 n slots)) refl }

-- the number of a head's schema is one of the schemas
pub data_number : (slots : List ℕ) (n : ℕ) (s : Bytes) (b : Before) (at : ℕ) {kind number id start : ℕ} → 1 ≤ n → head_at (schemas_in 0 n slots) s b at ≡ ok (data_head kind number id start) → number < n
data_number slots n s b at one h = by (head_told (schemas_in 0 n slots) s b at _ h)
  where
    by : {kind number id start : ℕ} → HeadTold (schemas_in 0 n slots) s b at (data_head kind number id start) → number < n
    by (told_parent i l) = omega (arith, one)
    by (told_child {k = k} {id = id} i c j z l) = (child_slot slots n id k c).1
    by (told_change {k = k} {id = id} i d c j z l) = (child_slot slots n id k c).1

-- By the columns in the slots, where row data end or why not.
module _ (slots : List ℕ) (n : ℕ) (s : Bytes) (b : Before) (at : ℕ) (k : RowKind) (number id start : ℕ) (l : number < n)
    (h : head_at (schemas_in 0 n slots) s b at ≡ ok (data_head (kind_number k) number id start)) where
  there : {update : Bool} → update ≡ eqb (kind_number k) 3 → {r : Read ℕ} → data_end update (slot_columns slots number) s start ≡ r →
      data_end (eqb (kind_number k) 3) (columns_at (schemas_in 0 n slots) number) s start ≡ r
  there {update} z q =
      ap (λ (cs : List Column). data_end (eqb (kind_number k) 3) cs s start) (columns_at_lem slots n number l)
      ∙ ap (λ (u : Bool). data_end u (slot_columns slots number) s start) (sym z)
      ∙ q

  pub element_read : (update : Bool) (e : ℕ) → update ≡ eqb (kind_number k) 3 → data_end update (slot_columns slots number) s start ≡ ok e →
      ElementAt (schemas_in 0 n slots) s b at (kind_number k) number e
  element_read update e z q = data_element h (there z q)

  pub element_short : (update : Bool) (e : Error) → update ≡ eqb (kind_number k) 3 → data_end update (slot_columns slots number) s start ≡ refused e →
      ElementRefused (schemas_in 0 n slots) s b at e
  element_short update e z q = by_data h (there z q)
