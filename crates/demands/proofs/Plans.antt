-- Demand 3: plans, for every schema, top or nested, of a valid schema file.
-- Assumes nothing.
use Prim.Native.Nat.{ℕ, zero, suc, ◌≤◌, ◌<◌}
use mathlib.Core.List.{List, [], ◌∷◌}
use mathlib.Core.Bool.{Bool, true, false, true≢false}
use mathlib.Core.Path.{◌≡◌, refl, sym, ap, ◌∙◌}
use native.Mathlib.Omega.{arith}
use lib.ListN.{length, get_or}
use lib.Seq.{ext_get_or}
use lib.Dec.{eqb, ltb}
use borrow.Author.Tests.{ltb-true}
use Rattle.wire.specs.declared.error.Input.TheVariants as input
use Rattle.wire.specs.Read.{Bytes, AreBytes, ok, pick, check, about, sized_by, sized}
use Rattle.wire.proofs.Pieces.{ok_ok}
use Rattle.column.specs.declared.column.Column.{Column}
use Rattle.column.specs.Types.{types, kind_in, kind_of}
use Rattle.column.specs.Columns.{is_nullable}
use Rattle.walk.specs.Presence.{no_column}
use Rattle.walk.specs.Rows.{look_up, look_up_row}
use Rattle.tree.specs.Numbers.{third_group, second_group, number_in}
use Rattle.tree.specs.Tree.{member}
use Rattle.tree.specs.Reader.{read_number, read_range, read_fixed, read_variable, read_chapter, read_kind, read_column, read_columns, read_schema, ended, read_file, file_of}
use Rattle.tree.specs.Schemas.{own_columns, nested_schemas, schemas_of, read_schemas, schema_at}
use Rattle.questions.specs.Questions.{with_schema}
use Rattle.plan.specs.declared.plan.Plan.{Plan}
use Rattle.plan.specs.Plans.{plan_of, fixed_place}
use Rattle.plan.specs.Places.{place_of}
use Rattle.plan.proofs.Plans.{same_columns}
use Rattle.plan.proofs.Places.{place_exact}
use Rattle.jump.specs.Jumps.{planned_row}
use Rattle.jump.proofs.Jump.{jump_row}
use Rattle.adtg.specs.Rows.{look_up_in}
use Rattle.adtg.specs.Plans.{columns_of, plan_in}
use Rattle.adtg.proofs.Selected.{asks_columns, columns_kept, columns_flags, plan_columns, columns_plan}
use Rattle.demands.specs.Agreement.{Agree}
use Rattle.demands.specs.Examples.{S, T}

-- For every row and every column number, looking up through the plan that a schema makes gives the whole answer of the walk.
pub plan_route_is_walk :
    (file : Bytes) (number : ℕ) (p : Plan) → AreBytes file → plan_in file number ≡ ok p → (row : Bytes) (k : ℕ) →
    planned_row p row k ≡ look_up_in file number row k
unfolding look_up_in look_up_row
plan_route_is_walk file number p bytes h row k =
    let (cs, e, q) = plan_columns file number p h in
    ap (λ (p : Plan). planned_row p row k) (sym q)
    ∙ jump_row cs row k (columns_kept file number cs bytes e)
    ∙ sym (asks_columns file number cs e (about input.Row (sized row)) (λ columns. look_up columns row k))

-- The place that the plan names without any row is the one that the paper gives the column.
pub plan_names_place :
    (file : Bytes) (number : ℕ) (p : Plan) (cs : List Column) → AreBytes file → columns_of file number ≡ ok cs → plan_in file number ≡ ok p → (k : ℕ) →
    fixed_place p k ≡ place_of cs k
plan_names_place file number p cs bytes e h k =
    let q : p ≡ plan_of cs = ok_ok (sym h ∙ columns_plan file number cs e) in
    ap (λ (p : Plan). fixed_place p k) q ∙ place_exact cs k (columns_kept file number cs bytes e)

column_same : (a b : Column) → a.code ≡ b.code → a.flags ≡ b.flags → a.maximum ≡ b.maximum → a ≡ b
column_same a b e f g =
    ap (λ (x : ℕ). record { code = x; flags = a.flags; maximum = a.maximum }) e
    ∙ ap (λ (x : ℕ). record { code = b.code; flags = x; maximum = a.maximum }) f
    ∙ ap (λ (x : ℕ). record { code = b.code; flags = b.flags; maximum = x }) g

-- flags say no more than nullability
flags_same : (a b : ℕ) → a ≤ 1 → b ≤ 1 → eqb a 1 ≡ eqb b 1 → a ≡ b
flags_same zero zero h l e = refl
flags_same zero (suc zero) h l e = cc
flags_same (suc zero) zero h l e = cc
flags_same (suc zero) (suc zero) h l e = refl
flags_same zero (suc (suc b)) h l e = absurd (omega arith)
flags_same (suc zero) (suc (suc b)) h l e = absurd (omega arith)
flags_same (suc (suc a)) b h l e = absurd (omega arith)

module _ (file other : Bytes) (number second : ℕ) (cs ds : List Column) (bytes : AreBytes file) (others : AreBytes other) where
  module _ (e : columns_of file number ≡ ok cs) (f : columns_of other second ≡ ok ds) where
    agree_same : Agree cs ds → cs ≡ ds
    unfolding is_nullable
    agree_same a =
        ext_get_or no_column cs ds a.count
        (λ i l.
        column_same (get_or cs i no_column) (get_or ds i no_column) (a.type i l)
        (flags_same (get_or cs i no_column).flags (get_or ds i no_column).flags (columns_flags file number cs bytes e i) (columns_flags other second ds others f i) (a.nullable i l))
        (a.maximum i l))

    same_agree : cs ≡ ds → Agree cs ds
    same_agree s =
        record {
          count = ap length s;
          type = λ i l. ap (λ (cs : List Column). (get_or cs i no_column).code) s;
          nullable = λ i l. ap (λ (cs : List Column). is_nullable (get_or cs i no_column)) s;
          maximum = λ i l. ap (λ (cs : List Column). (get_or cs i no_column).maximum) s;
        }

    -- Two schemas, of one file or of two, make equal plans if and only if they agree in column count and, place by place, in type,
    -- nullability and maximum length.
    pub plans_equal_iff_agree :
        (p q : Plan) → plan_in file number ≡ ok p → plan_in other second ≡ ok q → (p ≡ q → Agree cs ds) × (Agree cs ds → p ≡ q)
    plans_equal_iff_agree p q h g =
        let x : p ≡ plan_of cs = ok_ok (sym h ∙ columns_plan file number cs e) in
        let y : q ≡ plan_of ds = ok_ok (sym g ∙ columns_plan other second ds f) in
        (λ s. same_agree (same_columns cs ds (columns_kept file number cs bytes e) (columns_kept other second ds others f) (sym x ∙ s ∙ y)), λ a. x ∙ ap plan_of (agree_same a) ∙ sym y)

-- The premises are met: S and T are bytes, and each of their schemas makes a plan.

unfoldable pub small : Bytes → Bool
small [] = true
small (x ∷ xs) = pick (ltb x 256) (small xs) false

pub small_bytes : (s : Bytes) → small s ≡ true → AreBytes s
unfolding small
small_bytes [] e i = omega arith
small_bytes (x ∷ xs) e i = go (ltb x 256) refl (small_bytes xs) e i
  where
    go : (t : Bool) → ltb x 256 ≡ t → (small xs ≡ true → AreBytes xs) → pick t (small xs) false ≡ true → (i : ℕ) → get_or (x ∷ xs) i 0 < 256
    go true q rest e zero = ltb-true _ _ q
    go true q rest e (suc i) = rest e i
    go false q rest e i = absurd (true≢false (sym e))

pub S-bytes : AreBytes S
unfolding small
S-bytes = small_bytes S refl

pub T-bytes : AreBytes T
unfolding small
T-bytes = small_bytes T refl

abbrev pub column : (code flags maximum : ℕ) → Column
column code flags maximum = record { code = code; flags = flags; maximum = maximum }

pub S-plan : plan_in S 0 ≡ ok (plan_of (column 0x03 0 0 ∷ column 0x82 1 10 ∷ column 0x11 1 0 ∷ []))
unfolding plan_in with_schema schema_at check about sized sized_by types kind_in kind_of third_group second_group number_in member read_number read_range read_fixed read_variable read_chapter read_kind read_column read_columns read_schema ended read_file file_of own_columns nested_schemas schemas_of read_schemas
S-plan = refl

pub T-plans : (plan_in T 0 ≡ ok (plan_of (column 0x03 0 0 ∷ column 0x88 0 0 ∷ []))) × (plan_in T 1 ≡ ok (plan_of (column 0x11 0 0 ∷ [])))
unfolding plan_in with_schema schema_at check about sized sized_by types kind_in kind_of third_group second_group number_in member read_number read_range read_fixed read_variable read_chapter read_kind read_column read_columns read_schema ended read_file file_of own_columns nested_schemas schemas_of read_schemas
T-plans = (refl, refl)
