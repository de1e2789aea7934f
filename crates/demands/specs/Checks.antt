-- Promise: demand 1: which refusals a call gives, exactly. A call makes its checks one after the other, and the first that refuses is its
-- answer. Each check says in the words of document 01's table when it refuses, with which code (the paper's number), at which offset (its
-- place) and of which input.
-- Assumes nothing.
use Rattle.std.specs.Prelude.{ℕ, ◌+◌, ◌*◌, ◌≤◌, ◌<◌, ◌≡◌, List, ◌∷◌, Bool, true, ◌↔◌, length}
use Rattle.wire.specs.declared.error.Input.{Input}
use Rattle.wire.specs.Read.{Bytes, Read, bad, limit}

-- what checks refuse: code, offset, input
abbrev pub Refusals : Type 1
Refusals = (code offset : ℕ) → Input → Type 0

-- they refuse nothing
abbrev pub Silent : Refusals → Type 0
Silent P = (code offset : ℕ) (name : Input) → P code offset name → ⊥

-- they never give this code
abbrev pub Never : ℕ → Refusals → Type 0
Never code P = (offset : ℕ) (name : Input) → P code offset name → ⊥

-- no check at all
abbrev pub Nothing : Refusals
Nothing code offset name = ⊥

infixr 20 ◌then◌
-- One after the other: what the first refuse; where they refuse nothing, what the second do.
pub data ◌then◌ (P Q : Refusals) : (code offset : ℕ) → Input → Type 0 where
  first : {code offset : ℕ} {name : Input} → P code offset name → (P then Q) code offset name
  second : {code offset : ℕ} {name : Input} → Silent P → Q code offset name → (P then Q) code offset name

-- checks that are made only where a test holds
pub data Where (test : Bool) (P : Refusals) : (code offset : ℕ) → Input → Type 0 where
  so : {code offset : ℕ} {name : Input} → test ≡ true → P code offset name → Where test P code offset name

-- A call answers a refusal exactly when its checks give it.
abbrev pub Exactly : {A : Type 0} → Read A → Refusals → Type 0
Exactly r P = (code offset : ℕ) (name : Input) → r ≡ bad code offset name ↔ P code offset name

-- what is wrong with one input: code, offset
abbrev pub Faults : Type 1
Faults = (code offset : ℕ) → Type 0

-- a refusal of an input by the name that it has in the call
pub data Of (name : Input) (F : Faults) : (code offset : ℕ) → Input → Type 0 where
  of : {code offset : ℕ} → F code offset → Of name F code offset name

-- an input that a call is given, by that name, and its size in bytes
pub record Lent : Type 0 where
  pub name : Input
  pub size : ℕ

abbrev pub lent : Input → Bytes → Lent
lent name bytes = record { name = name; size = length bytes }

-- numbers of 32 bits
abbrev pub lent_numbers : Input → List ℕ → Lent
lent_numbers name numbers = record { name = name; size = 4 * length numbers }

-- 19: an input over the limit, at 0. All sizes are looked at first, in this order.
pub data Sizes : List Lent → (code offset : ℕ) → Input → Type 0 where
  over : {x : Lent} {l : List Lent} → limit < x.size → Sizes (x ∷ l) 19 0 x.name
  within : {x : Lent} {l : List Lent} {code offset : ℕ} {name : Input} → x.size ≤ limit → Sizes l code offset name → Sizes (x ∷ l) code offset name

-- 1: the input ends inside so many bytes from `at` on; at its length
pub data Short (bytes : Bytes) (at size : ℕ) : (code offset : ℕ) → Type 0 where
  short : length bytes < at + size → Short bytes at size 1 (length bytes)

-- 18: there are so many, and no such number; at 0
pub data Missing (count number : ℕ) : (code offset : ℕ) → Type 0 where
  missing : count ≤ number → Missing count number 18 0

-- 16: the room is too small; the offset is what is needed
pub data NoRoom (needed room : ℕ) : (code offset : ℕ) → Type 0 where
  no_room : room < needed → NoRoom needed room 16 needed

-- What a call refuses: exactly what its checks give, the sizes of these inputs first; and 19 exactly when one of them is over the limit.
pub record Refuses {A : Type 0} (call : Read A) (inputs : List Lent) (checks : Refusals) : Type 0 where
  pub exactly : Exactly call (Sizes inputs then checks)
  pub over_limit : (offset : ℕ) (name : Input) → call ≡ bad 19 offset name ↔ Sizes inputs 19 offset name
