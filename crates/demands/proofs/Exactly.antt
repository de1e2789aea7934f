-- Laws of exact refusals: how the checks of a call follow from those of its parts.
-- Assumes nothing.
use Prim.Native.Nat.{ℕ, ◌+◌, ◌≤◌, ◌<◌}
use mathlib.Core.Path.{◌≡◌, refl, sym, ◌∙◌}
use mathlib.Core.List.{List, [], ◌∷◌}
use mathlib.Core.Logic.{◌↔◌}
use mathlib.Core.Bool.{Bool, true, false, true≢false}
use native.Mathlib.Omega.{arith}
use lib.ListN.{length}
use lib.Dec.{leb, ltb}
use borrow.Author.Tests.{leb-true, leb-false, lt-leb, ltb-false, le-ltb}
use Rattle.wire.specs.declared.error.Input.{Input}
use Rattle.wire.specs.declared.error.Input.TheVariants as input
use Rattle.wire.specs.Read.{Bytes, Read, ok, bad, ◌>>=◌, check, about, limit, sized_by, sized, whole}
use Rattle.wire.specs.Output.{fitting}
use Rattle.wire.proofs.Pieces.{bad_ok}
use Rattle.grammar.proofs.RowErrors.{OfError, no_error, an_error, of_told}
use Rattle.demands.specs.Checks.{Refusals, Silent, Never, Nothing, ◌then◌, first, second, Where, so, Exactly, Refuses, Faults, Of, of, Lent, lent, Sizes, over, within, Short, short, Missing, missing, NoRoom, no_room}

-- an error of another type of answer
pub same_error : {A B : Type 0} {a b c d : ℕ} {i j : Input} → ◌≡◌ {A = Read A} (bad a b i) (bad c d j) → ◌≡◌ {A = Read B} (bad a b i) (bad c d j)
same_error {a = a} {b = b} {c = c} {d = d} {i = i} {j = j} e =
    let x : a ≡ c = cc in
    let y : b ≡ d = cc in
    let z : i ≡ j = cc in
    cc

-- what an error is, of which something holds
pub moved_error : {A : Type 0} (P : Refusals) {a b c d : ℕ} {i j : Input} → ◌≡◌ {A = Read A} (bad a b i) (bad c d j) → P a b i → P c d j
moved_error P {a} {b} {c} {d} {i} {j} e h =
    let x : a ≡ c = cc in
    let y : b ≡ d = cc in
    let z : i ≡ j = cc in
    rw (← x, ← y, ← z) h

-- An answer refuses nothing.
pub exactly_ok : {A : Type 0} (a : A) → Exactly (ok a) Nothing
exactly_ok a code offset name = ((λ e. absurd (bad_ok (sym e))), (λ h. absurd h))

-- an answer of a part says that its checks refuse nothing
pub ok_silent : {A : Type 0} {P : Refusals} {r : Read A} (a : A) → Exactly r P → r ≡ ok a → Silent P
ok_silent a h e code offset name p = bad_ok (sym ((h code offset name).1 p) ∙ e)

-- One part after the other: their checks in this order.
pub exactly_then :
    {A B : Type 0} {P Q : Refusals} (r : Read A) (f : A → Read B) → Exactly r P → ((a : A) → r ≡ ok a → Exactly (f a) Q) → Exactly (r >>= f) (P then Q)
exactly_then {P = P} {Q = Q} (ok a) f h k code offset name = (
  (λ e. second (ok_silent a h refl) ((k a refl code offset name).0 e)),
  (λ g. by g),
)
  where
    by : (P then Q) code offset name → f a ≡ bad code offset name
    by (first p) = absurd (bad_ok (sym ((h code offset name).1 p)))
    by (second s q) = (k a refl code offset name).1 q
exactly_then {A} {B} {P = P} {Q = Q} (bad c o i) f h k code offset name = (
  (λ e. first (moved_error P e ((h c o i).0 refl))),
  (λ g. by g),
)
  where
    by : (P then Q) code offset name → ◌≡◌ {A = Read B} (bad c o i) (bad code offset name)
    by (first p) = same_error ((h code offset name).1 p)
    by (second s q) = absurd (s c o i ((h c o i).0 refl))

-- what follows always answers, where the first does
pub exactly_answered :
    {A B : Type 0} {P : Refusals} (r : Read A) (f : A → Read B) → Exactly r P → ((a : A) → r ≡ ok a → (b : B) × (f a ≡ ok b)) → Exactly (r >>= f) P
exactly_answered (ok a) f h k code offset name =
    let (b, x) = k a refl in
    ((λ e. absurd (bad_ok (sym e ∙ x))), (λ p. absurd (bad_ok (sym ((h code offset name).1 p)))))
exactly_answered (bad c o i) f h k code offset name = ((λ e. (h code offset name).0 (same_error e)), (λ p. same_error ((h code offset name).1 p)))

pub exactly_last : {A B : Type 0} {P : Refusals} (r : Read A) (f : A → B) → Exactly r P → Exactly (r >>= λ a. ok (f a)) P
exactly_last r f h = exactly_answered r (λ a. ok (f a)) h (λ a _. (f a, refl))

-- an answer made of another is refused as that one
pub exactly_before : {A B : Type 0} {P : Refusals} (r : Read A) (f : A → B) → Exactly (r >>= λ a. ok (f a)) P → Exactly r P
exactly_before (ok a) f h code offset name = ((λ e. absurd (bad_ok (sym e))), (λ p. absurd (bad_ok (sym ((h code offset name).1 p)))))
exactly_before (bad c o i) f h code offset name = ((λ e. (h code offset name).0 (same_error e)), (λ p. same_error ((h code offset name).1 p)))

-- the same checks in other words
pub exactly_alike : {A : Type 0} {P Q : Refusals} {r : Read A} → Exactly r P → ((code offset : ℕ) (name : Input) → P code offset name ↔ Q code offset name) → Exactly r Q
exactly_alike h k code offset name = ((λ e. (k code offset name).0 ((h code offset name).0 e)), (λ q. (h code offset name).1 ((k code offset name).1 q)))

-- checks in groups are checks one after the other
pub then_grouped : {P Q R : Refusals} (code offset : ℕ) (name : Input) → ((P then Q) then R) code offset name ↔ (P then (Q then R)) code offset name
then_grouped {P} {Q} {R} code offset name = ((λ h. there h), (λ h. back h))
  where
    there : ((P then Q) then R) code offset name → (P then (Q then R)) code offset name
    there (first (first p)) = first p
    there (first (second s q)) = second s (first q)
    there (second s r) =
        let quiet : Silent P = λ c o i p. s c o i (first p) in
        second quiet (second (λ c o i q. s c o i (second quiet q)) r)

    none : Silent P → Silent Q → {c o : ℕ} {i : Input} → (P then Q) c o i → ⊥
    none s t (first p) = s _ _ _ p
    none s t (second _ q) = t _ _ _ q

    back : (P then (Q then R)) code offset name → ((P then Q) then R) code offset name
    back (first p) = first (first p)
    back (second s (first q)) = first (second s q)
    back (second s (second t r)) = second (λ c o i z. none s t z) r

-- the later checks in other words
pub then_alike :
    {P Q R : Refusals} → ((code offset : ℕ) (name : Input) → Q code offset name ↔ R code offset name) → (code offset : ℕ) (name : Input) →
    (P then Q) code offset name ↔ (P then R) code offset name
then_alike {P} {Q} {R} h code offset name = ((λ p. there p), (λ p. back p))
  where
    there : {code offset : ℕ} {name : Input} → (P then Q) code offset name → (P then R) code offset name
    there (first p) = first p
    there (second s q) = second s ((h _ _ _).0 q)

    back : {code offset : ℕ} {name : Input} → (P then R) code offset name → (P then Q) code offset name
    back (first p) = first p
    back (second s q) = second s ((h _ _ _).1 q)

-- where the first refuse nothing they are no checks
pub exactly_within : {A : Type 0} {P Q : Refusals} {r : Read A} → Exactly r (P then Q) → Silent P → Exactly r Q
exactly_within {P = P} {Q = Q} h quiet = exactly_alike h (λ c o i. ((λ p. by p), second quiet))
  where
    by : {c o : ℕ} {i : Input} → (P then Q) c o i → Q c o i
    by (first p) = absurd (quiet _ _ _ p)
    by (second _ q) = q

-- Errors of one input.

-- a fault of a single input
pub single_fault : {A : Type 0} {F : Faults} {r : Read A} {code offset : ℕ} {name : Input} → Exactly r (Of input.Single F) → r ≡ bad code offset name → F code offset × (name ≡ input.Single)
single_fault {F = F} {code = code} {offset = offset} {name = name} h e = by ((h code offset name).0 e)
  where
    by : {name : Input} → Of input.Single F code offset name → F code offset × (name ≡ input.Single)
    by (of p) = (p, refl)

-- both ways: each error is such a fault, and each such fault is the error
pub exactly_ways :
    {A : Type 0} {F : Faults} {r : Read A} → ((code offset : ℕ) (name : Input) → r ≡ bad code offset name → F code offset × (name ≡ input.Single)) →
    ((code offset : ℕ) → F code offset → r ≡ bad code offset input.Single) → Exactly r (Of input.Single F)
exactly_ways {F = F} {r = r} there back code offset name = ((λ e. given (there code offset name e)), (λ p. by p))
  where
    given : F code offset × (name ≡ input.Single) → Of input.Single F code offset name
    given (p, z) = rw z (of p)

    by : {name : Input} → Of input.Single F code offset name → r ≡ bad code offset name
    by (of p) = back code offset p

pub exactly_of : {A : Type 0} {F : Faults} {r : Read A} → OfError F r → ((code offset : ℕ) → F code offset → r ≡ bad code offset input.Single) → Exactly r (Of input.Single F)
exactly_of h k = exactly_ways (λ _ _ _ e. of_told h e) k

-- the first way alone
pub of_exactly : {A : Type 0} {F : Faults} (r : Read A) → Exactly r (Of input.Single F) → OfError F r
of_exactly (ok a) h = no_error
of_exactly (bad code offset name) h = let (p, z) = single_fault h refl in rw z (an_error p)

-- the name of a single input changes nothing
pub alone : {A : Type 0} {F : Faults} {P : Refusals} {r : Read A} → OfError F r → Exactly (about input.Single r) P → Exactly r P
unfolding about
alone no_error h = h
alone (an_error _) h = h

-- what comes first has only errors of the whole
pub of_first : {A B : Type 0} {F : Faults} (r : Read A) (f : A → Read B) → OfError F (r >>= f) → OfError F r
of_first (ok a) f h = no_error
of_first (bad c o i) f h = let (p, z) = of_told h refl in rw z (an_error p)

-- by another name it is the same fault
pub exactly_about : {A : Type 0} {F : Faults} (name : Input) (r : Read A) → Exactly r (Of input.Single F) → Exactly (about name r) (Of name F)
unfolding about
exactly_about {F = F} name (ok a) h code offset i = ((λ e. absurd (bad_ok (sym e))), (λ p. absurd (by p)))
  where
    by : {i : Input} → Of name F code offset i → ⊥
    by (of p) = bad_ok (sym ((h code offset input.Single).1 (of p)))
exactly_about {A} {F} name (bad c o j) h code offset i = (
  (λ e. moved_error (Of name F) e (of (single_fault h refl).0)),
  (λ p. by p),
)
  where
    by : {i : Input} → Of name F code offset i → ◌≡◌ {A = Read A} (bad c o name) (bad code offset i)
    by (of p) =
        let e : ◌≡◌ {A = Read A} (bad c o j) (bad code offset input.Single) = (h code offset input.Single).1 (of p) in
        let x : c ≡ code = cc in
        let y : o ≡ offset = cc in
        cc

-- a name is given to each part
pub about_bind : {A B : Type 0} (name : Input) (r : Read A) (f : A → Read B) → about name (r >>= f) ≡ about name r >>= (λ (a : A). about name (f a))
unfolding about
about_bind name (ok a) f = refl
about_bind name (bad c o i) f = refl

pub about_then :
    {A B : Type 0} {P Q : Refusals} (name : Input) (r : Read A) (f : A → Read B) → Exactly (about name r) P → ((a : A) → r ≡ ok a → Exactly (about name (f a)) Q) →
    Exactly (about name (r >>= f)) (P then Q)
unfolding about
about_then name (ok a) f h k = exactly_then (ok a) (λ a. about name (f a)) h k
about_then name (bad c o i) f h k = exactly_then (bad c o name) (λ a. about name (f a)) h (λ a e. absurd (bad_ok e))

-- the last part always answers
pub about_last : {A B : Type 0} {P : Refusals} (name : Input) (r : Read A) (f : A → B) → Exactly (about name r) P → Exactly (about name (r >>= λ a. ok (f a))) P
unfolding about
about_last name (ok a) f h = exactly_last (ok a) f h
about_last name (bad c o i) f h = exactly_last (bad c o name) f h

-- checks that are made only where a test holds
pub exactly_where : {A : Type 0} {P : Refusals} {r : Read A} → Exactly r P → Exactly r (Where true P)
exactly_where {P = P} h = exactly_alike h (λ code offset name. (so refl, (λ p. by p)))
  where
    by : {code offset : ℕ} {name : Input} → Where true P code offset name → P code offset name
    by (so _ p) = p

pub exactly_where_not : {A : Type 0} {P : Refusals} (a : A) → Exactly (ok a) (Where false P)
exactly_where_not {P = P} a = exactly_alike (exactly_ok a) (λ code offset name. ((λ e. absurd e), (λ p. by p)))
  where
    by : {code offset : ℕ} {name : Input} → Where false P code offset name → ⊥
    by (so t _) = true≢false (sym t)

-- One check: it refuses exactly where its test fails, and then with this code at this offset.
pub exactly_check :
    {F : Faults} (t : Bool) (code offset : ℕ) → (t ≡ false → F code offset) → ((c o : ℕ) → F c o → (t ≡ false) × (c ≡ code) × (o ≡ offset)) →
    Exactly (check t code offset) (Of input.Single F)
unfolding check
exactly_check {F} true code offset given told c o i = ((λ e. absurd (bad_ok (sym e))), (λ p. absurd (by p)))
  where
    by : {i : Input} → Of input.Single F c o i → ⊥
    by (of p) = true≢false (told c o p).0
exactly_check {F} false code offset given told c o i = ((λ e. moved_error (Of input.Single F) e (of (given refl))), (λ p. by p))
  where
    by : {i : Input} → Of input.Single F c o i → ◌≡◌ {A = Read (Unit {0})} (bad code offset input.Single) (bad c o i)
    by (of p) =
        let (_, x, y) = told c o p in
        let z : code ≡ c = sym x in
        let w : offset ≡ o = sym y in
        cc

-- 1: bytes that are there or not
pub exactly_whole : (s : Bytes) (at n : ℕ) → Exactly (whole s at n) (Of input.Single (Short s at n))
unfolding whole
exactly_whole s at n = exactly_last _ (λ (u : Unit {0}). at + n) (exactly_check (leb (at + n) (length s)) 1 (length s) (λ t. short (leb-false _ _ t)) told)
  where
    told : (c o : ℕ) → Short s at n c o → (leb (at + n) (length s) ≡ false) × (c ≡ 1) × (o ≡ length s)
    told c o (short h) = (lt-leb _ _ h, refl, refl)

-- 18: a number that there is or not
pub exactly_missing : (count number : ℕ) → Exactly (check (ltb number count) 18 0) (Of input.Single (Missing count number))
exactly_missing count number = exactly_check (ltb number count) 18 0 (λ t. missing (ltb-false _ _ t)) told
  where
    told : (c o : ℕ) → Missing count number c o → (ltb number count ≡ false) × (c ≡ 18) × (o ≡ 0)
    told c o (missing h) = (le-ltb _ _ h, refl, refl)

-- 16: room for what is needed or not
pub exactly_room : (needed room : ℕ) → Exactly (check (leb needed room) 16 needed) (Of input.Single (NoRoom needed room))
exactly_room needed room = exactly_check (leb needed room) 16 needed (λ t. no_room (leb-false _ _ t)) told
  where
    told : (c o : ℕ) → NoRoom needed room c o → (leb needed room ≡ false) × (c ≡ 16) × (o ≡ needed)
    told c o (no_room h) = (lt-leb _ _ h, refl, refl)

-- a piece that is to be written
pub exactly_fitting : (piece : Bytes) (capacity : ℕ) → Exactly (fitting piece capacity) (Of input.Output (NoRoom (length piece) capacity))
unfolding fitting
exactly_fitting piece capacity = exactly_last _ (λ (u : Unit {0}). piece) (exactly_about input.Output _ (exactly_room (length piece) capacity))

-- 19: sizes.

-- the size of one input, before those of others
pub exactly_size_of :
    {A : Type 0} {l : List Lent} {Q : Refusals} (x : Lent) (rest : Read A) → (x.size ≤ limit → Exactly rest (Sizes l then Q)) →
    Exactly (about x.name (sized_by x.size) >>= λ _. rest) (Sizes (x ∷ l) then Q)
unfolding sized_by check about
exactly_size_of {A} {l} {Q} x rest h = go (leb x.size limit) refl
  where
    skip : x.size ≤ limit → {code offset : ℕ} {i : Input} → (Sizes l then Q) code offset i → (Sizes (x ∷ l) then Q) code offset i
    skip w (first p) = first (within w p)
    skip w (second q p) = second (λ c o i z. quiet w q z) p
      where
        quiet : x.size ≤ limit → Silent (Sizes l) → {c o : ℕ} {i : Input} → Sizes (x ∷ l) c o i → ⊥
        quiet w q (over z) = omega arith
        quiet w q (within z p) = q _ _ _ p

    back : x.size ≤ limit → {code offset : ℕ} {i : Input} → (Sizes (x ∷ l) then Q) code offset i → (Sizes l then Q) code offset i
    back w (first (over z)) = absurd (omega arith)
    back w (first (within z p)) = first p
    back w (second q p) = second (λ c o i z. q c o i (within w z)) p

    only : limit < x.size → {code offset : ℕ} {i : Input} → (Sizes (x ∷ l) then Q) code offset i → ◌≡◌ {A = Read A} (bad 19 0 x.name) (bad code offset i)
    only w (first (over z)) = refl
    only w (first (within z p)) = absurd (omega arith)
    only w (second q p) = absurd (q 19 0 x.name (over w))

    go : (t : Bool) → leb x.size limit ≡ t → Exactly (about x.name (check t 19 0) >>= λ _. rest) (Sizes (x ∷ l) then Q)
    go true t code offset i =
        let w : x.size ≤ limit = leb-true _ _ t in
        ((λ e. skip w ((h w code offset i).0 e)), (λ p. (h w code offset i).1 (back w p)))
    go false t code offset i =
        let w : limit < x.size = leb-false _ _ t in
        ((λ e. moved_error (Sizes (x ∷ l) then Q) e (first (over w))), (λ p. only w p))

pub exactly_size :
    {A : Type 0} {l : List Lent} {Q : Refusals} (name : Input) (s : Bytes) (rest : Read A) → (length s ≤ limit → Exactly rest (Sizes l then Q)) →
    Exactly (about name (sized s) >>= λ _. rest) (Sizes (lent name s ∷ l) then Q)
unfolding sized
exactly_size name s rest h = exactly_size_of (lent name s) rest h

-- no more sizes
pub exactly_sized : {A : Type 0} {Q : Refusals} {r : Read A} → Exactly r Q → Exactly r (Sizes [] then Q)
exactly_sized {Q = Q} h = exactly_alike h (λ c o i. ((λ q. second (λ c o i z. none z) q), (λ p. by p)))
  where
    empty : {l : List Lent} {c o : ℕ} {i : Input} → Sizes l c o i → l ≡ [] → ⊥
    empty (over h) e = let z : ◌≡◌ {A = ℕ} 0 1 = cc in omega arith
    empty (within h p) e = let z : ◌≡◌ {A = ℕ} 0 1 = cc in omega arith

    none : {c o : ℕ} {i : Input} → Sizes [] c o i → ⊥
    none z = empty z refl

    by : {c o : ℕ} {i : Input} → (Sizes [] then Q) c o i → Q c o i
    by (first z) = absurd (none z)
    by (second q p) = p

-- Where nothing behind the sizes gives 19 once these pass, a call answers 19 exactly when an input is over the limit.
pub over_iff_within :
    {A : Type 0} {l : List Lent} {Q : Refusals} {r : Read A} → Exactly r (Sizes l then Q) → (Silent (Sizes l) → Never 19 Q) → (offset : ℕ) (name : Input) →
    r ≡ bad 19 offset name ↔ Sizes l 19 offset name
over_iff_within {l = l} {Q = Q} h never offset name = ((λ e. by ((h 19 offset name).0 e)), (λ p. (h 19 offset name).1 (first p)))
  where
    by : (Sizes l then Q) 19 offset name → Sizes l 19 offset name
    by (first p) = p
    by (second s q) = absurd (never s offset name q)

pub over_iff :
    {A : Type 0} {l : List Lent} {Q : Refusals} {r : Read A} → Exactly r (Sizes l then Q) → Never 19 Q → (offset : ℕ) (name : Input) →
    r ≡ bad 19 offset name ↔ Sizes l 19 offset name
over_iff h never = over_iff_within h (λ _. never)

-- Codes that are never given.

pub never_then : {n : ℕ} {P Q : Refusals} → Never n P → Never n Q → Never n (P then Q)
never_then {n} {P} {Q} p q offset name h = by h
  where
    by : {offset : ℕ} {name : Input} → (P then Q) n offset name → ⊥
    by (first x) = p _ _ x
    by (second s x) = q _ _ x

pub never_of : {n : ℕ} {name : Input} {F : Faults} → ((offset : ℕ) → F n offset → ⊥) → Never n (Of name F)
never_of {n} {name} {F} h offset i p = by p
  where
    by : {offset : ℕ} {i : Input} → Of name F n offset i → ⊥
    by (of x) = h _ x

pub never_where : {n : ℕ} {test : Bool} {P : Refusals} → Never n P → Never n (Where test P)
never_where {n} {test} {P} h offset name p = by p
  where
    by : {offset : ℕ} {name : Input} → Where test P n offset name → ⊥
    by (so _ p) = h _ _ p

-- the codes of single checks
pub short_codes : {s : Bytes} {at size code offset : ℕ} → Short s at size code offset → code ≡ 1
short_codes (short _) = refl

pub missing_codes : {count number code offset : ℕ} → Missing count number code offset → code ≡ 18
missing_codes (missing _) = refl

pub room_codes : {needed room code offset : ℕ} → NoRoom needed room code offset → code ≡ 16
room_codes (no_room _) = refl

pub never_short : {n : ℕ} {name : Input} {s : Bytes} {at size : ℕ} → (n ≡ 1 → ⊥) → Never n (Of name (Short s at size))
never_short h = never_of (λ _ f. h (short_codes f))

pub never_missing : {n : ℕ} {name : Input} {count number : ℕ} → (n ≡ 18 → ⊥) → Never n (Of name (Missing count number))
never_missing h = never_of (λ _ f. h (missing_codes f))

pub never_room : {n : ℕ} {name : Input} {needed room : ℕ} → (n ≡ 16 → ⊥) → Never n (Of name (NoRoom needed room))
never_room h = never_of (λ _ f. h (room_codes f))

-- A call refuses exactly so, where nothing behind the sizes gives 19.
pub refuses_within : {A : Type 0} {l : List Lent} {Q : Refusals} {r : Read A} → Exactly r (Sizes l then Q) → (Silent (Sizes l) → Never 19 Q) → Refuses r l Q
refuses_within h never = record { exactly = h; over_limit = over_iff_within h never }

pub refuses : {A : Type 0} {l : List Lent} {Q : Refusals} {r : Read A} → Exactly r (Sizes l then Q) → Never 19 Q → Refuses r l Q
refuses h never = refuses_within h (λ _. never)
