-- Clocks, and the times that entries record.
use Rattle.std.proofs.Common.{◌≡◌, ◌≤◌, ℕ, List, [], ◌∷◌, ◌++◌, All, Option, Some, None, get_or, refl, sym, ◌∙◌, ap, arith, append_assoc, append-nil, ◌⊎◌, inl, inr}
use Rattle.std.proofs.lemmas.List.Elements.{All-nil, All-cons, All-append}
use Rattle.std.specs.Prelude.{IfSome}
use Rattle.std.proofs.Math.Logic.{∥∥₁_elim}
use Rattle.std.proofs.Math.Nat.{ℕ_set}
use Rattle.outside.specs.Makes.{GoesNotBack}
use Rattle.world_rules.specs.declared.entry.Entry.{Entry}
use Rattle.world_rules.specs.declared.entry.Side.{Side}
use Rattle.world_rules.specs.declared.entry.Side.TheVariants as SideIs
use Rattle.host_calls.specs.Outsides.{IsTimeOf}
use Rattle.lunatic_cli.specs.Times.{times_of, time_of, time_beside, AreBetween}

pub not-back-refl : (clock : Option ℕ) → GoesNotBack clock clock
not-back-refl None = refl
not-back-refl (Some time) = omega arith

pub not-back-then : (a b c : Option ℕ) → GoesNotBack a b → GoesNotBack b c → GoesNotBack a c
not-back-then None None c one two = two
not-back-then None (Some x) c one two = absurd (let e : Some x ≡ None = one in cc)
not-back-then (Some t) None c one two = absurd one
not-back-then (Some t) (Some x) None one two = absurd two
not-back-then (Some t) (Some x) (Some y) one two = omega arith

pub times-append : (es more : List Entry) → times_of (es ++ more) ≡ times_of es ++ times_of more
times-append [] more = refl
times-append (e ∷ es) more = ap (λ (ts : List ℕ). time_of e ++ ts) (times-append es more) ∙ sym (append_assoc (time_of e) (times_of es) (times_of more))

pub between-none : (before after : Option ℕ) → AreBetween before after []
between-none None after = tt
between-none (Some from) None = tt
between-none (Some from) (Some to) = All-nil (λ time. (from ≤ time) × (time ≤ to))

all-within : (early from to late : ℕ) (ts : List ℕ) → early ≤ from → to ≤ late → All (λ time. (from ≤ time) × (time ≤ to)) ts → All (λ time. (early ≤ time) × (time ≤ late)) ts
all-within early from to late ts sooner later h k d below =
    let x = h k d below in
    let low : from ≤ get_or ts k d = x.0 in
    let high : get_or ts k d ≤ to = x.1 in
    (omega arith, omega arith)

-- times of an earlier and a later span
pub between-both : (a b c : Option ℕ) (xs ys : List ℕ) → GoesNotBack a b → GoesNotBack b c → AreBetween a b xs → AreBetween b c ys → AreBetween a c (xs ++ ys)
between-both None b c xs ys one two first second = tt
between-both (Some from) None c xs ys one two first second = absurd one
between-both (Some from) (Some mid) None xs ys one two first second = absurd two
between-both (Some from) (Some mid) (Some to) xs ys one two first second =
    All-append (λ time. (from ≤ time) × (time ≤ to)) xs ys
    (all-within from from mid to xs (omega arith) two first) (all-within from mid to to ys one (omega arith) second)

-- the time that is recorded with a Give is the turn's

is-told : (clock : Option ℕ) (side : Side) (now time : ℕ) → clock ≡ Some time → IsTimeOf clock side →
    (SideIs.Clock now ≡ side) ⊎ ((side ≡ SideIs.Nothing) × (SideIs.Clock now ≡ SideIs.NoMemory)) → now ≡ time
is-told clock side now time told is (inr e) = absurd (let x = e.1 in cc)
is-told clock side now time told is (inl e) = rw (told, ← e) at is

-- what was recorded with a Give lies between, where the clock went on from the process's taking
pub between-given : (before clock after : Option ℕ) (side recorded : Side) → GoesNotBack before clock → GoesNotBack clock after → IsTimeOf clock side →
    ∥ (recorded ≡ side) ⊎ ((side ≡ SideIs.Nothing) × (recorded ≡ SideIs.NoMemory)) ∥₁ → AreBetween before after (time_beside recorded)
between-given before clock after side SideIs.Nothing later goes is from = between-none before after
between-given before clock after side SideIs.NoMemory later goes is from = between-none before after
between-given before clock after side SideIs.Pending later goes is from = between-none before after
between-given before clock after side (SideIs.Answer reply) later goes is from = between-none before after
between-given before clock after side SideIs.Opened later goes is from = between-none before after
between-given None clock after side (SideIs.Clock now) later goes is from = tt
between-given (Some early) None after side (SideIs.Clock now) later goes is from = absurd later
between-given (Some early) (Some time) None side (SideIs.Clock now) later goes is from = absurd goes
between-given (Some early) (Some time) (Some late) side (SideIs.Clock now) later goes is from =
    let same : now ≡ time = ∥∥₁_elim from (ℕ_set now time) (is-told (Some time) side now time refl is) in
    All-cons (λ at. (early ≤ at) × (at ≤ late)) now [] (omega (arith, same, later), omega (arith, same, goes)) (All-nil (λ at. (early ≤ at) × (at ≤ late)))

-- an entry that records no time, or none
pub times-ended : (before kept after more : List Entry) (entry : Entry) → kept ≡ before → after ≡ kept ++ more → (more ≡ []) ⊎ (more ≡ entry ∷ []) → time_of entry ≡ []
    → times_of after ≡ times_of before ++ []
times-ended before kept after more entry same is one none =
    ap times_of is ∙ times-append kept more ∙ ap (λ (ts : List ℕ). times_of kept ++ ts) (by one) ∙ ap (λ (es : List Entry). times_of es ++ []) same
  where
    by : (more ≡ []) ⊎ (more ≡ entry ∷ []) → times_of more ≡ []
    by (inl e) = ap times_of e
    by (inr e) = ap times_of e ∙ ap (λ (ts : List ℕ). ts ++ []) none

-- a Take and a Give
pub times-round : (before kept mid after : List Entry) (take give : Entry) → kept ≡ before → mid ≡ kept ++ take ∷ [] → after ≡ mid ++ give ∷ [] → time_of take ≡ []
    → times_of after ≡ times_of before ++ time_of give
times-round before kept mid after take give same took gave none =
    let one : times_of mid ≡ times_of before = times-ended before kept mid (take ∷ []) take same took (inr refl) none ∙ append-nil (times_of before) in
    ap times_of gave ∙ times-append mid (give ∷ []) ∙ ap (λ (ts : List ℕ). ts ++ (time_of give ++ [])) one ∙ ap (λ (ts : List ℕ). times_of before ++ ts) (append-nil (time_of give))

-- the time of a Tick lies between, where the clock stays
pub between-tick : (clock : Option ℕ) (now : ℕ) → IfSome clock (λ time. now ≡ time) → AreBetween clock clock (now ∷ [])
between-tick None now told = tt
between-tick (Some time) now told = All-cons (λ at. (time ≤ at) × (at ≤ time)) now [] (omega (arith, told), omega (arith, told)) (All-nil (λ at. (time ≤ at) × (at ≤ time)))

-- one entry more
pub times-one : (before after : List Entry) (entry : Entry) → after ≡ before ++ entry ∷ [] → times_of after ≡ times_of before ++ time_of entry
times-one before after entry is = ap times_of is ∙ times-append before (entry ∷ []) ∙ ap (λ (ts : List ℕ). times_of before ++ ts) (append-nil (time_of entry))

-- entries that record no time
pub times-none : (before after more : List Entry) → after ≡ before ++ more → times_of more ≡ [] → times_of after ≡ times_of before
times-none before after more is none = ap times_of is ∙ times-append before more ∙ ap (λ (ts : List ℕ). times_of before ++ ts) none ∙ append-nil (times_of before)

-- the clock is told as before
pub not-back-same : (before after : Option ℕ) → after ≡ before → GoesNotBack before after
not-back-same before after same = rw same (not-back-refl before)

pub between-same : (before clock after : Option ℕ) (times : List ℕ) → clock ≡ before → GoesNotBack clock after → AreBetween before before times → AreBetween before after times
between-same before clock after times same later between =
    let back = rw same at later in
    rw (← append-nil times) (between-both before before after times [] (not-back-refl before) back between (between-none before after))

-- what the reading of the clock recorded, and then the turn
pub times-both : (was kept read now : List Entry) (first later : List ℕ) → kept ≡ was → times_of read ≡ times_of kept ++ first → times_of now ≡ times_of read ++ later
    → times_of now ≡ times_of was ++ (first ++ later)
times-both was kept read now first later same one two =
    two ∙ ap (λ (ts : List ℕ). ts ++ later) (one ∙ ap (λ (es : List Entry). times_of es ++ first) same) ∙ append_assoc (times_of was) first later
