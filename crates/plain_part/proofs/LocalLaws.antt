-- Local calls, one after another.
use Rattle.std.specs.Prelude.{◌≡◌, ◌↔◌, ℕ, ◌+◌, ◌<◌, List, ◌∷◌, length, drop, Some, slice_index_or}
use Rattle.std.proofs.Common.{refl, subst, sym, add-one, drop-cons}
use Rattle.host_port.specs.declared.start.Start.{Start}
use Rattle.host_port.specs.declared.call.Call.{Call}
use Rattle.world_rules.specs.Part.{Part}
use Rattle.world_rules.specs.Local.{local, part_of, part_after, AreLocal}
use Rattle.plain_part.specs.Replies.{reply_to}

-- some of the calls are done: those that are left are local in the part that stands now exactly where all are in the
-- first, and lead to the same part
pub record GoesOn (start : Start) (first : Part) (calls : List Call) (now : Part) (left : List Call) : Type 0 where
  pub local : AreLocal start now left ↔ AreLocal start first calls
  pub part : part_after start now left ≡ part_after start first calls

-- at the beginning nothing is done
pub begins : (start : Start) (part : Part) (calls : List Call) → GoesOn start part calls part calls
begins start part calls = record { local = (λ all. all, λ all. all); part = refl }

-- one call more is done, which had its reply
pub goes_on : (start : Start) (first now next : Part) (calls left : List Call) (call : Call) →
    GoesOn start first calls now (call ∷ left) → reply_to start now call.request ≡ Some call.reply →
    next ≡ part_of now (local start now call.request) → GoesOn start first calls next left
goes_on start first now next calls left call before replied stands =
    let P : Part → Type 0 = λ part. GoesOn start first calls part left in
    subst P (sym stands) (record {
      local = (λ rest. before.local.0 (replied, rest), λ all. (before.local.1 all).1);
      part = before.part;
    })

-- a call that hasn't its reply breaks off
pub breaks : (start : Start) (first now : Part) (calls left : List Call) (call : Call) →
    GoesOn start first calls now (call ∷ left) → (reply_to start now call.request ≡ Some call.reply → ⊥) →
    AreLocal start first calls → ⊥
breaks start first now calls left call before unreplied all = unreplied (before.local.1 all).0

-- the calls from a place on begin with the call at that place
pub from_place : (calls : List Call) (place : ℕ) (call : Call) → place < length calls →
    drop place calls ≡ slice_index_or calls place call ∷ drop (place + 1) calls
from_place calls place call within = rw (add-one, drop-cons calls place call)
