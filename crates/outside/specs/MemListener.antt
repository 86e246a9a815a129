-- A listener in memory.
use Rattle.std.specs.Prelude.{◌≡◌, ℕ, Bool, true, false, List, All}
use Rattle.outside.specs.declared.mem_listener.Offer.{Offer}
use Rattle.outside.specs.declared.mem_listener.Offer.TheVariants.{Stream, Wait}
use Rattle.outside.specs.MemStream.{IsNew}

-- the number of its port, what the next accepts find, and whether it was shut
pub record Desk : Type 0 where
  pub number : ℕ
  pub offers : List Offer
  pub down : Bool

-- what a listener starts with
abbrev pub new_desk : ℕ → List Offer → Desk
new_desk number offers = record { number = number; offers = offers; down = false }

-- a listener that was shut
abbrev pub closed : Desk → Desk
closed desk = record { number = desk.number; offers = desk.offers; down = true }

-- a listener that was not shut
abbrev pub IsUp : Desk → Type 0
IsUp desk = desk.down ≡ false

-- a stream that is offered is new
abbrev pub OffersNew : Offer → Type 0
OffersNew (Stream line) = IsNew line
OffersNew Wait = Unit {0}

-- each stream that is offered is new
abbrev pub AllOfferNew : List Offer → Type 0
AllOfferNew offers = All OffersNew offers
