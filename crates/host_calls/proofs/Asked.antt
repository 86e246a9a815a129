-- What is known where a run stands.
use Rattle.std.proofs.Common.{◌≡◌, Option, Some, Bool, true, false, IsSome, refl}
use Rattle.host_port.specs.Standing.{Standing}

-- a run that is there
pub is_there : (standing : Option Standing) (here : Standing) → standing ≡ Some here → IsSome standing
is_there standing here is = rw is refl

pub not_true : {b : Bool} → b ≡ true → b ≡ false → ⊥
not_true is other = cc
