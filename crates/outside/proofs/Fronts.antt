-- What is left behind a front that was taken.
use Rattle.std.proofs.Common.{◌≡◌, List, ◌++◌, All, Option, Some, None, subst, suc, arith}
use Rattle.std.specs.Option.{option_to_list}

pub all_behind : {X : Type 0} (P : X → Type 0) (xs ys : List X) (front : Option X) → xs ≡ option_to_list front ++ ys → All P xs → All P ys
all_behind P xs ys None e all = subst (All P) e all
all_behind P xs ys (Some x) e all =
    let whole = subst (All P) e all in
    λ k d lt. whole (suc k) d (omega (arith, lt))
