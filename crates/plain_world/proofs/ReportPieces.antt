use Rattle.std.proofs.Common.{◌≡◌, ℕ, List, [], ◌∷◌, ◌++◌, append_assoc, refl, ap, sym, ◌∙◌}
use Rattle.host_port.specs.declared.call.Call.{Call}
use Rattle.world_rules.specs.Calls.{call_of}
use Rattle.world_rules.specs.Report.{printed, printed_by}

-- three words, each with what stands behind it, and the end of the line
pub three_fields : (text empty first second third line whole a x b y c z d : List ℕ) →
    empty ≡ [] →
    first ≡ empty ++ (a ++ x) →
    second ≡ first ++ (b ++ y) →
    third ≡ second ++ (c ++ z) →
    line ≡ third ++ d →
    whole ≡ text ++ line →
    whole ≡ text ++ (a ++ x ++ b ++ y ++ c ++ z ++ d)
three_fields text empty first second third line whole a x b y c z d none one two three four all =
    rw (all, four, three, two, one, none) (simp append_assoc)

-- what one call more printed comes behind what the earlier ones did
pub printed-append : (xs ys : List Call) → printed (xs ++ ys) ≡ printed xs ++ printed ys
printed-append [] ys = refl
printed-append (x ∷ xs) ys =
    ap (λ (zs : List ℕ). printed_by (call_of x.request) x ++ zs) (printed-append xs ys)
    ∙ sym (append_assoc (printed_by (call_of x.request) x) (printed xs) (printed ys))
