-- The processes that were entered, round by round.
use Rattle.std.proofs.Common.{◌≡◌, ℕ, List, [], ◌∷◌, ◌++◌, Option, Some, None, refl, sym, ◌∙◌, ap, append_assoc, append-nil, ◌⊎◌, inl, inr}
use Rattle.std.specs.Io.KnownBytes.{append_known}
use Rattle.world_rules.specs.declared.entry.Entry.{Entry}
use Rattle.lunatic_cli.specs.Entering.{taken_by, takes_of, EntersAll}

pub takes-append : (es more : List Entry) → takes_of (es ++ more) ≡ takes_of es ++ takes_of more
takes-append [] more = refl
takes-append (e ∷ es) more = ap (λ (ps : List ℕ). taken_by e ++ ps) (takes-append es more) ∙ sym (append_assoc (taken_by e) (takes_of es) (takes_of more))

pub enters-none : (told : Option (List ℕ)) → EntersAll told told []
enters-none None = refl
enters-none (Some pids) = ap Some (sym (append-nil pids))

append_known-both : (told : Option (List ℕ)) (xs ys : List ℕ) → append_known (append_known told xs) ys ≡ append_known told (xs ++ ys)
append_known-both None xs ys = refl
append_known-both (Some pids) xs ys = ap Some (append_assoc pids xs ys)

-- the processes of an earlier and a later span
pub enters-both : (a b c : Option (List ℕ)) (xs ys : List ℕ) → EntersAll a b xs → EntersAll b c ys → EntersAll a c (xs ++ ys)
enters-both a b c xs ys first second = second ∙ ap (λ (told : Option (List ℕ)). append_known told ys) first ∙ append_known-both a xs ys

-- an entry that takes nobody, or none
pub takes-ended : (before kept after more : List Entry) (entry : Entry) → kept ≡ before → after ≡ kept ++ more → (more ≡ []) ⊎ (more ≡ entry ∷ []) → taken_by entry ≡ []
    → takes_of after ≡ takes_of before ++ []
takes-ended before kept after more entry same is one none =
    ap takes_of is ∙ takes-append kept more ∙ ap (λ (ps : List ℕ). takes_of kept ++ ps) (by one) ∙ ap (λ (es : List Entry). takes_of es ++ []) same
  where
    by : (more ≡ []) ⊎ (more ≡ entry ∷ []) → takes_of more ≡ []
    by (inl e) = ap takes_of e
    by (inr e) = ap takes_of e ∙ ap (λ (ps : List ℕ). ps ++ []) none

-- a Take and a Give
pub takes-round : (before kept mid after : List Entry) (take give : Entry) → kept ≡ before → mid ≡ kept ++ take ∷ [] → after ≡ mid ++ give ∷ [] → taken_by give ≡ []
    → takes_of after ≡ takes_of before ++ taken_by take
takes-round before kept mid after take give same took gave none =
    takes-ended mid mid after (give ∷ []) give refl gave (inr refl) none ∙ append-nil (takes_of mid)
    ∙ ap takes_of took ∙ takes-append kept (take ∷ []) ∙ ap (λ (ps : List ℕ). takes_of kept ++ ps) (append-nil (taken_by take))
    ∙ ap (λ (es : List Entry). takes_of es ++ taken_by take) same

-- one entry more
pub takes-one : (before after : List Entry) (entry : Entry) → after ≡ before ++ entry ∷ [] → takes_of after ≡ takes_of before ++ taken_by entry
takes-one before after entry is = ap takes_of is ∙ takes-append before (entry ∷ []) ∙ ap (λ (ps : List ℕ). takes_of before ++ ps) (append-nil (taken_by entry))

-- entries that take nobody
pub takes-none : (before after more : List Entry) → after ≡ before ++ more → takes_of more ≡ [] → takes_of after ≡ takes_of before
takes-none before after more is none = ap takes_of is ∙ takes-append before more ∙ ap (λ (ps : List ℕ). takes_of before ++ ps) none ∙ append-nil (takes_of before)
