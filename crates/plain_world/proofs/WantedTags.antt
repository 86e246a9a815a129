use Rattle.std.proofs.Common.{◌≡◌, ◌≢◌, ◌<◌, ◌≤◌, ℕ, ◌+◌, List, [], ◌∷◌, ◌++◌, length, take, drop, map, Some, true, false, nat_eq, slice_get, refl, arith, sym, ◌∙◌, ap, ◌⊎◌, inl, inr, suc, get_or, add-one, append_assoc}
use Rattle.std.specs.List.{list_any}
use Rattle.std.specs.Int.{from_le_bytes, w64}
use Rattle.std.proofs.lemmas.Bool.Decides.{eqb_tells}
use Rattle.std.proofs.lemmas.List.{take_more, drop_more, map-append, append-nil}
use Rattle.std.proofs.Math.Seq.{drop-length, take-length}
use Rattle.std.proofs.lemmas.Option.{slice_get_read}
use Rattle.plain_part.specs.declared.mail_item.MailItem as Kept
use Rattle.plain_part.specs.Shown.{shown_item}
use Rattle.world_rules.specs.Mail.{tag_of, tags_in, is_wanted, pick, unpicked}
use Rattle.plain_world.specs.Picked.{IsFirstWanted, IsUnwanted}

-- eight bytes are a tag
tags_in-long : (xs : List ℕ) → 8 ≤ length xs → tags_in xs ≡ from_le_bytes w64 (take 8 xs) ∷ tags_in (drop 8 xs)
tags_in-long [] h = absurd (omega arith)
tags_in-long (a ∷ []) h = absurd (omega arith)
tags_in-long (a ∷ b ∷ []) h = absurd (omega arith)
tags_in-long (a ∷ b ∷ c ∷ []) h = absurd (omega arith)
tags_in-long (a ∷ b ∷ c ∷ d ∷ []) h = absurd (omega arith)
tags_in-long (a ∷ b ∷ c ∷ d ∷ e ∷ []) h = absurd (omega arith)
tags_in-long (a ∷ b ∷ c ∷ d ∷ e ∷ f ∷ []) h = absurd (omega arith)
tags_in-long (a ∷ b ∷ c ∷ d ∷ e ∷ f ∷ g ∷ []) h = absurd (omega arith)
tags_in-long (a ∷ b ∷ c ∷ d ∷ e ∷ f ∷ g ∷ i ∷ rest) h = refl

-- fewer are none
tags_in-short : (xs : List ℕ) → length xs < 8 → tags_in xs ≡ []
tags_in-short [] h = refl
tags_in-short (a ∷ []) h = refl
tags_in-short (a ∷ b ∷ []) h = refl
tags_in-short (a ∷ b ∷ c ∷ []) h = refl
tags_in-short (a ∷ b ∷ c ∷ d ∷ []) h = refl
tags_in-short (a ∷ b ∷ c ∷ d ∷ e ∷ []) h = refl
tags_in-short (a ∷ b ∷ c ∷ d ∷ e ∷ f ∷ []) h = refl
tags_in-short (a ∷ b ∷ c ∷ d ∷ e ∷ f ∷ g ∷ []) h = refl
tags_in-short (a ∷ b ∷ c ∷ d ∷ e ∷ f ∷ g ∷ i ∷ rest) h = absurd (omega arith)

-- no tags want any
pub wanted-short : (tags : List ℕ) (tag : ℕ) → length tags < 8 → is_wanted (tags_in tags) tag ≡ true
wanted-short tags tag h = rw (tags_in-short tags h) refl

-- with tags, a tag is wanted where it is among them
pub wanted-long : (tags : List ℕ) (tag : ℕ) → 8 ≤ length tags → is_wanted (tags_in tags) tag ≡ list_any (nat_eq tag) (tags_in tags)
wanted-long tags tag h = rw (tags_in-long tags h) refl

any-here : (tag first : ℕ) (rest : List ℕ) → ((nat_eq tag first ≡ true) × (tag ≡ first)) ⊎ ((nat_eq tag first ≡ false) × (tag ≢ first)) → tag ≡ first → list_any (nat_eq tag) (first ∷ rest) ≡ true
any-here tag first rest (inl same) e = rw same.0 refl
any-here tag first rest (inr other) e = absurd (other.1 e)

any-later : (tag first : ℕ) (rest : List ℕ) → ((nat_eq tag first ≡ true) × (tag ≡ first)) ⊎ ((nat_eq tag first ≡ false) × (tag ≢ first)) → tag ≢ first → list_any (nat_eq tag) (first ∷ rest) ≡ list_any (nat_eq tag) rest
any-later tag first rest (inl same) e = absurd (e same.1)
any-later tag first rest (inr other) e = rw other.0 refl

-- the tag is the next one; it isn't; and there is no next one
pub any-found : (rest : List ℕ) (tag : ℕ) → 8 ≤ length rest → tag ≡ from_le_bytes w64 (take 8 rest) → list_any (nat_eq tag) (tags_in rest) ≡ true
any-found rest tag h e = rw (tags_in-long rest h) (any-here tag (from_le_bytes w64 (take 8 rest)) (tags_in (drop 8 rest)) (eqb_tells tag (from_le_bytes w64 (take 8 rest))) e)

pub any-next : (rest : List ℕ) (tag : ℕ) → 8 ≤ length rest → tag ≢ from_le_bytes w64 (take 8 rest) → list_any (nat_eq tag) (tags_in rest) ≡ list_any (nat_eq tag) (tags_in (drop 8 rest))
any-next rest tag h e = rw (tags_in-long rest h) (any-later tag (from_le_bytes w64 (take 8 rest)) (tags_in (drop 8 rest)) (eqb_tells tag (from_le_bytes w64 (take 8 rest))) e)

pub any-none : (rest : List ℕ) (tag : ℕ) → length rest < 8 → list_any (nat_eq tag) (tags_in rest) ≡ false
any-none rest tag h = rw (tags_in-short rest h) refl

-- the items before this place are not wanted
pub record IsPassed (tags : List ℕ) (mail : List Kept.MailItem) (k : ℕ) : Type 0 where
  pub picked : pick tags (map shown_item mail) ≡ pick tags (map shown_item (drop k mail))
  pub rest : unpicked tags (map shown_item mail) ≡ map shown_item (take k mail) ++ unpicked tags (map shown_item (drop k mail))

pub passed-none : (tags : List ℕ) (mail : List Kept.MailItem) → IsPassed tags mail 0
passed-none tags mail = record { picked = refl; rest = refl }

pub passed-more : (tags : List ℕ) (mail : List Kept.MailItem) (k : ℕ) (item : Kept.MailItem) → k < length mail → item ≡ get_or mail k item → is_wanted tags (tag_of (shown_item item)) ≡ false → IsPassed tags mail k → IsPassed tags mail (k + 1)
passed-more tags mail k item within is unwanted passed =
    let here : drop k mail ≡ item ∷ drop (k + 1) mail = drop_more mail k item within ∙ ap (λ x. x ∷ drop (k + 1) mail) (sym is) in
    let before : take (k + 1) mail ≡ take k mail ++ item ∷ [] = take_more mail k item within ∙ ap (λ x. take k mail ++ x ∷ []) (sym is) in
    record {
      picked = passed.picked ∙ (rw (here, unwanted) refl);
      rest = passed.rest ∙ (rw (here, unwanted, before, map-append shown_item (take k mail) (item ∷ []), append_assoc (map shown_item (take k mail)) (shown_item item ∷ []) (unpicked tags (map shown_item (drop (k + 1) mail)))) refl);
    }

pub passed-all : (tags : List ℕ) (mail : List Kept.MailItem) → IsPassed tags mail (length mail) → IsUnwanted tags mail
passed-all tags mail passed = record {
  picked = passed.picked ∙ ap (λ xs. pick tags (map shown_item xs)) (drop-length mail);
  rest = passed.rest ∙ (rw (drop-length mail, take-length mail, append-nil (map shown_item mail)) refl);
}

pub found-here : (tags : List ℕ) (mail : List Kept.MailItem) (k : ℕ) (item : Kept.MailItem) → k < length mail → item ≡ get_or mail k item → is_wanted tags (tag_of (shown_item item)) ≡ true → IsPassed tags mail k → IsFirstWanted tags mail k
found-here tags mail k item within is wanted passed =
    let here : drop k mail ≡ item ∷ drop (k + 1) mail = drop_more mail k item within ∙ ap (λ x. x ∷ drop (k + 1) mail) (sym is) in
    let there : slice_get mail k ≡ Some item = slice_get_read mail (length mail) k item refl within is in
    record {
      within = within;
      picked = passed.picked ∙ (rw (here, wanted, there) refl);
      rest = passed.rest ∙ (rw (here, wanted, add-one, map-append shown_item (take k mail) (drop (suc k) mail)) refl);
    }
