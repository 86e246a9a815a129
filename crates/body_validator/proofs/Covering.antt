-- What stands for some stack, for the empty one, and for one with a top.
use Rattle.std.specs.Prelude.{⊤, option_to_list, ◌==◌, ◌↔◌}
use Rattle.std.proofs.lemmas.List.{reverse-append}
use Rattle.std.proofs.Common.{◌≡◌, append_assoc, append-nil, ℕ, suc, arith, List, [], ◌∷◌, ◌++◌, reverse, length, Bool, true, false, Option, Some, None, refl, sym, ap, subst, ◌∙◌}
use Rattle.wasm_form.specs.declared.value_type.ValType.{ValType}
use Rattle.wasm_form.specs.declared.value_type.ValType.TheVariants.{I32}
use Rattle.wasm_form.specs.Typing.{arrow, Applies}
use Rattle.body_validator.specs.Covering.{Known, known, MayBe, CoversPlaces, Covers, IsImage, IsStuck, Takes, TakesAny, TakesAll, Gives, GivesAll}

-- a place may be of some type
pub some_type : (place : Option ValType) → (t : ValType) × MayBe place t
some_type None = (I32, tt)
some_type (Some t) = (t, refl)

-- some stack is covered
pub some_stack : (places : List (Option ValType)) (any : Bool) → (stack : List ValType) × CoversPlaces places any stack
some_stack [] true = ([], tt)
some_stack [] false = ([], refl)
some_stack (place ∷ places) any =
    let t = some_type place in
    let below = some_stack places any in
    (t.0 ∷ below.0, (t.1, below.1))

-- without places the empty stack is covered
pub none_left : (places : List (Option ValType)) (any : Bool) → places ≡ [] → CoversPlaces places any []
none_left [] true e = tt
none_left [] false e = refl
none_left (place ∷ places) any e = absurd (cc e)

-- the empty stack is covered only without places
pub left_none : (places : List (Option ValType)) (any : Bool) → CoversPlaces places any [] → places ≡ []
left_none [] any h = refl
left_none (place ∷ places) any h = absurd h

-- after what is not gone on to, any stack
pub left_behind : (old : Known) (items : List (Option ValType)) → items ≡ [] → IsImage (λ before after. ⊤) old (known (reverse items) true)
left_behind old items e after =
    let s = some_stack old.places old.any in
    (λ h. (s.0, s.1, tt), λ h. subst (λ xs. CoversPlaces (reverse xs) true after) (sym e) tt)

-- the topmost place is taken
pub top_taken : (place : Option ValType) (places : List (Option ValType)) (any : Bool) → IsImage TakesAny (known (place ∷ places) any) (known places any)
top_taken place places any after =
    let t = some_type place in
    (λ h. (t.0 ∷ after, (t.1, h), (t.0, refl)), λ h. (subst (λ s. CoversPlaces (place ∷ places) any s) h.2.1 h.1).1)

-- the last of the items is the topmost place
pub last_taken : (old : Known) (was now : List (Option ValType)) (any : Bool) (o : Option (Option ValType)) (place : Option ValType) → old ≡ known (reverse was) any → was ≡ now ++ option_to_list o → o ≡ Some place → IsImage TakesAny old (known (reverse now) any)
last_taken old was now any o place v e s =
    let turned : reverse was ≡ place ∷ reverse now = ap reverse (e ∙ ap (λ x. now ++ option_to_list x) s) ∙ reverse-append now (place ∷ []) in
    let is : old ≡ known (place ∷ reverse now) any = v ∙ ap (λ xs. known xs any) turned in
    subst (λ k. IsImage TakesAny k (known (reverse now) any)) (sym is) (top_taken place (reverse now) any)

-- without items, of any stack an operand is taken
pub any_taken : (old : Known) (was now : List (Option ValType)) (any : Bool) → old ≡ known (reverse was) any → was ≡ [] → now ≡ [] → any ≡ true → IsImage TakesAny old (known (reverse now) any)
any_taken old was now any v e f t =
    let is : old ≡ known [] true = cc in
    let new : known (reverse now) any ≡ known [] true = cc in
    subst (λ k. IsImage TakesAny k (known (reverse now) any)) (sym is)
    (subst (λ k. IsImage TakesAny (known [] true) k) (sym new) (λ after. (λ h. (I32 ∷ after, tt, (I32, refl)), λ h. tt)))

-- the empty stack is covered just where there are no items
pub empty_covered : (items : List (Option ValType)) (any : Bool) (b : Bool) → b ≡ (length items == 0) → (b ≡ true) ↔ CoversPlaces (reverse items) any []
empty_covered [] any b e = (λ h. none_left [] any refl, λ h. e)
empty_covered (item ∷ items) any b e =
    let turned : reverse (item ∷ items) ≡ reverse items ++ item ∷ [] = reverse-append (item ∷ []) items in
    (λ h. let z : length (item ∷ items) ≡ 0 = grind (arith) in absurd (not_zero (length items) z), λ h. absurd (not_nil (reverse items) item (sym turned ∙ left_none (reverse (item ∷ items)) any h)))
  where
    not_zero : (n : ℕ) → suc n ≡ 0 → ⊥
    not_zero n f = omega arith

    not_nil : (xs : List (Option ValType)) (x : Option ValType) → xs ++ x ∷ [] ≡ [] → ⊥
    not_nil [] x f = absurd (cc f)
    not_nil (y ∷ ys) x f = absurd (cc f)

-- one step after another
pub both : (R S : List ValType → List ValType → Type 0) (a b c : Known) → IsImage R a b → IsImage S b c → IsImage (λ x z. (y : List ValType) × R x y × S y z) a c
both R S a b c p q after = (
  λ h. let s = (q after).0 h in let r = (p s.0).0 s.1 in (r.0, r.1, (s.0, r.2, s.2)),
  λ h. (q after).1 (h.2.0, (p h.2.0).1 (h.0, h.1, h.2.1), h.2.2),
)

-- relations that say the same have the same images
pub same_image : (R S : List ValType → List ValType → Type 0) (a b : Known) → ((x y : List ValType) → R x y → S x y) → ((x y : List ValType) → S x y → R x y) → IsImage R a b → IsImage S a b
same_image R S a b to from p after = (
  λ h. let r = (p after).0 h in (r.0, r.1, to r.0 after r.2),
  λ h. (p after).1 (h.0, h.1, from h.0 after h.2),
)

-- nothing is taken, nothing is given
pub same_known : (k : Known) → IsImage (λ before after. before ≡ after) k k
same_known k after = (λ h. (after, h, refl), λ h. subst (λ s. Covers k s) h.2 h.1)

turned : (ts : List ValType) (t : ValType) (s : List ValType) → reverse (t ∷ ts) ++ s ≡ reverse ts ++ t ∷ s
turned ts t s = ap (λ x. x ++ s) (reverse-append (t ∷ []) ts) ∙ append_assoc (reverse ts) (t ∷ []) s

-- one operand more is taken
pub one_more_taken : (done : List ValType) (t : ValType) (old mid new : Known) → IsImage (TakesAll done) old mid → IsImage (Takes t) mid new → IsImage (TakesAll (t ∷ done)) old new
one_more_taken done t old mid new p q =
    same_image (λ x z. (y : List ValType) × TakesAll done x y × Takes t y z) (TakesAll (t ∷ done)) old new
    (λ x z h. h.1 ∙ ap (λ y. reverse done ++ y) h.2 ∙ sym (turned done t z))
    (λ x z h. (t ∷ z, h ∙ turned done t z, refl))
    (both (TakesAll done) (Takes t) old mid new p q)

-- one of the operands can't be there
pub one_missing : (taken left rest done : List ValType) (t : ValType) (old mid : Known) → taken ≡ left ++ done → left ≡ rest ++ t ∷ [] → IsImage (TakesAll done) old mid → IsStuck (Takes t) mid → IsStuck (TakesAll taken) old
one_missing taken left rest done t old mid e f p stuck before after h b =
    let split : taken ≡ rest ++ t ∷ done = e ∙ ap (λ x. x ++ done) f ∙ append_assoc rest (t ∷ []) done in
    let low : before ≡ reverse done ++ t ∷ (reverse rest ++ after) =
    b ∙ ap (λ x. reverse x ++ after) split ∙ ap (λ x. x ++ after) (reverse-append rest (t ∷ done))
    ∙ append_assoc (reverse (t ∷ done)) (reverse rest) after ∙ turned done t (reverse rest ++ after)
    in
    stuck (t ∷ (reverse rest ++ after)) (reverse rest ++ after) ((p (t ∷ (reverse rest ++ after))).1 (before, h, low)) refl

-- one result more is given
pub one_more_given : (done : List ValType) (t : ValType) (old mid new : Known) → IsImage (GivesAll done) old mid → IsImage (Gives t) mid new → IsImage (GivesAll (done ++ t ∷ [])) old new
one_more_given done t old mid new p q =
    let onto : (s : List ValType) → reverse (done ++ t ∷ []) ++ s ≡ t ∷ (reverse done ++ s) = λ s. ap (λ x. x ++ s) (reverse-append done (t ∷ [])) in
    same_image (λ x z. (y : List ValType) × GivesAll done x y × Gives t y z) (GivesAll (done ++ t ∷ [])) old new
    (λ x z h. h.2 ∙ ap (λ y. t ∷ y) h.1 ∙ sym (onto x))
    (λ x z h. (reverse done ++ x, refl, h ∙ onto x))
    (both (GivesAll done) (Gives t) old mid new p q)

-- taken and then given is applied
pub applied : (ts gs : List ValType) (old mid new : Known) → IsImage (TakesAll ts) old mid → IsImage (GivesAll gs) mid new → IsImage (Applies (arrow ts gs)) old new
applied ts gs old mid new p q =
    same_image (λ x z. (y : List ValType) × TakesAll ts x y × GivesAll gs y z) (Applies (arrow ts gs)) old new
    (λ x z h. h) (λ x z h. h) (both (TakesAll ts) (GivesAll gs) old mid new p q)

-- what can't be taken can't be applied
pub not_applied : (ts gs : List ValType) (old : Known) → IsStuck (TakesAll ts) old → IsStuck (Applies (arrow ts gs)) old
not_applied ts gs old stuck before after h a = stuck before a.0 h a.1

reversed_two : (a b s : List ValType) → reverse (a ++ b) ++ s ≡ reverse b ++ (reverse a ++ s)
reversed_two a b s = ap (λ x. x ++ s) (reverse-append a b) ∙ append_assoc (reverse b) (reverse a) s

-- the second ones are taken from above the first
pub taken_two : (a b : List ValType) (old mid new : Known) → IsImage (TakesAll b) old mid → IsImage (TakesAll a) mid new → IsImage (TakesAll (a ++ b)) old new
taken_two a b old mid new p q =
    same_image (λ x z. (y : List ValType) × TakesAll b x y × TakesAll a y z) (TakesAll (a ++ b)) old new
    (λ x z h. h.1 ∙ ap (λ y. reverse b ++ y) h.2 ∙ sym (reversed_two a b z))
    (λ x z h. (reverse a ++ z, h ∙ reversed_two a b z, refl))
    (both (TakesAll b) (TakesAll a) old mid new p q)

pub applied_two : (a b gs : List ValType) (old mid low new : Known) → IsImage (TakesAll b) old mid → IsImage (TakesAll a) mid low → IsImage (GivesAll gs) low new → IsImage (Applies (arrow (a ++ b) gs)) old new
applied_two a b gs old mid low new p q r = applied (a ++ b) gs old low new (taken_two a b old mid low p q) r

pub not_applied_above : (a b gs : List ValType) (old : Known) → IsStuck (TakesAll b) old → IsStuck (Applies (arrow (a ++ b) gs)) old
not_applied_above a b gs old stuck before after h s = stuck before (reverse a ++ s.0) h (s.1 ∙ reversed_two a b s.0)

pub not_applied_below : (a b gs : List ValType) (old mid : Known) → IsImage (TakesAll b) old mid → IsStuck (TakesAll a) mid → IsStuck (Applies (arrow (a ++ b) gs)) old
not_applied_below a b gs old mid p stuck before after h s =
    stuck (reverse a ++ s.0) s.0 ((p (reverse a ++ s.0)).1 (before, h, s.1 ∙ reversed_two a b s.0)) refl

-- what takes and gives nothing changes nothing
pub nothing_applied : (k : Known) → IsImage (Applies (arrow [] [])) k k
nothing_applied k =
    same_image (λ before after. before ≡ after) (Applies (arrow [] [])) k k
    (λ x y e. (x, refl, sym e)) (λ x y h. h.1 ∙ sym h.2) (same_known k)

-- when these are taken nothing may be left just where they may be all
pub taken_may_be : (ts : List ValType) (old new : Known) → IsImage (TakesAll ts) old new → Covers new [] ↔ Covers old (reverse ts)
taken_may_be ts old new p = (
  λ h. let b = (p []).0 h in subst (λ s. Covers old s) (b.2 ∙ append-nil (reverse ts)) b.1,
  λ h. (p []).1 (reverse ts, h, sym (append-nil (reverse ts))),
)

pub not_taken : (ts : List ValType) (old : Known) → IsStuck (TakesAll ts) old → ¬ Covers old (reverse ts)
not_taken ts old stuck h = stuck (reverse ts) [] h (sym (append-nil (reverse ts)))
