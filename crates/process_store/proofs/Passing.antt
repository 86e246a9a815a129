use Rattle.std.proofs.Common.{◌≡◌, ◌<◌, ℕ, zero, suc, ◌+◌, length, List, [], ◌∷◌, ◌++◌, Contains, slice_get, Option, Some, None, append-nil, append_assoc, refl, arith, sym, ◌∙◌, ap, subst, ◌⊎◌, inl, inr}
use Rattle.std.proofs.Math.Logic.{∥∥₁_map, ∥∥₁_elim, ∥∥₁_prop}
use Rattle.std.proofs.lemmas.List.Elements.{Contains-append_cases, Contains-append_left, Contains-append_right}
use Rattle.resource_table.specs.Handles.{Handle}
use Rattle.resource_table.specs.Steps.{Told, IsShut, AreShut, Sheds}
use Rattle.node_state.specs.Streaming.{Kept}
use Rattle.process_store.specs.declared.place.Place.{Place}
use Rattle.process_store.specs.declared.store.Store.{Store}
use Rattle.process_store.specs.Holds.{hands_at, hands_in, kept_of, streams_in}
use Rattle.process_store.specs.PassOn.{PassesOn, Stood, WasClosed}
use Rattle.process_store.proofs.Sets.{IsSet, each_set}

-- Streams that are passed on.

-- nothing is in an empty list
pub in_none : {X : Type 0} (x : X) → Contains {X = X} [] x → ⊥
in_none x has = let lt = has.1 in omega (arith, lt)

-- where a stream stood
pub stood_hand : {S : Type 0} (was : Kept S) (pool : List (Handle S)) (pid : ℕ) (handle : Handle S) → Contains (was.hands pid) handle → Stood was pool handle
stood_hand was pool pid handle has = ∣ inl (pid, has) ∣₁

pub stood_mail : {S : Type 0} (was : Kept S) (pool : List (Handle S)) (pid : ℕ) (handle : Handle S) → Contains (was.mail pid) handle → Stood was pool handle
stood_mail was pool pid handle has = ∣ inr (inl (pid, has)) ∣₁

pub stood_pool : {S : Type 0} (was : Kept S) (pool : List (Handle S)) (handle : Handle S) → Contains pool handle → Stood was pool handle
stood_pool was pool handle has = ∣ inr (inr has) ∣₁

-- what stood in hand at the place of a number
pub stood_at : {E O P S L : Type 0} (old : Store E O P S L) (pool : List (Handle S)) (pid : ℕ) (was : Place E O P S L) (handle : Handle S) → slice_get old.places.items pid ≡ Some was
    → Contains (hands_at was) handle → Stood (kept_of old) pool handle
stood_at old pool pid was handle there has = stood_hand (kept_of old) pool pid handle (subst (λ o. Contains (hands_in o) handle) (sym there) has)

-- all stays
pub passes_stay : {E O P S L : Type 0} (tells : Told S) (old new : Store E O P S L) → new.places.items ≡ old.places.items → new.mail.items ≡ old.mail.items → new.closed.items ≡ old.closed.items
    → PassesOn tells (kept_of old) (kept_of new) [] []
passes_stay tells old new places mail closed = record {
  in_hand = λ pid handle has. stood_hand (kept_of old) [] pid handle (subst (λ ps. Contains (hands_in (slice_get ps pid)) handle) places has);
  in_mail = λ pid handle has. stood_mail (kept_of old) [] pid handle (subst (λ ms. Contains (streams_in (slice_get ms pid)) handle) mail has);
  more = [];
  closed = closed ∙ sym (append-nil old.closed.items);
  shut = λ handle has. absurd (in_none handle has);
}

-- what stands at one number was replaced, its streams stood there or came; others were closed
pub passes_placed : {E O P S L : Type 0} (tells : Told S) (old new : Store E O P S L) (pid : ℕ) (was is : Place E O P S L) (pool shed more : List (Handle S))
    → IsSet old.places.items new.places.items pid was is → ((handle : Handle S) → Contains (hands_at is) handle → Stood (kept_of old) pool handle)
    → new.mail.items ≡ old.mail.items → new.closed.items ≡ old.closed.items ++ more → ((handle : Handle S) → Contains more handle → WasClosed tells (kept_of old) pool shed handle)
    → PassesOn tells (kept_of old) (kept_of new) pool shed
passes_placed {E = E} {O = O} {P = P} {S = S} {L = L} tells old new pid was is pool shed more placed hands mail closed shut = record {
  in_hand = each_set placed (λ q (o : Option (Place E O P S L)). (handle : Handle S) → Contains (hands_in o) handle → Stood (kept_of old) pool handle)
      (λ q differs handle has. stood_hand (kept_of old) pool q handle has) hands;
  in_mail = λ q handle has. stood_mail (kept_of old) pool q handle (subst (λ ms. Contains (streams_in (slice_get ms q)) handle) mail has);
  more = more;
  closed = closed;
  shut = shut;
}

-- the process at one number stays, or goes, with its streams
pub passes_moved : {E O P S L : Type 0} (tells : Told S) (old new : Store E O P S L) (pid : ℕ) (was is : Place E O P S L) → IsSet old.places.items new.places.items pid was is
    → ((handle : Handle S) → Contains (hands_at is) handle → Contains (hands_at was) handle) → new.mail.items ≡ old.mail.items → new.closed.items ≡ old.closed.items
    → PassesOn tells (kept_of old) (kept_of new) [] []
passes_moved tells old new pid was is placed hands mail closed =
    passes_placed tells old new pid was is [] [] [] placed (λ handle has. stood_at old [] pid was handle placed.there (hands handle has)) mail (closed ∙ sym (append-nil old.closed.items))
    (λ handle has. absurd (in_none handle has))

-- a process came with its streams, and what it shed is closed
pub passes_came : {E O P S L : Type 0} (tells : Told S) (old new : Store E O P S L) (pid : ℕ) (was is : Place E O P S L) (shed : List (Handle S))
    → IsSet old.places.items new.places.items pid was is → new.mail.items ≡ old.mail.items → new.closed.items ≡ old.closed.items ++ shed
    → PassesOn tells (kept_of old) (kept_of new) (hands_at is) shed
passes_came tells old new pid was is shed placed mail closed =
    passes_placed tells old new pid was is (hands_at is) shed shed placed (λ handle has. stood_pool (kept_of old) (hands_at is) handle has) mail closed (λ handle has. ∣ inl has ∣₁)

-- streams that were shut, each from one that was there
pub shut_from : {S : Type 0} (tells : Told S) (hs ks : List (Handle S)) (k : Handle S) → AreShut tells hs ks → Contains ks k → (h : Handle S) × Contains hs h × IsShut tells h k
shut_from tells [] [] k shut at = let l = at.1 in absurd (omega (arith, l))
shut_from tells [] (x ∷ ks) k shut at = absurd shut
shut_from tells (h ∷ hs) [] k shut at = absurd shut
shut_from tells (h ∷ hs) (x ∷ ks) k shut (zero, lt, is) = (h, (zero, omega arith, refl), subst (λ y. IsShut tells h y) is shut.0)
shut_from tells (h ∷ hs) (x ∷ ks) k shut (suc i, lt, is) =
    let r = shut_from tells hs ks k shut.1 (i, omega (arith, lt), is) in
    let l = r.1.1 in
    (r.0, (suc r.1.0, omega (arith, l), r.1.2), r.2)

-- they were closed, where those stood there
pub closed_shut : {S : Type 0} (tells : Told S) (was : Kept S) (pool shed hs ks : List (Handle S)) → AreShut tells hs ks → ((h : Handle S) → Contains hs h → Stood was pool h)
    → (k : Handle S) → Contains ks k → WasClosed tells was pool shed k
closed_shut tells was pool shed hs ks shut stood k has = let from = shut_from tells hs ks k shut has in ∣ inr (from.0, stood from.0 from.1, from.2) ∣₁

-- ONE STEP AFTER ANOTHER

module _ {S : Type 0} (tells : Told S) (was mid is : Kept S) (pool pool2 shed shed2 : List (Handle S)) (first : PassesOn tells was mid pool shed) (second : PassesOn tells mid is pool2 shed2) where
  wider : (handle : Handle S) → Stood was pool handle → Stood was (pool ++ pool2) handle
  wider handle stood = ∥∥₁_map stood by
    where
      by : ((pid : ℕ) × Contains (was.hands pid) handle) ⊎ ((pid : ℕ) × Contains (was.mail pid) handle) ⊎ (Contains pool handle)
          → ((pid : ℕ) × Contains (was.hands pid) handle) ⊎ ((pid : ℕ) × Contains (was.mail pid) handle) ⊎ (Contains (pool ++ pool2) handle)
      by (inl hand) = inl hand
      by (inr (inl mail)) = inr (inl mail)
      by (inr (inr has)) = inr (inr (Contains-append_left pool pool2 handle has))

  stood_first : (handle : Handle S) → Stood mid pool2 handle → Stood was (pool ++ pool2) handle
  stood_first handle stood = ∥∥₁_elim stood ∥∥₁_prop by
    where
      by : ((pid : ℕ) × Contains (mid.hands pid) handle) ⊎ ((pid : ℕ) × Contains (mid.mail pid) handle) ⊎ (Contains pool2 handle) → Stood was (pool ++ pool2) handle
      by (inl hand) = wider handle (first.in_hand hand.0 handle hand.1)
      by (inr (inl mail)) = wider handle (first.in_mail mail.0 handle mail.1)
      by (inr (inr has)) = stood_pool was (pool ++ pool2) handle (Contains-append_right pool pool2 handle has)

  closed_first : (handle : Handle S) → WasClosed tells was pool shed handle → WasClosed tells was (pool ++ pool2) (shed ++ shed2) handle
  closed_first handle was_closed = ∥∥₁_map was_closed by
    where
      by : (Contains shed handle) ⊎ ((before : Handle S) × Stood was pool before × IsShut tells before handle)
          → (Contains (shed ++ shed2) handle) ⊎ ((before : Handle S) × Stood was (pool ++ pool2) before × IsShut tells before handle)
      by (inl has) = inl (Contains-append_left shed shed2 handle has)
      by (inr from) = inr (from.0, wider from.0 from.1, from.2)

  closed_second : (handle : Handle S) → WasClosed tells mid pool2 shed2 handle → WasClosed tells was (pool ++ pool2) (shed ++ shed2) handle
  closed_second handle was_closed = ∥∥₁_map was_closed by
    where
      by : (Contains shed2 handle) ⊎ ((before : Handle S) × Stood mid pool2 before × IsShut tells before handle)
          → (Contains (shed ++ shed2) handle) ⊎ ((before : Handle S) × Stood was (pool ++ pool2) before × IsShut tells before handle)
      by (inl has) = inl (Contains-append_right shed shed2 handle has)
      by (inr from) = inr (from.0, stood_first from.0 from.1, from.2)

  pub passes_on_trans : PassesOn tells was is (pool ++ pool2) (shed ++ shed2)
  passes_on_trans = record {
    in_hand = λ pid handle has. stood_first handle (second.in_hand pid handle has);
    in_mail = λ pid handle has. stood_first handle (second.in_mail pid handle has);
    more = first.more ++ second.more;
    closed = second.closed ∙ ap (λ hs. hs ++ second.more) first.closed ∙ append_assoc was.closed first.more second.more;
    shut = λ handle has. by handle (Contains-append_cases first.more second.more handle has);
  }
    where
      by : (handle : Handle S) → Contains first.more handle ⊎ Contains second.more handle → WasClosed tells was (pool ++ pool2) (shed ++ shed2) handle
      by handle (inl has) = closed_first handle (first.shut handle has)
      by handle (inr has) = closed_second handle (second.shut handle has)

-- and then nothing comes or is shed
pub passes_then_stays : {S : Type 0} (tells : Told S) (was mid is : Kept S) (pool shed : List (Handle S)) → PassesOn tells was mid pool shed → PassesOn tells mid is [] [] → PassesOn tells was is pool shed
passes_then_stays tells was mid is pool shed first second =
    subst (λ hs. PassesOn tells was is pool hs) (append-nil shed) (subst (λ hs. PassesOn tells was is hs (shed ++ [])) (append-nil pool) (passes_on_trans tells was mid is pool [] shed [] first second))
