-- A list of members grows by processes that fall, has room for each, and is the set once no process is left that falls.
use Rattle.std.proofs.Common.{◌≡◌, ℕ, ◌+◌, ◌≤◌, Bool, false, List, [], ◌∷◌, ◌++◌, length, Contains, All, IsPermutation, IsSorted, eqb, nat_cmp, is_some, BTreeMap, refl, ap, sym, ◌∙◌, subst, arith, ⊎_elim}
use Rattle.std.specs.Cmp.{nat_eq_equiv, unsigned_ties, unsigned_Decides, nat_cmp_total}
use Rattle.std.specs.List.{IsDistinct, list_any}
use Rattle.std.specs.Map.{lookup}
use Rattle.std.specs.FinMap.{from_entries, nat_cmp-IsAntisymmetric}
use Rattle.std.proofs.lemmas.Bool.{false_from_ne_true, cases_Bool, true≢false}
use Rattle.std.proofs.lemmas.Bool.Decides.{nat_tests}
use Rattle.std.proofs.lemmas.List.{length_push}
use Rattle.std.proofs.lemmas.List.Elements.{All-push, All-cons, All-contains, All-from_recursion, All-weaker}
use Rattle.std.proofs.lemmas.List.Sorted.{IsNonDecreasingBy-from_sort, IsPermutation-cons, All-permutation, Contains-permutation}
use Rattle.std.proofs.lemmas.Map.Keys.{IsDistinct-push, IsDistinct-head, IsDistinct-tail, IsDistinct-IsPermutation, IsStrictlyIncreasing-from_distinct}
use Rattle.std.proofs.lemmas.Map.Made.{is_member-Decides}
use Rattle.std.proofs.lemmas.Map.Steps.{length-le_from_keys}
use Rattle.link_signals.specs.Links.{Processes, Tags}
use Rattle.link_signals.specs.Fall.{Falls, spreads, begins, DiesWithLinks, IsFall, is_among}
use Rattle.link_signals.specs.Spread.{FallsNext}
use Rattle.link_signals.proofs.Maps.{get-map_of}
use Rattle.link_signals.proofs.Members.{IsClosed, complete, among_Contains, Contains_among}

-- members that fall, each once, of which all but the first die with links
pub record Grown (processes : Processes) (tags : Tags) (first : ℕ) (others : List ℕ) : Type 0 where
  pub distinct : IsDistinct eqb (first ∷ others)
  pub falls : All (Falls processes tags first) (first ∷ others)
  pub dies : All (DiesWithLinks processes) others

-- the first process alone
pub alone : (processes : Processes) (tags : Tags) (first : ℕ) → Grown processes tags first []
unfolding IsDistinct
alone processes tags first = record {
  distinct = (tt, tt);
  falls = All-cons (Falls processes tags first) first [] begins (λ k d lt. absurd (omega arith));
  dies = λ k d lt. absurd (omega arith);
}

absent : (xs : List ℕ) (pid : ℕ) → (Contains xs pid → ⊥) → list_any (eqb pid) xs ≡ false
absent xs pid new = false_from_ne_true (list_any (eqb pid) xs) (λ t. new ((is_member-Decides unsigned_Decides xs pid).0 t))

-- one more, that falls next by the members as they were seen
pub grows : (processes : Processes) (tags : Tags) (first : ℕ) (others seen : List ℕ) (pid : ℕ) → seen ≡ others → Grown processes tags first others
    → FallsNext processes tags (first ∷ seen) pid → Grown processes tags first (others ++ pid ∷ [])
grows processes tags first others seen pid same grown read =
    let next = subst (λ (xs : List ℕ). FallsNext processes tags (first ∷ xs) pid) same read in
    record {
      distinct = IsDistinct-push nat_eq_equiv (first ∷ others) pid grown.distinct (absent (first ∷ others) pid next.new);
      falls = All-push (Falls processes tags first) (first ∷ others) pid grown.falls
          (spreads next.member pid (All-contains (Falls processes tags first) (first ∷ others) next.member grown.falls next.fell) next.linked next.dies);
      dies = All-push (DiesWithLinks processes) others pid grown.dies next.dies;
    }

-- there are no more others than processes
room : (processes : BTreeMap ℕ Bool) (tags : Tags) (first : ℕ) (others : List ℕ) → Grown (from_entries {R = nat_cmp} processes.entries) tags first others
    → length others ≤ length processes.entries
room processes tags first others grown =
    length-le_from_keys nat_eq_equiv others processes.entries (IsDistinct-tail eqb first others grown.distinct) (λ q among.
    let here : Contains others q = (is_member-Decides unsigned_Decides others q).0 among in
    let dies : DiesWithLinks (from_entries {R = nat_cmp} processes.entries) q = All-contains (DiesWithLinks (from_entries {R = nat_cmp} processes.entries)) others q grown.dies here in
    ap is_some (ap (λ (test : ℕ → Bool). lookup test processes.entries) (λ i k. unsigned_ties q k i)
    ∙ sym (get-map_of nat_cmp_total nat_cmp-IsAntisymmetric processes q) ∙ dies))

-- and there is room for one more that falls next
pub room_for_one : (processes : BTreeMap ℕ Bool) (tags : Tags) (first : ℕ) (others seen : List ℕ) (pid : ℕ) → seen ≡ others → Grown (from_entries {R = nat_cmp} processes.entries) tags first others
    → FallsNext (from_entries {R = nat_cmp} processes.entries) tags (first ∷ seen) pid → length others + 1 ≤ length processes.entries
room_for_one processes tags first others seen pid same grown read =
    let enough = room processes tags first (others ++ pid ∷ []) (grows (from_entries {R = nat_cmp} processes.entries) tags first others seen pid same grown read) in
    omega (arith, length_push others pid)

-- where none falls next, the list is closed
closed : (processes : Processes) (tags : Tags) (members : List ℕ) → ((pid : ℕ) → FallsNext processes tags members pid → ⊥) → IsClosed processes tags members
closed processes tags members none member pid fell linked dies = ⊎_elim
    (λ t. among_Contains members pid t)
    (λ f. absurd (none pid (record { member = member; fell = fell; linked = linked; dies = dies; new = λ h. true≢false (sym (Contains_among members pid h) ∙ f) })))
    (cases_Bool (is_among members pid))

-- and then the members, the others in order, are those who fall
pub settles : (processes : Processes) (tags : Tags) (first : ℕ) (others seen rising : List ℕ) → seen ≡ others → Grown processes tags first others
    → ((pid : ℕ) → FallsNext processes tags (first ∷ seen) pid → ⊥) → IsPermutation others rising → IsSorted nat_cmp rising
    → IsFall processes tags first (first ∷ rising)
settles processes tags first others seen rising same grown unread moved sorted =
    let none = subst (λ (xs : List ℕ). (pid : ℕ) → FallsNext processes tags (first ∷ xs) pid → ⊥) same unread in
    let whole = IsPermutation-cons first others rising moved in
    let falls : All (Falls processes tags first) (first ∷ rising) = All-permutation (Falls processes tags first) (first ∷ others) (first ∷ rising) whole grown.falls in
    let apart : All (λ other. eqb first other ≡ false) others = All-from_recursion (λ other. eqb first other ≡ false) others (IsDistinct-head eqb first others grown.distinct) in
    record {
      others = rising;
      order = refl;
      rising = IsStrictlyIncreasing-from_distinct rising (IsNonDecreasingBy-from_sort (λ x. x) rising sorted)
          (IsDistinct-IsPermutation eqb nat_eq_equiv.symm others rising moved (IsDistinct-tail eqb first others grown.distinct));
      once = All-permutation (λ other. (other ≡ first) → ⊥) others rising moved
          (All-weaker (λ other. eqb first other ≡ false) (λ other. (other ≡ first) → ⊥) (λ other f same. grind (arith, nat_tests)) others apart);
      exact = λ pid. (
        λ here. All-contains (Falls processes tags first) (first ∷ rising) pid falls here,
        λ fell. Contains-permutation (first ∷ others) (first ∷ rising) pid whole
            (complete processes tags first (first ∷ others) (0, omega arith, refl) (closed processes tags (first ∷ others) none) pid fell),
      );
    }
