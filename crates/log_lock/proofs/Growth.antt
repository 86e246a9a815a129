-- How the log grows past what was seen, and what two passes know together.
use Rattle.std.proofs.Common.{◌≡◌, ℕ, ◌≤◌, Bool, true, false, cond, leb, List, [], ◌++◌, length, get_or, sym, ap, refl, ◌∙◌, subst, ⊎_elim, arith}
use Rattle.std.proofs.lemmas.List.{append-nil, append_assoc}
use Rattle.std.proofs.lemmas.List.Elements.{All-append, All-weaker, All-nil, Contains-append_cases, Contains-append_left, Contains-append_right}
use Rattle.log_lock.proofs.Lists.{cut_twice, all_right, all_left}
use Rattle.log_lock.specs.Knowledge.{longer}
use Rattle.std.specs.List.{All, Contains}
use Rattle.std.proofs.lemmas.Bool.{leb-true, leb-false}

-- `ExtendsByOthers` of what a pass with these numbers has seen
abbrev pub Grown : {I : Type 0} → (I → ℕ) → List ℕ → List I → List I → Type 0
Grown {I} maker numbers seen log = (more : List I) × (log ≡ seen ++ more) × All (λ e. ¬ Contains numbers (maker e)) more

module _ {I : Type 0} (maker : I → ℕ) where
  neither : (ns ms : List ℕ) (log : List I) → All (λ e. ¬ Contains ns (maker e)) log → All (λ e. ¬ Contains ms (maker e)) log → All (λ e. ¬ Contains (ns ++ ms) (maker e)) log
  neither ns ms log a b k d lt h = ⊎_elim (a k d lt) (b k d lt) (Contains-append_cases ns ms (maker (get_or log k d)) h)

  pub extends_self : (ns : List ℕ) (seen : List I) → Grown maker ns seen seen
  extends_self ns seen = ([], sym (append-nil seen), All-nil (λ e. ¬ Contains ns (maker e)))

  -- the shorter of two beginnings of the log begins the longer
  extends_shorter : (ns ms : List ℕ) (seen saw log : List I) → length saw ≤ length seen → Grown maker ns seen log → Grown maker ms saw log
      → Grown maker ms saw seen × Grown maker (ns ++ ms) seen log
  extends_shorter ns ms seen saw log le a b =
      let cut = cut_twice saw b.0 seen a.0 (sym b.1 ∙ a.1) le in
      let more = subst (All (λ e. ¬ Contains ms (maker e))) cut.2 b.2 in (
        (cut.0, cut.1, all_left (λ e. ¬ Contains ms (maker e)) cut.0 a.0 more),
        (a.0, a.1, neither ns ms a.0 a.2 (all_right (λ e. ¬ Contains ms (maker e)) cut.0 a.0 more)),
      )

  swapped : (ns ms : List ℕ) (log : List I) → All (λ e. ¬ Contains (ms ++ ns) (maker e)) log → All (λ e. ¬ Contains (ns ++ ms) (maker e)) log
  swapped ns ms log a k d lt h = ⊎_elim (λ t. a k d lt (Contains-append_right ms ns (maker (get_or log k d)) t)) (λ t. a k d lt (Contains-append_left ms ns (maker (get_or log k d)) t)) (Contains-append_cases ns ms (maker (get_or log k d)) h)

  pub extends_both : (ns ms : List ℕ) (seen saw log : List I) → Grown maker ns seen log → Grown maker ms saw log
      → Grown maker ns seen (longer seen saw) × Grown maker ms saw (longer seen saw) × Grown maker (ns ++ ms) (longer seen saw) log
  extends_both ns ms seen saw log a b = go (leb (length saw) (length seen)) refl
    where
      go : (d : Bool) → leb (length saw) (length seen) ≡ d
          → Grown maker ns seen (cond d seen saw) × Grown maker ms saw (cond d seen saw) × Grown maker (ns ++ ms) (cond d seen saw) log
      go true e = let r = extends_shorter ns ms seen saw log (leb-true (length saw) (length seen) e) a b in (extends_self ns seen, r.0, r.1)
      go false e =
          let far = leb-false (length saw) (length seen) e in
          let r = extends_shorter ms ns saw seen log (omega (arith, far)) b a in
          (r.0, extends_self ms saw, (r.1.0, r.1.1, swapped ns ms r.1.0 r.1.2))

module _ {I : Type 0} (maker : I → ℕ) where
  -- what a pass has seen stays a beginning, of which it knows its own entries, over further joins
  pub extends_trans : (ns ms : List ℕ) (a b c : List I) → Grown maker ns a b → Grown maker (ns ++ ms) b c → Grown maker ns a c
  extends_trans ns ms a b c h k = (
    h.0 ++ k.0,
    k.1 ∙ (ap (λ (z : List I). z ++ k.0) h.1 ∙ append_assoc a h.0 k.0),
    All-append (λ e. ¬ Contains ns (maker e)) h.0 k.0 h.2
        (All-weaker (λ e. ¬ Contains (ns ++ ms) (maker e)) (λ e. ¬ Contains ns (maker e)) (λ e not t. not (Contains-append_left ns ms (maker e) t)) k.0 k.2),
  )
