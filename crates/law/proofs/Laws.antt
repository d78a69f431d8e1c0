-- Laws of `updated`, `commanded` and `issued`, and of their marks, for callers, who need not open the definitions. Assumes nothing.
use Rattle.std.proofs.Common.{◌≡◌, refl, sym, ap, ◌∙◌, Bool, false, ◌&&◌, ◌||◌, List, ℕ, ◌≤◌, length, replicate, ℤ, pos, w32, FitsSigned}
use Rattle.std.proofs.Math.Path.{ap₂}
use Rattle.std.proofs.Math.Dec.{lit<}
use Rattle.std.proofs.lemmas.Bool.{eqb-true, eq-eqb, ne_eqb}
use Rattle.lists.specs.I32.{AllI32}
use Rattle.lists.specs.Below.{any_below}
use Rattle.lists.specs.Places.{entry, filled}
use Rattle.lists.proofs.Below.{any_same}
use Rattle.lists.proofs.Choice.{pick-holds, pick_true, pick-false, pick_same}
use Rattle.lists.proofs.Places.{filled-length, filled-beyond, filled-each}
use Rattle.readings.specs.declared.Readings.{Readings}
use Rattle.readings.specs.Readings.{normalised}
use Rattle.law.specs.declared.Settings.{Settings}
use Rattle.law.specs.Settings.{A, L, C, K, lower, upper, refusal, stands}
use Rattle.law.specs.Law.{e, e_changed, next, next_changed, command, command_changed, updated, update_limited, commanded, command_limited, issued}
use Rattle.law.proofs.Integers.{clamp-fits}
use Rattle.law.proofs.Accepted.{Sizes, accepted}
use Rattle.law.proofs.Formulas.{next-same, next-changed-same, e-normalised, e-changed-normalised}

-- settings that are not refused have 1 ≤ n ≤ 6, 1 ≤ m ≤ 4 and 1 ≤ p ≤ 4
pub sizes-accepted : (s : Settings) → refusal s ≡ 0 → Sizes s.n s.m s.p
sizes-accepted s h = (accepted s h).sizes

zero-fits : FitsSigned w32 (pos 0)
zero-fits = record { sfits = lit< tt }

module _ (s : Settings) (x : List ℤ) (y : Readings) where
  pub updated-accepted : refusal s ≡ 0 → filled (pos 0) 6 s.n (next (A s) (L s) s.n s.m x (e (C s) s.n x y)) ≡ updated s x y
  unfolding updated
  updated-accepted h = sym (pick_true (stands s) _ x (eq-eqb (refusal s) 0 h))

  -- refused settings leave the state as it was
  pub updated-refused : (refusal s ≡ 0 → ⊥) → x ≡ updated s x y
  unfolding updated
  updated-refused h = sym (pick-false (stands s) _ x (ne_eqb (refusal s) 0 h))

  pub updated-length : length x ≡ 6 → length (updated s x y) ≡ 6
  unfolding updated
  updated-length h = pick-holds (λ (v : List ℤ). length v ≡ 6) (stands s) _ x (λ _. filled-length (pos 0) 6 s.n _) (λ _. h)

  pub updated-fits : AllI32 x → AllI32 (updated s x y)
  unfolding updated next
  updated-fits h = pick-holds AllI32 (stands s) _ x (λ _. filled-each (pos 0) (FitsSigned w32) 6 s.n _ zero-fits (λ i. clamp-fits _)) (λ _. h)

  -- the places beyond n hold 0
  pub updated-beyond : refusal s ≡ 0 → (i : ℕ) → s.n ≤ i → entry (updated s x y) i ≡ pos 0
  updated-beyond h i l = ap (λ (v : List ℤ). entry v i) (sym (updated-accepted h)) ∙ filled-beyond (pos 0) 6 s.n i _ l

  -- readings are looked at as `normalised` has them: marks below m, 0 where absent
  pub updated-normalised : updated s x (normalised s.m y) ≡ updated s x y
  unfolding updated
  updated-normalised =
      pick_same (stands s) _ _ x
      (λ t. ap (λ (f : ℕ → ℤ). filled (pos 0) 6 s.n f)
      (next-same _ _ s.n s.m x x _ _ (λ _ _. refl)
      (e-normalised (C s) s.n s.m x y (sizes-accepted s (eqb-true (refusal s) 0 t)).m4)))

module _ (s : Settings) (x : List ℤ) where
  pub commanded-accepted : refusal s ≡ 0 → filled (pos 0) 4 s.p (command (K s) (lower s) (upper s) s.n x) ≡ commanded s x
  unfolding commanded
  commanded-accepted h = sym (pick_true (stands s) _ (replicate 4 (pos 0)) (eq-eqb (refusal s) 0 h))

  -- refused settings give 0 in each place
  pub commanded-refused : (refusal s ≡ 0 → ⊥) → replicate 4 (pos 0) ≡ commanded s x
  unfolding commanded
  commanded-refused h = sym (pick-false (stands s) _ (replicate 4 (pos 0)) (ne_eqb (refusal s) 0 h))

-- ---- marks

module _ (s : Settings) (x : List ℤ) (y : Readings) where
  pub update-limited-accepted : refusal s ≡ 0
      → (any_below s.m (e_changed (C s) s.n x y) || any_below s.n (next_changed (A s) (L s) s.n s.m x (e (C s) s.n x y))) ≡ update_limited s x y
  unfolding update_limited
  update-limited-accepted h = rw (eq-eqb (refusal s) 0 h)

  -- refused settings change nothing
  pub update-limited-refused : (refusal s ≡ 0 → ⊥) → false ≡ update_limited s x y
  unfolding update_limited
  update-limited-refused h = rw (ne_eqb (refusal s) 0 h)

  -- readings are looked at as `normalised` has them: what stands under an absent mark changes nothing
  pub update-limited-normalised : refusal s ≡ 0 → update_limited s x (normalised s.m y) ≡ update_limited s x y
  unfolding update_limited
  update-limited-normalised h =
      let small = (sizes-accepted s h).m4 in
      ap₂ (λ (a b : Bool). stands s && (a || b))
      (any_same s.m _ _ (e-changed-normalised (C s) s.n s.m x y small))
      (ap (any_below s.n) (next-changed-same (A s) (L s) s.n s.m x _ _ (e-normalised (C s) s.n s.m x y small)))

module _ (s : Settings) (x : List ℤ) where
  pub command-limited-accepted : refusal s ≡ 0 → any_below s.p (command_changed (K s) (lower s) (upper s) s.n x) ≡ command_limited s x
  unfolding command_limited
  command-limited-accepted h = rw (eq-eqb (refusal s) 0 h)

  -- refused settings change nothing
  pub command-limited-refused : (refusal s ≡ 0 → ⊥) → false ≡ command_limited s x
  unfolding command_limited
  command-limited-refused h = rw (ne_eqb (refusal s) 0 h)

-- ---- what a decision issues

module _ (s : Settings) (x : List ℤ) (y : Readings) where
  -- the commands of the state after the period, and the marks of that update and of those commands
  pub issued-commanded : record { commands = commanded s (updated s x y); limited = update_limited s x y || command_limited s (updated s x y) } ≡ issued s x y
  unfolding issued
  issued-commanded = refl
