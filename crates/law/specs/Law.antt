-- The law, formula by formula. x is a state, y a row of readings; A, L, C and K are tables by row and column.
use Rattle.std.specs.Prelude.{ℕ, Bool, ◌&&◌, ◌||◌, List, replicate, ℤ, pos, ◌+ℤ◌, ◌-ℤ◌, ◌*ℤ◌}
use Rattle.readings.specs.declared.Readings.{Readings}
use Rattle.lists.specs.Choice.{pick}
use Rattle.lists.specs.Below.{any_below}
use Rattle.lists.specs.Places.{entry, filled}
use Rattle.readings.specs.Readings.{present, value}
use Rattle.law.specs.declared.Settings.{Settings}
use Rattle.law.specs.declared.Marked.{Marked}
use Rattle.law.specs.Fixed.{divided, sum, limited, clamp, limits_change, clamp_changes}
use Rattle.law.specs.Settings.{A, L, C, K, lower, upper, stands}

-- ---- "what the gains alone would give": each value before it is clamped or brought into limits

-- "y(j) − (sum over i of C(j,i) × x(i)) / 65536"; `value` is "A value given under an absent mark is read as 0."
abbrev pub e_by_gains : (C : ℕ → ℕ → ℤ) (n : ℕ) (x : List ℤ) (y : Readings) (j : ℕ) → ℤ
e_by_gains C n x y j = value y j -ℤ divided (sum n (λ i. C j i *ℤ entry x i))

-- "(sum of A(i,j) × x(j) + sum of L(i,j) × e(j)) / 65536 .. one division for both sums."
-- "A already carries the effect of the command", so no command stands here
abbrev pub next_by_gains : (A L : ℕ → ℕ → ℤ) (n m : ℕ) (x : List ℤ) (e : ℕ → ℤ) (i : ℕ) → ℤ
next_by_gains A L n m x e i = divided (sum n (λ j. A i j *ℤ entry x j) +ℤ sum m (λ j. L i j *ℤ e j))

-- "(sum of K(j,i) × x(i)) / 65536"
abbrev pub command_by_gains : (K : ℕ → ℕ → ℤ) (n : ℕ) (x : List ℤ) (j : ℕ) → ℤ
command_by_gains K n x j = divided (sum n (λ i. K j i *ℤ entry x i))

-- ---- the formulas

-- "For a present reading j: e(j) = clamp(y(j) − (sum over i of C(j,i) × x(i)) / 65536). For an absent one e(j) = 0."
unfoldable pub e : (C : ℕ → ℕ → ℤ) (n : ℕ) (x : List ℤ) (y : Readings) (j : ℕ) → ℤ
e C n x y j = pick (present y j) (clamp (e_by_gains C n x y j)) (pos 0)

-- "Update: x'(i) = clamp((sum of A(i,j) × x(j) + sum of L(i,j) × e(j)) / 65536)"
unfoldable pub next : (A L : ℕ → ℕ → ℤ) (n m : ℕ) (x : List ℤ) (e : ℕ → ℤ) (i : ℕ) → ℤ
next A L n m x e i = clamp (next_by_gains A L n m x e i)

-- "Command j: (sum of K(j,i) × x(i)) / 65536, brought into its own limits."
unfoldable pub command : (K : ℕ → ℕ → ℤ) (lower upper : ℕ → ℤ) (n : ℕ) (x : List ℤ) (j : ℕ) → ℤ
command K lower upper n x j = limited (lower j) (upper j) (command_by_gains K n x j)

-- ---- whether clamping or limits changed a value

-- of "e(j) of a present reading": an absent one's 0 is not clamped
unfoldable pub e_changed : (C : ℕ → ℕ → ℤ) (n : ℕ) (x : List ℤ) (y : Readings) (j : ℕ) → Bool
e_changed C n x y j = present y j && clamp_changes (e_by_gains C n x y j)

-- of x'(i)
unfoldable pub next_changed : (A L : ℕ → ℕ → ℤ) (n m : ℕ) (x : List ℤ) (e : ℕ → ℤ) (i : ℕ) → Bool
next_changed A L n m x e i = clamp_changes (next_by_gains A L n m x e i)

-- of command j
unfoldable pub command_changed : (K : ℕ → ℕ → ℤ) (lower upper : ℕ → ℤ) (n : ℕ) (x : List ℤ) (j : ℕ) → Bool
command_changed K lower upper n x j = limits_change (lower j) (upper j) (command_by_gains K n x j)

-- ---- under settings

-- the state after a period; "Places .. beyond n .. are not looked at" and come back as 0. Refused settings leave the state as it was
unfoldable pub updated : Settings → List ℤ → Readings → List ℤ
updated s x y = pick (stands s) (filled (pos 0) 6 s.n (next (A s) (L s) s.n s.m x (e (C s) s.n x y))) x

-- "The law says with each update .. whether clamping .. changed any value": an e(j) or an x'(i). Refused settings change none
unfoldable pub update_limited : Settings → List ℤ → Readings → Bool
update_limited s x y =
    stands s
    && (any_below s.m (e_changed (C s) s.n x y)
    || any_below s.n (next_changed (A s) (L s) s.n s.m x (e (C s) s.n x y)))

-- the commands of a state, and 0 in the places beyond p. Refused settings give 0 in each place
unfoldable pub commanded : Settings → List ℤ → List ℤ
commanded s x = pick (stands s) (filled (pos 0) 4 s.p (command (K s) (lower s) (upper s) s.n x)) (replicate 4 (pos 0))

-- ".. and each command whether .. limits changed any value"
unfoldable pub command_limited : Settings → List ℤ → Bool
command_limited s x = stands s && any_below s.p (command_changed (K s) (lower s) (upper s) s.n x)

-- "A box that decides issues the command of Update(estimate's state, estimate's readings)": x and y are the estimate's. It is marked "if that occurred in the
-- update or the command it comes from"
unfoldable pub issued : Settings → List ℤ → Readings → Marked
issued s x y = record {
  commands = commanded s (updated s x y);
  limited = update_limited s x y || command_limited s (updated s x y);
}
