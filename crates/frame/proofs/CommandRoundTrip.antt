-- The laws of reading and writing commands of p values. Assumes nothing.
use mathlib.Core.Path.{◌≡◌, refl, sym, ap, ◌∙◌}
use mathlib.Core.Bool.{Bool, true, false}
use mathlib.Core.List.{List, [], ◌∷◌, ◌++◌}
use Prim.Native.Nat.{ℕ, zero, suc, ◌≤◌}
use native.Mathlib.Omega.{arith}
use lib.ListN.{length, get_or, take, drop, length-append, length-drop, take-append-drop}
use lib.Seq.{take-add}
use lib.IntN.{pos}
use lib.Dec.{eqb}
use Rattle.lists.specs.Choice.{pick}
use Rattle.lists.specs.Places.{filled}
use Rattle.lists.proofs.Places.{filled-same, take-filled}
use Rattle.octets.specs.Words.{AllBytes, little_endian, values_bytes, value_at}
use Rattle.octets.proofs.Numbers.{bytes_drop, first-four, length-little_endian, number-back}
use Rattle.octets.proofs.ValueLists.{length-first, values-back}
use Rattle.estimate.specs.Marks.{bit}
use Rattle.estimate.proofs.EachPart.{values-forth}
use Rattle.frame.specs.Sizes.{commands_ok}
use Rattle.frame.specs.Lengths.{command_start, command_length}
use Rattle.frame.specs.Command.{command_bytes, command_period}
use Rattle.frame.specs.CommandReading.{command_in, read_command_refusal, read_command, TypedCommand, carried_command, ReadAsCommand}
use Rattle.frame.specs.declared.CommandFields.{CommandFields}
use Rattle.frame.proofs.CommandReading.{most-commands, CommandBytes, command-holds, read-command-done, command-read, accepted-command}
use Rattle.frame.proofs.Commands.{period-read}

-- the bytes of a command
abbrev bytes_of : ℕ → CommandFields → List ℕ
bytes_of p c = command_bytes p c.period c.values c.limited

-- ---- the mark and its byte

most-mark : (limited : Bool) → bit limited ≤ 1
unfolding pick
most-mark true = omega arith
most-mark false = omega arith

-- a mark is the mark of its byte
mark-forth : (limited : Bool) → eqb (bit limited) 1 ≡ limited
unfolding pick
mark-forth true = refl
mark-forth false = refl

-- a byte that is 0 or 1 is that of its mark
mark-back : (x : ℕ) → x ≤ 1 → bit (eqb x 1) ≡ x
unfolding pick
mark-back zero h = refl
mark-back (suc zero) h = refl
mark-back (suc (suc x)) h = absurd (omega arith)

-- ---- from a command to its bytes and back

module _ (p : ℕ) (c : CommandFields) (t : TypedCommand c) (ok : commands_ok p ≡ true) where
  p≤ : p ≤ length c.values
  p≤ = omega (arith, most-commands p ok, t.places)

  size : length (bytes_of p c) ≡ command_length p
  unfolding command_bytes
  size = simp (length-append, length-little_endian, length-first p c.values p≤)

  facts : CommandBytes p (bytes_of p c)
  unfolding command_bytes
  facts = record { len = size; five = refl; count = refl; mark-two = most-mark c.limited; zero-three = refl }

  after-period : drop command_start (bytes_of p c) ≡ values_bytes (take p c.values)
  unfolding command_bytes little_endian
  after-period = refl

  marked : eqb (get_or (bytes_of p c) 2 0) 1 ≡ c.limited
  unfolding command_bytes
  marked = mark-forth c.limited

  forth : command_in p (bytes_of p c) ≡ carried_command p c
  unfolding command_in carried_command
  forth =
      let period = period-read p c.period c.values c.limited t.period in
      let values = ap (λ (l : List ℕ). filled (pos 0) 4 p (value_at l)) after-period
      ∙ filled-same (pos 0) 4 p _ _ (λ j l w. values-forth p c.values p≤ t.values j l) in
      λ i. record { period = period i; values = values i; limited = marked i }

-- ---- from bytes to a command and back

module _ (p : ℕ) (b : List ℕ) (h : AllBytes b) (most : p ≤ 4) (f : CommandBytes p b) where
  front : ◌≡◌ {A = List ℕ} (5 ∷ p ∷ bit (eqb (get_or b 2 0) 1) ∷ 0 ∷ []) (take 4 b)
  front =
      (λ i. sym f.five i ∷ sym f.count i ∷ mark-back (get_or b 2 0) f.mark-two i ∷ sym f.zero-three i ∷ [])
      ∙ sym (first-four b (omega (arith, f.len)))

  dated : little_endian 4 (command_period b) ≡ take 4 (drop 4 b)
  unfolding command_period
  dated = number-back b 4 4 h (omega (arith, f.len))

  values : values_bytes (take p (filled (pos 0) 4 p (value_at (drop command_start b)))) ≡ drop command_start b
  values =
      rw (take-filled (pos 0) 4 p (value_at (drop command_start b)) most)
      (values-back p (drop command_start b) (bytes_drop command_start b h) (simp length-drop (omega (arith, f.len))))

  back : bytes_of p (command_in p b) ≡ b
  unfolding command_bytes command_in
  back =
      (λ i. (front i ++ dated i) ++ values i)
      ∙ ap (λ (l : List ℕ). l ++ drop command_start b) (sym (take-add 4 4 b))
      ∙ take-append-drop command_start b

-- ---- the laws

-- (a) Reading the bytes of a command gives that command: all that its bytes carry of it.
pub read-write-command : (p : ℕ) (c : CommandFields) → TypedCommand c → commands_ok p ≡ true → ReadAsCommand p (bytes_of p c) (carried_command p c)
read-write-command p c t ok =
    let d = read-command-done p (bytes_of p c) ok (command-holds p (bytes_of p c) (facts p c t ok)) in
    record { done = d; command = command-read p (bytes_of p c) d ∙ forth p c t ok }

-- (b) Whatever command reading finds, writing it gives the very bytes that were read.
pub write-read-command : (p : ℕ) (b : List ℕ) → AllBytes b → read_command_refusal p b ≡ 0 → bytes_of p (read_command p b) ≡ b
write-read-command p b h e =
    let a = accepted-command p b e in ap (bytes_of p) (command-read p b e) ∙ back p b h a.most a.bytes

-- (c) Bytes that are refused by 8 are no command's bytes.
pub refused-no-command : (p : ℕ) (b : List ℕ) → read_command_refusal p b ≡ 8 → (c : CommandFields) → TypedCommand c → commands_ok p ≡ true
    → bytes_of p c ≡ b → ⊥
refused-no-command p b r c t ok e =
    let z : ◌≡◌ {A = ℕ} 8 0 = sym r ∙ ap (read_command_refusal p) (sym e) ∙ (read-write-command p c t ok).done in omega arith
