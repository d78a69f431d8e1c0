-- How long the lines are that are printed. Assumes nothing.
use mathlib.Core.Path.{◌≡◌}
use mathlib.Core.List.{List, [], ◌∷◌, ◌++◌}
use Prim.Native.Nat.{ℕ, zero, suc, ◌+◌, ◌/◌, ◌%◌, ◌≤◌}
use native.Mathlib.Omega.{arith}
use lib.Dec.{eqb, ltb}
use lib.IntN.{ℤ, pos}
use lib.ListN.{length, take, length-append}
use Rattle.lists.proofs.Places.{filled-length}
use Rattle.scram.specs.Answers.{Answered, Done, Ignored, Refused}
use Rattle.frame.specs.Command.{command_values, command_limited}
use Rattle.replica.specs.declared.Replica.{Replica}
use Rattle.text.specs.Printing.{digits_before, decimal, listed}
use Rattle.text.proofs.PrintingLengths.{pick-length, decimal-length, listed-length}
use Rattle.script.specs.Play.{line_room, state_room}
use Rattle.script.specs.Printing.{refusal_line, bad_line, answer_word, head_words, counter_words, state_word, first_words, sent_word, star_word, command_word, step_line, asked_word, ticket_word, ask_line}

take-length-le : (n : ℕ) (values : List ℤ) → length (take n values) ≤ length values
take-length-le zero values = omega arith
take-length-le (suc n) [] = omega arith
take-length-le (suc n) (z ∷ zs) = let h = take-length-le n zs in omega arith

answer-length : (answer : Answered) → length (answer_word answer) ≤ 11
unfolding answer_word
answer-length Done = omega arith
answer-length Ignored = omega arith
answer-length (Refused number) = omega (arith, decimal-length number)

head-length : (number who : ℕ) (answer : Answered) → length (head_words number who answer) ≤ 33
unfolding head_words
head-length number who answer =
    omega (
      arith,
      length-append (decimal number) ((32 ∷ decimal who) ++ (32 ∷ answer_word answer)),
      length-append (decimal who) (32 ∷ answer_word answer),
      decimal-length number,
      decimal-length who,
      answer-length answer,
    )

counters-length : (r : Replica) → length (counter_words r) ≤ 44
unfolding counter_words
counters-length r =
    omega (
      arith,
      length-append (decimal r.held.period) ((32 ∷ decimal r.held.view) ++ ((32 ∷ decimal r.held.base_view) ++ (32 ∷ decimal
          r.held.base_period))),
      length-append (decimal r.held.view) ((32 ∷ decimal r.held.base_view) ++ (32 ∷ decimal r.held.base_period)),
      length-append (decimal r.held.base_view) (32 ∷ decimal r.held.base_period),
      decimal-length r.held.period,
      decimal-length r.held.view,
      decimal-length r.held.base_view,
      decimal-length r.held.base_period,
    )

pub state-length : (r : Replica) → length r.held.estimate.state ≡ 6 → length (state_word r) ≤ state_room
unfolding state_word
state-length r e = omega (arith, listed-length (take r.settings.law.n r.held.estimate.state), take-length-le r.settings.law.n r.held.estimate.state)

sent-length : (number size : ℕ) → length (sent_word number size) ≤ 11
unfolding sent_word
sent-length number size = let h = pick-length (eqb size 0) (45 ∷ []) (decimal number) 10 (omega arith) (decimal-length number) in omega arith

values_length : (command : List ℕ) → length (command_values command) ≡ 4
unfolding command_values
values_length command = filled-length (pos 0) 4 _ _

star-length : (command : List ℕ) → length (star_word command) ≤ 1
unfolding star_word
star-length command = pick-length (command_limited command) (42 ∷ []) [] 1 (omega arith) (omega arith)

command-length : (p size : ℕ) (command : List ℕ) → length (command_word p size command) ≤ 50
unfolding command_word
command-length p size command =
    let values = take p (command_values command) in
    let l : length (listed values ++ star_word command) ≤ 49 =
    omega (
      arith,
      length-append (listed values) (star_word command),
      listed-length values,
      take-length-le p (command_values command),
      values_length command,
      star-length command,
    ) in
    let h = pick-length (eqb size 0) (45 ∷ []) (listed values ++ star_word command) 49 (omega arith) l in omega arith

pub bad-length : (number : ℕ) → length (bad_line number) ≤ line_room
unfolding bad_line
bad-length number = omega (arith, length-append (decimal number) (32 ∷ 98 ∷ 97 ∷ 100 ∷ 10 ∷ []), decimal-length number)

pub refusal-length : (number : ℕ) → length (refusal_line number) ≤ line_room
unfolding refusal_line
refusal-length number = omega (arith, length-append (decimal number) (10 ∷ []), decimal-length number)

asked-length : (size : ℕ) → length (asked_word size) ≤ 2
unfolding asked_word
asked-length size = let h = pick-length (eqb size 0) (45 ∷ []) (63 ∷ []) 1 (omega arith) (omega arith) in omega arith

digits-length : (k n : ℕ) (tail : List ℕ) → length (digits_before k n tail) ≤ k + length tail
unfolding digits_before
digits-length zero n tail = omega arith
digits-length (suc k) n tail =
    pick-length (ltb n 10) _ _ _ (omega arith) (let h = digits-length k (n / 10) ((48 + n % 10) ∷ tail) in omega arith)

ticket-length : (ticket : ℕ) → length (ticket_word ticket) ≤ 21
unfolding ticket_word
ticket-length ticket = omega (arith, digits-length 20 ticket [])

first-length : (number who : ℕ) (answer : Answered) (r : Replica) → length (state_word r) ≤ state_room → length (first_words number who answer r) ≤ 150
unfolding first_words
first-length number who answer r e =
    omega (
      arith,
      length-append (head_words number who answer) (counter_words r ++ state_word r),
      length-append (counter_words r) (state_word r),
      head-length number who answer,
      counters-length r,
    )

three : (a b c : List ℕ) → length (a ++ (b ++ (c ++ (10 ∷ [])))) ≡ length a + length b + length c + 1
three a b c = simp length-append (omega arith)

four : (a b c d : List ℕ) → length (a ++ (b ++ (c ++ (d ++ (10 ∷ []))))) ≡ length a + length b + length c + length d + 1
four a b c d = simp length-append (omega arith)

pub line-length : (number who : ℕ) (answer : Answered) (r : Replica) (frame size : ℕ) (command : List ℕ) → length (state_word r) ≤ state_room
    → length (step_line number who answer r frame size command) ≤ line_room
unfolding step_line
line-length number who answer r frame size command e =
    omega (
      arith,
      three (first_words number who answer r) (sent_word number frame) (command_word r.settings.law.p size command),
      first-length number who answer r e,
      sent-length number frame,
      command-length r.settings.law.p size command,
    )

pub ask-length : (number who : ℕ) (answer : Answered) (r : Replica) (frame size : ℕ) (command : List ℕ) (ticket : ℕ) → length (state_word r) ≤ state_room
    → length (ask_line number who answer r frame size command ticket) ≤ line_room
unfolding ask_line
ask-length number who answer r frame size command ticket e =
    omega (
      arith,
      four (first_words number who answer r) (asked_word frame) (command_word r.settings.law.p size command) (ticket_word ticket),
      first-length number who answer r e,
      asked-length frame,
      command-length r.settings.law.p size command,
      ticket-length ticket,
    )
