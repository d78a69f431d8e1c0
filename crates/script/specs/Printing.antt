-- The lines that are printed, each with its line feed, as bytes: 10 is a line feed, 32 a space, 45 a minus, 98 97 100 `bad`, 111 107 `ok`,
-- 105 103 110 111 114 101 100 `ignored`, 114 `r`, 63 a question mark and 42 a star.
use Rattle.std.specs.Prelude.{ℕ, List, [], ◌∷◌, ◌++◌, take, eqb}
use Rattle.lists.specs.Choice.{pick}
use Rattle.text.specs.Printing.{digits_before, decimal, listed}
use Rattle.scram.specs.Answers.{Answered, Done, Ignored, Refused}
use Rattle.frame.specs.Command.{command_values, command_limited}
use Rattle.replica.specs.declared.Replica.{Replica}

-- "A header line comes first": `no who answer k v vb kb x frame command`
unfoldable pub header_line : List ℕ
header_line =
    110 ∷ 111 ∷ 32 ∷ 119 ∷ 104 ∷ 111 ∷ 32 ∷ 97 ∷ 110 ∷ 115 ∷ 119 ∷ 101 ∷ 114 ∷ 32 ∷ 107 ∷ 32 ∷ 118 ∷ 32 ∷ 118 ∷ 98 ∷ 32 ∷ 107 ∷ 98 ∷ 32 ∷ 120 ∷ 32
    ∷ 102 ∷ 114 ∷ 97 ∷ 109 ∷ 101 ∷ 32 ∷ 99 ∷ 111 ∷ 109 ∷ 109 ∷ 97 ∷ 110 ∷ 100 ∷ 10 ∷ []

-- `bad` alone: what the rig prints of a first line that is not of the form
unfoldable pub bad_alone : List ℕ
bad_alone = 98 ∷ 97 ∷ 100 ∷ 10 ∷ []

-- "`r` and the number alone": what the rig prints of settings that are refused
unfoldable pub refusal_line : ℕ → List ℕ
refusal_line number = (114 ∷ decimal number) ++ (10 ∷ [])

-- "the line number, a space and `bad`"
unfoldable pub bad_line : ℕ → List ℕ
bad_line number = decimal number ++ (32 ∷ 98 ∷ 97 ∷ 100 ∷ 10 ∷ [])

-- "answer (`ok`, `ignored`, or `r` and the number, as `r9`)"
unfoldable pub answer_word : Answered → List ℕ
answer_word Done = 111 ∷ 107 ∷ []
answer_word Ignored = 105 ∷ 103 ∷ 110 ∷ 111 ∷ 114 ∷ 101 ∷ 100 ∷ []
answer_word (Refused number) = 114 ∷ decimal number

-- "line, box, answer"
unfoldable pub head_words : ℕ → ℕ → Answered → List ℕ
head_words number who answer = decimal number ++ ((32 ∷ decimal who) ++ (32 ∷ answer_word answer))

-- "period, view, base view, base period", each after a space
unfoldable pub counter_words : Replica → List ℕ
counter_words r =
    (32 ∷ decimal r.held.period) ++ ((32 ∷ decimal r.held.view) ++ ((32 ∷ decimal r.held.base_view) ++ (32 ∷ decimal r.held.base_period)))

-- "state", after a space
unfoldable pub state_word : Replica → List ℕ
state_word r = 32 ∷ listed (take r.settings.law.n r.held.estimate.state)

-- "line number if a frame was sent", after a space; "`-` stands where there is no frame"
unfoldable pub sent_word : ℕ → ℕ → List ℕ
sent_word number size = 32 ∷ pick (eqb size 0) (45 ∷ []) (decimal number)

-- "The bench prints `*` directly behind such a command", whose byte 2 is 1: "once, behind its last value"
unfoldable pub star_word : List ℕ → List ℕ
star_word command = pick (command_limited command) (42 ∷ []) []

-- "command", after a space; "`-` stands where there is no .. command"
unfoldable pub command_word : ℕ → ℕ → List ℕ → List ℕ
command_word p size command = 32 ∷ pick (eqb size 0) (45 ∷ []) (listed (take p (command_values command)) ++ star_word command)

-- the fields up to the state
unfoldable pub first_words : ℕ → ℕ → Answered → Replica → List ℕ
first_words number who answer r = head_words number who answer ++ (counter_words r ++ state_word r)

-- the line of a step: its number, the box, the answer, the replica that comes back, the length of the frame sent, that of the command, and
-- the command area then
unfoldable pub step_line : ℕ → ℕ → Answered → Replica → ℕ → ℕ → List ℕ → List ℕ
step_line number who answer r frame size command =
    first_words number who answer r ++ (sent_word number frame ++ (command_word r.settings.law.p size command ++ (10 ∷ [])))

-- ---- asks

-- "for the frame `?` where one would be sent", after a space
unfoldable pub asked_word : ℕ → List ℕ
asked_word size = 32 ∷ pick (eqb size 0) (45 ∷ []) (63 ∷ [])

-- "then a space and the ticket": a number of 64 bits has at most twenty digits
unfoldable pub ticket_word : ℕ → List ℕ
ticket_word ticket = 32 ∷ digits_before 20 ticket []

-- the line of an ask: its number, the box, the answer, the replica that is shown, the length of the frame that would be sent, that of the command, the
-- command area then, and the ticket
unfoldable pub ask_line : ℕ → ℕ → Answered → Replica → ℕ → ℕ → List ℕ → ℕ → List ℕ
ask_line number who answer r frame size command ticket =
    first_words number who answer r ++ (asked_word frame ++ (command_word r.settings.law.p size command ++ (ticket_word ticket ++ (10 ∷ []))))
