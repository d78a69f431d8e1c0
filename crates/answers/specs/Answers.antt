-- Which answers there are, and which of them each call can give: the numbers of the table "Where each refusal is made", place by place.
use Rattle.std.specs.Prelude.{ℕ, ◌≤◌, ◌≢◌, List, [], ◌∷◌, ◌++◌, map, eqb}
use Rattle.lists.specs.Choice.{pick}
use Rattle.scram.specs.Answers.{Answered, Done, Ignored, Refused}
use Rattle.scram.specs.History.{In}

-- ---- the table: the numbers of each place

-- the place "settings": 1 is the group's, 2 to 4 are the law's, and 18 of document 02 is for the quorum numbers
abbrev pub settings : List ℕ
settings = 1 ∷ 2 ∷ 3 ∷ 4 ∷ 18 ∷ []

-- the place "lent areas"
abbrev pub areas : List ℕ
areas = 5 ∷ []

-- the place "tick"
abbrev pub tick : List ℕ
tick = 6 ∷ 7 ∷ []

-- the place "frame"
abbrev pub frame : List ℕ
frame = 8 ∷ 9 ∷ 10 ∷ 11 ∷ []

-- the place "raising"
abbrev pub raising : List ℕ
raising = 12 ∷ []

-- the place of document 02's 15: a record
abbrev pub records : List ℕ
records = 15 ∷ []

-- the place of document 02's 16: missed periods
abbrev pub missed : List ℕ
missed = 16 ∷ []

-- the place of document 02's 17: a commit
abbrev pub commit : List ℕ
commit = 17 ∷ []

-- ---- what each call can answer: nothing that is not in its list

-- "Making settings refuses without a replica."
abbrev pub making : List Answered
making = Done ∷ map Refused settings

-- "In view-change mode the view is then raised." No tick is ignored.
abbrev pub ticking : List Answered
ticking = Done ∷ map Refused (settings ++ areas ++ tick ++ raising)

-- "a give-up by a normal coordinator" is ignored, and so are "give-ups in period 0 or in a decided period"
abbrev pub giving_up : List Answered
giving_up = Done ∷ Ignored ∷ map Refused (settings ++ areas ++ raising)

-- "Frame refusals are found before any ground for ignoring"; no frame that arrives raises the view
abbrev pub arriving : List Answered
arriving = Done ∷ Ignored ∷ map Refused (settings ++ areas ++ frame)

-- "The law's own calls refuse settings by 2 to 4 and refuse nothing else."
abbrev pub using_law : List Answered
using_law = Done ∷ map Refused (2 ∷ 3 ∷ 4 ∷ [])

-- "Reading or writing a frame as a call of its own needs only n and m: it refuses by 2 for those, .. and both by 8"; reading a command is refused by
-- the same numbers
abbrev pub reading : List Answered
reading = Done ∷ map Refused (2 ∷ 8 ∷ [])

-- "writing by 5 for its area"
abbrev pub writing : List Answered
writing = Done ∷ map Refused (2 ∷ 5 ∷ 8 ∷ [])

-- writing a command: 2 for p, 5 for its area
abbrev pub writing_command : List Answered
writing_command = Done ∷ map Refused (2 ∷ 5 ∷ [])

-- writing a shift page, of document 02: 2 for p, 13 for its area, 14 for more than 60 distinct periods
abbrev pub writing_page : List Answered
writing_page = Done ∷ map Refused (2 ∷ 13 ∷ 14 ∷ [])

-- reading it back: 2 for p, 14 for a page that no writing gives
abbrev pub reading_page : List Answered
reading_page = Done ∷ map Refused (2 ∷ 14 ∷ [])

-- recording a replica, of document 02: its settings, then "5 also for a record area too short"
abbrev pub recording : List Answered
recording = Done ∷ map Refused (settings ++ areas)

-- reading a record
abbrev pub reading_record : List Answered
reading_record = Done ∷ map Refused records

-- staying up over missed periods, of a replica at hand
abbrev pub staying_up : List Answered
staying_up = Done ∷ map Refused missed

-- "on return, in order: 15 .. 16"
abbrev pub returning : List Answered
returning = Done ∷ map Refused (records ++ missed)

-- ---- asking first, of document 02: an ask is lent one area more, which 5 looks at too

-- "an ask after the largest is ignored before any check": so an asked tick may be ignored
abbrev pub asking_tick : List Answered
asking_tick = Done ∷ Ignored ∷ map Refused (settings ++ areas ++ tick ++ raising)

-- an asked give-up answers what a give-up can
abbrev pub asking_give_up : List Answered
asking_give_up = giving_up

-- and a frame asked for what one that arrives can
abbrev pub asking_arrive : List Answered
asking_arrive = arriving

-- "at commit: 17"
abbrev pub committing : List Answered
committing = Done ∷ map Refused commit

-- ---- the calls of C programs, where "a replica is its record; one that 15 would refuse gets 15 before the lent areas"

-- making writes a record: the settings, then the area for it
abbrev pub making_record : List Answered
making_record = Done ∷ map Refused (settings ++ areas)

-- a step of a record is refused by none of 1 to 4: a record with such settings gets 15
abbrev pub ticking_record : List Answered
ticking_record = Done ∷ map Refused (records ++ areas ++ tick ++ raising)

-- a view given up, in the same way
abbrev pub giving_up_record : List Answered
giving_up_record = Done ∷ Ignored ∷ map Refused (records ++ areas ++ raising)

-- and bytes that arrive
abbrev pub arriving_record : List Answered
arriving_record = Done ∷ Ignored ∷ map Refused (records ++ areas ++ frame)

-- recording: a record is handed in, and an area is lent
abbrev pub recording_record : List Answered
recording_record = Done ∷ map Refused (records ++ areas)

-- returning: 16 looks at the record, after the area
abbrev pub returning_record : List Answered
returning_record = Done ∷ map Refused (records ++ areas ++ missed)

-- ---- and where a replica lies with its tickets in one area, which 15 looks at before all else

-- tickets for a record: the record, then the area
abbrev pub adding_tickets : List Answered
adding_tickets = Done ∷ map Refused (records ++ areas)

-- an asked tick
abbrev pub asking_tick_area : List Answered
asking_tick_area = Done ∷ Ignored ∷ map Refused (records ++ areas ++ tick ++ raising)

-- a commit
abbrev pub committing_area : List Answered
committing_area = Done ∷ map Refused (records ++ commit)

-- ---- the claim about one call

-- a number as an answer: 0 is "what was called for", another number is that refusal
abbrev pub numbered : ℕ → Answered
numbered number = pick (eqb number 0) Done (Refused number)

-- the number of a step for C, as winder's `number_of` gives it: 256 is "an event ignored"
abbrev pub numbered_step : ℕ → Answered
numbered_step number = pick (eqb number 256) Ignored (numbered number)

-- "what was called for, an event ignored, or one of the numbered refusals"; the table has the numbers 1 to 12, which document 02's 13 to 18 join
abbrev pub Listed : Answered → Type 0
Listed Done = Unit {0}
Listed Ignored = Unit {0}
Listed (Refused number) = (1 ≤ number) × (number ≤ 18)

-- "Every call, with all inputs, answers: what was called for, an event ignored, or one of the numbered refusals. Ignored or refused, the replica and
-- each lent area hold what they held." `possible` are the answers of this call, and `Kept` says what holds what it held
pub record Answers (possible : List Answered) (answer : Answered) (Kept : Type 0) : Type 0 where
  pub listed : Listed answer
  pub among : In answer possible
  pub kept : answer ≢ Done → Kept
