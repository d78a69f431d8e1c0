-- DEMAND 1: "Every call, with all inputs, answers: what was called for, an event ignored, or one of the numbered refusals. Ignored or refused, the
-- replica and each lent area hold what they held." It is stated of every result that keeps the call's contract, in the contract's own words. No call
-- has a `requires`, so each call with each input has such a result. A name with ' is an area after the call; areas that are lent to be read alone are
-- not named, since nothing can write them. A call that refuses nothing and ignores nothing, as winder_convert_single, has no answer to speak of.
use Rattle.std.specs.Prelude.{ℕ, ◌≡◌, Bool, List, length, ℤ, Result, IfOk, IsErr}
use Rattle.refusal.specs.declared.Refusal.{Refusal}
use Rattle.refusal.specs.Numbers.{number_of as refusal_number}
use Rattle.readings.specs.declared.Readings.{Readings}
use Rattle.transmitters.specs.declared.Reading.{Reading}
use Rattle.transmitters.specs.Conversion.{converted_row}
use Rattle.transmitters.specs.Numbers.{readings_of as readings_by_kind}
use Rattle.scram.specs.Answers.{Answered, answered, answered_of}
use Rattle.law.specs.declared.Settings as Law
use Rattle.law.specs.declared.Updated.{Updated}
use Rattle.law.specs.declared.Marked.{Marked}
use Rattle.law.specs.Settings.{refusal, settings_of}
use Rattle.law.specs.Law.{updated, update_limited, commanded, command_limited}
use Rattle.octets.specs.Areas.{over}
use Rattle.estimate.specs.Marks.{bit}
use Rattle.frame.specs.declared.Frame.{Frame}
use Rattle.frame.specs.declared.CommandFields.{CommandFields}
use Rattle.frame.specs.Reading.{read_refusal, read_frame}
use Rattle.frame.specs.Writing.{write_refusal, written}
use Rattle.frame.specs.Command.{command_refusal, command_written}
use Rattle.frame.specs.CommandReading.{read_command_refusal, read_command}
use Rattle.pages.specs.declared.entries.Entry.{Entry}
use Rattle.pages.specs.declared.lines.Page.{Page}
use Rattle.pages.specs.Entries.{entries_of}
use Rattle.pages.specs.Writing.{write_refusal as page_refusal, written as page_written}
use Rattle.pages.specs.Reading.{read_refusal as read_page_refusal, read_entries, page_of}
use Rattle.winder.specs.Areas.{unless_refused}
use Rattle.winder.specs.PageAreas.{length_after as page_length_after}
use Rattle.winder.specs.LawAreas.{readings_of, update_mark_after, commands_after, command_mark_after}
use Rattle.winder.specs.FrameAreas.{frame_of, kind_and_sender_of, counters_of, marks_of, length_after}
use Rattle.winder.specs.Answers.{number_of}
use Rattle.winder.specs.ReplicaAreas.{settings_of as replica_settings_of, step_at, Steps, recording_refusal, returning_refusal}
use Rattle.winder.specs.ReplicaAreas.{recording as recording_at, returning as returning_at}
use Rattle.replica.specs.Settings.{blank_settings}
use Rattle.replica.specs.declared.Settings.{Settings}
use Rattle.replica.specs.declared.Replica.{Replica}
use Rattle.replica.specs.declared.Stepped.{Stepped}
use Rattle.replica.specs.Calls.{Outcomes, Gives, tick_outcome, give_up_outcome, arrive_outcome, fresh_of, made_answer, made}
use Rattle.records.specs.Recording.{record_answer, recorded}
use Rattle.records.specs.Reading.{read_answer, read_replica}
use Rattle.records.specs.Returning.{stay_answer, stayed, return_answer, returned}
use Rattle.ticketed.specs.Calls.{tickets_refusal, with_tickets, ask_at, committing_refusal, committing as committing_at, step_at as ticketed_at}
use Rattle.winder.specs.TicketAreas.{Asks as AreaAsks, Steps as AreaSteps}
use Rattle.asks.specs.declared.Ticketed.{Ticketed}
use Rattle.asks.specs.declared.Asked.{Asked}
use Rattle.asks.specs.declared.Stepped.{Stepped as TicketedStep}
use Rattle.asks.specs.Asking.{ask_outcome, Asks, Steps as AskSteps, commit_answer, committed}
use Rattle.answers.specs.Answers.{Answers, numbered, numbered_step}
use Rattle.answers.specs.Answers.{making, ticking, giving_up, arriving, using_law, reading, writing, writing_command, writing_page, reading_page}
use Rattle.answers.specs.Answers.{recording, reading_record, staying_up, returning}
use Rattle.answers.specs.Answers.{asking_tick, asking_give_up, asking_arrive, committing, adding_tickets, asking_tick_area, committing_area}
use Rattle.answers.specs.Answers.{making_record, ticking_record, giving_up_record, arriving_record, recording_record, returning_record}
use Rattle.answers.specs.Kept.{StepKept, NoReplica, RecordStepKept, AskKept, TicketedKept, AskAreaKept, WriteKept, FrameAreas, CommandAreas, WriteAreas}

-- ---- the replica's calls

-- making: "Making settings refuses without a replica"
abbrev pub MakeAnswers : Settings → Type 0
MakeAnswers s =
    (r : Result Replica Refusal) → answered_of r ≡ made_answer s → IfOk r (λ replica. replica ≡ made s)
    → Answers making (answered_of r) (IsErr r)

-- a step with the outcome o: frame and command are the areas lent
abbrev pub StepAnswers : List Answered → Replica → Outcomes → (frame command : List ℕ) → Type 0
StepAnswers possible given o frame command =
    (r : Stepped) (frame' command' : List ℕ) → Gives given.settings o r frame frame' command command'
    → Answers possible (answered r.answer) (StepKept given r frame frame' command command')

-- ---- the law's calls, of settings or of tables that are settings

-- looking at settings: nothing is lent, and nothing but the answer comes back
abbrev pub CheckAnswers : Law.Settings → Type 0
CheckAnswers s = (r : Result (Unit {0}) Refusal) → refusal_number r ≡ refusal s → Answers using_law (numbered (refusal_number r)) (Unit {0})

-- an update: refused, there is neither state nor mark
abbrev pub UpdateAnswers : Law.Settings → List ℤ → Readings → Type 0
UpdateAnswers s x y =
    (r : Result Updated Refusal) → refusal_number r ≡ refusal s → IfOk r (λ u. u.state ≡ updated s x y)
    → IfOk r (λ u. u.limited ≡ update_limited s x y)
    → Answers using_law (numbered (refusal_number r)) (IsErr r)

-- the commands of a state: refused, there are neither commands nor a mark
abbrev pub CommandAnswers : Law.Settings → List ℤ → Type 0
CommandAnswers s x =
    (r : Result Marked Refusal) → refusal_number r ≡ refusal s → IfOk r (λ marked. marked.commands ≡ commanded s x)
    → IfOk r (λ marked. marked.limited ≡ command_limited s x)
    → Answers using_law (numbered (refusal_number r)) (IsErr r)

-- ---- the frames' calls

-- reading: refused, there is no frame
abbrev pub ReadAnswers : (n m : ℕ) → List ℕ → Type 0
ReadAnswers n m bytes =
    (r : Result Frame Refusal) → refusal_number r ≡ read_refusal n m bytes → IfOk r (λ frame. frame ≡ read_frame n m bytes)
    → Answers reading (numbered (refusal_number r)) (IsErr r)

-- reading a command: refused, there is none
abbrev pub ReadCommandAnswers : (p : ℕ) → List ℕ → Type 0
ReadCommandAnswers p bytes =
    (r : Result CommandFields Refusal) → refusal_number r ≡ read_command_refusal p bytes → IfOk r (λ command. command ≡ read_command p bytes)
    → Answers reading (numbered (refusal_number r)) (IsErr r)

-- writing a frame, a command or a shift page: `refused` is its number, or 0, and `bytes` is what it writes
abbrev pub WriteAnswers : List Answered → (refused : ℕ) (bytes area : List ℕ) → Type 0
WriteAnswers possible refused bytes area =
    (r : Result ℕ Refusal) (area' : List ℕ) → refusal_number r ≡ refused → IfOk r (λ size. size ≡ length bytes) → area' ≡ over bytes area
    → Answers possible (numbered (refusal_number r)) (WriteKept r area area')

-- ---- the shift page's calls

-- writing: `entries` are those in the caller's words
abbrev pub WritePageAnswers : (p : ℕ) → List Entry → (area : List ℕ) → Type 0
WritePageAnswers p entries area = WriteAnswers writing_page (page_refusal p entries area) (page_written p entries area) area

-- reading it back: refused, there is no page
abbrev pub ReadPageAnswers : (p : ℕ) → List ℕ → Type 0
ReadPageAnswers p bytes =
    (r : Result Page Refusal) → refusal_number r ≡ read_page_refusal p bytes → IfOk r (λ page. page ≡ page_of (read_entries p bytes))
    → Answers reading_page (numbered (refusal_number r)) (IsErr r)

-- ---- the record's calls

-- recording the replica `given`
abbrev pub RecordAnswers : Replica → (area : List ℕ) → Type 0
RecordAnswers given area =
    (r : Result (Unit {0}) Refusal) (area' : List ℕ) → answered_of r ≡ record_answer given.settings (length area)
    → area' ≡ over (recorded given (length area)) area
    → Answers recording (answered_of r) (area' ≡ area)

-- reading a record: refused, there is no replica
abbrev pub ReadRecordAnswers : List ℕ → Type 0
ReadRecordAnswers bytes =
    (r : Result Replica Refusal) → answered_of r ≡ read_answer bytes → IfOk r (λ replica. replica ≡ read_replica bytes)
    → Answers reading_record (answered_of r) (IsErr r)

-- staying up: refused, there is no replica but the one handed in, which the caller has still
abbrev pub StayAnswers : (missed : ℕ) → Replica → Type 0
StayAnswers missed given =
    (r : Result Replica Refusal) → answered_of r ≡ stay_answer missed given → IfOk r (λ up. up ≡ stayed missed given)
    → Answers staying_up (answered_of r) (IsErr r)

-- returning from a record: refused, there is no replica
abbrev pub ReturnAnswers : (missed : ℕ) → List ℕ → Type 0
ReturnAnswers missed bytes =
    (r : Result Replica Refusal) → answered_of r ≡ return_answer missed bytes → IfOk r (λ up. up ≡ returned missed bytes)
    → Answers returning (answered_of r) (IsErr r)

-- ---- the calls of a replica with tickets

-- an ask whose event has the outcome o: area, frame and command are the areas lent
abbrev pub AskAnswers : List Answered → Ticketed → Outcomes → (area frame command : List ℕ) → Type 0
AskAnswers possible given o area frame command =
    (r : Asked) (area' frame' command' : List ℕ) → Asks given (ask_outcome given (length area) o) r area area' frame frame' command command'
    → Answers possible (answered r.answer) (AskKept given r area area' frame frame' command command')

-- a commit: refused, there is no replica with tickets but the one handed in, which the caller has still
abbrev pub CommitAnswers : Ticketed → (ticket : ℕ) → Type 0
CommitAnswers given ticket =
    (r : Result Ticketed Refusal) → answered_of r ≡ commit_answer given ticket → IfOk r (λ ticketed. ticketed ≡ committed given ticket)
    → Answers committing (answered_of r) (IsErr r)

-- a step that was not asked, with the outcome o
abbrev pub TicketedAnswers : List Answered → Ticketed → Outcomes → (frame command : List ℕ) → Type 0
TicketedAnswers possible given o frame command =
    (r : TicketedStep) (frame' command' : List ℕ) → AskSteps given o r frame frame' command command'
    → Answers possible (answered r.answer) (TicketedKept given r frame frame' command command')

-- ---- the calls of C programs: they answer by the number alone

-- winder_update
abbrev pub UpdateAreaAnswers : Law.Settings → (present : List ℕ) (values state : List ℤ) (limited : ℕ) → Type 0
UpdateAreaAnswers s present values state limited =
    (r : ℕ) (state' : List ℤ) (limited' : ℕ) → r ≡ refusal s → state' ≡ updated s state (readings_of present values)
    → limited' ≡ update_mark_after s state (readings_of present values) limited
    → Answers using_law (numbered r) ((state' ≡ state) × (limited' ≡ limited))

-- winder_command
abbrev pub CommandAreaAnswers : Law.Settings → (state commands : List ℤ) (limited : ℕ) → Type 0
CommandAreaAnswers s state commands limited =
    (r : ℕ) (commands' : List ℤ) (limited' : ℕ) → r ≡ refusal s → commands' ≡ commands_after s state commands
    → limited' ≡ command_mark_after s state limited
    → Answers using_law (numbered r) ((commands' ≡ commands) × (limited' ≡ limited))

-- winder_read_frame
abbrev pub ReadAreaAnswers : (n m : ℕ) → List ℕ → FrameAreas → Type 0
ReadAreaAnswers n m bytes areas =
    (r : ℕ) (areas' : FrameAreas) → r ≡ read_refusal n m bytes
    → areas'.kind_and_sender ≡ unless_refused (read_refusal n m bytes) (kind_and_sender_of (read_frame n m bytes)) areas.kind_and_sender
    → areas'.counters ≡ unless_refused (read_refusal n m bytes) (counters_of (read_frame n m bytes)) areas.counters
    → areas'.state ≡ unless_refused (read_refusal n m bytes) (read_frame n m bytes).estimate.state areas.state
    → areas'.present ≡ unless_refused (read_refusal n m bytes) (marks_of (read_frame n m bytes).estimate.readings) areas.present
    → areas'.values ≡ unless_refused (read_refusal n m bytes) (read_frame n m bytes).estimate.readings.values areas.values
    → Answers reading (numbered r) (areas' ≡ areas)

-- winder_read_command
abbrev pub ReadCommandAreaAnswers : (p : ℕ) → List ℕ → CommandAreas → Type 0
ReadCommandAreaAnswers p bytes areas =
    (r : ℕ) (areas' : CommandAreas) → r ≡ read_command_refusal p bytes
    → areas'.period ≡ unless_refused (read_command_refusal p bytes) (read_command p bytes).period areas.period
    → areas'.commands ≡ unless_refused (read_command_refusal p bytes) (read_command p bytes).values areas.commands
    → areas'.limited ≡ unless_refused (read_command_refusal p bytes) (bit (read_command p bytes).limited) areas.limited
    → Answers reading (numbered r) (areas' ≡ areas)

-- winder_write_frame, of the frame f in the areas that the caller lends to read
abbrev pub WriteAreaAnswers : (n m : ℕ) → Frame → WriteAreas → Type 0
WriteAreaAnswers n m f areas =
    (r : ℕ) (areas' : WriteAreas) → r ≡ write_refusal n m f areas.area
    → areas'.area ≡ over (written n m f areas.area) areas.area
    → areas'.length ≡ length_after n m f areas.area areas.length
    → Answers writing (numbered r) (areas' ≡ areas)

-- winder_write_page, of the entries in the words that the caller lends to read
abbrev pub WritePageAreaAnswers : (p : ℕ) → List Entry → WriteAreas → Type 0
WritePageAreaAnswers p entries areas =
    (r : ℕ) (areas' : WriteAreas) → r ≡ page_refusal p entries areas.area
    → areas'.area ≡ over (page_written p entries areas.area) areas.area
    → areas'.length ≡ page_length_after p entries areas.area areas.length
    → Answers writing_page (numbered r) (areas' ≡ areas)

-- winder_make, of the settings in the areas that the caller lends to read
abbrev pub MakeAreaAnswers : Settings → (replica : List ℕ) → Type 0
MakeAreaAnswers s replica =
    (r : ℕ) (replica' : List ℕ) → r ≡ number_of (record_answer s (length replica))
    → replica' ≡ over (recorded (fresh_of s) (length replica)) replica
    → Answers making_record (numbered r) (replica' ≡ replica)

-- winder_tick, winder_give_up and winder_arrive, with the outcome o: replica is the record, frame and command are the areas lent, and lengths are the
-- two numbers that the call writes in any case
abbrev pub StepAreaAnswers : List Answered → (replica : List ℕ) → Outcomes → (frame command : List ℕ) → Type 0
StepAreaAnswers possible replica o frame command =
    (r : ℕ) (replica' lengths frame' command' : List ℕ) → Steps replica o r replica' lengths frame frame' command command'
    → Answers possible (numbered_step r) (RecordStepKept replica replica' lengths frame frame' command command')

-- winder_record
abbrev pub RecordAreaAnswers : (replica area : List ℕ) → Type 0
RecordAreaAnswers replica area =
    (r : ℕ) (area' : List ℕ) → r ≡ recording_refusal replica (length area) → area' ≡ over (recording_at replica (length area)) area
    → Answers recording_record (numbered r) (area' ≡ area)

-- winder_return
abbrev pub ReturnAreaAnswers : (missed : ℕ) (stored replica : List ℕ) → Type 0
ReturnAreaAnswers missed stored replica =
    (r : ℕ) (replica' : List ℕ) → r ≡ returning_refusal missed stored (length replica)
    → replica' ≡ over (returning_at missed stored (length replica)) replica
    → Answers returning_record (numbered r) (replica' ≡ replica)

-- winder_tickets
abbrev pub TicketsAreaAnswers : (replica area : List ℕ) → Type 0
TicketsAreaAnswers replica area =
    (r : ℕ) (area' : List ℕ) → r ≡ tickets_refusal replica (length area) → area' ≡ over (with_tickets replica (length area)) area
    → Answers adding_tickets (numbered r) (area' ≡ area)

-- winder_ask_tick, winder_ask_give_up and winder_ask_arrive, with the outcome o: area is for the record, and lengths and ticket are written in any case
abbrev pub AskAreaAnswers : List Answered → (replica : List ℕ) → Outcomes → (area frame command : List ℕ) → Type 0
AskAreaAnswers possible replica o area frame command =
    (r : ℕ) (replica' lengths ticket area' frame' command' : List ℕ)
    → AreaAsks replica o r replica' lengths ticket area area' frame frame' command command'
    → Answers possible (numbered_step r) (AskAreaKept replica replica' lengths area area' frame frame' command command')

-- winder_commit
abbrev pub CommitAreaAnswers : (replica : List ℕ) (ticket : ℕ) → Type 0
CommitAreaAnswers replica ticket =
    (r : ℕ) (replica' : List ℕ) → r ≡ committing_refusal replica ticket → replica' ≡ committing_at replica ticket
    → Answers committing_area (numbered r) (replica' ≡ replica)

-- winder_ticketed_tick, winder_ticketed_give_up and winder_ticketed_arrive
abbrev pub TicketedAreaAnswers : List Answered → (replica : List ℕ) → Outcomes → (frame command : List ℕ) → Type 0
TicketedAreaAnswers possible replica o frame command =
    (r : ℕ) (replica' lengths frame' command' : List ℕ) → AreaSteps replica o r replica' lengths frame frame' command command'
    → Answers possible (numbered_step r) (RecordStepKept replica replica' lengths frame frame' command command')

-- ---- demand 1: every call, with all inputs

pub record DemandOne : Type 0 where
  -- crate replica
  pub make : (s : Settings) → MakeAnswers s
  -- the replica of no settings, which `blank` gives without refusing anything, is none to step
  pub blank : NoReplica (fresh_of blank_settings)
  pub tick : (given : Replica) (y : List Reading) (frame command : List ℕ)
      → StepAnswers ticking given (tick_outcome given (converted_row y) (length frame) (length command)) frame command
  pub give-up : (given : Replica) (frame command : List ℕ)
      → StepAnswers giving_up given (give_up_outcome given (length frame) (length command)) frame command
  pub arrive : (given : Replica) (bytes frame command : List ℕ)
      → StepAnswers arriving given (arrive_outcome given bytes (length frame) (length command)) frame command
  -- crate law, on settings
  pub check : (s : Law.Settings) → CheckAnswers s
  pub update : (s : Law.Settings) (x : List ℤ) (y : Readings) → UpdateAnswers s x y
  pub command : (s : Law.Settings) (x : List ℤ) → CommandAnswers s x
  -- crate law, on tables
  pub tables-check : (n m p : ℕ) (a l c k low high : List ℤ) → CheckAnswers (settings_of n m p a l c k low high)
  pub tables-update : (n m p : ℕ) (a l c k low high x : List ℤ) (y : Readings) → UpdateAnswers (settings_of n m p a l c k low high) x y
  pub tables-command : (n m p : ℕ) (a l c k low high x : List ℤ) → CommandAnswers (settings_of n m p a l c k low high) x
  -- crate frame
  pub read : (n m : ℕ) (bytes : List ℕ) → ReadAnswers n m bytes
  pub write : (n m : ℕ) (f : Frame) (area : List ℕ) → WriteAnswers writing (write_refusal n m f area) (written n m f area) area
  pub write-command : (p period : ℕ) (values : List ℤ) (limited : Bool) (area : List ℕ)
      → WriteAnswers writing_command (command_refusal p area) (command_written p period values limited area) area
  pub read-command : (p : ℕ) (bytes : List ℕ) → ReadCommandAnswers p bytes
  -- crate pages
  pub write-page : (p : ℕ) (words area : List ℕ) → WritePageAnswers p (entries_of words) area
  pub read-page : (p : ℕ) (bytes : List ℕ) → ReadPageAnswers p bytes
  -- crate records
  pub record-replica : (given : Replica) (area : List ℕ) → RecordAnswers given area
  pub read-record : (bytes : List ℕ) → ReadRecordAnswers bytes
  pub stay-up : (given : Replica) (missed : ℕ) → StayAnswers missed given
  pub return_from : (bytes : List ℕ) (missed : ℕ) → ReturnAnswers missed bytes
  -- crate asks
  pub ask-tick : (given : Ticketed) (y : List Reading) (area frame command : List ℕ)
      → AskAnswers asking_tick given (tick_outcome given.replica (converted_row y) (length frame) (length command)) area frame command
  pub ask-give-up : (given : Ticketed) (area frame command : List ℕ)
      → AskAnswers asking_give_up given (give_up_outcome given.replica (length frame) (length command)) area frame command
  pub ask-arrive : (given : Ticketed) (bytes area frame command : List ℕ)
      → AskAnswers asking_arrive given (arrive_outcome given.replica bytes (length frame) (length command)) area frame command
  pub commit : (given : Ticketed) (ticket : ℕ) → CommitAnswers given ticket
  pub ticketed-tick : (given : Ticketed) (y : List Reading) (frame command : List ℕ)
      → TicketedAnswers ticking given (tick_outcome given.replica (converted_row y) (length frame) (length command)) frame command
  pub ticketed-give-up : (given : Ticketed) (frame command : List ℕ)
      → TicketedAnswers giving_up given (give_up_outcome given.replica (length frame) (length command)) frame command
  pub ticketed-arrive : (given : Ticketed) (bytes frame command : List ℕ)
      → TicketedAnswers arriving given (arrive_outcome given.replica bytes (length frame) (length command)) frame command
  -- crate winder
  pub winder-update : (n m p : ℕ) (a l c k low high : List ℤ) (present : List ℕ) (values state : List ℤ) (limited : ℕ)
      → UpdateAreaAnswers (settings_of n m p a l c k low high) present values state limited
  pub winder-command : (n m p : ℕ) (a l c k low high state commands : List ℤ) (limited : ℕ)
      → CommandAreaAnswers (settings_of n m p a l c k low high) state commands limited
  pub winder-read-frame : (n m : ℕ) (bytes : List ℕ) (areas : FrameAreas) → ReadAreaAnswers n m bytes areas
  pub winder-read-command : (p : ℕ) (bytes : List ℕ) (areas : CommandAreas) → ReadCommandAreaAnswers p bytes areas
  pub winder-write-frame : (n m : ℕ) (kind_and_sender counters : List ℕ) (state : List ℤ) (present : List ℕ) (values : List ℤ) (areas : WriteAreas)
      → WriteAreaAnswers n m (frame_of kind_and_sender counters state present values) areas
  pub winder-write-page : (p : ℕ) (entries : List ℕ) (areas : WriteAreas) → WritePageAreaAnswers p (entries_of entries) areas
  pub winder-make : (n m p : ℕ) (a l c k low high start : List ℤ) (boxes own to_decide to_propose : ℕ) (replica : List ℕ)
      → MakeAreaAnswers (replica_settings_of n m p a l c k low high start boxes own to_decide to_propose) replica
  pub winder-tick : (replica kinds bits frame command : List ℕ)
      → let y = converted_row (readings_by_kind kinds bits) in
      StepAreaAnswers ticking_record replica (step_at replica (λ x. tick_outcome x y (length frame) (length command))) frame command
  pub winder-give-up : (replica frame command : List ℕ)
      → StepAreaAnswers giving_up_record replica (step_at replica (λ x. give_up_outcome x (length frame) (length command))) frame command
  pub winder-arrive : (replica bytes frame command : List ℕ)
      → StepAreaAnswers arriving_record replica (step_at replica (λ x. arrive_outcome x bytes (length frame) (length command))) frame command
  pub winder-record : (replica area : List ℕ) → RecordAreaAnswers replica area
  pub winder-return : (stored : List ℕ) (missed : ℕ) (replica : List ℕ) → ReturnAreaAnswers missed stored replica
  pub winder-tickets : (replica area : List ℕ) → TicketsAreaAnswers replica area
  pub winder-ask-tick : (replica kinds bits area frame command : List ℕ)
      → let y = converted_row (readings_by_kind kinds bits) in
      AskAreaAnswers asking_tick_area replica (ask_at replica (length area) (λ x. tick_outcome x y (length frame) (length command))) area frame command
  pub winder-ask-give-up : (replica area frame command : List ℕ)
      → AskAreaAnswers giving_up_record replica (ask_at replica (length area) (λ x. give_up_outcome x (length frame) (length command))) area frame command
  pub winder-ask-arrive : (replica bytes area frame command : List ℕ)
      → AskAreaAnswers arriving_record replica (ask_at replica (length area) (λ x. arrive_outcome x bytes (length frame) (length command))) area frame command
  pub winder-commit : (replica : List ℕ) (ticket : ℕ) → CommitAreaAnswers replica ticket
  pub winder-ticketed-tick : (replica kinds bits frame command : List ℕ)
      → let y = converted_row (readings_by_kind kinds bits) in
      TicketedAreaAnswers ticking_record replica (ticketed_at replica (λ x. tick_outcome x y (length frame) (length command))) frame command
  pub winder-ticketed-give-up : (replica frame command : List ℕ)
      → TicketedAreaAnswers giving_up_record replica (ticketed_at replica (λ x. give_up_outcome x (length frame) (length command))) frame command
  pub winder-ticketed-arrive : (replica bytes frame command : List ℕ)
      → TicketedAreaAnswers arriving_record replica (ticketed_at replica (λ x. arrive_outcome x bytes (length frame) (length command))) frame command
