-- Demand 1 holds of every call. Assumes nothing.
use Rattle.transmitters.specs.Conversion.{converted_row}
use Rattle.transmitters.specs.Numbers.{readings_of}
use Rattle.law.specs.Settings.{settings_of}
use Rattle.pages.specs.Entries.{entries_of}
use Rattle.winder.specs.FrameAreas.{frame_of}
use Rattle.winder.specs.ReplicaAreas.{settings_of as replica_settings_of}
use Rattle.answers.specs.Demand1.{DemandOne}
use Rattle.answers.proofs.Replica.{no-replica, make-answers, tick-call, give-up-call, arrive-call}
use Rattle.answers.proofs.Law.{check-answers, update-answers, commanded-answers, update-area-answers, command-area-answers}
use Rattle.answers.proofs.Frames.{read-answers, read-area-answers, read-command-answers, read-command-area-answers}
use Rattle.answers.proofs.Frames.{write-answers, write-area-answers, write-command-answers}
use Rattle.answers.proofs.Pages.{write-page-answers, read-page-answers, write-page-area-answers}
use Rattle.answers.proofs.Records.{record-answers, read-record-answers, stay-answers, return-answers}
use Rattle.answers.proofs.Asks.{ask-tick-call, ask-give-up-call, ask-arrive-call, commit-call}
use Rattle.answers.proofs.Asks.{ticketed-tick-call, ticketed-give-up-call, ticketed-arrive-call}
use Rattle.answers.proofs.RecordAreas.{make-area-answers, tick-area-answers, give-up-area-answers, arrive-area-answers}
use Rattle.answers.proofs.RecordAreas.{record-area-answers, return-area-answers}
use Rattle.answers.proofs.TicketAreas.{tickets-area-answers, ask-tick-area-answers, ask-give-up-area-answers, ask-arrive-area-answers}
use Rattle.answers.proofs.TicketAreas.{commit-area-answers, ticketed-tick-area-answers, ticketed-give-up-area-answers, ticketed-arrive-area-answers}

-- demand 1
pub demand-1 : DemandOne
demand-1 = record {
  make = make-answers;
  blank = no-replica;
  tick = λ given y frame command. tick-call given frame command (converted_row y);
  give-up = give-up-call;
  arrive = λ given bytes frame command. arrive-call given frame command bytes;
  check = check-answers;
  update = update-answers;
  command = commanded-answers;
  tables-check = λ n m p a l c k low high. check-answers (settings_of n m p a l c k low high);
  tables-update = λ n m p a l c k low high. update-answers (settings_of n m p a l c k low high);
  tables-command = λ n m p a l c k low high. commanded-answers (settings_of n m p a l c k low high);
  read = read-answers;
  write = write-answers;
  write-command = write-command-answers;
  read-command = read-command-answers;
  write-page = λ p words. write-page-answers p (entries_of words);
  read-page = read-page-answers;
  record-replica = record-answers;
  read-record = read-record-answers;
  stay-up = λ given missed. stay-answers missed given;
  return_from = λ bytes missed. return-answers missed bytes;
  ask-tick = λ given y area frame command. ask-tick-call given area frame command (converted_row y);
  ask-give-up = ask-give-up-call;
  ask-arrive = λ given bytes area frame command. ask-arrive-call given area frame command bytes;
  commit = commit-call;
  ticketed-tick = λ given y frame command. ticketed-tick-call given frame command (converted_row y);
  ticketed-give-up = ticketed-give-up-call;
  ticketed-arrive = λ given bytes frame command. ticketed-arrive-call given frame command bytes;
  winder-update = λ n m p a l c k low high. update-area-answers (settings_of n m p a l c k low high);
  winder-command = λ n m p a l c k low high. command-area-answers (settings_of n m p a l c k low high);
  winder-read-frame = read-area-answers;
  winder-read-command = read-command-area-answers;
  winder-write-frame = λ n m kind_and_sender counters state present values. write-area-answers n m (frame_of kind_and_sender counters state present values);
  winder-write-page = λ p entries. write-page-area-answers p (entries_of entries);
  winder-make = λ n m p a l c k low high start boxes own to_decide to_propose. make-area-answers (replica_settings_of n m p a l c k low high start boxes own to_decide to_propose);
  winder-tick = λ replica kinds bits frame command. tick-area-answers replica frame command (converted_row (readings_of kinds bits));
  winder-give-up = give-up-area-answers;
  winder-arrive = λ replica bytes frame command. arrive-area-answers replica frame command bytes;
  winder-record = record-area-answers;
  winder-return = λ stored missed. return-area-answers missed stored;
  winder-tickets = tickets-area-answers;
  winder-ask-tick = λ replica kinds bits area frame command. ask-tick-area-answers replica area frame command (converted_row (readings_of kinds bits));
  winder-ask-give-up = ask-give-up-area-answers;
  winder-ask-arrive = λ replica bytes area frame command. ask-arrive-area-answers replica area frame command bytes;
  winder-commit = commit-area-answers;
  winder-ticketed-tick = λ replica kinds bits frame command. ticketed-tick-area-answers replica frame command (converted_row (readings_of kinds bits));
  winder-ticketed-give-up = ticketed-give-up-area-answers;
  winder-ticketed-arrive = λ replica bytes frame command. ticketed-arrive-area-answers replica frame command bytes;
}
