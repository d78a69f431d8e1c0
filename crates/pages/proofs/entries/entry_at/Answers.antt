-- `entries::entry_at` meets its contract. Assumes nothing.
use Rattle.pages.proofs.WordLaws.{entry-words}
use Rattle.pages.proofs.entries.entry_at.Goals as goal

pub returns : goal.returns
returns c = entry-words c.args.words.now c.args.at _ c.command_at.ensures
