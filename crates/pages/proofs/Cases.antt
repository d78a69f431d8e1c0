-- The worked page is computed: which entries stand on it, and its bytes; and it reads back. Assumes nothing.
use mathlib.Core.Path.{◌≡◌, refl}
use Rattle.lists.specs.Choice.{pick}
use Rattle.text.specs.Printing.{digits_before, decimal, signed}
use Rattle.pages.specs.Line.{right, command_columns, hyphen, command_shown, commands_shown, line_text, to_the_end, line_bytes}
use Rattle.pages.specs.Page.{standing, placed, on_page, page_bytes}
use Rattle.octets.specs.Words.{from_twos_complement}
use Rattle.pages.specs.Entries.{first_entries, entries_of, entry_of, command_of}
use Rattle.pages.specs.Cases.{given_entries, given_page}

pub page-computed : page_bytes 1 (on_page given_entries) ≡ given_page
unfolding given_entries entries_of first_entries entry_of command_of from_twos_complement given_page page_bytes on_page placed standing line_bytes to_the_end line_text commands_shown command_shown hyphen command_columns right signed decimal digits_before pick
page-computed = refl
