-- Entries: a period, the view in it, and a command or none. A caller hands them as words of 32 bits.
use Rattle.std.specs.Prelude.{ℕ, zero, suc, ◌/◌, ◌<◌, ◌^◌, ◌≡◌, Bool, ◌&&◌, List, [], ◌∷◌, length, get_or, drop, replicate, Option, None, Some, IfSome, ℤ, pos, eqb, leb}
use Rattle.std.specs.Option.{is_some, option_map, unwrap_or}
use Rattle.lists.specs.Choice.{pick}
use Rattle.lists.specs.Places.{entry, filled}
use Rattle.lists.specs.I32.{AllI32}
use Rattle.octets.specs.Words.{from_twos_complement}
use Rattle.pages.specs.declared.entries.Entry.{Entry}

-- p, the number of commands, is 1 to 4
unfoldable pub commands_ok : ℕ → Bool
commands_ok p = leb 1 p && leb p 4

-- an entry has a command
abbrev pub decided : Entry → Bool
decided e = is_some e.command

-- the four values of an entry's command, 0 where there is none
abbrev pub values_of : Entry → List ℤ
values_of e = unwrap_or e.command (replicate 4 (pos 0))

-- an entry by its parts: what stands in the values of one that is not decided is no command
unfoldable pub entry_by : (period view : ℕ) (decided : Bool) (values : List ℤ) → Entry
entry_by period view decided values = record { period = period; view = view; command = pick decided (Some values) None }

-- an entry takes seven words: period, view, a mark that is 0 where there is no command, and four values in two's complement
unfoldable pub command_of : List ℕ → Option (List ℤ)
command_of words =
    pick (eqb (get_or words 2 0) 0)
    None
    (Some
    (from_twos_complement (get_or words 3 0)
    ∷ from_twos_complement (get_or words 4 0)
    ∷ from_twos_complement (get_or words 5 0)
    ∷ from_twos_complement (get_or words 6 0)
    ∷ []))

unfoldable pub entry_of : List ℕ → Entry
entry_of words =
    record {
      period = get_or words 0 0;
      view = get_or words 1 0;
      command = command_of words;
    }

-- the first n entries in words, the first given first
unfoldable pub first_entries : ℕ → List ℕ → List Entry
first_entries zero words = []
first_entries (suc n) words = entry_of words ∷ first_entries n (drop 7 words)

-- all of them; words that are left over are no entry
unfoldable pub entries_of : List ℕ → List Entry
entries_of words = first_entries (length words / 7) words

-- what the types of an entry's fields say
pub record Typed (e : Entry) : Type 0 where
  pub period : e.period < 2 ^ 32
  pub view : e.view < 2 ^ 32
  pub places : IfSome e.command (λ c. length c ≡ 4)
  pub values : IfSome e.command AllI32

-- the same of each entry given
pub data AllTyped : List Entry → Type 0 where
  none : AllTyped []
  one : {e : Entry} {es : List Entry} → Typed e → AllTyped es → AllTyped (e ∷ es)

-- what a page of p commands shows of an entry: its first p values, and none where there is no command
unfoldable pub shown : ℕ → Entry → Entry
shown p e =
    record { period = e.period; view = e.view; command = option_map (λ c. filled (pos 0) 4 p (entry c)) e.command }

-- a place of a page that is not in use
abbrev pub blank : Entry
blank = record { period = 0; view = 0; command = None }
